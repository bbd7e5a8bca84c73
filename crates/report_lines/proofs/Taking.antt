-- What a reader of lines takes of its source, over plain lists.
use Rattle.std.proofs.Common.{◌≡◌, ◌≢◌, ℕ, ◌+◌, ◌-◌, ◌<◌, ◌≤◌, List, [], ◌++◌, length, take, drop, Option, Some, None, refl, sym, ap, subst, ◌∙◌, arith, append_assoc, append-nil, length-append, take-append-drop}
use Rattle.std.proofs.lemmas.List.{length-take-le}
use Rattle.std.proofs.Math.Seq.{take-add}
use Rattle.blk_io.specs.Outside.{SourceSeen, IsRead, GivesBytes}
use Rattle.report_lines.specs.Filling.{Ahead, IsTaken, IsAtEnd, Fills}

taken_by_read : (n : ℕ) (before after : Option (List ℕ)) (buffer : List ℕ) → IsRead n before after buffer → IsTaken (take n buffer) before after
taken_by_read n None after buffer h = h
taken_by_read n (Some bytes) after buffer h =
    (drop n bytes, sym (take-append-drop n bytes) ∙ ap (λ l. l ++ drop n bytes) (sym h.1), h.2)

-- spare bytes begin with those ahead; a source gave so many more after them, and there they are cut off
pub takes_more : (a : Ahead) (s t : SourceSeen) (kept n : ℕ) (ahead old spare cut : List ℕ) → ahead ≡ a.bytes → kept ≡ length ahead → take (length ahead) old ≡ ahead → take kept spare ≡ take kept old
    → GivesBytes n (drop kept spare) s t → n ≢ 0 → n ≤ a.room → cut ≡ take (kept + n) spare → Fills a (record { bytes = drop 0 cut; room = a.room - n }) s t × (a.room - n < a.room)
takes_more a s t kept n ahead old spare cut whole long begun same given some enough is =
    let buffer = drop kept spare in
    let got : length (take n buffer) ≡ n = length-take-le n buffer given.fits in
    let before : take kept spare ≡ a.bytes = same ∙ ap (λ k. take k old) long ∙ begun ∙ whole in (
      record {
        got = take n buffer;
        ahead = is ∙ take-add kept n spare ∙ ap (λ l. l ++ take n buffer) before;
        taken = taken_by_read n s.left t.left buffer given.read;
        room = omega (arith, got);
        faults = given.faults;
      },
      omega arith,
    )

end_by_read : (before after : Option (List ℕ)) (buffer : List ℕ) → 0 < length buffer → IsRead 0 before after buffer → IsTaken [] before after × IsAtEnd after
end_by_read None after buffer room h = (h, subst IsAtEnd (sym h) tt)
end_by_read (Some bytes) after buffer room h =
    let none : bytes ≡ [] = h.3 refl room in
    ((bytes, refl, h.2), subst IsAtEnd (sym h.2) none)

pub takes_none : (a : Ahead) (s t : SourceSeen) (buffer : List ℕ) → 0 < length buffer → GivesBytes 0 buffer s t → Fills a a s t × (a ≡ a) × IsAtEnd t.left
takes_none a s t buffer room given =
    let e = end_by_read s.left t.left buffer room given.read in
    (record { got = []; ahead = sym (append-nil a.bytes); taken = e.0; room = omega arith; faults = given.faults }, refl, e.1)

taken_on : (f g : List ℕ) (r s t : Option (List ℕ)) → IsTaken f r s → IsTaken g s t → IsTaken (f ++ g) r t
taken_on f g None s t x y = subst (λ o. IsTaken g o t) x y
taken_on f g (Some bytes) s t x y =
    let z = subst (λ o. IsTaken g o t) x.2 y in
    (z.0, x.1 ∙ ap (λ l. f ++ l) z.1 ∙ sym (append_assoc f g z.0), z.2)

pub fills_on : (a b c : Ahead) (r s t : SourceSeen) → Fills a b r s → Fills b c s t → Fills a c r t
fills_on a b c r s t f g = record {
  got = f.got ++ g.got;
  ahead = g.ahead ∙ ap (λ l. l ++ g.got) f.ahead ∙ append_assoc a.bytes f.got g.got;
  taken = taken_on f.got g.got r.left s.left t.left f.taken g.taken;
  room = omega (arith, f.room, g.room, length-append f.got g.got);
  faults = g.faults ∙ f.faults;
}
