-- What a map and an unmap make of the live mappings and those in hands.
use Rattle.std.proofs.Common.{◌≡◌, ℕ, ◌+◌, ◌≤◌, ◌==◌, not, Bool, true, false, cond, List, [], ◌∷◌, ◌++◌, refl, ap, sym, ◌∙◌, arith, ◌≢◌}
use Rattle.std.specs.Prelude.{All, Option, Some, None, IsSomeAnd, count_by}
use Rattle.std.specs.List.{position_or_len}
use Rattle.std.proofs.lemmas.List.Folds.{find_at}
use Rattle.std.proofs.lemmas.Option.{none-some, same_Some}
use Rattle.std.proofs.lemmas.List.Sums.{sum_by-cons, sum_by-append, sum_by_push}
use Rattle.std.proofs.lemmas.List.Elements.{All-push, All-filter}
use Rattle.std.proofs.lemmas.Bool.Decides.{nat_tests}
use Rattle.blk_base.specs.declared.parts.Mapping.{Mapping}
use Rattle.grant_table.specs.declared.held.Held.{Held}
use Rattle.grant_table.specs.Table.{GrantTable, IsLive, held_of, without, frame_of, frame_in, mappings_of}
use Rattle.grant_table.specs.Sound.{IsAscending}
use Rattle.back_jobs.specs.Hands.{HasOneMore}
use Rattle.split_model.specs.Safe.{AreHeld}
use Rattle.machine_pipeline.proofs.Holds.{AreMapped}
use Rattle.machine_pipeline.proofs.Lists.{all_at}

-- one more is counted where it passes
count_more : {X : Type 0} (test : X → Bool) (m : X) (before after : List X) → count_by test (before ++ m ∷ after) ≡ count_by test (before ++ after) + cond (test m) 1 0
count_more {X} test m before after =
    let all = sum_by-append (λ (x : X). cond (test x) 1 0) before (m ∷ after) in
    omega (arith, sum_by-cons (λ (x : X). cond (test x) 1 0) m after, sum_by-append (λ (x : X). cond (test x) 1 0) before after)

pub hands_more : (test : Mapping → Bool) (m : Mapping) (fewer more : List Mapping) → HasOneMore m fewer more → count_by test more ≡ count_by test fewer + cond (test m) 1 0
hands_more test m fewer more is = rw (is.without, is.with_it) (count_more test m is.front is.rest)

-- a mapping of another reference is none of this one's
pub mapped_beside : (live : List Held) (h : Held) (gref : ℕ) → h.mapping.gref ≢ gref → mappings_of gref (live ++ h ∷ []) ≡ mappings_of gref live
mapped_beside live h gref apart =
    let none : ◌≡◌ {A = ℕ} (cond (h.mapping.gref == gref) 1 0) 0 = grind (arith, nat_tests) in
    omega (arith, (sum_by_push (λ (x : Held). cond (x.mapping.gref == gref) 1 0) live h), none)

pub mapped_more : (live : List Held) (hands hands' : List Mapping) (m : Mapping) (frame : ℕ) → m.gref ≡ frame + 6 → HasOneMore m hands hands' → AreMapped live hands → AreMapped (live ++ record { mapping = m; frame = frame } ∷ []) hands'
mapped_more live hands hands' m frame e more h = record {
  counted = λ test.
      let before = h.counted test in
      let all = sum_by-append (λ (x : Held). cond (test x.mapping) 1 0) live (record { mapping = m; frame = frame } ∷ []) in
      omega (arith, sum_by-cons (λ (x : Held). cond (test x.mapping) 1 0) (record { mapping = m; frame = frame }) [], hands_more test m hands hands' more);
  framed = All-push (λ (x : Held). x.mapping.gref ≡ x.frame + 6) live (record { mapping = m; frame = frame }) h.framed e;
}

-- a number above all is that of none
without_low : (number low : ℕ) (live : List Held) → IsAscending low live → number ≤ low → without number live ≡ live
without_low number low [] up le = refl
without_low number low (x ∷ live) up le =
    let first = up.0 in
    let other : not (x.mapping.number == number) ≡ true = grind (arith, nat_tests) in
    rw other (ap (λ (xs : List Held). x ∷ xs) (without_low number x.mapping.number live up.1 (omega arith)))

-- the live mapping of a number is counted once
count_less : (test : Held → Bool) (number low : ℕ) (live : List Held) (x : Held) → IsAscending low live → held_of number live ≡ Some x → count_by test live ≡ count_by test (without number live) + cond (test x) 1 0
count_less test number low [] x up e = absurd (none-some x e)
count_less test number low (y ∷ live) x up e =
    by_test (y.mapping.number == number) refl (sum_by-cons (λ (z : Held). cond (test z) 1 0) y live) (λ found. count_less test number y.mapping.number live x up.1 found)
  where
    by_test : (b : Bool) → (y.mapping.number == number) ≡ b → count_by test (y ∷ live) ≡ cond (test y) 1 0 + count_by test live
        → (held_of number live ≡ Some x → count_by test live ≡ count_by test (without number live) + cond (test x) 1 0)
        → count_by test (y ∷ live) ≡ count_by test (without number (y ∷ live)) + cond (test x) 1 0
    by_test true t one recur =
        let left : without number (y ∷ live) ≡ live = rw t (without_low number y.mapping.number live up.1 (grind (arith, nat_tests))) in
        let found : held_of number (y ∷ live) ≡ Some y = rw t refl in
        rw (left, same_Some x y (sym e ∙ found)) (omega (arith, one))
    by_test false t one recur =
        let left : without number (y ∷ live) ≡ y ∷ without number live = rw t refl in
        let found : held_of number (y ∷ live) ≡ held_of number live = rw t refl in
        rw left (omega (arith, one, sum_by-cons (λ (z : Held). cond (test z) 1 0) y (without number live), recur (sym found ∙ e)))

live_of : (o : Option Held) (m : Mapping) → IsSomeAnd o (λ (x : Held). x.mapping ≡ m) → (x : Held) × (o ≡ Some x) × (x.mapping ≡ m)
live_of None m h = absurd h
live_of (Some x) m h = (x, refl, h)

pub mapped_less : (table : GrantTable) (hands hands' : List Mapping) (m : Mapping) → AreHeld table hands → IsLive table m → HasOneMore m hands' hands → AreMapped table.live hands → AreMapped (without m.number table.live) hands'
mapped_less table hands hands' m held is_live more h = record {
  counted = λ test.
      let its = live_of (held_of m.number table.live) m is_live in
      let before = h.counted test in
      let same : ◌≡◌ {A = ℕ} (cond (test (let x : Held = its.0 in x.mapping)) 1 0) (cond (test m) 1 0) = ap (λ (n : Mapping). cond (test n) 1 0) its.2 in
      omega (arith, count_less (λ (x : Held). test x.mapping) m.number 0 table.live its.0 held.ascending its.1, hands_more test m hands' hands more);
  framed = All-filter (λ (x : Held). not (x.mapping.number == m.number)) (λ (x : Held). x.mapping.gref ≡ x.frame + 6) table.live h.framed;
}

-- the frame of a live mapping is that of its reference
pub frame_live : (table : GrantTable) (m : Mapping) (f : ℕ) → IsLive table m → All (λ (x : Held). x.mapping.gref ≡ x.frame + 6) table.live → m.gref ≡ f + 6 → frame_of table m ≡ f
frame_live table m f is_live framed e =
    let its = live_of (held_of m.number table.live) m is_live in
    let at = all_at (λ (x : Held). x.mapping.gref ≡ x.frame + 6) table.live (position_or_len (λ (x : Held). x.mapping.number == m.number) table.live) its.0 framed (sym (find_at (λ (x : Held). x.mapping.number == m.number) table.live) ∙ its.1) in
    let same : (let x : Held = its.0 in x.mapping.gref) ≡ m.gref = ap (λ (n : Mapping). n.gref) its.2 in
    let frame : (let x : Held = its.0 in x.frame) ≡ f = omega arith in
    ap frame_in its.1 ∙ frame
