-- A move of the front's end of the ring: it is broken exactly where the lines say so, an answer is the response that was read, and the lines tell what it has.
use Rattle.std.proofs.Common.{◌≡◌, ◌≢◌, ℕ, ◌*◌, ◌/◌, ◌%◌, ◌^◌, ◌<◌, ◌==◌, ◌&&◌, Bool, true, false, true≢false, if◌then◌else◌, List, [], ◌∷◌, ◌++◌, length, refl, sym, ap, ◌∙◌, subst, arith}
use Rattle.std.specs.Prelude.{Option, Some, None, is_none, fold, nat_lt}
use Rattle.blk_base.specs.Distance.{distance_of}
use Rattle.blk_base.specs.declared.operation.Status.{Status}
use Rattle.blk_base.specs.declared.moves.Move.{Move}
use Rattle.blk_base.specs.declared.moves.Move.TheVariants as moves
use Rattle.ring_words.specs.Shape.{Shape}
use Rattle.blk_layout.specs.Response.{response_with, status_of}
use Rattle.schedule_text.specs.declared.line.Line.TheVariants as lines
use Rattle.blk_front.specs.declared.request.Request.{Request}
use Rattle.blk_front.specs.declared.stage.FrontStage.{FrontStage}
use Rattle.blk_front.specs.declared.stage.FrontStage.TheVariants as stage
use Rattle.blk_front.specs.declared.told.Told.{Told}
use Rattle.blk_front.specs.declared.told.Told.TheVariants as told
use Rattle.blk_front.specs.State.{is_open}
use Rattle.blk_front.specs.View.{View, slot_frame, slot_word}
use Rattle.blk_front.specs.Step.{at, broken, looked, issued, response_at, taken, freed, answered, revokes, is_mapped}
use Rattle.split_model.specs.Shown.{front_lines}
use Rattle.machine_pipeline.proofs.Lists.{all_at}
use Rattle.vbd_laws.specs.Breaks.{FrontSight, wide, is_entry_word, due_of_word, due_of_response, due_after, with_word, with_producer, after_move, after_line}
use Rattle.vbd_laws.specs.AnswersRead.{IsRead, is_of_entries, IsReadAfter}
use Rattle.vbd_laws.proofs.BreaksKnown.{core_of, share_of, HasPooled, Agree, agree_taken, agree_answered, without_at}
use Rattle.vbd_laws.proofs.BreaksFound.{found_is, none_among, some_among}
use Rattle.vbd_laws.proofs.BreaksKept.{Known, KnownBy, beside_entry}
use Rattle.vbd_laws.proofs.BreaksWords.{grant_due, grant_beside, grant_of_none, slot_due, last_due, slot_read}

-- what the front tells of a break, and of an answer
abbrev pub word_of_told : Option Told → Option ℕ
word_of_told (Some (told.Broken word)) = Some word
word_of_told t = None

abbrev pub AnswerIsRead : List ℕ → Option Told → Type 0
AnswerIsRead response (Some (told.Answer id status)) = IsRead response id status
AnswerIsRead response t = Unit {0}

abbrev pub sight_after : FrontSight → Move → Option Told → FrontSight
sight_after s shown t = fold after_line (after_line s (lines.Move shown)) (front_lines t)

pub record RingGoes (s : FrontSight) (shown : Move) (x : View) : Type 0 where
  pub due : due_after s shown ≡ word_of_told x.told
  pub whole : is_open x.stage ≡ true → word_of_told x.told ≡ None
  pub read : IsReadAfter s (lines.Move shown)
  pub answer : AnswerIsRead (let u : FrontSight = after_move s shown in u.response) x.told
  pub known : is_open x.stage ≡ true → KnownBy (sight_after s shown x.told) x.stage x

-- nothing is told
pub calm : (s : FrontSight) (shown : Move) (x : View) → x.told ≡ None → due_after s shown ≡ None → IsReadAfter s (lines.Move shown) → (is_open x.stage ≡ true → KnownBy (after_line s (lines.Move shown)) x.stage x) → RingGoes s shown x
calm s shown x still none read known = record {
  due = none ∙ sym (ap word_of_told still);
  whole = λ opened. ap word_of_told still;
  read = read;
  answer = subst (λ (t : Option Told). AnswerIsRead (let u : FrontSight = after_move s shown in u.response) t) (sym still) tt;
  known = λ opened. subst (λ (t : Option Told). KnownBy (sight_after s shown t) x.stage x) (sym still) (known opened);
}

-- it is broken
breaks : (s : FrontSight) (shown : Move) (v : View) (word : ℕ) → due_after s shown ≡ Some word → IsReadAfter s (lines.Move shown) → RingGoes s shown (broken word v)
breaks s shown v word due read = record { due = due; whole = λ opened. absurd (true≢false (sym opened)); read = read; answer = tt; known = λ opened. absurd (true≢false (sym opened)) }

pub unread : {P : Type 0} (response : List ℕ) → response ≡ [] → length response ≡ 3 → P
unread response none three = let zero : length response ≡ 0 = ap (λ (l : List ℕ). length l) none in absurd (omega arith)

module _ (s : FrontSight) (v : View) (quiet : v.told ≡ None) where
  -- a word is written that isn't the producer
  pub wrote : (f w value : ℕ) (x : View) → ((f == 2) && (w == 0)) ≡ false → x.told ≡ None → (let u : FrontSight = with_word s f w value in Known x.stage (core_of s) s.response u.written x) → RingGoes s (moves.FrontWrite f w value) x
  wrote f w value x e still known =
      calm s (moves.FrontWrite f w value) x still refl tt
      (λ opened. subst (λ (b : Bool). (let u : FrontSight = (if b then with_producer s value else with_word s f w value) in KnownBy u x.stage x)) (sym e) known)

  -- a word is read that is none of an entry
  pub saw : (f w value : ℕ) (x : View) → due_of_word s f w value ≡ None → is_entry_word s.shape s.cons (length s.response) f w ≡ false → (length s.response ≡ 3 → is_of_entries s.shape f w ≡ false)
      → x.told ≡ None → Known x.stage (core_of s) s.response s.written x → RingGoes s (moves.FrontRead f w value) x
  saw f w value x none other read still known =
      calm s (moves.FrontRead f w value) x still none read
      (λ opened. subst (λ (b : Bool). Known x.stage (core_of s) (if b then s.response ++ value ∷ [] else s.response) s.written x) (sym other) known)

  -- the first word of a grant's entry is read
  pub grant_goes : (gref value : ℕ) (next : FrontStage) → gref < 1024 → Known next (core_of s) s.response s.written (at next v) → RingGoes s (moves.FrontRead (gref / 512) (2 * (gref % 512)) value) (if is_mapped value then broken value v else at next v)
  grant_goes gref value next few known = by_test (is_mapped value) refl
    where
      by_test : (b : Bool) → is_mapped value ≡ b → RingGoes s (moves.FrontRead (gref / 512) (2 * (gref % 512)) value) (if b then broken value v else at next v)
      by_test true is = breaks s (moves.FrontRead (gref / 512) (2 * (gref % 512)) value) v value (grant_due s gref value few ∙ ap (λ (b : Bool). if b then Some value else None) is) (λ three. grant_of_none s.shape gref few)
      by_test false is =
          saw (gref / 512) (2 * (gref % 512)) value (at next v) (grant_due s gref value few ∙ ap (λ (b : Bool). if b then Some value else None) is)
          (grant_beside s.shape s.cons (length s.response) gref few) (λ three. grant_of_none s.shape gref few) quiet known

  -- it is exchanged, and what is told then
  pub record Ends (x : View) : Type 0 where
    pub unbroken : word_of_told x.told ≡ None
    pub answer : AnswerIsRead s.response x.told
    pub known : (due : Option ℕ) → (let u : FrontSight = fold after_line (record s { due = due }) (front_lines x.told) in KnownBy u x.stage x)

  pub exchange_goes : (f w old word : ℕ) (x : View) → Ends x → RingGoes s (moves.FrontCas f w old 0 word) (if word == old then x else broken word v)
  exchange_goes f w old word x h = by_test (word == old) refl
    where
      by_test : (b : Bool) → (word == old) ≡ b → RingGoes s (moves.FrontCas f w old 0 word) (if b then x else broken word v)
      by_test true e = record { due = ap (λ (b : Bool). if b then None else Some word) e ∙ sym h.unbroken; whole = λ opened. h.unbroken; read = tt; answer = h.answer; known = λ opened. h.known (if word == old then None else Some word) }
      by_test false e = breaks s (moves.FrontCas f w old 0 word) v word (ap (λ (b : Bool). if b then None else Some word) e) tt

  -- a word of a response is read
  pub entry_goes : (j : ℕ) (l : List ℕ) (value : ℕ) (x : View) → 2 ≢ j → j < 3 → s.shape ≡ v.shape → v.ring.indices.cons ≡ s.cons → s.response ≡ l → length l ≡ j → x.told ≡ None
      → Known x.stage (core_of s) (l ++ value ∷ []) s.written x → RingGoes s (moves.FrontRead (slot_frame v.shape v.ring.indices.cons j) (slot_word v.shape v.ring.indices.cons j) value) x
  entry_goes j l value x other few shape cons is long still known =
      subst (λ (shape : Shape). RingGoes s (moves.FrontRead (slot_frame shape v.ring.indices.cons j) (slot_word shape v.ring.indices.cons j) value) x) shape
      (subst (λ (k : ℕ). RingGoes s (moves.FrontRead (slot_frame s.shape k j) (slot_word s.shape k j) value) x) (sym cons)
      (calm s (moves.FrontRead (slot_frame s.shape s.cons j) (slot_word s.shape s.cons j) value) x still (slot_due s j value other) (λ three. absurd (let n = length_is in omega arith))
      (λ opened. subst (λ (r : List ℕ). Known x.stage (core_of s) r s.written x) (sym (slot_read s j value length_is ∙ ap (λ (r : List ℕ). r ++ value ∷ []) is)) known)))
    where
      length_is : length s.response ≡ j
      length_is = ap (λ (r : List ℕ). length r) is ∙ long

  -- the responses' producer is read
  pub look_goes : (value : ℕ) (otherwise : View) → v.ring.indices.cons ≡ s.cons → s.prod ≡ v.ring.indices.prod → s.response ≡ [] → otherwise.told ≡ None → Known otherwise.stage (core_of s) s.response s.written otherwise
      → Known stage.Loop (core_of s) s.response s.written (record v { ring = record v.ring { seen = value }; stage = stage.Loop }) → RingGoes s (moves.FrontRead 2 2 value) (looked v value otherwise)
  look_goes value otherwise cons prod none still known new = by_far (nat_lt (distance_of v.ring.indices.cons v.ring.indices.prod) (distance_of v.ring.indices.cons value)) refl
    where
      same_test : (b : Bool) → nat_lt (distance_of v.ring.indices.cons v.ring.indices.prod) (distance_of v.ring.indices.cons value) ≡ b → due_of_word s 2 2 value ≡ (if b then Some value else None)
      same_test b e = ap (λ (b : Bool). if b then Some value else None) (ap (λ (k : ℕ). nat_lt (distance_of k s.prod) (distance_of k value)) (sym cons) ∙ (ap (λ (p : ℕ). nat_lt (distance_of v.ring.indices.cons p) (distance_of v.ring.indices.cons value)) prod ∙ e))

      goes : (x : View) → due_of_word s 2 2 value ≡ None → x.told ≡ None → Known x.stage (core_of s) s.response s.written x → RingGoes s (moves.FrontRead 2 2 value) x
      goes x near is has = saw 2 2 value x near (beside_entry s.shape s.cons (length s.response) 2 2 (omega arith)) (λ three. unread s.response none three) is has

      by_new : (b : Bool) → due_of_word s 2 2 value ≡ None → RingGoes s (moves.FrontRead 2 2 value) (if b then otherwise else record v { ring = record v.ring { seen = value }; stage = stage.Loop })
      by_new true near = goes otherwise near still known
      by_new false near = goes (record v { ring = record v.ring { seen = value }; stage = stage.Loop }) near quiet new

      by_far : (b : Bool) → nat_lt (distance_of v.ring.indices.cons v.ring.indices.prod) (distance_of v.ring.indices.cons value) ≡ b → RingGoes s (moves.FrontRead 2 2 value) (if b then broken value v else (if value == v.ring.indices.cons then otherwise else record v { ring = record v.ring { seen = value }; stage = stage.Loop }))
      by_far true e = breaks s (moves.FrontRead 2 2 value) v value (same_test true e) (λ three. unread s.response none three)
      by_far false e = by_new (value == v.ring.indices.cons) (same_test false e)

  -- the third word of a response is read: the id is looked at first, then the status
  module _ (low high last : ℕ) (agree : Agree (core_of s) (share_of v) None) (is : s.response ≡ low ∷ high ∷ []) where
    abbrev three : List ℕ
    three = low ∷ high ∷ last ∷ []

    abbrev third : Move
    third = moves.FrontRead (slot_frame s.shape s.cons 2) (slot_word s.shape s.cons 2) last

    now : (let u : FrontSight = after_move s third in u.response) ≡ three
    now = slot_read s 2 last (ap (λ (r : List ℕ). length r) is) ∙ ap (λ (r : List ℕ). r ++ last ∷ []) is

    unfull : length s.response ≡ 3 → is_of_entries s.shape (slot_frame s.shape s.cons 2) (slot_word s.shape s.cons 2) ≡ false
    unfull long = let two : length s.response ≡ 2 = ap (λ (r : List ℕ). length r) is in absurd (omega arith)

    due_is : due_of_word s (slot_frame s.shape s.cons 2) (slot_word s.shape s.cons 2) last ≡ due_of_response s.issued (low ∷ high ∷ []) last
    due_is = last_due s last ∙ ap (λ (r : List ℕ). due_of_response s.issued r last) is

    -- it is one of an issued request, and has a status
    module _ (place : ℕ) (r : Request) (status : Status) (found : issued v (wide low high) ≡ Some (place, r)) (okay : status_of (last / 2 ^ 16) ≡ Some status) where
      its : r.number ≡ wide low high
      its = (found_is v (wide low high) (place, r) found).number

      whole : IsRead three r.number status
      whole = record { low = low; high = high; last = last; words = refl; id_is = its; status_is = okay }

      takes : Agree (core_of s) (without_at (share_of v) place) (Some r)
      takes = let there = found_is v (wide low high) (place, r) found in agree_taken (core_of s) (share_of v) place r there.at there.early agree

      none_due : due_of_word s (slot_frame s.shape s.cons 2) (slot_word s.shape s.cons 2) last ≡ None
      none_due =
          due_is ∙ (ap (λ (b : Bool). if b then (if is_none (status_of (last / 2 ^ 16)) then Some last else None) else Some low) (some_among v (wide low high) (core_of s) agree (place, r) found)
          ∙ ap (λ (o : Option Status). if is_none o then Some last else None) okay)

      taken_goes : RingGoes s third (taken v place r status)
      taken_goes = by_frames (length r.frames.items == 0)
        where
          by_frames : (b : Bool) → RingGoes s third (if b then answered (freed v place) r status else revokes (freed v place) r status)
          by_frames true = record {
            due = none_due;
            whole = λ opened. refl;
            read = unfull;
            answer = subst (λ (l : List ℕ). IsRead l r.number status) (sym now) whole;
            known = λ opened. record { agree = agree_answered (core_of s) (without_at (share_of v) place) r takes; at = refl };
          }
          by_frames false = calm s third (revokes (freed v place) r status) quiet none_due unfull (λ opened.
              subst (λ (l : List ℕ). Known (stage.GrantRead 0) (core_of s) l s.written (revokes (freed v place) r status)) (sym now)
              (record { agree = takes; at = record { e = record { request = r; status = status }; ending_is = refl; pooled = all_at HasPooled v.requests place r agree.pooled (found_is v (wide low high) (place, r) found).at; read = whole } }))

    pub response_goes : (found : Option (ℕ × Request)) (bits : Option Status) → issued v (wide low high) ≡ found → status_of (last / 2 ^ 16) ≡ bits → RingGoes s third (response_at v (response_with three bits) low found)
    response_goes None bits found is_bits = breaks s third v low (due_is ∙ ap (λ (b : Bool). if b then (if is_none (status_of (last / 2 ^ 16)) then Some last else None) else Some low) (none_among v (wide low high) (core_of s) agree found)) unfull
    response_goes (Some f) None found is_bits =
        breaks s third v last
        (due_is ∙ (ap (λ (b : Bool). if b then (if is_none (status_of (last / 2 ^ 16)) then Some last else None) else Some low) (some_among v (wide low high) (core_of s) agree f found) ∙ ap (λ (o : Option Status). if is_none o then Some last else None) is_bits)) unfull
    response_goes (Some f) (Some status) found is_bits = taken_goes f.0 f.1 status found is_bits
