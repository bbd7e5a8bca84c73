-- Each stage of the front's end of the ring: what the lines tell stays what it has.
use Rattle.std.proofs.Common.{inl, inr, ◌≡◌, ℕ, ◌+◌, ◌*◌, ◌-◌, ◌/◌, ◌%◌, ◌^◌, ◌<◌, ◌≤◌, ◌==◌, ◌&&◌, Bool, true, false, if◌then◌else◌, List, [], ◌∷◌, ◌++◌, length, map, append-nil, refl, sym, ap, ◌∙◌, subst, arith}
use Rattle.std.specs.Prelude.{Some, None, slice_index, nat_lt}
use Rattle.std.specs.List.{range_with_len}
use Rattle.std.proofs.lemmas.Bool.Decides.{nat_tests}
use Rattle.std.proofs.lemmas.Bool.{cases_eq}
use Rattle.blk_base.specs.Distance.{distance_of}
use Rattle.blk_base.specs.declared.moves.Move.{Move}
use Rattle.blk_base.specs.declared.moves.Move.TheVariants as moves
use Rattle.ring_words.specs.Shape.{Shape, entry_words_of}
use Rattle.ring_words.specs.Ring.{next_of}
use Rattle.blk_layout.specs.Places.{places_of}
use Rattle.blk_front.specs.declared.request.Request.{Request}
use Rattle.blk_front.specs.declared.stage.FrontStage.{FrontStage}
use Rattle.blk_front.specs.declared.stage.FrontStage.TheVariants as stage
use Rattle.blk_front.specs.Entry.{entry_of}
use Rattle.blk_front.specs.Request.{frame_at, page_at, is_indirect, words_in, naming_words, frames_for}
use Rattle.blk_front.specs.View.{View, next_request, fresh_word, slot_frame, slot_word, reference_of}
use Rattle.blk_front.specs.Step.{at, entered, after_data, data_stage, page_stage, granted, pushed}
use Rattle.machine_pipeline.proofs.Holds.{IsPooled}
use Rattle.machine_pipeline.proofs.Data.{pooled_at}
use Rattle.machine_pipeline.proofs.Lists.{all_at}
use Rattle.vbd_laws.specs.Breaks.{FrontSight, wide, is_entry_word, frame_of_entry, word_of_entry, id_written, ids_pushed, with_word}
use Rattle.vbd_laws.proofs.BreaksCounts.{count_id, count_number}
use Rattle.vbd_laws.proofs.BreaksKnown.{issued_part, core_of, share_of, HasPooled, going_at, Agree, agree_pushed}
use Rattle.front_laws.proofs.Entries.{entry_number}
use Rattle.front_laws.proofs.Simple.{next_stands, next_waits}
use Rattle.vbd_laws.proofs.BreaksFound.{id_within}
use Rattle.vbd_laws.proofs.BreaksKept.{IsAnew, IsIssuing, At, Known, own_entry, other_entry, entry_beside}
use Rattle.vbd_laws.proofs.BreaksWords.{far_producer, near_producer, odd_producer, one_further, none_further}
use Rattle.vbd_laws.proofs.BreaksRing.{RingGoes, calm, wrote}

pub either : (b : Bool) (s : FrontSight) (shown : Move) (x y : View) → RingGoes s shown x → RingGoes s shown y → RingGoes s shown (if b then x else y)
either true s shown x y p q = p
either false s shown x y p q = q

pub either_at : (b : Bool) (s : FrontSight) (shown : Move) (t u : FrontStage) (v : View) → RingGoes s shown (at t v) → RingGoes s shown (at u v) → RingGoes s shown (at (if b then t else u) v)
either_at true s shown t u v p q = p
either_at false s shown t u v p q = q

-- one word more of an entry is written
more_written : (s : FrontSight) (shape : Shape) (prod k : ℕ) (entry : List ℕ) → ((i : ℕ) → i < k → s.written (frame_of_entry shape prod i) (word_of_entry shape prod i) ≡ slice_index entry i)
    → (i : ℕ) → i < k + 1
    → (let u : FrontSight = with_word s (slot_frame shape prod k) (slot_word shape prod k) (slice_index entry k) in u.written (frame_of_entry shape prod i) (word_of_entry shape prod i)) ≡ slice_index entry i
more_written s shape prod k entry words i lt = elim (cases_eq i k) as (λ c. (if is_entry_word shape prod k (slot_frame shape prod i) (slot_word shape prod i) then slice_index entry k else s.written (slot_frame shape prod i) (slot_word shape prod i)) ≡ slice_index entry i) [
  | inl same ↦ subst (λ (j : ℕ). (if is_entry_word shape prod k (slot_frame shape prod j) (slot_word shape prod j) then slice_index entry k else s.written (slot_frame shape prod j) (slot_word shape prod j)) ≡ slice_index entry j) (sym same)
      (ap (λ (b : Bool). if b then slice_index entry k else s.written (slot_frame shape prod k) (slot_word shape prod k)) (own_entry shape prod k))
  | inr apart ↦ ap (λ (b : Bool). if b then slice_index entry k else s.written (slot_frame shape prod i) (slot_word shape prod i)) (other_entry shape prod k i (λ same. apart (sym same))) ∙ words i (omega arith)
]

module _ (s : FrontSight) (v : View) (quiet : v.told ≡ None) (few : v.shape.order ≤ 4) (agree : Agree (core_of s) (share_of v) None) where
  abbrev To : FrontStage → Type 0
  To t = Known t (core_of s) s.response s.written (at t v)

  abbrev IsAt : FrontStage → Type 0
  IsAt t = At t s.response s.written (at t v)

  to : (t : FrontStage) → Agree (core_of s) (share_of v) (going_at t v.ending) → IsAt t → To t
  to t agrees is = record { agree = agrees; at = is }

  either_to : (b : Bool) (t u : FrontStage) → To t → To u → To (if b then t else u)
  either_to true t u p q = p
  either_to false t u p q = q

  -- it writes a word that isn't the producer
  pub puts : (f w value : ℕ) (t : FrontStage) → ((f == 2) && (w == 0)) ≡ false → (let u : FrontSight = with_word s f w value in Known t (core_of s) s.response u.written (at t v)) → RingGoes s (moves.FrontWrite f w value) (at t v)
  puts f w value t e known = wrote s v quiet f w value (at t v) e quiet known

  -- a word of the fresh ring
  pub word_goes : (k : ℕ) → IsAnew v → s.response ≡ [] → RingGoes s (moves.FrontWrite 2 k (fresh_word v.start k)) (at (if k == 15 then stage.RingFrame 0 else stage.RingWord (k + 1)) v)
  word_goes k anew none = by_zero (k == 0) refl
    where
      first : RingGoes s (moves.FrontWrite 2 0 v.start) (at (stage.RingWord 1) v)
      first = calm s (moves.FrontWrite 2 0 v.start) (at (stage.RingWord 1) v) quiet refl tt (λ opened. record {
        agree = record {
          start = agree.start;
          shape = agree.shape;
          small = agree.small;
          prod = sym anew.0;
          cons = agree.cons;
          pooled = agree.pooled;
          once = agree.once;
          fresh = agree.fresh;
          waits = agree.waits;
          issued = λ n. subst (λ (ids : List ℕ). count_id n ids ≡ count_number n (issued_part (share_of v)) + 0) (sym same) (agree.issued n);
          owed = agree.owed;
        };
        at = (anew, none);
      })
        where
          none_pushed : ids_pushed s v.start ≡ []
          none_pushed =
              ap (λ (d : ℕ). map (λ (n : ℕ). id_written s (s.prod + n)) (range_with_len 0 d))
              (ap (λ (p : ℕ). distance_of p v.start) (agree.prod ∙ anew.0) ∙ none_further v.start (subst (λ (p : ℕ). p < 2 ^ 32) anew.0 agree.small))

          same : s.issued ++ ids_pushed s v.start ≡ s.issued
          same = ap (λ (ids : List ℕ). s.issued ++ ids) none_pushed ∙ append-nil s.issued

      by_zero : (b : Bool) → (k == 0) ≡ b → RingGoes s (moves.FrontWrite 2 k (fresh_word v.start k)) (at (if k == 15 then stage.RingFrame 0 else stage.RingWord (k + 1)) v)
      by_zero true e =
          let zero : k ≡ 0 = grind (arith, nat_tests) in
          subst (λ (k : ℕ). RingGoes s (moves.FrontWrite 2 k (fresh_word v.start k)) (at (if k == 15 then stage.RingFrame 0 else stage.RingWord (k + 1)) v)) (sym zero) first
      by_zero false e =
          either_at (k == 15) s (moves.FrontWrite 2 k (fresh_word v.start k)) (stage.RingFrame 0) (stage.RingWord (k + 1)) v
          (puts 2 k (fresh_word v.start k) (stage.RingFrame 0) e (record { agree = agree; at = record { few = omega arith; none = none } }))
          (puts 2 k (fresh_word v.start k) (stage.RingWord (k + 1)) e (record { agree = agree; at = (anew, none) }))

  -- while a request is issued
  module _ (r : Request) (next : next_request v ≡ Some r) (none : s.response ≡ []) where
    abbrev issuing : IsIssuing (next_request v) s.response
    issuing = record { r = r; next_is = next; none = none }

    its_frame : (place : ℕ) → IsPooled (frame_at r place)
    its_frame place = pooled_at r (all_at HasPooled v.requests (length v.requests - v.waiting) r agree.pooled (next_stands v r next)) place

    pub far : (place w : ℕ) → ((frame_at r place == 2) && (w == 0)) ≡ false
    far place w = far_producer (frame_at r place) w (its_frame place).0

    pub data_goes : (n value : ℕ) → RingGoes s (moves.FrontWrite (frame_at r (n / 1024)) (n % 1024) value) (at (data_stage (Some r) n) v)
    data_goes n value =
        either_at (nat_lt (n + 1) (words_in r)) s (moves.FrontWrite (frame_at r (n / 1024)) (n % 1024) value) (stage.Data (n + 1)) (after_data r) v
        (puts _ _ value (stage.Data (n + 1)) (far (n / 1024) (n % 1024)) (record { agree = agree; at = issuing }))
        (either_at (is_indirect r.count) s (moves.FrontWrite (frame_at r (n / 1024)) (n % 1024) value) (stage.Pages 0) (stage.GrantFrame 0) v
        (puts _ _ value (stage.Pages 0) (far (n / 1024) (n % 1024)) (record { agree = agree; at = issuing }))
        (puts _ _ value (stage.GrantFrame 0) (far (n / 1024) (n % 1024)) (record { agree = agree; at = issuing })))

    pub page_goes : (n value : ℕ) → RingGoes s (moves.FrontWrite (page_at r (n / 1024)) (n % 1024) value) (at (page_stage (Some r) n) v)
    page_goes n value =
        either_at (nat_lt (n + 1) (naming_words r)) s (moves.FrontWrite (page_at r (n / 1024)) (n % 1024) value) (stage.Pages (n + 1)) (stage.GrantFrame 0) v
        (puts _ _ value (stage.Pages (n + 1)) (far (frames_for r.count + n / 1024) (n % 1024)) (record { agree = agree; at = issuing }))
        (puts _ _ value (stage.GrantFrame 0) (far (frames_for r.count + n / 1024) (n % 1024)) (record { agree = agree; at = issuing }))

    -- the frame of this place is named in its grant's entry
    pub name_goes : (place value : ℕ) → RingGoes s (moves.FrontWrite (reference_of (frame_at r place) / 512) (2 * (reference_of (frame_at r place) % 512) + 1) value) (at (stage.GrantFence place) v)
    name_goes place value = puts _ _ value (stage.GrantFence place) (odd_producer (reference_of (frame_at r place) / 512) (2 * (reference_of (frame_at r place) % 512))) (record { agree = agree; at = issuing })

    -- and granted: the next one is named, or its entry is written
    near : (place w : ℕ) → ((reference_of (frame_at r place) / 512 == 2) && (w == 0)) ≡ false
    near place w = let its = its_frame place in near_producer (reference_of (frame_at r place) / 512) w (below (frame_at r place) its.1)
      where
        below : (f : ℕ) → f < 1018 → (f + 6) / 512 < 2
        below f lt = omega arith

    pub granted_goes : (place value : ℕ) → RingGoes s (moves.FrontWrite (reference_of (frame_at r place) / 512) (2 * (reference_of (frame_at r place) % 512)) value) (granted (Some r) place v)
    granted_goes place value =
        either (nat_lt (place + 1) (length r.frames.items)) s (moves.FrontWrite (reference_of (frame_at r place) / 512) (2 * (reference_of (frame_at r place) % 512)) value) (at (stage.GrantFrame (place + 1)) v) (entered v r (stage.Slot 0))
        (puts _ _ value (stage.GrantFrame (place + 1)) (near place _) (record { agree = agree; at = issuing }))
        (wrote s v quiet _ _ value (entered v r (stage.Slot 0)) (near place _) quiet (record { agree = agree; at = record { r = r; next_is = next; entry_is = refl; words = λ i lt. absurd (omega arith); none = none } }))

    -- a word of its entry is written
    slot_wrote : (k : ℕ) (x : View) → x.told ≡ None
        → (let u : FrontSight = with_word s (slot_frame v.shape v.ring.indices.prod k) (slot_word v.shape v.ring.indices.prod k) (slice_index (entry_of v.shape.abi r) k) in Known x.stage (core_of s) s.response u.written x)
        → RingGoes s (moves.FrontWrite (slot_frame v.shape v.ring.indices.prod k) (slot_word v.shape v.ring.indices.prod k) (slice_index (entry_of v.shape.abi r) k)) x
    slot_wrote k x still known = wrote s v quiet _ _ _ x (entry_beside v.shape v.ring.indices.prod k 2 0 (omega arith)) still known

    pub slot_goes : (k : ℕ) → v.ring.entry ≡ entry_of v.shape.abi r
        → ((i : ℕ) → i < k → s.written (frame_of_entry v.shape v.ring.indices.prod i) (word_of_entry v.shape v.ring.indices.prod i) ≡ slice_index (entry_of v.shape.abi r) i)
        → RingGoes s (moves.FrontWrite (slot_frame v.shape v.ring.indices.prod k) (slot_word v.shape v.ring.indices.prod k) (slice_index v.ring.entry k)) (at (if k + 1 == entry_words_of v.shape.abi then stage.Producer else stage.Slot (k + 1)) v)
    slot_goes k entry words =
        subst (λ (l : List ℕ). RingGoes s (moves.FrontWrite (slot_frame v.shape v.ring.indices.prod k) (slot_word v.shape v.ring.indices.prod k) (slice_index l k)) (at (if k + 1 == entry_words_of v.shape.abi then stage.Producer else stage.Slot (k + 1)) v)) (sym entry)
        (by_last (k + 1 == entry_words_of v.shape.abi) refl)
      where
        wrote_one : (i : ℕ) → i < k + 1
            → (let u : FrontSight = with_word s (slot_frame v.shape v.ring.indices.prod k) (slot_word v.shape v.ring.indices.prod k) (slice_index (entry_of v.shape.abi r) k) in u.written (frame_of_entry v.shape v.ring.indices.prod i) (word_of_entry v.shape v.ring.indices.prod i)) ≡ slice_index (entry_of v.shape.abi r) i
        wrote_one = more_written s v.shape v.ring.indices.prod k (entry_of v.shape.abi r) words

        by_last : (b : Bool) → (k + 1 == entry_words_of v.shape.abi) ≡ b
            → RingGoes s (moves.FrontWrite (slot_frame v.shape v.ring.indices.prod k) (slot_word v.shape v.ring.indices.prod k) (slice_index (entry_of v.shape.abi r) k)) (at (if b then stage.Producer else stage.Slot (k + 1)) v)
        by_last true e =
            let all : k + 1 ≡ entry_words_of v.shape.abi = grind (arith, nat_tests) in
            slot_wrote k (at stage.Producer v) quiet (record { agree = agree; at = record { r = r; next_is = next; entry_is = entry; words = λ i lt. wrote_one i (omega arith); none = none } })
        by_last false e = slot_wrote k (at (stage.Slot (k + 1)) v) quiet (record { agree = agree; at = record { r = r; next_is = next; entry_is = entry; words = wrote_one; none = none } })

    -- one without frames is begun with its entry
    pub entered_goes : RingGoes s (moves.FrontWrite (slot_frame v.shape v.ring.indices.prod 0) (slot_word v.shape v.ring.indices.prod 0) (slice_index (entry_of v.shape.abi r) 0)) (entered v r (stage.Slot 1))
    entered_goes = slot_wrote 0 (entered v r (stage.Slot 1)) quiet (record { agree = agree; at = record { r = r; next_is = next; entry_is = refl; words = more_written s v.shape v.ring.indices.prod 0 (entry_of v.shape.abi r) (λ i lt. absurd (omega arith)); none = none } })

    -- it is pushed: the id of its entry is issued
    pub pushed_goes : ((i : ℕ) → i < entry_words_of v.shape.abi → s.written (frame_of_entry v.shape v.ring.indices.prod i) (word_of_entry v.shape v.ring.indices.prod i) ≡ slice_index (entry_of v.shape.abi r) i)
        → RingGoes s (moves.FrontWrite 2 0 (next_of v.ring.indices.prod)) (pushed v)
    pushed_goes words = calm s (moves.FrontWrite 2 0 (next_of v.ring.indices.prod)) (pushed v) quiet refl tt (λ opened. record { agree = agrees; at = none })
      where
        word_at : (i : ℕ) → i < entry_words_of v.shape.abi → ◌≡◌ {A = ℕ} (s.written (frame_of_entry s.shape (s.prod + 0) i) (word_of_entry s.shape (s.prod + 0) i)) (slice_index (entry_of v.shape.abi r) i)
        word_at i lt =
            ap (λ (shape : Shape). s.written (frame_of_entry shape (s.prod + 0) i) (word_of_entry shape (s.prod + 0) i)) agree.shape
            ∙ (ap (λ (k : ℕ). s.written (frame_of_entry v.shape k i) (word_of_entry v.shape k i)) same_prod ∙ words i lt)
          where
            same_prod : s.prod + 0 ≡ v.ring.indices.prod
            same_prod = let same = agree.prod in omega arith

        id_is : id_written s (s.prod + 0) ≡ r.number
        id_is =
            let place : ℕ = (places_of v.shape.abi).id in
            let within = id_within v.shape.abi in
            ap (λ (shape : Shape). (let place : ℕ = (places_of shape.abi).id in wide (s.written (frame_of_entry s.shape (s.prod + 0) place) (word_of_entry s.shape (s.prod + 0) place)) (s.written (frame_of_entry s.shape (s.prod + 0) (place + 1)) (word_of_entry s.shape (s.prod + 0) (place + 1))))) agree.shape
            ∙ (ap (λ (low : ℕ). wide low (s.written (frame_of_entry s.shape (s.prod + 0) (place + 1)) (word_of_entry s.shape (s.prod + 0) (place + 1)))) (word_at place (omega arith))
            ∙ (ap (λ (high : ℕ). wide (slice_index (entry_of v.shape.abi r) place) high) (word_at (place + 1) within) ∙ entry_number v.shape.abi r))

        ids_are : ids_pushed s (next_of v.ring.indices.prod) ≡ r.number ∷ []
        ids_are =
            ap (λ (d : ℕ). map (λ (n : ℕ). id_written s (s.prod + n)) (range_with_len 0 d)) (ap (λ (p : ℕ). distance_of p (next_of v.ring.indices.prod)) agree.prod ∙ one_further v.ring.indices.prod agree.small)
            ∙ ap (λ (id : ℕ). id ∷ []) id_is

        agrees : Agree (record (core_of s) { prod = next_of v.ring.indices.prod; issued = s.issued ++ ids_pushed s (next_of v.ring.indices.prod) }) (share_of (pushed v)) None
        agrees =
            subst (λ (ids : List ℕ). Agree (record (core_of s) { prod = next_of v.ring.indices.prod; issued = s.issued ++ ids }) (share_of (pushed v)) None) (sym ids_are)
            (subst (λ (p : ℕ). Agree (record (core_of s) { prod = p; issued = s.issued ++ r.number ∷ [] }) (share_of (pushed v)) None) (ap next_of agree.prod)
            (agree_pushed (core_of s) (share_of v) r (next_waits v r next) (next_stands v r next) agree))
