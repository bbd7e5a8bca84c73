-- The stages in which the front looks at its ring, takes a response, ends grants and tells data; and all of them together.
use Rattle.std.proofs.Common.{◌≡◌, ℕ, ◌+◌, ◌*◌, ◌/◌, ◌%◌, ◌^◌, ◌<◌, ◌≤◌, ◌==◌, ◌&&◌, ◌||◌, Bool, true, false, if◌then◌else◌, List, [], ◌∷◌, ◌++◌, length, refl, sym, ap, ◌∙◌, subst, arith}
use Rattle.std.specs.Prelude.{Option, Some, None, fold, slice_set, nat_lt}
use Rattle.std.proofs.lemmas.Option.{none-some, same_Some}
use Rattle.std.proofs.lemmas.Bool.Decides.{nat_tests}
use Rattle.blk_base.specs.declared.ask.FrontAsk.TheVariants as front_ask
use Rattle.blk_base.specs.declared.ask.FrontAnswer.{FrontAnswer}
use Rattle.blk_base.specs.declared.ask.FrontAnswer.TheVariants as answer
use Rattle.blk_base.specs.declared.moves.Move.{Move}
use Rattle.blk_base.specs.declared.moves.Move.TheVariants as moves
use Rattle.blk_base.specs.declared.moves.Mover.TheVariants as mover
use Rattle.ring_words.specs.Shape.{Shape}
use Rattle.ring_words.specs.Ring.{responses_of, notifies}
use Rattle.blk_layout.specs.Response.{response_with, status_of}
use Rattle.xen_pages.specs.Pages.{word_of}
use Rattle.hypervisor.specs.Hypervisor.{Hypervisor}
use Rattle.hypervisor.specs.Act.{FrontAct, front_act}
use Rattle.blk_front.specs.declared.request.Request.{Request}
use Rattle.blk_front.specs.declared.request.Transfer.{Transfer}
use Rattle.blk_front.specs.declared.request.Transfer.TheVariants as transfer
use Rattle.blk_front.specs.declared.stage.FrontStage.{FrontStage}
use Rattle.blk_front.specs.declared.stage.FrontStage.TheVariants as stage
use Rattle.blk_front.specs.declared.stage.Ending.{Ending}
use Rattle.blk_front.specs.declared.told.Told.{Told}
use Rattle.blk_front.specs.declared.told.Told.TheVariants as told
use Rattle.blk_front.specs.Request.{has_data, frame_at, is_indirect, words_in}
use Rattle.blk_front.specs.State.{is_open}
use Rattle.blk_front.specs.View.{View, next_request, slot_frame, slot_word, reference_of}
use Rattle.blk_front.specs.Ask.{is_through, ask_at, data_ask, page_ask, name_ask, grant_ask, revoke_ask, end_ask, read_ask, issue_ask, loop_ask}
use Rattle.blk_front.specs.Step.{at, looked, begun, data_stage, page_stage, granted, loop_step, issued, response_at, finished, ended, revoked, sector_told, data_step, left_step, step_at}
use Rattle.split_model.specs.Shown.{front_lines}
use Rattle.split_model.proofs.SafeActs.{of_front, front_wait}
use Rattle.machine_pipeline.proofs.Data.{pooled_at}
use Rattle.machine_pipeline.proofs.Slots.{few_pages, some_words, response_fits}
use Rattle.negotiation_laws.proofs.Choices.{either as either_way}
use Rattle.vbd_laws.specs.Breaks.{FrontSight, is_entry_word, due_of_word, after_line}
use Rattle.vbd_laws.specs.AnswersRead.{IsRead}
use Rattle.vbd_laws.specs.Breaks.{after_move}
use Rattle.vbd_laws.proofs.BreaksKnown.{request_of, core_of, share_of, HasPooled, Agree, agree_answered}
use Rattle.vbd_laws.proofs.BreaksKept.{beside_entry, IsAnew, IsIssuing, IsEnding, IsTelling, IsPage, Known, KnownBy, far_entry}
use Rattle.vbd_laws.proofs.BreaksWords.{near_producer, odd_producer, pool_due}
use Rattle.vbd_laws.proofs.BreaksRing.{word_of_told, AnswerIsRead, RingGoes, calm, unread, saw, grant_goes, Ends, exchange_goes, entry_goes, look_goes, response_goes}
use Rattle.vbd_laws.proofs.BreaksSteps.{either, either_at, word_goes, data_goes, page_goes, name_goes, granted_goes, slot_goes, entered_goes, pushed_goes, far, puts}

module _ (s : FrontSight) (v : View) (h : Hypervisor) (a : FrontAct) (quiet : v.told ≡ None) (few : v.shape.order ≤ 4) where
  -- the move is the one that this act shows, and its answer makes this of the front
  abbrev Goes : (FrontAnswer → View) → FrontAct → Type 0
  Goes step x = RingGoes s x.shown (step x.answer)

  -- no word is read or written
  module _ (t : FrontStage) (known : Known t (core_of s) s.response s.written (at t v)) where
    fences : RingGoes s (moves.Fence mover.Front) (at t v)
    fences = calm s (moves.Fence mover.Front) (at t v) quiet refl tt (λ opened. known)

    sends : RingGoes s (moves.Send mover.Front) (at t v)
    sends = calm s (moves.Send mover.Front) (at t v) quiet refl tt (λ opened. known)

    closes_port : RingGoes s (moves.ClosePort mover.Front) (at t v)
    closes_port = calm s (moves.ClosePort mover.Front) (at t v) quiet refl tt (λ opened. known)

    makes_port : (port : ℕ) → RingGoes s (moves.FrontPort port) (at t v)
    makes_port port = calm s (moves.FrontPort port) (at t v) quiet refl tt (λ opened. known)

  -- it waits, and stays
  waits : (t : FrontStage) → v.stage ≡ t → KnownBy s t v → (step : FrontAnswer → View) → step answer.Event ≡ v → ((path : List ℕ) → step (answer.Watched path) ≡ v) → front_act h front_ask.Wait ≡ Some a → Goes step a
  waits t here known step event watched e =
      front_wait (Goes step) h a
      (subst (λ (x : View). RingGoes s (moves.Event mover.Front) x) (sym event) (calm s (moves.Event mover.Front) v quiet refl tt (λ opened. as_it_was)))
      (λ path. subst (λ (x : View). RingGoes s (moves.Watched mover.Front path) x) (sym (watched path)) (calm s (moves.Watched mover.Front path) v quiet refl tt (λ opened. as_it_was))) e
    where
      as_it_was : KnownBy s v.stage v
      as_it_was = subst (λ (u : FrontStage). KnownBy s u v) (sym here) known

  -- in the loop
  begun_goes : (r : Request) (way : Transfer) → next_request v ≡ Some r → s.response ≡ [] → Agree (core_of s) (share_of v) None → front_act h (issue_ask v r way) ≡ Some a → RingGoes s a.shown (begun v r way)
  begun_goes r (transfer.Write tag) next none agree e = of_front (Goes (λ x. at (stage.Data 1) v)) _ a (puts s v quiet few agree _ _ _ (stage.Data 1) (far s v quiet few agree r next none 0 0) (record { agree = agree; at = record { r = r; next_is = next; none = none } })) e
  begun_goes r (transfer.Barrier tag) next none agree e = of_front (Goes (λ x. at (stage.Data 1) v)) _ a (puts s v quiet few agree _ _ _ (stage.Data 1) (far s v quiet few agree r next none 0 0) (record { agree = agree; at = record { r = r; next_is = next; none = none } })) e
  begun_goes r transfer.Read next none agree e = by_test (is_indirect r.count) e
    where
      by_test : (b : Bool) → front_act h (if b then page_ask (Some r) 0 else name_ask (Some r) 0) ≡ Some a → RingGoes s a.shown (at (if b then stage.Pages 1 else stage.GrantFence 0) v)
      by_test true e = of_front (Goes (λ x. at (stage.Pages 1) v)) _ a (puts s v quiet few agree _ _ _ (stage.Pages 1) (far s v quiet few agree r next none _ 0) (record { agree = agree; at = record { r = r; next_is = next; none = none } })) e
      by_test false e = of_front (Goes (λ x. at (stage.GrantFence 0) v)) _ a (name_goes s v quiet few agree r next none 0 _) e
  begun_goes r transfer.Flush next none agree e = of_front (Goes (λ x. begun v r transfer.Flush)) _ a (entered_goes s v quiet few agree r next none) e
  begun_goes r (transfer.Discard sectors) next none agree e = of_front (Goes (λ x. begun v r (transfer.Discard sectors))) _ a (entered_goes s v quiet few agree r next none) e

  pub loop_goes : (o : Option Request) → next_request v ≡ o → v.stage ≡ stage.Loop → s.response ≡ [] → Agree (core_of s) (share_of v) None → front_act h (loop_ask v o) ≡ Some a → RingGoes s a.shown (loop_step v o a.answer)
  loop_goes (Some r) next here none agree e = begun_goes r r.transfer next none agree e
  loop_goes None next here none agree e = by_test (v.ring.asleep || is_through v) (responses_of v.ring.indices v.ring.seen == 0) refl e
    where
      by_test : (b c : Bool) → (responses_of v.ring.indices v.ring.seen == 0) ≡ c
          → front_act h (if b then front_ask.Wait else (if c then front_ask.Read 2 2 else front_ask.Read (slot_frame v.shape v.ring.indices.cons 0) (slot_word v.shape v.ring.indices.cons 0))) ≡ Some a
          → RingGoes s a.shown (loop_step v None a.answer)
      by_test true c is e =
          front_wait (Goes (loop_step v None)) h a
          (calm s (moves.Event mover.Front) (record v { ring = record v.ring { asleep = false } }) quiet refl tt (λ opened. subst (λ (u : FrontStage). KnownBy s u (record v { ring = record v.ring { asleep = false } })) (sym here) (record { agree = agree; at = none })))
          (λ path. calm s (moves.Watched mover.Front path) v quiet refl tt (λ opened. subst (λ (u : FrontStage). KnownBy s u v) (sym here) (record { agree = agree; at = none }))) e
      by_test false true is e =
          of_front (Goes (loop_step v None)) _ a
          (subst (λ (c : Bool). RingGoes s (moves.FrontRead 2 2 (word_of h.pages 2 2)) (if c then looked v (word_of h.pages 2 2) (record v { ring = record v.ring { seen = word_of h.pages 2 2 }; stage = stage.StoreEvent }) else at (stage.ResponseHigh (word_of h.pages 2 2)) v)) (sym is)
          (look_goes s v quiet (word_of h.pages 2 2) (record v { ring = record v.ring { seen = word_of h.pages 2 2 }; stage = stage.StoreEvent }) agree.cons agree.prod none quiet (record { agree = agree; at = none }) (record { agree = agree; at = none }))) e
      by_test false false is e =
          of_front (Goes (loop_step v None)) _ a
          (subst (λ (c : Bool). (let word : ℕ = word_of h.pages (slot_frame v.shape v.ring.indices.cons 0) (slot_word v.shape v.ring.indices.cons 0) in RingGoes s (moves.FrontRead (slot_frame v.shape v.ring.indices.cons 0) (slot_word v.shape v.ring.indices.cons 0) word) (if c then looked v word (record v { ring = record v.ring { seen = word }; stage = stage.StoreEvent }) else at (stage.ResponseHigh word) v))) (sym is)
          (entry_goes s v quiet 0 [] _ (at (stage.ResponseHigh _) v) (λ same. absurd (omega arith)) (omega arith) agree.shape agree.cons none refl quiet (record { agree = agree; at = refl }))) e

  -- a response
  last_goes : (low high last : ℕ) → s.response ≡ low ∷ high ∷ [] → Agree (core_of s) (share_of v) None
      → RingGoes s (moves.FrontRead (slot_frame v.shape v.ring.indices.cons 2) (slot_word v.shape v.ring.indices.cons 2) last) (response_at v (response_with (low ∷ high ∷ last ∷ []) (status_of (last / 2 ^ 16))) low (issued v (low + high * 2 ^ 32)))
  last_goes low high last is agree =
      subst (λ (shape : Shape). RingGoes s (moves.FrontRead (slot_frame shape v.ring.indices.cons 2) (slot_word shape v.ring.indices.cons 2) last) (response_at v (response_with (low ∷ high ∷ last ∷ []) (status_of (last / 2 ^ 16))) low (issued v (low + high * 2 ^ 32)))) agree.shape
      (subst (λ (k : ℕ). RingGoes s (moves.FrontRead (slot_frame s.shape k 2) (slot_word s.shape k 2) last) (response_at v (response_with (low ∷ high ∷ last ∷ []) (status_of (last / 2 ^ 16))) low (issued v (low + high * 2 ^ 32)))) (sym agree.cons)
      (response_goes s v quiet low high last agree is (issued v (low + high * 2 ^ 32)) (status_of (last / 2 ^ 16)) refl refl))

  -- a grant is ended
  few_reference : (r : Request) (place : ℕ) → HasPooled r → reference_of (frame_at r place) < 1024
  few_reference r place pooled = below (frame_at r place) (pooled_at r pooled place).1
    where
      below : (f : ℕ) → f < 1018 → f + 6 < 1024
      below f lt = omega arith

  revoke_goes : (o : Option Ending) (place : ℕ) → v.ending ≡ o → KnownBy s (stage.GrantRead place) v → front_act h (revoke_ask o place) ≡ Some a → RingGoes s a.shown (step_at (stage.GrantRead place) v a.answer)
  revoke_goes None place is known e = let at = known.at in absurd (none-some at.e (sym is ∙ at.ending_is))
  revoke_goes (Some e) place is known acts =
      let at = known.at in
      let same : at.e ≡ e = same_Some at.e e (sym at.ending_is ∙ is) in
      of_front (Goes (step_at (stage.GrantRead place) v)) _ a
      (grant_goes s v quiet (reference_of (frame_at e.request place)) _ (stage.GrantEnd place _) (few_reference e.request place (subst (λ (x : Ending). HasPooled x.request) same at.pooled)) (record { agree = known.agree; at = at })) acts

  ended_ends : (e : Ending) → IsEnding v.ending s.response → v.ending ≡ Some e → Agree (core_of s) (share_of v) (Some e.request) → Ends s v quiet (ended e v)
  ended_ends e at is agree = by_data (has_data e.request.transfer e.status)
    where
      same : at.e ≡ e
      same = same_Some at.e e (sym at.ending_is ∙ is)

      by_data : (b : Bool) → Ends s v quiet (if b then record v { stage = stage.ReadData 0; told = Some (told.Answer e.request.number e.status) } else record (finished e v) { told = Some (told.Answer e.request.number e.status) })
      by_data true = record {
        unbroken = refl;
        answer = subst (λ (x : Ending). IsRead s.response x.request.number x.status) same at.read;
        known = λ due. record { agree = agree_answered (core_of s) (share_of v) e.request agree; at = record { e = e; ending_is = is; pooled = subst (λ (x : Ending). HasPooled x.request) same at.pooled; none = refl } };
      }
      by_data false = record {
        unbroken = refl;
        answer = subst (λ (x : Ending). IsRead s.response x.request.number x.status) same at.read;
        known = λ due. record { agree = agree_answered (core_of s) (share_of v) e.request agree; at = refl };
      }

  quiet_ends : (x : View) → x.told ≡ None → KnownBy s x.stage x → Ends s v quiet x
  quiet_ends x still known = record {
    unbroken = ap word_of_told still;
    answer = subst (λ (t : Option Told). AnswerIsRead s.response t) (sym still) tt;
    known = λ due. subst (λ (t : Option Told). (let u : FrontSight = fold after_line (record s { due = due }) (front_lines t) in KnownBy u x.stage x)) (sym still) known;
  }

  end_goes : (o : Option Ending) (place old : ℕ) → v.ending ≡ o → KnownBy s (stage.GrantEnd place old) v → front_act h (end_ask o place old) ≡ Some a → RingGoes s a.shown (step_at (stage.GrantEnd place old) v a.answer)
  end_goes None place old is known e = let at = known.at in absurd (none-some at.e (sym is ∙ at.ending_is))
  end_goes (Some e) place old is known acts =
      of_front (Goes (step_at (stage.GrantEnd place old) v)) _ a
      (exchange_goes s v quiet _ _ old _ (revoked v.ending place v)
      (subst (λ (o : Option Ending). Ends s v quiet (revoked o place v)) (sym is)
      (either_way (Ends s v quiet) (nat_lt (place + 1) (length e.request.frames.items)) (at (stage.GrantRead (place + 1)) v) (ended e v)
      (quiet_ends (at (stage.GrantRead (place + 1)) v) quiet (record { agree = known.agree; at = known.at }))
      (ended_ends e known.at is (subst (λ (o : Option Ending). Agree (core_of s) (share_of v) (request_of o)) is known.agree))))) acts

  -- a word of data is read
  module _ (e : Ending) (pooled : HasPooled e.request) (none : s.response ≡ []) (agree : Agree (core_of s) (share_of v) None) (n value : ℕ) where
    abbrev data_read : Move
    data_read = moves.FrontRead (frame_at e.request (n / 1024)) (n % 1024) value

    fits : s.shape.order ≤ 4
    fits = subst (λ (shape : Shape). shape.order ≤ 4) (sym agree.shape) few

    due_none : due_of_word s (frame_at e.request (n / 1024)) (n % 1024) value ≡ None
    due_none = pool_due s (frame_at e.request (n / 1024)) (n % 1024) value fits (response_fits s.shape.abi 2 (omega arith)) (pooled_at e.request pooled (n / 1024)).0

    no_entry : is_entry_word s.shape s.cons (length s.response) (frame_at e.request (n / 1024)) (n % 1024) ≡ false
    no_entry =
        far_entry s.shape s.cons (length s.response) (frame_at e.request (n / 1024)) (n % 1024) fits
        (let zero : length s.response ≡ 0 = ap (λ (l : List ℕ). length l) none in let some = some_words s.shape.abi in omega arith) (pooled_at e.request pooled (n / 1024)).0

    told_goes : (x : View) → word_of_told x.told ≡ None → AnswerIsRead (let u : FrontSight = after_move s data_read in u.response) x.told
        → (is_open x.stage ≡ true → (due : Option ℕ) → (let u : FrontSight = fold after_line (record s { due = due }) (front_lines x.told) in KnownBy u x.stage x)) → RingGoes s data_read x
    told_goes x unbroken answered known = record {
      due = due_none ∙ sym unbroken;
      whole = λ opened. unbroken;
      read = λ three. unread s.response none three;
      answer = answered;
      known = λ opened. subst (λ (l : List ℕ). (let u : FrontSight = fold after_line (record s { response = l; due = due_of_word s (frame_at e.request (n / 1024)) (n % 1024) value }) (front_lines x.told) in KnownBy u x.stage x)) (sym kept) (known opened (due_of_word s (frame_at e.request (n / 1024)) (n % 1024) value));
    }
      where
        kept : (if is_entry_word s.shape s.cons (length s.response) (frame_at e.request (n / 1024)) (n % 1024) then s.response ++ value ∷ [] else s.response) ≡ s.response
        kept = ap (λ (b : Bool). if b then s.response ++ value ∷ [] else s.response) no_entry

    -- what is told of a sector tells nothing of the ring
    abbrev sector : Bool → List ℕ → View
    sector b words = if b then record v { words = words; told = Some (told.Sector e.request.number (n / 128) words) } else record v { words = words }

    told_as : (x : View) (t : Option Told) → x.told ≡ t → word_of_told t ≡ None → AnswerIsRead (let u : FrontSight = after_move s data_read in u.response) t
        → ((due : Option ℕ) → (let u : FrontSight = fold after_line (record s { due = due }) (front_lines t) in KnownBy u x.stage x)) → RingGoes s data_read x
    told_as x t is unbroken answered known =
        told_goes x (ap word_of_told is ∙ unbroken) (subst (λ (o : Option Told). AnswerIsRead (let u : FrontSight = after_move s data_read in u.response) o) (sym is) answered)
        (λ opened due. subst (λ (o : Option Told). (let u : FrontSight = fold after_line (record s { due = due }) (front_lines o) in KnownBy u x.stage x)) (sym is) (known due))

    more_goes : (f : View → View) (b : Bool) (words : List ℕ) → (f (sector true words)).told ≡ Some (told.Sector e.request.number (n / 128) words) → (f (sector false words)).told ≡ None
        → KnownBy s (f (sector true words)).stage (f (sector true words)) → KnownBy s (f (sector false words)).stage (f (sector false words)) → RingGoes s data_read (f (sector b words))
    more_goes f true words one two known other = told_as (f (sector true words)) (Some (told.Sector e.request.number (n / 128) words)) one refl tt (λ due. known)
    more_goes f false words one two known other = told_as (f (sector false words)) None two refl tt (λ due. other)

    tells : v.ending ≡ Some e → RingGoes s data_read (data_step (Some e) n value v)
    tells is =
        either (nat_lt (n + 1) (words_in e.request)) s data_read (at (stage.ReadData (n + 1)) (sector_told e n (slice_set v.words (n % 128) value) v)) (finished e (sector_told e n (slice_set v.words (n % 128) value) v))
        (more_goes (at (stage.ReadData (n + 1))) (n % 128 == 127) (slice_set v.words (n % 128) value) refl quiet (record { agree = agree; at = telling }) (record { agree = agree; at = telling }))
        (more_goes (finished e) (n % 128 == 127) (slice_set v.words (n % 128) value) refl quiet (record { agree = agree; at = none }) (record { agree = agree; at = none }))
      where
        telling : IsTelling v.ending s.response
        telling = record { e = e; ending_is = is; pooled = pooled; none = none }

    tells_left : v.ending ≡ Some e → IsAnew v → RingGoes s data_read (left_step (Some e) n value v)
    tells_left is anew =
        either (nat_lt (n + 1) (words_in e.request)) s data_read (at (stage.LeftData (n + 1)) (sector_told e n (slice_set v.words (n % 128) value) v)) (at (stage.RingWord 0) (finished e (sector_told e n (slice_set v.words (n % 128) value) v)))
        (more_goes (at (stage.LeftData (n + 1))) (n % 128 == 127) (slice_set v.words (n % 128) value) refl quiet (record { agree = agree; at = (anew, telling) }) (record { agree = agree; at = (anew, telling) }))
        (more_goes (λ (x : View). at (stage.RingWord 0) (finished e x)) (n % 128 == 127) (slice_set v.words (n % 128) value) refl quiet (record { agree = agree; at = (anew, none) }) (record { agree = agree; at = (anew, none) }))
      where
        telling : IsTelling v.ending s.response
        telling = record { e = e; ending_is = is; pooled = pooled; none = none }

  read_goes : (o : Option Ending) (n : ℕ) → v.ending ≡ o → IsTelling v.ending s.response → Agree (core_of s) (share_of v) None → front_act h (read_ask o n) ≡ Some a → Goes (step_at (stage.ReadData n) v) a
  read_goes None n is telling agree e = absurd (none-some telling.e (sym is ∙ telling.ending_is))
  read_goes (Some e) n is telling agree acts =
      let same : telling.e ≡ e = same_Some telling.e e (sym telling.ending_is ∙ is) in
      of_front (Goes (step_at (stage.ReadData n) v)) _ a
      (subst (λ (o : Option Ending). RingGoes s (moves.FrontRead (frame_at e.request (n / 1024)) (n % 1024) (word_of h.pages (frame_at e.request (n / 1024)) (n % 1024))) (data_step o n (word_of h.pages (frame_at e.request (n / 1024)) (n % 1024)) v)) (sym is)
      (tells e (subst (λ (x : Ending). HasPooled x.request) same telling.pooled) telling.none agree n _ is)) acts

  left_goes : (o : Option Ending) (n : ℕ) → v.ending ≡ o → IsAnew v → IsTelling v.ending s.response → Agree (core_of s) (share_of v) None → front_act h (read_ask o n) ≡ Some a → Goes (step_at (stage.LeftData n) v) a
  left_goes None n is anew telling agree e = absurd (none-some telling.e (sym is ∙ telling.ending_is))
  left_goes (Some e) n is anew telling agree acts =
      let same : telling.e ≡ e = same_Some telling.e e (sym telling.ending_is ∙ is) in
      of_front (Goes (step_at (stage.LeftData n) v)) _ a
      (subst (λ (o : Option Ending). RingGoes s (moves.FrontRead (frame_at e.request (n / 1024)) (n % 1024) (word_of h.pages (frame_at e.request (n / 1024)) (n % 1024))) (left_step o n (word_of h.pages (frame_at e.request (n / 1024)) (n % 1024)) v)) (sym is)
      (tells_left e (subst (λ (x : Ending). HasPooled x.request) same telling.pooled) telling.none agree n _ is anew)) acts

  -- a request is issued, word by word
  issued_on : (P : Option Request → Type 0) → IsIssuing (next_request v) s.response → ((r : Request) → next_request v ≡ Some r → s.response ≡ [] → P (Some r)) → P (next_request v)
  issued_on P issuing each = subst P (sym issuing.next_is) (each issuing.r issuing.next_is issuing.none)

  -- the pages of the ring
  flags_goes : (page : ℕ) → IsPage page s.response → Agree (core_of s) (share_of v) None → front_act h (ask_at (stage.RingFlags page) v) ≡ Some a → Goes (step_at (stage.RingFlags page) v) a
  flags_goes page at_page agree e =
      of_front (Goes (step_at (stage.RingFlags page) v)) _ a
      (by_more (nat_lt (page + 1) (2 ^ v.shape.order)) refl) e
    where
      near : ((reference_of (2 + page) / 512 == 2) && (2 * (reference_of (2 + page) % 512) == 0)) ≡ false
      near = let within = at_page.few in near_producer (reference_of (2 + page) / 512) (2 * (reference_of (2 + page) % 512)) (omega arith)

      by_more : (b : Bool) → nat_lt (page + 1) (2 ^ v.shape.order) ≡ b → RingGoes s (moves.FrontWrite (reference_of (2 + page) / 512) (2 * (reference_of (2 + page) % 512)) 1) (at (if b then stage.RingFrame (page + 1) else stage.NewPort) v)
      by_more true is =
          let within = few_pages v.shape.order few in
          let less : page + 1 < 2 ^ v.shape.order = grind (arith, nat_tests) in
          puts s v quiet few agree _ _ 1 (stage.RingFrame (page + 1)) near (record { agree = agree; at = record { few = omega arith; none = at_page.none } })
      by_more false is = puts s v quiet few agree _ _ 1 stage.NewPort near (record { agree = agree; at = at_page.none })

  ring_end_goes : (page old word : ℕ) → IsPage page s.response → Agree (core_of s) (share_of v) None
      → Ends s v quiet (at (if nat_lt (page + 1) (2 ^ v.shape.order) then stage.RingRead (page + 1) else stage.ClosePort) v)
  ring_end_goes page old word at_page agree = by_more (nat_lt (page + 1) (2 ^ v.shape.order)) refl
    where
      by_more : (b : Bool) → nat_lt (page + 1) (2 ^ v.shape.order) ≡ b → Ends s v quiet (at (if b then stage.RingRead (page + 1) else stage.ClosePort) v)
      by_more true is =
          let within = few_pages v.shape.order few in
          let less : page + 1 < 2 ^ v.shape.order = grind (arith, nat_tests) in
          quiet_ends (at (stage.RingRead (page + 1)) v) quiet (record { agree = agree; at = record { few = omega arith; none = at_page.none } })
      by_more false is = quiet_ends (at stage.ClosePort v) quiet (record { agree = agree; at = at_page.none })

  either_both : (b : Bool) (shown : Move) (t u : FrontStage) → RingGoes s shown (at t v) → RingGoes s shown (at u v) → RingGoes s shown (at (if b then t else u) v)
  either_both b shown t u p q = either_at b s shown t u v p q

  -- whatever stage it is at
  pub ring_goes : (t : FrontStage) → v.stage ≡ t → KnownBy s t v → front_act h (ask_at t v) ≡ Some a → Goes (step_at t v) a
  ring_goes (stage.RingWord k) here known e = of_front (Goes (step_at (stage.RingWord k) v)) _ a (word_goes s v quiet few known.agree k known.at.0 known.at.1) e
  ring_goes (stage.RingFrame page) here known e = of_front (Goes (step_at (stage.RingFrame page) v)) _ a (puts s v quiet few known.agree _ _ _ (stage.RingFence page) (odd_producer (reference_of (2 + page) / 512) (2 * (reference_of (2 + page) % 512))) (record { agree = known.agree; at = known.at })) e
  ring_goes (stage.RingFence page) here known e = of_front (Goes (step_at (stage.RingFence page) v)) _ a (fences (stage.RingFlags page) (record { agree = known.agree; at = known.at })) e
  ring_goes (stage.RingFlags page) here known e = flags_goes page known.at known.agree e
  ring_goes stage.NewPort here known e = of_front (Goes (step_at stage.NewPort v)) _ a (makes_port stage.Initialised (record { agree = known.agree; at = known.at }) _) e
  ring_goes stage.Initialised here known e = waits stage.Initialised here known (step_at stage.Initialised v) refl (λ path. refl) e
  ring_goes stage.Loop here known e = loop_goes (next_request v) refl here known.at known.agree e
  ring_goes (stage.Data n) here known e =
      issued_on (λ o. front_act h (data_ask o n) ≡ Some a → RingGoes s a.shown (at (data_stage o n) v)) known.at
      (λ r is none. of_front (Goes (λ x. at (data_stage (Some r) n) v)) _ a (data_goes s v quiet few known.agree r is none n _)) e
  ring_goes (stage.Pages n) here known e =
      issued_on (λ o. front_act h (page_ask o n) ≡ Some a → RingGoes s a.shown (at (page_stage o n) v)) known.at
      (λ r is none. of_front (Goes (λ x. at (page_stage (Some r) n) v)) _ a (page_goes s v quiet few known.agree r is none n _)) e
  ring_goes (stage.GrantFrame place) here known e =
      issued_on (λ o. front_act h (name_ask o place) ≡ Some a → RingGoes s a.shown (at (stage.GrantFence place) v)) known.at
      (λ r is none. of_front (Goes (λ x. at (stage.GrantFence place) v)) _ a (name_goes s v quiet few known.agree r is none place _)) e
  ring_goes (stage.GrantFence place) here known e = of_front (Goes (step_at (stage.GrantFence place) v)) _ a (fences (stage.GrantFlags place) (record { agree = known.agree; at = known.at })) e
  ring_goes (stage.GrantFlags place) here known e =
      issued_on (λ o. front_act h (grant_ask o place) ≡ Some a → RingGoes s a.shown (granted o place v)) known.at
      (λ r is none. of_front (Goes (λ x. granted (Some r) place v)) _ a (granted_goes s v quiet few known.agree r is none place _)) e
  ring_goes (stage.Slot k) here known e = let at = known.at in of_front (Goes (step_at (stage.Slot k) v)) _ a (slot_goes s v quiet few known.agree at.r at.next_is at.none k at.entry_is at.words) e
  ring_goes stage.Producer here known e = let at = known.at in of_front (Goes (step_at stage.Producer v)) _ a (pushed_goes s v quiet few known.agree at.r at.next_is at.none at.words) e
  ring_goes (stage.ProducerFence old) here known e = of_front (Goes (step_at (stage.ProducerFence old) v)) _ a (fences (stage.RequestEvent old) (record { agree = known.agree; at = known.at })) e
  ring_goes (stage.RequestEvent old) here known e =
      of_front (Goes (step_at (stage.RequestEvent old) v)) _ a
      (either_both (notifies old v.ring.indices.prod _) _ stage.Send stage.Loop (event_goes stage.Send known.at (record { agree = known.agree; at = known.at })) (event_goes stage.Loop known.at (record { agree = known.agree; at = known.at }))) e
    where
      event_goes : (t : FrontStage) → s.response ≡ [] → Known t (core_of s) s.response s.written (at t v) → RingGoes s (moves.FrontRead 2 1 (word_of h.pages 2 1)) (at t v)
      event_goes t none known =
          saw s v quiet 2 1 _ (at t v) (rw (beside_entry s.shape s.cons 2 2 1 (omega arith)) refl) (beside_entry s.shape s.cons (length s.response) 2 1 (omega arith)) (λ three. unread s.response none three) quiet known
  ring_goes stage.Send here known e = of_front (Goes (step_at stage.Send v)) _ a (sends stage.Loop (record { agree = known.agree; at = known.at })) e
  ring_goes (stage.ResponseHigh low) here known e =
      of_front (Goes (step_at (stage.ResponseHigh low) v)) _ a
      (let agree = known.agree in entry_goes s v quiet 1 (low ∷ []) _ (at (stage.ResponseLast low _) v) (λ same. absurd (omega arith)) (omega arith) agree.shape agree.cons known.at refl quiet (record { agree = agree; at = refl })) e
  ring_goes (stage.ResponseLast low high) here known e = of_front (Goes (step_at (stage.ResponseLast low high) v)) _ a (last_goes low high _ known.at known.agree) e
  ring_goes (stage.GrantRead place) here known e = revoke_goes v.ending place refl known e
  ring_goes (stage.GrantEnd place old) here known e = end_goes v.ending place old refl known e
  ring_goes (stage.ReadData n) here known e = read_goes v.ending n refl known.at known.agree e
  ring_goes (stage.LeftData n) here known e = left_goes v.ending n refl known.at.0 known.at.1 known.agree e
  ring_goes stage.StoreEvent here known e = of_front (Goes (step_at stage.StoreEvent v)) _ a (puts s v quiet few known.agree 2 3 _ stage.EventFence refl (record { agree = known.agree; at = known.at })) e
  ring_goes stage.EventFence here known e = of_front (Goes (step_at stage.EventFence v)) _ a (fences stage.LookAgain (record { agree = known.agree; at = known.at })) e
  ring_goes stage.LookAgain here known e =
      of_front (Goes (step_at stage.LookAgain v)) _ a
      (let agree = known.agree in look_goes s v quiet _ _ agree.cons agree.prod known.at quiet (record { agree = agree; at = known.at }) (record { agree = agree; at = known.at })) e
  ring_goes (stage.RingRead page) here known e =
      let at = known.at in
      let few_page = at.few in
      of_front (Goes (step_at (stage.RingRead page) v)) _ a
      (grant_goes s v quiet (reference_of (2 + page)) _ (stage.RingEnd page _) (omega arith) (record { agree = known.agree; at = known.at })) e
  ring_goes (stage.RingEnd page old) here known e = of_front (Goes (step_at (stage.RingEnd page old) v)) _ a (exchange_goes s v quiet _ _ old _ _ (ring_end_goes page old 0 known.at known.agree)) e
  ring_goes stage.ClosePort here known e = of_front (Goes (step_at stage.ClosePort v)) _ a (closes_port stage.Left (record { agree = known.agree; at = known.at })) e
  ring_goes (stage.KeptRead frame) here known e = waits (stage.KeptRead frame) here known (step_at (stage.KeptRead frame) v) refl (λ path. refl) e
  ring_goes (stage.KeptEnd frame seen) here known e = waits (stage.KeptEnd frame seen) here known (step_at (stage.KeptEnd frame seen) v) refl (λ path. refl) e
  ring_goes (stage.Broken word) here known e = waits (stage.Broken word) here known (step_at (stage.Broken word) v) refl (λ path. refl) e
  ring_goes other here known e = waits other here known (step_at other v) refl (λ path. refl) e
