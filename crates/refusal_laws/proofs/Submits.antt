-- A submission is answered by the rule, and an accepted one is open then.
use Rattle.std.proofs.Common.{◌≡◌, ℕ, ◌+◌, ◌≤◌, ◌==◌, ◌&&◌, ◌||◌, Bool, true, false, true≢false, not, if◌then◌else◌, List, [], ◌∷◌, ◌++◌, length, refl, ap, sym, ◌∙◌, subst}
use Rattle.std.specs.Prelude.{Option, Some, None, Result, Ok, Err, fold, nat_lt, nat_le}
use Rattle.std.proofs.lemmas.Option.{none-some, same_Some}
use Rattle.std.proofs.lemmas.Bool.{not-false}
use Rattle.blk_base.specs.Options.{Options}
use Rattle.blk_base.specs.declared.config.Submission.{Submission}
use Rattle.blk_base.specs.declared.config.Submission.TheVariants as submissions
use Rattle.blk_base.specs.declared.refusal.Refusal.{Refusal}
use Rattle.plain_disk.specs.declared.request.DiskRequest.{DiskRequest}
use Rattle.plain_disk.specs.declared.sight.Sight.{Sight}
use Rattle.plain_disk.specs.Request.{opened}
use Rattle.plain_disk.specs.Refusal.{refusal_by, refusal_at}
use Rattle.ring_words.specs.Shape.{entries_of}
use Rattle.blk_front.specs.declared.request.Transfer.TheVariants as transfer
use Rattle.blk_front.specs.declared.request.Wish.{Wish}
use Rattle.blk_front.specs.declared.stage.Ending.{Ending}
use Rattle.blk_front.specs.declared.stage.FrontStage.{FrontStage}
use Rattle.blk_front.specs.declared.stage.FrontStage.TheVariants as stage
use Rattle.blk_front.specs.declared.state.Offers.{Offers}
use Rattle.blk_base.specs.declared.refusal.Refusal.TheVariants as refusal
use Rattle.blk_front.specs.Pool.{taking}
use Rattle.blk_front.specs.Request.{is_write, named_of, frames_for, IsCounted}
use Rattle.blk_front.specs.View.{View}
use Rattle.blk_front.specs.Submit.{is_ready, ending_of, unfinished, wished, wish_of, most_segments, frames_taken, request_with, accepted, submit_with, submit_one, submit_of}
use Rattle.split_model.specs.Happening.{submit_line}
use Rattle.machine_pipeline.specs.Allowed.{IsServable}
use Rattle.machine_pipeline.proofs.Flow.{ending_at, count_of, submitted_job}
use Rattle.machine_pipeline.proofs.Growing.{longer}
use Rattle.machine_pipeline.proofs.Refusing.{answer_of, AreAlike, ruled_alike}
use Rattle.machine_pipeline.proofs.Submissions.{moves_some, moves_none}
use Rattle.vbd_front.specs.View.{is_broken}
use Rattle.refusal_laws.specs.Ruled.{asked_step}
use Rattle.refusal_laws.proofs.Asked.{AreAsked, asked_more}
use Rattle.refusal_laws.proofs.Stands.{share_of, Stands, IsHeldAt, Keeps}

-- whether a front that doesn't close is ready
seen_ready : (closing connected broken ready : Bool) → (closing ≡ false → ready ≡ (connected && not broken)) → (not closing && (not connected || broken)) ≡ (not closing && (not ready || false))
seen_ready true connected broken ready is = refl
seen_ready false true true ready is = rw (is refl) refl
seen_ready false true false ready is = rw (is refl) refl
seen_ready false false broken ready is = rw (is refl) refl

-- one that isn't refuses, whatever else
unready_answer : (v : View) (one : Result ℕ Refusal × View) (spent closing : Bool) (rest : Option Refusal)
    → (if spent then Some refusal.Spent else (if not closing && (not false || false) then Some refusal.NotReady else (if closing then Some refusal.Closing else rest)))
    ≡ answer_of (if spent then (Err refusal.Spent, v) else (if closing then (Err refusal.Closing, v) else (if not false then (Err refusal.NotReady, v) else one))).0
unready_answer v one true closing rest = refl
unready_answer v one false true rest = refl
unready_answer v one false false rest = refl

-- as many requests end as the front's stage says
as_many : (t : FrontStage) (ending : Option Ending) → IsHeldAt t ending → count_of (ending_at t ending) ≡ ending_of t
as_many (stage.GrantRead place) ending held = rw held.1 refl
as_many (stage.GrantEnd place before) ending held = rw held.1 refl
as_many (stage.ReadData n) ending held = rw held.1 refl
as_many (stage.LeftData n) ending held = rw held.1 refl
as_many t ending held = refl

ready_whole : (t : FrontStage) → is_ready t ≡ true → is_broken t ≡ false
ready_whole (stage.Broken word) ready = absurd (true≢false (sym ready))
ready_whole t ready = refl

module _ (config : Options) (narrow : config.indirect ≤ 960) (s : Sight) (asked : List DiskRequest) (v : View) (keeps : Keeps config v s asked) where
  h : Stands config (share_of v) (is_ready v.stage) (is_broken v.stage) (ending_at v.stage v.ending) s asked
  h = keeps.0

  are : is_ready v.stage ≡ true → AreAsked asked v.requests (ending_at v.stage v.ending) v.pool
  are ready = h.are (ready_whole v.stage ready)

  alike : is_ready v.stage ≡ true → AreAlike config v asked
  alike ready =
      let its = are ready in
      let pooled = its.pooled in
      record {
        spent = h.last;
        opened = its.opened ∙ ap (λ (n : ℕ). length v.requests + n) (as_many v.stage v.ending keeps.1);
        held = its.held ∙ sym pooled.used;
        size = pooled.size;
        order = h.order;
        offers = h.offers;
      }

  as_ready : (submission : Submission) → refusal_by s config asked submission ≡ refusal_by (record { config = Some config; connected = is_ready v.stage; closing = v.closing; broken = false }) config asked submission
  as_ready submission = rw (h.closing, seen_ready v.closing s.connected s.broken (is_ready v.stage) h.ready_is) refl

  -- the rule's answer is the front's
  pub ruled : (submission : Submission) → refusal_at s s.config asked submission ≡ answer_of (submit_of v submission).0
  ruled submission = ap (λ (o : Option Options). refusal_at s o asked submission) h.options ∙ (as_ready submission ∙ by_ready (is_ready v.stage) refl)
    where
      by_ready : (b : Bool) → is_ready v.stage ≡ b → refusal_by (record { config = Some config; connected = is_ready v.stage; closing = v.closing; broken = false }) config asked submission ≡ answer_of (submit_of v submission).0
      by_ready true ready = ruled_alike config v asked submission narrow (alike ready)
      by_ready false unready = rw (unready, h.last) (unready_answer v (submit_one v (wish_of v.offers submission)) (v.last == 4294967295) v.closing _)

-- what is accepted, where a submission is: a wish that the back serves, no longer than it may be, with frames of the pool
module _ (P : Result ℕ Refusal × View → Type 0) (v : View) (submission : Submission) (refused : (r : Refusal) → P (Err r, v))
    (accepts : (wish : Wish) (taken : List ℕ × List Bool) → is_ready v.stage ≡ true → wish_of v.offers submission ≡ Some wish → nat_lt (most_segments v.offers wish.transfer) (frames_for wish.count) ≡ false → taking (frames_taken wish.count) v.pool [] ≡ Some taken → P (Ok (v.last + 1), accepted v wish taken)) where
  either : (b : Bool) (y z : Result ℕ Refusal × View) → P y → (b ≡ false → P z) → P (if b then y else z)
  either true y z p q = p
  either false y z p q = q refl

  with_frames : (wish : Wish) → is_ready v.stage ≡ true → wish_of v.offers submission ≡ Some wish → nat_lt (most_segments v.offers wish.transfer) (frames_for wish.count) ≡ false → (o : Option (List ℕ × List Bool)) → taking (frames_taken wish.count) v.pool [] ≡ o → P (submit_with v wish o)
  with_frames wish ready asks short None e = refused refusal.Buffers
  with_frames wish ready asks short (Some taken) e = accepts wish taken ready asks short e

  with_wish : is_ready v.stage ≡ true → (o : Option Wish) → wish_of v.offers submission ≡ o → P (submit_one v o)
  with_wish ready None e = refused refusal.Unsupported
  with_wish ready (Some wish) e =
      either (is_write wish.transfer && v.offers.read_only) (Err refusal.ReadOnly, v) _ (refused refusal.ReadOnly) (λ may.
      either (nat_lt v.offers.sectors (wish.sector + named_of wish.transfer wish.count)) (Err refusal.Range, v) _ (refused refusal.Range) (λ on_disk.
      either (nat_lt (most_segments v.offers wish.transfer) (frames_for wish.count)) (Err refusal.Long, v) _ (refused refusal.Long) (λ short.
      either (nat_le (entries_of v.shape.order) (unfinished v)) (Err refusal.Full, v) _ (refused refusal.Full) (λ free.
      with_frames wish ready e short (taking (frames_taken wish.count) v.pool []) refl))))

  pub submit_parts : P (submit_of v submission)
  submit_parts =
      either (v.last == 4294967295) (Err refusal.Spent, v) _ (refused refusal.Spent) (λ unspent.
      either v.closing (Err refusal.Closing, v) _ (refused refusal.Closing) (λ stays.
      either (not (is_ready v.stage)) (Err refusal.NotReady, v) _ (refused refusal.NotReady) (λ ready. with_wish (not-false (is_ready v.stage) ready) (wish_of v.offers submission) refl)))

-- the wish is the submission's
abbrev IsOf : Offers → Submission → Wish → Type 0
IsOf offers submission wish = nat_lt (most_segments offers wish.transfer) (frames_for wish.count) ≡ false → (submission ≡ submitted_job wish.transfer wish.sector wish.count) × IsCounted wish.transfer wish.count

offered_wish : (offered : Bool) (x wish : Wish) → wished offered x ≡ Some wish → x ≡ wish
offered_wish true x wish e = same_Some x wish e
offered_wish false x wish e = absurd (none-some wish e)

wish_is : (offers : Offers) (submission : Submission) (wish : Wish) → IsServable submission → wish_of offers submission ≡ Some wish → IsOf offers submission wish
wish_is offers (submissions.Read sector count) wish some e = subst (IsOf offers (submissions.Read sector count)) (offered_wish true _ wish e) (λ short. (refl, moves_some offers transfer.Read count refl some short))
wish_is offers (submissions.Write sector count tag) wish some e = subst (IsOf offers (submissions.Write sector count tag)) (offered_wish true _ wish e) (λ short. (refl, moves_some offers (transfer.Write tag) count refl some.0 short))
wish_is offers (submissions.Barrier sector count tag) wish some e = subst (IsOf offers (submissions.Barrier sector count tag)) (offered_wish offers.barrier _ wish e) (λ short. (refl, moves_some offers (transfer.Barrier tag) count refl some.0 short))
wish_is offers submissions.Flush wish some e = subst (IsOf offers submissions.Flush) (offered_wish offers.flush _ wish e) (λ short. (refl, moves_none transfer.Flush refl))
wish_is offers (submissions.Discard sector count) wish some e = subst (IsOf offers (submissions.Discard sector count)) (offered_wish offers.discard _ wish e) (λ short. (refl, moves_none (transfer.Discard count) refl))

-- an accepted request is open, under the front's next number
pub submit_goes : (config : Options) (s : Sight) (asked : List DiskRequest) (v : View) (submission : Submission) → IsServable submission → Keeps config v s asked → (let y : Result ℕ Refusal × View = submit_of v submission in Keeps config y.1 s (fold asked_step asked (submit_line submission y.0 ∷ [])))
submit_goes config s asked v submission some keeps =
    submit_parts (λ (y : Result ℕ Refusal × View). Keeps config y.1 s (fold asked_step asked (submit_line submission y.0 ∷ []))) v submission (λ r. keeps) (λ wish taken ready asks short frames. (goes wish taken ready frames (wish_is v.offers submission wish some asks short), keeps.1))
  where
    h : Stands config (share_of v) (is_ready v.stage) (is_broken v.stage) (ending_at v.stage v.ending) s asked
    h = keeps.0

    goes : (wish : Wish) (taken : List ℕ × List Bool) → is_ready v.stage ≡ true → taking (frames_taken wish.count) v.pool [] ≡ Some taken → (submission ≡ submitted_job wish.transfer wish.sector wish.count) × IsCounted wish.transfer wish.count
        → Stands config (share_of (accepted v wish taken)) (is_ready v.stage) (is_broken v.stage) (ending_at v.stage v.ending) s (asked ++ opened submission ∷ [])
    goes wish taken ready frames is = record {
      options = h.options;
      closing = h.closing;
      broken_is = h.broken_is;
      ready_is = h.ready_is;
      order = h.order;
      offers = h.offers;
      last = longer asked (opened submission) ∙ ap (λ (n : ℕ). n + 1) h.last;
      are = λ whole. asked_more asked v.requests (ending_at v.stage v.ending) v.pool taken.1 (request_with v wish taken.0) (opened submission) (ap (λ (n : ℕ). n + 1) (sym h.last)) is.0 refl is.1 frames (h.are whole);
    }
