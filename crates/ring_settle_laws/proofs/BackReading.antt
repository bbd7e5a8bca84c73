-- Moves of the back in its loop and as it goes to sleep: it reads the producer of requests, and begins to copy an entry or to write a response.
use Rattle.std.proofs.Common.{◌≡◌, ℕ, zero, suc, ◌+◌, ◌-◌, ◌*◌, ◌^◌, ◌<◌, ◌≤◌, ◌==◌, Bool, true, false, if◌then◌else◌, List, [], ◌∷◌, length, refl, subst, arith}
use Rattle.std.specs.Prelude.{Option, Some, None, position, remove}
use Rattle.std.proofs.lemmas.Bool.Decides.{nat_tests}
use Rattle.std.proofs.lemmas.List.Sums.{sum_by-cons}
use Rattle.blk_base.specs.Distance.{distance_of}
use Rattle.blk_base.specs.declared.ask.BackAnswer.{BackAnswer}
use Rattle.blk_base.specs.declared.ask.BackAnswer.TheVariants as answer
use Rattle.blk_base.specs.declared.ask.BackAsk.TheVariants as ask
use Rattle.blk_base.specs.declared.moves.BackMover.TheVariants as back_mover
use Rattle.blk_base.specs.declared.operation.Abi.{Abi}
use Rattle.blk_base.specs.declared.operation.Abi.TheVariants.{X64, X32}
use Rattle.blk_base.specs.declared.parts.End.TheVariants as end
use Rattle.ring_words.specs.Ring.{Ring, requests_of, overruns}
use Rattle.ring_words.specs.Shape.{entry_words_of}
use Rattle.xen_pages.specs.Pages.{word_of}
use Rattle.grant_table.specs.Table.{frame_of}
use Rattle.event_channel.specs.Channels.{taken}
use Rattle.hypervisor.specs.Act.{BackAct, Took, back_act}
use Rattle.back_jobs.specs.Work.{Work}
use Rattle.back_jobs.specs.Jobs.{is_done, removed_at}
use Rattle.blk_back.specs.declared.stage.Reply.{Reply}
use Rattle.blk_back.specs.declared.stage.BackStage.{BackStage}
use Rattle.blk_back.specs.declared.stage.BackStage.TheVariants as stage
use Rattle.blk_back.specs.View as back
use Rattle.blk_back.specs.View.{page_of}
use Rattle.blk_back.specs.Ask.{next_reply, loop_ask, index_ask, entry_ask}
use Rattle.blk_back.specs.Step.{looked, loop_step, step_at, overrun}
use Rattle.back_laws.specs.BackLeft.{awake_left, gained, IsShown}
use Rattle.back_laws.specs.JobLeft as job
use Rattle.back_laws.specs.JobLeft.{all_left}
use Rattle.split_model.specs.World.{World}
use Rattle.machine_pipeline.proofs.BackFetch.{entry_word}
use Rattle.machine_pipeline.proofs.Flow.{wrapped}
use Rattle.machine_pipeline.proofs.Turns.{back_turn_at}
use Rattle.ring_settle_laws.specs.Left.{back_sends, front_saw, back_saw, marks_left}
use Rattle.ring_settle_laws.proofs.BackSums.{beside, PaysTo, LowersTo, FallsTo, Pays, Falls, falls, pays_by, same, of_act, taken_branch, other_branch, waiting, event_pays}
use Rattle.front_laws.proofs.Issued.{few_words}

-- a job that leaves the list takes what is left to it along
removed_left : (works : List Work) (place : ℕ) → all_left (remove works place) ≤ all_left works
removed_left [] zero = omega arith
removed_left [] (suc place) = omega arith
removed_left (t ∷ works) zero = omega (arith, sum_by-cons job.left_of t works)
removed_left (t ∷ works) (suc place) = omega (arith, sum_by-cons job.left_of t works, sum_by-cons job.left_of t (remove works place), removed_left works place)

without_left : (works : List Work) (found : Option ℕ) → all_left (removed_at works found) ≤ all_left works
without_left works None = omega arith
without_left works (Some place) = removed_left works place

-- distances to a word between, and on from it, add up: here the word is the producer itself
pub reached : (a b word : ℕ) → b < 2 ^ 32 → word ≡ b → distance_of a word + distance_of word b ≤ distance_of a b
reached a b word small e = let none : distance_of word b ≡ 0 = omega arith in rw (none, e) (omega arith)

-- where nothing is left to fetch of what was seen, the back has seen what it fetched
pub all_fetched : (start replied fetched seen entries word : ℕ) (ring : Ring) → entries ≤ 512 → ring.entries ≡ entries → ring.prod ≡ wrapped start replied → ring.cons ≡ wrapped start fetched → word ≡ wrapped start seen
    → replied ≤ fetched → fetched ≤ seen → seen ≤ replied + entries → (requests_of ring word == 0) ≡ true → seen ≡ fetched
all_fetched start replied fetched seen entries word ring few size prod cons here from to within none =
    let ahead : distance_of ring.cons word ≡ seen - fetched = omega arith in
    let owed : distance_of ring.prod ring.cons ≡ fetched - replied = omega arith in
    let zero : requests_of ring word ≡ 0 = grind (arith, nat_tests) in
    omega (arith, ahead, owed, zero)

looks : (s s' j p d y y' m r r' g : ℕ) → s' ≡ 0 → d + y' ≤ y → r' ≤ r → g ≡ 39 * d → s' + j + (7 * p + 39 * y') + m + r' + g ≤ s + j + (7 * p + 39 * y) + m + r + 0
looks s s' j p d y y' m r r' g none reaches requests gain = omega arith

module _ (w : World) (before after : ℕ) (less : after ≤ before) where
  abbrev pub cons : ℕ
  cons = w.back.ring.indices.cons

  abbrev pub shown : ℕ
  shown = w.front.ring.indices.prod

  -- the word that is read lies between the back's consumer and the front's producer, for which the distances add up
  abbrev pub Reaches : BackStage → ℕ → Type 0
  Reaches b word = distance_of cons word + distance_of word shown ≤ distance_of (back_saw b w.back) shown

  abbrev looks_at : (b : BackStage) (word y' : ℕ) → distance_of cons word + y' ≤ distance_of (back_saw b w.back) shown → gained b w.back (answer.Word word) ≡ 39 * distance_of cons word
      → 0 + all_left w.back.jobs.works + (7 * distance_of (front_saw w.front.stage w.front) w.back.ring.indices.prod + 39 * y') + marks_left w.under.channels + after + gained b w.back (answer.Word word)
      ≤ beside w.front b w.back w.under.channels + before + 0
  looks_at b word y' reaches gain =
      looks (back_sends b) 0 (all_left w.back.jobs.works) (distance_of (front_saw w.front.stage w.front) w.back.ring.indices.prod) (distance_of cons word) (distance_of (back_saw b w.back) shown) y' (marks_left w.under.channels) before after
      (gained b w.back (answer.Word word)) refl reaches less gain

  -- nothing is new, or something is seen
  pub looked_pays : (b : BackStage) (word : ℕ) (otherwise : back.View) → overruns w.back.ring.indices word ≡ false → Reaches b word → gained b w.back (answer.Word word) ≡ 39 * distance_of cons word
      → (word ≡ cons → PaysTo w b otherwise (answer.Word word) w.under.channels before after)
      → PaysTo w b (looked w.back word otherwise) (answer.Word word) w.under.channels before after
  looked_pays b word otherwise within reaches gain none =
      other_branch (λ (v : back.View). PaysTo w b v (answer.Word word) w.under.channels before after) (overruns w.back.ring.indices word) (overrun w.back word) _ within (by_test (word == cons) refl)
    where
      by_test : (t : Bool) → (word == cons) ≡ t → PaysTo w b (if t then otherwise else record w.back { ring = record w.back.ring { seen = word }; stage = stage.Loop }) (answer.Word word) w.under.channels before after
      by_test true e = none (grind (arith, nat_tests))
      by_test false e = looks_at b word (distance_of word shown) reaches gain

  -- the back stores its event word, or goes to sleep
  pub store_pays : (word : ℕ) → Reaches stage.Loop word → word ≡ cons → PaysTo w stage.Loop (record w.back { ring = record w.back.ring { seen = word }; stage = stage.StoreEvent }) (answer.Word word) w.under.channels before after
  store_pays word reaches e = looks_at stage.Loop word (distance_of cons shown) (subst (λ (n : ℕ). distance_of cons word + distance_of n shown ≤ distance_of (back_saw stage.Loop w.back) shown) e reaches) refl

  pub sleep_pays : (word : ℕ) → Reaches stage.LookAgain word → PaysTo w stage.LookAgain (record w.back { ring = record w.back.ring { seen = word; asleep = true }; stage = stage.Loop }) (answer.Word word) w.under.channels before after
  sleep_pays word reaches = looks_at stage.LookAgain word (distance_of word shown) reaches refl

  -- the last look before it sleeps
  pub look_again_pays : (a : BackAct) (word : ℕ) → word ≡ word_of w.under.pages (frame_of w.under.grants (page_of w.back 0)) 0 → overruns w.back.ring.indices word ≡ false → Reaches stage.LookAgain word → back_turn_at stage.LookAgain w ≡ Some a
      → Pays w stage.LookAgain (step_at stage.LookAgain w.back) before after a
  look_again_pays a word is within reaches e = of_act (Pays w stage.LookAgain (step_at stage.LookAgain w.back) before after) _ a e
      (subst (λ (x : ℕ). PaysTo w stage.LookAgain (step_at stage.LookAgain w.back (answer.Word x)) (answer.Word x) w.under.channels before after) is
      (looked_pays stage.LookAgain word (record w.back { ring = record w.back.ring { seen = word; asleep = true }; stage = stage.Loop }) within reaches refl (λ none. sleep_pays word reaches)))

  -- an entry that was seen is begun to be copied: this lowers what is left to the back by itself
  begins : (awake words d jobs s m r r' k : ℕ) → awake ≡ 4 → words ≤ 28 → 0 < d → r' ≤ r → (words - 1) + 4 + 35 * (d - 1) + 7 * (jobs + 1) + m + r' + 1 ≤ awake + (35 * d + 7 * jobs) + m + r + k
  begins awake words d jobs s m r r' k up few some requests = omega arith

  pub begins_fetch : (word : ℕ) → w.back.ring.asleep ≡ false → 0 < distance_of cons w.back.ring.seen
      → FallsTo w stage.Loop (record w.back { ring = record w.back.ring { entry = word ∷ [] }; stage = stage.Fetch 1 }) (answer.Word word) w.under.channels before after
  begins_fetch word awake some =
      let up : awake_left w.back.ring.asleep ≡ 4 = rw awake refl in
      begins (awake_left w.back.ring.asleep) (entry_words_of w.back.shape.abi) (distance_of cons w.back.ring.seen) (length w.back.jobs.works) 0 (beside w.front stage.Loop w.back w.under.channels) before after 0 up (few_words w.back.shape.abi) some less

  -- a reply is begun, and its job leaves the list
  reply_pays : (r : Reply) (given : BackAnswer) → gained stage.Loop w.back given ≡ 0 → PaysTo w stage.Loop (loop_step w.back (Some r) given) given w.under.channels before after
  reply_pays r given none = pays_by w stage.Loop (loop_step w.back (Some r) given) given w.under.channels before after (omega (arith, none)) (without_left w.back.jobs.works (position (λ (t : Work). is_done t) w.back.jobs.works)) (same _) less

  -- in the loop the back replies, sleeps, reads the producer, or begins to copy an entry
  module _ (at : w.back.stage ≡ stage.Loop)
      (looks_well : (requests_of w.back.ring.indices w.back.ring.seen == 0) ≡ true → (let word : ℕ = word_of w.under.pages (frame_of w.under.grants (page_of w.back 0)) 0 in (word < 2 ^ 32) × (overruns w.back.ring.indices word ≡ false) × Reaches stage.Loop word)) where
    -- so it is with this reply, or none, where what is left to the back itself falls
    abbrev Claim : Option Reply → BackAct → Type 0
    Claim next a = (IsShown stage.Loop w.back a.answer → LowersTo w stage.Loop (loop_step w.back next a.answer) a.answer) → Falls w stage.Loop (loop_step w.back next) before after a

    woken_pays : w.back.ring.asleep ≡ true → w.under.channels.back_pending ≡ true → PaysTo w stage.Loop (loop_step w.back None answer.Event) answer.Event (taken w.under.channels end.Back) before after
    woken_pays asleep pending = pays_by w stage.Loop (loop_step w.back None answer.Event) answer.Event (taken w.under.channels end.Back) before after (rw at (omega (arith, event_pays w.under.channels pending))) (same _) (rw at (same _)) less

    watched_pays : (path : List ℕ) → PaysTo w stage.Loop w.back (answer.Watched path) w.under.channels before after
    watched_pays path = pays_by w stage.Loop w.back (answer.Watched path) w.under.channels before after (rw at (omega arith)) (same _) (rw at (same _)) less

    by_test : (a : BackAct) (t : Bool) → (requests_of w.back.ring.indices w.back.ring.seen == 0) ≡ t → w.back.ring.asleep ≡ false → back_act w.under back_mover.Back (if t then index_ask w.back 0 else entry_ask w.back 0) Took ≡ Some a → Claim None a
    by_test a true none awake e = of_act (Claim None) _ a e (λ low.
        let word : ℕ = word_of w.under.pages (frame_of w.under.grants (page_of w.back 0)) 0 in
        let well = looks_well none in
        falls w stage.Loop (loop_step w.back None (answer.Word word)) (answer.Word word) w.under.channels before after (low (well.0, well.1))
        (taken_branch (λ (v : back.View). PaysTo w stage.Loop v (answer.Word word) w.under.channels before after) (requests_of w.back.ring.indices w.back.ring.seen == 0) _ _ none
        (looked_pays stage.Loop word (record w.back { ring = record w.back.ring { seen = word }; stage = stage.StoreEvent }) well.1 well.2 refl (store_pays word well.2))))
    by_test a false some awake e = of_act (Claim None) _ a e (λ low.
        let word : ℕ = entry_word w 0 in
        other_branch (λ (v : back.View). FallsTo w stage.Loop v (answer.Word word) w.under.channels before after) (requests_of w.back.ring.indices w.back.ring.seen == 0) _ _ some
        (begins_fetch word awake (let ahead : 0 < distance_of cons w.back.ring.seen = grind (arith, nat_tests) in ahead)))

    by_asleep : (a : BackAct) (b : Bool) → w.back.ring.asleep ≡ b → back_act w.under back_mover.Back (if b then ask.Wait else (if requests_of w.back.ring.indices w.back.ring.seen == 0 then index_ask w.back 0 else entry_ask w.back 0)) Took ≡ Some a → Claim None a
    by_asleep a true is e = waiting (Claim None) w.under a e
        (λ pending low. falls w stage.Loop (loop_step w.back None answer.Event) answer.Event (taken w.under.channels end.Back) before after (low tt) (woken_pays is pending))
        (λ path low. falls w stage.Loop w.back (answer.Watched path) w.under.channels before after (low tt) (watched_pays path))
    by_asleep a false is e = by_test a (requests_of w.back.ring.indices w.back.ring.seen == 0) refl is e

    by_next : (a : BackAct) (next : Option Reply) → back_act w.under back_mover.Back (loop_ask w.back next) Took ≡ Some a → Claim next a
    by_next a (Some r) e = of_act (Claim (Some r)) _ a e (λ low. falls w stage.Loop (loop_step w.back (Some r) answer.Done) answer.Done w.under.channels before after (low tt) (reply_pays r answer.Done refl))
    by_next a None e = by_asleep a w.back.ring.asleep refl e

    pub loop_falls : (a : BackAct) → back_turn_at stage.Loop w ≡ Some a → (IsShown stage.Loop w.back a.answer → LowersTo w stage.Loop (step_at stage.Loop w.back a.answer) a.answer) → Falls w stage.Loop (step_at stage.Loop w.back) before after a
    loop_falls a e low = by_next a (next_reply w.back) e low
