-- The numbers of mappings and of fetched requests, which go up by one: where a report has fewer than 2 ^ 64 lines there is always a next one.
use Rattle.std.proofs.Common.{◌≡◌, ℕ, ◌+◌, ◌^◌, ◌<◌, ◌≤◌, Bool, true, false, if◌then◌else◌, List, [], ◌∷◌, ◌++◌, length, refl, ap, arith, length-append}
use Rattle.std.specs.Prelude.{Option, Some, None, ◌==◌}
use Rattle.blk_base.specs.Options.{Options}
use Rattle.blk_base.specs.declared.ask.BackAnswer.{BackAnswer}
use Rattle.blk_base.specs.declared.ask.BackAnswer.TheVariants as answer
use Rattle.blk_base.specs.declared.moves.BackMover.TheVariants as back_mover
use Rattle.schedule_text.specs.declared.line.Detail.{Detail}
use Rattle.schedule_text.specs.declared.line.Line.{Line}
use Rattle.grant_table.specs.Table.{GrantTable}
use Rattle.hypervisor.specs.Hypervisor.{Hypervisor}
use Rattle.hypervisor.specs.Act.{FrontAct, BackAct, Outcome, Took}
use Rattle.ring_words.specs.Shape.{Shape, entry_words_of}
use Rattle.ring_words.specs.Ring.{requests_of, overruns}
use Rattle.blk_back.specs.declared.stage.Reply.{Reply}
use Rattle.blk_front.specs.Ask as front_ask
use Rattle.blk_back.specs.declared.stage.BackStage.{BackStage}
use Rattle.blk_back.specs.declared.stage.BackStage.TheVariants as stage
use Rattle.blk_base.specs.declared.halt.Halt.{Halt}
use Rattle.blk_back.specs.View.{View}
use Rattle.blk_back.specs.Ask as back_ask
use Rattle.blk_back.specs.Ask.{next_reply}
use Rattle.blk_back.specs.Ask.{is_led}
use Rattle.blk_back.specs.Step.{attached, may_halt, halts, overrun, looked, loop_word, loop_step, fetched, fetch_step, step_at}
use Rattle.blk_back.specs.Keeping.{overrun_keeping, looked_keeping, loop_step_keeping, fetched_keeping, step_keeping_at, halts_keeping_at, halts_keeping}
use Rattle.split_model.proofs.Suspending.{suspend_cases, back_cases}
use Rattle.split_model.specs.World.{World, start_of}
use Rattle.split_model.specs.Happening.{Happening, FrontMoves, BackMoves, JobMoves, BackAttaches, BackHalts, Pokes, OverwritesKey, Suspends, happens, lines_at, front_after, front_shows, back_after, job_after, front_turn, back_turn, job_turn, is_guest_word, attaches_at, is_guest_key}
use Rattle.split_model.specs.Kept.{KeepingHappening, Plainly, BackOffers, BackKeeps, offered, kept_so, reads_keeping, back_after_keeping, back_shows_keeping, job_turn_keeping, job_after_keeping, job_shows_keeping, plainly_after, plainly_shows, happens_keeping, shows_keeping, lines_keeping}
use Rattle.move_laws.specs.Kept.{report_keeping}
use Rattle.report_laws.specs.Kept.{AreEach}
use Rattle.move_laws.proofs.KeptLines.{either_world}
use Rattle.split_model.proofs.SafeActs.{made_front, made_back}
use Rattle.split_model.proofs.States.{halts_cases}

-- there are numbers for one more mapping and one more request
abbrev pub HasNumbers : World → Type 0
HasNumbers w = (w.under.grants.made + 1 < 2 ^ 64) × (w.back.fetched + 1 < 2 ^ 64)

-- so it is before whatever happens
abbrev pub HaveNumbers : List Happening → World → Type 0
HaveNumbers [] w = Unit {0}
HaveNumbers (h ∷ hs) w = HasNumbers w × HaveNumbers hs (happens w h)

-- A move of the back fetches one request at most.
either_few : (b : Bool) (u v : View) (n : ℕ) → u.fetched ≤ n → v.fetched ≤ n → (if b then u else v).fetched ≤ n
either_few true u v n p q = p
either_few false u v n p q = q

looked_few : (v : View) (word : ℕ) (otherwise : View) (n : ℕ) → v.fetched ≤ n → otherwise.fetched ≤ n → (looked v word otherwise).fetched ≤ n
looked_few v word otherwise n p q =
    either_few (overruns v.ring.indices word) (overrun v word) (if word == v.ring.indices.cons then otherwise else record v { ring = record v.ring { seen = word }; stage = stage.Loop }) n p
    (either_few (word == v.ring.indices.cons) otherwise (record v { ring = record v.ring { seen = word }; stage = stage.Loop }) n q p)

loop_few : (v : View) (r : Option Reply) (x : BackAnswer) → (loop_step v r x).fetched ≤ v.fetched
loop_few v (Some r) x = omega arith
loop_few v None (answer.Word word) =
    either_few (requests_of v.ring.indices v.ring.seen == 0) (looked v word (record v { ring = record v.ring { seen = word }; stage = stage.StoreEvent })) (record v { ring = record v.ring { entry = word ∷ [] }; stage = stage.Fetch 1 }) v.fetched
    (looked_few v word (record v { ring = record v.ring { seen = word }; stage = stage.StoreEvent }) v.fetched (omega arith) (omega arith)) (omega arith)
loop_few v None answer.Event = omega arith
loop_few v None x = omega arith

step_few : (s : BackStage) (v : View) (x : BackAnswer) → (step_at s v x).fetched ≤ v.fetched + 1
step_few stage.MapRing v (answer.Mapped m) = omega arith
step_few stage.MapRing v (answer.MapRefused status) = omega arith
step_few stage.Bind v answer.Done = omega arith
step_few stage.Bind v answer.BindRefused = omega arith
step_few stage.Loop v x = let few = loop_few v (next_reply v) x in omega arith
step_few (stage.Fetch k) v (answer.Word word) =
    either_few (k + 1 == entry_words_of v.shape.abi) (fetched v (v.ring.entry ++ word ∷ [])) (record v { ring = record v.ring { entry = v.ring.entry ++ word ∷ [] }; stage = stage.Fetch (k + 1) }) (v.fetched + 1) (omega arith) (omega arith)
step_few (stage.ResponseEvent old) v (answer.Word event) = omega arith
step_few stage.LookAgain v (answer.Word word) = looked_few v word (record v { ring = record v.ring { seen = word; asleep = true }; stage = stage.Loop }) (v.fetched + 1) (omega arith) (omega arith)
step_few s v x = omega arith

-- nor does one where mappings may be kept
looked_keeping_few : (v : View) (word : ℕ) (otherwise : View) (n : ℕ) → v.fetched ≤ n → otherwise.fetched ≤ n → (looked_keeping v word otherwise).fetched ≤ n
looked_keeping_few v word otherwise n p q = either_few (overruns v.ring.indices word) (overrun_keeping v word) (looked v word otherwise) n p (looked_few v word otherwise n p q)

loop_keeping_few : (v : View) (r : Option Reply) (x : BackAnswer) → (loop_step_keeping v r x).fetched ≤ v.fetched
loop_keeping_few v None (answer.Word word) =
    either_few (requests_of v.ring.indices v.ring.seen == 0) (looked_keeping v word (record v { ring = record v.ring { seen = word }; stage = stage.StoreEvent })) (loop_word v word) v.fetched
    (looked_keeping_few v word (record v { ring = record v.ring { seen = word }; stage = stage.StoreEvent }) v.fetched (omega arith) (omega arith)) (loop_few v None (answer.Word word))
loop_keeping_few v r x = loop_few v r x

step_keeping_few : (s : BackStage) (v : View) (x : BackAnswer) → (step_keeping_at s v x).fetched ≤ v.fetched + 1
step_keeping_few stage.Loop v x = let few = loop_keeping_few v (next_reply v) x in omega arith
step_keeping_few (stage.Fetch k) v (answer.Word word) =
    either_few (k + 1 == entry_words_of v.shape.abi) (fetched_keeping v (v.ring.entry ++ word ∷ [])) (fetch_step v k word) (v.fetched + 1) (omega arith) (step_few (stage.Fetch k) v (answer.Word word))
step_keeping_few stage.LookAgain v (answer.Word word) =
    looked_keeping_few v word (record v { ring = record v.ring { seen = word; asleep = true }; stage = stage.Loop }) (v.fetched + 1) (omega arith) (omega arith)
step_keeping_few (stage.Abort m) v x = omega arith
step_keeping_few s v x = step_few s v x

halted_at_few : (s : BackStage) (why : Halt) (v : View) → (halts_keeping_at s why v).fetched ≤ v.fetched
halted_at_few stage.InitWait why v = omega arith
halted_at_few stage.MapRing why v = omega arith
halted_at_few stage.Loop why v = omega arith
halted_at_few s why v = omega arith

halted_keeping_few : (why : Halt) (v : View) → (halts_keeping why v).fetched ≤ v.fetched
halted_keeping_few why v = either_few (may_halt why) (halts_keeping_at v.stage why v) v v.fetched (halted_at_few v.stage why v) (omega arith)

halted_few : (why : Halt) (v : View) → (halts why v).fetched ≤ v.fetched
halted_few why v = halts_cases (λ x. x.fetched ≤ v.fetched) why v (λ here. omega arith) (λ here. omega arith) (omega arith)

attached_few : (b : Bool) (shape : Shape) (grefs : List ℕ) (port : ℕ) (v : View) → (if b then attached shape grefs port v else v).fetched ≤ v.fetched
attached_few true shape grefs port v = omega arith
attached_few false shape grefs port v = omega arith

-- and makes one mapping at most, as one of a job does; each shows a line
pub record Grew (by : ℕ) (w v : World) : Type 0 where
  pub made : v.under.grants.made ≤ w.under.grants.made + by
  pub fetched : v.back.fetched ≤ w.back.fetched + by

front_grew : (w : World) (act : Option FrontAct) → front_turn w ≡ act → Grew (length (front_shows w act)) w (front_after w act)
front_grew w None e = record { made = omega arith; fetched = omega arith }
front_grew w (Some a) e = let same = ap (λ (t : GrantTable). t.made) (made_front w.under (front_ask.ask_of w.front) a e) in record { made = omega arith; fetched = omega arith }

back_grew : (w : World) (act : Option BackAct) → back_turn w Took ≡ act → Grew (length (back_shows_keeping w act)) w (back_after_keeping w act)
back_grew w None e = record { made = omega arith; fetched = omega arith }
back_grew w (Some a) e =
    let made = made_back w.under back_mover.Back (back_ask.ask_of w.back) Took a e in
    let few = step_keeping_few w.back.stage w.back a.answer in
    record { made = omega arith; fetched = omega arith }

job_grew : (w : World) (number : ℕ) (o : Outcome) (act : Option BackAct) → job_turn_keeping w number o ≡ act → Grew (length (job_shows_keeping w number act)) w (job_after_keeping w number act)
job_grew w number o None e = record { made = omega arith; fetched = omega arith }
job_grew w number o (Some a) e = let made = made_back w.under (back_mover.Job number) _ o a e in record { made = omega arith; fetched = omega arith }

overwritten_grew : (b : Bool) (w : World) (x : Hypervisor) (lines : List Line) → x.grants ≡ w.under.grants → Grew (length lines) w (record { front = w.front; back = w.back; under = if b then x else w.under })
overwritten_grew true w x lines same = let made = ap (λ (t : GrantTable). t.made) same in record { made = omega arith; fetched = omega arith }
overwritten_grew false w x lines same = record { made = omega arith; fetched = omega arith }

plainly_grew : (w : World) (h : Happening) → Grew (length (plainly_shows w h)) w (plainly_after w h)
plainly_grew w FrontMoves = front_grew w (front_turn w) refl
plainly_grew w BackMoves = back_grew w (back_turn w Took) refl
plainly_grew w (JobMoves number outcome) = job_grew w number outcome (job_turn_keeping w number outcome) refl
plainly_grew w (BackAttaches shape grefs port) = let few = attached_few (attaches_at w shape grefs) shape grefs port w.back in record { made = omega arith; fetched = omega arith }
plainly_grew w (BackHalts why) = let few = halted_keeping_few why w.back in record { made = omega arith; fetched = omega arith }
plainly_grew w (Pokes frame word value) = overwritten_grew (is_guest_word frame word) w _ (lines_at w (Pokes frame word value)) refl
plainly_grew w (OverwritesKey name text) = overwritten_grew (is_guest_key name text) w _ (lines_at w (OverwritesKey name text)) refl
plainly_grew w Suspends =
    suspend_cases (λ v shown. Grew (length shown) w v) w
    (λ may. record { made = omega arith; fetched = back_cases (λ (b : View). b.fetched ≤ w.back.fetched + 1) w (omega arith) (omega arith) })
    (record { made = omega arith; fetched = omega arith })
plainly_grew w h = record { made = omega arith; fetched = omega arith }

grew : (w : World) (h : KeepingHappening) → Grew (length (shows_keeping w h)) w (happens_keeping w h)
grew w (Plainly h) = plainly_grew w h
grew w BackOffers = either_world (λ (v : World). Grew (length (shows_keeping w BackOffers)) w v) (is_led w.back.stage) (offered w) w
    (λ here. record { made = omega arith; fetched = omega arith }) (record { made = omega arith; fetched = omega arith })
grew w (BackKeeps cap) = either_world (λ (v : World). Grew (length (shows_keeping w (BackKeeps cap))) w v) (reads_keeping w cap) (kept_so w cap) w
    (λ here. record { made = omega arith; fetched = omega arith }) (record { made = omega arith; fetched = omega arith })

abbrev pub HasNumbersAt : World → KeepingHappening → Type 0
HasNumbersAt w h = HasNumbers w

by_lines : (hs : List KeepingHappening) (n : ℕ) (w : World) → w.under.grants.made + 1 ≤ n → w.back.fetched + 1 ≤ n → n + length (lines_keeping hs w) < 2 ^ 64 → AreEach HasNumbersAt hs w
by_lines [] n w made few short = tt
by_lines (h ∷ hs) n w made few short =
    let g = grew w h in
    let more = g.made in
    let fetched_more = g.fetched in
    let both = length-append (shows_keeping w h) (lines_keeping hs (happens_keeping w h)) in
    ((omega arith, omega arith), by_lines hs (n + length (shows_keeping w h)) (happens_keeping w h) (omega arith) (omega arith) (omega arith))

pub short_numbers : (config : Options) (detail : Detail) (history : List KeepingHappening) → length (report_keeping config detail history) < 2 ^ 64 → AreEach HasNumbersAt history (start_of config)
short_numbers config detail history short = by_lines history 1 (start_of config) (omega arith) (omega arith) (omega arith)

-- A history in which few moves are the back's.
abbrev pub fetches_at : Happening → ℕ
fetches_at BackMoves = 1
fetches_at h = 0

pub fetched_happens : (w : World) (h : Happening) → (let x : World = happens w h in x.back.fetched) ≤ w.back.fetched + fetches_at h
fetched_happens w BackMoves = by_act (back_turn w Took)
  where
    by_act : (act : Option BackAct) → (let x : World = back_after w act in x.back.fetched) ≤ w.back.fetched + 1
    by_act None = omega arith
    by_act (Some a) = step_few w.back.stage w.back a.answer
fetched_happens w FrontMoves = by_act (front_turn w)
  where
    by_act : (act : Option FrontAct) → (let x : World = front_after w act in x.back.fetched) ≤ w.back.fetched + 0
    by_act None = omega arith
    by_act (Some a) = omega arith
fetched_happens w (JobMoves number outcome) = by_act (job_turn w number outcome)
  where
    by_act : (act : Option BackAct) → (let x : World = job_after w number act in x.back.fetched) ≤ w.back.fetched + 0
    by_act None = omega arith
    by_act (Some a) = omega arith
fetched_happens w (BackAttaches shape grefs port) = let few = attached_few (attaches_at w shape grefs) shape grefs port w.back in omega arith
fetched_happens w (BackHalts why) = let few = halted_few why w.back in omega arith
fetched_happens w Suspends = suspend_cases (λ v shown. v.back.fetched ≤ w.back.fetched + 0) w (λ may. back_cases (λ (b : View). b.fetched ≤ w.back.fetched + 0) w (omega arith) (omega arith)) (omega arith)
fetched_happens w h = omega arith
