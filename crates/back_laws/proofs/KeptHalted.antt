-- A back whose jobs keep mappings stays halted once it has, and its jobs ask for nothing then.
use Rattle.std.proofs.Common.{◌≡◌, ℕ, ◌+◌, Bool, true, false, if◌then◌else◌, List, [], ◌∷◌, ◌++◌, refl, sym, ap, ◌∙◌}
use Rattle.std.specs.Prelude.{Option, Some, None, is_some, ◌==◌}
use Rattle.std.proofs.lemmas.Bool.{false≢true}
use Rattle.blk_base.specs.declared.ask.BackAsk.TheVariants as ask
use Rattle.blk_base.specs.declared.ask.BackAnswer.{BackAnswer}
use Rattle.blk_base.specs.declared.ask.BackAnswer.TheVariants as answer
use Rattle.blk_base.specs.declared.halt.Halt.{Halt}
use Rattle.ring_words.specs.Shape.{Shape, entry_words_of}
use Rattle.ring_words.specs.Ring.{requests_of, overruns}
use Rattle.back_jobs.specs.Work.{IsAnswer as IsJobAnswer}
use Rattle.back_jobs.specs.Keeping.{ask_keeping, first_given}
use Rattle.blk_back.specs.declared.stage.Reply.{Reply}
use Rattle.blk_back.specs.declared.stage.BackStage.{BackStage}
use Rattle.blk_back.specs.declared.stage.BackStage.TheVariants as stage
use Rattle.blk_back.specs.View.{View}
use Rattle.blk_back.specs.Ask.{next_reply}
use Rattle.blk_back.specs.Step.{other_pages, may_halt, may_attach, attached, overrun, looked, fetched}
use Rattle.blk_back.specs.Keeping.{halts_keeping_at, may_keep_most, keeping_most, overrun_keeping, looked_keeping, loop_step_keeping, fetched_keeping, fetch_step_keeping, step_keeping_at}
use Rattle.back_laws.specs.Kept.{KeptHappening, Answers, AnswersJob, TakesTold, Attaches, Keeps, Halts, happened, after, begins, now, StaysHalted, NoJobGoesOn}
use Rattle.back_laws.proofs.Calls.{attaches_waiting}
use Rattle.back_laws.proofs.Halted.{is_over, IsOver, giving_over, unbound_over, bound_over, step_over, none_halted}

-- it has halted only at a stage after a halt
abbrev Goes : View → Type 0
Goes v = is_over v.stage ≡ false → v.halted ≡ None

-- so it is after a halt
closes : (v : View) → is_over v.stage ≡ true → Goes v
closes v over = λ ongoing. absurd (false≢true (sym ongoing ∙ over))

either : (b : Bool) (x y : View) → Goes x → Goes y → Goes (if b then x else y)
either true x y p q = p
either false x y p q = q

-- a test that is made twice
either_twice : (b : Bool) (x y z : View) → Goes x → Goes z → Goes (if b then x else (if b then y else z))
either_twice true x y z p q = p
either_twice false x y z p q = q

looked_goes : (v : View) (word : ℕ) (otherwise : View) → v.halted ≡ None → Goes otherwise → Goes (looked_keeping v word otherwise)
looked_goes v word otherwise none o =
    let shown : View = record v { ring = record v.ring { seen = word }; stage = stage.Loop } in
    either_twice (overruns v.ring.indices word) (overrun_keeping v word) (overrun v word) (if word == v.ring.indices.cons then otherwise else shown)
    (closes (overrun_keeping v word) (giving_over (first_given v.jobs)))
    (either (word == v.ring.indices.cons) otherwise shown o (λ ongoing. none))

loop_goes : (v : View) (r : Option Reply) (given : BackAnswer) → v.halted ≡ None → Goes (loop_step_keeping v r given)
loop_goes v (Some r) given none = λ ongoing. none
loop_goes v None (answer.Word word) none =
    let otherwise : View = record v { ring = record v.ring { seen = word }; stage = stage.StoreEvent } in
    either_twice (requests_of v.ring.indices v.ring.seen == 0) (looked_keeping v word otherwise) (looked v word otherwise) (record v { ring = record v.ring { entry = word ∷ [] }; stage = stage.Fetch 1 })
    (looked_goes v word otherwise none (λ ongoing. none)) (λ ongoing. none)
loop_goes v None given none = λ ongoing. none

fetch_goes : (v : View) (k word : ℕ) → v.halted ≡ None → Goes (fetch_step_keeping v k word)
fetch_goes v k word none =
    let words : List ℕ = v.ring.entry ++ word ∷ [] in
    either_twice (k + 1 == entry_words_of v.shape.abi) (fetched_keeping v words) (fetched v words) (record v { ring = record v.ring { entry = words }; stage = stage.Fetch (k + 1) }) (λ ongoing. none) (λ ongoing. none)

-- a stage before a halt
before : (s : BackStage) (v : View) → v.stage ≡ s → is_over s ≡ false → Goes v → v.halted ≡ None
before s v here early g = g (ap is_over here ∙ early)

step_goes_at : (s : BackStage) (v : View) (given : BackAnswer) → v.stage ≡ s → Goes v → Goes (step_keeping_at s v given)
step_goes_at stage.MapRing v (answer.Mapped m) here g = λ ongoing. before stage.MapRing v here refl g
step_goes_at stage.MapRing v (answer.MapRefused status) here g = closes (step_keeping_at stage.MapRing v (answer.MapRefused status)) (unbound_over v.pages)
step_goes_at stage.Bind v answer.Done here g = λ ongoing. before stage.Bind v here refl g
step_goes_at stage.Bind v answer.BindRefused here g = closes (step_keeping_at stage.Bind v answer.BindRefused) (unbound_over v.pages)
step_goes_at stage.Loop v given here g = loop_goes v (next_reply v) given (before stage.Loop v here refl g)
step_goes_at (stage.Fetch k) v (answer.Word word) here g = fetch_goes v k word (before (stage.Fetch k) v here refl g)
step_goes_at (stage.ReplyHigh r) v given here g = λ ongoing. before (stage.ReplyHigh r) v here refl g
step_goes_at (stage.ReplyLast r) v given here g = λ ongoing. before (stage.ReplyLast r) v here refl g
step_goes_at (stage.Producer r) v given here g = λ ongoing. before (stage.Producer r) v here refl g
step_goes_at (stage.ProducerFence old) v given here g = λ ongoing. before (stage.ProducerFence old) v here refl g
step_goes_at (stage.ResponseEvent old) v (answer.Word event) here g = λ ongoing. before (stage.ResponseEvent old) v here refl g
step_goes_at stage.Send v given here g = λ ongoing. before stage.Send v here refl g
step_goes_at stage.StoreEvent v given here g = λ ongoing. before stage.StoreEvent v here refl g
step_goes_at stage.EventFence v given here g = λ ongoing. before stage.EventFence v here refl g
step_goes_at stage.LookAgain v (answer.Word word) here g =
    let none = before stage.LookAgain v here refl g in
    looked_goes v word (record v { ring = record v.ring { seen = word; asleep = true }; stage = stage.Loop }) none (λ ongoing. none)
step_goes_at (stage.Abort m) v given here g = closes (step_keeping_at (stage.Abort m) v given) (giving_over (first_given v.jobs))
step_goes_at stage.UnmapRing v given here g = closes (step_keeping_at stage.UnmapRing v given) (bound_over (other_pages v.pages))
step_goes_at stage.ClosePort v given here g = closes (step_keeping_at stage.ClosePort v given) refl
step_goes_at stage.UnmapUnbound v given here g = closes (step_keeping_at stage.UnmapUnbound v given) (unbound_over (other_pages v.pages))
step_goes_at s v given here g = g

halts_goes_at : (s : BackStage) (why : Halt) (v : View) → Goes v → Goes (halts_keeping_at s why v)
halts_goes_at stage.InitWait why v g = closes (halts_keeping_at stage.InitWait why v) (unbound_over v.pages)
halts_goes_at stage.MapRing why v g = closes (halts_keeping_at stage.MapRing why v) (unbound_over v.pages)
halts_goes_at stage.Loop why v g = closes (halts_keeping_at stage.Loop why v) (giving_over (first_given v.jobs))
halts_goes_at s why v g = g

-- terms are taken only by one that waits for them, and how many mappings may be kept is said after that
attaches_goes : (b : Bool) (shape : Shape) (grefs : List ℕ) (port : ℕ) (v : View) → may_attach shape grefs v ≡ b → Goes v → Goes (if b then attached shape grefs port v else v)
attaches_goes true shape grefs port v may g = λ ongoing. before stage.InitWait v (attaches_waiting shape grefs v may) refl g
attaches_goes false shape grefs port v may g = g

happened_goes : (h : KeptHappening) (v : View) → Goes v → Goes (happened h v)
happened_goes (Answers given) v g = step_goes_at v.stage v given refl g
happened_goes (AnswersJob number given) v g = g
happened_goes TakesTold v g = g
happened_goes (Attaches shape grefs port) v g = attaches_goes (may_attach shape grefs v) shape grefs port v refl g
happened_goes (Keeps cap) v g = either (may_keep_most cap v) (keeping_most cap v) v g g
happened_goes (Halts why) v g = either (may_halt why) (halts_keeping_at v.stage why v) v (halts_goes_at v.stage why v g) g

goes_after : (hs : List KeptHappening) (v : View) → Goes v → Goes (after hs v)
goes_after [] v g = g
goes_after (h ∷ hs) v g = goes_after hs (happened h v) (happened_goes h v g)

-- after a halt its cause stays
step_over_keeping : (s : BackStage) (v : View) (given : BackAnswer) (halted : Option Halt) → v.stage ≡ s → is_over s ≡ true → v.halted ≡ halted → IsOver halted (step_keeping_at s v given)
step_over_keeping (stage.Abort m) v given halted here over same = record { over = giving_over (first_given v.jobs); same = same }
step_over_keeping stage.UnmapRing v given halted here over same = step_over stage.UnmapRing v given halted here over same
step_over_keeping stage.ClosePort v given halted here over same = step_over stage.ClosePort v given halted here over same
step_over_keeping stage.UnmapUnbound v given halted here over same = step_over stage.UnmapUnbound v given halted here over same
step_over_keeping stage.Halted v given halted here over same = step_over stage.Halted v given halted here over same
step_over_keeping s v given halted here over same = absurd (cc)

halts_over_at : (s : BackStage) (why : Halt) (v : View) (halted : Option Halt) → is_over s ≡ true → IsOver halted v → IsOver halted (halts_keeping_at s why v)
halts_over_at stage.InitWait why v halted over o = absurd (cc)
halts_over_at stage.MapRing why v halted over o = absurd (cc)
halts_over_at stage.Loop why v halted over o = absurd (cc)
halts_over_at s why v halted over o = o

if_over : (b : Bool) (x y : View) (halted : Option Halt) → IsOver halted x → IsOver halted y → IsOver halted (if b then x else y)
if_over true x y halted p q = p
if_over false x y halted p q = q

attaches_over : (b : Bool) (shape : Shape) (grefs : List ℕ) (port : ℕ) (v : View) (halted : Option Halt) → may_attach shape grefs v ≡ b → IsOver halted v → IsOver halted (if b then attached shape grefs port v else v)
attaches_over true shape grefs port v halted may o = let ongoing : is_over v.stage ≡ false = ap is_over (attaches_waiting shape grefs v may) in absurd (false≢true (sym ongoing ∙ o.over))
attaches_over false shape grefs port v halted may o = o

happened_over : (h : KeptHappening) (v : View) (halted : Option Halt) → IsOver halted v → IsOver halted (happened h v)
happened_over (Answers given) v halted o = step_over_keeping v.stage v given halted refl o.over o.same
happened_over (AnswersJob number given) v halted o = record { over = o.over; same = o.same }
happened_over TakesTold v halted o = record { over = o.over; same = o.same }
happened_over (Attaches shape grefs port) v halted o = attaches_over (may_attach shape grefs v) shape grefs port v halted refl o
happened_over (Keeps cap) v halted o = if_over (may_keep_most cap v) (keeping_most cap v) v halted (record { over = o.over; same = o.same }) o
happened_over (Halts why) v halted o = if_over (may_halt why) (halts_keeping_at v.stage why v) v halted (halts_over_at v.stage why v halted o.over o) o

over_after : (hs : List KeptHappening) (v : View) (halted : Option Halt) → IsOver halted v → (after hs v).halted ≡ halted
over_after [] v halted o = o.same
over_after (h ∷ hs) v halted o = over_after hs (happened h v) halted (happened_over h v halted o)

over_by : (b : Bool) (o : Option Halt) → (b ≡ false → o ≡ None) → is_some o ≡ true → b ≡ true
over_by true o g some = refl
over_by false o g some = absurd (none_halted o (g refl) some)

pub stays_halted : StaysHalted
stays_halted r hs some may =
    let g : Goes (now r) = goes_after r.happenings (begins r) (λ ongoing. refl) in
    over_after hs (now r) (now r).halted (record { over = over_by (is_over (now r).stage) (now r).halted g some; same = refl })

asks_nothing : (halted : Bool) (v : View) (number : ℕ) (given : BackAnswer) → halted ≡ true → IsJobAnswer (if halted then ask.Wait else ask_keeping v.jobs number) given → ⊥
asks_nothing true v number given is h = h
asks_nothing false v number given is h = cc

pub no_job : NoJobGoesOn
no_job r number given some h = asks_nothing (is_some (now r).halted) (now r) number given some h
