-- A back that has halted stays so, and its jobs ask for nothing.
use Rattle.std.proofs.Common.{◌≡◌, ℕ, Bool, true, false, if◌then◌else◌, List, [], ◌∷◌, refl, ap}
use Rattle.std.specs.Prelude.{Option, Some, None, is_some}
use Rattle.blk_base.specs.declared.parts.Mapping.{Mapping}
use Rattle.blk_base.specs.declared.ask.BackAsk.TheVariants as ask
use Rattle.blk_base.specs.declared.ask.BackAnswer.{BackAnswer}
use Rattle.back_jobs.specs.Work.{IsAnswer as IsJobAnswer}
use Rattle.back_jobs.specs.Jobs.{first_mapping, ask_job}
use Rattle.blk_base.specs.declared.halt.Halt.{Halt}
use Rattle.blk_back.specs.declared.stage.BackStage.{BackStage}
use Rattle.blk_back.specs.declared.stage.BackStage.TheVariants as stage
use Rattle.blk_back.specs.View.{View}
use Rattle.blk_back.specs.Step.{step_at, unmapping_next, unbound, bound, other_pages}
use Rattle.back_laws.specs.Happening.{Happening, Answers, AnswersJob, TakesTold, Attaches, Halts, happened, after}
use Rattle.back_laws.specs.Run.{begins, now}
use Rattle.back_laws.specs.Activity.{Asked}
use Rattle.back_laws.specs.Ledger.{JobAsked, job_asks}
use Rattle.back_laws.specs.Life.{own_asks, called}
use Rattle.back_laws.specs.Laws.{StaysHalted, NoJobGoesOn}
use Rattle.back_laws.proofs.Calls.{is_unbound, halts_cases, attaches_cases, attaches_waiting}
use Rattle.back_laws.proofs.Lives.{KnowsAt}
use Rattle.back_laws.proofs.Always.{always}

-- the stages after a halt
abbrev pub is_over : BackStage → Bool
is_over (stage.Abort m) = true
is_over stage.UnmapRing = true
is_over stage.ClosePort = true
is_over stage.UnmapUnbound = true
is_over stage.Halted = true
is_over s = false

pub record IsOver (halted : Option Halt) (v : View) : Type 0 where
  pub over : is_over v.stage ≡ true
  pub same : v.halted ≡ halted

pub giving_over : (m : Option Mapping) → is_over (unmapping_next m) ≡ true
giving_over None = refl
giving_over (Some m) = refl

pub unbound_over : (pages : List Mapping) → is_over (unbound pages) ≡ true
unbound_over [] = refl
unbound_over (page ∷ pages) = refl

pub bound_over : (pages : List Mapping) → is_over (bound pages) ≡ true
bound_over [] = refl
bound_over (page ∷ pages) = refl

pub step_over : (s : BackStage) (v : View) (given : BackAnswer) (halted : Option Halt) → v.stage ≡ s → is_over s ≡ true → v.halted ≡ halted → IsOver halted (step_at s v given)
step_over (stage.Abort m) v given halted e over same = record { over = giving_over (first_mapping v.jobs.works); same = same }
step_over stage.UnmapRing v given halted e over same = record { over = bound_over (other_pages v.pages); same = same }
step_over stage.ClosePort v given halted e over same = record { over = refl; same = same }
step_over stage.UnmapUnbound v given halted e over same = record { over = unbound_over (other_pages v.pages); same = same }
step_over stage.Halted v given halted e over same = record { over = ap is_over e; same = same }
step_over s v given halted e over same = absurd (cc)

over_unbound : (s : BackStage) → is_over s ≡ true → is_unbound s ≡ true → ⊥
over_unbound stage.InitWait over first = cc
over_unbound stage.MapRing over first = cc
over_unbound s over first = cc

over_loop : (s : BackStage) → is_over s ≡ true → s ≡ stage.Loop → ⊥
over_loop s over looping = let no = ap is_over looping in cc

over_waiting : (s : BackStage) → is_over s ≡ true → s ≡ stage.InitWait → ⊥
over_waiting s over waiting = let no = ap is_over waiting in cc

happened_over : (h : Happening) (v : View) (halted : Option Halt) → IsOver halted v → IsOver halted (happened h v)
happened_over (Answers given) v halted o = step_over v.stage v given halted refl o.over o.same
happened_over (AnswersJob number given) v halted o = record { over = o.over; same = o.same }
happened_over TakesTold v halted o = record { over = o.over; same = o.same }
happened_over (Attaches shape grefs port) v halted o =
    attaches_cases (λ (w : View). IsOver halted w) shape grefs port v (λ may. absurd (over_waiting v.stage o.over (attaches_waiting shape grefs v may))) o
happened_over (Halts why) v halted o =
    halts_cases (λ (w : View). IsOver halted w) why v (λ first. absurd (over_unbound v.stage o.over first)) (λ looping. absurd (over_loop v.stage o.over looping)) o

over_after : (hs : List Happening) (v : View) (halted : Option Halt) → IsOver halted v → (after hs v).halted ≡ halted
over_after [] v halted o = o.same
over_after (h ∷ hs) v halted o = over_after hs (happened h v) halted (happened_over h v halted o)

pub none_halted : (halted : Option Halt) → halted ≡ None → is_some halted ≡ true → ⊥
none_halted halted none some = let no = ap (λ (o : Option Halt). is_some o) none in cc

halted_over : (s : BackStage) (start : ℕ) (trace : List JobAsked) (own : List Asked) (calls : List Halt) (v : View) → KnowsAt s start trace own calls v → is_some v.halted ≡ true → is_over s ≡ true
halted_over stage.InitWait start trace own calls v k some = absurd (none_halted v.halted k.none some)
halted_over stage.MapRing start trace own calls v k some = absurd (none_halted v.halted k.none some)
halted_over stage.Bind start trace own calls v k some = absurd (none_halted v.halted k.none some)
halted_over stage.Loop start trace own calls v k some = absurd (none_halted v.halted k.none some)
halted_over (stage.Fetch n) start trace own calls v k some = absurd (none_halted v.halted (k.1).none some)
halted_over (stage.ReplyHigh r) start trace own calls v k some = absurd (none_halted v.halted k.none some)
halted_over (stage.ReplyLast r) start trace own calls v k some = absurd (none_halted v.halted k.none some)
halted_over (stage.Producer r) start trace own calls v k some = absurd (none_halted v.halted k.none some)
halted_over (stage.ProducerFence old) start trace own calls v k some = absurd (none_halted v.halted (k.2).none some)
halted_over (stage.ResponseEvent old) start trace own calls v k some = absurd (none_halted v.halted (k.2).none some)
halted_over stage.Send start trace own calls v k some = absurd (none_halted v.halted (k.5).none some)
halted_over stage.StoreEvent start trace own calls v k some = absurd (none_halted v.halted (k.1).none some)
halted_over stage.EventFence start trace own calls v k some = absurd (none_halted v.halted (k.1).none some)
halted_over stage.LookAgain start trace own calls v k some = absurd (none_halted v.halted (k.1).none some)
halted_over (stage.Abort m) start trace own calls v k some = refl
halted_over stage.UnmapRing start trace own calls v k some = refl
halted_over stage.ClosePort start trace own calls v k some = refl
halted_over stage.UnmapUnbound start trace own calls v k some = refl
halted_over stage.Halted start trace own calls v k some = refl

pub stays_halted : StaysHalted
stays_halted r hs some may =
    let a = always r in
    over_after hs (now r) (now r).halted
    (record { over = halted_over (now r).stage r.start (job_asks r.happenings (begins r)) (own_asks r.happenings (begins r)) (called r.happenings) (now r) a.knows.at some; same = refl })

asks_nothing : (halted : Bool) (v : View) (number : ℕ) (given : BackAnswer) → halted ≡ true → IsJobAnswer (if halted then ask.Wait else ask_job v.jobs number) given → ⊥
asks_nothing true v number given is h = h
asks_nothing false v number given is h = cc

pub no_job : NoJobGoesOn
no_job r number given some h = asks_nothing (is_some (now r).halted) (now r) number given some h
