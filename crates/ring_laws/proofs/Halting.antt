-- A halt that the negotiation asks for: nothing comes of it, or the back, which was at nothing, halts and unmaps what it holds.
use Rattle.std.proofs.Common.{◌≡◌, true, false, [], refl, ap, subst}
use Rattle.std.specs.Prelude.{Some, None, is_some}
use Rattle.schedule_text.specs.declared.line.Line.TheVariants as lines
use Rattle.back_jobs.specs.Jobs.{first_mapping}
use Rattle.blk_back.specs.declared.stage.BackStage.{BackStage}
use Rattle.blk_back.specs.declared.stage.BackStage.TheVariants as stage
use Rattle.blk_base.specs.declared.halt.Halt.{Halt}
use Rattle.blk_base.specs.declared.halt.Halt.TheVariants as halt
use Rattle.blk_back.specs.View.{View}
use Rattle.blk_back.specs.Step.{unbound, abort, may_halt, halts}
use Rattle.split_model.specs.Keys.{is_between}
use Rattle.split_model.proofs.States.{is_unbound, halts_for_cases}
use Rattle.ring_laws.proofs.Shows.{Sight}
use Rattle.ring_laws.proofs.ObeysRing.{IsWhole, is_overrun}
use Rattle.ring_laws.proofs.Knows.{Serves, served_whole, KnowsAt, Knows, whole_words}
use Rattle.ring_laws.proofs.Looking.{giving_knows}
use Rattle.ring_laws.proofs.Back.{unbound_knows}
use Rattle.ring_laws.proofs.Due.{under_way}
use Rattle.ring_laws.proofs.WrittenBack.{unbound_nothing, giving_nothing}

-- the back halts between two entries and two replies, and knows no less
pub record Stops (x : Sight) (why : Halt) (old new : View) : Type 0 where
  pub running : old.halted ≡ None
  pub halted : new.halted ≡ Some why
  pub over : is_some new.halted ≡ true
  pub plain : is_overrun (lines.Halt why) ≡ false
  pub between : is_between old.stage ≡ true
  pub still : under_way old.stage ≡ []
  pub ceased : under_way new.stage ≡ []
  pub fetched : new.fetched ≡ old.fetched
  pub info : new.jobs.info ≡ old.jobs.info
  pub told : new.told ≡ old.told
  pub shape : new.shape ≡ old.shape
  pub whole : IsWhole x
  pub knows : Knows x new

-- the negotiation finds no overrun
may_plain : (why : Halt) → may_halt why ≡ true → is_overrun (lines.Halt why) ≡ false
may_plain (halt.Overrun prod rsp_prod) may = absurd (cc)
may_plain why may = refl

pub stops_cases : (P : View → Type 0) (why : Halt) (v : View) (x : Sight) → Knows x v → ((new : View) → Stops x why v new → P new) → P v → P (halts why v)
stops_cases P why v x knows stops none = halts_for_cases P why v unmapped looping none
  where
    at_rest : (new : View) → is_between v.stage ≡ true → under_way v.stage ≡ [] → under_way new.stage ≡ [] → v.halted ≡ None → new.halted ≡ Some why → new.fetched ≡ v.fetched → new.jobs.info ≡ v.jobs.info → new.told ≡ v.told → new.shape ≡ v.shape → may_halt why ≡ true → Knows x new → P new
    at_rest new between still ceased running halted fetched info told shape may over = stops new (record {
      running = running;
      halted = halted;
      over = ap is_some halted;
      plain = may_plain why may;
      between = between;
      still = still;
      ceased = ceased;
      fetched = fetched;
      info = info;
      told = told;
      shape = shape;
      whole = whole_words v.stage x v between knows;
      knows = over;
    })

    waits_at : (s : BackStage) → is_unbound s ≡ true → KnowsAt s x v → v.halted ≡ None
    waits_at stage.InitWait is k = k.waits.running
    waits_at stage.MapRing is k = k.waits.running
    waits_at s is k = absurd (cc)

    between_at : (s : BackStage) → is_unbound s ≡ true → (is_between s ≡ true) × (under_way s ≡ [])
    between_at stage.InitWait is = (refl, refl)
    between_at stage.MapRing is = (refl, refl)
    between_at s is = absurd (cc)

    unmapped : may_halt why ≡ true → is_unbound v.stage ≡ true → P (record v { halted = Some why; stage = unbound v.pages })
    unmapped may at =
        let new : View = record v { halted = Some why; stage = unbound v.pages } in
        let both = between_at v.stage at in
        at_rest new both.0 both.1 (unbound_nothing v.pages) (waits_at v.stage at knows) refl refl refl refl refl may
        (unbound_knows v.pages x new (record { over = refl; whole = whole_words v.stage x v both.0 knows }))

    looping : may_halt why ≡ true → v.stage ≡ stage.Loop → P (abort (record v { halted = Some why }))
    looping may at =
        let new : View = abort (record v { halted = Some why }) in
        let s : Serves 0 x v = subst (λ (t : BackStage). KnowsAt t x v) at knows in
        at_rest new (ap is_between at) (ap under_way at) (giving_nothing (first_mapping v.jobs.works)) s.running refl refl refl refl refl may
        (giving_knows (first_mapping v.jobs.works) x new (record { over = refl; whole = served_whole x v s }))
