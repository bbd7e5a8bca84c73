-- A state that the front enters, and a halt of the back, each with its lines; or nothing happens.
use Rattle.std.proofs.Common.{◌≡◌, ℕ, Bool, true, false, if◌then◌else◌, List, [], refl}
use Rattle.std.specs.List.{AllByRecursion}
use Rattle.schedule_text.specs.declared.line.Line.{Line}
use Rattle.schedule_text.specs.declared.line.Line.TheVariants as lines
use Rattle.blk_front.specs.declared.state.FrontState.{FrontState}
use Rattle.blk_front.specs.declared.state.FrontState.TheVariants as state
use Rattle.blk_front.specs.State.{may_enter, in_state, enters}
use Rattle.blk_front.specs.View as front
use Rattle.split_model.specs.Shown.{state_lines}
use Rattle.split_model.specs.Happening.{enter_lines}
pub use Rattle.back_laws.proofs.Calls.{is_unbound, halts_for_cases, halts_cases}

pub enters_cases : (P : front.View → List Line → Type 0) (s : FrontState) (v : front.View) → (may_enter s v ≡ true → P (in_state s v) (state_lines s)) → P v [] → P (enters s v) (enter_lines s v)
enters_cases P s v entered none = by_test (may_enter s v) refl
  where
    by_test : (b : Bool) → may_enter s v ≡ b → P (if b then in_state s v else v) (if b then state_lines s else [])
    by_test true may = entered may
    by_test false may = none

pub enter_lines_are : (P : Line → Type 0) (s : FrontState) (v : front.View) → (may_enter s v ≡ true → AllByRecursion P (state_lines s)) → AllByRecursion P (enter_lines s v)
enter_lines_are P s v all = enters_cases (λ (w : front.View) (shown : List Line). AllByRecursion P shown) s v all tt

-- each line of a state is of this kind, where one is
pub state_lines_are : (P : Line → Type 0) (s : FrontState) → P lines.Ready → P lines.Closing → P lines.Closed → ((word : ℕ) → P (lines.Broken word)) → AllByRecursion P (state_lines s)
state_lines_are P (state.Connected offers) ready closing closed broken = (ready, tt)
state_lines_are P state.Closing ready closing closed broken = (closing, tt)
state_lines_are P (state.Agreed order) ready closing closed broken = tt
state_lines_are P state.Leaving ready closing closed broken = tt
state_lines_are P state.Closed ready closing closed broken = (closed, tt)
state_lines_are P (state.Broken word) ready closing closed broken = (broken word, tt)
