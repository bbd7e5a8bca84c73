-- What a back offers and what its disk is has no part in what it makes of its answers.
use Rattle.std.proofs.Common.{◌≡◌, ℕ, ◌∙◌, ap, refl, ◌==◌, Bool, true, false, List, [], ◌∷◌, if◌then◌else◌}
use Rattle.std.specs.Prelude.{Option, Some, None}
use Rattle.std.specs.Option.{option_map}
use Rattle.blk_base.specs.declared.ask.BackAnswer.{BackAnswer}
use Rattle.blk_base.specs.declared.ask.BackAnswer.TheVariants as answer
use Rattle.xenbus_state.specs.declared.keys.FrontKey.{FrontKey}
use Rattle.xenbus_state.specs.declared.keys.FrontKey.TheVariants as key
use Rattle.xenbus_state.specs.declared.offer.Features.{Features}
use Rattle.xenbus_state.specs.declared.offer.DiskFacts.{DiskFacts}
use Rattle.xenbus_state.specs.declared.state.BusState.TheVariants as state
use Rattle.xenbus_state.specs.declared.stage.BackBusStage.{BackBusStage}
use Rattle.xenbus_state.specs.declared.stage.BackBusStage.TheVariants as stage
use Rattle.xenbus_state.specs.declared.table.BackAction.{BackAction}
use Rattle.xenbus_state.specs.declared.table.BackAction.TheVariants as action
use Rattle.xenbus_state.specs.States.{state_read}
use Rattle.xenbus_state.specs.Numbers.{number_of}
use Rattle.xenbus_state.specs.Reading.{count_read}
use Rattle.xenbus_state.specs.Programs.{after_page}
use Rattle.xenbus_state.specs.Tables.{back_action}
use Rattle.xenbus_state.specs.BackView.{BackView, start_of, halted, is_halting}
use Rattle.xenbus_state.specs.BackAsk.{says_closing}
use Rattle.xenbus_state.specs.BackReading.{key_read, order_of, layout_read, with_order, with_gref, with_port, with_layout, with_persistent}
use Rattle.xenbus_state.specs.BackStep.{step_at, acted, kept_or_halted}
use Rattle.xenbus_state.specs.Runs.{BackTurn, Hears, Unplugs, Stops, back_turned, back_after}

-- the same back with another offer and another disk
abbrev offering : Features → DiskFacts → BackView → BackView
offering f d v = record v { features = f; disk = d }

acted_alone : (act : BackAction) (f : Features) (d : DiskFacts) (v : BackView) → acted act (offering f d v) ≡ offering f d (acted act v)
acted_alone action.Nothing f d v = refl
acted_alone action.Connect f d v = refl
acted_alone (action.Halt reason) f d v = refl

kept_alone : {A : Type 0} (g : BackView → A → BackView) (n : Option A) (f : Features) (d : DiskFacts) (v : BackView) → ((x : A) → g (offering f d v) x ≡ offering f d (g v x)) → kept_or_halted (option_map (g (offering f d v)) n) (offering f d v) ≡ offering f d (kept_or_halted (option_map (g v) n) v)
kept_alone g None f d v h = refl
kept_alone g (Some x) f d v h = h x

only_alone : (single : Bool) (f : Features) (d : DiskFacts) (v : BackView) → kept_or_halted (if single then Some (record (offering f d v) { stage = stage.ReadKey key.RingRef }) else None) (offering f d v) ≡ offering f d (kept_or_halted (if single then Some (record v { stage = stage.ReadKey key.RingRef }) else None) v)
only_alone true f d v = refl
only_alone false f d v = refl

key_alone : (k : FrontKey) (text : Option (List ℕ)) (f : Features) (d : DiskFacts) (v : BackView) → kept_or_halted (key_read k text (offering f d v)) (offering f d v) ≡ offering f d (kept_or_halted (key_read k text v) v)
key_alone key.RingPageOrder None f d v = refl
key_alone key.RingPageOrder (Some text) f d v = kept_alone (λ w. with_order w (key.RingRefOf 0)) (order_of (number_of text)) f d v (λ x. refl)
key_alone (key.RingRefOf page) None f d v = only_alone (v.terms.order == 0) f d v
key_alone (key.RingRefOf page) (Some text) f d v = kept_alone (λ w. with_gref w (after_page v.terms.order page)) (number_of text) f d v (λ x. refl)
key_alone key.RingRef None f d v = refl
key_alone key.RingRef (Some text) f d v = kept_alone (λ w. with_gref w key.EventChannel) (number_of text) f d v (λ x. refl)
key_alone key.EventChannel None f d v = refl
key_alone key.EventChannel (Some text) f d v = kept_alone with_port (number_of text) f d v (λ x. refl)
key_alone key.Protocol text f d v = kept_alone with_layout (layout_read text) f d v (λ x. refl)
key_alone key.FeaturePersistent text f d v = kept_alone with_persistent (count_read text) f d v (λ x. refl)

step_alone : (s : BackBusStage) (v : BackView) (a : BackAnswer) (f : Features) (d : DiskFacts) → step_at s (offering f d v) a ≡ offering f d (step_at s v a)
step_alone stage.ReadState v (answer.Key text) f d = acted_alone (back_action v.state v.unplugged (state_read text)) f d v
step_alone (stage.ReadKey k) v (answer.Key text) f d = key_alone k text f d v
step_alone stage.Watch v answer.Event f d = refl
step_alone s v answer.Event f d = refl
step_alone stage.Watch v (answer.Watched path) f d = refl
step_alone s v (answer.Watched path) f d = refl
step_alone stage.Watch v answer.Done f d = refl
step_alone s v answer.Done f d = refl
step_alone stage.Watch v (answer.Word word) f d = refl
step_alone s v (answer.Word word) f d = refl
step_alone stage.Watch v (answer.Mapped page) f d = refl
step_alone s v (answer.Mapped page) f d = refl
step_alone stage.Watch v (answer.MapRefused status) f d = refl
step_alone s v (answer.MapRefused status) f d = refl
step_alone stage.Watch v answer.BindRefused f d = refl
step_alone s v answer.BindRefused f d = refl
step_alone stage.Watch v (answer.Key text) f d = refl
step_alone s v (answer.Key text) f d = refl
step_alone stage.Watch v (answer.Sector words) f d = refl
step_alone s v (answer.Sector words) f d = refl
step_alone stage.Watch v answer.DiskFailed f d = refl
step_alone s v answer.DiskFailed f d = refl

choice_alone : (changes : Bool) (v w : BackView) (f : Features) (d : DiskFacts) → (if changes then offering f d v else offering f d w) ≡ offering f d (if changes then v else w)
choice_alone true v w f d = refl
choice_alone false v w f d = refl

told_alone : (says : Bool) (v : BackView) (a : BackAnswer) (f : Features) (d : DiskFacts) → (if says then record (offering f d v) { state = state.Closing } else step_at v.stage (offering f d v) a) ≡ offering f d (if says then record v { state = state.Closing } else step_at v.stage v a)
told_alone true v a f d = refl
told_alone false v a f d = step_alone v.stage v a f d

turn_alone : (turn : BackTurn) (v : BackView) (f : Features) (d : DiskFacts) → back_turned turn (offering f d v) ≡ offering f d (back_turned turn v)
turn_alone (Hears a) v f d = told_alone (says_closing v) v a f d
turn_alone Unplugs v f d = choice_alone (is_halting v.stage) v (record v { unplugged = true }) f d
turn_alone Stops v f d = choice_alone (is_halting v.stage) v (halted v) f d

run_alone : (turns : List BackTurn) (v : BackView) (f : Features) (d : DiskFacts) → back_after turns (offering f d v) ≡ offering f d (back_after turns v)
run_alone [] v f d = refl
run_alone (turn ∷ turns) v f d = ap (back_after turns) (turn_alone turn v f d) ∙ run_alone turns (back_turned turn v) f d

pub from_the_front_alone : (f g : Features) (d e : DiskFacts) (turns : List BackTurn) → ((back_after turns (start_of f d)).terms ≡ (back_after turns (start_of g e)).terms) × ((back_after turns (start_of f d)).grefs ≡ (back_after turns (start_of g e)).grefs)
from_the_front_alone f g d e turns =
    let same : back_after turns (start_of f d) ≡ offering f d (back_after turns (start_of g e)) = run_alone turns (start_of g e) f d in
    (ap (λ (v : BackView). v.terms) same, ap (λ (v : BackView). v.grefs) same)
