-- A halt for a front that is gone has the word that goes with what the events asked of the back.
use Rattle.std.proofs.Common.{◌≡◌, ◌≤◌, Bool, true, false, true≢false, if◌then◌else◌, List, [], ◌∷◌, ◌++◌, refl, ap, sym, ◌∙◌, subst}
use Rattle.std.specs.List.{AllByRecursion}
use Rattle.blk_base.specs.Options.{Options}
use Rattle.blk_base.specs.declared.parts.End.TheVariants as end
use Rattle.schedule_text.specs.declared.event.Event.{Event}
use Rattle.schedule_text.specs.declared.event.Event.TheVariants as events
use Rattle.schedule_text.specs.declared.line.Detail.{Detail}
use Rattle.schedule_text.specs.declared.line.Detail.TheVariants.{Lines}
use Rattle.schedule_text.specs.declared.line.Line.{Line}
use Rattle.schedule_text.specs.declared.line.Line.TheVariants as lines
use Rattle.schedule_text.specs.Recorder.{kept_of}
use Rattle.split_model.specs.World.{may_suspend}
use Rattle.split_model.proofs.Showing.{both_all}
use Rattle.vbd_model.specs.World.{World, start_of}
use Rattle.vbd_model.specs.Happening.{Happening, Closes, Suspends, happens, lines_at, lines_of, after}
use Rattle.vbd_model.specs.Kind.{Makes}
use Rattle.vbd_model.proofs.Running.{after-append}
use Rattle.vbd_laws.specs.Halts.{IsWorded, asked_after, asked_by}
use Rattle.vbd_laws.proofs.Halts.{halts_worded}
use Rattle.event_laws.specs.Closing.{unplug_after}
use Rattle.event_laws.proofs.Made.{MayMake, is_back_close, is_suspend, made_all}

pub asked_by-append : (asked : Bool) (a b : List Happening) (w : World) → asked_by asked (a ++ b) w ≡ asked_by (asked_by asked a w) b (after a w)
asked_by-append asked [] b w = refl
asked_by-append asked (h ∷ a) b w = asked_by-append (asked_after asked w h) a b (happens w h)

-- what another event makes leaves what was asked
left_by : (asked : Bool) (e : Event) (w : World) (h : Happening) → is_back_close e ≡ false → is_suspend e ≡ false → MayMake e h → asked_after asked w h ≡ asked
left_by asked e w (Closes end.Back) plain none may = absurd (true≢false (sym may ∙ plain))
left_by asked e w Suspends plain none may = absurd (true≢false (sym may ∙ none))
left_by asked e w h plain none may = refl

left : (asked : Bool) (e : Event) (w : World) (hs : List Happening) → is_back_close e ≡ false → is_suspend e ≡ false → AllByRecursion (MayMake e) hs → asked_by asked hs w ≡ asked
left asked e w [] plain none all = refl
left asked e w (h ∷ hs) plain none all = ap (λ (b : Bool). asked_by b hs (happens w h)) (left_by asked e w h plain none all.0) ∙ left asked e (happens w h) hs plain none all.1

pub asked_on : (asked : Bool) (e : Event) (w : World) (hs : List Happening) → Makes e w hs → asked_by asked hs w ≡ unplug_after asked e
asked_on asked (events.Close end.Back) w hs is = ap (λ (l : List Happening). asked_by asked l w) is
asked_on asked events.Suspend w hs is = ap (λ (l : List Happening). asked_by asked l w) is.0 ∙ ap (λ (b : Bool). if b then false else asked) is.1
asked_on asked e w hs is = left asked e w hs refl refl (made_all e w hs is)

-- a recorder that keeps no moves
kept_worded : (asked : Bool) (detail : Detail) (ls : List Line) → AllByRecursion (λ (line : Line). IsWorded asked line) ls → AllByRecursion (λ (line : Line). IsWorded asked line) (kept_of detail ls)
kept_worded asked detail [] all = tt
kept_worded asked detail (lines.Begin config word ∷ ls) all = (tt, kept_worded asked detail ls all.1)
kept_worded asked Lines (lines.Move move ∷ ls) all = kept_worded asked Lines ls all.1
kept_worded asked detail (line ∷ ls) all = (all.0, kept_worded asked detail ls all.1)

-- the words of what another event makes
run_worded : (config : Options) (asked : Bool) (e : Event) (h0 : List Happening) (w : World) (hs : List Happening) → config.indirect ≤ 960 → after h0 (start_of config) ≡ w → asked_by false h0 (start_of config) ≡ asked
    → is_back_close e ≡ false → is_suspend e ≡ false → AllByRecursion (MayMake e) hs → AllByRecursion (λ (line : Line). IsWorded asked line) (lines_of hs w)
run_worded config asked e h0 w [] few at is plain none all = tt
run_worded config asked e h0 w (h ∷ hs) few at is plain none all =
    let here : AllByRecursion (λ (line : Line). IsWorded asked line) (lines_at w h) =
    subst (λ (x : World). AllByRecursion (λ (line : Line). IsWorded asked line) (lines_at x h)) at
    (subst (λ (b : Bool). AllByRecursion (λ (line : Line). IsWorded b line) (lines_at (after h0 (start_of config)) h)) is (halts_worded config h0 h few)) in
    let next : asked_by false (h0 ++ h ∷ []) (start_of config) ≡ asked =
    asked_by-append false h0 (h ∷ []) (start_of config) ∙ (left_by (asked_by false h0 (start_of config)) e (after h0 (start_of config)) h plain none all.0 ∙ is) in
    both_all (λ (line : Line). IsWorded asked line) (lines_at w h) (lines_of hs (happens w h)) here
    (run_worded config asked e (h0 ++ h ∷ []) (happens w h) hs few (after-append h0 (h ∷ []) (start_of config) ∙ ap (λ (x : World). happens x h) at) next plain none all.1)

-- a suspend shows no halt
suspend_worded : (asked : Bool) (w : World) → AllByRecursion (λ (line : Line). IsWorded asked line) (lines_of (Suspends ∷ []) w)
suspend_worded asked w = elim (may_suspend w.rings) as (λ b. AllByRecursion (λ (line : Line). IsWorded asked line) (((if b then lines.Epoch ∷ [] else []) ++ []) ++ [])) [ true ↦ (tt, tt) | false ↦ tt ]

made_worded : (config : Options) (asked : Bool) (e : Event) (h0 : List Happening) (w : World) (hs : List Happening) → config.indirect ≤ 960 → after h0 (start_of config) ≡ w → asked_by false h0 (start_of config) ≡ asked → Makes e w hs
    → AllByRecursion (λ (line : Line). IsWorded (unplug_after asked e) line) (lines_of hs w)
made_worded config asked (events.Close end.Back) h0 w hs few at is made = subst (λ (l : List Happening). AllByRecursion (λ (line : Line). IsWorded true line) (lines_of l w)) (sym made) tt
made_worded config asked events.Suspend h0 w hs few at is made = subst (λ (l : List Happening). AllByRecursion (λ (line : Line). IsWorded false line) (lines_of l w)) (sym made.0) (suspend_worded false w)
made_worded config asked e h0 w hs few at is made = run_worded config asked e h0 w hs few at is refl refl (made_all e w hs made)

pub part_worded : (config : Options) (detail : Detail) (asked : Bool) (e : Event) (h0 : List Happening) (w : World) (hs : List Happening) → config.indirect ≤ 960 → after h0 (start_of config) ≡ w → asked_by false h0 (start_of config) ≡ asked → Makes e w hs
    → AllByRecursion (λ (line : Line). IsWorded (unplug_after asked e) line) (kept_of detail (lines_of hs w))
part_worded config detail asked e h0 w hs few at is made = kept_worded (unplug_after asked e) detail (lines_of hs w) (made_worded config asked e h0 w hs few at is made)
