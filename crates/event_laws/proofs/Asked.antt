-- Before a hostile hand overwrites anything the front begins to close only where an event asked an end to.
use Rattle.std.proofs.Common.{◌≡◌, Bool, true, false, true≢false, ◌||◌, List, [], ◌∷◌, ◌++◌, refl, ap, sym, ◌∙◌, subst}
use Rattle.std.specs.List.{AllByRecursion, list_any}
use Rattle.std.proofs.lemmas.List.Folds.{list_any-append}
use Rattle.blk_base.specs.Options.{Options}
use Rattle.blk_base.specs.declared.parts.End.TheVariants as end
use Rattle.schedule_text.specs.declared.event.Event.{Event}
use Rattle.schedule_text.specs.declared.event.Event.TheVariants as events
use Rattle.schedule_text.specs.declared.line.Detail.{Detail}
use Rattle.schedule_text.specs.Range.{AreOptions}
use Rattle.schedule_text.specs.Recorder.{kept_of}
use Rattle.vbd_model.specs.World.{World, start_of}
use Rattle.vbd_model.specs.Happening.{Happening, Closes, Pokes, OverwritesKey, happens, lines_at, lines_of, after}
use Rattle.vbd_model.specs.Kind.{are_carried, AreOf}
use Rattle.vbd_model.specs.Possible.{ArePossible}
use Rattle.vbd_model.proofs.Possible.{possible_append, event_possible}
use Rattle.vbd_model.proofs.Running.{after-append}
use Rattle.vbd_laws.specs.Asked.{is_close}
use Rattle.vbd_laws.specs.Quiet.{IsUntouched, AreUntouched}
use Rattle.vbd_laws.specs.StateLines.{is_closing}
use Rattle.vbd_laws.proofs.StateLinesAsked.{closing_asked}
use Rattle.event_laws.specs.Closing.{close_after, touch_after}
use Rattle.event_laws.proofs.Made.{MayMake, is_front_close, is_back_close, is_touch, made_all}
use Rattle.event_laws.proofs.Closing.{kept_closing}

-- what was not asked after an event was not before it, nor by it
close_before : (asked : Bool) (e : Event) → close_after asked e ≡ false → asked ≡ false
close_before asked (events.Close at) none = absurd (true≢false none)
close_before asked e none = none

touch_before : (asked : Bool) (e : Event) → touch_after asked e ≡ false → asked ≡ false
touch_before asked (events.Poke frame word value) none = absurd (true≢false none)
touch_before asked (events.Key name text) none = absurd (true≢false none)
touch_before asked e none = none

no_front_close : (asked : Bool) (e : Event) → close_after asked e ≡ false → is_front_close e ≡ false
no_front_close asked (events.Close at) none = absurd (true≢false none)
no_front_close asked e none = refl

no_back_close : (asked : Bool) (e : Event) → close_after asked e ≡ false → is_back_close e ≡ false
no_back_close asked (events.Close at) none = absurd (true≢false none)
no_back_close asked e none = refl

no_touch : (asked : Bool) (e : Event) → touch_after asked e ≡ false → is_touch e ≡ false
no_touch asked (events.Poke frame word value) none = absurd (true≢false none)
no_touch asked (events.Key name text) none = absurd (true≢false none)
no_touch asked e none = refl

-- so its happenings are neither
one_kept : (e : Event) (h : Happening) → is_front_close e ≡ false → is_back_close e ≡ false → MayMake e h → is_close h ≡ false
one_kept e (Closes end.Front) front back may = absurd (true≢false (sym may ∙ front))
one_kept e (Closes end.Back) front back may = absurd (true≢false (sym may ∙ back))
one_kept e h front back may = refl

each_kept : (e : Event) (hs : List Happening) → is_front_close e ≡ false → is_back_close e ≡ false → AllByRecursion (MayMake e) hs → AllByRecursion (λ (h : Happening). is_close h ≡ false) hs
each_kept e [] front back may = tt
each_kept e (h ∷ hs) front back may = (one_kept e h front back may.0, each_kept e hs front back may.1)

none_closes : (hs : List Happening) → AllByRecursion (λ (h : Happening). is_close h ≡ false) hs → list_any is_close hs ≡ false
none_closes [] none = refl
none_closes (h ∷ hs) none = ap (λ (b : Bool). b || list_any is_close hs) none.0 ∙ none_closes hs none.1

one_untouched : (e : Event) (h : Happening) → is_touch e ≡ false → MayMake e h → IsUntouched h
one_untouched e (Pokes frame word value) none may = absurd (true≢false (sym may ∙ none))
one_untouched e (OverwritesKey name text) none may = absurd (true≢false (sym may ∙ none))
one_untouched e h none may = tt

all_untouched : (e : Event) (hs : List Happening) → is_touch e ≡ false → AllByRecursion (MayMake e) hs → AreUntouched hs
all_untouched e [] none may = tt
all_untouched e (h ∷ hs) none may = (one_untouched e h none may.0, all_untouched e hs none may.1)

untouched-append : (a b : List Happening) → AreUntouched a → AreUntouched b → AreUntouched (a ++ b)
untouched-append [] b p q = q
untouched-append (h ∷ a) b p q = (p.0, untouched-append a b p.1 q)

closes_on : (a b : List Happening) → list_any is_close a ≡ false → list_any is_close b ≡ false → list_any is_close (a ++ b) ≡ false
closes_on a b p q = list_any-append is_close a b ∙ (ap (λ (c : Bool). c || list_any is_close b) p ∙ q)

-- what is known of a history after which the front didn't begin to close
pub record Easy (config : Options) (h0 : List Happening) : Type 0 where
  pub closes : list_any is_close h0 ≡ false
  pub untouched : AreUntouched h0
  pub possible : ArePossible h0 (start_of config)

possible_on : (config : Options) (h0 hs : List Happening) (w : World) → after h0 (start_of config) ≡ w → ArePossible h0 (start_of config) → ArePossible hs w → ArePossible (h0 ++ hs) (start_of config)
possible_on config h0 hs w at before now = possible_append h0 hs (start_of config) before (subst (ArePossible hs) (sym at) now)

easy_on : (config : Options) (h0 hs : List Happening) (w : World) → after h0 (start_of config) ≡ w → Easy config h0 → list_any is_close hs ≡ false → AreUntouched hs → ArePossible hs w → Easy config (h0 ++ hs)
easy_on config h0 hs w at easy closes untouched possible = record {
  closes = closes_on h0 hs easy.closes closes;
  untouched = untouched-append h0 hs easy.untouched untouched;
  possible = possible_on config h0 hs w at easy.possible possible;
}

one_quiet : (config : Options) (h0 : List Happening) (h : Happening) → are_carried config ≡ true → AreOptions config → Easy config h0 → is_close h ≡ false → list_any is_closing (lines_at (after h0 (start_of config)) h) ≡ false
one_quiet config h0 h carried options easy none = by_lines (list_any is_closing (lines_at (after h0 (start_of config)) h)) refl
  where
    by_lines : (b : Bool) → list_any is_closing (lines_at (after h0 (start_of config)) h) ≡ b → b ≡ false
    by_lines true shows = absurd (true≢false (sym (closing_asked config h0 h carried options easy.possible easy.untouched shows) ∙ closes_on h0 (h ∷ []) easy.closes (ap (λ (b : Bool). b || false) none)))
    by_lines false shows = refl

all_quiet : (config : Options) (h0 : List Happening) (w : World) (hs : List Happening) → are_carried config ≡ true → AreOptions config → after h0 (start_of config) ≡ w → Easy config h0
    → AllByRecursion (λ (h : Happening). is_close h ≡ false) hs → AreUntouched hs → ArePossible hs w → list_any is_closing (lines_of hs w) ≡ false
all_quiet config h0 w [] carried options at easy closes untouched possible = refl
all_quiet config h0 w (h ∷ hs) carried options at easy closes untouched possible =
    let here : list_any is_closing (lines_at w h) ≡ false = subst (λ (x : World). list_any is_closing (lines_at x h) ≡ false) at (one_quiet config h0 h carried options easy closes.0) in
    let next : Easy config (h0 ++ h ∷ []) = easy_on config h0 (h ∷ []) w at easy (ap (λ (b : Bool). b || false) closes.0) (untouched.0, tt) (possible.0, tt) in
    list_any-append is_closing (lines_at w h) (lines_of hs (happens w h))
    ∙ (ap (λ (b : Bool). b || list_any is_closing (lines_of hs (happens w h))) here
    ∙ all_quiet config (h0 ++ h ∷ []) (happens w h) hs carried options (after-append h0 (h ∷ []) (start_of config) ∙ ap (λ (x : World). happens x h) at) next closes.1 untouched.1 possible.1)

-- after the events so far, of which none asked an end to close or overwrote anything
abbrev pub IsEasy : Options → (close touch : Bool) → List Happening → Type 0
IsEasy config close touch h0 = close ≡ false → touch ≡ false → Easy config h0

pub easy_first : (config : Options) → Easy config []
easy_first config = record { closes = refl; untouched = tt; possible = tt }

pub easy_next : (config : Options) (close touch : Bool) (e : Event) (h0 : List Happening) (w : World) (hs : List Happening) → after h0 (start_of config) ≡ w → IsEasy config close touch h0 → AreOf e w hs → IsEasy config (close_after close e) (touch_after touch e) (h0 ++ hs)
easy_next config close touch e h0 w hs at easy made unasked alone =
    let may = made_all e w hs made.1 in
    easy_on config h0 hs w at (easy (close_before close e unasked) (touch_before touch e alone))
    (none_closes hs (each_kept e hs (no_front_close close e unasked) (no_back_close close e unasked) may)) (all_untouched e hs (no_touch touch e alone) may) (event_possible e w hs made)

pub part_asked : (config : Options) (detail : Detail) (close touch : Bool) (e : Event) (h0 : List Happening) (w : World) (hs : List Happening) → are_carried config ≡ true → AreOptions config → after h0 (start_of config) ≡ w → IsEasy config close touch h0 → AreOf e w hs
    → close_after close e ≡ false → touch_after touch e ≡ false → list_any is_closing (kept_of detail (lines_of hs w)) ≡ false
part_asked config detail close touch e h0 w hs carried options at easy made unasked alone =
    let may = made_all e w hs made.1 in
    kept_closing detail (lines_of hs w)
    ∙ all_quiet config h0 w hs carried options at (easy (close_before close e unasked) (touch_before touch e alone))
    (each_kept e hs (no_front_close close e unasked) (no_back_close close e unasked) may) (all_untouched e hs (no_touch touch e alone) may) (event_possible e w hs made)
