-- A report falls into the lines of the events that made it.
use Rattle.std.proofs.Common.{◌≡◌, ℕ, Bool, true, false, ◌≤◌, ◌*◌, ◌^◌, List, [], ◌∷◌, ◌++◌, refl, ap, sym, ◌∙◌, subst, arith}
use Rattle.std.specs.List.{list_any}
use Rattle.std.proofs.lemmas.List.{append-nil}
use Rattle.blk_base.specs.Options.{Options}
use Rattle.schedule_text.specs.declared.event.Event.{Event}
use Rattle.schedule_text.specs.declared.event.Event.TheVariants as events
use Rattle.schedule_text.specs.declared.line.Detail.{Detail}
use Rattle.schedule_text.specs.declared.line.Detail.TheVariants.{Moves}
use Rattle.schedule_text.specs.declared.line.Line.{Line}
use Rattle.schedule_text.specs.declared.line.Line.TheVariants.{Begin, End}
use Rattle.schedule_text.specs.Range.{AreOptions}
use Rattle.schedule_text.specs.Recorder.{kept_of}
use Rattle.plain_disk.specs.Echo.{Answers}
use Rattle.blk_front.proofs.Shapes.{few_pages}
use Rattle.split_model.specs.World as rings
use Rattle.split_model.specs.Happening as ring
use Rattle.split_model.specs.Report as ring_report
use Rattle.split_model.proofs.Running.{kept_of-append}
use Rattle.move_laws.specs.Tells.{Tells}
use Rattle.move_laws.specs.Dumped.{AreWished}
use Rattle.move_laws.proofs.Wished.{HasOrder}
use Rattle.move_laws.proofs.Runs.{report_follows}
use Rattle.move_laws.proofs.Recorded.{report_kept, lines_kept}
use Rattle.vbd_model.specs.World.{World, start_of}
use Rattle.vbd_model.specs.Happening.{Happening, Dumps, after, lines_of, all_does}
use Rattle.vbd_model.specs.Kind.{are_carried, AreOf, AreOfAll}
use Rattle.vbd_model.specs.Report.{report_of}
use Rattle.vbd_model.proofs.Running.{after-append, lines_of-append, all_does-append, after_rings, lines_lift, report_lift}
use Rattle.vbd_model.proofs.Echo.{kept_echo, event_echo}
use Rattle.vbd_laws.specs.Halts.{asked_by}
use Rattle.vbd_laws.specs.StateLines.{is_closing, StandAsSaid}
use Rattle.vbd_laws.proofs.StateLines.{report_states}
use Rattle.event_laws.specs.Closing.{Asked, none_asked, asked_after, ClosesOnce}
use Rattle.event_laws.specs.Parts as by
use Rattle.event_laws.specs.Parts.{Part, shown_words, IsDumped, IsPart, AreParts}
use Rattle.event_laws.specs.Laws.{EachReportIsByEvents, EachEndedIsByEvents}
use Rattle.event_laws.proofs.Worded.{asked_by-append, asked_on, part_worded}
use Rattle.event_laws.proofs.Closing.{kept_closing, part_closing}
use Rattle.event_laws.proofs.Once.{stands_once, kept_once}
use Rattle.event_laws.proofs.Asked.{IsEasy, easy_first, easy_next, part_asked}
use Rattle.event_laws.proofs.Dumped.{same_words, order_after, wished_first, wished_rest}

-- these lines fall into the lines of these events, after the lines before
record Falls (order : ℕ) (detail : Detail) (asked : Asked) (before : List Line) (schedule : List Event) (all : List Line) : Type 0 where
  parts : List Part
  events : by.events_of parts ≡ schedule
  lines : by.lines_of parts ≡ all
  each : AreParts order detail asked before parts

-- the words of the ring are told by the report so far
dumped_here : (config : Options) (h0 : List Happening) (w : World) (hs : List Happening) → config.order ≤ 4 → after h0 (start_of config) ≡ w → HasOrder config.order w.rings → hs ≡ Dumps ∷ []
    → kept_of Moves (lines_of hs w) ≡ shown_words (kept_of Moves (report_of config Moves h0)) 0 (1024 * 2 ^ config.order)
dumped_here config h0 w hs narrow at is all =
    let r : rings.World = w.rings in
    let few = few_pages config.order narrow in
    let does = all_does h0 (start_of config) in
    let there : r ≡ ring.after does (rings.start_of config) = ap (λ (x : World). x.rings) (sym at) ∙ after_rings h0 (start_of config) in
    let told : Tells (ring_report.report_of config Moves does) r.under.pages r.under.grants =
    subst (λ (x : rings.World). Tells (ring_report.report_of config Moves does) x.under.pages x.under.grants) (sym there) (report_follows config Moves does narrow).tells in
    let same : kept_of Moves (report_of config Moves h0) ≡ ring_report.report_of config Moves does = ap (kept_of Moves) (report_lift config Moves h0) ∙ report_kept config does in
    let shown = same_words (ring_report.report_of config Moves does) r.under.pages r.under.grants 0 (1024 * 2 ^ config.order) (omega arith) told in
    let words = ring.ring_lines r.under.pages 0 (1024 * 2 ^ config.order) in
    let made : ring.lines_of (ring.Dumps ∷ []) r ≡ words =
    append-nil (ring.ring_lines r.under.pages 0 (1024 * 2 ^ r.front.shape.order)) ∙ ap (λ (n : ℕ). ring.ring_lines r.under.pages 0 (1024 * 2 ^ n)) is in
    ap (λ (l : List Happening). kept_of Moves (lines_of l w)) all
    ∙ (ap (kept_of Moves) (lines_lift (Dumps ∷ []) w)
    ∙ (lines_kept (ring.Dumps ∷ []) r
    ∙ (made ∙ (sym shown ∙ ap (λ (l : List Line). shown_words l 0 (1024 * 2 ^ config.order)) (sym same)))))

dumped_at : (config : Options) (detail : Detail) (e : Event) (h0 : List Happening) (w : World) (hs : List Happening) → config.order ≤ 4 → after h0 (start_of config) ≡ w → HasOrder config.order w.rings → AreOf e w hs → detail ≡ Moves
    → IsDumped config.order (kept_of detail (report_of config detail h0)) e (kept_of detail (lines_of hs w))
dumped_at config detail events.Dump h0 w hs narrow at is made moves =
    subst (λ (d : Detail). kept_of d (lines_of hs w) ≡ shown_words (kept_of d (report_of config d h0)) 0 (1024 * 2 ^ config.order)) (sym moves) (dumped_here config h0 w hs narrow at is made.1)
dumped_at config detail e h0 w hs narrow at is made moves = tt

-- what the events asked is what happened
record Stood (config : Options) (asked : Asked) (h0 : List Happening) : Type 0 where
  unplug : asked_by false h0 (start_of config) ≡ asked.unplug
  easy : IsEasy config asked.close asked.touch h0

stood_on : (config : Options) (asked : Asked) (e : Event) (h0 : List Happening) (w : World) (hs : List Happening) → after h0 (start_of config) ≡ w → Stood config asked h0 → AreOf e w hs → Stood config (asked_after asked e) (h0 ++ hs)
stood_on config asked e h0 w hs at stood made = record {
  unplug = asked_by-append false h0 hs (start_of config) ∙ (ap (λ (b : Bool). asked_by b hs (after h0 (start_of config))) stood.unplug
      ∙ (ap (asked_by asked.unplug hs) at ∙ asked_on asked.unplug e w hs made.1));
  easy = easy_next config asked.close asked.touch e h0 w hs at stood.easy made;
}

-- what one event made more
grown : (config : Options) (detail : Detail) (h0 first : List Happening) (w : World) → after h0 (start_of config) ≡ w
    → kept_of detail (report_of config detail h0) ++ kept_of detail (lines_of first w) ≡ kept_of detail (report_of config detail (h0 ++ first))
grown config detail h0 first w at =
    sym (kept_of-append detail (report_of config detail h0) (lines_of first w))
    ∙ ap (λ (l : List Line). kept_of detail (Begin config detail ∷ l))
    (ap (λ (x : World). lines_of h0 (start_of config) ++ lines_of first x) (sym at) ∙ sym (lines_of-append h0 first (start_of config)))

-- the front begins to close once
once_at : (config : Options) (detail : Detail) (h0 : List Happening) (w : World) (hs : List Happening) → config.indirect ≤ 960 → after h0 (start_of config) ≡ w
    → ClosesOnce (list_any is_closing (kept_of detail (report_of config detail h0))) (kept_of detail (lines_of hs w))
once_at config detail h0 w hs few at =
    let stand : StandAsSaid (kept_of Moves (report_of config Moves h0) ++ kept_of Moves (lines_of hs w)) =
    subst (λ (ls : List Line). StandAsSaid ls) (sym (grown config Moves h0 hs w at)) (report_states config Moves (h0 ++ hs) few refl) in
    let same : list_any is_closing (kept_of Moves (report_of config Moves h0)) ≡ list_any is_closing (kept_of detail (report_of config detail h0)) =
    kept_closing Moves (report_of config Moves h0) ∙ sym (kept_closing detail (report_of config detail h0)) in
    kept_once detail (list_any is_closing (kept_of detail (report_of config detail h0))) (lines_of hs w)
    (subst (λ (b : Bool). ClosesOnce b (kept_of Moves (lines_of hs w))) same (stands_once (kept_of Moves (report_of config Moves h0)) (kept_of Moves (lines_of hs w)) stand))

falls : (config : Options) (detail : Detail) (asked : Asked) (schedule : List Event) (h0 : List Happening) (w : World) (hs : List Happening) → are_carried config ≡ true → AreOptions config → Stood config asked h0 → after h0 (start_of config) ≡ w → HasOrder config.order w.rings → AreWished config.order (all_does hs w) → AreOfAll schedule w hs
    → Falls config.order detail asked (kept_of detail (report_of config detail h0)) schedule (kept_of detail (lines_of hs w))
falls config detail asked [] h0 w hs carried options stood at is wished made =
    record { parts = []; events = refl; lines = ap (λ (l : List Happening). kept_of detail (lines_of l w)) (sym made); each = tt }
falls config detail asked (e ∷ schedule) h0 w hs carried options stood at is wished made =
    let first = made.0 in
    let rest = made.1 in
    let both : AreWished config.order (all_does first w ++ all_does rest (after first w)) =
    subst (AreWished config.order) (ap (λ (l : List Happening). all_does l w) made.2 ∙ all_does-append first rest w) wished in
    let there : HasOrder config.order (let v : World = after first w in v.rings) =
    subst (HasOrder config.order) (sym (after_rings first w)) (order_after config.order (all_does first w) w.rings (wished_first config.order (all_does first w) (all_does rest (after first w)) both) is) in
    let later : Falls config.order detail (asked_after asked e) (kept_of detail (report_of config detail (h0 ++ first))) schedule (kept_of detail (lines_of rest (after first w))) =
    falls config detail (asked_after asked e) schedule (h0 ++ first) (after first w) rest carried options (stood_on config asked e h0 w first at stood made.3) (after-append h0 first (start_of config) ∙ ap (after first) at) there
    (wished_rest config.order (all_does first w) (all_does rest (after first w)) both) made.4 in
    let shown = kept_of detail (lines_of first w) in
    let all : shown ++ kept_of detail (lines_of rest (after first w)) ≡ kept_of detail (lines_of hs w) =
    sym (kept_of-append detail (lines_of first w) (lines_of rest (after first w)))
    ∙ (ap (kept_of detail) (sym (lines_of-append first rest w)) ∙ ap (λ (l : List Happening). kept_of detail (lines_of l w)) (sym made.2)) in
    record {
      parts = record { event = e; lines = shown } ∷ later.parts;
      events = ap (λ (l : List Event). e ∷ l) later.events;
      lines = ap (λ (l : List Line). shown ++ l) later.lines ∙ all;
      each = (
        record {
          answers = subst (Answers config.order e) (sym (kept_echo detail (lines_of first w))) (event_echo config.order e w first (let same : (let r : rings.World = w.rings in r.front.shape.order) ≡ config.order = is in omega arith) made.3);
          dumped = dumped_at config detail e h0 w first options.0 at is made.3;
          worded = part_worded config detail asked.unplug e h0 w first options.2 at stood.unplug made.3.1;
          closing = part_closing config detail e h0 w first options.2 at made.3.1;
          once = once_at config detail h0 w first options.2 at;
          unasked = part_asked config detail asked.close asked.touch e h0 w first carried options at stood.easy made.3;
        },
        subst (λ (l : List Line). AreParts config.order detail (asked_after asked e) l later.parts) (sym (grown config detail h0 first w at)) later.each,
      );
    }

pub report_by_events : EachReportIsByEvents
report_by_events config detail schedule history made =
    let f = falls config detail none_asked schedule [] (start_of config) history made.carried made.options (record { unplug = refl; easy = λ unasked alone. easy_first config }) refl refl made.wished made.made in
    record { parts = f.parts; events = f.events; lines = ap (λ (l : List Line). Begin config detail ∷ l) (sym f.lines); each = f.each }

pub ended_by_events : EachEndedIsByEvents
ended_by_events config detail schedule history made = (
  kept_of detail (report_of config detail history),
  kept_of-append detail (report_of config detail history) (End ∷ []),
  report_by_events config detail schedule history made,
)
