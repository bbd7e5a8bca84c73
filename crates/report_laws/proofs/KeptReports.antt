-- The machine whose back may keep mappings: what holds before all happens and is kept by each happening holds of each of its reports, and so of each report of the machine that keeps none.
use Rattle.std.proofs.Common.{◌≡◌, List, [], ◌∷◌, ◌++◌, false, refl, subst, sym, append_assoc}
use Rattle.std.specs.Prelude.{map}
use Rattle.std.specs.List.{AllByRecursion}
use Rattle.std.proofs.lemmas.List.{append-nil}
use Rattle.blk_base.specs.Options.{Options}
use Rattle.blk_base.specs.declared.parts.End.TheVariants as end
use Rattle.schedule_text.specs.declared.line.Detail.{Detail}
use Rattle.schedule_text.specs.declared.line.Line.{Line}
use Rattle.schedule_text.specs.declared.line.Line.TheVariants as lines
use Rattle.blk_back.specs.Keeping.{KeepsNone}
use Rattle.split_model.specs.World.{World, start_of}
use Rattle.split_model.specs.Keys.{TakesWatch}
use Rattle.split_model.specs.Happening.{Happening, Negotiates, happens, after}
use Rattle.split_model.specs.Kept.{KeepingHappening, Plainly, BackOffers, BackKeeps, back_offers, happens_keeping, shows_keeping, after_keeping, lines_keeping, IsSafeKeeping}
use Rattle.split_model.specs.Report.{report_of, ended_report_of}
use Rattle.split_model.proofs.Kept.{kept_start, kept_happens}
use Rattle.split_model.proofs.Showing.{MayShow}
use Rattle.split_model.proofs.Without.{goes_as_without}
use Rattle.move_laws.specs.Kept.{report_keeping, ended_report_keeping}
use Rattle.report_laws.specs.Kept.{AreEach}
use Rattle.move_laws.proofs.KeptLines.{MayShowKeeping, lines_keeping_are}
use Rattle.move_laws.proofs.Runs.{as_without}

-- what the back does with the keys for kept mappings shows lines as what it does with others
abbrev pub as_plain : KeepingHappening → Happening
as_plain (Plainly h) = h
as_plain h = Negotiates end.Back TakesWatch

shows_as : (h : KeepingHappening) (line : Line) → MayShowKeeping h line → MayShow (as_plain h) line
shows_as (Plainly h) line shows = shows
shows_as BackOffers line shows = shows
shows_as (BackKeeps cap) line shows = shows

-- each line that it shows is one that it may show
pub keeping_are : (P : Line → Type 0) (w : World) (h : KeepingHappening) → ((line : Line) → MayShow (as_plain h) line → P line) → AllByRecursion P (shows_keeping w h)
keeping_are P w h each = lines_keeping_are P w h (λ line shows. each line (shows_as h line shows))

-- what each happening of such a history keeps of the lines before it and of the machine holds of whole reports
abbrev pub IsKeptUp : (Is : World → KeepingHappening → Type 0) (P : List Line → World → Type 0) → Type 0
IsKeptUp Is P = (before : List Line) (w : World) (h : KeepingHappening) → IsSafeKeeping w → Is w h → P before w → P (before ++ shows_keeping w h) (happens_keeping w h)

kept_up : (Is : World → KeepingHappening → Type 0) (P : List Line → World → Type 0) → IsKeptUp Is P → (history : List KeepingHappening) (before : List Line) (w : World) → IsSafeKeeping w → AreEach Is history w
    → P before w → P (before ++ lines_keeping history w) (after_keeping history w)
kept_up Is P step [] before w safe each is = subst (λ (ls : List Line). P ls w) (sym (append-nil before)) is
kept_up Is P step (h ∷ history) before w safe each is =
    subst (λ (ls : List Line). P ls (after_keeping history (happens_keeping w h))) (append_assoc before (shows_keeping w h) (lines_keeping history (happens_keeping w h)))
    (kept_up Is P step history (before ++ shows_keeping w h) (happens_keeping w h) (kept_happens w h safe) each.1 (step before w h safe each.0 is))

pub report_up : (Is : World → KeepingHappening → Type 0) (P : List Line → World → Type 0) → IsKeptUp Is P → (config : Options) (detail : Detail) (history : List KeepingHappening) → AreEach Is history (start_of config)
    → P (lines.Begin config detail ∷ []) (start_of config) → P (report_keeping config detail history) (after_keeping history (start_of config))
report_up Is P step config detail history each is = kept_up Is P step history (lines.Begin config detail ∷ []) (start_of config) (kept_start config) each is

-- of every history
abbrev pub MayBeAny : World → KeepingHappening → Type 0
MayBeAny w h = Unit {0}

each_any : (history : List KeepingHappening) (w : World) → AreEach MayBeAny history w
each_any [] w = tt
each_any (h ∷ history) w = (tt, each_any history (happens_keeping w h))

pub report_always : (P : List Line → World → Type 0) → IsKeptUp MayBeAny P → (config : Options) (detail : Detail) (history : List KeepingHappening) → P (lines.Begin config detail ∷ []) (start_of config)
    → P (report_keeping config detail history) (after_keeping history (start_of config))
report_always P step config detail history is = report_up MayBeAny P step config detail history (each_any history (start_of config)) is

-- so is each happening of a machine that keeps none, where it is so without
plain_each : (Are : List Happening → World → Type 0) (Is : World → KeepingHappening → Type 0) → ((h : Happening) (hs : List Happening) (w : World) → Are (h ∷ hs) w → Is w (Plainly h) × Are hs (happens w h))
    → (history : List Happening) (w : World) → KeepsNone w.back → back_offers w ≡ false → Are history w → AreEach Is (map Plainly history) w
plain_each Are Is one [] w none silent are = tt
plain_each Are Is one (h ∷ history) w none silent are =
    let goes = goes_as_without w h none silent in
    let both = one h history w are in
    (both.0, subst (AreEach Is (map Plainly history)) (sym goes.world) (plain_each Are Is one history (happens w h) goes.keeps_none goes.silent both.1))

pub plain_all : (Are : List Happening → World → Type 0) (Is : World → KeepingHappening → Type 0) → ((h : Happening) (hs : List Happening) (w : World) → Are (h ∷ hs) w → Is w (Plainly h) × Are hs (happens w h))
    → (config : Options) (history : List Happening) → Are history (start_of config) → AreEach Is (map Plainly history) (start_of config)
plain_all Are Is one config history are = plain_each Are Is one history (start_of config) refl refl are

-- a report of the machine that keeps none is one of this, and leaves it so
pub plain_up : (P : List Line → World → Type 0) (config : Options) (detail : Detail) (history : List Happening)
    → P (report_keeping config detail (map Plainly history)) (after_keeping (map Plainly history) (start_of config)) → P (report_of config detail history) (after history (start_of config))
plain_up P config detail history is =
    let goes = as_without config history in
    subst (λ (v : World). P (report_of config detail history) v) goes.world
    (subst (λ (ls : List Line). P (lines.Begin config detail ∷ ls) (after_keeping (map Plainly history) (start_of config))) goes.lines is)

pub plain_report : (P : List Line → Type 0) (config : Options) (detail : Detail) (history : List Happening) → P (report_keeping config detail (map Plainly history)) → P (report_of config detail history)
plain_report P config detail history is = subst (λ (ls : List Line). P (lines.Begin config detail ∷ ls)) (as_without config history).lines is

pub plain_ended : (P : List Line → Type 0) (config : Options) (detail : Detail) (history : List Happening) → P (ended_report_keeping config detail (map Plainly history)) → P (ended_report_of config detail history)
plain_ended P config detail history is = subst (λ (ls : List Line). P ((lines.Begin config detail ∷ ls) ++ lines.End ∷ [])) (as_without config history).lines is
