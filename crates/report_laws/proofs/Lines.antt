-- Which lines a happening shows: no `begin`, and `quiet` only where it looks.
use Rattle.std.proofs.Common.{◌≡◌, Bool, true, false, List, [], ◌∷◌, ◌++◌, refl}
use Rattle.std.specs.List.{AllByRecursion}
use Rattle.schedule_text.specs.declared.line.Line.{Line}
use Rattle.schedule_text.specs.declared.line.Line.TheVariants as lines
use Rattle.split_model.specs.World.{World}
use Rattle.split_model.specs.Happening.{Happening, Dumps, Looks, Settles, lines_at}
use Rattle.split_model.specs.Kept.{KeepingHappening, happens_keeping, shows_keeping, lines_keeping}
use Rattle.split_model.proofs.Showing.{MayShow, lines_are, both_all}
use Rattle.report_laws.specs.Begun.{is_begin}
use Rattle.report_laws.proofs.KeptReports.{as_plain, keeping_are}

abbrev pub says_quiet : Line → Bool
says_quiet lines.Quiet = true
says_quiet line = false

-- no line says `quiet`
abbrev pub AreUnquiet : List Line → Type 0
AreUnquiet ls = AllByRecursion (λ (line : Line). says_quiet line ≡ false) ls

-- neither a look nor the end of the rounds
abbrev pub IsBlind : Happening → Type 0
IsBlind (Looks quiet) = ⊥
IsBlind (Settles quiet) = ⊥
IsBlind h = Unit {0}

unquiet : (h : Happening) (line : Line) → IsBlind h → MayShow h line → says_quiet line ≡ false
unquiet (Looks quiet) line blind shows = absurd blind
unquiet h lines.Quiet blind shows = absurd (assumption)
unquiet h line blind shows = refl

pub shows_unquiet : (w : World) (h : Happening) → IsBlind h → AreUnquiet (lines_at w h)
shows_unquiet w h blind = lines_are (λ (line : Line). says_quiet line ≡ false) w h (λ line shows. unquiet h line blind shows)

pub keeping_unquiet : (w : World) (h : KeepingHappening) → IsBlind (as_plain h) → AreUnquiet (shows_keeping w h)
keeping_unquiet w h blind = keeping_are (λ (line : Line). says_quiet line ≡ false) w h (λ line shows. unquiet (as_plain h) line blind shows)

-- no line begins a report
abbrev pub AreLater : List Line → Type 0
AreLater ls = AllByRecursion (λ (line : Line). is_begin line ≡ false) ls

pub both_later : (a b : List Line) → AreLater a → AreLater b → AreLater (a ++ b)
both_later a b p q = both_all (λ (line : Line). is_begin line ≡ false) a b p q

later : (h : Happening) (line : Line) → MayShow h line → is_begin line ≡ false
later Dumps (lines.Begin config detail) shows = absurd shows
later h (lines.Begin config detail) shows = absurd shows
later h line shows = refl

one_later : (w : World) (h : KeepingHappening) → AreLater (shows_keeping w h)
one_later w h = keeping_are (λ (line : Line). is_begin line ≡ false) w h (later (as_plain h))

pub all_later : (history : List KeepingHappening) (w : World) → AreLater (lines_keeping history w)
all_later [] w = tt
all_later (h ∷ history) w = both_later (shows_keeping w h) (lines_keeping history (happens_keeping w h)) (one_later w h) (all_later history (happens_keeping w h))
