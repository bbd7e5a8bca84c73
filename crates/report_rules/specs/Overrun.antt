-- The overrun rule (`io/ring.h`, RING_REQUEST_PROD_OVERFLOW): a back that reads a producer further ahead of its own than the ring has entries halts, and serves nothing more in that epoch.
use Rattle.std.specs.Prelude.{◌≡◌, ℕ, Bool, true, false, ◌||◌, nat_lt, if◌then◌else◌, List, [], ◌∷◌, reverse, Option, Some, None, is_some, IfSome, IsTrue}
use Rattle.blk_base.specs.Distance.{distance_of}
use Rattle.ring_words.specs.Shape.{entries_of}
use Rattle.blk_base.specs.declared.moves.Move.TheVariants as moves
use Rattle.blk_base.specs.declared.halt.Halt.TheVariants as halts
use Rattle.schedule_text.specs.declared.line.Line.{Line}
use Rattle.schedule_text.specs.declared.line.Line.TheVariants as lines
use Rattle.report_rules.specs.declared.overrun.Overrun.{Overrun}
use Rattle.report_rules.specs.Obeys.{Obeys}
use Rattle.report_rules.specs.Standing.{is_epoch}
use Rattle.report_rules.specs.Ring.{ring_order, produced_shown, replied_before}

-- the overrun of a producer: it is further ahead of what was replied to than a ring of this order has entries
abbrev pub overrun_of : Option ℕ → ℕ → Option ℕ → Option Overrun
overrun_of (Some order) replied (Some produced) = if nat_lt (entries_of order) (distance_of replied produced) then Some (record { produced = produced; replied = replied }) else None
overrun_of order replied produced = None

-- the overrun that a line shows: the back reads a producer that is too far ahead
abbrev pub overrun_by : List Line → Line → Option Overrun
overrun_by before line = overrun_of (ring_order before) (replied_before before) (produced_shown before line)

-- the overrun that the last of these lines shows, which comes first
abbrev pub shown_back : List Line → Option Overrun
shown_back [] = None
shown_back (line ∷ earlier) = overrun_by (reverse earlier) line

-- the overrun that the last line shows
abbrev pub overrun_shown : List Line → Option Overrun
overrun_shown before = shown_back (reverse before)

-- a producer overran in this epoch, where one did before a line, and after the line
abbrev pub overran_after : Bool → List Line → Line → Bool
overran_after overran before line = if is_epoch line then false else overran || is_some (overrun_by before line)

-- the same of lines of which the last comes first
abbrev pub overran_back : List Line → Bool
overran_back [] = false
overran_back (line ∷ earlier) = overran_after (overran_back earlier) (reverse earlier) line

abbrev pub has_overrun : List Line → Bool
has_overrun before = overran_back (reverse before)

-- the back serves: it touches memory, maps, moves the disk, or replies
abbrev pub is_service : Line → Bool
is_service (lines.Move (moves.Read who number frame word value)) = true
is_service (lines.Move (moves.Write who number frame word value)) = true
is_service (lines.Move (moves.Map who gref mode number frame)) = true
is_service (lines.Move (moves.MapRefused who gref mode status)) = true
is_service (lines.Move (moves.DiskRead job sector)) = true
is_service (lines.Move (moves.DiskWrite job sector)) = true
is_service (lines.Move (moves.DiskFlush job)) = true
is_service (lines.Move (moves.DiskTrim job sector count)) = true
is_service (lines.Effect id index) = true
is_service (lines.EffectRead id index words) = true
is_service (lines.Flushed id) = true
is_service (lines.Trimmed id) = true
is_service (lines.Fault id index) = true
is_service (lines.Reply id status) = true
is_service line = false

-- the line after a read that overran is its halt, that halt stands nowhere else, and nothing is served from there to the end of the epoch
pub record IsOverrunAt (before : List Line) (line : Line) : Type 0 where
  pub halted : IfSome (overrun_shown before) (λ o. line ≡ lines.Halt (halts.Overrun o.produced o.replied))
  pub only : (produced replied : ℕ) → line ≡ lines.Halt (halts.Overrun produced replied) → overrun_shown before ≡ Some (record { produced = produced; replied = replied })
  pub serves_nothing : IsTrue (has_overrun before) → is_service line ≡ false

abbrev pub IsOverrunRule : List Line → Type 0
IsOverrunRule report = Obeys IsOverrunAt report
