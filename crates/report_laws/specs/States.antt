-- What both ends have said of themselves in the present epoch where a report says `quiet` (`io/xenbus.h`: XenbusStateInitialising is 1, XenbusStateConnected 4 and XenbusStateClosed 6).
use Rattle.split_model.specs.Keys.{front_path}
use Rattle.std.specs.Prelude.{◌≡◌, ◌⊎◌, ℕ, Bool, true, false, ◌||◌, List, [], ◌∷◌, if◌then◌else◌, codes}
use Rattle.std.specs.List.{list_any}
use Rattle.std.specs.Str.{bytes_eq}
use Rattle.blk_base.specs.declared.moves.Move.{Move}
use Rattle.blk_base.specs.declared.moves.Move.TheVariants as moves
use Rattle.schedule_text.specs.declared.line.Line.{Line}
use Rattle.schedule_text.specs.declared.line.Line.TheVariants as lines
use Rattle.report_rules.specs.Obeys.{Obeys}
use Rattle.report_laws.specs.Ready.{says_over}

-- the keys of both states
abbrev pub front_state : List ℕ
front_state = codes "/local/domain/1/device/vbd/51712/state"

abbrev pub back_state : List ℕ
back_state = codes "/local/domain/0/backend/vbd/1/51712/state"

-- the text of a key after one was set, and after a move, which was this before it
abbrev pub text_set : (path text set now : List ℕ) → List ℕ
text_set path text set now = if bytes_eq set path then now else text

abbrev pub text_moved : (path text : List ℕ) → Move → List ℕ
text_moved path text (moves.SetKey who set now) = text_set path text set now
text_moved path text move = text

-- the text of a state as an epoch begins: Initialising again, but Closed where the front was closed or broken before
abbrev pub begun_text : (over : Bool) → List ℕ
begun_text over = if over then codes "6" else codes "1"

-- the text of a state's key after a line, which was this before it: the one that was set last in this epoch, by an end or by a hostile hand
abbrev pub text_at : (path : List ℕ) (over : Bool) (text : List ℕ) → Line → List ℕ
text_at path over text (lines.Move move) = text_moved path text move
text_at path over text (lines.Key name now) = text_set path text (front_path name) now
text_at path over text lines.Epoch = begun_text over
text_at path over text line = text

-- and after these lines, where a line before them said or didn't that the front is closed or broken
abbrev pub text_after : (path : List ℕ) (over : Bool) (text : List ℕ) → List Line → List ℕ
text_after path over text [] = text
text_after path over text (line ∷ more) = text_after path (over || says_over line) (text_at path over text line) more

-- the last that the end of this state said of itself in this epoch
abbrev pub said_last : (path : List ℕ) → List Line → List ℕ
said_last path before = text_after path false (begun_text false) before

-- both ends said this of themselves last
pub record SayBoth (text : List ℕ) (before : List Line) : Type 0 where
  pub front : said_last front_state before ≡ text
  pub back : said_last back_state before ≡ text

abbrev pub says_closing : Line → Bool
says_closing lines.Closing = true
says_closing line = false

-- at a `quiet` line both are connected; or both are closed, and the front has said that it closes
abbrev pub IsAgreedAt : List Line → Line → Type 0
IsAgreedAt before lines.Quiet = SayBoth (codes "4") before ⊎ (SayBoth (codes "6") before × (list_any says_closing before ≡ true))
IsAgreedAt before line = Unit {0}

abbrev pub AreStatesAgreed : List Line → Type 0
AreStatesAgreed report = Obeys IsAgreedAt report
