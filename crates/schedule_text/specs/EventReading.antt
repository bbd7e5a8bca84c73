-- What a schedule's words say, if they are those of a line. Any words are read as some event: whether
-- they are that event's is seen by writing it again.
use Rattle.std.specs.Prelude.{ℕ, List, codes, if◌then◌else◌}
use Rattle.std.specs.Str.{bytes_eq}
use Rattle.line_text.specs.Words.{later}
use Rattle.line_text.specs.Texts.{text_in}
use Rattle.blk_base.specs.declared.parts.End.{End}
use Rattle.blk_base.specs.declared.parts.End.TheVariants as ends
use Rattle.schedule_text.specs.declared.event.Event.{Event}
use Rattle.schedule_text.specs.declared.event.Event.TheVariants as events
use Rattle.schedule_text.specs.Reading.{word0, word1, word2, small_of, job_at}

abbrev pub end_at : List ℕ → End
end_at word = if bytes_eq word (codes "front") then ends.Front else ends.Back

-- lines that are no move's
abbrev pub other_event_at : List ℕ → List (List ℕ) → Event
other_event_at name ws =
    if bytes_eq name (codes "settle") then events.Settle else
    if bytes_eq name (codes "look") then events.Look else
    if bytes_eq name (codes "notify") then events.Notify (end_at (word0 ws)) else
    if bytes_eq name (codes "suspend") then events.Suspend else
    if bytes_eq name (codes "close") then events.Close (end_at (word0 ws)) else
    if bytes_eq name (codes "poke") then events.Poke (small_of (word0 ws)) (small_of (word1 ws)) (small_of (word2 ws)) else
    if bytes_eq name (codes "key") then events.Key (text_in 32 (word0 ws)) (text_in 64 (word1 ws)) else
    events.Dump

unfoldable pub event_at : List (List ℕ) → Event
event_at ws =
    if bytes_eq (word0 ws) (codes "submit") then events.Submit (job_at (later ws)) else
    if bytes_eq (word0 ws) (codes "front") then events.Front (small_of (word1 ws)) else
    if bytes_eq (word0 ws) (codes "back") then events.Back (small_of (word1 ws)) else
    if bytes_eq (word0 ws) (codes "job") then events.Job (small_of (word1 ws)) (small_of (word2 ws)) else
    if bytes_eq (word0 ws) (codes "turn") then events.Turn (small_of (word1 ws)) else
    other_event_at (word0 ws) (later ws)
