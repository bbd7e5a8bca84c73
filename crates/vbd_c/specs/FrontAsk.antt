-- An ask of the front as the numbers that C reads, and what is copied beside them.
use Rattle.std.specs.Prelude.{ℕ, List, [], if◌then◌else◌, ◌==◌}
use Rattle.blk_base.specs.declared.ask.FrontAsk.{FrontAsk}
use Rattle.blk_base.specs.declared.ask.FrontAsk.TheVariants.{Wait, Fence, Read, Write, Cas, NewPort, Send, ClosePort, GetKey, SetKey, Watch}
use Rattle.vbd_c.specs.declared.front_ask.FrontAskNumbers.{FrontAskNumbers}

abbrev pub at_word : (kind frame word value : ℕ) → FrontAskNumbers
at_word kind frame word value = record { kind = kind; frame = frame; word = word; value = value; expected = 0 }

abbrev pub of_kind : ℕ → FrontAskNumbers
of_kind kind = at_word kind 0 0 0

-- where the back asks the same the kind's number is the back's
abbrev pub numbers_of : FrontAsk → FrontAskNumbers
numbers_of Wait = of_kind 0
numbers_of Fence = of_kind 1
numbers_of (Read frame word) = at_word 2 frame word 0
numbers_of (Write frame word value) = at_word 3 frame word value
numbers_of Send = of_kind 7
numbers_of ClosePort = of_kind 8
numbers_of (GetKey path) = of_kind 9
numbers_of (SetKey path text) = of_kind 10
numbers_of (Watch path) = of_kind 11
numbers_of (Cas frame word old new) = record (at_word 16 frame word new) { expected = old }
numbers_of NewPort = of_kind 17

-- the path of a key or of a watch that is asked for, and the text that a key is to have
abbrev pub path_of : FrontAsk → List ℕ
path_of (GetKey path) = path
path_of (SetKey path text) = path
path_of (Watch path) = path
path_of a = []

abbrev pub text_of : FrontAsk → List ℕ
text_of (SetKey path text) = text
text_of a = []

-- the ask again
abbrev pub ask_from : FrontAskNumbers → (path text : List ℕ) → FrontAsk
ask_from n path text =
    if n.kind == 1 then Fence
    else (if n.kind == 2 then Read n.frame n.word
    else (if n.kind == 3 then Write n.frame n.word n.value
    else (if n.kind == 7 then Send
    else (if n.kind == 8 then ClosePort
    else (if n.kind == 9 then GetKey path
    else (if n.kind == 10 then SetKey path text
    else (if n.kind == 11 then Watch path
    else (if n.kind == 16 then Cas n.frame n.word n.expected n.value
    else (if n.kind == 17 then NewPort
    else Wait)))))))))
