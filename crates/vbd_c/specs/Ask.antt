-- An ask as the numbers that C reads, and what is copied beside them.
use Rattle.std.specs.Prelude.{ℕ, Bool, true, false, List, [], Option, Some, None, if◌then◌else◌, ◌==◌}
use Rattle.blk_base.specs.declared.parts.Mapping.{Mapping}
use Rattle.blk_base.specs.declared.parts.Mode.{Mode}
use Rattle.blk_base.specs.declared.parts.Mode.TheVariants.{ReadOnly, ReadWrite}
use Rattle.blk_base.specs.declared.ask.BackAsk.{BackAsk}
use Rattle.blk_base.specs.declared.ask.BackAsk.TheVariants.{Wait, Fence, Read, Write, Map, Unmap, Bind, Send, ClosePort, GetKey, SetKey, Watch, DiskRead, DiskWrite, Flush, Trim}
use Rattle.vbd_c.specs.declared.ask.AskNumbers.{AskNumbers}

abbrev pub of_kind : ℕ → AskNumbers
of_kind kind = record { kind = kind; gref = 0; word = 0; value = 0; port = 0; writes = false; mapping = 0; sector = 0; sectors = 0 }

abbrev pub is_writable : Mode → Bool
is_writable ReadOnly = false
is_writable ReadWrite = true

abbrev pub through : ℕ → Mapping → AskNumbers
through kind m = record (of_kind kind) { gref = m.gref; writes = is_writable m.mode; mapping = m.number }

abbrev pub numbers_of : BackAsk → AskNumbers
numbers_of Wait = of_kind 0
numbers_of Fence = of_kind 1
numbers_of (Read m word) = record (through 2 m) { word = word }
numbers_of (Write m word value) = record (through 3 m) { word = word; value = value }
numbers_of (Map gref mode) = record (of_kind 4) { gref = gref; writes = is_writable mode }
numbers_of (Unmap m) = through 5 m
numbers_of (Bind port) = record (of_kind 6) { port = port }
numbers_of Send = of_kind 7
numbers_of ClosePort = of_kind 8
numbers_of (GetKey path) = of_kind 9
numbers_of (SetKey path text) = of_kind 10
numbers_of (Watch path) = of_kind 11
numbers_of (DiskRead sector) = record (of_kind 12) { sector = sector; sectors = 0 }
numbers_of (DiskWrite sector words) = record (of_kind 13) { sector = sector; sectors = 0 }
numbers_of Flush = of_kind 14
numbers_of (Trim sector sectors) = record (of_kind 15) { sector = sector; sectors = sectors }

-- the path of a key or of a watch that is asked for, and the text that a key is to have
abbrev pub path_of : BackAsk → List ℕ
path_of (GetKey path) = path
path_of (SetKey path text) = path
path_of (Watch path) = path
path_of a = []

abbrev pub text_of : BackAsk → List ℕ
text_of (SetKey path text) = text
text_of a = []

-- the words of the sector that is to be written
abbrev pub words_of : BackAsk → Option (List ℕ)
words_of (DiskWrite sector words) = Some words
words_of a = None

-- the ask again
abbrev pub mode_from : Bool → Mode
mode_from false = ReadOnly
mode_from true = ReadWrite

abbrev pub mapping_from : AskNumbers → Mapping
mapping_from n = record { number = n.mapping; gref = n.gref; mode = mode_from n.writes }

abbrev pub write_from : ℕ → Option (List ℕ) → BackAsk
write_from sector None = Wait
write_from sector (Some words) = DiskWrite sector words

abbrev pub ask_from : AskNumbers → (path text : List ℕ) → Option (List ℕ) → BackAsk
ask_from n path text words =
    if n.kind == 1 then Fence
    else (if n.kind == 2 then Read (mapping_from n) n.word
    else (if n.kind == 3 then Write (mapping_from n) n.word n.value
    else (if n.kind == 4 then Map n.gref (mode_from n.writes)
    else (if n.kind == 5 then Unmap (mapping_from n)
    else (if n.kind == 6 then Bind n.port
    else (if n.kind == 7 then Send
    else (if n.kind == 8 then ClosePort
    else (if n.kind == 9 then GetKey path
    else (if n.kind == 10 then SetKey path text
    else (if n.kind == 11 then Watch path
    else (if n.kind == 12 then DiskRead n.sector
    else (if n.kind == 13 then write_from n.sector words
    else (if n.kind == 14 then Flush
    else (if n.kind == 15 then Trim n.sector n.sectors
    else Wait))))))))))))))
