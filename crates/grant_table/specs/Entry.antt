-- A grant entry of version 1 (`grant_table.h`, struct grant_entry_v1) as two words: word 0 has the flags in bits 0 to 15 and
-- the domain that it is for in bits 16 to 31, word 1 has the frame.
use Rattle.std.specs.Prelude.{ℕ, ◌+◌, ◌-◌, ◌/◌, ◌%◌, ◌^◌, Bool, true, false, ◌||◌, ◌&&◌, not, ◌==◌, nat_lt, if◌then◌else◌, Result, Ok, Err, ℤ, negsuc}
use Rattle.blk_base.specs.declared.parts.Mode.{Mode}
use Rattle.blk_base.specs.declared.parts.Mode.TheVariants.{ReadOnly, ReadWrite}
use Rattle.grant_table.specs.declared.entry.MapRefusal.{MapRefusal}
use Rattle.grant_table.specs.declared.entry.MapRefusal.TheVariants.{General, BadRef}

-- GNTST_general_error is -1, GNTST_bad_gntref is -3
abbrev pub status_of : MapRefusal → ℤ
status_of General = negsuc 0
status_of BadRef = negsuc 2

-- the flags under GTF_type_mask, 3: GTF_invalid is 0, GTF_permit_access 1, GTF_accept_transfer 2
abbrev pub type_of : ℕ → ℕ
type_of word0 = word0 % 4

-- GTF_readonly, 4: the frame may not be mapped for writing
abbrev pub is_readonly : ℕ → Bool
is_readonly word0 = word0 / 4 % 2 == 1

-- GTF_reading, 8: the frame is mapped
abbrev pub is_reading : ℕ → Bool
is_reading word0 = word0 / 8 % 2 == 1

-- GTF_writing, 16: the frame is mapped for writing
abbrev pub is_writing : ℕ → Bool
is_writing word0 = word0 / 16 % 2 == 1

-- flag bits 5 to 15 (GTF_PWT, GTF_PCD, GTF_PAT, GTF_sub_page and those without a name)
abbrev pub other_flags_of : ℕ → ℕ
other_flags_of word0 = word0 / 32 % 2 ^ 11

-- domid, the domain that is granted access
abbrev pub domid_of : ℕ → ℕ
domid_of word0 = word0 / 2 ^ 16

abbrev pub is_for_writing : Mode → Bool
is_for_writing ReadOnly = false
is_for_writing ReadWrite = true

-- how many writers a mapping in a mode is
abbrev pub writer_count : Mode → ℕ
writer_count ReadOnly = 0
writer_count ReadWrite = 1

-- What a map of a reference in a mode is answered, by the first row that applies: the frame, or the refusal.
abbrev pub verdict_of : ℕ → ℕ → ℕ → Mode → Result ℕ MapRefusal
verdict_of gref word0 word1 mode =
    if nat_lt 1023 gref
    then Err BadRef
    else (if not (type_of word0 == 1) || not (other_flags_of word0 == 0) || not (domid_of word0 == 0)
    then Err General
    else (if is_for_writing mode && is_readonly word0
    then Err General
    else (if nat_lt word1 2 || nat_lt 1023 word1
    then Err General
    else Ok word1)))

abbrev pub with_reading : ℕ → ℕ
with_reading word0 = if is_reading word0 then word0 else word0 + 8

abbrev pub with_writing : ℕ → ℕ
with_writing word0 = if is_writing word0 then word0 else word0 + 16

abbrev pub without_reading : ℕ → ℕ
without_reading word0 = if is_reading word0 then word0 - 8 else word0

abbrev pub without_writing : ℕ → ℕ
without_writing word0 = if is_writing word0 then word0 - 16 else word0

-- word 0 once it is mapped: reading is set, and writing too where the mapping is for writing
abbrev pub mapped_entry : ℕ → Mode → ℕ
mapped_entry word0 ReadOnly = with_reading word0
mapped_entry word0 ReadWrite = with_writing (with_reading word0)

-- word 0 once a mapping ended: writing is cleared where no mapping of the reference for writing is left, and reading
-- where no mapping of it is left
abbrev pub unmapped_entry : ℕ → ℕ → ℕ → ℕ
unmapped_entry word0 mappings writers =
    let kept = if writers == 0 then without_writing word0 else word0 in
    if mappings == 0 then without_reading kept else kept
