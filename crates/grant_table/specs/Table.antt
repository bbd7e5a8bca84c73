-- The back's mappings, and what a map, an unmap and a suspend make of them and of the memory.
use Rattle.std.specs.Prelude.{◌≡◌, ℕ, ◌+◌, ◌*◌, ◌/◌, ◌%◌, ◌&&◌, not, ◌==◌, List, [], ◌∷◌, ◌++◌, filter, find, count_by, Option, Some, None, IsSomeAnd, Result, Ok, Err}
use Rattle.xen_pages.specs.Pages.{word_of, with_word}
use Rattle.blk_base.specs.declared.parts.Mapping.{Mapping}
use Rattle.blk_base.specs.declared.parts.Mode.{Mode}
use Rattle.grant_table.specs.declared.entry.MapRefusal.{MapRefusal}
use Rattle.grant_table.specs.declared.held.Held.{Held}
use Rattle.grant_table.specs.Entry.{verdict_of, mapped_entry, unmapped_entry, is_for_writing}

-- how many mappings were ever made, and those that live, in the order of their numbers
pub record GrantTable : Type 0 where
  pub made : ℕ
  pub live : List Held

-- no mapping was made
abbrev pub fresh_table : GrantTable
fresh_table = record { made = 0; live = [] }

-- The entry of reference r is at frame r / 512, words 2 (r mod 512) and the next.
abbrev pub entry_word0 : List ℕ → ℕ → ℕ
entry_word0 pages gref = word_of pages (gref / 512) (2 * (gref % 512))

abbrev pub entry_word1 : List ℕ → ℕ → ℕ
entry_word1 pages gref = word_of pages (gref / 512) (2 * (gref % 512) + 1)

abbrev pub with_entry_word0 : List ℕ → ℕ → ℕ → List ℕ
with_entry_word0 pages gref value = with_word pages (gref / 512) (2 * (gref % 512)) value

-- the live mapping of that number
abbrev pub held_of : ℕ → List Held → Option Held
held_of number live = find (λ held. held.mapping.number == number) live

-- the live mappings but for that number
abbrev pub without : ℕ → List Held → List Held
without number live = filter (λ held. not (held.mapping.number == number)) live

-- the mapping lives
abbrev pub IsLive : GrantTable → Mapping → Type 0
IsLive table mapping = IsSomeAnd (held_of mapping.number table.live) (λ held. held.mapping ≡ mapping)

abbrev pub frame_in : Option Held → ℕ
frame_in None = 0
frame_in (Some held) = held.frame

-- the frame of a live mapping: the one that it was given when it was made
abbrev pub frame_of : GrantTable → Mapping → ℕ
frame_of table mapping = frame_in (held_of mapping.number table.live)

-- how many live mappings a reference has, and how many of those may write
abbrev pub mappings_of : ℕ → List Held → ℕ
mappings_of gref live = count_by (λ held. held.mapping.gref == gref) live

abbrev pub writers_of : ℕ → List Held → ℕ
writers_of gref live = count_by (λ held. held.mapping.gref == gref && is_for_writing held.mapping.mode) live

-- what a map of the reference is answered, by the entry as it stands
abbrev pub verdict_at : List ℕ → ℕ → Mode → Result ℕ MapRefusal
verdict_at pages gref mode = verdict_of gref (entry_word0 pages gref) (entry_word1 pages gref) mode

-- the mapping that is made next
abbrev pub next_mapping : GrantTable → ℕ → Mode → Mapping
next_mapping table gref mode = record { number = table.made + 1; gref = gref; mode = mode }

abbrev pub with_mapping : GrantTable → ℕ → Mode → ℕ → GrantTable
with_mapping table gref mode frame = record {
  made = table.made + 1;
  live = table.live ++ record { mapping = next_mapping table gref mode; frame = frame } ∷ [];
}

-- A map's answer, mappings and memory by its verdict: a refusal leaves all as it was.
abbrev pub map_answer : GrantTable → ℕ → Mode → Result ℕ MapRefusal → Result Mapping MapRefusal
map_answer table gref mode (Ok frame) = Ok (next_mapping table gref mode)
map_answer table gref mode (Err refusal) = Err refusal

abbrev pub map_table : GrantTable → ℕ → Mode → Result ℕ MapRefusal → GrantTable
map_table table gref mode (Ok frame) = with_mapping table gref mode frame
map_table table gref mode (Err refusal) = table

abbrev pub map_pages : List ℕ → ℕ → Mode → Result ℕ MapRefusal → List ℕ
map_pages pages gref mode (Ok frame) = with_entry_word0 pages gref (mapped_entry (entry_word0 pages gref) mode)
map_pages pages gref mode (Err refusal) = pages

-- An unmap takes the mapping out, and clears the entry's bits by the mappings of its reference that are left.
abbrev pub unmap_table : GrantTable → Mapping → GrantTable
unmap_table table mapping = record { made = table.made; live = without mapping.number table.live }

abbrev pub unmap_pages : GrantTable → List ℕ → Mapping → List ℕ
unmap_pages table pages mapping =
    let left = without mapping.number table.live in
    with_entry_word0 pages mapping.gref
    (unmapped_entry (entry_word0 pages mapping.gref) (mappings_of mapping.gref left) (writers_of mapping.gref left))

-- a suspend ends all mappings; their numbers stay used
abbrev pub revoked_table : GrantTable → GrantTable
revoked_table table = record { made = table.made; live = [] }
