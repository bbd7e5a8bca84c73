-- The mappings that jobs made and that stand (`grant_table.h`), by their numbers: what a job has to unmap before its reply, and what a later job may take under persistent grants (`io/blkif.h`, feature-persistent).
use Rattle.std.specs.Prelude.{ℕ, Bool, false, not, ◌&&◌, ◌||◌, ◌==◌, List, Option, Some, None}
use Rattle.std.specs.List.{list_all, list_any}
use Rattle.std.specs.Map.{lookup, remove_entry, values_of}
use Rattle.std.specs.BTreeMap.{is_at, insert_entry}
use Rattle.std.specs.Ordering.{nat_cmp}
use Rattle.job_check.specs.declared.kept.Made.{Made}

abbrev pub Kept : Type 0
Kept = List (ℕ × Made)

-- the mapping of a number
abbrev pub made_at : Kept → ℕ → Option Made
made_at kept number = lookup (is_at (nat_cmp number)) kept

abbrev pub after_map : Kept → ℕ → Made → Kept
after_map kept number made = insert_entry nat_cmp kept number made

abbrev pub after_unmap : Kept → ℕ → Kept
after_unmap kept number = remove_entry (is_at (nat_cmp number)) kept

-- a mapping is one for writing, of a reference
abbrev pub is_writer_of : ℕ → Made → Bool
is_writer_of gref made = made.writes && (made.gref == gref)

abbrev pub is_writer_at : ℕ → Option Made → Bool
is_writer_at gref None = false
is_writer_at gref (Some made) = is_writer_of gref made

-- the mapping of a number is kept for a reference
abbrev pub is_kept_of : Kept → ℕ → ℕ → Bool
is_kept_of kept gref number = is_writer_at gref (made_at kept number)

-- one is kept for it
abbrev pub is_kept_for : Kept → ℕ → Bool
is_kept_for kept gref = list_any (is_writer_of gref) (values_of kept)

-- a mapping may stand at the reply to a job: another job made it, or it is for writing and grants are persistent
abbrev pub may_stay : Bool → ℕ → Made → Bool
may_stay persistent job made = not (made.job == job) || (persistent && made.writes)

-- no mapping that the job made stands, but those that may
abbrev pub has_unmapped : Kept → Bool → ℕ → Bool
has_unmapped kept persistent job = list_all (may_stay persistent job) (values_of kept)
