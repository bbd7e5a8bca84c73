-- What becomes of a mapping that a request has done with.
use Rattle.std.specs.Prelude.{ℕ, ◌-◌, ◌==◌, if◌then◌else◌, nat_eq, List, [], ◌∷◌, length, take, Option, Some, None}
use Rattle.std.specs.Map.{remove_entry}
use Rattle.blk_base.specs.declared.Mapping.{Mapping}
use Rattle.persist_grants.specs.declared.kept.PutBack.{PutBack}
use Rattle.persist_grants.specs.declared.kept.PutBack.TheVariants.{Kept, Out}
use Rattle.persist_grants.specs.KeptMappings.{KeptMappings, mapping_for, least_recent}

-- where a mapping of its reference was kept, that one goes; else, where as many are kept as may be, the least recently used
abbrev pub makes_room : KeptMappings → Option Mapping → Option Mapping
makes_room kept (Some replaced) = Some replaced
makes_room kept None = if length kept.entries == kept.cap then least_recent kept else None

-- the mapping that must be unmapped now: this one where none may be kept, else the one that makes room for it
abbrev pub handed_out : KeptMappings → ℕ → Mapping → Option Mapping
handed_out kept gref mapping = if kept.cap == 0 then Some mapping else makes_room kept (mapping_for kept gref)

-- the mapping is the most recently used now, and of the others as many stay as there is room for; where none may be kept, nothing changes
abbrev pub with_mapping : KeptMappings → ℕ → Mapping → KeptMappings
with_mapping kept gref mapping =
    if kept.cap == 0 then kept
    else record kept { entries = (gref, mapping) ∷ take (kept.cap - 1) (remove_entry (nat_eq gref) kept.entries) }

-- the answer that hands out this mapping, or none
abbrev pub answer_of : Option Mapping → PutBack
answer_of None = Kept
answer_of (Some mapping) = Out mapping

-- what an answer hands out
abbrev pub out_of : PutBack → List Mapping
out_of Kept = []
out_of (Out mapping) = mapping ∷ []
