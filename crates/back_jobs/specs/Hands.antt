-- The mappings in the hands of a back and its jobs: what may be done through them, and what a move makes of them (`grant_table.h`).
use Rattle.std.specs.Prelude.{◌≡◌, ◌<◌, List, ◌∷◌, ◌++◌, Contains, IsPermutation, flat_map, option_to_list}
use Rattle.blk_base.specs.declared.parts.Mapping.{Mapping}
use Rattle.blk_base.specs.declared.parts.Mode.TheVariants.{ReadWrite}
use Rattle.blk_base.specs.declared.ask.BackAsk.{BackAsk}
use Rattle.blk_base.specs.declared.ask.BackAsk.TheVariants.{Read, Write, Map, Unmap}
use Rattle.blk_base.specs.declared.ask.BackAnswer.{BackAnswer}
use Rattle.blk_base.specs.declared.ask.BackAnswer.TheVariants.{Done, Mapped}
use Rattle.back_jobs.specs.Work.{Work}
use Rattle.back_jobs.specs.Jobs.{mapping_at}

-- the mapping in a job's hand, if it has one
abbrev pub hand_of : Work → List Mapping
hand_of t = option_to_list (mapping_at t.stage)

-- the mappings in the hands of these jobs, in their order
abbrev pub hands_in : List Work → List Mapping
hands_in works = flat_map hand_of works

-- an ask names only a mapping that is held, writes only through one that was made for writing, and touches only words of a page
abbrev pub Names : List Mapping → BackAsk → Type 0
Names held (Read m word) = Contains held m × (word < 1024)
Names held (Write m word value) = Contains held m × (m.mode ≡ ReadWrite) × (word < 1024)
Names held (Unmap m) = Contains held m
Names held ask = Unit {0}

-- `more` is `fewer` with m at one further place
pub record HasOneMore (m : Mapping) (fewer more : List Mapping) : Type 0 where
  pub front : List Mapping
  pub rest : List Mapping
  pub without : fewer ≡ front ++ rest
  pub with_it : more ≡ front ++ m ∷ rest

-- the mappings held before an ask was answered, and after: a mapping that was made came, one that was unmapped went, and no other did
abbrev pub HandsAfter : BackAsk → BackAnswer → List Mapping → List Mapping → Type 0
HandsAfter (Map gref mode) (Mapped m) before after = HasOneMore m before after
HandsAfter (Unmap m) Done before after = HasOneMore m after before
HandsAfter ask answer before after = after ≡ before

-- so, in any order, where jobs keep mappings
abbrev pub HandsKeep : BackAsk → BackAnswer → List Mapping → List Mapping → Type 0
HandsKeep (Map gref mode) (Mapped m) before after = IsPermutation (m ∷ before) after
HandsKeep (Unmap m) Done before after = IsPermutation before (m ∷ after)
HandsKeep ask answer before after = IsPermutation before after
