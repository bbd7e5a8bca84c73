-- What is true of the back at every moment.
use Rattle.std.specs.Prelude.{◌≡◌, ℕ, ◌+◌, ◌^◌, ◌<◌, ◌≤◌, length, List, All}
use Rattle.blk_base.specs.Distance.{distance_of}
use Rattle.blk_base.specs.declared.parts.Mapping.{Mapping}
use Rattle.blk_base.specs.declared.parts.Mode.TheVariants.{ReadWrite}
use Rattle.ring_words.specs.Shape.{Shape, entries_of, entry_words_of}
use Rattle.blk_back.specs.declared.stage.BackStage.{BackStage}
use Rattle.blk_back.specs.declared.stage.BackStage.TheVariants as stage
use Rattle.back_jobs.specs.Jobs.{HeldJobs}
use Rattle.blk_back.specs.View.{View}

-- a fetch has read as many words as it says, fewer than an entry has, and there is room for its job
abbrev pub IsPlaced : BackStage → Shape → ℕ → ℕ → Type 0
IsPlaced (stage.Fetch k) s words waiting = (k < entry_words_of s.abi) × (words ≡ k) × (waiting < entries_of s.order)
IsPlaced stage s words waiting = Unit {0}

-- each request that was fetched and not replied to is a job's, or is being replied to
abbrev pub IsCounted : BackStage → ℕ → ℕ → Type 0
IsCounted stage.InitWait works waiting = works ≡ 0
IsCounted (stage.ReplyHigh r) works waiting = works + 1 ≡ waiting
IsCounted (stage.ReplyLast r) works waiting = works + 1 ≡ waiting
IsCounted (stage.Producer r) works waiting = works + 1 ≡ waiting
IsCounted (stage.Abort m) works waiting = Unit {0}
IsCounted stage.UnmapRing works waiting = Unit {0}
IsCounted stage.ClosePort works waiting = Unit {0}
IsCounted stage.UnmapUnbound works waiting = Unit {0}
IsCounted stage.Halted works waiting = Unit {0}
IsCounted s works waiting = works ≡ waiting

-- the pages that are mapped: none before the terms are known and after all were unmapped, all while the port is bound
abbrev pub IsMapped : BackStage → ℕ → List ℕ → List Mapping → Type 0
IsMapped stage.InitWait order grefs pages = length pages ≡ 0
IsMapped stage.MapRing order grefs pages = (length grefs ≡ 2 ^ order) × (length pages < 2 ^ order)
IsMapped stage.UnmapRing order grefs pages = 0 < length pages
IsMapped stage.UnmapUnbound order grefs pages = 0 < length pages
IsMapped stage.ClosePort order grefs pages = length pages ≡ 0
IsMapped stage.Halted order grefs pages = length pages ≡ 0
IsMapped s order grefs pages = length pages ≡ 2 ^ order

-- for writing too
abbrev pub AreWritable : List Mapping → Type 0
AreWritable pages = All (λ (m : Mapping). m.mode ≡ ReadWrite) pages

-- no job is held, and no mapping is kept
abbrev pub HasNothing : HeldJobs → Type 0
HasNothing jobs = (length jobs.works ≡ 0) × (length jobs.kept.entries ≡ 0)

-- so it is before the port is bound, and once all but the ring's pages are unmapped
abbrev pub IsCleared : BackStage → HeldJobs → Type 0
IsCleared stage.InitWait jobs = HasNothing jobs
IsCleared stage.MapRing jobs = HasNothing jobs
IsCleared stage.Bind jobs = HasNothing jobs
IsCleared stage.UnmapRing jobs = HasNothing jobs
IsCleared stage.ClosePort jobs = HasNothing jobs
IsCleared stage.UnmapUnbound jobs = HasNothing jobs
IsCleared stage.Halted jobs = HasNothing jobs
IsCleared s jobs = Unit {0}

pub record IsSound (v : View) : Type 0 where
  pub order : v.shape.order ≤ 4
  pub entries : v.ring.indices.entries ≡ entries_of v.shape.order
  pub room : v.jobs.room ≡ entries_of 4
  pub within : distance_of v.ring.indices.prod v.ring.indices.cons ≤ entries_of v.shape.order
  pub placed : IsPlaced v.stage v.shape (length v.ring.entry) (distance_of v.ring.indices.prod v.ring.indices.cons)
  pub counted : IsCounted v.stage (length v.jobs.works) (distance_of v.ring.indices.prod v.ring.indices.cons)
  pub mapped : IsMapped v.stage v.shape.order v.grefs v.pages
  pub writable : AreWritable v.pages
  pub few_pages : length v.pages ≤ 16
  pub few : length v.jobs.works ≤ entries_of 4
  pub few_kept : length v.jobs.kept.entries ≤ v.jobs.kept.cap
  pub cap : v.jobs.kept.cap ≤ 1000
  pub cleared : IsCleared v.stage v.jobs
