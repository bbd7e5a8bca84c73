-- How many mappings were made, and how many more may come: those of the jobs that are held, and of the one whose entry is being copied.
use Rattle.std.specs.Prelude.{ℕ, ◌+◌, ◌*◌, length, drop, sum_by}
use Rattle.back_jobs.specs.declared.stage.JobStage.{JobStage}
use Rattle.back_jobs.specs.declared.stage.JobStage.TheVariants as stage
use Rattle.back_jobs.specs.Work.{Work}
use Rattle.blk_back.specs.declared.stage.BackStage.{BackStage}
use Rattle.blk_back.specs.declared.stage.BackStage.TheVariants.{Fetch}
use Rattle.split_model.specs.World as rings
use Rattle.vbd_model.specs.World.{World}

-- A job maps the frame of each of its segments once: of those after the present one, and of that where it isn't mapped yet. While it copies its segments from indirect pages it comes to map those that its request names, and the pages after the present one.
abbrev pub maps_copying : (pages : ℕ) → Work → ℕ
maps_copying pages t = pages + t.named + 1

abbrev pub maps_at : JobStage → Work → ℕ
maps_at stage.MapPage t = maps_copying (length t.pages) t
maps_at (stage.PageReference m) t = maps_copying (length (drop 1 t.pages)) t
maps_at (stage.PageSectors m gref) t = maps_copying (length (drop 1 t.pages)) t
maps_at (stage.UnmapPage m) t = maps_copying (length (drop 1 t.pages)) t
maps_at stage.Map t = length t.rest + 1
maps_at (stage.Done status) t = 0
maps_at s t = length t.rest

abbrev pub maps_left : Work → ℕ
maps_left t = maps_at t.stage t

-- a job has 960 segments and eight indirect pages at most, and its entry 27 words at least: 40 mappings for each word that is copied are enough for it
abbrev pub words_copied : BackStage → ℕ
words_copied (Fetch k) = k
words_copied s = 0

-- those that were made, and those
abbrev pub mappings_in : rings.World → ℕ
mappings_in w = w.under.grants.made + sum_by maps_left w.back.jobs.works + 40 * words_copied w.back.stage

abbrev pub mappings_of : World → ℕ
mappings_of w = mappings_in w.rings
