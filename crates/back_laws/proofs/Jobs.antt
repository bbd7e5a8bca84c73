-- What is true of a job that keeps no mappings, whatever it is told that its ask allows: its segments are sound, and its mapping was made as its words go.
use Rattle.std.proofs.Common.{◌≡◌, ℕ, ◌+◌, ◌<◌, ◌≤◌, Bool, true, false, if◌then◌else◌, List, [], ◌∷◌, ◌++◌, length, take, drop, refl, arith}
use Rattle.std.specs.Prelude.{not, ◌||◌, nat_le, nat_lt, ◌==◌}
use Rattle.std.specs.List.{AllByRecursion, list_any}
use Rattle.std.proofs.lemmas.List.Elements.{recursion_from_All}
use Rattle.std.proofs.lemmas.Bool.Decides.{nat_tests}
use Rattle.blk_base.specs.declared.parts.Mapping.{Mapping}
use Rattle.blk_base.specs.declared.operation.Op.TheVariants as op
use Rattle.blk_base.specs.Operation.{op_code}
use Rattle.blk_base.specs.declared.operation.Status.TheVariants.{Error}
use Rattle.blk_base.specs.declared.ask.BackAnswer.{BackAnswer}
use Rattle.blk_base.specs.declared.ask.BackAnswer.TheVariants as answer
use Rattle.blk_layout.specs.declared.segment.Segment.{Segment}
use Rattle.blk_layout.specs.Entry.{segment_of}
use Rattle.blk_layout.specs.declared.request.RawRequest.{RawRequest}
use Rattle.blk_layout.specs.declared.request.RawRequest.TheVariants.{Direct, Discard, Indirect}
use Rattle.segment_list.specs.declared.verdict.DiskInfo.{DiskInfo}
use Rattle.segment_list.specs.declared.verdict.Kind.{Kind}
use Rattle.segment_list.specs.declared.verdict.Kind.TheVariants as kind
use Rattle.segment_list.specs.declared.verdict.Plan.{Plan}
use Rattle.segment_list.specs.declared.verdict.Verdict.{Verdict}
use Rattle.segment_list.specs.declared.verdict.Verdict.TheVariants as verdict
use Rattle.segment_list.specs.declared.verdict.Why.TheVariants as why
use Rattle.segment_list.specs.Segments.{IsSound, fails_test, sectors_of}
use Rattle.segment_list.specs.Verdict.{planned, transfer_verdict, flush_verdict, verdict_of, IsOnDisk}
use Rattle.segment_list.proofs.Served.{transfer_served, finished_on_disk}
use Rattle.back_jobs.specs.declared.stage.JobStage.{JobStage}
use Rattle.back_jobs.specs.declared.stage.JobStage.TheVariants as stage
use Rattle.back_jobs.specs.Work.{Work, ask_of, ask_at, map_ask, page_ask, copied, is_copied_out, passes, judged, page_done, paging, mode_of, step_of, step_at, sector_stage, next_sector, next_segment, counted, first_of, rest_of, last_of, begun, served, moving, ended, frameless, IsAnswer}

-- the sector that a job is at is one of its segment
abbrev IsInside : Work → Type 0
IsInside t = t.within ≤ last_of t.rest

-- its mapping was made as its words go
abbrev Moves : Mapping → Bool → Work → Type 0
Moves m writes t = (m.mode ≡ mode_of t.writes) × (t.writes ≡ writes)

abbrev pub IsPlaced : JobStage → Work → Type 0
IsPlaced stage.Map t = IsInside t
IsPlaced (stage.ReadWord m k) t = (k < 128) × IsInside t × Moves m true t
IsPlaced (stage.DiskWrite m) t = IsInside t × Moves m true t
IsPlaced (stage.DiskRead m) t = IsInside t × Moves m false t
IsPlaced (stage.WriteWord m k) t = (k < 128) × IsInside t × Moves m false t
IsPlaced s t = Unit {0}

-- the segments may not have been tested yet, or they failed the tests
abbrev is_untested : JobStage → Bool
is_untested stage.MapPage = true
is_untested (stage.PageReference m) = true
is_untested (stage.PageSectors m gref) = true
is_untested (stage.UnmapPage m) = true
is_untested (stage.Done status) = true
is_untested s = false

pub record IsJob (t : Work) : Type 0 where
  pub segments : is_untested t.stage ≡ false → AllByRecursion IsSound t.rest
  pub placed : IsPlaced t.stage t

first_last : (rest : List Segment) → AllByRecursion IsSound rest → first_of rest ≤ last_of rest
first_last [] sound = omega arith
first_last (s ∷ rest) sound = sound.0.nonempty

either : (b : Bool) (x y : Work) → (b ≡ true → IsJob x) → (b ≡ false → IsJob y) → IsJob (if b then x else y)
either true x y p q = p refl
either false x y p q = q refl

-- the next sector of a segment is begun
sector_placed : (b : Bool) (m : Mapping) (t : Work) → t.writes ≡ b → m.mode ≡ mode_of t.writes → IsInside t → IsPlaced (sector_stage b m) t
sector_placed true m t is mode inside = (omega arith, inside, (mode, is))
sector_placed false m t is mode inside = (inside, (mode, is))

next_sector_job : (t : Work) (m : Mapping) → AllByRecursion IsSound t.rest → m.mode ≡ mode_of t.writes → IsInside t → IsJob (next_sector t m)
next_sector_job t m sound mode inside =
    either (t.within == last_of t.rest) (record t { stage = stage.Unmap m }) (record t { within = t.within + 1; stage = sector_stage t.writes m })
    (λ last. record { segments = λ e. sound; placed = tt })
    (λ more. record { segments = λ e. sound; placed = sector_placed t.writes m (record t { within = t.within + 1; stage = sector_stage t.writes m }) refl mode (further t.within (last_of t.rest) inside more) })
  where
    further : (n last : ℕ) → n ≤ last → (n == last) ≡ false → n + 1 ≤ last
    further n last le other = grind (arith, nat_tests)

rest_sound : (rest : List Segment) → AllByRecursion IsSound rest → AllByRecursion IsSound (rest_of rest)
rest_sound [] sound = tt
rest_sound (s ∷ rest) sound = sound.1

next_segment_job : (t : Work) (rest : List Segment) → AllByRecursion IsSound rest → IsJob (next_segment t rest)
next_segment_job t [] sound = record { segments = λ e. tt; placed = tt }
next_segment_job t (s ∷ rest) sound = record { segments = λ e. sound; placed = sound.0.nonempty }

map_step : (rest : List Segment) (t : Work) (given : BackAnswer) → IsAnswer (map_ask rest t.writes) given → AllByRecursion IsSound t.rest → IsInside t → IsJob (step_at stage.Map t given)
map_step [] t given h sound inside = absurd h
map_step (s ∷ rest) t (answer.Mapped m) h sound inside = record { segments = λ e. sound; placed = sector_placed t.writes m (record t { stage = sector_stage t.writes m }) refl h.1 inside }
map_step (s ∷ rest) t (answer.MapRefused status) h sound inside = record { segments = λ e. sound; placed = tt }
map_step (s ∷ rest) t given h sound inside = absurd h

page_step : (pages : List ℕ) (t : Work) (given : BackAnswer) → IsAnswer (page_ask pages) given → IsJob (step_at stage.MapPage t given)
page_step [] t given h = absurd h
page_step (gref ∷ pages) t (answer.Mapped m) h = record { segments = λ e. absurd (cc); placed = tt }
page_step (gref ∷ pages) t (answer.MapRefused status) h = record { segments = λ e. absurd (cc); placed = tt }
page_step (gref ∷ pages) t given h = absurd h

copied_job : (t : Work) (m : Mapping) (segments : List Segment) → IsJob (copied t m segments)
copied_job t m segments = by_last (is_copied_out t segments)
  where
    by_last : (b : Bool) → IsJob (record t { rest = segments; stage = if b then stage.UnmapPage m else stage.PageReference m })
    by_last true = record { segments = λ e. absurd (cc); placed = tt }
    by_last false = record { segments = λ e. absurd (cc); placed = tt }

-- segments that pass the tests are sound
passed_sound : (segments : List Segment) (size disk : ℕ) → not (list_any fails_test segments || nat_lt size (disk + sectors_of segments)) ≡ true → AllByRecursion IsSound segments
passed_sound segments size disk passed = recursion_from_All IsSound segments (finished_on_disk plan plan segments info (by_tests (list_any fails_test segments) (nat_lt size (disk + sectors_of segments)) passed)).sound
  where
    plan : Plan
    plan = planned kind.IndirectRead disk 0

    info : DiskInfo
    info = record { sectors = size; read_only = false; barrier = false; flush = false; discard = false; max_indirect = 0 }

    by_tests : (bad far : Bool) → not (bad || far) ≡ true → (if bad then verdict.Error why.Segment else (if far then verdict.Error why.Range else verdict.Serve plan)) ≡ verdict.Serve plan
    by_tests true far h = absurd (cc)
    by_tests false true h = absurd (cc)
    by_tests false false h = refl

judged_job : (t : Work) → IsJob (judged t)
judged_job t =
    either (passes t) (record t { within = first_of t.rest; stage = stage.Map }) (record t { stage = stage.Done Error })
    (λ passed. let sound = passed_sound t.rest t.size t.disk passed in record { segments = λ e. sound; placed = first_last t.rest sound })
    (λ failed. record { segments = λ e. absurd (cc); placed = tt })

page_done_job : (t : Work) → IsJob (page_done t)
page_done_job t =
    either (length t.rest == t.named) (judged t) (record t { pages = drop 1 t.pages; stage = stage.MapPage }) (λ all. judged_job t) (λ more. record { segments = λ e. absurd (cc); placed = tt })

step_job_at : (s : JobStage) (t : Work) (given : BackAnswer) → (is_untested s ≡ false → AllByRecursion IsSound t.rest) → IsPlaced s t → IsAnswer (ask_at s t) given → IsJob (step_at s t given)
step_job_at stage.MapPage t given sound p h = page_step t.pages t given h
step_job_at (stage.PageReference m) t (answer.Word word) sound p h = record { segments = λ e. absurd (cc); placed = tt }
step_job_at (stage.PageSectors m gref) t (answer.Word word) sound p h = copied_job t m (t.rest ++ segment_of gref word ∷ [])
step_job_at (stage.UnmapPage m) t answer.Done sound p h = page_done_job t
step_job_at stage.Map t given sound p h = map_step t.rest t given h (sound refl) p
step_job_at (stage.ReadWord m k) t (answer.Word word) sound p h = record { segments = λ e. sound refl; placed = read_placed (k == 127) refl }
  where
    read_placed : (b : Bool) → (k == 127) ≡ b → IsPlaced (if b then stage.DiskWrite m else stage.ReadWord m (k + 1)) (step_at (stage.ReadWord m k) t (answer.Word word))
    read_placed true e = (p.1, p.2)
    read_placed false e = (further k p.0 e, p.1, p.2)
      where
        further : (n : ℕ) → n < 128 → (n == 127) ≡ false → n + 1 < 128
        further n lt other = grind (arith, nat_tests)
step_job_at (stage.DiskWrite m) t answer.Done sound p h = next_sector_job (counted t) m (sound refl) p.1.0 p.0
step_job_at (stage.DiskWrite m) t answer.DiskFailed sound p h = record { segments = λ e. sound refl; placed = tt }
step_job_at (stage.DiskRead m) t (answer.Sector words) sound p h = record { segments = λ e. sound refl; placed = (omega arith, p.0, p.1) }
step_job_at (stage.DiskRead m) t answer.DiskFailed sound p h = record { segments = λ e. sound refl; placed = tt }
step_job_at (stage.WriteWord m k) t answer.Done sound p h =
    either (k == 127) (next_sector t m) (record t { stage = stage.WriteWord m (k + 1) })
    (λ last. next_sector_job t m (sound refl) p.2.0 p.1)
    (λ more. record { segments = λ e. sound refl; placed = (further k p.0 more, p.1, p.2) })
  where
    further : (n : ℕ) → n < 128 → (n == 127) ≡ false → n + 1 < 128
    further n lt other = grind (arith, nat_tests)
step_job_at (stage.Unmap m) t answer.Done sound p h = next_segment_job t (rest_of t.rest) (rest_sound t.rest (sound refl))
step_job_at (stage.Abort m) t answer.Done sound p h = record { segments = λ e. sound refl; placed = tt }
step_job_at stage.Flush t answer.Done sound p h = record { segments = λ e. sound refl; placed = tt }
step_job_at stage.Flush t answer.DiskFailed sound p h = record { segments = λ e. sound refl; placed = tt }
step_job_at (stage.Trim count) t answer.Done sound p h = record { segments = λ e. sound refl; placed = tt }
step_job_at (stage.Trim count) t answer.DiskFailed sound p h = record { segments = λ e. sound refl; placed = tt }
step_job_at s t given sound p h = absurd h

pub step_job : (t : Work) (given : BackAnswer) → IsAnswer (ask_of t) given → IsJob t → IsJob (step_of t given)
step_job t given h j = step_job_at t.stage t given j.segments j.placed h

-- a request that is served has segments that are sound and lie on the disk
abbrev IsOn : (count sector : ℕ) → List Segment → DiskInfo → Type 0
IsOn count sector segments info = (0 < count) × IsOnDisk sector (take count segments) info

transfer_on : (k : Kind) (count sector : ℕ) (segments : List Segment) (info : DiskInfo) (p : Plan) → transfer_verdict k count sector segments info ≡ verdict.Serve p → IsOn count sector segments info
transfer_on k count sector segments info p h = let is = transfer_served k count sector segments info p h in (is.positive, is.on_disk)

choose : (P : Type 0) (p : Plan) (a b c d : Bool) (A B C D : Verdict) → (A ≡ verdict.Serve p → P) → (B ≡ verdict.Serve p → P) → (C ≡ verdict.Serve p → P) → (d ≡ true → P) → (if a then A else (if b then B else (if c then C else (if d then D else verdict.Error why.Op)))) ≡ verdict.Serve p → P
choose P p true b c d A B C D at_a at_b at_c at_d h = at_a h
choose P p false true c d A B C D at_a at_b at_c at_d h = at_b h
choose P p false false true d A B C D at_a at_b at_c at_d h = at_c h
choose P p false false false true A B C D at_a at_b at_c at_d h = at_d refl
choose P p false false false false A B C D at_a at_b at_c at_d h = absurd (cc)

no_flush : (code : ℕ) → nat_le code 2 ≡ true → (code == 3) ≡ true → ⊥
no_flush code few is = grind (arith, nat_tests)

pub direct_served : (code count device id sector : ℕ) (segments : List Segment) (info : DiskInfo) (p : Plan) → nat_le code 2 ≡ true → verdict_of (Direct code count device id sector segments) info ≡ verdict.Serve p → (0 < count) × IsOnDisk sector (take count segments) info
direct_served code count device id sector segments info p few h =
    choose (IsOn count sector segments info) p
    (code == op_code op.Read) (code == op_code op.Write) (code == op_code op.Barrier) (code == op_code op.Flush)
    (transfer_verdict kind.Read count sector segments info) (transfer_verdict kind.Write count sector segments info) (transfer_verdict kind.Barrier count sector segments info) (flush_verdict count sector info)
    (transfer_on kind.Read count sector segments info p) (transfer_on kind.Write count sector segments info p) (transfer_on kind.Barrier count sector segments info p) (λ is. absurd (no_flush code few is)) h

served_job : (number : ℕ) (request : RawRequest) (size : ℕ) (info : DiskInfo) (p : Plan) → verdict_of request info ≡ verdict.Serve p → IsJob (served number request size)
served_job number (Direct code count device id sector segments) size info p h =
    let request : RawRequest = Direct code count device id sector segments in
    either (nat_le code 2) (moving number request size (not (code == 0)) sector (take count segments)) _
    (λ few. let sound = recursion_from_All IsSound (take count segments) (direct_served code count device id sector segments info p few h).1.sound in record { segments = λ e. sound; placed = first_last (take count segments) sound })
    (λ more. either (code == 3) (frameless number request size sector stage.Flush) (ended number request size (stage.Done Error)) (λ flush. record { segments = λ e. tt; placed = tt }) (λ other. record { segments = λ e. tt; placed = tt }))
served_job number (Discard flag device id sector count) size info p h = record { segments = λ e. tt; placed = tt }
served_job number (Indirect code count device id sector pages) size info p h =
    let request : RawRequest = Indirect code count device id sector pages in
    either (nat_le count 960) (paging number request size (not (code == 0)) sector count pages) (ended number request size (stage.Done Error)) (λ few. record { segments = λ e. tt; placed = tt }) (λ many. record { segments = λ e. tt; placed = tt })

pub begun_job : (number : ℕ) (request : RawRequest) (size : ℕ) (info : DiskInfo) (v : Verdict) → verdict_of request info ≡ v → IsJob (begun number request size v)
begun_job number request size info (verdict.Serve plan) e = served_job number request size info plan e
begun_job number request size info (verdict.Error why) e = record { segments = λ e. tt; placed = tt }
begun_job number request size info verdict.Unsupported e = record { segments = λ e. tt; placed = tt }
