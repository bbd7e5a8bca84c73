-- A job names the mapping in its hand and a word of its page where mappings are kept too, whatever it is told that its ask allows: a mapping that is kept, or that a job may keep, was made for writing.
use Rattle.std.proofs.Common.{◌≡◌, ℕ, ◌+◌, ◌<◌, ◌≤◌, suc, Bool, true, false, cond, if◌then◌else◌, List, [], ◌∷◌, refl, sym, ap, ◌∙◌, subst, arith}
use Rattle.std.specs.Prelude.{All, Option, Some, None, is_some, ◌==◌, slice_get}
use Rattle.std.specs.List.{AllByRecursion}
use Rattle.std.proofs.lemmas.Option.{none-some, slice_get_within, get_or_from_slice_get}
use Rattle.std.proofs.lemmas.List.Elements.{All-tail, All-set, All-push, All-append, All-take, All-drop, All-get_or}
use Rattle.std.proofs.lemmas.Bool.Decides.{nat_tests}
use Rattle.blk_base.specs.declared.parts.Mapping.{Mapping}
use Rattle.blk_base.specs.declared.parts.Mode.{Mode}
use Rattle.blk_base.specs.declared.parts.Mode.TheVariants.{ReadWrite}
use Rattle.blk_base.specs.declared.ask.BackAnswer.{BackAnswer}
use Rattle.blk_base.specs.declared.ask.BackAnswer.TheVariants as answer
use Rattle.blk_layout.specs.declared.segment.Segment.{Segment}
use Rattle.blk_layout.specs.declared.request.RawRequest.{RawRequest}
use Rattle.segment_list.specs.Segments.{IsSound}
use Rattle.segment_list.specs.Verdict.{verdict_of}
use Rattle.persist_grants.specs.KeptMappings.{KeptMappings, may_keep, mapping_for}
use Rattle.persist_grants.specs.PutBack.{handed_out, with_mapping}
use Rattle.back_jobs.specs.declared.stage.JobStage.{JobStage}
use Rattle.back_jobs.specs.declared.stage.JobStage.TheVariants as stage
use Rattle.back_jobs.specs.Work.{Work, ask_at, map_in, page_ask, mode_of, step_of, step_at, sector_stage, next_sector, next_segment, counted, rest_of, last_of, begun, IsAnswer}
use Rattle.back_jobs.specs.Jobs.{HeldJobs, mapping_at, place_of, work_at, work_of, removed_at, first_mapping, after_mapping}
use Rattle.back_jobs.specs.Hands.{hands_in, Names}
use Rattle.back_jobs.specs.Keeping.{ask_with, ask_in, asked_in, waits_in, ask_keeping, begun_with, takes, goes_on, returned, failed_with, settled_at, settled, told_keeping, complete_keeping, start_keeping, given_from, after_given, AreKeepable, IsWritableAt, IsKeeping}
use Rattle.back_jobs.proofs.Hands.{hand_at, named_in}
use Rattle.back_jobs.proofs.Sizes.{only}
use Rattle.back_jobs.proofs.Settling.{found_keepable, keepable_with, step_writable, writable_at, told_keeping_all, begun_writable, begun_keeping, removed_keeping, given_keeping, drained_keeping}
use Rattle.back_laws.proofs.Jobs.{IsJob, step_job, begun_job}

-- the segments that are left are sound, and the sector that it is at is one of the present one
abbrev pub IsInside : Work → Type 0
IsInside t = AllByRecursion IsSound t.rest × (t.within ≤ last_of t.rest)

-- words of a page go only to the frame of a mapping that was made for writing
abbrev pub IsFitAt : JobStage → Work → Type 0
IsFitAt stage.Map t = IsInside t
IsFitAt (stage.ReadWord m k) t = IsInside t × (t.writes ≡ true) × (k < 128)
IsFitAt (stage.DiskWrite m) t = IsInside t × (t.writes ≡ true)
IsFitAt (stage.DiskRead m) t = IsInside t × (t.writes ≡ false) × (m.mode ≡ ReadWrite)
IsFitAt (stage.WriteWord m k) t = IsInside t × (t.writes ≡ false) × (m.mode ≡ ReadWrite) × (k < 128)
IsFitAt (stage.Unmap m) t = AllByRecursion IsSound t.rest
IsFitAt s t = Unit {0}

abbrev pub IsFit : Work → Type 0
IsFit t = IsFitAt t.stage t

-- a job that keeps no mapping is such a one
fit_at : (s : JobStage) (t : Work) → IsJob (record t { stage = s }) → IsFitAt s t
fit_at stage.Map t j = (j.segments refl, j.placed)
fit_at (stage.ReadWord m k) t j = let p = j.placed in ((j.segments refl, p.1), p.2.1, p.0)
fit_at (stage.DiskWrite m) t j = let p = j.placed in ((j.segments refl, p.0), p.1.1)
fit_at (stage.DiskRead m) t j = let p = j.placed in ((j.segments refl, p.0), p.1.1, p.1.0 ∙ ap mode_of p.1.1)
fit_at (stage.WriteWord m k) t j = let p = j.placed in ((j.segments refl, p.1), p.2.1, p.2.0 ∙ ap mode_of p.2.1, p.0)
fit_at (stage.Unmap m) t j = j.segments refl
fit_at s t j = tt

fit_of : (t : Work) → IsJob t → IsFit t
fit_of t j = fit_at t.stage t j

-- what it asks
last_small : (rest : List Segment) → AllByRecursion IsSound rest → last_of rest ≤ 7
last_small [] sound = omega arith
last_small (s ∷ rest) sound = sound.0.inside

names_map : (rest : List Segment) (mode : Mode) → Names [] (map_in rest mode)
names_map [] mode = tt
names_map (s ∷ rest) mode = tt

names_page : (pages : List ℕ) → Names [] (page_ask pages)
names_page [] = tt
names_page (gref ∷ pages) = tt

names_at : (s : JobStage) (t : Work) → IsFitAt s t → Names (hand_at s) (ask_at s t)
names_at stage.MapPage t f = names_page t.pages
names_at (stage.PageReference m) t f = (only m, omega arith)
names_at (stage.PageSectors m gref) t f = (only m, omega arith)
names_at (stage.UnmapPage m) t f = only m
names_at stage.Map t f = names_map t.rest (mode_of t.writes)
names_at (stage.ReadWord m k) t f = let small = last_small t.rest f.0.0 in let inside = f.0.1 in let word = f.2 in (only m, omega arith)
names_at (stage.WriteWord m k) t f = let small = last_small t.rest f.0.0 in let inside = f.0.1 in let word = f.3 in (only m, f.2, omega arith)
names_at (stage.Unmap m) t f = only m
names_at (stage.Abort m) t f = only m
names_at s t f = tt

names_with : (keeps : Bool) (s : JobStage) (t : Work) → IsFitAt s t → Names (hand_at s) (ask_with keeps s t)
names_with true stage.Map t f = names_map t.rest ReadWrite
names_with true s t f = names_at s t f
names_with false s t f = names_at s t f

-- the next sector of a segment is begun
sector_fit : (b : Bool) (m : Mapping) (t : Work) → t.writes ≡ b → (t.writes ≡ false → m.mode ≡ ReadWrite) → IsInside t → IsFitAt (sector_stage b m) t
sector_fit true m t is mode inside = (inside, is, omega arith)
sector_fit false m t is mode inside = (inside, is, mode is)

either : (b : Bool) (x y : Work) → (b ≡ true → IsFit x) → (b ≡ false → IsFit y) → IsFit (if b then x else y)
either true x y p q = p refl
either false x y p q = q refl

next_fit : (t : Work) (m : Mapping) → (t.writes ≡ false → m.mode ≡ ReadWrite) → IsInside t → IsFit (next_sector t m)
next_fit t m mode inside =
    either (t.within == last_of t.rest) (record t { stage = stage.Unmap m }) (record t { within = t.within + 1; stage = sector_stage t.writes m })
    (λ last. inside.0)
    (λ more. sector_fit t.writes m (record t { within = t.within + 1; stage = sector_stage t.writes m }) refl mode (inside.0, further t.within (last_of t.rest) inside.1 more))
  where
    further : (n last : ℕ) → n ≤ last → (n == last) ≡ false → n + 1 ≤ last
    further n last le other = grind (arith, nat_tests)

-- a frame of data was mapped, in the mode that its words need, or for writing too
map_fit : (rest : List Segment) (mode : Mode) (t : Work) (given : BackAnswer) → (t.writes ≡ false → mode ≡ ReadWrite) → IsAnswer (map_in rest mode) given → IsInside t → IsFit (step_at stage.Map t given)
map_fit [] mode t given needs h inside = absurd h
map_fit (s ∷ rest) mode t (answer.Mapped m) needs h inside = sector_fit t.writes m (record t { stage = sector_stage t.writes m }) refl (λ reads. h.1 ∙ needs reads) inside
map_fit (s ∷ rest) mode t (answer.MapRefused status) needs h inside = tt
map_fit (s ∷ rest) mode t given needs h inside = absurd h

-- with no mapping of data in its hand it goes on as without
as_without : (s : JobStage) (t : Work) (given : BackAnswer) → t.stage ≡ s → IsJob (record t { stage = s }) → IsAnswer (ask_at s t) given → IsFit (step_at s t given)
as_without s t given is j h =
    subst (λ (x : JobStage). IsFit (step_at x t given)) is
    (fit_of (step_of t given) (step_job t given (subst (λ (x : JobStage). IsAnswer (ask_at x t) given) (sym is) h) (subst (λ (x : JobStage). IsJob (record t { stage = x })) (sym is) j)))

further_word : (k : ℕ) → k < 128 → (k == 127) ≡ false → k + 1 < 128
further_word k low other = grind (arith, nat_tests)

step_fit_at : (s : JobStage) (t : Work) (given : BackAnswer) → t.stage ≡ s → IsFitAt s t → IsAnswer (ask_at s t) given → IsFit (step_at s t given)
step_fit_at stage.MapPage t given is f h = as_without stage.MapPage t given is (record { segments = λ e. absurd (cc); placed = tt }) h
step_fit_at (stage.PageReference m) t given is f h = as_without (stage.PageReference m) t given is (record { segments = λ e. absurd (cc); placed = tt }) h
step_fit_at (stage.PageSectors m gref) t given is f h = as_without (stage.PageSectors m gref) t given is (record { segments = λ e. absurd (cc); placed = tt }) h
step_fit_at (stage.UnmapPage m) t given is f h = as_without (stage.UnmapPage m) t given is (record { segments = λ e. absurd (cc); placed = tt }) h
step_fit_at (stage.Unmap m) t given is f h = as_without (stage.Unmap m) t given is (record { segments = λ e. f; placed = tt }) h
step_fit_at stage.Map t given is f h = map_fit t.rest (mode_of t.writes) t given (λ reads. ap mode_of reads) h f
step_fit_at (stage.ReadWord m k) t (answer.Word word) is f h = read_fit (k == 127) refl
  where
    read_fit : (b : Bool) → (k == 127) ≡ b → IsFitAt (if b then stage.DiskWrite m else stage.ReadWord m (k + 1)) (step_at (stage.ReadWord m k) t (answer.Word word))
    read_fit true e = (f.0, f.1)
    read_fit false e = (f.0, f.1, further_word k f.2 e)
step_fit_at (stage.DiskWrite m) t answer.Done is f h = next_fit (counted t) m (λ reads. absurd (let writes = f.1 in cc)) f.0
step_fit_at (stage.DiskRead m) t (answer.Sector words) is f h = (f.0, f.1, f.2, omega arith)
step_fit_at (stage.WriteWord m k) t answer.Done is f h =
    either (k == 127) (next_sector t m) (record t { stage = stage.WriteWord m (k + 1) }) (λ last. next_fit t m (λ reads. f.2) f.0) (λ more. (f.0, f.1, f.2, further_word k f.3 more))
step_fit_at (stage.DiskWrite m) t answer.DiskFailed is f h = tt
step_fit_at (stage.DiskRead m) t answer.DiskFailed is f h = tt
step_fit_at (stage.Abort m) t answer.Done is f h = tt
step_fit_at stage.Flush t answer.Done is f h = tt
step_fit_at stage.Flush t answer.DiskFailed is f h = tt
step_fit_at (stage.Trim count) t answer.Done is f h = tt
step_fit_at (stage.Trim count) t answer.DiskFailed is f h = tt
step_fit_at s t given is f h = absurd h

step_fit_with : (keeps : Bool) (s : JobStage) (t : Work) (given : BackAnswer) → t.stage ≡ s → IsFitAt s t → IsAnswer (ask_with keeps s t) given → IsFit (step_at s t given)
step_fit_with true stage.Map t given is f h = map_fit t.rest ReadWrite t given (λ reads. refl) h f
step_fit_with true s t given is f h = step_fit_at s t given is f h
step_fit_with false s t given is f h = step_fit_at s t given is f h

-- it takes a mapping that is kept
begun_with_fit : (o : Option Mapping) (t : Work) → ((m : Mapping) → o ≡ Some m → m.mode ≡ ReadWrite) → IsInside t → IsFit t → IsFit (begun_with o t)
begun_with_fit None t writable inside f = f
begun_with_fit (Some m) t writable inside f = sector_fit t.writes m (record t { stage = sector_stage t.writes m }) refl (λ reads. writable m refl) inside

takes_fit : (kept : KeptMappings) (rest : List Segment) (t : Work) → AreKeepable kept → IsInside t → IsFit t → IsFit (takes kept rest t).job
takes_fit kept [] t all inside f = f
takes_fit kept (s ∷ rest) t all inside f = begun_with_fit (mapping_for kept s.gref) t (λ m found. found_keepable s.gref kept.entries m all found) inside f

goes_on_fit : (kept : KeptMappings) (rest : List Segment) (t : Work) → AreKeepable kept → AllByRecursion IsSound rest → IsFit (goes_on kept rest t).job
goes_on_fit kept [] t all sound = tt
goes_on_fit kept (s ∷ rest) t all sound = takes_fit kept (s ∷ rest) (next_segment t (s ∷ rest)) all (sound, sound.0.nonempty) (sound, sound.0.nonempty)

rest_sound : (rest : List Segment) → AllByRecursion IsSound rest → AllByRecursion IsSound (rest_of rest)
rest_sound [] sound = tt
rest_sound (s ∷ rest) sound = sound.1

returned_fit : (o : Option Mapping) (kept : KeptMappings) (t : Work) → AreKeepable kept → AllByRecursion IsSound t.rest → IsFit (returned o kept t).job
returned_fit (Some out) kept t all sound = sound
returned_fit None kept t all sound = goes_on_fit kept (rest_of t.rest) t all (rest_sound t.rest sound)

failed_fit : (o : Option Mapping) (t : Work) → IsFit (failed_with o t)
failed_fit (Some out) t = tt
failed_fit None t = tt

-- and settles
settled_fit_at : (s : JobStage) (kept : KeptMappings) (t : Work) → t.stage ≡ s → (may_keep kept ≡ true → IsWritableAt s) → AreKeepable kept → IsFitAt s t → IsFit (settled_at s kept t).job
settled_fit_at stage.Map kept t is writable all f = takes_fit kept t.rest t all f (subst (λ (x : JobStage). IsFitAt x t) (sym is) f)
settled_fit_at (stage.Unmap m) kept t is writable all f = returned_fit (handed_out kept m.gref m) (with_mapping kept m.gref m) t (keepable_with kept m writable all) f
settled_fit_at (stage.Abort m) kept t is writable all f = failed_fit (handed_out kept m.gref m) t
settled_fit_at s kept t is writable all f = subst (λ (x : JobStage). IsFitAt x t) (sym is) f

settled_fit : (kept : KeptMappings) (t : Work) → (may_keep kept ≡ true → IsWritableAt t.stage) → AreKeepable kept → IsFit t → IsFit (settled kept t).job
settled_fit kept t writable all f = settled_fit_at t.stage kept t refl writable all f

-- all jobs that are held, and what is kept beside them
pub record AreFit (kept : KeptMappings) (works : List Work) : Type 0 where
  pub jobs : All IsFit works
  pub keeping : IsKeeping kept works

abbrev pub JobsFit : HeldJobs → Type 0
JobsFit h = AreFit h.kept h.works

pub started_fit : (h : HeldJobs) (number : ℕ) (request : RawRequest) → JobsFit h → JobsFit (start_keeping h number request)
started_fit h number request all =
    let verdict = verdict_of request h.info in
    let t : Work = begun number request h.info.sectors verdict in
    let writable = begun_writable number request h.info.sectors verdict in
    let k = all.keeping in
    record {
      jobs = All-push IsFit h.works _ all.jobs (settled_fit h.kept t (λ may. writable) k.keepable (fit_of t (begun_job number request h.info.sectors h.info verdict refl)));
      keeping = begun_keeping h.kept (settled h.kept t).kept h.works t (settled h.kept t).job writable refl refl k;
    }

told_one : (h : HeldJobs) (place : ℕ) (t : Work) (given : BackAnswer) → slice_get h.works place ≡ Some t → IsAnswer (ask_in (may_keep h.kept) t) given → JobsFit h → JobsFit (told_keeping h (Some place) (Some t) given)
told_one h place t given found allowed all =
    let within = slice_get_within h.works place t found in
    let own : IsFit t = subst IsFit (get_or_from_slice_get h.works place t t found) (All-get_or IsFit h.works place t within all.jobs) in
    let u : Work = step_of t given in
    let k = all.keeping in
    let writable : may_keep h.kept ≡ true → IsWritableAt u.stage =
    λ may. step_writable t.stage t given (subst (λ (b : Bool). IsAnswer (ask_in b t) given) may allowed) (writable_at h.works place t found (k.writable may)) in
    record {
      jobs = All-set IsFit h.works place (settled h.kept u).job (settled_fit h.kept u writable k.keepable (step_fit_with (may_keep h.kept) t.stage t given refl own allowed)) all.jobs;
      keeping = told_keeping_all h.kept (settled h.kept u).kept h.works place t (settled h.kept u).job given found allowed refl refl k;
    }

told_fit_at : (h : HeldJobs) (place : Option ℕ) (held : Bool) (found : Option Work) (given : BackAnswer) → work_at h.works place ≡ found → IsAnswer (asked_in (may_keep h.kept) held found) given → JobsFit h → JobsFit (told_keeping h place found given)
told_fit_at h place held None given e allowed all = absurd allowed
told_fit_at h place true (Some t) given e allowed all = absurd allowed
told_fit_at h None false (Some t) given e allowed all = absurd (none-some t e)
told_fit_at h (Some place) false (Some t) given e allowed all = told_one h place t given e allowed all

pub told_fit : (h : HeldJobs) (number : ℕ) (given : BackAnswer) → IsAnswer (ask_keeping h number) given → JobsFit h → JobsFit (complete_keeping h number given)
told_fit h number given allowed all = told_fit_at h (place_of h.works number) (waits_in (may_keep h.kept) h.works (place_of h.works number) (work_of h.works number)) (work_of h.works number) given refl allowed all

pub removed_fit : (kept : KeptMappings) (works : List Work) (place : Option ℕ) → AreFit kept works → AreFit kept (removed_at works place)
removed_fit kept works None all = all
removed_fit kept works (Some place) all = record {
  jobs = All-append IsFit _ _ (All-take IsFit place works all.jobs) (All-drop IsFit (suc place) works all.jobs);
  keeping = removed_keeping kept works place all.keeping;
}

after_fit_at : (b : Bool) (works : List Work) → All IsFit works → All IsFit (after_mapping works) → All IsFit (cond b works (after_mapping works))
after_fit_at true works all less = all
after_fit_at false works all less = less

after_fit : (works : List Work) → All IsFit works → All IsFit (after_mapping works)
after_fit [] all = all
after_fit (t ∷ works) all = let rest = All-tail IsFit t works all in after_fit_at (is_some (mapping_at t.stage)) works rest (after_fit works rest)

given_fit_at : (o : Option Mapping) (h : HeldJobs) → JobsFit h → JobsFit (given_from o h)
given_fit_at (Some m) h all = record { jobs = after_fit h.works all.jobs; keeping = given_keeping h.kept h.works all.keeping }
given_fit_at None h all = record { jobs = after_fit h.works all.jobs; keeping = drained_keeping h.kept (after_mapping h.works) (given_keeping h.kept h.works all.keeping) }

pub given_fit : (h : HeldJobs) → JobsFit h → JobsFit (after_given h)
given_fit h all = given_fit_at (first_mapping h.works) h all

-- what a job asks names what jobs hold
asked_names_at : (keeps held : Bool) (works : List Work) (place : Option ℕ) (found : Option Work) → work_at works place ≡ found → All IsFit works → Names (hands_in works) (asked_in keeps held found)
asked_names_at keeps held works place None e all = tt
asked_names_at keeps true works place (Some t) e all = tt
asked_names_at keeps false works None (Some t) e all = absurd (none-some t e)
asked_names_at keeps false works (Some place) (Some t) e all =
    let own : IsFit t = subst IsFit (get_or_from_slice_get works place t t e) (All-get_or IsFit works place t (slice_get_within works place t e) all) in
    named_in works place t (ask_in keeps t) e (names_with keeps t.stage t own)

pub asked_names : (h : HeldJobs) (number : ℕ) → JobsFit h → Names (hands_in h.works) (ask_keeping h number)
asked_names h number all =
    let keeps = may_keep h.kept in
    asked_names_at keeps (waits_in keeps h.works (place_of h.works number) (work_of h.works number)) h.works (place_of h.works number) (work_of h.works number) refl all.jobs
