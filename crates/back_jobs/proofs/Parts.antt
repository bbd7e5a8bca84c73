-- Words of a sector that a job moves many at once: what that many single answers make of it.
use Rattle.std.proofs.Common.{◌≡◌, ℕ, zero, suc, ◌+◌, ◌-◌, ◌<◌, ◌≤◌, ◌≢◌, Bool, true, false, if◌then◌else◌, List, [], ◌∷◌, ◌++◌, take, drop, length, refl, sym, ap, ◌∙◌, subst, arith, add-zero, append_assoc}
use Rattle.std.specs.Prelude.{Option, Some, None, IfSome, IsPermutation, fold, slice_get, slice_set, slice_index, slice_index_or, ◌==◌, ◌&&◌, ◌||◌}
use Rattle.std.specs.Option.{IsSomeAnd}
use Rattle.std.proofs.lemmas.Bool.{false≢true}
use Rattle.std.proofs.lemmas.Bool.Decides.{nat_tests}
use Rattle.std.proofs.lemmas.Option.{get_or_from_slice_get, slice_get_within}
use Rattle.std.proofs.lemmas.List.{set-set, set-get_or, get_or-drop, drop-set-lt, length-set, take-append-drop}
use Rattle.std.proofs.lemmas.List.Folds.{position_or_len-set}
use Rattle.std.proofs.lemmas.Grind.{take-set_at}
use Rattle.blk_base.specs.declared.parts.Mapping.{Mapping}
use Rattle.blk_base.specs.declared.parts.Mode.TheVariants.{ReadWrite}
use Rattle.blk_base.specs.declared.ask.BackAsk.{BackAsk}
use Rattle.blk_base.specs.declared.ask.BackAsk.TheVariants as ask
use Rattle.blk_base.specs.declared.ask.BackAnswer.{BackAnswer}
use Rattle.blk_base.specs.declared.ask.BackAnswer.TheVariants.{Done, Word}
use Rattle.persist_grants.specs.KeptMappings.{KeptMappings, may_keep, mappings_of}
use Rattle.back_jobs.specs.declared.part.SectorPart.{SectorPart}
use Rattle.back_jobs.specs.declared.stage.JobStage.{JobStage}
use Rattle.back_jobs.specs.declared.stage.JobStage.TheVariants as stage
use Rattle.back_jobs.specs.Work.{Work, IsAnswer, ask_at, word_at, step_of, step_at, next_sector}
use Rattle.back_jobs.specs.Jobs.{HeldJobs, place_of, work_at, work_of, is_done_at, is_held_by, is_fresh_at, effect_at, effect_of}
use Rattle.back_jobs.specs.Hands.{hand_of, hands_in, HandsAfter, HandsKeep}
use Rattle.back_jobs.specs.Keeping.{ask_with, ask_in, is_fresh_in, asked_in, waits_in, ask_keeping, has_only_taken, settled_at, with_settled, complete_keeping, all_hands, IsWritableAt, IsKeeping}
use Rattle.back_jobs.specs.Part.{part_at, part_in, part_of, IsReadPart, IsWrittenPart, IsPassedPart, NamesPart, values_at, values_in, part_values, words_read, words_written, steps_of, told_each, asked_after, AsksEach, MovesWord, MovesEach, JobMovesEach, HaveNoEffect}
use Rattle.back_jobs.proofs.Hands.{hand_at, place_among, hands_between, named_in}
use Rattle.back_jobs.proofs.Kept.{Facts, facts_of, step_kept, step_number}
use Rattle.back_jobs.proofs.Telling.{work_there, told_there, told_kept, set_there}
use Rattle.back_jobs.proofs.First.{told_first}
use Rattle.back_jobs.proofs.Settling.{writable_at}
use Rattle.back_jobs.specs.Sound.{IsKept, AreFirst}
use Rattle.std.proofs.lemmas.List.Elements.{All-set}

-- a job with words in hand, or to be written, through this mapping
abbrev pub IsMoving : Mapping → JobStage → Type 0
IsMoving m (stage.ReadWord n k) = n ≡ m
IsMoving m (stage.DiskWrite n) = n ≡ m
IsMoving m (stage.WriteWord n k) = n ≡ m
IsMoving m s = ⊥

-- it settles to itself, and isn't done
settles : (m : Mapping) (s : JobStage) (kept : KeptMappings) (t : Work) → IsMoving m s → settled_at s kept t ≡ record { kept = kept; job = t }
settles m (stage.ReadWord n k) kept t moving = refl
settles m (stage.DiskWrite n) kept t moving = refl
settles m (stage.WriteWord n k) kept t moving = refl
settles m s kept t moving = absurd moving

pub moving_hand : (m : Mapping) (s : JobStage) → IsMoving m s → hand_at s ≡ m ∷ []
moving_hand m (stage.ReadWord n k) moving = ap (λ (x : Mapping). x ∷ []) moving
moving_hand m (stage.DiskWrite n) moving = ap (λ (x : Mapping). x ∷ []) moving
moving_hand m (stage.WriteWord n k) moving = ap (λ (x : Mapping). x ∷ []) moving
moving_hand m s moving = absurd moving

pub moving_goes : (m : Mapping) (s : JobStage) → IsMoving m s → is_done_at s ≡ false
moving_goes m (stage.ReadWord n k) moving = refl
moving_goes m (stage.DiskWrite n) moving = refl
moving_goes m (stage.WriteWord n k) moving = refl
moving_goes m s moving = absurd moving

-- what it may keep later was made for writing
moving_mode : (m : Mapping) (s : JobStage) → IsMoving m s → IsWritableAt s → m.mode ≡ ReadWrite
moving_mode m (stage.ReadWord n k) moving at = ap (λ (x : Mapping). x.mode) (sym moving) ∙ at
moving_mode m (stage.DiskWrite n) moving at = ap (λ (x : Mapping). x.mode) (sym moving) ∙ at
moving_mode m (stage.WriteWord n k) moving at = ap (λ (x : Mapping). x.mode) (sym moving) ∙ at
moving_mode m s moving at = absurd moving

moving_writable_at : (m : Mapping) (s : JobStage) → IsMoving m s → m.mode ≡ ReadWrite → IsWritableAt s
moving_writable_at m (stage.ReadWord n k) moving mode = ap (λ (x : Mapping). x.mode) moving ∙ mode
moving_writable_at m (stage.DiskWrite n) moving mode = ap (λ (x : Mapping). x.mode) moving ∙ mode
moving_writable_at m (stage.WriteWord n k) moving mode = ap (λ (x : Mapping). x.mode) moving ∙ mode
moving_writable_at m s moving mode = absurd moving

pub moving_writable : (m : Mapping) (s r : JobStage) → IsMoving m s → IsMoving m r → IsWritableAt s → IsWritableAt r
moving_writable m s r before after at = moving_writable_at m r after (moving_mode m s before at)

-- so it is before each of some answers and after them
abbrev pub Stays : Mapping → Work → List BackAnswer → Type 0
Stays m t [] = IsMoving m t.stage
Stays m t (a ∷ answers) = IsMoving m t.stage × Stays m (step_of t a) answers

pub stays_first : (m : Mapping) (t : Work) (answers : List BackAnswer) → Stays m t answers → IsMoving m t.stage
stays_first m t [] stays = stays
stays_first m t (a ∷ answers) stays = stays.0

pub stays_last : (m : Mapping) (t : Work) (answers : List BackAnswer) → Stays m t answers → IsMoving m (steps_of t answers).stage
stays_last m t [] stays = stays
stays_last m t (a ∷ answers) stays = stays_last m (step_of t a) answers stays.1

pub steps_facts : (t : Work) (answers : List BackAnswer) → facts_of (steps_of t answers) ≡ facts_of t
steps_facts t [] = refl
steps_facts t (a ∷ answers) = steps_facts (step_of t a) answers ∙ step_kept t a

-- a job in the place of another with its number
pub place_kept : (works : List Work) (number place : ℕ) (t u : Work) → slice_get works place ≡ Some t → u.number ≡ t.number → place_of (slice_set works place u) number ≡ place_of works number
place_kept works number place t u here same =
    let at : slice_index_or works place t ≡ t = get_or_from_slice_get works place t t here in
    let first = position_or_len-set (λ (w : Work). w.number == number) works place u t (ap (λ n. n == number) same ∙ ap (λ (w : Work). w.number == number) (sym at)) in
    rw (first, length-set works place u) refl

set_own : (works : List Work) (place : ℕ) (t : Work) → slice_get works place ≡ Some t → slice_set works place t ≡ works
set_own works place t here = ap (slice_set works place) (sym (get_or_from_slice_get works place t t here)) ∙ set-get_or works place t

-- one such answer, and some
told_one : (m : Mapping) (h : HeldJobs) (number place : ℕ) (t : Work) (a : BackAnswer) → place_of h.works number ≡ Some place → slice_get h.works place ≡ Some t → IsMoving m (step_of t a).stage
    → complete_keeping h number a ≡ record h { works = slice_set h.works place (step_of t a) }
told_one m h number place t a found here moving =
    told_there h number place t a found here ∙ ap (with_settled h place) (settles m (step_of t a).stage h.kept (step_of t a) moving)

pub told_stays : (m : Mapping) (h : HeldJobs) (number place : ℕ) (t : Work) (answers : List BackAnswer) → place_of h.works number ≡ Some place → slice_get h.works place ≡ Some t → Stays m t answers
    → told_each h number answers ≡ record h { works = slice_set h.works place (steps_of t answers) }
told_stays m h number place t [] found here stays = ap (λ (l : List Work). record h { works = l }) (sym (set_own h.works place t here))
told_stays m h number place t (a ∷ answers) found here stays =
    let u : Work = step_of t a in
    let g : HeldJobs = record h { works = slice_set h.works place u } in
    let one : complete_keeping h number a ≡ g = told_one m h number place t a found here (stays_first m u answers stays.1) in
    let there : place_of g.works number ≡ Some place = place_kept h.works number place t u here (step_number t a) ∙ found in
    let now : slice_get g.works place ≡ Some u = set_there h.works place u (slice_get_within h.works place t here) in
    ap (λ (x : HeldJobs). told_each x number answers) one
    ∙ (told_stays m g number place u answers there now stays.1 ∙ ap (λ (l : List Work). record h { works = l }) (set-set h.works place u (steps_of u answers)))

-- the hands stay
pub set_hands : (works : List Work) (place : ℕ) (t u : Work) → slice_get works place ≡ Some t → hand_of u ≡ hand_of t → hands_in (slice_set works place u) ≡ hands_in works
set_hands works place t u here same =
    let r = place_among works place t here in
    ap hands_in (r.set u) ∙ (hands_between r.front r.rest u
    ∙ (ap (λ (l : List Mapping). hands_in r.front ++ (l ++ hands_in r.rest)) same
    ∙ (sym (hands_between r.front r.rest t) ∙ ap hands_in (sym r.is))))

-- where a job that reads words comes to
abbrev pub read_to : Mapping → ℕ → JobStage
read_to m k = if k == 128 then stage.DiskWrite m else stage.ReadWord m k

read_before : (m : Mapping) (k : ℕ) → k < 128 → read_to m k ≡ stage.ReadWord m k
read_before m k before = let test : (k == 128) ≡ false = grind (arith, nat_tests) in rw test refl

pub read_more : (m : Mapping) (k : ℕ) → k ≢ 128 → read_to m k ≡ stage.ReadWord m k
read_more m k other = let test : (k == 128) ≡ false = grind (arith, nat_tests) in rw test refl

pub read_all : (m : Mapping) (k : ℕ) → k ≡ 128 → read_to m k ≡ stage.DiskWrite m
read_all m k end = let test : (k == 128) ≡ true = grind (arith, nat_tests) in rw test refl

read_moving : (m : Mapping) (k : ℕ) → IsMoving m (read_to m k)
read_moving m k = by_test (k == 128)
  where
    by_test : (b : Bool) → IsMoving m (if b then stage.DiskWrite m else stage.ReadWord m k)
    by_test true = refl
    by_test false = refl

-- one word is read
at_last : (k : ℕ) → (k == 127) ≡ true → (k + 1 == 128) ≡ true
at_last k h = grind (arith, nat_tests)

before_last : (k : ℕ) → (k == 127) ≡ false → (k + 1 == 128) ≡ false
before_last k h = grind (arith, nat_tests)

same_test : (k : ℕ) → (k == 127) ≡ (k + 1 == 128)
same_test k = by_test (k == 127) refl
  where
    by_test : (b : Bool) → (k == 127) ≡ b → (k == 127) ≡ (k + 1 == 128)
    by_test true h = h ∙ sym (at_last k h)
    by_test false h = h ∙ sym (before_last k h)

read_one : (t : Work) (m : Mapping) (k word : ℕ) → t.stage ≡ stage.ReadWord m k → step_of t (Word word) ≡ record t { words = slice_set t.words k word; stage = read_to m (k + 1) }
read_one t m k word at =
    ap (λ (s : JobStage). step_at s t (Word word)) at
    ∙ ap (λ (b : Bool). record t { words = slice_set t.words k word; stage = if b then stage.DiskWrite m else stage.ReadWord m (k + 1) }) (same_test k)

at_stage : (m : Mapping) (s r : JobStage) → s ≡ r → IsMoving m r → IsMoving m s
at_stage m s r is moving = subst (IsMoving m) (sym is) moving

pub reads_stay : (t : Work) (m : Mapping) (k : ℕ) (words : List ℕ) → t.stage ≡ stage.ReadWord m k → length words ≤ 128 - k → Stays m t (words_read words)
reads_stay t m k [] at fits = at_stage m t.stage (stage.ReadWord m k) at refl
reads_stay t m k (word ∷ []) at fits =
    (at_stage m t.stage (stage.ReadWord m k) at refl, at_stage m (step_of t (Word word)).stage (read_to m (k + 1)) (ap (λ (u : Work). u.stage) (read_one t m k word at)) (read_moving m (k + 1)))
reads_stay t m k (word ∷ other ∷ words) at fits =
    let next : (step_of t (Word word)).stage ≡ stage.ReadWord m (k + 1) = ap (λ (u : Work). u.stage) (read_one t m k word at) ∙ read_before m (k + 1) (omega arith) in
    (at_stage m t.stage (stage.ReadWord m k) at refl, reads_stay (step_of t (Word word)) m (k + 1) (other ∷ words) next (omega arith))

-- the words of a sector from the k-th on are these
abbrev pub with_words : List ℕ → ℕ → List ℕ → List ℕ
with_words sector k words = take k sector ++ (words ++ drop (k + length words) sector)

with_none : (sector : List ℕ) (k : ℕ) → with_words sector k [] ≡ sector
with_none sector k = rw (add-zero k) (take-append-drop k sector)

with_more : (sector : List ℕ) (k word : ℕ) (words : List ℕ) → k < length sector → with_words (slice_set sector k word) (k + 1) words ≡ with_words sector k (word ∷ words)
with_more sector k word words within =
    let front : take (k + 1) (slice_set sector k word) ≡ take k sector ++ word ∷ [] = take-set_at sector k (k + 1) word refl within in
    let more : k + 1 + length words ≡ k + suc (length words) = omega arith in
    let back : drop (k + 1 + length words) (slice_set sector k word) ≡ drop (k + suc (length words)) sector = drop-set-lt (k + 1 + length words) sector k word (omega arith) ∙ ap (λ n. drop n sector) more in
    ap (λ (l : List ℕ). l ++ (words ++ drop (k + 1 + length words) (slice_set sector k word))) front
    ∙ (ap (λ (l : List ℕ). (take k sector ++ word ∷ []) ++ (words ++ l)) back
    ∙ append_assoc (take k sector) (word ∷ []) (words ++ drop (k + suc (length words)) sector))

-- so they are when they are put there one after another
abbrev pub put_each : List ℕ → ℕ → List ℕ → List ℕ
put_each sector k [] = sector
put_each sector k (word ∷ words) = put_each (slice_set sector k word) (k + 1) words

pub put_all : (sector : List ℕ) (k : ℕ) (words : List ℕ) → k + length words ≤ length sector → put_each sector k words ≡ with_words sector k words
put_all sector k [] fits = sym (with_none sector k)
put_all sector k (word ∷ words) fits =
    let same : length (slice_set sector k word) ≡ length sector = length-set sector k word in
    put_all (slice_set sector k word) (k + 1) words (omega arith) ∙ with_more sector k word words (omega arith)

-- what a job is after some words were read
pub read_steps : (t : Work) (m : Mapping) (k : ℕ) (words : List ℕ) → t.stage ≡ stage.ReadWord m k → k < 128 → length words ≤ 128 - k
    → steps_of t (words_read words) ≡ record t { words = put_each t.words k words; stage = read_to m (k + length words) }
read_steps t m k [] at before fits = ap (λ (s : JobStage). record t { stage = s }) (at ∙ (sym (read_before m k before) ∙ ap (read_to m) (sym (add-zero k))))
read_steps t m k (word ∷ []) at before fits = read_one t m k word at
read_steps t m k (word ∷ other ∷ words) at before fits =
    let now : Work = record t { words = slice_set t.words k word; stage = read_to m (k + 1) } in
    let next : now.stage ≡ stage.ReadWord m (k + 1) = read_before m (k + 1) (omega arith) in
    let more : k + 1 + length (other ∷ words) ≡ k + length (word ∷ other ∷ words) = omega arith in
    ap (λ (v : Work). steps_of v (words_read (other ∷ words))) (read_one t m k word at)
    ∙ (read_steps now m (k + 1) (other ∷ words) next (omega arith) (omega arith)
    ∙ ap (λ n. record t { words = put_each t.words k (word ∷ other ∷ words); stage = read_to m n }) more)

-- one word is written, and it isn't the sector's last
write_one : (t : Work) (m : Mapping) (k : ℕ) → t.stage ≡ stage.WriteWord m k → k < 127 → step_of t Done ≡ record t { stage = stage.WriteWord m (k + 1) }
write_one t m k at before =
    let test : (k == 127) ≡ false = grind (arith, nat_tests) in
    ap (λ (s : JobStage). step_at s t Done) at
    ∙ ap (λ (b : Bool). if b then next_sector t m else record t { stage = stage.WriteWord m (k + 1) }) test

pub written_steps : (t : Work) (m : Mapping) (k count : ℕ) → t.stage ≡ stage.WriteWord m k → count < 128 - k → steps_of t (words_written count) ≡ record t { stage = stage.WriteWord m (k + count) }
written_steps t m k zero at fits = ap (λ (s : JobStage). record t { stage = s }) (at ∙ ap (stage.WriteWord m) (sym (add-zero k)))
written_steps t m k (suc count) at fits =
    let more : k + 1 + count ≡ k + suc count = omega arith in
    ap (λ (v : Work). steps_of v (words_written count)) (write_one t m k at (omega arith))
    ∙ (written_steps (record t { stage = stage.WriteWord m (k + 1) }) m (k + 1) count refl (omega arith)
    ∙ ap (λ n. record t { stage = stage.WriteWord m n }) more)

pub written_stay : (t : Work) (m : Mapping) (k count : ℕ) → t.stage ≡ stage.WriteWord m k → count < 128 - k → Stays m t (words_written count)
written_stay t m k zero at fits = at_stage m t.stage (stage.WriteWord m k) at refl
written_stay t m k (suc count) at fits = (
  at_stage m t.stage (stage.WriteWord m k) at refl,
  written_stay (step_of t Done) m (k + 1) count (ap (λ (u : Work). u.stage) (write_one t m k at (omega arith))) (omega arith),
)

-- a part is read where its job reads a word; and is written where it writes one
pub at_read : (s : JobStage) (t : Work) (count : ℕ) → IsSomeAnd (part_at s t) (λ part. IsReadPart part count) → (m : Mapping) × (k : ℕ) × (s ≡ stage.ReadWord m k) × (count ≤ 128 - k)
at_read (stage.ReadWord m k) t count h = (m, k, refl, h.1)
at_read (stage.WriteWord m k) t count h = absurd (false≢true (sym h.0))
at_read s t count h = absurd h

pub at_written : (s : JobStage) (t : Work) (count : ℕ) → IsSomeAnd (part_at s t) (λ part. IsPassedPart part count) → (m : Mapping) × (k : ℕ) × (s ≡ stage.WriteWord m k) × (count < 128 - k)
at_written (stage.WriteWord m k) t count h = (m, k, refl, h.1)
at_written (stage.ReadWord m k) t count h = absurd (false≢true h.0)
at_written s t count h = absurd h

-- the job of a number has the part that is asked for, and waits for no other
pub part_there : (h : HeldJobs) (number place : ℕ) (t : Work) (P : SectorPart → Type 0) → place_of h.works number ≡ Some place → slice_get h.works place ≡ Some t → IsSomeAnd (part_of h number) P
    → (waits_in (may_keep h.kept) h.works (Some place) (Some t) ≡ false) × IsSomeAnd (part_at t.stage t) P
part_there h number place t P found here asked =
    by_test (waits_in (may_keep h.kept) h.works (Some place) (Some t)) refl
    (subst (λ (o : Option Work). IsSomeAnd (part_in (waits_in (may_keep h.kept) h.works (Some place) o) o) P) here
    (subst (λ (o : Option ℕ). IsSomeAnd (part_in (waits_in (may_keep h.kept) h.works o (work_at h.works o)) (work_at h.works o)) P) found asked))
  where
    by_test : (b : Bool) → waits_in (may_keep h.kept) h.works (Some place) (Some t) ≡ b → IsSomeAnd (part_in b (Some t)) P → (waits_in (may_keep h.kept) h.works (Some place) (Some t) ≡ false) × IsSomeAnd (part_at t.stage t) P
    by_test true is asked = absurd asked
    by_test false is asked = (is, asked)

-- what a job asks that waits for no other
asked_there : (h : HeldJobs) (number place : ℕ) (t : Work) → place_of h.works number ≡ Some place → slice_get h.works place ≡ Some t → waits_in (may_keep h.kept) h.works (Some place) (Some t) ≡ false
    → ask_keeping h number ≡ ask_in (may_keep h.kept) t
asked_there h number place t found here free =
    ap (λ (o : Option ℕ). asked_in (may_keep h.kept) (waits_in (may_keep h.kept) h.works o (work_at h.works o)) (work_at h.works o)) found
    ∙ (ap (λ (o : Option Work). asked_in (may_keep h.kept) (waits_in (may_keep h.kept) h.works (Some place) o) o) here
    ∙ ap (λ (b : Bool). asked_in (may_keep h.kept) b (Some t)) free)

begun_on : (works : List Work) (place : ℕ) (t : Work) (keeps : Bool) → is_fresh_in keeps t ≡ false → waits_in keeps works (Some place) (Some t) ≡ false
begun_on works place t keeps fresh = ap (λ (b : Bool). b && is_held_by (take place works) t) fresh

-- so after answers that leave it moving, where it isn't at its beginning
asked_later : (m : Mapping) (h : HeldJobs) (number place : ℕ) (t u : Work) (answers : List BackAnswer) → place_of h.works number ≡ Some place → slice_get h.works place ≡ Some t → Stays m t answers → steps_of t answers ≡ u
    → is_fresh_in (may_keep h.kept) u ≡ false → asked_after h number answers ≡ ask_in (may_keep h.kept) u
asked_later m h number place t u answers found here stays is fresh =
    let g : HeldJobs = record h { works = slice_set h.works place u } in
    let told : told_each h number answers ≡ g = told_stays m h number place t answers found here stays ∙ ap (λ (v : Work). record h { works = slice_set h.works place v }) is in
    let same : u.number ≡ t.number = ap (λ (v : Work). v.number) (sym is) ∙ ap (λ (f : Facts). f.0) (steps_facts t answers) in
    let there : place_of g.works number ≡ Some place = place_kept h.works number place t u here same ∙ found in
    let now : slice_get g.works place ≡ Some u = set_there h.works place u (slice_get_within h.works place t here) in
    ap (λ (x : HeldJobs). ask_keeping x number) told ∙ asked_there g number place u there now (begun_on g.works place u (may_keep h.kept) fresh)

read_asked : (keeps : Bool) (t : Work) (m : Mapping) (k : ℕ) → t.stage ≡ stage.ReadWord m k → ask_in keeps t ≡ ask.Read m (word_at t k)
read_asked true t m k at = ap (λ (s : JobStage). ask_with true s t) at
read_asked false t m k at = ap (λ (s : JobStage). ask_with false s t) at

write_asked : (keeps : Bool) (t : Work) (m : Mapping) (k : ℕ) → t.stage ≡ stage.WriteWord m k → ask_in keeps t ≡ ask.Write m (word_at t k) (slice_index t.words k)
write_asked true t m k at = ap (λ (s : JobStage). ask_with true s t) at
write_asked false t m k at = ap (λ (s : JobStage). ask_with false s t) at

-- after a word was read a job isn't at its beginning; nor where it writes one
read_on : (keeps : Bool) (t : Work) (m : Mapping) (k : ℕ) → t.stage ≡ stage.ReadWord m k → 0 < k → is_fresh_in keeps t ≡ false
read_on true t m k at some =
    let test : (k == 0) ≡ false = grind (arith, nat_tests) in
    ap (λ (s : JobStage). is_fresh_at s t.moved || has_only_taken s t.moved) at ∙ ap (λ (b : Bool). b && (t.moved == 0)) test
read_on false t m k at some = ap (λ (s : JobStage). is_fresh_at s t.moved) at

write_on : (keeps : Bool) (t : Work) (m : Mapping) (k : ℕ) → t.stage ≡ stage.WriteWord m k → is_fresh_in keeps t ≡ false
write_on true t m k at = ap (λ (s : JobStage). is_fresh_at s t.moved || has_only_taken s t.moved) at
write_on false t m k at = ap (λ (s : JobStage). is_fresh_at s t.moved) at

reads_asked : (h : HeldJobs) (number place : ℕ) (t : Work) (m : Mapping) (k : ℕ) (words : List ℕ) → place_of h.works number ≡ Some place → slice_get h.works place ≡ Some t → waits_in (may_keep h.kept) h.works (Some place) (Some t) ≡ false
    → t.stage ≡ stage.ReadWord m k → length words < 128 - k → asked_after h number (words_read words) ≡ ask.Read m (word_at t k + length words)
reads_asked h number place t m k [] found here free at fits =
    asked_there h number place t found here free ∙ (read_asked (may_keep h.kept) t m k at ∙ ap (ask.Read m) (sym (add-zero (word_at t k))))
reads_asked h number place t m k (word ∷ words) found here free at fits =
    let all : List ℕ = word ∷ words in
    let u : Work = record t { words = put_each t.words k all; stage = read_to m (k + length all) } in
    let is : steps_of t (words_read all) ≡ u = read_steps t m k all at (omega arith) (omega arith) in
    let now : u.stage ≡ stage.ReadWord m (k + length all) = read_before m (k + length all) (omega arith) in
    let sum : word_at t (k + length all) ≡ word_at t k + length all = omega arith in
    asked_later m h number place t u (words_read all) found here (reads_stay t m k all at (omega arith)) is (read_on (may_keep h.kept) u m (k + length all) now (omega arith))
    ∙ (read_asked (may_keep h.kept) u m (k + length all) now ∙ ap (ask.Read m) sum)

writes_asked : (h : HeldJobs) (number place : ℕ) (t : Work) (m : Mapping) (k j : ℕ) → place_of h.works number ≡ Some place → slice_get h.works place ≡ Some t
    → t.stage ≡ stage.WriteWord m k → j < 128 - k → asked_after h number (words_written j) ≡ ask.Write m (word_at t k + j) (slice_index (part_values h number) j)
writes_asked h number place t m k j found here at fits =
    let u : Work = record t { stage = stage.WriteWord m (k + j) } in
    let values : part_values h number ≡ drop k t.words = ap values_in (work_there h.works number place t found here) ∙ ap (λ (s : JobStage). values_at s t.words) at in
    let value : slice_index t.words (k + j) ≡ slice_index (part_values h number) j = sym (ap (λ (l : List ℕ). slice_index l j) values ∙ get_or-drop k t.words j 0) in
    let sum : word_at t (k + j) ≡ word_at t k + j = omega arith in
    asked_later m h number place t u (words_written j) found here (written_stay t m k j at fits) (written_steps t m k j at fits) (write_on (may_keep h.kept) u m (k + j) refl)
    ∙ (write_asked (may_keep h.kept) u m (k + j) refl
    ∙ (ap (λ n. ask.Write m n (slice_index t.words (k + j))) sum ∙ ap (ask.Write m (word_at t k + j)) value))

-- each word of a part is asked for in turn
pub asks_each : (h : HeldJobs) (number place : ℕ) (t : Work) (s : JobStage) → place_of h.works number ≡ Some place → slice_get h.works place ≡ Some t → waits_in (may_keep h.kept) h.works (Some place) (Some t) ≡ false → t.stage ≡ s
    → IfSome (part_at s t) (λ part. AsksEach part (part_values h number) (asked_after h number))
asks_each h number place t (stage.ReadWord m k) found here free at = record {
  reads = λ read words fits. reads_asked h number place t m k words found here free at fits;
  writes = λ written j fits. absurd (false≢true written);
}
asks_each h number place t (stage.WriteWord m k) found here free at = record {
  reads = λ read words fits. absurd (false≢true (sym read));
  writes = λ written j fits. writes_asked h number place t m k j found here at fits;
}
asks_each h number place t s found here free at = tt

-- what some answers make of a job that they leave moving
pub record Moved (m : Mapping) (t u : Work) : Type 0 where
  pub before : IsMoving m t.stage
  pub after : IsMoving m u.stage
  pub facts : facts_of u ≡ facts_of t

pub moved : (m : Mapping) (t u : Work) (answers : List BackAnswer) → Stays m t answers → u ≡ steps_of t answers → Moved m t u
moved m t u answers stays is = record {
  before = stays_first m t answers stays;
  after = rw is (stays_last m t answers stays);
  facts = ap facts_of is ∙ steps_facts t answers;
}

-- what is known of all jobs stays true
pub moved_kept : (ascending : Bool) (finished : List ℕ) (done room capacity listed size : ℕ) (works : List Work) (place : ℕ) (m : Mapping) (t u : Work) → IsKept ascending finished done room capacity listed size works → slice_get works place ≡ Some t → Moved m t u
    → IsKept ascending finished done room capacity listed size (slice_set works place u)
moved_kept ascending finished done room capacity listed size works place m t u kept here moves =
    told_kept ascending finished finished done done room capacity listed listed size works place u.number t u false kept here (moving_goes m t.stage moves.before) moves.facts (sym (moving_goes m u.stage moves.after)) refl refl (λ test. refl) (omega arith)

pub moved_first : (works : List Work) (place : ℕ) (m : Mapping) (t u : Work) (ordered barrier : ℕ) → AreFirst ordered barrier works → slice_get works place ≡ Some t → Moved m t u → AreFirst ordered barrier (slice_set works place u)
moved_first works place m t u ordered barrier first here moves =
    told_first works place t u ordered barrier first here (moving_goes m t.stage moves.before) moves.facts (moving_goes m u.stage moves.after)

pub moved_keeping : (kept : KeptMappings) (works : List Work) (place : ℕ) (m : Mapping) (t u : Work) → IsKeeping kept works → slice_get works place ≡ Some t → Moved m t u → IsKeeping kept (slice_set works place u)
moved_keeping kept works place m t u all here moves = record {
  keepable = all.keepable;
  writable = λ may.
      All-set (λ (w : Work). IsWritableAt w.stage) works place u
      (moving_writable m t.stage u.stage moves.before moves.after (writable_at works place t here (all.writable may)))
      (all.writable may);
}

pub moved_hands : (h : HeldJobs) (place : ℕ) (m : Mapping) (t u : Work) → slice_get h.works place ≡ Some t → Moved m t u → all_hands (record h { works = slice_set h.works place u }) ≡ all_hands h
moved_hands h place m t u here moves =
    ap (λ (l : List Mapping). l ++ mappings_of h.kept)
    (set_hands h.works place t u here (moving_hand m u.stage moves.after ∙ sym (moving_hand m t.stage moves.before)))

-- an ask for a word that is read, or written
abbrev IsRead : BackAsk → Type 0
IsRead (ask.Read m word) = Unit {0}
IsRead a = ⊥

abbrev IsWrite : BackAsk → Type 0
IsWrite (ask.Write m word value) = Unit {0}
IsWrite a = ⊥

word_read : (a : BackAsk) (word : ℕ) → IsRead a → MovesWord a (Word word)
word_read (ask.Read m place) word h = tt
word_read a word h = absurd h

word_written : (a : BackAsk) → IsWrite a → MovesWord a Done
word_written (ask.Write m place value) h = tt
word_written a h = absurd h

-- where each word of a part is asked for in turn, so many answers each move one
reads_move : {S : Type 0} (asked : S → BackAsk) (step : S → BackAnswer → S) (s : S) (count : ℕ) (words : List ℕ) → ((before : List ℕ) → length before < count → IsRead (asked (fold step s (words_read before)))) → length words ≤ count → MovesEach asked step s (words_read words)
reads_move asked step s count [] each fits = tt
reads_move asked step s count (word ∷ words) each fits =
    (word_read (asked s) word (each [] (omega arith)), reads_move asked step (step s (Word word)) (count - 1) words (λ before less. each (word ∷ before) (omega arith)) (omega arith))

writes_move : {S : Type 0} (asked : S → BackAsk) (step : S → BackAnswer → S) (s : S) (count most : ℕ) → ((j : ℕ) → j < most → IsWrite (asked (fold step s (words_written j)))) → count ≤ most → MovesEach asked step s (words_written count)
writes_move asked step s zero most each fits = tt
writes_move asked step s (suc count) most each fits =
    (word_written (asked s) (each 0 (omega arith)), writes_move asked step (step s Done) count (most - 1) (λ j less. each (suc j) (omega arith)) (omega arith))

pub each_read : {S : Type 0} (asked : S → BackAsk) (step : S → BackAnswer → S) (s : S) (part : SectorPart) (values words : List ℕ) → AsksEach part values (λ answers. asked (fold step s answers)) → IsReadPart part (length words) → MovesEach asked step s (words_read words)
each_read asked step s part values words asks reads =
    reads_move asked step s part.count words (λ before less. subst IsRead (sym (asks.reads reads.0 before less)) tt) reads.1

pub each_written : {S : Type 0} (asked : S → BackAsk) (step : S → BackAnswer → S) (s : S) (part : SectorPart) (values : List ℕ) (count : ℕ) → AsksEach part values (λ answers. asked (fold step s answers)) → IsWrittenPart part count → MovesEach asked step s (words_written count)
each_written asked step s part values count asks writes =
    writes_move asked step s count part.count (λ j less. subst IsWrite (sym (asks.writes writes.0 j less)) tt) writes.1

-- so it is for the job of a number
asks_of : (o : Option SectorPart) (values : List ℕ) (asked : List BackAnswer → BackAsk) (P : SectorPart → Type 0) → IfSome o (λ part. AsksEach part values asked) → IsSomeAnd o P → (part : SectorPart) × AsksEach part values asked × P part
asks_of None values asked P asks h = absurd h
asks_of (Some part) values asked P asks h = (part, asks, h)

-- an answer that moves a word has no effect
effect_at_moved : (s : JobStage) (t : Work) (a : BackAnswer) → MovesWord (ask_at s t) a → effect_at s t a ≡ None
effect_at_moved (stage.DiskWrite m) t a h = absurd h
effect_at_moved (stage.DiskRead m) t a h = absurd h
effect_at_moved stage.Flush t a h = absurd h
effect_at_moved (stage.Trim count) t a h = absurd h
effect_at_moved s t a h = refl

effect_moved : (keeps : Bool) (s : JobStage) (t : Work) (a : BackAnswer) → MovesWord (ask_with keeps s t) a → effect_at s t a ≡ None
effect_moved false s t a h = effect_at_moved s t a h
effect_moved true stage.Map t a h = refl
effect_moved true s t a h = effect_at_moved s t a h

effect_none : (keeps held : Bool) (o : Option Work) (a : BackAnswer) → MovesWord (asked_in keeps held o) a → effect_of o a ≡ None
effect_none keeps held None a h = refl
effect_none keeps true (Some t) a h = absurd h
effect_none keeps false (Some t) a h = effect_moved keeps t.stage t a h

pub no_effects : (h : HeldJobs) (number : ℕ) (answers : List BackAnswer) → JobMovesEach h number answers → HaveNoEffect h number answers
no_effects h number [] moves = tt
no_effects h number (a ∷ answers) moves = (
  effect_none (may_keep h.kept) (waits_in (may_keep h.kept) h.works (place_of h.works number) (work_of h.works number)) (work_of h.works number) a moves.0,
  no_effects (complete_keeping h number a) number answers moves.1,
)

-- the job of a number was told some answers, and moved
pub record Ran (h : HeldJobs) (number place : ℕ) (t u : Work) (answers : List BackAnswer) : Type 0 where
  pub mapping : Mapping
  pub moves : Moved mapping t u
  pub told : record h { works = slice_set h.works place u } ≡ told_each h number answers

ran : (m : Mapping) (h : HeldJobs) (number place : ℕ) (t u : Work) (answers : List BackAnswer) → place_of h.works number ≡ Some place → slice_get h.works place ≡ Some t → Stays m t answers → u ≡ steps_of t answers → Ran h number place t u answers
ran m h number place t u answers found here stays is = record {
  mapping = m;
  moves = moved m t u answers stays is;
  told = ap (λ (w : Work). record h { works = slice_set h.works place w }) is ∙ sym (told_stays m h number place t answers found here stays);
}

pub ran_reads : (h : HeldJobs) (number place : ℕ) (t u : Work) (words : List ℕ) → place_of h.works number ≡ Some place → slice_get h.works place ≡ Some t → IsSomeAnd (part_of h number) (λ part. IsReadPart part (length words)) → u ≡ steps_of t (words_read words)
    → Ran h number place t u (words_read words)
ran_reads h number place t u words found here asked is =
    let there = part_there h number place t (λ part. IsReadPart part (length words)) found here asked in
    let r = at_read t.stage t (length words) there.1 in
    ran r.0 h number place t u (words_read words) found here (reads_stay t r.0 r.1 words r.2 r.3) is

pub ran_writes : (h : HeldJobs) (number place : ℕ) (t u : Work) (count : ℕ) → place_of h.works number ≡ Some place → slice_get h.works place ≡ Some t → IsSomeAnd (part_of h number) (λ part. IsPassedPart part count) → u ≡ steps_of t (words_written count)
    → Ran h number place t u (words_written count)
ran_writes h number place t u count found here asked is =
    let there = part_there h number place t (λ part. IsPassedPart part count) found here asked in
    let r = at_written t.stage t count there.1 in
    ran r.0 h number place t u (words_written count) found here (written_stay t r.0 r.1 count r.2 r.3) is

-- each word of the part that is asked for is asked for in turn
pub asks_found : (h : HeldJobs) (number : ℕ) → IfSome (part_of h number) (λ part. AsksEach part (part_values h number) (asked_after h number))
asks_found h number = by_place (place_of h.works number) refl
  where
    by_work : (place : ℕ) (o : Option Work) → place_of h.works number ≡ Some place → slice_get h.works place ≡ o → (b : Bool) → waits_in (may_keep h.kept) h.works (Some place) o ≡ b → IfSome (part_in b o) (λ part. AsksEach part (part_values h number) (asked_after h number))
    by_work place None found here b is = tt
    by_work place (Some t) found here true is = tt
    by_work place (Some t) found here false is = asks_each h number place t t.stage found here is refl

    by_place : (o : Option ℕ) → place_of h.works number ≡ o → IfSome (part_of h number) (λ part. AsksEach part (part_values h number) (asked_after h number))
    by_place None found = subst (λ (o : Option ℕ). IfSome (part_in (waits_in (may_keep h.kept) h.works o (work_at h.works o)) (work_at h.works o)) (λ part. AsksEach part (part_values h number) (asked_after h number))) (sym found) tt
    by_place (Some place) found =
        subst (λ (o : Option ℕ). IfSome (part_in (waits_in (may_keep h.kept) h.works o (work_at h.works o)) (work_at h.works o)) (λ part. AsksEach part (part_values h number) (asked_after h number))) (sym found)
        (by_work place (slice_get h.works place) found refl (waits_in (may_keep h.kept) h.works (Some place) (slice_get h.works place)) refl)

-- so many single answers are to words that are asked for
pub job_reads : (h : HeldJobs) (number : ℕ) (words : List ℕ) → IsSomeAnd (part_of h number) (λ part. IsReadPart part (length words)) → JobMovesEach h number (words_read words)
job_reads h number words asked =
    let r = asks_of (part_of h number) (part_values h number) (asked_after h number) (λ part. IsReadPart part (length words)) (asks_found h number) asked in
    each_read (λ (g : HeldJobs). ask_keeping g number) (λ (g : HeldJobs) a. complete_keeping g number a) h r.0 (part_values h number) words r.1 r.2

pub job_writes : (h : HeldJobs) (number count : ℕ) → IsSomeAnd (part_of h number) (λ part. IsWrittenPart part count) → JobMovesEach h number (words_written count)
job_writes h number count asked =
    let r = asks_of (part_of h number) (part_values h number) (asked_after h number) (λ part. IsWrittenPart part count) (asks_found h number) asked in
    each_written (λ (g : HeldJobs). ask_keeping g number) (λ (g : HeldJobs) a. complete_keeping g number a) h r.0 (part_values h number) count r.1 r.2

-- the last of them is to a word that is written then
pub last_write : (h : HeldJobs) (number count : ℕ) → IsSomeAnd (part_of h number) (λ part. IsPassedPart part count) → MovesWord (asked_after h number (words_written count)) Done
last_write h number count asked =
    let r = asks_of (part_of h number) (part_values h number) (asked_after h number) (λ part. IsPassedPart part count) (asks_found h number) asked in
    subst (λ (a : BackAsk). MovesWord a Done) (sym (r.1.writes r.2.0 count r.2.1)) tt

-- it is allowed, and nothing comes or goes by it
pub move_allowed : (a : BackAsk) (given : BackAnswer) → MovesWord a given → IsAnswer a given
move_allowed (ask.Read m word) (Word value) h = tt
move_allowed (ask.Write m word value) Done h = tt
move_allowed a given h = absurd h

pub move_keeps : (a : BackAsk) (given : BackAnswer) (before after : List Mapping) → MovesWord a given → HandsKeep a given before after → IsPermutation before after
move_keeps (ask.Read m word) (Word value) before after h p = p
move_keeps (ask.Write m word value) Done before after h p = p
move_keeps a given before after h p = absurd h

pub move_leaves : (a : BackAsk) (given : BackAnswer) (before after : List Mapping) → MovesWord a given → HandsAfter a given before after → after ≡ before
move_leaves (ask.Read m word) (Word value) before after h p = p
move_leaves (ask.Write m word value) Done before after h p = p
move_leaves a given before after h p = absurd h

-- all but the last of some words leave one more
pub all_but_last : (o : Option SectorPart) (count : ℕ) → 0 < count → IsSomeAnd o (λ part. IsWrittenPart part count) → IsSomeAnd o (λ part. IsPassedPart part (count - 1))
all_but_last None count some h = absurd h
all_but_last (Some part) count some h = let fits = h.1 in (h.0, omega arith)

-- what one job names is among all that jobs hold
pub named_part : (works : List Work) (place : ℕ) (t : Work) (o : Option SectorPart) → slice_get works place ≡ Some t → IfSome o (λ part. NamesPart (hand_of t) part) → IfSome o (λ part. NamesPart (hands_in works) part)
named_part works place t None here names = tt
named_part works place t (Some part) here names = let among = named_in works place t (ask.Read part.mapping 0) here (names.0, omega arith) in (among.0, names.1)
