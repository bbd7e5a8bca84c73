-- Words of a sector that a job of the back moves many at once.
use Rattle.std.proofs.Common.{◌≡◌, ℕ, Bool, true, false, if◌then◌else◌, List, [], ◌∷◌, refl, sym, ap, ◌∙◌, subst}
use Rattle.std.specs.Prelude.{Option, Some, None, IfSome, IsPermutation, is_some}
use Rattle.std.specs.Option.{IsSomeAnd}
use Rattle.blk_base.specs.declared.ask.BackAsk.{BackAsk}
use Rattle.blk_base.specs.declared.ask.BackAsk.TheVariants as ask
use Rattle.blk_base.specs.declared.ask.BackAnswer.{BackAnswer}
use Rattle.back_jobs.specs.declared.part.SectorPart.{SectorPart}
use Rattle.back_jobs.specs.Jobs.{HeldJobs}
use Rattle.back_jobs.specs.Hands.{hands_in}
use Rattle.back_jobs.specs.Keeping.{ask_keeping, complete_keeping, all_hands}
use Rattle.back_jobs.specs.Part as jobs
use Rattle.back_jobs.specs.Part.{AsksEach, MovesWord, MovesEach, HaveNoEffect, NamesPart, part_values, told_each, asked_after}
use Rattle.back_jobs.proofs.Hands.{among}
use Rattle.back_jobs.proofs.Parts.{move_allowed, move_leaves}
use Rattle.blk_back.specs.declared.told.BackTold.{BackTold}
use Rattle.blk_back.specs.View.{View}
use Rattle.blk_back.specs.Step.{told_effect, job_ask_of, job_step}
use Rattle.blk_back.specs.Keeping.{job_ask_keeping, job_step_keeping, KeepsNone}
use Rattle.blk_back.specs.Part.{job_values, job_steps_keeping, job_asked_keeping, MovesEachKeeping, job_steps, job_asked, JobMovesEach}
use Rattle.blk_back.specs.Sound.{IsSound}
use Rattle.blk_back.specs.Hands.{aborted, hands_of, all_hands_of}
use Rattle.blk_back.proofs.Hands.{job_hands_after}
use Rattle.blk_back.proofs.Plain.{plain_job_ask, plain_job_step}
use Rattle.blk_back.proofs.Keeping.{beside}
use Rattle.blk_back.proofs.Sound.{told_sound}

-- a part is asked for only where the back hasn't halted
pub going : (halted : Bool) (o : Option SectorPart) (P : SectorPart → Type 0) → IsSomeAnd (if halted then None else o) P → (halted ≡ false) × IsSomeAnd o P
going true o P h = absurd h
going false o P h = (refl, h)

-- answers change nothing but the jobs and what is told
steps_jobs : (v : View) (number : ℕ) (answers : List BackAnswer) → (let w : View = job_steps_keeping v number answers in w.jobs) ≡ told_each v.jobs number answers
steps_jobs v number [] = refl
steps_jobs v number (a ∷ answers) = steps_jobs (job_step_keeping v number a) number answers

steps_halted : (v : View) (number : ℕ) (answers : List BackAnswer) → (let w : View = job_steps_keeping v number answers in w.halted) ≡ v.halted
steps_halted v number [] = refl
steps_halted v number (a ∷ answers) = steps_halted (job_step_keeping v number a) number answers

-- and where they do nothing to the request nothing is told
pub steps_quiet : (v new : View) (number : ℕ) (answers : List BackAnswer) → v.told ≡ None → HaveNoEffect v.jobs number answers → new ≡ record v { jobs = told_each v.jobs number answers } → new ≡ job_steps_keeping v number answers
steps_quiet v new number answers quiet none is = is ∙ sym (steps v answers quiet none)
  where
    steps : (v : View) (answers : List BackAnswer) → v.told ≡ None → HaveNoEffect v.jobs number answers → job_steps_keeping v number answers ≡ record v { jobs = told_each v.jobs number answers }
    steps v [] quiet none = refl
    steps v (a ∷ answers) quiet none =
        let w : View = job_step_keeping v number a in
        let still : w.told ≡ None = ap told_effect none.0 in
        steps w answers still none.1 ∙ ap (λ (o : Option BackTold). record v { jobs = told_each w.jobs number answers; told = o }) (still ∙ sym quiet)

-- the asks are those of the job
asked_is : (v : View) (number : ℕ) (answers : List BackAnswer) → is_some v.halted ≡ false → job_asked_keeping v number answers ≡ asked_after v.jobs number answers
asked_is v number answers goes =
    let w : View = job_steps_keeping v number answers in
    let still : is_some w.halted ≡ false = ap is_some (steps_halted v number answers) ∙ goes in
    ap (λ (b : Bool). if b then ask.Wait else ask_keeping w.jobs number) still ∙ ap (λ (h : HeldJobs). ask_keeping h number) (steps_jobs v number answers)

asks_kept : (v : View) (number : ℕ) (part : SectorPart) (values : List ℕ) → is_some v.halted ≡ false → AsksEach part values (asked_after v.jobs number) → AsksEach part values (job_asked_keeping v number)
asks_kept v number part values goes asks = record {
  reads = λ read words fits. asked_is v number (jobs.words_read words) goes ∙ asks.reads read words fits;
  writes = λ written j fits. asked_is v number (jobs.words_written j) goes ∙ asks.writes written j fits;
}

pub part_asks : (v : View) (number : ℕ) (o : Option SectorPart) → is_some v.halted ≡ false → IfSome o (λ part. AsksEach part (part_values v.jobs number) (asked_after v.jobs number)) → IfSome o (λ part. AsksEach part (job_values v number) (job_asked_keeping v number))
part_asks v number None goes asks = tt
part_asks v number (Some part) goes asks =
    subst (λ (b : Bool). AsksEach part (if b then [] else part_values v.jobs number) (job_asked_keeping v number)) (sym goes)
    (asks_kept v number part (part_values v.jobs number) goes asks)

pub part_names : (v : View) (o : Option SectorPart) → IfSome o (λ part. NamesPart (hands_in v.jobs.works) part) → IfSome o (λ part. NamesPart (hands_of v) part)
part_names v None names = tt
part_names v (Some part) names = (among part.mapping (aborted v.stage) v.pages (hands_in v.jobs.works) names.0, names.1)

pub steps_move : (v : View) (number : ℕ) (answers : List BackAnswer) → is_some v.halted ≡ false → jobs.JobMovesEach v.jobs number answers → MovesEachKeeping v number answers
steps_move v number [] goes moves = tt
steps_move v number (a ∷ answers) goes moves = (
  subst (λ (b : Bool). MovesWord (if b then ask.Wait else ask_keeping v.jobs number) a) (sym goes) moves.0,
  steps_move (job_step_keeping v number a) number answers goes moves.1,
)

-- what is known of the back stays true
pub steps_sound : (v : View) (now : HeldJobs) (number : ℕ) (answers : List BackAnswer) → now ≡ told_each v.jobs number answers → IsSound v → IsSound (record v { jobs = now })
steps_sound v now number answers is sound = subst (λ (h : HeldJobs). IsSound (record v { jobs = h })) (sym is) (steps v answers sound)
  where
    steps : (v : View) (answers : List BackAnswer) → IsSound v → IsSound (record v { jobs = told_each v.jobs number answers })
    steps v [] sound = sound
    steps v (a ∷ answers) sound =
        let one : HeldJobs = complete_keeping v.jobs number a in
        steps (record v { jobs = one }) answers (told_sound v one number a v.told refl sound)

-- nothing that is held or kept is lost
pub steps_entire : (v : View) (now : HeldJobs) → IsPermutation (all_hands v.jobs) (all_hands now) → IsPermutation (all_hands_of v) (all_hands_of (record v { jobs = now }))
steps_entire v now p = beside (aborted v.stage) v.pages (all_hands v.jobs) (all_hands now) p

-- where no mapping may be kept, none is after the answers
plain_none : (v : View) (number : ℕ) (answers : List BackAnswer) → KeepsNone v → KeepsNone (job_steps v number answers)
plain_none v number [] none = none
plain_none v number (a ∷ answers) none = plain_none (job_step v number a) number answers none

plain_steps : (v : View) (number : ℕ) (answers : List BackAnswer) → KeepsNone v → job_steps_keeping v number answers ≡ job_steps v number answers
plain_steps v number [] none = refl
plain_steps v number (a ∷ answers) none =
    ap (λ (w : View). job_steps_keeping w number answers) (plain_job_step v number a none) ∙ plain_steps (job_step v number a) number answers none

pub plain_moves : (v : View) (number : ℕ) (answers : List BackAnswer) → KeepsNone v → MovesEachKeeping v number answers → JobMovesEach v number answers
plain_moves v number [] none moves = tt
plain_moves v number (a ∷ answers) none moves = (
  subst (λ (x : BackAsk). MovesWord x a) (plain_job_ask v number none) moves.0,
  plain_moves (job_step v number a) number answers none (subst (λ (w : View). MovesEachKeeping w number answers) (plain_job_step v number a none) moves.1),
)

-- it does the same as without
pub record IsPlainRun (v new : View) (number : ℕ) (answers : List BackAnswer) : Type 0 where
  pub is : new ≡ job_steps v number answers
  pub keeps_none : KeepsNone new

pub plain_run : (v new : View) (number : ℕ) (answers : List BackAnswer) → KeepsNone v → new ≡ job_steps_keeping v number answers → IsPlainRun v new number answers
plain_run v new number answers none e =
    let is : new ≡ job_steps v number answers = e ∙ plain_steps v number answers none in
    record { is = is; keeps_none = subst KeepsNone (sym is) (plain_none v number answers none) }

plain_asked : (v : View) (number : ℕ) (answers : List BackAnswer) → KeepsNone v → job_asked v number answers ≡ job_asked_keeping v number answers
plain_asked v number answers none =
    sym (ap (λ (w : View). job_ask_keeping w number) (plain_steps v number answers none) ∙ plain_job_ask (job_steps v number answers) number (plain_none v number answers none))

pub plain_asks : (v : View) (number : ℕ) (values : List ℕ) (o : Option SectorPart) → KeepsNone v → IfSome o (λ part. AsksEach part values (job_asked_keeping v number)) → IfSome o (λ part. AsksEach part values (job_asked v number))
plain_asks v number values None none asks = tt
plain_asks v number values (Some part) none asks = record {
  reads = λ read words fits. plain_asked v number (jobs.words_read words) none ∙ asks.reads read words fits;
  writes = λ written j fits. plain_asked v number (jobs.words_written j) none ∙ asks.writes written j fits;
}

-- and nothing that is held comes or goes
pub steps_hands : (v : View) (number : ℕ) (answers : List BackAnswer) → JobMovesEach v number answers → hands_of (job_steps v number answers) ≡ hands_of v
steps_hands v number [] moves = refl
steps_hands v number (a ∷ answers) moves =
    steps_hands (job_step v number a) number answers moves.1
    ∙ move_leaves (job_ask_of v number) a (hands_of v) (hands_of (job_step v number a)) moves.0
    (job_hands_after v number a (move_allowed (job_ask_of v number) a moves.0))
