-- Many answers at once are that many single ones.
use Rattle.std.proofs.Common.{◌≡◌, ℕ, ◌≤◌, Bool, true, false, not, if◌then◌else◌, ◌==◌, List, [], ◌∷◌, refl, sym, ap, ◌∙◌, subst, arith}
use Rattle.std.specs.Prelude.{Option, Some, None, IfSome, IsPermutation, is_some, nat_le, ◌&&◌}
use Rattle.std.specs.Option.{IsSomeAnd}
use Rattle.std.proofs.lemmas.Bool.{false≢true}
use Rattle.std.proofs.lemmas.Bool.Decides.{nat_tests}
use Rattle.back_jobs.specs.declared.part.SectorPart.{SectorPart}
use Rattle.blk_back.specs.Hands.{all_hands_of}
use Rattle.blk_base.specs.declared.ask.BackAsk.{BackAsk}
use Rattle.blk_base.specs.declared.ask.BackAsk.TheVariants as ask
use Rattle.blk_base.specs.declared.ask.BackAnswer.{BackAnswer}
use Rattle.back_jobs.specs.Keeping.{ask_keeping}
use Rattle.back_jobs.specs.Part.{MovesWord, AsksEach, words_read, words_written, IsReadPart, IsWrittenPart}
use Rattle.back_jobs.proofs.Parts.{move_allowed, each_read, each_written, no_effects}
use Rattle.blk_back.specs.declared.told.BackTold.{BackTold}
use Rattle.blk_back.specs.View as ring
use Rattle.blk_back.specs.Step.{told_effect}
use Rattle.blk_back.specs.Keeping as keeping
use Rattle.vbd_back.specs.Ask as back_asks
use Rattle.vbd_back.specs.Part.{job_part, job_values}
use Rattle.vbd_back.specs.Keeping.{KeepingView, step_keeping, job_ask_keeping, job_step_keeping, job_steps_keeping, job_asked_keeping, with_ring, JobMovesEachKeeping}
use Rattle.vbd_c.specs.View.{View}
use Rattle.vbd_c.specs.Allowed.{back_allows, job_allows}
use Rattle.vbd_c.specs.Move.{ask_of, answered, allows, moved, stepped, told_by}
use Rattle.vbd_c.specs.Part.{part_of, values_of, takes, asked_after, answered_each, part_answered, ArePartAnswered}
use Rattle.vbd_c.proofs.Decided.{job_means}

unhalted : (halted : Bool) (x : BackAsk) (a : BackAnswer) → MovesWord (if halted then ask.Wait else x) a → MovesWord x a
unhalted true x a h = absurd h
unhalted false x a h = h

-- a word that is moved does nothing to the request, so nothing is told
step_quiet : (b : KeepingView) (job : ℕ) (a : BackAnswer) → MovesWord (job_ask_keeping b job) a → (let c : KeepingView = job_step_keeping b job a in c.ends.ring.told) ≡ None
step_quiet b job a h =
    let moves : MovesWord (ask_keeping b.ends.ring.jobs job) a = unhalted (is_some b.ends.ring.halted) (ask_keeping b.ends.ring.jobs job) a h in
    ap told_effect (no_effects b.ends.ring.jobs job (a ∷ []) (moves, tt)).0

told_none : (b : KeepingView) → b.ends.ring.told ≡ None → told_by b ≡ record { back = b; told = None }
told_none b quiet =
    let r : ring.View = b.ends.ring in
    ap (λ (o : Option BackTold). let v : View = record { back = with_ring b (record r { told = None }); told = o } in v) quiet
    ∙ ap (λ (o : Option BackTold). let v : View = record { back = with_ring b (record r { told = o }); told = None } in v) (sym quiet)

one_answered : (v : View) (job : ℕ) (a : BackAnswer) → (job == 0) ≡ false → v.told ≡ None → MovesWord (job_ask_keeping v.back job) a
    → answered v job a ≡ record { back = job_step_keeping v.back job a; told = None }
one_answered v job a other quiet moves =
    let allowed : allows v job a ≡ true =
    ap (λ (b : Bool). if b then back_allows (back_asks.ask_of v.back.ends) a else job_allows (job_ask_keeping v.back job) a) other
    ∙ (job_means (job_ask_keeping v.back job) a).1 (move_allowed (job_ask_keeping v.back job) a moves) in
    let step : stepped v job a ≡ job_step_keeping v.back job a = ap (λ (b : Bool). if b then step_keeping v.back a else job_step_keeping v.back job a) other in
    ap (λ (o : Option BackTold). if is_some o then v else (if allows v job a then moved v job a else v)) quiet
    ∙ (ap (λ (b : Bool). if b then moved v job a else v) allowed
    ∙ (ap told_by step ∙ told_none (job_step_keeping v.back job a) (step_quiet v.back job a moves)))

pub each_answered : (v : View) (job : ℕ) (answers : List BackAnswer) → (job == 0) ≡ false → v.told ≡ None → JobMovesEachKeeping v.back job answers
    → answered_each v job answers ≡ record { back = job_steps_keeping v.back job answers; told = None }
each_answered v job [] other quiet moves = ap (λ (o : Option BackTold). record v { told = o }) quiet
each_answered v job (a ∷ answers) other quiet moves =
    let w : View = record { back = job_step_keeping v.back job a; told = None } in
    ap (λ (x : View). answered_each x job answers) (one_answered v job a other quiet moves.0) ∙ each_answered w job answers other refl moves.1

quiet_of : {A : Type 0} (o : Option A) → is_some o ≡ false → o ≡ None
quiet_of None h = refl
quiet_of (Some x) h = absurd (false≢true (sym h))

-- a part that takes an answer is a job's
of_job : (is_back writes : Bool) (o : Option SectorPart) (count : ℕ) → takes (if is_back then None else o) writes count ≡ true → is_back ≡ false
of_job true writes o count h = absurd (false≢true h)
of_job false writes o count h = refl

-- so many answers are taken
pub part_done : (v new : View) (job : ℕ) (writes : Bool) (count : ℕ) (answers : List BackAnswer) → is_some v.told ≡ false → takes (part_of v job) writes count ≡ true → new ≡ record v { back = job_steps_keeping v.back job answers }
    → JobMovesEachKeeping v.back job answers → new ≡ answered_each v job answers
part_done v new job writes count answers quiet taken is moves =
    let none : v.told ≡ None = quiet_of v.told quiet in
    is ∙ (ap (λ (o : Option BackTold). let w : View = record { back = job_steps_keeping v.back job answers; told = o } in w) none
    ∙ sym (each_answered v job answers (of_job (job == 0) writes (job_part v.back.ends job) count taken) none moves))

pub part_held : (v new : View) (job : ℕ) (writes : Bool) (count : ℕ) (answers : List BackAnswer) → is_some v.told ≡ false → takes (part_of v job) writes count ≡ true → new ≡ answered_each v job answers → new ≡ part_answered v job writes count answers
part_held v new job writes count answers quiet taken is =
    is ∙ sym (ap (λ (b : Bool). if b then v else (if takes (part_of v job) writes count then answered_each v job answers else v)) quiet
    ∙ ap (λ (b : Bool). if b then answered_each v job answers else v) taken)

-- what is taken is what the part allows
read_fits : (written : Bool) (count most : ℕ) → (not written && nat_le count most) ≡ true → (written ≡ false) × (count ≤ most)
read_fits true count most h = absurd (false≢true h)
read_fits false count most h = (refl, le_of count most h)
  where
    le_of : (m n : ℕ) → nat_le m n ≡ true → m ≤ n
    le_of m n h = grind (arith, nat_tests)

write_fits : (written : Bool) (count most : ℕ) → (written && nat_le count most) ≡ true → (written ≡ true) × (count ≤ most)
write_fits false count most h = absurd (false≢true h)
write_fits true count most h = (refl, le_of count most h)
  where
    le_of : (m n : ℕ) → nat_le m n ≡ true → m ≤ n
    le_of m n h = grind (arith, nat_tests)

pub read_allowed : (o : Option SectorPart) (count : ℕ) → takes o false count ≡ true → IsSomeAnd o (λ part. IsReadPart part count)
read_allowed None count h = absurd (false≢true h)
read_allowed (Some part) count h = read_fits part.writes count part.count h

pub write_allowed : (o : Option SectorPart) (count : ℕ) → takes o true count ≡ true → IsSomeAnd o (λ part. IsWrittenPart part count)
write_allowed None count h = absurd (false≢true h)
write_allowed (Some part) count h = write_fits part.writes count part.count h

pub part_taken : (v new : View) (job : ℕ) (P : SectorPart → Type 0) (answers : List BackAnswer) → IsSomeAnd (part_of v job) P → new ≡ answered_each v job answers
    → IsPermutation (all_hands_of v.back.ends.ring) (all_hands_of new.back.ends.ring) → new.told ≡ v.told → ArePartAnswered v job P answers new
part_taken v new job P answers allowed is hands told = record {
  refused = λ no. absurd (no allowed);
  taken = λ quiet may. is;
  hands = hands;
  untold = told;
}

-- each word of a part is asked for in turn, also after single answers
asked_same : (v : View) (job : ℕ) (answers : List BackAnswer) → (job == 0) ≡ false → v.told ≡ None → JobMovesEachKeeping v.back job answers → asked_after v job answers ≡ job_asked_keeping v.back job answers
asked_same v job answers other quiet moves =
    let b : KeepingView = job_steps_keeping v.back job answers in
    ap (λ (w : View). ask_of w job) (each_answered v job answers other quiet moves) ∙ ap (λ (t : Bool). if t then back_asks.ask_of b.ends else job_ask_keeping b job) other

pub held_asks : (v : View) (job : ℕ) (o : Option SectorPart) → (job == 0) ≡ false → IfSome o (λ part. AsksEach part (job_values v.back.ends job) (job_asked_keeping v.back job)) → v.told ≡ None
    → IfSome o (λ part. AsksEach part (values_of v job) (asked_after v job))
held_asks v job None other asks quiet = tt
held_asks v job (Some part) other asks quiet =
    let values : List ℕ = job_values v.back.ends job in
    let asked : ring.View → BackAsk = λ r. keeping.job_ask_keeping r job in
    let step : ring.View → BackAnswer → ring.View = λ r a. keeping.job_step_keeping r job a in
    subst (λ (t : Bool). AsksEach part (if t then [] else values) (asked_after v job)) (sym other) (record {
      reads = λ read words fits.
          asked_same v job (words_read words) other quiet (each_read asked step v.back.ends.ring part values words asks (read, omega (arith, fits)))
          ∙ asks.reads read words fits;
      writes = λ written j fits.
          asked_same v job (words_written j) other quiet (each_written asked step v.back.ends.ring part values j asks (written, omega (arith, fits)))
          ∙ asks.writes written j fits;
    })
