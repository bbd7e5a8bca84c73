-- A move of a job keeps what the lines tell of all.
use Rattle.std.proofs.Common.{◌≡◌, ◌≢◌, ℕ, ◌≤◌, ◌<◌, ◌==◌, Bool, true, false, List, [], ◌∷◌, ◌++◌, refl, ap, sym, ◌∙◌, subst, arith}
use Rattle.std.specs.Prelude.{Option, Some, None, is_some, slice_get}
use Rattle.std.specs.List.{AllByRecursion, list_any}
use Rattle.std.proofs.lemmas.Option.{none-some, get_or_from_slice_get}
use Rattle.std.proofs.lemmas.Bool.Decides.{nat_tests}
use Rattle.std.proofs.lemmas.List.{map-append}
use Rattle.std.proofs.lemmas.List.Quantifiers.{position-Some}
use Rattle.blk_base.specs.Options.{Options}
use Rattle.blk_base.specs.declared.moves.BackMover.TheVariants as mover
use Rattle.hypervisor.specs.Hypervisor.{Hypervisor}
use Rattle.hypervisor.specs.Act.{BackAct, Outcome, back_act}
use Rattle.schedule_text.specs.declared.line.Line.{Line}
use Rattle.schedule_text.specs.declared.line.Line.TheVariants as lines
use Rattle.report_rules.specs.Standing.{this_epoch}
use Rattle.back_jobs.specs.Work.{Work}
use Rattle.back_jobs.specs.Jobs.{place_of, work_at, asked, told_at as told_works, effect_of}
use Rattle.back_jobs.proofs.Hands.{IsAmong, place_among}
use Rattle.blk_back.specs.View.{View}
use Rattle.blk_back.specs.Step.{told_effect}
use Rattle.split_model.specs.Shown.{back_lines}
use Rattle.ring_laws.proofs.Began.{Terms}
use Rattle.ring_laws.proofs.Shows.{Shows}
use Rattle.ring_laws.proofs.Knows.{Follows}
use Rattle.ring_laws.proofs.Free.{AreFree}
use Rattle.ring_laws.proofs.JobLines.{is_of, IsAside}
use Rattle.ring_laws.proofs.Lists.{all_second}
use Rattle.ring_laws.proofs.Works.{AreJobs, numbers, number_of}
use Rattle.ring_laws.proofs.Fetched.{AreFetched}
use Rattle.ring_laws.proofs.JobTurn.{After, Turned, found_turn}
use Rattle.ring_laws.proofs.Tells.{Tells, terms_of, same_jobs, shows_free, unseen_then}
use Rattle.ring_laws.proofs.EntryWords.{entry_values}

-- a job that stands there has a number that was given
pub low_number : (terms : Terms) (values : List ℕ) (epoch : List Line) (fetched : ℕ) (works : List Work) (place : ℕ) (t : Work) → slice_get works place ≡ Some t → AreJobs terms values epoch fetched works → t.number ≤ fetched
low_number terms values epoch fetched works place t e jobs =
    let among : IsAmong works place t = place_among works place t e in
    let split : numbers works ≡ numbers among.front ++ t.number ∷ numbers among.rest = ap numbers among.is ∙ map-append number_of among.front (t ∷ among.rest) in
    (all_second (λ (n : ℕ). n ≤ fetched) (numbers among.front) (t.number ∷ numbers among.rest) (subst (λ (ns : List ℕ). AllByRecursion (λ (n : ℕ). n ≤ fetched) ns) split jobs.low)).0

-- the job that a number finds has it
pub found_number : (works : List Work) (k place : ℕ) (t : Work) → place_of works k ≡ Some place → slice_get works place ≡ Some t → t.number ≡ k
found_number works k place t at e =
    let test = position-Some (λ (u : Work). u.number == k) works place t at in
    let same = get_or_from_slice_get works place t t e in
    let is : (t.number == k) ≡ true = ap (λ (u : Work). u.number == k) (sym same) ∙ test.1 in
    equal t.number k is
  where
    equal : (a b : ℕ) → (a == b) ≡ true → a ≡ b
    equal a b e = grind (arith, nat_tests)

-- the lines of a move of a job, and the jobs after it
abbrev pub lines_of_job : Option Work → BackAct → List Line
lines_of_job found a = lines.Move a.shown ∷ back_lines (told_effect (effect_of found a.answer)) a.answer

-- what changes of the back at a move of a job
pub record JobTells (config : Options) (before ys : List Line) (v : View) (k : ℕ) (works : List Work) : Type 0 where
  pub after : After config before ys
  pub jobs : AreJobs (terms_of config v) (entry_values (before ++ ys)) (this_epoch (before ++ ys)) v.fetched works
  pub unseen : (n : ℕ) → v.fetched < n → list_any (is_of n) (this_epoch (before ++ ys)) ≡ false
  pub aside : (n : ℕ) → n ≢ k → IsAside n ys

pub job_tells : (config : Options) (start : ℕ) (before : List Line) (h : Hypervisor) (v : View) (k : ℕ) (o : Outcome) (a : BackAct) (place : Option ℕ) (waits : Bool) (found : Option Work)
    → place_of v.jobs.works k ≡ place → work_at v.jobs.works place ≡ found → is_some v.halted ≡ false → Follows start [] before v → AreFetched (terms_of config v) before → AreFree (is_some v.halted) (lines_of_job found a) → Tells config before v
    → back_act h (mover.Job k) (asked waits found) o ≡ Some a
    → JobTells config before (lines_of_job found a) v k (told_works v.jobs.works place found a.answer)
job_tells config start before h v k o a place waits None at is running f are free t e = absurd (none-some a e)
job_tells config start before h v k o a place true (Some work) at is running f are free t e = absurd (none-some a e)
job_tells config start before h v k o a None false (Some work) at is running f are free t e = absurd (none-some work is)
job_tells config start before h v k o a (Some place) false (Some work) at is running f are free t e =
    let jobs : AreJobs (terms_of config v) f.sight.values (this_epoch before) v.fetched v.jobs.works = same_jobs (terms_of config v) (entry_values before) f.sight.values (this_epoch before) (this_epoch before) v.fetched v.fetched v.jobs.works v.jobs.works f.shows.values refl refl refl (t.jobs running) in
    let number : work.number ≡ k = found_number v.jobs.works k place work at is in
    let low : work.number ≤ v.fetched = low_number (terms_of config v) f.sight.values (this_epoch before) v.fetched v.jobs.works place work is jobs in
    let turn : Turned (terms_of config v) before f.sight.values v.fetched k (lines_of_job (Some work) a) (told_works v.jobs.works (Some place) (Some work) a.answer) =
    found_turn (terms_of config v) before f.sight v.fetched k v.jobs.works h o a place work is number f.shows.values are free.0.other t.tale t.quiet jobs e in
    let longer : Shows (before ++ lines_of_job (Some work) a) f.sight = shows_free (is_some v.halted) (lines_of_job (Some work) a) before f.sight free f.shows in
    let after : After config before (lines_of_job (Some work) a) = turn.after in
    record {
      after = turn.after;
      jobs = same_jobs (terms_of config v) f.sight.values (entry_values (before ++ lines_of_job (Some work) a)) (this_epoch before ++ lines_of_job (Some work) a) (this_epoch (before ++ lines_of_job (Some work) a)) v.fetched v.fetched _ _ (sym longer.values) (sym after.epoch) refl refl turn.jobs;
      unseen = λ n above. let aside = turn.aside n (other n k v.fetched work.number above low number) in unseen_then n before (lines_of_job (Some work) a) after.epoch (t.unseen n above) aside.none;
      aside = turn.aside;
    }
  where
    other : (n k fetched w : ℕ) → fetched < n → w ≤ fetched → w ≡ k → n ≢ k
    other n k fetched w above low is e = omega arith
