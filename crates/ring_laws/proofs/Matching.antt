-- Where each job that had its reply is matched with the one that the back answered, and one job more is due a reply, some job has none yet.
use Rattle.std.proofs.Common.{◌≡◌, ◌≢◌, ℕ, zero, suc, ◌==◌, Bool, true, false, List, [], ◌∷◌, ◌++◌, length, map, refl, ap, sym, ◌∙◌, subst, length-append, arith}
use Rattle.std.specs.List.{AllByRecursion}
use Rattle.std.proofs.lemmas.List.{map-append}
use Rattle.std.proofs.lemmas.Bool.Decides.{nat_tests}
use Rattle.ring_laws.proofs.Lists.{AreApart, all_first, all_second, all_both, all_pairs, all_of_map}
use Rattle.ring_laws.proofs.Works.{apart_first, apart_second, apart_without}
use Rattle.ring_laws.proofs.Due.{Answered}

-- the job that the rule finds for a reply, and what the back answered by it
pub record Matched : Type 0 where
  pub chosen : ℕ
  pub answer : Answered

abbrev pub chosen_of : Matched → ℕ
chosen_of m = m.chosen

abbrev pub answer_of : Matched → Answered
answer_of m = m.answer

abbrev pub job_in : Matched → ℕ
job_in m = let a : Answered = m.answer in a.job

abbrev pub jobs_in : List Matched → List ℕ
jobs_in matched = map job_in matched

-- a number that is taken out of the second list, and put after the first
around : (P : ℕ → Type 0) (xs front rest : List ℕ) (n : ℕ) → AllByRecursion P (xs ++ (front ++ n ∷ rest)) → AllByRecursion P ((xs ++ n ∷ []) ++ (front ++ rest))
around P xs front rest n all =
    let past = all_second P xs (front ++ n ∷ rest) all in
    let later = all_second P front (n ∷ rest) past in
    all_both P (xs ++ n ∷ []) (front ++ rest) (all_both P xs (n ∷ []) (all_first P xs (front ++ n ∷ rest) all) (later.0, tt)) (all_both P front rest (all_first P front (n ∷ rest) past) later.1)

pub moved : (xs front rest : List ℕ) (n : ℕ) → AreApart (xs ++ (front ++ n ∷ rest)) → AreApart ((xs ++ n ∷ []) ++ (front ++ rest))
moved [] front rest n apart = (all_both (λ (m : ℕ). m ≢ n) front rest (apart_first front rest n apart) (apart_second front rest n apart), apart_without front rest n apart)
moved (x ∷ xs) front rest n apart = (around (λ (m : ℕ). m ≢ x) xs front rest n apart.0, moved xs front rest n apart.1)

-- a job that was chosen for one of them, or for none
data Place (n : ℕ) (matched : List Matched) : Type 0 where
  nowhere : AllByRecursion (λ (m : Matched). m.chosen ≢ n) matched → Place n matched
  among : (front rest : List Matched) (m : Matched) → matched ≡ front ++ m ∷ rest → m.chosen ≡ n → Place n matched

place_in : (n : ℕ) (matched : List Matched) → Place n matched
place_in n [] = nowhere tt
place_in n (m ∷ matched) = by_test (m.chosen == n) refl (place_in n matched)
  where
    same : (a : ℕ) → (a == n) ≡ true → a ≡ n
    same a e = grind (arith, nat_tests)

    other : (a : ℕ) → (a == n) ≡ false → a ≢ n
    other a e is = grind (arith, nat_tests)

    by_test : (b : Bool) → (m.chosen == n) ≡ b → Place n matched → Place n (m ∷ matched)
    by_test true e p = among [] matched m refl (same m.chosen e)
    by_test false e (nowhere none) = nowhere (other m.chosen e, none)
    by_test false e (among front rest k is at) = among (m ∷ front) rest k (ap (λ (l : List Matched). m ∷ l) is) at

-- a job like these for which none of the replies was
pub record IsFree (G : ℕ → Type 0) (matched : List Matched) : Type 0 where
  pub job : ℕ
  pub good : G job
  pub other : AllByRecursion (λ (m : Matched). m.chosen ≢ job) matched

abbrev pub Passes : (ℕ → Type 0) → Matched → Type 0
Passes G m = G m.chosen → G (job_in m)

-- follow the matches from one job to the next: they end at a free one
pub free : (n : ℕ) (G : ℕ → Type 0) (matched : List Matched) (x : ℕ) → length matched ≡ n → AreApart (x ∷ jobs_in matched) → AllByRecursion (Passes G) matched → G x → IsFree G matched
free zero G [] x long apart each good = record { job = x; good = good; other = tt }
free zero G (m ∷ matched) x long apart each good = absurd (omega arith)
free (suc n) G matched x long apart each good = by_place (place_in x matched) (λ H fewer y less parted passing fine. free n H fewer y less parted passing fine)
  where
    by_place : Place x matched → ((H : ℕ → Type 0) (fewer : List Matched) (y : ℕ) → length fewer ≡ n → AreApart (y ∷ jobs_in fewer) → AllByRecursion (Passes H) fewer → H y → IsFree H fewer) → IsFree G matched
    by_place (nowhere none) later = record { job = x; good = good; other = none }
    by_place (among front rest m is at) later =
        let y : ℕ = job_in m in
        let H : ℕ → Type 0 = λ (k : ℕ). G k × (k ≢ x) in
        let split : jobs_in matched ≡ jobs_in front ++ job_in m ∷ jobs_in rest = ap jobs_in is ∙ map-append job_in front (m ∷ rest) in
        let passing : AllByRecursion (Passes G) (front ++ m ∷ rest) = subst (λ (l : List Matched). AllByRecursion (Passes G) l) is each in
        let others : AllByRecursion (λ (k : ℕ). k ≢ x) (jobs_in front ++ job_in m ∷ jobs_in rest) = subst (λ (ns : List ℕ). AllByRecursion (λ (k : ℕ). k ≢ x) ns) split apart.0 in
        let parted : AreApart (jobs_in front ++ job_in m ∷ jobs_in rest) = subst AreApart split apart.1 in
        let turned : AreApart (job_in m ∷ (jobs_in front ++ jobs_in rest)) = moved [] (jobs_in front) (jobs_in rest) (job_in m) parted in
        let joined : jobs_in front ++ jobs_in rest ≡ jobs_in (front ++ rest) = sym (map-append job_in front rest) in
        let past = all_second (λ (k : ℕ). k ≢ x) (jobs_in front) (job_in m ∷ jobs_in rest) others in
        let around_it : AllByRecursion (λ (k : ℕ). k ≢ x) (jobs_in (front ++ rest)) = subst (λ (ns : List ℕ). AllByRecursion (λ (k : ℕ). k ≢ x) ns) joined (all_both (λ (k : ℕ). k ≢ x) (jobs_in front) (jobs_in rest) (all_first (λ (k : ℕ). k ≢ x) (jobs_in front) (job_in m ∷ jobs_in rest) others) past.1) in
        let passing_after = all_second (Passes G) front (m ∷ rest) passing in
        let kept : AllByRecursion (Passes G) (front ++ rest) = all_both (Passes G) front rest (all_first (Passes G) front (m ∷ rest) passing) passing_after.1 in
        let more : AllByRecursion (Passes (λ (k : ℕ). G k × (k ≢ x))) (front ++ rest) =
        all_pairs (λ (u : Matched). job_in u ≢ x) (Passes G) (Passes (λ (k : ℕ). G k × (k ≢ x))) (front ++ rest) (λ u other p g. (p g.0, other)) (all_of_map (λ (k : ℕ). k ≢ x) job_in (front ++ rest) around_it) kept in
        let good_next : G (job_in m) = passing_after.0 (subst G (sym at) good) in
        let r : IsFree (λ (k : ℕ). G k × (k ≢ x)) (front ++ rest) = later (λ (k : ℕ). G k × (k ≢ x)) (front ++ rest) (job_in m) (fewer front rest m is) (subst (λ (ns : List ℕ). AreApart (job_in m ∷ ns)) joined turned) more (good_next, past.0) in
        let fine = r.good in
        let free_front = all_first (λ (u : Matched). u.chosen ≢ r.job) front rest r.other in
        let free_rest = all_second (λ (u : Matched). u.chosen ≢ r.job) front rest r.other in
        record {
          job = r.job;
          good = fine.0;
          other = subst (λ (l : List Matched). AllByRecursion (λ (u : Matched). u.chosen ≢ r.job) l) (sym is) (all_both (λ (u : Matched). u.chosen ≢ r.job) front (m ∷ rest) free_front (λ e. fine.1 (sym e ∙ at), free_rest));
        }
      where
        fewer : (f r : List Matched) (u : Matched) → matched ≡ f ++ u ∷ r → length (f ++ r) ≡ n
        fewer f r u e =
            let all : length matched ≡ length (f ++ u ∷ r) = ap (λ (l : List Matched). length l) e in
            let one = length-append f (u ∷ r) in
            let two = length-append f r in
            omega arith
