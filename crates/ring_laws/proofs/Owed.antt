-- The jobs that the back answered or is answering: different ones, and none that it holds; each is over.
use Rattle.std.proofs.Common.{◌≡◌, ◌≢◌, ℕ, ◌+◌, ◌<◌, ◌≤◌, List, [], ◌∷◌, ◌++◌, remove, sym, ap, ◌∙◌, subst, arith, append_assoc, append-nil}
use Rattle.std.specs.Prelude.{Some, slice_get, slice_set}
use Rattle.std.specs.List.{AllByRecursion}
use Rattle.std.proofs.lemmas.List.{map-append}
use Rattle.schedule_text.specs.declared.line.Line.{Line}
use Rattle.back_jobs.specs.Work.{Work}
use Rattle.back_jobs.proofs.Hands.{IsAmong, place_among}
use Rattle.ring_laws.proofs.Began.{Terms, none_read}
use Rattle.ring_laws.proofs.JobLines.{IsAside}
use Rattle.ring_laws.proofs.Lists.{AreApart, all_first, all_both, all_more, all_pairs, all_of_map, apart_push}
use Rattle.ring_laws.proofs.Works.{numbers, number_of, apart_first, numbers_split}
use Rattle.ring_laws.proofs.Due.{IsWorkOver, Answered, job_answered, jobs_of}
use Rattle.ring_laws.proofs.Matching.{moved}
use Rattle.ring_laws.proofs.Over.{over_kept}

abbrev pub IsOwed : Terms → List ℕ → List Line → Answered → Type 0
IsOwed terms values epoch a = IsWorkOver terms values epoch a.job a.response

pub record Owes (terms : Terms) (values : List ℕ) (epoch : List Line) (fetched : ℕ) (works : List Work) (owed : List Answered) : Type 0 where
  pub each : AllByRecursion (IsOwed terms values epoch) owed
  pub apart : AreApart (jobs_of owed ++ numbers works)
  pub low : AllByRecursion (λ (n : ℕ). n ≤ fetched) (jobs_of owed)

pub nothing_owed : (terms : Terms) (values : List ℕ) (epoch : List Line) (fetched : ℕ) → Owes terms values epoch fetched [] []
nothing_owed terms values epoch fetched = record { each = tt; apart = tt; low = tt }

-- lines of others
pub owes_aside : (terms : Terms) (values more : List ℕ) (epoch ys : List Line) (fetched : ℕ) (works : List Work) (owed : List Answered) → ((k : ℕ) → IsAside k ys) → Owes terms values epoch fetched works owed → Owes terms (values ++ more) (epoch ++ ys) fetched works owed
owes_aside terms values more epoch ys fetched works owed aside o = record {
  each = all_more (IsOwed terms values epoch) (IsOwed terms (values ++ more) (epoch ++ ys)) owed (λ a over. over_kept terms values more epoch ys a.job a.response (aside a.job) over) o.each;
  apart = o.apart;
  low = o.low;
}

-- the numbers around one that is held are other ones
others_in : (xs front rest : List ℕ) (n : ℕ) → AreApart (xs ++ (front ++ n ∷ rest)) → AllByRecursion (λ (m : ℕ). m ≢ n) xs
others_in xs front rest n apart = all_first (λ (m : ℕ). m ≢ n) xs front (apart_first (xs ++ front) rest n (subst AreApart (sym (append_assoc xs front (n ∷ rest))) apart))

pub numbers_of : (works front rest : List Work) (t : Work) → works ≡ front ++ t ∷ rest → numbers works ≡ numbers front ++ t.number ∷ numbers rest
numbers_of works front rest t is = ap numbers is ∙ numbers_split front rest t

-- a job that is held moved
pub owes_told : (terms : Terms) (values : List ℕ) (epoch ys : List Line) (fetched : ℕ) (works : List Work) (owed : List Answered) (place : ℕ) (t new : Work) → slice_get works place ≡ Some t → new.number ≡ t.number → ((k : ℕ) → k ≢ t.number → IsAside k ys)
    → Owes terms values epoch fetched works owed → Owes terms values (epoch ++ ys) fetched (slice_set works place new) owed
owes_told terms values epoch ys fetched works owed place t new found same aside o =
    let among : IsAmong works place t = place_among works place t found in
    let split : numbers works ≡ numbers among.front ++ t.number ∷ numbers among.rest = numbers_of works among.front among.rest t among.is in
    let others = all_of_map (λ (m : ℕ). m ≢ t.number) job_answered owed (others_in (jobs_of owed) (numbers among.front) (numbers among.rest) t.number (subst (λ (ns : List ℕ). AreApart (jobs_of owed ++ ns)) split o.apart)) in
    let now : numbers works ≡ numbers (slice_set works place new) = split ∙ (ap (λ (n : ℕ). numbers among.front ++ n ∷ numbers among.rest) (sym same) ∙ (sym (map-append number_of among.front (new ∷ among.rest)) ∙ ap numbers (sym (among.set new)))) in
    record {
      each = all_pairs (λ (a : Answered). a.job ≢ t.number) (IsOwed terms values epoch) (IsOwed terms values (epoch ++ ys)) owed (λ a other over. kept a other over) others o.each;
      apart = subst (λ (ns : List ℕ). AreApart (jobs_of owed ++ ns)) now o.apart;
      low = o.low;
    }
  where
    kept : (a : Answered) → a.job ≢ t.number → IsOwed terms values epoch a → IsOwed terms values (epoch ++ ys) a
    kept a other over = subst (λ (vs : List ℕ). IsOwed terms vs (epoch ++ ys) a) (append-nil values) (over_kept terms values [] epoch ys a.job a.response (aside a.job other) over)

-- a job that is over is held no longer: its reply begins
pub owes_begun : (terms : Terms) (values : List ℕ) (epoch : List Line) (fetched : ℕ) (works : List Work) (owed : List Answered) (place : ℕ) (t : Work) (a : Answered) → slice_get works place ≡ Some t → a.job ≡ t.number → t.number ≤ fetched → IsOwed terms values epoch a
    → Owes terms values epoch fetched works owed → Owes terms values epoch fetched (remove works place) (owed ++ a ∷ [])
owes_begun terms values epoch fetched works owed place t a found is low over o =
    let among : IsAmong works place t = place_among works place t found in
    let split : numbers works ≡ numbers among.front ++ t.number ∷ numbers among.rest = numbers_of works among.front among.rest t among.is in
    let apart : AreApart ((jobs_of owed ++ t.number ∷ []) ++ (numbers among.front ++ numbers among.rest)) = moved (jobs_of owed) (numbers among.front) (numbers among.rest) t.number (subst (λ (ns : List ℕ). AreApart (jobs_of owed ++ ns)) split o.apart) in
    let jobs : jobs_of owed ++ t.number ∷ [] ≡ jobs_of (owed ++ a ∷ []) = ap (λ (n : ℕ). jobs_of owed ++ n ∷ []) (sym is) ∙ sym (map-append job_answered owed (a ∷ [])) in
    let left : numbers among.front ++ numbers among.rest ≡ numbers (remove works place) = sym (map-append number_of among.front among.rest) ∙ ap numbers (sym among.removed) in
    record {
      each = all_both (IsOwed terms values epoch) owed (a ∷ []) o.each (over, tt);
      apart = subst (λ (ns : List ℕ). AreApart (jobs_of (owed ++ a ∷ []) ++ ns)) left (subst (λ (ns : List ℕ). AreApart (ns ++ (numbers among.front ++ numbers among.rest))) jobs apart);
      low = subst (λ (ns : List ℕ). AllByRecursion (λ (n : ℕ). n ≤ fetched) ns) jobs (all_both (λ (n : ℕ). n ≤ fetched) (jobs_of owed) (t.number ∷ []) o.low (low, tt));
    }

-- a job begins, of the next number; those that are held have lower ones
pub owes_fetched : (terms : Terms) (values : List ℕ) (epoch : List Line) (fetched : ℕ) (works : List Work) (owed : List Answered) (t : Work) → t.number ≡ fetched + 1 → AllByRecursion (λ (n : ℕ). n ≤ fetched) (numbers works)
    → Owes terms values epoch fetched works owed → Owes terms values epoch (fetched + 1) (works ++ t ∷ []) owed
owes_fetched terms values epoch fetched works owed t is low o =
    let under = all_more (λ (n : ℕ). n ≤ fetched) (λ (n : ℕ). n < t.number) (jobs_of owed ++ numbers works) (λ n le. below n le) (all_both (λ (n : ℕ). n ≤ fetched) (jobs_of owed) (numbers works) o.low low) in
    let apart : AreApart ((jobs_of owed ++ numbers works) ++ t.number ∷ []) = apart_push (jobs_of owed ++ numbers works) t.number o.apart under in
    let now : (jobs_of owed ++ numbers works) ++ t.number ∷ [] ≡ jobs_of owed ++ numbers (works ++ t ∷ []) = append_assoc (jobs_of owed) (numbers works) (t.number ∷ []) ∙ ap (λ (ns : List ℕ). jobs_of owed ++ ns) (sym (map-append number_of works (t ∷ []))) in
    record {
      each = o.each;
      apart = subst AreApart now apart;
      low = all_more (λ (n : ℕ). n ≤ fetched) (λ (n : ℕ). n ≤ fetched + 1) (jobs_of owed) (λ n le. omega arith) o.low;
    }
  where
    below : (n : ℕ) → n ≤ fetched → n < t.number
    below n le = omega arith

-- before a word was read no job was answered, whatever the terms
pub owes_anew : (terms next : Terms) (values : List ℕ) (epoch : List Line) (fetched : ℕ) (works : List Work) (owed : List Answered) → values ≡ [] → Owes terms values epoch fetched works owed → Owes next values epoch fetched works owed
owes_anew terms next values epoch fetched works owed none o = record { each = all_more (IsOwed terms values epoch) (IsOwed next values epoch) owed (λ a over. absurd (none_read terms.abi a.job values none over.first over.read)) o.each; apart = o.apart; low = o.low }
