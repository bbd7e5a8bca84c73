-- The jobs that the back holds: no two have one number, and each is as its entry says.
use Rattle.std.proofs.Common.{◌≡◌, ◌≢◌, ℕ, suc, zero, ◌+◌, ◌*◌, ◌<◌, ◌≤◌, List, [], ◌∷◌, ◌++◌, length, take, drop, map, remove, refl, ap, sym, ◌∙◌, subst, arith, length-append, length-drop, append-nil, ◌-◌}
use Rattle.std.specs.Prelude.{Option, Some, None, slice_get, slice_set}
use Rattle.std.specs.List.{AllByRecursion}
use Rattle.std.proofs.lemmas.List.{map-append, take-append-le, drop-append-le}
use Rattle.blk_base.specs.declared.operation.Abi.{Abi}
use Rattle.ring_words.specs.Shape.{entry_words_of}
use Rattle.blk_base.specs.declared.operation.Status.{Status}
use Rattle.schedule_text.specs.declared.line.Line.{Line}
use Rattle.blk_layout.specs.declared.request.RawRequest.{RawRequest}
use Rattle.blk_layout.specs.Entry.{request_of}
use Rattle.segment_list.specs.declared.verdict.DiskInfo.{DiskInfo}
use Rattle.report_rules.specs.declared.work.Task.{Task}
use Rattle.report_rules.specs.Job.{id_of}
use Rattle.back_jobs.specs.declared.stage.JobStage.{JobStage}
use Rattle.back_jobs.specs.Work.{Work}
use Rattle.back_jobs.specs.Jobs.{removed_at}
use Rattle.back_jobs.proofs.Hands.{IsAmong, place_among}
use Rattle.blk_back.specs.View.{info_of as back_info}
use Rattle.ring_laws.proofs.Lists.{AreApart, apart_push, all_first, all_second, all_both, all_more, all_pairs, all_of_map}
use Rattle.ring_laws.proofs.JobLines.{IsAside, read_by, read_aside}
use Rattle.ring_laws.proofs.Places.{ending_aside}
use Rattle.ring_laws.proofs.JobMoves.{at_aside}
use Rattle.ring_laws.proofs.Copies.{copying_aside}
use Rattle.ring_laws.proofs.Began.{Terms, entry_ends, none_read, request_at, IsDue, IsSettled, HasCome, serves, over, reads, IsJobOf}
use Rattle.ring_laws.proofs.EntryWords.{words_of_job}

abbrev pub number_of : Work → ℕ
number_of t = t.number

abbrev pub numbers : List Work → List ℕ
numbers works = map number_of works

-- the others around one have other numbers
pub apart_first : (xs ys : List ℕ) (n : ℕ) → AreApart (xs ++ n ∷ ys) → AllByRecursion (λ (m : ℕ). m ≢ n) xs
apart_first [] ys n apart = tt
apart_first (x ∷ xs) ys n apart =
    let here : n ≢ x = (all_second (λ (m : ℕ). m ≢ x) xs (n ∷ ys) apart.0).0 in
    (λ e. here (sym e), apart_first xs ys n apart.1)

pub apart_second : (xs ys : List ℕ) (n : ℕ) → AreApart (xs ++ n ∷ ys) → AllByRecursion (λ (m : ℕ). m ≢ n) ys
apart_second [] ys n apart = apart.0
apart_second (x ∷ xs) ys n apart = apart_second xs ys n apart.1

pub apart_without : (xs ys : List ℕ) (n : ℕ) → AreApart (xs ++ n ∷ ys) → AreApart (xs ++ ys)
apart_without [] ys n apart = apart.1
apart_without (x ∷ xs) ys n apart =
    (all_both (λ (m : ℕ). m ≢ x) xs ys (all_first (λ (m : ℕ). m ≢ x) xs (n ∷ ys) apart.0) (all_second (λ (m : ℕ). m ≢ x) xs (n ∷ ys) apart.0).1, apart_without xs ys n apart.1)

-- the jobs around one have other numbers
pub numbers_split : (front rest : List Work) (t : Work) → numbers (front ++ t ∷ rest) ≡ numbers front ++ t.number ∷ numbers rest
numbers_split front rest t = map-append number_of front (t ∷ rest)

pub others_before : (front rest : List Work) (t : Work) → AreApart (numbers (front ++ t ∷ rest)) → AllByRecursion (λ (u : Work). u.number ≢ t.number) front
others_before front rest t apart = all_of_map (λ (m : ℕ). m ≢ t.number) number_of front (apart_first (numbers front) (numbers rest) t.number (subst AreApart (numbers_split front rest t) apart))

pub others_after : (front rest : List Work) (t : Work) → AreApart (numbers (front ++ t ∷ rest)) → AllByRecursion (λ (u : Work). u.number ≢ t.number) rest
others_after front rest t apart = all_of_map (λ (m : ℕ). m ≢ t.number) number_of rest (apart_second (numbers front) (numbers rest) t.number (subst AreApart (numbers_split front rest t) apart))

-- the jobs by these words and these lines, of numbers up to this one
pub record AreJobs (terms : Terms) (values : List ℕ) (epoch : List Line) (fetched : ℕ) (works : List Work) : Type 0 where
  pub each : AllByRecursion (IsJobOf terms values epoch) works
  pub apart : AreApart (numbers works)
  pub low : AllByRecursion (λ (n : ℕ). n ≤ fetched) (numbers works)

pub no_jobs : (terms : Terms) (values : List ℕ) (epoch : List Line) (fetched : ℕ) → AreJobs terms values epoch fetched []
no_jobs terms values epoch fetched = record { each = tt; apart = tt; low = tt }

-- an entry that was read stays
pub entry_kept : (abi : Abi) (values more : List ℕ) (k : ℕ) → 1 ≤ k → entry_words_of abi * k ≤ length values → words_of_job (values ++ more) (entry_words_of abi) k ≡ words_of_job values (entry_words_of abi) k
entry_kept abi values more k first read =
    let size : ℕ = entry_words_of abi in
    let ends : (k - 1) * entry_words_of abi + entry_words_of abi ≡ entry_words_of abi * k = entry_ends abi k first in
    let from : (k - 1) * entry_words_of abi ≤ length values = omega arith in
    let long = length-drop ((k - 1) * entry_words_of abi) values in
    let enough : entry_words_of abi ≤ length (drop ((k - 1) * entry_words_of abi) values) = omega arith in
    ap (λ (l : List ℕ). take size l) (drop-append-le ((k - 1) * size) values more from) ∙ take-append-le size (drop ((k - 1) * size) values) more enough

come_aside : (request : RawRequest) (info : DiskInfo) (served : Status) (work : List Task) (k : ℕ) (epoch ys : List Line) (s : JobStage) (t : Work) → IsAside k ys → HasCome request info served work k epoch s t → HasCome request info served work k (epoch ++ ys) s t
come_aside request info served work k epoch ys s t aside (serves settled okay at) =
    serves (subst (λ (words : List ℕ). IsSettled request info words work served) (sym (read_aside k epoch ys aside.none)) settled) okay (at_aside work k epoch ys s t aside at)
come_aside request info served work k epoch ys s t aside (over status done ends) = over status done (ending_aside work k epoch ys served aside ∙ ends)
come_aside request info served work k epoch ys s t aside (reads copying) = reads (copying_aside request info k epoch ys s t aside copying)

-- others' lines leave a job as it is
pub job_kept : (terms : Terms) (values more : List ℕ) (epoch ys : List Line) (t : Work) → IsAside t.number ys → IsJobOf terms values epoch t → IsJobOf terms (values ++ more) (epoch ++ ys) t
job_kept terms values more epoch ys t aside j =
    let kept = entry_kept terms.abi values more t.number j.first j.read in
    let long = length-append values more in
    let read = j.read in
    record {
      work = j.work;
      served = j.served;
      first = j.first;
      read = omega arith;
      id = ap (λ (ws : List ℕ). id_of (request_of terms.abi ws)) kept ∙ j.id;
      plan = subst (λ (ws : List ℕ). IsDue (request_of terms.abi ws) (back_info terms.config) (read_by t.number (epoch ++ ys)) j.work j.served t.id t.op) (sym kept)
          (subst (λ (words : List ℕ). IsDue (request_at terms.abi values t.number) (back_info terms.config) words j.work j.served t.id t.op) (sym (read_aside t.number epoch ys aside.none)) j.plan);
      at = subst (λ (ws : List ℕ). HasCome (request_of terms.abi ws) (back_info terms.config) j.served j.work t.number (epoch ++ ys) t.stage t) (sym kept)
          (come_aside (request_at terms.abi values t.number) (back_info terms.config) j.served j.work t.number epoch ys t.stage t aside j.at);
    }

-- so it is with all, where the lines are no job's
pub jobs_kept : (terms : Terms) (values more : List ℕ) (epoch ys : List Line) (fetched : ℕ) (works : List Work) → ((k : ℕ) → IsAside k ys) → AreJobs terms values epoch fetched works → AreJobs terms (values ++ more) (epoch ++ ys) fetched works
jobs_kept terms values more epoch ys fetched works aside jobs = record {
  each = all_more (IsJobOf terms values epoch) (IsJobOf terms (values ++ more) (epoch ++ ys)) works (λ t j. job_kept terms values more epoch ys t (aside t.number) j) jobs.each;
  apart = jobs.apart;
  low = jobs.low;
}

-- without one of them
pub jobs_removed : (terms : Terms) (values : List ℕ) (epoch : List Line) (fetched : ℕ) (works : List Work) (place : Option ℕ) → AreJobs terms values epoch fetched works → AreJobs terms values epoch fetched (removed_at works place)
jobs_removed terms values epoch fetched works None jobs = jobs
jobs_removed terms values epoch fetched works (Some place) jobs = by_found (slice_get works place) refl
  where
    by_found : (found : Option Work) → slice_get works place ≡ found → AreJobs terms values epoch fetched (remove works place)
    by_found None e = subst (λ (l : List Work). AreJobs terms values epoch fetched l) (sym (none_removed works place e)) jobs
      where
        none_removed : (ws : List Work) (i : ℕ) → slice_get ws i ≡ None → remove ws i ≡ ws
        none_removed [] zero h = refl
        none_removed [] (suc i) h = refl
        none_removed (w ∷ ws) zero h = absurd (cc)
        none_removed (w ∷ ws) (suc i) h = ap (λ (l : List Work). w ∷ l) (none_removed ws i h)
    by_found (Some t) e =
        let among : IsAmong works place t = place_among works place t e in
        let each : AllByRecursion (IsJobOf terms values epoch) (among.front ++ t ∷ among.rest) = subst (λ (l : List Work). AllByRecursion (IsJobOf terms values epoch) l) among.is jobs.each in
        let split : numbers works ≡ numbers among.front ++ t.number ∷ numbers among.rest = ap numbers among.is ∙ map-append number_of among.front (t ∷ among.rest) in
        let apart : AreApart (numbers among.front ++ t.number ∷ numbers among.rest) = subst AreApart split jobs.apart in
        let low : AllByRecursion (λ (n : ℕ). n ≤ fetched) (numbers among.front ++ t.number ∷ numbers among.rest) = subst (λ (ns : List ℕ). AllByRecursion (λ (n : ℕ). n ≤ fetched) ns) split jobs.low in
        let left : numbers among.front ++ numbers among.rest ≡ numbers (among.front ++ among.rest) = sym (map-append number_of among.front among.rest) in
        subst (λ (l : List Work). AreJobs terms values epoch fetched l) (sym among.removed)
        (record {
          each = all_both (IsJobOf terms values epoch) among.front among.rest (all_first (IsJobOf terms values epoch) among.front (t ∷ among.rest) each) (all_second (IsJobOf terms values epoch) among.front (t ∷ among.rest) each).1;
          apart = subst AreApart left (apart_without (numbers among.front) (numbers among.rest) t.number apart);
          low = subst (λ (ns : List ℕ). AllByRecursion (λ (n : ℕ). n ≤ fetched) ns) left (all_both (λ (n : ℕ). n ≤ fetched) (numbers among.front) (numbers among.rest) (all_first (λ (n : ℕ). n ≤ fetched) (numbers among.front) (t.number ∷ numbers among.rest) low) (all_second (λ (n : ℕ). n ≤ fetched) (numbers among.front) (t.number ∷ numbers among.rest) low).1);
        })

-- with one more, of the next number
pub jobs_added : (terms : Terms) (values : List ℕ) (epoch : List Line) (fetched : ℕ) (works : List Work) (t : Work) → t.number ≡ fetched + 1 → IsJobOf terms values epoch t → AreJobs terms values epoch fetched works → AreJobs terms values epoch (fetched + 1) (works ++ t ∷ [])
jobs_added terms values epoch fetched works t is j jobs =
    let split : numbers works ++ t.number ∷ [] ≡ numbers (works ++ t ∷ []) = sym (map-append number_of works (t ∷ [])) in
    record {
      each = all_both (IsJobOf terms values epoch) works (t ∷ []) jobs.each (j, tt);
      apart = subst AreApart split (apart_push (numbers works) t.number jobs.apart (all_more (λ (n : ℕ). n ≤ fetched) (λ (n : ℕ). n < t.number) (numbers works) (λ n le. under n le) jobs.low));
      low = subst (λ (ns : List ℕ). AllByRecursion (λ (n : ℕ). n ≤ fetched + 1) ns) split (all_both (λ (n : ℕ). n ≤ fetched + 1) (numbers works) (t.number ∷ []) (all_more (λ (n : ℕ). n ≤ fetched) (λ (n : ℕ). n ≤ fetched + 1) (numbers works) (λ n le. omega arith) jobs.low) (omega arith, tt));
    }
  where
    under : (n : ℕ) → n ≤ fetched → n < t.number
    under n le = omega arith

-- one of them moved: the lines are its own, and no other's
pub jobs_told : (terms : Terms) (values : List ℕ) (epoch ys : List Line) (fetched : ℕ) (works : List Work) (place : ℕ) (t new : Work) → slice_get works place ≡ Some t → new.number ≡ t.number → ((k : ℕ) → k ≢ t.number → IsAside k ys)
    → IsJobOf terms values (epoch ++ ys) new → AreJobs terms values epoch fetched works → AreJobs terms values (epoch ++ ys) fetched (slice_set works place new)
jobs_told terms values epoch ys fetched works place t new e same aside j jobs =
    let among : IsAmong works place t = place_among works place t e in
    let each : AllByRecursion (IsJobOf terms values epoch) (among.front ++ t ∷ among.rest) = subst (λ (l : List Work). AllByRecursion (IsJobOf terms values epoch) l) among.is jobs.each in
    let split : numbers works ≡ numbers among.front ++ t.number ∷ numbers among.rest = ap numbers among.is ∙ map-append number_of among.front (t ∷ among.rest) in
    let apart : AreApart (numbers (among.front ++ t ∷ among.rest)) = subst (λ (l : List Work). AreApart (numbers l)) among.is jobs.apart in
    let before = others_before among.front among.rest t apart in
    let after = others_after among.front among.rest t apart in
    let now : numbers works ≡ numbers (among.front ++ new ∷ among.rest) = split ∙ (ap (λ (n : ℕ). numbers among.front ++ n ∷ numbers among.rest) (sym same) ∙ sym (map-append number_of among.front (new ∷ among.rest))) in
    subst (λ (l : List Work). AreJobs terms values (epoch ++ ys) fetched l) (sym (among.set new))
    (record {
      each = all_both (IsJobOf terms values (epoch ++ ys)) among.front (new ∷ among.rest)
          (all_pairs (λ (u : Work). u.number ≢ t.number) (IsJobOf terms values epoch) (IsJobOf terms values (epoch ++ ys)) among.front (λ u other k. kept u other k) before (all_first (IsJobOf terms values epoch) among.front (t ∷ among.rest) each))
          (j, all_pairs (λ (u : Work). u.number ≢ t.number) (IsJobOf terms values epoch) (IsJobOf terms values (epoch ++ ys)) among.rest (λ u other k. kept u other k) after (all_second (IsJobOf terms values epoch) among.front (t ∷ among.rest) each).1);
      apart = subst AreApart now jobs.apart;
      low = subst (λ (ns : List ℕ). AllByRecursion (λ (n : ℕ). n ≤ fetched) ns) now jobs.low;
    })
  where
    kept : (u : Work) → u.number ≢ t.number → IsJobOf terms values epoch u → IsJobOf terms values (epoch ++ ys) u
    kept u other k = subst (λ (vs : List ℕ). IsJobOf terms vs (epoch ++ ys) u) (append-nil values) (job_kept terms values [] epoch ys u (aside u.number other) k)

-- the job that stands there
pub job_found : (terms : Terms) (values : List ℕ) (epoch : List Line) (fetched : ℕ) (works : List Work) (place : ℕ) (t : Work) → slice_get works place ≡ Some t → AreJobs terms values epoch fetched works → IsJobOf terms values epoch t
job_found terms values epoch fetched works place t e jobs =
    let among : IsAmong works place t = place_among works place t e in
    (all_second (IsJobOf terms values epoch) among.front (t ∷ among.rest) (subst (λ (l : List Work). AllByRecursion (IsJobOf terms values epoch) l) among.is jobs.each)).0

-- before a word was read no job is held, whatever the terms
pub jobs_anew : (terms next : Terms) (values : List ℕ) (epoch : List Line) (fetched : ℕ) (works : List Work) → values ≡ [] → AreJobs terms values epoch fetched works → AreJobs next values epoch fetched works
jobs_anew terms next values epoch fetched works none jobs = record { each = all_more (IsJobOf terms values epoch) (IsJobOf next values epoch) works (λ t j. absurd (none_read terms.abi t.number values none j.first j.read)) jobs.each; apart = jobs.apart; low = jobs.low }
