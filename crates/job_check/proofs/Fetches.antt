-- A word of an entry that the back reads: with the last one the entry's job is fetched.
use Rattle.std.proofs.Common.{◌≡◌, ℕ, ◌+◌, ◌-◌, ◌≤◌, ◌==◌, Bool, true, false, if◌then◌else◌, List, [], ◌∷◌, ◌++◌, length, length-append, refl, ap, sym, ◌∙◌, arith}
use Rattle.std.specs.Prelude.{slice_get, Option, Some, None, is_some, option_map}
use Rattle.std.proofs.lemmas.Bool.Decides.{nat_tests}
use Rattle.std.proofs.lemmas.Option.{slice_get_past, slice_get_within}
use Rattle.blk_layout.specs.declared.request.RawRequest.{RawRequest}
use Rattle.schedule_text.specs.declared.line.Line.{Line}
use Rattle.report_rules.specs.declared.job.Fetched.{Fetched}
use Rattle.report_rules.specs.Standing.{is_epoch}
use Rattle.report_rules.specs.Ring.{ring_pages, ring_abi}
use Rattle.report_rules.specs.Stretch.{Fetching, entry_of, fetched_with, with_words, fetching_of, entries_read}
use Rattle.report_rules.specs.Job.{job_in, fetched_of}
use Rattle.report_rules.proofs.Fetching.{job_other, job_last, job_before}
use Rattle.job_check.proofs.Entries.{value_on, IsFetching, fetched_still, IsRead, fetching_read}

-- ---- what is fetched after the word
read_part : (before : List Line) (line : Line) (value fetched : ℕ) (entry : List ℕ) → IsFetching before fetched entry → IsRead before line value → entry_of (ring_abi before) (entry ++ value ∷ []) ≡ None
    → fetching_of (before ++ line ∷ []) ≡ record { jobs = (fetching_of before).jobs; words = entry ++ value ∷ [] }
read_part before line value fetched entry is r none =
    fetching_read before line value r
    ∙ (ap (λ (ws : List ℕ). with_words (fetching_of before) (ws ++ value ∷ []) (option_map (fetched_with before) (entry_of (ring_abi before) (ws ++ value ∷ [])))) is.words
    ∙ ap (λ (o : Option RawRequest). with_words (fetching_of before) (entry ++ value ∷ []) (option_map (fetched_with before) o)) none)

read_whole : (before : List Line) (line : Line) (value fetched : ℕ) (entry : List ℕ) (request : RawRequest) → IsFetching before fetched entry → IsRead before line value → entry_of (ring_abi before) (entry ++ value ∷ []) ≡ Some request
    → fetching_of (before ++ line ∷ []) ≡ record { jobs = (fetching_of before).jobs ++ fetched_with before request ∷ []; words = [] }
read_whole before line value fetched entry request is r some =
    fetching_read before line value r
    ∙ (ap (λ (ws : List ℕ). with_words (fetching_of before) (ws ++ value ∷ []) (option_map (fetched_with before) (entry_of (ring_abi before) (ws ++ value ∷ [])))) is.words
    ∙ ap (λ (o : Option RawRequest). with_words (fetching_of before) (entry ++ value ∷ []) (option_map (fetched_with before) o)) some)

-- a word that isn't the last one
pub fetched_same : (before : List Line) (line : Line) (value fetched : ℕ) (entry : List ℕ) (k : ℕ) → IsFetching before fetched entry → IsRead before line value → entry_of (ring_abi before) (entry ++ value ∷ []) ≡ None
    → fetched_of (before ++ line ∷ []) k ≡ fetched_of before k
fetched_same before line value fetched entry k is r none = ap (λ (f : Fetching). job_in f.jobs k) (read_part before line value fetched entry is r none)

pub fetching_part : (before : List Line) (line : Line) (value fetched : ℕ) (entry : List ℕ) → IsFetching before fetched entry → IsRead before line value → entry_of (ring_abi before) (entry ++ value ∷ []) ≡ None
    → IsFetching (before ++ line ∷ []) fetched (entry ++ value ∷ [])
fetching_part before line value fetched entry is r none = record {
  count = ap (λ (f : Fetching). length f.jobs) (read_part before line value fetched entry is r none) ∙ is.count;
  words = ap (λ (f : Fetching). f.words) (read_part before line value fetched entry is r none);
}

-- the last word
pub fetched_other : (before : List Line) (line : Line) (value fetched : ℕ) (entry : List ℕ) (request : RawRequest) (k : ℕ) → IsFetching before fetched entry → IsRead before line value → entry_of (ring_abi before) (entry ++ value ∷ []) ≡ Some request
    → (k == fetched + 1) ≡ false → fetched_of (before ++ line ∷ []) k ≡ fetched_of before k
fetched_other before line value fetched entry request k is r some other =
    ap (λ (f : Fetching). job_in f.jobs k) (read_whole before line value fetched entry request is r some)
    ∙ job_other (fetching_of before).jobs (fetched_with before request) k (ap (λ (n : ℕ). k == n + 1) is.count ∙ other)

pub fetched_next : (before : List Line) (line : Line) (value fetched : ℕ) (entry : List ℕ) (request : RawRequest) → IsFetching before fetched entry → IsRead before line value → entry_of (ring_abi before) (entry ++ value ∷ []) ≡ Some request
    → fetched_of (before ++ line ∷ []) (fetched + 1) ≡ Some (fetched_with before request)
fetched_next before line value fetched entry request is r some =
    ap (λ (f : Fetching). job_in f.jobs (fetched + 1)) (read_whole before line value fetched entry request is r some)
    ∙ job_last (fetching_of before).jobs (fetched_with before request) (fetched + 1) (ap (λ (n : ℕ). n + 1) (sym is.count))

pub fetching_whole : (before : List Line) (line : Line) (value fetched : ℕ) (entry : List ℕ) (request : RawRequest) → IsFetching before fetched entry → IsRead before line value → entry_of (ring_abi before) (entry ++ value ∷ []) ≡ Some request
    → IsFetching (before ++ line ∷ []) (fetched + 1) []
fetching_whole before line value fetched entry request is r some = record {
  count = ap (λ (f : Fetching). length f.jobs) (read_whole before line value fetched entry request is r some) ∙ (length-append (fetching_of before).jobs _ ∙ ap (λ (n : ℕ). n + 1) is.count);
  words = ap (λ (f : Fetching). f.words) (read_whole before line value fetched entry request is r some);
}

-- the next job was not fetched before
pub next_unfetched : (before : List Line) (fetched : ℕ) (entry : List ℕ) → IsFetching before fetched entry → fetched_of before (fetched + 1) ≡ None
next_unfetched before fetched entry is =
    let some : (fetched + 1 == 0) ≡ false = grind (arith, nat_tests) in
    let count = is.count in
    ap (λ (b : Bool). if b then None else slice_get (fetching_of before).jobs (fetched + 1 - 1)) some ∙ slice_get_past (fetching_of before).jobs (fetched + 1 - 1) (omega arith)

-- ---- of any lines
-- a job that was fetched is one of the entries that were read
pub fetched_within : (before : List Line) (k : ℕ) → is_some (fetched_of before k) ≡ true → (1 ≤ k) × (k ≤ entries_read before)
fetched_within before k some = by_zero (k == 0) refl some
  where
    by_job : (o : Option Fetched) → (k == 0) ≡ false → slice_get (fetching_of before).jobs (k - 1) ≡ o → is_some o ≡ true → (1 ≤ k) × (k ≤ entries_read before)
    by_job None z e h = absurd (cc)
    by_job (Some f) z e h =
        let within = slice_get_within (fetching_of before).jobs (k - 1) f e in
        let first : 1 ≤ k = grind (arith, nat_tests) in
        (first, omega arith)

    by_zero : (b : Bool) → (k == 0) ≡ b → is_some (if b then None else slice_get (fetching_of before).jobs (k - 1)) ≡ true → (1 ≤ k) × (k ≤ entries_read before)
    by_zero true z h = absurd (cc)
    by_zero false z h = by_job (slice_get (fetching_of before).jobs (k - 1)) z refl h

-- what was fetched stays so in its epoch
pub unfetched_before : (before : List Line) (line : Line) (k : ℕ) → is_epoch line ≡ false → fetched_of (before ++ line ∷ []) k ≡ None → fetched_of before k ≡ None
unfetched_before before line k e none = by_value (value_on (ring_pages before) line) refl
  where
    by_job : (ws : List ℕ) (o : Option Fetched) → job_in (with_words (fetching_of before) ws o).jobs k ≡ None → fetched_of before k ≡ None
    by_job ws None h = h
    by_job ws (Some f) h = job_before (fetching_of before).jobs f k h

    by_value : (o : Option ℕ) → value_on (ring_pages before) line ≡ o → fetched_of before k ≡ None
    by_value None shows = sym (fetched_still before line k e (ap (λ (x : Option ℕ). is_some x) shows)) ∙ none
    by_value (Some value) shows =
        let after = fetching_read before line value (record { same = e; shows = shows }) in
        by_job ((fetching_of before).words ++ value ∷ []) (option_map (fetched_with before) (entry_of (ring_abi before) ((fetching_of before).words ++ value ∷ [])))
        (sym (ap (λ (f : Fetching). job_in f.jobs k) after) ∙ none)
