-- What one line makes of how often the plain disk has a request submitted and answered.
use Rattle.std.proofs.Common.{◌≡◌, ◌≢◌, ℕ, zero, suc, ◌+◌, ◌-◌, ◌≤◌, ◌==◌, ◌&&◌, Bool, true, false, cond, if◌then◌else◌, List, [], ◌∷◌, ◌++◌, length, map, refl, ap, sym, ◌∙◌, subst, arith}
use Rattle.std.specs.Prelude.{Option, Some, None, option_map, slice_get, nat_lt}
use Rattle.std.proofs.lemmas.Bool.{and_parts}
use Rattle.std.proofs.lemmas.Bool.Decides.{nat_tests}
use Rattle.std.proofs.lemmas.Option.{none-some, same_Some, cond_some, slice_get-map, slice_get_past}
use Rattle.blk_base.specs.declared.config.Submission.{Submission}
use Rattle.blk_base.specs.declared.operation.Status.{Status}
use Rattle.schedule_text.specs.declared.line.Line.{Line}
use Rattle.schedule_text.specs.declared.line.Line.TheVariants as lines
use Rattle.plain_disk.specs.declared.request.DiskRequest.{DiskRequest}
use Rattle.plain_disk.specs.declared.request.RequestStage.{RequestStage}
use Rattle.plain_disk.specs.declared.request.RequestStage.TheVariants.{Open, Telling, Finished}
use Rattle.plain_disk.specs.Request.{opened, is_read, is_open, places_of}
use Rattle.plain_disk.specs.Disk.{Disk, request_of}
use Rattle.plain_disk.specs.Step.{step, effect_of, read_of, flushed_of, trimmed_of, fault_of, replied_of, answered_of, data_of, with_request, told_stage, next_stage, is_next, is_okay, reopened}
use Rattle.pipeline_laws.specs.Answered.{is_submission_of, is_answer_of}
use Rattle.pipeline_laws.proofs.Lists.{get_set_here, get_set_other, get_last}
use Rattle.pipeline_laws.proofs.PlainRuns.{request_at}

-- how often a request was submitted, and how often it was answered, by what the plain disk keeps of it
abbrev pub submitted_on : Option DiskRequest → ℕ
submitted_on None = 0
submitted_on (Some r) = 1

abbrev pub answered_on : Option DiskRequest → ℕ
answered_on None = 0
answered_on (Some r) = cond (is_open r.stage) 0 1

-- a line changes what is kept of a request as it counts for it
pub record IsCounted (line : Line) (id : ℕ) (old new : Option DiskRequest) : Type 0 where
  pub submitted : submitted_on new ≡ submitted_on old + cond (is_submission_of id line) 1 0
  pub answered : answered_on new ≡ answered_on old + cond (is_answer_of id line) 1 0

-- a line that counts for none
counts_none : (line : Line) (id : ℕ) (o : Option DiskRequest) → is_submission_of id line ≡ false → is_answer_of id line ≡ false → IsCounted line id o o
counts_none line id o s a = record { submitted = rw s (omega arith); answered = rw a (omega arith) }

stays_open : (line : Line) (id : ℕ) (r r' : DiskRequest) → is_submission_of id line ≡ false → is_answer_of id line ≡ false → is_open r'.stage ≡ is_open r.stage → IsCounted line id (Some r) (Some r')
stays_open line id r r' s a e = record { submitted = rw s refl; answered = rw (a, e) (omega arith) }

-- the request of a number, after one was set anew and after one more
pub number_at : (requests : List DiskRequest) (id : ℕ) (r : DiskRequest) → request_of requests id ≡ Some r → (1 ≤ id) × (slice_get requests (id - 1) ≡ Some r)
number_at requests id r e = by_zero (id == 0) refl e
  where
    by_zero : (b : Bool) → (id == 0) ≡ b → (if b then None else slice_get requests (id - 1)) ≡ Some r → (1 ≤ id) × (slice_get requests (id - 1) ≡ Some r)
    by_zero true t e = absurd (none-some r e)
    by_zero false t e = (grind (arith, nat_tests), e)

set_here : (requests : List DiskRequest) (id : ℕ) (r r' : DiskRequest) → request_of requests id ≡ Some r → request_of (with_request requests id r') id ≡ Some r'
set_here requests id r r' e =
    let at = number_at requests id r e in
    request_at (with_request requests id r') id r' at.0 (get_set_here requests (id - 1) r r' at.1)

set_other : (requests : List DiskRequest) (n id : ℕ) (r' : DiskRequest) → 1 ≤ n → n ≢ id → request_of (with_request requests n r') id ≡ request_of requests id
set_other requests n id r' positive apart = by_zero (id == 0) refl
  where
    by_zero : (b : Bool) → (id == 0) ≡ b → (if b then None else slice_get (with_request requests n r') (id - 1)) ≡ (if b then None else slice_get requests (id - 1))
    by_zero true t = refl
    by_zero false t =
        let other : 1 ≤ id = grind (arith, nat_tests) in
        get_set_other requests (n - 1) (id - 1) r' (omega arith)

get_append_other : (requests : List DiskRequest) (q : DiskRequest) (i : ℕ) → i ≢ length requests → slice_get (requests ++ q ∷ []) i ≡ slice_get requests i
get_append_other [] q zero other = absurd (other refl)
get_append_other [] q (suc i) other = refl
get_append_other (r ∷ requests) q zero other = refl
get_append_other (r ∷ requests) q (suc i) other = get_append_other requests q i (λ e. other (ap suc e))

none_past : (requests : List DiskRequest) (id : ℕ) → length requests + 1 ≤ id → request_of requests id ≡ None
none_past requests id past = by_zero (id == 0)
  where
    by_zero : (b : Bool) → (if b then None else slice_get requests (id - 1)) ≡ None
    by_zero true = refl
    by_zero false = slice_get_past requests (id - 1) (omega arith)

append_other : (requests : List DiskRequest) (q : DiskRequest) (id : ℕ) → length requests + 1 ≢ id → request_of (requests ++ q ∷ []) id ≡ request_of requests id
append_other requests q id apart = by_zero (id == 0) refl
  where
    by_zero : (b : Bool) → (id == 0) ≡ b → (if b then None else slice_get (requests ++ q ∷ []) (id - 1)) ≡ (if b then None else slice_get requests (id - 1))
    by_zero true t = refl
    by_zero false t =
        let other : 1 ≤ id = grind (arith, nat_tests) in
        get_append_other requests q (id - 1) (omega arith)

-- a line that changes one request
one_changes : (line : Line) (requests : List DiskRequest) (n id : ℕ) (r r' : DiskRequest) → request_of requests n ≡ Some r
    → IsCounted line n (Some r) (Some r') → (n ≢ id → (is_submission_of id line ≡ false) × (is_answer_of id line ≡ false))
    → IsCounted line id (request_of requests id) (request_of (with_request requests n r') id)
one_changes line requests n id r r' at counted others = by_test (n == id) refl
  where
    by_test : (b : Bool) → (n == id) ≡ b → IsCounted line id (request_of requests id) (request_of (with_request requests n r') id)
    by_test true t =
        let same : n ≡ id = grind (arith, nat_tests) in
        subst (λ (i : ℕ). IsCounted line i (request_of requests i) (request_of (with_request requests n r') i)) same
        (subst (λ (o : Option DiskRequest). IsCounted line n o (request_of (with_request requests n r') n)) (sym at)
        (subst (λ (o : Option DiskRequest). IsCounted line n (Some r) o) (sym (set_here requests n r r' at)) counted))
    by_test false t =
        let apart : n ≢ id = grind (arith, nat_tests) in
        let is = others apart in
        subst (λ (o : Option DiskRequest). IsCounted line id (request_of requests id) o) (sym (set_other requests n id r' (number_at requests n r at).0 apart))
        (counts_none line id (request_of requests id) is.0 is.1)

-- the disk after a test, where there is one
where_passed : (P : Disk → Type 0) (b : Bool) (x d' : Disk) → (b ≡ true → P x) → (if b then Some x else None) ≡ Some d' → P d'
where_passed P b x d' holds e = let both = cond_some b x d' e in subst P both.1 (holds both.0)

-- each kind of line
abbrev Counts : Line → ℕ → Disk → Disk → Type 0
Counts line id d d' = IsCounted line id (request_of d.requests id) (request_of d'.requests id)

all_stay : (line : Line) (id : ℕ) (d d' : Disk) → is_submission_of id line ≡ false → is_answer_of id line ≡ false → d'.requests ≡ d.requests → Counts line id d d'
all_stay line id d d' s a same = subst (λ (rs : List DiskRequest). IsCounted line id (request_of d.requests id) (request_of rs id)) (sym same) (counts_none line id (request_of d.requests id) s a)

submit_counts : (d d' : Disk) (n id : ℕ) (submission : Submission) → step d (lines.Submit n submission) ≡ Some d' → Counts (lines.Submit n submission) id d d'
submit_counts d d' n id submission e = where_passed (Counts (lines.Submit n submission) id d) _ _ d' (λ t. by_test (numbered t) (n == id) refl) e
  where
    numbered : (n == length d.requests + 1) ≡ true → n ≡ length d.requests + 1
    numbered t = grind (arith, nat_tests)

    by_test : n ≡ length d.requests + 1 → (b : Bool) → (n == id) ≡ b → IsCounted (lines.Submit n submission) id (request_of d.requests id) (request_of (d.requests ++ opened submission ∷ []) id)
    by_test next true t =
        let same : id ≡ length d.requests + 1 = grind (arith, nat_tests) in
        let before : request_of d.requests id ≡ None = none_past d.requests id (omega arith) in
        let place : id - 1 ≡ length d.requests = omega arith in
        let now : request_of (d.requests ++ opened submission ∷ []) id ≡ Some (opened submission) = request_at (d.requests ++ opened submission ∷ []) id (opened submission) (omega arith) (ap (slice_get (d.requests ++ opened submission ∷ [])) place ∙ get_last d.requests (opened submission)) in
        record { submitted = rw (before, now, t) refl; answered = rw (before, now) refl }
    by_test next false t =
        let apart : length d.requests + 1 ≢ id = grind (arith, nat_tests) in
        subst (λ (o : Option DiskRequest). IsCounted (lines.Submit n submission) id (request_of d.requests id) o) (sym (append_other d.requests (opened submission) id apart))
        (counts_none (lines.Submit n submission) id (request_of d.requests id) t refl)

effect_stays : (d d' : Disk) (n index : ℕ) (r : Option DiskRequest) → effect_of d n index r ≡ Some d' → d'.requests ≡ d.requests
effect_stays d d' n index None e = absurd (none-some d' e)
effect_stays d d' n index (Some r) e = where_passed (λ (x : Disk). x.requests ≡ d.requests) _ _ d' (λ t. refl) e

read_stays : (d d' : Disk) (n index : ℕ) (words : List ℕ) (r : Option DiskRequest) → read_of d n index words r ≡ Some d' → d'.requests ≡ d.requests
read_stays d d' n index words None e = absurd (none-some d' e)
read_stays d d' n index words (Some r) e = where_passed (λ (x : Disk). x.requests ≡ d.requests) _ _ d' (λ t. refl) e

flushed_stays : (d d' : Disk) (n : ℕ) (r : Option DiskRequest) → flushed_of d n r ≡ Some d' → d'.requests ≡ d.requests
flushed_stays d d' n None e = absurd (none-some d' e)
flushed_stays d d' n (Some r) e = where_passed (λ (x : Disk). x.requests ≡ d.requests) _ _ d' (λ t. refl) e

trimmed_stays : (d d' : Disk) (n : ℕ) (r : Option DiskRequest) → trimmed_of d n r ≡ Some d' → d'.requests ≡ d.requests
trimmed_stays d d' n None e = absurd (none-some d' e)
trimmed_stays d d' n (Some r) e = where_passed (λ (x : Disk). x.requests ≡ d.requests) _ _ d' (λ t. refl) e

fault_counts : (d d' : Disk) (n index id : ℕ) (o : Option DiskRequest) → request_of d.requests n ≡ o → fault_of d n index o ≡ Some d' → Counts (lines.Fault n index) id d d'
fault_counts d d' n index id None at e = absurd (none-some d' e)
fault_counts d d' n index id (Some r) at e = where_passed (Counts (lines.Fault n index) id d) _ _ d' (λ t. one_changes (lines.Fault n index) d.requests n id r _ at (stays_open (lines.Fault n index) n r _ refl refl refl) (λ apart. (refl, refl))) e

reply_counts : (d d' : Disk) (n id : ℕ) (status : Status) (o : Option DiskRequest) → request_of d.requests n ≡ o → replied_of d n status o ≡ Some d' → Counts (lines.Reply n status) id d d'
reply_counts d d' n id status None at e = absurd (none-some d' e)
reply_counts d d' n id status (Some r) at e = where_passed (Counts (lines.Reply n status) id d) _ _ d' (λ t. one_changes (lines.Reply n status) d.requests n id r _ at (stays_open (lines.Reply n status) n r _ refl refl refl) (λ apart. (refl, refl))) e

told_closed : (submission : Submission) (status : Status) → is_open (told_stage submission status) ≡ false
told_closed submission status = by_read (is_read submission) (is_okay status)
  where
    by_read : (a b : Bool) → is_open (if a && b then Telling 0 else Finished) ≡ false
    by_read true true = refl
    by_read true false = refl
    by_read false b = refl

answer_counts : (d d' : Disk) (n id : ℕ) (status : Status) (o : Option DiskRequest) → request_of d.requests n ≡ o → answered_of d n status o ≡ Some d' → Counts (lines.Answer n status) id d d'
answer_counts d d' n id status None at e = absurd (none-some d' e)
answer_counts d d' n id status (Some r) at e = where_passed (Counts (lines.Answer n status) id d) _ _ d' (λ t. one_changes (lines.Answer n status) d.requests n id r _ at (closes (and_parts (is_open r.stage) _ t).0) (λ apart. (refl, grind (arith, nat_tests)))) e
  where
    closes : is_open r.stage ≡ true → IsCounted (lines.Answer n status) n (Some r) (Some (record r { stage = told_stage r.submission status }))
    closes is =
        let here : (n == n) ≡ true = grind (arith, nat_tests) in
        record { submitted = refl; answered = rw (is, told_closed r.submission status, here) refl }

next_closed : (submission : Submission) (index : ℕ) → is_open (next_stage submission index) ≡ false
next_closed submission index = by_last (nat_lt (index + 1) (places_of submission))
  where
    by_last : (b : Bool) → is_open (if b then Telling (index + 1) else Finished) ≡ false
    by_last true = refl
    by_last false = refl

telling_closed : (stage : RequestStage) (index : ℕ) → is_next stage index ≡ true → is_open stage ≡ false
telling_closed Open index t = absurd (cc)
telling_closed (Telling next) index t = refl
telling_closed Finished index t = refl

data_counts : (d d' : Disk) (n index id : ℕ) (words : List ℕ) (o : Option DiskRequest) → request_of d.requests n ≡ o → data_of d n index words o ≡ Some d' → Counts (lines.Data n index words) id d d'
data_counts d d' n index id words None at e = absurd (none-some d' e)
data_counts d d' n index id words (Some r) at e = where_passed (Counts (lines.Data n index words) id d) _ _ d' (λ t. one_changes (lines.Data n index words) d.requests n id r _ at (stays_open (lines.Data n index words) n r _ refl refl (next_closed r.submission index ∙ sym (telling_closed r.stage index (and_parts (is_next r.stage index) _ t).0))) (λ apart. (refl, refl))) e

reopened_open : (r : DiskRequest) → is_open (reopened r).stage ≡ is_open r.stage
reopened_open r = by_stage (is_open r.stage)
  where
    by_stage : (b : Bool) → is_open (if b then record r { faulted = false; reply = None } else r).stage ≡ is_open r.stage
    by_stage true = refl
    by_stage false = refl

epoch_counts : (requests : List DiskRequest) (id : ℕ) → IsCounted lines.Epoch id (request_of requests id) (request_of (map reopened requests) id)
epoch_counts requests id = subst (λ (o : Option DiskRequest). IsCounted lines.Epoch id (request_of requests id) o) (sym (by_zero (id == 0))) (by_request (request_of requests id))
  where
    by_zero : (b : Bool) → (if b then None else slice_get (map reopened requests) (id - 1)) ≡ option_map reopened (if b then None else slice_get requests (id - 1))
    by_zero true = refl
    by_zero false = slice_get-map reopened requests (id - 1)

    by_request : (o : Option DiskRequest) → IsCounted lines.Epoch id o (option_map reopened o)
    by_request None = counts_none lines.Epoch id None refl refl
    by_request (Some r) = stays_open lines.Epoch id r (reopened r) refl refl (reopened_open r)

-- every line
pub line_counts : (d d' : Disk) (line : Line) (id : ℕ) → step d line ≡ Some d' → IsCounted line id (request_of d.requests id) (request_of d'.requests id)
line_counts d d' (lines.Submit n submission) id e = submit_counts d d' n id submission e
line_counts d d' (lines.Effect n index) id e = all_stay (lines.Effect n index) id d d' refl refl (effect_stays d d' n index (request_of d.requests n) e)
line_counts d d' (lines.EffectRead n index words) id e = all_stay (lines.EffectRead n index words) id d d' refl refl (read_stays d d' n index words (request_of d.requests n) e)
line_counts d d' (lines.Flushed n) id e = all_stay (lines.Flushed n) id d d' refl refl (flushed_stays d d' n (request_of d.requests n) e)
line_counts d d' (lines.Trimmed n) id e = all_stay (lines.Trimmed n) id d d' refl refl (trimmed_stays d d' n (request_of d.requests n) e)
line_counts d d' (lines.Fault n index) id e = fault_counts d d' n index id (request_of d.requests n) refl e
line_counts d d' (lines.Reply n status) id e = reply_counts d d' n id status (request_of d.requests n) refl e
line_counts d d' (lines.Answer n status) id e = answer_counts d d' n id status (request_of d.requests n) refl e
line_counts d d' (lines.Data n index words) id e = data_counts d d' n index id words (request_of d.requests n) refl e
line_counts d d' lines.Epoch id e = subst (Counts lines.Epoch id d) (same_Some _ d' e) (epoch_counts d.requests id)
line_counts d d' lines.Quiet id e = where_passed (Counts lines.Quiet id d) _ d d' (λ t. all_stay lines.Quiet id d d refl refl refl) e
line_counts d d' line id e = all_stay line id d d' refl refl (ap (λ (x : Disk). x.requests) (sym (same_Some d d' e)))
