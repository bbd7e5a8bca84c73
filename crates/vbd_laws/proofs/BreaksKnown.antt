-- What the lines tell of the front's requests and of its ring is what it has, and stays so as a request comes, is issued and is answered, and in a suspend.
use Rattle.std.proofs.Common.{length-append, ◌≡◌, ◌≢◌, ℕ, zero, suc, ◌+◌, ◌-◌, ◌^◌, ◌<◌, ◌≤◌, ◌==◌, ◌⊎◌, inl, inr, Bool, cond, List, [], ◌∷◌, ◌++◌, length, take, refl, sym, ap, subst, arith}
use Rattle.std.specs.Prelude.{All, IfSome, Option, Some, None, slice_get, remove}
use Rattle.std.proofs.lemmas.Option.{slice_get_within}
use Rattle.std.proofs.lemmas.Bool.{cases_eq}
use Rattle.std.proofs.lemmas.List.{take-append-le}
use Rattle.std.proofs.lemmas.List.Edits.{length-remove}
use Rattle.std.proofs.lemmas.List.Elements.{All-push}
use Rattle.std.proofs.lemmas.List.Sums.{sum_by-cons, sum_by_push}
use Rattle.ring_words.specs.Shape.{Shape}
use Rattle.ring_words.specs.Ring.{next_of}
use Rattle.blk_front.proofs.Numbers.{remove_all}
use Rattle.blk_front.specs.declared.request.Request.{Request}
use Rattle.blk_front.specs.declared.stage.FrontStage.{FrontStage}
use Rattle.blk_front.specs.declared.stage.FrontStage.TheVariants as stage
use Rattle.blk_front.specs.declared.stage.Ending.{Ending}
use Rattle.blk_front.specs.View.{View}
use Rattle.blk_front.specs.Suspend.{by_number}
use Rattle.blk_front.proofs.Order.{after_all}
use Rattle.blk_base.specs.declared.operation.Status.TheVariants.{Okay}
use Rattle.vbd_laws.specs.Breaks.{FrontSight, without}
use Rattle.machine_pipeline.proofs.Holds.{IsPooled}
use Rattle.machine_pipeline.proofs.Resumed.{back_sum}
use Rattle.machine_pipeline.proofs.ResumedHolds.{placed}
use Rattle.machine_pipeline.proofs.Taking.{sum_removed}
use Rattle.vbd_laws.proofs.BreaksCounts.{count_id, count_number, one_number, same_number, other_number, id_more, without_it, without_others, count_taken, count_longer, nothing_taken}

-- What the lines tell of the ring and of the requests, and what the front has of them.
pub record Core : Type 0 where
  pub start : ℕ
  pub shape : Shape
  pub prod : ℕ
  pub cons : ℕ
  pub issued : List ℕ
  pub owed : List ℕ

abbrev pub core_of : FrontSight → Core
core_of s = record { start = s.start; shape = s.shape; prod = s.prod; cons = s.cons; issued = s.issued; owed = s.owed }

pub record Share : Type 0 where
  pub start : ℕ
  pub shape : Shape
  pub prod : ℕ
  pub cons : ℕ
  pub last : ℕ
  pub waiting : ℕ
  pub requests : List Request

abbrev pub share_of : View → Share
share_of v = record { start = v.start; shape = v.shape; prod = v.ring.indices.prod; cons = v.ring.indices.cons; last = v.last; waiting = v.waiting; requests = v.requests }

abbrev pub request_of : Option Ending → Option Request
request_of None = None
request_of (Some e) = Some e.request

-- a request whose grants are being ended is answered after that
abbrev pub going_at : FrontStage → Option Ending → Option Request
going_at (stage.GrantRead place) ending = request_of ending
going_at (stage.GrantEnd place seen) ending = request_of ending
going_at s ending = None

-- its response was taken already
abbrev pub taken_after : ℕ → Option Request → ℕ
taken_after cons None = cons
taken_after cons (Some r) = next_of cons

abbrev pub HasPooled : Request → Type 0
HasPooled r = All IsPooled r.frames.items

abbrev pub issued_part : Share → List Request
issued_part k = take (length k.requests - k.waiting) k.requests

pub record Agree (c : Core) (k : Share) (going : Option Request) : Type 0 where
  pub start : c.start ≡ k.start
  pub shape : c.shape ≡ k.shape
  pub small : k.prod < 2 ^ 32
  pub prod : c.prod ≡ k.prod
  pub cons : k.cons ≡ taken_after c.cons going
  pub pooled : All HasPooled k.requests
  pub once : (n : ℕ) → count_number n k.requests + one_number n going ≤ 1
  pub fresh : (n : ℕ) → k.last < n → count_number n k.requests + one_number n going ≡ 0
  pub waits : k.waiting ≤ length k.requests
  pub issued : (n : ℕ) → count_id n c.issued ≡ count_number n (issued_part k) + one_number n going
  pub owed : (n : ℕ) → count_id n c.owed ≡ count_number n k.requests + one_number n going

part_few : (n m : ℕ) (requests : List Request) → count_number n (take m requests) ≤ count_number n requests
part_few n m [] = rw (nothing_taken m) (omega arith)
part_few n zero (r ∷ requests) = omega arith
part_few n (suc m) (r ∷ requests) =
    let one = sum_by-cons (λ (x : Request). cond (x.number == n) 1 0) r (take m requests) in
    let all = sum_by-cons (λ (x : Request). cond (x.number == n) 1 0) r requests in
    let rest = part_few n m requests in
    omega arith

longer_by : (requests : List Request) (r : Request) → length (requests ++ r ∷ []) ≡ length requests + 1
longer_by requests r = length-append requests (r ∷ [])

none_first : (n : ℕ) (requests : List Request) → ◌≡◌ {A = ℕ} 0 (count_number n (take (length requests - length requests) requests) + 0)
none_first n requests = let none : length requests - length requests ≡ 0 = omega arith in rw none (empty_first requests)
  where
    empty_first : (l : List Request) → ◌≡◌ {A = ℕ} 0 (count_number n (take 0 l) + 0)
    empty_first [] = refl
    empty_first (r ∷ l) = refl

-- a response is taken
abbrev pub without_at : Share → ℕ → Share
without_at k place = record k { cons = next_of k.cons; requests = remove k.requests place }

pub agree_taken : (c : Core) (k : Share) (place : ℕ) (r : Request) → slice_get k.requests place ≡ Some r → place < length k.requests - k.waiting → Agree c k None → Agree c (without_at k place) (Some r)
agree_taken c k place r at early h = record {
  start = h.start;
  shape = h.shape;
  small = h.small;
  prod = h.prod;
  cons = ap next_of h.cons;
  pooled = remove_all HasPooled k.requests place h.pooled;
  once = λ n. let less = removed n in let was = h.once n in omega arith;
  fresh = λ n past. let less = removed n in let was = h.fresh n past in omega arith;
  waits = (let shorter = length-remove k.requests place within in let was = h.waits in omega arith);
  issued = λ n. let first = first_removed n in let was = h.issued n in omega arith;
  owed = λ n. let less = removed n in let was = h.owed n in omega arith;
}
  where
    within : place < length k.requests
    within = slice_get_within k.requests place r at

    removed : (n : ℕ) → count_number n (remove k.requests place) + cond (r.number == n) 1 0 ≡ count_number n k.requests
    removed n = sum_removed (λ (x : Request). cond (x.number == n) 1 0) k.requests place r at

    fewer : length (remove k.requests place) - k.waiting ≡ length k.requests - k.waiting - 1
    fewer = let shorter = length-remove k.requests place within in omega arith

    first_removed : (n : ℕ) → count_number n (take (length (remove k.requests place) - k.waiting) (remove k.requests place)) + cond (r.number == n) 1 0 ≡ count_number n (issued_part k)
    first_removed n = rw fewer (count_taken (λ (x : Request). x.number == n) (length k.requests - k.waiting) place k.requests r at early)

-- its answer is told
abbrev pub answered_core : Core → ℕ → Core
answered_core c id = record c { cons = next_of c.cons; issued = without id c.issued; owed = without id c.owed }

pub agree_answered : (c : Core) (k : Share) (r : Request) → Agree c k (Some r) → Agree (answered_core c r.number) k None
agree_answered c k r h = record {
  start = h.start;
  shape = h.shape;
  small = h.small;
  prod = h.prod;
  cons = h.cons;
  pooled = h.pooled;
  once = λ n. let was = h.once n in omega arith;
  fresh = λ n past. let was = h.fresh n past in omega arith;
  waits = h.waits;
  issued = λ n. by_issued n (cases_eq r.number n);
  owed = λ n. by_owed n (cases_eq r.number n);
}
  where
    own : ◌≡◌ {A = ℕ} (cond (r.number == r.number) 1 0) 1
    own = ap (λ (b : Bool). cond b 1 0) (same_number r.number r.number refl)

    none_owed : count_number r.number k.requests ≡ 0
    none_owed = let was : count_number r.number k.requests + cond (r.number == r.number) 1 0 ≤ 1 = h.once r.number in let one = own in omega arith

    by_owed : (n : ℕ) → (r.number ≡ n) ⊎ (r.number ≢ n) → count_id n (without r.number c.owed) ≡ count_number n k.requests + 0
    by_owed n (inl same) = subst (λ (m : ℕ). count_id m (without r.number c.owed) ≡ count_number m k.requests + 0) same (let none = without_it r.number c.owed in let zero = none_owed in omega arith)
    by_owed n (inr apart) =
        let was : count_id n c.owed ≡ count_number n k.requests + cond (r.number == n) 1 0 = h.owed n in
        let none : ◌≡◌ {A = ℕ} (cond (r.number == n) 1 0) 0 = ap (λ (b : Bool). cond b 1 0) (other_number r.number n apart) in
        let same = without_others n r.number c.owed apart in
        omega arith

    by_issued : (n : ℕ) → (r.number ≡ n) ⊎ (r.number ≢ n) → count_id n (without r.number c.issued) ≡ count_number n (issued_part k) + 0
    by_issued n (inl same) =
        subst (λ (m : ℕ). count_id m (without r.number c.issued) ≡ count_number m (issued_part k) + 0) same
        (let none = without_it r.number c.issued in let zero = none_owed in let part = part_few r.number (length k.requests - k.waiting) k.requests in omega arith)
    by_issued n (inr apart) =
        let was : count_id n c.issued ≡ count_number n (issued_part k) + cond (r.number == n) 1 0 = h.issued n in
        let none : ◌≡◌ {A = ℕ} (cond (r.number == n) 1 0) 0 = ap (λ (b : Bool). cond b 1 0) (other_number r.number n apart) in
        let same = without_others n r.number c.issued apart in
        omega arith

-- a request is issued
abbrev pub pushed_core : Core → ℕ → Core
pushed_core c id = record c { prod = next_of c.prod; issued = c.issued ++ id ∷ [] }

abbrev pub pushed_share : Share → Share
pushed_share k = record k { prod = next_of k.prod; waiting = k.waiting - 1 }

pub agree_pushed : (c : Core) (k : Share) (r : Request) → 0 < k.waiting → slice_get k.requests (length k.requests - k.waiting) ≡ Some r → Agree c k None → Agree (pushed_core c r.number) (pushed_share k) None
agree_pushed c k r some at h = record {
  start = h.start;
  shape = h.shape;
  small = omega arith;
  prod = ap next_of h.prod;
  cons = h.cons;
  pooled = h.pooled;
  once = h.once;
  fresh = h.fresh;
  waits = (let was = h.waits in omega arith);
  issued = λ n. let was = h.issued n in let more = id_more n r.number c.issued in let longer = longer_part n in omega arith;
  owed = h.owed;
}
  where
    further : length k.requests - (k.waiting - 1) ≡ length k.requests - k.waiting + 1
    further = let within = h.waits in omega arith

    longer_part : (n : ℕ) → count_number n (take (length k.requests - (k.waiting - 1)) k.requests) ≡ count_number n (issued_part k) + cond (r.number == n) 1 0
    longer_part n = rw further (count_longer (λ (x : Request). x.number == n) (length k.requests - k.waiting) k.requests r at)

-- a request comes
abbrev pub submitted_core : Core → ℕ → Core
submitted_core c id = record c { owed = c.owed ++ id ∷ [] }

abbrev pub submitted_share : Share → Request → Share
submitted_share k r = record k { last = k.last + 1; waiting = k.waiting + 1; requests = k.requests ++ r ∷ [] }

pub agree_submitted : (c : Core) (k : Share) (going : Option Request) (r : Request) → r.number ≡ k.last + 1 → HasPooled r → Agree c k going → Agree (submitted_core c (k.last + 1)) (submitted_share k r) going
agree_submitted c k going r next pooled h = record {
  start = h.start;
  shape = h.shape;
  small = h.small;
  prod = h.prod;
  cons = h.cons;
  pooled = All-push HasPooled k.requests r h.pooled pooled;
  once = λ n. by_once n (cases_eq r.number n);
  fresh = λ n past. (let was = h.fresh n (omega arith) in let more = more_number n in let none = not_own n (omega arith) in omega arith);
  waits = (let was = h.waits in let more = longer in omega arith);
  issued = λ n. let was = h.issued n in let same = same_part n in omega arith;
  owed = λ n. let was = h.owed n in let ids = id_more n (k.last + 1) c.owed in let more = more_number n in let it = same_cond n in omega arith;
}
  where
    longer : length (k.requests ++ r ∷ []) ≡ length k.requests + 1
    longer = longer_by k.requests r

    more_number : (n : ℕ) → count_number n (k.requests ++ r ∷ []) ≡ count_number n k.requests + cond (r.number == n) 1 0
    more_number n = sum_by_push (λ (x : Request). cond (x.number == n) 1 0) k.requests r

    same_cond : (n : ℕ) → ◌≡◌ {A = ℕ} (cond (k.last + 1 == n) 1 0) (cond (r.number == n) 1 0)
    same_cond n = ap (λ (m : ℕ). cond (m == n) 1 0) (sym next)

    not_own : (n : ℕ) → r.number ≢ n → ◌≡◌ {A = ℕ} (cond (r.number == n) 1 0) 0
    not_own n apart = ap (λ (b : Bool). cond b 1 0) (other_number r.number n apart)

    by_once : (n : ℕ) → (r.number ≡ n) ⊎ (r.number ≢ n) → count_number n (k.requests ++ r ∷ []) + one_number n going ≤ 1
    by_once n (inl same) =
        let none = h.fresh n (omega arith) in
        let more = more_number n in
        let one : ◌≡◌ {A = ℕ} (cond (r.number == n) 1 0) 1 = ap (λ (b : Bool). cond b 1 0) (same_number r.number n same) in
        omega arith
    by_once n (inr apart) = let was = h.once n in let more = more_number n in let none = not_own n apart in omega arith

    same_length : length (k.requests ++ r ∷ []) - (k.waiting + 1) ≡ length k.requests - k.waiting
    same_length = let more = longer in omega arith

    same_part : (n : ℕ) → count_number n (take (length (k.requests ++ r ∷ []) - (k.waiting + 1)) (k.requests ++ r ∷ [])) ≡ count_number n (issued_part k)
    same_part n =
        let few : length k.requests - k.waiting ≤ length k.requests = omega arith in
        rw same_length (ap (count_number n) (take-append-le (length k.requests - k.waiting) k.requests (r ∷ []) few))

-- a suspend: each request waits again, also one whose grants were being ended
abbrev pub anew_core : Core → Core
anew_core c = record c { prod = c.start; cons = c.start; issued = [] }

abbrev pub anew_share : Share → List Request → Share
anew_share k requests = record k { prod = k.start; cons = k.start; waiting = length requests; requests = requests }

abbrev pub with_going : Option Request → List Request → List Request
with_going None requests = requests
with_going (Some r) requests = by_number r requests

pub agree_anew : (c : Core) (k : Share) (going : Option Request) → k.start < 2 ^ 32 → IfSome going HasPooled → Agree c k going → Agree (anew_core c) (anew_share k (with_going going k.requests)) None
agree_anew c k None small pooled h = record {
  start = h.start;
  shape = h.shape;
  small = small;
  prod = h.start;
  cons = sym h.start;
  pooled = h.pooled;
  once = h.once;
  fresh = h.fresh;
  waits = omega arith;
  issued = λ n. none_first n k.requests;
  owed = h.owed;
}
agree_anew c k (Some r) small pooled h = record {
  start = h.start;
  shape = h.shape;
  small = small;
  prod = h.start;
  cons = sym h.start;
  pooled = after_all HasPooled (stage.GrantRead 0) (Some (record { request = r; status = Okay })) k.requests pooled h.pooled;
  once = λ n. let was = h.once n in let more = more_number n in omega arith;
  fresh = λ n past. let was = h.fresh n past in let more = more_number n in omega arith;
  waits = omega arith;
  issued = λ n. none_first n (by_number r k.requests);
  owed = λ n. let was = h.owed n in let more = more_number n in omega arith;
}
  where
    more_number : (n : ℕ) → count_number n (by_number r k.requests) ≡ count_number n k.requests + cond (r.number == n) 1 0
    more_number n = back_sum (λ (x : Request). cond (x.number == n) 1 0) k.requests (by_number r k.requests) r (placed r k.requests)
