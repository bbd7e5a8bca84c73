-- What is left to the front: the prices of the requests that wait, and how the issuing of one lowers them.
use Rattle.std.proofs.Common.{◌≡◌, ℕ, ◌+◌, ◌-◌, ◌*◌, ◌<◌, ◌≤◌, zero, suc, Bool, true, false, if◌then◌else◌, List, [], ◌∷◌, length, drop, refl, ap, arith}
use Rattle.std.specs.Prelude.{Option, Some, None, sum_by, remove, slice_get, slice_index_or, ◌==◌, nat_lt}
use Rattle.std.proofs.lemmas.Bool.Decides.{nat_tests}
use Rattle.std.proofs.lemmas.List.Sums.{sum_by-drop_more}
use Rattle.std.proofs.lemmas.Option.{none-some, get_or_from_slice_get, slice_get_within}
use Rattle.blk_base.specs.declared.ask.FrontAnswer.{FrontAnswer}
use Rattle.ring_words.specs.Shape.{entry_words_of}
use Rattle.blk_base.specs.declared.operation.Abi.{Abi}
use Rattle.blk_base.specs.declared.operation.Abi.TheVariants.{X64, X32}
use Rattle.blk_front.specs.declared.request.Request.{Request}
use Rattle.blk_front.specs.declared.request.Transfer.{Transfer}
use Rattle.blk_front.specs.declared.request.Transfer.TheVariants as transfer
use Rattle.blk_front.specs.declared.stage.FrontStage.TheVariants as stage
use Rattle.blk_front.specs.Request.{words_in, naming_words, is_indirect, is_moving, has_data}
use Rattle.blk_front.specs.View.{View, next_request}
use Rattle.blk_front.specs.declared.stage.Ending.{Ending}
use Rattle.blk_front.specs.declared.told.Told.TheVariants as told
use Rattle.blk_front.specs.Step.{end_step, exchanged, revoked, ended, finished, broken, is_mapped, step_at, after_data, entered, begun, at}
use Rattle.front_laws.specs.Left.{left_of, left_at, issue_left, grants_left, waiting_after, rest_after, of_next, of_ending}

pub few_words : (abi : Abi) → entry_words_of abi ≤ 28
few_words X64 = omega arith
few_words X32 = omega arith

-- the first of the requests that wait, and its price
pub first_price : (f : Request → ℕ) (rs : List Request) (k : ℕ) (r : Request) → slice_get rs k ≡ Some r → sum_by f (drop k rs) ≡ f r + sum_by f (drop (k + 1) rs)
first_price f rs k r e =
    let here : slice_index_or rs k r ≡ r = get_or_from_slice_get rs k r r e in
    let same : f (slice_index_or rs k r) ≡ f r = ap f here in
    omega (arith, sum_by-drop_more f rs k r (slice_get_within rs k r e), same)

-- one that was issued is taken out: those that wait are the same
pub removed_tail : (rs : List Request) (place k : ℕ) → place ≤ k → drop k (remove rs place) ≡ drop (suc k) rs
removed_tail [] zero zero before = refl
removed_tail [] zero (suc k) before = refl
removed_tail [] (suc place) zero before = refl
removed_tail [] (suc place) (suc k) before = refl
removed_tail (x ∷ rs) zero k before = refl
removed_tail (x ∷ rs) (suc place) zero before = absurd (omega arith)
removed_tail (x ∷ rs) (suc place) (suc k) before = removed_tail rs place k (omega arith)

pub removed_price : (f : Request → ℕ) (rs : List Request) (place k : ℕ) → place ≤ k → sum_by f (drop k (remove rs place)) ≡ sum_by f (drop (suc k) rs)
removed_price f rs place k before = ap (λ (l : List Request). sum_by f l) (removed_tail rs place k before)

pub next_price : (v : View) (r : Request) → next_request v ≡ Some r → sum_by issue_left (waiting_after 0 v) ≡ issue_left r + sum_by issue_left (waiting_after 1 v)
next_price v r e = by_test (v.waiting == 0) e
  where
    by_test : (b : Bool) → (if b then None else slice_get v.requests (length v.requests - v.waiting)) ≡ Some r → sum_by issue_left (waiting_after 0 v) ≡ issue_left r + sum_by issue_left (waiting_after 1 v)
    by_test true e = absurd (none-some r e)
    by_test false e =
        let place : length v.requests - v.waiting + 0 ≡ length v.requests - v.waiting = omega arith in
        let same : sum_by issue_left (waiting_after 0 v) ≡ sum_by issue_left (drop (length v.requests - v.waiting) v.requests) = ap (λ (n : ℕ). sum_by issue_left (drop n v.requests)) place in
        omega (arith, same, first_price issue_left v.requests (length v.requests - v.waiting) r e)

-- A word of the data of the request that is issued is written: the next one is, or its pages or grants come.
pub data_lowers : (v : View) (n : ℕ) (r : Request) (a : FrontAnswer) → next_request v ≡ Some r → n < words_in r → left_of (step_at (stage.Data n) v a) < left_at (stage.Data n) v
data_lowers v n r a e within = rw e (by_test (nat_lt (n + 1) (words_in r)) refl)
  where
    by_way : (b : Bool) → left_of (at (if b then stage.Pages 0 else stage.GrantFrame 0) v) ≤ naming_words r + grants_left r + rest_after 1 v
    by_way true = rw e (omega arith)
    by_way false = rw e (omega arith)

    by_test : (b : Bool) → nat_lt (n + 1) (words_in r) ≡ b → left_of (at (if b then stage.Data (n + 1) else after_data r) v) < of_next (Some r) (λ r. (words_in r - n) + naming_words r + grants_left r) + rest_after 1 v
    by_test true is = rw e (omega (arith, within))
    by_test false is = omega (arith, within, by_way (is_indirect r.count))

pub page_lowers : (v : View) (n : ℕ) (r : Request) (a : FrontAnswer) → next_request v ≡ Some r → n < naming_words r → left_of (step_at (stage.Pages n) v a) < left_at (stage.Pages n) v
page_lowers v n r a e within = rw e (by_test (nat_lt (n + 1) (naming_words r)) refl)
  where
    by_test : (b : Bool) → nat_lt (n + 1) (naming_words r) ≡ b → left_of (at (if b then stage.Pages (n + 1) else stage.GrantFrame 0) v) < of_next (Some r) (λ r. (naming_words r - n) + grants_left r) + rest_after 1 v
    by_test true is = rw e (omega (arith, within))
    by_test false is = rw e (omega (arith, within))

pub grant_lowers : (v : View) (place : ℕ) (r : Request) (a : FrontAnswer) → next_request v ≡ Some r → place < length r.frames.items → left_of (step_at (stage.GrantFlags place) v a) < left_at (stage.GrantFlags place) v
grant_lowers v place r a e within = rw e (by_test (nat_lt (place + 1) (length r.frames.items)) refl)
  where
    by_test : (b : Bool) → nat_lt (place + 1) (length r.frames.items) ≡ b → left_of (if b then at (stage.GrantFrame (place + 1)) v else entered v r (stage.Slot 0)) < of_next (Some r) (λ r. 3 * (length r.frames.items - place) + 30) + rest_after 1 v
    by_test true is = rw e (grind (arith, nat_tests, within))
    by_test false is = omega (arith, within, few_words v.shape.abi)

-- A request is begun.
pub begin_lowers : (way : Transfer) (v : View) (r : Request) → next_request v ≡ Some r → (is_moving way ≡ true → 1 ≤ r.count) → left_of (begun v r way) < rest_after 0 v
begin_lowers (transfer.Write tag) v r e some = rw e (omega (arith, next_price v r e, some refl))
begin_lowers (transfer.Barrier tag) v r e some = rw e (omega (arith, next_price v r e, some refl))
begin_lowers transfer.Read v r e some = by_way (is_indirect r.count)
  where
    by_way : (b : Bool) → left_of (at (if b then stage.Pages 1 else stage.GrantFence 0) v) < rest_after 0 v
    by_way true = rw e (omega (arith, next_price v r e, some refl))
    by_way false = rw e (omega (arith, next_price v r e, some refl))
begin_lowers transfer.Flush v r e some = omega (arith, next_price v r e, few_words v.shape.abi)
begin_lowers (transfer.Discard sectors) v r e some = omega (arith, next_price v r e, few_words v.shape.abi)

-- Its entry is written, and it is pushed: it waits no longer.
pub slot_lowers : (v : View) (k : ℕ) (a : FrontAnswer) → k < entry_words_of v.shape.abi → left_of (step_at (stage.Slot k) v a) < left_at (stage.Slot k) v
slot_lowers v k a within = by_test (k + 1 == entry_words_of v.shape.abi) refl
  where
    by_test : (b : Bool) → (k + 1 == entry_words_of v.shape.abi) ≡ b → left_of (at (if b then stage.Producer else stage.Slot (k + 1)) v) < left_at (stage.Slot k) v
    by_test true is = omega (arith, within)
    by_test false is = let more : k + 1 < entry_words_of v.shape.abi = grind (arith, nat_tests) in omega (arith, more)

pub push_lowers : (v : View) (a : FrontAnswer) → 0 < v.waiting → v.waiting ≤ length v.requests → left_of (step_at stage.Producer v a) < left_at stage.Producer v
push_lowers v a some few =
    let place : length v.requests - (v.waiting - 1) + 0 ≡ length v.requests - v.waiting + 1 = omega arith in
    let same : sum_by issue_left (drop (length v.requests - (v.waiting - 1) + 0) v.requests) ≡ sum_by issue_left (waiting_after 1 v) = ap (λ (n : ℕ). sum_by issue_left (drop n v.requests)) place in
    omega (arith, same)

-- The grants of a request that is ending are ended one after the other, and then its data are read.
pub read_entry_lowers : (v : View) (place word : ℕ) (e : Ending) → v.ending ≡ Some e → place < length e.request.frames.items → left_of (end_step v place word) < left_at (stage.GrantRead place) v
read_entry_lowers v place word e is within = by_test (is_mapped word)
  where
    by_test : (b : Bool) → left_of (if b then broken word v else at (stage.GrantEnd place word) v) < left_at (stage.GrantRead place) v
    by_test true = rw is (omega (arith, within))
    by_test false = rw is (omega (arith, within))

pub ended_left : (v : View) (e : Ending) → v.ending ≡ Some e → left_of (ended e v) ≤ words_in e.request + rest_after 0 v
ended_left v e is = by_test (has_data e.request.transfer e.status)
  where
    by_test : (b : Bool) → left_of (if b then record v { stage = stage.ReadData 0; told = Some (told.Answer e.request.number e.status) } else record (finished e v) { told = Some (told.Answer e.request.number e.status) }) ≤ words_in e.request + rest_after 0 v
    by_test true = rw is (omega arith)
    by_test false = omega arith

pub revoked_lowers : (v : View) (place before word : ℕ) (e : Ending) → v.ending ≡ Some e → place < length e.request.frames.items → left_of (exchanged v place before word) < left_at (stage.GrantEnd place before) v
revoked_lowers v place before word e is within = by_word (word == before)
  where
    price : left_at (stage.GrantEnd place before) v ≡ (2 * (length e.request.frames.items - place) + words_in e.request - 1) + rest_after 0 v
    price = ap (λ (en : Option Ending). of_ending en (λ r. 2 * (length r.frames.items - place) + words_in r - 1) + rest_after 0 v) is

    next_price_of : left_of (at (stage.GrantRead (place + 1)) v) ≡ (2 * (length e.request.frames.items - (place + 1)) + words_in e.request) + rest_after 0 v
    next_price_of = ap (λ (en : Option Ending). of_ending en (λ r. 2 * (length r.frames.items - (place + 1)) + words_in r) + rest_after 0 v) is

    same : left_of (revoked v.ending place v) ≡ left_of (revoked (Some e) place v)
    same = ap (λ (en : Option Ending). left_of (revoked en place v)) is

    by_place : (b : Bool) → nat_lt (place + 1) (length e.request.frames.items) ≡ b → left_of (if b then at (stage.GrantRead (place + 1)) v else ended e v) < (2 * (length e.request.frames.items - place) + words_in e.request - 1) + rest_after 0 v
    by_place true more = let few : place + 1 < length e.request.frames.items = grind (arith, nat_tests) in omega (arith, few, next_price_of)
    by_place false more = omega (arith, within, ended_left v e is)

    by_word : (b : Bool) → left_of (if b then revoked v.ending place v else broken word v) < left_at (stage.GrantEnd place before) v
    by_word true = omega (arith, price, same, by_place (nat_lt (place + 1) (length e.request.frames.items)) refl)
    by_word false = omega (arith, within, price)
