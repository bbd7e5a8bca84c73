-- The requests that a report's lines leave open are the front's: each step of a request is one of both.
use Rattle.std.proofs.Common.{◌≡◌, ◌≢◌, ℕ, ◌+◌, ◌-◌, ◌≤◌, ◌==◌, inl, inr, Bool, true, false, not, cond, if◌then◌else◌, List, [], ◌∷◌, ◌++◌, length, refl, ap, sym, ◌∙◌, subst, arith}
use Rattle.std.specs.Prelude.{All, Option, Some, None, slice_get, slice_set, count_by, sum_by, remove}
use Rattle.std.proofs.lemmas.Option.{none-some, same_Some, slice_get_within}
use Rattle.std.proofs.lemmas.Bool.Decides.{nat_tests}
use Rattle.std.proofs.lemmas.List.Edits.{length-remove}
use Rattle.std.proofs.lemmas.List.Sums.{sum_by_push}
use Rattle.plain_disk.specs.declared.request.DiskRequest.{DiskRequest}
use Rattle.plain_disk.specs.Request.{is_finished}
use Rattle.plain_disk.specs.Refusal.{frames_of as job_frames, frames_held}
use Rattle.blk_front.specs.declared.request.Request.{Request}
use Rattle.blk_front.specs.declared.stage.Ending.{Ending}
use Rattle.blk_front.specs.Pool.{taking, with_all_free}
use Rattle.blk_front.specs.Request.{frames_for, pages_for, IsCounted, IsShaped}
use Rattle.machine_pipeline.proofs.Flow.{frames_of, ending_frames, count_of, submitted_job}
use Rattle.machine_pipeline.proofs.Holds.{IsPooled, ArePooled}
use Rattle.machine_pipeline.proofs.Lists.{count_one, count_none, count_set, sum_set, get_append, get_last, get_set_here, get_set_other}
use Rattle.machine_pipeline.proofs.Removals.{removed_was}
use Rattle.machine_pipeline.proofs.Taking.{sum_removed, pooled_without}
use Rattle.machine_pipeline.proofs.Ending.{pooled_free}
use Rattle.machine_pipeline.proofs.Growing.{longer, push_was, pooled_more}
use Rattle.machine_pipeline.proofs.Resumed.{IsPutBack, back_was, back_sum, back_many, back_pooled}
use Rattle.machine_pipeline.proofs.Holding.{all_frames}
use Rattle.vbd_laws.proofs.BreaksCounts.{same_number}

-- a request of the front's is open in the list, under its number
pub record IsAsked (asked : List DiskRequest) (r : Request) : Type 0 where
  pub x : DiskRequest
  pub at : slice_get asked (r.number - 1) ≡ Some x
  pub positive : 1 ≤ r.number
  pub unended : is_finished x.stage ≡ false
  pub submission : x.submission ≡ submitted_job r.transfer r.sector r.count
  pub shaped : IsShaped r
  pub pooled : All IsPooled r.frames.items

-- whether the ending request has this number
abbrev pub ending_number : ℕ → Option Ending → ℕ
ending_number n None = 0
ending_number n (Some e) = cond (e.request.number == n) 1 0

-- all of the front's requests are, the one that is ending too, under different numbers, and no others are; and their frames are those that are in use
pub record AreAsked (asked : List DiskRequest) (requests : List Request) (ending : Option Ending) (pool : List Bool) : Type 0 where
  pub each : (i : ℕ) (r : Request) → slice_get requests i ≡ Some r → IsAsked asked r
  pub last : (e : Ending) → ending ≡ Some e → IsAsked asked e.request
  pub once : (n : ℕ) → count_by (λ (r : Request). r.number == n) requests + ending_number n ending ≤ 1
  pub opened : count_by (λ (q : DiskRequest). not (is_finished q.stage)) asked ≡ length requests + count_of ending
  pub held : sum_by frames_held asked ≡ sum_by frames_of requests + ending_frames ending
  pub pooled : ArePooled pool requests ending

-- its submission needs the frames that it has
its_frames : (asked : List DiskRequest) (r : Request) → (is : IsAsked asked r) → job_frames is.x.submission ≡ frames_of r
its_frames asked r is = let shaped = is.shaped in ap job_frames is.submission ∙ (all_frames r.transfer r.sector r.count shaped.counted ∙ sym shaped.frames)

-- what one of the list counts, and the frames that it holds
counts : (q : DiskRequest) (b : Bool) → is_finished q.stage ≡ b → ◌≡◌ {A = ℕ} (cond (not (is_finished q.stage)) 1 0) (cond (not b) 1 0)
counts q b e = ap (λ (c : Bool). cond (not c) 1 0) e

holds : (q : DiskRequest) (b : Bool) → is_finished q.stage ≡ b → frames_held q ≡ (if b then 0 else job_frames q.submission)
holds q b e = ap (λ (c : Bool). if c then 0 else job_frames q.submission) e

-- another number's request is set anew
others : (asked : List DiskRequest) (n : ℕ) (y : DiskRequest) (r : Request) → 1 ≤ n → r.number ≢ n → IsAsked asked r → IsAsked (slice_set asked (n - 1) y) r
others asked n y r some apart is =
    let positive = is.positive in
    record { x = is.x; at = get_set_other asked (n - 1) (r.number - 1) y (λ same. apart (omega arith)) ∙ is.at; positive = is.positive; unended = is.unended; submission = is.submission; shaped = is.shaped; pooled = is.pooled }

-- none of the others has the ending one's number
differs : (requests : List Request) (e : Ending) (i : ℕ) (r : Request) → ((n : ℕ) → count_by (λ (q : Request). q.number == n) requests + ending_number n (Some e) ≤ 1) → slice_get requests i ≡ Some r → r.number ≢ e.request.number
differs requests e i r once at = λ same.
    let one = count_one (λ (q : Request). q.number == e.request.number) requests i r at (same_number r.number e.request.number same) in
    let own : ◌≡◌ {A = ℕ} (cond (e.request.number == e.request.number) 1 0) 1 = ap (λ (b : Bool). cond b 1 0) (same_number e.request.number e.request.number refl) in
    let few : count_by (λ (q : Request). q.number == e.request.number) requests + cond (e.request.number == e.request.number) 1 0 ≤ 1 = once e.request.number in
    omega arith

-- the ending one is told a sector more, and isn't done yet
pub told_set : (asked : List DiskRequest) (requests : List Request) (e : Ending) (pool : List Bool) (y : DiskRequest) → AreAsked asked requests (Some e) pool → is_finished y.stage ≡ false → y.submission ≡ submitted_job e.request.transfer e.request.sector e.request.count
    → AreAsked (slice_set asked (e.request.number - 1) y) requests (Some e) pool
told_set asked requests e pool y h unended submission = record {
  each = λ i r at. others asked e.request.number y r is.positive (differs requests e i r h.once at) (h.each i r at);
  last = λ f same. subst (λ (g : Ending). IsAsked (slice_set asked (e.request.number - 1) y) g.request) (same_Some e f same) own;
  once = h.once;
  opened = (let now = count_set (λ (q : DiskRequest). not (is_finished q.stage)) asked (e.request.number - 1) is.x y is.at in let was = h.opened in let one = counts is.x false is.unended in let two = counts y false unended in omega arith);
  held = (let now = sum_set frames_held asked (e.request.number - 1) is.x y is.at in let was = h.held in let one = holds is.x false is.unended in let two = holds y false unended in let same : job_frames y.submission ≡ job_frames is.x.submission = ap job_frames (submission ∙ sym is.submission) in omega arith);
  pooled = h.pooled;
}
  where
    is : IsAsked asked e.request
    is = h.last e refl

    own : IsAsked (slice_set asked (e.request.number - 1) y) e.request
    own = record { x = y; at = get_set_here asked (e.request.number - 1) is.x y is.at; positive = is.positive; unended = unended; submission = submission; shaped = is.shaped; pooled = is.pooled }

-- it is done, and its frames are free
pub ended_set : (asked : List DiskRequest) (requests : List Request) (e : Ending) (pool : List Bool) (y : DiskRequest) → AreAsked asked requests (Some e) pool → is_finished y.stage ≡ true
    → AreAsked (slice_set asked (e.request.number - 1) y) requests None (with_all_free pool e.request.frames.items)
ended_set asked requests e pool y h done = record {
  each = λ i r at. others asked e.request.number y r is.positive (differs requests e i r h.once at) (h.each i r at);
  last = λ f same. absurd (none-some f same);
  once = λ n. let few = h.once n in omega arith;
  opened = (let now = count_set (λ (q : DiskRequest). not (is_finished q.stage)) asked (e.request.number - 1) is.x y is.at in let was = h.opened in let one = counts is.x false is.unended in let two = counts y true done in omega arith);
  held = (let now = sum_set frames_held asked (e.request.number - 1) is.x y is.at in let was = h.held in let one = holds is.x false is.unended in let two = holds y true done in let own = its_frames asked e.request is in omega arith);
  pooled = pooled_free pool requests e is.pooled h.pooled;
}
  where
    is : IsAsked asked e.request
    is = h.last e refl

-- a response is taken: its request ends
pub asked_taken : (asked : List DiskRequest) (requests : List Request) (pool : List Bool) (place : ℕ) (r : Request) (e : Ending) → slice_get requests place ≡ Some r → e.request ≡ r → AreAsked asked requests None pool
    → AreAsked asked (remove requests place) (Some e) pool
asked_taken asked requests pool place r e at same h = record {
  each = λ i q is. let was = removed_was requests place i q is in h.each was.0 q was.2;
  last = λ f it. subst (λ (g : Ending). IsAsked asked g.request) (same_Some e f it) (subst (IsAsked asked) (sym same) (h.each place r at));
  once = λ n.
      let few = h.once n in
      let less = sum_removed (λ (q : Request). cond (q.number == n) 1 0) requests place r at in
      let own : ◌≡◌ {A = ℕ} (cond (e.request.number == n) 1 0) (cond (r.number == n) 1 0) = ap (λ (q : Request). cond (q.number == n) 1 0) same in
      omega arith;
  opened = (let was = h.opened in let less = length-remove requests place (slice_get_within requests place r at) in omega arith);
  held = (let was = h.held in let less = sum_removed frames_of requests place r at in let own : frames_of e.request ≡ frames_of r = ap frames_of same in omega arith);
  pooled = pooled_without pool requests place r e at same h.pooled;
}

-- one without frames gives none back
pub none_freed : (pool : List Bool) (frames : List ℕ) → length frames ≡ 0 → with_all_free pool frames ≡ pool
none_freed pool [] none = refl
none_freed pool (f ∷ frames) none = absurd (omega arith)

-- a request that was accepted is open, under the next number
pub asked_more : (asked : List DiskRequest) (requests : List Request) (ending : Option Ending) (pool taken : List Bool) (r : Request) (q : DiskRequest) → r.number ≡ length asked + 1 → q.submission ≡ submitted_job r.transfer r.sector r.count → is_finished q.stage ≡ false → IsCounted r.transfer r.count
    → taking (frames_for r.count + pages_for r.count) pool [] ≡ Some (r.frames.items, taken) → AreAsked asked requests ending pool → AreAsked (asked ++ q ∷ []) (requests ++ r ∷ []) ending taken
asked_more asked requests ending pool taken r q number submission unended counted frames h = record {
  each = λ i p e. elim (push_was requests r i p e) [ inl was ↦ grown p (h.each i p was) | inr new ↦ subst (IsAsked (asked ++ q ∷ [])) (sym new.1) own ];
  last = λ e same. grown e.request (h.last e same);
  once = λ n. by_number n (r.number == n) refl;
  opened = (let was = h.opened in let now = sum_by_push (λ (p : DiskRequest). cond (not (is_finished p.stage)) 1 0) asked q in let one = counts q false unended in let more = longer requests r in omega arith);
  held = (let was = h.held in let now = sum_by_push frames_held asked q in let one = holds q false unended in let own_frames = its_frames (asked ++ q ∷ []) r own in let more = sum_by_push frames_of requests r in omega arith);
  pooled = more_pooled.0;
}
  where
    more_pooled : ArePooled taken (requests ++ r ∷ []) ending × All IsPooled r.frames.items × (length r.frames.items ≡ frames_for r.count + pages_for r.count)
    more_pooled = pooled_more pool taken requests ending (frames_for r.count + pages_for r.count) r frames h.pooled

    grown : (p : Request) → IsAsked asked p → IsAsked (asked ++ q ∷ []) p
    grown p is = record { x = is.x; at = get_append asked (q ∷ []) (p.number - 1) is.x is.at; positive = is.positive; unended = is.unended; submission = is.submission; shaped = is.shaped; pooled = is.pooled }

    place : r.number - 1 ≡ length asked
    place = omega arith

    own : IsAsked (asked ++ q ∷ []) r
    own = record { x = q; at = ap (slice_get (asked ++ q ∷ [])) place ∙ get_last asked q; positive = omega arith; unended = unended; submission = submission; shaped = record { counted = counted; frames = more_pooled.2 }; pooled = more_pooled.1 }

    below : (n : ℕ) (p : Request) → r.number ≡ n → IsAsked asked p → (p.number == n) ≡ false
    below n p same is =
        let within = slice_get_within asked (p.number - 1) is.x is.at in
        let positive = is.positive in
        let apart : p.number ≢ n = omega arith in
        grind (arith, nat_tests)

    none_ends : (n : ℕ) (o : Option Ending) → r.number ≡ n → ((e : Ending) → o ≡ Some e → IsAsked asked e.request) → ending_number n o ≡ 0
    none_ends n None same all = refl
    none_ends n (Some e) same all = ap (λ (b : Bool). cond b 1 0) (below n e.request same (all e refl))

    by_number : (n : ℕ) (b : Bool) → (r.number == n) ≡ b → count_by (λ (p : Request). p.number == n) (requests ++ r ∷ []) + ending_number n ending ≤ 1
    by_number n false t =
        let few = h.once n in
        let now = sum_by_push (λ (p : Request). cond (p.number == n) 1 0) requests r in
        let one : ◌≡◌ {A = ℕ} (cond (r.number == n) 1 0) 0 = ap (λ (b : Bool). cond b 1 0) t in
        omega arith
    by_number n true t =
        let same : r.number ≡ n = grind (arith, nat_tests) in
        let none = count_none (λ (p : Request). p.number == n) requests (λ i p e. below n p same (h.each i p e)) in
        let now = sum_by_push (λ (p : Request). cond (p.number == n) 1 0) requests r in
        let one : ◌≡◌ {A = ℕ} (cond (r.number == n) 1 0) 1 = ap (λ (b : Bool). cond b 1 0) t in
        let ends = none_ends n ending same h.last in
        omega arith

-- after a suspend one that was ending waits again
pub asked_back : (asked : List DiskRequest) (requests after : List Request) (e : Ending) (pool : List Bool) → IsPutBack requests after e.request → AreAsked asked requests (Some e) pool → AreAsked asked after None pool
asked_back asked requests after e pool put h = record {
  each = λ i r at. elim (back_was requests after e.request put i r at) [ inl same ↦ subst (IsAsked asked) (sym same) (h.last e refl) | inr one ↦ h.each one.0 r one.1 ];
  last = λ f same. absurd (none-some f same);
  once = λ n. let few = h.once n in let more = back_sum (λ (q : Request). cond (q.number == n) 1 0) requests after e.request put in omega arith;
  opened = (let was = h.opened in let more = back_many requests after e.request put in omega arith);
  held = (let was = h.held in let more = back_sum frames_of requests after e.request put in omega arith);
  pooled = back_pooled pool requests after e put h.pooled;
}
