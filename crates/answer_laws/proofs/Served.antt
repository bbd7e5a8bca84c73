-- A place more was done, and a request was asked: what is kept of the requests stays so.
use Rattle.std.proofs.Common.{◌≡◌, ◌≢◌, ℕ, ◌+◌, ◌-◌, ◌<◌, ◌≤◌, ◌==◌, ◌&&◌, not, Bool, true, false, true≢false, List, [], ◌∷◌, ◌++◌, length, refl, ap, sym, ◌∙◌, subst, arith}
use Rattle.std.specs.Prelude.{Some, slice_get, nat_lt, is_none}
use Rattle.std.proofs.lemmas.Bool.Decides.{nat_tests}
use Rattle.std.proofs.lemmas.List.{length-append}
use Rattle.std.proofs.lemmas.Option.{same_Some, slice_get_within}
use Rattle.blk_base.specs.declared.config.Submission.{Submission}
use Rattle.plain_disk.specs.declared.request.DiskRequest.{DiskRequest}
use Rattle.plain_disk.specs.declared.request.Place.{Place}
use Rattle.plain_disk.specs.Request.{opened, is_open, places_of, may_serve, is_done}
use Rattle.plain_disk.specs.Disk.{request_of}
use Rattle.plain_disk.specs.Step.{place}
use Rattle.pipeline_laws.proofs.Lists.{each_more}
use Rattle.pipeline_laws.proofs.Answered.{number_at}
use Rattle.answer_laws.proofs.Places.{other_place, below_other, below_here}
use Rattle.answer_laws.proofs.Kept.{IsOpenKept, IsKept, IsFree, AreKept}

-- what `may_serve` says
pub record IsServable (done : List Place) (id index : ℕ) (r : DiskRequest) : Type 0 where
  pub unanswered : is_open r.stage ≡ true
  pub unreplied : is_none r.reply ≡ true
  pub unfaulted : r.faulted ≡ false
  pub within : index < places_of r.submission
  pub left : is_done done id index ≡ false

five_parts : (a b c d e : Bool) → (a && b && not c && d && not e) ≡ true → (a ≡ true) × (b ≡ true) × (c ≡ false) × (d ≡ true) × (e ≡ false)
five_parts true true false true false t = (refl, refl, refl, refl, refl)
five_parts a b c d e t = absurd (true≢false (sym t))

pub servable : (done : List Place) (id index : ℕ) (r : DiskRequest) → may_serve done id r index ≡ true → IsServable done id index r
servable done id index r t =
    let parts = five_parts (is_open r.stage) (is_none r.reply) r.faulted (nat_lt index (places_of r.submission)) (is_done done id index) t in
    record { unanswered = parts.0; unreplied = parts.1; unfaulted = parts.2; within = (let lt = parts.3 in grind (arith, nat_tests)); left = parts.4 }

-- a place of request n was done
kept_here : (failed : Bool) (done : List Place) (n index : ℕ) (r : DiskRequest) → IsServable done n index r → IsOpenKept failed done n r → IsOpenKept failed (done ++ place n index ∷ []) n r
kept_here failed done n index r may h = record {
  faulted = h.faulted;
  counted = below_here done n index (places_of r.submission) may.within may.left h.counted;
  short = λ t. absurd (true≢false (sym t ∙ (sym h.faulted ∙ may.unfaulted)));
  replied = h.replied;
}

kept_other : (failed : Bool) (done : List Place) (n index id : ℕ) (r : DiskRequest) → n ≢ id → IsOpenKept failed done id r → IsOpenKept failed (done ++ place n index ∷ []) id r
kept_other failed done n index id r apart h = record {
  faulted = h.faulted;
  counted = below_other done n index id (places_of r.submission) apart h.counted;
  short = λ t. (let less = h.short t in let same = other_place done n index id apart in omega arith);
  replied = h.replied;
}

pub place_kept : (failed : ℕ → Bool) (requests : List DiskRequest) (done : List Place) (n index : ℕ) (r : DiskRequest) → request_of requests n ≡ Some r → may_serve done n r index ≡ true → AreKept failed requests done → AreKept failed requests (done ++ place n index ∷ [])
place_kept failed requests done n index r here may h = record {
  each = λ k q at still. by_number k q at still (n == k + 1) refl;
  free = λ id past.
      let is = h.free id past in
      let within = slice_get_within requests (n - 1) r at.1 in
      let some = at.0 in
      let apart : n ≢ id = omega arith in
      record { unfailed = is.unfailed; counted = λ bound. below_other done n index id bound apart (is.counted bound) };
}
  where
    at : (1 ≤ n) × (slice_get requests (n - 1) ≡ Some r)
    at = number_at requests n r here

    by_number : (k : ℕ) (q : DiskRequest) → slice_get requests k ≡ Some q → is_open q.stage ≡ true → (b : Bool) → (n == k + 1) ≡ b → IsOpenKept (failed (k + 1)) (done ++ place n index ∷ []) (k + 1) q
    by_number k q there still true t =
        let same : n ≡ k + 1 = grind (arith, nat_tests) in
        let place_is : n - 1 ≡ k = omega arith in
        let is : r ≡ q = same_Some r q (sym at.1 ∙ (ap (slice_get requests) place_is ∙ there)) in
        subst (λ (i : ℕ). IsOpenKept (failed (k + 1)) (done ++ place n index ∷ []) i q) same
        (kept_here (failed (k + 1)) done n index q (servable done n index q (subst (λ (x : DiskRequest). may_serve done n x index ≡ true) is may))
        (subst (λ (i : ℕ). IsOpenKept (failed (k + 1)) done i q) (sym same) (h.each k q there still)))
    by_number k q there still false t =
        kept_other (failed (k + 1)) done n index (k + 1) q (grind (arith, nat_tests)) (h.each k q there still)

-- a request was asked, under the next number
pub asked_kept : (failed : ℕ → Bool) (requests : List DiskRequest) (done : List Place) (submission : Submission) → AreKept failed requests done → AreKept failed (requests ++ opened submission ∷ []) done
asked_kept failed requests done submission h = record {
  each = each_more (λ k (r : DiskRequest). IsKept (failed (k + 1)) done (k + 1) r) (λ k (r : DiskRequest). IsKept (failed (k + 1)) done (k + 1) r) requests (opened submission) (λ still. new) (λ k y e old. old) h.each;
  free = λ id past. (let more = length-append requests (opened submission ∷ []) in h.free id (omega arith));
}
  where
    was : IsFree (failed (length requests + 1)) done (length requests + 1)
    was = h.free (length requests + 1) (omega arith)

    new : IsOpenKept (failed (length requests + 1)) done (length requests + 1) (opened submission)
    new = record {
      faulted = sym was.unfailed;
      counted = was.counted (places_of submission);
      short = λ t. absurd (true≢false (sym t ∙ was.unfailed));
      replied = tt;
    }
