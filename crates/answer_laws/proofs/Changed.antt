-- One request changes, or all begin anew: what is kept of the requests stays so.
use Rattle.std.proofs.Common.{◌≡◌, ◌≢◌, ℕ, ◌+◌, ◌-◌, ◌<◌, ◌≤◌, Bool, true, false, true≢false, if◌then◌else◌, List, [], map, refl, ap, sym, ◌∙◌, subst, arith}
use Rattle.std.specs.Prelude.{Option, Some, None, slice_get, is_none}
use Rattle.std.proofs.lemmas.List.{length-set}
use Rattle.std.proofs.lemmas.Option.{slice_get_within}
use Rattle.std.proofs.lemmas.Bool.Decides.{nat_tests}
use Rattle.blk_base.specs.declared.operation.Status.{Status}
use Rattle.blk_base.specs.declared.operation.Status.TheVariants as status
use Rattle.plain_disk.specs.declared.request.DiskRequest.{DiskRequest}
use Rattle.plain_disk.specs.declared.request.Place.{Place}
use Rattle.plain_disk.specs.Request.{is_open, places_of, done_count, is_done}
use Rattle.plain_disk.specs.Disk.{Disk, request_of}
use Rattle.plain_disk.specs.Step.{with_request, may_reply, reopened}
use Rattle.pipeline_laws.proofs.Lists.{each_set, each_map}
use Rattle.pipeline_laws.proofs.Answered.{number_at}
use Rattle.answer_laws.specs.Okay.{status_of}
use Rattle.answer_laws.proofs.Below.{below_none, below_short}
use Rattle.answer_laws.proofs.Places.{AreBelow}
use Rattle.answer_laws.proofs.Kept.{IsReplied, IsOpenKept, IsKept, IsFree, AreKept}
use Rattle.answer_laws.proofs.Served.{IsServable}

-- request n is set anew, and the other ones keep what they had
pub set_kept : (failed now : ℕ → Bool) (requests : List DiskRequest) (done : List Place) (n : ℕ) (r r' : DiskRequest) → request_of requests n ≡ Some r → ((id : ℕ) → n ≢ id → now id ≡ failed id)
    → (IsKept (failed n) done n r → IsKept (now n) done n r') → AreKept failed requests done → AreKept now (with_request requests n r') done
set_kept failed now requests done n r r' here others new h = record {
  each = each_set (λ k (q : DiskRequest). IsKept (failed (k + 1)) done (k + 1) q) (λ k (q : DiskRequest). IsKept (now (k + 1)) done (k + 1) q) requests (n - 1) r'
      (subst (λ (i : ℕ). IsKept (now i) done i r') (sym back) (new (subst (λ (i : ℕ). IsKept (failed i) done i r) back (h.each (n - 1) r at.1))))
      (λ k q apart e old. subst (λ (b : Bool). IsKept b done (k + 1) q) (sym (others (k + 1) (omega arith))) old) h.each;
  free = λ id past.
      let same = length-set requests (n - 1) r' in
      let within = slice_get_within requests (n - 1) r at.1 in
      let some = at.0 in
      subst (λ (b : Bool). IsFree b done id) (sym (others id (omega arith))) (h.free id (omega arith));
}
  where
    at : (1 ≤ n) × (slice_get requests (n - 1) ≡ Some r)
    at = number_at requests n r here

    back : n - 1 + 1 ≡ n
    back = (let some = at.0 in omega arith)

-- the disk failed at a place of it
pub fault_kept : (failed : Bool) (done : List Place) (n index : ℕ) (r : DiskRequest) → IsServable done n index r → IsKept failed done n r → IsKept true done n (record r { faulted = true })
fault_kept failed done n index r may h still = record {
  faulted = refl;
  counted = (h still).counted;
  short = λ t. (let less = below_short (places_of r.submission) (is_done done n) index may.within may.left in let all = (h still).counted in omega arith);
  replied = unreplied r.reply may.unreplied;
}
  where
    unreplied : (reply : Option Status) → is_none reply ≡ true → IsReplied true reply
    unreplied None t = tt
    unreplied (Some status) t = absurd (true≢false (sym t))

-- the back replied to it
pub reply_by : (failed : Bool) (done : List Place) (n : ℕ) (d : Disk) (r : DiskRequest) (status : Status) → d.done ≡ done → IsOpenKept failed done n r → may_reply d n r status ≡ true → status ≡ status_of failed
reply_by failed done n d r status.Okay same h t = by_fault failed refl
  where
    by_fault : (b : Bool) → failed ≡ b → status.Okay ≡ status_of b
    by_fault false e = refl
    by_fault true e =
        let less : done_count done n < places_of r.submission = h.short e in
        let all : done_count done n ≡ places_of r.submission = subst (λ (ps : List Place). done_count ps n ≡ places_of r.submission) same (grind (arith, nat_tests)) in
        absurd (omega arith)
reply_by failed done n d r status.Error same h t = ap status_of (sym t ∙ h.faulted)
reply_by failed done n d r status.Unsupported same h t = absurd (true≢false (sym t))

pub reply_kept : (failed : Bool) (n : ℕ) (d : Disk) (r : DiskRequest) (status : Status) → may_reply d n r status ≡ true → IsKept failed d.done n r → IsKept failed d.done n (record r { reply = Some status })
reply_kept failed n d r status may h still = record {
  faulted = (h still).faulted;
  counted = (h still).counted;
  short = (h still).short;
  replied = reply_by failed d.done n d r status refl (h still) may;
}

-- a new epoch: nothing is done, and no disk failed
pub none_below : (id bound : ℕ) → AreBelow [] id bound
none_below id bound = sym (below_none bound (is_done [] id) (λ k. refl))

reopened_kept : (failed : Bool) (done : List Place) (id : ℕ) (r : DiskRequest) → IsKept failed done id r → IsKept false [] id (reopened r)
reopened_kept failed done id r h = by_stage (is_open r.stage) refl
  where
    by_stage : (b : Bool) → is_open r.stage ≡ b → IsKept false [] id (if b then record r { faulted = false; reply = None } else r)
    by_stage true e still = record { faulted = refl; counted = none_below id (places_of r.submission); short = λ t. absurd (true≢false (sym t)); replied = tt }
    by_stage false e still = absurd (true≢false (sym still ∙ e))

pub epoch_kept : (failed : ℕ → Bool) (requests : List DiskRequest) (done : List Place) → AreKept failed requests done → AreKept (λ id. false) (map reopened requests) []
epoch_kept failed requests done h = record {
  each = each_map reopened (λ k (r : DiskRequest). IsKept (failed (k + 1)) done (k + 1) r) (λ k (r : DiskRequest). IsKept false [] (k + 1) r) requests (λ k r old. reopened_kept (failed (k + 1)) done (k + 1) r old) h.each;
  free = λ id past. record { unfailed = refl; counted = none_below id };
}
