-- Each line keeps what the plain disk keeps of the requests.
use Rattle.std.proofs.Common.{◌≡◌, ◌≢◌, ℕ, ◌+◌, ◌==◌, ◌&&◌, ◌||◌, Bool, true, false, true≢false, if◌then◌else◌, List, [], ◌∷◌, ◌++◌, refl, ap, sym, ◌∙◌, subst, arith}
use Rattle.std.specs.Prelude.{Option, Some, None, nat_lt, is_none}
use Rattle.std.specs.List.{list_any}
use Rattle.std.proofs.lemmas.Bool.{and_parts}
use Rattle.std.proofs.lemmas.Bool.Decides.{nat_tests}
use Rattle.std.proofs.lemmas.List.Folds.{list_any-append}
use Rattle.std.proofs.lemmas.Option.{none-some, same_Some, cond_some}
use Rattle.blk_base.specs.declared.config.Submission.{Submission}
use Rattle.blk_base.specs.declared.operation.Status.{Status}
use Rattle.schedule_text.specs.declared.line.Line.{Line}
use Rattle.schedule_text.specs.declared.line.Line.TheVariants as lines
use Rattle.report_rules.specs.Standing.{is_epoch, this_epoch}
use Rattle.report_rules.proofs.Back.{epoch_more}
use Rattle.plain_disk.specs.declared.request.DiskRequest.{DiskRequest}
use Rattle.plain_disk.specs.declared.request.RequestStage.TheVariants.{Telling, Finished}
use Rattle.plain_disk.specs.Request.{is_open, is_read, is_write, is_flush, is_discard, places_of, may_serve}
use Rattle.plain_disk.specs.Disk.{Disk, request_of}
use Rattle.plain_disk.specs.Step.{step, effect_of, read_of, flushed_of, trimmed_of, fault_of, replied_of, answered_of, data_of, with_request, is_okay}
use Rattle.answer_laws.specs.Okay.{is_fault_of, has_failed}
use Rattle.answer_laws.proofs.Kept.{IsKept, AreKept}
use Rattle.answer_laws.proofs.Served.{servable, place_kept, asked_kept}
use Rattle.answer_laws.proofs.Changed.{set_kept, fault_kept, reply_kept, epoch_kept}

-- whether the disk failed at a request in this epoch, one line further on
abbrev pub failed_on : Bool → ℕ → Line → Bool
failed_on failed id line = if is_epoch line then false else is_fault_of id line || failed

pub failed_more : (before : List Line) (line : Line) (id : ℕ) → has_failed (before ++ line ∷ []) id ≡ failed_on (has_failed before id) id line
failed_more before line id = ap (list_any (is_fault_of id)) (epoch_more before line) ∙ by_epoch (is_epoch line)
  where
    turned : (a b : Bool) → (a || (b || false)) ≡ (b || a)
    turned true true = refl
    turned true false = refl
    turned false true = refl
    turned false false = refl

    by_epoch : (b : Bool) → list_any (is_fault_of id) (if b then [] else this_epoch before ++ line ∷ []) ≡ (if b then false else is_fault_of id line || has_failed before id)
    by_epoch true = refl
    by_epoch false = list_any-append (is_fault_of id) (this_epoch before) (line ∷ []) ∙ turned (has_failed before id) (is_fault_of id line)

-- the disk keeps what the lines say
abbrev pub Keeps : (ℕ → Bool) → Disk → Type 0
Keeps failed d = AreKept failed d.requests d.done

pub same_kept : (failed now : ℕ → Bool) (d : Disk) → ((id : ℕ) → now id ≡ failed id) → Keeps failed d → Keeps now d
same_kept failed now d same h = record {
  each = λ k r at. subst (λ (b : Bool). IsKept b d.done (k + 1) r) (sym (same (k + 1))) (h.each k r at);
  free = λ id past. (let is = h.free id past in record { unfailed = same id ∙ is.unfailed; counted = is.counted });
}

-- the disk after a test, where there is one
passed : (P : Disk → Type 0) (b : Bool) (x d' : Disk) → (b ≡ true → P x) → (if b then Some x else None) ≡ Some d' → P d'
passed P b x d' holds e = let both = cond_some b x d' e in subst P both.1 (holds both.0)

submit_keeps : (failed : ℕ → Bool) (d d' : Disk) (id : ℕ) (submission : Submission) → step d (lines.Submit id submission) ≡ Some d' → Keeps failed d → Keeps failed d'
submit_keeps failed d d' id submission e h = passed (Keeps failed) _ _ d' (λ t. asked_kept failed d.requests d.done submission h) e

effect_keeps : (failed : ℕ → Bool) (d d' : Disk) (id index : ℕ) (o : Option DiskRequest) → request_of d.requests id ≡ o → effect_of d id index o ≡ Some d' → Keeps failed d → Keeps failed d'
effect_keeps failed d d' id index None at e h = absurd (none-some d' e)
effect_keeps failed d d' id index (Some r) at e h =
    passed (Keeps failed) _ _ d' (λ t. place_kept failed d.requests d.done id index r at (and_parts (is_write r.submission) _ (and_parts (is_write r.submission && may_serve d.done id r index) _ t).0).1 h) e

read_keeps : (failed : ℕ → Bool) (d d' : Disk) (id index : ℕ) (words : List ℕ) (o : Option DiskRequest) → request_of d.requests id ≡ o → read_of d id index words o ≡ Some d' → Keeps failed d → Keeps failed d'
read_keeps failed d d' id index words None at e h = absurd (none-some d' e)
read_keeps failed d d' id index words (Some r) at e h =
    passed (Keeps failed) _ _ d' (λ t. place_kept failed d.requests d.done id index r at (and_parts (is_read r.submission) _ (and_parts (is_read r.submission && may_serve d.done id r index) _ t).0).1 h) e

flushed_keeps : (failed : ℕ → Bool) (d d' : Disk) (id : ℕ) (o : Option DiskRequest) → request_of d.requests id ≡ o → flushed_of d id o ≡ Some d' → Keeps failed d → Keeps failed d'
flushed_keeps failed d d' id None at e h = absurd (none-some d' e)
flushed_keeps failed d d' id (Some r) at e h =
    passed (Keeps failed) _ _ d' (λ t. place_kept failed d.requests d.done id 0 r at (and_parts (is_flush r.submission) _ t).1 h) e

trimmed_keeps : (failed : ℕ → Bool) (d d' : Disk) (id : ℕ) (o : Option DiskRequest) → request_of d.requests id ≡ o → trimmed_of d id o ≡ Some d' → Keeps failed d → Keeps failed d'
trimmed_keeps failed d d' id None at e h = absurd (none-some d' e)
trimmed_keeps failed d d' id (Some r) at e h =
    passed (Keeps failed) _ _ d' (λ t. place_kept failed d.requests d.done id 0 r at (and_parts (is_discard r.submission) _ (and_parts (is_discard r.submission && may_serve d.done id r 0) _ t).0).1 h) e

fault_keeps : (failed : ℕ → Bool) (d d' : Disk) (n index : ℕ) (o : Option DiskRequest) → request_of d.requests n ≡ o → fault_of d n index o ≡ Some d' → Keeps failed d → Keeps (λ id. n == id || failed id) d'
fault_keeps failed d d' n index None at e h = absurd (none-some d' e)
fault_keeps failed d d' n index (Some r) at e h =
    passed (Keeps (λ id. n == id || failed id)) _ _ d' (λ t. set_kept failed (λ id. n == id || failed id) d.requests d.done n r _ at (λ id apart. other id apart) (λ old. new (and_parts (may_serve d.done n r index) _ t).0 old) h) e
  where
    other : (id : ℕ) → n ≢ id → (n == id || failed id) ≡ failed id
    other id apart = (let differ : (n == id) ≡ false = grind (arith, nat_tests) in rw differ refl)

    new : may_serve d.done n r index ≡ true → IsKept (failed n) d.done n r → IsKept (n == n || failed n) d.done n (record r { faulted = true })
    new t old =
        let same : (n == n) ≡ true = grind (arith, nat_tests) in
        subst (λ (b : Bool). IsKept (b || failed n) d.done n (record r { faulted = true })) (sym same) (fault_kept (failed n) d.done n index r (servable d.done n index r t) old)

reply_keeps : (failed : ℕ → Bool) (d d' : Disk) (n : ℕ) (status : Status) (o : Option DiskRequest) → request_of d.requests n ≡ o → replied_of d n status o ≡ Some d' → Keeps failed d → Keeps failed d'
reply_keeps failed d d' n status None at e h = absurd (none-some d' e)
reply_keeps failed d d' n status (Some r) at e h =
    passed (Keeps failed) _ _ d' (λ t. set_kept failed failed d.requests d.done n r _ at (λ id apart. refl) (reply_kept (failed n) n d r status (and_parts (is_open r.stage && is_none r.reply) _ t).1) h) e

-- a request that was answered is open no more
closed_keeps : (failed : ℕ → Bool) (d : Disk) (n : ℕ) (r r' : DiskRequest) → request_of d.requests n ≡ Some r → is_open r'.stage ≡ false → Keeps failed d → AreKept failed (with_request d.requests n r') d.done
closed_keeps failed d n r r' at closed h = set_kept failed failed d.requests d.done n r r' at (λ id apart. refl) (λ old still. absurd (true≢false (sym still ∙ closed))) h

told_closed : (a b : Bool) → is_open (if a && b then Telling 0 else Finished) ≡ false
told_closed true true = refl
told_closed true false = refl
told_closed false b = refl

next_closed : (b : Bool) (index : ℕ) → is_open (if b then Telling index else Finished) ≡ false
next_closed true index = refl
next_closed false index = refl

answer_keeps : (failed : ℕ → Bool) (d d' : Disk) (n : ℕ) (status : Status) (o : Option DiskRequest) → request_of d.requests n ≡ o → answered_of d n status o ≡ Some d' → Keeps failed d → Keeps failed d'
answer_keeps failed d d' n status None at e h = absurd (none-some d' e)
answer_keeps failed d d' n status (Some r) at e h =
    passed (Keeps failed) _ _ d' (λ t. closed_keeps failed d n r _ at (told_closed (is_read r.submission) (is_okay status)) h) e

data_keeps : (failed : ℕ → Bool) (d d' : Disk) (n index : ℕ) (words : List ℕ) (o : Option DiskRequest) → request_of d.requests n ≡ o → data_of d n index words o ≡ Some d' → Keeps failed d → Keeps failed d'
data_keeps failed d d' n index words None at e h = absurd (none-some d' e)
data_keeps failed d d' n index words (Some r) at e h =
    passed (Keeps failed) _ _ d' (λ t. closed_keeps failed d n r _ at (next_closed (nat_lt (index + 1) (places_of r.submission)) (index + 1)) h) e

-- one line
pub step_keeps : (failed : ℕ → Bool) (d d' : Disk) (line : Line) → step d line ≡ Some d' → Keeps failed d → Keeps (λ id. failed_on (failed id) id line) d'
step_keeps failed d d' (lines.Submit id submission) e h = submit_keeps failed d d' id submission e h
step_keeps failed d d' (lines.Effect id index) e h = effect_keeps failed d d' id index (request_of d.requests id) refl e h
step_keeps failed d d' (lines.EffectRead id index words) e h = read_keeps failed d d' id index words (request_of d.requests id) refl e h
step_keeps failed d d' (lines.Flushed id) e h = flushed_keeps failed d d' id (request_of d.requests id) refl e h
step_keeps failed d d' (lines.Trimmed id) e h = trimmed_keeps failed d d' id (request_of d.requests id) refl e h
step_keeps failed d d' (lines.Fault id index) e h = fault_keeps failed d d' id index (request_of d.requests id) refl e h
step_keeps failed d d' (lines.Reply id status) e h = reply_keeps failed d d' id status (request_of d.requests id) refl e h
step_keeps failed d d' (lines.Answer id status) e h = answer_keeps failed d d' id status (request_of d.requests id) refl e h
step_keeps failed d d' (lines.Data id index words) e h = data_keeps failed d d' id index words (request_of d.requests id) refl e h
step_keeps failed d d' lines.Epoch e h = subst (Keeps (λ id. false)) (same_Some _ d' e) (epoch_kept failed d.requests d.done h)
step_keeps failed d d' lines.Quiet e h = passed (Keeps failed) _ d d' (λ t. h) e
step_keeps failed d d' line e h = subst (Keeps failed) (same_Some d d' e) h
