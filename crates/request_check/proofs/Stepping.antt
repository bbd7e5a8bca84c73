-- A line that keeps the rules of the disk's steps has a step, and a line that has a step keeps them.
use Rattle.std.proofs.Common.{◌≡◌, ℕ, ◌+◌, ◌==◌, ◌&&◌, ◌||◌, not, nat_lt, Bool, true, false, if◌then◌else◌, List, length, refl, arith}
use Rattle.std.specs.Prelude.{Option, Some, None, is_none}
use Rattle.std.proofs.lemmas.Option.{none-some}
use Rattle.std.proofs.lemmas.Bool.Decides.{nat_tests}
use Rattle.blk_base.specs.declared.operation.Status.{Status}
use Rattle.schedule_text.specs.declared.line.Line.{Line}
use Rattle.schedule_text.specs.declared.line.Line.TheVariants as lines
use Rattle.plain_disk.specs.declared.request.DiskRequest.{DiskRequest}
use Rattle.plain_disk.specs.declared.request.Place.{Place}
use Rattle.plain_disk.specs.Request.{is_write, is_flush, is_discard, is_ordered, is_open, is_done, may_serve, places_of}
use Rattle.plain_disk.specs.Disk.{Disk, request_of}
use Rattle.plain_disk.specs.Step.{step, effect_of, read_of, flushed_of, trimmed_of, fault_of, replied_of, answered_of, data_of, is_in_order}
use Rattle.request_check.specs.Rules.{may_fill, may_show, may_end, is_any, is_ordered_so, may_be_replied, may_be_answered, may_be_told, are_finished, keeps_effect, keeps_barrier, keeps_service, keeps_reply, keeps_answer, keeps_data, keeps_quiet}

-- a submission has the next number
abbrev pub HasNext : Disk → Line → Type 0
HasNext d (lines.Submit id submission) = id ≡ length d.requests + 1
HasNext d line = Unit {0}

-- a choice that gives something
chosen : {X : Type 0} (b : Bool) (x : X) → b ≡ true → (e : X) × ((if b then Some x else None) ≡ Some e)
chosen true x h = (x, refl)
chosen false x h = absurd (cc)

was_chosen : {X : Type 0} (b : Bool) (x e : X) → (if b then Some x else None) ≡ Some e → b ≡ true
was_chosen true x e h = refl
was_chosen false x e h = absurd (none-some e h)

first_of : (a b c d e : Bool) → (a && b && c && d && e) ≡ true → a ≡ true
first_of true b c d e h = refl
first_of false b c d e h = absurd (cc)

open_served : (done : List Place) (id : ℕ) (r : DiskRequest) (index : ℕ) → may_serve done id r index ≡ true → is_open r.stage ≡ true
open_served done id r index h = first_of (is_open r.stage) (is_none r.reply) (not r.faulted) (nat_lt index (places_of r.submission)) (not (is_done done id index)) h

-- served, and in order where it is served
all_three : (kind serve order waits : Bool) → (serve ≡ true → waits ≡ true) → (kind && serve) ≡ true → (not (kind && waits) || order) ≡ true → (kind && serve && order) ≡ true
all_three true true true waits h a b = refl
all_three true true false true h a b = absurd (cc)
all_three true true false false h a b = absurd (let e : false ≡ true = h refl in cc)
all_three true false order waits h a b = absurd (cc)
all_three false serve order waits h a b = absurd (cc)

fault_both : (kind serve order waits : Bool) → (serve ≡ true → waits ≡ true) → serve ≡ true → (not (kind && waits) || order) ≡ true → (serve && (not kind || order)) ≡ true
fault_both kind false order waits h a b = absurd (cc)
fault_both false true order waits h a b = refl
fault_both true true true waits h a b = refl
fault_both true true false true h a b = absurd (cc)
fault_both true true false false h a b = absurd (let e : false ≡ true = h refl in cc)

two_of : (kind serve order : Bool) → (kind && serve && order) ≡ true → (kind && serve) ≡ true
two_of true true order h = refl
two_of true false order h = absurd (cc)
two_of false serve order h = absurd (cc)

third_of : (kind serve order waits : Bool) → (kind && serve && order) ≡ true → (not (kind && waits) || order) ≡ true
third_of true true true true h = refl
third_of true true true false h = refl
third_of true true false waits h = absurd (cc)
third_of true false order waits h = absurd (cc)
third_of false serve order waits h = refl

one_of : (serve rest : Bool) → (serve && rest) ≡ true → serve ≡ true
one_of true rest h = refl
one_of false rest h = absurd (cc)

fault_order : (kind serve order waits : Bool) → (serve && (not kind || order)) ≡ true → (not (kind && waits) || order) ≡ true
fault_order false serve order waits h = refl
fault_order true true true true h = refl
fault_order true true true false h = refl
fault_order true true false waits h = absurd (cc)
fault_order true false order waits h = absurd (cc)

effect_on : (d : Disk) (id index : ℕ) (o : Option DiskRequest) → may_fill d id index o ≡ true → is_ordered_so is_write d id o ≡ true → (e : Disk) × (effect_of d id index o ≡ Some e)
effect_on d id index None h b = absurd (cc)
effect_on d id index (Some r) h b = chosen _ _ (all_three (is_write r.submission) (may_serve d.done id r index) (is_in_order d id r) (is_open r.stage) (open_served d.done id r index) h b)

read_on : (d : Disk) (id index : ℕ) (words : List ℕ) (o : Option DiskRequest) → may_show d id index words o ≡ true → (e : Disk) × (read_of d id index words o ≡ Some e)
read_on d id index words None h = absurd (cc)
read_on d id index words (Some r) h = chosen _ _ h

flush_on : (d : Disk) (id : ℕ) (o : Option DiskRequest) → may_end is_flush d id 0 o ≡ true → (e : Disk) × (flushed_of d id o ≡ Some e)
flush_on d id None h = absurd (cc)
flush_on d id (Some r) h = chosen _ _ h

trim_on : (d : Disk) (id : ℕ) (o : Option DiskRequest) → may_end is_discard d id 0 o ≡ true → is_ordered_so is_discard d id o ≡ true → (e : Disk) × (trimmed_of d id o ≡ Some e)
trim_on d id None h b = absurd (cc)
trim_on d id (Some r) h b = chosen _ _ (all_three (is_discard r.submission) (may_serve d.done id r 0) (is_in_order d id r) (is_open r.stage) (open_served d.done id r 0) h b)

fault_on : (d : Disk) (id index : ℕ) (o : Option DiskRequest) → may_end is_any d id index o ≡ true → is_ordered_so is_ordered d id o ≡ true → (e : Disk) × (fault_of d id index o ≡ Some e)
fault_on d id index None h b = absurd (cc)
fault_on d id index (Some r) h b = chosen _ _ (fault_both (is_ordered r.submission) (may_serve d.done id r index) (is_in_order d id r) (is_open r.stage) (open_served d.done id r index) h b)

reply_on : (d : Disk) (id : ℕ) (status : Status) (o : Option DiskRequest) → may_be_replied d id status o ≡ true → (e : Disk) × (replied_of d id status o ≡ Some e)
reply_on d id status None h = absurd (cc)
reply_on d id status (Some r) h = chosen _ _ h

answer_on : (d : Disk) (id : ℕ) (status : Status) (o : Option DiskRequest) → may_be_answered status o ≡ true → (e : Disk) × (answered_of d id status o ≡ Some e)
answer_on d id status None h = absurd (cc)
answer_on d id status (Some r) h = chosen _ _ h

data_on : (d : Disk) (id index : ℕ) (words : List ℕ) (o : Option DiskRequest) → may_be_told d id index words o ≡ true → (e : Disk) × (data_of d id index words o ≡ Some e)
data_on d id index words None h = absurd (cc)
data_on d id index words (Some r) h = chosen _ _ h

-- the rules of the disk's steps
pub record KeepsSteps (d : Disk) (line : Line) : Type 0 where
  pub effect : keeps_effect d line ≡ true
  pub barrier : keeps_barrier d line ≡ true
  pub service : keeps_service d line ≡ true
  pub reply : keeps_reply d line ≡ true
  pub answer : keeps_answer d line ≡ true
  pub told : keeps_data d line ≡ true
  pub quiet : keeps_quiet d line ≡ true

pub steps_on : (d : Disk) (line : Line) → KeepsSteps d line → HasNext d line → (e : Disk) × (step d line ≡ Some e)
steps_on d (lines.Submit id submission) k n = chosen _ _ (let test : (id == length d.requests + 1) ≡ true = grind (arith, nat_tests) in test)
steps_on d (lines.Effect id index) k n = effect_on d id index (request_of d.requests id) k.effect k.barrier
steps_on d (lines.EffectRead id index words) k n = read_on d id index words (request_of d.requests id) k.effect
steps_on d (lines.Flushed id) k n = flush_on d id (request_of d.requests id) k.service
steps_on d (lines.Trimmed id) k n = trim_on d id (request_of d.requests id) k.service k.barrier
steps_on d (lines.Fault id index) k n = fault_on d id index (request_of d.requests id) k.service k.barrier
steps_on d (lines.Reply id status) k n = reply_on d id status (request_of d.requests id) k.reply
steps_on d (lines.Answer id status) k n = answer_on d id status (request_of d.requests id) k.answer
steps_on d (lines.Data id index words) k n = data_on d id index words (request_of d.requests id) k.told
steps_on d lines.Quiet k n = chosen _ _ k.quiet
steps_on d line k n = (_, refl)

effect_kept : (d e : Disk) (id index : ℕ) (o : Option DiskRequest) → effect_of d id index o ≡ Some e → (may_fill d id index o ≡ true) × (is_ordered_so is_write d id o ≡ true)
effect_kept d e id index None h = absurd (none-some e h)
effect_kept d e id index (Some r) h =
    let all : (is_write r.submission && may_serve d.done id r index && is_in_order d id r) ≡ true = was_chosen _ _ e h in
    (two_of (is_write r.submission) (may_serve d.done id r index) (is_in_order d id r) all, third_of (is_write r.submission) (may_serve d.done id r index) (is_in_order d id r) (is_open r.stage) all)

read_kept : (d e : Disk) (id index : ℕ) (words : List ℕ) (o : Option DiskRequest) → read_of d id index words o ≡ Some e → may_show d id index words o ≡ true
read_kept d e id index words None h = absurd (none-some e h)
read_kept d e id index words (Some r) h = was_chosen _ _ e h

flush_kept : (d e : Disk) (id : ℕ) (o : Option DiskRequest) → flushed_of d id o ≡ Some e → may_end is_flush d id 0 o ≡ true
flush_kept d e id None h = absurd (none-some e h)
flush_kept d e id (Some r) h = was_chosen _ _ e h

trim_kept : (d e : Disk) (id : ℕ) (o : Option DiskRequest) → trimmed_of d id o ≡ Some e → (may_end is_discard d id 0 o ≡ true) × (is_ordered_so is_discard d id o ≡ true)
trim_kept d e id None h = absurd (none-some e h)
trim_kept d e id (Some r) h =
    let all : (is_discard r.submission && may_serve d.done id r 0 && is_in_order d id r) ≡ true = was_chosen _ _ e h in
    (two_of (is_discard r.submission) (may_serve d.done id r 0) (is_in_order d id r) all, third_of (is_discard r.submission) (may_serve d.done id r 0) (is_in_order d id r) (is_open r.stage) all)

fault_kept : (d e : Disk) (id index : ℕ) (o : Option DiskRequest) → fault_of d id index o ≡ Some e → (may_end is_any d id index o ≡ true) × (is_ordered_so is_ordered d id o ≡ true)
fault_kept d e id index None h = absurd (none-some e h)
fault_kept d e id index (Some r) h =
    let all : (may_serve d.done id r index && (not (is_ordered r.submission) || is_in_order d id r)) ≡ true = was_chosen _ _ e h in
    (one_of (may_serve d.done id r index) (not (is_ordered r.submission) || is_in_order d id r) all, fault_order (is_ordered r.submission) (may_serve d.done id r index) (is_in_order d id r) (is_open r.stage) all)

reply_kept : (d e : Disk) (id : ℕ) (status : Status) (o : Option DiskRequest) → replied_of d id status o ≡ Some e → may_be_replied d id status o ≡ true
reply_kept d e id status None h = absurd (none-some e h)
reply_kept d e id status (Some r) h = was_chosen _ _ e h

answer_kept : (d e : Disk) (id : ℕ) (status : Status) (o : Option DiskRequest) → answered_of d id status o ≡ Some e → may_be_answered status o ≡ true
answer_kept d e id status None h = absurd (none-some e h)
answer_kept d e id status (Some r) h = was_chosen _ _ e h

data_kept : (d e : Disk) (id index : ℕ) (words : List ℕ) (o : Option DiskRequest) → data_of d id index words o ≡ Some e → may_be_told d id index words o ≡ true
data_kept d e id index words None h = absurd (none-some e h)
data_kept d e id index words (Some r) h = was_chosen _ _ e h

pub kept_by_step : (d e : Disk) (line : Line) → step d line ≡ Some e → KeepsSteps d line
kept_by_step d e (lines.Effect id index) h =
    let both = effect_kept d e id index (request_of d.requests id) h in
    record { effect = both.0; barrier = both.1; service = refl; reply = refl; answer = refl; told = refl; quiet = refl }
kept_by_step d e (lines.EffectRead id index words) h = record { effect = read_kept d e id index words (request_of d.requests id) h; barrier = refl; service = refl; reply = refl; answer = refl; told = refl; quiet = refl }
kept_by_step d e (lines.Flushed id) h = record { effect = refl; barrier = refl; service = flush_kept d e id (request_of d.requests id) h; reply = refl; answer = refl; told = refl; quiet = refl }
kept_by_step d e (lines.Trimmed id) h =
    let both = trim_kept d e id (request_of d.requests id) h in
    record { effect = refl; barrier = both.1; service = both.0; reply = refl; answer = refl; told = refl; quiet = refl }
kept_by_step d e (lines.Fault id index) h =
    let both = fault_kept d e id index (request_of d.requests id) h in
    record { effect = refl; barrier = both.1; service = both.0; reply = refl; answer = refl; told = refl; quiet = refl }
kept_by_step d e (lines.Reply id status) h = record { effect = refl; barrier = refl; service = refl; reply = reply_kept d e id status (request_of d.requests id) h; answer = refl; told = refl; quiet = refl }
kept_by_step d e (lines.Answer id status) h = record { effect = refl; barrier = refl; service = refl; reply = refl; answer = answer_kept d e id status (request_of d.requests id) h; told = refl; quiet = refl }
kept_by_step d e (lines.Data id index words) h = record { effect = refl; barrier = refl; service = refl; reply = refl; answer = refl; told = data_kept d e id index words (request_of d.requests id) h; quiet = refl }
kept_by_step d e lines.Quiet h = record { effect = refl; barrier = refl; service = refl; reply = refl; answer = refl; told = refl; quiet = was_chosen (are_finished d.requests) d e h }
kept_by_step d e line h = record { effect = refl; barrier = refl; service = refl; reply = refl; answer = refl; told = refl; quiet = refl }
