-- A disk of whose sectors nothing is known at first takes each line that one with known sectors takes.
use Rattle.std.proofs.Common.{◌≡◌, ◌⊎◌, inl, inr, ℕ, ◌+◌, ◌==◌, ◌&&◌, ◌||◌, not, Bool, true, false, if◌then◌else◌, List, [], ◌∷◌, length, refl, ap, ◌∙◌, subst}
use Rattle.std.specs.Prelude.{Option, Some, None, option_and_then, slice_get, fold, is_none}
use Rattle.std.specs.List.{list_all}
use Rattle.std.proofs.lemmas.Option.{none-some, cond_some, option_and_then_some}
use Rattle.blk_base.specs.declared.config.Submission.{Submission}
use Rattle.blk_base.specs.declared.operation.Status.{Status}
use Rattle.schedule_text.specs.declared.line.Line.{Line}
use Rattle.schedule_text.specs.declared.line.Line.TheVariants as lines
use Rattle.plain_disk.specs.declared.request.DiskRequest.{DiskRequest}
use Rattle.plain_disk.specs.declared.request.Change.{Change}
use Rattle.plain_disk.specs.declared.request.Change.TheVariants as change
use Rattle.plain_disk.specs.Request.{is_read, is_write, is_flush, is_discard, is_ordered, is_open, is_finished, may_serve, sector_of}
use Rattle.plain_disk.specs.Sector.{Sector, only, anything, sector_first, may_hold, with_words, is_one_of, filled, showed, stable, covers, changed}
use Rattle.plain_disk.specs.Disk.{Disk, disk_of, request_of, noted_at}
use Rattle.plain_disk.specs.Step.{step, after, place_sector, effect_of, read_of, flushed_of, trimmed_of, fault_of, replied_of, answered_of, data_of, epoch_of, is_in_order, may_reply, is_status, is_next, are_noted}
use Rattle.pipeline_laws.specs.Run.{IsRun}
use Rattle.request_check.specs.Laws.{IsRunFromUnknown}
use Rattle.legal_laws.specs.Unknown.{forgetting}

-- ---- what sectors hold

-- a sector of which nothing is known, or the same words now, and of those that a loss may leave nothing is known or the same
abbrev IsLess : Sector → Sector → Type 0
IsLess less s = (less ≡ anything) ⊎ ((less.own ≡ s.own) × ((less.loss ≡ None) ⊎ (less.loss ≡ s.loss)))

less_words : (words : List ℕ) (less loss : Option (List (List ℕ))) → (less ≡ None) ⊎ (less ≡ loss) → (with_words less words ≡ None) ⊎ (with_words less words ≡ with_words loss words)
less_words words less loss (inl none) = inl (ap (λ (x : Option (List (List ℕ))). with_words x words) none)
less_words words less loss (inr same) = inr (ap (λ (x : Option (List (List ℕ))). with_words x words) same)

less_filled : (words : List ℕ) (less s : Sector) → IsLess less s → IsLess (filled less words) (filled s words)
less_filled words less s (inl none) = inr (refl, inl (ap (λ (x : Sector). with_words x.loss words) none))
less_filled words less s (inr h) = inr (refl, less_words words less.loss s.loss h.1)

less_left : (b : Bool) (words : List ℕ) (less loss : Option (List (List ℕ))) → (less ≡ None) ⊎ (less ≡ loss)
    → ((if b then Some (only words) else less) ≡ None) ⊎ ((if b then Some (only words) else less) ≡ (if b then Some (only words) else loss))
less_left true words less loss h = inr refl
less_left false words less loss h = h

less_showed : (words : List ℕ) (less s : Sector) → IsLess less s → IsLess (showed less words) (showed s words)
less_showed words less s (inl none) = inr (refl, inl (ap (λ (x : Sector). (showed x words).loss) none))
less_showed words less s (inr h) =
    let left : ((showed less words).loss ≡ None) ⊎ ((showed less words).loss ≡ (if is_one_of less.own then Some (only words) else s.loss)) = less_left (is_one_of less.own) words less.loss s.loss h.1 in
    inr (refl, subst (λ (own : Option (List (List ℕ))). ((showed less words).loss ≡ None) ⊎ ((showed less words).loss ≡ (if is_one_of own then Some (only words) else s.loss))) h.0 left)

less_stable : (less s : Sector) → IsLess less s → IsLess (stable less) (stable s)
less_stable less s (inl none) = inl (ap stable none)
less_stable less s (inr h) = inr (h.0, inr h.0)

less_changed : (sector : ℕ) (c : Change) (less s : Sector) → IsLess less s → IsLess (changed sector less c) (changed sector s c)
less_changed sector (change.Filled at words) less s h = by_place (covers at sector)
  where
    by_place : (b : Bool) → IsLess (if b then filled less words else less) (if b then filled s words else s)
    by_place true = less_filled words less s h
    by_place false = h
less_changed sector (change.Spoiled at) less s h = by_place (covers at sector)
  where
    by_place : (b : Bool) → IsLess (if b then anything else less) (if b then anything else s)
    by_place true = inl refl
    by_place false = h
less_changed sector (change.Showed at words) less s h = by_place (covers at sector)
  where
    by_place : (b : Bool) → IsLess (if b then showed less words else less) (if b then showed s words else s)
    by_place true = less_showed words less s h
    by_place false = h
less_changed sector change.Flushed less s h = less_stable less s h

less_after : (changes : List Change) (sector : ℕ) (less s : Sector) → IsLess less s → IsLess (fold (changed sector) less changes) (fold (changed sector) s changes)
less_after [] sector less s h = h
less_after (c ∷ changes) sector less s h = less_after changes sector (changed sector less c) (changed sector s c) (less_changed sector c less s h)

may_hold_less : (less s : Sector) (words : List ℕ) → IsLess less s → may_hold s.own words ≡ true → may_hold less.own words ≡ true
may_hold_less less s words (inl none) may = ap (λ (x : Sector). may_hold x.own words) none
may_hold_less less s words (inr h) may = ap (λ (own : Option (List (List ℕ))). may_hold own words) h.0 ∙ may

may_hold_unknown : (first : List (List ℕ)) (changes : List Change) (job : Submission) (index : ℕ) (words : List ℕ) → may_hold (place_sector first changes job index).own words ≡ true
    → may_hold (place_sector [] changes job index).own words ≡ true
may_hold_unknown first changes job index words may = may_hold_less (place_sector [] changes job index) (place_sector first changes job index) words (less_after changes (sector_of job + index) anything (sector_first (slice_get first (sector_of job + index))) (inl refl)) may

-- ---- the steps

-- a step that is taken where a test holds
forgets : (b : Bool) (d e : Disk) → (if b then Some d else None) ≡ Some e → (if b then Some (forgetting d) else None) ≡ Some (forgetting e)
forgets true d e is = ap (λ (x : Option Disk). option_and_then (λ (y : Disk). Some (forgetting y)) x) is
forgets false d e is = absurd (none-some e is)

same_forgotten : (d e : Disk) → Some d ≡ Some e → Some (forgetting d) ≡ Some (forgetting e)
same_forgotten d e is = ap (λ (x : Option Disk). option_and_then (λ (y : Disk). Some (forgetting y)) x) is

and_second : (a b c : Bool) → (a && b) ≡ true → (b ≡ true → c ≡ true) → (a && c) ≡ true
and_second true b c both then_c = then_c both
and_second false b c both then_c = both

read_forgets : (d e : Disk) (id index : ℕ) (words : List ℕ) (o : Option DiskRequest) → read_of d id index words o ≡ Some e → read_of (forgetting d) id index words o ≡ Some (forgetting e)
read_forgets d e id index words None is = absurd (none-some e is)
read_forgets d e id index words (Some r) is =
    let both = cond_some (is_read r.submission && may_serve d.done id r index && may_hold (place_sector d.first d.changes r.submission index).own words) _ e is in
    let may : (is_read r.submission && may_serve d.done id r index && may_hold (place_sector [] d.changes r.submission index).own words) ≡ true =
    and_second (is_read r.submission && may_serve d.done id r index) _ _ both.0 (λ may. may_hold_unknown d.first d.changes r.submission index words may) in
    rw may (ap (λ (x : Disk). Some (forgetting x)) both.1)

effect_forgets : (d e : Disk) (id index : ℕ) (o : Option DiskRequest) → effect_of d id index o ≡ Some e → effect_of (forgetting d) id index o ≡ Some (forgetting e)
effect_forgets d e id index None is = absurd (none-some e is)
effect_forgets d e id index (Some r) is = forgets (is_write r.submission && may_serve d.done id r index && is_in_order d id r) _ e is

flush_forgets : (d e : Disk) (id : ℕ) (o : Option DiskRequest) → flushed_of d id o ≡ Some e → flushed_of (forgetting d) id o ≡ Some (forgetting e)
flush_forgets d e id None is = absurd (none-some e is)
flush_forgets d e id (Some r) is = forgets (is_flush r.submission && may_serve d.done id r 0) _ e is

trim_forgets : (d e : Disk) (id : ℕ) (o : Option DiskRequest) → trimmed_of d id o ≡ Some e → trimmed_of (forgetting d) id o ≡ Some (forgetting e)
trim_forgets d e id None is = absurd (none-some e is)
trim_forgets d e id (Some r) is = forgets (is_discard r.submission && may_serve d.done id r 0 && is_in_order d id r) _ e is

fault_forgets : (d e : Disk) (id index : ℕ) (o : Option DiskRequest) → fault_of d id index o ≡ Some e → fault_of (forgetting d) id index o ≡ Some (forgetting e)
fault_forgets d e id index None is = absurd (none-some e is)
fault_forgets d e id index (Some r) is = forgets (may_serve d.done id r index && (not (is_ordered r.submission) || is_in_order d id r)) _ e is

reply_forgets : (d e : Disk) (id : ℕ) (status : Status) (o : Option DiskRequest) → replied_of d id status o ≡ Some e → replied_of (forgetting d) id status o ≡ Some (forgetting e)
reply_forgets d e id status None is = absurd (none-some e is)
reply_forgets d e id status (Some r) is = forgets (is_open r.stage && is_none r.reply && may_reply d id r status) _ e is

answer_forgets : (d e : Disk) (id : ℕ) (status : Status) (o : Option DiskRequest) → answered_of d id status o ≡ Some e → answered_of (forgetting d) id status o ≡ Some (forgetting e)
answer_forgets d e id status None is = absurd (none-some e is)
answer_forgets d e id status (Some r) is = forgets (is_open r.stage && is_status r.reply status) _ e is

data_forgets : (d e : Disk) (id index : ℕ) (words : List ℕ) (o : Option DiskRequest) → data_of d id index words o ≡ Some e → data_of (forgetting d) id index words o ≡ Some (forgetting e)
data_forgets d e id index words None is = absurd (none-some e is)
data_forgets d e id index words (Some r) is = forgets (is_next r.stage index && are_noted (noted_at d.noted id index) words) _ e is

step_forgets : (d e : Disk) (line : Line) → step d line ≡ Some e → step (forgetting d) line ≡ Some (forgetting e)
step_forgets d e (lines.Submit id job) is = forgets (id == length d.requests + 1) _ e is
step_forgets d e (lines.Effect id index) is = effect_forgets d e id index (request_of d.requests id) is
step_forgets d e (lines.EffectRead id index words) is = read_forgets d e id index words (request_of d.requests id) is
step_forgets d e (lines.Flushed id) is = flush_forgets d e id (request_of d.requests id) is
step_forgets d e (lines.Trimmed id) is = trim_forgets d e id (request_of d.requests id) is
step_forgets d e (lines.Fault id index) is = fault_forgets d e id index (request_of d.requests id) is
step_forgets d e (lines.Reply id status) is = reply_forgets d e id status (request_of d.requests id) is
step_forgets d e (lines.Answer id status) is = answer_forgets d e id status (request_of d.requests id) is
step_forgets d e (lines.Data id index words) is = data_forgets d e id index words (request_of d.requests id) is
step_forgets d e lines.Epoch is = same_forgotten (epoch_of d) e is
step_forgets d e lines.Quiet is = forgets (list_all (λ (r : DiskRequest). is_finished r.stage) d.requests) _ e is
step_forgets d e line is = same_forgotten d e is

after_forgets : (report : List Line) (d e : Disk) → after report d ≡ Some e → after report (forgetting d) ≡ Some (forgetting e)
after_forgets [] d e is = same_forgotten d e is
after_forgets (line ∷ report) d e is = option_and_then_some (after report) (step d line) e is (λ between first rest.
    ap (option_and_then (after report)) (step_forgets d between line first) ∙ after_forgets report between e rest)

pub known_is_unknown : (report : List Line) (first : List (List ℕ)) (d : Disk) → after report (disk_of first) ≡ Some d → after report (disk_of []) ≡ Some (forgetting d)
known_is_unknown report first d run = after_forgets report (disk_of first) d run

pub run_is_unknown : (sectors : ℕ) (before now : Option (List (List ℕ))) (report : List Line) → IsRun sectors before now report → IsRunFromUnknown report
run_is_unknown sectors before now report r = (forgetting r.disk, known_is_unknown report r.first r.disk r.run)
