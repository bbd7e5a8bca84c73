-- The state follows the plain disk: what it keeps after a line is what the disk has after it.
use Rattle.std.proofs.Common.{⊎_elim, ◌≡◌, ℕ, zero, suc, ◌+◌, ◌-◌, ◌≤◌, Bool, true, false, List, [], ◌∷◌, ◌++◌, length, sum_by, refl, sym, ◌∙◌, subst, arith}
use Rattle.std.specs.Prelude.{Option, Some, None}
use Rattle.std.specs.Map.{remove_entry}
use Rattle.std.specs.BTreeMap.{is_at}
use Rattle.std.specs.Ordering.{nat_cmp}
use Rattle.std.proofs.lemmas.Bool.{cases_eq}
use Rattle.std.proofs.lemmas.Option.{none-some}
use Rattle.blk_base.specs.declared.config.Submission.{Submission}
use Rattle.schedule_text.specs.declared.line.Line.{Line}
use Rattle.plain_disk.specs.declared.request.DiskRequest.{DiskRequest}
use Rattle.plain_disk.specs.declared.request.Change.{Change}
use Rattle.plain_disk.specs.declared.request.RequestStage.{RequestStage}
use Rattle.plain_disk.specs.declared.request.RequestStage.TheVariants as stages
use Rattle.plain_disk.specs.Request.{is_open, is_finished, is_done}
use Rattle.plain_disk.specs.Disk.{Disk, disk_of, request_of, noted_at}
use Rattle.plain_disk.specs.Step.{place, with_request}
use Rattle.plain_disk.specs.Refusal.{frames_of}
use Rattle.request_check.specs.Entries.{entry_at}
use Rattle.request_check.specs.Words.{Known}
use Rattle.request_check.specs.Progress.{Progress, nothing_done, progress_of, changed, with_done}
use Rattle.request_check.specs.State.{State, start, open_of, barriers_of, with_progress, with_open, without, told_to, shown_by}
use Rattle.request_check.proofs.Opens.{Notes, open_as, opens}
use Rattle.request_check.proofs.Requests.{request_suc, request_same, request_other, open_request, opens_set, opens_remove, opens_stay, length_request, held, held_with}
use Rattle.request_check.proofs.Told.{SameDoings, IsTold, changed_same, changed_other, forgotten_other, told_elsewhere, told_done}
use Rattle.request_check.proofs.Sectors.{SameWords}

-- `g` has what the sectors of each request showed
pub record Follows (g : Notes) (s : State) (d : Disk) : Type 0 where
  pub submitted : s.submitted ≡ length d.requests
  pub few : length d.requests ≤ 4294967295
  pub requests : s.requests ≡ opens g 1 d.requests
  pub noted : (id index : ℕ) → entry_at (g id) index ≡ noted_at d.noted id index
  pub unnoted : (id : ℕ) → request_of d.requests id ≡ None → (index : ℕ) → noted_at d.noted id index ≡ None
  pub frames : s.frames ≡ sum_by (held frames_of) d.requests
  pub room : s.frames ≤ 1000
  pub barriers : s.barriers ≡ sum_by (held barriers_of) d.requests
  pub most : s.barriers ≤ length d.requests
  pub doings : (id : ℕ) → IsTold (request_of d.requests id) (progress_of s.progress id) d.done id
  pub sectors : SameWords s.sectors d.first d.changes

pub follows_start : Follows (λ id. []) start (disk_of [])
follows_start = record {
  submitted = refl;
  few = omega arith;
  requests = refl;
  noted = λ id index. refl;
  unnoted = λ id none index. refl;
  frames = refl;
  room = omega arith;
  barriers = refl;
  most = omega arith;
  doings = no_doings;
  sectors = record { words = λ sector. refl; since = λ sector single found. absurd (cc) };
}
  where
    no_doings : (id : ℕ) → IsTold (request_of [] id) nothing_done [] id
    no_doings zero = record { nothing = refl; places = λ index. refl; count = refl }
    no_doings (suc id) = rw (request_suc [] id) (record { nothing = refl; places = λ index. refl; count = refl })

-- the same, whatever is seen of the front
pub front_kept : (g : Notes) (s : State) (d : Disk) (line : Line) → Follows g s d → Follows g (shown_by s line) d
front_kept g s d line f = record {
  submitted = f.submitted;
  few = f.few;
  requests = f.requests;
  noted = f.noted;
  unnoted = f.unnoted;
  frames = f.frames;
  room = f.room;
  barriers = f.barriers;
  most = f.most;
  doings = f.doings;
  sectors = f.sectors;
}

-- what is kept of an unfinished request
pub open_found : (g : Notes) (s : State) (d : Disk) (id : ℕ) (r : DiskRequest) → Follows g s d → request_of d.requests id ≡ Some r → is_finished r.stage ≡ false → open_of s.requests id ≡ Some (open_as id r (g id))
open_found g s d id r f found waits = rw f.requests (open_request g d.requests id ∙ rw found (rw waits refl))

pub not_none : (o : Option DiskRequest) (r : DiskRequest) → o ≡ Some r → o ≡ None → ⊥
not_none o r some none = none-some r (sym none ∙ some)

pub unfinished : (s : RequestStage) → is_open s ≡ true → is_finished s ≡ false
unfinished stages.Open is = refl
unfinished (stages.Telling n) is = refl
unfinished stages.Finished is = absurd (cc)

told_at : (d : Disk) (o : Option DiskRequest) (r : DiskRequest) (p : Progress) (id : ℕ) → o ≡ Some r → IsTold o p d.done id → is_open r.stage ≡ true → SameDoings p r d.done id
told_at d o r p id found t = subst (λ (x : Option DiskRequest). IsTold x p d.done id) found t

-- ---- a place was done
pub place_kept : (g : Notes) (s : State) (d : Disk) (id index : ℕ) (r : DiskRequest) (sectors : Known) (changes : List Change) → Follows g s d → request_of d.requests id ≡ Some r
    → is_open r.stage ≡ true → is_done d.done id index ≡ false → SameWords sectors d.first changes
    → Follows g (record (with_progress s (with_done index) id) { sectors = sectors }) (record d { done = d.done ++ place id index ∷ []; changes = changes })
place_kept g s d id index r sectors changes f found waits new words = record {
  submitted = f.submitted;
  few = f.few;
  requests = f.requests;
  noted = f.noted;
  unnoted = f.unnoted;
  frames = f.frames;
  room = f.room;
  barriers = f.barriers;
  most = f.most;
  doings = λ k. ⊎_elim (λ here. at_it k here) (λ far. elsewhere k far) (cases_eq k id);
  sectors = words;
}
  where
    same : SameDoings (progress_of s.progress id) r d.done id
    same = told_at d (request_of d.requests id) r (progress_of s.progress id) id found (f.doings id) waits

    here_it : IsTold (request_of d.requests id) (progress_of (changed (with_done index) s.progress id) id) (d.done ++ place id index ∷ []) id
    here_it = rw (found, changed_same (with_done index) s.progress id) (λ o. told_done (progress_of s.progress id) r d.done id index new same)

    at_it : (k : ℕ) → k ≡ id → IsTold (request_of d.requests k) (progress_of (changed (with_done index) s.progress id) k) (d.done ++ place id index ∷ []) k
    at_it k here = rw here here_it

    elsewhere : (k : ℕ) → (k ≡ id → ⊥) → IsTold (request_of d.requests k) (progress_of (changed (with_done index) s.progress id) k) (d.done ++ place id index ∷ []) k
    elsewhere k far = rw (changed_other (with_done index) s.progress id k far) (told_elsewhere (request_of d.requests k) (progress_of s.progress k) d.done id index k far (f.doings k))

-- ---- a request's fault or reply
pub change_kept : (g : Notes) (s : State) (d : Disk) (id : ℕ) (r new : DiskRequest) (change : Progress → Progress) (sectors : Known) (changes : List Change) → Follows g s d → request_of d.requests id ≡ Some r
    → is_open r.stage ≡ true → new.submission ≡ r.submission → new.stage ≡ r.stage
    → (SameDoings (progress_of s.progress id) r d.done id → SameDoings (change (progress_of s.progress id)) new d.done id)
    → SameWords sectors d.first changes
    → Follows g (record (with_progress s change id) { sectors = sectors }) (record d { requests = with_request d.requests id new; changes = changes })
change_kept g s d id r new change sectors changes f found waits submission stage told words = record {
  submitted = f.submitted ∙ sym (length_request d.requests id new);
  few = rw (length_request d.requests id new) f.few;
  requests = f.requests ∙ sym (opens_stay g d.requests id r new found submission stage);
  noted = f.noted;
  unnoted = λ k none. ⊎_elim (λ here. absurd (not_none (request_of (with_request d.requests id new) k) new (rw here (request_same d.requests id r new found)) none)) (λ far. f.unnoted k (sym (request_other d.requests id k r new found far) ∙ none)) (cases_eq k id);
  frames = f.frames ∙ same_sum frames_of;
  room = f.room;
  barriers = f.barriers ∙ same_sum barriers_of;
  most = rw (length_request d.requests id new) f.most;
  doings = λ k. ⊎_elim (λ here. at_it k here) (λ far. elsewhere k far) (cases_eq k id);
  sectors = words;
}
  where
    same : SameDoings (progress_of s.progress id) r d.done id
    same = told_at d (request_of d.requests id) r (progress_of s.progress id) id found (f.doings id) waits

    same_sum : (h : Submission → ℕ) → sum_by (held h) d.requests ≡ sum_by (held h) (with_request d.requests id new)
    same_sum h =
        let both : sum_by (held h) (with_request d.requests id new) + held h r ≡ sum_by (held h) d.requests + held h new = held_with h d.requests id r new found in
        let one : held h new ≡ held h r = rw (submission, stage) refl in
        omega arith

    here_it : IsTold (request_of (with_request d.requests id new) id) (progress_of (changed change s.progress id) id) d.done id
    here_it = rw (request_same d.requests id r new found, changed_same change s.progress id) (λ o. told same)

    at_it : (k : ℕ) → k ≡ id → IsTold (request_of (with_request d.requests id new) k) (progress_of (changed change s.progress id) k) d.done k
    at_it k here = rw here here_it

    elsewhere : (k : ℕ) → (k ≡ id → ⊥) → IsTold (request_of (with_request d.requests id new) k) (progress_of (changed change s.progress id) k) d.done k
    elsewhere k far = rw (request_other d.requests id k r new found far, changed_other change s.progress id k far) (f.doings k)

-- ---- a request was told further
abbrev staged : DiskRequest → RequestStage → DiskRequest
staged r stage = record r { stage = stage }

told_further : (g : Notes) (s : State) (d : Disk) (id : ℕ) (r : DiskRequest) (stage : RequestStage) → Follows g s d → request_of d.requests id ≡ Some r → is_finished r.stage ≡ false → is_open stage ≡ false → is_finished stage ≡ false
    → Follows g (with_open s id (record (open_as id r (g id)) { stage = stage })) (record d { requests = with_request d.requests id (staged r stage) })
told_further g s d id r stage f found waits told still = record {
  submitted = f.submitted ∙ sym (length_request d.requests id (staged r stage));
  few = rw (length_request d.requests id (staged r stage)) f.few;
  requests = rw f.requests (sym (opens_set g g d.requests id r (staged r stage) found waits still (λ k far. refl)));
  noted = f.noted;
  unnoted = λ k none. ⊎_elim (λ here. absurd (not_none (request_of (with_request d.requests id (staged r stage)) k) (staged r stage) (rw here (request_same d.requests id r (staged r stage) found)) none)) (λ far. f.unnoted k (sym (request_other d.requests id k r (staged r stage) found far) ∙ none)) (cases_eq k id);
  frames = f.frames ∙ same_sum frames_of;
  room = f.room;
  barriers = f.barriers ∙ same_sum barriers_of;
  most = rw (length_request d.requests id (staged r stage)) f.most;
  doings = λ k. ⊎_elim (λ here. at_it k here) (λ far. elsewhere k far) (cases_eq k id);
  sectors = f.sectors;
}
  where
    same_sum : (h : Submission → ℕ) → sum_by (held h) d.requests ≡ sum_by (held h) (with_request d.requests id (staged r stage))
    same_sum h =
        let both : sum_by (held h) (with_request d.requests id (staged r stage)) + held h r ≡ sum_by (held h) d.requests + held h (staged r stage) = held_with h d.requests id r (staged r stage) found in
        let one : held h (staged r stage) ≡ held h r = rw (still, waits) refl in
        omega arith

    here_it : IsTold (request_of (with_request d.requests id (staged r stage)) id) (progress_of s.progress id) d.done id
    here_it = rw (request_same d.requests id r (staged r stage) found) (λ o. absurd (let h : false ≡ true = sym told ∙ o in cc))

    at_it : (k : ℕ) → k ≡ id → IsTold (request_of (with_request d.requests id (staged r stage)) k) (progress_of s.progress k) d.done k
    at_it k here = rw here here_it

    elsewhere : (k : ℕ) → (k ≡ id → ⊥) → IsTold (request_of (with_request d.requests id (staged r stage)) k) (progress_of s.progress k) d.done k
    elsewhere k far = rw (request_other d.requests id k r (staged r stage) found far) (f.doings k)

told_last : (g : Notes) (s : State) (d : Disk) (id : ℕ) (r : DiskRequest) (stage : RequestStage) → Follows g s d → request_of d.requests id ≡ Some r → is_finished r.stage ≡ false → is_open stage ≡ false → is_finished stage ≡ true
    → Follows g (without s id r.submission) (record d { requests = with_request d.requests id (staged r stage) })
told_last g s d id r stage f found waits told ends = record {
  submitted = f.submitted ∙ sym (length_request d.requests id (staged r stage));
  few = rw (length_request d.requests id (staged r stage)) f.few;
  requests = rw f.requests (sym (opens_remove g d.requests id r (staged r stage) found waits ends));
  noted = f.noted;
  unnoted = λ k none. ⊎_elim (λ here. absurd (not_none (request_of (with_request d.requests id (staged r stage)) k) (staged r stage) (rw here (request_same d.requests id r (staged r stage) found)) none)) (λ far. f.unnoted k (sym (request_other d.requests id k r (staged r stage) found far) ∙ none)) (cases_eq k id);
  frames = less frames_of s.frames f.frames;
  room = (let room : s.frames ≤ 1000 = f.room in let less : s.frames - frames_of r.submission ≤ 1000 = omega arith in less);
  barriers = less barriers_of s.barriers f.barriers;
  most = rw (length_request d.requests id (staged r stage)) (let most : s.barriers ≤ length d.requests = f.most in let less : s.barriers - barriers_of r.submission ≤ length d.requests = omega arith in less);
  doings = λ k. ⊎_elim (λ here. at_it k here) (λ far. elsewhere k far) (cases_eq k id);
  sectors = f.sectors;
}
  where
    less : (h : Submission → ℕ) (n : ℕ) → n ≡ sum_by (held h) d.requests → n - h r.submission ≡ sum_by (held h) (with_request d.requests id (staged r stage))
    less h n is =
        let both : sum_by (held h) (with_request d.requests id (staged r stage)) + held h r ≡ sum_by (held h) d.requests + held h (staged r stage) = held_with h d.requests id r (staged r stage) found in
        let one : held h (staged r stage) ≡ 0 = rw ends refl in
        let other : held h r ≡ h r.submission = rw waits refl in
        omega arith

    here_it : IsTold (request_of (with_request d.requests id (staged r stage)) id) (progress_of (remove_entry (is_at (nat_cmp id)) s.progress) id) d.done id
    here_it = rw (request_same d.requests id r (staged r stage) found) (λ o. absurd (let h : false ≡ true = sym told ∙ o in cc))

    at_it : (k : ℕ) → k ≡ id → IsTold (request_of (with_request d.requests id (staged r stage)) k) (progress_of (remove_entry (is_at (nat_cmp id)) s.progress) k) d.done k
    at_it k here = rw here here_it

    elsewhere : (k : ℕ) → (k ≡ id → ⊥) → IsTold (request_of (with_request d.requests id (staged r stage)) k) (progress_of (remove_entry (is_at (nat_cmp id)) s.progress) k) d.done k
    elsewhere k far = rw (request_other d.requests id k r (staged r stage) found far, forgotten_other s.progress id k far) (f.doings k)

pub told_kept : (g : Notes) (s : State) (d : Disk) (id : ℕ) (r : DiskRequest) (stage : RequestStage) → Follows g s d → request_of d.requests id ≡ Some r → is_finished r.stage ≡ false → is_open stage ≡ false
    → Follows g (told_to s id (open_as id r (g id)) stage) (record d { requests = with_request d.requests id (staged r stage) })
told_kept g s d id r stage f found waits told = by_end (is_finished stage) refl
  where
    by_end : (b : Bool) → is_finished stage ≡ b → Follows g (told_to s id (open_as id r (g id)) stage) (record d { requests = with_request d.requests id (staged r stage) })
    by_end true is = rw is (told_last g s d id r stage f found waits told is)
    by_end false is = rw is (told_further g s d id r stage f found waits told is)
