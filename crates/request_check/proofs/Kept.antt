-- Each line that the plain disk takes keeps the state after it.
use Rattle.std.proofs.Common.{◌≡◌, ℕ, ◌+◌, ◌<◌, ◌≤◌, ◌==◌, ◌&&◌, ◌||◌, not, nat_lt, Bool, true, false, List, [], ◌∷◌, ◌++◌, length, sum_by, refl, subst, arith}
use Rattle.std.specs.Prelude.{Option, Some, None, is_none}
use Rattle.std.proofs.lemmas.Bool.Decides.{nat_tests}
use Rattle.std.proofs.lemmas.Option.{none-some, same_Some, cond_some}
use Rattle.blk_base.specs.declared.config.Submission.{Submission}
use Rattle.blk_base.specs.declared.config.Submission.TheVariants as submissions
use Rattle.blk_base.specs.declared.operation.Status.{Status}
use Rattle.schedule_text.specs.declared.line.Line.{Line}
use Rattle.schedule_text.specs.declared.line.Line.TheVariants as lines
use Rattle.plain_disk.specs.declared.request.DiskRequest.{DiskRequest}
use Rattle.plain_disk.specs.declared.request.Place.{Place}
use Rattle.plain_disk.specs.declared.request.RequestStage.{RequestStage}
use Rattle.plain_disk.specs.declared.request.RequestStage.TheVariants as stages
use Rattle.plain_disk.specs.Request as requests
use Rattle.plain_disk.specs.Request.{is_read, is_write, is_flush, is_discard, is_ordered, is_open, is_finished, is_done, may_serve, places_of, filling}
use Rattle.plain_disk.specs.declared.request.Change.TheVariants as change
use Rattle.plain_disk.specs.Sector.{may_hold}
use Rattle.plain_disk.specs.Disk.{Disk, request_of, noted_at}
use Rattle.plain_disk.specs.Step.{step, submitted_of, effect_of, read_of, flushed_of, trimmed_of, fault_of, lost_of, replied_of, answered_of, data_of, epoch_of, place, served, one_sector, all_sectors, is_in_order, place_sector, may_reply, is_status, is_okay, told_stage, next_stage, is_next, are_noted, with_request}
use Rattle.plain_disk.specs.Refusal.{frames_of}
use Rattle.request_check.specs.Entries.{with_entry}
use Rattle.request_check.specs.Progress.{with_fault, with_reply}
use Rattle.request_check.specs.Words.{words_left}
use Rattle.request_check.specs.State.{State, discarded, open_of, submitted_to, filled, shown, flushed, trimmed, lost, failed, replied, answered, told, stepped}
use Rattle.request_check.proofs.Opens.{Notes}
use Rattle.request_check.proofs.Requests.{held}
use Rattle.request_check.proofs.Sectors.{SameWords, Sets, sets_filled, sets_spoiled, sets_showed, same_flushed, same_single, same_range}
use Rattle.request_check.proofs.Follows.{Follows, open_found, unfinished, place_kept, change_kept, told_kept}
use Rattle.request_check.proofs.NewNotes.{put, show_kept, submit_kept, epoch_kept}

-- a submission is within the limits
abbrev pub FitsLimits : Disk → Line → Type 0
FitsLimits d (lines.Submit id submission) = (length d.requests < 4294967295) × (sum_by (held frames_of) d.requests + frames_of submission ≤ 1000)
FitsLimits d line = Unit {0}

-- the state after the line, but for what it shows of the front, follows the disk
abbrev HasFollowed : State → Disk → Type 0
HasFollowed s d = (h : Notes) × Follows h s d

first_of : (a b : Bool) → (a && b) ≡ true → a ≡ true
first_of true b h = refl
first_of false b h = absurd (cc)

second_of : (a b : Bool) → (a && b) ≡ true → b ≡ true
second_of true b h = h
second_of false b h = absurd (cc)

middle_of : (a b c : Bool) → (a && b && c) ≡ true → b ≡ true
middle_of true true c h = refl
middle_of true false c h = absurd (cc)
middle_of false b c h = absurd (cc)

open_undone : (a b c e n : Bool) → (a && b && c && e && not n) ≡ true → (a ≡ true) × (n ≡ false)
open_undone true true true true false h = (refl, refl)
open_undone true true true true true h = absurd (cc)
open_undone true true true false n h = absurd (cc)
open_undone true true false e n h = absurd (cc)
open_undone true false c e n h = absurd (cc)
open_undone false b c e n h = absurd (cc)

serves : (done : List Place) (id : ℕ) (r : DiskRequest) (index : ℕ) → may_serve done id r index ≡ true → (is_open r.stage ≡ true) × (is_done done id index ≡ false)
serves done id r index h = open_undone (is_open r.stage) (is_none r.reply) (not r.faulted) (nat_lt index (places_of r.submission)) (is_done done id index) h

sets_zeros : (submission : Submission) → is_discard submission ≡ true → Sets (all_sectors submission) (words_left (discarded submission false)) (change.Filled (all_sectors submission) (filling submission 0))
sets_zeros (submissions.Read sector count) is = absurd (cc)
sets_zeros (submissions.Write sector count tag) is = absurd (cc)
sets_zeros (submissions.Barrier sector count tag) is = absurd (cc)
sets_zeros submissions.Flush is = absurd (cc)
sets_zeros (submissions.Discard sector count) is = sets_filled (all_sectors (submissions.Discard sector count)) (filling (submissions.Discard sector count) 0)

moved : (g : Notes) (s : State) (d e : Disk) → d ≡ e → Follows g s d → HasFollowed s e
moved g s d e same f = (g, subst (λ (x : Disk). Follows g s x) same f)

module _ (g : Notes) (s : State) (d e : Disk) (f : Follows g s d) where
  on_effect : (id index : ℕ) (o : Option DiskRequest) → request_of d.requests id ≡ o → effect_of d id index o ≡ Some e → HasFollowed (filled s id index (open_of s.requests id)) e
  on_effect id index None found is = absurd (none-some e is)
  on_effect id index (Some r) found is =
      let both = cond_some (is_write r.submission && may_serve d.done id r index && is_in_order d id r) (served d (place id index) (change.Filled (one_sector r.submission index) (filling r.submission index))) e is in
      let at = serves d.done id r index (middle_of (is_write r.submission) (may_serve d.done id r index) (is_in_order d id r) both.0) in
      rw (open_found g s d id r f found (unfinished r.stage at.0)) (moved g _ _ e both.1 (place_kept g s d id index r _ _ f found at.0 at.1 (same_single s.sectors d.first d.changes r.submission index (Some (filling r.submission index)) _ (sets_filled (one_sector r.submission index) (filling r.submission index)) f.sectors)))

  on_read : (id index : ℕ) (words : List ℕ) (o : Option DiskRequest) → request_of d.requests id ≡ o → read_of d id index words o ≡ Some e → HasFollowed (shown s id index words (open_of s.requests id)) e
  on_read id index words None found is = absurd (none-some e is)
  on_read id index words (Some r) found is =
      let both = cond_some (is_read r.submission && may_serve d.done id r index && may_hold (place_sector d.first d.changes r.submission index).own words)
      (record (served d (place id index) (change.Showed (one_sector r.submission index) words)) { noted = d.noted ++ record { id = id; index = index; words = words } ∷ [] }) e is in
      let at = serves d.done id r index (middle_of (is_read r.submission) (may_serve d.done id r index) (may_hold (place_sector d.first d.changes r.submission index).own words) both.0) in
      rw (open_found g s d id r f found (unfinished r.stage at.0)) (moved (put g id (with_entry (g id) index words)) _ _ e both.1 (show_kept g s d id index words r _ _ f found at.0 at.1 (same_single s.sectors d.first d.changes r.submission index (Some words) _ (sets_showed (one_sector r.submission index) words) f.sectors)))

  on_flush : (id : ℕ) (o : Option DiskRequest) → request_of d.requests id ≡ o → flushed_of d id o ≡ Some e → HasFollowed (flushed s id (open_of s.requests id)) e
  on_flush id None found is = absurd (none-some e is)
  on_flush id (Some r) found is =
      let both = cond_some (is_flush r.submission && may_serve d.done id r 0) (served d (place id 0) change.Flushed) e is in
      let at = serves d.done id r 0 (second_of (is_flush r.submission) _ both.0) in
      rw (open_found g s d id r f found (unfinished r.stage at.0)) (moved g _ _ e both.1 (place_kept g s d id 0 r s.sectors _ f found at.0 at.1 (same_flushed s.sectors d.first d.changes f.sectors)))

  on_trim : (id : ℕ) (o : Option DiskRequest) → request_of d.requests id ≡ o → trimmed_of d id o ≡ Some e → HasFollowed (trimmed s id (open_of s.requests id)) e
  on_trim id None found is = absurd (none-some e is)
  on_trim id (Some r) found is =
      let both = cond_some (is_discard r.submission && may_serve d.done id r 0 && is_in_order d id r) (served d (place id 0) (change.Filled (all_sectors r.submission) (filling r.submission 0))) e is in
      let at = serves d.done id r 0 (middle_of (is_discard r.submission) (may_serve d.done id r 0) (is_in_order d id r) both.0) in
      rw (open_found g s d id r f found (unfinished r.stage at.0)) (moved g _ _ e both.1 (place_kept g s d id 0 r _ _ f found at.0 at.1 (same_range s.sectors d.first d.changes r.submission false _ (sets_zeros r.submission (first_of (is_discard r.submission) (may_serve d.done id r 0) (first_of (is_discard r.submission && may_serve d.done id r 0) (is_in_order d id r) both.0))) f.sectors)))

  lost_words : (submission : Submission) (index : ℕ) → SameWords (lost s.sectors submission index) d.first (lost_of d.changes submission index)
  lost_words submission index = by_kind (is_write submission) refl (is_discard submission) refl
    where
      by_kind : (w : Bool) → is_write submission ≡ w → (t : Bool) → is_discard submission ≡ t → SameWords (lost s.sectors submission index) d.first (lost_of d.changes submission index)
      by_kind true is t so = rw is (same_single s.sectors d.first d.changes submission index None _ (sets_spoiled (one_sector submission index)) f.sectors)
      by_kind false is true so = rw (is, so) (same_range s.sectors d.first d.changes submission true _ (sets_spoiled (all_sectors submission)) f.sectors)
      by_kind false is false so = rw (is, so) f.sectors

  on_fault : (id index : ℕ) (o : Option DiskRequest) → request_of d.requests id ≡ o → fault_of d id index o ≡ Some e → HasFollowed (failed s id index (open_of s.requests id)) e
  on_fault id index None found is = absurd (none-some e is)
  on_fault id index (Some r) found is =
      let both = cond_some (may_serve d.done id r index && (not (is_ordered r.submission) || is_in_order d id r)) (record d { requests = with_request d.requests id (record r { faulted = true }); changes = lost_of d.changes r.submission index }) e is in
      let at = serves d.done id r index (first_of (may_serve d.done id r index) (not (is_ordered r.submission) || is_in_order d id r) both.0) in
      rw (open_found g s d id r f found (unfinished r.stage at.0)) (moved g _ _ e both.1 (change_kept g s d id r (record r { faulted = true }) with_fault (lost s.sectors r.submission index) (lost_of d.changes r.submission index) f found at.0 refl refl
      (λ t. record { faulted = refl; reply = t.reply; places = t.places; count = t.count }) (lost_words r.submission index)))

  on_reply : (id : ℕ) (status : Status) (o : Option DiskRequest) → request_of d.requests id ≡ o → replied_of d id status o ≡ Some e → HasFollowed (replied s id status (open_of s.requests id)) e
  on_reply id status None found is = absurd (none-some e is)
  on_reply id status (Some r) found is =
      let both = cond_some (is_open r.stage && is_none r.reply && may_reply d id r status) (record d { requests = with_request d.requests id (record r { reply = Some status }) }) e is in
      let waits : is_open r.stage ≡ true = first_of (is_open r.stage) (is_none r.reply) (first_of (is_open r.stage && is_none r.reply) (may_reply d id r status) both.0) in
      rw (open_found g s d id r f found (unfinished r.stage waits)) (moved g _ _ e both.1 (change_kept g s d id r (record r { reply = Some status }) (with_reply status) s.sectors d.changes f found waits refl refl
      (λ t. record { faulted = t.faulted; reply = refl; places = t.places; count = t.count }) f.sectors))

  shut_told : (submission : Submission) (status : Status) → is_open (told_stage submission status) ≡ false
  shut_told submission status = by_kind (is_read submission && is_okay status) refl
    where
      by_kind : (b : Bool) → (is_read submission && is_okay status) ≡ b → is_open (told_stage submission status) ≡ false
      by_kind true is = rw is refl
      by_kind false is = rw is refl

  shut_next : (submission : Submission) (index : ℕ) → is_open (next_stage submission index) ≡ false
  shut_next submission index = by_place (nat_lt (index + 1) (places_of submission)) refl
    where
      by_place : (b : Bool) → nat_lt (index + 1) (places_of submission) ≡ b → is_open (next_stage submission index) ≡ false
      by_place true is = rw is refl
      by_place false is = rw is refl

  told_next : (stage : RequestStage) (index : ℕ) → is_next stage index ≡ true → is_finished stage ≡ false
  told_next stages.Open index is = absurd (cc)
  told_next (stages.Telling n) index is = refl
  told_next stages.Finished index is = absurd (cc)

  on_answer : (id : ℕ) (status : Status) (o : Option DiskRequest) → request_of d.requests id ≡ o → answered_of d id status o ≡ Some e → HasFollowed (answered s id status (open_of s.requests id)) e
  on_answer id status None found is = absurd (none-some e is)
  on_answer id status (Some r) found is =
      let both = cond_some (is_open r.stage && is_status r.reply status) (record d { requests = with_request d.requests id (record r { stage = told_stage r.submission status }) }) e is in
      let waits : is_finished r.stage ≡ false = unfinished r.stage (first_of (is_open r.stage) _ both.0) in
      rw (open_found g s d id r f found waits) (moved g _ _ e both.1 (told_kept g s d id r (told_stage r.submission status) f found waits (shut_told r.submission status)))

  on_data : (id index : ℕ) (words : List ℕ) (o : Option DiskRequest) → request_of d.requests id ≡ o → data_of d id index words o ≡ Some e → HasFollowed (told s id index (open_of s.requests id)) e
  on_data id index words None found is = absurd (none-some e is)
  on_data id index words (Some r) found is =
      let both = cond_some (is_next r.stage index && are_noted (noted_at d.noted id index) words) (record d { requests = with_request d.requests id (record r { stage = next_stage r.submission index }) }) e is in
      let waits : is_finished r.stage ≡ false = told_next r.stage index (first_of (is_next r.stage index) _ both.0) in
      rw (open_found g s d id r f found waits) (moved g _ _ e both.1 (told_kept g s d id r (next_stage r.submission index) f found waits (shut_next r.submission index)))

  on_submit : (id : ℕ) (submission : Submission) → (b : Bool) → (id == length d.requests + 1) ≡ b → submitted_of d id submission ≡ Some e → FitsLimits d (lines.Submit id submission) → HasFollowed (submitted_to s id submission) e
  on_submit id submission false test is fits = absurd (none-some e (rw test at is))
  on_submit id submission true test is fits =
      let at : id ≡ length d.requests + 1 = grind (arith, nat_tests) in
      let same : record d { requests = d.requests ++ requests.opened submission ∷ [] } ≡ e = same_Some _ _ (rw test at is) in
      rw at (moved (put g (length d.requests + 1) []) _ _ e same (submit_kept g s d submission f fits.0 fits.1))

  pub line_kept : (line : Line) → step d line ≡ Some e → FitsLimits d line → HasFollowed (stepped s line) e
  line_kept (lines.Submit id submission) is fits = on_submit id submission (id == length d.requests + 1) refl is fits
  line_kept (lines.Effect id index) is fits = on_effect id index (request_of d.requests id) refl is
  line_kept (lines.EffectRead id index words) is fits = on_read id index words (request_of d.requests id) refl is
  line_kept (lines.Flushed id) is fits = on_flush id (request_of d.requests id) refl is
  line_kept (lines.Trimmed id) is fits = on_trim id (request_of d.requests id) refl is
  line_kept (lines.Fault id index) is fits = on_fault id index (request_of d.requests id) refl is
  line_kept (lines.Reply id status) is fits = on_reply id status (request_of d.requests id) refl is
  line_kept (lines.Answer id status) is fits = on_answer id status (request_of d.requests id) refl is
  line_kept (lines.Data id index words) is fits = on_data id index words (request_of d.requests id) refl is
  line_kept lines.Epoch is fits = moved g _ _ e (same_Some (epoch_of d) e is) (epoch_kept g s d f)
  line_kept lines.Quiet is fits = moved g _ _ e (cond_some _ d e is).1 f
  line_kept line is fits = moved g _ _ e (same_Some d e is) f
