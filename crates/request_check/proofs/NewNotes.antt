-- The notes of requests: of a sector that was shown, of a request that was submitted, and of all in a new epoch.
use Rattle.std.proofs.Common.{⊎_elim, ◌≡◌, ℕ, ◌+◌, ◌<◌, ◌≤◌, ◌==◌, ◌&&◌, Bool, true, false, if◌then◌else◌, List, [], ◌∷◌, ◌++◌, length, sum_by, refl, ap, sym, ◌∙◌, arith}
use Rattle.std.specs.Prelude.{Option, Some, None, option_map}
use Rattle.std.specs.Map.{set_value}
use Rattle.std.specs.BTreeMap.{is_at, insert_entry}
use Rattle.std.specs.Ordering.{nat_cmp}
use Rattle.std.proofs.lemmas.Bool.{cases_eq}
use Rattle.std.proofs.lemmas.Bool.Decides.{nat_tests}
use Rattle.std.proofs.lemmas.List.{length-append}
use Rattle.std.proofs.lemmas.List.Sums.{fold-append}
use Rattle.blk_base.specs.declared.config.Submission.{Submission}
use Rattle.plain_disk.specs.declared.request.DiskRequest.{DiskRequest}
use Rattle.plain_disk.specs.declared.request.Noted.{Noted}
use Rattle.plain_disk.specs.declared.request.Change.{Change}
use Rattle.plain_disk.specs.Request as requests
use Rattle.plain_disk.specs.Request.{is_open, is_finished, is_done}
use Rattle.plain_disk.specs.Disk.{Disk, request_of, noted_at}
use Rattle.plain_disk.specs.Step.{epoch_of, place, with_request, reopened}
use Rattle.plain_disk.specs.Refusal.{frames_of}
use Rattle.request_check.specs.Entries.{entry_at, with_entry}
use Rattle.request_check.specs.Words.{Known}
use Rattle.request_check.specs.Progress.{nothing_done, progress_of, with_done}
use Rattle.request_check.specs.State.{State, barriers_of, capped, submitted_to, with_progress, with_open, with_note}
use Rattle.request_check.proofs.Lookups.{entry_same, entry_other}
use Rattle.request_check.proofs.Opens.{Notes, open_as, opens, reopen_opens, reopened_stage}
use Rattle.request_check.proofs.Requests.{request_new, request_old, request_past, request_map, request_stays, opens_set, opens_add, length_reopened, held, held_more, held_reopened}
use Rattle.request_check.proofs.Told.{NoDoings, IsTold}
use Rattle.request_check.proofs.Sectors.{SameWords}
use Rattle.request_check.proofs.Follows.{Follows, not_none, unfinished, place_kept}

is_same : (k : ℕ) → (k == k) ≡ true
is_same k = grind (arith, nat_tests)

is_other : (k q : ℕ) → (k ≡ q → ⊥) → (k == q) ≡ false
is_other k q far = grind (arith, nat_tests)

-- notes with those of one request set
pub put : Notes → ℕ → List (ℕ × List ℕ) → Notes
put g id notes k = if k == id then notes else g k

put_same : (g : Notes) (id : ℕ) (notes : List (ℕ × List ℕ)) → put g id notes id ≡ notes
unfolding put
put_same g id notes = rw (is_same id) refl

put_other : (g : Notes) (id : ℕ) (notes : List (ℕ × List ℕ)) (k : ℕ) → (k ≡ id → ⊥) → put g id notes k ≡ g k
unfolding put
put_other g id notes k far = rw (is_other k id far) refl

-- ---- a sector of a read showed words
noted_more : (noted : List Noted) (id index : ℕ) (words : List ℕ) (k j : ℕ) → noted_at (noted ++ record { id = id; index = index; words = words } ∷ []) k j ≡ (if (id == k) && (index == j) then Some words else noted_at noted k j)
noted_more noted id index words k j = fold-append (λ (w : Option (List ℕ)) (n : Noted). if n.id == k && n.index == j then Some n.words else w) None noted (record { id = id; index = index; words = words } ∷ [])

noted_elsewhere : (noted : List Noted) (id index : ℕ) (words : List ℕ) (k j : ℕ) → (k ≡ id → ⊥) → noted_at (noted ++ record { id = id; index = index; words = words } ∷ []) k j ≡ noted_at noted k j
noted_elsewhere noted id index words k j far = noted_more noted id index words k j ∙ rw (is_other id k (λ e. far (sym e))) refl

noted_other_place : (noted : List Noted) (id index : ℕ) (words : List ℕ) (j : ℕ) → (j ≡ index → ⊥) → noted_at (noted ++ record { id = id; index = index; words = words } ∷ []) id j ≡ noted_at noted id j
noted_other_place noted id index words j far = noted_more noted id index words id j ∙ rw (is_same id, is_other index j (λ e. far (sym e))) refl

noted_here : (noted : List Noted) (id index : ℕ) (words : List ℕ) → noted_at (noted ++ record { id = id; index = index; words = words } ∷ []) id index ≡ Some words
noted_here noted id index words = noted_more noted id index words id index ∙ rw (is_same id, is_same index) refl

pub show_kept : (g : Notes) (s : State) (d : Disk) (id index : ℕ) (words : List ℕ) (r : DiskRequest) (sectors : Known) (changes : List Change) → Follows g s d → request_of d.requests id ≡ Some r
    → is_open r.stage ≡ true → is_done d.done id index ≡ false → SameWords sectors d.first changes
    → Follows (put g id (with_entry (g id) index words)) (record (with_open (with_progress s (with_done index) id) id (with_note (open_as id r (g id)) index words)) { sectors = sectors })
    (record d { done = d.done ++ place id index ∷ []; changes = changes; noted = d.noted ++ record { id = id; index = index; words = words } ∷ [] })
show_kept g s d id index words r sectors changes f found waits new known =
    let p = place_kept g s d id index r sectors changes f found waits new known in
    record {
      submitted = p.submitted;
      few = p.few;
      requests = same_opens;
      noted = λ k j. ⊎_elim (λ here. at_it k j here) (λ far. elsewhere k j far) (cases_eq k id);
      unnoted = λ k none j. ⊎_elim (λ here. absurd (not_none (request_of d.requests k) r (rw here found) none)) (λ far. noted_elsewhere d.noted id index words k j far ∙ f.unnoted k none j) (cases_eq k id);
      frames = p.frames;
      room = p.room;
      barriers = p.barriers;
      most = p.most;
      doings = p.doings;
      sectors = p.sectors;
    }
  where
    same_opens : set_value (is_at (nat_cmp id)) s.requests (with_note (open_as id r (g id)) index words) ≡ opens (put g id (with_entry (g id) index words)) 1 d.requests
    same_opens =
        let still : is_finished r.stage ≡ false = unfinished r.stage waits in
        let set : opens (put g id (with_entry (g id) index words)) 1 (with_request d.requests id r) ≡ set_value (is_at (nat_cmp id)) (opens g 1 d.requests) (open_as id r (put g id (with_entry (g id) index words) id)) =
        opens_set g (put g id (with_entry (g id) index words)) d.requests id r r found still still (λ k far. put_other g id (with_entry (g id) index words) k far) in
        rw f.requests (sym (ap (λ (rs : List DiskRequest). opens (put g id (with_entry (g id) index words)) 1 rs) (sym (request_stays d.requests id r found)) ∙ set
        ∙ ap (λ (notes : List (ℕ × List ℕ)). set_value (is_at (nat_cmp id)) (opens g 1 d.requests) (open_as id r notes)) (put_same g id (with_entry (g id) index words))))

    place_by : (j : ℕ) → entry_at (with_entry (g id) index words) j ≡ noted_at (d.noted ++ record { id = id; index = index; words = words } ∷ []) id j
    place_by j = ⊎_elim (λ here. rw here (entry_same (g id) index words ∙ sym (noted_here d.noted id index words)))
        (λ far. entry_other (g id) index j words far ∙ f.noted id j ∙ sym (noted_other_place d.noted id index words j far)) (cases_eq j index)

    at_it : (k j : ℕ) → k ≡ id → entry_at (put g id (with_entry (g id) index words) k) j ≡ noted_at (d.noted ++ record { id = id; index = index; words = words } ∷ []) k j
    at_it k j here = rw here (rw (put_same g id (with_entry (g id) index words)) (place_by j))

    elsewhere : (k j : ℕ) → (k ≡ id → ⊥) → entry_at (put g id (with_entry (g id) index words) k) j ≡ noted_at (d.noted ++ record { id = id; index = index; words = words } ∷ []) k j
    elsewhere k j far = rw (put_other g id (with_entry (g id) index words) k far) (f.noted k j ∙ sym (noted_elsewhere d.noted id index words k j far))

-- ---- a submission
capped_small : (n : ℕ) → n ≤ 18446744073709551615 → capped n ≡ n
capped_small n small = omega arith

one_or_none : (submission : Submission) → barriers_of submission ≤ 1
one_or_none submission = by_kind (requests.is_barrier submission) refl
  where
    by_kind : (b : Bool) → requests.is_barrier submission ≡ b → barriers_of submission ≤ 1
    by_kind true is = rw is (omega arith)
    by_kind false is = rw is (omega arith)

pub submit_kept : (g : Notes) (s : State) (d : Disk) (submission : Submission) → Follows g s d → length d.requests < 4294967295 → sum_by (held frames_of) d.requests + frames_of submission ≤ 1000
    → Follows (put g (length d.requests + 1) []) (submitted_to s (length d.requests + 1) submission) (record d { requests = d.requests ++ requests.opened submission ∷ [] })
submit_kept g s d submission f left room = record {
  submitted = sym (length-append d.requests (requests.opened submission ∷ []));
  few = (let more : length (d.requests ++ requests.opened submission ∷ []) ≡ length d.requests + 1 = length-append d.requests (requests.opened submission ∷ []) in omega arith);
  requests = rw f.requests (sym (opens_add g (put g (length d.requests + 1) []) d.requests (requests.opened submission) refl (λ k far. put_other g (length d.requests + 1) [] k far)
      ∙ ap (λ (notes : List (ℕ × List ℕ)). insert_entry nat_cmp (opens g 1 d.requests) (length d.requests + 1) (open_as (length d.requests + 1) (requests.opened submission) notes)) (put_same g (length d.requests + 1) [])));
  noted = λ k j. ⊎_elim (λ here. new_noted k j here) (λ far. rw (put_other g (length d.requests + 1) [] k far) (f.noted k j)) (cases_eq k (length d.requests + 1));
  unnoted = λ k none j. ⊎_elim (λ here. absurd (not_none (request_of (d.requests ++ requests.opened submission ∷ []) k) (requests.opened submission) (rw here (request_new d.requests (requests.opened submission))) none))
      (λ far. f.unnoted k (sym (request_old d.requests (requests.opened submission) k far) ∙ none) j) (cases_eq k (length d.requests + 1));
  frames = frames_so;
  room = (let now : capped (s.frames + frames_of submission) ≡ sum_by (held frames_of) d.requests + frames_of submission = frames_now in omega arith);
  barriers = barriers_so;
  most = most_so;
  doings = λ k. ⊎_elim (λ here. new_doings k here) (λ far. rw (request_old d.requests (requests.opened submission) k far) (f.doings k)) (cases_eq k (length d.requests + 1));
  sectors = f.sectors;
}
  where
    frames_now : capped (s.frames + frames_of submission) ≡ sum_by (held frames_of) d.requests + frames_of submission
    frames_now =
        let is : s.frames ≡ sum_by (held frames_of) d.requests = f.frames in
        let small : s.frames + frames_of submission ≤ 18446744073709551615 = omega arith in
        capped_small (s.frames + frames_of submission) small ∙ ap (λ (n : ℕ). n + frames_of submission) is

    frames_so : capped (s.frames + frames_of submission) ≡ sum_by (held frames_of) (d.requests ++ requests.opened submission ∷ [])
    frames_so = frames_now ∙ sym (held_more frames_of d.requests (requests.opened submission) refl)

    barriers_now : capped (s.barriers + barriers_of submission) ≡ s.barriers + barriers_of submission
    barriers_now =
        let one : barriers_of submission ≤ 1 = one_or_none submission in
        let most : s.barriers ≤ length d.requests = f.most in
        let small : s.barriers + barriers_of submission ≤ 18446744073709551615 = omega arith in
        capped_small (s.barriers + barriers_of submission) small

    barriers_so : capped (s.barriers + barriers_of submission) ≡ sum_by (held barriers_of) (d.requests ++ requests.opened submission ∷ [])
    barriers_so = barriers_now ∙ ap (λ (n : ℕ). n + barriers_of submission) f.barriers ∙ sym (held_more barriers_of d.requests (requests.opened submission) refl)

    most_so : capped (s.barriers + barriers_of submission) ≤ length (d.requests ++ requests.opened submission ∷ [])
    most_so =
        let one : barriers_of submission ≤ 1 = one_or_none submission in
        let most : s.barriers ≤ length d.requests = f.most in
        let more : length (d.requests ++ requests.opened submission ∷ []) ≡ length d.requests + 1 = length-append d.requests (requests.opened submission ∷ []) in
        let now : capped (s.barriers + barriers_of submission) ≡ s.barriers + barriers_of submission = barriers_now in
        omega arith

    new_noted : (k j : ℕ) → k ≡ length d.requests + 1 → entry_at (put g (length d.requests + 1) [] k) j ≡ noted_at d.noted k j
    new_noted k j here = rw here (rw (put_same g (length d.requests + 1) []) (sym (f.unnoted (length d.requests + 1) (request_past d.requests) j)))

    none_before : (o : Option DiskRequest) → o ≡ None → IsTold o (progress_of s.progress (length d.requests + 1)) d.done (length d.requests + 1) → NoDoings (progress_of s.progress (length d.requests + 1)) d.done (length d.requests + 1)
    none_before None is t = t
    none_before (Some r) is t = absurd (cc)

    new_doings : (k : ℕ) → k ≡ length d.requests + 1 → IsTold (request_of (d.requests ++ requests.opened submission ∷ []) k) (progress_of s.progress k) d.done k
    new_doings k here =
        let n : NoDoings (progress_of s.progress (length d.requests + 1)) d.done (length d.requests + 1) = none_before (request_of d.requests (length d.requests + 1)) (request_past d.requests) (f.doings (length d.requests + 1)) in
        rw here (rw (request_new d.requests (requests.opened submission), n.nothing) (λ o. record {
          faulted = refl;
          reply = refl;
          places = λ index. sym (n.places index);
          count = sym n.count;
        }))

-- ---- a new epoch
none_mapped : (o : Option DiskRequest) → option_map reopened o ≡ None → o ≡ None
none_mapped None none = refl
none_mapped (Some r) none = absurd (cc)

pub epoch_kept : (g : Notes) (s : State) (d : Disk) → Follows g s d → Follows g (record s { progress = [] }) (epoch_of d)
epoch_kept g s d f = record {
  submitted = f.submitted ∙ sym (length_reopened d.requests);
  few = rw (length_reopened d.requests) f.few;
  requests = f.requests ∙ sym (reopen_opens g d.requests 1);
  noted = f.noted;
  unnoted = λ k none. f.unnoted k (none_mapped (request_of d.requests k) (sym (request_map reopened d.requests k) ∙ none));
  frames = f.frames ∙ sym (held_reopened frames_of d.requests);
  room = f.room;
  barriers = f.barriers ∙ sym (held_reopened barriers_of d.requests);
  most = rw (length_reopened d.requests) f.most;
  doings = λ k. rw (request_map reopened d.requests k) (anew (request_of d.requests k) k);
  sectors = f.sectors;
}
  where
    anew : (o : Option DiskRequest) (k : ℕ) → IsTold (option_map reopened o) nothing_done [] k
    anew None k = record { nothing = refl; places = λ index. refl; count = refl }
    anew (Some r) k = λ o.
        (let waits : is_open r.stage ≡ true = ap is_open (sym (reopened_stage r)) ∙ o in
        record { faulted = rw waits refl; reply = rw waits refl; places = λ index. refl; count = refl })
