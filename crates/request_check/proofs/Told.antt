-- What was done of a request, by the state and on the disk.
use Rattle.std.proofs.Common.{⊎_elim, ◌≡◌, ℕ, ◌+◌, ◌==◌, ◌&&◌, ◌||◌, Bool, true, false, if◌then◌else◌, List, [], ◌∷◌, ◌++◌, length, refl, ap, sym, ◌∙◌, arith}
use Rattle.std.specs.Prelude.{Option, Some, None}
use Rattle.std.specs.Map.{lookup, remove_entry}
use Rattle.std.specs.BTreeMap.{is_at}
use Rattle.std.specs.Ordering.{nat_cmp}
use Rattle.std.proofs.lemmas.Bool.{cases_eq}
use Rattle.std.proofs.lemmas.Bool.Decides.{nat_tests}
use Rattle.std.proofs.lemmas.List.Folds.{list_any-append}
use Rattle.std.proofs.lemmas.List.Sums.{sum_by-append}
use Rattle.plain_disk.specs.declared.request.DiskRequest.{DiskRequest}
use Rattle.plain_disk.specs.declared.request.Place.{Place}
use Rattle.plain_disk.specs.Request.{is_open, is_done, done_count}
use Rattle.plain_disk.specs.Step.{place}
use Rattle.request_check.specs.Progress.{Progress, nothing_done, is_place_done, with_done, progress_of, changed, changed_by}
use Rattle.request_check.proofs.Lookups.{inserted_same, inserted_other, set_same, set_other, removed_other, any_same, any_other, length_inserted}

changed_same_by : (change : Progress → Progress) (kept : List (ℕ × Progress)) (id : ℕ) (o : Option Progress) → lookup (is_at (nat_cmp id)) kept ≡ o → progress_of (changed_by change kept id o) id ≡ change (progress_of kept id)
changed_same_by change kept id None is = rw (is, inserted_same kept id (change nothing_done)) refl
changed_same_by change kept id (Some p) is = rw (is, set_same kept id p (change p) is) refl

changed_other_by : (change : Progress → Progress) (kept : List (ℕ × Progress)) (id k : ℕ) (o : Option Progress) → (k ≡ id → ⊥) → progress_of (changed_by change kept id o) k ≡ progress_of kept k
changed_other_by change kept id k None far = rw (inserted_other kept id k (change nothing_done) far) refl
changed_other_by change kept id k (Some p) far = rw (set_other kept id k (change p) far) refl

pub changed_same : (change : Progress → Progress) (kept : List (ℕ × Progress)) (id : ℕ) → progress_of (changed change kept id) id ≡ change (progress_of kept id)
changed_same change kept id = changed_same_by change kept id (lookup (is_at (nat_cmp id)) kept) refl

pub changed_other : (change : Progress → Progress) (kept : List (ℕ × Progress)) (id k : ℕ) → (k ≡ id → ⊥) → progress_of (changed change kept id) k ≡ progress_of kept k
changed_other change kept id k far = changed_other_by change kept id k (lookup (is_at (nat_cmp id)) kept) far

pub forgotten_other : (kept : List (ℕ × Progress)) (id k : ℕ) → (k ≡ id → ⊥) → progress_of (remove_entry (is_at (nat_cmp id)) kept) k ≡ progress_of kept k
forgotten_other kept id k far = rw (removed_other kept id k far) refl

-- ---- one place more
or_none : (b : Bool) → (b || false) ≡ b
or_none true = refl
or_none false = refl

or_last : (b : Bool) → (b || true) ≡ true
or_last true = refl
or_last false = refl

done_more : (done : List Place) (id index k j : ℕ) → is_done (done ++ place id index ∷ []) k j ≡ (is_done done k j || ((id == k) && (index == j)))
done_more done id index k j = list_any-append (λ (p : Place). p.id == k && p.index == j) done (place id index ∷ []) ∙ ap (λ (b : Bool). is_done done k j || b) (or_none ((id == k) && (index == j)))

count_more : (done : List Place) (id index k : ℕ) → done_count (done ++ place id index ∷ []) k ≡ done_count done k + (if id == k then 1 else 0)
count_more done id index k =
    let all : done_count (done ++ place id index ∷ []) k ≡ done_count done k + done_count (place id index ∷ []) k = sum_by-append (λ (p : Place). if p.id == k then 1 else 0) done (place id index ∷ []) in
    let one : done_count (place id index ∷ []) k ≡ (if id == k then 1 else 0) = omega arith in
    rw (← one) all

is_same : (k : ℕ) → (k == k) ≡ true
is_same k = grind (arith, nat_tests)

is_other : (k q : ℕ) → (k ≡ q → ⊥) → (k == q) ≡ false
is_other k q far = grind (arith, nat_tests)

pub done_elsewhere : (done : List Place) (id index k j : ℕ) → (k ≡ id → ⊥) → is_done (done ++ place id index ∷ []) k j ≡ is_done done k j
done_elsewhere done id index k j far = done_more done id index k j ∙ rw (is_other id k (λ e. far (sym e))) (or_none (is_done done k j))

pub count_elsewhere : (done : List Place) (id index k : ℕ) → (k ≡ id → ⊥) → done_count (done ++ place id index ∷ []) k ≡ done_count done k
count_elsewhere done id index k far = count_more done id index k ∙ rw (is_other id k (λ e. far (sym e))) (omega arith)

done_other_place : (done : List Place) (id index j : ℕ) → (j ≡ index → ⊥) → is_done (done ++ place id index ∷ []) id j ≡ is_done done id j
done_other_place done id index j far = done_more done id index id j ∙ rw (is_same id, is_other index j (λ e. far (sym e))) (or_none (is_done done id j))

done_here : (done : List Place) (id index : ℕ) → is_done (done ++ place id index ∷ []) id index ≡ true
done_here done id index = done_more done id index id index ∙ rw (is_same id, is_same index) (or_last (is_done done id index))

count_here : (done : List Place) (id index : ℕ) → done_count (done ++ place id index ∷ []) id ≡ done_count done id + 1
count_here done id index = count_more done id index id ∙ rw (is_same id) refl

-- what the state keeps of an open request is what the disk has of it
pub record SameDoings (p : Progress) (r : DiskRequest) (done : List Place) (id : ℕ) : Type 0 where
  pub faulted : p.faulted ≡ r.faulted
  pub reply : p.reply ≡ r.reply
  pub places : (index : ℕ) → is_place_done p index ≡ is_done done id index
  pub count : length p.done ≡ done_count done id

-- nothing was done under a number
pub record NoDoings (p : Progress) (done : List Place) (id : ℕ) : Type 0 where
  pub nothing : p ≡ nothing_done
  pub places : (index : ℕ) → is_done done id index ≡ false
  pub count : done_count done id ≡ 0

abbrev pub IsTold : Option DiskRequest → Progress → List Place → ℕ → Type 0
IsTold None p done id = NoDoings p done id
IsTold (Some r) p done id = is_open r.stage ≡ true → SameDoings p r done id

pub told_elsewhere : (o : Option DiskRequest) (p : Progress) (done : List Place) (id index k : ℕ) → (k ≡ id → ⊥) → IsTold o p done k → IsTold o p (done ++ place id index ∷ []) k
told_elsewhere None p done id index k far t = record {
  nothing = t.nothing;
  places = λ j. done_elsewhere done id index k j far ∙ t.places j;
  count = count_elsewhere done id index k far ∙ t.count;
}
told_elsewhere (Some r) p done id index k far t = λ waits.
    (let s : SameDoings p r done k = t waits in
    record {
      faulted = s.faulted;
      reply = s.reply;
      places = λ j. s.places j ∙ sym (done_elsewhere done id index k j far);
      count = s.count ∙ sym (count_elsewhere done id index k far);
    })

place_by : (p : Progress) (done : List Place) (id index j : ℕ) → is_place_done p j ≡ is_done done id j → is_place_done (with_done index p) j ≡ is_done (done ++ place id index ∷ []) id j
place_by p done id index j same = ⊎_elim (λ here. at_it here) (λ far. elsewhere far) (cases_eq j index)
  where
    at_it : j ≡ index → is_place_done (with_done index p) j ≡ is_done (done ++ place id index ∷ []) id j
    at_it here = rw here (any_same p.done index ∙ sym (done_here done id index))

    elsewhere : (j ≡ index → ⊥) → is_place_done (with_done index p) j ≡ is_done (done ++ place id index ∷ []) id j
    elsewhere far = any_other p.done index j far ∙ same ∙ sym (done_other_place done id index j far)

pub told_done : (p : Progress) (r : DiskRequest) (done : List Place) (id index : ℕ) → is_done done id index ≡ false → SameDoings p r done id → SameDoings (with_done index p) r (done ++ place id index ∷ []) id
told_done p r done id index new s =
    let one : length (with_done index p).done ≡ length p.done + 1 = length_inserted p.done index (s.places index ∙ new) in
    record {
      faulted = s.faulted;
      reply = s.reply;
      places = λ j. place_by p done id index j (s.places j);
      count = one ∙ ap (λ (n : ℕ). n + 1) s.count ∙ sym (count_here done id index);
    }
