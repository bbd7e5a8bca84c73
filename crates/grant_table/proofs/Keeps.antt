-- A grant table stays sound when a mapping is added or taken out.
use Rattle.std.proofs.Common.{◌≡◌, ◌≢◌, ℕ, ◌+◌, ◌-◌, ◌<◌, ◌≤◌, ◌==◌, ◌&&◌, not, Bool, true, false, cond, List, [], ◌∷◌, ◌++◌, length, get_or, slice_index, set, refl, sym, ◌∙◌, inl, inr, arith, length-set, get_or-set_same, get_or-set_other}
use Rattle.std.specs.List.{remove, sum_by}
use Rattle.std.proofs.lemmas.Bool.{cases_eq}
use Rattle.std.proofs.lemmas.Bool.Decides.{nat_tests}
use Rattle.std.proofs.lemmas.List.Sums.{sum_by_push, sum_by-remove, get_or-le-sum_by, count_by-le-length}
use Rattle.std.proofs.lemmas.List.Elements.{All-push, All-filter}
use Rattle.blk_base.specs.declared.parts.Mapping.{Mapping}
use Rattle.blk_base.specs.declared.parts.Mode.{Mode}
use Rattle.blk_base.specs.declared.parts.Mode.TheVariants.{ReadOnly, ReadWrite}
use Rattle.grant_table.specs.declared.held.Held.{Held}
use Rattle.grant_table.specs.Entry.{is_for_writing, writer_count}
use Rattle.grant_table.specs.Sound.{IsGrantable, IsPlaceOf, IsSound, nothing_held}
use Rattle.grant_table.proofs.Live.{number_at, without-number_at, IsAscending-without, IsAscending-append}

-- what a mapping counts for a reference
abbrev as_mapping : ℕ → Held → ℕ
as_mapping gref held = cond (held.mapping.gref == gref) 1 0

abbrev as_writer : ℕ → Held → ℕ
as_writer gref held = cond (held.mapping.gref == gref && is_for_writing held.mapping.mode) 1 0

as_mapping-own : (held : Held) → as_mapping held.mapping.gref held ≡ 1
as_mapping-own held = grind (arith, nat_tests)

as_mapping-other : (held : Held) (gref : ℕ) → gref ≢ held.mapping.gref → as_mapping gref held ≡ 0
as_mapping-other held gref other = grind (arith, nat_tests)

writer_by_mode : (mode : Mode) (same : Bool) → same ≡ true → cond (same && is_for_writing mode) 1 0 ≡ writer_count mode
writer_by_mode ReadOnly true e = refl
writer_by_mode ReadWrite true e = refl
writer_by_mode ReadOnly false e = refl
writer_by_mode ReadWrite false e = cc

as_writer-own : (held : Held) → as_writer held.mapping.gref held ≡ writer_count held.mapping.mode
as_writer-own held = writer_by_mode held.mapping.mode (held.mapping.gref == held.mapping.gref) (grind (arith, nat_tests))

no_writer : (mode : Mode) (same : Bool) → same ≡ false → ◌≡◌ {A = ℕ} (cond (same && is_for_writing mode) 1 0) 0
no_writer mode true e = cc
no_writer mode false e = refl

as_writer-other : (held : Held) (gref : ℕ) → gref ≢ held.mapping.gref → as_writer gref held ≡ 0
as_writer-other held gref other = no_writer held.mapping.mode (held.mapping.gref == gref) (grind (arith, nat_tests))

-- Counts by reference, of a weight f that a mapping has for its own reference alone.
module _ (f : ℕ → Held → ℕ) (counts : List ℕ) (live : List Held) (len : length counts ≡ 1024) (counted : (gref : ℕ) → gref < 1024 → slice_index counts gref ≡ sum_by (f gref) live) where
  count_added : (held : Held) (m own : ℕ) → held.mapping.gref < 1024 → m ≡ slice_index counts held.mapping.gref → own ≡ f held.mapping.gref held → ((gref : ℕ) → gref ≢ held.mapping.gref → f gref held ≡ 0) → (gref : ℕ) → gref < 1024 → slice_index (set counts held.mapping.gref (m + own)) gref ≡ sum_by (f gref) (live ++ held ∷ [])
  count_added held m own within is_count is_own others gref lt = elim (cases_eq gref held.mapping.gref) [
    | inl e ↦
        let pushed = sum_by_push (f gref) live held in
        let old = counted gref lt in
        let weight : f gref held ≡ own = cc in
        let was : slice_index counts gref ≡ m = cc in
        let new : slice_index (set counts held.mapping.gref (m + own)) gref ≡ m + own = rw e (get_or-set_same counts held.mapping.gref (m + own) 0 (omega arith)) in
        omega arith
    | inr differs ↦
        let pushed = sum_by_push (f gref) live held in
        let old = counted gref lt in
        let none = others gref differs in
        let new = get_or-set_other counts held.mapping.gref gref (m + own) 0 differs in
        omega arith
  ]

  count_removed : (held : Held) (i m own : ℕ) → i < length live → get_or live i nothing_held ≡ held → held.mapping.gref < 1024 → m ≡ slice_index counts held.mapping.gref → own ≡ f held.mapping.gref held → ((gref : ℕ) → gref ≢ held.mapping.gref → f gref held ≡ 0) → (gref : ℕ) → gref < 1024 → slice_index (set counts held.mapping.gref (m - own)) gref ≡ sum_by (f gref) (remove live i)
  count_removed held i m own in_range here within is_count is_own others gref lt = elim (cases_eq gref held.mapping.gref) [
    | inl e ↦
        let taken = rw here at (sum_by-remove (f gref) live i nothing_held in_range) in
        let old = counted gref lt in
        let weight : f gref held ≡ own = cc in
        let was : slice_index counts gref ≡ m = cc in
        let new : slice_index (set counts held.mapping.gref (m - own)) gref ≡ m - own = rw e (get_or-set_same counts held.mapping.gref (m - own) 0 (omega arith)) in
        omega arith
    | inr differs ↦
        let taken = rw here at (sum_by-remove (f gref) live i nothing_held in_range) in
        let old = counted gref lt in
        let none = others gref differs in
        let new = get_or-set_other counts held.mapping.gref gref (m - own) 0 differs in
        omega arith
  ]

  -- what is counted for a reference is at least what one mapping counts
  count_covers : (held : Held) (i m own : ℕ) → i < length live → get_or live i nothing_held ≡ held → held.mapping.gref < 1024 → m ≡ slice_index counts held.mapping.gref → own ≡ f held.mapping.gref held → own ≤ m
  count_covers held i m own in_range here within is_count is_own =
      let one = rw here at (get_or-le-sum_by (f held.mapping.gref) live i nothing_held in_range) in
      let old = counted held.mapping.gref within in
      omega arith

module _ (made room : ℕ) (live : List Held) (mappings writers : List ℕ) (sound : IsSound made live room mappings writers) where
  -- a count is at most the number of live mappings
  pub mappings-le : (gref m : ℕ) → gref < 1024 → m ≡ slice_index mappings gref → m ≤ length live
  mappings-le gref m lt e = omega (arith, sound.mappings_counted gref lt, count_by-le-length (λ held. held.mapping.gref == gref) live)

  pub writers-le : (gref m : ℕ) → gref < 1024 → m ≡ slice_index writers gref → m ≤ length live
  writers-le gref m lt e = omega (arith, sound.writers_counted gref lt, count_by-le-length (λ held. held.mapping.gref == gref && is_for_writing held.mapping.mode) live)

  -- a new mapping, with the next number
  pub IsSound-hold : (held : Held) (room' m w own : ℕ) → held.mapping.number ≡ made + 1 → IsGrantable held → room ≤ room' → m ≡ slice_index mappings held.mapping.gref → w ≡ slice_index writers held.mapping.gref → own ≡ writer_count held.mapping.mode
      → IsSound (made + 1) (live ++ held ∷ []) room' (set mappings held.mapping.gref (m + 1)) (set writers held.mapping.gref (w + own))
  IsSound-hold held room' m w own next grantable more is_m is_w is_own = record {
    ascending = IsAscending-append 0 live held sound.ascending (omega arith) (λ i lt. omega (arith, sound.made_before i nothing_held lt));
    made_before = All-push (λ h. h.mapping.number ≤ made + 1) live held (λ i d lt. omega (arith, sound.made_before i d lt)) (omega arith);
    grantable = All-push IsGrantable live held sound.grantable grantable;
    has_room = omega (arith, sound.has_room);
    mappings_len = omega (arith, length-set {A = ℕ}, sound.mappings_len);
    writers_len = omega (arith, length-set {A = ℕ}, sound.writers_len);
    mappings_counted = count_added as_mapping mappings live sound.mappings_len sound.mappings_counted held m 1 grantable.reference is_m (sym (as_mapping-own held)) (as_mapping-other held);
    writers_counted = count_added as_writer writers live sound.writers_len sound.writers_counted held w own grantable.reference is_w (is_own ∙ sym (as_writer-own held)) (as_writer-other held);
  }

  -- a mapping less, at a place
  module _ (mapping : Mapping) (i : ℕ) (place : IsPlaceOf live mapping i) where
    let_go : (held : Held) (room' m w own : ℕ) → get_or live i nothing_held ≡ held → room ≤ room' → m ≡ slice_index mappings held.mapping.gref → w ≡ slice_index writers held.mapping.gref → own ≡ writer_count held.mapping.mode
        → IsSound made (remove live i) room' (set mappings held.mapping.gref (m - 1)) (set writers held.mapping.gref (w - own))
    let_go held room' m w own is_held more is_m is_w is_own =
        let grantable : IsGrantable held = rw is_held at (sound.grantable i nothing_held place.is_place.within) in
        let gone = without-number_at 0 live i sound.ascending place.is_place.within in
        record {
          ascending = rw gone at (IsAscending-without (number_at live i) 0 live sound.ascending);
          made_before = rw gone at (All-filter (λ h. not (h.mapping.number == number_at live i)) (λ h. h.mapping.number ≤ made) live sound.made_before);
          grantable = rw gone at (All-filter (λ h. not (h.mapping.number == number_at live i)) IsGrantable live sound.grantable);
          has_room = omega (arith, sound.has_room);
          mappings_len = omega (arith, length-set {A = ℕ}, sound.mappings_len);
          writers_len = omega (arith, length-set {A = ℕ}, sound.writers_len);
          mappings_counted = count_removed as_mapping mappings live sound.mappings_len sound.mappings_counted held i m 1 place.is_place.within is_held grantable.reference is_m (sym (as_mapping-own held)) (as_mapping-other held);
          writers_counted = count_removed as_writer writers live sound.writers_len sound.writers_counted held i w own place.is_place.within is_held grantable.reference is_w (is_own ∙ sym (as_writer-own held)) (as_writer-other held);
        }

    pub IsSound-let_go : (room' m w own : ℕ) → room ≤ room' → m ≡ slice_index mappings mapping.gref → w ≡ slice_index writers mapping.gref → own ≡ writer_count mapping.mode
        → IsSound made (remove live i) room' (set mappings mapping.gref (m - 1)) (set writers mapping.gref (w - own))
    IsSound-let_go room' m w own more is_m is_w is_own =
        rw (← place.here) (let_go (get_or live i nothing_held) room' m w own refl more (rw place.here is_m) (rw place.here is_w) (rw place.here is_own))

    pub IsGrantable-live : mapping.gref < 1024
    IsGrantable-live = let grantable = sound.grantable i nothing_held place.is_place.within in rw (← place.here) grantable.reference

    -- the counts of its reference cover it
    pub mappings_cover : (m : ℕ) → m ≡ slice_index mappings mapping.gref → 1 ≤ m
    mappings_cover m is_m =
        let held = get_or live i nothing_held in
        let grantable = sound.grantable i nothing_held place.is_place.within in
        count_covers as_mapping mappings live sound.mappings_len sound.mappings_counted held i m 1 place.is_place.within refl grantable.reference (rw place.here is_m) (sym (as_mapping-own held))

    pub writers_cover : (w own : ℕ) → w ≡ slice_index writers mapping.gref → own ≡ writer_count mapping.mode → own ≤ w
    writers_cover w own is_w is_own =
        let held = get_or live i nothing_held in
        let grantable = sound.grantable i nothing_held place.is_place.within in
        count_covers as_writer writers live sound.writers_len sound.writers_counted held i w own place.is_place.within refl grantable.reference (rw place.here is_w) (rw place.here is_own ∙ sym (as_writer-own held))
