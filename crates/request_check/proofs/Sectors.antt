-- What sectors hold, by the state and on the disk.
use Rattle.std.proofs.Common.{Bool, ⊎_elim, ◌≡◌, ℕ, ◌+◌, ◌≤◌, true, false, if◌then◌else◌, List, [], ◌∷◌, ◌++◌, drop, length, refl, ap, sym, ◌∙◌, arith}
use Rattle.std.specs.Prelude.{Option, Some, None, option_map, slice_get}
use Rattle.std.proofs.lemmas.Bool.{cases_eq}
use Rattle.std.proofs.lemmas.Bool.Decides.{nat_tests}
use Rattle.std.proofs.lemmas.List.{length-append, drop-append-le}
use Rattle.std.proofs.lemmas.List.Sums.{fold-append}
use Rattle.blk_base.specs.declared.config.Submission.{Submission}
use Rattle.plain_disk.specs.declared.request.Extent.{Extent}
use Rattle.plain_disk.specs.declared.request.Change.{Change}
use Rattle.plain_disk.specs.declared.request.Change.TheVariants as change
use Rattle.plain_disk.specs.Request.{sector_of}
use Rattle.plain_disk.specs.Sector.{Sector, only, sector_first, anything, filled, showed, covers, changed, sector_at}
use Rattle.plain_disk.specs.Step.{one_sector, all_sectors}
use Rattle.request_check.specs.declared.words.Single.{Single}
use Rattle.request_check.specs.Entries.{entry_at}
use Rattle.request_check.specs.declared.words.Discarded.{Discarded}
use Rattle.request_check.specs.State.{discarded}
use Rattle.request_check.specs.Words.{Known, has_sector, words_left, after_ranges, words_since, words_in, with_single, with_range}
use Rattle.request_check.proofs.Lookups.{entry_same, entry_other}

-- each sector holds by the state what it holds on the disk, and no single sector was set after more ranges than there are
pub record SameWords (known : Known) (first : List (List ℕ)) (changes : List Change) : Type 0 where
  pub words : (sector : ℕ) → option_map only (words_in known sector) ≡ (sector_at first changes sector).own
  pub since : (sector : ℕ) (single : Single) → entry_at known.singles sector ≡ Some single → single.since ≤ length known.ranges

-- what a change makes of what sectors hold: these have these words from then on, or nobody knows which
abbrev pub Sets : Extent → Option (List ℕ) → Change → Type 0
Sets at words c = (s : Sector) (sector : ℕ) → (changed sector s c).own ≡ (if covers at sector then option_map only words else s.own)

pub sets_filled : (at : Extent) (words : List ℕ) → Sets at (Some words) (change.Filled at words)
sets_filled at words s sector = by_place (covers at sector)
  where
    by_place : (b : Bool) → (if b then filled s words else s).own ≡ (if b then Some (only words) else s.own)
    by_place true = refl
    by_place false = refl

pub sets_spoiled : (at : Extent) → Sets at None (change.Spoiled at)
sets_spoiled at s sector = by_place (covers at sector)
  where
    by_place : (b : Bool) → (if b then anything else s).own ≡ (if b then None else s.own)
    by_place true = refl
    by_place false = refl

pub sets_showed : (at : Extent) (words : List ℕ) → Sets at (Some words) (change.Showed at words)
sets_showed at words s sector = by_place (covers at sector)
  where
    by_place : (b : Bool) → (if b then showed s words else s).own ≡ (if b then Some (only words) else s.own)
    by_place true = refl
    by_place false = refl

own_more : (first : List (List ℕ)) (changes : List Change) (c : Change) (sector : ℕ) → (sector_at first (changes ++ c ∷ []) sector).own ≡ (changed sector (sector_at first changes sector) c).own
own_more first changes c sector = ap (λ (s : Sector). s.own) (fold-append (changed sector) (sector_first (slice_get first sector)) changes (c ∷ []))

own_set : (first : List (List ℕ)) (changes : List Change) (at : Extent) (words : Option (List ℕ)) (c : Change) (sector : ℕ) → Sets at words c
    → (sector_at first (changes ++ c ∷ []) sector).own ≡ (if covers at sector then option_map only words else (sector_at first changes sector).own)
own_set first changes at words c sector sets = own_more first changes c sector ∙ sets (sector_at first changes sector) sector

-- a flush leaves what sectors hold
pub same_flushed : (known : Known) (first : List (List ℕ)) (changes : List Change) → SameWords known first changes → SameWords known first (changes ++ change.Flushed ∷ [])
same_flushed known first changes s = record { words = λ sector. s.words sector ∙ sym (own_more first changes change.Flushed sector); since = s.since }

ranges_more : (words : Option (List ℕ)) (ranges : List Discarded) (range : Discarded) (sector : ℕ) → after_ranges words (ranges ++ range ∷ []) sector ≡ (if has_sector range sector then words_left range else after_ranges words ranges sector)
ranges_more words ranges range sector = fold-append (λ (w : Option (List ℕ)) (x : Discarded). if has_sector x sector then words_left x else w) words ranges (range ∷ [])

drop_all : {A : Type 0} (xs : List A) → drop (length xs) xs ≡ []
drop_all [] = refl
drop_all (x ∷ xs) = drop_all xs

-- ---- one sector
one_covers : (submission : Submission) (index : ℕ) → covers (one_sector submission index) (sector_of submission + index) ≡ true
one_covers submission index = grind (arith, nat_tests)

one_passes : (submission : Submission) (index sector : ℕ) → (sector ≡ sector_of submission + index → ⊥) → covers (one_sector submission index) sector ≡ false
one_passes submission index sector far = grind (arith, nat_tests)

set_here : (known : Known) (sector : ℕ) (words : Option (List ℕ)) → words_in (with_single known sector words) sector ≡ words
set_here known sector words = rw (entry_same known.singles sector (record { words = words; since = length known.ranges })) (rw (drop_all known.ranges) refl)

set_elsewhere : (known : Known) (sector other : ℕ) (words : Option (List ℕ)) → (other ≡ sector → ⊥) → words_in (with_single known sector words) other ≡ words_in known other
set_elsewhere known sector other words far = rw (entry_other known.singles sector other (record { words = words; since = length known.ranges }) far) refl

pub same_single : (known : Known) (first : List (List ℕ)) (changes : List Change) (submission : Submission) (index : ℕ) (words : Option (List ℕ)) (c : Change) → Sets (one_sector submission index) words c → SameWords known first changes
    → SameWords (with_single known (sector_of submission + index) words) first (changes ++ c ∷ [])
same_single known first changes submission index words c sets s = record {
  words = λ sector. ⊎_elim (λ here. at_it sector here) (λ far. elsewhere sector far) (cases_eq sector (sector_of submission + index));
  since = λ sector single found. ⊎_elim (λ here. since_here sector single here found) (λ far. since_elsewhere sector single far found) (cases_eq sector (sector_of submission + index));
}
  where
    it : Single
    it = record { words = words; since = length known.ranges }

    at_it : (sector : ℕ) → sector ≡ sector_of submission + index → option_map only (words_in (with_single known (sector_of submission + index) words) sector) ≡ (sector_at first (changes ++ c ∷ []) sector).own
    at_it sector here = rw here (ap (option_map only) (set_here known (sector_of submission + index) words)
        ∙ sym (own_set first changes (one_sector submission index) words c (sector_of submission + index) sets ∙ rw (one_covers submission index) refl))

    elsewhere : (sector : ℕ) → (sector ≡ sector_of submission + index → ⊥) → option_map only (words_in (with_single known (sector_of submission + index) words) sector) ≡ (sector_at first (changes ++ c ∷ []) sector).own
    elsewhere sector far = ap (option_map only) (set_elsewhere known (sector_of submission + index) sector words far) ∙ s.words sector
        ∙ sym (own_set first changes (one_sector submission index) words c sector sets ∙ rw (one_passes submission index sector far) refl)

    since_here : (sector : ℕ) (single : Single) → sector ≡ sector_of submission + index → entry_at (with_single known (sector_of submission + index) words).singles sector ≡ Some single → single.since ≤ length known.ranges
    since_here sector single here found =
        let set : entry_at (with_single known (sector_of submission + index) words).singles sector ≡ Some (record { words = words; since = length known.ranges }) = rw here (entry_same known.singles (sector_of submission + index) (record { words = words; since = length known.ranges })) in
        let is : single ≡ record { words = words; since = length known.ranges } = cc in
        let at : single.since ≡ length known.ranges = ap (λ (x : Single). x.since) is in
        omega arith

    since_elsewhere : (sector : ℕ) (single : Single) → (sector ≡ sector_of submission + index → ⊥) → entry_at (with_single known (sector_of submission + index) words).singles sector ≡ Some single → single.since ≤ length known.ranges
    since_elsewhere sector single far found = s.since sector single (sym (entry_other known.singles (sector_of submission + index) sector (record { words = words; since = length known.ranges }) far) ∙ found)

-- ---- a discard
range_by : (known : Known) (range : Discarded) (sector : ℕ) (o : Option Single) → entry_at known.singles sector ≡ o → ((single : Single) → o ≡ Some single → single.since ≤ length known.ranges)
    → words_since (known.ranges ++ range ∷ []) sector o ≡ (if has_sector range sector then words_left range else words_since known.ranges sector o)
range_by known range sector None is within = ranges_more None known.ranges range sector
range_by known range sector (Some single) is within = rw (drop-append-le single.since known.ranges (range ∷ []) (within single refl)) (ranges_more single.words (drop single.since known.ranges) range sector)

same_sectors : (submission : Submission) (failed : Bool) (sector : ℕ) → covers (all_sectors submission) sector ≡ has_sector (discarded submission failed) sector
same_sectors submission failed sector =
    let first : sector_of submission + 0 ≡ sector_of submission = omega arith in
    rw first refl

map_if : (b : Bool) (x y : Option (List ℕ)) → option_map only (if b then x else y) ≡ (if b then option_map only x else option_map only y)
map_if true x y = refl
map_if false x y = refl

pub same_range : (known : Known) (first : List (List ℕ)) (changes : List Change) (submission : Submission) (failed : Bool) (c : Change) → Sets (all_sectors submission) (words_left (discarded submission failed)) c → SameWords known first changes
    → SameWords (with_range known (discarded submission failed)) first (changes ++ c ∷ [])
same_range known first changes submission failed c sets s = record {
  words = λ sector.
      ap (option_map only) (range_by known (discarded submission failed) sector (entry_at known.singles sector) refl (λ single found. s.since sector single found))
      ∙ map_if (has_sector (discarded submission failed) sector) (words_left (discarded submission failed)) (words_in known sector)
      ∙ ap (λ (w : Option (List (List ℕ))). if has_sector (discarded submission failed) sector then option_map only (words_left (discarded submission failed)) else w) (s.words sector)
      ∙ sym (own_set first changes (all_sectors submission) (words_left (discarded submission failed)) c sector sets ∙ rw (same_sectors submission failed sector) refl);
  since = λ sector single found.
      (let all : length (known.ranges ++ discarded submission failed ∷ []) ≡ length known.ranges + 1 = length-append known.ranges (discarded submission failed ∷ []) in
      let within : single.since ≤ length known.ranges = s.since sector single found in
      let more : single.since ≤ length (known.ranges ++ discarded submission failed ∷ []) = omega arith in
      more);
}
