-- What any words are read as stands in them.
use Rattle.std.proofs.Common.{◌≡◌, ℕ, zero, suc, ◌+◌, ◌-◌, ◌*◌, ◌/◌, ◌%◌, ◌^◌, ◌<◌, List, [], ◌∷◌, ◌++◌, slice_index, nat_eq, true, false, Bool, refl, sym, ap, ◌∙◌, subst, arith}
use Rattle.std.proofs.lemmas.Nat.{shr-shr, field_of, mod-pow-add, pow_pos, mod_below}
use Rattle.std.proofs.lemmas.Bool.{eqb-true}
use Rattle.blk_base.specs.declared.operation.Abi.{Abi}
use Rattle.blk_layout.specs.declared.places.Places.{Places}
use Rattle.blk_layout.specs.declared.request.RawRequest.{RawRequest}
use Rattle.blk_layout.specs.Field.{Field, bits, two_words, IsBits, StandFor}
use Rattle.blk_layout.specs.Places.{places_of}
use Rattle.blk_layout.specs.Entry.{segments_fields, pages_fields, fields_at, fields_of, double_at, segments_at, pages_at, read_at, request_of}

low_bit : (n j : ℕ) → n % 2 ^ (j + 1) % 2 ≡ n % 2
low_bit n j =
    let split : n % 2 ^ (j + 1) ≡ n / 2 ^ 1 % 2 ^ j * 2 ^ 1 + n % 2 ^ 1 = mod-pow-add n j 1 in rw split (omega arith)

-- the bits of a word from `low` on are the bits of the quotient's rest
pub bits_of : (word low width : ℕ) → IsBits word low width (word / 2 ^ low % 2 ^ width)
bits_of word low width = record {
  fits = mod_below (word / 2 ^ low) (2 ^ width) (pow_pos width);
  same = λ k lt.
      let rest = width - k - 1 in
      let n = word / 2 ^ low in
      let wide : width ≡ (rest + 1) + k = omega arith in
      let parts : n % 2 ^ width / 2 ^ k ≡ n / 2 ^ k % 2 ^ (rest + 1) = ap (λ w. n % 2 ^ w / 2 ^ k) wide ∙ field_of n (rest + 1) k in
      let there : n / 2 ^ k ≡ word / 2 ^ (low + k) = shr-shr word low k in
      sym (ap (λ q. q % 2) parts ∙ (low_bit (n / 2 ^ k) rest ∙ ap (λ q. q % 2) there));
}

pub stand-append : (words : List ℕ) (xs ys : List Field) → StandFor words xs → StandFor words ys → StandFor words (xs ++ ys)
stand-append words [] ys f g = g
stand-append words (x ∷ xs) ys f g = (f.0, stand-append words xs ys f.1 g)

-- the same, where the value is known otherwise
pub bits_are : (word low width value : ℕ) → value ≡ word / 2 ^ low % 2 ^ width → IsBits word low width value
bits_are word low width value e = subst (λ v. IsBits word low width v) (sym e) (bits_of word low width)

pub whole : (word value : ℕ) → word < 2 ^ 32 → value ≡ word → IsBits word 0 32 value
whole word value fits e = bits_are word 0 32 value (omega arith)

pub double_stands : (words : List ℕ) (at : ℕ) → ((i : ℕ) → slice_index words i < 2 ^ 32) → StandFor words (two_words at (double_at words at))
double_stands words at fits =
    let first = fits at in let second = fits (at + 1) in
    (whole _ _ first (omega arith), (whole _ _ second (omega arith), tt))

segments_stand : (count : ℕ) (words : List ℕ) (at : ℕ) → ((i : ℕ) → slice_index words i < 2 ^ 32) → StandFor words (segments_fields at (segments_at words at count))
unfolding segments_at
segments_stand zero words at fits = tt
segments_stand (suc count) words at fits =
    let first = fits at in
    (whole _ _ first refl, (bits_are _ 0 8 _ (omega arith), (bits_of _ 8 8, segments_stand count words (at + 2) fits)))

pages_stand : (count : ℕ) (words : List ℕ) (at : ℕ) → ((i : ℕ) → slice_index words i < 2 ^ 32) → StandFor words (pages_fields at (pages_at words at count))
unfolding pages_at
pages_stand zero words at fits = tt
pages_stand (suc count) words at fits = (whole _ _ (fits at) refl, pages_stand count words (at + 1) fits)

-- the fields that all forms begin with
begin_stands : (words : List ℕ) (at : Places) (op : ℕ) (rest : List Field) → op ≡ slice_index words 0 % 2 ^ 8 → ((i : ℕ) → slice_index words i < 2 ^ 32) → StandFor words rest → StandFor words (bits 0 0 8 op ∷ bits 0 8 8 (slice_index words 0 / 2 ^ 8 % 2 ^ 8) ∷ bits 0 16 16 (slice_index words 0 / 2 ^ 16 % 2 ^ 16) ∷ two_words at.id (double_at words at.id) ++ two_words at.sector (double_at words at.sector) ++ rest)
begin_stands words at op rest e fits r =
    let id = double_stands words at.id fits in
    let sector = double_stands words at.sector fits in
    (bits_are _ 0 8 _ (omega arith), (bits_of _ 8 8, (bits_of _ 16 16, (id.0, (id.1.0, (sector.0, (sector.1.0, r)))))))

by_op : (words : List ℕ) (at : Places) (five six : Bool) → nat_eq (slice_index words 0 % 2 ^ 8) 5 ≡ five → nat_eq (slice_index words 0 % 2 ^ 8) 6 ≡ six → ((i : ℕ) → slice_index words i < 2 ^ 32) → StandFor words (fields_at at (read_at at words))
by_op words at true six is5 is6 fits =
    rw is5 (begin_stands words at 5 (two_words at.discard_count (double_at words at.discard_count)) (sym (eqb-true _ _ is5)) fits (double_stands words at.discard_count fits))
by_op words at false true is5 is6 fits =
    let tail : StandFor words (bits at.indirect_device 0 16 (slice_index words at.indirect_device % 2 ^ 16) ∷ pages_fields at.pages (pages_at words at.pages 8)) = (bits_are _ 0 16 _ (omega arith), pages_stand 8 words at.pages fits) in
    rw (is5, is6) (begin_stands words at 6 (bits at.indirect_device 0 16 (slice_index words at.indirect_device % 2 ^ 16) ∷ pages_fields at.pages (pages_at words at.pages 8)) (sym (eqb-true _ _ is6)) fits tail)
by_op words at false false is5 is6 fits =
    rw (is5, is6) (begin_stands words at (slice_index words 0 % 2 ^ 8) (segments_fields at.segments (segments_at words at.segments 11)) refl fits (segments_stand 11 words at.segments fits))

-- what any words are read as stands in them
pub read_stands : (abi : Abi) (words : List ℕ) → ((i : ℕ) → slice_index words i < 2 ^ 32) → StandFor words (fields_of abi (request_of abi words))
unfolding request_of
read_stands abi words fits = by_op words (places_of abi) _ _ refl refl fits

pub stands_since : (abi : Abi) (words : List ℕ) (raw : RawRequest) → raw ≡ request_of abi words → ((i : ℕ) → slice_index words i < 2 ^ 32) → StandFor words (fields_of abi raw)
stands_since abi words raw e fits = subst (λ r. StandFor words (fields_of abi r)) (sym e) (read_stands abi words fits)
