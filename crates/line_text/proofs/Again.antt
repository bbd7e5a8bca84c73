-- What was written is read again.
use Rattle.std.proofs.Common.{◌≡◌, ℕ, suc, ◌+◌, ◌-◌, ◌*◌, ◌/◌, ◌%◌, ◌^◌, ◌<◌, ◌≤◌, false, eqb, List, [], ◌∷◌, ◌++◌, length, get_or, ◌∙◌, arith, refl, ℤ, pos, negsuc, decimal}
use Rattle.std.specs.Fmt.{signed_decimal}
use Rattle.std.proofs.lemmas.Fmt.{decimal_by_steps, decimal_is_IsNumeral}
use Rattle.std.proofs.lemmas.Str.Parse.{digit_at}
use Rattle.std.proofs.lemmas.List.{get_or_default}
use Rattle.std.proofs.lemmas.List.Elements.{All-from_recursion, All-cons}
use Rattle.std.proofs.lemmas.List.Sums.{fold_push}
use Rattle.std.specs.Int.{w32}
use Rattle.std.specs.Prelude.{FitsSigned, min}
use Rattle.std.proofs.lemmas.Bool.Decides.{nat_tests}
use Rattle.line_text.specs.Words.{is_space, HasNoSpace}
use Rattle.line_text.specs.Numbers.{number_of, number_step, hex_of, hex_step, digit_of, glyph, hex8, signed_of}

number_push : (word : List ℕ) (c : ℕ) → number_of (word ++ c ∷ []) ≡ number_step (number_of word) c
unfolding number_of
number_push word c = fold_push number_step 0 word c

number_one : (c : ℕ) → number_of (c ∷ []) ≡ number_step 0 c
unfolding number_of
number_one c = refl

abbrev Says : ℕ → List ℕ → Type 0
Says n word = n < 2 ^ 64 → number_of word ≡ n

one_digit : (n : ℕ) → n < 10 → Says n ((48 + n) ∷ [])
one_digit n lt fits = number_one (48 + n) ∙ omega arith

more_digits : (n : ℕ) (ds : List ℕ) → 10 ≤ n → Says (n / 10) ds → Says n (ds ++ (48 + n % 10) ∷ [])
more_digits n ds le so_far fits =
    let front : number_of ds ≡ n / 10 = so_far (omega arith) in
    number_push ds (48 + n % 10) ∙ rw front (omega arith)

pub number_again : (n : ℕ) → n < 2 ^ 64 → number_of (decimal n) ≡ n
number_again n fits = decimal_by_steps Says one_digit more_digits n fits fits

pub small_again : (n : ℕ) → n < 2 ^ 32 → number_of (decimal n) % 2 ^ 32 ≡ n
small_again n fits = rw (number_again n (omega arith)) (omega arith)

pub glyph_again : (d : ℕ) → d < 16 → digit_of (glyph d) ≡ d
glyph_again d lt = grind (arith, nat_tests)

hex_step_is : (n d m : ℕ) → d < 16 → n * 16 + d ≡ m → m < 2 ^ 32 → hex_step n (glyph d) ≡ m
hex_step_is n d m lt e fits = rw (glyph_again d lt) (omega arith)

pub hex_again : (w : ℕ) → w < 2 ^ 32 → hex_of (hex8 w) ≡ w
unfolding hex_of hex8
hex_again w fits =
    let s1 : hex_step 0 (glyph (w / 2 ^ 28)) ≡ w / 2 ^ 28 = hex_step_is 0 (w / 2 ^ 28) _ (omega arith) (omega arith) (omega arith) in
    let s2 : hex_step (w / 2 ^ 28) (glyph (w / 2 ^ 24 % 16)) ≡ w / 2 ^ 24 = hex_step_is (w / 2 ^ 28) (w / 2 ^ 24 % 16) _ (omega arith) (omega arith) (omega arith) in
    let s3 : hex_step (w / 2 ^ 24) (glyph (w / 2 ^ 20 % 16)) ≡ w / 2 ^ 20 = hex_step_is (w / 2 ^ 24) (w / 2 ^ 20 % 16) _ (omega arith) (omega arith) (omega arith) in
    let s4 : hex_step (w / 2 ^ 20) (glyph (w / 2 ^ 16 % 16)) ≡ w / 2 ^ 16 = hex_step_is (w / 2 ^ 20) (w / 2 ^ 16 % 16) _ (omega arith) (omega arith) (omega arith) in
    let s5 : hex_step (w / 2 ^ 16) (glyph (w / 2 ^ 12 % 16)) ≡ w / 2 ^ 12 = hex_step_is (w / 2 ^ 16) (w / 2 ^ 12 % 16) _ (omega arith) (omega arith) (omega arith) in
    let s6 : hex_step (w / 2 ^ 12) (glyph (w / 2 ^ 8 % 16)) ≡ w / 2 ^ 8 = hex_step_is (w / 2 ^ 12) (w / 2 ^ 8 % 16) _ (omega arith) (omega arith) (omega arith) in
    let s7 : hex_step (w / 2 ^ 8) (glyph (w / 16 % 16)) ≡ w / 16 = hex_step_is (w / 2 ^ 8) (w / 16 % 16) _ (omega arith) (omega arith) (omega arith) in
    let s8 : hex_step (w / 16) (glyph (w % 16)) ≡ w = hex_step_is (w / 16) (w % 16) _ (omega arith) (omega arith) (omega arith) in
    rw (s1, s2, s3, s4, s5, s6, s7) s8

no_space_digits : (ds : List ℕ) → ((i : ℕ) → i < length ds → 48 ≤ get_or ds i 0) → HasNoSpace ds
no_space_digits ds h = λ k d lt. let digit : 48 ≤ get_or ds k 0 = h k lt in rw (get_or_default ds k d 0 lt) (grind (arith, nat_tests))

pub decimal_no_space : (n : ℕ) → n < 2 ^ 64 → HasNoSpace (decimal n)
decimal_no_space n fits = no_space_digits (decimal n) (λ i lt. (digit_at (decimal n) i (decimal_is_IsNumeral n fits).0.1 lt).0)

pub glyph_no_space : (d : ℕ) → is_space (glyph d) ≡ false
glyph_no_space d = grind (arith, nat_tests)

pub hex8_no_space : (w : ℕ) → HasNoSpace (hex8 w)
unfolding hex8
hex8_no_space w =
    All-from_recursion (λ b. is_space b ≡ false) (hex8 w)
    (glyph_no_space _, (glyph_no_space _, (glyph_no_space _, (glyph_no_space _, (glyph_no_space _, (glyph_no_space _, (glyph_no_space _, (glyph_no_space _, tt))))))))

-- digits with no sign in front
signed_digits : (ds : List ℕ) → 0 < length ds → 48 ≤ get_or ds 0 0 → signed_of ds ≡ pos (min (number_of ds % 2 ^ 32) (2 ^ 31 - 1))
signed_digits [] some digit = absurd (omega arith)
signed_digits (c ∷ cs) some digit = let e : eqb c 45 ≡ false = grind (arith, nat_tests) in rw e refl

first_digit : (n : ℕ) → n < 2 ^ 64 → (0 < length (decimal n)) × (48 ≤ get_or (decimal n) 0 0)
first_digit n fits = let is = (decimal_is_IsNumeral n fits).0 in (is.0, (digit_at (decimal n) 0 is.1 is.0).0)

pub signed_again : (z : ℤ) → FitsSigned w32 z → signed_of (signed_decimal z) ≡ z
signed_again (pos n) fits =
    let first = first_digit n (omega arith) in
    let small : min n (2 ^ 31 - 1) ≡ n = omega arith in
    signed_digits (decimal n) first.0 first.1 ∙ rw (small_again n (omega arith), small) refl
signed_again (negsuc n) fits =
    let small : min (suc n) (2 ^ 31) ≡ suc n = omega arith in
    rw (small_again (suc n) (omega arith), small) refl

pub signed_no_space : (z : ℤ) → FitsSigned w32 z → HasNoSpace (signed_decimal z)
signed_no_space (pos n) fits = decimal_no_space n (omega arith)
signed_no_space (negsuc n) fits = All-cons (λ b. is_space b ≡ false) 45 (decimal (suc n)) refl (decimal_no_space (suc n) (omega arith))
