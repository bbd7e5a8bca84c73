-- Line feeds among bytes, over plain lists.
use Rattle.std.proofs.Common.{◌≡◌, ◌≢◌, ℕ, zero, suc, ◌<◌, ◌≤◌, true, not, ◌==◌, cond, List, [], ◌∷◌, ◌++◌, length, slice_index, refl, ap, ◌∙◌, arith}
use Rattle.std.proofs.lemmas.Bool.Decides.{nat_tests}
use Rattle.std.proofs.lemmas.List.Sums.{take_while-cons}
use Rattle.std.proofs.lemmas.List.Elements.{All-head, All-tail, All-cons, All-nil}
use Rattle.report_lines.specs.Text.{HasNoLineFeed, first_line}
use Rattle.report_lines.specs.Filling.{IsLineAhead}

is_feed : (b : ℕ) → (b == 10) ≡ true → b ≡ 10
is_feed b h = grind (arith, nat_tests)

feed_is : (b : ℕ) → b ≡ 10 → (b == 10) ≡ true
feed_is b h = grind (arith, nat_tests)

-- a line feed is at place n, and none before it
pub line_ahead : (bytes : List ℕ) (n : ℕ) → n < length bytes → slice_index bytes n ≡ 10 → ((k : ℕ) → k < n → slice_index bytes k ≢ 10) → IsLineAhead n bytes
line_ahead [] n less feed before = absurd (omega arith)
line_ahead (b ∷ bytes) zero less feed before = record { line = []; rest = bytes; all = ap (λ x. x ∷ bytes) feed; unbroken = All-nil (λ (b : ℕ). b ≢ 10); long = refl }
line_ahead (b ∷ bytes) (suc n) less feed before =
    let later = line_ahead bytes n (omega arith) feed (λ k low. before (suc k) (omega arith)) in
    record {
      line = b ∷ later.line;
      rest = later.rest;
      all = ap (λ l. b ∷ l) later.all;
      unbroken = All-cons (λ (b : ℕ). b ≢ 10) b later.line (before 0 (omega arith)) later.unbroken;
      long = ap suc later.long;
    }

-- none is a line feed
pub no_feed : (bytes : List ℕ) → ((k : ℕ) → k < length bytes → slice_index bytes k ≢ 10) → HasNoLineFeed bytes
no_feed [] none = All-nil (λ (b : ℕ). b ≢ 10)
no_feed (b ∷ bytes) none = All-cons (λ (b : ℕ). b ≢ 10) b bytes (none 0 (omega arith)) (no_feed bytes (λ k low. none (suc k) (omega arith)))

is_no_feed : (b : ℕ) → b ≢ 10 → not (b == 10) ≡ true
is_no_feed b h = grind (arith, nat_tests)

first_line-more : (b : ℕ) (bytes : List ℕ) → b ≢ 10 → first_line (b ∷ bytes) ≡ b ∷ first_line bytes
first_line-more b bytes h = take_while-cons (λ b. not (b == 10)) b bytes ∙ ap (λ t. cond t (b ∷ first_line bytes) []) (is_no_feed b h)

-- the first line of a line with its line feed, and more
pub first_line_whole : (line more : List ℕ) → HasNoLineFeed line → first_line (line ++ 10 ∷ more) ≡ line
first_line_whole [] more u = take_while-cons (λ b. not (b == 10)) 10 more
first_line_whole (b ∷ line) more u =
    first_line-more b (line ++ 10 ∷ more) (All-head (λ (b : ℕ). b ≢ 10) b line u)
    ∙ ap (λ l. b ∷ l) (first_line_whole line more (All-tail (λ (b : ℕ). b ≢ 10) b line u))

-- bytes without a line feed are in the first line
pub first_line_long : (part more : List ℕ) → HasNoLineFeed part → length part ≤ length (first_line (part ++ more))
first_line_long [] more u = omega arith
first_line_long (b ∷ part) more u =
    let e : length (first_line (b ∷ (part ++ more))) ≡ length (b ∷ first_line (part ++ more)) =
    ap length (first_line-more b (part ++ more) (All-head (λ (b : ℕ). b ≢ 10) b part u)) in
    let less = first_line_long part more (All-tail (λ (b : ℕ). b ≢ 10) b part u) in
    omega arith
