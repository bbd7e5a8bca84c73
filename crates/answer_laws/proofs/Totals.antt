-- Sums over the numbers below a bound, and lines that carry a number each.
use Rattle.std.proofs.Common.{◌≡◌, ◌≢◌, ℕ, zero, suc, ◌+◌, ◌<◌, ◌≤◌, ◌==◌, ◌⊎◌, inl, inr, Bool, true, false, cond, List, [], ◌∷◌, refl, ap, sym, ◌∙◌, arith}
use Rattle.std.specs.Prelude.{count_by}
use Rattle.std.proofs.lemmas.Bool.Decides.{nat_tests}
use Rattle.std.proofs.lemmas.List.Sums.{sum_by-cons}
use Rattle.schedule_text.specs.declared.line.Line.{Line}

abbrev total : ℕ → (ℕ → ℕ) → ℕ
total zero f = 0
total (suc n) f = total n f + f n

total_same : (n : ℕ) (f g : ℕ → ℕ) → ((k : ℕ) → f k ≡ g k) → total n f ≡ total n g
total_same zero f g same = refl
total_same (suc n) f g same =
    let rest = total_same n f g same in
    let one = same n in
    omega arith

total_zero : (n : ℕ) → total n (λ k. 0) ≡ 0
total_zero zero = refl
total_zero (suc n) = (let rest = total_zero n in omega arith)

total_sum : (n : ℕ) (f g : ℕ → ℕ) → total n (λ k. f k + g k) ≡ total n f + total n g
total_sum zero f g = refl
total_sum (suc n) f g = (let rest = total_sum n f g in omega arith)

-- a number is one of those below a bound once
total_past : (n i : ℕ) → n ≤ i → total n (λ k. cond (i == k) 1 0) ≡ 0
total_past zero i past = refl
total_past (suc n) i past =
    let other : (i == n) ≡ false = grind (arith, nat_tests) in
    let one : ◌≡◌ {A = ℕ} (cond (i == n) 1 0) 0 = ap (λ (b : Bool). cond b 1 0) other in
    let rest = total_past n i (omega arith) in
    omega arith

total_once : (n i : ℕ) → i < n → total n (λ k. cond (i == k) 1 0) ≡ 1
total_once zero i lt = absurd (omega arith)
total_once (suc n) i lt = by_last (i == n) refl (λ less. total_once n i less)
  where
    by_last : (b : Bool) → (i == n) ≡ b → (i < n → total n (λ k. cond (i == k) 1 0) ≡ 1) → total n (λ k. cond (i == k) 1 0) + cond (i == n) 1 0 ≡ 1
    by_last true t further =
        let same : i ≡ n = grind (arith, nat_tests) in
        let one : ◌≡◌ {A = ℕ} (cond (i == n) 1 0) 1 = ap (λ (b : Bool). cond b 1 0) t in
        let rest = total_past n i (omega arith) in
        omega arith
    by_last false t further =
        let apart : i ≢ n = grind (arith, nat_tests) in
        let one : ◌≡◌ {A = ℕ} (cond (i == n) 1 0) 0 = ap (λ (b : Bool). cond b 1 0) t in
        let rest = further (omega arith) in
        omega arith

-- a line is of a kind where it is so for one number, and for no other
pub record HasNumber (kind : Line → Bool) (of : ℕ → Line → Bool) (line : Line) (i : ℕ) : Type 0 where
  pub is : kind line ≡ true
  pub only : (id : ℕ) → of id line ≡ (i == id)

pub record HasNone (kind : Line → Bool) (of : ℕ → Line → Bool) (line : Line) : Type 0 where
  pub is : kind line ≡ false
  pub none : (id : ℕ) → of id line ≡ false

abbrev pub IsNumbered : (Line → Bool) → (ℕ → Line → Bool) → Line → Type 0
IsNumbered kind of line = HasNone kind of line ⊎ ((i : ℕ) × HasNumber kind of line i)

-- lines of a kind are counted by number, below any bound that is high enough
abbrev IsTotal : (Line → Bool) → (ℕ → Line → Bool) → List Line → ℕ → Type 0
IsTotal kind of ls n = count_by kind ls ≡ total n (λ id. count_by (of id) ls)

abbrev IsTotalFrom : (Line → Bool) → (ℕ → Line → Bool) → List Line → ℕ → Type 0
IsTotalFrom kind of ls bound = (n : ℕ) → bound ≤ n → IsTotal kind of ls n

abbrev bit : Bool → ℕ
bit b = cond b 1 0

none_more : (kind : Line → Bool) (of : ℕ → Line → Bool) (line : Line) (ls : List Line) (n : ℕ) → HasNone kind of line → IsTotal kind of ls n → IsTotal kind of (line ∷ ls) n
none_more kind of line ls n h all =
    let whole = sum_by-cons (λ (l : Line). bit (kind l)) line ls in
    let here : ◌≡◌ {A = ℕ} (bit (kind line)) 0 = ap bit h.is in
    let same = total_same n (λ id. count_by (of id) (line ∷ ls)) (λ id. count_by (of id) ls) each in
    omega arith
  where
    each : (id : ℕ) → count_by (of id) (line ∷ ls) ≡ count_by (of id) ls
    each id =
        let both = sum_by-cons (λ (l : Line). bit (of id l)) line ls in
        let one : ◌≡◌ {A = ℕ} (bit (of id line)) 0 = ap bit (h.none id) in
        omega arith

one_more : (kind : Line → Bool) (of : ℕ → Line → Bool) (line : Line) (ls : List Line) (n i : ℕ) → i < n → HasNumber kind of line i → IsTotal kind of ls n → IsTotal kind of (line ∷ ls) n
one_more kind of line ls n i lt h all =
    let whole = sum_by-cons (λ (l : Line). bit (kind l)) line ls in
    let here : ◌≡◌ {A = ℕ} (bit (kind line)) 1 = ap bit h.is in
    let same = total_same n (λ id. count_by (of id) (line ∷ ls)) (λ id. bit (i == id) + count_by (of id) ls) each in
    let sum = total_sum n (λ id. bit (i == id)) (λ id. count_by (of id) ls) in
    let once = total_once n i lt in
    omega arith
  where
    each : (id : ℕ) → count_by (of id) (line ∷ ls) ≡ bit (i == id) + count_by (of id) ls
    each id =
        let both = sum_by-cons (λ (l : Line). bit (of id l)) line ls in
        let one : ◌≡◌ {A = ℕ} (bit (of id line)) (bit (i == id)) = ap bit (h.only id) in
        omega arith

counted_by : (kind : Line → Bool) (of : ℕ → Line → Bool) → ((line : Line) → IsNumbered kind of line) → (ls : List Line) → (bound : ℕ) × IsTotalFrom kind of ls bound
counted_by kind of numbered [] = (0, λ n le. sym (total_zero n))
counted_by kind of numbered (line ∷ ls) = by_line (counted_by kind of numbered ls) (numbered line)
  where
    by_line : (bound : ℕ) × IsTotalFrom kind of ls bound → IsNumbered kind of line → (bound : ℕ) × IsTotalFrom kind of (line ∷ ls) bound
    by_line rest (inl none) = (rest.0, λ n le. none_more kind of line ls n none (rest.1 n le))
    by_line rest (inr some) = (rest.0 + some.0 + 1, λ n le. one_more kind of line ls n some.0 (omega arith) some.1 (rest.1 n (omega arith)))

-- two kinds with as many lines of each number have as many lines
pub counts_agree : (kind other : Line → Bool) (of another : ℕ → Line → Bool) → ((line : Line) → IsNumbered kind of line) → ((line : Line) → IsNumbered other another line)
    → (ls : List Line) → ((id : ℕ) → count_by (of id) ls ≡ count_by (another id) ls) → count_by kind ls ≡ count_by other ls
counts_agree kind other of another one two ls same =
    let a = counted_by kind of one ls in
    let b = counted_by other another two ls in
    let n : ℕ = a.0 + b.0 in
    a.1 n (omega arith) ∙ (total_same n (λ id. count_by (of id) ls) (λ id. count_by (another id) ls) same ∙ sym (b.1 n (omega arith)))

-- no line of a kind, so none of a number
pub none_of : (kind : Line → Bool) (of : ℕ → Line → Bool) → ((line : Line) → IsNumbered kind of line) → (ls : List Line) (id : ℕ) → count_by kind ls ≡ 0 → count_by (of id) ls ≡ 0
none_of kind of numbered [] id none = refl
none_of kind of numbered (line ∷ ls) id none = by_line (numbered line) (λ e. none_of kind of numbered ls id e)
  where
    by_line : IsNumbered kind of line → (count_by kind ls ≡ 0 → count_by (of id) ls ≡ 0) → count_by (of id) (line ∷ ls) ≡ 0
    by_line (inl h) further =
        let whole = sum_by-cons (λ (l : Line). bit (kind l)) line ls in
        let both = sum_by-cons (λ (l : Line). bit (of id l)) line ls in
        let one : ◌≡◌ {A = ℕ} (bit (of id line)) 0 = ap bit (h.none id) in
        let rest = further (omega arith) in
        omega arith
    by_line (inr h) further =
        let whole = sum_by-cons (λ (l : Line). bit (kind l)) line ls in
        let one : ◌≡◌ {A = ℕ} (bit (kind line)) 1 = ap bit (let is : HasNumber kind of line h.0 = h.1 in is.is) in
        absurd (omega arith)
