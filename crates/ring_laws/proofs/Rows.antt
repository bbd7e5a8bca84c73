-- The lines before the reply under way, and the jobs that had theirs, some lines further.
use Rattle.std.proofs.Common.{◌≡◌, ℕ, ◌+◌, ◌-◌, ◌<◌, ◌==◌, Bool, true, false, if◌then◌else◌, List, [], ◌∷◌, ◌++◌, refl, ap, sym, ◌∙◌, append_assoc, append-nil, arith}
use Rattle.std.specs.Prelude.{Option, Some, None, is_some, reverse, option_to_list}
use Rattle.std.proofs.lemmas.Bool.Decides.{nat_tests}
use Rattle.std.proofs.lemmas.List.{reverse-append, reverse-reverse}
use Rattle.schedule_text.specs.declared.line.Line.{Line}
use Rattle.report_rules.specs.Standing.{is_epoch}
use Rattle.report_rules.specs.Ring.{ring_pages}
use Rattle.report_rules.specs.Reply.{value_written, is_reply, back_before, lines_before, job_replied, answered_in}
use Rattle.report_rules.proofs.Prefixes.{answered_more, none_passed}
use Rattle.ring_laws.proofs.Shows.{IsOnPages, pages_kept}
use Rattle.ring_laws.proofs.Written.{Passes, AllPass, written_same}

rows_same : (a b : List Line) → ring_pages a ≡ ring_pages b → (n : ℕ) (xs : List Line) → back_before a n xs ≡ back_before b n xs
rows_same a b same n [] = refl
rows_same a b same n (x ∷ xs) =
    ap (λ (v : Option ℕ). if n == 0 then x ∷ xs else back_before a (if is_some v then n - 1 else n) xs) (written_same a b same x)
    ∙ ap (λ (ls : List Line). if n == 0 then x ∷ xs else ls) (rows_same a b same (if is_some (value_written b x) then n - 1 else n) xs)

-- before no word
pub lines_none : (before : List Line) → lines_before before 0 ≡ before
lines_none before = ap reverse (none_passed before (reverse before)) ∙ reverse-reverse before

-- a line that writes no word of a reply
pub lines_skip : (before : List Line) (line : Line) (n : ℕ) → IsOnPages line → value_written (before ++ line ∷ []) line ≡ None → 0 < n → lines_before (before ++ line ∷ []) n ≡ lines_before before n
lines_skip before line n on none some =
    let longer : List Line = before ++ line ∷ [] in
    let pages : ring_pages longer ≡ ring_pages before = pages_kept before line on.same_epoch on.page in
    let other : (n == 0) ≡ false = not_none n some in
    ap (λ (ls : List Line). reverse (back_before longer n ls)) (reverse-append before (line ∷ []))
    ∙ ap reverse (ap (λ (b : Bool). if b then line ∷ reverse before else back_before longer (if is_some (value_written longer line) then n - 1 else n) (reverse before)) other
    ∙ (ap (λ (v : Option ℕ). back_before longer (if is_some v then n - 1 else n) (reverse before)) none ∙ rows_same longer before pages n (reverse before)))
  where
    not_none : (m : ℕ) → 0 < m → (m == 0) ≡ false
    not_none m lt = grind (arith, nat_tests)

-- and one that does
pub lines_take : (before : List Line) (line : Line) (n value : ℕ) → IsOnPages line → value_written (before ++ line ∷ []) line ≡ Some value → lines_before (before ++ line ∷ []) (n + 1) ≡ lines_before before n
lines_take before line n value on some =
    let longer : List Line = before ++ line ∷ [] in
    let pages : ring_pages longer ≡ ring_pages before = pages_kept before line on.same_epoch on.page in
    let other : (n + 1 == 0) ≡ false = not_none n in
    let less : n + 1 - 1 ≡ n = omega arith in
    ap (λ (ls : List Line). reverse (back_before longer (n + 1) ls)) (reverse-append before (line ∷ []))
    ∙ ap reverse (ap (λ (b : Bool). if b then line ∷ reverse before else back_before longer (if is_some (value_written longer line) then n + 1 - 1 else n + 1) (reverse before)) other
    ∙ (ap (λ (v : Option ℕ). back_before longer (if is_some v then n + 1 - 1 else n + 1) (reverse before)) some
    ∙ (ap (λ (m : ℕ). back_before longer m (reverse before)) less ∙ rows_same longer before pages n (reverse before))))
  where
    not_none : (m : ℕ) → (m + 1 == 0) ≡ false
    not_none m = grind (arith, nat_tests)

pub lines_aside : (ys before : List Line) (n : ℕ) → AllPass ys → 0 < n → lines_before (before ++ ys) n ≡ lines_before before n
lines_aside [] before n all some = ap (λ (ls : List Line). lines_before ls n) (append-nil before)
lines_aside (y ∷ ys) before n all some =
    let p : Passes y = all.0 in
    ap (λ (ls : List Line). lines_before ls n) (sym (append_assoc before (y ∷ []) ys))
    ∙ (lines_aside ys (before ++ y ∷ []) n all.1 some ∙ lines_skip before y n p.on (p.unwritten (before ++ y ∷ [])) some)

-- a line that tells of no reply
pub answered_one : (before : List Line) (line : Line) → is_epoch line ≡ false → is_reply line ≡ false → answered_in (before ++ line ∷ []) ≡ answered_in before
answered_one before line same untold = answered_more before line ∙ rw (same, untold) refl

-- and one that does
pub answered_told : (before : List Line) (line : Line) → is_epoch line ≡ false → is_reply line ≡ true → answered_in (before ++ line ∷ []) ≡ answered_in before ++ option_to_list (job_replied before (answered_in before))
answered_told before line same told = answered_more before line ∙ rw (same, told) refl

pub answered_aside : (ys before : List Line) → AllPass ys → answered_in (before ++ ys) ≡ answered_in before
answered_aside [] before all = ap answered_in (append-nil before)
answered_aside (y ∷ ys) before all =
    let p : Passes y = all.0 in
    let on : IsOnPages y = p.on in
    ap answered_in (sym (append_assoc before (y ∷ []) ys))
    ∙ (answered_aside ys (before ++ y ∷ []) all.1 ∙ answered_one before y on.same_epoch p.untold)
