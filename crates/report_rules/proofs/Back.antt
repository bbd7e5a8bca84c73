-- What looks back over the lines, one line further on.
use Rattle.std.proofs.Common.{◌≡◌, ℕ, ◌+◌, ◌-◌, Bool, true, false, List, [], ◌∷◌, ◌++◌, refl, ap, ◌∙◌, length, length-append, arith}
use Rattle.std.specs.Prelude.{if◌then◌else◌, not, ◌||◌, Option, Some, None, filter}
use Rattle.std.specs.List.{suffix_len, cons_option, list_any}
use Rattle.std.specs.Option.{option_to_list}
use Rattle.std.proofs.lemmas.List.Folds.{list_any-append}
use Rattle.report_rules.specs.declared.standing.Standing.{Standing}
use Rattle.std.proofs.lemmas.List.{reverse-append, reverse-reverse, drop_all, drop-append-le}
use Rattle.schedule_text.specs.declared.line.Line.{Line}
use Rattle.report_rules.specs.Standing.{this_epoch, is_epoch, is_unmap_of, unless_unmapped, left_of, standing_after, mapping_made}
use Rattle.report_rules.specs.Value.{value_before, value_after}

pub value_more : (before : List Line) (line : Line) (frame word : ℕ) → value_before (before ++ line ∷ []) frame word ≡ value_after (record { frame = frame; word = word }) (value_before before frame word) before line
value_more before line frame word = rw (reverse-append before (line ∷ []), reverse-reverse before) refl

epoch_by : (before : List Line) (line : Line) (b : Bool) → is_epoch line ≡ b → this_epoch (before ++ line ∷ []) ≡ (if b then [] else this_epoch before ++ line ∷ [])
epoch_by before line true is =
    let none : suffix_len (λ (x : Line). not (is_epoch x)) (before ++ line ∷ []) ≡ 0 = rw (reverse-append before (line ∷ []), is) refl in
    rw none (drop_all (length (before ++ line ∷ []) - 0) (before ++ line ∷ []) (omega arith))
epoch_by before line false is =
    let kept = suffix_len (λ (x : Line). not (is_epoch x)) before in
    let more : suffix_len (λ (x : Line). not (is_epoch x)) (before ++ line ∷ []) ≡ 1 + suffix_len (λ (x : Line). not (is_epoch x)) before = rw (reverse-append before (line ∷ []), is) refl in
    let long : length (before ++ line ∷ []) ≡ length before + 1 = length-append before (line ∷ []) in
    let at : length (before ++ line ∷ []) - suffix_len (λ (x : Line). not (is_epoch x)) (before ++ line ∷ []) ≡ length before - suffix_len (λ (x : Line). not (is_epoch x)) before = omega arith in
    rw at (drop-append-le (length before - suffix_len (λ (x : Line). not (is_epoch x)) before) before (line ∷ []) (omega arith))

-- the lines of the present epoch, with one line more
pub epoch_more : (before : List Line) (line : Line) → this_epoch (before ++ line ∷ []) ≡ (if is_epoch line then [] else this_epoch before ++ line ∷ [])
epoch_more before line = epoch_by before line (is_epoch line) refl

or_false : (b : Bool) → (b || false) ≡ b
or_false true = refl
or_false false = refl

one_made : (line : Line) (made : Option Standing) → cons_option (unless_unmapped [] made) [] ≡ option_to_list made
one_made line None = refl
one_made line (Some m) = refl

more_by : (line : Line) (xs : List Line) (m : Standing) (left : List Standing) (between last : Bool) → list_any (is_unmap_of m.number) xs ≡ between → is_unmap_of m.number line ≡ last →
    cons_option (if list_any (is_unmap_of m.number) xs || is_unmap_of m.number line then None else Some m) (filter (λ (s : Standing). not (is_unmap_of s.number line)) left) ≡ filter (λ (s : Standing). not (is_unmap_of s.number line)) (cons_option (if list_any (is_unmap_of m.number) xs then None else Some m) left)
more_by line xs m left true last b l = rw b refl
more_by line xs m left false true b l = rw (b, l) refl
more_by line xs m left false false b l = rw (b, l) refl

-- an `Option` put before a list of what is left
joined : (made : Option Standing) (xs ys : List Standing) → cons_option made xs ++ ys ≡ cons_option made (xs ++ ys)
joined None xs ys = refl
joined (Some m) xs ys = refl

after_made : (line : Line) (xs : List Line) (made : Option Standing) (left : List Standing) →
    cons_option (unless_unmapped (xs ++ line ∷ []) made) (filter (λ (s : Standing). not (is_unmap_of s.number line)) left) ≡ filter (λ (s : Standing). not (is_unmap_of s.number line)) (cons_option (unless_unmapped xs made) left)
after_made line xs None left = refl
after_made line xs (Some m) left =
    let split : list_any (is_unmap_of m.number) (xs ++ line ∷ []) ≡ (list_any (is_unmap_of m.number) xs || (is_unmap_of m.number line || false)) = list_any-append (is_unmap_of m.number) xs (line ∷ []) in
    let flat : (is_unmap_of m.number line || false) ≡ is_unmap_of m.number line = or_false (is_unmap_of m.number line) in
    rw (split, flat) (more_by line xs m left (list_any (is_unmap_of m.number) xs) (is_unmap_of m.number line) refl refl)

-- the mappings that lines made, by what each line makes, and that are left, with one line more: without the one that it unmaps, and then the one that it makes
pub left_more_by : (made : Line → Option Standing) (left : List Line → List Standing) → left [] ≡ [] → ((line : Line) (later : List Line) → left (line ∷ later) ≡ cons_option (unless_unmapped later (made line)) (left later))
    → (lines : List Line) (line : Line) → left (lines ++ line ∷ []) ≡ filter (λ (s : Standing). not (is_unmap_of s.number line)) (left lines) ++ option_to_list (made line)
left_more_by made left none one [] line = rw (one line [], none) (one_made line (made line))
left_more_by made left none one (x ∷ xs) line =
    rw (one x (xs ++ line ∷ []), one x xs, left_more_by made left none one xs line, ← joined (unless_unmapped (xs ++ line ∷ []) (made x)) (filter (λ (s : Standing). not (is_unmap_of s.number line)) (left xs)) (option_to_list (made line)), after_made line xs (made x) (left xs)) refl

-- whoever made them
pub left_more : (lines : List Line) (line : Line) → left_of (lines ++ line ∷ []) ≡ filter (λ (s : Standing). not (is_unmap_of s.number line)) (left_of lines) ++ option_to_list (mapping_made line)
left_more lines line = left_more_by mapping_made left_of refl (λ x later. refl) lines line

picked : (b : Bool) (xs : List Line) (ys : List Standing) → left_of xs ≡ ys → left_of (if b then [] else xs) ≡ (if b then [] else ys)
picked true xs ys e = refl
picked false xs ys e = e

-- the mappings that stand, with one line more: none after an epoch
pub standing_more : (before : List Line) (line : Line) → standing_after (before ++ line ∷ []) ≡ (if is_epoch line then [] else filter (λ (s : Standing). not (is_unmap_of s.number line)) (standing_after before) ++ option_to_list (mapping_made line))
standing_more before line = ap left_of (epoch_more before line) ∙ picked (is_epoch line) (this_epoch before ++ line ∷ []) (filter (λ (s : Standing). not (is_unmap_of s.number line)) (standing_after before) ++ option_to_list (mapping_made line)) (left_more (this_epoch before) line)
