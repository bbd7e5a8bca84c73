-- The mappings that a job made and that stand, with lines more: no others than what it has in its hand.
use Rattle.std.proofs.Common.{◌≡◌, ℕ, ◌==◌, ◌||◌, not, Bool, true, false, List, [], ◌∷◌, ◌++◌, filter, refl, ap, sym, ◌∙◌, subst, append_assoc, append-nil, arith}
use Rattle.std.specs.Prelude.{Option, Some, None, is_some, IsSomeAnd}
use Rattle.std.specs.List.{AllByRecursion, list_any, cons_option}
use Rattle.std.proofs.lemmas.Bool.Decides.{nat_tests}
use Rattle.std.specs.Option.{option_to_list}
use Rattle.blk_base.specs.declared.parts.Mapping.{Mapping}
use Rattle.blk_base.specs.declared.parts.Mode.{Mode}
use Rattle.blk_base.specs.declared.moves.BackMover.{BackMover}
use Rattle.blk_base.specs.declared.moves.BackMover.TheVariants as back
use Rattle.blk_base.specs.declared.moves.Move.TheVariants as moves
use Rattle.schedule_text.specs.declared.line.Line.{Line}
use Rattle.schedule_text.specs.declared.line.Line.TheVariants as lines
use Rattle.report_rules.specs.declared.standing.Standing.{Standing}
use Rattle.report_rules.specs.Obeys.{Obeys}
use Rattle.report_rules.specs.Standing.{is_epoch, this_epoch, is_unmap_of, unless_unmapped, standing_after, numbered}
use Rattle.report_rules.specs.Made.{made_by, left_to}
use Rattle.ring_laws.specs.Unmaps.{IsUnmapAt}
use Rattle.ring_laws.specs.Own.{IsOwnAt}
use Rattle.report_rules.proofs.Obeys.{obeys_more}
use Rattle.report_rules.proofs.Back.{left_more_by, standing_more}
use Rattle.ring_laws.proofs.Lists.{either_false}
use Rattle.ring_laws.proofs.JobLines.{is_of}
use Rattle.ring_laws.proofs.JobMoves.{itself}
use Rattle.ring_laws.proofs.EntryWords.{epoch_longer}

-- job k made the mapping of that number in these lines, and it stands
abbrev pub has : ℕ → ℕ → List Line → Bool
has n k epoch = is_some (numbered n (left_to k epoch))

-- nothing is left but a mapping of that number
pub record IsOnly (number : ℕ) (left : List Standing) : Type 0 where
  pub standing : Standing
  pub is : left ≡ standing ∷ []
  pub same : standing.number ≡ number

-- nothing is left to a job but what it has in its hand
abbrev pub Holds : Option Mapping → List Standing → Type 0
Holds None left = left ≡ []
Holds (Some m) left = IsOnly m.number left

pub holds_has : (k : ℕ) (m : Mapping) (epoch : List Line) → Holds (Some m) (left_to k epoch) → has m.number k epoch ≡ true
holds_has k m epoch only = let test : (only.standing.number == m.number) ≡ true = ap (λ (n : ℕ). n == m.number) only.same ∙ itself m.number in rw (only.is, test) refl

-- the mappings that are left to job k, with one line more
left_more : (k : ℕ) (epoch : List Line) (line : Line) → left_to k (epoch ++ line ∷ []) ≡ filter (λ (s : Standing). not (is_unmap_of s.number line)) (left_to k epoch) ++ option_to_list (made_by k line)
left_more k = left_more_by (made_by k) (left_to k) refl (λ line later. refl)

one_holds : (o : Option Mapping) (k : ℕ) (epoch : List Line) (line : Line) → made_by k line ≡ None → ((m : Mapping) → o ≡ Some m → is_unmap_of m.number line ≡ false) → Holds o (left_to k epoch) → Holds o (left_to k (epoch ++ line ∷ []))
one_holds None k epoch line none stays h = rw (left_more k epoch line, h, none) refl
one_holds (Some m) k epoch line none stays h =
    let here : is_unmap_of h.standing.number line ≡ false = ap (λ (n : ℕ). is_unmap_of n line) h.same ∙ stays m refl in
    record { standing = h.standing; is = rw (left_more k epoch line, h.is, none, here) refl; same = h.same }

-- lines that make no mapping for job k
abbrev pub MakeNone : ℕ → List Line → Type 0
MakeNone k ys = AllByRecursion (λ (line : Line). made_by k line ≡ None) ys

-- and that don't unmap what it has in its hand
pub holds_more : (o : Option Mapping) (k : ℕ) (ys epoch : List Line) → MakeNone k ys → ((m : Mapping) → o ≡ Some m → list_any (is_unmap_of m.number) ys ≡ false) → Holds o (left_to k epoch) → Holds o (left_to k (epoch ++ ys))
holds_more o k [] epoch none stays h = subst (λ (ls : List Line). Holds o (left_to k ls)) (sym (append-nil epoch)) h
holds_more o k (y ∷ ys) epoch none stays h =
    let both : (m : Mapping) → o ≡ Some m → (is_unmap_of m.number y ≡ false) × (list_any (is_unmap_of m.number) ys ≡ false) = λ m e. either_false (is_unmap_of m.number y) (list_any (is_unmap_of m.number) ys) (stays m e) in
    subst (λ (ls : List Line). Holds o (left_to k ls)) (append_assoc epoch (y ∷ []) ys)
    (holds_more o k ys (epoch ++ y ∷ []) none.1 (λ m e. (both m e).1) (one_holds o k epoch y none.0 (λ m e. (both m e).0) h))

-- a job whose hand is empty maps
pub holds_made : (k gref frame : ℕ) (mode : Mode) (m : Mapping) (epoch : List Line) → left_to k epoch ≡ [] → Holds (Some m) (left_to k (epoch ++ lines.Move (moves.Map (back.Job k) gref mode m.number frame) ∷ []))
holds_made k gref frame mode m epoch empty = record {
  standing = record { number = m.number; gref = gref; mode = mode; frame = frame };
  is = rw (left_more k epoch (lines.Move (moves.Map (back.Job k) gref mode m.number frame)), empty, itself k) refl;
  same = refl;
}

-- and it unmaps what is in its hand
pub holds_gone : (k : ℕ) (m : Mapping) (epoch : List Line) → Holds (Some m) (left_to k epoch) → left_to k (epoch ++ lines.Move (moves.Unmap (back.Job k) m.number) ∷ []) ≡ []
holds_gone k m epoch only =
    let gone : (m.number == only.standing.number) ≡ true = ap (λ (n : ℕ). m.number == n) only.same ∙ itself m.number in
    rw (left_more k epoch (lines.Move (moves.Unmap (back.Job k) m.number)), only.is, gone) refl

-- a job of which no line is a step has nothing
unmade : (k : ℕ) (line : Line) → is_of k line ≡ false → made_by k line ≡ None
unmade k (lines.Move (moves.Map who gref mode number frame)) e = rw e refl
unmade k line e = refl

pub unseen_left : (k : ℕ) (epoch : List Line) → list_any (is_of k) epoch ≡ false → left_to k epoch ≡ []
unseen_left k [] none = refl
unseen_left k (x ∷ xs) none =
    let both : (is_of k x ≡ false) × (list_any (is_of k) xs ≡ false) = either_false (is_of k x) (list_any (is_of k) xs) none in
    ap (λ (o : Option Standing). cons_option (unless_unmapped xs o) (left_to k xs)) (unmade k x both.0) ∙ unseen_left k xs both.1

-- a line that unmaps nothing, and makes no mapping for a job
pub record IsQuiet (line : Line) : Type 0 where
  pub same_epoch : is_epoch line ≡ false
  pub none_gone : (n : ℕ) → is_unmap_of n line ≡ false
  pub none_made : (k : ℕ) → made_by k line ≡ None

abbrev pub AreQuiet : List Line → Type 0
AreQuiet ls = AllByRecursion IsQuiet ls

pub quiet_none : (n : ℕ) (ys : List Line) → AreQuiet ys → list_any (is_unmap_of n) ys ≡ false
quiet_none n [] all = refl
quiet_none n (y ∷ ys) all = let q : IsQuiet y = all.0 in ap (λ (b : Bool). b || list_any (is_unmap_of n) ys) (q.none_gone n) ∙ quiet_none n ys all.1

pub quiet_made : (k : ℕ) (ys : List Line) → AreQuiet ys → MakeNone k ys
quiet_made k [] all = tt
quiet_made k (y ∷ ys) all = let q : IsQuiet y = all.0 in (q.none_made k, quiet_made k ys all.1)

pub quiet_holds : (o : Option Mapping) (k : ℕ) (ys epoch : List Line) → AreQuiet ys → Holds o (left_to k epoch) → Holds o (left_to k (epoch ++ ys))
quiet_holds o k ys epoch quiet h = holds_more o k ys epoch (quiet_made k ys quiet) (λ m e. quiet_none m.number ys quiet) h

pub quiet_epoch : (before ys : List Line) → AreQuiet ys → this_epoch (before ++ ys) ≡ this_epoch before ++ ys
quiet_epoch before [] all = ap this_epoch (append-nil before) ∙ sym (append-nil (this_epoch before))
quiet_epoch before (y ∷ ys) all =
    let q : IsQuiet y = all.0 in
    ap this_epoch (sym (append_assoc before (y ∷ []) ys)) ∙ (quiet_epoch (before ++ y ∷ []) ys all.1
    ∙ (ap (λ (ls : List Line). ls ++ ys) (epoch_longer before y q.same_epoch) ∙ append_assoc (this_epoch before) (y ∷ []) ys))

-- the rules on what jobs unmap and touch
pub record IsMine (before : List Line) (line : Line) : Type 0 where
  pub unmap : IsUnmapAt before line
  pub touch : IsOwnAt before line

-- a line that they allow anywhere
abbrev pub IsOpen : Line → Type 0
IsOpen line = (before : List Line) → IsMine before line

-- lines that a rule allows anywhere
pub obeys_all : (Rule : List Line → Line → Type 0) (before ys : List Line) → AllByRecursion (λ (line : Line). (ls : List Line) → Rule ls line) ys → Obeys Rule before → Obeys Rule (before ++ ys)
obeys_all Rule before [] all obeys = subst (λ (ls : List Line). Obeys Rule ls) (sym (append-nil before)) obeys
obeys_all Rule before (y ∷ ys) all obeys = subst (λ (ls : List Line). Obeys Rule ls) (append_assoc before (y ∷ []) ys) (obeys_all Rule (before ++ y ∷ []) ys all.1 (obeys_more Rule before y obeys (all.0 before)))

pub open_more : (before ys : List Line) → AllByRecursion IsOpen ys → Obeys IsMine before → Obeys IsMine (before ++ ys)
open_more before ys all obeys = obeys_all IsMine before ys all obeys

-- what stands after an unmap is of another number
none_left : (n : ℕ) (xs : List Standing) → numbered n (filter (λ (s : Standing). not (n == s.number)) xs ++ []) ≡ None
none_left n [] = refl
none_left n (s ∷ xs) = by_test (n == s.number) refl (none_left n xs)
  where
    turned : (a b : ℕ) → (a == b) ≡ false → (b == a) ≡ false
    turned a b e = grind (arith, nat_tests)

    by_test : (b : Bool) → (n == s.number) ≡ b → numbered n (filter (λ (y : Standing). not (n == y.number)) xs ++ []) ≡ None → numbered n (filter (λ (y : Standing). not (n == y.number)) (s ∷ xs) ++ []) ≡ None
    by_test true t rest = rw t rest
    by_test false t rest = let other = turned n s.number t in rw (t, other) rest

same_number : (a b : ℕ) → (a == b) ≡ true → a ≡ b
same_number a b e = grind (arith, nat_tests)

pub unmapped_other : (before : List Line) (who : BackMover) (x n : ℕ) (P : Standing → Type 0) → IsSomeAnd (numbered n (standing_after (before ++ lines.Move (moves.Unmap who x) ∷ []))) P → (x == n) ≡ false
unmapped_other before who x n P stands = by_test (x == n) refl
  where
    by_test : (b : Bool) → (x == n) ≡ b → (x == n) ≡ false
    by_test false t = t
    by_test true t =
        let is : x ≡ n = same_number x n t in
        let none : numbered n (standing_after (before ++ lines.Move (moves.Unmap who x) ∷ [])) ≡ None = ap (numbered n) (standing_more before (lines.Move (moves.Unmap who x))) ∙ (ap (λ (i : ℕ). numbered n (filter (λ (s : Standing). not (i == s.number)) (standing_after before) ++ [])) is ∙ none_left n (standing_after before)) in
        absurd (subst (λ (o : Option Standing). IsSomeAnd o P) none stands)
