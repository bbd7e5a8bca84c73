-- The state tells what the definitions say of the lines: from the start, and one line further on.
use Rattle.std.proofs.Common.{◌≡◌, ℕ, ◌+◌, ◌*◌, ◌/◌, ◌%◌, ◌==◌, ◌||◌, not, nat_lt, Bool, true, false, cond, if◌then◌else◌, List, [], ◌∷◌, ◌++◌, filter, count_by, refl, ap, sym, ◌∙◌, subst, arith}
use Rattle.std.specs.Prelude.{Option, Some, None, is_some}
use Rattle.std.specs.Option.{option_to_list}
use Rattle.std.specs.Map.{values_of}
use Rattle.std.specs.BTreeMap.{insert_entry}
use Rattle.std.specs.Ordering.{nat_cmp}
use Rattle.std.proofs.lemmas.Bool.Decides.{nat_tests}
use Rattle.std.proofs.lemmas.List.Folds.{list_any-append}
use Rattle.std.proofs.lemmas.Map.Lookups.{exact_unsigned}
use Rattle.grant_table.specs.Entry.{mapped_entry}
use Rattle.schedule_text.specs.declared.line.Line.{Line}
use Rattle.schedule_text.specs.declared.line.Line.TheVariants as lines
use Rattle.report_rules.specs.declared.standing.Standing.{Standing}
use Rattle.report_rules.specs.Mapped.{was_made}
use Rattle.report_rules.specs.Standing.{is_epoch, is_unmap_of, mapping_made, has_number, standing_after, numbered}
use Rattle.report_rules.specs.Value.{value_before, value_after, is_flags_of}
use Rattle.report_rules.proofs.Back.{value_more, standing_more}
use Rattle.memory_check.specs.Words.{no_words, is_dense, word_in}
use Rattle.memory_check.specs.Numbers.{has, with_number}
use Rattle.memory_check.specs.State.{State, start, word_at, with_word, flags_of, standing_at, with_standing, after_map, after_epoch}
use Rattle.memory_check.proofs.Lookups.{at_number, lookup_inserted}
use Rattle.memory_check.proofs.Written.{flags_written, keeps_standing, keeps_numbers}
use Rattle.memory_check.proofs.Counts.{AreApart, apart_inserted, count_inserted, count_more, numbered_more}
use Rattle.memory_check.proofs.Numbered.{number_more}

-- the state tells the value of each word, the mapping of each number and how many mappings pass a test, and the numbers that were given; and a new number is that of no mapping that stands
pub record Sees (before : List Line) (state : State) : Type 0 where
  pub values : (frame word : ℕ) → word_at state frame word ≡ value_before before frame word
  pub apart : AreApart state.standing
  pub mapped : (number : ℕ) → standing_at state.standing number ≡ numbered number (standing_after before)
  pub counted : (p : Standing → Bool) → count_by p (values_of state.standing) ≡ count_by p (standing_after before)
  pub made : (number : ℕ) → has state.numbers number ≡ was_made before number
  pub fresh : (number : ℕ) → was_made before number ≡ false → numbered number (standing_after before) ≡ None

word_of_none : (frame word : ℕ) → word_in no_words frame word ≡ 0
word_of_none frame word = by_test (is_dense frame word) refl
  where
    by_test : (b : Bool) → is_dense frame word ≡ b → word_in no_words frame word ≡ 0
    by_test true t = rw t refl
    by_test false t = rw t refl

start_word : (frame word : ℕ) → word_at start frame word ≡ 0
start_word frame word = by_test (nat_lt frame 2) refl
  where
    by_test : (b : Bool) → nat_lt frame 2 ≡ b → word_at start frame word ≡ 0
    by_test true t = rw t (word_of_none frame word)
    by_test false t = rw t (word_of_none frame word)

pub none_had : (number : ℕ) → has start.numbers number ≡ false
none_had number = grind (arith, nat_tests)

pub sees_start : Sees [] start
sees_start = record {
  values = start_word;
  apart = tt;
  mapped = λ number. refl;
  counted = λ p. refl;
  made = none_had;
  fresh = λ number new. refl;
}

-- ---- what the definitions say of one line more
pub or_false : (b : Bool) → (b || false) ≡ b
or_false true = refl
or_false false = refl

either_false : (a b : Bool) → (a || b) ≡ false → (a ≡ false) × (b ≡ false)
either_false true b e = absurd (cc)
either_false false b e = (refl, e)

pub made_more : (before : List Line) (line : Line) (number : ℕ) → was_made (before ++ line ∷ []) number ≡ (was_made before number || has_number number (mapping_made line))
made_more before line number =
    list_any-append (λ (x : Line). has_number number (mapping_made x)) before (line ∷ [])
    ∙ ap (λ (b : Bool). was_made before number || b) (or_false (has_number number (mapping_made line)))

whole : (q : Standing → Bool) → ((s : Standing) → q s ≡ true) → (xs ys : List Standing) → filter q xs ++ ys ≡ xs ++ ys
whole q all [] ys = refl
whole q all (x ∷ xs) ys = rw (all x) (ap (λ (zs : List Standing). x ∷ zs) (whole q all xs ys))

pub append_none : (xs : List Standing) → xs ++ [] ≡ xs
append_none [] = refl
append_none (x ∷ xs) = ap (λ (zs : List Standing). x ∷ zs) (append_none xs)

-- a line that ends no mapping
standing_with : (before : List Line) (line : Line) → is_epoch line ≡ false → ((number : ℕ) → is_unmap_of number line ≡ false) → standing_after (before ++ line ∷ []) ≡ standing_after before ++ option_to_list (mapping_made line)
standing_with before line same none =
    standing_more before line ∙ rw same (whole (λ (s : Standing). not (is_unmap_of s.number line)) (λ s. ap not (none s.number)) (standing_after before) (option_to_list (mapping_made line)))

-- ---- a line that makes and ends no mapping
pub sees_still : (before : List Line) (line : Line) (state state' : State) → Sees before state → is_epoch line ≡ false → ((number : ℕ) → is_unmap_of number line ≡ false) → mapping_made line ≡ None → state'.standing ≡ state.standing → state'.numbers ≡ state.numbers
    → ((frame word : ℕ) → word_at state' frame word ≡ value_after (record { frame = frame; word = word }) (word_at state frame word) before line)
    → Sees (before ++ line ∷ []) state'
sees_still before line state state' sees same ends makes mappings numbers words =
    let standing : standing_after (before ++ line ∷ []) ≡ standing_after before = standing_with before line same ends ∙ rw makes (append_none (standing_after before)) in
    let given : (number : ℕ) → was_made (before ++ line ∷ []) number ≡ was_made before number = λ number. made_more before line number ∙ rw makes (or_false (was_made before number)) in
    record {
      values = λ frame word.
          words frame word
          ∙ (ap (λ (v : ℕ). value_after (record { frame = frame; word = word }) v before line) (sees.values frame word)
          ∙ sym (value_more before line frame word));
      apart = subst AreApart (sym mappings) sees.apart;
      mapped = λ number. ap (λ (es : List (ℕ × Standing)). standing_at es number) mappings ∙ (sees.mapped number ∙ ap (numbered number) (sym standing));
      counted = λ p. ap (λ (es : List (ℕ × Standing)). count_by p (values_of es)) mappings ∙ (sees.counted p ∙ ap (λ (ss : List Standing). count_by p ss) (sym standing));
      made = λ number. ap (λ ns. has ns number) numbers ∙ (sees.made number ∙ sym (given number));
      fresh = λ number new. ap (numbered number) standing ∙ sees.fresh number (sym (given number) ∙ new);
    }

-- ---- a line that writes a word
pub sees_written : (before : List Line) (line : Line) (state : State) (frame word value : ℕ) → Sees before state → is_epoch line ≡ false → ((number : ℕ) → is_unmap_of number line ≡ false) → mapping_made line ≡ None
    → ((f w : ℕ) → word_at (with_word state frame word value) f w ≡ value_after (record { frame = f; word = w }) (word_at state f w) before line)
    → Sees (before ++ line ∷ []) (with_word state frame word value)
sees_written before line state frame word value sees same ends makes words =
    sees_still before line state (with_word state frame word value) sees same ends makes (keeps_standing state frame word value) (keeps_numbers state frame word value) words

-- ---- an epoch
epoch_word : (state : State) (frame word : ℕ) → word_at (after_epoch state) frame word ≡ (if nat_lt frame 2 then 0 else word_at state frame word)
epoch_word state frame word = by_test (nat_lt frame 2) refl
  where
    by_test : (b : Bool) → nat_lt frame 2 ≡ b → word_at (after_epoch state) frame word ≡ (if nat_lt frame 2 then 0 else word_at state frame word)
    by_test true t = rw t (word_of_none frame word)
    by_test false t = rw t refl

pub sees_epoch : (before : List Line) (state : State) → Sees before state → Sees (before ++ lines.Epoch ∷ []) (after_epoch state)
sees_epoch before state sees =
    let standing : standing_after (before ++ lines.Epoch ∷ []) ≡ [] = standing_more before lines.Epoch in
    let given : (number : ℕ) → was_made (before ++ lines.Epoch ∷ []) number ≡ was_made before number = λ number. made_more before lines.Epoch number ∙ or_false (was_made before number) in
    record {
      values = λ frame word.
          epoch_word state frame word
          ∙ (ap (λ (v : ℕ). if nat_lt frame 2 then 0 else v) (sees.values frame word)
          ∙ sym (value_more before lines.Epoch frame word));
      apart = tt;
      mapped = λ number. ap (numbered number) (sym standing);
      counted = λ p. ap (λ (ss : List Standing). count_by p ss) (sym standing);
      made = λ number. sees.made number ∙ sym (given number);
      fresh = λ number new. ap (numbered number) standing;
    }

-- ---- a map
none_is : {X : Type 0} (o : Option X) → o ≡ None → is_some o ≡ false
none_is o e = ap is_some e

mapping_in : (state : State) (made : Standing) → standing_at state.standing made.number ≡ None → (after_map state made).standing ≡ insert_entry nat_cmp state.standing made.number made
mapping_in state made none =
    let new : is_some (standing_at state.standing made.number) ≡ false = none_is (standing_at state.standing made.number) none in
    keeps_standing (record state { standing = with_standing state.standing made }) (made.gref / 512) (2 * (made.gref % 512)) (mapped_entry (flags_of state made.gref) made.mode) ∙ rw new refl

pub sees_map : (before : List Line) (line : Line) (state : State) (made : Standing) → Sees before state → was_made before made.number ≡ false → is_epoch line ≡ false → ((number : ℕ) → is_unmap_of number line ≡ false) → mapping_made line ≡ Some made
    → ((frame word v : ℕ) → value_after (record { frame = frame; word = word }) v before line ≡ (if is_flags_of (record { frame = frame; word = word }) made.gref then mapped_entry v made.mode else v))
    → Sees (before ++ line ∷ []) (after_map state made)
sees_map before line state made sees new same ends makes flags =
    let absent : numbered made.number (standing_after before) ≡ None = sees.fresh made.number new in
    let none : standing_at state.standing made.number ≡ None = sees.mapped made.number ∙ absent in
    let inside : (after_map state made).standing ≡ insert_entry nat_cmp state.standing made.number made = mapping_in state made none in
    let standing : standing_after (before ++ line ∷ []) ≡ standing_after before ++ made ∷ [] = standing_with before line same ends ∙ rw makes refl in
    let given : (number : ℕ) → was_made (before ++ line ∷ []) number ≡ (was_made before number || (made.number == number)) = λ number. made_more before line number ∙ rw makes refl in
    let found : (number : ℕ) → numbered number (standing_after (before ++ line ∷ [])) ≡ cond (made.number == number) (Some made) (numbered number (standing_after before)) = λ number. ap (numbered number) standing ∙ numbered_more number made (standing_after before) absent in
    record {
      values = λ frame word.
          flags_written (record state { standing = with_standing state.standing made }) made.gref frame word (λ v. mapped_entry v made.mode)
          ∙ (ap (λ (v : ℕ). if is_flags_of (record { frame = frame; word = word }) made.gref then mapped_entry v made.mode else v) (sees.values frame word)
          ∙ (sym (flags frame word (value_before before frame word)) ∙ sym (value_more before line frame word)));
      apart = subst AreApart (sym inside) (apart_inserted made.number made state.standing refl none sees.apart);
      mapped = λ number.
          ap (λ (es : List (ℕ × Standing)). standing_at es number) inside
          ∙ (lookup_inserted nat_cmp exact_unsigned made.number made number state.standing
          ∙ (ap (λ (b : Bool). cond b (Some made) (standing_at state.standing number)) (at_number number made.number)
          ∙ (ap (λ (o : Option Standing). cond (made.number == number) (Some made) o) (sees.mapped number)
          ∙ sym (found number))));
      counted = λ p.
          ap (λ (es : List (ℕ × Standing)). count_by p (values_of es)) inside
          ∙ (count_inserted p made.number made state.standing none
          ∙ (ap (λ (n : ℕ). n + cond (p made) 1 0) (sees.counted p)
          ∙ (sym (count_more p (standing_after before) made)
          ∙ ap (λ (ss : List Standing). count_by p ss) (sym standing))));
      made = λ number.
          ap (λ ns. has (with_number ns made.number) number) refl
          ∙ (number_more state.numbers made.number number
          ∙ (ap (λ (b : Bool). b || (made.number == number)) (sees.made number)
          ∙ sym (given number)));
      fresh = λ number later.
          (let both : (was_made before number ≡ false) × ((made.number == number) ≡ false) = either_false (was_made before number) (made.number == number) (sym (given number) ∙ later) in
          found number ∙ rw both.1 (sees.fresh number both.0));
    }
