-- The lines before tell a sight of the ring; a line more changes it.
use Rattle.std.proofs.Common.{◌≡◌, ℕ, ◌+◌, ◌||◌, Bool, true, false, cond, List, [], ◌∷◌, ◌++◌, length, length-append, refl, ap, sym, ◌∙◌, arith}
use Rattle.std.specs.Prelude.{fold, Option, None, is_some, unwrap_or}
use Rattle.std.specs.List.{list_any}
use Rattle.std.specs.Option.{option_to_list}
use Rattle.std.proofs.lemmas.List.{append-nil}
use Rattle.std.proofs.lemmas.List.Sums.{fold-append}
use Rattle.std.proofs.lemmas.List.Folds.{list_any-append}
use Rattle.blk_base.specs.declared.parts.Mode.{Mode}
use Rattle.blk_base.specs.declared.operation.Abi.{Abi}
use Rattle.blk_base.specs.declared.moves.BackMover.TheVariants as back
use Rattle.blk_base.specs.declared.moves.Move.TheVariants as moves
use Rattle.schedule_text.specs.declared.line.Line.{Line}
use Rattle.schedule_text.specs.declared.line.Line.TheVariants as lines
use Rattle.report_rules.specs.declared.standing.Standing.{Standing}
use Rattle.report_rules.specs.Standing.{is_epoch, this_epoch}
use Rattle.report_rules.specs.Ring.{page_made, ring_pages, start_told, start_of, replied_after, replied_before, produced_after, produced_before, abi_after, ring_abi}
use Rattle.report_rules.specs.Stretch.{entry_word_read, when, entry_value}
use Rattle.ring_laws.specs.Layout.{reads_protocol, IsNamedFirstAt}
use Rattle.ring_laws.proofs.Lists.{or_false, fold_same, fold_none}
use Rattle.ring_laws.proofs.EntryWords.{entry_values, words_read, values_more, values_still, epoch_longer, pages_more, abi_more, IsCounted, counted_more}
use Rattle.ring_laws.proofs.Sight.{is_touch, is_other, other_epoch, other_start, other_page, same_abi, other_touch, untouched_produced, untouched_replied, untouched_word, produced_same, replied_same}

-- the ring's pages, the two producers, how many words of entries were read, where rings start, those words, the layout that was named last, and whether the back touched a word
pub record Sight : Type 0 where
  pub pages : List Standing
  pub replied : ℕ
  pub produced : ℕ
  pub words : ℕ
  pub start : ℕ
  pub values : List ℕ
  pub abi : Option Abi
  pub touched : Bool

pub record Shows (before : List Line) (x : Sight) : Type 0 where
  pub pages : ring_pages before ≡ x.pages
  pub replied : replied_before before ≡ x.replied
  pub produced : produced_before before ≡ x.produced
  pub words : words_read before ≡ x.words
  pub start : start_of before ≡ x.start
  pub values : entry_values before ≡ x.values
  pub abi : ring_abi before ≡ x.abi
  pub fresh : x.touched ≡ false → list_any is_touch (this_epoch before) ≡ false
  pub counted : IsCounted before

pub untouched_value : (before : List Line) (line : Line) → is_touch line ≡ false → entry_value before line ≡ None
untouched_value before (lines.Move (moves.Read back.Back number frame word value)) e = absurd (cc)
untouched_value before line e = refl

pub pages_kept : (before : List Line) (line : Line) → is_epoch line ≡ false → page_made line ≡ None → ring_pages (before ++ line ∷ []) ≡ ring_pages before
pages_kept before line same none =
    pages_more before line same ∙ (ap (λ (made : Option Standing). ring_pages before ++ option_to_list made) none ∙ append-nil (ring_pages before))

start_more : (before : List Line) (line : Line) → start_told (start_of before) line ≡ start_of before → start_of (before ++ line ∷ []) ≡ start_of before
start_more before line same = fold-append start_told 0 before (line ∷ []) ∙ same

both_false : (a b : Bool) → a ≡ false → b ≡ false → (a || b) ≡ false
both_false a b p q = rw (p, q) refl

pub touched_more : (before : List Line) (line : Line) → is_epoch line ≡ false → list_any is_touch (this_epoch (before ++ line ∷ [])) ≡ (list_any is_touch (this_epoch before) || is_touch line)
touched_more before line same =
    ap (λ (ls : List Line). list_any is_touch ls) (epoch_longer before line same)
    ∙ (list_any-append is_touch (this_epoch before) (line ∷ []) ∙ ap (λ (b : Bool). list_any is_touch (this_epoch before) || b) (or_false (is_touch line)))

-- a line that makes no page
pub record IsOnPages (line : Line) : Type 0 where
  pub same_epoch : is_epoch line ≡ false
  pub start : (n : ℕ) → start_told n line ≡ n
  pub page : page_made line ≡ None

pub other_on_pages : (line : Line) → is_other line ≡ true → IsOnPages line
other_on_pages line other = record { same_epoch = other_epoch line other; start = λ n. other_start n line other; page = other_page line other }

replied_more : (before : List Line) (line : Line) → IsOnPages line → replied_before (before ++ line ∷ []) ≡ replied_after before (replied_before before) line
replied_more before line on =
    let longer = before ++ line ∷ [] in
    let pages = pages_kept before line on.same_epoch on.page in
    fold_same (replied_after longer) (replied_after before) (λ n l. replied_same longer before pages n l) (this_epoch longer) (start_of longer)
    ∙ (ap (λ (n : ℕ). fold (replied_after before) n (this_epoch longer)) (start_more before line (on.start (start_of before)))
    ∙ (ap (λ (ls : List Line). fold (replied_after before) (start_of before) ls) (epoch_longer before line on.same_epoch)
    ∙ fold-append (replied_after before) (start_of before) (this_epoch before) (line ∷ [])))

produced_after_same : (a b : List Line) → ring_pages a ≡ ring_pages b → (n : ℕ) (line : Line) → produced_after a n line ≡ produced_after b n line
produced_after_same a b same n line = ap (λ (shown : Option ℕ). unwrap_or shown n) (produced_same a b same line)

produced_more : (before : List Line) (line : Line) → IsOnPages line → produced_before (before ++ line ∷ []) ≡ produced_after before (produced_before before) line
produced_more before line on =
    let longer = before ++ line ∷ [] in
    let pages = pages_kept before line on.same_epoch on.page in
    fold_same (produced_after longer) (produced_after before) (λ n l. produced_after_same longer before pages n l) (this_epoch longer) (start_of longer)
    ∙ (ap (λ (n : ℕ). fold (produced_after before) n (this_epoch longer)) (start_more before line (on.start (start_of before)))
    ∙ (ap (λ (ls : List Line). fold (produced_after before) (start_of before) ls) (epoch_longer before line on.same_epoch)
    ∙ fold-append (produced_after before) (start_of before) (this_epoch before) (line ∷ [])))

words_more : (before : List Line) (line : Line) → is_epoch line ≡ false → words_read (before ++ line ∷ []) ≡ words_read before + cond (is_some (entry_word_read before line)) 1 0
words_more before line same =
    ap (λ (vs : List ℕ). length vs) (values_more before line same)
    ∙ (length-append (entry_values before) (option_to_list (entry_value before line)) ∙ ap (λ (n : ℕ). words_read before + n) (one_value line))
  where
    by_test : (b : Bool) (value : ℕ) → length (option_to_list (when b value)) ≡ cond b 1 0
    by_test true value = refl
    by_test false value = refl

    one_value : (l : Line) → length (option_to_list (entry_value before l)) ≡ cond (is_some (entry_word_read before l)) 1 0
    one_value (lines.Move (moves.Read back.Back number frame word value)) = by_test (is_some (entry_word_read before (lines.Move (moves.Read back.Back number frame word value)))) value
    one_value l = refl

-- the sight after a line that makes no page
pub shows_more : (before : List Line) (line : Line) (x : Sight) (replied produced words : ℕ) (values : List ℕ) (abi : Option Abi) → IsOnPages line → IsNamedFirstAt before line → Shows before x
    → replied_after before x.replied line ≡ replied
    → produced_after before x.produced line ≡ produced
    → x.words + cond (is_some (entry_word_read before line)) 1 0 ≡ words
    → (x.touched ≡ false → is_touch line ≡ false)
    → x.values ++ option_to_list (entry_value before line) ≡ values
    → abi_after x.abi line ≡ abi
    → Shows (before ++ line ∷ []) (record { pages = x.pages; replied = replied; produced = produced; words = words; start = x.start; values = values; abi = abi; touched = x.touched })
shows_more before line x replied produced words values abi on first shows r p w t vs named = record {
  pages = pages_kept before line on.same_epoch on.page ∙ shows.pages;
  replied = replied_more before line on ∙ (ap (λ (n : ℕ). replied_after before n line) shows.replied ∙ r);
  produced = produced_more before line on ∙ (ap (λ (n : ℕ). produced_after before n line) shows.produced ∙ p);
  words = words_more before line on.same_epoch ∙ (ap (λ (n : ℕ). n + cond (is_some (entry_word_read before line)) 1 0) shows.words ∙ w);
  start = start_more before line (on.start (start_of before)) ∙ shows.start;
  fresh = λ none. touched_more before line on.same_epoch ∙ both_false (list_any is_touch (this_epoch before)) (is_touch line) (shows.fresh none) (t none);
  values = values_more before line on.same_epoch ∙ (ap (λ (ws : List ℕ). ws ++ option_to_list (entry_value before line)) shows.values ∙ vs);
  abi = abi_more before line on.same_epoch ∙ (ap (λ (last : Option Abi). abi_after last line) shows.abi ∙ named);
  counted = counted_more before line on.same_epoch first shows.counted;
}

-- most lines read of no layout
pub unnamed_first : (before : List Line) (line : Line) → reads_protocol line ≡ false → IsNamedFirstAt before line
unnamed_first before line unnamed read = absurd (cc)

-- a line that the rules on the ring pass over, but for the layout
pub shows_named : (before : List Line) (line : Line) (x : Sight) (abi : Option Abi) → is_other line ≡ true → abi_after x.abi line ≡ abi → IsNamedFirstAt before line → Shows before x → Shows (before ++ line ∷ []) (record x { abi = abi })
shows_named before line x abi other named first shows =
    let none = other_touch line other in
    shows_more before line x x.replied x.produced x.words x.values abi (other_on_pages line other) first shows
    (untouched_replied before x.replied line none)
    (ap (λ (shown : Option ℕ). unwrap_or shown x.produced) (untouched_produced before line none))
    (ap (λ (word : Option ℕ). x.words + cond (is_some word) 1 0) (untouched_word before line none) ∙ omega arith)
    (λ empty. none)
    (ap (λ (value : Option ℕ). x.values ++ option_to_list value) (untouched_value before line none) ∙ append-nil x.values) named

pub shows_other : (before : List Line) (line : Line) (x : Sight) → is_other line ≡ true → reads_protocol line ≡ false → Shows before x → Shows (before ++ line ∷ []) x
shows_other before line x other unnamed shows = shows_named before line x x.abi other (same_abi x.abi line unnamed) (unnamed_first before line unnamed) shows

-- from here on the back may touch words
pub shows_open : (before : List Line) (x : Sight) → Shows before x → Shows before (record x { touched = true })
shows_open before x shows = record { pages = shows.pages; replied = shows.replied; produced = shows.produced; words = shows.words; start = shows.start; values = shows.values; abi = shows.abi; fresh = λ none. absurd (cc); counted = shows.counted }

-- a page of the ring is mapped, before the back touches a word
pub shows_map : (before : List Line) (gref number frame : ℕ) (mode : Mode) (x : Sight) → x.touched ≡ false → Shows before x
    → Shows (before ++ lines.Move (moves.Map back.Back gref mode number frame) ∷ []) (record x { pages = x.pages ++ record { number = number; gref = gref; mode = mode; frame = frame } ∷ [] })
shows_map before gref number frame mode x none shows =
    let line : Line = lines.Move (moves.Map back.Back gref mode number frame) in
    let longer : List Line = before ++ lines.Move (moves.Map back.Back gref mode number frame) ∷ [] in
    let untouched : list_any is_touch (this_epoch before) ≡ false = shows.fresh none in
    let still : list_any is_touch (this_epoch longer) ≡ false = touched_more before line refl ∙ (or_false (list_any is_touch (this_epoch before)) ∙ untouched) in
    let start : start_of longer ≡ start_of before = start_more before line refl in
    record {
      pages = pages_more before line refl ∙ ap (λ (ps : List Standing). ps ++ record { number = number; gref = gref; mode = mode; frame = frame } ∷ []) shows.pages;
      replied = fold_none (replied_after longer) is_touch (λ n l e. untouched_replied longer n l e) (this_epoch longer) (start_of longer) still ∙ (start ∙ (sym (fold_none (replied_after before) is_touch (λ n l e. untouched_replied before n l e) (this_epoch before) (start_of before) untouched) ∙ shows.replied));
      produced = fold_none (produced_after longer) is_touch (λ n l e. untouched_producer longer n l e) (this_epoch longer) (start_of longer) still ∙ (start ∙ (sym (fold_none (produced_after before) is_touch (λ n l e. untouched_producer before n l e) (this_epoch before) (start_of before) untouched) ∙ shows.produced));
      words = words_more before line refl ∙ (omega arith ∙ shows.words);
      start = start ∙ shows.start;
      values = values_still before line refl refl ∙ shows.values;
      abi = abi_more before line refl ∙ shows.abi;
      counted = counted_more before line refl (unnamed_first before line refl) shows.counted;
      fresh = λ empty. still;
    }
  where
    untouched_producer : (ls : List Line) (n : ℕ) (l : Line) → is_touch l ≡ false → produced_after ls n l ≡ n
    untouched_producer ls n l e = ap (λ (shown : Option ℕ). unwrap_or shown n) (untouched_produced ls l e)
