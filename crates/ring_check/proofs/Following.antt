-- What is kept, one line further, is what the lines before say with one line more.
use Rattle.std.proofs.Common.{◌≡◌, ℕ, ◌||◌, Bool, true, false, if◌then◌else◌, List, [], ◌∷◌, ◌++◌, length, refl, ap, sym, ◌∙◌, subst, append_assoc, append-nil}
use Rattle.std.specs.Prelude.{fold, Option, Some, None, is_some}
use Rattle.std.specs.List.{filter_map, cons_option}
use Rattle.std.specs.Option.{option_to_list}
use Rattle.std.proofs.lemmas.List.{reverse-append, reverse-reverse}
use Rattle.std.proofs.lemmas.List.Sums.{fold-append}
use Rattle.std.proofs.lemmas.List.Elements.{filter_map-append}
use Rattle.blk_base.specs.declared.operation.Abi.{Abi}
use Rattle.blk_base.specs.declared.operation.Abi.TheVariants.{X64}
use Rattle.schedule_text.specs.declared.line.Line.{Line}
use Rattle.schedule_text.specs.declared.line.Line.TheVariants as lines
use Rattle.report_rules.specs.declared.standing.Standing.{Standing}
use Rattle.report_rules.specs.declared.overrun.Overrun.{Overrun}
use Rattle.report_rules.specs.Touch.{IsTouchAt}
use Rattle.report_rules.specs.Mapped.{IsMapAnswerAt}
use Rattle.report_rules.specs.Standing.{is_epoch, this_epoch}
use Rattle.report_rules.specs.Ring.{page_made, order_of, ring_pages, start_told, start_of, replied_after, replied_before, produced_after, abi_after, ring_abi}
use Rattle.report_rules.specs.Stretch.{entries_read, words_within}
use Rattle.report_rules.specs.Overrun.{overrun_of, overrun_by, overrun_shown, overran_after, has_overrun}
use Rattle.report_rules.proofs.Back.{epoch_more}
use Rattle.ring_check.specs.State.{RingState, begun, no_lines, replied_seen, producer_on, response_on, overrun_seen, further, seen, state_of}
use Rattle.ring_check.specs.Kept.{IsKept, IsTouched}
use Rattle.ring_check.proofs.Telling.{producer_is, entry_is, response_is, produced_is, producer_stays, response_stays, newest, newest_more, newest_is, IsNew}
use Rattle.ring_check.proofs.Counting.{counted_more, counted_anew}
use Rattle.ring_check.proofs.Untouched.{AreMade, none_made, made_next, new_page}

pub record Sees (before : List Line) (s : RingState) : Type 0 where
  pub made : AreMade before
  pub start : s.start ≡ start_of before
  pub abi : s.abi ≡ ring_abi before
  pub pages : s.pages ≡ ring_pages before
  pub written : s.written ≡ newest (response_on (ring_pages before)) (this_epoch before)
  pub shown : s.shown ≡ newest (producer_on (ring_pages before)) (this_epoch before)
  pub fetched : s.fetched ≡ entries_read before
  pub within : s.within ≡ words_within before
  pub overran : s.overran ≡ has_overrun before
  pub overrun : s.overrun ≡ overrun_shown before

pub kept_of : (before : List Line) (s : RingState) → Sees before s → IsKept before s
kept_of before s k = record {
  start = k.start;
  abi = k.abi;
  pages = k.pages;
  replied = rw (k.written, k.start) (sym (newest_is (replied_after before) (response_on (ring_pages before)) (response_is before) (this_epoch before) (start_of before) (start_of before) None refl));
  produced = rw (k.shown, k.start) (sym (newest_is (produced_after before) (producer_on (ring_pages before)) (produced_is before) (this_epoch before) (start_of before) (start_of before) None refl));
  fetched = k.fetched;
  within = k.within;
  overran = k.overran;
  overrun = k.overrun;
}

-- a line shows the same overrun
pub overrun_same : (before : List Line) (s : RingState) (line : Line) → IsKept before s → overrun_seen s line ≡ overrun_by before line
overrun_same before s line k =
    ap (λ (pages : List Standing). overrun_of (order_of (length pages)) (replied_seen s) (producer_on pages line)) k.pages
    ∙ (ap (λ (replied : ℕ). overrun_of (order_of (length (ring_pages before))) replied (producer_on (ring_pages before) line)) k.replied
    ∙ ap (λ (told : Option ℕ). overrun_of (order_of (length (ring_pages before))) (replied_before before) told) (sym (producer_is before line)))

overran_more : (before : List Line) (line : Line) → has_overrun (before ++ line ∷ []) ≡ overran_after (has_overrun before) before line
overran_more before line = rw (reverse-append before (line ∷ []), reverse-reverse before) refl

shown_more : (before : List Line) (line : Line) → overrun_shown (before ++ line ∷ []) ≡ overrun_by before line
shown_more before line = rw (reverse-append before (line ∷ []), reverse-reverse before) refl

no_overrun : (order : Option ℕ) (replied : ℕ) → overrun_of order replied None ≡ None
no_overrun None replied = refl
no_overrun (Some order) replied = refl

epoch_shows : (before : List Line) (line : Line) → is_epoch line ≡ true → overrun_by before line ≡ None
epoch_shows before lines.Epoch e = no_overrun (order_of (length (ring_pages before))) (replied_before before)
epoch_shows before line e = absurd (cc)

epoch_starts : (n : ℕ) (line : Line) → is_epoch line ≡ true → start_told n line ≡ n
epoch_starts n lines.Epoch e = refl
epoch_starts n line e = absurd (cc)

one_page : (made : Option Standing) → cons_option made [] ≡ option_to_list made
one_page None = refl
one_page (Some m) = refl

start_more : (before : List Line) (line : Line) → start_of (before ++ line ∷ []) ≡ start_told (start_of before) line
start_more before line = fold-append start_told 0 before (line ∷ [])

sees_epoch : (before : List Line) (line : Line) (s : RingState) → Sees before s → AreMade (before ++ line ∷ []) → is_epoch line ≡ true → Sees (before ++ line ∷ []) (begun s.start)
sees_epoch before line s k made e =
    let after = before ++ line ∷ [] in
    let none : this_epoch after ≡ [] = epoch_more before line ∙ ap (λ (b : Bool). if b then [] else this_epoch before ++ line ∷ []) e in
    record {
      made = made;
      start = k.start ∙ (sym (epoch_starts (start_of before) line e) ∙ sym (start_more before line));
      abi = sym (ap (λ (xs : List Line). fold abi_after (Some X64) xs) none);
      pages = sym (ap (λ (xs : List Line). filter_map page_made xs) none);
      written = sym (ap (λ (xs : List Line). newest (response_on (ring_pages after)) xs) none);
      shown = sym (ap (λ (xs : List Line). newest (producer_on (ring_pages after)) xs) none);
      fetched = sym (counted_anew before line e).0;
      within = sym (counted_anew before line e).1;
      overran = sym (overran_more before line ∙ ap (λ (b : Bool). if b then false else has_overrun before || is_some (overrun_by before line)) e);
      overrun = sym (shown_more before line ∙ epoch_shows before line e);
    }

sees_further : (before : List Line) (line : Line) (s : RingState) → Sees before s → AreMade (before ++ line ∷ []) → IsNew (page_made line) (this_epoch before) → is_epoch line ≡ false → Sees (before ++ line ∷ []) (further s line)
sees_further before line s k made new e =
    let after = before ++ line ∷ [] in
    let long : this_epoch after ≡ this_epoch before ++ line ∷ [] = epoch_more before line ∙ ap (λ (b : Bool). if b then [] else this_epoch before ++ line ∷ []) e in
    let more : ring_pages after ≡ ring_pages before ++ option_to_list (page_made line) =
    ap (λ (xs : List Line). filter_map page_made xs) long
    ∙ (filter_map-append page_made (this_epoch before) (line ∷ []) ∙ ap (λ (ps : List Standing). ring_pages before ++ ps) (one_page (page_made line))) in
    let same : overrun_seen s line ≡ overrun_by before line = overrun_same before s line (kept_of before s k) in
    record {
      made = made;
      start = ap (λ (n : ℕ). start_told n line) k.start ∙ sym (start_more before line);
      abi = ap (λ (a : Option Abi). abi_after a line) k.abi ∙ sym (ap (λ (xs : List Line). fold abi_after (Some X64) xs) long ∙ fold-append abi_after (Some X64) (this_epoch before) (line ∷ []));
      pages = ap (λ (ps : List Standing). ps ++ option_to_list (page_made line)) k.pages ∙ sym more;
      written = rw (more, long, k.pages, k.written) (sym (newest_more response_on response_stays (ring_pages before) (this_epoch before) line new));
      shown = rw (more, long, k.pages, k.shown) (sym (newest_more producer_on producer_stays (ring_pages before) (this_epoch before) line new));
      fetched = rw (k.pages, k.abi, k.fetched, k.within, ← entry_is before line) (sym (counted_more before line e).0);
      within = rw (k.pages, k.abi, k.within, ← entry_is before line) (sym (counted_more before line e).1);
      overran = sym (overran_more before line ∙ (ap (λ (b : Bool). if b then false else has_overrun before || is_some (overrun_by before line)) e
          ∙ (ap (λ (b : Bool). b || is_some (overrun_by before line)) (sym k.overran) ∙ ap (λ (o : Option Overrun). s.overran || is_some o) (sym same))));
      overrun = same ∙ sym (shown_more before line);
    }

sees_by : (before : List Line) (line : Line) (s : RingState) (epoch : Bool) → Sees before s → AreMade (before ++ line ∷ []) → IsNew (page_made line) (this_epoch before) → is_epoch line ≡ epoch → Sees (before ++ line ∷ []) (if epoch then begun s.start else further s line)
sees_by before line s true k made new e = sees_epoch before line s k made e
sees_by before line s false k made new e = sees_further before line s k made new e

sees_next : (before : List Line) (line : Line) (s : RingState) → Sees before s → IsTouchAt before line → IsMapAnswerAt before line → Sees (before ++ line ∷ []) (seen s line)
sees_next before line s k touch answer = sees_by before line s (is_epoch line) k (made_next before line k.made touch) (new_page before line k.made answer) refl

sees_none : Sees [] no_lines
sees_none = record { made = none_made; start = refl; abi = refl; pages = refl; written = refl; shown = refl; fetched = refl; within = refl; overran = refl; overrun = refl }

sees_more : (later before : List Line) (s : RingState) → Sees before s → IsTouched (before ++ later) → Sees (before ++ later) (fold seen s later)
sees_more [] before s k rule = subst (λ (xs : List Line). Sees xs s) (sym (append-nil before)) k
sees_more (line ∷ later) before s k rule =
    let joined : (before ++ line ∷ []) ++ later ≡ before ++ line ∷ later = append_assoc before (line ∷ []) later in
    let next : Sees (before ++ line ∷ []) (seen s line) = sees_next before line s k (rule.touches before later line refl) (rule.answers before later line refl) in
    subst (λ (xs : List Line). Sees xs (fold seen (seen s line) later)) joined
    (sees_more later (before ++ line ∷ []) (seen s line) next (subst (λ (xs : List Line). IsTouched xs) (sym joined) rule))

-- what is kept is what the lines say
pub kept_all : (before : List Line) → IsTouched before → IsKept before (state_of before)
kept_all before rule = kept_of before (state_of before) (sees_more before [] no_lines sees_none rule)
