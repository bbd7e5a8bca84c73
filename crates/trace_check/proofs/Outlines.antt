-- The outline of lines that come in order, and which of them show moves.
use Rattle.std.proofs.Common.{◌≡◌, ◌≢◌, not, ◌&&◌, ◌||◌, Bool, true, false, if◌then◌else◌, List, [], ◌∷◌, ◌++◌, refl, sym, ap, subst, ◌∙◌, append_assoc, true≢false}
use Rattle.std.specs.Prelude.{IsTrue}
use Rattle.std.specs.List.{list_all, list_any}
use Rattle.std.specs.Bool.{Decides}
use Rattle.std.proofs.lemmas.List.Folds.{list_any-append, list_all-append}
use Rattle.schedule_text.specs.declared.line.Line.{Line}
use Rattle.schedule_text.specs.declared.line.Line.TheVariants as lines
use Rattle.blk_base.specs.Options.{Options}
use Rattle.schedule_text.specs.declared.line.Detail.TheVariants.{Moves}
use Rattle.plain_disk.specs.Honest.{is_honest}
use Rattle.report_rules.specs.Obeys.{Obeys}
use Rattle.checked_rules.specs.Lines.{is_begin, shows_moves, is_end, is_move}
use Rattle.trace_check.specs.Outline.{Outline, no_lines, outlined, allows_order}
use Rattle.checked_rules.specs.Rules.{IsOrderAt}
use Rattle.checked_rules.proofs.Listed.{only_begin_shows}

-- the outline is what these lines say
pub record Outlines (before : List Line) (o : Outline) : Type 0 where
  pub begun : o.begun ≡ false → before ≡ []
  pub unbegun : before ≡ [] → o.begun ≡ false
  pub shown : o.shown ≡ list_any shows_moves before
  pub hostile : o.hostile ≡ not (list_all is_honest before)
  pub ended : o.ended ≡ list_any is_end before

pub none_outlined : Outlines [] no_lines
none_outlined = record { begun = λ e. refl; unbegun = λ e. refl; shown = refl; hostile = refl; ended = refl }

no_more : (before : List Line) (line : Line) → before ++ line ∷ [] ≡ [] → ⊥
no_more [] line e = absurd cc
no_more (first ∷ before) line e = absurd cc

one_any : (b : Bool) → (b || false) ≡ b
one_any true = refl
one_any false = refl

any_more : (p : Line → Bool) (before : List Line) (line : Line) → list_any p (before ++ line ∷ []) ≡ (list_any p before || p line)
any_more p before line = list_any-append p before (line ∷ []) ∙ ap (λ b. list_any p before || b) (one_any (p line))

one_all : (b : Bool) → (b && true) ≡ b
one_all true = refl
one_all false = refl

pub all_more : (p : Line → Bool) (before : List Line) (line : Line) → list_all p (before ++ line ∷ []) ≡ (list_all p before && p line)
all_more p before line = list_all-append p before (line ∷ []) ∙ ap (λ b. list_all p before && b) (one_all (p line))

either_not : (a b : Bool) → (not a || not b) ≡ not (a && b)
either_not true b = refl
either_not false b = refl

pub outlined_more : (before : List Line) (line : Line) (o : Outline) → Outlines before o → Outlines (before ++ line ∷ []) (outlined o line)
outlined_more before line o h = record {
  begun = λ e. absurd (true≢false e);
  unbegun = λ e. absurd (no_more before line e);
  shown = ap (λ b. b || shows_moves line) h.shown ∙ sym (any_more shows_moves before line);
  hostile = ap (λ b. b || not (is_honest line)) h.hostile ∙ (either_not (list_all is_honest before) (is_honest line) ∙ ap not (sym (all_more is_honest before line)));
  ended = ap (λ b. b || is_end line) h.ended ∙ sym (any_more is_end before line);
}

-- ---- the order

some_line : (before : List Line) (b : Bool) → (b ≡ false → before ≡ []) → before ≢ [] → b ≡ true
some_line before true h some = refl
some_line before false h some = absurd (some (h refl))

ordered : (begun ended shown begins move : Bool) → (if begun then not begins else begins) && not ended && (not move || shown) ≡ true
    → (begun ≡ false → begins ≡ true) × (begun ≡ true → begins ≡ false) × (ended ≡ false) × (IsTrue move → shown ≡ true)
ordered true false true false move e = (λ f. absurd (true≢false f), λ t. refl, refl, λ m. refl)
ordered true false false false false e = (λ f. absurd (true≢false f), λ t. refl, refl, λ m. absurd (true≢false (sym m)))
ordered true false false false true e = absurd (true≢false (sym e))
ordered true true shown false move e = absurd (true≢false (sym e))
ordered true ended shown true move e = absurd (true≢false (sym e))
ordered false false true true move e = (λ f. refl, λ t. absurd (true≢false (sym t)), refl, λ m. refl)
ordered false false false true false e = (λ f. refl, λ t. absurd (true≢false (sym t)), refl, λ m. absurd (true≢false (sym m)))
ordered false false false true true e = absurd (true≢false (sym e))
ordered false true shown true move e = absurd (true≢false (sym e))
ordered false ended shown false move e = absurd (true≢false (sym e))

in_order : (begun ended shown begins move : Bool) → (begun ≡ false → begins ≡ true) → (begun ≡ true → begins ≡ false) → ended ≡ false → (IsTrue move → shown ≡ true)
    → (if begun then not begins else begins) && not ended && (not move || shown) ≡ true
in_order true ended shown begins false first later unended moves = rw (later refl, unended) refl
in_order true ended shown begins true first later unended moves = rw (later refl, unended, moves refl) refl
in_order false ended shown begins false first later unended moves = rw (first refl, unended) refl
in_order false ended shown begins true first later unended moves = rw (first refl, unended, moves refl) refl

pub order_decided : (before : List Line) (line : Line) (o : Outline) → Outlines before o → Decides (allows_order o line) (IsOrderAt before line)
order_decided before line o h = (kept, allowed)
  where
    kept : allows_order o line ≡ true → IsOrderAt before line
    kept e =
        let k = ordered o.begun o.ended o.shown (is_begin line) (is_move line) e in
        record {
          first = λ none. k.0 (h.unbegun none);
          later = λ some. k.1 (some_line before o.begun h.begun some);
          ended = sym h.ended ∙ k.2;
          shown = λ m. sym h.shown ∙ k.3 m;
        }

    allowed : IsOrderAt before line → allows_order o line ≡ true
    allowed k =
        in_order o.begun o.ended o.shown (is_begin line) (is_move line)
        (λ f. k.first (h.begun f))
        (λ t. k.later (λ none. true≢false (sym t ∙ h.unbegun none)))
        (h.ended ∙ k.ended)
        (λ m. h.shown ∙ k.shown m)

-- ---- where moves are shown

some_more : (before : List Line) (line : Line) → before ++ line ∷ [] ≢ []
some_more before line e = no_more before line e

-- no line but the first shows moves
later_unshown : (first rest : List Line) → first ≢ [] → Obeys IsOrderAt (first ++ rest) → list_any shows_moves rest ≡ false
later_unshown first [] some order = refl
later_unshown first (line ∷ rest) some order =
    let none = only_begin_shows line ((order first rest line refl).later some) in
    let more = later_unshown (first ++ line ∷ []) rest (some_more first line) (subst (λ xs. Obeys IsOrderAt xs) (sym (append_assoc first (line ∷ []) rest)) order) in
    ap (λ b. b || list_any shows_moves rest) none ∙ more

either_true : (a b : Bool) → (a || b) ≡ true → b ≡ false → a ≡ true
either_true true b e none = refl
either_true false b e none = absurd (true≢false (sym e ∙ none))

-- the first line shows them
first_shows : (line : Line) (rest : List Line) → Obeys IsOrderAt (line ∷ rest) → list_any shows_moves (line ∷ rest) ≡ true → shows_moves line ≡ true
first_shows line rest order shown = either_true (shows_moves line) (list_any shows_moves rest) shown (later_unshown (line ∷ []) rest (λ e. no_more [] line e) order)

-- a report that shows moves begins with the line that says so
begins_with : (first : Line) (rest : List Line) → shows_moves first ≡ true → (config : Options) × (later : List Line) × (first ∷ rest ≡ lines.Begin config Moves ∷ later)
begins_with (lines.Begin config Moves) rest is = (config, rest, refl)
begins_with first rest is = absurd (true≢false (sym is))

pub begins_shown : (report : List Line) → Obeys IsOrderAt report → list_any shows_moves report ≡ true → (config : Options) × (later : List Line) × (report ≡ lines.Begin config Moves ∷ later)
begins_shown [] order shown = absurd (true≢false (sym shown))
begins_shown (first ∷ rest) order shown = begins_with first rest (first_shows first rest order shown)

-- lines before which moves aren't shown, and after one of which they are: none
pub shown_first : (before : List Line) (line : Line) → IsOrderAt before line → list_any shows_moves before ≡ false → shows_moves line ≡ true → before ≡ []
shown_first [] line order none shows = refl
shown_first (first ∷ before) line order none shows = absurd (true≢false (sym shows ∙ only_begin_shows line (order.later (λ e. absurd cc))))
