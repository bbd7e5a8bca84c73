-- What the lines tell of memory and mappings, one line further on.
use Rattle.std.proofs.Common.{◌≡◌, ℕ, ◌<◌, ◌||◌, ◌==◌, not, Bool, true, false, if◌then◌else◌, fold, List, [], ◌∷◌, ◌++◌, length, map, filter, refl, sym, ap, ◌∙◌, arith}
use Rattle.std.specs.Prelude.{All, nat_lt, Option, Some, None}
use Rattle.std.specs.List.{list_any}
use Rattle.std.specs.Option.{option_to_list}
use Rattle.std.proofs.lemmas.List.Sums.{fold-append}
use Rattle.std.proofs.lemmas.Bool.Decides.{nat_tests}
use Rattle.std.proofs.lemmas.List.Elements.{All-nil}
use Rattle.grant_table.specs.Table.{GrantTable, revoked_table}
use Rattle.hypervisor.specs.Suspend.{tables_cleared}
use Rattle.hypervisor.proofs.Cleared.{cleared_word, kept_word, length-tables_cleared}
use Rattle.grant_table.specs.Sound.{IsGrantable}
use Rattle.xen_pages.specs.Pages.{word_of}
use Rattle.schedule_text.specs.declared.line.Line.{Line}
use Rattle.schedule_text.specs.declared.line.Line.TheVariants as lines
use Rattle.report_rules.specs.declared.standing.Standing.{Standing}
use Rattle.report_rules.specs.Standing.{is_epoch, is_unmap_of, mapping_made, has_number}
use Rattle.report_rules.specs.Mapped.{was_made}
use Rattle.report_rules.specs.Value.{value_before, value_after}
use Rattle.report_rules.proofs.Back.{value_more, standing_more}
use Rattle.move_laws.specs.Numbers.{greater_number, greatest_number}
use Rattle.move_laws.specs.Tells.{Tells, standing_of}

greatest_more : (before : List Line) (line : Line) → greatest_number (before ++ line ∷ []) ≡ greater_number (greatest_number before) (mapping_made line)
greatest_more before line = fold-append (λ (greatest : ℕ) (x : Line). greater_number greatest (mapping_made x)) 0 before (line ∷ [])

-- a number above all earlier ones is new
low_numbers : (n start : ℕ) (ls : List Line) → fold (λ (greatest : ℕ) (x : Line). greater_number greatest (mapping_made x)) start ls < n → (start < n) × (list_any (λ (x : Line). has_number n (mapping_made x)) ls ≡ false)
low_numbers n start [] low = (low, refl)
low_numbers n start (x ∷ ls) low =
    let rest = low_numbers n (greater_number start (mapping_made x)) ls low in
    by_made (mapping_made x) (list_any (λ (y : Line). has_number n (mapping_made y)) ls) rest.0 rest.1
  where
    other : (m : ℕ) → m < n → (m == n) ≡ false
    other m lt = grind (arith, nat_tests)

    by_made : (made : Option Standing) (later : Bool) → greater_number start made < n → later ≡ false → (start < n) × ((has_number n made || later) ≡ false)
    by_made None later low none = (low, none)
    by_made (Some m) later low none =
        let first : start < n = omega arith in
        let second : m.number < n = omega arith in
        (first, ap (λ (b : Bool). b || later) (other m.number second) ∙ none)

pub new_number : (before : List Line) (n : ℕ) → greatest_number before < n → was_made before n ≡ false
new_number before n low = (low_numbers n 0 before low).1

-- a line that makes of the memory and the mappings what these are made too
pub tells_more : (before : List Line) (line : Line) (pages pages' : List ℕ) (table table' : GrantTable)
    → Tells before pages table
    → is_epoch line ≡ false
    → length pages' ≡ 1114112
    → ((frame word : ℕ) → frame < 1088 → word < 1024 → value_after (record { frame = frame; word = word }) (word_of pages frame word) before line ≡ word_of pages' frame word)
    → filter (λ (s : Standing). not (is_unmap_of s.number line)) (map standing_of table.live) ++ option_to_list (mapping_made line) ≡ map standing_of table'.live
    → greater_number table.made (mapping_made line) ≡ table'.made
    → All IsGrantable table'.live
    → Tells (before ++ line ∷ []) pages' table'
tells_more before line pages pages' table table' tells same_epoch sized values standing made grantable = record {
  sized = sized;
  values = λ frame word framed worded.
      value_more before line frame word
      ∙ (ap (λ (v : ℕ). value_after (record { frame = frame; word = word }) v before line) (tells.values frame word framed worded)
      ∙ values frame word framed worded);
  standing = standing_more before line ∙ rw (same_epoch, tells.standing) standing;
  made = greatest_more before line ∙ (ap (λ (n : ℕ). greater_number n (mapping_made line)) tells.made ∙ made);
  grantable = grantable;
}

-- an epoch: the grant table is cleared, and no mapping stands
pub tells_epoch : (before : List Line) (pages : List ℕ) (table : GrantTable) → Tells before pages table → Tells (before ++ lines.Epoch ∷ []) (tables_cleared pages) (revoked_table table)
tells_epoch before pages table tells = record {
  sized = length-tables_cleared pages ∙ tells.sized;
  values = λ frame word framed worded. value_more before lines.Epoch frame word ∙ by_frame frame word framed worded (nat_lt frame 2) refl;
  standing = standing_more before lines.Epoch;
  made = greatest_more before lines.Epoch ∙ tells.made;
  grantable = All-nil IsGrantable;
}
  where
    by_frame : (frame word : ℕ) → frame < 1088 → word < 1024 → (b : Bool) → nat_lt frame 2 ≡ b → (if b then 0 else value_before before frame word) ≡ word_of (tables_cleared pages) frame word
    by_frame frame word framed worded true t = sym (cleared_word pages frame word (grind (arith, nat_tests)) worded)
    by_frame frame word framed worded false t = tells.values frame word framed worded ∙ sym (kept_word pages frame word (grind (arith, nat_tests)))
