-- What a map and an unmap make of a grant entry and of the mappings.
use Rattle.std.proofs.Common.{◌≡◌, ℕ, ◌+◌, ◌*◌, ◌/◌, ◌%◌, ◌<◌, ◌≤◌, ◌==◌, ◌&&◌, ◌||◌, not, Bool, true, false, if◌then◌else◌, List, [], ◌∷◌, refl, ap, ◌∙◌, subst, arith}
use Rattle.std.specs.Prelude.{All, Option, Some, None, IsSomeAnd, Result, Ok, Err, nat_lt}
use Rattle.std.specs.List.{AllByRecursion}
use Rattle.std.proofs.lemmas.Bool.Decides.{nat_tests}
use Rattle.std.proofs.lemmas.List.Elements.{recursion_from_All}
use Rattle.blk_base.specs.declared.parts.Mapping.{Mapping}
use Rattle.blk_base.specs.declared.parts.Mode.{Mode}
use Rattle.grant_table.specs.declared.held.Held.{Held}
use Rattle.grant_table.specs.declared.entry.MapRefusal.{MapRefusal}
use Rattle.grant_table.specs.declared.entry.MapRefusal.TheVariants.{General, BadRef}
use Rattle.grant_table.specs.Entry.{verdict_of, type_of, other_flags_of, domid_of, is_for_writing, is_readonly}
use Rattle.grant_table.specs.Table.{GrantTable, IsLive, held_of, frame_of, verdict_at, entry_word0}
use Rattle.grant_table.specs.Sound.{IsGrantable}
use Rattle.schedule_text.specs.declared.line.Line.{Line}
use Rattle.report_rules.specs.Mapped.{map_verdict}
use Rattle.report_rules.specs.Value.{value_before}
use Rattle.move_laws.specs.Tells.{Tells}

-- an entry that is granted
pub record IsGranted (gref frame : ℕ) : Type 0 where
  pub reference : gref < 1024
  pub low : 2 ≤ frame
  pub high : frame ≤ 1023

granted_by : (gref frame word1 : ℕ) (a b c d : Bool) → nat_lt 1023 gref ≡ a → (nat_lt word1 2 || nat_lt 1023 word1) ≡ d → ◌≡◌ {A = Result ℕ MapRefusal} (if a then Err BadRef else (if b then Err General else (if c then Err General else (if d then Err General else Ok word1)))) (Ok frame) → IsGranted gref frame
granted_by gref frame word1 true b c d s t e = absurd (cc)
granted_by gref frame word1 false true c d s t e = absurd (cc)
granted_by gref frame word1 false false true d s t e = absurd (cc)
granted_by gref frame word1 false false false true s t e = absurd (cc)
granted_by gref frame word1 false false false false s t e =
    let same : word1 ≡ frame = cc in
    let lows = low_of word1 (nat_lt word1 2) (nat_lt 1023 word1) refl refl t in
    record { reference = grind (arith, nat_tests); low = omega (arith, lows.0); high = omega (arith, lows.1) }
  where
    low_of : (n : ℕ) (x y : Bool) → nat_lt n 2 ≡ x → nat_lt 1023 n ≡ y → (x || y) ≡ false → (2 ≤ n) × (n ≤ 1023)
    low_of n true y p q r = absurd (cc)
    low_of n false true p q r = absurd (cc)
    low_of n false false p q r = (grind (arith, nat_tests), grind (arith, nat_tests))

pub granted : (gref word0 word1 : ℕ) (mode : Mode) (frame : ℕ) → verdict_of gref word0 word1 mode ≡ Ok frame → IsGranted gref frame
granted gref word0 word1 mode frame e =
    granted_by gref frame word1 (nat_lt 1023 gref) (not (type_of word0 == 1) || not (other_flags_of word0 == 0) || not (domid_of word0 == 0)) (is_for_writing mode && is_readonly word0) (nat_lt word1 2 || nat_lt 1023 word1) refl refl e

-- the verdict by the lines is the verdict by the entry
pub verdict_told : (before : List Line) (pages : List ℕ) (table : GrantTable) (gref : ℕ) (mode : Mode) → Tells before pages table → map_verdict before gref mode ≡ verdict_at pages gref mode
verdict_told before pages table gref mode tells = by_test (nat_lt 1023 gref) refl
  where
    by_test : (b : Bool) → nat_lt 1023 gref ≡ b → map_verdict before gref mode ≡ verdict_at pages gref mode
    by_test true t = rw t refl
    by_test false t =
        let within : gref < 1024 = grind (arith, nat_tests) in
        ap (λ (v : ℕ). verdict_of gref v (value_before before (gref / 512) (2 * (gref % 512) + 1)) mode) (tells.values (gref / 512) (2 * (gref % 512)) (omega arith) (omega arith))
        ∙ ap (λ (v : ℕ). verdict_of gref (entry_word0 pages gref) v mode) (tells.values (gref / 512) (2 * (gref % 512) + 1) (omega arith) (omega arith))

-- a live mapping is found
pub record Found (table : GrantTable) (m : Mapping) : Type 0 where
  pub held : Held
  pub is : held_of m.number table.live ≡ Some held
  pub same : held.mapping ≡ m
  pub fits : IsGrantable held

found_fits : (number : ℕ) (live : List Held) (held : Held) → AllByRecursion IsGrantable live → held_of number live ≡ Some held → IsGrantable held
found_fits number [] held all e = absurd (cc)
found_fits number (h ∷ live) held all e = by_test (h.mapping.number == number) refl (found_fits number live held all.1)
  where
    by_test : (same : Bool) → (h.mapping.number == number) ≡ same → (held_of number live ≡ Some held → IsGrantable held) → IsGrantable held
    by_test true t later =
        let first : Some h ≡ Some held = rw t at e in
        let is : h ≡ held = cc in
        subst IsGrantable is all.0
    by_test false t later = later (rw t at e)

found_by : (table : GrantTable) (m : Mapping) (o : Option Held) → held_of m.number table.live ≡ o → IsSomeAnd o (λ (h : Held). h.mapping ≡ m) → All IsGrantable table.live → Found table m
found_by table m None e live grantable = absurd live
found_by table m (Some held) e live grantable = record { held = held; is = e; same = live; fits = found_fits m.number table.live held (recursion_from_All IsGrantable table.live grantable) e }

pub found : (table : GrantTable) (m : Mapping) → IsLive table m → All IsGrantable table.live → Found table m
found table m live grantable = found_by table m (held_of m.number table.live) refl live grantable

pub frame_found : (table : GrantTable) (m : Mapping) (f : Found table m) → frame_of table m ≡ f.held.frame
frame_found table m f = rw f.is refl
