-- The rule refuses what no machine gives.
use Rattle.std.proofs.Common.{◌≡◌, ℕ, ◌+◌, ◌*◌, ◌/◌, ◌^◌, ◌<◌, Bool, true, false, true≢false, if◌then◌else◌, [], ◌∷◌, refl, sym, arith}
use Rattle.std.specs.Prelude.{Option, Some, None, nat_le, nat_lt, max}
use Rattle.std.proofs.lemmas.Option.{none-some}
use Rattle.std.proofs.lemmas.Bool.Decides.{nat_tests}
use Rattle.std.proofs.lemmas.Nat.{pow_pos}
use Rattle.blk_base.specs.Options.{Options}
use Rattle.blk_base.specs.declared.config.Submission.TheVariants.{Read, Write}
use Rattle.schedule_text.specs.declared.line.Detail.{Detail}
use Rattle.blk_base.specs.declared.refusal.Refusal.{Refusal}
use Rattle.blk_base.specs.declared.refusal.Refusal.TheVariants as refusal
use Rattle.schedule_text.specs.declared.line.Line.TheVariants as lines
use Rattle.plain_disk.specs.Refusal.{lacks_frames}
use Rattle.refusal_laws.specs.Ruled.{AreRuled}
use Rattle.refusal_laws.specs.Wrong.{full_though_empty, taken_while_closing, range_though_read_only}

pub closing : (config : Options) (detail : Detail) → AreRuled (Read 0 1 ∷ []) (taken_while_closing config detail) → ⊥
closing config detail h =
    let is = h (lines.Begin config detail ∷ lines.Ready ∷ lines.Poke 2 0 1 ∷ lines.Closing ∷ []) [] (lines.Submit 1 (Read 0 1)) refl in
    none-some refusal.Closing (sym is.1)

not_range : (b : Bool) (rest : Option Refusal) → b ≡ true → (if b then Some refusal.ReadOnly else rest) ≡ Some refusal.Range → ⊥
not_range true rest is e = cc
not_range false rest is e = true≢false (sym is)

pub read_only : (config : Options) (detail : Detail) (tag : ℕ) → config.read_only ≡ true → AreRuled (Write 0 1 tag ∷ []) (range_though_read_only config detail) → ⊥
read_only config detail tag fixed h =
    let is = h (lines.Begin config detail ∷ lines.Ready ∷ lines.Poke 2 0 1 ∷ []) [] (lines.Refuse refusal.Range) refl in
    not_range config.read_only _ fixed is

not_full : (past long full lacks : Bool) → full ≡ false → (if past then Some refusal.Range else (if long then Some refusal.Long else (if full then Some refusal.Full else (if lacks then Some refusal.Buffers else None)))) ≡ Some refusal.Full → ⊥
not_full true long full lacks is e = cc
not_full false true full lacks is e = cc
not_full false false true lacks is e = true≢false is
not_full false false false true is e = cc
not_full false false false false is e = cc

some_entries : (order : ℕ) → nat_le (32 * 2 ^ order) 0 ≡ false
some_entries order =
    let some = pow_pos order in
    let more : 0 < 32 * 2 ^ order = omega arith in
    grind (arith, nat_tests)

pub empty : (config : Options) (detail : Detail) → AreRuled (Read 0 1 ∷ []) (full_though_empty config detail) → ⊥
empty config detail h =
    let is = h (lines.Begin config detail ∷ lines.Ready ∷ lines.Poke 2 0 1 ∷ []) [] (lines.Refuse refusal.Full) refl in
    not_full (nat_lt config.sectors (0 + 1)) (nat_lt (max 11 config.indirect) ((1 + 7) / 8)) (nat_le (32 * 2 ^ config.order) 0) (lacks_frames [] (Read 0 1)) (some_entries config.order) is
