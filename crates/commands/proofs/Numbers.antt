-- The number that `get_one::<u64>` gives of a text.
use Rattle.std.proofs.Common.{◌≡◌, ℕ, List, Bool, true, false, Option, Some, None, Result, Ok, Err, refl, arith, ap}
use Rattle.std.specs.Prelude.{option_and_then, if◌then◌else◌}
use Rattle.std.specs.Str.Parse.{ParsesUnsigned, digits_value, without_leading_plus}
use Rattle.clap.specs.Words.{Text}
use Rattle.clap.specs.Matches.{ReadsOne}
use Rattle.clap.specs.ValueTests.{is_unsigned_in}
use Rattle.clap.specs.declared.builder.value_parser.ValueParser.TheVariants as parser
use Rattle.clap.proofs.ValueTestLemmas.{accepts-Accepts, Accepts-accepts}
use Rattle.commands.specs.Words.{number_of}

at : (text : Text) (r : Option ℕ) (E : Type 0) (G : List ℕ → Result ℕ E → Type 0) → ((u : List ℕ) (x : Result ℕ E) → G u x → ParsesUnsigned 64 10 u x)
    → ReadsOne G text r → (b : Bool) → is_unsigned_in 0 18446744073709551615 text ≡ b → r ≡ (if b then Some (digits_value 10 (without_leading_plus text)) else None)
at text (Some v) E G only read true is = let p = only text (Ok v) read in ap (λ n. Some n) p.1
at text (Some v) E G only read false is =
    let p = only text (Ok v) read in
    let yes : is_unsigned_in 0 18446744073709551615 text ≡ true = Accepts-accepts false (parser.Unsigned 0 18446744073709551615) text (p.0.0, p.0.1, omega arith, omega (arith, p.0.1)) in
    cc
at text None E G only read true is =
    let h = accepts-Accepts false (parser.Unsigned 0 18446744073709551615) text is in
    absurd (only text (Err read.0) read.1 (h.0, h.1))
at text None E G only read false is = refl

pub number_read : (E : Type 0) (G : List ℕ → Result ℕ E → Type 0) (text rows : Option Text) (r : Option ℕ) → ((u : List ℕ) (x : Result ℕ E) → G u x → ParsesUnsigned 64 10 u x)
    → (text ≡ None → r ≡ None) → ((t : List ℕ) → text ≡ Some t → ReadsOne G t r) → text ≡ rows → r ≡ option_and_then number_of rows
number_read E G text None r only none some same = none same
number_read E G text (Some t) r only none some same = at t r E G only (some t same) (is_unsigned_in 0 18446744073709551615 t) refl
