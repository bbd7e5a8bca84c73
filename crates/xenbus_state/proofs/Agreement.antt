-- What one end sets the other reads.
use Rattle.std.proofs.Common.{◌≡◌, ℕ, ◌+◌, ◌==◌, if◌then◌else◌, ◌^◌, ◌<◌, ◌≤◌, nat_le, not, Bool, true, false, arith, refl, decimal}
use Rattle.std.specs.Prelude.{Some}
use Rattle.std.proofs.lemmas.Bool.Decides.{nat_tests}
use Rattle.std.specs.Option.{option_map}
use Rattle.blk_base.specs.declared.operation.Abi.{Abi}
use Rattle.blk_base.specs.declared.operation.Abi.TheVariants.{X64, X32}
use Rattle.xenbus_state.specs.declared.keys.BackKey.TheVariants as back
use Rattle.xenbus_state.specs.declared.offer.Features.{Features}
use Rattle.xenbus_state.specs.declared.offer.DiskFacts.{DiskFacts}
use Rattle.xenbus_state.specs.declared.values.FrontTerms.{FrontTerms}
use Rattle.xenbus_state.specs.declared.values.KeyValue.TheVariants.{Layout}
use Rattle.xenbus_state.specs.Numbers.{number_of}
use Rattle.xenbus_state.specs.Values.{text_of, flag_of, back_value}
use Rattle.xenbus_state.specs.Reading.{fact_read}
use Rattle.xenbus_state.specs.BackReading.{order_of, layout_read}
use Rattle.xenbus_state.specs.Agreement.{AreTermsRead, AreFactsRead, reads_offer}
use Rattle.xenbus_state.proofs.Digits.{number_again, long_again}

flag_again : (there : Bool) → number_of (decimal (flag_of there)) ≡ Some (flag_of there)
flag_again true = number_again 1 (omega arith)
flag_again false = number_again 0 (omega arith)

not_zero : (there : Bool) → not (flag_of there == 0) ≡ there
not_zero true = refl
not_zero false = refl

is_one : (there : Bool) → (flag_of there == 1) ≡ there
is_one true = refl
is_one false = refl

order_again : (order : ℕ) → order ≤ 4 → order_of (Some order) ≡ Some order
order_again order few = let low : nat_le order 4 ≡ true = grind (arith, nat_tests) in rw low refl

layout_again : (abi : Abi) → layout_read (Some (text_of (Layout abi))) ≡ Some abi
layout_again X64 = refl
layout_again X32 = refl

pub terms_again : (terms : FrontTerms) → terms.order ≤ 4 → terms.port < 2 ^ 32 → AreTermsRead terms
terms_again terms few fits = record {
  order = rw (number_again terms.order (omega arith)) (order_again terms.order few);
  only = number_again 8 (omega arith);
  pages = λ page low. number_again (8 + page) (omega arith);
  port = number_again terms.port fits;
  layout = layout_again terms.abi;
  persistent = flag_again terms.persistent;
}

pub offer_again : (offer before : Features) (disk : DiskFacts) → offer.indirect < 2 ^ 32 → offer.order < 2 ^ 32 → reads_offer (λ key. text_of (back_value offer disk key)) before ≡ Some offer
offer_again offer before disk indirect order = rw (flag_again offer.barrier, flag_again offer.flush, flag_again offer.discard, flag_again offer.persistent, number_again offer.indirect indirect, number_again offer.order order, not_zero offer.barrier, not_zero offer.flush, not_zero offer.discard, is_one offer.persistent) refl

info_again : (read_only : Bool) → option_map (λ n. n == 4) (fact_read back.Info (Some (decimal (if read_only then 4 else 0)))) ≡ Some read_only
info_again true = rw (number_again 4 (omega arith)) refl
info_again false = rw (number_again 0 (omega arith)) refl

pub facts_again : (offer : Features) (disk : DiskFacts) → disk.sectors < 2 ^ 64 → AreFactsRead offer disk
facts_again offer disk fits = record {
  sectors = long_again disk.sectors fits;
  size = rw (number_again 512 (omega arith)) refl;
  info = info_again disk.read_only;
}
