-- Paths and texts that the ends say are of the grammar.
use Rattle.std.proofs.Common.{◌≡◌, ◌∙◌, ℕ, ◌+◌, ◌%◌, ◌^◌, ◌<◌, ◌≤◌, nat_lt, nat_le, Bool, true, false, List, [], ◌∷◌, ◌++◌, length, refl, arith, decimal}
use Rattle.std.specs.Prelude.{codes}
use Rattle.std.specs.List.{list_all}
use Rattle.std.proofs.lemmas.Bool.Decides.{nat_tests}
use Rattle.std.proofs.lemmas.Fmt.{decimal_by_steps, decimal_nonempty, length-decimal-le}
use Rattle.std.proofs.lemmas.List.Folds.{list_all-append}
use Rattle.blk_base.specs.declared.operation.Abi.{Abi}
use Rattle.blk_base.specs.declared.operation.Abi.TheVariants.{X64, X32}
use Rattle.blk_base.specs.declared.parts.End.TheVariants as end
use Rattle.line_text.specs.Texts.{is_graphic, is_name_byte, is_key_name, is_key_path, is_key_text}
use Rattle.xenbus_state.specs.Keys.{back_name, path_under}
use Rattle.xenbus_state.specs.States.{state_number}
use Rattle.xenbus_state.specs.Values.{text_of, flag_of}
use Rattle.xenbus_state.specs.declared.values.KeyValue.TheVariants.{Layout}
use Rattle.xenbus_state.specs.declared.keys.BackKey.{BackKey}
use Rattle.xenbus_state.specs.declared.keys.BackKey.TheVariants as back_key
use Rattle.xenbus_state.specs.declared.state.BusState.{BusState}
use Rattle.xenbus_state.specs.declared.state.BusState.TheVariants as state

-- the digits of a number pass a test that each digit passes
digits_pass : (passes : ℕ → Bool) → ((d : ℕ) → d < 10 → passes (48 + d) ≡ true) → (n : ℕ) → n < 2 ^ 64 → list_all passes (decimal n) ≡ true
digits_pass passes each n fits = decimal_by_steps (λ m ds. list_all passes ds ≡ true) one more n fits
  where
    one : (n : ℕ) → n < 10 → list_all passes ((48 + n) ∷ []) ≡ true
    one n low = rw (each n low) refl

    more : (n : ℕ) (ds : List ℕ) → 10 ≤ n → list_all passes ds ≡ true → list_all passes (ds ++ (48 + n % 10) ∷ []) ≡ true
    more n ds le h = list_all-append passes ds ((48 + n % 10) ∷ []) ∙ rw (h, each (n % 10) (omega arith)) refl

graphic : (n : ℕ) → n < 2 ^ 64 → list_all is_graphic (decimal n) ≡ true
graphic n fits = digits_pass is_graphic (λ d low. grind (arith, nat_tests)) n fits

text_of_few : (ds : List ℕ) → 0 < length ds → length ds ≤ 20 → list_all is_graphic ds ≡ true → is_key_text ds ≡ true
unfolding is_key_text
text_of_few ds some few all =
    let low : nat_lt 0 (length ds) ≡ true = grind (arith, nat_tests) in
    let high : nat_le (length ds) 64 ≡ true = grind (arith, nat_tests) in
    rw (low, high, all) refl

pub number_text : (n : ℕ) → n < 2 ^ 64 → is_key_text (decimal n) ≡ true
number_text n fits = text_of_few (decimal n) (decimal_nonempty n fits) (length-decimal-le 20 n (omega arith) (omega arith) fits) (graphic n fits)

-- the path of a page's reference
path_of_few : (ds : List ℕ) → length ds ≤ 2 → list_all is_graphic ds ≡ true → is_key_path (path_under end.Front (codes "ring-ref" ++ ds)) ≡ true
unfolding is_key_path
path_of_few [] few all = refl
path_of_few (a ∷ []) few all = rw all refl
path_of_few (a ∷ b ∷ []) few all = rw all refl
path_of_few (a ∷ b ∷ c ∷ ds) few all = absurd (omega arith)

pub page_path : (page : ℕ) → page < 16 → is_key_path (path_under end.Front (codes "ring-ref" ++ decimal page)) ≡ true
page_path page few = path_of_few (decimal page) (length-decimal-le 2 page (omega arith) (omega arith) (omega arith)) (graphic page (omega arith))

-- and its name
name_of_few : (ds : List ℕ) → length ds ≤ 2 → list_all is_name_byte ds ≡ true → is_key_name (codes "ring-ref" ++ ds) ≡ true
unfolding is_key_name
name_of_few [] few all = refl
name_of_few (a ∷ []) few all = rw all refl
name_of_few (a ∷ b ∷ []) few all = rw all refl
name_of_few (a ∷ b ∷ c ∷ ds) few all = absurd (omega arith)

pub page_name : (page : ℕ) → page < 16 → is_key_name (codes "ring-ref" ++ decimal page) ≡ true
page_name page few = name_of_few (decimal page) (length-decimal-le 2 page (omega arith) (omega arith) (omega arith)) (digits_pass is_name_byte (λ d low. grind (arith, nat_tests)) page (omega arith))

-- the other paths
pub front_state_path : is_key_path (path_under end.Front (codes "state")) ≡ true
unfolding is_key_path
front_state_path = refl

pub back_state_path : is_key_path (path_under end.Back (codes "state")) ≡ true
unfolding is_key_path
back_state_path = refl

pub back_path : (k : BackKey) → is_key_path (path_under end.Back (back_name k)) ≡ true
unfolding is_key_path
back_path back_key.FeatureBarrier = refl
back_path other = refl

pub ring_path : is_key_path (path_under end.Front (codes "ring-ref")) ≡ true
unfolding is_key_path
ring_path = refl

pub order_path : is_key_path (path_under end.Front (codes "ring-page-order")) ≡ true
unfolding is_key_path
order_path = refl

pub port_path : is_key_path (path_under end.Front (codes "event-channel")) ≡ true
unfolding is_key_path
port_path = refl

pub layout_path : is_key_path (path_under end.Front (codes "protocol")) ≡ true
unfolding is_key_path
layout_path = refl

pub persistent_path : is_key_path (path_under end.Front (codes "feature-persistent")) ≡ true
unfolding is_key_path
persistent_path = refl

-- the other names
pub state_name : is_key_name (codes "state") ≡ true
unfolding is_key_name
state_name = refl

pub ring_name : is_key_name (codes "ring-ref") ≡ true
unfolding is_key_name
ring_name = refl

pub order_name : is_key_name (codes "ring-page-order") ≡ true
unfolding is_key_name
order_name = refl

pub port_name : is_key_name (codes "event-channel") ≡ true
unfolding is_key_name
port_name = refl

pub layout_name : is_key_name (codes "protocol") ≡ true
unfolding is_key_name
layout_name = refl

pub persistent_name : is_key_name (codes "feature-persistent") ≡ true
unfolding is_key_name
persistent_name = refl

-- and texts
pub layout_text : (abi : Abi) → is_key_text (text_of (Layout abi)) ≡ true
unfolding is_key_text
layout_text X64 = refl
layout_text X32 = refl

pub flag_text : (b : Bool) → is_key_text (decimal (flag_of b)) ≡ true
flag_text true = number_text 1 (omega arith)
flag_text false = number_text 0 (omega arith)

pub few_states : (s : BusState) → state_number s ≤ 8
few_states state.Unknown = omega arith
few_states other = omega arith

pub state_text : (s : BusState) → is_key_text (decimal (state_number s)) ≡ true
state_text s = let few = few_states s in number_text (state_number s) (omega arith)
