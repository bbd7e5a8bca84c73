-- What the matches of a parse give is what the words ask for.
use Rattle.std.proofs.Common.{◌≡◌, ℕ, ◌≤◌, List, [], ◌∷◌, Bool, true, false, Option, Some, None, refl, ◌∙◌, sym, ap, subst, inl, inr, codes}
use Rattle.std.specs.Prelude.{option_map, option_and_then, nat_le, if◌then◌else◌}
use Rattle.std.specs.Str.{bytes_eq}
use Rattle.std.proofs.lemmas.Bool.{leb-true}
use Rattle.blk_base.specs.declared.operation.Abi.{Abi}
use Rattle.clap.specs.Words.{Kinds, Row, Text, fault_of, subcommand_of, is_simple, is_simple_and_free, HasKind, kind_of}
use Rattle.clap.specs.declared.error.Error.{Error}
use Rattle.clap.specs.declared.error.kind.ErrorKind.TheVariants as kind
use Rattle.commands.specs.declared.words.Command.{Command}
use Rattle.commands.specs.Words.{Wish, a_run, a_ring, a_check, a_bench, number_in, order_of, indirect_of, count_of, run_with, run_in, ring_with, ring_in, bench_with, bench_in, wish_in, wish_where, wish_of, wish_by, command_set}

-- where `clap` finds no fault, the words ask for what the subcommand asks for
pub taken : (faults : Kinds) (entered entered' : Option (Text × List Row)) (wish : Option Wish) → faults ≡ [] → entered ≡ entered' → wish ≡ option_and_then (λ s. wish_in s.0 s.1) entered → wish ≡ wish_where faults entered'
taken [] entered entered' wish none same is = is ∙ ap (option_and_then (λ s. wish_in s.0 s.1)) same
taken (fault ∷ faults) entered entered' wish none same is = cc

-- where it finds one that isn't want of memory, they ask for nothing
pub refused : (faults : Kinds) (entered : Option (Text × List Row)) (e : Error) → HasKind faults e → (kind_of e ≡ kind.OutOfMemory → ⊥) → None ≡ wish_where faults entered
refused [] entered e (inl starved) other = absurd (other starved)
refused [] entered e (inr among) other = absurd among
refused (fault ∷ faults) entered e h other = refl

-- the command set is one of which `clap` says both
pub is_said : is_simple_and_free command_set ≡ true
is_said = refl

pub is_plain : is_simple command_set ≡ true
is_plain = refl

-- ---- the numbers that the words may ask for

-- a wish's numbers are ones that its command may have
abbrev pub IsWithin : Wish → Type 0
IsWithin (a_run image options) = (options.order ≤ 4) × (options.indirect ≤ 960)
IsWithin (a_ring abi order) = order ≤ 4
IsWithin a_check = Unit {0}
IsWithin (a_bench seed count) = count ≤ 100000

abbrev Within : Option Wish → Type 0
Within None = Unit {0}
Within (Some wish) = IsWithin wish

-- a number, where there is one, is at most this
abbrev UpTo : ℕ → Option ℕ → Type 0
UpTo most None = Unit {0}
UpTo most (Some n) = n ≤ most

bounded : (most n : ℕ) → UpTo most (if nat_le n most then Some n else None)
bounded most n = at (nat_le n most) refl
  where
    at : (b : Bool) → nat_le n most ≡ b → UpTo most (if b then Some n else None)
    at true le = leb-true n most le
    at false le = tt

order_within : (number : Option ℕ) → UpTo 4 (option_and_then order_of number)
order_within None = tt
order_within (Some n) = bounded 4 n

indirect_within : (number : Option ℕ) → UpTo 960 (option_and_then indirect_of number)
indirect_within None = tt
indirect_within (Some n) = bounded 960 n

count_within : (number : Option ℕ) → UpTo 100000 (option_and_then count_of number)
count_within None = tt
count_within (Some n) = bounded 100000 n

run_within_with : (image : Text) (moves read_only : Bool) (layout : Option Abi) (order start most : Option ℕ) → UpTo 4 order → UpTo 960 most → Within (run_with image moves read_only layout order start most)
run_within_with image moves read_only None order start most few short = tt
run_within_with image moves read_only (Some layout) None start most few short = tt
run_within_with image moves read_only (Some layout) (Some n) None most few short = tt
run_within_with image moves read_only (Some layout) (Some n) (Some first) None few short = tt
run_within_with image moves read_only (Some layout) (Some n) (Some first) (Some m) few short = (few, short)

run_within : (image : Option Text) (moves read_only : Bool) (layout : Option Abi) (order start most : Option ℕ) → UpTo 4 order → UpTo 960 most → Within (option_and_then (λ image. run_with image moves read_only layout order start most) image)
run_within None moves read_only layout order start most few short = tt
run_within (Some image) moves read_only layout order start most few short = run_within_with image moves read_only layout order start most few short

ring_within : (layout : Option Abi) (order : Option ℕ) → UpTo 4 order → Within (ring_with layout order)
ring_within None order few = tt
ring_within (Some layout) None few = tt
ring_within (Some layout) (Some n) few = few

bench_within : (seed count : Option ℕ) → UpTo 100000 count → Within (bench_with seed count)
bench_within None count few = tt
bench_within (Some seed) None few = tt
bench_within (Some seed) (Some n) few = few

wish_within : (rows : List Row) (run inspect check bench : Bool) → Within (if run then run_in rows else (if inspect then ring_in rows else (if check then Some a_check else (if bench then bench_in rows else None))))
wish_within rows true inspect check bench =
    run_within _ _ _ _ (option_and_then order_of (number_in (codes "order") rows)) _ (option_and_then indirect_of (number_in (codes "indirect") rows))
    (order_within (number_in (codes "order") rows)) (indirect_within (number_in (codes "indirect") rows))
wish_within rows false true check bench = ring_within _ _ (order_within (number_in (codes "order") rows))
wish_within rows false false true bench = tt
wish_within rows false false false true = bench_within _ _ (count_within (number_in (codes "count") rows))
wish_within rows false false false false = tt

where_within : (faults : Kinds) (entered : Option (Text × List Row)) → Within (wish_where faults entered)
where_within [] None = tt
where_within [] (Some s) = wish_within s.1 (bytes_eq s.0 (codes "run")) (bytes_eq s.0 (codes "inspect")) (bytes_eq s.0 (codes "check")) (bytes_eq s.0 (codes "bench"))
where_within (fault ∷ faults) entered = tt

pub asked_within : (words : List Text) (command : Option Command) (asked : Command) → command ≡ Some asked → option_map wish_by command ≡ wish_of words → IsWithin (wish_by asked)
asked_within words command asked is asks =
    subst Within (sym asks ∙ ap (option_map wish_by) is) (where_within (fault_of command_set words) (subcommand_of command_set words))
