-- What the words of the command line ask for. Which words are taken, and the text that each option then has, are functions of the crate `clap`.
use Rattle.std.specs.Prelude.{◌≡◌, ℕ, List, [], ◌∷◌, codes, Bool, true, false, ◌==◌, nat_le, Option, Some, None, option_map, option_and_then, if◌then◌else◌}
use Rattle.std.specs.Str.{bytes_eq}
use Rattle.std.specs.Str.Parse.{digits_value, without_leading_plus}
use Rattle.clap.specs.Words.{App, Rule, Row, Text, Kinds, new_app, new_rule, with_rule, with_subcommand, fault_of, subcommand_of, first_of, one_of}
use Rattle.clap.specs.Simple.{on_top}
use Rattle.clap.specs.ValueTests.{is_unsigned_in}
use Rattle.clap.specs.declared.builder.action.ArgAction.TheVariants.{SetTrue}
use Rattle.clap.specs.declared.builder.value_parser.ValueParser.TheVariants as parser
use Rattle.blk_base.specs.declared.operation.Abi.{Abi}
use Rattle.blk_base.specs.declared.operation.Abi.TheVariants.{X64, X32}
use Rattle.schedule_text.specs.declared.line.Detail.{Detail}
use Rattle.schedule_text.specs.declared.line.Detail.TheVariants.{Lines, Moves}
use Rattle.commands.specs.declared.words.Command.{Command}
use Rattle.commands.specs.declared.words.RunOptions.{RunOptions}
use Rattle.commands.specs.declared.words.Command.TheVariants.{Inspect, Run, Check, Bench}

-- ---- the command set

-- IMAGE, which a run has to have
abbrev pub image_rule : Rule
image_rule = record (new_rule (codes "image")) { required = true }

-- `--ID`
abbrev pub flag_rule : Text → Rule
flag_rule id = record (new_rule id) { long = Some id; action = Some SetTrue }

-- `--ID N`, a number within these bounds, and that one where there is none
abbrev pub option_rule : Text → ℕ → ℕ → Text → Rule
option_rule id least most default = record (new_rule id) { long = Some id; defaults = default ∷ []; parser = Some (parser.Unsigned least most) }

abbrev pub moves_rule : Rule
moves_rule = flag_rule (codes "moves")

abbrev pub read_only_rule : Rule
read_only_rule = flag_rule (codes "read-only")

-- a number of 32 bits, and 0 where there is none
abbrev pub start_rule : Rule
start_rule = option_rule (codes "start") 0 4294967295 (codes "0")

abbrev pub indirect_rule : Rule
indirect_rule = option_rule (codes "indirect") 0 960 (codes "0")

abbrev pub abi_rule : Rule
abi_rule = option_rule (codes "abi") 32 64 (codes "64")

abbrev pub order_rule : Rule
order_rule = option_rule (codes "order") 0 4 (codes "0")

-- a number from 0 to this one, which has to be there
abbrev pub number_rule : Text → ℕ → Rule
number_rule id most = record (new_rule id) { required = true; parser = Some (parser.Unsigned 0 most) }

-- a seed has 64 bits
abbrev pub seed_rule : Rule
seed_rule = number_rule (codes "seed") 18446744073709551615

-- the lines of a generated load
abbrev pub count_rule : Rule
count_rule = number_rule (codes "count") 100000

-- the first words of `run`, up to those on the shape of the ring
abbrev pub shape_set : App
shape_set = with_rule (with_rule (with_rule (with_rule (new_app (codes "run")) image_rule) moves_rule) abi_rule) order_rule

-- `run`
abbrev pub run_set : App
run_set = with_rule (with_rule (with_rule shape_set start_rule) indirect_rule) read_only_rule

-- `inspect`
abbrev pub inspect_set : App
inspect_set = with_rule (with_rule (new_app (codes "inspect")) abi_rule) order_rule

-- `check`
abbrev pub check_set : App
check_set = new_app (codes "check")

-- `bench`, with a seed and a count
abbrev pub bench_set : App
bench_set = with_rule (with_rule (new_app (codes "bench")) seed_rule) count_rule

-- a program that wants a subcommand, and whose words don't begin with its own name
abbrev pub bare_set : App
bare_set = on_top (λ s. record s { no_binary_name = true; subcommand_required = true }) (new_app (codes "blkring"))

-- the commands that read an input
abbrev pub read_set : App
read_set = with_subcommand (with_subcommand (with_subcommand bare_set run_set.top) inspect_set.top) check_set.top

-- what the program may be told
abbrev pub command_set : App
command_set = with_subcommand read_set bench_set.top

-- ---- what the words ask for

-- the number of 64 bits that a text is, maybe with a plus and zeros before it
abbrev pub number_of : Text → Option ℕ
number_of text = if is_unsigned_in 0 18446744073709551615 text then Some (digits_value 10 (without_leading_plus text)) else None

-- the number that an option has
abbrev pub number_in : Text → List Row → Option ℕ
number_in id rows = option_and_then number_of (one_of id rows)

abbrev pub layout_of : ℕ → Option Abi
layout_of n = if n == 64 then Some X64 else (if n == 32 then Some X32 else None)

abbrev pub order_of : ℕ → Option ℕ
order_of n = if nat_le n 4 then Some n else None

-- an index of the ring
abbrev pub start_of : ℕ → Option ℕ
start_of n = if nat_le n 4294967295 then Some n else None

-- a number of segments of a request in indirect pages
abbrev pub indirect_of : ℕ → Option ℕ
indirect_of n = if nat_le n 960 then Some n else None

-- a number of lines of a generated load
abbrev pub count_of : ℕ → Option ℕ
count_of n = if nat_le n 100000 then Some n else None

-- a flag that was used has the text `true`
abbrev pub is_yes : Option Text → Bool
is_yes None = false
is_yes (Some text) = bytes_eq text (codes "true")

abbrev pub flag_in : Text → List Row → Bool
flag_in id rows = is_yes (first_of id rows)

abbrev pub detail_of : Bool → Detail
detail_of moves = if moves then Moves else Lines

-- a run on the image of that name with those options, the showing of a ring of that layout and order, the check of a report, or a bench of that seed and that many lines
pub data Wish : Type 0 where
  a_run : Text → RunOptions → Wish
  a_ring : Abi → ℕ → Wish
  a_check : Wish
  a_bench : ℕ → ℕ → Wish

abbrev pub run_with : Text → (moves read_only : Bool) → Option Abi → (order start indirect : Option ℕ) → Option Wish
run_with image moves read_only None order start indirect = None
run_with image moves read_only (Some abi) None start indirect = None
run_with image moves read_only (Some abi) (Some order) None indirect = None
run_with image moves read_only (Some abi) (Some order) (Some first) indirect =
    option_map (λ most. a_run image (record { detail = detail_of moves; abi = abi; order = order; start = first; indirect = most; read_only = read_only })) indirect

abbrev pub run_in : List Row → Option Wish
run_in rows =
    option_and_then
    (λ image. run_with image (flag_in (codes "moves") rows) (flag_in (codes "read-only") rows) (option_and_then layout_of (number_in (codes "abi") rows)) (option_and_then order_of (number_in (codes "order") rows)) (option_and_then start_of (number_in (codes "start") rows)) (option_and_then indirect_of (number_in (codes "indirect") rows)))
    (first_of (codes "image") rows)

abbrev pub ring_with : Option Abi → Option ℕ → Option Wish
ring_with None order = None
ring_with (Some abi) order = option_map (a_ring abi) order

abbrev pub ring_in : List Row → Option Wish
ring_in rows = ring_with (option_and_then layout_of (number_in (codes "abi") rows)) (option_and_then order_of (number_in (codes "order") rows))

abbrev pub bench_with : Option ℕ → Option ℕ → Option Wish
bench_with None count = None
bench_with (Some seed) count = option_map (a_bench seed) count

abbrev pub bench_in : List Row → Option Wish
bench_in rows = bench_with (number_in (codes "seed") rows) (option_and_then count_of (number_in (codes "count") rows))

-- what the matches of a subcommand ask for
abbrev pub wish_in : Text → List Row → Option Wish
wish_in name rows =
    if bytes_eq name (codes "run") then run_in rows
    else (if bytes_eq name (codes "inspect") then ring_in rows
    else (if bytes_eq name (codes "check") then Some a_check
    else (if bytes_eq name (codes "bench") then bench_in rows
    else None)))

abbrev pub wish_where : Kinds → Option (Text × List Row) → Option Wish
wish_where [] entered = option_and_then (λ s. wish_in s.0 s.1) entered
wish_where (fault ∷ faults) entered = None

-- the words ask for nothing where `clap` finds a fault in them; else for what the subcommand that they name asks for
abbrev pub wish_of : List Text → Option Wish
wish_of words = wish_where (fault_of command_set words) (subcommand_of command_set words)

-- the words ask for a run, for a ring, for a check, for a bench, or for nothing
abbrev pub AsksRun : List Text → Text → RunOptions → Type 0
AsksRun words image options = wish_of words ≡ Some (a_run image options)

abbrev pub AsksRing : List Text → Abi → ℕ → Type 0
AsksRing words abi order = wish_of words ≡ Some (a_ring abi order)

abbrev pub AsksCheck : List Text → Type 0
AsksCheck words = wish_of words ≡ Some a_check

abbrev pub AsksBench : List Text → ℕ → ℕ → Type 0
AsksBench words seed count = wish_of words ≡ Some (a_bench seed count)

abbrev pub AsksNothing : List Text → Type 0
AsksNothing words = wish_of words ≡ None

-- the command that carries a wish out
abbrev pub wish_by : Command → Wish
wish_by (Inspect abi order) = a_ring abi order
wish_by (Run image options) = a_run image.now options
wish_by Check = a_check
wish_by (Bench seed count) = a_bench seed count
