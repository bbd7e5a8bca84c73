-- A dump shows each word of the ring that isn't 0, from the first to the last (`io/ring.h`; the ring's first page is frame 2).
use Rattle.std.specs.List.{AllByRecursion}
use Rattle.std.specs.Prelude.{◌≡◌, ◌⊎◌, ℕ, ◌+◌, ◌-◌, ◌*◌, ◌/◌, ◌%◌, ◌^◌, ◌<◌, ◌≤◌, List, fold, Option, Some, None}
use Rattle.schedule_text.specs.declared.line.Line.{Line}
use Rattle.schedule_text.specs.declared.line.Line.TheVariants as lines
use Rattle.report_rules.specs.Obeys.{Obeys}
use Rattle.report_rules.specs.Value.{value_before}
use Rattle.blk_front.specs.declared.state.FrontState.TheVariants.{Agreed}
use Rattle.split_model.specs.Happening.{Happening, FrontEnters}

-- the place of a word among those of the ring
abbrev pub place_in_ring : (frame word : ℕ) → ℕ
place_in_ring frame word = 1024 * (frame - 2) + word

-- where the dump goes on whose word a line shows; any other line ends it
abbrev pub dump_after : Option ℕ → Line → Option ℕ
dump_after at (lines.Word frame word value) = Some (place_in_ring frame word + 1)
dump_after at line = None

-- where the dump goes on that these lines end with, if they do
abbrev pub dumped_to : List Line → Option ℕ
dumped_to before = fold dump_after None before

-- by these lines the ring's words from one place on, and before another, are 0
abbrev pub AreZero : List Line → (first end : ℕ) → Type 0
AreZero before first end = (place : ℕ) → first ≤ place → place < end → value_before before (2 + place / 1024) (place % 1024) ≡ 0

-- a dump ends where no other word is left
abbrev pub MayEnd : (size : ℕ) → List Line → Option ℕ → Type 0
MayEnd size before None = Unit {0}
MayEnd size before (Some next) = AreZero before next size

-- it goes on with the next word that isn't 0
abbrev pub GoesOn : List Line → (place : ℕ) → Option ℕ → Type 0
GoesOn before place None = ⊥
GoesOn before place (Some next) = (next ≤ place) × AreZero before next place

-- or another one begins, with the first such word
pub record Begins (size : ℕ) (before : List Line) (place : ℕ) : Type 0 where
  pub ended : MayEnd size before (dumped_to before)
  pub first : AreZero before 0 place

abbrev pub ComesTo : (size : ℕ) → List Line → (place : ℕ) → Type 0
ComesTo size before place = GoesOn before place (dumped_to before) ⊎ Begins size before place

abbrev pub IsDumpedAt : (size : ℕ) → List Line → Line → Type 0
IsDumpedAt size before (lines.Word frame word value) = ComesTo size before (place_in_ring frame word)
IsDumpedAt size before line = MayEnd size before (dumped_to before)

-- each dump of a ring of `2^order` pages shows all of its words that aren't 0, ascending, and whatever line comes after it
abbrev pub AreWholeDumps : (order : ℕ) → List Line → Type 0
AreWholeDumps order report = Obeys (IsDumpedAt (1024 * 2 ^ order)) report

-- the front's ring has the order that it wished, where another one isn't agreed
abbrev pub IsWished : (order : ℕ) → Happening → Type 0
IsWished order (FrontEnters (Agreed agreed)) = agreed ≡ order
IsWished order h = Unit {0}

abbrev pub AreWished : (order : ℕ) → List Happening → Type 0
AreWished order history = AllByRecursion (IsWished order) history
