-- What the back keeps of the ring is what the lines tell of it.
use Rattle.std.proofs.Common.{◌≡◌, ℕ, ◌+◌, ◌-◌, ◌*◌, ◌%◌, ◌^◌, ◌<◌, ◌≤◌, Bool, true, false, List, [], ◌∷◌, ◌++◌, refl, ap, sym, ◌∙◌, subst, arith}
use Rattle.std.specs.Prelude.{Option, Some, None, is_some, length, take, drop, map}
use Rattle.blk_base.specs.declared.operation.Abi.{Abi}
use Rattle.blk_base.specs.declared.operation.Abi.TheVariants.{X64, X32}
use Rattle.blk_base.specs.declared.parts.Mapping.{Mapping}
use Rattle.blk_base.specs.declared.ask.BackAnswer.{BackAnswer}
use Rattle.blk_base.specs.declared.moves.Move.{Move}
use Rattle.ring_words.specs.Ring.{Ring}
use Rattle.ring_words.specs.Shape.{Shape, entries_of, entry_words_of}
use Rattle.schedule_text.specs.declared.line.Line.{Line}
use Rattle.schedule_text.specs.declared.line.Line.TheVariants as lines
use Rattle.report_rules.specs.declared.standing.Standing.{Standing}
use Rattle.back_jobs.specs.Jobs.{HeldJobs}
use Rattle.blk_back.specs.declared.told.BackTold.{BackTold}
use Rattle.blk_base.specs.declared.halt.Halt.{Halt}
use Rattle.blk_back.specs.declared.stage.BackStage.{BackStage}
use Rattle.blk_back.specs.declared.stage.BackStage.TheVariants as stage
use Rattle.blk_back.specs.View.{View}
use Rattle.split_model.specs.Keys.{is_between}
use Rattle.split_model.specs.Shown.{back_lines, halt_lines}
use Rattle.ring_laws.proofs.Shows.{Sight, Shows}
use Rattle.ring_laws.proofs.ObeysRing.{ObeysRing, IsWhole}
use Rattle.ring_laws.proofs.Lists.{AreApart}
use Rattle.ring_laws.proofs.Pages.{number_of, number_told}
use Rattle.ring_laws.proofs.EntryWords.{AreWhole, none_whole}

-- the pages that the lines tell are those that the back has mapped, each under a number of its own
pub record AreMapped (told : List Standing) (pages : List Mapping) : Type 0 where
  pub same : map number_told told ≡ map number_of pages
  pub apart : AreApart (map number_of pages)

-- the back touched no word of the ring yet
pub record Waits (x : Sight) (ring : Ring) (seen : ℕ) (halted : Option Halt) (fetched : ℕ) : Type 0 where
  pub running : halted ≡ None
  pub untouched : x.touched ≡ false
  pub begins : x.start ≡ ring.prod
  pub replied : x.replied ≡ ring.prod
  pub produced : x.produced ≡ seen
  pub words : x.words ≡ 0
  pub values : x.values ≡ []
  pub numbered : fetched ≡ 0

-- the terms aren't known yet
pub record Untold (x : Sight) (ring : Ring) (pages : List Mapping) (seen : ℕ) (halted : Option Halt) (fetched : ℕ) : Type 0 where
  pub waits : Waits x ring seen halted fetched
  pub untold : x.pages ≡ []
  pub none : pages ≡ []

-- the back maps the pages of the ring
pub record Maps (x : Sight) (shape : Shape) (ring : Ring) (grefs : List ℕ) (pages : List Mapping) (seen : ℕ) (halted : Option Halt) (fetched : ℕ) : Type 0 where
  pub waits : Waits x ring seen halted fetched
  pub narrow : shape.order ≤ 4
  pub layout : x.abi ≡ Some shape.abi
  pub entries : ring.entries ≡ entries_of shape.order
  pub consumed : ring.cons ≡ ring.prod
  pub mapped : AreMapped x.pages pages
  pub each : length grefs ≡ 2 ^ shape.order
  pub fewer : length pages < 2 ^ shape.order

-- the back serves, and has read so many words of the entry that it fetches; between two entries it has the words of the last one in hand
pub record ServesBy (k : ℕ) (x : Sight) (shape : Shape) (ring : Ring) (pages : List Mapping) (seen : ℕ) (halted : Option Halt) (entry : List ℕ) (fetched : ℕ) : Type 0 where
  pub narrow : shape.order ≤ 4
  pub layout : x.abi ≡ Some shape.abi
  pub entries : ring.entries ≡ entries_of shape.order
  pub running : halted ≡ None
  pub touched : x.touched ≡ true
  pub mapped : AreMapped x.pages pages
  pub all : length pages ≡ 2 ^ shape.order
  pub replied : x.replied ≡ ring.prod
  pub produced : x.produced ≡ seen
  pub count : ℕ
  pub words : x.words ≡ entry_words_of shape.abi * count + k
  pub within : k < entry_words_of shape.abi
  pub consumed : x.start < 2 ^ 32 → ring.cons ≡ (x.start + count) % 2 ^ 32
  pub long : length x.values ≡ x.words
  pub numbered : fetched ≡ count % 2 ^ 64
  pub copied : 0 < k → entry ≡ drop (entry_words_of shape.abi * count) x.values
  pub copied_last : k ≡ 0 → 0 < count → entry ≡ take (entry_words_of shape.abi) (drop (entry_words_of shape.abi * (count - 1)) x.values)

abbrev pub Serves : ℕ → Sight → View → Type 0
Serves k x v = ServesBy k x v.shape v.ring.indices v.pages v.ring.seen v.halted v.ring.entry v.fetched

-- between two entries
whole : (abi : Abi) (words count : ℕ) → words ≡ entry_words_of abi * count + 0 → words % entry_words_of abi ≡ 0
whole X64 words count e = omega arith
whole X32 words count e = omega arith

pub served_whole : (x : Sight) (v : View) → Serves 0 x v → IsWhole x
served_whole x v s = subst (λ (abi : Option Abi). AreWhole abi x.words) (sym s.layout) (whole v.shape.abi x.words s.count s.words)

-- the back has halted
pub record IsOver (x : Sight) (halted : Option Halt) : Type 0 where
  pub over : is_some halted ≡ true
  pub whole : IsWhole x

abbrev pub KnowsAt : BackStage → Sight → View → Type 0
KnowsAt stage.InitWait x v = Untold x v.ring.indices v.pages v.ring.seen v.halted v.fetched
KnowsAt stage.MapRing x v = Maps x v.shape v.ring.indices v.grefs v.pages v.ring.seen v.halted v.fetched
KnowsAt (stage.Fetch k) x v = (1 ≤ k) × Serves k x v
KnowsAt (stage.Abort m) x v = IsOver x v.halted
KnowsAt stage.UnmapRing x v = IsOver x v.halted
KnowsAt stage.ClosePort x v = IsOver x v.halted
KnowsAt stage.UnmapUnbound x v = IsOver x v.halted
KnowsAt stage.Halted x v = IsOver x v.halted
KnowsAt s x v = Serves 0 x v

-- its jobs, what it tells and whether it sleeps are nothing to it
pub knows_still : (s : BackStage) (x : Sight) (v : View) (asleep : Bool) (jobs : HeldJobs) (told : Option BackTold) → KnowsAt s x v → KnowsAt s x (record v { ring = record v.ring { asleep = asleep }; jobs = jobs; told = told })
knows_still stage.InitWait x v asleep jobs told knows = knows
knows_still s x v asleep jobs told knows = knows

-- where no entry is being fetched the words of whole ones were read
pub whole_words : (s : BackStage) (x : Sight) (v : View) → is_between s ≡ true → KnowsAt s x v → IsWhole x
whole_words stage.InitWait x v is knows = none_whole x.abi x.words knows.waits.words
whole_words stage.MapRing x v is knows = none_whole x.abi x.words knows.waits.words
whole_words (stage.Fetch k) x v is knows = absurd (cc)
whole_words (stage.Abort m) x v is knows = knows.whole
whole_words stage.UnmapRing x v is knows = knows.whole
whole_words stage.ClosePort x v is knows = knows.whole
whole_words stage.UnmapUnbound x v is knows = knows.whole
whole_words stage.Halted x v is knows = knows.whole
whole_words s x v is knows = served_whole x v knows

-- as the back stands
abbrev pub Knows : Sight → View → Type 0
Knows x v = KnowsAt v.stage x v

-- rings start at that index, the words of entries that were read begin with those, the lines so far keep the rules of the ring, and tell what the back knows
pub record Follows (start : ℕ) (values : List ℕ) (before : List Line) (v : View) : Type 0 where
  pub sight : Sight
  pub begun : sight.start ≡ start
  pub more : List ℕ
  pub grown : sight.values ≡ values ++ more
  pub shows : Shows before sight
  pub knows : Knows sight v
  pub stands : ObeysRing before sight.start (is_some v.halted)

-- a move of the back, with the lines after it
abbrev pub BackGoes : ℕ → List ℕ → List Line → View → View → BackAnswer → Move → Type 0
BackGoes start values before old new answer shown = Follows start values (before ++ lines.Move shown ∷ (back_lines new.told answer ++ halt_lines old.halted new.halted)) new

pub untold : (t : Option BackTold) (answer : BackAnswer) (ls : List Line) → t ≡ None → back_lines t answer ++ ls ≡ ls
untold t answer ls e = ap (λ (o : Option BackTold). back_lines o answer ++ ls) e

pub unhalted : (old : Option Halt) → halt_lines old old ≡ []
unhalted None = refl
unhalted (Some h) = refl

-- nothing is told at the move, and the back halts no further
pub quiet : (start : ℕ) (values : List ℕ) (before : List Line) (old new : View) (answer : BackAnswer) (shown : Move) → new.told ≡ None → new.halted ≡ old.halted → Follows start values (before ++ lines.Move shown ∷ []) new → BackGoes start values before old new answer shown
quiet start values before old new answer shown told halted follows =
    let none : halt_lines old.halted new.halted ≡ [] = ap (λ (h : Option Halt). halt_lines old.halted h) halted ∙ unhalted old.halted in
    let all : back_lines new.told answer ++ halt_lines old.halted new.halted ≡ [] = untold new.told answer (halt_lines old.halted new.halted) told ∙ none in
    subst (λ (ls : List Line). Follows start values (before ++ lines.Move shown ∷ ls) new) (sym all) follows

-- the back halts at the move
pub halting : (start : ℕ) (values : List ℕ) (before : List Line) (old new : View) (answer : BackAnswer) (shown : Move) (h : Halt) → new.told ≡ None → old.halted ≡ None → new.halted ≡ Some h → Follows start values (before ++ lines.Move shown ∷ lines.Halt h ∷ []) new → BackGoes start values before old new answer shown
halting start values before old new answer shown h told running halted follows =
    let one : halt_lines old.halted new.halted ≡ lines.Halt h ∷ [] = ap (λ (o : Option Halt). halt_lines o new.halted) running ∙ ap (λ (o : Option Halt). halt_lines None o) halted in
    let all : back_lines new.told answer ++ halt_lines old.halted new.halted ≡ lines.Halt h ∷ [] = untold new.told answer (halt_lines old.halted new.halted) told ∙ one in
    subst (λ (ls : List Line). Follows start values (before ++ lines.Move shown ∷ ls) new) (sym all) follows
