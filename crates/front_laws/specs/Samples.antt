-- Lines that no front shows, which the rules refuse.
use Rattle.std.specs.Prelude.{false, [], ◌∷◌, Some, None}
use Rattle.blk_base.specs.Options.{Options}
use Rattle.blk_base.specs.declared.operation.Abi.TheVariants.{X64}
use Rattle.blk_base.specs.declared.operation.Status.TheVariants.{Okay, Error}
use Rattle.blk_base.specs.declared.ask.FrontAsk.TheVariants.{Wait, Read, Write, Cas}
use Rattle.blk_base.specs.declared.ask.FrontAnswer.TheVariants.{Event, Done, Word}
use Rattle.blk_front.specs.declared.request.Request.{Request}
use Rattle.blk_front.specs.declared.request.Transfer.TheVariants.{Flush}
use Rattle.blk_front.specs.declared.told.Told.TheVariants.{Answer, Broken}
use Rattle.front_laws.specs.History.{Line, Asked}
use Rattle.front_laws.specs.Sight.{Sight, nothing_seen, Each}
use Rattle.front_laws.specs.Told.{IsToldWhereDue}
use Rattle.front_laws.specs.Touches.{IsTouch}
use Rattle.front_laws.specs.Honest.{IsHonest}
use Rattle.front_laws.specs.Answers.{IsAnsweredOnce}

-- a ring of one page under the x86_64 layout, whose first index is 0
abbrev pub sample_options : Options
sample_options = record { abi = X64; order = 0; persistent = 0; indirect = 0; start = 0; read_only = false; sectors = 8 }

-- flush 1 is issued, and two words of its response are read
abbrev pub flush_one : Request
flush_one = record { number = 1; sector = 0; count = 0; transfer = Flush; frames = record { items = [] } }

abbrev pub fresh : Sight
fresh = nothing_seen sample_options

abbrev pub read_twice : Sight
read_twice = record fresh { prod = 1; issued = flush_one ∷ []; submitted = flush_one ∷ []; response = 1 ∷ 0 ∷ [] }

abbrev pub tells : Sight → Line → Type 0
tells s line = Each IsToldWhereDue s (line ∷ [])

-- What is told: an answer where nothing was read; an overrun producer passed over, or told as another word; an answer with another number, another status, or none; an answer of a response that has no status
pub record AreTellingsRefused : Type 0 where
  pub unread : tells fresh (Asked Wait Event (Some (Answer 1 Okay))) → ⊥
  pub overrun : tells fresh (Asked (Read 2 2) (Word 1) None) → ⊥
  pub other_word : tells fresh (Asked (Read 2 2) (Word 1) (Some (Broken 2))) → ⊥
  pub other_number : tells read_twice (Asked (Read 2 18) (Word 0) (Some (Answer 2 Okay))) → ⊥
  pub other_status : tells read_twice (Asked (Read 2 18) (Word 0) (Some (Answer 1 Error))) → ⊥
  pub unanswered : tells read_twice (Asked (Read 2 18) (Word 0) None) → ⊥
  pub no_status : tells read_twice (Asked (Read 2 18) (Word 65536) (Some (Answer 1 Okay))) → ⊥
  pub mapped : tells fresh (Asked (Read 0 16) (Word 9) None) → ⊥

-- So is what is touched: a response's second word before its first, a word of another entry, a frame past the guest's own, a grant of no frame, a grant that names another frame, and a producer that goes on where no entry is written
pub record AreTouchesRefused : Type 0 where
  pub second_first : Each IsTouch fresh (Asked (Read 2 17) (Word 1) None ∷ []) → ⊥
  pub other_entry : Each IsTouch fresh (Asked (Read 2 44) (Word 1) None ∷ []) → ⊥
  pub past_memory : Each IsTouch fresh (Asked (Read 1018 0) (Word 1) None ∷ []) → ⊥
  pub no_frame : Each IsTouch fresh (Asked (Write 0 0 1) Done None ∷ []) → ⊥
  pub other_frame : Each IsTouch fresh (Asked (Write 0 17 3) Done None ∷ []) → ⊥
  pub no_entry : Each IsTouch fresh (Asked (Write 2 0 1) Done None ∷ []) → ⊥

-- and an answer that isn't honest: a producer that overran, a grant that is mapped still, an exchange that saw another word
pub record AreUntruthsRefused : Type 0 where
  pub overrun : Each IsHonest fresh (Asked (Read 2 2) (Word 1) None ∷ []) → ⊥
  pub mapped : Each IsHonest fresh (Asked (Read 0 16) (Word 9) None ∷ []) → ⊥
  pub exchanged : Each IsHonest fresh (Asked (Cas 0 16 1 0) (Word 9) None ∷ []) → ⊥
  pub unasked : Each IsHonest fresh (Asked (Read 2 16) (Word 1) None ∷ Asked (Read 2 17) (Word 0) None ∷ Asked (Read 2 18) (Word 0) None ∷ []) → ⊥

abbrev pub AnswersTwiceRefused : Type 0
AnswersTwiceRefused = IsAnsweredOnce (Asked Wait Event (Some (Answer 1 Okay)) ∷ Asked Wait Event (Some (Answer 1 Error)) ∷ []) → ⊥
