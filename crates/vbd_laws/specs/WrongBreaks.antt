-- Worked reports that no machine gives: a front that is broken without a cause, one that goes on after a cause, and answers that no response gave.
use Rattle.std.specs.Prelude.{ℕ, List, [], ◌∷◌, ◌++◌, codes, Some}
use Rattle.blk_base.specs.Options.{Options}
use Rattle.blk_base.specs.declared.config.Submission.TheVariants.{Flush}
use Rattle.blk_base.specs.declared.operation.Abi.TheVariants.{X64}
use Rattle.blk_base.specs.declared.operation.Status.TheVariants.{Okay, Error}
use Rattle.blk_base.specs.declared.moves.Mover.TheVariants.{Front}
use Rattle.blk_base.specs.declared.moves.Move.TheVariants.{FrontRead, FrontWrite, FrontCas, GetKey}
use Rattle.ring_words.specs.Ring.{next_of}
use Rattle.schedule_text.specs.declared.line.Detail.TheVariants.{Moves}
use Rattle.schedule_text.specs.declared.line.Line.{Line}
use Rattle.schedule_text.specs.declared.line.Line.TheVariants as lines
use Rattle.negotiation_laws.specs.Negotiation.{back_state}

-- it reads the responses' producer, which is its own consumer, and is broken
abbrev pub broken_by_no_response : Options → List Line
broken_by_no_response config = lines.Begin config Moves ∷ lines.Move (FrontRead 2 2 config.start) ∷ lines.Broken config.start ∷ []

-- one response is said to be there where no request was made, and it goes on
abbrev pub goes_on_too_far : Options → List Line
goes_on_too_far config = lines.Begin config Moves ∷ lines.Move (FrontRead 2 2 (next_of config.start)) ∷ lines.Quiet ∷ []

-- a grant's entry says that the back has the frame mapped for reading, and it goes on
abbrev pub goes_on_mapped : Options → List Line
goes_on_mapped config = lines.Begin config Moves ∷ lines.Move (FrontRead 0 48 9) ∷ lines.Move (FrontCas 0 48 9 0 9) ∷ []

-- it is broken, and reads on
abbrev pub goes_on_broken : Options → List Line
goes_on_broken config = lines.Begin config Moves ∷ lines.Broken 6 ∷ lines.Move (FrontRead 2 2 6) ∷ []

-- the back is closed (6), where no answer is owed, and that breaks it
abbrev pub broken_though_through : Options → List Line
broken_though_through config = lines.Begin config Moves ∷ lines.Move (GetKey Front back_state (Some (codes "6"))) ∷ lines.Broken 6 ∷ []

-- the front is broken by a word (7) where it read another (6)
abbrev pub broken_by_no_word : Options → List Line
broken_by_no_word config = lines.Begin config Moves ∷ lines.Move (FrontRead 2 2 6) ∷ lines.Broken 7 ∷ []

-- it is broken by a word that it read, and not directly after it read it
abbrev pub broken_late : Options → List Line
broken_late config = lines.Begin config Moves ∷ lines.Move (FrontRead 2 2 6) ∷ lines.Quiet ∷ lines.Broken 6 ∷ []

-- in a ring of one page that begins at 0, under the layout of x86_64: request 1 is issued, whose id lies in words 2 and 3 of the first entry
abbrev pub first_issued : Options → List Line
first_issued config =
    lines.Begin (record config { abi = X64; order = 0; start = 0 }) Moves
    ∷ lines.Submit 1 Flush
    ∷ lines.Move (FrontWrite 2 18 1) ∷ lines.Move (FrontWrite 2 19 0) ∷ lines.Move (FrontWrite 2 0 1) ∷ []

-- and a response for it is read, of this status
abbrev pub response_read : ℕ → List Line
response_read status = lines.Move (FrontRead 2 16 1) ∷ lines.Move (FrontRead 2 17 0) ∷ lines.Move (FrontRead 2 18 status) ∷ []

-- it is broken by the id of a request that is issued and has no answer
abbrev pub broken_by_its_own : Options → List Line
broken_by_its_own config = first_issued config ++ response_read 0 ++ lines.Broken 1 ∷ []

-- the response says that all went well (BLKIF_RSP_OKAY, 0), and the answer that it didn't
abbrev pub answered_otherwise : Options → List Line
answered_otherwise config = first_issued config ++ response_read 0 ++ lines.Answer 1 Error ∷ []

-- it is answered, and no response was read
abbrev pub answered_unread : Options → List Line
answered_unread config = first_issued config ++ lines.Answer 1 Okay ∷ []

-- a fourth word of the entry is read before the answer
abbrev pub read_further : Options → List Line
read_further config = first_issued config ++ response_read 0 ++ lines.Move (FrontRead 2 19 0) ∷ []
