-- Each word of a line has at most 80 bytes, all above a space, but for those of a sector.
use Rattle.std.proofs.Common.{◌≡◌, ℕ, Bool, true, false, List, ◌++◌, Some, None, refl, ◌&&◌, arith, true≢false}
use Rattle.blk_base.specs.declared.operation.Abi.{Abi}
use Rattle.blk_base.specs.declared.operation.Abi.TheVariants.{X64, X32}
use Rattle.blk_base.specs.declared.operation.Status.{Status}
use Rattle.blk_base.specs.declared.operation.Status.TheVariants.{Okay, Error, Unsupported}
use Rattle.blk_base.specs.declared.parts.Mode.{Mode}
use Rattle.blk_base.specs.declared.parts.Mode.TheVariants.{ReadOnly, ReadWrite}
use Rattle.blk_base.specs.declared.config.Submission.{Submission}
use Rattle.blk_base.specs.declared.config.Submission.TheVariants as submissions
use Rattle.blk_base.specs.declared.moves.BackMover.{BackMover}
use Rattle.blk_base.specs.declared.moves.BackMover.TheVariants as back_mover
use Rattle.blk_base.specs.declared.moves.Mover.{Mover}
use Rattle.blk_base.specs.declared.moves.Mover.TheVariants as mover
use Rattle.blk_base.specs.declared.moves.Move.{Move}
use Rattle.blk_base.specs.declared.moves.Move.TheVariants as moves
use Rattle.line_text.proofs.Both.{both_true}
use Rattle.line_text.specs.Texts.{is_key_name, is_key_text, is_key_path}
use Rattle.schedule_text.specs.declared.line.Detail.{Detail}
use Rattle.schedule_text.specs.declared.line.Detail.TheVariants.{Lines, Moves}
use Rattle.blk_base.specs.declared.refusal.Refusal.{Refusal}
use Rattle.blk_base.specs.declared.refusal.Refusal.TheVariants as refusal
use Rattle.blk_base.specs.declared.halt.Halt.{Halt}
use Rattle.blk_base.specs.declared.halt.Halt.TheVariants as halts
use Rattle.schedule_text.specs.declared.line.Line.{Line}
use Rattle.schedule_text.specs.declared.line.Line.TheVariants as lines
use Rattle.schedule_text.specs.Line.{words_of, abi_word, access_word, detail_word, status_word, refusal_word, submission_words, halt_words, mover_words, back_words, mode_word, move_words}
use Rattle.schedule_text.specs.Range.{IsInRange, SubmissionHasWidths, HaltHasWidths, MoverHasWidths, BackHasWidths, MoveHasWidths, is_halt_allowed, is_move_allowed, is_mover_allowed}
use Rattle.schedule_text.proofs.NarrowWords.{is_narrow, AreNarrow, narrow_decimal, small, narrow_hex, narrow_signed, narrow_name, narrow_text, narrow_equals, narrow_path}

narrow_abi : (abi : Abi) → is_narrow (abi_word abi) ≡ true
narrow_abi X64 = refl
narrow_abi X32 = refl

narrow_access : (b : Bool) → is_narrow (access_word b) ≡ true
narrow_access true = refl
narrow_access false = refl

narrow_detail : (d : Detail) → is_narrow (detail_word d) ≡ true
narrow_detail Lines = refl
narrow_detail Moves = refl

narrow_status : (s : Status) → is_narrow (status_word s) ≡ true
narrow_status Okay = refl
narrow_status Error = refl
narrow_status Unsupported = refl

narrow_refusal : (r : Refusal) → is_narrow (refusal_word r) ≡ true
narrow_refusal refusal.Spent = refl
narrow_refusal refusal.NotReady = refl
narrow_refusal refusal.Closing = refl
narrow_refusal refusal.Unsupported = refl
narrow_refusal refusal.ReadOnly = refl
narrow_refusal refusal.Range = refl
narrow_refusal refusal.Long = refl
narrow_refusal refusal.Full = refl
narrow_refusal refusal.Buffers = refl

narrow_mode : (m : Mode) → is_narrow (mode_word m) ≡ true
narrow_mode ReadOnly = refl
narrow_mode ReadWrite = refl

pub narrow_submission : (job : Submission) → SubmissionHasWidths job → AreNarrow (submission_words job)
narrow_submission (submissions.Read s c) h = rw (narrow_decimal s h.0, small c h.1.1) refl
narrow_submission (submissions.Write s c t) h = rw (narrow_decimal s h.0, small c h.1.1, narrow_hex t) refl
narrow_submission (submissions.Barrier s c t) h = rw (narrow_decimal s h.0, small c h.1.1, narrow_hex t) refl
narrow_submission submissions.Flush h = refl
narrow_submission (submissions.Discard s c) h = rw (narrow_decimal s h.0, small c h.1.1) refl

narrow_halt : (halt : Halt) → HaltHasWidths halt → is_halt_allowed halt ≡ true → AreNarrow (halt_words halt)
narrow_halt (halts.Overrun p r) h e = rw (small p h.0, small r h.1) refl
narrow_halt (halts.Gone s) h e = rw (small s h) refl
narrow_halt (halts.Unplugged s) h e = rw (small s h) refl
narrow_halt (halts.BadKey name) h e = rw (narrow_name name e) refl
narrow_halt (halts.BadOrder s) h e = rw (small s h) refl
narrow_halt (halts.BadPort p) h e = rw (small p h) refl
narrow_halt (halts.MapRefused g s) h e = rw (small g h.0, narrow_signed s h.1) refl

narrow_mover : (who : Mover) (more : List (List ℕ)) → MoverHasWidths who → AreNarrow more → AreNarrow (mover_words who ++ more)
narrow_mover mover.Front more h e = e
narrow_mover mover.Back more h e = e
narrow_mover (mover.Job k) more h e = rw (narrow_decimal k h, e) refl

narrow_back : (who : BackMover) (more : List (List ℕ)) → BackHasWidths who → AreNarrow more → AreNarrow (back_words who ++ more)
narrow_back back_mover.Back more h e = e
narrow_back (back_mover.Job k) more h e = rw (narrow_decimal k h, e) refl

narrow_move : (m : Move) → MoveHasWidths m → is_move_allowed m ≡ true → AreNarrow (move_words m)
narrow_move (moves.FrontRead f w v) h e = rw (small f h.0, small w h.1, narrow_hex v) refl
narrow_move (moves.FrontWrite f w v) h e = rw (small f h.0, small w h.1, narrow_hex v) refl
narrow_move (moves.FrontCas f w o n s) h e = rw (small f h.0, small w h.1, narrow_hex o, narrow_hex n, narrow_hex s) refl
narrow_move (moves.FrontPort p) h e = rw (small p h) refl
narrow_move (moves.Read who m f w v) h e = narrow_back who _ h.0 (rw (narrow_decimal m h.1, small f h.2, small w h.3, narrow_hex v) refl)
narrow_move (moves.Write who m f w v) h e = narrow_back who _ h.0 (rw (narrow_decimal m h.1, small f h.2, small w h.3, narrow_hex v) refl)
narrow_move (moves.Map who g mode m f) h e = narrow_back who _ h.0 (rw (small g h.1, narrow_mode mode, narrow_decimal m h.2, small f h.3) refl)
narrow_move (moves.MapRefused who g mode s) h e = narrow_back who _ h.0 (rw (small g h.1, narrow_mode mode, narrow_signed s h.2) refl)
narrow_move (moves.Unmap who m) h e = narrow_back who _ h.0 (rw (narrow_decimal m h.1) refl)
narrow_move (moves.Bind p) h e = rw (small p h) refl
narrow_move (moves.BindRefused p) h e = rw (small p h) refl
narrow_move (moves.DiskRead k s) h e = rw (narrow_decimal k h.0, narrow_decimal s h.1) refl
narrow_move (moves.DiskWrite k s) h e = rw (narrow_decimal k h.0, narrow_decimal s h.1) refl
narrow_move (moves.DiskFlush k) h e = rw (narrow_decimal k h) refl
narrow_move (moves.DiskTrim k s c) h e = rw (narrow_decimal k h.0, narrow_decimal s h.1, narrow_decimal c h.2) refl
narrow_move (moves.Fence who) h e = narrow_mover who _ h refl
narrow_move (moves.Send who) h e = narrow_mover who _ h refl
narrow_move (moves.ClosePort who) h e = narrow_mover who _ h refl
narrow_move (moves.Event who) h e = narrow_mover who _ h refl
narrow_move (moves.Watch who path) h e =
    let t = both_true (is_mover_allowed who) (is_key_path path) e in
    narrow_mover who _ h (rw (narrow_path path t.1) refl)
narrow_move (moves.Watched who path) h e =
    let t = both_true (is_mover_allowed who) (is_key_path path) e in
    narrow_mover who _ h (rw (narrow_path path t.1) refl)
narrow_move (moves.GetKey who path None) h e =
    let t = both_true (is_mover_allowed who) (is_key_path path) e in
    narrow_mover who _ h (rw (narrow_path path t.1) refl)
narrow_move (moves.GetKey who path (Some text)) h e =
    let t = both_true (is_mover_allowed who && is_key_path path) (is_key_text text) e in
    let u = both_true (is_mover_allowed who) (is_key_path path) t.0 in
    narrow_mover who _ h (rw (narrow_path path u.1, narrow_equals text t.1) refl)
narrow_move (moves.SetKey who path text) h e =
    let t = both_true (is_mover_allowed who && is_key_path path) (is_key_text text) e in
    let u = both_true (is_mover_allowed who) (is_key_path path) t.0 in
    narrow_mover who _ h (rw (narrow_path path u.1, narrow_equals text t.1) refl)

-- a line that shows a sector
abbrev pub shows_sector : Line → Bool
shows_sector (lines.EffectRead id index words) = true
shows_sector (lines.Data id index words) = true
shows_sector line = false

pub narrow_line : (line : Line) → IsInRange line → shows_sector line ≡ false → AreNarrow (words_of line)
narrow_line (lines.Begin config detail) h other = rw (narrow_abi config.abi, small config.order (omega (arith, h.widths.0)), small config.persistent (omega (arith, h.widths.1)), small config.indirect (omega (arith, h.widths.2)), small config.start h.widths.3, narrow_access config.read_only, narrow_decimal config.sectors h.widths.4, narrow_detail detail) refl
narrow_line lines.Ready h other = refl
narrow_line lines.Closing h other = refl
narrow_line lines.Closed h other = refl
narrow_line (lines.Broken w) h other = rw (narrow_hex w) refl
narrow_line (lines.Submit id submission) h other = rw (narrow_decimal id h.widths.0, narrow_submission submission h.widths.1) refl
narrow_line (lines.Refuse r) h other = rw (narrow_refusal r) refl
narrow_line (lines.Effect id index) h other = rw (narrow_decimal id h.widths.0, small index h.widths.1) refl
narrow_line (lines.EffectRead id index words) h other = absurd (true≢false other)
narrow_line (lines.Flushed id) h other = rw (narrow_decimal id h.widths) refl
narrow_line (lines.Trimmed id) h other = rw (narrow_decimal id h.widths) refl
narrow_line (lines.Fault id index) h other = rw (narrow_decimal id h.widths.0, small index h.widths.1) refl
narrow_line (lines.Reply id s) h other = rw (narrow_decimal id h.widths, narrow_status s) refl
narrow_line (lines.Answer id s) h other = rw (narrow_decimal id h.widths, narrow_status s) refl
narrow_line (lines.Data id index words) h other = absurd (true≢false other)
narrow_line lines.Epoch h other = refl
narrow_line (lines.Halt halt) h other = narrow_halt halt h.widths h.allowed
narrow_line (lines.Poke f w v) h other = rw (small f h.widths.0, small w h.widths.1, small v h.widths.2) refl
narrow_line (lines.Key name text) h other =
    let t = both_true (is_key_name name) (is_key_text text) h.allowed in
    rw (narrow_name name t.0, narrow_text text t.1) refl
narrow_line lines.Quiet h other = refl
narrow_line lines.Busy h other = refl
narrow_line lines.Unsettled h other = refl
narrow_line (lines.Word f w v) h other = rw (small f h.widths.0, small w h.widths.1, narrow_hex v) refl
narrow_line lines.End h other = refl
narrow_line (lines.Move m) h other = narrow_move m h.widths h.allowed
