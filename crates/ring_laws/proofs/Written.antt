-- What the back wrote into the ring, one line further: a line that writes no word of a reply leaves it.
use Rattle.std.proofs.Common.{◌≡◌, ℕ, ◌-◌, ◌/◌, ◌&&◌, ◌==◌, true, false, if◌then◌else◌, List, [], ◌∷◌, ◌++◌, length, refl, ap, sym, ◌∙◌, subst, append_assoc}
use Rattle.std.specs.Prelude.{Option, Some, None, is_some}
use Rattle.std.specs.List.{AllByRecursion, filter_map, list_any, cons_option}
use Rattle.std.specs.Option.{option_to_list}
use Rattle.std.proofs.lemmas.List.{append-nil, reverse-append}
use Rattle.std.proofs.lemmas.List.Elements.{filter_map-append}
use Rattle.blk_base.specs.Options.{Options}
use Rattle.blk_base.specs.declared.parts.Mode.{Mode}
use Rattle.blk_base.specs.declared.moves.BackMover.TheVariants as back
use Rattle.blk_base.specs.declared.moves.Move.TheVariants as moves
use Rattle.schedule_text.specs.declared.line.Detail.{Detail}
use Rattle.schedule_text.specs.declared.line.Line.{Line}
use Rattle.schedule_text.specs.declared.line.Line.TheVariants as lines
use Rattle.report_rules.specs.declared.standing.Standing.{Standing}
use Rattle.report_rules.specs.Obeys.{Obeys}
use Rattle.report_rules.specs.Standing.{this_epoch}
use Rattle.report_rules.specs.Ring.{page_from, word_in, ring_pages}
use Rattle.report_rules.specs.Reply.{is_event, value_written, values_written, within_reply, row_of, reply_pushed, ends_with_write, is_reply, IsReplyAt}
use Rattle.report_rules.proofs.Obeys.{obeys_none, obeys_more}
use Rattle.blk_back.specs.declared.stage.BackStage.{BackStage}
use Rattle.blk_back.specs.declared.stage.BackStage.TheVariants as stage
use Rattle.ring_laws.proofs.Lists.{gathered_same, gathered_none, or_false}
use Rattle.ring_laws.proofs.Sight.{is_touch, is_other, other_touch}
use Rattle.ring_laws.proofs.Shows.{Sight, Shows, IsOnPages, other_on_pages, pages_kept, touched_more}
use Rattle.ring_laws.proofs.Bystanders.{if_none}
use Rattle.ring_laws.proofs.Due.{Answered, rows_of, under_way, Writes}
use Rattle.ring_laws.proofs.EntryWords.{epoch_longer}

-- which words are a reply's depends on the pages alone
pub written_same : (a b : List Line) → ring_pages a ≡ ring_pages b → (line : Line) → value_written a line ≡ value_written b line
written_same a b same (lines.Move (moves.Write back.Back number frame word value)) = ap (λ (pages : List Standing). if is_event (word_in (page_from 0 number pages) word) then None else Some value) same
written_same a b same line = refl

-- after such a line, as before it
pub written_after : (before : List Line) (line : Line) → IsOnPages line → value_written (before ++ line ∷ []) line ≡ value_written before line
written_after before line on = written_same (before ++ line ∷ []) before (pages_kept before line on.same_epoch on.page) line

-- a line that makes no page adds what the back writes in it
pub written_more : (before : List Line) (line : Line) → IsOnPages line → values_written (before ++ line ∷ []) ≡ values_written before ++ option_to_list (value_written before line)
written_more before line on =
    let longer = before ++ line ∷ [] in
    let pages = pages_kept before line on.same_epoch on.page in
    gathered_same (value_written longer) (value_written before) (λ l. written_same longer before pages l) (this_epoch longer)
    ∙ (ap (λ (ls : List Line). filter_map (value_written before) ls) (epoch_longer before line on.same_epoch)
    ∙ (filter_map-append (value_written before) (this_epoch before) (line ∷ []) ∙ ap (λ (vs : List ℕ). values_written before ++ vs) (one_value (value_written before line))))
  where
    one_value : (value : Option ℕ) → cons_option value [] ≡ option_to_list value
    one_value None = refl
    one_value (Some v) = refl

pub written_still : (before : List Line) (line : Line) → IsOnPages line → value_written before line ≡ None → values_written (before ++ line ∷ []) ≡ values_written before
written_still before line on none =
    written_more before line on ∙ (ap (λ (v : Option ℕ). values_written before ++ option_to_list v) none ∙ append-nil (values_written before))

pub untouched_written : (before : List Line) (line : Line) → is_touch line ≡ false → value_written before line ≡ None
untouched_written before (lines.Move (moves.Write back.Back number frame word value)) e = absurd (cc)
untouched_written before line e = refl

-- where a page of the ring is mapped no word was written yet
pub written_map : (before : List Line) (gref number frame : ℕ) (mode : Mode) (x : Sight) → x.touched ≡ false → Shows before x → values_written (before ++ lines.Move (moves.Map back.Back gref mode number frame) ∷ []) ≡ values_written before
written_map before gref number frame mode x none shows =
    let line : Line = lines.Move (moves.Map back.Back gref mode number frame) in
    let longer : List Line = before ++ lines.Move (moves.Map back.Back gref mode number frame) ∷ [] in
    let untouched : list_any is_touch (this_epoch before) ≡ false = shows.fresh none in
    let still : list_any is_touch (this_epoch longer) ≡ false = touched_more before line refl ∙ (or_false (list_any is_touch (this_epoch before)) ∙ untouched) in
    gathered_none (value_written longer) is_touch (λ l e. untouched_written longer l e) (this_epoch longer) still
    ∙ sym (gathered_none (value_written before) is_touch (λ l e. untouched_written before l e) (this_epoch before) untouched)

-- the reply that the last line pushed, by what the back wrote in it
pub pushed_more : (before : List Line) (line : Line)
    → (let longer : List Line = before ++ line ∷ [] in reply_pushed longer ≡ (if is_some (value_written longer line) && (within_reply longer == 0) then Some (row_of (values_written longer) (length (values_written longer) / 4 - 1)) else None))
pushed_more before line =
    let longer : List Line = before ++ line ∷ [] in
    ap (λ (ls : List Line). if ends_with_write longer ls && (within_reply longer == 0) then Some (row_of (values_written longer) (length (values_written longer) / 4 - 1)) else None) (reverse-append before (line ∷ []))

-- none, after a line without a word of a reply
pub pushes_none : (before : List Line) (line : Line) → value_written (before ++ line ∷ []) line ≡ None → reply_pushed (before ++ line ∷ []) ≡ None
pushes_none before line none =
    let longer : List Line = before ++ line ∷ [] in
    pushed_more before line ∙ ap (λ (v : Option ℕ). if is_some v && (within_reply longer == 0) then Some (row_of (values_written longer) (length (values_written longer) / 4 - 1)) else None) none

-- the rule allows a line without a word of a reply that tells of none
pub unwritten_at : (before : List Line) (line : Line) (s : BackStage) (answered : List Answered) → Writes before s answered → value_written before line ≡ None → is_reply line ≡ false → IsReplyAt before line
unwritten_at before line s answered w none untold = record {
  next = if_none _ none;
  told = if_none _ w.pushed;
  only = λ told. absurd (cc);
}

-- such a line leaves what was written
pub writes_still : (before : List Line) (line : Line) (s : BackStage) (answered : List Answered) → Writes before s answered → IsReplyAt before line → values_written (before ++ line ∷ []) ≡ values_written before → value_written (before ++ line ∷ []) line ≡ None → Writes (before ++ line ∷ []) s answered
writes_still before line s answered w allowed still none = record {
  obeys = obeys_more IsReplyAt before line w.obeys allowed;
  words = still ∙ w.words;
  pushed = pushes_none before line none;
}

-- a line in which no word of a reply is written, wherever it stands, and that tells of none
pub record Passes (line : Line) : Type 0 where
  pub on : IsOnPages line
  pub unwritten : (before : List Line) → value_written before line ≡ None
  pub untold : is_reply line ≡ false

-- a line that the rules on the ring pass over, but for those of replies
pub passes_other : (line : Line) → is_other line ≡ true → is_reply line ≡ false → Passes line
passes_other line other untold = record { on = other_on_pages line other; unwritten = λ before. untouched_written before line (other_touch line other); untold = untold }

abbrev pub AllPass : List Line → Type 0
AllPass ls = AllByRecursion Passes ls

pub writes_pass : (before : List Line) (line : Line) (s : BackStage) (answered : List Answered) → Passes line → Writes before s answered → Writes (before ++ line ∷ []) s answered
writes_pass before line s answered p w =
    writes_still before line s answered w
    (unwritten_at before line s answered w (p.unwritten before) p.untold)
    (written_still before line p.on (p.unwritten before))
    (p.unwritten (before ++ line ∷ []))

pub writes_all : (before ys : List Line) (s : BackStage) (answered : List Answered) → AllPass ys → Writes before s answered → Writes (before ++ ys) s answered
writes_all before [] s answered all w = subst (λ (ls : List Line). Writes ls s answered) (sym (append-nil before)) w
writes_all before (y ∷ ys) s answered all w =
    subst (λ (ls : List Line). Writes ls s answered) (append_assoc before (y ∷ []) ys)
    (writes_all (before ++ y ∷ []) ys s answered all.1 (writes_pass before y s answered all.0 w))

-- only what is under way counts of the stage
pub writes_stage : (before : List Line) (s t : BackStage) (answered : List Answered) → under_way s ≡ under_way t → Writes before s answered → Writes before t answered
writes_stage before s t answered same w = record { obeys = w.obeys; words = w.words ∙ ap (λ (u : List ℕ). rows_of answered ++ u) same; pushed = w.pushed }

-- the first line, and the last
pub start_writes : (config : Options) (detail : Detail) → Writes (lines.Begin config detail ∷ []) stage.InitWait []
start_writes config detail = record {
  obeys = obeys_more IsReplyAt [] (lines.Begin config detail) (obeys_none IsReplyAt) (record { next = tt; told = tt; only = λ told. absurd (cc) });
  words = refl;
  pushed = refl;
}

pub end_writes : (before : List Line) (s : BackStage) (answered : List Answered) → Writes before s answered → Obeys IsReplyAt (before ++ lines.End ∷ [])
end_writes before s answered w = obeys_more IsReplyAt before lines.End w.obeys (unwritten_at before lines.End s answered w refl refl)
