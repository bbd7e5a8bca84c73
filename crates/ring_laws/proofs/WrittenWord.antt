-- A word of a reply that the back writes is the next one, of a response that a job is due; after the producer stands the line that tells of the reply.
use Rattle.std.proofs.Common.{◌≡◌, ℕ, ◌+◌, ◌-◌, ◌*◌, ◌/◌, ◌%◌, ◌^◌, ◌<◌, ◌≤◌, ◌&&◌, ◌==◌, Bool, true, false, if◌then◌else◌, List, [], ◌∷◌, ◌++◌, length, refl, ap, sym, ◌∙◌, subst, append_assoc, append-nil, length-append, arith}
use Rattle.std.specs.Prelude.{Option, Some, None, is_some}
use Rattle.std.specs.Option.{option_to_list}
use Rattle.std.proofs.lemmas.Option.{none-some}
use Rattle.std.proofs.lemmas.Bool.Decides.{nat_tests}
use Rattle.blk_base.specs.declared.parts.Mapping.{Mapping}
use Rattle.blk_base.specs.declared.moves.BackMover.TheVariants as back
use Rattle.blk_base.specs.declared.moves.Move.TheVariants as moves
use Rattle.ring_words.specs.Ring.{next_of}
use Rattle.ring_words.specs.Shape.{Shape, ring_word_of, slot_word_of}
use Rattle.schedule_text.specs.declared.line.Line.{Line}
use Rattle.schedule_text.specs.declared.line.Line.TheVariants as lines
use Rattle.blk_layout.specs.declared.response.Response.{Response}
use Rattle.blk_layout.specs.Response.{response_words_of}
use Rattle.blk_layout.proofs.ResponseLaid.{response_back}
use Rattle.report_rules.specs.Obeys.{Obeys}
use Rattle.report_rules.specs.Ring.{ring_shape, replied_before}
use Rattle.report_rules.specs.Standing.{this_epoch}
use Rattle.report_rules.specs.Made.{left_to}
use Rattle.report_rules.specs.Reply.{is_event, value_written, values_written, within_reply, row_of, are_alike, response_due, lines_before, answered_in, is_answer, next_place, is_next_value, reply_pushed, line_of, IsReplyAt}
use Rattle.report_rules.proofs.Obeys.{obeys_more}
use Rattle.blk_back.specs.declared.stage.Reply.{Reply}
use Rattle.blk_back.specs.declared.stage.BackStage.{BackStage}
use Rattle.blk_back.specs.declared.stage.BackStage.TheVariants as stage
use Rattle.blk_back.specs.View.{View, page_of, slot_page, slot_word}
use Rattle.blk_back.proofs.Slots.{response_fits}
use Rattle.ring_laws.proofs.Shows.{Sight, Shows, other_on_pages}
use Rattle.ring_laws.proofs.Touches.{IsPage, page_word, write_on}
use Rattle.ring_laws.proofs.Entry.{first_is, slot_is, slot_at, high_slot, shape_is}
use Rattle.ring_laws.proofs.Knows.{Serves}
use Rattle.ring_laws.proofs.Bystanders.{if_none, if_some, some_and}
use Rattle.ring_laws.proofs.Due.{Answered, response_in, rows_of, under_way, Candidate, Writes}
use Rattle.ring_laws.proofs.WrittenRows.{within_is, replies_are, row_after, rows_more, answers_same, candidate_found}
use Rattle.ring_laws.proofs.Over.{left_aside}
use Rattle.ring_laws.proofs.Rows.{lines_take, answered_one, answered_told}
use Rattle.ring_laws.proofs.Choice.{IsChoice, choice}
use Rattle.ring_laws.proofs.Written.{written_after, written_more, written_still, pushed_more, pushes_none}
use Rattle.report_rules.specs.Stretch.{entries_read}
use Rattle.ring_laws.proofs.EntryWords.{epoch_longer}

-- what the back writes into the ring's pages: a word of a reply, but for req_event
pub written_word : (before : List Line) (x : Sight) (number place frame word value : ℕ) → (1024 * place + word == 1) ≡ false → IsPage number place x → Shows before x → value_written before (lines.Move (moves.Write back.Back number frame word value)) ≡ Some value
written_word before x number place frame word value other is shows =
    ap (λ (w : Option ℕ). if is_event w then None else Some value) (page_word before x number place word shows is) ∙ ap (λ (b : Bool). if b then None else Some value) other

pub written_event : (before : List Line) (x : Sight) (number frame value : ℕ) → IsPage number 0 x → Shows before x → value_written before (lines.Move (moves.Write back.Back number frame 1 value)) ≡ None
written_event before x number frame value is shows = ap (λ (w : Option ℕ). if is_event w then None else Some value) (page_word before x number 0 1 shows is)

not_three : (i : ℕ) → i < 3 → (i == 3) ≡ false
not_three i small = grind (arith, nat_tests)

pub not_one : (word : ℕ) → 16 ≤ word → (word == 1) ≡ false
not_one word high = grind (arith, nat_tests)

not_none : (n k : ℕ) → n ≡ k + 1 → (n == 0) ≡ false
not_none n k e = grind (arith, nat_tests)

is_same : (n m : ℕ) → n ≡ m → (m == n) ≡ true
is_same n m e = grind (arith, nat_tests)

-- the next word is that of a response to a job that has no reply yet
due_word : (before : List Line) (answered : List Answered) (u : List ℕ) (i w : ℕ) (r : Response) → values_written before ≡ rows_of answered ++ u → length u ≡ i → i < 3 → ((words : List ℕ) → are_alike i (row_of (u ++ w ∷ []) 0) words ≡ are_alike i (response_words_of r) words) → Candidate before i r → is_next_value before w ≡ true
due_word before answered u i w r e long small alike c =
    let now : List ℕ = values_written before ++ w ∷ [] in
    let row : List ℕ = row_of (u ++ w ∷ []) 0 in
    let last : Bool = w == (replied_before before + 1) % 2 ^ 32 in
    let within : within_reply before ≡ i = within_is (values_written before) answered u e (omega arith) ∙ long in
    let other : (i == 3) ≡ false = not_three i small in
    let replies : length (values_written before) / 4 ≡ length answered = replies_are (values_written before) answered u e (omega arith) in
    let all : values_written before ++ w ∷ [] ≡ rows_of answered ++ (u ++ w ∷ []) = ap (λ (vs : List ℕ). vs ++ w ∷ []) e ∙ append_assoc (rows_of answered) u (w ∷ []) in
    let most : ℕ = entries_read (lines_before before i) in
    ap (λ (n : ℕ). if n == 3 then last else is_answer before n (row_of now (length (values_written before) / 4))) within
    ∙ (ap (λ (b : Bool). if b then last else is_answer before i (row_of now (length (values_written before) / 4))) other
    ∙ (ap (λ (n : ℕ). is_answer before i (row_of now n)) replies
    ∙ (ap (λ (vs : List ℕ). is_answer before i (row_of vs (length answered))) all
    ∙ (ap (λ (ws : List ℕ). is_answer before i ws) (row_after answered (u ++ w ∷ []))
    ∙ (ap (λ (o : Option ℕ). is_some o) (answers_same (lines_before before i) (answered_in before) i row (response_words_of r) alike most)
    ∙ candidate_found before i r c)))))

-- its place is in the slot of the back's producer
slot_place : (before : List Line) (s : Shape) (prod i : ℕ) → within_reply before ≡ i → i < 3 → replied_before before ≡ prod → ring_word_of s prod i ≡ next_place before s
slot_place before s prod i within small replied =
    let other : (i == 3) ≡ false = not_three i small in
    sym (ap (λ (n : ℕ). if n == 3 then 2 else ring_word_of s (replied_before before) n) within
    ∙ (ap (λ (b : Bool). if b then 2 else ring_word_of s (replied_before before) i) other ∙ ap (λ (n : ℕ). ring_word_of s n i) replied))

word_allowed : (before : List Line) (x : Sight) (number place frame word value : ℕ) (s : Shape) → (1024 * place + word == 1) ≡ false → IsPage number place x → Shows before x → ring_shape before ≡ Some s → reply_pushed before ≡ None → 1024 * place + word ≡ next_place before s → is_next_value before value ≡ true
    → IsReplyAt before (lines.Move (moves.Write back.Back number frame word value))
word_allowed before x number place frame word value s other is shows shape pushed at next =
    let written : value_written before (lines.Move (moves.Write back.Back number frame word value)) ≡ Some value = written_word before x number place frame word value other is shows in
    record {
      next = if_some _ written (some_and _ shape (page_word before x number place word shows is ∙ ap (λ (n : ℕ). Some n) at, next));
      told = if_none _ pushed;
      only = λ told. absurd (cc);
    }

-- what was written, with that word
words_with : (before : List Line) (x : Sight) (number place frame word value : ℕ) (answered : List Answered) (u : List ℕ) → (1024 * place + word == 1) ≡ false → IsPage number place x → Shows before x → values_written before ≡ rows_of answered ++ u
    → values_written (before ++ lines.Move (moves.Write back.Back number frame word value) ∷ []) ≡ rows_of answered ++ (u ++ value ∷ [])
words_with before x number place frame word value answered u other is shows e =
    written_more before (lines.Move (moves.Write back.Back number frame word value)) (write_on number frame word value)
    ∙ (ap (λ (v : Option ℕ). values_written before ++ option_to_list v) (written_word before x number place frame word value other is shows)
    ∙ (ap (λ (vs : List ℕ). vs ++ value ∷ []) e ∙ append_assoc (rows_of answered) u (value ∷ [])))

no_and : (b : Bool) → (b && false) ≡ false
no_and true = refl
no_and false = refl

-- nothing is pushed while words are under way
amid : (before : List Line) (line : Line) (answered : List Answered) (u : List ℕ) → values_written (before ++ line ∷ []) ≡ rows_of answered ++ u → length u < 4 → (length u == 0) ≡ false → reply_pushed (before ++ line ∷ []) ≡ None
amid before line answered u e small some =
    let longer : List Line = before ++ line ∷ [] in
    let pushed : Option (List ℕ) = Some (row_of (values_written longer) (length (values_written longer) / 4 - 1)) in
    pushed_more before line
    ∙ (ap (λ (n : ℕ). if is_some (value_written longer line) && (n == 0) then pushed else None) (within_is (values_written longer) answered u e small)
    ∙ (ap (λ (b : Bool). if is_some (value_written longer line) && b then pushed else None) some
    ∙ ap (λ (b : Bool). if b then pushed else None) (no_and (is_some (value_written longer line)))))

-- one of the three words of a response
pub slot_writes : (before : List Line) (x : Sight) (v : View) (frame i w : ℕ) (r : Response) (s t : BackStage) (answered : List Answered) → Serves 0 x v → Shows before x → Writes before s answered
    → length (under_way s) ≡ i → i < 3 → under_way s ++ w ∷ [] ≡ under_way t
    → ((words : List ℕ) → are_alike i (row_of (under_way s ++ w ∷ []) 0) words ≡ are_alike i (response_words_of r) words)
    → Candidate before i r → (let page : Mapping = slot_page v v.ring.indices.prod i in Writes (before ++ lines.Move (moves.Write back.Back page.number frame (slot_word v.shape v.ring.indices.prod i) w) ∷ []) t answered)
slot_writes before x v frame i w r s t answered k shows writes long small same alike job =
    let page : Mapping = slot_page v v.ring.indices.prod i in
    let number : ℕ = page.number in
    let place : ℕ = (slot_word_of v.shape v.ring.indices.prod i).0 in
    let word : ℕ = slot_word v.shape v.ring.indices.prod i in
    let is : IsPage number place x = slot_is 0 v.ring.indices.prod i x v k (response_fits v.shape.abi i small) in
    let other : (1024 * place + word == 1) ≡ false = not_one (1024 * place + word) (high_slot v.shape v.ring.indices.prod i) in
    let within : within_reply before ≡ i = within_is (values_written before) answered (under_way s) writes.words (omega arith) ∙ long in
    let line : Line = lines.Move (moves.Write back.Back number frame word w) in
    let words : values_written (before ++ line ∷ []) ≡ rows_of answered ++ (under_way s ++ w ∷ []) = words_with before x number place frame word w answered (under_way s) other is shows writes.words in
    let longer : length (under_way s ++ w ∷ []) ≡ i + 1 = length-append (under_way s) (w ∷ []) ∙ ap (λ (n : ℕ). n + 1) long in
    record {
      obeys = obeys_more IsReplyAt before line writes.obeys
          (word_allowed before x number place frame word w v.shape other is shows (shape_is before 0 x v shows k) writes.pushed (slot_at v.shape v.ring.indices.prod i ∙ slot_place before v.shape v.ring.indices.prod i within small (shows.replied ∙ k.replied))
          (due_word before answered (under_way s) i w r writes.words long small alike job));
      words = words ∙ ap (λ (u : List ℕ). rows_of answered ++ u) same;
      pushed = amid before line answered (under_way s ++ w ∷ []) words (omega arith) (not_none (length (under_way s ++ w ∷ [])) i longer);
    }

next_value : (before : List Line) (prod : ℕ) → within_reply before ≡ 3 → replied_before before ≡ prod → is_next_value before (next_of prod) ≡ true
next_value before prod within replied =
    ap (λ (n : ℕ). if n == 3 then next_of prod == (replied_before before + 1) % 2 ^ 32 else is_answer before n (row_of (values_written before ++ next_of prod ∷ []) (length (values_written before) / 4))) within
    ∙ is_same ((replied_before before + 1) % 2 ^ 32) (next_of prod) (ap (λ (n : ℕ). (n + 1) % 2 ^ 32) replied)

-- and the lines before the row, with that word
pub slot_lines : (before : List Line) (x : Sight) (number place frame word value n : ℕ) → (1024 * place + word == 1) ≡ false → IsPage number place x → Shows before x → lines_before (before ++ lines.Move (moves.Write back.Back number frame word value) ∷ []) (n + 1) ≡ lines_before before n
slot_lines before x number place frame word value n other is shows =
    let line : Line = lines.Move (moves.Write back.Back number frame word value) in
    lines_take before line n value (write_on number frame word value) (written_after before line (write_on number frame word value) ∙ written_word before x number place frame word value other is shows)

-- the producer is raised, and the reply told
pub record IsRaised (before : List Line) (lines : List Line) (prod k : ℕ) (r : Reply) (answered : List Answered) : Type 0 where
  pub writes : Writes (before ++ lines) (stage.ProducerFence prod) (answered ++ record { job = k; response = response_in r; producer = next_of prod } ∷ [])
  pub chosen : ℕ
  pub due : response_due (lines_before before 3) chosen ≡ Some (response_words_of (response_in r))
  pub told : answered_in (before ++ lines) ≡ answered_in before ++ chosen ∷ []

pub producer_writes : (before : List Line) (x : Sight) (v : View) (frame k : ℕ) (r : Reply) (answered : List Answered) → Serves 0 x v → Shows before x → r.op < 2 ^ 8 → Writes before (stage.Producer r) answered → Candidate before 3 (response_in r)
    → (let page : Mapping = page_of v 0 in IsRaised before (lines.Move (moves.Write back.Back page.number frame 2 (next_of v.ring.indices.prod)) ∷ lines.Reply r.id r.status ∷ []) v.ring.indices.prod k r answered)
producer_writes before x v frame k r answered s shows small writes c =
    let page : Mapping = page_of v 0 in
    let number : ℕ = page.number in
    let prod : ℕ = v.ring.indices.prod in
    let is : IsPage number 0 x = first_is 0 x v s in
    let line : Line = lines.Move (moves.Write back.Back number frame 2 (next_of prod)) in
    let reply : Line = lines.Reply r.id r.status in
    let longer : List Line = before ++ lines.Move (moves.Write back.Back number frame 2 (next_of prod)) ∷ [] in
    let a : Answered = record { job = k; response = response_in r; producer = next_of prod } in
    let u : List ℕ = under_way (stage.Producer r) in
    let within : within_reply before ≡ 3 = within_is (values_written before) answered u writes.words (omega arith) in
    let at : 1024 * 0 + 2 ≡ next_place before v.shape = sym (ap (λ (n : ℕ). if n == 3 then 2 else ring_word_of v.shape (replied_before before) n) within) in
    let next : is_next_value before (next_of prod) ≡ true = next_value before prod within (shows.replied ∙ s.replied) in
    let past : values_written longer ≡ rows_of answered ++ (u ++ next_of prod ∷ []) = words_with before x number 0 frame 2 (next_of prod) answered u refl is shows writes.words in
    let words : values_written longer ≡ rows_of (answered ++ a ∷ []) = past ∙ sym (rows_more answered a) in
    let flat : values_written longer ≡ rows_of (answered ++ a ∷ []) ++ [] = words ∙ sym (append-nil (rows_of (answered ++ a ∷ []))) in
    let written : value_written longer line ≡ Some (next_of prod) = written_after before line (write_on number frame 2 (next_of prod)) ∙ written_word before x number 0 frame 2 (next_of prod) refl is shows in
    let replies = replies_are (values_written longer) (answered ++ a ∷ []) [] flat (omega arith) in
    let more = length-append answered (a ∷ []) in
    let count : length (values_written longer) / 4 - 1 ≡ length answered = omega arith in
    let pushed : reply_pushed longer ≡ Some (response_words_of (response_in r)) =
    pushed_more before line
    ∙ (ap (λ (v : Option ℕ). if is_some v && (within_reply longer == 0) then Some (row_of (values_written longer) (length (values_written longer) / 4 - 1)) else None) written
    ∙ (ap (λ (n : ℕ). if n == 0 then Some (row_of (values_written longer) (length (values_written longer) / 4 - 1)) else None) (within_is (values_written longer) (answered ++ a ∷ []) [] flat (omega arith))
    ∙ (ap (λ (n : ℕ). Some (row_of (values_written longer) n)) count
    ∙ (ap (λ (vs : List ℕ). Some (row_of vs (length answered))) past
    ∙ ap (λ (ws : List ℕ). Some ws) (row_after answered (u ++ next_of prod ∷ [])))))) in
    let one : Obeys IsReplyAt longer = obeys_more IsReplyAt before line writes.obeys (word_allowed before x number 0 frame 2 (next_of prod) v.shape refl is shows (shape_is before 0 x v shows s) writes.pushed at next) in
    let early : lines_before longer 4 ≡ lines_before before 3 = slot_lines before x number 0 frame 2 (next_of prod) 3 refl is shows in
    let same : answered_in longer ≡ answered_in before = answered_one before line refl refl in
    let left : left_to c.job (this_epoch longer) ≡ [] = ap (λ (ls : List Line). left_to c.job ls) (epoch_longer before line refl) ∙ left_aside c.job (line ∷ []) (this_epoch before) refl c.left in
    let ch : IsChoice longer (lines_before before 3) (response_in r) = choice longer before line (response_in r) c refl early same pushed left in
    let two : IsReplyAt longer reply = record {
      next = tt;
      told = if_some _ pushed (record { says = ap line_of (response_back (response_in r) small); job = λ none. none-some ch.job (sym none ∙ ch.found) });
      only = λ told none. absurd (cc);
    } in
    let joined : longer ++ reply ∷ [] ≡ before ++ line ∷ reply ∷ [] = append_assoc before (line ∷ []) (reply ∷ []) in
    record {
      writes = subst (λ (ls : List Line). Writes ls (stage.ProducerFence prod) (answered ++ a ∷ [])) joined
          (record {
            obeys = obeys_more IsReplyAt longer reply one two;
            words = written_still longer reply (other_on_pages reply refl) refl ∙ flat;
            pushed = pushes_none longer reply refl;
          });
      chosen = ch.job;
      due = ch.due;
      told = ap answered_in (sym joined) ∙ (answered_told longer reply refl refl ∙ (ap (λ (o : Option ℕ). answered_in longer ++ option_to_list o) ch.found ∙ ap (λ (js : List ℕ). js ++ ch.job ∷ []) same));
    }
