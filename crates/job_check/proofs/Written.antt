-- The words that the back wrote into the ring in this epoch: four a reply, of which three are the row.
use Rattle.std.proofs.Common.{◌≡◌, ℕ, zero, suc, ◌+◌, ◌-◌, ◌*◌, ◌/◌, ◌<◌, ◌==◌, ◌&&◌, Bool, true, false, if◌then◌else◌, List, [], ◌∷◌, ◌++◌, length, refl, ap, sym, ◌∙◌, append_assoc, append-nil, length-append, arith}
use Rattle.std.specs.Prelude.{nat_lt, Option, Some, None, is_some}
use Rattle.std.specs.List.{filter_map}
use Rattle.std.specs.Option.{option_to_list}
use Rattle.std.proofs.lemmas.Bool.Decides.{nat_tests}
use Rattle.std.proofs.lemmas.List.{reverse-append}
use Rattle.blk_base.specs.declared.moves.BackMover.TheVariants as back
use Rattle.blk_base.specs.declared.moves.Move.TheVariants as moves
use Rattle.schedule_text.specs.declared.line.Line.{Line}
use Rattle.schedule_text.specs.declared.line.Line.TheVariants as lines
use Rattle.report_rules.specs.declared.standing.Standing.{Standing}
use Rattle.report_rules.specs.Standing.{is_epoch, this_epoch}
use Rattle.report_rules.specs.Ring.{page_made, page_from, word_in, ring_pages}
use Rattle.report_rules.specs.Reply.{is_event, value_written, values_written, value_at, row_of, within_reply, ends_with_write, reply_pushed}
use Rattle.ring_check.specs.State.{RingState, word_on}
use Rattle.ring_check.specs.Kept.{IsKept}
use Rattle.ring_check.proofs.Telling.{IsNew, alone}
use Rattle.job_check.specs.Replies.{Replies, no_replies, after_value, after_other}
use Rattle.job_check.specs.State.{value_seen}
use Rattle.job_check.proofs.Telling.{anew}
use Rattle.job_check.proofs.Entries.{Stays, map_same, pages_more, shown_with}

-- the word that the back writes in a line, where these are the ring's pages
abbrev pub written_on : List Standing → Line → Option ℕ
written_on pages (lines.Move (moves.Write back.Back number frame word value)) = if is_event (word_on pages number word) then None else Some value
written_on pages line = None

pub written_is : (before : List Line) (line : Line) → value_written before line ≡ written_on (ring_pages before) line
written_is before (lines.Move (moves.Write back.Back number frame word value)) = refl
written_is before line = refl

pub seen_is : (before : List Line) (ring : RingState) (line : Line) → IsKept before ring → value_seen ring line ≡ written_on (ring_pages before) line
seen_is before ring (lines.Move (moves.Write back.Back number frame word value)) k = ap (λ (ps : List Standing). if is_event (word_on ps number word) then None else Some value) k.pages
seen_is before ring line k = refl

place_stays : (pages : List Standing) (p : Standing) (number k : ℕ) → (p.number == number) ≡ false → page_from k number (pages ++ p ∷ []) ≡ page_from k number pages
place_stays [] p number k e = rw e refl
place_stays (q ∷ pages) p number k e = ap (λ (o : Option ℕ). if q.number == number then Some k else o) (place_stays pages p number (k + 1) e)

pub written_stays : Stays written_on
written_stays pages p (lines.Move (moves.Write back.Back number frame word value)) e = ap (λ (o : Option ℕ). if is_event (word_in o word) then None else Some value) (place_stays pages p number 0 e)
written_stays pages p line e = refl

written_are : (before : List Line) → values_written before ≡ filter_map (written_on (ring_pages before)) (this_epoch before)
written_are before = map_same (value_written before) (written_on (ring_pages before)) (this_epoch before) (written_is before)

pub written_more : (before : List Line) (line : Line) → is_epoch line ≡ false → IsNew (page_made line) (this_epoch before) → values_written (before ++ line ∷ []) ≡ values_written before ++ option_to_list (written_on (ring_pages before) line)
written_more before line e new =
    written_are (before ++ line ∷ [])
    ∙ (shown_with written_on written_stays before line e new ∙ ap (λ (vs : List ℕ). vs ++ option_to_list (written_on (ring_pages before) line)) (sym (written_are before)))

-- the word of the last line itself
pub written_last : (before : List Line) (line : Line) → is_epoch line ≡ false → value_written (before ++ line ∷ []) line ≡ written_on (ring_pages before) line
written_last before line e =
    written_is (before ++ line ∷ []) line
    ∙ (ap (λ (ps : List Standing). written_on ps line) (pages_more before line e) ∙ alone written_on written_stays (ring_pages before) line)

-- ---- rows
pub at_past : (old words : List ℕ) (n i : ℕ) → length old ≡ n → value_at (old ++ words) (n + i) ≡ value_at words i
at_past [] words n i long = let same : n + i ≡ i = omega arith in ap (λ (m : ℕ). value_at words m) same
at_past (x ∷ old) words zero i long = absurd (omega arith)
at_past (x ∷ old) words (suc n) i long = let same : suc n + i ≡ suc (n + i) = omega arith in ap (λ (m : ℕ). value_at (x ∷ old ++ words) m) same ∙ at_past old words n i (omega arith)

abbrev row_at : ℕ → ℕ → ℕ → List ℕ
row_at a b c = a ∷ b ∷ c ∷ []

-- the row past some whole ones
pub row_past : (old words : List ℕ) (n : ℕ) → length old ≡ 4 * n → row_of (old ++ words) n ≡ row_of words 0
row_past old words n long =
    let first : value_at (old ++ words) (4 * n) ≡ value_at words 0 = ap (λ (m : ℕ). value_at (old ++ words) m) (plus_zero (4 * n)) ∙ at_past old words (4 * n) 0 long in
    ap (λ (a : ℕ). row_at a (value_at (old ++ words) (4 * n + 1)) (value_at (old ++ words) (4 * n + 2))) first
    ∙ (ap (λ (b : ℕ). row_at (value_at words 0) b (value_at (old ++ words) (4 * n + 2))) (at_past old words (4 * n) 1 long)
    ∙ ap (λ (c : ℕ). row_at (value_at words 0) (value_at words 1) c) (at_past old words (4 * n) 2 long))
  where
    plus_zero : (m : ℕ) → m ≡ m + 0
    plus_zero m = omega arith

-- a row of three words, with the producer that pushes it
row_whole : (row : List ℕ) (v : ℕ) → length row ≡ 3 → row_of (row ++ v ∷ []) 0 ≡ row
row_whole [] v long = absurd (omega arith)
row_whole (a ∷ []) v long = absurd (omega arith)
row_whole (a ∷ b ∷ []) v long = absurd (omega arith)
row_whole (a ∷ b ∷ c ∷ []) v long = refl
row_whole (a ∷ b ∷ c ∷ d ∷ row) v long = absurd (omega arith)

-- ---- what is kept of them
pub record IsWritten (before : List Line) (r : Replies) : Type 0 where
  pub old : List ℕ
  pub count : ℕ
  pub values : values_written before ≡ old ++ r.row
  pub size : length old ≡ 4 * count
  pub short : length r.row < 4
  pub rows : r.rows ≡ (if length r.row == 0 then count else count + 1)
  pub pushed : r.pushed ≡ reply_pushed before
  pub some : is_some r.pushed ≡ true → (r.rows == 0) ≡ false

pub written_none : IsWritten [] no_replies
written_none = record { old = []; count = 0; values = refl; size = refl; short = omega arith; rows = refl; pushed = refl; some = λ h. absurd (cc) }

pub written_anew : (before : List Line) (line : Line) → is_epoch line ≡ true → IsWritten (before ++ line ∷ []) no_replies
written_anew before line e =
    let none : this_epoch (before ++ line ∷ []) ≡ [] = anew before line e in
    record {
      old = [];
      count = 0;
      values = ap (λ (xs : List Line). filter_map (value_written (before ++ line ∷ [])) xs) none;
      size = refl;
      short = omega arith;
      rows = refl;
      pushed = sym (quiet line e);
      some = λ h. absurd (cc);
    }
  where
    no_write : (x : Line) → is_epoch x ≡ true → value_written (before ++ line ∷ []) x ≡ None
    no_write lines.Epoch h = refl
    no_write x h = absurd (cc)

    quiet : (x : Line) → is_epoch x ≡ true → reply_pushed (before ++ line ∷ []) ≡ None
    quiet x h = rw (reverse-append before (line ∷ []), no_write line e) refl

-- the lines end with a write, or not
pushed_is : (before : List Line) (line : Line) → is_epoch line ≡ false → reply_pushed (before ++ line ∷ [])
    ≡ (if is_some (written_on (ring_pages before) line) && (within_reply (before ++ line ∷ []) == 0) then Some (row_of (values_written (before ++ line ∷ [])) (length (values_written (before ++ line ∷ [])) / 4 - 1)) else None)
pushed_is before line e =
    ap (λ (xs : List Line). if ends_with_write (before ++ line ∷ []) xs && (within_reply (before ++ line ∷ []) == 0) then Some (row_of (values_written (before ++ line ∷ [])) (length (values_written (before ++ line ∷ [])) / 4 - 1)) else None) (reverse-append before (line ∷ []))
    ∙ ap (λ (o : Option ℕ). if is_some o && (within_reply (before ++ line ∷ []) == 0) then Some (row_of (values_written (before ++ line ∷ [])) (length (values_written (before ++ line ∷ [])) / 4 - 1)) else None) (written_last before line e)

pub written_still : (before : List Line) (line : Line) (r : Replies) → IsWritten before r → is_epoch line ≡ false → IsNew (page_made line) (this_epoch before) → written_on (ring_pages before) line ≡ None → IsWritten (before ++ line ∷ []) (after_other r)
written_still before line r is e new none = record {
  old = is.old;
  count = is.count;
  values = written_more before line e new ∙ (ap (λ (o : Option ℕ). values_written before ++ option_to_list o) none ∙ (append-nil (values_written before) ∙ is.values));
  size = is.size;
  short = is.short;
  rows = is.rows;
  pushed = sym (pushed_is before line e ∙ rw none refl);
  some = λ h. absurd (cc);
}

-- a word more
record IsWord (before : List Line) (line : Line) (value : ℕ) (old : List ℕ) (count : ℕ) (row : List ℕ) : Type 0 where
  values : values_written (before ++ line ∷ []) ≡ old ++ (row ++ value ∷ [])
  size : length old ≡ 4 * count
  pushed : reply_pushed (before ++ line ∷ []) ≡ (if within_reply (before ++ line ∷ []) == 0 then Some (row_of (values_written (before ++ line ∷ [])) (length (values_written (before ++ line ∷ [])) / 4 - 1)) else None)

word_in_row : (before : List Line) (line : Line) (value : ℕ) (r : Replies) (is : IsWritten before r) → is_epoch line ≡ false → IsNew (page_made line) (this_epoch before) → written_on (ring_pages before) line ≡ Some value → IsWord before line value is.old is.count r.row
word_in_row before line value r is e new some = record {
  values = written_more before line e new ∙ (ap (λ (o : Option ℕ). values_written before ++ option_to_list o) some ∙ (ap (λ (vs : List ℕ). vs ++ value ∷ []) is.values ∙ append_assoc is.old r.row (value ∷ [])));
  size = is.size;
  pushed = pushed_is before line e ∙ rw some refl;
}

many : (before : List Line) (line : Line) (value : ℕ) (old : List ℕ) (count : ℕ) (row : List ℕ) → IsWord before line value old count row → length (values_written (before ++ line ∷ [])) ≡ 4 * count + (length row + 1)
many before line value old count row w =
    let both = length-append old (row ++ value ∷ []) in
    let one = length-append row (value ∷ []) in
    let size = w.size in
    ap length w.values ∙ omega arith

-- in a row
unpushed : (before : List Line) (line : Line) (value : ℕ) (old : List ℕ) (count : ℕ) (row : List ℕ) → IsWord before line value old count row → length row < 3 → reply_pushed (before ++ line ∷ []) ≡ None
unpushed before line value old count row w short =
    let long = many before line value old count row w in
    let within : (within_reply (before ++ line ∷ []) == 0) ≡ false = grind (arith, nat_tests) in
    w.pushed ∙ rw within refl

-- the producer
pushed_now : (before : List Line) (line : Line) (value : ℕ) (old : List ℕ) (count : ℕ) (row : List ℕ) → IsWord before line value old count row → length row ≡ 3 → reply_pushed (before ++ line ∷ []) ≡ Some row
pushed_now before line value old count row w three =
    let long = many before line value old count row w in
    let within : (within_reply (before ++ line ∷ []) == 0) ≡ true = grind (arith, nat_tests) in
    let at : length (values_written (before ++ line ∷ [])) / 4 - 1 ≡ count = omega arith in
    w.pushed
    ∙ (ap (λ (b : Bool). if b then Some (row_of (values_written (before ++ line ∷ [])) (length (values_written (before ++ line ∷ [])) / 4 - 1)) else None) within
    ∙ (ap (λ (n : ℕ). Some (row_of (values_written (before ++ line ∷ [])) n)) at
    ∙ (ap (λ (vs : List ℕ). Some (row_of vs count)) w.values
    ∙ ap (λ (ws : List ℕ). Some ws) (row_past old (row ++ value ∷ []) count w.size ∙ row_whole row value three))))

no_items : (xs : List ℕ) → length xs ≡ 0 → xs ≡ []
no_items [] h = refl
no_items (x ∷ xs) h = absurd (omega arith)

pub written_word : (before : List Line) (line : Line) (value : ℕ) (r : Replies) → IsWritten before r → is_epoch line ≡ false → IsNew (page_made line) (this_epoch before) → written_on (ring_pages before) line ≡ Some value → IsWritten (before ++ line ∷ []) (after_value r value)
written_word before line value r is e new some = by_tests (length r.row == 0) (nat_lt (length r.row) 3) refl refl is.rows is.short (word_in_row before line value r is e new some)
  where
    by_tests : (a b : Bool) → (length r.row == 0) ≡ a → nat_lt (length r.row) 3 ≡ b → r.rows ≡ (if a then is.count else is.count + 1) → length r.row < 4 → IsWord before line value is.old is.count r.row
        → IsWritten (before ++ line ∷ []) (if a then record { rows = r.rows + 1; row = value ∷ []; pushed = None } else (if b then record r { row = r.row ++ value ∷ []; pushed = None } else record r { row = []; pushed = Some r.row }))
    by_tests true b s t rows short w =
        let none : r.row ≡ [] = no_items r.row (grind (arith, nat_tests)) in
        record {
          old = is.old;
          count = is.count;
          values = w.values ∙ ap (λ (xs : List ℕ). is.old ++ (xs ++ value ∷ [])) none;
          size = is.size;
          short = omega arith;
          rows = ap (λ (n : ℕ). n + 1) rows;
          pushed = sym (unpushed before line value is.old is.count r.row w (grind (arith, nat_tests)));
          some = λ h. absurd (cc);
        }
    by_tests false true s t rows short w =
        let one = length-append r.row (value ∷ []) in
        let some_words : (length (r.row ++ value ∷ []) == 0) ≡ false = grind (arith, nat_tests) in
        record {
          old = is.old;
          count = is.count;
          values = w.values;
          size = is.size;
          short = grind (arith, nat_tests);
          rows = rows ∙ rw some_words refl;
          pushed = sym (unpushed before line value is.old is.count r.row w (grind (arith, nat_tests)));
          some = λ h. absurd (cc);
        }
    by_tests false false s t rows short w =
        let three : length r.row ≡ 3 = grind (arith, nat_tests) in
        let both = length-append is.old (r.row ++ value ∷ []) in
        let one = length-append r.row (value ∷ []) in
        let size = is.size in
        record {
          old = is.old ++ (r.row ++ value ∷ []);
          count = is.count + 1;
          values = w.values ∙ sym (append-nil (is.old ++ (r.row ++ value ∷ [])));
          size = omega arith;
          short = omega arith;
          rows = rows;
          pushed = sym (pushed_now before line value is.old is.count r.row w three);
          some = λ h. grind (arith, nat_tests, rows);
        }
