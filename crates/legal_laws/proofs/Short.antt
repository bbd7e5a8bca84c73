-- The text of a line is one line: it has at most 1152 bytes, and no line feed.
use Rattle.std.proofs.Common.{◌≡◌, ℕ, ◌<◌, ◌^◌, Bool, true, false, List, [], ◌∷◌, ◌++◌, Some, None, refl, decimal, arith, true≢false, ◌≢◌, ◌≤◌, ◌+◌, ◌*◌, length, length-append}
use Rattle.std.specs.List.{list_all}
use Rattle.std.specs.Fmt.{signed_decimal}
use Rattle.std.specs.Prelude.{flat_map, if◌then◌else◌, slice_index, codes, nat_lt}
use Rattle.std.proofs.lemmas.Bool.Decides.{nat_tests}
use Rattle.std.proofs.lemmas.List.Elements.{All-weaker}
use Rattle.std.proofs.lemmas.List.Sums.{AllPass-from_list_all}
use Rattle.std.proofs.lemmas.Fmt.{length-decimal-le}
use Rattle.blk_base.specs.declared.config.Submission.{Submission}
use Rattle.blk_base.specs.declared.config.Submission.TheVariants as submissions
use Rattle.blk_base.specs.declared.moves.BackMover.{BackMover}
use Rattle.blk_base.specs.declared.moves.BackMover.TheVariants as back_mover
use Rattle.blk_base.specs.declared.moves.Mover.{Mover}
use Rattle.blk_base.specs.declared.moves.Mover.TheVariants as mover
use Rattle.blk_base.specs.declared.moves.Move.{Move}
use Rattle.blk_base.specs.declared.moves.Move.TheVariants as moves
use Rattle.line_text.proofs.Both.{both_true}
use Rattle.line_text.specs.Words.{joined, spaced}
use Rattle.line_text.specs.Numbers.{hex8}
use Rattle.line_text.specs.Sector.{IsSector, sector_words, byte_digits, word_digits, are_all}
use Rattle.blk_base.specs.declared.halt.Halt.{Halt}
use Rattle.blk_base.specs.declared.halt.Halt.TheVariants as halts
use Rattle.schedule_text.specs.declared.line.Line.{Line}
use Rattle.schedule_text.specs.declared.line.Line.TheVariants as lines
use Rattle.schedule_text.specs.Line.{words_of, text_of, submission_words, halt_words, mover_words, back_words, mode_word, move_words}
use Rattle.schedule_text.specs.Range.{IsInRange}
use Rattle.report_lines.specs.Text.{HasNoLineFeed}
use Rattle.report_laws.proofs.Inline.{is_inline, inline_of}
use Rattle.schedule_text.proofs.NarrowWords.{is_narrow, AreNarrow, narrow_hex, within_80}
use Rattle.schedule_text.proofs.Narrow.{shows_sector, narrow_line}

-- ---- how many

few_job : (job : Submission) → length (submission_words job) ≤ 4
few_job (submissions.Read s c) = omega arith
few_job job = omega arith

few_halt : (halt : Halt) → length (halt_words halt) ≤ 3
few_halt (halts.Gone s) = omega arith
few_halt halt = omega arith

few_mover : (who : Mover) (more : List (List ℕ)) → length (mover_words who ++ more) ≤ length more + 2
few_mover mover.Front more = omega arith
few_mover mover.Back more = omega arith
few_mover (mover.Job k) more = omega arith

few_back : (who : BackMover) (more : List (List ℕ)) → length (back_words who ++ more) ≤ length more + 2
few_back back_mover.Back more = omega arith
few_back (back_mover.Job k) more = omega arith

few_move : (m : Move) → length (move_words m) ≤ 9
few_move (moves.Read who m f w v) = let few = few_back who (codes "read" ∷ decimal m ∷ decimal f ∷ decimal w ∷ hex8 v ∷ []) in omega arith
few_move (moves.Write who m f w v) = let few = few_back who (codes "write" ∷ decimal m ∷ decimal f ∷ decimal w ∷ hex8 v ∷ []) in omega arith
few_move (moves.Map who g mode m f) = let few = few_back who (codes "map" ∷ decimal g ∷ mode_word mode ∷ codes "ok" ∷ decimal m ∷ decimal f ∷ []) in omega arith
few_move (moves.MapRefused who g mode s) = let few = few_back who (codes "map" ∷ decimal g ∷ mode_word mode ∷ codes "refused" ∷ signed_decimal s ∷ []) in omega arith
few_move (moves.Unmap who m) = let few = few_back who (codes "unmap" ∷ decimal m ∷ []) in omega arith
few_move (moves.Fence who) = let few = few_mover who (codes "fence" ∷ []) in omega arith
few_move (moves.Send who) = let few = few_mover who (codes "send" ∷ []) in omega arith
few_move (moves.ClosePort who) = let few = few_mover who (codes "closeport" ∷ []) in omega arith
few_move (moves.Event who) = let few = few_mover who (codes "event" ∷ []) in omega arith
few_move (moves.Watch who path) = let few = few_mover who (codes "watch" ∷ path ∷ []) in omega arith
few_move (moves.Watched who path) = let few = few_mover who (codes "watched" ∷ path ∷ []) in omega arith
few_move (moves.GetKey who path None) = let few = few_mover who (codes "getkey" ∷ path ∷ []) in omega arith
few_move (moves.GetKey who path (Some text)) = let few = few_mover who (codes "getkey" ∷ path ∷ (61 ∷ text) ∷ []) in omega arith
few_move (moves.SetKey who path text) = let few = few_mover who (codes "setkey" ∷ path ∷ (61 ∷ text) ∷ []) in omega arith
few_move m = omega arith

few_words : (line : Line) → shows_sector line ≡ false → length (words_of line) ≤ 10
few_words (lines.Submit id job) other = let few = few_job job in omega arith
few_words (lines.Halt halt) other = let few = few_halt halt in omega arith
few_words (lines.Move m) other = let few = few_move m in omega arith
few_words (lines.EffectRead id index words) other = absurd (true≢false other)
few_words (lines.Data id index words) other = absurd (true≢false other)
few_words line other = omega arith

-- ---- the text

-- what words take with a space each
abbrev room : List (List ℕ) → ℕ
room [] = 0
room (w ∷ ws) = (length w + 1) + room ws

spaced_room : (ws : List (List ℕ)) → length (spaced ws) ≡ room ws
spaced_room [] = refl
spaced_room (w ∷ ws) = let rest = spaced_room ws in let both = length-append w (spaced ws) in omega arith

joined_room : (ws : List (List ℕ)) → length (joined ws) ≤ room ws
joined_room [] = omega arith
joined_room (w ∷ ws) = let rest = spaced_room ws in let both = length-append w (spaced ws) in omega arith

narrow_room : (ws : List (List ℕ)) → AreNarrow ws → room ws ≤ 81 * length ws
narrow_room [] each = omega arith
narrow_room (w ∷ ws) each =
    let both = both_true (is_narrow w) (list_all is_narrow ws) each in
    let first = within_80 w both.0 in
    let rest = narrow_room ws both.1 in
    omega arith

narrow_text_of : (words : List (List ℕ)) → AreNarrow words → length words ≤ 10 → length (joined words) ≤ 1152
narrow_text_of words each few = let whole = joined_room words in let bound = narrow_room words each in omega arith

digits_of : (ws : List ℕ) → length (byte_digits ws) ≡ 8 * length ws
unfolding byte_digits
digits_of [] = omega arith
digits_of (w ∷ ws) = let rest = digits_of ws in let both = length-append (word_digits w) (flat_map word_digits ws) in omega arith

sector_room : (words : List ℕ) → IsSector words → room (sector_words words) ≤ 1025
unfolding sector_words
sector_room words is = by_fill (are_all (slice_index words 0) words)
  where
    by_fill : (b : Bool) → room (if b then codes "fill" ∷ hex8 (slice_index words 0) ∷ [] else byte_digits words ∷ []) ≤ 1025
    by_fill true = let short = within_80 (hex8 (slice_index words 0)) (narrow_hex (slice_index words 0)) in omega arith
    by_fill false = let digits = digits_of words in let size = is.size in omega arith

sector_text : (name : List ℕ) (id index : ℕ) (words : List ℕ) → length name ≤ 6 → id < 2 ^ 64 → index < 2 ^ 32 → IsSector words → length (joined (name ∷ decimal id ∷ decimal index ∷ sector_words words)) ≤ 1152
sector_text name id index words short wide small_index is =
    let whole = joined_room (name ∷ decimal id ∷ decimal index ∷ sector_words words) in
    let bound = sector_room words is in
    let first = length-decimal-le 20 id (omega arith) (omega arith) wide in
    let second = length-decimal-le 20 index (omega arith) (omega arith) (omega arith) in
    omega arith

pub short_text : (line : Line) → IsInRange line → length (text_of line) ≤ 1152
short_text (lines.EffectRead id index words) h = sector_text (codes "effect") id index words (omega arith) h.widths.0 h.widths.1 h.widths.2
short_text (lines.Data id index words) h = sector_text (codes "data") id index words (omega arith) h.widths.0 h.widths.1 h.widths.2
short_text line h = narrow_text_of (words_of line) (narrow_line line h refl) (few_words line refl)

-- ---- no line feed

-- bytes of which each is a space or above have none
no_feed : (bytes : List ℕ) → is_inline bytes ≡ true → HasNoLineFeed bytes
no_feed bytes inline = All-weaker (λ (b : ℕ). nat_lt 31 b ≡ true) (λ (b : ℕ). b ≢ 10) (λ b above. other b above) bytes (AllPass-from_list_all (λ (b : ℕ). nat_lt 31 b) bytes inline)
  where
    other : (b : ℕ) → nat_lt 31 b ≡ true → b ≢ 10
    other b above is = absurd (grind (arith, nat_tests))

pub unbroken_text : (line : Line) → IsInRange line → HasNoLineFeed (text_of line)
unbroken_text line h = no_feed (text_of line) (inline_of line h)
