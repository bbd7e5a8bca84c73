-- A line that was written is read again.
use Rattle.std.proofs.Common.{◌≡◌, ℕ, ◌<◌, ◌≤◌, ◌^◌, ◌%◌, Bool, true, false, List, [], ◌∷◌, ◌++◌, Some, None, refl, ap, ◌∙◌, arith, ◌&&◌, decimal, cond, codes}
use Rattle.std.specs.Prelude.{min, max}
use Rattle.std.specs.Fmt.{signed_decimal}
use Rattle.std.specs.Str.{bytes_eq}
use Rattle.line_text.proofs.Both.{both_true}
use Rattle.line_text.specs.Numbers.{number_of, hex_of, hex8, signed_of}
use Rattle.line_text.specs.Texts.{text_in, is_key_name, is_key_text, is_key_path}
use Rattle.line_text.specs.Sector.{IsSector}
use Rattle.line_text.proofs.Again.{number_again, small_again, hex_again, signed_again}
use Rattle.line_text.proofs.TextLemmas.{name_again, key_text_again, path_again}
use Rattle.line_text.proofs.SectorAgain.{sector_again, sector_after}
use Rattle.blk_base.specs.declared.operation.Abi.{Abi}
use Rattle.blk_base.specs.declared.operation.Abi.TheVariants.{X64, X32}
use Rattle.blk_base.specs.declared.operation.Status.{Status}
use Rattle.blk_base.specs.declared.operation.Status.TheVariants.{Okay, Error, Unsupported}
use Rattle.blk_base.specs.declared.parts.Mode.{Mode}
use Rattle.blk_base.specs.declared.parts.Mode.TheVariants.{ReadOnly, ReadWrite}
use Rattle.blk_base.specs.declared.config.Submission.{Submission}
use Rattle.blk_base.specs.declared.config.Submission.TheVariants as submissions
use Rattle.blk_base.specs.declared.moves.BackMover.{BackMover}
use Rattle.blk_base.specs.declared.moves.BackMover.TheVariants as back_mover
use Rattle.blk_base.specs.declared.moves.Mover.{Mover}
use Rattle.blk_base.specs.declared.moves.Mover.TheVariants as mover
use Rattle.blk_base.specs.declared.moves.Move.{Move}
use Rattle.blk_base.specs.declared.moves.Move.TheVariants as moves
use Rattle.blk_base.specs.Options.{Options}
use Rattle.schedule_text.specs.declared.line.Detail.{Detail}
use Rattle.schedule_text.specs.declared.line.Detail.TheVariants.{Lines, Moves}
use Rattle.blk_base.specs.declared.refusal.Refusal.{Refusal}
use Rattle.blk_base.specs.declared.refusal.Refusal.TheVariants as refusal
use Rattle.blk_base.specs.declared.halt.Halt.{Halt}
use Rattle.blk_base.specs.declared.halt.Halt.TheVariants as halts
use Rattle.schedule_text.specs.declared.line.Line.{Line}
use Rattle.schedule_text.specs.declared.line.Line.TheVariants as lines
use Rattle.schedule_text.specs.Line.{words_of, abi_word, access_word, detail_word, status_word, refusal_word, submission_words, halt_words, mover_words, back_words, mode_word, move_words}
use Rattle.schedule_text.specs.Range.{IsInRange, IsCount, SubmissionHasWidths, HaltHasWidths, MoverHasWidths, BackHasWidths, MoveHasWidths, AreOptions, is_halt_allowed, is_move_allowed, is_mover_allowed}
use Rattle.schedule_text.specs.Reading.{line_at, small_of, move_by, status_at, detail_at, refusal_at, mode_at}

abi_again : (abi : Abi) → cond (bytes_eq (abi_word abi) (codes "64")) X64 X32 ≡ abi
abi_again X64 = refl
abi_again X32 = refl

access_again : (b : Bool) → bytes_eq (access_word b) (codes "ro") ≡ b
access_again true = refl
access_again false = refl

detail_again : (d : Detail) → detail_at (detail_word d) ≡ d
detail_again Lines = refl
detail_again Moves = refl

status_again : (s : Status) → status_at (status_word s) ≡ s
status_again Okay = refl
status_again Error = refl
status_again Unsupported = refl

refusal_again : (r : Refusal) → refusal_at (refusal_word r) ≡ r
refusal_again refusal.Spent = refl
refusal_again refusal.NotReady = refl
refusal_again refusal.Closing = refl
refusal_again refusal.Unsupported = refl
refusal_again refusal.ReadOnly = refl
refusal_again refusal.Range = refl
refusal_again refusal.Long = refl
refusal_again refusal.Full = refl
refusal_again refusal.Buffers = refl

mode_again : (m : Mode) → mode_at (mode_word m) ≡ m
mode_again ReadOnly = refl
mode_again ReadWrite = refl

bounded : (n most : ℕ) → n ≤ most → most < 2 ^ 32 → min (number_of (decimal n) % 2 ^ 32) most ≡ n
bounded n most le small = rw (small_again n (omega arith)) (omega arith)

pub count_again : (c : ℕ) → IsCount c → max (number_of (decimal c) % 2 ^ 32) 1 ≡ c
count_again c is = rw (small_again c is.1) (omega arith)

halt_line_again : (halt : Halt) → HaltHasWidths halt → is_halt_allowed halt ≡ true → line_at (codes "halt" ∷ halt_words halt) ≡ lines.Halt halt
unfolding line_at
halt_line_again (halts.Overrun p r) h e = rw (small_again p h.0, small_again r h.1) refl
halt_line_again (halts.Gone s) h e = rw (small_again s h) refl
halt_line_again (halts.Unplugged s) h e = rw (small_again s h) refl
halt_line_again (halts.BadKey name) h e = rw (name_again name e).again refl
halt_line_again (halts.BadOrder s) h e = rw (small_again s h) refl
halt_line_again (halts.BadPort p) h e = rw (small_again p h) refl
halt_line_again (halts.MapRefused g s) h e = rw (small_again g h.0, signed_again s h.1) refl

submit_again : (id : ℕ) (job : Submission) → id < 2 ^ 64 → SubmissionHasWidths job → line_at (codes "submit" ∷ decimal id ∷ submission_words job) ≡ lines.Submit id job
unfolding line_at
submit_again id (submissions.Read s c) a h = rw (number_again id a, number_again s h.0, count_again c h.1) refl
submit_again id (submissions.Write s c t) a h = rw (number_again id a, number_again s h.0, count_again c h.1, hex_again t h.2) refl
submit_again id (submissions.Barrier s c t) a h = rw (number_again id a, number_again s h.0, count_again c h.1, hex_again t h.2) refl
submit_again id submissions.Flush a h = rw (number_again id a) refl
submit_again id (submissions.Discard s c) a h = rw (number_again id a, number_again s h.0, count_again c h.1) refl

-- ---- moves: who moves, and then what

by_mover : (who : Mover) (v : List ℕ) (vs : List (List ℕ)) → MoverHasWidths who → line_at (codes "m" ∷ (mover_words who ++ v ∷ vs)) ≡ lines.Move (move_by who (v ∷ vs))
unfolding line_at
by_mover mover.Front v vs h = refl
by_mover mover.Back v vs h = refl
by_mover (mover.Job k) v vs h = rw (number_again k h) refl

as_mover : BackMover → Mover
as_mover back_mover.Back = mover.Back
as_mover (back_mover.Job k) = mover.Job k

by_back : (who : BackMover) (v : List ℕ) (vs : List (List ℕ)) → BackHasWidths who → line_at (codes "m" ∷ (back_words who ++ v ∷ vs)) ≡ lines.Move (move_by (as_mover who) (v ∷ vs))
unfolding line_at as_mover
by_back back_mover.Back v vs h = refl
by_back (back_mover.Job k) v vs h = rw (number_again k h) refl

fence_by : (who : Mover) → move_by who (codes "fence" ∷ []) ≡ moves.Fence who
fence_by mover.Front = refl
fence_by mover.Back = refl
fence_by (mover.Job k) = refl

send_by : (who : Mover) → move_by who (codes "send" ∷ []) ≡ moves.Send who
send_by mover.Front = refl
send_by mover.Back = refl
send_by (mover.Job k) = refl

close_by : (who : Mover) → move_by who (codes "closeport" ∷ []) ≡ moves.ClosePort who
close_by mover.Front = refl
close_by mover.Back = refl
close_by (mover.Job k) = refl

event_by : (who : Mover) → move_by who (codes "event" ∷ []) ≡ moves.Event who
event_by mover.Front = refl
event_by mover.Back = refl
event_by (mover.Job k) = refl

watch_by : (who : Mover) (p : List ℕ) → move_by who (codes "watch" ∷ p ∷ []) ≡ moves.Watch who (text_in 80 p)
watch_by mover.Front p = refl
watch_by mover.Back p = refl
watch_by (mover.Job k) p = refl

watched_by : (who : Mover) (p : List ℕ) → move_by who (codes "watched" ∷ p ∷ []) ≡ moves.Watched who (text_in 80 p)
watched_by mover.Front p = refl
watched_by mover.Back p = refl
watched_by (mover.Job k) p = refl

get_none_by : (who : Mover) (p : List ℕ) → move_by who (codes "getkey" ∷ p ∷ []) ≡ moves.GetKey who (text_in 80 p) None
get_none_by mover.Front p = refl
get_none_by mover.Back p = refl
get_none_by (mover.Job k) p = refl

get_some_by : (who : Mover) (p t : List ℕ) → move_by who (codes "getkey" ∷ p ∷ (61 ∷ t) ∷ []) ≡ moves.GetKey who (text_in 80 p) (Some (text_in 64 t))
get_some_by mover.Front p t = refl
get_some_by mover.Back p t = refl
get_some_by (mover.Job k) p t = refl

set_by : (who : Mover) (p t : List ℕ) → move_by who (codes "setkey" ∷ p ∷ (61 ∷ t) ∷ []) ≡ moves.SetKey who (text_in 80 p) (text_in 64 t)
set_by mover.Front p t = refl
set_by mover.Back p t = refl
set_by (mover.Job k) p t = refl

read_by : (who : BackMover) (a b c d : List ℕ) → move_by (as_mover who) (codes "read" ∷ a ∷ b ∷ c ∷ d ∷ []) ≡ moves.Read who (number_of a) (small_of b) (small_of c) (hex_of d)
unfolding as_mover
read_by back_mover.Back a b c d = refl
read_by (back_mover.Job k) a b c d = refl

write_by : (who : BackMover) (a b c d : List ℕ) → move_by (as_mover who) (codes "write" ∷ a ∷ b ∷ c ∷ d ∷ []) ≡ moves.Write who (number_of a) (small_of b) (small_of c) (hex_of d)
unfolding as_mover
write_by back_mover.Back a b c d = refl
write_by (back_mover.Job k) a b c d = refl

map_by : (who : BackMover) (g m h f : List ℕ) → move_by (as_mover who) (codes "map" ∷ g ∷ m ∷ codes "ok" ∷ h ∷ f ∷ []) ≡ moves.Map who (small_of g) (mode_at m) (number_of h) (small_of f)
unfolding as_mover
map_by back_mover.Back g m h f = refl
map_by (back_mover.Job k) g m h f = refl

refused_by : (who : BackMover) (g m s : List ℕ) → move_by (as_mover who) (codes "map" ∷ g ∷ m ∷ codes "refused" ∷ s ∷ []) ≡ moves.MapRefused who (small_of g) (mode_at m) (signed_of s)
unfolding as_mover
refused_by back_mover.Back g m s = refl
refused_by (back_mover.Job k) g m s = refl

unmap_by : (who : BackMover) (h : List ℕ) → move_by (as_mover who) (codes "unmap" ∷ h ∷ []) ≡ moves.Unmap who (number_of h)
unfolding as_mover
unmap_by back_mover.Back h = refl
unmap_by (back_mover.Job k) h = refl

move_again : (m : Move) → MoveHasWidths m → is_move_allowed m ≡ true → line_at (codes "m" ∷ move_words m) ≡ lines.Move m
unfolding line_at
move_again (moves.FrontRead f w v) h e = rw (small_again f h.0, small_again w h.1, hex_again v h.2) refl
move_again (moves.FrontWrite f w v) h e = rw (small_again f h.0, small_again w h.1, hex_again v h.2) refl
move_again (moves.FrontCas f w o n s) h e = rw (small_again f h.0, small_again w h.1, hex_again o h.2, hex_again n h.3, hex_again s h.4) refl
move_again (moves.FrontPort p) h e = rw (small_again p h) refl
move_again (moves.Read who m f w v) h e = by_back who _ _ h.0 ∙ rw (read_by who (decimal m) (decimal f) (decimal w) (hex8 v), number_again m h.1, small_again f h.2, small_again w h.3, hex_again v h.4) refl
move_again (moves.Write who m f w v) h e = by_back who _ _ h.0 ∙ rw (write_by who (decimal m) (decimal f) (decimal w) (hex8 v), number_again m h.1, small_again f h.2, small_again w h.3, hex_again v h.4) refl
move_again (moves.Map who g mode m f) h e = by_back who _ _ h.0 ∙ rw (map_by who (decimal g) (mode_word mode) (decimal m) (decimal f), small_again g h.1, mode_again mode, number_again m h.2, small_again f h.3) refl
move_again (moves.MapRefused who g mode s) h e = by_back who _ _ h.0 ∙ rw (refused_by who (decimal g) (mode_word mode) (signed_decimal s), small_again g h.1, mode_again mode, signed_again s h.2) refl
move_again (moves.Unmap who m) h e = by_back who _ _ h.0 ∙ rw (unmap_by who (decimal m), number_again m h.1) refl
move_again (moves.Bind p) h e = rw (small_again p h) refl
move_again (moves.BindRefused p) h e = rw (small_again p h) refl
move_again (moves.DiskRead k s) h e = rw (number_again k h.0, number_again s h.1) refl
move_again (moves.DiskWrite k s) h e = rw (number_again k h.0, number_again s h.1) refl
move_again (moves.DiskFlush k) h e = rw (number_again k h) refl
move_again (moves.DiskTrim k s c) h e = rw (number_again k h.0, number_again s h.1, number_again c h.2) refl
move_again (moves.Fence who) h e = by_mover who _ _ h ∙ ap lines.Move (fence_by who)
move_again (moves.Send who) h e = by_mover who _ _ h ∙ ap lines.Move (send_by who)
move_again (moves.ClosePort who) h e = by_mover who _ _ h ∙ ap lines.Move (close_by who)
move_again (moves.Event who) h e = by_mover who _ _ h ∙ ap lines.Move (event_by who)
move_again (moves.Watch who path) h e =
    let t = both_true (is_mover_allowed who) (is_key_path path) e in
    by_mover who _ _ h ∙ rw (watch_by who path, (path_again path t.1).again) refl
move_again (moves.Watched who path) h e =
    let t = both_true (is_mover_allowed who) (is_key_path path) e in
    by_mover who _ _ h ∙ rw (watched_by who path, (path_again path t.1).again) refl
move_again (moves.GetKey who path None) h e =
    let t = both_true (is_mover_allowed who) (is_key_path path) e in
    by_mover who _ _ h ∙ rw (get_none_by who path, (path_again path t.1).again) refl
move_again (moves.GetKey who path (Some text)) h e =
    let t = both_true (is_mover_allowed who && is_key_path path) (is_key_text text) e in
    let u = both_true (is_mover_allowed who) (is_key_path path) t.0 in
    by_mover who _ _ h ∙ rw (get_some_by who path text, (path_again path u.1).again, (key_text_again text t.1).again) refl
move_again (moves.SetKey who path text) h e =
    let t = both_true (is_mover_allowed who && is_key_path path) (is_key_text text) e in
    let u = both_true (is_mover_allowed who) (is_key_path path) t.0 in
    by_mover who _ _ h ∙ rw (set_by who path text, (path_again path u.1).again, (key_text_again text t.1).again) refl

-- ---- lines

begin_again : (config : Options) (detail : Detail) → AreOptions config → line_at (words_of (lines.Begin config detail)) ≡ lines.Begin config detail
unfolding line_at
begin_again config detail h =
    rw (abi_again config.abi, bounded config.order 4 h.0 (omega arith), bounded config.persistent 1000 h.1 (omega arith), bounded config.indirect 960 h.2 (omega arith), small_again config.start h.3, access_again config.read_only, number_again config.sectors h.4, detail_again detail) refl

sector_line : (id index : ℕ) (words : List ℕ) → id < 2 ^ 64 → index < 2 ^ 32 → IsSector words →
    (line_at (words_of (lines.EffectRead id index words)) ≡ lines.EffectRead id index words) × (line_at (words_of (lines.Data id index words)) ≡ lines.Data id index words)
unfolding line_at
sector_line id index words a b is =
    let after = sector_after (decimal index) words is in
    (rw (after.0, after.1, number_again id a, small_again index b, sector_again words is) refl, rw (after.0, number_again id a, small_again index b, sector_again words is) refl)

-- the words of a line of the grammar say that line
pub line_again : (line : Line) → IsInRange line → line_at (words_of line) ≡ line
unfolding line_at
line_again (lines.Begin config detail) h = begin_again config detail h.widths
line_again lines.Ready h = refl
line_again lines.Closing h = refl
line_again lines.Closed h = refl
line_again (lines.Broken w) h = rw (hex_again w h.widths) refl
line_again (lines.Submit id submission) h = submit_again id submission h.widths.0 h.widths.1
line_again (lines.Refuse r) h = rw (refusal_again r) refl
line_again (lines.Effect id index) h = rw (number_again id h.widths.0, small_again index h.widths.1) refl
line_again (lines.EffectRead id index words) h = (sector_line id index words h.widths.0 h.widths.1 h.widths.2).0
line_again (lines.Flushed id) h = rw (number_again id h.widths) refl
line_again (lines.Trimmed id) h = rw (number_again id h.widths) refl
line_again (lines.Fault id index) h = rw (number_again id h.widths.0, small_again index h.widths.1) refl
line_again (lines.Reply id s) h = rw (number_again id h.widths, status_again s) refl
line_again (lines.Answer id s) h = rw (number_again id h.widths, status_again s) refl
line_again (lines.Data id index words) h = (sector_line id index words h.widths.0 h.widths.1 h.widths.2).1
line_again lines.Epoch h = refl
line_again (lines.Halt halt) h = halt_line_again halt h.widths h.allowed
line_again (lines.Poke f w v) h = rw (small_again f h.widths.0, small_again w h.widths.1, small_again v h.widths.2) refl
line_again (lines.Key name text) h =
    let t = both_true (is_key_name name) (is_key_text text) h.allowed in
    rw ((name_again name t.0).again, (key_text_again text t.1).again) refl
line_again lines.Quiet h = refl
line_again lines.Busy h = refl
line_again lines.Unsettled h = refl
line_again (lines.Word f w v) h = rw (small_again f h.widths.0, small_again w h.widths.1, hex_again v h.widths.2) refl
line_again lines.End h = refl
line_again (lines.Move m) h = move_again m h.widths h.allowed
