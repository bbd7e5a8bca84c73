-- What happens before a hostile hand first touches anything is settled, as the machine of the ring sees it, where each of its settlings ends in quiet.
use Rattle.std.proofs.Common.{◌≡◌, ◌&&◌, Bool, true, false, List, [], ◌∷◌, ◌++◌, map, refl, if◌then◌else◌}
use Rattle.std.specs.List.{list_all}
use Rattle.line_text.proofs.Both.{both_true}
use Rattle.blk_base.specs.declared.parts.End.{End}
use Rattle.blk_base.specs.declared.parts.End.TheVariants as end
use Rattle.split_model.specs.Keys.{KeyMove}
use Rattle.split_model.specs.Happening as ring
use Rattle.split_model.specs.Honest.{honest_history}
use Rattle.report_laws.specs.Settled.{ends_quiet, AreSettled}
use Rattle.vbd_back.specs.Ask as back
use Rattle.vbd_front.specs.Ask as front
use Rattle.vbd_model.specs.World.{World}
use Rattle.vbd_model.specs.Happening.{Happening, FrontMoves, BackMoves, JobMoves, Closes, Pokes, OverwritesKey, Settles, front_turn, back_turn, entered_at, halted_at, front_key, back_key, is_fronts_ring, is_backs_ring, attaches, back_negotiates, does, happens, all_does}
use Rattle.vbd_laws.proofs.MovesTurns.{front_asks, back_asks, back_learns}

-- settling ended in quiet, where this is its end
abbrev pub ends_at : Happening → Bool
ends_at (Settles quiet) = quiet
ends_at h = true

-- so each of them did, up to the first word or key that is overwritten
abbrev pub ends_until : List Happening → Bool
ends_until [] = true
ends_until (Pokes frame word value ∷ hs) = true
ends_until (OverwritesKey name text ∷ hs) = true
ends_until (h ∷ hs) = ends_at h && ends_until hs

-- it is one to the machine of the ring where each of its parts is
told_settled : {S : Type 0} (tell : S → ring.Happening) (told : List S) → ((s : S) → ends_quiet (tell s) ≡ true) → AreSettled (map tell told)
told_settled tell [] each = refl
told_settled tell (s ∷ told) each = rw (each s, told_settled tell told each) refl

move_settled : {S : Type 0} (moves speaks : Bool) (move : ring.Happening) (at : End) (key : KeyMove) (tell : S → ring.Happening) (told : List S) → ends_quiet move ≡ true → ((s : S) → ends_quiet (tell s) ≡ true)
    → AreSettled (if moves then move ∷ [] else ring.Negotiates at key ∷ (if speaks then map tell told else []))
move_settled true speaks move at key tell told is each = rw is refl
move_settled false true move at key tell told is each = told_settled tell told each
move_settled false false move at key tell told is each = refl

back_settled : (w : World) (moves takes : Bool) → AreSettled (if moves then ring.BackMoves ∷ [] else back_negotiates takes w (back_learns w))
back_settled w true takes = refl
back_settled w false true = refl
back_settled w false false =
    move_settled false (back.bus_moves (back_asks w) w.rings.back.stage) ring.BackMoves end.Back (back_key (back_asks w)) ring.BackHalts (halted_at w (back_turn w)) refl (λ s. refl)

closes_settled : (w : World) (at : End) → AreSettled (does w (Closes at))
closes_settled w end.Front = refl
closes_settled w end.Back = refl

does_settled : (w : World) (h : Happening) → ends_at h ≡ true → AreSettled (does w h)
does_settled w FrontMoves ends =
    move_settled (is_fronts_ring w) (front.speaks (front_asks w)) ring.FrontMoves end.Front (front_key (front_asks w)) ring.FrontEnters (entered_at w (front_turn w)) refl (λ s. refl)
does_settled w BackMoves ends = back_settled w (is_backs_ring w) (attaches w (back_learns w))
does_settled w (Closes at) ends = closes_settled w at
does_settled w (Settles quiet) ends = rw ends refl
does_settled w h ends = refl

settled_then : (hs rest : List ring.Happening) → AreSettled hs → AreSettled (honest_history rest) → AreSettled (honest_history (hs ++ rest))
settled_then [] rest are later = later
settled_then (ring.Pokes frame word value ∷ hs) rest are later = refl
settled_then (ring.OverwritesKey name text ∷ hs) rest are later = refl
settled_then (h ∷ hs) rest are later =
    let both = both_true (ends_quiet h) (list_all ends_quiet hs) are in
    rw (both.0, settled_then hs rest both.1 later) refl

pub until_settled : (hs : List Happening) (w : World) → ends_until hs ≡ true → AreSettled (honest_history (all_does hs w))
until_settled [] w ends = refl
until_settled (Pokes frame word value ∷ hs) w ends = refl
until_settled (OverwritesKey name text ∷ hs) w ends = refl
until_settled (h ∷ hs) w ends =
    let both = both_true (ends_at h) (ends_until hs) ends in
    settled_then (does w h) (all_does hs (happens w h)) (does_settled w h both.0) (until_settled hs (happens w h) both.1)

-- happenings that are moves alone
abbrev pub is_move : Happening → Bool
is_move FrontMoves = true
is_move BackMoves = true
is_move (JobMoves number outcome) = true
is_move h = false
