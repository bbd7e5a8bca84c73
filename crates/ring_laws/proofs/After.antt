-- What each happening keeps, all of them keep.
use Rattle.std.proofs.Common.{◌≡◌, ◌<◌, ◌^◌, List, [], ◌∷◌, ◌++◌, sym, subst, append_assoc, append-nil, arith}
use Rattle.schedule_text.specs.declared.line.Line.{Line}
use Rattle.split_model.specs.World.{World}
use Rattle.ring_laws.proofs.BackReads.{reads_of, reads_append}
use Rattle.split_model.specs.Happening.{Happening, happens, lines_at, after, lines_of}

-- what the lines so far tell of the machine, while fewer than 2^64 of them show a word that the back read
pub kept_after : (tells : List Line → World → Type 0) → ((w : World) (h : Happening) (before : List Line) → tells before w → reads_of (before ++ lines_at w h) < 2 ^ 64 → tells (before ++ lines_at w h) (happens w h))
    → (hs : List Happening) (w : World) (before : List Line) → tells before w → reads_of (before ++ lines_of hs w) < 2 ^ 64 → tells (before ++ lines_of hs w) (after hs w)
kept_after tells kept [] w before t few = subst (λ (ls : List Line). tells ls w) (sym (append-nil before)) t
kept_after tells kept (h ∷ hs) w before t few =
    let joined : (before ++ lines_at w h) ++ lines_of hs (happens w h) ≡ before ++ (lines_at w h ++ lines_of hs (happens w h)) = append_assoc before (lines_at w h) (lines_of hs (happens w h)) in
    let all : reads_of ((before ++ lines_at w h) ++ lines_of hs (happens w h)) < 2 ^ 64 = subst (λ (ls : List Line). reads_of ls < 2 ^ 64) (sym joined) few in
    let long = reads_append (before ++ lines_at w h) (lines_of hs (happens w h)) in
    let some : reads_of (before ++ lines_at w h) < 2 ^ 64 = omega arith in
    subst (λ (ls : List Line). tells ls (after hs (happens w h))) joined
    (kept_after tells kept hs (happens w h) (before ++ lines_at w h) (kept w h before t some) all)
