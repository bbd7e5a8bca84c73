use Rattle.std.proofs.Common.{◌≡◌, fold, take, None, Some, if◌then◌else◌, Option, List, ℕ, ◌==◌, ◌&&◌}
use Rattle.plain_disk.specs.declared.request.Noted.{Noted}
use Rattle.plain_disk.proofs.looking.noted_at.Given as goal

-- what was noted so far
abbrev pub invariant-loop-n : goal.invariant-loop-n
invariant-loop-n l = l.words ≡ fold (λ (words : Option (List ℕ)) (n : Noted). if n.id == l.id && n.index == l.index then Some n.words else words) None (take l.n-index l.noted)
