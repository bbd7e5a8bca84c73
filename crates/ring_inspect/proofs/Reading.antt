-- A source's bytes, read piece by piece.
use Rattle.std.proofs.Common.{◌≡◌, ℕ, ◌+◌, ◌<◌, ◌≤◌, ◌≢◌, List, [], ◌++◌, Option, Some, None, length, take, drop, refl, sym, ap, ◌∙◌, subst, arith, length-append, append_assoc, append-nil}
use Rattle.std.proofs.lemmas.List.{take-append-drop}
use Rattle.blk_io.specs.Outside.{SourceSeen, IsRead, GivesBytes}
use Rattle.ring_inspect.specs.Stop.{AreAll, IsCount, GivesRing, GivesNoRing}

-- these bytes were read, and the rest is left
abbrev pub SoFar : Option (List ℕ) → Option (List ℕ) → List ℕ → Type 0
SoFar None now done = now ≡ None
SoFar (Some all) now done = (rest : List ℕ) × (all ≡ done ++ rest) × (now ≡ Some rest)

so_far_none : (left : Option (List ℕ)) (done : List ℕ) → done ≡ [] → SoFar left left done
so_far_none None done e = refl
so_far_none (Some all) done e = (all, rw e refl, refl)

so_far_more : (left now after : Option (List ℕ)) (done buffer : List ℕ) (n : ℕ) → SoFar left now done → IsRead n now after buffer → SoFar left after (done ++ take n buffer)
so_far_more None now after done buffer n s r = subst (λ h. IsRead n h after buffer) s r
so_far_more (Some all) now after done buffer n s r =
    let t = subst (λ h. IsRead n h after buffer) s.2 r in
    let rest = s.0 in
    let parts : all ≡ (done ++ take n buffer) ++ drop n rest =
    s.1 ∙ (ap (λ b. done ++ b) (sym (take-append-drop n rest)) ∙ (sym (append_assoc done (take n rest) (drop n rest)) ∙ ap (λ b. (done ++ b) ++ drop n rest) (sym t.1))) in
    (drop n rest, parts, t.2)

so_far_all : (left now after : Option (List ℕ)) (done buffer : List ℕ) (n : ℕ) → n ≡ 0 → 0 < length buffer → SoFar left now done → IsRead n now after buffer → AreAll left done
so_far_all None now after done buffer n e some s r = tt
so_far_all (Some all) now after done buffer n e some s r =
    let t = subst (λ h. IsRead n h after buffer) s.2 r in
    s.1 ∙ (ap (λ b. done ++ b) (t.3 e some) ∙ append-nil done)

counts_more : (left now : Option (List ℕ)) (done : List ℕ) (size : ℕ) → SoFar left now done → size < length done → IsCount left size (size + 1)
counts_more None now done size s lt = tt
counts_more (Some all) now done size s lt =
    let long : length all ≡ length done + length s.0 = ap length s.1 ∙ length-append done s.0 in omega arith

counts_all : (left : Option (List ℕ)) (done : List ℕ) (size : ℕ) → AreAll left done → length done ≤ size → IsCount left size (length done)
counts_all None done size s le = tt
counts_all (Some all) done size s le =
    let long : length all ≡ length done = ap length s in omega arith

-- these bytes of a source were read so far
pub record HasRead (done : List ℕ) (a b : SourceSeen) : Type 0 where
  pub so_far : SoFar a.left b.left done
  pub faults : b.faults ≡ a.faults

pub read_none : (a : SourceSeen) (done : List ℕ) → done ≡ [] → HasRead done a a
read_none a done none = record { so_far = so_far_none a.left done none; faults = refl }

pub read_more : (n : ℕ) (done buffer : List ℕ) (a b c : SourceSeen) → HasRead done a b → GivesBytes n buffer b c → HasRead (done ++ take n buffer) a c
read_more n done buffer a b c p q = record { so_far = so_far_more a.left b.left c.left done buffer n p.so_far q.read; faults = q.faults ∙ p.faults }

-- more bytes than a ring has
pub read_too_many : (size : ℕ) (done : List ℕ) (a b : SourceSeen) → size < length done → HasRead done a b → GivesNoRing size (size + 1) a b
read_too_many size done a b lt p = record { other = omega arith; count_is = counts_more a.left b.left done size p.so_far lt; faults = p.faults }

-- all bytes were read
pub record HasReadAll (done : List ℕ) (a b : SourceSeen) : Type 0 where
  pub all : AreAll a.left done
  pub faults : b.faults ≡ a.faults

pub read_all : (n : ℕ) (done buffer : List ℕ) (a b c : SourceSeen) → n ≡ 0 → 0 < length buffer → HasRead done a b → GivesBytes n buffer b c → HasReadAll done a c
read_all n done buffer a b c none some p q = record { all = so_far_all a.left b.left c.left done buffer n none some p.so_far q.read; faults = q.faults ∙ p.faults }

pub read_ring : (size : ℕ) (done : List ℕ) (a b : SourceSeen) → length done ≡ size → HasReadAll done a b → GivesRing size done a b
read_ring size done a b long p = record { long = long; all = p.all; faults = p.faults }

pub read_too_few : (size : ℕ) (done : List ℕ) (a b : SourceSeen) → length done ≤ size → length done ≢ size → HasReadAll done a b → GivesNoRing size (length done) a b
read_too_few size done a b few other p = record { other = other; count_is = counts_all a.left done size p.all few; faults = p.faults }
