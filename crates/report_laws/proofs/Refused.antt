-- Wrong reports that the rules refuse.
use Rattle.std.proofs.Common.{◌≡◌, ◌⊎◌, ℕ, ◌+◌, ◌%◌, ◌^◌, ◌≤◌, ◌<◌, inl, inr, true, false, List, [], ◌∷◌, refl, ap, sym, subst, arith, true≢false}
use Rattle.std.specs.Prelude.{All, codes}
use Rattle.std.specs.List.{list_any}
use Rattle.std.proofs.lemmas.List.Elements.{recursion_from_All}
use Rattle.blk_base.specs.Options.{Options}
use Rattle.blk_base.specs.declared.operation.Status.{Status}
use Rattle.blk_base.specs.declared.moves.Move.{Move}
use Rattle.blk_base.specs.declared.moves.Move.TheVariants.{FrontWrite, FrontPort, SetKey}
use Rattle.blk_base.specs.declared.moves.Mover.TheVariants.{Front, Back}
use Rattle.schedule_text.specs.declared.line.Detail.{Detail}
use Rattle.schedule_text.specs.declared.line.Detail.TheVariants.{Lines, Moves}
use Rattle.schedule_text.specs.declared.line.Line.{Line}
use Rattle.schedule_text.specs.declared.line.Line.TheVariants as lines
use Rattle.schedule_text.specs.Range.{IsInRange}
use Rattle.report_laws.specs.Begun.{is_begin, is_move, IsBegun}
use Rattle.report_laws.specs.Ready.{IsReadyFirst}
use Rattle.report_laws.specs.QuietRing.{IsQuietRing, IsServedRing}
use Rattle.report_laws.specs.States.{front_state, back_state, SayBoth, says_closing, AreStatesAgreed}
use Rattle.report_laws.specs.Ports.{AreFewPorts}
use Rattle.report_laws.specs.Grammar.{AreInGrammar}

-- what stands after the first line
second : (P : Line → Type 0) (a b : Line) (rest : List Line) (first : Line) → first ∷ a ∷ [] ≡ b ∷ rest → All P rest → P a
second P a b rest first e all =
    let tails : a ∷ [] ≡ rest = cc in
    (recursion_from_All P (a ∷ []) (subst (All P) (sym tails) all)).0

pub begun_twice : (config : Options) (detail : Detail) → IsBegun config detail (lines.Begin config detail ∷ lines.Begin config detail ∷ []) → ⊥
begun_twice config detail h = true≢false (second (λ (line : Line). is_begin line ≡ false) (lines.Begin config detail) (lines.Begin config detail) h.rest (lines.Begin config detail) h.first h.once)

pub moved : (config : Options) (move : Move) → IsBegun config Lines (lines.Begin config Lines ∷ lines.Move move ∷ []) → ⊥
moved config move h = true≢false (second (λ (line : Line). is_move line ≡ false) (lines.Move move) (lines.Begin config Lines) h.rest (lines.Begin config Lines) h.first (h.unmoved refl))

pub ready_late : (config : Options) (detail : Detail) → IsReadyFirst (lines.Begin config detail ∷ lines.Quiet ∷ lines.Ready ∷ []) → ⊥
ready_late config detail h = by_outcome (h (lines.Begin config detail ∷ []) (lines.Ready ∷ []) lines.Quiet refl)
  where
    by_outcome : (false ≡ true) ⊎ (false ≡ true) → ⊥
    by_outcome (inl ready) = true≢false (sym ready)
    by_outcome (inr over) = true≢false (sym over)

pub unserved : (config : Options) → IsQuietRing (lines.Begin config Moves ∷ lines.Ready ∷ lines.Move (FrontWrite 2 0 1) ∷ lines.Quiet ∷ []) → ⊥
unserved config h =
    let is : IsServedRing (lines.Begin config Moves ∷ lines.Ready ∷ lines.Move (FrontWrite 2 0 1) ∷ []) = h (lines.Begin config Moves ∷ lines.Ready ∷ lines.Move (FrontWrite 2 0 1) ∷ []) [] lines.Quiet refl refl in
    let served : ◌≡◌ {A = ℕ} 1 0 = is.served in
    omega arith

pub unread : (config : Options) → config.start ≡ 0 → IsQuietRing (lines.Begin config Moves ∷ lines.Ready ∷ lines.Move (FrontWrite 2 0 1) ∷ lines.Move (FrontWrite 2 2 1) ∷ lines.Quiet ∷ []) → ⊥
unread config start h =
    let before : List Line = lines.Begin config Moves ∷ lines.Ready ∷ lines.Move (FrontWrite 2 0 1) ∷ lines.Move (FrontWrite 2 2 1) ∷ [] in
    let is : IsServedRing before = h before [] lines.Quiet refl refl in
    let read : 1 ≡ (config.start + 0) % 2 ^ 32 = is.read in
    omega arith

pub connected_alone : (config : Options) → AreStatesAgreed (lines.Begin config Moves ∷ lines.Move (SetKey Front front_state (codes "4")) ∷ lines.Ready ∷ lines.Quiet ∷ []) → ⊥
connected_alone config h = by_states (h before [] lines.Quiet refl)
  where
    before : List Line
    before = lines.Begin config Moves ∷ lines.Move (SetKey Front front_state (codes "4")) ∷ lines.Ready ∷ []

    first : List ℕ → ℕ
    first [] = 0
    first (n ∷ ns) = n

    by_states : SayBoth (codes "4") before ⊎ (SayBoth (codes "6") before × (list_any says_closing before ≡ true)) → ⊥
    by_states (inl both) = let back : ◌≡◌ {A = ℕ} 49 52 = ap first both.back in omega arith
    by_states (inr closed) = let back : ◌≡◌ {A = ℕ} 49 54 = ap first (let both : SayBoth (codes "6") before = closed.0 in both.back) in omega arith

pub closed_unsaid : (config : Options) → AreStatesAgreed (lines.Begin config Moves ∷ lines.Move (SetKey Back back_state (codes "6")) ∷ lines.Move (SetKey Front front_state (codes "6")) ∷ lines.Closed ∷ lines.Quiet ∷ []) → ⊥
closed_unsaid config h = by_states (h before [] lines.Quiet refl)
  where
    before : List Line
    before = lines.Begin config Moves ∷ lines.Move (SetKey Back back_state (codes "6")) ∷ lines.Move (SetKey Front front_state (codes "6")) ∷ lines.Closed ∷ []

    first : List ℕ → ℕ
    first [] = 0
    first (n ∷ ns) = n

    by_states : SayBoth (codes "4") before ⊎ (SayBoth (codes "6") before × (list_any says_closing before ≡ true)) → ⊥
    by_states (inl both) = let back : ◌≡◌ {A = ℕ} 54 52 = ap first both.back in omega arith
    by_states (inr closed) = true≢false (sym closed.1)

pub ready_before : (config : Options) (detail : Detail) → IsReadyFirst (lines.Begin config detail ∷ lines.Ready ∷ lines.Epoch ∷ lines.Quiet ∷ []) → ⊥
ready_before config detail h = by_outcome (h (lines.Begin config detail ∷ lines.Ready ∷ lines.Epoch ∷ []) [] lines.Quiet refl)
  where
    by_outcome : (false ≡ true) ⊎ (false ≡ true) → ⊥
    by_outcome (inl ready) = true≢false (sym ready)
    by_outcome (inr over) = true≢false (sym over)

pub answered_before : (config : Options) (status : Status) → config.start ≡ 0
    → IsQuietRing (lines.Begin config Moves ∷ lines.Ready ∷ lines.Answer 1 status ∷ lines.Epoch ∷ lines.Ready ∷ lines.Move (FrontWrite 2 0 1) ∷ lines.Move (FrontWrite 2 2 1) ∷ lines.Quiet ∷ []) → ⊥
answered_before config status start h =
    let before : List Line = lines.Begin config Moves ∷ lines.Ready ∷ lines.Answer 1 status ∷ lines.Epoch ∷ lines.Ready ∷ lines.Move (FrontWrite 2 0 1) ∷ lines.Move (FrontWrite 2 2 1) ∷ [] in
    let is : IsServedRing before = h before [] lines.Quiet refl refl in
    let read : 1 ≡ (config.start + 0) % 2 ^ 32 = is.read in
    omega arith

pub connected_before : (config : Options)
    → AreStatesAgreed (lines.Begin config Moves ∷ lines.Move (SetKey Front front_state (codes "4")) ∷ lines.Move (SetKey Back back_state (codes "4")) ∷ lines.Ready ∷ lines.Epoch ∷ lines.Ready ∷ lines.Quiet ∷ []) → ⊥
connected_before config h = by_states (h before [] lines.Quiet refl)
  where
    before : List Line
    before = lines.Begin config Moves ∷ lines.Move (SetKey Front front_state (codes "4")) ∷ lines.Move (SetKey Back back_state (codes "4")) ∷ lines.Ready ∷ lines.Epoch ∷ lines.Ready ∷ []

    first : List ℕ → ℕ
    first [] = 0
    first (n ∷ ns) = n

    by_states : SayBoth (codes "4") before ⊎ (SayBoth (codes "6") before × (list_any says_closing before ≡ true)) → ⊥
    by_states (inl both) = let back : ◌≡◌ {A = ℕ} 49 52 = ap first both.back in omega arith
    by_states (inr closed) = true≢false (sym closed.1)

pub five_ports : (config : Options) → AreFewPorts (lines.Begin config Moves ∷ lines.Move (FrontPort 1) ∷ lines.Move (FrontPort 2) ∷ lines.Move (FrontPort 3) ∷ lines.Move (FrontPort 4) ∷ lines.Move (FrontPort 5) ∷ []) → ⊥
five_ports config h =
    let before : List Line = lines.Begin config Moves ∷ lines.Move (FrontPort 1) ∷ lines.Move (FrontPort 2) ∷ lines.Move (FrontPort 3) ∷ lines.Move (FrontPort 4) ∷ [] in
    let few : 4 < 4 = h before [] (lines.Move (FrontPort 5)) refl in
    omega arith

pub out_of_range : (id : ℕ) (status : Status) → 2 ^ 64 ≤ id → AreInGrammar (lines.Answer id status ∷ []) → ⊥
out_of_range id status far h =
    let widths = (recursion_from_All IsInRange (lines.Answer id status ∷ []) h).0.widths in
    omega arith
