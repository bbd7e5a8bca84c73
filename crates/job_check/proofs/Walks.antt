-- How far a job came: a work that goes on leaves it where it was, and a move takes it on as the rule says.
use Rattle.std.proofs.Common.{◌≡◌, ℕ, Bool, true, false, if◌then◌else◌, List, [], ◌∷◌, refl, ap, ◌∙◌}
use Rattle.std.specs.Prelude.{fold, slice_get, Option, Some, None}
use Rattle.blk_base.specs.declared.moves.Move.{Move}
use Rattle.schedule_text.specs.declared.line.Line.{Line}
use Rattle.report_rules.specs.declared.walk.Spot.{Spot}
use Rattle.report_rules.specs.declared.work.Task.{Task}
use Rattle.report_rules.specs.Step.{job_step}
use Rattle.report_rules.specs.Walk.{spot, spot_in, advanced, walked, walk_of}
use Rattle.job_check.proofs.Works.{Extends}

in_more : (persistent : Bool) (done place : ℕ) (a b : Option Task) (mapping : Option ℕ) (move : Move) (q : Spot) → ((t : Task) → a ≡ Some t → b ≡ Some t) → spot_in persistent done a place mapping move ≡ Some q → spot_in persistent done b place mapping move ≡ Some q
in_more persistent done place None b mapping move q more e = absurd (cc)
in_more persistent done place (Some t) b mapping move q more e = ap (λ (o : Option Task). spot_in persistent done o place mapping move) (more t refl) ∙ e

pub advanced_more : (persistent : Bool) (work more : List Task) (move : Move) (s q : Spot) → Extends work more → advanced persistent work move s ≡ Some q → advanced persistent more move s ≡ Some q
advanced_more persistent work more move s q extends e = by_refused s.refused e
  where
    by_refused : (r : Bool) → (if r then None else spot_in persistent s.done (slice_get work s.done) s.place s.mapping move) ≡ Some q → (if r then None else spot_in persistent s.done (slice_get more s.done) s.place s.mapping move) ≡ Some q
    by_refused true h = absurd (cc)
    by_refused false h = in_more persistent s.done s.place (slice_get work s.done) (slice_get more s.done) s.mapping move q (extends s.done) h

pub walked_grows : (persistent : Bool) (work more : List Task) (move : Option Move) (s : Option Spot) (q : Spot) → Extends work more → walked persistent work move s ≡ Some q → walked persistent more move s ≡ Some q
walked_grows persistent work more None s q extends e = e
walked_grows persistent work more (Some move) None q extends e = absurd (cc)
walked_grows persistent work more (Some move) (Some s) q extends e = advanced_more persistent work more move s q extends e

walked_none : (persistent : Bool) (work : List Task) (move : Option Move) → walked persistent work move None ≡ None
walked_none persistent work None = refl
walked_none persistent work (Some move) = refl

walk_none : (persistent : Bool) (work : List Task) (k : ℕ) (xs : List Line) → fold (λ (o : Option Spot) (x : Line). walked persistent work (job_step k x) o) None xs ≡ None
walk_none persistent work k [] = refl
walk_none persistent work k (x ∷ xs) = rw (walked_none persistent work (job_step k x)) (walk_none persistent work k xs)

walk_go : (persistent : Bool) (work more : List Task) (k : ℕ) (xs : List Line) (s : Option Spot) (q : Spot) → Extends work more
    → fold (λ (o : Option Spot) (x : Line). walked persistent work (job_step k x) o) s xs ≡ Some q → fold (λ (o : Option Spot) (x : Line). walked persistent more (job_step k x) o) s xs ≡ Some q
walk_go persistent work more k [] s q extends e = e
walk_go persistent work more k (x ∷ xs) s q extends e = by_first (walked persistent work (job_step k x) s) refl e (λ t. walk_go persistent work more k xs t q extends)
  where
    by_first : (t : Option Spot) → walked persistent work (job_step k x) s ≡ t → fold (λ (o : Option Spot) (y : Line). walked persistent work (job_step k y) o) t xs ≡ Some q
        → ((t : Option Spot) → fold (λ (o : Option Spot) (y : Line). walked persistent work (job_step k y) o) t xs ≡ Some q → fold (λ (o : Option Spot) (y : Line). walked persistent more (job_step k y) o) t xs ≡ Some q)
        → fold (λ (o : Option Spot) (y : Line). walked persistent more (job_step k y) o) (walked persistent more (job_step k x) s) xs ≡ Some q
    by_first None is h rest = absurd (let none = walk_none persistent work k xs in cc)
    by_first (Some t) is h rest = ap (λ (o : Option Spot). fold (λ (p : Option Spot) (y : Line). walked persistent more (job_step k y) p) o xs) (walked_grows persistent work more (job_step k x) s t extends is) ∙ rest (Some t) h

pub walk_grows : (persistent : Bool) (work more : List Task) (k : ℕ) (xs : List Line) (q : Spot) → Extends work more → walk_of persistent work k xs ≡ Some q → walk_of persistent more k xs ≡ Some q
walk_grows persistent work more k xs q extends e = walk_go persistent work more k xs (Some (spot 0 0 false None)) q extends e
