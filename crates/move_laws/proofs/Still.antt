-- Lines that change neither memory nor mappings.
use Rattle.std.proofs.Common.{◌≡◌, ℕ, Bool, true, false, not, List, [], ◌∷◌, ◌++◌, map, filter, refl, ap, sym, ◌∙◌, subst, append_assoc}
use Rattle.std.specs.Prelude.{None}
use Rattle.std.specs.List.{AllByRecursion}
use Rattle.std.proofs.lemmas.List.{append-nil}
use Rattle.blk_base.specs.declared.moves.Move.TheVariants as moves
use Rattle.grant_table.specs.Table.{GrantTable}
use Rattle.schedule_text.specs.declared.line.Line.{Line}
use Rattle.schedule_text.specs.declared.line.Line.TheVariants as lines
use Rattle.report_rules.specs.declared.standing.Standing.{Standing}
use Rattle.report_rules.specs.Standing.{is_epoch, is_unmap_of, mapping_made}
use Rattle.report_rules.specs.Value.{value_after}
use Rattle.report_rules.proofs.Obeys.{obeys_more}
use Rattle.split_model.specs.Happening.{Happening, FrontMoves, BackMoves, JobMoves, Pokes, Suspends, Dumps}
use Rattle.split_model.proofs.Showing.{IsTold, MayShow}
use Rattle.move_laws.specs.Tells.{Tells, standing_of}
use Rattle.move_laws.proofs.Follows.{IsAllowed, Follows}
use Rattle.move_laws.proofs.Standing.{filter_none, filter_same}
use Rattle.move_laws.proofs.Tells.{tells_more}

pub record IsStill (line : Line) : Type 0 where
  pub same_epoch : is_epoch line ≡ false
  pub value : (frame word value : ℕ) (before : List Line) → value_after (record { frame = frame; word = word }) value before line ≡ value
  pub none_gone : (number : ℕ) → is_unmap_of number line ≡ false
  pub none_made : mapping_made line ≡ None

pub still : (line : Line) → is_epoch line ≡ false → ((frame word value : ℕ) (before : List Line) → value_after (record { frame = frame; word = word }) value before line ≡ value) → ((number : ℕ) → is_unmap_of number line ≡ false) → mapping_made line ≡ None → IsStill line
still line e v g m = record { same_epoch = e; value = v; none_gone = g; none_made = m }

-- where no mapping goes, all are kept
pub none_goes : (line : Line) (standing : List Standing) → ((number : ℕ) → is_unmap_of number line ≡ false) → filter (λ (s : Standing). not (is_unmap_of s.number line)) standing ≡ standing
none_goes line standing gone = filter_same (λ (s : Standing). not (is_unmap_of s.number line)) (λ (s : Standing). true) (λ s. ap (λ (b : Bool). not b) (gone s.number)) standing ∙ filter_none standing

pub tells_still : (before : List Line) (line : Line) (pages : List ℕ) (table : GrantTable) → IsStill line → Tells before pages table → Tells (before ++ line ∷ []) pages table
tells_still before line pages table s tells =
    tells_more before line pages pages table table tells s.same_epoch tells.sized
    (λ frame word framed worded. s.value frame word _ before)
    (rw (s.none_made, none_goes line (map standing_of table.live) s.none_gone) (append-nil (map standing_of table.live)))
    (rw s.none_made refl)
    tells.grantable

-- a line that the rules allow wherever it stands
pub record IsPlain (line : Line) : Type 0 where
  pub is_still : IsStill line
  pub free : (before : List Line) → IsAllowed before line

abbrev pub ArePlain : List Line → Type 0
ArePlain ls = AllByRecursion IsPlain ls

-- what a happening shows that changes neither memory nor mappings, and what a move tells
abbrev ShowsApart : Happening → Line → Type 0
ShowsApart FrontMoves line = IsTold line
ShowsApart BackMoves line = IsTold line
ShowsApart (JobMoves number outcome) line = IsTold line
ShowsApart (Pokes frame word value) line = ⊥
ShowsApart Suspends line = ⊥
ShowsApart Dumps line = ⊥
ShowsApart h line = Unit {0}

pub shown_plain : (h : Happening) (line : Line) → ShowsApart h line → MayShow h line → IsPlain line
shown_plain Dumps line so shows = absurd so
shown_plain h (lines.Move (moves.FrontRead frame word value)) so shows = absurd (assumption)
shown_plain h (lines.Move (moves.FrontWrite frame word value)) so shows = absurd (assumption)
shown_plain h (lines.Move (moves.FrontCas frame word old new seen)) so shows = absurd (assumption)
shown_plain h (lines.Move (moves.Read who m frame word value)) so shows = absurd (assumption)
shown_plain h (lines.Move (moves.Write who m frame word value)) so shows = absurd (assumption)
shown_plain h (lines.Move (moves.Map who gref mode m frame)) so shows = absurd (assumption)
shown_plain h (lines.Move (moves.MapRefused who gref mode status)) so shows = absurd (assumption)
shown_plain h (lines.Move (moves.Unmap who m)) so shows = absurd (assumption)
shown_plain h lines.Epoch so shows = absurd (assumption)
shown_plain h (lines.Poke frame word value) so shows = absurd (assumption)
shown_plain h (lines.Word frame word value) so shows = absurd (assumption)
shown_plain h line so shows = record { is_still = still line refl (λ f w v b. refl) (λ n. refl) refl; free = λ b. record { coherent = tt; answered = tt; numbered = tt; touched = tt; grantable = tt } }

-- one line more
pub follow_one : (before : List Line) (line : Line) (pages pages' : List ℕ) (table table' : GrantTable) → Follows before pages table → IsAllowed before line → Tells (before ++ line ∷ []) pages' table' → Follows (before ++ line ∷ []) pages' table'
follow_one before line pages pages' table table' follows allowed tells = record { obeys = obeys_more IsAllowed before line follows.obeys allowed; tells = tells }

-- and lines that they allow wherever they stand
pub follow_plain : (more before : List Line) (pages : List ℕ) (table : GrantTable) → ArePlain more → Follows before pages table → Follows (before ++ more) pages table
follow_plain [] before pages table plain follows = subst (λ (ls : List Line). Follows ls pages table) (sym (append-nil before)) follows
follow_plain (line ∷ more) before pages table plain follows =
    let one : Follows (before ++ line ∷ []) pages table = follow_one before line pages pages table table follows (plain.0.free before) (tells_still before line pages table plain.0.is_still follows.tells) in
    subst (λ (ls : List Line). Follows ls pages table) (append_assoc before (line ∷ []) more) (follow_plain more (before ++ line ∷ []) pages table plain.1 one)
