-- The mappings that stand by the lines are those that live, whatever happens; so the mapping in a job's hand stands.
use Rattle.std.proofs.Common.{◌≡◌, ℕ, ◌+◌, ◌==◌, Bool, true, false, not, if◌then◌else◌, List, [], ◌∷◌, ◌++◌, map, filter, refl, ap, sym, ◌∙◌, subst, append_assoc, append-nil}
use Rattle.std.specs.Prelude.{Option, Some, None, IsSomeAnd, Contains, slice_get, Ok}
use Rattle.std.specs.Option.{option_to_list, option_map}
use Rattle.std.proofs.lemmas.Option.{none-some}
use Rattle.std.proofs.lemmas.List.{map-append}
use Rattle.std.proofs.lemmas.List.Elements.{All-contains}
use Rattle.blk_base.specs.declared.parts.Mapping.{Mapping}
use Rattle.blk_base.specs.declared.parts.Mode.{Mode}
use Rattle.blk_base.specs.declared.ask.BackAsk.{BackAsk}
use Rattle.blk_base.specs.declared.ask.BackAsk.TheVariants as ask
use Rattle.blk_base.specs.declared.moves.BackMover.{BackMover}
use Rattle.blk_base.specs.declared.moves.BackMover.TheVariants as back
use Rattle.blk_base.specs.declared.moves.Move.TheVariants as moves
use Rattle.grant_table.specs.declared.held.Held.{Held}
use Rattle.grant_table.specs.Table.{GrantTable, IsLive, held_of, next_mapping, without}
use Rattle.hypervisor.specs.Hypervisor.{Hypervisor}
use Rattle.hypervisor.specs.Act.{BackAct, Outcome, back_act, map_act}
use Rattle.schedule_text.specs.declared.line.Line.{Line}
use Rattle.schedule_text.specs.declared.line.Line.TheVariants as lines
use Rattle.report_rules.specs.declared.standing.Standing.{Standing}
use Rattle.report_rules.specs.Ring.{page_made}
use Rattle.report_rules.specs.Made.{made_by}
use Rattle.report_rules.specs.Standing.{is_epoch, is_unmap_of, mapping_made, standing_after, numbered}
use Rattle.report_rules.proofs.Back.{standing_more}
use Rattle.back_jobs.specs.Work.{Work}
use Rattle.back_jobs.specs.Jobs.{mapping_at}
use Rattle.back_jobs.specs.Hands.{hand_of, hands_in}
use Rattle.back_jobs.proofs.Hands.{among, named_in}
use Rattle.back_jobs.proofs.Sizes.{only}
use Rattle.blk_back.specs.View.{View}
use Rattle.blk_back.specs.Hands.{aborted, hands_of}
use Rattle.split_model.specs.Safe.{AreHeld}
use Rattle.split_model.proofs.Acting.{BackMap, BackUnmap, back_acts}
use Rattle.move_laws.specs.Tells.{standing_of}
use Rattle.move_laws.proofs.Standing.{filter_none, numbered_live, without_live}
use Rattle.move_laws.proofs.Still.{none_goes}
use Rattle.ring_laws.proofs.Sight.{other_page}
use Rattle.ring_laws.proofs.JobMoves.{itself}
use Rattle.ring_laws.proofs.Fetched.{AreOther}
use Rattle.ring_laws.proofs.Makers.{IsQuiet, AreQuiet}

abbrev pub Stands : List Line → GrantTable → Type 0
Stands before table = standing_after before ≡ map standing_of table.live

-- a line that changes no mapping
stands_still : (before : List Line) (line : Line) (table : GrantTable) → is_epoch line ≡ false → ((n : ℕ) → is_unmap_of n line ≡ false) → mapping_made line ≡ None → Stands before table → Stands (before ++ line ∷ []) table
stands_still before line table same gone made s =
    standing_more before line ∙ rw (same, s, made, none_goes line (map standing_of table.live) gone) (append-nil (map standing_of table.live))

none_mapped : (line : Line) → page_made line ≡ None → ((k : ℕ) → made_by k line ≡ None) → mapping_made line ≡ None
none_mapped (lines.Move (moves.Map back.Back gref mode number frame)) page made = absurd (cc)
none_mapped (lines.Move (moves.Map (back.Job k) gref mode number frame)) page made = absurd (none-some _ (sym (made k) ∙ ap (λ (b : Bool). if b then Some (record { number = number; gref = gref; mode = mode; frame = frame }) else None) (itself k)))
none_mapped line page made = refl

-- lines of others
pub stands_aside : (before ys : List Line) (table : GrantTable) → AreQuiet ys → AreOther ys → Stands before table → Stands (before ++ ys) table
stands_aside before [] table quiet other s = subst (λ (ls : List Line). Stands ls table) (sym (append-nil before)) s
stands_aside before (y ∷ ys) table quiet other s =
    let q : IsQuiet y = quiet.0 in
    subst (λ (ls : List Line). Stands ls table) (append_assoc before (y ∷ []) ys)
    (stands_aside (before ++ y ∷ []) ys table quiet.1 other.1 (stands_still before y table q.same_epoch q.none_gone (none_mapped y (other_page y other.0) q.none_made) s))

-- a move of the back or of a job
abbrev StandsThen : List Line → BackAct → Type 0
StandsThen before a = Stands (before ++ lines.Move a.shown ∷ []) a.under.grants

map_stands : (before : List Line) (h : Hypervisor) (who : BackMover) (gref : ℕ) (mode : Mode) (frame : ℕ) → Stands before h.grants → StandsThen before (map_act h who gref mode (Ok frame))
map_stands before h who gref mode frame s =
    let next : Held = record { mapping = next_mapping h.grants gref mode; frame = frame } in
    standing_more before (lines.Move (moves.Map who gref mode (h.grants.made + 1) frame))
    ∙ (ap (λ (left : List Standing). filter (λ (x : Standing). true) left ++ standing_of next ∷ []) s
    ∙ (ap (λ (left : List Standing). left ++ standing_of next ∷ []) (filter_none (map standing_of h.grants.live)) ∙ sym (map-append standing_of h.grants.live (next ∷ []))))

unmap_stands : (before : List Line) (h : Hypervisor) (who : BackMover) (m : Mapping) → Stands before h.grants → standing_after (before ++ lines.Move (moves.Unmap who m.number) ∷ []) ≡ map standing_of (without m.number h.grants.live)
unmap_stands before h who m s =
    standing_more before (lines.Move (moves.Unmap who m.number))
    ∙ (ap (λ (left : List Standing). filter (λ (x : Standing). not (m.number == x.number)) left ++ []) s ∙ (append-nil _ ∙ without_live m.number h.grants.live))

pub act_stands : (before : List Line) (h : Hypervisor) (who : BackMover) (asked : BackAsk) (o : Outcome) (a : BackAct) → Stands before h.grants → back_act h who asked o ≡ Some a → StandsThen before a
act_stands before h who asked o a s e = elim (back_acts h who asked o a e) as (λ mover x outcome act acts. StandsThen before act) [
  | BackMap gref mode frame is ↦ map_stands before h _ gref mode frame s
  | BackUnmap m ↦ unmap_stands before h _ m s
  | acts ↦ stands_still before _ h.grants refl (λ n. refl) refl s
]

-- with the lines after it
pub turn_stands : (before ys : List Line) (h : Hypervisor) (who : BackMover) (asked : BackAsk) (o : Outcome) (a : BackAct) → AreQuiet ys → AreOther ys → Stands before h.grants → back_act h who asked o ≡ Some a → Stands (before ++ lines.Move a.shown ∷ ys) a.under.grants
turn_stands before ys h who asked o a quiet other s e =
    subst (λ (ls : List Line). Stands ls a.under.grants) (append_assoc before (lines.Move a.shown ∷ []) ys)
    (stands_aside (before ++ lines.Move a.shown ∷ []) ys a.under.grants quiet other (act_stands before h who asked o a s e))

-- a mapping that lives stands, of its reference
pub live_stands : (before : List Line) (table : GrantTable) (m : Mapping) → Stands before table → IsLive table m → IsSomeAnd (numbered m.number (standing_after before)) (λ (x : Standing). x.gref ≡ m.gref)
live_stands before table m stands live =
    subst (λ (o : Option Standing). IsSomeAnd o (λ (x : Standing). x.gref ≡ m.gref)) (sym (ap (λ (s : List Standing). numbered m.number s) stands ∙ numbered_live m.number table.live))
    (named (held_of m.number table.live) live)
  where
    named : (o : Option Held) → IsSomeAnd o (λ (x : Held). x.mapping ≡ m) → IsSomeAnd (option_map standing_of o) (λ (x : Standing). x.gref ≡ m.gref)
    named None same = same
    named (Some h) same = ap (λ (x : Mapping). x.gref) same

-- so does the mapping in a job's hand
pub in_hand : (before : List Line) (table : GrantTable) (v : View) (place : ℕ) (t : Work) (m : Mapping) → Stands before table → AreHeld table (hands_of v) → slice_get v.jobs.works place ≡ Some t → mapping_at t.stage ≡ Some m
    → IsSomeAnd (numbered m.number (standing_after before)) (λ (x : Standing). x.gref ≡ m.gref)
in_hand before table v place t m stands held found_at is =
    let hand : Contains (hand_of t) m = subst (λ (o : Option Mapping). Contains (option_to_list o) m) (sym is) (only m) in
    let inside : Contains (hands_in v.jobs.works) m = named_in v.jobs.works place t (ask.Unmap m) found_at hand in
    let whole : Contains (hands_of v) m = among m (aborted v.stage) v.pages (hands_in v.jobs.works) inside in
    live_stands before table m stands (All-contains (IsLive table) (hands_of v) m held.live whole)
