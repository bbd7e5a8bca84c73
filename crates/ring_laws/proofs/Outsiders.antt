-- Lines that come between all others: a word that a hostile hand overwrote, a word that a dump shows, a state that the front enters, and what an end does with its keys.
use Rattle.std.proofs.Common.{◌≡◌, ℕ, ◌||◌, ◌&&◌, not, Bool, true, false, List, [], ◌∷◌, ◌++◌, refl, ap, sym, ◌∙◌, subst, append_assoc, append-nil}
use Rattle.std.specs.Prelude.{Option, Some, None}
use Rattle.std.specs.List.{AllByRecursion}
use Rattle.blk_base.specs.declared.parts.End.{End}
use Rattle.blk_base.specs.declared.parts.End.TheVariants as end
use Rattle.blk_base.specs.declared.operation.Abi.{Abi}
use Rattle.blk_base.specs.declared.moves.Mover.{Mover}
use Rattle.blk_base.specs.declared.moves.Mover.TheVariants as mover
use Rattle.blk_base.specs.declared.moves.Move.{Move}
use Rattle.blk_base.specs.declared.moves.Move.TheVariants as moves
use Rattle.key_directory.specs.Directory.{Directory, key_of}
use Rattle.hypervisor.specs.Hypervisor.{Hypervisor}
use Rattle.hypervisor.specs.Act.{FrontAct, front_act, is_own_path}
use Rattle.blk_base.specs.declared.ask.FrontAsk.{FrontAsk}
use Rattle.schedule_text.specs.declared.line.Line.{Line}
use Rattle.schedule_text.specs.declared.line.Line.TheVariants as lines
use Rattle.report_rules.specs.Ring.{abi_after}
use Rattle.report_rules.specs.Overrun.{is_service}
use Rattle.report_rules.specs.Stretch.{is_mover_back, IsStretchAt}
use Rattle.report_rules.specs.Job.{mover_job}
use Rattle.report_rules.specs.Step.{stepper}
use Rattle.report_rules.specs.Standing.{is_epoch, is_unmap_of}
use Rattle.report_rules.specs.Made.{made_by}
use Rattle.report_rules.specs.Reply.{is_reply}
use Rattle.blk_front.specs.View as front
use Rattle.blk_front.specs.Ask as front_ask
use Rattle.blk_front.specs.Step as front_step
use Rattle.blk_back.specs.declared.stage.BackStage.{BackStage}
use Rattle.blk_back.specs.declared.stage.BackStage.TheVariants as stage
use Rattle.blk_back.specs.Ask.{is_led}
use Rattle.blk_back.specs.View.{View}
use Rattle.split_model.specs.Keys.{KeyMove, Gets, mover_at, is_early, may_set, may_negotiate, is_between, key_lines, negotiated_lines}
use Rattle.split_model.specs.World.{World}
use Rattle.split_model.specs.Happening.{Happening, FrontMoves, BackMoves, JobMoves, Negotiates, BackAttaches, BackHalts, Suspends, lines_at, front_after, front_shows, front_turn}
use Rattle.split_model.proofs.Showing.{IsTold, MayShow, lines_are, front_told_is}
use Rattle.split_model.proofs.Acting.{FrontFence, front_acts}
use Rattle.split_model.proofs.SafeActs.{IsKeyMove}
use Rattle.split_model.proofs.Keys.{key_cases, negotiated_cases}
use Rattle.ring_laws.specs.Handed.{IsHandedAt}
use Rattle.ring_laws.specs.Layout.{reads_protocol, IsNamedFirstAt}
use Rattle.ring_laws.proofs.Sight.{is_other, other_touch, same_abi, foreign_abi, untouched_word, is_of_back}
use Rattle.ring_laws.proofs.Shows.{Sight, Shows, unnamed_first}
use Rattle.ring_laws.proofs.ObeysRing.{IsWhole, is_overrun, own_stretch, foreign_stretch, untouched_inside}
use Rattle.ring_laws.proofs.Knows.{Waits, KnowsAt, Follows, whole_words}
use Rattle.ring_laws.proofs.Free.{follow_named}
use Rattle.ring_laws.proofs.Lists.{all_more}
use Rattle.ring_laws.proofs.Bystanders.{IsBystander, AreBystanders, is_plain, offers_no_grants}
use Rattle.ring_laws.proofs.Fetched.{AreOther}
use Rattle.ring_laws.proofs.Makers.{IsOpen}
use Rattle.ring_laws.proofs.MakerLines.{IsCalm, AreCalm, key_calm}
use Rattle.ring_laws.proofs.Written.{Passes, AllPass, passes_other}

-- the rules of the ring, of jobs, of replies and of what a job maps pass over it; one of the back's own comes between two entries and two replies, and names the layout only where the back waits for the terms of its front
pub record IsOutsider (s : BackStage) (line : Line) : Type 0 where
  pub other : is_other line ≡ true
  pub unnamed : is_led s ≡ false → reads_protocol line ≡ false
  pub foreign : is_between s ≡ false → is_of_back line ≡ false
  pub idle : is_service line ≡ false
  pub unhalting : is_overrun line ≡ false
  pub by : IsBystander line
  pub untold : is_reply line ≡ false
  pub calm : IsCalm line

abbrev pub AreOutsiders : BackStage → List Line → Type 0
AreOutsiders s ls = AllByRecursion (IsOutsider s) ls

-- a line that tells of no move
said : (s : BackStage) (line : Line) → is_other line ≡ true → is_of_back line ≡ false → is_service line ≡ false → is_overrun line ≡ false → is_plain line ≡ true → stepper line ≡ None → is_reply line ≡ false → is_epoch line ≡ false → ((n : ℕ) → is_unmap_of n line ≡ false) → ((k : ℕ) → made_by k line ≡ None) → IsOpen line → ((before : List Line) → IsHandedAt before line) → IsOutsider s line
said s line other foreign idle unhalting plain unstepped untold same gone made free handed = record {
  other = other;
  unnamed = λ led. foreign_abi line foreign;
  foreign = λ none. foreign;
  idle = idle;
  unhalting = unhalting;
  by = record { plain = plain; unstepped = unstepped };
  untold = untold;
  calm = record { quiet = record { same_epoch = same; none_gone = gone; none_made = made }; free = free; handed = handed };
}

-- what happens beside the back
abbrev pub IsBeside : Happening → Type 0
IsBeside FrontMoves = ⊥
IsBeside BackMoves = ⊥
IsBeside (JobMoves number outcome) = ⊥
IsBeside (BackAttaches shape grefs port) = ⊥
IsBeside (BackHalts why) = ⊥
IsBeside Suspends = ⊥
IsBeside h = Unit {0}

-- what tells of no move: all that happens beside the back but for what an end does with its keys, and what the front tells
abbrev pub IsSaid : Happening → Line → Type 0
IsSaid FrontMoves line = IsTold line
IsSaid (Negotiates at move) line = ⊥
IsSaid h line = IsBeside h

-- none of these lines is one of the back's, of a job's or of an epoch
outsider : (s : BackStage) (h : Happening) (line : Line) → IsSaid h line → MayShow h line → IsOutsider s line
outsider s (Negotiates at move) line is shows = absurd is
outsider s h (lines.Begin config detail) is shows = absurd (assumption)
outsider s h (lines.Move shown) is shows = absurd (assumption)
outsider s h lines.Epoch is shows = absurd (assumption)
outsider s h (lines.Effect id index) is shows = absurd (assumption)
outsider s h (lines.EffectRead id index words) is shows = absurd (assumption)
outsider s h (lines.Flushed id) is shows = absurd (assumption)
outsider s h (lines.Trimmed id) is shows = absurd (assumption)
outsider s h (lines.Fault id index) is shows = absurd (assumption)
outsider s h (lines.Reply id status) is shows = absurd (assumption)
outsider s h (lines.Halt why) is shows = absurd (assumption)
outsider s h line is shows = said s line refl refl refl refl refl refl refl refl (λ n. refl) (λ k. refl) (λ before. record { unmap = tt; touch = tt }) (λ before. tt)

pub said_outsiders : (s : BackStage) (w : World) (h : Happening) → ((line : Line) → IsSaid h line) → AreOutsiders s (lines_at w h)
said_outsiders s w h is = lines_are (IsOutsider s) w h (λ line shows. outsider s h line (is line) shows)

-- nor is a move of the front, and it leaves the back as it is
front_outsider : (s : BackStage) (h : Hypervisor) (ask : FrontAsk) (a : FrontAct) → front_act h ask ≡ Some a → IsOutsider s (lines.Move a.shown)
front_outsider s h ask a e = elim (front_acts h ask a e) as (λ asked x acts. IsOutsider s (lines.Move x.shown)) [
  | FrontFence ↦ said s _ refl refl refl refl refl refl refl refl (λ n. refl) (λ k. refl) (λ before. record { unmap = tt; touch = tt }) (λ before. tt)
  | acts ↦ said s _ refl refl refl refl refl refl refl refl (λ n. refl) (λ k. refl) (λ before. record { unmap = tt; touch = tt }) (λ before. tt)
]

pub front_outsiders : (s : BackStage) (w : World) (act : Option FrontAct) → front_turn w ≡ act → AreOutsiders s (front_shows w act)
front_outsiders s w None e = tt
front_outsiders s w (Some a) e =
    (front_outsider s w.under (front_ask.ask_of w.front) a e, front_told_is (IsOutsider s) (outsider s FrontMoves) (let f : front.View = front_step.step_of w.front a.answer in f.told))

pub front_leaves : (P : View → Type 0) (w : World) (act : Option FrontAct) → P w.back → (let n : World = front_after w act in P n.back)
front_leaves P w None p = p
front_leaves P w (Some a) p = p

-- a move of an end on a key or a watch
of_end : (s : BackStage) (at : End) (m : Mover) → m ≡ mover_at at → (is_between s ≡ false → is_mover_back (mover_at at) ≡ false) → is_between s ≡ false → is_mover_back m ≡ false
of_end s at m same foreign none = ap is_mover_back same ∙ foreign none

no_job : (at : End) (m : Mover) → m ≡ mover_at at → mover_job m ≡ None
no_job end.Front m same = ap mover_job same
no_job end.Back m same = ap mover_job same

key_outsider : (s : BackStage) (at : End) (shown : Move) → IsKeyMove (mover_at at) shown → (is_between s ≡ false → is_mover_back (mover_at at) ≡ false) → (is_led s ≡ false → reads_protocol (lines.Move shown) ≡ false) → is_plain (lines.Move shown) ≡ true → IsOutsider s (lines.Move shown)
key_outsider s at (moves.Watch m path) same foreign unnamed plain =
    record { other = refl; unnamed = unnamed; foreign = of_end s at m same foreign; idle = refl; unhalting = refl; by = record { plain = refl; unstepped = no_job at m same }; untold = refl; calm = key_calm (mover_at at) (moves.Watch m path) same }
key_outsider s at (moves.Watched m path) same foreign unnamed plain =
    record { other = refl; unnamed = unnamed; foreign = of_end s at m same foreign; idle = refl; unhalting = refl; by = record { plain = refl; unstepped = no_job at m same }; untold = refl; calm = key_calm (mover_at at) (moves.Watched m path) same }
key_outsider s at (moves.GetKey m path text) same foreign unnamed plain =
    record { other = refl; unnamed = unnamed; foreign = of_end s at m same foreign; idle = refl; unhalting = refl; by = record { plain = plain; unstepped = no_job at m same }; untold = refl; calm = key_calm (mover_at at) (moves.GetKey m path text) same }
key_outsider s at (moves.SetKey m path text) same foreign unnamed plain =
    record { other = refl; unnamed = unnamed; foreign = of_end s at m same foreign; idle = refl; unhalting = refl; by = record { plain = plain; unstepped = no_job at m same }; untold = refl; calm = key_calm (mover_at at) (moves.SetKey m path text) same }
key_outsider s at shown same foreign unnamed plain = absurd same

-- a key is read that names no layout, or while the back waits for terms
pub get_key : (s : BackStage) (at : End) (path : List ℕ) (text : Option (List ℕ)) → (is_between s ≡ false → is_mover_back (mover_at at) ≡ false) → (is_led s ≡ false → reads_protocol (lines.Move (moves.GetKey (mover_at at) path text)) ≡ false) → IsOutsider s (lines.Move (moves.GetKey (mover_at at) path text))
get_key s end.Front path text foreign unnamed = key_outsider s end.Front (moves.GetKey mover.Front path text) refl foreign unnamed refl
get_key s end.Back path text foreign unnamed = key_outsider s end.Back (moves.GetKey mover.Back path text) refl foreign unnamed refl

-- what is set offers no persistent grants
set_key : (s : BackStage) (at : End) (path text : List ℕ) → (is_between s ≡ false → is_mover_back (mover_at at) ≡ false) → may_set at path text ≡ true → IsOutsider s (lines.Move (moves.SetKey (mover_at at) path text))
set_key s end.Front path text foreign may = key_outsider s end.Front (moves.SetKey mover.Front path text) refl foreign (λ led. refl) refl
set_key s end.Back path text foreign may = key_outsider s end.Back (moves.SetKey mover.Back path text) refl foreign (λ led. refl) (last (is_own_path end.Back path) (offers_no_grants path text) may)
  where
    last : (a b : Bool) → (a && b) ≡ true → b ≡ true
    last true b e = e
    last false b e = absurd (cc)

end_outsiders : (s : BackStage) (at : End) (move : KeyMove) (d : Directory) → (is_between s ≡ false → is_mover_back (mover_at at) ≡ false) → ((path : List ℕ) (text : Option (List ℕ)) → move ≡ Gets path → is_led s ≡ false → reads_protocol (lines.Move (moves.GetKey (mover_at at) path text)) ≡ false)
    → AreOutsiders s (key_lines at move d)
end_outsiders s at move d foreign unnamed =
    key_cases (λ keys shown. AreOutsiders s shown) at move d
    (λ path same. (get_key s at path (key_of d.keys path) foreign (unnamed path (key_of d.keys path) same), tt))
    (λ path text same may. (set_key s at path text foreign may, tt))
    (λ path same. (key_outsider s at (moves.Watch (mover_at at) path) refl foreign (λ led. refl) refl, tt))
    (λ path first. (key_outsider s at (moves.Watched (mover_at at) path) refl foreign (λ led. refl) refl, tt)) tt

-- a move that the back makes only while it waits for the terms of its front
pub not_early : (between early led : Bool) → (between && (not early || led)) ≡ true → led ≡ false → early ≡ false
not_early true true true e none = absurd (cc)
not_early true true false e none = absurd (cc)
not_early true false led e none = refl
not_early false early led e none = absurd (cc)

-- those of the back come only where they may
pub keys_outsiders : (s : BackStage) (at : End) (move : KeyMove) (d : Directory) → AreOutsiders s (negotiated_lines s at move d)
keys_outsiders s end.Front move d = end_outsiders s end.Front move d (λ own. refl) (λ path text same led. refl)
keys_outsiders s end.Back move d = negotiated_cases (λ keys shown. AreOutsiders s shown) s end.Back move d does tt
  where
    between : (a b : Bool) → (a && b) ≡ true → a ≡ true
    between true b e = refl
    between false b e = e

    does : may_negotiate s end.Back move ≡ true → AreOutsiders s (key_lines end.Back move d)
    does may =
        end_outsiders s end.Back move d (λ own. let is : is_between s ≡ true = between (is_between s) (not (is_early move) || is_led s) may in absurd (cc))
        (λ path text same led. ap is_early (sym same) ∙ not_early (is_between s) (is_early move) (is_led s) may led)

pub beside_outsiders : (w : World) (h : Happening) → IsBeside h → AreOutsiders w.back.stage (lines_at w h)
beside_outsiders w (Negotiates at move) beside = keys_outsiders w.back.stage at move w.under.keys
beside_outsiders w FrontMoves beside = absurd beside
beside_outsiders w h beside = said_outsiders w.back.stage w h (λ line. beside)

pub outsiders_other : (s : BackStage) (ls : List Line) → AreOutsiders s ls → AreOther ls
outsiders_other s ls all = all_more (IsOutsider s) (λ (l : Line). is_other l ≡ true) ls (λ l o. o.other) all

pub outsiders_by : (s : BackStage) (ls : List Line) → AreOutsiders s ls → AreBystanders ls
outsiders_by s ls all = all_more (IsOutsider s) IsBystander ls (λ l o. o.by) all

pub outsiders_pass : (s : BackStage) (ls : List Line) → AreOutsiders s ls → AllPass ls
outsiders_pass s ls all = all_more (IsOutsider s) Passes ls (λ l o. passes_other l o.other o.untold) all

pub outsiders_calm : (s : BackStage) (ls : List Line) → AreOutsiders s ls → AreCalm ls
outsiders_calm s ls all = all_more (IsOutsider s) IsCalm ls (λ l o. o.calm) all

-- one of the back's own stands between two entries
outsider_stretch : (s : BackStage) (between : Bool) (before : List Line) (line : Line) (x : Sight) → is_between s ≡ between → (between ≡ true → IsWhole x) → IsOutsider s line → Shows before x → IsStretchAt before line
outsider_stretch s true before line x is whole o shows = own_stretch before line x shows (whole refl) (untouched_word before line (other_touch line o.other)) (untouched_inside before line (other_touch line o.other))
outsider_stretch s false before line x is whole o shows = foreign_stretch before line (o.foreign is) (untouched_word before line (other_touch line o.other))

-- the layout that it may name is nothing to what the back knows
named_knows : (s : BackStage) (x : Sight) (v : View) (line : Line) → (is_led s ≡ false → reads_protocol line ≡ false) → KnowsAt s x v → KnowsAt s (record x { abi = abi_after x.abi line }) v
named_knows stage.InitWait x v line unnamed n =
    let w : Waits x v.ring.indices v.ring.seen v.halted v.fetched = n.waits in
    record { waits = record { running = w.running; untouched = w.untouched; begins = w.begins; replied = w.replied; produced = w.produced; words = w.words; values = w.values; numbered = w.numbered }; untold = n.untold; none = n.none }
named_knows s x v line unnamed knows = subst (λ (abi : Option Abi). KnowsAt s (record x { abi = abi }) v) (sym (same_abi x.abi line (unnamed refl))) knows

-- and it names one before a page of the ring is mapped
named_first : (s : BackStage) (before : List Line) (line : Line) (x : Sight) (v : View) → (is_led s ≡ false → reads_protocol line ≡ false) → Shows before x → KnowsAt s x v → IsNamedFirstAt before line
named_first stage.InitWait before line x v unnamed shows n = λ read. shows.pages ∙ n.untold
named_first s before line x v unnamed shows knows = unnamed_first before line (unnamed refl)

-- they tell what the back knows, as the lines before them
pub outsiders_follow : (start : ℕ) (values : List ℕ) (ls before : List Line) (v : View) → AreOutsiders v.stage ls → Follows start values before v → Follows start values (before ++ ls) v
outsiders_follow start values [] before v all f = subst (λ (l : List Line). Follows start values l v) (sym (append-nil before)) f
outsiders_follow start values (line ∷ ls) before v all f =
    let o : IsOutsider v.stage line = all.0 in
    let x : Sight = f.sight in
    let stretch : IsStretchAt before line = outsider_stretch v.stage (is_between v.stage) before line f.sight refl (λ is. whole_words v.stage f.sight v is f.knows) o f.shows in
    subst (λ (l : List Line). Follows start values l v) (append_assoc before (line ∷ []) ls)
    (outsiders_follow start values ls (before ++ line ∷ []) v all.1
    (follow_named start values before line v v (abi_after x.abi line) f o.other refl (λ over. o.idle) o.unhalting (named_first v.stage before line f.sight v o.unnamed f.shows f.knows) stretch refl (named_knows v.stage f.sight v line o.unnamed f.knows)))
