-- Before a hostile hand first overwrites a word or a key the front begins to close only after an end was asked to close.
use Rattle.std.proofs.Common.{◌≡◌, Bool, true, false, true≢false, ◌||◌, if◌then◌else◌, List, [], ◌∷◌, inl, inr, refl, sym, ap, ◌∙◌, subst, arith, codes}
use Rattle.std.specs.Prelude.{ℕ, Option, Some, None}
use Rattle.std.specs.List.{list_any}
use Rattle.std.specs.Option.{option_map}
use Rattle.std.specs.Str.{bytes_eq}
use Rattle.std.proofs.lemmas.List.Folds.{list_any-append}
use Rattle.std.proofs.lemmas.Slice.Eq.{bytes_eq-Decides}
use Rattle.blk_base.specs.Options.{Options}
use Rattle.blk_base.specs.declared.ask.FrontAsk.{FrontAsk}
use Rattle.blk_base.specs.declared.moves.Move.{Move}
use Rattle.blk_base.specs.declared.moves.Move.TheVariants as moves
use Rattle.blk_base.specs.declared.moves.Mover.TheVariants as mover
use Rattle.schedule_text.specs.declared.line.Line.{Line}
use Rattle.schedule_text.specs.declared.line.Line.TheVariants as lines
use Rattle.hypervisor.specs.Hypervisor.{Hypervisor}
use Rattle.hypervisor.specs.Act.{FrontAct, front_act, key_at}
use Rattle.xenbus_state.specs.declared.state.BusState.{BusState}
use Rattle.xenbus_state.specs.declared.state.BusState.TheVariants as state
use Rattle.xenbus_state.specs.declared.stage.FrontBusStage.{FrontBusStage}
use Rattle.xenbus_state.specs.declared.stage.FrontBusStage.TheVariants as stage
use Rattle.xenbus_state.specs.States.{state_number}
use Rattle.xenbus_state.specs.BackView.{is_halting}
use Rattle.negotiation_laws.specs.Negotiation.{front_state, back_state, state_text}
use Rattle.negotiation_laws.proofs.Shown.{state_shown}
use Rattle.split_model.specs.World as rings
use Rattle.split_model.proofs.Acting.{front_acts, FrontGet}
use Rattle.vbd_front.specs.Ask as front_asked
use Rattle.vbd_model.specs.World.{World, start_of, frontend_of}
use Rattle.vbd_model.specs.Happening.{Happening, FrontMoves, Closes, Suspends, does, front_turn, happens, lines_at, after as after_all}
use Rattle.vbd_model.specs.Fit.{IsFit, FrontGoesWith}
use Rattle.vbd_model.specs.Possible.{ArePossible, IsPossible}
use Rattle.vbd_laws.specs.Asked.{is_close, ClosingIsAsked}
use Rattle.vbd_laws.specs.Halts.{BackSight, new_back, is_gone, state_said, asked_after}
use Rattle.vbd_laws.specs.Halts as halts
use Rattle.vbd_laws.specs.Moves.{IsFrontMove, IsNoMove}
use Rattle.vbd_laws.specs.Quiet.{IsUntouched, AreUntouched}
use Rattle.vbd_laws.specs.StateLines.{StateSight, NoState, ReadyDue, ClosedDue, is_closing, state_due, move_due, after, from, BeginsToClose}
use Rattle.vbd_laws.proofs.Halts.{KnowsAll, known_first, known_next}
use Rattle.vbd_laws.proofs.HaltsKnown.{is_late}
use Rattle.vbd_laws.proofs.StateLines as state_lines
use Rattle.vbd_laws.proofs.StateLines.{comes}
use Rattle.vbd_laws.proofs.StateLinesBegun.{begun}
use Rattle.vbd_laws.proofs.MovesFront.{front_move_is, front_move_none}
use Rattle.vbd_laws.proofs.NegotiatedRun.{negotiation_of, late_at, early_at}
use Rattle.vbd_laws.proofs.Quiet.{said_at}
use Rattle.vbd_laws.proofs.ServedHonest.{Going, Honest, whole_now}
use Rattle.vbd_laws.proofs.ServedRun.{honest_start, honest_after}

-- what the front reads is what the directory has
abbrev ReadsKeys : Hypervisor → Move → Type 0
ReadsKeys h (moves.GetKey mover.Front path text) = text ≡ key_at h path
ReadsKeys h move = Unit {0}

reads_keys : (h : Hypervisor) (ask : FrontAsk) (a : FrontAct) → front_act h ask ≡ Some a → ReadsKeys h a.shown
reads_keys h ask a e = elim (front_acts h ask a e) as (λ asked x acts. ReadsKeys h x.shown) [ FrontGet path ↦ refl | acts ↦ tt ]

-- it reads no state of the back by which it begins to close
early_due : (b : Bool) (own : BusState) → is_late own ≡ false → BeginsToClose (state_due b (Some (state_number own))) → ⊥
early_due true own early begins = begins
early_due false state.Initialising early begins = begins
early_due false state.InitWait early begins = begins
early_due false state.Initialised early begins = begins
early_due false state.Connected early begins = begins
early_due false state.Reconfiguring early begins = begins
early_due false state.Reconfigured early begins = begins
early_due false own early begins = absurd (true≢false early)

begins_not : (b : Bool) (h : Hypervisor) (own : BusState) (m : Move) → ReadsKeys h m → key_at h back_state ≡ Some (state_text own) → is_late own ≡ false → BeginsToClose (move_due b m) → ⊥
begins_not b h own (moves.GetKey mover.Front path text) reads said early begins = by_path (bytes_eq path back_state) refl begins
  where
    by_path : (c : Bool) → bytes_eq path back_state ≡ c → BeginsToClose (if c then state_due b (state_said text) else NoState) → ⊥
    by_path true e begins =
        let here : path ≡ back_state = (bytes_eq-Decides path back_state).0 e in
        let read : text ≡ Some (state_text own) = reads ∙ (ap (λ (p : List ℕ). key_at h p) here ∙ said) in
        let is : state_said text ≡ Some (state_number own) = ap (option_map state_number) (state_shown text own read) in
        early_due b own early (subst (λ (s : Option ℕ). BeginsToClose (state_due b s)) is begins)
    by_path false e begins = begins
begins_not b h own (moves.SetKey mover.Front path text) reads said early begins = by_path (bytes_eq path front_state) begins
  where
    by_text : (c d : Bool) → BeginsToClose (if c then ReadyDue else (if d then ClosedDue else NoState)) → ⊥
    by_text true d begins = begins
    by_text false true begins = begins
    by_text false false begins = begins

    by_path : (c : Bool) → BeginsToClose (if c then (if bytes_eq text (codes "4") then ReadyDue else (if bytes_eq text (codes "6") then ClosedDue else NoState)) else NoState) → ⊥
    by_path true begins = by_text (bytes_eq text (codes "4")) (bytes_eq text (codes "6")) begins
    by_path false begins = begins
begins_not b h own m reads said early begins = begins

-- until an end is asked to close: the front doesn't, and the back isn't asked to
record Eased (config : Options) (w : World) : Type 0 where
  honest : Honest config w
  still : w.rings.front.closing ≡ false
  known : BackSight
  back : KnowsAll false known w

-- so the back has written no state by which the front would close, and the directory says its state
record Says (w : World) : Type 0 where
  early : is_late w.back.state ≡ false
  said : key_at w.rings.under back_state ≡ Some (state_text w.back.state)

closed_closes : (b : FrontBusStage) (w : World) → FrontGoesWith b w.front w.rings.front.stage → b ≡ stage.Closed → w.front.closing ≡ true
closed_closes b w goes here = let is : FrontGoesWith stage.Closed w.front w.rings.front.stage = subst (λ (s : FrontBusStage). FrontGoesWith s w.front w.rings.front.stage) here goes in is.2

says : (config : Options) (w : World) → Eased config w → Says w
says config w eased = elim eased.honest.going [ inl going ↦ goes going | inr gone ↦ absurd (true≢false (sym (closed_closes w.front.stage w fit.front gone.front) ∙ front_still)) ]
  where
    fit : IsFit w
    fit = eased.honest.stands.fit

    front_still : w.front.closing ≡ false
    front_still = sym (fit.closing (whole_now config w.rings eased.honest.standing)) ∙ eased.still

    running : Going w → (b : Bool) → is_halting w.back.stage ≡ b → b ≡ false
    running going true halts = let late = late_at (negotiation_of w) going.joined halts in let early = early_at (negotiation_of w) going.joined front_still in absurd (omega arith)
    running going false halts = refl

    goes : Going w → Says w
    goes going = record { early = eased.back.knows.bus.early (running going (is_halting w.back.stage) refl) refl; said = let both = said_at (negotiation_of w) going.joined in both.back }

-- what lines would say of the front
abbrev so_far : World → StateSight
so_far w = record { begun = w.rings.front.closing; over = false; due = NoState }

known_so : (w : World) → state_lines.Knowing (so_far w) w
known_so w = record { begun = refl; over = λ over. absurd (true≢false (sym over)); due = refl }

-- nothing shows `closing` then but a close
some_any : (b c : Bool) → b ≡ false → (b || c) ≡ c
some_any true c e = absurd (true≢false e)
some_any false c e = refl

move_quiet : (config : Options) (w : World) (a : FrontAct) (more : List Line) → Eased config w → front_turn w ≡ Some a → lines_at w FrontMoves ≡ lines.Move a.shown ∷ more → list_any is_closing (lines_at w FrontMoves) ≡ false
move_quiet config w a more eased e is = ap (list_any is_closing) is ∙ by_rest (list_any is_closing more) refl
  where
    by_rest : (b : Bool) → list_any is_closing more ≡ b → b ≡ false
    by_rest true closes =
        let now = says config w eased in
        let begins = comes (so_far w) w FrontMoves eased.honest.stands.fit (known_so w) a.shown more is closes in
        absurd (begins_not w.rings.front.closing w.rings.under w.back.state a.shown (reads_keys w.rings.under (front_asked.ask_of (frontend_of w)) a e) now.said now.early begins)
    by_rest false closes = refl

front_quiet : (config : Options) (w : World) (act : Option FrontAct) → Eased config w → front_turn w ≡ act → list_any is_closing (lines_at w FrontMoves) ≡ false
front_quiet config w None eased e = let is : IsNoMove w FrontMoves = front_move_none w eased.honest.stands.fit e in ap (list_any is_closing) is.lines
front_quiet config w (Some a) eased e = let is : IsFrontMove w a = front_move_is w a eased.honest.stands.fit e in move_quiet config w a _ eased e is.lines

quiet_lines : (config : Options) (w : World) (h : Happening) → Eased config w → is_close h ≡ false → list_any is_closing (lines_at w h) ≡ false
quiet_lines config w FrontMoves eased none = front_quiet config w (front_turn w) eased refl
quiet_lines config w (Closes at) eased none = absurd (true≢false none)
quiet_lines config w h eased none = comes (so_far w) w h eased.honest.stands.fit (known_so w)

begun_kept : (k : StateSight) (ls : List Line) → list_any is_closing ls ≡ false → (from k ls).begun ≡ k.begun
begun_kept k [] none = refl
begun_kept k (line ∷ ls) none = by_line (is_closing line) refl (λ rest. begun_kept (after k line) ls rest)
  where
    by_line : (b : Bool) → is_closing line ≡ b → (list_any is_closing ls ≡ false → (from (after k line) ls).begun ≡ (after k line).begun) → (from (after k line) ls).begun ≡ k.begun
    by_line true e later = absurd (true≢false (sym (ap (λ (b : Bool). b || list_any is_closing ls) e) ∙ none))
    by_line false e later = later (sym (some_any (is_closing line) (list_any is_closing ls) e) ∙ none) ∙ some_any (is_closing line) k.begun e

unasked : (w : World) (h : Happening) → is_close h ≡ false → asked_after false w h ≡ false
unasked w (Closes at) none = absurd (true≢false none)
unasked w Suspends none = elim (rings.may_suspend w.rings) as (λ b. (if b then false else false) ≡ false) [ true ↦ refl | false ↦ refl ]
unasked w h none = refl

eased_on : (config : Options) (w : World) (h : Happening) → IsUntouched h → IsPossible w h → is_close h ≡ false → Eased config w → Eased config (happens w h)
eased_on config w h untouched possible none eased = record {
  honest = honest_after config (h ∷ []) w (untouched, tt) eased.honest (possible, tt);
  still = sym (begun (does w h) (so_far w) w.rings refl) ∙ (begun_kept (so_far w) (lines_at w h) (quiet_lines config w h eased none) ∙ eased.still);
  known = halts.from eased.known (lines_at w h);
  back = subst (λ (b : Bool). KnowsAll b (halts.from eased.known (lines_at w h)) (happens w h)) (unasked w h none) (known_next false eased.known w h eased.honest.stands.fit eased.back);
}

eased_after : (config : Options) (hs : List Happening) (w : World) → AreUntouched hs → ArePossible hs w → list_any is_close hs ≡ false → Eased config w → Eased config (after_all hs w)
eased_after config [] w untouched possible none eased = eased
eased_after config (h ∷ hs) w untouched possible none eased = by_close (is_close h) refl (λ one. eased_on config w h untouched.0 possible.0 one eased) (λ x. eased_after config hs (happens w h) untouched.1 possible.1 x)
  where
    by_close : (b : Bool) → is_close h ≡ b → (is_close h ≡ false → Eased config (happens w h)) → (list_any is_close hs ≡ false → Eased config (happens w h) → Eased config (after_all hs (happens w h))) → Eased config (after_all hs (happens w h))
    by_close true e next rest = absurd (true≢false (sym (ap (λ (b : Bool). b || list_any is_close hs) e) ∙ none))
    by_close false e next rest = rest (sym (some_any (is_close h) (list_any is_close hs) e) ∙ none) (next e)

pub closing_asked : ClosingIsAsked
closing_asked config hs h carried options possible untouched shows = list_any-append is_close hs (h ∷ []) ∙ by_close (list_any is_close hs) (is_close h) refl refl
  where
    starts : Eased config (start_of config)
    starts = record { honest = honest_start config carried options; still = refl; known = new_back; back = known_first config }

    by_close : (b c : Bool) → list_any is_close hs ≡ b → is_close h ≡ c → (b || (c || false)) ≡ true
    by_close true c before now = refl
    by_close false true before now = refl
    by_close false false before now = absurd (true≢false (sym shows ∙ quiet_lines config (after_all hs (start_of config)) h (eased_after config hs (start_of config) untouched possible before starts) now))
