-- What an answer to the back's negotiation makes of its end of the ring: that halts with it, or takes the terms that were read.
use Rattle.std.proofs.Common.{◌≡◌, ℕ, Bool, true, false, true≢false, ◌&&◌, if◌then◌else◌, List, [], ◌∷◌, map, refl, sym, ap, ◌∙◌, subst}
use Rattle.std.specs.Prelude.{Option, Some, None, codes}
use Rattle.std.specs.Str.{bytes_eq}
use Rattle.std.specs.Option.{option_map}
use Rattle.std.proofs.lemmas.Option.{none-some}
use Rattle.blk_base.specs.declared.operation.Abi.TheVariants.{X64, X32}
use Rattle.blk_base.specs.declared.parts.Mapping.{Mapping}
use Rattle.blk_base.specs.declared.ask.BackAsk.{BackAsk}
use Rattle.blk_base.specs.declared.ask.BackAnswer.{BackAnswer}
use Rattle.blk_base.specs.declared.ask.BackAnswer.TheVariants as answer
use Rattle.blk_base.specs.declared.moves.BackMover.TheVariants as back_mover
use Rattle.ring_words.specs.Shape.{Shape}
use Rattle.hypervisor.specs.Act.{BackAct, Took, back_act}
use Rattle.blk_back.specs.View as ends
use Rattle.blk_back.specs.Step as ring_step
use Rattle.xenbus_state.specs.declared.keys.FrontKey.TheVariants as key
use Rattle.xenbus_state.specs.declared.state.BusState.TheVariants as state
use Rattle.xenbus_state.specs.declared.stage.BackBusStage.{BackBusStage}
use Rattle.xenbus_state.specs.declared.stage.BackBusStage.TheVariants as stage
use Rattle.xenbus_state.specs.declared.back.BackBusAsk.TheVariants as bus_ask
use Rattle.xenbus_state.specs.declared.table.BackHalt.{BackHalt}
use Rattle.xenbus_state.specs.declared.values.FrontTerms.{FrontTerms}
use Rattle.xenbus_state.specs.BackView.{BackView}
use Rattle.xenbus_state.specs.BackAsk.{says_closing, unmap_ask, ask_at, ask_of}
use Rattle.xenbus_state.specs.BackReading.{with_layout, key_read}
use Rattle.xenbus_state.specs.BackStep.{key_halt, kept_or_halted, step_at, step_of, halt_at, halt_of}
use Rattle.split_model.specs.World as rings
use Rattle.split_model.specs.Keys.{is_layout}
use Rattle.split_model.specs.Happening as ring
use Rattle.split_model.proofs.SafeActs.{of_back}
use Rattle.split_model.proofs.Attaching.{SaysServed}
use Rattle.vbd_back.specs.Ask as back
use Rattle.vbd_back.specs.Step as back_step
use Rattle.vbd_model.specs.World.{World, backend_of}
use Rattle.vbd_model.specs.Fit.{SaysKey, SaidAt, IsFit}
use Rattle.vbd_model.specs.Happening.{back_turn, halted_at, reasons_of, back_bus_after, is_none, attaches}
use Rattle.line_text.proofs.Both.{both_true}
use Rattle.vbd_laws.proofs.FitBackBus.{told_at}
use Rattle.vbd_laws.proofs.FitBackShares.{IsAlike, settled_alike}
use Rattle.vbd_laws.proofs.FitSaid.{served_said}
use Rattle.vbd_laws.proofs.MovesTurns.{back_asks, back_learns, back_takes}

-- it reads the layout: the key is read now
layout_at : (b : BackBusStage) (v : BackView) → back_step.reads_layout (ask_at b v) ≡ true → b ≡ stage.ReadKey key.Protocol
layout_at (stage.ReadKey key.Protocol) v reads = refl
layout_at (stage.ReadKey key.RingPageOrder) v reads = absurd (true≢false (sym reads))
layout_at (stage.ReadKey (key.RingRefOf page)) v reads = absurd (true≢false (sym reads))
layout_at (stage.ReadKey key.RingRef) v reads = absurd (true≢false (sym reads))
layout_at (stage.ReadKey key.EventChannel) v reads = absurd (true≢false (sym reads))
layout_at (stage.ReadKey key.FeaturePersistent) v reads = absurd (true≢false (sym reads))
layout_at stage.UnmapPage v reads = absurd (unmaps v.pages reads)
  where
    unmaps : (pages : List Mapping) → back_step.reads_layout (unmap_ask pages) ≡ true → ⊥
    unmaps [] reads = true≢false (sym reads)
    unmaps (page ∷ pages) reads = true≢false (sym reads)
layout_at b v reads = absurd (true≢false (sym reads))

pub asks_layout : (v : BackView) → back_step.reads_layout (ask_of v) ≡ true → (says_closing v ≡ false) × (v.stage ≡ stage.ReadKey key.Protocol)
asks_layout v reads = by_test (says_closing v) refl
  where
    by_test : (c : Bool) → says_closing v ≡ c → (says_closing v ≡ false) × (v.stage ≡ stage.ReadKey key.Protocol)
    by_test true is = absurd (true≢false (sym (rw is at reads)))
    by_test false is = (is, layout_at v.stage v (rw is at reads))

pub layout_asked : (v : BackView) → back_step.reads_layout (ask_of v) ≡ true → ask_of v ≡ bus_ask.GetKey key.Protocol
layout_asked v reads =
    let asks = asks_layout v reads in
    ap (λ (c : Bool). if c then bus_ask.SetState state.Closing else ask_at v.stage v) asks.0 ∙ ap (λ (b : BackBusStage). ask_at b v) asks.1

-- where it is read well the terms name it
named_by : (text : List ℕ) (v : BackView) (x64 x32 : Bool) → bytes_eq text (codes "x86_64-abi") ≡ x64 → bytes_eq text (codes "x86_32-abi") ≡ x32
    → let o : Option BackView = option_map (with_layout v) (if x64 then Some X64 else (if x32 then Some X32 else None)) in key_halt key.Protocol o ≡ None → is_layout (kept_or_halted o v).terms.abi (Some text) ≡ true
named_by text v true x32 e f none = e
named_by text v false true e f none = f
named_by text v false false e f none = absurd (none-some _ (sym none))

named : (text : Option (List ℕ)) (v : BackView) → key_halt key.Protocol (key_read key.Protocol text v) ≡ None → is_layout (kept_or_halted (key_read key.Protocol text v) v).terms.abi text ≡ true
named None v none = refl
named (Some text) v none = named_by text v (bytes_eq text (codes "x86_64-abi")) (bytes_eq text (codes "x86_32-abi")) refl refl none

-- the halt of the back's end of the ring is what its negotiation makes of it
abbrev pub halted_only : Option BackHalt → ends.View → ends.View
halted_only None r = r
halted_only (Some why) r = ring_step.halts (back_step.ring_halt why) r

pub all_halt : (reason : Option BackHalt) (r : rings.World) → ring.after (map ring.BackHalts (reasons_of reason)) r ≡ record r { back = halted_only reason r.back }
all_halt None r = refl
all_halt (Some why) r = refl

-- an answer to what the negotiation asks: what it learns, and what of it its end of the ring may take
pub record IsSaid (w : World) (a : BackAct) : Type 0 where
  pub turn : back_turn w ≡ Some a
  pub moves : back.bus_moves (back_asks w) w.rings.back.stage ≡ true

learns : (w : World) (a : BackAct) → IsSaid w a → IsAlike (step_of w.back a.answer) (back_learns w)
learns w a said =
    let bus = ap (λ (act : Option BackAct). back_bus_after w act) said.turn in
    let spoken = ap (λ (b : Bool). (if b then back_step.spoken (backend_of w) a.answer else back_step.ring_step (back.ring_moves (back_asks w) w.rings.back.stage) (back_asks w) (backend_of w) a.answer).bus) said.moves in
    subst (IsAlike (step_of w.back a.answer)) (sym (bus ∙ spoken)) (settled_alike _ (step_of w.back a.answer))

same_shape : (w : World) (a : BackAct) → IsSaid w a → back_step.shape_read (back_learns w) ≡ back_step.shape_read (step_of w.back a.answer)
same_shape w a said = ap (λ (t : FrontTerms). record { abi = t.abi; order = t.order }) (learns w a said).terms

-- the layout is the one that its key names
pub layout_named : (w : World) (a : BackAct) → IsSaid w a → back_step.reads_layout (back_asks w) ≡ true → halt_of w.back a.answer ≡ None → is_layout (step_of w.back a.answer).terms.abi (ring.layout_text w.rings) ≡ true
layout_named w a said reads none =
    let asks = asks_layout w.back reads in
    let asked : back_asks w ≡ bus_ask.GetKey key.Protocol = layout_asked w.back reads in
    let acts : back_act w.rings.under back_mover.Back (back.key_ask (bus_ask.GetKey key.Protocol)) Took ≡ Some a =
    ap (λ (k : BackAsk). back_act w.rings.under back_mover.Back k Took) (ap back.key_ask (sym asked) ∙ sym (ap (λ (b : Bool). if b then back.key_ask (back_asks w) else back.ring_ask (back.ring_moves (back_asks w) w.rings.back.stage) (backend_of w)) said.moves)) ∙ said.turn in
    let told : a.answer ≡ answer.Key (ring.layout_text w.rings) = of_back (λ (y : BackAct). y.answer ≡ answer.Key (ring.layout_text w.rings)) _ a refl acts in
    let stepped : step_of w.back a.answer ≡ kept_or_halted (key_read key.Protocol (ring.layout_text w.rings) w.back) w.back =
    told_at w.back a.answer asks.0 ∙ (ap (λ (b : BackBusStage). step_at b w.back a.answer) asks.1 ∙ ap (λ (x : BackAnswer). step_at (stage.ReadKey key.Protocol) w.back x) told) in
    let halts : halt_of w.back a.answer ≡ key_halt key.Protocol (key_read key.Protocol (ring.layout_text w.rings) w.back) =
    ap (λ (c : Bool). if c then None else halt_at w.back.stage w.back a.answer) asks.0 ∙ (ap (λ (b : BackBusStage). halt_at b w.back a.answer) asks.1 ∙ ap (λ (x : BackAnswer). halt_at (stage.ReadKey key.Protocol) w.back x) told) in
    subst (λ (u : BackView). is_layout u.terms.abi (ring.layout_text w.rings) ≡ true) (sym stepped) (named (ring.layout_text w.rings) w.back (sym halts ∙ none))

-- the back's keys say what it serves by then
serves_said : (w : World) → IsFit w → back_step.reads_layout (back_asks w) ≡ true → SaysServed w.rings
serves_said w fit reads =
    served_said w.rings.under.keys w.back.features w.back.disk w.rings.back.jobs.info fit.published fit.limited
    (subst (λ (b : BackBusStage). SaidAt (SaysKey w.rings.under.keys w.back.features w.back.disk) b) (asks_layout w.back reads).1 fit.said)

-- what it may take
abbrev TestOf : World → (moves reads none : Bool) → Shape → List ℕ → Bool
TestOf w moves reads none shape grefs = moves && reads && none && ring.attaches_at w.rings shape grefs

abbrev Test : World → BackAct → (moves reads none : Bool) → Bool
Test w a moves reads none = let u : BackView = step_of w.back a.answer in TestOf w moves reads none (back_step.shape_read u) u.grefs

test_is : (w : World) (a : BackAct) → IsSaid w a → attaches w (back_learns w) ≡ Test w a true (back_step.reads_layout (back_asks w)) (is_none (reasons_of (halt_of w.back a.answer)))
test_is w a said =
    let b : BackView = back_learns w in
    let u : BackView = step_of w.back a.answer in
    let reads : Bool = back_step.reads_layout (back_asks w) in
    ap (λ (moves : Bool). TestOf w moves reads (is_none (halted_at w (back_turn w))) (back_step.shape_read b) b.grefs) said.moves
    ∙ (ap (λ (act : Option BackAct). TestOf w true reads (is_none (halted_at w act)) (back_step.shape_read b) b.grefs) said.turn
    ∙ (ap (λ (shape : Shape). TestOf w true reads (is_none (reasons_of (halt_of w.back a.answer))) shape b.grefs) (same_shape w a said)
    ∙ ap (λ (grefs : List ℕ). TestOf w true reads (is_none (reasons_of (halt_of w.back a.answer))) (back_step.shape_read u) grefs) (learns w a said).grefs))

-- no terms are taken: its end of the ring halts, or goes on as it was
pub not_led : (w : World) (a : BackAct) → IsFit w → IsSaid w a → attaches w (back_learns w) ≡ false
    → back_step.ring_led (halt_of w.back a.answer) (back_step.reads_layout (back_asks w)) (step_of w.back a.answer) w.rings.back ≡ halted_only (halt_of w.back a.answer) w.rings.back
not_led w a fit said untaken = by_cases (halt_of w.back a.answer) (back_step.reads_layout (back_asks w)) refl refl
  where
    u : BackView
    u = step_of w.back a.answer

    unfit : (may layout served : Bool) → layout ≡ true → served ≡ true → (may && layout && served) ≡ false → may ≡ false
    unfit true true served named says none = absurd (true≢false (sym says ∙ none))
    unfit true false served named says none = absurd (true≢false (sym named))
    unfit false layout served named says none = refl

    by_cases : (halt : Option BackHalt) (reads : Bool) → halt_of w.back a.answer ≡ halt → back_step.reads_layout (back_asks w) ≡ reads → back_step.ring_led halt reads u w.rings.back ≡ halted_only halt w.rings.back
    by_cases (Some why) reads e f = refl
    by_cases None false e f = refl
    by_cases None true e f =
        let layout = layout_named w a said f e in
        let test = sym (test_is w a said) ∙ untaken in
        let may = unfit (ring_step.may_attach (back_step.shape_read u) u.grefs w.rings.back) (is_layout u.terms.abi (ring.layout_text w.rings)) _ layout (serves_said w fit f) (rw (f, e) at test) in
        rw may refl

-- terms are taken, and no halt is asked for
pub record IsTaken (w : World) (a : BackAct) : Type 0 where
  pub reads : back_step.reads_layout (back_asks w) ≡ true
  pub goes : ring.attaches_at w.rings (back_step.shape_read (back_learns w)) (back_learns w).grefs ≡ true
  pub led : back_step.ring_led (halt_of w.back a.answer) (back_step.reads_layout (back_asks w)) (step_of w.back a.answer) w.rings.back
      ≡ ring_step.attached (back_step.shape_read (back_learns w)) (back_learns w).grefs (back_learns w).terms.port w.rings.back
  pub after : ring.after (back_takes (back_learns w)) w.rings ≡ record w.rings { back = back_step.ring_led (halt_of w.back a.answer) (back_step.reads_layout (back_asks w)) (step_of w.back a.answer) w.rings.back }

all_true : (moves reads none fits : Bool) → (moves && reads && none && fits) ≡ true → (reads ≡ true) × (none ≡ true) × (fits ≡ true)
all_true true true true fits all = (refl, refl, all)
all_true true true false fits all = absurd (true≢false (sym all))
all_true true false none fits all = absurd (true≢false (sym all))
all_true false reads none fits all = absurd (true≢false (sym all))

no_reason : (halt : Option BackHalt) → is_none (reasons_of halt) ≡ true → halt ≡ None
no_reason None none = refl
no_reason (Some why) none = absurd (true≢false (sym none))

pub taken : (w : World) (a : BackAct) → IsSaid w a → attaches w (back_learns w) ≡ true → IsTaken w a
taken w a said takes =
    let u : BackView = step_of w.back a.answer in
    let b : BackView = back_learns w in
    let same = learns w a said in
    let shape = same_shape w a said in
    let test = sym (test_is w a said) ∙ takes in
    let all = all_true true (back_step.reads_layout (back_asks w)) (is_none (reasons_of (halt_of w.back a.answer))) (ring.attaches_at w.rings (back_step.shape_read u) u.grefs) test in
    let none = no_reason (halt_of w.back a.answer) all.1 in
    let may = (both_true (ring_step.may_attach (back_step.shape_read u) u.grefs w.rings.back) _ (both_true _ _ all.2).0).0 in
    let goes : ring.attaches_at w.rings (back_step.shape_read b) b.grefs ≡ true =
    ap (λ (s : Shape). ring.attaches_at w.rings s b.grefs) shape ∙ (ap (λ (grefs : List ℕ). ring.attaches_at w.rings (back_step.shape_read u) grefs) same.grefs ∙ all.2) in
    let led = (ap (λ (h : Option BackHalt). back_step.ring_led h (back_step.reads_layout (back_asks w)) u w.rings.back) none
    ∙ ap (λ (reads : Bool). back_step.ring_led None reads u w.rings.back) all.0)
    ∙ ap (λ (yes : Bool). if yes then ring_step.attached (back_step.shape_read u) u.grefs u.terms.port w.rings.back else w.rings.back) may in
    let here : ring_step.attached (back_step.shape_read u) u.grefs u.terms.port w.rings.back ≡ ring_step.attached (back_step.shape_read b) b.grefs b.terms.port w.rings.back =
    sym (ap (λ (s : Shape). ring_step.attached s b.grefs b.terms.port w.rings.back) shape
    ∙ (ap (λ (grefs : List ℕ). ring_step.attached (back_step.shape_read u) grefs b.terms.port w.rings.back) same.grefs
    ∙ ap (λ (t : FrontTerms). ring_step.attached (back_step.shape_read u) u.grefs t.port w.rings.back) same.terms)) in
    record {
      reads = all.0;
      goes = goes;
      led = led ∙ here;
      after = ap (λ (yes : Bool). record w.rings { back = if yes then ring_step.attached (back_step.shape_read b) b.grefs b.terms.port w.rings.back else w.rings.back }) goes ∙ ap (λ (y : ends.View). record w.rings { back = y }) (sym (led ∙ here));
    }
