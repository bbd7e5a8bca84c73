-- The honest part of a run: the back maps what the front granted, and is served.
use Rattle.std.proofs.Common.{◌⊎◌, inl, inr, ◌≡◌, ◌∙◌, ap, sym, subst, ℕ, zero, suc, ◌+◌, ◌^◌, ◌≤◌, Bool, true, false, true≢false, List, [], ◌∷◌, map, refl, arith, if◌then◌else◌}
use Rattle.std.specs.Prelude.{Option, Some, None, IsSome, unwrap_or}
use Rattle.std.specs.List.{range_with_len}
use Rattle.blk_base.specs.Options.{Options}
use Rattle.blk_base.specs.declared.operation.Abi.{Abi}
use Rattle.blk_base.specs.declared.moves.BackMover.TheVariants as back_mover
use Rattle.hypervisor.specs.Act.{BackAct, Took, back_act}
use Rattle.line_text.proofs.Both.{both_true}
use Rattle.ring_words.specs.Shape.{Shape}
use Rattle.blk_back.specs.declared.stage.BackStage.{BackStage}
use Rattle.blk_back.specs.declared.stage.BackStage.TheVariants as ring
use Rattle.blk_back.specs.View as ring_view
use Rattle.xenbus_state.specs.States.{state_number}
use Rattle.xenbus_state.specs.Values.{ring_gref}
use Rattle.xenbus_state.specs.Orders.{numbers_from}
use Rattle.xenbus_state.specs.declared.keys.FrontKey.TheVariants as key
use Rattle.xenbus_state.specs.declared.values.FrontTerms.{FrontTerms}
use Rattle.xenbus_state.specs.declared.state.BusState.{BusState}
use Rattle.xenbus_state.specs.declared.state.BusState.TheVariants as state
use Rattle.xenbus_state.specs.declared.stage.FrontBusStage.{FrontBusStage}
use Rattle.xenbus_state.specs.declared.stage.FrontBusStage.TheVariants as bus
use Rattle.xenbus_state.specs.declared.stage.BackBusStage.{BackBusStage}
use Rattle.xenbus_state.specs.declared.stage.BackBusStage.TheVariants as back_bus
use Rattle.xenbus_state.specs.FrontView.{FrontView, ring_order, terms_of}
use Rattle.xenbus_state.specs.BackView.{BackView}
use Rattle.split_model.specs.World as rings
use Rattle.split_model.specs.Happening as ring_happening
use Rattle.machine_pipeline.specs.Allowed as ring_allowed
use Rattle.machine_pipeline.specs.Allowed.{AreTerms}
use Rattle.negotiation_laws.specs.Negotiation.{Negotiation}
use Rattle.negotiation_laws.specs.Run.{now}
use Rattle.negotiation_laws.specs.Laws.{grefs_of}
use Rattle.negotiation_laws.proofs.Subjects.{BackRead, serves}
use Rattle.negotiation_laws.proofs.Found.{run_holds}
use Rattle.vbd_back.specs.Ask as back
use Rattle.vbd_back.specs.Step as back_step
use Rattle.vbd_model.specs.World.{World}
use Rattle.vbd_model.specs.Happening.{BackMoves, back_turn, back_does, attaches, back_negotiates, happens}
use Rattle.vbd_model.specs.Fit.{FrontOrdered, IsAborting as Aborts, IsUnmapping, is_serving, BackRests, BackReads, BackGoesWith, IsFit}
use Rattle.vbd_laws.proofs.MovesTurns.{back_asks, back_learns, back_takes, back_cases, back_speaks}
use Rattle.vbd_laws.proofs.MovesAttached.{taken}
use Rattle.vbd_laws.proofs.ServedFront.{IsPort}
use Rattle.vbd_laws.proofs.ServedPort.{IsNext, earlier}
use Rattle.vbd_laws.proofs.FitFrontMoves.{with_port}
use Rattle.vbd_laws.proofs.ServedBack.{back_spelled}
use Rattle.vbd_laws.proofs.NegotiatedRun.{Reached, negotiation_of}
use Rattle.vbd_laws.proofs.ServedPossible.{Stands, stands_on}
use Rattle.vbd_laws.proofs.ServedHonest.{Going, Honest, halts_served, moves_allowed}
use Rattle.vbd_laws.proofs.ServedGiven.{back_joins}

-- an end of the ring that maps is elsewhere than here
abbrev is_mapping : BackStage → Bool
is_mapping ring.MapRing = true
is_mapping r = false

not_mapping : {A : Type 0} {r : BackStage} (t : BackStage) → t ≡ r → t ≡ ring.MapRing → is_mapping r ≡ false → A
not_mapping t at e other = absurd (true≢false (sym (ap is_mapping e) ∙ ap is_mapping at ∙ other))

served_map : {A : Type 0} (t : BackStage) → is_serving t ≡ true → t ≡ ring.MapRing → A
served_map t is e = absurd (true≢false (sym is ∙ ap is_serving e))

rests_map : {A : Type 0} (own : BusState) (t : BackStage) → BackRests own t → t ≡ ring.MapRing → A
rests_map state.InitWait t fits e = not_mapping t fits e refl
rests_map state.Connected t fits e = served_map t fits e
rests_map state.Closing t fits e = served_map t fits e
rests_map own t fits e = absurd fits

reads_map : {A : Type 0} (own : BusState) (t : BackStage) → BackReads own t → t ≡ ring.MapRing → A
reads_map state.InitWait t fits e = not_mapping t fits e refl
reads_map state.Connected t fits e = not_mapping t fits e refl
reads_map state.Closing t fits e = not_mapping t fits e refl
reads_map own t fits e = absurd fits

given_map : {A : Type 0} (t : BackStage) → Aborts t → t ≡ ring.MapRing → A
given_map (ring.Abort m) up e = not_mapping (ring.Abort m) refl e refl
given_map t up e = absurd up

unmapped_map : {A : Type 0} (t : BackStage) → IsUnmapping t → t ≡ ring.MapRing → A
unmapped_map ring.UnmapRing up e = not_mapping ring.UnmapRing refl e refl
unmapped_map ring.UnmapUnbound up e = not_mapping ring.UnmapUnbound refl e refl
unmapped_map t up e = absurd up

-- a back that has read the layout has read all the terms of its front but one, or all
map_reads : (s : BackBusStage) (own : BusState) (t : BackStage) → BackGoesWith s own t → t ≡ ring.MapRing → (s ≡ back_bus.ReadKey key.FeaturePersistent) ⊎ (s ≡ back_bus.MapPage)
map_reads (back_bus.ReadKey key.FeaturePersistent) own t fits e = inl refl
map_reads back_bus.MapPage own t fits e = inr refl
map_reads (back_bus.WriteState state.InitWait) own t fits e = not_mapping t fits.1 e refl
map_reads (back_bus.WriteState state.Connected) own t fits e = not_mapping t fits.1 e refl
map_reads (back_bus.WriteState state.Closing) own t fits e = not_mapping t fits e refl
map_reads (back_bus.WriteState state.Closed) own t fits e = not_mapping t fits.1 e refl
map_reads (back_bus.WriteState s) own t fits e = absurd fits
map_reads back_bus.Rest own t fits e = rests_map own t fits e
map_reads back_bus.ReadState own t fits e = reads_map own t fits e
map_reads back_bus.UnmapOthers own t fits e = given_map t fits e
map_reads back_bus.UnmapPage own t fits e = unmapped_map t fits e
map_reads back_bus.ClosePort own t fits e = not_mapping t fits e refl
map_reads other own t fits e = not_mapping t fits.1 e refl

-- so it goes by those of a front that has written Initialised, and has its port
record GoesByTerms (f : FrontView) (b : BackView) : Type 0 where
  late : 3 ≤ state_number f.state
  some : IsSome f.port
  abi : b.terms.abi ≡ f.abi
  order : b.terms.order ≡ ring_order f
  port : b.terms.port ≡ unwrap_or f.port 0
  grefs : b.grefs ≡ grefs_of (2 ^ ring_order f)

abbrev MapsByTerms : Negotiation → Type 0
MapsByTerms n = (n.back.stage ≡ back_bus.ReadKey key.FeaturePersistent) ⊎ (n.back.stage ≡ back_bus.MapPage) → GoesByTerms n.front n.back

serving : (s : BackBusStage) (own : BusState) → (s ≡ back_bus.ReadKey key.FeaturePersistent) ⊎ (s ≡ back_bus.MapPage) → serves s own ≡ true
serving s own (inl e) = ap (λ (x : BackBusStage). serves x own) e
serving s own (inr e) = ap (λ (x : BackBusStage). serves x own) e

maps_by_terms : (n : Negotiation) → Reached n → MapsByTerms n
maps_by_terms n j = subst MapsByTerms j.stands (λ at. by_stage at)
  where
    m : Negotiation
    m = now j.run

    by_stage : (m.back.stage ≡ back_bus.ReadKey key.FeaturePersistent) ⊎ (m.back.stage ≡ back_bus.MapPage) → GoesByTerms m.front m.back
    by_stage at =
        let h = run_holds j.run in
        let serves_so = serving m.back.stage m.back.state at in
        let after = h.back.serving_after serves_so in
        let read = h.back.read serves_so in
        elim at [
          | inl e ↦ (let terms = subst (λ (s : BackBusStage). BackRead s m.back.terms (terms_of m.front) m.back.grefs) e read in record { late = after.0; some = after.1; abi = terms.3; order = terms.0; port = terms.2; grefs = terms.1 })
          | inr e ↦
              (let terms = subst (λ (s : BackBusStage). BackRead s m.back.terms (terms_of m.front) m.back.grefs) e read in
              record { late = after.0; some = after.1; abi = ap (λ (t : FrontTerms). t.abi) terms.0; order = ap (λ (t : FrontTerms). t.order) terms.0; port = ap (λ (t : FrontTerms). t.port) terms.0; grefs = terms.1 })
        ]

-- the front's end of the ring has the order that was agreed
agreed_order : (s : FrontBusStage) (v : FrontView) (n : ℕ) → FrontOrdered s v n → IsSome v.port → n ≡ ring_order v
agreed_order (bus.RingWord word) v n ordered some = ordered.0
agreed_order (bus.Grant page) v n ordered some = ordered.0
agreed_order bus.NewPort v n ordered some = ordered.0
agreed_order s v n ordered some = (with_port v.port v.order v.features.order n some ordered).0

next_port : (count : ℕ) (port : Option ℕ) → IsPort (IsNext count) port → IsSome port → unwrap_or port 0 ≡ count + 1
next_port count None first some = absurd (true≢false (sym some))
next_port count (Some p) first some = first

-- the references count from 8
counts_from : (first count : ℕ) → map ring_gref (numbers_from first count) ≡ range_with_len (8 + first) count
counts_from first zero = refl
counts_from first (suc count) =
    let next : 8 + (first + 1) ≡ 8 + first + 1 = omega arith in
    ap (λ (grefs : List ℕ). (8 + first) ∷ grefs) (counts_from (first + 1) count ∙ ap (λ (n : ℕ). range_with_len n count) next)

same_shape : (a : Abi) (n : ℕ) (s : Shape) → a ≡ s.abi → n ≡ s.order → record { abi = a; order = n } ≡ s
same_shape a n s x y = ap (λ (c : Abi). record { abi = c; order = n }) x ∙ ap (λ (k : ℕ). record { abi = s.abi; order = k }) y

terms_are : (w : World) (b : BackView) → IsFit w → IsPort (IsNext (earlier w)) w.front.port → GoesByTerms w.front b → AreTerms w.rings (back_step.shape_read b) b.grefs b.terms.port
terms_are w b fit first goes =
    let order = agreed_order w.front.stage w.front w.rings.front.shape.order fit.ordered goes.some in
    record {
      shape_is = same_shape b.terms.abi b.terms.order w.rings.front.shape (goes.abi ∙ sym fit.layout) (goes.order ∙ sym order);
      grefs_are = goes.grefs ∙ (counts_from 0 (2 ^ ring_order w.front) ∙ ap (λ (n : ℕ). range_with_len 8 (2 ^ n)) (sym goes.order));
      port_is = goes.port ∙ next_port (earlier w) w.front.port first goes.some;
    }

module _ (config : Options) (w : World) (honest : Honest config w) (going : Going w) where
  -- the terms that its end of the ring takes
  takes_terms : back.bus_moves (back_asks w) w.rings.back.stage ≡ true → attaches w (back_learns w) ≡ true → (act : Option BackAct) → back_turn w ≡ act → back_act w.rings.under back_mover.Back (back.key_ask (back_asks w)) Took ≡ act
      → AreTerms w.rings (back_step.shape_read (back_learns w)) (back_learns w).grefs (back_learns w).terms.port
  takes_terms says takes None turn e = absurd (back_speaks w.rings.under (back_asks w) (both_true (back.speaks (back_asks w)) (back.is_between w.rings.back.stage) says).0 e)
  takes_terms says takes (Some a) turn e =
      let b : BackView = back_learns w in
      let next : Stands (happens w BackMoves) = stands_on w BackMoves honest.stands in
      let does_so : back_does w ≡ back_takes b =
      ap (λ (m : Bool). if (if m then false else back.ring_moves (back_asks w) w.rings.back.stage) then ring_happening.BackMoves ∷ [] else back_negotiates (attaches w b) w b) says ∙ ap (λ (t : Bool). back_negotiates t w b) takes in
      let is = taken w a (record { turn = turn; moves = says }) takes in
      let maps : (let v : World = happens w BackMoves in v.rings.back.stage ≡ ring.MapRing) =
      ap (λ (does : List ring_happening.Happening). (ring_happening.after does w.rings).back.stage) does_so ∙ (ap (λ (v : rings.World). v.back.stage) is.after ∙ ap (λ (r : ring_view.View). r.stage) is.led) in
      let at = map_reads b.stage b.state (let v : World = happens w BackMoves in v.rings.back.stage) next.fit.back maps in
      terms_are w b honest.stands.fit going.first_port.port (maps_by_terms (negotiation_of (happens w BackMoves)) (back_joins config w honest going) at)

  pub back_served : ring_allowed.AreServed (back_does w) w.rings
  back_served =
      back_cases (λ does asked step. back_act w.rings.under back_mover.Back asked Took ≡ back_turn w → ring_allowed.AreServed does w.rings) w
      (λ says untaken e.
      (back_spelled w honest.stands.fit.offers honest.stands.fit.limited honest.stands.back, halts_served config w honest going _ (back_turn w) refl (both_true (back.speaks (back_asks w)) (back.is_between w.rings.back.stage) says).0 e))
      (λ says takes e. (takes_terms says takes (back_turn w) refl e, tt)) (λ quiet moves e. (moves_allowed config w honest going moves, tt))
      (λ quiet still e. (back_spelled w honest.stands.fit.offers honest.stands.fit.limited honest.stands.back, tt)) refl
