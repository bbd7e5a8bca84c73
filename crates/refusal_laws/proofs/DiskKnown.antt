-- The front knows the disk of its back as it connects, whatever a hostile hand overwrites: it reads the back's own keys, once the back was connected.
use Rattle.std.proofs.Common.{inl, inr, ◌⊎◌, ◌≡◌, ◌∙◌, ap, sym, subst, ℕ, ◌^◌, ◌<◌, Bool, true, false, true≢false, List, refl, arith}
use Rattle.std.specs.Prelude.{Option, Some, None}
use Rattle.std.proofs.lemmas.Option.{same_Some}
use Rattle.blk_base.specs.declared.ask.FrontAnswer.{FrontAnswer}
use Rattle.blk_base.specs.declared.ask.FrontAnswer.TheVariants as answer
use Rattle.key_directory.specs.Directory.{key_of}
use Rattle.hypervisor.specs.Act.{FrontAct, front_act}
use Rattle.xenbus_state.specs.declared.keys.BackKey.TheVariants as key
use Rattle.xenbus_state.specs.declared.offer.DiskFacts.{DiskFacts}
use Rattle.xenbus_state.specs.declared.state.BusState.{BusState}
use Rattle.xenbus_state.specs.declared.state.BusState.TheVariants as state
use Rattle.xenbus_state.specs.declared.stage.FrontBusStage.{FrontBusStage}
use Rattle.xenbus_state.specs.declared.stage.FrontBusStage.TheVariants as stage
use Rattle.xenbus_state.specs.declared.front.FrontBusAsk.{FrontBusAsk}
use Rattle.xenbus_state.specs.States.{state_read}
use Rattle.xenbus_state.specs.Reading.{fact_read}
use Rattle.xenbus_state.specs.FrontView.{FrontView}
use Rattle.xenbus_state.specs.FrontAsk.{due, due_at, ask_at, ask_of}
use Rattle.negotiation_laws.specs.Negotiation.{back_path, back_state}
use Rattle.negotiation_laws.proofs.Shown.{sectors_shown, info_shown}
use Rattle.split_model.proofs.SafeActs.{of_front}
use Rattle.vbd_front.specs.View as front_view
use Rattle.vbd_front.specs.Ask as front
use Rattle.vbd_front.specs.Step as front_step
use Rattle.vbd_front.specs.Step.{bus_told}
use Rattle.vbd_model.specs.World.{World, frontend_of}
use Rattle.vbd_model.specs.Happening.{front_turn, front_bus_after}
use Rattle.vbd_model.specs.Fit.{IsFit}
use Rattle.vbd_laws.proofs.FitFrontMoves.{left_starts}
use Rattle.vbd_laws.proofs.FitFrontReads.{followed_is, waited_is}
use Rattle.vbd_laws.proofs.FitFront.{asks_cases}
use Rattle.vbd_laws.proofs.MovesTurns.{front_asks, front_cases}
use Rattle.refusal_laws.proofs.DiskKeys.{IsDiskSaid, IsWhole, whole_of}
use Rattle.refusal_laws.proofs.DiskSaid.{IsLate, Goes}
use Rattle.refusal_laws.proofs.DiskMoves.{late_quiet}
use Rattle.refusal_laws.proofs.DiskLearning.{DiskAt, ShowsAt, Knows, due_knows, told_knows}

-- the front of the machine
abbrev pub Late : World → Type 0
Late w = IsLate w.back.state

abbrev pub Said : World → Type 0
Said w = IsDiskSaid w.back.features w.back.disk w.rings.under.keys

abbrev pub KnowsDisk : World → FrontView → Type 0
KnowsDisk w v = Knows (Late w) (Said w) w.back.disk v

module _ (w : World) (a : FrontAct) (fit : IsFit w) (g : Goes w) (sized : w.back.disk.sectors < 2 ^ 64) where
  abbrev idle : Bool
  idle = front_view.is_unoccupied w.rings.front

  -- once it was connected the back publishes nothing of its disk
  whole : Late w → IsWhole w.back.features w.back.disk w.rings.under.keys
  whole late = whole_of w.back.features w.back.disk w.rings.under.keys w.back.stage (late_quiet w.back.stage w.back.state w.rings.back.stage fit.back late) g.facts

  fact_shown : (text : Option (List ℕ)) → IsWhole w.back.features w.back.disk w.rings.under.keys → key_of w.rings.under.keys.keys (back_path key.Sectors) ≡ text
      → (fact_read key.Sectors text ≡ None) ⊎ (Said w × (fact_read key.Sectors text ≡ Some w.back.disk.sectors))
  fact_shown text (inl none) told = inl (ap (fact_read key.Sectors) (sym told ∙ none))
  fact_shown text (inr said) told = inr (said, sectors_shown text w.back.disk.sectors sized (sym told ∙ said.sectors))

  own_is : (s : BusState) (text : Option (List ℕ)) → key_of w.rings.under.keys.keys back_state ≡ text → state_read text ≡ Some s → w.back.state ≡ s
  own_is s text told read = same_Some w.back.state s (sym g.own ∙ (ap state_read told ∙ read))

  shows_key : (d : FrontBusStage) → due w.front idle ≡ d → DiskAt (Late w) (Said w) w.back.disk d w.front.disk → front_act w.rings.under (front.key_ask (ask_of w.front idle)) ≡ Some a
      → ShowsAt (Late w) (Said w) w.back.disk w.front idle d a.answer
  shows_key stage.ReadState is knows e = by_answer a.answer refl
    where
      told : (text : Option (List ℕ)) → a.answer ≡ answer.Key text → key_of w.rings.under.keys.keys back_state ≡ text
      told text same =
          of_front (λ (y : FrontAct). y.answer ≡ answer.Key text → key_of w.rings.under.keys.keys back_state ≡ text) _ a (λ same. cc)
          (ap (λ (d : FrontBusStage). front_act w.rings.under (front.key_ask (ask_at d w.front))) (sym is) ∙ e) same

      by_answer : (x : FrontAnswer) → a.answer ≡ x → ShowsAt (Late w) (Said w) w.back.disk w.front idle stage.ReadState x
      by_answer (answer.Key text) same = (
        λ read. subst IsLate (sym (own_is state.Connected text (told text same) read)) (omega arith),
        λ read. subst IsLate (sym (own_is state.Closing text (told text same) read)) (omega arith),
      )
      by_answer x same = tt
  shows_key (stage.ReadFact key.Sectors) is knows e = by_answer a.answer refl
    where
      told : (text : Option (List ℕ)) → a.answer ≡ answer.Key text → key_of w.rings.under.keys.keys (back_path key.Sectors) ≡ text
      told text same =
          of_front (λ (y : FrontAct). y.answer ≡ answer.Key text → key_of w.rings.under.keys.keys (back_path key.Sectors) ≡ text) _ a (λ same. cc)
          (ap (λ (d : FrontBusStage). front_act w.rings.under (front.key_ask (ask_at d w.front))) (sym is) ∙ e) same

      by_answer : (x : FrontAnswer) → a.answer ≡ x → ShowsAt (Late w) (Said w) w.back.disk w.front idle (stage.ReadFact key.Sectors) x
      by_answer (answer.Key text) same = fact_shown text (whole knows) (told text same)
      by_answer x same = tt
  shows_key (stage.ReadFact key.Info) is knows e = by_answer a.answer refl
    where
      told : (text : Option (List ℕ)) → a.answer ≡ answer.Key text → key_of w.rings.under.keys.keys (back_path key.Info) ≡ text
      told text same =
          of_front (λ (y : FrontAct). y.answer ≡ answer.Key text → key_of w.rings.under.keys.keys (back_path key.Info) ≡ text) _ a (λ same. cc)
          (ap (λ (d : FrontBusStage). front_act w.rings.under (front.key_ask (ask_at d w.front))) (sym is) ∙ e) same

      by_answer : (x : FrontAnswer) → a.answer ≡ x → ShowsAt (Late w) (Said w) w.back.disk w.front idle (stage.ReadFact key.Info) x
      by_answer (answer.Key text) same = λ said. info_shown text w.back.disk.read_only (sym (told text same) ∙ said.info)
      by_answer x same = tt
  shows_key d is knows e = tt

-- a negotiation that doesn't speak reads no key
unspoken : (late said : Type 0) (e : DiskFacts) (d : FrontBusStage) (v : FrontView) (i : Bool) (x : FrontAnswer) → front.speaks (ask_at d v) ≡ false → ShowsAt late said e v i d x
unspoken late said e (stage.ReadFact k) v i x quiet = absurd (true≢false quiet)
unspoken late said e stage.ReadState v i x quiet = absurd (true≢false quiet)
unspoken late said e d v i x quiet = tt

shows_none : (w : World) (x : FrontAnswer) → IsFit w → front.speaks (front_asks w) ≡ false → (let idle : Bool = front_view.is_unoccupied w.rings.front in ShowsAt (Late w) (Said w) w.back.disk w.front idle (due w.front idle) x)
shows_none w x fit =
    asks_cases (λ (b : FrontBusAsk). front.speaks b ≡ false → ShowsAt (Late w) (Said w) w.back.disk w.front (front_view.is_unoccupied w.rings.front) (due w.front (front_view.is_unoccupied w.rings.front)) x) w
    (λ left quiet. subst (λ (d : FrontBusStage). ShowsAt (Late w) (Said w) w.back.disk w.front (front_view.is_unoccupied w.rings.front) (due_at d w.front (front_view.is_unoccupied w.rings.front)) x) (sym (left_starts w.front.stage w.front w.rings.front.stage fit.front left)) tt)
    (λ none quiet. unspoken (Late w) (Said w) w.back.disk (due w.front (front_view.is_unoccupied w.rings.front)) w.front (front_view.is_unoccupied w.rings.front) x quiet)

-- so it knows it after each of its moves
pub front_knows : (w : World) (act : Option FrontAct) → IsFit w → Goes w → w.back.disk.sectors < 2 ^ 64 → KnowsDisk w w.front → front_turn w ≡ act → KnowsDisk w (front_bus_after w act)
front_knows w None fit g sized is turn = is
front_knows w (Some a) fit g sized is turn =
    front_cases (λ does asked step. front_act w.rings.under asked ≡ Some a → KnowsDisk w (step a.answer).bus) w (λ says e. speaks says e)
    (λ quiet moves e. followed_is (KnowsDisk w) (frontend_of w) a.answer is (told a.answer quiet) (told answer.Done quiet) (front_asks w) _)
    (λ quiet still e. waited_is (KnowsDisk w) (frontend_of w) a.answer is (told a.answer quiet) (told answer.Done quiet) (front_asks w)) turn
  where
    told : (x : FrontAnswer) → front.speaks (front_asks w) ≡ false → KnowsDisk w (bus_told (front_view.is_unoccupied w.rings.front) w.front x)
    told x quiet = told_knows (Late w) (Said w) w.back.disk w.front (front_view.is_unoccupied w.rings.front) x (shows_none w x fit quiet) is

    speaks : front.speaks (front_asks w) ≡ true → front_act w.rings.under (front.key_ask (front_asks w)) ≡ Some a → KnowsDisk w (front_step.bus_after (frontend_of w) a.answer)
    speaks =
        asks_cases (λ (b : FrontBusAsk). front.speaks b ≡ true → front_act w.rings.under (front.key_ask b) ≡ Some a → KnowsDisk w (front_step.bus_after (frontend_of w) a.answer)) w
        (λ left says e. absurd (true≢false (sym says)))
        (λ none says e. told_knows (Late w) (Said w) w.back.disk w.front (front_view.is_unoccupied w.rings.front) a.answer
        (shows_key w a fit g sized (due w.front (front_view.is_unoccupied w.rings.front)) refl (due_knows (Late w) (Said w) w.back.disk w.front (front_view.is_unoccupied w.rings.front) is) e) is)
