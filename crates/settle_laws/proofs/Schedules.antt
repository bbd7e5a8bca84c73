-- Each settling of a schedule ends in quiet, up to the first word or key that a hostile hand overwrites.
use Rattle.std.proofs.Common.{◌≡◌, ◌∙◌, ap, sym, subst, ◌+◌, ◌<◌, true, List, [], ◌∷◌, ◌++◌, refl, append_assoc}
use Rattle.std.proofs.lemmas.List.{append-nil}
use Rattle.blk_base.specs.Options.{Options}
use Rattle.schedule_text.specs.Range.{AreOptions}
use Rattle.schedule_text.specs.declared.event.Event.{Event}
use Rattle.pipeline_laws.specs.Pipeline.{Pipeline}
use Rattle.machine_pipeline.proofs.Over.{IsKept}
use Rattle.vbd_model.specs.World.{World, start_of, is_quiet}
use Rattle.vbd_model.specs.Happening.{Happening, Settles, Pokes, OverwritesKey, after, happens}
use Rattle.vbd_model.specs.Kind.{are_carried, AreOfAll, AreOfSoFar, AreRoundsUntilQuiet, settle_bound}
use Rattle.vbd_model.specs.Possible.{ArePossible}
use Rattle.vbd_model.proofs.Running.{after-append}
use Rattle.vbd_model.proofs.Possible.{possible_first, event_possible, event_so_far_possible}
use Rattle.vbd_laws.specs.Quiet.{AreUntouched}
use Rattle.vbd_laws.proofs.ServedRun.{honest_start}
use Rattle.ring_settle_laws.proofs.BoundRing.{late_left}
use Rattle.ring_settle_laws.proofs.Calm.{calm_start}
use Rattle.settle_laws.specs.Total.{total_left}
use Rattle.settle_laws.specs.Calls.{AreCalls}
use Rattle.settle_laws.proofs.Standing.{Stands, stands_on}
use Rattle.settle_laws.proofs.JobRounds.{EachFalls}
use Rattle.settle_laws.proofs.Rounds.{calls_apart, settles_quiet}
use Rattle.settle_laws.proofs.Ends.{ends_at, ends_until}
use Rattle.settle_laws.proofs.LateTurns.{moves_late}
use Rattle.settle_laws.proofs.Events.{AreMoves, Made, Moving, Quietly, Settling, Touching, made_of, made_so_far, moves_untouched, moves_until, rounds_moves}

pub stands_all : (config : Options) (hs : List Happening) (w : World) → AreUntouched hs → ArePossible hs w → Stands config w → Stands config (after hs w)
stands_all config [] w untouched possible s = s
stands_all config (h ∷ hs) w untouched possible s = stands_all config hs (happens w h) untouched.1 possible.1 (stands_on config w h untouched.0 possible.0 s)

untouched_both : (first rest : List Happening) → AreUntouched first → AreUntouched rest → AreUntouched (first ++ rest)
untouched_both [] rest a b = b
untouched_both (h ∷ first) rest a b = (a.0, untouched_both first rest a.1 b)

single_until : (h : Happening) (rest : List Happening) → ends_at h ≡ true → ends_until rest ≡ true → ends_until (h ∷ rest) ≡ true
single_until (Pokes frame word value) rest ends later = refl
single_until (OverwritesKey name text) rest ends later = refl
single_until h rest ends later = rw (ends, later) refl

-- less is left than settling's bound of rounds, but for what no end looks for any more
abbrev pub IsBounded : Options → Type 0
IsBounded config = (w : World) (d : Pipeline) → Stands config w → IsKept config w.rings d → total_left w d < settle_bound w + late_left w.rings

module _ (config : Options) (falls : EachFalls config) (bounded : IsBounded config) where
  pub settling_quiet : (w : World) (rounds : List Happening) → Stands config w → ArePossible rounds w → AreRoundsUntilQuiet (settle_bound w) w rounds → AreCalls rounds w → is_quiet (after rounds w) ≡ true
  settling_quiet w rounds s possible are calls =
      let honest = s.honest in
      let standing = honest.standing in
      let moves : AreMoves rounds = rounds_moves is_quiet are.count w rounds are.are_rounds in
      settles_quiet config falls rounds w standing.pipeline standing.kept s (bounded w standing.pipeline s standing.kept) are calls (moves_late config rounds w moves possible s)

  -- each settling of an event ends in quiet, where what follows it is so of a machine that no hostile hand touched
  event_until : (w : World) (hs rest : List Happening) → Made w hs → Stands config w → ArePossible hs w → AreCalls hs w → (Stands config (after hs w) → ends_until rest ≡ true) → ends_until (hs ++ rest) ≡ true
  event_until w hs rest (Moving v xs are) s possible calls later = moves_until xs rest are (later (stands_all config xs v (moves_untouched xs are) possible s))
  event_until w hs rest (Quietly v h untouched ends) s possible calls later = single_until h rest ends (later (stands_all config (h ∷ []) v untouched possible s))
  event_until w hs rest (Settling v rounds are) s possible calls later =
      let apart = calls_apart rounds (Settles (is_quiet (after rounds v)) ∷ []) v calls in
      let moves = rounds_moves is_quiet are.count v rounds are.are_rounds in
      let quiet = settling_quiet v rounds s (possible_first rounds (Settles (is_quiet (after rounds v)) ∷ []) v possible) are apart.0 in
      let all : AreUntouched (rounds ++ Settles (is_quiet (after rounds v)) ∷ []) = untouched_both rounds (Settles (is_quiet (after rounds v)) ∷ []) (moves_untouched rounds moves) (tt, tt) in
      subst (λ (hs : List Happening). ends_until hs ≡ true) (sym (append_assoc rounds (Settles (is_quiet (after rounds v)) ∷ []) rest))
      (moves_until rounds (Settles (is_quiet (after rounds v)) ∷ rest) moves
      (single_until (Settles (is_quiet (after rounds v))) rest quiet (later (stands_all config (rounds ++ Settles (is_quiet (after rounds v)) ∷ []) v all possible s))))
  event_until w hs rest (Touching v h until) s possible calls later = until rest

  schedule_until : (es : List Event) (w : World) (hs rest : List Happening) → Stands config w → AreOfAll es w hs → AreCalls hs w → (Stands config (after hs w) → ends_until rest ≡ true) → ends_until (hs ++ rest) ≡ true
  schedule_until [] w hs rest s are calls later =
      subst (λ (xs : List Happening). ends_until (xs ++ rest) ≡ true) (sym are) (later (subst (λ (xs : List Happening). Stands config (after xs w)) (sym are) s))
  schedule_until (e ∷ es) w hs rest s are calls later =
      let first : List Happening = are.0 in
      let more : List Happening = are.1 in
      let apart = calls_apart first more w (subst (λ (xs : List Happening). AreCalls xs w) are.2 calls) in
      subst (λ (xs : List Happening). ends_until (xs ++ rest) ≡ true) (sym are.2)
      (subst (λ (xs : List Happening). ends_until xs ≡ true) (sym (append_assoc first more rest))
      (event_until w first (more ++ rest) (made_of e w first are.3.1) s (event_possible e w first are.3) apart.0
      (λ next. schedule_until es (after first w) more rest next are.4 apart.1
      (λ last. later (subst (Stands config) (sym (ap (λ (xs : List Happening). after xs w) are.2 ∙ after-append first more w)) last)))))

  -- and of one more as far as it came
  pub all_until : (es : List Event) (e : Event) (w : World) (hs more : List Happening) → Stands config w → AreOfAll es w hs → AreOfSoFar e (after hs w) more → AreCalls (hs ++ more) w → ends_until (hs ++ more) ≡ true
  all_until es e w hs more s are last calls =
      let apart = calls_apart hs more w calls in
      schedule_until es w hs more s are apart.0
      (λ next. subst (λ (xs : List Happening). ends_until xs ≡ true) (append-nil more)
      (event_until (after hs w) more [] (made_so_far e (after hs w) more last.1) next (event_so_far_possible e (after hs w) more last) apart.1 (λ end. refl)))

  pub whole_until : (es : List Event) (w : World) (hs : List Happening) → Stands config w → AreOfAll es w hs → AreCalls hs w → ends_until hs ≡ true
  whole_until es w hs s are calls = subst (λ (xs : List Happening). ends_until xs ≡ true) (append-nil hs) (schedule_until es w hs [] s are calls (λ end. refl))

-- the machine at the start
pub stands_first : (config : Options) → are_carried config ≡ true → AreOptions config → Stands config (start_of config)
stands_first config carried options = record { honest = honest_start config carried options; history = []; come = refl; calm = calm_start config }
