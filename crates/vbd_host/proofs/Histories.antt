-- Moves as a history of the ring's end.
use Rattle.std.proofs.Common.{◌≡◌, ℕ, Bool, true, false, ◌||◌, if◌then◌else◌, List, [], ◌∷◌, ◌++◌, refl, sym, ap, ◌∙◌, subst}
use Rattle.std.specs.Prelude.{Option, Some, None}
use Rattle.blk_base.specs.declared.ask.BackAnswer.{BackAnswer}
use Rattle.blk_back.specs.View as ring
use Rattle.xenbus_state.specs.declared.table.BackHalt.{BackHalt}
use Rattle.xenbus_state.specs.declared.back.BackBusAsk.{BackBusAsk}
use Rattle.xenbus_state.specs.BackView.{BackView}
use Rattle.xenbus_state.specs.BackStep as bus_step
use Rattle.back_laws.specs.Happening.{Happening, Answers, AnswersJob, TakesTold, Attaches, Halts, IsNarrow, happened, after, AllMayHappen}
use Rattle.vbd_back.specs.View.{View, heard}
use Rattle.vbd_back.specs.Ask.{bus_ask_of, bus_moves, key_ask, ring_moves, ring_ask, ask_of, IsAnswer}
use Rattle.vbd_back.specs.Step.{ring_halt, shape_read, reads_layout, ring_led, halt_of, spoken, ring_step, step_of, job_step}
use Rattle.vbd_host.specs.Moves.{Does, Hears, MovesBack, MovesJob, HaveTurns, IsRound, IsRingHistory, IsHistory}
use Rattle.vbd_host.proofs.Waits.{ring_answered}

-- one history after another
all_may : (hs ks : List Happening) (r : ring.View) → AllMayHappen hs r → AllMayHappen ks (after hs r) → AllMayHappen (hs ++ ks) r
all_may [] ks r p q = q
all_may (h ∷ hs) ks r p q = (p.0, all_may hs ks (happened h r) p.1 q)

after_all : (hs ks : List Happening) (r : ring.View) → after (hs ++ ks) r ≡ after ks (after hs r)
after_all [] ks r = refl
after_all (h ∷ hs) ks r = after_all hs ks (happened h r)

pub goes_on : (r s t : ring.View) → IsRingHistory r s → IsRingHistory s t → IsRingHistory r t
goes_on r s t h k =
    (h.0 ++ k.0, all_may h.0 k.0 r h.1 (subst (λ u. AllMayHappen k.0 u) h.2 k.1), k.2 ∙ (ap (λ u. after k.0 u) h.2 ∙ sym (after_all h.0 k.0 r)))

pub is_heard : (v : View) → IsHistory v (heard v)
is_heard v = (TakesTold ∷ [], (tt, tt), refl)

-- what is told is taken, then something happens, and what that tells is taken
between_hearings : (v s : View) → IsHistory (heard v) s → IsHistory v (heard s)
between_hearings v s h =
    goes_on v.ring (heard v).ring (heard s).ring (is_heard v) (goes_on (heard v).ring s.ring (heard s).ring h (is_heard s))

led : (why : Option BackHalt) (reads : Bool) (b : BackView) (r : ring.View) → IsRingHistory r (ring_led why reads b r)
led (Some why) reads b r = (Halts (ring_halt why) ∷ [], (tt, tt), refl)
led None true b r = (Attaches (shape_read b) b.grefs b.terms.port ∷ [], (tt, tt), refl)
led None false b r = ([], tt, refl)

stepped_by : (b m : Bool) (a : BackBusAsk) (v : View) (given : BackAnswer) → v.ring.told ≡ None → IsNarrow given
    → IsAnswer (if b then key_ask a else ring_ask m v) given
    → IsRingHistory v.ring (if b then spoken v given else ring_step m a v given).ring
stepped_by true m a v given told narrow h = led (halt_of v given) (reads_layout (bus_ask_of v)) (bus_step.step_of v.bus given) v.ring
stepped_by false true a v given told narrow h = (Answers given ∷ [], ((ring_answered v.ring given h, told, narrow), tt), refl)
stepped_by false false a v given told narrow h = ([], tt, refl)

stepped : (v : View) (given : BackAnswer) → v.ring.told ≡ None → IsNarrow given → IsAnswer (ask_of v) given → IsHistory v (step_of v given)
stepped v given told narrow h = stepped_by (bus_moves (bus_ask_of v) v.ring.stage) (ring_moves (bus_ask_of v) v.ring.stage) (bus_ask_of v) v given told narrow h

pub back_history : {H : Type 0} (does : Does H) (hears : Hears H) (moved : Bool) (v w : View) (h k : H) → MovesBack does hears moved v w h k → IsHistory v w
back_history does hears true v w h k m =
    subst (λ u. IsHistory v u) (sym m.moved) (between_hearings v (step_of (heard v) m.answer) (stepped (heard v) m.answer refl m.narrow m.allowed))
back_history does hears false v w h k m = subst (λ u. IsHistory v u) (sym m.1) (is_heard v)

pub job_history : {H : Type 0} (does : Does H) (hears : Hears H) (number : ℕ) (moved : Bool) (v w : View) (h k : H) → MovesJob does hears number moved v w h k → IsHistory v w
job_history does hears number true v w h k m =
    subst (λ u. IsHistory v u) (sym m.moved)
    (between_hearings v (job_step (heard v) number m.answer) (AnswersJob number m.answer ∷ [], ((m.allowed, refl), tt), refl))
job_history does hears number false v w h k m = subst (λ u. IsHistory v u) (sym m.1) (is_heard v)

turns_history : {H : Type 0} (does : Does H) (hears : Hears H) (numbers : List ℕ) (from to : ℕ) (had has : Bool) (v w : View) (h k : H)
    → HaveTurns does hears numbers from to had has v w h k → IsHistory v w
turns_history does hears [] from to had has v w h k t = subst (λ u. IsHistory v u) (sym t.2) ([], tt, refl)
turns_history does hears (number ∷ numbers) from to had has v w h k t =
    goes_on v.ring t.1.ring w.ring (job_history does hears number t.0 v t.1 h t.2 t.4) (turns_history does hears numbers number to (had || t.0) has t.1 w t.2 k t.5)

pub round_history : {H : Type 0} (does : Does H) (hears : Hears H) (v w : View) (has : Bool) (h k : H) → IsRound does hears v w has h k → IsHistory v w
round_history does hears v w has h k r =
    let between : View = r.between in
    goes_on v.ring between.ring w.ring (back_history does hears r.moved v between h r.then r.back)
    (turns_history does hears r.numbers 0 r.to r.moved has between w r.then k r.jobs)
