-- The moves of the back and of its jobs, by their steps.
use Rattle.std.proofs.Common.{◌≡◌, ℕ, Bool, true, false, ◌||◌, List, [], ◌∷◌, ◌++◌, refl, ap, ◌∙◌, subst}
use Rattle.std.specs.Prelude.{Option, Some, None}
use Rattle.blk_base.specs.declared.ask.BackAsk.{BackAsk}
use Rattle.blk_base.specs.declared.ask.BackAsk.TheVariants as ask
use Rattle.blk_base.specs.declared.ask.BackAnswer.{BackAnswer}
use Rattle.back_jobs.specs.Work.{IsAnswer as IsJobAnswer}
use Rattle.back_laws.specs.Happening.{IsNarrow}
use Rattle.vbd_back.specs.View.{View, heard}
use Rattle.vbd_back.specs.Ask.{ask_of, is_waiting, IsAnswer as IsBackAnswer}
use Rattle.vbd_back.specs.Step.{step_of, job_ask_of, job_step, next_job_of}
use Rattle.blk_back.specs.Ask.{is_wait}
use Rattle.vbd_host.specs.Answer.{IsLeft}
use Rattle.blk_back.specs.declared.told.BackTold.{BackTold}
use Rattle.vbd_host.specs.Moves.{Does, Hears, Heard, Did, DidForBack, TakesPart, MovesBack, MovesJob, HaveTurns}
use Rattle.vbd_host.proofs.Waits.{left_waits}

-- a host's part, by its calls
took_part : {H : Type 0} (does : Does H) (hears : Hears H) (before told : Option BackTold) (asking real : BackAsk) (a : BackAnswer) (h i j k : H)
    → Heard hears before h i → asking ≡ real → does i asking (Some a) j → Heard hears told j k → TakesPart does hears before real a told h k
took_part does hears before told asking real a h i j k first is done last =
    record { asked = i; answered = j; heard_first = first; done = subst (λ x. does i x (Some a) j) is done; heard_then = last }

-- what is done at an ask of the back, by whether that is to wait
pub did_other : {H : Type 0} (does : Does H) (a : BackAsk) (given : Option BackAnswer) (h k : H) → (a ≡ ask.Wait → ⊥) → Did does a given h k → DidForBack does a given h k
did_other does ask.Wait given h k n d = absurd (n refl)
did_other does a given h k n d = d

did_some : {H : Type 0} (does : Does H) (a : BackAsk) (given : BackAnswer) (h k : H) → DidForBack does a (Some given) h k → does h a (Some given) k
did_some does ask.Wait given h k d = d
did_some does a given h k d = d

did_wait : {H : Type 0} (does : Does H) (a : BackAsk) (h k : H) → is_wait a ≡ true → DidForBack does a None h k → does h ask.Wait None k
did_wait does ask.Wait h k w d = d
did_wait does a h k w d = absurd (cc)

-- the back heard, asked, was answered and heard again
pub back_moved : {H : Type 0} (does : Does H) (hears : Hears H) (v u s w : View) (asking : BackAsk) (a : BackAnswer) (h i j k : H)
    → u ≡ heard v → Heard hears v.ring.told h i → asking ≡ ask_of u → IsBackAnswer asking a × IsNarrow a → DidForBack does asking (Some a) i j → s ≡ step_of u a
    → w ≡ heard s → Heard hears s.ring.told j k → MovesBack does hears true v w h k
back_moved does hears v u s w asking a h i j k takes first asks allowed done steps then last =
    let asked : asking ≡ ask_of (heard v) = asks ∙ ap ask_of takes in
    let stepped : s ≡ step_of (heard v) a = steps ∙ ap (λ x. step_of x a) takes in
    record {
      answer = a;
      allowed = subst (λ x. IsBackAnswer x a) asked allowed.0;
      narrow = allowed.1;
      moved = then ∙ ap heard stepped;
      host = took_part does hears v.ring.told (step_of (heard v) a).ring.told asking (ask_of (heard v)) a h i j k first asked (did_some does asking a i j done)
          (subst (λ (x : View). Heard hears x.ring.told j k) stepped last);
    }

-- or it heard, asked and was left
pub back_rested : {H : Type 0} (does : Does H) (hears : Hears H) (v u : View) (a : BackAsk) (h i k : H) → u ≡ heard v → Heard hears v.ring.told h i
    → a ≡ ask_of u → IsLeft a → DidForBack does a None i k → MovesBack does hears false v u h k
back_rested does hears v u a h i k takes first asks left did =
    let asked : a ≡ ask_of (heard v) = asks ∙ ap ask_of takes in
    let waits : is_waiting (heard v) ≡ true = left_waits (heard v) (subst (λ x. IsLeft x) asked left) in
    (waits, takes, (i, first, did_wait does (ask_of (heard v)) i k waits (subst (λ x. DidForBack does x None i k) asked did)))

pub job_moved : {H : Type 0} (does : Does H) (hears : Hears H) (number : ℕ) (v u s w : View) (asking : BackAsk) (a : BackAnswer) (h i j k : H)
    → u ≡ heard v → Heard hears v.ring.told h i → asking ≡ job_ask_of u number → IsJobAnswer asking a → does i asking (Some a) j → s ≡ job_step u number a
    → w ≡ heard s → Heard hears s.ring.told j k → MovesJob does hears number true v w h k
job_moved does hears number v u s w asking a h i j k takes first asks allowed done steps then last =
    let asked : asking ≡ job_ask_of (heard v) number = asks ∙ ap (λ x. job_ask_of x number) takes in
    let stepped : s ≡ job_step (heard v) number a = steps ∙ ap (λ x. job_step x number a) takes in
    record {
      answer = a;
      allowed = subst (λ x. IsJobAnswer x a) asked allowed;
      moved = then ∙ ap heard stepped;
      host = took_part does hears v.ring.told (job_step (heard v) number a).ring.told asking (job_ask_of (heard v) number) a h i j k first asked done
          (subst (λ (x : View). Heard hears x.ring.told j k) stepped last);
    }

-- one more job had its turn
pub turns_on : {H : Type 0} (does : Does H) (hears : Hears H) (numbers : List ℕ) (from mid next : ℕ) (had has moved : Bool) (v w z : View) (h k l : H)
    → HaveTurns does hears numbers from mid had has v w h k → next_job_of w mid ≡ Some next → MovesJob does hears next moved w z k l
    → HaveTurns does hears (numbers ++ next ∷ []) from next had (has || moved) v z h l
turns_on does hears [] from mid next had has moved v w z h k l t n m = (
  moved,
  z,
  l,
  subst (λ u. next_job_of u from ≡ Some next) t.2 (subst (λ x. next_job_of w x ≡ Some next) t.0 n),
  subst (λ x. MovesJob does hears next moved v z x l) t.3 (subst (λ u. MovesJob does hears next moved u z k l) t.2 m),
  (refl, ap (λ b. b || moved) t.1, refl, refl),
)
turns_on does hears (number ∷ numbers) from mid next had has moved v w z h k l t n m =
    (t.0, t.1, t.2, t.3, t.4, turns_on does hears numbers number mid next (had || t.0) has moved t.1 w z t.2 k l t.5 n m)
