-- Where all is quiet, each request of the pipeline is finished.
use Rattle.std.proofs.Common.{◌≡◌, ℕ, ◌+◌, ◌-◌, ◌==◌, ◌&&◌, ◌⊎◌, inl, inr, not, if◌then◌else◌, Bool, true, false, List, [], ◌∷◌, length, refl, ap, sym, ◌∙◌, subst, arith, true≢false}
use Rattle.std.specs.Prelude.{Option, Some, None, slice_get}
use Rattle.std.proofs.lemmas.Option.{none-some}
use Rattle.std.proofs.lemmas.Bool.Decides.{nat_tests}
use Rattle.blk_base.specs.Options.{Options}
use Rattle.blk_base.specs.declared.parts.End.TheVariants as end
use Rattle.schedule_text.specs.declared.line.Line.{Line}
use Rattle.schedule_text.specs.declared.line.Line.TheVariants as lines
use Rattle.pipeline_laws.specs.Pipeline.{Pipeline, Rests}
use Rattle.pipeline_laws.specs.Allowed.{AreFinished, is_aside}
use Rattle.blk_front.specs.declared.request.Request.{Request}
use Rattle.blk_front.specs.declared.request.Transfer.{Transfer}
use Rattle.blk_front.specs.declared.request.Transfer.TheVariants as transfer
use Rattle.blk_front.specs.Request.{is_indirect}
use Rattle.blk_front.specs.declared.stage.FrontStage.{FrontStage}
use Rattle.blk_front.specs.declared.stage.FrontStage.TheVariants as front
use Rattle.blk_front.specs.View.{next_request, ring_frame, slot_frame, slot_word}
use Rattle.blk_front.specs.View as front_view
use Rattle.blk_front.specs.Ask as front_ask
use Rattle.blk_front.specs.Submit as front_submit
use Rattle.ring_words.specs.Ring.{responses_of, requests_of}
use Rattle.ring_words.specs.Shape.{Shape}
use Rattle.back_jobs.specs.Work.{Work}
use Rattle.blk_back.specs.declared.stage.Reply.{Reply}
use Rattle.blk_back.specs.declared.stage.BackStage.{BackStage}
use Rattle.blk_back.specs.declared.stage.BackStage.TheVariants as back
use Rattle.blk_back.specs.Ask as back_ask
use Rattle.blk_back.specs.View as back_view
use Rattle.split_model.specs.World.{World, is_quiet}
use Rattle.split_model.specs.Safe.{IsSafe}
use Rattle.hypervisor.specs.Act.{has_to_take}
use Rattle.machine_pipeline.proofs.Flow.{Flow, ending_at, count_of, reply_at, reply_count}
use Rattle.machine_pipeline.proofs.Holds.{Holds, Stands, FrontAt, BackAt, FrontSends, BackSends}
use Rattle.machine_pipeline.specs.Step.{IsSame}
use Rattle.machine_pipeline.proofs.Over.{IsKept, HasGone, gone_by}
use Rattle.machine_pipeline.proofs.Keyed.{asides_do}
use Rattle.machine_pipeline.proofs.Drained.{finished_at}
use Rattle.machine_pipeline.proofs.Leaving.{through_is}
use Rattle.line_text.proofs.Both.{both_true}
use Rattle.std.proofs.lemmas.Bool.{cases_Bool, cond_both, or_parts, cases_eq, ne_eqb}
use Rattle.machine_pipeline.proofs.Lists.{get_within}

-- a front that waits, and not for its negotiation, sleeps in its loop and has no request to issue, or closes and has none left
record FrontSleeps (s : FrontStage) (asleep : Bool) (next : Option Request) (requests : ℕ) : Type 0 where
  pub looping : s ≡ front.Loop
  pub sleeps : (asleep ≡ true) ⊎ (requests ≡ 0)
  pub none_next : next ≡ None
  pub sends_none : (pushed fetched : ℕ) → FrontSends s pushed fetched → ⊥

acts : {A : Type 0} (waits : A → Bool) (b : Bool) (x y : A) → waits x ≡ false → waits y ≡ false → waits (if b then x else y) ≡ true → ⊥
acts {A} waits b x y e f t = true≢false (sym t ∙ cond_both b x y (λ (a : A). waits a ≡ false) (λ u. e) (λ u. f))

issue_acts : (v : front_view.View) (r : Request) (way : Transfer) → front_submit.is_wait (front_ask.issue_ask v r way) ≡ true → ⊥
issue_acts v r transfer.Read t = acts front_submit.is_wait (is_indirect r.count) (front_ask.page_ask (Some r) 0) (front_ask.name_ask (Some r) 0) refl refl t
issue_acts v r way t = true≢false (sym t)

front_sleeps : (shape : Shape) (start pushed taken seen : ℕ) (submitted : List Request) (replies : List Reply) (entry : List ℕ) (v : front_view.View) (s : FrontStage)
    → not (front_submit.is_led s) ≡ true
    → front_submit.is_wait (front_ask.ask_at s v) ≡ true
    → FrontAt shape start pushed taken seen submitted replies (next_request v) entry v.ending s
    → FrontSleeps s v.ring.asleep (next_request v) (length v.requests)
front_sleeps shape start pushed taken seen submitted replies entry v front.Loop ready waits at = in_loop (next_request v) v.ring.asleep waits
  where
    in_loop : (next : Option Request) (asleep : Bool) → front_submit.is_wait (front_ask.loop_ask (record v { ring = record v.ring { asleep = asleep } }) next) ≡ true → FrontSleeps front.Loop asleep next (length v.requests)
    in_loop (Some r) asleep t = absurd (issue_acts (record v { ring = record v.ring { asleep = asleep } }) r r.transfer t)
    in_loop None true t = record { looping = refl; sleeps = inl refl; none_next = refl; sends_none = λ p f x. x }
    in_loop None false t = elim (cases_Bool (front_ask.is_through v)) [
      | inl through ↦ (let left = through_is v.closing (length v.requests) through in record { looping = refl; sleeps = inr left.none; none_next = refl; sends_none = λ p f x. x })
      | inr through ↦ absurd (acts front_submit.is_wait (responses_of v.ring.indices v.ring.seen == 0) _ _ refl refl (rw through at t))
    ]
front_sleeps shape start pushed taken seen submitted replies entry v (front.Data n) ready waits at = absurd (true≢false (sym (rw at.1 at waits)))
front_sleeps shape start pushed taken seen submitted replies entry v (front.Pages n) ready waits at = absurd (true≢false (sym (rw at.1 at waits)))
front_sleeps shape start pushed taken seen submitted replies entry v (front.GrantFrame place) ready waits at = absurd (true≢false (sym (rw at.1 at waits)))
front_sleeps shape start pushed taken seen submitted replies entry v (front.GrantFlags place) ready waits at = absurd (true≢false (sym (rw at.1 at waits)))
front_sleeps shape start pushed taken seen submitted replies entry v (front.GrantRead place) ready waits at = absurd (true≢false (sym (rw at.1 at waits)))
front_sleeps shape start pushed taken seen submitted replies entry v (front.GrantEnd place before) ready waits at = absurd (true≢false (sym (rw at.1 at waits)))
front_sleeps shape start pushed taken seen submitted replies entry v (front.ReadData n) ready waits at = absurd (true≢false (sym (rw at.1 at waits)))
front_sleeps shape start pushed taken seen submitted replies entry v (front.LeftData n) ready waits at = absurd (true≢false (sym (rw at.1 at waits)))
front_sleeps shape start pushed taken seen submitted replies entry v front.Closed ready waits at = absurd at
front_sleeps shape start pushed taken seen submitted replies entry v (front.Broken word) ready waits at = absurd at
front_sleeps shape start pushed taken seen submitted replies entry v front.Initialised ready waits at = absurd (true≢false (sym ready))
front_sleeps shape start pushed taken seen submitted replies entry v (front.KeptRead frame) ready waits at = absurd at
front_sleeps shape start pushed taken seen submitted replies entry v (front.KeptEnd frame before) ready waits at = absurd at
front_sleeps shape start pushed taken seen submitted replies entry v front.Left ready waits at = absurd (true≢false (sym ready))
front_sleeps shape start pushed taken seen submitted replies entry v s ready waits at = absurd (true≢false (sym waits))

-- a back that waits sleeps in its loop, and replies to nothing
record BackSleeps (s : BackStage) (asleep : Bool) : Type 0 where
  pub sleeps : asleep ≡ true
  pub no_reply : reply_at s ≡ None
  pub sends_none : (replied taken : ℕ) → BackSends s replied taken → ⊥

back_sleeps : (shape : Shape) (start fetched seen replied : ℕ) (series : List Request) (works : List Work) (entry : List ℕ) (v : back_view.View) (s : BackStage)
    → not (back_ask.is_led s) ≡ true
    → back_ask.is_wait (back_ask.ask_at s v) ≡ true
    → BackAt shape start fetched seen replied series works entry s
    → BackSleeps s v.ring.asleep
back_sleeps shape start fetched seen replied series works entry v back.Loop free waits at = in_loop (back_ask.next_reply v) v.ring.asleep waits
  where
    in_loop : (next : Option Reply) (asleep : Bool) → back_ask.is_wait (back_ask.loop_ask (record v { ring = record v.ring { asleep = asleep } }) next) ≡ true → BackSleeps back.Loop asleep
    in_loop (Some r) asleep t = absurd (true≢false (sym t))
    in_loop None true t = record { sleeps = refl; no_reply = refl; sends_none = λ p f x. x }
    in_loop None false t = absurd (acts back_ask.is_wait (requests_of v.ring.indices v.ring.seen == 0) _ _ refl refl t)
back_sleeps shape start fetched seen replied series works entry v back.InitWait free waits at = absurd (true≢false (sym free))
back_sleeps shape start fetched seen replied series works entry v back.UnmapRing free waits at = absurd at
back_sleeps shape start fetched seen replied series works entry v back.UnmapUnbound free waits at = absurd at
back_sleeps shape start fetched seen replied series works entry v back.Halted free waits at = absurd at
back_sleeps shape start fetched seen replied series works entry v s free waits at = absurd (true≢false (sym waits))

-- what quiet says of each part
pub record AreQuiet (front_waits back_idle front_pending back_pending : Bool) : Type 0 where
  pub front : front_waits ≡ true
  pub back : back_idle ≡ true
  pub no_front : front_pending ≡ false
  pub no_back : back_pending ≡ false

pub all_quiet : (a b c e : Bool) → (a && b && not c && not e) ≡ true → AreQuiet a b c e
all_quiet true true false false t = record { front = refl; back = refl; no_front = refl; no_back = refl }
all_quiet a b c e t = absurd (true≢false (sym t))

-- an end that sleeps while no event is pending or comes has all that the other end pushed
caught_up : (a b : ℕ) (pending : Bool) (Sends : Type 0) → pending ≡ false → (Sends → ⊥) → (a ≡ b) ⊎ (pending ≡ true) ⊎ Sends → a ≡ b
caught_up a b pending Sends unmarked none (inl same) = same
caught_up a b pending Sends unmarked none (inr (inl t)) = absurd (true≢false (sym t ∙ unmarked))
caught_up a b pending Sends unmarked none (inr (inr sends)) = absurd (none sends)

-- where all requests wait and none is next there is none
none_waits : (requests : List Request) (waiting : ℕ) → length requests ≡ waiting → (if waiting == 0 then None else slice_get requests (length requests - waiting)) ≡ None → length requests ≡ 0
none_waits requests waiting same none = elim (cases_eq waiting 0) [
  | inl e ↦ omega arith
  | inr some ↦
      let first = get_within requests (length requests - waiting) (omega arith) in
      absurd (none-some first.0 (sym (rw (ne_eqb waiting 0 some) at none) ∙ first.1))
]

-- where all is quiet the front is in its loop, no request is left, and no job is held
pub record IsCaughtUp (w : World) : Type 0 where
  pub looping : w.front.stage ≡ front.Loop
  pub no_request : length w.front.requests ≡ 0
  pub no_job : length w.back.jobs.works ≡ 0

pub caught_up_at : (config : Options) (w : World) (g : Flow) (d : Pipeline) → is_quiet w ≡ true → Stands config w g d → IsCaughtUp w
caught_up_at config w g d quiet stands =
    let parts : AreQuiet (front_submit.is_idle w.front) (back_ask.is_idle w.back) (has_to_take w.under end.Front) (has_to_take w.under end.Back) = all_quiet _ _ _ _ quiet in
    let waiting = both_true (not (front_submit.is_led w.front.stage)) (front_submit.is_wait (front_ask.ask_of w.front)) parts.front in
    let sleeping = front_sleeps g.shape g.start g.pushed g.taken g.front_seen g.submitted g.replies w.front.ring.entry w.front w.front.stage waiting.0 waiting.1 h.front_at in
    let none_held = both_true (not (back_ask.is_led w.back.stage) && back_ask.is_wait (back_ask.ask_of w.back)) (length w.back.jobs.works == 0) parts.back in
    let idle = both_true (not (back_ask.is_led w.back.stage)) (back_ask.is_wait (back_ask.ask_of w.back)) none_held.0 in
    let back_side = back_sleeps g.shape g.start g.fetched g.back_seen g.replied g.series w.back.jobs.works w.back.ring.entry w.back w.back.stage idle.0 idle.1 h.back_at in
    let all_fetched = caught_up g.pushed g.fetched w.under.channels.back_pending _ (or_parts _ _ parts.no_back).0 (sleeping.sends_none g.pushed g.fetched) (h.back_sleep.woken back_side.sleeps) in
    let no_job : length w.back.jobs.works ≡ 0 = grind (arith, nat_tests, none_held.1) in
    let counted = subst (λ (r : Option Reply). length w.back.jobs.works + reply_count r + g.replied ≡ g.fetched) back_side.no_reply h.counted in
    record {
      looping = sleeping.looping;
      no_request = elim sleeping.sleeps [
        | inl sleeps ↦
            let replies_taken = caught_up g.replied g.taken w.under.channels.front_pending _ (or_parts _ _ parts.no_front).0 (back_side.sends_none g.replied g.taken) (h.front_sleep.woken sleeps) in
            none_waits w.front.requests w.front.waiting (omega (arith, h.indices.held, h.indices.all, all_fetched, replies_taken, counted, no_job)) sleeping.none_next
        | inr none ↦ none
      ];
      no_job = no_job;
    }
  where
    h : Holds config w g d w.front.stage w.back.stage
    h = stands.holds

-- so each request is finished, and where the ends have left, too
quiet_finished : (config : Options) (w : World) (d : Pipeline) → IsSafe w → IsKept config w d → is_quiet w ≡ true → AreFinished d
quiet_finished config w d safe (inl held) quiet =
    let rest = caught_up_at config w held.0 d quiet (record { safe = safe; holds = held.1 }) in
    finished_at config w held.0 d w.front.stage w.back.stage held.1 rest.no_request (ap (λ (s : FrontStage). count_of (ending_at s w.front.ending)) rest.looping)
quiet_finished config w d safe (inr over) quiet = record { each = over.finished }

-- a look tells what was found, and all is quiet where it was found so
pub look_goes : (config : Options) (w : World) (d : Pipeline) (quiet : Bool) (otherwise : Line) → is_aside otherwise ≡ true → (quiet ≡ true → is_quiet w ≡ true) → IsSafe w → IsKept config w d
    → HasGone None IsSame config ((if quiet then lines.Quiet else otherwise) ∷ []) w d
look_goes config w d true otherwise passes found safe kept =
    gone_by {steps = Rests ∷ []} (record { asides = []; aside = refl; shows = refl; asks = refl; allowed = (quiet_finished config w d safe kept (found refl), tt); disk = λ a b e. (b, e, refl) })
    kept
look_goes config w d false otherwise passes found safe kept = record { steps = []; does = asides_do d (otherwise ∷ []) (passes, tt); kept = kept }
