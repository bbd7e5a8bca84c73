-- The front enters a state, takes a submission, or begins anew after a suspend: the lines tell what it has then, too.
use Rattle.std.proofs.Common.{inl, inr, ◌≡◌, ℕ, zero, suc, ◌+◌, ◌-◌, ◌^◌, ◌<◌, ◌==◌, ◌&&◌, Bool, true, false, true≢false, not, if◌then◌else◌, List, [], ◌∷◌, ◌++◌, length, length-set, length-append, refl, sym, ap, ◌∙◌, subst, arith}
use Rattle.std.specs.Prelude.{All, IfSome, Option, Some, None, Result, Ok, Err, nat_lt, nat_le, slice_get}
use Rattle.std.specs.List.{position_or_len}
use Rattle.std.proofs.lemmas.Option.{none-some, same_Some}
use Rattle.std.proofs.lemmas.Bool.{cases_lt}
use Rattle.std.proofs.lemmas.Bool.Decides.{nat_tests}
use Rattle.std.proofs.lemmas.List.Elements.{All-nil, All-push}
use Rattle.line_text.proofs.Both.{both_true}
use Rattle.blk_base.specs.declared.config.Submission.{Submission}
use Rattle.ring_words.specs.Shape.{entries_of}
use Rattle.schedule_text.specs.declared.line.Line.{Line}
use Rattle.schedule_text.specs.declared.line.Line.TheVariants as lines
use Rattle.blk_front.specs.declared.request.Request.{Request}
use Rattle.blk_front.specs.declared.request.Wish.{Wish}
use Rattle.blk_front.specs.declared.stage.FrontStage.{FrontStage}
use Rattle.blk_front.specs.declared.stage.FrontStage.TheVariants as stage
use Rattle.blk_front.specs.declared.stage.Ending.{Ending}
use Rattle.blk_front.specs.declared.state.FrontState.{FrontState}
use Rattle.blk_front.specs.declared.state.FrontState.TheVariants as enter
use Rattle.blk_base.specs.declared.refusal.Refusal.{Refusal}
use Rattle.blk_front.specs.Pool.{empty_pool, taking, with_taken}
use Rattle.blk_front.specs.Request.{is_write, named_of, frames_for}
use Rattle.blk_front.specs.State.{is_open, is_unmade, is_made, may_enter, in_state, enters}
use Rattle.blk_front.specs.Submit.{is_ready, is_initialised, unfinished, wish_of, most_segments, frames_taken, request_with, accepted, submit_with, submit_one, submit_of}
use Rattle.blk_front.specs.Suspend.{with_ending, requests_after, ending_after, stage_after, resumed}
use Rattle.blk_front.specs.View.{View, next_request, no_offers}
use Rattle.split_model.specs.Happening.{submit_line}
use Rattle.split_model.proofs.States.{enters_cases}
use Rattle.machine_pipeline.proofs.Holds.{IsPooled}
use Rattle.machine_pipeline.proofs.Growing.{taken_next, taken_none}
use Rattle.machine_pipeline.proofs.Lists.{get_append}
use Rattle.front_laws.proofs.Changes.{unmade_open}
use Rattle.negotiation_laws.proofs.Choices.{either}
use Rattle.vbd_laws.specs.Breaks.{FrontSight, after_line}
use Rattle.vbd_laws.proofs.BreaksKnown.{core_of, Share, share_of, HasPooled, going_at, request_of, with_going, Agree, agree_submitted, agree_anew, anew_core, anew_share}
use Rattle.vbd_laws.proofs.BreaksKept.{Parts, parts_of, IsEnding, AtParts, KnownBy}
use Rattle.vbd_laws.proofs.NegotiatedAgreed.{IsSame}

-- while the front is neither closed nor broken
abbrev pub Knows : FrontSight → View → Type 0
Knows s v = is_open v.stage ≡ true → KnownBy s v.stage v

-- the order is agreed before the ring is begun
agreed : (s : FrontSight) (order : ℕ) (v : View) (t : FrontStage) → order ≡ v.shape.order → is_unmade t ≡ true → KnownBy s t v
    → KnownBy s t (record v { shape = record v.shape { order = order }; ring = record v.ring { indices = record { entries = entries_of order; prod = v.start; cons = v.start }; seen = v.start } })
agreed s order v (stage.RingWord k) same unmade known =
    let agree = known.agree in
    let begun = known.at.0 in
    record {
      agree = record {
        start = agree.start;
        shape = agree.shape ∙ ap (λ (n : ℕ). record v.shape { order = n }) (sym same);
        small = subst (λ (p : ℕ). p < 2 ^ 32) begun.0 agree.small;
        prod = agree.prod ∙ begun.0;
        cons = sym begun.1 ∙ agree.cons;
        pooled = agree.pooled;
        once = agree.once;
        fresh = agree.fresh;
        waits = agree.waits;
        issued = agree.issued;
        owed = agree.owed;
      };
      at = ((refl, refl), known.at.1);
    }
agreed s order v t same unmade known = absurd (true≢false (sym unmade))

connected : (s : FrontSight) (v x : View) (t : FrontStage) → share_of x ≡ share_of v → is_initialised t ≡ true → KnownBy s t v → KnownBy s stage.Loop x
connected s v x stage.Initialised same is known = record { agree = subst (λ (k : Share). Agree (core_of s) k None) (sym same) known.agree; at = known.at }
connected s v x t same is known = absurd (true≢false (sym is))

leaves : (s : FrontSight) (v x : View) (t : FrontStage) → share_of x ≡ share_of v → is_made t ≡ true → KnownBy s t v → KnownBy s (stage.RingRead 0) x
leaves s v x stage.Initialised same is known = record { agree = subst (λ (k : Share). Agree (core_of s) k None) (sym same) known.agree; at = record { few = omega arith; none = known.at } }
leaves s v x stage.Loop same is known = record { agree = subst (λ (k : Share). Agree (core_of s) k None) (sym same) known.agree; at = record { few = omega arith; none = known.at } }
leaves s v x t same is known = absurd (true≢false (sym is))

pub initialised_open : (t : FrontStage) → is_initialised t ≡ true → is_open t ≡ true
initialised_open stage.Initialised e = refl
initialised_open t e = absurd (true≢false (sym e))

pub made_open : (t : FrontStage) → is_made t ≡ true → is_open t ≡ true
made_open stage.Initialised e = refl
made_open stage.Loop e = refl
made_open t e = absurd (true≢false (sym e))

in_state_knows : (s : FrontSight) (state : FrontState) (v : View) → IsSame state v.shape.order → may_enter state v ≡ true → Knows s v → Knows s (in_state state v)
in_state_knows s (enter.Agreed order) v same may knows opened =
    let unmade = (both_true (is_unmade v.stage) (nat_le order v.shape.order) (both_true _ _ may).0).0 in
    agreed s order v v.stage same unmade (knows (unmade_open v.stage unmade))
in_state_knows s (enter.Connected offers) v same may knows opened = connected s v _ v.stage refl may (knows (initialised_open v.stage may))
in_state_knows s enter.Closing v same may knows opened = let known = knows opened in record { agree = known.agree; at = known.at }
in_state_knows s enter.Leaving v same may knows opened = let made = (both_true _ (is_made v.stage) may).1 in leaves s v _ v.stage refl made (knows (made_open v.stage made))
in_state_knows s other v same may knows opened = absurd (true≢false (sym opened))

pub enters_knows : (s : FrontSight) (state : FrontState) (v : View) → IsSame state v.shape.order → Knows s v → Knows s (enters state v)
enters_knows s state v same knows = enters_cases (λ (x : View) (shown : List Line). Knows s x) state v (λ may. in_state_knows s state v same may knows) knows

-- the frames that a request takes are the pool's
taking_pooled : (n : ℕ) (pool : List Bool) (frames : List ℕ) (taken : List ℕ × List Bool) → length pool ≡ 1000 → All IsPooled frames → taking n pool frames ≡ Some taken → All IsPooled taken.0
taking_pooled zero pool frames taken size all e = subst (λ (x : List ℕ × List Bool). All IsPooled x.0) (same_Some (frames, pool) taken e) all
taking_pooled (suc n) pool frames taken size all e =
    let place : ℕ = position_or_len not pool in
    elim (cases_lt place (length pool)) [
      | inl lt ↦ taking_pooled n (with_taken pool (18 + place)) (frames ++ (18 + place) ∷ []) taken (length-set pool (18 + place - 18) true ∙ size) (All-push IsPooled frames (18 + place) all (omega arith, omega arith)) (sym (taken_next n pool frames lt) ∙ e)
      | inr none ↦ absurd (none-some taken (sym (taken_none n pool frames none) ∙ e))
    ]

-- what a submission gives: a refusal, or the next number
submit_cases : (P : Result ℕ Refusal × View → Type 0) (v : View) (job : Submission) → ((why : Refusal) → P (Err why, v)) → ((wish : Wish) (taken : List ℕ × List Bool) → taking (frames_taken wish.count) v.pool [] ≡ Some taken → P (Ok (v.last + 1), accepted v wish taken)) → P (submit_of v job)
submit_cases P v job refused takes =
    either P (v.last == 4294967295) _ _ (refused _) (either P v.closing _ _ (refused _) (either P (not (is_ready v.stage)) _ _ (refused _) (by_wish (wish_of v.offers job))))
  where
    by_taken : (wish : Wish) (o : Option (List ℕ × List Bool)) → taking (frames_taken wish.count) v.pool [] ≡ o → P (submit_with v wish o)
    by_taken wish None e = refused _
    by_taken wish (Some taken) e = takes wish taken e

    by_wish : (o : Option Wish) → P (submit_one v o)
    by_wish None = refused _
    by_wish (Some wish) =
        either P (is_write wish.transfer && v.offers.read_only) _ _ (refused _) (either P (nat_lt v.offers.sectors (wish.sector + named_of wish.transfer wish.count)) _ _ (refused _)
        (either P (nat_lt (most_segments v.offers wish.transfer) (frames_for wish.count)) _ _ (refused _) (either P (nat_le (entries_of v.shape.order) (unfinished v)) _ _ (refused _) (by_taken wish (taking (frames_taken wish.count) v.pool []) refl))))

-- the next request stays
next_more : (v : View) (r x : Request) → next_request v ≡ Some r → (if v.waiting + 1 == 0 then None else slice_get (v.requests ++ x ∷ []) (length (v.requests ++ x ∷ []) - (v.waiting + 1))) ≡ Some r
next_more v r x e = by_test (v.waiting == 0) e
  where
    by_test : (b : Bool) → (if b then None else slice_get v.requests (length v.requests - v.waiting)) ≡ Some r → (if v.waiting + 1 == 0 then None else slice_get (v.requests ++ x ∷ []) (length (v.requests ++ x ∷ []) - (v.waiting + 1))) ≡ Some r
    by_test true e = absurd (none-some r e)
    by_test false e =
        let some : (v.waiting + 1 == 0) ≡ false = grind (arith, nat_tests) in
        let place : length (v.requests ++ x ∷ []) - (v.waiting + 1) ≡ length v.requests - v.waiting = omega (arith, length-append v.requests (x ∷ [])) in
        ap (λ (b : Bool). if b then None else slice_get (v.requests ++ x ∷ []) (length (v.requests ++ x ∷ []) - (v.waiting + 1))) some
        ∙ (ap (slice_get (v.requests ++ x ∷ [])) place ∙ get_append v.requests (x ∷ []) (length v.requests - v.waiting) r e)

-- what stands at a stage stays where more requests wait
at_more : (t : FrontStage) (response : List ℕ) (written : ℕ → ℕ → ℕ) (p : Parts) (next : Option Request) → ((r : Request) → p.next ≡ Some r → next ≡ Some r) → AtParts t response written p → AtParts t response written (record p { next = next })
at_more (stage.Data n) response written p next more at = record { r = at.r; next_is = more at.r at.next_is; none = at.none }
at_more (stage.Pages n) response written p next more at = record { r = at.r; next_is = more at.r at.next_is; none = at.none }
at_more (stage.GrantFrame place) response written p next more at = record { r = at.r; next_is = more at.r at.next_is; none = at.none }
at_more (stage.GrantFence place) response written p next more at = record { r = at.r; next_is = more at.r at.next_is; none = at.none }
at_more (stage.GrantFlags place) response written p next more at = record { r = at.r; next_is = more at.r at.next_is; none = at.none }
at_more (stage.Slot k) response written p next more at = record { r = at.r; next_is = more at.r at.next_is; entry_is = at.entry_is; words = at.words; none = at.none }
at_more stage.Producer response written p next more at = record { r = at.r; next_is = more at.r at.next_is; entry_is = at.entry_is; words = at.words; none = at.none }
at_more t response written p next more at = at

-- a submission
pub submit_knows : (s : FrontSight) (v : View) (job : Submission) → length v.pool ≡ 1000 → Knows s v → (let x : Result ℕ Refusal × View = submit_of v job in Knows (after_line s (submit_line job x.0)) x.1)
submit_knows s v job size knows =
    submit_cases (λ (x : Result ℕ Refusal × View). Knows (after_line s (submit_line job x.0)) x.1) v job (λ why opened. knows opened)
    (λ wish taken e opened. (
    let known = knows opened in
    record {
      agree = agree_submitted (core_of s) (share_of v) (going_at v.stage v.ending) (request_with v wish taken.0) refl (taking_pooled (frames_taken wish.count) v.pool [] taken size (All-nil IsPooled) e) known.agree;
      at = at_more v.stage s.response s.written (parts_of v) _ (λ r is. next_more v r (request_with v wish taken.0) is) known.at;
    }))

-- a suspend: each request waits again
abbrev resumed_at : FrontStage → View → View
resumed_at t v = record v {
  offers = no_offers;
  ring = record v.ring { indices = record { entries = entries_of v.shape.order; prod = v.start; cons = v.start }; asleep = false; seen = v.start };
  stage = stage_after t;
  waiting = length (requests_after t v.ending v.requests);
  requests = requests_after t v.ending v.requests;
  ending = ending_after t v.ending;
  kept = empty_pool;
}

again : (o : Option Ending) (requests : List Request) → with_going (request_of o) requests ≡ with_ending o requests
again None requests = refl
again (Some e) requests = refl

its_frames : (o : Option Ending) (response : List ℕ) → IsEnding o response → IfSome (request_of o) HasPooled
its_frames None response at = tt
its_frames (Some e) response at = subst (λ (x : Ending). HasPooled x.request) (same_Some at.e e (sym at.ending_is)) at.pooled

ending_anew : (s : FrontSight) (v : View) → v.start < 2 ^ 32 → IsEnding v.ending s.response → Agree (core_of s) (share_of v) (request_of v.ending) → Agree (anew_core (core_of s)) (anew_share (share_of v) (with_ending v.ending v.requests)) None
ending_anew s v small at agree =
    subst (λ (l : List Request). Agree (anew_core (core_of s)) (anew_share (share_of v) l) None) (again v.ending v.requests)
    (agree_anew (core_of s) (share_of v) (request_of v.ending) small (its_frames v.ending s.response at) agree)

resumed_by : (s : FrontSight) (t : FrontStage) (v : View) → v.start < 2 ^ 32 → KnownBy s t v → KnownBy (after_line s lines.Epoch) (stage_after t) (resumed_at t v)
resumed_by s (stage.GrantRead place) v small known = record { agree = ending_anew s v small known.at known.agree; at = ((refl, refl), refl) }
resumed_by s (stage.GrantEnd place seen) v small known = record { agree = ending_anew s v small known.at known.agree; at = ((refl, refl), refl) }
resumed_by s (stage.ReadData n) v small known =
    let at = known.at in
    record { agree = agree_anew (core_of s) (share_of v) None small tt known.agree; at = ((refl, refl), record { e = at.e; ending_is = at.ending_is; pooled = at.pooled; none = refl }) }
resumed_by s (stage.LeftData n) v small known =
    let at = known.at.1 in
    record { agree = agree_anew (core_of s) (share_of v) None small tt known.agree; at = ((refl, refl), record { e = at.e; ending_is = at.ending_is; pooled = at.pooled; none = refl }) }
resumed_by s t v small known = record { agree = agree_anew (core_of s) (share_of v) None small tt known.agree; at = ((refl, refl), refl) }

pub resumed_knows : (s : FrontSight) (v : View) → v.start < 2 ^ 32 → KnownBy s v.stage v → Knows (after_line s lines.Epoch) (resumed v)
resumed_knows s v small known opened = resumed_by s v.stage v small known
