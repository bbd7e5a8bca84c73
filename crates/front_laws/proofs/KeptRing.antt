-- A front that leaves ends the grants of its ring's pages first, one after another.
use Rattle.std.proofs.Common.{◌≡◌, ◌≢◌, ℕ, ◌+◌, ◌<◌, ◌≤◌, ◌^◌, ◌&&◌, ◌==◌, Bool, true, false, if◌then◌else◌, [], ◌∷◌, length, drop, map, refl, sym, ap, ◌∙◌, subst, arith}
use Rattle.std.specs.Prelude.{Option, Some, None, nat_le, nat_lt}
use Rattle.std.proofs.lemmas.Bool.{false≢true}
use Rattle.std.proofs.lemmas.Option.{same_Some}
use Rattle.std.proofs.lemmas.Bool.Decides.{nat_tests}
use Rattle.blk_base.specs.declared.ask.FrontAsk.{FrontAsk}
use Rattle.blk_base.specs.declared.ask.FrontAsk.TheVariants.{Wait, Read, Write, Cas}
use Rattle.blk_base.specs.declared.ask.FrontAnswer.{FrontAnswer}
use Rattle.blk_base.specs.declared.ask.FrontAnswer.TheVariants as answer
use Rattle.ring_words.specs.Shape.{entries_of}
use Rattle.blk_front.specs.declared.request.Request.{Request}
use Rattle.blk_front.specs.declared.stage.FrontStage.{FrontStage}
use Rattle.blk_front.specs.declared.stage.FrontStage.TheVariants as stage
use Rattle.blk_front.specs.declared.state.FrontState.{FrontState}
use Rattle.blk_front.specs.declared.state.FrontState.TheVariants as state
use Rattle.blk_front.specs.declared.told.Told.{Told}
use Rattle.blk_front.specs.Pool.{taken_from}
use Rattle.blk_front.specs.State.{is_open, is_unmade, may_enter, in_state}
use Rattle.blk_front.specs.Submit.{accepted}
use Rattle.blk_front.specs.Suspend.{resumed, stage_after}
use Rattle.blk_front.specs.View.{View, ring_page_frame, entry_frame, entry_word, next_request}
use Rattle.blk_front.specs.Step.{at, broken, is_mapped}
use Rattle.blk_front.specs.Keep.{ask_as_at, step_as_at, step_as, ring_left_as, kept_stage, granted_as}
use Rattle.front_laws.specs.History.{Happening, Answered, TakesTold, Submits, Enters, Suspends, Asked, Submitted, Entered, Suspended}
use Rattle.front_laws.specs.Kept.{happened_as, lines_as, is_past_ring, ends}
use Rattle.front_laws.proofs.Changes.{both}
use Rattle.front_laws.proofs.Runs.{submit_cases}
use Rattle.front_laws.proofs.KeptAsks.{made_after, made_over, ended_now}
use Rattle.front_laws.proofs.KeptFrames.{IsNew}
use Rattle.front_laws.proofs.KeptStages.{Base, is_leaving, At, IsTidy}
use Rattle.front_laws.proofs.KeptSteps.{Goes, still, goes}
use Rattle.front_laws.proofs.KeptTurns.{grant_goes, order_stays}
use Rattle.front_laws.proofs.KeptRuns.{submitted_over}

-- whether the grant of a page's frame may stand as the front leaves
abbrev pub Ringed : FrontStage → (page : ℕ) → Bool → Type 0
Ringed (stage.RingRead p) page made = page < p → made ≡ false
Ringed (stage.RingEnd p before) page made = page < p → made ≡ false
Ringed (stage.KeptRead frame) page made = made ≡ false
Ringed (stage.KeptEnd frame before) page made = made ≡ false
Ringed stage.ClosePort page made = made ≡ false
Ringed stage.Left page made = made ≡ false
Ringed s page made = Unit {0}

-- before it leaves it may
at_work : (s : FrontStage) (page : ℕ) (made : Bool) → is_leaving s ≡ false → Ringed s page made
at_work (stage.RingRead p) page made stays = absurd (false≢true (sym stays))
at_work (stage.RingEnd p before) page made stays = absurd (false≢true (sym stays))
at_work (stage.KeptRead frame) page made stays = absurd (false≢true (sym stays))
at_work (stage.KeptEnd frame before) page made stays = absurd (false≢true (sym stays))
at_work stage.ClosePort page made stays = absurd (false≢true (sym stays))
at_work stage.Left page made stays = absurd (false≢true (sym stays))
at_work s page made stays = tt

-- and one that was ended stands at no stage
ended_at : (s : FrontStage) (page : ℕ) (made : Bool) → made ≡ false → Ringed s page made
ended_at (stage.RingRead p) page made none = λ lt. none
ended_at (stage.RingEnd p before) page made none = λ lt. none
ended_at (stage.KeptRead frame) page made none = none
ended_at (stage.KeptEnd frame before) page made none = none
ended_at stage.ClosePort page made none = none
ended_at stage.Left page made none = none
ended_at s page made none = tt

-- an ask that writes nothing makes no grant
abbrev is_mute : FrontAsk → Bool
is_mute (Write place word value) = false
is_mute ask = true

still_none : (f : ℕ) (ask : FrontAsk) (given : FrontAnswer) (told : Option Told) → is_mute ask ≡ true → made_after f false (Asked ask given told) ≡ false
still_none f (Write place word value) given told mute = absurd (false≢true mute)
still_none f ask given told mute = by_test (ends f (Asked ask given told))
  where
    by_test : (b : Bool) → (if b then false else false) ≡ false
    by_test true = refl
    by_test false = refl

mute_after : (f : ℕ) (made : Bool) (ask : FrontAsk) (given : FrontAnswer) (told : Option Told) → is_mute ask ≡ true → made ≡ false → made_after f made (Asked ask given told) ≡ false
mute_after f made ask given told mute none = ap (λ (b : Bool). made_after f b (Asked ask given told)) none ∙ still_none f ask given told mute

either_mute : (b : Bool) (x y : FrontAsk) → is_mute x ≡ true → is_mute y ≡ true → is_mute (if b then x else y) ≡ true
either_mute true x y p q = p
either_mute false x y p q = q

-- no stage as it leaves is reached from another
from_work : (s : FrontStage) (v w : View) (page : ℕ) (made : Bool) → is_leaving s ≡ false → Goes s v w → Ringed w.stage page made
from_work s v w page made stays g = by_test (is_leaving w.stage) refl
  where
    by_test : (b : Bool) → is_leaving w.stage ≡ b → Ringed w.stage page made
    by_test true leaves = absurd (false≢true (sym stays ∙ g.left leaves))
    by_test false at_work_still = at_work w.stage page made at_work_still

module _ (v : View) (page : ℕ) (within : page < 2 ^ v.shape.order) (base : Base v) (given : FrontAnswer) (told : Option Told) where
  abbrev f : ℕ
  f = ring_page_frame page

  -- a grant of the ring is looked at
  read_ringed : (p : ℕ) → v.stage ≡ stage.RingRead p → (x : FrontAnswer) (made : Bool) → (page < p → made ≡ false) → Ringed (step_as_at (stage.RingRead p) v x).stage page made
  read_ringed p here (answer.Word word) made i = by_test (is_mapped word)
    where
      by_test : (b : Bool) → Ringed (if b then broken word v else at (stage.RingEnd p word) v).stage page made
      by_test true = tt
      by_test false = i
  read_ringed p here x made i = subst (λ (s : FrontStage). Ringed s page made) (sym here) i

  -- it is ended
  abbrev exchange : ℕ → ℕ → FrontAsk
  exchange p before = Cas (entry_frame (ring_page_frame p)) (entry_word (ring_page_frame p)) before 0

  end_ringed : (p before : ℕ) → v.stage ≡ stage.RingEnd p before → (x : FrontAnswer) (made : Bool) → (page < p → made ≡ false)
      → Ringed (step_as_at (stage.RingEnd p before) v x).stage page (made_after f made (Asked (exchange p before) x told))
  end_ringed p before here (answer.Word word) made i = by_seen (word == before) refl
    where
      by_place : (word == before) ≡ true → (more : Bool) → nat_lt (p + 1) (2 ^ v.shape.order) ≡ more → (less same : Bool) → nat_lt page p ≡ less → (page == p) ≡ same
          → Ringed (if more then stage.RingRead (p + 1) else (if v.offers.persistent then kept_stage (taken_from v.kept 18) else stage.ClosePort)) page (made_after f made (Asked (exchange p before) (answer.Word word) told))
      by_place took more m true same l e = ended_at _ page (made_after f made (Asked (exchange p before) (answer.Word word) told)) (mute_after f made (exchange p before) (answer.Word word) told refl (i (grind (arith, nat_tests))))
      by_place took more m false true l e =
          let here : p ≡ page = grind (arith, nat_tests) in
          ended_at _ page (made_after f made (Asked (exchange p before) (answer.Word word) told)) (subst (λ (q : ℕ). made_after f made (Asked (exchange q before) (answer.Word word) told) ≡ false) (sym here) (ended_now f before word made told took))
      by_place took true m false false l e = λ lt. absurd (not_next page p l e lt)
        where
          not_next : (a b : ℕ) → nat_lt a b ≡ false → (a == b) ≡ false → a < b + 1 → ⊥
          not_next a b l e lt = let ge : b ≤ a = grind (arith, nat_tests) in let other : a ≢ b = grind (arith, nat_tests) in other (omega arith)
      by_place took false m false false l e = absurd (past page p (2 ^ v.shape.order) m l e within)
        where
          past : (a b n : ℕ) → nat_lt (b + 1) n ≡ false → nat_lt a b ≡ false → (a == b) ≡ false → a < n → ⊥
          past a b n m l e lt = let last : n ≤ b + 1 = grind (arith, nat_tests) in let ge : b ≤ a = grind (arith, nat_tests) in let other : a ≢ b = grind (arith, nat_tests) in other (omega arith)

      by_seen : (b : Bool) → (word == before) ≡ b → Ringed (if b then at (ring_left_as v p) v else broken word v).stage page (made_after f made (Asked (exchange p before) (answer.Word word) told))
      by_seen true took = by_place took (nat_lt (p + 1) (2 ^ v.shape.order)) refl (nat_lt page p) (page == p) refl refl
      by_seen false missed = tt
  end_ringed p before here x made i = subst (λ (s : FrontStage). Ringed s page made) (sym here) i

  -- the grant of the frame of this place is made
  grants_ringed : (place : ℕ) → v.stage ≡ stage.GrantFlags place → At (stage.GrantFlags place) v → (next : Option Request) → next_request v ≡ next → (made : Bool) → Ringed (granted_as next place v).stage page made
  grants_ringed place here i None is made = from_work (stage.GrantFlags place) v v page made refl (still (stage.GrantFlags place) v here base i)
  grants_ringed place here i (Some r) is made = from_work (stage.GrantFlags place) _ (granted_as (Some r) place v) page made refl (grant_goes v base r is place (λ keeps. let m = i keeps in subst (λ (q : Request). IsNew v.kept q.frames.items place) (same_Some m.r r (sym m.next_is ∙ is)) m.new))

  abbrev now_made : FrontStage → Bool → Bool
  now_made s made = made_after f made (Asked (ask_as_at s v) given told)

  silent : (s : FrontStage) (made : Bool) → is_mute (ask_as_at s v) ≡ true → made ≡ false → Ringed (step_as_at s v given).stage page (now_made s made)
  silent s made mute none = ended_at (step_as_at s v given).stage page (now_made s made) (mute_after f made (ask_as_at s v) given told mute none)

  answers_ringed : (s : FrontStage) → v.stage ≡ s → At s v → (made : Bool) → Ringed s page made → Ringed (step_as_at s v given).stage page (now_made s made)
  answers_ringed (stage.GrantFlags place) here i made was = grants_ringed place here i (next_request v) refl (now_made (stage.GrantFlags place) made)
  answers_ringed (stage.RingRead p) here i made was = read_ringed p here given made was
  answers_ringed (stage.RingEnd p before) here i made was = end_ringed p before here given made was
  answers_ringed (stage.KeptRead frame) here i made was = silent (stage.KeptRead frame) made (either_mute v.offers.persistent (Read (entry_frame frame) (entry_word frame)) Wait refl refl) was
  answers_ringed (stage.KeptEnd frame before) here i made was = silent (stage.KeptEnd frame before) made (either_mute v.offers.persistent (Cas (entry_frame frame) (entry_word frame) before 0) Wait refl refl) was
  answers_ringed stage.ClosePort here i made was = silent stage.ClosePort made refl was
  answers_ringed stage.Left here i made was = silent stage.Left made refl was
  answers_ringed s here i made was = from_work s v (step_as_at s v given) page (now_made s made) refl (goes s v given here tt base i)

-- and so whatever happens
abbrev pub Fits : ℕ → View → Bool → Type 0
Fits page v made = page < 2 ^ v.shape.order → Ringed v.stage page made

unmade_stays : (s : FrontStage) → is_unmade s ≡ true → is_leaving s ≡ false
unmade_stays (stage.RingWord k) unmade = refl
unmade_stays s unmade = absurd (false≢true unmade)

resumed_stays : (s : FrontStage) → is_leaving (stage_after s) ≡ false
resumed_stays (stage.ReadData n) = refl
resumed_stays (stage.LeftData n) = refl
resumed_stays s = refl

state_fits : (page : ℕ) (st : FrontState) (v : View) (made : Bool) → may_enter st v ≡ true → Fits page v made → Fits page (in_state st v) made
state_fits page (state.Agreed order) v made may i =
    let first = both (is_unmade v.stage && nat_le order v.shape.order) (nat_le (length v.requests) (entries_of order)) may in
    let second = both (is_unmade v.stage) (nat_le order v.shape.order) first.0 in
    λ lt. at_work v.stage page made (unmade_stays v.stage second.0)
state_fits page (state.Connected offers) v made may i = λ lt. tt
state_fits page state.Closing v made may i = i
state_fits page state.Leaving v made may i = λ lt none. absurd (omega arith)
state_fits page state.Closed v made may i = λ lt. tt
state_fits page (state.Broken word) v made may i = λ lt. tt

answers_fit : (page : ℕ) (v : View) (given : FrontAnswer) → IsTidy v → (made : Bool) → Fits page v made → Fits page (step_as v given) (made_over (ring_page_frame page) made (lines_as (Answered given) v))
answers_fit page v given t made i = λ lt.
    let within : page < 2 ^ v.shape.order = subst (λ (n : ℕ). page < 2 ^ n) (order_stays v.stage v given refl t.base t.at) lt in
    answers_ringed v page within t.base given (step_as v given).told v.stage refl t.at made (i within)

pub fits : (page : ℕ) (h : Happening) (v : View) → IsTidy v → (made : Bool) → Fits page v made → Fits page (happened_as h v) (made_over (ring_page_frame page) made (lines_as h v))
fits page (Answered given) v t made i = answers_fit page v given t made i
fits page TakesTold v t made i = i
fits page (Submits submission) v t made i =
    submit_cases (λ (x : View). Fits page x (made_over (ring_page_frame page) made (map Submitted (drop (length v.requests) x.requests)))) v submission
    (subst (Fits page v) (sym (submitted_over (ring_page_frame page) made (drop (length v.requests) v.requests))) i)
    (λ ready wish is taken took. subst (Fits page (accepted v wish taken)) (sym (submitted_over (ring_page_frame page) made (drop (length v.requests) (accepted v wish taken).requests))) i)
fits page (Enters st) v t made i = by_test (may_enter st v) refl
  where
    by_test : (b : Bool) → may_enter st v ≡ b → Fits page (if b then in_state st v else v) (made_over (ring_page_frame page) made (if b then Entered st ∷ [] else []))
    by_test true may = state_fits page st v made may i
    by_test false may = i
fits page Suspends v t made i = by_test (is_open v.stage)
  where
    by_test : (b : Bool) → Fits page (if b then resumed v else v) (made_over (ring_page_frame page) made (if b then Suspended ∷ [] else []))
    by_test true = λ lt. at_work (stage_after v.stage) page false (resumed_stays v.stage)
    by_test false = i

-- past the ring's grants none of them stands
pub past_none : (s : FrontStage) (page : ℕ) (made : Bool) → is_past_ring s ≡ true → Ringed s page made → made ≡ false
past_none (stage.KeptRead frame) page made past i = i
past_none (stage.KeptEnd frame before) page made past i = i
past_none stage.ClosePort page made past i = i
past_none stage.Left page made past i = i
past_none s page made past i = absurd (false≢true past)
