-- Whatever happens to a front as it is, what is true of it at its stage stays so; and where it keeps grants, those that it keeps are those that its lines made.
use Rattle.std.proofs.Common.{◌≡◌, ◌≢◌, ℕ, ◌+◌, ◌<◌, ◌≤◌, ◌||◌, ◌==◌, Bool, true, false, if◌then◌else◌, List, [], ◌∷◌, length, get_or, inl, inr, refl, sym, ap, ◌∙◌, subst, arith}
use Rattle.std.specs.Prelude.{Option, Some, None, nat_lt}
use Rattle.std.proofs.lemmas.Bool.{false≢true, cases_lt}
use Rattle.std.proofs.lemmas.Bool.Decides.{nat_tests}
use Rattle.std.proofs.lemmas.Option.{same_Some}
use Rattle.std.proofs.lemmas.List.{get_or_default}
use Rattle.blk_base.specs.declared.ask.FrontAnswer.{FrontAnswer}
use Rattle.blk_base.specs.declared.ask.FrontAnswer.TheVariants as answer
use Rattle.blk_base.specs.declared.ask.FrontAsk.TheVariants.{Wait, Write, Cas}
use Rattle.blk_front.specs.declared.request.Request.{Request}
use Rattle.blk_front.specs.declared.stage.FrontStage.{FrontStage}
use Rattle.blk_front.specs.declared.stage.FrontStage.TheVariants as stage
use Rattle.blk_front.specs.declared.told.Told.{Told}
use Rattle.blk_front.specs.Pool.{with_taken, with_free, is_taken, taken_from, untaken_from}
use Rattle.blk_front.specs.Request.{frame_at}
use Rattle.blk_front.specs.View.{View, next_request, entry_frame, entry_word}
use Rattle.blk_front.specs.Step.{broken}
use Rattle.blk_front.specs.Keep.{ask_as_at, grant_ask_as, next_place, granted_as, with_grant, grants, kept_gone, kept_ended, step_as_at}
use Rattle.front_laws.specs.History.{Line, Asked}
use Rattle.front_laws.proofs.Places.{IsPooled, pooled_at}
use Rattle.front_laws.proofs.KeptFrames.{AreKeptTo, IsNew, UntakenIs, untaken_is, taken_is, NoneBelow, taken_same, taken_other, free_same, free_other, size_taken, size_free}
use Rattle.front_laws.proofs.KeptAsks.{made_after, made_over, untouched, not_other, made_now, ended_now, not_ended}
use Rattle.front_laws.proofs.KeptStages.{IsOwn, IsBase, Base, is_early, At, IsTidy, next_own}
use Rattle.front_laws.proofs.KeptQuiet.{quiet}
use Rattle.front_laws.proofs.KeptSteps.{Goes, PlaceIs, place_is, grants_goes, still, breaks, kept_goes, goes}

-- before it is connected, or where it keeps grants, a frame's grant is kept where the lines so far made it
abbrev pub is_told : View → Bool
is_told v = is_early v.stage || v.offers.persistent

abbrev pub Ledger : ℕ → View → Bool → Type 0
Ledger f v made = is_told v ≡ true → is_taken v.kept f ≡ made

-- and so after some lines
pub record Turns (f : ℕ) (v w : View) (lines : List Line) : Type 0 where
  pub tidy : IsTidy w
  pub told : (made : Bool) → Ledger f v made → Ledger f w (made_over f made lines)

pub either_told : (a b : Bool) (c d : Bool) → (a ≡ true → c ≡ true) → (b ≡ true → d ≡ true) → (a || b) ≡ true → (c || d) ≡ true
either_told true b true d early keeps e = refl
either_told true b false d early keeps e = absurd (false≢true (early refl))
either_told false b true d early keeps e = refl
either_told false b false d early keeps e = keeps e

told_still : (s : FrontStage) (v w : View) → v.stage ≡ s → Goes s v w → is_told w ≡ true → is_told v ≡ true
told_still s v w here g e = either_told (is_early w.stage) w.offers.persistent (is_early v.stage) v.offers.persistent (λ t. ap is_early here ∙ g.early t) (λ t. sym g.keeps ∙ t) e

-- a line that makes and ends none
calm_turns : (f : ℕ) (s : FrontStage) (v w : View) (line : Line) → v.stage ≡ s → Goes s v w → ((made : Bool) → made_after f made line ≡ made) → Turns f v w (line ∷ [])
calm_turns f s v w line here g none = record {
  tidy = record { base = g.base; at = g.at };
  told = λ made ledger t. ap (λ (l : List Bool). is_taken l f) g.same ∙ (ledger (told_still s v w here g t) ∙ sym (none made));
}

-- and one that may, where no grants are kept
plain_turns : (f : ℕ) (s : FrontStage) (v w : View) (line : Line) → is_early s ≡ false → v.offers.persistent ≡ false → Goes s v w → Turns f v w (line ∷ [])
plain_turns f s v w line after never g = record {
  tidy = record { base = g.base; at = g.at };
  told = λ made ledger t. absurd (false≢true (either_told (is_early w.stage) w.offers.persistent false false (λ e. sym after ∙ g.early e) (λ e. sym never ∙ (sym g.keeps ∙ e)) t));
}

-- where grants are kept, the grant of a frame is made
module _ (v : View) (base : Base v) (r : Request) (next : next_request v ≡ Some r) (place : ℕ) where
  abbrev g : ℕ
  g = frame_at r place

  own : IsOwn r
  own = next_own v r base next

  pooled : IsPooled g
  pooled = pooled_at r own.pooled place

  granted_base : (p : Bool) → IsBase v.shape.order v.kept v.pool v.requests v.ending p → IsBase v.shape.order (if p then with_taken v.kept g else v.kept) v.pool v.requests v.ending p
  granted_base true b = record { few = b.few; size = size_taken v.kept g b.size pooled; frames = b.frames; own = b.own; ends = b.ends; plain = λ e. absurd (false≢true (sym e)) }
  granted_base false b = b

  still_kept : (h : ℕ) → 18 ≤ h → is_taken v.kept h ≡ true → is_taken (with_taken v.kept g) h ≡ true
  still_kept h low is = by_test (h == g) refl
    where
      by_test : (b : Bool) → (h == g) ≡ b → is_taken (with_taken v.kept g) h ≡ true
      by_test true e = let same : h ≡ g = grind (arith, nat_tests) in ap (λ (x : ℕ). is_taken (with_taken v.kept g) x) same ∙ taken_same v.kept g base.size pooled
      by_test false e = taken_other v.kept g base.size pooled h low (grind (arith, nat_tests)) ∙ is

  kept_to : IsNew v.kept r.frames.items place → AreKeptTo (with_taken v.kept g) r.frames.items (place + 1)
  kept_to new k d lt within = elim (cases_lt k place) [
    | inl early ↦ still_kept (get_or r.frames.items k d) (own.pooled k d within).0 (new.before k d early within)
    | inr late ↦
        let here : get_or r.frames.items k d ≡ g = ap (λ (n : ℕ). get_or r.frames.items n d) (omega arith) ∙ get_or_default r.frames.items place d 18 new.within in
        ap (λ (x : ℕ). is_taken (with_taken v.kept g) x) here ∙ taken_same v.kept g base.size pooled
  ]

  abbrev x : View
  x = with_grant v g

  next_is : (v.offers.persistent ≡ true → IsNew v.kept r.frames.items place) → PlaceIs x (next_place x r (place + 1))
  next_is new = place_is x r next (next_place x r (place + 1)) (λ keeps.
      let kept : x.kept ≡ with_taken v.kept g = ap (λ (b : Bool). if b then with_taken v.kept g else v.kept) keeps in
      subst (λ (b : Bool). UntakenIs x.kept r.frames.items (if b then untaken_from x.kept r.frames.items (place + 1) else (if nat_lt (place + 1) (length r.frames.items) then Some (place + 1) else None))) (sym keeps)
      (untaken_is x.kept r.frames.items (place + 1) (subst (λ (l : List Bool). AreKeptTo l r.frames.items (place + 1)) (sym kept) (kept_to (new keeps)))))

  pub grant_goes : (v.offers.persistent ≡ true → IsNew v.kept r.frames.items place) → Goes (stage.GrantFlags place) x (granted_as (Some r) place v)
  grant_goes new = grants_goes (stage.GrantFlags place) x r (next_place x r (place + 1)) (granted_base v.offers.persistent base) (next_is new)

  -- and kept from then on
  pub kept_granted : v.offers.persistent ≡ true → IsNew v.kept r.frames.items place → (granted_as (Some r) place v).kept ≡ with_taken v.kept g
  kept_granted keeps new = (grant_goes (λ keeps. new)).same ∙ ap (λ (b : Bool). if b then with_taken v.kept g else v.kept) keeps

  pub grant_turns : (f : ℕ) → IsPooled f → (p : Bool) → v.offers.persistent ≡ p → (v.offers.persistent ≡ true → IsNew v.kept r.frames.items place) → (given : FrontAnswer) (told : Option Told)
      → Turns f v (granted_as (Some r) place v) (Asked (grant_ask_as p (Some r) place) given told ∷ [])
  grant_turns f its p is new given told = record { tidy = record { base = went.base; at = went.at }; told = by_keeping p is }
    where
      went : Goes (stage.GrantFlags place) x (granted_as (Some r) place v)
      went = grant_goes new

      by_keeping : (p : Bool) → v.offers.persistent ≡ p → (made : Bool) → Ledger f v made → Ledger f (granted_as (Some r) place v) (made_after f made (Asked (grant_ask_as p (Some r) place) given told))
      by_keeping false never made ledger t = absurd (false≢true (either_told (is_early (granted_as (Some r) place v).stage) (granted_as (Some r) place v).offers.persistent false false went.early (λ e. sym never ∙ (sym went.keeps ∙ e)) t))
      by_keeping true keeps made ledger t = by_test (g == f) refl
        where
          kept : (granted_as (Some r) place v).kept ≡ with_taken v.kept g
          kept = kept_granted keeps (new keeps)

          by_test : (b : Bool) → (g == f) ≡ b → is_taken (granted_as (Some r) place v).kept f ≡ made_after f made (Asked (Write (entry_frame g) (entry_word g) 1) given told)
          by_test true e =
              let same : g ≡ f = grind (arith, nat_tests) in
              ap (λ (l : List Bool). is_taken l f) kept
              ∙ (subst (λ (y : ℕ). is_taken (with_taken v.kept g) y ≡ true) same (taken_same v.kept g base.size pooled)
              ∙ sym (subst (λ (y : ℕ). made_after y made (Asked (Write (entry_frame g) (entry_word g) 1) given told) ≡ true) same (made_now g made given told)))
          by_test false e =
              let other : g ≢ f = grind (arith, nat_tests) in
              ap (λ (l : List Bool). is_taken l f) kept
              ∙ (taken_other v.kept g base.size pooled f its.0 (λ same. other (sym same))
              ∙ (ledger (either_told false true (is_early v.stage) v.offers.persistent (λ e. absurd (false≢true e)) (λ e. keeps) refl)
              ∙ sym (untouched f made (Write (entry_frame g) (entry_word g) 1) given told (not_other f g other))))

-- the grant of the frame of this place is made, where there is a request
grants_turn : (f : ℕ) → IsPooled f → (v : View) (place : ℕ) → v.stage ≡ stage.GrantFlags place → Base v → At (stage.GrantFlags place) v → (given : FrontAnswer) (told : Option Told)
    → Turns f v (step_as_at (stage.GrantFlags place) v given) (Asked (ask_as_at (stage.GrantFlags place) v) given told ∷ [])
grants_turn f its v place here base i given told = by_next (next_request v) refl
  where
    by_next : (next : Option Request) → next_request v ≡ next → Turns f v (granted_as next place v) (Asked (grant_ask_as v.offers.persistent next place) given told ∷ [])
    by_next None is = calm_turns f (stage.GrantFlags place) v v (Asked Wait given told) here (still (stage.GrantFlags place) v here base i) (λ made. refl)
    by_next (Some r) is = grant_turns v base r is place f its v.offers.persistent refl (λ keeps.
        let m = i keeps in
        subst (λ (q : Request). IsNew v.kept q.frames.items place) (same_Some m.r r (sym m.next_is ∙ is)) m.new) given told

-- a kept grant is ended
module _ (v : View) (frame before : ℕ) (here : v.stage ≡ stage.KeptEnd frame before) (base : Base v) (i : At (stage.KeptEnd frame before) v) where
  abbrev emptied : View
  emptied = record v { kept = with_free v.kept frame }

  gone_base : Base emptied
  gone_base = record { few = base.few; size = size_free v.kept frame base.size i.lowest.pooled; frames = base.frames; own = base.own; ends = base.ends; plain = λ e. absurd (false≢true (sym e ∙ i.keeps)) }

  none_now : NoneBelow (with_free v.kept frame) (frame + 1)
  none_now h from to = by_test (h == frame) refl
    where
      by_test : (b : Bool) → (h == frame) ≡ b → is_taken (with_free v.kept frame) h ≡ false
      by_test true e = let same : h ≡ frame = grind (arith, nat_tests) in ap (λ (y : ℕ). is_taken (with_free v.kept frame) y) same ∙ free_same v.kept frame base.size i.lowest.pooled
      by_test false e = let other : h ≢ frame = grind (arith, nat_tests) in free_other v.kept frame base.size i.lowest.pooled h from other ∙ i.lowest.below h from (let low = i.lowest.pooled in not_last h frame other to)
        where
          not_last : (h frame : ℕ) → h ≢ frame → h < frame + 1 → h < frame
          not_last h frame other to = elim (cases_lt h frame) [ inl lt ↦ lt | inr ge ↦ absurd (other (omega arith)) ]

  gone_goes : Goes (stage.KeptEnd frame before) emptied (kept_gone v frame)
  gone_goes =
      let low = i.lowest.pooled in
      kept_goes (stage.KeptEnd frame before) emptied (taken_from (with_free v.kept frame) (frame + 1)) refl gone_base i.keeps i.leaves
      (taken_is (with_free v.kept frame) (frame + 1) (size_free v.kept frame base.size i.lowest.pooled) (omega arith) none_now)

  module _ (f : ℕ) (its : IsPooled f) (told : Option Told) where
    abbrev asked : FrontAnswer → Line
    asked given = Asked (Cas (entry_frame frame) (entry_word frame) before 0) given told

    gone_turns : (word : ℕ) → (word == before) ≡ true → Turns f v (kept_gone v frame) (asked (answer.Word word) ∷ [])
    gone_turns word took = record { tidy = record { base = gone_goes.base; at = gone_goes.at }; told = λ made ledger t. by_test (frame == f) refl made ledger }
      where
        by_test : (b : Bool) → (frame == f) ≡ b → (made : Bool) → Ledger f v made → is_taken (kept_gone v frame).kept f ≡ made_after f made (asked (answer.Word word))
        by_test true e made ledger =
            let same : frame ≡ f = grind (arith, nat_tests) in
            subst (λ (y : ℕ). is_taken (with_free v.kept frame) y ≡ false) same (free_same v.kept frame base.size i.lowest.pooled)
            ∙ sym (subst (λ (y : ℕ). made_after y made (asked (answer.Word word)) ≡ false) same (ended_now frame before word made told took))
        by_test false e made ledger =
            let other : frame ≢ f = grind (arith, nat_tests) in
            free_other v.kept frame base.size i.lowest.pooled f its.0 (λ same. other (sym same))
            ∙ (ledger (either_told false true (is_early v.stage) v.offers.persistent (λ e. absurd (false≢true e)) (λ e. i.keeps) refl)
            ∙ sym (untouched f made (Cas (entry_frame frame) (entry_word frame) before 0) (answer.Word word) told (not_other f frame other)))

    word_turns : (word : ℕ) → Turns f v (kept_ended v frame before word) (asked (answer.Word word) ∷ [])
    word_turns word = by_test (word == before) refl
      where
        by_test : (b : Bool) → (word == before) ≡ b → Turns f v (if b then kept_gone v frame else broken word v) (asked (answer.Word word) ∷ [])
        by_test true took = gone_turns word took
        by_test false missed = calm_turns f (stage.KeptEnd frame before) v (broken word v) (asked (answer.Word word)) here (breaks (stage.KeptEnd frame before) v word base) (λ made. not_ended f frame before word made told missed)

    any_turns : (given : FrontAnswer) → Turns f v (step_as_at (stage.KeptEnd frame before) v given) (asked given ∷ [])
    any_turns (answer.Word word) = subst (λ (p : Bool). Turns f v (if p then kept_ended v frame before word else v) (asked (answer.Word word) ∷ [])) (sym i.keeps) (word_turns word)
    any_turns given = calm_turns f (stage.KeptEnd frame before) v v (asked given) here (still (stage.KeptEnd frame before) v here base i) (λ made. refl)

    pub ends_turn : (given : FrontAnswer) → Turns f v (step_as_at (stage.KeptEnd frame before) v given) (Asked (ask_as_at (stage.KeptEnd frame before) v) given told ∷ [])
    ends_turn given = subst (λ (p : Bool). Turns f v (step_as_at (stage.KeptEnd frame before) v given) (Asked (if p then Cas (entry_frame frame) (entry_word frame) before 0 else Wait) given told ∷ [])) (sym i.keeps) (any_turns given)

-- whatever its ask is answered
pub answers_turn : (f : ℕ) → IsPooled f → (s : FrontStage) (v : View) (given : FrontAnswer) (told : Option Told) → v.stage ≡ s → Base v → At s v → Turns f v (step_as_at s v given) (Asked (ask_as_at s v) given told ∷ [])
answers_turn f its (stage.GrantFlags place) v given told here base i = grants_turn f its v place here base i given told
answers_turn f its (stage.GrantEnd place before) v given told here base i = plain_turns f (stage.GrantEnd place before) v (step_as_at (stage.GrantEnd place before) v given) (Asked (ask_as_at (stage.GrantEnd place before) v) given told) refl i (goes (stage.GrantEnd place before) v given here tt base i)
answers_turn f its (stage.KeptEnd frame before) v given told here base i = ends_turn v frame before here base i f its told given
answers_turn f its s v given told here base i = calm_turns f s v (step_as_at s v given) (Asked (ask_as_at s v) given told) here (goes s v given here tt base i) (λ made. untouched f made (ask_as_at s v) given told (quiet f its s v tt base i))

-- no answer changes the order of its ring
pub order_stays : (s : FrontStage) (v : View) (given : FrontAnswer) → v.stage ≡ s → Base v → At s v → (step_as_at s v given).shape.order ≡ v.shape.order
order_stays (stage.GrantFlags place) v given here base i = by_next (next_request v) refl
  where
    by_next : (next : Option Request) → next_request v ≡ next → (granted_as next place v).shape.order ≡ v.shape.order
    by_next None is = refl
    by_next (Some r) is = by_place (next_place (with_grant v (frame_at r place)) r (place + 1))
      where
        by_place : (o : Option ℕ) → (grants (with_grant v (frame_at r place)) r o).shape.order ≡ v.shape.order
        by_place None = refl
        by_place (Some more) = refl
order_stays (stage.KeptEnd frame before) v (answer.Word word) here base i = by_tests v.offers.persistent (word == before)
  where
    by_tests : (b c : Bool) → (if b then (if c then kept_gone v frame else broken word v) else v).shape.order ≡ v.shape.order
    by_tests true true = refl
    by_tests true false = refl
    by_tests false c = refl
order_stays (stage.KeptEnd frame before) v given here base i = refl
order_stays s v given here base i = (goes s v given here tt base i).order
