-- The machine stays fit as the domain is suspended: both ends begin anew, unless the front is closed or broken, whose new back has halted.
use Rattle.std.proofs.Common.{◌≡◌, ℕ, ◌+◌, ◌≤◌, Bool, true, false, true≢false, ◌&&◌, if◌then◌else◌, List, [], ◌∷◌, length, inl, inr, refl, sym, ap, ◌∙◌, subst, arith}
use Rattle.std.specs.Prelude.{Option, Some, None, min, codes, nat_lt}
use Rattle.std.proofs.lemmas.Fmt.{decimal_digit}
use Rattle.key_directory.specs.Directory.{fresh_directory}
use Rattle.ring_words.specs.Shape.{entries_of}
use Rattle.hypervisor.specs.Suspend.{suspended as under_suspended}
use Rattle.blk_front.specs.declared.request.Request.{Request}
use Rattle.blk_front.specs.declared.stage.Ending.{Ending}
use Rattle.blk_front.specs.declared.stage.FrontStage.{FrontStage}
use Rattle.blk_front.specs.declared.stage.FrontStage.TheVariants as ring_stage
use Rattle.blk_front.specs.Submit.{unfinished, ending_of}
use Rattle.blk_front.specs.State.{is_open}
use Rattle.blk_front.specs.Suspend.{by_number, with_ending, requests_after, stage_after, resumed}
use Rattle.xenbus_state.specs.declared.keys.BackKey.{BackKey}
use Rattle.xenbus_state.specs.declared.state.BusState.TheVariants as state
use Rattle.xenbus_state.specs.declared.stage.FrontBusStage.{FrontBusStage}
use Rattle.xenbus_state.specs.declared.stage.FrontBusStage.TheVariants as stage
use Rattle.xenbus_state.specs.States.{state_read}
use Rattle.xenbus_state.specs.FrontView.{FrontView, suspended_at, suspended}
use Rattle.xenbus_state.specs.BackView.{start_of, halted_of}
use Rattle.xenbus_state.proofs.BackTurns.{back_starts}
use Rattle.negotiation_laws.proofs.Shown.{state_shown}
use Rattle.split_model.specs.World as rings
use Rattle.split_model.specs.Happening as ring
use Rattle.split_model.specs.Safe.{IsSafe}
use Rattle.split_model.proofs.Safe.{safe_happens}
use Rattle.split_model.proofs.Suspending.{begun_back, begun_world, gone_world}
use Rattle.vbd_front.specs.View.{is_broken}
use Rattle.vbd_model.specs.World.{World}
use Rattle.vbd_model.specs.Happening.{happens, renewed_bus, Suspends}
use Rattle.vbd_model.specs.Fit.{IsUnbegun, FrontGoesWith, IsWished, PortOrdered, FrontOrdered, IsAnnounced, ReadsOffer, IsFit}
use Rattle.vbd_laws.proofs.FitFrontBus.{open_whole}

-- a front that is open begins anew: its negotiation is neither closed nor broken
pub anew_at : (b : FrontBusStage) (v : FrontView) (r : FrontStage) → FrontGoesWith b v r → is_open r ≡ true → suspended_at b v ≡ record v { stage = stage.Start; state = state.Initialising; gone = false; port = None }
anew_at stage.Closed v r goes opened = absurd (true≢false (sym opened ∙ ap is_open goes.1))
anew_at (stage.Broken word) v r goes opened = absurd (not_open r goes opened)
  where
    not_open : (r : FrontStage) → is_broken r ≡ true → is_open r ≡ true → ⊥
    not_open (ring_stage.Broken word) is opened = true≢false (sym opened)
    not_open r is opened = true≢false (sym is)
anew_at b v r goes opened = refl

-- its end of the ring is made anew, after the data that are left
begins : (s : FrontStage) → IsUnbegun (stage_after s)
begins (ring_stage.ReadData n) = inr refl
begins (ring_stage.LeftData n) = inr refl
begins s = inl refl

-- no more requests are unfinished: one whose grants were being ended is one of the others again
placed_long : (r : Request) (requests : List Request) → length (by_number r requests) ≡ length requests + 1
placed_long r [] = refl
placed_long r (s ∷ rest) = by_test (nat_lt r.number s.number) (placed_long r rest)
  where
    by_test : (b : Bool) → length (by_number r rest) ≡ length rest + 1 → length (if b then r ∷ s ∷ rest else s ∷ by_number r rest) ≡ length (s ∷ rest) + 1
    by_test true more = omega arith
    by_test false more = omega arith

with_long : (ending : Option Ending) (requests : List Request) → length (with_ending ending requests) ≤ length requests + 1
with_long None requests = omega arith
with_long (Some e) requests = let more = placed_long e.request requests in omega arith

fewer : (s : FrontStage) (ending : Option Ending) (requests : List Request) → length (requests_after s ending requests) + ending_of (stage_after s) ≤ length requests + ending_of s
fewer (ring_stage.GrantRead place) ending requests = let long = with_long ending requests in omega arith
fewer (ring_stage.GrantEnd place before) ending requests = let long = with_long ending requests in omega arith
fewer s ending requests = omega arith

-- the order of its ring is the one that it wishes, or that was agreed
ordered_wished : (port : Option ℕ) (wished offered n : ℕ) → PortOrdered port wished offered n → IsWished wished offered n
ordered_wished None wished offered n ordered = ordered
ordered_wished (Some port) wished offered n ordered = inr ordered

pub was_wished : (b : FrontBusStage) (v : FrontView) (n : ℕ) → FrontOrdered b v n → IsWished v.order v.features.order n
was_wished (stage.RingWord word) v n ordered = inr ordered
was_wished (stage.Grant page) v n ordered = inr ordered
was_wished stage.NewPort v n ordered = inr ordered
was_wished b v n ordered = ordered_wished v.port v.order v.features.order n ordered

-- a back that begins, or has halted, doesn't say that it offers
one_read : state_read (Some (codes "1")) ≡ Some state.Initialising
one_read = state_shown (Some (codes "1")) state.Initialising (ap (λ (text : List ℕ). Some text) (sym (decimal_digit 1 (omega arith))))

six_read : state_read (Some (codes "6")) ≡ Some state.Closed
six_read = state_shown (Some (codes "6")) state.Closed (ap (λ (text : List ℕ). Some text) (sym (decimal_digit 6 (omega arith))))

pub one_announced : (says : BackKey → Type 0) → IsAnnounced says (fresh_directory (codes "1"))
one_announced says read = let same : Some state.Initialising ≡ Some state.InitWait = sym one_read ∙ read in absurd (cc)

six_announced : (says : BackKey → Type 0) → IsAnnounced says (fresh_directory (codes "6"))
six_announced says read = let same : Some state.Closed ≡ Some state.InitWait = sym six_read ∙ read in absurd (cc)

-- a front that is closed or broken reads no offer
over_reads : (says : BackKey → Type 0) (b : FrontBusStage) (v : FrontView) (r : FrontStage) → FrontGoesWith b v r → is_open r ≡ false → ReadsOffer says b
over_reads says (stage.ReadFeature k) v r goes over = absurd (true≢false (sym (ap is_open goes.1) ∙ over))
over_reads says b v r goes over = tt

-- the front's negotiation that begins anew
abbrev anew : FrontView → FrontView
anew v = record v { stage = stage.Start; state = state.Initialising; gone = false; port = None }

fit_begun : (w : World) → IsFit w → is_open w.rings.front.stage ≡ true → IsSafe (begun_world w.rings) → IsFit (record { rings = begun_world w.rings; front = anew w.front; back = start_of w.back.features w.back.disk })
fit_begun w fit opened safe = record {
  safe = safe;
  layout = fit.layout;
  ordered = was_wished w.front.stage w.front w.rings.front.shape.order fit.ordered;
  room = (let room : unfinished w.rings.front ≤ entries_of (min w.front.order 4) = fit.room in let less = fewer w.rings.front.stage w.rings.front.ending w.rings.front.requests in omega arith);
  offers = fit.offers;
  limited = fit.limited;
  published = fit.published;
  said = tt;
  announced = one_announced _;
  reads = tt;
  front = (refl, begins w.rings.front.stage, refl);
  closing = λ whole. fit.closing (open_whole w.rings.front.stage opened);
  through = λ e. absurd (cc);
  back = (refl, refl);
  held = (refl, refl);
  pages = refl;
  sound = back_starts w.back.features w.back.disk;
  terms = λ has. absurd (true≢false (sym has));
  halted = refl;
  unported = λ none. refl;
  unbound = (refl, refl);
}

fit_gone : (w : World) → IsFit w → is_open w.rings.front.stage ≡ false → IsSafe (gone_world w.rings) → IsFit (record { rings = gone_world w.rings; front = w.front; back = halted_of w.back.features w.back.disk })
fit_gone w fit over safe = record {
  safe = safe;
  layout = fit.layout;
  ordered = fit.ordered;
  room = fit.room;
  offers = fit.offers;
  limited = fit.limited;
  published = fit.published;
  said = tt;
  announced = six_announced _;
  reads = over_reads _ w.front.stage w.front w.rings.front.stage fit.front over;
  front = fit.front;
  closing = fit.closing;
  through = fit.through;
  back = (refl, refl);
  held = (refl, refl);
  pages = refl;
  sound = record { order = omega arith; placed = (refl, record { pages = refl; bound = refl }) };
  terms = λ has on. absurd (true≢false on);
  halted = refl;
  unported = λ none. refl;
  unbound = tt;
}

pub fit_suspends : (w : World) → IsFit w → IsFit (happens w Suspends)
fit_suspends w fit = by_may (rings.may_suspend w.rings) (safe_happens w.rings ring.Suspends fit.safe)
  where
    by_open : (o : Bool) → is_open w.rings.front.stage ≡ o
        → (let r : rings.World = record { front = if o then resumed w.rings.front else w.rings.front; back = rings.back_for o (begun_back w.rings); under = under_suspended (rings.state_after o) w.rings.under } in
        IsSafe r → IsFit (record { rings = r; front = if o then suspended w.front else w.front; back = renewed_bus o w.back }))
    by_open true opened safe =
        subst (λ (v : FrontView). IsFit (record { rings = begun_world w.rings; front = v; back = start_of w.back.features w.back.disk })) (sym (anew_at w.front.stage w.front w.rings.front.stage fit.front opened)) (fit_begun w fit opened safe)
    by_open false over safe = fit_gone w fit over safe

    by_may : (may : Bool) → IsSafe (if may then rings.suspended w.rings else w.rings)
        → IsFit (record { rings = if may then rings.suspended w.rings else w.rings; front = if may && is_open w.rings.front.stage then suspended w.front else w.front; back = if may then renewed_bus (is_open w.rings.front.stage) w.back else w.back })
    by_may true safe = by_open (is_open w.rings.front.stage) refl safe
    by_may false safe = fit
