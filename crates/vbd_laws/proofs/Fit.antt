-- The machine is fit at the start and stays so.
use Rattle.negotiation_laws.proofs.Choices.{either}
use Rattle.vbd_laws.proofs.FitSaid.{LeavesBack, same_back, written_leaves, announced_kept, said_kept}
use Rattle.vbd_laws.proofs.FitFrontReads.{reads_kept}
use Rattle.vbd_laws.proofs.FitSuspended.{one_announced, fit_suspends}
use Rattle.std.proofs.Common.{◌≡◌, ℕ, ◌+◌, ◌≤◌, Bool, true, false, true≢false, not, ◌&&◌, if◌then◌else◌, List, [], ◌∷◌, inl, inr, length, length-append, refl, sym, ap, ◌∙◌, subst, arith}
use Rattle.std.specs.Prelude.{Option, Some, None, IsSome, Result, Err, nat_lt, nat_le, min, ◌==◌}
use Rattle.std.proofs.lemmas.Bool.Decides.{nat_tests}
use Rattle.blk_base.specs.Options.{Options}
use Rattle.blk_base.specs.declared.config.Submission.{Submission}
use Rattle.blk_base.specs.declared.parts.End.TheVariants as end
use Rattle.segment_list.specs.declared.verdict.DiskInfo.{DiskInfo}
use Rattle.hypervisor.specs.Act.{BackAct, Outcome}
use Rattle.ring_words.specs.Shape.{Shape, entries_of}
use Rattle.blk_front.specs.declared.request.Wish.{Wish}
use Rattle.blk_base.specs.declared.refusal.Refusal.{Refusal}
use Rattle.blk_base.specs.declared.refusal.Refusal.TheVariants as refusal
use Rattle.blk_front.specs.Pool.{taking}
use Rattle.blk_front.specs.Request.{is_write, named_of, frames_for}
use Rattle.blk_front.specs.View.{View}
use Rattle.blk_front.specs.Ask.{is_through}
use Rattle.blk_front.specs.Submit.{is_ready, unfinished, most_segments, frames_taken, wish_of, request_with, submit_with, submit_one, submit_of}
use Rattle.blk_back.specs.Step.{job_ask_of}
use Rattle.blk_back.proofs.Hands.{job_step_info}
use Rattle.vbd_front.specs.View.{is_broken}
use Rattle.line_text.proofs.Both.{both_true}
use Rattle.split_model.specs.World as rings
use Rattle.split_model.specs.Happening as ring
use Rattle.split_model.specs.Safe.{IsSafe}
use Rattle.split_model.proofs.Safe.{safe_start, safe_happens}
use Rattle.split_model.proofs.SafeFront.{submit_kept}
use Rattle.split_model.proofs.SafeAnswers.{jobs_of}
use Rattle.split_model.proofs.Narrow.{submit_shape}
use Rattle.xenbus_state.specs.Offer.{facts_of}
use Rattle.xenbus_state.proofs.BackTurns.{back_starts}
use Rattle.vbd_back.specs.View.{offer}
use Rattle.split_model.proofs.Overwriting.{poke_cases, overwriting_cases}
use Rattle.split_model.proofs.Outside.{IsOutside, LeavesEnds, leaves_ends}
use Rattle.blk_back.specs.View as back
use Rattle.vbd_model.specs.World.{World, start_of}
use Rattle.vbd_model.specs.Happening.{Happening, FrontMoves, BackMoves, JobMoves, Closes, Submits, Pokes, OverwritesKey, Suspends, does, front_bus, back_bus, happens, after}
use Rattle.vbd_model.specs.Fit.{FrontRests, FrontGoesWith, IsAgreed, FrontOrdered, IsUnbound, has_terms, IsOffered, SaysKey, IsFit}
use Rattle.vbd_laws.proofs.FitChannels.{IsUnported, job_leaves, sent_fits}
use Rattle.vbd_laws.proofs.FitFront.{fit_front_moves, fit_front_closes}
use Rattle.vbd_laws.proofs.FitBackShares.{Terms, terms_in}
use Rattle.vbd_laws.proofs.FitBack.{fit_back_moves, fit_back_closes}
use Rattle.blk_front.specs.declared.stage.FrontStage.{FrontStage}
use Rattle.blk_front.specs.declared.stage.FrontStage.TheVariants as ring_stage
use Rattle.blk_front.specs.State.{is_bare}
use Rattle.blk_front.specs.Suspend.{is_left}
use Rattle.xenbus_state.specs.declared.state.BusState.{BusState}
use Rattle.xenbus_state.specs.declared.state.BusState.TheVariants as state
use Rattle.xenbus_state.specs.declared.stage.FrontBusStage.{FrontBusStage}
use Rattle.xenbus_state.specs.declared.stage.FrontBusStage.TheVariants as stage
use Rattle.xenbus_state.specs.FrontView.{FrontView}
use Rattle.vbd_laws.proofs.FitFrontMoves.{with_port}

pub fit_start : (config : Options) → config.indirect ≤ 960 → IsFit (start_of config)
fit_start config few = record {
  safe = safe_start config;
  layout = refl;
  ordered = inl refl;
  room = omega arith;
  offers = refl;
  limited = few;
  published = record { sectors = refl; read_only = refl; barrier = refl; flush = refl; discard = refl; indirect = refl };
  said = tt;
  announced = one_announced _;
  reads = tt;
  front = (refl, inl refl, refl);
  closing = λ whole. refl;
  through = λ e. absurd (cc);
  back = (refl, refl);
  held = (refl, refl);
  pages = refl;
  sound = back_starts (offer config.read_only config.indirect) (facts_of config);
  halted = refl;
  terms = λ has. absurd (true≢false (sym has));
  unported = λ none. refl;
  unbound = (refl, refl);
}

-- the machine with this of the rings
abbrev with_rings : World → rings.World → World
with_rings w r = record { rings = r; front = w.front; back = w.back }

-- no negotiation was told anything, and both ends of the ring stand where they did
record IsLike (w : World) (r : rings.World) : Type 0 where
  front : r.front.stage ≡ w.rings.front.stage
  shape : r.front.shape ≡ w.rings.front.shape
  closing : r.front.closing ≡ w.rings.front.closing
  through : is_through w.rings.front ≡ true → is_through r.front ≡ true
  back : r.back.stage ≡ w.rings.back.stage
  halted : r.back.halted ≡ w.rings.back.halted
  terms : terms_in r.back ≡ terms_in w.rings.back
  info : r.back.jobs.info ≡ w.rings.back.jobs.info
  keys : LeavesBack w.back.features w.back.disk w.rings.under.keys r.under.keys
  room : unfinished r.front ≤ entries_of (min w.front.order 4)

fit_rings : (w : World) (r : rings.World) → IsFit w → IsSafe r → IsLike w r → IsUnported r.under.channels → IsUnbound w.rings.back.stage r.under.channels → IsFit (with_rings w r)
fit_rings w r fit safe like unported unbound = record {
  safe = safe;
  layout = ap (λ (s : Shape). s.abi) like.shape ∙ fit.layout;
  ordered = subst (λ (s : Shape). FrontOrdered w.front.stage w.front s.order) (sym like.shape) fit.ordered;
  room = like.room;
  offers = fit.offers;
  limited = fit.limited;
  published = subst (λ (i : DiskInfo). IsOffered i w.back.features w.back.disk) (sym like.info) fit.published;
  said = said_kept _ _ like.keys.says w.back.stage fit.said;
  announced = announced_kept w.back.features w.back.disk w.rings.under.keys r.under.keys like.keys fit.announced;
  reads = reads_kept (SaysKey w.rings.under.keys w.back.features w.back.disk) _ like.keys.says w.front.stage fit.reads;
  front = rw like.front fit.front;
  closing = λ whole. like.closing ∙ fit.closing (ap is_broken (sym like.front) ∙ whole);
  through = λ e whole. like.through (fit.through e (ap is_broken (sym like.front) ∙ whole));
  back = rw like.back fit.back;
  held = rw like.back fit.held;
  pages = ap (λ (t : Terms). t.3) like.terms ∙ fit.pages;
  sound = fit.sound;
  halted = rw like.halted fit.halted;
  terms = λ has on.
      let have = fit.terms (ap has_terms (sym like.back) ∙ has) on in
      record { shape = ap (λ (t : Terms). t.0) like.terms ∙ have.shape; grefs = ap (λ (t : Terms). t.1) like.terms ∙ have.grefs; port = ap (λ (t : Terms). t.2) like.terms ∙ have.port };
  unported = unported;
  unbound = rw like.back unbound;
}

-- a move of a job
fit_job : (w : World) (k : ℕ) (outcome : Outcome) (act : Option BackAct) → IsFit w → ring.job_turn w.rings k outcome ≡ act → IsSafe (ring.job_after w.rings k act) → IsFit (with_rings w (ring.job_after w.rings k act))
fit_job w k outcome None fit e safe = fit
fit_job w k outcome (Some a) fit e safe =
    let same = job_leaves w.rings.under k (job_ask_of w.rings.back k) outcome a (jobs_of w.rings.back k) e in
    fit_rings w (ring.job_after w.rings k (Some a)) fit safe (record { front = refl; shape = refl; closing = refl; through = λ is. is; back = refl; halted = refl; terms = refl; info = job_step_info w.rings.back k a.answer; keys = subst (LeavesBack w.back.features w.back.disk w.rings.under.keys) (sym same.1) (same_back w.back.features w.back.disk w.rings.under.keys); room = fit.room }) (rw same.0 fit.unported) (rw same.0 fit.unbound)

-- a submission leaves whether the front closes, and one that closes takes none

closing_with : (v : View) (wish : Wish) (taken : Option (List ℕ × List Bool)) → (submit_with v wish taken).1.closing ≡ v.closing
closing_with v wish None = refl
closing_with v wish (Some taken) = refl

closing_one : (v : View) (wish : Option Wish) → (submit_one v wish).1.closing ≡ v.closing
closing_one v None = refl
closing_one v (Some wish) =
    either (λ (one : Result ℕ Refusal × View). one.1.closing ≡ v.closing) (is_write wish.transfer && v.offers.read_only) _ _ refl
    (either (λ (one : Result ℕ Refusal × View). one.1.closing ≡ v.closing) (nat_lt v.offers.sectors (wish.sector + named_of wish.transfer wish.count)) _ _ refl
    (either (λ (one : Result ℕ Refusal × View). one.1.closing ≡ v.closing) (nat_lt (most_segments v.offers wish.transfer) (frames_for wish.count)) _ _ refl
    (either (λ (one : Result ℕ Refusal × View). one.1.closing ≡ v.closing) (nat_le (entries_of v.shape.order) (unfinished v)) _ _ refl (closing_with v wish (taking (frames_taken wish.count) v.pool [])))))

closing_submit : (v : View) (job : Submission) → (submit_of v job).1.closing ≡ v.closing
closing_submit v job =
    either (λ (one : Result ℕ Refusal × View). one.1.closing ≡ v.closing) (v.last == 4294967295) _ _ refl (either (λ (one : Result ℕ Refusal × View). one.1.closing ≡ v.closing) v.closing _ _ refl (either (λ (one : Result ℕ Refusal × View). one.1.closing ≡ v.closing) (not (is_ready v.stage)) _ _ refl (closing_one v (wish_of v.offers job))))

through_submit : (v : View) (job : Submission) → is_through v ≡ true → is_through (submit_of v job).1 ≡ true
through_submit v job through = by_test (v.last == 4294967295) v.closing (both_true v.closing (length v.requests == 0) through).0
  where
    by_test : (b c : Bool) → c ≡ true
        → is_through (if b then (Err refusal.Spent, v) else (if c then (Err refusal.Closing, v) else (if not (is_ready v.stage) then (Err refusal.NotReady, v) else submit_one v (wish_of v.offers job)))).1 ≡ true
    by_test true c closing = through
    by_test false true closing = through
    by_test false false closing = absurd (true≢false (sym closing))

-- a front that may take a request has agreed the order of its ring
ready_rests : (own : BusState) (gone : Bool) (port : Option ℕ) (r : FrontStage) → FrontRests own gone port r → is_ready r ≡ true → IsSome port
ready_rests state.Initialising gone port r rests ready = absurd (true≢false (sym ready ∙ ap is_ready rests.0))
ready_rests state.Initialised gone port r rests ready = rests.1
ready_rests state.Connected gone port r rests ready = rests.1
ready_rests state.Closing false None r rests ready = absurd (true≢false (sym ready ∙ ap is_ready rests))
ready_rests state.Closing false (Some port) r rests ready = refl
ready_rests state.Closing true (Some port) r rests ready = refl
ready_rests own gone port r rests ready = absurd rests

broken_unready : (r : FrontStage) → is_broken r ≡ true → is_ready r ≡ true → ⊥
broken_unready (ring_stage.Broken word) is ready = true≢false (sym ready)
broken_unready r is ready = true≢false (sym is)

ready_agreed : (b : FrontBusStage) (v : FrontView) (r : FrontStage) (n : ℕ) → FrontGoesWith b v r → FrontOrdered b v n → is_ready r ≡ true → IsAgreed v.order v.features.order n
ready_agreed (stage.RingWord word) v r n goes ordered ready = ordered
ready_agreed (stage.Grant page) v r n goes ordered ready = ordered
ready_agreed stage.NewPort v r n goes ordered ready = ordered
ready_agreed stage.Rest v r n goes ordered ready =
    elim goes [ inl rests ↦ with_port v.port v.order v.features.order n (ready_rests v.state v.gone v.port r rests ready) ordered | inr is ↦ absurd (broken_unready r is ready) ]
ready_agreed stage.ReadState v r n goes ordered ready = with_port v.port v.order v.features.order n (ready_rests v.state v.gone v.port r goes ready) ordered
ready_agreed stage.Start v r n goes ordered ready = elim goes.1 [ inl is ↦ absurd (true≢false (sym ready ∙ ap is_ready is)) | inr left ↦ absurd (left_unready r left ready) ]
  where
    left_unready : (r : FrontStage) → is_left r ≡ true → is_ready r ≡ true → ⊥
    left_unready (ring_stage.LeftData k) left ready = true≢false (sym ready)
    left_unready r left ready = true≢false (sym left)
ready_agreed (stage.ReadFeature key) v r n goes ordered ready = absurd (true≢false (sym ready ∙ ap is_ready goes.1))
ready_agreed (stage.Publish key) v r n goes ordered ready = with_port v.port v.order v.features.order n goes.2 ordered
ready_agreed (stage.ReadFact key) v r n goes ordered ready = with_port v.port v.order v.features.order n goes.2 ordered
ready_agreed (stage.WriteState state.Initialised) v r n goes ordered ready = with_port v.port v.order v.features.order n goes.2 ordered
ready_agreed (stage.WriteState state.Connected) v r n goes ordered ready = with_port v.port v.order v.features.order n goes.2 ordered
ready_agreed (stage.WriteState state.Closed) v r n goes ordered ready = absurd (bare_unready r goes.1 ready)
  where
    bare_unready : (r : FrontStage) → is_bare r ≡ true → is_ready r ≡ true → ⊥
    bare_unready (ring_stage.RingWord k) bare ready = true≢false (sym ready)
    bare_unready ring_stage.Left bare ready = true≢false (sym ready)
    bare_unready r bare ready = true≢false (sym bare)
ready_agreed (stage.WriteState own) v r n goes ordered ready = absurd goes
ready_agreed (stage.EndGrant page) v r n goes ordered ready = with_port v.port v.order v.features.order n goes.2 ordered
ready_agreed stage.ClosePort v r n goes ordered ready = with_port v.port v.order v.features.order n goes.2 ordered
ready_agreed stage.Closed v r n goes ordered ready = absurd (true≢false (sym ready ∙ ap is_ready goes.1))
ready_agreed (stage.Broken word) v r n goes ordered ready = absurd (broken_unready r goes ready)
ready_agreed b v r n goes ordered ready = absurd goes

agreed_entries : (wished offered n : ℕ) → IsAgreed wished offered n → entries_of n ≤ entries_of (min wished 4)
agreed_entries wished offered n agreed =
    let same : entries_of n ≡ entries_of (min wished 4) = ap entries_of (agreed.0 ∙ ap (λ (o : ℕ). min wished o) agreed.1) in omega arith

-- so no more are unfinished than its ring has entries

room_with : (v : View) (wish : Wish) (taken : Option (List ℕ × List Bool)) (most : ℕ) → unfinished v + 1 ≤ most → unfinished (submit_with v wish taken).1 ≤ most
room_with v wish None most room = omega arith
room_with v wish (Some taken) most room = let longer = length-append v.requests (request_with v wish taken.0 ∷ []) in omega arith

room_one : (v : View) (wish : Option Wish) (most : ℕ) → unfinished v ≤ most → entries_of v.shape.order ≤ most → unfinished (submit_one v wish).1 ≤ most
room_one v None most was few = was
room_one v (Some wish) most was few =
    either (λ (one : Result ℕ Refusal × View). unfinished one.1 ≤ most) (is_write wish.transfer && v.offers.read_only) _ _ was
    (either (λ (one : Result ℕ Refusal × View). unfinished one.1 ≤ most) (nat_lt v.offers.sectors (wish.sector + named_of wish.transfer wish.count)) _ _ was
    (either (λ (one : Result ℕ Refusal × View). unfinished one.1 ≤ most) (nat_lt (most_segments v.offers wish.transfer) (frames_for wish.count)) _ _ was (by_test (nat_le (entries_of v.shape.order) (unfinished v)) refl)))
  where
    below : (count entries : ℕ) → nat_le entries count ≡ false → count + 1 ≤ entries
    below count entries e = grind (arith, nat_tests)

    by_test : (b : Bool) → nat_le (entries_of v.shape.order) (unfinished v) ≡ b
        → unfinished (let x : Result ℕ Refusal × View = (if b then (Err refusal.Full, v) else submit_with v wish (taking (frames_taken wish.count) v.pool [])) in x.1) ≤ most
    by_test true e = was
    by_test false e = let less = below (unfinished v) (entries_of v.shape.order) e in room_with v wish (taking (frames_taken wish.count) v.pool []) most (omega arith)

room_submit : (v : View) (job : Submission) (most : ℕ) → unfinished v ≤ most → (is_ready v.stage ≡ true → entries_of v.shape.order ≤ most) → unfinished (submit_of v job).1 ≤ most
room_submit v job most was few = either (λ (one : Result ℕ Refusal × View). unfinished one.1 ≤ most) (v.last == 4294967295) _ _ was (either (λ (one : Result ℕ Refusal × View). unfinished one.1 ≤ most) v.closing _ _ was (by_test (is_ready v.stage) refl))
  where
    by_test : (b : Bool) → is_ready v.stage ≡ b → unfinished (let x : Result ℕ Refusal × View = (if not b then (Err refusal.NotReady, v) else submit_one v (wish_of v.offers job)) in x.1) ≤ most
    by_test true ready = room_one v (wish_of v.offers job) most was (few ready)
    by_test false ready = was

fit_submit : (w : World) (job : Submission) → IsFit w → IsFit (happens w (Submits job))
fit_submit w job fit =
    let few : is_ready w.rings.front.stage ≡ true → entries_of w.rings.front.shape.order ≤ entries_of (min w.front.order 4) =
    λ ready. agreed_entries w.front.order w.front.features.order w.rings.front.shape.order (ready_agreed w.front.stage w.front w.rings.front.stage w.rings.front.shape.order fit.front fit.ordered ready) in
    let room = room_submit w.rings.front job (entries_of (min w.front.order 4)) fit.room few in
    fit_rings w (ring.happens w.rings (ring.Submits job)) fit (safe_happens w.rings (ring.Submits job) fit.safe)
    (record { front = (submit_kept w.rings.front job).stage; shape = submit_shape w.rings.front job; closing = closing_submit w.rings.front job; through = through_submit w.rings.front job; back = refl; halted = refl; terms = refl; info = refl; keys = same_back w.back.features w.back.disk w.rings.under.keys; room = room }) fit.unported fit.unbound

-- what happens outside the ends, and leaves the back's keys
fit_outside : (w : World) (h : ring.Happening) → IsOutside h → (let r : rings.World = ring.happens w.rings h in LeavesBack w.back.features w.back.disk w.rings.under.keys r.under.keys) → IsFit w → IsFit (with_rings w (ring.happens w.rings h))
fit_outside w h outside keys fit =
    let r : rings.World = ring.happens w.rings h in
    let left : LeavesEnds w.rings r = leaves_ends w.rings h outside in
    let channels = sent_fits w.rings.back.stage w.rings.under.channels r.under.channels left.channels fit.unported fit.unbound in
    let as_front : (P : View → Type 0) → P w.rings.front → P r.front = λ P is. subst P (sym left.front) is in
    fit_rings w r fit (safe_happens w.rings h fit.safe)
    (record {
      front = ap (λ (f : View). f.stage) left.front;
      shape = ap (λ (f : View). f.shape) left.front;
      closing = ap (λ (f : View). f.closing) left.front;
      through = as_front (λ f. is_through w.rings.front ≡ true → is_through f ≡ true) (λ is. is);
      back = ap (λ (b : back.View). b.stage) left.back;
      halted = ap (λ (b : back.View). b.halted) left.back;
      terms = ap terms_in left.back;
      info = ap (λ (b : back.View). b.jobs.info) left.back;
      keys = keys;
      room = as_front (λ f. unfinished f ≤ entries_of (min w.front.order 4)) fit.room;
    })
    channels.0 channels.1

-- a key of the front's is none of the back's
fit_poke : (w : World) (frame word value : ℕ) → IsFit w → IsFit (happens w (Pokes frame word value))
fit_poke w frame word value fit =
    let same = same_back w.back.features w.back.disk w.rings.under.keys in
    fit_outside w (ring.Pokes frame word value) tt (poke_cases (λ under shown. LeavesBack w.back.features w.back.disk w.rings.under.keys under.keys) w.rings.under frame word value (λ framed worded. same) same) fit

fit_key : (w : World) (name text : List ℕ) → IsFit w → IsFit (happens w (OverwritesKey name text))
fit_key w name text fit =
    fit_outside w (ring.OverwritesKey name text) tt
    (overwriting_cases (λ under shown. LeavesBack w.back.features w.back.disk w.rings.under.keys under.keys) w.rings.under name text
    (λ allowed. written_leaves w.back.features w.back.disk w.rings.under.keys name text) (same_back w.back.features w.back.disk w.rings.under.keys)) fit

-- another one, which leaves all keys
fit_beside : (w : World) (h : Happening) (x : ring.Happening) → does w h ≡ x ∷ [] → front_bus w h ≡ w.front → back_bus w h ≡ w.back → IsOutside x
    → (let r : rings.World = ring.happens w.rings x in r.under.keys) ≡ w.rings.under.keys → IsFit w → IsFit (happens w h)
fit_beside w h x one front back outside keys fit = rw (one, front, back) (fit_outside w x outside (rw keys (same_back w.back.features w.back.disk w.rings.under.keys)) fit)

-- whatever happens
pub fit_happens : (w : World) (h : Happening) → IsFit w → IsFit (happens w h)
fit_happens w FrontMoves fit = fit_front_moves w fit
fit_happens w BackMoves fit = fit_back_moves w fit
fit_happens w (JobMoves number outcome) fit =
    fit_job w number outcome (ring.job_turn w.rings number outcome) fit refl (safe_happens w.rings (ring.JobMoves number outcome) fit.safe)
fit_happens w (Closes end.Front) fit = fit_front_closes w fit
fit_happens w (Closes end.Back) fit = fit_back_closes w fit
fit_happens w (Submits job) fit = fit_submit w job fit
fit_happens w (Pokes frame word value) fit = fit_poke w frame word value fit
fit_happens w (OverwritesKey name text) fit = fit_key w name text fit
fit_happens w Suspends fit = fit_suspends w fit
fit_happens w h fit = fit_beside w h _ refl refl refl tt refl fit

-- whatever has happened
pub fit_after : (hs : List Happening) (w : World) → IsFit w → IsFit (after hs w)
fit_after [] w fit = fit
fit_after (h ∷ hs) w fit = fit_after hs (happens w h) (fit_happens w h fit)
