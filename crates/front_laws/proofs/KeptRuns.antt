-- A submission, a state that it enters and a suspend; and so every run of a front as it is.
use Rattle.std.proofs.Common.{◌≡◌, ℕ, ◌+◌, ◌-◌, ◌≤◌, ◌&&◌, ◌||◌, ◌==◌, Bool, true, false, if◌then◌else◌, List, [], ◌∷◌, ◌++◌, length, map, drop, refl, sym, ap, ◌∙◌, subst, arith, length-append}
use Rattle.std.specs.Prelude.{Some, nat_le}
use Rattle.std.proofs.lemmas.Bool.{false≢true}
use Rattle.std.proofs.lemmas.Bool.Decides.{nat_tests}
use Rattle.std.proofs.lemmas.Nat.{pow_pos}
use Rattle.std.proofs.lemmas.Option.{none-some, same_Some}
use Rattle.std.proofs.lemmas.List.{length-replicate}
use Rattle.std.proofs.lemmas.List.Elements.{All-push}
use Rattle.blk_base.specs.Options.{Options}
use Rattle.blk_base.specs.declared.config.Submission.{Submission}
use Rattle.blk_base.specs.declared.config.Submission.TheVariants as submissions
use Rattle.ring_words.specs.Shape.{entries_of}
use Rattle.blk_front.specs.declared.request.Request.{Request}
use Rattle.blk_front.specs.declared.request.Wish.{Wish}
use Rattle.blk_front.specs.declared.stage.FrontStage.{FrontStage}
use Rattle.blk_front.specs.declared.stage.FrontStage.TheVariants as stage
use Rattle.blk_front.specs.declared.stage.Ending.{Ending}
use Rattle.blk_front.specs.declared.state.FrontState.{FrontState}
use Rattle.blk_front.specs.declared.state.FrontState.TheVariants as state
use Rattle.blk_front.specs.declared.state.Offers.{Offers}
use Rattle.blk_front.specs.Pool.{taking}
use Rattle.blk_front.specs.Request.{is_moving}
use Rattle.blk_front.specs.State.{is_open, is_made, is_bare, is_unmade, may_enter, in_state}
use Rattle.blk_front.specs.Submit.{is_ready, is_initialised, wished, wish_of, frames_taken, request_with, accepted}
use Rattle.blk_front.specs.Suspend.{resumed, stage_after}
use Rattle.blk_front.specs.View.{View, start_of, next_request}
use Rattle.blk_front.specs.Ask.{is_through}
use Rattle.blk_front.specs.Keep.{step_as}
use Rattle.blk_front.proofs.Order.{after_all, after_ending}
use Rattle.front_laws.specs.History.{Happening, Answered, TakesTold, Submits, Enters, Suspends, Line, Submitted, Entered, Suspended, lines_of, happened}
use Rattle.front_laws.specs.Laws.{IsRing}
use Rattle.front_laws.specs.Kept.{happened_as, after_as, lines_as, trace_as}
use Rattle.front_laws.proofs.Places.{IsPooled}
use Rattle.front_laws.proofs.Simple.{next_stands}
use Rattle.front_laws.proofs.Others.{AreTaken, taking_more, slice_get-append}
use Rattle.front_laws.proofs.Changes.{both}
use Rattle.front_laws.proofs.Runs.{submit_cases}
use Rattle.front_laws.proofs.KeptFrames.{NoneBelow, none_kept}
use Rattle.front_laws.proofs.KeptAsks.{made_after, made_over}
use Rattle.front_laws.proofs.KeptStages.{IsOwn, Base, is_early, Parts, parts_of, Making, Granted, Is, At, IsTidy}
use Rattle.front_laws.proofs.KeptSteps.{none_below}
use Rattle.front_laws.proofs.KeptTurns.{is_told, Ledger, Turns, answers_turn, either_told}

-- a submission that moves no sectors has none
wished_flat : (offered : Bool) (w wish : Wish) → w.count ≡ 0 → wished offered w ≡ Some wish → wish.count ≡ 0
wished_flat true w wish none is = subst (λ (x : Wish). x.count ≡ 0) (same_Some w wish is) none
wished_flat false w wish none is = absurd (none-some wish is)

wished_moves : (offered : Bool) (w wish : Wish) → is_moving w.transfer ≡ true → wished offered w ≡ Some wish → is_moving wish.transfer ≡ true
wished_moves true w wish moves is = subst (λ (x : Wish). is_moving x.transfer ≡ true) (same_Some w wish is) moves
wished_moves false w wish moves is = absurd (none-some wish is)

wish_flat : (offers : Offers) (submission : Submission) (wish : Wish) → wish_of offers submission ≡ Some wish → is_moving wish.transfer ≡ false → wish.count ≡ 0
wish_flat offers (submissions.Read sector count) wish is flat = absurd (false≢true (sym flat ∙ wished_moves true _ wish refl is))
wish_flat offers (submissions.Write sector count tag) wish is flat = absurd (false≢true (sym flat ∙ wished_moves true _ wish refl is))
wish_flat offers (submissions.Barrier sector count tag) wish is flat = absurd (false≢true (sym flat ∙ wished_moves offers.barrier _ wish refl is))
wish_flat offers submissions.Flush wish is flat = wished_flat offers.flush _ wish refl is
wish_flat offers (submissions.Discard sector count) wish is flat = wished_flat offers.discard _ wish refl is

-- a submission is accepted
module _ (v : View) (base : Base v) (submission : Submission) (wish : Wish) (is : wish_of v.offers submission ≡ Some wish) (taken : List ℕ × List Bool) (took : taking (frames_taken wish.count) v.pool [] ≡ Some taken) where
  abbrev x : View
  x = accepted v wish taken

  frames : AreTaken (frames_taken wish.count) [] taken
  frames = taking_more (frames_taken wish.count) v.pool [] taken base.frames (λ k d lt. absurd (omega arith)) took

  new_own : IsOwn (request_with v wish taken.0)
  new_own = record { pooled = frames.frames; none = λ flat. frames.long ∙ ap (λ (n : ℕ). 0 + frames_taken n) (wish_flat v.offers submission wish is flat) }

  accepted_base : Base x
  accepted_base = record { few = base.few; size = base.size; frames = frames.size; own = All-push IsOwn v.requests (request_with v wish taken.0) base.own new_own; ends = base.ends; plain = base.plain }

  -- the request that is issued next is the same
  same_next : (r : Request) → next_request v ≡ Some r → next_request x ≡ Some r
  same_next r next =
      let stands = next_stands v r next in
      let some : (v.waiting + 1 == 0) ≡ false = grind (arith, nat_tests) in
      let more = length-append v.requests (request_with v wish taken.0 ∷ []) in
      let place : length x.requests - (v.waiting + 1) ≡ length v.requests - v.waiting = omega arith in
      rw (some, place) (slice_get-append v.requests (request_with v wish taken.0 ∷ []) (length v.requests - v.waiting) r stands)

  still_making : (place : ℕ) → Making (parts_of v) place → Making (parts_of x) place
  still_making place i = λ keeps. let m = i keeps in record { r = m.r; next_is = same_next m.r m.next_is; new = m.new }

  still_granted : Granted (parts_of v) → Granted (parts_of x)
  still_granted i = λ keeps. let m = i keeps in record { request = m.request; next_is = same_next m.request m.next_is; granted = m.granted }

  accepted_at : (s : FrontStage) → is_ready s ≡ true → At s v → At s x
  accepted_at (stage.GrantFrame place) ready i = still_making place i
  accepted_at (stage.GrantFence place) ready i = still_making place i
  accepted_at (stage.GrantFlags place) ready i = still_making place i
  accepted_at (stage.Slot k) ready i = still_granted i
  accepted_at stage.Producer ready i = still_granted i
  accepted_at (stage.RingRead page) ready i = absurd (false≢true ready)
  accepted_at (stage.RingEnd page before) ready i = absurd (false≢true ready)
  accepted_at (stage.KeptRead frame) ready i = absurd (false≢true ready)
  accepted_at (stage.KeptEnd frame before) ready i = absurd (false≢true ready)
  accepted_at s ready i = i

-- lines of submissions make and end no grant
pub submitted_over : (f : ℕ) (made : Bool) (l : List Request) → made_over f made (map Submitted l) ≡ made
submitted_over f made [] = refl
submitted_over f made (r ∷ l) = submitted_over f made l

submits_turn : (f : ℕ) (v : View) (submission : Submission) → IsTidy v → Turns f v (happened (Submits submission) v) (lines_of (Submits submission) v)
submits_turn f v submission t =
    submit_cases (λ (x : View). Turns f v x (map Submitted (drop (length v.requests) x.requests))) v submission
    (record { tidy = t; told = λ made ledger e. ledger e ∙ sym (submitted_over f made (drop (length v.requests) v.requests)) })
    (λ ready wish is taken took.
    record {
      tidy = record { base = accepted_base v t.base submission wish is taken took; at = accepted_at v t.base submission wish is taken took v.stage ready t.at };
      told = λ made ledger e. ledger e ∙ sym (submitted_over f made (drop (length v.requests) (accepted v wish taken).requests));
    })

-- a state that it may enter
agreed_at : (s : FrontStage) (v : View) (order : ℕ) → is_unmade s ≡ true → At s v → At s (in_state (state.Agreed order) v)
agreed_at (stage.RingWord k) v order unmade i = i
agreed_at s v order unmade i = absurd (false≢true unmade)

waits_never : (s : FrontStage) (v : View) → is_initialised s ≡ true → At s v → v.offers.persistent ≡ false
waits_never stage.Initialised v waits i = i
waits_never s v waits i = absurd (false≢true waits)

waits_early : (s : FrontStage) → is_initialised s ≡ true → is_early s ≡ true
waits_early stage.Initialised waits = refl
waits_early s waits = absurd (false≢true waits)

through_closing : (v : View) → is_through v ≡ true → (true && length v.requests == 0) ≡ true
through_closing v through = (both v.closing (length v.requests == 0) through).1

closing_at : (s : FrontStage) (v : View) → At s v → At s (record v { closing = true })
closing_at (stage.RingRead page) v i = (i.0, through_closing v i.1)
closing_at (stage.RingEnd page before) v i = (i.0, through_closing v i.1)
closing_at (stage.KeptRead frame) v i = record { keeps = i.keeps; lowest = i.lowest; leaves = through_closing v i.leaves }
closing_at (stage.KeptEnd frame before) v i = record { keeps = i.keeps; lowest = i.lowest; leaves = through_closing v i.leaves }
closing_at s v i = i

bare_none : (s : FrontStage) (v : View) → is_bare s ≡ true → Base v → At s v → NoneBelow v.kept 1018
bare_none (stage.RingWord k) v bare base i = none_below v.kept (base.plain i)
bare_none stage.Left v bare base i = i
bare_none s v bare base i = absurd (false≢true bare)

-- a stage after it is connected is reached
told_after : (v : View) → (false || v.offers.persistent) ≡ true → is_told v ≡ true
told_after v e = either_told false v.offers.persistent (is_early v.stage) v.offers.persistent (λ e. absurd (false≢true e)) (λ e. e) e

state_turn : (f : ℕ) (st : FrontState) (v : View) → may_enter st v ≡ true → IsTidy v → Turns f v (in_state st v) (Entered st ∷ [])
state_turn f (state.Agreed order) v may t =
    let first = both (is_unmade v.stage && nat_le order v.shape.order) (nat_le (length v.requests) (entries_of order)) may in
    let second = both (is_unmade v.stage) (nat_le order v.shape.order) first.0 in
    let less : order ≤ v.shape.order = (let e = second.1 in grind (arith, nat_tests)) in
    let few = t.base.few in
    record {
      tidy = record { base = record { few = omega arith; size = t.base.size; frames = t.base.frames; own = t.base.own; ends = t.base.ends; plain = t.base.plain }; at = agreed_at v.stage v order second.0 t.at };
      told = λ made ledger e. ledger e;
    }
state_turn f (state.Connected offers) v may t = record {
  tidy = record { base = record { few = t.base.few; size = t.base.size; frames = t.base.frames; own = t.base.own; ends = t.base.ends; plain = λ never. t.base.plain (waits_never v.stage v may t.at) }; at = tt };
  told = λ made ledger e. ledger (either_told true v.offers.persistent (is_early v.stage) v.offers.persistent (λ e. waits_early v.stage may) (λ e. e) refl);
}
state_turn f state.Closing v may t = record { tidy = record { base = t.base; at = closing_at v.stage v t.at }; told = λ made ledger e. ledger e }
state_turn f state.Leaving v may t = record {
  tidy = record { base = t.base; at = (pow_pos v.shape.order, (both (is_through v) (is_made v.stage) may).0) };
  told = λ made ledger e. ledger (told_after v e);
}
state_turn f state.Closed v may t = record {
  tidy = record { base = t.base; at = bare_none v.stage v (both (is_through v) (is_bare v.stage) may).1 t.base t.at };
  told = λ made ledger e. ledger (told_after v e);
}
state_turn f (state.Broken word) v may t = record { tidy = record { base = t.base; at = tt }; told = λ made ledger e. ledger (told_after v e) }

-- a suspend
resumed_at : (s : FrontStage) (p : Parts) → p.persistent ≡ false → Is (stage_after s) p
resumed_at (stage.ReadData n) p never = never
resumed_at (stage.LeftData n) p never = never
resumed_at s p never = never

suspend_turn : (f : ℕ) → IsPooled f → (v : View) → IsTidy v → Turns f v (resumed v) (Suspended ∷ [])
suspend_turn f its v t = record {
  tidy = record {
    base = record {
      few = t.base.few;
      size = length-replicate 1000 false;
      frames = t.base.frames;
      own = after_all IsOwn v.stage v.ending v.requests t.base.ends t.base.own;
      ends = after_ending (λ (e : Ending). IsOwn e.request) v.stage v.ending t.base.ends;
      plain = λ never. refl;
    };
    at = resumed_at v.stage (parts_of (resumed v)) refl;
  };
  told = λ made ledger e. none_kept f its;
}

unchanged : (f : ℕ) (v : View) → IsTidy v → Turns f v v []
unchanged f v t = record { tidy = t; told = λ made ledger. ledger }

-- whatever happens
pub turns : (f : ℕ) → IsPooled f → (h : Happening) (v : View) → IsTidy v → Turns f v (happened_as h v) (lines_as h v)
turns f its (Answered given) v t = answers_turn f its v.stage v given (step_as v given).told refl t.base t.at
turns f its TakesTold v t = record { tidy = record { base = t.base; at = t.at }; told = λ made ledger. ledger }
turns f its (Submits submission) v t = submits_turn f v submission t
turns f its (Enters st) v t = by_test (may_enter st v) refl
  where
    by_test : (b : Bool) → may_enter st v ≡ b → Turns f v (if b then in_state st v else v) (if b then Entered st ∷ [] else [])
    by_test true may = state_turn f st v may t
    by_test false may = unchanged f v t
turns f its Suspends v t = by_test (is_open v.stage)
  where
    by_test : (b : Bool) → Turns f v (if b then resumed v else v) (if b then Suspended ∷ [] else [])
    by_test true = suspend_turn f its v t
    by_test false = unchanged f v t

pub over_joined : (f : ℕ) (made : Bool) (some more : List Line) → made_over f made (some ++ more) ≡ made_over f (made_over f made some) more
over_joined f made [] more = refl
over_joined f made (line ∷ some) more = over_joined f (made_after f made line) some more

pub tidy_runs : (happenings : List Happening) (v : View) → IsTidy v → IsTidy (after_as happenings v)
tidy_runs [] v t = t
tidy_runs (h ∷ happenings) v t = tidy_runs happenings (happened_as h v) (turns 18 (omega arith, omega arith) h v t).tidy

-- what is true of a front and of whether a frame's grant was made, if each happening keeps it so, is true after any
module _ (f : ℕ) (Fits : View → Bool → Type 0) (keeps : (h : Happening) (v : View) → IsTidy v → (made : Bool) → Fits v made → Fits (happened_as h v) (made_over f made (lines_as h v))) where
  pub runs : (happenings : List Happening) (v : View) (made : Bool) → IsTidy v → Fits v made → Fits (after_as happenings v) (made_over f made (trace_as happenings v))
  runs [] v made t fits = fits
  runs (h ∷ happenings) v made t fits =
      let next = keeps h v t made fits in
      let later = runs happenings (happened_as h v) (made_over f made (lines_as h v)) (turns 18 (omega arith, omega arith) h v t).tidy next in
      subst (Fits (after_as happenings (happened_as h v))) (sym (over_joined f made (lines_as h v) (trace_as happenings (happened_as h v)))) later

pub ledger_runs : (f : ℕ) → IsPooled f → (happenings : List Happening) (v : View) (made : Bool) → IsTidy v → Ledger f v made → Ledger f (after_as happenings v) (made_over f made (trace_as happenings v))
ledger_runs f its = runs f (Ledger f) (λ h v t made ledger. (turns f its h v t).told made ledger)

pub starts : (config : Options) → IsRing config → IsTidy (start_of config)
starts config ring = record {
  base = record { few = ring.order; size = length-replicate 1000 false; frames = length-replicate 1000 false; own = λ k d lt. absurd (omega arith); ends = tt; plain = λ never. refl };
  at = refl;
}
