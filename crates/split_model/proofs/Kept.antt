-- A machine whose back may keep mappings stays safe, whatever happens; where nothing is kept it goes as the one that keeps none.
use Rattle.std.proofs.Common.{◌≡◌, ℕ, Bool, true, false, ◌<◌, ◌&&◌, if◌then◌else◌, List, [], ◌∷◌, refl, sym, ap, subst, ◌∙◌, arith}
use Rattle.std.specs.Prelude.{Option, Some, None, not, ◌==◌, nat_le, IsPermutation}
use Rattle.std.proofs.lemmas.List.Sorted.{IsPermutation-refl}
use Rattle.blk_base.specs.Options.{Options}
use Rattle.blk_base.specs.declared.config.Submission.{Submission}
use Rattle.blk_base.specs.declared.halt.Halt.{Halt}
use Rattle.blk_base.specs.declared.moves.BackMover.TheVariants as back_mover
use Rattle.event_channel.specs.Channels.{reset}
use Rattle.hypervisor.specs.Act.{FrontAct, BackAct, Outcome, Took, front_act}
use Rattle.ring_words.specs.Shape.{Shape}
use Rattle.blk_front.specs.declared.state.FrontState.{FrontState}
use Rattle.blk_front.specs.View as front
use Rattle.blk_front.specs.Ask as front_ends
use Rattle.blk_front.specs.Suspend.{suspended as front_suspended}
use Rattle.blk_back.specs.declared.stage.BackStage.{BackStage}
use Rattle.blk_back.specs.declared.stage.BackStage.TheVariants as stage
use Rattle.blk_back.specs.View as back
use Rattle.blk_back.specs.Ask as back_ends
use Rattle.blk_back.specs.Ask.{is_led}
use Rattle.blk_back.specs.Step.{attached, may_halt}
use Rattle.blk_back.specs.Hands.{all_hands_of}
use Rattle.blk_back.specs.Keeping.{is_attached, may_keep_most, keeping_most, step_keeping, job_step_keeping, job_ask_keeping, halts_keeping_at, halts_keeping}
use Rattle.back_laws.specs.Kept as kept
use Rattle.back_laws.specs.Kept.{IsTidy}
use Rattle.back_laws.proofs.Tidy.{happened_tidy, holds_after}
use Rattle.split_model.specs.World.{World, start_of, may_suspend, suspended}
use Rattle.split_model.specs.Happening.{Happening, FrontMoves, BackMoves, JobMoves, FrontEnters, BackAttaches, BackHalts, Submits, Suspends, happens, front_after, front_turn, back_turn}
use Rattle.split_model.specs.Safe.{IsPorted}
use Rattle.split_model.specs.Kept.{KeepingHappening, Plainly, BackOffers, BackKeeps, says_one, back_offers, keeping_text, reads_keeping, cap_read, kept_so, offered, back_after_keeping, job_after_keeping, job_turn_keeping, halted_keeping, plainly_after, happens_keeping, after_keeping, IsSafeKeeping}
use Rattle.split_model.proofs.SafeActs.{made_front}
use Rattle.split_model.proofs.SafeAnswers.{back_answered, job_answered_as, jobs_keeping}
use Rattle.split_model.proofs.SafeFront.{channels_front, step_fits, entered_kept, submit_kept}
use Rattle.split_model.proofs.Safe.{none_live, ported_as, ported_none, ports_back, no_port}
use Rattle.split_model.proofs.Attaching.{attach_cases}
use Rattle.split_model.proofs.Outside.{LeavesEnds, leaves_ends, KeepsPorts, sent_keeps}
use Rattle.split_model.proofs.Suspending.{suspend_cases, ports_left_then, front_kept, back_cases, suspended_told}
use Rattle.split_model.proofs.KeptHands.{held_as, held_keep}

pub kept_start : (o : Options) → IsSafeKeeping (start_of o)
kept_start o = record {
  ported = (omega arith, refl);
  held = none_live 0;
  tidy = record { few = omega arith; cap = omega arith; cleared = (refl, refl); emptied = tt };
  front_told = refl;
  back_told = refl;
}

-- a move of the front
kept_front : (w : World) (a : FrontAct) → IsSafeKeeping w → front_act w.under (front_ends.ask_of w.front) ≡ Some a → IsSafeKeeping (front_after w (Some a))
kept_front w a safe e =
    let fits = step_fits w.front a.answer a.under.channels (channels_front w.front.stage w.front w.under a e safe.ported) in
    record {
      ported = fits.0;
      held = rw (made_front w.under (front_ends.ask_of w.front) a e) safe.held;
      tidy = safe.tidy;
      front_told = refl;
      back_told = safe.back_told;
    }

kept_front_turn : (w : World) (act : Option FrontAct) → IsSafeKeeping w → front_turn w ≡ act → IsSafeKeeping (front_after w act)
kept_front_turn w None safe e = safe
kept_front_turn w (Some a) safe e = kept_front w a safe e

-- a move of the back, and of a job: what is told is taken
told_taken : (v : back.View) → IsTidy v → IsTidy (record v { told = None })
told_taken v tidy = happened_tidy kept.TakesTold v tidy

kept_back : (w : World) (o : Outcome) (act : Option BackAct) → IsSafeKeeping w → back_turn w o ≡ act → IsSafeKeeping (back_after_keeping w act)
kept_back w o None safe e = safe
kept_back w o (Some a) safe e =
    let answered = back_answered w.under w.back o a e in
    let keep = holds_after (kept.Answers a.answer) w.back safe.tidy (answered, safe.back_told) in
    record {
      ported = ported_as w.front.stage w.under.channels a.under.channels (no_port w.under a (ports_back w.under back_mover.Back (back_ends.ask_of w.back) o a e)) safe.ported;
      held = held_keep w.under back_mover.Back (back_ends.ask_of w.back) o a (all_hands_of w.back) (all_hands_of (step_keeping w.back a.answer)) safe.held e keep;
      tidy = told_taken (step_keeping w.back a.answer) (happened_tidy (kept.Answers a.answer) w.back safe.tidy);
      front_told = safe.front_told;
      back_told = refl;
    }

kept_job : (w : World) (k : ℕ) (o : Outcome) (act : Option BackAct) → IsSafeKeeping w → job_turn_keeping w k o ≡ act → IsSafeKeeping (job_after_keeping w k act)
kept_job w k o None safe e = safe
kept_job w k o (Some a) safe e =
    let ask = job_ask_keeping w.back k in
    let answered = job_answered_as w.under k ask o a (jobs_keeping w.back k) e in
    let keep = holds_after (kept.AnswersJob k a.answer) w.back safe.tidy (answered, safe.back_told) in
    record {
      ported = ported_as w.front.stage w.under.channels a.under.channels (no_port w.under a (ports_back w.under (back_mover.Job k) ask o a e)) safe.ported;
      held = held_keep w.under (back_mover.Job k) ask o a (all_hands_of w.back) (all_hands_of (job_step_keeping w.back k a.answer)) safe.held e keep;
      tidy = told_taken (job_step_keeping w.back k a.answer) (happened_tidy (kept.AnswersJob k a.answer) w.back safe.tidy);
      front_told = safe.front_told;
      back_told = refl;
    }

-- a state that the front enters
kept_enter : (w : World) (s : FrontState) → IsSafeKeeping w → IsSafeKeeping (happens w (FrontEnters s))
kept_enter w s safe =
    let entered = entered_kept s w.front in
    record {
      ported = entered.ported w.under.channels safe.ported;
      held = safe.held;
      tidy = safe.tidy;
      front_told = entered.told ∙ safe.front_told;
      back_told = safe.back_told;
    }

-- the back alone changes, and holds what it held: terms that it takes, how many mappings it may keep, and a halt
kept_as : (w : World) (b : back.View) → IsSafeKeeping w → IsPermutation (all_hands_of w.back) (all_hands_of b) → IsTidy b → b.told ≡ w.back.told → IsSafeKeeping (record { front = w.front; back = b; under = w.under })
kept_as w b safe hands tidy told = record {
  ported = safe.ported;
  held = held_as w.under.grants (all_hands_of w.back) (all_hands_of b) hands safe.held;
  tidy = tidy;
  front_told = safe.front_told;
  back_told = told ∙ safe.back_told;
}

halt_told_at : (s : BackStage) (why : Halt) (v : back.View) → (halts_keeping_at s why v).told ≡ v.told
halt_told_at stage.InitWait why v = refl
halt_told_at stage.MapRing why v = refl
halt_told_at stage.Loop why v = refl
halt_told_at s why v = refl

halt_told : (why : Halt) (v : back.View) → (halts_keeping why v).told ≡ v.told
halt_told why v = by_kind (may_halt why)
  where
    by_kind : (b : Bool) → (if b then halts_keeping_at v.stage why v else v).told ≡ v.told
    by_kind true = halt_told_at v.stage why v
    by_kind false = refl

kept_halt : (w : World) (why : Halt) → IsSafeKeeping w → IsSafeKeeping (halted_keeping w why)
kept_halt w why safe = kept_as w (halts_keeping why w.back) safe (holds_after (kept.Halts why) w.back safe.tidy tt) (happened_tidy (kept.Halts why) w.back safe.tidy) (halt_told why w.back)

kept_attach : (w : World) (shape : Shape) (grefs : List ℕ) (port : ℕ) → IsSafeKeeping w → IsSafeKeeping (happens w (BackAttaches shape grefs port))
kept_attach w shape grefs port safe =
    attach_cases (λ b shown. IsSafeKeeping (record { front = w.front; back = b; under = w.under })) w shape grefs port
    (λ may layout says.
    let takes = kept.Attaches shape grefs port in
    let taken : back.View = attached shape grefs port w.back in
    kept_as w taken safe
    (subst (λ (b : Bool). IsPermutation (all_hands_of w.back) (all_hands_of (if b then taken else w.back))) may (holds_after takes w.back safe.tidy tt))
    (subst (λ (b : Bool). IsTidy (if b then taken else w.back)) may (happened_tidy takes w.back safe.tidy)) refl)
    safe

-- how many mappings it may keep: none, where its front keeps no grants
middle_of : (a b c : Bool) → (a && b && c) ≡ true → b ≡ true
middle_of true true c h = refl
middle_of true false c h = absurd (cc)
middle_of false b c h = absurd (cc)

may_keep_none : (a : Bool) (cap : ℕ) → (a && nat_le cap 1000) ≡ true → (a && nat_le 0 1000) ≡ true
may_keep_none true cap may = refl
may_keep_none false cap may = may

may_keep_read : (b a : Bool) (cap : ℕ) → (a && nat_le cap 1000) ≡ true → (a && nat_le (if b then cap else 0) 1000) ≡ true
may_keep_read true a cap may = may
may_keep_read false a cap may = may_keep_none a cap may

kept_told : (w : World) (cap : ℕ) → reads_keeping w cap ≡ true → IsSafeKeeping w → IsSafeKeeping (kept_so w cap)
kept_told w cap reads safe =
    let may = may_keep_read (says_one (keeping_text w)) (is_attached w.back.stage w.back.pages) cap (middle_of (back_offers w) (may_keep_most cap w.back) (not (cap == 0)) reads) in
    let most : ℕ = cap_read w cap in
    kept_as w (keeping_most most w.back) safe (IsPermutation-refl (all_hands_of w.back))
    (subst (λ (b : Bool). IsTidy (if b then keeping_most most w.back else w.back)) may (happened_tidy (kept.Keeps most) w.back safe.tidy)) refl

kept_keeps : (w : World) (cap : ℕ) (b : Bool) → reads_keeping w cap ≡ b → IsSafeKeeping w → IsSafeKeeping (if b then kept_so w cap else w)
kept_keeps w cap true reads safe = kept_told w cap reads safe
kept_keeps w cap false reads safe = safe

-- the back publishes that it keeps grants
kept_offers : (w : World) (b : Bool) → IsSafeKeeping w → IsSafeKeeping (if b then offered w else w)
kept_offers w true safe = record { ported = safe.ported; held = safe.held; tidy = safe.tidy; front_told = safe.front_told; back_told = safe.back_told }
kept_offers w false safe = safe

-- a submission
kept_submit : (w : World) (job : Submission) → IsSafeKeeping w → IsSafeKeeping (happens w (Submits job))
kept_submit w job safe =
    let left = submit_kept w.front job in
    record {
      ported = rw left.stage safe.ported;
      held = safe.held;
      tidy = safe.tidy;
      front_told = left.told ∙ safe.front_told;
      back_told = safe.back_told;
    }

-- what happens outside the ends
kept_outside : (w : World) (v : World) → LeavesEnds w v → IsSafeKeeping w → IsSafeKeeping v
kept_outside w v left safe =
    let ports : KeepsPorts w.under.channels v.under.channels = sent_keeps w.under.channels v.under.channels left.channels in
    record {
      ported = ported_as v.front.stage w.under.channels v.under.channels (λ none. (subst (λ (n : ℕ). n < 4294967295) (sym ports.made) none.0, ports.ports ∙ none.1)) (subst (λ (f : front.View). IsPorted f.stage w.under.channels) (sym left.front) safe.ported);
      held = rw (left.grants, left.back) safe.held;
      tidy = rw left.back safe.tidy;
      front_told = ap (λ (f : front.View). f.told) left.front ∙ safe.front_told;
      back_told = ap (λ (b : back.View). b.told) left.back ∙ safe.back_told;
    }

-- after a suspend nothing is mapped, held or kept
kept_suspended : (w : World) → may_suspend w ≡ true → IsSafeKeeping w → IsSafeKeeping (suspended w)
kept_suspended w may safe = record {
  ported = ported_none (let f : front.View = front_suspended w.front in f.stage) (reset w.under.channels) (let left = ports_left_then w may in omega arith, refl);
  held = rw (back_cases (λ (b : back.View). all_hands_of b ≡ []) w refl refl) (none_live w.under.grants.made);
  tidy = back_cases IsTidy w
      (record { few = omega arith; cap = omega arith; cleared = (refl, refl); emptied = tt })
      (record { few = omega arith; cap = omega arith; cleared = (refl, refl); emptied = refl });
  front_told = (front_kept w.front).told ∙ safe.front_told;
  back_told = suspended_told w;
}

kept_suspend : (w : World) → IsSafeKeeping w → IsSafeKeeping (happens w Suspends)
kept_suspend w safe = suspend_cases (λ v shown. IsSafeKeeping v) w (λ may. kept_suspended w may safe) safe

-- whatever happens
kept_plainly : (w : World) (h : Happening) → IsSafeKeeping w → IsSafeKeeping (plainly_after w h)
kept_plainly w FrontMoves safe = kept_front_turn w (front_turn w) safe refl
kept_plainly w BackMoves safe = kept_back w Took (back_turn w Took) safe refl
kept_plainly w (JobMoves number outcome) safe = kept_job w number outcome (job_turn_keeping w number outcome) safe refl
kept_plainly w (FrontEnters state) safe = kept_enter w state safe
kept_plainly w (BackAttaches shape grefs port) safe = kept_attach w shape grefs port safe
kept_plainly w (BackHalts why) safe = kept_halt w why safe
kept_plainly w (Submits job) safe = kept_submit w job safe
kept_plainly w Suspends safe = kept_suspend w safe
kept_plainly w h safe = kept_outside w (happens w h) (leaves_ends w h tt) safe

pub kept_happens : (w : World) (h : KeepingHappening) → IsSafeKeeping w → IsSafeKeeping (happens_keeping w h)
kept_happens w (Plainly h) safe = kept_plainly w h safe
kept_happens w BackOffers safe = kept_offers w (is_led w.back.stage) safe
kept_happens w (BackKeeps cap) safe = kept_keeps w cap (reads_keeping w cap) refl safe

pub kept_after : (hs : List KeepingHappening) (w : World) → IsSafeKeeping w → IsSafeKeeping (after_keeping hs w)
kept_after [] w safe = safe
kept_after (h ∷ hs) w safe = kept_after hs (happens_keeping w h) (kept_happens w h safe)
