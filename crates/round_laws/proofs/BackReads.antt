-- The back's move of a round: it copies a word of an entry, or waits.
use Rattle.std.proofs.Common.{◌≡◌, ℕ, suc, ◌+◌, ◌≤◌, false, ◌&&◌, ◌||◌, List, [], ◌∷◌, ◌++◌, map, length, refl, sym, ap, ◌∙◌, subst, arith}
use Rattle.std.specs.Prelude.{Option, Some, None}
use Rattle.std.specs.List.{AllByRecursion}
use Rattle.blk_base.specs.declared.ask.BackAsk.{BackAsk}
use Rattle.blk_base.specs.declared.ask.BackAsk.TheVariants as ask
use Rattle.blk_base.specs.declared.ask.BackAnswer.{BackAnswer}
use Rattle.blk_base.specs.declared.ask.BackAnswer.TheVariants.{Word}
use Rattle.blk_base.specs.declared.moves.BackMover.TheVariants as back_mover
use Rattle.blk_base.specs.declared.halt.Halt.{Halt}
use Rattle.blk_io.specs.Disk.{DiskSeen}
use Rattle.schedule_text.specs.declared.line.Line.TheVariants.{Move}
use Rattle.xen_pages.specs.Pages.{word_of, words_of}
use Rattle.hypervisor.specs.Hypervisor.{Hypervisor}
use Rattle.hypervisor.specs.Act.{BackAct, Took, back_act, with_pages}
use Rattle.back_jobs.specs.declared.part.SectorPart.{SectorPart as JobPart}
use Rattle.back_jobs.specs.Work.{Work}
use Rattle.blk_back.specs.declared.stage.BackStage.{BackStage}
use Rattle.blk_back.specs.declared.told.BackTold.{BackTold}
use Rattle.blk_back.specs.View as ring_view
use Rattle.blk_back.specs.View.{RingInfo}
use Rattle.blk_back.specs.Ask as back_ring
use Rattle.blk_back.specs.Step as step_ring
use Rattle.blk_back.specs.Part.{copied}
use Rattle.xenbus_state.specs.declared.back.BackBusAsk.{BackBusAsk}
use Rattle.xenbus_state.specs.declared.back.BackBusAsk.TheVariants as back_bus
use Rattle.xenbus_state.specs.BackView.{BackView}
use Rattle.split_model.specs.World as rings
use Rattle.split_model.specs.Happening as ring
use Rattle.split_model.specs.Shown.{back_lines, halt_lines}
use Rattle.vbd_front.specs.View as front
use Rattle.vbd_back.specs.View as back_view
use Rattle.vbd_back.specs.View.{both}
use Rattle.vbd_back.specs.Ask as back
use Rattle.vbd_back.specs.Step as back_step
use Rattle.vbd_back.specs.Part.{entry_part, steps_of}
use Rattle.vbd_model.specs.World.{World, backend_of}
use Rattle.vbd_model.specs.Happening.{BackMoves, back_turn, back_does, back_bus_after}
use Rattle.vbd_model.specs.Mappings.{words_copied}
use Rattle.vbd_laws.proofs.MovesTurns.{back_asks, back_cases}
use Rattle.round_laws.specs.Movers.{part_of, frame_under, back_answers, job_moved, BackGoesOn, JobGoesOn}
use Rattle.round_laws.specs.AtOnce.{with_jobs, with_back, with_movers, Passes, IsMoveLine}
use Rattle.round_laws.proofs.Passing.{passes_one}
use Rattle.round_laws.proofs.Frames.{words_more, words_count}
use Rattle.round_laws.proofs.Waits.{back_waits}
use Rattle.round_laws.proofs.Alike.{back_waits_so}
use Rattle.round_laws.proofs.Pass.{Agrees}
use Rattle.round_laws.proofs.BackWords.{copies_now, copied_so, asks_with, steps_with}

abbrev IsRead : BackAsk → Type 0
IsRead (ask.Read m word) = Unit {0}
IsRead a = ⊥

no_read : (a : BackBusAsk) → IsRead (back.key_ask a) → ⊥
no_read back_bus.Watch is = is
no_read back_bus.GetState is = is
no_read (back_bus.GetKey key) is = is
no_read (back_bus.SetState s) is = is
no_read (back_bus.SetKey key value) is = is
no_read a is = is

-- the back reads a word, tells nothing of it, and doesn't halt
module _ (w : World) (a : BackAct) where
  abbrev Reads : List ring.Happening → BackAsk → (BackAnswer → back_view.View) → Type 0
  Reads does asked step =
      let v : back_view.View = step a.answer in
      IsRead asked → back_act w.rings.under back_mover.Back asked Took ≡ Some a → w.rings.back.halted ≡ None → v.ring.told ≡ None → v.ring.halted ≡ None
      → (ring.after does w.rings ≡ record { front = w.rings.front; back = v.ring; under = a.under }) × (ring.lines_of does w.rings ≡ Move a.shown ∷ []) × ((d : DiskSeen) → ring.DiskRuns does w.rings d d)

  reads : Reads (back_does w) (back.ask_of (backend_of w)) (λ x. back_step.step_of (backend_of w) x)
  reads =
      back_cases Reads w
      (λ says untaken word e runs told halted. absurd (no_read (back_asks w) word))
      (λ says takes word e runs told halted. absurd (no_read (back_asks w) word))
      (λ quiet does word e runs told halted. (
        ap (λ (act : Option BackAct). ring.back_after w.rings act) e ∙ ap (λ (t : Option BackTold). record { front = w.rings.front; back = record (step_ring.step_of w.rings.back a.answer) { told = t }; under = a.under }) (sym told),
        ap (λ (act : Option BackAct). ring.back_shows w.rings act ++ []) e
            ∙ (ap (λ (t : Option BackTold). Move a.shown ∷ ((back_lines t a.answer ++ halt_lines w.rings.back.halted (step_ring.step_of w.rings.back a.answer).halted) ++ [])) told
            ∙ (ap (λ (x : Option Halt). Move a.shown ∷ (halt_lines w.rings.back.halted x ++ [])) halted
            ∙ ap (λ (x : Option Halt). Move a.shown ∷ (halt_lines x None ++ [])) runs)),
        λ d. (d, refl, refl),
      ))
      (λ quiet still word e runs told halted. absurd word)

  back_reads : IsRead (back.ask_of (backend_of w)) → back_turn w ≡ Some a → w.rings.back.halted ≡ None → (v : back_view.View) → back_step.step_of (backend_of w) a.answer ≡ v → v.ring.told ≡ None → v.ring.halted ≡ None
      → Passes (BackMoves ∷ []) w (record { rings = record { front = w.rings.front; back = v.ring; under = a.under }; front = w.front; back = v.bus })
  back_reads word e runs v to told halted =
      let u : back_view.View = back_step.step_of (backend_of w) a.answer in
      let is = reads word e runs (ap (λ (x : back_view.View). x.ring.told) to ∙ told) (ap (λ (x : back_view.View). x.ring.halted) to ∙ halted) in
      passes_one w _ BackMoves
      (ap (λ (r : rings.World). with_bus r (back_bus_after w (back_turn w))) is.0
      ∙ (ap (λ (act : Option BackAct). with_bus (record { front = w.rings.front; back = u.ring; under = a.under }) (back_bus_after w act)) e
      ∙ ap (λ (x : back_view.View). with_bus (record { front = w.rings.front; back = x.ring; under = a.under }) x.bus) to))
      (subst (AllByRecursion IsMoveLine) (sym is.1) (tt, tt))
      is.2
    where
      with_bus : rings.World → BackView → World
      with_bus r b = record { rings = r; front = w.front; back = b }

module _ (w : World) where
  abbrev h : Hypervisor
  h = w.rings.under

  abbrev v : back_view.View
  v = backend_of w

  -- after n words of an entry it is as it was, but for its ring and its stage
  pub record HasCopied (n : ℕ) (o : Option JobPart) : Type 0 where
    pub ring : RingInfo
    pub stage : BackStage
    pub is : steps_of v (back_answers h o n) ≡ both (record w.rings.back { ring = ring; stage = stage }) w.back
    pub few : words_copied stage ≤ words_copied w.rings.back.stage + n

  -- and asks as it did
  pub record StaysBusy (n : ℕ) (o : Option JobPart) : Type 0 where
    pub copied : HasCopied n o
    pub idle : back.is_idle (both (record w.rings.back { ring = copied.ring; stage = copied.stage }) w.back) ≡ back.is_idle v

  module _ (p : JobPart) (is : entry_part v ≡ Some p) where
    abbrev words : ℕ → List ℕ
    words n = words_of h.pages (frame_under h p) p.word n

    counted : (n : ℕ) → length (words n) ≡ n
    counted n = words_count h.pages (frame_under h p) p.word n

    abbrev has_words : (n : ℕ) → BackGoesOn n v h (Some p) → HasCopied n (Some p)
    has_words n goes =
        let few = goes.0 in
        let c : ring_view.View = copied w.rings.back (copies_now v p is).k (words n) in
        let here : words_copied w.rings.back.stage ≡ (copies_now v p is).k = ap words_copied (copies_now v p is).stage in
        record { ring = c.ring; stage = c.stage; is = copied_so v p is goes.2 (words n) (omega (arith, counted n, few)); few = omega (arith, counted n, here) }

    asks_so : (n : ℕ) (l : List Work) → BackGoesOn n v h (Some p) → back.ask_of (both (with_jobs (copied w.rings.back (copies_now v p is).k (words n)) l) w.back) ≡ ask.Read p.mapping (p.word + n)
    asks_so n l goes =
        let few = goes.0 in
        asks_with v p is goes.2 (words n) l (omega (arith, counted n, few)) ∙ ap (λ c. ask.Read p.mapping (p.word + c)) (counted n)

    not_idle : (x : back_view.View) (m : ℕ) → back.ask_of x ≡ ask.Read p.mapping m → back.is_idle x ≡ false
    not_idle x m asks = ap (λ (a : BackAsk). back_ring.is_wait a && (back_ring.is_led x.ring.stage || back_ring.is_idle x.ring)) asks

    stays_words : (n : ℕ) → BackGoesOn n v h (Some p) → StaysBusy n (Some p)
    stays_words n goes =
        let few = goes.0 in
        let now = not_idle (both (copied w.rings.back (copies_now v p is).k (words n)) w.back) (p.word + n) (asks_so n w.rings.back.jobs.works goes) in
        let first = not_idle v p.word (ap back.ask_of (copied_so v p is goes.2 [] (omega (arith, few))) ∙ (asks_with v p is goes.2 [] w.rings.back.jobs.works (omega (arith, few)) ∙ ap (ask.Read p.mapping) (omega arith))) in
        record { copied = has_words n goes; idle = now ∙ sym first }

  abbrev as_it_was : (n : ℕ) → HasCopied n None
  as_it_was n = record { ring = w.rings.back.ring; stage = w.rings.back.stage; is = refl; few = omega arith }

  -- it does so long what it does
  pub stays_busy : (n : ℕ) (o : Option JobPart) → entry_part v ≡ o → BackGoesOn n v h o → StaysBusy n o
  stays_busy n None is goes = record { copied = as_it_was n; idle = refl }
  stays_busy n (Some p) is goes = stays_words p is n goes

  -- its move: from n words to one more
  pub record BackPasses (n : ℕ) (f : front.View) (pages : List ℕ) (o : Option JobPart) : Type 0 where
    pub first : HasCopied n o
    pub then : HasCopied (suc n) o
    pub passes : Passes (BackMoves ∷ [])
        (with_movers (with_back w (record w.rings.back { ring = first.ring; stage = first.stage })) f (map (job_moved h n) w.rings.back.jobs.works) pages)
        (with_movers (with_back w (record w.rings.back { ring = then.ring; stage = then.stage })) f (map (job_moved h n) w.rings.back.jobs.works) pages)

  pub back_passes : (n : ℕ) (f : front.View) (pages : List ℕ) (o : Option JobPart) → entry_part v ≡ o → BackGoesOn (suc n) v h o → BackGoesOn n v h o → w.rings.back.halted ≡ None → w.rings.back.told ≡ None
      → AllByRecursion (λ (t : Work). JobGoesOn n w.rings.back t (part_of t)) w.rings.back.jobs.works → Agrees h pages o → BackPasses n f pages o
  back_passes n f pages None is more goes runs told jobs agrees =
      record {
        first = as_it_was n;
        then = as_it_was (suc n);
        passes = back_waits (with_movers w f (map (job_moved h n) w.rings.back.jobs.works) pages) (back_waits_so h n w.rings.back jobs w.back ∙ goes.0) goes.1;
      }
  back_passes n f pages (Some p) is more goes runs told jobs agrees =
      let l : List Work = map (job_moved h n) w.rings.back.jobs.works in
      let left = more.0 in
      let within = more.1 in
      let k : ℕ = (copies_now v p is).k in
      let word : ℕ = word_of h.pages (frame_under h p) (p.word + n) in
      let at : World = with_movers (with_back w (copied w.rings.back k (words p is n))) f l pages in
      let asks : back.ask_of (backend_of at) ≡ ask.Read p.mapping (p.word + n) = asks_so p is n l goes in
      let same : word_of pages (frame_under h p) (p.word + n) ≡ word = agrees (p.word + n) (omega (arith, left, within)) in
      let stepped : back_step.step_of (backend_of at) (Word (word_of pages (frame_under h p) (p.word + n))) ≡ both (with_jobs (copied w.rings.back k (words p is (suc n))) l) w.back =
      ap (λ x. back_step.step_of (backend_of at) (Word x)) same
      ∙ (steps_with v p is goes.2 (words p is n) l word (let all = counted p is n in omega (arith, all, left))
      ∙ ap (λ (ws : List ℕ). both (with_jobs (copied w.rings.back k ws) l) w.back) (sym (words_more h.pages (frame_under h p) p.word n))) in
      record {
        first = has_words p is n goes;
        then = has_words p is (suc n) more;
        passes = back_reads at _ (subst IsRead (sym asks) tt) (ap (λ (a : BackAsk). back_act (with_pages h pages) back_mover.Back a Took) asks) runs (both (with_jobs (copied w.rings.back k (words p is (suc n))) l) w.back) stepped told runs;
      }
