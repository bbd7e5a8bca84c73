-- A back whose job is told so many words at once: that job is moved, and all else is as it was.
use Rattle.std.proofs.Common.{◌≡◌, ℕ, zero, suc, ◌+◌, ◌-◌, ◌<◌, ◌≤◌, Bool, true, false, List, [], ◌∷◌, ◌++◌, map, refl, sym, ap, ◌∙◌, subst, arith}
use Rattle.std.specs.Prelude.{Option, Some, None, replicate}
use Rattle.std.proofs.lemmas.List.{map-append, replicate_more}
use Rattle.std.proofs.lemmas.List.Sums.{fold-append}
use Rattle.blk_base.specs.declared.ask.BackAnswer.{BackAnswer}
use Rattle.blk_base.specs.declared.ask.BackAnswer.TheVariants.{Done, Word}
use Rattle.xen_pages.specs.Pages.{word_of, words_of}
use Rattle.hypervisor.specs.Hypervisor.{Hypervisor}
use Rattle.back_jobs.specs.declared.part.SectorPart.{SectorPart as JobPart}
use Rattle.back_jobs.specs.declared.effect.Effect.{Effect}
use Rattle.back_jobs.specs.Work.{Work, step_of}
use Rattle.back_jobs.specs.Jobs.{work_of, effect_of}
use Rattle.back_jobs.specs.Part.{steps_of}
use Rattle.back_jobs.proofs.Parts.{steps_facts}
use Rattle.back_jobs.proofs.Kept.{Facts}
use Rattle.blk_back.specs.declared.told.BackTold.{BackTold}
use Rattle.blk_back.specs.View as back_ring
use Rattle.blk_back.specs.Step.{job_step, told_effect}
use Rattle.blk_back.specs.Part.{job_steps}
use Rattle.round_laws.specs.Movers.{part_of, frame_under, job_answers, job_answers_to, job_moved, AreAbove}
use Rattle.round_laws.specs.AtOnce.{with_jobs}
use Rattle.round_laws.specs.Laws.{TellsAtOnce}
use Rattle.round_laws.proofs.Frames.{one_more, words_more}
use Rattle.round_laws.proofs.JobWords.{word_answered, IsNext, next_word}
use Rattle.round_laws.proofs.Jobs.{AreUpTo, work_there, told_there}

answers_more : (h : Hypervisor) (p : JobPart) (writes : Bool) (n : ℕ) → job_answers_to h p writes (suc n) ≡ job_answers_to h p writes n ++ word_answered h p writes n ∷ []
answers_more h p true n = sym (replicate_more n Done ∙ ap (λ c. replicate c Done) (one_more n))
answers_more h p false n =
    ap (λ (l : List ℕ). map (λ word. Word word) l) (words_more h.pages (frame_under h p) p.word n)
    ∙ map-append (λ word. Word word) (words_of h.pages (frame_under h p) p.word n) (word_of h.pages (frame_under h p) (p.word + n) ∷ [])

no_answers : (h : Hypervisor) (p : JobPart) (writes : Bool) → job_answers_to h p writes 0 ≡ []
no_answers h p true = refl
no_answers h p false = refl

module _ (h : Hypervisor) (v : back_ring.View) (told : v.told ≡ None) (pre : List Work) (t : Work) (post : List Work) (from : ℕ) (low : AreUpTo from pre) (less : from < t.number) (whole : v.jobs.works ≡ pre ++ t ∷ post) where
  abbrev with_it : Work → back_ring.View
  with_it u = with_jobs v (pre ++ u ∷ post)

  as_it_was : v ≡ with_it t
  as_it_was = ap (with_jobs v) whole

  one_step : (u : Work) (a : BackAnswer) → u.number ≡ t.number → effect_of (Some u) a ≡ None → job_step (with_it u) t.number a ≡ with_it (step_of u a)
  one_step u a same silent =
      let below : from < u.number = omega (arith, same, less) in
      let works : List Work = pre ++ u ∷ post in
      subst (λ k. job_step (with_it u) k a ≡ with_it (step_of u a)) same
      (ap (λ (l : List Work). made l (effect_of (work_of works u.number) a)) (told_there pre u post from low below a)
      ∙ (ap (λ (o : Option Work). made (pre ++ step_of u a ∷ post) (effect_of o a)) (work_there pre u post from low below)
      ∙ (ap (made (pre ++ step_of u a ∷ post)) silent ∙ ap (λ (x : Option BackTold). record (with_it (step_of u a)) { told = x }) (sym told))))
    where
      made : List Work → Option Effect → back_ring.View
      made l effect = record (with_jobs v l) { told = told_effect effect }

  -- so many words, one after another
  module _ (p : JobPart) (is : part_of t ≡ Some p) where
    moved_so : (n : ℕ) → job_moved h n t ≡ steps_of t (job_answers_to h p p.writes n)
    moved_so n = ap (λ (o : Option JobPart). steps_of t (job_answers h o n)) is

    pub told_words : (n : ℕ) → n ≤ p.count → job_steps v t.number (job_answers_to h p p.writes n) ≡ with_it (job_moved h n t)
    told_words zero few =
        ap (job_steps v t.number) (no_answers h p p.writes)
        ∙ (as_it_was ∙ ap with_it (sym (moved_so 0 ∙ ap (steps_of t) (no_answers h p p.writes))))
    told_words (suc n) few =
        let x : BackAnswer = word_answered h p p.writes n in
        let next : IsNext h n t (job_moved h n t) p = next_word h n t p is (omega arith) in
        let same : (job_moved h n t).number ≡ t.number = ap (λ (f : Facts). f.0) (steps_facts t (job_answers h (part_of t) n)) in
        ap (job_steps v t.number) (answers_more h p p.writes n)
        ∙ (fold-append (λ (w : back_ring.View) a. job_step w t.number a) v (job_answers_to h p p.writes n) (x ∷ [])
        ∙ (ap (λ (w : back_ring.View). job_step w t.number x) (told_words n (omega arith))
        ∙ (one_step (job_moved h n t) x same next.silent ∙ ap with_it (sym next.next))))

-- the jobs before one have lower numbers
lower : (from : ℕ) (pre : List Work) (t : Work) (post : List Work) → AreAbove from (pre ++ t ∷ post) → AreUpTo (t.number - 1) pre × (from < t.number)
lower from [] t post above = (tt, above.0)
lower from (u ∷ pre) t post above =
    let rest = lower u.number pre t post above.1 in
    let first = above.0 in
    let second = rest.1 in
    ((omega arith, rest.0), omega arith)

pub tells_at_once : TellsAtOnce
tells_at_once h n v before t later p told whole above is few =
    let low = lower 0 before t later above in
    let some = low.1 in
    told_words h v told before t later (t.number - 1) low.0 (omega arith) whole p is n few
