-- The front's words after those of all jobs: it reads and writes what it would before them. So the machine comes to where the rounds lead.
use Rattle.std.proofs.Common.{◌≡◌, ℕ, ◌+◌, ◌≤◌, List, [], ◌∷◌, length, map, refl, ap, ◌∙◌, arith}
use Rattle.std.specs.Prelude.{Option, Some, None, IfSome, take}
use Rattle.xen_pages.specs.Pages.{with_word, with_words}
use Rattle.hypervisor.specs.Hypervisor.{Hypervisor}
use Rattle.hypervisor.specs.Act.{with_pages}
use Rattle.blk_front.specs.Part.{all_read}
use Rattle.back_jobs.specs.Work.{Work}
use Rattle.blk_back.specs.View as back_ring
use Rattle.vbd_front.specs.View.{View}
use Rattle.vbd_front.specs.Part.{steps_of}
use Rattle.vbd_back.specs.View.{View as Backend}
use Rattle.vbd_back.specs.Part.{entry_part}
use Rattle.vbd_model.specs.World.{World, frontend_of, backend_of}
use Rattle.round_laws.specs.Movers.{FrontWords, front_words, front_answers, front_answers_to, front_writes, front_writes_to, job_moved, jobs_write, FrontGoesOn, IsOutside}
use Rattle.round_laws.specs.AtOnce.{with_jobs, front_moved, back_moved, moved}
use Rattle.round_laws.specs.Calls.{MayMoveAtOnce}
use Rattle.round_laws.proofs.Frames.{few_taken, AllFit, jobs_fit, jobs_keep, jobs_past}
use Rattle.round_laws.proofs.BackReads.{HasCopied, stays_busy}
use Rattle.round_laws.proofs.Moving.{words_agree, AllMoved}

module _ (h : Hypervisor) (n : ℕ) (works : List Work) (fits : AllFit h n works) where
  words_past : (values pages : List ℕ) (frame word : ℕ) → IsOutside h frame works → word + length values ≤ 1024 → with_words (jobs_write h n works pages) frame word values ≡ jobs_write h n works (with_words pages frame word values)
  words_past [] pages frame word outside within = refl
  words_past (value ∷ values) pages frame word outside within =
      ap (λ (l : List ℕ). with_words l frame (word + 1) values) (jobs_past h n works pages frame word value fits outside (omega arith))
      ∙ words_past values (with_word pages frame word value) frame (word + 1) outside (omega arith)

  module _ (w : World) where
    writes_past : (o : Option FrontWords) → FrontGoesOn n w o → IfSome o (λ p. IsOutside h p.frame works) → front_writes o n (jobs_write h n works h.pages) ≡ jobs_write h n works (front_writes o n h.pages)
    writes_past None goes outside = refl
    writes_past (Some p) goes outside = by_values p.values
      where
        by_values : (o : Option (List ℕ)) → front_writes_to p o n (jobs_write h n works h.pages) ≡ jobs_write h n works (front_writes_to p o n h.pages)
        by_values (Some values) =
            let counted = few_taken n values in
            let few = goes.0 in
            let within = goes.1 in
            words_past (take n values) h.pages p.frame p.word outside (omega (arith, counted, few, within))
        by_values None = refl

    answers_past : (o : Option FrontWords) → FrontGoesOn n w o → IfSome o (λ p. IsOutside h p.frame works) → front_answers o (jobs_write h n works h.pages) n ≡ front_answers o h.pages n
    answers_past None goes outside = refl
    answers_past (Some p) goes outside = by_values p.values
      where
        by_values : (o : Option (List ℕ)) → front_answers_to p o (jobs_write h n works h.pages) n ≡ front_answers_to p o h.pages n
        by_values (Some values) = refl
        by_values None =
            let few = goes.0 in
            let within = goes.1 in
            ap all_read (words_agree (jobs_write h n works h.pages) h.pages p.frame p.word n (omega (arith, few, within)) (λ u short. jobs_keep h n works h.pages p.frame u fits outside short))

-- the machine with both ends moved
pub all_at_once : (n : ℕ) (w : World) (f : View) (b : back_ring.View) (t u : Hypervisor) → MayMoveAtOnce n w → AllMoved n w.rings.under (let c : Backend = back_moved n w in c.ring) b t
    → f ≡ steps_of (frontend_of w) (front_answers (front_words (frontend_of w)) t.pages n) → u ≡ with_pages t (front_writes (front_words (frontend_of w)) n t.pages)
    → record { rings = record { front = f.ring; back = b; under = u }; front = f.bus; back = w.back } ≡ moved n w
all_at_once n w f b t u may all stepped wrote =
    let h : Hypervisor = w.rings.under in
    let o : Option FrontWords = front_words (frontend_of w) in
    let works : List Work = w.rings.back.jobs.works in
    let fits : AllFit h n works = jobs_fit n w.rings.back works h may.words.jobs in
    let c : Backend = back_moved n w in
    let copied : HasCopied w n (entry_part (backend_of w)) = (stays_busy w n (entry_part (backend_of w)) refl may.words.back).copied in
    let same : c.ring.jobs.works ≡ works = ap (λ (x : Backend). x.ring.jobs.works) copied.is in
    let back : b ≡ with_jobs c.ring (map (job_moved h n) works) = all.back ∙ ap (λ (l : List Work). with_jobs c.ring (map (job_moved h n) l)) same in
    let under : t ≡ with_pages h (jobs_write h n works h.pages) = all.under ∙ ap (λ (l : List Work). with_pages h (jobs_write h n l h.pages)) same in
    let written : List ℕ = jobs_write h n works h.pages in
    let front : f ≡ front_moved n w =
    stepped
    ∙ (ap (λ (y : Hypervisor). steps_of (frontend_of w) (front_answers o y.pages n)) under
    ∙ ap (steps_of (frontend_of w)) (answers_past h n works fits w o may.words.front may.words.front_apart)) in
    let memory : u ≡ with_pages h (jobs_write h n works (front_writes o n h.pages)) =
    wrote
    ∙ (ap (λ (y : Hypervisor). with_pages y (front_writes o n y.pages)) under
    ∙ ap (with_pages h) (writes_past h n works fits w o may.words.front may.words.front_apart)) in
    ap (λ (x : View). record { rings = record { front = x.ring; back = b; under = u }; front = x.bus; back = w.back }) front
    ∙ (ap (λ (x : back_ring.View). record { rings = record { front = (front_moved n w).ring; back = x; under = u }; front = (front_moved n w).bus; back = w.back }) back
    ∙ ap (λ (x : Hypervisor). record { rings = record { front = (front_moved n w).ring; back = with_jobs c.ring (map (job_moved h n) works); under = x }; front = (front_moved n w).bus; back = w.back }) memory)
