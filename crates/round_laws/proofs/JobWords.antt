-- A job in the middle of a sector's words: what it asks after so many, and what one more makes of it.
use Rattle.std.proofs.Common.{◌≡◌, ℕ, suc, ◌+◌, ◌-◌, ◌*◌, ◌<◌, Bool, true, false, true≢false, List, [], ◌∷◌, length, refl, sym, ap, ◌∙◌, subst, arith}
use Rattle.std.specs.Prelude.{Option, Some, None, replicate, slice_index}
use Rattle.std.proofs.lemmas.Option.{none-some, same_Some}
use Rattle.std.proofs.lemmas.List.{map-append, replicate_more, get_or-drop}
use Rattle.std.proofs.lemmas.List.Sums.{fold-append}
use Rattle.blk_base.specs.declared.parts.Mapping.{Mapping}
use Rattle.blk_base.specs.declared.ask.BackAsk.{BackAsk}
use Rattle.blk_base.specs.declared.ask.BackAsk.TheVariants as ask
use Rattle.blk_base.specs.declared.ask.BackAnswer.{BackAnswer}
use Rattle.blk_base.specs.declared.ask.BackAnswer.TheVariants.{Done, Word}
use Rattle.xen_pages.specs.Pages.{word_of, words_of}
use Rattle.hypervisor.specs.Hypervisor.{Hypervisor}
use Rattle.back_jobs.specs.declared.part.SectorPart.{SectorPart as JobPart}
use Rattle.back_jobs.specs.declared.stage.JobStage.{JobStage}
use Rattle.back_jobs.specs.declared.stage.JobStage.TheVariants as stage
use Rattle.back_jobs.specs.Work.{Work, ask_of, step_of}
use Rattle.back_jobs.specs.Jobs.{is_done, is_done_at, is_fresh_at, effect_at}
use Rattle.back_jobs.specs.Part.{part_from, part_at, values_at, words_read, words_written, steps_of}
use Rattle.back_jobs.proofs.Parts.{put_each, read_to, read_more, read_steps, written_steps, steps_facts, moving_goes, Stays, stays_first, stays_last, reads_stay, written_stay}
use Rattle.back_jobs.proofs.Kept.{Facts}
use Rattle.blk_back.specs.View as back_ring
use Rattle.vbd_model.specs.Mappings.{maps_at, maps_left}
use Rattle.round_laws.specs.Movers.{part_of, frame_under, job_answers, job_moved, JobGoesOn}
use Rattle.round_laws.proofs.Frames.{one_more, words_more, words_count}

-- what a job asks at its n-th word from now, and is answered
abbrev pub word_asked : JobPart → (writes : Bool) → (values : List ℕ) → (n : ℕ) → BackAsk
word_asked p true values n = ask.Write p.mapping (p.word + n) (slice_index values n)
word_asked p false values n = ask.Read p.mapping (p.word + n)

abbrev pub word_answered : Hypervisor → JobPart → (writes : Bool) → (n : ℕ) → BackAnswer
word_answered h p true n = Done
word_answered h p false n = Word (word_of h.pages (frame_under h p) (p.word + n))

-- after n words it asks for the next, waits for no job, and is told no effect; so it comes to one word more
pub record IsNext (h : Hypervisor) (n : ℕ) (t u : Work) (p : JobPart) : Type 0 where
  pub asks : ask_of u ≡ word_asked p p.writes (values_at t.stage t.words) n
  pub begun : is_fresh_at u.stage u.moved ≡ false
  pub next : job_moved h (suc n) t ≡ step_of u (word_answered h p p.writes n)
  pub silent : effect_at u.stage u (word_answered h p p.writes n) ≡ None

-- it keeps its number and its operation, and is done as it was
pub record IsLike (t u : Work) : Type 0 where
  pub number : u.number ≡ t.number
  pub op : u.op ≡ t.op
  pub done : is_done u ≡ is_done t

like_steps : (m : Mapping) (t : Work) (answers : List BackAnswer) → Stays m t answers → IsLike t (steps_of t answers)
like_steps m t answers stays =
    let facts = steps_facts t answers in
    record {
      number = ap (λ (f : Facts). f.0) facts;
      op = ap (λ (f : Facts). f.1) facts;
      done = moving_goes m (steps_of t answers).stage (stays_last m t answers stays) ∙ sym (moving_goes m t.stage (stays_first m t answers stays));
    }

-- a job that moves no words is as it was
pub unmoved : (h : Hypervisor) (n : ℕ) (t : Work) → part_of t ≡ None → job_moved h n t ≡ t
unmoved h n t none = ap (λ (o : Option JobPart). steps_of t (job_answers h o n)) none

done_none : (s : JobStage) (t : Work) → is_done_at s ≡ true → part_at s t ≡ None
done_none (stage.Done status) t done = refl
done_none s t done = absurd (true≢false (sym done))

pub done_stays : (h : Hypervisor) (n : ℕ) (t : Work) → is_done t ≡ true → job_moved h n t ≡ t
done_stays h n t done = unmoved h n t (done_none t.stage t done)

module _ (h : Hypervisor) (t : Work) (m : Mapping) (k : ℕ) where
  -- it reads words
  module _ (at : t.stage ≡ stage.ReadWord m k) where
    abbrev p : JobPart
    p = part_from t m k false

    is : part_of t ≡ Some p
    is = ap (λ (s : JobStage). part_at s t) at

    abbrev words : ℕ → List ℕ
    words n = words_of h.pages (frame_under h p) p.word n

    counted : (n : ℕ) → length (words n) ≡ n
    counted n = words_count h.pages (frame_under h p) p.word n

    reads : (n : ℕ) → job_moved h n t ≡ steps_of t (words_read (words n))
    reads n = ap (λ (o : Option JobPart). steps_of t (job_answers h o n)) is

    read_like : (n : ℕ) → n < 128 - k → IsLike t (job_moved h n t)
    read_like n few = subst (IsLike t) (sym (reads n)) (like_steps m t (words_read (words n)) (reads_stay t m k (words n) at (omega (arith, counted n))))

    read_now : (n : ℕ) → n < 128 - k → job_moved h n t ≡ record t { words = put_each t.words k (words n); stage = stage.ReadWord m (k + n) }
    read_now n few =
        reads n
        ∙ (read_steps t m k (words n) at (omega arith) (omega (arith, counted n))
        ∙ ap (λ (s : JobStage). record t { words = put_each t.words k (words n); stage = s }) (ap (λ c. read_to m (k + c)) (counted n) ∙ read_more m (k + n) (λ last. omega arith)))

    read_next : (n : ℕ) → n < 128 - k → IsNext h n t (job_moved h n t) p
    read_next n few =
        let now = read_now n few in
        let sum : t.within * 128 + (k + n) ≡ t.within * 128 + k + n = omega arith in
        record {
          asks = ap ask_of now ∙ ap (ask.Read m) sum;
          begun = ap (λ (u : Work). is_fresh_at u.stage u.moved) now;
          next = reads (suc n)
              ∙ (ap (λ (l : List ℕ). steps_of t (words_read l)) (words_more h.pages (frame_under h p) p.word n)
              ∙ (ap (steps_of t) (map-append (λ word. Word word) (words n) (word_of h.pages (frame_under h p) (p.word + n) ∷ []))
              ∙ (fold-append step_of t (words_read (words n)) (Word (word_of h.pages (frame_under h p) (p.word + n)) ∷ [])
              ∙ ap (λ (u : Work). step_of u (Word (word_of h.pages (frame_under h p) (p.word + n)))) (sym (reads n)))));
          silent = ap (λ (u : Work). effect_at u.stage u (Word (word_of h.pages (frame_under h p) (p.word + n)))) now;
        }

  -- it writes them
  module _ (at : t.stage ≡ stage.WriteWord m k) where
    abbrev q : JobPart
    q = part_from t m k true

    writes : (n : ℕ) → job_moved h n t ≡ steps_of t (words_written n)
    writes n = ap (λ (o : Option JobPart). steps_of t (job_answers h o n)) (ap (λ (s : JobStage). part_at s t) at)

    write_like : (n : ℕ) → n < 128 - k → IsLike t (job_moved h n t)
    write_like n few = subst (IsLike t) (sym (writes n)) (like_steps m t (words_written n) (written_stay t m k n at few))

    write_now : (n : ℕ) → n < 128 - k → job_moved h n t ≡ record t { stage = stage.WriteWord m (k + n) }
    write_now n few = writes n ∙ written_steps t m k n at few

    write_next : (n : ℕ) → n < 128 - k → IsNext h n t (job_moved h n t) q
    write_next n few =
        let now = write_now n few in
        let sum : t.within * 128 + (k + n) ≡ t.within * 128 + k + n = omega arith in
        let value : slice_index t.words (k + n) ≡ slice_index (values_at t.stage t.words) n = sym (ap (λ (s : JobStage). slice_index (values_at s t.words) n) at ∙ get_or-drop k t.words n 0) in
        record {
          asks = ap ask_of now ∙ (ap (λ place. ask.Write m place (slice_index t.words (k + n))) sum ∙ ap (ask.Write m (t.within * 128 + k + n)) value);
          begun = ap (λ (u : Work). is_fresh_at u.stage u.moved) now;
          next = writes (suc n)
              ∙ (ap (steps_of t) (sym (replicate_more n Done ∙ ap (λ c. replicate c Done) (one_more n)))
              ∙ (fold-append step_of t (words_written n) (Done ∷ []) ∙ ap (λ (u : Work). step_of u Done) (sym (writes n))));
          silent = ap (λ (u : Work). effect_at u.stage u Done) now;
        }

-- so it is for each job that goes on
pub next_word : (h : Hypervisor) (n : ℕ) (t : Work) (p : JobPart) → part_of t ≡ Some p → n < p.count → IsNext h n t (job_moved h n t) p
next_word h n t p is few = by_stage t.stage refl is
  where
    by_stage : (s : JobStage) → t.stage ≡ s → part_at s t ≡ Some p → IsNext h n t (job_moved h n t) p
    by_stage (stage.ReadWord m k) at here =
        let same : part_from t m k false ≡ p = same_Some _ p here in
        subst (IsNext h n t (job_moved h n t)) same (read_next h t m k at n (subst (λ (x : JobPart). n < x.count) (sym same) few))
    by_stage (stage.WriteWord m k) at here =
        let same : part_from t m k true ≡ p = same_Some _ p here in
        subst (IsNext h n t (job_moved h n t)) same (write_next h t m k at n (subst (λ (x : JobPart). n < x.count) (sym same) few))
    by_stage s at here = absurd (none-some p here)

pub is_like : (h : Hypervisor) (n : ℕ) (v : back_ring.View) (t : Work) → JobGoesOn n v t (part_of t) → IsLike t (job_moved h n t)
is_like h n v t goes = by_stage t.stage refl goes
  where
    by_stage : (s : JobStage) → t.stage ≡ s → JobGoesOn n v t (part_at s t) → IsLike t (job_moved h n t)
    by_stage (stage.ReadWord m k) at here = read_like h t m k at n here.0
    by_stage (stage.WriteWord m k) at here = write_like h t m k at n here.0
    by_stage s at here = subst (IsLike t) (sym (unmoved h n t (ap (λ (x : JobStage). part_at x t) at))) (record { number = refl; op = refl; done = refl })

-- it may come to make as many mappings as before
pub maps_same : (h : Hypervisor) (n : ℕ) (v : back_ring.View) (t : Work) → JobGoesOn n v t (part_of t) → maps_left (job_moved h n t) ≡ maps_left t
maps_same h n v t goes = by_stage t.stage refl goes
  where
    by_stage : (s : JobStage) → t.stage ≡ s → JobGoesOn n v t (part_at s t) → maps_left (job_moved h n t) ≡ maps_left t
    by_stage (stage.ReadWord m k) at here = ap maps_left (read_now h t m k at n here.0) ∙ sym (ap (λ (s : JobStage). maps_at s t) at)
    by_stage (stage.WriteWord m k) at here = ap maps_left (write_now h t m k at n here.0) ∙ sym (ap (λ (s : JobStage). maps_at s t) at)
    by_stage s at here = ap maps_left (unmoved h n t (ap (λ (x : JobStage). part_at x t) at))
