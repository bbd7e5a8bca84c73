-- The front's move of a round: it moves a word, or waits.
use Rattle.std.proofs.Common.{◌≡◌, ℕ, suc, ◌+◌, ◌<◌, ◌≤◌, List, [], ◌∷◌, length, refl, sym, ap, ◌∙◌, subst, arith}
use Rattle.std.specs.Prelude.{Option, Some, None, IfSome, slice_index}
use Rattle.blk_base.specs.declared.ask.FrontAnswer.TheVariants.{Done, Word}
use Rattle.xen_pages.specs.Pages.{word_of}
use Rattle.hypervisor.specs.Hypervisor.{Hypervisor}
use Rattle.hypervisor.specs.Act.{FrontAct, front_act, with_pages}
use Rattle.back_jobs.specs.Work.{Work}
use Rattle.vbd_front.specs.View.{View}
use Rattle.vbd_front.specs.Ask.{ask_of}
use Rattle.vbd_front.specs.Step.{step_of}
use Rattle.vbd_front.specs.Part.{steps_of}
use Rattle.vbd_model.specs.World.{World, frontend_of}
use Rattle.vbd_model.specs.Happening.{FrontMoves}
use Rattle.round_laws.specs.Movers.{FrontWords, front_words, front_answers, front_answers_to, front_writes, front_writes_to, jobs_write, FrontGoesOn, IsOutside}
use Rattle.round_laws.specs.AtOnce.{with_jobs, with_movers, Passes}
use Rattle.round_laws.proofs.Frames.{AllFit, jobs_keep, jobs_past, written_more}
use Rattle.round_laws.proofs.FrontWords.{IsNext, next_word, word_asked}
use Rattle.round_laws.proofs.Passing.{passes_to}
use Rattle.round_laws.proofs.Waits.{IsWord, front_waits, front_moves, front_there}

module _ (w : World) where
  abbrev h : Hypervisor
  h = w.rings.under

  abbrev works : List Work
  works = w.rings.back.jobs.works

  abbrev v : View
  v = frontend_of w

  abbrev at : View → List Work → List ℕ → World
  at f l pages = with_movers w f l pages

  -- the front's move, where memory has at first what it reads
  module _ (n : ℕ) (now : List Work) (pages then : List ℕ) where
    word_moves : (p : FrontWords) (values : Option (List ℕ)) (f g : View) (a : FrontAct) → IsNext h.pages n v f p values → g ≡ step_of f a.answer → g.ring.told ≡ None
        → front_act (with_pages h pages) (word_asked p values n) ≡ Some a → a.under ≡ with_pages h then → IsWord (word_asked p values n)
        → Passes (FrontMoves ∷ []) (at f now pages) (at g now then)
    word_moves p values f g a next is quiet act under word =
        let m : World = at f now pages in
        let same : frontend_of m ≡ f = ap (λ x. record { ring = f.ring; bus = f.bus; news = x }) (sym next.news) in
        let asked : ask_of (frontend_of m) ≡ word_asked p values n = ap ask_of same ∙ next.asks in
        let stepped : step_of (frontend_of m) a.answer ≡ g = ap (λ x. step_of x a.answer) same ∙ sym is in
        passes_to (FrontMoves ∷ []) m (front_there m a (step_of (frontend_of m) a.answer)) (at g now then)
        (ap (front_there m a) stepped ∙ ap (λ (u : Hypervisor). record { rings = record { front = g.ring; back = with_jobs w.rings.back now; under = u }; front = g.bus; back = w.back }) under)
        (front_moves m a (subst IsWord (sym asked) word) (ap (front_act (with_pages h pages)) asked ∙ act) (subst (λ (x : View). x.ring.told ≡ None) (sym stepped) quiet))

  -- the front comes to one word more, or waits
  pub front_passes : (n : ℕ) (o : Option FrontWords) → front_words v ≡ o → FrontGoesOn (suc n) w o → w.rings.front.told ≡ None → (now : List Work) → AllFit h n works → IfSome o (λ p. IsOutside h p.frame works)
      → Passes (FrontMoves ∷ []) (at (steps_of v (front_answers o h.pages n)) now (jobs_write h n works (front_writes o n h.pages)))
      (at (steps_of v (front_answers o h.pages (suc n))) now (jobs_write h n works (front_writes o (suc n) h.pages)))
  front_passes n None is goes quiet now fits outside =
      front_waits (at v now (jobs_write h n works h.pages)) goes.0 goes.1
  front_passes n (Some p) is goes quiet now fits outside = by_values p.values refl
    where
      few : n < p.count
      few = let more = goes.0 in omega arith

      short : p.word + n < 1024
      short = let more = goes.0 in let within = goes.1 in omega arith

      there_all : (values : List ℕ) → p.values ≡ Some values → n < length values
      there_all values way = let all = subst (λ (o : Option (List ℕ)). IfSome o (λ values. p.count ≤ length values)) way goes.2 in omega (arith, all, few)

      next : IsNext h.pages n v (steps_of v (front_answers_to p p.values h.pages n)) p p.values
      next = next_word v goes.3 quiet h.pages p is n few

      later : IsNext h.pages (suc n) v (steps_of v (front_answers_to p p.values h.pages (suc n))) p p.values
      later = next_word v goes.3 quiet h.pages p is (suc n) goes.0

      by_values : (o : Option (List ℕ)) → p.values ≡ o
          → Passes (FrontMoves ∷ []) (at (steps_of v (front_answers_to p o h.pages n)) now (jobs_write h n works (front_writes_to p o n h.pages)))
          (at (steps_of v (front_answers_to p o h.pages (suc n))) now (jobs_write h n works (front_writes_to p o (suc n) h.pages)))
      by_values (Some values) way =
          let one = subst (λ (x : Option (List ℕ)). IsNext h.pages n v (steps_of v (front_answers_to p x h.pages n)) p x) way next in
          let two = subst (λ (x : Option (List ℕ)). IsNext h.pages (suc n) v (steps_of v (front_answers_to p x h.pages (suc n))) p x) way later in
          let written : List ℕ = front_writes_to p (Some values) n h.pages in
          let there : n < length values = there_all values way in
          word_moves n now (jobs_write h n works written) (jobs_write h n works (front_writes_to p (Some values) (suc n) h.pages)) p (Some values) _ _
          (record { answer = Done; under = _; shown = _ }) one one.next two.told refl
          (ap (with_pages h) (jobs_past h n works written p.frame (p.word + n) (slice_index values n) fits outside short ∙ ap (jobs_write h n works) (sym (written_more n values h.pages p.frame p.word there))))
          tt
      by_values None way =
          let one = subst (λ (x : Option (List ℕ)). IsNext h.pages n v (steps_of v (front_answers_to p x h.pages n)) p x) way next in
          let two = subst (λ (x : Option (List ℕ)). IsNext h.pages (suc n) v (steps_of v (front_answers_to p x h.pages (suc n))) p x) way later in
          let all : List ℕ = jobs_write h n works h.pages in
          let same : word_of all p.frame (p.word + n) ≡ word_of h.pages p.frame (p.word + n) = jobs_keep h n works h.pages p.frame (p.word + n) fits outside short in
          word_moves n now all all p None _ _
          (record { answer = Word (word_of all p.frame (p.word + n)); under = _; shown = _ }) one
          (one.next ∙ ap (λ word. step_of (steps_of v (front_answers_to p None h.pages n)) (Word word)) (sym same)) two.told refl refl tt
