-- The front looks for responses: at the producer, and again before it sleeps.
use Rattle.std.proofs.lemmas.Bool.{cases_Bool, eqb-true, le-ltb}
use Rattle.std.proofs.Common.{inr, ◌≡◌, ◌≢◌, ℕ, ◌+◌, ◌*◌, ◌<◌, ◌==◌, inl, Bool, true, false, List, ◌∷◌, length, refl, sym, ◌∙◌, subst, arith, true≢false, length-set}
use Rattle.std.specs.Prelude.{None, nat_lt}
use Rattle.blk_base.specs.Options.{Options}
use Rattle.blk_base.specs.Distance.{distance_of}
use Rattle.blk_base.specs.declared.moves.Move.{Move}
use Rattle.blk_base.specs.declared.moves.Move.TheVariants as moves
use Rattle.blk_base.specs.declared.moves.Mover.TheVariants as mover
use Rattle.schedule_text.specs.declared.line.Line.TheVariants as lines
use Rattle.pipeline_laws.specs.Pipeline.{Pipeline}
use Rattle.ring_words.specs.Ring.{next_of}
use Rattle.xen_pages.specs.Pages.{word_of, with_word}
use Rattle.blk_front.specs.declared.stage.FrontStage.{FrontStage}
use Rattle.blk_front.specs.declared.stage.FrontStage.TheVariants as front
use Rattle.blk_front.specs.View.{View, next_request}
use Rattle.blk_front.specs.Submit.{ending_of}
use Rattle.blk_front.specs.Step.{at, looked}
use Rattle.split_model.specs.World.{World}
use Rattle.split_model.specs.Shown.{front_lines}
use Rattle.machine_pipeline.proofs.Flow.{Flow, wrapped}
use Rattle.machine_pipeline.proofs.Holds.{AreIndices, Holds, IsFrontSleep, FrontAt}
use Rattle.machine_pipeline.proofs.Turns.{Goes, FrontGoes, said_nothing, goes_by}
use Rattle.machine_pipeline.proofs.Kept.{awake_front, SameFrame, written, other_word, other_frame}
use Rattle.machine_pipeline.proofs.Wrapped.{distance_at, same_wrapped, next_wrapped}
use Rattle.machine_pipeline.proofs.Resting.{is_resting, rest_kept}

-- what was read of the producer is what was replied: not too far, and the same as what was taken where nothing is new
pub looked_goes : (config : Options) (w : World) (g : Flow) (d : Pipeline) (s : FrontStage) (m : Move) (word : ℕ) (otherwise : View)
    → is_resting s ≡ true → ending_of s ≡ 0
    → Holds config w g d s w.back.stage
    → w.front.told ≡ None
    → w.front.ring.asleep ≡ false
    → word ≡ wrapped g.start g.replied
    → (g.replied ≡ g.taken → Goes config (lines.Move m ∷ front_lines otherwise.told) (record { front = record otherwise { told = None }; back = w.back; under = w.under }) d)
    → (let x : View = looked w.front word otherwise in Goes config (lines.Move m ∷ front_lines x.told) (record { front = record x { told = None }; back = w.back; under = w.under }) d)
looked_goes config w g d s m word otherwise i zero h told awake read nothing =
    rw near (elim (cases_Bool (word == w.front.ring.indices.cons)) [
      | inl t ↦ rw t (nothing (same_wrapped g.start g.taken g.replied x.taken_replied (omega arith) (sym read ∙ (eqb-true word w.front.ring.indices.cons t ∙ x.taken))))
      | inr f ↦ rw f new
    ])
  where
    x : AreIndices g w.front.ring.indices w.back.ring.indices w.front.ring.seen w.back.ring.seen w.back.fetched w.front.last w.front.waiting (length w.front.requests) (ending_of s)
    x = h.indices

    found : View
    found = let v : View = w.front in record v { ring = record v.ring { seen = word }; stage = front.Loop }

    near : nat_lt (distance_of w.front.ring.indices.cons w.front.ring.indices.prod) (distance_of w.front.ring.indices.cons word) ≡ false
    near =
        let far = distance_at g.start g.taken g.pushed w.front.ring.indices.cons w.front.ring.indices.prod x.taken x.pushed (omega arith) (omega arith) in
        let close = distance_at g.start g.taken g.replied w.front.ring.indices.cons word x.taken read x.taken_replied (omega arith) in
        le-ltb (distance_of w.front.ring.indices.cons w.front.ring.indices.prod) (distance_of w.front.ring.indices.cons word) (omega (arith, far, close, x.replied_fetched, x.fetched_pushed))

    new : Goes config (lines.Move m ∷ front_lines found.told) (record { front = record found { told = None }; back = w.back; under = w.under }) d
    new =
        let v : View = w.front in
        subst (λ (a : Bool). Goes config (lines.Move m ∷ front_lines found.told) (record { front = record v { ring = record v.ring { seen = word; asleep = a }; stage = front.Loop; told = None }; back = w.back; under = w.under }) d) (sym awake)
        (goes_by {g = record g { front_seen = g.replied }} (said_nothing d m found.told told)
        (rest_kept config w g d s front.Loop word g.replied false w.under.pages w.under.channels i refl zero refl h tt read x.taken_replied
        (omega arith) h.memory (λ f apart y lt. refl) (λ y apart lt. refl) refl refl refl
        (awake_front g.start g.taken g.replied w.under.pages false w.under.channels.front_pending front.Loop w.back.stage refl refl)))

-- nothing changed but the stage, and the front tells nothing
pub at_stage_goes : (config : Options) (w : World) (g : Flow) (d : Pipeline) (s s' : FrontStage) (m : Move) (pages : List ℕ)
    → is_resting s ≡ true → is_resting s' ≡ true
    → ending_of s ≡ 0 → ending_of s' ≡ 0
    → w.front.told ≡ None
    → Holds config w g d s w.back.stage
    → FrontAt g.shape g.start g.pushed g.taken g.front_seen g.submitted g.replies (next_request w.front) w.front.ring.entry w.front.ending s'
    → length pages ≡ 1114112
    → ((f : ℕ) → f ≢ 2 → SameFrame w.under.pages pages f)
    → ((x : ℕ) → x ≢ 3 → x < 1024 → word_of pages 2 x ≡ word_of w.under.pages 2 x)
    → IsFrontSleep g.start g.taken g.replied pages w.front.ring.asleep w.under.channels.front_pending s' w.back.stage
    → (let x : View = at s' w.front in Goes config (lines.Move m ∷ front_lines x.told) (record { front = record x { told = None }; back = w.back; under = record w.under { pages = pages } }) d)
at_stage_goes config w g d s s' m pages i i' zero zero' told h place sized frames words sleep =
    let indices = h.indices in
    goes_by (said_nothing d m w.front.told told)
    (rest_kept config w g d s s' w.front.ring.seen g.front_seen w.front.ring.asleep pages w.under.channels i i' zero zero' h place indices.front_saw indices.front_from indices.front_to sized frames words refl refl refl sleep)

module _ (config : Options) (w : World) (g : Flow) (d : Pipeline) (told : w.front.told ≡ None) where
  -- before it sleeps the front looks again
  pub look_again_goes : Holds config w g d front.LookAgain w.back.stage → FrontGoes config w d front.LookAgain
  look_again_goes h =
      looked_goes config w g d front.LookAgain (moves.FrontRead 2 2 word) word asleep refl refl h told awake read (λ same. goes_by {g = record g { front_seen = g.replied }} (said_nothing d (moves.FrontRead 2 2 word) asleep.told told)
      ((let indices = h.indices in rest_kept config w g d front.LookAgain front.Loop word g.replied true w.under.pages w.under.channels refl refl refl refl h tt read indices.taken_replied (omega arith) h.memory (λ f apart x lt. refl) (λ x apart lt. refl) refl refl refl
      (let sleep = h.front_sleep in record { arming = λ t. absurd (true≢false (sym t)); armed = λ t. sleep.arming refl; may = λ t. absurd (true≢false t); woken = λ t. inl same }))))
    where
      word : ℕ
      word = word_of w.under.pages 2 2

      asleep : View
      asleep = let v : View = w.front in record v { ring = record v.ring { seen = word; asleep = true }; stage = front.Loop }

      awake : w.front.ring.asleep ≡ false
      awake = let sleep = h.front_sleep in sleep.may refl

      read : word ≡ wrapped g.start g.replied
      read = let ring = h.ring in ring.responses refl

  -- it stores its event word one past what it took
  pub store_goes : Holds config w g d front.StoreEvent w.back.stage → FrontGoes config w d front.StoreEvent
  store_goes h =
      at_stage_goes config w g d front.StoreEvent front.EventFence (moves.FrontWrite 2 3 (next_of w.front.ring.indices.cons)) pages refl refl refl refl told h tt
      (length-set w.under.pages (2 * 1024 + 3) (next_of w.front.ring.indices.cons) ∙ h.memory)
      (λ f apart. other_frame w.under.pages 2 3 (next_of w.front.ring.indices.cons) f (omega arith) apart)
      (λ x apart lt. other_word w.under.pages 2 3 (next_of w.front.ring.indices.cons) x apart)
      (record { arming = λ t. stored; armed = λ t. stored; may = h.front_sleep.may; woken = h.front_sleep.woken })
    where
      pages : List ℕ
      pages = with_word w.under.pages 2 3 (next_of w.front.ring.indices.cons)

      stored : word_of pages 2 3 ≡ wrapped g.start (g.taken + 1)
      stored = let indices = h.indices in written w.under.pages 2 3 (next_of w.front.ring.indices.cons) h.memory (omega arith) (omega arith) ∙ next_wrapped g.start g.taken w.front.ring.indices.cons indices.taken

  pub event_fence_goes : Holds config w g d front.EventFence w.back.stage → FrontGoes config w d front.EventFence
  event_fence_goes h =
      at_stage_goes config w g d front.EventFence front.LookAgain (moves.Fence mover.Front) w.under.pages refl refl refl refl told h tt h.memory (λ f apart x lt. refl) (λ x apart lt. refl)
      (let sleep = h.front_sleep in record { arming = λ t. sleep.arming refl; armed = sleep.armed; may = sleep.may; woken = sleep.woken })
