-- The front writes a word of a request's data, or of its indirect pages.
use Rattle.std.proofs.Common.{◌≡◌, ◌≢◌, ℕ, ◌+◌, ◌*◌, ◌/◌, ◌%◌, ◌<◌, Bool, true, false, inl, inr, List, length, get_or, refl, sym, ◌∙◌, subst, arith, length-set}
use Rattle.std.specs.Prelude.{All, Option, Some, if◌then◌else◌, nat_lt}
use Rattle.std.proofs.lemmas.Bool.{cases_eq, false≢true, cases_lt}
use Rattle.std.proofs.lemmas.Bool.Decides.{nat_tests}
use Rattle.blk_base.specs.Options.{Options}
use Rattle.xen_pages.specs.Pages.{with_word}
use Rattle.pipeline_laws.specs.Pipeline.{Pipeline}
use Rattle.blk_front.specs.declared.request.Request.{Request}
use Rattle.blk_front.specs.Request.{is_indirect, frames_for, words_in, naming_words, naming_at, page_at, frame_at, IsShaped}
use Rattle.blk_front.specs.declared.stage.FrontStage.{FrontStage}
use Rattle.blk_front.specs.declared.stage.FrontStage.TheVariants as front
use Rattle.blk_base.specs.declared.ask.FrontAsk.{FrontAsk}
use Rattle.blk_front.specs.Ask.{data_ask, page_ask}
use Rattle.blk_front.specs.Step.{at, data_stage, page_stage}
use Rattle.blk_front.specs.View.{next_request}
use Rattle.split_model.specs.World.{World}
use Rattle.split_model.specs.Safe.{IsSafe}
use Rattle.machine_pipeline.proofs.Flow.{Flow, data_word, span, is_own, own_value, filled, named_frames, granted_frames, entered, may_front_sleep, is_issuing, is_fetching, ending_at, telling_at, reply_at}
use Rattle.machine_pipeline.proofs.Holds.{IsPooled, FrontAt, IsFilled, FrontSends, Holds}
use Rattle.machine_pipeline.proofs.Kept.{SameFrame, other_frame, same_entry}
use Rattle.machine_pipeline.proofs.Data.{pooled_at, place_among, data_written, data_other, data_apart, data_value, own_before, own_upto, page_in, page_value}
use Rattle.machine_pipeline.proofs.Next.{IsNext, fetched_apart}
use Rattle.machine_pipeline.proofs.Turns.{FrontGoes, said_nothing, goes_by}
use Rattle.machine_pipeline.proofs.Issuing.{unending, unrevoked, issuing, entries_elsewhere, slots_turned, entries_turned, with_front, issue_moved, next_here, AskGoes}
use Rattle.machine_pipeline.proofs.Stations.{AreStations, AreOpen}
use Rattle.machine_pipeline.proofs.ReadsKept.{stations_kept}
use Rattle.blk_front.specs.Submit.{is_ready}
use Rattle.machine_pipeline.proofs.Lists.{less_number}

-- the words of a request's frames that the front writes are, as far as its stage says
abbrev AreFilled : List ℕ → FrontStage → Request → Type 0
AreFilled pages s r = (m : ℕ) → m < filled s (frames_for r.count) → m < span r → is_own r m ≡ true → data_word pages r m ≡ own_value r m

-- one word more of the next request's frames
frames_filled : {series : List Request} (submitted requests : List Request) (pushed waiting : ℕ) (old : List ℕ) (s s' : FrontStage) (r : Request) (n : ℕ)
    → IsNext submitted series requests pushed waiting r → length old ≡ 1114112 → n < span r
    → ((m : ℕ) → is_own r m ≡ true → m < filled s' (frames_for r.count) → m ≢ n → m < filled s (frames_for r.count))
    → All (IsFilled series pushed old s) requests
    → All (IsFilled series pushed (with_word old (frame_at r (n / 1024)) (n % 1024) (own_value r n)) s') requests
frames_filled submitted requests pushed waiting old s s' r n next sized within more h k d lt =
    let was = h k d lt in
    let only = next.only (get_or requests k d) in
    record {
      whole = λ le m l own. data_apart old (frame_at r (n / 1024)) (n % 1024) (own_value r n) _ (omega arith) (next.shaped k d lt)
          (λ a in_it. (next.apart k d lt) (next.late (get_or requests k d) le) a (n / 1024) in_it (place_among r n next.shape within)) m l ∙ was.whole le m l own;
      begun = λ e. subst (AreFilled new s') (sym (only e)) (now (subst (AreFilled old s) (only e) (was.begun e)));
    }
  where
    new : List ℕ
    new = with_word old (frame_at r (n / 1024)) (n % 1024) (own_value r n)

    now : AreFilled old s r → AreFilled new s' r
    now begun m upto in_it own = elim (cases_eq m n) [
      | inl same ↦ rw same (data_written old r n (own_value r n) sized (pooled_at r next.frames (n / 1024)))
      | inr other ↦
          data_other old r n (own_value r n) m other (λ apart. next.own (m / 1024) (n / 1024) apart (place_among r m next.shape in_it) (place_among r n next.shape within))
          ∙ begun m (more m own upto other) in_it own
    ]

-- what holds goes on holding
pub filled_on : (config : Options) (w : World) (g : Flow) (d d' : Pipeline) (s s' : FrontStage) (r : Request) (n : ℕ)
    → may_front_sleep s ≡ true → may_front_sleep s' ≡ true
    → Holds config w g d s w.back.stage
    → AreStations config g d' (is_ready s') (is_issuing s') (is_fetching w.back.stage) (ending_at s' w.front.ending) (telling_at s') (reply_at w.back.stage) w.front.requests w.back.jobs.works w.under.pages
    → next_request w.front ≡ Some r → is_issuing s' ≡ true → n < span r
    → ((m : ℕ) → is_own r m ≡ true → m < filled s' (frames_for r.count) → m ≢ n → m < filled s (frames_for r.count))
    → entered s' ≡ 0 → named_frames s' ≡ 0 → granted_frames s' ≡ 0
    → FrontAt g.shape g.start g.pushed g.taken g.front_seen g.submitted g.replies (next_request w.front) w.front.ring.entry w.front.ending s'
    → (FrontSends s g.pushed g.fetched → ⊥)
    → Holds config (with_front w s' w.front.ring.entry (with_word w.under.pages (frame_at r (n / 1024)) (n % 1024) (own_value r n))) g d' s' w.back.stage
filled_on config w g d d' s s' r n i i' h stations e begun within more unentered unnamed ungranted at unsent =
    let next = next_here h e in
    let frame : ℕ = frame_at r (n / 1024) in
    let word : ℕ = n % 1024 in
    let value : ℕ = own_value r n in
    let pooled : IsPooled frame = pooled_at r next.frames (n / 1024) in
    let low = pooled.0 in
    let high = pooled.1 in
    let new : List ℕ = with_word w.under.pages frame word value in
    let elsewhere : (f : ℕ) → f ≢ frame → SameFrame w.under.pages new f = λ f other. other_frame w.under.pages frame word value f (omega arith) other in
    let ended = (issuing s' i').ended in
    let others = fetched_apart g.submitted w.front.requests g.pushed w.front.waiting d'.requests r next h.queue
    (subst (AreOpen d'.requests w.front.requests) (unending s' w.front.ending ended) stations.opened) (stations.waiting.issued begun r next.at) in
    issue_moved config w g d d' s s' w.front.ring.entry new i i' h
    (stations_kept config g d' (is_ready s') (is_issuing s') (is_fetching w.back.stage) (ending_at s' w.front.ending) (telling_at s') (reply_at w.back.stage) w.front.requests w.back.jobs.works w.under.pages new
    (λ j x q known here low high. let is = h.submitted.each j x known in data_apart w.under.pages frame word value x (omega arith) is.shaped
    (λ a in_it. others j x q known here low high a (n / 1024) in_it (place_among r n next.shape within))) stations) at
    (length-set w.under.pages (frame * 1024 + word) value ∙ h.memory)
    (λ x lt. elsewhere 2 (omega arith) x (omega arith))
    (λ page lt. same_entry w.under.pages _ (8 + page) (omega arith) (elsewhere 0 (omega arith)) (elsewhere 1 (omega arith)))
    (slots_turned h new s' (λ f x from to in_it after. elsewhere f (omega arith) x in_it) unentered)
    (frames_filled g.submitted w.front.requests g.pushed w.front.waiting w.under.pages s s' r n next h.memory within more h.frames)
    (entries_turned h new s' w.front.ending (omega arith) (omega arith)
    (entries_elsewhere h new s' (λ gref lt. same_entry w.under.pages new gref lt (elsewhere 0 (omega arith)) (elsewhere 1 (omega arith))))
    (λ e same. absurd (unrevoked s' w.front.ending e ended same)))
    (λ t sends. absurd (unsent sends))

-- the front writes a word, by the request that is issued next
abbrev pub WriteGoes : Options → World → Pipeline → FrontAsk → FrontStage → Type 0
WriteGoes config w d ask s = AskGoes config w d ask (at s w.front)

-- its frame and its word, as the front writes it
pub page_write : (pages : List ℕ) (r : Request) (n : ℕ) → with_word pages (page_at r (n / 1024)) (n % 1024) (naming_at r n)
    ≡ with_word pages (frame_at r ((1024 * frames_for r.count + n) / 1024)) ((1024 * frames_for r.count + n) % 1024) (own_value r (1024 * frames_for r.count + n))
page_write pages r n =
    let place : (1024 * frames_for r.count + n) / 1024 ≡ frames_for r.count + n / 1024 = omega arith in
    let word : (1024 * frames_for r.count + n) % 1024 ≡ n % 1024 = omega arith in
    rw (place, word, page_value r n) refl

pub data_goes : (config : Options) (w : World) (g : Flow) (d : Pipeline) (n : ℕ) → IsSafe w → Holds config w g d (front.Data n) w.back.stage → FrontGoes config w d (front.Data n)
data_goes config w g d n safe h = subst (λ (next : Option Request). WriteGoes config w d (data_ask next n) (data_stage next n)) (sym h.front_at.1) (goes_by (said_nothing d _ w.front.told safe.front_told)
    (subst (λ (value : ℕ). Becomes value (if nat_lt (n + 1) (words_in r) then front.Data (n + 1) else (if is_indirect r.count then front.Pages 0 else front.GrantFrame 0)))
    (data_value r n h.front_at.2.1)
    (by_test (nat_lt (n + 1) (words_in r)) refl (is_indirect r.count) refl)))
  where
    r : Request
    r = h.front_at.0

    shaped : IsShaped r
    shaped = (next_here h h.front_at.1).shape

    Becomes : ℕ → FrontStage → Type 0
    Becomes value s' = Holds config (with_front w s' w.front.ring.entry (with_word w.under.pages (frame_at r (n / 1024)) (n % 1024) value)) g d s' w.back.stage

    within : n < span r
    within = omega (arith, h.front_at.2.1)

    last : nat_lt (n + 1) (words_in r) ≡ false → (m : ℕ) → is_own r m ≡ true → m < 1024 * frames_for r.count → m ≢ n → m < n
    last t m own upto other = grind (arith, nat_tests, (own_before r m own upto).1)

    direct : is_indirect r.count ≡ false → (m : ℕ) → is_own r m ≡ true → m < 1024 * frames_for r.count
    direct e m own = elim (cases_lt m (1024 * frames_for r.count)) [
      | inl lt ↦ lt
      | inr le ↦ absurd (false≢true (sym e ∙ (own_upto r m own le).0))
    ]

    by_test : (b : Bool) → nat_lt (n + 1) (words_in r) ≡ b → (large : Bool) → is_indirect r.count ≡ large
        → Becomes (own_value r n) (if b then front.Data (n + 1) else (if large then front.Pages 0 else front.GrantFrame 0))
    by_test true t large e = filled_on config w g d d (front.Data n) (front.Data (n + 1)) r n refl refl h h.stations h.front_at.1 refl within (λ m own upto other. omega arith) refl refl refl
        (r, h.front_at.1, (omega arith, less_number (n + 1) (words_in r) t, h.front_at.2.2)) (λ sends. sends)
    by_test false t true e = filled_on config w g d d (front.Data n) (front.Pages 0) r n refl refl h h.stations h.front_at.1 refl within
        (λ m own upto other. last t m own (omega arith) other) refl refl refl
        (r, h.front_at.1, ((let lt : 11 < frames_for r.count = grind (arith, nat_tests) in omega arith), e)) (λ sends. sends)
    by_test false t false e = filled_on config w g d d (front.Data n) (front.GrantFrame 0) r n refl refl h h.stations h.front_at.1 refl within
        (λ m own upto other. last t m own (direct e m own) other) refl refl refl
        (r, h.front_at.1, omega (arith, shaped.frames, h.front_at.2.1)) (λ sends. sends)

pub pages_goes : (config : Options) (w : World) (g : Flow) (d : Pipeline) (n : ℕ) → IsSafe w → Holds config w g d (front.Pages n) w.back.stage → FrontGoes config w d (front.Pages n)
pages_goes config w g d n safe h = subst (λ (next : Option Request). WriteGoes config w d (page_ask next n) (page_stage next n)) (sym h.front_at.1) (goes_by (said_nothing d _ w.front.told safe.front_told)
    (subst (λ (pages : List ℕ). Becomes pages (if nat_lt (n + 1) (naming_words r) then front.Pages (n + 1) else front.GrantFrame 0))
    (sym (page_write w.under.pages r n)) (by_test (nat_lt (n + 1) (naming_words r)) refl)))
  where
    r : Request
    r = h.front_at.0

    shaped : IsShaped r
    shaped = (next_here h h.front_at.1).shape

    at : ℕ
    at = 1024 * frames_for r.count + n

    Becomes : List ℕ → FrontStage → Type 0
    Becomes pages s' = Holds config (with_front w s' w.front.ring.entry pages) g d s' w.back.stage

    within : at < span r
    within = page_in r n shaped h.front_at.2.1 h.front_at.2.0

    last : nat_lt (n + 1) (naming_words r) ≡ false → (m : ℕ) → is_own r m ≡ true → m ≢ at → m < at
    last t m own other = elim (cases_lt m (1024 * frames_for r.count)) [
      | inl lt ↦ omega arith
      | inr le ↦ grind (arith, nat_tests, (own_upto r m own le).1)
    ]

    by_test : (b : Bool) → nat_lt (n + 1) (naming_words r) ≡ b
        → Becomes (with_word w.under.pages (frame_at r (at / 1024)) (at % 1024) (own_value r at)) (if b then front.Pages (n + 1) else front.GrantFrame 0)
    by_test true t = filled_on config w g d d (front.Pages n) (front.Pages (n + 1)) r at refl refl h h.stations h.front_at.1 refl within (λ m own upto other. omega arith) refl refl refl
        (r, h.front_at.1, (less_number (n + 1) (naming_words r) t, h.front_at.2.1)) (λ sends. sends)
    by_test false t = filled_on config w g d d (front.Pages n) (front.GrantFrame 0) r at refl refl h h.stations h.front_at.1 refl within (λ m own upto other. last t m own other) refl refl refl
        (r, h.front_at.1, omega (arith, shaped.frames, h.front_at.2.0)) (λ sends. sends)
