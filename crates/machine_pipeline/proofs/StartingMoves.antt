-- The front makes its ring and its port, move by move.
use Rattle.std.proofs.Common.{◌≡◌, ◌≢◌, ℕ, ◌+◌, ◌*◌, ◌<◌, ◌≤◌, ◌==◌, Bool, true, false, List, [], ◌∷◌, ◌++◌, length, refl, ap, sym, ◌∙◌, subst, arith, true≢false, length-set, get_or-set_other, ◌^◌, ◌/◌, ◌%◌, inl, inr}
use Rattle.std.specs.Prelude.{None, nat_lt}
use Rattle.std.proofs.lemmas.Bool.Decides.{nat_tests}
use Rattle.blk_base.specs.Options.{Options}
use Rattle.blk_base.specs.declared.moves.Move.{Move}
use Rattle.blk_base.specs.declared.moves.Move.TheVariants as moves
use Rattle.blk_base.specs.declared.moves.Mover.TheVariants as mover
use Rattle.schedule_text.specs.declared.line.Line.TheVariants as lines
use Rattle.event_channel.specs.declared.channels.PortState.{PortState}
use Rattle.event_channel.specs.declared.channels.PortState.TheVariants.{Unbound}
use Rattle.event_channel.specs.Channels.{with_port}
use Rattle.xen_pages.specs.Pages.{word_of, with_word}
use Rattle.pipeline_laws.specs.Pipeline.{Pipeline}
use Rattle.blk_front.specs.declared.stage.FrontStage.{FrontStage}
use Rattle.blk_front.specs.declared.stage.FrontStage.TheVariants as front
use Rattle.blk_front.specs.View.{View, fresh_word, next_request, entry_frame, entry_word, ring_page_frame}
use Rattle.blk_front.specs.Step.{at}
use Rattle.blk_front.specs.Submit.{is_connected}
use Rattle.split_model.specs.World.{World}
use Rattle.split_model.specs.Shown.{front_lines}
use Rattle.machine_pipeline.specs.Plain.{IsPlain}
use Rattle.machine_pipeline.proofs.Flow.{Flow, has_ring, named_pages, granted_pages, wrapped, may_front_sleep, is_bound_back}
use Rattle.machine_pipeline.proofs.Holds.{Holds, RingBegun, FrontAt, AreRingWords, PortsAt}
use Rattle.std.proofs.lemmas.Bool.{cases_eq, cond_both}
use Rattle.ring_words.specs.Shape.{Shape}
use Rattle.grant_table.specs.Table.{entry_word0, entry_word1}
use Rattle.machine_pipeline.proofs.Turns.{Goes, FrontGoes, said_nothing, goes_by}
use Rattle.machine_pipeline.proofs.Kept.{SameFrame, written, other_word, other_frame}
use Rattle.machine_pipeline.proofs.Starting.{IsBare, none_yet, starts_on}
use Rattle.machine_pipeline.proofs.Slots.{SameSlots, index_written, beside_written, few_pages, some_pages}

-- the front writes those words of memory, and goes to that stage
abbrev Makes : Options → World → Pipeline → Move → List ℕ → FrontStage → Type 0
Makes config w d m pages s =
    let x : View = at s w.front in
    Goes config (lines.Move m ∷ front_lines x.told) (record { front = record x { told = None }; back = w.back; under = record w.under { pages = pages } }) d

-- what holds of the front's own where it stands at that stage
abbrev StandsThere : World → Flow → FrontStage → Type 0
StandsThere w g s = FrontAt g.shape g.start g.pushed g.taken g.front_seen g.submitted g.replies (next_request w.front) w.front.ring.entry w.front.ending s

-- so it goes on, where little else changes
makes : (config : Options) (w : World) (g : Flow) (d : Pipeline) (s s' : FrontStage) (m : Move) (pages : List ℕ)
    → w.front.told ≡ None
    → is_connected s ≡ false → is_connected s' ≡ false → may_front_sleep s ≡ false → IsBare s → IsBare s'
    → Holds config w g d s w.back.stage
    → StandsThere w g s'
    → length pages ≡ 1114112
    → SameSlots w.under.pages pages
    → ((f : ℕ) → 18 ≤ f → f < 1018 → SameFrame w.under.pages pages f)
    → AreRingWords g.shape.order g.start g.pushed g.replied pages s' (length w.back.pages)
    → Makes config w d m pages s'
makes config w g d s s' m pages told starting going restless i i' h place sized words elsewhere ring = goes_by (said_nothing d m w.front.told told)
    (starts_on config w g d s s' pages w.under.channels starting restless i i' h place sized words elsewhere ring
    (subst (λ (c : Bool). PortsAt g.before c (is_bound_back w.back.stage) w.under.channels.made w.under.channels.ports) (starting ∙ sym going) h.ports))

-- the ring's words, one after another
pub ring_word_goes : (config : Options) (w : World) (g : Flow) (d : Pipeline) (k : ℕ)
    → IsPlain config
    → w.front.told ≡ None
    → Holds config w g d (front.RingWord k) w.back.stage
    → FrontGoes config w d (front.RingWord k)
ring_word_goes config w g d k plain told h = cond_both (k == 15) (front.RingFrame 0) (front.RingWord (k + 1)) (Makes config w d (moves.FrontWrite 2 k value) pages)
    (λ t.
    let last : k ≡ 15 = grind (arith, nat_tests) in
    let none = none_yet config w g d (front.RingWord k) refl h in
    let requests = fresh 0 (omega arith) ∙ sym (at_start g.pushed none) in
    let responses = fresh 2 (omega arith) ∙ sym (at_start g.replied (omega (arith, none, h.indices.replied_fetched, h.indices.fetched_pushed))) in
    goes_to (front.RingFrame 0) refl (assumption) (some_pages g.shape.order) (grind (arith, requests, responses)))
    (λ t.
    let more : k ≢ 15 = grind (arith, nat_tests) in
    goes_to (front.RingWord (k + 1)) refl (assumption) (omega (arith, few)) (grind (arith, fresh, true≢false)))
  where
    few : k < 16
    few = h.front_at

    value : ℕ
    value = fresh_word w.front.start k

    pages : List ℕ
    pages = with_word w.under.pages 2 k value

    fresh : (j : ℕ) → j < k + 1 → word_of pages 2 j ≡ fresh_word g.start j
    fresh j lt = elim (cases_eq j k) [
      | inl same ↦
          let now = written w.under.pages 2 k value h.memory (omega arith) (omega (arith, few)) in
          ap (word_of pages 2) same ∙ (now ∙ (ap (λ (n : ℕ). fresh_word n k) (h.started.known ∙ sym h.started.whole) ∙ ap (fresh_word g.start) (sym same)))
      | inr apart ↦ other_word w.under.pages 2 k value j apart ∙ h.ring.begun j (omega arith)
    ]

    goes_to : (s' : FrontStage) → is_connected s' ≡ false → IsBare s' → StandsThere w g s'
        → AreRingWords g.shape.order g.start g.pushed g.replied pages s' (length w.back.pages)
        → Makes config w d (moves.FrontWrite 2 k value) pages s'
    goes_to s' going i' place ring = makes config w g d (front.RingWord k) s' (moves.FrontWrite 2 k value) pages told refl going refl (assumption) i' h place
        (length-set w.under.pages (2 * 1024 + k) value ∙ h.memory) (index_written w.under.pages k value few)
        (λ f low high. other_frame w.under.pages 2 k value f (omega (arith, few)) (omega arith)) ring

    at_start : (n : ℕ) → n ≡ 0 → wrapped g.start n ≡ g.start
    at_start n zero = omega (arith, h.started.whole, plain.start)

-- the grants of its frames: of each the frame, a fence, the flags
abbrev grant_frame : (page : ℕ) → ℕ
grant_frame page = entry_frame (ring_page_frame page)

abbrev grant_word : (page : ℕ) → ℕ
grant_word page = entry_word (ring_page_frame page)

reference_few : (order page : ℕ) → order ≤ 4 → page < 2 ^ order → page < 16
reference_few order page narrow lt = omega (arith, few_pages order narrow)

-- a word of an entry is written
grant_makes : (config : Options) (w : World) (g : Flow) (d : Pipeline) (s s' : FrontStage) (page word value : ℕ)
    → w.front.told ≡ None
    → is_connected s ≡ false → is_connected s' ≡ false → may_front_sleep s ≡ false → has_ring s ≡ true → IsBare s → IsBare s'
    → Holds config w g d s w.back.stage
    → StandsThere w g s'
    → page < 2 ^ g.shape.order → word < 1024
    → RingBegun g.start (with_word w.under.pages (grant_frame page) word value) s'
    → ((p : ℕ) → p < named_pages s' (2 ^ g.shape.order) → length w.back.pages ≤ p → entry_word1 (with_word w.under.pages (grant_frame page) word value) (8 + p) ≡ 2 + p)
    → ((p : ℕ) → p < granted_pages s' (2 ^ g.shape.order) → length w.back.pages ≤ p → entry_word0 (with_word w.under.pages (grant_frame page) word value) (8 + p) ≡ 1)
    → Makes config w d (moves.FrontWrite (grant_frame page) word value) (with_word w.under.pages (grant_frame page) word value) s'
grant_makes config w g d s s' page word value told starting going restless ringed i i' h place lt within begun named granted =
    makes config w g d s s' (moves.FrontWrite (grant_frame page) word value) (with_word w.under.pages (grant_frame page) word value) told starting going restless i i' h place
    (length-set w.under.pages (grant_frame page * 1024 + word) value ∙ h.memory)
    (beside_written w.under.pages (grant_frame page) word value within (inl (omega (arith, few))))
    (λ f low high. other_frame w.under.pages (grant_frame page) word value f within (omega (arith, few)))
    (record {
      begun = begun;
      requests = λ t. other_frame w.under.pages (grant_frame page) word value 2 within (omega (arith, few)) 0 (omega arith) ∙ h.ring.requests ringed;
      responses = λ t. other_frame w.under.pages (grant_frame page) word value 2 within (omega (arith, few)) 2 (omega arith) ∙ h.ring.responses ringed;
      named = named;
      granted = granted;
    })
  where
    few : page < 16
    few = reference_few g.shape.order page h.shaped.narrow lt

pub ring_frame_goes : (config : Options) (w : World) (g : Flow) (d : Pipeline) (page : ℕ)
    → w.front.told ≡ None
    → Holds config w g d (front.RingFrame page) w.back.stage
    → FrontGoes config w d (front.RingFrame page)
ring_frame_goes config w g d page told h =
    grant_makes config w g d (front.RingFrame page) (front.RingFence page) page (grant_word page + 1) (2 + page) told refl refl refl refl (assumption) (assumption) h
    h.front_at h.front_at (omega (arith, few)) tt
    (λ p lt unmapped. elim (cases_eq p page) [
      | inl is ↦ subst (λ (n : ℕ). entry_word1 pages (8 + n) ≡ 2 + n) (sym is) (subst (λ (n : ℕ). entry_word1 pages n ≡ 2 + page) (omega arith)
          (written w.under.pages (grant_frame page) (grant_word page + 1) (2 + page) h.memory (omega (arith, few)) (omega (arith, few))))
      | inr apart ↦ get_or-set_other w.under.pages _ ((8 + p) / 512 * 1024 + (2 * ((8 + p) % 512) + 1)) (2 + page) 0 (omega arith) ∙ h.ring.named p (omega arith) unmapped
    ])
    (λ p lt unmapped. get_or-set_other w.under.pages _ ((8 + p) / 512 * 1024 + 2 * ((8 + p) % 512)) (2 + page) 0 (omega arith) ∙ h.ring.granted p lt unmapped)
  where
    few : page < 16
    few = reference_few g.shape.order page h.shaped.narrow h.front_at

    pages : List ℕ
    pages = with_word w.under.pages (grant_frame page) (grant_word page + 1) (2 + page)

pub ring_fence_goes : (config : Options) (w : World) (g : Flow) (d : Pipeline) (page : ℕ)
    → w.front.told ≡ None
    → Holds config w g d (front.RingFence page) w.back.stage
    → FrontGoes config w d (front.RingFence page)
ring_fence_goes config w g d page told h =
    makes config w g d (front.RingFence page) (front.RingFlags page) (moves.Fence mover.Front) w.under.pages told refl refl refl (assumption) (assumption) h h.front_at h.memory
    (λ f x from to within past. refl) (λ f low high x lt. refl) h.ring

pub ring_flags_goes : (config : Options) (w : World) (g : Flow) (d : Pipeline) (page : ℕ)
    → w.front.told ≡ None
    → Holds config w g d (front.RingFlags page) w.back.stage
    → FrontGoes config w d (front.RingFlags page)
ring_flags_goes config w g d page told h = cond_both (nat_lt (page + 1) (2 ^ w.front.shape.order)) _ _ (Makes config w d (moves.FrontWrite (grant_frame page) (grant_word page) 1) pages)
    (λ t.
    let more : page + 1 < 2 ^ w.front.shape.order = grind (arith, nat_tests) in
    goes_to (front.RingFrame (page + 1)) refl (assumption) (omega (arith, known, more)) tt named granted)
    (λ t.
    let last : 2 ^ w.front.shape.order ≤ page + 1 = grind (arith, nat_tests) in
    goes_to front.NewPort refl (assumption) tt tt (λ p lt. named p (omega (arith, known, last))) (λ p lt. granted p (omega (arith, known, last))))
  where
    few : page < 16
    few = reference_few g.shape.order page h.shaped.narrow h.front_at

    known : 2 ^ w.front.shape.order ≡ 2 ^ g.shape.order
    known = ap (λ (x : Shape). 2 ^ x.order) h.shaped.known

    pages : List ℕ
    pages = with_word w.under.pages (grant_frame page) (grant_word page) 1

    -- each frame stays in its entry
    named : (p : ℕ) → p < page + 1 → length w.back.pages ≤ p → entry_word1 pages (8 + p) ≡ 2 + p
    named p lt unmapped = get_or-set_other w.under.pages (grant_frame page * 1024 + grant_word page) ((8 + p) / 512 * 1024 + (2 * ((8 + p) % 512) + 1)) 1 0 (omega arith) ∙ h.ring.named p lt unmapped

    granted : (p : ℕ) → p < page + 1 → length w.back.pages ≤ p → entry_word0 pages (8 + p) ≡ 1
    granted p lt unmapped = elim (cases_eq p page) [
      | inl is ↦ subst (λ (n : ℕ). entry_word0 pages n ≡ 1) (omega arith) (written w.under.pages (grant_frame page) (grant_word page) 1 h.memory (omega (arith, few)) (omega (arith, few)))
      | inr apart ↦ get_or-set_other w.under.pages (grant_frame page * 1024 + grant_word page) ((8 + p) / 512 * 1024 + 2 * ((8 + p) % 512)) 1 0 (omega arith) ∙ h.ring.granted p (omega arith) unmapped
    ]

    goes_to : (s' : FrontStage) → is_connected s' ≡ false → IsBare s' → StandsThere w g s' → RingBegun g.start pages s'
        → ((p : ℕ) → p < named_pages s' (2 ^ g.shape.order) → length w.back.pages ≤ p → entry_word1 pages (8 + p) ≡ 2 + p)
        → ((p : ℕ) → p < granted_pages s' (2 ^ g.shape.order) → length w.back.pages ≤ p → entry_word0 pages (8 + p) ≡ 1)
        → Makes config w d (moves.FrontWrite (grant_frame page) (grant_word page) 1) pages s'
    goes_to s' going i' place begun are_named are_granted =
        grant_makes config w g d (front.RingFlags page) s' page (grant_word page) 1 told refl going refl refl (assumption) i' h place h.front_at (omega (arith, few)) begun are_named are_granted

-- the first port of an epoch, which waits to be bound
first_port : (before : ℕ) (bound : Bool) (made : ℕ) (ports : List PortState) → made ≡ before → ports ≡ [] → bound ≡ false → PortsAt before true bound (made + 1) (ports ++ Unbound ∷ [])
first_port before false made ports none empty e = (omega arith, ap (λ l. l ++ Unbound ∷ []) empty)
first_port before true made ports none empty e = absurd (true≢false e)

pub port_goes : (config : Options) (w : World) (g : Flow) (d : Pipeline)
    → w.front.told ≡ None
    → Holds config w g d front.NewPort w.back.stage
    → FrontGoes config w d front.NewPort
port_goes config w g d told h =
    goes_by (said_nothing d (moves.FrontPort (w.under.channels.made + 1)) w.front.told told)
    (starts_on config w g d front.NewPort front.Initialised w.under.pages (with_port w.under.channels) refl refl (assumption) (assumption) h tt h.memory
    (λ f x from to within past. refl) (λ f low high x lt. refl) h.ring
    (first_port g.before (is_bound_back w.back.stage) w.under.channels.made w.under.channels.ports h.ports.0 h.ports.1 h.ports.2))
