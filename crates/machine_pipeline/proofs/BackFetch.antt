-- The back copies the entry of the next request, word by word.
use Rattle.std.proofs.Common.{◌≡◌, ℕ, ◌+◌, ◌<◌, ◌≤◌, ◌==◌, false, List, [], ◌∷◌, ◌++◌, length, take, refl, ap, sym, ◌∙◌, inl, inr, arith}
use Rattle.std.specs.Prelude.{Some, slice_get, slice_index}
use Rattle.std.proofs.lemmas.Bool.{false≢true}
use Rattle.blk_base.specs.Options.{Options}
use Rattle.blk_base.specs.Distance.{distance_of}
use Rattle.blk_base.specs.declared.ask.BackAnswer.{BackAnswer}
use Rattle.blk_base.specs.declared.moves.Move.{Move as Shown}
use Rattle.pipeline_laws.specs.Pipeline.{Pipeline}
use Rattle.ring_words.specs.Ring.{Ring, requests_of}
use Rattle.ring_words.specs.Shape.{Shape, entry_words_of}
use Rattle.xen_pages.specs.Pages.{word_of}
use Rattle.grant_table.specs.Table.{frame_of}
use Rattle.blk_front.specs.declared.request.Request.{Request}
use Rattle.blk_front.specs.View.{slot_frame, slot_word}
use Rattle.blk_front.specs.Entry.{entry_of, entry_request}
use Rattle.std.proofs.lemmas.Bool.{cases_eq}
use Rattle.std.proofs.lemmas.List.{take_more}
use Rattle.blk_base.specs.declared.operation.Abi.{Abi}
use Rattle.blk_base.specs.declared.operation.Abi.TheVariants.{X64, X32}
use Rattle.blk_layout.proofs.Back.{length-words_of}
use Rattle.blk_back.specs.declared.stage.BackStage.{BackStage}
use Rattle.blk_back.specs.declared.stage.BackStage.TheVariants as stage
use Rattle.blk_back.specs.View.{slot_page}
use Rattle.blk_back.specs.Step.{fetched}
use Rattle.split_model.specs.World.{World}
use Rattle.machine_pipeline.proofs.Slots.{some_words, more_words}
use Rattle.machine_pipeline.proofs.Lists.{get_within}
use Rattle.machine_pipeline.proofs.Flow.{Flow, wrapped, is_back_arming, may_back_sleep}
use Rattle.machine_pipeline.proofs.Holds.{Holds, slot_of}
use Rattle.machine_pipeline.proofs.BackStill.{BackStands}
use Rattle.machine_pipeline.proofs.BackQuiet.{IsBetween, bound_terms, between, goes_seen}
use Rattle.machine_pipeline.proofs.BackWrites.{slot_is}
use Rattle.machine_pipeline.proofs.BackLooks.{LooksAs}
use Rattle.machine_pipeline.proofs.StationsBack.{begins_fetch}
use Rattle.machine_pipeline.proofs.Turns.{does_step}
use Rattle.split_model.specs.Shown.{back_lines, halt_lines}
use Rattle.machine_pipeline.proofs.Kept.{sleep_turned}

-- where the back saw more than it fetched
some_requests : (start fetched seen word : ℕ) (ring : Ring) → ring.cons ≡ wrapped start fetched → word ≡ wrapped start seen → fetched ≤ seen → (requests_of ring word == 0) ≡ false → fetched < seen
some_requests start fetched seen word ring cons here from some = elim (cases_eq fetched seen) [
  | inl e ↦
      let none : distance_of ring.cons word ≡ 0 = omega arith in
      let nothing : requests_of ring word ≡ 0 = omega arith in
      absurd (false≢true (sym some ∙ rw nothing refl))
  | inr other ↦ omega arith
]

-- word i of the entry that is copied, as the back reads it
abbrev pub entry_word : World → ℕ → ℕ
entry_word w i = word_of w.under.pages (frame_of w.under.grants (slot_page w.back w.back.ring.indices.cons i)) (slot_word w.back.shape w.back.ring.indices.cons i)

-- the next request that was pushed and not fetched, and each word of its entry
pub record IsNext (w : World) (g : Flow) : Type 0 where
  pub r : Request
  pub known : slice_get g.series g.fetched ≡ Some r
  pub words : (i : ℕ) → i < entry_words_of g.shape.abi → entry_word w i ≡ slice_index (entry_of g.shape.abi r) i

pub next_pushed : (config : Options) (w : World) (g : Flow) (d : Pipeline) (b : BackStage) → BackStands config w g d b → IsBetween b w.back → g.fetched < g.back_seen → IsNext w g
next_pushed config w g d b p i some =
    let h : Holds config w g d w.front.stage b = p.holds in
    let pushed : g.fetched < g.pushed = omega (arith, h.indices.back_to) in
    let found = get_within g.series g.fetched (omega (arith, h.indices.all)) in
    record {
      r = found.0;
      known = found.1;
      words = λ k lt.
          ap (λ (f : ℕ). word_of w.under.pages f (slot_word w.back.shape w.back.ring.indices.cons k)) (slot_is config w g d b w.back.ring.indices.cons k p i.bound i.hands lt)
          ∙ (ap (λ (s : Shape). word_of w.under.pages (slot_frame g.shape w.back.ring.indices.cons k) (slot_word s w.back.ring.indices.cons k)) (h.paged.shaped (bound_terms b i.bound))
          ∙ (ap (λ (c : ℕ). slot_of w.under.pages g.shape c k) h.indices.fetched ∙ h.slots.entries g.fetched found.0 (omega arith) pushed found.1 k lt));
    }

pub length_entry : (abi : Abi) (r : Request) → length (entry_of abi r) ≡ entry_words_of abi
length_entry X64 r = length-words_of X64 (entry_request r)
length_entry X32 r = length-words_of X32 (entry_request r)

-- one word more of the entry
pub one_more : (abi : Abi) (r : Request) (k word : ℕ) (entry : List ℕ) → k < entry_words_of abi → entry ≡ take k (entry_of abi r) → word ≡ slice_index (entry_of abi r) k → entry ++ word ∷ [] ≡ take (k + 1) (entry_of abi r)
one_more abi r k word entry lt begun here = rw (begun, here) (sym (take_more (entry_of abi r) k 0 (let all = length_entry abi r in omega arith)))

-- the entry's first word is read in the loop
pub goes_first : (config : Options) (w : World) (g : Flow) (d : Pipeline) (shown : Shown) (given : BackAnswer) (word : ℕ)
    → word ≡ entry_word w 0
    → w.back.ring.asleep ≡ false
    → (requests_of w.back.ring.indices w.back.ring.seen == 0) ≡ false
    → BackStands config w g d stage.Loop
    → LooksAs config w d shown given (record w.back { ring = record w.back.ring { entry = word ∷ [] }; stage = stage.Fetch 1 })
goes_first config w g d shown given word read awake some p =
    let h : Holds config w g d w.front.stage stage.Loop = p.holds in
    let x = h.indices in
    let i : IsBetween stage.Loop w.back = between stage.Loop w.back refl refl refl in
    let more : g.fetched < g.back_seen = some_requests g.start g.fetched g.back_seen w.back.ring.seen w.back.ring.indices x.fetched x.back_saw x.back_from some in
    let n : IsNext w g = next_pushed config w g d stage.Loop p i more in
    let s = begins_fetch n.r h.queue.ordered n.known (omega (arith, more, x.back_to)) h.stations in
    goes_seen config w g d (s.step ∷ []) stage.Loop (stage.Fetch 1) w.back.ring.asleep w.back.ring.seen (word ∷ []) g.back_seen shown given
    (does_step shown (back_lines w.back.told given ++ halt_lines w.back.halted w.back.halted) (rw (p.untold, h.unhalted) refl) s) p i (between (stage.Fetch 1) w.back refl refl refl) s.now x
    (omega arith, more_words g.shape.abi, more, (n.r, n.known, one_more g.shape.abi n.r 0 word [] (some_words g.shape.abi) refl (read ∙ n.words 0 (some_words g.shape.abi))))
    (λ s. s) (sleep_turned (is_back_arming (stage.Fetch 1)) (may_back_sleep (stage.Fetch 1)) (λ t. absurd (false≢true t)) (λ t. awake) h.back_sleep)
