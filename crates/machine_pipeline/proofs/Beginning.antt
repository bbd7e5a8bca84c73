-- The front begins to issue a request: a write or a barrier with its data, a read with its indirect pages or its grants, one without frames with its entry.
use Rattle.std.proofs.Common.{◌≡◌, ℕ, ◌+◌, ◌*◌, ◌%◌, ◌<◌, Bool, true, false, if◌then◌else◌, List, [], ◌∷◌, get_or, refl, ap, sym, ◌∙◌, subst, arith, true≢false, inl, inr}
use Rattle.std.proofs.lemmas.Bool.{cases_lt}
use Rattle.std.proofs.lemmas.Bool.Decides.{nat_tests}
use Rattle.std.specs.Prelude.{All, Option, Some, None, slice_index}
use Rattle.blk_base.specs.Options.{Options}
use Rattle.pipeline_laws.specs.Pipeline.{Pipeline, next}
use Rattle.blk_front.specs.declared.request.Request.{Request}
use Rattle.blk_front.specs.declared.request.Transfer.{Transfer}
use Rattle.blk_front.specs.declared.request.Transfer.TheVariants as transfer
use Rattle.blk_front.specs.Request.{is_write, is_moving, is_indirect, frames_for, frame_at, filling_at}
use Rattle.blk_front.specs.Entry.{entry_of}
use Rattle.blk_front.specs.declared.stage.FrontStage.{FrontStage}
use Rattle.blk_front.specs.declared.stage.FrontStage.TheVariants as front
use Rattle.blk_front.specs.declared.stage.Ending.{Ending}
use Rattle.blk_front.specs.View.{next_request, slot_frame, slot_word}
use Rattle.blk_front.specs.Ask.{loop_ask, page_ask, name_ask}
use Rattle.split_model.specs.World.{World}
use Rattle.split_model.specs.Safe.{IsSafe}
use Rattle.split_model.specs.Shown.{front_lines}
use Rattle.machine_pipeline.specs.Step.{IsSame}
use Rattle.machine_pipeline.proofs.Flow.{Flow, wrapped, frames_of, is_own, may_front_sleep, is_fetching, reply_at}
use Rattle.machine_pipeline.proofs.Holds.{IsFilled, AreEntries, Holds}
use Rattle.machine_pipeline.proofs.Kept.{SameGrants}
use Rattle.machine_pipeline.proofs.Issuing.{issuing, with_front, unrevoked}
use Rattle.machine_pipeline.proofs.Entering.{word_entered, slot_same}
use Rattle.machine_pipeline.proofs.Slots.{with_slot, some_words, more_words}
use Rattle.xen_pages.specs.Pages.{with_word}
use Rattle.ring_words.specs.Shape.{Shape}
use Rattle.grant_table.specs.declared.held.Held.{Held}
use Rattle.blk_base.specs.declared.moves.Move.TheVariants as moves
use Rattle.schedule_text.specs.declared.line.Line.TheVariants as lines
use Rattle.machine_pipeline.proofs.Data.{SameData, pooled_at, data_value, own_before, own_upto, page_in}
use Rattle.machine_pipeline.proofs.Turns.{Goes, FrontGoes, Stepped, does_step, goes_by}
use Rattle.machine_pipeline.proofs.Resuming.{LoopGoes}
use Rattle.machine_pipeline.proofs.Next.{IsNext, next_is}
use Rattle.machine_pipeline.proofs.Filling.{WriteGoes, filled_on, page_write}
use Rattle.machine_pipeline.proofs.Granting.{other_named, entry_moved, named_now}
use Rattle.machine_pipeline.proofs.Stations.{AreStations}
use Rattle.machine_pipeline.proofs.StationsFront.{begins_entry}

-- of a request that isn't a write and has no indirect pages the front writes no word
none_own : (r : Request) → is_write r.transfer ≡ false → is_indirect r.count ≡ false → (m : ℕ) → is_own r m ≡ true → ⊥
none_own r reads direct m own = elim (cases_lt m (1024 * frames_for r.count)) [
  | inl lt ↦ true≢false (sym (own_before r m own lt).0 ∙ reads)
  | inr le ↦ true≢false (sym (own_upto r m own le).0 ∙ direct)
]

-- so none is filled
frames_unfilled : {series : List Request} (submitted requests : List Request) (pushed waiting : ℕ) (old new : List ℕ) (s s' : FrontStage) (r : Request)
    → IsNext submitted series requests pushed waiting r
    → ((m : ℕ) → is_own r m ≡ true → ⊥)
    → All (SameData old new) requests
    → All (IsFilled series pushed old s) requests
    → All (IsFilled series pushed new s') requests
frames_unfilled submitted requests pushed waiting old new s s' r next none same h k d lt =
    record {
      whole = λ le n l own. (same k d lt) n l ∙ (h k d lt).whole le n l own;
      begun = λ e n f l own. absurd (none n (subst (λ (q : Request). is_own q n ≡ true) ((next.only (get_or requests k d)) e) own));
    }

-- one without frames has no grant
entries_bare : {series : List Request} (submitted requests : List Request) (pushed waiting : ℕ) (old new : List ℕ) (live : List Held) (s s' : FrontStage) (ending : Option Ending) (r : Request)
    → may_front_sleep s' ≡ true
    → IsNext submitted series requests pushed waiting r
    → frames_of r ≡ 0
    → All (SameGrants old new) requests
    → AreEntries series pushed old live s ending requests
    → AreEntries series pushed new live s' ending requests
entries_bare submitted requests pushed waiting old new live s s' ending r i' next bare same h = record {
  each = λ k d lt.
      let here = same k d lt in
      let was = h.each k d lt in
      let only = next.only (get_or requests k d) in
      record {
        named = λ le place in_it. let entry = here place in_it in entry.frame ∙ was.named le place in_it;
        named_next = λ e place t in_it. absurd (omega (arith, bare, ap frames_of (only e)));
        flags = λ le place in_it. let entry = here place in_it in entry.flags ∙ was.flags le place in_it;
        flags_next = λ e place t in_it. absurd (omega (arith, bare, ap frames_of (only e)));
      };
  ending = λ e t. absurd (unrevoked s' ending e (issuing s' i').ended t);
}

-- the pipeline begins its entry
begun : (config : Options) (w : World) (g : Flow) (d : Pipeline) (r : Request)
    → Holds config w g d front.Loop w.back.stage
    → IsNext g.submitted g.series w.front.requests g.pushed w.front.waiting r
    → Stepped None IsSame d [] (λ p. AreStations config g p true true (is_fetching w.back.stage) None None (reply_at w.back.stage) w.front.requests w.back.jobs.works w.under.pages)
begun config w g d r h following =
    begins_entry config g d true (is_fetching w.back.stage) None None (reply_at w.back.stage) w.front.requests w.back.jobs.works w.under.pages
    r (let queue = h.queue in queue.ordered) following.at h.stations

-- a request without frames is begun by the first word of its entry
bare_goes : (config : Options) (w : World) (g : Flow) (d : Pipeline) (r : Request) → IsSafe w → next_request w.front ≡ Some r → is_moving r.transfer ≡ false → is_write r.transfer ≡ false
    → Holds config w g d front.Loop w.back.stage
    → Goes config (lines.Move (moves.FrontWrite (slot_frame w.front.shape w.front.ring.indices.prod 0) (slot_word w.front.shape w.front.ring.indices.prod 0) (slice_index (entry_of w.front.shape.abi r) 0)) ∷ front_lines w.front.told)
    (with_front w (front.Slot 1) (entry_of w.front.shape.abi r) (with_slot w.under.pages w.front.shape w.front.ring.indices.prod 0 (slice_index (entry_of w.front.shape.abi r) 0))) d
bare_goes config w g d r safe e still unwritten h = goes_by {g = g} (does_step _ (front_lines w.front.told) (rw safe.front_told refl) s)
    (rw same (word_entered config w g d (next d s.step) 0 front.Loop (front.Slot 1) r (entry_of w.front.shape.abi r) refl refl refl h s.now e (some_words g.shape.abi) (λ i lt in_it. omega arith)
    (λ new kept. frames_unfilled g.submitted w.front.requests g.pushed w.front.waiting w.under.pages new front.Loop (front.Slot 1) r following (none_own r unwritten direct) kept h.frames)
    (λ new kept. entries_bare g.submitted w.front.requests g.pushed w.front.waiting w.under.pages new w.under.grants.live front.Loop (front.Slot 1) w.front.ending r refl following bare kept h.entries)
    (more_words g.shape.abi, (r, e, ap (λ (x : Shape). entry_of x.abi r) h.shaped.known)) (λ sends. sends)))
  where
    following : IsNext g.submitted g.series w.front.requests g.pushed w.front.waiting r
    following = next_is w.front g.submitted config.sectors w.front.last g.pushed None r h.queue h.submitted h.pool e

    none : r.count ≡ 0
    none = following.shape.counted.none still

    direct : is_indirect r.count ≡ false
    direct = rw none refl

    bare : frames_of r ≡ 0
    bare = rw (following.shape.frames, none) refl

    s : Stepped None IsSame d [] (λ p. AreStations config g p true true (is_fetching w.back.stage) None None (reply_at w.back.stage) w.front.requests w.back.jobs.works w.under.pages)
    s = begun config w g d r h following

    same : with_slot w.under.pages w.front.shape w.front.ring.indices.prod 0 (slice_index (entry_of w.front.shape.abi r) 0) ≡ with_slot w.under.pages g.shape (wrapped g.start g.pushed) 0 (slice_index (entry_of g.shape.abi r) 0)
    same = let x = h.indices in slot_same w.under.pages (entry_of w.front.shape.abi r) (entry_of g.shape.abi r) w.front.shape g.shape w.front.ring.indices.prod (wrapped g.start g.pushed) 0 h.shaped.known x.pushed (ap (λ (x : Shape). entry_of x.abi r) h.shaped.known)

-- a request that fills sectors is begun by the first word of its data
data_goes : (config : Options) (w : World) (g : Flow) (d : Pipeline) (r : Request) → IsSafe w → next_request w.front ≡ Some r → is_moving r.transfer ≡ true → is_write r.transfer ≡ true
    → Holds config w g d front.Loop w.back.stage
    → Goes config (lines.Move (moves.FrontWrite (frame_at r 0) 0 (filling_at r.transfer 0)) ∷ front_lines w.front.told)
    (with_front w (front.Data 1) w.front.ring.entry (with_word w.under.pages (frame_at r 0) 0 (filling_at r.transfer 0))) d
data_goes config w g d r safe e moves writes h =
    let following = next_is w.front g.submitted config.sectors w.front.last g.pushed None r h.queue h.submitted h.pool e in
    let s = begun config w g d r h following in
    let some = following.shape.counted.some moves in
    goes_by (does_step _ (front_lines w.front.told) (rw safe.front_told refl) s)
    (subst (λ (value : ℕ). Holds config (with_front w (front.Data 1) w.front.ring.entry (with_word w.under.pages (frame_at r 0) 0 value)) g (next d s.step) (front.Data 1) w.back.stage) (data_value r 0 (omega arith))
    (filled_on config w g d (next d s.step) front.Loop (front.Data 1) r 0 refl refl h s.now e refl (omega arith) (λ m own upto other. absurd (other (omega arith))) refl refl refl (r, e, (omega arith, omega arith, writes)) (λ sends. sends)))

-- a read begins with its indirect pages where it has some, else with its grants
abbrev ReadGoes : Options → World → Pipeline → Request → Bool → Type 0
ReadGoes config w d r b = WriteGoes config w d (if b then page_ask (Some r) 0 else name_ask (Some r) 0) (if b then front.Pages 1 else front.GrantFence 0)

grants_begin : (config : Options) (w : World) (g : Flow) (d : Pipeline) (r : Request) → IsSafe w → next_request w.front ≡ Some r → r.transfer ≡ transfer.Read → is_indirect r.count ≡ false
    → Holds config w g d front.Loop w.back.stage
    → ReadGoes config w d r false
grants_begin config w g d r safe e reads direct h =
    let following = next_is w.front g.submitted config.sectors w.front.last g.pushed None r h.queue h.submitted h.pool e in
    let s = begun config w g d r h following in
    let some = following.shape.counted.some (ap is_moving reads) in
    let sized = following.shape.frames in
    let in_it : 0 < frames_of r = omega arith in
    goes_by (does_step _ (front_lines w.front.told) (rw safe.front_told refl) s)
    (entry_moved config w g d (next d s.step) front.Loop (front.GrantFence 0) r 0 w.front.ring.entry (2 * ((frame_at r 0 + 6) % 512) + 1) (frame_at r 0) refl refl h s.now following in_it (omega arith)
    (λ other lt apart. other_named w.under.pages (frame_at r 0 + 6) other (frame_at r 0) (omega (arith, (pooled_at r following.frames 0).1)) lt apart)
    (λ new same. frames_unfilled g.submitted w.front.requests g.pushed w.front.waiting w.under.pages new front.Loop (front.GrantFence 0) r following (none_own r (ap is_write reads) direct) same h.frames)
    refl (r, e, in_it)
    (named_now w.under.pages r 0 h.memory following.frames following.own in_it (λ a upto. absurd (omega arith)))
    (λ a upto. absurd (omega arith)) (λ sends. sends))

pages_begin : (config : Options) (w : World) (g : Flow) (d : Pipeline) (r : Request) → IsSafe w → next_request w.front ≡ Some r → r.transfer ≡ transfer.Read → is_indirect r.count ≡ true
    → Holds config w g d front.Loop w.back.stage
    → ReadGoes config w d r true
pages_begin config w g d r safe e reads large h =
    let following = next_is w.front g.submitted config.sectors w.front.last g.pushed None r h.queue h.submitted h.pool e in
    let s = begun config w g d r h following in
    let many : 11 < frames_for r.count = grind (arith, nat_tests) in
    goes_by (does_step _ (front_lines w.front.told) (rw safe.front_told refl) s)
    (subst (λ (pages : List ℕ). Holds config (with_front w (front.Pages 1) w.front.ring.entry pages) g (next d s.step) (front.Pages 1) w.back.stage) (sym (page_write w.under.pages r 0))
    (filled_on config w g d (next d s.step) front.Loop (front.Pages 1) r (1024 * frames_for r.count + 0) refl refl h s.now e refl (page_in r 0 following.shape large (omega arith))
    (λ m own upto other. absurd (true≢false (sym (own_before r m own (omega arith)).0 ∙ ap is_write reads))) refl refl refl (r, e, (omega arith, large)) (λ sends. sends)))

abbrev request_of : (number sector count : ℕ) → List ℕ → Transfer → Request
request_of number sector count frames way = record { number = number; sector = sector; count = count; transfer = way; frames = record { items = frames } }

begins : (config : Options) (w : World) (g : Flow) (d : Pipeline) (number sector count : ℕ) (frames : List ℕ) (way : Transfer) → IsSafe w
    → next_request w.front ≡ Some (request_of number sector count frames way)
    → Holds config w g d front.Loop w.back.stage
    → LoopGoes config w d (Some (request_of number sector count frames way)) (loop_ask w.front (Some (request_of number sector count frames way)))
begins config w g d number sector count frames (transfer.Write tag) safe e h = data_goes config w g d (request_of number sector count frames (transfer.Write tag)) safe e refl refl h
begins config w g d number sector count frames (transfer.Barrier tag) safe e h = data_goes config w g d (request_of number sector count frames (transfer.Barrier tag)) safe e refl refl h
begins config w g d number sector count frames transfer.Read safe e h = by_size (is_indirect count) refl
  where
    by_size : (b : Bool) → is_indirect count ≡ b → ReadGoes config w d (request_of number sector count frames transfer.Read) b
    by_size true large = pages_begin config w g d (request_of number sector count frames transfer.Read) safe e refl large h
    by_size false direct = grants_begin config w g d (request_of number sector count frames transfer.Read) safe e refl direct h
begins config w g d number sector count frames transfer.Flush safe e h = bare_goes config w g d (request_of number sector count frames transfer.Flush) safe e refl refl h
begins config w g d number sector count frames (transfer.Discard sectors) safe e h = bare_goes config w g d (request_of number sector count frames (transfer.Discard sectors)) safe e refl refl h

-- the loop where a request waits
pub loop_issues : (config : Options) (w : World) (g : Flow) (d : Pipeline) (r : Request) → IsSafe w → next_request w.front ≡ Some r → Holds config w g d front.Loop w.back.stage → FrontGoes config w d front.Loop
loop_issues config w g d r safe e h =
    subst (λ (n : Option Request). LoopGoes config w d n (loop_ask w.front n)) (sym e)
    (begins config w g d r.number r.sector r.count r.frames.items r.transfer safe e h)
