-- The front reads a grant entry, ends it, and tells the answer: what all that holds becomes.
use Rattle.std.proofs.Common.{◌≡◌, ◌≢◌, ℕ, ◌+◌, ◌-◌, ◌*◌, ◌<◌, ◌≤◌, ◌==◌, if◌then◌else◌, Bool, true, List, [], ◌∷◌, refl, ap, sym, ◌∙◌, subst, arith, length-set, false, length}
use Rattle.std.specs.Prelude.{Option, Some, None, slice_get, nat_lt}
use Rattle.std.proofs.lemmas.Option.{none-some, same_Some}
use Rattle.std.proofs.lemmas.Bool.Decides.{nat_tests}
use Rattle.blk_base.specs.Options.{Options}
use Rattle.blk_base.specs.declared.ask.FrontAsk.{FrontAsk}
use Rattle.blk_base.specs.declared.moves.Move.TheVariants as moves
use Rattle.schedule_text.specs.declared.line.Line.TheVariants as lines
use Rattle.hypervisor.specs.Act.{front_act, exchanged as swapped}
use Rattle.pipeline_laws.specs.Pipeline.{Pipeline, next}
use Rattle.xen_pages.specs.Pages.{word_of, with_word}
use Rattle.grant_table.specs.Table.{entry_word0}
use Rattle.blk_base.specs.declared.operation.Status.{Status}
use Rattle.blk_base.specs.declared.operation.Status.TheVariants.{Okay}
use Rattle.blk_front.specs.declared.request.Request.{Request}
use Rattle.blk_front.specs.declared.request.Transfer.{Transfer}
use Rattle.blk_front.specs.declared.request.Transfer.TheVariants as transfer
use Rattle.blk_front.specs.Request.{grant_flags, flags_at, frames_for, has_data, frame_at, words_in, IsShaped}
use Rattle.blk_front.specs.Ask.{revoke_ask, end_ask}
use Rattle.blk_front.specs.Pool.{with_all_free}
use Rattle.blk_front.specs.Submit.{is_ready, ending_of}
use Rattle.blk_front.specs.declared.told.Told.TheVariants as told
use Rattle.blk_front.specs.declared.stage.Ending.{Ending}
use Rattle.blk_front.specs.declared.stage.FrontStage.{FrontStage}
use Rattle.blk_front.specs.declared.stage.FrontStage.TheVariants as front
use Rattle.blk_front.specs.View.{View, entry_frame, entry_word, next_request}
use Rattle.blk_front.specs.Step.{at as at_stage, broken, is_mapped, end_step, finished, ended, revoked as revoked_by, exchanged}
use Rattle.split_model.specs.World.{World}
use Rattle.split_model.specs.Shown.{front_lines}
use Rattle.machine_pipeline.proofs.Flow.{Flow, frames_of, is_fetching, reply_at, ending_at, telling_at, is_issuing, may_front_sleep, is_front_arming}
use Rattle.machine_pipeline.proofs.Holds.{Holds, FrontAt, IsPooled, ArePooled, IsSubmitted, IsEnding, AreEntries, AreRevoked, AreDataWords}
use Rattle.machine_pipeline.proofs.Turns.{Goes, FrontGoes, front_says, front_next, said_nothing, does_step, goes_by}
use Rattle.machine_pipeline.proofs.Lists.{all_from, same_number}
use Rattle.machine_pipeline.proofs.Data.{pooled_at}
use Rattle.machine_pipeline.proofs.Kept.{as_connected, awake_front, SameFrame, SameEntry, SameGrants, other_frame, other_entry, SameRing}
use Rattle.machine_pipeline.proofs.Hands.{ending_apart, ending_own_apart}
use Rattle.machine_pipeline.proofs.Frames.{is_submitted}
use Rattle.machine_pipeline.proofs.Resting.{is_resting, resting, data_rests}
use Rattle.machine_pipeline.proofs.Issuing.{idle, ring_turned, slots_turned, frames_turned, entries_turned, frames_elsewhere, back_sleep_turned}
use Rattle.machine_pipeline.proofs.Ending.{pooled_free}
use Rattle.machine_pipeline.proofs.Stations.{AreStations}
use Rattle.machine_pipeline.proofs.StationsFront.{answers, unread, read_well}
use Rattle.machine_pipeline.proofs.ReadsKept.{stations_elsewhere}
use Rattle.machine_pipeline.proofs.Indices.{indices_room}

-- the machine with the front at another stage, with that ending request, that pool, those words of data, and that memory
abbrev pub finishing_at : World → FrontStage → Option Ending → List Bool → (words pages : List ℕ) → World
finishing_at w s ending pool words pages = record {
  front = let v : View = w.front in record v { stage = s; ending = ending; pool = pool; words = words; told = None };
  back = w.back;
  under = record w.under { pages = pages };
}

-- while a request ends, at most a grant entry changes
pub ends_on : (config : Options) (w : World) (g : Flow) (d d' : Pipeline) (s s' : FrontStage) (ending : Option Ending) (pool : List Bool) (words pages : List ℕ)
    → is_resting s ≡ true → is_resting s' ≡ true
    → may_front_sleep s ≡ false → is_front_arming s' ≡ false → ending_of s' ≤ ending_of s
    → Holds config w g d s w.back.stage
    → AreStations config g d' (is_ready s') (is_issuing s') (is_fetching w.back.stage) (ending_at s' ending) (telling_at s') (reply_at w.back.stage) w.front.requests w.back.jobs.works pages
    → ArePooled pool w.front.requests (ending_at s' ending)
    → FrontAt g.shape g.start g.pushed g.taken g.front_seen g.submitted g.replies (next_request w.front) w.front.ring.entry ending s'
    → AreDataWords pages words ending s'
    → AreEntries g.series g.pushed pages w.under.grants.live s' ending w.front.requests
    → length pages ≡ 1114112
    → ((f : ℕ) → 2 ≤ f → SameFrame w.under.pages pages f)
    → SameRing w.under.pages pages
    → Holds config (finishing_at w s' ending pool words pages) g d' s' w.back.stage
ends_on config w g d d' s s' ending pool words pages t t' restless unarmed fewer h stations pooled at told entries sized frames entry =
    let i = resting s t in
    let i' = resting s' t' in
    assumption (
      indices_room g w.front.ring.indices w.back.ring.indices w.front.ring.seen w.back.ring.seen w.back.fetched w.front.last w.front.waiting (length w.front.requests)
          (ending_of s) (ending_of s') (omega (arith, h.indices.room)) h.indices,
      rw (i.ready ∙ sym i'.ready) at h.offered,
      ring_turned h pages s' i.ready i'.ready (λ x other lt. frames 2 (omega arith) x (omega arith)) entry,
      slots_turned h pages s' (λ f x from to within after. frames f from x within) (idle s' i'.unissued).unentered,
      frames_turned h pages s' (λ n. omega (arith, (idle s' i'.unissued).unfilled n)) (frames_elsewhere h pages s' (λ f from. frames f (omega arith))),
      awake_front g.start g.taken g.replied pages w.front.ring.asleep w.under.channels.front_pending s' w.back.stage (h.front_sleep.may restless) unarmed,
      back_sleep_turned h pages s' w.under.channels.back_pending (frames 2 (omega arith) 1 (omega arith)) refl (λ asleep sends. absurd (i.quiet g.pushed g.fetched sends)),
      rw (as_connected s s' i.ready i'.ready) at h.ports,
    )

-- a granted frame isn't mapped
unmapped_flags : (r : Request) (place : ℕ) → is_mapped (flags_at r place) ≡ false
unmapped_flags r place = by_way r.transfer (nat_lt place (frames_for r.count))
  where
    by_way : (way : Transfer) (b : Bool) → is_mapped (if b then grant_flags way else 5) ≡ false
    by_way transfer.Read true = refl
    by_way way true = refl
    by_way way false = refl

-- the moves at these stages, by the request that is ending
abbrev pub ActGoes : Options → World → Pipeline → FrontStage → FrontAsk → Type 0
ActGoes config w d s ask = Goes config (front_says s w (front_act w.under ask)) (front_next s w (front_act w.under ask)) d

-- the entry is read: the frame isn't mapped
pub grant_read_goes : (config : Options) (w : World) (g : Flow) (d : Pipeline) (place : ℕ)
    → w.front.told ≡ None
    → Holds config w g d (front.GrantRead place) w.back.stage
    → FrontGoes config w d (front.GrantRead place)
grant_read_goes config w g d place told h =
    subst (λ (x : Option Ending). ActGoes config w d (front.GrantRead place) (revoke_ask x place)) (sym h.front_at.1)
    (subst (λ (x : View). Goes config (lines.Move (moves.FrontRead (entry_frame frame) (entry_word frame) word) ∷ front_lines x.told) (record { front = record x { told = None }; back = w.back; under = w.under }) d) (sym stepped)
    (goes_by (said_nothing d (moves.FrontRead (entry_frame frame) (entry_word frame) word) w.front.told told)
    (ends_on config w g d d (front.GrantRead place) (front.GrantEnd place flags) w.front.ending w.front.pool w.front.words w.under.pages refl refl refl refl (omega arith) h
    h.stations h.pool (e, h.front_at.1, h.front_at.2, (h.front_at.3, refl)) (data_rests w.under.pages w.under.pages w.front.words w.front.ending w.front.ending
    (front.GrantRead place) (front.GrantEnd place flags) refl h.telling)
    (entries_turned h w.under.pages (front.GrantEnd place flags) w.front.ending (omega arith) (omega arith) (λ n x lt a in_it. record { flags = refl; frame = refl }) h.entries.ending)
    h.memory (λ f from x lt. refl) (λ page lt. record { flags = refl; frame = refl }))))
  where
    e : Ending
    e = h.front_at.0

    frame : ℕ
    frame = frame_at e.request place

    word : ℕ
    word = word_of w.under.pages (entry_frame frame) (entry_word frame)

    flags : ℕ
    flags = flags_at e.request place

    stepped : end_step w.front place word ≡ at_stage (front.GrantEnd place flags) w.front
    stepped = ap (end_step w.front place) (h.entries.ending e h.front_at.1 place (omega arith) h.front_at.3)
        ∙ ap (λ (b : Bool). if b then broken flags w.front else at_stage (front.GrantEnd place flags) w.front) (unmapped_flags e.request place)

-- a request that has a frame has a word of data
some_word : (r : Request) (place : ℕ) → IsShaped r → place < frames_of r → 0 < words_in r
some_word r place shaped within = grind (arith, shaped.frames)

-- a read that went well has data, and nothing else has
data_are : (way : Transfer) (status : Status) → has_data way status ≡ true → (way ≡ transfer.Read) × (status ≡ Okay)
data_are transfer.Read Okay t = (refl, refl)
data_are way status t = first_of (assumption, cc)

-- the entry is exchanged for none: the next grant is ended, or the answer told, and the data of a read that went well are told next
module _ (config : Options) (w : World) (g : Flow) (d : Pipeline) (place before : ℕ) (untold : w.front.told ≡ None) (h : Holds config w g d (front.GrantEnd place before) w.back.stage) where
  abbrev e : Ending
  e = h.front_at.0

  is : IsEnding g.submitted g.replies e
  is = h.front_at.2

  its : IsSubmitted config.sectors (e.request.number - 1) e.request
  its = let submitted = h.submitted in submitted.each (e.request.number - 1) e.request is.known

  abbrev frame : ℕ
  frame = frame_at e.request place

  pooled : IsPooled frame
  pooled = pooled_at e.request its.frames place

  abbrev word : ℕ
  word = word_of w.under.pages (entry_frame frame) (entry_word frame)

  abbrev Becomes : View → List ℕ → Type 0
  Becomes x ps = Goes config (lines.Move (moves.FrontCas (entry_frame frame) (entry_word frame) before 0 word) ∷ front_lines x.told) (record { front = record x { told = None }; back = w.back; under = record w.under { pages = ps } }) d

  tested : (word == before) ≡ true
  tested = same_number word before (h.entries.ending e h.front_at.1 place (omega arith) h.front_at.3.0 ∙ sym h.front_at.3.1)

  abbrev pages : List ℕ
  pages = with_word w.under.pages (entry_frame frame) (entry_word frame) 0

  stepped : exchanged w.front place before word ≡ revoked_by (Some e) place w.front
  stepped = ap (λ (b : Bool). if b then revoked_by w.front.ending place w.front else broken word w.front) tested
      ∙ ap (λ (x : Option Ending). revoked_by x place w.front) h.front_at.1

  sized : length pages ≡ 1114112
  sized = length-set w.under.pages (entry_frame frame * 1024 + entry_word frame) 0 ∙ h.memory

  words : (f : ℕ) → 2 ≤ f → SameFrame w.under.pages pages f
  words f from = other_frame w.under.pages (entry_frame frame) (entry_word frame) 0 f (omega arith) (let top = pooled.1 in omega arith)

  apart_entry : (gref : ℕ) → gref < 1024 → gref ≢ frame + 6 → SameEntry w.under.pages pages gref
  apart_entry gref few apart = other_entry w.under.pages (frame + 6) gref 0 (let top = pooled.1 in omega arith) few apart

  owned : ArePooled w.front.pool w.front.requests (Some e)
  owned = subst (ArePooled w.front.pool w.front.requests) h.front_at.1 h.pool

  -- the entries of the front's requests are others
  same_grants : (j : ℕ) (r : Request) → slice_get w.front.requests j ≡ Some r → SameGrants w.under.pages pages r
  same_grants j r there a lt =
      let in_pool = pooled_at r (is_submitted config w g d (front.GrantEnd place before) w.back.stage h j r there).frames a in
      let apart = ending_apart w.front.pool w.front.requests e j r owned there a place lt h.front_at.3.0 in_pool in
      apart_entry (frame_at r a + 6) (let top = in_pool.1 in omega arith) (λ same. apart (omega arith))

  entries_end : (s : FrontStage) (ending : Option Ending) → is_issuing s ≡ false → AreRevoked pages s ending → AreEntries g.series g.pushed pages w.under.grants.live s ending w.front.requests
  entries_end s ending i left =
      let begun = idle s i in
      entries_turned h pages s ending (omega (arith, begun.unnamed)) (omega (arith, begun.ungranted)) (all_from (SameGrants w.under.pages pages) w.front.requests same_grants) left

  -- and so are those of its own frames that are left
  left : AreRevoked pages (front.GrantRead (place + 1)) w.front.ending
  left x same = subst (λ (y : Ending). (a : ℕ) → place + 1 ≤ a → a < frames_of y.request
      → entry_word0 pages (frame_at y.request a + 6) ≡ flags_at y.request a) (same_Some e x (sym h.front_at.1 ∙ same)) (λ a le lt.
      let in_pool = pooled_at e.request its.frames a in
      let apart = ending_own_apart w.front.pool w.front.requests e owned a place (omega arith) lt h.front_at.3.0 in_pool in
      let kept = apart_entry (frame_at e.request a + 6) (let top = in_pool.1 in omega arith) (λ same. apart (omega arith)) in
      kept.flags ∙ h.entries.ending e h.front_at.1 a (omega arith) lt)

  elsewhere : (p : Pipeline) (ending : Option Ending) (telling : Option ℕ) → AreStations config g p true false (is_fetching w.back.stage) ending telling (reply_at w.back.stage) w.front.requests w.back.jobs.works w.under.pages → AreStations config g p true false (is_fetching w.back.stage) ending telling (reply_at w.back.stage) w.front.requests w.back.jobs.works pages
  elsewhere p ending telling = stations_elsewhere config g p true false (is_fetching w.back.stage) ending telling (reply_at w.back.stage) w.front.requests w.back.jobs.works w.under.pages pages config.sectors w.front.last h.submitted (λ f from to. words f (omega arith))

  ring_kept : SameRing w.under.pages pages
  ring_kept page lt = let from = pooled.0 in apart_entry (8 + page) (omega arith) (omega arith)

  stations : AreStations config g d true false (is_fetching w.back.stage) (Some e) None
      (reply_at w.back.stage) w.front.requests w.back.jobs.works w.under.pages
  stations = subst (λ (x : Option Ending). AreStations config g d true false (is_fetching w.back.stage) x None
      (reply_at w.back.stage) w.front.requests w.back.jobs.works w.under.pages) h.front_at.1 h.stations

  by_data : (b : Bool) → has_data e.request.transfer e.status ≡ b
      → Becomes (if b then record w.front { stage = front.ReadData 0; told = Some (told.Answer e.request.number e.status) }
      else record (finished e w.front) { told = Some (told.Answer e.request.number e.status) }) pages
  by_data false t =
      let s = answers config g d true false (is_fetching w.back.stage)
      (reply_at w.back.stage) w.front.requests w.back.jobs.works w.under.pages e None is.known is.positive
      (unread e.request.transfer e.request.sector e.request.count e.status t) (λ x. cc) stations in
      goes_by (does_step (moves.FrontCas (entry_frame frame) (entry_word frame) before 0 word) (lines.Answer e.request.number e.status ∷ []) refl s)
      (ends_on config w g d (next d s.step) (front.GrantEnd place before) front.Loop None (with_all_free w.front.pool e.request.frames.items) w.front.words pages refl refl refl refl (omega arith) h
      (elsewhere (next d s.step) None None s.now) (pooled_free w.front.pool w.front.requests e its.frames owned) tt
      (data_rests w.under.pages pages w.front.words w.front.ending None (front.GrantEnd place before) front.Loop refl h.telling)
      (entries_end front.Loop None refl (λ x same. absurd (none-some x same))) sized words ring_kept)
  by_data true t =
      let read = data_are e.request.transfer e.status t in
      let s = answers config g d true false (is_fetching w.back.stage) (reply_at w.back.stage) w.front.requests w.back.jobs.works w.under.pages e (Some 0) is.known is.positive
      (read_well e.request.transfer e.request.sector e.request.count e.status t) (λ x. read.1) stations in
      goes_by (does_step (moves.FrontCas (entry_frame frame) (entry_word frame) before 0 word) (lines.Answer e.request.number e.status ∷ []) refl s)
      (ends_on config w g d (next d s.step) (front.GrantEnd place before) (front.ReadData 0) w.front.ending w.front.pool w.front.words pages refl refl refl refl (omega arith) h
      (subst (λ (x : Option Ending). AreStations config g (next d s.step) true false (is_fetching w.back.stage) x (Some 0)
      (reply_at w.back.stage) w.front.requests w.back.jobs.works pages) (sym h.front_at.1) (elsewhere (next d s.step) (Some e) (Some 0) s.now))
      h.pool (e, h.front_at.1, is, (some_word e.request place its.shaped h.front_at.3.0, read.0, read.1))
      (let was = h.telling in record { size = was.size; so_far = λ x same k lt. absurd (omega arith) })
      (entries_end (front.ReadData 0) w.front.ending refl (λ x same. absurd (none-some x same))) sized words ring_kept)

  by_more : (b : Bool) → nat_lt (place + 1) (frames_of e.request) ≡ b
      → Becomes (if b then at_stage (front.GrantRead (place + 1)) w.front else ended e w.front) pages
  by_more true t = goes_by (said_nothing d (moves.FrontCas (entry_frame frame) (entry_word frame) before 0 word) w.front.told untold)
      (ends_on config w g d d (front.GrantEnd place before) (front.GrantRead (place + 1)) w.front.ending w.front.pool w.front.words pages
      refl refl refl refl (omega arith) h
      (elsewhere d w.front.ending None h.stations) h.pool (e, h.front_at.1, is, (grind (arith, nat_tests)))
      (data_rests w.under.pages pages w.front.words w.front.ending w.front.ending (front.GrantEnd place before)
      (front.GrantRead (place + 1)) refl h.telling)
      (entries_end (front.GrantRead (place + 1)) w.front.ending refl left) sized words ring_kept)
  by_more false t = by_data (has_data e.request.transfer e.status) refl

  pub grant_end_goes : FrontGoes config w d (front.GrantEnd place before)
  grant_end_goes =
      subst (λ (x : Option Ending). ActGoes config w d (front.GrantEnd place before) (end_ask x place before)) (sym h.front_at.1)
      (subst (λ (x : View). Becomes x (swapped w.under.pages (entry_frame frame) (entry_word frame) before 0)) (sym stepped)
      (subst (λ (ps : List ℕ). Becomes (revoked_by (Some e) place w.front) ps) (sym (ap (λ (b : Bool). if b then pages else w.under.pages) tested))
      (by_more (nat_lt (place + 1) (frames_of e.request)) refl)))
