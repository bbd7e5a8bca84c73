-- A step of the front while it issues a request leaves all as it was but its stage, its entry and words of memory.
use Rattle.back_jobs.specs.Work.{Work}
use Rattle.ring_words.specs.Shape.{Shape}
use Rattle.blk_back.specs.declared.stage.BackStage.TheVariants as back
use Rattle.blk_base.specs.declared.ask.FrontAsk.{FrontAsk}
use Rattle.hypervisor.specs.Act.{FrontAct, front_act}
use Rattle.schedule_text.specs.declared.line.Line.{Line}
use Rattle.schedule_text.specs.declared.line.Line.TheVariants as lines
use Rattle.split_model.specs.Shown.{front_lines}
use Rattle.machine_pipeline.proofs.Next.{IsNext, next_is}
use Rattle.machine_pipeline.proofs.Turns.{Goes}
use Rattle.std.proofs.Common.{[], ◌∷◌, ◌≡◌, ◌≢◌, ℕ, ◌<◌, ◌≤◌, Bool, true, false, List, length, get_or, refl, sym, ◌∙◌, inl, inr, arith, ◌^◌}
use Rattle.std.specs.Prelude.{All, Option, Some, None}
use Rattle.std.proofs.lemmas.Option.{slice_get-get_or}
use Rattle.blk_base.specs.Options.{Options}
use Rattle.xen_pages.specs.Pages.{word_of}
use Rattle.hypervisor.specs.Hypervisor.{Hypervisor}
use Rattle.pipeline_laws.specs.Pipeline.{Pipeline}
use Rattle.blk_front.specs.declared.request.Request.{Request}
use Rattle.blk_front.specs.declared.stage.Ending.{Ending}
use Rattle.blk_front.specs.declared.stage.FrontStage.{FrontStage}
use Rattle.blk_front.specs.declared.stage.FrontStage.TheVariants as front
use Rattle.blk_front.specs.Request.{frames_for}
use Rattle.blk_front.specs.View as front_view
use Rattle.blk_front.specs.View.{next_request}
use Rattle.blk_front.specs.Submit.{is_ready, ending_of}
use Rattle.blk_back.specs.declared.stage.BackStage.{BackStage}
use Rattle.split_model.specs.World.{World}
use Rattle.machine_pipeline.proofs.Flow.{Flow, has_ring, named_pages, granted_pages, filled, named_frames, granted_frames, entered, ending_at, revoking_at, is_front_arming, may_front_sleep, telling_at, is_issuing, is_fetching, reply_at}
use Rattle.machine_pipeline.proofs.Holds.{BackAt, FrontAt, RingBegun, AreRingWords, AreSlots, IsFilled, IsReadSoFar, AreEntries, AreRevoked, FrontSends, IsFrontSleep, IsBackSleep, Holds}
use Rattle.machine_pipeline.proofs.Frames.{is_submitted}
use Rattle.machine_pipeline.proofs.Kept.{as_connected, SameFrame, SameEntry, SameGrants, data_same, slots_kept, SameRing}
use Rattle.machine_pipeline.proofs.Data.{SameData, pooled_at}
use Rattle.machine_pipeline.proofs.Stations.{AreStations}
use Rattle.machine_pipeline.proofs.ReadsKept.{stations_elsewhere}
use Rattle.machine_pipeline.proofs.Slots.{SameSlots, few_pages}

-- a front that is connected made its ring
record IsMade (s : FrontStage) : Type 0 where
  pub ring : has_ring s ≡ true
  pub named : (pages : ℕ) → named_pages s pages ≡ pages
  pub granted : (pages : ℕ) → granted_pages s pages ≡ pages
  pub begun : (start : ℕ) (pages : List ℕ) → RingBegun start pages s

made : (s : FrontStage) → is_ready s ≡ true → IsMade s
made front.Loop t = assumption
made s t = first_of (assumption, cc)

-- where no request is issued nothing of one is begun
pub record IsIdle (s : FrontStage) : Type 0 where
  pub unfilled : (frames : ℕ) → filled s frames ≡ 0
  pub unnamed : named_frames s ≡ 0
  pub ungranted : granted_frames s ≡ 0
  pub unentered : entered s ≡ 0

pub idle : (s : FrontStage) → is_issuing s ≡ false → IsIdle s
idle front.Loop t = assumption
idle s t = first_of (assumption, cc)

-- where no request ends, no grant is ended and no data are told
pub unending : (s : FrontStage) (ending : Option Ending) → ending_of s ≡ 0 → ending_at s ending ≡ None
unending front.Loop ending zero = refl
unending s ending zero = cc

pub untelling : (s : FrontStage) → ending_of s ≡ 0 → telling_at s ≡ None
untelling front.Loop zero = refl
untelling s zero = cc

pub unrevoked : (s : FrontStage) (ending : Option Ending) (e : Ending) → ending_of s ≡ 0 → revoking_at s ending ≡ Some e → ⊥
unrevoked front.Loop ending e zero same = cc
unrevoked s ending e zero same = cc

-- of the words that were read nothing is said but their number, while no data are told
pub silent : (pages words : List ℕ) (ending : Option Ending) (s : FrontStage) → telling_at s ≡ None → IsReadSoFar pages words ending s
silent pages words ending front.Loop none = tt
silent pages words ending s none = first_of (assumption, cc)

-- so it is at the stages at which the front may sleep, and it is connected, and stored no event word for sleep
pub record IsIssuing (s : FrontStage) : Type 0 where
  pub ended : ending_of s ≡ 0
  pub ready : is_ready s ≡ true
  pub arming : is_front_arming s ≡ false

pub issuing : (s : FrontStage) → may_front_sleep s ≡ true → IsIssuing s
issuing front.Loop t = assumption
issuing s t = first_of (assumption, cc)

-- what holds at one stage, with other words of memory and at another stage
module _ {config : Options} {w : World} {g : Flow} {d : Pipeline} {s : FrontStage} {b : BackStage} (h : Holds config w g d s b) (pages : List ℕ) (s' : FrontStage) where
  -- the ring's own words and the grant of its frames
  pub ring_turned : is_ready s ≡ true → is_ready s' ≡ true
      → ((x : ℕ) → x ≢ 3 → x < 16 → word_of pages 2 x ≡ word_of w.under.pages 2 x)
      → SameRing w.under.pages pages
      → AreRingWords g.shape.order g.start g.pushed g.replied pages s' (length w.back.pages)
  ring_turned t t' same entry = let i = made s t in let i' = made s' t' in let few = few_pages g.shape.order h.shaped.narrow in record {
    begun = i'.begun g.start pages;
    requests = λ t. same 0 (omega arith) (omega arith) ∙ h.ring.requests i.ring;
    responses = λ t. same 2 (omega arith) (omega arith) ∙ h.ring.responses i.ring;
    named = λ page lt unmapped. (entry page (omega (arith, i'.named (2 ^ g.shape.order)))).frame
        ∙ h.ring.named page (omega (arith, i.named (2 ^ g.shape.order), i'.named (2 ^ g.shape.order))) unmapped;
    granted = λ page lt unmapped. (entry page (omega (arith, i'.granted (2 ^ g.shape.order)))).flags
        ∙ h.ring.granted page (omega (arith, i.granted (2 ^ g.shape.order), i'.granted (2 ^ g.shape.order))) unmapped;
  }

  -- entries and responses, where no more of an entry was written
  pub slots_turned : SameSlots w.under.pages pages → entered s' ≡ 0 → AreSlots g.shape g.start g.fetched g.pushed g.taken g.replied g.series g.replies pages s' b
  slots_turned same none =
      let kept = slots_kept g.shape g.start g.fetched g.pushed g.taken g.replied g.series g.replies w.under.pages pages s b h.shaped.narrow same h.slots in
      record { entries = kept.entries; entry = λ r e i lt few. absurd (omega arith); responses = kept.responses; response = kept.response }

  -- the requests' data, where no more of one was written
  pub frames_turned : ((frames : ℕ) → filled s' frames ≤ filled s frames) → All (SameData w.under.pages pages) w.front.requests → All (IsFilled g.series g.pushed pages s') w.front.requests
  frames_turned less same k d lt = let here = same k d lt in let was = h.frames k d lt in record {
    whole = λ le n l own. here n l ∙ was.whole le n l own;
    begun = λ e n f l own. here n l ∙ was.begun e n (omega (arith, less (frames_for (let q : Request = get_or w.front.requests k d in q.count)))) l own;
  }

  -- their grant entries, where none was written
  pub entries_turned : (ending : Option Ending) → named_frames s' ≤ named_frames s → granted_frames s' ≤ granted_frames s
      → All (SameGrants w.under.pages pages) w.front.requests
      → AreRevoked pages s' ending
      → AreEntries g.series g.pushed pages w.under.grants.live s' ending w.front.requests
  entries_turned ending named granted same revoked = record {
    each = λ k d lt. let here = same k d lt in let was = h.entries.each k d lt in record {
      named = λ le place in_it. (here place in_it).frame ∙ was.named le place in_it;
      named_next = λ e place t in_it. (here place in_it).frame ∙ was.named_next e place (omega arith) in_it;
      flags = λ le place in_it. (here place in_it).flags ∙ was.flags le place in_it;
      flags_next = λ e place t in_it. (here place in_it).flags ∙ was.flags_next e place (omega arith) in_it;
    };
    ending = revoked;
  }

  -- all three, where nothing of a request is begun
  pub idle_turned : (ending : Option Ending) → is_issuing s' ≡ false
      → SameSlots w.under.pages pages → All (SameData w.under.pages pages) w.front.requests → All (SameGrants w.under.pages pages) w.front.requests
      → AreRevoked pages s' ending
      → AreSlots g.shape g.start g.fetched g.pushed g.taken g.replied g.series g.replies pages s' b × All (IsFilled g.series g.pushed pages s') w.front.requests
      × AreEntries g.series g.pushed pages w.under.grants.live s' ending w.front.requests
  idle_turned ending i slots words grants revoked = let none = idle s' i in (
    slots_turned slots none.unentered,
    frames_turned (λ n. omega (arith, none.unfilled n)) words,
    entries_turned ending (omega (arith, none.unnamed)) (omega (arith, none.ungranted)) grants revoked,
  )

  -- the frames and the references of the front's requests are those of the pool
  pub frames_elsewhere : ((f : ℕ) → 18 ≤ f → SameFrame w.under.pages pages f) → All (SameData w.under.pages pages) w.front.requests
  frames_elsewhere same n x lt =
      let is = is_submitted config w g d s b h n (get_or w.front.requests n x) (slice_get-get_or w.front.requests n x lt) in
      data_same w.under.pages pages (get_or w.front.requests n x) is.frames (λ f low high. same f low)

  pub entries_elsewhere : ((gref : ℕ) → gref < 1024 → SameEntry w.under.pages pages gref) → All (SameGrants w.under.pages pages) w.front.requests
  entries_elsewhere same n x lt place in_it =
      let is = is_submitted config w g d s b h n (get_or w.front.requests n x) (slice_get-get_or w.front.requests n x lt) in
      same _ (omega (arith, (pooled_at (get_or w.front.requests n x) is.frames place).1))

  -- how both ends sleep, where their event words stay
  pub front_sleep_turned : may_front_sleep s' ≡ true → word_of pages 2 3 ≡ word_of w.under.pages 2 3
      → IsFrontSleep g.start g.taken g.replied pages w.front.ring.asleep w.under.channels.front_pending s' b
  front_sleep_turned m' same =
      let was = h.front_sleep in
      record { arming = λ t. let no = (issuing s' m').arming in absurd (cc); armed = λ t. same ∙ was.armed t; may = λ t. absurd (cc); woken = was.woken }

  pub back_sleep_turned : (pending : Bool) → word_of pages 2 1 ≡ word_of w.under.pages 2 1 → pending ≡ w.under.channels.back_pending
      → (w.back.ring.asleep ≡ true → FrontSends s g.pushed g.fetched → FrontSends s' g.pushed g.fetched)
      → IsBackSleep g.start g.fetched g.pushed pages w.back.ring.asleep pending s' b
  back_sleep_turned pending same mark sends = record {
    arming = λ t. same ∙ h.back_sleep.arming t;
    armed = λ t. same ∙ h.back_sleep.armed t;
    may = h.back_sleep.may;
    woken = λ t. elim (h.back_sleep.woken t) [ inl none ↦ inl none | inr some ↦ elim some [ inl marked ↦ inr (inl (mark ∙ marked)) | inr comes ↦ inr (inr (sends t comes)) ] ];
  }

  -- where each request stands, as the front is as far, and no frame of the pool changes
  pub stations_turned : is_ready s' ≡ is_ready s → is_issuing s' ≡ is_issuing s → ending_of s ≡ 0 → ending_of s' ≡ 0
      → ((f : ℕ) → 18 ≤ f → f < 1018 → SameFrame w.under.pages pages f)
      → AreStations config g d (is_ready s') (is_issuing s') (is_fetching b) (ending_at s' w.front.ending) (telling_at s') (reply_at b) w.front.requests w.back.jobs.works pages
  stations_turned connected issued none none' same =
      stations_elsewhere config g d (is_ready s') (is_issuing s') (is_fetching b) (ending_at s' w.front.ending) (telling_at s') (reply_at b) w.front.requests w.back.jobs.works w.under.pages pages
      config.sectors w.front.last h.submitted same
      (rw (connected, issued, unending s' w.front.ending none' ∙ sym (unending s w.front.ending none), untelling s' none' ∙ sym (untelling s none)) h.stations)

-- while an entry is being copied it was pushed
pub fetching_pushed : (shape : Shape) (start fetched back_seen replied pushed : ℕ) (series : List Request) (works : List Work) (entry : List ℕ) (b : BackStage)
    → back_seen ≤ pushed → BackAt shape start fetched back_seen replied series works entry b → is_fetching b ≡ true → fetched < pushed
fetching_pushed shape start fetched back_seen replied pushed series works entry (back.Fetch k) upto at t = omega (arith, at.2)
fetching_pushed shape start fetched back_seen replied pushed series works entry b upto at t = cc

-- the request that is issued next
pub next_here : {config : Options} {w : World} {g : Flow} {d : Pipeline} {s : FrontStage} {b : BackStage} {r : Request} → Holds config w g d s b
    → next_request w.front ≡ Some r → IsNext g.submitted g.series w.front.requests g.pushed w.front.waiting r
next_here {config = config} {w = w} {g = g} {r = r} h e = next_is w.front g.submitted config.sectors w.front.last g.pushed _ r h.queue h.submitted h.pool e

-- the front carries out an ask and makes a step that no answer decides: what it says, and the machine then
abbrev pub said_by : World → front_view.View → Option FrontAct → List Line
said_by w v None = []
said_by w v (Some a) = lines.Move a.shown ∷ front_lines v.told

abbrev pub done_by : World → front_view.View → Option FrontAct → World
done_by w v None = w
done_by w v (Some a) = record { front = record v { told = None }; back = w.back; under = a.under }

abbrev pub AskGoes : Options → World → Pipeline → FrontAsk → front_view.View → Type 0
AskGoes config w d ask v = Goes config (said_by w v (front_act w.under ask)) (done_by w v (front_act w.under ask)) d

-- the machine with the front at another stage, with that entry and that memory
abbrev pub with_front : World → FrontStage → (entry pages : List ℕ) → World
with_front w s entry pages = record {
  front = let v : front_view.View = w.front in record v { stage = s; ring = record v.ring { entry = entry }; told = None };
  back = w.back;
  under = let h : Hypervisor = w.under in record h { pages = pages };
}

pub issue_moved : (config : Options) (w : World) (g : Flow) (d d' : Pipeline) (s s' : FrontStage) (entry pages : List ℕ)
    → may_front_sleep s ≡ true → may_front_sleep s' ≡ true
    → Holds config w g d s w.back.stage
    → AreStations config g d' (is_ready s') (is_issuing s') (is_fetching w.back.stage) (ending_at s' w.front.ending) (telling_at s') (reply_at w.back.stage) w.front.requests w.back.jobs.works pages
    → FrontAt g.shape g.start g.pushed g.taken g.front_seen g.submitted g.replies (next_request w.front) entry w.front.ending s'
    → length pages ≡ 1114112
    → ((x : ℕ) → x < 16 → word_of pages 2 x ≡ word_of w.under.pages 2 x)
    → SameRing w.under.pages pages
    → AreSlots g.shape g.start g.fetched g.pushed g.taken g.replied g.series g.replies pages s' w.back.stage
    → All (IsFilled g.series g.pushed pages s') w.front.requests
    → AreEntries g.series g.pushed pages w.under.grants.live s' w.front.ending w.front.requests
    → (w.back.ring.asleep ≡ true → FrontSends s g.pushed g.fetched → FrontSends s' g.pushed g.fetched)
    → Holds config (with_front w s' entry pages) g d' s' w.back.stage
issue_moved config w g d d' s s' entry pages m m' h stations at sized words named slots frames entries sends =
    let i = issuing s m in
    let i' = issuing s' m' in
    assumption (
      rw (i.ended ∙ sym i'.ended) at h.indices,
      rw (unending s w.front.ending i.ended ∙ sym (unending s' w.front.ending i'.ended)) at h.pool,
      rw (i.ready ∙ sym i'.ready) at h.offered,
      ring_turned h pages s' i.ready i'.ready (λ x other. words x) named,
      silent pages w.front.words w.front.ending s' (untelling s' i'.ended),
      front_sleep_turned h pages s' m' (words 3 (omega arith)),
      back_sleep_turned h pages s' w.under.channels.back_pending (words 1 (omega arith)) refl sends,
      rw (as_connected s s' i.ready i'.ready) at h.ports,
    )

-- where memory stays, and the pipeline, and no more of a request is begun
pub issue_on : (config : Options) (w : World) (g : Flow) (d : Pipeline) (s s' : FrontStage)
    → may_front_sleep s ≡ true → may_front_sleep s' ≡ true → is_issuing s' ≡ is_issuing s
    → Holds config w g d s w.back.stage
    → FrontAt g.shape g.start g.pushed g.taken g.front_seen g.submitted g.replies (next_request w.front) w.front.ring.entry w.front.ending s'
    → ((frames : ℕ) → filled s' frames ≤ filled s frames) → entered s' ≡ 0 → named_frames s' ≤ named_frames s → granted_frames s' ≤ granted_frames s
    → (w.back.ring.asleep ≡ true → FrontSends s g.pushed g.fetched → FrontSends s' g.pushed g.fetched)
    → Holds config (with_front w s' w.front.ring.entry w.under.pages) g d s' w.back.stage
issue_on config w g d s s' m m' same h at less none named granted sends =
    let i = issuing s m in
    let i' = issuing s' m' in
    issue_moved config w g d d s s' w.front.ring.entry w.under.pages m m' h
    (stations_turned h w.under.pages s' (i'.ready ∙ sym i.ready) same i.ended i'.ended (λ f low high x lt. refl))
    at h.memory (λ x lt. refl) (λ page lt. record { flags = refl; frame = refl })
    (slots_turned h w.under.pages s' (λ f x from to in_it after. refl) none)
    (frames_turned h w.under.pages s' less (λ n x lt k l. refl))
    (entries_turned h w.under.pages s' w.front.ending named granted (λ n x lt a in_it. record { flags = refl; frame = refl }) (λ e same. absurd (unrevoked s' w.front.ending e i'.ended same)))
    sends
