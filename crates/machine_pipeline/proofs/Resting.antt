-- A step of the front while it issues nothing and ends no grant: it looks at the ring, takes up a response, or goes to sleep.
use Rattle.machine_pipeline.proofs.Issuing.{idle_turned, unending, untelling, unrevoked, silent, ring_turned, frames_elsewhere, entries_elsewhere, back_sleep_turned, stations_turned}
use Rattle.std.proofs.Common.{◌≡◌, ◌≢◌, ℕ, ◌+◌, ◌<◌, ◌≤◌, Bool, true, false, List, length, get_or, sym, ◌∙◌, arith}
use Rattle.std.specs.Prelude.{not, ◌&&◌, All, Option, Some, None}
use Rattle.grant_table.specs.declared.held.Held.{Held}
use Rattle.blk_base.specs.Options.{Options}
use Rattle.xen_pages.specs.Pages.{word_of}
use Rattle.event_channel.specs.Channels.{ChannelState}
use Rattle.hypervisor.specs.Hypervisor.{Hypervisor}
use Rattle.pipeline_laws.specs.Pipeline.{Pipeline}
use Rattle.blk_front.specs.declared.request.Request.{Request}
use Rattle.blk_front.specs.declared.stage.Ending.{Ending}
use Rattle.blk_front.specs.declared.stage.FrontStage.{FrontStage}
use Rattle.blk_front.specs.declared.stage.FrontStage.TheVariants as front
use Rattle.blk_front.specs.View as front_view
use Rattle.blk_front.specs.View.{next_request}
use Rattle.blk_front.specs.Submit.{is_ready, ending_of}
use Rattle.split_model.specs.World.{World}
use Rattle.machine_pipeline.proofs.Flow.{Flow, wrapped, filled, named_frames, granted_frames, ending_at, revoking_at, telling_at, is_issuing, is_fetching, reply_at, may_front_sleep}
use Rattle.machine_pipeline.proofs.Holds.{FrontAt, IsFilled, AreEntries, IsFrontSleep, FrontSends, AreDataWords, Holds}
use Rattle.machine_pipeline.proofs.Kept.{as_connected, SameFrame, same_entry, SameEntry}
use Rattle.machine_pipeline.proofs.Stations.{saw_more}
use Rattle.machine_pipeline.proofs.Indices.{indices_seen}
use Rattle.machine_pipeline.proofs.Slots.{slots_beside}
use Rattle.machine_pipeline.proofs.Series.{IsAmong}

-- a stage at which the front is connected, issues no request, and owes its back no event
abbrev pub is_resting : FrontStage → Bool
is_resting front.Loop = true
is_resting s = is_ready s && not (may_front_sleep s)

pub record IsResting (s : FrontStage) : Type 0 where
  pub ready : is_ready s ≡ true
  pub unissued : is_issuing s ≡ false
  pub quiet : (pushed fetched : ℕ) → FrontSends s pushed fetched → ⊥

pub resting : (s : FrontStage) → is_resting s ≡ true → IsResting s
resting front.Loop t = assumption
resting s t = first_of (assumption, cc)

pub data_rests : (old new words : List ℕ) (ending ending' : Option Ending) (s s' : FrontStage) → telling_at s' ≡ None → AreDataWords old words ending s
    → AreDataWords new words ending' s'
data_rests old new words ending ending' s s' none h = record { size = h.size; so_far = silent new words ending' s' none }

-- where no request was pushed, nothing is said of the frames and the entries of any, at a stage that issues none and ends the grants of none
pub unpushed : {series : List Request} (pushed : ℕ) (pages : List ℕ) (live : List Held) (s : FrontStage) (ending : Option Ending) (requests : List Request)
    → pushed ≡ 0 → ((frames n : ℕ) → n < filled s frames → ⊥) → named_frames s ≡ 0 → granted_frames s ≡ 0 → ((e : Ending) → revoking_at s ending ≡ Some e → ⊥)
    → All (IsFilled series pushed pages s) requests × AreEntries series pushed pages live s ending requests
unpushed {series} pushed pages live s ending requests zero unfilled unnamed ungranted unrevoked = (
  λ k d lt. record { whole = λ one. absurd (none (get_or requests k d) one); begun = λ at n f. absurd (unfilled _ n f) },
  record {
    each = λ k d lt. record {
      named = λ one. absurd (none (get_or requests k d) one);
      named_next = λ at place t. absurd (omega (arith, unnamed));
      flags = λ one. absurd (none (get_or requests k d) one);
      flags_next = λ at place t. absurd (omega (arith, ungranted));
    };
    ending = λ e same. absurd (unrevoked e same);
  },
)
  where
    none : (r : Request) → IsAmong series pushed r → ⊥
    none r one = omega (arith, one.early, zero)

-- the machine with the front at another stage, another producer seen, asleep or not, and those words and marks
abbrev pub rested : World → FrontStage → (seen : ℕ) → (asleep : Bool) → List ℕ → ChannelState → World
rested w s seen asleep pages channels = record {
  front = let v : front_view.View = w.front in record v { stage = s; ring = record v.ring { seen = seen; asleep = asleep }; told = None };
  back = w.back;
  under = let h : Hypervisor = w.under in record h { pages = pages; channels = channels };
}

pub rest_kept : (config : Options) (w : World) (g : Flow) (d : Pipeline) (s s' : FrontStage) (seen whole : ℕ) (asleep : Bool) (pages : List ℕ) (channels : ChannelState)
    → is_resting s ≡ true → is_resting s' ≡ true
    → ending_of s ≡ 0 → ending_of s' ≡ 0
    → Holds config w g d s w.back.stage
    → FrontAt g.shape g.start g.pushed g.taken whole g.submitted g.replies (next_request w.front) w.front.ring.entry w.front.ending s'
    → seen ≡ wrapped g.start whole → g.taken ≤ whole → whole ≤ g.replied
    → length pages ≡ 1114112
    → ((f : ℕ) → f ≢ 2 → SameFrame w.under.pages pages f)
    → ((x : ℕ) → x ≢ 3 → x < 1024 → word_of pages 2 x ≡ word_of w.under.pages 2 x)
    → channels.made ≡ w.under.channels.made → channels.ports ≡ w.under.channels.ports → channels.back_pending ≡ w.under.channels.back_pending
    → IsFrontSleep g.start g.taken g.replied pages asleep channels.front_pending s' w.back.stage
    → Holds config (rested w s' seen asleep pages channels) (record g { front_seen = whole }) d s' w.back.stage
rest_kept config w g d s s' seen whole asleep pages channels t t' zero zero' h at saw from to sized frames words made ports pending sleep =
    let i = resting s t in
    let i' = resting s' t' in
    let entry : (gref : ℕ) → gref < 1024 → SameEntry w.under.pages pages gref = λ gref lt. same_entry w.under.pages pages gref lt (frames 0 (omega arith)) (frames 1 (omega arith)) in
    assumption (
      indices_seen g whole w.front.ring.indices w.back.ring.indices w.front.ring.seen seen w.back.ring.seen w.back.fetched w.front.last w.front.waiting (length w.front.requests)
          (ending_of s) (ending_of s') saw from to (omega (arith, h.indices.room)) h.indices,
      rw (unending s w.front.ending zero ∙ sym (unending s' w.front.ending zero')) at h.pool,
      saw_more config g whole g.back_seen d (is_ready s') (is_issuing s') (is_fetching w.back.stage) (ending_at s' w.front.ending) (telling_at s') (reply_at w.back.stage)
          w.front.requests w.back.jobs.works pages
          (stations_turned h pages s' (i'.ready ∙ sym i.ready) (i'.unissued ∙ sym i.unissued) zero zero' (λ f low high. frames f (omega arith))),
      rw (i.ready ∙ sym i'.ready) at h.offered,
      ring_turned h pages s' i.ready i'.ready (λ x other lt. words x other (omega arith)) (λ page lt. entry (8 + page) (omega arith)),
      idle_turned h pages s' w.front.ending i'.unissued (slots_beside w.under.pages pages frames (λ x from to. words x (omega arith) to))
          (frames_elsewhere h pages s' (λ f from. frames f (omega arith))) (entries_elsewhere h pages s' entry) (λ e same. absurd (unrevoked s' w.front.ending e zero' same)),
      data_rests w.under.pages pages w.front.words w.front.ending w.front.ending s s' (untelling s' zero') h.telling,
      back_sleep_turned h pages s' channels.back_pending (words 1 (omega arith) (omega arith)) pending (λ t sends. absurd (i.quiet g.pushed g.fetched sends)),
      rw (sym made, sym ports, as_connected s s' i.ready i'.ready) at h.ports,
    )
