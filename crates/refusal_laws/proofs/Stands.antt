-- What decides how the front answers a submission, and that the report's lines say it.
use Rattle.std.proofs.Common.{◌≡◌, ℕ, ◌+◌, ◌-◌, ◌<◌, ◌≤◌, ◌==◌, ◌&&◌, Bool, true, false, true≢false, not, if◌then◌else◌, List, length, length-set, refl, ap, sym, ◌∙◌, subst, arith}
use Rattle.std.specs.Prelude.{Option, Some, None, slice_get, slice_set, nat_lt}
use Rattle.std.proofs.lemmas.Bool.Decides.{nat_tests}
use Rattle.blk_base.specs.Options.{Options}
use Rattle.blk_base.specs.declared.config.Submission.{Submission}
use Rattle.blk_base.specs.declared.operation.Status.{Status}
use Rattle.blk_base.specs.declared.operation.Status.TheVariants as status
use Rattle.schedule_text.specs.declared.line.Line.TheVariants as lines
use Rattle.plain_disk.specs.declared.request.RequestStage.{RequestStage}
use Rattle.plain_disk.specs.declared.request.RequestStage.TheVariants.{Telling, Finished}
use Rattle.plain_disk.specs.declared.request.DiskRequest.{DiskRequest}
use Rattle.plain_disk.specs.declared.sight.Sight.{Sight}
use Rattle.plain_disk.specs.Request.{is_finished}
use Rattle.plain_disk.specs.Disk.{request_of}
use Rattle.plain_disk.specs.Step.{told_stage, next_stage}
use Rattle.plain_disk.specs.Refusal.{seen}
use Rattle.blk_front.specs.declared.request.Request.{Request}
use Rattle.blk_front.specs.declared.request.Transfer.{Transfer}
use Rattle.blk_front.specs.declared.request.Transfer.TheVariants as transfer
use Rattle.blk_front.specs.Request.{has_data, words_in}
use Rattle.blk_front.specs.declared.stage.Ending.{Ending}
use Rattle.blk_front.specs.declared.stage.FrontStage.{FrontStage}
use Rattle.blk_front.specs.declared.stage.FrontStage.TheVariants as stage
use Rattle.blk_front.specs.declared.state.Offers.{Offers}
use Rattle.blk_front.specs.Pool.{with_all_free}
use Rattle.blk_front.specs.View.{View}
use Rattle.blk_front.specs.Submit.{is_ready}
use Rattle.vbd_front.specs.View.{is_broken}
use Rattle.machine_pipeline.proofs.Flow.{ending_at, submitted_job}
use Rattle.machine_pipeline.proofs.Holds.{AreOffered}
use Rattle.refusal_laws.specs.Ruled.{at_stage}
use Rattle.refusal_laws.proofs.Asked.{IsAsked, AreAsked, told_set, ended_set}

-- of the front, beside its stage and the request that is ending
pub record Share : Type 0 where
  pub closing : Bool
  pub offers : Offers
  pub order : ℕ
  pub last : ℕ
  pub requests : List Request
  pub pool : List Bool

abbrev pub share_of : View → Share
share_of v = record { closing = v.closing; offers = v.offers; order = v.shape.order; last = v.last; requests = v.requests; pool = v.pool }

-- the lines say whether the front is ready, unless it closes, and whether it closes or is broken; it has the options' ring; once ready it knows their disk, and what its back serves; and the requests that the lines leave open are its own, until it is broken
pub record Stands (config : Options) (k : Share) (ready broken : Bool) (ending : Option Ending) (s : Sight) (asked : List DiskRequest) : Type 0 where
  pub options : s.config ≡ Some config
  pub closing : s.closing ≡ k.closing
  pub broken_is : s.broken ≡ broken
  pub ready_is : k.closing ≡ false → ready ≡ (s.connected && not s.broken)
  pub order : config.order ≡ k.order
  pub offers : ready ≡ true → AreOffered config k.offers
  pub last : length asked ≡ k.last
  pub are : broken ≡ false → AreAsked asked k.requests ending k.pool

-- while a request ends it is there; while its data are read it is a read, of this word too
abbrev pub IsTelling : ℕ → Option Ending → Type 0
IsTelling n ending = (e : Ending) × (ending ≡ Some e) × (n < words_in e.request) × (e.request.transfer ≡ transfer.Read)

abbrev pub IsHeldAt : FrontStage → Option Ending → Type 0
IsHeldAt (stage.GrantRead place) ending = (e : Ending) × (ending ≡ Some e)
IsHeldAt (stage.GrantEnd place before) ending = (e : Ending) × (ending ≡ Some e)
IsHeldAt (stage.ReadData n) ending = IsTelling n ending
IsHeldAt (stage.LeftData n) ending = IsTelling n ending
IsHeldAt s ending = Unit {0}

abbrev pub Keeps : Options → View → Sight → List DiskRequest → Type 0
Keeps config v s asked = Stands config (share_of v) (is_ready v.stage) (is_broken v.stage) (ending_at v.stage v.ending) s asked × IsHeldAt v.stage v.ending

-- a line that breaks the front
unready : (connected : Bool) → false ≡ (connected && not true)
unready true = refl
unready false = refl

pub breaks : (config : Options) (k : Share) (ready broken : Bool) (ending : Option Ending) (s : Sight) (asked : List DiskRequest) (word : ℕ) → Stands config k ready broken ending s asked → Stands config k false true None (seen s (lines.Broken word)) asked
breaks config k ready broken ending s asked word h = record {
  options = h.options;
  closing = h.closing;
  broken_is = refl;
  ready_is = λ stays. unready s.connected;
  order = h.order;
  offers = λ t. absurd (true≢false (sym t));
  last = h.last;
  are = λ whole. absurd (true≢false whole);
}

-- other requests are the front's, by as many as were given a number
pub with_asked : (config : Options) (k : Share) (ready : Bool) (ending after : Option Ending) (s : Sight) (asked now : List DiskRequest) (requests : List Request) (pool : List Bool)
    → Stands config k ready false ending s asked → length now ≡ length asked → AreAsked now requests after pool → Stands config (record k { requests = requests; pool = pool }) ready false after s now
with_asked config k ready ending after s asked now requests pool h long all = record {
  options = h.options;
  closing = h.closing;
  broken_is = h.broken_is;
  ready_is = h.ready_is;
  order = h.order;
  offers = h.offers;
  last = long ∙ h.last;
  are = λ whole. all;
}

-- a line that takes the ending request a step
stepped : (asked : List DiskRequest) (n : ℕ) (x : DiskRequest) (to : Submission → RequestStage) → 1 ≤ n → slice_get asked (n - 1) ≡ Some x → at_stage asked n to (request_of asked n) ≡ slice_set asked (n - 1) (record x { stage = to x.submission })
stepped asked n x to some at =
    let other : (n == 0) ≡ false = grind (arith, nat_tests) in
    rw (other, at) refl

module _ (config : Options) (k : Share) (ready : Bool) (e : Ending) (s : Sight) (asked : List DiskRequest) (to : Submission → RequestStage) (h : Stands config k ready false (Some e) s asked) where
  all : AreAsked asked k.requests (Some e) k.pool
  all = h.are refl

  is : IsAsked asked e.request
  is = all.last e refl

  abbrev y : DiskRequest
  y = record is.x { stage = to is.x.submission }

  now : at_stage asked e.request.number to (request_of asked e.request.number) ≡ slice_set asked (e.request.number - 1) y
  now = stepped asked e.request.number is.x to is.positive is.at

  -- it is done
  pub line_ends : is_finished (to (submitted_job e.request.transfer e.request.sector e.request.count)) ≡ true
      → Stands config (record k { pool = with_all_free k.pool e.request.frames.items }) ready false None s (at_stage asked e.request.number to (request_of asked e.request.number))
  line_ends done =
      subst (λ (l : List DiskRequest). Stands config (record k { pool = with_all_free k.pool e.request.frames.items }) ready false None s l) (sym now)
      (with_asked config k ready (Some e) None s asked (slice_set asked (e.request.number - 1) y) k.requests (with_all_free k.pool e.request.frames.items) h (length-set asked (e.request.number - 1) y)
      (ended_set asked k.requests e k.pool y all (ap (λ (submission : Submission). is_finished (to submission)) is.submission ∙ done)))

  -- or not yet
  pub line_tells : is_finished (to (submitted_job e.request.transfer e.request.sector e.request.count)) ≡ false → Stands config k ready false (Some e) s (at_stage asked e.request.number to (request_of asked e.request.number))
  line_tells undone =
      subst (λ (l : List DiskRequest). Stands config k ready false (Some e) s l) (sym now)
      (with_asked config k ready (Some e) (Some e) s asked (slice_set asked (e.request.number - 1) y) k.requests k.pool h (length-set asked (e.request.number - 1) y)
      (told_set asked k.requests e k.pool y all (ap (λ (submission : Submission). is_finished (to submission)) is.submission ∙ undone) is.submission))

-- an answer ends it, but of a read that went well
pub told_end : (way : Transfer) (sector count : ℕ) (answer : Status) → is_finished (told_stage (submitted_job way sector count) answer) ≡ not (has_data way answer)
told_end transfer.Read sector count status.Okay = refl
told_end transfer.Read sector count status.Error = refl
told_end transfer.Read sector count status.Unsupported = refl
told_end other sector count answer = refl

-- and its last sector does
pub next_end : (sector count index : ℕ) → is_finished (next_stage (submitted_job transfer.Read sector count) index) ≡ not (nat_lt (index + 1) count)
next_end sector count index = elim (nat_lt (index + 1) count) as (λ b. is_finished (if b then Telling (index + 1) else Finished) ≡ not b) [ true ↦ refl | false ↦ refl ]
