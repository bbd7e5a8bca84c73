-- A state that the front enters, and a suspend: what decides a submission is said by their lines.
use Rattle.std.proofs.Common.{◌≡◌, ℕ, ◌==◌, Bool, true, false, true≢false, not, List, refl, ap, sym, ◌∙◌, subst}
use Rattle.std.specs.Prelude.{Option, Some, None, fold, length}
use Rattle.line_text.proofs.Both.{both_true}
use Rattle.blk_base.specs.Options.{Options}
use Rattle.schedule_text.specs.declared.line.Line.TheVariants as lines
use Rattle.plain_disk.specs.declared.request.DiskRequest.{DiskRequest}
use Rattle.plain_disk.specs.declared.sight.Sight.{Sight}
use Rattle.plain_disk.specs.Refusal.{seen}
use Rattle.blk_front.specs.declared.request.Request.{Request}
use Rattle.blk_front.specs.declared.stage.Ending.{Ending}
use Rattle.blk_front.specs.declared.stage.FrontStage.{FrontStage}
use Rattle.blk_front.specs.declared.stage.FrontStage.TheVariants as stage
use Rattle.blk_front.specs.declared.state.FrontState.{FrontState}
use Rattle.blk_front.specs.declared.state.FrontState.TheVariants as state
use Rattle.blk_front.specs.declared.state.Offers.{Offers}
use Rattle.blk_front.specs.View.{View, no_offers}
use Rattle.blk_front.specs.Ask.{is_through}
use Rattle.blk_front.specs.State.{is_open, is_made, is_bare, may_enter, in_state}
use Rattle.blk_front.specs.Submit.{is_ready, is_initialised}
use Rattle.blk_front.specs.Suspend.{by_number, with_ending, requests_after, ending_after, stage_after, suspended}
use Rattle.split_model.specs.Shown.{state_lines}
use Rattle.split_model.proofs.Suspending.{front_cases}
use Rattle.machine_pipeline.proofs.Flow.{ending_at}
use Rattle.machine_pipeline.proofs.Holds.{AreOffered}
use Rattle.machine_pipeline.proofs.ResumedHolds.{placed}
use Rattle.vbd_front.specs.View.{is_broken}
use Rattle.refusal_laws.specs.Ruled.{asked_step}
use Rattle.refusal_laws.proofs.Asked.{AreAsked, asked_back}
use Rattle.refusal_laws.proofs.Stands.{share_of, Stands, IsHeldAt, Keeps, breaks}

-- the order that is agreed is the front's own, and what the back is taken to serve is what the options have it serve
abbrev pub IsMeant : Options → View → FrontState → Type 0
IsMeant config v (state.Agreed order) = order ≡ v.shape.order
IsMeant config v (state.Connected offers) = AreOffered config offers
IsMeant config v s = Unit {0}

module _ (config : Options) (s : Sight) (asked : List DiskRequest) (v : View) where
  abbrev StandsAt : FrontStage → Type 0
  StandsAt t = Stands config (share_of v) (is_ready t) (is_broken t) (ending_at t v.ending) s asked

  -- it is connected
  connects : (offers : Offers) (t : FrontStage) → AreOffered config offers → is_initialised t ≡ true → StandsAt t → Stands config (record (share_of v) { offers = offers }) true false None (seen s lines.Ready) asked
  connects offers stage.Initialised are is h = record {
    options = h.options;
    closing = h.closing;
    broken_is = h.broken_is;
    ready_is = λ stays. sym (ap not h.broken_is);
    order = h.order;
    offers = λ ready. are;
    last = h.last;
    are = h.are;
  }
  connects offers t are is h = absurd (true≢false (sym is))

  -- it begins to close
  closes : (t : FrontStage) → StandsAt t → Stands config (record (share_of v) { closing = true }) (is_ready t) (is_broken t) (ending_at t v.ending) (seen s lines.Closing) asked
  closes t h = record {
    options = h.options;
    closing = refl;
    broken_is = h.broken_is;
    ready_is = λ stays. absurd (true≢false stays);
    order = h.order;
    offers = h.offers;
    last = h.last;
    are = h.are;
  }

  -- a closing front that has no request at hand goes where it isn't ready
  leaves : (ready : Bool) → v.closing ≡ true → Stands config (share_of v) ready false None s asked → Stands config (share_of v) false false None s asked
  leaves ready closing h = record {
    options = h.options;
    closing = h.closing;
    broken_is = h.broken_is;
    ready_is = λ stays. absurd (true≢false (sym closing ∙ stays));
    order = h.order;
    offers = λ ready. absurd (true≢false (sym ready));
    last = h.last;
    are = h.are;
  }

  made : (t : FrontStage) → is_made t ≡ true → v.closing ≡ true → StandsAt t → Stands config (share_of v) false false None s asked
  made stage.Initialised is closing h = leaves false closing h
  made stage.Loop is closing h = leaves true closing h
  made t is closing h = absurd (true≢false (sym is))

  bare : (t : FrontStage) → is_bare t ≡ true → v.closing ≡ true → StandsAt t → Stands config (share_of v) false false None s asked
  bare (stage.RingWord k) is closing h = leaves false closing h
  bare stage.Left is closing h = leaves false closing h
  bare t is closing h = absurd (true≢false (sym is))

  through : is_through v ≡ true → v.closing ≡ true
  through is = (both_true v.closing (length v.requests == 0) is).0

  pub enters_goes : (x : FrontState) → IsMeant config v x → may_enter x v ≡ true → Keeps config v s asked → Keeps config (in_state x v) (fold seen s (state_lines x)) (fold asked_step asked (state_lines x))
  enters_goes (state.Agreed order) meant may keeps =
      (subst (λ (n : ℕ). Stands config (record (share_of v) { order = n }) (is_ready v.stage) (is_broken v.stage) (ending_at v.stage v.ending) s asked) (sym meant) keeps.0, keeps.1)
  enters_goes (state.Connected offers) meant may keeps = (connects offers v.stage meant may keeps.0, tt)
  enters_goes state.Closing meant may keeps = (closes v.stage keeps.0, keeps.1)
  enters_goes state.Leaving meant may keeps = let both = both_true (is_through v) (is_made v.stage) may in (made v.stage both.1 (through both.0) keeps.0, tt)
  enters_goes state.Closed meant may keeps = let both = both_true (is_through v) (is_bare v.stage) may in (bare v.stage both.1 (through both.0) keeps.0, tt)
  enters_goes (state.Broken word) meant may keeps = (breaks config (share_of v) (is_ready v.stage) (is_broken v.stage) (ending_at v.stage v.ending) s asked word keeps.0, tt)

  -- a new epoch: all that is unfinished waits to be issued, but the data in hand
  resumes : (ready : Bool) (ending after : Option Ending) (requests : List Request) → Stands config (share_of v) ready false ending s asked → AreAsked asked requests after v.pool
      → Stands config (record (share_of v) { offers = no_offers; requests = requests }) false false after (seen s lines.Epoch) asked
  resumes ready ending after requests h all = record {
    options = h.options;
    closing = h.closing;
    broken_is = h.broken_is;
    ready_is = λ stays. refl;
    order = h.order;
    offers = λ ready. absurd (true≢false (sym ready));
    last = h.last;
    are = λ whole. all;
  }

  abbrev Resumes : FrontStage → Type 0
  Resumes t =
      Stands config (record (share_of v) { offers = no_offers; requests = requests_after t v.ending v.requests }) (is_ready (stage_after t)) (is_broken (stage_after t)) (ending_at (stage_after t) (ending_after t v.ending)) (seen s lines.Epoch) asked
      × IsHeldAt (stage_after t) (ending_after t v.ending)

  -- one whose grants were being ended waits again
  back : (e : Ending) → v.ending ≡ Some e → Stands config (share_of v) true false v.ending s asked → Stands config (record (share_of v) { offers = no_offers; requests = by_number e.request v.requests }) false false None (seen s lines.Epoch) asked
  back e here h =
      resumes true v.ending None (by_number e.request v.requests) h
      (asked_back asked v.requests (by_number e.request v.requests) e v.pool (placed e.request v.requests) (subst (λ (o : Option Ending). AreAsked asked v.requests o v.pool) here (h.are refl)))

  put_back : (e : Ending) → v.ending ≡ Some e → Stands config (share_of v) true false v.ending s asked → Stands config (record (share_of v) { offers = no_offers; requests = with_ending v.ending v.requests }) false false None (seen s lines.Epoch) asked
  put_back e here h = subst (λ (o : Option Ending). Stands config (record (share_of v) { offers = no_offers; requests = with_ending o v.requests }) false false None (seen s lines.Epoch) asked) (sym here) (back e here h)

  opened : (t : FrontStage) → is_open t ≡ true → StandsAt t → IsHeldAt t v.ending → Resumes t
  opened stage.Closed stays h held = absurd (true≢false (sym stays))
  opened (stage.Broken word) stays h held = absurd (true≢false (sym stays))
  opened (stage.GrantRead place) stays h held = (put_back held.0 held.1 h, tt)
  opened (stage.GrantEnd place before) stays h held = (put_back held.0 held.1 h, tt)
  opened (stage.ReadData n) stays h held = (resumes true v.ending v.ending v.requests h (h.are refl), held)
  opened (stage.LeftData n) stays h held = (resumes false v.ending v.ending v.requests h (h.are refl), held)
  opened t stays h held = (resumes (is_ready t) None None v.requests h (h.are refl), tt)

  -- a closed or broken front stays as it is
  unready : (t : FrontStage) → is_open t ≡ false → is_ready t ≡ false
  unready stage.Closed over = refl
  unready (stage.Broken word) over = refl
  unready t over = absurd (true≢false over)

  over : is_open v.stage ≡ false → Keeps config v s asked → Keeps config v (seen s lines.Epoch) asked
  over is keeps = let h = keeps.0 in (
    record {
      options = h.options;
      closing = h.closing;
      broken_is = h.broken_is;
      ready_is = λ stays. unready v.stage is;
      order = h.order;
      offers = h.offers;
      last = h.last;
      are = h.are;
    },
    keeps.1,
  )

  pub suspends_goes : Keeps config v s asked → Keeps config (suspended v) (seen s lines.Epoch) asked
  suspends_goes keeps = front_cases (λ (x : View). Keeps config x (seen s lines.Epoch) asked) v (λ stays. opened v.stage stays keeps.0 keeps.1) (λ is. over is keeps)
