-- Whatever happens from the start, the lines keep the rules on jobs.
use Rattle.std.proofs.Common.{◌≡◌, ℕ, ◌<◌, ◌≤◌, ◌^◌, Bool, true, false, if◌then◌else◌, List, [], ◌∷◌, ◌++◌, refl, ap, sym, ◌∙◌, subst, append-nil}
use Rattle.std.specs.Prelude.{Option, Some, None, is_some}
use Rattle.blk_base.specs.Options.{Options}
use Rattle.schedule_text.specs.declared.line.Line.{Line}
use Rattle.schedule_text.specs.declared.line.Line.TheVariants as lines
use Rattle.schedule_text.specs.declared.line.Detail.{Detail}
use Rattle.blk_base.specs.declared.ask.BackAsk.TheVariants as ask
use Rattle.blk_base.specs.declared.moves.BackMover.TheVariants as mover
use Rattle.hypervisor.specs.Act.{BackAct, Outcome, Took, back_act}
use Rattle.report_rules.specs.Obeys.{Obeys}
use Rattle.report_rules.specs.Steps.{AreSteps}
use Rattle.report_rules.specs.Data.{AreData}
use Rattle.report_rules.specs.Effect.{AreEffects}
use Rattle.report_rules.proofs.Obeys.{obeys_none, obeys_more}
use Rattle.back_jobs.specs.Jobs.{ask_job, place_of, work_of, waits}
use Rattle.blk_base.specs.declared.halt.Halt.{Halt}
use Rattle.blk_back.specs.Step.{may_attach, attached}
use Rattle.ring_words.specs.Shape.{Shape}
use Rattle.blk_back.specs.Ask.{ask_of}
use Rattle.blk_back.specs.View as back
use Rattle.blk_back.specs.Step as back_step
use Rattle.split_model.specs.World.{World, start_of, suspended}
use Rattle.split_model.specs.Happening.{Happening, FrontMoves, BackMoves, JobMoves, BackAttaches, BackHalts, Suspends, layout_text, layout_read, happens, lines_at, after, back_after, back_shows, job_after, job_shows, front_turn, back_turn, job_turn}
use Rattle.split_model.specs.Safe.{IsSafe}
use Rattle.blk_back.specs.Keeping.{KeepsNone}
use Rattle.split_model.specs.Kept.{back_offers}
use Rattle.split_model.proofs.Safe.{safe_start, safe_happens}
use Rattle.split_model.proofs.Without.{goes_as_without}
use Rattle.split_model.specs.Shown.{back_lines, halt_lines}
use Rattle.split_model.proofs.SafeAnswers.{backs_of, jobs_of}
use Rattle.split_model.specs.Keys.{is_layout}
use Rattle.split_model.proofs.Shapes.{back_shape}
use Rattle.split_model.proofs.Suspending.{suspend_cases, begun_back, gone_back, back_cases}
use Rattle.split_model.proofs.Attaching.{SaysServed, attach_cases}
use Rattle.split_model.specs.Report.{report_of, ended_report_of}
use Rattle.ring_laws.proofs.Epochs.{new_tells, epoch_tells, epoch_fetched}
use Rattle.ring_laws.proofs.BackReads.{reads_of}
use Rattle.ring_laws.proofs.Shows.{Sight, Shows}
use Rattle.ring_laws.proofs.Knows.{Follows}
use Rattle.ring_laws.proofs.Outsiders.{AreOutsiders, front_outsiders, front_leaves, outsiders_other, outsiders_by, beside_outsiders}
use Rattle.ring_laws.proofs.Free.{AreFree, job_free, job_running, free_told}
use Rattle.ring_laws.proofs.Runs.{FollowsTo, earlier_pages, unread, follows_happens, follows_begin}
use Rattle.ring_laws.proofs.Works.{jobs_anew}
use Rattle.ring_laws.proofs.Began.{Terms}
use Rattle.ring_laws.proofs.Standings.{Stands}
use Rattle.ring_laws.proofs.StandRuns.{others_of, halts_other, back_other, stands_happen}
use Rattle.ring_laws.proofs.Bystanders.{IsRule, IsBystander, AreBystanders, no_effect}
use Rattle.ring_laws.proofs.Fetched.{AreFetched, nothing_fetched, fetched_anew, values_aside, others_fetched, back_fetched}
use Rattle.ring_laws.proofs.BackChange.{back_by, back_reads, halt_by}
use Rattle.ring_laws.proofs.Halting.{Stops, stops_cases}
use Rattle.ring_laws.proofs.Tells.{Tells, terms_of, tells_aside, shows_free}
use Rattle.ring_laws.proofs.BackTells.{back_tells}
use Rattle.ring_laws.proofs.JobTells.{JobTells, job_tells}
use Rattle.ring_laws.proofs.JobTurn.{After}
use Rattle.ring_laws.proofs.After.{kept_after}
use Rattle.ring_laws.proofs.EntryWords.{entry_values}

-- all that the lines so far tell, side by side with the machine
pub record Stand (config : Options) (before : List Line) (w : World) : Type 0 where
  pub ring : FollowsTo config.start before w
  pub standing : Stands before w.under.grants
  pub safe : IsSafe w
  pub keeps_none : KeepsNone w.back
  pub silent : back_offers w ≡ false
  pub tells : Tells config before w.back
  pub fetched : AreFetched (terms_of config w.back) before

pub same_values : (over : Bool) (before ys : List Line) (x : Sight) → AreFree over ys → Shows before x → entry_values (before ++ ys) ≡ entry_values before
same_values over before ys x free shows = let longer : Shows (before ++ ys) x = shows_free over ys before x free shows in longer.values ∙ sym shows.values

no_lines : (config : Options) (before : List Line) (v : back.View) → Tells config before v → Tells config (before ++ []) v
no_lines config before v t = subst (λ (ls : List Line). Tells config ls v) (sym (append-nil before)) t

retold : (config : Options) (before : List Line) (v : back.View) → Tells config before v → Tells config before (record v { told = None })
retold config before v t = record { tale = t.tale; quiet = t.quiet; info = t.info; room = t.room; jobs = t.jobs; unseen = t.unseen }

back_goes_on : (config : Options) (w : World) (before : List Line) (o : Outcome) (act : Option BackAct) → IsSafe w → FollowsTo config.start before w → Tells config before w.back → back_turn w o ≡ act → reads_of (before ++ back_shows w act) < 2 ^ 64 → (let n : World = back_after w act in Tells config (before ++ back_shows w act) n.back)
back_goes_on config w before o None safe f t e few = no_lines config before w.back t
back_goes_on config w before o (Some a) safe f t e few = retold config (before ++ back_shows w (Some a)) (back_step.step_of w.back a.answer) (back_tells config config.start before w.under w.back o a f.follows f.told t (earlier_pages w safe) e few)

job_goes_on : (config : Options) (w : World) (before : List Line) (k : ℕ) (o : Outcome) (act : Option BackAct) → Stand config before w → job_turn w k o ≡ act → (let n : World = job_after w k act in Tells config (before ++ job_shows w k act) n.back)
job_goes_on config w before k o None s e = no_lines config before w.back s.tells
job_goes_on config w before k o (Some a) s e =
    let t : Tells config before w.back = s.tells in
    let running : is_some w.back.halted ≡ false = job_running (is_some w.back.halted) w.under k (ask_job w.back.jobs k) o a e in
    let asks = ap (λ (b : Bool). back_act w.under (mover.Job k) (if b then ask.Wait else ask_job w.back.jobs k) o) (sym running) ∙ e in
    let free : AreFree (is_some w.back.halted) (job_shows w k (Some a)) = (job_free (is_some w.back.halted) w.under k (back_step.job_ask_of w.back k) o a running (jobs_of w.back k) e, free_told (is_some w.back.halted) _ a.answer running) in
    let told : JobTells config before (job_shows w k (Some a)) w.back k _ = job_tells config config.start before w.under w.back k o a (place_of w.back.jobs.works k) (waits w.back.jobs.works k) (work_of w.back.jobs.works k) refl refl running s.ring.follows s.fetched free s.tells asks in
    let past : After config before (job_shows w k (Some a)) = told.after in
    record { tale = past.tale; quiet = past.quiet; info = t.info; room = t.room; jobs = λ r. told.jobs; unseen = told.unseen }

-- lines between all others
outside : (config : Options) (w : World) (before ys : List Line) → AreOutsiders w.back.stage ys → Stand config before w → Tells config (before ++ ys) w.back
outside config w before ys all s = tells_aside config before ys w.back (outsiders_by w.back.stage ys all) (values_aside ys before (outsiders_other w.back.stage ys all)) s.tells

-- the line of a halt says nothing of jobs
pub halt_values : (before : List Line) (old new : Option Halt) → entry_values (before ++ halt_lines old new) ≡ entry_values before
halt_values before old new = values_aside (halt_lines old new) before (halts_other old new)

-- and a back that halts serves none
halted_tells : (config : Options) (w : World) (before : List Line) (why : Halt) → Stand config before w → (let n : World = happens w (BackHalts why) in Tells config (before ++ lines_at w (BackHalts why)) n.back)
halted_tells config w before why s = stops_cases (λ (new : back.View). Tells config (before ++ halt_lines w.back.halted new.halted) new) why w.back f.sight f.knows stops (told w.back.halted)
  where
    f : Follows config.start [] before w.back
    f = s.ring.follows

    told : (now : Option Halt) → Tells config (before ++ halt_lines w.back.halted now) w.back
    told now = tells_aside config before (halt_lines w.back.halted now) w.back (halt_by w.back.halted now) (halt_values before w.back.halted now) s.tells

    stops : (new : back.View) → Stops f.sight why w.back new → Tells config (before ++ halt_lines w.back.halted new.halted) new
    stops new p =
        let t : Tells config (before ++ halt_lines w.back.halted new.halted) w.back = told new.halted in
        let over : is_some new.halted ≡ true = p.over in
        record { tale = t.tale; quiet = t.quiet; info = p.info ∙ t.info; room = t.room; jobs = λ running. absurd (cc); unseen = λ k above. t.unseen k (subst (λ (n : ℕ). n < k) p.fetched above) }

-- the line of the key that names the layout
pub layout_by : (w : World) → AreBystanders (lines.Move (layout_read w) ∷ [])
layout_by w = (record { plain = refl; unstepped = refl }, tt)

-- a back that takes terms holds no job yet
attached_tells : (config : Options) (w : World) (before : List Line) (shape : Shape) (grefs : List ℕ) (port : ℕ) → Stand config before w → (let n : World = happens w (BackAttaches shape grefs port) in Tells config (before ++ lines_at w (BackAttaches shape grefs port)) n.back)
attached_tells config w before shape grefs port s = attach_cases (λ (new : back.View) (shown : List Line). Tells config (before ++ shown) new) w shape grefs port takes (no_lines config before w.back s.tells)
  where
    takes : may_attach shape grefs w.back ≡ true → is_layout shape.abi (layout_text w) ≡ true → SaysServed w → Tells config (before ++ lines.Move (layout_read w) ∷ []) (attached shape grefs port w.back)
    takes may layout says =
        let same = values_aside (lines.Move (layout_read w) ∷ []) before (refl, tt) in
        let t : Tells config (before ++ lines.Move (layout_read w) ∷ []) w.back = tells_aside config before (lines.Move (layout_read w) ∷ []) w.back (layout_by w) same s.tells in
        record { tale = t.tale; quiet = t.quiet; info = t.info; room = t.room; jobs = λ runs. jobs_anew (terms_of config w.back) _ _ _ w.back.fetched w.back.jobs.works (same ∙ unread config.start w before shape grefs s.ring may) (t.jobs runs); unseen = t.unseen }

-- a back that begins in a new epoch holds none
suspended_tells : (config : Options) (w : World) (before : List Line) → Tells config before w.back → (let v : World = suspended w in Tells config (before ++ lines.Epoch ∷ []) v.back)
suspended_tells config w before t = back_cases (λ (b : back.View). Tells config (before ++ lines.Epoch ∷ []) b) w (epoch_tells config before w.back (begun_back w) t refl refl) (epoch_tells config before w.back (gone_back w) t refl refl)

tells_happens : (config : Options) (w : World) (h : Happening) (before : List Line) → Stand config before w → reads_of (before ++ lines_at w h) < 2 ^ 64 → (let n : World = happens w h in Tells config (before ++ lines_at w h) n.back)
tells_happens config w FrontMoves before s few =
    front_leaves (Tells config (before ++ lines_at w FrontMoves)) w (front_turn w) (outside config w before (lines_at w FrontMoves) (front_outsiders w.back.stage w (front_turn w) refl) s)
tells_happens config w BackMoves before s few = back_goes_on config w before Took (back_turn w Took) s.safe s.ring s.tells refl few
tells_happens config w (JobMoves number outcome) before s few = job_goes_on config w before number outcome (job_turn w number outcome) s refl
tells_happens config w (BackAttaches shape grefs port) before s few = attached_tells config w before shape grefs port s
tells_happens config w (BackHalts why) before s few = halted_tells config w before why s
tells_happens config w Suspends before s few = suspend_cases (λ (v : World) (shown : List Line). Tells config (before ++ shown) v.back) w (λ may. suspended_tells config w before s.tells) (no_lines config before w.back s.tells)
tells_happens config w h before s few = outside config w before (lines_at w h) (beside_outsiders w h tt) s

-- the lines of each mover tell what was fetched
no_fetch : (terms : Terms) (before : List Line) → AreFetched terms before → AreFetched terms (before ++ [])
no_fetch terms before are = subst (λ (ls : List Line). AreFetched terms ls) (sym (append-nil before)) are

back_fetches : (config : Options) (w : World) (before : List Line) (act : Option BackAct) → back_turn w Took ≡ act → Stand config before w → (let n : World = back_after w act in AreFetched (terms_of config n.back) (before ++ back_shows w act))
back_fetches config w before None e s = no_fetch (terms_of config w.back) before s.fetched
back_fetches config w before (Some a) e s =
    let v : back.View = w.back in
    let new : back.View = back_step.step_of w.back a.answer in
    let f : Follows config.start [] before w.back = s.ring.follows in
    let t : Tells config before w.back = s.tells in
    let b : IsBystander (lines.Move a.shown) = back_by w.under (ask_of w.back) Took a (backs_of w.back) e in
    subst (λ (s : Shape). AreFetched (record { config = config; abi = s.abi }) (before ++ back_shows w (Some a))) (sym (back_shape w.back a.answer))
    (back_fetched (terms_of config w.back) before (back_lines new.told a.answer ++ halt_lines v.halted new.halted) (lines.Move a.shown) b (back_other w.back new.told a.answer new.halted)
    (back_reads before w.under v.stage w.back Took a f.sight f.knows f.shows e) t.tale s.fetched)

job_fetches : (terms : Terms) (w : World) (before : List Line) (k : ℕ) (o : Outcome) (act : Option BackAct) → job_turn w k o ≡ act → AreFetched terms before → AreFetched terms (before ++ job_shows w k act)
job_fetches terms w before k o None e are = no_fetch terms before are
job_fetches terms w before k o (Some a) e are =
    let over : Bool = is_some w.back.halted in
    let running : is_some w.back.halted ≡ false = job_running (is_some w.back.halted) w.under k (ask_job w.back.jobs k) o a e in
    others_fetched terms before (job_shows w k (Some a)) (others_of over (job_shows w k (Some a)) (job_free over w.under k (back_step.job_ask_of w.back k) o a running (jobs_of w.back k) e, free_told over _ a.answer running)) are

-- the back serves on the same terms
job_terms : (config : Options) (w : World) (ls : List Line) (k : ℕ) (act : Option BackAct) → AreFetched (terms_of config w.back) ls → (let n : World = job_after w k act in AreFetched (terms_of config n.back) ls)
job_terms config w ls k None are = are
job_terms config w ls k (Some a) are = are

halted_fetches : (config : Options) (w : World) (before : List Line) (why : Halt) → Stand config before w → (let n : World = happens w (BackHalts why) in AreFetched (terms_of config n.back) (before ++ lines_at w (BackHalts why)))
halted_fetches config w before why s = stops_cases (λ (new : back.View). AreFetched (terms_of config new) (before ++ halt_lines w.back.halted new.halted)) why w.back f.sight f.knows stops (same w.back.halted)
  where
    f : Follows config.start [] before w.back
    f = s.ring.follows

    same : (now : Option Halt) → AreFetched (terms_of config w.back) (before ++ halt_lines w.back.halted now)
    same now = others_fetched (terms_of config w.back) before (halt_lines w.back.halted now) (halts_other w.back.halted now) s.fetched

    stops : (new : back.View) → Stops f.sight why w.back new → AreFetched (terms_of config new) (before ++ halt_lines w.back.halted new.halted)
    stops new p = subst (λ (q : Shape). AreFetched (record { config = config; abi = q.abi }) (before ++ halt_lines w.back.halted new.halted)) (sym p.shape) (same new.halted)

attached_fetches : (config : Options) (w : World) (before : List Line) (shape : Shape) (grefs : List ℕ) (port : ℕ) → Stand config before w
    → (let n : World = happens w (BackAttaches shape grefs port) in AreFetched (terms_of config n.back) (before ++ lines_at w (BackAttaches shape grefs port)))
attached_fetches config w before shape grefs port s =
    attach_cases (λ (new : back.View) (shown : List Line). AreFetched (terms_of config new) (before ++ shown)) w shape grefs port
    (λ may layout says. fetched_anew (terms_of config w.back) (terms_of config (attached shape grefs port w.back)) (before ++ lines.Move (layout_read w) ∷ []) (values_aside (lines.Move (layout_read w) ∷ []) before (refl, tt) ∙ unread config.start w before shape grefs s.ring may) (others_fetched (terms_of config w.back) before (lines.Move (layout_read w) ∷ []) (refl, tt) s.fetched))
    (no_fetch (terms_of config w.back) before s.fetched)

outside_fetched : (config : Options) (w : World) (before ys : List Line) → AreOutsiders w.back.stage ys → Stand config before w → AreFetched (terms_of config w.back) (before ++ ys)
outside_fetched config w before ys all s = others_fetched (terms_of config w.back) before ys (outsiders_other w.back.stage ys all) s.fetched

suspended_fetched : (config : Options) (w : World) (before : List Line) → (let v : World = suspended w in AreFetched (terms_of config v.back) (before ++ lines.Epoch ∷ []))
suspended_fetched config w before = epoch_fetched (let v : World = suspended w in terms_of config v.back) before

fetched_happens : (config : Options) (w : World) (h : Happening) (before : List Line) → Stand config before w → (let n : World = happens w h in AreFetched (terms_of config n.back) (before ++ lines_at w h))
fetched_happens config w FrontMoves before s =
    front_leaves (λ (v : back.View). AreFetched (terms_of config v) (before ++ lines_at w FrontMoves)) w (front_turn w)
    (outside_fetched config w before (lines_at w FrontMoves) (front_outsiders w.back.stage w (front_turn w) refl) s)
fetched_happens config w BackMoves before s = back_fetches config w before (back_turn w Took) refl s
fetched_happens config w (JobMoves number outcome) before s =
    job_terms config w (before ++ job_shows w number (job_turn w number outcome)) number (job_turn w number outcome) (job_fetches (terms_of config w.back) w before number outcome (job_turn w number outcome) refl s.fetched)
fetched_happens config w (BackAttaches shape grefs port) before s = attached_fetches config w before shape grefs port s
fetched_happens config w (BackHalts why) before s = halted_fetches config w before why s
fetched_happens config w Suspends before s = suspend_cases (λ (v : World) (shown : List Line). AreFetched (terms_of config v.back) (before ++ shown)) w (λ may. suspended_fetched config w before) (no_fetch (terms_of config w.back) before s.fetched)
fetched_happens config w h before s = outside_fetched config w before (lines_at w h) (beside_outsiders w h tt) s

pub stand_happens : (config : Options) (w : World) (h : Happening) (before : List Line) → Stand config before w → reads_of (before ++ lines_at w h) < 2 ^ 64 → Stand config (before ++ lines_at w h) (happens w h)
stand_happens config w h before s few = record {
  ring = follows_happens config.start w h before s.keeps_none s.silent (earlier_pages w s.safe) s.ring;
  standing = stands_happen w h before s.keeps_none s.silent s.standing;
  safe = safe_happens w h s.safe;
  keeps_none = (goes_as_without w h s.keeps_none s.silent).keeps_none;
  silent = (goes_as_without w h s.keeps_none s.silent).silent;
  tells = tells_happens config w h before s few;
  fetched = fetched_happens config w h before s;
}

begin_rule : (config : Options) (detail : Detail) → IsRule [] (lines.Begin config detail)
begin_rule config detail = record { step = tt; moved = tt; effect = no_effect [] (lines.Begin config detail) refl refl }

pub stand_start : (config : Options) (detail : Detail) → config.indirect ≤ 960 → Stand config (lines.Begin config detail ∷ []) (start_of config)
stand_start config detail room = record {
  ring = record { follows = follows_begin config detail; told = refl; begins = refl };
  standing = refl;
  safe = safe_start config;
  keeps_none = refl;
  silent = refl;
  tells = new_tells config (lines.Begin config detail ∷ []) (back.start_of config)
      (record { obeys = obeys_more IsRule [] (lines.Begin config detail) (obeys_none IsRule) (begin_rule config detail); keeping = refl; told = refl })
      refl refl room refl (λ k. refl);
  fetched = nothing_fetched (terms_of config (back.start_of config)) (lines.Begin config detail ∷ []) refl refl;
}

report_stands : (config : Options) (detail : Detail) (history : List Happening) → config.indirect ≤ 960 → reads_of (report_of config detail history) < 2 ^ 64 → Stand config (report_of config detail history) (after history (start_of config))
report_stands config detail history room few = kept_after (Stand config) (stand_happens config) history (start_of config) (lines.Begin config detail ∷ []) (stand_start config detail room) few

pub report_rules : (config : Options) (detail : Detail) (history : List Happening) → config.indirect ≤ 960 → reads_of (report_of config detail history) < 2 ^ 64 → Obeys IsRule (report_of config detail history)
report_rules config detail history room few = (report_stands config detail history room few).tells.tale.obeys

pub ended_rules : (config : Options) (detail : Detail) (history : List Happening) → config.indirect ≤ 960 → reads_of (report_of config detail history) < 2 ^ 64 → Obeys IsRule (ended_report_of config detail history)
ended_rules config detail history room few =
    let t : Tells config (report_of config detail history) (let w : World = after history (start_of config) in w.back) = (report_stands config detail history room few).tells in
    obeys_more IsRule (report_of config detail history) lines.End t.tale.obeys (record { step = tt; moved = tt; effect = no_effect (report_of config detail history) lines.End t.quiet refl })

pub steps_of : (ls : List Line) → Obeys IsRule ls → AreSteps ls
steps_of ls obeys before rest line e = (obeys before rest line e).step

pub data_of : (ls : List Line) → Obeys IsRule ls → AreData ls
data_of ls obeys before rest line e = (obeys before rest line e).moved

pub effects_of : (ls : List Line) → Obeys IsRule ls → AreEffects ls
effects_of ls obeys before rest line e = (obeys before rest line e).effect
