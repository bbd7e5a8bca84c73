-- Whatever happens from the start, jobs unmap only what they made, and nothing is left to them but what they have in their hands.
use Rattle.std.proofs.Common.{◌≡◌, ℕ, ◌+◌, ◌<◌, ◌≤◌, ◌^◌, Bool, true, false, if◌then◌else◌, List, [], ◌∷◌, ◌++◌, length, refl, ap, sym, ◌∙◌, subst, append-nil, arith}
use Rattle.std.specs.Prelude.{Option, Some, None, is_some, slice_get}
use Rattle.std.specs.List.{AllByRecursion}
use Rattle.blk_base.specs.Options.{Options}
use Rattle.blk_base.specs.declared.parts.Mapping.{Mapping}
use Rattle.blk_base.specs.declared.moves.BackMover.TheVariants as mover
use Rattle.blk_base.specs.declared.moves.Mover.TheVariants as who
use Rattle.blk_base.specs.declared.ask.BackAsk.TheVariants as ask
use Rattle.hypervisor.specs.Act.{FrontAct, BackAct, Outcome, Took, back_act}
use Rattle.schedule_text.specs.declared.line.Line.{Line}
use Rattle.schedule_text.specs.declared.line.Line.TheVariants as lines
use Rattle.schedule_text.specs.declared.line.Detail.{Detail}
use Rattle.report_rules.specs.Obeys.{Obeys}
use Rattle.report_rules.specs.Standing.{this_epoch}
use Rattle.report_rules.specs.Made.{left_to}
use Rattle.ring_laws.proofs.BackReads.{reads_of}
use Rattle.ring_laws.specs.Unmaps.{AreUnmaps}
use Rattle.ring_laws.specs.Own.{AreOwn}
use Rattle.report_rules.proofs.Obeys.{obeys_none, obeys_more}
use Rattle.back_jobs.specs.Work.{Work}
use Rattle.back_jobs.specs.Jobs.{ask_job, place_of, work_of, waits, mapping_at}
use Rattle.back_jobs.proofs.Hands.{IsAmong, place_among}
use Rattle.blk_back.specs.Ask.{ask_of}
use Rattle.blk_base.specs.declared.halt.Halt.{Halt}
use Rattle.blk_back.specs.View as back
use Rattle.blk_back.specs.Step as back_step
use Rattle.split_model.specs.World.{World, start_of, suspended}
use Rattle.split_model.specs.Happening.{Happening, FrontMoves, BackMoves, JobMoves, BackAttaches, BackHalts, Suspends, layout_read, happens, lines_at, after, front_after, front_shows, back_after, back_shows, job_after, job_shows, front_turn, back_turn, job_turn}
use Rattle.split_model.specs.Report.{report_of, ended_report_of}
use Rattle.split_model.specs.Shown.{back_lines, halt_lines}
use Rattle.split_model.proofs.SafeAnswers.{backs_of}
use Rattle.split_model.proofs.Attaching.{attach_cases}
use Rattle.split_model.proofs.Suspending.{suspend_cases, begun_back, gone_back, back_cases}
use Rattle.ring_laws.proofs.Epochs.{new_made, epoch_made}
use Rattle.ring_laws.proofs.Outsiders.{front_outsiders, outsiders_calm, beside_outsiders}
use Rattle.ring_laws.proofs.Knows.{Follows}
use Rattle.ring_laws.proofs.Free.{job_running}
use Rattle.ring_laws.proofs.Began.{Terms, IsJobOf}
use Rattle.ring_laws.proofs.Lists.{all_second, all_more}
use Rattle.ring_laws.proofs.Works.{AreJobs}
use Rattle.ring_laws.proofs.BackChange.{Changed, change_at}
use Rattle.ring_laws.proofs.BackTells.{told_none}
use Rattle.ring_laws.proofs.Halting.{Stops, stops_cases}
use Rattle.ring_laws.proofs.Tells.{terms_of, small_number}
use Rattle.ring_laws.proofs.Standings.{in_hand}
use Rattle.ring_laws.proofs.Runs.{FollowsTo}
use Rattle.ring_laws.proofs.After.{kept_after}
use Rattle.ring_laws.proofs.JobRuns.{Stand, stand_start, stand_happens}
use Rattle.ring_laws.proofs.Makers.{Holds, IsMine, open_more}
use Rattle.ring_laws.proofs.MakerLines.{key_calm, calm_quiet, calm_open, halt_calm, told_calm, Does, back_does, serving_asks}
use Rattle.ring_laws.proofs.MakerTurns.{IsMadeBy, Made, made_aside, quiet_hands, changed_hands, HandStands, Turned, job_turned, all_by_place}
use Rattle.ring_laws.proofs.EntryWords.{entry_values}

no_lines : (before : List Line) (v : back.View) → Made before v → Made (before ++ []) v
no_lines before v m = subst (λ (ls : List Line). Made ls v) (sym (append-nil before)) m

front_made : (w : World) (before : List Line) (act : Option FrontAct) → front_turn w ≡ act → Made before w.back → (let n : World = front_after w act in Made (before ++ front_shows w act) n.back)
front_made w before None e m = no_lines before w.back m
front_made w before (Some a) e m = made_aside before (front_shows w (Some a)) w.back (outsiders_calm w.back.stage (front_shows w (Some a)) (front_outsiders w.back.stage w (Some a) e)) m

first_numbers : (terms : Terms) (values : List ℕ) (epoch : List Line) (fetched : ℕ) (works : List Work) → AreJobs terms values epoch fetched works → AllByRecursion (λ (t : Work). 1 ≤ t.number) works
first_numbers terms values epoch fetched works jobs = all_more (IsJobOf terms values epoch) (λ (t : Work). 1 ≤ t.number) works (λ t j. j.first) jobs.each

back_made : (config : Options) (w : World) (before : List Line) (o : Outcome) (act : Option BackAct) → Stand config before w → Stand config (before ++ back_shows w act) (back_after w act) → back_turn w o ≡ act → Made before w.back → (let n : World = back_after w act in Made (before ++ back_shows w act) n.back)
back_made config w before o None s t e m = no_lines before w.back m
back_made config w before o (Some a) s t e m =
    let v : back.View = w.back in
    let new : back.View = back_step.step_of w.back a.answer in
    let f : FollowsTo config.start before w = s.ring in
    let g : Follows config.start [] before w.back = f.follows in
    let c : Changed (length g.sight.values) w.back (back_step.step_of w.back a.answer) = change_at v.stage v g.sight a.answer g.knows (told_none v.told f.told) in
    let d : Does (ask_of w.back) a = back_does w.under (ask_of w.back) o a (backs_of w.back) e in
    let rest = told_calm new.told a.answer v.halted new.halted in
    let made : Made (before ++ back_shows w (Some a)) (back_step.step_of w.back a.answer) = record {
      obeys = open_more before (back_shows w (Some a)) (d.allowed, calm_open (back_lines new.told a.answer ++ halt_lines v.halted new.halted) rest) m.obeys;
      hands = λ runs.
          let jobs : AreJobs (terms_of config new) (entry_values (before ++ back_shows w (Some a))) (this_epoch (before ++ back_shows w (Some a))) new.fetched new.jobs.works = t.tells.jobs runs in
          let small : v.fetched < 2 ^ 64 = small_number v.stage v g.sight g.knows (c.running runs) in
          quiet_hands before (back_shows w (Some a)) new.jobs.works (d.quiet (serving_asks v.stage v g.sight g.knows (c.running runs)), calm_quiet (back_lines new.told a.answer ++ halt_lines v.halted new.halted) rest)
          (changed_hands (length g.sight.values) (this_epoch before) v new c.change runs small (s.tells.unseen (v.fetched + 1) (omega arith)) (first_numbers (terms_of config new) _ _ new.fetched new.jobs.works jobs) (m.hands (c.running runs)));
    } in
    record { obeys = made.obeys; hands = made.hands }

job_made : (config : Options) (w : World) (before : List Line) (k : ℕ) (o : Outcome) (act : Option BackAct) → job_turn w k o ≡ act → Stand config before w → Stand config (before ++ job_shows w k act) (job_after w k act) → Made before w.back → (let n : World = job_after w k act in Made (before ++ job_shows w k act) n.back)
job_made config w before k o None e old s m = no_lines before w.back m
job_made config w before k o (Some a) e old s m =
    let v : back.View = w.back in
    let n : World = job_after w k (Some a) in
    let running : is_some v.halted ≡ false = job_running (is_some v.halted) w.under k (ask_job v.jobs k) o a e in
    let asks = ap (λ (b : Bool). back_act w.under (mover.Job k) (if b then ask.Wait else ask_job v.jobs k) o) (sym running) ∙ e in
    let stands : AllByRecursion (HandStands (before ++ job_shows w k (Some a))) n.back.jobs.works = all_by_place (HandStands (before ++ job_shows w k (Some a))) n.back.jobs.works
    (λ i t found x is. in_hand (before ++ job_shows w k (Some a)) n.under.grants n.back i t x s.standing s.safe.held found is) in
    let jobs : AreJobs (terms_of config v) (entry_values before) (this_epoch before) v.fetched v.jobs.works = old.tells.jobs running in
    let turned : Turned before (job_shows w k (Some a)) n.back.jobs.works = job_turned before w.under v.jobs.works k o a (place_of v.jobs.works k) (waits v.jobs.works k) (work_of v.jobs.works k) refl refl asks m.obeys jobs.apart (m.hands running) stands in
    record { obeys = turned.obeys; hands = λ runs. turned.hands }

-- a back that halts holds nothing that a job made
halted_made : (config : Options) (w : World) (before : List Line) (why : Halt) → Stand config before w → Made before w.back → (let n : World = happens w (BackHalts why) in Made (before ++ lines_at w (BackHalts why)) n.back)
halted_made config w before why s m = stops_cases (λ (new : back.View). Made (before ++ halt_lines w.back.halted new.halted) new) why w.back f.sight f.knows stops (made w.back.halted)
  where
    f : Follows config.start [] before w.back
    f = s.ring.follows

    made : (now : Option Halt) → Made (before ++ halt_lines w.back.halted now) w.back
    made now = made_aside before (halt_lines w.back.halted now) w.back (halt_calm w.back.halted now) m

    stops : (new : back.View) → Stops f.sight why w.back new → Made (before ++ halt_lines w.back.halted new.halted) new
    stops new p = let over : is_some new.halted ≡ true = p.over in let t : Made (before ++ halt_lines w.back.halted new.halted) w.back = made new.halted in record { obeys = t.obeys; hands = λ runs. absurd (cc) }

-- a back that begins in a new epoch holds none either
suspended_made : (w : World) (before : List Line) → Made before w.back → (let v : World = suspended w in Made (before ++ lines.Epoch ∷ []) v.back)
suspended_made w before m = back_cases (λ (b : back.View). Made (before ++ lines.Epoch ∷ []) b) w (epoch_made before w.back (begun_back w) m refl) (epoch_made before w.back (gone_back w) m refl)

-- one happening keeps it
pub made_happens : (config : Options) (w : World) (h : Happening) (before : List Line) → Stand config before w → Stand config (before ++ lines_at w h) (happens w h) → Made before w.back → (let n : World = happens w h in Made (before ++ lines_at w h) n.back)
made_happens config w FrontMoves before s t m = front_made w before (front_turn w) refl m
made_happens config w BackMoves before s t m = back_made config w before Took (back_turn w Took) s t refl m
made_happens config w (JobMoves number outcome) before s t m = job_made config w before number outcome (job_turn w number outcome) refl s t m
made_happens config w (BackAttaches shape grefs port) before s t m =
    attach_cases (λ (new : back.View) (shown : List Line). Made (before ++ shown) new) w shape grefs port
    (λ may layout says. let now : Made (before ++ lines.Move (layout_read w) ∷ []) w.back = made_aside before (lines.Move (layout_read w) ∷ []) w.back (key_calm who.Back (layout_read w) refl, tt) m in record { obeys = now.obeys; hands = now.hands }) (no_lines before w.back m)
made_happens config w (BackHalts why) before s t m = halted_made config w before why s m
made_happens config w Suspends before s t m = suspend_cases (λ (v : World) (shown : List Line). Made (before ++ shown) v.back) w (λ may. suspended_made w before m) (no_lines before w.back m)
made_happens config w h before s t m = made_aside before (lines_at w h) w.back (outsiders_calm w.back.stage (lines_at w h) (beside_outsiders w h tt)) m

pub made_start : (config : Options) (detail : Detail) → (let w : World = start_of config in Made (lines.Begin config detail ∷ []) w.back)
made_start config detail = new_made (lines.Begin config detail ∷ []) (back.start_of config) (obeys_more IsMine [] (lines.Begin config detail) (obeys_none IsMine) (record { unmap = tt; touch = tt })) refl

-- nothing is left to a job whose hand is empty
pub hand_empty : (before : List Line) (v : back.View) → Made before v → is_some v.halted ≡ false → (place : ℕ) (t : Work) → slice_get v.jobs.works place ≡ Some t → mapping_at t.stage ≡ None → left_to t.number (this_epoch before) ≡ []
hand_empty before v m runs place t is empty =
    let among : IsAmong v.jobs.works place t = place_among v.jobs.works place t is in
    let parts : AllByRecursion (IsMadeBy (this_epoch before)) (among.front ++ t ∷ among.rest) = subst (λ (ws : List Work). AllByRecursion (IsMadeBy (this_epoch before)) ws) among.is (m.hands runs) in
    subst (λ (o : Option Mapping). Holds o (left_to t.number (this_epoch before))) empty (all_second (IsMadeBy (this_epoch before)) among.front (t ∷ among.rest) parts).0

-- all that the lines so far tell of what jobs made
record StandMade (config : Options) (before : List Line) (w : World) : Type 0 where
  stand : Stand config before w
  made : Made before w.back

stand_made_happens : (config : Options) (w : World) (h : Happening) (before : List Line) → StandMade config before w → reads_of (before ++ lines_at w h) < 2 ^ 64 → StandMade config (before ++ lines_at w h) (happens w h)
stand_made_happens config w h before s few =
    let t : Stand config (before ++ lines_at w h) (happens w h) = stand_happens config w h before s.stand few in
    record { stand = t; made = made_happens config w h before s.stand t s.made }

report_made : (config : Options) (detail : Detail) (history : List Happening) → config.indirect ≤ 960 → reads_of (report_of config detail history) < 2 ^ 64 → Obeys IsMine (report_of config detail history)
report_made config detail history room few =
    let all : StandMade config (report_of config detail history) (after history (start_of config)) = kept_after (StandMade config) (stand_made_happens config) history (start_of config) (lines.Begin config detail ∷ []) (record { stand = stand_start config detail room; made = made_start config detail }) few in
    let made : Made (report_of config detail history) (let w : World = after history (start_of config) in w.back) = all.made in
    made.obeys

ended_made : (config : Options) (detail : Detail) (history : List Happening) → config.indirect ≤ 960 → reads_of (report_of config detail history) < 2 ^ 64 → Obeys IsMine (ended_report_of config detail history)
ended_made config detail history room few = obeys_more IsMine (report_of config detail history) lines.End (report_made config detail history room few) (record { unmap = tt; touch = tt })

unmaps_of : (ls : List Line) → Obeys IsMine ls → AreUnmaps ls
unmaps_of ls obeys before rest line e = (obeys before rest line e).unmap

own_of : (ls : List Line) → Obeys IsMine ls → AreOwn ls
own_of ls obeys before rest line e = (obeys before rest line e).touch

pub report_unmaps : (config : Options) (detail : Detail) (history : List Happening) → config.indirect ≤ 960 → reads_of (report_of config detail history) < 2 ^ 64 → AreUnmaps (report_of config detail history)
report_unmaps config detail history room few = unmaps_of _ (report_made config detail history room few)

pub ended_unmaps : (config : Options) (detail : Detail) (history : List Happening) → config.indirect ≤ 960 → reads_of (report_of config detail history) < 2 ^ 64 → AreUnmaps (ended_report_of config detail history)
ended_unmaps config detail history room few = unmaps_of _ (ended_made config detail history room few)

pub report_own : (config : Options) (detail : Detail) (history : List Happening) → config.indirect ≤ 960 → reads_of (report_of config detail history) < 2 ^ 64 → AreOwn (report_of config detail history)
report_own config detail history room few = own_of _ (report_made config detail history room few)

pub ended_own : (config : Options) (detail : Detail) (history : List Happening) → config.indirect ≤ 960 → reads_of (report_of config detail history) < 2 ^ 64 → AreOwn (ended_report_of config detail history)
ended_own config detail history room few = own_of _ (ended_made config detail history room few)
