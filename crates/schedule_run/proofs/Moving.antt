-- What a move of the machine makes happen, by what its calls say.
use Rattle.split_model.specs.Keys.{front_path}
use Rattle.std.proofs.Common.{◌≡◌, Bool, true, false, true≢false, not, ◌||◌, if◌then◌else◌, ℕ, ◌+◌, ◌<◌, ◌≤◌, ◌^◌, length, List, [], ◌∷◌, ◌++◌, Option, Some, None, Result, Ok, Err, refl, ap, sym, ◌∙◌, subst, arith}
use Rattle.std.proofs.lemmas.List.{append-nil}
use Rattle.std.proofs.lemmas.Option.{none-some, same_Some}
use Rattle.blk_base.specs.declared.ask.FrontAsk.TheVariants as front_asks
use Rattle.blk_base.specs.declared.ask.FrontAnswer.{FrontAnswer}
use Rattle.blk_base.specs.declared.ask.BackAnswer.{BackAnswer}
use Rattle.blk_base.specs.declared.ask.FrontAsk.{FrontAsk}
use Rattle.blk_base.specs.declared.ask.BackAsk.{BackAsk}
use Rattle.blk_base.specs.declared.moves.BackMover.TheVariants.{Back}
use Rattle.blk_base.specs.declared.moves.Move.{Move as Shown}
use Rattle.blk_io.specs.Disk.{DiskSeen}
use Rattle.schedule_text.specs.declared.line.Line.{Line}
use Rattle.schedule_text.specs.declared.line.Line.TheVariants.{Move}
use Rattle.schedule_text.specs.declared.recorder.RecordStop.{RecordStop}
use Rattle.schedule_text.specs.Recorder.{RecorderSeen, Gained, StopsAmong, Adds}
use Rattle.schedule_text.proofs.Adding.{gained_none}
use Rattle.hypervisor.specs.Hypervisor.{Hypervisor}
use Rattle.blk_base.specs.declared.parts.End.TheVariants as end
use Rattle.hypervisor.specs.Act.{FrontAct, BackAct, Outcome, Took, IsGiven, front_act, front_seen, front_under, back_act, back_seen, back_under, outcome_told, key_set}
use Rattle.event_channel.specs.Channels.{is_pending}
use Rattle.key_directory.specs.Watches.{is_empty_list, first_of}
use Rattle.blk_base.specs.declared.ask.BackAsk.TheVariants as back_asks
use Rattle.blk_back.specs.Ask.{is_wait}
use Rattle.hypervisor.specs.Act.{has_to_take, back_watched}
use Rattle.hypervisor.specs.Disk.{DiskDoes}
use Rattle.hypervisor.specs.May.{FrontMay, BackMay, FrontTakesMemory, BackTakesMemory}
use Rattle.back_jobs.specs.Hands.{Names}
use Rattle.blk_back.specs.Hands.{hands_of, most_held}
use Rattle.blk_back.specs.declared.told.BackTold.{BackTold}
use Rattle.xenbus_state.specs.FrontView.{FrontView}
use Rattle.xenbus_state.specs.declared.front.FrontNews.{FrontNews}
use Rattle.schedule_text.specs.declared.recorder.RecordStop.TheVariants.{OutOfMemory}
use Rattle.blk_base.specs.declared.halt.Halt.{Halt}
use Rattle.xenbus_state.specs.BackView.{BackView}
use Rattle.xenbus_state.specs.declared.back.BackBusAsk.{BackBusAsk}
use Rattle.xenbus_state.specs.declared.back.BackBusAsk.TheVariants as back_ask
use Rattle.split_model.specs.Shown.{front_lines, back_lines, halt_lines}
use Rattle.split_model.proofs.Keeping.{no_call}
use Rattle.split_model.proofs.Moving.{no_disk}
use Rattle.split_model.proofs.SafeActs.{back_event}
use Rattle.split_model.proofs.SafeFront.{entered_kept}
use Rattle.blk_front.specs.declared.state.FrontState.TheVariants.{Closing}
use Rattle.blk_front.specs.declared.told.Told.{Told}
use Rattle.vbd_front.specs.View as front_view
use Rattle.vbd_front.specs.Ask as front
use Rattle.vbd_front.specs.Step as front_step
use Rattle.vbd_back.specs.View as back_view
use Rattle.vbd_back.specs.Ask as back
use Rattle.vbd_back.specs.Step as back_step
use Rattle.split_model.specs.World as rings
use Rattle.split_model.specs.Happening as ring
use Rattle.split_model.specs.Happening.{is_guest_word, is_guest_key}
use Rattle.xen_pages.specs.Pages.{with_word}
use Rattle.hypervisor.specs.Act.{with_pages}
use Rattle.split_model.specs.Leads as ring_leads
use Rattle.vbd_model.specs.World.{World, frontend_of, backend_of}
use Rattle.vbd_model.specs.Fit.{IsFit}
use Rattle.vbd_model.specs.Happening.{Happening, FrontMoves, BackMoves, JobMoves, Closes, Dumps, does, front_turn, back_turn, front_bus, back_bus, happens, lines_at, DiskGoes, OverwritesKey}
use Rattle.vbd_model.specs.Kind.{IsJobMove}
use Rattle.vbd_model.specs.Leads.{moment, Goes, Is}
use Rattle.vbd_model.specs.Mappings.{mappings_in, mappings_of}
use Rattle.vbd_model.proofs.Mappings.{cost_of, ring_left, back_comes}
use Rattle.vbd_model.proofs.Running.{goes_one, goes_lacking}
use Rattle.vbd_laws.proofs.Fit.{fit_happens}
use Rattle.vbd_laws.proofs.MovesFront.{front_move_is, front_move_none, close_is}
use Rattle.vbd_laws.proofs.MovesBack.{back_move_is, back_move_none}
use Rattle.vbd_laws.proofs.MovesMay.{front_asks_may, back_asks_may}
use Rattle.schedule_run.specs.Inside.{HasHeard}
use Rattle.schedule_run.specs.Following.{Follows, frontend_lines}
use Rattle.vbd_model.specs.News.{news_lines}
use Rattle.vbd_model.proofs.Keeping.{sectors_kept}

-- one thing happened to the machine, and its lines were given to the recorder
pub goes_here : (kind so_far : List Happening → Type 0) (n : ℕ) (h : Happening) (w v : World) (a b : DiskSeen) (r s : RecorderSeen) (result : Result (Unit {0}) RecordStop) → kind (h ∷ []) → so_far (h ∷ []) → v ≡ happens w h → mappings_of v ≤ mappings_of w + n → v.rings.back.jobs.info.sectors ≡ w.rings.back.jobs.info.sectors → DiskGoes w h a b → Adds (lines_at w h) result r s → Goes kind so_far n result (moment w a r) (moment v b s)
goes_here kind so_far n h w v a b r s result is far world made sectors disk told =
    goes_one kind so_far n h result (moment w a r) (moment v b s) is far world made sectors disk told

-- What is one happening of the ring's machine: what it made of that, and its lines.
pub record RingsWent (x : ring.Happening) (result : Result (Unit {0}) RecordStop) (w v : rings.World) (a b : DiskSeen) (r s : RecorderSeen) : Type 0 where
  pub world : v ≡ ring.happens w x
  pub disk : ring.DiskGoes w x a b
  pub told : Adds (ring.lines_at w x) result r s

whole_rings : (x : ring.Happening) (w v : rings.World) (a b : DiskSeen) (r s : RecorderSeen) (hs : List ring.Happening) → hs ≡ x ∷ [] → v ≡ ring.after hs w → ring.DiskRuns hs w a b → Gained (ring.lines_of hs w) r s → RingsWent x (Ok tt) w v a b r s
whole_rings x w v a b r s hs is world disk told =
    let runs : ring.DiskRuns (x ∷ []) w a b = subst (λ (l : List ring.Happening). ring.DiskRuns l w a b) is disk in
    record {
      world = world ∙ ap (λ (l : List ring.Happening). ring.after l w) is;
      disk = subst (λ (d : DiskSeen). ring.DiskGoes w x a d) (sym runs.2) runs.1;
      told = subst (λ (l : List Line). Gained l r s) (append-nil (ring.lines_at w x)) (subst (λ (l : List ring.Happening). Gained (ring.lines_of l w) r s) is told);
    }

-- the last of one is that one
alone_last : (x last : ring.Happening) (history : List ring.Happening) → history ++ last ∷ [] ≡ x ∷ [] → (history ≡ []) × (last ≡ x)
alone_last x last [] e = (refl, first_same e)
  where
    first_of : List ring.Happening → ring.Happening
    first_of [] = x
    first_of (y ∷ ys) = y

    first_same : last ∷ [] ≡ x ∷ [] → last ≡ x
    first_same same = ap first_of same
alone_last x last (y ∷ []) e = absurd (cc)
alone_last x last (y ∷ z ∷ ys) e = absurd (cc)

cut_rings : (x : ring.Happening) (stop : RecordStop) (w v : rings.World) (a b : DiskSeen) (r s : RecorderSeen) (history : List ring.Happening) (last : ring.Happening) → history ≡ [] → last ≡ x → v ≡ ring.after (history ++ last ∷ []) w → ring.DiskRuns (history ++ last ∷ []) w a b → StopsAmong (ring.lines_of history w) (ring.lines_at (ring.after history w) last) stop r s → RingsWent x (Err stop) w v a b r s
cut_rings x stop w v a b r s history last none same world disk told =
    let this : history ++ last ∷ [] ≡ x ∷ [] = rw (none, same) refl in
    let runs : ring.DiskRuns (x ∷ []) w a b = subst (λ (l : List ring.Happening). ring.DiskRuns l w a b) this disk in
    record {
      world = world ∙ ap (λ (l : List ring.Happening). ring.after l w) this;
      disk = subst (λ (d : DiskSeen). ring.DiskGoes w x a d) (sym runs.2) runs.1;
      told = subst (λ (l : List ring.Happening). StopsAmong (ring.lines_of l w) (ring.lines_at (ring.after l w) x) stop r s) none (subst (λ (h : ring.Happening). StopsAmong (ring.lines_of history w) (ring.lines_at (ring.after history w) h) stop r s) same told);
    }

rings_went : (x : ring.Happening) (result : Result (Unit {0}) RecordStop) (w v : rings.World) (a b : DiskSeen) (r s : RecorderSeen) → ring_leads.Ends (ring_leads.Is (x ∷ [])) (ring_leads.Is (x ∷ [])) result (ring_leads.moment w a r) (ring_leads.moment v b s) → RingsWent x result w v a b r s
rings_went x (Ok tt) w v a b r s p = whole_rings x w v a b r s p.history p.is_kind p.world p.disk p.told
rings_went x (Err stop) w v a b r s p =
    let one = alone_last x p.last p.history p.is_kind in
    cut_rings x stop w v a b r s p.history p.last one.0 one.1 p.world p.disk p.told

-- a machine whose ring's part alone has moved
abbrev pub with_rings : World → rings.World → World
with_rings w v = record { rings = v; front = w.front; back = w.back }

rings_lines : (x : ring.Happening) (w : rings.World) → ring.lines_at w x ≡ ring.lines_of (x ∷ []) w
rings_lines x w = sym (append-nil (ring.lines_at w x))

-- what happened to the ring's machine alone happened to the whole
pub rings_alone : (kind so_far : List Happening → Type 0) (m n : ℕ) (h : Happening) (x : ring.Happening) (w : World) (v : rings.World) (a b : DiskSeen) (r s : RecorderSeen) (result : Result (Unit {0}) RecordStop) → kind (h ∷ []) → so_far (h ∷ []) → does w h ≡ x ∷ [] → front_bus w h ≡ w.front → back_bus w h ≡ w.back → mappings_in (ring.happens w.rings x) ≤ mappings_in w.rings + n → ring_leads.Goes (ring_leads.Is (x ∷ [])) (ring_leads.Is (x ∷ [])) m result (ring_leads.moment w.rings a r) (ring_leads.moment v b s) → Goes kind so_far n result (moment w a r) (moment (with_rings w v) b s)
rings_alone kind so_far m n h x w v a b r s result is far does_it front back few p =
    let went = rings_went x result w.rings v a b r s p.ends in
    let keeps = p.keeps in
    goes_here kind so_far n h w (with_rings w v) a b r s result is far
    (rw (does_it, front, back, went.world) refl) (subst (λ (u : rings.World). mappings_in u ≤ mappings_in w.rings + n) (sym went.world) few) keeps.sectors
    (subst (λ (l : List ring.Happening). ring.DiskRuns l w.rings a b) (sym does_it) (b, went.disk, refl))
    (subst (λ (l : List ring.Happening). Adds (ring.lines_of l w.rings) result r s) (sym does_it) (subst (λ (l : List Line). Adds l result r s) (rings_lines x w.rings) went.told))

-- so with a move of a job
ok_job : (k n : ℕ) (w v : rings.World) (a b : DiskSeen) (r s : RecorderSeen) → ring_leads.Goes (ring_leads.IsJobMove k) (ring_leads.IsJobMove k) n (Ok tt) (ring_leads.moment w a r) (ring_leads.moment v b s) → (outcome : Outcome) × IsGiven outcome × ring_leads.Goes (ring_leads.Is (ring.JobMoves k outcome ∷ [])) (ring_leads.Is (ring.JobMoves k outcome ∷ [])) n (Ok tt) (ring_leads.moment w a r) (ring_leads.moment v b s)
ok_job k n w v a b r s p =
    let e = p.ends in
    (e.is_kind.0, e.is_kind.2, record { ends = record { history = e.history; is_kind = e.is_kind.1; world = e.world; disk = e.disk; told = e.told }; keeps = p.keeps })

err_job : (k n : ℕ) (stop : RecordStop) (w v : rings.World) (a b : DiskSeen) (r s : RecorderSeen) → ring_leads.Goes (ring_leads.IsJobMove k) (ring_leads.IsJobMove k) n (Err stop) (ring_leads.moment w a r) (ring_leads.moment v b s) → (outcome : Outcome) × IsGiven outcome × ring_leads.Goes (ring_leads.Is (ring.JobMoves k outcome ∷ [])) (ring_leads.Is (ring.JobMoves k outcome ∷ [])) n (Err stop) (ring_leads.moment w a r) (ring_leads.moment v b s)
err_job k n stop w v a b r s p =
    let e = p.ends in
    (e.is_kind.0, e.is_kind.2, record { ends = record { history = e.history; last = e.last; is_kind = e.is_kind.1; world = e.world; disk = e.disk; told = e.told }; keeps = p.keeps })

pub job_alone : (k n : ℕ) (w : World) (v : rings.World) (a b : DiskSeen) (r s : RecorderSeen) (result : Result (Unit {0}) RecordStop) → ring_leads.Goes (ring_leads.IsJobMove k) (ring_leads.IsJobMove k) n result (ring_leads.moment w.rings a r) (ring_leads.moment v b s) → Goes (IsJobMove k) (IsJobMove k) 0 result (moment w a r) (moment (with_rings w v) b s)
job_alone k n w v a b r s (Ok tt) p =
    let o = ok_job k n w.rings v a b r s p in
    rings_alone (IsJobMove k) (IsJobMove k) n 0 (JobMoves k o.0) (ring.JobMoves k o.0) w v a b r s (Ok tt) (o.0, refl, o.1) (o.0, refl, o.1) refl refl refl (ring_left w.rings (ring.JobMoves k o.0)) o.2
job_alone k n w v a b r s (Err stop) p =
    let o = err_job k n stop w.rings v a b r s p in
    rings_alone (IsJobMove k) (IsJobMove k) n 0 (JobMoves k o.0) (ring.JobMoves k o.0) w v a b r s (Err stop) (o.0, refl, o.1) (o.0, refl, o.1) refl refl refl (ring_left w.rings (ring.JobMoves k o.0)) o.2

-- a line was said of the machine as it stands
pub said_goes : (h : Happening) (x : ring.Happening) (w : World) (c : DiskSeen) (r s : RecorderSeen) (result : Result (Unit {0}) RecordStop) (line : Line) → does w h ≡ x ∷ [] → w ≡ happens w h → ring.DiskGoes w.rings x c c → line ∷ [] ≡ ring.lines_at w.rings x → Adds (line ∷ []) result r s → Goes (Is (h ∷ [])) (Is (h ∷ [])) 0 result (moment w c r) (moment w c s)
said_goes h x w c r s result line does_it world disk said shown =
    goes_here (Is (h ∷ [])) (Is (h ∷ [])) 0 h w w c c r s result refl refl world (omega arith) refl
    (subst (λ (l : List ring.Happening). ring.DiskRuns l w.rings c c) (sym does_it) (c, disk, refl))
    (subst (λ (l : List ring.Happening). Adds (ring.lines_of l w.rings) result r s) (sym does_it) (subst (λ (l : List Line). Adds l result r s) (said ∙ rings_lines x w.rings) shown))

-- The front. Its act, as it was seen.
front_saw : (h : Hypervisor) (act : Option FrontAct) (seen : FrontAnswer × Shown) (u : Hypervisor) → Some seen ≡ front_seen act → u ≡ front_under h act → (a : FrontAct) × (act ≡ Some a) × (a.answer ≡ seen.0) × (a.shown ≡ seen.1) × (u ≡ a.under)
front_saw h None seen u e under = absurd (none-some seen (sym e))
front_saw h (Some a) seen u e under =
    let same : seen ≡ (a.answer, a.shown) = same_Some seen (a.answer, a.shown) e in
    (a, refl, sym (ap (λ (s : FrontAnswer × Shown). s.0) same), sym (ap (λ (s : FrontAnswer × Shown). s.1) same), under)

front_nothing : (h : Hypervisor) (act : Option FrontAct) (u : Hypervisor) → None ≡ front_seen act → u ≡ front_under h act → (act ≡ None) × (u ≡ h)
front_nothing h None u e under = (refl, under)
front_nothing h (Some a) u e under = absurd (none-some (a.answer, a.shown) e)

-- the machine after a move of the front
abbrev pub front_moved : World → front_view.View → Hypervisor → World
front_moved w f u = record { rings = record { front = f.ring; back = w.rings.back; under = u }; front = f.bus; back = w.back }

front_as : (w : World) (f g : front_view.View) (u h : Hypervisor) → f ≡ g → u ≡ h → front_moved w f u ≡ front_moved w g h
front_as w f g u h same under = rw (same, under) refl

front_said : (x y : front_view.View) (shown move : Shown) → x ≡ y → shown ≡ move → Move shown ∷ frontend_lines y ≡ Move move ∷ frontend_lines x
front_said x y shown move same moved = rw (same, moved) refl

front_happened : (w : World) (ask : FrontAsk) (seen : FrontAnswer × Shown) (x f : front_view.View) (u : Hypervisor) → IsFit w → ask ≡ front.ask_of (frontend_of w) → Some seen ≡ front_seen (front_act w.rings.under ask) → u ≡ front_under w.rings.under (front_act w.rings.under ask) → x ≡ front_step.step_of (frontend_of w) seen.0 → f ≡ front_view.heard x → (front_moved w f u ≡ happens w FrontMoves) × (lines_at w FrontMoves ≡ Move seen.1 ∷ frontend_lines x) × (u.grants.made ≡ w.rings.under.grants.made) × ((d : DiskSeen) → DiskGoes w FrontMoves d d)
front_happened w ask seen x f u fit asked e under stepped taken =
    let act = front_act w.rings.under ask in
    let saw = front_saw w.rings.under act seen u e under in
    let a = saw.0 in
    let turn : front_turn w ≡ Some a = ap (front_act w.rings.under) (sym asked) ∙ saw.1 in
    let is = front_move_is w a fit turn in
    let v : x ≡ front_step.step_of (frontend_of w) a.answer = stepped ∙ ap (front_step.step_of (frontend_of w)) (sym saw.2) in
    (front_as w f (front_view.heard (front_step.step_of (frontend_of w) a.answer)) u a.under (taken ∙ ap front_view.heard v) saw.4 ∙ sym is.world, is.lines ∙ front_said x (front_step.step_of (frontend_of w) a.answer) a.shown seen.1 v saw.3, ap (λ (h : Hypervisor). h.grants.made) saw.4 ∙ is.made, is.disk)

pub front_fit : (w : World) (ask : FrontAsk) (seen : FrontAnswer × Shown) (x f : front_view.View) (u : Hypervisor) → IsFit w → ask ≡ front.ask_of (frontend_of w) → Some seen ≡ front_seen (front_act w.rings.under ask) → u ≡ front_under w.rings.under (front_act w.rings.under ask) → x ≡ front_step.step_of (frontend_of w) seen.0 → f ≡ front_view.heard x → HasHeard f × IsFit (front_moved w f u)
front_fit w ask seen x f u fit asked e under stepped taken =
    let happened = front_happened w ask seen x f u fit asked e under stepped taken in
    (ap (λ (v : front_view.View). v.news) taken, subst IsFit (sym happened.0) (fit_happens w FrontMoves fit))

-- what happened, and its lines
pub front_goes_as : (w : World) (ask : FrontAsk) (seen : FrontAnswer × Shown) (x f : front_view.View) (u : Hypervisor) (c : DiskSeen) (r s : RecorderSeen) (result : Result (Unit {0}) RecordStop) → IsFit w → ask ≡ front.ask_of (frontend_of w) → Some seen ≡ front_seen (front_act w.rings.under ask) → u ≡ front_under w.rings.under (front_act w.rings.under ask) → x ≡ front_step.step_of (frontend_of w) seen.0 → f ≡ front_view.heard x → Adds (Move seen.1 ∷ frontend_lines x) result r s → Goes (Is (FrontMoves ∷ [])) (Is (FrontMoves ∷ [])) 0 result (moment w c r) (moment (front_moved w f u) c s)
front_goes_as w ask seen x f u c r s result fit asked e under stepped taken shown =
    let happened = front_happened w ask seen x f u fit asked e under stepped taken in
    let made = happened.2 in
    goes_here (Is (FrontMoves ∷ [])) (Is (FrontMoves ∷ [])) 0 FrontMoves w (front_moved w f u) c c r s result refl refl
    happened.0 (omega arith) (ap (λ (v : World). v.rings.back.jobs.info.sectors) happened.0 ∙ sectors_kept w FrontMoves) (happened.3 c)
    (subst (λ (l : List Line). Adds l result r s) (sym happened.1) shown)

-- it has no move: nothing happened, and nothing is shown
pub front_rests : (w : World) (ask : FrontAsk) (u : Hypervisor) (c : DiskSeen) (r : RecorderSeen) → IsFit w → ask ≡ front.ask_of (frontend_of w) → None ≡ front_seen (front_act w.rings.under ask) → u ≡ front_under w.rings.under (front_act w.rings.under ask) → Goes (Is (FrontMoves ∷ [])) (Is (FrontMoves ∷ [])) 0 (Ok tt) (moment w c r) (moment (record { rings = record { front = w.rings.front; back = w.rings.back; under = u }; front = w.front; back = w.back }) c r)
front_rests w ask u c r fit asked e under =
    let nothing = front_nothing w.rings.under (front_act w.rings.under ask) u e under in
    let rests = front_move_none w fit (ap (front_act w.rings.under) (sym asked) ∙ nothing.0) in
    rw nothing.1 (goes_here (Is (FrontMoves ∷ [])) (Is (FrontMoves ∷ [])) 0 FrontMoves w w c c r r (Ok tt) refl refl
    (sym rests.world) (omega arith) refl (rests.disk c) (subst (λ (l : List Line). Gained l r r) (sym rests.lines) (gained_none r)))

-- The back. Its act, as it was seen; it calls no disk.
back_saw : (h : Hypervisor) (act : Option BackAct) (seen : BackAnswer × Shown) (u : Hypervisor) → Some seen ≡ back_seen act → u ≡ back_under h act → (a : BackAct) × (act ≡ Some a) × (a.answer ≡ seen.0) × (a.shown ≡ seen.1) × (u ≡ a.under)
back_saw h None seen u e under = absurd (none-some seen (sym e))
back_saw h (Some a) seen u e under =
    let same : seen ≡ (a.answer, a.shown) = same_Some seen (a.answer, a.shown) e in
    (a, refl, sym (ap (λ (s : BackAnswer × Shown). s.0) same), sym (ap (λ (s : BackAnswer × Shown). s.1) same), under)

back_nothing : (h : Hypervisor) (act : Option BackAct) (u : Hypervisor) → None ≡ back_seen act → u ≡ back_under h act → (act ≡ None) × (u ≡ h)
back_nothing h None u e under = (refl, under)
back_nothing h (Some a) u e under = absurd (none-some (a.answer, a.shown) e)

key_no_disk : (a : BackBusAsk) (o : Outcome) (c d : DiskSeen) → DiskDoes (back.key_ask a) o c d → (o ≡ Took) × (d ≡ c)
key_no_disk back_ask.Watch o c d does = no_call o c d does
key_no_disk back_ask.GetState o c d does = no_call o c d does
key_no_disk (back_ask.GetKey key) o c d does = no_call o c d does
key_no_disk (back_ask.SetState s) o c d does = no_call o c d does
key_no_disk (back_ask.SetKey key value) o c d does = no_call o c d does
key_no_disk a o c d does = no_call o c d does

ring_no_disk : (b : Bool) (v : back_view.View) (o : Outcome) (c d : DiskSeen) → DiskDoes (back.ring_ask b v) o c d → (o ≡ Took) × (d ≡ c)
ring_no_disk true v o c d does = no_disk v.ring o c d does
ring_no_disk false v o c d does = no_call o c d does

-- the back itself asks nothing of the disk
pub asks_no_disk : (v : back_view.View) (ask : BackAsk) (o : Outcome) (c d : DiskSeen) → ask ≡ back.ask_of v → DiskDoes ask o c d → (o ≡ Took) × (d ≡ c)
asks_no_disk v ask o c d asked does = by_test (back.bus_moves (back.bus_ask_of v) v.ring.stage) (subst (λ (x : BackAsk). DiskDoes x o c d) asked does)
  where
    by_test : (b : Bool) → DiskDoes (if b then back.key_ask (back.bus_ask_of v) else back.ring_ask (back.ring_moves (back.bus_ask_of v) v.ring.stage) v) o c d → (o ≡ Took) × (d ≡ c)
    by_test true said = key_no_disk (back.bus_ask_of v) o c d said
    by_test false said = ring_no_disk (back.ring_moves (back.bus_ask_of v) v.ring.stage) v o c d said

-- the machine after a move of the back
abbrev pub back_moved : World → back_view.View → Hypervisor → World
back_moved w b u = record { rings = record { front = w.rings.front; back = b.ring; under = u }; front = w.front; back = b.bus }

-- what a call of the back said, with its ask
pub record BackSaid (w : World) (ask : BackAsk) (seen : BackAnswer × Shown) (x b : back_view.View) (u : Hypervisor) (c d : DiskSeen) : Type 0 where
  pub asked : ask ≡ back.ask_of (backend_of w)
  pub seen_so : Some seen ≡ back_seen (back_act w.rings.under Back ask (outcome_told seen.0))
  pub under : u ≡ back_under w.rings.under (back_act w.rings.under Back ask (outcome_told seen.0))
  pub disk : DiskDoes ask (outcome_told seen.0) c d
  pub stepped : x ≡ back_step.step_of (backend_of w) seen.0
  pub taken : b ≡ back_view.heard x

back_as : (w : World) (b c : back_view.View) (u h : Hypervisor) → b ≡ c → u ≡ h → back_moved w b u ≡ back_moved w c h
back_as w b c u h same under = rw (same, under) refl

back_said : (halted : Option Halt) (x y : back_view.View) (a answer : BackAnswer) (shown move : Shown) → x ≡ y → a ≡ answer → shown ≡ move → Move shown ∷ (back_lines y.ring.told a ++ halt_lines halted y.ring.halted) ≡ Move move ∷ (back_lines x.ring.told answer ++ halt_lines halted x.ring.halted)
back_said halted x y a answer shown move same told moved = rw (same, told, moved) refl

back_happened : (w : World) (ask : BackAsk) (seen : BackAnswer × Shown) (x b : back_view.View) (u : Hypervisor) (c d : DiskSeen) → IsFit w → BackSaid w ask seen x b u c d → (back_moved w b u ≡ happens w BackMoves) × (lines_at w BackMoves ≡ Move seen.1 ∷ (back_lines x.ring.told seen.0 ++ halt_lines w.rings.back.halted x.ring.halted)) × ((e : DiskSeen) → DiskGoes w BackMoves e e)
back_happened w ask seen x b u c d fit said =
    let took = asks_no_disk (backend_of w) ask (outcome_told seen.0) c d said.asked said.disk in
    let act = back_act w.rings.under Back ask Took in
    let seen_so : Some seen ≡ back_seen act = subst (λ (o : Outcome). Some seen ≡ back_seen (back_act w.rings.under Back ask o)) took.0 said.seen_so in
    let under : u ≡ back_under w.rings.under act = subst (λ (o : Outcome). u ≡ back_under w.rings.under (back_act w.rings.under Back ask o)) took.0 said.under in
    let saw = back_saw w.rings.under act seen u seen_so under in
    let a = saw.0 in
    let turn : back_turn w ≡ Some a = ap (λ (x : BackAsk). back_act w.rings.under Back x Took) (sym said.asked) ∙ saw.1 in
    let is = back_move_is w a fit turn in
    let v : x ≡ back_step.step_of (backend_of w) a.answer = said.stepped ∙ ap (back_step.step_of (backend_of w)) (sym saw.2) in
    (back_as w b (back_view.heard (back_step.step_of (backend_of w) a.answer)) u a.under (said.taken ∙ ap back_view.heard v) saw.4 ∙ sym is.world, is.lines ∙ back_said w.rings.back.halted x (back_step.step_of (backend_of w) a.answer) a.answer seen.0 a.shown seen.1 v saw.2 saw.3, is.disk)

pub back_fit : (w : World) (ask : BackAsk) (seen : BackAnswer × Shown) (x b : back_view.View) (u : Hypervisor) (c d : DiskSeen) → IsFit w → BackSaid w ask seen x b u c d → IsFit (back_moved w b u)
back_fit w ask seen x b u c d fit said =
    let happened = back_happened w ask seen x b u c d fit said in
    subst IsFit (sym happened.0) (fit_happens w BackMoves fit)

pub back_goes_as : (w : World) (ask : BackAsk) (seen : BackAnswer × Shown) (x b : back_view.View) (u : Hypervisor) (c d : DiskSeen) (lines : List Line) (r s : RecorderSeen) (result : Result (Unit {0}) RecordStop) → IsFit w → BackSaid w ask seen x b u c d → lines ≡ back_lines x.ring.told seen.0 ++ halt_lines w.rings.back.halted x.ring.halted → Adds (Move seen.1 ∷ lines) result r s → Goes (Is (BackMoves ∷ [])) (Is (BackMoves ∷ [])) 41 result (moment w c r) (moment (back_moved w b u) d s)
back_goes_as w ask seen x b u c d lines r s result fit said same shown =
    let happened = back_happened w ask seen x b u c d fit said in
    let took = asks_no_disk (backend_of w) ask (outcome_told seen.0) c d said.asked said.disk in
    goes_here (Is (BackMoves ∷ [])) (Is (BackMoves ∷ [])) 41 BackMoves w (back_moved w b u) c d r s result refl refl
    happened.0 (subst (λ (v : World). mappings_of v ≤ mappings_of w + 41) (sym happened.0) (back_comes w)) (ap (λ (v : World). v.rings.back.jobs.info.sectors) happened.0 ∙ sectors_kept w BackMoves) (subst (λ (e : DiskSeen). DiskGoes w BackMoves c e) (sym took.1) (happened.2 c))
    (subst (λ (l : List Line). Adds l result r s) (sym (happened.1 ∙ ap (λ (l : List Line). Move seen.1 ∷ l) (sym same))) shown)

-- it waits, and neither an event nor a watch is pending
pub back_waits : (w : World) (c : DiskSeen) (r : RecorderSeen) → IsFit w → back_turn w ≡ None → Goes (Is (BackMoves ∷ [])) (Is (BackMoves ∷ [])) 41 (Ok tt) (moment w c r) (moment w c r)
back_waits w c r fit none =
    let rests = back_move_none w fit none in
    goes_here (Is (BackMoves ∷ [])) (Is (BackMoves ∷ [])) 41 BackMoves w w c c r r (Ok tt) refl refl
    (sym rests.world) (omega arith) refl (rests.disk c) (subst (λ (l : List Line). Gained l r r) (sym rests.lines) (gained_none r))

pub back_rests : (w : World) (ask : BackAsk) (o : Outcome) (u : Hypervisor) (c d : DiskSeen) (r : RecorderSeen) → IsFit w → ask ≡ back.ask_of (backend_of w) → None ≡ back_seen (back_act w.rings.under Back ask o) → u ≡ back_under w.rings.under (back_act w.rings.under Back ask o) → DiskDoes ask o c d → Goes (Is (BackMoves ∷ [])) (Is (BackMoves ∷ [])) 41 (Ok tt) (moment w c r) (moment (record { rings = record { front = w.rings.front; back = w.rings.back; under = u }; front = w.front; back = w.back }) d r)
back_rests w ask o u c d r fit asked e under does =
    let took = asks_no_disk (backend_of w) ask o c d asked does in
    let act = back_act w.rings.under Back ask Took in
    let seen_so : None ≡ back_seen act = subst (λ (x : Outcome). None ≡ back_seen (back_act w.rings.under Back ask x)) took.0 e in
    let left : u ≡ back_under w.rings.under act = subst (λ (x : Outcome). u ≡ back_under w.rings.under (back_act w.rings.under Back ask x)) took.0 under in
    let nothing = back_nothing w.rings.under act u seen_so left in
    rw (nothing.1, took.1) (back_waits w c r fit (ap (λ (x : BackAsk). back_act w.rings.under Back x Took) (sym asked) ∙ nothing.0))

-- What the ring's machine did, of a job or of the outside, in the whole machine.
pub job_seen : (k n : ℕ) (w : World) (b : back_view.View) (u : Hypervisor) (c d : DiskSeen) (r s : RecorderSeen) (result : Result (Unit {0}) RecordStop) → b.bus ≡ w.back → ring_leads.Goes (ring_leads.IsJobMove k) (ring_leads.IsJobMove k) n result (ring_leads.moment w.rings c r) (ring_leads.moment (record { front = w.rings.front; back = b.ring; under = u }) d s) → Goes (IsJobMove k) (IsJobMove k) 0 result (moment w c r) (moment (back_moved w b u) d s)
job_seen k n w b u c d r s result same p =
    let v : rings.World = record { front = w.rings.front; back = b.ring; under = u } in
    subst (λ (bus : BackView). Goes (IsJobMove k) (IsJobMove k) 0 result (moment w c r) (moment (record { rings = v; front = w.front; back = bus }) d s)) (sym same) (job_alone k n w v c d r s result p)

pub rings_fit : (h : Happening) (x : ring.Happening) (w : World) (v : rings.World) → does w h ≡ x ∷ [] → front_bus w h ≡ w.front → back_bus w h ≡ w.back → v ≡ ring.happens w.rings x → IsFit w → IsFit (with_rings w v)
rings_fit h x w v does_it front back world fit =
    let same : with_rings w v ≡ happens w h = rw (does_it, front, back, world) refl in
    subst IsFit (sym same) (fit_happens w h fit)

pub job_fit : (k : ℕ) (o : Outcome) (w : World) (b : back_view.View) (u : Hypervisor) → b.bus ≡ w.back → record { front = w.rings.front; back = b.ring; under = u } ≡ ring.happens w.rings (ring.JobMoves k o) → IsFit w → IsFit (back_moved w b u)
job_fit k o w b u same world fit =
    let v : rings.World = record { front = w.rings.front; back = b.ring; under = u } in
    subst (λ (bus : BackView). IsFit (record { rings = v; front = w.front; back = bus })) (sym same) (rings_fit (JobMoves k o) (ring.JobMoves k o) w v refl refl refl world fit)

-- What the ends say of their asks and answers.
pub asked_now : (f : front_view.View) (ask : FrontAsk) → HasHeard f → ask ≡ front.ask_of f → ask ≡ front.ask_of (record { ring = f.ring; bus = f.bus; news = None })
asked_now f ask heard asked = subst (λ (n : Option FrontNews). ask ≡ front.ask_of (record { ring = f.ring; bus = f.bus; news = n })) heard asked

pub asked_here : (f : front_view.View) (ask : FrontAsk) → HasHeard f → ask ≡ front.ask_of (record { ring = f.ring; bus = f.bus; news = None }) → ask ≡ front.ask_of f
asked_here f ask heard asked = subst (λ (n : Option FrontNews). ask ≡ front.ask_of (record { ring = f.ring; bus = f.bus; news = n })) (sym heard) asked

pub heard_now : (f x : front_view.View) (a : FrontAnswer) → HasHeard f → x ≡ front_step.step_of f a → x ≡ front_step.step_of (record { ring = f.ring; bus = f.bus; news = None }) a
heard_now f x a heard stepped = subst (λ (n : Option FrontNews). x ≡ front_step.step_of (record { ring = f.ring; bus = f.bus; news = n }) a) heard stepped

pub front_asked_may : (w : World) (ask : FrontAsk) → IsFit w → ask ≡ front.ask_of (frontend_of w) → front.StaysInMemory ask → FrontMay w.rings.under ask
front_asked_may w ask fit asked within = subst (FrontMay w.rings.under) (sym asked) (front_asks_may w fit (subst front.StaysInMemory asked within))

-- there was no memory for what an end asks, and nothing happened
pub front_lacks : (w : World) (ask : FrontAsk) (u : Hypervisor) (c : DiskSeen) (r : RecorderSeen) → ask ≡ front.ask_of (frontend_of w) → FrontTakesMemory ask → u ≡ w.rings.under → Goes (Is (FrontMoves ∷ [])) (Is (FrontMoves ∷ [])) 0 (Err OutOfMemory) (moment w c r) (moment (record { rings = record { front = w.rings.front; back = w.rings.back; under = u }; front = w.front; back = w.back }) c r)
front_lacks w ask u c r asked takes same = rw same (goes_lacking (Is (FrontMoves ∷ [])) (Is (FrontMoves ∷ [])) 0 FrontMoves (moment w c r) (moment w c r) refl (subst FrontTakesMemory asked takes) refl refl refl)

pub back_lacks : (w : World) (ask : BackAsk) (u : Hypervisor) (c d : DiskSeen) (r : RecorderSeen) → ask ≡ back.ask_of (backend_of w) → BackTakesMemory ask → u ≡ w.rings.under → d ≡ c → Goes (Is (BackMoves ∷ [])) (Is (BackMoves ∷ [])) 41 (Err OutOfMemory) (moment w c r) (moment (record { rings = record { front = w.rings.front; back = w.rings.back; under = u }; front = w.front; back = w.back }) d r)
back_lacks w ask u c d r asked takes same untouched = rw (same, untouched) (goes_lacking (Is (BackMoves ∷ [])) (Is (BackMoves ∷ [])) 41 BackMoves (moment w c r) (moment w c r) refl (subst BackTakesMemory asked takes) refl refl refl)

pub back_asked_may : (w v : World) (ask : BackAsk) (attached : Option ℕ) → w ≡ v → IsFit w → ask ≡ back.ask_of (backend_of w) → Names (hands_of w.rings.back) ask → length (hands_of w.rings.back) ≤ most_held → attached ≡ Some v.rings.back.jobs.info.sectors → mappings_of v + 41 < 2 ^ 64 → BackMay w.rings.under attached ask
back_asked_may w v ask attached is fit asked names few disk left =
    let known : attached ≡ Some w.rings.back.jobs.info.sectors = disk ∙ sym (ap (λ (x : World). Some x.rings.back.jobs.info.sectors) is) in
    subst (λ (a : Option ℕ). BackMay w.rings.under a ask) (sym known)
    (subst (BackMay w.rings.under (Some w.rings.back.jobs.info.sectors)) (sym asked)
    (back_asks_may w fit (subst (Names (hands_of w.rings.back)) asked names) (subst (λ (x : World). x.rings.under.grants.made + 1 < 2 ^ 64) (sym is) (omega arith)) few))

asleep_at : (h : Hypervisor) (pending : Bool) (watches : List (List ℕ)) → (pending || not (is_empty_list watches)) ≡ false → (if pending then Some (back_event h) else back_watched h (first_of watches)) ≡ None
asleep_at h true watches e = absurd (true≢false e)
asleep_at h false [] e = refl
asleep_at h false (path ∷ watches) e = absurd (true≢false e)

waits_at : (h : Hypervisor) (ask : BackAsk) → is_wait ask ≡ true → has_to_take h end.Back ≡ false → back_act h Back ask Took ≡ None
waits_at h back_asks.Wait waits none = asleep_at h (is_pending h.channels end.Back) h.keys.back.pending none
waits_at h ask waits none = absurd (true≢false (sym waits))

pub back_asleep : (w : World) → back.is_waiting (backend_of w) ≡ true → has_to_take w.rings.under end.Back ≡ false → back_turn w ≡ None
back_asleep w waits none = waits_at w.rings.under (back.ask_of (backend_of w)) waits none

-- the lines of a move of the back, by what was told and asked
pub back_lines_as : (w : World) (x b : back_view.View) (told : Option BackTold) (a : BackAnswer) (before after : Option Halt) → told ≡ x.ring.told → b ≡ back_view.heard x → before ≡ w.rings.back.halted → after ≡ b.ring.halted → back_lines told a ++ halt_lines before after ≡ back_lines x.ring.told a ++ halt_lines w.rings.back.halted x.ring.halted
back_lines_as w x b told a before after same taken first last = rw (same, first, last, taken) refl

-- a job's move leaves the negotiation
pub job_bus : (k : ℕ) (v x b : back_view.View) (a : BackAnswer) → x ≡ back_step.job_step v k a → b ≡ back_view.heard x → b.bus ≡ v.bus
job_bus k v x b a stepped taken = ap (λ (y : back_view.View). y.bus) taken ∙ ap (λ (y : back_view.View). y.bus) stepped

-- what happened to the front's end of the ring alone
pub front_seen_as : (h : Happening) (x : ring.Happening) (w : World) (f : front_view.View) (c : DiskSeen) (r s : RecorderSeen) (result : Result (Unit {0}) RecordStop) → does w h ≡ x ∷ [] → front_bus w h ≡ w.front → back_bus w h ≡ w.back → f.bus ≡ w.front → cost_of x ≡ 0 → ring_leads.Goes (ring_leads.Is (x ∷ [])) (ring_leads.Is (x ∷ [])) 0 result (ring_leads.moment w.rings c r) (ring_leads.moment (record { front = f.ring; back = w.rings.back; under = w.rings.under }) c s) → Goes (Is (h ∷ [])) (Is (h ∷ [])) 0 result (moment w c r) (moment (front_moved w f w.rings.under) c s)
front_seen_as h x w f c r s result does_it front back same none p =
    let v : rings.World = record { front = f.ring; back = w.rings.back; under = w.rings.under } in
    subst (λ (bus : FrontView). Goes (Is (h ∷ [])) (Is (h ∷ [])) 0 result (moment w c r) (moment (record { rings = v; front = bus; back = w.back }) c s)) (sym same)
    (rings_alone (Is (h ∷ [])) (Is (h ∷ [])) 0 0 h x w v c c r s result refl refl does_it front back (let few = ring_left w.rings x in omega arith) p)

pub front_part_fit : (h : Happening) (x : ring.Happening) (w : World) (f : front_view.View) → does w h ≡ x ∷ [] → front_bus w h ≡ w.front → back_bus w h ≡ w.back → f.news ≡ None → f.bus ≡ w.front → record { front = f.ring; back = w.rings.back; under = w.rings.under } ≡ ring.happens w.rings x → IsFit w → HasHeard f × IsFit (front_moved w f w.rings.under)
front_part_fit h x w f does_it front back news same world fit =
    let r : rings.World = record { front = f.ring; back = w.rings.back; under = w.rings.under } in
    (news, subst (λ (bus : FrontView). IsFit (record { rings = r; front = bus; back = w.back })) (sym same) (rings_fit h x w r does_it front back world fit))

-- a word of the guest's memory was overwritten
pub poked : (w : rings.World) (frame word value : ℕ) (u : Hypervisor) → is_guest_word frame word ≡ true → u ≡ with_pages w.under (with_word w.under.pages frame word value) → record { front = w.front; back = w.back; under = u } ≡ ring.happens w (ring.Pokes frame word value)
poked w frame word value u there wrote = rw (wrote, there) refl

-- a key of the front was: the front's ask for it was carried out
pub wrote_key : (h : Hypervisor) (name path text said : List ℕ) (u : Hypervisor) → path ≡ front_path name → said ≡ text → u ≡ front_under h (front_act h (front_asks.SetKey path said)) → u ≡ key_set h (front_path name) text
wrote_key h name path text said u there same set =
    subst (λ (t : List ℕ). u ≡ front_under h (front_act h (front_asks.SetKey (front_path name) t))) same (subst (λ (p : List ℕ). u ≡ front_under h (front_act h (front_asks.SetKey p said))) there set)

pub overwrote : (w : rings.World) (name text : List ℕ) (u : Hypervisor) → is_guest_key name text ≡ true → u ≡ key_set w.under (front_path name) text → record { front = w.front; back = w.back; under = u } ≡ ring.happens w (ring.OverwritesKey name text)
overwrote w name text u allowed set = rw (set, allowed) refl

-- or there was no memory for it
pub key_lacks : (w : World) (name text : List ℕ) (u : Hypervisor) (c : DiskSeen) (r : RecorderSeen) → u ≡ w.rings.under
    → Goes (Is (OverwritesKey name text ∷ [])) (Is (OverwritesKey name text ∷ [])) 0 (Err OutOfMemory) (moment w c r) (moment (record { rings = record { front = w.rings.front; back = w.rings.back; under = u }; front = w.front; back = w.back }) c r)
key_lacks w name text u c r same = rw same (goes_lacking (Is (OverwritesKey name text ∷ [])) (Is (OverwritesKey name text ∷ [])) 0 (OverwritesKey name text) (moment w c r) (moment w c r) refl tt refl refl refl)

-- the words of the ring were said of the machine as it stands
pub dumped_goes : (w : World) (c : DiskSeen) (r s : RecorderSeen) (result : Result (Unit {0}) RecordStop) → Adds (ring.lines_at w.rings ring.Dumps) result r s → Goes (Is (Dumps ∷ [])) (Is (Dumps ∷ [])) 0 result (moment w c r) (moment w c s)
dumped_goes w c r s result shown =
    goes_here (Is (Dumps ∷ [])) (Is (Dumps ∷ [])) 0 Dumps w w c c r s result refl refl refl (omega arith) refl (c, refl, refl)
    (subst (λ (l : List Line). Adds l result r s) (rings_lines ring.Dumps w.rings) shown)

-- An end is asked to close.
front_closed : (w : World) (x f : front_view.View) → IsFit w → x ≡ front_step.closes (frontend_of w) → f ≡ front_view.heard x → (front_moved w f w.rings.under ≡ happens w (Closes end.Front)) × (lines_at w (Closes end.Front) ≡ frontend_lines x)
front_closed w x f fit asked taken =
    let v : front_view.View = front_step.closes (frontend_of w) in
    let is = close_is w end.Front fit in
    let silent : v.ring.told ≡ None = (entered_kept Closing w.rings.front).told ∙ fit.safe.front_told in (
      front_as w f (front_view.heard v) w.rings.under w.rings.under (taken ∙ ap front_view.heard asked) refl ∙ sym is.world,
      is.lines ∙ sym (ap frontend_lines asked ∙ ap (λ (t : Option Told). front_lines t ++ news_lines v.news) silent),
    )

pub front_close_fit : (w : World) (x f : front_view.View) → IsFit w → x ≡ front_step.closes (frontend_of w) → f ≡ front_view.heard x → HasHeard f × IsFit (front_moved w f w.rings.under)
front_close_fit w x f fit asked taken =
    let closed = front_closed w x f fit asked taken in
    (ap (λ (v : front_view.View). v.news) taken, subst IsFit (sym closed.0) (fit_happens w (Closes end.Front) fit))

pub front_close_goes : (w : World) (x f : front_view.View) (c : DiskSeen) (r s : RecorderSeen) (result : Result (Unit {0}) RecordStop) → IsFit w → x ≡ front_step.closes (frontend_of w) → f ≡ front_view.heard x → Follows (frontend_lines x) (Ok tt) result r s → Goes (Is (Closes end.Front ∷ [])) (Is (Closes end.Front ∷ [])) 0 result (moment w c r) (moment (front_moved w f w.rings.under) c s)
front_close_goes w x f c r s result fit asked taken shown =
    let closed = front_closed w x f fit asked taken in
    let is = close_is w end.Front fit in
    goes_here (Is (Closes end.Front ∷ [])) (Is (Closes end.Front ∷ [])) 0 (Closes end.Front) w (front_moved w f w.rings.under) c c r s result refl refl
    closed.0 (omega arith) (ap (λ (v : World). v.rings.back.jobs.info.sectors) closed.0 ∙ sectors_kept w (Closes end.Front)) (is.disk c)
    (subst (λ (l : List Line). Adds l result r s) (sym closed.1) (shown [] r (gained_none r)))

pub back_close_fit : (w : World) (b : back_view.View) → IsFit w → b ≡ back_step.closes (backend_of w) → IsFit (back_moved w b w.rings.under)
back_close_fit w b fit asked = subst (λ (v : back_view.View). IsFit (back_moved w v w.rings.under)) (sym asked) (fit_happens w (Closes end.Back) fit)
