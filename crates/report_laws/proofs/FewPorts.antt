-- The front makes one port at most in an epoch: the moves that make one are as many as the ports of this epoch.
use Rattle.std.proofs.Common.{◌≡◌, ℕ, ◌+◌, ◌≤◌, Bool, true, false, cond, ◌||◌, if◌then◌else◌, List, [], ◌∷◌, ◌++◌, length, refl, ap, sym, ◌∙◌, subst, append_assoc, length-append, length-set, arith}
use Rattle.std.specs.Prelude.{Option, Some, None, count_by, map}
use Rattle.std.specs.List.{AllByRecursion}
use Rattle.std.proofs.lemmas.List.Sums.{sum_by_push}
use Rattle.std.proofs.lemmas.List.{append-nil, length-map}
use Rattle.blk_base.specs.Options.{Options}
use Rattle.blk_base.specs.declared.ask.FrontAsk.{FrontAsk}
use Rattle.blk_base.specs.declared.ask.BackAsk.{BackAsk}
use Rattle.blk_base.specs.declared.moves.BackMover.{BackMover}
use Rattle.blk_base.specs.declared.moves.Move.TheVariants as moves
use Rattle.blk_base.specs.declared.moves.BackMover.TheVariants as back_mover
use Rattle.blk_base.specs.declared.moves.Move.TheVariants as moves
use Rattle.schedule_text.specs.declared.line.Detail.{Detail}
use Rattle.schedule_text.specs.declared.line.Detail.TheVariants.{Lines, Moves}
use Rattle.schedule_text.specs.declared.line.Line.{Line}
use Rattle.schedule_text.specs.declared.line.Line.TheVariants as lines
use Rattle.schedule_text.specs.Recorder.{recorded, kept_of}
use Rattle.event_channel.specs.declared.channels.PortState.{PortState}
use Rattle.event_channel.specs.declared.channels.PortState.TheVariants.{Unbound, Bound}
use Rattle.event_channel.specs.Channels.{place_of, closed_port, unbound_port}
use Rattle.hypervisor.specs.Hypervisor.{Hypervisor}
use Rattle.hypervisor.specs.Act.{FrontAct, BackAct, Outcome, Took, front_act, back_act}
use Rattle.blk_front.specs.View as front
use Rattle.blk_front.specs.Ask as front_ends
use Rattle.blk_front.specs.Step as front_step
use Rattle.blk_back.specs.View as back
use Rattle.blk_back.specs.Ask as back_ends
use Rattle.blk_back.specs.Ask.{is_led}
use Rattle.blk_back.specs.Keeping.{step_keeping, job_step_keeping, job_ask_keeping}
use Rattle.report_rules.specs.Standing.{is_epoch, this_epoch}
use Rattle.report_rules.proofs.Back.{epoch_more}
use Rattle.split_model.specs.World.{World, start_of}
use Rattle.split_model.specs.Shown.{front_lines, back_lines, halt_lines}
use Rattle.split_model.specs.Happening.{Happening, FrontMoves, BackMoves, JobMoves, FrontEnters, BackAttaches, BackHalts, Submits, Suspends, happens, front_after, front_shows, front_turn, back_turn}
use Rattle.split_model.specs.Kept.{KeepingHappening, Plainly, BackOffers, BackKeeps, offered, kept_so, reads_keeping, back_after_keeping, back_shows_keeping, job_turn_keeping, job_after_keeping, job_shows_keeping, plainly_after, plainly_shows, happens_keeping, shows_keeping, after_keeping, IsSafeKeeping}
use Rattle.split_model.specs.Report.{report_of, ended_report_of}
use Rattle.split_model.proofs.SafeAnswers.{IsFronts, fronts_at}
use Rattle.split_model.proofs.Suspending.{suspend_cases}
use Rattle.move_laws.specs.Kept.{report_keeping, ended_report_keeping}
use Rattle.move_laws.proofs.KeptLines.{either_world, plainly_are}
use Rattle.report_laws.proofs.KeptReports.{as_plain, keeping_are, report_always, plain_report, plain_ended}
use Rattle.report_laws.specs.Ports.{makes_port, ports_made, IsFewPortsAt, AreFewPorts}
use Rattle.split_model.proofs.Showing.{IsTold, MayShow, front_told_is, back_told_is, halt_is, both_all}
use Rattle.split_model.proofs.Acting.{FrontPort, FrontClose, front_acts, BackBind, BackClose, back_acts}
use Rattle.split_model.proofs.Outside.{LeavesEnds, leaves_ends, KeepsPorts, sent_keeps}

-- a line that makes no port and begins no epoch
abbrev pub is_counted : Line → Bool
is_counted line = makes_port line || is_epoch line

abbrev pub MakesNone : Line → Type 0
MakesNone line = is_counted line ≡ false

abbrev MakeNone : List Line → Type 0
MakeNone ls = AllByRecursion MakesNone ls

-- how many ports were made in the epoch after a line, and after these, where so many were before
abbrev pub next_count : ℕ → Line → ℕ
next_count n line = if is_epoch line then 0 else (if makes_port line then n + 1 else n)

abbrev pub count_after : ℕ → List Line → ℕ
count_after n [] = n
count_after n (line ∷ ls) = count_after (next_count n line) ls

-- at each of these lines one was made at most
abbrev pub AreThrifty : ℕ → List Line → Type 0
AreThrifty n [] = n ≤ 1
AreThrifty n (line ∷ ls) = (n ≤ 1) × AreThrifty (next_count n line) ls

same_next : (n : ℕ) (line : Line) → MakesNone line → next_count n line ≡ n
same_next n line none = by_tests (is_epoch line) (makes_port line) none
  where
    by_tests : (e m : Bool) → (m || e) ≡ false → (if e then 0 else (if m then n + 1 else n)) ≡ n
    by_tests false false h = refl
    by_tests true true h = absurd (cc)
    by_tests true false h = absurd (cc)
    by_tests false true h = absurd (cc)

none_made : (n : ℕ) (ls : List Line) → MakeNone ls → count_after n ls ≡ n
none_made n [] all = refl
none_made n (line ∷ ls) all = ap (λ (k : ℕ). count_after k ls) (same_next n line all.0) ∙ none_made n ls all.1

none_thrifty : (n : ℕ) (ls : List Line) → MakeNone ls → n ≤ 1 → AreThrifty n ls
none_thrifty n [] all few = few
none_thrifty n (line ∷ ls) all few = (few, subst (λ (k : ℕ). AreThrifty k ls) (sym (same_next n line all.0)) (none_thrifty n ls all.1 few))

count_append : (n : ℕ) (a b : List Line) → count_after n (a ++ b) ≡ count_after (count_after n a) b
count_append n [] b = refl
count_append n (line ∷ a) b = count_append (next_count n line) a b

thrifty_append : (n : ℕ) (a b : List Line) → AreThrifty n a → AreThrifty (count_after n a) b → AreThrifty n (a ++ b)
thrifty_append n [] b p q = q
thrifty_append n (line ∷ a) b p q = (p.0, thrifty_append (next_count n line) a b p.1 q)

-- how many ports of this epoch there are
abbrev pub ports_of : Hypervisor → ℕ
ports_of h = length h.channels.ports

-- the front's act makes a port where its move shows it, and only where none was made
record IsTallied (h : Hypervisor) (a : FrontAct) : Type 0 where
  told : next_count (ports_of h) (lines.Move a.shown) ≡ ports_of a.under
  few : ports_of h ≤ 1 → ports_of a.under ≤ 1

front_tallied : (h : Hypervisor) (ask : FrontAsk) (a : FrontAct) → IsFronts h.channels ask → front_act h ask ≡ Some a → IsTallied h a
front_tallied h ask a own e = (elim (front_acts h ask a e) as (λ asked x acts. IsFronts h.channels asked → IsTallied h x) [
  | FrontPort ↦ λ own.
      let one : length (h.channels.ports ++ Unbound ∷ []) ≡ ports_of h + 1 = length-append h.channels.ports (Unbound ∷ []) in
      let none : ports_of h ≡ 0 = ap (λ (ps : List PortState). length ps) own.1 in
      record { told = sym one; few = λ few. omega arith }
  | FrontClose ↦ λ own. let as_many = length-map h.channels.ports closed_port in record { told = sym as_many; few = λ few. omega arith }
  | acts ↦ λ own. record { told = refl; few = λ few. few }
]) own

-- the move of the back or a job makes none
pub record BackMakesNone (h : Hypervisor) (a : BackAct) : Type 0 where
  pub told : MakesNone (lines.Move a.shown)
  pub same : ports_of a.under ≡ ports_of h

pub back_none : (h : Hypervisor) (who : BackMover) (ask : BackAsk) (o : Outcome) (a : BackAct) → back_act h who ask o ≡ Some a → BackMakesNone h a
back_none h who ask o a e = elim (back_acts h who ask o a e) as (λ mover asked outcome x acts. BackMakesNone h x) [
  | BackBind p unbound ↦ record { told = refl; same = length-set h.channels.ports (place_of h.channels p) Bound }
  | BackClose ↦ record { told = refl; same = length-map h.channels.ports unbound_port }
  | acts ↦ record { told = refl; same = refl }
]

-- nor does a line that an end tells, or one of whatever else happens but a suspend
abbrev MakesNo : Happening → Line → Type 0
MakesNo FrontMoves line = IsTold line
MakesNo BackMoves line = IsTold line
MakesNo (JobMoves number outcome) line = IsTold line
MakesNo Suspends line = ⊥
MakesNo h line = Unit {0}

one_none : (h : Happening) (line : Line) → MakesNo h line → MayShow h line → MakesNone line
one_none Suspends line makes shows = absurd makes
one_none h (lines.Move (moves.FrontPort number)) makes shows = absurd (assumption)
one_none h lines.Epoch makes shows = absurd (assumption)
one_none h line makes shows = refl

-- whatever happens, the lines of it make as many ports as there are then in this epoch, and one at most
pub record IsCounted (h : Hypervisor) (ls : List Line) (h' : Hypervisor) : Type 0 where
  pub told : count_after (ports_of h) ls ≡ ports_of h'
  pub few : ports_of h ≤ 1 → AreThrifty (ports_of h) ls × (ports_of h' ≤ 1)

uncounted : (h h' : Hypervisor) (ls : List Line) → MakeNone ls → ports_of h' ≡ ports_of h → IsCounted h ls h'
uncounted h h' ls all same = record { told = none_made (ports_of h) ls all ∙ sym same; few = λ few. (none_thrifty (ports_of h) ls all few, omega arith) }

front_counted : (w : World) (act : Option FrontAct) → IsSafeKeeping w → front_turn w ≡ act → IsCounted w.under (front_shows w act) (let x : World = front_after w act in x.under)
front_counted w None safe e = uncounted w.under w.under [] tt refl
front_counted w (Some a) safe e =
    let is : IsTallied w.under a = front_tallied w.under (front_ends.ask_of w.front) a (fronts_at w.under.channels w.front.stage w.front safe.ported) e in
    let follow = front_lines (let f : front.View = front_step.step_of w.front a.answer in f.told) in
    let none : MakeNone follow = front_told_is MakesNone (one_none FrontMoves) (let f : front.View = front_step.step_of w.front a.answer in f.told) in
    let same : count_after (ports_of a.under) follow ≡ ports_of a.under = none_made (ports_of a.under) follow none in
    record {
      told = ap (λ (n : ℕ). count_after n follow) is.told ∙ same;
      few = λ few. ((few, subst (λ (n : ℕ). AreThrifty n follow) (sym is.told) (none_thrifty (ports_of a.under) follow none (is.few few))), is.few few);
    }

back_counted : (w : World) (act : Option BackAct) → back_turn w Took ≡ act → IsCounted w.under (back_shows_keeping w act) (let x : World = back_after_keeping w act in x.under)
back_counted w None e = uncounted w.under w.under [] tt refl
back_counted w (Some a) e =
    let b : back.View = step_keeping w.back a.answer in
    let is : BackMakesNone w.under a = back_none w.under back_mover.Back (back_ends.ask_of w.back) Took a e in
    uncounted w.under a.under (back_shows_keeping w (Some a)) (
      is.told,
      both_all MakesNone (back_lines b.told a.answer) (halt_lines w.back.halted b.halted) (back_told_is MakesNone (one_none BackMoves) b.told a.answer)
          (halt_is MakesNone (λ why. refl) w.back.halted b.halted),
    ) is.same

job_counted : (w : World) (k : ℕ) (o : Outcome) (act : Option BackAct) → job_turn_keeping w k o ≡ act → IsCounted w.under (job_shows_keeping w k act) (let x : World = job_after_keeping w k act in x.under)
job_counted w k o None e = uncounted w.under w.under [] tt refl
job_counted w k o (Some a) e =
    let b : back.View = job_step_keeping w.back k a.answer in
    let is : BackMakesNone w.under a = back_none w.under (back_mover.Job k) (job_ask_keeping w.back k) o a e in
    uncounted w.under a.under (job_shows_keeping w k (Some a)) (is.told, back_told_is MakesNone (one_none BackMoves) b.told a.answer) is.same

unshown : (w : World) (h : Happening) → ((line : Line) → MakesNo h line)
    → (let x : World = plainly_after w h in ports_of x.under ≡ ports_of w.under) → IsCounted w.under (plainly_shows w h) (let x : World = plainly_after w h in x.under)
unshown w h makes same = uncounted w.under _ (plainly_shows w h) (plainly_are MakesNone w h (λ line shows. one_none h line (makes line) shows)) same

plainly_counted : (w : World) (h : Happening) → IsSafeKeeping w → IsCounted w.under (plainly_shows w h) (let x : World = plainly_after w h in x.under)
plainly_counted w FrontMoves safe = front_counted w (front_turn w) safe refl
plainly_counted w BackMoves safe = back_counted w (back_turn w Took) refl
plainly_counted w (JobMoves number outcome) safe = job_counted w number outcome (job_turn_keeping w number outcome) refl
plainly_counted w (FrontEnters state) safe = unshown w (FrontEnters state) (λ line. tt) refl
plainly_counted w (BackAttaches shape grefs port) safe = unshown w (BackAttaches shape grefs port) (λ line. tt) refl
plainly_counted w (BackHalts why) safe = unshown w (BackHalts why) (λ line. tt) refl
plainly_counted w (Submits job) safe = unshown w (Submits job) (λ line. tt) refl
plainly_counted w Suspends safe =
    suspend_cases (λ v shown. IsCounted w.under shown v.under) w
    (λ may. record { told = refl; few = λ few. ((few, omega arith), omega arith) }) (uncounted w.under w.under [] tt refl)
plainly_counted w h safe =
    let left : LeavesEnds w (happens w h) = leaves_ends w h tt in
    let kept : KeepsPorts w.under.channels (let x : World = happens w h in x.under.channels) = sent_keeps w.under.channels _ left.channels in
    unshown w h (λ line. tt) (ap (λ (ps : List PortState). length ps) kept.ports)

-- what the back does with the keys for kept mappings
keys_counted : (w : World) (h : KeepingHappening) → ((line : Line) → MakesNo (as_plain h) line) → (let x : World = happens_keeping w h in ports_of x.under ≡ ports_of w.under)
    → IsCounted w.under (shows_keeping w h) (let x : World = happens_keeping w h in x.under)
keys_counted w h makes same = uncounted w.under _ (shows_keeping w h) (keeping_are MakesNone w h (λ line shows. one_none (as_plain h) line (makes line) shows)) same

pub one_counted : (w : World) (h : KeepingHappening) → IsSafeKeeping w → IsCounted w.under (shows_keeping w h) (let x : World = happens_keeping w h in x.under)
one_counted w (Plainly h) safe = plainly_counted w h safe
one_counted w BackOffers safe =
    keys_counted w BackOffers (λ line. tt) (either_world (λ (x : World). ports_of x.under ≡ ports_of w.under) (is_led w.back.stage) (offered w) w (λ led. refl) refl)
one_counted w (BackKeeps cap) safe =
    keys_counted w (BackKeeps cap) (λ line. tt) (either_world (λ (x : World). ports_of x.under ≡ ports_of w.under) (reads_keeping w cap) (kept_so w cap) w (λ reads. refl) refl)

-- so all that happens makes one at most in each epoch
record IsThrifty (before : List Line) (w : World) : Type 0 where
  thrifty : AreThrifty 0 before
  told : count_after 0 before ≡ ports_of w.under

last_thrifty : (n : ℕ) (ls : List Line) → AreThrifty n ls → count_after n ls ≤ 1
last_thrifty n [] h = h
last_thrifty n (line ∷ ls) h = last_thrifty (next_count n line) ls h.1

one_thrifty : (before : List Line) (w : World) (h : KeepingHappening) → IsSafeKeeping w → IsThrifty before w → IsThrifty (before ++ shows_keeping w h) (happens_keeping w h)
one_thrifty before w h safe is =
    let one : IsCounted w.under (shows_keeping w h) (let x : World = happens_keeping w h in x.under) = one_counted w h safe in
    let few : ports_of w.under ≤ 1 = subst (λ (n : ℕ). n ≤ 1) is.told (last_thrifty 0 before is.thrifty) in
    record {
      thrifty = thrifty_append 0 before (shows_keeping w h) is.thrifty (subst (λ (n : ℕ). AreThrifty n (shows_keeping w h)) (sym is.told) (one.few few).0);
      told = count_append 0 before (shows_keeping w h) ∙ (ap (λ (n : ℕ). count_after n (shows_keeping w h)) is.told ∙ one.told);
    }

report_once : (config : Options) (detail : Detail) (history : List KeepingHappening) → AreThrifty 0 (report_keeping config detail history)
report_once config detail history =
    let is : IsThrifty (report_keeping config detail history) (after_keeping history (start_of config)) =
    report_always IsThrifty (λ before w h safe any was. one_thrifty before w h safe was) config detail history (record { thrifty = (omega arith, omega arith); told = refl }) in
    is.thrifty

-- what a recorder keeps makes no more: each line or none
fewer_thrifty : (ls : List Line) (n m : ℕ) → m ≤ n → AreThrifty n ls → AreThrifty m ls
fewer_thrifty [] n m le h = omega (arith, h)
fewer_thrifty (line ∷ ls) n m le h = (omega (arith, h.0), fewer_thrifty ls (next_count n line) (next_count m line) (by_tests (is_epoch line) (makes_port line)) h.1)
  where
    by_tests : (e p : Bool) → (if e then 0 else (if p then m + 1 else m)) ≤ (if e then 0 else (if p then n + 1 else n))
    by_tests true p = omega arith
    by_tests false true = omega arith
    by_tests false false = le

kept_one : (detail : Detail) (line : Line) (ls : List Line) (n : ℕ) → n ≤ 1 → AreThrifty (next_count n line) ls → AreThrifty n (recorded detail line ++ ls)
kept_one Lines (lines.Move move) ls n few h = fewer_thrifty ls (next_count n (lines.Move move)) n (by_port (makes_port (lines.Move move))) h
  where
    by_port : (b : Bool) → n ≤ (if b then n + 1 else n)
    by_port true = omega arith
    by_port false = omega arith
kept_one Moves (lines.Move move) ls n few h = (few, h)
kept_one detail line ls n few h = (few, h)

kept_few : (detail : Detail) (ls : List Line) (n : ℕ) → AreThrifty n ls → AreThrifty n (kept_of detail ls)
kept_few detail [] n h = h
kept_few detail (line ∷ ls) n h = kept_one detail line (kept_of detail ls) n h.0 (kept_few detail ls (next_count n line) h.1)

-- so many were made in the present epoch
one_more : (before : List Line) (n : ℕ) (line : Line) → ports_made before ≡ n → ports_made (before ++ line ∷ []) ≡ next_count n line
one_more before n line is = ap (λ (ls : List Line). count_by makes_port ls) (epoch_more before line) ∙ by_epoch (is_epoch line)
  where
    by_port : (b : Bool) (made : ℕ) → made ≡ ports_made before + cond b 1 0 → made ≡ (if b then n + 1 else n)
    by_port true made more = omega (arith, is)
    by_port false made more = omega (arith, is)

    by_epoch : (e : Bool) → count_by makes_port (if e then [] else this_epoch before ++ line ∷ []) ≡ (if e then 0 else (if makes_port line then n + 1 else n))
    by_epoch true = refl
    by_epoch false = by_port (makes_port line) _ (sum_by_push (λ (x : Line). cond (makes_port x) 1 0) (this_epoch before) line)

made_by : (ls before : List Line) (n : ℕ) → ports_made before ≡ n → ports_made (before ++ ls) ≡ count_after n ls
made_by [] before n is = ap ports_made (append-nil before) ∙ is
made_by (line ∷ ls) before n is = ap ports_made (sym (append_assoc before (line ∷ []) ls)) ∙ made_by ls (before ++ line ∷ []) (next_count n line) (one_more before n line is)

rest_thrifty : (n : ℕ) (before : List Line) (line : Line) (after : List Line) → AreThrifty n (before ++ line ∷ after) → count_after n before ≤ 1
rest_thrifty n [] line after h = h.0
rest_thrifty n (first ∷ before) line after h = rest_thrifty (next_count n first) before line after h.1

few_at : (before : List Line) (line : Line) → ports_made before ≤ 1 → IsFewPortsAt before line
few_at before (lines.Move (moves.FrontPort port)) few = omega arith
few_at before line few = tt

once_few : (report : List Line) → AreThrifty 0 report → AreFewPorts report
once_few report thrifty before after line e =
    let so_far : count_after 0 before ≤ 1 = rest_thrifty 0 before line after (subst (AreThrifty 0) e thrifty) in
    few_at before line (subst (λ (n : ℕ). n ≤ 1) (sym (made_by before [] 0 refl)) so_far)

pub report_ports_keeping : (config : Options) (detail : Detail) (history : List KeepingHappening) → AreFewPorts (kept_of detail (report_keeping config detail history))
report_ports_keeping config detail history = once_few (kept_of detail (report_keeping config detail history)) (kept_few detail (report_keeping config detail history) 0 (report_once config detail history))

ended_once : (config : Options) (detail : Detail) (history : List KeepingHappening) → AreThrifty 0 (ended_report_keeping config detail history)
ended_once config detail history =
    thrifty_append 0 (report_keeping config detail history) (lines.End ∷ []) (report_once config detail history)
    (let few = last_thrifty 0 (report_keeping config detail history) (report_once config detail history) in (few, few))

pub ended_ports_keeping : (config : Options) (detail : Detail) (history : List KeepingHappening) → AreFewPorts (kept_of detail (ended_report_keeping config detail history))
ended_ports_keeping config detail history =
    once_few (kept_of detail (ended_report_keeping config detail history)) (kept_few detail (ended_report_keeping config detail history) 0 (ended_once config detail history))

-- where none are kept
pub report_ports : (config : Options) (detail : Detail) (history : List Happening) → AreFewPorts (kept_of detail (report_of config detail history))
report_ports config detail history = plain_report (λ ls. AreFewPorts (kept_of detail ls)) config detail history (report_ports_keeping config detail (map Plainly history))

pub ended_ports : (config : Options) (detail : Detail) (history : List Happening) → AreFewPorts (kept_of detail (ended_report_of config detail history))
ended_ports config detail history = plain_ended (λ ls. AreFewPorts (kept_of detail ls)) config detail history (ended_ports_keeping config detail (map Plainly history))
