-- Whatever happens to a back that may keep mappings, its jobs touch and unmap only what they made, or what may be kept.
use Rattle.std.proofs.Common.{true≢false, ◌&&◌, ◌≡◌, ℕ, ◌+◌, ◌==◌, Bool, true, false, if◌then◌else◌, List, [], ◌∷◌, ◌++◌, length, refl, ap, sym, ◌∙◌, subst, append_assoc, append-nil, arith}
use Rattle.std.specs.Prelude.{Option, Some, None, is_some}
use Rattle.std.specs.List.{AllByRecursion}
use Rattle.std.proofs.lemmas.List.Elements.{All-nil, All-from_recursion, recursion_from_All}
use Rattle.std.proofs.lemmas.List.Sorted.{All-permutation}
use Rattle.blk_base.specs.Options.{Options}
use Rattle.blk_base.specs.declared.parts.End.{End}
use Rattle.blk_base.specs.declared.parts.Mapping.{Mapping}
use Rattle.blk_base.specs.declared.ask.BackAsk.TheVariants as ask
use Rattle.blk_base.specs.declared.ask.BackAnswer.{BackAnswer}
use Rattle.blk_base.specs.declared.ask.BackAnswer.TheVariants as answers
use Rattle.blk_base.specs.declared.halt.Halt.{Halt}
use Rattle.blk_base.specs.declared.moves.BackMover.TheVariants as mover
use Rattle.blk_base.specs.declared.moves.Mover.TheVariants as who
use Rattle.blk_base.specs.declared.moves.Move.TheVariants as moves
use Rattle.blk_layout.specs.Entry.{request_of}
use Rattle.blk_layout.specs.declared.request.RawRequest.{RawRequest}
use Rattle.segment_list.specs.Verdict.{verdict_of}
use Rattle.grant_table.specs.Table.{GrantTable, IsLive}
use Rattle.hypervisor.specs.Act.{BackAct, Outcome, Took, back_act}
use Rattle.ring_words.specs.Ring.{requests_of, overruns}
use Rattle.ring_words.specs.Shape.{entry_words_of}
use Rattle.persist_grants.specs.KeptMappings.{may_keep, mappings_of}
use Rattle.schedule_text.specs.declared.line.Line.{Line}
use Rattle.schedule_text.specs.declared.line.Line.TheVariants as lines
use Rattle.schedule_text.specs.declared.line.Detail.{Detail}
use Rattle.report_rules.specs.declared.standing.Standing.{Standing}
use Rattle.report_rules.specs.Obeys.{Obeys}
use Rattle.report_rules.specs.Standing.{this_epoch, is_unmap_of}
use Rattle.report_rules.proofs.Obeys.{obeys_none, obeys_more}
use Rattle.back_jobs.specs.Work.{Work, IsAnswer, begun}
use Rattle.back_jobs.specs.Jobs.{HeldJobs, place_of, work_of, without_done, removed_at}
use Rattle.back_jobs.specs.Keeping.{Settled, IsKeepable, IsWritableAt, IsKeeping, all_hands, settled, ask_keeping, waits_in, start_keeping}
use Rattle.back_jobs.proofs.Hands.{done_hands, begun_hand}
use Rattle.back_jobs.proofs.Settling.{begun_writable, begun_keeping, removed_keeping, settled_may}
use Rattle.back_jobs.proofs.Entire.{started_entire, told_entire}
use Rattle.blk_back.specs.declared.stage.BackStage.{BackStage}
use Rattle.blk_back.specs.declared.stage.BackStage.TheVariants as stage
use Rattle.blk_back.specs.declared.stage.Reply.{Reply}
use Rattle.blk_back.specs.Ask.{ask_of, next_reply, is_led}
use Rattle.blk_back.specs.Hands.{aborted}
use Rattle.blk_back.specs.Keeping.{overrun_keeping, looked_keeping, loop_step_keeping, fetched_keeping, fetch_step_keeping, step_keeping_at, step_keeping, job_step_keeping, job_ask_keeping, halts_keeping_at, halts_keeping}
use Rattle.blk_back.specs.Step.{may_halt, overrun, looked, loop_word, fetched, fetch_step, step_of, next_number}
use Rattle.blk_back.specs.Sound.{IsCleared, HasNothing}
use Rattle.blk_back.specs.View as back
use Rattle.back_laws.proofs.Calls.{keeps_mapping}
use Rattle.split_model.specs.World.{World, start_of, suspended}
use Rattle.split_model.specs.Keys.{KeyMove}
use Rattle.split_model.specs.Safe.{AreHeld}
use Rattle.split_model.specs.Shown.{back_lines, halt_lines}
use Rattle.split_model.specs.Happening.{Happening, FrontMoves, BackMoves, JobMoves, Negotiates, BackAttaches, BackHalts, Suspends, layout_read, lines_at, front_shows, front_turn, back_turn}
use Rattle.split_model.specs.Kept.{KeepingHappening, Plainly, BackOffers, BackKeeps, offered, offer_line, reads_keeping, kept_so, keeping_line, is_other_read, back_after_keeping, back_shows_keeping, job_turn_keeping, job_after_keeping, job_shows_keeping, halt_shows_keeping, plainly_after, plainly_shows, happens_keeping, shows_keeping, after_keeping, lines_keeping, IsSafeKeeping}
use Rattle.split_model.proofs.Attaching.{attach_cases}
use Rattle.split_model.proofs.Kept.{kept_start, kept_happens}
use Rattle.split_model.proofs.SafeAnswers.{backs_of, jobs_keeping, job_answered_as}
use Rattle.split_model.proofs.Suspending.{suspend_cases, back_cases}
use Rattle.ring_laws.specs.Handed.{IsHandedAt, AreHanded}
use Rattle.move_laws.specs.Kept.{report_keeping, ended_report_keeping}
use Rattle.ring_laws.proofs.Lists.{all_first, all_second, all_both, all_more}
use Rattle.ring_laws.proofs.Shows.{Sight}
use Rattle.ring_laws.proofs.Knows.{KnowsAt, Follows}
use Rattle.ring_laws.proofs.Alike.{IsAlike, step_alike}
use Rattle.ring_laws.proofs.BackChange.{Changed, change_at}
use Rattle.ring_laws.proofs.BackTells.{told_none}
use Rattle.ring_laws.proofs.EntryWords.{epoch_longer}
use Rattle.ring_laws.proofs.Free.{job_running}
use Rattle.ring_laws.proofs.Makers.{obeys_all, quiet_epoch, unmapped_other}
use Rattle.ring_laws.proofs.MakerLines.{IsCalm, AreCalm, calm_quiet, calm_handed, back_calm, halt_calm, told_calm, key_calm, Does, back_does, serving_asks}
use Rattle.ring_laws.proofs.MakerTurns.{removed_place}
use Rattle.ring_laws.proofs.Outsiders.{front_outsiders, front_leaves, outsiders_calm, beside_outsiders}
use Rattle.ring_laws.proofs.Standings.{Stands, live_stands, act_stands}
use Rattle.ring_laws.proofs.StandRuns.{stands_keeping}
use Rattle.ring_laws.proofs.Runs.{FollowsTo, earlier_kept, reads_may, follows_keeping, follows_begin}
use Rattle.ring_laws.proofs.Handed.{IsWriting, IsReading, HandReads, InHands, hands_quiet}
use Rattle.grant_table.specs.Entry.{is_for_writing}
use Rattle.report_rules.specs.Published.{kept_by}
use Rattle.back_jobs.proofs.Bounds.{AreFew}
use Rattle.ring_laws.specs.Handed.{have_kept}
use Rattle.ring_laws.proofs.Offered.{Offers, offers_keeping, agreed}
use Rattle.ring_laws.proofs.HandedJob.{settled_hand, acts_handed, IsLeft, JobHands, job_hands}

-- the lines keep the rule, and while the back serves its jobs hold and keep what they made
pub record Handed (before : List Line) (halted : Option Halt) (jobs : HeldJobs) : Type 0 where
  pub obeys : Obeys IsHandedAt before
  pub hands : is_some halted ≡ false → InHands (this_epoch before) jobs

-- lines that touch and unmap nothing
aside : (before ys : List Line) (halted : Option Halt) (jobs : HeldJobs) → AreCalm ys → Handed before halted jobs → Handed (before ++ ys) halted jobs
aside before ys halted jobs calm m = record {
  obeys = obeys_all IsHandedAt before ys (calm_handed ys calm) m.obeys;
  hands = λ runs. subst (λ (ls : List Line). InHands ls jobs) (sym (quiet_epoch before ys (calm_quiet ys calm))) (hands_quiet (this_epoch before) ys jobs (calm_quiet ys calm) (m.hands runs));
}

no_lines : (before : List Line) (halted : Option Halt) (jobs : HeldJobs) → Handed before halted jobs → Handed (before ++ []) halted jobs
no_lines before halted jobs m = subst (λ (ls : List Line). Handed ls halted jobs) (sym (append-nil before)) m

-- a move, and what is told of it
told_after : (before told : List Line) (line : Line) (halted : Option Halt) (jobs : HeldJobs) → AreCalm told → Handed (before ++ line ∷ []) halted jobs → Handed (before ++ line ∷ told) halted jobs
told_after before told line halted jobs calm m = subst (λ (ls : List Line). Handed ls halted jobs) (append_assoc before (line ∷ []) told) (aside (before ++ line ∷ []) told halted jobs calm m)

-- jobs that hold and keep nothing
no_hands : (epoch : List Line) (jobs : HeldJobs) → HasNothing jobs → (may_keep jobs.kept ≡ true → have_kept (kept_by false false) epoch ≡ true) → InHands epoch jobs
no_hands epoch jobs nothing agreed = by_lists jobs.works jobs.kept.entries nothing.0 nothing.1
  where
    by_lists : (works : List Work) (entries : List (ℕ × Mapping)) → length works ≡ 0 → length entries ≡ 0 → InHands epoch (record { works = works; room = jobs.room; info = jobs.info; kept = record { entries = entries; cap = jobs.kept.cap } })
    by_lists [] [] none empty = record { keeping = record { keepable = All-nil IsKeepable; writable = λ may. All-nil (λ (t : Work). IsWritableAt t.stage) }; writing = tt; reading = tt; agreed = agreed }
    by_lists (t ∷ works) entries none empty = absurd (omega arith)
    by_lists [] (e ∷ entries) none empty = absurd (omega arith)

-- the lowest job that is done is held no longer
done_hands_go : (epoch : List Line) (jobs : HeldJobs) → InHands epoch jobs → InHands epoch (without_done jobs)
done_hands_go epoch jobs m = record {
  keeping = by_place (let j : HeldJobs = without_done jobs in j.works) _ refl;
  writing = subst (λ (l : List Mapping). AllByRecursion (IsWriting epoch) (l ++ mappings_of jobs.kept)) (sym (done_hands jobs)) m.writing;
  reading = removed_place (HandReads (may_keep jobs.kept) epoch) jobs.works _ m.reading;
  agreed = m.agreed;
}
  where
    by_place : (works : List Work) (place : Option ℕ) → works ≡ removed_at jobs.works place → IsKeeping jobs.kept works
    by_place works None is = subst (IsKeeping jobs.kept) (sym is) m.keeping
    by_place works (Some place) is = subst (IsKeeping jobs.kept) (sym is) (removed_keeping jobs.kept jobs.works place m.keeping)

-- a job begins: it has nothing in its hand, or takes a mapping that is kept
begun_hands : (epoch : List Line) (jobs : HeldJobs) (number : ℕ) (request : RawRequest) → AreFew jobs.kept → InHands epoch jobs → InHands epoch (start_keeping jobs number request)
begun_hands epoch jobs number request few m =
    let verdict = verdict_of request jobs.info in
    let t : Work = begun number request jobs.info.sectors verdict in
    let s : Settled = settled jobs.kept (begun number request jobs.info.sectors (verdict_of request jobs.info)) in
    let now : HeldJobs = start_keeping jobs number request in
    record {
      keeping = begun_keeping jobs.kept s.kept jobs.works t s.job (begun_writable number request jobs.info.sectors verdict) refl refl m.keeping;
      writing = recursion_from_All (IsWriting epoch) (all_hands now) (All-permutation (IsWriting epoch) (all_hands jobs) (all_hands now) (started_entire jobs number request) (All-from_recursion (IsWriting epoch) (all_hands jobs) m.writing));
      reading = subst (λ (b : Bool). AllByRecursion (HandReads b epoch) (jobs.works ++ s.job ∷ [])) (sym (settled_may jobs.kept t))
          (all_both (HandReads (may_keep jobs.kept) epoch) jobs.works (s.job ∷ []) m.reading (
            settled_hand (IsReading (may_keep jobs.kept) s.job.number epoch) jobs.kept t few
                (λ may x writes reads. absurd (let kept : (may_keep jobs.kept && is_for_writing x.mode) ≡ true = ap (λ (b : Bool). b && is_for_writing x.mode) may ∙ ap is_for_writing writes in true≢false (sym kept ∙ reads)))
                (λ may. begun_writable number request jobs.info.sectors verdict) m.keeping.keepable
                (subst (λ (l : List Mapping). AllByRecursion (IsReading (may_keep jobs.kept) s.job.number epoch) l) (sym (begun_hand number request jobs.info.sectors verdict)) tt),
            tt,
          ));
      agreed = λ may. m.agreed (sym (settled_may jobs.kept t) ∙ may);
    }

-- what a move of the back makes of the jobs, while it serves
module _ (P : HeldJobs → Type 0) where
  abbrev Running : back.View → Type 0
  Running v = is_some v.halted ≡ false → P v.jobs

  either : (b : Bool) (x y : back.View) → Running x → Running y → Running (if b then x else y)
  either true x y p q = p
  either false x y p q = q

  plain_jobs : (v : back.View) (word : ℕ) (otherwise : back.View) → P v.jobs → otherwise.jobs ≡ v.jobs → Running (looked v word otherwise)
  plain_jobs v word otherwise p same =
      let shown : back.View = record v { ring = record v.ring { seen = word }; stage = stage.Loop } in
      either (overruns v.ring.indices word) (overrun v word) (if word == v.ring.indices.cons then otherwise else shown) (λ runs. absurd (cc))
      (either (word == v.ring.indices.cons) otherwise shown (λ runs. subst P (sym same) p) (λ runs. p))

  looked_jobs : (v : back.View) (word : ℕ) (otherwise : back.View) → P v.jobs → otherwise.jobs ≡ v.jobs → Running (looked_keeping v word otherwise)
  looked_jobs v word otherwise p same = either (overruns v.ring.indices word) (overrun_keeping v word) (looked v word otherwise) (λ runs. absurd (cc)) (plain_jobs v word otherwise p same)

  loop_jobs : (v : back.View) (r : Option Reply) (a : BackAnswer) → P v.jobs → P (without_done v.jobs) → Running (loop_step_keeping v r a)
  loop_jobs v (Some r) a p done = λ runs. done
  loop_jobs v None (answers.Word word) p done =
      let store : back.View = record v { ring = record v.ring { seen = word }; stage = stage.StoreEvent } in
      let entry : back.View = record v { ring = record v.ring { entry = word ∷ [] }; stage = stage.Fetch 1 } in
      either (requests_of v.ring.indices v.ring.seen == 0) (looked_keeping v word store) (loop_word v word) (looked_jobs v word store p refl)
      (either (requests_of v.ring.indices v.ring.seen == 0) (looked v word store) entry (plain_jobs v word store p refl) (λ runs. p))
  loop_jobs v None a p done = λ runs. p

  fetch_jobs : (v : back.View) (n word : ℕ) → P v.jobs → ((number : ℕ) (request : RawRequest) → P (start_keeping v.jobs number request)) → Running (fetch_step_keeping v n word)
  fetch_jobs v n word p starts = by_last (n + 1 == entry_words_of v.shape.abi) refl
    where
      by_last : (last : Bool) → (n + 1 == entry_words_of v.shape.abi) ≡ last → Running (if last then fetched_keeping v (v.ring.entry ++ word ∷ []) else fetch_step v n word)
      by_last true is = λ runs. starts (next_number v) (request_of v.shape.abi (v.ring.entry ++ word ∷ []))
      by_last false is =
          subst (λ (b : Bool). Running (if b then fetched v (v.ring.entry ++ word ∷ []) else record v { ring = record v.ring { entry = v.ring.entry ++ word ∷ [] }; stage = stage.Fetch (n + 1) })) (sym is) (λ runs. p)

  step_jobs : (s : BackStage) (v : back.View) (x : Sight) (a : BackAnswer) → KnowsAt s x v → P v.jobs → P (without_done v.jobs) → ((number : ℕ) (request : RawRequest) → P (start_keeping v.jobs number request)) → Running (step_keeping_at s v a)
  step_jobs stage.Loop v x a k p done starts = loop_jobs v (next_reply v) a p done
  step_jobs (stage.Fetch n) v x (answers.Word word) k p done starts = fetch_jobs v n word p starts
  step_jobs stage.LookAgain v x (answers.Word word) k p done starts = looked_jobs v word (record v { ring = record v.ring { seen = word; asleep = true }; stage = stage.Loop }) p refl
  step_jobs (stage.Abort m) v x a k p done starts = λ runs. absurd (let over : is_some v.halted ≡ true = k.over in cc)
  step_jobs stage.MapRing v x (answers.Mapped m) k p done starts = λ runs. p
  step_jobs stage.MapRing v x (answers.MapRefused status) k p done starts = λ runs. p
  step_jobs stage.Bind v x answers.Done k p done starts = λ runs. p
  step_jobs stage.Bind v x answers.BindRefused k p done starts = λ runs. p
  step_jobs (stage.ResponseEvent old) v x (answers.Word event) k p done starts = λ runs. p
  step_jobs s v x a k p done starts = λ runs. p

-- and a halt
halts_jobs : (P : Option Halt → HeldJobs → Type 0) (why : Halt) (v : back.View) → ((jobs : HeldJobs) → P (Some why) jobs) → P v.halted v.jobs → (let new : back.View = halts_keeping why v in P new.halted new.jobs)
halts_jobs P why v halted none = by_kind (may_halt why)
  where
    at : (s : BackStage) → (let new : back.View = halts_keeping_at s why v in P new.halted new.jobs)
    at stage.InitWait = halted v.jobs
    at stage.MapRing = halted v.jobs
    at stage.Loop = halted _
    at s = none

    by_kind : (b : Bool) → (let new : back.View = if b then halts_keeping_at v.stage why v else v in P new.halted new.jobs)
    by_kind true = at v.stage
    by_kind false = none

-- a mapping that lives after a line isn't unmapped in it
left_by : (before : List Line) (line : Line) (table : GrantTable) (m : Mapping) → Stands (before ++ line ∷ []) table → IsLive table m → is_unmap_of m.number line ≡ false
left_by before (lines.Move (moves.Unmap by number)) table m stands live =
    unmapped_other before by number m.number (λ (x : Standing). x.gref ≡ m.gref) (live_stands (before ++ lines.Move (moves.Unmap by number) ∷ []) table m stands live)
left_by before line table m stands live = refl

all_left : (before : List Line) (line : Line) (table : GrantTable) (first pages : List Mapping) (jobs : HeldJobs) → Stands (before ++ line ∷ []) table → AreHeld table (first ++ (all_hands jobs ++ pages)) → AllByRecursion (IsLeft line) (all_hands jobs)
all_left before line table first pages jobs stands held =
    let each = recursion_from_All (IsLive table) (first ++ (all_hands jobs ++ pages)) held.live in
    all_more (IsLive table) (IsLeft line) (all_hands jobs) (λ m live. left_by before line table m stands live) (all_first (IsLive table) (all_hands jobs) pages (all_second (IsLive table) first (all_hands jobs ++ pages) each))

-- all that the lines so far tell
record StandKept (start : ℕ) (before : List Line) (w : World) : Type 0 where
  ring : FollowsTo start before w
  standing : Stands before w.under.grants
  safe : IsSafeKeeping w
  handed : Handed before w.back.halted w.back.jobs
  offers : Offers before w.under.keys

back_handed : (start : ℕ) (w : World) (before : List Line) (act : Option BackAct) → StandKept start before w → back_turn w Took ≡ act → (let n : World = back_after_keeping w act in Handed (before ++ back_shows_keeping w act) n.back.halted n.back.jobs)
back_handed start w before None s e = no_lines before w.back.halted w.back.jobs s.handed
back_handed start w before (Some a) s e =
    let v : back.View = w.back in
    let new : back.View = step_keeping w.back a.answer in
    let line : Line = lines.Move a.shown in
    let f : Follows start [] before w.back = s.ring.follows in
    let c : Changed (length f.sight.values) w.back (step_of w.back a.answer) = change_at v.stage v f.sight a.answer f.knows (told_none v.told s.ring.told) in
    let alike : IsAlike (step_of w.back a.answer) (step_keeping w.back a.answer) = step_alike v.stage v a.answer in
    let d : Does (ask_of w.back) a = back_does w.under (ask_of w.back) Took a (backs_of w.back) e in
    told_after before (back_lines new.told a.answer ++ halt_lines v.halted new.halted) line new.halted new.jobs (told_calm new.told a.answer v.halted new.halted)
    (record {
      obeys = obeys_more IsHandedAt before line s.handed.obeys (acts_handed before w.under mover.Back (ask_of w.back) Took a e (λ m touches. tt));
      hands = λ runs.
          let served : is_some v.halted ≡ false = c.running (ap is_some (sym alike.halted) ∙ runs) in
          let m : InHands (this_epoch before) v.jobs = s.handed.hands served in
          subst (λ (ls : List Line). InHands ls new.jobs) (sym (epoch_longer before line refl))
          (hands_quiet (this_epoch before) (line ∷ []) new.jobs (d.quiet (serving_asks v.stage v f.sight f.knows served), tt)
          (step_jobs (InHands (this_epoch before)) v.stage v f.sight a.answer f.knows m (done_hands_go (this_epoch before) v.jobs m) (λ number request. begun_hands (this_epoch before) v.jobs number request s.safe.tidy.few m) runs));
    })

job_handed : (start : ℕ) (w : World) (before : List Line) (k : ℕ) (o : Outcome) (act : Option BackAct) → StandKept start before w → job_turn_keeping w k o ≡ act → IsSafeKeeping (job_after_keeping w k act) → (let n : World = job_after_keeping w k act in Handed (before ++ job_shows_keeping w k act) n.back.halted n.back.jobs)
job_handed start w before k o None s e safe = no_lines before w.back.halted w.back.jobs s.handed
job_handed start w before k o (Some a) s e safe =
    let v : back.View = w.back in
    let new : back.View = job_step_keeping w.back k a.answer in
    let line : Line = lines.Move a.shown in
    let running : is_some v.halted ≡ false = job_running (is_some v.halted) w.under k (ask_keeping v.jobs k) o a e in
    let asks = ap (λ (b : Bool). back_act w.under (mover.Job k) (if b then ask.Wait else ask_keeping v.jobs k) o) (sym running) ∙ e in
    let allowed : IsAnswer (ask_keeping v.jobs k) a.answer = subst (λ (b : Bool). IsAnswer (if b then ask.Wait else ask_keeping v.jobs k) a.answer) running (job_answered_as w.under k (job_ask_keeping v k) o a (jobs_keeping v k) e) in
    let left : AllByRecursion (IsLeft line) (all_hands new.jobs) = all_left before line a.under.grants (aborted v.stage) v.pages new.jobs (act_stands before w.under (mover.Job k) (job_ask_keeping v k) o a s.standing e) safe.held in
    let turn : JobHands before a new.jobs =
    job_hands before w.under v.jobs k o a (place_of v.jobs.works k) (waits_in (may_keep v.jobs.kept) v.jobs.works (place_of v.jobs.works k) (work_of v.jobs.works k)) (work_of v.jobs.works k) refl refl asks allowed
    (told_entire v.jobs k a.answer allowed s.safe.tidy.few) s.safe.tidy.few left (s.handed.hands running) in
    told_after before (back_lines new.told a.answer) line v.halted new.jobs (back_calm new.told a.answer)
    (record { obeys = obeys_more IsHandedAt before line s.handed.obeys turn.mine; hands = λ runs. subst (λ (ls : List Line). InHands ls new.jobs) (sym (epoch_longer before line refl)) turn.hands })

-- a back that begins in a new epoch holds and keeps none
anew : (before : List Line) (halted : Option Halt) (jobs : HeldJobs) → HasNothing jobs → may_keep jobs.kept ≡ false → Obeys IsHandedAt before → Handed (before ++ lines.Epoch ∷ []) halted jobs
anew before halted jobs nothing none obeys = record { obeys = obeys_more IsHandedAt before lines.Epoch obeys tt; hands = λ runs. no_hands (this_epoch (before ++ lines.Epoch ∷ [])) jobs nothing (λ may. absurd (true≢false (sym may ∙ none))) }

suspended_handed : (w : World) (before : List Line) → Obeys IsHandedAt before → (let n : World = suspended w in Handed (before ++ lines.Epoch ∷ []) n.back.halted n.back.jobs)
suspended_handed w before obeys = back_cases (λ (b : back.View). Handed (before ++ lines.Epoch ∷ []) b.halted b.jobs) w (anew before _ _ (refl, refl) refl obeys) (anew before _ _ (refl, refl) refl obeys)

keys_handed : (w : World) (before : List Line) (at : End) (move : KeyMove) (other : Bool) → Handed before w.back.halted w.back.jobs → Handed (before ++ (if other then [] else lines_at w (Negotiates at move))) w.back.halted w.back.jobs
keys_handed w before at move true m = no_lines before w.back.halted w.back.jobs m
keys_handed w before at move false m = aside before (lines_at w (Negotiates at move)) w.back.halted w.back.jobs (outsiders_calm w.back.stage (lines_at w (Negotiates at move)) (beside_outsiders w (Negotiates at move) tt)) m

plainly_handed : (start : ℕ) (w : World) (h : Happening) (before : List Line) → StandKept start before w → (let n : World = plainly_after w h in Handed (before ++ plainly_shows w h) n.back.halted n.back.jobs)
plainly_handed start w FrontMoves before s =
    front_leaves (λ (v : back.View). Handed (before ++ front_shows w (front_turn w)) v.halted v.jobs) w (front_turn w)
    (aside before (front_shows w (front_turn w)) w.back.halted w.back.jobs (outsiders_calm w.back.stage (front_shows w (front_turn w)) (front_outsiders w.back.stage w (front_turn w) refl)) s.handed)
plainly_handed start w BackMoves before s = back_handed start w before (back_turn w Took) s refl
plainly_handed start w (JobMoves number outcome) before s = job_handed start w before number outcome (job_turn_keeping w number outcome) s refl (kept_happens w (Plainly (JobMoves number outcome)) s.safe)
plainly_handed start w (Negotiates at move) before s = keys_handed w before at move (is_other_read w at move) s.handed
plainly_handed start w (BackAttaches shape grefs port) before s =
    attach_cases (λ (new : back.View) (shown : List Line). Handed (before ++ shown) new.halted new.jobs) w shape grefs port
    (λ may layout says. let m : Handed (before ++ lines.Move (layout_read w) ∷ []) w.back.halted w.back.jobs = aside before (lines.Move (layout_read w) ∷ []) w.back.halted w.back.jobs (key_calm who.Back (layout_read w) refl, tt) s.handed in record { obeys = m.obeys; hands = m.hands })
    (no_lines before w.back.halted w.back.jobs s.handed)
plainly_handed start w (BackHalts why) before s =
    let new : back.View = halts_keeping why w.back in
    aside before (halt_shows_keeping w why) new.halted new.jobs (halt_calm w.back.halted new.halted) (halts_jobs (Handed before) why w.back (λ jobs. record { obeys = s.handed.obeys; hands = λ runs. absurd (cc) }) s.handed)
plainly_handed start w Suspends before s =
    suspend_cases (λ (n : World) (shown : List Line). Handed (before ++ shown) n.back.halted n.back.jobs) w (λ may. suspended_handed w before s.handed.obeys) (no_lines before w.back.halted w.back.jobs s.handed)
plainly_handed start w h before s = aside before (lines_at w h) w.back.halted w.back.jobs (outsiders_calm w.back.stage (lines_at w h) (beside_outsiders w h tt)) s.handed

offers_handed : (w : World) (before : List Line) (led : Bool) → Handed before w.back.halted w.back.jobs → (let n : World = if led then offered w else w in Handed (before ++ (if led then offer_line ∷ [] else [])) n.back.halted n.back.jobs)
offers_handed w before true m = let all : Handed (before ++ offer_line ∷ []) w.back.halted w.back.jobs = aside before (offer_line ∷ []) w.back.halted w.back.jobs (offer_calm, tt) m in record { obeys = all.obeys; hands = all.hands }
  where
    offer_calm : IsCalm offer_line
    offer_calm = key_calm who.Back _ refl
offers_handed w before false m = no_lines before w.back.halted w.back.jobs m

-- while it is said how many may be kept, nothing is held or kept
keeps_handed : (start : ℕ) (w : World) (before : List Line) (cap : ℕ) (reads : Bool) → reads_keeping w cap ≡ reads → StandKept start before w → (let n : World = if reads then kept_so w cap else w in Handed (before ++ (if reads then keeping_line w ∷ [] else [])) n.back.halted n.back.jobs)
keeps_handed start w before cap true is s = record {
  obeys = obeys_more IsHandedAt before (keeping_line w) s.handed.obeys tt;
  hands = λ runs. no_hands (this_epoch (before ++ keeping_line w ∷ [])) (let n : World = kept_so w cap in n.back.jobs) nothing (λ may. agreed w before cap s.offers is may);
}
  where
    nothing : HasNothing (let v : back.View = w.back in v.jobs)
    nothing = subst (λ (s' : BackStage). IsCleared s' (let v : back.View = w.back in v.jobs)) (keeps_mapping cap w.back (reads_may w cap is)) s.safe.tidy.cleared
keeps_handed start w before cap false is s = no_lines before w.back.halted w.back.jobs s.handed

handed_happens : (start : ℕ) (w : World) (h : KeepingHappening) (before : List Line) → StandKept start before w → (let n : World = happens_keeping w h in Handed (before ++ shows_keeping w h) n.back.halted n.back.jobs)
handed_happens start w (Plainly h) before s = plainly_handed start w h before s
handed_happens start w BackOffers before s = offers_handed w before (is_led w.back.stage) s.handed
handed_happens start w (BackKeeps cap) before s = keeps_handed start w before cap (reads_keeping w cap) refl s

stand_keeping : (start : ℕ) (w : World) (h : KeepingHappening) (before : List Line) → StandKept start before w → StandKept start (before ++ shows_keeping w h) (happens_keeping w h)
stand_keeping start w h before s = record {
  ring = follows_keeping start w h before (earlier_kept w s.safe) s.ring;
  standing = stands_keeping w h before s.standing;
  safe = kept_happens w h s.safe;
  handed = handed_happens start w h before s;
  offers = offers_keeping w h before s.offers;
}

stand_after : (start : ℕ) (hs : List KeepingHappening) (w : World) (before : List Line) → StandKept start before w → StandKept start (before ++ lines_keeping hs w) (after_keeping hs w)
stand_after start [] w before s = subst (λ (ls : List Line). StandKept start ls w) (sym (append-nil before)) s
stand_after start (h ∷ hs) w before s =
    subst (λ (ls : List Line). StandKept start ls (after_keeping hs (happens_keeping w h))) (append_assoc before (shows_keeping w h) (lines_keeping hs (happens_keeping w h)))
    (stand_after start hs (happens_keeping w h) (before ++ shows_keeping w h) (stand_keeping start w h before s))

pub report_handed : (config : Options) (detail : Detail) (history : List KeepingHappening) → AreHanded (report_keeping config detail history)
report_handed config detail history = all.handed.obeys
  where
    begin : Line
    begin = lines.Begin config detail

    all : StandKept config.start (report_keeping config detail history) (after_keeping history (start_of config))
    all = stand_after config.start history (start_of config) (lines.Begin config detail ∷ []) (record {
      ring = record { follows = follows_begin config detail; told = refl; begins = refl };
      standing = refl;
      safe = kept_start config;
      handed = record { obeys = obeys_more IsHandedAt [] begin (obeys_none IsHandedAt) tt; hands = λ runs. no_hands _ _ (refl, refl) (λ may. absurd (true≢false (sym may))) };
      offers = λ says. absurd (true≢false (sym says));
    })

pub ended_handed : (config : Options) (detail : Detail) (history : List KeepingHappening) → AreHanded (ended_report_keeping config detail history)
ended_handed config detail history = obeys_more IsHandedAt (report_keeping config detail history) lines.End (report_handed config detail history) tt
