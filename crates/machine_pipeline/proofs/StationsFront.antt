-- The steps of the pipeline that the front makes: it connects, begins an entry, pushes it, takes a response and answers.
use Rattle.std.proofs.Common.{◌≡◌, ◌≢◌, ℕ, suc, ◌+◌, ◌-◌, ◌*◌, ◌<◌, ◌≤◌, inl, inr, Bool, true, false, not, cond, List, [], ◌∷◌, ◌++◌, length, drop, refl, ap, sym, ◌∙◌, arith}
use Rattle.std.specs.Prelude.{Option, Some, None, slice_get, slice_set, slice_index, remove}
use Rattle.std.proofs.lemmas.Option.{none-some, same_Some}
use Rattle.std.proofs.lemmas.Bool.{cases_Bool, false≢true, true≢false, cases_eq}
use Rattle.blk_base.specs.Options.{Options}
use Rattle.blk_base.specs.declared.config.Submission.{Submission}
use Rattle.blk_base.specs.declared.operation.Status.{Status}
use Rattle.blk_base.specs.declared.operation.Status.TheVariants.{Okay}
use Rattle.schedule_text.specs.declared.line.Line.{Line}
use Rattle.schedule_text.specs.declared.line.Line.TheVariants as lines
use Rattle.blk_front.specs.declared.request.Request.{Request}
use Rattle.blk_front.specs.declared.request.Transfer.{Transfer}
use Rattle.blk_front.specs.declared.request.Transfer.TheVariants as transfer
use Rattle.blk_front.specs.Request.{is_write, has_data}
use Rattle.blk_front.specs.declared.stage.Ending.{Ending}
use Rattle.back_jobs.specs.Work.{Work}
use Rattle.blk_back.specs.declared.stage.Reply.{Reply}
use Rattle.pipeline_laws.specs.Station.{Station, Waiting, Issuing, Pushed, Fetching, Replying, Replied, Taking, Telling, Finished, PipelineRequest, is_finished, submitted}
use Rattle.pipeline_laws.specs.Move.{answered_station, told_station, words_after, Move, BeginsEntry, Pushes, Takes, Answers, Tells, moved, station_before, station_after, move_lines}
use Rattle.pipeline_laws.specs.Pipeline.{Pipeline, Submits, Moves, Connects, StartsToClose}
use Rattle.pipeline_laws.specs.Disk.{DiskGoes}
use Rattle.pipeline_laws.specs.Allowed.{is_unissued, is_unfetched, refusal_now, May}
use Rattle.machine_pipeline.specs.Step.{IsSame}
use Rattle.machine_pipeline.proofs.Flow.{Flow, worked, submitted_job, data_word}
use Rattle.machine_pipeline.proofs.ReadBack.{IsReadBack, AreReadBack, has_data_at}
use Rattle.machine_pipeline.proofs.ReadsKept.{reads_moved, reads_more}
use Rattle.machine_pipeline.proofs.Lists.{same_words, all_at, pair_at, get_append, get_last, get_within}
use Rattle.machine_pipeline.proofs.Series.{IsSeries, left_more, left_grown, before as index_before, other_place, grown_before}
use Rattle.machine_pipeline.proofs.Holds.{AreReplies, IsReply}
use Rattle.machine_pipeline.proofs.Taking.{dropped, opened_without}
use Rattle.machine_pipeline.proofs.Growing.{more_all, push_was, known_more, opened_more}
use Rattle.machine_pipeline.proofs.Removals.{removed_was}
use Rattle.machine_pipeline.proofs.Turns.{Stepped}
use Rattle.machine_pipeline.proofs.Stations.{StandsAt, AreStations, AllStand, IsTaking, open_front, finishing, kind_of, AreOpen, IsMoved, is_moved, stands_now, stands_too, other_was, other_stays, known_moved, open_moved, issued_moved, unfetched_moved, waiting_moved, pushed_moved, works_moved, held_moved, going_moved, IsGoing, replying_moved, replied_moved, taking_moved, finishing_kind, early_open}

-- a request moves from one station to another: so the step, where what is said of all requests goes on holding
pub moves_on : {config : Options} {g g' : Flow} {d : Pipeline} {connected issuing issuing' fetching fetching' : Bool} {ending ending' : Option Ending} {telling telling' : Option ℕ} {replying replying' : Option Reply} {requests requests' : List Request} {works works' : List Work} {pages : List ℕ} {k : ℕ} {from to : Station} {said : List Line} (x : StandsAt d.requests k from) (move : Move)
    → AreStations config g d connected issuing fetching ending telling replying requests works pages
    → (let q : PipelineRequest = x.q in station_after q.submission move) ≡ to
    → (let q : PipelineRequest = x.q in station_before q.submission move) ≡ from
    → May d k x.q move
    → move_lines k move ≡ said
    → ((a b : List (List ℕ)) → IsSame a b → DiskGoes (Moves k x.q move) a b)
    → g'.closing ≡ g.closing
    → (IsMoved d.requests (slice_set d.requests k (moved x.q move)) k from to → AllStand g'.submitted g'.series g'.pushed g'.fetched g'.replies (slice_set d.requests k (moved x.q move)) issuing' fetching' ending' telling' replying' requests' works')
    → AreReadBack g'.submitted (slice_set d.requests k (moved x.q move)) works' pages
    → Stepped None IsSame d said (λ p. AreStations config g' p connected issuing' fetching' ending' telling' replying' requests' works' pages)
moves_on {connected = connected} {k = k} x move h after before may shows disk closing stand reads = record {
  step = Moves k x.q move;
  allowed = (record { here = x.at; there = x.there ∙ sym before }, may);
  shows = shows;
  asks = refl;
  disk = disk;
  now = record { options = h.options; front = h.front ∙ ap (open_front connected) (sym closing); stand = stand (is_moved x (moved x.q move) after refl); reads = reads };
}

-- the front begins to close
pub starts_to_close : (config : Options) (g : Flow) (d : Pipeline) (connected issuing fetching : Bool) (ending : Option Ending) (telling : Option ℕ) (replying : Option Reply) (requests : List Request) (works : List Work) (pages : List ℕ)
    → g.closing ≡ false
    → AreStations config g d connected issuing fetching ending telling replying requests works pages
    → Stepped None IsSame d (lines.Closing ∷ []) (λ p. AreStations config (record g { closing = true }) p connected issuing fetching ending telling replying requests works pages)
starts_to_close config g d connected issuing fetching ending telling replying requests works pages stays_open h = record {
  step = StartsToClose;
  allowed = rw (h.front, stays_open) refl;
  shows = refl;
  asks = refl;
  disk = λ a b e. e;
  now = record { options = h.options; front = rw h.front refl; stand = h.stand; reads = h.reads };
}

-- the front is connected
pub connects : (config : Options) (g : Flow) (d : Pipeline) (issuing fetching : Bool) (ending : Option Ending) (telling : Option ℕ) (replying : Option Reply) (requests : List Request) (works : List Work) (pages : List ℕ)
    → AreStations config g d false issuing fetching ending telling replying requests works pages
    → Stepped None IsSame d (lines.Ready ∷ []) (λ p. AreStations config g p true issuing fetching ending telling replying requests works pages)
connects config g d issuing fetching ending telling replying requests works pages h = record {
  step = Connects;
  allowed = rw h.front (refl, refl);
  shows = refl;
  asks = refl;
  disk = λ a b e. e;
  now = record { options = h.options; front = rw h.front refl; stand = h.stand; reads = h.reads };
}

-- the next request's entry is begun
pub begins_entry : (config : Options) (g : Flow) (d : Pipeline) (connected fetching : Bool) (ending : Option Ending) (telling : Option ℕ) (replying : Option Reply) (requests : List Request) (works : List Work) (pages : List ℕ) (r : Request)
    → IsSeries g.submitted g.series
    → slice_get g.series g.pushed ≡ Some r
    → AreStations config g d connected false fetching ending telling replying requests works pages
    → Stepped None IsSame d [] (λ p. AreStations config g p connected true fetching ending telling replying requests works pages)
begins_entry config g d connected fetching ending telling replying requests works pages r series next h =
    let x = h.waiting.rest g.pushed r (omega arith) next (λ t. absurd (false≢true t)) in
    moves_on x BeginsEntry h refl refl tt refl (λ a b e. e) refl (λ m. record {
      known = known_moved m h.known;
      opened = open_moved m refl refl h.opened;
      issued = λ j q e some. elim (cases_eq j (r.number - 1)) [
        | inl same ↦ record { index = g.pushed; late = omega arith; r = r; at = next; number = (let positive = series.positive g.pushed r next in omega arith) }
        | inr apart ↦ h.issued j q (sym (m.others j apart) ∙ e) some
      ];
      unfetched = unfetched_moved m (λ t. refl) h.unfetched;
      waiting = record {
        issued = λ t y at. stands_too (λ (z : Request). z.number - 1) (λ (z : Request). Issuing) (same_Some r y (sym next ∙ at)) (stands_now m);
        rest = λ j y le at other. other_stays m (other_place g.submitted g.series j g.pushed y r series at next (other refl)) (h.waiting.rest j y le at (λ t. absurd (false≢true t)));
      };
      pushed = pushed_moved m (omega arith) (omega arith) h.pushed;
      works = works_moved works m (omega arith) h.works;
      held = held_moved works m (omega arith) h.held;
      going = going_moved requests m (λ le. omega arith) h.going;
      replying = replying_moved m (omega arith) h.replying;
      replied = replied_moved g.replies m (omega arith) h.replied;
      taking = taking_moved telling m (omega arith) h.taking;
    }) (reads_moved (is_moved x (moved x.q BeginsEntry) refl refl) refl (λ t. absurd (false≢true t)) h.reads)

-- the entry is pushed
pub pushes : (config : Options) (g : Flow) (d : Pipeline) (connected fetching : Bool) (ending : Option Ending) (telling : Option ℕ) (replying : Option Reply) (requests : List Request) (works : List Work) (pages : List ℕ) (r : Request)
    → IsSeries g.submitted g.series
    → slice_get g.series g.pushed ≡ Some r
    → g.fetched ≤ g.pushed
    → AreStations config g d connected true fetching ending telling replying requests works pages
    → (fetching ≡ true → g.fetched < g.pushed)
    → Stepped None IsSame d [] (λ p. AreStations config (record g { pushed = g.pushed + 1 }) p connected false fetching ending telling replying requests works pages)
pushes config g d connected fetching ending telling replying requests works pages r series next order h before =
    moves_on x Pushes h refl refl (record { none = first }) refl (λ a b e. e) refl (λ m. record {
      known = known_moved m h.known;
      opened = open_moved m refl refl h.opened;
      issued = λ j q e some. let was = other_was (λ (s : Station). is_unissued s ≡ true) j m (λ t. false≢true t) e some in left_more g.series g.pushed k j r next number was.0 (h.issued j q was.1 some);
      unfetched = unfetched_moved m (λ t. refl) h.unfetched;
      waiting = record {
        issued = λ t. absurd (false≢true t);
        rest = λ j y le at other. other_stays m (other_place g.submitted g.series j g.pushed y r series at next (omega arith)) (h.waiting.rest j y (omega arith) at (λ t. omega arith));
      };
      pushed = record {
        copied = λ t y at. other_stays m (other_place g.submitted g.series g.fetched g.pushed y r series at next (let lt = before t in omega arith)) (h.pushed.copied t y at);
        rest = λ j y le lt at other. elim (cases_eq j g.pushed) [
          | inl same ↦ stands_too (λ (z : Request). z.number - 1) (λ (z : Request). Pushed) (same_Some r y (sym next ∙ (ap (slice_get g.series) (sym same) ∙ at))) (stands_now m)
          | inr apart ↦ other_stays m (other_place g.submitted g.series j g.pushed y r series at next apart) (h.pushed.rest j y le (omega arith) at other)
        ];
      };
      works = works_moved works m (omega arith) h.works;
      held = held_moved works m (omega arith) h.held;
      going = going_moved requests m (λ le. omega arith) h.going;
      replying = replying_moved m (omega arith) h.replying;
      replied = replied_moved g.replies m (omega arith) h.replied;
      taking = taking_moved telling m (omega arith) h.taking;
    }) (reads_moved (is_moved x (moved x.q Pushes) refl refl) refl (λ t. absurd (false≢true t)) h.reads)
  where
    k : ℕ
    k = r.number - 1

    number : r.number ≡ k + 1
    number = let positive = series.positive g.pushed r next in omega arith

    x : StandsAt d.requests k Issuing
    x = h.waiting.issued refl r next

    -- one before it was issued, as the series ascends
    first : (j : ℕ) (y : PipelineRequest) → j < k → slice_get d.requests j ≡ Some y → is_unissued y.station ≡ false
    first j y lt e = elim (cases_Bool (is_unissued y.station)) [
      | inl t ↦
          let left = h.issued j y e t in
          absurd (omega (arith, left.late, (index_before g.series left.index g.pushed left.r r series.ascending left.at next (omega (arith, left.number, lt)))))
      | inr f ↦ f
    ]

-- the oldest response is taken
pub takes : (config : Options) (g : Flow) (d : Pipeline) (connected issuing fetching : Bool) (replying : Option Reply) (requests : List Request) (works : List Work) (pages : List ℕ) (place : ℕ) (r : Request) (rep : Reply) (e : Ending)
    → slice_get g.replies 0 ≡ Some rep
    → slice_get requests place ≡ Some r
    → rep.id ≡ r.number
    → e ≡ record { request = r; status = rep.status }
    → ((i : ℕ) (y : Request) → i ≢ place → slice_get requests i ≡ Some y → y.number - 1 ≢ rep.id - 1)
    → AreReplies g.series g.fetched g.taken g.replied g.replies
    → AreStations config g d connected issuing fetching None None replying requests works pages
    → Stepped None IsSame d [] (λ p. AreStations config (record g { taken = g.taken + 1; replies = drop 1 g.replies }) p connected issuing fetching (Some e) None replying (remove requests place) works pages)
takes config g d connected issuing fetching replying requests works pages place r rep e oldest found number made apart replies h =
    let x = h.replied 0 rep oldest in
    moves_on x (Takes rep.status) h refl refl tt refl (λ a b e. e) refl (λ m. record {
      known = known_moved m h.known;
      opened = opened_without _ requests place r e found (ap (λ (y : Ending). y.request.number) made) (open_moved m refl refl h.opened);
      issued = issued_moved m refl h.issued;
      unfetched = unfetched_moved m (λ t. absurd (false≢true t)) h.unfetched;
      waiting = waiting_moved m (omega arith) h.waiting;
      pushed = pushed_moved m (omega arith) (omega arith) h.pushed;
      works = works_moved works m (omega arith) h.works;
      held = held_moved works m (omega arith) h.held;
      going = λ i y at. let was = removed_was requests place i y at in let stood = h.going was.0 y was.2 in record { q = stood.q; at = m.others (y.number - 1) (apart was.0 y was.1 was.2) ∙ stood.at; early = stood.early };
      replying = replying_moved m (omega arith) h.replying;
      -- a response that is left is that of another request
      replied = λ i other at.
          let before = sym (dropped g.replies i) ∙ at in
          let first = all_at (IsReply g.series g.fetched) g.replies 0 rep replies.each oldest in
          let second = all_at (IsReply g.series g.fetched) g.replies (suc i) other replies.each before in
          other_stays m (λ same. pair_at (λ (a b : Reply). a.id ≢ b.id) g.replies 0 (suc i) rep other replies.distinct (omega arith) oldest before
          (omega (arith, same, first.positive, second.positive))) (h.replied (suc i) other before);
      taking = λ f same.
          let it : f ≡ record { request = r; status = rep.status } = sym (same_Some e f same) ∙ made in
          stands_too (λ (y : Ending). y.request.number - 1) (λ (y : Ending). Taking y.status) (sym it) (stands_too (λ (n : ℕ). n - 1) (λ (n : ℕ). Taking rep.status) number (stands_now m));
    }) (reads_moved (is_moved x (moved x.q (Takes rep.status)) refl refl) refl (λ t. t) h.reads)

-- a request of which all was told is finished
opened_finished : {asked finished : List PipelineRequest} {k : ℕ} {from : Station} {status : Status} {requests : List Request} (e : Ending)
    → IsMoved asked finished k from (Finished status)
    → is_finished from ≡ false
    → e.request.number ≡ k + 1
    → AreOpen asked requests (Some e)
    → AreOpen finished requests None
opened_finished {finished = finished} {k = k} {from = from} {requests = requests} e m unfinished number h =
    let was : ◌≡◌ {A = ℕ} (cond (not (is_finished from)) 1 0) 1 = rw unfinished refl in
    record {
      unfinished = omega (arith, m.counted, h.unfinished, was);
      held = λ j q at going. elim (cases_eq j k) [
        | inl same ↦
            let one : m.now ≡ q = same_Some m.now q (sym m.here ∙ ap (slice_get finished) (sym same) ∙ at) in
            absurd (true≢false (sym (ap is_finished m.there) ∙ (ap (λ (x : PipelineRequest). is_finished x.station) one ∙ going)))
        | inr other ↦ (elim (h.held j q (sym (m.others j other) ∙ at) going) [
          | inl any ↦ inl any
          | inr it ↦ absurd (other (omega (arith, number, it.2, ap (λ (x : Ending). x.request.number) (same_Some e it.0 it.1))))
        ])
      ];
    }

-- the sector that is told next of a request, if one is: it is finished else
abbrev pub told_ending : Ending → Option ℕ → Option Ending
told_ending e None = None
told_ending e (Some next) = Some e

abbrev pub told_on : Status → Option ℕ → Station
told_on status None = Finished status
told_on status (Some next) = Telling next

-- a request whose response was taken moves on
tells_on : {config : Options} {g : Flow} {d : Pipeline} {connected issuing fetching : Bool} {telling : Option ℕ} {replying : Option Reply} {requests : List Request}
    {works : List Work} {pages : List ℕ} {said : List Line} (e : Ending) (move : Move) (next : Option ℕ) (status : Status)
    → (h : AreStations config g d connected issuing fetching (Some e) telling replying requests works pages)
    → 1 ≤ e.request.number
    → (let x = h.taking e refl in let q : PipelineRequest = x.q in (station_after q.submission move ≡ told_on status next) × (station_before q.submission move ≡ finishing telling e.status)
    × May d (e.request.number - 1) q move × (words_after move q.words ≡ q.words))
    → move_lines (e.request.number - 1) move ≡ said
    → ((a b : List (List ℕ)) → IsSame a b → DiskGoes (Moves (e.request.number - 1) (let x = h.taking e refl in x.q) move) a b)
    → (has_data_at (told_on status next) ≡ true → has_data_at (finishing telling e.status) ≡ true)
    → Stepped None IsSame d said (λ p. AreStations config g p connected issuing fetching (told_ending e next) next replying requests works pages)
tells_on {g = g} {telling = telling} {requests = requests} {works = works} e move next status h positive stands shows disk kept =
    let x = h.taking e refl in
    let kind = finishing_kind telling e.status in
    let early = early_open (finishing telling e.status) (omega (arith, kind)) in
    moves_on x move h stands.0 stands.1 stands.2 shows disk refl (λ m. let left = by_next next m in record {
      known = known_moved m h.known;
      opened = left.0 early h.opened;
      issued = issued_moved m left.3 h.issued;
      unfetched = unfetched_moved m (λ t. absurd (false≢true (sym left.4 ∙ t))) h.unfetched;
      waiting = waiting_moved m (omega (arith, kind)) h.waiting;
      pushed = pushed_moved m (omega (arith, kind)) (omega (arith, kind)) h.pushed;
      works = works_moved works m (omega (arith, kind)) h.works;
      held = held_moved works m (omega (arith, left.2)) h.held;
      going = going_moved requests m (λ le. absurd (omega (arith, kind, le))) h.going;
      replying = replying_moved m (omega (arith, kind)) h.replying;
      replied = replied_moved g.replies m (omega (arith, kind)) h.replied;
      taking = left.1;
    }) (reads_moved (is_moved x (moved x.q move) stands.0 refl) stands.3 kept h.reads)
  where
    by_next : {asked after : List PipelineRequest} {from : Station} (n : Option ℕ) (m : IsMoved asked after (e.request.number - 1) from (told_on status n))
        → (is_finished from ≡ false → AreOpen asked requests (Some e) → AreOpen after requests (told_ending e n))
        × IsTaking (told_ending e n) n after × (7 ≤ kind_of (told_on status n)) × (is_unissued (told_on status n) ≡ false) × (is_unfetched (told_on status n) ≡ false)
    by_next None m = (λ early. opened_finished e m early (omega arith), λ f same. absurd (none-some f same), omega arith, refl, refl)
    by_next (Some n) m =
        (λ early. open_moved m early refl, λ f same. stands_too (λ (y : Ending). y.request.number - 1) (λ (y : Ending). Telling n) (same_Some e f same) (stands_now m), omega arith, refl, refl)

-- its answer is told, with which it is finished, but for a read that went well: its data are told after it
pub unread : (way : Transfer) (sector count : ℕ) (status : Status) → has_data way status ≡ false → answered_station (submitted_job way sector count) status ≡ Finished status
unread transfer.Read sector count Okay none = cc
unread way sector count status none = refl

pub read_well : (way : Transfer) (sector count : ℕ) (status : Status) → has_data way status ≡ true → answered_station (submitted_job way sector count) status ≡ Telling 0
read_well transfer.Read sector count Okay all = refl
read_well way sector count status all = cc

pub answers : (config : Options) (g : Flow) (d : Pipeline) (connected issuing fetching : Bool) (replying : Option Reply) (requests : List Request) (works : List Work) (pages : List ℕ) (e : Ending) (next : Option ℕ)
    → slice_get g.submitted (e.request.number - 1) ≡ Some e.request
    → 1 ≤ e.request.number
    → answered_station (submitted_job e.request.transfer e.request.sector e.request.count) e.status ≡ told_on e.status next
    → (has_data_at (told_on e.status next) ≡ true → e.status ≡ Okay)
    → AreStations config g d connected issuing fetching (Some e) None replying requests works pages
    → Stepped None IsSame d (lines.Answer e.request.number e.status ∷ []) (λ p. AreStations config g p connected issuing fetching (told_ending e next) next replying requests works pages)
answers config g d connected issuing fetching replying requests works pages e next asked positive after okay h =
    let x = h.taking e refl in
    let job = h.known.each (e.request.number - 1) e.request x.q asked x.at in
    tells_on e (Answers e.status) next e.status h positive (rw job after, refl, tt, refl) (ap (λ (n : ℕ). lines.Answer n e.status ∷ []) (omega arith)) (λ a b same. same)
    (λ t. rw (okay t) refl)

-- a sector that its frames hold is one of those that its job read
noted_at : (pages words : List ℕ) (r : Request) (i : ℕ) (noted : List (List ℕ))
    → IsReadBack pages r r.count noted
    → i < r.count
    → length words ≡ 128
    → ((j : ℕ) → j < 128 → slice_index words j ≡ data_word pages r (128 * i + j))
    → slice_get noted i ≡ Some words
noted_at pages words r i noted back lt size same =
    let there = get_within noted i (omega (arith, back.counted)) in
    let held = back.sectors i there.0 there.1 in
    let these : there.0 ≡ words = same_words there.0 words (held.size ∙ sym size)
    (λ j few. sym (held.held j (omega (arith, held.size))) ∙ sym (same j (omega (arith, held.size)))) in
    there.1 ∙ ap Some these

-- one of its sectors is told, the words that its frames hold: the next one is told then, or it is finished
pub tells : (config : Options) (g : Flow) (d : Pipeline) (connected issuing fetching : Bool) (replying : Option Reply) (requests : List Request) (works : List Work) (pages words : List ℕ) (e : Ending) (i : ℕ) (next : Option ℕ)
    → slice_get g.submitted (e.request.number - 1) ≡ Some e.request
    → 1 ≤ e.request.number
    → e.request.transfer ≡ transfer.Read
    → i < e.request.count
    → told_station (submitted_job transfer.Read e.request.sector e.request.count) i ≡ told_on Okay next
    → length words ≡ 128
    → ((j : ℕ) → j < 128 → slice_index words j ≡ data_word pages e.request (128 * i + j))
    → AreStations config g d connected issuing fetching (Some e) (Some i) replying requests works pages
    → Stepped None IsSame d (lines.Data e.request.number i words ∷ []) (λ p. AreStations config g p connected issuing fetching (told_ending e next) next replying requests works pages)
tells config g d connected issuing fetching replying requests works pages words e i next asked positive way within after size same h =
    let x = h.taking e refl in
    let job = h.known.each (e.request.number - 1) e.request x.q asked x.at in
    let back = h.reads.after (e.request.number - 1) e.request x.q asked x.at (ap is_write way) (ap has_data_at x.there) in
    tells_on e (Tells i words) next Okay h positive (rw (job, way) after, refl, noted_at pages words e.request i _ back within size same, refl)
    (ap (λ (n : ℕ). lines.Data n i words ∷ []) (omega arith)) (λ a b same. same) (λ t. refl)

-- a request more is submitted
stands_more : (asked : List PipelineRequest) (q : PipelineRequest) (k : ℕ) (station : Station) → StandsAt asked k station → StandsAt (asked ++ q ∷ []) k station
stands_more asked q k station x = record { q = x.q; at = get_append asked (q ∷ []) k x.q x.at; there = x.there }

pub submits : (config : Options) (g : Flow) (d : Pipeline) (connected issuing fetching : Bool) (ending : Option Ending) (telling : Option ℕ) (replying : Option Reply) (requests : List Request) (works : List Work) (pages : List ℕ) (x : Request)
    → x.number ≡ length d.requests + 1
    → g.pushed ≤ length g.series
    → g.fetched ≤ g.pushed
    → (issuing ≡ true → g.pushed < length g.series)
    → (fetching ≡ true → g.fetched < g.pushed)
    → refusal_now d (submitted_job x.transfer x.sector x.count) ≡ None
    → AreStations config g d connected issuing fetching ending telling replying requests works pages
    → Stepped (Some (submitted_job x.transfer x.sector x.count)) IsSame d (lines.Submit x.number (submitted_job x.transfer x.sector x.count) ∷ []) (λ p. AreStations config (record g { submitted = g.submitted ++ x ∷ []; series = g.series ++ x ∷ [] }) p connected issuing fetching ending telling replying (requests ++ x ∷ []) works pages)
submits config g d connected issuing fetching ending telling replying requests works pages x number few order some_issued some_fetched accepted h = record {
  step = Submits job;
  allowed = accepted;
  shows = ap (λ (n : ℕ). lines.Submit n job ∷ []) (sym number);
  asks = refl;
  disk = λ a b e. e;
  now = record {
    options = h.options;
    front = h.front;
    stand = record {
      known = known_more g.submitted d.requests x (submitted job) refl h.known;
      opened = opened_more d.requests requests ending x (submitted job) refl number h.opened;
      issued = λ j q e some. elim (push_was d.requests (submitted job) j q e) [
        | inl was ↦ left_grown g.series x (h.issued j q was some)
        | inr new ↦ record { index = length g.series; late = few; r = x; at = get_last g.series x; number = omega (arith, number, new.0) }
      ];
      unfetched = λ j q e some. elim (push_was d.requests (submitted job) j q e) [
        | inl was ↦ left_grown g.series x (h.unfetched j q was some)
        | inr new ↦ record { index = length g.series; late = omega arith; r = x; at = get_last g.series x; number = omega (arith, number, new.0) }
      ];
      waiting = record {
        issued = λ t r at. stands_more d.requests (submitted job) (r.number - 1) Issuing (h.waiting.issued t r (sym (grown_before g.series x g.pushed (some_issued t)) ∙ at));
        rest = λ j r le at. more_all (λ (i : ℕ) (y : Request). g.pushed ≤ i → (issuing ≡ true → i ≢ g.pushed) → StandsAt (d.requests ++ submitted job ∷ []) (y.number - 1) Waiting) g.series x
            (λ i y was up other. stands_more d.requests (submitted job) (y.number - 1) Waiting (h.waiting.rest i y up was other)) (λ up other. stands_last) j r at le;
      };
      pushed = record {
        copied = λ t r at. stands_more d.requests (submitted job) (r.number - 1) Fetching (h.pushed.copied t r (sym (grown_before g.series x g.fetched (let lt = some_fetched t in omega arith)) ∙ at));
        rest = λ j r le lt at other. stands_more d.requests (submitted job) (r.number - 1) Pushed (h.pushed.rest j r le lt (sym (grown_before g.series x j (omega arith)) ∙ at) other);
      };
      works = λ i t e. stands_more d.requests (submitted job) (t.id - 1) (worked t.stage t.moved) (h.works i t e);
      going = more_all (λ (i : ℕ) (y : Request). IsGoing (d.requests ++ submitted job ∷ []) (y.number - 1)) requests x
          (λ i y at. let stood = h.going i y at in record { q = stood.q; at = get_append d.requests (submitted job ∷ []) (y.number - 1) stood.q stood.at; early = stood.early })
          (record { q = stands_last.q; at = stands_last.at; early = omega (arith, ap kind_of stands_last.there) });
      held = λ j q at kind. elim (push_was d.requests (submitted job) j q at) [ inl was ↦ h.held j q was kind | inr new ↦ absurd (let none = ap (λ (y : PipelineRequest). kind_of y.station) new.1 in omega (arith, none, kind)) ];
      replying = λ rep e. stands_more d.requests (submitted job) (rep.id - 1) (Replying rep.status) (h.replying rep e);
      replied = λ i rep e. stands_more d.requests (submitted job) (rep.id - 1) (Replied rep.status) (h.replied i rep e);
      taking = λ e same. stands_more d.requests (submitted job) (e.request.number - 1) (finishing telling e.status) (h.taking e same);
    };
    reads = reads_more g.submitted d.requests works pages x (submitted job) h.known.as_many refl (λ i t at. let stands = h.works i t at in (stands.q, stands.at)) h.reads;
  };
}
  where
    job : Submission
    job = submitted_job x.transfer x.sector x.count

    stands_last : StandsAt (d.requests ++ submitted job ∷ []) (x.number - 1) Waiting
    stands_last =
        let at : length d.requests ≡ x.number - 1 = omega (arith, number) in
        record { q = submitted job; at = ap (slice_get (d.requests ++ submitted job ∷ [])) (sym at) ∙ get_last d.requests (submitted job); there = refl }
