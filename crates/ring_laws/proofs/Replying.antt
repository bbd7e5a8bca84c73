-- A move of the back leaves what it answered and is answering different jobs, each of them over.
use Rattle.std.proofs.Common.{◌≡◌, ℕ, ◌+◌, ◌%◌, ◌^◌, ◌<◌, ◌≤◌, ◌==◌, Bool, true, false, if◌then◌else◌, List, [], ◌∷◌, ◌++◌, remove, refl, sym, ap, ◌∙◌, subst, arith, append-nil}
use Rattle.std.specs.Prelude.{Option, Some, None, is_some, slice_get, position, nat_lt, length}
use Rattle.std.specs.Option.{option_and_then}
use Rattle.std.specs.List.{AllByRecursion}
use Rattle.std.proofs.lemmas.Option.{none-some, same_Some}
use Rattle.std.proofs.lemmas.List.{map-append}
use Rattle.ring_words.specs.Shape.{entry_words_of}
use Rattle.blk_base.specs.declared.operation.Status.{Status}
use Rattle.blk_base.specs.declared.ask.BackAnswer.TheVariants as answers
use Rattle.blk_base.specs.declared.ask.BackAnswer.{BackAnswer}
use Rattle.blk_layout.specs.Entry.{request_of}
use Rattle.schedule_text.specs.declared.line.Line.{Line}
use Rattle.segment_list.specs.Verdict.{verdict_of}
use Rattle.back_jobs.specs.Work.{Work, begun}
use Rattle.back_jobs.specs.Jobs.{is_done, response_of, response_at, work_at, removed_at}
use Rattle.back_jobs.specs.declared.stage.JobStage.TheVariants as job_stage
use Rattle.back_jobs.specs.declared.stage.JobStage.{JobStage}
use Rattle.blk_back.specs.View.{View}
use Rattle.blk_back.specs.Ask.{next_reply, reply_of}
use Rattle.blk_back.specs.Step.{at, looked, loop_step, fetched, next_number, step_at}
use Rattle.blk_back.specs.declared.stage.Reply.{Reply}
use Rattle.blk_back.specs.declared.stage.BackStage.TheVariants as stage
use Rattle.blk_back.specs.declared.stage.BackStage.{BackStage}
use Rattle.ring_words.specs.Ring.{requests_of, overruns, notifies}
use Rattle.ring_laws.proofs.Knows.{KnowsAt}
use Rattle.ring_laws.proofs.Shows.{Sight}
use Rattle.ring_laws.proofs.Began.{Terms, IsJobOf}
use Rattle.ring_laws.proofs.Lists.{AreApart, all_first, all_second, all_both}
use Rattle.ring_laws.proofs.Works.{AreJobs, numbers}
use Rattle.ring_laws.proofs.BackTells.{begun_number}
use Rattle.ring_laws.proofs.Due.{Answered, response_in, answered_then, job_answered, jobs_of}
use Rattle.ring_laws.proofs.Owed.{IsOwed, Owes, owes_begun, owes_fetched}

-- the reply under way, and the job that it answers
abbrev pub pending : ℕ → Reply → Answered
pending k r = record { job = k; response = response_in r; producer = 0 }

abbrev pub pending_at : BackStage → ℕ → List Answered
pending_at (stage.ReplyHigh r) k = pending k r ∷ []
pending_at (stage.ReplyLast r) k = pending k r ∷ []
pending_at (stage.Producer r) k = pending k r ∷ []
pending_at s k = []

-- the job whose reply begins
pub record IsReplyOf (works : List Work) (r : Reply) : Type 0 where
  pub place : ℕ
  pub job : Work
  pub status : Status
  pub lowest : position (λ (t : Work). is_done t) works ≡ Some place
  pub found : slice_get works place ≡ Some job
  pub stage : job.stage ≡ job_stage.Done status
  pub is : response_in r ≡ record { id = job.id; op = job.op; status = status }

pub done_found : (works : List Work) (r : Reply) → reply_of (option_and_then response_of (work_at works (position (λ (t : Work). is_done t) works))) ≡ Some r → IsReplyOf works r
done_found works r = by_place (position (λ (t : Work). is_done t) works) refl
  where
    by_stage : (i : ℕ) (t : Work) (s : JobStage) → position (λ (u : Work). is_done u) works ≡ Some i → slice_get works i ≡ Some t → t.stage ≡ s → reply_of (response_at s t) ≡ Some r → IsReplyOf works r
    by_stage i t (job_stage.Done status) p f s e = record { place = i; job = t; status = status; lowest = p; found = f; stage = s; is = ap response_in (sym (same_Some _ r e)) }
    by_stage i t s p f is e = absurd (none-some r e)

    by_work : (i : ℕ) (found : Option Work) → position (λ (t : Work). is_done t) works ≡ Some i → slice_get works i ≡ found → reply_of (option_and_then response_of found) ≡ Some r → IsReplyOf works r
    by_work i None p f e = absurd (none-some r e)
    by_work i (Some t) p f e = by_stage i t t.stage p f refl e

    by_place : (place : Option ℕ) → position (λ (t : Work). is_done t) works ≡ place → reply_of (option_and_then response_of (work_at works place)) ≡ Some r → IsReplyOf works r
    by_place None p e = absurd (none-some r e)
    by_place (Some i) p e = by_work i (slice_get works i) p refl e

-- what the back answered and is answering, unless it has halted
abbrev pub IsOwing : Terms → List ℕ → List Line → List Answered → ℕ → View → Type 0
IsOwing terms values epoch answered k v = is_some v.halted ≡ false → Owes terms values epoch v.fetched v.jobs.works (answered ++ pending_at v.stage k)

either : (terms : Terms) (values : List ℕ) (epoch : List Line) (answered : List Answered) (k : ℕ) (b : Bool) (x y : View) → IsOwing terms values epoch answered k x → IsOwing terms values epoch answered k y → IsOwing terms values epoch answered k (if b then x else y)
either terms values epoch answered k true x y p q = p
either terms values epoch answered k false x y p q = q

over : {A : Type 0} (b : Bool) → b ≡ true → b ≡ false → A
over b p q = absurd (cc)

-- the same, where nothing is under way
abbrev IsResting : Terms → List ℕ → List Line → List Answered → View → Type 0
IsResting terms values epoch answered v = is_some v.halted ≡ false → Owes terms values epoch v.fetched v.jobs.works (answered ++ [])

-- the producer was read
looked_owes : (terms : Terms) (values : List ℕ) (epoch : List Line) (answered : List Answered) (k : ℕ) (v : View) (word : ℕ) (otherwise : View) → IsResting terms values epoch answered v → IsOwing terms values epoch answered k otherwise → IsOwing terms values epoch answered k (looked v word otherwise)
looked_owes terms values epoch answered k v word otherwise o p =
    either terms values epoch answered k (overruns v.ring.indices word) _ _ (λ runs. over true refl runs)
    (either terms values epoch answered k (word == v.ring.indices.cons) _ _ p (λ runs. o runs))

-- what a move of the back finds, as long as it hasn't halted: the lines after it tell the jobs that it held, of low numbers, and those that it holds then; and the job whose reply begins is over
pub record Finds (terms : Terms) (values : List ℕ) (epoch : List Line) (v : View) (new : View) : Type 0 where
  pub small : v.fetched < 2 ^ 64
  pub low : AllByRecursion (λ (n : ℕ). n ≤ v.fetched) (numbers v.jobs.works)
  pub later : is_some new.halted ≡ false → AreJobs terms values epoch new.fetched new.jobs.works
  pub done : (r : Reply) (d : IsReplyOf v.jobs.works r) → IsOwed terms values epoch (let t : Work = d.job in pending t.number r)
  pub lower : (r : Reply) (d : IsReplyOf v.jobs.works r) → (let t : Work = d.job in t.number ≤ v.fetched)

-- the job of an entry that was read to its end
begins : (terms : Terms) (values : List ℕ) (epoch : List Line) (answered : List Answered) (k : ℕ) (v : View) (words : List ℕ) → (is_some v.halted ≡ false → Finds terms values epoch v (fetched v words)) → IsResting terms values epoch answered v → IsOwing terms values epoch answered k (fetched v words)
begins terms values epoch answered k v words finds o runs =
    let f : Finds terms values epoch v (fetched v words) = finds runs in
    let t : Work = begun (next_number v) (request_of v.shape.abi words) v.jobs.info.sectors (verdict_of (request_of v.shape.abi words) v.jobs.info) in
    let number = begun_number (next_number v) v.jobs.info.sectors (request_of v.shape.abi words) (verdict_of (request_of v.shape.abi words) v.jobs.info) in
    let jobs = f.later runs in
    let j : IsJobOf terms values epoch (begun (next_number v) (request_of v.shape.abi words) v.jobs.info.sectors (verdict_of (request_of v.shape.abi words) v.jobs.info)) = (all_second (IsJobOf terms values epoch) v.jobs.works (begun (next_number v) (request_of v.shape.abi words) v.jobs.info.sectors (verdict_of (request_of v.shape.abi words) v.jobs.info) ∷ []) jobs.each).0 in
    let first : 1 ≤ next_number v = subst (λ (n : ℕ). 1 ≤ n) number j.first in
    let next : next_number v ≡ v.fetched + 1 = above v.fetched f.small first in
    subst (λ (n : ℕ). Owes terms values epoch n (v.jobs.works ++ begun (next_number v) (request_of v.shape.abi words) v.jobs.info.sectors (verdict_of (request_of v.shape.abi words) v.jobs.info) ∷ []) (answered ++ [])) (sym next)
    (owes_fetched terms values epoch v.fetched v.jobs.works (answered ++ []) (begun (next_number v) (request_of v.shape.abi words) v.jobs.info.sectors (verdict_of (request_of v.shape.abi words) v.jobs.info)) (number ∙ next) f.low (o runs))
  where
    above : (n : ℕ) → n < 2 ^ 64 → 1 ≤ (n + 1) % 2 ^ 64 → (n + 1) % 2 ^ 64 ≡ n + 1
    above n lt some = omega arith

-- so it is after a move, with some job under way
pub record OwesThen (terms : Terms) (values : List ℕ) (epoch : List Line) (answered : List Answered) (v : View) : Type 0 where
  pub job : ℕ
  pub owes : IsOwing terms values epoch answered job v

stays : (terms : Terms) (values : List ℕ) (epoch : List Line) (answered : List Answered) (k : ℕ) (v : View) → IsOwing terms values epoch answered k v → OwesThen terms values epoch answered v
stays terms values epoch answered k v o = record { job = k; owes = o }

-- the reply begins
replies : (terms : Terms) (values : List ℕ) (epoch : List Line) (answered : List Answered) (v : View) (r : Reply) (a : BackAnswer) → next_reply v ≡ Some r → (is_some v.halted ≡ false → Finds terms values epoch v (loop_step v (Some r) a)) → IsResting terms values epoch answered v
    → OwesThen terms values epoch answered (loop_step v (Some r) a)
replies terms values epoch answered v r a e finds o =
    let d : IsReplyOf v.jobs.works r = done_found v.jobs.works r e in
    let t : Work = d.job in
    record { job = t.number; owes = λ runs. subst (λ (p : Option ℕ). Owes terms values epoch v.fetched (removed_at v.jobs.works p) (answered ++ pending t.number r ∷ [])) (sym d.lowest) (begun_reply d (finds runs) (o runs)) }
  where
    begun_reply : (d : IsReplyOf v.jobs.works r) → Finds terms values epoch v (loop_step v (Some r) a) → Owes terms values epoch v.fetched v.jobs.works (answered ++ []) → (let t : Work = d.job in Owes terms values epoch v.fetched (remove v.jobs.works d.place) (answered ++ pending t.number r ∷ []))
    begun_reply d f rest =
        let t : Work = d.job in
        let nothing : Owes terms values epoch v.fetched v.jobs.works answered = subst (λ (l : List Answered). Owes terms values epoch v.fetched v.jobs.works l) (append-nil answered) rest in
        owes_begun terms values epoch v.fetched v.jobs.works answered d.place d.job (pending t.number r) d.found refl (f.lower r d) (f.done r d) nothing

-- the stage stays
as_it_was : (terms : Terms) (values : List ℕ) (epoch : List Line) (answered : List Answered) (k : ℕ) (s : BackStage) (v : View) → v.stage ≡ s → Owes terms values epoch v.fetched v.jobs.works (answered ++ pending_at s k) → Owes terms values epoch v.fetched v.jobs.works (answered ++ pending_at v.stage k)
as_it_was terms values epoch answered k s v here o = subst (λ (q : BackStage). Owes terms values epoch v.fetched v.jobs.works (answered ++ pending_at q k)) (sym here) o

loop_owes : (terms : Terms) (values : List ℕ) (epoch : List Line) (answered : List Answered) (k : ℕ) (v : View) (next : Option Reply) (a : BackAnswer) → v.stage ≡ stage.Loop → next_reply v ≡ next → (is_some v.halted ≡ false → Finds terms values epoch v (loop_step v next a)) → IsResting terms values epoch answered v
    → OwesThen terms values epoch answered (loop_step v next a)
loop_owes terms values epoch answered k v (Some r) a here e finds o = replies terms values epoch answered v r a e finds o
loop_owes terms values epoch answered k v None (answers.Word word) here e finds o =
    stays terms values epoch answered k _
    (either terms values epoch answered k (requests_of v.ring.indices v.ring.seen == 0) (looked v word (record v { ring = record v.ring { seen = word }; stage = stage.StoreEvent })) (record v { ring = record v.ring { entry = word ∷ [] }; stage = stage.Fetch 1 })
    (looked_owes terms values epoch answered k v word (record v { ring = record v.ring { seen = word }; stage = stage.StoreEvent }) o (λ runs. o runs)) (λ runs. o runs))
loop_owes terms values epoch answered k v None answers.Event here e finds o = stays terms values epoch answered k (record v { ring = record v.ring { asleep = false } }) (λ runs. as_it_was terms values epoch answered k stage.Loop v here (o runs))
loop_owes terms values epoch answered k v None a here e finds o = stays terms values epoch answered k v (λ runs. as_it_was terms values epoch answered k stage.Loop v here (o runs))

fetch_owes : (terms : Terms) (values : List ℕ) (epoch : List Line) (answered : List Answered) (k n word : ℕ) (v : View) (last : Bool) → (is_some v.halted ≡ false → Finds terms values epoch v (if last then fetched v (v.ring.entry ++ word ∷ []) else record v { ring = record v.ring { entry = v.ring.entry ++ word ∷ [] }; stage = stage.Fetch (n + 1) }))
    → IsResting terms values epoch answered v → IsOwing terms values epoch answered k (if last then fetched v (v.ring.entry ++ word ∷ []) else record v { ring = record v.ring { entry = v.ring.entry ++ word ∷ [] }; stage = stage.Fetch (n + 1) })
fetch_owes terms values epoch answered k n word v true finds o = begins terms values epoch answered k v (v.ring.entry ++ word ∷ []) finds o
fetch_owes terms values epoch answered k n word v false finds o = λ runs. o runs

-- the reply is pushed: it is told with the producer after it
pushed : (terms : Terms) (values : List ℕ) (epoch : List Line) (answered : List Answered) (k producer fetched : ℕ) (works : List Work) (r : Reply) → Owes terms values epoch fetched works (answered ++ pending k r ∷ [])
    → Owes terms values epoch fetched works ((answered ++ record { job = k; response = response_in r; producer = producer } ∷ []) ++ [])
pushed terms values epoch answered k producer fetched works r o =
    let a : Answered = record { job = k; response = response_in r; producer = producer } in
    let jobs : jobs_of (answered ++ pending k r ∷ []) ≡ jobs_of ((answered ++ record { job = k; response = response_in r; producer = producer } ∷ []) ++ []) = map-append job_answered answered (pending k r ∷ []) ∙ (sym (map-append job_answered answered (a ∷ [])) ∙ ap jobs_of (sym (append-nil (answered ++ a ∷ [])))) in
    let last : IsOwed terms values epoch (pending k r) = (all_second (IsOwed terms values epoch) answered (pending k r ∷ []) o.each).0 in
    record {
      each = all_both (IsOwed terms values epoch) (answered ++ a ∷ []) [] (all_both (IsOwed terms values epoch) answered (a ∷ []) (all_first (IsOwed terms values epoch) answered (pending k r ∷ []) o.each) (last, tt)) tt;
      apart = subst (λ (ns : List ℕ). AreApart (ns ++ numbers works)) jobs o.apart;
      low = subst (λ (ns : List ℕ). AllByRecursion (λ (n : ℕ). n ≤ fetched) ns) jobs o.low;
    }

pub owes_at : (terms : Terms) (values : List ℕ) (epoch : List Line) (answered : List Answered) (k : ℕ) (s : BackStage) (v : View) (x : Sight) (a : BackAnswer) → v.stage ≡ s → KnowsAt s x v → (is_some v.halted ≡ false → Finds terms values epoch v (step_at s v a))
    → (is_some v.halted ≡ false → Owes terms values epoch v.fetched v.jobs.works (answered ++ pending_at s k)) → OwesThen terms values epoch (answered_then s answered k v.ring.indices.prod) (step_at s v a)
owes_at terms values epoch answered k stage.MapRing v x (answers.Mapped m) here knows finds o = stays terms values epoch answered k _ (either_stage (nat_lt (length v.pages + 1) (length v.grefs)))
  where
    either_stage : (b : Bool) → IsOwing terms values epoch answered k (record v { pages = v.pages ++ m ∷ []; stage = if b then stage.MapRing else stage.Bind })
    either_stage true = λ runs. o runs
    either_stage false = λ runs. o runs
owes_at terms values epoch answered k stage.MapRing v x (answers.MapRefused status) here knows finds o = stays terms values epoch answered k _ (λ runs. over true refl runs)
owes_at terms values epoch answered k stage.Bind v x answers.Done here knows finds o = stays terms values epoch answered k _ (λ runs. o runs)
owes_at terms values epoch answered k stage.Bind v x answers.BindRefused here knows finds o = stays terms values epoch answered k _ (λ runs. over true refl runs)
owes_at terms values epoch answered k stage.Loop v x a here knows finds o = loop_owes terms values epoch answered k v (next_reply v) a here refl finds o
owes_at terms values epoch answered k (stage.Fetch n) v x (answers.Word word) here knows finds o = stays terms values epoch answered k _ (fetch_owes terms values epoch answered k n word v (n + 1 == entry_words_of v.shape.abi) finds o)
owes_at terms values epoch answered k (stage.ReplyHigh r) v x a here knows finds o = stays terms values epoch answered k _ (λ runs. o runs)
owes_at terms values epoch answered k (stage.ReplyLast r) v x a here knows finds o = stays terms values epoch answered k _ (λ runs. o runs)
owes_at terms values epoch answered k (stage.Producer r) v x a here knows finds o = stays terms values epoch _ k _ (λ runs. pushed terms values epoch answered k _ v.fetched v.jobs.works r (o runs))
owes_at terms values epoch answered k (stage.ProducerFence old) v x a here knows finds o = stays terms values epoch answered k _ (λ runs. o runs)
owes_at terms values epoch answered k (stage.ResponseEvent old) v x (answers.Word event) here knows finds o = stays terms values epoch answered k _ (either_stage (notifies old v.ring.indices.prod event))
  where
    either_stage : (b : Bool) → IsOwing terms values epoch answered k (at (if b then stage.Send else stage.Loop) v)
    either_stage true = λ runs. o runs
    either_stage false = λ runs. o runs
owes_at terms values epoch answered k stage.Send v x a here knows finds o = stays terms values epoch answered k _ (λ runs. o runs)
owes_at terms values epoch answered k stage.StoreEvent v x a here knows finds o = stays terms values epoch answered k _ (λ runs. o runs)
owes_at terms values epoch answered k stage.EventFence v x a here knows finds o = stays terms values epoch answered k _ (λ runs. o runs)
owes_at terms values epoch answered k stage.LookAgain v x (answers.Word word) here knows finds o = stays terms values epoch answered k _ (looked_owes terms values epoch answered k v word (record v { ring = record v.ring { seen = word; asleep = true }; stage = stage.Loop }) o (λ runs. o runs))
owes_at terms values epoch answered k (stage.Abort m) v x a here knows finds o = stays terms values epoch answered k _ (λ runs. over _ knows.over runs)
owes_at terms values epoch answered k stage.UnmapRing v x a here knows finds o = stays terms values epoch answered k _ (λ runs. over _ knows.over runs)
owes_at terms values epoch answered k stage.ClosePort v x a here knows finds o = stays terms values epoch answered k _ (λ runs. over _ knows.over runs)
owes_at terms values epoch answered k stage.UnmapUnbound v x a here knows finds o = stays terms values epoch answered k _ (λ runs. over _ knows.over runs)
owes_at terms values epoch answered k s v x a here knows finds o = stays terms values epoch answered k v (λ runs. as_it_was terms values epoch answered k s v here (o runs))
