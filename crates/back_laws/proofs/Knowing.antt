-- What is known of a back at every moment, whatever is answered: stage by stage, a reply, the look before sleep, and what comes after a halt.
use Rattle.std.proofs.Common.{◌≡◌, ℕ, Bool, true, false, if◌then◌else◌, List, [], ◌∷◌, ◌++◌, length, refl, sym, ap, ◌∙◌, subst, arith}
use Rattle.std.specs.Prelude.{Option, Some, None}
use Rattle.blk_base.specs.Distance.{distance_of}
use Rattle.blk_base.specs.declared.parts.Mapping.{Mapping}
use Rattle.blk_base.specs.declared.ask.BackAsk.TheVariants as ask
use Rattle.blk_base.specs.declared.ask.BackAnswer.{BackAnswer}
use Rattle.blk_base.specs.declared.ask.BackAnswer.TheVariants as answer
use Rattle.ring_words.specs.Ring.{next_of, notifies}
use Rattle.ring_words.specs.Shape.{Shape, entries_of}
use Rattle.back_jobs.specs.Jobs.{first_mapping}
use Rattle.blk_base.specs.declared.halt.Halt.{Halt}
use Rattle.blk_back.specs.declared.stage.Reply.{Reply}
use Rattle.blk_back.specs.declared.stage.BackStage.{BackStage}
use Rattle.blk_back.specs.declared.stage.BackStage.TheVariants as stage
use Rattle.blk_back.specs.View.{View}
use Rattle.blk_back.specs.Ask.{ask_at, reply_ask, index_ask, next_reply, IsAnswer}
use Rattle.blk_back.specs.Step.{at, abort, looked, step_at}
use Rattle.back_laws.specs.Activity.{Asked, Reach, Rests, Replies, read, wrote, fenced, sent, page_at, asks_of, reached, IsRight}
use Rattle.segment_list.specs.declared.verdict.DiskInfo.{DiskInfo}
use Rattle.blk_back.specs.View.{new_of}
use Rattle.blk_back.specs.Ask.{ask_of, unmap_ask}
use Rattle.blk_back.specs.Step.{step_of, other_pages, unbound, bound, attaches, halts, may_halt, job_step}
use Rattle.blk_back.specs.Sound.{IsMapped}
use Rattle.std.specs.Prelude.{Contains, true}
use Rattle.std.proofs.lemmas.List.{append-nil}
use Rattle.std.proofs.lemmas.List.Elements.{Contains-append_left, Contains-append_right}
use Rattle.back_laws.specs.Ledger.{JobAsked}
use Rattle.back_laws.specs.Life.{IsClosing, HasHalted, Cause, NotMapped, NotBound, Overran, CalledFirst, Called, IsCause}
use Rattle.back_laws.proofs.Calls.{is_unbound, halts_for_cases, attaches_cases, attaches_waiting}
use Rattle.back_laws.proofs.Activities.{keeps, done, closing_more}
use Rattle.back_laws.proofs.Room.{HasRoom, IsRoomAt, room_at}
use Rattle.back_laws.proofs.Lives.{here, before_push, IsOpened, three, pushed, IsPushed, At, KnowsAt, Knows}
use Rattle.back_laws.proofs.Opening.{Asks, Leads, giving_knows, opened_wait, unbound_knows, bound_knows, binds, not_bound, not_mapped, maps}
use Rattle.std.specs.Prelude.{slice_get, is_some}
use Rattle.std.proofs.lemmas.Option.{none-some}
use Rattle.back_jobs.specs.Work.{Work, ask_of as ask_of_job, IsAnswer as IsJobAnswer}
use Rattle.back_jobs.specs.Jobs.{ask_job}
use Rattle.blk_back.specs.Step.{job_ask_of}
use Rattle.back_laws.proofs.Keeping.{IsKept, told_kept, replied_kept, IsTold, told_one}
use Rattle.back_laws.proofs.Serving.{KeptOf, looked_knows, loop_knows, fetch_knows, grows, ends}

-- only the stage is another one
goes_on : (s : BackStage) (start : ℕ) (trace : List JobAsked) (own : List Asked) (calls : List Halt) (v : View) (x : Asked) → v.ring.indices.entries ≡ entries_of v.shape.order → KnowsAt s start trace (own ++ x ∷ []) calls v → Leads start trace own calls x (at s v)
goes_on s start trace own calls v x entries h = record { entries = entries; at = same s h }
  where
    same : (s : BackStage) → KnowsAt s start trace (own ++ x ∷ []) calls v → KnowsAt s start trace (own ++ x ∷ []) calls (at s v)
    same stage.InitWait h = h
    same s h = h

-- the reply is done
ends_reply : (start : ℕ) (trace : List JobAsked) (own : List Asked) (v : View) (r : Reach) (part : List Asked) (reply : Reply) (event : ℕ) → IsRight r (Replies reply event) → asks_of r (Replies reply event) ≡ part
    → At start trace own v (reply ∷ []) r part → At start trace own v [] (reached r (Replies reply event)) []
ends_reply start trace own v r part reply event right same a =
    done start own v.shape v.pages v.halted r part (KeptOf trace v (reply ∷ [])) (KeptOf trace v []) (Replies reply event) (replied_kept trace v.jobs.info v.shape.abi v.jobs.works v.fetched reply event) right same a

-- whether an event is sent
told : (start : ℕ) (trace : List JobAsked) (own : List Asked) (calls : List Halt) (v : View) (old event : ℕ) (r : Reply) → v.ring.indices.entries ≡ entries_of v.shape.order → IsPushed old v
    → At start trace own v (r ∷ []) (before_push old v) (pushed (before_push old v) r ++ fenced ∷ [])
    → Leads start trace own calls (Asks (index_ask v 3) (answer.Word event)) (at (if notifies old v.ring.indices.prod event then stage.Send else stage.Loop) v)
told start trace own calls v old event r entries p a = by_test (notifies old v.ring.indices.prod event) refl
  where
    x : Asked
    x = Asks (index_ask v 3) (answer.Word event)

    grown : At start trace (own ++ x ∷ []) v (r ∷ []) (before_push old v) (pushed (before_push old v) r ++ fenced ∷ x ∷ [])
    grown = grows start trace own v (r ∷ []) (before_push old v) (pushed (before_push old v) r ++ fenced ∷ []) x a

    by_test : (b : Bool) → notifies old v.ring.indices.prod event ≡ b → Leads start trace own calls x (at (if b then stage.Send else stage.Loop) v)
    by_test true e = record { entries = entries; at = (r, old, event, p, e, grown) }
    by_test false e =
        let none : notifies old (next_of old) event ≡ false = ap (λ (n : ℕ). notifies old n event) p.0 ∙ e in
        let whole : asks_of (before_push old v) (Replies r event) ≡ pushed (before_push old v) r ++ fenced ∷ x ∷ [] = ap (λ (b : Bool). pushed (before_push old v) r ++ fenced ∷ x ∷ sent b) none in
        let over : At start trace (own ++ x ∷ []) v [] (record (here v) { prod = next_of old }) [] = ends_reply start trace (own ++ x ∷ []) v (before_push old v) (pushed (before_push old v) r ++ fenced ∷ x ∷ []) r event p.1 whole grown in
        record { entries = entries; at = subst (λ (n : ℕ). At start trace (own ++ x ∷ []) v [] (record (here v) { prod = n }) []) p.0 over }

sends : (start : ℕ) (trace : List JobAsked) (own : List Asked) (calls : List Halt) (v : View) (old event : ℕ) (r : Reply) → v.ring.indices.entries ≡ entries_of v.shape.order → IsPushed old v → notifies old v.ring.indices.prod event ≡ true
    → At start trace own v (r ∷ []) (before_push old v) (pushed (before_push old v) r ++ fenced ∷ read (page_at (before_push old v) 0) 3 event ∷ [])
    → Leads start trace own calls (Asks ask.Send answer.Done) (at stage.Loop v)
sends start trace own calls v old event r entries p due a =
    let x : Asked = Asks ask.Send answer.Done in
    let seen : Asked = read (page_at (before_push old v) 0) 3 event in
    let grown : At start trace (own ++ x ∷ []) v (r ∷ []) (before_push old v) (pushed (before_push old v) r ++ fenced ∷ seen ∷ x ∷ []) = grows start trace own v (r ∷ []) (before_push old v) (pushed (before_push old v) r ++ fenced ∷ seen ∷ []) x a in
    let one : notifies old (next_of old) event ≡ true = ap (λ (n : ℕ). notifies old n event) p.0 ∙ due in
    let whole : asks_of (before_push old v) (Replies r event) ≡ pushed (before_push old v) r ++ fenced ∷ seen ∷ x ∷ [] = ap (λ (b : Bool). pushed (before_push old v) r ++ fenced ∷ seen ∷ sent b) one in
    let over : At start trace (own ++ x ∷ []) v [] (record (here v) { prod = next_of old }) [] = ends_reply start trace (own ++ x ∷ []) v (before_push old v) (pushed (before_push old v) r ++ fenced ∷ seen ∷ x ∷ []) r event p.1 whole grown in
    record { entries = entries; at = subst (λ (n : ℕ). At start trace (own ++ x ∷ []) v [] (record (here v) { prod = n }) []) p.0 over }

-- it looks again, and sleeps where nothing is new
looks_again : (start : ℕ) (trace : List JobAsked) (own : List Asked) (calls : List Halt) (v : View) (word : ℕ) → v.ring.indices.entries ≡ entries_of v.shape.order → v.ring.seen ≡ v.ring.indices.cons
    → At start trace own v [] (here v) (wrote (page_at (here v) 0) 1 (next_of v.ring.indices.cons) ∷ fenced ∷ [])
    → Leads start trace own calls (Asks (index_ask v 0) (answer.Word word)) (looked v word (record v { ring = record v.ring { seen = word; asleep = true }; stage = stage.Loop }))
looks_again start trace own calls v word entries none a =
    let x : Asked = Asks (index_ask v 0) (answer.Word word) in
    let first : List Asked = wrote (page_at (here v) 0) 1 (next_of v.ring.indices.cons) ∷ fenced ∷ [] in
    let grown : At start trace (own ++ x ∷ []) v [] (here v) (first ++ x ∷ []) = grows start trace own v [] (here v) first x a in
    looked_knows start trace (own ++ x ∷ []) calls v word (first ++ x ∷ []) (Rests word) (record v { ring = record v.ring { seen = word; asleep = true }; stage = stage.Loop }) entries refl
    (λ over. (none, over, refl))
    (λ fine. ends start trace (own ++ x ∷ []) v (here v) (first ++ x ∷ []) (Rests word) (refl, refl) (none, fine) refl grown)
    (λ same after. record { entries = entries; at = after })
    grown

-- after a halt
closes : (start : ℕ) (trace : List JobAsked) (own : List Asked) (calls : List Halt) (v : View) (x : Asked) → IsClosing x → HasHalted start v.shape own calls v.halted → HasHalted start v.shape (own ++ x ∷ []) calls v.halted
closes start trace own calls v x closing h = closing_more start v.shape own calls v.halted x closing h

unmaps : (pages : List Mapping) (given : BackAnswer) → IsClosing (Asks (unmap_ask pages) given)
unmaps [] given = tt
unmaps (page ∷ pages) given = tt

waits_first : (s : BackStage) (start : ℕ) (trace : List JobAsked) (own : List Asked) (calls : List Halt) (v : View) (given : BackAnswer) → v.stage ≡ stage.InitWait → v.ring.indices.entries ≡ entries_of v.shape.order → IsOpened start trace own (here v) v.halted v.jobs.works v.fetched → IsAnswer ask.Wait given → Leads start trace own calls (Asks ask.Wait given) v
waits_first s start trace own calls v answer.Event at_first entries o h = record { entries = entries; at = rw at_first (opened_wait start trace own (here v) v.halted v.jobs.works v.fetched (Asks ask.Wait answer.Event) tt refl o) }
waits_first s start trace own calls v (answer.Watched path) at_first entries o h = record { entries = entries; at = rw at_first (opened_wait start trace own (here v) v.halted v.jobs.works v.fetched (Asks ask.Wait (answer.Watched path)) tt refl o) }
waits_first s start trace own calls v given at_first entries o h = absurd h

-- each stage
step_knows : (s : BackStage) (start : ℕ) (trace : List JobAsked) (own : List Asked) (calls : List Halt) (v : View) (given : BackAnswer) → v.stage ≡ s → HasRoom v → IsMapped s v.shape.order v.grefs v.pages → v.ring.indices.entries ≡ entries_of v.shape.order → KnowsAt s start trace own calls v → IsAnswer (ask_at s v) given
    → Leads start trace own calls (Asks (ask_at s v) given) (step_at s v given)
step_knows stage.InitWait start trace own calls v given e room mapped entries k h = waits_first stage.InitWait start trace own calls v given e entries k h
step_knows stage.MapRing start trace own calls v (answer.Mapped m) e room mapped entries k h = maps start trace own calls v m entries h k
step_knows stage.MapRing start trace own calls v (answer.MapRefused status) e room mapped entries k h = not_mapped start trace own calls v status entries k
step_knows stage.Bind start trace own calls v answer.Done e room mapped entries k h = binds start trace own calls v entries mapped k
step_knows stage.Bind start trace own calls v answer.BindRefused e room mapped entries k h = not_bound start trace own calls v entries k
step_knows stage.Loop start trace own calls v given e room mapped entries k h = loop_knows (next_reply v) start trace own calls v given e refl entries k h
step_knows (stage.Fetch n) start trace own calls v (answer.Word word) e room mapped entries k h = fetch_knows n start trace own calls v word entries k.0 k.1
step_knows (stage.ReplyHigh r) start trace own calls v answer.Done e room mapped entries k h = record { entries = entries; at = grows start trace own v (r ∷ []) (here v) _ (Asks (reply_ask v r 1) answer.Done) k }
step_knows (stage.ReplyLast r) start trace own calls v answer.Done e room mapped entries k h = record { entries = entries; at = grows start trace own v (r ∷ []) (here v) _ (Asks (reply_ask v r 2) answer.Done) k }
step_knows (stage.Producer r) start trace own calls v answer.Done e room mapped entries k h =
    let few : IsRoomAt (stage.Producer r) (length v.jobs.works) (distance_of v.ring.indices.prod v.ring.indices.cons) v.ring.indices.entries = room_at v (stage.Producer r) e room in
    let one = few.0 in
    record { entries = entries; at = (r, (refl, omega arith), grows start trace own v (r ∷ []) (here v) (three (here v) r) (Asks (ask_at (stage.Producer r) v) answer.Done) k) }
step_knows (stage.ProducerFence old) start trace own calls v answer.Done e room mapped entries k h =
    record { entries = entries; at = (k.0, k.1, grows start trace own v (k.0 ∷ []) (before_push old v) (pushed (before_push old v) k.0) fenced k.2) }
step_knows (stage.ResponseEvent old) start trace own calls v (answer.Word event) e room mapped entries k h = told start trace own calls v old event k.0 entries k.1 k.2
step_knows stage.Send start trace own calls v answer.Done e room mapped entries k h = sends start trace own calls v k.1 k.2 k.0 entries k.3 k.4 k.5
step_knows stage.StoreEvent start trace own calls v answer.Done e room mapped entries k h = record { entries = entries; at = (k.0, grows start trace own v [] (here v) [] (Asks (ask_at stage.StoreEvent v) answer.Done) k.1) }
step_knows stage.EventFence start trace own calls v answer.Done e room mapped entries k h = record { entries = entries; at = (k.0, grows start trace own v [] (here v) _ fenced k.1) }
step_knows stage.LookAgain start trace own calls v (answer.Word word) e room mapped entries k h = looks_again start trace own calls v word entries k.0 k.1
step_knows (stage.Abort m) start trace own calls v given e room mapped entries k h =
    let x : Asked = Asks (ask.Unmap m) given in
    record { entries = entries; at = giving_knows (first_mapping v.jobs.works) start trace (own ++ x ∷ []) calls (abort v) (closes start trace own calls v x tt k) }
step_knows stage.UnmapRing start trace own calls v given e room mapped entries k h =
    let x : Asked = Asks (unmap_ask v.pages) given in
    record { entries = entries; at = bound_knows (other_pages v.pages) start trace (own ++ x ∷ []) calls (record v { pages = other_pages v.pages; stage = bound (other_pages v.pages) }) (closes start trace own calls v x (unmaps v.pages given) k) }
step_knows stage.ClosePort start trace own calls v given e room mapped entries k h = record { entries = entries; at = closes start trace own calls v (Asks ask.ClosePort given) tt k }
step_knows stage.UnmapUnbound start trace own calls v given e room mapped entries k h =
    let x : Asked = Asks (unmap_ask v.pages) given in
    record { entries = entries; at = unbound_knows (other_pages v.pages) start trace (own ++ x ∷ []) calls (record v { pages = other_pages v.pages; stage = unbound (other_pages v.pages) }) (closes start trace own calls v x (unmaps v.pages given) k) }
step_knows stage.Halted start trace own calls v given e room mapped entries k h = record { entries = entries; at = rw e (closes start trace own calls v (Asks ask.Wait given) tt k) }
step_knows s start trace own calls v given e room mapped entries k h = absurd h

pub answered_knows : (start : ℕ) (trace : List JobAsked) (own : List Asked) (calls : List Halt) (v : View) (given : BackAnswer) → HasRoom v → IsMapped v.stage v.shape.order v.grefs v.pages → Knows start trace own calls v → IsAnswer (ask_of v) given
    → Knows start trace (own ++ Asks (ask_of v) given ∷ []) calls (step_of v given)
answered_knows start trace own calls v given room mapped k h = step_knows v.stage start trace own calls v given refl room mapped k.entries k.at h

-- a new back knows that nothing happened
pub new_knows : (start : ℕ) (info : DiskInfo) → Knows start [] [] [] (new_of start info)
new_knows start info = record { entries = refl; at = record { opens = tt; pages = refl; prod = refl; cons = refl; seen = refl; none = refl; quiet = refl; jobless = refl; first = refl } }

-- the ask of a job that was answered: that of a job that is held
record IsJobTold (v : View) (number : ℕ) (given : BackAnswer) : Type 0 where
  one : IsTold v.jobs.works number given
  asks : job_ask_of v number ≡ ask_of_job one.job

job_told : (v : View) (number : ℕ) (given : BackAnswer) → IsJobAnswer (job_ask_of v number) given → IsJobTold v number given
job_told v number given ok = by_halted (is_some v.halted) refl ok
  where
    by_halted : (b : Bool) → is_some v.halted ≡ b → IsJobAnswer (if b then ask.Wait else ask_job v.jobs number) given → IsJobTold v number given
    by_halted true e ok = absurd ok
    by_halted false e ok =
        let one : IsTold v.jobs.works number given = told_one v.jobs.works number given ok in
        record { one = one; asks = ap (λ (b : Bool). if b then ask.Wait else ask_job v.jobs number) e ∙ one.asks }

-- what a job does: its request was told more
pub job_knows : (start : ℕ) (trace : List JobAsked) (own : List Asked) (calls : List Halt) (v : View) (number : ℕ) (given : BackAnswer) → IsJobAnswer (job_ask_of v number) given → Knows start trace own calls v
    → Knows start (trace ++ record { number = number; asked = Asks (job_ask_of v number) given } ∷ []) own calls (job_step v number given)
job_knows start trace own calls v number given ok k = record { entries = k.entries; at = by_stage v.stage k.at }
  where
    j : JobAsked
    j = record { number = number; asked = Asks (job_ask_of v number) given }

    w : View
    w = job_step v number given

    told_so : IsJobTold v number given
    told_so = job_told v number given ok

    at_told : (under : List Reply) (r : Reach) (part : List Asked) → At start trace own v under r part → At start (trace ++ j ∷ []) own w under r part
    at_told under r part a =
        let one = told_so.one in
        keeps start own v.shape v.pages v.halted r part (KeptOf trace v under) (KeptOf (trace ++ j ∷ []) w under)
        (λ activities kept. subst (λ (works : List Work). IsKept (trace ++ j ∷ []) v.jobs.info v.shape.abi works v.fetched under activities) (sym one.after)
        (told_kept trace v.jobs.info v.shape.abi v.jobs.works v.fetched under j one.place one.job one.found one.numbered (told_so.asks, one.allowed) activities kept))
        a

    none : v.jobs.works ≡ [] → ⊥
    none jobless = let one = told_so.one in none-some one.job (sym (ap (λ (works : List Work). slice_get works one.place) jobless) ∙ one.found)

    by_stage : (s : BackStage) → KnowsAt s start trace own calls v → KnowsAt s start (trace ++ j ∷ []) own calls w
    by_stage stage.InitWait h = absurd (none h.jobless)
    by_stage stage.MapRing h = absurd (none h.jobless)
    by_stage stage.Bind h = absurd (none h.jobless)
    by_stage stage.Loop h = at_told [] _ _ h
    by_stage (stage.Fetch n) h = (h.0, at_told [] _ _ h.1)
    by_stage (stage.ReplyHigh r) h = at_told (r ∷ []) _ _ h
    by_stage (stage.ReplyLast r) h = at_told (r ∷ []) _ _ h
    by_stage (stage.Producer r) h = at_told (r ∷ []) _ _ h
    by_stage (stage.ProducerFence old) h = (h.0, h.1, at_told (h.0 ∷ []) _ _ h.2)
    by_stage (stage.ResponseEvent old) h = (h.0, h.1, at_told (h.0 ∷ []) _ _ h.2)
    by_stage stage.Send h = (h.0, h.1, h.2, h.3, h.4, at_told (h.0 ∷ []) _ _ h.5)
    by_stage stage.StoreEvent h = (h.0, at_told [] _ _ h.1)
    by_stage stage.EventFence h = (h.0, at_told [] _ _ h.1)
    by_stage stage.LookAgain h = (h.0, at_told [] _ _ h.1)
    by_stage (stage.Abort m) h = h
    by_stage stage.UnmapRing h = h
    by_stage stage.ClosePort h = h
    by_stage stage.UnmapUnbound h = h
    by_stage stage.Halted h = h

-- what is taken changes nothing of it
pub taken_knows : (start : ℕ) (trace : List JobAsked) (own : List Asked) (calls : List Halt) (v : View) → Knows start trace own calls v → Knows start trace own calls (record v { told = None })
taken_knows start trace own calls v k = record { entries = k.entries; at = same v.stage k.at }
  where
    same : (s : BackStage) → KnowsAt s start trace own calls v → KnowsAt s start trace own calls (record v { told = None })
    same stage.InitWait h = h
    same s h = h

-- it takes the terms of its front, or they come to nothing
pub attached_knows : (start : ℕ) (trace : List JobAsked) (own : List Asked) (calls : List Halt) (v : View) (shape : Shape) (grefs : List ℕ) (port : ℕ) → Knows start trace own calls v → Knows start trace own calls (attaches shape grefs port v)
attached_knows start trace own calls v shape grefs port k =
    attaches_cases (λ (w : View). Knows start trace own calls w) shape grefs port v
    (λ may.
    let o : IsOpened start trace own (here v) v.halted v.jobs.works v.fetched = subst (λ (s : BackStage). KnowsAt s start trace own calls v) (attaches_waiting shape grefs v may) k.at in
    record { entries = refl; at = record { opens = o.opens; pages = o.pages; prod = o.prod; cons = o.prod; seen = o.seen; none = o.none; quiet = o.quiet; jobless = o.jobless; first = o.first } })
    k

-- one call more
more_calls : (start : ℕ) (shape : Shape) (calls others : List Halt) (c : Cause) → IsCause start shape calls c → IsCause start shape (calls ++ others) c
more_calls start shape calls others (NotMapped opening gref status) is = is
more_calls start shape calls others (NotBound opening port) is = is
more_calls start shape calls others (Overran opening port activities look shown) is = is
more_calls start shape calls others (CalledFirst opening why) is = (is.0, Contains-append_left calls others why is.1, is.2)
more_calls start shape calls others (Called opening port activities why) is = (is.0, Contains-append_left calls others why is.1, is.2)

halted_more : (start : ℕ) (shape : Shape) (own : List Asked) (calls others : List Halt) (halted : Option Halt) → HasHalted start shape own calls halted → HasHalted start shape own (calls ++ others) halted
halted_more start shape own calls others halted h = record { cause = h.cause; closing = h.closing; is = more_calls start shape calls others h.cause h.is; closes = h.closes; asked = h.asked; why = h.why }

called_knows : (start : ℕ) (trace : List JobAsked) (own : List Asked) (calls others : List Halt) (v : View) → Knows start trace own calls v → Knows start trace own (calls ++ others) v
called_knows start trace own calls others v k = record { entries = k.entries; at = same v.stage k.at }
  where
    same : (s : BackStage) → KnowsAt s start trace own calls v → KnowsAt s start trace own (calls ++ others) v
    same (stage.Abort m) h = halted_more start v.shape own calls others v.halted h
    same stage.UnmapRing h = halted_more start v.shape own calls others v.halted h
    same stage.ClosePort h = halted_more start v.shape own calls others v.halted h
    same stage.UnmapUnbound h = halted_more start v.shape own calls others v.halted h
    same stage.Halted h = halted_more start v.shape own calls others v.halted h
    same stage.InitWait h = h
    same s h = h

-- it halts, or goes on
pub halts_knows : (start : ℕ) (trace : List JobAsked) (own : List Asked) (calls : List Halt) (v : View) (why : Halt) → Knows start trace own calls v → Knows start trace own (calls ++ why ∷ []) (halts why v)
halts_knows start trace own calls v why k =
    halts_for_cases (λ (w : View). Knows start trace own (calls ++ why ∷ []) w) why v
    (λ may unbound_stage. record {
      entries = k.entries;
      at = unbound_knows v.pages start trace own (calls ++ why ∷ []) (record v { halted = Some why; stage = unbound v.pages }) (first v.stage unbound_stage k.at may);
    })
    (λ may looping.
    let a : At start trace own v [] (here v) [] = subst (λ (s : BackStage). KnowsAt s start trace own calls v) looping k.at in
    record {
      entries = k.entries;
      at = giving_knows (first_mapping v.jobs.works) start trace own (calls ++ why ∷ []) (abort (record v { halted = Some why }))
          (record { cause = Called a.opening a.port a.activities why; closing = []; is = (a.is, last, may); closes = tt; asked = a.asked; why = refl });
    })
    (called_knows start trace own calls (why ∷ []) v k)
  where
    last : Contains (calls ++ why ∷ []) why
    last = Contains-append_right calls (why ∷ []) why (0, omega arith, refl)

    opened : IsOpened start trace own (here v) v.halted v.jobs.works v.fetched → may_halt why ≡ true → HasHalted start v.shape own (calls ++ why ∷ []) (Some why)
    opened o may = record { cause = CalledFirst own why; closing = []; is = (o.opens, last, may); closes = tt; asked = sym (append-nil own); why = refl }

    first : (s : BackStage) → is_unbound s ≡ true → KnowsAt s start trace own calls v → may_halt why ≡ true → HasHalted start v.shape own (calls ++ why ∷ []) (Some why)
    first stage.InitWait is o may = opened o may
    first stage.MapRing is o may = opened o may
    first s is o may = absurd (cc)
