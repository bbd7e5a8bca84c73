-- The laws of a back's runs, from what is true at every moment.
use Rattle.std.proofs.Common.{◌≡◌, ◌⊎◌, inl, inr, ℕ, ◌+◌, ◌-◌, ◌≤◌, false, List, [], ◌∷◌, ◌++◌, length, refl, sym, ap, ◌∙◌, subst, arith, length-append}
use Rattle.std.specs.Prelude.{replicate, nat_lt}
use Rattle.std.proofs.lemmas.Bool.Decides.{nat_tests}
use Rattle.std.proofs.lemmas.List.{length-replicate}
use Rattle.blk_base.specs.Distance.{distance_of}
use Rattle.blk_base.specs.declared.ask.BackAnswer.TheVariants as answer
use Rattle.ring_words.specs.Ring.{Ring, next_of, requests_of, overruns, notifies}
use Rattle.ring_words.specs.Shape.{entries_of, entry_words_of}
use Rattle.blk_base.specs.declared.halt.Halt.{Halt}
use Rattle.blk_back.specs.declared.stage.Reply.{Reply}
use Rattle.blk_back.specs.declared.stage.BackStage.{BackStage}
use Rattle.blk_back.specs.declared.stage.BackStage.TheVariants as stage
use Rattle.blk_back.specs.View.{View}
use Rattle.back_jobs.specs.Hands.{Names}
use Rattle.blk_base.specs.declared.ask.BackAsk.{BackAsk}
use Rattle.blk_back.specs.Hands.{hands_of}
use Rattle.blk_back.proofs.Plain.{plain_job_ask}
use Rattle.blk_back.proofs.Hands.{hands_after, job_hands_after, attached_hands, halted_hands}
use Rattle.back_laws.specs.Happening.{Happening, Answers, AnswersJob, TakesTold, Attaches, Halts, MayHappen}
use Rattle.back_laws.specs.Run.{BackRun, begins, now}
use Rattle.back_laws.specs.Activity.{Asked, Reach, Waits, Rests, Fetches, Replies, entry_from, read, wrote, fenced, sent, page_at, slot_page, slot_word, replied_word, asks_of, indices, IsRight, IsBegun}
use Rattle.back_laws.specs.Ledger.{JobAsked, job_asks, Ledger, entries_in, replies_in}
use Rattle.back_laws.specs.Life.{own_asks, called, reach_of, under_way, Opens, Serves, Goes, HasHalted}
use Rattle.back_laws.specs.Laws.{LivesSo, HoldsFewJobs, NamesWhatItHolds, JobsNameWhatIsHeld, HoldsAfter, HoldsWhatItWasGiven, EachAnswerLowers}
use Rattle.back_laws.proofs.BackLeft.{lowers}
use Rattle.back_laws.proofs.Held.{back_names, job_names_own}
use Rattle.back_laws.proofs.Room.{IsRoomAt, few_jobs}
use Rattle.back_laws.proofs.Lives.{here, before_push, IsOpened, three, pushed, At, KnowsAt}
use Rattle.back_laws.proofs.Serving.{indices_are}
use Rattle.back_laws.proofs.Always.{always, is_seen, is_placed}

-- the words of an entry, and more of them
entry_append : (r : Reach) (i : ℕ) (words others : List ℕ) → entry_from r i (words ++ others) ≡ entry_from r i words ++ entry_from r (i + length words) others
entry_append r i [] others = let same : i + 0 ≡ i = omega arith in rw same refl
entry_append r i (w ∷ words) others =
    let same : i + 1 + length words ≡ i + length (w ∷ words) = omega arith in
    ap (λ (l : List Asked). read (slot_page r r.cons i) (slot_word r r.cons i) w ∷ l)
    (entry_append r (i + 1) words others ∙ ap (λ (n : ℕ). entry_from r (i + 1) words ++ entry_from r n others) same)

abbrev Lives : ℕ → List JobAsked → List Asked → List Halt → View → Type 0
Lives start trace own calls v = Goes start v.shape own v.halted v.jobs.info trace v.jobs.works ⊎ HasHalted start v.shape own calls v.halted

opens : (start : ℕ) (trace : List JobAsked) (own : List Asked) (calls : List Halt) (v : View) → IsOpened start trace own (here v) v.halted v.jobs.works v.fetched → Lives start trace own calls v
opens start trace own calls v o = inl (record { life = Opens own; is = o.opens; requests = (o.jobless, o.quiet); asked = refl; none = o.none })

serves : (start : ℕ) (trace : List JobAsked) (own : List Asked) (calls : List Halt) (v : View) (under : List Reply) (r : Reach) (part : List Asked) (begun : IsBegun r part) → under ≡ under_way begun.activity part → At start trace own v under r part → Lives start trace own calls v
serves start trace own calls v under r part begun same a =
    let from_there : IsBegun (reach_of start v.shape a.opening a.activities) part = record {
      activity = begun.activity;
      rest = begun.rest;
      right = subst (λ (x : Reach). IsRight x begun.activity) (sym a.reach) begun.right;
      first = ap (λ (x : Reach). asks_of x begun.activity) a.reach ∙ begun.first;
    } in
    inl (record {
      life = Serves a.opening a.port a.activities part;
      is = (a.is, from_there);
      requests = λ few. subst (λ (l : List Reply). Ledger v.jobs.info v.shape.abi trace (entries_in a.activities) (l ++ replies_in a.activities) v.jobs.works) same ((a.kept).requests few).ledger;
      asked = a.asked;
      none = a.none;
    })

-- nothing was begun
abbrev at_rest : (r : Reach) → IsBegun r []
at_rest r = record { activity = Waits answer.Event; rest = asks_of r (Waits answer.Event); right = tt; first = refl }

-- the producer may be the consumer
no_overrun : (v : View) → v.ring.indices.entries ≡ entries_of v.shape.order → distance_of v.ring.indices.prod v.ring.indices.cons ≤ v.ring.indices.entries → overruns (indices (here v)) v.ring.indices.cons ≡ false
no_overrun v e near = below (entries_of v.shape.order) (distance_of v.ring.indices.prod v.ring.indices.cons) (subst (λ (n : ℕ). distance_of v.ring.indices.prod v.ring.indices.cons ≤ n) e near)
  where
    below : (n d : ℕ) → d ≤ n → nat_lt n d ≡ false
    below n d near = grind (arith, nat_tests)

lives_at : (s : BackStage) (start : ℕ) (trace : List JobAsked) (own : List Asked) (calls : List Halt) (v : View) → v.ring.indices.entries ≡ entries_of v.shape.order
    → IsRoomAt s (length v.jobs.works) (distance_of v.ring.indices.prod v.ring.indices.cons) v.ring.indices.entries → KnowsAt s start trace own calls v → Lives start trace own calls v
lives_at stage.InitWait start trace own calls v e room k = opens start trace own calls v k
lives_at stage.MapRing start trace own calls v e room k = opens start trace own calls v k
lives_at stage.Bind start trace own calls v e room k = opens start trace own calls v k
lives_at stage.Loop start trace own calls v e room k = serves start trace own calls v [] (here v) [] (at_rest (here v)) refl k
lives_at (stage.Fetch n) start trace own calls v e room k =
    let zeros : List ℕ = replicate (entry_words_of v.shape.abi - n) 0 in
    let shown : 1 ≤ requests_of (indices (here v)) v.ring.seen = subst (λ (i : Ring). 1 ≤ requests_of i v.ring.seen) (indices_are v e) k.0.0 in
    let few : length zeros ≡ entry_words_of v.shape.abi - n = length-replicate (entry_words_of v.shape.abi - n) 0 in
    let both : length (v.ring.entry ++ zeros) ≡ length v.ring.entry + length zeros = length-append v.ring.entry zeros in
    let long = k.0.1 in let inside = k.0.2 in
    serves start trace own calls v [] (here v) (entry_from (here v) 0 v.ring.entry)
    (record { activity = Fetches (v.ring.entry ++ zeros); rest = entry_from (here v) (0 + length v.ring.entry) zeros; right = (shown, omega arith); first = entry_append (here v) 0 v.ring.entry zeros })
    refl k.1
lives_at (stage.ReplyHigh r) start trace own calls v e room k =
    let one = room.0 in
    serves start trace own calls v (r ∷ []) (here v) _ (record { activity = Replies r 0; rest = replied_word (here v) r 1 ∷ replied_word (here v) r 2 ∷ wrote (page_at (here v) 0) 2 (next_of v.ring.indices.prod) ∷ fenced ∷ read (page_at (here v) 0) 3 0 ∷ sent (notifies v.ring.indices.prod (next_of v.ring.indices.prod) 0); right = omega arith; first = refl }) refl k
lives_at (stage.ReplyLast r) start trace own calls v e room k =
    let one = room.0 in
    serves start trace own calls v (r ∷ []) (here v) _ (record { activity = Replies r 0; rest = replied_word (here v) r 2 ∷ wrote (page_at (here v) 0) 2 (next_of v.ring.indices.prod) ∷ fenced ∷ read (page_at (here v) 0) 3 0 ∷ sent (notifies v.ring.indices.prod (next_of v.ring.indices.prod) 0); right = omega arith; first = refl }) refl k
lives_at (stage.Producer r) start trace own calls v e room k =
    let one = room.0 in
    serves start trace own calls v (r ∷ []) (here v) (three (here v) r) (record { activity = Replies r 0; rest = wrote (page_at (here v) 0) 2 (next_of v.ring.indices.prod) ∷ fenced ∷ read (page_at (here v) 0) 3 0 ∷ sent (notifies v.ring.indices.prod (next_of v.ring.indices.prod) 0); right = omega arith; first = refl }) refl k
lives_at (stage.ProducerFence old) start trace own calls v e room k =
    serves start trace own calls v (k.0 ∷ []) (before_push old v) (pushed (before_push old v) k.0) (record { activity = Replies k.0 0; rest = fenced ∷ read (page_at (here v) 0) 3 0 ∷ sent (notifies old (next_of old) 0); right = k.1.1; first = refl }) refl k.2
lives_at (stage.ResponseEvent old) start trace own calls v e room k =
    serves start trace own calls v (k.0 ∷ []) (before_push old v) (pushed (before_push old v) k.0 ++ fenced ∷ []) (record { activity = Replies k.0 0; rest = read (page_at (here v) 0) 3 0 ∷ sent (notifies old (next_of old) 0); right = k.1.1; first = refl }) refl k.2
lives_at stage.Send start trace own calls v e room k =
    let old : ℕ = k.1 in let event : ℕ = k.2 in
    serves start trace own calls v (k.0 ∷ []) (before_push old v) _ (record { activity = Replies k.0 event; rest = sent (notifies old (next_of old) event); right = k.3.1; first = refl }) refl k.5
lives_at stage.StoreEvent start trace own calls v e room k = serves start trace own calls v [] (here v) [] (at_rest (here v)) refl k.1
lives_at stage.EventFence start trace own calls v e room k =
    serves start trace own calls v [] (here v) _ (record { activity = Rests v.ring.indices.cons; rest = fenced ∷ read (page_at (here v) 0) 0 v.ring.indices.cons ∷ []; right = (k.0, no_overrun v e room.1); first = refl }) refl k.1
lives_at stage.LookAgain start trace own calls v e room k =
    serves start trace own calls v [] (here v) _ (record { activity = Rests v.ring.indices.cons; rest = read (page_at (here v) 0) 0 v.ring.indices.cons ∷ []; right = (k.0, no_overrun v e room.1); first = refl }) refl k.1
lives_at (stage.Abort m) start trace own calls v e room k = inr k
lives_at stage.UnmapRing start trace own calls v e room k = inr k
lives_at stage.ClosePort start trace own calls v e room k = inr k
lives_at stage.UnmapUnbound start trace own calls v e room k = inr k
lives_at stage.Halted start trace own calls v e room k = inr k

pub lives_so : (r : BackRun) → LivesSo r
lives_so r = let a = always r in lives_at (now r).stage r.start (job_asks r.happenings (begins r)) (own_asks r.happenings (begins r)) (called r.happenings) (now r) a.knows.entries a.room.room a.knows.at

pub holds_few : HoldsFewJobs
holds_few r = let a = always r in let few = few_jobs (now r) a.room in let all = a.knows.entries in omega arith

pub names_held : NamesWhatItHolds
names_held r = back_names (now r) (always r).back

pub jobs_name_held : JobsNameWhatIsHeld
jobs_name_held r number =
    let a = always r in
    subst (λ (asked : BackAsk). Names (hands_of (now r)) asked) (plain_job_ask (now r) number a.none) (job_names_own (now r) number a.back)

holds_after : (h : Happening) (v : View) → MayHappen h v → HoldsAfter h v
holds_after (Answers given) v may = hands_after v given may.0
holds_after (AnswersJob number given) v may = job_hands_after v number given may.0
holds_after TakesTold v may = refl
holds_after (Attaches shape grefs port) v may = attached_hands shape grefs port v
holds_after (Halts why) v may = halted_hands why v

pub holds_given : HoldsWhatItWasGiven
holds_given r = (refl, λ h may. holds_after h (now r) may)

pub each_lowers : EachAnswerLowers
each_lowers r given ok shown =
    let a = always r in
    lowers (now r).stage (now r) given refl a.back.mapped a.few.pages a.room.cons (is_seen r) shown (is_placed r) ok
