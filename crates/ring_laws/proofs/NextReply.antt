-- Each word of a reply that the back writes is one of a response that a job is due, and that no reply before was for.
use Rattle.std.proofs.Common.{◌≡◌, ◌≢◌, ℕ, ◌≤◌, ◌==◌, ◌||◌, Bool, false, List, [], ◌∷◌, ◌++◌, length, map, refl, ap, sym, ◌∙◌, subst, arith, append-nil}
use Rattle.std.specs.Prelude.{Option, Some, None, IfSome}
use Rattle.std.specs.List.{AllByRecursion}
use Rattle.std.proofs.lemmas.Bool.Decides.{nat_tests}
use Rattle.blk_layout.specs.declared.response.Response.{Response}
use Rattle.blk_layout.specs.Response.{response_words_of}
use Rattle.schedule_text.specs.declared.line.Line.{Line}
use Rattle.report_rules.specs.Standing.{this_epoch}
use Rattle.report_rules.specs.Made.{left_to}
use Rattle.report_rules.specs.Reply.{response_due, is_one_of}
use Rattle.back_jobs.specs.Work.{Work}
use Rattle.back_jobs.proofs.Hands.{IsAmong, place_among}
use Rattle.blk_back.specs.View.{View}
use Rattle.blk_back.specs.Ask.{next_reply}
use Rattle.blk_back.specs.declared.stage.Reply.{Reply}
use Rattle.blk_back.specs.declared.stage.BackStage.TheVariants as stage
use Rattle.blk_back.specs.declared.stage.BackStage.{BackStage}
use Rattle.ring_laws.proofs.Began.{Terms}
use Rattle.ring_laws.proofs.Shows.{Sight}
use Rattle.ring_laws.proofs.Knows.{KnowsAt}
use Rattle.ring_laws.proofs.Lists.{AreApart, all_first, all_pairs, all_of_map}
use Rattle.ring_laws.proofs.Works.{numbers}
use Rattle.ring_laws.proofs.Fetched.{AreFetched, fetched_upto}
use Rattle.ring_laws.proofs.Matching.{Matched, IsFree, Passes, chosen_of, answer_of, job_in, jobs_in, moved, free}
use Rattle.ring_laws.proofs.Due.{IsWorkOver, Answered, Candidate, jobs_of, response_in, next_word, replying}
use Rattle.ring_laws.proofs.Owed.{IsOwed, Owes, numbers_of}
use Rattle.ring_laws.proofs.Over.{due}
use Rattle.ring_laws.proofs.Rows.{lines_none}
use Rattle.ring_laws.proofs.Replying.{pending, pending_at, IsReplyOf, done_found}
use Rattle.ring_laws.proofs.Chosen.{words_in, IsDueTo, IsChosen}
use Rattle.report_rules.specs.Stretch.{entries_read}
use Rattle.ring_laws.proofs.EntryWords.{entry_values}

-- a job that is due these words, and unmapped what it mapped
record IsGood (before : List Line) (words : List ℕ) (k : ℕ) : Type 0 where
  due : response_due before k ≡ Some words
  left : left_to k (this_epoch before) ≡ []
  first : 1 ≤ k
  last : k ≤ entries_read before

over_good : (terms : Terms) (before : List Line) (values words : List ℕ) (k : ℕ) (r : Response) → entry_values before ≡ values → AreFetched terms before → response_words_of r ≡ words → IsWorkOver terms values (this_epoch before) k r → IsGood before words k
over_good terms before values words k r same are is o =
    record { due = due terms before values k r same are o ∙ ap (λ (ws : List ℕ). Some ws) is; left = o.left; first = o.first; last = fetched_upto terms before values k same are o.read }

-- of one that was answered, where the one that the rule found is due these words
passing : (terms : Terms) (before : List Line) (values words : List ℕ) (m : Matched) → entry_values before ≡ values → AreFetched terms before → IsDueTo before m → IsOwed terms values (this_epoch before) (answer_of m) → Passes (IsGood before words) m
passing terms before values words m same are found owed good =
    let a : Answered = m.answer in
    let is : words_in m ≡ words = same_words (sym found ∙ good.due) in
    over_good terms before values words a.job a.response same are is owed
  where
    same_words : {a b : List ℕ} → Some a ≡ Some b → a ≡ b
    same_words e = cc

jobs_same : (matched : List Matched) → jobs_of (map answer_of matched) ≡ jobs_in matched
jobs_same [] = refl
jobs_same (m ∷ matched) = ap (λ (js : List ℕ). job_in m ∷ js) (jobs_same matched)

-- the first of different numbers are different
apart_prefix : (xs ys : List ℕ) → AreApart (xs ++ ys) → AreApart xs
apart_prefix [] ys apart = tt
apart_prefix (x ∷ xs) ys apart = (all_first (λ (m : ℕ). m ≢ x) xs ys apart.0, apart_prefix xs ys apart.1)

none_chosen : (matched : List Matched) (k : ℕ) → AllByRecursion (λ (m : Matched). m.chosen ≢ k) matched → is_one_of k (map chosen_of matched) ≡ false
none_chosen [] k others = refl
none_chosen (m ∷ matched) k others = ap (λ (b : Bool). b || is_one_of k (map chosen_of matched)) (other m.chosen others.0) ∙ none_chosen matched k others.1
  where
    other : (n : ℕ) → n ≢ k → (n == k) ≡ false
    other n differs = grind (arith, nat_tests)

-- a reply that begins
begun_has : (terms : Terms) (before : List Line) (values : List ℕ) (fetched : ℕ) (works : List Work) (answered : List Answered) (s : BackStage) (r : Reply) → entry_values before ≡ values → AreFetched terms before → IsChosen before s answered → ((d : IsReplyOf works r) → IsOwed terms values (this_epoch before) (let t : Work = d.job in pending t.number r))
    → Owes terms values (this_epoch before) fetched works (answered ++ []) → IsReplyOf works r → Candidate before 0 (response_in r)
begun_has terms before values fetched works answered s r same are c done o d =
    let job : Work = d.job in
    let words : List ℕ = response_words_of (response_in r) in
    let among : IsAmong works d.place d.job = place_among works d.place d.job d.found in
    let split : numbers works ≡ numbers among.front ++ job.number ∷ numbers among.rest = numbers_of works among.front among.rest d.job among.is in
    let apart : AreApart (jobs_of answered ++ numbers works) = subst (λ (l : List Answered). AreApart (jobs_of l ++ numbers works)) (append-nil answered) o.apart in
    let parted : AreApart (jobs_of answered ++ job.number ∷ []) = apart_prefix (jobs_of answered ++ job.number ∷ []) (numbers among.front ++ numbers among.rest) (moved (jobs_of answered) (numbers among.front) (numbers among.rest) job.number (subst (λ (ns : List ℕ). AreApart (jobs_of answered ++ ns)) split apart)) in
    let turned : AreApart (job.number ∷ (jobs_of answered ++ [])) = moved [] (jobs_of answered) [] job.number parted in
    let jobs : jobs_of answered ++ [] ≡ jobs_in c.matched = append-nil (jobs_of answered) ∙ (ap jobs_of (sym c.answers) ∙ jobs_same c.matched) in
    let owed : AllByRecursion (IsOwed terms values (this_epoch before)) answered = all_first (IsOwed terms values (this_epoch before)) answered [] o.each in
    let each : AllByRecursion (λ (m : Matched). IsOwed terms values (this_epoch before) (answer_of m)) c.matched = all_of_map (IsOwed terms values (this_epoch before)) answer_of c.matched (subst (λ (l : List Answered). AllByRecursion (IsOwed terms values (this_epoch before)) l) (sym c.answers) owed) in
    let passes : AllByRecursion (Passes (IsGood before (response_words_of (response_in r)))) c.matched =
    all_pairs (IsDueTo before) (λ (m : Matched). IsOwed terms values (this_epoch before) (answer_of m)) (Passes (IsGood before (response_words_of (response_in r)))) c.matched (λ m found over. passing terms before values words m same are found over) c.due each in
    let f : IsFree (IsGood before (response_words_of (response_in r))) c.matched =
    free (length c.matched) (IsGood before (response_words_of (response_in r))) c.matched job.number refl (subst (λ (ns : List ℕ). AreApart (job.number ∷ ns)) jobs turned) passes (over_good terms before values words job.number (response_in r) same are refl (done d)) in
    let good : IsGood before (response_words_of (response_in r)) f.job = f.good in
    record {
      job = f.job;
      other = ap (λ (js : List ℕ). is_one_of f.job js) c.chosen ∙ none_chosen c.matched f.job f.other;
      due = ap (λ (ls : List Line). response_due ls f.job) (lines_none before) ∙ good.due;
      first = good.first;
      last = subst (λ (ls : List Line). f.job ≤ entries_read ls) (sym (lines_none before)) good.last;
      left = good.left;
    }

abbrev pub NextHas : List Line → Option (Reply × ℕ) → Type 0
NextHas before next = IfSome next (λ (p : Reply × ℕ). Candidate before p.1 (response_in p.0))

loop_has : (terms : Terms) (before : List Line) (x : Sight) (v : View) (answered : List Answered) (s : BackStage) (next : Option Reply) → next_reply v ≡ next → entry_values before ≡ x.values → AreFetched terms before → IsChosen before s answered → ((r : Reply) (d : IsReplyOf v.jobs.works r) → IsOwed terms x.values (this_epoch before) (let t : Work = d.job in pending t.number r))
    → Owes terms x.values (this_epoch before) v.fetched v.jobs.works (answered ++ []) → NextHas before (next_word next)
loop_has terms before x v answered s None e same are c done o = tt
loop_has terms before x v answered s (Some r) e same are c done o = begun_has terms before x.values v.fetched v.jobs.works answered s r same are c (done r) o (done_found v.jobs.works r e)

-- what is owed, as long as the back hasn't halted
pub next_has : (terms : Terms) (before : List Line) (x : Sight) (s : BackStage) (v : View) (answered : List Answered) (k : ℕ) → KnowsAt s x v → entry_values before ≡ x.values → AreFetched terms before → IsChosen before s answered
    → (v.halted ≡ None → (r : Reply) (d : IsReplyOf v.jobs.works r) → IsOwed terms x.values (this_epoch before) (let t : Work = d.job in pending t.number r))
    → (v.halted ≡ None → Owes terms x.values (this_epoch before) v.fetched v.jobs.works (answered ++ pending_at s k))
    → NextHas before (replying s v)
next_has terms before x stage.Loop v answered k knows same are c done o = loop_has terms before x v answered stage.Loop (next_reply v) refl same are c (done knows.running) (o knows.running)
next_has terms before x (stage.ReplyHigh r) v answered k knows same are c done o = c.row
next_has terms before x (stage.ReplyLast r) v answered k knows same are c done o = c.row
next_has terms before x (stage.Producer r) v answered k knows same are c done o = c.row
next_has terms before x s v answered k knows same are c done o = tt
