-- What a fetch, an answer to a job and a reply make of the requests of a run.
use Rattle.std.proofs.Common.{◌≡◌, ℕ, zero, suc, ◌+◌, ◌<◌, ◌≤◌, Bool, true, false, if◌then◌else◌, List, [], ◌∷◌, ◌++◌, length, map, remove, refl, sym, ap, ◌∙◌, subst, arith}
use Rattle.std.specs.Prelude.{Option, Some, None, slice_get, slice_set, ◌==◌}
use Rattle.std.specs.List.{filter_map}
use Rattle.std.proofs.lemmas.Bool.Decides.{nat_tests}
use Rattle.std.proofs.lemmas.Option.{none-some}
use Rattle.blk_base.specs.declared.operation.Abi.{Abi}
use Rattle.segment_list.specs.declared.verdict.DiskInfo.{DiskInfo}
use Rattle.back_jobs.specs.Work.{Work, ask_of, step_of, IsAnswer}
use Rattle.back_jobs.specs.Jobs.{response_of}
use Rattle.blk_back.specs.declared.stage.Reply.{Reply}
use Rattle.blk_back.specs.Ask.{reply_of}
use Rattle.back_laws.specs.Activity.{Asked}
use Rattle.back_laws.specs.Ledger.{JobAsked, asks_for, told_all, AreItsAsks, Request, begun_of, job_of, with_job, jobs_from, IsReplyTo, AreServed}
use Rattle.back_laws.proofs.Numbers.{job_number}

-- one ask more
told_more : (t : Work) (asked : List Asked) (a : Asked) → told_all t (asked ++ a ∷ []) ≡ step_of (told_all t asked) a.answer
told_more t [] a = refl
told_more t (b ∷ asked) a = told_more (step_of t b.answer) asked a

its_more : (t : Work) (asked : List Asked) (a : Asked) → AreItsAsks t asked → a.ask ≡ ask_of (told_all t asked) → IsAnswer (ask_of (told_all t asked)) a.answer → AreItsAsks t (asked ++ a ∷ [])
its_more t [] a its ask ok = (ask, ok, tt)
its_more t (b ∷ asked) a its ask ok = (its.0, its.1, its_more (step_of t b.answer) asked a its.2 ask ok)

pub asks_other : (k : ℕ) (trace : List JobAsked) (j : JobAsked) → (j.number == k) ≡ false → asks_for k (trace ++ j ∷ []) ≡ asks_for k trace
asks_other k [] j other = rw other refl
asks_other k (i ∷ trace) j other = by_test (i.number == k) (asks_other k trace j other)
  where
    by_test : (b : Bool) → asks_for k (trace ++ j ∷ []) ≡ asks_for k trace → (if b then i.asked ∷ asks_for k (trace ++ j ∷ []) else asks_for k (trace ++ j ∷ [])) ≡ (if b then i.asked ∷ asks_for k trace else asks_for k trace)
    by_test true e = ap (λ (l : List Asked). i.asked ∷ l) e
    by_test false e = e

asks_same : (k : ℕ) (trace : List JobAsked) (j : JobAsked) → (j.number == k) ≡ true → asks_for k (trace ++ j ∷ []) ≡ asks_for k trace ++ j.asked ∷ []
asks_same k [] j same = rw same refl
asks_same k (i ∷ trace) j same = by_test (i.number == k) (asks_same k trace j same)
  where
    by_test : (b : Bool) → asks_for k (trace ++ j ∷ []) ≡ asks_for k trace ++ j.asked ∷ [] → (if b then i.asked ∷ asks_for k (trace ++ j ∷ []) else asks_for k (trace ++ j ∷ [])) ≡ (if b then i.asked ∷ asks_for k trace else asks_for k trace) ++ j.asked ∷ []
    by_test true e = ap (λ (l : List Asked). i.asked ∷ l) e
    by_test false e = e

-- an entry was fetched: its request is the last one
pub jobs_push : (info : DiskInfo) (abi : Abi) (trace : List JobAsked) (k : ℕ) (requests : List Request) (words : List ℕ) → asks_for (k + length requests) trace ≡ []
    → (let q : Request = record { words = words; reply = None } in jobs_from info abi trace k (requests ++ q ∷ []) ≡ jobs_from info abi trace k requests ++ begun_of info abi (k + length requests) q ∷ [])
jobs_push info abi trace k [] words none =
    let q : Request = record { words = words; reply = None } in
    let same : k + 0 ≡ k = omega arith in
    let here : asks_for k trace ≡ [] = subst (λ (n : ℕ). asks_for n trace ≡ []) same none in
    rw (same, here) refl
jobs_push info abi trace k (p ∷ requests) words none = by_reply p.reply (jobs_push info abi trace (k + 1) requests words (subst (λ (n : ℕ). asks_for n trace ≡ []) (sym same) none) ∙ ap (λ (n : ℕ). jobs_from info abi trace (k + 1) requests ++ begun_of info abi n q ∷ []) same)
  where
    q : Request
    q = record { words = words; reply = None }

    same : k + 1 + length requests ≡ k + length (p ∷ requests)
    same = omega arith

    by_reply : (o : Option Reply) → jobs_from info abi trace (k + 1) (requests ++ q ∷ []) ≡ jobs_from info abi trace (k + 1) requests ++ begun_of info abi (k + length (p ∷ requests)) q ∷ [] → with_job o (job_of info abi trace k p) (jobs_from info abi trace (k + 1) (requests ++ q ∷ [])) ≡ with_job o (job_of info abi trace k p) (jobs_from info abi trace (k + 1) requests) ++ begun_of info abi (k + length (p ∷ requests)) q ∷ []
    by_reply None rest = ap (λ (l : List Work). job_of info abi trace k p ∷ l) rest
    by_reply (Some reply) rest = rest

pub served_push : (info : DiskInfo) (abi : Abi) (trace : List JobAsked) (k : ℕ) (requests : List Request) (words : List ℕ) → asks_for (k + length requests) trace ≡ [] → AreServed info abi trace k requests
    → AreServed info abi trace k (requests ++ record { words = words; reply = None } ∷ [])
served_push info abi trace k [] words none all =
    let same : k + 0 ≡ k = omega arith in
    let here : asks_for k trace ≡ [] = subst (λ (n : ℕ). asks_for n trace ≡ []) same none in
    (rw here tt, tt, tt)
served_push info abi trace k (p ∷ requests) words none all =
    let same : k + 1 + length requests ≡ k + length (p ∷ requests) = omega arith in
    (all.0, all.1, served_push info abi trace (k + 1) requests words (subst (λ (n : ℕ). asks_for n trace ≡ []) (sym same) none) all.2)

-- a job of a later number was told: those before have theirs as they had it
kept_jobs : (info : DiskInfo) (abi : Abi) (trace : List JobAsked) (j : JobAsked) (k : ℕ) (requests : List Request) → j.number < k → jobs_from info abi (trace ++ j ∷ []) k requests ≡ jobs_from info abi trace k requests
kept_jobs info abi trace j k [] low = refl
kept_jobs info abi trace j k (q ∷ requests) low =
    let other : (j.number == k) ≡ false = apart j.number k low in
    ap (λ (l : List Asked). with_job q.reply (told_all (begun_of info abi k q) l) (jobs_from info abi (trace ++ j ∷ []) (k + 1) requests)) (asks_other k trace j other)
    ∙ ap (λ (l : List Work). with_job q.reply (job_of info abi trace k q) l) (kept_jobs info abi trace j (k + 1) requests (omega arith))
  where
    apart : (n m : ℕ) → n < m → (n == m) ≡ false
    apart n m low = grind (arith, nat_tests)

kept_served : (info : DiskInfo) (abi : Abi) (trace : List JobAsked) (j : JobAsked) (k : ℕ) (requests : List Request) → j.number < k → AreServed info abi trace k requests → AreServed info abi (trace ++ j ∷ []) k requests
kept_served info abi trace j k [] low all = tt
kept_served info abi trace j k (q ∷ requests) low all =
    let same = sym (asks_other k trace j (apart j.number k low)) in (
      subst (λ (l : List Asked). AreItsAsks (begun_of info abi k q) l) same all.0,
      subst (λ (l : List Asked). IsReplyTo q.reply (told_all (begun_of info abi k q) l)) same all.1,
      kept_served info abi trace j (k + 1) requests (omega arith) all.2,
    )
  where
    apart : (n m : ℕ) → n < m → (n == m) ≡ false
    apart n m low = grind (arith, nat_tests)

-- a job that is held from number k on has such a number
pub number_low : (info : DiskInfo) (abi : Abi) (trace : List JobAsked) (k : ℕ) (requests : List Request) (place : ℕ) (t : Work) → slice_get (jobs_from info abi trace k requests) place ≡ Some t → (k ≤ t.number) × (t.number < k + length requests)
number_low info abi trace k [] place t found = absurd (none-some t found)
number_low info abi trace k (q ∷ requests) place t found = by_reply q.reply place found
    (λ place found. let low = number_low info abi trace (k + 1) requests place t found in let first = low.0 in let last = low.1 in (omega arith, omega arith))
  where
    by_reply : (o : Option Reply) (place : ℕ) → slice_get (with_job o (job_of info abi trace k q) (jobs_from info abi trace (k + 1) requests)) place ≡ Some t
        → ((place : ℕ) → slice_get (jobs_from info abi trace (k + 1) requests) place ≡ Some t → (k ≤ t.number) × (t.number < k + length (q ∷ requests))) → (k ≤ t.number) × (t.number < k + length (q ∷ requests))
    by_reply (Some reply) place found later = later place found
    by_reply None zero found later =
        let is : job_of info abi trace k q ≡ t = cc in
        let number : t.number ≡ k = sym (ap (λ (u : Work). u.number) is) ∙ job_number info abi trace k q in
        (omega arith, omega arith)
    by_reply None (suc place) found later = later place found

-- a job was told an answer to what it asks
pub jobs_told : (info : DiskInfo) (abi : Abi) (trace : List JobAsked) (j : JobAsked) (k : ℕ) (requests : List Request) (place : ℕ) (t : Work)
    → slice_get (jobs_from info abi trace k requests) place ≡ Some t → t.number ≡ j.number → (let a : Asked = j.asked in (a.ask ≡ ask_of t) × IsAnswer (ask_of t) a.answer) → AreServed info abi trace k requests
    → (let a : Asked = j.asked in jobs_from info abi (trace ++ j ∷ []) k requests ≡ slice_set (jobs_from info abi trace k requests) place (step_of t a.answer)) × AreServed info abi (trace ++ j ∷ []) k requests
jobs_told info abi trace j k [] place t found number ok all = absurd (none-some t found)
jobs_told info abi trace j k (q ∷ requests) place t found number ok all = by_reply q.reply place found all.1
    (λ place found.
    let low = (number_low info abi trace (k + 1) requests place t found).0 in
    let rest = jobs_told info abi trace j (k + 1) requests place t found number ok all.2 in
    (rest.0, asks_other k trace j (apart j.number k (omega arith)), rest.1))
  where
    a : Asked
    a = j.asked

    tell : List JobAsked
    tell = trace ++ j ∷ []

    apart : (n m : ℕ) → m + 1 ≤ n → (n == m) ≡ false
    apart n m low = grind (arith, nat_tests)

    alike : (n m : ℕ) → n ≡ m → (n == m) ≡ true
    alike n m same = grind (arith, nat_tests)

    by_reply : (o : Option Reply) (place : ℕ) → slice_get (with_job o (job_of info abi trace k q) (jobs_from info abi trace (k + 1) requests)) place ≡ Some t → IsReplyTo o (job_of info abi trace k q)
        → ((place : ℕ) → slice_get (jobs_from info abi trace (k + 1) requests) place ≡ Some t → (jobs_from info abi tell (k + 1) requests ≡ slice_set (jobs_from info abi trace (k + 1) requests) place (step_of t a.answer)) × (asks_for k tell ≡ asks_for k trace) × AreServed info abi tell (k + 1) requests)
        → (with_job o (job_of info abi tell k q) (jobs_from info abi tell (k + 1) requests) ≡ slice_set (with_job o (job_of info abi trace k q) (jobs_from info abi trace (k + 1) requests)) place (step_of t a.answer))
        × (AreItsAsks (begun_of info abi k q) (asks_for k tell) × IsReplyTo o (job_of info abi tell k q) × AreServed info abi tell (k + 1) requests)
    by_reply (Some reply) place found is later =
        let l = later place found in
        (l.0, (subst (λ (asked : List Asked). AreItsAsks (begun_of info abi k q) asked) (sym l.1) all.0, subst (λ (asked : List Asked). IsReplyTo (Some reply) (told_all (begun_of info abi k q) asked)) (sym l.1) is, l.2))
    by_reply None (suc place) found is later =
        let l = later place found in (
          ap (λ (asked : List Asked). told_all (begun_of info abi k q) asked ∷ jobs_from info abi tell (k + 1) requests) l.1 ∙ ap (λ (works : List Work). job_of info abi trace k q ∷ works) l.0,
          (subst (λ (asked : List Asked). AreItsAsks (begun_of info abi k q) asked) (sym l.1) all.0, tt, l.2),
        )
    by_reply None zero found is later =
        let same : job_of info abi trace k q ≡ t = cc in
        let here : t.number ≡ k = sym (ap (λ (u : Work). u.number) same) ∙ job_number info abi trace k q in
        let this : (j.number == k) ≡ true = alike j.number k (sym number ∙ here) in
        let asked : asks_for k tell ≡ asks_for k trace ++ a ∷ [] = asks_same k trace j this in
        let stepped : job_of info abi tell k q ≡ step_of t a.answer =
        ap (λ (l : List Asked). told_all (begun_of info abi k q) l) asked ∙ (told_more (begun_of info abi k q) (asks_for k trace) a ∙ ap (λ (u : Work). step_of u a.answer) same) in (
          ap (λ (u : Work). u ∷ jobs_from info abi tell (k + 1) requests) stepped ∙ ap (λ (works : List Work). step_of t a.answer ∷ works) (kept_jobs info abi trace j (k + 1) requests (omega arith)),
          (
            subst (λ (l : List Asked). AreItsAsks (begun_of info abi k q) l) (sym asked)
                (its_more (begun_of info abi k q) (asks_for k trace) a all.0 (ok.0 ∙ ap ask_of (sym same)) (subst (λ (u : Work). IsAnswer (ask_of u) a.answer) (sym same) ok.1)),
            tt,
            kept_served info abi trace j (k + 1) requests (omega arith) all.2,
          ),
        )

-- a job got its response
pub record Replied (info : DiskInfo) (abi : Abi) (trace : List JobAsked) (k : ℕ) (requests : List Request) (place : ℕ) (reply : Reply) : Type 0 where
  pub after : List Request
  pub words : map (λ (q : Request). q.words) after ≡ map (λ (q : Request). q.words) requests
  pub jobs : jobs_from info abi trace k after ≡ remove (jobs_from info abi trace k requests) place
  pub served : AreServed info abi trace k after
  pub front : List Reply
  pub rest : List Reply
  pub before : filter_map (λ (q : Request). q.reply) requests ≡ front ++ rest
  pub now : filter_map (λ (q : Request). q.reply) after ≡ front ++ reply ∷ rest

pub jobs_replied : (info : DiskInfo) (abi : Abi) (trace : List JobAsked) (k : ℕ) (requests : List Request) (place : ℕ) (t : Work) (reply : Reply)
    → slice_get (jobs_from info abi trace k requests) place ≡ Some t → reply_of (response_of t) ≡ Some reply → AreServed info abi trace k requests → Replied info abi trace k requests place reply
jobs_replied info abi trace k [] place t reply found is all = absurd (none-some t found)
jobs_replied info abi trace k (q ∷ requests) place t reply found is all = by_reply q.reply place found all.1 (λ place found. jobs_replied info abi trace (k + 1) requests place t reply found is all.2)
  where
    with : Option Reply → Request
    with o = record { words = q.words; reply = o }

    by_reply : (o : Option Reply) (place : ℕ) → slice_get (with_job o (job_of info abi trace k q) (jobs_from info abi trace (k + 1) requests)) place ≡ Some t → IsReplyTo o (job_of info abi trace k q)
        → ((place : ℕ) → slice_get (jobs_from info abi trace (k + 1) requests) place ≡ Some t → Replied info abi trace (k + 1) requests place reply) → Replied info abi trace k (with o ∷ requests) place reply
    by_reply (Some other) place found replied later =
        let r = later place found in
        record {
          after = with (Some other) ∷ r.after;
          words = ap (λ (l : List (List ℕ)). q.words ∷ l) r.words;
          jobs = r.jobs;
          served = (all.0, replied, r.served);
          front = other ∷ r.front;
          rest = r.rest;
          before = ap (λ (l : List Reply). other ∷ l) r.before;
          now = ap (λ (l : List Reply). other ∷ l) r.now;
        }
    by_reply None (suc place) found replied later =
        let r = later place found in
        record {
          after = with None ∷ r.after;
          words = ap (λ (l : List (List ℕ)). q.words ∷ l) r.words;
          jobs = ap (λ (l : List Work). job_of info abi trace k q ∷ l) r.jobs;
          served = (all.0, tt, r.served);
          front = r.front;
          rest = r.rest;
          before = r.before;
          now = r.now;
        }
    by_reply None zero found replied later =
        let same : t ≡ job_of info abi trace k q = cc in
        record {
          after = with (Some reply) ∷ requests;
          words = refl;
          jobs = refl;
          served = (all.0, subst (λ (u : Work). reply_of (response_of u) ≡ Some reply) same is, all.2);
          front = [];
          rest = filter_map (λ (p : Request). p.reply) requests;
          before = refl;
          now = refl;
        }
