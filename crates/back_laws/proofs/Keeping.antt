-- What is kept of a back's activities: the requests that they fetched, with their jobs and their replies, one of which may be under way.
use Rattle.std.proofs.Common.{◌≡◌, ℕ, ◌+◌, ◌%◌, ◌^◌, ◌<◌, Bool, true, false, List, [], ◌∷◌, ◌++◌, length, remove, refl, sym, ap, ◌∙◌, subst, arith, length-append}
use Rattle.std.specs.Prelude.{Option, Some, None, slice_get, slice_set, ◌==◌, option_and_then, position, slice_index_or}
use Rattle.std.specs.List.{filter_map}
use Rattle.std.proofs.lemmas.Bool.Decides.{nat_tests}
use Rattle.std.proofs.lemmas.Option.{none-some}
use Rattle.std.proofs.lemmas.List.{append-nil, append_assoc, map-append, length-map}
use Rattle.std.proofs.lemmas.List.Elements.{filter_map-append}
use Rattle.std.proofs.lemmas.List.Quantifiers.{position-Some}
use Rattle.std.proofs.lemmas.Option.{get_or_from_slice_get}
use Rattle.blk_base.specs.declared.operation.Abi.{Abi}
use Rattle.blk_base.specs.declared.ask.BackAnswer.{BackAnswer}
use Rattle.blk_layout.specs.Entry.{request_of}
use Rattle.segment_list.specs.declared.verdict.DiskInfo.{DiskInfo}
use Rattle.segment_list.specs.Verdict.{verdict_of}
use Rattle.back_jobs.specs.Work.{Work, ask_of, step_of, begun, IsAnswer}
use Rattle.back_jobs.specs.Jobs.{asked, place_of, work_at, work_of, waits, told_at, removed_at, is_done, response_of}
use Rattle.blk_back.specs.declared.stage.Reply.{Reply}
use Rattle.blk_back.specs.Ask.{reply_of}
use Rattle.back_laws.specs.Activity.{Asked, Activity, Fetches, Replies}
use Rattle.back_laws.specs.Ledger.{JobAsked, asks_for, Request, begun_of, jobs_from, words_in, entries_in, reply_in, replies_in, AreSame, Ledger}
use Rattle.back_laws.proofs.Ledger.{asks_other, jobs_push, served_push, number_low, jobs_told, Replied, jobs_replied}

pub record Requests (trace : List JobAsked) (info : DiskInfo) (abi : Abi) (works : List Work) (entries : List (List ℕ)) (replies : List Reply) : Type 0 where
  pub ledger : Ledger info abi trace entries replies works
  pub none : (k : ℕ) → length entries < k → asks_for k trace ≡ []

pub record IsKept (trace : List JobAsked) (info : DiskInfo) (abi : Abi) (works : List Work) (fetched : ℕ) (under : List Reply) (activities : List Activity) : Type 0 where
  pub count : fetched ≡ length (entries_in activities) % 2 ^ 64
  pub requests : length (entries_in activities) < 2 ^ 64 → Requests trace info abi works (entries_in activities) (under ++ replies_in activities)

abbrev pub Keeps : List JobAsked → DiskInfo → Abi → List Work → ℕ → List Reply → List Activity → Type 0
Keeps trace info abi works fetched under = λ (activities : List Activity). IsKept trace info abi works fetched under activities

-- nothing was done yet
pub keeps_none : (trace : List JobAsked) (info : DiskInfo) (abi : Abi) (works : List Work) (fetched : ℕ) → trace ≡ [] → works ≡ [] → fetched ≡ 0 → IsKept trace info abi works fetched [] []
keeps_none trace info abi works fetched quiet jobless first = record {
  count = omega arith;
  requests = λ few. record {
    ledger = record { requests = []; copied = refl; held = jobless; served = tt; replied = refl };
    none = λ k more. ap (λ (l : List JobAsked). asks_for k l) quiet;
  };
}

entries_more : (activities : List Activity) (d : Activity) → entries_in (activities ++ d ∷ []) ≡ entries_in activities ++ words_in d
entries_more [] d = append-nil (words_in d)
entries_more (x ∷ activities) d = ap (λ (l : List (List ℕ)). words_in x ++ l) (entries_more activities d) ∙ sym (append_assoc (words_in x) (entries_in activities) (words_in d))

replies_more : (activities : List Activity) (d : Activity) → replies_in (activities ++ d ∷ []) ≡ reply_in d ++ replies_in activities
replies_more [] d = sym (append-nil (reply_in d))
replies_more (x ∷ activities) d = ap (λ (l : List Reply). l ++ reply_in x) (replies_more activities d) ∙ append_assoc (reply_in d) (replies_in activities) (reply_in x)

-- the same entries and the same replies
same_kept : (trace : List JobAsked) (info : DiskInfo) (abi : Abi) (works : List Work) (fetched : ℕ) (under now : List Reply) (activities later : List Activity)
    → entries_in later ≡ entries_in activities → now ++ replies_in later ≡ under ++ replies_in activities → IsKept trace info abi works fetched under activities → IsKept trace info abi works fetched now later
same_kept trace info abi works fetched under now activities later entries replies k = record {
  count = k.count ∙ ap (λ (l : List (List ℕ)). length l % 2 ^ 64) (sym entries);
  requests = λ few.
      subst (λ (l : List (List ℕ)). Requests trace info abi works l (now ++ replies_in later)) (sym entries)
      (subst (λ (l : List Reply). Requests trace info abi works (entries_in activities) l) (sym replies)
      (k.requests (subst (λ (l : List (List ℕ)). length l < 2 ^ 64) entries few)));
}

-- an activity that fetches nothing and replies to nothing
pub still_kept : (trace : List JobAsked) (info : DiskInfo) (abi : Abi) (works : List Work) (fetched : ℕ) (d : Activity) → (words_in d ≡ []) × (reply_in d ≡ []) → (activities : List Activity)
    → IsKept trace info abi works fetched [] activities → IsKept trace info abi works fetched [] (activities ++ d ∷ [])
still_kept trace info abi works fetched d none activities k =
    same_kept trace info abi works fetched [] [] activities (activities ++ d ∷ [])
    (entries_more activities d ∙ (ap (λ (l : List (List ℕ)). entries_in activities ++ l) none.0 ∙ append-nil (entries_in activities)))
    (replies_more activities d ∙ ap (λ (l : List Reply). l ++ replies_in activities) none.1) k

-- a reply is under way no longer
pub replied_kept : (trace : List JobAsked) (info : DiskInfo) (abi : Abi) (works : List Work) (fetched : ℕ) (reply : Reply) (event : ℕ) (activities : List Activity)
    → IsKept trace info abi works fetched (reply ∷ []) activities → IsKept trace info abi works fetched [] (activities ++ Replies reply event ∷ [])
replied_kept trace info abi works fetched reply event activities k =
    same_kept trace info abi works fetched (reply ∷ []) [] activities (activities ++ Replies reply event ∷ [])
    (entries_more activities (Replies reply event) ∙ append-nil (entries_in activities)) (replies_more activities (Replies reply event)) k

-- as many requests as entries
many : (info : DiskInfo) (abi : Abi) (trace : List JobAsked) (entries : List (List ℕ)) (replies : List Reply) (works : List Work) (l : Ledger info abi trace entries replies works) → length l.requests ≡ length entries
many info abi trace entries replies works l = sym (length-map l.requests (λ (q : Request). q.words)) ∙ ap (λ (ws : List (List ℕ)). length ws) l.copied

-- an entry was fetched
fetched_requests : (trace : List JobAsked) (info : DiskInfo) (abi : Abi) (works : List Work) (number : ℕ) (entries : List (List ℕ)) (replies : List Reply) (words : List ℕ) → number ≡ 1 + length entries
    → Requests trace info abi works entries replies → Requests trace info abi (works ++ begun number (request_of abi words) info.sectors (verdict_of (request_of abi words) info) ∷ []) (entries ++ words ∷ []) replies
fetched_requests trace info abi works number entries replies words numbered r =
    let q : Request = record { words = words; reply = None } in
    let all : List Request = r.ledger.requests in
    let size : length all ≡ length entries = many info abi trace entries replies works r.ledger in
    let silent : asks_for (1 + length all) trace ≡ [] = r.none (1 + length all) (omega arith) in
    let same : 1 + length all ≡ number = omega arith in
    let longer : length (entries ++ words ∷ []) ≡ length entries + 1 = length-append entries (words ∷ []) in
    record {
      ledger = record {
        requests = all ++ q ∷ [];
        copied = map-append (λ (p : Request). p.words) all (q ∷ []) ∙ ap (λ (l : List (List ℕ)). l ++ words ∷ []) r.ledger.copied;
        held = ap (λ (l : List Work). l ++ begun_of info abi number q ∷ []) r.ledger.held ∙ (ap (λ (n : ℕ). jobs_from info abi trace 1 all ++ begun_of info abi n q ∷ []) (sym same) ∙ sym (jobs_push info abi trace 1 all words silent));
        served = served_push info abi trace 1 all words silent r.ledger.served;
        replied = subst (λ (l : List Reply). AreSame replies l) (sym (filter_map-append (λ (p : Request). p.reply) all (q ∷ []) ∙ append-nil (filter_map (λ (p : Request). p.reply) all))) r.ledger.replied;
      };
      none = λ k more. r.none k (omega (arith, longer, more));
    }

pub fetched_kept : (trace : List JobAsked) (info : DiskInfo) (abi : Abi) (works : List Work) (fetched : ℕ) (words : List ℕ) (activities : List Activity)
    → IsKept trace info abi works fetched [] activities
    → IsKept trace info abi (works ++ begun ((fetched + 1) % 2 ^ 64) (request_of abi words) info.sectors (verdict_of (request_of abi words) info) ∷ []) ((fetched + 1) % 2 ^ 64) [] (activities ++ Fetches words ∷ [])
fetched_kept trace info abi works fetched words activities k =
    let entries : List (List ℕ) = entries_in activities in
    let more : entries_in (activities ++ Fetches words ∷ []) ≡ entries ++ words ∷ [] = entries_more activities (Fetches words) in
    let size : length (entries_in (activities ++ Fetches words ∷ [])) ≡ length entries + 1 = ap (λ (l : List (List ℕ)). length l) more ∙ length-append entries (words ∷ []) in
    let count : fetched ≡ length entries % 2 ^ 64 = k.count in
    let later : List Work = works ++ begun ((fetched + 1) % 2 ^ 64) (request_of abi words) info.sectors (verdict_of (request_of abi words) info) ∷ [] in
    record {
      count = one_more fetched (length entries) (length (entries_in (activities ++ Fetches words ∷ []))) count size;
      requests = λ few.
          subst (λ (l : List (List ℕ)). Requests trace info abi later l (replies_in (activities ++ Fetches words ∷ []))) (sym more)
          (subst (λ (l : List Reply). Requests trace info abi later (entries ++ words ∷ []) l) (sym (replies_more activities (Fetches words)))
          (fetched_requests trace info abi works ((fetched + 1) % 2 ^ 64) entries (replies_in activities) words (its_number fetched (length entries) (length (entries_in (activities ++ Fetches words ∷ []))) count size few) (k.requests (omega (arith, size, few)))));
    }
  where
    one_more : (f n m : ℕ) → f ≡ n % 2 ^ 64 → m ≡ n + 1 → (f + 1) % 2 ^ 64 ≡ m % 2 ^ 64
    one_more f n m count size = omega arith

    its_number : (f n m : ℕ) → f ≡ n % 2 ^ 64 → m ≡ n + 1 → m < 2 ^ 64 → (f + 1) % 2 ^ 64 ≡ 1 + n
    its_number f n m count size few = omega arith

-- a reply is begun: its job is held no longer
pub begun_kept : (trace : List JobAsked) (info : DiskInfo) (abi : Abi) (works : List Work) (fetched : ℕ) (reply : Reply) (place : ℕ) (t : Work) → slice_get works place ≡ Some t → reply_of (response_of t) ≡ Some reply → (activities : List Activity)
    → IsKept trace info abi works fetched [] activities → IsKept trace info abi (remove works place) fetched (reply ∷ []) activities
begun_kept trace info abi works fetched reply place t found is activities k = record {
  count = k.count;
  requests = λ few.
      let r = k.requests few in
      let l = r.ledger in
      let m : Replied info abi trace 1 l.requests place reply = jobs_replied info abi trace 1 l.requests place t reply (subst (λ (ws : List Work). slice_get ws place ≡ Some t) l.held found) is l.served in
      record {
        ledger = record {
          requests = m.after;
          copied = m.words ∙ l.copied;
          held = ap (λ (ws : List Work). remove ws place) l.held ∙ sym m.jobs;
          served = m.served;
          replied = (m.front, m.rest, m.now, subst (λ (rs : List Reply). AreSame (replies_in activities) rs) m.before l.replied);
        };
        none = r.none;
      };
}

-- a job was told
pub told_kept : (trace : List JobAsked) (info : DiskInfo) (abi : Abi) (works : List Work) (fetched : ℕ) (under : List Reply) (j : JobAsked) (place : ℕ) (t : Work)
    → slice_get works place ≡ Some t → t.number ≡ j.number → (let a : Asked = j.asked in (a.ask ≡ ask_of t) × IsAnswer (ask_of t) a.answer) → (activities : List Activity)
    → IsKept trace info abi works fetched under activities → (let a : Asked = j.asked in IsKept (trace ++ j ∷ []) info abi (slice_set works place (step_of t a.answer)) fetched under activities)
told_kept trace info abi works fetched under j place t found number ok activities k = record {
  count = k.count;
  requests = λ few.
      let r = k.requests few in
      let l = r.ledger in
      let here : slice_get (jobs_from info abi trace 1 l.requests) place ≡ Some t = subst (λ (ws : List Work). slice_get ws place ≡ Some t) l.held found in
      let m = jobs_told info abi trace j 1 l.requests place t here number ok l.served in
      let low = (number_low info abi trace 1 l.requests place t here).1 in
      let size = many info abi trace (entries_in activities) (under ++ replies_in activities) works l in
      record {
        ledger = record {
          requests = l.requests;
          copied = l.copied;
          held = ap (λ (ws : List Work). slice_set ws place (step_of t (let a : Asked = j.asked in a.answer))) l.held ∙ sym m.0;
          served = m.1;
          replied = l.replied;
        };
        none = λ n more. asks_other n trace j (other j.number n (omega (arith, low, size, more, number))) ∙ r.none n more;
      };
}
  where
    other : (a b : ℕ) → a < b → (a == b) ≡ false
    other a b low = grind (arith, nat_tests)

-- the job that was told stands at a place
pub record IsTold (works : List Work) (number : ℕ) (given : BackAnswer) : Type 0 where
  pub place : ℕ
  pub job : Work
  pub found : slice_get works place ≡ Some job
  pub numbered : job.number ≡ number
  pub asks : asked (waits works number) (work_of works number) ≡ ask_of job
  pub allowed : IsAnswer (ask_of job) given
  pub after : told_at works (place_of works number) (work_of works number) given ≡ slice_set works place (step_of job given)

pub told_one : (works : List Work) (number : ℕ) (given : BackAnswer) → IsAnswer (asked (waits works number) (work_of works number)) given → IsTold works number given
told_one works number given ok = by_place (place_of works number) refl (work_of works number) refl (waits works number) refl ok
  where
    alike : (a b : ℕ) → (a == b) ≡ true → a ≡ b
    alike a b test = grind (arith, nat_tests)

    by_place : (o : Option ℕ) → place_of works number ≡ o → (w : Option Work) → work_of works number ≡ w → (held : Bool) → waits works number ≡ held → IsAnswer (asked held w) given → IsTold works number given
    by_place o e None f held g ok = absurd ok
    by_place o e (Some t) f true g ok = absurd ok
    by_place None e (Some t) f false g ok = absurd (none-some t (sym (ap (λ (o : Option ℕ). work_at works o) e) ∙ f))
    by_place (Some place) e (Some t) f false g ok =
        let found : slice_get works place ≡ Some t = sym (ap (λ (o : Option ℕ). work_at works o) e) ∙ f in
        let first = position-Some (λ (u : Work). u.number == number) works place t e in
        let same : slice_index_or works place t ≡ t = get_or_from_slice_get works place t t found in
        let test : (t.number == number) ≡ true = ap (λ (u : Work). u.number == number) (sym same) ∙ first.1 in
        record {
          place = place;
          job = t;
          found = found;
          numbered = alike t.number number test;
          asks = ap (λ (b : Bool). asked b (work_of works number)) g ∙ ap (λ (w : Option Work). asked false w) f;
          allowed = ok;
          after = ap (λ (o : Option ℕ). told_at works o (work_of works number) given) e ∙ ap (λ (w : Option Work). told_at works (Some place) w given) f;
        }

-- the lowest job that is done, where there is one
pub record IsLowest (works : List Work) (reply : Reply) : Type 0 where
  pub place : ℕ
  pub job : Work
  pub found : slice_get works place ≡ Some job
  pub is : reply_of (response_of job) ≡ Some reply
  pub after : removed_at works (position (λ (t : Work). is_done t) works) ≡ remove works place

pub lowest_one : (works : List Work) (reply : Reply) → reply_of (option_and_then response_of (work_at works (position (λ (t : Work). is_done t) works))) ≡ Some reply → IsLowest works reply
lowest_one works reply is = by_place (position (λ (t : Work). is_done t) works) refl is
  where
    by_work : (place : ℕ) → position (λ (t : Work). is_done t) works ≡ Some place → (w : Option Work) → slice_get works place ≡ w → reply_of (option_and_then response_of w) ≡ Some reply → IsLowest works reply
    by_work place e None found is = absurd (none-some reply is)
    by_work place e (Some t) found is = record { place = place; job = t; found = found; is = is; after = ap (λ (o : Option ℕ). removed_at works o) e }

    by_place : (o : Option ℕ) → position (λ (t : Work). is_done t) works ≡ o → reply_of (option_and_then response_of (work_at works o)) ≡ Some reply → IsLowest works reply
    by_place None e is = absurd (none-some reply is)
    by_place (Some place) e is = by_work place e (slice_get works place) refl is
