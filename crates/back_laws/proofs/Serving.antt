-- What an answer to a connected back makes of what is known.
use Rattle.std.proofs.Common.{◌≡◌, ℕ, ◌+◌, ◌<◌, ◌≤◌, Bool, true, false, if◌then◌else◌, List, [], ◌∷◌, ◌++◌, length, refl, sym, ap, ◌∙◌, subst, arith, length-append}
use Rattle.std.specs.Prelude.{Option, Some, None, ◌==◌}
use Rattle.std.proofs.lemmas.Bool.Decides.{nat_tests}
use Rattle.blk_base.specs.declared.ask.BackAsk.TheVariants as ask
use Rattle.blk_base.specs.declared.ask.BackAnswer.{BackAnswer}
use Rattle.blk_base.specs.declared.ask.BackAnswer.TheVariants as answer
use Rattle.ring_words.specs.Ring.{Ring, requests_of, overruns}
use Rattle.ring_words.specs.Shape.{entries_of, entry_words_of}
use Rattle.back_jobs.specs.Jobs.{first_mapping}
use Rattle.blk_base.specs.declared.halt.Halt.{Halt}
use Rattle.blk_back.specs.declared.stage.Reply.{Reply}
use Rattle.blk_back.specs.declared.stage.BackStage.TheVariants as stage
use Rattle.blk_back.specs.View.{View}
use Rattle.blk_back.specs.Ask.{loop_ask, reply_ask, index_ask, entry_ask, next_reply, IsAnswer}
use Rattle.blk_back.specs.Step.{overrun, looked, loop_step, fetched, fetch_step}
use Rattle.back_laws.specs.Activity.{Asked, Reach, Activity, Waits, Looks, Fetches, entry_from, read, slot_page, slot_word, asks_of, reached, indices, IsRight, IsOverrun}
use Rattle.blk_back.proofs.Slots.{response_fits}
use Rattle.back_laws.specs.Ledger.{JobAsked}
use Rattle.std.proofs.Common.{remove}
use Rattle.back_jobs.specs.Work.{Work}
use Rattle.back_laws.specs.Ledger.{words_in, reply_in}
use Rattle.back_laws.proofs.Keeping.{Keeps, still_kept, fetched_kept, begun_kept, IsLowest, lowest_one}
use Rattle.back_laws.proofs.Activities.{IsAt, entry_more, more, keeps, done, overran}
use Rattle.back_laws.proofs.Lives.{here, IsCopying, At, Knows}
use Rattle.back_laws.proofs.Opening.{Asks, Leads, giving_knows}

-- what is kept of the activities
abbrev pub KeptOf : List JobAsked → View → List Reply → List Activity → Type 0
KeptOf trace v under = Keeps trace v.jobs.info v.shape.abi v.jobs.works v.fetched under

-- one ask more, or the activity is done
pub grows : (start : ℕ) (trace : List JobAsked) (own : List Asked) (v : View) (under : List Reply) (r : Reach) (part : List Asked) (x : Asked) → At start trace own v under r part → At start trace (own ++ x ∷ []) v under r (part ++ x ∷ [])
grows start trace own v under r part x a = more start own v.shape v.pages v.halted r part (KeptOf trace v under) x a

pub ends : (start : ℕ) (trace : List JobAsked) (own : List Asked) (v : View) (r : Reach) (part : List Asked) (d : Activity) → (words_in d ≡ []) × (reply_in d ≡ []) → IsRight r d → asks_of r d ≡ part → At start trace own v [] r part → At start trace own v [] (reached r d) []
ends start trace own v r part d still right same a =
    done start own v.shape v.pages v.halted r part (KeptOf trace v []) (KeptOf trace v []) d (still_kept trace v.jobs.info v.shape.abi v.jobs.works v.fetched d still) right same a

-- the ring's indices
pub indices_are : (v : View) → v.ring.indices.entries ≡ entries_of v.shape.order → v.ring.indices ≡ indices (here v)
indices_are v e = ap (λ (n : ℕ). let i : Ring = record { entries = n; prod = v.ring.indices.prod; cons = v.ring.indices.cons } in i) e

-- the producer was read by this activity, the look or the one before sleep
pub looked_knows : (start : ℕ) (trace : List JobAsked) (own : List Asked) (calls : List Halt) (v : View) (word : ℕ) (part : List Asked) (d : Activity) (otherwise : View)
    → v.ring.indices.entries ≡ entries_of v.shape.order
    → asks_of (here v) d ≡ part
    → (overruns (indices (here v)) word ≡ true → IsOverrun (here v) d word)
    → (overruns (indices (here v)) word ≡ false → At start trace own (record v { ring = record v.ring { seen = word } }) [] (record (here v) { seen = word }) [])
    → (word ≡ v.ring.indices.cons → At start trace own v [] (record (here v) { seen = word }) [] → Knows start trace own calls otherwise)
    → At start trace own v [] (here v) part
    → Knows start trace own calls (looked v word otherwise)
looked_knows start trace own calls v word part d otherwise entries same over fine rest a = by_over (overruns v.ring.indices word) refl
  where
    is : overruns v.ring.indices word ≡ overruns (indices (here v)) word
    is = ap (λ (i : Ring). overruns i word) (indices_are v entries)

    by_same : (b : Bool) → (word == v.ring.indices.cons) ≡ b → At start trace own v [] (record (here v) { seen = word }) [] → Knows start trace own calls (if b then otherwise else record v { ring = record v.ring { seen = word }; stage = stage.Loop })
    by_same true e after = rest (grind (arith, nat_tests)) after
    by_same false e after = record { entries = entries; at = after }

    by_over : (b : Bool) → overruns v.ring.indices word ≡ b → Knows start trace own calls (if b then overrun v word else (if word == v.ring.indices.cons then otherwise else record v { ring = record v.ring { seen = word }; stage = stage.Loop }))
    by_over true e =
        let closed = overran start own v.shape v.pages v.halted (here v) part (KeptOf trace v []) calls d word (over (sym is ∙ e)) same a in
        record { entries = entries; at = giving_knows (first_mapping v.jobs.works) start trace own calls (overrun v word) closed }
    by_over false e = by_same (word == v.ring.indices.cons) refl (fine (sym is ∙ e))

-- an awake back looks, or begins to copy an entry
awake_knows : (none : Bool) (start : ℕ) (trace : List JobAsked) (own : List Asked) (calls : List Halt) (v : View) (given : BackAnswer) → (requests_of v.ring.indices v.ring.seen == 0) ≡ none
    → v.ring.indices.entries ≡ entries_of v.shape.order → At start trace own v [] (here v) [] → IsAnswer (if none then index_ask v 0 else entry_ask v 0) given
    → Leads start trace own calls (Asks (if none then index_ask v 0 else entry_ask v 0) given) (loop_step v None given)
awake_knows true start trace own calls v (answer.Word word) e entries a h =
    let x : Asked = Asks (index_ask v 0) (answer.Word word) in
    let none : requests_of v.ring.indices v.ring.seen ≡ 0 = grind (arith, nat_tests) in
    let none_here : requests_of (indices (here v)) v.ring.seen ≡ 0 = sym (ap (λ (i : Ring). requests_of i v.ring.seen) (indices_are v entries)) ∙ none in
    let grown : At start trace (own ++ x ∷ []) v [] (here v) (x ∷ []) = grows start trace own v [] (here v) [] x a in
    rw e (looked_knows start trace (own ++ x ∷ []) calls v word (x ∷ []) (Looks word) (record v { ring = record v.ring { seen = word }; stage = stage.StoreEvent }) entries refl
    (λ over. (none_here, over, refl))
    (λ fine. ends start trace (own ++ x ∷ []) v (here v) (x ∷ []) (Looks word) (refl, refl) (none_here, fine) refl grown)
    (λ same after. record { entries = entries; at = (same, after) })
    grown)
awake_knows false start trace own calls v (answer.Word word) e entries a h =
    let x : Asked = Asks (entry_ask v 0) (answer.Word word) in
    let some : 1 ≤ requests_of v.ring.indices v.ring.seen = some_shown (requests_of v.ring.indices v.ring.seen) e in
    rw e (record { entries = entries; at = ((some, refl, long v), grows start trace own v [] (here v) [] x a) })
  where
    some_shown : (n : ℕ) → (n == 0) ≡ false → 1 ≤ n
    some_shown n e = grind (arith, nat_tests)

    long : (v : View) → 1 < entry_words_of v.shape.abi
    long v = response_fits v.shape.abi 1 (omega arith)
awake_knows true start trace own calls v given e entries a h = absurd h
awake_knows false start trace own calls v given e entries a h = absurd h

-- an asleep one is woken, or a watch fires
asleep_knows : (start : ℕ) (trace : List JobAsked) (own : List Asked) (calls : List Halt) (v : View) (given : BackAnswer) → v.stage ≡ stage.Loop → v.ring.indices.entries ≡ entries_of v.shape.order → At start trace own v [] (here v) [] → IsAnswer ask.Wait given
    → Leads start trace own calls (Asks ask.Wait given) (loop_step v None given)
asleep_knows start trace own calls v answer.Event at_loop entries a h =
    let x : Asked = Asks ask.Wait answer.Event in
    record { entries = entries; at = rw at_loop (ends start trace (own ++ x ∷ []) v (here v) (x ∷ []) (Waits answer.Event) (refl, refl) h refl (grows start trace own v [] (here v) [] x a)) }
asleep_knows start trace own calls v (answer.Watched path) at_loop entries a h =
    let x : Asked = Asks ask.Wait (answer.Watched path) in
    record { entries = entries; at = rw at_loop (ends start trace (own ++ x ∷ []) v (here v) (x ∷ []) (Waits (answer.Watched path)) (refl, refl) h refl (grows start trace own v [] (here v) [] x a)) }
asleep_knows start trace own calls v given at_loop entries a h = absurd h

pub loop_knows : (next : Option Reply) (start : ℕ) (trace : List JobAsked) (own : List Asked) (calls : List Halt) (v : View) (given : BackAnswer) → v.stage ≡ stage.Loop → next_reply v ≡ next → v.ring.indices.entries ≡ entries_of v.shape.order → At start trace own v [] (here v) [] → IsAnswer (loop_ask v next) given
    → Leads start trace own calls (Asks (loop_ask v next) given) (loop_step v next given)
loop_knows (Some r) start trace own calls v answer.Done at_loop next entries a h =
    let x : Asked = Asks (reply_ask v r 0) answer.Done in
    let lowest : IsLowest v.jobs.works r = lowest_one v.jobs.works r next in
    let grown : At start trace (own ++ x ∷ []) v [] (here v) (x ∷ []) = grows start trace own v [] (here v) [] x a in
    let works : List Work = remove v.jobs.works lowest.place in
    let begun : IsAt start (own ++ x ∷ []) v.shape v.pages v.halted (here v) (x ∷ []) (Keeps trace v.jobs.info v.shape.abi works v.fetched (r ∷ [])) =
    keeps start (own ++ x ∷ []) v.shape v.pages v.halted (here v) (x ∷ []) (KeptOf trace v []) (Keeps trace v.jobs.info v.shape.abi works v.fetched (r ∷ []))
    (begun_kept trace v.jobs.info v.shape.abi v.jobs.works v.fetched r lowest.place lowest.job lowest.found lowest.is) grown in
    record {
      entries = entries;
      at = subst (λ (ws : List Work). IsAt start (own ++ x ∷ []) v.shape v.pages v.halted (here v) (x ∷ []) (Keeps trace v.jobs.info v.shape.abi ws v.fetched (r ∷ []))) (sym lowest.after) begun;
    }
loop_knows (Some r) start trace own calls v given at_loop next entries a h = absurd h
loop_knows None start trace own calls v given at_loop next entries a h = by_asleep v.ring.asleep h
  where
    by_asleep : (b : Bool) → IsAnswer (if b then ask.Wait else (if requests_of v.ring.indices v.ring.seen == 0 then index_ask v 0 else entry_ask v 0)) given
        → Leads start trace own calls (Asks (if b then ask.Wait else (if requests_of v.ring.indices v.ring.seen == 0 then index_ask v 0 else entry_ask v 0)) given) (loop_step v None given)
    by_asleep true ok = asleep_knows start trace own calls v given at_loop entries a ok
    by_asleep false ok = awake_knows (requests_of v.ring.indices v.ring.seen == 0) start trace own calls v given refl entries a ok

-- one word more of an entry, or its last
pub fetch_knows : (k : ℕ) (start : ℕ) (trace : List JobAsked) (own : List Asked) (calls : List Halt) (v : View) (word : ℕ) → v.ring.indices.entries ≡ entries_of v.shape.order → IsCopying k v → At start trace own v [] (here v) (entry_from (here v) 0 v.ring.entry)
    → Leads start trace own calls (Asks (entry_ask v k) (answer.Word word)) (fetch_step v k word)
fetch_knows k start trace own calls v word entries c a = by_last (k + 1 == entry_words_of v.shape.abi) refl
  where
    x : Asked
    x = Asks (entry_ask v k) (answer.Word word)

    words : List ℕ
    words = v.ring.entry ++ word ∷ []

    place : 0 + length v.ring.entry ≡ k
    place = let long = c.1 in omega arith

    same : entry_from (here v) 0 words ≡ entry_from (here v) 0 v.ring.entry ++ x ∷ []
    same = entry_more (here v) 0 v.ring.entry word ∙ ap (λ (n : ℕ). entry_from (here v) 0 v.ring.entry ++ read (slot_page (here v) v.ring.indices.cons n) (slot_word (here v) v.ring.indices.cons n) word ∷ []) place

    grown : At start trace (own ++ x ∷ []) v [] (here v) (entry_from (here v) 0 v.ring.entry ++ x ∷ [])
    grown = grows start trace own v [] (here v) (entry_from (here v) 0 v.ring.entry) x a

    longer : length words ≡ k + 1
    longer = length-append v.ring.entry (word ∷ []) ∙ ap (λ (n : ℕ). n + 1) c.1

    shown : 1 ≤ requests_of (indices (here v)) v.ring.seen
    shown = subst (λ (i : Ring). 1 ≤ requests_of i v.ring.seen) (indices_are v entries) c.0

    further : (n most : ℕ) → n < most → (n + 1 == most) ≡ false → n + 1 < most
    further n most lt other = grind (arith, nat_tests)

    by_last : (b : Bool) → (k + 1 == entry_words_of v.shape.abi) ≡ b → Knows start trace (own ++ x ∷ []) calls (if b then fetched v words else record v { ring = record v.ring { entry = words }; stage = stage.Fetch (k + 1) })
    by_last true e =
        let all : k + 1 ≡ entry_words_of v.shape.abi = grind (arith, nat_tests) in
        record {
          entries = entries;
          at = done start (own ++ x ∷ []) v.shape v.pages v.halted (here v) (entry_from (here v) 0 v.ring.entry ++ x ∷ []) (KeptOf trace v []) (KeptOf trace (fetched v words) []) (Fetches words)
              (fetched_kept trace v.jobs.info v.shape.abi v.jobs.works v.fetched words) (shown, longer ∙ all) same grown;
        }
    by_last false e = record {
      entries = entries;
      at = ((c.0, longer, further k (entry_words_of v.shape.abi) c.2 e), subst (λ (l : List Asked). At start trace (own ++ x ∷ []) v [] (here v) l) (sym same) grown);
    }
