-- What a back holds where its jobs keep mappings.
use Rattle.std.proofs.Common.{◌≡◌, ℕ, suc, ◌+◌, ◌≤◌, Bool, true, false, if◌then◌else◌, List, [], ◌∷◌, ◌++◌, length, refl, sym, ap, subst, arith, append_assoc, length-append}
use Rattle.std.specs.Prelude.{Option, Some, None, IsPermutation, option_to_list, ◌==◌}
use Rattle.std.specs.Map.{values_of}
use Rattle.std.proofs.lemmas.List.Sorted.{IsPermutation-refl, IsPermutation-trans, IsPermutation-sym, IsPermutation-middle, IsPermutation-cons, IsPermutation-append_left, IsPermutation-append_right, IsPermutation-append_comm}
use Rattle.blk_base.specs.declared.parts.Mapping.{Mapping}
use Rattle.blk_base.specs.declared.ask.BackAsk.{BackAsk}
use Rattle.blk_base.specs.declared.ask.BackAsk.TheVariants as ask
use Rattle.blk_base.specs.declared.ask.BackAnswer.{BackAnswer}
use Rattle.blk_base.specs.declared.ask.BackAnswer.TheVariants as answer
use Rattle.blk_base.specs.declared.halt.Halt.{Halt}
use Rattle.blk_base.specs.declared.halt.Halt.TheVariants as halt
use Rattle.blk_layout.specs.Entry.{request_of}
use Rattle.ring_words.specs.Shape.{entry_words_of}
use Rattle.ring_words.specs.Ring.{requests_of, overruns}
use Rattle.persist_grants.specs.KeptMappings.{KeptMappings, mappings_of}
use Rattle.back_jobs.specs.Work.{IsAnswer as IsJobAnswer}
use Rattle.back_jobs.specs.Hands.{hands_in, HandsAfter, HandsKeep}
use Rattle.back_jobs.specs.Keeping.{all_hands, first_given, after_given}
use Rattle.back_jobs.proofs.Hands.{done_hands, few_in_hands}
use Rattle.back_jobs.proofs.Settling.{keep_after}
use Rattle.back_jobs.proofs.Entire.{started_entire, given_entire}
use Rattle.blk_back.specs.declared.stage.Reply.{Reply}
use Rattle.blk_back.specs.declared.stage.BackStage.{BackStage}
use Rattle.blk_back.specs.declared.stage.BackStage.TheVariants as stage
use Rattle.blk_back.specs.View.{View}
use Rattle.blk_back.specs.Ask.{ask_at, ask_of, loop_ask, entry_ask, index_ask, next_reply, IsAnswer}
use Rattle.blk_back.specs.Step.{overrun, looked, next_number, fetched, step_at}
use Rattle.blk_back.specs.Keeping.{abort_keeping, overrun_keeping, looked_keeping, loop_word_keeping, loop_step_keeping, fetched_keeping, fetch_step_keeping, step_keeping_at, step_keeping}
use Rattle.blk_back.specs.Sound.{IsSound}
use Rattle.blk_back.specs.Hands.{aborted, hands_of, all_hands_at, all_hands_of, most_with_kept}
use Rattle.blk_back.proofs.Hands.{given_apart, hands_after_at, few_aborted, step_kept_at}

-- what is held while nothing is being unmapped
abbrev connected : View → List Mapping
connected v = all_hands v.jobs ++ v.pages

-- what is kept stands among the others
spread : (over works kept pages : List Mapping) → IsPermutation ((over ++ (works ++ pages)) ++ kept) (over ++ ((works ++ kept) ++ pages))
spread over works kept pages =
    rw (append_assoc over (works ++ pages) kept, append_assoc works pages kept, append_assoc works kept pages)
    (IsPermutation-append_right over (works ++ (pages ++ kept)) (works ++ (kept ++ pages)) (IsPermutation-append_right works (pages ++ kept) (kept ++ pages) (IsPermutation-append_comm pages kept)))

-- what was held before may stand in any order
keep_from : (a : BackAsk) (given : BackAnswer) (other before after : List Mapping) → IsPermutation other before → HandsKeep a given before after → HandsKeep a given other after
keep_from (ask.Map gref mode) (answer.Mapped m) other before after p h = IsPermutation-trans _ _ _ (IsPermutation-cons m other before p) h
keep_from (ask.Unmap m) answer.Done other before after p h = IsPermutation-trans _ _ _ p h
keep_from a given other before after p h = IsPermutation-trans _ _ _ p h

-- a step that changes nothing that is kept
kept_apart : (a : BackAsk) (given : BackAnswer) (over works pages over' works' pages' kept : List Mapping) → HandsAfter a given (over ++ (works ++ pages)) (over' ++ (works' ++ pages')) → HandsKeep a given (over ++ ((works ++ kept) ++ pages)) (over' ++ ((works' ++ kept) ++ pages'))
kept_apart a given over works pages over' works' pages' kept h =
    keep_from a given _ _ _ (IsPermutation-sym _ _ (spread over works kept pages))
    (keep_after a given (over ++ (works ++ pages)) (over' ++ (works' ++ pages')) kept (over' ++ ((works' ++ kept) ++ pages')) h (spread over' works' kept pages'))

kept_same : (a : BackAsk) (given : BackAnswer) (over : List Mapping) (v w : View) → w.jobs.kept ≡ v.jobs.kept → HandsAfter a given (over ++ (hands_in v.jobs.works ++ v.pages)) (hands_of w) → HandsKeep a given (over ++ (all_hands v.jobs ++ v.pages)) (all_hands_of w)
kept_same a given over v w e h =
    subst (λ (k : KeptMappings). HandsKeep a given (over ++ (all_hands v.jobs ++ v.pages)) (aborted w.stage ++ ((hands_in w.jobs.works ++ mappings_of k) ++ w.pages))) (sym e)
    (kept_apart a given over (hands_in v.jobs.works) v.pages (aborted w.stage) (hands_in w.jobs.works) w.pages (mappings_of v.jobs.kept) h)

either : (b : Bool) (x y : View) (l : List Mapping) → IsPermutation l (all_hands_of x) → IsPermutation l (all_hands_of y) → IsPermutation l (all_hands_of (if b then x else y))
either true x y l p q = p
either false x y l p q = q

-- a test that is made twice
either_twice : (b : Bool) (x y z : View) (l : List Mapping) → IsPermutation l (all_hands_of x) → IsPermutation l (all_hands_of z) → IsPermutation l (all_hands_of (if b then x else (if b then y else z)))
either_twice true x y z l p q = p
either_twice false x y z l p q = q

-- to give up the next mapping loses none
pub abort_entire : (v : View) → IsPermutation (connected v) (all_hands_of (abort_keeping v))
abort_entire v =
    let rest : List Mapping = all_hands (after_given v.jobs) in
    subst (λ (l : List Mapping). IsPermutation (connected v) l) (sym (given_apart (first_given v.jobs) rest v.pages))
    (IsPermutation-append_left v.pages (all_hands v.jobs) (option_to_list (first_given v.jobs) ++ rest) (given_entire v.jobs))

looked_entire : (v : View) (word : ℕ) (otherwise : View) → IsPermutation (connected v) (all_hands_of otherwise) → IsPermutation (connected v) (all_hands_of (looked_keeping v word otherwise))
looked_entire v word otherwise p =
    let shown : View = record v { ring = record v.ring { seen = word }; stage = stage.Loop } in
    either_twice (overruns v.ring.indices word) (overrun_keeping v word) (overrun v word) (if word == v.ring.indices.cons then otherwise else shown) (connected v)
    (abort_entire (record v { halted = Some (halt.Overrun word v.ring.indices.prod) }))
    (either (word == v.ring.indices.cons) otherwise shown (connected v) p (IsPermutation-refl (connected v)))

loop_word_entire : (v : View) (word : ℕ) → IsPermutation (connected v) (all_hands_of (loop_word_keeping v word))
loop_word_entire v word =
    let otherwise : View = record v { ring = record v.ring { seen = word }; stage = stage.StoreEvent } in
    either_twice (requests_of v.ring.indices v.ring.seen == 0) (looked_keeping v word otherwise) (looked v word otherwise) (record v { ring = record v.ring { entry = word ∷ [] }; stage = stage.Fetch 1 }) (connected v)
    (looked_entire v word otherwise (IsPermutation-refl (connected v)))
    (IsPermutation-refl (connected v))

loop_entire : (v : View) (r : Option Reply) (given : BackAnswer) → v.stage ≡ stage.Loop → IsPermutation (connected v) (all_hands_of (loop_step_keeping v r given))
loop_entire v (Some r) given here = subst (λ (l : List Mapping). IsPermutation (connected v) ((l ++ mappings_of v.jobs.kept) ++ v.pages)) (sym (done_hands v.jobs)) (IsPermutation-refl (connected v))
loop_entire v None (answer.Word word) here = loop_word_entire v word
loop_entire v None given here = subst (λ (s : BackStage). IsPermutation (connected v) (all_hands_at s v)) (sym here) (IsPermutation-refl (connected v))

either_keep : (b : Bool) (x y : BackAsk) (given : BackAnswer) (before after : List Mapping) → HandsKeep x given before after → HandsKeep y given before after → HandsKeep (if b then x else y) given before after
either_keep true x y given before after p q = p
either_keep false x y given before after p q = q

-- in the loop nothing is mapped or unmapped
loop_keep : (v : View) (r : Option Reply) (given : BackAnswer) (before after : List Mapping) → IsPermutation before after → HandsKeep (loop_ask v r) given before after
loop_keep v (Some r) given before after p = p
loop_keep v None given before after p =
    either_keep v.ring.asleep ask.Wait (if requests_of v.ring.indices v.ring.seen == 0 then index_ask v 0 else entry_ask v 0) given before after p
    (either_keep (requests_of v.ring.indices v.ring.seen == 0) (index_ask v 0) (entry_ask v 0) given before after p p)

fetched_entire : (v : View) (k word : ℕ) → IsPermutation (connected v) (all_hands_of (fetch_step_keeping v k word))
fetched_entire v k word =
    let words : List ℕ = v.ring.entry ++ word ∷ [] in
    either_twice (k + 1 == entry_words_of v.shape.abi) (fetched_keeping v words) (fetched v words) (record v { ring = record v.ring { entry = words }; stage = stage.Fetch (k + 1) }) (connected v)
    (IsPermutation-append_left v.pages _ _ (started_entire v.jobs (next_number v) (request_of v.shape.abi words)))
    (IsPermutation-refl (connected v))

hands_keep_at : (s : BackStage) (v : View) (given : BackAnswer) → v.stage ≡ s → IsAnswer (ask_at s v) given → HandsKeep (ask_at s v) given (all_hands_at s v) (all_hands_of (step_keeping_at s v given))
hands_keep_at stage.Loop v given here h = loop_keep v (next_reply v) given (connected v) (all_hands_of (loop_step_keeping v (next_reply v) given)) (loop_entire v (next_reply v) given here)
hands_keep_at (stage.Fetch k) v (answer.Word word) here h = fetched_entire v k word
hands_keep_at stage.LookAgain v (answer.Word word) here h = looked_entire v word (record v { ring = record v.ring { seen = word; asleep = true }; stage = stage.Loop }) (IsPermutation-refl (connected v))
hands_keep_at (stage.Abort m) v answer.Done here h = IsPermutation-cons m (connected v) (all_hands_of (abort_keeping v)) (abort_entire v)
hands_keep_at (stage.Abort m) v given here h = absurd h
hands_keep_at s v given here h = kept_same (ask_at s v) given (aborted s) v (step_at s v given) (step_kept_at s v given) (hands_after_at s v given here h)

-- what an answer to the back makes of what is held and kept
pub hands_keep : (v : View) (given : BackAnswer) → IsAnswer (ask_of v) given → HandsKeep (ask_of v) given (all_hands_of v) (all_hands_of (step_keeping v given))
hands_keep v given h = hands_keep_at v.stage v given refl h

-- a halt loses none of it
pub halted_entire : (why : Halt) (v new : View) → v.stage ≡ stage.Loop → new ≡ abort_keeping (record v { halted = Some why }) → IsPermutation (all_hands_of v) (all_hands_of new)
halted_entire why v new here e = rw e (subst (λ (t : BackStage). IsPermutation (all_hands_at t v) (all_hands_of (abort_keeping (record v { halted = Some why })))) (sym here) (abort_entire (record v { halted = Some why })))

-- what is held beside these stays
pub beside : (xs ys before after : List Mapping) → IsPermutation before after → IsPermutation (xs ++ (before ++ ys)) (xs ++ (after ++ ys))
beside xs ys before after p = IsPermutation-append_right xs (before ++ ys) (after ++ ys) (IsPermutation-append_left ys before after p)

framed_keep : (a : BackAsk) (given : BackAnswer) (xs ys before after : List Mapping) → HandsKeep a given before after → HandsKeep a given (xs ++ (before ++ ys)) (xs ++ (after ++ ys))
framed_keep (ask.Map gref mode) (answer.Mapped m) xs ys before after h =
    IsPermutation-trans _ _ _ (IsPermutation-sym _ _ (IsPermutation-middle xs m (before ++ ys))) (beside xs ys (m ∷ before) after h)
framed_keep (ask.Unmap m) answer.Done xs ys before after h =
    IsPermutation-trans _ _ _ (beside xs ys before (m ∷ after) h) (IsPermutation-middle xs m (after ++ ys))
framed_keep a given xs ys before after h = beside xs ys before after h

-- what an answer to a job makes of all that the jobs hold and keep, among what the back holds; after a halt none is answered
pub job_keep : (halted : Bool) (a : BackAsk) (given : BackAnswer) (s : BackStage) (pages before after : List Mapping) → IsJobAnswer (if halted then ask.Wait else a) given → HandsKeep a given before after → HandsKeep (if halted then ask.Wait else a) given (aborted s ++ (before ++ pages)) (aborted s ++ (after ++ pages))
job_keep true a given s pages before after allowed h = absurd allowed
job_keep false a given s pages before after allowed h = framed_keep a given (aborted s) pages before after h

few_values : (es : List (ℕ × Mapping)) → length (values_of es) ≡ length es
few_values [] = refl
few_values (e ∷ es) = ap suc (few_values es)

-- one in each job's hand, the pages, one that is being unmapped, and those that are kept
pub few_all_hands : (v : View) → IsSound v → length (all_hands_of v) ≤ most_with_kept
few_all_hands v sound =
    let given = few_aborted v.stage in let pages = sound.few_pages in let few = sound.few in let hands = few_in_hands v.jobs.works in
    let kept = few_values v.jobs.kept.entries in let within = sound.few_kept in let cap = sound.cap in
    rw (length-append (aborted v.stage) (all_hands v.jobs ++ v.pages), length-append (all_hands v.jobs) v.pages, length-append (hands_in v.jobs.works) (mappings_of v.jobs.kept)) (omega arith)
