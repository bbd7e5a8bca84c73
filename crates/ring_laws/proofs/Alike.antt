-- What an answer, or a halt, makes of a back that keeps mappings: what it makes of one that keeps none, but for the jobs, and for what is unmapped next after a halt.
use Rattle.std.proofs.Common.{◌≡◌, ℕ, ◌+◌, ◌==◌, Bool, true, false, if◌then◌else◌, List, ◌∷◌, ◌++◌, [], refl, sym, ap, subst}
use Rattle.std.specs.Prelude.{Option, Some, None, is_some}
use Rattle.blk_base.specs.declared.parts.Mapping.{Mapping}
use Rattle.blk_base.specs.declared.ask.BackAnswer.{BackAnswer}
use Rattle.blk_base.specs.declared.ask.BackAnswer.TheVariants as answers
use Rattle.blk_base.specs.declared.halt.Halt.{Halt}
use Rattle.blk_base.specs.declared.halt.Halt.TheVariants as halt
use Rattle.blk_base.specs.declared.moves.Move.{Move}
use Rattle.ring_words.specs.Ring.{requests_of, overruns}
use Rattle.ring_words.specs.Shape.{entry_words_of}
use Rattle.schedule_text.specs.declared.line.Line.{Line}
use Rattle.schedule_text.specs.declared.line.Line.TheVariants as lines
use Rattle.back_jobs.specs.Jobs.{first_mapping}
use Rattle.back_jobs.specs.Keeping.{first_given}
use Rattle.blk_back.specs.declared.stage.Reply.{Reply}
use Rattle.blk_back.specs.declared.stage.BackStage.{BackStage}
use Rattle.blk_back.specs.declared.stage.BackStage.TheVariants as stage
use Rattle.blk_back.specs.declared.told.BackTold.{BackTold}
use Rattle.blk_back.specs.View.{View}
use Rattle.blk_back.specs.Ask.{next_reply}
use Rattle.blk_back.specs.Step.{unmapping_next, abort, overrun, looked, loop_word, loop_step, fetched, fetch_step, step_at, may_halt, halts_at, halts}
use Rattle.blk_back.specs.Keeping.{abort_keeping, overrun_keeping, looked_keeping, loop_word_keeping, loop_step_keeping, fetched_keeping, fetch_step_keeping, step_keeping_at, halts_keeping_at, halts_keeping}
use Rattle.split_model.specs.Shown.{back_lines, halt_lines}
use Rattle.ring_laws.proofs.Shows.{Sight}
use Rattle.ring_laws.proofs.ObeysRing.{ObeysRing}
use Rattle.ring_laws.proofs.Knows.{IsOver, KnowsAt, Knows, Follows, BackGoes}
use Rattle.ring_laws.proofs.Looking.{giving_knows}

-- it tells the same, has halted for the same, and knows no less of the ring
pub record IsAlike (a b : View) : Type 0 where
  pub told : b.told ≡ a.told
  pub halted : b.halted ≡ a.halted
  pub knows : (x : Sight) → Knows x a → Knows x b

same : (v : View) → IsAlike v v
same v = record { told = refl; halted = refl; knows = λ x k. k }

-- what is unmapped next
given : (m : Option Mapping) (x : Sight) (v : View) → KnowsAt (unmapping_next m) x v → IsOver x v.halted
given None x v k = k
given (Some m) x v k = k

abort_alike : (v : View) → IsAlike (abort v) (abort_keeping v)
abort_alike v = record { told = refl; halted = refl; knows = λ x k. giving_knows (first_given v.jobs) x (abort_keeping v) (given (first_mapping v.jobs.works) x (abort v) k) }

looked_alike : (v : View) (prod : ℕ) (otherwise : View) → IsAlike (looked v prod otherwise) (looked_keeping v prod otherwise)
looked_alike v prod otherwise = by_test (overruns v.ring.indices prod) refl
  where
    by_test : (over : Bool) → overruns v.ring.indices prod ≡ over → IsAlike (looked v prod otherwise) (if over then overrun_keeping v prod else looked v prod otherwise)
    by_test true over = subst (λ (a : View). IsAlike a (overrun_keeping v prod)) (sym (ap (λ (b : Bool). if b then overrun v prod else (if prod == v.ring.indices.cons then otherwise else record v { ring = record v.ring { seen = prod }; stage = stage.Loop })) over)) (abort_alike (record v { halted = Some (halt.Overrun prod v.ring.indices.prod) }))
    by_test false over = same (looked v prod otherwise)

word_alike : (v : View) (word : ℕ) → IsAlike (loop_word v word) (loop_word_keeping v word)
word_alike v word = by_test (requests_of v.ring.indices v.ring.seen == 0) refl
  where
    by_test : (none : Bool) → (requests_of v.ring.indices v.ring.seen == 0) ≡ none
        → (let otherwise : View = record v { ring = record v.ring { seen = word }; stage = stage.StoreEvent } in
        let entry : View = record v { ring = record v.ring { entry = word ∷ [] }; stage = stage.Fetch 1 } in
        IsAlike (if none then looked v word otherwise else entry) (if none then looked_keeping v word otherwise else loop_word v word))
    by_test true none = looked_alike v word (record v { ring = record v.ring { seen = word }; stage = stage.StoreEvent })
    by_test false some = subst (λ (b : Bool). IsAlike (record v { ring = record v.ring { entry = word ∷ [] }; stage = stage.Fetch 1 }) (if b then looked v word (record v { ring = record v.ring { seen = word }; stage = stage.StoreEvent }) else record v { ring = record v.ring { entry = word ∷ [] }; stage = stage.Fetch 1 })) (sym some) (same _)

loop_alike : (v : View) (r : Option Reply) (answer : BackAnswer) → IsAlike (loop_step v r answer) (loop_step_keeping v r answer)
loop_alike v None (answers.Word word) = word_alike v word
loop_alike v (Some r) answer = same _
loop_alike v None answer = same _

fetch_alike : (v : View) (k word : ℕ) → IsAlike (fetch_step v k word) (fetch_step_keeping v k word)
fetch_alike v k word = by_test (k + 1 == entry_words_of v.shape.abi) refl
  where
    by_test : (last : Bool) → (k + 1 == entry_words_of v.shape.abi) ≡ last
        → (let words : List ℕ = v.ring.entry ++ word ∷ [] in
        IsAlike (if last then fetched v words else record v { ring = record v.ring { entry = words }; stage = stage.Fetch (k + 1) }) (if last then fetched_keeping v words else fetch_step v k word))
    by_test true last = record { told = refl; halted = refl; knows = λ x knows. knows }
    by_test false more = subst (λ (b : Bool). IsAlike (record v { ring = record v.ring { entry = v.ring.entry ++ word ∷ [] }; stage = stage.Fetch (k + 1) }) (if b then fetched v (v.ring.entry ++ word ∷ []) else record v { ring = record v.ring { entry = v.ring.entry ++ word ∷ [] }; stage = stage.Fetch (k + 1) })) (sym more) (same _)

pub step_alike : (s : BackStage) (v : View) (answer : BackAnswer) → IsAlike (step_at s v answer) (step_keeping_at s v answer)
step_alike stage.Loop v answer = loop_alike v (next_reply v) answer
step_alike (stage.Fetch k) v (answers.Word word) = fetch_alike v k word
step_alike stage.LookAgain v (answers.Word word) = looked_alike v word (record v { ring = record v.ring { seen = word; asleep = true }; stage = stage.Loop })
step_alike (stage.Abort m) v answer = abort_alike v
step_alike s v answer = same (step_at s v answer)

halts_at_alike : (s : BackStage) (why : Halt) (v : View) → IsAlike (halts_at s why v) (halts_keeping_at s why v)
halts_at_alike stage.Loop why v = abort_alike (record v { halted = Some why })
halts_at_alike s why v = same (halts_at s why v)

pub halts_alike : (why : Halt) (v : View) → IsAlike (halts why v) (halts_keeping why v)
halts_alike why v = by_kind (may_halt why)
  where
    by_kind : (b : Bool) → IsAlike (if b then halts_at v.stage why v else v) (if b then halts_keeping_at v.stage why v else v)
    by_kind true = halts_at_alike v.stage why v
    by_kind false = same v

-- so lines that tell what the one knows tell what the other does
pub follows_alike : (start : ℕ) (values : List ℕ) (before : List Line) (a b : View) → IsAlike a b → Follows start values before a → Follows start values before b
follows_alike start values before a b alike f =
    let x : Sight = f.sight in
    record {
      sight = f.sight;
      begun = f.begun;
      more = f.more;
      grown = f.grown;
      shows = f.shows;
      knows = alike.knows f.sight f.knows;
      stands = subst (λ (h : Option Halt). ObeysRing before x.start (is_some h)) (sym alike.halted) f.stands;
    }

pub goes_alike : (start : ℕ) (values : List ℕ) (before : List Line) (old a b : View) (answer : BackAnswer) (shown : Move) → IsAlike a b → BackGoes start values before old a answer shown → BackGoes start values before old b answer shown
goes_alike start values before old a b answer shown alike goes =
    subst (λ (t : Option BackTold). Follows start values (before ++ lines.Move shown ∷ (back_lines t answer ++ halt_lines old.halted b.halted)) b) (sym alike.told)
    (subst (λ (h : Option Halt). Follows start values (before ++ lines.Move shown ∷ (back_lines a.told answer ++ halt_lines old.halted h)) b) (sym alike.halted)
    (follows_alike start values _ a b alike goes))
