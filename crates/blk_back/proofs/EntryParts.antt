-- Words of an entry that the back copies many at once.
use Rattle.std.proofs.Common.{◌≡◌, ℕ, suc, ◌+◌, ◌-◌, ◌/◌, ◌%◌, ◌<◌, ◌≤◌, Bool, true, false, if◌then◌else◌, List, [], ◌∷◌, ◌++◌, length, refl, sym, ap, ◌∙◌, subst, arith, append_assoc}
use Rattle.std.specs.Prelude.{Option, Some, None, IfSome, IsSomeAnd, IsPermutation, is_some, ◌==◌}
use Rattle.std.specs.List.{fold, IsLastAndRest}
use Rattle.std.proofs.Math.Nat.{min-le_left, min-le_right}
use Rattle.std.proofs.lemmas.Bool.{ne_eqb, eqb-true}
use Rattle.std.proofs.lemmas.List.{append-nil, map-append}
use Rattle.std.proofs.lemmas.List.Sums.{fold-append}
use Rattle.std.proofs.lemmas.List.Sorted.{IsPermutation-refl, IsPermutation-trans}
use Rattle.blk_base.specs.declared.ask.BackAsk.{BackAsk}
use Rattle.blk_base.specs.declared.ask.BackAsk.TheVariants as ask
use Rattle.blk_base.specs.declared.ask.BackAnswer.{BackAnswer}
use Rattle.blk_base.specs.declared.ask.BackAnswer.TheVariants.{Word, Done}
use Rattle.blk_base.specs.declared.operation.Abi.{Abi}
use Rattle.ring_words.specs.Shape.{Shape, entry_words_of, ring_word_of}
use Rattle.back_jobs.specs.declared.part.SectorPart.{SectorPart}
use Rattle.back_jobs.specs.Hands.{Names}
use Rattle.back_jobs.specs.Part.{AsksEach, IsReadPart, NamesPart, MovesWord, MovesEach, words_read}
use Rattle.back_jobs.proofs.Parts.{each_read, move_keeps}
use Rattle.blk_back.specs.declared.stage.BackStage.{BackStage}
use Rattle.blk_back.specs.declared.stage.BackStage.TheVariants as stage
use Rattle.blk_back.specs.View.{View, page_of, slot_page, slot_word}
use Rattle.blk_back.specs.Ask.{ask_at, ask_of, entry_ask, IsAnswer, StaysInPage}
use Rattle.blk_back.specs.Step.{at, fetched, fetch_step}
use Rattle.blk_back.specs.Keeping.{fetched_keeping, fetch_step_keeping, step_keeping_at, step_keeping}
use Rattle.blk_back.specs.Sound.{IsSound}
use Rattle.blk_back.specs.Hands.{hands_of, all_hands_of}
use Rattle.blk_back.specs.Part.{entry_from, entry_part_at, entry_part, copied, steps_keeping, asked_keeping, BackMovesEachKeeping}
use Rattle.blk_back.proofs.Hands.{names_of}
use Rattle.blk_back.proofs.Keeping.{hands_keep}
use Rattle.blk_back.proofs.Parts.{going}

-- a word that isn't the entry's last one was read
one_copied : (v : View) (k word : ℕ) → k + 1 < entry_words_of v.shape.abi → step_keeping (at (stage.Fetch k) v) (Word word) ≡ copied v k (word ∷ [])
one_copied v k word more =
    let w : View = at (stage.Fetch k) v in
    let last = fetched_keeping w (v.ring.entry ++ word ∷ []) in
    let isnt : (k + 1 == entry_words_of v.shape.abi) ≡ false = ne_eqb (k + 1) (entry_words_of v.shape.abi) (omega arith) in
    ap (λ (b : Bool). if b then last else fetch_step w k word) isnt ∙ ap (λ (b : Bool). if b then fetched w (v.ring.entry ++ word ∷ []) else copied v k (word ∷ [])) isnt

some_copied : (words : List ℕ) (v : View) (k : ℕ) → k + length words < entry_words_of v.shape.abi → steps_keeping (at (stage.Fetch k) v) (words_read words) ≡ copied v k words
some_copied [] v k more = ap (λ (l : List ℕ). record v { ring = record v.ring { entry = l }; stage = stage.Fetch k }) (sym (append-nil v.ring.entry)) ∙ ap (λ n. record v { ring = record v.ring { entry = v.ring.entry ++ [] }; stage = stage.Fetch n }) (omega arith)
some_copied (word ∷ words) v k more =
    let w : View = copied v k (word ∷ []) in
    ap (λ (x : View). steps_keeping x (words_read words)) (one_copied v k word (omega arith))
    ∙ (some_copied words w (k + 1) (omega arith)
    ∙ (ap (λ (l : List ℕ). record v { ring = record v.ring { entry = l }; stage = stage.Fetch (k + 1 + length words) }) (append_assoc v.ring.entry (word ∷ []) words)
    ∙ ap (λ n. record v { ring = record v.ring { entry = v.ring.entry ++ word ∷ words }; stage = stage.Fetch n }) (omega arith)))

itself : (v : View) (k : ℕ) → v.stage ≡ stage.Fetch k → v ≡ at (stage.Fetch k) v
itself v k here = ap (λ (s : BackStage). at s v) here

pub copies : (v : View) (k : ℕ) (words : List ℕ) → v.stage ≡ stage.Fetch k → k + length words < entry_words_of v.shape.abi → steps_keeping v (words_read words) ≡ copied v k words
copies v k words here more = ap (λ (w : View). steps_keeping w (words_read words)) (itself v k here) ∙ some_copied words v k more

-- the words of an entry that lie in one page lie one after another
same_page : (s : Shape) (i k n : ℕ) → ring_word_of s i k % 1024 + n < 1024 → ring_word_of s i (k + n) / 1024 ≡ ring_word_of s i k / 1024
same_page s i k n few = omega arith

next_place : (s : Shape) (i k n : ℕ) → ring_word_of s i k % 1024 + n < 1024 → ring_word_of s i (k + n) % 1024 ≡ ring_word_of s i k % 1024 + n
next_place s i k n few = omega arith

asks_word : (v : View) (k : ℕ) (words : List ℕ) → v.stage ≡ stage.Fetch k → length words < (entry_from v k).count → asked_keeping v (words_read words) ≡ ask.Read (entry_from v k).mapping ((entry_from v k).word + length words)
asks_word v k words here few =
    let n : ℕ = length words in
    let in_entry = min-le_left (entry_words_of v.shape.abi - k) (1024 - slot_word v.shape v.ring.indices.cons k) in
    let in_page = min-le_right (entry_words_of v.shape.abi - k) (1024 - slot_word v.shape v.ring.indices.cons k) in
    let one_page = same_page v.shape v.ring.indices.cons k n (omega (arith, in_page, few)) in
    let place = next_place v.shape v.ring.indices.cons k n (omega (arith, in_page, few)) in
    ap ask_of (copies v k words here (omega (arith, in_entry, few)))
    ∙ (ap (λ p. ask.Read (page_of v p) (slot_word v.shape v.ring.indices.cons (k + n))) one_page ∙ ap (ask.Read (slot_page v v.ring.indices.cons k)) place)

asks_from : (v : View) (k : ℕ) → v.stage ≡ stage.Fetch k → AsksEach (entry_from v k) [] (asked_keeping v)
asks_from v k here = record {
  reads = λ read words few. asks_word v k words here few;
  writes = λ written j few. absurd (cc);
}

pub asks_at : (s : BackStage) (v : View) → v.stage ≡ s → IfSome (entry_part_at s v) (λ part. AsksEach part [] (asked_keeping v))
asks_at (stage.Fetch k) v here = asks_from v k here
asks_at s v here = tt

pub entry_asks : (v : View) → IfSome (entry_part v) (λ part. AsksEach part [] (asked_keeping v))
entry_asks v = by_halt (is_some v.halted)
  where
    by_halt : (b : Bool) → IfSome (if b then None else entry_part_at v.stage v) (λ part. AsksEach part [] (asked_keeping v))
    by_halt true = tt
    by_halt false = asks_at v.stage v refl

-- what they are read through is held
pub entry_names_at : (s : BackStage) (v : View) → v.stage ≡ s → IsSound v → IfSome (entry_part_at s v) (λ part. NamesPart (hands_of v) part)
entry_names_at (stage.Fetch k) v here sound =
    let within : StaysInPage (entry_ask v k) = omega arith in
    let names = names_of v sound (subst (λ (s : BackStage). StaysInPage (ask_at s v)) (sym here) within) in
    ((subst (λ (s : BackStage). Names (hands_of v) (ask_at s v)) here names).0, λ written. absurd (cc))
entry_names_at s v here sound = tt

-- so many single answers are to words that are asked for
pub part_moves : {S : Type 0} (asked : S → BackAsk) (step : S → BackAnswer → S) (s : S) (o : Option SectorPart) (words : List ℕ) → IfSome o (λ part. AsksEach part [] (λ answers. asked (fold step s answers))) → IsSomeAnd o (λ part. IsReadPart part (length words)) → MovesEach asked step s (words_read words)
part_moves asked step s None words asks has = absurd has
part_moves asked step s (Some part) words asks has = each_read asked step s part [] words asks has

pub entry_moves : (v : View) (words : List ℕ) → IsSomeAnd (entry_part v) (λ part. IsReadPart part (length words)) → BackMovesEachKeeping v (words_read words)
entry_moves v words has = part_moves ask_of step_keeping v (entry_part v) words (entry_asks v) has

-- and lose nothing that is held or kept
pub word_allowed : (a : BackAsk) (given : BackAnswer) → MovesWord a given → IsAnswer a given
word_allowed (ask.Read m word) (Word value) h = tt
word_allowed (ask.Write m word value) Done h = tt
word_allowed a given h = absurd h

moves_entire : (v : View) (answers : List BackAnswer) → BackMovesEachKeeping v answers → IsPermutation (all_hands_of v) (all_hands_of (steps_keeping v answers))
moves_entire v [] moves = IsPermutation-refl (all_hands_of v)
moves_entire v (a ∷ answers) moves =
    let w : View = step_keeping v a in
    IsPermutation-trans _ _ _ (move_keeps (ask_of v) a (all_hands_of v) (all_hands_of w) moves.0 (hands_keep v a (word_allowed (ask_of v) a moves.0))) (moves_entire w answers moves.1)

pub entry_entire : (v new : View) (words : List ℕ) → new ≡ steps_keeping v (words_read words) → IsSomeAnd (entry_part v) (λ part. IsReadPart part (length words)) → IsPermutation (all_hands_of v) (all_hands_of new)
entry_entire v new words is has = subst (λ (w : View). IsPermutation (all_hands_of v) (all_hands_of w)) (sym is) (moves_entire v (words_read words) (entry_moves v words has))

-- so many words of the entry are left, and the back hasn't halted
abbrev LeftAt : BackStage → Abi → ℕ → Type 0
LeftAt (stage.Fetch k) abi n = n ≤ entry_words_of abi - k
LeftAt s abi n = n ≡ 0

pub record CopiesOn (v : View) (n : ℕ) : Type 0 where
  pub goes : is_some v.halted ≡ false
  pub left : LeftAt v.stage v.shape.abi n

left_at : (s : BackStage) (v : View) (n : ℕ) → IsSomeAnd (entry_part_at s v) (λ part. IsReadPart part n) → LeftAt s v.shape.abi n
left_at (stage.Fetch k) v n has = let in_entry = min-le_left (entry_words_of v.shape.abi - k) (1024 - slot_word v.shape v.ring.indices.cons k) in let few = has.1 in omega (arith, in_entry, few)
left_at s v n has = absurd has

pub copies_on : (v : View) (n : ℕ) → IsSomeAnd (entry_part v) (λ part. IsReadPart part n) → CopiesOn v n
copies_on v n has =
    let goes = going (is_some v.halted) (entry_part_at v.stage v) (λ part. IsReadPart part n) has in
    record { goes = goes.0; left = left_at v.stage v n goes.1 }

one_left : (s : BackStage) (v : View) (n word : ℕ) → is_some v.halted ≡ false → LeftAt s v.shape.abi (suc n) → CopiesOn (step_keeping_at s v (Word word)) n
one_left (stage.Fetch k) v n word goes left = by_last (k + 1 == entry_words_of v.shape.abi) refl
  where
    words : List ℕ
    words = v.ring.entry ++ word ∷ []

    more : View
    more = record v { ring = record v.ring { entry = words }; stage = stage.Fetch (k + 1) }

    by_last : (b : Bool) → k + 1 == entry_words_of v.shape.abi ≡ b → CopiesOn (if b then fetched_keeping v words else (if b then fetched v words else more)) n
    by_last true last = let is : k + 1 ≡ entry_words_of v.shape.abi = eqb-true (k + 1) (entry_words_of v.shape.abi) last in record { goes = goes; left = omega (arith, is, left) }
    by_last false last = record { goes = goes; left = omega (arith, left) }
one_left s v n word goes left = absurd (omega (arith, left))

-- each word leaves one fewer
pub copies_one : (v : View) (n word : ℕ) → CopiesOn v (suc n) → CopiesOn (step_keeping v (Word word)) n
copies_one v n word on = one_left v.stage v n word on.goes on.left

-- nothing is told
quiet_at : (v : View) (k word : ℕ) → (fetch_step_keeping v k word).told ≡ v.told
quiet_at v k word = by_last (k + 1 == entry_words_of v.shape.abi)
  where
    words : List ℕ
    words = v.ring.entry ++ word ∷ []

    by_last : (b : Bool) → (if b then fetched_keeping v words else (if b then fetched v words else record v { ring = record v.ring { entry = words }; stage = stage.Fetch (k + 1) })).told ≡ v.told
    by_last true = refl
    by_last false = refl

-- all but the last of some words were copied, and then the last one was read
pub record CopiedAll (v after : View) (words : List ℕ) : Type 0 where
  pub is : after ≡ steps_keeping v (words_read words)
  pub quiet : after.told ≡ v.told

pub copied_all : (v mid after : View) (k : ℕ) (words rest : List ℕ) (last : ℕ) → v.stage ≡ stage.Fetch k → k + length rest < entry_words_of v.shape.abi → IsLastAndRest words last rest → mid ≡ copied v k rest → after ≡ fetch_step_keeping mid (k + length rest) last → CopiedAll v after words
copied_all v mid after k words rest last here more split copying told =
    let to_last : steps_keeping v (words_read words) ≡ fetch_step_keeping (copied v k rest) (k + length rest) last =
    ap (λ (l : List ℕ). steps_keeping v (words_read l)) split.0
    ∙ (ap (steps_keeping v) (map-append Word rest (last ∷ []))
    ∙ (fold-append step_keeping v (words_read rest) (Word last ∷ [])
    ∙ ap (λ (w : View). step_keeping w (Word last)) (copies v k rest here more))) in
    let is = told ∙ ap (λ (w : View). fetch_step_keeping w (k + length rest) last) copying in
    record { is = is ∙ sym to_last; quiet = ap (λ (w : View). w.told) is ∙ quiet_at (copied v k rest) (k + length rest) last }

pub left_for : (v : View) (k : ℕ) (words rest : List ℕ) (last : ℕ) → v.stage ≡ stage.Fetch k → IsSomeAnd (entry_part v) (λ part. IsReadPart part (length words)) → IsLastAndRest words last rest → k + length rest < entry_words_of v.shape.abi
left_for v k words rest last here has split =
    let on = copies_on v (length words) has in
    let left = subst (λ (s : BackStage). LeftAt s v.shape.abi (length words)) here on.left in
    let counted = split.1 in omega (arith, left, counted)

-- its words are read
pub entry_reads : (v : View) → IfSome (entry_part v) (λ part. part.writes ≡ false)
entry_reads v = by_halt (is_some v.halted)
  where
    at_stage : (s : BackStage) → IfSome (entry_part_at s v) (λ part. part.writes ≡ false)
    at_stage (stage.Fetch k) = refl
    at_stage s = tt

    by_halt : (b : Bool) → IfSome (if b then None else entry_part_at v.stage v) (λ part. part.writes ≡ false)
    by_halt true = tt
    by_halt false = at_stage v.stage
