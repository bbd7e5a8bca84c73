-- Words of a sector that are moved one after another: what the front is after them, and what it asks meanwhile.
use Rattle.std.proofs.Common.{◌≡◌, ℕ, zero, suc, ◌+◌, ◌-◌, ◌*◌, ◌/◌, ◌%◌, ◌<◌, ◌≤◌, Bool, true, false, true≢false, if◌then◌else◌, List, [], ◌∷◌, length, refl, sym, ap, ◌∙◌, ◌⊎◌, inl, inr, subst, arith}
use Rattle.std.specs.Prelude.{Option, Some, None, IsSome, IsSomeAnd, IfSome, nat_lt, slice_set}
use Rattle.std.specs.List.{IsLastAndRest}
use Rattle.std.proofs.lemmas.Bool.{lt-ltb, ltb-true, ne_eqb}
use Rattle.std.proofs.lemmas.List.Sums.{fold-append}
use Rattle.std.proofs.lemmas.List.{map-append}
use Rattle.blk_base.specs.declared.ask.FrontAsk.{FrontAsk}
use Rattle.blk_base.specs.declared.ask.FrontAsk.TheVariants.{Read, Write}
use Rattle.blk_base.specs.declared.ask.FrontAnswer.{FrontAnswer}
use Rattle.blk_base.specs.declared.ask.FrontAnswer.TheVariants.{Done, Word}
use Rattle.blk_front.specs.declared.sector_part.SectorPart.{SectorPart}
use Rattle.blk_front.specs.declared.request.Request.{Request}
use Rattle.blk_front.specs.declared.request.Transfer.{Transfer}
use Rattle.blk_front.specs.declared.request.Transfer.TheVariants as transfer
use Rattle.blk_front.specs.declared.stage.Ending.{Ending}
use Rattle.blk_front.specs.declared.stage.FrontStage.{FrontStage}
use Rattle.blk_front.specs.declared.stage.FrontStage.TheVariants as stage
use Rattle.blk_front.specs.declared.told.Told.TheVariants as told
use Rattle.blk_front.specs.Request.{words_in, frame_at, filling_at, is_write}
use Rattle.blk_front.specs.View.{View, next_request}
use Rattle.blk_front.specs.Ask.{IsAnswer, data_ask, read_ask}
use Rattle.blk_front.specs.Step.{at, sector_told, data_step, left_step}
use Rattle.blk_front.specs.Keep.{ask_as_at, ask_as, loop_ask_as, issue_ask_as, begun_as, loop_step_as, step_as_at, step_as, data_next}
use Rattle.blk_front.specs.Part.{words_from, part_from, written_part, first_part, read_part, part_at, sector_part, HasWritten, HasRead, written_word, all_written, all_read, AllInTurn, IsTellable, AreTellable, steps_as, AsksEach, with_words}

-- the first choice is made where a number is below another
chosen : {A : Type 0} (m n : ℕ) (x y : A) → m < n → (if nat_lt m n then x else y) ≡ x
chosen m n x y lt = ap (λ (b : Bool). if b then x else y) (lt-ltb m n lt)

-- word n + k of a request's data lies in the frame and the sector of word n, where they are of one sector
same_frame : (n k : ℕ) → n % 128 + k < 128 → (n + k) / 1024 ≡ n / 1024
same_frame n k lt = omega arith

same_word : (n k : ℕ) → n % 128 + k < 128 → (n + k) % 1024 ≡ n % 1024 + k
same_word n k lt = omega arith

same_sector : (n k : ℕ) → n % 128 + k < 128 → (n + k) / 128 ≡ n / 128
same_sector n k lt = omega arith

-- a sector that has a word of a request's data has all of its words there
whole_sector : (n k count : ℕ) → n < 128 * count → n % 128 + k < 128 → n + k < 128 * count
whole_sector n k count lt few = omega arith

-- a word of a write's data was written, and another of them comes
one_written : (v : View) (r : Request) (n : ℕ) → next_request v ≡ Some r → n + 1 < words_in r → step_as (at (stage.Data n) v) Done ≡ at (stage.Data (n + 1)) v
one_written v r n next lt = ap (λ (o : Option Request). data_next (at (stage.Data n) v) o n) next ∙ chosen (n + 1) (words_in r) _ _ lt

some_written : (k : ℕ) (v : View) (r : Request) (n : ℕ) → next_request v ≡ Some r → n + k < words_in r → steps_as (at (stage.Data n) v) (all_written k) ≡ at (stage.Data (n + k)) v
some_written zero v r n next lt = ap (λ m. at (stage.Data m) v) (omega arith)
some_written (suc k) v r n next lt =
    ap (λ (w : View). steps_as w (all_written k)) (one_written v r n next (omega arith))
    ∙ (some_written k v r (n + 1) next (omega arith) ∙ ap (λ m. at (stage.Data m) v) (omega arith))

written_asks : (k : ℕ) (v : View) (r : Request) (n : ℕ) → next_request v ≡ Some r → n < words_in r → n % 128 + k < 128 → ask_as (steps_as (at (stage.Data n) v) (all_written k)) ≡ Write (frame_at r (n / 1024)) (n % 1024 + k) (filling_at r.transfer n)
written_asks k v r n next lt few =
    ap ask_as (some_written k v r n next (whole_sector n k r.count lt few))
    ∙ (ap (λ (o : Option Request). data_ask o (n + k)) next ∙ rw (same_frame n k few, same_word n k few, same_sector n k few) refl)

-- what holds of a front at each word of a write's data holds in turn
write_turns : (P : View → FrontAnswer → Type 0) (v : View) → ((m : ℕ) → P (at (stage.Data m) v) Done) → (k : ℕ) (r : Request) (n : ℕ) → next_request v ≡ Some r → n < words_in r → n % 128 + k ≤ 128 → AllInTurn P step_as (at (stage.Data n) v) (all_written k)
write_turns P v holds zero r n next lt few = tt
write_turns P v holds (suc zero) r n next lt few = (holds n, tt)
write_turns P v holds (suc (suc k)) r n next lt few =
    let more = whole_sector n 1 r.count lt (omega arith) in
    (holds n, subst (λ (w : View). AllInTurn P step_as w (all_written (suc k))) (sym (one_written v r n next more)) (write_turns P v holds (suc k) r (n + 1) next more (omega arith)))

-- after the last of them the front is as after that one alone
last_written : (k : ℕ) (v : View) (r : Request) (n : ℕ) → next_request v ≡ Some r → n + k < words_in r → steps_as (at (stage.Data n) v) (all_written (suc k)) ≡ data_next (at (stage.Data (n + k)) v) (next_request v) (n + k)
last_written zero v r n next lt = ap (λ m. data_next (at (stage.Data m) v) (next_request v) m) (omega arith)
last_written (suc k) v r n next lt =
    ap (λ (w : View). steps_as w (all_written (suc k))) (one_written v r n next (omega arith))
    ∙ (last_written k v r (n + 1) next (omega arith) ∙ ap (λ m. data_next (at (stage.Data m) v) (next_request v) m) (omega arith))

-- where a write or a barrier is issued next, the first word of its data is written in the loop
loop_asks : (v : View) (r : Request) → v.stage ≡ stage.Loop → next_request v ≡ Some r → is_write r.transfer ≡ true → ask_as v ≡ ask_as (at (stage.Data 0) v)
loop_asks v r looping next writes =
    ap (λ (s : FrontStage). ask_as_at s v) looping ∙ (ap (λ (o : Option Request). loop_ask_as v o) next ∙ (by_way r.transfer writes ∙ sym (ap (λ (o : Option Request). data_ask o 0) next)))
  where
    by_way : (way : Transfer) → is_write way ≡ true → issue_ask_as v r way ≡ data_ask (Some r) 0
    by_way (transfer.Write tag) w = refl
    by_way (transfer.Barrier tag) w = refl
    by_way way w = absurd (cc)

loop_steps : (v : View) (r : Request) → v.stage ≡ stage.Loop → next_request v ≡ Some r → is_write r.transfer ≡ true → 1 < words_in r → step_as v Done ≡ step_as (at (stage.Data 0) v) Done
loop_steps v r looping next writes more =
    ap (λ (s : FrontStage). step_as_at s v Done) looping ∙ (ap (λ (o : Option Request). loop_step_as v o Done) next ∙ (by_way r.transfer writes ∙ sym (one_written v r 0 next more)))
  where
    by_way : (way : Transfer) → is_write way ≡ true → begun_as v r way ≡ at (stage.Data 1) v
    by_way (transfer.Write tag) w = refl
    by_way (transfer.Barrier tag) w = refl
    by_way way w = absurd (cc)

-- a word of a read's data was read, and another of its sector comes
untold : (e : Ending) (n : ℕ) (words : List ℕ) (v : View) → n % 128 < 127 → sector_told e n words v ≡ record v { words = words }
untold e n words v lt = ap (λ (b : Bool). if b then record v { words = words; told = Some (told.Sector e.request.number (n / 128) words) } else record v { words = words }) (ne_eqb (n % 128) 127 (λ same. omega arith))

-- a front is itself at its own stage
pub itself : (v : View) (s : FrontStage) → v.stage ≡ s → at s v ≡ v
itself v s is = ap (λ (x : FrontStage). at x v) (sym is)

-- so of a front at either stage of reading
module _ (s : ℕ → FrontStage) (e : Ending) (asks : (v : View) (n : ℕ) → ask_as (at (s n) v) ≡ read_ask v.ending n) (one_read : (v : View) (n word : ℕ) → v.ending ≡ Some e → n % 128 < 127 → n + 1 < words_in e.request → step_as (at (s n) v) (Word word) ≡ at (s (n + 1)) (record v { words = slice_set v.words (n % 128) word })) where
  some_read : (words : List ℕ) (v : View) (n : ℕ) → v.ending ≡ Some e → n % 128 + length words < 128 → n + length words < words_in e.request → steps_as (at (s n) v) (all_read words) ≡ at (s (n + length words)) (record v { words = with_words v.words (n % 128) words })
  some_read [] v n ending few lt = ap (λ m. at (s m) v) (omega arith)
  some_read (word ∷ rest) v n ending few lt =
      ap (λ (w : View). steps_as w (all_read rest)) (one_read v n word ending (omega arith) (omega arith))
      ∙ (some_read rest (record v { words = put }) (n + 1) ending (omega arith) (omega arith)
      ∙ (ap (λ m. at (s m) (record v { words = with_words put ((n + 1) % 128) rest })) (omega arith)
      ∙ ap (λ place. at (s (n + length (word ∷ rest))) (record v { words = with_words put place rest })) (omega arith)))
    where
      put : List ℕ
      put = slice_set v.words (n % 128) word

  read_asks : (words : List ℕ) (v : View) (n : ℕ) → v.ending ≡ Some e → n < words_in e.request → n % 128 + length words < 128 → ask_as (steps_as (at (s n) v) (all_read words)) ≡ Read (frame_at e.request (n / 1024)) (n % 1024 + length words)
  read_asks words v n ending lt few =
      ap ask_as (some_read words v n ending few (whole_sector n (length words) e.request.count lt few))
      ∙ (asks (record v { words = with_words v.words (n % 128) words }) (n + length words)
      ∙ (ap (λ (o : Option Ending). read_ask o (n + length words)) ending ∙ rw (same_frame n (length words) few, same_word n (length words) few) refl))

  -- what holds of a front at each word of its data holds in turn
  read_turns : (P : View → FrontAnswer → Type 0) (words : List ℕ) (v : View) (n : ℕ) → ((m word : ℕ) (put : List ℕ) → P (at (s m) (record v { words = put })) (Word word)) → v.ending ≡ Some e → n < words_in e.request → n % 128 + length words ≤ 128 → AllInTurn P step_as (at (s n) v) (all_read words)
  read_turns P [] v n holds ending lt few = tt
  read_turns P (word ∷ []) v n holds ending lt few = (holds n word v.words, tt)
  read_turns P (word ∷ next ∷ rest) v n holds ending lt few =
      let more = whole_sector n 1 e.request.count lt (omega arith) in (
        holds n word v.words,
        subst (λ (w : View). AllInTurn P step_as w (all_read (next ∷ rest))) (sym (one_read v n word ending (omega arith) more))
            (read_turns P (next ∷ rest) (record v { words = slice_set v.words (n % 128) word }) (n + 1) holds ending more (omega arith)),
      )

  -- after the last of them the front is as after that one alone
  to_last : (words rest : List ℕ) (last : ℕ) (v : View) (n : ℕ) → v.stage ≡ s n → v.ending ≡ Some e → n < words_in e.request → n % 128 + length words ≤ 128 → IsLastAndRest words last rest → steps_as v (all_read words) ≡ step_as (at (s (n + length rest)) (record v { words = with_words v.words (n % 128) rest })) (Word last)
  to_last words rest last v n is ending lt few split =
      let fewer : n % 128 + length rest < 128 = let counted = split.1 in omega arith in
      ap (λ (l : List ℕ). steps_as v (all_read l)) split.0
      ∙ (ap (steps_as v) (map-append Word rest (last ∷ []))
      ∙ (fold-append step_as v (all_read rest) (Word last ∷ [])
      ∙ ap (λ (w : View). step_as w (Word last))
      (ap (λ (w : View). steps_as w (all_read rest)) (sym (itself v (s n) is)) ∙ some_read rest v n ending fewer (whole_sector n (length rest) e.request.count lt fewer))))

one_data : (e : Ending) (v : View) (n word : ℕ) → v.ending ≡ Some e → n % 128 < 127 → n + 1 < words_in e.request → step_as (at (stage.ReadData n) v) (Word word) ≡ at (stage.ReadData (n + 1)) (record v { words = slice_set v.words (n % 128) word })
one_data e v n word ending few lt =
    let here = at (stage.ReadData n) v in
    let put = slice_set v.words (n % 128) word in
    ap (λ (o : Option Ending). data_step o n word here) ending ∙ (chosen (n + 1) (words_in e.request) _ _ lt ∙ ap (at (stage.ReadData (n + 1))) (untold e n put here few))

one_left : (e : Ending) (v : View) (n word : ℕ) → v.ending ≡ Some e → n % 128 < 127 → n + 1 < words_in e.request → step_as (at (stage.LeftData n) v) (Word word) ≡ at (stage.LeftData (n + 1)) (record v { words = slice_set v.words (n % 128) word })
one_left e v n word ending few lt =
    let here = at (stage.LeftData n) v in
    let put = slice_set v.words (n % 128) word in
    ap (λ (o : Option Ending). left_step o n word here) ending ∙ (chosen (n + 1) (words_in e.request) _ _ lt ∙ ap (at (stage.LeftData (n + 1))) (untold e n put here few))

-- what is known of a part, and what is to be shown of it
some_part : (r : Request) (n : ℕ) (value : Option ℕ) (P : SectorPart → Type 0) → IsSomeAnd (part_from r n value) P → (n < words_in r) × P (words_from r n value)
some_part r n value P h = by_test (nat_lt n (words_in r)) refl h
  where
    by_test : (b : Bool) → nat_lt n (words_in r) ≡ b → IsSomeAnd (if b then Some (words_from r n value) else None) P → (n < words_in r) × P (words_from r n value)
    by_test true e h = (ltb-true n (words_in r) e, h)
    by_test false e h = absurd h

if_part : (r : Request) (n : ℕ) (value : Option ℕ) (P : SectorPart → Type 0) → (n < words_in r → P (words_from r n value)) → IfSome (part_from r n value) P
if_part r n value P h = by_test (nat_lt n (words_in r)) refl
  where
    by_test : (b : Bool) → nat_lt n (words_in r) ≡ b → IfSome (if b then Some (words_from r n value) else None) P
    by_test true e = h (ltb-true n (words_in r) e)
    by_test false e = tt

-- so many words of a write's data, from this one on, are moved as by a front that has begun them
pub record IsWriting (v : View) (n k : ℕ) (r : Request) : Type 0 where
  pub placed : (v.stage ≡ stage.Loop) ⊎ (v.stage ≡ stage.Data n)
  pub next : next_request v ≡ Some r
  pub within : n < words_in r
  pub few : n % 128 + suc k ≤ 128
  pub asks : ask_as v ≡ ask_as (at (stage.Data n) v)
  pub first : step_as v Done ≡ step_as (at (stage.Data n) v) Done

begun_writing : (v : View) (r : Request) (n k : ℕ) → v.stage ≡ stage.Data n → next_request v ≡ Some r → n < words_in r → suc k ≤ 128 - n % 128 → IsWriting v n k r
begun_writing v r n k is next lt le =
    let here = sym (itself v (stage.Data n) is) in record {
      placed = inr is;
      next = next;
      within = lt;
      few = omega arith;
      asks = ap ask_as here;
      first = ap (λ (w : View). step_as w Done) here;
    }

first_writing : (v : View) (r : Request) (k : ℕ) → v.stage ≡ stage.Loop → next_request v ≡ Some r → is_write r.transfer ≡ true → 0 < words_in r → suc k ≤ 128 → IsWriting v 0 k r
first_writing v r k is next writes lt few = record {
  placed = inl is;
  next = next;
  within = lt;
  few = omega arith;
  asks = loop_asks v r is next writes;
  first = loop_steps v r is next writes (whole_sector 0 1 r.count lt (omega arith));
}

pub writing : (v : View) (k : ℕ) → HasWritten (sector_part v) (suc k) → (r : Request) × IsWriting v (written_word v.stage) k r
writing v k h = by_stage v.stage refl h
  where
    by_next : (n : ℕ) (next : Option Request) → next_request v ≡ next → v.stage ≡ stage.Data n → HasWritten (written_part next n) (suc k) → (r : Request) × IsWriting v n k r
    by_next n None e is h = absurd h
    by_next n (Some r) e is h =
        let has = some_part r n (Some (filling_at r.transfer n)) (λ (p : SectorPart). IsSome p.value × (suc k ≤ p.count)) h in
        (r, begun_writing v r n k is e has.0 has.1.1)

    by_way : (r : Request) (b : Bool) → is_write r.transfer ≡ b → next_request v ≡ Some r → v.stage ≡ stage.Loop → HasWritten (if b then written_part (Some r) 0 else None) (suc k) → (r : Request) × IsWriting v 0 k r
    by_way r true w e is h =
        let has = some_part r 0 (Some (filling_at r.transfer 0)) (λ (p : SectorPart). IsSome p.value × (suc k ≤ p.count)) h in
        (r, first_writing v r k is e w has.0 (omega (arith, has.1.1)))
    by_way r false w e is h = absurd h

    by_first : (next : Option Request) → next_request v ≡ next → v.stage ≡ stage.Loop → HasWritten (first_part next) (suc k) → (r : Request) × IsWriting v 0 k r
    by_first None e is h = absurd h
    by_first (Some r) e is h = by_way r (is_write r.transfer) refl e is h

    not_read : (ending : Option Ending) (n : ℕ) → HasWritten (read_part ending n) (suc k) → ⊥
    not_read None n h = h
    not_read (Some e) n h =
        let has = some_part e.request n None (λ (p : SectorPart). IsSome p.value × (suc k ≤ p.count)) h in
        true≢false (sym has.1.0)

    by_stage : (s : FrontStage) → v.stage ≡ s → HasWritten (part_at s v) (suc k) → (r : Request) × IsWriting v (written_word s) k r
    by_stage stage.Loop is h = by_first (next_request v) refl is h
    by_stage (stage.Data n) is h = by_next n (next_request v) refl is h
    by_stage (stage.ReadData n) is h = absurd (not_read v.ending n h)
    by_stage (stage.LeftData n) is h = absurd (not_read v.ending n h)
    by_stage s is h = absurd h

-- so many words were written: the front is as after the last of them alone
pub told_written : (v w after : View) (count first : ℕ) → w ≡ v → HasWritten (sector_part v) count → (count ≡ 0 → ⊥) → first ≡ written_word w.stage → after ≡ data_next (at (stage.Data (first + (count - 1))) w) (next_request w) (first + (count - 1)) → after ≡ steps_as v (all_written count)
told_written v w after zero first same has some is told = absurd (some refl)
told_written v w after (suc k) first same has some is told =
    let found = writing w k (subst (λ (x : View). HasWritten (sector_part x) (suc k)) (sym same) has) in
    let n = written_word w.stage in
    let here = found.1 in
    told ∙ (ap (λ m. data_next (at (stage.Data m) w) (next_request w) m) (omega arith)
    ∙ (sym (ap (λ (x : View). steps_as x (all_written k)) here.first ∙ last_written k w found.0 n here.next (whole_sector n k found.0.count here.within (let few = here.few in omega arith)))
    ∙ ap (λ (x : View). steps_as x (all_written (suc k))) same))

-- what holds of the front, and of it at each word of the data, holds in turn
pub written_in_turn : (P : View → FrontAnswer → Type 0) (v : View) (count : ℕ) → HasWritten (sector_part v) count → P v Done → ((m : ℕ) → P (at (stage.Data m) v) Done) → AllInTurn P step_as v (all_written count)
written_in_turn P v zero has here holds = tt
written_in_turn P v (suc k) has here holds =
    let found = writing v k has in
    let w = found.1 in
    (here, subst (λ (x : View). AllInTurn P step_as x (all_written k)) (sym w.first) (write_turns P v holds (suc k) found.0 (written_word v.stage) w.next w.within w.few).1)

pub written_each : (v : View) (count : ℕ) → HasWritten (sector_part v) count → v.told ≡ None → AreTellable v (all_written count)
written_each v zero has quiet = tt
written_each v (suc k) has quiet =
    let found = writing v k has in
    let w = found.1 in
    let answers : (m : ℕ) → IsAnswer (ask_as (at (stage.Data m) v)) Done = λ m. subst (λ (o : Option Request). IsAnswer (data_ask o m) Done) (sym w.next) tt in
    written_in_turn IsTellable v (suc k) has (subst (λ (a : FrontAsk). IsAnswer a Done) (sym w.asks) (answers (written_word v.stage)), quiet) (λ m. (answers m, quiet))

-- so many words of a read's data, from this one on, are read next at a stage
pub record IsReadOf (s : ℕ → FrontStage) (v : View) (n count : ℕ) (e : Ending) : Type 0 where
  pub stage : v.stage ≡ s n
  pub ending : v.ending ≡ Some e
  pub within : n < words_in e.request
  pub few : n % 128 + count ≤ 128

reading_from : (s : ℕ → FrontStage) (v : View) (n count : ℕ) → v.stage ≡ s n → HasRead (read_part v.ending n) count → (e : Ending) × IsReadOf s v n count e
reading_from s v n count is h = by_ending v.ending refl h
  where
    by_ending : (o : Option Ending) → v.ending ≡ o → HasRead (read_part o n) count → (e : Ending) × IsReadOf s v n count e
    by_ending None there h = absurd h
    by_ending (Some e) there h =
        let has = some_part e.request n None (λ (p : SectorPart). (p.value ≡ None) × (count ≤ p.count)) h in
        let le : count ≤ 128 - n % 128 = has.1.1 in
        (e, record { stage = is; ending = there; within = has.0; few = omega arith })

-- these words were read: the front is as after the last of them alone
pub told_data : (v w after : View) (n : ℕ) (words rest put : List ℕ) (last : ℕ) → w ≡ v → w.stage ≡ stage.ReadData n → HasRead (sector_part v) (length words) → IsLastAndRest words last rest → put ≡ with_words w.words (n % 128) rest → after ≡ data_step w.ending (n + length rest) last (at (stage.ReadData (n + length rest)) (record w { words = put })) → after ≡ steps_as v (all_read words)
told_data v w after n words rest put last same is has split filled told =
    let found = reading_from stage.ReadData w n (length words) is (subst (λ (s : FrontStage). HasRead (part_at s w) (length words)) is (subst (λ (x : View). HasRead (sector_part x) (length words)) (sym same) has)) in
    let here = found.1 in
    told ∙ (rw filled (sym (to_last stage.ReadData found.0 (λ x m. refl) (one_data found.0) words rest last w n is here.ending here.within here.few split))
    ∙ ap (λ (x : View). steps_as x (all_read words)) same)

pub told_left : (v w after : View) (n : ℕ) (words rest put : List ℕ) (last : ℕ) → w ≡ v → w.stage ≡ stage.LeftData n → HasRead (sector_part v) (length words) → IsLastAndRest words last rest → put ≡ with_words w.words (n % 128) rest → after ≡ left_step w.ending (n + length rest) last (at (stage.LeftData (n + length rest)) (record w { words = put })) → after ≡ steps_as v (all_read words)
told_left v w after n words rest put last same is has split filled told =
    let found = reading_from stage.LeftData w n (length words) is (subst (λ (s : FrontStage). HasRead (part_at s w) (length words)) is (subst (λ (x : View). HasRead (sector_part x) (length words)) (sym same) has)) in
    let here = found.1 in
    told ∙ (rw filled (sym (to_last stage.LeftData found.0 (λ x m. refl) (one_left found.0) words rest last w n is here.ending here.within here.few split))
    ∙ ap (λ (x : View). steps_as x (all_read words)) same)

-- a front reads words of data at two stages
abbrev pub Reads : (s : ℕ → FrontStage) → View → ℕ → Type 0
Reads s v count = (n : ℕ) × ((e : Ending) × IsReadOf s v n count e)

pub reading : (v : View) (count : ℕ) → HasRead (sector_part v) count → Reads stage.ReadData v count ⊎ Reads stage.LeftData v count
reading v count has = by_stage v.stage refl has
  where
    not_written : (next : Option Request) (n : ℕ) → HasRead (written_part next n) count → ⊥
    not_written None n h = h
    not_written (Some r) n h =
        let found = some_part r n (Some (filling_at r.transfer n)) (λ (p : SectorPart). (p.value ≡ None) × (count ≤ p.count)) h in
        let none : Some (filling_at r.transfer n) ≡ None = found.1.0 in
        cc

    by_way : (r : Request) (b : Bool) → HasRead (if b then written_part (Some r) 0 else None) count → ⊥
    by_way r true h = not_written (Some r) 0 h
    by_way r false h = h

    not_first : (next : Option Request) → HasRead (first_part next) count → ⊥
    not_first None h = h
    not_first (Some r) h = by_way r (is_write r.transfer) h

    by_stage : (s : FrontStage) → v.stage ≡ s → HasRead (part_at s v) count → Reads stage.ReadData v count ⊎ Reads stage.LeftData v count
    by_stage stage.Loop is h = absurd (not_first (next_request v) h)
    by_stage (stage.Data n) is h = absurd (not_written (next_request v) n h)
    by_stage (stage.ReadData n) is h = inl (n, reading_from stage.ReadData v n count is h)
    by_stage (stage.LeftData n) is h = inr (n, reading_from stage.LeftData v n count is h)
    by_stage s is h = absurd h

-- such a stage, at another word
abbrev pub at_word : FrontStage → ℕ → FrontStage
at_word (stage.ReadData n) m = stage.ReadData m
at_word (stage.LeftData n) m = stage.LeftData m
at_word s m = s

-- what holds of the front at each word of the data holds in turn
pub read_in_turn : (P : View → FrontAnswer → Type 0) (v : View) (words : List ℕ) → HasRead (sector_part v) (length words) → ((m word : ℕ) (put : List ℕ) → P (at (at_word v.stage m) (record v { words = put })) (Word word)) → AllInTurn P step_as v (all_read words)
read_in_turn P v words has holds = by_reading (reading v (length words) has)
  where
    holds_at : (s : FrontStage) → v.stage ≡ s → (m word : ℕ) (put : List ℕ) → P (at (at_word s m) (record v { words = put })) (Word word)
    holds_at s is m word put = subst (λ (x : FrontStage). P (at (at_word x m) (record v { words = put })) (Word word)) is (holds m word put)

    by_reading : Reads stage.ReadData v (length words) ⊎ Reads stage.LeftData v (length words) → AllInTurn P step_as v (all_read words)
    by_reading (inl (n, (e, here))) =
        subst (λ (w : View). AllInTurn P step_as w (all_read words)) (itself v (stage.ReadData n) here.stage)
        (read_turns stage.ReadData e (λ x m. refl) (one_data e) P words v n (holds_at (stage.ReadData n) here.stage) here.ending here.within here.few)
    by_reading (inr (n, (e, here))) =
        subst (λ (w : View). AllInTurn P step_as w (all_read words)) (itself v (stage.LeftData n) here.stage)
        (read_turns stage.LeftData e (λ x m. refl) (one_left e) P words v n (holds_at (stage.LeftData n) here.stage) here.ending here.within here.few)

reads_words : (v : View) (count : ℕ) → HasRead (sector_part v) count → (m word : ℕ) (put : List ℕ) → IsAnswer (ask_as (at (at_word v.stage m) (record v { words = put }))) (Word word)
reads_words v count has m word put = by_reading (reading v count has)
  where
    reads : (e : Ending) → v.ending ≡ Some e → IsAnswer (read_ask v.ending m) (Word word)
    reads e there = subst (λ (o : Option Ending). IsAnswer (read_ask o m) (Word word)) (sym there) tt

    by_reading : Reads stage.ReadData v count ⊎ Reads stage.LeftData v count → IsAnswer (ask_as (at (at_word v.stage m) (record v { words = put }))) (Word word)
    by_reading (inl (n, (e, here))) = subst (λ (s : FrontStage). IsAnswer (ask_as (at (at_word s m) (record v { words = put }))) (Word word)) (sym here.stage) (reads e here.ending)
    by_reading (inr (n, (e, here))) = subst (λ (s : FrontStage). IsAnswer (ask_as (at (at_word s m) (record v { words = put }))) (Word word)) (sym here.stage) (reads e here.ending)

pub read_each : (v : View) (words : List ℕ) → HasRead (sector_part v) (length words) → v.told ≡ None → AreTellable v (all_read words)
read_each v words has quiet = read_in_turn IsTellable v words has (λ m word put. (reads_words v (length words) has m word put, quiet))

-- what a part says of what is asked is so
pub part_asks : (v : View) (part : Option SectorPart) → part ≡ sector_part v → IfSome part (AsksEach ask_as step_as v)
part_asks v part is_part = subst (λ (o : Option SectorPart). IfSome o (AsksEach ask_as step_as v)) (sym is_part) (by_stage v.stage refl)
  where
    by_next : (n : ℕ) (next : Option Request) → next_request v ≡ next → v.stage ≡ stage.Data n → IfSome (written_part next n) (AsksEach ask_as step_as v)
    by_next n None e is = tt
    by_next n (Some r) e is = if_part r n (Some (filling_at r.transfer n)) (AsksEach ask_as step_as v) (λ lt k few.
        subst (λ (w : View). ask_as (steps_as w (all_written k)) ≡ Write (frame_at r (n / 1024)) (n % 1024 + k) (filling_at r.transfer n)) (itself v (stage.Data n) is)
        (written_asks k v r n e lt (omega arith)))

    in_loop : (r : Request) → next_request v ≡ Some r → v.stage ≡ stage.Loop → is_write r.transfer ≡ true → 0 < words_in r → (k : ℕ) → k < 128 → ask_as (steps_as v (all_written k)) ≡ Write (frame_at r 0) (0 + k) (filling_at r.transfer 0)
    in_loop r e is w lt zero few = loop_asks v r is e w ∙ written_asks zero v r 0 e lt (omega arith)
    in_loop r e is w lt (suc k) few =
        ap (λ (u : View). ask_as (steps_as u (all_written k))) (loop_steps v r is e w (whole_sector 0 1 r.count lt (omega arith)))
        ∙ written_asks (suc k) v r 0 e lt (omega arith)

    by_way : (r : Request) (b : Bool) → is_write r.transfer ≡ b → next_request v ≡ Some r → v.stage ≡ stage.Loop → IfSome (if b then written_part (Some r) 0 else None) (AsksEach ask_as step_as v)
    by_way r true w e is = if_part r 0 (Some (filling_at r.transfer 0)) (AsksEach ask_as step_as v) (λ lt k few. in_loop r e is w lt k few)
    by_way r false w e is = tt

    by_first : (next : Option Request) → next_request v ≡ next → v.stage ≡ stage.Loop → IfSome (first_part next) (AsksEach ask_as step_as v)
    by_first None e is = tt
    by_first (Some r) e is = by_way r (is_write r.transfer) refl e is

    by_ending : (n : ℕ) (o : Option Ending) → ((e : Ending) (words : List ℕ) → v.ending ≡ Some e → n < words_in e.request → n % 128 + length words < 128 → ask_as (steps_as v (all_read words)) ≡ Read (frame_at e.request (n / 1024)) (n % 1024 + length words)) → v.ending ≡ o → IfSome (read_part o n) (AsksEach ask_as step_as v)
    by_ending n None reads is = tt
    by_ending n (Some e) reads is = if_part e.request n None (AsksEach ask_as step_as v) (λ lt words few. reads e words is lt (omega arith))

    by_stage : (s : FrontStage) → v.stage ≡ s → IfSome (part_at s v) (AsksEach ask_as step_as v)
    by_stage stage.Loop is = by_first (next_request v) refl is
    by_stage (stage.Data n) is = by_next n (next_request v) refl is
    by_stage (stage.ReadData n) is = by_ending n v.ending (λ e words ending lt few.
        ap (λ (w : View). ask_as (steps_as w (all_read words))) (sym (itself v (stage.ReadData n) is)) ∙ read_asks stage.ReadData e (λ w m. refl) (one_data e) words v n ending lt few) refl
    by_stage (stage.LeftData n) is = by_ending n v.ending (λ e words ending lt few.
        ap (λ (w : View). ask_as (steps_as w (all_read words))) (sym (itself v (stage.LeftData n) is)) ∙ read_asks stage.LeftData e (λ w m. refl) (one_left e) words v n ending lt few) refl
    by_stage s is = tt
