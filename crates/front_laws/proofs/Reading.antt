-- What is told where it is due is told as it was read, and honest answers never break the front.
use Rattle.std.proofs.Common.{◌≡◌, ℕ, ◌+◌, ◌%◌, ◌==◌, ◌&&◌, Bool, true, false, if◌then◌else◌, List, [], ◌∷◌, ◌++◌, length, refl, sym, subst, arith}
use Rattle.std.specs.Prelude.{Option, Some, None, IfSome, nat_lt, slice_index}
use Rattle.std.proofs.lemmas.Option.{none-some, same_Some}
use Rattle.std.proofs.lemmas.Bool.Decides.{nat_tests}
use Rattle.std.proofs.lemmas.Bool.{false≢true}
use Rattle.blk_base.specs.Distance.{distance_of}
use Rattle.blk_base.specs.declared.operation.Status.{Status}
use Rattle.blk_base.specs.declared.ask.FrontAsk.{FrontAsk}
use Rattle.blk_base.specs.declared.ask.FrontAsk.TheVariants as ask
use Rattle.blk_base.specs.declared.ask.FrontAnswer.{FrontAnswer}
use Rattle.blk_base.specs.declared.ask.FrontAnswer.TheVariants as answer
use Rattle.blk_front.specs.declared.request.Request.{Request}
use Rattle.blk_front.specs.declared.told.Told.TheVariants as told
use Rattle.blk_front.specs.Step.{is_mapped}
use Rattle.front_laws.specs.History.{Line, Asked, Submitted, Entered, Suspended}
use Rattle.front_laws.specs.Sight.{Sight, Taken, is_of_grants, is_of_data, is_of_indices, numbered, response_id, response_status, after_line, Each}
use Rattle.front_laws.specs.Told.{told_of, told_of_word, told_of_response, told_after_response, told_of_end, told_of_data, IsToldWhereDue}
use Rattle.front_laws.specs.Answers.{IsRead}
use Rattle.front_laws.proofs.Changes.{both}
use Rattle.front_laws.specs.Honest.{IsAskedFor, IsHonestWord, IsHonestAnswer, IsHonest, Breaks, IsUnbroken}

-- a rule that follows from others at each line follows over all lines
pub each_both : (One Other Rule : Sight → Line → Type 0) → ((s : Sight) (line : Line) → One s line → Other s line → Rule s line) → (s : Sight) (lines : List Line) → Each One s lines → Each Other s lines → Each Rule s lines
each_both One Other Rule follows s [] some more = tt
each_both One Other Rule follows s (line ∷ lines) some more = (follows s line some.0 more.0, each_both One Other Rule follows (after_line s line) lines some.1 more.1)

-- and from what each line keeps
pub each_kept : (Kept : Sight → Type 0) (One Rule : Sight → Line → Type 0) → ((s : Sight) (line : Line) → Kept s → Kept (after_line s line)) → ((s : Sight) (line : Line) → Kept s → One s line → Rule s line)
    → (s : Sight) (lines : List Line) → Kept s → Each One s lines → Each Rule s lines
each_kept Kept One Rule keeps follows s [] kept one = tt
each_kept Kept One Rule keeps follows s (line ∷ lines) kept one = (follows s line kept one.0, each_kept Kept One Rule keeps follows (after_line s line) lines (keeps s line kept) one.1)

-- honest answers break nothing
no_break_word : (s : Sight) (frame word value : ℕ) → IsHonestWord s frame word value → Breaks (told_of_word s frame word value) → ⊥
no_break_word s frame word value h = by_grants (is_of_grants frame) (is_of_data frame) (is_of_indices frame word) refl refl refl
  where
    by_data : (o : Option Request) (words : List ℕ) → Breaks (told_of_data o s.sector words) → ⊥
    by_data None words = λ x. x
    by_data (Some r) words = by_length (length words == 128)
      where
        by_length : (b : Bool) → Breaks (if b then Some (told.Sector r.number s.sector words) else None) → ⊥
        by_length true = λ x. x
        by_length false = λ x. x

    by_both : (b c : Bool) → (b ≡ true → c ≡ false) → Breaks (if b && c then Some (told.Broken value) else None) → ⊥
    by_both true true e = absurd (false≢true (sym (e refl)))
    by_both true false e = λ x. x
    by_both false c e = λ x. x

    by_response : (o : Option Request) (st : Option Status) (r : Request) (status : Status) → o ≡ Some r → st ≡ Some status → (words : List ℕ) → Breaks (told_of_response words o st) → ⊥
    by_response None st r status e f words = absurd (none-some r e)
    by_response (Some q) None r status e f words = absurd (none-some status f)
    by_response (Some q) (Some it) r status e f words = by_length (length q.frames.items == 0)
      where
        by_length : (b : Bool) → Breaks (if b then Some (told.Answer q.number it) else None) → ⊥
        by_length true = λ x. x
        by_length false = λ x. x

    by_three : (b : Bool) → (length (s.response ++ value ∷ []) == 3) ≡ b → (b ≡ true → IsAskedFor s (s.response ++ value ∷ []))
        → Breaks (if b then told_of_response (s.response ++ value ∷ []) (numbered (response_id (s.response ++ value ∷ [])) s.issued) (response_status (s.response ++ value ∷ [])) else None) → ⊥
    by_three true is its = let a = its refl in by_response (numbered (response_id (s.response ++ value ∷ [])) s.issued) (response_status (s.response ++ value ∷ [])) a.request a.status a.issued a.is_one (s.response ++ value ∷ [])
    by_three false is its = λ x. x

    by_grants : (b c d : Bool) → is_of_grants frame ≡ b → is_of_data frame ≡ c → is_of_indices frame word ≡ d
        → Breaks (if b then (if (word % 2 == 0) && is_mapped value then Some (told.Broken value) else None)
        else (if c then told_of_data s.telling s.sector (s.words ++ value ∷ [])
        else (if d then (if (word == 2) && nat_lt (distance_of s.cons s.prod) (distance_of s.cons value) then Some (told.Broken value) else None)
        else told_after_response s (s.response ++ value ∷ [])))) → ⊥
    by_grants true c d is also more = by_both (word % 2 == 0) (is_mapped value) (λ even. h.unmapped is (grind (arith, nat_tests)))
    by_grants false true d is also more = by_data s.telling (s.words ++ value ∷ [])
    by_grants false false true is also more = by_both (word == 2) (nat_lt (distance_of s.cons s.prod) (distance_of s.cons value)) (λ two.
        let here : word ≡ 2 = grind (arith, nat_tests) in
        let first : frame ≡ 2 = (let two_so = (both (frame == 2) (nat_lt word 16) more).0 in grind (arith, nat_tests)) in
        let le = h.produced first here in
        grind (arith, nat_tests))
    by_grants false false false is also more = by_three (length (s.response ++ value ∷ []) == 3) refl (λ three. h.asked_for is also more (grind (arith, nat_tests)))

no_break_end : (t : Option Taken) → Breaks (told_of_end t) → ⊥
no_break_end None = λ x. x
no_break_end (Some t) = by_last (t.ended + 1 == length t.request.frames.items)
  where
    by_last : (b : Bool) → Breaks (if b then Some (told.Answer t.request.number t.status) else None) → ⊥
    by_last true = λ x. x
    by_last false = λ x. x

no_break : (s : Sight) (a : FrontAsk) (x : FrontAnswer) → IsHonestAnswer s a x → Breaks (told_of s a x) → ⊥
no_break s (ask.Read frame word) (answer.Word value) h = no_break_word s frame word value h
no_break s (ask.Cas frame word old new) (answer.Word seen) h = by_same (seen == old) refl
  where
    by_same : (b : Bool) → (seen == old) ≡ b → Breaks (if b then told_of_end s.taken else Some (told.Broken seen)) → ⊥
    by_same true e = no_break_end s.taken
    by_same false e = absurd (grind (arith, nat_tests))
no_break s a x h = λ y. y

pub honest_unbroken : (s : Sight) (line : Line) → IsToldWhereDue s line → IsHonest s line → IsUnbroken s line
honest_unbroken s (Asked a x told) due h = λ y. no_break s a x h (subst Breaks due y)
honest_unbroken s (Submitted r) due h = tt
honest_unbroken s (Entered st) due h = tt
honest_unbroken s Suspended due h = tt

-- the request of a number has it
numbered_so : (l : List Request) (id : ℕ) (r : Request) → numbered id l ≡ Some r → r.number ≡ id
numbered_so [] id r e = absurd (none-some r e)
numbered_so (q ∷ l) id r e = by_test (numbered_so l id r) (q.number == id) refl e
  where
    by_test : (numbered id l ≡ Some r → r.number ≡ id) → (b : Bool) → (q.number == id) ≡ b → (if b then Some q else numbered id l) ≡ Some r → r.number ≡ id
    by_test rest true is e = let same : q.number ≡ id = grind (arith, nat_tests) in subst (λ (x : Request). x.number ≡ id) (same_Some q r e) same
    by_test rest false is e = rest e

three_words : (l : List ℕ) → length l ≡ 3 → l ≡ slice_index l 0 ∷ slice_index l 1 ∷ slice_index l 2 ∷ []
three_words [] e = absurd (omega arith)
three_words (a ∷ []) e = absurd (omega arith)
three_words (a ∷ b ∷ []) e = absurd (omega arith)
three_words (a ∷ b ∷ c ∷ []) e = refl
three_words (a ∷ b ∷ c ∷ d ∷ l) e = absurd (omega arith)

-- a response that was taken is that of its words
abbrev pub IsOf : Taken → Type 0
IsOf t = IsRead t.words t.request.number t.status

abbrev pub TakenIs : Option Taken → Type 0
TakenIs o = IfSome o IsOf

pub taken_reads : (words : List ℕ) (issued : List Request) (r : Request) (status : Status) → length words ≡ 3 → numbered (response_id words) issued ≡ Some r → response_status words ≡ Some status → IsRead words r.number status
taken_reads words issued r status three found is = record {
  low = slice_index words 0;
  high = slice_index words 1;
  last = slice_index words 2;
  words_are = three_words words three;
  id_is = numbered_so issued (response_id words) r found;
  status_is = is;
}
