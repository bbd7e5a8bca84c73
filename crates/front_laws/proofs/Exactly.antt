-- An answer that doesn't break the front was honest, and a response that was asked for brings its answer.
use Rattle.std.proofs.Common.{◌≡◌, ℕ, ◌+◌, ◌%◌, ◌≤◌, ◌==◌, ◌&&◌, Bool, true, false, if◌then◌else◌, List, [], ◌∷◌, ◌++◌, length, refl, sym, ap, ◌∙◌, subst, arith}
use Rattle.std.specs.Prelude.{Option, Some, None, nat_lt}
use Rattle.std.proofs.lemmas.Bool.Decides.{nat_tests}
use Rattle.std.proofs.lemmas.Bool.{false≢true}
use Rattle.blk_base.specs.Distance.{distance_of}
use Rattle.blk_base.specs.declared.operation.Status.{Status}
use Rattle.blk_base.specs.declared.ask.FrontAsk.{FrontAsk}
use Rattle.blk_base.specs.declared.ask.FrontAsk.TheVariants as ask
use Rattle.blk_base.specs.declared.ask.FrontAnswer.{FrontAnswer}
use Rattle.blk_base.specs.declared.ask.FrontAnswer.TheVariants as answer
use Rattle.blk_front.specs.declared.request.Request.{Request}
use Rattle.blk_front.specs.declared.told.Told.{Told}
use Rattle.blk_front.specs.declared.told.Told.TheVariants as told
use Rattle.blk_front.specs.Step.{is_mapped}
use Rattle.front_laws.specs.History.{Line, Asked, Submitted, Entered, Suspended}
use Rattle.front_laws.specs.Sight.{Sight, Taken, is_of_grants, is_of_data, is_of_indices, numbered, response_id, response_status, moved, after_line, Each}
use Rattle.front_laws.specs.Told.{told_of, told_of_word, told_of_response, told_of_end, IsToldWhereDue}
use Rattle.front_laws.specs.Honest.{IsAskedFor, IsHonestWord, IsHonestAnswer, Breaks, IsHonestUnbroken, BringsAnswer, IsBrought}

-- where this doesn't break it, the one test or the other failed
not_both : (b c : Bool) (value : ℕ) → (Breaks (if b && c then Some (told.Broken value) else None) → ⊥) → b ≡ true → c ≡ false
not_both true true value still e = absurd (still tt)
not_both true false value still e = refl
not_both false c value still e = absurd (false≢true e)

module _ (s : Sight) (frame word value : ℕ) (still : Breaks (told_of_word s frame word value) → ⊥) where
  unmapped_so : is_of_grants frame ≡ true → word % 2 ≡ 0 → is_mapped value ≡ false
  unmapped_so grants even =
      not_both (word % 2 == 0) (is_mapped value) value
      (subst (λ (b : Bool). Breaks (if b then (if (word % 2 == 0) && is_mapped value then Some (told.Broken value) else None) else None) → ⊥) grants (by_grants (is_of_grants frame) refl)) (grind (arith, nat_tests))
    where
      by_grants : (b : Bool) → is_of_grants frame ≡ b → Breaks (if b then (if (word % 2 == 0) && is_mapped value then Some (told.Broken value) else None) else None) → ⊥
      by_grants true e = rw e at still
      by_grants false e = λ x. x

  produced_so : frame ≡ 2 → word ≡ 2 → distance_of s.cons value ≤ distance_of s.cons s.prod
  produced_so first two =
      let at : Breaks (told_of_word s 2 2 value) → ⊥ = subst (λ (f : ℕ). Breaks (told_of_word s f 2 value) → ⊥) first (subst (λ (w : ℕ). Breaks (told_of_word s frame w value) → ⊥) two still) in
      let not_past : nat_lt (distance_of s.cons s.prod) (distance_of s.cons value) ≡ false = not_both true (nat_lt (distance_of s.cons s.prod) (distance_of s.cons value)) value at refl in
      grind (arith, nat_tests)

  abbrev words : List ℕ
  words = s.response ++ value ∷ []

  asked_so : is_of_grants frame ≡ false → is_of_data frame ≡ false → is_of_indices frame word ≡ false → length words ≡ 3 → IsAskedFor s words
  asked_so grants far indices three =
      let all : (length words == 3) ≡ true = grind (arith, nat_tests) in
      by_found (numbered (response_id words) s.issued) (response_status words) refl refl (rw (grants, far, indices, all) at still)
    where
      by_found : (o : Option Request) (st : Option Status) → numbered (response_id words) s.issued ≡ o → response_status words ≡ st → (Breaks (told_of_response words o st) → ⊥) → IsAskedFor s words
      by_found None st found is whole = absurd (whole tt)
      by_found (Some r) None found is whole = absurd (whole tt)
      by_found (Some r) (Some status) found is whole = record { request = r; issued = found; status = status; is_one = is }

  word_honest : IsHonestWord s frame word value
  word_honest = record { unmapped = unmapped_so; produced = produced_so; asked_for = asked_so }

answer_honest : (s : Sight) (a : FrontAsk) (x : FrontAnswer) → (Breaks (told_of s a x) → ⊥) → IsHonestAnswer s a x
answer_honest s (ask.Read frame word) (answer.Word value) still = word_honest s frame word value still
answer_honest s (ask.Cas frame word old new) (answer.Word seen) still = by_same (seen == old) refl still
  where
    by_same : (b : Bool) → (seen == old) ≡ b → (Breaks (if b then told_of_end s.taken else Some (told.Broken seen)) → ⊥) → seen ≡ old
    by_same true e still = grind (arith, nat_tests)
    by_same false e still = absurd (still tt)
answer_honest s a x still = tt

pub unbroken_honest : (s : Sight) (line : Line) → IsToldWhereDue s line → IsHonestUnbroken s line
unbroken_honest s (Asked a x told) due still = answer_honest s a x (subst (λ (o : Option Told). Breaks o → ⊥) due still)
unbroken_honest s (Submitted r) due still = tt
unbroken_honest s (Entered st) due still = tt
unbroken_honest s Suspended due still = tt

-- a response that was asked for brings its answer
brings_word : (s : Sight) (f w value : ℕ) → BringsAnswer s (moved (ask.Read f w) (answer.Word value) s) (ask.Read f w) (answer.Word value) (told_of_word s f w value)
brings_word s f w value grants far indices three its =
    let all : (length (s.response ++ value ∷ []) == 3) ≡ true = grind (arith, nat_tests) in record {
      taken = record { words = s.response ++ value ∷ []; request = its.request; status = its.status; ended = 0 };
      taken_is = rw (grants, far, indices, all, its.issued, its.is_one) refl;
      words_are = refl;
      request = refl;
      status = refl;
      at_once = λ none. let empty : (length its.request.frames.items == 0) ≡ true = grind (arith, nat_tests) in rw (grants, far, indices, all, its.issued, its.is_one, empty) refl;
    }

brings_end : (o : Option Taken) (taken : Taken) → o ≡ Some taken → taken.ended + 1 ≡ length taken.request.frames.items → told_of_end o ≡ Some (told.Answer taken.request.number taken.status)
brings_end o taken is last = ap told_of_end is ∙ (let whole : (taken.ended + 1 == length taken.request.frames.items) ≡ true = grind (arith, nat_tests) in rw whole refl)

brings : (s : Sight) (a : FrontAsk) (x : FrontAnswer) → BringsAnswer s (moved a x s) a x (told_of s a x)
brings s (ask.Read f w) (answer.Word value) = brings_word s f w value
brings s (ask.Cas f w old new) (answer.Word seen) = λ taken is last same.
    let equal : (seen == old) ≡ true = grind (arith, nat_tests) in
    ap (λ (b : Bool). if b then told_of_end s.taken else Some (told.Broken seen)) equal ∙ brings_end s.taken taken is last
brings s a x = tt

pub due_brings : (s : Sight) (line : Line) → IsToldWhereDue s line → IsBrought s line
due_brings s (Asked a x said) due = subst (BringsAnswer s (moved a x s) a x) (sym due) (brings s a x)
due_brings s (Submitted r) due = tt
due_brings s (Entered st) due = tt
due_brings s Suspended due = tt

-- a rule that follows from another at each line follows over all lines
pub each_so : (One Rule : Sight → Line → Type 0) → ((s : Sight) (line : Line) → One s line → Rule s line) → (s : Sight) (lines : List Line) → Each One s lines → Each Rule s lines
each_so One Rule follows s [] one = tt
each_so One Rule follows s (line ∷ lines) one = (follows s line one.0, each_so One Rule follows (after_line s line) lines one.1)
