-- The rules on breaks and on answers refuse what no machine gives.
use Rattle.std.proofs.Common.{◌≡◌, ℕ, ◌<◌, ◌/◌, ◌^◌, ◌++◌, Bool, true, false, true≢false, if◌then◌else◌, [], ◌∷◌, refl, sym, ap, ◌∙◌, codes, arith}
use Rattle.std.specs.Prelude.{Option, Some, None, nat_lt}
use Rattle.std.proofs.lemmas.Option.{none-some, same_Some}
use Rattle.std.proofs.lemmas.Bool.Decides.{nat_tests}
use Rattle.blk_base.specs.Options.{Options}
use Rattle.blk_base.specs.Distance.{distance_of}
use Rattle.blk_base.specs.declared.operation.Status.{Status}
use Rattle.blk_base.specs.declared.operation.Status.TheVariants.{Okay, Error}
use Rattle.blk_base.specs.declared.moves.Mover.TheVariants.{Front}
use Rattle.blk_base.specs.declared.moves.Move.TheVariants as moves
use Rattle.ring_words.specs.Ring.{next_of}
use Rattle.blk_layout.specs.Response.{status_of}
use Rattle.schedule_text.specs.declared.line.Detail.TheVariants.{Moves}
use Rattle.schedule_text.specs.declared.line.Line.TheVariants as lines
use Rattle.xenbus_state.specs.Numbers.{number_in, number_after}
use Rattle.negotiation_laws.specs.Negotiation.{back_state}
use Rattle.vbd_laws.specs.Breaks.{AreBreaksDue, IsOverOnce}
use Rattle.vbd_laws.specs.AnswersRead.{IsRead, AreRead}
use Rattle.vbd_laws.specs.WrongBreaks.{broken_by_no_response, broken_by_no_word, broken_late, goes_on_too_far, goes_on_mapped, goes_on_broken, broken_though_through, first_issued, response_read, broken_by_its_own, answered_otherwise, answered_unread, read_further}
use Rattle.vbd_laws.proofs.BreaksWords.{one_further, none_further}

pub no_response : (config : Options) → AreBreaksDue (broken_by_no_response config) → ⊥
no_response config h =
    let near : nat_lt (distance_of config.start config.start) (distance_of config.start config.start) ≡ false = grind (arith, nat_tests) in
    none-some config.start (sym (h (lines.Begin config Moves ∷ lines.Move (moves.FrontRead 2 2 config.start) ∷ []) [] (lines.Broken config.start) refl ∙ ap (λ (b : Bool). if b then Some config.start else None) near))

pub too_far : (config : Options) → config.start < 2 ^ 32 → AreBreaksDue (goes_on_too_far config) → ⊥
too_far config small h =
    let further = one_further config.start small in
    let none = none_further config.start small in
    let far : nat_lt (distance_of config.start config.start) (distance_of config.start (next_of config.start)) ≡ true = grind (arith, nat_tests) in
    none-some (next_of config.start) (h (lines.Begin config Moves ∷ lines.Move (moves.FrontRead 2 2 (next_of config.start)) ∷ []) [] lines.Quiet refl ∙ ap (λ (b : Bool). if b then Some (next_of config.start) else None) far)

pub mapped : (config : Options) → AreBreaksDue (goes_on_mapped config) → ⊥
mapped config h = none-some 9 (h (lines.Begin config Moves ∷ lines.Move (moves.FrontRead 0 48 9) ∷ []) [] (lines.Move (moves.FrontCas 0 48 9 0 9)) refl)

pub over : (config : Options) → IsOverOnce (goes_on_broken config) → ⊥
over config h = true≢false (h (lines.Begin config Moves ∷ lines.Broken 6 ∷ []) [] (lines.Move (moves.FrontRead 2 2 6)) refl refl)

pub through : (config : Options) → AreBreaksDue (broken_though_through config) → ⊥
unfolding number_in number_after
through config h = none-some 6 (sym (h (lines.Begin config Moves ∷ lines.Move (moves.GetKey Front back_state (Some (codes "6"))) ∷ []) [] (lines.Broken 6) refl))

pub unshown : (config : Options) → AreBreaksDue (broken_by_no_word config) → ⊥
unshown config h = by_test (nat_lt (distance_of config.start config.start) (distance_of config.start 6)) (h (lines.Begin config Moves ∷ lines.Move (moves.FrontRead 2 2 6) ∷ []) [] (lines.Broken 7) refl)
  where
    by_test : (b : Bool) → ◌≡◌ {A = Option ℕ} (Some 7) (if b then Some 6 else None) → ⊥
    by_test true e = let same : ◌≡◌ {A = ℕ} 7 6 = same_Some 7 6 e in absurd (omega arith)
    by_test false e = none-some 7 (sym e)

pub late : (config : Options) → AreBreaksDue (broken_late config) → ⊥
late config h = none-some 6 (sym (h (lines.Begin config Moves ∷ lines.Move (moves.FrontRead 2 2 6) ∷ lines.Quiet ∷ []) [] (lines.Broken 6) refl))

pub its_own : (config : Options) → AreBreaksDue (broken_by_its_own config) → ⊥
its_own config h = none-some 1 (sym (h (first_issued config ++ response_read 0) [] (lines.Broken 1) refl))

okay_read : ◌≡◌ {A = Option Status} (status_of 0) (Some Okay)
okay_read = refl

pub otherwise : (config : Options) → AreRead (answered_otherwise config) → ⊥
otherwise config h = by_read (h (first_issued config ++ response_read 0) [] (lines.Answer 1 Error) refl)
  where
    by_read : IsRead (1 ∷ 0 ∷ 0 ∷ []) 1 Error → ⊥
    by_read is =
        let last : is.last ≡ 0 = cc (is.words) in
        let same : status_of 0 ≡ Some Error = sym (ap (λ (n : ℕ). status_of (n / 2 ^ 16)) last) ∙ is.status_is in
        absurd (cc)

pub unread : (config : Options) → AreRead (answered_unread config) → ⊥
unread config h = by_read (h (first_issued config) [] (lines.Answer 1 Okay) refl)
  where
    by_read : IsRead [] 1 Okay → ⊥
    by_read is = let words = is.words in absurd (cc)

pub further : (config : Options) → AreRead (read_further config) → ⊥
further config h = true≢false (h (first_issued config ++ response_read 0) [] (lines.Move (moves.FrontRead 2 19 0)) refl refl)
