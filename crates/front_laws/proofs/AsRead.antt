-- Each answer and each sector is told as it was read.
use Rattle.std.proofs.Common.{◌≡◌, ℕ, ◌+◌, ◌%◌, ◌==◌, ◌&&◌, ◌||◌, Bool, true, false, if◌then◌else◌, List, [], ◌∷◌, ◌++◌, length, refl, sym, subst, arith}
use Rattle.std.specs.Prelude.{Option, Some, None, nat_lt}
use Rattle.std.proofs.lemmas.Bool.Decides.{nat_tests}
use Rattle.blk_base.specs.Distance.{distance_of}
use Rattle.blk_base.specs.declared.operation.Status.{Status}
use Rattle.blk_base.specs.declared.ask.FrontAsk.{FrontAsk}
use Rattle.blk_base.specs.declared.ask.FrontAsk.TheVariants as ask
use Rattle.blk_base.specs.declared.ask.FrontAnswer.{FrontAnswer}
use Rattle.blk_base.specs.declared.ask.FrontAnswer.TheVariants as answer
use Rattle.blk_front.specs.declared.request.Request.{Request}
use Rattle.blk_front.specs.declared.state.FrontState.TheVariants as state
use Rattle.blk_front.specs.declared.told.Told.{Told}
use Rattle.blk_front.specs.declared.told.Told.TheVariants as told
use Rattle.blk_front.specs.Step.{is_mapped}
use Rattle.front_laws.specs.History.{Line, Asked, Submitted, Entered, Suspended}
use Rattle.front_laws.specs.Sight.{Sight, Taken, is_of_grants, is_of_data, is_of_indices, numbered, response_id, response_status, response_taken, response_read, grant_ended, issue, pushed, wrote, read, moved, told_so, after_line, entry_id}
use Rattle.front_laws.specs.Told.{told_of, told_of_word, told_of_response, told_after_response, told_of_end, told_of_data, IsToldWhereDue}
use Rattle.front_laws.specs.Answers.{IsReadAs, IsToldAsRead}
use Rattle.front_laws.proofs.Reading.{TakenIs, taken_reads}

-- what was taken stays, whatever is read or written beside a response
taken_issue : (o : Option Request) (s : Sight) → (let x : Sight = issue o s in x.taken) ≡ s.taken
taken_issue None s = refl
taken_issue (Some r) s = refl

taken_pushed : (produced : ℕ) (s : Sight) → (let x : Sight = pushed produced s in x.taken) ≡ s.taken
taken_pushed produced s = by_same (produced == s.prod)
  where
    by_same : (b : Bool) → (let x : Sight = (if b then s else record (issue (numbered (entry_id s) s.submitted) s) { prod = produced; entry = [] }) in x.taken) ≡ s.taken
    by_same true = refl
    by_same false = taken_issue (numbered (entry_id s) s.submitted) s

taken_wrote : (f w value : ℕ) (s : Sight) → (let x : Sight = wrote f w value s in x.taken) ≡ s.taken
taken_wrote f w value s = by_place (is_of_grants f || is_of_data f) (is_of_indices f w) (w == 0)
  where
    by_place : (b c d : Bool) → (let x : Sight = (if b then s else (if c then (if d then pushed value s else s) else record s { entry = s.entry ++ value ∷ [] })) in x.taken) ≡ s.taken
    by_place true c d = refl
    by_place false true true = taken_pushed value s
    by_place false true false = refl
    by_place false false d = refl

-- the words of a response are read: where it is taken, it is that of its words
module _ (s : Sight) (words : List ℕ) (was : TakenIs s.taken) where
  taken_found : (o : Option Request) (st : Option Status) → length words ≡ 3 → numbered (response_id words) s.issued ≡ o → response_status words ≡ st → (let x : Sight = response_taken words o st s in TakenIs x.taken)
  taken_found None st three found is = was
  taken_found (Some r) None three found is = was
  taken_found (Some r) (Some status) three found is = taken_reads words s.issued r status three found is

  taken_response : (let x : Sight = response_read words s in TakenIs x.taken)
  taken_response = by_three (length words == 3) refl
    where
      by_three : (b : Bool) → (length words == 3) ≡ b → (let x : Sight = (if b then response_taken words (numbered (response_id words) s.issued) (response_status words) s else record s { response = words }) in TakenIs x.taken)
      by_three true e = taken_found (numbered (response_id words) s.issued) (response_status words) (grind (arith, nat_tests)) refl refl
      by_three false e = was

  -- an answer is that of the words; a request without frames has none to end
  told_found : (o : Option Request) (st : Option Status) → length words ≡ 3 → numbered (response_id words) s.issued ≡ o → response_status words ≡ st → IsReadAs s (response_taken words o st s) (told_of_response words o st)
  told_found None st three found is = tt
  told_found (Some r) None three found is = tt
  told_found (Some r) (Some status) three found is = by_frames (length r.frames.items == 0) refl
    where
      by_frames : (b : Bool) → (length r.frames.items == 0) ≡ b → IsReadAs s (response_taken words (Some r) (Some status) s) (if b then Some (told.Answer r.number status) else None)
      by_frames true e = record {
        taken = record { words = words; request = r; status = status; ended = 0 };
        taken_is = refl;
        read = taken_reads words s.issued r status three found is;
        request = refl;
        ended = grind (arith, nat_tests);
      }
      by_frames false e = tt

  told_response : IsReadAs s (response_read words s) (told_after_response s words)
  told_response = by_three (length words == 3) refl
    where
      by_three : (b : Bool) → (length words == 3) ≡ b
          → IsReadAs s (if b then response_taken words (numbered (response_id words) s.issued) (response_status words) s else record s { response = words }) (if b then told_of_response words (numbered (response_id words) s.issued) (response_status words) else None)
      by_three true e = told_found (numbered (response_id words) s.issued) (response_status words) (grind (arith, nat_tests)) refl refl
      by_three false e = tt

taken_read : (f w value : ℕ) (s : Sight) → TakenIs s.taken → (let x : Sight = read f w value s in TakenIs x.taken)
taken_read f w value s was = by_place (is_of_grants f) (is_of_data f) (is_of_indices f w)
  where
    by_place : (b c d : Bool) → (let x : Sight = (if b then s else (if c then record s { words = s.words ++ value ∷ [] } else (if d then s else response_read (s.response ++ value ∷ []) s))) in TakenIs x.taken)
    by_place true c d = was
    by_place false true d = was
    by_place false false true = was
    by_place false false false = taken_response s (s.response ++ value ∷ []) was

taken_ended : (o : Option Taken) → TakenIs o → TakenIs (grant_ended o)
taken_ended None was = was
taken_ended (Some t) was = was

taken_moved : (a : FrontAsk) (x : FrontAnswer) (s : Sight) → TakenIs s.taken → (let m : Sight = moved a x s in TakenIs m.taken)
taken_moved (ask.Read frame word) (answer.Word value) s was = taken_read frame word value s was
taken_moved (ask.Write frame word value) x s was = subst TakenIs (sym (taken_wrote frame word value s)) was
taken_moved (ask.Cas frame word old new) (answer.Word seen) s was = by_same (seen == old)
  where
    by_same : (b : Bool) → (let m : Sight = (if b then record s { taken = grant_ended s.taken } else s) in TakenIs m.taken)
    by_same true = taken_ended s.taken was
    by_same false = was
taken_moved a x s was = was

taken_told : (o : Option Told) (s : Sight) → TakenIs s.taken → (let m : Sight = told_so o s in TakenIs m.taken)
taken_told None s was = was
taken_told (Some (told.Answer id status)) s was = tt
taken_told (Some (told.Sector id index words)) s was = was
taken_told (Some (told.Broken word)) s was = was

pub taken_kept : (s : Sight) (line : Line) → TakenIs s.taken → (let m : Sight = after_line s line in TakenIs m.taken)
taken_kept s (Asked a x told) was = taken_told told (moved a x s) (taken_moved a x s was)
taken_kept s (Submitted r) was = was
taken_kept s (Entered (state.Agreed order)) was = tt
taken_kept s (Entered st) was = was
taken_kept s Suspended was = tt

-- the words of a sector
read_data : (s m : Sight) (o : Option Request) (words : List ℕ) → s.telling ≡ o → m.words ≡ words → IsReadAs s m (told_of_data o s.sector words)
read_data s m None words is after = tt
read_data s m (Some r) words is after = by_length (length words == 128) refl
  where
    by_length : (b : Bool) → (length words == 128) ≡ b → IsReadAs s m (if b then Some (told.Sector r.number s.sector words) else None)
    by_length true e = record { request = r; telling = is; id_is = refl; index_is = refl; words_are = sym after; whole = grind (arith, nat_tests) }
    by_length false e = tt

unread : (b : Bool) (s m : Sight) (value : ℕ) → IsReadAs s m (if b then Some (told.Broken value) else None)
unread true s m value = tt
unread false s m value = tt

read_word : (s : Sight) (f w value : ℕ) → TakenIs s.taken → IsReadAs s (read f w value s) (told_of_word s f w value)
read_word s f w value was = by_place (is_of_grants f) (is_of_data f) (is_of_indices f w)
  where
    by_place : (b c d : Bool) → IsReadAs s (if b then s else (if c then record s { words = s.words ++ value ∷ [] } else (if d then s else response_read (s.response ++ value ∷ []) s)))
        (if b then (if (w % 2 == 0) && is_mapped value then Some (told.Broken value) else None)
        else (if c then told_of_data s.telling s.sector (s.words ++ value ∷ [])
        else (if d then (if (w == 2) && nat_lt (distance_of s.cons s.prod) (distance_of s.cons value) then Some (told.Broken value) else None)
        else told_after_response s (s.response ++ value ∷ []))))
    by_place true c d = unread ((w % 2 == 0) && is_mapped value) s s value
    by_place false true d = read_data s (record s { words = s.words ++ value ∷ [] }) s.telling (s.words ++ value ∷ []) refl refl
    by_place false false true = unread ((w == 2) && nat_lt (distance_of s.cons s.prod) (distance_of s.cons value)) s s value
    by_place false false false = told_response s (s.response ++ value ∷ []) was

-- the last grant is ended
read_end : (s : Sight) (o : Option Taken) → s.taken ≡ o → TakenIs o → IsReadAs s (record s { taken = grant_ended o }) (told_of_end o)
read_end s None is was = tt
read_end s (Some t) is was = by_last (t.ended + 1 == length t.request.frames.items) refl
  where
    by_last : (b : Bool) → (t.ended + 1 == length t.request.frames.items) ≡ b → IsReadAs s (record s { taken = Some (record t { ended = t.ended + 1 }) }) (if b then Some (told.Answer t.request.number t.status) else None)
    by_last true e = record { taken = record t { ended = t.ended + 1 }; taken_is = refl; read = was; request = refl; ended = grind (arith, nat_tests) }
    by_last false e = tt

read_so : (s : Sight) (a : FrontAsk) (x : FrontAnswer) → TakenIs s.taken → IsReadAs s (moved a x s) (told_of s a x)
read_so s (ask.Read frame word) (answer.Word value) was = read_word s frame word value was
read_so s (ask.Cas frame word old new) (answer.Word seen) was = by_same (seen == old)
  where
    by_same : (b : Bool) → IsReadAs s (if b then record s { taken = grant_ended s.taken } else s) (if b then told_of_end s.taken else Some (told.Broken seen))
    by_same true = read_end s s.taken refl was
    by_same false = tt
read_so s a x was = tt

pub told_as_read : (s : Sight) (line : Line) → TakenIs s.taken → IsToldWhereDue s line → IsToldAsRead s line
told_as_read s (Asked a x told) was due = subst (IsReadAs s (moved a x s)) (sym due) (read_so s a x was)
told_as_read s (Submitted r) was due = tt
told_as_read s (Entered st) was due = tt
told_as_read s Suspended was due = tt
