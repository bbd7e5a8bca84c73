-- The numbers that a trace answers are those that its lines tell as answered, and none of them stands there twice.
use Rattle.std.proofs.Common.{◌≡◌, ◌≢◌, ℕ, ◌==◌, ◌||◌, Bool, true, false, if◌then◌else◌, List, [], ◌∷◌, ◌++◌, length, refl, ap, ◌∙◌, subst}
use Rattle.std.specs.Prelude.{AllPairs, Option, Some, None}
use Rattle.std.proofs.Common.{append_assoc}
use Rattle.blk_base.specs.Options.{Options}
use Rattle.blk_base.specs.declared.operation.Status.{Status}
use Rattle.blk_base.specs.declared.ask.FrontAsk.{FrontAsk}
use Rattle.blk_base.specs.declared.ask.FrontAsk.TheVariants as ask
use Rattle.blk_base.specs.declared.ask.FrontAnswer.{FrontAnswer}
use Rattle.blk_base.specs.declared.ask.FrontAnswer.TheVariants as answer
use Rattle.blk_front.specs.declared.request.Request.{Request}
use Rattle.blk_front.specs.declared.state.FrontState.TheVariants as state
use Rattle.blk_front.specs.declared.told.Told.{Told}
use Rattle.blk_front.specs.declared.told.Told.TheVariants as told
use Rattle.blk_front.specs.View.{View, start_of}
use Rattle.front_laws.specs.History.{Happening, MayAllHappen, after, Line, Asked, Submitted, Entered, Suspended, trace_of}
use Rattle.front_laws.specs.Sight.{Sight, nothing_seen, is_of_grants, is_of_data, is_of_indices, numbered, response_id, response_status, response_taken, response_read, issue, pushed, wrote, read, grant_ended, moved, told_so, after_line, entry_id}
use Rattle.front_laws.specs.Answers.{number_in, numbers_answered, IsAnsweredOnce}
use Rattle.front_laws.specs.Laws.{IsRing}
use Rattle.front_laws.proofs.Changes.{once_of}
use Rattle.front_laws.proofs.Runs.{after_lines, runs_known, starts}

-- a move leaves what was answered
issue_leaves : (o : Option Request) (s : Sight) → (let x : Sight = issue o s in x.answered) ≡ s.answered
issue_leaves None s = refl
issue_leaves (Some r) s = refl

push_leaves : (produced : ℕ) (s : Sight) → (let x : Sight = pushed produced s in x.answered) ≡ s.answered
push_leaves produced s = by_same (produced == s.prod)
  where
    by_same : (b : Bool) → (let x : Sight = (if b then s else record (issue (numbered (entry_id s) s.submitted) s) { prod = produced; entry = [] }) in x.answered) ≡ s.answered
    by_same true = refl
    by_same false = issue_leaves (numbered (entry_id s) s.submitted) s

write_leaves : (f w value : ℕ) (s : Sight) → (let x : Sight = wrote f w value s in x.answered) ≡ s.answered
write_leaves f w value s = by_place (is_of_grants f || is_of_data f) (is_of_indices f w) (w == 0)
  where
    by_place : (b c d : Bool) → (let x : Sight = (if b then s else (if c then (if d then pushed value s else s) else record s { entry = s.entry ++ value ∷ [] })) in x.answered) ≡ s.answered
    by_place true c d = refl
    by_place false true true = push_leaves value s
    by_place false true false = refl
    by_place false false d = refl

take_leaves : (words : List ℕ) (o : Option Request) (st : Option Status) (s : Sight) → (let x : Sight = response_taken words o st s in x.answered) ≡ s.answered
take_leaves words None st s = refl
take_leaves words (Some r) None s = refl
take_leaves words (Some r) (Some status) s = refl

response_leaves : (words : List ℕ) (s : Sight) → (let x : Sight = response_read words s in x.answered) ≡ s.answered
response_leaves words s = by_three (length words == 3)
  where
    by_three : (b : Bool) → (let x : Sight = (if b then response_taken words (numbered (response_id words) s.issued) (response_status words) s else record s { response = words }) in x.answered) ≡ s.answered
    by_three true = take_leaves words (numbered (response_id words) s.issued) (response_status words) s
    by_three false = refl

read_leaves : (f w value : ℕ) (s : Sight) → (let x : Sight = read f w value s in x.answered) ≡ s.answered
read_leaves f w value s = by_place (is_of_grants f) (is_of_data f) (is_of_indices f w)
  where
    by_place : (b c d : Bool) → (let x : Sight = (if b then s else (if c then record s { words = s.words ++ value ∷ [] } else (if d then s else response_read (s.response ++ value ∷ []) s))) in x.answered) ≡ s.answered
    by_place true c d = refl
    by_place false true d = refl
    by_place false false true = refl
    by_place false false false = response_leaves (s.response ++ value ∷ []) s

move_leaves : (a : FrontAsk) (x : FrontAnswer) (s : Sight) → (let m : Sight = moved a x s in m.answered) ≡ s.answered
move_leaves (ask.Read frame word) (answer.Word value) s = read_leaves frame word value s
move_leaves (ask.Write frame word value) x s = write_leaves frame word value s
move_leaves (ask.Cas frame word old new) (answer.Word seen) s = by_same (seen == old)
  where
    by_same : (b : Bool) → (let m : Sight = (if b then record s { taken = grant_ended s.taken } else s) in m.answered) ≡ s.answered
    by_same true = refl
    by_same false = refl
move_leaves a x s = refl

-- what is told
none_more : (l : List ℕ) → l ≡ l ++ []
none_more [] = refl
none_more (n ∷ l) = ap (λ (m : List ℕ). n ∷ m) (none_more l)

told_adds : (o : Option Told) (s : Sight) → (let m : Sight = told_so o s in m.answered) ≡ s.answered ++ number_in o
told_adds None s = none_more s.answered
told_adds (Some (told.Answer id status)) s = refl
told_adds (Some (told.Sector id index words)) s = none_more s.answered
told_adds (Some (told.Broken word)) s = none_more s.answered

lines_add : (lines : List Line) (s : Sight) → (let m : Sight = after_lines s lines in m.answered) ≡ s.answered ++ numbers_answered lines
lines_add [] s = none_more s.answered
lines_add (Asked a x told ∷ lines) s =
    lines_add lines (after_line s (Asked a x told))
    ∙ (ap (λ (l : List ℕ). l ++ numbers_answered lines) (told_adds told (moved a x s) ∙ ap (λ (l : List ℕ). l ++ number_in told) (move_leaves a x s))
    ∙ append_assoc s.answered (number_in told) (numbers_answered lines))
lines_add (Submitted r ∷ lines) s = lines_add lines (after_line s (Submitted r))
lines_add (Entered (state.Agreed order) ∷ lines) s = lines_add lines (after_line s (Entered (state.Agreed order)))
lines_add (Entered st ∷ lines) s = lines_add lines s
lines_add (Suspended ∷ lines) s = lines_add lines (after_line s Suspended)

pub answers_once : (config : Options) (history : List Happening) → IsRing config → MayAllHappen history (start_of config) → IsAnsweredOnce (trace_of history (start_of config))
answers_once config history ring may =
    let v : View = after history (start_of config) in
    let s : Sight = after_lines (nothing_seen config) (trace_of history (start_of config)) in
    subst (λ (l : List ℕ). AllPairs (λ (m n : ℕ). m ≢ n) l) (lines_add (trace_of history (start_of config)) (nothing_seen config))
    (once_of v.stage s v (runs_known history (nothing_seen config) (start_of config) may (starts config ring)))
