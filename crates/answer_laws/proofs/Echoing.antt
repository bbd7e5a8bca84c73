-- The last line that echoes a schedule which ends with `settle`: no submission stands after it.
use Rattle.std.proofs.Common.{◌≡◌, ℕ, Bool, true, false, true≢false, cond, List, [], ◌∷◌, ◌++◌, refl, ap, sym, ◌∙◌, arith, append_assoc}
use Rattle.std.specs.Prelude.{filter}
use Rattle.std.proofs.lemmas.List.{append-nil}
use Rattle.std.proofs.lemmas.List.Sums.{sum_by-cons, sum_by-append}
use Rattle.blk_base.specs.Options.{Options}
use Rattle.schedule_text.specs.declared.event.Event.{Event}
use Rattle.schedule_text.specs.declared.event.Event.TheVariants.{Settle}
use Rattle.schedule_text.specs.declared.line.Detail.{Detail}
use Rattle.schedule_text.specs.declared.line.Line.{Line}
use Rattle.schedule_text.specs.declared.line.Line.TheVariants as lines
use Rattle.plain_disk.specs.Echo.{is_echo, AnswersSettle, AnswersAll, Echoes}
use Rattle.answer_laws.specs.Counts.{is_submission, submissions_in}

-- the answers to a schedule that ends with `settle` end with the answer to that
record EndsSettled (answers : List Line) : Type 0 where
  earlier : List Line
  last : Line
  split : answers ≡ earlier ++ last ∷ []
  settles : AnswersSettle last

further : (first rest answers : List Line) → answers ≡ first ++ rest → EndsSettled rest → EndsSettled answers
further first rest answers e h = record {
  earlier = first ++ h.earlier;
  last = h.last;
  split = e ∙ (ap (λ (xs : List Line). first ++ xs) h.split ∙ sym (append_assoc first h.earlier (h.last ∷ [])));
  settles = h.settles;
}

ends_settled : (order : ℕ) (events : List Event) (answers : List Line) → AnswersAll order (events ++ Settle ∷ []) answers → EndsSettled answers
ends_settled order [] answers h = record {
  earlier = [];
  last = h.3.0;
  split = h.2 ∙ (ap (λ (xs : List Line). h.0 ++ xs) h.4 ∙ (append-nil h.0 ∙ h.3.1));
  settles = h.3.2;
}
ends_settled order (event ∷ events) answers h = further h.0 h.1 answers h.2 (ends_settled order events h.1 h.4)

-- a list whose last element that passes a test is this one
record LastPasses (p : Line → Bool) (report : List Line) (last : Line) : Type 0 where
  before : List Line
  rest : List Line
  split : report ≡ before ++ last ∷ rest
  none : filter p rest ≡ []

last_of : (p : Line → Bool) (report earlier : List Line) (last : Line) → filter p report ≡ earlier ++ last ∷ [] → LastPasses p report last
last_of p [] [] last e = absurd (cc)
last_of p [] (x ∷ earlier) last e = absurd (cc)
last_of p (line ∷ ls) earlier last e = by_test (p line) earlier e (λ xs f. last_of p ls xs last f)
  where
    later : LastPasses p ls last → LastPasses p (line ∷ ls) last
    later h = record { before = line ∷ h.before; rest = h.rest; split = ap (λ (xs : List Line). line ∷ xs) h.split; none = h.none }

    by_test : (b : Bool) (xs : List Line) → cond b (line ∷ filter p ls) (filter p ls) ≡ xs ++ last ∷ [] → ((ys : List Line) → filter p ls ≡ ys ++ last ∷ [] → LastPasses p ls last) → LastPasses p (line ∷ ls) last
    by_test false xs f more = later (more xs f)
    by_test true [] f more = record { before = []; rest = ls; split = ap (λ (x : Line). x ∷ ls) (let is : line ≡ last = cc in is); none = cc }
    by_test true (x ∷ xs) f more = later (more xs (cc))

-- where no line is an echo none is a submission
no_submission : (line : Line) → is_echo line ≡ false → is_submission line ≡ false
no_submission (lines.Submit id submission) e = absurd (true≢false e)
no_submission line e = refl

none_submitted : (ls : List Line) → filter is_echo ls ≡ [] → submissions_in ls ≡ 0
none_submitted [] e = refl
none_submitted (line ∷ ls) e = by_test (is_echo line) refl e (λ f. none_submitted ls f)
  where
    by_test : (b : Bool) → is_echo line ≡ b → cond b (line ∷ filter is_echo ls) (filter is_echo ls) ≡ [] → (filter is_echo ls ≡ [] → submissions_in ls ≡ 0) → submissions_in (line ∷ ls) ≡ 0
    by_test true t f more = absurd (cc)
    by_test false t f more =
        let both = sum_by-cons (λ (l : Line). cond (is_submission l) 1 0) line ls in
        let one : ◌≡◌ {A = ℕ} (cond (is_submission line) 1 0) 0 = ap (λ (b : Bool). cond b 1 0) (no_submission line t) in
        let rest = more f in
        omega arith

-- the report has that answer, and no submission after it
pub record SettlesLast (report : List Line) : Type 0 where
  pub before : List Line
  pub last : Line
  pub rest : List Line
  pub split : report ≡ before ++ last ∷ rest
  pub settles : AnswersSettle last
  pub none : submissions_in rest ≡ 0

pub settles_last : (options : Options) (detail : Detail) (events : List Event) (report : List Line) → Echoes options detail (events ++ Settle ∷ []) report → SettlesLast report
settles_last options detail events report echo =
    let ends = ends_settled options.order events (filter is_echo echo.2.0) echo.2.2 in
    let last = last_of is_echo echo.2.0 ends.earlier ends.last ends.split in
    let both = sum_by-append (λ (l : Line). cond (is_submission l) 1 0) last.rest (lines.End ∷ []) in
    let none = none_submitted last.rest last.none in
    record {
      before = lines.Begin options detail ∷ last.before;
      last = ends.last;
      rest = last.rest ++ lines.End ∷ [];
      split =
          echo.1
          ∙ (ap (λ (xs : List Line). xs ++ lines.End ∷ []) (echo.2.1 ∙ ap (λ (xs : List Line). lines.Begin options detail ∷ xs) last.split)
          ∙ append_assoc (lines.Begin options detail ∷ last.before) (ends.last ∷ last.rest) (lines.End ∷ []));
      settles = ends.settles;
      none = omega arith;
    }
