-- What a check keeps is what the readers of requests, of memory, of the ring and of jobs keep of the same lines.
use Rattle.std.proofs.Common.{◌≡◌, not, ◌||◌, Bool, true, false, if◌then◌else◌, List, [], ◌∷◌, ◌++◌, refl, sym, ap, subst, ◌∙◌, append_assoc, append-nil, true≢false}
use Rattle.std.proofs.lemmas.List.Sums.{fold-append}
use Rattle.schedule_text.specs.declared.line.Line.{Line}
use Rattle.plain_disk.specs.Honest.{is_honest}
use Rattle.report_rules.specs.Obeys.{Obeys}
use Rattle.request_check.specs.State as requests
use Rattle.memory_check.specs.State as memory
use Rattle.ring_check.specs.State as ring
use Rattle.job_check.specs.State as jobs
use Rattle.job_check.specs.Laws.{jobs_after}
use Rattle.job_check.proofs.Sees.{jobs_more}
use Rattle.checked_rules.specs.Lines.{shows_moves}
use Rattle.trace_check.specs.Outline.{outlined}
use Rattle.checked_rules.specs.Rules.{IsOrderAt}
use Rattle.trace_check.specs.Trace.{Trace, start, seen, trace_after}
use Rattle.trace_check.proofs.Outlines.{Outlines, none_outlined, outlined_more, shown_first}

-- the states of memory, ring and jobs
pub record Moves (before : List Line) (t : Trace) : Type 0 where
  pub memory : t.memory ≡ memory.state_after before
  pub ring : t.ring ≡ ring.state_of before
  pub jobs : t.jobs ≡ jobs_after before

pub record Follows (before : List Line) (t : Trace) : Type 0 where
  pub outline : Outlines before t.outline
  pub requests : t.outline.hostile ≡ false → t.requests ≡ requests.state_after before
  pub moves : t.outline.shown ≡ true → Moves before t

none_followed : Follows [] start
none_followed = record { outline = none_outlined; requests = λ e. refl; moves = λ e. absurd (true≢false (sym e)) }

requests_kept : (hostile : Bool) (old : Bool) (a b c d : requests.State) → hostile ≡ false → (old ≡ false → a ≡ b) → (hostile ≡ false → old ≡ false) → (a ≡ b → c ≡ d) → (if hostile then a else c) ≡ d
requests_kept true old a b c d e same before more = absurd (true≢false e)
requests_kept false old a b c d e same before more = more (same (before refl))

one_hostile : (a b : Bool) → (a || b) ≡ false → a ≡ false
one_hostile true b e = absurd (true≢false e)
one_hostile false b e = refl

requests_more : (before : List Line) (line : Line) (t : Trace) → Follows before t → (seen t line).outline.hostile ≡ false → (seen t line).requests ≡ requests.state_after (before ++ line ∷ [])
requests_more before line t f e =
    requests_kept (outlined t.outline line).hostile t.outline.hostile t.requests (requests.state_after before) (requests.seen t.requests line) (requests.state_after (before ++ line ∷ [])) e f.requests
    (λ h. one_hostile t.outline.hostile (not (is_honest line)) h)
    (λ same. ap (λ s. requests.seen s line) same ∙ sym (fold-append requests.seen requests.start before (line ∷ [])))

-- the line is followed where moves were shown before
moved_on : (before : List Line) (line : Line) (t : Trace) → Moves before t → (outlined t.outline line).shown ≡ true → Moves (before ++ line ∷ []) (seen t line)
moved_on before line t m shown = record {
  memory = rw shown (ap (λ s. memory.seen s line) m.memory ∙ sym (fold-append memory.seen memory.start before (line ∷ [])));
  ring = rw shown (ap (λ s. ring.seen s line) m.ring ∙ sym (fold-append ring.seen ring.no_lines before (line ∷ [])));
  jobs = rw shown (ap (λ s. jobs.seen s t.jobs line) m.ring ∙ (ap (λ s. jobs.seen (ring.state_of before) s line) m.jobs ∙ sym (jobs_more before line)));
}

shown_or : (a b : Bool) → (a || b) ≡ true → a ≡ false → b ≡ true
shown_or true b e none = absurd (true≢false none)
shown_or false b e none = e

moves_at : (before : List Line) (line : Line) (t : Trace) (was : Bool) → t.outline.shown ≡ was → Follows before t → (before ≡ [] → t ≡ start) → IsOrderAt before line → (seen t line).outline.shown ≡ true → Moves (before ++ line ∷ []) (seen t line)
moves_at before line t true is f begun order shown = moved_on before line t (f.moves is) shown
moves_at before line t false is f begun order shown =
    let first : before ≡ [] = shown_first before line order (sym f.outline.shown ∙ is) (shown_or t.outline.shown (shows_moves line) shown is) in
    let none : t ≡ start = begun first in
    moved_on before line t
    (record { memory = ap (λ (x : Trace). x.memory) none ∙ rw first refl; ring = ap (λ (x : Trace). x.ring) none ∙ rw first refl; jobs = ap (λ (x : Trace). x.jobs) none ∙ rw first refl })
    shown

pub follows_more : (before : List Line) (line : Line) (t : Trace) → Follows before t → (before ≡ [] → t ≡ start) → IsOrderAt before line → Follows (before ++ line ∷ []) (seen t line)
follows_more before line t f begun order = record {
  outline = outlined_more before line t.outline f.outline;
  requests = requests_more before line t f;
  moves = moves_at before line t t.outline.shown refl f begun order;
}

trace_more : (before : List Line) (line : Line) → trace_after (before ++ line ∷ []) ≡ seen (trace_after before) line
trace_more before line = fold-append seen start before (line ∷ [])

-- the lines taken on, one after another
from : (first rest : List Line) → Follows first (trace_after first) → Obeys IsOrderAt (first ++ rest) → Follows (first ++ rest) (trace_after (first ++ rest))
from first [] f order = subst (λ xs. Follows xs (trace_after xs)) (sym (append-nil first)) f
from first (line ∷ rest) f order =
    let next = subst (λ t. Follows (first ++ line ∷ []) t) (sym (trace_more first line)) (follows_more first line (trace_after first) f (λ none. ap trace_after none) (order first rest line refl)) in
    let same : (first ++ line ∷ []) ++ rest ≡ first ++ line ∷ rest = append_assoc first (line ∷ []) rest in
    subst (λ xs. Follows xs (trace_after xs)) same (from (first ++ line ∷ []) rest next (subst (λ xs. Obeys IsOrderAt xs) (sym same) order))

pub follows_all : (before : List Line) → Obeys IsOrderAt before → Follows before (trace_after before)
follows_all before order = from [] before none_followed order
