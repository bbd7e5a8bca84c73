-- The lines that a check has read, over plain variables.
use Rattle.std.proofs.Common.{◌≡◌, ℕ, ◌+◌, ◌<◌, ◌≤◌, inl, inr, ◌||◌, Bool, true, false, List, [], ◌∷◌, ◌++◌, length, Option, Some, None, refl, sym, ap, subst, ◌∙◌, arith, length-append, rules}
use Rattle.std.specs.Prelude.{Ok, Err}
use Rattle.std.proofs.lemmas.List.Sums.{fold-append}
use Rattle.schedule_text.specs.declared.line.Line.{Line}
use Rattle.schedule_text.specs.declared.line.Line.TheVariants as lines
use Rattle.schedule_text.specs.Range.{IsTextOf}
use Rattle.blk_io.specs.Outside.{SourceSeen, Rose}
use Rattle.report_rules.specs.Obeys.{Obeys}
use Rattle.report_rules.proofs.Obeys.{obeys_none, obeys_more, obeys_before}
use Rattle.report_lines.specs.Text.{BeginsWith, HasNoLineFeed}
use Rattle.report_lines.specs.Filling.{Ahead}
use Rattle.report_lines.specs.Giving.{unread, IsNext, Tells, IsNoLine, IsRoomSpent, GivesLine}
use Rattle.report_lines.specs.declared.reader.ReadStop.{ReadStop}
use Rattle.report_lines.specs.declared.reader.ReadStop.TheVariants as read
use Rattle.report_lines.proofs.Giving.{room_spent, unread_filled}
use Rattle.checked_rules.specs.declared.rule.Rule.{Rule}
use Rattle.trace_check.specs.declared.finding.Finding.TheVariants.{Broken}
use Rattle.checked_rules.specs.Lines.{is_end}
use Rattle.trace_check.specs.Trace.{Trace, start, seen, trace_after, broken_by}
use Rattle.checked_rules.specs.Rules.{IsOrderAt, KeepsAll}
use Rattle.trace_check.specs.Found.{EndsWell, IsBadAt, IsLong, IsFound, Finds, stop_at, finding_at}
use Rattle.trace_check.proofs.Premises.{in_order}
use Rattle.trace_check.proofs.Follows.{follows_all}
use Rattle.trace_check.proofs.Told.{rule_broken, told_none, told_broken}

-- these lines were read, where the source exposes its bytes
abbrev pub ReadsTo : List Line → Option (List ℕ) → Option (List ℕ) → Type 0
ReadsTo before None after = Unit {0}
ReadsTo before (Some bytes) after = (rest : List ℕ) × (after ≡ Some rest) × BeginsWith before bytes rest

-- a check has read the lines before the one of this number, and they keep all rules
pub record HasRead (limit number : ℕ) (a : Ahead) (trace : Trace) (s t : SourceSeen) : Type 0 where
  pub before : List Line
  pub kept : trace ≡ trace_after before
  pub keeps : Obeys KeepsAll before
  pub counted : number ≡ length before + 1
  pub lines : ReadsTo before s.left (unread a.bytes t.left)
  pub room : IsRoomSpent limit a.room s.left t.left
  pub fewer : length before + (a.room + length a.bytes) ≤ limit
  pub faults : t.faults ≡ s.faults

none_read : (s : Option (List ℕ)) → ReadsTo [] s (unread [] s)
none_read None = tt
none_read (Some bytes) = (bytes, refl, refl)

all_room : (limit : ℕ) (s : Option (List ℕ)) → IsRoomSpent limit limit s s
all_room limit None = tt
all_room limit (Some bytes) = omega arith

-- nothing was read
pub begun : (limit : ℕ) (s : SourceSeen) → HasRead limit 1 (record { bytes = []; room = limit }) start s s
begun limit s = record {
  before = [];
  kept = refl;
  keeps = obeys_none KeepsAll;
  counted = refl;
  lines = none_read s.left;
  room = all_room limit s.left;
  fewer = omega arith;
  faults = refl;
}

begins_more : (before : List Line) (line : Line) (bytes text rest more : List ℕ) → BeginsWith before bytes rest → rest ≡ text ++ (10 ∷ more) → IsTextOf line text → BeginsWith (before ++ line ∷ []) bytes more
begins_more [] line bytes text rest more read is said = (text, more, read ∙ is, said, refl)
begins_more (first ∷ before) line bytes text rest more read is said =
    (read.0, read.1, read.2, read.3, begins_more before line read.1 text rest more read.4 is said)

-- a line more was read
pub reads_more : (before : List Line) (line : Line) (s a b : Option (List ℕ)) → ReadsTo before s a → IsNext line a b → ReadsTo (before ++ line ∷ []) s b
reads_more before line None a b reads next = tt
reads_more before line (Some bytes) a b reads next =
    let n = subst (λ o. IsNext line o b) reads.1 next in
    (n.1, n.4, begins_more before line bytes n.0 reads.0 n.1 reads.2 n.2 n.3)

room_more : (limit room less : ℕ) (s t u : Option (List ℕ)) → IsRoomSpent limit room s t → IsRoomSpent room less t u → IsRoomSpent limit less s u
room_more limit room less None t u x y = tt
room_more limit room less (Some bytes) None u x y = absurd x
room_more limit room less (Some bytes) (Some left) None x y = absurd y
room_more limit room less (Some bytes) (Some left) (Some rest) x y = omega (arith, x, y)

kept_more : (before : List Line) (line : Line) → seen (trace_after before) line ≡ trace_after (before ++ line ∷ [])
kept_more before line = sym (fold-append seen start before (line ∷ []))

-- one line further
pub further : (limit number : ℕ) (a b : Ahead) (trace next : Trace) (line : Line) (s t u : SourceSeen) → HasRead limit number a trace s t
    → GivesLine (Ok (Some line)) a b t u → broken_by trace line ≡ None → next ≡ seen trace line → HasRead limit (number + 1) b next s u
further limit number a b trace next line s t u h given none stepped =
    let long = length-append h.before (line ∷ []) in
    record {
      before = h.before ++ line ∷ [];
      kept = stepped ∙ ap (λ (x : Trace). seen x line) h.kept ∙ kept_more h.before line;
      keeps = obeys_more KeepsAll h.before line h.keeps (told_none h.before line h.keeps (ap (λ (x : Trace). broken_by x line) (sym h.kept) ∙ none));
      counted = omega (arith, long, h.counted);
      lines = reads_more h.before line s.left (unread a.bytes t.left) (unread b.bytes u.left) h.lines given.0;
      room = room_more limit a.room b.room s.left t.left u.left h.room given.2.room;
      fewer = omega (arith, long, h.fewer, given.2.fewer);
      faults = given.1 ∙ h.faults;
    }

some_is : (a b : List ℕ) → Some a ≡ Some b → a ≡ b
some_is a b e = cc

-- before what is left to be read there are no more bytes than may be taken
within : (limit room : ℕ) (bytes ahead rest : List ℕ) (t : Option (List ℕ)) → IsRoomSpent limit room (Some bytes) t → unread ahead t ≡ Some rest → length bytes ≤ limit + length rest
within limit room bytes ahead rest None spent left = absurd spent
within limit room bytes ahead rest (Some more) spent left =
    let same : length (ahead ++ more) ≡ length rest = ap length (some_is (ahead ++ more) rest left) in
    let sizes = length-append ahead more in
    omega (arith, spent, same, sizes)

broken_in : (limit number room : ℕ) (broken : Rule) (before : List Line) (line : Line) (ahead : List ℕ) (s a t : Option (List ℕ)) → Obeys KeepsAll before → number ≡ length before + 1 → rule_broken before line ≡ Some broken
    → ReadsTo before s a → IsNext line a (unread ahead t) → IsRoomSpent limit room s t → Tells (IsFound limit (Broken number broken)) s
broken_in limit number room broken before line ahead None a t keeps counted rule reads next spent = tt
broken_in limit number room broken before line ahead (Some bytes) a t keeps counted rule reads next spent =
    let more = reads_more before line (Some bytes) a (unread ahead t) reads next in
    inl (record { before = before; line = line; rest = more.0; read = more.2; kept = keeps; counted = counted; rule = told_broken before line broken keeps rule; within = within limit room bytes ahead more.0 t spent more.1 })

-- a line breaks a rule
pub finds_broken : (limit number : ℕ) (a b : Ahead) (trace : Trace) (line : Line) (broken : Rule) (s t u : SourceSeen) → HasRead limit number a trace s t
    → GivesLine (Ok (Some line)) a b t u → broken_by trace line ≡ Some broken → Finds limit (Ok (Broken number broken)) s u
finds_broken limit number a b trace line broken s t u h given rule =
    let spent = room_more limit a.room b.room s.left t.left u.left h.room given.2.room in (
      broken_in limit number b.room broken h.before line b.bytes s.left (unread a.bytes t.left) u.left h.keeps h.counted (ap (λ (x : Trace). broken_by x line) (sym h.kept) ∙ rule) h.lines given.0 spent,
      given.1 ∙ h.faults,
    )

-- a list is empty or has a last line
pub data Split (report : List Line) : Type 0 where
  empty : report ≡ [] → Split report
  ends : (before : List Line) (line : Line) → report ≡ before ++ line ∷ [] → Split report

pub split_of : (report : List Line) → Split report
split_of [] = empty refl
split_of (line ∷ later) = elim (split_of later) [
  | empty none ↦ ends [] line (ap (λ l. line ∷ l) none)
  | ends before last is ↦ ends (line ∷ before) last (ap (λ l. line ∷ l) is)
]

is_end_line : (line : Line) → is_end line ≡ true → line ≡ lines.End
is_end_line lines.End e = refl
is_end_line line e = absurd (cc)

ended_more : (before : List Line) (line : Line) → (trace_after (before ++ line ∷ [])).outline.ended ≡ ((trace_after before).outline.ended || is_end line)
ended_more before line = ap (λ (x : Trace). x.outline.ended) (sym (kept_more before line))

-- nothing comes after `end`
none_after : (before : List Line) (line : Line) → Obeys KeepsAll (before ++ line ∷ []) → (trace_after before).outline.ended ≡ false
none_after before line keeps =
    let order = in_order (before ++ line ∷ []) keeps in
    (follows_all before (obeys_before IsOrderAt before (line ∷ []) order)).outline.ended ∙ (order before [] line refl).ended

last_ends : (before : List Line) (line : Line) → (trace_after (before ++ line ∷ [])).outline.ended ≡ true → Obeys KeepsAll (before ++ line ∷ []) → line ≡ lines.End
last_ends before line ended keeps = is_end_line line (ap (λ x. x || is_end line) (sym (none_after before line keeps)) ∙ (sym (ended_more before line) ∙ ended))

pub ends_well : (report : List Line) → Obeys KeepsAll report → (trace_after report).outline.ended ≡ true → EndsWell report
ends_well report keeps ended = elim (split_of report) [
  | empty none ↦ absurd (search (rules, none, ended))
  | ends before line is ↦ (before, is ∙ ap (λ (l : Line). before ++ l ∷ []) (last_ends before line (subst (λ r. (trace_after r).outline.ended ≡ true) is ended) (subst (λ r. Obeys KeepsAll r) is keeps)))
]

or_true : (b : Bool) → (b || true) ≡ true
or_true true = refl
or_true false = refl

pub unended : (report : List Line) → (trace_after report).outline.ended ≡ false → EndsWell report → ⊥
unended report ended well =
    let e = subst (λ r. (trace_after r).outline.ended ≡ false) well.1 ended in
    absurd (search (rules, sym (or_true (trace_after well.0).outline.ended) ∙ (sym (ended_more well.0 lines.End) ∙ e)))

-- the source has come to its end
finding_in : (limit number : ℕ) (before : List Line) (ended : Bool) (s a : Option (List ℕ)) → Obeys KeepsAll before → number ≡ length before + 1 → (trace_after before).outline.ended ≡ ended
    → ReadsTo before s a → Tells (λ bytes. bytes ≡ []) a → ((bytes : List ℕ) → s ≡ Some bytes → length bytes < limit) → Tells (IsFound limit (finding_at number ended)) s
finding_in limit number before ended None a keeps counted is reads none fits = tt
finding_in limit number before true (Some bytes) a keeps counted is reads none fits =
    let end : reads.0 ≡ [] = subst (Tells (λ bytes. bytes ≡ [])) reads.1 none in
    (record { report = before; read = subst (BeginsWith before bytes) end reads.2; kept = keeps; ended = ends_well before keeps is }, fits bytes refl)
finding_in limit number before false (Some bytes) a keeps counted is reads none fits =
    let end : reads.0 ≡ [] = subst (Tells (λ bytes. bytes ≡ [])) reads.1 none in
    inr (
      record { report = before; text = record { read = subst (BeginsWith before bytes) end reads.2; kept = keeps; counted = counted }; unended = unended before is; rule = refl },
      fits bytes refl,
    )

-- the source has fewer bytes than may be taken where it has none left and more may be taken
fits_in : (limit room : ℕ) (s t : Option (List ℕ)) (ahead : List ℕ) → IsRoomSpent limit room s t → ahead ≡ [] → Tells (λ bytes. bytes ≡ []) (unread ahead t) → 0 < room → (bytes : List ℕ) → s ≡ Some bytes → length bytes < limit
fits_in limit room None t ahead spent none end some bytes is = absurd (search (rules, is))
fits_in limit room (Some all) None ahead spent none end some bytes is = absurd spent
fits_in limit room (Some all) (Some left) ahead spent none end some bytes is =
    let nothing : left ≡ [] = subst (λ x. x ++ left ≡ []) none end in
    let same : length all ≡ length bytes = search (rules, is) in
    let empty : length left ≡ 0 = ap length nothing in
    omega (arith, spent, same, empty, some)

pub finds_end : (limit number : ℕ) (a b : Ahead) (trace : Trace) (ended : Bool) (s t u : SourceSeen) → HasRead limit number a trace s t
    → GivesLine (Ok None) a b t u → ended ≡ trace.outline.ended → Finds limit (Ok (finding_at number ended)) s u
finds_end limit number a b trace ended s t u h given is = (
  finding_in limit number h.before ended s.left (unread a.bytes t.left) h.keeps h.counted (ap (λ (x : Trace). x.outline.ended) (sym h.kept) ∙ sym is) h.lines given.0 (fits_in limit a.room s.left t.left a.bytes h.room given.2 given.0 given.3),
  given.1 ∙ h.faults,
)

bad_in : (limit number room : ℕ) (before : List Line) (ahead : List ℕ) (s t : Option (List ℕ)) → Obeys KeepsAll before → number ≡ length before + 1
    → ReadsTo before s (unread ahead t) → Tells IsNoLine (unread ahead t) → IsRoomSpent limit room s t → Tells (IsBadAt limit number) s
bad_in limit number room before ahead None t keeps counted reads bad spent = tt
bad_in limit number room before ahead (Some bytes) t keeps counted reads bad spent =
    record { before = before; rest = reads.0; read = reads.2; kept = keeps; counted = counted; bad = subst (Tells IsNoLine) reads.1 bad; within = within limit room bytes ahead reads.0 t spent reads.1 }

long_in : (limit room : ℕ) (before : List Line) (part : List ℕ) (s t : Option (List ℕ)) → Obeys KeepsAll before → ReadsTo before s (unread part t)
    → HasNoLineFeed part → IsRoomSpent limit room s t → room ≡ 0 → Tells (IsLong limit) s
long_in limit room before part None t keeps reads unbroken spent none = tt
long_in limit room before part (Some bytes) None keeps reads unbroken spent none = absurd spent
long_in limit room before part (Some bytes) (Some left) keeps reads unbroken spent none =
    record {
      before = before;
      part = part;
      rest = left;
      read = subst (BeginsWith before bytes) (sym (some_is (part ++ left) reads.0 reads.1)) reads.2;
      kept = keeps;
      unbroken = unbroken;
      taken = omega (arith, spent, none);
    }

-- no line could be read
pub finds_stop : (limit number : ℕ) (a b : Ahead) (trace : Trace) (stop : ReadStop) (s t u : SourceSeen) → HasRead limit number a trace s t
    → GivesLine (Err stop) a b t u → Finds limit (Err (stop_at number stop)) s u
finds_stop limit number a b trace read.BadLine s t u h given = (bad_in limit number a.room h.before a.bytes s.left t.left h.keeps h.counted h.lines given.0 h.room, given.1 ∙ h.faults)
finds_stop limit number a b trace read.Source s t u h given = subst (λ n. Rose n u.faults) h.faults given
finds_stop limit number a b trace read.TooLong s t u h given =
    let spent = room_more limit a.room b.room s.left t.left u.left h.room (room_spent a.room b.room given.0.got t.left u.left given.0.room given.0.taken) in
    let same = unread_filled a.bytes b.bytes given.0.got t.left u.left given.0.ahead given.0.taken in
    (long_in limit b.room h.before b.bytes s.left u.left h.keeps (subst (ReadsTo h.before s.left) (sym same) h.lines) given.1.unbroken spent given.1.room, given.0.faults ∙ h.faults)
finds_stop limit number a b trace read.OutOfMemory s t u h given = given ∙ h.faults
