-- What the rules refuse.
use Rattle.std.proofs.Common.{◌≡◌, ℕ, zero, suc, ◌+◌, ◌*◌, ◌-◌, ◌/◌, ◌%◌, ◌^◌, ◌<◌, ◌≤◌, ◌⊎◌, inl, inr, List, [], ◌∷◌, ◌++◌, refl, ap, sym, ◌∙◌, subst, arith, true, true≢false, append-nil}
use Rattle.std.specs.List.{AllByRecursion}
use Rattle.std.proofs.lemmas.Nat.{pow_pos}
use Rattle.blk_base.specs.Options.{Options}
use Rattle.blk_base.specs.declared.moves.Move.TheVariants as moves
use Rattle.blk_base.specs.declared.parts.End.TheVariants as end
use Rattle.schedule_text.specs.declared.event.Event.{Event}
use Rattle.schedule_text.specs.declared.event.Event.TheVariants as events
use Rattle.schedule_text.specs.declared.line.Detail.{Detail}
use Rattle.schedule_text.specs.declared.line.Detail.TheVariants.{Moves}
use Rattle.blk_base.specs.declared.halt.Halt.TheVariants as halts
use Rattle.schedule_text.specs.declared.line.Line.{Line}
use Rattle.schedule_text.specs.declared.line.Line.TheVariants as lines
use Rattle.report_rules.specs.Value.{value_before}
use Rattle.vbd_laws.specs.Halts.{IsWorded}
use Rattle.event_laws.specs.Closing.{none_asked, asked_after}
use Rattle.event_laws.specs.Parts as by
use Rattle.event_laws.specs.Parts.{Part, shown_word, shown_words, IsDumped, IsPart, AreParts, IsByEvents}
use Rattle.event_laws.specs.Faults.{faults_in, IsRaised}
use Rattle.event_laws.specs.Wrong.{a_dump, empty_dump, one_fault, a_move, unplugged_unasked, a_close, gone_though_asked, a_job, closing_alone, a_front_close, asked_in_silence, a_front_move}

pub faultless : (count : ℕ) → count < 2 ^ 64 - 1 → IsRaised (faults_in one_fault) count count → ⊥
faultless count few h = at h.each
  where
    at : (count + 1 ≤ count) ⊎ (2 ^ 64 - 1 ≤ count) → ⊥
    at (inl more) = omega arith
    at (inr most) = omega arith

-- each line of a dump shows a word
abbrev IsWord : Line → Type 0
IsWord (lines.Word frame word value) = Unit {0}
IsWord line = ⊥

one_word : (place value : ℕ) (rest : List Line) → AllByRecursion IsWord rest → AllByRecursion IsWord (shown_word place value ++ rest)
one_word place zero rest all = all
one_word place (suc value) rest all = (tt, all)

all_words : (before : List Line) (place count : ℕ) → AllByRecursion IsWord (shown_words before place count)
all_words before place zero = tt
all_words before place (suc count) = one_word place (value_before before (2 + place / 1024) (place % 1024)) (shown_words before (place + 1) count) (all_words before (place + 1) count)

-- the front wrote the ring's first word
abbrev written : Line
written = lines.Move (moves.FrontWrite 2 0 1)

no_move : (shown : List Line) → AllByRecursion IsWord shown → shown ++ [] ≡ written ∷ [] → ⊥
no_move [] all e = cc
no_move (line ∷ rest) all e = let same : line ≡ lines.Move (moves.FrontWrite 2 0 1) = cc in subst IsWord same all.0

some_words : (config : Options) (size : ℕ) → 0 < size → [] ≡ shown_words (lines.Begin config Moves ∷ written ∷ []) 0 size → ⊥
some_words config zero some e = omega arith
some_words config (suc n) some e = cc

by_lines : (config : Options) (size : ℕ) (first second : List Line) → 0 < size → first ++ (second ++ []) ≡ written ∷ [] → second ≡ shown_words (lines.Begin config Moves ∷ first) 0 size → ⊥
by_lines config size [] second some all is = no_move second (subst (AllByRecursion IsWord) (sym is) (all_words (lines.Begin config Moves ∷ []) 0 size)) all
by_lines config size (x ∷ []) [] some all is =
    let same : x ≡ written = cc in
    some_words config size some (is ∙ ap (λ (l : Line). shown_words (lines.Begin config Moves ∷ l ∷ []) 0 size) same)
by_lines config size (x ∷ []) (y ∷ second) some all is = cc
by_lines config size (x ∷ y ∷ first) second some all is = cc

by_parts : (config : Options) (parts : List Part) → by.events_of parts ≡ a_dump → empty_dump config ≡ lines.Begin config Moves ∷ by.lines_of parts → AreParts config.order Moves none_asked (lines.Begin config Moves ∷ []) parts → ⊥
by_parts config [] e all each = cc
by_parts config (p ∷ []) e all each = cc
by_parts config (p ∷ q ∷ []) e all each =
    let is_dump : q.event ≡ events.Dump = cc in
    let both : p.lines ++ (q.lines ++ []) ≡ written ∷ [] = cc in
    let shown : q.lines ≡ shown_words (lines.Begin config Moves ∷ p.lines) 0 (1024 * 2 ^ config.order) =
    subst (λ (event : Event). IsDumped config.order (lines.Begin config Moves ∷ p.lines) event q.lines) is_dump (each.1.0.dumped refl) in
    let some : 0 < 2 ^ config.order = pow_pos config.order in
    by_lines config (1024 * 2 ^ config.order) p.lines q.lines (omega arith) both shown
by_parts config (p ∷ q ∷ r ∷ rest) e all each = cc

pub dumped : (config : Options) → IsByEvents config Moves a_dump (empty_dump config) → ⊥
dumped config h = by_parts config h.parts h.events h.lines h.each

-- a report of one event
one_part : (config : Options) (detail : Detail) (e : Event) (ls : List Line) → IsByEvents config detail (e ∷ []) (lines.Begin config detail ∷ ls)
    → IsPart config.order detail none_asked (lines.Begin config detail ∷ []) (record { event = e; lines = ls })
one_part config detail e ls h = by_them h.parts h.events h.lines h.each
  where
    by_them : (parts : List Part) → by.events_of parts ≡ e ∷ [] → lines.Begin config detail ∷ ls ≡ lines.Begin config detail ∷ by.lines_of parts → AreParts config.order detail none_asked (lines.Begin config detail ∷ []) parts
        → IsPart config.order detail none_asked (lines.Begin config detail ∷ []) (record { event = e; lines = ls })
    by_them [] is all each = absurd (cc)
    by_them (p ∷ []) is all each =
        let of_it : p.event ≡ e = cc in
        let shown : ls ≡ p.lines ++ [] = cc in
        subst (λ (q : Part). IsPart config.order detail none_asked (lines.Begin config detail ∷ []) q) (ap (λ (x : Event). record { event = x; lines = p.lines }) of_it ∙ ap (λ (l : List Line). record { event = e; lines = l }) (sym (append-nil p.lines) ∙ sym shown)) each.0
    by_them (p ∷ q ∷ rest) is all each = absurd (cc)

pub unplugged : (config : Options) (detail : Detail) → IsByEvents config detail a_move (unplugged_unasked config detail) → ⊥
unplugged config detail h =
    let is : IsPart config.order detail none_asked (lines.Begin config detail ∷ []) (record { event = events.Back 1; lines = lines.Halt (halts.Unplugged 5) ∷ [] }) = one_part config detail (events.Back 1) (lines.Halt (halts.Unplugged 5) ∷ []) h in
    true≢false (sym is.worded.0)

-- the halt is of the close or of the move after it
halt_first : (ls : List Line) → AllByRecursion (λ (line : Line). IsWorded true line) ls → (rest : List Line) → ls ++ rest ≡ lines.Halt (halts.Gone 5) ∷ [] → rest ≡ lines.Halt (halts.Gone 5) ∷ []
halt_first [] worded rest all = all
halt_first (line ∷ ls) worded rest all = let is : line ≡ lines.Halt (halts.Gone 5) = cc in absurd (true≢false (subst (λ (x : Line). IsWorded true x) is worded.0))

no_halt : (ls : List Line) → AllByRecursion (λ (line : Line). IsWorded true line) ls → ls ++ [] ≡ lines.Halt (halts.Gone 5) ∷ [] → ⊥
no_halt ls worded all = let none : [] ≡ lines.Halt (halts.Gone 5) ∷ [] = halt_first ls worded [] all in absurd (cc)

by_closing : (config : Options) (detail : Detail) (parts : List Part) → by.events_of parts ≡ a_close → gone_though_asked config detail ≡ lines.Begin config detail ∷ by.lines_of parts
    → AreParts config.order detail none_asked (lines.Begin config detail ∷ []) parts → ⊥
by_closing config detail [] e all each = cc
by_closing config detail (p ∷ []) e all each = cc
by_closing config detail (p ∷ q ∷ []) e all each =
    let first : p.event ≡ events.Close end.Back = cc in
    let second : q.event ≡ events.Back 1 = cc in
    let both : p.lines ++ (q.lines ++ []) ≡ lines.Halt (halts.Gone 5) ∷ [] = cc in
    let closes : AllByRecursion (λ (line : Line). IsWorded true line) p.lines =
    subst (λ (x : Event). AllByRecursion (λ (line : Line). IsWorded (asked_after none_asked x).unplug line) p.lines) first each.0.worded in
    let moves_so : AllByRecursion (λ (line : Line). IsWorded (asked_after (asked_after none_asked p.event) (events.Back 1)).unplug line) q.lines =
    subst (λ (x : Event). AllByRecursion (λ (line : Line). IsWorded (asked_after (asked_after none_asked p.event) x).unplug line) q.lines) second each.1.0.worded in
    let goes : AllByRecursion (λ (line : Line). IsWorded true line) q.lines =
    subst (λ (x : Event). AllByRecursion (λ (line : Line). IsWorded (asked_after (asked_after none_asked x) (events.Back 1)).unplug line) q.lines) first moves_so in
    no_halt q.lines goes (halt_first p.lines closes (q.lines ++ []) both)
by_closing config detail (p ∷ q ∷ r ∷ rest) e all each = cc

pub gone : (config : Options) (detail : Detail) → IsByEvents config detail a_close (gone_though_asked config detail) → ⊥
gone config detail h = by_closing config detail h.parts h.events h.lines h.each

pub jobs : (config : Options) (detail : Detail) → IsByEvents config detail a_job (closing_alone config detail) → ⊥
jobs config detail h =
    let is : IsPart config.order detail none_asked (lines.Begin config detail ∷ []) (record { event = events.Job 1 1; lines = lines.Closing ∷ [] }) = one_part config detail (events.Job 1 1) (lines.Closing ∷ []) h in
    true≢false is.closing

pub silent : (config : Options) (detail : Detail) → IsByEvents config detail a_front_close (asked_in_silence config detail) → ⊥
silent config detail h =
    let is : IsPart config.order detail none_asked (lines.Begin config detail ∷ []) (record { event = events.Close end.Front; lines = [] }) = one_part config detail (events.Close end.Front) [] h in
    let none : [] ≡ lines.Closing ∷ [] = is.closing in absurd (cc)

pub unasked : (config : Options) (detail : Detail) → IsByEvents config detail a_front_move (closing_alone config detail) → ⊥
unasked config detail h =
    let is : IsPart config.order detail none_asked (lines.Begin config detail ∷ []) (record { event = events.Front 1; lines = lines.Closing ∷ [] }) = one_part config detail (events.Front 1) (lines.Closing ∷ []) h in
    true≢false (is.unasked refl refl)
