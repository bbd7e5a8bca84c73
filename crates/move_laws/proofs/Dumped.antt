-- A dump of the machine shows every word of the ring that isn't 0, whether mappings are kept or not.
use Rattle.std.proofs.Common.{◌≡◌, ℕ, zero, suc, ◌+◌, ◌*◌, ◌/◌, ◌%◌, ◌^◌, ◌≤◌, inl, inr, Bool, true, false, List, [], ◌∷◌, ◌++◌, refl, sym, ◌∙◌, subst, arith, append_assoc, true≢false}
use Rattle.std.specs.Prelude.{Option, Some, None, nat_lt, map}
use Rattle.std.specs.List.{AllByRecursion}
use Rattle.std.proofs.lemmas.Bool.Decides.{nat_tests}
use Rattle.std.proofs.lemmas.List.{append-nil}
use Rattle.std.proofs.lemmas.List.Sums.{fold-append}
use Rattle.blk_base.specs.Options.{Options}
use Rattle.blk_base.specs.declared.parts.End.TheVariants as end
use Rattle.xen_pages.specs.Pages.{word_of}
use Rattle.grant_table.specs.Table.{GrantTable}
use Rattle.schedule_text.specs.declared.line.Line.{Line}
use Rattle.schedule_text.specs.declared.line.Line.TheVariants as lines
use Rattle.schedule_text.specs.declared.line.Detail.{Detail}
use Rattle.report_rules.specs.Obeys.{Obeys}
use Rattle.report_rules.specs.Value.{value_before}
use Rattle.report_rules.proofs.Obeys.{obeys_none, obeys_more}
use Rattle.split_model.specs.World.{World, start_of}
use Rattle.split_model.specs.Keys.{TakesWatch}
use Rattle.split_model.specs.Happening.{Happening, Negotiates, Dumps, word_lines, ring_lines, lines_at}
use Rattle.split_model.specs.Kept.{KeepingHappening, Plainly, plainly_shows, happens_keeping, shows_keeping, lines_keeping, IsSafeKeeping}
use Rattle.split_model.specs.Report.{report_of, ended_report_of}
use Rattle.split_model.proofs.Kept.{kept_start, kept_happens}
use Rattle.blk_front.proofs.Shapes.{few_pages}
use Rattle.split_model.proofs.Showing.{MayShow}
use Rattle.move_laws.specs.Tells.{Tells}
use Rattle.move_laws.specs.Kept.{ArePermittedKeeping, AreWishedKeeping, report_keeping, ended_report_keeping}
use Rattle.move_laws.specs.Dumped.{place_in_ring, dump_after, dumped_to, AreZero, MayEnd, GoesOn, ComesTo, IsDumpedAt, AreWholeDumps, AreWished}
use Rattle.move_laws.proofs.Always.{always_within_keeping}
use Rattle.move_laws.proofs.KeptLines.{plainly_are, lines_keeping_are}
use Rattle.move_laws.proofs.Wished.{HasOrder, order_keeping}
use Rattle.move_laws.proofs.Still.{still, tells_still}
use Rattle.move_laws.proofs.Runs.{FollowsTo, follows_keeping, follows_begin, as_without}

abbrev pub is_word : Line → Bool
is_word (lines.Word frame word value) = true
is_word line = false

abbrev IsNoWord : Line → Type 0
IsNoWord line = is_word line ≡ false

-- the dumps so far show every word, and the last one is over
pub record AreDumped (size : ℕ) (before : List Line) : Type 0 where
  pub obeys : Obeys (IsDumpedAt size) before
  pub over : MayEnd size before (dumped_to before)

dumped_more : (before : List Line) (line : Line) → dumped_to (before ++ line ∷ []) ≡ dump_after (dumped_to before) line
dumped_more before line = fold-append dump_after None before (line ∷ [])

-- a line that shows no word ends a dump
other_allowed : (size : ℕ) (before : List Line) (line : Line) → IsNoWord line → MayEnd size before (dumped_to before) → IsDumpedAt size before line
other_allowed size before (lines.Word frame word value) wordless over = absurd (true≢false wordless)
other_allowed size before line wordless over = over

other_ends : (at : Option ℕ) (line : Line) → IsNoWord line → dump_after at line ≡ None
other_ends at (lines.Word frame word value) wordless = absurd (true≢false wordless)
other_ends at line wordless = refl

others : (size : ℕ) (more before : List Line) → AllByRecursion IsNoWord more → AreDumped size before → AreDumped size (before ++ more)
others size [] before none d = subst (λ (ls : List Line). AreDumped size ls) (sym (append-nil before)) d
others size (line ∷ more) before none d =
    subst (λ (ls : List Line). AreDumped size ls) (append_assoc before (line ∷ []) more)
    (others size more (before ++ line ∷ []) none.1 (record {
      obeys = obeys_more (IsDumpedAt size) before line d.obeys (other_allowed size before line none.0 d.over);
      over = rw (dumped_more before line ∙ other_ends (dumped_to before) line none.0) tt;
    }))

-- one word more that is 0
zero_more : (before : List Line) (first place : ℕ) → AreZero before first place → value_before before (2 + place / 1024) (place % 1024) ≡ 0 → AreZero before first (place + 1)
zero_more before first place zeros here p low below = by_test (nat_lt p place) refl
  where
    by_test : (b : Bool) → nat_lt p place ≡ b → value_before before (2 + p / 1024) (p % 1024) ≡ 0
    by_test true t = zeros p low (grind (arith, nat_tests))
    by_test false t = let same : place ≡ p = grind (arith, nat_tests) in subst (λ (q : ℕ). value_before before (2 + q / 1024) (q % 1024) ≡ 0) same here

comes_on : (size : ℕ) (before : List Line) (place : ℕ) → value_before before (2 + place / 1024) (place % 1024) ≡ 0 → ComesTo size before place → ComesTo size before (place + 1)
comes_on size before place here (inl goes) = inl (on (dumped_to before) goes)
  where
    on : (at : Option ℕ) → GoesOn before place at → GoesOn before (place + 1) at
    on None goes = goes
    on (Some next) goes = (let low = goes.0 in omega arith, zero_more before next place goes.1 here)
comes_on size before place here (inr begins) = inr (record { ended = begins.ended; first = zero_more before 0 place begins.first here })

comes_to_end : (size : ℕ) (before : List Line) → ComesTo size before size → MayEnd size before (dumped_to before)
comes_to_end size before (inl goes) = over (dumped_to before) goes
  where
    over : (at : Option ℕ) → GoesOn before size at → MayEnd size before at
    over None goes = absurd goes
    over (Some next) goes = goes.1
comes_to_end size before (inr begins) = begins.ended

-- the dump came to this place, and the lines tell the words that it shows
record Walks (size : ℕ) (pages : List ℕ) (table : GrantTable) (before : List Line) (place : ℕ) : Type 0 where
  tells : Tells before pages table
  obeys : Obeys (IsDumpedAt size) before
  comes : ComesTo size before place

-- a word is shown
shows_word : (size : ℕ) (pages : List ℕ) (table : GrantTable) (before : List Line) (place value : ℕ) → Walks size pages table before place
    → Walks size pages table (before ++ lines.Word (2 + place / 1024) (place % 1024) value ∷ []) (place + 1)
shows_word size pages table before place value w =
    let line = lines.Word (2 + place / 1024) (place % 1024) value in
    let here : place_in_ring (2 + place / 1024) (place % 1024) ≡ place = omega arith in
    record {
      tells = tells_still before line pages table (still line refl (λ f v x b. refl) (λ n. refl) refl) w.tells;
      obeys = obeys_more (IsDumpedAt size) before line w.obeys (subst (λ (p : ℕ). ComesTo size before p) (sym here) w.comes);
      comes = inl (rw (dumped_more before line, here) (omega arith, λ p low below. absurd (omega arith)));
    }

walk : (size : ℕ) (pages : List ℕ) (table : GrantTable) (place count : ℕ) → place + count ≡ size → size ≤ 16384 → (before : List Line)
    → Walks size pages table before place → AreDumped size (before ++ ring_lines pages place count)
walk size pages table place zero all small before w =
    subst (λ (ls : List Line). AreDumped size ls) (sym (append-nil before))
    (record { obeys = w.obeys; over = comes_to_end size before (let there : place ≡ size = omega arith in subst (λ (p : ℕ). ComesTo size before p) there w.comes) })
walk size pages table place (suc count) all small before w =
    by_value (λ ls v. walk size pages table (place + 1) count (omega arith) small ls v) (word_of pages (2 + place / 1024) (place % 1024))
    (sym (w.tells.values (2 + place / 1024) (place % 1024) (omega arith) (omega arith)))
  where
    by_value : ((ls : List Line) → Walks size pages table ls (place + 1) → AreDumped size (ls ++ ring_lines pages (place + 1) count))
        → (value : ℕ) → value ≡ value_before before (2 + place / 1024) (place % 1024) → AreDumped size (before ++ (word_lines place value ++ ring_lines pages (place + 1) count))
    by_value on zero is = on before (record { tells = w.tells; obeys = w.obeys; comes = comes_on size before place (sym is) w.comes })
    by_value on (suc value) is =
        let line = lines.Word (2 + place / 1024) (place % 1024) (suc value) in
        subst (λ (ls : List Line). AreDumped size ls) (append_assoc before (line ∷ []) (ring_lines pages (place + 1) count))
        (on (before ++ line ∷ []) (shows_word size pages table before place (suc value) w))

dump_shows : (order : ℕ) (w : World) (before : List Line) → order ≤ 4 → HasOrder order w → FollowsTo before w → AreDumped (1024 * 2 ^ order) before → AreDumped (1024 * 2 ^ order) (before ++ lines_at w Dumps)
dump_shows order w before narrow is follows d =
    let few = few_pages order narrow in
    subst (λ (n : ℕ). AreDumped (1024 * 2 ^ order) (before ++ ring_lines w.under.pages 0 (1024 * 2 ^ n))) (sym is)
    (walk (1024 * 2 ^ order) w.under.pages w.under.grants 0 (1024 * 2 ^ order) (omega arith) (omega arith) before
    (record { tells = follows.tells; obeys = d.obeys; comes = inr (record { ended = d.over; first = λ p low below. absurd (omega arith) }) }))

-- all others show no word of a dump
abbrev IsOther : Happening → Type 0
IsOther Dumps = ⊥
IsOther h = Unit {0}

wordless : (h : Happening) (line : Line) → IsOther h → MayShow h line → IsNoWord line
wordless Dumps line other shows = absurd other
wordless h (lines.Word frame word value) other shows = absurd shows
wordless h line other shows = refl

dumped_happens : (order : ℕ) (w : World) (h : KeepingHappening) (before : List Line) → order ≤ 4 → HasOrder order w → FollowsTo before w → AreDumped (1024 * 2 ^ order) before → AreDumped (1024 * 2 ^ order) (before ++ shows_keeping w h)
dumped_happens order w (Plainly Dumps) before narrow is f d = dump_shows order w before narrow is f d
dumped_happens order w (Plainly h) before narrow is f d = others (1024 * 2 ^ order) (plainly_shows w h) before (plainly_are IsNoWord w h (λ line shows. wordless h line tt shows)) d
dumped_happens order w h before narrow is f d = others (1024 * 2 ^ order) (shows_keeping w h) before (lines_keeping_are IsNoWord w h (λ line shows. wordless (Negotiates end.Back TakesWatch) line tt shows)) d

dumped_after : (order : ℕ) (hs : List KeepingHappening) (w : World) (before : List Line) → order ≤ 4 → AreWishedKeeping order hs → HasOrder order w → IsSafeKeeping w → ArePermittedKeeping hs w → FollowsTo before w → AreDumped (1024 * 2 ^ order) before
    → AreDumped (1024 * 2 ^ order) (before ++ lines_keeping hs w)
dumped_after order [] w before narrow wished is safe within f d = others (1024 * 2 ^ order) [] before tt d
dumped_after order (h ∷ hs) w before narrow wished is safe within f d =
    let next : World = happens_keeping w h in
    subst (λ (ls : List Line). AreDumped (1024 * 2 ^ order) ls) (append_assoc before (shows_keeping w h) (lines_keeping hs next))
    (dumped_after order hs next (before ++ shows_keeping w h) narrow wished.1 (order_keeping order w h wished.0 is) (kept_happens w h safe) within.1 (follows_keeping w h before safe.held within.0 f)
    (dumped_happens order w h before narrow is f d))

report_dumps : (config : Options) (detail : Detail) (history : List KeepingHappening) → config.order ≤ 4 → AreWishedKeeping config.order history → AreDumped (1024 * 2 ^ config.order) (report_keeping config detail history)
report_dumps config detail history narrow wished =
    let first = lines.Begin config detail in
    let size = 1024 * 2 ^ config.order in
    dumped_after config.order history (start_of config) (first ∷ []) narrow wished refl (kept_start config) (always_within_keeping config history narrow) (follows_begin config detail)
    (others size (first ∷ []) [] (refl, tt) (record { obeys = obeys_none (IsDumpedAt size); over = tt }))

pub report_dumped_keeping : (config : Options) (detail : Detail) (history : List KeepingHappening) → config.order ≤ 4 → AreWishedKeeping config.order history → AreWholeDumps config.order (report_keeping config detail history)
report_dumped_keeping config detail history narrow wished = (report_dumps config detail history narrow wished).obeys

pub ended_dumped_keeping : (config : Options) (detail : Detail) (history : List KeepingHappening) → config.order ≤ 4 → AreWishedKeeping config.order history → AreWholeDumps config.order (ended_report_keeping config detail history)
ended_dumped_keeping config detail history narrow wished = (others (1024 * 2 ^ config.order) (lines.End ∷ []) (report_keeping config detail history) (refl, tt) (report_dumps config detail history narrow wished)).obeys

-- a machine that keeps no mapping goes as this one
wished_as : (order : ℕ) (hs : List Happening) → AreWished order hs → AreWishedKeeping order (map Plainly hs)
wished_as order [] wished = tt
wished_as order (h ∷ hs) wished = (wished.0, wished_as order hs wished.1)

pub report_dumped : (config : Options) (detail : Detail) (history : List Happening) → config.order ≤ 4 → AreWished config.order history → AreWholeDumps config.order (report_of config detail history)
report_dumped config detail history narrow wished =
    subst (λ (ls : List Line). AreWholeDumps config.order (lines.Begin config detail ∷ ls)) (as_without config history).lines
    (report_dumped_keeping config detail (map Plainly history) narrow (wished_as config.order history wished))

pub ended_dumped : (config : Options) (detail : Detail) (history : List Happening) → config.order ≤ 4 → AreWished config.order history → AreWholeDumps config.order (ended_report_of config detail history)
ended_dumped config detail history narrow wished =
    subst (λ (ls : List Line). AreWholeDumps config.order ((lines.Begin config detail ∷ ls) ++ lines.End ∷ [])) (as_without config history).lines
    (ended_dumped_keeping config detail (map Plainly history) narrow (wished_as config.order history wished))
