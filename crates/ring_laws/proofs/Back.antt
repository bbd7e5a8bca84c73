-- A move of the back keeps the rules of the ring, at each of its stages.
use Rattle.std.proofs.Common.{◌≡◌, ℕ, ◌+◌, ◌-◌, length, take, drop, length-append, length-drop, ◌*◌, ◌%◌, ◌^◌, ◌<◌, ◌≤◌, ◌==◌, true, false, if◌then◌else◌, Bool, List, [], ◌∷◌, ◌++◌, refl, ap, sym, ◌∙◌, subst, append_assoc, arith}
use Rattle.std.specs.Prelude.{Option, Some, None, is_some, map, nat_lt, Result, Ok, Err}
use Rattle.std.specs.List.{AllByRecursion}
use Rattle.std.proofs.lemmas.List.{append-nil, map-append, drop-append-le, take_all}
use Rattle.std.proofs.Math.Seq.{drop-append_seam}
use Rattle.std.proofs.lemmas.Bool.Decides.{nat_tests}
use Rattle.blk_base.specs.declared.operation.Abi.{Abi}
use Rattle.blk_base.specs.declared.operation.Abi.TheVariants.{X64, X32}
use Rattle.blk_base.specs.declared.parts.Mapping.{Mapping}
use Rattle.blk_base.specs.declared.parts.Mode.TheVariants.{ReadWrite}
use Rattle.blk_base.specs.declared.ask.BackAnswer.{BackAnswer}
use Rattle.blk_base.specs.declared.ask.BackAnswer.TheVariants as answers
use Rattle.blk_base.specs.declared.moves.BackMover.TheVariants as back
use Rattle.blk_base.specs.declared.moves.Move.{Move}
use Rattle.blk_base.specs.declared.moves.Move.TheVariants as moves
use Rattle.grant_table.specs.declared.entry.MapRefusal.{MapRefusal}
use Rattle.grant_table.specs.Entry.{status_of}
use Rattle.event_channel.specs.declared.channels.PortState.{PortState}
use Rattle.event_channel.specs.declared.channels.PortState.TheVariants as port
use Rattle.hypervisor.specs.Hypervisor.{Hypervisor}
use Rattle.hypervisor.specs.Act.{BackAct, map_act, bind_act}
use Rattle.ring_words.specs.Ring.{next_of, requests_of}
use Rattle.ring_words.specs.Shape.{entry_words_of}
use Rattle.schedule_text.specs.declared.line.Line.{Line}
use Rattle.schedule_text.specs.declared.line.Line.TheVariants as lines
use Rattle.report_rules.specs.declared.standing.Standing.{Standing}
use Rattle.blk_base.specs.declared.halt.Halt.{Halt}
use Rattle.blk_base.specs.declared.halt.Halt.TheVariants as halt
use Rattle.blk_back.specs.declared.stage.BackStage.{BackStage}
use Rattle.blk_back.specs.declared.stage.BackStage.TheVariants as stage
use Rattle.blk_back.specs.View.{View, page_of, slot_page, slot_word}
use Rattle.blk_back.specs.Ask.{next_gref}
use Rattle.blk_back.specs.Step.{unbound, bound, looked, loop_word, fetched, step_at}
use Rattle.ring_laws.specs.Layout.{reads_protocol}
use Rattle.ring_laws.proofs.Lists.{AreApart, apart_push}
use Rattle.ring_laws.proofs.Sight.{is_other, other_touch, untouched_produced, untouched_word}
use Rattle.ring_laws.proofs.Shows.{Sight, Shows, shows_other, shows_open, shows_map}
use Rattle.ring_laws.proofs.ObeysRing.{ObeysRing, IsWhole, is_overrun, ring_more, shows_none, own_stretch, untouched_inside}
use Rattle.ring_laws.proofs.Pages.{number_told, number_of, AreEarlier}
use Rattle.ring_laws.proofs.Knows.{AreMapped, Waits, Serves, served_whole, IsOver, KnowsAt, Knows, BackGoes, halting, Follows}
use Rattle.ring_laws.proofs.Serving.{served_line, go_on, serve_other, serve_entry}
use Rattle.ring_laws.proofs.Looking.{looked_goes, seen_producer}
use Rattle.ring_laws.proofs.EntryWords.{none_whole}

-- an act, and what its answer makes of a back at a stage
abbrev pub Goes : ℕ → List ℕ → List Line → BackStage → View → BackAct → Type 0
Goes start values before s v a = BackGoes start values before v (step_at s v a.answer) a.answer a.shown

-- the back halts, for another reason than an overrun
pub halt_follows : (before : List Line) (new : View) (x : Sight) (h : Halt) (over : Bool) → new.halted ≡ Some h → is_overrun (lines.Halt h) ≡ false → Knows x new → IsWhole x → Shows before x → ObeysRing before x.start over → Follows x.start x.values (before ++ lines.Halt h ∷ []) new
halt_follows before new x h over halted plain knows whole shows stands =
    let line : Line = lines.Halt h in
    let more : ObeysRing (before ++ line ∷ []) x.start true =
    ring_more before line x.start true (record { overruns = stands.overruns; stretches = stands.stretches; named = stands.named; last = stands.last; halted = λ overran. refl }) refl (shows_none before line refl) (λ over. refl) plain (λ read. absurd (cc)) (λ small. own_stretch before line x shows whole refl tt) in
    record {
      sight = x;
      begun = refl;
      more = [];
      grown = sym (append-nil x.values);
      shows = shows_other before line x refl refl shows;
      knows = knows;
      stands = subst (λ (o : Option Halt). ObeysRing (before ++ line ∷ []) x.start (is_some o)) (sym halted) more;
    }

-- it does so at a move that touches no word, as long as it ran
halts_by : (before : List Line) (old new : View) (answer : BackAnswer) (shown : Move) (x : Sight) (h : Halt) → old.halted ≡ None → new.told ≡ None → new.halted ≡ Some h → is_overrun (lines.Halt h) ≡ false → Knows x new → IsWhole x → is_other (lines.Move shown) ≡ true → reads_protocol (lines.Move shown) ≡ false
    → Shows before x → ObeysRing before x.start (is_some old.halted) → BackGoes x.start x.values before old new answer shown
halts_by before old new answer shown x h running told halted plain knows whole other unnamed shows stands =
    let still = other_touch (lines.Move shown) other in
    let one : ObeysRing (before ++ lines.Move shown ∷ []) x.start (is_some old.halted) = served_line before x old.halted shown running stands (shows_none before (lines.Move shown) (untouched_produced before (lines.Move shown) still)) unnamed
    (λ small. own_stretch before (lines.Move shown) x shows whole (untouched_word before (lines.Move shown) still) (untouched_inside before (lines.Move shown) still)) in
    halting x.start x.values before old new answer shown h told running halted
    (subst (λ (ls : List Line). Follows x.start x.values ls new) (append_assoc before (lines.Move shown ∷ []) (lines.Halt h ∷ []))
    (halt_follows (before ++ lines.Move shown ∷ []) new x h (is_some old.halted) halted plain knows whole (shows_other before (lines.Move shown) x other unnamed shows) one))

-- the pages are unmapped, whichever are left
pub unbound_knows : (pages : List Mapping) (x : Sight) (v : View) → IsOver x v.halted → KnowsAt (unbound pages) x v
unbound_knows [] x v o = o
unbound_knows (page ∷ pages) x v o = o

pub bound_knows : (pages : List Mapping) (x : Sight) (v : View) → IsOver x v.halted → KnowsAt (bound pages) x v
bound_knows [] x v o = o
bound_knows (page ∷ pages) x v o = o

-- one page more is mapped
one_more : (told : List Standing) (pages : List Mapping) (standing : Standing) (page : Mapping) → AreMapped told pages → standing.number ≡ page.number → AllByRecursion (λ (n : ℕ). n < page.number) (map number_of pages) → AreMapped (told ++ standing ∷ []) (pages ++ page ∷ [])
one_more told pages standing page m same earlier =
    let split : map number_of (pages ++ page ∷ []) ≡ map number_of pages ++ page.number ∷ [] = map-append number_of pages (page ∷ []) in
    record {
      same = map-append number_told told (standing ∷ []) ∙ (ap (λ (ns : List ℕ). ns ++ standing.number ∷ []) m.same ∙ (ap (λ (n : ℕ). map number_of pages ++ n ∷ []) same ∙ sym split));
      apart = subst AreApart (sym split) (apart_push (map number_of pages) page.number m.apart earlier);
    }

-- the back maps a page of the ring
pub map_goes : (before : List Line) (h : Hypervisor) (v : View) (x : Sight) (verdict : Result ℕ MapRefusal) → AreEarlier h.grants.made v.pages → KnowsAt stage.MapRing x v → Shows before x → ObeysRing before x.start (is_some v.halted) → v.told ≡ None
    → Goes x.start x.values before stage.MapRing v (map_act h back.Back (next_gref v) ReadWrite verdict)
map_goes before h v x (Ok frame) earlier m shows stands told = by_last (nat_lt (length v.pages + 1) (length v.grefs)) refl
  where
    gref : ℕ
    gref = next_gref v

    shown : Move
    shown = moves.Map back.Back gref ReadWrite (h.grants.made + 1) frame

    page : Mapping
    page = record { number = h.grants.made + 1; gref = gref; mode = ReadWrite }

    told_pages : List Standing
    told_pages = x.pages ++ record { number = h.grants.made + 1; gref = gref; mode = ReadWrite; frame = frame } ∷ []

    w : Waits x v.ring.indices v.ring.seen v.halted v.fetched
    w = m.waits

    now : Shows (before ++ lines.Move shown ∷ []) (record x { pages = told_pages })
    now = shows_map before gref (h.grants.made + 1) frame ReadWrite x w.untouched shows

    more : AreMapped told_pages (v.pages ++ page ∷ [])
    more = one_more x.pages v.pages (record { number = h.grants.made + 1; gref = gref; mode = ReadWrite; frame = frame }) page m.mapped refl earlier

    long : length (v.pages ++ page ∷ []) ≡ length v.pages + 1
    long = length-append v.pages (page ∷ [])

    line : ObeysRing (before ++ lines.Move shown ∷ []) x.start (is_some v.halted)
    line = served_line before x v.halted shown w.running stands (shows_none before (lines.Move shown) refl) refl (λ small. own_stretch before (lines.Move shown) x shows (none_whole x.abi x.words w.words) refl tt)

    some_words : (abi : Abi) → 0 < entry_words_of abi
    some_words X64 = omega arith
    some_words X32 = omega arith

    begun : (cons prod start : ℕ) → cons ≡ prod → start ≡ prod → start < 2 ^ 32 → cons ≡ (start + 0) % 2 ^ 32
    begun cons prod start p q small = omega arith

    by_last : (b : Bool) → nat_lt (length v.pages + 1) (length v.grefs) ≡ b → BackGoes x.start x.values before v (record v { pages = v.pages ++ page ∷ []; stage = if b then stage.MapRing else stage.Bind }) (answers.Mapped page) shown
    by_last true e =
        let each = m.each in
        let further : length v.pages + 1 < length v.grefs = grind (arith, nat_tests) in
        let many : length (v.pages ++ page ∷ []) ≡ length v.pages + 1 = long in
        go_on before v (record v { pages = v.pages ++ page ∷ []; stage = stage.MapRing }) (answers.Mapped page) shown x (record x { pages = told_pages }) [] told refl refl (sym (append-nil x.values)) now
        (record {
          waits = record { running = w.running; untouched = w.untouched; begins = w.begins; replied = w.replied; produced = w.produced; words = w.words; values = w.values; numbered = w.numbered };
          narrow = m.narrow;
          layout = m.layout;
          entries = m.entries;
          consumed = m.consumed;
          mapped = more;
          each = m.each;
          fewer = omega arith;
        }) line
    by_last false e =
        let each = m.each in
        let fewer = m.fewer in
        let last : length v.grefs ≤ length v.pages + 1 = grind (arith, nat_tests) in
        let many : length (v.pages ++ page ∷ []) ≡ length v.pages + 1 = long in
        go_on before v (record v { pages = v.pages ++ page ∷ []; stage = stage.Bind }) (answers.Mapped page) shown x (record x { pages = told_pages; touched = true }) [] told refl refl (sym (append-nil x.values)) (shows_open (before ++ lines.Move shown ∷ []) (record x { pages = told_pages }) now)
        (record {
          narrow = m.narrow;
          layout = m.layout;
          entries = m.entries;
          running = w.running;
          touched = refl;
          mapped = more;
          all = omega arith;
          replied = w.replied;
          produced = w.produced;
          count = 0;
          words = w.words ∙ omega arith;
          within = some_words v.shape.abi;
          consumed = λ small. begun v.ring.indices.cons v.ring.indices.prod x.start m.consumed w.begins small;
          long = ap (λ (vs : List ℕ). length vs) w.values ∙ sym w.words;
          numbered = w.numbered;
          copied = λ some. absurd (omega arith);
          copied_last = λ none some. absurd (omega arith);
        }) line
map_goes before h v x (Err refusal) earlier m shows stands told =
    let w : Waits x v.ring.indices v.ring.seen v.halted v.fetched = m.waits in
    let why : Halt = halt.MapRefused (next_gref v) (status_of refusal) in
    let whole : IsWhole x = none_whole x.abi x.words w.words in
    let new : View = record v { halted = Some (halt.MapRefused (next_gref v) (status_of refusal)); stage = unbound v.pages } in
    halts_by before v new _ (moves.MapRefused back.Back (next_gref v) ReadWrite (status_of refusal)) x why w.running told refl refl (unbound_knows v.pages x new (record { over = refl; whole = whole })) whole refl refl shows stands

bind_refused : (before : List Line) (v : View) (x : Sight) → Serves 0 x v → Shows before x → ObeysRing before x.start (is_some v.halted) → v.told ≡ None → BackGoes x.start x.values before v (step_at stage.Bind v answers.BindRefused) answers.BindRefused (moves.BindRefused v.ring.port)
bind_refused before v x s shows stands told =
    let whole : IsWhole x = served_whole x v s in
    let new : View = record v { halted = Some (halt.BadPort v.ring.port); stage = unbound v.pages } in
    halts_by before v new answers.BindRefused (moves.BindRefused v.ring.port) x (halt.BadPort v.ring.port) s.running told refl refl (unbound_knows v.pages x new (record { over = refl; whole = whole })) whole refl refl shows stands

pub bind_goes : (before : List Line) (h : Hypervisor) (v : View) (x : Sight) (state : PortState) → Serves 0 x v → Shows before x → ObeysRing before x.start (is_some v.halted) → v.told ≡ None → Goes x.start x.values before stage.Bind v (bind_act h v.ring.port state)
bind_goes before h v x port.Unbound s shows stands told = serve_other before v _ _ (moves.Bind v.ring.port) x s shows stands refl refl told refl s
bind_goes before h v x other s shows stands told = bind_refused before v x s shows stands told

-- one word more of an entry was read
read_on : (k word : ℕ) (x : Sight) (v : View) (now : List ℕ) → k + 1 < entry_words_of v.shape.abi → (s : Serves k x v) → now ≡ drop (entry_words_of v.shape.abi * s.count) (x.values ++ word ∷ [])
    → Serves (k + 1) (record x { words = x.words + 1; values = x.values ++ word ∷ [] }) (record v { ring = record v.ring { entry = now } })
read_on k word x v now more s is = record {
  narrow = s.narrow;
  layout = s.layout;
  entries = s.entries;
  running = s.running;
  touched = s.touched;
  mapped = s.mapped;
  all = s.all;
  replied = s.replied;
  produced = s.produced;
  count = s.count;
  words = further x.words (entry_words_of v.shape.abi * s.count) s.words;
  within = more;
  consumed = s.consumed;
  long = length-append x.values (word ∷ []) ∙ ap (λ (n : ℕ). n + 1) s.long;
  numbered = s.numbered;
  copied = λ some. is;
  copied_last = λ none some. absurd (omega arith);
}
  where
    further : (words before : ℕ) → words ≡ before + k → words + 1 ≡ before + (k + 1)
    further words before e = omega arith

-- the first one
first_word : (word : ℕ) (x : Sight) (v : View) (s : Serves 0 x v) → word ∷ [] ≡ drop (entry_words_of v.shape.abi * s.count) (x.values ++ word ∷ [])
first_word word x v s =
    let long : entry_words_of v.shape.abi * s.count ≡ length x.values = sym (s.long ∙ (s.words ∙ omega arith)) in
    rw long (sym (drop-append_seam x.values (word ∷ [])))

-- and a later one
next_word : (k word : ℕ) (x : Sight) (v : View) (s : Serves k x v) → 0 < k → v.ring.entry ++ word ∷ [] ≡ drop (entry_words_of v.shape.abi * s.count) (x.values ++ word ∷ [])
next_word k word x v s some =
    let long = s.long in let words = s.words in
    let within : entry_words_of v.shape.abi * s.count ≤ length x.values = omega arith in
    ap (λ (ws : List ℕ). ws ++ word ∷ []) (s.copied some) ∙ sym (drop-append-le (entry_words_of v.shape.abi * s.count) x.values (word ∷ []) within)

-- the last word was read
read_all : (k word : ℕ) (x : Sight) (v : View) → k + 1 ≡ entry_words_of v.shape.abi → 1 ≤ k → Serves k x v
    → Serves 0 (record x { words = x.words + 1; values = x.values ++ word ∷ [] }) (record v { ring = record v.ring { indices = record v.ring.indices { cons = next_of v.ring.indices.cons }; entry = v.ring.entry ++ word ∷ [] }; fetched = (v.fetched + 1) % 2 ^ 64 })
read_all k word x v last some s =
    let size : ℕ = entry_words_of v.shape.abi in
    let long : length (x.values ++ word ∷ []) ≡ x.words + 1 = length-append x.values (word ∷ []) ∙ ap (λ (n : ℕ). n + 1) s.long in
    let words = s.words in
    let here : v.ring.entry ++ word ∷ [] ≡ drop (entry_words_of v.shape.abi * s.count) (x.values ++ word ∷ []) = next_word k word x v s some in
    let dropped = length-drop (entry_words_of v.shape.abi * s.count) (x.values ++ word ∷ []) in
    let short : length (drop (entry_words_of v.shape.abi * s.count) (x.values ++ word ∷ [])) ≤ entry_words_of v.shape.abi = omega arith in
    let at : s.count ≡ s.count + 1 - 1 = omega arith in
    record {
      narrow = s.narrow;
      layout = s.layout;
      entries = s.entries;
      running = s.running;
      touched = s.touched;
      mapped = s.mapped;
      all = s.all;
      replied = s.replied;
      produced = s.produced;
      count = s.count + 1;
      words = full v.shape.abi x.words s.count s.words last;
      within = omega arith;
      consumed = λ small. next x.start s.count v.ring.indices.cons (s.consumed small);
      long = long;
      numbered = next_number v.fetched s.count s.numbered;
      copied = λ some. absurd (omega arith);
      copied_last = λ none some. here ∙ (sym (take_all size (drop (size * s.count) (x.values ++ word ∷ [])) short) ∙ ap (λ (n : ℕ). take size (drop (size * n) (x.values ++ word ∷ []))) at);
    }
  where
    full : (abi : Abi) (words count : ℕ) → words ≡ entry_words_of abi * count + k → k + 1 ≡ entry_words_of abi → words + 1 ≡ entry_words_of abi * (count + 1) + 0
    full X64 words count e l = omega arith
    full X32 words count e l = omega arith

    next : (start count cons : ℕ) → cons ≡ (start + count) % 2 ^ 32 → (cons + 1) % 2 ^ 32 ≡ (start + (count + 1)) % 2 ^ 32
    next start count cons e = omega arith

    next_number : (n count : ℕ) → n ≡ count % 2 ^ 64 → (n + 1) % 2 ^ 64 ≡ (count + 1) % 2 ^ 64
    next_number n count e = omega arith

pub fetch_goes : (before : List Line) (v : View) (frame k word : ℕ) (answer : BackAnswer) (x : Sight) (last : Bool) → (k + 1 == entry_words_of v.shape.abi) ≡ last → 1 ≤ k → Serves k x v → Shows before x → ObeysRing before x.start (is_some v.halted) → v.told ≡ None
    → (let page : Mapping = slot_page v v.ring.indices.cons k in BackGoes x.start x.values before v (if last then fetched v (v.ring.entry ++ word ∷ []) else record v { ring = record v.ring { entry = v.ring.entry ++ word ∷ [] }; stage = stage.Fetch (k + 1) }) answer (moves.Read back.Back page.number frame (slot_word v.shape v.ring.indices.cons k) word))
fetch_goes before v frame k word answer x true e begun s shows stands told =
    let is : k + 1 ≡ entry_words_of v.shape.abi = grind (arith, nat_tests) in
    serve_entry before v (fetched v (v.ring.entry ++ word ∷ [])) answer frame k word x s shows stands (λ none. absurd (omega arith)) told refl
    (read_all k word x v is begun s)
fetch_goes before v frame k word answer x false e begun s shows stands told =
    let more : k + 1 < entry_words_of v.shape.abi = further (entry_words_of v.shape.abi) k s.within e in
    serve_entry before v (record v { ring = record v.ring { entry = v.ring.entry ++ word ∷ [] }; stage = stage.Fetch (k + 1) }) answer frame k word x s shows stands (λ none. absurd (omega arith)) told refl
    (omega arith, read_on k word x v (v.ring.entry ++ word ∷ []) more s (next_word k word x v s begun))
  where
    further : (size n : ℕ) → n < size → (n + 1 == size) ≡ false → n + 1 < size
    further size n lt other = grind (arith, nat_tests)

-- in the loop: a look at the producer, or the first word of the next entry
pub word_goes : (before : List Line) (v : View) (frame word : ℕ) (answer : BackAnswer) (x : Sight) → (requests_of v.ring.indices v.ring.seen == 0) ≡ false → Serves 0 x v → Shows before x → ObeysRing before x.start (is_some v.halted) → v.told ≡ None
    → (let page : Mapping = slot_page v v.ring.indices.cons 0 in BackGoes x.start x.values before v (loop_word v word) answer (moves.Read back.Back page.number frame (slot_word v.shape v.ring.indices.cons 0) word))
word_goes before v frame word answer x some s shows stands told =
    let new : View = record v { ring = record v.ring { entry = word ∷ [] }; stage = stage.Fetch 1 } in
    let is : new ≡ loop_word v word = sym (ap (λ (b : Bool). if b then looked v word (record v { ring = record v.ring { seen = word }; stage = stage.StoreEvent }) else record v { ring = record v.ring { entry = word ∷ [] }; stage = stage.Fetch 1 }) some) in
    let page : Mapping = slot_page v v.ring.indices.cons 0 in
    subst (λ (w : View). BackGoes x.start x.values before v w answer (moves.Read back.Back page.number frame (slot_word v.shape v.ring.indices.cons 0) word)) is
    (serve_entry before v (record v { ring = record v.ring { entry = word ∷ [] }; stage = stage.Fetch 1 }) answer frame 0 word x s shows stands (λ none. above (requests_of v.ring.indices v.ring.seen) some) told refl
    (omega arith, read_on 0 word x v (word ∷ []) (two_words v.shape.abi) s (first_word word x v s)))
  where
    two_words : (abi : Abi) → 0 + 1 < entry_words_of abi
    two_words X64 = omega arith
    two_words X32 = omega arith

    above : (n : ℕ) → (n == 0) ≡ false → 0 < n
    above n other = grind (arith, nat_tests)

pub look_goes : (before : List Line) (v : View) (frame word : ℕ) (answer : BackAnswer) (x : Sight) → (requests_of v.ring.indices v.ring.seen == 0) ≡ true → Serves 0 x v → Shows before x → ObeysRing before x.start (is_some v.halted) → v.told ≡ None
    → (let page : Mapping = page_of v 0 in BackGoes x.start x.values before v (loop_word v word) answer (moves.Read back.Back page.number frame 0 word))
look_goes before v frame word answer x none s shows stands told =
    let is : looked v word (record v { ring = record v.ring { seen = word }; stage = stage.StoreEvent }) ≡ loop_word v word = sym (ap (λ (b : Bool). if b then looked v word (record v { ring = record v.ring { seen = word }; stage = stage.StoreEvent }) else record v { ring = record v.ring { entry = word ∷ [] }; stage = stage.Fetch 1 }) none) in
    let page : Mapping = page_of v 0 in
    subst (λ (w : View). BackGoes x.start x.values before v w answer (moves.Read back.Back page.number frame 0 word)) is
    (looked_goes before v (record v { ring = record v.ring { seen = word }; stage = stage.StoreEvent }) answer frame word x s shows stands told told refl (seen_producer word x v s))
