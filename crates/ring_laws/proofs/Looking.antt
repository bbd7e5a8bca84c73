-- The back reads the requests' producer: it halts where that overran.
use Rattle.std.proofs.Common.{◌≡◌, ℕ, ◌==◌, true, false, if◌then◌else◌, Bool, List, [], ◌∷◌, ◌++◌, refl, ap, sym, ◌∙◌, subst, append_assoc, arith}
use Rattle.std.specs.Prelude.{Option, Some, None, is_some, nat_lt}
use Rattle.std.proofs.lemmas.List.{append-nil}
use Rattle.blk_base.specs.Distance.{distance_of}
use Rattle.blk_base.specs.declared.parts.Mapping.{Mapping}
use Rattle.blk_base.specs.declared.ask.BackAnswer.{BackAnswer}
use Rattle.blk_base.specs.declared.moves.BackMover.TheVariants as back
use Rattle.blk_base.specs.declared.moves.Move.{Move}
use Rattle.blk_base.specs.declared.moves.Move.TheVariants as moves
use Rattle.ring_words.specs.Ring.{overruns}
use Rattle.ring_words.specs.Shape.{entries_of}
use Rattle.schedule_text.specs.declared.line.Line.{Line}
use Rattle.schedule_text.specs.declared.line.Line.TheVariants as lines
use Rattle.report_rules.specs.Ring.{produced_shown, ring_order, replied_before}
use Rattle.report_rules.specs.Overrun.{overrun_of, overrun_by}
use Rattle.back_jobs.specs.Jobs.{first_mapping}
use Rattle.blk_base.specs.declared.halt.Halt.{Halt}
use Rattle.blk_base.specs.declared.halt.Halt.TheVariants as halt
use Rattle.blk_back.specs.declared.stage.BackStage.TheVariants as stage
use Rattle.blk_back.specs.View.{View, page_of}
use Rattle.blk_back.specs.Step.{unmapping_next, overrun, looked}
use Rattle.ring_laws.proofs.Shows.{Sight, Shows, shows_other}
use Rattle.ring_laws.proofs.Touches.{IsPage, shows_producer, low_word, produced_at}
use Rattle.ring_laws.proofs.Entry.{first_is, order_is}
use Rattle.ring_laws.proofs.ObeysRing.{ObeysRing, IsWhole, ring_overrun, own_stretch, word_inside}
use Rattle.ring_laws.proofs.Knows.{served_whole, Serves, IsOver, KnowsAt, Knows, BackGoes, halting}
use Rattle.ring_laws.proofs.Serving.{served_line, go_on, between}

-- what is unmapped next, once the back has halted
pub giving_knows : (m : Option Mapping) (x : Sight) (v : View) → IsOver x v.halted → KnowsAt (unmapping_next m) x v
giving_knows None x v o = o
giving_knows (Some m) x v o = o

-- the rule finds the overrun that the back finds
same_overrun : (before : List Line) (frame word : ℕ) (x : Sight) (v : View) (over : Bool) → Serves 0 x v → Shows before x → overruns v.ring.indices word ≡ over
    → (let page : Mapping = page_of v 0 in overrun_by before (lines.Move (moves.Read back.Back page.number frame 0 word)) ≡ (if over then Some (record { produced = word; replied = v.ring.indices.prod }) else None))
same_overrun before frame word x v over s shows e =
    let page : Mapping = page_of v 0 in
    let order : ring_order before ≡ Some v.shape.order = order_is before 0 x v shows s in
    let replied : replied_before before ≡ v.ring.indices.prod = shows.replied ∙ s.replied in
    let shown : produced_shown before (lines.Move (moves.Read back.Back page.number frame 0 word)) ≡ Some word = produced_at before x page.number frame word shows (first_is 0 x v s) in
    let test : nat_lt (entries_of v.shape.order) (distance_of v.ring.indices.prod word) ≡ over = ap (λ (n : ℕ). nat_lt n (distance_of v.ring.indices.prod word)) (sym s.entries) ∙ e in
    ap (λ (o : Option ℕ). overrun_of o (replied_before before) (produced_shown before (lines.Move (moves.Read back.Back page.number frame 0 word)))) order
    ∙ (ap (λ (n : ℕ). overrun_of (Some v.shape.order) n (produced_shown before (lines.Move (moves.Read back.Back page.number frame 0 word)))) replied
    ∙ (ap (λ (o : Option ℕ). overrun_of (Some v.shape.order) v.ring.indices.prod o) shown
    ∙ ap (λ (b : Bool). if b then Some (record { produced = word; replied = v.ring.indices.prod }) else None) test))

-- the lines of a back that serves, and the read of a producer that did not overrun
looked_on : (before : List Line) (old new : View) (answer : BackAnswer) (frame word : ℕ) (x : Sight) → Serves 0 x old → Shows before x → ObeysRing before x.start (is_some old.halted) → overruns old.ring.indices word ≡ false → new.told ≡ None → new.halted ≡ old.halted → Knows (record x { produced = word }) new
    → (let page : Mapping = page_of old 0 in BackGoes x.start x.values before old new answer (moves.Read back.Back page.number frame 0 word))
looked_on before old new answer frame word x s shows stands fine told halted knows =
    let page : Mapping = page_of old 0 in
    let is : IsPage page.number 0 x = first_is 0 x old s in
    let shown : Move = moves.Read back.Back page.number frame 0 word in
    go_on before old new answer shown x (record x { produced = word }) [] told halted refl (sym (append-nil x.values)) (shows_producer before x page.number frame word is shows) knows
    (served_line before x old.halted shown s.running stands (same_overrun before frame word x old false s shows fine) refl
    (λ small. between before shown x old s shows (low_word before x page.number 0 frame 0 word (omega arith) shows is) (word_inside before page.number 0 (omega arith))))

-- the same of one that did
looked_over : (before : List Line) (old : View) (answer : BackAnswer) (frame word : ℕ) (x : Sight) → Serves 0 x old → Shows before x → ObeysRing before x.start (is_some old.halted) → overruns old.ring.indices word ≡ true → old.told ≡ None
    → (let page : Mapping = page_of old 0 in BackGoes x.start x.values before old (overrun old word) answer (moves.Read back.Back page.number frame 0 word))
looked_over before old answer frame word x s shows stands over told =
    let page : Mapping = page_of old 0 in
    let is : IsPage page.number 0 x = first_is 0 x old s in
    let shown : Move = moves.Read back.Back page.number frame 0 word in
    let line : Line = lines.Move (moves.Read back.Back page.number frame 0 word) in
    let halt_line : Line = lines.Halt (halt.Overrun word old.ring.indices.prod) in
    let one : Shows (before ++ line ∷ []) (record x { produced = word }) = shows_producer before x page.number frame word is shows in
    let two : Shows ((before ++ line ∷ []) ++ halt_line ∷ []) (record x { produced = word }) = shows_other (before ++ line ∷ []) halt_line (record x { produced = word }) refl refl one in
    let whole : IsWhole x = served_whole x old s in
    let running : ObeysRing before x.start false = subst (λ (h : Option Halt). ObeysRing before x.start (is_some h)) s.running stands in
    halting x.start x.values before old (overrun old word) answer shown (halt.Overrun word old.ring.indices.prod) told s.running refl
    (record {
      sight = record x { produced = word };
      begun = refl;
      more = [];
      grown = sym (append-nil x.values);
      shows = subst (λ (ls : List Line). Shows ls (record x { produced = word })) (append_assoc before (line ∷ []) (halt_line ∷ [])) two;
      knows = giving_knows (first_mapping old.jobs.works) (record x { produced = word }) (overrun old word) (record { over = refl; whole = whole });
      stands = ring_overrun before line x.start word old.ring.indices.prod running refl (same_overrun before frame word x old true s shows over) refl (λ read. absurd (cc))
          (λ small. between before shown x old s shows (low_word before x page.number 0 frame 0 word (omega arith) shows is) (word_inside before page.number 0 (omega arith)))
          (λ small. own_stretch (before ++ line ∷ []) halt_line (record x { produced = word }) one whole refl tt);
    })

-- what a back that serves knows, once it saw the producer
pub seen_producer : (word : ℕ) (x : Sight) (v : View) → Serves 0 x v → Serves 0 (record x { produced = word }) (record v { ring = record v.ring { seen = word } })
seen_producer word x v s = record { narrow = s.narrow; layout = s.layout; entries = s.entries; running = s.running; touched = s.touched; mapped = s.mapped; all = s.all; replied = s.replied; produced = refl; count = s.count; words = s.words; within = s.within; consumed = s.consumed; long = s.long; numbered = s.numbered; copied = s.copied; copied_last = s.copied_last }

looked_at : (before : List Line) (old otherwise : View) (answer : BackAnswer) (frame word : ℕ) (x : Sight) (over same : Bool) → Serves 0 x old → Shows before x → ObeysRing before x.start (is_some old.halted) → overruns old.ring.indices word ≡ over → old.told ≡ None
    → otherwise.told ≡ None → otherwise.halted ≡ old.halted → Knows (record x { produced = word }) otherwise
    → (let page : Mapping = page_of old 0 in BackGoes x.start x.values before old (if over then overrun old word else (if same then otherwise else record old { ring = record old.ring { seen = word }; stage = stage.Loop })) answer (moves.Read back.Back page.number frame 0 word))
looked_at before old otherwise answer frame word x true same s shows stands e told other_told other_halted knows = looked_over before old answer frame word x s shows stands e told
looked_at before old otherwise answer frame word x false true s shows stands e told other_told other_halted knows = looked_on before old otherwise answer frame word x s shows stands e other_told other_halted knows
looked_at before old otherwise answer frame word x false false s shows stands e told other_told other_halted knows =
    looked_on before old (record old { ring = record old.ring { seen = word }; stage = stage.Loop }) answer frame word x s shows stands e told refl
    (seen_producer word x old s)

pub looked_goes : (before : List Line) (old otherwise : View) (answer : BackAnswer) (frame word : ℕ) (x : Sight) → Serves 0 x old → Shows before x → ObeysRing before x.start (is_some old.halted) → old.told ≡ None
    → otherwise.told ≡ None → otherwise.halted ≡ old.halted → Knows (record x { produced = word }) otherwise
    → (let page : Mapping = page_of old 0 in BackGoes x.start x.values before old (looked old word otherwise) answer (moves.Read back.Back page.number frame 0 word))
looked_goes before old otherwise answer frame word x s shows stands told other_told other_halted knows =
    looked_at before old otherwise answer frame word x (overruns old.ring.indices word) (word == old.ring.indices.cons) s shows stands refl told other_told other_halted knows
