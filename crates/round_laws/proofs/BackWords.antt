-- The back in the middle of an entry's words: what it asks after so many, and what one more makes of it.
use Rattle.std.proofs.Common.{◌≡◌, ℕ, suc, ◌+◌, ◌-◌, ◌<◌, Bool, true, false, if◌then◌else◌, List, [], ◌∷◌, ◌++◌, length, refl, sym, ap, ◌∙◌, subst, arith, append_assoc, length-append}
use Rattle.std.specs.Prelude.{Option, Some, None, IfSome, is_some, ◌==◌}
use Rattle.std.specs.Option.{IsSomeAnd}
use Rattle.std.proofs.Math.Nat.{min-le_left}
use Rattle.std.proofs.lemmas.Bool.{ne_eqb}
use Rattle.std.proofs.lemmas.Option.{none-some, same_Some}
use Rattle.blk_base.specs.declared.ask.BackAsk.TheVariants as ask
use Rattle.blk_base.specs.declared.ask.BackAnswer.TheVariants.{Word}
use Rattle.ring_words.specs.Shape.{entry_words_of}
use Rattle.back_jobs.specs.declared.part.SectorPart.{SectorPart as JobPart}
use Rattle.back_jobs.specs.Work.{Work}
use Rattle.back_jobs.specs.Part.{AsksEach, IsReadPart, words_read}
use Rattle.blk_back.specs.declared.stage.BackStage.{BackStage}
use Rattle.blk_back.specs.declared.stage.BackStage.TheVariants as stage
use Rattle.blk_back.specs.View as ring
use Rattle.blk_back.specs.View.{slot_word}
use Rattle.blk_back.specs.Step as ring_step
use Rattle.blk_back.specs.Keeping.{KeepsNone}
use Rattle.blk_back.specs.Part.{entry_from, entry_part_at, copied}
use Rattle.blk_back.proofs.EntryParts.{copies}
use Rattle.xenbus_state.specs.BackView.{BackView}
use Rattle.xenbus_state.specs.declared.back.BackBusAsk.{BackBusAsk}
use Rattle.vbd_back.specs.declared.turn.Turn.{Turn}
use Rattle.vbd_back.specs.declared.turn.Turn.TheVariants as turn
use Rattle.vbd_back.specs.View.{View, both}
use Rattle.vbd_back.specs.Ask.{ask_of, bus_ask_of}
use Rattle.vbd_back.specs.Step.{step_of, step_at, caught_up}
use Rattle.vbd_back.specs.Turn.{turn_of, turn_at}
use Rattle.vbd_back.specs.Part.{entry_part_by, entry_part, steps_of, asked_after}
use Rattle.vbd_back.specs.Keeping.{KeepingView, IsPlain, with_ring}
use Rattle.vbd_back.proofs.Turns.{waits, rests, open_asks}
use Rattle.vbd_back.proofs.EntryParts.{asks_each, came_to, plainly}
use Rattle.round_laws.specs.AtOnce.{with_jobs}

-- it copies an entry, at this word of it
pub record Copies (v : View) (p : JobPart) : Type 0 where
  pub k : ℕ
  pub stage : v.ring.stage ≡ stage.Fetch k
  pub turn : turn_of v ≡ turn.Ring
  pub from : p ≡ entry_from v.ring k
  pub runs : is_some v.ring.halted ≡ false

module _ (v : View) (p : JobPart) where
  at_stage : (s : BackStage) → v.ring.stage ≡ s → turn_of v ≡ turn.Ring → is_some v.ring.halted ≡ false → entry_part_at s v.ring ≡ Some p → Copies v p
  at_stage (stage.Fetch k) here t runs e = record { k = k; stage = here; turn = t; from = sym (same_Some (entry_from v.ring k) p e); runs = runs }
  at_stage s here t runs e = absurd (none-some p e)

  by_halt : (b : Bool) → is_some v.ring.halted ≡ b → turn_of v ≡ turn.Ring → (if b then None else entry_part_at v.ring.stage v.ring) ≡ Some p → Copies v p
  by_halt true halted t e = absurd (none-some p e)
  by_halt false runs t e = at_stage v.ring.stage refl t runs e

  by_turn : (t : Turn) → turn_of v ≡ t → entry_part_by t v ≡ Some p → Copies v p
  by_turn turn.Ring t e = by_halt (is_some v.ring.halted) refl t e
  by_turn u t e = absurd (none-some p e)

  pub copies_now : entry_part v ≡ Some p → Copies v p
  copies_now is = by_turn (turn_of v) refl is

-- its words are read
pub part_reads : (v : View) (p : JobPart) → entry_part v ≡ Some p → p.writes ≡ false
part_reads v p is = ap (λ (q : JobPart). q.writes) (copies_now v p is).from

module _ (v : View) (p : JobPart) (is : entry_part v ≡ Some p) (none : KeepsNone v.ring) where
  abbrev at : Copies v p
  at = copies_now v p is

  reads : p.writes ≡ false
  reads = part_reads v p is

  in_entry : (n : ℕ) → n < p.count → at.k + n < entry_words_of v.ring.shape.abi
  in_entry n few =
      let count : p.count ≡ (entry_from v.ring at.k).count = ap (λ (q : JobPart). q.count) at.from in
      let left = min-le_left (entry_words_of v.ring.shape.abi - at.k) (1024 - slot_word v.ring.shape v.ring.ring.indices.cons at.k) in
      omega (arith, count, left, few)

  -- so many words leave it the rest of the entry
  pub copied_so : (words : List ℕ) → length words < p.count → steps_of v (words_read words) ≡ both (copied v.ring at.k words) v.bus
  copied_so words few =
      let k : KeepingView = record { ends = v; most = 0 } in
      let plain : IsPlain k = record { never = refl; ring = none } in
      let has : IsSomeAnd (entry_part v) (λ part. IsReadPart part (length words)) = subst (λ (o : Option JobPart). IsSomeAnd o (λ part. IsReadPart part (length words))) (sym is) (reads, omega (arith, few)) in
      let came = came_to k k (copied v.ring at.k words) words refl has (sym (copies v.ring at.k words at.stage (in_entry (length words) few))) in
      sym (plainly k (with_ring k (copied v.ring at.k words)) v words refl plain has came.is).is

  asks_next : (words : List ℕ) → length words < p.count → ask_of (steps_of v (words_read words)) ≡ ask.Read p.mapping (p.word + length words)
  asks_next words few = (subst (λ (o : Option JobPart). IfSome o (λ part. AsksEach part [] (asked_after v))) is (asks_each v none)).reads reads words few

  -- it has the turn still
  still_ring : (j : ℕ) → turn_at (bus_ask_of v) (stage.Fetch j) ≡ turn.Ring
  still_ring j = ap (λ (a : BackBusAsk). turn_at a (stage.Fetch j)) (waits v at.turn)

  -- with any jobs
  pub asks_with : (words : List ℕ) (l : List Work) → length words < p.count → ask_of (both (with_jobs (copied v.ring at.k words) l) v.bus) ≡ ask.Read p.mapping (p.word + length words)
  asks_with words l few =
      let there : View = both (copied v.ring at.k words) v.bus in
      open_asks (both (with_jobs (copied v.ring at.k words) l) v.bus) (still_ring (at.k + length words))
      ∙ (sym (open_asks there (still_ring (at.k + length words))) ∙ (sym (ap ask_of (copied_so words few)) ∙ asks_next words few))

  one_more_copied : (words : List ℕ) (l : List Work) (word : ℕ) → suc (length words) < p.count
      → ring_step.step_of (with_jobs (copied v.ring at.k words) l) (Word word) ≡ with_jobs (copied v.ring at.k (words ++ word ∷ [])) l
  one_more_copied words l word few =
      let j : ℕ = at.k + length words in
      let w : ring.View = with_jobs (copied v.ring at.k words) l in
      let more = in_entry (suc (length words)) few in
      let isnt : (j + 1 == entry_words_of v.ring.shape.abi) ≡ false = ne_eqb (j + 1) (entry_words_of v.ring.shape.abi) (omega (arith, more)) in
      let counted : length (words ++ word ∷ []) ≡ length words + 1 = length-append words (word ∷ []) in
      ap (λ (b : Bool). if b then ring_step.fetched w (w.ring.entry ++ word ∷ []) else with_entry l (w.ring.entry ++ word ∷ []) (j + 1)) isnt
      ∙ (ap (λ (e : List ℕ). with_entry l e (j + 1)) (append_assoc v.ring.ring.entry words (word ∷ []))
      ∙ ap (λ m. with_entry l (v.ring.ring.entry ++ (words ++ word ∷ [])) m) (omega (arith, counted)))
    where
      with_entry : List Work → List ℕ → ℕ → ring.View
      with_entry l e m = with_jobs (record v.ring { ring = record v.ring.ring { entry = e }; stage = stage.Fetch m }) l

  pub steps_with : (words : List ℕ) (l : List Work) (word : ℕ) → suc (length words) < p.count
      → step_of (both (with_jobs (copied v.ring at.k words) l) v.bus) (Word word) ≡ both (with_jobs (copied v.ring at.k (words ++ word ∷ [])) l) v.bus
  steps_with words l word few =
      let c : View = both (with_jobs (copied v.ring at.k words) l) v.bus in
      let to : ring.View = with_jobs (copied v.ring at.k (words ++ word ∷ [])) l in
      ap (λ (a : BackBusAsk). step_at a c (Word word)) (waits v at.turn)
      ∙ (ap (λ (r : ring.View). both r (caught_up r v.bus)) (one_more_copied words l word few)
      ∙ ap (λ (b : BackView). both to b) (rests v to at.turn at.runs))
