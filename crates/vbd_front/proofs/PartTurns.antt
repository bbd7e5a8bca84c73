-- While the ring's end moves words of a request's data or of its entry the negotiation asks for the same, and learns nothing.
use Rattle.std.proofs.Common.{◌≡◌, ℕ, zero, suc, ◌+◌, ◌-◌, ◌<◌, ◌≤◌, ◌==◌, Bool, true, false, ◌&&◌, if◌then◌else◌, List, [], ◌∷◌, ◌++◌, length, length-append, replicate, refl, sym, ap, ◌∙◌, ◌⊎◌, inl, inr, subst, arith}
use Rattle.std.specs.Prelude.{Option, Some, None, is_some, IsSome, IsSomeAnd, IfSome, slice_get}
use Rattle.std.proofs.Math.Bool.{and-false}
use Rattle.std.proofs.Math.ListN.{replicate-append-replicate}
use Rattle.std.proofs.lemmas.Bool.{ne_eqb}
use Rattle.std.proofs.lemmas.List.{map-append}
use Rattle.std.proofs.lemmas.Option.{slice_get_within}
use Rattle.blk_base.specs.declared.ask.FrontAsk.{FrontAsk}
use Rattle.blk_base.specs.declared.ask.FrontAsk.TheVariants as ask
use Rattle.blk_base.specs.declared.ask.FrontAnswer.{FrontAnswer}
use Rattle.blk_base.specs.declared.ask.FrontAnswer.TheVariants.{Done, Word}
use Rattle.blk_front.specs.declared.entry_part.EntryPart.{EntryPart}
use Rattle.blk_front.specs.declared.request.Request.{Request}
use Rattle.blk_front.specs.declared.sector_part.SectorPart.{SectorPart}
use Rattle.blk_front.specs.declared.stage.FrontStage.{FrontStage}
use Rattle.blk_front.specs.declared.stage.FrontStage.TheVariants as stage
use Rattle.blk_front.specs.View.{View as Ring, next_request}
use Rattle.blk_front.specs.Ask as ring
use Rattle.blk_front.specs.Keep.{ask_as, step_as}
use Rattle.blk_front.specs.Part.{sector_part as ring_part_of, entry_part as ring_entry_of, HasWritten, HasRead, HasEntered, written_word, all_written, all_read, AllInTurn, IsTellable as IsRingTellable, AreTellable as AreRingTellable, steps_as, AsksWords, AsksEach, AsksEntry}
use Rattle.blk_front.specs.Step.{at}
use Rattle.blk_front.specs.Submit.{unfinished, is_connected}
use Rattle.blk_front.specs.Suspend.{is_left}
use Rattle.blk_front.proofs.EntrySteps.{entering, entered_in_turn}
use Rattle.blk_front.proofs.PartSteps.{at_word, IsWriting, writing, Reads, reading, written_in_turn, read_in_turn}
use Rattle.xenbus_state.specs.declared.front.FrontBusAsk.{FrontBusAsk}
use Rattle.xenbus_state.specs.declared.front.FrontBusAsk.TheVariants as bus_ask
use Rattle.xenbus_state.specs.FrontView.{FrontView}
use Rattle.xenbus_state.specs.FrontAsk as bus
use Rattle.vbd_front.specs.View.{View, is_unoccupied, is_still}
use Rattle.vbd_front.specs.Ask.{speaks, key_ask, ring_moves, bus_ask_of, IsAnswer}
use Rattle.vbd_front.specs.Part.{ring_part, sector_part, ring_entry_part, entry_part, entry_words}
use Rattle.vbd_front.specs.Keep.{KeepingView, followed_as, with_ring, IsTellableAs, AreTellableAs}
use Rattle.vbd_front.specs.Keep as whole
use Rattle.vbd_front.specs.declared.turn.Turn.{Turn}
use Rattle.vbd_front.specs.declared.turn.Turn.TheVariants as turn
use Rattle.vbd_front.specs.Turn.{turn_of}
use Rattle.vbd_front.proofs.Turns.{silent, is_plain, not_woken}

-- a word of data, or of an entry, may be moved at this stage
abbrev IsOfData : FrontStage → Type 0
IsOfData stage.Loop = Unit {0}
IsOfData (stage.Data n) = Unit {0}
IsOfData (stage.Slot n) = Unit {0}
IsOfData (stage.ReadData n) = Unit {0}
IsOfData (stage.LeftData n) = Unit {0}
IsOfData s = ⊥

-- a word of data is read at this stage
abbrev IsRead : FrontStage → Type 0
IsRead (stage.ReadData n) = Unit {0}
IsRead (stage.LeftData n) = Unit {0}
IsRead s = ⊥

-- of a move of the ring's end the negotiation learns only where it asked for it
is_deaf : FrontBusAsk → Bool
is_deaf (bus_ask.WriteRingWord word) = false
is_deaf (bus_ask.Grant page) = false
is_deaf bus_ask.NewPort = false
is_deaf (bus_ask.EndGrant page) = false
is_deaf bus_ask.ClosePort = false
is_deaf a = true

deaf : (a : FrontBusAsk) (s : FrontStage) → IsOfData s → ring_moves a s ≡ true → is_deaf a ≡ true
unfolding is_deaf
deaf (bus_ask.WriteRingWord word) (stage.RingWord k) d m = absurd d
deaf (bus_ask.WriteRingWord word) s d m = absurd (cc)
deaf (bus_ask.Grant page) (stage.RingFrame k) d m = absurd d
deaf (bus_ask.Grant page) (stage.RingFence k) d m = absurd d
deaf (bus_ask.Grant page) (stage.RingFlags k) d m = absurd d
deaf (bus_ask.Grant page) s d m = absurd (cc)
deaf bus_ask.NewPort stage.NewPort d m = absurd d
deaf bus_ask.NewPort s d m = absurd (cc)
deaf (bus_ask.EndGrant page) (stage.RingRead k) d m = absurd d
deaf (bus_ask.EndGrant page) (stage.RingEnd k seen) d m = absurd d
deaf (bus_ask.EndGrant page) (stage.Broken word) d m = absurd d
deaf (bus_ask.EndGrant page) s d m = absurd (cc)
deaf bus_ask.ClosePort stage.ClosePort d m = absurd d
deaf bus_ask.ClosePort s d m = absurd (cc)
deaf a s d m = refl

-- and that kept grants are ended it learns of the last of them alone
unended : (earlier later : FrontStage) (keeps idle : Bool) (w : FrontView) (x : FrontAnswer) → IsOfData earlier → followed_as bus_ask.EndOtherGrants earlier keeps later idle w x ≡ w
unended stage.Loop later keeps idle w x d = refl
unended (stage.Data n) later keeps idle w x d = refl
unended (stage.Slot n) later keeps idle w x d = refl
unended (stage.ReadData n) later keeps idle w x d = refl
unended (stage.LeftData n) later keeps idle w x d = refl
unended s later keeps idle w x d = absurd d

unheard : (a : FrontBusAsk) (earlier later : FrontStage) (keeps idle : Bool) (w : FrontView) (x : FrontAnswer) → IsOfData earlier → is_deaf a ≡ true → is_plain x ≡ true → followed_as a earlier keeps later idle w x ≡ w
unfolding is_deaf
unheard (bus_ask.WriteRingWord word) earlier later keeps idle w x of_data d p = absurd (cc)
unheard (bus_ask.Grant page) earlier later keeps idle w x of_data d p = absurd (cc)
unheard bus_ask.NewPort earlier later keeps idle w x of_data d p = absurd (cc)
unheard (bus_ask.EndGrant page) earlier later keeps idle w x of_data d p = absurd (cc)
unheard bus_ask.ClosePort earlier later keeps idle w x of_data d p = absurd (cc)
unheard bus_ask.EndOtherGrants earlier later keeps idle w x of_data d p = unended earlier later keeps idle w x of_data
unheard bus_ask.Wait earlier later keeps idle w x of_data d p = not_woken _ idle w x p
unheard a earlier later keeps idle w x of_data d p = refl

-- an answer that the ring's end may be told is of the ask's kind
widened : (a : FrontAsk) (x : FrontAnswer) → ring.IsAnswer a x → IsAnswer a x
widened (ask.GetKey path) x h = absurd h
widened (ask.SetKey path text) x h = absurd h
widened (ask.Watch path) x h = absurd h
widened a x h = h

-- the ring's end is at such a stage, and the negotiation asks for this, which leaves it the move
record IsMoving (v : View) (a : FrontBusAsk) (r : Ring) (x : FrontAnswer) : Type 0 where
  asks : bus_ask_of (record v { ring = r }) ≡ a
  moves : ring_moves a r.stage ≡ true
  staged : IsOfData r.stage
  plain : is_plain x ≡ true

module _ (a : FrontBusAsk) (silent : speaks a ≡ false) where
  one_step : (k : KeepingView) (r : Ring) (x : FrontAnswer) → IsMoving k.ends a r x → whole.step_as (with_ring k r) x ≡ with_ring k (step_as r x)
  one_step k r x m =
      let v : View = k.ends in
      let here : View = record v { ring = r } in
      let after : Ring = step_as r x in
      ap (λ (b : FrontBusAsk). record k { ends = whole.step_as_at k.keeps b here x }) m.asks
      ∙ (ap (λ (b : Bool). record k { ends = if b then whole.spoken_as k.keeps here x else whole.ring_step_as (ring_moves a r.stage) k.keeps a here x }) silent
      ∙ (ap (λ (b : Bool). record k { ends = whole.ring_step_as b k.keeps a here x }) m.moves
      ∙ ap (λ (w : FrontView). record k { ends = record v { ring = after; bus = w } })
      (unheard a r.stage after.stage k.keeps (is_unoccupied r) v.bus x m.staged (deaf a r.stage m.staged m.moves) m.plain)))

  one_ask : (k : KeepingView) (r : Ring) (x : FrontAnswer) → IsMoving k.ends a r x → whole.ask_as (with_ring k r) ≡ ask_as r
  one_ask k r x m =
      let v : View = k.ends in
      let here : View = record v { ring = r } in
      ap (λ (b : FrontBusAsk). whole.ask_as_at b here) m.asks
      ∙ (ap (λ (b : Bool). if b then key_ask a else whole.ring_ask_as (ring_moves a r.stage) r) silent
      ∙ ap (λ (b : Bool). whole.ring_ask_as b r) m.moves)

  -- so the frontend is as its ring's end alone makes it
  all_steps : (xs : List FrontAnswer) (k : KeepingView) (r : Ring) → AllInTurn (IsMoving k.ends a) step_as r xs → whole.steps_as (with_ring k r) xs ≡ with_ring k (steps_as r xs)
  all_steps [] k r turns = refl
  all_steps (x ∷ rest) k r turns = ap (λ (l : KeepingView). whole.steps_as l rest) (one_step k r x turns.0) ∙ all_steps rest k (step_as r x) turns.1

  all_tellable : (xs : List FrontAnswer) (k : KeepingView) (r : Ring) → AllInTurn (IsMoving k.ends a) step_as r xs → AllInTurn IsRingTellable step_as r xs
      → AllInTurn (λ l answer. IsTellableAs l answer × (l.ends.news ≡ k.ends.news)) whole.step_as (with_ring k r) xs
  all_tellable [] k r turns each = tt
  all_tellable (x ∷ rest) k r turns each = (
    ((widened _ x (subst (λ (b : FrontAsk). ring.IsAnswer b x) (sym (one_ask k r x turns.0)) each.0.0), each.0.1), refl),
    subst (λ (m : KeepingView). AllInTurn (λ l answer. IsTellableAs l answer × (l.ends.news ≡ k.ends.news)) whole.step_as m rest) (sym (one_step k r x turns.0)) (all_tellable rest k (step_as r x) turns.1 each.1),
  )

  -- and asks for what its ring's end asks, before each of them
  later_ask : (xs : List FrontAnswer) (x : FrontAnswer) (k : KeepingView) (r : Ring) → AllInTurn (IsMoving k.ends a) step_as r (xs ++ x ∷ []) → whole.ask_as (whole.steps_as (with_ring k r) xs) ≡ ask_as (steps_as r xs)
  later_ask [] x k r turns = one_ask k r x turns.0
  later_ask (y ∷ rest) x k r turns = ap (λ (l : KeepingView). whole.ask_as (whole.steps_as l rest)) (one_step k r y turns.0) ∙ later_ask rest x k (step_as r y) turns.1

-- what is known of a part, which there is where the ring's end has the move
part_where : {A : Type 0} (v : View) (part : Bool → Option A) (Q : A → Type 0) → part false ≡ None → IsSomeAnd (if speaks (bus_ask_of v) then None else part (ring_moves (bus_ask_of v) v.ring.stage)) Q
    → (speaks (bus_ask_of v) ≡ false) × ((ring_moves (bus_ask_of v) v.ring.stage ≡ true) × IsSomeAnd (part true) Q)
part_where v part Q never has = by_speaker (speaks (bus_ask_of v)) refl has
  where
    by_mover : (b : Bool) → ring_moves (bus_ask_of v) v.ring.stage ≡ b → IsSomeAnd (part b) Q → (ring_moves (bus_ask_of v) v.ring.stage ≡ true) × IsSomeAnd (part true) Q
    by_mover true e h = (e, h)
    by_mover false e h = absurd (subst (λ o. IsSomeAnd o Q) never h)

    by_speaker : (b : Bool) → speaks (bus_ask_of v) ≡ b → IsSomeAnd (if b then None else part (ring_moves (bus_ask_of v) v.ring.stage)) Q → (speaks (bus_ask_of v) ≡ false) × ((ring_moves (bus_ask_of v) v.ring.stage ≡ true) × IsSomeAnd (part true) Q)
    by_speaker true e h = absurd h
    by_speaker false e h = (e, by_mover (ring_moves (bus_ask_of v) v.ring.stage) refl h)

part_is : (v : View) (Q : SectorPart → Type 0) → IsSomeAnd (sector_part v) Q → (speaks (bus_ask_of v) ≡ false) × ((ring_moves (bus_ask_of v) v.ring.stage ≡ true) × IsSomeAnd (ring_part_of v.ring) Q)
part_is v Q has = part_where v (λ b. ring_part b v.ring) Q refl has

entry_is : (v : View) (Q : EntryPart → Type 0) → IsSomeAnd (entry_part v) Q → (speaks (bus_ask_of v) ≡ false) × ((ring_moves (bus_ask_of v) v.ring.stage ≡ true) × IsSomeAnd (ring_entry_of v.ring) Q)
entry_is v Q has = part_where v (λ b. ring_entry_part b v.ring) Q refl has

-- a frontend that is occupied is asked by its negotiation what one that doesn't close is
busy_asks : (v : View) → is_left v.ring.stage ≡ false → is_unoccupied v.ring ≡ false → bus_ask_of v ≡ bus.ask_of v.bus false
busy_asks v left idle = ap (λ (b : Bool). if b then bus_ask.Wait else bus.ask_of v.bus (is_unoccupied v.ring)) left ∙ ap (λ (b : Bool). bus.ask_of v.bus b) idle

-- a request waits in the loop, so the front is occupied
waiting_busy : (r : Ring) (q : Request) → next_request r ≡ Some q → is_unoccupied r ≡ false
waiting_busy r q next = by_waiting (r.waiting == 0) next
  where
    busy : 0 < length r.requests → is_unoccupied r ≡ false
    busy some = ap (λ (b : Bool). b && is_still r.stage) (ne_eqb (unfinished r) 0 (λ same. omega arith))

    by_waiting : (b : Bool) → (if b then None else slice_get r.requests (length r.requests - r.waiting)) ≡ Some q → is_unoccupied r ≡ false
    by_waiting true e = absurd (cc)
    by_waiting false e = let within = slice_get_within r.requests (length r.requests - r.waiting) q e in busy (omega arith)

-- what asked for none of its moves leaves it the move at each word of data
deaf_moves : (a : FrontBusAsk) (s : FrontStage) → is_connected s ≡ true → is_deaf a ≡ true → ring_moves a s ≡ true
unfolding is_deaf
deaf_moves (bus_ask.WriteRingWord word) s c d = absurd (cc)
deaf_moves (bus_ask.Grant page) s c d = absurd (cc)
deaf_moves bus_ask.NewPort s c d = absurd (cc)
deaf_moves (bus_ask.EndGrant page) s c d = absurd (cc)
deaf_moves bus_ask.ClosePort s c d = absurd (cc)
deaf_moves bus_ask.Wait (stage.LeftData n) c d = refl
deaf_moves a s c d = c

-- a stage at which a request's words are moved, of a ring that is made
record IsBusy (s : FrontStage) : Type 0 where
  left : is_left s ≡ false
  still : is_still s ≡ false
  staged : IsOfData s
  connected : is_connected s ≡ true

occupied : (v : View) → IsBusy v.ring.stage → bus_ask_of v ≡ bus.ask_of v.bus false
occupied v busy = busy_asks v busy.left (ap (λ (b : Bool). unfinished v.ring == 0 && b) busy.still ∙ and-false _)

-- from one such stage it comes to the next with the move its own
module _ (v : View) (moves : ring_moves (bus_ask_of v) v.ring.stage ≡ true) (staged : IsOfData v.ring.stage) (here : bus_ask_of v ≡ bus.ask_of v.bus false) where
  busy_moves : (r : Ring) (x : FrontAnswer) → IsBusy r.stage → is_plain x ≡ true → IsMoving v (bus_ask_of v) r x
  busy_moves r x busy plain = record {
    asks = occupied (record v { ring = r }) busy ∙ sym here;
    moves = deaf_moves (bus_ask_of v) r.stage busy.connected (deaf (bus_ask_of v) v.ring.stage staged moves);
    staged = busy.staged;
    plain = plain;
  }

-- it moves the first word that is written, and each that comes
module _ (v : View) (k : ℕ) (moves : ring_moves (bus_ask_of v) v.ring.stage ≡ true) (has : HasWritten (ring_part_of v.ring) (suc k)) where
  to_write : (r : Request) × IsWriting v.ring (written_word v.ring.stage) k r
  to_write = writing v.ring k has

  data_busy : (n : ℕ) → IsBusy (stage.Data n)
  data_busy n = record { left = refl; still = refl; staged = tt; connected = refl }

  write_busy : IsOfData v.ring.stage × (bus_ask_of v ≡ bus.ask_of v.bus false)
  write_busy = by_placed (to_write).1.placed
    where
      by_placed : (v.ring.stage ≡ stage.Loop) ⊎ (v.ring.stage ≡ stage.Data (written_word v.ring.stage)) → IsOfData v.ring.stage × (bus_ask_of v ≡ bus.ask_of v.bus false)
      by_placed (inl is) = (subst IsOfData (sym is) tt, busy_asks v (ap is_left is) (waiting_busy v.ring (to_write).0 (to_write).1.next))
      by_placed (inr is) = let busy : IsBusy v.ring.stage = subst IsBusy (sym is) (data_busy (written_word v.ring.stage)) in (busy.staged, occupied v busy)

  writes_here : IsMoving v (bus_ask_of v) v.ring Done
  writes_here = record { asks = refl; moves = moves; staged = (write_busy).0; plain = refl }

  writes_later : (m : ℕ) → IsMoving v (bus_ask_of v) (at (stage.Data m) v.ring) Done
  writes_later m = busy_moves v moves (write_busy).0 (write_busy).1 (at (stage.Data m) v.ring) Done (data_busy m) refl

-- each of the entry
module _ (v : View) (moves : ring_moves (bus_ask_of v) v.ring.stage ≡ true) (k : ℕ) (is : v.ring.stage ≡ stage.Slot k) where
  slot_busy : (n : ℕ) → IsBusy (stage.Slot n)
  slot_busy n = record { left = refl; still = refl; staged = tt; connected = refl }

  enters_later : (m : ℕ) → IsMoving v (bus_ask_of v) (at (stage.Slot m) v.ring) Done
  enters_later m =
      let busy : IsBusy v.ring.stage = subst IsBusy (sym is) (slot_busy k) in
      busy_moves v moves busy.staged (occupied v busy) (at (stage.Slot m) v.ring) Done (slot_busy m) refl

-- and each that is read
module _ (v : View) (words : List ℕ) (moves : ring_moves (bus_ask_of v) v.ring.stage ≡ true) (has : HasRead (ring_part_of v.ring) (length words)) where
  read_busy : (n : ℕ) → IsBusy (stage.ReadData n)
  read_busy n = record { left = refl; still = refl; staged = tt; connected = refl }

  reads_at : (s : FrontStage) → v.ring.stage ≡ s → ring_moves (bus_ask_of v) s ≡ true → IsRead s → (m word : ℕ) (put : List ℕ) → IsMoving v (bus_ask_of v) (at (at_word s m) (record v.ring { words = put })) (Word word)
  reads_at (stage.ReadData n) is moves_at d m word put =
      let busy : IsBusy v.ring.stage = subst IsBusy (sym is) (read_busy n) in
      busy_moves v moves busy.staged (occupied v busy) (at (stage.ReadData m) (record v.ring { words = put })) (Word word) (read_busy m) refl
  reads_at (stage.LeftData n) is moves_at d m word put =
      let waits : bus_ask_of v ≡ bus_ask.Wait = ap (λ (b : Bool). if b then bus_ask.Wait else bus.ask_of v.bus (is_unoccupied v.ring)) (ap is_left is) in record {
        asks = sym waits;
        moves = ap (λ (a : FrontBusAsk). ring_moves a (stage.LeftData m)) waits;
        staged = tt;
        plain = refl;
      }
  reads_at s is moves_at d m word put = absurd d

  reads_later : (m word : ℕ) (put : List ℕ) → IsMoving v (bus_ask_of v) (at (at_word v.ring.stage m) (record v.ring { words = put })) (Word word)
  reads_later = by_reading (reading v.ring (length words) has)
    where
      here : (s : FrontStage) → v.ring.stage ≡ s → IsRead s → (m word : ℕ) (put : List ℕ) → IsMoving v (bus_ask_of v) (at (at_word v.ring.stage m) (record v.ring { words = put })) (Word word)
      here s is d m word put =
          subst (λ (x : FrontStage). IsMoving v (bus_ask_of v) (at (at_word x m) (record v.ring { words = put })) (Word word)) (sym is)
          (reads_at s is (subst (λ (x : FrontStage). ring_moves (bus_ask_of v) x ≡ true) is moves) d m word put)

      by_reading : Reads stage.ReadData v.ring (length words) ⊎ Reads stage.LeftData v.ring (length words) → (m word : ℕ) (put : List ℕ) → IsMoving v (bus_ask_of v) (at (at_word v.ring.stage m) (record v.ring { words = put })) (Word word)
      by_reading (inl (n, (e, r))) = here (stage.ReadData n) r.stage tt
      by_reading (inr (n, (e, r))) = here (stage.LeftData n) r.stage tt

-- the answers to a part in turn, each to a word that its ring's end moves
record AreMoves (v : View) (answers : List FrontAnswer) : Type 0 where
  silent : speaks (bus_ask_of v) ≡ false
  turns : AllInTurn (IsMoving v (bus_ask_of v)) step_as v.ring answers

written_moves : (v : View) (count : ℕ) → HasWritten (sector_part v) count → AreMoves v (all_written count)
written_moves v count has =
    let is = part_is v (λ (p : SectorPart). IsSome p.value × (count ≤ p.count)) has in
    record { silent = is.0; turns = in_turn count is.1.1 }
  where
    in_turn : (n : ℕ) → HasWritten (ring_part_of v.ring) n → AllInTurn (IsMoving v (bus_ask_of v)) step_as v.ring (all_written n)
    in_turn zero here = tt
    in_turn (suc n) here =
        let moves = (part_is v (λ (p : SectorPart). IsSome p.value × (count ≤ p.count)) has).1.0 in
        written_in_turn (IsMoving v (bus_ask_of v)) v.ring (suc n) here (writes_here v n moves here) (writes_later v n moves here)

read_moves : (v : View) (words : List ℕ) → HasRead (sector_part v) (length words) → AreMoves v (all_read words)
read_moves v words has =
    let is = part_is v (λ (p : SectorPart). (p.value ≡ None) × (length words ≤ p.count)) has in
    record { silent = is.0; turns = read_in_turn (IsMoving v (bus_ask_of v)) v.ring words is.1.1 (reads_later v words is.1.0 is.1.1) }

entered_moves : (v : View) (count : ℕ) → HasEntered (entry_part v) count → AreMoves v (all_written count)
entered_moves v count has =
    let is = entry_is v (λ (p : EntryPart). count ≤ p.count) has in
    let found = entering v.ring (λ (p : EntryPart). count ≤ p.count) is.1.1 in
    record { silent = is.0; turns = entered_in_turn (IsMoving v (bus_ask_of v)) v.ring count is.1.1 (enters_later v is.1.0 found.0 found.1.0.stage) }

-- many words were moved by its ring's end
told_moves : (k l : KeepingView) (after : Ring) (xs : List FrontAnswer) → l ≡ k → AreMoves l.ends xs → after ≡ steps_as l.ends.ring xs → with_ring l after ≡ whole.steps_as k xs
told_moves k l after xs same are is = ap (with_ring l) is ∙ (sym (all_steps (bus_ask_of l.ends) are.silent xs l l.ends.ring are.turns) ∙ ap (λ (x : KeepingView). whole.steps_as x xs) same)

pub told_written : (k l : KeepingView) (after : Ring) (count : ℕ) → l ≡ k → HasWritten (sector_part k.ends) count → after ≡ steps_as l.ends.ring (all_written count) → with_ring l after ≡ whole.steps_as k (all_written count)
told_written k l after count same has is =
    told_moves k l after (all_written count) same (written_moves l.ends count (subst (λ (x : KeepingView). HasWritten (sector_part x.ends) count) (sym same) has)) is

pub told_read : (k l : KeepingView) (after : Ring) (words : List ℕ) → l ≡ k → HasRead (sector_part k.ends) (length words) → after ≡ steps_as l.ends.ring (all_read words) → with_ring l after ≡ whole.steps_as k (all_read words)
told_read k l after words same has is =
    told_moves k l after (all_read words) same (read_moves l.ends words (subst (λ (x : KeepingView). HasRead (sector_part x.ends) (length words)) (sym same) has)) is

pub told_entered : (k l : KeepingView) (after : Ring) (count : ℕ) → l ≡ k → HasEntered (entry_part k.ends) count → after ≡ steps_as l.ends.ring (all_written count) → with_ring l after ≡ whole.steps_as k (all_written count)
told_entered k l after count same has is =
    told_moves k l after (all_written count) same (entered_moves l.ends count (subst (λ (x : KeepingView). HasEntered (entry_part x.ends) count) (sym same) has)) is

-- and each might be told
each_moves : (k l : KeepingView) (xs : List FrontAnswer) → l ≡ k → AreMoves l.ends xs → AreRingTellable l.ends.ring xs → AreTellableAs k xs
each_moves k l xs same are each = subst (λ (x : KeepingView). AreTellableAs x xs) same (all_tellable (bus_ask_of l.ends) are.silent xs l l.ends.ring are.turns each)

pub written_each : (k l : KeepingView) (count : ℕ) → l ≡ k → HasWritten (sector_part k.ends) count → AreRingTellable l.ends.ring (all_written count) → AreTellableAs k (all_written count)
written_each k l count same has each =
    each_moves k l (all_written count) same (written_moves l.ends count (subst (λ (x : KeepingView). HasWritten (sector_part x.ends) count) (sym same) has)) each

pub read_each : (k l : KeepingView) (words : List ℕ) → l ≡ k → HasRead (sector_part k.ends) (length words) → AreRingTellable l.ends.ring (all_read words) → AreTellableAs k (all_read words)
read_each k l words same has each =
    each_moves k l (all_read words) same (read_moves l.ends words (subst (λ (x : KeepingView). HasRead (sector_part x.ends) (length words)) (sym same) has)) each

pub entered_each : (k l : KeepingView) (count : ℕ) → l ≡ k → HasEntered (entry_part k.ends) count → AreRingTellable l.ends.ring (all_written count) → AreTellableAs k (all_written count)
entered_each k l count same has each =
    each_moves k l (all_written count) same (entered_moves l.ends count (subst (λ (x : KeepingView). HasEntered (entry_part x.ends) count) (sym same) has)) each

-- what a part says of what is asked
later_write : (k : KeepingView) (n : ℕ) → AreMoves k.ends (all_written (suc n)) → whole.ask_as (whole.steps_as k (all_written n)) ≡ ask_as (steps_as k.ends.ring (all_written n))
later_write k n are =
    let v : View = k.ends in
    let next : n + 1 ≡ suc n = omega arith in
    later_ask (bus_ask_of v) are.silent (all_written n) Done k v.ring
    (subst (λ (l : List FrontAnswer). AllInTurn (IsMoving v (bus_ask_of v)) step_as v.ring l) (sym (replicate-append-replicate n 1 Done ∙ ap (λ m. replicate m Done) next)) are.turns)

later_read : (k : KeepingView) (words : List ℕ) → AreMoves k.ends (all_read (words ++ 0 ∷ [])) → whole.ask_as (whole.steps_as k (all_read words)) ≡ ask_as (steps_as k.ends.ring (all_read words))
later_read k words are =
    let v : View = k.ends in
    later_ask (bus_ask_of v) are.silent (all_read words) (Word 0) k v.ring
    (subst (λ (l : List FrontAnswer). AllInTurn (IsMoving v (bus_ask_of v)) step_as v.ring l) (map-append Word words (0 ∷ [])) are.turns)

asks_words : (k : KeepingView) (part : SectorPart) (value : Option ℕ) → sector_part k.ends ≡ Some part → part.value ≡ value → AsksWords ask_as step_as k.ends.ring part value → AsksWords whole.ask_as whole.step_as k part value
asks_words k part (Some value) is way asks = λ n less.
    later_write k n (written_moves k.ends (suc n) (subst (λ (o : Option SectorPart). HasWritten o (suc n)) (sym is) (ap is_some way, omega arith))) ∙ asks n less
asks_words k part None is way asks = λ words less.
    later_read k words (read_moves k.ends (words ++ 0 ∷ []) (subst (λ (o : Option SectorPart). HasRead o (length (words ++ 0 ∷ []))) (sym is) (way, omega (arith, length-append words (0 ∷ []))))) ∙ asks words less

pub part_asks : (k l : KeepingView) (part : Option SectorPart) → l ≡ k → part ≡ sector_part k.ends → IfSome part (AsksEach ask_as step_as l.ends.ring) → IfSome part (AsksEach whole.ask_as whole.step_as k)
part_asks k l part same is asks =
    subst (λ (x : KeepingView). IfSome part (AsksEach whole.ask_as whole.step_as x)) same (by_part part (is ∙ ap (λ (x : KeepingView). sector_part x.ends) (sym same)) asks)
  where
    by_part : (o : Option SectorPart) → o ≡ sector_part l.ends → IfSome o (AsksEach ask_as step_as l.ends.ring) → IfSome o (AsksEach whole.ask_as whole.step_as l)
    by_part None e a = tt
    by_part (Some p) e a = asks_words l p p.value (sym e) refl a

asks_entry : (k : KeepingView) (words : List ℕ) (part : EntryPart) → entry_part k.ends ≡ Some part → AsksEntry ask_as step_as k.ends.ring words part → AsksEntry whole.ask_as whole.step_as k words part
asks_entry k words part is asks = λ m less.
    later_write k m (entered_moves k.ends (suc m) (subst (λ (o : Option EntryPart). HasEntered o (suc m)) (sym is) (omega arith))) ∙ asks m less

pub entry_asks : (k l : KeepingView) (part : Option EntryPart) → l ≡ k → part ≡ entry_part k.ends → IfSome part (AsksEntry ask_as step_as l.ends.ring (entry_words l.ends)) → IfSome part (AsksEntry whole.ask_as whole.step_as k (entry_words k.ends))
entry_asks k l part same is asks =
    subst (λ (x : KeepingView). IfSome part (AsksEntry whole.ask_as whole.step_as x (entry_words x.ends))) same (by_part part (is ∙ ap (λ (x : KeepingView). entry_part x.ends) (sym same)) asks)
  where
    by_part : (o : Option EntryPart) → o ≡ entry_part l.ends → IfSome o (AsksEntry ask_as step_as l.ends.ring (entry_words l.ends)) → IfSome o (AsksEntry whole.ask_as whole.step_as l (entry_words l.ends))
    by_part None e a = tt
    by_part (Some p) e a = asks_entry l (entry_words l.ends) p (sym e) a

-- whose turn it is says where the ring's end has the move
by_turn : {A : Type 0} (at_ring : Bool → Ring → Option A) (k l : KeepingView) (whose : Turn) (moves : Bool) (part : Option A)
    → l ≡ k → whose ≡ turn_of k.ends → (whose ≡ turn.Keys → ⊥) → ring_moves (bus_ask_of k.ends) k.ends.ring.stage ≡ moves → part ≡ at_ring moves l.ends.ring
    → part ≡ (if speaks (bus_ask_of k.ends) then None else at_ring (ring_moves (bus_ask_of k.ends) k.ends.ring.stage) k.ends.ring)
by_turn at_ring k l whose moves part same known not_keys is found =
    let v : View = k.ends in
    found ∙ (ap (λ (x : KeepingView). at_ring moves x.ends.ring) same
    ∙ sym (ap (λ (b : Bool). if b then None else at_ring (ring_moves (bus_ask_of v) v.ring.stage) v.ring) (silent (bus_ask_of v) v.bus.closing (is_connected v.ring.stage) (λ keys. not_keys (known ∙ keys)))
    ∙ ap (λ (b : Bool). at_ring b v.ring) is))

pub part_by_turn : (k l : KeepingView) (whose : Turn) (moves : Bool) (part : Option SectorPart) → l ≡ k → whose ≡ turn_of k.ends → (whose ≡ turn.Keys → ⊥) → ring_moves (bus_ask_of k.ends) k.ends.ring.stage ≡ moves → part ≡ ring_part moves l.ends.ring → part ≡ sector_part k.ends
part_by_turn = by_turn (λ b r. ring_part b r)

pub entry_by_turn : (k l : KeepingView) (whose : Turn) (moves : Bool) (part : Option EntryPart) → l ≡ k → whose ≡ turn_of k.ends → (whose ≡ turn.Keys → ⊥) → ring_moves (bus_ask_of k.ends) k.ends.ring.stage ≡ moves → part ≡ ring_entry_part moves l.ends.ring → part ≡ entry_part k.ends
entry_by_turn = by_turn (λ b r. ring_entry_part b r)
