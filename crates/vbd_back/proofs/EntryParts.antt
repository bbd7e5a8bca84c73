-- Words of an entry that the backend's end of the ring copies many at once.
use Rattle.std.proofs.Common.{◌≡◌, ℕ, suc, false, true≢false, List, [], ◌∷◌, length, refl, sym, ap, ◌∙◌, subst, arith}
use Rattle.std.specs.Prelude.{Option, Some, None, IfSome}
use Rattle.std.specs.Option.{IsSomeAnd}
use Rattle.blk_base.specs.declared.ask.BackAsk.{BackAsk}
use Rattle.blk_base.specs.declared.ask.BackAsk.TheVariants as ask
use Rattle.blk_base.specs.declared.ask.BackAnswer.{BackAnswer}
use Rattle.blk_base.specs.declared.ask.BackAnswer.TheVariants.{Word, Done}
use Rattle.back_jobs.specs.declared.part.SectorPart.{SectorPart}
use Rattle.back_jobs.specs.Part.{AsksEach, MovesWord, IsReadPart, words_read, words_written}
use Rattle.back_jobs.proofs.Parts.{move_leaves}
use Rattle.blk_back.specs.View as ring
use Rattle.blk_back.specs.Ask as ring_ask
use Rattle.blk_back.specs.Keeping as keeping
use Rattle.blk_back.specs.Part as ring_part
use Rattle.blk_back.specs.Hands.{hands_of}
use Rattle.blk_back.proofs.EntryParts.{CopiesOn, copies_on, copies_one, entry_asks, entry_reads, part_moves}
use Rattle.xenbus_state.specs.BackView.{BackView}
use Rattle.vbd_back.specs.declared.turn.Turn.{Turn}
use Rattle.vbd_back.specs.declared.turn.Turn.TheVariants as turn
use Rattle.vbd_back.specs.View.{View, both}
use Rattle.vbd_back.specs.Ask.{ask_of, IsAnswer}
use Rattle.vbd_back.specs.Step.{step_of}
use Rattle.vbd_back.specs.Turn.{turn_of}
use Rattle.vbd_back.specs.Part.{entry_part_by, entry_part, steps_of, asked_after, BackMovesEach}
use Rattle.vbd_back.specs.Keeping.{KeepingView, IsPlain, with_ring, step_keeping, steps_keeping, asked_keeping, BackMovesEachKeeping}
use Rattle.vbd_back.proofs.Turns.{open_asks, open_steps, rests, hands_done}
use Rattle.vbd_back.proofs.Open.{keeps_turn}
use Rattle.vbd_back.proofs.Plain.{CamePlainly, stepped}

-- nothing but the ring's end changes, and it has the move again
pub record Came (k new : KeepingView) (r : ring.View) : Type 0 where
  pub is : new ≡ with_ring k r
  pub turn : turn_of new.ends ≡ turn.Ring

one_came : (k : KeepingView) (n word : ℕ) → turn_of k.ends ≡ turn.Ring → CopiesOn k.ends.ring (suc n) → Came k (step_keeping k (Word word)) (keeping.step_keeping k.ends.ring (Word word))
one_came k n word t on =
    let r : ring.View = keeping.step_keeping k.ends.ring (Word word) in
    let later = copies_one k.ends.ring n word on in
    let is : step_keeping k (Word word) ≡ with_ring k r = open_steps k (Word word) t refl ∙ ap (λ (b : BackView). record k { ends = both r b }) (rests k.ends r t later.goes) in
    record { is = is; turn = sym (keeps_turn turn.Ring k.ends (step_keeping k (Word word)).ends (Word word) refl (sym t) (ap (λ (l : KeepingView). l.ends) is)) }

words_came : (words : List ℕ) (k : KeepingView) → turn_of k.ends ≡ turn.Ring → CopiesOn k.ends.ring (length words) → Came k (steps_keeping k (words_read words)) (ring_part.steps_keeping k.ends.ring (words_read words))
words_came [] k t on = record { is = refl; turn = t }
words_came (word ∷ words) k t on =
    let first = one_came k (length words) word t on in
    let l : KeepingView = with_ring k (keeping.step_keeping k.ends.ring (Word word)) in
    let rest = words_came words l (subst (λ (m : KeepingView). turn_of m.ends ≡ turn.Ring) first.is first.turn) (copies_one k.ends.ring (length words) word on) in
    let same : steps_keeping (step_keeping k (Word word)) (words_read words) ≡ steps_keeping l (words_read words) = ap (λ (m : KeepingView). steps_keeping m (words_read words)) first.is in
    record { is = same ∙ rest.is; turn = subst (λ (m : KeepingView). turn_of m.ends ≡ turn.Ring) (sym same) rest.turn }

-- a part is asked for only at the turn of the ring's end
opens : (t : Turn) (v : View) (P : SectorPart → Type 0) → IsSomeAnd (entry_part_by t v) P → (t ≡ turn.Ring) × IsSomeAnd (ring_part.entry_part v.ring) P
opens turn.Ring v P h = (refl, h)
opens t v P h = absurd h

pub part_at_turn : (v : View) (t : Turn) (o : Option SectorPart) → t ≡ turn_of v → t ≡ turn.Ring → o ≡ ring_part.entry_part v.ring → o ≡ entry_part v
part_at_turn v t o known is told = told ∙ sym (ap (λ (u : Turn). entry_part_by u v) (sym known ∙ is))

-- the ring's end was told so many words, as one after another, and has the move still
pub record CameTo (known new : KeepingView) (words : List ℕ) : Type 0 where
  pub is : new ≡ steps_keeping known (words_read words)
  pub turn : turn_of known.ends ≡ turn_of new.ends

pub came_to : (k known : KeepingView) (r : ring.View) (words : List ℕ) → k ≡ known → IsSomeAnd (entry_part known.ends) (λ part. IsReadPart part (length words)) → r ≡ ring_part.steps_keeping k.ends.ring (words_read words) → CameTo known (with_ring k r) words
came_to k known r words same has told =
    let ours = opens (turn_of known.ends) known.ends (λ part. IsReadPart part (length words)) has in
    let all = words_came words known ours.0 (copies_on known.ends.ring (length words) ours.1) in
    let ring_is : r ≡ ring_part.steps_keeping known.ends.ring (words_read words) = told ∙ ap (λ (l : KeepingView). ring_part.steps_keeping l.ends.ring (words_read words)) same in
    let is : with_ring k r ≡ steps_keeping known (words_read words) = ap (λ (l : KeepingView). with_ring l r) same ∙ (ap (λ (s : ring.View). with_ring known s) ring_is ∙ sym all.is) in
    record { is = is; turn = ours.0 ∙ sym (ap (λ (l : KeepingView). turn_of l.ends) is ∙ all.turn) }

-- each word of a part is asked for in turn
later_asked : (k : KeepingView) (words : List ℕ) → turn_of k.ends ≡ turn.Ring → CopiesOn k.ends.ring (length words) → asked_keeping k (words_read words) ≡ ring_part.asked_keeping k.ends.ring (words_read words)
later_asked k words t on =
    let all = words_came words k t on in
    let l : KeepingView = steps_keeping k (words_read words) in
    open_asks l.ends all.turn ∙ ap (λ (m : KeepingView). ring_ask.ask_of m.ends.ring) all.is

asks_some : (k : KeepingView) (o : Option SectorPart) → turn_of k.ends ≡ turn.Ring → ring_part.entry_part k.ends.ring ≡ o → IfSome o (λ part. part.writes ≡ false) → IfSome o (λ part. AsksEach part [] (ring_part.asked_keeping k.ends.ring)) → IfSome o (λ part. AsksEach part [] (asked_keeping k))
asks_some k None t same reads asks = tt
asks_some k (Some part) t same reads asks = record {
  reads = λ read words fits.
      let on = copies_on k.ends.ring (length words) (subst (λ (o : Option SectorPart). IsSomeAnd o (λ p. IsReadPart p (length words))) (sym same) (read, omega (arith, fits))) in
      later_asked k words t on ∙ asks.reads read words fits;
  writes = λ written j fits. absurd (true≢false (sym written ∙ reads));
}

pub part_asks : (k : KeepingView) → IfSome (entry_part k.ends) (λ part. AsksEach part [] (asked_keeping k))
part_asks k = by_turn (turn_of k.ends) refl
  where
    by_turn : (t : Turn) → turn_of k.ends ≡ t → IfSome (entry_part_by t k.ends) (λ part. AsksEach part [] (asked_keeping k))
    by_turn turn.Ring is = asks_some k (ring_part.entry_part k.ends.ring) is refl (entry_reads k.ends.ring) (entry_asks k.ends.ring)
    by_turn t is = tt

pub part_each : (k : KeepingView) (words : List ℕ) → IsSomeAnd (entry_part k.ends) (λ part. IsReadPart part (length words)) → BackMovesEachKeeping k (words_read words)
part_each k words has = part_moves (λ (l : KeepingView). ask_of l.ends) step_keeping k (entry_part k.ends) words (part_asks k) has

-- of a backend that is to keep no mapping they are what they would be without
many_stepped : (answers : List BackAnswer) (k new : KeepingView) → IsPlain k → new ≡ steps_keeping k answers → CamePlainly new (steps_of k.ends answers)
many_stepped [] k new plain e = record { is = ap (λ (l : KeepingView). l.ends) e; plain = rw e plain }
many_stepped (a ∷ answers) k new plain e =
    let first = stepped k (step_keeping k a) a plain refl in
    let all = many_stepped answers (step_keeping k a) new first.plain e in
    record { is = all.is ∙ ap (λ (v : View). steps_of v answers) first.is; plain = all.plain }

plain_asked : (k : KeepingView) (answers : List BackAnswer) → IsPlain k → asked_after k.ends answers ≡ asked_keeping k answers
plain_asked k answers plain = ap ask_of (sym (many_stepped answers k (steps_keeping k answers) plain refl).is)

pub plain_asks : (k : KeepingView) (o : Option SectorPart) → IsPlain k → IfSome o (λ part. AsksEach part [] (asked_keeping k)) → IfSome o (λ part. AsksEach part [] (asked_after k.ends))
plain_asks k None plain asks = tt
plain_asks k (Some part) plain asks = record {
  reads = λ read words fits. plain_asked k (words_read words) plain ∙ asks.reads read words fits;
  writes = λ written j fits. plain_asked k (words_written j) plain ∙ asks.writes written j fits;
}

pub asks_each : (v : View) → keeping.KeepsNone v.ring → IfSome (entry_part v) (λ part. AsksEach part [] (asked_after v))
asks_each v none =
    let k : KeepingView = record { ends = v; most = 0 } in
    plain_asks k (entry_part v) (record { never = refl; ring = none }) (part_asks k)

-- and nothing that is held comes or goes
allowed : (a : BackAsk) (given : BackAnswer) → MovesWord a given → IsAnswer a given
allowed (ask.Read m word) (Word value) h = tt
allowed (ask.Write m word value) Done h = tt
allowed a given h = absurd h

moves_hands : (v : View) (answers : List BackAnswer) → BackMovesEach v answers → (let w : View = steps_of v answers in hands_of w.ring) ≡ hands_of v.ring
moves_hands v [] moves = refl
moves_hands v (a ∷ answers) moves =
    let w : View = step_of v a in
    moves_hands w answers moves.1 ∙ move_leaves (ask_of v) a (hands_of v.ring) (hands_of w.ring) moves.0 (hands_done v w a refl (allowed (ask_of v) a moves.0))

pub record CameByWords (v : View) (new : KeepingView) (words : List ℕ) : Type 0 where
  pub is : new.ends ≡ steps_of v (words_read words)
  pub plain : IsPlain new
  pub moves : BackMovesEach v (words_read words)
  pub hands : hands_of new.ends.ring ≡ hands_of v.ring

pub plainly : (k new : KeepingView) (v : View) (words : List ℕ) → k.ends ≡ v → IsPlain k → IsSomeAnd (entry_part v) (λ part. IsReadPart part (length words)) → new ≡ steps_keeping k (words_read words) → CameByWords v new words
plainly k new v words same plain has e =
    let all = many_stepped (words_read words) k new plain e in
    let is : new.ends ≡ steps_of v (words_read words) = all.is ∙ ap (λ (w : View). steps_of w (words_read words)) same in
    let asks = subst (λ (w : View). IfSome (entry_part w) (λ part. AsksEach part [] (asked_after w))) same (plain_asks k (entry_part k.ends) plain (part_asks k)) in
    let moves = part_moves ask_of step_of v (entry_part v) words asks has in
    record { is = is; plain = all.plain; moves = moves; hands = ap (λ (w : View). hands_of w.ring) is ∙ moves_hands v (words_read words) moves }
