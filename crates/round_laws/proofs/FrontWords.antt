-- The front in the middle of a sector's words or of an entry's: what it asks after so many, and what one more makes of it.
use Rattle.std.proofs.Common.{◌≡◌, ℕ, suc, ◌+◌, ◌<◌, ◌≤◌, Bool, true, false, if◌then◌else◌, List, [], ◌∷◌, ◌++◌, length, refl, sym, ap, ◌∙◌, subst, arith}
use Rattle.std.specs.Prelude.{Option, Some, None, replicate, is_some, option_map, slice_index}
use Rattle.std.specs.List.{fold}
use Rattle.std.proofs.lemmas.Option.{none-some, same_Some}
use Rattle.std.proofs.lemmas.List.{map-append, replicate_more}
use Rattle.std.proofs.lemmas.List.Sums.{fold-append}
use Rattle.blk_base.specs.declared.ask.FrontAsk.{FrontAsk}
use Rattle.blk_base.specs.declared.ask.FrontAsk.TheVariants as ask
use Rattle.blk_base.specs.declared.ask.FrontAnswer.{FrontAnswer}
use Rattle.blk_base.specs.declared.ask.FrontAnswer.TheVariants.{Done, Word}
use Rattle.xen_pages.specs.Pages.{word_of, words_of}
use Rattle.blk_front.specs.declared.entry_part.EntryPart.{EntryPart}
use Rattle.blk_front.specs.declared.sector_part.SectorPart.{SectorPart as FrontPart}
use Rattle.blk_front.specs.Part.{sector_part as ring_sector_part, entry_part as ring_entry, HasWritten, HasRead, HasEntered, all_written, all_read, AllInTurn, AsksEach, AsksWords}
use Rattle.blk_front.proofs.EntrySteps as entries
use Rattle.blk_front.proofs.PartSteps as steps
use Rattle.vbd_front.specs.View.{View, IsUnkept}
use Rattle.vbd_front.specs.Ask.{ask_of, speaks, bus_ask_of, ring_moves}
use Rattle.vbd_front.specs.Step.{step_of}
use Rattle.vbd_front.specs.Part.{ring_part, sector_part, ring_entry_part, entry_part, entry_words, steps_of, IsTellable, AreTellable}
use Rattle.vbd_front.specs.Keep.{KeepingView, IsPlain}
use Rattle.vbd_front.proofs.PartTurns as turns
use Rattle.vbd_front.proofs.Unkept.{parts_plainly, entries_plainly, many_told}
use Rattle.round_laws.specs.Movers.{FrontWords, in_sector, in_entry, words_in, front_words, front_answers_to}
use Rattle.round_laws.proofs.Frames.{one_more, words_more, words_count, replicate_at}

-- what it asks at its n-th word from now, and is answered
abbrev pub word_asked : FrontWords → Option (List ℕ) → (n : ℕ) → FrontAsk
word_asked p (Some values) n = ask.Write p.frame (p.word + n) (slice_index values n)
word_asked p None n = ask.Read p.frame (p.word + n)

abbrev pub word_answered : FrontWords → Option (List ℕ) → (pages : List ℕ) → (n : ℕ) → FrontAnswer
word_answered p (Some values) pages n = Done
word_answered p None pages n = Word (word_of pages p.frame (p.word + n))

-- after n words it asks for the next, and has told nothing; so it comes to one word more
pub record IsNext (pages : List ℕ) (n : ℕ) (v u : View) (p : FrontWords) (values : Option (List ℕ)) : Type 0 where
  pub asks : ask_of u ≡ word_asked p values n
  pub told : u.ring.told ≡ None
  pub news : u.news ≡ v.news
  pub next : steps_of v (front_answers_to p values pages (suc n)) ≡ step_of u (word_answered p values pages n)

-- it asks for each of these words, and may be told all of them
record Writes (v : View) (p : FrontWords) (values : List ℕ) : Type 0 where
  asks : (k : ℕ) → k < p.count → ask_of (steps_of v (all_written k)) ≡ ask.Write p.frame (p.word + k) (slice_index values k)
  tellable : (count : ℕ) → count ≤ p.count → AreTellable v (all_written count)

record Reads (v : View) (p : FrontWords) : Type 0 where
  asks : (words : List ℕ) → length words < p.count → ask_of (steps_of v (all_read words)) ≡ ask.Read p.frame (p.word + length words)
  tellable : (words : List ℕ) → length words ≤ p.count → AreTellable v (all_read words)

abbrev Moves : View → FrontWords → Option (List ℕ) → Type 0
Moves v p (Some values) = Writes v p values
Moves v p None = Reads v p

-- what is so of the last answer of some
last_in_turn : {S A : Type 0} (may : S → A → Type 0) (step : S → A → S) (s : S) (xs : List A) (x : A) → AllInTurn may step s (xs ++ x ∷ []) → may (fold step s xs) x
last_in_turn may step s [] x all = all.0
last_in_turn may step s (y ∷ xs) x all = last_in_turn may step (step s y) xs x all.1

-- so it comes to the next of them
module _ (pages : List ℕ) (v : View) (p : FrontWords) where
  written_all : (n : ℕ) → all_written (suc n) ≡ all_written n ++ Done ∷ []
  written_all n = sym (replicate_more n Done ∙ ap (λ m. replicate m Done) (one_more n))

  write_next : (values : List ℕ) → Writes v p values → (n : ℕ) → n < p.count → IsNext pages n v (steps_of v (all_written n)) p (Some values)
  write_next values writes n few =
      let each = subst (λ (l : List FrontAnswer). AreTellable v l) (written_all n) (writes.tellable (suc n) (omega arith)) in
      let last = last_in_turn (λ w answer. IsTellable w answer × (w.news ≡ v.news)) step_of v (all_written n) Done each in
      record {
        asks = writes.asks n few;
        told = last.0.1;
        news = last.1;
        next = ap (steps_of v) (written_all n) ∙ fold-append step_of v (all_written n) (Done ∷ []);
      }

  read_next : Reads v p → (n : ℕ) → n < p.count → IsNext pages n v (steps_of v (all_read (words_of pages p.frame p.word n))) p None
  read_next reads n few =
      let words : List ℕ = words_of pages p.frame p.word n in
      let word : ℕ = word_of pages p.frame (p.word + n) in
      let counted : length words ≡ n = words_count pages p.frame p.word n in
      let all : all_read (words_of pages p.frame p.word (suc n)) ≡ all_read words ++ Word word ∷ [] = ap all_read (words_more pages p.frame p.word n) ∙ map-append Word words (word ∷ []) in
      let more : length (words_of pages p.frame p.word (suc n)) ≡ suc n = words_count pages p.frame p.word (suc n) in
      let each = subst (λ (l : List FrontAnswer). AreTellable v l) all (reads.tellable (words_of pages p.frame p.word (suc n)) (omega (arith, more, few))) in
      let last = last_in_turn (λ w answer. IsTellable w answer × (w.news ≡ v.news)) step_of v (all_read words) (Word word) each in
      record {
        asks = reads.asks words (omega (arith, counted, few)) ∙ ap (λ c. ask.Read p.frame (p.word + c)) counted;
        told = last.0.1;
        news = last.1;
        next = ap (steps_of v) all ∙ fold-append step_of v (all_read words) (Word word ∷ []);
      }

  either_next : (o : Option (List ℕ)) → Moves v p o → (n : ℕ) → n < p.count → IsNext pages n v (steps_of v (front_answers_to p o pages n)) p o
  either_next (Some values) moves n few = write_next values moves n few
  either_next None moves n few = read_next moves n few

-- the words are those of the ring's end
ring_same : {A : Type 0} (v : View) (part : Bool → Option A) (p : A) → part false ≡ None → (if speaks (bus_ask_of v) then None else part (ring_moves (bus_ask_of v) v.ring.stage)) ≡ Some p → Some p ≡ part true
ring_same v part p never = by_test (speaks (bus_ask_of v)) (ring_moves (bus_ask_of v) v.ring.stage)
  where
    by_test : (says moves : Bool) → (if says then None else part moves) ≡ Some p → Some p ≡ part true
    by_test true moves e = absurd (none-some p e)
    by_test false true e = sym e
    by_test false false e = absurd (none-some p (sym never ∙ e))

-- the frontend that isn't to keep grants
abbrev keeping : View → KeepingView
keeping v = record { ends = v; keeps = false }

module _ (v : View) (unkept : IsUnkept v.ring) (quiet : v.ring.told ≡ None) where
  plain : IsPlain (keeping v)
  plain = record { never = refl; ring = unkept }

  -- those of a sector
  module _ (p : FrontPart) (is : sector_part v ≡ Some p) where
    in_ring : Some p ≡ ring_sector_part v.ring
    in_ring = ring_same v (λ b. ring_part b v.ring) p refl is

    asks_each : AsksEach ask_of step_of v p
    asks_each =
        parts_plainly (keeping v) (Some p) plain
        (turns.part_asks (keeping v) (keeping v) (Some p) refl (sym is) (steps.part_asks v.ring (Some p) in_ring))

    may_write : (o : Option FrontPart) (value count : ℕ) → p.value ≡ Some value → Some p ≡ o → count ≤ p.count → HasWritten o count
    may_write o value count way same few = subst (λ (x : Option FrontPart). HasWritten x count) same (ap is_some way, few)

    may_read : (o : Option FrontPart) (count : ℕ) → p.value ≡ None → Some p ≡ o → count ≤ p.count → HasRead o count
    may_read o count way same few = subst (λ (x : Option FrontPart). HasRead x count) same (way, few)

    sector_moves : (value : Option ℕ) → p.value ≡ value → Moves v (in_sector p) (option_map (replicate p.count) value)
    sector_moves (Some value) way = record {
      asks = λ k few. (subst (λ (o : Option ℕ). AsksWords ask_of step_of v p o) way asks_each) k few ∙ ap (ask.Write p.frame (p.word + k)) (sym (replicate_at p.count value k few));
      tellable = λ count few.
          many_told (all_written count) (keeping v) plain
          (turns.written_each (keeping v) (keeping v) count refl (may_write (sector_part v) value count way (sym is) few)
          (steps.written_each v.ring count (may_write (ring_sector_part v.ring) value count way in_ring few) quiet));
    }
    sector_moves None way = record {
      asks = subst (λ (o : Option ℕ). AsksWords ask_of step_of v p o) way asks_each;
      tellable = λ words few.
          many_told (all_read words) (keeping v) plain
          (turns.read_each (keeping v) (keeping v) words refl (may_read (sector_part v) (length words) way (sym is) few)
          (steps.read_each v.ring words (may_read (ring_sector_part v.ring) (length words) way in_ring few) quiet));
    }

  -- those of an entry
  has_entered : (o : Option EntryPart) (e : EntryPart) (count : ℕ) → Some e ≡ o → count ≤ e.count → HasEntered o count
  has_entered o e count same few = subst (λ (x : Option EntryPart). HasEntered x count) same few

  entry_moves : (e : EntryPart) → entry_part v ≡ Some e → Writes v (in_entry e (entry_words v)) (entry_words v)
  entry_moves e is =
      let in_ring : Some e ≡ ring_entry v.ring = ring_same v (λ b. ring_entry_part b v.ring) e refl is in
      record {
        asks = entries_plainly (keeping v) (entry_words v) (Some e) plain
            (turns.entry_asks (keeping v) (keeping v) (Some e) refl (sym is) (entries.entry_asks v.ring (Some e) in_ring));
        tellable = λ count few.
            many_told (all_written count) (keeping v) plain
            (turns.entered_each (keeping v) (keeping v) count refl (has_entered (entry_part v) e count (sym is) few)
            (entries.entered_each v.ring count (has_entered (ring_entry v.ring) e count in_ring few) quiet));
      }

  moves : (p : FrontWords) → front_words v ≡ Some p → Moves v p p.values
  moves p = by_part (sector_part v) (entry_part v) refl refl
    where
      by_part : (s : Option FrontPart) (e : Option EntryPart) → sector_part v ≡ s → entry_part v ≡ e → words_in s e (entry_words v) ≡ Some p → Moves v p p.values
      by_part (Some q) e sector entry same = subst (λ (x : FrontWords). Moves v x x.values) (same_Some (in_sector q) p same) (sector_moves q sector q.value refl)
      by_part None (Some e) sector entry same = subst (λ (x : FrontWords). Moves v x x.values) (same_Some (in_entry e (entry_words v)) p same) (entry_moves e entry)
      by_part None None sector entry same = absurd (none-some p same)

  pub next_word : (pages : List ℕ) (p : FrontWords) → front_words v ≡ Some p → (n : ℕ) → n < p.count → IsNext pages n v (steps_of v (front_answers_to p p.values pages n)) p p.values
  next_word pages p is n few = either_next pages v p p.values (moves p is) n few
