-- Where the back keeps mappings: each mapping in a job's hand for reading is one that the job made itself, and each for writing, in a hand or kept, one that a job made; all stand.
use Rattle.std.proofs.Common.{◌≡◌, ℕ, ◌+◌, ◌==◌, ◌&&◌, not, Bool, true, false, List, [], ◌∷◌, ◌++◌, filter, refl, ap, sym, ◌∙◌, subst, append_assoc, append-nil, arith}
use Rattle.std.specs.Prelude.{Option, Some, is_some, IsPermutation}
use Rattle.std.specs.List.{AllByRecursion}
use Rattle.std.specs.Option.{option_to_list}
use Rattle.std.proofs.lemmas.Bool.Decides.{nat_tests}
use Rattle.std.proofs.lemmas.List.Elements.{All-from_recursion, recursion_from_All}
use Rattle.std.proofs.lemmas.List.Sorted.{All-permutation}
use Rattle.blk_base.specs.declared.parts.Mapping.{Mapping}
use Rattle.blk_base.specs.declared.parts.Mode.TheVariants.{ReadWrite}
use Rattle.blk_base.specs.declared.ask.BackAsk.{BackAsk}
use Rattle.blk_base.specs.declared.moves.BackMover.{BackMover}
use Rattle.blk_base.specs.declared.moves.BackMover.TheVariants as back
use Rattle.blk_base.specs.declared.moves.Move.TheVariants as moves
use Rattle.hypervisor.specs.Hypervisor.{Hypervisor}
use Rattle.hypervisor.specs.Act.{BackAct, Outcome, back_act}
use Rattle.persist_grants.specs.KeptMappings.{may_keep}
use Rattle.schedule_text.specs.declared.line.Line.{Line}
use Rattle.schedule_text.specs.declared.line.Line.TheVariants as lines
use Rattle.report_rules.specs.declared.standing.Standing.{Standing}
use Rattle.report_rules.specs.Published.{kept_by}
use Rattle.report_rules.specs.Standing.{is_unmap_of, numbered}
use Rattle.report_rules.specs.Made.{made_by, left_to, made_for_writing, left_for_writing}
use Rattle.report_rules.proofs.Back.{left_more_by}
use Rattle.back_jobs.specs.Work.{Work}
use Rattle.back_jobs.specs.Jobs.{HeldJobs}
use Rattle.back_jobs.specs.Hands.{hand_of, HandsKeep}
use Rattle.back_jobs.specs.Keeping.{all_hands, IsKeeping}
use Rattle.split_model.proofs.Acting.{BackMap, BackUnmap, back_acts}
use Rattle.ring_laws.proofs.Lists.{all_more}
use Rattle.grant_table.specs.Entry.{is_for_writing}
use Rattle.ring_laws.specs.Handed.{have_kept}
use Rattle.ring_laws.proofs.Offered.{have_more}
use Rattle.ring_laws.proofs.JobMoves.{itself}
use Rattle.ring_laws.proofs.Makers.{has, IsQuiet, AreQuiet}

same_number : (a b : ℕ) → (a == b) ≡ true → a ≡ b
same_number a b e = grind (arith, nat_tests)

-- a mapping is left after a line that doesn't unmap it
numbered_still : (n : ℕ) (line : Line) (left made : List Standing) → is_unmap_of n line ≡ false → is_some (numbered n left) ≡ true → is_some (numbered n (filter (λ (s : Standing). not (is_unmap_of s.number line)) left ++ made)) ≡ true
numbered_still n line [] made stays some = absurd (cc)
numbered_still n line (s ∷ xs) made stays some = by_test (s.number == n) refl some (numbered_still n line xs made stays)
  where
    by_test : (b : Bool) → (s.number == n) ≡ b → is_some (numbered n (s ∷ xs)) ≡ true
        → (is_some (numbered n xs) ≡ true → is_some (numbered n (filter (λ (y : Standing). not (is_unmap_of y.number line)) xs ++ made)) ≡ true)
        → is_some (numbered n (filter (λ (y : Standing). not (is_unmap_of y.number line)) (s ∷ xs) ++ made)) ≡ true
    by_test true t some rest = let left : is_unmap_of s.number line ≡ false = ap (λ (i : ℕ). is_unmap_of i line) (same_number s.number n t) ∙ stays in rw (left, t) refl
    by_test false t some rest = by_gone (is_unmap_of s.number line) refl (rest (rw t at some))
      where
        by_gone : (b : Bool) → is_unmap_of s.number line ≡ b → is_some (numbered n (filter (λ (y : Standing). not (is_unmap_of y.number line)) xs ++ made)) ≡ true
            → is_some (numbered n (filter (λ (y : Standing). not (is_unmap_of y.number line)) (s ∷ xs) ++ made)) ≡ true
        by_gone true gone later = rw gone later
        by_gone false left later = rw (left, t) later

numbered_last : (n : ℕ) (xs : List Standing) (s : Standing) → s.number ≡ n → is_some (numbered n (xs ++ s ∷ [])) ≡ true
numbered_last n [] s is = let test : (s.number == n) ≡ true = ap (λ (i : ℕ). i == n) is ∙ itself n in rw test refl
numbered_last n (x ∷ xs) s is = by_test (x.number == n) refl (numbered_last n xs s is)
  where
    by_test : (b : Bool) → (x.number == n) ≡ b → is_some (numbered n (xs ++ s ∷ [])) ≡ true → is_some (numbered n (x ∷ (xs ++ s ∷ []))) ≡ true
    by_test true t rest = rw t refl
    by_test false t rest = rw t rest

-- the mappings that lines made, by what each line makes
abbrev Leaves : (List Line → List Standing) → (Line → Option Standing) → Type 0
Leaves left made = (epoch : List Line) (line : Line) → left (epoch ++ line ∷ []) ≡ filter (λ (s : Standing). not (is_unmap_of s.number line)) (left epoch) ++ option_to_list (made line)

own_leaves : (k : ℕ) → Leaves (left_to k) (made_by k)
own_leaves k = left_more_by (made_by k) (left_to k) refl (λ line later. refl)

writing_leaves : Leaves left_for_writing made_for_writing
writing_leaves = left_more_by made_for_writing left_for_writing refl (λ line later. refl)

module _ (left : List Line → List Standing) (made : Line → Option Standing) (leaves : Leaves left made) where
  found_still : (n : ℕ) (epoch : List Line) (line : Line) → is_unmap_of n line ≡ false → is_some (numbered n (left epoch)) ≡ true → is_some (numbered n (left (epoch ++ line ∷ []))) ≡ true
  found_still n epoch line stays some = rw (leaves epoch line) (numbered_still n line (left epoch) (option_to_list (made line)) stays some)

  found_quiet : (n : ℕ) (ys epoch : List Line) → AreQuiet ys → is_some (numbered n (left epoch)) ≡ true → is_some (numbered n (left (epoch ++ ys))) ≡ true
  found_quiet n [] epoch quiet some = subst (λ (ls : List Line). is_some (numbered n (left ls)) ≡ true) (sym (append-nil epoch)) some
  found_quiet n (y ∷ ys) epoch quiet some =
      let q : IsQuiet y = quiet.0 in
      subst (λ (ls : List Line). is_some (numbered n (left ls)) ≡ true) (append_assoc epoch (y ∷ []) ys) (found_quiet n ys (epoch ++ y ∷ []) quiet.1 (found_still n epoch y (q.none_gone n) some))

  found_made : (epoch : List Line) (line : Line) (s : Standing) → made line ≡ Some s → is_some (numbered s.number (left (epoch ++ line ∷ []))) ≡ true
  found_made epoch line s is = rw (leaves epoch line, is) (numbered_last s.number (filter (λ (y : Standing). not (is_unmap_of y.number line)) (left epoch)) s refl)

-- a mapping for writing is one that some job made, and one that may not be kept one that job k made; it stands
abbrev pub IsWriting : List Line → Mapping → Type 0
IsWriting epoch m = m.mode ≡ ReadWrite → is_some (numbered m.number (left_for_writing epoch)) ≡ true

abbrev pub IsReading : Bool → ℕ → List Line → Mapping → Type 0
IsReading keeps k epoch m = (keeps && is_for_writing m.mode) ≡ false → has m.number k epoch ≡ true

abbrev pub HandReads : Bool → List Line → Work → Type 0
HandReads keeps epoch t = AllByRecursion (IsReading keeps t.number epoch) (hand_of t)

-- what the jobs hold and keep, once both ends said that they keep grants
pub record InHands (epoch : List Line) (jobs : HeldJobs) : Type 0 where
  pub keeping : IsKeeping jobs.kept jobs.works
  pub writing : AllByRecursion (IsWriting epoch) (all_hands jobs)
  pub reading : AllByRecursion (HandReads (may_keep jobs.kept) epoch) jobs.works
  pub agreed : may_keep jobs.kept ≡ true → have_kept (kept_by false false) epoch ≡ true

-- lines that unmap nothing leave it
pub hands_quiet : (epoch ys : List Line) (jobs : HeldJobs) → AreQuiet ys → InHands epoch jobs → InHands (epoch ++ ys) jobs
hands_quiet epoch ys jobs quiet h = record {
  keeping = h.keeping;
  writing = all_more (IsWriting epoch) (IsWriting (epoch ++ ys)) (all_hands jobs) (λ m is writes. found_quiet left_for_writing made_for_writing writing_leaves m.number ys epoch quiet (is writes)) h.writing;
  agreed = λ may. have_more (kept_by false false) epoch ys (h.agreed may);
  reading = all_more (HandReads (may_keep jobs.kept) epoch) (HandReads (may_keep jobs.kept) (epoch ++ ys)) jobs.works
      (λ t all. all_more (IsReading (may_keep jobs.kept) t.number epoch) (IsReading (may_keep jobs.kept) t.number (epoch ++ ys)) (hand_of t) (λ m is reads. found_quiet (left_to t.number) (made_by t.number) (own_leaves t.number) m.number ys epoch quiet (is reads)) all) h.reading;
}

-- it stays so after a line that doesn't unmap it
pub writing_stays : (epoch : List Line) (line : Line) (m : Mapping) → is_unmap_of m.number line ≡ false → IsWriting epoch m → IsWriting (epoch ++ line ∷ []) m
writing_stays epoch line m stays is writes = found_still left_for_writing made_for_writing writing_leaves m.number epoch line stays (is writes)

pub reading_stays : (keeps : Bool) (k : ℕ) (epoch : List Line) (line : Line) (m : Mapping) → is_unmap_of m.number line ≡ false → IsReading keeps k epoch m → IsReading keeps k (epoch ++ line ∷ []) m
reading_stays keeps k epoch line m stays is reads = found_still (left_to k) (made_by k) (own_leaves k) m.number epoch line stays (is reads)

-- and after the line in which job k made it
pub writing_made : (k : ℕ) (epoch : List Line) (m : Mapping) (frame : ℕ) → IsWriting (epoch ++ lines.Move (moves.Map (back.Job k) m.gref m.mode m.number frame) ∷ []) m
writing_made k epoch m frame writes =
    found_made left_for_writing made_for_writing writing_leaves epoch (lines.Move (moves.Map (back.Job k) m.gref m.mode m.number frame)) (record { number = m.number; gref = m.gref; mode = m.mode; frame = frame }) (rw writes refl)

pub reading_made : (keeps : Bool) (k : ℕ) (epoch : List Line) (m : Mapping) (frame : ℕ) → IsReading keeps k (epoch ++ lines.Move (moves.Map (back.Job k) m.gref m.mode m.number frame) ∷ []) m
reading_made keeps k epoch m frame reads =
    found_made (left_to k) (made_by k) (own_leaves k) epoch (lines.Move (moves.Map (back.Job k) m.gref m.mode m.number frame)) (record { number = m.number; gref = m.gref; mode = m.mode; frame = frame }) (rw (itself k) refl)

-- what holds of each mapping that was held holds of each that is held after a move of job k, unless the move unmaps it
module _ (k : ℕ) (hands hands' : List Mapping) (Old : Mapping → Type 0) (New : Line → Mapping → Type 0) where
  abbrev Stays : Line → Mapping → Type 0
  Stays line m = is_unmap_of m.number line ≡ false → New line m

  permuted : (line : Line) (xs ys : List Mapping) → IsPermutation xs ys → AllByRecursion (Stays line) xs → AllByRecursion (Stays line) ys
  permuted line xs ys same all = recursion_from_All (Stays line) ys (All-permutation (Stays line) xs ys same (All-from_recursion (Stays line) xs all))

  pub keeps_all : (h : Hypervisor) (who : BackMover) (a' : BackAsk) (o : Outcome) (a : BackAct) → who ≡ back.Job k → back_act h who a' o ≡ Some a → HandsKeep a' a.answer hands hands'
      → ((line : Line) (m : Mapping) → is_unmap_of m.number line ≡ false → Old m → New line m)
      → ((m : Mapping) (frame : ℕ) → New (lines.Move (moves.Map (back.Job k) m.gref m.mode m.number frame)) m)
      → AllByRecursion Old hands → AllByRecursion (Stays (lines.Move a.shown)) hands'
  keeps_all h who a' o a own e keep stays makes old =
      (elim (back_acts h who a' o a e) as (λ mover asked outcome x acts. mover ≡ back.Job k → HandsKeep asked x.answer hands hands' → (line : Line) → line ≡ lines.Move x.shown → AllByRecursion (Stays line) hands') [
        | BackMap gref mode frame is ↦ λ own after line shown.
            let m : Mapping = record { number = h.grants.made + 1; gref = gref; mode = mode } in
            let made : Line = lines.Move (moves.Map (back.Job k) gref mode m.number frame) in
            let same : made ≡ line = sym (shown ∙ ap (λ (w : BackMover). lines.Move (moves.Map w gref mode m.number frame)) own) in
            subst (λ (l : Line). AllByRecursion (Stays l) hands') same (permuted made (m ∷ hands) hands' after (λ left. makes m frame, held made))
        | BackUnmap m ↦ λ own after line shown. (permuted line hands (m ∷ hands') after (held line)).1
        | acts ↦ λ own after line shown. permuted line hands hands' after (held line)
      ]) own keep (lines.Move a.shown) refl
    where
      held : (line : Line) → AllByRecursion (Stays line) hands
      held line = all_more Old (Stays line) hands (λ x was left. stays line x left was) old
