-- The tasks of the indirect pages of a request, their steps, and the tasks that come after them.
use Rattle.std.proofs.Common.{◌≡◌, ℕ, zero, suc, ◌+◌, ◌-◌, ◌*◌, ◌<◌, ◌≤◌, ◌==◌, min, Bool, true, false, if◌then◌else◌, List, [], ◌∷◌, ◌++◌, length, drop, refl, ap, sym, ◌∙◌, length-append, arith}
use Rattle.std.specs.Prelude.{fold, slice_get, slice_index, Option, Some, None, is_none, option_and_then, nat_lt, nat_le, ◌&&◌, ℤ}
use Rattle.std.proofs.lemmas.Bool.Decides.{nat_tests}
use Rattle.std.proofs.lemmas.Option.{none-some, same_Some}
use Rattle.std.proofs.lemmas.List.{get_or_append_left, get_or-append-add}
use Rattle.blk_base.specs.declared.parts.Mode.TheVariants.{ReadOnly}
use Rattle.blk_base.specs.declared.moves.BackMover.{BackMover}
use Rattle.blk_base.specs.declared.moves.BackMover.TheVariants as back
use Rattle.blk_base.specs.declared.moves.Move.{Move}
use Rattle.blk_base.specs.declared.moves.Move.TheVariants as moves
use Rattle.schedule_text.specs.declared.line.Line.{Line}
use Rattle.blk_layout.specs.declared.segment.Segment.{Segment}
use Rattle.blk_layout.specs.Entry.{segment_of, segments_at}
use Rattle.report_rules.specs.declared.walk.Spot.{Spot}
use Rattle.report_rules.specs.declared.work.Task.{Task}
use Rattle.report_rules.specs.declared.work.Task.TheVariants as tasks
use Rattle.report_rules.specs.declared.step.Step.{Step}
use Rattle.report_rules.specs.declared.step.Step.TheVariants as steps
use Rattle.report_rules.specs.Work.{pages_of}
use Rattle.report_rules.specs.Step.{job_step}
use Rattle.report_rules.specs.Walk.{spot, step_at, is_step_at, spot_in, advanced, walked, walk_of}
use Rattle.report_rules.proofs.Copied.{no_segments, one_segment}
use Rattle.ring_laws.proofs.Places.{IsStepOn}
use Rattle.ring_laws.proofs.JobMoves.{itself}
use Rattle.ring_laws.proofs.JobSteps.{StepsBy, takes, rests}

-- what is found is found still, with more after it
slice_more : {X : Type 0} (a b : List X) (n : ℕ) (x : X) → slice_get a n ≡ Some x → slice_get (a ++ b) n ≡ Some x
slice_more [] b n x e = absurd (none-some x e)
slice_more (y ∷ a) b zero x e = e
slice_more (y ∷ a) b (suc n) x e = slice_more a b n x e

-- a job that came some way along the first tasks came as far along all
advanced_more : (a b : List Task) (m : Move) (s after : Spot) → advanced false a m s ≡ Some after → advanced false (a ++ b) m s ≡ Some after
advanced_more a b m s after e = by_found s.refused (slice_get a s.done) refl e
  where
    by_found : (r : Bool) (o : Option Task) → slice_get a s.done ≡ o → (if r then None else spot_in false s.done o s.place s.mapping m) ≡ Some after → (if r then None else spot_in false s.done (slice_get (a ++ b) s.done) s.place s.mapping m) ≡ Some after
    by_found true o found h = absurd (none-some after h)
    by_found false None found h = absurd (none-some after h)
    by_found false (Some task) found h = ap (λ (o : Option Task). spot_in false s.done o s.place s.mapping m) (slice_more a b s.done task found) ∙ h

walked_more : (a b : List Task) (m : Option Move) (x : Option Spot) (after : Spot) → walked false a m x ≡ Some after → walked false (a ++ b) m x ≡ Some after
walked_more a b None x after e = e
walked_more a b (Some m) None after e = absurd (none-some after e)
walked_more a b (Some m) (Some s) after e = advanced_more a b m s after e

lost : (a : List Task) (k : ℕ) (ls : List Line) → fold (λ (s : Option Spot) (line : Line). walked false a (job_step k line) s) None ls ≡ None
lost a k [] = refl
lost a k (l ∷ ls) = ap (λ (o : Option Spot). fold (λ (s : Option Spot) (line : Line). walked false a (job_step k line) s) o ls) (stays (job_step k l)) ∙ lost a k ls
  where
    stays : (m : Option Move) → walked false a m None ≡ None
    stays None = refl
    stays (Some m) = refl

folded_more : (a b : List Task) (k : ℕ) (ls : List Line) (x : Option Spot) (after : Spot) → fold (λ (s : Option Spot) (line : Line). walked false a (job_step k line) s) x ls ≡ Some after → fold (λ (s : Option Spot) (line : Line). walked false (a ++ b) (job_step k line) s) x ls ≡ Some after
folded_more a b k [] x after e = e
folded_more a b k (l ∷ ls) x after e = by_next (walked false a (job_step k l) x) (λ y h. folded_more a b k ls (Some y) after h) refl e
  where
    by_next : (o : Option Spot) → ((y : Spot) → fold (λ (s : Option Spot) (line : Line). walked false a (job_step k line) s) (Some y) ls ≡ Some after → fold (λ (s : Option Spot) (line : Line). walked false (a ++ b) (job_step k line) s) (Some y) ls ≡ Some after)
        → walked false a (job_step k l) x ≡ o → fold (λ (s : Option Spot) (line : Line). walked false a (job_step k line) s) o ls ≡ Some after
        → fold (λ (s : Option Spot) (line : Line). walked false (a ++ b) (job_step k line) s) (walked false (a ++ b) (job_step k l) x) ls ≡ Some after
    by_next None rest q h = absurd (none-some after (sym (lost a k ls) ∙ h))
    by_next (Some y) rest q h = ap (λ (o : Option Spot). fold (λ (s : Option Spot) (line : Line). walked false (a ++ b) (job_step k line) s) o ls) (walked_more a b (job_step k l) x y q) ∙ rest y h

pub walk_more : (a b : List Task) (k : ℕ) (epoch : List Line) (s : Spot) → walk_of false a k epoch ≡ Some s → walk_of false (a ++ b) k epoch ≡ Some s
walk_more a b k epoch s e = folded_more a b k epoch (Some (spot 0 0 false None)) s e

pub steps_more : (a b : List Task) (k : ℕ) (epoch : List Line) (shown : Move) → StepsBy a k epoch shown → StepsBy (a ++ b) k epoch shown
steps_more a b k epoch shown (rests none) = rests none
steps_more a b k epoch shown (takes own s) =
    let on : IsStepOn a k epoch shown = s.on in
    let came = walk_more a b k epoch on.here on.came in
    takes own (record {
      on = record {
        here = on.here;
        after = on.after;
        came = came;
        taken = ap (λ (o : Option Spot). option_and_then (advanced false (a ++ b) shown) o) came ∙ advanced_more a b shown on.here on.after (sym (ap (λ (o : Option Spot). option_and_then (advanced false a shown) o) on.came) ∙ on.taken);
        hand = on.hand;
        whole = on.whole;
      };
      moved = s.moved;
    })

-- the page of a place: 512 segments lie in each before it
some_left : (count : ℕ) → 0 < count → (count == 0) ≡ false
some_left count some = grind (arith, nat_tests)

none_left : (pages : List ℕ) → pages_of 0 pages ≡ []
none_left [] = refl
none_left (gref ∷ pages) = refl

pub page_task : (count : ℕ) (pages : List ℕ) (page gref : ℕ) → slice_get pages page ≡ Some gref → 512 * page < count → slice_get (pages_of count pages) page ≡ Some (tasks.Page gref (2 * min 512 (count - 512 * page)))
page_task count [] page gref e lt = absurd (none-some gref e)
page_task count (g ∷ pages) zero gref e lt =
    let all : count ≡ count - 512 * 0 = omega arith in
    ap (λ (b : Bool). slice_get (if b then [] else tasks.Page g (2 * min 512 count) ∷ pages_of (count - 512) pages) 0) (some_left count (omega arith))
    ∙ (ap (λ (n : ℕ). Some (tasks.Page n (2 * min 512 count))) (same_Some g gref e) ∙ ap (λ (n : ℕ). Some (tasks.Page gref (2 * min 512 n))) all)
page_task count (g ∷ pages) (suc page) gref e lt =
    let rest : count - 512 - 512 * page ≡ count - 512 * suc page = omega arith in
    ap (λ (b : Bool). slice_get (if b then [] else tasks.Page g (2 * min 512 count) ∷ pages_of (count - 512) pages) (suc page)) (some_left count (omega arith))
    ∙ (page_task (count - 512) pages page gref e (omega arith) ∙ ap (λ (n : ℕ). Some (tasks.Page gref (2 * min 512 n))) rest)

-- no more pages than hold the segments
pub page_count : (count : ℕ) (pages : List ℕ) (page gref : ℕ) → slice_get pages page ≡ Some gref → 512 * page < count → count ≤ 512 * (page + 1) → length (pages_of count pages) ≡ page + 1
page_count count [] page gref e lt le = absurd (none-some gref e)
page_count count (g ∷ pages) zero gref e lt le =
    let none : count - 512 ≡ 0 = omega arith in
    ap (λ (b : Bool). length (if b then [] else tasks.Page g (2 * min 512 count) ∷ pages_of (count - 512) pages)) (some_left count (omega arith))
    ∙ ap (λ (n : ℕ). suc (length (pages_of n pages))) none ∙ ap (λ (l : List Task). suc (length l)) (none_left pages)
page_count count (g ∷ pages) (suc page) gref e lt le =
    let rest = page_count (count - 512) pages page gref e (omega arith) (omega arith) in
    ap (λ (b : Bool). length (if b then [] else tasks.Page g (2 * min 512 count) ∷ pages_of (count - 512) pages)) (some_left count (omega arith)) ∙ omega arith

-- the page at hand is the first that is left
pub first_left : (pages : List ℕ) (page gref : ℕ) (more : List ℕ) → drop page pages ≡ gref ∷ more → slice_get pages page ≡ Some gref
first_left [] zero gref more e = absurd (cc)
first_left [] (suc page) gref more e = absurd (cc)
first_left (g ∷ pages) zero gref more e = ap (λ (l : List ℕ). slice_get l 0) e
first_left (g ∷ pages) (suc page) gref more e = first_left pages page gref more e

drop_none : (n : ℕ) → ◌≡◌ {A = List ℕ} (drop n []) []
drop_none zero = refl
drop_none (suc n) = refl

pub drop_next : (pages : List ℕ) (page : ℕ) → drop 1 (drop page pages) ≡ drop (page + 1) pages
drop_next pages zero = refl
drop_next [] (suc page) = sym (drop_none (suc page + 1))
drop_next (g ∷ pages) (suc page) = let next : suc (page + 1) ≡ suc page + 1 = omega arith in drop_next pages page ∙ ap (λ (n : ℕ). drop n (g ∷ pages)) next

-- its steps: the map, and the reads of its words in turn
pub page_map : (gref words k number frame : ℕ) → is_step_at (step_at (tasks.Page gref words) 0) (moves.Map (back.Job k) gref ReadOnly number frame) ≡ true
page_map gref words k number frame = ap (λ (b : Bool). b && true) (itself gref)

pub page_refused : (gref words k : ℕ) (status : ℤ) → is_step_at (step_at (tasks.Page gref words) 0) (moves.MapRefused (back.Job k) gref ReadOnly status) ≡ true
page_refused gref words k status = ap (λ (b : Bool). b && true) (itself gref)

past_map : (place : ℕ) → (place + 1 == 0) ≡ false
past_map place = grind (arith, nat_tests)

by_end : (b : Bool) (step : Step) → is_none (if b then None else Some step) ≡ b
by_end true step = refl
by_end false step = refl

-- there is a step more unless the last word was read
pub page_more : (gref words place : ℕ) → is_none (step_at (tasks.Page gref words) (place + 1)) ≡ nat_lt words (place + 1)
page_more gref words place = ap (λ (b : Bool). is_none (if b then Some (steps.Map gref ReadOnly) else (if nat_lt words (place + 1) then None else Some (steps.Read (place + 1 - 1))))) (past_map place) ∙ by_end (nat_lt words (place + 1)) (steps.Read (place + 1 - 1))

pub page_read : (gref words place word : ℕ) (who : BackMover) (number frame value : ℕ) → place ≡ word + 1 → word < words → is_step_at (step_at (tasks.Page gref words) place) (moves.Read who number frame word value) ≡ true
page_read gref words place word who number frame value is lt =
    let first : (place == 0) ≡ false = grind (arith, nat_tests) in
    let within : nat_lt words place ≡ false = grind (arith, nat_tests) in
    let here : (word == place - 1) ≡ true = grind (arith, nat_tests) in
    rw (first, within) here

-- the segments that words tell
pub segments_push : (words : List ℕ) (n at gref sectors : ℕ) → length words ≡ at + 2 * n → segments_at (words ++ gref ∷ sectors ∷ []) at (n + 1) ≡ segments_at words at n ++ segment_of gref sectors ∷ []
segments_push words zero at gref sectors long =
    let last : at ≡ length words + 0 = omega arith in
    let past : at + 1 ≡ length words + 1 = omega arith in
    let one : slice_index (words ++ gref ∷ sectors ∷ []) at ≡ gref = ap (λ (i : ℕ). slice_index (words ++ gref ∷ sectors ∷ []) i) last ∙ get_or-append-add words (gref ∷ sectors ∷ []) 0 0 in
    let two : slice_index (words ++ gref ∷ sectors ∷ []) (at + 1) ≡ sectors = ap (λ (i : ℕ). slice_index (words ++ gref ∷ sectors ∷ []) i) past ∙ get_or-append-add words (gref ∷ sectors ∷ []) 1 0 in
    one_segment (words ++ gref ∷ sectors ∷ []) at 0 ∙ (rw (one, two, no_segments (words ++ gref ∷ sectors ∷ []) (at + 2), no_segments words at) refl)
segments_push words (suc n) at gref sectors long =
    let one : slice_index (words ++ gref ∷ sectors ∷ []) at ≡ slice_index words at = get_or_append_left words (gref ∷ sectors ∷ []) 0 at (omega arith) in
    let two : slice_index (words ++ gref ∷ sectors ∷ []) (at + 1) ≡ slice_index words (at + 1) = get_or_append_left words (gref ∷ sectors ∷ []) 0 (at + 1) (omega arith) in
    let next : suc n + 1 ≡ suc (n + 1) = omega arith in
    ap (λ (i : ℕ). segments_at (words ++ gref ∷ sectors ∷ []) at i) next
    ∙ (one_segment (words ++ gref ∷ sectors ∷ []) at (n + 1)
    ∙ rw (one, two, segments_push words n (at + 2) gref sectors (omega arith), one_segment words at n) refl)

-- words read later leave them
pub segments_more : (words later : List ℕ) (n at : ℕ) → at + 2 * n ≤ length words → segments_at (words ++ later) at n ≡ segments_at words at n
segments_more words later zero at le = no_segments (words ++ later) at ∙ sym (no_segments words at)
segments_more words later (suc n) at le =
    let one : slice_index (words ++ later) at ≡ slice_index words at = get_or_append_left words later 0 at (omega arith) in
    let two : slice_index (words ++ later) (at + 1) ≡ slice_index words (at + 1) = get_or_append_left words later 0 (at + 1) (omega arith) in
    one_segment (words ++ later) at n ∙ (rw (one, two, segments_more words later n (at + 2) (omega arith)) refl ∙ sym (one_segment words at n))

pub segments_long : (words : List ℕ) (n at : ℕ) → length (segments_at words at n) ≡ n
segments_long words zero at = ap (λ (l : List Segment). length l) (no_segments words at)
segments_long words (suc n) at = let rest = segments_long words n (at + 2) in ap (λ (l : List Segment). length l) (one_segment words at n) ∙ ap suc rest

pub enough_read : (words later : List ℕ) (n : ℕ) → 2 * n ≤ length words → nat_le (2 * n) (length (words ++ later)) ≡ true
enough_read words later n le = let long = length-append words later in grind (arith, nat_tests)
