-- What each job has in its hand it made itself, it stands, and nothing else of the job's does: so a job unmaps only what is its own.
use Rattle.std.proofs.Common.{◌≡◌, ◌≢◌, ◌<◌, ◌≤◌, ℕ, zero, suc, ◌+◌, ◌%◌, ◌^◌, ◌==◌, ◌||◌, not, Bool, true, false, if◌then◌else◌, List, [], ◌∷◌, ◌++◌, remove, refl, ap, sym, ◌∙◌, subst, append_assoc, arith}
use Rattle.std.specs.Prelude.{Option, Some, None, is_some, IsSomeAnd, slice_get, nat_le, take}
use Rattle.std.specs.List.{AllByRecursion, list_any}
use Rattle.std.proofs.lemmas.Option.{none-some}
use Rattle.blk_base.specs.declared.operation.Status.TheVariants.{Error}
use Rattle.blk_base.specs.declared.parts.Mapping.{Mapping}
use Rattle.blk_base.specs.declared.moves.BackMover.TheVariants as mover
use Rattle.blk_base.specs.declared.moves.Move.TheVariants as moves
use Rattle.hypervisor.specs.Hypervisor.{Hypervisor}
use Rattle.hypervisor.specs.Act.{BackAct, Outcome, back_act}
use Rattle.schedule_text.specs.declared.line.Line.{Line}
use Rattle.schedule_text.specs.declared.line.Line.TheVariants as lines
use Rattle.blk_layout.specs.Entry.{request_of}
use Rattle.blk_layout.specs.declared.request.RawRequest.{RawRequest}
use Rattle.blk_layout.specs.declared.request.RawRequest.TheVariants.{Direct, Discard, Indirect}
use Rattle.segment_list.specs.declared.verdict.Verdict.{Verdict}
use Rattle.segment_list.specs.declared.verdict.Verdict.TheVariants as verdict
use Rattle.segment_list.specs.Verdict.{verdict_of}
use Rattle.report_rules.specs.declared.standing.Standing.{Standing}
use Rattle.report_rules.specs.Obeys.{Obeys}
use Rattle.report_rules.specs.Standing.{this_epoch, is_unmap_of, standing_after, numbered}
use Rattle.report_rules.specs.Made.{left_to}
use Rattle.report_rules.proofs.Obeys.{obeys_more}
use Rattle.back_jobs.specs.declared.stage.JobStage.{JobStage}
use Rattle.back_jobs.specs.declared.stage.JobStage.TheVariants as stage
use Rattle.back_jobs.specs.Work.{Work, step_of, begun, moving, paging, ended, frameless}
use Rattle.back_jobs.specs.Jobs.{place_of, work_at, asked, told_at as told_works, effect_at, mapping_at, removed_at}
use Rattle.back_jobs.proofs.Hands.{IsAmong, place_among}
use Rattle.blk_back.specs.View.{View}
use Rattle.blk_back.specs.Step.{told_effect}
use Rattle.ring_laws.proofs.JobLines.{is_of}
use Rattle.ring_laws.proofs.BackChange.{Change, kept, replies, halts, fetches}
use Rattle.ring_laws.proofs.Lists.{AreApart, all_first, all_second, all_both, all_more, all_pairs}
use Rattle.ring_laws.proofs.Works.{numbers, others_before, others_after}
use Rattle.ring_laws.proofs.JobSteps.{told_at}
use Rattle.ring_laws.proofs.JobTurn.{IsSame, step_same, other_number}
use Rattle.ring_laws.proofs.BackTells.{begun_number}
use Rattle.ring_laws.proofs.JobTells.{lines_of_job, found_number}
use Rattle.ring_laws.proofs.Makers.{Holds, MakeNone, holds_more, unseen_left, AreQuiet, quiet_none, quiet_made, quiet_holds, quiet_epoch, IsMine, IsOpen, open_more, unmapped_other}
use Rattle.ring_laws.proofs.MakerLines.{AreCalm, calm_quiet, calm_open, back_calm}
use Rattle.ring_laws.proofs.MakerJob.{Way, quietly, takes, gives, Makes, job_makes}
use Rattle.ring_laws.proofs.EntryWords.{epoch_longer}

abbrev pub IsMadeBy : List Line → Work → Type 0
IsMadeBy epoch t = Holds (mapping_at t.stage) (left_to t.number epoch)

-- the lines keep the rules on what jobs unmap and touch, and the jobs of a back that serves made what they have in their hands, and have nothing else
pub record Made (before : List Line) (v : View) : Type 0 where
  pub obeys : Obeys IsMine before
  pub hands : is_some v.halted ≡ false → AllByRecursion (IsMadeBy (this_epoch before)) v.jobs.works

-- lines that unmap nothing
pub quiet_hands : (before ys : List Line) (works : List Work) → AreQuiet ys → AllByRecursion (IsMadeBy (this_epoch before)) works → AllByRecursion (IsMadeBy (this_epoch (before ++ ys))) works
quiet_hands before ys works quiet all =
    subst (λ (ls : List Line). AllByRecursion (IsMadeBy ls) works) (sym (quiet_epoch before ys quiet))
    (all_more (IsMadeBy (this_epoch before)) (IsMadeBy (this_epoch before ++ ys)) works (λ t made. quiet_holds (mapping_at t.stage) t.number ys (this_epoch before) quiet made) all)

pub made_aside : (before ys : List Line) (v : View) → AreCalm ys → Made before v → Made (before ++ ys) v
made_aside before ys v calm m = record { obeys = open_more before ys (calm_open ys calm) m.obeys; hands = λ runs. quiet_hands before ys v.jobs.works (calm_quiet ys calm) (m.hands runs) }

-- a job that begins has nothing in its hand
either_empty : (b : Bool) (x y : Work) → mapping_at x.stage ≡ None → mapping_at y.stage ≡ None → (let t : Work = if b then x else y in mapping_at t.stage) ≡ None
either_empty true x y p q = p
either_empty false x y p q = q

begun_empty : (n : ℕ) (request : RawRequest) (size : ℕ) (v : Verdict) → (let t : Work = begun n request size v in mapping_at t.stage) ≡ None
begun_empty n (Direct op count device id sector segments) size (verdict.Serve plan) =
    let request : RawRequest = Direct op count device id sector segments in
    let other = either_empty (op == 3) (frameless n request size sector stage.Flush) (ended n request size (stage.Done Error)) refl refl in
    either_empty (nat_le op 2) (moving n request size (not (op == 0)) sector (take count segments)) _ refl other
begun_empty n (Discard flag device id sector count) size (verdict.Serve plan) = refl
begun_empty n (Indirect op count device id sector pages) size (verdict.Serve plan) =
    let request : RawRequest = Indirect op count device id sector pages in
    either_empty (nat_le count 960) (paging n request size (not (op == 0)) sector count pages) (ended n request size (stage.Done Error)) refl refl
begun_empty n request size other = refl

-- of a number that no line has
begun_made : (epoch : List Line) (fetched : ℕ) (t : Work) → t.number ≡ (fetched + 1) % 2 ^ 64 → mapping_at t.stage ≡ None → fetched < 2 ^ 64 → 1 ≤ t.number → list_any (is_of (fetched + 1)) epoch ≡ false → IsMadeBy epoch t
begun_made epoch fetched t number hand small first none =
    let is : t.number ≡ fetched + 1 = next fetched t.number number small first in
    subst (λ (o : Option Mapping). Holds o (left_to t.number epoch)) (sym hand) (ap (λ (k : ℕ). left_to k epoch) is ∙ unseen_left (fetched + 1) epoch none)
  where
    next : (f n : ℕ) → n ≡ (f + 1) % 2 ^ 64 → f < 2 ^ 64 → 1 ≤ n → n ≡ f + 1
    next f n e lt some = omega arith

removed_all : (P : Work → Type 0) (works : List Work) (i : ℕ) → AllByRecursion P works → AllByRecursion P (remove works i)
removed_all P [] zero all = tt
removed_all P [] (suc i) all = tt
removed_all P (w ∷ works) zero all = all.1
removed_all P (w ∷ works) (suc i) all = (all.0, removed_all P works i all.1)

pub removed_place : (P : Work → Type 0) (works : List Work) (place : Option ℕ) → AllByRecursion P works → AllByRecursion P (removed_at works place)
removed_place P works None all = all
removed_place P works (Some i) all = removed_all P works i all

-- what a move of the back makes of the jobs
pub changed_hands : (words : ℕ) (epoch : List Line) (old new : View) → Change words old new → is_some new.halted ≡ false → old.fetched < 2 ^ 64 → list_any (is_of (old.fetched + 1)) epoch ≡ false → AllByRecursion (λ (t : Work). 1 ≤ t.number) new.jobs.works
    → AllByRecursion (IsMadeBy epoch) old.jobs.works → AllByRecursion (IsMadeBy epoch) new.jobs.works
changed_hands words epoch old new (kept works fetched) runs small none first all = subst (λ (ws : List Work). AllByRecursion (IsMadeBy epoch) ws) (sym works) all
changed_hands words epoch old new (replies works fetched) runs small none first all = subst (λ (ws : List Work). AllByRecursion (IsMadeBy epoch) ws) (sym works) (removed_place (IsMadeBy epoch) old.jobs.works _ all)
changed_hands words epoch old new (halts over fetched) runs small none first all = absurd (cc)
changed_hands words epoch old new (fetches works fetched at some) runs small none first all =
    let t : Work = begun ((old.fetched + 1) % 2 ^ 64) (request_of old.shape.abi new.ring.entry) old.jobs.info.sectors (verdict_of (request_of old.shape.abi new.ring.entry) old.jobs.info) in
    let firsts : AllByRecursion (λ (u : Work). 1 ≤ u.number) (old.jobs.works ++ t ∷ []) = subst (λ (ws : List Work). AllByRecursion (λ (u : Work). 1 ≤ u.number) ws) works first in
    let request : RawRequest = request_of old.shape.abi new.ring.entry in
    let number = begun_number ((old.fetched + 1) % 2 ^ 64) old.jobs.info.sectors request (verdict_of request old.jobs.info) in
    let empty = begun_empty ((old.fetched + 1) % 2 ^ 64) request old.jobs.info.sectors (verdict_of request old.jobs.info) in
    let made : IsMadeBy epoch t = begun_made epoch old.fetched t number empty small (all_second (λ (u : Work). 1 ≤ u.number) old.jobs.works (t ∷ []) firsts).0 none in
    subst (λ (ws : List Work). AllByRecursion (IsMadeBy epoch) ws) (sym works) (all_both (IsMadeBy epoch) old.jobs.works (t ∷ []) all (made, tt))

-- the mapping in the hand of a job stands by the lines
abbrev pub HandStands : List Line → Work → Type 0
HandStands ls t = (m : Mapping) → mapping_at t.stage ≡ Some m → IsSomeAnd (numbered m.number (standing_after ls)) (λ (x : Standing). x.gref ≡ m.gref)

-- after a job's lines
record AfterAll (before ys : List Line) (k : ℕ) : Type 0 where
  epoch : this_epoch (before ++ ys) ≡ this_epoch before ++ ys
  none : (n gref : ℕ) → IsSomeAnd (numbered n (standing_after (before ++ ys))) (λ (x : Standing). x.gref ≡ gref) → list_any (is_unmap_of n) ys ≡ false
  others : (j : ℕ) → j ≢ k → MakeNone j ys

past : (before ys : List Line) (k : ℕ) (s : JobStage) → Way k s ys → AfterAll before ys k
past before ys k s (quietly quiet) = record {
  epoch = quiet_epoch before ys quiet;
  none = λ n gref stands. quiet_none n ys quiet;
  others = λ j other. quiet_made j ys quiet;
}
past before ys k s (takes gref number frame mode one) = record {
  epoch = subst (λ (ls : List Line). this_epoch (before ++ ls) ≡ this_epoch before ++ ls) (sym one) (epoch_longer before (lines.Move (moves.Map (mover.Job k) gref mode number frame)) refl);
  none = λ n gref' stands. ap (λ (ls : List Line). list_any (is_unmap_of n) ls) one;
  others = λ j other. subst (λ (ls : List Line). MakeNone j ls) (sym one) (rw (other_number j k other) refl, tt);
}
past before ys k s (gives m at one) = record {
  epoch = subst (λ (ls : List Line). this_epoch (before ++ ls) ≡ this_epoch before ++ ls) (sym one) (epoch_longer before (lines.Move (moves.Unmap (mover.Job k) m.number)) refl);
  none = λ n gref stands.
      ap (λ (ls : List Line). list_any (is_unmap_of n) ls) one
      ∙ ap (λ (b : Bool). b || false) (unmapped_other before (mover.Job k) m.number n (λ (x : Standing). x.gref ≡ gref) (subst (λ (ls : List Line). IsSomeAnd (numbered n (standing_after (before ++ ls))) (λ (x : Standing). x.gref ≡ gref)) one stands));
  others = λ j other. subst (λ (ls : List Line). MakeNone j ls) (sym one) (refl, tt);
}

-- the rules, after a job's move and what is told of it
told_obeys : (before told : List Line) (line : Line) → Obeys IsMine before → IsMine before line → AllByRecursion IsOpen told → Obeys IsMine (before ++ line ∷ told)
told_obeys before told line obeys mine opens = subst (λ (ls : List Line). Obeys IsMine ls) (append_assoc before (line ∷ []) told) (open_more (before ++ line ∷ []) told opens (obeys_more IsMine before line obeys mine))

-- the others around a job have other numbers
-- another job, of which the lines make and unmap nothing
record IsOther (before ys : List Line) (k : ℕ) (u : Work) : Type 0 where
  apart : u.number ≢ k
  stands : HandStands (before ++ ys) u

all_other : (before ys : List Line) (k : ℕ) (works : List Work) → AllByRecursion (λ (u : Work). u.number ≢ k) works → AllByRecursion (HandStands (before ++ ys)) works → AllByRecursion (IsOther before ys k) works
all_other before ys k works apart stands = all_pairs (λ (u : Work). u.number ≢ k) (HandStands (before ++ ys)) (IsOther before ys k) works (λ u other s. record { apart = other; stands = s }) apart stands

-- the lines and the jobs after a job's move
pub record Turned (before ys : List Line) (works : List Work) : Type 0 where
  pub obeys : Obeys IsMine (before ++ ys)
  pub hands : AllByRecursion (IsMadeBy (this_epoch (before ++ ys))) works

pub job_turned : (before : List Line) (h : Hypervisor) (works : List Work) (k : ℕ) (o : Outcome) (a : BackAct) (place : Option ℕ) (waits : Bool) (found : Option Work) → place_of works k ≡ place → work_at works place ≡ found → back_act h (mover.Job k) (asked waits found) o ≡ Some a
    → Obeys IsMine before → AreApart (numbers works) → AllByRecursion (IsMadeBy (this_epoch before)) works → AllByRecursion (HandStands (before ++ lines_of_job found a)) (told_works works place found a.answer) → Turned before (lines_of_job found a) (told_works works place found a.answer)
job_turned before h works k o a place waits None at is e obeys apart all stands = absurd (none-some a e)
job_turned before h works k o a place true (Some t) at is e obeys apart all stands = absurd (none-some a e)
job_turned before h works k o a None false (Some t) at is e obeys apart all stands = absurd (none-some t is)
job_turned before h works k o a (Some place) false (Some t) at is e obeys apart all stands =
    let ys : List Line = lines_of_job (Some t) a in
    let among : IsAmong works place t = place_among works place t is in
    let number : t.number ≡ k = found_number works k place t at is in
    let parts : AllByRecursion (IsMadeBy (this_epoch before)) (among.front ++ t ∷ among.rest) = subst (λ (ws : List Work). AllByRecursion (IsMadeBy (this_epoch before)) ws) among.is all in
    let later : AllByRecursion (IsMadeBy (this_epoch before)) (t ∷ among.rest) = all_second (IsMadeBy (this_epoch before)) among.front (t ∷ among.rest) parts in
    let own : Holds (mapping_at t.stage) (left_to k (this_epoch before)) = subst (λ (i : ℕ). Holds (mapping_at t.stage) (left_to i (this_epoch before))) number later.0 in
    let makes : Makes before k t.stage t a = job_makes before h k t.stage t o a own e in
    let told : List Line = told_at t.stage t a.answer in
    let b : AfterAll before ys k = past before ys k t.stage makes.way in
    let new : Work = step_of t a.answer in
    let same : IsSame t (step_of t a.answer) = step_same t.stage t a.answer in
    let standing : AllByRecursion (HandStands (before ++ ys)) (among.front ++ step_of t a.answer ∷ among.rest) = subst (λ (ws : List Work). AllByRecursion (HandStands (before ++ ys)) ws) (among.set new) stands in
    let apart_now : AreApart (numbers (among.front ++ t ∷ among.rest)) = subst (λ (ws : List Work). AreApart (numbers ws)) among.is apart in
    let others : (u : Work) → IsOther before ys t.number u → IsMadeBy (this_epoch before) u → IsMadeBy (this_epoch before ++ ys) u =
    λ u s made. holds_more (mapping_at u.stage) u.number ys (this_epoch before) (b.others u.number (λ e'. s.apart (e' ∙ sym number))) (λ m e'. b.none m.number m.gref (s.stands m e')) made in
    let mine : IsMadeBy (this_epoch before ++ ys) (step_of t a.answer) = subst (λ (i : ℕ). Holds (mapping_at new.stage) (left_to i (this_epoch before ++ ys))) (sym (same.number ∙ number)) makes.hand in
    let fronts : AllByRecursion (IsOther before ys t.number) among.front = all_other before ys t.number among.front (others_before among.front among.rest t apart_now) (all_first (HandStands (before ++ ys)) among.front (step_of t a.answer ∷ among.rest) standing) in
    let rests : AllByRecursion (IsOther before ys t.number) among.rest = all_other before ys t.number among.rest (others_after among.front among.rest t apart_now) (all_second (HandStands (before ++ ys)) among.front (step_of t a.answer ∷ among.rest) standing).1 in
    let front = all_pairs (IsOther before ys t.number) (IsMadeBy (this_epoch before)) (IsMadeBy (this_epoch before ++ ys)) among.front others fronts (all_first (IsMadeBy (this_epoch before)) among.front (t ∷ among.rest) parts) in
    let rest = all_pairs (IsOther before ys t.number) (IsMadeBy (this_epoch before)) (IsMadeBy (this_epoch before ++ ys)) among.rest others rests later.1 in
    let joined : AllByRecursion (IsMadeBy (this_epoch before ++ ys)) (among.front ++ step_of t a.answer ∷ among.rest) = all_both (IsMadeBy (this_epoch before ++ ys)) among.front (step_of t a.answer ∷ among.rest) front (mine, rest) in
    record {
      obeys = told_obeys before told (lines.Move a.shown) obeys makes.mine (calm_open told (back_calm (told_effect (effect_at t.stage t a.answer)) a.answer));
      hands = subst (λ (ls : List Line). AllByRecursion (IsMadeBy ls) (told_works works (Some place) (Some t) a.answer)) (sym b.epoch) (subst (λ (ws : List Work). AllByRecursion (IsMadeBy (this_epoch before ++ ys)) ws) (sym (among.set new)) joined);
    }

pub all_by_place : {X : Type 0} (P : X → Type 0) (xs : List X) → ((i : ℕ) (x : X) → slice_get xs i ≡ Some x → P x) → AllByRecursion P xs
all_by_place P [] f = tt
all_by_place P (x ∷ xs) f = (f zero x refl, all_by_place P xs (λ i y e. f (suc i) y e))
