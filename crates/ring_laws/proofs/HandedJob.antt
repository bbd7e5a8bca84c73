-- A move of a job of a back that keeps mappings: it goes through what the job has in its hand, and what the jobs hold and keep then they made.
use Rattle.std.proofs.Common.{◌≤◌, ◌&&◌, length, true≢false, arith, ◌≡◌, ℕ, ◌==◌, ◌||◌, not, Bool, true, false, if◌then◌else◌, List, [], ◌∷◌, ◌++◌, refl, ap, sym, ◌∙◌, subst, append-nil}
use Rattle.std.specs.Prelude.{nat_eq, Option, Some, None, is_some, IsPermutation, slice_set}
use Rattle.std.specs.List.{AllByRecursion}
use Rattle.std.specs.Option.{option_to_list}
use Rattle.std.proofs.lemmas.Option.{none-some, same_Some}
use Rattle.std.proofs.lemmas.List.Sorted.{IsPermutation-refl}
use Rattle.blk_base.specs.declared.parts.Mapping.{Mapping}
use Rattle.blk_base.specs.declared.parts.Mode.{Mode}
use Rattle.blk_base.specs.declared.parts.Mode.TheVariants.{ReadOnly, ReadWrite}
use Rattle.blk_base.specs.declared.ask.BackAsk.{BackAsk}
use Rattle.blk_base.specs.declared.ask.BackAsk.TheVariants as ask
use Rattle.blk_base.specs.declared.moves.BackMover.{BackMover}
use Rattle.blk_base.specs.declared.moves.BackMover.TheVariants as back
use Rattle.blk_layout.specs.declared.segment.Segment.{Segment}
use Rattle.hypervisor.specs.Hypervisor.{Hypervisor}
use Rattle.hypervisor.specs.Act.{BackAct, Outcome, back_act}
use Rattle.persist_grants.specs.KeptMappings.{KeptMappings, may_keep, mapping_for, mappings_of}
use Rattle.persist_grants.specs.PutBack.{makes_room, handed_out, with_mapping, answer_of}
use Rattle.schedule_text.specs.declared.line.Line.{Line}
use Rattle.schedule_text.specs.declared.line.Line.TheVariants as lines
use Rattle.report_rules.specs.Standing.{this_epoch, is_unmap_of, numbered}
use Rattle.report_rules.specs.Made.{held_by, kept_before}
use Rattle.back_jobs.specs.declared.stage.JobStage.{JobStage}
use Rattle.back_jobs.specs.declared.stage.JobStage.TheVariants as stage
use Rattle.back_jobs.specs.Work.{Work, IsAnswer, ask_at, map_in, page_ask, mode_of, step_of, rest_of, next_segment, sector_stage}
use Rattle.back_jobs.specs.Jobs.{HeldJobs, place_of, work_at, mapping_at}
use Rattle.back_jobs.specs.Hands.{hand_of, hands_in, HandsKeep}
use Rattle.back_jobs.specs.Keeping.{Settled, ask_with, ask_in, asked_in, begun_with, takes, returned, failed_with, settled_at, settled, told_keeping, all_hands, AreKeepable, IsWritableAt}
use Rattle.back_jobs.proofs.Hands.{IsAmong, place_among, hand_step_in}
use Rattle.back_jobs.proofs.Kept.{Facts, told_facts}
use Rattle.back_jobs.proofs.Settling.{found_keepable, keepable_with, out_in_mode, step_writable, settled_may, writable_at, told_keeping_all, keep_after}
use Rattle.split_model.proofs.Acting.{BackRead, BackWrite, BackUnmap, back_acts}
use Rattle.std.specs.Map.{lookup}
use Rattle.std.proofs.lemmas.Bool.Decides.{nat_tests}
use Rattle.grant_table.specs.Entry.{is_for_writing}
use Rattle.report_rules.specs.Published.{kept_by}
use Rattle.back_jobs.proofs.Bounds.{AreFew}
use Rattle.ring_laws.proofs.Offered.{have_more}
use Rattle.ring_laws.specs.Handed.{were_persistent, is_handed, IsHandedBy, IsHandedAt}
use Rattle.ring_laws.proofs.Lists.{all_first, all_second, all_both, all_pairs}
use Rattle.ring_laws.proofs.JobTells.{found_number}
use Rattle.ring_laws.proofs.Handed.{IsWriting, IsReading, HandReads, InHands, writing_stays, writing_made, reading_stays, reading_made, keeps_all}

-- what holds of each mapping for writing, and of the one in a job's hand, holds of the one in its hand once it settled
module _ (Q : Mapping → Type 0) where
  abbrev Hand : Work → Type 0
  Hand t = AllByRecursion Q (hand_of t)

  begun_all : (o : Option Mapping) (t : Work) → ((m : Mapping) → o ≡ Some m → Q m) → Hand t → Hand (begun_with o t)
  begun_all None t taken all = all
  begun_all (Some m) t taken all = by_writes t.writes
    where
      by_writes : (b : Bool) → AllByRecursion Q (option_to_list (mapping_at (sector_stage b m)))
      by_writes true = (taken m refl, tt)
      by_writes false = (taken m refl, tt)

  takes_all : ((m : Mapping) → m.mode ≡ ReadWrite → Q m) → (kept : KeptMappings) (rest : List Segment) (t : Work) → AreKeepable kept → Hand t → Hand (let s : Settled = takes kept rest t in s.job)
  takes_all written kept [] t keepable all = all
  takes_all written kept (s ∷ rest) t keepable all = begun_all (mapping_for kept s.gref) t (λ m found. written m (found_keepable s.gref kept.entries m keepable found)) all

  next_all : (t : Work) (rest : List Segment) → Hand (next_segment t rest)
  next_all t [] = tt
  next_all t (s ∷ rest) = tt

  returned_all : ((m : Mapping) → m.mode ≡ ReadWrite → Q m) → (o : Option Mapping) (kept : KeptMappings) (t : Work) → AreKeepable kept → ((m : Mapping) → o ≡ Some m → Q m) → Hand (let s : Settled = returned o kept t in s.job)
  returned_all written (Some out) kept t keepable given = (given out refl, tt)
  returned_all written None kept t keepable given = takes_all written kept (rest_of t.rest) (next_segment t (rest_of t.rest)) keepable (next_all t (rest_of t.rest))

  failed_all : (o : Option Mapping) (t : Work) → ((m : Mapping) → o ≡ Some m → Q m) → Hand (failed_with o t)
  failed_all (Some out) t given = (given out refl, tt)
  failed_all None t given = tt

  out_all : ((m : Mapping) → m.mode ≡ ReadWrite → Q m) → (kept : KeptMappings) (m out : Mapping) → Q m → (may_keep kept ≡ true → m.mode ≡ ReadWrite) → AreKeepable kept → handed_out kept m.gref m ≡ Some out → Q out
  out_all written kept m out own writable keepable is = by_cap (kept.cap == 0) refl
    where
      by_cap : (b : Bool) → (kept.cap == 0) ≡ b → Q out
      by_cap true none = subst Q (same_Some m out (sym (ap (λ (b : Bool). if b then Some m else makes_room kept (mapping_for kept m.gref)) none) ∙ is)) own
      by_cap false some =
          let writes : m.mode ≡ ReadWrite = writable (ap not some) in
          written out (out_in_mode kept m out false (ap answer_of (sym is)) (λ may. writes) (λ reads. writes) keepable refl)

  in_hand : (t : Work) (s : JobStage) → t.stage ≡ s → Hand t → AllByRecursion Q (option_to_list (mapping_at s))
  in_hand t s is all = subst (λ (x : JobStage). AllByRecursion Q (option_to_list (mapping_at x))) is all

  settled_all : ((m : Mapping) → m.mode ≡ ReadWrite → Q m) → (s : JobStage) (kept : KeptMappings) (t : Work) → t.stage ≡ s → (may_keep kept ≡ true → IsWritableAt s) → AreKeepable kept → Hand t → Hand (let x : Settled = settled_at s kept t in x.job)
  settled_all written stage.Map kept t is writable keepable all = takes_all written kept t.rest t keepable all
  settled_all written (stage.Unmap m) kept t is writable keepable all =
      returned_all written (handed_out kept m.gref m) (with_mapping kept m.gref m) t (keepable_with kept m writable keepable) (λ out given. out_all written kept m out (in_hand t (stage.Unmap m) is all).0 writable keepable given)
  settled_all written (stage.Abort m) kept t is writable keepable all = failed_all (handed_out kept m.gref m) t (λ out given. out_all written kept m out (in_hand t (stage.Abort m) is all).0 writable keepable given)
  settled_all written s kept t is writable keepable all = all

  -- where none may be kept the hand stays as it is
  settled_none : (s : JobStage) (kept : KeptMappings) (t : Work) → t.stage ≡ s → (kept.cap == 0) ≡ true → kept.entries ≡ [] → Hand t → Hand (let x : Settled = settled_at s kept t in x.job)
  settled_none stage.Map kept t is none empty all = by_rest t.rest
    where
      by_rest : (rest : List Segment) → Hand (let x : Settled = takes kept rest t in x.job)
      by_rest [] = all
      by_rest (s ∷ rest) = begun_all (mapping_for kept s.gref) t (λ m found. absurd (none-some m (sym (ap (λ (es : List (ℕ × Mapping)). lookup (nat_eq s.gref) es) empty) ∙ found))) all
  settled_none (stage.Unmap m) kept t is none empty all =
      subst (λ (o : Option Mapping). Hand (let x : Settled = returned o (with_mapping kept m.gref m) t in x.job)) (sym (ap (λ (b : Bool). if b then Some m else makes_room kept (mapping_for kept m.gref)) none)) ((in_hand t (stage.Unmap m) is all).0, tt)
  settled_none (stage.Abort m) kept t is none empty all =
      subst (λ (o : Option Mapping). Hand (failed_with o t)) (sym (ap (λ (b : Bool). if b then Some m else makes_room kept (mapping_for kept m.gref)) none)) ((in_hand t (stage.Abort m) is all).0, tt)
  settled_none s kept t is none empty all = all

no_entries : (es : List (ℕ × Mapping)) (cap : ℕ) → length es ≤ cap → (cap == 0) ≡ true → es ≡ []
no_entries [] cap few none = refl
no_entries (e ∷ es) cap few none = absurd (let is : cap ≡ 0 = grind (arith, nat_tests) in omega arith)

-- so it is of each mapping for writing that may be kept
pub settled_hand : (Q : Mapping → Type 0) (kept : KeptMappings) (t : Work) → AreFew kept → (may_keep kept ≡ true → (m : Mapping) → m.mode ≡ ReadWrite → Q m) → (may_keep kept ≡ true → IsWritableAt t.stage) → AreKeepable kept → AllByRecursion Q (hand_of t)
    → AllByRecursion Q (hand_of (let x : Settled = settled kept t in x.job))
settled_hand Q kept t few written writable keepable all = by_cap (kept.cap == 0) refl
  where
    by_cap : (b : Bool) → (kept.cap == 0) ≡ b → AllByRecursion Q (hand_of (let x : Settled = settled kept t in x.job))
    by_cap true none = settled_none Q t.stage kept t refl none (no_entries kept.entries kept.cap few none) all
    by_cap false some = settled_all Q (written (ap not some)) t.stage kept t refl writable keepable all

-- the mapping that an ask touches or unmaps
abbrev touched : BackAsk → Option Mapping
touched (ask.Read m word) = Some m
touched (ask.Write m word value) = Some m
touched (ask.Unmap m) = Some m
touched a' = None

-- a job's is the one in its hand
none_mapped : (rest : List Segment) (mode : Mode) (m : Mapping) → touched (map_in rest mode) ≡ Some m → ⊥
none_mapped [] mode m e = none-some m e
none_mapped (s ∷ rest) mode m e = none-some m e

none_paged : (pages : List ℕ) (m : Mapping) → touched (page_ask pages) ≡ Some m → ⊥
none_paged [] m e = none-some m e
none_paged (gref ∷ pages) m e = none-some m e

touched_at : (s : JobStage) (t : Work) (m : Mapping) → touched (ask_at s t) ≡ Some m → mapping_at s ≡ Some m
touched_at stage.MapPage t m e = absurd (none_paged t.pages m e)
touched_at stage.Map t m e = absurd (none_mapped t.rest (mode_of t.writes) m e)
touched_at (stage.PageReference n) t m e = e
touched_at (stage.PageSectors n gref) t m e = e
touched_at (stage.UnmapPage n) t m e = e
touched_at (stage.ReadWord n k) t m e = e
touched_at (stage.WriteWord n k) t m e = e
touched_at (stage.Unmap n) t m e = e
touched_at (stage.Abort n) t m e = e
touched_at s t m e = absurd (none-some m e)

touched_with : (keeps : Bool) (s : JobStage) (t : Work) (m : Mapping) → touched (ask_with keeps s t) ≡ Some m → mapping_at s ≡ Some m
touched_with true stage.Map t m e = absurd (none_mapped t.rest ReadWrite m e)
touched_with true s t m e = touched_at s t m e
touched_with false s t m e = touched_at s t m e

-- a move that touches such a mapping
pub acts_handed : (before : List Line) (h : Hypervisor) (who : BackMover) (a' : BackAsk) (o : Outcome) (a : BackAct) → back_act h who a' o ≡ Some a → ((m : Mapping) → touched a' ≡ Some m → IsHandedBy who before m.number) → IsHandedAt before (lines.Move a.shown)
acts_handed before h who a' o a e through =
    (elim (back_acts h who a' o a e) as (λ mover asked outcome x acts. ((m : Mapping) → touched asked ≡ Some m → IsHandedBy mover before m.number) → IsHandedAt before (lines.Move x.shown)) [
      | BackRead m word ↦ λ f. f m refl
      | BackWrite m word value ↦ λ f. f m refl
      | BackUnmap m ↦ λ f. f m refl
      | acts ↦ λ f. tt
    ]) through

or_true : (b : Bool) → (b || true) ≡ true
or_true true = refl
or_true false = refl

handed_by : (keeps : Bool) (k : ℕ) (before : List Line) (m : Mapping) → (keeps ≡ true → were_persistent before ≡ true) → IsReading keeps k (this_epoch before) m → IsWriting (this_epoch before) m → is_handed k before m.number ≡ true
handed_by keeps k before m agreed reads writes = by_kept (keeps && is_for_writing m.mode) refl
  where
    both_of : (a b : Bool) → (a && b) ≡ true → (a ≡ true) × (b ≡ true)
    both_of true b e = (refl, e)
    both_of false b e = absurd (cc)

    writing : (mode : Mode) → is_for_writing mode ≡ true → mode ≡ ReadWrite
    writing ReadOnly e = absurd (cc)
    writing ReadWrite e = refl

    by_kept : (b : Bool) → (keeps && is_for_writing m.mode) ≡ b → is_handed k before m.number ≡ true
    by_kept false is = ap (λ (b : Bool). b || (were_persistent before && is_some (numbered m.number (kept_before before)))) (reads is)
    by_kept true is =
        let both = both_of keeps (is_for_writing m.mode) is in
        ap (λ (b : Bool). is_some (numbered m.number (held_by k before)) || (b && is_some (numbered m.number (kept_before before)))) (agreed both.0)
        ∙ (ap (λ (b : Bool). is_some (numbered m.number (held_by k before)) || b) (writes (writing m.mode both.1)) ∙ or_true (is_some (numbered m.number (held_by k before))))

-- the hands of jobs, one by one
each_hand : (P : Mapping → Type 0) (works : List Work) → AllByRecursion P (hands_in works) → AllByRecursion (λ (t : Work). AllByRecursion P (hand_of t)) works
each_hand P [] all = tt
each_hand P (t ∷ works) all = (all_first P (hand_of t) (hands_in works) all, each_hand P works (all_second P (hand_of t) (hands_in works) all))

hand_keep : (keeps : Bool) (t : Work) (a : BackAct) → IsAnswer (ask_in keeps t) a.answer → HandsKeep (ask_in keeps t) a.answer (hand_of t) (hand_of (step_of t a.answer))
hand_keep keeps t a allowed =
    let now : List Mapping = hand_of (step_of t a.answer) in
    subst (λ (l : List Mapping). HandsKeep (ask_in keeps t) a.answer l now) (append-nil (hand_of t))
    (keep_after (ask_in keeps t) a.answer (hand_of t) now [] now (hand_step_in keeps t a.answer allowed) (subst (λ (l : List Mapping). IsPermutation l now) (sym (append-nil now)) (IsPermutation-refl now)))

abbrev pub IsLeft : Line → Mapping → Type 0
IsLeft line m = is_unmap_of m.number line ≡ false

-- a job's move, and the jobs after it
pub record JobHands (before : List Line) (a : BackAct) (now : HeldJobs) : Type 0 where
  pub mine : IsHandedAt before (lines.Move a.shown)
  pub hands : InHands (this_epoch before ++ lines.Move a.shown ∷ []) now

pub job_hands : (before : List Line) (h : Hypervisor) (jobs : HeldJobs) (k : ℕ) (o : Outcome) (a : BackAct) (place : Option ℕ) (held : Bool) (found : Option Work) → place_of jobs.works k ≡ place → work_at jobs.works place ≡ found
    → back_act h (back.Job k) (asked_in (may_keep jobs.kept) held found) o ≡ Some a → IsAnswer (asked_in (may_keep jobs.kept) held found) a.answer
    → HandsKeep (asked_in (may_keep jobs.kept) held found) a.answer (all_hands jobs) (all_hands (told_keeping jobs place found a.answer))
    → AreFew jobs.kept → AllByRecursion (IsLeft (lines.Move a.shown)) (all_hands (told_keeping jobs place found a.answer)) → InHands (this_epoch before) jobs → JobHands before a (told_keeping jobs place found a.answer)
job_hands before h jobs k o a place held None at is e allowed keep few left all = absurd (none-some a e)
job_hands before h jobs k o a place true (Some t) at is e allowed keep few left all = absurd (none-some a e)
job_hands before h jobs k o a None false (Some t) at is e allowed keep few left all = absurd (none-some t is)
job_hands before h jobs k o a (Some place) false (Some t) at is e allowed keep few left all = record {
  mine = acts_handed before h (back.Job k) (ask_in keeps t) o a e (λ m through. let here = touched_with keeps t.stage t m through in handed_by keeps k before m all.agreed (hand_part (IsReading keeps k epoch) m here own) (hand_part (IsWriting epoch) m here (all_second _ among.front (t ∷ among.rest) writing).0));
  hands = record {
    keeping = told_keeping_all jobs.kept s.kept jobs.works place t s.job a.answer is allowed refl refl all.keeping;
    writing = all_pairs (λ m. IsLeft line m → IsWriting now m) (IsLeft line) (IsWriting now) (all_hands (told_keeping jobs (Some place) (Some t) a.answer)) (λ m stays l. stays l)
        (keeps_all k (all_hands jobs) (all_hands (told_keeping jobs (Some place) (Some t) a.answer)) (IsWriting epoch) (λ (l : Line). IsWriting (epoch ++ l ∷ [])) h (back.Job k) (ask_in keeps t) o a refl e keep (λ l m stays was. writing_stays epoch l m stays was) (λ m frame. writing_made k epoch m frame) all.writing) left;
    agreed = λ may. have_more (kept_by false false) epoch (line ∷ []) (all.agreed (sym (settled_may jobs.kept (step_of t a.answer)) ∙ may));
    reading = subst (λ (b : Bool). AllByRecursion (HandReads b now) (slice_set jobs.works place s.job)) (sym (settled_may jobs.kept (step_of t a.answer)))
        (subst (λ (ws : List Work). AllByRecursion (HandReads keeps now) ws) (sym (among.set s.job)) (all_both (HandReads keeps now) among.front (s.job ∷ among.rest) (others among.front (all_first _ among.front (t ∷ among.rest) reading) (all_first _ among.front (s.job ∷ among.rest) lefts))
        (mine, others among.rest (all_second _ among.front (t ∷ among.rest) reading).1 (all_second _ among.front (s.job ∷ among.rest) lefts).1)));
  };
}
  where
    keeps : Bool
    keeps = may_keep jobs.kept

    epoch : List Line
    epoch = this_epoch before

    line : Line
    line = lines.Move a.shown

    now : List Line
    now = this_epoch before ++ lines.Move a.shown ∷ []

    s : Settled
    s = settled jobs.kept (step_of t a.answer)

    among : IsAmong jobs.works place t
    among = place_among jobs.works place t is

    hand_part : (P : Mapping → Type 0) (m : Mapping) → mapping_at t.stage ≡ Some m → AllByRecursion P (hand_of t) → P m
    hand_part P m here all = (subst (λ (x : Option Mapping). AllByRecursion P (option_to_list x)) here all).0

    reading : AllByRecursion (HandReads keeps epoch) (among.front ++ t ∷ among.rest)
    reading = subst (λ (ws : List Work). AllByRecursion (HandReads keeps epoch) ws) among.is all.reading

    writing : AllByRecursion (λ (w : Work). AllByRecursion (IsWriting epoch) (hand_of w)) (among.front ++ t ∷ among.rest)
    writing = subst (λ (ws : List Work). AllByRecursion (λ (w : Work). AllByRecursion (IsWriting epoch) (hand_of w)) ws) among.is (each_hand (IsWriting epoch) jobs.works (all_first (IsWriting epoch) (hands_in jobs.works) (mappings_of jobs.kept) all.writing))

    own : AllByRecursion (IsReading keeps k epoch) (hand_of t)
    own = subst (λ (i : ℕ). AllByRecursion (IsReading keeps i epoch) (hand_of t)) (found_number jobs.works k place t at is) (all_second (HandReads keeps epoch) among.front (t ∷ among.rest) reading).0

    -- of the mappings that are in hands now none is unmapped
    lefts : AllByRecursion (λ (w : Work). AllByRecursion (IsLeft line) (hand_of w)) (among.front ++ s.job ∷ among.rest)
    lefts = subst (λ (ws : List Work). AllByRecursion (λ (w : Work). AllByRecursion (IsLeft line) (hand_of w)) ws) (among.set s.job)
        (each_hand (IsLeft line) (slice_set jobs.works place s.job) (all_first (IsLeft line) (hands_in (slice_set jobs.works place s.job)) (mappings_of s.kept) left))

    -- those of others are as they were
    others : (works : List Work) → AllByRecursion (HandReads keeps epoch) works → AllByRecursion (λ (w : Work). AllByRecursion (IsLeft line) (hand_of w)) works → AllByRecursion (HandReads keeps now) works
    others works reads stay =
        all_pairs (HandReads keeps epoch) (λ (w : Work). AllByRecursion (IsLeft line) (hand_of w)) (HandReads keeps now) works
        (λ w read here. all_pairs (IsReading keeps w.number epoch) (IsLeft line) (IsReading keeps w.number now) (hand_of w) (λ m was stays. reading_stays keeps w.number epoch line m stays was) read here) reads stay

    -- and the job's own is one that it had, or made, or one for writing
    settles : AllByRecursion (λ (m : Mapping). IsLeft line m → IsReading keeps k now m) (hand_of s.job)
    settles =
        settled_hand (λ (m : Mapping). IsLeft line m → IsReading keeps k now m) jobs.kept (step_of t a.answer) few
        (λ may m writes l reads. absurd (let kept : (keeps && is_for_writing m.mode) ≡ true = ap (λ (b : Bool). b && is_for_writing m.mode) may ∙ ap is_for_writing writes in true≢false (sym kept ∙ reads)))
        (λ may. step_writable t.stage t a.answer (subst (λ (b : Bool). IsAnswer (ask_in b t) a.answer) may allowed) (writable_at jobs.works place t is (all.keeping.writable may))) all.keeping.keepable
        (keeps_all k (hand_of t) (hand_of (step_of t a.answer)) (IsReading keeps k epoch) (λ (l : Line). IsReading keeps k (epoch ++ l ∷ [])) h (back.Job k) (ask_in keeps t) o a refl e (hand_keep keeps t a allowed) (λ l m stays was. reading_stays keeps k epoch l m stays was) (λ m frame. reading_made keeps k epoch m frame) own)

    number : s.job.number ≡ k
    number = ap (λ (f : Facts). f.0) (told_facts jobs.kept t a.answer) ∙ found_number jobs.works k place t at is

    mine : HandReads keeps now s.job
    mine =
        subst (λ (i : ℕ). AllByRecursion (IsReading keeps i now) (hand_of s.job)) (sym number)
        (all_pairs (λ (m : Mapping). IsLeft line m → IsReading keeps k now m) (IsLeft line) (IsReading keeps k now) (hand_of s.job) (λ m stays l. stays l) settles (all_second _ among.front (s.job ∷ among.rest) lefts).0)
