-- Jobs of an INDIRECT that the definitions refuse.
use Rattle.std.proofs.Common.{◌≡◌, ℕ, zero, suc, ◌+◌, ◌-◌, ◌*◌, ◌<◌, ◌==◌, min, Bool, true, false, if◌then◌else◌, List, [], ◌∷◌, ◌++◌, drop, map, sym, ap, ◌∙◌, subst, append-nil, arith}
use Rattle.std.specs.List.{AllByRecursion, range_with_len}
use Rattle.std.proofs.lemmas.Bool.Decides.{nat_tests}
use Rattle.blk_base.specs.declared.parts.Mapping.{Mapping}
use Rattle.blk_base.specs.declared.parts.Mode.TheVariants.{ReadOnly}
use Rattle.blk_base.specs.declared.ask.BackAsk.{BackAsk}
use Rattle.blk_base.specs.declared.ask.BackAsk.TheVariants as ask
use Rattle.blk_base.specs.declared.ask.BackAnswer.{BackAnswer}
use Rattle.blk_layout.specs.declared.request.RawRequest.TheVariants.{Indirect}
use Rattle.segment_list.specs.declared.verdict.DiskInfo.{DiskInfo}
use Rattle.segment_list.specs.declared.verdict.Verdict.{Verdict}
use Rattle.segment_list.specs.declared.verdict.Verdict.TheVariants as verdict
use Rattle.segment_list.specs.Verdict.{verdict_of, finished_verdict}
use Rattle.blk_layout.specs.Entry.{segments_at}
use Rattle.report_rules.specs.declared.work.Task.{Task}
use Rattle.report_rules.specs.declared.work.Task.TheVariants as tasks
use Rattle.report_rules.specs.declared.step.Step.{Step}
use Rattle.report_rules.specs.declared.step.Step.TheVariants as steps
use Rattle.report_rules.specs.Step.{steps_of}
use Rattle.report_rules.specs.Work.{pages_of, served_tasks, are_read, indirect_tasks, work_tasks}
use Rattle.back_laws.specs.Activity.{Asked, read}
use Rattle.back_laws.specs.JobSteps.{IsNext, left_by, is_failure, AreSteps, words_read, map_made, disk_read, disk_write}

-- a step of a page
abbrev IsOfPage : Step → Type 0
IsOfPage (steps.Map gref mode) = Unit {0}
IsOfPage (steps.Read word) = Unit {0}
IsOfPage step = ⊥

abbrev AreOfPages : List Step → Type 0
AreOfPages left = AllByRecursion IsOfPage left

reads_then : (first n : ℕ) (later : List Step) → AreOfPages later → AreOfPages (map steps.Read (range_with_len first n) ++ later)
reads_then first zero later all = all
reads_then first (suc n) later all = (tt, reads_then (first + 1) n later all)

of_pages : (count : ℕ) (pages : List ℕ) → AreOfPages (steps_of (pages_of count pages))
of_pages count [] = tt
of_pages count (gref ∷ pages) = by_test (count == 0) (of_pages (count - 512) pages)
  where
    by_test : (b : Bool) → AreOfPages (steps_of (pages_of (count - 512) pages)) → AreOfPages (steps_of (if b then [] else tasks.Page gref (2 * min 512 count) ∷ pages_of (count - 512) pages))
    by_test true rest = tt
    by_test false rest = (tt, reads_then 0 (2 * min 512 count) (steps_of (pages_of (count - 512) pages)) rest)

dropped : (failed : Bool) (left : List Step) → AreOfPages left → AreOfPages (if failed then [] else drop 1 left)
dropped true left all = tt
dropped false [] all = tt
dropped false (step ∷ left) all = all.1

left_so : (a : BackAsk) (given : BackAnswer) (left : List Step) → AreOfPages left → AreOfPages (left_by a given left)
left_so (ask.Unmap m) given left all = all
left_so a given left all = dropped (is_failure given) left all

no_disk_read : (sector : ℕ) (left : List Step) → AreOfPages left → IsNext (ask.DiskRead sector) left → ⊥
no_disk_read sector [] all next = next
no_disk_read sector (steps.Map gref mode ∷ left) all next = next
no_disk_read sector (steps.Read word ∷ left) all next = next
no_disk_read sector (step ∷ left) all next = all.0

no_disk_write : (sector : ℕ) (words : List ℕ) (left : List Step) → AreOfPages left → IsNext (ask.DiskWrite sector words) left → ⊥
no_disk_write sector words [] all next = next
no_disk_write sector words (steps.Map gref mode ∷ left) all next = next
no_disk_write sector words (steps.Read word ∷ left) all next = next
no_disk_write sector words (step ∷ left) all next = all.0

not_last : (a : Asked) → ((left : List Step) → AreOfPages left → IsNext a.ask left → ⊥) → (asked : List Asked) (left : List Step) → AreOfPages left → AreSteps (asked ++ a ∷ []) left → ⊥
not_last a none [] left all is = none left all is.0
not_last a none (b ∷ asked) left all is = not_last a none asked (left_by b.ask b.answer left) (left_so b.ask b.answer left all) is.1

-- before all words are read the work is that of the pages
early_work : (op count device id sector : ℕ) (pages words : List ℕ) (info : DiskInfo) → are_read count words ≡ false → AreOfPages (steps_of (work_tasks (Indirect op count device id sector pages) info false words))
early_work op count device id sector pages words info few = by_verdict (verdict_of (Indirect op count device id sector pages) info)
  where
    by_verdict : (v : Verdict) → AreOfPages (steps_of (indirect_tasks false v count pages words info))
    by_verdict (verdict.Serve plan) =
        let none : pages_of count pages ++ (if are_read count words then served_tasks false (finished_verdict plan (segments_at words 0 count) info) (segments_at words 0 count) else []) ≡ pages_of count pages =
        ap (λ (b : Bool). pages_of count pages ++ (if b then served_tasks false (finished_verdict plan (segments_at words 0 count) info) (segments_at words 0 count) else [])) few ∙ append-nil (pages_of count pages) in
        subst (λ (work : List Task). AreOfPages (steps_of work)) (sym none) (of_pages count pages)
    by_verdict (verdict.Error why) = tt
    by_verdict verdict.Unsupported = tt

-- a sector is moved before all words of the pages are read
pub reads_early : (info : DiskInfo) (op count device id sector : ℕ) (pages : List ℕ) (asked : List Asked) (disk : ℕ) (given : BackAnswer) → are_read count (words_read asked) ≡ false
    → AreSteps (asked ++ disk_read disk given ∷ []) (steps_of (work_tasks (Indirect op count device id sector pages) info false (words_read asked))) → ⊥
reads_early info op count device id sector pages asked disk given few is = not_last (disk_read disk given) (no_disk_read disk) asked _ (early_work op count device id sector pages (words_read asked) info few) is

pub writes_early : (info : DiskInfo) (op count device id sector : ℕ) (pages : List ℕ) (asked : List Asked) (disk : ℕ) (words : List ℕ) (given : BackAnswer) → are_read count (words_read asked) ≡ false
    → AreSteps (asked ++ disk_write disk words given ∷ []) (steps_of (work_tasks (Indirect op count device id sector pages) info false (words_read asked))) → ⊥
writes_early info op count device id sector pages asked disk words given few is = not_last (disk_write disk words given) (no_disk_write disk words) asked _ (early_work op count device id sector pages (words_read asked) info few) is

-- a word of a page is read twice
twice : (m : Mapping) (gref one other k : ℕ) (later : List Step) → AreSteps (map_made ReadOnly m ∷ read m 0 one ∷ read m 0 other ∷ []) (steps.Map gref ReadOnly ∷ (map steps.Read (range_with_len 0 (suc (suc k))) ++ later)) → ⊥
twice m gref one other k later is = let same = is.1.1.0 in omega arith

again : (v : Verdict) (count gref : ℕ) (pages words : List ℕ) (info : DiskInfo) (m : Mapping) (one other : ℕ) → 0 < count
    → AreSteps (map_made ReadOnly m ∷ read m 0 one ∷ read m 0 other ∷ []) (steps_of (indirect_tasks false v count (gref ∷ pages) words info)) → ⊥
again (verdict.Error why) count gref pages words info m one other some is = is.0
again verdict.Unsupported count gref pages words info m one other some is = is.0
again (verdict.Serve plan) count gref pages words info m one other some is =
    twice m gref one other (2 * min 512 count - 2) (steps_of (pages_of (count - 512) pages ++ rest)) (subst (λ (left : List Step). AreSteps (map_made ReadOnly m ∷ read m 0 one ∷ read m 0 other ∷ []) left) first is)
  where
    rest : List Task
    rest = if are_read count words then served_tasks false (finished_verdict plan (segments_at words 0 count) info) (segments_at words 0 count) else []

    none : (count == 0) ≡ false
    none = grind (arith, nat_tests)

    two : 2 * min 512 count ≡ suc (suc (2 * min 512 count - 2))
    two = omega arith

    first : steps_of (pages_of count (gref ∷ pages) ++ rest) ≡ steps.Map gref ReadOnly ∷ (map steps.Read (range_with_len 0 (suc (suc (2 * min 512 count - 2)))) ++ steps_of (pages_of (count - 512) pages ++ rest))
    first = ap (λ (b : Bool). steps_of ((if b then [] else tasks.Page gref (2 * min 512 count) ∷ pages_of (count - 512) pages) ++ rest)) none
        ∙ ap (λ (n : ℕ). steps.Map gref ReadOnly ∷ (map steps.Read (range_with_len 0 n) ++ steps_of (pages_of (count - 512) pages ++ rest))) two

pub page_again : (info : DiskInfo) (op count device id sector gref : ℕ) (pages words : List ℕ) (m : Mapping) (one other : ℕ) → 0 < count
    → AreSteps (map_made ReadOnly m ∷ read m 0 one ∷ read m 0 other ∷ []) (steps_of (work_tasks (Indirect op count device id sector (gref ∷ pages)) info false words)) → ⊥
page_again info op count device id sector gref pages words m one other some is = again (verdict_of (Indirect op count device id sector (gref ∷ pages)) info) count gref pages words info m one other some is
