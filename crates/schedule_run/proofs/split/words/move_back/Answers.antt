use Rattle.std.proofs.Common.{◌≡◌, ◌≤◌, ◌∙◌, ℕ, List, ◌++◌, sym, ap, subst, length, take, drop, arith}
use Rattle.std.proofs.Math.Seq.{take-append_seam}
use Rattle.std.proofs.lemmas.List.{length-take-le}
use Rattle.std.specs.Prelude.{Option, Some, IfSome, replicate}
use Rattle.std.specs.Option.{IsSomeAnd}
use Rattle.xen_pages.specs.Pages.{words_of}
use Rattle.hypervisor.specs.Hypervisor.{Hypervisor}
use Rattle.back_jobs.specs.declared.part.SectorPart.{SectorPart}
use Rattle.back_jobs.specs.Part.{IsReadPart, IsWithinPage, words_read}
use Rattle.vbd_back.specs.View.{View}
use Rattle.vbd_back.specs.Part.{entry_part, steps_of}
use Rattle.round_laws.specs.Movers.{frame_under, back_answers}
use Rattle.round_laws.proofs.BackWords.{part_reads}
use Rattle.round_laws.proofs.Frames.{words_count}
use Rattle.schedule_run.proofs.split.words.move_back.Goals as goal

few_words : (o : Option SectorPart) (p : SectorPart) (n : ℕ) → Some p ≡ o → IfSome o (λ q. n ≤ q.count) → n ≤ p.count
few_words o p n is few = subst (λ (x : Option SectorPart). IfSome x (λ q. n ≤ q.count)) (sym is) few

-- its words are read
read_some : (v : View) (p : SectorPart) (n m : ℕ) → Some p ≡ entry_part v → m ≤ p.count → n ≤ m → IsSomeAnd (entry_part v) (λ q. IsReadPart q n)
read_some v p n m is few same = subst (λ (o : Option SectorPart). IsSomeAnd o (λ q. IsReadPart q n)) is (part_reads v p (sym is), omega (arith, few, same))

-- the first words of a buffer were read
abbrev first_of : (n : ℕ) → List ℕ → List ℕ
first_of n words = take n (words ++ drop n (replicate 128 0))

read_so : (h : Hypervisor) (p : SectorPart) (n : ℕ) (words : List ℕ) → n ≤ 128 → words ≡ words_of h.pages (frame_under h p) p.word (length (take {A = ℕ} n (replicate 128 0))) → first_of n words ≡ words_of h.pages (frame_under h p) p.word n
read_so h p n words few read =
    let room : length (take {A = ℕ} n (replicate 128 0)) ≡ n = length-take-le n (replicate 128 0) few in
    let so : words ≡ words_of h.pages (frame_under h p) p.word n = read ∙ ap (words_of h.pages (frame_under h p) p.word) room in
    let all : length words ≡ n = ap length so ∙ words_count h.pages (frame_under h p) p.word n in
    ap (λ m. take m (words ++ drop n (replicate 128 0))) (sym all) ∙ (take-append_seam words (drop n (replicate 128 0)) ∙ so)

short : (o : Option SectorPart) (p : SectorPart) (n : ℕ) → Some p ≡ o → IfSome o (λ q. n ≤ q.count) → IsWithinPage p → n ≤ 128
short o p n is few within = let some = few_words o p n is few in let page = within.1 in omega (arith, some, page)

pub tell_entry-requires-clause-part : goal.tell_entry-requires-clause-part
tell_entry-requires-clause-part c =
    let p : SectorPart = c.in-Some.part in
    let n = c.args.count in
    let few = few_words _ p n c.in-Some.ensures.value c.requires.few in
    let read = read_so c.args.under.now p n c.read_words.new.words (short _ p n c.in-Some.ensures.value c.requires.few c.in-Some.ensures.within) c.read_words.ensures in
    let counted : length (first_of n c.read_words.new.words) ≡ n = ap length read ∙ words_count c.args.under.now.pages (frame_under c.args.under.now p) p.word n in
    read_some c.args.back.now p (length (first_of n c.read_words.new.words)) n c.in-Some.ensures.value few (omega (arith, counted))

-- what was read is what the entry's words are
answered : (v new : View) (p : SectorPart) (h : Hypervisor) (n : ℕ) (words : List ℕ) → Some p ≡ entry_part v → new ≡ steps_of v (words_read words) → words ≡ words_of h.pages (frame_under h p) p.word n → new ≡ steps_of v (back_answers h (entry_part v) n)
answered v new p h n words is e read =
    subst (λ (o : Option SectorPart). new ≡ steps_of v (back_answers h o n)) is (e ∙ ap (λ (l : List ℕ). steps_of v (words_read l)) read)

pub returns-clause-back : goal.returns-clause-back
returns-clause-back c =
    let p : SectorPart = c.in-Some.part in
    let n = c.args.count in
    answered c.args.back.now c.tell_entry.new.self p c.args.under.now n (first_of n c.read_words.new.words) c.in-Some.ensures.value c.tell_entry.ensures.stepped
    (read_so c.args.under.now p n c.read_words.new.words (short _ p n c.in-Some.ensures.value c.requires.few c.in-Some.ensures.within) c.read_words.ensures)
