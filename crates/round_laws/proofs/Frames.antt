-- What the words of jobs make of memory: each frame is written by one mover alone.
use Rattle.std.proofs.Common.{◌≡◌, ◌≢◌, ℕ, zero, suc, ◌+◌, ◌<◌, ◌≤◌, Bool, true, false, List, [], ◌∷◌, ◌++◌, take, length, refl, sym, ap, ◌∙◌, arith}
use Rattle.std.specs.Prelude.{Option, Some, None, IfSome, replicate, slice_index}
use Rattle.std.specs.List.{AllByRecursion}
use Rattle.std.proofs.lemmas.List.{length-take-le}
use Rattle.xen_pages.specs.Pages.{word_of, with_word, words_of, with_words}
use Rattle.xen_pages.proofs.Apart.{words_go_on, frames_are_apart}
use Rattle.hypervisor.specs.Hypervisor.{Hypervisor}
use Rattle.back_jobs.specs.declared.part.SectorPart.{SectorPart as JobPart}
use Rattle.back_jobs.specs.Work.{Work}
use Rattle.back_jobs.specs.Part.{values_at}
use Rattle.blk_back.specs.View as back_ring
use Rattle.round_laws.specs.Movers.{part_of, frame_under, job_writes_to, job_writes, jobs_write, JobGoesOn, IsOutside}

-- words of one frame leave the words of another as they are
one_word : (pages : List ℕ) (frame word other u : ℕ) (words : List ℕ) → frame ≢ other → word + length words ≤ 1024 → u < 1024 → word_of (with_words pages frame word words) other u ≡ word_of pages other u
one_word pages frame word other u words apart within short =
    let kept = (frames_are_apart pages frame word words other u [] apart within (omega arith)).unread 1 (omega arith) in
    ap (λ (l : List ℕ). slice_index l 0) kept

-- and one of it may be written before them
one_past : (pages : List ℕ) (frame word other u value : ℕ) (words : List ℕ) → frame ≢ other → word + length words ≤ 1024 → u < 1024 → with_word (with_words pages frame word words) other u value ≡ with_words (with_word pages other u value) frame word words
one_past pages frame word other u value words apart within short = (frames_are_apart pages frame word words other u (value ∷ []) apart within (omega arith)).either_order

pub few_taken : (n : ℕ) (values : List ℕ) → length (take n values) ≤ n
few_taken zero values = omega arith
few_taken (suc n) [] = omega arith
few_taken (suc n) (value ∷ values) = let few = few_taken n values in omega arith

pub taken_apart : (n : ℕ) (values pages : List ℕ) (frame word other u : ℕ) → frame ≢ other → word + n ≤ 1024 → u < 1024 → word_of (with_words pages frame word (take n values)) other u ≡ word_of pages other u
taken_apart n values pages frame word other u apart within short = let few = few_taken n values in one_word pages frame word other u (take n values) apart (omega arith) short

module _ (h : Hypervisor) (n : ℕ) where
  -- what a job's words leave as it is
  part_keeps : (p : JobPart) (writes : Bool) (values pages : List ℕ) (other u : ℕ) → frame_under h p ≢ other → p.word + n ≤ 1024 → u < 1024 → word_of (job_writes_to h p writes values n pages) other u ≡ word_of pages other u
  part_keeps p true values pages other u apart within short = taken_apart n values pages (frame_under h p) p.word other u apart within short
  part_keeps p false values pages other u apart within short = refl

  part_past : (p : JobPart) (writes : Bool) (values pages : List ℕ) (other u value : ℕ) → frame_under h p ≢ other → p.word + n ≤ 1024 → u < 1024
      → with_word (job_writes_to h p writes values n pages) other u value ≡ job_writes_to h p writes values n (with_word pages other u value)
  part_past p true values pages other u value apart within short = let few = few_taken n values in one_past pages (frame_under h p) p.word other u value (take n values) apart (omega arith) short
  part_past p false values pages other u value apart within short = refl

  -- the words of a job lie in its frame
  abbrev pub Fits : Option JobPart → Type 0
  Fits o = IfSome o (λ p. p.word + n ≤ 1024)

  pub job_keeps : (o : Option JobPart) (values pages : List ℕ) (other u : ℕ) → Fits o → IfSome o (λ p. frame_under h p ≢ other) → u < 1024 → word_of (job_writes h o values n pages) other u ≡ word_of pages other u
  job_keeps None values pages other u fits apart short = refl
  job_keeps (Some p) values pages other u fits apart short = part_keeps p p.writes values pages other u apart fits short

  job_past : (o : Option JobPart) (values pages : List ℕ) (other u value : ℕ) → Fits o → IfSome o (λ p. frame_under h p ≢ other) → u < 1024
      → with_word (job_writes h o values n pages) other u value ≡ job_writes h o values n (with_word pages other u value)
  job_past None values pages other u value fits apart short = refl
  job_past (Some p) values pages other u value fits apart short = part_past p p.writes values pages other u value apart fits short

  -- and so of all jobs
  abbrev pub AllFit : List Work → Type 0
  AllFit works = AllByRecursion (λ (t : Work). Fits (part_of t)) works

  pub jobs_keep : (works : List Work) (pages : List ℕ) (other u : ℕ) → AllFit works → IsOutside h other works → u < 1024 → word_of (jobs_write h n works pages) other u ≡ word_of pages other u
  jobs_keep [] pages other u fits apart short = refl
  jobs_keep (t ∷ works) pages other u fits apart short =
      jobs_keep works (job_writes h (part_of t) (values_at t.stage t.words) n pages) other u fits.1 apart.1 short
      ∙ job_keeps (part_of t) (values_at t.stage t.words) pages other u fits.0 apart.0 short

  pub jobs_past : (works : List Work) (pages : List ℕ) (other u value : ℕ) → AllFit works → IsOutside h other works → u < 1024
      → with_word (jobs_write h n works pages) other u value ≡ jobs_write h n works (with_word pages other u value)
  jobs_past [] pages other u value fits apart short = refl
  jobs_past (t ∷ works) pages other u value fits apart short =
      jobs_past works (job_writes h (part_of t) (values_at t.stage t.words) n pages) other u value fits.1 apart.1 short
      ∙ ap (λ (l : List ℕ). jobs_write h n works l) (job_past (part_of t) (values_at t.stage t.words) pages other u value fits.0 apart.0 short)

-- a job that goes on so long goes on for less
pub job_less : (n : ℕ) (v : back_ring.View) (t : Work) (o : Option JobPart) → JobGoesOn (suc n) v t o → JobGoesOn n v t o
job_less n v t None goes = goes
job_less n v t (Some p) goes = (let more = goes.0 in omega arith, goes.1, goes.2)

-- so long jobs go on
pub job_fits : (n : ℕ) (v : back_ring.View) (t : Work) (o : Option JobPart) (h : Hypervisor) → JobGoesOn n v t o → Fits h n o
job_fits n v t None h goes = tt
job_fits n v t (Some p) h goes = let more = goes.0 in let within = goes.1 in omega arith

pub jobs_fit : (n : ℕ) (v : back_ring.View) (works : List Work) (h : Hypervisor) → AllByRecursion (λ (t : Work). JobGoesOn n v t (part_of t)) works → AllFit h n works
jobs_fit n v [] h goes = tt
jobs_fit n v (t ∷ works) h goes = (job_fits n v t (part_of t) h goes.0, jobs_fit n v works h goes.1)

-- a word more is written after so many
pub one_more : (n : ℕ) → n + 1 ≡ suc n
one_more n = omega arith

taken_more : (n : ℕ) (values : List ℕ) → n < length values → take (suc n) values ≡ take n values ++ slice_index values n ∷ []
taken_more n [] within = absurd (omega arith)
taken_more zero (value ∷ values) within = refl
taken_more (suc n) (value ∷ values) within = ap (λ (l : List ℕ). value ∷ l) (taken_more n values (omega arith))

pub written_more : (n : ℕ) (values pages : List ℕ) (frame word : ℕ) → n < length values
    → with_words pages frame word (take (suc n) values) ≡ with_word (with_words pages frame word (take n values)) frame (word + n) (slice_index values n)
written_more n values pages frame word within =
    let taken : length (take n values) ≡ n = length-take-le n values (omega arith) in
    ap (λ (l : List ℕ). with_words pages frame word l) (taken_more n values within)
    ∙ ((words_go_on pages frame word (take n values)).writes (slice_index values n)
    ∙ ap (λ k. with_word (with_words pages frame word (take n values)) frame (word + k) (slice_index values n)) taken)

-- and each of so many equal words is that one
pub replicate_at : (count value k : ℕ) → k < count → slice_index (replicate count value) k ≡ value
replicate_at zero value k within = absurd (omega arith)
replicate_at (suc count) value zero within = refl
replicate_at (suc count) value (suc k) within = replicate_at count value k (omega arith)

-- a word more is read
pub words_more : (pages : List ℕ) (frame word n : ℕ) → words_of pages frame word (suc n) ≡ words_of pages frame word n ++ word_of pages frame (word + n) ∷ []
words_more pages frame word n = ap (words_of pages frame word) (sym (one_more n)) ∙ (words_go_on pages frame word []).reads n

pub words_count : (pages : List ℕ) (frame word n : ℕ) → length (words_of pages frame word n) ≡ n
words_count pages frame word zero = refl
words_count pages frame word (suc n) = ap suc (words_count pages frame (word + 1) n)
