-- A word of the guest's memory and a key of the front that a hostile hand overwrites, and the words of the ring that a dump shows.
use Rattle.std.proofs.Common.{◌≡◌, ℕ, zero, suc, ◌+◌, ◌<◌, ◌≤◌, Bool, true, false, List, [], ◌∷◌, ◌++◌, refl, subst, arith, ap, sym, ◌∙◌, append_assoc, append-nil}
use Rattle.std.specs.Prelude.{◌-◌, ◌/◌, ◌%◌, ◌&&◌, nat_lt, if◌then◌else◌}
use Rattle.std.specs.List.{AllByRecursion}
use Rattle.std.proofs.lemmas.Bool.Decides.{nat_tests}
use Rattle.schedule_text.specs.declared.line.Line.{Line}
use Rattle.schedule_text.specs.declared.line.Line.TheVariants as lines
use Rattle.schedule_text.specs.declared.recorder.RecordStop.{RecordStop}
use Rattle.schedule_text.specs.Recorder.{RecorderSeen, Gained, StopsAmong}
use Rattle.schedule_text.proofs.Adding.{gained_twice, stopped_first, stopped_last}
use Rattle.xen_pages.specs.Pages.{word_of, with_word}
use Rattle.hypervisor.specs.Hypervisor.{Hypervisor}
use Rattle.key_directory.specs.Directory.{written}
use Rattle.hypervisor.specs.Act.{with_pages, with_keys}
use Rattle.split_model.specs.Happening.{is_guest_word, overwritten, poke_lines, is_guest_key, key_overwritten, overwritten_lines, word_lines, ring_lines}
use Rattle.split_model.specs.Keys.{front_path}

-- a word of the guest's memory lies in one of 1024 frames of 1024 words
pub within_guest : (frame word : ℕ) → is_guest_word frame word ≡ true → (frame < 1024) × (word < 1024)
within_guest frame word is = (framed is, worded is)
  where
    framed : (nat_lt frame 1024 && nat_lt word 1024) ≡ true → frame < 1024
    framed b = grind (arith, nat_tests)

    worded : (nat_lt frame 1024 && nat_lt word 1024) ≡ true → word < 1024
    worded b = grind (arith, nat_tests)

-- either there is such a word, which is written and shown, or nothing happens
pub poke_cases :
    (P : Hypervisor → List Line → Type 0) (h : Hypervisor) (frame word value : ℕ)
    → (frame < 1024 → word < 1024 → P (with_pages h (with_word h.pages frame word value)) (lines.Poke frame word value ∷ []))
    → P h [] → P (overwritten h frame word value) (poke_lines frame word value)
poke_cases P h frame word value written none = at (is_guest_word frame word) refl
  where
    at : (b : Bool) → is_guest_word frame word ≡ b → P (overwritten h frame word value) (poke_lines frame word value)
    at true e = rw e (let within = within_guest frame word e in written within.0 within.1)
    at false e = rw e none

-- either name and text are of the grammar, and the key is written and shown, or nothing happens
pub overwriting_cases :
    (P : Hypervisor → List Line → Type 0) (h : Hypervisor) (name text : List ℕ)
    → (is_guest_key name text ≡ true → P (with_keys h (written h.keys (front_path name) text)) (lines.Key name text ∷ []))
    → P h [] → P (key_overwritten h name text) (overwritten_lines name text)
overwriting_cases P h name text wrote none = at (is_guest_key name text) refl
  where
    at : (b : Bool) → is_guest_key name text ≡ b → P (key_overwritten h name text) (overwritten_lines name text)
    at true e = rw e (wrote e)
    at false e = rw e none

-- each line of a dump shows a word of the ring's page as it is
pub ring_lines_are : (P : Line → Type 0) (pages : List ℕ) (place count : ℕ) → place + count ≤ 1024
    → ((word : ℕ) → word < 1024 → P (lines.Word 2 word (word_of pages 2 word))) → AllByRecursion P (ring_lines pages place count)
ring_lines_are P pages place zero within each = tt
ring_lines_are P pages place (suc count) within each =
    more (word_of pages (2 + place / 1024) (place % 1024)) refl (ring_lines_are P pages (place + 1) count (omega arith) each)
  where
    frame_two : 2 + place / 1024 ≡ 2
    frame_two = omega arith

    same_word : place % 1024 ≡ place
    same_word = omega arith

    shown : P (lines.Word (2 + place / 1024) (place % 1024) (word_of pages (2 + place / 1024) (place % 1024)))
    shown = rw (frame_two, same_word) (each place (omega arith))

    more : (value : ℕ) → word_of pages (2 + place / 1024) (place % 1024) ≡ value → AllByRecursion P (ring_lines pages (place + 1) count)
        → AllByRecursion P (word_lines place value ++ ring_lines pages (place + 1) count)
    more zero e rest = rest
    more (suc value) e rest = (subst (λ (v : ℕ). P (lines.Word (2 + place / 1024) (place % 1024) v)) e shown, rest)

-- the lines of each are of this kind, where one is
pub poke_lines_are : (P : Line → Type 0) (frame word value : ℕ) → P (lines.Poke frame word value) → AllByRecursion P (poke_lines frame word value)
poke_lines_are P frame word value is = at (is_guest_word frame word)
  where
    at : (b : Bool) → AllByRecursion P (if b then lines.Poke frame word value ∷ [] else [])
    at true = (is, tt)
    at false = tt

pub overwritten_lines_are : (P : Line → Type 0) (name text : List ℕ) → P (lines.Key name text) → AllByRecursion P (overwritten_lines name text)
overwritten_lines_are P name text is = at (is_guest_key name text)
  where
    at : (b : Bool) → AllByRecursion P (if b then lines.Key name text ∷ [] else [])
    at true = (is, tt)
    at false = tt

pub dump_lines_are : (P : Line → Type 0) (pages : List ℕ) (place count : ℕ) → ((frame word value : ℕ) → P (lines.Word frame word value)) → AllByRecursion P (ring_lines pages place count)
dump_lines_are P pages place zero each = tt
dump_lines_are P pages place (suc count) each =
    more (word_of pages (2 + place / 1024) (place % 1024)) (dump_lines_are P pages (place + 1) count each)
  where
    more : (value : ℕ) → AllByRecursion P (ring_lines pages (place + 1) count) → AllByRecursion P (word_lines place value ++ ring_lines pages (place + 1) count)
    more zero rest = rest
    more (suc value) rest = (each (2 + place / 1024) (place % 1024) (suc value), rest)

-- the word of the ring at a place
abbrev pub place_lines : List ℕ → ℕ → List Line
place_lines pages place = word_lines place (word_of pages (2 + place / 1024) (place % 1024))

-- one word more at the end
one_word_more : (pages : List ℕ) (place count : ℕ) → ring_lines pages place (suc count) ≡ ring_lines pages place count ++ place_lines pages (place + count)
one_word_more pages place zero = append-nil (place_lines pages place) ∙ ap (place_lines pages) (omega arith)
one_word_more pages place (suc count) =
    ap (λ (ls : List Line). place_lines pages place ++ ls) (one_word_more pages (place + 1) count ∙ ap (λ (n : ℕ). ring_lines pages (place + 1) count ++ place_lines pages n) (omega arith))
    ∙ sym (append_assoc (place_lines pages place) (ring_lines pages (place + 1) count) (place_lines pages (place + suc count)))

-- and so many
words_on : (pages : List ℕ) (more first : ℕ) → (rest : List Line) × (ring_lines pages 0 (first + more) ≡ ring_lines pages 0 first ++ rest)
words_on pages zero first = ([], (let e : first + 0 ≡ first = omega arith in ap (ring_lines pages 0) e) ∙ sym (append-nil (ring_lines pages 0 first)))
words_on pages (suc more) first =
    let before = words_on pages more first in
    let e : first + suc more ≡ suc (first + more) = omega arith in (
      before.0 ++ place_lines pages (0 + (first + more)),
      ap (ring_lines pages 0) e
          ∙ (one_word_more pages 0 (first + more)
          ∙ (ap (λ (ls : List Line). ls ++ place_lines pages (0 + (first + more))) before.1 ∙ append_assoc (ring_lines pages 0 first) before.0 (place_lines pages (0 + (first + more))))),
    )

-- one word more of the ring
pub ring_lines-more : (pages : List ℕ) (place : ℕ) → ring_lines pages 0 (place + 1) ≡ ring_lines pages 0 place ++ place_lines pages place
ring_lines-more pages place =
    let next : place + 1 ≡ suc place = omega arith in
    let whole : 0 + place ≡ place = omega arith in
    ap (ring_lines pages 0) next ∙ (one_word_more pages 0 place ∙ ap (λ (n : ℕ). ring_lines pages 0 place ++ place_lines pages n) whole)

-- all words of the ring, of which these are the first, and then this one
pub ring_lines-whole : (pages : List ℕ) (place count : ℕ) → place < count
    → (rest : List Line) × (ring_lines pages 0 count ≡ (ring_lines pages 0 place ++ place_lines pages place) ++ rest)
ring_lines-whole pages place count within =
    let more = words_on pages (count - (place + 1)) (place + 1) in
    let all : place + 1 + (count - (place + 1)) ≡ count = omega arith in
    let whole : ring_lines pages 0 count ≡ ring_lines pages 0 (place + 1 + (count - (place + 1))) = ap (ring_lines pages 0) (sym all) in
    (more.0, whole ∙ (more.1 ∙ ap (λ (ls : List Line). ls ++ more.0) (ring_lines-more pages place)))

-- a word more was shown, or the recorder stopped at it
pub shown_on : (pages : List ℕ) (place : ℕ) (a b c : RecorderSeen) → Gained (ring_lines pages 0 place) a b → Gained (place_lines pages place) b c → Gained (ring_lines pages 0 (place + 1)) a c
shown_on pages place a b c before now =
    subst (λ (ls : List Line). Gained ls a c) (sym (ring_lines-more pages place)) (gained_twice (ring_lines pages 0 place) (place_lines pages place) a b c before now)

pub stopped_on : (pages : List ℕ) (place count : ℕ) (stop : RecordStop) (a b c : RecorderSeen) → place < count → Gained (ring_lines pages 0 place) a b → StopsAmong [] (place_lines pages place) stop b c → StopsAmong [] (ring_lines pages 0 count) stop a c
stopped_on pages place count stop a b c less before now =
    let whole = ring_lines-whole pages place count less in
    let first = ring_lines pages 0 place in
    let here = place_lines pages place in
    subst (λ (ls : List Line). StopsAmong [] ls stop a c) (sym whole.1) (stopped_first (first ++ here) whole.0 stop a c (stopped_last first here stop a b c before now))
