-- The words of a request's data: where they lie, and what a write of one word makes of them.
use Rattle.std.proofs.Common.{inl, inr, ◌≡◌, ◌≢◌, ℕ, ◌+◌, ◌*◌, ◌/◌, ◌%◌, ◌<◌, ◌≤◌, List, length, arith, get_or-set_other}
use Rattle.std.proofs.lemmas.Bool.{cases_lt}
use Rattle.std.specs.Prelude.{All, true}
use Rattle.std.proofs.lemmas.Grind.{get_or-set_at}
use Rattle.std.proofs.lemmas.Bool.Decides.{nat_tests}
use Rattle.std.proofs.lemmas.List.{get_or_past}
use Rattle.xen_pages.specs.Pages.{with_word}
use Rattle.blk_front.specs.declared.request.Request.{Request}
use Rattle.blk_front.specs.Request.{is_write, is_indirect, frames_for, naming_words, naming_at, filling_at, frame_at, words_in, IsShaped}
use Rattle.machine_pipeline.proofs.Flow.{frames_of, data_word, span, is_own, own_value}
use Rattle.machine_pipeline.proofs.Holds.{IsPooled}

-- each frame of a request is one of the pool's
pub pooled_at : (r : Request) → All IsPooled r.frames.items → (place : ℕ) → IsPooled (frame_at r place)
pooled_at r all place = elim (cases_lt place (frames_of r)) [
  | inl within ↦ all place 18 within
  | inr past ↦ rw (get_or_past r.frames.items place 18 past) (omega arith, omega arith)
]

-- a word of its data lies in one of its frames
pub place_in : (r : Request) (n : ℕ) → IsShaped r → n < words_in r → n / 1024 < frames_of r
place_in r n shaped lt = let frames = shaped.frames in omega arith

-- so does each word of its frames
pub place_among : (r : Request) (n : ℕ) → IsShaped r → n < span r → n / 1024 < frames_of r
place_among r n shaped lt = let frames = shaped.frames in omega arith

-- those that the front writes are among them
pub own_among : (r : Request) (n : ℕ) → IsShaped r → is_own r n ≡ true → n < span r
own_among r n shaped own = grind (arith, nat_tests, shaped.frames)

-- a word of data is one of the data's frames, and its value is the filling
pub data_value : (r : Request) (n : ℕ) → n < words_in r → own_value r n ≡ filling_at r.transfer n
data_value r n lt = grind (arith, nat_tests)

-- the words before a word of an indirect page that the front writes are those of the data of a write and of the pages up to it
pub own_before : (r : Request) (m : ℕ) → is_own r m ≡ true → m < 1024 * frames_for r.count → (is_write r.transfer ≡ true) × (m < words_in r)
own_before r m own lt = (grind (arith, nat_tests), grind (arith, nat_tests))

-- a word of an indirect page
pub page_in : (r : Request) (n : ℕ) → IsShaped r → is_indirect r.count ≡ true → n < naming_words r → 1024 * frames_for r.count + n < span r
page_in r n shaped large lt = grind (arith, shaped.frames)

pub page_value : (r : Request) (n : ℕ) → own_value r (1024 * frames_for r.count + n) ≡ naming_at r n
page_value r n = grind (arith, nat_tests)

-- no word of the frames after those that the front writes is its own
pub own_upto : (r : Request) (m : ℕ) → is_own r m ≡ true → 1024 * frames_for r.count ≤ m → (is_indirect r.count ≡ true) × (m < 1024 * frames_for r.count + naming_words r)
own_upto r m own le = (grind (arith, nat_tests), grind (arith, nat_tests))

-- each word of its frames is as it was
abbrev pub SameData : (old new : List ℕ) → Request → Type 0
SameData old new r = (n : ℕ) → n < span r → data_word new r n ≡ data_word old r n

-- a word of its data that was written
pub data_written : (pages : List ℕ) (r : Request) (n value : ℕ) → length pages ≡ 1114112 → IsPooled (frame_at r (n / 1024)) → data_word (with_word pages (frame_at r (n / 1024)) (n % 1024) value) r n ≡ value
data_written pages r n value sized pooled = get_or-set_at pages (frame_at r (n / 1024) * 1024 + n % 1024) (frame_at r (n / 1024) * 1024 + n % 1024) value 0 (omega arith) (omega (arith, pooled.1))

-- another word of its data, where each of its frames is another
pub data_other : (pages : List ℕ) (r : Request) (n value m : ℕ) → m ≢ n → (m / 1024 ≢ n / 1024 → frame_at r (m / 1024) ≢ frame_at r (n / 1024)) → data_word (with_word pages (frame_at r (n / 1024)) (n % 1024) value) r m ≡ data_word pages r m
data_other pages r n value m other frames = get_or-set_other pages (frame_at r (n / 1024) * 1024 + n % 1024) (frame_at r (m / 1024) * 1024 + m % 1024) value 0 (λ same. grind arith)

-- the data of a request that doesn't have that frame
pub data_apart : (pages : List ℕ) (frame word value : ℕ) (r : Request) → word < 1024 → IsShaped r → ((place : ℕ) → place < frames_of r → frame_at r place ≢ frame) → SameData pages (with_word pages frame word value) r
data_apart pages frame word value r worded shaped apart n lt =
    get_or-set_other pages (frame * 1024 + word) (frame_at r (n / 1024) * 1024 + n % 1024) value 0 (omega (arith, apart (n / 1024) (place_among r n shaped lt)))
