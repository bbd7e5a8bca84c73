-- A text written piece by piece.
use Rattle.std.proofs.Common.{◌≡◌, ℕ, zero, suc, ◌+◌, ◌-◌, ◌%◌, ◌^◌, ◌<◌, ◌≤◌, List, [], ◌∷◌, ◌++◌, Option, Some, None, Result, Ok, Err, length, take, drop, get_or, refl, sym, ap, ◌∙◌, subst, arith, length-append, append_assoc, append-nil, add-one}
use Rattle.std.proofs.lemmas.List.{take-append-le, take_more, take-append-drop}
use Rattle.std.proofs.lemmas.List.Concat.{flat_map-append}
use Rattle.std.proofs.lemmas.Bool.{le-ltb}
use Rattle.std.specs.List.{flat_map}
use Rattle.blk_io.specs.Outside.{Rose, written, SinkSeen, TakesBytes, FailsWriting, WritesBytes}
use Rattle.blk_base.specs.declared.operation.Abi.{Abi}
use Rattle.blk_base.specs.declared.operation.Abi.TheVariants.{X64, X32}
use Rattle.blk_base.specs.Distance.{distance_of}
use Rattle.blk_layout.specs.Places.{places_of}
use Rattle.ring_words.specs.Shape.{Shape, entries_of, entry_words_of}
use Rattle.ring_inspect.specs.Text.{indices_text, entries_text, request_text, requests_text}
use Rattle.ring_inspect.specs.Ring.{request_at, listed, word_of, words_from, body_text, ring_text}

pub written_twice : (held : Option (List ℕ)) (a b : List ℕ) → written (written held a) b ≡ written held (a ++ b)
written_twice None a b = refl
written_twice (Some bytes) a b = ap Some (append_assoc bytes a b)

pub written_none : (held : Option (List ℕ)) → held ≡ written held []
written_none None = refl
written_none (Some bytes) = ap Some (sym (append-nil bytes))

take-past : (a b : List ℕ) (n : ℕ) → take (length a + n) (a ++ b) ≡ a ++ take n b
take-past [] b n = ap (λ k. take k b) (omega arith)
take-past (x ∷ a) b n =
    let e : length (x ∷ a) + n ≡ suc (length a + n) = omega arith in
    ap (λ k. take k (x ∷ (a ++ b))) e ∙ ap (λ t. x ∷ t) (take-past a b n)

-- no piece
pub takes_none : (a : SinkSeen) → TakesBytes [] a a
takes_none a = record { held = written_none a.held; faults = refl }

-- a piece, and then another
pub takes_twice : (x y : List ℕ) (a b c : SinkSeen) → TakesBytes x a b → TakesBytes y b c → TakesBytes (x ++ y) a c
takes_twice x y a b c p q = record {
  held = q.held ∙ (ap (λ h. written h y) p.held ∙ written_twice a.held x y);
  faults = q.faults ∙ p.faults;
}

-- the sink failed in the first piece
pub fails_first : (x y : List ℕ) (a b : SinkSeen) → FailsWriting x a b → FailsWriting (x ++ y) a b
fails_first x y a b p =
    let part = p.held in
    let shorter = part.1 in
    record { held = (part.0, omega (arith, length-append x y), part.2 ∙ ap (written a.held) (sym (take-append-le part.0 x y shorter))); rose = p.rose }

-- the sink failed in the second piece
pub fails_last : (x y : List ℕ) (a b c : SinkSeen) → TakesBytes x a b → FailsWriting y b c → FailsWriting (x ++ y) a c
fails_last x y a b c p q =
    let part = q.held in
    let shorter = part.1 in
    let next = take part.0 y in
    let held = part.2 ∙ (ap (λ h. written h next) p.held ∙ (written_twice a.held x next ∙ ap (written a.held) (sym (take-past x y part.0)))) in
    record {
      held = (length x + part.0, omega (arith, length-append x y), held);
      rose = subst (λ f. Rose f c.faults) p.faults q.rose;
    }

-- a piece, and then what a write of another made
pub writes_then : {E : Type 0} (x y : List ℕ) (r : Result (Unit {0}) E) (a b c : SinkSeen) → TakesBytes x a b → WritesBytes y r b c → WritesBytes (x ++ y) r a c
writes_then x y (Ok done) a b c p q = takes_twice x y a b c p q
writes_then x y (Err failed) a b c p q = fails_last x y a b c p q

-- the same piece by another name
pub writes_as : {E : Type 0} (x y : List ℕ) (r : Result (Unit {0}) E) (a b : SinkSeen) → x ≡ y → WritesBytes x r a b → WritesBytes y r a b
writes_as x y r a b same p = subst (λ t. WritesBytes t r a b) same p

module _ {X : Type 0} (f : X → List ℕ) where
  flat_more : (xs : List X) (i : ℕ) (d : X) → i < length xs → flat_map f (take (i + 1) xs) ≡ flat_map f (take i xs) ++ f (get_or xs i d)
  flat_more xs i d lt =
      ap (flat_map f) (take_more xs i d lt) ∙ (flat_map-append f (take i xs) (get_or xs i d ∷ []) ∙ ap (λ t. flat_map f (take i xs) ++ t) (append-nil (f (get_or xs i d))))

  -- one piece more
  pub takes_more : (xs : List X) (i : ℕ) (d : X) (a b c : SinkSeen) → i < length xs → TakesBytes (flat_map f (take i xs)) a b → TakesBytes (f (get_or xs i d)) b c → TakesBytes (flat_map f (take (i + 1) xs)) a c
  takes_more xs i d a b c lt p q = subst (λ t. TakesBytes t a c) (sym (flat_more xs i d lt)) (takes_twice _ _ a b c p q)

  -- the sink failed in one piece among many
  pub fails_among : (xs : List X) (i : ℕ) (d : X) (a b c : SinkSeen) → i < length xs → TakesBytes (flat_map f (take i xs)) a b → FailsWriting (f (get_or xs i d)) b c → FailsWriting (flat_map f xs) a c
  fails_among xs i d a b c lt p q =
      let rest = flat_map f (drop (i + 1) xs) in
      let whole : flat_map f xs ≡ (flat_map f (take i xs) ++ f (get_or xs i d)) ++ rest =
      ap (flat_map f) (sym (take-append-drop (i + 1) xs)) ∙ (flat_map-append f (take (i + 1) xs) (drop (i + 1) xs) ∙ ap (λ t. t ++ rest) (flat_more xs i d lt)) in
      subst (λ t. FailsWriting t a c) (sym whole) (fails_first _ rest a c (fails_last _ _ a b c p q))

pub listed-more : (shape : Shape) (bytes : List ℕ) (from count : ℕ) → listed shape bytes from (count + 1) ≡ listed shape bytes from count ++ request_text ((from + count) % 2 ^ 32) (request_at shape bytes ((from + count) % 2 ^ 32))
unfolding listed
listed-more shape bytes from count = rw add-one refl

-- one request more
pub takes_listed : (shape : Shape) (bytes : List ℕ) (from i : ℕ) (a b c : SinkSeen) → TakesBytes (listed shape bytes from i) a b → TakesBytes (request_text ((from + i) % 2 ^ 32) (request_at shape bytes ((from + i) % 2 ^ 32))) b c → TakesBytes (listed shape bytes from (i + 1)) a c
takes_listed shape bytes from i a b c p q = subst (λ t. TakesBytes t a c) (sym (listed-more shape bytes from i)) (takes_twice _ _ a b c p q)

-- the first requests are a beginning of more of them
listed-rest : (shape : Shape) (bytes : List ℕ) (from first more : ℕ) → (rest : List ℕ) × (listed shape bytes from (first + more) ≡ listed shape bytes from first ++ rest)
listed-rest shape bytes from first zero = ([], ap (listed shape bytes from) (omega arith) ∙ sym (append-nil _))
listed-rest shape bytes from first (suc more) =
    let before = listed-rest shape bytes from first more in
    let index = (from + (first + more)) % 2 ^ 32 in
    let next = request_text index (request_at shape bytes index) in
    (before.0 ++ next, ap (listed shape bytes from) (omega arith) ∙ (listed-more shape bytes from (first + more) ∙ (ap (λ t. t ++ next) before.1 ∙ append_assoc (listed shape bytes from first) before.0 next)))

-- the sink failed in one request among many
pub fails_listed : (shape : Shape) (bytes : List ℕ) (from count i : ℕ) (a b c : SinkSeen) → i < count → TakesBytes (listed shape bytes from i) a b → FailsWriting (request_text ((from + i) % 2 ^ 32) (request_at shape bytes ((from + i) % 2 ^ 32))) b c → FailsWriting (listed shape bytes from count) a c
fails_listed shape bytes from count i a b c lt p q =
    let index = (from + i) % 2 ^ 32 in
    let here = request_text index (request_at shape bytes index) in
    let rest = listed-rest shape bytes from (i + 1) (count - (i + 1)) in
    let all : listed shape bytes from count ≡ (listed shape bytes from i ++ here) ++ rest.0 =
    ap (listed shape bytes from) (omega arith) ∙ (rest.1 ∙ ap (λ t. t ++ rest.0) (listed-more shape bytes from i)) in
    subst (λ t. FailsWriting t a c) (sym all) (fails_first _ rest.0 a c (fails_last _ _ a b c p q))

pub words_from-more : (bytes : List ℕ) (at count : ℕ) → words_from bytes at (count + 1) ≡ words_from bytes at count ++ word_of bytes (at + count) ∷ []
unfolding words_from
words_from-more bytes at zero = ap (λ k. word_of bytes k ∷ []) (omega arith)
words_from-more bytes at (suc count) =
    let more : suc count + 1 ≡ suc (count + 1) = omega arith in
    let last : at + 1 + count ≡ at + suc count = omega arith in
    ap (words_from bytes at) more ∙ ap (λ ws. word_of bytes at ∷ ws) (words_from-more bytes (at + 1) count ∙ ap (λ k. words_from bytes (at + 1) count ++ word_of bytes k ∷ []) last)

pub words_from-zero : (bytes : List ℕ) (at : ℕ) → words_from bytes at 0 ≡ []
unfolding words_from
words_from-zero bytes at = refl

pub listed-zero : (shape : Shape) (bytes : List ℕ) (from : ℕ) → listed shape bytes from 0 ≡ []
unfolding listed
listed-zero shape bytes from = refl

length-words_from : (count : ℕ) (bytes : List ℕ) (at : ℕ) → length (words_from bytes at count) ≡ count
unfolding words_from
length-words_from zero bytes at = refl
length-words_from (suc count) bytes at = let h = length-words_from count bytes (at + 1) in omega arith

-- as many words as an entry has
entry_size : (abi : Abi) → entry_words_of abi ≡ (places_of abi).end
entry_size X64 = refl
entry_size X32 = refl

pub entry_long : (abi abi' : Abi) (words bytes : List ℕ) (at count : ℕ) → abi ≡ abi' → count ≡ entry_words_of abi' → words ≡ words_from bytes at count → length words ≡ (places_of abi).end
entry_long abi abi' words bytes at count same e w =
    ap length w ∙ (length-words_from count bytes at ∙ (e ∙ (ap entry_words_of (sym same) ∙ entry_size abi)))

-- where no more requests wait than there are entries
pub body_shown : (shape : Shape) (bytes : List ℕ) (rsp_prod count : ℕ) → count ≤ entries_of shape.order → body_text shape bytes rsp_prod count ≡ requests_text count ++ listed shape bytes rsp_prod count
body_shown shape bytes rsp_prod count few = rw (le-ltb (entries_of shape.order) count few) refl

-- a ring's text in three parts
module _ (shape : Shape) (bytes : List ℕ) where
  abbrev first_line : List ℕ
  first_line = indices_text (word_of bytes 0) (word_of bytes 1) (word_of bytes 2) (word_of bytes 3)

  abbrev second_line : List ℕ
  second_line = entries_text (entries_of shape.order)

  abbrev body : List ℕ
  body = body_text shape bytes (word_of bytes 2) (distance_of (word_of bytes 2) (word_of bytes 0))

  pub fails_in_first : (a b : SinkSeen) → FailsWriting first_line a b → FailsWriting (ring_text shape bytes) a b
  fails_in_first a b p = fails_first (first_line ++ second_line) body a b (fails_first first_line second_line a b p)

  pub fails_in_second : (a b c : SinkSeen) → TakesBytes first_line a b → FailsWriting second_line b c → FailsWriting (ring_text shape bytes) a c
  fails_in_second a b c p q = fails_first (first_line ++ second_line) body a c (fails_last first_line second_line a b c p q)

  pub writes_body : {E : Type 0} (r : Result (Unit {0}) E) (a b c d : SinkSeen) → TakesBytes first_line a b → TakesBytes second_line b c → WritesBytes body r c d → WritesBytes (ring_text shape bytes) r a d
  writes_body r a b c d p q w = writes_then (first_line ++ second_line) body r a c d (takes_twice first_line second_line a b c p q) w
