-- Lives and requests that the definitions refuse.
use Rattle.std.proofs.Common.{◌≡◌, ℕ, ◌+◌, ◌%◌, ◌^◌, ◌<◌, ◌≤◌, Bool, true, false, List, [], ◌∷◌, ◌++◌, map, sym, ap, ◌∙◌, arith}
use Rattle.std.specs.Prelude.{Option, Some, None, min}
use Rattle.std.specs.List.{filter_map}
use Rattle.blk_base.specs.Distance.{distance_of}
use Rattle.blk_base.specs.declared.operation.Abi.{Abi}
use Rattle.blk_base.specs.declared.operation.Abi.TheVariants.{X64, X32}
use Rattle.blk_base.specs.declared.ask.BackAsk.{BackAsk}
use Rattle.blk_base.specs.declared.ask.BackAsk.TheVariants as ask
use Rattle.ring_words.specs.Ring.{overruns}
use Rattle.ring_words.specs.Shape.{Shape, ring_word_of, entry_words_of}
use Rattle.segment_list.specs.declared.verdict.DiskInfo.{DiskInfo}
use Rattle.back_jobs.specs.Work.{Work}
use Rattle.blk_base.specs.declared.halt.Halt.{Halt}
use Rattle.blk_back.specs.declared.stage.Reply.{Reply}
use Rattle.back_laws.specs.Activity.{Asked, Reach, Activity, Waits, Looks, Rests, Fetches, Replies, read, slot_page, slot_word, entry_from, asks_of, indices, IsRight, IsBegun}
use Rattle.back_laws.specs.Ledger.{JobAsked, Request, Ledger, AreSame}
use Rattle.std.specs.Prelude.{ℤ, length}
use Rattle.blk_base.specs.declared.parts.Mapping.{Mapping}
use Rattle.blk_base.specs.declared.parts.Mode.{Mode}
use Rattle.report_rules.specs.declared.step.Step.{Step}
use Rattle.report_rules.specs.declared.step.Step.TheVariants as steps
use Rattle.back_laws.specs.JobSteps.{AreSteps, map_refused}
use Rattle.back_laws.specs.Life.{HasHalted, IsClosing, Cause, NotMapped, NotBound, Overran, CalledFirst, Called, asked_before, IsCause}

-- the words of an entry are at different places
next_place : (m n : ℕ) → m ≡ n + 1 → m % 1024 ≡ n % 1024 → ⊥
next_place m n next same = omega arith

abbrev word_in : BackAsk → ℕ
word_in (ask.Read m word) = word
word_in other = 0

abbrev is_read : BackAsk → Bool
is_read (ask.Read m word) = true
is_read other = false

abbrev first_read : List Asked → Bool
first_read [] = false
first_read (a ∷ asked) = is_read a.ask

abbrev second_word : List Asked → ℕ
second_word [] = 0
second_word (a ∷ []) = 0
second_word (a ∷ b ∷ asked) = word_in b.ask

-- a word of an entry is read twice
pub read_twice : (r : Reach) (word again : ℕ) → IsBegun r (read (slot_page r r.cons 0) (slot_word r r.cons 0) word ∷ read (slot_page r r.cons 0) (slot_word r r.cons 0) again ∷ []) → ⊥
read_twice r word again b = by_activity b.activity b.first
  where
    a : Asked
    a = read (slot_page r r.cons 0) (slot_word r r.cons 0) word

    c : Asked
    c = read (slot_page r r.cons 0) (slot_word r r.cons 0) again

    by_words : (words : List ℕ) → entry_from r 0 words ≡ a ∷ c ∷ b.rest → ⊥
    by_words [] same = cc
    by_words (w ∷ []) same = cc
    by_words (w ∷ v ∷ words) same = next_place (ring_word_of r.shape r.cons (0 + 1)) (ring_word_of r.shape r.cons 0) (omega arith) (ap second_word same)

    by_activity : (d : Activity) → asks_of r d ≡ a ∷ c ∷ b.rest → ⊥
    by_activity (Waits given) same = cc
    by_activity (Looks produced) same = cc
    by_activity (Rests produced) same = let no = ap first_read same in cc
    by_activity (Fetches words) same = by_words words same
    by_activity (Replies reply event) same = let no = ap first_read same in cc

-- an entry is fetched that no producer showed
pub unshown : (r : Reach) (words : List ℕ) → r.cons < 2 ^ 32 → r.seen ≡ r.cons → IsRight r (Fetches words) → ⊥
unshown r words low none right = let some = right.0 in at_none r.cons r.seen low none (ahead (distance_of r.cons r.seen) _ some)
  where
    at_none : (cons seen : ℕ) → cons < 2 ^ 32 → seen ≡ cons → 1 ≤ distance_of cons seen → ⊥
    at_none cons seen low none some = omega arith

    ahead : (d free : ℕ) → 1 ≤ min d free → 1 ≤ d
    ahead d free some = omega arith

-- it goes on after an overrun
pub goes_on : (r : Reach) (produced : ℕ) → overruns (indices r) produced ≡ true → IsRight r (Looks produced) → ⊥
goes_on r produced over right = let fine = right.1 in cc

-- it halts though nothing happened
not_first : (xs : List Asked) (x : Asked) (ys zs : List Asked) → [] ≡ (xs ++ x ∷ ys) ++ zs → ⊥
not_first [] x ys zs same = cc
not_first (y ∷ xs) x ys zs same = cc

not_second : (xs : List Asked) (x : Asked) (ys zs us : List Asked) → [] ≡ ((xs ++ x ∷ ys) ++ zs) ++ us → ⊥
not_second [] x ys zs us same = cc
not_second (y ∷ xs) x ys zs us same = cc

pub uncaused : (start : ℕ) (shape : Shape) (why : Halt) → HasHalted start shape [] [] (Some why) → ⊥
uncaused start shape why h = by_cause h.cause h.is h.asked
  where
    by_cause : (c : Cause) → IsCause start shape [] c → [] ≡ asked_before start shape c ++ h.closing → ⊥
    by_cause (NotMapped opening gref status) is same = not_first opening _ [] h.closing same
    by_cause (NotBound opening port) is same = not_first opening _ [] h.closing same
    by_cause (Overran opening port activities look shown) is same = not_second opening _ _ _ h.closing same
    by_cause (CalledFirst opening called) is same = let none = is.1.1 in omega arith
    by_cause (Called opening port activities called) is same = let none = is.1.1 in omega arith

-- a reply to no request, and two to one
nothing_first : (xs : List Reply) (x : Reply) (ys : List Reply) → [] ≡ xs ++ x ∷ ys → ⊥
nothing_first [] x ys same = cc
nothing_first (y ∷ xs) x ys same = cc

one_first : (a : Reply) (xs : List Reply) (x : Reply) (ys : List Reply) → a ∷ [] ≡ xs ++ x ∷ ys → xs ++ ys ≡ []
one_first a [] x ys same = cc
one_first a (y ∷ []) x ys same = absurd (cc)
one_first a (y ∷ z ∷ xs) x ys same = absurd (cc)

pub no_request : (info : DiskInfo) (abi : Abi) (trace : List JobAsked) (works : List Work) (reply : Reply) → Ledger info abi trace [] (reply ∷ []) works → ⊥
no_request info abi trace works reply l = by_requests l.requests l.copied l.replied
  where
    by_requests : (requests : List Request) → map (λ (q : Request). q.words) requests ≡ [] → AreSame (reply ∷ []) (filter_map (λ (q : Request). q.reply) requests) → ⊥
    by_requests [] copied same = nothing_first same.0 reply same.1 same.2
    by_requests (q ∷ requests) copied same = cc

pub replied_twice : (info : DiskInfo) (abi : Abi) (trace : List JobAsked) (works : List Work) (words : List ℕ) (reply other : Reply) → Ledger info abi trace (words ∷ []) (reply ∷ other ∷ []) works → ⊥
replied_twice info abi trace works words reply other l = by_requests l.requests l.copied l.replied
  where
    both : (replies : List Reply) → (front rest : List Reply) → front ++ rest ≡ [] → AreSame (other ∷ []) (front ++ rest) → ⊥
    both replies front rest none same = nothing_first same.0 other same.1 (sym none ∙ same.2)

    by_reply : (o : Option Reply) (words : List ℕ) → (let q : Request = record { words = words; reply = o } in AreSame (reply ∷ other ∷ []) (filter_map (λ (p : Request). p.reply) (q ∷ []))) → ⊥
    by_reply None words same = nothing_first same.0 reply same.1 same.2
    by_reply (Some one) words same = both [] same.0 same.1 (one_first one same.0 reply same.1 same.2) same.3

    by_requests : (requests : List Request) → map (λ (q : Request). q.words) requests ≡ words ∷ [] → AreSame (reply ∷ other ∷ []) (filter_map (λ (q : Request). q.reply) requests) → ⊥
    by_requests [] copied same = cc
    by_requests (q ∷ []) copied same = by_reply q.reply q.words same
    by_requests (q ∷ p ∷ requests) copied same = cc

-- a job that reads a word twice, and one that goes on after a refused map
pub read_again : (m : Mapping) (word one other : ℕ) (left : List Step) → AreSteps (read m word one ∷ read m word other ∷ []) (steps.Read word ∷ steps.Read (word + 1) ∷ left) → ⊥
read_again m word one other left all = let same = all.1.0 in omega arith

pub goes_on_refused : (gref word value : ℕ) (mode : Mode) (status : ℤ) (m : Mapping) (left : List Step) → AreSteps (map_refused gref mode status ∷ read m word value ∷ []) (steps.Map gref mode ∷ left) → ⊥
goes_on_refused gref word value mode status m left all = all.1.0

-- a fetch of a part of an entry
pub short : (r : Reach) (words : List ℕ) → length words < 27 → IsRight r (Fetches words) → ⊥
short r words few right = by_layout r.shape.abi right.1
  where
    by_layout : (abi : Abi) → length words ≡ entry_words_of abi → ⊥
    by_layout X64 long = omega arith
    by_layout X32 long = omega arith

-- a back that goes on after a halt
pub reads_on : (page : Mapping) (word value : ℕ) → IsClosing (read page word value) → ⊥
reads_on page word value closing = closing

pub maps_on : (gref : ℕ) (mode : Mode) (status : ℤ) → IsClosing (map_refused gref mode status) → ⊥
maps_on gref mode status closing = closing
