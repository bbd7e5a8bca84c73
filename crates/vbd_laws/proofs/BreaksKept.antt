-- What the lines tell of the front at each of its stages.
use Rattle.std.proofs.Common.{◌≡◌, ◌≢◌, ℕ, ◌+◌, ◌*◌, ◌<◌, ◌≤◌, ◌==◌, ◌&&◌, Bool, true, false, List, [], ◌∷◌, refl, arith}
use Rattle.std.specs.Prelude.{Option, Some, slice_index}
use Rattle.std.proofs.lemmas.Bool.Decides.{nat_tests}
use Rattle.ring_words.specs.Shape.{Shape, entry_words_of}
use Rattle.blk_front.specs.declared.request.Request.{Request}
use Rattle.blk_front.specs.declared.stage.FrontStage.{FrontStage}
use Rattle.blk_front.specs.declared.stage.FrontStage.TheVariants as stage
use Rattle.blk_front.specs.declared.stage.Ending.{Ending}
use Rattle.blk_front.specs.Entry.{entry_of}
use Rattle.blk_front.specs.View.{View, next_request, slot_frame, slot_word}
use Rattle.vbd_laws.specs.Breaks.{FrontSight, frame_of_entry, word_of_entry, is_entry_word}
use Rattle.vbd_laws.specs.AnswersRead.{IsRead}
use Rattle.machine_pipeline.proofs.Slots.{slot_at, same_slot, slot_frame_to, slot_from}
use Rattle.vbd_laws.proofs.BreaksKnown.{Core, core_of, share_of, HasPooled, going_at, Agree}

-- what of the front a stage speaks of
pub record Parts : Type 0 where
  pub start : ℕ
  pub shape : Shape
  pub prod : ℕ
  pub cons : ℕ
  pub next : Option Request
  pub entry : List ℕ
  pub ending : Option Ending

abbrev pub parts_of : View → Parts
parts_of v = record { start = v.start; shape = v.shape; prod = v.ring.indices.prod; cons = v.ring.indices.cons; next = next_request v; entry = v.ring.entry; ending = v.ending }

-- the ring begins anew
abbrev pub IsBegun : Parts → Type 0
IsBegun p = (p.prod ≡ p.start) × (p.cons ≡ p.start)

abbrev pub IsAnew : View → Type 0
IsAnew v = IsBegun (parts_of v)

-- a request is issued; the first k words of its entry are written
pub record IsIssuing (next : Option Request) (response : List ℕ) : Type 0 where
  pub r : Request
  pub next_is : next ≡ Some r
  pub none : response ≡ []

pub record IsWriting (next : Option Request) (entry : List ℕ) (shape : Shape) (prod : ℕ) (written : ℕ → ℕ → ℕ) (response : List ℕ) (k : ℕ) : Type 0 where
  pub r : Request
  pub next_is : next ≡ Some r
  pub entry_is : entry ≡ entry_of shape.abi r
  pub words : (i : ℕ) → i < k → written (frame_of_entry shape prod i) (word_of_entry shape prod i) ≡ slice_index (entry_of shape.abi r) i
  pub none : response ≡ []

-- a request whose grants are ended has the response that was read; and one whose data are told
pub record IsEnding (ending : Option Ending) (response : List ℕ) : Type 0 where
  pub e : Ending
  pub ending_is : ending ≡ Some e
  pub pooled : HasPooled e.request
  pub read : IsRead response e.request.number e.status

pub record IsTelling (ending : Option Ending) (response : List ℕ) : Type 0 where
  pub e : Ending
  pub ending_is : ending ≡ Some e
  pub pooled : HasPooled e.request
  pub none : response ≡ []

-- a page of the ring
pub record IsPage (page : ℕ) (response : List ℕ) : Type 0 where
  pub few : page < 16
  pub none : response ≡ []

abbrev pub AtParts : FrontStage → (response : List ℕ) → (written : ℕ → ℕ → ℕ) → Parts → Type 0
AtParts (stage.RingWord k) response written p = IsBegun p × (response ≡ [])
AtParts (stage.RingFrame page) response written p = IsPage page response
AtParts (stage.RingFence page) response written p = IsPage page response
AtParts (stage.RingFlags page) response written p = IsPage page response
AtParts (stage.Data n) response written p = IsIssuing (p.next) response
AtParts (stage.Pages n) response written p = IsIssuing (p.next) response
AtParts (stage.GrantFrame place) response written p = IsIssuing (p.next) response
AtParts (stage.GrantFence place) response written p = IsIssuing (p.next) response
AtParts (stage.GrantFlags place) response written p = IsIssuing (p.next) response
AtParts (stage.Slot k) response written p = IsWriting (p.next) p.entry p.shape p.prod written response k
AtParts stage.Producer response written p = IsWriting (p.next) p.entry p.shape p.prod written response (entry_words_of p.shape.abi)
AtParts (stage.ResponseHigh low) response written p = response ≡ low ∷ []
AtParts (stage.ResponseLast low high) response written p = response ≡ low ∷ high ∷ []
AtParts (stage.GrantRead place) response written p = IsEnding p.ending response
AtParts (stage.GrantEnd place seen) response written p = IsEnding p.ending response
AtParts (stage.ReadData n) response written p = IsTelling p.ending response
AtParts (stage.LeftData n) response written p = IsBegun p × IsTelling p.ending response
AtParts (stage.RingRead page) response written p = IsPage page response
AtParts (stage.RingEnd page seen) response written p = IsPage page response
AtParts t response written p = response ≡ []

abbrev pub At : FrontStage → (response : List ℕ) → (written : ℕ → ℕ → ℕ) → View → Type 0
At t response written v = AtParts t response written (parts_of v)

pub record Known (t : FrontStage) (c : Core) (response : List ℕ) (written : ℕ → ℕ → ℕ) (v : View) : Type 0 where
  pub agree : Agree c (share_of v) (going_at t v.ending)
  pub at : At t response written v

abbrev pub KnownBy : FrontSight → FrontStage → View → Type 0
KnownBy s t v = Known t (core_of s) s.response s.written v

-- a word of an entry lies in the ring's frames, after the words that both ends share, and each has a place of its own
apart : (f g w u : ℕ) → f * 1024 + w ≢ g * 1024 + u → ((f == g) && (w == u)) ≡ false
apart f g w u differ = by_test (f == g) (w == u) refl refl
  where
    by_test : (a b : Bool) → (f == g) ≡ a → (w == u) ≡ b → (a && b) ≡ false
    by_test false b e d = refl
    by_test true false e d = refl
    by_test true true e d =
        let one : f ≡ g = grind (arith, nat_tests) in
        let two : w ≡ u = grind (arith, nat_tests) in
        absurd (differ (omega arith))

pub beside_entry : (shape : Shape) (k i f w : ℕ) → f * 1024 + w < 2064 → is_entry_word shape k i f w ≡ false
beside_entry shape k i f w low = let from = slot_from shape k i in apart f (slot_frame shape k i) w (slot_word shape k i) (λ same. absurd (omega arith))

pub entry_beside : (shape : Shape) (k i f w : ℕ) → f * 1024 + w < 2064 → ((slot_frame shape k i == f) && (slot_word shape k i == w)) ≡ false
entry_beside shape k i f w low = let from = slot_from shape k i in apart (slot_frame shape k i) f (slot_word shape k i) w (λ same. absurd (omega arith))

pub far_entry : (shape : Shape) (k i f w : ℕ) → shape.order ≤ 4 → i < entry_words_of shape.abi → 18 ≤ f → is_entry_word shape k i f w ≡ false
far_entry shape k i f w few within far = by_test (f == slot_frame shape k i) refl
  where
    by_test : (b : Bool) → (f == slot_frame shape k i) ≡ b → (b && (w == slot_word shape k i)) ≡ false
    by_test false e = refl
    by_test true e =
        let below = slot_frame_to shape k i few within in
        let same : f ≡ slot_frame shape k i = grind (arith, nat_tests) in
        absurd (omega arith)

both : (a b : ℕ) → ((a == a) && (b == b)) ≡ true
both a b = let one : (a == a) ≡ true = grind (arith, nat_tests) in let two : (b == b) ≡ true = grind (arith, nat_tests) in rw (one, two) refl

pub own_entry : (shape : Shape) (k i : ℕ) → is_entry_word shape k i (slot_frame shape k i) (slot_word shape k i) ≡ true
own_entry shape k i = both (slot_frame shape k i) (slot_word shape k i)

pub other_entry : (shape : Shape) (k i j : ℕ) → i ≢ j → is_entry_word shape k i (slot_frame shape k j) (slot_word shape k j) ≡ false
other_entry shape k i j differ =
    apart (slot_frame shape k j) (slot_frame shape k i) (slot_word shape k j) (slot_word shape k i) (λ same. same_slot shape k i j differ (let one = slot_at shape k i in let two = slot_at shape k j in omega arith))
