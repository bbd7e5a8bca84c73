-- What a write leaves as it was, subject by subject.
use Rattle.std.proofs.Common.{◌≡◌, ◌≢◌, ℕ, ◌+◌, ◌*◌, ◌/◌, ◌%◌, ◌^◌, ◌<◌, ◌≤◌, Bool, true, true≢false, List, length, refl, sym, ◌∙◌, arith, get_or-set_other, false, ◌⊎◌, inl, inr, subst}
use Rattle.std.specs.Prelude.{All, Option, Some}
use Rattle.std.proofs.lemmas.Grind.{get_or-set_at}
use Rattle.ring_words.specs.Shape.{Shape, entry_words_of}
use Rattle.xen_pages.specs.Pages.{word_of, with_word}
use Rattle.grant_table.specs.declared.held.Held.{Held}
use Rattle.grant_table.specs.Table.{entry_word0, entry_word1}
use Rattle.blk_front.specs.declared.request.Request.{Request}
use Rattle.blk_front.specs.declared.stage.Ending.{Ending}
use Rattle.blk_front.specs.declared.stage.FrontStage.{FrontStage}
use Rattle.blk_front.specs.declared.stage.FrontStage.TheVariants as front
use Rattle.blk_front.specs.Submit.{is_ready, is_connected}
use Rattle.blk_back.specs.declared.stage.Reply.{Reply}
use Rattle.blk_back.specs.declared.stage.BackStage.{BackStage}
use Rattle.blk_back.specs.declared.stage.BackStage.TheVariants as back
use Rattle.blk_front.specs.Request.{frame_at, words_in}
use Rattle.machine_pipeline.proofs.Flow.{wrapped, named_pages, granted_pages, ending_at, revoking_at, word_at, responded, frames_of, is_front_arming, is_back_arming}
use Rattle.machine_pipeline.proofs.Slots.{response_fits, SameSlots, slot_kept}
use Rattle.machine_pipeline.proofs.Data.{SameData, pooled_at}
use Rattle.machine_pipeline.proofs.Holds.{IsPooled, RingBegun, AreRingWords, slot_of, AreSlots, IsFilled, IsReadSoFar, AreDataWords, AreEntries, IsSleep, IsFrontSleep, IsBackSleep}
use Rattle.std.proofs.lemmas.Bool.{cases_eq}

-- a front that is ready made its ring and its port
ready_connected : (s : FrontStage) → is_ready s ≡ true → is_connected s ≡ true
ready_connected (front.RingWord k) t = absurd (true≢false (sym t))
ready_connected (front.RingFrame page) t = absurd (true≢false (sym t))
ready_connected (front.RingFence page) t = absurd (true≢false (sym t))
ready_connected (front.RingFlags page) t = absurd (true≢false (sym t))
ready_connected front.NewPort t = absurd (true≢false (sym t))
ready_connected (front.LeftData n) t = absurd (true≢false (sym t))
ready_connected s t = refl

-- so two stages at which it is are as far
pub as_connected : (s s' : FrontStage) → is_ready s ≡ true → is_ready s' ≡ true → is_connected s ≡ is_connected s'
as_connected s s' t t' = ready_connected s t ∙ sym (ready_connected s' t')

-- each word of a frame is as it was
abbrev pub SameFrame : (old new : List ℕ) → ℕ → Type 0
SameFrame old new f = (w : ℕ) → w < 1024 → word_of new f w ≡ word_of old f w

-- so the data of a request are, where no frame of the pool changes
pub data_same : (old new : List ℕ) (r : Request) → All IsPooled r.frames.items → ((f : ℕ) → 18 ≤ f → f < 1018 → SameFrame old new f) → SameData old new r
data_same old new r all same n lt = let pooled = pooled_at r all (n / 1024) in same (frame_at r (n / 1024)) pooled.0 pooled.1 (n % 1024) (omega arith)

-- both words of a reference's entry are as they were
pub record SameEntry (old new : List ℕ) (gref : ℕ) : Type 0 where
  pub flags : entry_word0 new gref ≡ entry_word0 old gref
  pub frame : entry_word1 new gref ≡ entry_word1 old gref

-- so are those of the ring's frames
abbrev pub SameRing : (old new : List ℕ) → Type 0
SameRing old new = (page : ℕ) → page < 16 → SameEntry old new (8 + page)

pub written : (pages : List ℕ) (frame word value : ℕ) → length pages ≡ 1114112 → frame < 1088 → word < 1024 → word_of (with_word pages frame word value) frame word ≡ value
written pages frame word value sized framed worded = get_or-set_at pages (frame * 1024 + word) (frame * 1024 + word) value 0 (omega arith) (omega arith)

pub other_word : (pages : List ℕ) (frame word value w : ℕ) → w ≢ word → word_of (with_word pages frame word value) frame w ≡ word_of pages frame w
other_word pages frame word value w other = get_or-set_other pages (frame * 1024 + word) (frame * 1024 + w) value 0 (omega arith)

pub other_frame : (pages : List ℕ) (frame word value f : ℕ) → word < 1024 → f ≢ frame → SameFrame pages (with_word pages frame word value) f
other_frame pages frame word value f worded other w within = get_or-set_other pages (frame * 1024 + word) (f * 1024 + w) value 0 (omega arith)

-- entries stand in frames 0 and 1, two words each
pub same_entry : (old new : List ℕ) (gref : ℕ) → gref < 1024 → SameFrame old new 0 → SameFrame old new 1 → SameEntry old new gref
same_entry old new gref few zeroth first = record { flags = same (2 * (gref % 512)) (omega arith); frame = same (2 * (gref % 512) + 1) (omega arith) }
  where
    same : SameFrame old new (gref / 512)
    same = elim (cases_eq (gref / 512) 0) [
      | inl e ↦ subst (SameFrame old new) (sym e) zeroth
      | inr apart ↦ (let one : 1 ≡ gref / 512 = omega arith in subst (SameFrame old new) one first)
    ]

-- another reference's entry
pub other_entry : (pages : List ℕ) (gref other value : ℕ) → gref < 1024 → other < 1024 → other ≢ gref → SameEntry pages (with_word pages (gref / 512) (2 * (gref % 512)) value) other
other_entry pages gref other value few fewer apart = record {
  flags = get_or-set_other pages (gref / 512 * 1024 + 2 * (gref % 512)) (other / 512 * 1024 + 2 * (other % 512)) value 0 (omega arith);
  frame = get_or-set_other pages (gref / 512 * 1024 + 2 * (gref % 512)) (other / 512 * 1024 + (2 * (other % 512) + 1)) value 0 (omega arith);
}

ring_begun : (start : ℕ) (old new : List ℕ) (s : FrontStage) → ((w : ℕ) → w < 16 → word_of new 2 w ≡ word_of old 2 w) → ((k : ℕ) → s ≡ front.RingWord k → k ≤ 16) → RingBegun start old s → RingBegun start new s
ring_begun start old new (front.RingWord k) same few h = λ j lt. let small = few k refl in same j (omega arith) ∙ h j lt
ring_begun start old new s same few h = tt

-- each frame that is granted is named too
granted_named : (s : FrontStage) (pages page : ℕ) → page < granted_pages s pages → page < named_pages s pages
granted_named (front.RingFence p) pages page lt = omega arith
granted_named (front.RingFlags p) pages page lt = omega arith
granted_named s pages page lt = lt

pub ring_kept : (order start pushed replied : ℕ) (old new : List ℕ) (s : FrontStage) (mapped : ℕ)
    → ((w : ℕ) → w < 16 → word_of new 2 w ≡ word_of old 2 w)
    → ((k : ℕ) → s ≡ front.RingWord k → k ≤ 16)
    → ((page : ℕ) → page < named_pages s (2 ^ order) → SameEntry old new (8 + page))
    → AreRingWords order start pushed replied old s mapped
    → AreRingWords order start pushed replied new s mapped
ring_kept order start pushed replied old new s mapped same few entry h = record {
  begun = ring_begun start old new s same few h.begun;
  requests = λ t. same 0 (omega arith) ∙ h.requests t;
  responses = λ t. same 2 (omega arith) ∙ h.responses t;
  named = λ page named unmapped. let kept = entry page named in kept.frame ∙ h.named page named unmapped;
  granted = λ page granted unmapped. let kept = entry page (granted_named s (2 ^ order) page granted) in kept.flags ∙ h.granted page granted unmapped;
}

pub responded_few : (b : BackStage) → responded b ≤ 3
responded_few (back.ReplyHigh r) = omega arith
responded_few b = omega arith

pub slots_kept : (shape : Shape) (start fetched pushed taken replied : ℕ) (series : List Request) (replies : List Reply) (old new : List ℕ) (s : FrontStage) (b : BackStage)
    → shape.order ≤ 4
    → SameSlots old new
    → AreSlots shape start fetched pushed taken replied series replies old s b
    → AreSlots shape start fetched pushed taken replied series replies new s b
slots_kept shape start fetched pushed taken replied series replies old new s b narrow same h = record {
  entries = λ k r from to e i lt. here (wrapped start k) i lt ∙ h.entries k r from to e i lt;
  entry = λ r e i lt few. here (wrapped start pushed) i lt ∙ h.entry r e i lt few;
  responses = λ k rep e i lt. here (wrapped start (taken + k)) i (response_fits shape.abi i lt) ∙ h.responses k rep e i lt;
  response = λ rep e i lt. here (wrapped start replied) i (response_fits shape.abi i (let three = responded_few b in omega arith)) ∙ h.response rep e i lt;
}
  where
    here : (index i : ℕ) → i < entry_words_of shape.abi → slot_of new shape index i ≡ slot_of old shape index i
    here index i lt = slot_kept shape index i old new narrow lt same

pub frames_kept : {series : List Request} (pushed : ℕ) (old new : List ℕ) (s : FrontStage) (requests : List Request)
    → All (SameData old new) requests
    → All (IsFilled series pushed old s) requests
    → All (IsFilled series pushed new s) requests
frames_kept pushed old new s requests same h k d lt =
    let here = same k d lt in
    let was = h k d lt in
    record {
      whole = λ le n l own. here n l ∙ was.whole le n l own;
      begun = λ e n f l own. here n l ∙ was.begun e n f l own;
    }

-- the words of data that are told are as they were
pub data_kept : (old new words : List ℕ) (ending : Option Ending) (s : FrontStage)
    → ((e : Ending) → ending_at s ending ≡ Some e → SameData old new e.request)
    → ((n : ℕ) → word_at s ≡ Some n → (e : Ending) → ending ≡ Some e → n < words_in e.request)
    → AreDataWords old words ending s
    → AreDataWords new words ending s
data_kept old new words ending s same within h = record { size = h.size; so_far = by_stage s same within h.so_far }
  where
    by_stage : (t : FrontStage) → ((e : Ending) → ending_at t ending ≡ Some e → SameData old new e.request) → ((n : ℕ) → word_at t ≡ Some n → (e : Ending) → ending ≡ Some e → n < words_in e.request) → IsReadSoFar old words ending t → IsReadSoFar new words ending t
    by_stage (front.ReadData n) kept bound x = λ e here k lt. x e here k lt ∙ sym (kept e here (n / 128 * 128 + k) (let few = bound n refl e here in omega arith))
    by_stage (front.LeftData n) kept bound x = λ e here k lt. x e here k lt ∙ sym (kept e here (n / 128 * 128 + k) (let few = bound n refl e here in omega arith))
    by_stage t kept bound x = tt

-- both words of the grant entries of a request's frames are as they were
abbrev pub SameGrants : (old new : List ℕ) → Request → Type 0
SameGrants old new r = (place : ℕ) → place < frames_of r → SameEntry old new (frame_at r place + 6)

pub entries_kept : {series : List Request} (pushed : ℕ) (old new : List ℕ) (live : List Held) (s : FrontStage) (ending : Option Ending) (requests : List Request)
    → All (SameGrants old new) requests
    → ((e : Ending) → revoking_at s ending ≡ Some e → SameGrants old new e.request)
    → AreEntries series pushed old live s ending requests
    → AreEntries series pushed new live s ending requests
entries_kept pushed old new live s ending requests same last h = record {
  each = λ k d lt. let here = same k d lt in let was = h.each k d lt in record {
    named = λ le place in_it. let entry = here place in_it in entry.frame ∙ was.named le place in_it;
    named_next = λ e place t in_it. let entry = here place in_it in entry.frame ∙ was.named_next e place t in_it;
    flags = λ le place in_it. let entry = here place in_it in entry.flags ∙ was.flags le place in_it;
    flags_next = λ e place t in_it. let entry = here place in_it in entry.flags ∙ was.flags_next e place t in_it;
  };
  ending = λ e t place from in_it. let here = last e t in let entry = here place in_it in entry.flags ∙ h.ending e t place from in_it;
}

-- an end sleeps as before where its event word stays
pub sleep_kept : {start had pushed event event' : ℕ} {asleep pending arms may_sleep : Bool} {Sends : Type 0} → event' ≡ event
    → IsSleep start had pushed event asleep pending arms may_sleep Sends → IsSleep start had pushed event' asleep pending arms may_sleep Sends
sleep_kept same h = rw same h

-- where it is at another stage
pub sleep_turned : {start had pushed event : ℕ} {asleep pending arms may_sleep : Bool} {Sends : Type 0} (arms' may_sleep' : Bool) → (arms' ≡ true → arms ≡ true) → (may_sleep' ≡ false → asleep ≡ false)
    → IsSleep start had pushed event asleep pending arms may_sleep Sends → IsSleep start had pushed event asleep pending arms' may_sleep' Sends
sleep_turned arms' may_sleep' arming may h = record { arming = λ t. h.arming (arming t); armed = h.armed; may = may; woken = h.woken }

-- and where another mark wakes it as well, and the other end is at a stage from which an event comes as well, or nothing more is there
pub sleep_sent : {start had pushed event : ℕ} {asleep pending pending' arms may_sleep : Bool} {Sends : Type 0} (Sends' : Type 0)
    → (pending ≡ true → pending' ≡ true) → (asleep ≡ true → Sends → (pushed ≡ had) ⊎ (pending' ≡ true) ⊎ Sends')
    → IsSleep start had pushed event asleep pending arms may_sleep Sends → IsSleep start had pushed event asleep pending' arms may_sleep Sends'
sleep_sent Sends' mark sends h = record {
  arming = h.arming;
  armed = h.armed;
  may = h.may;
  woken = λ t. elim (h.woken t) [ inl none ↦ inl none | inr some ↦ elim some [ inl marked ↦ inr (inl (mark marked)) | inr comes ↦ sends t comes ] ];
}

-- an end that is awake
pub sleep_awake : {start had pushed event : ℕ} {asleep pending arms may_sleep : Bool} {Sends : Type 0} → asleep ≡ false → arms ≡ false
    → IsSleep start had pushed event asleep pending arms may_sleep Sends
sleep_awake wake unarmed = record { arming = λ t. absurd cc; armed = λ t. absurd cc; may = λ t. wake; woken = λ t. absurd cc }

-- the same, with what its stage says
pub awake_front : (start taken replied : ℕ) (pages : List ℕ) (asleep pending : Bool) (s : FrontStage) (b : BackStage) → asleep ≡ false → is_front_arming s ≡ false
    → IsFrontSleep start taken replied pages asleep pending s b
awake_front start taken replied pages asleep pending s b wake unarmed = sleep_awake wake unarmed

pub awake_back : (start fetched pushed : ℕ) (pages : List ℕ) (asleep pending : Bool) (s : FrontStage) (b : BackStage) → asleep ≡ false → is_back_arming b ≡ false
    → IsBackSleep start fetched pushed pages asleep pending s b
awake_back start fetched pushed pages asleep pending s b wake unarmed = sleep_awake wake unarmed
