-- What a write of the back to a page of the ring leaves as it was.
use Rattle.std.proofs.Common.{◌≡◌, ◌≢◌, ℕ, ◌+◌, ◌*◌, ◌^◌, ◌<◌, ◌≤◌, Bool, true, false, if◌then◌else◌, List, ◌++◌, length, refl, sym, subst, ◌∙◌, inl, inr, arith, length-set, get_or-set_other}
use Rattle.std.specs.List.{list_any}
use Rattle.std.proofs.lemmas.Bool.{false≢true}
use Rattle.blk_base.specs.Options.{Options}
use Rattle.blk_base.specs.declared.parts.End.TheVariants as end
use Rattle.pipeline_laws.specs.Pipeline.{Pipeline}
use Rattle.ring_words.specs.Ring.{next_of}
use Rattle.ring_words.specs.Shape.{Shape, entry_words_of, slot_word_of}
use Rattle.xen_pages.specs.Pages.{word_of, with_word}
use Rattle.grant_table.specs.Table.{frame_of}
use Rattle.event_channel.specs.Channels.{ChannelState, sent, is_bound_port}
use Rattle.event_channel.specs.declared.channels.PortState.{PortState}
use Rattle.back_jobs.specs.Hands.{hands_in}
use Rattle.blk_front.specs.declared.stage.FrontStage.{FrontStage}
use Rattle.blk_front.specs.declared.stage.FrontStage.TheVariants as front
use Rattle.blk_front.specs.declared.request.Request.{Request}
use Rattle.blk_front.specs.View.{slot_frame}
use Rattle.blk_front.specs.Submit.{is_connected}
use Rattle.blk_back.specs.declared.stage.BackStage.{BackStage}
use Rattle.blk_back.specs.declared.stage.BackStage.TheVariants as stage
use Rattle.blk_back.specs.declared.stage.Reply.{Reply}
use Rattle.blk_back.specs.View.{page_of, slot_page}
use Rattle.blk_back.specs.Hands.{hands_at}
use Rattle.blk_back.proofs.Slots.{slot_within}
use Rattle.split_model.specs.World.{World}
use Rattle.machine_pipeline.proofs.Flow.{Flow, wrapped, named_pages, granted_pages, is_bound_back, is_back_arming, may_back_sleep}
use Rattle.machine_pipeline.proofs.Holds.{Holds, RingBegun, AreRingWords, AreSlots, PortsAt, IsBackSleep, BackSends}
use Rattle.machine_pipeline.proofs.Turns.{BackGoes}
use Rattle.machine_pipeline.proofs.Wrapped.{next_wrapped}
use Rattle.machine_pipeline.proofs.Kept.{SameFrame, other_frame, written, slots_kept, sleep_sent, sleep_kept, sleep_turned}
use Rattle.machine_pipeline.proofs.BackStill.{BackStands, IsRingless}
use Rattle.machine_pipeline.proofs.BackQuiet.{goes_still, quiet_with, bound_terms, paged_at, slots_at, between}
use Rattle.machine_pipeline.proofs.BackFences.{frame_is, first_frame}
use Rattle.std.proofs.lemmas.Option.{none-some}

-- one word of a frame of the ring was written
pub record RingWritten (old new : List ℕ) (frame word value : ℕ) : Type 0 where
  pub here : word_of new frame word ≡ value
  pub words : (f w : ℕ) → f * 1024 + w ≢ frame * 1024 + word → word_of new f w ≡ word_of old f w
  pub others : (f : ℕ) → IsRingless f → SameFrame old new f
  pub memory : length new ≡ 1114112

pub ring_written : (pages : List ℕ) (frame f word value : ℕ) → frame ≡ f → 2 ≤ f → f < 18 → word < 1024 → length pages ≡ 1114112 → RingWritten pages (with_word pages frame word value) f word value
ring_written pages frame f word value e low high within sized = subst (λ (x : ℕ). RingWritten pages (with_word pages x word value) f word value) (sym e) (record {
  here = written pages f word value sized (omega arith) within;
  words = λ g w apart. get_or-set_other pages (f * 1024 + word) (g * 1024 + w) value 0 apart;
  others = λ g apart. other_frame pages f word value g within (elim apart [ inl below ↦ omega arith | inr above ↦ omega arith ]);
  memory = length-set pages (f * 1024 + word) value ∙ sized;
})

-- once the front is connected, its ring was begun
pub begun : (start : ℕ) (pages : List ℕ) (s : FrontStage) → is_connected s ≡ true → RingBegun start pages s
begun start pages (front.RingWord k) c = absurd (false≢true c)
begun start pages s c = tt

-- and all of its frames are granted
pub named_to : (s : FrontStage) (pages : ℕ) → is_connected s ≡ true → named_pages s pages ≡ pages
named_to (front.RingWord k) pages c = absurd (false≢true c)
named_to (front.RingFrame page) pages c = absurd (false≢true c)
named_to (front.RingFence page) pages c = absurd (false≢true c)
named_to (front.RingFlags page) pages c = absurd (false≢true c)
named_to (front.LeftData n) pages c = absurd (false≢true c)
named_to s pages c = refl

pub granted_to : (s : FrontStage) (pages : ℕ) → is_connected s ≡ true → granted_pages s pages ≡ pages
granted_to (front.RingWord k) pages c = absurd (false≢true c)
granted_to (front.RingFrame page) pages c = absurd (false≢true c)
granted_to (front.RingFence page) pages c = absurd (false≢true c)
granted_to (front.RingFlags page) pages c = absurd (false≢true c)
granted_to (front.LeftData n) pages c = absurd (false≢true c)
granted_to s pages c = refl

-- another word than the producers, where all pages of the ring are mapped
pub ring_beside : (order start pushed replied mapped frame word value : ℕ) (old new : List ℕ) (s : FrontStage)
    → RingWritten old new frame word value
    → frame * 1024 + word ≢ 2048
    → frame * 1024 + word ≢ 2050
    → is_connected s ≡ true
    → mapped ≡ 2 ^ order
    → AreRingWords order start pushed replied old s mapped
    → AreRingWords order start pushed replied new s mapped
ring_beside order start pushed replied mapped frame word value old new s r first second c all h = record {
  begun = begun start new s c;
  requests = λ t. r.words 2 0 (λ same. first (sym same)) ∙ h.requests t;
  responses = λ t. r.words 2 2 (λ same. second (sym same)) ∙ h.responses t;
  named = λ page lt from. absurd (let bound = named_to s (2 ^ order) c in omega arith);
  granted = λ page lt from. absurd (let bound = granted_to s (2 ^ order) c in omega arith);
}

-- and another than the entries'
pub slots_beside : (shape : Shape) (start fetched pushed taken replied word value : ℕ) (series : List Request) (replies : List Reply) (old new : List ℕ) (s : FrontStage) (b : BackStage)
    → RingWritten old new 2 word value
    → word < 16
    → shape.order ≤ 4
    → AreSlots shape start fetched pushed taken replied series replies old s b
    → AreSlots shape start fetched pushed taken replied series replies new s b
slots_beside shape start fetched pushed taken replied word value series replies old new s b r low narrow h =
    slots_kept shape start fetched pushed taken replied series replies old new s b narrow (λ f w from to within after. r.words f w (λ same. omega arith)) h

-- a word of an entry is where the front has it
pub slot_is : (config : Options) (w : World) (g : Flow) (d : Pipeline) (b : BackStage) (k i : ℕ) → BackStands config w g d b → is_bound_back b ≡ true → hands_at b w.back ≡ hands_in w.back.jobs.works ++ w.back.pages → i < entry_words_of g.shape.abi → frame_of w.under.grants (slot_page w.back k i) ≡ slot_frame g.shape k i
slot_is config w g d b k i p bound hands lt =
    rw (p.holds.paged.shaped (bound_terms b bound)) (frame_is config w g d b (slot_word_of g.shape k i).0 p bound hands (slot_within g.shape k i lt))

-- the back sends the front an event
bound_pending : (before made : ℕ) (ports : List PortState) (pending : Bool) → PortsAt before true true made ports → (if list_any is_bound_port ports then true else pending) ≡ true
bound_pending before made ports pending at = rw at.1 refl

pub goes_send : (config : Options) (w : World) (g : Flow) (d : Pipeline) → BackStands config w g d stage.Send → BackGoes config w d stage.Send
goes_send config w g d p =
    let h : Holds config w g d w.front.stage stage.Send = p.holds in
    let c : ChannelState = sent w.under.channels end.Back in
    let sends = bound_pending g.before w.under.channels.made w.under.channels.ports w.under.channels.front_pending (rw p.connected at h.ports) in
    goes_still config w g d stage.Send stage.Loop w.back w.under.pages c g.back_seen _ _ p
    (quiet_with config w g d stage.Send stage.Loop w.back.ring.asleep w.back.ring.seen w.back.ring.entry c g.back_seen h (between stage.Send w.back refl refl refl) (between stage.Loop w.back refl refl refl) h.stations h.indices tt
    (record { arming = h.front_sleep.arming; armed = h.front_sleep.armed; may = h.front_sleep.may; woken = λ t. inr (inl sends) })
    (sleep_turned (is_back_arming stage.Loop) (may_back_sleep stage.Loop) (λ t. t) (λ t. cc) h.back_sleep)
    refl refl)

-- the back stores its event word: it wants to hear of the next request
pub goes_store_event : (config : Options) (w : World) (g : Flow) (d : Pipeline) → BackStands config w g d stage.StoreEvent → BackGoes config w d stage.StoreEvent
goes_store_event config w g d p =
    let h : Holds config w g d w.front.stage stage.StoreEvent = p.holds in
    let frame : ℕ = frame_of w.under.grants (page_of w.back 0) in
    let in_two : frame ≡ 2 = first_frame config w g d stage.StoreEvent p refl refl in
    let new : List ℕ = with_word w.under.pages frame 1 (next_of w.back.ring.indices.cons) in
    let r : RingWritten w.under.pages new 2 1 (next_of w.back.ring.indices.cons) = ring_written w.under.pages frame 2 1 (next_of w.back.ring.indices.cons) in_two (omega arith) (omega arith) (omega arith) h.memory in
    let event : word_of new 2 1 ≡ wrapped g.start (g.fetched + 1) = r.here ∙ next_wrapped g.start g.fetched w.back.ring.indices.cons h.indices.fetched in
    let awake : w.back.ring.asleep ≡ false = h.back_sleep.may refl in
    let sleep : IsBackSleep g.start g.fetched g.pushed new w.back.ring.asleep w.under.channels.back_pending w.front.stage stage.EventFence = record
    { arming = λ t. event; armed = λ t. event; may = λ t. awake; woken = λ t. absurd (false≢true (sym awake ∙ t)) } in
    goes_still config w g d stage.StoreEvent stage.EventFence w.back new w.under.channels g.back_seen _ _ p
    (assumption (
      sleep,
      r.memory,
      r.others,
      ring_beside _ _ _ _ _ _ _ _ _ new _ r (omega arith) (omega arith) p.connected h.paged.mapped h.ring,
      slots_at _ _ _ _ _ _ _ _ _ _ _ stage.EventFence (λ rep t i lt. absurd (none-some rep t)) (slots_beside _ _ _ _ _ _ 1 _ _ _ _ _ _ _ r (omega arith) h.shaped.narrow h.slots),
      paged_at _ _ _ _ _ _ _ stage.StoreEvent stage.EventFence refl refl h.paged,
      sleep_sent (BackSends stage.EventFence g.replied g.taken) (λ m. m) (λ t s. absurd s) (sleep_kept (r.words 2 3 (omega arith)) h.front_sleep),
    ))
