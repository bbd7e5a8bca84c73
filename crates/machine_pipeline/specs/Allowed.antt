-- Histories of a machine whose ends connect before they do anything else, with the submissions that it carries out.
use Rattle.std.specs.Prelude.{◌≡◌, ℕ, ◌+◌, ◌^◌, ◌<◌, ◌≤◌, ◌==◌, Bool, true, false, List, [], ◌∷◌, All, is_some}
use Rattle.std.specs.List.{range_with_len}
use Rattle.line_text.specs.Texts.{is_key_path, is_key_text}
use Rattle.schedule_text.specs.declared.line.Line.TheVariants as lines
use Rattle.schedule_text.specs.Range.{IsInRange}
use Rattle.event_channel.specs.Channels.{made_before}
use Rattle.blk_base.specs.declared.config.Submission.{Submission}
use Rattle.blk_base.specs.declared.config.Submission.TheVariants.{Read, Write, Barrier, Flush, Discard}
use Rattle.blk_front.specs.declared.stage.FrontStage.{FrontStage}
use Rattle.blk_front.specs.declared.stage.FrontStage.TheVariants.{RingWord}
use Rattle.blk_front.specs.declared.state.FrontState.{FrontState}
use Rattle.blk_front.specs.declared.state.FrontState.TheVariants.{Agreed, Connected, Leaving, Closed, Broken}
use Rattle.blk_front.specs.declared.state.Offers.{Offers}
use Rattle.ring_words.specs.Shape.{Shape}
use Rattle.blk_front.specs.View as front
use Rattle.blk_front.specs.Ask.{is_through}
use Rattle.blk_front.specs.State.{is_made}
use Rattle.blk_front.specs.Submit.{is_connected}
use Rattle.blk_back.specs.View as back
use Rattle.blk_back.specs.declared.stage.BackStage.TheVariants.{Halted}
use Rattle.blk_base.specs.declared.halt.Halt.{Halt}
use Rattle.split_model.specs.World.{World, is_quiet, may_suspend}
use Rattle.split_model.specs.Keys.{KeyMove, Gets, Sets, Watches, TakesWatch}
use Rattle.split_model.specs.Happening.{Happening, FrontMoves, BackMoves, JobMoves, Negotiates, FrontEnters, BackAttaches, BackHalts, Submits, Pokes, OverwritesKey, Suspends, Looks, Settles, is_guest_word, is_guest_key, happens}
use Rattle.pipeline_laws.specs.Allowed.{is_farewell}
use Rattle.hypervisor.specs.Act.{IsGiven}

-- a read of some sectors, a write or a barrier of some whose tag has 32 bits, a flush, or a discard of some, whose number has 32 bits
abbrev pub IsServable : Submission → Type 0
IsServable (Read sector count) = 1 ≤ count
IsServable (Write sector count tag) = (1 ≤ count) × (tag < 2 ^ 32)
IsServable (Barrier sector count tag) = (1 ≤ count) × (tag < 2 ^ 32)
IsServable Flush = Unit {0}
IsServable (Discard sector count) = (1 ≤ count) × (count < 2 ^ 32)

-- a path and a text of the grammar
abbrev pub IsSpelled : KeyMove → Type 0
IsSpelled (Gets path) = is_key_path path ≡ true
IsSpelled (Sets path text) = (is_key_path path ≡ true) × (is_key_text text ≡ true)
IsSpelled (Watches path) = is_key_path path ≡ true
IsSpelled TakesWatch = Unit {0}

-- it has made nothing yet, or it has made its ring and its port and is at nothing in particular
abbrev pub is_free : FrontStage → Bool
is_free (RingWord k) = k == 0
is_free s = is_made s

-- what the front takes the disk to be, and its back to serve, is what the back published
pub record ArePublished (w : World) (offers : Offers) : Type 0 where
  pub sectors : offers.sectors ≡ (let v : back.View = w.back in v.jobs.info.sectors)
  pub read_only : offers.read_only ≡ (let v : back.View = w.back in v.jobs.info.read_only)
  pub barrier : offers.barrier ≡ (let v : back.View = w.back in v.jobs.info.barrier)
  pub flush : offers.flush ≡ (let v : back.View = w.back in v.jobs.info.flush)
  pub discard : offers.discard ≡ (let v : back.View = w.back in v.jobs.info.discard)
  pub indirect : offers.indirect ≡ (let v : back.View = w.back in v.jobs.info.max_indirect)

-- the order that is agreed is the one that the front wished; as it connects it knows what the back published; the front leaves once the back has done all that follows its halt, is closed once the back has halted, and finds no state that breaks it
abbrev pub MayEnter : World → FrontState → Type 0
MayEnter w (Agreed order) = let v : front.View = w.front in order ≡ v.shape.order
MayEnter w (Connected offers) = ArePublished w offers
MayEnter w Leaving = w.back.stage ≡ Halted
MayEnter w Closed = is_some w.back.halted ≡ true
MayEnter w (Broken word) = ⊥
MayEnter w state = Unit {0}

-- the line of a halt is one of the grammar
abbrev pub IsSaid : Halt → Type 0
IsSaid why = IsInRange (lines.Halt why)

-- the terms are the front's own: its shape, the references of its ring's frames, which count from 8, and its port, the first one since the domain was last suspended
pub record AreTerms (w : World) (shape : Shape) (grefs : List ℕ) (port : ℕ) : Type 0 where
  pub shape_is : shape ≡ (let v : front.View = w.front in v.shape)
  pub grefs_are : grefs ≡ range_with_len 8 (2 ^ shape.order)
  pub port_is : port ≡ made_before w.under.channels + 1

-- a halt that is asked for: the front closes, has no request left, and is at nothing
pub record IsFarewell (w : World) (why : Halt) : Type 0 where
  pub gone : is_farewell why ≡ true
  pub through : is_through w.front ≡ true
  pub free : is_free w.front.stage ≡ true
  pub said : IsSaid why

-- the terms that the back takes are the front's own; it moves only once the front made its ring and its port, or after it halted, and then the front makes none; a sector that the disk gives has 128 words of 32 bits; what is submitted may be served; no hostile hand overwrites a word or a key; the domain is suspended where another port may be made after it; paths and texts of keys are of the grammar; and where all is found quiet it is
abbrev pub IsServed : World → Happening → Type 0
IsServed w FrontMoves = is_some w.back.halted ≡ true → is_connected w.front.stage ≡ true
IsServed w BackMoves = is_some w.back.halted ≡ false → is_connected w.front.stage ≡ true
IsServed w (JobMoves number outcome) = IsGiven outcome
IsServed w (Negotiates at move) = IsSpelled move
IsServed w (FrontEnters state) = MayEnter w state
IsServed w (BackAttaches shape grefs port) = AreTerms w shape grefs port
IsServed w (BackHalts why) = IsFarewell w why
IsServed w (Submits job) = IsServable job
IsServed w (Pokes frame word value) = ⊥
IsServed w (OverwritesKey name text) = ⊥
IsServed w Suspends = may_suspend w ≡ true
IsServed w (Looks quiet) = quiet ≡ true → is_quiet w ≡ true
IsServed w (Settles quiet) = quiet ≡ true → is_quiet w ≡ true
IsServed w h = Unit {0}

abbrev pub AreServed : List Happening → World → Type 0
AreServed [] w = Unit {0}
AreServed (h ∷ hs) w = IsServed w h × AreServed hs (happens w h)

-- a state that breaks the front is a word, an order that is agreed is the one that the front wished, and the sectors of the disk have numbers of 64 bits
abbrev pub IsStated : World → FrontState → Type 0
IsStated w (Agreed order) = let v : front.View = w.front in order ≡ v.shape.order
IsStated w (Connected offers) = offers.sectors < 2 ^ 64
IsStated w (Broken word) = word < 2 ^ 32
IsStated w state = Unit {0}

-- references and a port have 32 bits
abbrev pub AreSaid : List ℕ → ℕ → Type 0
AreSaid grefs port = All (λ (gref : ℕ). gref < 2 ^ 32) grefs × (port < 2 ^ 32)

-- what may happen where a word of the guest's memory or a key of the front may be overwritten too; all may then be found quiet where an end waits for its negotiation
abbrev pub IsPossible : World → Happening → Type 0
IsPossible w FrontMoves = Unit {0}
IsPossible w BackMoves = Unit {0}
IsPossible w (FrontEnters state) = IsStated w state
IsPossible w (BackAttaches shape grefs port) = AreSaid grefs port
IsPossible w (BackHalts why) = IsSaid why
IsPossible w (Pokes frame word value) = (is_guest_word frame word ≡ true) × (value < 2 ^ 32)
IsPossible w (OverwritesKey name text) = is_guest_key name text ≡ true
IsPossible w (Looks quiet) = Unit {0}
IsPossible w (Settles quiet) = Unit {0}
IsPossible w h = IsServed w h

abbrev pub ArePossible : List Happening → World → Type 0
ArePossible [] w = Unit {0}
ArePossible (h ∷ hs) w = IsPossible w h × ArePossible hs (happens w h)
