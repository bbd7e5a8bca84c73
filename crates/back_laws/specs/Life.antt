-- The life of a back, by its own asks and their answers: it maps its ring and binds the port, then does one activity after another, until it halts, and then unmaps, closes its port and waits.
use Rattle.std.specs.Prelude.{◌≡◌, ◌<◌, ℕ, ◌^◌, ℤ, true, List, [], ◌∷◌, ◌++◌, length, Contains, Option, Some, None}
use Rattle.std.specs.List.{AllByRecursion}
use Rattle.blk_base.specs.declared.parts.Mapping.{Mapping}
use Rattle.blk_base.specs.declared.parts.Mode.TheVariants.{ReadWrite}
use Rattle.blk_base.specs.declared.ask.BackAsk.{BackAsk}
use Rattle.blk_base.specs.declared.ask.BackAsk.TheVariants.{Wait, Map, Unmap, Bind, ClosePort}
use Rattle.blk_base.specs.declared.ask.BackAnswer.{BackAnswer}
use Rattle.blk_base.specs.declared.ask.BackAnswer.TheVariants as answer
use Rattle.ring_words.specs.Shape.{Shape}
use Rattle.blk_base.specs.declared.halt.Halt.{Halt}
use Rattle.blk_base.specs.declared.halt.Halt.TheVariants as halt
use Rattle.blk_back.specs.View.{View}
use Rattle.blk_back.specs.Ask.{ask_of}
use Rattle.blk_back.specs.Step.{may_halt}
use Rattle.back_laws.specs.Happening.{Happening, Answers, Halts, happened}
use Rattle.segment_list.specs.declared.verdict.DiskInfo.{DiskInfo}
use Rattle.back_jobs.specs.Work.{Work}
use Rattle.blk_back.specs.declared.stage.Reply.{Reply}
use Rattle.back_laws.specs.Ledger.{JobAsked, entries_in, replies_in, Ledger}
use Rattle.back_laws.specs.Activity.{Asked, Reach, Activity, Replies, all_asks, all_reached, asks_of, AreRight, IsBegun, IsOverrun}

-- the back's own asks, with their answers, in their order
abbrev pub own_at : Happening → View → List Asked
own_at (Answers given) v = record { ask = ask_of v; answer = given } ∷ []
own_at h v = []

abbrev pub own_asks : List Happening → View → List Asked
own_asks [] v = []
own_asks (h ∷ hs) v = own_at h v ++ own_asks hs (happened h v)

-- the halts that its negotiation called for
abbrev pub called_at : Happening → List Halt
called_at (Halts why) = why ∷ []
called_at h = []

abbrev pub called : List Happening → List Halt
called [] = []
called (h ∷ hs) = called_at h ++ called hs

-- before its port is bound it waits, and maps the pages of its ring, for writing too
abbrev pub IsOpeningAsk : BackAsk → BackAnswer → Type 0
IsOpeningAsk Wait given = Unit {0}
IsOpeningAsk (Map gref mode) (answer.Mapped m) = (m.gref ≡ gref) × (m.mode ≡ ReadWrite)
IsOpeningAsk ask given = ⊥

abbrev pub IsOpening : Asked → Type 0
IsOpening a = IsOpeningAsk a.ask a.answer

-- the pages that it has mapped
abbrev pub mapped_by : BackAnswer → List Mapping
mapped_by (answer.Mapped m) = m ∷ []
mapped_by given = []

abbrev pub mapped_in : List Asked → List Mapping
mapped_in [] = []
mapped_in (a ∷ asked) = mapped_by a.answer ++ mapped_in asked

-- once it has halted it unmaps, closes its port and waits: it reads and writes no word, maps nothing and sends nothing
abbrev pub IsClosingAsk : BackAsk → Type 0
IsClosingAsk Wait = Unit {0}
IsClosingAsk (Unmap m) = Unit {0}
IsClosingAsk ClosePort = Unit {0}
IsClosingAsk ask = ⊥

abbrev pub IsClosing : Asked → Type 0
IsClosing a = IsClosingAsk a.ask

-- the port was bound, or was refused; a map was refused
abbrev pub bound : ℕ → Asked
bound port = record { ask = Bind port; answer = answer.Done }

abbrev pub unbound : ℕ → Asked
unbound port = record { ask = Bind port; answer = answer.BindRefused }

abbrev pub unmapped : ℕ → ℤ → Asked
unmapped gref status = record { ask = Map gref ReadWrite; answer = answer.MapRefused status }

-- A back that hasn't halted: its port isn't bound yet; or it is, and it did these activities, and began one.
pub data Life : Type 0 where
  Opens : (opening : List Asked) → Life
  Serves : (opening : List Asked) (port : ℕ) (activities : List Activity) (part : List Asked) → Life

-- where it stands once its port is bound, and after these activities; a ring begins at this index
abbrev pub first_reach : ℕ → Shape → List Asked → Reach
first_reach start shape opening = record { shape = shape; pages = mapped_in opening; prod = start; cons = start; seen = start }

abbrev pub reach_of : ℕ → Shape → List Asked → List Activity → Reach
reach_of start shape opening activities = all_reached (first_reach start shape opening) activities

abbrev pub served : ℕ → Shape → List Asked → ℕ → List Activity → List Asked
served start shape opening port activities = opening ++ bound port ∷ all_asks (first_reach start shape opening) activities

-- a page is mapped for each of its shape, and each activity is right where it is done
pub record IsServed (start : ℕ) (shape : Shape) (opening : List Asked) (activities : List Activity) : Type 0 where
  pub opens : AllByRecursion IsOpening opening
  pub whole : length (mapped_in opening) ≡ 2 ^ shape.order
  pub right : AreRight (first_reach start shape opening) activities

abbrev pub asked_in : ℕ → Shape → Life → List Asked
asked_in start shape (Opens opening) = opening
asked_in start shape (Serves opening port activities part) = served start shape opening port activities ++ part

abbrev pub IsLife : ℕ → Shape → Life → Type 0
IsLife start shape (Opens opening) = AllByRecursion IsOpening opening
IsLife start shape (Serves opening port activities part) = IsServed start shape opening activities × IsBegun (reach_of start shape opening activities) part

-- Why it halts, by what came before: a map or the port was refused; a producer overran the ring after these activities; or its negotiation called for it, while nothing was begun.
pub data Cause : Type 0 where
  NotMapped : (opening : List Asked) (gref : ℕ) (status : ℤ) → Cause
  NotBound : (opening : List Asked) (port : ℕ) → Cause
  Overran : (opening : List Asked) (port : ℕ) (activities : List Activity) (look : Activity) (shown : ℕ) → Cause
  CalledFirst : (opening : List Asked) (why : Halt) → Cause
  Called : (opening : List Asked) (port : ℕ) (activities : List Activity) (why : Halt) → Cause

abbrev pub asked_before : ℕ → Shape → Cause → List Asked
asked_before start shape (NotMapped opening gref status) = opening ++ unmapped gref status ∷ []
asked_before start shape (NotBound opening port) = opening ++ unbound port ∷ []
asked_before start shape (Overran opening port activities look shown) =
    served start shape opening port activities ++ asks_of (reach_of start shape opening activities) look
asked_before start shape (CalledFirst opening why) = opening
asked_before start shape (Called opening port activities why) = served start shape opening port activities

-- the halt: an overrun names the producer that was shown, and the responses' producer that the back wrote last
abbrev pub halt_of : ℕ → Shape → Cause → Halt
halt_of start shape (NotMapped opening gref status) = halt.MapRefused gref status
halt_of start shape (NotBound opening port) = halt.BadPort port
halt_of start shape (Overran opening port activities look shown) = halt.Overrun shown (let r : Reach = reach_of start shape opening activities in r.prod)
halt_of start shape (CalledFirst opening why) = why
halt_of start shape (Called opening port activities why) = why

abbrev pub IsCause : ℕ → Shape → List Halt → Cause → Type 0
IsCause start shape calls (NotMapped opening gref status) = AllByRecursion IsOpening opening
IsCause start shape calls (NotBound opening port) = AllByRecursion IsOpening opening
IsCause start shape calls (Overran opening port activities look shown) =
    IsServed start shape opening activities × IsOverrun (reach_of start shape opening activities) look shown
IsCause start shape calls (CalledFirst opening why) = AllByRecursion IsOpening opening × Contains calls why × (may_halt why ≡ true)
IsCause start shape calls (Called opening port activities why) = IsServed start shape opening activities × Contains calls why × (may_halt why ≡ true)

-- the reply that is under way
abbrev pub under_way : Activity → List Asked → List Reply
under_way (Replies reply event) (a ∷ part) = reply ∷ []
under_way activity part = []

-- No job is held and none was asked before the port is bound. Then they are those of the requests that were fetched, the n-th with number n: so of fewer than 2 ^ 64, after which numbers begin again.
abbrev pub KeepsRequests : (start : ℕ) (shape : Shape) → DiskInfo → List JobAsked → List Work → (life : Life) → IsLife start shape life → Type 0
KeepsRequests start shape info trace works (Opens opening) is = (works ≡ []) × (trace ≡ [])
KeepsRequests start shape info trace works (Serves opening port activities part) is =
    let begun : IsBegun (reach_of start shape opening activities) part = is.1 in
    length (entries_in activities) < 2 ^ 64 → Ledger info shape.abi trace (entries_in activities) (under_way begun.activity part ++ replies_in activities) works

-- A back that hasn't halted: all that it asked is its life, and its jobs are those of its requests.
pub record Goes (start : ℕ) (shape : Shape) (own : List Asked) (halted : Option Halt) (info : DiskInfo) (trace : List JobAsked) (works : List Work)
    : Type 0 where
  pub life : Life
  pub is : IsLife start shape life
  pub requests : KeepsRequests start shape info trace works life is
  pub asked : own ≡ asked_in start shape life
  pub none : halted ≡ None

-- One that has: there is a cause, its halt is the cause's, and it only closes after that.
pub record HasHalted (start : ℕ) (shape : Shape) (own : List Asked) (calls : List Halt) (halted : Option Halt) : Type 0 where
  pub cause : Cause
  pub closing : List Asked
  pub is : IsCause start shape calls cause
  pub closes : AllByRecursion IsClosing closing
  pub asked : own ≡ asked_before start shape cause ++ closing
  pub why : halted ≡ Some (halt_of start shape cause)
