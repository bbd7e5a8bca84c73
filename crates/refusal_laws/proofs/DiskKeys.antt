-- What the back's keys say of its disk, whatever a hostile hand overwrites: nothing of it, or all that the front reads, but while the back publishes it.
use Rattle.std.proofs.Common.{◌⊎◌, inl, inr, ◌≡◌, ◌∙◌, ap, sym, subst, ℕ, ◌≤◌, Bool, true, false, true≢false, if◌then◌else◌, List, [], ◌∷◌, refl, arith, decimal}
use Rattle.std.specs.Prelude.{Option, Some, None, codes}
use Rattle.blk_base.specs.declared.parts.End.{End}
use Rattle.blk_base.specs.declared.parts.End.TheVariants as end
use Rattle.key_directory.specs.Directory.{Directory, key_of, written, with_watches, fresh_directory}
use Rattle.key_directory.specs.Watches.{Watches}
use Rattle.key_directory.proofs.Entries.{key_of-with_key_same}
use Rattle.blk_back.specs.declared.stage.BackStage.{BackStage}
use Rattle.xenbus_state.specs.declared.keys.BackKey.{BackKey}
use Rattle.xenbus_state.specs.declared.keys.BackKey.TheVariants as key
use Rattle.xenbus_state.specs.declared.offer.Features.{Features}
use Rattle.xenbus_state.specs.declared.offer.DiskFacts.{DiskFacts}
use Rattle.xenbus_state.specs.declared.state.BusState.{BusState}
use Rattle.xenbus_state.specs.declared.state.BusState.TheVariants as state
use Rattle.xenbus_state.specs.declared.stage.BackBusStage.{BackBusStage}
use Rattle.xenbus_state.specs.declared.stage.BackBusStage.TheVariants as stage
use Rattle.xenbus_state.specs.declared.front.FrontBusAsk.{FrontBusAsk}
use Rattle.xenbus_state.specs.declared.front.FrontBusAsk.TheVariants as front_ask
use Rattle.xenbus_state.specs.Keys.{front_name, back_name, path_under}
use Rattle.xenbus_state.specs.States.{state_number, state_read}
use Rattle.xenbus_state.specs.Programs.{IsFeature}
use Rattle.xenbus_state.specs.Values.{text_of, front_value, back_value}
use Rattle.negotiation_laws.specs.Negotiation.{back_path, back_state}
use Rattle.negotiation_laws.specs.Said.{back_texts}
use Rattle.negotiation_laws.proofs.Keys.{back_texts_other, back_texts_state, back_state_other, back_state_key, back_kept, back_said}
use Rattle.negotiation_laws.proofs.Paths.{key_kept}
use Rattle.negotiation_laws.proofs.Shown.{state_shown}
use Rattle.split_model.specs.Keys.{Sets, may_set, keys_after, negotiated}
use Rattle.vbd_model.specs.Happening.{front_key}
use Rattle.vbd_model.specs.Fit.{SaysKey}

-- no key of the back changed
pub record Same (d x : Directory) : Type 0 where
  pub texts : back_texts x.keys ≡ back_texts d.keys
  pub state : key_of x.keys back_state ≡ key_of d.keys back_state

pub same_keys : (d : Directory) → Same d d
same_keys d = record { texts = refl; state = refl }

pub same_then : (d x y : Directory) → Same d x → Same x y → Same d y
same_then d x y p q = record { texts = q.texts ∙ p.texts; state = q.state ∙ p.state }

pub watched_same : (d x : Directory) (at : End) (w : Watches) → Same d x → Same d (with_watches x at w)
watched_same d x end.Front w is = record { texts = is.texts; state = is.state }
watched_same d x end.Back w is = record { texts = is.texts; state = is.state }

-- a key under the front's directory is none of them
pub written_same : (d : Directory) (name text : List ℕ) → Same d (written d (path_under end.Front name) text)
written_same d name text = record { texts = back_texts_other d.keys name text; state = back_state_other d.keys name text }

either_same : (b : Bool) (d x : Directory) → Same d x → Same d (if b then x else d)
either_same true d x is = is
either_same false d x is = same_keys d

-- so what the front's negotiation does leaves them
pub front_same : (s : BackStage) (a : FrontBusAsk) (d : Directory) → Same d (negotiated s end.Front (front_key a) d)
front_same s (front_ask.SetState own) d =
    either_same (may_set end.Front (path_under end.Front (codes "state")) (decimal (state_number own))) d _ (written_same d (codes "state") (decimal (state_number own)))
front_same s (front_ask.SetKey name value) d =
    either_same (may_set end.Front (path_under end.Front (front_name name)) (text_of value)) d _ (written_same d (front_name name) (text_of value))
front_same s front_ask.Watch d = watched_same d d end.Front _ (same_keys d)
front_same s front_ask.GetState d = same_keys d
front_same s (front_ask.GetKey k) d = same_keys d
front_same s a d = watched_same d d end.Front _ (same_keys d)

-- both keys that the front reads of the disk say what it is
pub record IsDiskSaid (f : Features) (e : DiskFacts) (d : Directory) : Type 0 where
  pub sectors : SaysKey d f e key.Sectors
  pub info : SaysKey d f e key.Info

-- or none says anything
abbrev pub IsUnsaid : Directory → Type 0
IsUnsaid d = key_of d.keys (back_path key.Sectors) ≡ None

abbrev pub IsWhole : Features → DiskFacts → Directory → Type 0
IsWhole f e d = IsUnsaid d ⊎ IsDiskSaid f e d

-- as the back stands
abbrev pub FactsAt : Features → DiskFacts → Directory → BackBusStage → Type 0
FactsAt f e d (stage.Publish k) = IsFeature k × IsWhole f e d
FactsAt f e d (stage.PublishFact key.Sectors) = Unit {0}
FactsAt f e d (stage.PublishFact key.SectorSize) = SaysKey d f e key.Sectors
FactsAt f e d (stage.PublishFact key.Info) = SaysKey d f e key.Sectors
FactsAt f e d (stage.WriteState state.Connected) = IsDiskSaid f e d
FactsAt f e d b = IsWhole f e d

-- the back's own state is the one that its key says
abbrev pub IsOwn : Directory → BusState → Type 0
IsOwn d s = state_read (key_of d.keys back_state) ≡ Some s

pub own_same : (d x : Directory) (s : BusState) → Same d x → IsOwn d s → IsOwn x s
own_same d x s is own = ap state_read is.state ∙ own

module _ (f : Features) (e : DiskFacts) (d x : Directory) (is : Same d x) where
  pub says_same : (k : BackKey) → SaysKey d f e k → SaysKey x f e k
  says_same k says = ap (λ (texts : BackKey → Option (List ℕ)). texts k) is.texts ∙ says

  pub said_same : IsDiskSaid f e d → IsDiskSaid f e x
  said_same said = record { sectors = says_same key.Sectors said.sectors; info = says_same key.Info said.info }

  pub whole_same : IsWhole f e d → IsWhole f e x
  whole_same (inl none) = inl (ap (λ (texts : BackKey → Option (List ℕ)). texts key.Sectors) is.texts ∙ none)
  whole_same (inr said) = inr (said_same said)

  pub facts_same : (b : BackBusStage) → FactsAt f e d b → FactsAt f e x b
  facts_same (stage.Publish k) facts = (facts.0, whole_same facts.1)
  facts_same (stage.PublishFact key.Sectors) facts = tt
  facts_same (stage.PublishFact key.SectorSize) facts = says_same key.Sectors facts
  facts_same (stage.PublishFact key.Info) facts = says_same key.Sectors facts
  facts_same (stage.WriteState state.Connected) facts = said_same facts
  facts_same b facts = whole_same facts

-- it publishes what it offers or what its disk is, or then that it is connected
abbrev pub is_telling : BackBusStage → Bool
is_telling (stage.Publish k) = true
is_telling (stage.PublishFact k) = true
is_telling (stage.WriteState state.Connected) = true
is_telling b = false

-- it doesn't, or is about to publish its disk
abbrev pub is_still : BackBusStage → Bool
is_still (stage.Publish k) = false
is_still (stage.PublishFact key.Sectors) = true
is_still (stage.PublishFact k) = false
is_still (stage.WriteState state.Connected) = false
is_still b = true

pub whole_of : (f : Features) (e : DiskFacts) (d : Directory) (b : BackBusStage) → is_telling b ≡ false → FactsAt f e d b → IsWhole f e d
whole_of f e d (stage.Publish k) quiet facts = absurd (true≢false quiet)
whole_of f e d (stage.PublishFact k) quiet facts = absurd (true≢false quiet)
whole_of f e d (stage.WriteState state.Connected) quiet facts = absurd (true≢false quiet)
whole_of f e d b quiet facts = facts

pub facts_of : (f : Features) (e : DiskFacts) (d : Directory) (b : BackBusStage) → is_still b ≡ true → IsWhole f e d → FactsAt f e d b
facts_of f e d (stage.Publish k) still whole = absurd (true≢false (sym still))
facts_of f e d (stage.PublishFact key.Sectors) still whole = tt
facts_of f e d (stage.PublishFact k) still whole = absurd (true≢false (sym still))
facts_of f e d (stage.WriteState state.Connected) still whole = absurd (true≢false (sym still))
facts_of f e d b still whole = whole

-- the back sets a key of its own to what it has to say
pub set_says : (f : Features) (e : DiskFacts) (d : Directory) (k j : BackKey) → SaysKey d f e j → SaysKey (written d (path_under end.Back (back_name k)) (text_of (back_value f e k))) f e j
set_says f e d k j says = back_kept d.keys f e k j says

pub set_said : (f : Features) (e : DiskFacts) (d : Directory) (k : BackKey) → SaysKey (written d (path_under end.Back (back_name k)) (text_of (back_value f e k))) f e k
set_said f e d k = back_said d.keys f e k

-- a feature is neither of the disk's
other_text : (d : Directory) (k : BackKey) (text : List ℕ) → IsFeature k → key_of (written d (path_under end.Back (back_name k)) text).keys (back_path key.Sectors) ≡ key_of d.keys (back_path key.Sectors)
other_text d key.Sectors text is = absurd is
other_text d key.SectorSize text is = absurd is
other_text d key.Info text is = absurd is
other_text d other text is = key_kept d.keys (back_path other) text (back_path key.Sectors) refl

pub feature_whole : (f : Features) (e : DiskFacts) (d : Directory) (k : BackKey) → IsFeature k → IsWhole f e d → IsWhole f e (written d (path_under end.Back (back_name k)) (text_of (back_value f e k)))
feature_whole f e d k is (inl none) = inl (other_text d k (text_of (back_value f e k)) is ∙ none)
feature_whole f e d k is (inr said) = inr (record { sectors = set_says f e d k key.Sectors said.sectors; info = set_says f e d k key.Info said.info })

pub set_own : (d : Directory) (k : BackKey) (text : List ℕ) (s : BusState) → IsOwn d s → IsOwn (written d (path_under end.Back (back_name k)) text) s
set_own d k text s own = ap state_read (back_state_key d.keys k text) ∙ own

-- and its state
pub state_own : (d : Directory) (s : BusState) → IsOwn (written d back_state (decimal (state_number s))) s
state_own d s = state_shown _ s (key_of-with_key_same d.keys back_state (decimal (state_number s)))

pub state_texts : (d : Directory) (text : List ℕ) (f : Features) (e : DiskFacts) (k : BackKey) → SaysKey d f e k → SaysKey (written d back_state text) f e k
state_texts d text f e k says = ap (λ (texts : BackKey → Option (List ℕ)). texts k) (back_texts_state d.keys text) ∙ says

pub state_whole : (d : Directory) (text : List ℕ) (f : Features) (e : DiskFacts) → IsWhole f e d → IsWhole f e (written d back_state text)
state_whole d text f e (inl none) = inl (ap (λ (texts : BackKey → Option (List ℕ)). texts key.Sectors) (back_texts_state d.keys text) ∙ none)
state_whole d text f e (inr said) = inr (record { sectors = state_texts d text f e key.Sectors said.sectors; info = state_texts d text f e key.Info said.info })
