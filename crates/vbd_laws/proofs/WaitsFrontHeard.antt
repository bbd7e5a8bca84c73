-- What the front's negotiation does goes with what it read last of the back's state, and with its watch.
use Rattle.std.proofs.Common.{◌⊎◌, inl, inr, ◌≡◌, ◌∙◌, ap, sym, subst, refl, ℕ, ◌&&◌, Bool, true, false, true≢false, if◌then◌else◌, List, arith}
use Rattle.std.specs.Prelude.{Option, Some, None, ◌==◌}
use Rattle.std.specs.Str.{bytes_eq}
use Rattle.std.proofs.lemmas.Bool.Decides.{nat_tests}
use Rattle.line_text.proofs.Both.{both_true}
use Rattle.blk_base.specs.declared.parts.End.TheVariants.{Back}
use Rattle.blk_base.specs.declared.ask.FrontAnswer.{FrontAnswer}
use Rattle.blk_base.specs.declared.ask.FrontAnswer.TheVariants as answer
use Rattle.blk_front.specs.declared.stage.FrontStage.{FrontStage}
use Rattle.xenbus_state.specs.declared.keys.BackKey.{BackKey}
use Rattle.xenbus_state.specs.declared.keys.BackKey.TheVariants as back_key
use Rattle.xenbus_state.specs.declared.state.BusState.{BusState}
use Rattle.xenbus_state.specs.declared.state.BusState.TheVariants as state
use Rattle.xenbus_state.specs.declared.stage.FrontBusStage.{FrontBusStage}
use Rattle.xenbus_state.specs.declared.stage.FrontBusStage.TheVariants as stage
use Rattle.xenbus_state.specs.declared.front.FrontBusAsk.TheVariants as bus_ask
use Rattle.xenbus_state.specs.declared.table.FrontAction.TheVariants as action
use Rattle.xenbus_state.specs.Keys.{back_name, path_under}
use Rattle.xenbus_state.specs.States.{state_number, state_read}
use Rattle.xenbus_state.specs.Programs.{next_feature, next_fact, next_published}
use Rattle.xenbus_state.specs.Reading.{count_read, fact_read}
use Rattle.xenbus_state.specs.Tables.{front_action, on_offer, on_connected, on_closing, on_gone}
use Rattle.xenbus_state.specs.FrontView.{FrontView, ring_order}
use Rattle.xenbus_state.specs.FrontAsk.{due, ask_at, IsAnswer}
use Rattle.xenbus_state.specs.FrontStep.{at, acted, feature_step, fact_step, after_feature, after_fact, after_published, after_grants, step_at, step_of}
use Rattle.vbd_front.specs.Ask as front
use Rattle.vbd_front.specs.Step.{settled_at, settled}
use Rattle.vbd_model.specs.Fit.{FrontGoesWith}
use Rattle.vbd_laws.specs.Waits.{Heard, Unwatched, Watching, Fired, Read, front_hears}
use Rattle.vbd_laws.proofs.FitFrontBus.{due_ways}

-- two states that differ
apart : {A : Type 0} (a b : BusState) → (state_number a == state_number b) ≡ false → a ≡ b → A
apart a b differ same = absurd (true≢false (sym (is_same (state_number b)) ∙ (ap (λ (s : BusState). state_number s == state_number b) (sym same) ∙ differ)))
  where
    is_same : (n : ℕ) → (n == n) ≡ true
    is_same n = grind (arith, nat_tests)

-- it read last that the back is gone
abbrev pub IsGone : Heard → Type 0
IsGone (Read (Some state.Closed)) = Unit {0}
IsGone (Read (Some state.Unknown)) = Unit {0}
IsGone h = ⊥

-- Where a front that closes published nothing, or connected no more, nothing of a request was left as it read that.
module _ (free : Type 0) where
  -- what it read last is dealt with
  abbrev pub IsDealt : BusState → (closing gone : Bool) → Heard → Type 0
  IsDealt own closing gone Unwatched = ⊥
  IsDealt own closing gone Fired = ⊥
  IsDealt own closing gone Watching = gone ≡ false
  IsDealt own closing gone (Read None) = ⊥
  IsDealt own closing gone (Read (Some state.Closed)) = (gone ≡ true) × (closing ≡ true)
  IsDealt own closing gone (Read (Some state.Unknown)) = (gone ≡ true) × (closing ≡ true)
  IsDealt own closing gone (Read (Some state.Closing)) = (gone ≡ false) × (closing ≡ true) × (own ≡ state.Initialised → free)
  IsDealt own closing gone (Read (Some state.InitWait)) = (gone ≡ false) × (own ≡ state.Initialising → (closing ≡ true) × free)
  IsDealt own closing gone (Read (Some state.Connected)) = (gone ≡ false) × (own ≡ state.Initialised → (closing ≡ true) × free)
  IsDealt own closing gone (Read (Some s)) = gone ≡ false

  -- it publishes, connects
  abbrev pub Publishes : Bool → Heard → Type 0
  Publishes gone h = (h ≡ Read (Some state.InitWait)) × (gone ≡ false)

  abbrev pub Connects : (closing gone : Bool) → Heard → Type 0
  Connects closing gone h = ((h ≡ Read (Some state.Connected)) ⊎ ((h ≡ Read (Some state.Closing)) × (closing ≡ true))) × (gone ≡ false)

  abbrev pub HearsAt : FrontBusStage → BusState → (closing gone : Bool) → Heard → Type 0
  HearsAt stage.Start own closing gone h = (h ≡ Unwatched) × (gone ≡ false)
  HearsAt stage.Rest own closing gone h = IsDealt own closing gone h
  HearsAt stage.ReadState own closing gone h = (h ≡ Fired) × (gone ≡ false)
  HearsAt (stage.ReadFeature key) own closing gone h = Publishes gone h
  HearsAt (stage.RingWord word) own closing gone h = Publishes gone h
  HearsAt (stage.Grant page) own closing gone h = Publishes gone h
  HearsAt stage.NewPort own closing gone h = Publishes gone h
  HearsAt (stage.Publish key) own closing gone h = Publishes gone h
  HearsAt (stage.WriteState state.Initialised) own closing gone h = Publishes gone h
  HearsAt (stage.ReadFact key) own closing gone h = Connects closing gone h
  HearsAt (stage.WriteState state.Connected) own closing gone h = Connects closing gone h
  HearsAt (stage.WriteState s) own closing gone h = IsGone h
  HearsAt (stage.EndGrant page) own closing gone h = IsGone h
  HearsAt stage.EndOtherGrants own closing gone h = IsGone h
  HearsAt stage.ClosePort own closing gone h = IsGone h
  HearsAt stage.Closed own closing gone h = Unit {0}
  HearsAt (stage.Broken word) own closing gone h = Unit {0}

  abbrev pub Hears : FrontView → Heard → Type 0
  Hears v h = HearsAt v.stage v.state v.closing v.gone h

  -- the back's state was read
  offered : (v : FrontView) (own : BusState) → v.state ≡ own → v.gone ≡ false → Hears (acted (on_offer own) v) (Read (Some state.InitWait))
  offered v state.Initialising own gone = (refl, gone)
  offered v other own gone = (gone, λ e. apart other state.Initialising refl (sym own ∙ e))

  connected : (v : FrontView) (own : BusState) → v.state ≡ own → v.gone ≡ false → Hears (acted (on_connected own) v) (Read (Some state.Connected))
  connected v state.Initialised own gone = (inl refl, gone)
  connected v other own gone = (gone, λ e. apart other state.Initialised refl (sym own ∙ e))

  closes : (v : FrontView) (own : BusState) (idle : Bool) → v.state ≡ own → v.gone ≡ false → (idle ≡ true → free) → Hears (acted (on_closing own idle) v) (Read (Some state.Closing))
  closes v state.Initialised false own gone is = (inr (refl, refl), gone)
  closes v state.Initialised true own gone is = (gone, refl, λ e. is refl)
  closes v other idle own gone is = (gone, refl, λ e. apart other state.Initialised refl (sym own ∙ e))

  leaves : (v : FrontView) (idle : Bool) (word : ℕ) (s : BusState) → IsGone (Read (Some s)) → Hears (acted (on_gone idle word) v) (Read (Some s))
  leaves v true word state.Closed is = (refl, refl)
  leaves v true word state.Unknown is = (refl, refl)
  leaves v true word s is = absurd is
  leaves v false word s is = tt

  acted_hears : (v : FrontView) (idle : Bool) (read : Option BusState) → v.gone ≡ false → (idle ≡ true → free) → Hears (acted (front_action v.state v.closing idle read) v) (Read read)
  acted_hears v idle (Some state.Initialising) gone is = gone
  acted_hears v idle (Some state.InitWait) gone is = by_test (v.closing && idle) refl
    where
      by_test : (b : Bool) → (v.closing && idle) ≡ b → Hears (acted (if b then action.Nothing else on_offer v.state) v) (Read (Some state.InitWait))
      by_test true e = (gone, λ own. let both = both_true v.closing idle e in (both.0, is both.1))
      by_test false e = offered v v.state refl gone
  acted_hears v idle (Some state.Initialised) gone is = gone
  acted_hears v idle (Some state.Connected) gone is = by_test (v.closing && idle) refl
    where
      by_test : (b : Bool) → (v.closing && idle) ≡ b → Hears (acted (if b then action.Nothing else on_connected v.state) v) (Read (Some state.Connected))
      by_test true e = (gone, λ own. let both = both_true v.closing idle e in (both.0, is both.1))
      by_test false e = connected v v.state refl gone
  acted_hears v idle (Some state.Closing) gone is = closes v v.state idle refl gone is
  acted_hears v idle (Some state.Closed) gone is = leaves v idle 6 state.Closed tt
  acted_hears v idle (Some state.Unknown) gone is = leaves v idle 0 state.Unknown tt
  acted_hears v idle None gone is = tt
  acted_hears v idle (Some other) gone is = gone

  -- another key is none of a state
  unlike_state : (key : BackKey) → bytes_eq (path_under Back (back_name key)) front.other_state ≡ false
  unlike_state back_key.FeatureBarrier = refl
  unlike_state other = refl

  key_heard : (key : BackKey) (text : Option (List ℕ)) (h : Heard) → front_hears (front.key_ask (bus_ask.GetKey key)) (answer.Key text) h ≡ h
  key_heard key text h = ap (λ (b : Bool). if b then Read (state_read text) else h) (unlike_state key)

  feature_hears : (key : BackKey) (n : Option ℕ) (v : FrontView) (h : Heard) → Publishes v.gone h → Hears (feature_step key n v) h
  feature_hears key None v h is = tt
  feature_hears key (Some n) v h is = elim (next_feature key) as (λ next. HearsAt (after_feature next) v.state v.closing v.gone h) [ None ↦ is | Some k ↦ is ]

  fact_hears : (key : BackKey) (n : Option ℕ) (v : FrontView) (h : Heard) → Connects v.closing v.gone h → Hears (fact_step key n v) h
  fact_hears key None v h is = tt
  fact_hears key (Some n) v h is = elim (next_fact key) as (λ next. HearsAt (after_fact next) v.state v.closing v.gone h) [ None ↦ is | Some k ↦ is ]

  -- its negotiation speaks at a stage that it has begun
  pub says_at : (s : FrontBusStage) (v : FrontView) (idle : Bool) (r : FrontStage) (h : Heard) (a : FrontAnswer) → (idle ≡ true → free) → FrontGoesWith s v r → HearsAt s v.state v.closing v.gone h → front.speaks (ask_at s v) ≡ true → IsAnswer (ask_at s v) a
      → Hears (step_at s (at s v) idle a) (front_hears (front.key_ask (ask_at s v)) a h)
  says_at stage.Start v idle r h answer.Done may goes is says allowed = is.1
  says_at stage.ReadState v idle r h (answer.Key text) may goes is says allowed = acted_hears (at stage.ReadState v) idle (state_read text) is.1 may
  says_at (stage.ReadFeature key) v idle r h (answer.Key text) may goes is says allowed =
      subst (λ (x : Heard). Hears (feature_step key (count_read text) (at (stage.ReadFeature key) v)) x) (sym (key_heard key text h)) (feature_hears key (count_read text) (at (stage.ReadFeature key) v) h is)
  says_at (stage.Publish key) v idle r h answer.Done may goes is says allowed = elim (next_published (ring_order v) key) as (λ next. HearsAt (after_published next) v.state v.closing v.gone h) [ None ↦ is | Some k ↦ is ]
  says_at (stage.ReadFact key) v idle r h (answer.Key text) may goes is says allowed =
      subst (λ (x : Heard). Hears (fact_step key (fact_read key text) (at (stage.ReadFact key) v)) x) (sym (key_heard key text h)) (fact_hears key (fact_read key text) (at (stage.ReadFact key) v) h is)
  says_at (stage.WriteState state.Initialised) v idle r h answer.Done may goes is says allowed =
      subst (λ (x : Heard). IsDealt state.Initialised v.closing v.gone x) (sym is.0) (is.1, λ e. apart state.Initialised state.Initialising refl e)
  says_at (stage.WriteState state.Connected) v idle r h answer.Done may goes is says allowed = by_read is.0
    where
      by_read : (h ≡ Read (Some state.Connected)) ⊎ ((h ≡ Read (Some state.Closing)) × (v.closing ≡ true)) → IsDealt state.Connected v.closing v.gone h
      by_read (inl e) = subst (λ (x : Heard). IsDealt state.Connected v.closing v.gone x) (sym e) (is.1, λ own. apart state.Connected state.Initialised refl own)
      by_read (inr e) = subst (λ (x : Heard). IsDealt state.Connected v.closing v.gone x) (sym e.0) (is.1, e.1, λ own. apart state.Connected state.Initialised refl own)
  says_at (stage.WriteState state.Closed) v idle r h answer.Done may goes is says allowed = tt
  says_at (stage.WriteState s) v idle r h answer.Done may goes is says allowed = absurd goes
  says_at stage.Start v idle r h a may goes is says allowed = absurd allowed
  says_at stage.ReadState v idle r h a may goes is says allowed = absurd allowed
  says_at (stage.ReadFeature key) v idle r h a may goes is says allowed = absurd allowed
  says_at (stage.Publish key) v idle r h a may goes is says allowed = absurd allowed
  says_at (stage.ReadFact key) v idle r h a may goes is says allowed = absurd allowed
  says_at (stage.WriteState s) v idle r h a may goes is says allowed = absurd allowed
  says_at s v idle r h a may goes is says allowed = absurd (true≢false (sym says))

  -- and where it begins to close
  pub dealt_closing : (own : BusState) (closing gone : Bool) (h : Heard) → IsDealt own closing gone h → closing ≡ true → IsDealt state.Closing closing gone h
  dealt_closing own closing gone Watching is e = is
  dealt_closing own closing gone (Read None) is e = absurd is
  dealt_closing own closing gone (Read (Some state.InitWait)) is e = (is.0, λ own. apart state.Closing state.Initialising refl own)
  dealt_closing own closing gone (Read (Some state.Connected)) is e = (is.0, λ own. apart state.Closing state.Initialised refl own)
  dealt_closing own closing gone (Read (Some state.Closing)) is e = (is.0, is.1, λ own. apart state.Closing state.Initialised refl own)
  dealt_closing own closing gone (Read (Some s)) is e = is
  dealt_closing own closing gone other is e = absurd is

  pub dealt_gone : (own : BusState) (closing gone : Bool) (h : Heard) → IsDealt own closing gone h → gone ≡ true → IsGone h
  dealt_gone own closing gone Watching is e = true≢false (sym e ∙ is)
  dealt_gone own closing gone (Read None) is e = is
  dealt_gone own closing gone (Read (Some state.Closed)) is e = tt
  dealt_gone own closing gone (Read (Some state.Unknown)) is e = tt
  dealt_gone own closing gone (Read (Some state.Closing)) is e = true≢false (sym e ∙ is.0)
  dealt_gone own closing gone (Read (Some state.InitWait)) is e = true≢false (sym e ∙ is.0)
  dealt_gone own closing gone (Read (Some state.Connected)) is e = true≢false (sym e ∙ is.0)
  dealt_gone own closing gone (Read (Some s)) is e = true≢false (sym e ∙ is)
  dealt_gone own closing gone other is e = is

  -- it was asked to close
  dealt_closed : (own : BusState) (closing gone : Bool) (h : Heard) → IsDealt own closing gone h → IsDealt own true gone h
  dealt_closed own closing gone (Read None) is = is
  dealt_closed own closing gone (Read (Some state.Closed)) is = (is.0, refl)
  dealt_closed own closing gone (Read (Some state.Unknown)) is = (is.0, refl)
  dealt_closed own closing gone (Read (Some state.Closing)) is = (is.0, refl, is.2)
  dealt_closed own closing gone (Read (Some state.InitWait)) is = (is.0, λ own. (refl, (is.1 own).1))
  dealt_closed own closing gone (Read (Some state.Connected)) is = (is.0, λ own. (refl, (is.1 own).1))
  dealt_closed own closing gone (Read (Some s)) is = is
  dealt_closed own closing gone other is = is

  connects_closed : (closing gone : Bool) (h : Heard) → Connects closing gone h → Connects true gone h
  connects_closed closing gone h is = (elim is.0 [ inl e ↦ inl e | inr e ↦ inr (e.0, refl) ], is.1)

  pub hears_closed : (s : FrontBusStage) (own : BusState) (closing gone : Bool) (h : Heard) → HearsAt s own closing gone h → HearsAt s own true gone h
  hears_closed stage.Rest own closing gone h is = dealt_closed own closing gone h is
  hears_closed (stage.ReadFact key) own closing gone h is = connects_closed closing gone h is
  hears_closed (stage.WriteState state.Connected) own closing gone h is = connects_closed closing gone h is
  hears_closed s own closing gone h is = is

  pub settled_hears : (idle : Bool) (u : FrontView) (h : Heard) → Hears u h → Hears (settled idle u) h
  settled_hears idle u h is =
      due_ways (λ (d : FrontBusStage). due u idle ≡ d → Hears (settled_at (ask_at d u) idle u) h) u idle (λ e. begun u.stage e is) (λ here closing e. is) (λ here gone e. is)
      (λ here gone e. ends e (dealt_gone u.state u.closing u.gone h (subst (λ (s : FrontBusStage). HearsAt s u.state u.closing u.gone h) here is) gone)) refl
    where
      ends : due u idle ≡ stage.EndOtherGrants → IsGone h → Hears (step_of u idle answer.Done) h
      ends e gone = subst (λ (d : FrontBusStage). Hears (step_at d (at d u) idle answer.Done) h) (sym e) (elim u.port as (λ port. HearsAt (after_grants port) u.state u.closing u.gone h) [ None ↦ gone | Some p ↦ gone ])

      begun : (s : FrontBusStage) → due u idle ≡ s → HearsAt s u.state u.closing u.gone h → Hears (settled_at (ask_at s u) idle u) h
      begun stage.EndOtherGrants e gone = ends e gone
      begun s e there = is

-- what was left no more isn't left
dealt_as : (P Q : Type 0) (own : BusState) (closing gone : Bool) (h : Heard) → (closing ≡ true → P → Q) → IsDealt P own closing gone h → IsDealt Q own closing gone h
dealt_as P Q own closing gone (Read None) into is = is
dealt_as P Q own closing gone (Read (Some state.Closing)) into is = (is.0, is.1, λ e. into is.1 (is.2 e))
dealt_as P Q own closing gone (Read (Some state.InitWait)) into is = (is.0, λ e. let both = is.1 e in (both.0, into both.0 both.1))
dealt_as P Q own closing gone (Read (Some state.Connected)) into is = (is.0, λ e. let both = is.1 e in (both.0, into both.0 both.1))
dealt_as P Q own closing gone (Read (Some s)) into is = is
dealt_as P Q own closing gone other into is = is

pub hears_as : (P Q : Type 0) (s : FrontBusStage) (own : BusState) (closing gone : Bool) (h : Heard) → (closing ≡ true → P → Q) → HearsAt P s own closing gone h → HearsAt Q s own closing gone h
hears_as P Q stage.Rest own closing gone h into is = dealt_as P Q own closing gone h into is
hears_as P Q (stage.WriteState state.Initialised) own closing gone h into is = is
hears_as P Q (stage.WriteState state.Connected) own closing gone h into is = is
hears_as P Q s own closing gone h into is = is
