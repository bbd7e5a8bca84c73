-- No watch of the back is lost, and which state it has written.
use Rattle.std.proofs.Common.{◌≡◌, sym, subst, ap, ℕ, ◌+◌, ◌<◌, ◌==◌, nat_lt, Bool, true, false, List, [], ◌∷◌, length, refl, arith, inl, inr, if◌then◌else◌}
use Rattle.std.specs.Prelude.{Option, Some, None}
use Rattle.std.specs.Option.{option_map}
use Rattle.blk_base.specs.declared.parts.Mapping.{Mapping}
use Rattle.key_directory.specs.Directory.{Directory, key_of}
use Rattle.key_directory.specs.Watches.{Watches, next_watch, taken, fired, with_watch, no_watches}
use Rattle.xenbus_state.specs.States.{state_read}
use Rattle.xenbus_state.specs.Numbers.{number_of}
use Rattle.xenbus_state.specs.Tables.{back_action}
use Rattle.xenbus_state.specs.Reading.{count_read}
use Rattle.xenbus_state.specs.Programs.{next_feature, next_fact, after_page}
use Rattle.xenbus_state.specs.declared.keys.FrontKey.{FrontKey}
use Rattle.xenbus_state.specs.declared.keys.FrontKey.TheVariants as key
use Rattle.xenbus_state.specs.declared.keys.BackKey.{BackKey}
use Rattle.xenbus_state.specs.declared.keys.BackKey.TheVariants as back_key
use Rattle.xenbus_state.specs.declared.state.BusState.{BusState}
use Rattle.xenbus_state.specs.declared.state.BusState.TheVariants as state
use Rattle.xenbus_state.specs.declared.stage.BackBusStage.{BackBusStage}
use Rattle.xenbus_state.specs.declared.stage.BackBusStage.TheVariants as stage
use Rattle.xenbus_state.specs.declared.table.BackAction.{BackAction}
use Rattle.xenbus_state.specs.declared.table.BackAction.TheVariants as action
use Rattle.xenbus_state.specs.BackView.{BackView}
use Rattle.xenbus_state.specs.BackAsk.{ask_at}
use Rattle.xenbus_state.specs.BackReading as reading
use Rattle.xenbus_state.specs.BackReading.{order_of, layout_read, with_order, with_gref, with_port, with_layout, with_persistent}
use Rattle.xenbus_state.specs.BackStep.{at, step_at, acted, kept_or_halted, after_state, last_state, unmapping_next, after_feature, after_fact}
use Rattle.xenbus_state.specs.BackSound.{IsPlaced, IsWriting}
use Rattle.negotiation_laws.specs.Negotiation.{front_path, back_path, front_state, back_state, state_text, back_woken, back_answered, back_done}
use Rattle.negotiation_laws.proofs.Shown.{state_shown}
use Rattle.negotiation_laws.proofs.BackActs.{ActsFor}
use Rattle.negotiation_laws.proofs.Between.{back_own}
use Rattle.negotiation_laws.proofs.Watching.{sees_so, sees_taken, back_sees_kept}
use Rattle.negotiation_laws.proofs.Subjects.{Sees, IsReady, SettledBack, BackSees}

-- the back's watch, by what it does
abbrev pub Sight : BackView → BusState → Watches → Type 0
Sight v fs w = BackSees v.stage v.state fs w

-- what the back does with a state that it reads
abbrev pub ActsAt : BackBusStage → BackView → BusState → Type 0
ActsAt stage.ReadState v fs = ActsFor (back_action v.state v.unplugged (Some fs)) v.state fs v.unplugged
ActsAt s v fs = Unit {0}

-- a key is read: the next one is, or the pages are mapped, or the back halts; its state stays
abbrev IsKeyStage : BackBusStage → Type 0
IsKeyStage (stage.ReadKey k) = Unit {0}
IsKeyStage stage.MapPage = Unit {0}
IsKeyStage stage.UnmapOthers = Unit {0}
IsKeyStage s = ⊥

record ReadsOn (v w : BackView) : Type 0 where
  same : w.state ≡ v.state
  stage : IsKeyStage w.stage

read_or_halted : {A : Type 0} (g : A → BackView) (n : Option A) (v : BackView) → ((x : A) → ReadsOn v (g x)) → ReadsOn v (kept_or_halted (option_map g n) v)
read_or_halted g None v h = record { same = refl; stage = tt }
read_or_halted g (Some x) v h = h x

only_reads : (single : Bool) (v : BackView) → ReadsOn v (kept_or_halted (if single then Some (record v { stage = stage.ReadKey key.RingRef }) else None) v)
only_reads true v = record { same = refl; stage = tt }
only_reads false v = record { same = refl; stage = tt }

key_reads : (k : FrontKey) (text : Option (List ℕ)) (v : BackView) → ReadsOn v (kept_or_halted (reading.key_read k text v) v)
key_reads key.RingPageOrder (Some text) v = read_or_halted (with_order v (key.RingRefOf 0)) (order_of (number_of text)) v (λ x. record { same = refl; stage = tt })
key_reads (key.RingRefOf page) None v = only_reads (v.terms.order == 0) v
key_reads (key.RingRefOf page) (Some text) v = read_or_halted (with_gref v (after_page v.terms.order page)) (number_of text) v (λ x. record { same = refl; stage = tt })
key_reads key.RingRef (Some text) v = read_or_halted (with_gref v key.EventChannel) (number_of text) v (λ x. record { same = refl; stage = tt })
key_reads key.EventChannel (Some text) v = read_or_halted (with_port v) (number_of text) v (λ x. record { same = refl; stage = tt })
key_reads key.Protocol text v = read_or_halted (with_layout v) (layout_read text) v (λ x. record { same = refl; stage = tt })
key_reads key.FeaturePersistent text v = read_or_halted (with_persistent v) (count_read text) v (λ x. record { same = refl; stage = tt })
key_reads other None v = record { same = refl; stage = tt }

module _ (fs : BusState) where
  key_stage_sees : (s : BackBusStage) (own : BusState) (w : Watches) → IsKeyStage s → Sees front_state w (IsReady fs) → BackSees s own fs w
  key_stage_sees (stage.ReadKey k) own w k_stage h = h
  key_stage_sees stage.MapPage own w k_stage h = h
  key_stage_sees stage.UnmapOthers own w k_stage h = sees_so front_state w (IsReady fs) (Unit {0}) (λ a. tt) h
  key_stage_sees s own w k_stage h = absurd k_stage

  offered_sees : (k : BackKey) (own : BusState) (w : Watches) → w ≡ no_watches → BackSees (after_feature (next_feature k)) own fs w
  offered_sees back_key.FeatureBarrier own w h = h
  offered_sees k own w h = h

  fact_sees : (k : BackKey) (own : BusState) (w : Watches) → Sees front_state w (IsReady fs) → BackSees (after_fact (next_fact k)) own fs w
  fact_sees back_key.Sectors own w h = h
  fact_sees k own w h = h

  map_sees : (more : Bool) (own : BusState) (w : Watches) → Sees front_state w (IsReady fs) → BackSees (if more then stage.MapPage else stage.Bind) own fs w
  map_sees true own w h = h
  map_sees false own w h = h

  last_sees : (own other : BusState) (w : Watches) → Sees front_state w (Unit {0}) → BackSees (stage.WriteState (last_state own)) other fs w
  last_sees state.Closing other w h = h
  last_sees own other w h = h

  giving_sees : (pages : List Mapping) (bound : Bool) (own : BusState) (w : Watches) → Sees front_state w (Unit {0}) → BackSees (unmapping_next pages bound own) own fs w
  giving_sees (page ∷ pages) bound own w h = h
  giving_sees [] true own w h = h
  giving_sees [] false own w h = last_sees own own w h

  unmap_sees : (pages : List Mapping) (v : BackView) (page : Mapping) (d : Directory) → 0 < length pages → Sees front_state d.back (Unit {0})
      → let u = record v { pages = pages; stage = stage.UnmapPage } in Sight (step_at stage.UnmapPage u (back_answered (ask_at stage.UnmapPage u) page d)) fs (back_done (ask_at stage.UnmapPage u) d).back
  unmap_sees [] v page d some h = absurd (omega arith)
  unmap_sees (first ∷ pages) v page d some h = giving_sees pages v.bound v.state d.back h

  written_sees : (s own : BusState) (v : BackView) (w : Watches) → IsWriting s v → BackSees (stage.WriteState s) own fs w → BackSees (after_state s) s fs w
  written_sees state.InitWait own v w writing h = h
  written_sees state.Connected own v w writing h = h
  written_sees state.Closing own v w writing h = h
  written_sees state.Closed own v w writing h = h
  written_sees s own v w writing h = absurd writing

  acted_sees : (act : BackAction) (v : BackView) (w : Watches) → ActsFor act v.state fs v.unplugged → Sees front_state w (Unit {0}) → Sight (acted act (at stage.ReadState v)) fs w
  acted_sees action.Nothing v w acts h = sees_so front_state w (Unit {0}) (SettledBack v.state fs) (λ u. acts) h
  acted_sees action.Connect v w acts h = sees_so front_state w (Unit {0}) (IsReady fs) (λ u. acts.1) h
  acted_sees (action.Halt reason) v w acts h = h

  state_sees : (v : BackView) (o : Option (List ℕ)) (w : Watches) → o ≡ Some (state_text fs)
      → ActsFor (back_action v.state v.unplugged (Some fs)) v.state fs v.unplugged → Sees front_state w (Unit {0})
      → Sight (acted (back_action v.state v.unplugged (state_read o)) (at stage.ReadState v)) fs w
  state_sees v o w shown acts h =
      subst (λ (r : Option BusState). Sight (acted (back_action v.state v.unplugged r) (at stage.ReadState v)) fs w) (sym (state_shown o fs shown)) (acted_sees (back_action v.state v.unplugged (Some fs)) v w acts h)

  woken : (v : BackView) (w : Watches) → Sees front_state w (SettledBack v.state fs)
      → Sight (step_at stage.Rest (at stage.Rest v) (back_woken (next_watch w))) fs (taken w)
  woken v w (inl e) = subst (λ (u : Watches). Sight (step_at stage.Rest (at stage.Rest v) (back_woken (next_watch u))) fs (taken u)) (sym e) (inr (refl, tt))
  woken v w (inr (e, heard)) =
      subst (λ (u : Watches). Sight (step_at stage.Rest (at stage.Rest v) (back_woken (next_watch u))) fs (taken u)) (sym e) (inr (refl, heard))

  halted_sees : (o : Option (List ℕ)) (v : BackView) (w : Watches) → Sees front_state w (Unit {0})
      → Sight (step_at stage.Halted (at stage.Halted v) (back_woken o)) fs (taken w)
  halted_sees None v w h = sees_taken front_state w (Unit {0}) h
  halted_sees (Some path) v w h = sees_taken front_state w (Unit {0}) h

  -- each move of the back but that it says that it closes
  pub back_sees_at : (s : BackBusStage) (v : BackView) (page : Mapping) (d : Directory) → key_of d.keys front_state ≡ Some (state_text fs)
      → ActsAt s v fs → IsPlaced s v → BackSees s v.state fs d.back
      → Sight (step_at s (at s v) (back_answered (ask_at s v) page d)) fs (back_done (ask_at s v) d).back
  back_sees_at (stage.Publish k) v page d shown acts placed h = offered_sees k v.state (fired d.back (back_path k)) (ap (λ (u : Watches). fired u (back_path k)) h)
  back_sees_at (stage.WriteState s) v page d shown acts placed h = back_sees_kept back_state (after_state s) s fs d.back refl (written_sees s v.state v d.back placed h)
  back_sees_at stage.Watch v page d shown acts placed h = inl (ap (λ (u : Watches). with_watch u front_state) h)
  back_sees_at stage.Rest v page d shown acts placed h = woken v d.back h
  back_sees_at stage.ReadState v page d shown acts placed h = state_sees v (key_of d.keys front_state) d.back shown acts h
  back_sees_at (stage.ReadKey k) v page d shown acts placed h =
      let reads = key_reads k (key_of d.keys (front_path k)) (at (stage.ReadKey k) v) in
      key_stage_sees _ _ d.back reads.stage h
  back_sees_at stage.MapPage v page d shown acts placed h = map_sees (nat_lt (length v.pages + 1) (length v.grefs)) v.state d.back h
  back_sees_at stage.Bind v page d shown acts placed h = h
  back_sees_at (stage.PublishFact k) v page d shown acts placed h =
      fact_sees k v.state (fired d.back (back_path k)) (back_sees_kept (back_path k) (stage.PublishFact k) v.state fs d.back refl h)
  back_sees_at stage.UnmapOthers v page d shown acts placed h = giving_sees v.pages v.bound v.state d.back h
  back_sees_at stage.UnmapPage v page d shown acts placed h = unmap_sees v.pages v page d placed.1 h
  back_sees_at stage.ClosePort v page d shown acts placed h = last_sees v.state v.state d.back h
  back_sees_at stage.Halted v page d shown acts placed h = halted_sees (next_watch d.back) v d.back h

-- which state the back has written after a move
acted_state : (act : BackAction) (v : BackView) → (acted act v).state ≡ v.state
acted_state action.Nothing v = refl
acted_state other v = refl

woken_state : (s : BackBusStage) (o : Option (List ℕ)) (v : BackView) → (step_at s (at s v) (back_woken o)).state ≡ v.state
woken_state stage.Rest None v = refl
woken_state stage.Rest (Some path) v = refl
woken_state s None v = refl
woken_state s (Some path) v = refl

unmap_state : (pages : List Mapping) (v : BackView) (page : Mapping) (d : Directory)
    → let u = record v { pages = pages; stage = stage.UnmapPage } in (step_at stage.UnmapPage u (back_answered (ask_at stage.UnmapPage u) page d)).state ≡ back_own (ask_at stage.UnmapPage u) v.state
unmap_state [] v page d = unmap_none (next_watch d.back)
  where
    unmap_none : (o : Option (List ℕ)) → (step_at stage.UnmapPage (record v { pages = []; stage = stage.UnmapPage }) (back_woken o)).state ≡ v.state
    unmap_none None = refl
    unmap_none (Some path) = refl
unmap_state (first ∷ pages) v page d = refl

pub back_state_at : (s : BackBusStage) (v : BackView) (page : Mapping) (d : Directory)
    → (step_at s (at s v) (back_answered (ask_at s v) page d)).state ≡ back_own (ask_at s v) v.state
back_state_at stage.Rest v page d = woken_state stage.Rest (next_watch d.back) v
back_state_at stage.ReadState v page d = acted_state (back_action v.state v.unplugged (state_read (key_of d.keys front_state))) (at stage.ReadState v)
back_state_at (stage.ReadKey k) v page d = (key_reads k (key_of d.keys (front_path k)) (at (stage.ReadKey k) v)).same
back_state_at stage.UnmapPage v page d = unmap_state v.pages v page d
back_state_at stage.Halted v page d = woken_state stage.Halted (next_watch d.back) v
back_state_at other v page d = refl
