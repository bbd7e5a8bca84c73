-- What the back's negotiation says is of the grammar: its disk has sectors of 64 bits, it reads the reference of one of 16 pages, and what it reads has 32 bits.
use Rattle.std.proofs.Common.{◌≡◌, sym, subst, ℕ, zero, suc, ◌+◌, ◌-◌, ◌*◌, ◌&&◌, ◌++◌, All, ◌^◌, ◌<◌, ◌≤◌, ◌==◌, Bool, true, false, not, List, [], ◌∷◌, length, refl, arith, if◌then◌else◌}
use Rattle.std.specs.Prelude.{Option, Some, None, nat_lt, nat_le}
use Rattle.std.specs.List.{AllByRecursion}
use Rattle.std.specs.Option.{option_map}
use Rattle.std.proofs.lemmas.Option.{same_Some, none-some}
use Rattle.std.proofs.lemmas.Bool.Decides.{nat_tests}
use Rattle.blk_base.specs.declared.parts.Mapping.{Mapping}
use Rattle.blk_base.specs.declared.ask.BackAnswer.{BackAnswer}
use Rattle.blk_base.specs.declared.ask.BackAnswer.TheVariants as answer
use Rattle.xenbus_state.specs.declared.keys.FrontKey.{FrontKey}
use Rattle.xenbus_state.specs.declared.keys.FrontKey.TheVariants as key
use Rattle.xenbus_state.specs.declared.keys.BackKey.{BackKey}
use Rattle.xenbus_state.specs.declared.keys.BackKey.TheVariants as back_key
use Rattle.xenbus_state.specs.declared.state.BusState.{BusState}
use Rattle.xenbus_state.specs.declared.state.BusState.TheVariants as state
use Rattle.xenbus_state.specs.declared.offer.Features.{Features}
use Rattle.xenbus_state.specs.declared.offer.DiskFacts.{DiskFacts}
use Rattle.xenbus_state.specs.declared.stage.BackBusStage.{BackBusStage}
use Rattle.xenbus_state.specs.declared.stage.BackBusStage.TheVariants as bus
use Rattle.xenbus_state.specs.declared.table.BackAction.{BackAction}
use Rattle.xenbus_state.specs.declared.table.BackAction.TheVariants as action
use Rattle.xenbus_state.specs.declared.back.BackBusAsk.{BackBusAsk}
use Rattle.xenbus_state.specs.declared.back.BackBusAsk.TheVariants as back_ask
use Rattle.xenbus_state.specs.declared.table.BackHalt.{BackHalt}
use Rattle.xenbus_state.specs.declared.table.BackHalt.TheVariants as bus_halt
use Rattle.xenbus_state.specs.States.{state_read, state_number}
use Rattle.xenbus_state.specs.Keys.{front_name}
use Rattle.xenbus_state.specs.Numbers.{is_digit, number_after, number_in, number_of, long_of}
use Rattle.xenbus_state.specs.Tables.{back_action, is_connected, bad_order, front_gone}
use Rattle.xenbus_state.specs.Programs.{next_feature, next_fact, after_page}
use Rattle.xenbus_state.specs.Reading.{count_read}
use Rattle.xenbus_state.specs.BackReading.{order_of, layout_read, with_order, with_gref, with_port, with_layout, with_persistent, key_read}
use Rattle.xenbus_state.specs.Values.{back_value}
use Rattle.xenbus_state.specs.BackView.{BackView, is_halting, halted, stopped, unplugged}
use Rattle.xenbus_state.specs.BackAsk.{says_closing, unmap_ask, ask_at, ask_of}
use Rattle.xenbus_state.specs.BackStep.{acted, action_halt, kept_or_halted, key_halt, halt_at, halt_of, after_state, unmapping_next, other_pages, after_feature, after_fact, step_at, step_of}
use Rattle.xenbus_state.proofs.Powers.{few_pages}
use Rattle.line_text.specs.Texts.{is_key_name}
use Rattle.machine_pipeline.specs.Allowed.{IsSpelled, IsSaid, AreSaid}
use Rattle.vbd_back.specs.View.{offer}
use Rattle.vbd_back.specs.Ask as back
use Rattle.vbd_back.specs.Step as back_step
use Rattle.vbd_model.specs.World.{World, backend_of}
use Rattle.vbd_model.specs.Happening.{back_key as key_move, back_turn, back_bus_after, renewed_bus}
use Rattle.negotiation_laws.proofs.Choices.{either, unplugged_cases}
use Rattle.line_text.proofs.Both.{both_true}
use Rattle.vbd_laws.proofs.FitBackKept.{step_is}
use Rattle.vbd_laws.proofs.NegotiatedBack.{IsGiven}
use Rattle.vbd_laws.proofs.ServedTexts.{few_states, page_name, state_name, ring_name, order_name, port_name, layout_name, persistent_name, number_text, page_path, front_state_path, back_state_path, back_path, ring_path, order_path, port_path, layout_path, persistent_path, flag_text, state_text}
use Rattle.vbd_laws.proofs.HaltsKeys.{IsReadKey}

-- a page whose reference it reads is one of 16
abbrev pub IsPlain : BackBusStage → Type 0
IsPlain (bus.ReadKey (key.RingRefOf page)) = page < 16
IsPlain s = Unit {0}

pub record Speaks (v : BackView) : Type 0 where
  pub sectors : v.disk.sectors < 2 ^ 64
  pub order : v.terms.order ≤ 4
  pub grefs : AllByRecursion (λ (gref : ℕ). gref < 2 ^ 32) v.grefs
  pub port : v.terms.port < 2 ^ 32
  pub stage : IsPlain v.stage

at_speaks : (s : BackBusStage) (v : BackView) → IsPlain s → Speaks v → Speaks (record v { stage = s })
at_speaks s v p h = record { sectors = h.sectors; order = h.order; grefs = h.grefs; port = h.port; stage = p }

state_plain : (s : BusState) → IsPlain (after_state s)
state_plain state.InitWait = tt
state_plain s = tt

up_plain : (pages : List Mapping) (bound : Bool) (own : BusState) → IsPlain (unmapping_next pages bound own)
up_plain (page ∷ pages) bound own = tt
up_plain [] true own = tt
up_plain [] false own = tt

acted_speaks : (act : BackAction) (v : BackView) → Speaks v → Speaks (acted act v)
acted_speaks action.Nothing v h = at_speaks bus.Rest v tt h
acted_speaks action.Connect v h = at_speaks (bus.ReadKey key.RingPageOrder) v tt h
acted_speaks (action.Halt reason) v h = at_speaks bus.UnmapOthers v tt h

-- a number that is read has 32 bits
after_small : (limit n m : ℕ) (text : List ℕ) → n ≤ limit → number_after limit n text ≡ Some m → m ≤ limit
unfolding number_after
after_small limit n m [] few e = subst (λ (k : ℕ). k ≤ limit) (same_Some n m e) few
after_small limit n m (c ∷ text) few e = by_test (is_digit c && nat_le (n * 10 + (c - 48)) limit) refl (λ few. after_small limit (n * 10 + (c - 48)) m text few) e
  where
    by_test : (b : Bool) → (is_digit c && nat_le (n * 10 + (c - 48)) limit) ≡ b
        → (n * 10 + (c - 48) ≤ limit → number_after limit (n * 10 + (c - 48)) text ≡ Some m → m ≤ limit) → (if b then number_after limit (n * 10 + (c - 48)) text else None) ≡ Some m → m ≤ limit
    by_test true is later f =
        let low = (both_true (is_digit c) (nat_le (n * 10 + (c - 48)) limit) is).1 in
        let next : n * 10 + (c - 48) ≤ limit = grind (arith, nat_tests) in
        later next f
    by_test false is later f = absurd (none-some m f)

in_small : (most limit m : ℕ) (text : List ℕ) → number_in most limit text ≡ Some m → m ≤ limit
unfolding number_in
in_small most limit m text e = by_test (nat_lt 0 (length text) && nat_le (length text) most) e
  where
    by_test : (b : Bool) → (if b then number_after limit 0 text else None) ≡ Some m → m ≤ limit
    by_test true f = after_small limit 0 m text (omega arith) f
    by_test false f = absurd (none-some m f)

number_small : (m : ℕ) (text : List ℕ) → number_of text ≡ Some m → m < 2 ^ 32
number_small m text e = let few = in_small 10 4294967295 m text e in omega arith

pub long_small : (m : ℕ) (text : List ℕ) → long_of text ≡ Some m → m < 2 ^ 64
long_small m text e = let few = in_small 20 18446744073709551615 m text e in omega arith

with_gref_small : (gref : ℕ) (grefs : List ℕ) → gref < 2 ^ 32 → AllByRecursion (λ (g : ℕ). g < 2 ^ 32) grefs → AllByRecursion (λ (g : ℕ). g < 2 ^ 32) (grefs ++ gref ∷ [])
with_gref_small gref [] low are = (low, tt)
with_gref_small gref (g ∷ grefs) low are = (are.0, with_gref_small gref grefs low are.1)

number_speaks : (g : ℕ → BackView) (text : List ℕ) (v : BackView) → ((x : ℕ) → x < 2 ^ 32 → Speaks (g x)) → Speaks v → Speaks (kept_or_halted (option_map g (number_of text)) v)
number_speaks g text v each h = by_number (number_of text) refl
  where
    by_number : (n : Option ℕ) → number_of text ≡ n → Speaks (kept_or_halted (option_map g n) v)
    by_number None e = at_speaks bus.UnmapOthers v tt h
    by_number (Some x) e = each x (number_small x text e)

-- a key that is read
kept_speaks : {A : Type 0} (g : A → BackView) (n : Option A) (v : BackView) → ((x : A) → Speaks (g x)) → Speaks v → Speaks (kept_or_halted (option_map g n) v)
kept_speaks g None v each h = at_speaks bus.UnmapOthers v tt h
kept_speaks g (Some x) v each h = each x

order_speaks : (n : Option ℕ) (v : BackView) → Speaks v → Speaks (kept_or_halted (option_map (with_order v (key.RingRefOf 0)) (order_of n)) v)
order_speaks None v h = at_speaks bus.UnmapOthers v tt h
order_speaks (Some n) v h = by_test (nat_le n 4) refl
  where
    by_test : (b : Bool) → nat_le n 4 ≡ b → Speaks (kept_or_halted (option_map (with_order v (key.RingRefOf 0)) (if b then Some n else None)) v)
    by_test true e = let few : n ≤ 4 = grind (arith, nat_tests) in record { sectors = h.sectors; order = few; grefs = h.grefs; port = h.port; stage = omega arith }
    by_test false e = at_speaks bus.UnmapOthers v tt h

page_plain : (order page : ℕ) → order ≤ 4 → IsPlain (bus.ReadKey (after_page order page))
page_plain order page few = by_test (nat_lt (page + 1) (2 ^ order)) refl
  where
    by_test : (b : Bool) → nat_lt (page + 1) (2 ^ order) ≡ b → IsPlain (bus.ReadKey (if b then key.RingRefOf (page + 1) else key.EventChannel))
    by_test true e =
        let less : page + 1 < 2 ^ order = grind (arith, nat_tests) in
        let most = few_pages order few in
        omega arith
    by_test false e = tt

only_speaks : (single : Bool) (v : BackView) → Speaks v → Speaks (kept_or_halted (if single then Some (record v { stage = bus.ReadKey key.RingRef }) else None) v)
only_speaks true v h = at_speaks (bus.ReadKey key.RingRef) v tt h
only_speaks false v h = at_speaks bus.UnmapOthers v tt h

key_speaks : (k : FrontKey) (text : Option (List ℕ)) (v : BackView) → Speaks v → Speaks (kept_or_halted (key_read k text v) v)
key_speaks key.RingPageOrder None v h = record { sectors = h.sectors; order = omega arith; grefs = h.grefs; port = h.port; stage = tt }
key_speaks key.RingPageOrder (Some text) v h = order_speaks (number_of text) v h
key_speaks (key.RingRefOf page) None v h = only_speaks (v.terms.order == 0) v h
key_speaks (key.RingRefOf page) (Some text) v h =
    number_speaks (with_gref v (after_page v.terms.order page)) text v (λ gref low. record { sectors = h.sectors; order = h.order; grefs = with_gref_small gref v.grefs low h.grefs; port = h.port; stage = page_plain v.terms.order page h.order }) h
key_speaks key.RingRef (Some text) v h = number_speaks (with_gref v key.EventChannel) text v (λ gref low. record { sectors = h.sectors; order = h.order; grefs = with_gref_small gref v.grefs low h.grefs; port = h.port; stage = tt }) h
key_speaks key.EventChannel (Some text) v h = number_speaks (with_port v) text v (λ port low. record { sectors = h.sectors; order = h.order; grefs = h.grefs; port = low; stage = tt }) h
key_speaks key.Protocol text v h = kept_speaks (with_layout v) (layout_read text) v (λ abi. record { sectors = h.sectors; order = h.order; grefs = h.grefs; port = h.port; stage = tt }) h
key_speaks key.FeaturePersistent text v h = kept_speaks (with_persistent v) (count_read text) v (λ n. record { sectors = h.sectors; order = h.order; grefs = h.grefs; port = h.port; stage = tt }) h
key_speaks other None v h = at_speaks bus.UnmapOthers v tt h

step_speaks : (s : BackBusStage) (v : BackView) (a : BackAnswer) → Speaks v → Speaks (step_at s v a)
step_speaks (bus.Publish k) v answer.Done h = at_speaks (after_feature (next_feature k)) v (elim (next_feature k) as (λ k. IsPlain (after_feature k)) [ None ↦ tt | Some k ↦ tt ]) h
step_speaks (bus.WriteState s) v answer.Done h = record { sectors = h.sectors; order = h.order; grefs = h.grefs; port = h.port; stage = state_plain s }
step_speaks bus.Watch v answer.Done h = at_speaks bus.Rest v tt h
step_speaks bus.Rest v (answer.Watched path) h = at_speaks bus.ReadState v tt h
step_speaks bus.ReadState v (answer.Key text) h = acted_speaks (back_action v.state v.unplugged (state_read text)) v h
step_speaks (bus.ReadKey k) v (answer.Key text) h = key_speaks k text v h
step_speaks bus.MapPage v (answer.Mapped page) h =
    record { sectors = h.sectors; order = h.order; grefs = h.grefs; port = h.port; stage = either IsPlain (nat_lt (length v.pages + 1) (length v.grefs)) bus.MapPage bus.Bind tt tt }
step_speaks bus.MapPage v (answer.MapRefused status) h = at_speaks bus.UnmapOthers v tt h
step_speaks bus.Bind v answer.Done h = record { sectors = h.sectors; order = h.order; grefs = h.grefs; port = h.port; stage = tt }
step_speaks bus.Bind v answer.BindRefused h = at_speaks bus.UnmapOthers v tt h
step_speaks (bus.PublishFact k) v answer.Done h = at_speaks (after_fact (next_fact k)) v (elim (next_fact k) as (λ k. IsPlain (after_fact k)) [ None ↦ tt | Some k ↦ tt ]) h
step_speaks bus.UnmapOthers v answer.Done h = at_speaks (unmapping_next v.pages v.bound v.state) v (up_plain v.pages v.bound v.state) h
step_speaks bus.UnmapPage v answer.Done h = record { sectors = h.sectors; order = h.order; grefs = h.grefs; port = h.port; stage = up_plain (other_pages v.pages) v.bound v.state }
step_speaks bus.ClosePort v answer.Done h = record { sectors = h.sectors; order = h.order; grefs = h.grefs; port = h.port; stage = tt }
step_speaks s v a h = h

told_speaks : (v : BackView) (a : BackAnswer) → Speaks v → Speaks (step_of v a)
told_speaks v a h = either Speaks (says_closing v) (record v { state = state.Closing }) (step_at v.stage v a) (record { sectors = h.sectors; order = h.order; grefs = h.grefs; port = h.port; stage = h.stage }) (step_speaks v.stage v a h)

stopped_speaks : (v : BackView) → Speaks v → Speaks (stopped v)
stopped_speaks v h = either Speaks (is_halting v.stage) v (halted v) h (at_speaks bus.UnmapOthers v tt h)

-- a move of the back
pub back_speaks : (w : World) → Speaks w.back → Speaks (back_bus_after w (back_turn w))
back_speaks w h = elim (back_turn w) as (λ act. Speaks (back_bus_after w act)) [ None ↦ h | Some a ↦ step_is Speaks told_speaks stopped_speaks (backend_of w) a.answer h ]

-- the terms that its end of the ring takes have 32 bits
all_at : (grefs : List ℕ) → AllByRecursion (λ (gref : ℕ). gref < 2 ^ 32) grefs → All (λ (gref : ℕ). gref < 2 ^ 32) grefs
all_at [] are k d low = absurd (omega arith)
all_at (g ∷ grefs) are zero d low = are.0
all_at (g ∷ grefs) are (suc k) d low = all_at grefs are.1 k d (omega arith)

pub terms_said : (v : BackView) → Speaks v → AreSaid v.grefs v.terms.port
terms_said v h = (all_at v.grefs h.grefs, h.port)

-- a close of it
pub unplugged_speaks : (v : BackView) → Speaks v → Speaks (unplugged v)
unplugged_speaks v h = unplugged_cases Speaks v h (record { sectors = h.sectors; order = h.order; grefs = h.grefs; port = h.port; stage = h.stage })

-- a new back
pub renewed_speaks : (opened : Bool) (v : BackView) → Speaks v → Speaks (renewed_bus opened v)
renewed_speaks true v h = record { sectors = h.sectors; order = omega arith; grefs = tt; port = omega arith; stage = tt }
renewed_speaks false v h = record { sectors = h.sectors; order = omega arith; grefs = tt; port = omega arith; stage = tt }

-- what it does with the keys
info_text : (read_only : Bool) → (if read_only then 4 else 0) < 2 ^ 64
info_text true = omega arith
info_text false = omega arith

value_spelled : (k : BackKey) (f : Features) (d : DiskFacts) → f ≡ offer d.read_only f.indirect → f.indirect ≤ 960 → d.sectors < 2 ^ 64 → IsSpelled (key_move (back_ask.SetKey k (back_value f d k)))
value_spelled k f d e most few = subst (λ (g : Features). IsSpelled (key_move (back_ask.SetKey k (back_value g d k)))) (sym e) (by_key k)
  where
    by_key : (k : BackKey) → IsSpelled (key_move (back_ask.SetKey k (back_value (offer d.read_only f.indirect) d k)))
    by_key back_key.FeaturePersistent = (back_path back_key.FeaturePersistent, flag_text false)
    by_key back_key.FeatureMaxIndirectSegments = (back_path back_key.FeatureMaxIndirectSegments, number_text f.indirect (omega arith))
    by_key back_key.MaxRingPageOrder = (back_path back_key.MaxRingPageOrder, number_text 4 (omega arith))
    by_key back_key.Sectors = (back_path back_key.Sectors, number_text d.sectors few)
    by_key back_key.SectorSize = (back_path back_key.SectorSize, number_text 512 (omega arith))
    by_key back_key.Info = (back_path back_key.Info, number_text (if d.read_only then 4 else 0) (info_text d.read_only))
    by_key other = (back_path other, flag_text (not d.read_only))

read_spelled : (k : FrontKey) → IsPlain (bus.ReadKey k) → IsSpelled (key_move (back_ask.GetKey k))
read_spelled key.RingPageOrder p = order_path
read_spelled key.RingRef p = ring_path
read_spelled (key.RingRefOf page) p = page_path page p
read_spelled key.EventChannel p = port_path
read_spelled key.Protocol p = layout_path
read_spelled key.FeaturePersistent p = persistent_path

unmap_spelled : (pages : List Mapping) → IsSpelled (key_move (unmap_ask pages))
unmap_spelled [] = tt
unmap_spelled (page ∷ pages) = tt

at_spelled : (s : BackBusStage) (v : BackView) → v.features ≡ offer v.disk.read_only v.features.indirect → v.features.indirect ≤ 960 → v.disk.sectors < 2 ^ 64 → IsPlain s → IsSpelled (key_move (ask_at s v))
at_spelled (bus.Publish k) v e most few p = value_spelled k v.features v.disk e most few
at_spelled (bus.WriteState s) v e most few p = (back_state_path, state_text s)
at_spelled bus.Watch v e most few p = front_state_path
at_spelled bus.ReadState v e most few p = front_state_path
at_spelled (bus.ReadKey k) v e most few p = read_spelled k p
at_spelled (bus.PublishFact k) v e most few p = value_spelled k v.features v.disk e most few
at_spelled bus.UnmapPage v e most few p = unmap_spelled v.pages
at_spelled s v e most few p = tt

asked_spelled : (v : BackView) → v.features ≡ offer v.disk.read_only v.features.indirect → v.features.indirect ≤ 960 → Speaks v → IsSpelled (key_move (ask_of v))
asked_spelled v e most h = either (λ (b : BackBusAsk). IsSpelled (key_move b)) (says_closing v) (back_ask.SetState state.Closing) (ask_at v.stage v) (back_state_path, state_text state.Closing) (at_spelled v.stage v e most h.sectors h.stage)

pub back_spelled : (w : World) → w.back.features ≡ offer w.back.disk.read_only w.back.features.indirect → w.back.features.indirect ≤ 960 → Speaks w.back → IsSpelled (key_move (back.bus_ask_of (backend_of w)))
back_spelled w e most h = asked_spelled w.back e most h

-- a halt that it makes of what it read is a line of the grammar
-- it is one of these, where no map and no bind is refused
abbrev pub IsRead : Option BackHalt → Type 0
IsRead (Some (bus_halt.BadKey k)) = IsReadKey k
IsRead (Some (bus_halt.BadPort port)) = ⊥
IsRead (Some (bus_halt.MapRefused gref status)) = ⊥
IsRead why = Unit {0}

gone_read : (unplugged : Bool) (s : BusState) → IsRead (action_halt (front_gone unplugged s))
gone_read true s = tt
gone_read false s = tt

action_read : (own : BusState) (unplugged : Bool) (read : Option BusState) → IsRead (action_halt (back_action own unplugged read))
action_read own unplugged None = tt
action_read own unplugged (Some state.Initialising) = either (λ (one : BackAction). IsRead (action_halt one)) (is_connected own) (bad_order state.Initialising) action.Nothing tt tt
action_read own unplugged (Some state.InitWait) = tt
action_read own unplugged (Some state.Initialised) = either (λ (one : BackAction). IsRead (action_halt one)) (is_connected own) action.Nothing action.Connect tt tt
action_read own unplugged (Some state.Connected) = either (λ (one : BackAction). IsRead (action_halt one)) (is_connected own) action.Nothing action.Connect tt tt
action_read own unplugged (Some state.Closing) = gone_read unplugged state.Closing
action_read own unplugged (Some state.Closed) = gone_read unplugged state.Closed
action_read own unplugged (Some state.Unknown) = gone_read unplugged state.Unknown
action_read own unplugged (Some state.Reconfiguring) = tt
action_read own unplugged (Some state.Reconfigured) = tt

plain_read : (k : FrontKey) → IsPlain (bus.ReadKey k) → IsReadKey k
plain_read (key.RingRefOf page) p = p
plain_read other p = tt

key_read_halt : (k : FrontKey) (o : Option BackView) → IsPlain (bus.ReadKey k) → IsRead (key_halt k o)
key_read_halt k None p = plain_read k p
key_read_halt k (Some v) p = tt

halt_at_read : (s : BackBusStage) (v : BackView) (a : BackAnswer) → IsGiven a → IsPlain s → IsRead (halt_at s v a)
halt_at_read bus.ReadState v (answer.Key text) given p = action_read v.state v.unplugged (state_read text)
halt_at_read (bus.ReadKey k) v (answer.Key text) given p = key_read_halt k (key_read k text v) p
halt_at_read bus.MapPage v (answer.MapRefused status) given p = absurd given
halt_at_read bus.Bind v answer.BindRefused given p = absurd given
halt_at_read s v a given p = tt

pub halt_read : (v : BackView) (a : BackAnswer) → IsGiven a → Speaks v → IsRead (halt_of v a)
halt_read v a given h = either IsRead (says_closing v) None (halt_at v.stage v a) tt (halt_at_read v.stage v a given h.stage)

state_word : (s : BusState) → state_number s < 2 ^ 32
state_word s = let few = few_states s in omega arith

key_said : (k : FrontKey) → IsReadKey k → is_key_name (front_name k) ≡ true
key_said key.RingPageOrder read = order_name
key_said key.RingRef read = ring_name
key_said (key.RingRefOf page) read = page_name page read
key_said key.EventChannel read = port_name
key_said key.Protocol read = layout_name
key_said key.FeaturePersistent read = persistent_name

pub halt_said : (why : BackHalt) → IsRead (Some why) → IsSaid (back_step.ring_halt why)
halt_said (bus_halt.Gone s) read = record { widths = state_word s; allowed = refl }
halt_said (bus_halt.Unplugged s) read = record { widths = state_word s; allowed = refl }
halt_said bus_halt.BadState read = record { widths = tt; allowed = state_name }
halt_said (bus_halt.BadKey k) read = record { widths = tt; allowed = key_said k read }
halt_said (bus_halt.BadOrder s) read = record { widths = state_word s; allowed = refl }
halt_said other read = absurd read
