-- A front makes and publishes its ring in order, and leaves in order.
use Rattle.std.proofs.Common.{◌≡◌, sym, ap, subst, ℕ, zero, suc, ◌+◌, ◌==◌, nat_lt, Bool, true, false, List, [], ◌∷◌, ◌++◌, map, refl, arith, if◌then◌else◌}
use Rattle.std.specs.Prelude.{Some}
use Rattle.std.proofs.lemmas.Bool.Decides.{nat_tests}
use Rattle.std.proofs.lemmas.Nat.{pow_pos}
use Rattle.xenbus_state.specs.declared.keys.FrontKey.{FrontKey}
use Rattle.xenbus_state.specs.declared.keys.FrontKey.TheVariants as key
use Rattle.xenbus_state.specs.declared.state.BusState.TheVariants as state
use Rattle.xenbus_state.specs.declared.stage.FrontBusStage.{FrontBusStage}
use Rattle.xenbus_state.specs.declared.stage.FrontBusStage.TheVariants as stage
use Rattle.xenbus_state.specs.declared.front.FrontBusAsk.{FrontBusAsk}
use Rattle.xenbus_state.specs.declared.front.FrontBusAsk.TheVariants as ask
use Rattle.xenbus_state.specs.Values.{front_value}
use Rattle.xenbus_state.specs.FrontView.{FrontView, pages_of, ring_order, terms_of}
use Rattle.xenbus_state.specs.Orders.{numbers_from, published_keys, start_order, leave_order, DoesInOrder}

-- what a key says once the port is made
says : FrontView → ℕ → FrontKey → FrontBusAsk
says v port k = ask.SetKey k (front_value (terms_of (record v { port = Some port })) k)

-- the last keys
last_keys : (idle : Bool) (port : ℕ) (v : FrontView) → DoesInOrder idle port (record v { port = Some port; stage = stage.Publish key.EventChannel }) (map (says v port) (key.EventChannel ∷ key.Protocol ∷ key.FeaturePersistent ∷ []) ++ ask.SetState state.Initialised ∷ []) stage.Rest
unfolding says
last_keys idle port v = record { lawful = (tt, (tt, (tt, (tt, tt)))); asked = refl; ends = refl }

-- the references of the pages from this one on, and what follows
page_step : (idle : Bool) (port page : ℕ) (v : FrontView) (more : Bool) (asks : List FrontBusAsk) → nat_lt (page + 1) (pages_of v) ≡ more → DoesInOrder idle port (record v { port = Some port; stage = stage.Publish (if more then key.RingRefOf (page + 1) else key.EventChannel) }) asks stage.Rest → DoesInOrder idle port (record v { port = Some port; stage = stage.Publish (key.RingRefOf page) }) (says v port (key.RingRefOf page) ∷ asks) stage.Rest
unfolding says
page_step idle port page v more asks e later =
    let l = subst (λ (t : Bool). DoesInOrder idle port (record v { port = Some port; stage = stage.Publish (if t then key.RingRefOf (page + 1) else key.EventChannel) }) asks stage.Rest) (sym e) later in
    record { lawful = (tt, l.lawful); asked = ap (λ (rest : List FrontBusAsk). says v port (key.RingRefOf page) ∷ rest) l.asked; ends = l.ends }

page_keys : (count page : ℕ) (idle : Bool) (port : ℕ) (v : FrontView) → page + suc count ≡ pages_of v → DoesInOrder idle port (record v { port = Some port; stage = stage.Publish (key.RingRefOf page) }) (map (says v port) (map (λ p. key.RingRefOf p) (numbers_from page (suc count)) ++ key.EventChannel ∷ key.Protocol ∷ key.FeaturePersistent ∷ []) ++ ask.SetState state.Initialised ∷ []) stage.Rest
page_keys zero page idle port v e = page_step idle port page v false _ (grind (arith, nat_tests)) (last_keys idle port v)
page_keys (suc count) page idle port v e = page_step idle port page v true _ (grind (arith, nat_tests)) (page_keys count (page + 1) idle port v (omega arith))

-- all keys of a ring of one page, and of a larger one
all_keys : (single : Bool) (idle : Bool) (port : ℕ) (v : FrontView) → (ring_order v == 0) ≡ single → DoesInOrder idle port (record v { port = Some port; stage = stage.Publish (if single then key.RingRef else key.RingPageOrder) }) (map (says v port) ((if single then key.RingRef ∷ [] else key.RingPageOrder ∷ map (λ p. key.RingRefOf p) (numbers_from 0 (pages_of v))) ++ key.EventChannel ∷ key.Protocol ∷ key.FeaturePersistent ∷ []) ++ ask.SetState state.Initialised ∷ []) stage.Rest
unfolding says
all_keys true idle port v e =
    let l = last_keys idle port v in
    record { lawful = (tt, l.lawful); asked = ap (λ (rest : List FrontBusAsk). says v port key.RingRef ∷ rest) l.asked; ends = l.ends }
all_keys false idle port v e = by_count (pages_of v) refl
  where
    by_count : (count : ℕ) → pages_of v ≡ count → DoesInOrder idle port (record v { port = Some port; stage = stage.Publish key.RingPageOrder }) (map (says v port) ((key.RingPageOrder ∷ map (λ p. key.RingRefOf p) (numbers_from 0 count)) ++ key.EventChannel ∷ key.Protocol ∷ key.FeaturePersistent ∷ []) ++ ask.SetState state.Initialised ∷ []) stage.Rest
    by_count zero none = let some = pow_pos (ring_order v) in absurd (omega arith)
    by_count (suc count) e =
        let l = page_keys count 0 idle port v (omega arith) in
        record { lawful = (tt, l.lawful); asked = ap (λ (rest : List FrontBusAsk). says v port key.RingPageOrder ∷ rest) l.asked; ends = l.ends }

-- the port, then all keys
from_port : (idle : Bool) (port : ℕ) (v : FrontView) → DoesInOrder idle port (record v { stage = stage.NewPort }) (ask.NewPort ∷ map (says v port) (published_keys (ring_order v)) ++ ask.SetState state.Initialised ∷ []) stage.Rest
from_port idle port v =
    let l = all_keys (ring_order v == 0) idle port v refl in
    record { lawful = (tt, l.lawful); asked = ap (λ (rest : List FrontBusAsk). ask.NewPort ∷ rest) l.asked; ends = l.ends }

-- the grants from this page on
grant_step : (idle : Bool) (port page : ℕ) (v : FrontView) (more : Bool) (asks : List FrontBusAsk) → nat_lt (page + 1) (pages_of v) ≡ more → DoesInOrder idle port (record v { stage = if more then stage.Grant (page + 1) else stage.NewPort }) asks stage.Rest → DoesInOrder idle port (record v { stage = stage.Grant page }) (ask.Grant page ∷ asks) stage.Rest
grant_step idle port page v more asks e later =
    let l = subst (λ (t : Bool). DoesInOrder idle port (record v { stage = if t then stage.Grant (page + 1) else stage.NewPort }) asks stage.Rest) (sym e) later in
    record { lawful = (tt, l.lawful); asked = ap (λ (rest : List FrontBusAsk). ask.Grant page ∷ rest) l.asked; ends = l.ends }

grants : (count page : ℕ) (idle : Bool) (port : ℕ) (v : FrontView) → page + suc count ≡ pages_of v → DoesInOrder idle port (record v { stage = stage.Grant page }) (map (λ p. ask.Grant p) (numbers_from page (suc count)) ++ ask.NewPort ∷ map (says v port) (published_keys (ring_order v)) ++ ask.SetState state.Initialised ∷ []) stage.Rest
grants zero page idle port v e = grant_step idle port page v false _ (grind (arith, nat_tests)) (from_port idle port v)
grants (suc count) page idle port v e = grant_step idle port page v true _ (grind (arith, nat_tests)) (grants count (page + 1) idle port v (omega arith))

all_grants : (count : ℕ) (idle : Bool) (port : ℕ) (v : FrontView) → pages_of v ≡ count → DoesInOrder idle port (record v { stage = stage.Grant 0 }) (map (λ p. ask.Grant p) (numbers_from 0 count) ++ ask.NewPort ∷ map (says v port) (published_keys (ring_order v)) ++ ask.SetState state.Initialised ∷ []) stage.Rest
all_grants zero idle port v none = let some = pow_pos (ring_order v) in absurd (omega arith)
all_grants (suc count) idle port v e = grants count 0 idle port v (omega arith)

word_step : (idle : Bool) (port word : ℕ) (v : FrontView) (asks : List FrontBusAsk) → word == 15 ≡ false → DoesInOrder idle port (record v { stage = stage.RingWord (word + 1) }) asks stage.Rest → DoesInOrder idle port (record v { stage = stage.RingWord word }) (ask.WriteRingWord word ∷ asks) stage.Rest
word_step idle port word v asks e later =
    let l = subst (λ (t : Bool). DoesInOrder idle port (record v { stage = if t then stage.Grant 0 else stage.RingWord (word + 1) }) asks stage.Rest) (sym e) later in
    record { lawful = (tt, l.lawful); asked = ap (λ (rest : List FrontBusAsk). ask.WriteRingWord word ∷ rest) l.asked; ends = l.ends }

words : (count word : ℕ) (idle : Bool) (port : ℕ) (v : FrontView) → word + suc count ≡ 16 → DoesInOrder idle port (record v { stage = stage.RingWord word }) (map (λ w. ask.WriteRingWord w) (numbers_from word (suc count)) ++ map (λ p. ask.Grant p) (numbers_from 0 (pages_of v)) ++ ask.NewPort ∷ map (says v port) (published_keys (ring_order v)) ++ ask.SetState state.Initialised ∷ []) stage.Rest
words zero word idle port v e =
    let l = all_grants (pages_of v) idle port v refl in
    let last : word == 15 ≡ true = grind (arith, nat_tests) in
    let m = subst (λ (t : Bool). DoesInOrder idle port (record v { stage = if t then stage.Grant 0 else stage.RingWord (word + 1) }) (map (λ p. ask.Grant p) (numbers_from 0 (pages_of v)) ++ ask.NewPort ∷ map (says v port) (published_keys (ring_order v)) ++ ask.SetState state.Initialised ∷ []) stage.Rest) (sym last) l in
    record { lawful = (tt, m.lawful); asked = ap (λ (rest : List FrontBusAsk). ask.WriteRingWord word ∷ rest) m.asked; ends = m.ends }
words (suc count) word idle port v e = word_step idle port word v _ (grind (arith, nat_tests)) (words count (word + 1) idle port v (omega arith))

pub starts_in_order : (v : FrontView) (idle : Bool) (port : ℕ) → DoesInOrder idle port (record v { stage = stage.RingWord 0 }) (start_order v port) stage.Rest
unfolding says
starts_in_order v idle port = words 15 0 idle port v refl

-- the grants that are ended from this page on
leaver : FrontView → ℕ → FrontBusStage → FrontView
leaver v port s = record v { stage = s; state = state.Closing; closing = true; gone = true; port = Some port }

end_step : (port page : ℕ) (v : FrontView) (more : Bool) (asks : List FrontBusAsk) → nat_lt (page + 1) (pages_of v) ≡ more → DoesInOrder true port (leaver v port (if more then stage.EndGrant (page + 1) else stage.EndOtherGrants)) asks stage.Closed → DoesInOrder true port (leaver v port (stage.EndGrant page)) (ask.EndGrant page ∷ asks) stage.Closed
unfolding leaver
end_step port page v more asks e later =
    let l = subst (λ (t : Bool). DoesInOrder true port (leaver v port (if t then stage.EndGrant (page + 1) else stage.EndOtherGrants)) asks stage.Closed) (sym e) later in
    record { lawful = (tt, l.lawful); asked = ap (λ (rest : List FrontBusAsk). ask.EndGrant page ∷ rest) l.asked; ends = l.ends }

ends_all : (port : ℕ) (v : FrontView) → DoesInOrder true port (leaver v port stage.EndOtherGrants) (ask.EndOtherGrants ∷ ask.ClosePort ∷ ask.SetState state.Closed ∷ []) stage.Closed
unfolding leaver
ends_all port v = record { lawful = (tt, (tt, (tt, tt))); asked = refl; ends = refl }

ends_from : (count page port : ℕ) (v : FrontView) → page + suc count ≡ pages_of v → DoesInOrder true port (leaver v port (stage.EndGrant page)) (map (λ p. ask.EndGrant p) (numbers_from page (suc count)) ++ ask.EndOtherGrants ∷ ask.ClosePort ∷ ask.SetState state.Closed ∷ []) stage.Closed
ends_from zero page port v e = end_step port page v false _ (grind (arith, nat_tests)) (ends_all port v)
ends_from (suc count) page port v e = end_step port page v true _ (grind (arith, nat_tests)) (ends_from count (page + 1) port v (omega arith))

leaves_by : (count port : ℕ) (v : FrontView) → pages_of v ≡ count → DoesInOrder true port (leaver v port stage.Rest) (map (λ p. ask.EndGrant p) (numbers_from 0 count) ++ ask.EndOtherGrants ∷ ask.ClosePort ∷ ask.SetState state.Closed ∷ []) stage.Closed
unfolding leaver
leaves_by zero port v none = let some = pow_pos (ring_order v) in absurd (omega arith)
leaves_by (suc count) port v e = let l = ends_from count 0 port v (omega arith) in record { lawful = l.lawful; asked = l.asked; ends = l.ends }

pub leaves_in_order : (v : FrontView) (port : ℕ) → DoesInOrder true port (record v { stage = stage.Rest; state = state.Closing; closing = true; gone = true; port = Some port }) (leave_order v) stage.Closed
unfolding leaver
leaves_in_order v port = leaves_by (pages_of v) port v refl
