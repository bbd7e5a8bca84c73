-- A back offers in order, and connects in order.
use Rattle.std.proofs.Common.{◌≡◌, sym, ap, subst, ℕ, ◌+◌, ◌<◌, nat_lt, Bool, true, false, List, [], ◌∷◌, ◌++◌, map, length, refl, arith, if◌then◌else◌, length-append, append_assoc}
use Rattle.std.specs.Prelude.{slice_index}
use Rattle.std.proofs.lemmas.Bool.Decides.{nat_tests}
use Rattle.blk_base.specs.declared.parts.Mapping.{Mapping}
use Rattle.blk_base.specs.declared.ask.BackAnswer.{BackAnswer}
use Rattle.blk_base.specs.declared.ask.BackAnswer.TheVariants.{Done, Mapped}
use Rattle.xenbus_state.specs.declared.offer.Features.{Features}
use Rattle.xenbus_state.specs.declared.offer.DiskFacts.{DiskFacts}
use Rattle.xenbus_state.specs.declared.stage.BackBusStage.{BackBusStage}
use Rattle.xenbus_state.specs.declared.stage.BackBusStage.TheVariants as stage
use Rattle.xenbus_state.specs.declared.back.BackBusAsk.{BackBusAsk}
use Rattle.xenbus_state.specs.declared.back.BackBusAsk.TheVariants as ask
use Rattle.xenbus_state.specs.BackView.{BackView, start_of}
use Rattle.xenbus_state.specs.Orders.{AsksInOrder, offer_order, publish_facts, connect_order}

pub offers_in_order : (features : Features) (disk : DiskFacts) → AsksInOrder (start_of features disk) (map (λ (a : BackBusAsk). Done) (offer_order features disk)) (offer_order features disk) stage.Rest
offers_in_order features disk = record { lawful = (tt, (tt, (tt, (tt, (tt, (tt, (tt, (tt, tt)))))))); asked = refl; ends = refl }

-- a back that has these pages mapped, of these references
maps : List Mapping → (unplugged : Bool) → List ℕ → BackBusStage → BackView → BackView
maps pages unplugged grefs s v = record v { pages = pages; unplugged = unplugged; grefs = grefs; stage = s }

connected : (pages : List Mapping) (unplugged : Bool) (grefs : List ℕ) (v : BackView) → AsksInOrder (maps pages unplugged grefs stage.Bind v) (map (λ (a : BackBusAsk). Done) (publish_facts v)) (publish_facts v) stage.Rest
unfolding maps
connected pages true grefs v = record { lawful = (tt, (tt, (tt, (tt, (tt, tt))))); asked = refl; ends = refl }
connected pages false grefs v = record { lawful = (tt, (tt, (tt, (tt, (tt, tt))))); asked = refl; ends = refl }

-- the page after those that were mapped
next_of : (done : List ℕ) (gref : ℕ) (rest : List ℕ) (n : ℕ) → n ≡ length done → slice_index (done ++ gref ∷ rest) n ≡ gref
next_of [] gref rest n e = rw e refl
next_of (x ∷ done) gref rest n e = rw e (next_of done gref rest (length done) refl)

map_step : (unplugged : Bool) (pages : List Mapping) (page : Mapping) (grefs : List ℕ) (gref : ℕ) (v : BackView) (more : Bool) (answers : List BackAnswer) (asks : List BackBusAsk) → slice_index grefs (length pages) ≡ gref → nat_lt (length pages + 1) (length grefs) ≡ more → AsksInOrder (maps (pages ++ page ∷ []) unplugged grefs (if more then stage.MapPage else stage.Bind) v) answers asks stage.Rest → AsksInOrder (maps pages unplugged grefs stage.MapPage v) (Mapped page ∷ answers) (ask.Map gref ∷ asks) stage.Rest
unfolding maps
map_step true pages page grefs gref v more answers asks at e later =
    let l = subst (λ (t : Bool). AsksInOrder (maps (pages ++ page ∷ []) true grefs (if t then stage.MapPage else stage.Bind) v) answers asks stage.Rest) (sym e) later in
    record { lawful = (tt, l.lawful); asked = rw at (ap (λ (rest : List BackBusAsk). ask.Map gref ∷ rest) l.asked); ends = l.ends }
map_step false pages page grefs gref v more answers asks at e later =
    let l = subst (λ (t : Bool). AsksInOrder (maps (pages ++ page ∷ []) false grefs (if t then stage.MapPage else stage.Bind) v) answers asks stage.Rest) (sym e) later in
    record { lawful = (tt, l.lawful); asked = rw at (ap (λ (rest : List BackBusAsk). ask.Map gref ∷ rest) l.asked); ends = l.ends }

longer : (done : List ℕ) (gref : ℕ) (rest : List ℕ) → length (done ++ gref ∷ rest) ≡ length done + 1 + length rest
longer done gref rest = simp length-append (omega arith)

maps_all : (rest : List ℕ) (left : List Mapping) (done : List ℕ) (gref : ℕ) (page : Mapping) (pages : List Mapping) (unplugged : Bool) (v : BackView) → length pages ≡ length done → length left ≡ length rest → AsksInOrder (maps pages unplugged (done ++ gref ∷ rest) stage.MapPage v) (map (λ (m : Mapping). Mapped m) (page ∷ left) ++ map (λ (a : BackBusAsk). Done) (publish_facts v)) (map (λ (g : ℕ). ask.Map g) (gref ∷ rest) ++ publish_facts v) stage.Rest
maps_all [] [] done gref page pages unplugged v same equal =
    let all = longer done gref [] in
    map_step unplugged pages page (done ++ gref ∷ []) gref v false _ _ (next_of done gref [] (length pages) same) (grind (arith, nat_tests)) (connected (pages ++ page ∷ []) unplugged (done ++ gref ∷ []) v)
maps_all [] (page' ∷ left) done gref page pages unplugged v same equal = absurd (omega arith)
maps_all (gref' ∷ rest) [] done gref page pages unplugged v same equal = absurd (omega arith)
maps_all (gref' ∷ rest) (page' ∷ left) done gref page pages unplugged v same equal =
    let all = longer done gref (gref' ∷ rest) in
    let mapped : length (pages ++ page ∷ []) ≡ length (done ++ gref ∷ []) = simp length-append (omega arith) in
    let later = maps_all rest left (done ++ gref ∷ []) gref' page' (pages ++ page ∷ []) unplugged v mapped (omega arith) in
    let moved = subst (λ (grefs : List ℕ). AsksInOrder (maps (pages ++ page ∷ []) unplugged grefs stage.MapPage v) (map (λ (m : Mapping). Mapped m) (page' ∷ left) ++ map (λ (a : BackBusAsk). Done) (publish_facts v)) (map (λ (g : ℕ). ask.Map g) (gref' ∷ rest) ++ publish_facts v) stage.Rest) (append_assoc done (gref ∷ []) (gref' ∷ rest)) later in
    map_step unplugged pages page (done ++ gref ∷ gref' ∷ rest) gref v true _ _ (next_of done gref (gref' ∷ rest) (length pages) same) (grind (arith, nat_tests)) moved

from_first : (grefs : List ℕ) (pages : List Mapping) (unplugged : Bool) (v : BackView) → length pages ≡ length grefs → 0 < length grefs → AsksInOrder (maps [] unplugged grefs stage.MapPage v) (map (λ (m : Mapping). Mapped m) pages ++ map (λ (a : BackBusAsk). Done) (publish_facts v)) (map (λ (g : ℕ). ask.Map g) grefs ++ publish_facts v) stage.Rest
from_first [] pages unplugged v same some = absurd (omega arith)
from_first (gref ∷ rest) [] unplugged v same some = absurd (omega arith)
from_first (gref ∷ rest) (page ∷ left) unplugged v same some = maps_all rest left [] gref page [] unplugged v refl (omega arith)

pub connects_in_order : (v : BackView) (pages : List Mapping) → length pages ≡ length v.grefs → 0 < length v.grefs → AsksInOrder (record v { stage = stage.MapPage; pages = [] }) (map (λ (m : Mapping). Mapped m) pages ++ map (λ (a : BackBusAsk). Done) (publish_facts v)) (connect_order v) stage.Rest
unfolding maps
connects_in_order v pages same some = from_first v.grefs pages v.unplugged v same some
