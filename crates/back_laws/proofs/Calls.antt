-- What the calls of a back's negotiation make of it: it takes the terms of its front only where it waits for them, and halts only between two steps.
use Rattle.std.proofs.Common.{◌≡◌, ℕ, ◌^◌, ◌≤◌, Bool, true, false, if◌then◌else◌, List, length, refl, ap, arith}
use Rattle.blk_base.specs.declared.parts.Mapping.{Mapping}
use Rattle.std.specs.Prelude.{Some, ◌&&◌, ◌==◌, nat_le}
use Rattle.std.proofs.Math.Nat.{pow-le-pow_right}
use Rattle.std.proofs.lemmas.Bool.Decides.{nat_tests}
use Rattle.ring_words.specs.Shape.{Shape, entries_of}
use Rattle.blk_back.specs.declared.stage.BackStage.{BackStage}
use Rattle.blk_back.specs.declared.stage.BackStage.TheVariants as stage
use Rattle.blk_base.specs.declared.halt.Halt.{Halt}
use Rattle.blk_back.specs.View.{View}
use Rattle.blk_back.specs.Ask.{is_led}
use Rattle.blk_back.specs.Keeping.{is_attached, may_keep_most}
use Rattle.blk_back.specs.Step.{unbound, halts_at, may_halt, halts, abort, may_attach, attached, attaches}

-- it waits for the terms of its front, or maps the ring
abbrev pub is_unbound : BackStage → Bool
is_unbound stage.InitWait = true
is_unbound stage.MapRing = true
is_unbound s = false

-- a halt for a reason that may be one, before the port is bound and in the loop; or nothing happens
pub halts_for_cases : (P : View → Type 0) (why : Halt) (v : View)
    → (may_halt why ≡ true → is_unbound v.stage ≡ true → P (record v { halted = Some why; stage = unbound v.pages }))
    → (may_halt why ≡ true → v.stage ≡ stage.Loop → P (abort (record v { halted = Some why })))
    → P v → P (halts why v)
halts_for_cases P why v unmapped looping none = by_test (may_halt why) refl
  where
    by_stage : (s : BackStage) → may_halt why ≡ true → v.stage ≡ s → P (halts_at s why v)
    by_stage stage.InitWait may e = unmapped may (ap is_unbound e)
    by_stage stage.MapRing may e = unmapped may (ap is_unbound e)
    by_stage stage.Loop may e = looping may e
    by_stage s may e = none

    by_test : (b : Bool) → may_halt why ≡ b → P (if b then halts_at v.stage why v else v)
    by_test true may = by_stage v.stage may refl
    by_test false may = none

-- whatever the reason
pub halts_cases : (P : View → Type 0) (why : Halt) (v : View)
    → (is_unbound v.stage ≡ true → P (record v { halted = Some why; stage = unbound v.pages }))
    → (v.stage ≡ stage.Loop → P (abort (record v { halted = Some why })))
    → P v → P (halts why v)
halts_cases P why v unmapped looping none = halts_for_cases P why v (λ may. unmapped) (λ may. looping) none

-- a back that takes terms waited for them; the order is at most 4, with a reference for each page
is_waiting : (s : BackStage) → is_led s ≡ true → s ≡ stage.InitWait
is_waiting stage.InitWait led = refl
is_waiting s led = absurd (cc)

first_of : (a b c : Bool) → (a && b && c) ≡ true → a ≡ true
first_of true b c h = refl
first_of false b c h = absurd (cc)

second_of : (a b c : Bool) → (a && b && c) ≡ true → b ≡ true
second_of true true c h = refl
second_of true false c h = absurd (cc)
second_of false b c h = absurd (cc)

third_of : (a b c : Bool) → (a && b && c) ≡ true → c ≡ true
third_of true true c h = h
third_of true false c h = absurd (cc)
third_of false b c h = absurd (cc)

pub attaches_waiting : (shape : Shape) (grefs : List ℕ) (v : View) → may_attach shape grefs v ≡ true → v.stage ≡ stage.InitWait
attaches_waiting shape grefs v may = is_waiting v.stage (first_of (is_led v.stage) (nat_le shape.order 4) (length grefs == 2 ^ shape.order) may)

pub attaches_order : (shape : Shape) (grefs : List ℕ) (v : View) → may_attach shape grefs v ≡ true → shape.order ≤ 4
attaches_order shape grefs v may = let narrow = second_of (is_led v.stage) (nat_le shape.order 4) (length grefs == 2 ^ shape.order) may in grind (arith, nat_tests)

pub attaches_grefs : (shape : Shape) (grefs : List ℕ) (v : View) → may_attach shape grefs v ≡ true → length grefs ≡ 2 ^ shape.order
attaches_grefs shape grefs v may = let many = third_of (is_led v.stage) (nat_le shape.order 4) (length grefs == 2 ^ shape.order) may in grind (arith, nat_tests)

-- a ring has 512 entries at most
pub few_entries : (order : ℕ) → order ≤ 4 → entries_of order ≤ 512
few_entries order narrow = let few : 2 ^ order ≤ 2 ^ 4 = pow-le-pow_right (omega arith) narrow in omega arith

-- terms that it takes, or nothing happens
pub attaches_cases : (P : View → Type 0) (shape : Shape) (grefs : List ℕ) (port : ℕ) (v : View)
    → (may_attach shape grefs v ≡ true → P (attached shape grefs port v)) → P v → P (attaches shape grefs port v)
attaches_cases P shape grefs port v takes none = by_test (may_attach shape grefs v) refl
  where
    by_test : (b : Bool) → may_attach shape grefs v ≡ b → P (if b then attached shape grefs port v else v)
    by_test true may = takes may
    by_test false may = none

-- how many mappings a back may keep is said once it has its terms: at most 1000
is_mapping : (s : BackStage) (pages : List Mapping) → is_attached s pages ≡ true → s ≡ stage.MapRing
is_mapping stage.MapRing pages attached = refl
is_mapping s pages attached = absurd (cc)

both_of : (a b : Bool) → (a && b) ≡ true → (a ≡ true) × (b ≡ true)
both_of true b h = (refl, h)
both_of false b h = absurd (cc)

pub keeps_mapping : (cap : ℕ) (v : View) → may_keep_most cap v ≡ true → v.stage ≡ stage.MapRing
keeps_mapping cap v may = is_mapping v.stage v.pages (both_of (is_attached v.stage v.pages) (nat_le cap 1000) may).0

pub keeps_at_most : (cap : ℕ) (v : View) → may_keep_most cap v ≡ true → cap ≤ 1000
keeps_at_most cap v may = let few = (both_of (is_attached v.stage v.pages) (nat_le cap 1000) may).1 in grind (arith, nat_tests)
