-- The back takes the terms of its front, with the line of the key that it reads; or nothing happens.
use Rattle.std.proofs.Common.{◌≡◌, ℕ, Bool, true, false, true≢false, ◌&&◌, if◌then◌else◌, List, [], ◌∷◌, refl, sym}
use Rattle.std.specs.List.{AllByRecursion}
use Rattle.ring_words.specs.Shape.{Shape}
use Rattle.schedule_text.specs.declared.line.Line.{Line}
use Rattle.schedule_text.specs.declared.line.Line.TheVariants.{Move}
use Rattle.blk_back.specs.View as back
use Rattle.blk_back.specs.Step.{may_attach, attached}
use Rattle.split_model.specs.World.{World}
use Rattle.split_model.specs.Keys.{is_layout, said_by, says_served}
use Rattle.split_model.specs.Happening.{layout_text, layout_read, attaches_at}

first_of : (a b : Bool) → (a && b) ≡ true → a ≡ true
first_of true b both = refl
first_of false b both = both

second_of : (a b : Bool) → (a && b) ≡ true → b ≡ true
second_of true b both = both
second_of false b both = absurd (true≢false (sym both))

-- the back's keys say what it serves
abbrev pub SaysServed : World → Type 0
SaysServed w = let b : back.View = w.back in says_served (said_by w.under.keys) b.jobs.info ≡ true

pub attach_cases : (P : back.View → List Line → Type 0) (w : World) (shape : Shape) (grefs : List ℕ) (port : ℕ)
    → (may_attach shape grefs w.back ≡ true → is_layout shape.abi (layout_text w) ≡ true → SaysServed w → P (attached shape grefs port w.back) (Move (layout_read w) ∷ []))
    → P w.back []
    → P (if attaches_at w shape grefs then attached shape grefs port w.back else w.back) (if attaches_at w shape grefs then Move (layout_read w) ∷ [] else [])
attach_cases P w shape grefs port takes none = by_test (attaches_at w shape grefs) refl
  where
    by_test : (b : Bool) → attaches_at w shape grefs ≡ b → P (if b then attached shape grefs port w.back else w.back) (if b then Move (layout_read w) ∷ [] else [])
    by_test true goes =
        let may : Bool = may_attach shape grefs w.back in
        let named : Bool = is_layout shape.abi (layout_text w) in
        let says : Bool = let v : back.View = w.back in says_served (said_by w.under.keys) v.jobs.info in
        let both = first_of (may && named) says goes in
        takes (first_of may named both) (second_of may named both) (second_of (may && named) says goes)
    by_test false goes = none

pub attach_lines_are : (P : Line → Type 0) (w : World) (shape : Shape) (grefs : List ℕ) → P (Move (layout_read w)) → AllByRecursion P (if attaches_at w shape grefs then Move (layout_read w) ∷ [] else [])
attach_lines_are P w shape grefs read = by_test (attaches_at w shape grefs)
  where
    by_test : (b : Bool) → AllByRecursion P (if b then Move (layout_read w) ∷ [] else [])
    by_test true = (read, tt)
    by_test false = tt
