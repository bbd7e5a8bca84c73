-- The pages of the ring by their numbers: the one at a place is found there.
use Rattle.std.proofs.Common.{◌≡◌, ◌≢◌, ℕ, zero, suc, ◌+◌, ◌<◌, ◌≤◌, ◌==◌, Bool, true, false, if◌then◌else◌, List, [], ◌∷◌, ◌++◌, length, map, ap, ◌∙◌, arith}
use Rattle.std.specs.Prelude.{All, Some, IsSomeAnd, slice_index_or}
use Rattle.std.specs.List.{AllByRecursion}
use Rattle.std.proofs.lemmas.Bool.Decides.{nat_tests}
use Rattle.std.proofs.lemmas.List.Elements.{recursion_from_All}
use Rattle.blk_base.specs.declared.parts.Mapping.{Mapping}
use Rattle.grant_table.specs.declared.held.Held.{Held}
use Rattle.grant_table.specs.Table.{GrantTable, IsLive, held_of}
use Rattle.report_rules.specs.declared.standing.Standing.{Standing}
use Rattle.report_rules.specs.Ring.{page_from}
use Rattle.blk_back.specs.View.{no_page}
use Rattle.split_model.specs.Safe.{AreHeld}
use Rattle.ring_laws.proofs.Lists.{AreApart, all_second}

abbrev pub number_told : Standing → ℕ
number_told page = page.number

abbrev pub number_of : Mapping → ℕ
number_of page = page.number

-- the page at a place among those of different numbers is found there
pub page_found : (k place : ℕ) (told : List Standing) (pages : List Mapping) → map number_told told ≡ map number_of pages → AreApart (map number_of pages) → place < length pages → (let page : Mapping = slice_index_or pages place no_page in page_from k page.number told ≡ Some (k + place))
page_found k place told [] same apart within = absurd (omega arith)
page_found k place [] (page ∷ pages) same apart within = absurd (cc)
page_found k zero (t ∷ told) (page ∷ pages) same apart within =
    let is : t.number ≡ page.number = cc in
    let found : (t.number == page.number) ≡ true = grind (arith, nat_tests) in
    rw found (ap (λ (n : ℕ). Some n) (plain k))
  where
    plain : (n : ℕ) → n ≡ n + 0
    plain n = omega arith
page_found k (suc place) (t ∷ told) (page ∷ pages) same apart within =
    let rest : map number_told told ≡ map number_of pages = cc in
    let is : t.number ≡ page.number = cc in
    let other = other_at place pages page.number apart.0 (omega arith) in
    let differs : (t.number == (let p : Mapping = slice_index_or pages place no_page in p.number)) ≡ false = grind (arith, nat_tests) in
    rw differs (page_found (k + 1) place told pages rest apart.1 (omega arith) ∙ ap (λ (n : ℕ). Some n) (further k place))
  where
    further : (a b : ℕ) → a + 1 + b ≡ a + suc b
    further a b = omega arith

    other_at : (i : ℕ) (ps : List Mapping) (n : ℕ) → AllByRecursion (λ (m : ℕ). m ≢ n) (map number_of ps) → i < length ps → (let p : Mapping = slice_index_or ps i no_page in p.number ≢ n)
    other_at i [] n all lt = absurd (omega arith)
    other_at zero (p ∷ ps) n all lt = all.0
    other_at (suc i) (p ∷ ps) n all lt = other_at i ps n all.1 (omega arith)

-- so many were made before the next one
abbrev pub AreEarlier : ℕ → List Mapping → Type 0
AreEarlier made pages = AllByRecursion (λ (m : ℕ). m < made + 1) (map number_of pages)

-- those that are held, the last of them all that is held, were
pub pages_earlier : (table : GrantTable) (first more pages : List Mapping) → AreHeld table (first ++ (more ++ pages)) → AreEarlier table.made pages
pages_earlier table first more pages held =
    let each : AllByRecursion (IsLive table) (first ++ (more ++ pages)) = recursion_from_All (IsLive table) (first ++ (more ++ pages)) held.live in
    last pages (all_second (IsLive table) more pages (all_second (IsLive table) first (more ++ pages) each))
  where
    lives : All (λ (h : Held). h.mapping.number ≤ table.made) table.live
    lives = held.made_before

    found_low : (number : ℕ) (live : List Held) → AllByRecursion (λ (h : Held). h.mapping.number ≤ table.made) live → (m : Mapping) → IsSomeAnd (held_of number live) (λ (h : Held). h.mapping ≡ m) → m.number < table.made + 1
    found_low number [] low m is = absurd is
    found_low number (h ∷ live) low m is = by_test (h.mapping.number == number) is (found_low number live low.1 m)
      where
        by_test : (b : Bool) → IsSomeAnd (if b then Some h else held_of number live) (λ (x : Held). x.mapping ≡ m) → (IsSomeAnd (held_of number live) (λ (x : Held). x.mapping ≡ m) → m.number < table.made + 1) → m.number < table.made + 1
        by_test true same rest = let e : h.mapping.number ≡ m.number = ap number_of same in let le = low.0 in omega arith
        by_test false other rest = rest other

    last : (ps : List Mapping) → AllByRecursion (IsLive table) ps → AreEarlier table.made ps
    last [] all = tt
    last (p ∷ ps) all = (found_low p.number table.live (recursion_from_All (λ (h : Held). h.mapping.number ≤ table.made) table.live lives) p all.0, last ps all.1)
