-- The mappings that live stay those that are held: what a map and an unmap make of both.
use Rattle.std.proofs.Common.{◌≡◌, ◌≢◌, ℕ, ◌+◌, ◌<◌, ◌≤◌, ◌==◌, not, Bool, true, false, cond, List, [], ◌∷◌, ◌++◌, length, get_or, refl, inl, inr, arith, length-append}
use Rattle.std.specs.Prelude.{Some, None, IsSomeAnd, All}
use Rattle.std.specs.List.{AllByRecursion, sum_by}
use Rattle.std.proofs.lemmas.Bool.{cases_eq}
use Rattle.std.proofs.lemmas.Bool.Decides.{nat_tests}
use Rattle.std.proofs.lemmas.List.Sums.{sum_by-cons, sum_by-append, sum_by_push, get_or-le-sum_by, length-filter}
use Rattle.std.proofs.lemmas.List.Filters.{length-filter_both}
use Rattle.std.proofs.lemmas.List.Elements.{All-from_recursion, recursion_from_All, All-push, All-filter, All-weaker}
use Rattle.blk_base.specs.declared.parts.Mapping.{Mapping}
use Rattle.grant_table.specs.declared.held.Held.{Held}
use Rattle.grant_table.specs.Table.{GrantTable, IsLive, held_of, without, unmap_table}
use Rattle.grant_table.specs.Sound.{IsAscending, nothing_held}
use Rattle.grant_table.proofs.Live.{number_at, held_of_absent, IsAscending-without, IsAscending-append}
use Rattle.grant_table.proofs.Lookups.{held_of-append_new, held_of-without_other}
use Rattle.back_jobs.specs.Hands.{HasOneMore}
use Rattle.split_model.specs.Safe.{AreHeld}

-- what holds of all but one and of that one holds of all
all_with : (P : Mapping → Type 0) (front rest : List Mapping) (m : Mapping) → P m → AllByRecursion P (front ++ rest) → AllByRecursion P (front ++ m ∷ rest)
all_with P [] rest m here all = (here, all)
all_with P (x ∷ front) rest m here all = (all.0, all_with P front rest m here all.1)

all_but : (P : Mapping → Type 0) (front rest : List Mapping) (m : Mapping) → AllByRecursion P (front ++ m ∷ rest) → AllByRecursion P (front ++ rest)
all_but P [] rest m all = all.1
all_but P (x ∷ front) rest m all = (all.0, all_but P front rest m all.1)

-- how many of these mappings have a number: one or none each
abbrev as_hand : ℕ → Mapping → ℕ
as_hand number m = cond (m.number == number) 1 0

abbrev as_live : ℕ → Held → ℕ
as_live number h = cond (h.mapping.number == number) 1 0

count_with : (number : ℕ) (front rest : List Mapping) (m : Mapping) → sum_by (as_hand number) (front ++ m ∷ rest) ≡ sum_by (as_hand number) (front ++ rest) + as_hand number m
count_with number front rest m =
    let all = sum_by-append (as_hand number) front (m ∷ rest) in
    let fewer = sum_by-append (as_hand number) front rest in
    let one = sum_by-cons (as_hand number) m rest in
    omega arith

-- a number is that of at most one live mapping
count_low : (number low : ℕ) (live : List Held) → IsAscending low live → number ≤ low → sum_by (as_live number) live ≡ 0
count_low number low [] up le = refl
count_low number low (h ∷ live) up le =
    let first = up.0 in
    let one = sum_by-cons (as_live number) h live in
    let rest = count_low number h.mapping.number live up.1 (omega arith) in
    let none : as_live number h ≡ 0 = grind (arith, nat_tests) in
    omega arith

count_once : (number low : ℕ) (live : List Held) → IsAscending low live → sum_by (as_live number) live ≤ 1
count_once number low [] up = omega arith
count_once number low (h ∷ live) up = by_test (h.mapping.number == number) refl (count_once number h.mapping.number live up.1)
  where
    by_test : (same : Bool) → (h.mapping.number == number) ≡ same → sum_by (as_live number) live ≤ 1 → sum_by (as_live number) (h ∷ live) ≤ 1
    by_test true t few =
        let one = sum_by-cons (as_live number) h live in
        let rest = count_low number h.mapping.number live up.1 (grind (arith, nat_tests)) in
        let here : as_live number h ≡ 1 = rw t refl in
        omega arith
    by_test false t few =
        let one = sum_by-cons (as_live number) h live in
        let none : as_live number h ≡ 0 = rw t refl in
        omega arith

-- once a number is taken out no live mapping has it, and of every other number there are as many as before
count_taken : (number : ℕ) (live : List Held) → sum_by (as_live number) (without number live) ≡ 0
count_taken number [] = refl
count_taken number (h ∷ live) = by_test (h.mapping.number == number) refl (count_taken number live)
  where
    by_test : (same : Bool) → (h.mapping.number == number) ≡ same → sum_by (as_live number) (without number live) ≡ 0 → sum_by (as_live number) (without number (h ∷ live)) ≡ 0
    by_test true t rest = rw t rest
    by_test false t rest =
        let one = sum_by-cons (as_live number) h (without number live) in
        let none : as_live number h ≡ 0 = rw t refl in
        rw t (omega arith)

count_others : (number taken : ℕ) (live : List Held) → number ≢ taken → sum_by (as_live number) (without taken live) ≡ sum_by (as_live number) live
count_others number taken [] other = refl
count_others number taken (h ∷ live) other = by_test (h.mapping.number == taken) refl (count_others number taken live other)
  where
    by_test : (same : Bool) → (h.mapping.number == taken) ≡ same → sum_by (as_live number) (without taken live) ≡ sum_by (as_live number) live → sum_by (as_live number) (without taken (h ∷ live)) ≡ sum_by (as_live number) (h ∷ live)
    by_test true t rest =
        let one = sum_by-cons (as_live number) h live in
        let none : as_live number h ≡ 0 = grind (arith, nat_tests) in
        rw t (omega arith)
    by_test false t rest =
        let one = sum_by-cons (as_live number) h live in
        let kept = sum_by-cons (as_live number) h (without taken live) in
        rw t (omega arith)

-- what is found is found still when a mapping is added after
found_still : (number : ℕ) (live : List Held) (next : Held) (P : Held → Type 0) → IsSomeAnd (held_of number live) P → IsSomeAnd (held_of number (live ++ next ∷ [])) P
found_still number [] next P found = absurd found
found_still number (h ∷ live) next P found = by_test (h.mapping.number == number) refl (found_still number live next P) found
  where
    by_test : (same : Bool) → (h.mapping.number == number) ≡ same → (IsSomeAnd (held_of number live) P → IsSomeAnd (held_of number (live ++ next ∷ [])) P) → IsSomeAnd (held_of number (h ∷ live)) P → IsSomeAnd (held_of number ((h ∷ live) ++ next ∷ [])) P
    by_test true t later here = rw t (rw t at here)
    by_test false t later here = rw t (later (rw t at here))

-- a new mapping has a number above all others, and is held
held_with : (table : GrantTable) (m : Mapping) (frame : ℕ) (front rest : List Mapping) → m.number ≡ table.made + 1 → AreHeld table (front ++ rest) → AreHeld (record { made = table.made + 1; live = table.live ++ record { mapping = m; frame = frame } ∷ [] }) (front ++ m ∷ rest)
held_with table m frame front rest next held =
    let new : Held = record { mapping = m; frame = frame } in
    let below : (i : ℕ) → i < length table.live → number_at table.live i < m.number = λ i lt. omega (arith, held.made_before i nothing_held lt) in
    let absent : held_of m.number table.live ≡ None = held_of_absent m.number table.live (λ i lt same. omega (arith, below i lt)) in
    let found : held_of m.number (table.live ++ new ∷ []) ≡ Some new = held_of-append_new table.live new absent in
    let table' : GrantTable = record { made = table.made + 1; live = table.live ++ new ∷ [] } in
    let others : All (IsLive table') (front ++ rest) = All-weaker (IsLive table) (IsLive table') (λ x live. found_still x.number table.live new (λ (h : Held). h.mapping ≡ x) live) (front ++ rest) held.live in
    let here : IsLive table' m = rw found refl in
    record {
      live = All-from_recursion (IsLive table') (front ++ m ∷ rest) (all_with (IsLive table') front rest m here (recursion_from_All (IsLive table') (front ++ rest) others));
      counted = λ number.
          let more = count_with number front rest m in
          let pushed = sum_by_push (as_live number) table.live new in
          let before = held.counted number in
          omega arith;
      as_many =
          let more = length-append front (m ∷ rest) in let fewer = length-append front rest in
          let pushed = length-append table.live (new ∷ []) in let before = held.as_many in
          omega arith;
      ascending = IsAscending-append 0 table.live new held.ascending (omega arith) below;
      made_before = All-push (λ (h : Held). h.mapping.number ≤ table.made + 1) table.live new (λ i d lt. omega (arith, held.made_before i d lt)) (omega arith);
    }

pub held_more : (table : GrantTable) (m : Mapping) (frame : ℕ) (hands hands' : List Mapping) → m.number ≡ table.made + 1 → AreHeld table hands → HasOneMore m hands hands' → AreHeld (record { made = table.made + 1; live = table.live ++ record { mapping = m; frame = frame } ∷ [] }) hands'
held_more table m frame hands hands' next held more =
    rw more.with_it (held_with table m frame more.front more.rest next (rw more.without at held))

-- a mapping that is unmapped was held once, so every other one lives still
held_but : (table : GrantTable) (m : Mapping) (front rest : List Mapping) → AreHeld table (front ++ m ∷ rest) → AreHeld (unmap_table table m) (front ++ rest)
held_but table m front rest held =
    let own : as_hand m.number m ≡ 1 = grind (arith, nat_tests) in
    let more = count_with m.number front rest m in
    let counted = held.counted m.number in
    let once = count_once m.number 0 table.live held.ascending in
    let alone : sum_by (as_hand m.number) (front ++ rest) ≡ 0 = omega arith in
    let before : All (IsLive table) (front ++ rest) = All-from_recursion (IsLive table) (front ++ rest) (all_but (IsLive table) front rest m (recursion_from_All (IsLive table) (front ++ m ∷ rest) held.live)) in
    record {
      live = λ i d lt.
          let x : Mapping = get_or (front ++ rest) i d in
          let few = get_or-le-sum_by (as_hand m.number) (front ++ rest) i d lt in
          let other : x.number ≢ m.number = differs x m (omega arith) in
          rw (held_of-without_other x.number m.number table.live other) (before i d lt);
      counted = λ number. elim (cases_eq number m.number) [
        | inl e ↦
            let taken = count_taken m.number table.live in
            rw e (omega arith)
        | inr other ↦
            let kept = count_others number m.number table.live other in
            let was = held.counted number in
            let with_m = count_with number front rest m in
            let none : as_hand number m ≡ 0 = grind (arith, nat_tests) in
            omega arith
      ];
      as_many =
          let with_m = length-append front (m ∷ rest) in let fewer = length-append front rest in
          let both = length-filter_both (λ (h : Held). h.mapping.number == m.number) (λ (h : Held). not (h.mapping.number == m.number)) (λ h. refl) table.live in
          let taken = length-filter (λ (h : Held). h.mapping.number == m.number) table.live in
          let was = held.as_many in
          omega arith;
      ascending = IsAscending-without m.number 0 table.live held.ascending;
      made_before = All-filter (λ (h : Held). not (h.mapping.number == m.number)) (λ (h : Held). h.mapping.number ≤ table.made) table.live held.made_before;
    }
  where
    differs : (x y : Mapping) → as_hand y.number x ≤ 0 → x.number ≢ y.number
    differs x y none = grind (arith, nat_tests)

pub held_less : (table : GrantTable) (m : Mapping) (hands hands' : List Mapping) → AreHeld table hands → HasOneMore m hands' hands → AreHeld (unmap_table table m) hands'
held_less table m hands hands' held more =
    rw more.without (held_but table m more.front more.rest (rw more.with_it at held))
