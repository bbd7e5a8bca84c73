-- The mappings that are kept are those that jobs made and that stand, as the rules say it.
use Rattle.std.proofs.Common.{◌≡◌, ℕ, ◌==◌, ◌&&◌, ◌||◌, not, Bool, true, false, cond, if◌then◌else◌, List, [], ◌∷◌, ◌++◌, filter, map, refl, ap, sym, ◌∙◌, subst, arith}
use Rattle.std.specs.Prelude.{Option, Some, None, IsSomeAnd}
use Rattle.std.specs.List.{list_any, list_all}
use Rattle.std.specs.Bool.{Decides}
use Rattle.std.specs.Option.{option_to_list}
use Rattle.std.specs.Map.{values_of}
use Rattle.std.proofs.lemmas.Bool.Decides.{nat_tests, Decides-eqb}
use Rattle.std.proofs.lemmas.List.{append-nil}
use Rattle.std.proofs.lemmas.List.Folds.{list_any-append}
use Rattle.blk_base.specs.declared.moves.BackMover.{BackMover}
use Rattle.blk_base.specs.declared.moves.BackMover.TheVariants as back
use Rattle.blk_base.specs.declared.moves.Move.TheVariants as moves
use Rattle.blk_base.specs.declared.parts.Mode.{Mode}
use Rattle.grant_table.specs.Entry.{is_for_writing}
use Rattle.schedule_text.specs.declared.line.Line.{Line}
use Rattle.schedule_text.specs.declared.line.Line.TheVariants as lines
use Rattle.report_rules.specs.declared.standing.Standing.{Standing}
use Rattle.report_rules.specs.Standing.{is_epoch, this_epoch, mapping_made, has_number, is_unmap_of, numbered}
use Rattle.report_rules.specs.Mapped.{was_made}
use Rattle.report_rules.specs.Made.{made_by, left_to, held_by, may_stand, made_for_writing, left_for_writing, kept_before}
use Rattle.report_rules.specs.Steps.{IsKeptFor, is_kept_for as kept_is_for}
use Rattle.report_rules.proofs.Back.{left_more_by}
use Rattle.memory_check.proofs.Counts.{numbered_more, numbered_filter}
use Rattle.memory_check.proofs.Sees.{made_more}
use Rattle.job_check.specs.declared.kept.Made.{Made}
use Rattle.job_check.specs.Kept.{Kept, made_at, after_map, after_unmap, is_writer_of, is_writer_at, is_kept_of, is_kept_for, may_stay, has_unmapped}
use Rattle.job_check.specs.State.{made_of}
use Rattle.job_check.proofs.Keyed.{AreRising, rising_inserted, found_inserted, any_inserted, rising_removed, found_removed, any_removed}
use Rattle.job_check.proofs.Telling.{neither, longer, anew}

-- the reference of a mapping for writing
abbrev pub gref_made : Option Made → Option ℕ
gref_made None = None
gref_made (Some made) = if made.writes then Some made.gref else None

abbrev pub gref_stood : Option Standing → Option ℕ
gref_stood None = None
gref_stood (Some s) = Some s.gref

-- each number has the same mapping for writing, and each test of mappings for writing, or of those of a job, says the same
pub record IsKeptTo (before : List Line) (kept : Kept) : Type 0 where
  pub rising : AreRising 0 kept
  pub fresh : (n : ℕ) → was_made before n ≡ false → made_at kept n ≡ None
  pub unmade : (n : ℕ) → was_made before n ≡ false → numbered n (kept_before before) ≡ None
  pub mapped : (n : ℕ) → gref_made (made_at kept n) ≡ gref_stood (numbered n (kept_before before))
  pub writers : (p : ℕ → ℕ → Bool) → list_any (λ (e : ℕ × Made). e.1.writes && p e.0 e.1.gref) kept ≡ list_any (λ (m : Standing). p m.number m.gref) (kept_before before)
  pub held : (k : ℕ) (p : ℕ → Bool → Bool) → list_any (λ (e : ℕ × Made). (e.1.job == k) && p e.0 e.1.writes) kept ≡ list_any (λ (m : Standing). p m.number (is_for_writing m.mode)) (held_by k before)

pub kept_none : IsKeptTo [] []
kept_none = record { rising = tt; fresh = λ n e. refl; unmade = λ n e. refl; mapped = λ n. refl; writers = λ p. refl; held = λ k p. refl }

any_same : {X : Type 0} (f g : X → Bool) (xs : List X) → ((x : X) → f x ≡ g x) → list_any f xs ≡ list_any g xs
any_same f g [] same = refl
any_same f g (x ∷ xs) same = rw (same x, any_same f g xs same) refl

pub any_filter : {X : Type 0} (p q : X → Bool) (xs : List X) → list_any p (filter q xs) ≡ list_any (λ (x : X). p x && q x) xs
any_filter p q [] = refl
any_filter {X} p q (x ∷ xs) = by_test (q x) refl (any_filter p q xs)
  where
    and_no : (b c : Bool) → c ≡ ((b && false) || c)
    and_no true c = refl
    and_no false c = refl

    and_yes : (b c : Bool) → (b || c) ≡ ((b && true) || c)
    and_yes true c = refl
    and_yes false c = refl

    by_test : (b : Bool) → q x ≡ b → list_any p (filter q xs) ≡ list_any (λ (y : X). p y && q y) xs → list_any p (filter q (x ∷ xs)) ≡ list_any (λ (y : X). p y && q y) (x ∷ xs)
    by_test true t rest = rw (t, rest) (and_yes (p x) (list_any (λ (y : X). p y && q y) xs))
    by_test false t rest = rw (t, rest) (and_no (p x) (list_any (λ (y : X). p y && q y) xs))

pub any_map : {X Y : Type 0} (f : X → Y) (p : Y → Bool) (xs : List X) → list_any p (map f xs) ≡ list_any (λ (x : X). p (f x)) xs
any_map f p [] = refl
any_map f p (x ∷ xs) = rw (any_map f p xs) refl

and_assoc : (a b c : Bool) → ((a && b) && c) ≡ (a && (b && c))
and_assoc true b c = refl
and_assoc false b c = refl

or_turned : (a b : Bool) → (a || b) ≡ (b || (a || false))
or_turned true true = refl
or_turned true false = refl
or_turned false true = refl
or_turned false false = refl

-- ---- the rules' lists, with one line more
left_by : Line → List Standing → Option Standing → List Standing
left_by line xs made = filter (λ (s : Standing). not (is_unmap_of s.number line)) xs ++ option_to_list made

writing_more : (before : List Line) (line : Line) → is_epoch line ≡ false → kept_before (before ++ line ∷ []) ≡ left_by line (kept_before before) (made_for_writing line)
unfolding left_by
writing_more before line e = ap left_for_writing (longer before line e) ∙ left_more_by made_for_writing left_for_writing refl (λ x later. refl) (this_epoch before) line

held_more : (before : List Line) (line : Line) (k : ℕ) → is_epoch line ≡ false → held_by k (before ++ line ∷ []) ≡ left_by line (held_by k before) (made_by k line)
unfolding left_by
held_more before line k e = ap (left_to k) (longer before line e) ∙ left_more_by (made_by k) (left_to k) refl (λ x later. refl) (this_epoch before) line

whole : (q : Standing → Bool) → ((s : Standing) → q s ≡ true) → (xs ys : List Standing) → filter q xs ++ ys ≡ xs ++ ys
whole q all [] ys = refl
whole q all (x ∷ xs) ys = rw (all x) (ap (λ (zs : List Standing). x ∷ zs) (whole q all xs ys))

left_whole : (line : Line) (xs : List Standing) (made : Option Standing) → ((n : ℕ) → is_unmap_of n line ≡ false) → left_by line xs made ≡ xs ++ option_to_list made
unfolding left_by
left_whole line xs made none = whole (λ (s : Standing). not (is_unmap_of s.number line)) (λ s. ap not (none s.number)) xs (option_to_list made)

left_same : (line : Line) (xs : List Standing) → ((n : ℕ) → is_unmap_of n line ≡ false) → left_by line xs None ≡ xs
unfolding left_by
left_same line xs none = left_whole line xs None none ∙ append-nil xs

-- ---- a line that makes and ends no mapping of a job
pub kept_still : (before : List Line) (line : Line) (kept : Kept) → IsKeptTo before kept → is_epoch line ≡ false → ((n : ℕ) → is_unmap_of n line ≡ false) → made_for_writing line ≡ None → ((k : ℕ) → made_by k line ≡ None)
    → IsKeptTo (before ++ line ∷ []) kept
kept_still before line kept is e ends makes none =
    let writing : kept_before (before ++ line ∷ []) ≡ kept_before before = writing_more before line e ∙ (ap (left_by line (kept_before before)) makes ∙ left_same line (kept_before before) ends) in
    let held : (k : ℕ) → held_by k (before ++ line ∷ []) ≡ held_by k before = λ k. held_more before line k e ∙ (ap (left_by line (held_by k before)) (none k) ∙ left_same line (held_by k before) ends) in
    let old : (n : ℕ) → was_made (before ++ line ∷ []) n ≡ false → was_made before n ≡ false = λ n new. (neither (was_made before n) (has_number n (mapping_made line)) (sym (made_more before line n) ∙ new)).0 in
    record {
      rising = is.rising;
      fresh = λ n new. is.fresh n (old n new);
      unmade = λ n new. ap (numbered n) writing ∙ is.unmade n (old n new);
      mapped = λ n. is.mapped n ∙ ap (λ (xs : List Standing). gref_stood (numbered n xs)) (sym writing);
      writers = λ p. is.writers p ∙ ap (λ (xs : List Standing). list_any (λ (m : Standing). p m.number m.gref) xs) (sym writing);
      held = λ k p. is.held k p ∙ ap (λ (xs : List Standing). list_any (λ (m : Standing). p m.number (is_for_writing m.mode)) xs) (sym (held k));
    }

-- ---- an epoch
pub kept_anew : (before : List Line) (line : Line) → is_epoch line ≡ true → IsKeptTo (before ++ line ∷ []) []
kept_anew before line e =
    let none : this_epoch (before ++ line ∷ []) ≡ [] = anew before line e in
    record {
      rising = tt;
      fresh = λ n new. refl;
      unmade = λ n new. ap (λ (xs : List Line). numbered n (left_for_writing xs)) none;
      mapped = λ n. sym (ap (λ (xs : List Line). gref_stood (numbered n (left_for_writing xs))) none);
      writers = λ p. sym (ap (λ (xs : List Line). list_any (λ (m : Standing). p m.number m.gref) (left_for_writing xs)) none);
      held = λ k p. sym (ap (λ (xs : List Line). list_any (λ (m : Standing). p m.number (is_for_writing m.mode)) (left_to k xs)) none);
    }

-- ---- an unmap
cond_same : (b : Bool) (made : Option Made) (s : Option Standing) → gref_made made ≡ gref_stood s → gref_made (cond b None made) ≡ gref_stood (cond b None s)
cond_same true made s e = refl
cond_same false made s e = e

none_by : {X : Type 0} (b : Bool) (o : Option X) → o ≡ None → cond b None o ≡ None
none_by true o e = refl
none_by false o e = e

pub kept_unmapped : (before : List Line) (who : BackMover) (number : ℕ) (kept : Kept) → IsKeptTo before kept → IsKeptTo (before ++ lines.Move (moves.Unmap who number) ∷ []) (after_unmap kept number)
unfolding left_by
kept_unmapped before who number kept is =
    let line : Line = lines.Move (moves.Unmap who number) in
    let writing : kept_before (before ++ lines.Move (moves.Unmap who number) ∷ []) ≡ filter (λ (s : Standing). not (number == s.number)) (kept_before before) =
    writing_more before (lines.Move (moves.Unmap who number)) refl ∙ unmapped (kept_before before) in
    let held : (k : ℕ) → held_by k (before ++ lines.Move (moves.Unmap who number) ∷ []) ≡ filter (λ (s : Standing). not (number == s.number)) (held_by k before) =
    λ k. held_more before (lines.Move (moves.Unmap who number)) k refl ∙ unmapped (held_by k before) in
    let old : (n : ℕ) → was_made (before ++ lines.Move (moves.Unmap who number) ∷ []) n ≡ false → was_made before n ≡ false =
    λ n new. (neither (was_made before n) false (sym (made_more before (lines.Move (moves.Unmap who number)) n) ∙ new)).0 in
    record {
      rising = rising_removed 0 number kept is.rising;
      fresh = λ n new. found_removed 0 number n kept is.rising ∙ none_by (number == n) (made_at kept n) (is.fresh n (old n new));
      unmade = λ n new. ap (numbered n) writing ∙ (numbered_filter number n (kept_before before) ∙ none_by (number == n) (numbered n (kept_before before)) (is.unmade n (old n new)));
      mapped = λ n.
          ap gref_made (found_removed 0 number n kept is.rising)
          ∙ (cond_same (number == n) (made_at kept n) (numbered n (kept_before before)) (is.mapped n)
          ∙ sym (ap gref_stood (ap (numbered n) writing ∙ numbered_filter number n (kept_before before))));
      writers = λ p.
          any_removed (λ (n : ℕ) (v : Made). v.writes && p n v.gref) 0 number kept is.rising
          ∙ (any_same (λ (e : ℕ × Made). (e.1.writes && p e.0 e.1.gref) && not (number == e.0)) (λ (e : ℕ × Made). e.1.writes && (p e.0 e.1.gref && not (number == e.0))) kept (λ e. and_assoc e.1.writes (p e.0 e.1.gref) (not (number == e.0)))
          ∙ (is.writers (λ (n g : ℕ). p n g && not (number == n))
          ∙ (sym (any_filter (λ (m : Standing). p m.number m.gref) (λ (m : Standing). not (number == m.number)) (kept_before before))
          ∙ ap (λ (xs : List Standing). list_any (λ (m : Standing). p m.number m.gref) xs) (sym writing))));
      held = λ k p.
          any_removed (λ (n : ℕ) (v : Made). (v.job == k) && p n v.writes) 0 number kept is.rising
          ∙ (any_same (λ (e : ℕ × Made). ((e.1.job == k) && p e.0 e.1.writes) && not (number == e.0)) (λ (e : ℕ × Made). (e.1.job == k) && (p e.0 e.1.writes && not (number == e.0))) kept (λ e. and_assoc (e.1.job == k) (p e.0 e.1.writes) (not (number == e.0)))
          ∙ (is.held k (λ (n : ℕ) (w : Bool). p n w && not (number == n))
          ∙ (sym (any_filter (λ (m : Standing). p m.number (is_for_writing m.mode)) (λ (m : Standing). not (number == m.number)) (held_by k before))
          ∙ ap (λ (xs : List Standing). list_any (λ (m : Standing). p m.number (is_for_writing m.mode)) xs) (sym (held k)))));
    }
  where
    unmapped : (xs : List Standing) → left_by (lines.Move (moves.Unmap who number)) xs None ≡ filter (λ (s : Standing). not (number == s.number)) xs
    unmapped xs = append-nil (filter (λ (s : Standing). not (number == s.number)) xs)

-- ---- a map by a job
pub kept_mapped : (before : List Line) (k gref number frame : ℕ) (mode : Mode) (kept : Kept) → IsKeptTo before kept → was_made before number ≡ false → IsKeptTo (before ++ lines.Move (moves.Map (back.Job k) gref mode number frame) ∷ []) (after_map kept number (made_of k gref mode))
kept_mapped before k gref number frame mode kept is new =
    let line : Line = lines.Move (moves.Map (back.Job k) gref mode number frame) in
    let made : Standing = record { number = number; gref = gref; mode = mode; frame = frame } in
    let none : made_at kept number ≡ None = is.fresh number new in
    let absent : numbered number (kept_before before) ≡ None = is.unmade number new in
    let writing : kept_before (before ++ line ∷ []) ≡ kept_before before ++ option_to_list (if is_for_writing mode then Some made else None) =
    writing_more before line refl ∙ left_whole line (kept_before before) (made_for_writing line) (λ n. refl) in
    let held : (j : ℕ) → held_by j (before ++ line ∷ []) ≡ held_by j before ++ option_to_list (if k == j then Some made else None) =
    λ j. held_more before line j refl ∙ left_whole line (held_by j before) (made_by j line) (λ n. refl) in
    let old : (n : ℕ) → was_made (before ++ line ∷ []) n ≡ false → (was_made before n ≡ false) × ((number == n) ≡ false) =
    λ n later. neither (was_made before n) (number == n) (sym (made_more before line n) ∙ later) in
    let at : (n : ℕ) → made_at (after_map kept number (made_of k gref mode)) n ≡ cond (number == n) (Some (made_of k gref mode)) (made_at kept n) = λ n. found_inserted number n (made_of k gref mode) kept in
    let stood : (n : ℕ) → numbered n (kept_before (before ++ line ∷ [])) ≡ numbered n (kept_before before ++ option_to_list (if is_for_writing mode then Some made else None)) = λ n. ap (numbered n) writing in
    record {
      rising = rising_inserted 0 number (made_of k gref mode) kept is.rising (omega arith);
      fresh = λ n later. at n ∙ rw (old n later).1 (is.fresh n (old n later).0);
      unmade = λ n later. stood n ∙ (number_by n (is_for_writing mode) made (kept_before before) absent ∙ other_by n (is_for_writing mode) made (numbered n (kept_before before)) (old n later).1 ∙ is.unmade n (old n later).0);
      mapped = λ n.
          ap gref_made (at n)
          ∙ (mapped_by n (number == n) (is_for_writing mode) (made_at kept n) (is.mapped n) refl absent
          ∙ sym (ap gref_stood (stood n ∙ number_by n (is_for_writing mode) made (kept_before before) absent)));
      writers = λ p.
          any_inserted (λ (n : ℕ) (v : Made). v.writes && p n v.gref) number (made_of k gref mode) kept none
          ∙ (ap (λ (b : Bool). (is_for_writing mode && p number gref) || b) (is.writers p)
          ∙ sym (ap (λ (xs : List Standing). list_any (λ (m : Standing). p m.number m.gref) xs) writing
          ∙ added (λ (m : Standing). p m.number m.gref) (is_for_writing mode) made (kept_before before)));
      held = λ j p.
          any_inserted (λ (n : ℕ) (v : Made). (v.job == j) && p n v.writes) number (made_of k gref mode) kept none
          ∙ (ap (λ (b : Bool). ((k == j) && p number (is_for_writing mode)) || b) (is.held j p)
          ∙ sym (ap (λ (xs : List Standing). list_any (λ (m : Standing). p m.number (is_for_writing m.mode)) xs) (held j)
          ∙ added (λ (m : Standing). p m.number (is_for_writing m.mode)) (k == j) made (held_by j before)));
    }
  where
    -- the mapping of a number, with one mapping more
    number_by : (n : ℕ) (b : Bool) (m : Standing) (xs : List Standing) → numbered m.number xs ≡ None → numbered n (xs ++ option_to_list (if b then Some m else None)) ≡ cond (b && (m.number == n)) (Some m) (numbered n xs)
    number_by n true m xs none = numbered_more n m xs none
    number_by n false m xs none = ap (numbered n) (append-nil xs)

    other_by : (n : ℕ) (b : Bool) (m : Standing) (o : Option Standing) → (m.number == n) ≡ false → cond (b && (m.number == n)) (Some m) o ≡ o
    other_by n true m o e = rw e refl
    other_by n false m o e = refl

    mapped_by : (n : ℕ) (b w : Bool) (o : Option Made) → gref_made o ≡ gref_stood (numbered n (kept_before before)) → (number == n) ≡ b → numbered number (kept_before before) ≡ None
        → gref_made (cond b (Some (record { job = k; gref = gref; writes = w })) o) ≡ gref_stood (cond (w && b) (Some (record { number = number; gref = gref; mode = mode; frame = frame })) (numbered n (kept_before before)))
    mapped_by n true true o e t absent = refl
    mapped_by n true false o e t absent =
        let same : number ≡ n = grind (arith, nat_tests) in
        sym (ap gref_stood (subst (λ (q : ℕ). numbered q (kept_before before) ≡ None) same absent))
    mapped_by n false true o e t absent = e
    mapped_by n false false o e t absent = e

    added : (p : Standing → Bool) (b : Bool) (m : Standing) (xs : List Standing) → list_any p (xs ++ option_to_list (if b then Some m else None)) ≡ ((b && p m) || list_any p xs)
    added p true m xs = list_any-append p xs (m ∷ []) ∙ sym (or_turned (p m) (list_any p xs))
    added p false m xs = ap (λ (ys : List Standing). list_any p ys) (append-nil xs)

-- ---- what is kept decides
found_decides : (gref : ℕ) (made : Option Made) (s : Option Standing) → gref_made made ≡ gref_stood s → Decides (is_writer_at gref made) (IsSomeAnd s (λ (m : Standing). m.gref ≡ gref))
found_decides gref None None e = (λ h. absurd (cc), λ h. absurd h)
found_decides gref None (Some s) e = absurd (cc)
found_decides gref (Some made) s e = by_writes made.writes refl s e
  where
    by_writes : (w : Bool) → made.writes ≡ w → (s : Option Standing) → (if w then Some made.gref else None) ≡ gref_stood s → Decides (w && (made.gref == gref)) (IsSomeAnd s (λ (m : Standing). m.gref ≡ gref))
    by_writes true t None h = absurd (cc)
    by_writes true t (Some m) h =
        let same : made.gref ≡ m.gref = cc in
        subst (λ (g : ℕ). Decides (made.gref == gref) (g ≡ gref)) same (Decides-eqb made.gref gref)
    by_writes false t None h = (λ x. absurd (cc), λ x. absurd x)
    by_writes false t (Some m) h = absurd (cc)

pub kept_of_decides : (before : List Line) (kept : Kept) (gref number : ℕ) → IsKeptTo before kept → Decides (is_kept_of kept gref number) (IsKeptFor before gref number)
kept_of_decides before kept gref number is = found_decides gref (made_at kept number) (numbered number (kept_before before)) (is.mapped number)

pub kept_for_is : (before : List Line) (kept : Kept) (gref : ℕ) → IsKeptTo before kept → is_kept_for kept gref ≡ kept_is_for before gref
kept_for_is before kept gref is = any_map (λ (e : ℕ × Made). e.1) (is_writer_of gref) kept ∙ is.writers (λ (n g : ℕ). g == gref)

all_any : {X : Type 0} (p : X → Bool) (xs : List X) → list_all p xs ≡ not (list_any (λ (x : X). not (p x)) xs)
all_any p [] = refl
all_any {X} p (x ∷ xs) = by_test (p x) refl (all_any p xs)
  where
    by_test : (b : Bool) → p x ≡ b → list_all p xs ≡ not (list_any (λ (y : X). not (p y)) xs) → list_all p (x ∷ xs) ≡ not (list_any (λ (y : X). not (p y)) (x ∷ xs))
    by_test true t rest = rw t rest
    by_test false t rest = rw t refl

not_stay : (own may : Bool) → not (not own || may) ≡ (own && not may)
not_stay true true = refl
not_stay true false = refl
not_stay false may = refl

-- what a job has to unmap
pub has_unmapped_is : (before : List Line) (kept : Kept) (persistent : Bool) (k : ℕ) → IsKeptTo before kept → has_unmapped kept persistent k ≡ list_all (may_stand persistent) (held_by k before)
has_unmapped_is before kept persistent k is =
    all_any (may_stay persistent k) (values_of kept)
    ∙ (ap not (any_map (λ (e : ℕ × Made). e.1) (λ (m : Made). not (may_stay persistent k m)) kept
    ∙ (any_same (λ (e : ℕ × Made). not (may_stay persistent k e.1)) (λ (e : ℕ × Made). (e.1.job == k) && not (persistent && e.1.writes)) kept (λ e. not_stay (e.1.job == k) (persistent && e.1.writes))
    ∙ is.held k (λ (n : ℕ) (w : Bool). not (persistent && w))))
    ∙ sym (all_any (may_stand persistent) (held_by k before)))
