-- The request of a number among the first ones of a list: where it stands, and the others.
use Rattle.std.proofs.Common.{◌≡◌, ℕ, zero, suc, ◌<◌, ◌==◌, Bool, true, false, cond, List, [], ◌∷◌, length, take, refl, ap, sym, ◌∙◌, subst, arith}
use Rattle.std.specs.Prelude.{Option, Some, None, slice_get, position, remove, nat_lt}
use Rattle.std.specs.Option.{option_map}
use Rattle.std.specs.List.{position_or_len}
use Rattle.std.proofs.lemmas.Bool.Decides.{nat_tests}
use Rattle.blk_front.specs.declared.request.Request.{Request}
use Rattle.front_laws.specs.Sight.{numbered, without}

abbrev pub is_numbered : ℕ → Request → Bool
is_numbered id r = r.number == id

-- where the request of a number stands among the first n, and the others of them
pub record IsAmong (l : List Request) (n id place : ℕ) : Type 0 where
  pub r : Request
  pub here : slice_get l place ≡ Some r
  pub same : numbered id (take n l) ≡ Some r
  pub early : place < n
  pub number : (r.number == id) ≡ true
  pub others : (m : ℕ) → n ≡ suc m → without id (take n l) ≡ take m (remove l place)

pub record IsAbsent (l : List Request) (n id : ℕ) : Type 0 where
  pub none : numbered id (take n l) ≡ None

abbrev pub LooksUp : (l : List Request) (n id : ℕ) → Option ℕ → Type 0
LooksUp l n id None = IsAbsent l n id
LooksUp l n id (Some place) = IsAmong l n id place

abbrev place_as : ℕ → ℕ → Option ℕ
place_as n long = cond (nat_lt n long) (Some n) None

place_here : (p : Request → Bool) (r : Request) (l : List Request) → p r ≡ true → position p (r ∷ l) ≡ Some 0
place_here p r l e =
    let here : position_or_len p (r ∷ l) ≡ 0 = rw e refl in
    let some : nat_lt 0 (length (r ∷ l)) ≡ true = grind (arith, nat_tests) in
    ap (λ (n : ℕ). place_as n (length (r ∷ l))) here ∙ ap (λ (b : Bool). cond b (Some 0) None) some

one_less : (a n : ℕ) → nat_lt (suc a) (suc n) ≡ nat_lt a n
one_less a n = by_test (nat_lt a n) refl
  where
    by_test : (b : Bool) → nat_lt a n ≡ b → nat_lt (suc a) (suc n) ≡ b
    by_test true e = grind (arith, nat_tests)
    by_test false e = grind (arith, nat_tests)

place_later : (p : Request → Bool) (r : Request) (l : List Request) → p r ≡ false → position p (r ∷ l) ≡ option_map suc (position p l)
place_later p r l e =
    let later : position_or_len p (r ∷ l) ≡ suc (position_or_len p l) = rw e (omega arith) in
    ap (λ (n : ℕ). place_as n (suc (length l))) later ∙ (ap (λ (b : Bool). cond b (Some (suc (position_or_len p l))) None) (one_less (position_or_len p l) (length l)) ∙ by_test (nat_lt (position_or_len p l) (length l)))
  where
    by_test : (b : Bool) → ◌≡◌ {A = Option ℕ} (cond b (Some (suc (position_or_len p l))) None) (option_map suc (cond b (Some (position_or_len p l)) None))
    by_test true = refl
    by_test false = refl

no_place : (p : Request → Bool) → position p [] ≡ None
no_place p = refl

nothing_taken : (n : ℕ) → ◌≡◌ {A = List Request} (take n []) []
nothing_taken zero = refl
nothing_taken (suc n) = refl

empty_up : (n id : ℕ) → LooksUp [] n id (position (is_numbered id) (take n []))
empty_up zero id = record { none = refl }
empty_up (suc n) id = record { none = refl }

here_up : (r : Request) (l : List Request) (n id : ℕ) → (r.number == id) ≡ true → IsAmong (r ∷ l) (suc n) id 0
here_up r l n id e = record {
  r = r;
  here = refl;
  same = rw e refl;
  early = omega arith;
  number = e;
  others = λ m long. rw e (ap (λ (k : ℕ). take k l) (omega arith));
}

later_up : (r : Request) (l : List Request) (n id : ℕ) → (r.number == id) ≡ false → (o : Option ℕ) → LooksUp l n id o → LooksUp (r ∷ l) (suc n) id (option_map suc o)
later_up r l n id e None h = record { none = rw e h.none }
later_up r l n id e (Some place) h = record {
  r = h.r;
  here = h.here;
  same = rw e h.same;
  early = let lt = h.early in omega arith;
  number = h.number;
  others = λ m long. rw e (by_rest m (omega arith));
}
  where
    by_rest : (m : ℕ) → n ≡ m → r ∷ without id (take n l) ≡ take m (r ∷ remove l place)
    by_rest zero long = absurd (let lt = h.early in omega arith)
    by_rest (suc m) long = ap (λ (x : List Request). r ∷ x) (h.others m long)

pub looked_up : (l : List Request) (n id : ℕ) → LooksUp l n id (position (is_numbered id) (take n l))
looked_up [] n id = empty_up n id
looked_up (r ∷ l) zero id = record { none = refl }
looked_up (r ∷ l) (suc n) id = by_test (looked_up l n id) (r.number == id) refl
  where
    by_test : LooksUp l n id (position (is_numbered id) (take n l)) → (b : Bool) → (r.number == id) ≡ b → LooksUp (r ∷ l) (suc n) id (position (is_numbered id) (r ∷ take n l))
    by_test rest true e = subst (LooksUp (r ∷ l) (suc n) id) (sym (place_here (is_numbered id) r (take n l) e)) (here_up r l n id e)
    by_test rest false e = subst (LooksUp (r ∷ l) (suc n) id) (sym (place_later (is_numbered id) r (take n l) e)) (later_up r l n id e (position (is_numbered id) (take n l)) rest)
