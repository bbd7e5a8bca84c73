-- The jobs of a round, one after another: each comes to one word more, or waits.
use Rattle.std.proofs.Common.{◌≡◌, ℕ, suc, ◌+◌, ◌<◌, ◌≤◌, ◌==◌, Bool, false, not, ◌&&◌, ◌||◌, cond, List, [], ◌∷◌, ◌++◌, length, refl, sym, ap, ◌∙◌, arith, length-append}
use Rattle.std.specs.Prelude.{Option, Some, None, find, nat_lt, slice_get, option_map}
use Rattle.std.specs.List.{AllByRecursion, list_any, position_or_len}
use Rattle.std.proofs.lemmas.Bool.Decides.{nat_tests}
use Rattle.std.proofs.lemmas.Bool.{eq-eqb, ne_eqb, lt-ltb}
use Rattle.std.proofs.lemmas.List.Folds.{list_any-append}
use Rattle.std.proofs.Math.Seq.{set-append_seam, take-append_seam}
use Rattle.back_jobs.proofs.Done.{passes}
use Rattle.back_jobs.specs.Work.{Work, step_of}
use Rattle.back_jobs.specs.Jobs.{place_of, work_at, work_of, asked, waits_at, told_at, next_in, is_fresh_at, is_held, is_held_by, is_ordered, is_barrier, is_done, holds_barriers, holds_all}
use Rattle.blk_base.specs.declared.ask.BackAnswer.{BackAnswer}
use Rattle.round_laws.proofs.JobWords.{IsLike}

-- no number of these is above this one
abbrev pub AreUpTo : ℕ → List Work → Type 0
AreUpTo number works = AllByRecursion (λ (t : Work). t.number ≤ number) works

pub up_to_more : (from to : ℕ) (works : List Work) (t : Work) → from ≤ to → t.number ≤ to → AreUpTo from works → AreUpTo to (works ++ t ∷ [])
up_to_more from to [] t less this all = (this, tt)
up_to_more from to (u ∷ works) t less this all = (let first = all.0 in omega (arith, first, less), up_to_more from to works t less this all.1)

-- the first of the jobs above a number stands after those that are not
place_from : (pre : List Work) (x : Work) (post : List Work) (from : ℕ) → AreUpTo from pre → from < x.number → position_or_len (λ (t : Work). t.number == x.number) (pre ++ x ∷ post) ≡ length pre
place_from [] x post from all less = ap (λ (b : Bool). cond (not b) (1 + position_or_len (λ (t : Work). t.number == x.number) post) 0) (eq-eqb x.number x.number refl)
place_from (t ∷ pre) x post from all less =
    let grown : 1 + length pre ≡ suc (length pre) = omega arith in
    ap (λ (b : Bool). cond (not b) (1 + position_or_len (λ (u : Work). u.number == x.number) (pre ++ x ∷ post)) 0) (ne_eqb t.number x.number (λ same. let low = all.0 in omega (arith, low, less, same)))
    ∙ (ap (λ n. 1 + n) (place_from pre x post from all.1 less) ∙ grown)

get_there : (pre : List Work) (x : Work) (post : List Work) → slice_get (pre ++ x ∷ post) (length pre) ≡ Some x
get_there [] x post = refl
get_there (t ∷ pre) x post = get_there pre x post

module _ (pre : List Work) (x : Work) (post : List Work) (from : ℕ) (all : AreUpTo from pre) (less : from < x.number) where
  pub place_there : place_of (pre ++ x ∷ post) x.number ≡ Some (length pre)
  place_there = passes (λ (t : Work). t.number == x.number) (pre ++ x ∷ post) (length pre) (sym (place_from pre x post from all less)) (omega (arith, length-append pre (x ∷ post)))

  pub work_there : work_of (pre ++ x ∷ post) x.number ≡ Some x
  work_there = ap (work_at (pre ++ x ∷ post)) place_there ∙ get_there pre x post

  pub told_there : (a : BackAnswer) → told_at (pre ++ x ∷ post) (place_of (pre ++ x ∷ post) x.number) (work_of (pre ++ x ∷ post) x.number) a ≡ pre ++ step_of x a ∷ post
  told_there a =
      ap (λ (o : Option Work). told_at (pre ++ x ∷ post) (place_of (pre ++ x ∷ post) x.number) o a) work_there
      ∙ (ap (λ (o : Option ℕ). told_at (pre ++ x ∷ post) o (Some x) a) place_there ∙ set-append_seam pre x post (step_of x a))

  pub asked_there : asked (waits_at (pre ++ x ∷ post) (place_of (pre ++ x ∷ post) x.number) (work_of (pre ++ x ∷ post) x.number)) (work_of (pre ++ x ∷ post) x.number)
      ≡ asked (is_fresh_at x.stage x.moved && is_held_by pre x) (Some x)
  asked_there =
      ap (λ (o : Option Work). asked (waits_at (pre ++ x ∷ post) (place_of (pre ++ x ∷ post) x.number) o) o) work_there
      ∙ (ap (λ (o : Option ℕ). asked (waits_at (pre ++ x ∷ post) o (Some x)) (Some x)) place_there
      ∙ ap (λ (l : List Work). asked (is_fresh_at x.stage x.moved && is_held_by l x) (Some x)) (take-append_seam pre (x ∷ post)))

pub next_past : (pre : List Work) (rest : List Work) (from : ℕ) → AreUpTo from pre → next_in (pre ++ rest) from ≡ next_in rest from
next_past [] rest from all = refl
next_past (t ∷ pre) rest from all =
    let past : nat_lt from t.number ≡ false = (let low = all.0 in grind (arith, nat_tests)) in
    ap (λ (b : Bool). option_map (λ (u : Work). u.number) (cond b (Some t) (find (λ (u : Work). nat_lt from u.number) (pre ++ rest)))) past ∙ next_past pre rest from all.1

pub next_there : (pre : List Work) (x : Work) (post : List Work) (from : ℕ) → AreUpTo from pre → from < x.number → next_in (pre ++ x ∷ post) from ≡ Some x.number
next_there pre x post from all less =
    next_past pre (x ∷ post) from all
    ∙ ap (λ (b : Bool). option_map (λ (u : Work). u.number) (cond b (Some x) (find (λ (u : Work). nat_lt from u.number) post))) (lt-ltb from x.number less)

pub next_none : (pre : List Work) (from : ℕ) → AreUpTo from pre → next_in (pre ++ []) from ≡ None
next_none pre from all = next_past pre [] from all

-- as they stand now, these jobs hold up others as those did
pub record IsBehind (from : ℕ) (before now : List Work) : Type 0 where
  pub before_up_to : AreUpTo from before
  pub now_up_to : AreUpTo from now
  pub barriers : list_any holds_barriers now ≡ list_any holds_barriers before
  pub all : list_any holds_all now ≡ list_any holds_all before

pub none_behind : (from : ℕ) → IsBehind from [] []
none_behind from = record { before_up_to = tt; now_up_to = tt; barriers = refl; all = refl }

pub one_behind : (from to : ℕ) (before now : List Work) (t u : Work) → from < t.number → to ≡ t.number → IsLike t u → IsBehind from before now → IsBehind to (before ++ t ∷ []) (now ++ u ∷ [])
one_behind from to before now t u less here like behind =
    let same : u.number ≡ t.number = like.number in
    record {
      before_up_to = up_to_more from to before t (omega (arith, less, here)) (omega (arith, here)) behind.before_up_to;
      now_up_to = up_to_more from to now u (omega (arith, less, here)) (omega (arith, same, here)) behind.now_up_to;
      barriers = list_any-append holds_barriers now (u ∷ [])
          ∙ (ap (λ (b : Bool). b || list_any holds_barriers (u ∷ [])) behind.barriers
          ∙ (ap (λ (op : ℕ). list_any holds_barriers before || ((((op == 1 || op == 2) || op == 5) && not (is_done u)) || false)) like.op
          ∙ (ap (λ (b : Bool). list_any holds_barriers before || ((is_ordered t && not b) || false)) like.done
          ∙ sym (list_any-append holds_barriers before (t ∷ [])))));
      all = list_any-append holds_all now (u ∷ [])
          ∙ (ap (λ (b : Bool). b || list_any holds_all (u ∷ [])) behind.all
          ∙ (ap (λ (op : ℕ). list_any holds_all before || ((op == 2 && not (is_done u)) || false)) like.op
          ∙ (ap (λ (b : Bool). list_any holds_all before || ((is_barrier t && not b) || false)) like.done
          ∙ sym (list_any-append holds_all before (t ∷ [])))));
    }

pub held_same : (from : ℕ) (before now : List Work) (t : Work) → IsBehind from before now → is_held_by now t ≡ is_held_by before t
held_same from before now t behind = ap (λ (b : Bool). is_held t b (list_any holds_all now)) behind.barriers ∙ ap (λ (b : Bool). is_held t (list_any holds_barriers before) b) behind.all
