-- One of the jobs is told an answer.
use Rattle.std.proofs.Common.{◌≡◌, ◌≤◌, ◌<◌, ℕ, zero, suc, Bool, true, false, List, [], ◌∷◌, ◌++◌, length, refl, sym, ap, ◌∙◌, subst, arith}
use Rattle.std.specs.Prelude.{Option, Some, IfSome, IsPermutation, slice_get, slice_set, slice_index_or}
use Rattle.std.proofs.lemmas.Option.{get_or_from_slice_get, slice_get_within}
use Rattle.std.proofs.Math.ListN.{length-set}
use Rattle.blk_base.specs.declared.ask.BackAnswer.{BackAnswer}
use Rattle.back_jobs.specs.Work.{Work, step_of, IsAnswer}
use Rattle.back_jobs.specs.Jobs.{HeldJobs, place_of, work_at, work_of, is_done}
use Rattle.back_jobs.specs.Keeping.{ask_in, asked_in, waits_in, ask_keeping, settled, with_settled, told_keeping, complete_keeping, all_hands, MapsUnkept}
use Rattle.back_jobs.specs.Hands.{hand_of, hands_in, HandsKeep}
use Rattle.persist_grants.specs.KeptMappings.{KeptMappings, may_keep, mappings_of}
use Rattle.blk_base.specs.declared.parts.Mapping.{Mapping}
use Rattle.back_jobs.specs.Sound.{IsKept, done_numbers}
use Rattle.back_jobs.proofs.Done.{done_after, told_done}
use Rattle.back_jobs.proofs.Listed.{noted, told_listed, listed_fewer, noting}
use Rattle.back_jobs.proofs.Numbers.{set_ascending}
use Rattle.back_jobs.proofs.Kept.{Facts, facts_of}
use Rattle.back_jobs.proofs.Sizes.{told_sized}
use Rattle.back_jobs.proofs.Settling.{told_nothing_lost}

-- a job that is told an answer waits for none
pub unheld : (keeps held : Bool) (found : Option Work) (t : Work) (a : BackAnswer) → found ≡ Some t → IsAnswer (asked_in keeps held found) a → IsAnswer (ask_in keeps t) a
unheld keeps held found t a is h = by_test held (subst (λ (x : Option Work). IsAnswer (asked_in keeps held x) a) is h)
  where
    by_test : (b : Bool) → IsAnswer (asked_in keeps b (Some t)) a → IsAnswer (ask_in keeps t) a
    by_test true told = absurd told
    by_test false told = told

-- the job of the number
pub work_there : (works : List Work) (number place : ℕ) (t : Work) → place_of works number ≡ Some place → slice_get works place ≡ Some t → work_of works number ≡ Some t
work_there works number place t found here = ap (work_at works) found ∙ here

-- it is told an answer that it asked for
pub told_allowed : (h : HeldJobs) (number place : ℕ) (t : Work) (a : BackAnswer) → place_of h.works number ≡ Some place → slice_get h.works place ≡ Some t → IsAnswer (ask_keeping h number) a → IsAnswer (ask_in (may_keep h.kept) t) a
told_allowed h number place t a found here allowed =
    unheld (may_keep h.kept) (waits_in (may_keep h.kept) h.works (place_of h.works number) (work_of h.works number)) (work_of h.works number) t a (work_there h.works number place t found here) allowed

-- nothing is lost
pub told_hands : (h : HeldJobs) (number place : ℕ) (t u : Work) (now : List Mapping) (a : BackAnswer) → place_of h.works number ≡ Some place → slice_get h.works place ≡ Some t → IsAnswer (ask_keeping h number) a
    → IsPermutation (hand_of (step_of t a) ++ mappings_of h.kept) (hand_of u ++ now) → HandsKeep (ask_keeping h number) a (all_hands h) (hands_in (slice_set h.works place u) ++ now)
told_hands h number place t u now a found here allowed p =
    let keeps = may_keep h.kept in
    let held = waits_in keeps h.works (place_of h.works number) (work_of h.works number) in
    let is = work_there h.works number place t found here in
    subst (λ (o : Option Work). HandsKeep (asked_in keeps held o) a (all_hands h) (hands_in (slice_set h.works place u) ++ now)) (sym is)
    (told_nothing_lost h place t u now keeps held a here (subst (λ (o : Option Work). IsAnswer (asked_in keeps held o) a) is allowed) p)

pub set_there : (works : List Work) (place : ℕ) (u : Work) → place < length works → slice_get (slice_set works place u) place ≡ Some u
set_there [] place u within = absurd (omega arith)
set_there (w ∷ works) zero u within = refl
set_there (w ∷ works) (suc place) u within = set_there works place u (omega arith)

-- where it maps a frame next none is kept of its reference
pub told_unkept : (works : List Work) (number place : ℕ) (u : Work) (kept : KeptMappings) → place_of works number ≡ Some place → place < length works → MapsUnkept kept u
    → IfSome (place_of works number) (λ p. IfSome (slice_get (slice_set works place u) p) (MapsUnkept kept))
told_unkept works number place u kept found within unkept =
    let there = set_there works place u within in
    subst (λ (o : Option ℕ). IfSome o (λ p. IfSome (slice_get (slice_set works place u) p) (MapsUnkept kept))) (sym found)
    (subst (λ (o : Option Work). IfSome o (MapsUnkept kept)) (sym there) unkept)

pub told_there : (h : HeldJobs) (number place : ℕ) (t : Work) (a : BackAnswer) → place_of h.works number ≡ Some place → slice_get h.works place ≡ Some t → complete_keeping h number a ≡ with_settled h place (settled h.kept (step_of t a))
told_there h number place t a found here =
    ap (λ p. told_keeping h p (work_at h.works p) a) found ∙ ap (λ u. told_keeping h (Some place) u a) here

-- what is known of the jobs stays true
pub told_kept : (ascending : Bool) (finished noted_now : List ℕ) (done now room capacity listed listed_now size : ℕ) (works : List Work) (place number : ℕ) (t u : Work) (b : Bool) → IsKept ascending finished done room capacity listed size works → slice_get works place ≡ Some t → is_done t ≡ false → facts_of u ≡ facts_of t → b ≡ is_done u → now ≡ done_after done place b → number ≡ u.number → (ascending ≡ true → noted_now ≡ noted b number finished) → listed ≤ listed_now → IsKept ascending noted_now now room capacity listed_now size (slice_set works place u)
told_kept ascending finished noted_now done now room capacity listed listed_now size works place number t u b kept here goes same_facts test told numbered noted_so more =
    let within = slice_get_within works place t here in
    let at = get_or_from_slice_get works place t t here in
    let same : u.number ≡ (slice_index_or works place t).number = ap (λ (f : Facts). f.0) same_facts ∙ ap (λ (w : Work). w.number) (sym at) in
    let before : is_done (slice_index_or works place t) ≡ false = rw at goes in
    record {
      has_room = kept.has_room;
      has_list_room = omega (arith, kept.has_list_room, more);
      held = rw length-set kept.held;
      sized = told_sized size works place t u here same_facts kept.sized;
      in_order = λ in_order. set_ascending works place u t same (kept.in_order in_order);
      is_listed = λ in_order. noting b (is_done u) number u.number finished (done_numbers works) noted_now (done_numbers (slice_set works place u)) test numbered (kept.is_listed in_order) (noted_so in_order) (told_listed works place u t (kept.in_order in_order) within before same);
      is_done = told_done works place t u done now b here goes kept.is_done test told;
    }

-- and there is room for its number, where it is done now
pub told_room : (ascending : Bool) (finished : List ℕ) (done room capacity listed size : ℕ) (works : List Work) (place : ℕ) (t : Work) → IsKept ascending finished done room capacity listed size works → slice_get works place ≡ Some t → is_done t ≡ false → ascending ≡ true → length finished < listed
told_room ascending finished done room capacity listed size works place t kept here goes in_order =
    let within = slice_get_within works place t here in
    let at = get_or_from_slice_get works place t t here in
    let before : is_done (slice_index_or works place t) ≡ false = rw at goes in
    let fewer = listed_fewer works place t within before in
    let same : length finished ≡ length (done_numbers works) = ap length (kept.is_listed in_order) in
    omega (arith, fewer, same, kept.held, kept.has_list_room)
