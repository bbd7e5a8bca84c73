-- What stays true of the back as its jobs keep mappings.
use Rattle.std.proofs.Common.{◌≡◌, ℕ, ◌^◌, ◌≤◌, length, refl, sym, ◌∙◌, subst, arith}
use Rattle.std.specs.Prelude.{Option, Some, None}
use Rattle.blk_base.specs.Distance.{distance_of}
use Rattle.blk_base.specs.declared.parts.Mapping.{Mapping}
use Rattle.blk_base.specs.declared.ask.BackAnswer.{BackAnswer}
use Rattle.blk_layout.specs.declared.request.RawRequest.{RawRequest}
use Rattle.back_jobs.specs.Jobs.{HeldJobs, first_mapping}
use Rattle.back_jobs.specs.Keeping.{start_keeping, complete_keeping, first_given, given_from, after_given}
use Rattle.back_jobs.proofs.Bounds.{AreFew, started_few, started_cap, told_few, told_cap, told_works, told_room, told_none, given_few, given_cap, given_none, given_works, given_over}
use Rattle.back_jobs.proofs.Hands.{few_after}
use Rattle.blk_back.specs.declared.told.BackTold.{BackTold}
use Rattle.blk_back.specs.declared.stage.BackStage.{BackStage}
use Rattle.blk_back.specs.declared.stage.BackStage.TheVariants as stage
use Rattle.blk_back.specs.View.{View}
use Rattle.blk_back.specs.Step.{unmapping_next}
use Rattle.blk_back.specs.Sound.{HasNothing, IsCounted, IsCleared, IsSound}
use Rattle.blk_back.proofs.Powers.{some_pages}

-- as many mappings are kept as may be, and as many may be as before
pub record KeepsFew (before after : HeldJobs) : Type 0 where
  pub few : AreFew after.kept
  pub cap : after.kept.cap ≡ before.kept.cap

pub started : (h new : HeldJobs) (number : ℕ) (request : RawRequest) → new ≡ start_keeping h number request → AreFew h.kept → KeepsFew h new
started h new number request e few = rw e (record { few = started_few h number request few; cap = started_cap h number request })

given_room_at : (o : Option Mapping) (h : HeldJobs) → (let after = given_from o h in after.room) ≡ h.room
given_room_at (Some m) h = refl
given_room_at None h = refl

given_few_works : (h : HeldJobs) → length (let after = after_given h in after.works) ≤ length h.works
given_few_works h = rw (given_works (first_mapping h.works) h) (few_after h.works)

abort_at : (o : Option Mapping) (v : View) → first_given v.jobs ≡ o → length v.pages ≡ 2 ^ v.shape.order → IsSound v → IsSound (record v { stage = unmapping_next o; jobs = after_given v.jobs })
abort_at None v last pages sound = record {
  order = sound.order;
  entries = sound.entries;
  room = given_room_at (first_mapping v.jobs.works) v.jobs ∙ sound.room;
  within = sound.within;
  placed = tt;
  counted = tt;
  mapped = let some = some_pages v.shape.order in omega arith;
  writable = sound.writable;
  few_pages = sound.few_pages;
  few = let fewer = given_few_works v.jobs in let few = sound.few in omega arith;
  few_kept = given_few v.jobs sound.few_kept;
  cap = rw (given_cap v.jobs) sound.cap;
  cleared = (given_over v.jobs last, given_none v.jobs last);
}
abort_at (Some m) v last pages sound = record {
  order = sound.order;
  entries = sound.entries;
  room = given_room_at (first_mapping v.jobs.works) v.jobs ∙ sound.room;
  within = sound.within;
  placed = tt;
  counted = tt;
  mapped = pages;
  writable = sound.writable;
  few_pages = sound.few_pages;
  few = let fewer = given_few_works v.jobs in let few = sound.few in omega arith;
  few_kept = given_few v.jobs sound.few_kept;
  cap = rw (given_cap v.jobs) sound.cap;
  cleared = tt;
}

-- the next mapping is given up
pub abort_sound : (v : View) (jobs : HeldJobs) (s : BackStage) (o : Option Mapping) → jobs ≡ after_given v.jobs → o ≡ first_given v.jobs → s ≡ unmapping_next o → length v.pages ≡ 2 ^ v.shape.order → IsSound v → IsSound (record v { stage = s; jobs = jobs })
abort_sound v jobs s o rest is next pages sound =
    subst (λ (t : BackStage). IsSound (record v { stage = t; jobs = jobs })) (sym next)
    (subst (λ (j : HeldJobs). IsSound (record v { stage = unmapping_next o; jobs = j })) (sym rest) (abort_at o v (sym is) pages sound))

told_nothing : (h : HeldJobs) (number : ℕ) (a : BackAnswer) → HasNothing h → HasNothing (complete_keeping h number a)
told_nothing h number a none = subst HasNothing (sym (told_none h number a none.0)) none

pub told_cleared : (s : BackStage) (h : HeldJobs) (number : ℕ) (a : BackAnswer) → IsCleared s h → IsCleared s (complete_keeping h number a)
told_cleared stage.InitWait h number a none = told_nothing h number a none
told_cleared stage.MapRing h number a none = told_nothing h number a none
told_cleared stage.Bind h number a none = told_nothing h number a none
told_cleared stage.UnmapRing h number a none = told_nothing h number a none
told_cleared stage.ClosePort h number a none = told_nothing h number a none
told_cleared stage.UnmapUnbound h number a none = told_nothing h number a none
told_cleared stage.Halted h number a none = told_nothing h number a none
told_cleared s h number a none = tt

told_by : (v : View) (number : ℕ) (a : BackAnswer) (tells : Option BackTold) → IsSound v → IsSound (record v { jobs = complete_keeping v.jobs number a; told = tells })
told_by v number a tells sound = record {
  order = sound.order;
  entries = sound.entries;
  room = told_room v.jobs number a ∙ sound.room;
  within = sound.within;
  placed = sound.placed;
  counted = subst (λ (n : ℕ). IsCounted v.stage n (distance_of v.ring.indices.prod v.ring.indices.cons)) (sym (told_works v.jobs number a)) sound.counted;
  mapped = sound.mapped;
  writable = sound.writable;
  few_pages = sound.few_pages;
  few = rw (told_works v.jobs number a) sound.few;
  few_kept = told_few v.jobs number a sound.few_kept;
  cap = rw (told_cap v.jobs number a) sound.cap;
  cleared = told_cleared v.stage v.jobs number a sound.cleared;
}

-- a job is told an answer
pub told_sound : (v : View) (jobs : HeldJobs) (number : ℕ) (a : BackAnswer) (tells : Option BackTold) → jobs ≡ complete_keeping v.jobs number a → IsSound v → IsSound (record v { jobs = jobs; told = tells })
told_sound v jobs number a tells e sound = subst (λ (j : HeldJobs). IsSound (record v { jobs = j; told = tells })) (sym e) (told_by v number a tells sound)
