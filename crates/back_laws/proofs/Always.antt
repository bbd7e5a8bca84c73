-- What is true of a back at every moment of a run.
use Rattle.std.proofs.Common.{◌≡◌, ℕ, ◌^◌, ◌<◌, List, [], ◌∷◌, ◌++◌, length, refl, sym, ◌∙◌, subst, arith}
use Rattle.std.specs.Prelude.{None}
use Rattle.std.proofs.lemmas.List.{append-nil, append_assoc}
use Rattle.blk_base.specs.Distance.{distance_of}
use Rattle.ring_words.specs.Shape.{entries_of}
use Rattle.segment_list.specs.declared.verdict.DiskInfo.{DiskInfo}
use Rattle.blk_base.specs.declared.ask.BackAsk.{BackAsk}
use Rattle.blk_base.specs.declared.halt.Halt.{Halt}
use Rattle.back_jobs.specs.Work.{IsAnswer as IsJobAnswer}
use Rattle.blk_back.specs.declared.stage.BackStage.{BackStage}
use Rattle.blk_back.specs.declared.stage.BackStage.TheVariants as stage
use Rattle.blk_back.specs.View.{View, new_of}
use Rattle.blk_back.specs.Step.{step_of, job_step, attaches, halts}
use Rattle.blk_back.specs.Keeping.{KeepsNone}
use Rattle.blk_back.specs.Sound.{IsPlaced, IsCounted}
use Rattle.blk_back.proofs.Hands.{step_kept_at, halted_kept}
use Rattle.blk_back.proofs.Plain.{plain_step, plain_halts, plain_job_ask, plain_job_step}
use Rattle.back_laws.specs.BackLeft.{IsSeen}
use Rattle.back_laws.specs.Happening.{Happening, Answers, AnswersJob, TakesTold, Attaches, Halts, happened, MayHappen, after, AllMayHappen}
use Rattle.back_laws.specs.Run.{BackRun, begins, now}
use Rattle.back_laws.specs.Activity.{Asked}
use Rattle.back_laws.specs.Ledger.{JobAsked, job_at, job_asks}
use Rattle.back_laws.specs.Life.{own_at, own_asks, called_at, called}
use Rattle.back_laws.proofs.Calls.{attaches_cases}
use Rattle.back_laws.proofs.Held.{IsBack, back_new, back_step, untold, back_attached, back_halted, job_step_kept}
use Rattle.back_laws.proofs.Room.{HasRoom, IsRoomAt, back_room, halted_room, attached_room, job_room}
use Rattle.back_laws.proofs.Narrow.{IsFew, answered_few, halts_few, attached_few}
use Rattle.back_laws.proofs.Lives.{KnowsAt, Knows}
use Rattle.back_laws.proofs.Knowing.{new_knows, answered_knows, job_knows, taken_knows, attached_knows, halts_knows}

pub record Always (start : ℕ) (trace : List JobAsked) (own : List Asked) (calls : List Halt) (v : View) : Type 0 where
  pub room : HasRoom v
  pub back : IsBack v
  pub none : KeepsNone v
  pub few : IsFew v
  pub knows : Knows start trace own calls v

pub always_new : (start : ℕ) (info : DiskInfo) → start < 2 ^ 32 → Always start [] [] [] (new_of start info)
always_new start info low = record {
  room = record { entries = omega arith; prod = low; cons = low; room = refl };
  back = back_new start info;
  none = refl;
  few = record { order = omega arith; room = refl; pages = omega arith };
  knows = new_knows start info;
}

-- nothing more was asked of a job or of the back, or called for
same_trace : (start : ℕ) (trace : List JobAsked) (own : List Asked) (calls : List Halt) (v : View) → Knows start trace own calls v → Knows start (trace ++ []) own calls v
same_trace start trace own calls v k = subst (λ (l : List JobAsked). Knows start l own calls v) (sym (append-nil trace)) k

same_own : (start : ℕ) (trace : List JobAsked) (own : List Asked) (calls : List Halt) (v : View) → Knows start trace own calls v → Knows start trace (own ++ []) calls v
same_own start trace own calls v k = subst (λ (l : List Asked). Knows start trace l calls v) (sym (append-nil own)) k

same_calls : (start : ℕ) (trace : List JobAsked) (own : List Asked) (calls : List Halt) (v : View) → Knows start trace own calls v → Knows start trace own (calls ++ []) v
same_calls start trace own calls v k = subst (λ (l : List Halt). Knows start trace own l v) (sym (append-nil calls)) k

same_all : (start : ℕ) (trace : List JobAsked) (own : List Asked) (calls : List Halt) (v : View) → Knows start trace own calls v → Knows start (trace ++ []) (own ++ []) (calls ++ []) v
same_all start trace own calls v k = same_trace start trace (own ++ []) (calls ++ []) v (same_own start trace own (calls ++ []) v (same_calls start trace own calls v k))

pub always_happened : (start : ℕ) (trace : List JobAsked) (own : List Asked) (calls : List Halt) (v : View) (h : Happening) → MayHappen h v → Always start trace own calls v
    → Always start (trace ++ job_at h v) (own ++ own_at h v) (calls ++ called_at h) (happened h v)
always_happened start trace own calls v (Answers given) may a = record {
  room = back_room v given a.room;
  back = subst IsBack (plain_step v given a.none) (back_step v given may.0 a.back);
  none = step_kept_at v.stage v given ∙ a.none;
  few = answered_few v given a.back.mapped a.few;
  knows = same_trace start trace _ (calls ++ []) (step_of v given) (same_calls start trace _ calls (step_of v given) (answered_knows start trace own calls v given a.room a.back.mapped a.knows may.0));
}
always_happened start trace own calls v (AnswersJob number given) may a = record {
  room = job_room v number given a.room;
  back = subst IsBack (plain_job_step v number given a.none) (job_step_kept v number given (subst (λ (asked : BackAsk). IsJobAnswer asked given) (sym (plain_job_ask v number a.none)) may.0) a.back);
  none = a.none;
  few = record { order = a.few.order; room = a.few.room; pages = a.few.pages };
  knows = same_own start _ own (calls ++ []) (job_step v number given) (same_calls start _ own calls (job_step v number given) (job_knows start trace own calls v number given may.0 a.knows));
}
always_happened start trace own calls v TakesTold may a = record {
  room = record { entries = a.room.entries; prod = a.room.prod; cons = a.room.cons; room = a.room.room };
  back = untold v a.back;
  none = a.none;
  few = record { order = a.few.order; room = a.few.room; pages = a.few.pages };
  knows = same_all start trace own calls (record v { told = None }) (taken_knows start trace own calls v a.knows);
}
always_happened start trace own calls v (Attaches shape grefs port) may a = record {
  room = attaches_cases (λ (w : View). HasRoom w) shape grefs port v (λ may. attached_room shape grefs port v may a.room) a.room;
  back = attaches_cases (λ (w : View). IsBack w) shape grefs port v (λ may. back_attached shape grefs port v may a.back) a.back;
  none = attaches_cases (λ (w : View). KeepsNone w) shape grefs port v (λ may. a.none) a.none;
  few = attached_few shape grefs port v a.few;
  knows = same_all start trace own calls (attaches shape grefs port v) (attached_knows start trace own calls v shape grefs port a.knows);
}
always_happened start trace own calls v (Halts why) may a = record {
  room = halted_room why v a.room;
  back = subst IsBack (plain_halts why v a.none) (back_halted why v a.back);
  none = halted_kept why v ∙ a.none;
  few = halts_few why v a.few;
  knows = same_trace start trace (own ++ []) (calls ++ why ∷ []) (halts why v) (same_own start trace own (calls ++ why ∷ []) (halts why v) (halts_knows start trace own calls v why a.knows));
}

pub always_after : (hs : List Happening) (start : ℕ) (trace : List JobAsked) (own : List Asked) (calls : List Halt) (v : View) → AllMayHappen hs v → Always start trace own calls v
    → Always start (trace ++ job_asks hs v) (own ++ own_asks hs v) (calls ++ called hs) (after hs v)
always_after [] start trace own calls v may a = record { room = a.room; back = a.back; none = a.none; few = a.few; knows = same_all start trace own calls v a.knows }
always_after (h ∷ hs) start trace own calls v may a =
    let one = always_happened start trace own calls v h may.0 a in
    let all = always_after hs start (trace ++ job_at h v) (own ++ own_at h v) (calls ++ called_at h) (happened h v) may.1 one in
    rw (← append_assoc trace (job_at h v) (job_asks hs (happened h v)), ← append_assoc own (own_at h v) (own_asks hs (happened h v)), ← append_assoc calls (called_at h) (called hs)) all

pub always : (r : BackRun) → Always r.start (job_asks r.happenings (begins r)) (own_asks r.happenings (begins r)) (called r.happenings) (now r)
always r = always_after r.happenings r.start [] [] [] (begins r) r.may (always_new r.start r.info r.narrow)

-- what the crate's own invariant says of a fetch
few_at : (s : BackStage) (works waiting most : ℕ) → IsRoomAt s works waiting most → IsCounted s works waiting
few_at stage.InitWait works waiting most r = r
few_at (stage.Fetch k) works waiting most r = r.0
few_at (stage.ReplyHigh reply) works waiting most r = r.0
few_at (stage.ReplyLast reply) works waiting most r = r.0
few_at (stage.Producer reply) works waiting most r = r.0
few_at (stage.Abort m) works waiting most r = tt
few_at stage.UnmapRing works waiting most r = tt
few_at stage.ClosePort works waiting most r = tt
few_at stage.UnmapUnbound works waiting most r = tt
few_at stage.Halted works waiting most r = tt
few_at s works waiting most r = r.0

placed_at : (s : BackStage) (start : ℕ) (trace : List JobAsked) (own : List Asked) (calls : List Halt) (v : View) → v.ring.indices.entries ≡ entries_of v.shape.order → KnowsAt s start trace own calls v
    → IsRoomAt s (length v.jobs.works) (distance_of v.ring.indices.prod v.ring.indices.cons) v.ring.indices.entries → IsPlaced s v.shape (length v.ring.entry) (distance_of v.ring.indices.prod v.ring.indices.cons)
placed_at (stage.Fetch k) start trace own calls v e knows room = (knows.0.2, knows.0.1, subst (λ (n : ℕ). distance_of v.ring.indices.prod v.ring.indices.cons < n) e room.1)
placed_at s start trace own calls v e knows room = tt

seen_at : (s : BackStage) (start : ℕ) (trace : List JobAsked) (own : List Asked) (calls : List Halt) (v : View) → KnowsAt s start trace own calls v → IsSeen s v
seen_at (stage.Fetch k) start trace own calls v knows = let some = knows.0.0 in omega arith
seen_at s start trace own calls v knows = tt

pub is_seen : (r : BackRun) → IsSeen (now r).stage (now r)
is_seen r = let a = always r in seen_at (now r).stage r.start (job_asks r.happenings (begins r)) (own_asks r.happenings (begins r)) (called r.happenings) (now r) a.knows.at

pub low_cons : (r : BackRun) → (now r).ring.indices.cons < 2 ^ 32
low_cons r = (always r).room.cons

pub is_placed : (r : BackRun) → IsPlaced (now r).stage (now r).shape (length (now r).ring.entry) (distance_of (now r).ring.indices.prod (now r).ring.indices.cons)
is_placed r = let a = always r in placed_at (now r).stage r.start (job_asks r.happenings (begins r)) (own_asks r.happenings (begins r)) (called r.happenings) (now r) a.knows.entries a.knows.at a.room.room
