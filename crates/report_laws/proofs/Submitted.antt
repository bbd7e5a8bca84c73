-- What a submission leaves of the front: it is refused and leaves all as it was, or it is accepted.
use Rattle.std.proofs.Common.{◌+◌, ◌&&◌, ℕ, Bool, true, false, not, if◌then◌else◌, List, []}
use Rattle.std.specs.Prelude.{Option, Some, None, Result, Err, nat_lt, nat_le, ◌==◌}
use Rattle.blk_base.specs.declared.config.Submission.{Submission}
use Rattle.ring_words.specs.Shape.{entries_of}
use Rattle.blk_front.specs.declared.request.Wish.{Wish}
use Rattle.blk_base.specs.declared.refusal.Refusal.{Refusal}
use Rattle.blk_base.specs.declared.refusal.Refusal.TheVariants as refusal
use Rattle.blk_front.specs.Pool.{taking}
use Rattle.blk_front.specs.Request.{is_write, named_of, frames_for}
use Rattle.blk_front.specs.View.{View}
use Rattle.blk_front.specs.Submit.{is_ready, unfinished, wish_of, most_segments, frames_taken, accepted, submit_with, submit_one, submit_of}

module _ (P : View → Type 0) (v : View) (same : P v) (taken_up : (wish : Wish) (taken : List ℕ × List Bool) → P (accepted v wish taken)) where
  either_submit : (b : Bool) (x y : Result ℕ Refusal × View) → P x.1 → P y.1 → P (if b then x else y).1
  either_submit true x y p q = p
  either_submit false x y p q = q

  with_cases : (wish : Wish) (taken : Option (List ℕ × List Bool)) → P (submit_with v wish taken).1
  with_cases wish None = same
  with_cases wish (Some taken) = taken_up wish taken

  wish_cases : (wish : Option Wish) → P (submit_one v wish).1
  wish_cases None = same
  wish_cases (Some wish) =
      let frames = taking (frames_taken wish.count) v.pool [] in
      let unless_full = if nat_le (entries_of v.shape.order) (unfinished v) then (Err refusal.Full, v) else submit_with v wish frames in
      let unless_long = if nat_lt (most_segments v.offers wish.transfer) (frames_for wish.count) then (Err refusal.Long, v) else unless_full in
      either_submit (is_write wish.transfer && v.offers.read_only) (Err refusal.ReadOnly, v) (if nat_lt v.offers.sectors (wish.sector + named_of wish.transfer wish.count) then (Err refusal.Range, v) else unless_long) same
      (either_submit (nat_lt v.offers.sectors (wish.sector + named_of wish.transfer wish.count)) (Err refusal.Range, v) unless_long same
      (either_submit (nat_lt (most_segments v.offers wish.transfer) (frames_for wish.count)) (Err refusal.Long, v) unless_full same
      (either_submit (nat_le (entries_of v.shape.order) (unfinished v)) (Err refusal.Full, v) (submit_with v wish frames) same (with_cases wish frames))))

  pub submit_cases : (job : Submission) → P (submit_of v job).1
  submit_cases job =
      let unless_unready = if not (is_ready v.stage) then (Err refusal.NotReady, v) else submit_one v (wish_of v.offers job) in
      either_submit (v.last == 4294967295) (Err refusal.Spent, v) (if v.closing then (Err refusal.Closing, v) else unless_unready) same
      (either_submit v.closing (Err refusal.Closing, v) unless_unready same
      (either_submit (not (is_ready v.stage)) (Err refusal.NotReady, v) (submit_one v (wish_of v.offers job)) same (wish_cases (wish_of v.offers job))))
