-- A submission keeps the front's numbers within the widths of the grammar.
use Rattle.std.proofs.Common.{◌≡◌, ℕ, ◌≤◌, ◌+◌, ◌^◌, ◌<◌, Bool, true, false, not, if◌then◌else◌, List, [], refl, arith}
use Rattle.std.specs.Prelude.{◌&&◌, max, min, Option, Some, None, Result, Err, nat_lt, nat_le, ◌==◌}
use Rattle.std.proofs.lemmas.Bool.Decides.{nat_tests}
use Rattle.std.proofs.lemmas.List.Elements.{All-push}
use Rattle.blk_base.specs.declared.config.Submission.{Submission}
use Rattle.blk_base.specs.declared.config.Submission.TheVariants as submissions
use Rattle.ring_words.specs.Shape.{entries_of}
use Rattle.schedule_text.specs.declared.line.Line.TheVariants as lines
use Rattle.schedule_text.specs.Range.{IsInRange, SubmissionHasWidths}
use Rattle.blk_front.specs.declared.request.Wish.{Wish}
use Rattle.blk_front.specs.declared.request.Transfer.{Transfer}
use Rattle.blk_front.specs.declared.request.Transfer.TheVariants as transfer
use Rattle.blk_base.specs.declared.refusal.Refusal.{Refusal}
use Rattle.blk_base.specs.declared.refusal.Refusal.TheVariants as refusal
use Rattle.blk_front.specs.Pool.{taking}
use Rattle.blk_front.specs.Request.{is_write, named_of, frames_for, may_be_indirect}
use Rattle.blk_front.specs.View.{View}
use Rattle.blk_front.specs.Submit.{is_ready, unfinished, wished, wish_of, most_segments, frames_taken, request_with, submit_with, submit_one, submit_of}
use Rattle.blk_front.specs.declared.state.Offers.{Offers}
use Rattle.split_model.specs.Happening.{submit_line}
use Rattle.machine_pipeline.specs.Allowed.{IsServable}
use Rattle.report_laws.proofs.Told.{good}
use Rattle.report_laws.proofs.FrontNumbers.{IsAsked, IsFit}

-- the answer to a submission is in range, and the numbers stay fit
abbrev pub IsSubmitted : Submission → Result ℕ Refusal × View → Type 0
IsSubmitted job x = IsInRange (submit_line job x.0) × IsFit x.1

either_submit : (job : Submission) (b : Bool) (x y : Result ℕ Refusal × View) → (b ≡ true → IsSubmitted job x) → (b ≡ false → IsSubmitted job y) → IsSubmitted job (if b then x else y)
either_submit job true x y p q = p refl
either_submit job false x y p q = q refl

refused : (v : View) (job : Submission) (why : Refusal) → IsFit v → IsSubmitted job (Err why, v)
refused v job why f = (good (lines.Refuse why) tt refl, f)

accepted_fits : (v : View) (job : Submission) (wish : Wish) (frames : Option (List ℕ × List Bool)) → v.last + 1 < 2 ^ 32 → wish.sector < 2 ^ 64 → wish.count ≤ 7680 → named_of wish.transfer wish.count < 2 ^ 32 → SubmissionHasWidths job → IsFit v → IsSubmitted job (submit_with v wish frames)
accepted_fits v job wish None last sector few named widths f = refused v job refusal.Buffers f
accepted_fits v job wish (Some taken) last sector few named widths f =
    let k = f.0 in (
      good (lines.Submit (v.last + 1) job) (omega arith, widths) refl,
      (
        record {
          begins = k.begins;
          sized = k.sized;
          given = last;
          asked = All-push IsAsked v.requests (request_with v wish taken.0) k.asked (record { number = last; sector = sector; few = few; named = named });
          ends = k.ends;
          written = k.written;
          read = k.read;
        },
        f.1,
        f.2,
      ),
    )

-- no request has more segments
few_segments : (offers : Offers) (way : Transfer) → most_segments offers way ≤ 960
few_segments offers way = by_way (may_be_indirect way)
  where
    by_way : (b : Bool) → (if b then max 11 (min 960 offers.indirect) else 11) ≤ 960
    by_way true = omega arith
    by_way false = omega arith

wish_fits : (v : View) (job : Submission) (wish : Wish) → (wish.count ≤ 7680 → named_of wish.transfer wish.count < 2 ^ 32) → (wish.sector < 2 ^ 64 → wish.count ≤ 7680 → SubmissionHasWidths job) → v.last + 1 < 2 ^ 32 → IsFit v → IsSubmitted job (submit_one v (Some wish))
wish_fits v job wish named widths last f =
    let sized = f.0.sized in
    let frames = taking (frames_taken wish.count) v.pool [] in
    let unless_full = if nat_le (entries_of v.shape.order) (unfinished v) then (Err refusal.Full, v) else submit_with v wish frames in
    let unless_long = if nat_lt (most_segments v.offers wish.transfer) (frames_for wish.count) then (Err refusal.Long, v) else unless_full in
    let unless_past = if nat_lt v.offers.sectors (wish.sector + named_of wish.transfer wish.count) then (Err refusal.Range, v) else unless_long in
    either_submit job (is_write wish.transfer && v.offers.read_only) (Err refusal.ReadOnly, v) unless_past (λ t. refused v job refusal.ReadOnly f)
    (λ free. either_submit job (nat_lt v.offers.sectors (wish.sector + named_of wish.transfer wish.count)) (Err refusal.Range, v) unless_long (λ t. refused v job refusal.Range f)
    (λ range. either_submit job (nat_lt (most_segments v.offers wish.transfer) (frames_for wish.count)) (Err refusal.Long, v) unless_full (λ t. refused v job refusal.Long f)
    (λ long. either_submit job (nat_le (entries_of v.shape.order) (unfinished v)) (Err refusal.Full, v) (submit_with v wish frames) (λ t. refused v job refusal.Full f)
    (λ t. accepted_fits v job wish frames last (low (named_of wish.transfer wish.count) range sized) (short long) (named (short long)) (widths (low (named_of wish.transfer wish.count) range sized) (short long)) f))))
  where
    low : (n : ℕ) → nat_lt v.offers.sectors (wish.sector + n) ≡ false → v.offers.sectors < 2 ^ 64 → wish.sector < 2 ^ 64
    low n range sized = let fits : wish.sector + n ≤ v.offers.sectors = grind (arith, nat_tests) in omega arith

    short : nat_lt (most_segments v.offers wish.transfer) (frames_for wish.count) ≡ false → wish.count ≤ 7680
    short long =
        let most = few_segments v.offers wish.transfer in
        let few : frames_for wish.count ≤ 960 = grind (arith, nat_tests, most) in
        omega arith

-- where the back doesn't serve it, it is refused
wished_fits : (v : View) (job : Submission) (offered : Bool) (wish : Wish) → IsFit v → IsSubmitted job (submit_one v (Some wish)) → IsSubmitted job (submit_one v (wished offered wish))
wished_fits v job true wish f is = is
wished_fits v job false wish f is = refused v job refusal.Unsupported f

pub submit_fits : (v : View) (job : Submission) → IsServable job → IsFit v → IsSubmitted job (submit_of v job)
submit_fits v job may f =
    let unless_unready = if not (is_ready v.stage) then (Err refusal.NotReady, v) else submit_one v (wish_of v.offers job) in
    either_submit job (v.last == 4294967295) (Err refusal.Spent, v) (if v.closing then (Err refusal.Closing, v) else unless_unready) (λ t. refused v job refusal.Spent f)
    (λ unspent. either_submit job v.closing (Err refusal.Closing, v) unless_unready (λ t. refused v job refusal.Closing f)
    (λ unclosing. either_submit job (not (is_ready v.stage)) (Err refusal.NotReady, v) (submit_one v (wish_of v.offers job)) (λ t. refused v job refusal.NotReady f) (λ t. by_job job may (one_more v.last f.0.given unspent))))
  where
    one_more : (last : ℕ) → last < 2 ^ 32 → (last == 4294967295) ≡ false → last + 1 < 2 ^ 32
    one_more last given unspent = grind (arith, nat_tests)

    by_job : (job : Submission) → IsServable job → v.last + 1 < 2 ^ 32 → IsSubmitted job (submit_one v (wish_of v.offers job))
    by_job (submissions.Read sector count) may last =
        wish_fits v (submissions.Read sector count) (record { sector = sector; count = count; transfer = transfer.Read }) (λ few. omega arith) (λ low few. (low, (omega arith, omega arith))) last f
    by_job (submissions.Write sector count tag) may last =
        wish_fits v (submissions.Write sector count tag) (record { sector = sector; count = count; transfer = transfer.Write tag }) (λ few. omega arith) (λ low few. (low, (let some = may.0 in omega arith, omega arith), may.1)) last f
    by_job (submissions.Barrier sector count tag) may last =
        let wish : Wish = record { sector = sector; count = count; transfer = transfer.Barrier tag } in
        wished_fits v (submissions.Barrier sector count tag) v.offers.barrier wish f (wish_fits v (submissions.Barrier sector count tag) wish (λ few. omega arith) (λ low few. (low, (let some = may.0 in omega arith, omega arith), may.1)) last f)
    by_job submissions.Flush may last =
        let wish : Wish = record { sector = 0; count = 0; transfer = transfer.Flush } in
        wished_fits v submissions.Flush v.offers.flush wish f (wish_fits v submissions.Flush wish (λ few. omega arith) (λ low few. tt) last f)
    by_job (submissions.Discard sector count) may last =
        let wish : Wish = record { sector = sector; count = 0; transfer = transfer.Discard count } in
        wished_fits v (submissions.Discard sector count) v.offers.discard wish f (wish_fits v (submissions.Discard sector count) wish (λ few. may.1) (λ low few. (low, (let some = may.0 in omega arith, may.1))) last f)
