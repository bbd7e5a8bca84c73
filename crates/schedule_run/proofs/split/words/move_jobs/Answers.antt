use Rattle.std.proofs.Common.{◌≡◌, ◌∙◌, ℕ, refl, sym, ap}
use Rattle.hypervisor.specs.Hypervisor.{Hypervisor}
use Rattle.blk_back.specs.View as ring
use Rattle.blk_back.specs.Part.{job_part, job_steps}
use Rattle.split_model.proofs.SafeGrowth.{next_above}
use Rattle.vbd_back.specs.View.{View, both}
use Rattle.vbd_back.specs.Part as backend_part
use Rattle.round_laws.specs.Movers.{job_answers}
use Rattle.round_laws.proofs.Moving.{moved_none, next_job, all_moved, ring_steps}
use Rattle.schedule_run.proofs.split.words.move_jobs.Goals as goal

pub loop-number-init : goal.loop-number-init
loop-number-init c = record { moved = moved_none _ _ _ c.requires.may; bus = refl; hands = refl }

pub move_job-requires-clause-few : goal.move_job-requires-clause-few
move_job-requires-clause-few c =
    let one = next_job c.args.count c.args.under.now c.args.back.now.ring c.loop-number.last c.loop-number.back.ring c.loop-number.under c.in-Some.number c.requires.may.unhalted c.requires.may.told c.loop-number.invariant.moved (sym c.in-Some.ensures.value) in
    one.few

pub loop-number-smaller : goal.loop-number-smaller
loop-number-smaller c =
    let one = next_job c.args.count c.args.under.now c.args.back.now.ring c.loop-number.last c.loop-number.back.ring c.loop-number.under c.in-Some.number c.requires.may.unhalted c.requires.may.told c.loop-number.invariant.moved (sym c.in-Some.ensures.value) in
    next_above c.args.back.now.ring c.loop-number.last c.in-Some.number one.first

-- a job's answers are to its end of the ring
stepped : (n number : ℕ) (b c : View) (u : Hypervisor) → c ≡ backend_part.job_steps b number (job_answers u (job_part b.ring number) n) → c ≡ both (job_steps b.ring number (job_answers u (job_part b.ring number) n)) b.bus
stepped n number b c u is = is ∙ ring_steps number (job_answers u (job_part b.ring number) n) b

pub loop-number-preserved : goal.loop-number-preserved
loop-number-preserved c =
    let one = next_job c.args.count c.args.under.now c.args.back.now.ring c.loop-number.last c.loop-number.back.ring c.loop-number.under c.in-Some.number c.requires.may.unhalted c.requires.may.told c.loop-number.invariant.moved (sym c.in-Some.ensures.value) in
    let on = stepped c.args.count c.in-Some.number c.loop-number.back c.move_job.new.back c.loop-number.under c.move_job.ensures.back in
    record {
      moved = one.on c.move_job.new.back.ring c.move_job.new.under (ap (λ (v : View). v.ring) on) c.move_job.ensures.under;
      bus = ap (λ (v : View). v.bus) on ∙ c.loop-number.invariant.bus;
      hands = c.move_job.ensures.hands ∙ c.loop-number.invariant.hands;
    }

pub returns-clause-back : goal.returns-clause-back
returns-clause-back c =
    let all = all_moved c.args.count c.args.under.now c.args.back.now.ring c.loop-number.last c.loop-number.back.ring c.loop-number.under c.requires.may.unhalted c.requires.may.told c.loop-number.invariant.moved (sym c.in_default.ensures.value) in
    ap (λ (r : ring.View). both r c.loop-number.back.bus) all.back ∙ ap (both _) c.loop-number.invariant.bus

pub returns-clause-under : goal.returns-clause-under
returns-clause-under c =
    let all = all_moved c.args.count c.args.under.now c.args.back.now.ring c.loop-number.last c.loop-number.back.ring c.loop-number.under c.requires.may.unhalted c.requires.may.told c.loop-number.invariant.moved (sym c.in_default.ensures.value) in
    all.under
