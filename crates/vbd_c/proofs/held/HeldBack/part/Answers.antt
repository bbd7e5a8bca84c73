use Rattle.std.proofs.Common.{◌≡◌, ℕ, ◌==◌, false, subst, arith}
use Rattle.std.specs.Prelude.{None, IfSome}
use Rattle.std.proofs.lemmas.Bool.Decides.{nat_tests}
use Rattle.back_jobs.specs.Part.{AsksEach}
use Rattle.vbd_c.specs.Inside.{view_of}
use Rattle.vbd_c.specs.Part.{values_of, asked_after}
use Rattle.vbd_c.specs.View.{View}
use Rattle.vbd_c.proofs.PartMoves.{held_asks}
use Rattle.vbd_c.proofs.held.HeldBack.part.Goals as goal

not_zero : (job : ℕ) → (job ≡ 0 → ⊥) → (job == 0) ≡ false
not_zero job other = grind (arith, nat_tests)

pub returns-clause-each : goal.returns-clause-each
returns-clause-each c =
    subst (λ (v : View). v.told ≡ None → IfSome c.sector_part.result (λ part. AsksEach part (values_of v c.args.job) (asked_after v c.args.job))) c.self.view_is
    (held_asks (view_of c.self.inside) c.args.job c.sector_part.result (not_zero c.args.job c.if-job-eq0.false) c.sector_part.ensures.each)
