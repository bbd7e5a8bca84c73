use Rattle.std.proofs.Common.{◌≡◌, ◌≤◌, ◌&&◌, true, refl, arith}
use Rattle.std.specs.Prelude.{nat_le, ◌==◌}
use Rattle.std.proofs.lemmas.Bool.Decides.{nat_tests}
use Rattle.vbd_laws.proofs.Fit.{fit_start}
use Rattle.schedule_run.proofs.split.Split.new.Goals as goal

-- both ends and what lies under them are those of the machine at its start
pub invariant_of-result : goal.invariant_of-result
invariant_of-result c = rw (c.in_ok-new.ensures, c.in_ok-new-2.ensures, c.in_ok-new-3.ensures) (refl, fit_start c.args.config.now (few c.requires))
  where
    few : ((c.args.config.now.persistent == 0) && nat_le c.args.config.now.indirect 960) ≡ true → c.args.config.now.indirect ≤ 960
    few h = grind (arith, nat_tests)
