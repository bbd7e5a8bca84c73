use Rattle.std.proofs.Common.{sym, ◌∙◌}
use Rattle.back_jobs.proofs.Finding.{next_at}
use Rattle.back_jobs.proofs.jobs.Jobs.next_after.Goals as goal

pub returns : goal.returns
returns c =
    let held = c.as_slice-held.result.now in
    rw (← c.self.view_is, ← c.as_slice-held.ensures.value) (c.number_at.ensures ∙ sym (next_at held c.args.number c.first_above.result c.first_above.ensures))
