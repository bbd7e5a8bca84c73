use Rattle.std.proofs.Common.{◌≡◌, ℕ, ◌+◌, ◌*◌, ◌≤◌, ◌∷◌, [], inr, refl, sym, ap, ◌∙◌, subst, if◌then◌else◌, arith}
use Rattle.std.proofs.lemmas.Result.{err_from_is_err_and}
use Rattle.schedule_text.specs.declared.line.Line.{Line}
use Rattle.schedule_text.specs.declared.line.Line.TheVariants.{Quiet, Unsettled}
use Rattle.vbd_model.specs.World.{is_quiet}
use Rattle.split_model.specs.Happening as ring
use Rattle.vbd_model.specs.Happening.{Settles}
use Rattle.blk_front.specs.Submit.{unfinished, sectors_owed}
use Rattle.vbd_model.specs.Kind.{settle_bound, most_rounds}
use Rattle.vbd_model.proofs.Running.{ready_less, stops_first, then_goes}
use Rattle.vbd_model.proofs.Joining.{chosen_true, chosen_false, settled, settling_begun}
use Rattle.schedule_run.proofs.Moving.{said_goes}
use Rattle.schedule_run.proofs.split.Split.settle.Goals.{then-is_quiet, else-is_quiet}
use Rattle.schedule_run.proofs.split.Split.settle.Goals as goal

pub rounds_until_quiet-requires : goal.rounds_until_quiet-requires
rounds_until_quiet-requires g c =
    let sectors : c.owed-requests.result.1 ≡ sectors_owed c.args.self.now.rings.front = rw (← c.self.view_is) c.owed-requests.ensures.sectors in
    let few : c.owed-requests.result.1 ≤ 8000 = subst (λ (n : ℕ). n ≤ 8000) (sym sectors) c.requires.owing in
    ready_less _ (42 * most_rounds) _ _ (omega arith) c.requires.ready

pub returns-in_err-rounds_until_quiet : goal.returns-in_err-rounds_until_quiet
returns-in_err-rounds_until_quiet g c =
    let requests : c.owed-requests.result.0 ≡ unfinished c.args.self.now.rings.front = rw (← c.self.view_is) c.owed-requests.ensures.requests in
    let sectors : c.owed-requests.result.1 ≡ sectors_owed c.args.self.now.rings.front = rw (← c.self.view_is) c.owed-requests.ensures.sectors in
    let same : 20000 + 2000 * c.from.result + 2000 * c.owed-requests.result.1 ≡ settle_bound c.args.self.now = ap (λ n. 20000 + 2000 * n + 2000 * c.owed-requests.result.1) (c.from.ensures ∙ requests) ∙ ap (λ n. 20000 + 2000 * unfinished c.args.self.now.rings.front + 2000 * n) sectors in
    let few : c.owed-requests.result.1 ≤ 8000 = subst (λ (n : ℕ). n ≤ 8000) (sym sectors) c.requires.owing in
    let stopped = err_from_is_err_and c.from_residual.result c.from_residual.ensures.1 in
    rw (stopped.1, stopped.2) (stops_first _ _ _ _ (42 * (20000 + 2000 * c.from.result + 2000 * c.owed-requests.result.1)) (42 * most_rounds) _ _ _ (omega arith) (λ xs b. settling_begun (20000 + 2000 * c.from.result + 2000 * c.owed-requests.result.1) c.args.self.now xs same b) c.in_err-rounds_until_quiet.ensures)

pub returns : goal.returns
returns g c =
    let requests : c.owed-requests.result.0 ≡ unfinished c.args.self.now.rings.front = rw (← c.self.view_is) c.owed-requests.ensures.requests in
    let sectors : c.owed-requests.result.1 ≡ sectors_owed c.args.self.now.rings.front = rw (← c.self.view_is) c.owed-requests.ensures.sectors in
    let same : 20000 + 2000 * c.from.result + 2000 * c.owed-requests.result.1 ≡ settle_bound c.args.self.now = ap (λ n. 20000 + 2000 * n + 2000 * c.owed-requests.result.1) (c.from.ensures ∙ requests) ∙ ap (λ n. 20000 + 2000 * unfinished c.args.self.now.rings.front + 2000 * n) sectors in
    let few : c.owed-requests.result.1 ≤ 8000 = subst (λ (n : ℕ). n ≤ 8000) (sym sectors) c.requires.owing in
    let quiet = is_quiet c.rounds_until_quiet.new.self in
    let line : c.if-is_quiet.line ≡ (if is_quiet c.rounds_until_quiet.new.self then Quiet else Unsettled) = elim c.if-is_quiet.branch [
      | then-is_quiet w ↦ chosen_true quiet Quiet Unsettled c.if-is_quiet.line (sym c.is_quiet.ensures ∙ w.if-is_quiet.true) w.line-is
      | else-is_quiet w ↦ chosen_false quiet Quiet Unsettled c.if-is_quiet.line (sym c.is_quiet.ensures ∙ w.if-is_quiet.false) w.line-is
    ] in
    let said = said_goes (Settles quiet) (ring.Settles quiet) c.rounds_until_quiet.new.self (g.D.SectorDisk.seen c.rounds_until_quiet.new.disk) _ _ _ c.if-is_quiet.line refl refl refl (ap (λ (l : Line). l ∷ []) line) c.add.ensures in
    then_goes _ _ _ _ _ _ (42 * (20000 + 2000 * c.from.result + 2000 * c.owed-requests.result.1)) 0 (42 * most_rounds) _ _ _ _ (omega arith) (λ xs ys p here q. settled (20000 + 2000 * c.from.result + 2000 * c.owed-requests.result.1) c.args.self.now c.rounds_until_quiet.new.self xs ys same p here q) (λ xs ys p here q. inr (settled (20000 + 2000 * c.from.result + 2000 * c.owed-requests.result.1) c.args.self.now c.rounds_until_quiet.new.self xs ys same p here q)) c.in_ok-rounds_until_quiet.ensures said
