use Rattle.std.proofs.Common.{◌*◌, ◌<◌, ◌≤◌, ◌^◌, refl, sym, subst, arith}
use Rattle.vbd_model.specs.Happening.{Notifies}
use Rattle.vbd_model.specs.Kind.{most_rounds}
use Rattle.vbd_model.proofs.Running.{goes_as, goes_one}
use Rattle.schedule_text.proofs.Adding.{gained_none}
use Rattle.schedule_run.specs.Machine.{Run}
use Rattle.schedule_run.proofs.Within.{runs_on, runs_one}
use Rattle.schedule_run.proofs.Counts.{back_few, turn_few, reached_sectors}
use Rattle.schedule_run.proofs.machine.Machine.do_event.Goals as goal

pub invariant_of-self : goal.invariant_of-self
invariant_of-self g c =
    runs_on _ _ 0 _ _ _ c.self.inside.events _ (omega arith) (c.submit.ensures.goes (g.D.SectorDisk.seen c.args.disk.now)) c.self.view_is c.requires.few c.self.invariant

pub invariant_of-self-in-Look : goal.invariant_of-self-in-Look
invariant_of-self-in-Look g c =
    runs_on _ _ 0 _ _ _ c.self.inside.events _ (omega arith) (c.look.ensures (g.D.SectorDisk.seen c.args.disk.now)) c.self.view_is c.requires.few c.self.invariant

pub returns-in-Submit-clause-goes : goal.returns-in-Submit-clause-goes
returns-in-Submit-clause-goes g c =
    rw (c.in-Submit.is, ← c.self.view_is) (goes_as _ _ _ _ 0 (10 ^ 10) _ _ _ (omega arith) (λ hs k. (k, c.submit.ensures.widths)) (λ hs k. (k, c.submit.ensures.widths)) (c.submit.ensures.goes (g.D.SectorDisk.seen c.args.disk.now)))

pub invariant_of-self-in-Front : goal.invariant_of-self-in-Front
invariant_of-self-in-Front g c =
    runs_on _ _ 0 _ _ _ c.self.inside.events _ (omega arith) (c.front_moves.ensures (g.D.SectorDisk.seen c.args.disk.now)) c.self.view_is c.requires.few c.self.invariant

pub returns-in-Front-clause-goes : goal.returns-in-Front-clause-goes
returns-in-Front-clause-goes g c = rw (c.in-Front.is, ← c.self.view_is) (goes_as _ _ _ _ 0 (10 ^ 10) _ _ _ (omega arith) (λ hs k. k) (λ hs k. k) (c.front_moves.ensures (g.D.SectorDisk.seen c.args.disk.now)))

pub returns-in-Settle-clause-goes : goal.returns-in-Settle-clause-goes
returns-in-Settle-clause-goes g c = rw (c.in-Settle.is, ← c.self.view_is) (goes_as _ _ _ _ (42 * most_rounds) (10 ^ 10) _ _ _ (omega arith) (λ hs k. k) (λ hs k. k) c.settle.ensures)

pub returns-in-Look-clause-goes : goal.returns-in-Look-clause-goes
returns-in-Look-clause-goes g c = rw (c.in-Look.is, ← c.self.view_is) (goes_as _ _ _ _ 0 (10 ^ 10) _ _ _ (omega arith) (λ hs k. k) (λ hs k. k) (c.look.ensures (g.D.SectorDisk.seen c.args.disk.now)))

pub returns-in-Poke-clause-goes : goal.returns-in-Poke-clause-goes
returns-in-Poke-clause-goes g c =
    rw (c.in-Poke.is, ← c.self.view_is) (goes_as _ _ _ _ 0 (10 ^ 10) _ _ _ (omega arith) (λ hs k. (k, c.poke.ensures.small)) (λ hs k. (k, c.poke.ensures.small)) (c.poke.ensures.goes (g.D.SectorDisk.seen c.args.disk.now)))

pub returns-in-Dump-clause-goes : goal.returns-in-Dump-clause-goes
returns-in-Dump-clause-goes g c = rw (c.in-Dump.is, ← c.self.view_is) (goes_as _ _ _ _ 0 (10 ^ 10) _ _ _ (omega arith) (λ hs k. k) (λ hs k. k) (c.dump.ensures (g.D.SectorDisk.seen c.args.disk.now)))

pub invariant_of-self-in-Poke : goal.invariant_of-self-in-Poke
invariant_of-self-in-Poke g c =
    runs_on _ _ 0 _ _ _ c.self.inside.events _ (omega arith) (c.poke.ensures.goes (g.D.SectorDisk.seen c.args.disk.now)) c.self.view_is c.requires.few c.self.invariant

pub returns-in-Notify-clause-goes : goal.returns-in-Notify-clause-goes
returns-in-Notify-clause-goes g c =
    rw (c.in-Notify.is, ← c.self.view_is) (goes_one _ _ (10 ^ 10) (Notifies c.in-Notify.at) _ _ _ refl refl c.notify.ensures (rw c.notify.ensures (omega arith)) (rw c.notify.ensures refl) (_, refl, refl) (gained_none _))

pub invariant_of-self-in-Close : goal.invariant_of-self-in-Close
invariant_of-self-in-Close g c =
    runs_on _ _ 0 _ _ _ c.self.inside.events _ (omega arith) (c.close.ensures (g.D.SectorDisk.seen c.args.disk.now)) c.self.view_is c.requires.few c.self.invariant

pub returns-in-Close-clause-goes : goal.returns-in-Close-clause-goes
returns-in-Close-clause-goes g c = rw (c.in-Close.is, ← c.self.view_is) (goes_as _ _ _ _ 0 (10 ^ 10) _ _ _ (omega arith) (λ hs k. k) (λ hs k. k) (c.close.ensures (g.D.SectorDisk.seen c.args.disk.now)))

pub invariant_of-self-in-Back : goal.invariant_of-self-in-Back
invariant_of-self-in-Back g c =
    let short : c.in-Back.count ≤ 1000000 = back_few c.args.event c.in-Back.count c.requires.allowed c.in-Back.is in
    runs_on _ _ (41 * c.in-Back.count) _ _ _ c.self.inside.events _ (omega (arith, short)) c.back_moves.ensures c.self.view_is c.requires.few c.self.invariant

pub invariant_of-self-in-Job : goal.invariant_of-self-in-Job
invariant_of-self-in-Job g c =
    runs_on _ _ 0 _ _ _ c.self.inside.events _ (omega arith) c.job_moves.ensures c.self.view_is c.requires.few c.self.invariant

pub invariant_of-self-in-Turn : goal.invariant_of-self-in-Turn
invariant_of-self-in-Turn g c =
    let short : c.in-Turn.count ≤ 1000000 = turn_few c.args.event c.in-Turn.count c.requires.allowed c.in-Turn.is in
    runs_on _ _ (42 * c.in-Turn.count) _ _ _ c.self.inside.events _ (omega (arith, short)) c.turn.ensures c.self.view_is c.requires.few c.self.invariant

pub settle-requires-clause-owing : goal.settle-requires-clause-owing
settle-requires-clause-owing g c = reached_sectors c.self.inside.split c.self.invariant.reached

pub invariant_of-self-in-Settle : goal.invariant_of-self-in-Settle
invariant_of-self-in-Settle g c =
    runs_on _ _ (42 * most_rounds) _ _ _ c.self.inside.events _ (omega arith) c.settle.ensures c.self.view_is c.requires.few c.self.invariant

pub invariant_of-self-in-Notify : goal.invariant_of-self-in-Notify
invariant_of-self-in-Notify g c =
    let few : c.self.inside.events < 10 ^ 9 = subst (λ (m : Run). m.events < 10 ^ 9) (sym c.self.view_is) c.requires.few in
    runs_one (Notifies c.in-Notify.at) c.self.inside.split c.notify.new.self c.self.inside.events few c.notify.ensures (rw c.notify.ensures (omega arith)) c.self.invariant

pub invariant_of-self-in-Key : goal.invariant_of-self-in-Key
invariant_of-self-in-Key g c =
    runs_on _ _ 0 _ _ _ c.self.inside.events _ (omega arith) (c.overwrite_key.ensures (g.D.SectorDisk.seen c.args.disk.now)) c.self.view_is c.requires.few c.self.invariant

pub returns-in-Key-clause-goes : goal.returns-in-Key-clause-goes
returns-in-Key-clause-goes g c = rw (c.in-Key.is, ← c.self.view_is) (goes_as _ _ _ _ 0 (10 ^ 10) _ _ _ (omega arith) (λ hs k. k) (λ hs k. k) (c.overwrite_key.ensures (g.D.SectorDisk.seen c.args.disk.now)))

pub invariant_of-self-in-Suspend : goal.invariant_of-self-in-Suspend
invariant_of-self-in-Suspend g c =
    runs_on _ _ 0 _ _ _ c.self.inside.events _ (omega arith) (c.suspend.ensures (g.D.SectorDisk.seen c.args.disk.now)) c.self.view_is c.requires.few c.self.invariant

pub returns-in-Suspend-clause-goes : goal.returns-in-Suspend-clause-goes
returns-in-Suspend-clause-goes g c = rw (c.in-Suspend.is, ← c.self.view_is) (goes_as _ _ _ _ 0 (10 ^ 10) _ _ _ (omega arith) (λ hs k. k) (λ hs k. k) (c.suspend.ensures (g.D.SectorDisk.seen c.args.disk.now)))
