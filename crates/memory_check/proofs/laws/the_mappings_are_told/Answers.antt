use Rattle.std.proofs.Common.{◌==◌, ◌&&◌, not}
use Rattle.grant_table.specs.Entry.{is_for_writing}
use Rattle.report_rules.specs.declared.standing.Standing.{Standing}
use Rattle.memory_check.proofs.Told.{sees_all}
use Rattle.memory_check.proofs.laws.the_mappings_are_told.Goals as goal

pub returns-clause-found : goal.returns-clause-found
returns-clause-found c before obeys number = (sees_all before obeys).mapped number

pub returns-clause-others : goal.returns-clause-others
returns-clause-others c before obeys gref number = (sees_all before obeys).counted (λ (s : Standing). (s.gref == gref) && not (s.number == number))

pub returns-clause-writers : goal.returns-clause-writers
returns-clause-writers c before obeys gref number = (sees_all before obeys).counted (λ (s : Standing). (s.gref == gref) && is_for_writing s.mode && not (s.number == number))
