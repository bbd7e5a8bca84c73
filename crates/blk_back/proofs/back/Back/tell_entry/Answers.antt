use Rattle.std.proofs.Common.{◌≡◌, ◌∙◌, ap, sym, List, ℕ}
use Rattle.blk_back.specs.declared.stage.BackStage.TheVariants as stage
use Rattle.blk_back.specs.View.{View}
use Rattle.blk_back.proofs.EntryParts.{copied_all, left_for, entry_moves, entry_entire}
use Rattle.blk_back.proofs.back.Back.tell_entry.Goals as goal

pub returns-in-Fetch-clause-stepped : goal.returns-in-Fetch-clause-stepped
returns-in-Fetch-clause-stepped c =
    let v : View = c.args.self.now in
    let words : List ℕ = c.args.words.now in
    let here : v.stage ≡ stage.Fetch c.in-Fetch.k = sym (ap (λ (w : View). w.stage) c.self.view_is) ∙ c.in-Fetch.is in
    let more = left_for v c.in-Fetch.k words c.in-Some.rest.now c.in-Some.last.now here c.requires.part c.in-Some.ensures.cases in
    (copied_all v c.copy.new.self c.fetch.new.self c.in-Fetch.k words c.in-Some.rest.now c.in-Some.last.now here more c.in-Some.ensures.cases c.copy.ensures c.fetch.ensures).is

pub returns-in-Fetch-clause-each : goal.returns-in-Fetch-clause-each
returns-in-Fetch-clause-each c = entry_moves c.args.self.now c.args.words.now c.requires.part

pub returns-in-Fetch-clause-hands : goal.returns-in-Fetch-clause-hands
returns-in-Fetch-clause-hands c = entry_entire c.args.self.now c.fetch.new.self c.args.words.now (returns-in-Fetch-clause-stepped c) c.requires.part
