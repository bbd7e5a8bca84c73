use Rattle.blk_back.specs.Sound.{IsSound}
use Rattle.back_jobs.specs.Hands.{hands_in, Names}
use Rattle.blk_back.proofs.Hands.{job_names, few_hands}
use Rattle.blk_back.proofs.Keeping.{few_all_hands}
use Rattle.blk_back.proofs.back.Back.job_ask.Goals as goal

pub returns-in-None-clause-names : goal.returns-in-None-clause-names
returns-in-None-clause-names c =
    let names : Names (hands_in c.args.self.now.jobs.works) c.ask.result = rw (← c.self.view_is) c.ask.ensures.names in
    job_names c.args.self.now c.ask.result names

pub returns-in-Some-clause-few : goal.returns-in-Some-clause-few
returns-in-Some-clause-few c =
    let sound : IsSound c.args.self.now = rw (← c.self.view_is) c.self.invariant in
    few_hands c.args.self.now sound

pub returns-in-None-clause-few : goal.returns-in-None-clause-few
returns-in-None-clause-few c =
    let sound : IsSound c.args.self.now = rw (← c.self.view_is) c.self.invariant in
    few_hands c.args.self.now sound

pub returns-in-Some-clause-few_kept : goal.returns-in-Some-clause-few_kept
returns-in-Some-clause-few_kept c =
    let sound : IsSound c.args.self.now = rw (← c.self.view_is) c.self.invariant in
    few_all_hands c.args.self.now sound

pub returns-in-None-clause-few_kept : goal.returns-in-None-clause-few_kept
returns-in-None-clause-few_kept c =
    let sound : IsSound c.args.self.now = rw (← c.self.view_is) c.self.invariant in
    few_all_hands c.args.self.now sound
