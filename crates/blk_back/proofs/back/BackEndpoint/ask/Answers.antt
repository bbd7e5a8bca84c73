use Rattle.blk_back.specs.Ask.{ask_of, StaysInPage}
use Rattle.blk_back.specs.Sound.{IsSound}
use Rattle.blk_back.proofs.Hands.{names_of, few_hands}
use Rattle.blk_back.proofs.Keeping.{few_all_hands}
use Rattle.blk_back.proofs.back.BackEndpoint.ask.Goals as goal

pub returns-clause-names : goal.returns-clause-names
returns-clause-names c =
    let v = c.args.self.now in
    let sound : IsSound v = rw (← c.self.view_is) c.self.invariant in
    let within : StaysInPage (ask_of v) = rw (← c.next_ask.ensures.value) c.next_ask.ensures.within in
    rw c.next_ask.ensures.value (names_of v sound within)

pub returns-clause-few : goal.returns-clause-few
returns-clause-few c =
    let sound : IsSound c.args.self.now = rw (← c.self.view_is) c.self.invariant in
    few_hands c.args.self.now sound

pub returns-clause-few_kept : goal.returns-clause-few_kept
returns-clause-few_kept c =
    let sound : IsSound c.args.self.now = rw (← c.self.view_is) c.self.invariant in
    few_all_hands c.args.self.now sound
