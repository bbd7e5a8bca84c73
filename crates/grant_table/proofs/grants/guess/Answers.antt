use Rattle.std.proofs.Common.{◌+◌, ◌-◌, ◌%◌, length}
use Rattle.grant_table.proofs.Place.{is_place}
use Rattle.grant_table.proofs.grants.guess.Goals as goal

-- the number was found there
pub returns-then-held-place : goal.returns-then-held-place
returns-then-held-place c =
    let since = (c.in_ok-newest.field-0.now.mapping.number + (18446744073709551616 - c.args.number)) % 18446744073709551616 in
    let place = (length c.args.held.now - 1 + (18446744073709551616 - since)) % 18446744073709551616 in
    is_place c.args.held.now c.requires c.args.number place c.if-place-held.true c.if-held-place.true
