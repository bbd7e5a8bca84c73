use Rattle.back_laws.proofs.Refused.{read_twice, unshown, goes_on, uncaused, no_request, replied_twice, read_again, goes_on_refused, short, reads_on, maps_on}
use Rattle.back_laws.proofs.PageRefused.{page_again, reads_early, writes_early}
use Rattle.back_laws.proofs.wrong_traces_are_refused.Goals as goal

pub returns : goal.returns
returns c = record { twice = read_twice; unshown = unshown; goes_on = goes_on; uncaused = uncaused; no_request = no_request; replied_twice = replied_twice; again = read_again; refused = goes_on_refused; short = short; reads_on = reads_on; maps_on = maps_on; page_again = page_again; reads_early = reads_early; writes_early = writes_early }
