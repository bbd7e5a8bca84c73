use Rattle.xen_pages.proofs.Apart.{words_go_on}
use Rattle.xen_pages.proofs.laws.words_of_a_frame_go_one_by_one.Goals as goal

pub returns : goal.returns
returns c = words_go_on
