use Rattle.xen_pages.proofs.Apart.{frames_are_apart}
use Rattle.xen_pages.proofs.laws.words_of_two_frames_are_apart.Goals as goal

pub returns : goal.returns
returns c = frames_are_apart
