use Rattle.std.proofs.Common.{refl}
use Rattle.back_laws.proofs.BackLeft.{lowers}
use Rattle.back_laws.proofs.Found.{each_lowers}
use Rattle.back_laws.proofs.each_answer_lowers_what_is_left_to_the_back.Goals as goal

pub returns : goal.returns
returns c = record {
  lowers = λ v a sound cons seen shown ok. lowers v.stage v a refl sound.mapped sound.few_pages cons seen shown sound.placed ok;
  runs = each_lowers;
}
