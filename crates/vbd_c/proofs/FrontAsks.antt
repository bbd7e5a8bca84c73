-- The numbers of an ask of the front, with what is copied beside them, say the whole of it.
use Rattle.std.proofs.Common.{◌≡◌, refl}
use Rattle.blk_base.specs.declared.ask.FrontAsk.{FrontAsk}
use Rattle.blk_base.specs.declared.ask.FrontAsk.TheVariants.{Wait, Fence, Read, Write, Cas, NewPort, Send, ClosePort, GetKey, SetKey, Watch}
use Rattle.vbd_c.specs.FrontAsk.{numbers_of, path_of, text_of, ask_from}

pub whole : (a : FrontAsk) → ask_from (numbers_of a) (path_of a) (text_of a) ≡ a
whole Wait = refl
whole Fence = refl
whole (Read frame word) = refl
whole (Write frame word value) = refl
whole (Cas frame word old new) = refl
whole NewPort = refl
whole Send = refl
whole ClosePort = refl
whole (GetKey path) = refl
whole (SetKey path text) = refl
whole (Watch path) = refl
