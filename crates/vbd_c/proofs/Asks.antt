-- The numbers of an ask, with what is copied beside them, say the whole of it.
use Rattle.std.proofs.Common.{◌≡◌, refl, ap}
use Rattle.blk_base.specs.declared.parts.Mapping.{Mapping}
use Rattle.blk_base.specs.declared.parts.Mode.{Mode}
use Rattle.blk_base.specs.declared.parts.Mode.TheVariants.{ReadOnly, ReadWrite}
use Rattle.blk_base.specs.declared.ask.BackAsk.{BackAsk}
use Rattle.blk_base.specs.declared.ask.BackAsk.TheVariants.{Wait, Fence, Read, Write, Map, Unmap, Bind, Send, ClosePort, GetKey, SetKey, Watch, DiskRead, DiskWrite, Flush, Trim}
use Rattle.vbd_c.specs.Ask.{is_writable, mode_from, numbers_of, path_of, text_of, words_of, ask_from}

mode_again : (m : Mode) → mode_from (is_writable m) ≡ m
mode_again ReadOnly = refl
mode_again ReadWrite = refl

mapping_again : (m : Mapping) → record { number = m.number; gref = m.gref; mode = mode_from (is_writable m.mode) } ≡ m
mapping_again m = ap (λ (mode : Mode). record m { mode = mode }) (mode_again m.mode)

pub whole : (a : BackAsk) → ask_from (numbers_of a) (path_of a) (text_of a) (words_of a) ≡ a
whole Wait = refl
whole Fence = refl
whole (Read m word) = ap (λ (n : Mapping). Read n word) (mapping_again m)
whole (Write m word value) = ap (λ (n : Mapping). Write n word value) (mapping_again m)
whole (Map gref mode) = ap (λ (n : Mode). Map gref n) (mode_again mode)
whole (Unmap m) = ap (λ (n : Mapping). Unmap n) (mapping_again m)
whole (Bind port) = refl
whole Send = refl
whole ClosePort = refl
whole (GetKey path) = refl
whole (SetKey path text) = refl
whole (Watch path) = refl
whole (DiskRead sector) = refl
whole (DiskWrite sector words) = refl
whole Flush = refl
whole (Trim sector sectors) = refl
