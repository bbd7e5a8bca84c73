-- Histories of what a schedule asks for: of any moves of both ends, with what a disk gives and what is submitted in their widths.
use Rattle.std.specs.Prelude.{◌≡◌, ◌^◌, ◌<◌, true, List, [], ◌∷◌}
use Rattle.hypervisor.specs.Act.{IsGiven}
use Rattle.split_model.specs.World.{may_suspend}
use Rattle.split_model.specs.Happening.{is_guest_word, is_guest_key}
use Rattle.machine_pipeline.specs.Allowed.{IsServable}
use Rattle.vbd_model.specs.World.{World, is_quiet}
use Rattle.vbd_model.specs.Happening.{Happening, JobMoves, Submits, Pokes, OverwritesKey, Suspends, Looks, Settles, happens}

-- a sector that the disk gives has 128 words of 32 bits; what is submitted is of some sectors; a word that is overwritten is one of the guest's memory, and a key's name and text are of the grammar; for a suspend a port number is left; and where all is found quiet it is
abbrev pub IsPossible : World → Happening → Type 0
IsPossible w (JobMoves number outcome) = IsGiven outcome
IsPossible w (Submits job) = IsServable job
IsPossible w (Pokes frame word value) = (is_guest_word frame word ≡ true) × (value < 2 ^ 32)
IsPossible w (OverwritesKey name text) = is_guest_key name text ≡ true
IsPossible w Suspends = may_suspend w.rings ≡ true
IsPossible w (Looks quiet) = quiet ≡ true → is_quiet w ≡ true
IsPossible w (Settles quiet) = quiet ≡ true → is_quiet w ≡ true
IsPossible w h = Unit {0}

abbrev pub ArePossible : List Happening → World → Type 0
ArePossible [] w = Unit {0}
ArePossible (h ∷ hs) w = IsPossible w h × ArePossible hs (happens w h)
