-- Histories in which both ends' keys say one state wherever all is found quiet, and closed only of a front that closes.
use Rattle.std.specs.Prelude.{◌≡◌, ◌⊎◌, ℕ, true, List, [], ◌∷◌, Some, codes}
use Rattle.key_directory.specs.Directory.{Directory, key_of}
use Rattle.split_model.specs.World.{World}
use Rattle.split_model.specs.Happening.{Happening, Looks, Settles, happens}
use Rattle.report_laws.specs.States.{front_state, back_state}

-- the directory has this text at both states
pub record HasBoth (text : List ℕ) (d : Directory) : Type 0 where
  pub front : key_of d.keys front_state ≡ Some text
  pub back : key_of d.keys back_state ≡ Some text

-- both are connected; or both are closed, and the front closes
abbrev pub AreAlike : World → Type 0
AreAlike w = HasBoth (codes "4") w.under.keys ⊎ (HasBoth (codes "6") w.under.keys × (w.front.closing ≡ true))

abbrev pub IsAgreed : World → Happening → Type 0
IsAgreed w (Looks quiet) = quiet ≡ true → AreAlike w
IsAgreed w (Settles quiet) = quiet ≡ true → AreAlike w
IsAgreed w h = Unit {0}

abbrev pub AreAgreed : List Happening → World → Type 0
AreAgreed [] w = Unit {0}
AreAgreed (h ∷ hs) w = IsAgreed w h × AreAgreed hs (happens w h)
