-- What happens outside the ends and under them: what an end does with the keys, an event, a word or a key that a hostile hand overwrites, the words of the ring, and the looks. So is whatever isn't named here to change an end: a new line of a schedule has its case in the lemmas below, and none in a law.
use Rattle.std.proofs.Common.{◌≡◌, ◌⊎◌, inl, inr, refl, ap}
use Rattle.blk_base.specs.declared.parts.End.{End}
use Rattle.blk_base.specs.declared.parts.End.TheVariants as end
use Rattle.event_channel.specs.Channels.{ChannelState, sent}
use Rattle.hypervisor.specs.Hypervisor.{Hypervisor}
use Rattle.split_model.specs.World.{World}
use Rattle.split_model.specs.Happening.{Happening, FrontMoves, BackMoves, JobMoves, Negotiates, FrontEnters, BackAttaches, BackHalts, Submits, Notifies, Pokes, OverwritesKey, Suspends, Dumps, Looks, Settles, other_end, happens}
use Rattle.split_model.proofs.Overwriting.{poke_cases, overwriting_cases}

-- it changes no end
abbrev pub IsOutside : Happening → Type 0
IsOutside FrontMoves = ⊥
IsOutside BackMoves = ⊥
IsOutside (JobMoves number outcome) = ⊥
IsOutside (FrontEnters state) = ⊥
IsOutside (BackAttaches shape grefs port) = ⊥
IsOutside (BackHalts why) = ⊥
IsOutside (Submits job) = ⊥
IsOutside Suspends = ⊥
IsOutside h = Unit {0}

-- the channels stay, or an end sends an event
abbrev pub AreSent : (before now : ChannelState) → Type 0
AreSent before now = (now ≡ before) ⊎ ((from : End) × (now ≡ sent before from))

-- both ends stay, the grants, and the channels but for an event
pub record LeavesEnds (w v : World) : Type 0 where
  pub front : v.front ≡ w.front
  pub back : v.back ≡ w.back
  pub grants : v.under.grants ≡ w.under.grants
  pub channels : AreSent w.under.channels v.under.channels

as_before : (w : World) → LeavesEnds w w
as_before w = record { front = refl; back = refl; grants = refl; channels = inl refl }

-- the ends over this
abbrev over : World → Hypervisor → World
over w under = record { front = w.front; back = w.back; under = under }

pub leaves_ends : (w : World) (h : Happening) → IsOutside h → LeavesEnds w (happens w h)
leaves_ends w (Negotiates at move) outside = record { front = refl; back = refl; grants = refl; channels = inl refl }
leaves_ends w (Notifies at) outside = record { front = refl; back = refl; grants = refl; channels = inr (other_end at, refl) }
leaves_ends w (Pokes frame word value) outside =
    poke_cases (λ under shown. LeavesEnds w (over w under)) w.under frame word value (λ framed worded. record { front = refl; back = refl; grants = refl; channels = inl refl }) (as_before w)
leaves_ends w (OverwritesKey name text) outside =
    overwriting_cases (λ under shown. LeavesEnds w (over w under)) w.under name text (λ allowed. record { front = refl; back = refl; grants = refl; channels = inl refl }) (as_before w)
leaves_ends w Dumps outside = as_before w
leaves_ends w (Looks quiet) outside = as_before w
leaves_ends w (Settles quiet) outside = as_before w
leaves_ends w h outside = absurd outside

-- an event changes pending marks alone
pub record KeepsPorts (before now : ChannelState) : Type 0 where
  pub made : now.made ≡ before.made
  pub ports : now.ports ≡ before.ports

pub sent_keeps : (before now : ChannelState) → AreSent before now → KeepsPorts before now
sent_keeps before now (inl same) = record { made = ap (λ (c : ChannelState). c.made) same; ports = ap (λ (c : ChannelState). c.ports) same }
sent_keeps before now (inr (end.Front, same)) = record { made = ap (λ (c : ChannelState). c.made) same; ports = ap (λ (c : ChannelState). c.ports) same }
sent_keeps before now (inr (end.Back, same)) = record { made = ap (λ (c : ChannelState). c.made) same; ports = ap (λ (c : ChannelState). c.ports) same }
