-- Whatever a schedule makes happen is possible for the ring's machine, and served until a word or a key is overwritten.
use Rattle.vbd_laws.proofs.NegotiatedEarly.{IsOnItsWay}
use Rattle.vbd_laws.proofs.NegotiatedAnew.{on_its_way}
use Rattle.std.proofs.Common.{List, [], ◌∷◌}
use Rattle.vbd_model.specs.World.{World, start_of}
use Rattle.vbd_model.specs.Happening.{Happening, happens, after}
use Rattle.vbd_laws.specs.Served.{RingsPossible, RingsServed, RingGoesByTheTerms, RingIsMadeFirst, AllKeepKeys}
use Rattle.vbd_laws.specs.Waits.{Check, Awake, front_check_in}
use Rattle.vbd_laws.proofs.WaitsFront.{Knows, knows_on, knows_start, in_hand}
use Rattle.vbd_laws.proofs.NegotiatedMaps.{goes_by_terms, is_made_first}
use Rattle.vbd_laws.proofs.ServedPossible.{way_start, Stands, stands_start, stands_on, all_possible}
use Rattle.vbd_laws.proofs.ServedRun.{honest_start, all_served}

pub rings_possible : RingsPossible
rings_possible config hs carried options are = all_possible hs (start_of config) (stands_start config options) are

pub rings_served : RingsServed
rings_served config hs carried options are = all_served config hs (start_of config) (honest_start config carried options) are

-- whatever has happened
stands_after : (hs : List Happening) (w : World) → Stands w → Stands (after hs w)
stands_after [] w stands = stands
stands_after (h ∷ hs) w stands = stands_after hs (happens w h) (stands_on w h stands)

pub ring_goes_by_terms : RingGoesByTheTerms
ring_goes_by_terms config hs carried options =
    let stands = stands_after hs (start_of config) (stands_start config options) in
    goes_by_terms (after hs (start_of config)) stands.fit

-- until a key is overwritten
way_after : (hs : List Happening) (w : World) (c : Check) → AllKeepKeys hs → Stands w → Knows w c → IsOnItsWay w → IsOnItsWay (after hs w)
way_after [] w c keep stands knows way = way
way_after (h ∷ hs) w c keep stands knows way =
    way_after hs (happens w h) (front_check_in w h c) keep.1 (stands_on w h stands) (knows_on w h c knows)
    (on_its_way w h keep.0 stands.fit stands.front stands.back.sectors (in_hand w c knows) way)

pub ring_is_made_first : RingIsMadeFirst
ring_is_made_first config hs carried options keep =
    let start = stands_start config options in
    let stands = stands_after hs (start_of config) start in
    is_made_first (after hs (start_of config)) stands.fit (way_after hs (start_of config) Awake keep start (knows_start config options.2) (way_start config options))
