-- Wherever the machine shows `quiet` its ring is served and read.
use Rattle.std.proofs.Common.{◌≡◌, ◌≢◌, Bool, true, false, List, [], ◌∷◌, if◌then◌else◌, refl, true≢false}
use Rattle.std.specs.Prelude.{Contains}
use Rattle.std.proofs.lemmas.List.Elements.{All-from_recursion, All-contains}
use Rattle.blk_base.specs.Options.{Options}
use Rattle.schedule_text.specs.declared.line.Line.{Line}
use Rattle.schedule_text.specs.declared.line.Line.TheVariants as lines
use Rattle.split_model.specs.World.{World, start_of, is_quiet}
use Rattle.split_model.specs.Happening.{Happening, Looks, Settles, lines_at, after}
use Rattle.machine_pipeline.specs.Plain.{IsPlain}
use Rattle.machine_pipeline.specs.Allowed.{IsServed, AreServed}
use Rattle.machine_pipeline.proofs.Over.{IsDrained}
use Rattle.machine_pipeline.proofs.Together.{always_stands}
use Rattle.machine_pipeline.proofs.AtRest.{IsIdleRing, quiet_rests}
use Rattle.report_laws.specs.AtRest.{IsReadRing, IsAtRest}
use Rattle.report_laws.proofs.Lines.{says_quiet, AreUnquiet, shows_unquiet}

pub always_rests : (config : Options) (history : List Happening) → IsPlain config → AreServed history (start_of config) → is_quiet (after history (start_of config)) ≡ true → IsAtRest (after history (start_of config))
always_rests config history plain may quiet = record { ring = read; no_job = rest.no_job; no_request = rest.no_request }
  where
    w : World
    w = after history (start_of config)

    rest : IsIdleRing w
    rest = quiet_rests config w quiet (always_stands config history plain may)

    read : w.under.channels.ports ≢ [] → IsReadRing w
    read port = let ring : IsDrained w.under.pages w.front.ring.indices.cons w.back.ring.indices.cons = rest.ring port in record { served = ring.served; fetched = ring.fetched; read = ring.read }

-- a happening shows `quiet` only where the machine is so
none_quiet : (ls : List Line) → AreUnquiet ls → Contains ls lines.Quiet → ⊥
none_quiet ls all has = true≢false (All-contains (λ (line : Line). says_quiet line ≡ false) ls lines.Quiet (All-from_recursion (λ (line : Line). says_quiet line ≡ false) ls all) has)

look_quiet : (quiet : Bool) (other : Line) → says_quiet other ≡ false → Contains ((if quiet then lines.Quiet else other) ∷ []) lines.Quiet → quiet ≡ true
look_quiet true other e has = refl
look_quiet false other e has = absurd (none_quiet (other ∷ []) (e, tt) has)

pub shown_quiet : (w : World) (h : Happening) → IsServed w h → Contains (lines_at w h) lines.Quiet → is_quiet w ≡ true
shown_quiet w (Looks quiet) may has = may (look_quiet quiet lines.Busy refl has)
shown_quiet w (Settles quiet) may has = may (look_quiet quiet lines.Unsettled refl has)
shown_quiet w h may has = absurd (none_quiet (lines_at w h) (shows_unquiet w h tt) has)
