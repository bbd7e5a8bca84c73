-- The pipeline stands in no key: where keys alone change it goes on, whoever does what with them.
use Rattle.std.proofs.Common.{Bool, ◌≡◌, ℕ, true, List, [], ◌∷◌, refl, ap, sym, subst}
use Rattle.std.specs.Prelude.{None}
use Rattle.std.specs.List.{AllByRecursion, list_all}
use Rattle.std.proofs.lemmas.List.{append-nil}
use Rattle.blk_base.specs.Options.{Options}
use Rattle.blk_base.specs.declared.parts.End.TheVariants as end
use Rattle.blk_base.specs.declared.moves.Mover.TheVariants as mover
use Rattle.blk_base.specs.declared.moves.Move.TheVariants as moves
use Rattle.schedule_text.specs.declared.line.Line.{Line}
use Rattle.schedule_text.specs.declared.line.Line.TheVariants as lines
use Rattle.key_directory.specs.Directory.{Directory}
use Rattle.hypervisor.specs.Act.{with_keys, watch_taken}
use Rattle.pipeline_laws.specs.Allowed.{is_aside}
use Rattle.pipeline_laws.specs.Pipeline.{Pipeline, after_steps}
use Rattle.blk_front.specs.declared.stage.FrontStage.{FrontStage}
use Rattle.blk_back.specs.declared.stage.BackStage.{BackStage}
use Rattle.blk_front.specs.View.{View}
use Rattle.split_model.specs.World.{World}
use Rattle.split_model.specs.Shown.{front_lines}
use Rattle.machine_pipeline.proofs.Flow.{Flow}
use Rattle.machine_pipeline.proofs.Holds.{Holds, IsFrontSleep, IsBackSleep}
use Rattle.machine_pipeline.proofs.Turns.{Goes, said_nothing, goes_by}
use Rattle.machine_pipeline.specs.Step.{Does, IsSame}

-- the machine with those keys
abbrev pub keyed : World → Directory → World
keyed w keys = record { front = w.front; back = w.back; under = with_keys w.under keys }

-- other keys, and other marks with which both ends would wake as well
pub beside : (config : Options) (w : World) (g : Flow) (d : Pipeline) (s : FrontStage) (b : BackStage) (keys : Directory) (front_pending back_pending : Bool)
    → IsFrontSleep g.start g.taken g.replied w.under.pages w.front.ring.asleep front_pending s b
    → IsBackSleep g.start g.fetched g.pushed w.under.pages w.back.ring.asleep back_pending s b
    → Holds config w g d s b
    → Holds config (record { front = w.front; back = w.back; under = record w.under { channels = record w.under.channels { front_pending = front_pending; back_pending = back_pending }; keys = keys } }) g d s b
beside config w g d s b keys front_pending back_pending front_sleep back_sleep h = assumption

pub goes_keyed : (config : Options) (said : List Line) (w : World) (d : Pipeline) (keys : Directory) → Goes config said w d → Goes config said (keyed w keys) d
goes_keyed config said w d keys p =
    let h : Holds config w p.flow (after_steps p.steps d) w.front.stage w.back.stage = p.holds in
    goes_by p.does (beside config w p.flow (after_steps p.steps d) w.front.stage w.back.stage keys w.under.channels.front_pending w.under.channels.back_pending h.front_sleep h.back_sleep h)

-- an end that told nothing tells nothing
pub untold : (w : World) → w.front.told ≡ None → w ≡ record { front = (let v : View = w.front in record v { told = None }); back = w.back; under = w.under }
untold w none = ap (λ t. record { front = (let v : View = w.front in record v { told = t }); back = w.back; under = w.under }) none

-- a front that takes a watch, and is as it was
pub watched_goes : (config : Options) (w : World) (g : Flow) (d : Pipeline) (path : List ℕ)
    → w.front.told ≡ None
    → Holds config w g d w.front.stage w.back.stage
    → Goes config (lines.Move (moves.Watched mover.Front path) ∷ front_lines w.front.told) (record { front = (let v : View = w.front in record v { told = None }); back = w.back; under = watch_taken w.under end.Front }) d
watched_goes config w g d path told h =
    goes_keyed config _ _ d (watch_taken w.under end.Front).keys (goes_by (said_nothing d (moves.Watched mover.Front path) w.front.told told)
    (subst (λ (x : World). Holds config x g d x.front.stage x.back.stage) (untold w told) h))

-- lines that are nothing to the pipeline
abbrev pub IsAside : Line → Type 0
IsAside line = is_aside line ≡ true

words_aside : (ls : List Line) → AllByRecursion IsAside ls → list_all is_aside ls ≡ true
words_aside [] all = refl
words_aside (line ∷ ls) all = rw all.0 (words_aside ls all.1)

pub asides_do : (d : Pipeline) (ls : List Line) → AllByRecursion IsAside ls → Does None IsSame ls d []
asides_do d ls all = record { asides = ls; aside = words_aside ls all; shows = sym (append-nil ls); asks = refl; allowed = tt; disk = λ a b e. e }
