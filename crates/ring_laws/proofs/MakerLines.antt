-- The lines of each mover, by what they map and unmap.
use Rattle.std.proofs.Common.{◌≡◌, ◌==◌, Bool, true, false, if◌then◌else◌, List, [], ◌∷◌, ◌++◌, refl}
use Rattle.std.specs.Prelude.{Option, Some, None, is_some}
use Rattle.std.specs.List.{AllByRecursion}
use Rattle.blk_base.specs.declared.ask.BackAsk.{BackAsk}
use Rattle.blk_base.specs.declared.ask.BackAsk.TheVariants as ask
use Rattle.blk_base.specs.declared.ask.BackAnswer.{BackAnswer}
use Rattle.blk_base.specs.declared.moves.BackMover.TheVariants as back
use Rattle.blk_base.specs.declared.moves.Mover.{Mover}
use Rattle.blk_base.specs.declared.moves.Move.{Move}
use Rattle.blk_base.specs.declared.moves.Move.TheVariants as moves
use Rattle.hypervisor.specs.Hypervisor.{Hypervisor}
use Rattle.hypervisor.specs.Act.{BackAct, Outcome, back_act}
use Rattle.ring_words.specs.Ring.{requests_of}
use Rattle.schedule_text.specs.declared.line.Line.{Line}
use Rattle.schedule_text.specs.declared.line.Line.TheVariants as lines
use Rattle.blk_back.specs.declared.told.BackTold.{BackTold}
use Rattle.blk_base.specs.declared.halt.Halt.{Halt}
use Rattle.blk_back.specs.declared.stage.Reply.{Reply}
use Rattle.blk_back.specs.declared.stage.BackStage.{BackStage}
use Rattle.blk_back.specs.declared.stage.BackStage.TheVariants as stage
use Rattle.blk_back.specs.View.{View}
use Rattle.blk_back.specs.Ask.{ask_at, loop_ask, index_ask, entry_ask, next_reply}
use Rattle.split_model.specs.Happening.{BackMoves}
use Rattle.split_model.proofs.Showing.{IsTold, MayShow, back_told_is, halt_is, both_all}
use Rattle.split_model.proofs.Acting.{BackActs, BackUnmap, back_acts}
use Rattle.split_model.specs.Shown.{back_lines, halt_lines}
use Rattle.split_model.proofs.SafeActs.{IsKeyMove}
use Rattle.split_model.proofs.SafeAnswers.{IsBacks}
use Rattle.ring_laws.proofs.Shows.{Sight}
use Rattle.ring_laws.proofs.Knows.{KnowsAt}
use Rattle.ring_laws.specs.Handed.{IsHandedAt}
use Rattle.ring_laws.proofs.Makers.{IsQuiet, AreQuiet, IsOpen}

-- a line that unmaps nothing, and is no map or touch of a job
pub record IsCalm (line : Line) : Type 0 where
  pub quiet : IsQuiet line
  pub free : IsOpen line
  pub handed : (before : List Line) → IsHandedAt before line

abbrev pub AreCalm : List Line → Type 0
AreCalm ls = AllByRecursion IsCalm ls

pub calm_quiet : (ls : List Line) → AreCalm ls → AreQuiet ls
calm_quiet [] all = tt
calm_quiet (line ∷ ls) all = (let c : IsCalm line = all.0 in c.quiet, calm_quiet ls all.1)

pub calm_open : (ls : List Line) → AreCalm ls → AllByRecursion IsOpen ls
calm_open [] all = tt
calm_open (line ∷ ls) all = (let c : IsCalm line = all.0 in c.free, calm_open ls all.1)

pub calm_handed : (ls : List Line) → AreCalm ls → AllByRecursion (λ (line : Line). (before : List Line) → IsHandedAt before line) ls
calm_handed [] all = tt
calm_handed (line ∷ ls) all = (let c : IsCalm line = all.0 in c.handed, calm_handed ls all.1)

-- no line that the back tells begins an epoch
back_tells_calm : (line : Line) → IsTold line → MayShow BackMoves line → IsCalm line
back_tells_calm (lines.Move shown) told shows = absurd told
back_tells_calm lines.Epoch told shows = absurd shows
back_tells_calm line told shows = record { quiet = record { same_epoch = refl; none_gone = λ n. refl; none_made = λ k. refl }; free = λ before. record { unmap = tt; touch = tt }; handed = λ before. tt }

pub back_calm : (t : Option BackTold) (a : BackAnswer) → AreCalm (back_lines t a)
back_calm t a = back_told_is IsCalm back_tells_calm t a

pub halt_calm : (old new : Option Halt) → AreCalm (halt_lines old new)
halt_calm old new = halt_is IsCalm (λ why. record { quiet = record { same_epoch = refl; none_gone = λ n. refl; none_made = λ k. refl }; free = λ before. record { unmap = tt; touch = tt }; handed = λ before. tt }) old new

pub told_calm : (t : Option BackTold) (a : BackAnswer) (old new : Option Halt) → AreCalm (back_lines t a ++ halt_lines old new)
told_calm t a old new = both_all IsCalm (back_lines t a) (halt_lines old new) (back_calm t a) (halt_calm old new)

pub key_calm : (who : Mover) (shown : Move) → IsKeyMove who shown → IsCalm (lines.Move shown)
key_calm who (moves.Watch m path) is = record { quiet = record { same_epoch = refl; none_gone = λ n. refl; none_made = λ k. refl }; free = λ before. record { unmap = tt; touch = tt }; handed = λ before. tt }
key_calm who (moves.Watched m path) is = record { quiet = record { same_epoch = refl; none_gone = λ n. refl; none_made = λ k. refl }; free = λ before. record { unmap = tt; touch = tt }; handed = λ before. tt }
key_calm who (moves.GetKey m path text) is = record { quiet = record { same_epoch = refl; none_gone = λ n. refl; none_made = λ k. refl }; free = λ before. record { unmap = tt; touch = tt }; handed = λ before. tt }
key_calm who (moves.SetKey m path text) is = record { quiet = record { same_epoch = refl; none_gone = λ n. refl; none_made = λ k. refl }; free = λ before. record { unmap = tt; touch = tt }; handed = λ before. tt }
key_calm who shown is = absurd is

abbrev pub is_unmap : BackAsk → Bool
is_unmap (ask.Unmap m) = true
is_unmap a' = false

-- the back maps and unmaps nothing for a job, and unmaps at no other ask than an unmap
pub record Does (a' : BackAsk) (a : BackAct) : Type 0 where
  pub quiet : is_unmap a' ≡ false → IsQuiet (lines.Move a.shown)
  pub allowed : IsOpen (lines.Move a.shown)

does : (a' : BackAsk) (a : BackAct) → IsCalm (lines.Move a.shown) → Does a' a
does a' a c = record { quiet = λ none. c.quiet; allowed = c.free }

acts_do : (h : Hypervisor) (a' : BackAsk) (o : Outcome) (a : BackAct) → BackActs h back.Back a' o a → Does a' a
acts_do h a' o a (BackUnmap m) = record { quiet = λ none. absurd (cc); allowed = λ before. record { unmap = tt; touch = tt } }
acts_do h a' o a acts = does _ _ (record { quiet = record { same_epoch = refl; none_gone = λ n. refl; none_made = λ k. refl }; free = λ before. record { unmap = tt; touch = tt }; handed = λ before. tt })

pub back_does : (h : Hypervisor) (a' : BackAsk) (o : Outcome) (a : BackAct) → IsBacks a' → back_act h back.Back a' o ≡ Some a → Does a' a
back_does h a' o a own e = acts_do h a' o a (back_acts h back.Back a' o a e)

-- a back that serves asks for no unmap
loop_asks : (v : View) (r : Option Reply) → is_unmap (loop_ask v r) ≡ false
loop_asks v (Some r) = refl
loop_asks v None = by_tests v.ring.asleep (requests_of v.ring.indices v.ring.seen == 0)
  where
    by_tests : (asleep none : Bool) → is_unmap (if asleep then ask.Wait else (if none then index_ask v 0 else entry_ask v 0)) ≡ false
    by_tests true none = refl
    by_tests false true = refl
    by_tests false false = refl

pub serving_asks : (s : BackStage) (v : View) (x : Sight) → KnowsAt s x v → is_some v.halted ≡ false → is_unmap (ask_at s v) ≡ false
serving_asks stage.Loop v x k runs = loop_asks v (next_reply v)
serving_asks (stage.Abort m) v x k runs = absurd (let over = k.over in cc)
serving_asks stage.UnmapRing v x k runs = absurd (let over = k.over in cc)
serving_asks stage.UnmapUnbound v x k runs = absurd (let over = k.over in cc)
serving_asks s v x k runs = refl
