-- What each happening may come to where mappings may be kept, and the lines that it may show.
use Rattle.std.proofs.Common.{◌≡◌, ℕ, Bool, true, false, if◌then◌else◌, [], ◌∷◌, refl}
use Rattle.std.specs.Prelude.{Option, Some, None}
use Rattle.std.specs.List.{AllByRecursion}
use Rattle.blk_base.specs.declared.parts.End.{End}
use Rattle.schedule_text.specs.declared.line.Line.{Line}
use Rattle.schedule_text.specs.declared.line.Line.TheVariants as lines
use Rattle.hypervisor.specs.Act.{BackAct, Took}
use Rattle.blk_back.specs.Ask.{is_led}
use Rattle.blk_back.specs.View as back
use Rattle.blk_back.specs.Keeping.{step_keeping, job_step_keeping, halts_keeping}
use Rattle.split_model.specs.World.{World}
use Rattle.split_model.specs.Keys.{KeyMove}
use Rattle.split_model.specs.Shown.{back_lines, halt_lines}
use Rattle.split_model.specs.Happening.{Happening, BackMoves, JobMoves, Negotiates, BackHalts, lines_at, back_turn}
use Rattle.split_model.specs.Kept.{KeepingHappening, Plainly, BackOffers, BackKeeps, offer_line, keeping_line, reads_keeping, is_other_read, back_shows_keeping, job_turn_keeping, job_shows_keeping, plainly_shows, shows_keeping}
use Rattle.split_model.proofs.Showing.{IsOfBack, IsOfKeys, MayShow, back_told_is, halt_is, both_all, lines_are}

-- what the back does with the keys for kept mappings is as what it does with others
abbrev pub MayShowKeeping : KeepingHappening → Line → Type 0
MayShowKeeping (Plainly h) line = MayShow h line
MayShowKeeping h line = IsOfKeys line

back_are : (P : Line → Type 0) → ((line : Line) → IsOfBack line → P line) → (w : World) (act : Option BackAct) → AllByRecursion P (back_shows_keeping w act)
back_are P each w None = tt
back_are P each w (Some a) =
    let b : back.View = step_keeping w.back a.answer in (
      each (lines.Move a.shown) tt,
      both_all P (back_lines b.told a.answer) (halt_lines w.back.halted b.halted) (back_told_is P (λ line told shows. each line shows) b.told a.answer)
          (halt_is P (λ why. each (lines.Halt why) tt) w.back.halted b.halted),
    )

job_are : (P : Line → Type 0) → ((line : Line) → IsOfBack line → P line) → (w : World) (number : ℕ) (act : Option BackAct) → AllByRecursion P (job_shows_keeping w number act)
job_are P each w number None = tt
job_are P each w number (Some a) =
    (each (lines.Move a.shown) tt, back_told_is P (λ line told shows. each line shows) (let b : back.View = job_step_keeping w.back number a.answer in b.told) a.answer)

-- a key that it reads, or not
pub read_are : (P : Line → Type 0) (w : World) (at : End) (move : KeyMove) → AllByRecursion P (lines_at w (Negotiates at move)) → AllByRecursion P (plainly_shows w (Negotiates at move))
read_are P w at move all = by_test (is_other_read w at move)
  where
    by_test : (b : Bool) → AllByRecursion P (if b then [] else lines_at w (Negotiates at move))
    by_test true = tt
    by_test false = all

-- what holds of the machine either way
pub either_world : (P : World → Type 0) (b : Bool) (v w : World) → (b ≡ true → P v) → P w → P (if b then v else w)
either_world P true v w p q = p refl
either_world P false v w p q = q

-- one line, or none
pub one_are : (P : Line → Type 0) (b : Bool) (line : Line) → P line → AllByRecursion P (if b then line ∷ [] else [])
one_are P true line is = (is, tt)
one_are P false line is = tt

pub plainly_are : (P : Line → Type 0) (w : World) (h : Happening) → ((line : Line) → MayShow h line → P line) → AllByRecursion P (plainly_shows w h)
plainly_are P w BackMoves each = back_are P each w (back_turn w Took)
plainly_are P w (JobMoves number outcome) each = job_are P each w number (job_turn_keeping w number outcome)
plainly_are P w (BackHalts why) each = halt_is P (λ halt. each (lines.Halt halt) tt) w.back.halted (let b : back.View = halts_keeping why w.back in b.halted)
plainly_are P w (Negotiates at move) each = read_are P w at move (lines_are P w (Negotiates at move) each)
plainly_are P w h each = lines_are P w h each

-- each line that it shows is one that it may show
pub lines_keeping_are : (P : Line → Type 0) (w : World) (h : KeepingHappening) → ((line : Line) → MayShowKeeping h line → P line) → AllByRecursion P (shows_keeping w h)
lines_keeping_are P w (Plainly h) each = plainly_are P w h each
lines_keeping_are P w BackOffers each = one_are P (is_led w.back.stage) offer_line (each offer_line tt)
lines_keeping_are P w (BackKeeps cap) each = one_are P (reads_keeping w cap) (keeping_line w) (each (keeping_line w) tt)
