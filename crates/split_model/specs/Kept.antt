-- The machine whose back may keep mappings for later requests (`feature-persistent` of `io/blkif.h`): what may happen to it, what it makes of it, and the lines that it shows. Where nothing is kept it goes as in `Happening`.
use Rattle.std.specs.Prelude.{◌≡◌, ℕ, Bool, false, ◌&&◌, not, ◌==◌, List, [], ◌∷◌, ◌++◌, Option, Some, None, if◌then◌else◌, codes, map}
use Rattle.std.specs.Str.{bytes_eq}
use Rattle.blk_io.specs.Disk.{DiskSeen}
use Rattle.blk_base.specs.declared.parts.End.{End}
use Rattle.blk_base.specs.declared.parts.End.TheVariants as end
use Rattle.blk_base.specs.declared.moves.BackMover.TheVariants as back_mover
use Rattle.blk_base.specs.declared.moves.Mover.TheVariants as mover
use Rattle.blk_base.specs.declared.moves.Move.TheVariants as moves
use Rattle.blk_base.specs.declared.halt.Halt.{Halt}
use Rattle.schedule_text.specs.declared.line.Line.{Line}
use Rattle.schedule_text.specs.declared.line.Line.TheVariants.{Move}
use Rattle.key_directory.specs.Directory.{key_of, written}
use Rattle.hypervisor.specs.Hypervisor.{Hypervisor}
use Rattle.hypervisor.specs.Act.{BackAct, Outcome, Took, back_act, with_keys}
use Rattle.hypervisor.specs.Disk.{DiskDoes}
use Rattle.blk_back.specs.View as back
use Rattle.blk_back.specs.Ask.{is_led}
use Rattle.blk_back.specs.Hands.{all_hands_of}
use Rattle.blk_back.specs.Keeping.{may_keep_most, keeping_most, step_keeping, job_step_keeping, job_ask_keeping, halts_keeping, KeepsNone}
use Rattle.back_laws.specs.Kept.{IsTidy}
use Rattle.split_model.specs.World.{World}
use Rattle.split_model.specs.Keys.{KeyMove, Gets}
use Rattle.split_model.specs.Shown.{back_lines, halt_lines}
use Rattle.split_model.specs.Safe.{AreHeld, IsPorted}
use Rattle.split_model.specs.Happening.{Happening, BackMoves, JobMoves, BackHalts, Negotiates, happens, lines_at, after, lines_of, DiskGoes, back_turn}

-- what may happen to a machine that keeps none; the back publishes that it keeps grants; and it reads whether its front does, and is told how many mappings it may keep where both do
pub data KeepingHappening : Type 0 where
  Plainly : (h : Happening) → KeepingHappening
  BackOffers : KeepingHappening
  BackKeeps : (cap : ℕ) → KeepingHappening

-- the keys by which the ends say that they keep grants, and that one says so: exactly 1
abbrev pub offering_path : List ℕ
offering_path = codes "/local/domain/0/backend/vbd/1/51712/feature-persistent"

abbrev pub keeping_path : List ℕ
keeping_path = codes "/local/domain/1/device/vbd/51712/feature-persistent"

abbrev pub says_one : Option (List ℕ) → Bool
says_one None = false
says_one (Some text) = bytes_eq text (codes "1")

abbrev pub back_offers : World → Bool
back_offers w = says_one (key_of w.under.keys.keys offering_path)

abbrev pub keeping_text : World → Option (List ℕ)
keeping_text w = key_of w.under.keys.keys keeping_path

-- the back publishes so before it has the terms of its front
abbrev pub offered : World → World
offered w = record { front = w.front; back = w.back; under = let h : Hypervisor = w.under in with_keys h (written h.keys offering_path (codes "1")) }

abbrev pub offer_line : Line
offer_line = Move (moves.SetKey mover.Back offering_path (codes "1"))

-- a back that publishes so reads its front's key only once it has the terms, and before it maps a page of the ring: it may keep so many mappings, at least one, where its front keeps grants too, and none where not
abbrev pub reads_keeping : World → (cap : ℕ) → Bool
reads_keeping w cap = back_offers w && may_keep_most cap w.back && not (cap == 0)

abbrev pub cap_read : World → (cap : ℕ) → ℕ
cap_read w cap = if says_one (keeping_text w) then cap else 0

abbrev pub kept_so : World → (cap : ℕ) → World
kept_so w cap = record { front = w.front; back = keeping_most (cap_read w cap) w.back; under = w.under }

abbrev pub keeping_line : World → Line
keeping_line w = Move (moves.GetKey mover.Back keeping_path (keeping_text w))

-- so it doesn't read that key otherwise
abbrev pub is_other_read : World → End → KeyMove → Bool
is_other_read w end.Back (Gets path) = back_offers w && bytes_eq path keeping_path
is_other_read w at move = false

-- a move of the back, and of the job of a number
abbrev pub back_after_keeping : World → Option BackAct → World
back_after_keeping w None = w
back_after_keeping w (Some a) = record { front = w.front; back = record (step_keeping w.back a.answer) { told = None }; under = a.under }

abbrev pub back_shows_keeping : World → Option BackAct → List Line
back_shows_keeping w None = []
back_shows_keeping w (Some a) =
    let b : back.View = step_keeping w.back a.answer in
    Move a.shown ∷ back_lines b.told a.answer ++ halt_lines w.back.halted b.halted

abbrev pub job_turn_keeping : World → ℕ → Outcome → Option BackAct
job_turn_keeping w number outcome = back_act w.under (back_mover.Job number) (job_ask_keeping w.back number) outcome

abbrev pub job_after_keeping : World → ℕ → Option BackAct → World
job_after_keeping w number None = w
job_after_keeping w number (Some a) = record { front = w.front; back = record (job_step_keeping w.back number a.answer) { told = None }; under = a.under }

abbrev pub job_shows_keeping : World → ℕ → Option BackAct → List Line
job_shows_keeping w number None = []
job_shows_keeping w number (Some a) =
    let b : back.View = job_step_keeping w.back number a.answer in
    Move a.shown ∷ back_lines b.told a.answer

abbrev pub halted_keeping : World → Halt → World
halted_keeping w why = record { front = w.front; back = halts_keeping why w.back; under = w.under }

abbrev pub halt_shows_keeping : World → Halt → List Line
halt_shows_keeping w why = halt_lines w.back.halted (let b : back.View = halts_keeping why w.back in b.halted)

abbrev pub plainly_after : World → Happening → World
plainly_after w BackMoves = back_after_keeping w (back_turn w Took)
plainly_after w (JobMoves number outcome) = job_after_keeping w number (job_turn_keeping w number outcome)
plainly_after w (BackHalts why) = halted_keeping w why
plainly_after w h = happens w h

abbrev pub plainly_shows : World → Happening → List Line
plainly_shows w BackMoves = back_shows_keeping w (back_turn w Took)
plainly_shows w (JobMoves number outcome) = job_shows_keeping w number (job_turn_keeping w number outcome)
plainly_shows w (BackHalts why) = halt_shows_keeping w why
plainly_shows w (Negotiates at move) = if is_other_read w at move then [] else lines_at w (Negotiates at move)
plainly_shows w h = lines_at w h

abbrev pub happens_keeping : World → KeepingHappening → World
happens_keeping w (Plainly h) = plainly_after w h
happens_keeping w BackOffers = if is_led w.back.stage then offered w else w
happens_keeping w (BackKeeps cap) = if reads_keeping w cap then kept_so w cap else w

abbrev pub shows_keeping : World → KeepingHappening → List Line
shows_keeping w (Plainly h) = plainly_shows w h
shows_keeping w BackOffers = if is_led w.back.stage then offer_line ∷ [] else []
shows_keeping w (BackKeeps cap) = if reads_keeping w cap then keeping_line w ∷ [] else []

-- what it makes of the disk
abbrev pub DiskGoesKeeping : World → KeepingHappening → DiskSeen → DiskSeen → Type 0
DiskGoesKeeping w (Plainly (JobMoves number outcome)) before after = DiskDoes (job_ask_keeping w.back number) outcome before after
DiskGoesKeeping w h before after = after ≡ before

-- the machine after all this, and the report of it
abbrev pub after_keeping : List KeepingHappening → World → World
after_keeping [] w = w
after_keeping (h ∷ hs) w = after_keeping hs (happens_keeping w h)

abbrev pub lines_keeping : List KeepingHappening → World → List Line
lines_keeping [] w = []
lines_keeping (h ∷ hs) w = shows_keeping w h ++ lines_keeping hs (happens_keeping w h)

-- what is true of it at every moment: the mappings that live are those that the back and its jobs hold, with those that are kept
pub record IsSafeKeeping (w : World) : Type 0 where
  pub ported : IsPorted w.front.stage w.under.channels
  pub held : AreHeld w.under.grants (all_hands_of w.back)
  pub tidy : IsTidy w.back
  pub front_told : w.front.told ≡ None
  pub back_told : w.back.told ≡ None

-- what happens to a machine that keeps none, and whose back doesn't say that it keeps grants, happens as in one that never does; and so it is after it
pub record GoesAsWithout (w : World) (h : Happening) : Type 0 where
  pub world : happens_keeping w (Plainly h) ≡ happens w h
  pub lines : shows_keeping w (Plainly h) ≡ lines_at w h
  pub disk : (before after : DiskSeen) → DiskGoesKeeping w (Plainly h) before after → DiskGoes w h before after
  pub keeps_none : KeepsNone (let v : World = happens w h in v.back)
  pub silent : back_offers (happens w h) ≡ false

-- and so do whole runs
pub record RunsAsWithout (hs : List Happening) (w : World) : Type 0 where
  pub world : after_keeping (map Plainly hs) w ≡ after hs w
  pub lines : lines_keeping (map Plainly hs) w ≡ lines_of hs w
