-- A move of an end, by what it asks and is answered, and an end that is asked to close: the machine after it, and its lines.
use Rattle.std.specs.Prelude.{◌≡◌, ◌+◌, ◌≤◌, List, [], ◌∷◌, ◌++◌}
use Rattle.blk_io.specs.Disk.{DiskSeen}
use Rattle.blk_base.specs.declared.parts.End.{End}
use Rattle.blk_base.specs.declared.parts.End.TheVariants as end
use Rattle.schedule_text.specs.declared.line.Line.{Line}
use Rattle.schedule_text.specs.declared.line.Line.TheVariants.{Move}
use Rattle.hypervisor.specs.Act.{FrontAct, BackAct}
use Rattle.split_model.specs.Shown.{front_lines, back_lines, halt_lines}
use Rattle.vbd_front.specs.View as front
use Rattle.vbd_front.specs.Step as front_step
use Rattle.vbd_back.specs.View as back
use Rattle.vbd_back.specs.Step as back_step
use Rattle.vbd_model.specs.World.{World, frontend_of, backend_of}
use Rattle.vbd_model.specs.Happening.{Happening, FrontMoves, BackMoves, Closes, happens, lines_at, DiskGoes}
use Rattle.vbd_model.specs.News.{news_lines}

-- the frontend was answered, and what lies under both ends is as the act left it; it calls no disk, and makes no mapping
pub record IsFrontMove (w : World) (a : FrontAct) : Type 0 where
  pub world :
      let v : front.View = front_step.step_of (frontend_of w) a.answer in
      happens w FrontMoves ≡ record { rings = record { front = (front.heard v).ring; back = w.rings.back; under = a.under }; front = v.bus; back = w.back }
  pub lines :
      let v : front.View = front_step.step_of (frontend_of w) a.answer in
      lines_at w FrontMoves ≡ Move a.shown ∷ (front_lines v.ring.told ++ news_lines v.news)
  pub disk : (d : DiskSeen) → DiskGoes w FrontMoves d d
  pub made : a.under.grants.made ≡ w.rings.under.grants.made

-- the backend was; it calls no disk, and makes one mapping at most
pub record IsBackMove (w : World) (a : BackAct) : Type 0 where
  pub world :
      let v : back.View = back_step.step_of (backend_of w) a.answer in
      happens w BackMoves ≡ record { rings = record { front = w.rings.front; back = (back.heard v).ring; under = a.under }; front = w.front; back = v.bus }
  pub lines :
      let v : back.View = back_step.step_of (backend_of w) a.answer in
      lines_at w BackMoves ≡ Move a.shown ∷ (back_lines v.ring.told a.answer ++ halt_lines w.rings.back.halted v.ring.halted)
  pub disk : (d : DiskSeen) → DiskGoes w BackMoves d d
  pub made : a.under.grants.made ≤ w.rings.under.grants.made + 1

-- the machine after an end was asked to close, and what that shows
abbrev pub closed_by : World → End → World
closed_by w end.Front =
    let v : front.View = front_step.closes (frontend_of w) in
    record { rings = record { front = (front.heard v).ring; back = w.rings.back; under = w.rings.under }; front = v.bus; back = w.back }
closed_by w end.Back = let v : back.View = back_step.closes (backend_of w) in record { rings = w.rings; front = w.front; back = v.bus }

abbrev pub close_lines : World → End → List Line
close_lines w end.Front = let v : front.View = front_step.closes (frontend_of w) in news_lines v.news
close_lines w end.Back = []

-- the end was asked to close; it calls no disk
pub record IsClose (w : World) (at : End) : Type 0 where
  pub world : happens w (Closes at) ≡ closed_by w at
  pub lines : lines_at w (Closes at) ≡ close_lines w at
  pub disk : (d : DiskSeen) → DiskGoes w (Closes at) d d

-- nothing happened
pub record IsNoMove (w : World) (h : Happening) : Type 0 where
  pub world : happens w h ≡ w
  pub lines : lines_at w h ≡ []
  pub disk : (d : DiskSeen) → DiskGoes w h d d
