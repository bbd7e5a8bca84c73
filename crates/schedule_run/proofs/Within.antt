-- The machine's numbers don't overflow, and happenings led to it.
use Rattle.std.proofs.Common.{◌≡◌, ℕ, ◌+◌, ◌^◌, ◌<◌, ◌≤◌, ◌++◌, inl, inr, List, [], ◌∷◌, sym, subst, arith}
use Rattle.std.specs.Prelude.{◌⊎◌, Result, Ok, Err}
use Rattle.schedule_text.specs.declared.recorder.RecordStop.{RecordStop}
use Rattle.vbd_model.specs.World.{World}
use Rattle.vbd_model.specs.Happening.{Happening, happens}
use Rattle.vbd_model.specs.Leads.{Moment, StopsShowing, LacksMemory, Ends, Goes}
use Rattle.vbd_model.specs.Mappings.{mappings_of}
use Rattle.schedule_run.specs.Machine.{Run, HasSmallCounts, IsReached, IsRunning}
use Rattle.schedule_run.proofs.Counts.{reached_on}

-- one more event
within_on : (w v : World) (events n : ℕ) → n ≤ 10 ^ 10 → events < 10 ^ 9 → mappings_of v ≤ mappings_of w + n → HasSmallCounts w events → HasSmallCounts v (events + 1)
within_on w v events n le few made within =
    let first = within.0 in
    (omega arith, omega arith)

-- what it made happen led on
stopped_reached : (history : List Happening) (last : Happening) (stop : RecordStop) (a b : Moment) → StopsShowing history last stop a b ⊎ LacksMemory history last stop a b → IsReached a.world → IsReached b.world
stopped_reached history last stop a b (inl s) r = subst IsReached (sym s.world) (reached_on a.world (history ++ last ∷ []) r)
stopped_reached history last stop a b (inr s) r = subst IsReached (sym s.world) (reached_on a.world history r)

ends_reached : (kind so_far : List Happening → Type 0) (result : Result (Unit {0}) RecordStop) (a b : Moment) → Ends kind so_far result a b → IsReached a.world → IsReached b.world
ends_reached kind so_far (Ok done) a b e r = subst IsReached (sym e.world) (reached_on a.world e.history r)
ends_reached kind so_far (Err stop) a b e r = stopped_reached e.history e.last stop a b e.stopped r

pub runs_on : (kind so_far : List Happening → Type 0) (n : ℕ) (result : Result (Unit {0}) RecordStop) (a b : Moment) (events : ℕ) (m : Run) → n ≤ 10 ^ 10 → Goes kind so_far n result a b
    → record { world = a.world; events = events } ≡ m → m.events < 10 ^ 9 → IsRunning a.world events → IsRunning b.world (events + 1)
runs_on kind so_far n result a b events m le goes is few runs = record {
  counts = within_on a.world b.world events n le (subst (λ (x : Run). x.events < 10 ^ 9) (sym is) few) goes.keeps.made runs.counts;
  reached = ends_reached kind so_far result a b goes.ends runs.reached;
}

pub runs_one : (h : Happening) (w v : World) (events : ℕ) → events < 10 ^ 9 → v ≡ happens w h → mappings_of v ≤ mappings_of w → IsRunning w events → IsRunning v (events + 1)
runs_one h w v events few is made runs = record {
  counts = within_on w v events 0 (omega arith) few (omega arith) runs.counts;
  reached = subst IsReached (sym is) (reached_on w (h ∷ []) runs.reached);
}
