-- All words of some rounds at once: where the machine comes, and what a recorder without lines of moves sees of that.
use Rattle.std.proofs.Common.{◌≡◌, ℕ, ◌*◌, ◌<◌, ◌≤◌, refl, sym, ap, ◌∙◌, subst, arith}
use Rattle.std.specs.Prelude.{Option, Some, None, IfSome, map}
use Rattle.blk_io.specs.Disk.{DiskSeen}
use Rattle.schedule_text.specs.declared.line.Detail.TheVariants.{Lines}
use Rattle.schedule_text.specs.Recorder.{RecorderSeen}
use Rattle.hypervisor.specs.Hypervisor.{Hypervisor}
use Rattle.hypervisor.specs.Act.{with_pages}
use Rattle.xenbus_state.specs.declared.front.FrontNews.{FrontNews}
use Rattle.xenbus_state.specs.BackView.{BackView}
use Rattle.vbd_front.specs.View as front
use Rattle.vbd_front.specs.Part.{steps_of}
use Rattle.back_jobs.specs.declared.part.SectorPart.{SectorPart as JobPart}
use Rattle.vbd_back.specs.View.{View, both}
use Rattle.vbd_back.specs.Part.{entry_part, steps_of as back_steps}
use Rattle.vbd_model.specs.World.{World, frontend_of}
use Rattle.vbd_model.specs.Fit.{IsFit}
use Rattle.vbd_model.specs.Leads.{Moment, Keeps, moment}
use Rattle.vbd_laws.proofs.Fit.{fit_after}
use Rattle.round_laws.specs.Movers.{FrontWords, front_words, front_answers, front_writes, back_answers, job_moved, jobs_write, FrontGoesOn, BackGoesOn}
use Rattle.round_laws.specs.AtOnce.{with_jobs, back_moved, moved, GoUnseen}
use Rattle.round_laws.specs.Calls.{MayMoveAtOnce}
use Rattle.round_laws.proofs.BackReads.{HasCopied, stays_busy}
use Rattle.round_laws.proofs.Rounds.{rounds_lead_there}
use Rattle.round_laws.proofs.Unseen.{rounds_go_unseen}
use Rattle.round_laws.proofs.Moving.{AllMoved}
use Rattle.round_laws.proofs.Ending.{all_at_once}
use Rattle.schedule_run.specs.Inside.{world_of, HasHeard}
use Rattle.schedule_run.specs.Going.{GoneThrough}

-- the machine is as fit as before
pub moved_fit : (n : ℕ) (w : World) → MayMoveAtOnce n w → IsFit w → IsFit (moved n w)
moved_fit n w may fit = let there = rounds_lead_there n w may.words in subst IsFit there.passes.world (fit_after there.history w fit)

-- the front as the machine has it
pub heard_so : (f : front.View) → HasHeard f → f ≡ record { ring = f.ring; bus = f.bus; news = None }
heard_so f heard = ap (λ (news : Option FrontNews). record { ring = f.ring; bus = f.bus; news = news }) heard

-- it has as many words left
pub front_few : (n : ℕ) (f : front.View) (b : View) (u : Hypervisor) → HasHeard f → MayMoveAtOnce n (world_of f b u) → IfSome (front_words f) (λ p. n ≤ p.count)
front_few n f b u heard may = subst (λ (g : front.View). IfSome (front_words g) (λ p. n ≤ p.count)) (sym (heard_so f heard)) (few (front_words (frontend_of (world_of f b u))) may.words.front)
  where
    few : (o : Option FrontWords) → FrontGoesOn n (world_of f b u) o → IfSome o (λ p. n ≤ p.count)
    few None goes = tt
    few (Some p) goes = let less = goes.0 in omega arith

-- so has the back in its entry
pub back_few : (n : ℕ) (f : front.View) (b : View) (u : Hypervisor) → MayMoveAtOnce n (world_of f b u) → IfSome (entry_part b) (λ p. n ≤ p.count)
back_few n f b u may = few (entry_part b) may.words.back
  where
    few : (o : Option JobPart) → BackGoesOn n b u o → IfSome o (λ p. n ≤ p.count)
    few None goes = tt
    few (Some p) goes = let less = goes.0 in omega arith

-- the calls for the words of the back, for those of all jobs, and for those of the front, lead where the rounds lead
pub moved_so : (n : ℕ) (f g : front.View) (b m c : View) (u t x : Hypervisor) → HasHeard f → MayMoveAtOnce n (world_of f b u) → m ≡ back_steps b (back_answers u (entry_part b) n)
    → c ≡ both (with_jobs m.ring (map (job_moved u n) m.ring.jobs.works)) m.bus → t ≡ with_pages u (jobs_write u n m.ring.jobs.works u.pages)
    → g ≡ steps_of f (front_answers (front_words f) t.pages n) → x ≡ with_pages t (front_writes (front_words f) n t.pages) → world_of g c x ≡ moved n (world_of f b u)
moved_so n f g b m c u t x heard may copied jobs written stepped wrote =
    let w : World = world_of f b u in
    let same : f ≡ frontend_of w = heard_so f heard in
    let back : HasCopied w n (entry_part b) = (stays_busy w n (entry_part b) refl may.words.back).copied in
    let bus : c.bus ≡ b.bus = ap (λ (v : View). v.bus) jobs ∙ (ap (λ (v : View). v.bus) copied ∙ ap (λ (v : View). v.bus) back.is) in
    let all : AllMoved n u (let y : View = back_moved n w in y.ring) c.ring t = record {
      back = ap (λ (v : View). v.ring) jobs ∙ ap (λ (v : View). with_jobs v.ring (map (job_moved u n) v.ring.jobs.works)) copied;
      under = written ∙ ap (λ (v : View). with_pages u (jobs_write u n v.ring.jobs.works u.pages)) copied;
    } in
    ap (λ (y : BackView). record { rings = record { front = g.ring; back = c.ring; under = x }; front = g.bus; back = y }) bus
    ∙ all_at_once n w g c.ring t x may all (stepped ∙ ap (λ (y : front.View). steps_of y (front_answers (front_words y) t.pages n)) same)
    (wrote ∙ ap (λ (y : front.View). with_pages t (front_writes (front_words y) n t.pages)) same)

-- so many rounds went by
keeps_more : (n : ℕ) (a b : Moment) → Keeps (40 * n) a b → Keeps (42 * n) a b
keeps_more n a b keeps = let made = keeps.made in record { made = omega arith; sectors = keeps.sectors; attachment = keeps.attachment }

pub gone_at_once : (n k most : ℕ) (w v : World) (d : DiskSeen) (r : RecorderSeen) → k ≡ n → 0 < n → n ≤ most → MayMoveAtOnce n w → v ≡ moved n w → r.detail ≡ Lines → GoneThrough k most (moment w d r) (moment v d r)
gone_at_once n k most w v d r same some few may is plain =
    let gone : GoUnseen n w d r = rounds_go_unseen n w d r may.words plain in
    rw (same, is)
    (record {
      some = some;
      few = few;
      rounds = record { ends = gone.lead; keeps = keeps_more n (moment w d r) (moment (moved n w) d r) gone.keeps };
      unquiet = λ busy. record { ends = gone.unquiet busy; keeps = keeps_more n (moment w d r) (moment (moved n w) d r) gone.keeps };
    })
