-- Rounds of words leave a recorder that keeps no moves as it was, and each disk; and no mapping more may come.
use Rattle.std.proofs.Common.{◌≡◌, ℕ, ◌+◌, ◌*◌, List, [], ◌∷◌, ◌++◌, map, refl, sym, ap, ◌∙◌, arith}
use Rattle.std.specs.Prelude.{fold}
use Rattle.std.specs.List.{AllByRecursion}
use Rattle.blk_io.specs.Disk.{DiskSeen}
use Rattle.schedule_text.specs.declared.line.Detail.TheVariants.{Lines}
use Rattle.schedule_text.specs.declared.line.Line.{Line}
use Rattle.schedule_text.specs.declared.line.Line.TheVariants.{Move}
use Rattle.schedule_text.specs.Recorder.{RecorderSeen, Gained, recorded, kept_of, gained}
use Rattle.schedule_text.proofs.Adding.{gained_none}
use Rattle.hypervisor.specs.Hypervisor.{Hypervisor}
use Rattle.back_jobs.specs.Work.{Work}
use Rattle.blk_back.specs.View as back_ring
use Rattle.vbd_back.specs.View.{View as Backend}
use Rattle.vbd_back.specs.Part.{entry_part}
use Rattle.vbd_model.specs.World.{World, backend_of}
use Rattle.vbd_model.specs.Happening.{lines_of}
use Rattle.vbd_model.specs.Leads.{Keeps, moment}
use Rattle.vbd_model.specs.Mappings.{maps_left, words_copied}
use Rattle.round_laws.specs.Movers.{part_of, job_moved, JobGoesOn}
use Rattle.round_laws.specs.AtOnce.{back_moved, moved, AreOfWords, IsMoveLine, LeadThere}
use Rattle.round_laws.specs.Laws.{RoundsGoUnseen}
use Rattle.round_laws.proofs.JobWords.{maps_same}
use Rattle.round_laws.proofs.BackReads.{HasCopied, stays_busy}
use Rattle.round_laws.proofs.Rounds.{rounds_lead_there}

-- lines of moves are not kept
one_unkept : (line : Line) → IsMoveLine line → recorded Lines line ≡ []
one_unkept (Move move) is = refl
one_unkept line is = absurd is

none_kept : (lines : List Line) → AllByRecursion IsMoveLine lines → kept_of Lines lines ≡ []
none_kept [] all = refl
none_kept (line ∷ lines) all = ap (λ (l : List Line). l ++ kept_of Lines lines) (one_unkept line all.0) ∙ none_kept lines all.1

unseen : (lines : List Line) (r : RecorderSeen) → AllByRecursion IsMoveLine lines → r.detail ≡ Lines → Gained lines r r
unseen lines r all plain = record {
  told = (gained_none r).told ∙ ap (gained r.told) (sym (ap (λ detail. kept_of detail lines) plain ∙ none_kept lines all));
  detail = refl;
  faults = refl;
  lender = refl;
}

-- the jobs may come to make as many mappings as before
maps_all : (h : Hypervisor) (n : ℕ) (v : back_ring.View) (works : List Work) (sum : ℕ) → AllByRecursion (λ (t : Work). JobGoesOn n v t (part_of t)) works
    → fold (λ a (t : Work). a + maps_left t) sum (map (job_moved h n) works) ≡ fold (λ a (t : Work). a + maps_left t) sum works
maps_all h n v [] sum goes = refl
maps_all h n v (t ∷ works) sum goes =
    ap (λ k. fold (λ a (u : Work). a + maps_left u) (sum + k) (map (job_moved h n) works)) (maps_same h n v t goes.0)
    ∙ maps_all h n v works (sum + maps_left t) goes.1

keeps : (n : ℕ) (w : World) (d : DiskSeen) (r : RecorderSeen) → AreOfWords n w → Keeps (40 * n) (moment w d r) (moment (moved n w) d r)
keeps n w d r is =
    let same = maps_all w.rings.under n w.rings.back w.rings.back.jobs.works 0 is.jobs in
    let c : HasCopied w n (entry_part (backend_of w)) = (stays_busy w n (entry_part (backend_of w)) refl is.back).copied in
    let words : words_copied (let b : Backend = back_moved n w in b.ring.stage) ≡ words_copied c.stage = ap (λ (b : Backend). words_copied b.ring.stage) c.is in
    let few = c.few in
    record { made = omega (arith, same, words, few); sectors = ap (λ (b : Backend). b.ring.jobs.info.sectors) c.is; attachment = refl }

pub rounds_go_unseen : RoundsGoUnseen
rounds_go_unseen n w d r is plain =
    let there : LeadThere n w = rounds_lead_there n w is in
    let told : Gained (lines_of there.history w) r r = unseen (lines_of there.history w) r there.passes.shown plain in
    record {
      lead = record { history = there.history; is_kind = there.rounds; world = sym there.passes.world; disk = there.passes.disk d; told = told };
      unquiet = λ busy. record { history = there.history; is_kind = there.unquiet busy; world = sym there.passes.world; disk = there.passes.disk d; told = told };
      keeps = keeps n w d r is;
    }
