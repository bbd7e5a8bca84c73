-- What the lines tell of jobs, mappings and replies where a back begins, at the first line and after each epoch: nothing yet.
use Rattle.std.proofs.Common.{◌≡◌, ℕ, ◌≤◌, false, List, [], ◌∷◌, ◌++◌, fold, refl, ap, sym, ◌∙◌, subst}
use Rattle.std.specs.Prelude.{None}
use Rattle.std.specs.List.{AllByRecursion, filter_map, list_any}
use Rattle.std.proofs.lemmas.List.Sums.{fold-append}
use Rattle.blk_base.specs.Options.{Options}
use Rattle.schedule_text.specs.declared.line.Line.{Line}
use Rattle.schedule_text.specs.declared.line.Line.TheVariants as lines
use Rattle.grant_table.specs.Table.{GrantTable, revoked_table}
use Rattle.report_rules.specs.Obeys.{Obeys}
use Rattle.report_rules.specs.Standing.{this_epoch}
use Rattle.report_rules.specs.Published.{no_disk, info_told, kept_by, keeping_after}
use Rattle.report_rules.specs.Effect.{disk_move_shown}
use Rattle.report_rules.specs.Reply.{value_written, answered_in, IsReplyAt}
use Rattle.report_rules.proofs.Back.{standing_more}
use Rattle.report_rules.proofs.Obeys.{obeys_more}
use Rattle.report_rules.proofs.Prefixes.{answered_more}
use Rattle.back_jobs.specs.Work.{Work}
use Rattle.blk_back.specs.declared.stage.BackStage.{BackStage}
use Rattle.blk_back.specs.View as back
use Rattle.blk_back.specs.View.{info_of as back_info}
use Rattle.ring_laws.proofs.Anew.{epoch_begins}
use Rattle.ring_laws.proofs.JobLines.{is_of}
use Rattle.ring_laws.proofs.Began.{Terms}
use Rattle.ring_laws.proofs.Works.{AreJobs, no_jobs}
use Rattle.ring_laws.proofs.Bystanders.{IsRule, OffersNone, Tale, shown_last, no_effect}
use Rattle.ring_laws.proofs.Fetched.{AreFetched, nothing_fetched}
use Rattle.ring_laws.proofs.Tells.{Tells, terms_of}
use Rattle.ring_laws.proofs.Standings.{Stands}
use Rattle.ring_laws.proofs.Makers.{IsMine}
use Rattle.ring_laws.proofs.MakerTurns.{IsMadeBy, Made}
use Rattle.ring_laws.proofs.Due.{Answered, under_way, Writes}
use Rattle.ring_laws.proofs.Written.{unwritten_at, pushes_none}
use Rattle.ring_laws.proofs.EntryWords.{entry_values, values_anew, fetching_anew}

-- the rules on jobs allow the line of an epoch, which tells nothing of options or grants
pub epoch_tale : (config : Options) (before : List Line) → Tale config before → disk_move_shown before ≡ None → Tale config (before ++ lines.Epoch ∷ [])
epoch_tale config before t quiet = record {
  obeys = obeys_more IsRule before lines.Epoch t.obeys (record { step = tt; moved = tt; effect = no_effect before lines.Epoch quiet refl });
  keeping = subst OffersNone (sym (ap (λ (ls : List Line). fold keeping_after (kept_by false false) ls) (epoch_begins before))) refl;
  told = fold-append info_told no_disk before (lines.Epoch ∷ []) ∙ t.told;
}

-- a back that holds no job, in an epoch of which no line is a job's
pub new_tells : (config : Options) (before : List Line) (v : back.View) → Tale config before → disk_move_shown before ≡ None → v.jobs.info ≡ back_info config → config.indirect ≤ 960 → v.jobs.works ≡ []
    → ((k : ℕ) → list_any (is_of k) (this_epoch before) ≡ false) → Tells config before v
new_tells config before v tale quiet info room none unseen = record {
  tale = tale;
  quiet = quiet;
  info = info;
  room = room;
  jobs = λ running. subst (λ (ws : List Work). AreJobs (terms_of config v) (entry_values before) (this_epoch before) v.fetched ws) (sym none) (no_jobs (terms_of config v) (entry_values before) (this_epoch before) v.fetched);
  unseen = λ k above. unseen k;
}

pub epoch_tells : (config : Options) (before : List Line) (old v : back.View) → Tells config before old → v.jobs.info ≡ old.jobs.info → v.jobs.works ≡ [] → Tells config (before ++ lines.Epoch ∷ []) v
epoch_tells config before old v t info none =
    new_tells config (before ++ lines.Epoch ∷ []) v (epoch_tale config before t.tale t.quiet) (shown_last before lines.Epoch) (info ∙ t.info) t.room none (λ k. ap (λ (ls : List Line). list_any (is_of k) ls) (epoch_begins before))

-- nothing was fetched
pub epoch_fetched : (terms : Terms) (before : List Line) → AreFetched terms (before ++ lines.Epoch ∷ [])
epoch_fetched terms before = nothing_fetched terms (before ++ lines.Epoch ∷ []) (fetching_anew before) (values_anew before)

-- no mapping stands
pub epoch_stands : (before : List Line) (table : GrantTable) → Stands (before ++ lines.Epoch ∷ []) (revoked_table table)
epoch_stands before table = standing_more before lines.Epoch

-- no job has anything in its hand
pub new_made : (before : List Line) (v : back.View) → Obeys IsMine before → v.jobs.works ≡ [] → Made before v
new_made before v obeys none = record { obeys = obeys; hands = λ runs. subst (λ (ws : List Work). AllByRecursion (IsMadeBy (this_epoch before)) ws) (sym none) tt }

pub epoch_made : (before : List Line) (old v : back.View) → Made before old → v.jobs.works ≡ [] → Made (before ++ lines.Epoch ∷ []) v
epoch_made before old v m none = new_made (before ++ lines.Epoch ∷ []) v (obeys_more IsMine before lines.Epoch m.obeys (record { unmap = tt; touch = tt })) none

-- no word of a reply was written, and no job was answered
pub epoch_writes : (before : List Line) (s t : BackStage) (answered : List Answered) → under_way t ≡ [] → Writes before s answered → Writes (before ++ lines.Epoch ∷ []) t []
epoch_writes before s t answered none w = record {
  obeys = obeys_more IsReplyAt before lines.Epoch w.obeys (unwritten_at before lines.Epoch s answered w refl refl);
  words = ap (λ (ls : List Line). filter_map (value_written (before ++ lines.Epoch ∷ [])) ls) (epoch_begins before) ∙ sym none;
  pushed = pushes_none before lines.Epoch refl;
}

pub epoch_unanswered : (before : List Line) → answered_in (before ++ lines.Epoch ∷ []) ≡ []
epoch_unanswered before = answered_more before lines.Epoch
