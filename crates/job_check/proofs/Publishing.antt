-- What was published, one line further.
use Rattle.std.proofs.Common.{◌≡◌, Bool, true, false, if◌then◌else◌, List, [], ◌∷◌, ◌++◌, refl, ap, sym, ◌∙◌}
use Rattle.std.specs.Prelude.{fold}
use Rattle.std.proofs.lemmas.List.Sums.{fold-append}
use Rattle.blk_layout.specs.declared.request.RawRequest.{RawRequest}
use Rattle.segment_list.specs.declared.verdict.DiskInfo.{DiskInfo}
use Rattle.schedule_text.specs.declared.line.Line.{Line}
use Rattle.schedule_text.specs.declared.line.Line.TheVariants as lines
use Rattle.report_rules.specs.declared.published.Keeping.{Keeping}
use Rattle.report_rules.specs.Standing.{is_epoch, this_epoch}
use Rattle.report_rules.specs.declared.job.Fetched.{Fetched}
use Rattle.report_rules.specs.Stretch.{fetched_with}
use Rattle.report_rules.specs.Published.{no_disk, info_told, kept_by, keeping_after, is_kept}
use Rattle.job_check.specs.Published.{Published, nothing_published, published_after, is_persistent}
use Rattle.job_check.proofs.Telling.{longer, anew}

pub record IsPublished (before : List Line) (p : Published) : Type 0 where
  pub info : p.info ≡ fold info_told no_disk before
  pub keeping : p.keeping ≡ fold keeping_after (kept_by false false) (this_epoch before)

pub published_none : IsPublished [] nothing_published
published_none = record { info = refl; keeping = refl }

info_more : (before : List Line) (line : Line) → fold info_told no_disk (before ++ line ∷ []) ≡ info_told (fold info_told no_disk before) line
info_more before line = fold-append info_told no_disk before (line ∷ [])

epoch_tells : (info : DiskInfo) (line : Line) → is_epoch line ≡ true → info_told info line ≡ info
epoch_tells info lines.Epoch e = refl
epoch_tells info line e = absurd (cc)

published_anew : (before : List Line) (line : Line) (p : Published) → IsPublished before p → is_epoch line ≡ true → IsPublished (before ++ line ∷ []) (record nothing_published { info = p.info })
published_anew before line p is e =
    let none : this_epoch (before ++ line ∷ []) ≡ [] = anew before line e in
    record {
      info = is.info ∙ sym (info_more before line ∙ epoch_tells (fold info_told no_disk before) line e);
      keeping = sym (ap (λ (xs : List Line). fold keeping_after (kept_by false false) xs) none);
    }

published_further : (before : List Line) (line : Line) (p : Published) → IsPublished before p → is_epoch line ≡ false
    → IsPublished (before ++ line ∷ []) (record { info = info_told p.info line; keeping = keeping_after p.keeping line })
published_further before line p is e =
    let more : this_epoch (before ++ line ∷ []) ≡ this_epoch before ++ line ∷ [] = longer before line e in
    record {
      info = ap (λ (i : DiskInfo). info_told i line) is.info ∙ sym (info_more before line);
      keeping = ap (λ (s : Keeping). keeping_after s line) is.keeping ∙ sym (ap (λ (xs : List Line). fold keeping_after (kept_by false false) xs) more ∙ fold-append keeping_after (kept_by false false) (this_epoch before) (line ∷ []));
    }

pub published_more : (before : List Line) (line : Line) (p : Published) → IsPublished before p → IsPublished (before ++ line ∷ []) (published_after p line)
published_more before line p is = by_epoch (is_epoch line) refl
  where
    by_epoch : (b : Bool) → is_epoch line ≡ b → IsPublished (before ++ line ∷ []) (if b then record nothing_published { info = p.info } else record { info = info_told p.info line; keeping = keeping_after p.keeping line })
    by_epoch true e = published_anew before line p is e
    by_epoch false e = published_further before line p is e

abbrev told_by : RawRequest → DiskInfo → Keeping → Fetched
told_by request info keeping = record { request = request; disk = info; persistent = is_kept keeping }

-- a job that is fetched now is judged by what is kept
pub fetched_is : (before : List Line) (p : Published) (request : RawRequest) → IsPublished before p → fetched_with before request ≡ record { request = request; disk = p.info; persistent = is_persistent p }
fetched_is before p request is =
    sym (ap (λ (i : DiskInfo). told_by request i p.keeping) is.info
    ∙ ap (λ (k : Keeping). told_by request (fold info_told no_disk before) k) is.keeping)
