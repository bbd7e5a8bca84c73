-- Where no mapping may be kept, jobs ask and do what they would without.
use Rattle.std.proofs.Common.{◌≡◌, ℕ, Bool, true, false, List, [], ◌∷◌, refl, sym, ap, ◌∙◌}
use Rattle.std.specs.Prelude.{Option, Some, None}
use Rattle.std.specs.Option.{option_or}
use Rattle.blk_base.specs.declared.parts.Mapping.{Mapping}
use Rattle.blk_base.specs.declared.ask.BackAnswer.{BackAnswer}
use Rattle.blk_layout.specs.declared.segment.Segment.{Segment}
use Rattle.blk_layout.specs.declared.request.RawRequest.{RawRequest}
use Rattle.segment_list.specs.Verdict.{verdict_of}
use Rattle.persist_grants.specs.KeptMappings.{KeptMappings, none_kept, may_keep, least_recent, without_least_recent}
use Rattle.back_jobs.specs.declared.stage.JobStage.{JobStage}
use Rattle.back_jobs.specs.declared.stage.JobStage.TheVariants as stage
use Rattle.back_jobs.specs.Work.{Work, step_of, begun}
use Rattle.back_jobs.specs.Jobs.{HeldJobs, place_of, work_of, waits, waits_at, asked, ask_job, told_at, complete_job, start_job, first_mapping, after_mapping}
use Rattle.back_jobs.specs.Keeping.{waits_in, asked_in, ask_keeping, takes, settled_at, settled, with_settled, with_begun, told_keeping, complete_keeping, start_keeping, first_given, given_from, after_given}

-- what settles changes nothing
takes_plain : (rest : List Segment) (t : Work) → takes (none_kept 0) rest t ≡ record { kept = none_kept 0; job = t }
takes_plain [] t = refl
takes_plain (s ∷ rest) t = refl

settled_plain_at : (s : JobStage) (t : Work) → t.stage ≡ s → settled_at s (none_kept 0) t ≡ record { kept = none_kept 0; job = t }
settled_plain_at stage.Map t is = takes_plain t.rest t
settled_plain_at (stage.Unmap m) t is = ap (λ (s : JobStage). record { kept = none_kept 0; job = record t { stage = s } }) (sym is)
settled_plain_at (stage.Abort m) t is = ap (λ (s : JobStage). record { kept = none_kept 0; job = record t { stage = s } }) (sym is)
settled_plain_at s t is = refl

settled_plain : (kept : KeptMappings) (t : Work) → kept ≡ none_kept 0 → settled kept t ≡ record { kept = kept; job = t }
settled_plain kept t e = ap (λ (k : KeptMappings). settled k t) e ∙ (settled_plain_at t.stage t refl ∙ ap (λ (k : KeptMappings). record { kept = k; job = t }) (sym e))

asked_plain : (held : Bool) (o : Option Work) → asked_in false held o ≡ asked held o
asked_plain held None = refl
asked_plain true (Some t) = refl
asked_plain false (Some t) = refl

waits_plain : (works : List Work) (place : Option ℕ) (o : Option Work) → waits_in false works place o ≡ waits_at works place o
waits_plain works None o = refl
waits_plain works (Some place) None = refl
waits_plain works (Some place) (Some t) = refl

pub plain_ask : (h : HeldJobs) (number : ℕ) → h.kept ≡ none_kept 0 → ask_keeping h number ≡ ask_job h number
plain_ask h number e =
    let o = work_of h.works number in
    ap (λ (k : KeptMappings). asked_in (may_keep k) (waits_in (may_keep k) h.works (place_of h.works number) o) o) e
    ∙ (ap (λ (b : Bool). asked_in false b o) (waits_plain h.works (place_of h.works number) o) ∙ asked_plain (waits h.works number) o)

told_plain : (h : HeldJobs) (place : Option ℕ) (o : Option Work) (a : BackAnswer) → h.kept ≡ none_kept 0 → told_keeping h place o a ≡ record h { works = told_at h.works place o a }
told_plain h None o a e = refl
told_plain h (Some place) None a e = refl
told_plain h (Some place) (Some t) a e = ap (with_settled h place) (settled_plain h.kept (step_of t a) e)

pub plain_told : (h : HeldJobs) (number : ℕ) (a : BackAnswer) → h.kept ≡ none_kept 0 → complete_keeping h number a ≡ complete_job h number a
plain_told h number a e = told_plain h (place_of h.works number) (work_of h.works number) a e

pub plain_started : (h : HeldJobs) (number : ℕ) (request : RawRequest) → h.kept ≡ none_kept 0 → start_keeping h number request ≡ start_job h number request
plain_started h number request e = ap (with_begun h) (settled_plain h.kept (begun number request h.info.sectors (verdict_of request h.info)) e)

or_none : (o : Option Mapping) → option_or o None ≡ o
or_none None = refl
or_none (Some m) = refl

pub plain_first : (h : HeldJobs) → h.kept ≡ none_kept 0 → first_given h ≡ first_mapping h.works
plain_first h e = ap (λ (k : KeptMappings). option_or (first_mapping h.works) (least_recent k)) e ∙ or_none (first_mapping h.works)

given_plain : (o : Option Mapping) (h : HeldJobs) → h.kept ≡ none_kept 0 → given_from o h ≡ record h { works = after_mapping h.works }
given_plain (Some m) h e = refl
given_plain None h e =
    ap (λ (k : KeptMappings). record h { works = after_mapping h.works; kept = without_least_recent k }) e
    ∙ ap (λ (k : KeptMappings). record h { works = after_mapping h.works; kept = k }) (sym e)

pub plain_after : (h : HeldJobs) → h.kept ≡ none_kept 0 → after_given h ≡ record h { works = after_mapping h.works }
plain_after h e = given_plain (first_mapping h.works) h e
