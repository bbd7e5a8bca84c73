-- The report says rightly how the front connects and closes, and no end breaks the protocol.
use Rattle.std.proofs.Common.{◌≡◌, ℕ, true, false, Bool, ◌&&◌, ◌||◌, List, [], ◌∷◌, ◌++◌, take, drop, get_or, suc, refl, ap, ◌∙◌}
use Rattle.std.specs.Prelude.{Option, Some, None, is_none}
use Rattle.std.proofs.Math.Seq.{split_at}
use Rattle.std.proofs.lemmas.Option.{none-some, cond_some}
use Rattle.blk_base.specs.declared.operation.Status.TheVariants.{Unsupported}
use Rattle.schedule_text.specs.declared.line.Line.{Line}
use Rattle.schedule_text.specs.declared.line.Line.TheVariants as lines
use Rattle.plain_disk.specs.declared.request.DiskRequest.{DiskRequest}
use Rattle.plain_disk.specs.declared.sight.Sight.{Sight}
use Rattle.plain_disk.specs.Request.{is_open}
use Rattle.plain_disk.specs.Disk.{Disk, disk_of, request_of}
use Rattle.plain_disk.specs.Step.{after, replied_of}
use Rattle.report_rules.proofs.Obeys.{obeys_more}
use Rattle.pipeline_laws.specs.Pipeline.{Pipeline, Submits, Refuses, Moves, Connects, StartsToClose, Closes, Leaves, Resumes, Rests, Shows}
use Rattle.pipeline_laws.specs.Allowed.{AreFinished, is_aside}
use Rattle.pipeline_laws.specs.States.{IsServed, IsStateAt, AreStates}
use Rattle.pipeline_laws.specs.Unbroken.{is_breach, IsUnbroken}
use Rattle.pipeline_laws.proofs.AnsweredRuns.{StandsAfter, stands_after}
use Rattle.pipeline_laws.proofs.PlainRuns.{after_append}
use Rattle.pipeline_laws.proofs.Running.{is_of_request, IsSoFar}
use Rattle.pipeline_laws.proofs.Ruled.{move_obeys, Holds}
use Rattle.pipeline_laws.proofs.Serving.{one_line}
use Rattle.pipeline_laws.proofs.Steps.{quiet_stands}

of_request_states : (before : List Line) (line : Line) → is_of_request line ≡ true → IsStateAt before line
of_request_states before lines.Ready e = absurd (cc)
of_request_states before lines.Closing e = absurd (cc)
of_request_states before lines.Closed e = absurd (cc)
of_request_states before (lines.Halt why) e = absurd (cc)
of_request_states before (lines.Broken word) e = absurd (cc)
of_request_states before line e = tt

aside_states : (before : List Line) (line : Line) → is_aside line ≡ true → IsStateAt before line
aside_states before lines.Ready e = absurd (cc)
aside_states before lines.Closing e = absurd (cc)
aside_states before lines.Closed e = absurd (cc)
aside_states before (lines.Halt why) e = absurd (cc)
aside_states before (lines.Broken word) e = absurd (cc)
aside_states before line e = tt

-- where all is finished, all that was submitted is served
served : (before : List Line) (p : Pipeline) (content : List (List ℕ)) → AreFinished p → IsSoFar [] before p content → IsServed before
served before p content over so = record {
  disk = so.disk;
  quiet = after_append before (lines.Quiet ∷ []) (disk_of []) so.disk so.run ∙ one_line so.disk so.disk lines.Quiet (quiet_stands p so.disk content over so.stands);
}

pub states_hold : Holds IsStateAt
states_hold before p content (Submits submission) may so obeys = obeys_more IsStateAt before _ obeys tt
states_hold before p content (Refuses submission refusal) may so obeys = obeys_more IsStateAt before _ obeys tt
states_hold before p content (Moves k x move) may so obeys = move_obeys IsStateAt before k move (λ line of. of_request_states before line of) obeys
states_hold before p content Connects may so obeys = obeys_more IsStateAt before _ obeys (ap (λ (s : Sight). s.connected) so.shown ∙ may.0, so.closed ∙ may.1)
states_hold before p content StartsToClose may so obeys = obeys_more IsStateAt before _ obeys (ap (λ (s : Sight). s.closing) so.shown ∙ may)
states_hold before p content Closes may so obeys = obeys_more IsStateAt before _ obeys (ap (λ (s : Sight). s.closing) so.shown ∙ may.0, so.closed ∙ may.1, served before p content may.2 so)
states_hold before p content (Leaves why) may so obeys = obeys_more IsStateAt before _ obeys (ap (λ (s : Sight). s.closing) so.shown ∙ may.0, may.1, served before p content may.2 so)
states_hold before p content Resumes may so obeys = obeys_more IsStateAt before _ obeys tt
states_hold before p content Rests may so obeys = obeys_more IsStateAt before _ obeys tt
states_hold before p content (Shows line) may so obeys = obeys_more IsStateAt before _ obeys (aside_states before line may)

-- the plain disk takes no reply `unsupported`
no_refusal : (d d' : Disk) (id : ℕ) (r : Option DiskRequest) → replied_of d id Unsupported r ≡ Some d' → ⊥
no_refusal d d' id None e = none-some d' e
no_refusal d d' id (Some r) e = never (is_open r.stage) (is_none r.reply) (cond_some _ _ _ e).0
  where
    never : (a b : Bool) → (a && b && false) ≡ true → ⊥
    never true true t = absurd (cc)
    never true false t = absurd (cc)
    never false b t = absurd (cc)

whole_at : (report before rest : List Line) (line : Line) (first : List (List ℕ)) (d : Disk) → AreStates report → after report (disk_of first) ≡ Some d → report ≡ before ++ line ∷ rest → is_breach line ≡ false
whole_at report before rest line first d states run split = by_line line (states before rest line split) (stands_after report before rest line first d run split)
  where
    by_line : (l : Line) → IsStateAt before l → StandsAfter before l first → is_breach l ≡ false
    by_line (lines.Broken word) state stands = absurd state
    by_line (lines.Halt why) state stands = rw state.1 refl
    by_line (lines.Reply id Unsupported) state stands = absurd (no_refusal stands.disk stands.next id (request_of stands.disk.requests id) stands.taken)
    by_line l state stands = refl

pub unbroken : (report : List Line) (first : List (List ℕ)) (d : Disk) → AreStates report → after report (disk_of first) ≡ Some d → IsUnbroken report
unbroken report first d states run k line within = whole_at report (take k report) (drop (suc k) report) (get_or report k line) first d states run (split_at report k line within)
