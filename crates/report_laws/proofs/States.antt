-- Each end's state has the text that the lines of the epoch set last, or the one that an epoch begins with, so where all is found quiet the lines say what the directory says.
use Rattle.std.proofs.Common.{◌≡◌, ◌≢◌, ℕ, ◌||◌, not, Bool, true, false, true≢false, if◌then◌else◌, List, [], ◌∷◌, ◌++◌, inl, inr, refl, sym, ap, ◌∙◌, subst}
use Rattle.std.specs.Prelude.{Option, Some, None, codes, map}
use Rattle.std.specs.List.{AllByRecursion, list_any}
use Rattle.std.specs.Str.{bytes_eq}
use Rattle.std.proofs.lemmas.Option.{same_Some}
use Rattle.std.proofs.lemmas.Slice.Eq.{bytes_eq-Decides}
use Rattle.blk_base.specs.Options.{Options}
use Rattle.blk_base.specs.declared.parts.End.{End}
use Rattle.blk_base.specs.declared.parts.End.TheVariants as end
use Rattle.blk_base.specs.declared.ask.FrontAsk.{FrontAsk}
use Rattle.blk_base.specs.declared.ask.BackAsk.{BackAsk}
use Rattle.blk_base.specs.declared.moves.BackMover.{BackMover}
use Rattle.blk_base.specs.declared.moves.BackMover.TheVariants as back_mover
use Rattle.blk_base.specs.declared.moves.Mover.TheVariants as mover
use Rattle.blk_base.specs.declared.moves.Move.TheVariants as moves
use Rattle.schedule_text.specs.declared.line.Detail.TheVariants.{Moves}
use Rattle.schedule_text.specs.declared.line.Line.{Line}
use Rattle.schedule_text.specs.declared.line.Line.TheVariants as lines
use Rattle.schedule_text.specs.Recorder.{kept_of}
use Rattle.key_directory.specs.Watches.{Watches}
use Rattle.key_directory.specs.Directory.{Directory, key_of, with_key, with_watches, fresh_directory}
use Rattle.key_directory.proofs.Entries.{key_of-with_key_same, key_of-with_key_other}
use Rattle.hypervisor.specs.Hypervisor.{Hypervisor}
use Rattle.hypervisor.specs.Act.{FrontAct, BackAct, Outcome, Took, front_act, back_act}
use Rattle.blk_front.specs.View as front
use Rattle.blk_front.specs.State.{is_open}
use Rattle.blk_front.specs.Ask as front_ends
use Rattle.blk_front.specs.Step as front_step
use Rattle.blk_back.specs.View as back
use Rattle.blk_back.specs.Ask as back_ends
use Rattle.blk_back.specs.Ask.{is_led}
use Rattle.blk_back.specs.Keeping.{step_keeping, job_step_keeping, job_ask_keeping, halts_keeping}
use Rattle.split_model.specs.World.{World, start_of, state_after}
use Rattle.split_model.specs.Shown.{back_lines, halt_lines}
use Rattle.split_model.specs.Keys.{KeyMove, Gets, front_path}
use Rattle.split_model.specs.Happening.{Happening, FrontMoves, BackMoves, JobMoves, Negotiates, BackAttaches, BackHalts, OverwritesKey, Suspends, Looks, Settles, happens, lines_at, front_shows, front_turn, back_turn}
use Rattle.split_model.specs.Kept.{KeepingHappening, Plainly, BackOffers, BackKeeps, offering_path, is_other_read, offered, offer_line, kept_so, keeping_line, reads_keeping, back_after_keeping, back_shows_keeping, job_turn_keeping, job_after_keeping, job_shows_keeping, plainly_after, plainly_shows, happens_keeping, shows_keeping, after_keeping, IsSafeKeeping}
use Rattle.split_model.specs.Report.{report_of, ended_report_of}
use Rattle.split_model.proofs.Keys.{key_cases, negotiated_cases, keys_happen, back_stays, backs_no_key, jobs_no_key}
use Rattle.split_model.proofs.Suspending.{suspend_cases}
use Rattle.split_model.proofs.Attaching.{attach_lines_are}
use Rattle.split_model.proofs.Overwriting.{overwriting_cases}
use Rattle.split_model.proofs.SafeActs.{AsksBackKey}
use Rattle.split_model.proofs.SafeAnswers.{AsksNoKey, fronts_no_key, backs_of, jobs_keeping}
use Rattle.move_laws.specs.Kept.{report_keeping, ended_report_keeping}
use Rattle.move_laws.proofs.Recorded.{report_kept_keeping, ended_kept_keeping}
use Rattle.report_rules.specs.Obeys.{Obeys}
use Rattle.report_laws.specs.Ready.{says_over}
use Rattle.report_laws.specs.States.{front_state, back_state, begun_text, text_at, text_after, said_last, SayBoth, says_closing, IsAgreedAt, AreStatesAgreed}
use Rattle.report_laws.specs.Agreed.{HasBoth, AreAlike, AreAgreed}
use Rattle.split_model.proofs.Showing.{IsTold, MayShow, lines_are, front_told_is, back_told_is, halt_is, both_all}
use Rattle.split_model.proofs.Acting.{FrontSet, front_acts, BackSet, back_acts}
use Rattle.report_laws.specs.Kept.{AreEach, IsAgreedKeeping}
use Rattle.report_laws.proofs.KeptReports.{as_plain, report_up, plain_all, plain_report, plain_ended}
use Rattle.report_laws.proofs.Announced.{IsSaid, one_said}
use Rattle.report_laws.proofs.Closing.{closing_announced}
use Rattle.report_laws.proofs.Gone.{IsToldOver, one_over}
use Rattle.report_laws.proofs.Looks.{SpeaksOfQuiet, finds_quiet, keeping_obeys, begun_obeys, over_obeys}

-- a line that sets no key and begins no epoch
abbrev sets_none : Line → Bool
sets_none (lines.Move (moves.SetKey who path text)) = false
sets_none (lines.Key name text) = false
sets_none lines.Epoch = false
sets_none line = true

abbrev IsSilent : Line → Type 0
IsSilent line = sets_none line ≡ true

abbrev AreSilent : List Line → Type 0
AreSilent ls = AllByRecursion IsSilent ls

-- leaves the text of each key
one_silent : (path : List ℕ) (over : Bool) (text : List ℕ) (line : Line) → IsSilent line → text_at path over text line ≡ text
one_silent path over text (lines.Move (moves.SetKey who set now)) e = absurd (true≢false (sym e))
one_silent path over text (lines.Key name now) e = absurd (true≢false (sym e))
one_silent path over text lines.Epoch e = absurd (true≢false (sym e))
one_silent path over text line e = refl

silent_text : (path : List ℕ) (over : Bool) (text : List ℕ) (ls : List Line) → AreSilent ls → text_after path over text ls ≡ text
silent_text path over text [] all = refl
silent_text path over text (line ∷ ls) all =
    ap (λ (t : List ℕ). text_after path (over || says_over line) t ls) (one_silent path over text line all.0) ∙ silent_text path (over || says_over line) text ls all.1

-- the move of an end that asks for no key
front_silent : (h : Hypervisor) (ask : FrontAsk) (a : FrontAct) → AsksNoKey ask → front_act h ask ≡ Some a → IsSilent (lines.Move a.shown)
front_silent h ask a own e = (elim (front_acts h ask a e) as (λ asked x acts. AsksNoKey asked → IsSilent (lines.Move x.shown)) [ FrontSet path text is ↦ λ own. absurd own | acts ↦ λ own. refl ]) own

back_silent : (h : Hypervisor) (who : BackMover) (ask : BackAsk) (o : Outcome) (a : BackAct) → (AsksBackKey ask → ⊥) → back_act h who ask o ≡ Some a → IsSilent (lines.Move a.shown)
back_silent h who ask o a own e = (elim (back_acts h who ask o a e) as (λ mover asked outcome x acts. (AsksBackKey asked → ⊥) → IsSilent (lines.Move x.shown)) [
  | BackSet path text is ↦ λ own. absurd (own tt)
  | acts ↦ λ own. refl
]) own

-- a line that an end tells, or one of whatever else happens but to keys, and a suspend
abbrev SetsNo : Happening → Line → Type 0
SetsNo FrontMoves line = IsTold line
SetsNo BackMoves line = IsTold line
SetsNo (JobMoves number outcome) line = IsTold line
SetsNo (Negotiates at move) line = ⊥
SetsNo (BackAttaches shape grefs port) line = ⊥
SetsNo (OverwritesKey name text) line = ⊥
SetsNo Suspends line = ⊥
SetsNo h line = Unit {0}

none_set : (h : Happening) (line : Line) → SetsNo h line → MayShow h line → IsSilent line
none_set Suspends line sets shows = absurd sets
none_set h (lines.Move (moves.SetKey who path text)) sets shows = absurd (assumption)
none_set h (lines.Key name text) sets shows = absurd (assumption)
none_set h lines.Epoch sets shows = absurd (assumption)
none_set h line sets shows = refl

-- the lines of the moves of the ring's ends
front_turn_silent : (w : World) (act : Option FrontAct) → front_turn w ≡ act → AreSilent (front_shows w act)
front_turn_silent w None e = tt
front_turn_silent w (Some a) e =
    let f : front.View = front_step.step_of w.front a.answer in
    (front_silent w.under (front_ends.ask_of w.front) a (fronts_no_key w.front) e, front_told_is IsSilent (none_set FrontMoves) f.told)

back_turn_silent : (w : World) (act : Option BackAct) → back_turn w Took ≡ act → AreSilent (back_shows_keeping w act)
back_turn_silent w None e = tt
back_turn_silent w (Some a) e =
    let b : back.View = step_keeping w.back a.answer in (
      back_silent w.under back_mover.Back (back_ends.ask_of w.back) Took a (backs_no_key (back_ends.ask_of w.back) (backs_of w.back)) e,
      both_all IsSilent (back_lines b.told a.answer) (halt_lines w.back.halted b.halted) (back_told_is IsSilent (none_set BackMoves) b.told a.answer)
          (halt_is IsSilent (λ why. refl) w.back.halted b.halted),
    )

job_turn_silent : (w : World) (k : ℕ) (o : Outcome) (act : Option BackAct) → job_turn_keeping w k o ≡ act → AreSilent (job_shows_keeping w k act)
job_turn_silent w k o None e = tt
job_turn_silent w k o (Some a) e =
    let b : back.View = job_step_keeping w.back k a.answer in (
      back_silent w.under (back_mover.Job k) (job_ask_keeping w.back k) o a (jobs_no_key (job_ask_keeping w.back k) (jobs_keeping w.back k)) e,
      back_told_is IsSilent (none_set BackMoves) b.told a.answer,
    )

-- a watch changes no key
watch_told : (path text : List ℕ) (d : Directory) (at : End) (watches : Watches) → key_of d.keys path ≡ Some text → (let x : Directory = with_watches d at watches in key_of x.keys path ≡ Some text)
watch_told path text d end.Front watches has = has
watch_told path text d end.Back watches has = has

-- a key that is set has the text of its line
set_told : (path text : List ℕ) (d : Directory) (set now : List ℕ) → key_of d.keys path ≡ Some text → key_of (with_key d.keys set now) path ≡ Some (if bytes_eq set path then now else text)
set_told path text d set now has = by_test (bytes_eq set path) refl
  where
    by_test : (b : Bool) → bytes_eq set path ≡ b → key_of (with_key d.keys set now) path ≡ Some (if b then now else text)
    by_test true e = subst (λ (p : List ℕ). key_of (with_key d.keys set now) p ≡ Some now) ((bytes_eq-Decides set path).0 e) (key_of-with_key_same d.keys set now)
    by_test false e =
        let differs : path ≢ set = λ same. true≢false (sym ((bytes_eq-Decides set path).1 (sym same)) ∙ e) in
        key_of-with_key_other d.keys set now path differs ∙ has

abbrev TellsText : (path : List ℕ) (over : Bool) (text : List ℕ) → Directory → List Line → Type 0
TellsText path over text d shown = key_of d.keys path ≡ Some (text_after path over text shown)

-- what an end does with the keys is told
keys_told : (path : List ℕ) (over : Bool) (text : List ℕ) (w : World) (at : End) (move : KeyMove) → key_of w.under.keys.keys path ≡ Some text
    → (let v : World = happens w (Negotiates at move) in TellsText path over text v.under.keys (lines_at w (Negotiates at move)))
keys_told path over text w at move has =
    negotiated_cases (TellsText path over text) w.back.stage at move w.under.keys
    (λ may. key_cases (TellsText path over text) at move w.under.keys
    (λ got same. has) (λ set now same may_set. set_told path text w.under.keys set now has)
    (λ watched same. watch_told path text w.under.keys at _ has) (λ watched first. watch_told path text w.under.keys at _ has) has) has

abbrev is_of_keys : Happening → Bool
is_of_keys (Negotiates at move) = true
is_of_keys (OverwritesKey name text) = true
is_of_keys Suspends = true
is_of_keys h = false

-- whatever else happens changes no key
other_told : (path : List ℕ) (over : Bool) (text : List ℕ) (w : World) (h : Happening) → is_of_keys h ≡ false → AreSilent (lines_at w h) → key_of w.under.keys.keys path ≡ Some text
    → (let v : World = happens w h in TellsText path over text v.under.keys (lines_at w h))
other_told path over text w h other silent has =
    keys_happen (λ (d : Directory). key_of d.keys path ≡ Some text) (λ at d here. watch_told path text d at _ here) w h (λ at move is here. absurd (true≢false (sym (ap is_of_keys is) ∙ other)))
    (λ name now is allowed here. absurd (true≢false (sym (ap is_of_keys is) ∙ other))) (λ is may here. absurd (true≢false (sym (ap is_of_keys is) ∙ other))) has
    ∙ ap (λ (t : List ℕ). Some t) (sym (silent_text path over text (lines_at w h) silent))

-- nor does a move of the back or of a job
abbrev HasText : (path text : List ℕ) → World → Type 0
HasText path text w = key_of w.under.keys.keys path ≡ Some text

back_has : (path text : List ℕ) (w : World) (act : Option BackAct) → back_turn w Took ≡ act → HasText path text w → HasText path text (back_after_keeping w act)
back_has path text w None e has = has
back_has path text w (Some a) e has =
    back_stays (λ (d : Directory). key_of d.keys path ≡ Some text) (λ at d here. watch_told path text d at _ here) w.under back_mover.Back (back_ends.ask_of w.back) Took a
    (backs_no_key (back_ends.ask_of w.back) (backs_of w.back)) has e

job_has : (path text : List ℕ) (w : World) (k : ℕ) (o : Outcome) (act : Option BackAct) → job_turn_keeping w k o ≡ act → HasText path text w → HasText path text (job_after_keeping w k act)
job_has path text w k o None e has = has
job_has path text w k o (Some a) e has =
    back_stays (λ (d : Directory). key_of d.keys path ≡ Some text) (λ at d here. watch_told path text d at _ here) w.under (back_mover.Job k) (job_ask_keeping w.back k) o a
    (jobs_no_key (job_ask_keeping w.back k) (jobs_keeping w.back k)) has e

silent_has : (path : List ℕ) (over : Bool) (text : List ℕ) (w : World) (shown : List Line) → AreSilent shown → HasText path text w → TellsText path over text w.under.keys shown
silent_has path over text w shown silent has = has ∙ ap (λ (t : List ℕ). Some t) (sym (silent_text path over text shown silent))

-- a back that publishes that it keeps grants reads its front's key of that elsewhere
read_told : (path : List ℕ) (over : Bool) (text : List ℕ) (w : World) (at : End) (move : KeyMove) → HasText path text w
    → (let v : World = happens w (Negotiates at move) in TellsText path over text v.under.keys (plainly_shows w (Negotiates at move)))
read_told path over text w end.Back (Gets key) has =
    negotiated_cases (λ (d : Directory) (shown : List Line). (b : Bool) → TellsText path over text d (if b then [] else shown)) w.back.stage end.Back (Gets key) w.under.keys
    (λ may. both) (λ b. both_none b) (is_other_read w end.Back (Gets key))
  where
    both : (b : Bool) → TellsText path over text w.under.keys (if b then [] else lines.Move (moves.GetKey mover.Back key (key_of w.under.keys.keys key)) ∷ [])
    both true = has
    both false = has

    both_none : (b : Bool) → TellsText path over text w.under.keys (if b then [] else [])
    both_none true = has
    both_none false = has
read_told path over text w at move has = keys_told path over text w at move has

-- a state: the directory has it again as an epoch begins
abbrev IsRenewed : List ℕ → Type 0
IsRenewed path = (state : List ℕ) → key_of (let d : Directory = fresh_directory state in d.keys) path ≡ Some state

front_renewed : IsRenewed front_state
front_renewed state = refl

back_renewed : IsRenewed back_state
back_renewed state = refl

begun_state : (on : Bool) → state_after on ≡ begun_text (not on)
begun_state true = refl
begun_state false = refl

one_told : (path : List ℕ) → IsRenewed path → (over : Bool) (text : List ℕ) (w : World) (h : Happening) → over ≡ not (is_open w.front.stage) → HasText path text w
    → (let v : World = plainly_after w h in TellsText path over text v.under.keys (plainly_shows w h))
one_told path renewed over text w FrontMoves is has = other_told path over text w FrontMoves refl (front_turn_silent w (front_turn w) refl) has
one_told path renewed over text w BackMoves is has = silent_has path over text (plainly_after w BackMoves) (plainly_shows w BackMoves) (back_turn_silent w (back_turn w Took) refl) (back_has path text w (back_turn w Took) refl has)
one_told path renewed over text w (JobMoves number outcome) is has =
    silent_has path over text (plainly_after w (JobMoves number outcome)) (plainly_shows w (JobMoves number outcome)) (job_turn_silent w number outcome (job_turn_keeping w number outcome) refl)
    (job_has path text w number outcome (job_turn_keeping w number outcome) refl has)
one_told path renewed over text w (Negotiates at move) is has = read_told path over text w at move has
one_told path renewed over text w (BackAttaches shape grefs port) is has = other_told path over text w (BackAttaches shape grefs port) refl (attach_lines_are IsSilent w shape grefs refl) has
one_told path renewed over text w (BackHalts why) is has =
    silent_has path over text w (plainly_shows w (BackHalts why)) (halt_is IsSilent (λ halt. refl) w.back.halted (let b : back.View = halts_keeping why w.back in b.halted)) has
one_told path renewed over text w (OverwritesKey name now) is has =
    overwriting_cases (λ under shown. TellsText path over text under.keys shown) w.under name now (λ allowed. set_told path text w.under.keys (front_path name) now has) has
one_told path renewed over text w Suspends is has =
    suspend_cases (λ v shown. TellsText path over text v.under.keys shown) w
    (λ may. renewed (state_after (is_open w.front.stage)) ∙ ap (λ (t : List ℕ). Some t) (begun_state (is_open w.front.stage) ∙ ap begun_text (sym is))) has
one_told path renewed over text w h is has = other_told path over text w h refl (lines_are IsSilent w h (λ line shows. none_set h line tt shows)) has

-- the back publishes that it keeps grants, or reads whether its front does
offers_told : (path : List ℕ) (over : Bool) (text : List ℕ) (w : World) (b : Bool) → HasText path text w
    → (let v : World = (if b then offered w else w) in TellsText path over text v.under.keys (if b then offer_line ∷ [] else []))
offers_told path over text w true has = set_told path text w.under.keys offering_path (codes "1") has
offers_told path over text w false has = has

keeps_told : (path : List ℕ) (over : Bool) (text : List ℕ) (w : World) (cap : ℕ) (b : Bool) → HasText path text w
    → (let v : World = (if b then kept_so w cap else w) in TellsText path over text v.under.keys (if b then keeping_line w ∷ [] else []))
keeps_told path over text w cap true has = has
keeps_told path over text w cap false has = has

keeping_told : (path : List ℕ) → IsRenewed path → (over : Bool) (text : List ℕ) (w : World) (h : KeepingHappening) → over ≡ not (is_open w.front.stage) → HasText path text w
    → (let v : World = happens_keeping w h in TellsText path over text v.under.keys (shows_keeping w h))
keeping_told path renewed over text w (Plainly h) is has = one_told path renewed over text w h is has
keeping_told path renewed over text w BackOffers is has = offers_told path over text w (is_led w.back.stage) has
keeping_told path renewed over text w (BackKeeps cap) is has = keeps_told path over text w cap (reads_keeping w cap) has

or_none : (b : Bool) → (b || false) ≡ b
or_none true = refl
or_none false = refl

or_first : (a b c : Bool) → ((a || b) || c) ≡ (a || (b || c))
or_first true b c = refl
or_first false b c = refl

append_text : (path : List ℕ) (over : Bool) (text : List ℕ) (a b : List Line) → text_after path over text (a ++ b) ≡ text_after path (over || list_any says_over a) (text_after path over text a) b
append_text path over text [] b = ap (λ (o : Bool). text_after path o text b) (sym (or_none over))
append_text path over text (line ∷ a) b =
    append_text path (over || says_over line) (text_at path over text line) a b
    ∙ ap (λ (o : Bool). text_after path o (text_after path (over || says_over line) (text_at path over text line) a) b) (or_first over (says_over line) (list_any says_over a))

-- so the directory has at a state what these lines say last of it
abbrev HasLast : (path : List ℕ) → List Line → World → Type 0
HasLast path before w = key_of w.under.keys.keys path ≡ Some (said_last path before)

last_told : (path : List ℕ) → IsRenewed path → (before : List Line) (w : World) (h : KeepingHappening) → IsToldOver before w → HasLast path before w → HasLast path (before ++ shows_keeping w h) (happens_keeping w h)
last_told path renewed before w h is has =
    keeping_told path renewed (list_any says_over before) (said_last path before) w h is has
    ∙ ap (λ (t : List ℕ). Some t) (sym (append_text path false (begun_text false) before (shows_keeping w h)))

-- so the lines of a report say of both states what the directory says
record IsAgreedSoFar (before : List Line) (w : World) : Type 0 where
  over : IsToldOver before w
  front_has : HasLast front_state before w
  back_has : HasLast back_state before w
  closing : IsSaid (λ (v : front.View). v.closing) says_closing before w
  obeys : Obeys IsAgreedAt before

both_said : (text : List ℕ) (before : List Line) (w : World) → IsAgreedSoFar before w → HasBoth text w.under.keys → SayBoth text before
both_said text before w is has = record {
  front = same_Some _ _ (sym is.front_has ∙ has.front);
  back = same_Some _ _ (sym is.back_has ∙ has.back);
}

alike_said : (before : List Line) (w : World) → IsAgreedSoFar before w → AreAlike w → IsAgreedAt before lines.Quiet
alike_said before w is (inl connected) = inl (both_said (codes "4") before w is connected)
alike_said before w is (inr closed) = inr (both_said (codes "6") before w is closed.0, is.closing closed.1)

-- the premise, where all is found quiet
agreed_found : (w : World) (h : KeepingHappening) → IsAgreedKeeping w h → finds_quiet (as_plain h) ≡ true → AreAlike w
agreed_found w (Plainly (Looks quiet)) agreed found = agreed found
agreed_found w (Plainly (Settles quiet)) agreed found = agreed found
agreed_found w h agreed found = absurd (true≢false (sym found))

states_free : SpeaksOfQuiet IsAgreedAt
states_free before lines.Quiet e = absurd (true≢false e)
states_free before line e = tt

one_agreed : (before : List Line) (w : World) (h : KeepingHappening) → IsSafeKeeping w → IsAgreedKeeping w h → IsAgreedSoFar before w → IsAgreedSoFar (before ++ shows_keeping w h) (happens_keeping w h)
one_agreed before w h safe agreed is = record {
  over = one_over before w h safe is.over;
  front_has = last_told front_state front_renewed before w h is.over is.front_has;
  back_has = last_told back_state back_renewed before w h is.over is.back_has;
  closing = one_said (λ (v : front.View). v.closing) says_closing closing_announced before w h is.closing;
  obeys = keeping_obeys IsAgreedAt states_free before w h (λ found. alike_said before w is (agreed_found w h agreed found)) is.obeys;
}

report_so_far : (config : Options) (history : List KeepingHappening) → AreEach IsAgreedKeeping history (start_of config) → IsAgreedSoFar (report_keeping config Moves history) (after_keeping history (start_of config))
report_so_far config history agreed =
    report_up IsAgreedKeeping IsAgreedSoFar one_agreed config Moves history agreed
    (record { over = refl; front_has = refl; back_has = refl; closing = λ t. absurd (true≢false (sym t)); obeys = begun_obeys IsAgreedAt states_free config Moves })

pub report_agreed_keeping : (config : Options) (history : List KeepingHappening) → AreEach IsAgreedKeeping history (start_of config) → AreStatesAgreed (kept_of Moves (report_keeping config Moves history))
report_agreed_keeping config history agreed = subst AreStatesAgreed (sym (report_kept_keeping config history)) (report_so_far config history agreed).obeys

pub ended_agreed_keeping : (config : Options) (history : List KeepingHappening) → AreEach IsAgreedKeeping history (start_of config) → AreStatesAgreed (kept_of Moves (ended_report_keeping config Moves history))
ended_agreed_keeping config history agreed =
    subst AreStatesAgreed (sym (ended_kept_keeping config history)) (over_obeys IsAgreedAt states_free (report_keeping config Moves history) (report_so_far config history agreed).obeys)

-- where none are kept
all_agreed : (config : Options) (history : List Happening) → AreAgreed history (start_of config) → AreEach IsAgreedKeeping (map Plainly history) (start_of config)
all_agreed config history agreed = plain_all AreAgreed IsAgreedKeeping (λ h hs w are. are) config history agreed

pub report_agreed : (config : Options) (history : List Happening) → AreAgreed history (start_of config) → AreStatesAgreed (kept_of Moves (report_of config Moves history))
report_agreed config history agreed = plain_report (λ ls. AreStatesAgreed (kept_of Moves ls)) config Moves history (report_agreed_keeping config (map Plainly history) (all_agreed config history agreed))

pub ended_agreed : (config : Options) (history : List Happening) → AreAgreed history (start_of config) → AreStatesAgreed (kept_of Moves (ended_report_of config Moves history))
ended_agreed config history agreed = plain_ended (λ ls. AreStatesAgreed (kept_of Moves ls)) config Moves history (ended_agreed_keeping config (map Plainly history) (all_agreed config history agreed))
