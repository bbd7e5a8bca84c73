-- Whatever happens, each line is one of the grammar.
use Rattle.std.proofs.Common.{◌≡◌, ℕ, ◌*◌, ◌^◌, ◌<◌, ◌⊎◌, inl, inr, Bool, true, false, if◌then◌else◌, List, [], ◌∷◌, ◌++◌, length, refl, sym, ap, ◌∙◌, arith}
use Rattle.std.specs.Prelude.{Option, Some, None, map}
use Rattle.std.proofs.lemmas.Option.{none-some}
use Rattle.std.proofs.lemmas.List.Elements.{All-from_recursion}
use Rattle.blk_base.specs.Options.{Options}
use Rattle.blk_base.specs.declared.ask.BackAsk.{BackAsk}
use Rattle.blk_base.specs.declared.ask.BackAsk.TheVariants.{Wait}
use Rattle.blk_base.specs.declared.moves.BackMover.TheVariants as back_mover
use Rattle.schedule_text.specs.declared.line.Detail.{Detail}
use Rattle.schedule_text.specs.declared.line.Detail.TheVariants.{Lines, Moves}
use Rattle.schedule_text.specs.declared.line.Line.{Line}
use Rattle.schedule_text.specs.declared.line.Line.TheVariants as lines
use Rattle.schedule_text.specs.Range.{IsInRange, AreOptions}
use Rattle.schedule_text.specs.Recorder.{recorded, kept_of}
use Rattle.ring_words.specs.Shape.{Shape}
use Rattle.xen_pages.specs.Pages.{word_of}
use Rattle.hypervisor.specs.Hypervisor.{Hypervisor}
use Rattle.hypervisor.specs.Act.{FrontAct, BackAct, Outcome, Took, IsGiven, back_act}
use Rattle.blk_front.specs.View as front
use Rattle.blk_front.specs.Ask as front_ask
use Rattle.blk_front.specs.Step as front_step
use Rattle.blk_front.specs.State.{enters}
use Rattle.segment_list.specs.declared.verdict.DiskInfo.{DiskInfo}
use Rattle.blk_base.specs.declared.halt.Halt.{Halt}
use Rattle.blk_base.specs.declared.halt.Halt.TheVariants as halt
use Rattle.blk_back.specs.View as back
use Rattle.blk_back.specs.Ask as back_ask
use Rattle.blk_back.specs.Ask.{is_led}
use Rattle.blk_back.specs.Keeping.{step_keeping, job_ask_keeping, job_step_keeping, halts_keeping}
use Rattle.blk_back.specs.Hands.{all_hands_of}
use Rattle.split_model.specs.World.{World, start_of}
use Rattle.split_model.specs.Shown.{back_lines, halt_lines}
use Rattle.split_model.proofs.Showing.{IsFound, lines_are}
use Rattle.split_model.specs.Happening.{Happening, FrontMoves, BackMoves, JobMoves, Negotiates, FrontEnters, BackAttaches, BackHalts, Submits, Pokes, OverwritesKey, Suspends, Dumps, happens, lines_at, front_after, front_shows, front_turn, back_turn}
use Rattle.split_model.specs.Kept.{KeepingHappening, Plainly, BackOffers, BackKeeps, offered, offer_line, kept_so, keeping_line, reads_keeping, back_after_keeping, back_shows_keeping, job_turn_keeping, job_after_keeping, job_shows_keeping, plainly_after, plainly_shows, happens_keeping, shows_keeping, lines_keeping, IsSafeKeeping}
use Rattle.split_model.specs.Report.{report_of, ended_report_of}
use Rattle.split_model.proofs.Overwriting.{within_guest}
use Rattle.split_model.proofs.Attaching.{attach_cases}
use Rattle.split_model.proofs.Suspending.{suspend_cases, begun_back, back_cases}
use Rattle.split_model.proofs.Kept.{kept_start, kept_happens}
use Rattle.split_model.proofs.KeptHands.{names_more}
use Rattle.move_laws.specs.Kept.{IsPermittedKeeping, report_keeping, ended_report_keeping}
use Rattle.move_laws.proofs.Always.{IsOrderlyKeeping, orderly_start, orderly_happens_keeping, within_keeping}
use Rattle.move_laws.proofs.Runs.{FollowsTo, dump_words_are, follows_keeping, follows_begin}
use Rattle.machine_pipeline.specs.Allowed.{IsSaid, AreSaid, IsPossible, ArePossible}
use Rattle.report_laws.specs.Grammar.{IsInGrammar}
use Rattle.report_laws.specs.Kept.{AreEach, IsPossibleKeeping}
use Rattle.report_laws.proofs.KeptReports.{plain_all, plain_report, plain_ended}
use Rattle.report_laws.proofs.Words.{AreWords, word_fits, write_fits, cleared_fits, fresh_words}
use Rattle.report_laws.proofs.Spelled.{AreSpelled, keys_good, layout_good, offer_good, keeping_good, spelled_happens, spelled_start}
use Rattle.report_laws.proofs.Acts.{ActFits, FrontFits, BackFits, front_act_fits, back_act_fits, front_told_fits, back_told_fits}
use Rattle.report_laws.proofs.Numbers.{HasNumbers, HaveNumbers, HasNumbersAt, short_numbers}
use Rattle.report_laws.proofs.Told.{AreGood, good, both_good}
use Rattle.report_laws.proofs.FrontSubmitted.{submit_fits}
use Rattle.report_laws.proofs.FrontNumbers as front_numbers
use Rattle.report_laws.proofs.FrontAsks.{front_asks}
use Rattle.report_laws.proofs.BackNumbers as back_numbers
use Rattle.report_laws.proofs.BackAsks.{back_asks, JobAsks, job_asks}
use Rattle.report_laws.proofs.Texts.{given_back}

-- no more requests than that are fetched
abbrev most : ℕ
most = 18446744073709551615

-- the numbers of both ends and of what lies under them
record IsNumbered (w : World) : Type 0 where
  words : AreWords w.under.pages
  front : front_numbers.IsFit w.front
  back : back_numbers.IsFit most w.back

-- what stands before a happening
record IsWell (before : List Line) (w : World) : Type 0 where
  safe : IsSafeKeeping w
  orderly : IsOrderlyKeeping w
  follows : FollowsTo before w
  spelled : AreSpelled w.under.keys
  numbered : IsNumbered w

-- what it shows and leaves
record ShowsGood (ls : List Line) (w : World) : Type 0 where
  good_lines : AreGood ls
  numbered : IsNumbered w

-- it changes the front, or memory and keys and channels, and nothing else
stays : (ls : List Line) (w : World) (f : front.View) (h : Hypervisor) → IsNumbered w → front_numbers.IsFit f → AreWords h.pages → AreGood ls
    → ShowsGood ls (record { front = f; back = w.back; under = h })
stays ls w f h is fits words shown = record {
  good_lines = shown;
  numbered = record {
    words = words;
    front = fits;
    back = is.back;
  };
}

front_good : (before : List Line) (w : World) (act : Option FrontAct) → IsWell before w → IsPermittedKeeping w (Plainly FrontMoves) → front_turn w ≡ act → ShowsGood (front_shows w act) (front_after w act)
front_good before w None is within e = let n = is.numbered in stays [] w w.front w.under n n.front n.words tt
front_good before w (Some a) is within e =
    let n = is.numbered in
    let asks : FrontFits w.under (front_ask.ask_of w.front) = front_asks w.under w.front is.orderly.front.shared is.safe.ported within n.front in
    let fits : ActFits a.shown a.under.pages = front_act_fits w.under (front_ask.ask_of w.front) a n.words within asks is.spelled e in
    let v : front_numbers.IsFit (front_step.step_of w.front a.answer) = front_numbers.front_fits w.front a.answer is.orderly.front.shared n.front (front_told_fits w.under (front_ask.ask_of w.front) a n.words asks e) in
    let f : front.View = front_step.step_of w.front a.answer in
    stays (front_shows w (Some a)) w (record f { told = None }) a.under n (v.0, v.1, tt) fits.words (fits.line, front_numbers.front_good f.told v.2)

-- a move of the back or of a job shows itself
moved : (more : List Line) (w : World) (a : BackAct) (b : back.View) → IsNumbered w → ActFits a.shown a.under.pages → back_numbers.IsFit most b → AreGood more
    → ShowsGood (lines.Move a.shown ∷ more) (record { front = w.front; back = record b { told = None }; under = a.under })
moved more w a b is fits v shown = record { good_lines = (fits.line, shown); numbered = record { words = fits.words; front = is.front; back = (v.0, v.1, tt) } }

back_good : (before : List Line) (w : World) (act : Option BackAct) → IsWell before w → IsPermittedKeeping w (Plainly BackMoves) → back_turn w Took ≡ act → HasNumbers w → ShowsGood (back_shows_keeping w act) (back_after_keeping w act)
back_good before w None is within e numbers = let n = is.numbered in stays [] w w.front w.under n n.front n.words tt
back_good before w (Some a) is within e numbers =
    let n = is.numbered in
    let b : back.View = step_keeping w.back a.answer in
    let asks : BackFits back_mover.Back (back_ask.ask_of w.back) = back_asks most w.back n.back in
    let fits : ActFits a.shown a.under.pages = back_act_fits w.under back_mover.Back (back_ask.ask_of w.back) Took a (all_hands_of w.back) n.words is.follows.tells.grantable is.safe.held
    numbers.0 (record { widths = tt; allowed = refl }) (names_more w.back (back_ask.ask_of w.back) within) asks is.spelled e in
    let told = back_told_fits w.under back_mover.Back (back_ask.ask_of w.back) Took a n.words tt asks e in
    let last = numbers.1 in
    let v : back_numbers.IsFit most b = back_numbers.back_fits most w.back a.answer (omega arith) (omega arith) n.back told in
    moved (back_lines b.told a.answer ++ halt_lines w.back.halted b.halted) w a b n fits v
    (both_good (back_lines b.told a.answer) (halt_lines w.back.halted b.halted) (back_numbers.back_good b.told a.answer v.2 told) (back_numbers.halt_good w.back.halted b.halted v.0.why))

job_good : (before : List Line) (w : World) (number : ℕ) (o : Outcome) (act : Option BackAct) → IsWell before w → IsGiven o → IsPermittedKeeping w (Plainly (JobMoves number o)) → job_turn_keeping w number o ≡ act → HasNumbers w → ShowsGood (job_shows_keeping w number act) (job_after_keeping w number act)
job_good before w number o None is given within e numbers = let n = is.numbered in stays [] w w.front w.under n n.front n.words tt
job_good before w number o (Some a) is given within e numbers = by_asks (job_asks most w.back number n.back)
  where
    n : IsNumbered w
    n = is.numbered

    x : BackAsk
    x = job_ask_keeping w.back number

    b : back.View
    b = job_step_keeping w.back number a.answer

    by_asks : (x ≡ Wait) ⊎ JobAsks number x → ShowsGood (job_shows_keeping w number (Some a)) (job_after_keeping w number (Some a))
    by_asks (inl waits) = absurd (none-some a (sym (ap (λ (y : BackAsk). back_act w.under (back_mover.Job number) y o) waits) ∙ e))
    by_asks (inr asks) =
        let fits : ActFits a.shown a.under.pages = back_act_fits w.under (back_mover.Job number) x o a (all_hands_of w.back) n.words is.follows.tells.grantable is.safe.held numbers.0 asks.mover (names_more w.back x within) asks.fits is.spelled e in
        let told = back_told_fits w.under (back_mover.Job number) x o a n.words given asks.fits e in
        let v : back_numbers.IsFit most b = back_numbers.job_fits most w.back number a.answer n.back told in
        moved (back_lines b.told a.answer) w a b n fits v (back_numbers.back_good b.told a.answer v.2 told)

-- what is found is a line of the grammar
found_good : (line : Line) → IsFound line → IsInRange line
found_good lines.Quiet found = good lines.Quiet tt refl
found_good lines.Busy found = good lines.Busy tt refl
found_good lines.Unsettled found = good lines.Unsettled tt refl
found_good line found = absurd found

-- its negotiation changes the back
back_stays : (ls : List Line) (w : World) (b : back.View) → IsNumbered w → back_numbers.IsFit most b → AreGood ls → ShowsGood ls (record { front = w.front; back = b; under = w.under })
back_stays ls w b n fits shown = record {
  good_lines = shown;
  numbered = record { words = n.words; front = n.front; back = fits };
}

-- it takes the terms of its front
attached_good : (w : World) (shape : Shape) (grefs : List ℕ) (port : ℕ) → AreSaid grefs port → AreSpelled w.under.keys → IsNumbered w
    → ShowsGood (lines_at w (BackAttaches shape grefs port)) (happens w (BackAttaches shape grefs port))
attached_good w shape grefs port said spelled n =
    attach_cases (λ b shown. ShowsGood shown (record { front = w.front; back = b; under = w.under })) w shape grefs port
    (λ may named says. back_stays _ w _ n (back_numbers.attached_fits most shape grefs port w.back said n.back) (layout_good w spelled, tt)) (back_stays [] w w.back n n.back tt)

-- or halts
halted_good : (w : World) (why : Halt) → IsSaid why → IsNumbered w → ShowsGood (plainly_shows w (BackHalts why)) (plainly_after w (BackHalts why))
halted_good w why said n =
    let b : back.View = halts_keeping why w.back in
    let fits : back_numbers.IsFit most b = back_numbers.halts_fits most why w.back said n.back in
    back_stays (halt_lines w.back.halted b.halted) w b n fits (back_numbers.halt_good w.back.halted b.halted fits.0.why)

-- the domain is suspended: its line is one of the grammar, and a new back begins, or one whose front is gone
gone_said : IsSaid (halt.Gone 6)
gone_said = good (lines.Halt (halt.Gone 6)) (omega arith) refl

suspended_good : (w : World) → IsNumbered w → ShowsGood (lines_at w Suspends) (happens w Suspends)
suspended_good w n =
    suspend_cases (λ v shown. ShowsGood shown v) w
    (λ may. record {
      good_lines = (good lines.Epoch tt refl, tt);
      numbered = record {
        words = cleared_fits w.under.pages n.words;
        front = front_numbers.suspended_fits w.front n.front;
        back = back_cases (back_numbers.IsFit most) w new (back_numbers.halts_fits most (halt.Gone 6) (begun_back w) gone_said new);
      };
    }) (stays [] w w.front w.under n n.front n.words tt)
  where
    info : DiskInfo
    info = let b : back.View = w.back in b.jobs.info

    new : back_numbers.IsFit most (begun_back w)
    new = back_numbers.later 0 most (begun_back w) (omega arith) (back_numbers.new_fits w.front.start info n.front.0.begins n.back.0.sized)

-- the words of the ring that a dump shows
dump_good : (w : World) → IsPermittedKeeping w (Plainly Dumps) → AreWords w.under.pages → AreGood (lines_at w Dumps)
dump_good w few words =
    dump_words_are IsInRange w.under.pages 0 (1024 * 2 ^ w.front.shape.order) (omega (arith, few))
    (λ frame word framed worded. good (lines.Word frame word (word_of w.under.pages frame word)) (omega arith, omega arith, word_fits w.under.pages frame word words) refl)

-- what shows nothing but what a look finds, and leaves both ends and the memory, has no case
plainly_good : (before : List Line) (w : World) (h : Happening) → IsWell before w → IsPossible w h → HasNumbers w → ShowsGood (plainly_shows w h) (plainly_after w h)
plainly_good before w FrontMoves is may short = front_good before w (front_turn w) is (within_keeping w (Plainly FrontMoves) is.orderly) refl
plainly_good before w BackMoves is may short = back_good before w (back_turn w Took) is (within_keeping w (Plainly BackMoves) is.orderly) refl short
plainly_good before w (JobMoves number outcome) is may short = job_good before w number outcome (job_turn_keeping w number outcome) is may (within_keeping w (Plainly (JobMoves number outcome)) is.orderly) refl short
plainly_good before w (Negotiates at move) is may short = let n = is.numbered in stays _ w w.front _ n n.front n.words (keys_good w at move may is.spelled)
plainly_good before w (FrontEnters state) is may short = let n = is.numbered in let entered = front_numbers.enters_fits w state w.front may n.front in stays _ w (enters state w.front) w.under n entered.0 n.words entered.1
plainly_good before w (BackAttaches shape grefs port) is may short = attached_good w shape grefs port may is.spelled is.numbered
plainly_good before w (BackHalts why) is may short = halted_good w why may is.numbered
plainly_good before w (Submits job) is may short =
    let n = is.numbered in let submitted = submit_fits w.front job may n.front in stays _ w _ w.under n submitted.1 n.words (submitted.0, tt)
plainly_good before w (Pokes frame word value) is may short =
    let n = is.numbered in let within = within_guest frame word may.0 in
    rw may.0 (stays _ w w.front _ n n.front (write_fits w.under.pages frame word value n.words may.1) (good (lines.Poke frame word value) (omega (arith, within.0), omega (arith, within.1), may.1) may.0, tt))
plainly_good before w (OverwritesKey name text) is may short = let n = is.numbered in rw may (stays _ w w.front _ n n.front n.words (good (lines.Key name text) tt may, tt))
plainly_good before w Suspends is may short = suspended_good w is.numbered
plainly_good before w Dumps is may short = let n = is.numbered in stays _ w w.front w.under n n.front n.words (dump_good w (within_keeping w (Plainly Dumps) is.orderly) n.words)
plainly_good before w h is may short = let n = is.numbered in stays _ w w.front _ n n.front n.words (lines_are IsInRange w h (λ line shows. search found_good))

-- what the back does with the keys for kept mappings
offers_good : (w : World) (b : Bool) → IsNumbered w → ShowsGood (if b then offer_line ∷ [] else []) (if b then offered w else w)
offers_good w true n = stays (offer_line ∷ []) w w.front _ n n.front n.words (offer_good, tt)
offers_good w false n = stays [] w w.front w.under n n.front n.words tt

keeps_good : (w : World) (cap : ℕ) (b : Bool) → AreSpelled w.under.keys → IsNumbered w → ShowsGood (if b then keeping_line w ∷ [] else []) (if b then kept_so w cap else w)
keeps_good w cap true spelled n = back_stays (keeping_line w ∷ []) w _ n n.back (keeping_good w spelled, tt)
keeps_good w cap false spelled n = stays [] w w.front w.under n n.front n.words tt

one_good : (before : List Line) (w : World) (h : KeepingHappening) → IsWell before w → IsPossibleKeeping w h → HasNumbers w → ShowsGood (shows_keeping w h) (happens_keeping w h)
one_good before w (Plainly h) is may short = plainly_good before w h is may short
one_good before w BackOffers is may short = offers_good w (is_led w.back.stage) is.numbered
one_good before w (BackKeeps cap) is may short = keeps_good w cap (reads_keeping w cap) is.spelled is.numbered

all_good : (hs : List KeepingHappening) (before : List Line) (w : World) → IsWell before w → AreEach IsPossibleKeeping hs w → AreEach HasNumbersAt hs w → AreGood (lines_keeping hs w)
all_good [] before w is may numbers = tt
all_good (h ∷ hs) before w is may numbers =
    let shows = one_good before w h is may.0 numbers.0 in
    let next : IsWell (before ++ shows_keeping w h) (happens_keeping w h) = record {
      safe = kept_happens w h is.safe;
      orderly = orderly_happens_keeping w h is.safe is.orderly;
      follows = follows_keeping w h before is.safe.held (within_keeping w h is.orderly) is.follows;
      spelled = spelled_happens w h may.0 is.spelled;
      numbered = shows.numbered;
    } in
    both_good (shows_keeping w h) (lines_keeping hs (happens_keeping w h)) shows.good_lines (all_good hs (before ++ shows_keeping w h) (happens_keeping w h) next may.1 numbers.1)

start_well : (config : Options) (detail : Detail) → AreOptions config → IsWell (lines.Begin config detail ∷ []) (start_of config)
start_well config detail options = record {
  safe = kept_start config;
  orderly = (orderly_start config options.0).ends;
  follows = follows_begin config detail;
  spelled = spelled_start;
  numbered = record { words = fresh_words 1114112; front = front_numbers.front_start config options; back = back_numbers.later 0 most (back.start_of config) (omega arith) (back_numbers.back_start config options) };
}

-- a recorder keeps them so
one_kept : (detail : Detail) (line : Line) → IsInRange line → AreGood (recorded detail line)
one_kept detail (lines.Begin config other) h = (good (lines.Begin config detail) h.widths refl, tt)
one_kept Lines (lines.Move move) h = tt
one_kept Moves (lines.Move move) h = (h, tt)
one_kept detail line h = (h, tt)

good_kept : (detail : Detail) (ls : List Line) → AreGood ls → AreGood (kept_of detail ls)
good_kept detail [] all = tt
good_kept detail (line ∷ ls) all = both_good (recorded detail line) (kept_of detail ls) (one_kept detail line all.0) (good_kept detail ls all.1)

kept_grammar : (detail : Detail) (ls : List Line) → AreGood ls → IsInGrammar (kept_of detail ls)
kept_grammar detail ls all = given_back (kept_of detail ls) (All-from_recursion IsInRange (kept_of detail ls) (good_kept detail ls all))

report_good : (config : Options) (detail : Detail) (history : List KeepingHappening) → AreOptions config → AreEach IsPossibleKeeping history (start_of config) → AreEach HasNumbersAt history (start_of config)
    → AreGood (report_keeping config detail history)
report_good config detail history options may numbers = (good (lines.Begin config detail) options refl, all_good history (lines.Begin config detail ∷ []) (start_of config) (start_well config detail options) may numbers)

pub report_grammar_keeping : (config : Options) (detail : Detail) (history : List KeepingHappening) → AreOptions config → AreEach IsPossibleKeeping history (start_of config) → AreEach HasNumbersAt history (start_of config)
    → IsInGrammar (kept_of detail (report_keeping config detail history))
report_grammar_keeping config detail history options may numbers = kept_grammar detail (report_keeping config detail history) (report_good config detail history options may numbers)

pub ended_grammar_keeping : (config : Options) (detail : Detail) (history : List KeepingHappening) → AreOptions config → AreEach IsPossibleKeeping history (start_of config) → AreEach HasNumbersAt history (start_of config)
    → IsInGrammar (kept_of detail (ended_report_keeping config detail history))
ended_grammar_keeping config detail history options may numbers =
    kept_grammar detail (ended_report_keeping config detail history)
    (both_good (report_keeping config detail history) (lines.End ∷ []) (report_good config detail history options may numbers) (good lines.End tt refl, tt))

-- where none are kept
all_possible : (config : Options) (history : List Happening) → ArePossible history (start_of config) → AreEach IsPossibleKeeping (map Plainly history) (start_of config)
all_possible config history may = plain_all ArePossible IsPossibleKeeping (λ h hs w are. are) config history may

all_numbered : (config : Options) (history : List Happening) → HaveNumbers history (start_of config) → AreEach HasNumbersAt (map Plainly history) (start_of config)
all_numbered config history numbers = plain_all HaveNumbers HasNumbersAt (λ h hs w are. are) config history numbers

pub ended_grammar : (config : Options) (detail : Detail) (history : List Happening) → AreOptions config → ArePossible history (start_of config) → HaveNumbers history (start_of config) → IsInGrammar (kept_of detail (ended_report_of config detail history))
ended_grammar config detail history options may numbers =
    plain_ended (λ ls. IsInGrammar (kept_of detail ls)) config detail history
    (ended_grammar_keeping config detail (map Plainly history) options (all_possible config history may) (all_numbered config history numbers))

-- and of a report of fewer than 2 ^ 64 lines
plain_numbers : (config : Options) (detail : Detail) (history : List Happening) → length (report_of config detail history) < 2 ^ 64 → AreEach HasNumbersAt (map Plainly history) (start_of config)
plain_numbers config detail history short =
    short_numbers config detail (map Plainly history)
    (plain_report (λ ls. length ls < 2 ^ 64 → length (report_keeping config detail (map Plainly history)) < 2 ^ 64) config detail history (λ here. here) short)

pub short_report : (config : Options) (detail : Detail) (history : List Happening) → AreOptions config → ArePossible history (start_of config) → length (report_of config detail history) < 2 ^ 64
    → IsInGrammar (kept_of detail (report_of config detail history))
short_report config detail history options may short =
    plain_report (λ ls. IsInGrammar (kept_of detail ls)) config detail history
    (report_grammar_keeping config detail (map Plainly history) options (all_possible config history may) (plain_numbers config detail history short))

pub short_ended : (config : Options) (detail : Detail) (history : List Happening) → AreOptions config → ArePossible history (start_of config) → length (report_of config detail history) < 2 ^ 64
    → IsInGrammar (kept_of detail (ended_report_of config detail history))
short_ended config detail history options may short =
    plain_ended (λ ls. IsInGrammar (kept_of detail ls)) config detail history
    (ended_grammar_keeping config detail (map Plainly history) options (all_possible config history may) (plain_numbers config detail history short))
