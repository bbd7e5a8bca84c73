-- Whatever happens, the lines obey the rules on memory and mappings, and tell what is there: where mappings may be kept, and so where none are.
use Rattle.std.proofs.Common.{◌≡◌, ℕ, zero, suc, ◌+◌, ◌*◌, ◌/◌, ◌%◌, ◌^◌, ◌<◌, ◌≤◌, arith, Bool, true, false, if◌then◌else◌, List, [], ◌∷◌, ◌++◌, refl, ap, sym, ◌∙◌, subst, append_assoc}
use Rattle.std.specs.Prelude.{Option, Some, None, map}
use Rattle.std.specs.List.{AllByRecursion}
use Rattle.std.proofs.lemmas.List.{append-nil}
use Rattle.std.proofs.lemmas.List.Elements.{All-nil}
use Rattle.blk_base.specs.Options.{Options}
use Rattle.blk_base.specs.declared.parts.End.TheVariants as end
use Rattle.blk_base.specs.declared.parts.Mapping.{Mapping}
use Rattle.blk_base.specs.declared.moves.BackMover.TheVariants as back_mover
use Rattle.blk_base.specs.declared.moves.Move.{Move}
use Rattle.xen_pages.specs.Pages.{fresh_pages, word_of, with_word}
use Rattle.xen_pages.proofs.Words.{length-fresh_pages, word_of-fresh_pages}
use Rattle.grant_table.specs.Table.{GrantTable, fresh_table, revoked_table}
use Rattle.hypervisor.specs.Suspend.{tables_cleared}
use Rattle.grant_table.specs.Sound.{IsGrantable}
use Rattle.schedule_text.specs.declared.line.Line.{Line}
use Rattle.schedule_text.specs.declared.line.Line.TheVariants as lines
use Rattle.blk_base.specs.declared.halt.Halt.{Halt}
use Rattle.schedule_text.specs.declared.line.Detail.{Detail}
use Rattle.hypervisor.specs.Act.{FrontAct, BackAct, Outcome, Took}
use Rattle.report_rules.specs.Obeys.{Obeys}
use Rattle.report_rules.specs.Coherent.{IsCoherent}
use Rattle.report_rules.specs.Mapped.{AreMapAnswers}
use Rattle.report_rules.specs.Touch.{AreTouches}
use Rattle.move_laws.specs.Numbers.{AreNumbered}
use Rattle.report_rules.proofs.Obeys.{obeys_none}
use Rattle.persist_grants.specs.KeptMappings.{KeptMappings, mappings_of}
use Rattle.back_jobs.specs.Hands.{hands_in}
use Rattle.blk_front.specs.Ask as front_ask
use Rattle.blk_back.specs.Ask as back_ask
use Rattle.blk_back.specs.Ask.{is_led}
use Rattle.blk_back.specs.Hands.{aborted, hands_of, all_hands_of}
use Rattle.blk_back.specs.Keeping.{step_keeping, job_ask_keeping, job_step_keeping, KeepsNone}
use Rattle.blk_back.specs.View as back
use Rattle.split_model.specs.World.{World, start_of, may_suspend, suspended}
use Rattle.split_model.specs.Keys.{TakesWatch}
use Rattle.split_model.specs.Happening.{Happening, FrontMoves, BackMoves, JobMoves, Negotiates, Pokes, OverwritesKey, Suspends, Dumps, happens, word_lines, ring_lines, lines_at, after, lines_of, front_after, front_shows, front_turn, back_turn}
use Rattle.split_model.specs.Kept.{KeepingHappening, Plainly, BackOffers, BackKeeps, offered, offer_line, reads_keeping, kept_so, keeping_line, back_after_keeping, back_shows_keeping, job_turn_keeping, job_after_keeping, job_shows_keeping, plainly_after, plainly_shows, happens_keeping, shows_keeping, after_keeping, lines_keeping, IsSafeKeeping, RunsAsWithout}
use Rattle.split_model.specs.Safe.{AreHeld, IsSafe}
use Rattle.split_model.specs.Shown.{back_lines, halt_lines}
use Rattle.split_model.proofs.Showing.{IsOfKeys, front_told_is, back_told_is, halt_is, both_all}
use Rattle.split_model.proofs.Kept.{kept_start, kept_happens}
use Rattle.split_model.proofs.KeptHands.{names_more}
use Rattle.split_model.proofs.Without.{goes_as_without, run_as}
use Rattle.split_model.proofs.Suspending.{suspend_cases}
use Rattle.split_model.proofs.Overwriting.{poke_cases, overwriting_cases}
use Rattle.move_laws.specs.Permitted.{IsPermitted}
use Rattle.move_laws.specs.Kept.{IsPermittedKeeping, ArePermittedKeeping, report_keeping, ended_report_keeping}
use Rattle.move_laws.specs.Grantable.{AreGrantable}
use Rattle.move_laws.proofs.Always.{IsOrderly, always_within_keeping, within_keeping}
use Rattle.move_laws.proofs.KeptLines.{plainly_are}
use Rattle.move_laws.specs.Tells.{Tells}
use Rattle.move_laws.proofs.Follows.{IsAllowed, Follows}
use Rattle.move_laws.proofs.Tells.{tells_epoch}
use Rattle.split_model.specs.Report.{report_of, ended_report_of}
use Rattle.move_laws.proofs.Still.{IsStill, ArePlain, IsPlain, shown_plain, still, tells_still, follow_one, follow_plain}
use Rattle.move_laws.proofs.Acts.{IsKept, tells_write, front_kept, back_kept}

-- the lines so far obey the rules, and tell what lies under the ends
abbrev pub FollowsTo : List Line → World → Type 0
FollowsTo before w = Follows before w.under.pages w.under.grants

-- a move's own line, and those after it
follow_move : (before more : List Line) (shown : Move) (pages pages' : List ℕ) (table table' : GrantTable) → Follows before pages table → IsKept before shown pages' table' → ArePlain more → Follows (before ++ lines.Move shown ∷ more) pages' table'
follow_move before more shown pages pages' table table' follows kept plain =
    let one : Follows (before ++ lines.Move shown ∷ []) pages' table' = follow_one before (lines.Move shown) pages pages' table table' follows kept.allowed kept.tells in
    subst (λ (ls : List Line). Follows ls pages' table') (append_assoc before (lines.Move shown ∷ []) more) (follow_plain more (before ++ lines.Move shown ∷ []) pages' table' plain one)

plain_halt : (why : Halt) → IsPlain (lines.Halt why)
plain_halt why = record { is_still = still (lines.Halt why) refl (λ f w v b. refl) (λ n. refl) refl; free = λ b. record { coherent = tt; answered = tt; numbered = tt; touched = tt; grantable = tt } }

-- the mappings that live are those that the back and its jobs hold, with those that are kept
abbrev pub AllHeld : World → Type 0
AllHeld w = AreHeld w.under.grants (all_hands_of w.back)

no_lines : (before : List Line) (w : World) → FollowsTo before w → FollowsTo (before ++ []) w
no_lines before w follows = subst (λ (ls : List Line). FollowsTo ls w) (sym (append-nil before)) follows

front_follows : (w : World) (before : List Line) (act : Option FrontAct) → IsPermitted w FrontMoves → FollowsTo before w → front_turn w ≡ act → FollowsTo (before ++ front_shows w act) (front_after w act)
front_follows w before None within follows e = no_lines before w follows
front_follows w before (Some a) within follows e =
    follow_move before _ a.shown w.under.pages a.under.pages w.under.grants a.under.grants follows
    (front_kept before w.under (front_ask.ask_of w.front) a follows.tells within e) (front_told_is IsPlain (shown_plain FrontMoves) _)

back_follows : (w : World) (before : List Line) (o : Outcome) (act : Option BackAct) → AllHeld w → IsPermitted w BackMoves → FollowsTo before w → back_turn w o ≡ act → FollowsTo (before ++ back_shows_keeping w act) (back_after_keeping w act)
back_follows w before o None held within follows e = no_lines before w follows
back_follows w before o (Some a) held within follows e =
    let b : back.View = step_keeping w.back a.answer in
    follow_move before (back_lines b.told a.answer ++ halt_lines w.back.halted b.halted) a.shown w.under.pages a.under.pages w.under.grants a.under.grants follows
    (back_kept before w.under back_mover.Back (back_ask.ask_of w.back) o a (all_hands_of w.back) follows.tells held (names_more w.back (back_ask.ask_of w.back) within) e)
    (both_all IsPlain (back_lines b.told a.answer) (halt_lines w.back.halted b.halted) (back_told_is IsPlain (shown_plain BackMoves) b.told a.answer)
    (halt_is IsPlain plain_halt w.back.halted b.halted))

job_follows : (w : World) (before : List Line) (k : ℕ) (o : Outcome) (act : Option BackAct) → AllHeld w → IsPermittedKeeping w (Plainly (JobMoves k o)) → FollowsTo before w → job_turn_keeping w k o ≡ act → FollowsTo (before ++ job_shows_keeping w k act) (job_after_keeping w k act)
job_follows w before k o None held within follows e = no_lines before w follows
job_follows w before k o (Some a) held within follows e =
    let b : back.View = job_step_keeping w.back k a.answer in
    follow_move before (back_lines b.told a.answer) a.shown w.under.pages a.under.pages w.under.grants a.under.grants follows
    (back_kept before w.under (back_mover.Job k) (job_ask_keeping w.back k) o a (all_hands_of w.back) follows.tells held (names_more w.back (job_ask_keeping w.back k) within) e)
    (back_told_is IsPlain (shown_plain BackMoves) b.told a.answer)

-- a word of the guest's memory that a hostile hand overwrites
poke_follows : (w : World) (before : List Line) (frame word value : ℕ) → FollowsTo before w → FollowsTo (before ++ lines_at w (Pokes frame word value)) (happens w (Pokes frame word value))
poke_follows w before frame word value follows =
    poke_cases (λ under shown. Follows (before ++ shown) under.pages under.grants) w.under frame word value written (no_lines before w follows)
  where
    written : frame < 1024 → word < 1024 → Follows (before ++ lines.Poke frame word value ∷ []) (with_word w.under.pages frame word value) w.under.grants
    written framed worded =
        follow_one before (lines.Poke frame word value) w.under.pages (with_word w.under.pages frame word value) w.under.grants w.under.grants follows
        (record { coherent = tt; answered = tt; numbered = tt; touched = tt; grantable = tt })
        (tells_write before (lines.Poke frame word value) w.under.pages w.under.grants frame word value refl (λ n. refl) refl (λ f w' v. refl) (omega (arith, framed)) worded follows.tells)

-- a key that one overwrites is no word
overwritten_follows : (w : World) (before : List Line) (name text : List ℕ) → FollowsTo before w → FollowsTo (before ++ lines_at w (OverwritesKey name text)) (happens w (OverwritesKey name text))
overwritten_follows w before name text follows =
    overwriting_cases (λ under shown. Follows (before ++ shown) under.pages under.grants) w.under name text
    (λ allowed. follow_plain (lines.Key name text ∷ []) before w.under.pages w.under.grants (shown_plain (OverwritesKey name text) (lines.Key name text) tt tt, tt) follows) (no_lines before w follows)

-- a suspend clears the grant table, and no mapping stands then
suspend_follows : (w : World) (before : List Line) → FollowsTo before w → FollowsTo (before ++ lines_at w Suspends) (happens w Suspends)
suspend_follows w before follows = suspend_cases (λ v shown. FollowsTo (before ++ shown) v) w suspends (no_lines before w follows)
  where
    suspends : may_suspend w ≡ true → FollowsTo (before ++ lines.Epoch ∷ []) (suspended w)
    suspends may =
        follow_one before lines.Epoch w.under.pages (tables_cleared w.under.pages) w.under.grants (revoked_table w.under.grants) follows
        (record { coherent = tt; answered = tt; numbered = tt; touched = tt; grantable = tt })
        (tells_epoch before w.under.pages w.under.grants follows.tells)

-- a line that changes nothing, and is allowed wherever the lines before tell what lies there
record IsShown (pages : List ℕ) (table : GrantTable) (line : Line) : Type 0 where
  is_still : IsStill line
  allowed : (before : List Line) → Tells before pages table → IsAllowed before line

follow_shown : (pages : List ℕ) (table : GrantTable) (more before : List Line) → AllByRecursion (IsShown pages table) more → Follows before pages table → Follows (before ++ more) pages table
follow_shown pages table [] before all follows = subst (λ (ls : List Line). Follows ls pages table) (sym (append-nil before)) follows
follow_shown pages table (line ∷ more) before all follows =
    let here : IsShown pages table line = all.0 in
    let one : Follows (before ++ line ∷ []) pages table = follow_one before line pages pages table table follows (here.allowed before follows.tells) (tells_still before line pages table here.is_still follows.tells) in
    subst (λ (ls : List Line). Follows ls pages table) (append_assoc before (line ∷ []) more) (follow_shown pages table more (before ++ line ∷ []) all.1 one)

-- each word that a dump shows has the value that the lines before tell
word_shown : (pages : List ℕ) (table : GrantTable) (frame word : ℕ) → frame < 1088 → word < 1024 → IsShown pages table (lines.Word frame word (word_of pages frame word))
word_shown pages table frame word framed worded = record {
  is_still = still (lines.Word frame word (word_of pages frame word)) refl (λ f w v b. refl) (λ n. refl) refl;
  allowed = λ before tells. record { coherent = sym (tells.values frame word framed worded); answered = tt; numbered = tt; touched = tt; grantable = tt };
}

-- what holds of each word of 16 pages holds of each line of a dump of them
pub dump_words_are : (P : Line → Type 0) (pages : List ℕ) (place count : ℕ) → place + count ≤ 16384
    → ((frame word : ℕ) → frame < 18 → word < 1024 → P (lines.Word frame word (word_of pages frame word))) → AllByRecursion P (ring_lines pages place count)
dump_words_are P pages place zero within each = tt
dump_words_are P pages place (suc count) within each =
    by_value (word_of pages (2 + place / 1024) (place % 1024)) (each (2 + place / 1024) (place % 1024) (omega arith) (omega arith)) (dump_words_are P pages (place + 1) count (omega arith) each)
  where
    by_value : (value : ℕ) → P (lines.Word (2 + place / 1024) (place % 1024) value) → AllByRecursion P (ring_lines pages (place + 1) count) → AllByRecursion P (word_lines place value ++ ring_lines pages (place + 1) count)
    by_value zero shown rest = rest
    by_value (suc value) shown rest = (shown, rest)

dump_follows : (w : World) (before : List Line) → IsPermitted w Dumps → FollowsTo before w → FollowsTo (before ++ lines_at w Dumps) w
dump_follows w before few follows =
    follow_shown w.under.pages w.under.grants (lines_at w Dumps) before
    (dump_words_are (IsShown w.under.pages w.under.grants) w.under.pages 0 (1024 * 2 ^ w.front.shape.order) (omega (arith, few)) (λ frame word framed worded. word_shown w.under.pages w.under.grants frame word (omega arith) worded)) follows

-- lines that change nothing wherever they stand, of a happening that leaves memory and mappings as they are
stays_so : (w : World) (before more : List Line) → ArePlain more → FollowsTo before w → FollowsTo (before ++ more) w
stays_so w before more plain follows = follow_plain more before w.under.pages w.under.grants plain follows

follows_plainly : (w : World) (h : Happening) (before : List Line) → AllHeld w → IsPermittedKeeping w (Plainly h) → FollowsTo before w → FollowsTo (before ++ plainly_shows w h) (plainly_after w h)
follows_plainly w FrontMoves before held within follows = front_follows w before (front_turn w) within follows refl
follows_plainly w BackMoves before held within follows = back_follows w before Took (back_turn w Took) held within follows refl
follows_plainly w (JobMoves number outcome) before held within follows = job_follows w before number outcome (job_turn_keeping w number outcome) held within follows refl
follows_plainly w (Pokes frame word value) before held within follows = poke_follows w before frame word value follows
follows_plainly w (OverwritesKey name text) before held within follows = overwritten_follows w before name text follows
follows_plainly w Suspends before held within follows = suspend_follows w before follows
follows_plainly w Dumps before held within follows = dump_follows w before within follows
follows_plainly w h before held within follows = stays_so w before (plainly_shows w h) (plainly_are IsPlain w h (λ line shows. shown_plain h line tt shows)) follows

-- what the back does with the keys for kept mappings
key_plain : (line : Line) → IsOfKeys line → IsPlain line
key_plain line of_keys = shown_plain (Negotiates end.Back TakesWatch) line tt of_keys

offers_follows : (w : World) (before : List Line) (b : Bool) → FollowsTo before w → FollowsTo (before ++ (if b then offer_line ∷ [] else [])) (if b then offered w else w)
offers_follows w before true follows = stays_so w before (offer_line ∷ []) (key_plain offer_line tt, tt) follows
offers_follows w before false follows = no_lines before w follows

keeps_follows : (w : World) (before : List Line) (cap : ℕ) (b : Bool) → FollowsTo before w → FollowsTo (before ++ (if b then keeping_line w ∷ [] else [])) (if b then kept_so w cap else w)
keeps_follows w before cap true follows = stays_so w before (keeping_line w ∷ []) (key_plain (keeping_line w) tt, tt) follows
keeps_follows w before cap false follows = no_lines before w follows

pub follows_keeping : (w : World) (h : KeepingHappening) (before : List Line) → AllHeld w → IsPermittedKeeping w h → FollowsTo before w → FollowsTo (before ++ shows_keeping w h) (happens_keeping w h)
follows_keeping w (Plainly h) before held within follows = follows_plainly w h before held within follows
follows_keeping w BackOffers before held within follows = offers_follows w before (is_led w.back.stage) follows
follows_keeping w (BackKeeps cap) before held within follows = keeps_follows w before cap (reads_keeping w cap) follows

pub follows_after : (hs : List KeepingHappening) (w : World) (before : List Line) → IsSafeKeeping w → ArePermittedKeeping hs w → FollowsTo before w → FollowsTo (before ++ lines_keeping hs w) (after_keeping hs w)
follows_after [] w before safe within follows = no_lines before w follows
follows_after (h ∷ hs) w before safe within follows =
    subst (λ (ls : List Line). FollowsTo ls (after_keeping hs (happens_keeping w h))) (append_assoc before (shows_keeping w h) (lines_keeping hs (happens_keeping w h)))
    (follows_after hs (happens_keeping w h) (before ++ shows_keeping w h) (kept_happens w h safe) within.1 (follows_keeping w h before safe.held within.0 follows))

tells_start : Tells [] fresh_pages fresh_table
tells_start = record { sized = length-fresh_pages; values = λ frame word framed worded. sym (word_of-fresh_pages frame word); standing = refl; made = refl; grantable = All-nil IsGrantable }

pub follows_start : Follows [] fresh_pages fresh_table
follows_start = record { obeys = obeys_none IsAllowed; tells = tells_start }

plain_begin : (o : Options) (detail : Detail) → IsPlain (lines.Begin o detail)
plain_begin o detail =
    record { is_still = still (lines.Begin o detail) refl (λ f w v b. refl) (λ n. refl) refl; free = λ b. record { coherent = tt; answered = tt; numbered = tt; touched = tt; grantable = tt } }

plain_end : IsPlain lines.End
plain_end = record { is_still = still lines.End refl (λ f w v b. refl) (λ n. refl) refl; free = λ b. record { coherent = tt; answered = tt; numbered = tt; touched = tt; grantable = tt } }

pub follows_begin : (o : Options) (detail : Detail) → Follows (lines.Begin o detail ∷ []) fresh_pages fresh_table
follows_begin o detail = follow_plain (lines.Begin o detail ∷ []) [] fresh_pages fresh_table (plain_begin o detail, tt) follows_start

pub follows_end : (before : List Line) (pages : List ℕ) (table : GrantTable) → Follows before pages table → Follows (before ++ lines.End ∷ []) pages table
follows_end before pages table follows = follow_plain (lines.End ∷ []) before pages table (plain_end, tt) follows

pub coherent_of : (ls : List Line) → Obeys IsAllowed ls → IsCoherent ls
coherent_of ls obeys before rest line e = (obeys before rest line e).coherent

pub answers_of : (ls : List Line) → Obeys IsAllowed ls → AreMapAnswers ls
answers_of ls obeys before rest line e = (obeys before rest line e).answered

pub numbers_of : (ls : List Line) → Obeys IsAllowed ls → AreNumbered ls
numbers_of ls obeys before rest line e = (obeys before rest line e).numbered

pub touches_of : (ls : List Line) → Obeys IsAllowed ls → AreTouches ls
touches_of ls obeys before rest line e = (obeys before rest line e).touched

pub lines_obey_keeping : (config : Options) (history : List KeepingHappening) → config.order ≤ 4 → Obeys IsAllowed (lines_keeping history (start_of config))
lines_obey_keeping config history narrow = (follows_after history (start_of config) [] (kept_start config) (always_within_keeping config history narrow) follows_start).obeys

pub report_follows_keeping : (config : Options) (detail : Detail) (history : List KeepingHappening) → config.order ≤ 4 → FollowsTo (report_keeping config detail history) (after_keeping history (start_of config))
report_follows_keeping config detail history narrow =
    follows_after history (start_of config) (lines.Begin config detail ∷ []) (kept_start config) (always_within_keeping config history narrow) (follows_begin config detail)

pub report_obeys_keeping : (config : Options) (detail : Detail) (history : List KeepingHappening) → config.order ≤ 4 → Obeys IsAllowed (report_keeping config detail history)
report_obeys_keeping config detail history narrow = (report_follows_keeping config detail history narrow).obeys

pub ended_obeys_keeping : (config : Options) (detail : Detail) (history : List KeepingHappening) → config.order ≤ 4 → Obeys IsAllowed (ended_report_keeping config detail history)
ended_obeys_keeping config detail history narrow = (ended (report_keeping config detail history) (after_keeping history (start_of config)) (report_follows_keeping config detail history narrow)).obeys
  where
    ended : (before : List Line) (w : World) → FollowsTo before w → FollowsTo (before ++ lines.End ∷ []) w
    ended before w follows = follows_end before w.under.pages w.under.grants follows

-- a machine that keeps no mapping goes as this one
none_more : (v : back.View) → KeepsNone v → hands_of v ≡ all_hands_of v
none_more v none =
    ap (λ (l : List Mapping). aborted v.stage ++ (l ++ v.pages)) (sym (append-nil (hands_in v.jobs.works)))
    ∙ ap (λ (k : KeptMappings). aborted v.stage ++ ((hands_in v.jobs.works ++ mappings_of k) ++ v.pages)) (sym none)

pub as_without : (config : Options) (history : List Happening) → RunsAsWithout history (start_of config)
as_without config history = run_as history (start_of config) refl refl

pub follows_happens : (w : World) (h : Happening) (before : List Line) → IsSafe w → IsOrderly w → FollowsTo before w → FollowsTo (before ++ lines_at w h) (happens w h)
follows_happens w h before safe is follows =
    let goes = goes_as_without w h is.none is.silent in
    let held : AllHeld w = subst (AreHeld w.under.grants) (none_more w.back is.none) safe.held in
    subst (λ (v : World). FollowsTo (before ++ lines_at w h) v) goes.world
    (subst (λ (ls : List Line). FollowsTo (before ++ ls) (happens_keeping w (Plainly h))) goes.lines
    (follows_keeping w (Plainly h) before held (within_keeping w (Plainly h) is.ends) follows))

pub lines_obey : (config : Options) (history : List Happening) → config.order ≤ 4 → Obeys IsAllowed (lines_of history (start_of config))
lines_obey config history narrow = subst (Obeys IsAllowed) (as_without config history).lines (lines_obey_keeping config (map Plainly history) narrow)

pub report_follows : (config : Options) (detail : Detail) (history : List Happening) → config.order ≤ 4 → FollowsTo (report_of config detail history) (after history (start_of config))
report_follows config detail history narrow =
    let goes = as_without config history in
    subst (FollowsTo (report_of config detail history)) goes.world
    (subst (λ (ls : List Line). FollowsTo (lines.Begin config detail ∷ ls) (after_keeping (map Plainly history) (start_of config))) goes.lines (report_follows_keeping config detail (map Plainly history) narrow))

pub report_obeys : (config : Options) (detail : Detail) (history : List Happening) → config.order ≤ 4 → Obeys IsAllowed (report_of config detail history)
report_obeys config detail history narrow = (report_follows config detail history narrow).obeys

pub ended_obeys : (config : Options) (detail : Detail) (history : List Happening) → config.order ≤ 4 → Obeys IsAllowed (ended_report_of config detail history)
ended_obeys config detail history narrow =
    subst (λ (ls : List Line). Obeys IsAllowed ((lines.Begin config detail ∷ ls) ++ lines.End ∷ [])) (as_without config history).lines (ended_obeys_keeping config detail (map Plainly history) narrow)

pub grantable_of : (ls : List Line) → Obeys IsAllowed ls → AreGrantable ls
grantable_of ls obeys before rest line e = (obeys before rest line e).grantable
