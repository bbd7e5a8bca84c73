-- Whatever happens from the start, the lines keep the rules of the ring, also where the back keeps mappings.
use Rattle.std.proofs.Common.{◌≡◌, ℕ, ◌<◌, ◌^◌, ◌&&◌, Bool, true, false, if◌then◌else◌, length, List, [], ◌∷◌, ◌++◌, refl, ap, sym, subst, append_assoc, ◌∙◌, arith}
use Rattle.std.specs.Prelude.{Option, Some, None, is_some, not, ◌==◌, map, codes}
use Rattle.std.proofs.lemmas.List.{append-nil}
use Rattle.std.proofs.lemmas.Nat.{pow_pos}
use Rattle.std.proofs.lemmas.Slice.Eq.{bytes_eq-Decides}
use Rattle.std.specs.Str.{bytes_eq}
use Rattle.blk_base.specs.Options.{Options}
use Rattle.blk_base.specs.declared.operation.Abi.{Abi}
use Rattle.blk_base.specs.declared.operation.Abi.TheVariants.{X64, X32}
use Rattle.blk_base.specs.declared.parts.Mapping.{Mapping}
use Rattle.blk_base.specs.declared.parts.End.{End}
use Rattle.blk_base.specs.declared.parts.End.TheVariants as end
use Rattle.blk_base.specs.declared.moves.Mover.TheVariants as mover
use Rattle.blk_base.specs.declared.moves.Move.TheVariants as moves
use Rattle.ring_words.specs.Shape.{Shape, entries_of}
use Rattle.hypervisor.specs.Hypervisor.{Hypervisor}
use Rattle.report_rules.specs.declared.standing.Standing.{Standing}
use Rattle.report_rules.specs.Ring.{abi_named, abi_after}
use Rattle.schedule_text.specs.declared.line.Line.{Line}
use Rattle.schedule_text.specs.declared.line.Line.TheVariants as lines
use Rattle.schedule_text.specs.declared.line.Detail.{Detail}
use Rattle.hypervisor.specs.Act.{FrontAct, BackAct, Outcome, Took}
use Rattle.report_rules.specs.Overrun.{IsOverrunRule}
use Rattle.report_rules.specs.Stretch.{AreStretches}
use Rattle.back_jobs.specs.Jobs.{HeldJobs}
use Rattle.back_jobs.specs.Hands.{hands_in}
use Rattle.back_jobs.specs.Keeping.{all_hands, ask_keeping, complete_keeping}
use Rattle.blk_base.specs.declared.halt.Halt.{Halt}
use Rattle.blk_back.specs.declared.stage.BackStage.{BackStage}
use Rattle.blk_back.specs.declared.stage.BackStage.TheVariants as stage
use Rattle.blk_back.specs.Ask.{is_led}
use Rattle.blk_back.specs.Hands.{aborted}
use Rattle.blk_back.specs.Step.{may_attach, attached, halts}
use Rattle.blk_back.specs.Keeping.{may_keep_most, step_keeping, job_ask_keeping, halts_keeping, KeepsNone}
use Rattle.blk_back.specs.View as back
use Rattle.blk_back.specs.Step as back_step
use Rattle.back_laws.proofs.Calls.{keeps_mapping}
use Rattle.split_model.specs.World.{World, start_of, suspended}
use Rattle.split_model.specs.Happening.{Happening, FrontMoves, BackMoves, JobMoves, Negotiates, FrontEnters, BackAttaches, BackHalts, Submits, Suspends, layout_text, layout_read, happens, lines_at, front_after, front_shows, front_turn, back_turn}
use Rattle.split_model.specs.Kept.{KeepingHappening, Plainly, BackOffers, BackKeeps, keeping_path, keeping_text, back_offers, offered, offer_line, reads_keeping, kept_so, keeping_line, is_other_read, back_after_keeping, back_shows_keeping, job_turn_keeping, job_after_keeping, job_shows_keeping, halted_keeping, halt_shows_keeping, plainly_after, plainly_shows, happens_keeping, shows_keeping, after_keeping, lines_keeping, IsSafeKeeping}
use Rattle.split_model.proofs.SafeAnswers.{jobs_keeping}
use Rattle.split_model.specs.Keys.{KeyMove, is_between, is_layout, layout_path}
use Rattle.split_model.specs.Shown.{halt_lines}
use Rattle.split_model.specs.Report.{report_of, ended_report_of}
use Rattle.split_model.specs.Safe.{IsSafe}
use Rattle.split_model.proofs.Kept.{kept_start, kept_happens}
use Rattle.split_model.proofs.Without.{goes_as_without, run_as}
use Rattle.split_model.proofs.SafeFront.{start_front, entered_kept, submit_kept}
use Rattle.split_model.proofs.Suspending.{suspend_cases, front_kept, back_cases, suspended_told}
use Rattle.split_model.proofs.Attaching.{SaysServed, attach_cases}
use Rattle.split_model.proofs.Shapes.{attaches_waiting, attaches_order, attaches_grefs}
use Rattle.move_laws.specs.Kept.{report_keeping, ended_report_keeping}
use Rattle.ring_laws.specs.Layout.{IsNamedFirst}
use Rattle.ring_laws.proofs.ObeysRing.{ObeysRing, IsWhole, ring_none, ring_more, ring_epoch, foreign_stretch, own_stretch}
use Rattle.ring_laws.proofs.Anew.{new_sight, shows_epoch, new_follows, gone_follows}
use Rattle.ring_laws.proofs.Pages.{AreEarlier, pages_earlier}
use Rattle.ring_laws.proofs.Shows.{Sight, Shows}
use Rattle.ring_laws.proofs.Knows.{AreMapped, Waits, Untold, Maps, KnowsAt, Follows, knows_still, unhalted, whole_words}
use Rattle.ring_laws.proofs.Alike.{IsAlike, step_alike, halts_alike, follows_alike, goes_alike}
use Rattle.ring_laws.proofs.Back.{halt_follows}
use Rattle.ring_laws.proofs.Halting.{Stops, stops_cases}
use Rattle.ring_laws.proofs.Stages.{back_goes}
use Rattle.ring_laws.proofs.Outsiders.{IsBeside, AreOutsiders, get_key, outsiders_follow, front_outsiders, beside_outsiders}
use Rattle.ring_laws.proofs.Free.{follow_named, follow_other, follow_free, follow_all, job_free, job_running, free_told, free_end}
use Rattle.ring_laws.proofs.EntryWords.{entry_values, none_whole, counted_more, counted_none}

-- the lines so far keep the rules, the back has nothing left to tell, and the front's rings begin at that index
pub record FollowsTo (start : ℕ) (before : List Line) (w : World) : Type 0 where
  pub follows : Follows start [] before w.back
  pub told : w.back.told ≡ None
  pub begins : w.front.start ≡ start

-- only what it tells differs
retold : (start : ℕ) (before : List Line) (v : back.View) → Follows start [] before v → Follows start [] before (record v { told = None })
retold start before v f = record { sight = f.sight; begun = f.begun; more = f.more; grown = f.grown; shows = f.shows; knows = knows_still v.stage f.sight v v.ring.asleep v.jobs None f.knows; stands = f.stands }

no_lines : (start : ℕ) (before : List Line) (w : World) → FollowsTo start before w → FollowsTo start (before ++ []) w
no_lines start before w f = subst (λ (ls : List Line). FollowsTo start ls w) (sym (append-nil before)) f

front_follows : (start : ℕ) (w : World) (before : List Line) (act : Option FrontAct) → FollowsTo start before w → front_turn w ≡ act → FollowsTo start (before ++ front_shows w act) (front_after w act)
front_follows start w before None f e = no_lines start before w f
front_follows start w before (Some a) f e = record {
  follows = outsiders_follow start [] _ before w.back (front_outsiders w.back.stage w (Some a) e) f.follows;
  told = f.told;
  begins = start_front w.front a.answer ∙ f.begins;
}

whole : (start n : ℕ) (values : List ℕ) {ls : List Line} {v : back.View} → n ≡ start → Follows n values ls v → Follows start [] ls v
whole start n values same g = record { sight = g.sight; begun = g.begun ∙ same; more = g.sight.values; grown = refl; shows = g.shows; knows = g.knows; stands = g.stands }

-- the pages that the back has mapped were made before
abbrev pub HasEarlier : World → Type 0
HasEarlier w = let h : Hypervisor = w.under in AreEarlier h.grants.made w.back.pages

pub earlier_pages : (w : World) → IsSafe w → HasEarlier w
earlier_pages w safe = pages_earlier w.under.grants (aborted w.back.stage) (hands_in w.back.jobs.works) w.back.pages safe.held

pub earlier_kept : (w : World) → IsSafeKeeping w → HasEarlier w
earlier_kept w safe = pages_earlier w.under.grants (aborted w.back.stage) (all_hands w.back.jobs) w.back.pages safe.held

back_follows : (start : ℕ) (w : World) (before : List Line) (o : Outcome) (act : Option BackAct) → HasEarlier w → FollowsTo start before w → back_turn w o ≡ act → FollowsTo start (before ++ back_shows_keeping w act) (back_after_keeping w act)
back_follows start w before o None earlier f e = no_lines start before w f
back_follows start w before o (Some a) earlier f e =
    let x : Sight = f.follows.sight in
    let gone = back_goes before w.under w.back.stage w.back o a f.follows.sight earlier f.follows.knows f.follows.knows f.follows.shows f.follows.stands f.told e in
    let kept = goes_alike x.start x.values before w.back (back_step.step_of w.back a.answer) (step_keeping w.back a.answer) a.answer a.shown (step_alike w.back.stage w.back a.answer) gone in
    record { follows = retold start _ (step_keeping w.back a.answer) (whole start x.start x.values f.follows.begun kept); told = refl; begins = f.begins }

-- other jobs are nothing to it
with_jobs : (start : ℕ) (before : List Line) (v : back.View) (jobs : HeldJobs) → Follows start [] before v → Follows start [] before (record v { jobs = jobs; told = None })
with_jobs start before v jobs f = record { sight = f.sight; begun = f.begun; more = f.more; grown = f.grown; shows = f.shows; knows = knows_still v.stage f.sight v v.ring.asleep jobs None f.knows; stands = f.stands }

job_follows : (start : ℕ) (w : World) (before : List Line) (k : ℕ) (o : Outcome) (act : Option BackAct) → FollowsTo start before w → job_turn_keeping w k o ≡ act → FollowsTo start (before ++ job_shows_keeping w k act) (job_after_keeping w k act)
job_follows start w before k o None f e = no_lines start before w f
job_follows start w before k o (Some a) f e =
    let running : is_some w.back.halted ≡ false = job_running (is_some w.back.halted) w.under k (ask_keeping w.back.jobs k) o a e in
    let all : Follows start [] (before ++ job_shows_keeping w k (Some a)) w.back = follow_all start [] _ before w.back (job_free (is_some w.back.halted) w.under k (job_ask_keeping w.back k) o a running (jobs_keeping w.back k) e, free_told (is_some w.back.halted) _ a.answer running) f.follows in
    record { follows = with_jobs start (before ++ job_shows_keeping w k (Some a)) w.back (complete_keeping w.back.jobs k a.answer) all; told = refl; begins = f.begins }

-- the lines of a back whose negotiation has it halt
halted_plainly : (start : ℕ) (w : World) (before : List Line) (why : Halt) → FollowsTo start before w → FollowsTo start (before ++ lines_at w (BackHalts why)) (happens w (BackHalts why))
halted_plainly start w before why f =
    stops_cases (λ (new : back.View). FollowsTo start (before ++ halt_lines w.back.halted new.halted) (record { front = w.front; back = new; under = w.under })) why w.back f.follows.sight f.follows.knows stops none
  where
    stops : (new : back.View) → Stops f.follows.sight why w.back new → FollowsTo start (before ++ halt_lines w.back.halted new.halted) (record { front = w.front; back = new; under = w.under })
    stops new s =
        let one : lines.Halt why ∷ [] ≡ halt_lines w.back.halted new.halted = sym (ap (λ (o : Option Halt). halt_lines o new.halted) s.running ∙ ap (λ (o : Option Halt). halt_lines None o) s.halted) in
        let x : Sight = f.follows.sight in
        let all : Follows x.start x.values (before ++ lines.Halt why ∷ []) new = halt_follows before new f.follows.sight why (is_some w.back.halted) s.halted s.plain s.knows s.whole f.follows.shows f.follows.stands in
        record { follows = subst (λ (ls : List Line). Follows start [] (before ++ ls) new) one (whole start x.start x.values f.follows.begun all); told = s.told ∙ f.told; begins = f.begins }

    none : FollowsTo start (before ++ halt_lines w.back.halted w.back.halted) (record { front = w.front; back = w.back; under = w.under })
    none = record { follows = subst (λ (ls : List Line). Follows start [] ls w.back) (sym (ap (λ (ls : List Line). before ++ ls) (unhalted w.back.halted) ∙ append-nil before)) f.follows; told = f.told; begins = f.begins }

halted_follows : (start : ℕ) (w : World) (before : List Line) (why : Halt) → FollowsTo start before w → FollowsTo start (before ++ halt_shows_keeping w why) (halted_keeping w why)
halted_follows start w before why f =
    let plain : FollowsTo start (before ++ lines_at w (BackHalts why)) (happens w (BackHalts why)) = halted_plainly start w before why f in
    let alike : IsAlike (halts why w.back) (halts_keeping why w.back) = halts_alike why w.back in
    let kept : Follows start [] (before ++ lines_at w (BackHalts why)) (halts_keeping why w.back) = follows_alike start [] (before ++ lines_at w (BackHalts why)) (halts why w.back) (halts_keeping why w.back) alike plain.follows in
    record {
      follows = subst (λ (h : Option Halt). Follows start [] (before ++ halt_lines w.back.halted h) (halts_keeping why w.back)) (sym alike.halted) kept;
      told = alike.told ∙ plain.told;
      begins = plain.begins;
    }

-- the layout that the key names is the one that the back takes
abi_told : (last : Option Abi) (abi : Abi) (text : Option (List ℕ)) → is_layout abi text ≡ true → abi_after last (lines.Move (moves.GetKey mover.Back layout_path text)) ≡ Some abi
abi_told last X64 None layout = refl
abi_told last X64 (Some text) layout = ap (λ (b : Bool). if b then Some X64 else (if bytes_eq text (codes "x86_32-abi") then Some X32 else None)) layout
abi_told last X32 None layout = absurd (cc)
abi_told last X32 (Some text) layout = ap (λ (t : List ℕ). abi_named (Some t)) ((bytes_eq-Decides text (codes "x86_32-abi")).0 layout)

no_pages : (told : List Standing) (pages : List Mapping) → told ≡ [] → pages ≡ [] → AreMapped told pages
no_pages told pages none empty = rw (none, empty) (record { same = refl; apart = tt })

-- a back that takes terms waited for them
waited : (start : ℕ) (w : World) (before : List Line) (shape : Shape) (grefs : List ℕ) (f : FollowsTo start before w) → may_attach shape grefs w.back ≡ true → (let g : Follows start [] before w.back = f.follows in KnowsAt stage.InitWait g.sight w.back)
waited start w before shape grefs f may = let g : Follows start [] before w.back = f.follows in subst (λ (s : BackStage). KnowsAt s g.sight w.back) (attaches_waiting shape grefs w.back may) g.knows

pub unread : (start : ℕ) (w : World) (before : List Line) (shape : Shape) (grefs : List ℕ) → FollowsTo start before w → may_attach shape grefs w.back ≡ true → entry_values before ≡ []
unread start w before shape grefs f may =
    let g : Follows start [] before w.back = f.follows in
    let n : Untold g.sight w.back.ring.indices w.back.pages w.back.ring.seen w.back.halted w.back.fetched = waited start w before shape grefs f may in
    g.shows.values ∙ n.waits.values

-- the terms of its front are taken with the read of the layout
attached_follows : (start : ℕ) (w : World) (before : List Line) (shape : Shape) (grefs : List ℕ) (port : ℕ) → FollowsTo start before w → FollowsTo start (before ++ lines_at w (BackAttaches shape grefs port)) (happens w (BackAttaches shape grefs port))
attached_follows start w before shape grefs port f =
    attach_cases (λ (new : back.View) (shown : List Line). FollowsTo start (before ++ shown) (record { front = w.front; back = new; under = w.under })) w shape grefs port takes (no_lines start before w f)
  where
    x : Sight
    x = f.follows.sight

    takes : may_attach shape grefs w.back ≡ true → is_layout shape.abi (layout_text w) ≡ true → SaysServed w → FollowsTo start (before ++ lines.Move (layout_read w) ∷ []) (record { front = w.front; back = attached shape grefs port w.back; under = w.under })
    takes may layout says =
        let n : Untold x w.back.ring.indices w.back.pages w.back.ring.seen w.back.halted w.back.fetched = waited start w before shape grefs f may in
        let waits : Waits x w.back.ring.indices w.back.ring.seen w.back.halted w.back.fetched = n.waits in
        let line : Line = lines.Move (layout_read w) in
        let whole : IsWhole x = none_whole x.abi x.words waits.words in
        let few : length w.back.pages ≡ 0 = ap (λ (ps : List Mapping). length ps) n.none in
        let some = pow_pos shape.order in
        let knows : Maps (record x { abi = Some shape.abi }) shape (record { entries = entries_of shape.order; prod = w.back.ring.indices.prod; cons = w.back.ring.indices.prod }) grefs w.back.pages w.back.ring.seen w.back.halted w.back.fetched = record {
          waits = record { running = waits.running; untouched = waits.untouched; begins = waits.begins; replied = waits.replied; produced = waits.produced; words = waits.words; values = waits.values; numbered = waits.numbered };
          narrow = attaches_order shape grefs w.back may;
          layout = refl;
          entries = refl;
          consumed = refl;
          mapped = no_pages x.pages w.back.pages n.untold n.none;
          each = attaches_grefs shape grefs w.back may;
          fewer = omega arith;
        } in
        record {
          follows = follow_named start [] before line w.back (attached shape grefs port w.back) (Some shape.abi) f.follows refl (abi_told x.abi shape.abi (layout_text w) layout) (λ over. refl) refl
              (λ read. f.follows.shows.pages ∙ n.untold) (own_stretch before line x f.follows.shows whole refl tt) refl knows;
          told = f.told;
          begins = f.begins;
        }

-- a new epoch, in which a new back begins, or one whose front is gone
suspended_follows : (start : ℕ) (w : World) (before : List Line) → FollowsTo start before w → FollowsTo start (before ++ lines.Epoch ∷ []) (suspended w)
suspended_follows start w before f = record {
  follows = subst (λ (n : ℕ). Follows n [] longer (let v : World = suspended w in v.back)) f.begins
      (back_cases (λ (b : back.View). Follows w.front.start [] longer b) w
      (new_follows w.front.start (let b : back.View = w.back in b.jobs.info) longer shows (obeys false)) (gone_follows w.front.start (let b : back.View = w.back in b.jobs.info) longer shows (obeys true)));
  told = suspended_told w;
  begins = (front_kept w.front).start ∙ f.begins;
}
  where
    longer : List Line
    longer = before ++ lines.Epoch ∷ []

    x : Sight
    x = f.follows.sight

    same : x.start ≡ w.front.start
    same = f.follows.begun ∙ sym f.begins

    shows : Shows (before ++ lines.Epoch ∷ []) (new_sight w.front.start)
    shows = shows_epoch before w.front.start (f.follows.shows.start ∙ same)

    obeys : (over : Bool) → ObeysRing (before ++ lines.Epoch ∷ []) w.front.start over
    obeys over = ring_epoch before w.front.start (is_some w.back.halted) over (subst (λ (n : ℕ). ObeysRing before n (is_some w.back.halted)) same f.follows.stands)

suspend_follows : (start : ℕ) (w : World) (before : List Line) → FollowsTo start before w → FollowsTo start (before ++ lines_at w Suspends) (happens w Suspends)
suspend_follows start w before f = suspend_cases (λ (v : World) (shown : List Line). FollowsTo start (before ++ shown) v) w (λ may. suspended_follows start w before f) (no_lines start before w f)

beside_follows : (start : ℕ) (w : World) (h : Happening) (before : List Line) → IsBeside h → FollowsTo start before w → Follows start [] (before ++ lines_at w h) w.back
beside_follows start w h before is f = outsiders_follow start [] (lines_at w h) before w.back (beside_outsiders w h is) f.follows

-- the back publishes that it keeps grants, while it waits for the terms of its front
offers_follow : (start : ℕ) (w : World) (before : List Line) (led : Bool) → is_led w.back.stage ≡ led → FollowsTo start before w → FollowsTo start (before ++ (if led then offer_line ∷ [] else [])) (if led then offered w else w)
offers_follow start w before false is f = no_lines start before w f
offers_follow start w before true is f =
    let x : Sight = f.follows.sight in
    let whole : IsWhole x = whole_words w.back.stage x w.back (led_between w.back.stage is) f.follows.knows in
    record { follows = follow_other start [] before offer_line w.back refl refl (λ over. refl) refl (own_stretch before offer_line x f.follows.shows whole refl tt) f.follows; told = f.told; begins = f.begins }
  where
    led_between : (s : BackStage) → is_led s ≡ true → is_between s ≡ true
    led_between stage.InitWait led = refl
    led_between s led = absurd (cc)

-- and reads whether its front does, before it maps a page of the ring
pub reads_may : (w : World) (cap : ℕ) → reads_keeping w cap ≡ true → may_keep_most cap w.back ≡ true
reads_may w cap reads = middle_of (back_offers w) (may_keep_most cap w.back) (not (cap == 0)) reads
  where
    middle_of : (a b c : Bool) → (a && b && c) ≡ true → b ≡ true
    middle_of true true c e = refl
    middle_of true false c e = absurd (cc)
    middle_of false b c e = absurd (cc)

keeps_follow : (start : ℕ) (w : World) (before : List Line) (cap : ℕ) (reads : Bool) → reads_keeping w cap ≡ reads → FollowsTo start before w → FollowsTo start (before ++ (if reads then keeping_line w ∷ [] else [])) (if reads then kept_so w cap else w)
keeps_follow start w before cap false is f = no_lines start before w f
keeps_follow start w before cap true is f =
    let v : back.View = w.back in
    let between : is_between v.stage ≡ true = ap is_between (keeps_mapping cap v (reads_may w cap is)) in
    let all : AreOutsiders v.stage (keeping_line w ∷ []) = (get_key v.stage end.Back keeping_path (keeping_text w) (λ own. absurd (cc)) (λ led. refl), tt) in
    let told : Follows start [] (before ++ keeping_line w ∷ []) v = outsiders_follow start [] (keeping_line w ∷ []) before v all f.follows in
    let jobs : HeldJobs = (let n : World = kept_so w cap in n.back.jobs) in
    record { follows = record { sight = told.sight; begun = told.begun; more = told.more; grown = told.grown; shows = told.shows; knows = knows_still v.stage told.sight v v.ring.asleep jobs v.told told.knows; stands = told.stands }; told = f.told; begins = f.begins }

-- an end turns to its keys
keys_follow : (start : ℕ) (w : World) (before : List Line) (at : End) (move : KeyMove) (other : Bool) → FollowsTo start before w
    → FollowsTo start (before ++ (if other then [] else lines_at w (Negotiates at move))) (happens w (Negotiates at move))
keys_follow start w before at move true f = record { follows = (no_lines start before w f).follows; told = f.told; begins = f.begins }
keys_follow start w before at move false f = record { follows = beside_follows start w (Negotiates at move) before tt f; told = f.told; begins = f.begins }

plainly_follows : (start : ℕ) (w : World) (h : Happening) (before : List Line) → HasEarlier w → FollowsTo start before w → FollowsTo start (before ++ plainly_shows w h) (plainly_after w h)
plainly_follows start w FrontMoves before earlier f = front_follows start w before (front_turn w) f refl
plainly_follows start w BackMoves before earlier f = back_follows start w before Took (back_turn w Took) earlier f refl
plainly_follows start w (JobMoves number outcome) before earlier f = job_follows start w before number outcome (job_turn_keeping w number outcome) f refl
plainly_follows start w (Negotiates at move) before earlier f = keys_follow start w before at move (is_other_read w at move) f
plainly_follows start w (FrontEnters state) before earlier f =
    record { follows = beside_follows start w (FrontEnters state) before tt f; told = f.told; begins = (entered_kept state w.front).start ∙ f.begins }
plainly_follows start w (BackAttaches shape grefs port) before earlier f = attached_follows start w before shape grefs port f
plainly_follows start w (BackHalts why) before earlier f = halted_follows start w before why f
plainly_follows start w (Submits job) before earlier f = record { follows = beside_follows start w (Submits job) before tt f; told = f.told; begins = (submit_kept w.front job).start ∙ f.begins }
plainly_follows start w Suspends before earlier f = suspend_follows start w before f
plainly_follows start w h before earlier f = record { follows = beside_follows start w h before tt f; told = f.told; begins = f.begins }

pub follows_keeping : (start : ℕ) (w : World) (h : KeepingHappening) (before : List Line) → HasEarlier w → FollowsTo start before w → FollowsTo start (before ++ shows_keeping w h) (happens_keeping w h)
follows_keeping start w (Plainly h) before earlier f = plainly_follows start w h before earlier f
follows_keeping start w BackOffers before earlier f = offers_follow start w before (is_led w.back.stage) refl f
follows_keeping start w (BackKeeps cap) before earlier f = keeps_follow start w before cap (reads_keeping w cap) refl f

-- where nothing is kept it is so of what happens to a machine that never keeps any
pub follows_happens : (start : ℕ) (w : World) (h : Happening) (before : List Line) → KeepsNone w.back → back_offers w ≡ false → HasEarlier w → FollowsTo start before w → FollowsTo start (before ++ lines_at w h) (happens w h)
follows_happens start w h before none silent earlier f =
    let goes = goes_as_without w h none silent in
    subst (λ (ls : List Line). FollowsTo start (before ++ ls) (happens w h)) goes.lines
    (subst (λ (v : World). FollowsTo start (before ++ plainly_shows w h) v) goes.world (plainly_follows start w h before earlier f))

follows_after : (start : ℕ) (hs : List KeepingHappening) (w : World) (before : List Line) → IsSafeKeeping w → FollowsTo start before w → FollowsTo start (before ++ lines_keeping hs w) (after_keeping hs w)
follows_after start [] w before safe f = no_lines start before w f
follows_after start (h ∷ hs) w before safe f =
    subst (λ (ls : List Line). FollowsTo start ls (after_keeping hs (happens_keeping w h))) (append_assoc before (shows_keeping w h) (lines_keeping hs (happens_keeping w h)))
    (follows_after start hs (happens_keeping w h) (before ++ shows_keeping w h) (kept_happens w h safe) (follows_keeping start w h before (earlier_kept w safe) f))

-- the first line
pub follows_begin : (config : Options) (detail : Detail) → Follows config.start [] (lines.Begin config detail ∷ []) (back.start_of config)
follows_begin config detail =
    new_follows config.start (back.info_of config) (lines.Begin config detail ∷ [])
    (record { pages = refl; replied = refl; produced = refl; words = refl; start = refl; values = refl; abi = refl; fresh = λ none. refl; counted = counted_more [] (lines.Begin config detail) refl (λ read. absurd (cc)) counted_none })
    (ring_more [] (lines.Begin config detail) config.start false (ring_none config.start) refl refl (λ over. refl) refl (λ read. absurd (cc)) (λ small. foreign_stretch [] (lines.Begin config detail) refl refl))

report_follows : (config : Options) (detail : Detail) (history : List KeepingHappening) → FollowsTo config.start (report_keeping config detail history) (after_keeping history (start_of config))
report_follows config detail history = follows_after config.start history (start_of config) (lines.Begin config detail ∷ []) (kept_start config) (record { follows = follows_begin config detail; told = refl; begins = refl })

ended_follows : (config : Options) (detail : Detail) (history : List KeepingHappening) → Follows config.start [] (ended_report_keeping config detail history) (let w : World = after_keeping history (start_of config) in w.back)
ended_follows config detail history =
    let w : World = after_keeping history (start_of config) in
    follow_free config.start [] (report_keeping config detail history) lines.End w.back (free_end (is_some w.back.halted)) (report_follows config detail history).follows

-- the rules that don't speak of jobs
pub record RingRules (start : ℕ) (report : List Line) : Type 0 where
  pub overruns : IsOverrunRule report
  pub stretches : start < 2 ^ 32 → AreStretches report
  pub named : IsNamedFirst report

rules_of : (start : ℕ) (before : List Line) (v : back.View) → Follows start [] before v → RingRules start before
rules_of start before v f = record { overruns = f.stands.overruns; stretches = λ small. f.stands.stretches (subst (λ (n : ℕ). n < 2 ^ 32) (sym f.begun) small); named = f.stands.named }

pub report_keeps : (config : Options) (detail : Detail) (history : List KeepingHappening) → RingRules config.start (report_keeping config detail history)
report_keeps config detail history = rules_of config.start _ _ (report_follows config detail history).follows

pub ended_keeps : (config : Options) (detail : Detail) (history : List KeepingHappening) → RingRules config.start (ended_report_keeping config detail history)
ended_keeps config detail history = rules_of config.start _ _ (ended_follows config detail history)

-- a machine that never keeps any is one of these
plain_report : (config : Options) (detail : Detail) (history : List Happening) → report_keeping config detail (map Plainly history) ≡ report_of config detail history
plain_report config detail history = ap (λ (ls : List Line). lines.Begin config detail ∷ ls) (run_as history (start_of config) refl refl).lines

pub report_rings : (config : Options) (detail : Detail) (history : List Happening) → RingRules config.start (report_of config detail history)
report_rings config detail history = subst (RingRules config.start) (plain_report config detail history) (report_keeps config detail (map Plainly history))

pub ended_rings : (config : Options) (detail : Detail) (history : List Happening) → RingRules config.start (ended_report_of config detail history)
ended_rings config detail history = subst (λ (ls : List Line). RingRules config.start (ls ++ lines.End ∷ [])) (plain_report config detail history) (ended_keeps config detail (map Plainly history))

pub ended_overruns : (config : Options) (detail : Detail) (history : List Happening) → IsOverrunRule (ended_report_of config detail history)
ended_overruns config detail history = (ended_rings config detail history).overruns

pub ended_stretches : (config : Options) (detail : Detail) (history : List Happening) → config.start < 2 ^ 32 → AreStretches (ended_report_of config detail history)
ended_stretches config detail history = (ended_rings config detail history).stretches

pub ended_named : (config : Options) (detail : Detail) (history : List Happening) → IsNamedFirst (ended_report_of config detail history)
ended_named config detail history = (ended_rings config detail history).named
