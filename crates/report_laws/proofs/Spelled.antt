-- Each key's path and text and each watch's path is one of the grammar, whatever happens with moves that are.
use Rattle.std.proofs.lemmas.Bool.Decides.{nat_tests}
use Rattle.line_text.proofs.Both.{both_true}
use Rattle.std.proofs.Common.{◌≡◌, ℕ, ◌&&◌, Bool, true, false, not, cond, if◌then◌else◌, List, [], ◌∷◌, ◌++◌, filter, refl, subst, arith, ◌≤◌}
use Rattle.std.specs.Prelude.{Option, Some, None, codes, nat_lt, nat_le, length}
use Rattle.std.specs.List.{AllByRecursion, list_any, list_all}
use Rattle.std.specs.BTreeMap.{is_at}
use Rattle.std.specs.Ordering.{nat_cmp, match_ordering}
use Rattle.std.specs.declared.cmp.Ordering.{Ordering}
use Rattle.std.specs.declared.cmp.Ordering.TheVariants.{Less, Equal, Greater}
use Rattle.std.specs.Cmp.Lexicographic.{slice_cmp}
use Rattle.std.proofs.lemmas.Option.{none-some, same_Some}
use Rattle.std.proofs.lemmas.List.Elements.{recursion_from_All, All-from_recursion, All-filter}
use Rattle.line_text.specs.Texts.{is_key_path, is_key_text, is_key_name, is_name_byte, is_graphic}
use Rattle.blk_base.specs.declared.parts.End.{End}
use Rattle.blk_base.specs.declared.parts.End.TheVariants as end
use Rattle.blk_base.specs.declared.moves.Move.{Move}
use Rattle.blk_base.specs.declared.moves.Move.TheVariants as moves
use Rattle.schedule_text.specs.declared.line.Line.TheVariants as lines
use Rattle.schedule_text.specs.Range.{IsInRange, MoveHasWidths, MoverHasWidths, is_mover_allowed, is_move_allowed}
use Rattle.key_directory.specs.Paths.{is_at_or_under}
use Rattle.key_directory.specs.Watches.{Watches, same_path, with_watch, fired, first_of, next_watch, taken, taken_from}
use Rattle.key_directory.specs.Directory.{Directory, key_of, with_key, written, watches_of, with_watches, fresh_directory}
use Rattle.blk_front.specs.State.{is_open}
use Rattle.split_model.specs.World.{World, state_after}
use Rattle.split_model.specs.Keys.{KeyMove, Gets, Sets, Watches as WatchesPath, mover_at, may_set, layout_path, negotiated, negotiated_lines, front_path}
use Rattle.split_model.specs.Happening.{Happening, BackMoves, JobMoves, BackHalts, Negotiates, layout_text, layout_read, happens, back_turn}
use Rattle.split_model.specs.Kept.{KeepingHappening, Plainly, BackOffers, BackKeeps, offering_path, keeping_path, keeping_text, offered, offer_line, kept_so, keeping_line, reads_keeping, is_other_read, back_after_keeping, job_turn_keeping, job_after_keeping, plainly_after, plainly_shows, happens_keeping}
use Rattle.split_model.proofs.Keys.{key_cases, negotiated_cases, keys_happen, back_stays, backs_no_key, jobs_no_key}
use Rattle.split_model.proofs.SafeAnswers.{backs_of, jobs_keeping}
use Rattle.hypervisor.specs.Act.{BackAct, Outcome, Took}
use Rattle.blk_base.specs.declared.moves.BackMover.TheVariants as back_mover
use Rattle.blk_back.specs.Ask as back_ask
use Rattle.blk_back.specs.Ask.{is_led}
use Rattle.blk_back.specs.Keeping.{job_ask_keeping}
use Rattle.report_laws.specs.Kept.{IsPossibleKeeping}
use Rattle.move_laws.proofs.KeptLines.{either_world}
use Rattle.machine_pipeline.specs.Allowed.{IsSpelled, IsPossible}
use Rattle.report_laws.proofs.Told.{AreGood, good}

abbrev pub IsPath : List ℕ → Type 0
IsPath path = is_key_path path ≡ true

abbrev IsKey : List ℕ × List ℕ → Type 0
IsKey key = IsPath key.0 × (is_key_text key.1 ≡ true)

pub record AreWatched (w : Watches) : Type 0 where
  pub pending : AllByRecursion IsPath w.pending
  pub idle : AllByRecursion IsPath w.idle

pub record AreSpelled (d : Directory) : Type 0 where
  pub keys : AllByRecursion IsKey d.keys
  pub front : AreWatched d.front
  pub back : AreWatched d.back

-- the text that is found at a path
text_found : (keys : List (List ℕ × List ℕ)) (path text : List ℕ) → AllByRecursion IsKey keys → key_of keys path ≡ Some text → is_key_text text ≡ true
text_found [] path text all e = absurd (none-some text e)
text_found (key ∷ keys) path text all e = by_test (is_at (slice_cmp nat_cmp path) key.0) (text_found keys path text all.1) e
  where
    by_test : (b : Bool) → (key_of keys path ≡ Some text → is_key_text text ≡ true) → cond b (Some key.1) (key_of keys path) ≡ Some text → is_key_text text ≡ true
    by_test true later e = subst (λ (t : List ℕ). is_key_text t ≡ true) (same_Some key.1 text e) all.0.1
    by_test false later e = later e

key_set : (keys : List (List ℕ × List ℕ)) (path text : List ℕ) → IsPath path → is_key_text text ≡ true → AllByRecursion IsKey keys → AllByRecursion IsKey (with_key keys path text)
key_set [] path text named said all = ((named, said), tt)
key_set (key ∷ keys) path text named said all = by_order (slice_cmp nat_cmp path key.0) (key_set keys path text named said all.1)
  where
    by_order : (o : Ordering) → AllByRecursion IsKey (with_key keys path text) → AllByRecursion IsKey (match_ordering o ((path, text) ∷ key ∷ keys) ((key.0, text) ∷ keys) (key ∷ with_key keys path text))
    by_order Less later = ((named, said), all)
    by_order Equal later = ((all.0.0, said), all.1)
    by_order Greater later = (all.0, later)

-- paths of watches
more_paths : (xs ys : List (List ℕ)) → AllByRecursion IsPath xs → AllByRecursion IsPath ys → AllByRecursion IsPath (xs ++ ys)
more_paths [] ys p q = q
more_paths (x ∷ xs) ys p q = (p.0, more_paths xs ys p.1 q)

fewer_paths : (p : List ℕ → Bool) (xs : List (List ℕ)) → AllByRecursion IsPath xs → AllByRecursion IsPath (filter p xs)
fewer_paths p xs all = recursion_from_All IsPath (filter p xs) (All-filter p IsPath xs (All-from_recursion IsPath xs all))

watch_set : (w : Watches) (path : List ℕ) → IsPath path → AreWatched w → AreWatched (with_watch w path)
watch_set w path named all = by_test (list_any (λ (watch : List ℕ). same_path path watch) w.pending)
  where
    by_test : (b : Bool) → AreWatched (if b then w else record { pending = w.pending ++ path ∷ []; idle = filter (λ (watch : List ℕ). not (same_path path watch)) w.idle })
    by_test true = all
    by_test false = record { pending = more_paths w.pending (path ∷ []) all.pending (named, tt); idle = fewer_paths (λ (watch : List ℕ). not (same_path path watch)) w.idle all.idle }

watch_fired : (w : Watches) (path : List ℕ) → AreWatched w → AreWatched (fired w path)
watch_fired w path all = record {
  pending = more_paths w.pending (filter (λ (watch : List ℕ). is_at_or_under watch path) w.idle) all.pending (fewer_paths (λ (watch : List ℕ). is_at_or_under watch path) w.idle all.idle);
  idle = fewer_paths (λ (watch : List ℕ). not (is_at_or_under watch path)) w.idle all.idle;
}

watch_taken : (w : Watches) → AreWatched w → AreWatched (taken w)
watch_taken w all = by_pending w.pending all.pending
  where
    by_pending : (pending : List (List ℕ)) → AllByRecursion IsPath pending → AreWatched (taken_from pending w.idle)
    by_pending [] none = record { pending = tt; idle = all.idle }
    by_pending (path ∷ later) some = record { pending = some.1; idle = more_paths w.idle (path ∷ []) all.idle (some.0, tt) }

pub next_path : (w : Watches) (path : List ℕ) → AreWatched w → next_watch w ≡ Some path → IsPath path
next_path w path all first = by_pending w.pending all.pending first
  where
    by_pending : (pending : List (List ℕ)) → AllByRecursion IsPath pending → first_of pending ≡ Some path → IsPath path
    by_pending [] none e = absurd (none-some path e)
    by_pending (next ∷ later) some e = subst IsPath (same_Some next path e) some.0

-- both ends' watches
watched_at : (d : Directory) (at : End) → AreSpelled d → AreWatched (watches_of d at)
watched_at d end.Front all = all.front
watched_at d end.Back all = all.back

spelled_watching : (d : Directory) (at : End) (w : Watches) → AreSpelled d → AreWatched w → AreSpelled (with_watches d at w)
spelled_watching d end.Front w all watched = record { keys = all.keys; front = watched; back = all.back }
spelled_watching d end.Back w all watched = record { keys = all.keys; front = all.front; back = watched }

spelled_taken : (at : End) (d : Directory) → AreSpelled d → AreSpelled (with_watches d at (taken (watches_of d at)))
spelled_taken at d all = spelled_watching d at _ all (watch_taken (watches_of d at) (watched_at d at all))

spelled_written : (d : Directory) (path text : List ℕ) → IsPath path → is_key_text text ≡ true → AreSpelled d → AreSpelled (written d path text)
spelled_written d path text named said all = record { keys = key_set d.keys path text named said all.keys; front = watch_fired d.front path all.front; back = watch_fired d.back path all.back }

both : (a b : Bool) → a ≡ true → b ≡ true → (a && b) ≡ true
both true b p q = q
both false b p q = p

-- a key below the front's directory has a path of the grammar
name_graphic : (b : ℕ) → is_name_byte b ≡ true → is_graphic b ≡ true
name_graphic b e = grind (arith, nat_tests)

names_graphic : (name : List ℕ) → list_all is_name_byte name ≡ true → list_all is_graphic name ≡ true
names_graphic [] all = refl
names_graphic (b ∷ name) all = let both = both_true (is_name_byte b) (list_all is_name_byte name) all in rw (name_graphic b both.0, names_graphic name both.1) refl

named_path : (name : List ℕ) → is_key_name name ≡ true → IsPath (front_path name)
unfolding is_key_name is_key_path
named_path name e =
    let shaped = both_true (nat_lt 0 (length name) && nat_le (length name) 32) (list_all is_name_byte name) e in
    let short : length name ≤ 32 = grind (arith, nat_tests) in
    let some : nat_lt 0 (length (front_path name)) ≡ true = grind (arith, nat_tests) in
    let within : nat_le (length (front_path name)) 80 ≡ true = grind (arith, nat_tests) in
    let graphic : list_all is_graphic (front_path name) ≡ true = names_graphic name shaped.1 in
    both _ _ (both _ _ (both _ _ some within) graphic) refl

-- the lines of what an end does with the keys
mover_widths : (at : End) → MoverHasWidths (mover_at at)
mover_widths end.Front = tt
mover_widths end.Back = tt

mover_allowed : (at : End) → is_mover_allowed (mover_at at) ≡ true
mover_allowed end.Front = refl
mover_allowed end.Back = refl

named_allowed : (at : End) (path : List ℕ) → IsPath path → (is_mover_allowed (mover_at at) && is_key_path path) ≡ true
named_allowed at path named = both (is_mover_allowed (mover_at at)) (is_key_path path) (mover_allowed at) named

said_allowed : (at : End) (path text : List ℕ) → IsPath path → is_key_text text ≡ true → (is_mover_allowed (mover_at at) && is_key_path path && is_key_text text) ≡ true
said_allowed at path text named said = both (is_mover_allowed (mover_at at) && is_key_path path) (is_key_text text) (named_allowed at path named) said

got_allowed : (at : End) (path : List ℕ) (found : Option (List ℕ)) → IsPath path → ((text : List ℕ) → found ≡ Some text → is_key_text text ≡ true) → is_move_allowed (moves.GetKey (mover_at at) path found) ≡ true
got_allowed at path None named said = named_allowed at path named
got_allowed at path (Some text) named said = said_allowed at path text named (said text refl)

-- they are of the grammar, and so are all keys and watches then
negotiates : (w : World) (at : End) (move : KeyMove) → IsSpelled move → AreSpelled w.under.keys
    → AreSpelled (negotiated w.back.stage at move w.under.keys) × AreGood (negotiated_lines w.back.stage at move w.under.keys)
negotiates w at move spelled all =
    negotiated_cases (λ keys shown. AreSpelled keys × AreGood shown) w.back.stage at move w.under.keys
    (λ may. key_cases (λ keys shown. AreSpelled keys × AreGood shown) at move w.under.keys got set watches took (all, tt)) (all, tt)
  where
    d : Directory
    d = w.under.keys

    shows : (shown : Move) → MoveHasWidths shown → is_move_allowed shown ≡ true → AreGood (lines.Move shown ∷ [])
    shows shown widths allowed = (good (lines.Move shown) widths allowed, tt)

    got : (path : List ℕ) → move ≡ Gets path → AreSpelled w.under.keys × AreGood (lines.Move (moves.GetKey (mover_at at) path (key_of d.keys path)) ∷ [])
    got path same =
        (all, shows (moves.GetKey (mover_at at) path (key_of d.keys path)) (mover_widths at) (got_allowed at path (key_of d.keys path) (subst IsSpelled same spelled) (λ text. text_found d.keys path text all.keys)))

    set : (path text : List ℕ) → move ≡ Sets path text → may_set at path text ≡ true → AreSpelled (written w.under.keys path text) × AreGood (lines.Move (moves.SetKey (mover_at at) path text) ∷ [])
    set path text same may =
        let its : IsSpelled (Sets path text) = subst IsSpelled same spelled in
        (spelled_written w.under.keys path text its.0 its.1 all, shows (moves.SetKey (mover_at at) path text) (mover_widths at) (said_allowed at path text its.0 its.1))

    watches : (path : List ℕ) → move ≡ WatchesPath path → AreSpelled (with_watches w.under.keys at (with_watch (watches_of w.under.keys at) path)) × AreGood (lines.Move (moves.Watch (mover_at at) path) ∷ [])
    watches path same =
        let named : IsPath path = subst IsSpelled same spelled in (
          spelled_watching w.under.keys at _ all (watch_set (watches_of w.under.keys at) path named (watched_at w.under.keys at all)),
          shows (moves.Watch (mover_at at) path) (mover_widths at) (named_allowed at path named),
        )

    took : (path : List ℕ) → next_watch (watches_of w.under.keys at) ≡ Some path
        → AreSpelled (with_watches w.under.keys at (taken (watches_of w.under.keys at))) × AreGood (lines.Move (moves.Watched (mover_at at) path) ∷ [])
    took path first =
        (spelled_taken at w.under.keys all, shows (moves.Watched (mover_at at) path) (mover_widths at) (named_allowed at path (next_path (watches_of w.under.keys at) path (watched_at w.under.keys at all) first)))

pub keys_good : (w : World) (at : End) (move : KeyMove) → IsSpelled move → AreSpelled w.under.keys → AreGood (plainly_shows w (Negotiates at move))
keys_good w at move spelled all = by_test (is_other_read w at move)
  where
    by_test : (b : Bool) → AreGood (if b then [] else negotiated_lines w.back.stage at move w.under.keys)
    by_test true = tt
    by_test false = (negotiates w at move spelled all).1

-- and so is that of the key for the layout, as the back reads it
layout_named : IsPath layout_path
unfolding is_key_path
layout_named = refl

pub layout_good : (w : World) → AreSpelled w.under.keys → IsInRange (lines.Move (layout_read w))
layout_good w all =
    good (lines.Move (layout_read w)) tt (got_allowed end.Back layout_path (layout_text w) layout_named (λ text. text_found w.under.keys.keys layout_path text all.keys))

-- and the back's key by which it says that it keeps grants, and the front's, as the back reads it
offering_named : IsPath offering_path
unfolding is_key_path
offering_named = refl

offering_said : is_key_text (codes "1") ≡ true
unfolding is_key_text
offering_said = refl

keeping_named : IsPath keeping_path
unfolding is_key_path
keeping_named = refl

pub offer_good : IsInRange offer_line
offer_good = good offer_line tt (said_allowed end.Back offering_path (codes "1") offering_named offering_said)

pub keeping_good : (w : World) → AreSpelled w.under.keys → IsInRange (keeping_line w)
keeping_good w all = good (keeping_line w) tt (got_allowed end.Back keeping_path (keeping_text w) keeping_named (λ text. text_found w.under.keys.keys keeping_path text all.keys))

-- so are the keys of an epoch that begins, of a front that is open or not
spelled_fresh : (text : List ℕ) → is_key_text text ≡ true → AreSpelled (fresh_directory text)
unfolding is_key_path
spelled_fresh text said = record { keys = ((refl, said), ((refl, said), tt)); front = record { pending = tt; idle = tt }; back = record { pending = tt; idle = tt } }

fresh_spelled : (going : Bool) → AreSpelled (fresh_directory (state_after going))
unfolding is_key_text
fresh_spelled true = spelled_fresh (codes "1") refl
fresh_spelled false = spelled_fresh (codes "6") refl

-- whatever happens
happens_spelled : (w : World) (h : Happening) → IsPossible w h → AreSpelled w.under.keys → (let v : World = happens w h in AreSpelled v.under.keys)
happens_spelled w h may all =
    keys_happen AreSpelled spelled_taken w h (λ at move is here. (negotiates w at move (subst (IsPossible w) is may) here).0)
    (λ name text is allowed here. let both = both_true (is_key_name name) (is_key_text text) allowed in spelled_written w.under.keys (front_path name) text (named_path name both.0) both.1 here)
    (λ is may here. fresh_spelled (is_open w.front.stage)) all

back_spelled : (w : World) (act : Option BackAct) → back_turn w Took ≡ act → AreSpelled w.under.keys → (let v : World = back_after_keeping w act in AreSpelled v.under.keys)
back_spelled w None e all = all
back_spelled w (Some a) e all = back_stays AreSpelled spelled_taken w.under back_mover.Back (back_ask.ask_of w.back) Took a (backs_no_key (back_ask.ask_of w.back) (backs_of w.back)) all e

job_spelled : (w : World) (k : ℕ) (o : Outcome) (act : Option BackAct) → job_turn_keeping w k o ≡ act → AreSpelled w.under.keys → (let v : World = job_after_keeping w k act in AreSpelled v.under.keys)
job_spelled w k o None e all = all
job_spelled w k o (Some a) e all = back_stays AreSpelled spelled_taken w.under (back_mover.Job k) (job_ask_keeping w.back k) o a (jobs_no_key (job_ask_keeping w.back k) (jobs_keeping w.back k)) all e

plainly_spelled : (w : World) (h : Happening) → IsPossible w h → AreSpelled w.under.keys → (let v : World = plainly_after w h in AreSpelled v.under.keys)
plainly_spelled w BackMoves may all = back_spelled w (back_turn w Took) refl all
plainly_spelled w (JobMoves number outcome) may all = job_spelled w number outcome (job_turn_keeping w number outcome) refl all
plainly_spelled w (BackHalts why) may all = all
plainly_spelled w h may all = happens_spelled w h may all

pub spelled_happens : (w : World) (h : KeepingHappening) → IsPossibleKeeping w h → AreSpelled w.under.keys → (let v : World = happens_keeping w h in AreSpelled v.under.keys)
spelled_happens w (Plainly h) may all = plainly_spelled w h may all
spelled_happens w BackOffers may all =
    either_world (λ (v : World). AreSpelled v.under.keys) (is_led w.back.stage) (offered w) w (λ led. spelled_written w.under.keys offering_path (codes "1") offering_named offering_said all) all
spelled_happens w (BackKeeps cap) may all = either_world (λ (v : World). AreSpelled v.under.keys) (reads_keeping w cap) (kept_so w cap) w (λ reads. all) all

pub spelled_start : AreSpelled (fresh_directory (codes "1"))
spelled_start = fresh_spelled true
