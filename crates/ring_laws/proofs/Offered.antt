-- Where the back's key says that it keeps grants, the lines of the epoch say so.
use Rattle.std.proofs.Common.{◌≡◌, ◌≢◌, ℕ, ◌&&◌, ◌||◌, not, Bool, true, false, true≢false, if◌then◌else◌, List, [], ◌∷◌, ◌++◌, refl, ap, sym, ◌∙◌, subst, append_assoc, append-nil}
use Rattle.std.specs.Prelude.{fold, Option, Some, None, ◌==◌, codes}
use Rattle.std.specs.Str.{bytes_eq}
use Rattle.std.specs.List.{AllByRecursion}
use Rattle.std.proofs.lemmas.List.Sums.{fold-append}
use Rattle.std.proofs.lemmas.Slice.Eq.{bytes_eq-Decides}
use Rattle.blk_base.specs.declared.parts.End.{End}
use Rattle.blk_base.specs.declared.parts.End.TheVariants as end
use Rattle.blk_base.specs.declared.ask.BackAsk.{BackAsk}
use Rattle.blk_base.specs.declared.ask.BackAsk.TheVariants as ask
use Rattle.blk_base.specs.declared.halt.Halt.{Halt}
use Rattle.blk_base.specs.declared.moves.BackMover.TheVariants as back_mover
use Rattle.blk_base.specs.declared.moves.Mover.TheVariants as mover
use Rattle.blk_base.specs.declared.moves.Move.TheVariants as moves
use Rattle.key_directory.specs.Directory.{Directory, key_of, with_key, written, watches_of, with_watches, fresh_directory}
use Rattle.key_directory.specs.Watches.{Watches, with_watch, taken}
use Rattle.key_directory.proofs.Entries.{key_of-with_key_same, key_of-with_key_other}
use Rattle.hypervisor.specs.Act.{BackAct, Outcome, Took, is_own_path}
use Rattle.schedule_text.specs.declared.line.Line.{Line}
use Rattle.schedule_text.specs.declared.line.Line.TheVariants as lines
use Rattle.report_rules.specs.declared.published.Keeping.{Keeping}
use Rattle.report_rules.specs.Published.{kept_by, keeping_after, is_kept, is_one, says_one as says_it}
use Rattle.report_rules.specs.Standing.{is_epoch, this_epoch}
use Rattle.blk_front.specs.State.{is_open}
use Rattle.blk_back.specs.declared.stage.BackStage.TheVariants as stage
use Rattle.blk_back.specs.Ask.{ask_of, is_led}
use Rattle.blk_back.specs.Keeping.{may_keep_most, step_keeping, job_step_keeping, job_ask_keeping, halts_keeping}
use Rattle.blk_back.specs.View as back
use Rattle.split_model.specs.World.{World, state_after}
use Rattle.split_model.specs.Keys.{KeyMove, Gets, mover_at, is_zero_text, names_persistent, may_set, front_path}
use Rattle.split_model.specs.Shown.{back_lines, halt_lines}
use Rattle.split_model.specs.Happening.{Happening, FrontMoves, BackMoves, JobMoves, Negotiates, BackAttaches, BackHalts, Suspends, layout_read, happens, lines_at, front_shows, front_turn, back_turn}
use Rattle.split_model.specs.Kept.{KeepingHappening, Plainly, BackOffers, BackKeeps, offering_path, says_one, back_offers, offered, offer_line, reads_keeping, kept_so, keeping_line, keeping_text, cap_read, is_other_read, back_after_keeping, back_shows_keeping, job_turn_keeping, job_after_keeping, job_shows_keeping, halt_shows_keeping, plainly_after, plainly_shows, happens_keeping, shows_keeping}
use Rattle.split_model.proofs.Attaching.{attach_cases}
use Rattle.split_model.proofs.Keys.{key_cases, negotiated_cases, keys_happen, back_stays}
use Rattle.split_model.proofs.SafeActs.{AsksBackKey}
use Rattle.split_model.proofs.SafeAnswers.{IsBacks, IsJobs, backs_of, jobs_keeping}
use Rattle.split_model.proofs.Showing.{halt_is, both_all}
use Rattle.split_model.proofs.Suspending.{suspend_cases}
use Rattle.ring_laws.specs.Handed.{have_kept}
use Rattle.ring_laws.proofs.EntryWords.{epoch_longer}
use Rattle.ring_laws.proofs.Sight.{is_other, other_epoch, is_of_back}
use Rattle.ring_laws.proofs.Bystanders.{sets_none}
use Rattle.ring_laws.proofs.BackChange.{back_sets}
use Rattle.ring_laws.proofs.Lists.{all_more}
use Rattle.ring_laws.proofs.Free.{IsFree, AreFree, job_free, free_told}
use Rattle.ring_laws.proofs.Outsiders.{IsOutsider, AreOutsiders, IsSaid, said_outsiders, front_outsiders}

or_true : (b : Bool) → (b || true) ≡ true
or_true true = refl
or_true false = refl

-- what was said stays said
pub have_more : (s : Keeping) (xs ys : List Line) → have_kept s xs ≡ true → have_kept s (xs ++ ys) ≡ true
have_more s [] [] have = have
have_more s [] (y ∷ ys) have = ap (λ (b : Bool). b || have_kept (keeping_after s y) ys) have
have_more s (x ∷ xs) ys have = by_test (is_kept s) have (have_more (keeping_after s x) xs ys)
  where
    by_test : (b : Bool) → (b || have_kept (keeping_after s x) xs) ≡ true → (have_kept (keeping_after s x) xs ≡ true → have_kept (keeping_after s x) (xs ++ ys) ≡ true) → (b || have_kept (keeping_after s x) (xs ++ ys)) ≡ true
    by_test true have rest = refl
    by_test false have rest = rest have

pub have_now : (s : Keeping) (xs : List Line) → is_kept (fold keeping_after s xs) ≡ true → have_kept s xs ≡ true
have_now s [] kept = kept
have_now s (x ∷ xs) kept = ap (λ (b : Bool). is_kept s || b) (have_now (keeping_after s x) xs kept) ∙ or_true (is_kept s)

-- what the lines of the epoch say of both ends
abbrev pub ends_say : List Line → Keeping
ends_say before = fold keeping_after (kept_by false false) (this_epoch before)

pub say_more : (before : List Line) (line : Line) → is_epoch line ≡ false → ends_say (before ++ line ∷ []) ≡ keeping_after (ends_say before) line
say_more before line same = ap (λ (ls : List Line). fold keeping_after (kept_by false false) ls) (epoch_longer before line same) ∙ fold-append keeping_after (kept_by false false) (this_epoch before) (line ∷ [])

abbrev pub Offers : List Line → Directory → Type 0
Offers before d = says_one (key_of d.keys offering_path) ≡ true → (let s : Keeping = ends_say before in s.offered ≡ true)

-- a line in which the back sets no key
none_offered : (s : Keeping) (line : Line) → sets_none line ≡ true → (let t : Keeping = keeping_after s line in t.offered) ≡ s.offered
none_offered s (lines.Move (moves.GetKey mover.Back path text)) none = by_path (bytes_eq path (codes "/local/domain/1/device/vbd/51712/feature-persistent"))
  where
    by_path : (b : Bool) → (let t : Keeping = if b then kept_by s.offered (says_it text) else s in t.offered) ≡ s.offered
    by_path true = refl
    by_path false = refl
none_offered s (lines.Move (moves.SetKey mover.Back path text)) none = absurd (cc)
none_offered s line none = refl

none_epoch : (line : Line) → sets_none line ≡ true → is_epoch line ≡ false
none_epoch lines.Epoch none = absurd (cc)
none_epoch line none = refl

abbrev SetNone : List Line → Type 0
SetNone ls = AllByRecursion (λ (line : Line). sets_none line ≡ true) ls

offers_aside : (before ys : List Line) (d : Directory) → SetNone ys → Offers before d → Offers (before ++ ys) d
offers_aside before [] d none offers = subst (λ (ls : List Line). Offers ls d) (sym (append-nil before)) offers
offers_aside before (y ∷ ys) d none offers =
    subst (λ (ls : List Line). Offers ls d) (append_assoc before (y ∷ []) ys)
    (offers_aside (before ++ y ∷ []) ys d none.1 (λ says. ap (λ (s : Keeping). s.offered) (say_more before y (none_epoch y none.0)) ∙ (none_offered (ends_say before) y none.0 ∙ offers says)))

-- lines of others than the back
foreign_none : (line : Line) → is_other line ≡ true → is_of_back line ≡ false → sets_none line ≡ true
foreign_none (lines.Move (moves.SetKey mover.Back path text)) other foreign = absurd (cc)
foreign_none lines.Epoch other foreign = absurd (let same : is_epoch lines.Epoch ≡ false = other_epoch lines.Epoch other in cc)
foreign_none line other foreign = refl

outsiders_none : (ls : List Line) → AreOutsiders stage.Send ls → SetNone ls
outsiders_none ls all = all_more (IsOutsider stage.Send) (λ (line : Line). sets_none line ≡ true) ls (λ line o. foreign_none line o.other (o.foreign refl)) all

free_none : (ls : List Line) → AreFree false ls → SetNone ls
free_none ls all = all_more (IsFree false) (λ (line : Line). sets_none line ≡ true) ls (λ line f. foreign_none line f.other f.foreign) all

-- the keys, but for those that an end sets
watches_offer : (before : List Line) (at : End) (d : Directory) (watches : Watches) → Offers before d → Offers before (with_watches d at watches)
watches_offer before end.Front d watches offers = offers
watches_offer before end.Back d watches offers = offers

other_offers : (before : List Line) (d : Directory) (path text : List ℕ) → bytes_eq path offering_path ≡ false → Offers before d → Offers before (written d path text)
other_offers before d path text other offers =
    let differs : offering_path ≢ path = λ same. true≢false (sym ((bytes_eq-Decides path offering_path).1 (sym same)) ∙ other) in
    λ says. offers (sym (ap says_one (key_of-with_key_other d.keys path text offering_path differs)) ∙ says)

fresh_offers : (before : List Line) (going : Bool) → Offers before (fresh_directory (state_after going))
fresh_offers before true = λ says. absurd (cc)
fresh_offers before false = λ says. absurd (cc)

-- an end that sets that key says 0
zero_text : (own named zero : Bool) → (own && (not named || zero)) ≡ true → named ≡ true → zero ≡ true
zero_text true true zero may same = may
zero_text true false zero may same = absurd (cc)
zero_text false named zero may same = absurd (cc)

zero_offers : (before : List Line) (d : Directory) (path text : List ℕ) → bytes_eq path offering_path ≡ true → is_zero_text text ≡ true → Offers before (written d path text)
zero_offers before d path text same zero says =
    let here : path ≡ offering_path = (bytes_eq-Decides path offering_path).0 same in
    let said : text ≡ codes "0" = (bytes_eq-Decides text (codes "0")).0 zero in
    let none : says_one (key_of (with_key d.keys path text) offering_path) ≡ false =
    subst (λ (p : List ℕ). says_one (key_of (with_key d.keys path text) p) ≡ false) here (ap says_one (key_of-with_key_same d.keys path text) ∙ ap (λ (t : List ℕ). bytes_eq t (codes "1")) said) in
    absurd (true≢false (sym says ∙ none))

set_none_of : (at : End) (path text : List ℕ) → bytes_eq path offering_path ≡ false → (s : Keeping) → (let t : Keeping = keeping_after s (lines.Move (moves.SetKey (mover_at at) path text)) in t.offered) ≡ s.offered
set_none_of end.Front path text other s = refl
set_none_of end.Back path text other s = ap (λ (b : Bool). let t : Keeping = if b then kept_by (is_one text) s.asked else s in t.offered) other

get_none_of : (at : End) (path : List ℕ) (text : Option (List ℕ)) → sets_none (lines.Move (moves.GetKey (mover_at at) path text)) ≡ true
get_none_of end.Front path text = refl
get_none_of end.Back path text = refl

keys_offer : (w : World) (before : List Line) (at : End) (move : KeyMove) → Offers before w.under.keys → (let n : World = happens w (Negotiates at move) in Offers (before ++ lines_at w (Negotiates at move)) n.under.keys)
keys_offer w before at move offers =
    negotiated_cases (λ (d : Directory) (shown : List Line). Offers (before ++ shown) d) w.back.stage at move w.under.keys
    (λ may. key_cases (λ (d : Directory) (shown : List Line). Offers (before ++ shown) d) at move w.under.keys
    (λ path same. offers_aside before (lines.Move (moves.GetKey (mover_at at) path (key_of w.under.keys.keys path)) ∷ []) w.under.keys (get_none_of at path (key_of w.under.keys.keys path), tt) offers)
    (λ path text same may. sets path text may)
    (λ path same. offers_aside before (lines.Move (moves.Watch (mover_at at) path) ∷ []) (with_watches w.under.keys at (with_watch (watches_of w.under.keys at) path)) (refl, tt) (watches_offer before at w.under.keys (with_watch (watches_of w.under.keys at) path) offers))
    (λ path first. offers_aside before (lines.Move (moves.Watched (mover_at at) path) ∷ []) (with_watches w.under.keys at (taken (watches_of w.under.keys at))) (refl, tt) (watches_offer before at w.under.keys (taken (watches_of w.under.keys at)) offers))
    (offers_aside before [] w.under.keys tt offers))
    (offers_aside before [] w.under.keys tt offers)
  where
    sets : (path text : List ℕ) → may_set at path text ≡ true → Offers (before ++ lines.Move (moves.SetKey (mover_at at) path text) ∷ []) (written w.under.keys path text)
    sets path text may = by_path (bytes_eq path offering_path) refl
      where
        by_path : (b : Bool) → bytes_eq path offering_path ≡ b → Offers (before ++ lines.Move (moves.SetKey (mover_at at) path text) ∷ []) (written w.under.keys path text)
        by_path true same = zero_offers (before ++ lines.Move (moves.SetKey (mover_at at) path text) ∷ []) w.under.keys path text same (zero_text (is_own_path at path) (names_persistent path) (is_zero_text text) may same)
        by_path false other = λ says. ap (λ (s : Keeping). s.offered) (say_more before (lines.Move (moves.SetKey (mover_at at) path text)) refl) ∙ (set_none_of at path text other (ends_say before) ∙ other_offers before w.under.keys path text other offers says)

-- what happens beside the negotiation
plain_keys : (w : World) (h : Happening) (before : List Line) → ((at : End) (move : KeyMove) → h ≡ Negotiates at move → ⊥) → Offers before w.under.keys → (let n : World = happens w h in Offers before n.under.keys)
plain_keys w h before beside offers =
    keys_happen (Offers before) (λ at d u. watches_offer before at d _ u) w h (λ at move same u. absurd (beside at move same))
    (λ name text same allowed u. other_offers before w.under.keys (front_path name) text refl u) (λ same may u. fresh_offers before (is_open w.front.stage)) offers

asks_no_key : (a' : BackAsk) → IsBacks a' → AsksBackKey a' → ⊥
asks_no_key (ask.GetKey path) own asks = own
asks_no_key (ask.SetKey path text) own asks = own
asks_no_key (ask.Watch path) own asks = own
asks_no_key a' own asks = asks

jobs_no_key : (a' : BackAsk) → IsJobs a' → AsksBackKey a' → ⊥
jobs_no_key (ask.GetKey path) own asks = own
jobs_no_key (ask.SetKey path text) own asks = own
jobs_no_key (ask.Watch path) own asks = own
jobs_no_key a' own asks = asks

halts_none : (old new : Option Halt) → SetNone (halt_lines old new)
halts_none old new = halt_is (λ (line : Line). sets_none line ≡ true) (λ why. refl) old new

back_offers_on : (w : World) (before : List Line) (act : Option BackAct) → back_turn w Took ≡ act → Offers before w.under.keys → (let n : World = back_after_keeping w act in Offers (before ++ back_shows_keeping w act) n.under.keys)
back_offers_on w before None e offers = offers_aside before [] w.under.keys tt offers
back_offers_on w before (Some a) e offers =
    let new : back.View = step_keeping w.back a.answer in
    offers_aside before (back_shows_keeping w (Some a)) a.under.keys
    (back_sets w.under (ask_of w.back) Took a (backs_of w.back) e, both_all (λ (line : Line). sets_none line ≡ true) (back_lines new.told a.answer) (halt_lines w.back.halted new.halted) (free_none (back_lines new.told a.answer) (free_told false new.told a.answer refl)) (halts_none w.back.halted new.halted))
    (back_stays (Offers before) (λ at d u. watches_offer before at d _ u) w.under back_mover.Back (ask_of w.back) Took a (asks_no_key (ask_of w.back) (backs_of w.back)) offers e)

job_offers_on : (w : World) (before : List Line) (k : ℕ) (o : Outcome) (act : Option BackAct) → job_turn_keeping w k o ≡ act → Offers before w.under.keys → (let n : World = job_after_keeping w k act in Offers (before ++ job_shows_keeping w k act) n.under.keys)
job_offers_on w before k o None e offers = offers_aside before [] w.under.keys tt offers
job_offers_on w before k o (Some a) e offers =
    let new : back.View = job_step_keeping w.back k a.answer in
    offers_aside before (job_shows_keeping w k (Some a)) a.under.keys
    (free_none (job_shows_keeping w k (Some a)) (job_free false w.under k (job_ask_keeping w.back k) o a refl (jobs_keeping w.back k) e, free_told false new.told a.answer refl))
    (back_stays (Offers before) (λ at d u. watches_offer before at d _ u) w.under (back_mover.Job k) (job_ask_keeping w.back k) o a (jobs_no_key (job_ask_keeping w.back k) (jobs_keeping w.back k)) offers e)

said_offer : (w : World) (h : Happening) (before : List Line) → ((line : Line) → IsSaid h line) → ((at : End) (move : KeyMove) → h ≡ Negotiates at move → ⊥) → Offers before w.under.keys → (let n : World = happens w h in Offers (before ++ lines_at w h) n.under.keys)
said_offer w h before is beside offers = offers_aside before (lines_at w h) (let n : World = happens w h in n.under.keys) (outsiders_none (lines_at w h) (said_outsiders stage.Send w h is)) (plain_keys w h before beside offers)

plainly_offer : (w : World) (h : Happening) (before : List Line) → Offers before w.under.keys → (let n : World = plainly_after w h in Offers (before ++ plainly_shows w h) n.under.keys)
plainly_offer w FrontMoves before offers = offers_aside before (front_shows w (front_turn w)) (let n : World = happens w FrontMoves in n.under.keys) (outsiders_none (front_shows w (front_turn w)) (front_outsiders stage.Send w (front_turn w) refl)) (plain_keys w FrontMoves before (λ at move same. cc) offers)
plainly_offer w BackMoves before offers = back_offers_on w before (back_turn w Took) refl offers
plainly_offer w (JobMoves number outcome) before offers = job_offers_on w before number outcome (job_turn_keeping w number outcome) refl offers
plainly_offer w (Negotiates at move) before offers = by_read (is_other_read w at move) refl
  where
    read_only : is_other_read w at move ≡ true → (let n : World = happens w (Negotiates at move) in Offers before n.under.keys)
    read_only is = only at move is
      where
        only : (e : End) (m : KeyMove) → is_other_read w e m ≡ true → (let n : World = happens w (Negotiates e m) in Offers before n.under.keys)
        only end.Back (Gets path) is = negotiated_cases (λ d shown. Offers before d) w.back.stage end.Back (Gets path) w.under.keys (λ may. offers) offers
        only e m is = absurd (cc)

    by_read : (b : Bool) → is_other_read w at move ≡ b → (let n : World = happens w (Negotiates at move) in Offers (before ++ (if b then [] else lines_at w (Negotiates at move))) n.under.keys)
    by_read true is = offers_aside before [] (let n : World = happens w (Negotiates at move) in n.under.keys) tt (read_only is)
    by_read false is = keys_offer w before at move offers
plainly_offer w (BackAttaches shape grefs port) before offers =
    attach_cases (λ (new : back.View) (shown : List Line). Offers (before ++ shown) w.under.keys) w shape grefs port (λ may layout says. offers_aside before (lines.Move (layout_read w) ∷ []) w.under.keys (refl, tt) offers) (offers_aside before [] w.under.keys tt offers)
plainly_offer w (BackHalts why) before offers = offers_aside before (halt_shows_keeping w why) w.under.keys (halts_none w.back.halted (let b : back.View = halts_keeping why w.back in b.halted)) offers
plainly_offer w Suspends before offers = suspend_cases (λ (v : World) (shown : List Line). Offers (before ++ shown) v.under.keys) w (λ may. fresh_offers (before ++ lines.Epoch ∷ []) (is_open w.front.stage)) (offers_aside before [] w.under.keys tt offers)
plainly_offer w h before offers = said_offer w h before (λ line. tt) (λ at move same. cc) offers

pub offers_keeping : (w : World) (h : KeepingHappening) (before : List Line) → Offers before w.under.keys → (let n : World = happens_keeping w h in Offers (before ++ shows_keeping w h) n.under.keys)
offers_keeping w (Plainly h) before offers = plainly_offer w h before offers
offers_keeping w BackOffers before offers = by_led (is_led w.back.stage)
  where
    by_led : (b : Bool) → (let n : World = if b then offered w else w in Offers (before ++ (if b then offer_line ∷ [] else [])) n.under.keys)
    by_led true = λ says. ap (λ (s : Keeping). s.offered) (say_more before offer_line refl)
    by_led false = offers_aside before [] w.under.keys tt offers
offers_keeping w (BackKeeps cap) before offers = by_read (reads_keeping w cap)
  where
    by_read : (b : Bool) → (let n : World = if b then kept_so w cap else w in Offers (before ++ (if b then keeping_line w ∷ [] else [])) n.under.keys)
    by_read true = offers_aside before (keeping_line w ∷ []) w.under.keys (refl, tt) offers
    by_read false = offers_aside before [] w.under.keys tt offers

-- where the back may keep mappings now, both ends have said so
pub agreed : (w : World) (before : List Line) (cap : ℕ) → Offers before w.under.keys → reads_keeping w cap ≡ true → not (cap_read w cap == 0) ≡ true → have_kept (kept_by false false) (this_epoch (before ++ keeping_line w ∷ [])) ≡ true
agreed w before cap offers reads some = have_now (kept_by false false) (this_epoch (before ++ keeping_line w ∷ [])) (ap is_kept (say_more before (keeping_line w) refl) ∙ both (ends_say before) (offers (first_of (back_offers w) (may_keep_most cap w.back) (first_of (back_offers w && may_keep_most cap w.back) (not (cap == 0)) reads))) (asked (keeping_text w) (cap_said (says_one (keeping_text w)) some)))
  where
    first_of : (a b : Bool) → (a && b) ≡ true → a ≡ true
    first_of true b e = refl
    first_of false b e = e

    cap_said : (b : Bool) → not ((if b then cap else 0) == 0) ≡ true → b ≡ true
    cap_said true e = refl
    cap_said false e = absurd (cc)

    asked : (text : Option (List ℕ)) → says_one text ≡ true → says_it text ≡ true
    asked None e = absurd (cc)
    asked (Some text) e = ap is_one ((bytes_eq-Decides text (codes "1")).0 e)

    both : (s : Keeping) → s.offered ≡ true → says_it (keeping_text w) ≡ true → is_kept (keeping_after s (keeping_line w)) ≡ true
    both s one said = ap (λ (b : Bool). b && says_it (keeping_text w)) one ∙ said
