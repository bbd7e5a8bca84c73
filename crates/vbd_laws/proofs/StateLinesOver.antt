-- Once a line says that the front is closed or broken it is open no more, whatever happens.
use Rattle.std.proofs.Common.{◌≡◌, ◌⊎◌, inl, inr, ◌+◌, ◌*◌, ◌/◌, ◌%◌, ◌^◌, ℕ, Bool, true, false, true≢false, ◌||◌, if◌then◌else◌, List, [], ◌∷◌, length, refl, sym, ap, ◌∙◌, subst}
use Rattle.std.specs.Prelude.{Option, Some, None, Result, Ok, Err, slice_set, nat_lt, nat_le, ◌==◌}
use Rattle.std.specs.List.{AllByRecursion}
use Rattle.line_text.proofs.Both.{both_true}
use Rattle.blk_base.specs.Distance.{distance_of}
use Rattle.blk_base.specs.declared.ask.FrontAnswer.{FrontAnswer}
use Rattle.blk_base.specs.declared.ask.FrontAnswer.TheVariants as answer
use Rattle.ring_words.specs.Ring.{responses_of}
use Rattle.blk_layout.specs.declared.response.Response.{Response}
use Rattle.blk_layout.specs.Response.{response_of}
use Rattle.schedule_text.specs.declared.line.Line.{Line}
use Rattle.schedule_text.specs.declared.line.Line.TheVariants as lines
use Rattle.hypervisor.specs.Act.{FrontAct, BackAct}
use Rattle.blk_front.specs.declared.stage.FrontStage.{FrontStage}
use Rattle.blk_front.specs.declared.stage.FrontStage.TheVariants as stage
use Rattle.blk_front.specs.declared.stage.Ending.{Ending}
use Rattle.blk_front.specs.declared.request.Request.{Request}
use Rattle.blk_front.specs.declared.request.Transfer.{Transfer}
use Rattle.blk_front.specs.declared.request.Transfer.TheVariants as transfer
use Rattle.blk_front.specs.declared.state.FrontState.{FrontState}
use Rattle.blk_front.specs.declared.state.FrontState.TheVariants as state
use Rattle.blk_front.specs.declared.told.Told.{Told}
use Rattle.blk_front.specs.declared.told.Told.TheVariants as told
use Rattle.blk_front.specs.Request.{has_data, words_in}
use Rattle.blk_front.specs.View.{View, next_request}
use Rattle.blk_front.specs.Ask.{is_through}
use Rattle.blk_front.specs.Step.{at, broken, looked, begun, answered, freed, revokes, granted, loop_step, issued, response_at, is_mapped, ring_left, ended, revoked, sector_told, data_step, left_step, step_at}
use Rattle.blk_front.specs.Submit.{is_initialised}
use Rattle.blk_front.specs.State.{is_open, is_unmade, is_made, is_bare, in_state, may_enter}
use Rattle.split_model.specs.World.{World, may_suspend, suspended}
use Rattle.split_model.specs.Happening as ring
use Rattle.split_model.specs.Happening.{Happening, FrontMoves, BackMoves, JobMoves, FrontEnters, BackAttaches, BackHalts, Submits, Suspends}
use Rattle.split_model.specs.Safe.{IsSafe}
use Rattle.split_model.specs.Shown.{front_lines, state_lines}
use Rattle.split_model.proofs.Outside.{leaves_ends}
use Rattle.split_model.proofs.Safe.{safe_happens}
use Rattle.split_model.proofs.SafeFront.{submit_kept}
use Rattle.split_model.proofs.Showing.{MayShow, lines_are}
use Rattle.split_model.proofs.States.{enters_cases}
use Rattle.split_model.proofs.Suspending.{front_cases}
use Rattle.vbd_laws.specs.StateLines.{StateSight, is_over, after, from}
use Rattle.vbd_laws.proofs.StateLinesBegun.{from-append}
use Rattle.vbd_laws.proofs.FitFrontClose.{bare_open}

-- what the end of the ring tells breaks it
abbrev pub is_break : Option Told → Bool
is_break (Some (told.Broken word)) = true
is_break t = false

-- and then it is open no more
abbrev Breaks : View → Type 0
Breaks x = is_break x.told ≡ true → is_open x.stage ≡ false

quiet : (x : View) → is_break x.told ≡ false → Breaks x
quiet x none breaks = absurd (true≢false (sym breaks ∙ none))

either : (b : Bool) (x y : View) → Breaks x → Breaks y → Breaks (if b then x else y)
either true x y p q = p
either false x y p q = q

looked_breaks : (v : View) (word : ℕ) (otherwise : View) → is_break v.told ≡ false → is_break otherwise.told ≡ false → Breaks (looked v word otherwise)
looked_breaks v word otherwise none same =
    let loops : View = record v { ring = record v.ring { seen = word }; stage = stage.Loop } in
    either (nat_lt (distance_of v.ring.indices.cons v.ring.indices.prod) (distance_of v.ring.indices.cons word)) (broken word v) (if word == v.ring.indices.cons then otherwise else loops) (λ breaks. refl)
    (either (word == v.ring.indices.cons) otherwise loops (quiet otherwise same) (quiet loops none))

begun_quiet : (v : View) (r : Request) (way : Transfer) → is_break v.told ≡ false → (let x : View = begun v r way in is_break x.told) ≡ false
begun_quiet v r transfer.Read none = none
begun_quiet v r other none = none

loop_breaks : (v : View) (r : Option Request) (a : FrontAnswer) → is_break v.told ≡ false → Breaks (loop_step v r a)
loop_breaks v (Some r) a none = quiet (begun v r r.transfer) (begun_quiet v r r.transfer none)
loop_breaks v None (answer.Word word) none =
    let sleeps : View = record v { ring = record v.ring { seen = word }; stage = stage.StoreEvent } in
    either (responses_of v.ring.indices v.ring.seen == 0) (looked v word sleeps) (at (stage.ResponseHigh word) v) (looked_breaks v word sleeps none none) (quiet (at (stage.ResponseHigh word) v) none)
loop_breaks v None answer.Event none = quiet (record v { ring = record v.ring { asleep = false } }) none
loop_breaks v None a none = quiet v none

granted_breaks : (v : View) (r : Option Request) (place : ℕ) → is_break v.told ≡ false → Breaks (granted r place v)
granted_breaks v None place none = quiet v none
granted_breaks v (Some r) place none = either (nat_lt (place + 1) (length r.frames.items)) _ _ (λ breaks. absurd (true≢false (sym breaks ∙ none))) (λ breaks. absurd (true≢false (sym breaks ∙ none)))

response_breaks : (v : View) (response : Result Response ℕ) (low : ℕ) (found : Option (ℕ × Request)) → is_break v.told ≡ false → Breaks (response_at v response low found)
response_breaks v response low None none = λ breaks. refl
response_breaks v (Err word) low (Some found) none = λ breaks. refl
response_breaks v (Ok response) low (Some found) none =
    let tells : View = answered (freed v found.0) found.1 response.status in
    let ends : View = revokes (freed v found.0) found.1 response.status in
    either (length found.1.frames.items == 0) tells ends (quiet tells refl) (quiet ends none)

revoked_breaks : (v : View) (e : Option Ending) (place : ℕ) → is_break v.told ≡ false → Breaks (revoked e place v)
revoked_breaks v None place none = quiet v none
revoked_breaks v (Some e) place none =
    either (nat_lt (place + 1) (length e.request.frames.items)) (at (stage.GrantRead (place + 1)) v) (ended e v) (quiet (at (stage.GrantRead (place + 1)) v) none)
    (either (has_data e.request.transfer e.status) _ _ (λ breaks. absurd (true≢false (sym breaks ∙ refl))) (λ breaks. absurd (true≢false (sym breaks ∙ refl))))

sector_quiet : (v : View) (e : Ending) (n : ℕ) (words : List ℕ) → is_break v.told ≡ false → (let x : View = sector_told e n words v in is_break x.told) ≡ false
sector_quiet v e n words none = by_test (n % 128 == 127)
  where
    by_test : (b : Bool) → (let x : View = (if b then record v { words = words; told = Some (told.Sector e.request.number (n / 128) words) } else record v { words = words }) in is_break x.told) ≡ false
    by_test true = refl
    by_test false = none

data_breaks : (v : View) (e : Option Ending) (n word : ℕ) → is_break v.told ≡ false → Breaks (data_step e n word v)
data_breaks v None n word none = quiet v none
data_breaks v (Some e) n word none =
    let same = sector_quiet v e n (slice_set v.words (n % 128) word) none in either (nat_lt (n + 1) (words_in e.request)) _ _ (λ breaks. absurd (true≢false (sym breaks ∙ same))) (λ breaks. absurd (true≢false (sym breaks ∙ same)))

left_breaks : (v : View) (e : Option Ending) (n word : ℕ) → is_break v.told ≡ false → Breaks (left_step e n word v)
left_breaks v None n word none = quiet v none
left_breaks v (Some e) n word none =
    let same = sector_quiet v e n (slice_set v.words (n % 128) word) none in either (nat_lt (n + 1) (words_in e.request)) _ _ (λ breaks. absurd (true≢false (sym breaks ∙ same))) (λ breaks. absurd (true≢false (sym breaks ∙ same)))

step_breaks : (s : FrontStage) (v : View) (a : FrontAnswer) → is_break v.told ≡ false → Breaks (step_at s v a)
step_breaks stage.Loop v a none = loop_breaks v (next_request v) a none
step_breaks (stage.GrantFlags place) v a none = granted_breaks v (next_request v) place none
step_breaks (stage.ResponseLast low high) v (answer.Word last) none = response_breaks v (response_of (low ∷ high ∷ last ∷ [])) low (issued v (low + high * 2 ^ 32)) none
step_breaks (stage.GrantRead place) v (answer.Word word) none = either (is_mapped word) (broken word v) (at (stage.GrantEnd place word) v) (λ breaks. refl) (quiet (at (stage.GrantEnd place word) v) none)
step_breaks (stage.GrantEnd place before) v (answer.Word word) none = either (word == before) (revoked v.ending place v) (broken word v) (revoked_breaks v v.ending place none) (λ breaks. refl)
step_breaks (stage.ReadData n) v (answer.Word word) none = data_breaks v v.ending n word none
step_breaks (stage.LeftData n) v (answer.Word word) none = left_breaks v v.ending n word none
step_breaks stage.LookAgain v (answer.Word word) none = looked_breaks v word (record v { ring = record v.ring { seen = word; asleep = true }; stage = stage.Loop }) none none
step_breaks (stage.RingRead page) v (answer.Word word) none = either (is_mapped word) (broken word v) (at (stage.RingEnd page word) v) (λ breaks. refl) (quiet (at (stage.RingEnd page word) v) none)
step_breaks (stage.RingEnd page before) v (answer.Word word) none = either (word == before) (at (ring_left v page) v) (broken word v) (quiet (at (ring_left v page) v) none) (λ breaks. refl)
step_breaks (stage.RequestEvent old) v (answer.Word event) none = λ breaks. absurd (true≢false (sym breaks ∙ none))
step_breaks (stage.ResponseHigh low) v (answer.Word high) none = λ breaks. absurd (true≢false (sym breaks ∙ none))
step_breaks s v a none = quiet (step_at s v a) none

-- one that isn't open makes no step, and enters no state
pub still_over : (s : FrontStage) (v : View) (a : FrontAnswer) → is_open s ≡ false → step_at s v a ≡ v
still_over stage.Closed v a over = refl
still_over (stage.Broken word) v a over = refl
still_over s v a over = absurd (true≢false over)

made_open : (s : FrontStage) → is_made s ≡ true → is_open s ≡ true
made_open stage.Initialised made = refl
made_open stage.Loop made = refl
made_open s made = absurd (true≢false (sym made))

unmade_open : (s : FrontStage) → is_unmade s ≡ true → is_open s ≡ true
unmade_open (stage.RingWord k) unmade = refl
unmade_open s unmade = absurd (true≢false (sym unmade))

waiting_open : (s : FrontStage) → is_initialised s ≡ true → is_open s ≡ true
waiting_open stage.Initialised waits = refl
waiting_open s waits = absurd (true≢false (sym waits))

pub enters_open : (s : FrontState) (v : View) → may_enter s v ≡ true → is_open v.stage ≡ true
enters_open (state.Agreed order) v may = unmade_open v.stage (both_true (is_unmade v.stage) (nat_le order v.shape.order) (both_true _ _ may).0).0
enters_open (state.Connected offers) v may = waiting_open v.stage may
enters_open state.Closing v may = (both_true _ (is_open v.stage) may).1
enters_open state.Leaving v may = made_open v.stage (both_true (is_through v) (is_made v.stage) may).1
enters_open state.Closed v may = bare_open v.stage (both_true (is_through v) (is_bare v.stage) may).1
enters_open (state.Broken word) v may = may

-- a line that says it, and the front
abbrev pub IsOverAt : StateSight → View → Type 0
IsOverAt k v = k.over ≡ true → is_open v.stage ≡ false

plain_over : (k : StateSight) (ls : List Line) → AllByRecursion (λ (line : Line). is_over line ≡ false) ls → (from k ls).over ≡ k.over
plain_over k [] plain = refl
plain_over k (line ∷ ls) plain = plain_over (after k line) ls plain.1 ∙ ap (λ (b : Bool). b || k.over) plain.0

told_over : (k : StateSight) (t : Option Told) → (from k (front_lines t)).over ≡ is_break t || k.over
told_over k None = refl
told_over k (Some (told.Answer id status)) = refl
told_over k (Some (told.Sector id index words)) = refl
told_over k (Some (told.Broken word)) = refl

either_over : (b c : Bool) → b || c ≡ true → (b ≡ true) ⊎ (c ≡ true)
either_over true c e = inl refl
either_over false c e = inr e

front_over : (k : StateSight) (w : World) (act : Option FrontAct) → IsSafe w → IsOverAt k w.front → (let v : World = ring.front_after w act in IsOverAt (from k (ring.front_shows w act)) v.front)
front_over k w None safe has = has
front_over k w (Some a) safe has = λ over. elim (either_over (is_break x.told) k.over (sym (told_over (after k (lines.Move a.shown)) x.told) ∙ over)) [
  | inl breaks ↦ step_breaks w.front.stage w.front a.answer (ap is_break safe.front_told) breaks
  | inr before ↦ ap (λ (v : View). is_open v.stage) (still_over w.front.stage w.front a.answer (has before)) ∙ has before
]
  where
    x : View
    x = step_at w.front.stage w.front a.answer

entered_over : (k : StateSight) (s : FrontState) (v : View) → is_open v.stage ≡ true → IsOverAt k v → IsOverAt (from k (state_lines s)) (in_state s v)
entered_over k state.Closed v opened has over = refl
entered_over k (state.Broken word) v opened has over = refl
entered_over k other v opened has over = absurd (true≢false (sym opened ∙ has over))

-- whatever else happens shows no such line, and leaves a front that isn't open
abbrev IsOther : Happening → Type 0
IsOther FrontMoves = ⊥
IsOther (FrontEnters s) = ⊥
IsOther x = Unit {0}

plain : (x : Happening) (line : Line) → IsOther x → MayShow x line → is_over line ≡ false
plain FrontMoves line other shows = absurd other
plain (FrontEnters s) line other shows = absurd other
plain x lines.Closed other shows = absurd shows
plain x (lines.Broken word) other shows = absurd shows
plain x line other shows = refl

abbrev Stays : World → Happening → Type 0
Stays w x = is_open w.front.stage ≡ false → (let v : World = ring.happens w x in is_open v.front.stage) ≡ false

pub back_stays : (w : World) (act : Option BackAct) → (let v : World = ring.back_after w act in v.front) ≡ w.front
back_stays w None = refl
back_stays w (Some a) = refl

pub job_stays : (w : World) (number : ℕ) (act : Option BackAct) → (let v : World = ring.job_after w number act in v.front) ≡ w.front
job_stays w number None = refl
job_stays w number (Some a) = refl

suspend_stays : (w : World) → Stays w Suspends
suspend_stays w over = by_may (may_suspend w)
  where
    by_may : (may : Bool) → (let v : World = (if may then suspended w else w) in is_open v.front.stage) ≡ false
    by_may true = front_cases (λ (v : View). is_open v.stage ≡ false) w.front (λ opened. absurd (true≢false (sym opened ∙ over))) (λ closed. closed)
    by_may false = over

stays : (w : World) (x : Happening) → IsOther x → Stays w x
stays w FrontMoves other over = absurd other
stays w (FrontEnters s) other over = absurd other
stays w BackMoves other over = ap (λ (v : View). is_open v.stage) (back_stays w _) ∙ over
stays w (JobMoves number outcome) other over = ap (λ (v : View). is_open v.stage) (job_stays w number _) ∙ over
stays w (BackAttaches shape grefs port) other over = over
stays w (BackHalts why) other over = over
stays w (Submits job) other over = ap is_open (submit_kept w.front job).stage ∙ over
stays w Suspends other over = suspend_stays w over
stays w x other over = ap (λ (v : View). is_open v.stage) (leaves_ends w x tt).front ∙ over

one : (k : StateSight) (x : Happening) (w : World) → IsSafe w → IsOverAt k w.front → (let v : World = ring.happens w x in IsOverAt (from k (ring.lines_at w x)) v.front)
one k FrontMoves w safe has = front_over k w (ring.front_turn w) safe has
one k (FrontEnters s) w safe has = enters_cases (λ (v : View) (shown : List Line). IsOverAt (from k shown) v) s w.front (λ may. entered_over k s w.front (enters_open s w.front may) has) has
one k x w safe has = λ over. stays w x tt (has (sym (plain_over k (ring.lines_at w x) (lines_are (λ (line : Line). is_over line ≡ false) w x (λ line shows. plain x line tt shows))) ∙ over))

pub over : (xs : List Happening) (k : StateSight) (w : World) → IsSafe w → IsOverAt k w.front → (let v : World = ring.after xs w in IsOverAt (from k (ring.lines_of xs w)) v.front)
over [] k w safe has = has
over (x ∷ xs) k w safe has =
    let v : World = ring.after xs (ring.happens w x) in
    subst (λ (f : StateSight). IsOverAt f v.front) (sym (from-append k (ring.lines_at w x) (ring.lines_of xs (ring.happens w x)))) (over xs (from k (ring.lines_at w x)) (ring.happens w x) (safe_happens w x safe) (one k x w safe has))
