-- The data that a front reads are those of a request that it holds.
use Rattle.std.proofs.Common.{◌≡◌, inl, ℕ, ◌+◌, ◌*◌, ◌/◌, ◌%◌, ◌^◌, Bool, true, false, true≢false, if◌then◌else◌, List, [], ◌∷◌, length, refl, sym, ap, ◌∙◌}
use Rattle.std.specs.Prelude.{Option, Some, None, Result, Ok, Err, nat_lt, slice_set, ◌==◌}
use Rattle.std.specs.List.{list_any}
use Rattle.blk_base.specs.Distance.{distance_of}
use Rattle.blk_base.specs.declared.ask.FrontAnswer.{FrontAnswer}
use Rattle.blk_base.specs.declared.ask.FrontAnswer.TheVariants as answer
use Rattle.schedule_text.specs.declared.line.Line.{Line}
use Rattle.ring_words.specs.Ring.{responses_of, notifies}
use Rattle.ring_words.specs.Shape.{entry_words_of}
use Rattle.blk_layout.specs.declared.response.Response.{Response}
use Rattle.blk_layout.specs.Response.{response_of}
use Rattle.blk_front.specs.declared.stage.FrontStage.{FrontStage}
use Rattle.blk_front.specs.declared.stage.FrontStage.TheVariants as stage
use Rattle.blk_front.specs.declared.stage.Ending.{Ending}
use Rattle.blk_front.specs.declared.request.Request.{Request}
use Rattle.blk_front.specs.declared.request.Transfer.{Transfer}
use Rattle.blk_front.specs.declared.request.Transfer.TheVariants as transfer
use Rattle.blk_front.specs.declared.state.FrontState.{FrontState}
use Rattle.blk_front.specs.declared.state.FrontState.TheVariants as state
use Rattle.blk_front.specs.declared.told.Told.TheVariants as told
use Rattle.blk_front.specs.Request.{has_data, words_in, is_indirect, naming_words}
use Rattle.blk_front.specs.View.{View, next_request}
use Rattle.blk_front.specs.Step.{at, broken, looked, entered, begun, answered, freed, revokes, after_data, data_stage, page_stage, granted, ring_left, loop_step, issued, response_at, is_mapped, finished, ended, revoked, sector_told, data_step, left_step, step_at}
use Rattle.blk_front.specs.State.{in_state}
use Rattle.blk_front.specs.Suspend.{stage_after, ending_after, suspended}
use Rattle.split_model.specs.World.{World}
use Rattle.split_model.proofs.Suspending.{front_cases}
use Rattle.split_model.specs.Kept.{KeepingHappening, happens_keeping, shows_keeping}
use Rattle.report_laws.proofs.Announced.{IsAnnounced, one_said}
use Rattle.report_laws.proofs.Submitted.{submit_cases}

-- it reads data of no request, or ends a kept grant, of which it has none
abbrev pub lacks : FrontStage → Option Ending → Bool
lacks (stage.ReadData n) None = true
lacks (stage.LeftData n) None = true
lacks (stage.KeptRead frame) ending = true
lacks (stage.KeptEnd frame seen) ending = true
lacks s ending = false

abbrev Holds : View → Type 0
Holds v = lacks v.stage v.ending ≡ false

either : (b : Bool) (x y : View) → Holds x → Holds y → Holds (if b then x else y)
either true x y p q = p
either false x y p q = q

either_stage : (b : Bool) (s s' : FrontStage) (ending : Option Ending) → lacks s ending ≡ false → lacks s' ending ≡ false → lacks (if b then s else s') ending ≡ false
either_stage true s s' ending p q = p
either_stage false s s' ending p q = q

looked_holds : (v : View) (word : ℕ) (otherwise : View) → Holds otherwise → Holds (looked v word otherwise)
looked_holds v word otherwise h =
    either (nat_lt (distance_of v.ring.indices.cons v.ring.indices.prod) (distance_of v.ring.indices.cons word)) (broken word v) (if word == v.ring.indices.cons then otherwise else record v { ring = record v.ring { seen = word }; stage = stage.Loop }) refl
    (either (word == v.ring.indices.cons) otherwise (record v { ring = record v.ring { seen = word }; stage = stage.Loop }) h refl)

begun_holds : (v : View) (r : Request) (way : Transfer) → Holds (begun v r way)
begun_holds v r transfer.Read = either_stage (is_indirect r.count) (stage.Pages 1) (stage.GrantFence 0) v.ending refl refl
begun_holds v r other = refl

data_holds : (r : Option Request) (n : ℕ) (ending : Option Ending) → lacks (data_stage r n) ending ≡ false
data_holds None n ending = refl
data_holds (Some r) n ending = either_stage (nat_lt (n + 1) (words_in r)) (stage.Data (n + 1)) (after_data r) ending refl (either_stage (is_indirect r.count) (stage.Pages 0) (stage.GrantFrame 0) ending refl refl)

page_holds : (r : Option Request) (n : ℕ) (ending : Option Ending) → lacks (page_stage r n) ending ≡ false
page_holds None n ending = refl
page_holds (Some r) n ending = either_stage (nat_lt (n + 1) (naming_words r)) (stage.Pages (n + 1)) (stage.GrantFrame 0) ending refl refl

granted_holds : (v : View) (r : Option Request) (place : ℕ) → Holds v → Holds (granted r place v)
granted_holds v None place h = h
granted_holds v (Some r) place h = either (nat_lt (place + 1) (length r.frames.items)) (at (stage.GrantFrame (place + 1)) v) (entered v r (stage.Slot 0)) refl refl

loop_holds : (v : View) (r : Option Request) (a : FrontAnswer) → Holds v → Holds (loop_step v r a)
loop_holds v (Some r) a h = begun_holds v r r.transfer
loop_holds v None (answer.Word word) h =
    either (responses_of v.ring.indices v.ring.seen == 0) (looked v word (record v { ring = record v.ring { seen = word }; stage = stage.StoreEvent })) (at (stage.ResponseHigh word) v)
    (looked_holds v word (record v { ring = record v.ring { seen = word }; stage = stage.StoreEvent }) refl) refl
loop_holds v None answer.Event h = h
loop_holds v None a h = h

response_holds : (v : View) (response : Result Response ℕ) (low : ℕ) (found : Option (ℕ × Request)) → Holds (response_at v response low found)
response_holds v response low None = refl
response_holds v (Err word) low (Some found) = refl
response_holds v (Ok response) low (Some found) = either (length found.1.frames.items == 0) (answered (freed v found.0) found.1 response.status) (revokes (freed v found.0) found.1 response.status) refl refl

-- the request whose last grant was ended
revoked_holds : (v : View) (ending : Option Ending) (place : ℕ) → v.ending ≡ ending → Holds v → Holds (revoked ending place v)
revoked_holds v None place is h = h
revoked_holds v (Some e) place is h =
    either (nat_lt (place + 1) (length e.request.frames.items)) (at (stage.GrantRead (place + 1)) v) (ended e v) refl
    (either (has_data e.request.transfer e.status) (record v { stage = stage.ReadData 0; told = Some (told.Answer e.request.number e.status) }) (record (finished e v) { told = Some (told.Answer e.request.number e.status) })
    (ap (lacks (stage.ReadData 0)) is) refl)

-- and the one whose sector is told
told_ending : (v : View) (e : Ending) (n : ℕ) (words : List ℕ) → (sector_told e n words v).ending ≡ v.ending
told_ending v e n words = by_last (n % 128 == 127)
  where
    by_last : (b : Bool) → (let x : View = (if b then record v { words = words; told = Some (told.Sector e.request.number (n / 128) words) } else record v { words = words }) in x.ending ≡ v.ending)
    by_last true = refl
    by_last false = refl

read_holds : (v : View) (ending : Option Ending) (n word : ℕ) → v.ending ≡ ending → Holds v → Holds (data_step ending n word v)
read_holds v None n word is h = h
read_holds v (Some e) n word is h =
    let words = slice_set v.words (n % 128) word in
    either (nat_lt (n + 1) (words_in e.request)) (at (stage.ReadData (n + 1)) (sector_told e n words v)) (finished e (sector_told e n words v)) (ap (lacks (stage.ReadData (n + 1))) (told_ending v e n words ∙ is)) refl

left_holds : (v : View) (ending : Option Ending) (n word : ℕ) → v.ending ≡ ending → Holds v → Holds (left_step ending n word v)
left_holds v None n word is h = h
left_holds v (Some e) n word is h =
    let words = slice_set v.words (n % 128) word in
    either (nat_lt (n + 1) (words_in e.request)) (at (stage.LeftData (n + 1)) (sector_told e n words v)) (at (stage.RingWord 0) (finished e (sector_told e n words v))) (ap (lacks (stage.LeftData (n + 1))) (told_ending v e n words ∙ is)) refl

step_holds : (s : FrontStage) (v : View) (a : FrontAnswer) → Holds v → Holds (step_at s v a)
step_holds (stage.RingWord k) v a h = either_stage (k == 15) (stage.RingFrame 0) (stage.RingWord (k + 1)) v.ending refl refl
step_holds (stage.RingFrame page) v a h = refl
step_holds (stage.RingFence page) v a h = refl
step_holds (stage.RingFlags page) v a h = either_stage (nat_lt (page + 1) (2 ^ v.shape.order)) (stage.RingFrame (page + 1)) stage.NewPort v.ending refl refl
step_holds stage.NewPort v a h = refl
step_holds stage.Loop v a h = loop_holds v (next_request v) a h
step_holds (stage.Data n) v a h = data_holds (next_request v) n v.ending
step_holds (stage.Pages n) v a h = page_holds (next_request v) n v.ending
step_holds (stage.GrantFrame place) v a h = refl
step_holds (stage.GrantFence place) v a h = refl
step_holds (stage.GrantFlags place) v a h = granted_holds v (next_request v) place h
step_holds (stage.Slot k) v a h = either_stage (k + 1 == entry_words_of v.shape.abi) stage.Producer (stage.Slot (k + 1)) v.ending refl refl
step_holds stage.Producer v a h = refl
step_holds (stage.ProducerFence old) v a h = refl
step_holds (stage.RequestEvent old) v (answer.Word event) h = either_stage (notifies old v.ring.indices.prod event) stage.Send stage.Loop v.ending refl refl
step_holds stage.Send v a h = refl
step_holds (stage.ResponseHigh low) v (answer.Word high) h = refl
step_holds (stage.ResponseLast low high) v (answer.Word last) h = response_holds v (response_of (low ∷ high ∷ last ∷ [])) low (issued v (low + high * 2 ^ 32))
step_holds (stage.GrantRead place) v (answer.Word word) h = either (is_mapped word) (broken word v) (at (stage.GrantEnd place word) v) refl refl
step_holds (stage.GrantEnd place before) v (answer.Word word) h = either (word == before) (revoked v.ending place v) (broken word v) (revoked_holds v v.ending place refl h) refl
step_holds (stage.ReadData n) v (answer.Word word) h = read_holds v v.ending n word refl h
step_holds (stage.LeftData n) v (answer.Word word) h = left_holds v v.ending n word refl h
step_holds stage.StoreEvent v a h = refl
step_holds stage.EventFence v a h = refl
step_holds stage.LookAgain v (answer.Word word) h = looked_holds v word (record v { ring = record v.ring { seen = word; asleep = true }; stage = stage.Loop }) refl
step_holds (stage.RingRead page) v (answer.Word word) h = either (is_mapped word) (broken word v) (at (stage.RingEnd page word) v) refl refl
step_holds (stage.RingEnd page before) v (answer.Word word) h =
    either (word == before) (at (ring_left v page) v) (broken word v) (either_stage (nat_lt (page + 1) (2 ^ v.shape.order)) (stage.RingRead (page + 1)) stage.ClosePort v.ending refl refl) refl
step_holds stage.ClosePort v a h = refl
step_holds s v a h = h

entered_holds : (s : FrontState) (v : View) → Holds v → Holds (in_state s v)
entered_holds (state.Agreed order) v h = h
entered_holds state.Closing v h = h
entered_holds other v h = refl

-- a suspend leaves the data that are in hand
after_holds : (s : FrontStage) (ending : Option Ending) → lacks s ending ≡ false → lacks (stage_after s) (ending_after s ending) ≡ false
after_holds (stage.ReadData n) None h = absurd (true≢false h)
after_holds (stage.LeftData n) None h = absurd (true≢false h)
after_holds s ending h = refl

suspended_holds : (v : View) → Holds v → Holds (suspended v)
suspended_holds v h = front_cases Holds v (λ on. after_holds v.stage v.ending h) (λ closed. h)

-- so it never lacks one
none_before : (a b : Bool) → (a ≡ false → b ≡ false) → b ≡ true → a ≡ true
none_before true b goes t = refl
none_before false b goes t = absurd (true≢false (sym t ∙ goes refl))

lacking_announced : IsAnnounced (λ (v : View). lacks v.stage v.ending) (λ (line : Line). false)
lacking_announced = record {
  step = λ v a t. inl (none_before (lacks v.stage v.ending) true (λ h. sym t ∙ step_holds v.stage v a h) refl);
  enters = λ s v t. inl (none_before (lacks v.stage v.ending) true (λ h. sym t ∙ entered_holds s v h) refl);
  submit = λ v job t. none_before (lacks v.stage v.ending) true (λ h. sym t ∙ submit_cases Holds v h (λ wish taken. h) job) refl;
  suspend = λ v t. none_before (lacks v.stage v.ending) true (λ h. sym t ∙ suspended_holds v h) refl;
}

never_said : (ls : List Line) → list_any (λ (line : Line). false) ls ≡ true → ⊥
never_said [] t = true≢false (sym t)
never_said (line ∷ ls) t = never_said ls t

abbrev pub IsHeld : World → Type 0
IsHeld w = lacks w.front.stage w.front.ending ≡ false

pub one_held : (w : World) (h : KeepingHappening) → IsHeld w → IsHeld (happens_keeping w h)
one_held w h held = by_test (let x : World = happens_keeping w h in lacks x.front.stage x.front.ending) refl
  where
    by_test : (b : Bool) → (let x : World = happens_keeping w h in lacks x.front.stage x.front.ending) ≡ b → b ≡ false
    by_test false e = refl
    by_test true e = absurd (never_said (shows_keeping w h) (one_said (λ (v : View). lacks v.stage v.ending) (λ (line : Line). false) lacking_announced [] w h (λ t. absurd (true≢false (sym t ∙ held))) e))
