-- The front's end of the ring sleeps exactly where its last look found nothing, and has what it does its next move with.
use Rattle.std.proofs.Common.{◌≡◌, ◌∙◌, ap, sym, subst, refl, ℕ, ◌+◌, ◌*◌, ◌/◌, ◌%◌, ◌^◌, ◌||◌, Bool, true, false, true≢false, if◌then◌else◌, List, [], ◌∷◌, length}
use Rattle.std.specs.Prelude.{Option, Some, None, IsSome, Result, Ok, Err, nat_lt, slice_set, ◌==◌}
use Rattle.std.proofs.lemmas.Bool.{or_parts}
use Rattle.blk_base.specs.Distance.{distance_of}
use Rattle.blk_base.specs.declared.operation.Status.{Status}
use Rattle.blk_base.specs.declared.ask.FrontAsk.{FrontAsk}
use Rattle.blk_base.specs.declared.ask.FrontAsk.TheVariants as ask
use Rattle.blk_base.specs.declared.ask.FrontAnswer.{FrontAnswer}
use Rattle.blk_base.specs.declared.ask.FrontAnswer.TheVariants as answer
use Rattle.ring_words.specs.Ring.{responses_of, notifies}
use Rattle.ring_words.specs.Shape.{entry_words_of}
use Rattle.blk_layout.specs.declared.response.Response.{Response}
use Rattle.blk_layout.specs.Response.{response_of}
use Rattle.blk_front.specs.declared.stage.FrontStage.{FrontStage}
use Rattle.blk_front.specs.declared.stage.FrontStage.TheVariants as stage
use Rattle.blk_front.specs.declared.stage.Ending.{Ending}
use Rattle.blk_front.specs.declared.request.Request.{Request}
use Rattle.blk_front.specs.declared.request.Transfer.{Transfer}
use Rattle.blk_front.specs.declared.request.Transfer.TheVariants as transfer
use Rattle.blk_front.specs.declared.told.Told.{Told}
use Rattle.blk_front.specs.declared.told.Told.TheVariants as told
use Rattle.blk_front.specs.Request.{has_data, words_in, is_indirect, naming_words}
use Rattle.blk_front.specs.View.{View, ring_frame, slot_frame, slot_word, next_request}
use Rattle.blk_front.specs.Ask.{data_ask, page_ask, name_ask, grant_ask, revoke_ask, end_ask, read_ask, issue_ask, loop_ask, is_through, ask_at, IsAnswer}
use Rattle.blk_front.specs.Step.{at, broken, looked, begun, after_data, data_stage, page_stage, granted, loop_word, loop_step, issued, taken, response_at, is_mapped, ended, revoked, finished, sector_told, data_step, left_step, ring_left, step_at, step_of}
use Rattle.blk_front.specs.Suspend.{stage_after, is_left, resumed}
use Rattle.blk_front.specs.Submit.{is_wait}
use Rattle.vbd_laws.specs.Waits.{Check, Awake, Stored, Fenced, fences, looks, others, writes, is_ring_word, front_checks}
use Rattle.vbd_laws.proofs.WaitsChecks.{IsAlert, IsAwake, IsTold, fences_sleep, is_fenced, looks_awake, others_sleep, others_unfenced, reads_awake, reads_unfenced, sleeps, stored_awake, writes_sleep}

abbrev pub Sees : FrontStage → Check → (asleep : Bool) → Type 0
Sees (stage.RingWord k) c asleep = IsAwake c asleep
Sees (stage.RingFrame page) c asleep = IsAwake c asleep
Sees (stage.RingFence page) c asleep = IsAwake c asleep
Sees (stage.RingFlags page) c asleep = IsAwake c asleep
Sees stage.NewPort c asleep = IsAwake c asleep
Sees stage.Initialised c asleep = IsAlert c asleep
Sees stage.Loop c asleep = IsTold c asleep × (is_fenced c ≡ false)
Sees (stage.ResponseHigh low) c asleep = IsAlert c asleep
Sees (stage.ResponseLast low high) c asleep = IsAlert c asleep
Sees (stage.GrantRead place) c asleep = IsAlert c asleep
Sees (stage.GrantEnd place seen) c asleep = IsAlert c asleep
Sees (stage.ReadData n) c asleep = IsAlert c asleep
Sees (stage.LeftData n) c asleep = IsAlert c asleep
Sees stage.StoreEvent c asleep = IsAwake c asleep
Sees stage.EventFence c asleep = (asleep ≡ false) × (c ≡ Stored)
Sees stage.LookAgain c asleep = (asleep ≡ false) × (c ≡ Fenced)
Sees (stage.RingRead page) c asleep = Unit {0}
Sees (stage.RingEnd page seen) c asleep = Unit {0}
Sees stage.ClosePort c asleep = Unit {0}
Sees (stage.KeptRead frame) c asleep = Unit {0}
Sees (stage.KeptEnd frame seen) c asleep = Unit {0}
Sees stage.Left c asleep = Unit {0}
Sees stage.Closed c asleep = Unit {0}
Sees (stage.Broken word) c asleep = Unit {0}
Sees s c asleep = IsTold c asleep

-- a request that is issued, and one that ends
abbrev pub Has : FrontStage → View → Type 0
Has (stage.Data n) v = IsSome (next_request v)
Has (stage.Pages n) v = IsSome (next_request v)
Has (stage.GrantFrame place) v = IsSome (next_request v)
Has (stage.GrantFence place) v = IsSome (next_request v)
Has (stage.GrantFlags place) v = IsSome (next_request v)
Has (stage.GrantRead place) v = IsSome v.ending
Has (stage.GrantEnd place seen) v = IsSome v.ending
Has (stage.ReadData n) v = IsSome v.ending
Has (stage.LeftData n) v = IsSome v.ending
Has s v = Unit {0}

abbrev pub StandsAt : FrontStage → View → Check → Type 0
StandsAt s v c = Sees s c v.ring.asleep × Has s v

abbrev pub Stands : View → Check → Type 0
Stands v c = StandsAt v.stage v c

either : (b : Bool) (x y : View) (c : Check) → Stands x c → Stands y c → Stands (if b then x else y) c
either true x y c p q = p
either false x y c p q = q

either_at : (b : Bool) (x y : FrontStage) (v : View) (c : Check) → Stands (at x v) c → Stands (at y v) c → Stands (at (if b then x else y) v) c
either_at true x y v c p q = p
either_at false x y v c p q = q

-- the check goes on as this move asks
abbrev Goes : View → View → FrontAsk → FrontAnswer → Check → Type 0
Goes v u a x c = Stands u (front_checks v.ring.indices.cons a x c)

-- a request is begun
issue_goes : (v : View) (r : Request) (way : Transfer) (x : FrontAnswer) (c : Check) → IsTold c v.ring.asleep → next_request v ≡ Some r → Goes v (begun v r way) (issue_ask v r way) x c
issue_goes v r (transfer.Write tag) x c is e = (writes_sleep _ c ∙ is, rw e refl)
issue_goes v r (transfer.Barrier tag) x c is e = (writes_sleep _ c ∙ is, rw e refl)
issue_goes v r transfer.Flush x c is e = (writes_sleep _ c ∙ is, tt)
issue_goes v r (transfer.Discard sectors) x c is e = (writes_sleep _ c ∙ is, tt)
issue_goes v r transfer.Read x c is e = by_test (is_indirect r.count)
  where
    by_test : (b : Bool) → Goes v (at (if b then stage.Pages 1 else stage.GrantFence 0) v) (if b then page_ask (Some r) 0 else name_ask (Some r) 0) x c
    by_test true = (writes_sleep _ c ∙ is, rw e refl)
    by_test false = (writes_sleep _ c ∙ is, rw e refl)

-- the responses' producer was read
looked_goes : (v : View) (word : ℕ) (otherwise : View) (c : Check) → v.ring.asleep ≡ false → sleeps c ≡ false → is_fenced c ≡ false → Stands otherwise c → Stands (looked v word otherwise) c
looked_goes v word otherwise c awake sees unfenced h =
    either (nat_lt (distance_of v.ring.indices.cons v.ring.indices.prod) (distance_of v.ring.indices.cons word)) (broken word v) (if word == v.ring.indices.cons then otherwise else record v { ring = record v.ring { seen = word }; stage = stage.Loop }) c (tt, tt)
    (either (word == v.ring.indices.cons) otherwise (record v { ring = record v.ring { seen = word }; stage = stage.Loop }) c h ((sees ∙ sym awake, unfenced), tt))

-- in the loop
loop_goes : (v : View) (r : Option Request) (x : FrontAnswer) (c : Check) → v.stage ≡ stage.Loop → next_request v ≡ r → IsTold c v.ring.asleep → is_fenced c ≡ false → IsAnswer (loop_ask v r) x
    → Goes v (loop_step v r x) (loop_ask v r) x c
loop_goes v (Some r) x c here e is unfenced allowed = issue_goes v r r.transfer x c is e
loop_goes v None x c here e is unfenced allowed = by_test (v.ring.asleep || is_through v) (responses_of v.ring.indices v.ring.seen == 0) refl refl x allowed
  where
    kept : (d : Check) → IsTold d v.ring.asleep → is_fenced d ≡ false → Stands v d
    kept d told un = subst (λ (s : FrontStage). StandsAt s v d) (sym here) ((told, un), tt)

    by_test : (waits none : Bool) → (v.ring.asleep || is_through v) ≡ waits → (responses_of v.ring.indices v.ring.seen == 0) ≡ none → (x : FrontAnswer)
        → IsAnswer (if waits then ask.Wait else (if none then ask.Read ring_frame 2 else ask.Read (slot_frame v.shape v.ring.indices.cons 0) (slot_word v.shape v.ring.indices.cons 0))) x
        → Goes v (loop_step v None x) (if waits then ask.Wait else (if none then ask.Read ring_frame 2 else ask.Read (slot_frame v.shape v.ring.indices.cons 0) (slot_word v.shape v.ring.indices.cons 0))) x c
    by_test true none w n answer.Event allowed = subst (λ (s : FrontStage). StandsAt s (record v { ring = record v.ring { asleep = false } }) Awake) (sym here) ((refl, refl), tt)
    by_test true none w n (answer.Watched path) allowed = kept c is unfenced
    by_test true none w n x allowed = absurd allowed
    by_test false true w n (answer.Word word) allowed =
        let awake : v.ring.asleep ≡ false = (or_parts v.ring.asleep (is_through v) w).0 in
        let last : looks c (word == v.ring.indices.cons) ≡ Awake = looks_awake c (word == v.ring.indices.cons) unfenced in
        subst (λ (d : Check). Stands (loop_word v word) d) (sym last)
        (subst (λ (b : Bool). Stands (if b then looked v word (record v { ring = record v.ring { seen = word }; stage = stage.StoreEvent }) else at (stage.ResponseHigh word) v) Awake) (sym n)
        (looked_goes v word (record v { ring = record v.ring { seen = word }; stage = stage.StoreEvent }) Awake awake refl refl ((awake, refl), tt)))
    by_test false false w n (answer.Word word) allowed =
        let awake : v.ring.asleep ≡ false = (or_parts v.ring.asleep (is_through v) w).0 in
        let d : Check = front_checks v.ring.indices.cons (ask.Read (slot_frame v.shape v.ring.indices.cons 0) (slot_word v.shape v.ring.indices.cons 0)) (answer.Word word) c in
        subst (λ (b : Bool). Stands (if b then looked v word (record v { ring = record v.ring { seen = word }; stage = stage.StoreEvent }) else at (stage.ResponseHigh word) v) d) (sym n)
        ((awake, reads_awake _ _ c (is ∙ awake) unfenced, reads_unfenced _ _ c unfenced), tt)
    by_test false none w n x allowed = absurd allowed

-- while a request is issued
data_goes : (v : View) (r : Option Request) (n : ℕ) (x : FrontAnswer) (c : Check) → next_request v ≡ r → IsSome r → IsTold c v.ring.asleep → Goes v (at (data_stage r n) v) (data_ask r n) x c
data_goes v None n x c e some is = absurd (true≢false (sym some))
data_goes v (Some r) n x c e some is =
    let d : Check = front_checks v.ring.indices.cons (data_ask (Some r) n) x c in
    let told : IsTold d v.ring.asleep = writes_sleep _ c ∙ is in
    either_at (nat_lt (n + 1) (words_in r)) (stage.Data (n + 1)) (after_data r) v d (told, rw e refl) (either_at (is_indirect r.count) (stage.Pages 0) (stage.GrantFrame 0) v d (told, rw e refl) (told, rw e refl))

pages_go : (v : View) (r : Option Request) (n : ℕ) (x : FrontAnswer) (c : Check) → next_request v ≡ r → IsSome r → IsTold c v.ring.asleep → Goes v (at (page_stage r n) v) (page_ask r n) x c
pages_go v None n x c e some is = absurd (true≢false (sym some))
pages_go v (Some r) n x c e some is =
    let d : Check = front_checks v.ring.indices.cons (page_ask (Some r) n) x c in
    let told : IsTold d v.ring.asleep = writes_sleep _ c ∙ is in
    either_at (nat_lt (n + 1) (naming_words r)) (stage.Pages (n + 1)) (stage.GrantFrame 0) v d (told, rw e refl) (told, rw e refl)

names_go : (v : View) (r : Option Request) (place : ℕ) (x : FrontAnswer) (c : Check) → next_request v ≡ r → IsSome r → IsTold c v.ring.asleep → Goes v (at (stage.GrantFence place) v) (name_ask r place) x c
names_go v None place x c e some is = absurd (true≢false (sym some))
names_go v (Some r) place x c e some is = (writes_sleep _ c ∙ is, rw e refl)

grants_go : (v : View) (r : Option Request) (place : ℕ) (x : FrontAnswer) (c : Check) → next_request v ≡ r → IsSome r → IsTold c v.ring.asleep → Goes v (granted r place v) (grant_ask r place) x c
grants_go v None place x c e some is = absurd (true≢false (sym some))
grants_go v (Some r) place x c e some is =
    either (nat_lt (place + 1) (length r.frames.items)) _ _ (front_checks v.ring.indices.cons (grant_ask (Some r) place) x c) (writes_sleep _ c ∙ is, rw e refl) (writes_sleep _ c ∙ is, tt)

-- a response was read whole
taken_goes : (v : View) (place : ℕ) (r : Request) (status : Status) (c : Check) → IsAlert c v.ring.asleep → Stands (taken v place r status) c
taken_goes v place r status c is = either (length r.frames.items == 0) _ _ c ((is.1 ∙ sym is.0, is.2), tt) (is, refl)

response_goes : (v : View) (response : Result Response ℕ) (low : ℕ) (found : Option (ℕ × Request)) (c : Check) → IsAlert c v.ring.asleep → Stands (response_at v response low found) c
response_goes v response low None c is = (tt, tt)
response_goes v (Err word) low (Some found) c is = (tt, tt)
response_goes v (Ok response) low (Some found) c is = taken_goes v found.0 found.1 response.status c is

-- its request's grants are ended, and its data read
revoke_goes : (v : View) (e : Option Ending) (place : ℕ) (x : FrontAnswer) (c : Check) → v.ending ≡ e → IsSome e → IsAlert c v.ring.asleep → IsAnswer (revoke_ask e place) x
    → Goes v (step_at (stage.GrantRead place) v x) (revoke_ask e place) x c
revoke_goes v None place x c same some is allowed = absurd (true≢false (sym some))
revoke_goes v (Some e) place (answer.Word word) c same some is allowed =
    either (is_mapped word) (broken word v) (at (stage.GrantEnd place word) v) _ (tt, tt) ((is.0, reads_awake _ _ c is.1 is.2, reads_unfenced _ _ c is.2), rw same refl)
revoke_goes v (Some e) place x c same some is allowed = absurd allowed

ended_goes : (v : View) (e : Ending) (c : Check) → v.ending ≡ Some e → IsAlert c v.ring.asleep → Stands (ended e v) c
ended_goes v e c same is = either (has_data e.request.transfer e.status) _ _ c (is, rw same refl) ((is.1 ∙ sym is.0, is.2), tt)

end_goes : (v : View) (e : Option Ending) (place before : ℕ) (x : FrontAnswer) (c : Check) → v.ending ≡ e → IsSome e → IsAlert c v.ring.asleep → IsAnswer (end_ask e place before) x
    → Goes v (step_at (stage.GrantEnd place before) v x) (end_ask e place before) x c
end_goes v None place before x c same some is allowed = absurd (true≢false (sym some))
end_goes v (Some e) place before (answer.Word word) c same some is allowed =
    let d : Check = others c in
    let alert : IsAlert d v.ring.asleep = (is.0, others_sleep c ∙ is.1, others_unfenced c) in
    either (word == before) (revoked v.ending place v) (broken word v) d
    (subst (λ (o : Option Ending). Stands (revoked o place v) d) (sym same)
    (either (nat_lt (place + 1) (length e.request.frames.items)) (at (stage.GrantRead (place + 1)) v) (ended e v) d (alert, rw same refl) (ended_goes v e d same alert))) (tt, tt)
end_goes v (Some e) place before x c same some is allowed = absurd allowed

-- a word of its data was read: another one is read next, or this was the last
word_goes : (v : View) (e : Ending) (n word : ℕ) (c : Check) (next last : View → View)
    → ((words : List ℕ) (t : Option Told) → Stands (next (record v { words = words; told = t })) c × Stands (last (record v { words = words; told = t })) c)
    → (let u : View = sector_told e n (slice_set v.words (n % 128) word) v in Stands (if nat_lt (n + 1) (words_in e.request) then next u else last u) c)
word_goes v e n word c next last goes = by_sector (n % 128 == 127) (slice_set v.words (n % 128) word)
  where
    by_sector : (b : Bool) (words : List ℕ)
        → (let u : View = if b then record v { words = words; told = Some (told.Sector e.request.number (n / 128) words) } else record v { words = words } in Stands (if nat_lt (n + 1) (words_in e.request) then next u else last u) c)
    by_sector true words = let both = goes words (Some (told.Sector e.request.number (n / 128) words)) in either (nat_lt (n + 1) (words_in e.request)) _ _ c both.0 both.1
    by_sector false words = let both = goes words v.told in either (nat_lt (n + 1) (words_in e.request)) _ _ c both.0 both.1

-- it is none of the final check
word_alert : (v : View) (e : Ending) (n word : ℕ) (c : Check) → IsAlert c v.ring.asleep → IsAlert (front_checks v.ring.indices.cons (read_ask (Some e) n) (answer.Word word) c) v.ring.asleep
word_alert v e n word c is = (is.0, reads_awake _ _ c is.1 is.2, reads_unfenced _ _ c is.2)

read_goes : (v : View) (e : Option Ending) (n : ℕ) (x : FrontAnswer) (c : Check) → v.ending ≡ e → IsSome e → IsAlert c v.ring.asleep → IsAnswer (read_ask e n) x
    → Goes v (step_at (stage.ReadData n) v x) (read_ask e n) x c
read_goes v None n x c same some is allowed = absurd (true≢false (sym some))
read_goes v (Some e) n (answer.Word word) c same some is allowed =
    let alert = word_alert v e n word c is in
    subst (λ (o : Option Ending). Stands (data_step o n word v) (front_checks v.ring.indices.cons (read_ask (Some e) n) (answer.Word word) c)) (sym same)
    (word_goes v e n word _ (λ u. at (stage.ReadData (n + 1)) u) (finished e) (λ words t. ((alert, rw same refl), ((alert.1 ∙ sym alert.0, alert.2), tt))))
read_goes v (Some e) n x c same some is allowed = absurd allowed

-- data that are left after a suspend
left_goes : (v : View) (e : Option Ending) (n : ℕ) (x : FrontAnswer) (c : Check) → v.ending ≡ e → IsSome e → IsAlert c v.ring.asleep → IsAnswer (read_ask e n) x
    → Goes v (step_at (stage.LeftData n) v x) (read_ask e n) x c
left_goes v None n x c same some is allowed = absurd (true≢false (sym some))
left_goes v (Some e) n (answer.Word word) c same some is allowed =
    let alert = word_alert v e n word c is in
    subst (λ (o : Option Ending). Stands (left_step o n word v) (front_checks v.ring.indices.cons (read_ask (Some e) n) (answer.Word word) c)) (sym same)
    (word_goes v e n word _ (λ u. at (stage.LeftData (n + 1)) u) (λ u. at (stage.RingWord 0) (finished e u)) (λ words t. ((alert, rw same refl), ((alert.0, alert.1), tt))))
left_goes v (Some e) n x c same some is allowed = absurd allowed

-- it looks for the last time
last_goes : (v : View) (word : ℕ) (c : Check) → v.ring.asleep ≡ false → c ≡ Fenced → Stands (looked v word (record v { ring = record v.ring { seen = word; asleep = true }; stage = stage.Loop })) (looks c (word == v.ring.indices.cons))
last_goes v word c awake is =
    subst (λ (d : Check). Stands (looked v word (record v { ring = record v.ring { seen = word; asleep = true }; stage = stage.Loop })) (looks d (word == v.ring.indices.cons))) (sym is)
    (either (nat_lt (distance_of v.ring.indices.cons v.ring.indices.prod) (distance_of v.ring.indices.cons word)) (broken word v) _ _ (tt, tt) (by_same (word == v.ring.indices.cons)))
  where
    by_same : (same : Bool) → Stands (if same then record v { ring = record v.ring { seen = word; asleep = true }; stage = stage.Loop } else record v { ring = record v.ring { seen = word }; stage = stage.Loop }) (looks Fenced same)
    by_same true = ((refl, refl), tt)
    by_same false = ((sym awake, refl), tt)

-- a stage that no answer leaves
stays : (s : FrontStage) (v : View) (c : Check) → v.stage ≡ s → StandsAt s v c → Stands v c
stays s v c here is = subst (λ (t : FrontStage). StandsAt t v c) (sym here) is

waits_initialised : (v : View) (x : FrontAnswer) (c : Check) → v.stage ≡ stage.Initialised → StandsAt stage.Initialised v c → IsAnswer ask.Wait x → Goes v v ask.Wait x c
waits_initialised v answer.Event c here is allowed = let known = is.0 in stays stage.Initialised v Awake here ((known.0, refl, refl), is.1)
waits_initialised v (answer.Watched path) c here is allowed = stays stage.Initialised v c here is
waits_initialised v x c here is allowed = absurd allowed

stands_at : (s : FrontStage) (v : View) (x : FrontAnswer) (c : Check) → v.stage ≡ s → StandsAt s v c → IsAnswer (ask_at s v) x → Goes v (step_at s v x) (ask_at s v) x c
stands_at (stage.RingWord k) v x c here is allowed =
    let known = is.0 in
    let up : IsAwake (writes (is_ring_word ring_frame k 3) c) v.ring.asleep = (known.0, writes_sleep _ c ∙ known.1) in
    either_at (k == 15) (stage.RingFrame 0) (stage.RingWord (k + 1)) v (writes (is_ring_word ring_frame k 3) c) (up, is.1) (up, is.1)
stands_at (stage.RingFrame page) v x c here is allowed = let known = is.0 in ((known.0, writes_sleep _ c ∙ known.1), is.1)
stands_at (stage.RingFence page) v x c here is allowed = let known = is.0 in ((known.0, fences_sleep c ∙ known.1), is.1)
stands_at (stage.RingFlags page) v x c here is allowed =
    let known = is.0 in
    let d : Check = front_checks v.ring.indices.cons (ask_at (stage.RingFlags page) v) x c in
    let up : IsAwake d v.ring.asleep = (known.0, writes_sleep _ c ∙ known.1) in
    either_at (nat_lt (page + 1) (2 ^ v.shape.order)) (stage.RingFrame (page + 1)) stage.NewPort v d (up, is.1) (up, is.1)
stands_at stage.NewPort v x c here is allowed = let known = is.0 in ((known.0, others_sleep c ∙ known.1, others_unfenced c), is.1)
stands_at stage.Initialised v x c here is allowed = waits_initialised v x c here is allowed
stands_at stage.Loop v x c here is allowed = let known = is.0 in loop_goes v (next_request v) x c here refl known.0 known.1 allowed
stands_at (stage.Data n) v x c here is allowed = data_goes v (next_request v) n x c refl is.1 is.0
stands_at (stage.Pages n) v x c here is allowed = pages_go v (next_request v) n x c refl is.1 is.0
stands_at (stage.GrantFrame place) v x c here is allowed = names_go v (next_request v) place x c refl is.1 is.0
stands_at (stage.GrantFence place) v x c here is allowed = (fences_sleep c ∙ is.0, is.1)
stands_at (stage.GrantFlags place) v x c here is allowed = grants_go v (next_request v) place x c refl is.1 is.0
stands_at (stage.Slot k) v x c here is allowed =
    let d : Check = front_checks v.ring.indices.cons (ask_at (stage.Slot k) v) x c in
    let told : IsTold d v.ring.asleep = writes_sleep _ c ∙ is.0 in
    either_at (k + 1 == entry_words_of v.shape.abi) stage.Producer (stage.Slot (k + 1)) v d (told, tt) (told, tt)
stands_at stage.Producer v x c here is allowed = (others_sleep c ∙ is.0, tt)
stands_at (stage.ProducerFence old) v x c here is allowed = (fences_sleep c ∙ is.0, tt)
stands_at (stage.RequestEvent old) v (answer.Word event) c here is allowed =
    either_at (notifies old v.ring.indices.prod event) stage.Send stage.Loop v (others c) (others_sleep c ∙ is.0, tt) ((others_sleep c ∙ is.0, others_unfenced c), tt)
stands_at stage.Send v x c here is allowed = ((others_sleep c ∙ is.0, others_unfenced c), tt)
stands_at (stage.ResponseHigh low) v (answer.Word high) c here is allowed = let known = is.0 in ((known.0, reads_awake _ _ c known.1 known.2, reads_unfenced _ _ c known.2), tt)
stands_at (stage.ResponseLast low high) v (answer.Word last) c here is allowed =
    let known = is.0 in
    response_goes v (response_of (low ∷ high ∷ last ∷ [])) low (issued v (low + high * 2 ^ 32)) _ (known.0, reads_awake _ _ c known.1 known.2, reads_unfenced _ _ c known.2)
stands_at (stage.GrantRead place) v x c here is allowed = revoke_goes v v.ending place x c refl is.1 is.0 allowed
stands_at (stage.GrantEnd place before) v x c here is allowed = end_goes v v.ending place before x c refl is.1 is.0 allowed
stands_at (stage.ReadData n) v x c here is allowed = read_goes v v.ending n x c refl is.1 is.0 allowed
stands_at (stage.LeftData n) v x c here is allowed = left_goes v v.ending n x c refl is.1 is.0 allowed
stands_at stage.StoreEvent v x c here is allowed = let known = is.0 in ((known.0, stored_awake c known.1), tt)
stands_at stage.EventFence v x c here is allowed = let known = is.0 in ((known.0, ap fences known.1), tt)
stands_at stage.LookAgain v (answer.Word word) c here is allowed = let known = is.0 in last_goes v word c known.0 known.1
stands_at (stage.RingRead page) v (answer.Word word) c here is allowed = either (is_mapped word) (broken word v) (at (stage.RingEnd page word) v) _ (tt, tt) (tt, tt)
stands_at (stage.RingEnd page before) v (answer.Word word) c here is allowed =
    either (word == before) (at (ring_left v page) v) (broken word v) _ (either_at (nat_lt (page + 1) (2 ^ v.shape.order)) (stage.RingRead (page + 1)) stage.ClosePort v _ (tt, tt) (tt, tt)) (tt, tt)
stands_at stage.ClosePort v x c here is allowed = (tt, tt)
stands_at (stage.KeptRead frame) v x c here is allowed = stays (stage.KeptRead frame) v _ here (tt, tt)
stands_at (stage.KeptEnd frame seen) v x c here is allowed = stays (stage.KeptEnd frame seen) v _ here (tt, tt)
stands_at stage.Left v x c here is allowed = stays stage.Left v _ here (tt, tt)
stands_at stage.Closed v x c here is allowed = stays stage.Closed v _ here (tt, tt)
stands_at (stage.Broken word) v x c here is allowed = stays (stage.Broken word) v _ here (tt, tt)
stands_at s v x c here is allowed = absurd allowed

-- a move of the ring's end
pub stands_step : (v : View) (x : FrontAnswer) (c : Check) → Stands v c → IsAnswer (ask_at v.stage v) x → Stands (step_of v x) (front_checks v.ring.indices.cons (ask_at v.stage v) x c)
stands_step v x c is allowed = stands_at v.stage v x c refl is allowed

-- a suspend
resumed_at : (s : FrontStage) (v : View) (c : Check) → v.stage ≡ s → StandsAt s v c → StandsAt (stage_after s) (resumed v) Awake
resumed_at (stage.ReadData n) v c here is = ((refl, refl, refl), rw here is.1)
resumed_at (stage.LeftData n) v c here is = ((refl, refl, refl), rw here is.1)
resumed_at s v c here is = ((refl, refl), tt)

pub stands_resumed : (v : View) (c : Check) → Stands v c → Stands (resumed v) Awake
stands_resumed v c is = resumed_at v.stage v c refl is

-- what asks for something where it has one of these is no wait
pub asks_some : {A B : Type 0} (o : Option A) (asks : Option A → FrontAsk) → IsSome o → ((x : A) → is_wait (asks (Some x)) ≡ false) → asks o ≡ ask.Wait → B
asks_some None asks some on e = absurd (true≢false (sym some))
asks_some (Some x) asks some on e = absurd (true≢false (sym (ap is_wait e) ∙ on x))

-- data that are left are read at once
pub left_asks : (s : FrontStage) (v : View) (c : Check) → is_left s ≡ true → StandsAt s v c → ask_at s v ≡ ask.Wait → ⊥
left_asks (stage.LeftData n) v c left is e = asks_some v.ending (λ o. read_ask o n) is.1 (λ ending. refl) e
left_asks s v c left is e = true≢false (sym left)
