-- A move of the front's end of the ring: what decides a submission is said by the lines after it too.
use Rattle.std.proofs.Common.{◌≡◌, ℕ, ◌+◌, ◌-◌, ◌*◌, ◌^◌, ◌/◌, ◌%◌, ◌<◌, ◌≤◌, ◌==◌, Bool, true, false, not, if◌then◌else◌, List, [], ◌∷◌, length, take, refl, ap, sym, ◌∙◌, subst, arith}
use Rattle.std.specs.Prelude.{Option, Some, None, Result, Ok, Err, fold, remove, position, slice_get, nat_lt}
use Rattle.std.proofs.lemmas.Option.{none-some, same_Some}
use Rattle.std.proofs.lemmas.Bool.Decides.{nat_tests}
use Rattle.blk_base.specs.Options.{Options}
use Rattle.blk_base.specs.declared.config.Submission.{Submission}
use Rattle.blk_base.specs.declared.operation.Status.{Status}
use Rattle.blk_base.specs.declared.ask.FrontAnswer.{FrontAnswer}
use Rattle.blk_base.specs.declared.ask.FrontAnswer.TheVariants.{Event, Word}
use Rattle.ring_words.specs.Ring.{responses_of, notifies}
use Rattle.ring_words.specs.Shape.{entry_words_of}
use Rattle.blk_layout.specs.declared.response.Response.{Response}
use Rattle.blk_layout.specs.Response.{response_of}
use Rattle.schedule_text.specs.declared.line.Line.TheVariants as lines
use Rattle.plain_disk.specs.declared.request.DiskRequest.{DiskRequest}
use Rattle.plain_disk.specs.declared.sight.Sight.{Sight}
use Rattle.plain_disk.specs.Request.{is_finished}
use Rattle.plain_disk.specs.Step.{told_stage, next_stage}
use Rattle.plain_disk.specs.Refusal.{seen}
use Rattle.blk_front.specs.declared.request.Request.{Request}
use Rattle.blk_front.specs.declared.request.Transfer.{Transfer}
use Rattle.blk_front.specs.declared.request.Transfer.TheVariants as transfer
use Rattle.blk_front.specs.Request.{has_data, words_in, is_moving, is_indirect, naming_words, IsShaped}
use Rattle.blk_front.specs.declared.stage.Ending.{Ending}
use Rattle.blk_front.specs.declared.stage.FrontStage.{FrontStage}
use Rattle.blk_front.specs.declared.stage.FrontStage.TheVariants as stage
use Rattle.blk_front.specs.declared.told.Told.TheVariants as told
use Rattle.blk_front.specs.View.{View, next_request}
use Rattle.blk_front.specs.Submit.{is_ready}
use Rattle.blk_front.specs.Step.{at, broken, looked, loop_step, entered, begun, after_data, data_stage, page_stage, granted, found_at, issued, freed, revokes, answered, taken, response_at, is_mapped, finished, ended, revoked, data_step, left_step, ring_left, pushed, step_at, step_of}
use Rattle.split_model.specs.Shown.{front_lines}
use Rattle.machine_pipeline.proofs.Flow.{ending_at, submitted_job}
use Rattle.vbd_front.specs.View.{is_broken}
use Rattle.negotiation_laws.proofs.Choices.{either}
use Rattle.refusal_laws.specs.Ruled.{asked_step}
use Rattle.refusal_laws.proofs.Asked.{IsAsked, asked_taken, none_freed}
use Rattle.refusal_laws.proofs.Stands.{Share, share_of, Stands, IsTelling, IsHeldAt, Keeps, breaks, with_asked, line_ends, line_tells, told_end, next_end}

-- what a response is for is one of the front's requests
found_is : (requests : List Request) (o : Option ℕ) (found : ℕ × Request) → found_at requests o ≡ Some found → slice_get requests found.0 ≡ Some found.1
found_is requests None found e = absurd (none-some found e)
found_is requests (Some place) found e = by_request (slice_get requests place) refl e
  where
    by_request : (o : Option Request) → slice_get requests place ≡ o → found_at requests (Some place) ≡ Some found → slice_get requests found.0 ≡ Some found.1
    by_request None is e = absurd (none-some found (sym (rw is refl) ∙ e))
    by_request (Some r) is e =
        let same : (place, r) ≡ found = same_Some (place, r) found (sym (rw is refl) ∙ e) in
        subst (λ (f : ℕ × Request). slice_get requests f.0 ≡ Some f.1) same is

issued_is : (v : View) (id : ℕ) (found : ℕ × Request) → issued v id ≡ Some found → slice_get v.requests found.0 ≡ Some found.1
issued_is v id found e = found_is v.requests (position (λ (r : Request). r.number == id) (take (length v.requests - v.waiting) v.requests)) found e

-- a read has data, and frames
data_way : (way : Transfer) (answer : Status) → has_data way answer ≡ true → way ≡ transfer.Read
data_way transfer.Read answer t = refl
data_way way answer t = absurd (cc)

has_words : (r : Request) → IsShaped r → r.transfer ≡ transfer.Read → 0 < words_in r
has_words r shaped read = let counted = shaped.counted in let some = counted.some (ap is_moving read) in omega arith

undata : (r : Request) (answer : Status) → IsShaped r → length r.frames.items ≡ 0 → has_data r.transfer answer ≡ false
undata r answer shaped none = by_data (has_data r.transfer answer) refl
  where
    by_data : (b : Bool) → has_data r.transfer answer ≡ b → b ≡ false
    by_data false t = refl
    by_data true t =
        let counted = shaped.counted in
        let some = counted.some (ap is_moving (data_way r.transfer answer t)) in
        let frames = shaped.frames in
        absurd (omega arith)

module _ (config : Options) (s : Sight) (asked : List DiskRequest) (v : View) (untold : v.told ≡ None) (keeps : Keeps config v s asked) where
  abbrev pub Becomes : View → Type 0
  Becomes x = Keeps config x (fold seen s (front_lines x.told)) (fold asked_step asked (front_lines x.told))

  abbrev At : (ready : Bool) → Option Ending → Type 0
  At ready ending = Stands config (share_of v) ready false ending s asked

  quiet : (x : View) → x.told ≡ None → Keeps config x s asked → Becomes x
  quiet x none is = rw none is

  to : (t : FrontStage) → Stands config (share_of v) (is_ready t) (is_broken t) (ending_at t v.ending) s asked → IsHeldAt t v.ending → Becomes (at t v)
  to t h held = quiet (at t v) untold (h, held)

  stays : Becomes v
  stays = quiet v untold keeps

  broke : (word : ℕ) (ready : Bool) (ending : Option Ending) → At ready ending → Becomes (broken word v)
  broke word ready ending h = (breaks config (share_of v) ready false ending s asked word h, tt)

  -- the producer of responses was read
  looked_goes : (word : ℕ) (other : View) → At true None → Becomes other → Becomes (looked v word other)
  looked_goes word other h is = either Becomes _ (broken word v) _ (broke word true None h) (either Becomes (word == v.ring.indices.cons) other (record v { ring = record v.ring { seen = word }; stage = stage.Loop }) is (quiet (record v { ring = record v.ring { seen = word }; stage = stage.Loop }) untold (h, tt)))

  -- a request is begun
  begun_goes : (r : Request) (way : Transfer) → At true None → Becomes (begun v r way)
  begun_goes r transfer.Read h = either (λ (one : FrontStage). Becomes (at one v)) (is_indirect r.count) (stage.Pages 1) (stage.GrantFence 0) (to (stage.Pages 1) h tt) (to (stage.GrantFence 0) h tt)
  begun_goes r transfer.Flush h = quiet (entered v r (stage.Slot 1)) untold (h, tt)
  begun_goes r (transfer.Discard sectors) h = quiet (entered v r (stage.Slot 1)) untold (h, tt)
  begun_goes r other h = to (stage.Data 1) h tt

  loop_goes : (next : Option Request) (answer : FrontAnswer) → At true None → Becomes (loop_step v next answer)
  loop_goes (Some r) answer h = begun_goes r r.transfer h
  loop_goes None (Word word) h = either Becomes (responses_of v.ring.indices v.ring.seen == 0) (looked v word (record v { ring = record v.ring { seen = word }; stage = stage.StoreEvent })) (at (stage.ResponseHigh word) v)
      (looked_goes word (record v { ring = record v.ring { seen = word }; stage = stage.StoreEvent }) h (quiet (record v { ring = record v.ring { seen = word }; stage = stage.StoreEvent }) untold (h, tt))) (to (stage.ResponseHigh word) h tt)
  loop_goes None Event h = quiet (record v { ring = record v.ring { asleep = false } }) untold keeps
  loop_goes None answer h = stays

  data_goes : (next : Option Request) (n : ℕ) → At true None → Becomes (at (data_stage next n) v)
  data_goes None n h = to (stage.Data n) h tt
  data_goes (Some r) n h = either (λ (one : FrontStage). Becomes (at one v)) (nat_lt (n + 1) (words_in r)) (stage.Data (n + 1)) (after_data r) (to (stage.Data (n + 1)) h tt) (either (λ (one : FrontStage). Becomes (at one v)) (is_indirect r.count) (stage.Pages 0) (stage.GrantFrame 0) (to (stage.Pages 0) h tt) (to (stage.GrantFrame 0) h tt))

  pages_go : (next : Option Request) (n : ℕ) → At true None → Becomes (at (page_stage next n) v)
  pages_go None n h = to (stage.Pages n) h tt
  pages_go (Some r) n h = either (λ (one : FrontStage). Becomes (at one v)) (nat_lt (n + 1) (naming_words r)) (stage.Pages (n + 1)) (stage.GrantFrame 0) (to (stage.Pages (n + 1)) h tt) (to (stage.GrantFrame 0) h tt)

  granted_goes : (next : Option Request) (place : ℕ) → At true None → Becomes (granted next place v)
  granted_goes None place h = stays
  granted_goes (Some r) place h = either Becomes (nat_lt (place + 1) (length r.frames.items)) (at (stage.GrantFrame (place + 1)) v) (entered v r (stage.Slot 0)) (to (stage.GrantFrame (place + 1)) h tt) (quiet (entered v r (stage.Slot 0)) untold (h, tt))

  -- a response is taken: its request ends, or has ended where it has no frames
  module _ (place : ℕ) (r : Request) (answer : Status) (here : slice_get v.requests place ≡ Some r) (h : At true None) where
    abbrev e : Ending
    e = record { request = r; status = answer }

    abbrev rest : Share
    rest = record (share_of v) { requests = remove v.requests place; pool = v.pool }

    ends : Stands config rest true false (Some e) s asked
    ends = with_asked config (share_of v) true None (Some e) s asked asked (remove v.requests place) v.pool h refl (asked_taken asked v.requests v.pool place r e here refl (h.are refl))

    its : IsAsked asked r
    its = (h.are refl).each place r here

    by_frames : (b : Bool) → (length r.frames.items == 0) ≡ b → Becomes (if b then answered (freed v place) r answer else revokes (freed v place) r answer)
    by_frames false t = quiet (revokes (freed v place) r answer) untold (ends, (e, refl))
    by_frames true t =
        let none : length r.frames.items ≡ 0 = grind (arith, nat_tests) in
        let done = line_ends config rest true e s asked (λ (submission : Submission). told_stage submission answer) ends (told_end r.transfer r.sector r.count answer ∙ ap not (undata r answer its.shaped none)) in
        (subst (λ (pool : List Bool). Stands config (record rest { pool = pool }) true false None s (asked_step asked (lines.Answer r.number answer))) (none_freed v.pool r.frames.items none) done, tt)

    taken_goes : Becomes (taken v place r answer)
    taken_goes = by_frames (length r.frames.items == 0) refl

  response_goes : (response : Result Response ℕ) (low : ℕ) (found : Option (ℕ × Request)) → ((f : ℕ × Request) → found ≡ Some f → slice_get v.requests f.0 ≡ Some f.1) → At true None → Becomes (response_at v response low found)
  response_goes response low None are h = broke low true None h
  response_goes (Err word) low (Some found) are h = broke word true None h
  response_goes (Ok response) low (Some found) are h = taken_goes found.0 found.1 response.status (are found refl) h

  -- its last grant is ended: the answer is told
  ended_goes : (e : Ending) → v.ending ≡ Some e → At true v.ending → Becomes (ended e v)
  ended_goes e here h = by_data (has_data e.request.transfer e.status) refl
    where
      ends : At true (Some e)
      ends = subst (At true) here h

      its : IsAsked asked e.request
      its = (ends.are refl).last e refl

      by_data : (b : Bool) → has_data e.request.transfer e.status ≡ b
          → Becomes (if b then record v { stage = stage.ReadData 0; told = Some (told.Answer e.request.number e.status) } else record (finished e v) { told = Some (told.Answer e.request.number e.status) })
      by_data false t = (line_ends config (share_of v) true e s asked (λ (submission : Submission). told_stage submission e.status) ends (told_end e.request.transfer e.request.sector e.request.count e.status ∙ ap not t), tt)
      by_data true t =
          let read = data_way e.request.transfer e.status t in
          let tells = line_tells config (share_of v) true e s asked (λ (submission : Submission). told_stage submission e.status) ends (told_end e.request.transfer e.request.sector e.request.count e.status ∙ ap not t) in (
            subst (λ (o : Option Ending). Stands config (share_of v) true false o s (asked_step asked (lines.Answer e.request.number e.status))) (sym here) tells,
            (e, here, has_words e.request its.shaped read, read),
          )

  revoked_goes : (place : ℕ) → (e : Ending) × (v.ending ≡ Some e) → At true v.ending → Becomes (revoked v.ending place v)
  revoked_goes place held h =
      subst (λ (o : Option Ending). Becomes (revoked o place v)) (sym held.1)
      (either Becomes _ (at (stage.GrantRead (place + 1)) v) (ended held.0 v) (to (stage.GrantRead (place + 1)) h held) (ended_goes held.0 held.1 h))

  -- a word of its data is read: the last one of a sector tells that, and the last one of all ends it
  module _ (e : Ending) (here : v.ending ≡ Some e) (n : ℕ) (read : e.request.transfer ≡ transfer.Read) (words : List ℕ) where
    abbrev line_asked : List DiskRequest
    line_asked = asked_step asked (lines.Data e.request.number (n / 128) words)

    next_read : is_finished (next_stage (submitted_job e.request.transfer e.request.sector e.request.count) (n / 128)) ≡ not (nat_lt (n / 128 + 1) e.request.count)
    next_read = ap (λ (way : Transfer). is_finished (next_stage (submitted_job way e.request.sector e.request.count) (n / 128))) read ∙ next_end e.request.sector e.request.count (n / 128)

    data_more : (ready : Bool) → (n % 128 == 127) ≡ true → nat_lt (n + 1) (words_in e.request) ≡ true → At ready v.ending → Stands config (share_of v) ready false v.ending s line_asked
    data_more ready last more h =
        let at_last : n % 128 ≡ 127 = grind (arith, nat_tests) in
        let few : n + 1 < 128 * e.request.count = grind (arith, nat_tests) in
        let left : n / 128 + 1 < e.request.count = omega arith in
        let test : nat_lt (n / 128 + 1) e.request.count ≡ true = grind (arith, nat_tests) in
        subst (λ (o : Option Ending). Stands config (share_of v) ready false o s line_asked) (sym here)
        (line_tells config (share_of v) ready e s asked (λ (submission : Submission). next_stage submission (n / 128)) (subst (At ready) here h) (next_read ∙ ap not test))

    data_last : (ready : Bool) → n < words_in e.request → nat_lt (n + 1) (words_in e.request) ≡ false → At ready v.ending → Stands config (share_of (finished e v)) ready false None s line_asked
    data_last ready within less h =
        let all : 128 * e.request.count ≤ n + 1 = grind (arith, nat_tests) in
        let none : e.request.count ≤ n / 128 + 1 = omega arith in
        let test : nat_lt (n / 128 + 1) e.request.count ≡ false = grind (arith, nat_tests) in
        line_ends config (share_of v) ready e s asked (λ (submission : Submission). next_stage submission (n / 128)) (subst (At ready) here h) (next_read ∙ ap not test)

    is_last : n < words_in e.request → nat_lt (n + 1) (words_in e.request) ≡ false → (n % 128 == 127) ≡ true
    is_last within less =
        let all : 128 * e.request.count ≤ n + 1 = grind (arith, nat_tests) in
        let same : n % 128 ≡ 127 = omega arith in
        grind (arith, nat_tests)

    abbrev sector : (b : Bool) → View
    sector b = if b then record v { words = words; told = Some (told.Sector e.request.number (n / 128) words) } else record v { words = words }

    read_on : (b : Bool) → (n % 128 == 127) ≡ b → nat_lt (n + 1) (words_in e.request) ≡ true → At true v.ending → IsTelling (n + 1) v.ending → Becomes (at (stage.ReadData (n + 1)) (sector b))
    read_on true last more h held = (data_more true last more h, held)
    read_on false last more h held = quiet (at (stage.ReadData (n + 1)) (record v { words = words })) untold (h, held)

    left_on : (b : Bool) → (n % 128 == 127) ≡ b → nat_lt (n + 1) (words_in e.request) ≡ true → At false v.ending → IsTelling (n + 1) v.ending → Becomes (at (stage.LeftData (n + 1)) (sector b))
    left_on true last more h held = (data_more false last more h, held)
    left_on false last more h held = quiet (at (stage.LeftData (n + 1)) (record v { words = words })) untold (h, held)

    read_goes : n < words_in e.request → At true v.ending → (b : Bool) → nat_lt (n + 1) (words_in e.request) ≡ b → Becomes (if b then at (stage.ReadData (n + 1)) (sector (n % 128 == 127)) else finished e (sector (n % 128 == 127)))
    read_goes within h true more = read_on (n % 128 == 127) refl more h (e, here, grind (arith, nat_tests), read)
    read_goes within h false less = subst (λ (b : Bool). Becomes (finished e (sector b))) (sym (is_last within less)) (data_last true within less h, tt)

    left_goes : n < words_in e.request → At false v.ending → (b : Bool) → nat_lt (n + 1) (words_in e.request) ≡ b
        → Becomes (if b then at (stage.LeftData (n + 1)) (sector (n % 128 == 127)) else at (stage.RingWord 0) (finished e (sector (n % 128 == 127))))
    left_goes within h true more = left_on (n % 128 == 127) refl more h (e, here, grind (arith, nat_tests), read)
    left_goes within h false less = subst (λ (b : Bool). Becomes (at (stage.RingWord 0) (finished e (sector b)))) (sym (is_last within less)) (data_last false within less h, tt)

  by_stage : (t : FrontStage) (answer : FrontAnswer) → Stands config (share_of v) (is_ready t) (is_broken t) (ending_at t v.ending) s asked → IsHeldAt t v.ending → Becomes (step_at t v answer)
  by_stage (stage.RingWord k) answer h held = either (λ (one : FrontStage). Becomes (at one v)) (k == 15) (stage.RingFrame 0) (stage.RingWord (k + 1)) (to (stage.RingFrame 0) h tt) (to (stage.RingWord (k + 1)) h tt)
  by_stage (stage.RingFrame page) answer h held = to (stage.RingFence page) h tt
  by_stage (stage.RingFence page) answer h held = to (stage.RingFlags page) h tt
  by_stage (stage.RingFlags page) answer h held = either (λ (one : FrontStage). Becomes (at one v)) _ (stage.RingFrame (page + 1)) stage.NewPort (to (stage.RingFrame (page + 1)) h tt) (to stage.NewPort h tt)
  by_stage stage.NewPort answer h held = to stage.Initialised h tt
  by_stage stage.Loop answer h held = loop_goes (next_request v) answer h
  by_stage (stage.Data n) answer h held = data_goes (next_request v) n h
  by_stage (stage.Pages n) answer h held = pages_go (next_request v) n h
  by_stage (stage.GrantFrame place) answer h held = to (stage.GrantFence place) h tt
  by_stage (stage.GrantFence place) answer h held = to (stage.GrantFlags place) h tt
  by_stage (stage.GrantFlags place) answer h held = granted_goes (next_request v) place h
  by_stage (stage.Slot k) answer h held = either (λ (one : FrontStage). Becomes (at one v)) (k + 1 == entry_words_of v.shape.abi) stage.Producer (stage.Slot (k + 1)) (to stage.Producer h tt) (to (stage.Slot (k + 1)) h tt)
  by_stage stage.Producer answer h held = quiet (pushed v) untold (h, tt)
  by_stage (stage.ProducerFence old) answer h held = to (stage.RequestEvent old) h tt
  by_stage (stage.RequestEvent old) (Word event) h held = either (λ (one : FrontStage). Becomes (at one v)) (notifies old v.ring.indices.prod event) stage.Send stage.Loop (to stage.Send h tt) (to stage.Loop h tt)
  by_stage stage.Send answer h held = to stage.Loop h tt
  by_stage (stage.ResponseHigh low) (Word high) h held = to (stage.ResponseLast low high) h tt
  by_stage (stage.ResponseLast low high) (Word last) h held = response_goes (response_of (low ∷ high ∷ last ∷ [])) low (issued v (low + high * 2 ^ 32)) (issued_is v (low + high * 2 ^ 32)) h
  by_stage (stage.GrantRead place) (Word word) h held = either Becomes (is_mapped word) (broken word v) (at (stage.GrantEnd place word) v) (broke word true v.ending h) (to (stage.GrantEnd place word) h held)
  by_stage (stage.GrantEnd place before) (Word word) h held = either Becomes (word == before) (revoked v.ending place v) (broken word v) (revoked_goes place held h) (broke word true v.ending h)
  by_stage (stage.ReadData n) (Word word) h held =
      subst (λ (o : Option Ending). Becomes (data_step o n word v)) (sym held.1) (read_goes held.0 held.1 n held.3 _ held.2 h (nat_lt (n + 1) (words_in held.0.request)) refl)
  by_stage (stage.LeftData n) (Word word) h held =
      subst (λ (o : Option Ending). Becomes (left_step o n word v)) (sym held.1) (left_goes held.0 held.1 n held.3 _ held.2 h (nat_lt (n + 1) (words_in held.0.request)) refl)
  by_stage stage.StoreEvent answer h held = to stage.EventFence h tt
  by_stage stage.EventFence answer h held = to stage.LookAgain h tt
  by_stage stage.LookAgain (Word word) h held = looked_goes word (record v { ring = record v.ring { seen = word; asleep = true }; stage = stage.Loop }) h (quiet (record v { ring = record v.ring { seen = word; asleep = true }; stage = stage.Loop }) untold (h, tt))
  by_stage (stage.RingRead page) (Word word) h held = either Becomes (is_mapped word) (broken word v) (at (stage.RingEnd page word) v) (broke word false None h) (to (stage.RingEnd page word) h tt)
  by_stage (stage.RingEnd page before) (Word word) h held =
      either Becomes (word == before) (at (ring_left v page) v) (broken word v) (either (λ (one : FrontStage). Becomes (at one v)) _ (stage.RingRead (page + 1)) stage.ClosePort (to (stage.RingRead (page + 1)) h tt) (to stage.ClosePort h tt)) (broke word false None h)
  by_stage stage.ClosePort answer h held = to stage.Left h tt
  by_stage t answer h held = stays

  pub step_goes : (answer : FrontAnswer) → Becomes (step_of v answer)
  step_goes answer = by_stage v.stage answer keeps.0 keeps.1
