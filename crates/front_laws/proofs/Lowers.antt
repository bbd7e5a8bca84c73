-- Each answer lowers what is left to the front.
use Rattle.std.proofs.Common.{◌≡◌, ℕ, suc, ◌+◌, ◌-◌, ◌*◌, ◌/◌, ◌%◌, ◌^◌, ◌<◌, ◌≤◌, ◌==◌, ◌||◌, ◌⊎◌, inl, inr, Bool, true, false, if◌then◌else◌, List, [], ◌∷◌, length, drop, take, refl, ap, ◌∙◌, subst, arith}
use Rattle.std.specs.Prelude.{All, Option, Some, None, Result, Ok, Err, sum_by, remove, slice_get, slice_set, position, nat_lt}
use Rattle.std.proofs.lemmas.Option.{get_or_from_slice_get, slice_get_within}
use Rattle.std.proofs.lemmas.Bool.Decides.{nat_tests}
use Rattle.std.proofs.lemmas.List.Sums.{sum_by-remove}
use Rattle.std.proofs.lemmas.List.Edits.{length-remove}
use Rattle.blk_base.specs.Distance.{distance_of}
use Rattle.blk_base.specs.declared.operation.Status.{Status}
use Rattle.blk_base.specs.declared.ask.FrontAsk.{FrontAsk}
use Rattle.blk_base.specs.declared.ask.FrontAsk.TheVariants.{Wait, Read}
use Rattle.blk_base.specs.declared.ask.FrontAnswer.{FrontAnswer}
use Rattle.blk_base.specs.declared.ask.FrontAnswer.TheVariants as answer
use Rattle.ring_words.specs.Ring.{next_of, responses_of}
use Rattle.blk_layout.specs.declared.response.Response.{Response}
use Rattle.blk_layout.specs.Response.{response_of}
use Rattle.blk_front.specs.declared.request.Request.{Request}
use Rattle.blk_front.specs.declared.stage.FrontStage.{FrontStage}
use Rattle.blk_front.specs.declared.stage.FrontStage.TheVariants as stage
use Rattle.blk_front.specs.declared.stage.Ending.{Ending}
use Rattle.blk_front.specs.declared.told.Told.TheVariants as told
use Rattle.blk_front.specs.Request.{words_in, is_moving, IsShaped}
use Rattle.blk_front.specs.Sound.{IsSound}
use Rattle.blk_front.specs.View.{View, next_request}
use Rattle.blk_front.specs.Ask.{is_through, response_ask, loop_ask, IsAnswer}
use Rattle.blk_front.specs.Step.{at, broken, looked, found_at, freed, revokes, answered, taken, response_at, response_step, finished, sector_told, data_step, left_step, loop_step, step_at}
use Rattle.front_laws.specs.Left.{awake_left, end_left, issue_left, waiting_after, rest_after, of_ending, left_at, left_of, gained, IsOfWord}
use Rattle.front_laws.proofs.Lists.{is_numbered, LooksUp, looked_up}
use Rattle.front_laws.proofs.Simple.{next_stands}
use Rattle.front_laws.proofs.Issued.{removed_price, begin_lowers}

abbrev pub Lowers : FrontStage → View → FrontAnswer → Type 0
Lowers s v a = left_of (step_at s v a) < left_at s v + gained s v a

awake_few : (b : Bool) → awake_left b ≤ 4
awake_few true = omega arith
awake_few false = omega arith

-- another index is at some distance, and a step nearer after a step
other_index : (a b : ℕ) → a < 2 ^ 32 → b < 2 ^ 32 → (b == a) ≡ false → 0 < distance_of a b
other_index a b small low e =
    let other : (b < a) ⊎ (a < b) = grind (arith, nat_tests) in
    elim other [ inl below ↦ omega arith | inr above ↦ omega arith ]

nearer : (a b : ℕ) → a < 2 ^ 32 → 0 < distance_of a b → distance_of (next_of a) b + 1 ≡ distance_of a b
nearer a b small ahead = omega arith

pub no_distance : (index : ℕ) → index < 2 ^ 32 → distance_of index index ≡ 0
no_distance index small = omega arith

-- a producer was read: it breaks the front, shows nothing new, or shows responses
abbrev pub prices : View → ℕ
prices v = sum_by end_left v.requests + sum_by issue_left (waiting_after 0 v)

pub looked_left : (v : View) (word n : ℕ) (otherwise : View) → v.ring.indices.cons < 2 ^ 32 → word < 2 ^ 32
    → 1 + prices v ≤ n → (word ≡ v.ring.indices.cons → left_of otherwise < n)
    → left_of (looked v word otherwise) < n + 7 * distance_of v.ring.indices.cons word
looked_left v word n otherwise small low least none = by_broken (nat_lt (distance_of v.ring.indices.cons v.ring.indices.prod) (distance_of v.ring.indices.cons word))
  where
    by_new : (b : Bool) → (word == v.ring.indices.cons) ≡ b → left_of (if b then otherwise else record v { ring = record v.ring { seen = word }; stage = stage.Loop }) < n + 7 * distance_of v.ring.indices.cons word
    by_new true e =
        let same : word ≡ v.ring.indices.cons = grind (arith, nat_tests) in
        omega (arith, none same)
    by_new false e = omega (arith, other_index v.ring.indices.cons word small low e, awake_few v.ring.asleep)

    by_broken : (b : Bool) → left_of (if b then broken word v else (if word == v.ring.indices.cons then otherwise else record v { ring = record v.ring { seen = word }; stage = stage.Loop })) < n + 7 * distance_of v.ring.indices.cons word
    by_broken true = omega arith
    by_broken false = by_new (word == v.ring.indices.cons) refl

-- a front that waits
pub still_lowers : (s : FrontStage) (v : View) (a : FrontAnswer) → v.stage ≡ s → IsAnswer Wait a → left_of v < left_at s v + gained s v a
still_lowers s v answer.Event here ok = rw here (omega arith)
still_lowers s v (answer.Watched path) here ok = rw here (omega arith)
still_lowers s v a here ok = absurd ok

-- an awake front in its loop looks, or reads a response
abbrev looked_for : Bool → View → FrontAsk
looked_for b v = if b then Read 2 2 else response_ask v 0

awake_lowers : (b : Bool) (v : View) (a : FrontAnswer) → (responses_of v.ring.indices v.ring.seen == 0) ≡ b → v.ring.asleep ≡ false → v.ring.indices.cons < 2 ^ 32 → IsOfWord a
    → IsAnswer (looked_for b v) a → left_of (loop_step v None a) < rest_after 0 v + gained stage.Loop v a
awake_lowers true v (answer.Word word) e awake small low ok =
    let up : awake_left v.ring.asleep ≡ 4 = rw awake refl in
    let none : View = record v { ring = record v.ring { seen = word }; stage = stage.StoreEvent } in
    rw e (looked_left v word (rest_after 0 v) none small low (omega (arith, up)) (λ same. let at_none : distance_of v.ring.indices.cons word ≡ 0 = rw same (no_distance v.ring.indices.cons small) in omega (arith, up, at_none)))
awake_lowers false v (answer.Word word) e awake small low ok =
    let up : awake_left v.ring.asleep ≡ 4 = rw awake refl in
    let some : 0 < distance_of v.ring.indices.cons v.ring.seen = grind (arith, nat_tests) in
    rw e (omega (arith, up, some))
awake_lowers true v a e awake small low ok = absurd ok
awake_lowers false v a e awake small low ok = absurd ok

waits_lowers : (v : View) (a : FrontAnswer) → v.stage ≡ stage.Loop → IsAnswer Wait a → left_of (loop_step v None a) < rest_after 0 v + gained stage.Loop v a
waits_lowers v answer.Event here ok = rw here (omega arith)
waits_lowers v (answer.Watched path) here ok = rw here (omega arith)
waits_lowers v a here ok = absurd ok

idle_lowers : (v : View) (a : FrontAnswer) → v.stage ≡ stage.Loop → v.ring.indices.cons < 2 ^ 32 → IsOfWord a → IsAnswer (loop_ask v None) a → left_of (loop_step v None a) < rest_after 0 v + gained stage.Loop v a
idle_lowers v a here small low ok = by_asleep v.ring.asleep (is_through v) refl ok
  where
    by_asleep : (b c : Bool) → v.ring.asleep ≡ b → IsAnswer (if b || c then Wait else looked_for (responses_of v.ring.indices v.ring.seen == 0) v) a → left_of (loop_step v None a) < rest_after 0 v + gained stage.Loop v a
    by_asleep true c is ok = waits_lowers v a here ok
    by_asleep false true is ok = waits_lowers v a here ok
    by_asleep false false is ok = awake_lowers (responses_of v.ring.indices v.ring.seen == 0) v a refl is small low ok

-- a request that waits is issued
moving_some : (v : View) (r : Request) → All IsShaped v.requests → next_request v ≡ Some r → is_moving r.transfer ≡ true → 1 ≤ r.count
moving_some v r shaped next moving =
    let stands = next_stands v r next in
    let its = subst IsShaped (get_or_from_slice_get v.requests (length v.requests - v.waiting) r r stands) (shaped (length v.requests - v.waiting) r (slice_get_within v.requests (length v.requests - v.waiting) r stands)) in
    its.counted.some moving

pub loop_lowers : (o : Option Request) (v : View) (a : FrontAnswer) → next_request v ≡ o → v.stage ≡ stage.Loop → IsSound v → IsOfWord a → IsAnswer (loop_ask v o) a → left_of (loop_step v o a) < rest_after 0 v + gained stage.Loop v a
loop_lowers (Some r) v a next here sound low ok = omega (arith, begin_lowers r.transfer v r next (moving_some v r sound.shaped next))
loop_lowers None v a next here sound low ok = idle_lowers v a here sound.cons low ok

-- the third word of a response was read
module _ (v : View) (sound : IsSound v) (some : 0 < distance_of v.ring.indices.cons v.ring.seen) where
  abbrev response_price : ℕ
  response_price = 1 + 3 * (distance_of v.ring.indices.cons v.ring.seen - 1) + 4 + prices v

  waits : v.waiting ≤ length v.requests
  waits = let counted = sound.counted in omega arith

  -- its request is one of the issued ones
  module _ (place : ℕ) (r : Request) (status : Status) (here : slice_get v.requests place ≡ Some r) (early : place < length v.requests - v.waiting) where
    within : place < length v.requests
    within = slice_get_within v.requests place r here

    shorter : length (remove v.requests place) + 1 ≡ length v.requests
    shorter = length-remove v.requests place within

    ends : sum_by end_left v.requests ≡ sum_by end_left (remove v.requests place) + end_left r
    ends = let is = ap end_left (get_or_from_slice_get v.requests place r r here) in let all = sum_by-remove end_left v.requests place r within in omega arith

    same_waiting : sum_by issue_left (waiting_after 0 (freed v place)) ≡ sum_by issue_left (waiting_after 0 v)
    same_waiting =
        let next : suc (length (remove v.requests place) - v.waiting + 0) ≡ length v.requests - v.waiting + 0 = (let one = shorter in let few = early in omega arith) in
        removed_price issue_left v.requests place (length (remove v.requests place) - v.waiting + 0) (let one = shorter in omega arith)
        ∙ ap (λ (n : ℕ). sum_by issue_left (drop n v.requests)) next

    one_less : distance_of (next_of v.ring.indices.cons) v.ring.seen + 1 ≡ distance_of v.ring.indices.cons v.ring.seen
    one_less = nearer v.ring.indices.cons v.ring.seen sound.cons some

    taken_left : left_of (taken v place r status) < response_price
    taken_left = by_frames (length r.frames.items == 0)
      where
        by_frames : (b : Bool) → left_of (if b then answered (freed v place) r status else revokes (freed v place) r status) < response_price
        by_frames true = omega (arith, awake_few v.ring.asleep, ends, same_waiting, one_less)
        by_frames false = omega (arith, awake_few v.ring.asleep, ends, same_waiting, one_less)

  response_left : (response : Result Response ℕ) (low : ℕ) (o : Option ℕ) (id : ℕ) → LooksUp v.requests (length v.requests - v.waiting) id o → left_of (response_at v response low (found_at v.requests o)) < response_price
  response_left response low None id up = omega arith
  response_left (Err word) low (Some place) id up = rw up.here (omega arith)
  response_left (Ok response) low (Some place) id up = rw up.here (taken_left place up.r response.status up.here up.early)

  pub last_lowers : (low high last : ℕ) → left_of (response_step v low high last) < response_price
  last_lowers low high last = response_left (response_of (low ∷ high ∷ last ∷ [])) low (position (is_numbered (low + high * 2 ^ 32)) (take (length v.requests - v.waiting) v.requests)) (low + high * 2 ^ 32) (looked_up v.requests (length v.requests - v.waiting) (low + high * 2 ^ 32))

-- a word of data was read
told_price : (v : View) (e : Ending) (n : ℕ) (words : List ℕ) → rest_after 0 (sector_told e n words v) ≡ rest_after 0 v
told_price v e n words = by_last (n % 128 == 127)
  where
    by_last : (b : Bool) → rest_after 0 (if b then record v { words = words; told = Some (told.Sector e.request.number (n / 128) words) } else record v { words = words }) ≡ rest_after 0 v
    by_last true = refl
    by_last false = refl

told_ending : (v : View) (e : Ending) (n : ℕ) (words : List ℕ) → (let x : View = sector_told e n words v in x.ending) ≡ v.ending
told_ending v e n words = by_last (n % 128 == 127)
  where
    by_last : (b : Bool) → (let x : View = (if b then record v { words = words; told = Some (told.Sector e.request.number (n / 128) words) } else record v { words = words }) in x.ending) ≡ v.ending
    by_last true = refl
    by_last false = refl

told_order : (v : View) (e : Ending) (n : ℕ) (words : List ℕ) → (let x : View = sector_told e n words v in x.shape.order) ≡ v.shape.order
told_order v e n words = by_last (n % 128 == 127)
  where
    by_last : (b : Bool) → (let x : View = (if b then record v { words = words; told = Some (told.Sector e.request.number (n / 128) words) } else record v { words = words }) in x.shape.order) ≡ v.shape.order
    by_last true = refl
    by_last false = refl

module _ (v : View) (e : Ending) (n word : ℕ) (is : v.ending ≡ Some e) (within : n < words_in e.request) where
  abbrev x : View
  x = sector_told e n (slice_set v.words (n % 128) word) v

  rest_same : rest_after 0 x ≡ rest_after 0 v
  rest_same = told_price v e n (slice_set v.words (n % 128) word)

  order_same : 3 * 2 ^ (let y : View = x in y.shape.order) ≡ 3 * 2 ^ v.shape.order
  order_same = ap (λ (o : ℕ). 3 * 2 ^ o) (told_order v e n (slice_set v.words (n % 128) word))

  more_left : of_ending (let y : View = x in y.ending) (λ r. words_in r - (n + 1)) ≡ words_in e.request - (n + 1)
  more_left = ap (λ (o : Option Ending). of_ending o (λ r. words_in r - (n + 1))) (told_ending v e n (slice_set v.words (n % 128) word) ∙ is)

  pub data_left : left_of (data_step (Some e) n word v) < (words_in e.request - n) + rest_after 0 v
  data_left = by_more (nat_lt (n + 1) (words_in e.request)) refl
    where
      by_more : (b : Bool) → nat_lt (n + 1) (words_in e.request) ≡ b → left_of (if b then at (stage.ReadData (n + 1)) x else finished e x) < (words_in e.request - n) + rest_after 0 v
      by_more true more = omega (arith, within, rest_same, more_left)
      by_more false more = omega (arith, within, rest_same)

  pub left_left : left_of (left_step (Some e) n word v) < (words_in e.request - n) + 16 + 3 * 2 ^ v.shape.order + 1 + rest_after 0 v
  left_left = by_more (nat_lt (n + 1) (words_in e.request)) refl
    where
      by_more : (b : Bool) → nat_lt (n + 1) (words_in e.request) ≡ b → left_of (if b then at (stage.LeftData (n + 1)) x else at (stage.RingWord 0) (finished e x)) < (words_in e.request - n) + 16 + 3 * 2 ^ v.shape.order + 1 + rest_after 0 v
      by_more true more = omega (arith, within, rest_same, more_left, order_same)
      by_more false more = omega (arith, within, rest_same, order_same)
