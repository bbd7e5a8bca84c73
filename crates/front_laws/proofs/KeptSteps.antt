-- What is true of a front as it is at each stage stays so whatever its ask is answered; this file has the stages at which no grant of a frame comes or goes where grants are kept.
use Rattle.std.proofs.Common.{◌≡◌, ℕ, ◌+◌, ◌-◌, ◌*◌, ◌/◌, ◌%◌, ◌^◌, ◌||◌, ◌==◌, Bool, true, false, if◌then◌else◌, List, [], ◌∷◌, length, refl, sym, ap, ◌∙◌, subst, arith}
use Rattle.std.specs.Prelude.{Option, Some, None, IfSome, Result, Ok, Err, slice_get, slice_set, nat_lt, position, take, remove}
use Rattle.std.specs.Option.{option_map}
use Rattle.std.proofs.lemmas.Bool.{false≢true}
use Rattle.std.proofs.lemmas.Bool.Decides.{nat_tests}
use Rattle.std.proofs.lemmas.Nat.{pow_pos}
use Rattle.std.proofs.lemmas.Option.{slice_get_within, get_or_from_slice_get}
use Rattle.blk_base.specs.Distance.{distance_of}
use Rattle.blk_base.specs.declared.operation.Status.{Status}
use Rattle.blk_base.specs.declared.ask.FrontAnswer.{FrontAnswer}
use Rattle.blk_base.specs.declared.ask.FrontAnswer.TheVariants as answer
use Rattle.ring_words.specs.Ring.{responses_of, notifies}
use Rattle.ring_words.specs.Shape.{entry_words_of}
use Rattle.blk_layout.specs.declared.response.Response.{Response}
use Rattle.blk_layout.specs.Response.{response_of}
use Rattle.blk_front.specs.declared.request.Request.{Request}
use Rattle.blk_front.specs.declared.request.Transfer.{Transfer}
use Rattle.blk_front.specs.declared.request.Transfer.TheVariants as transfer
use Rattle.blk_front.specs.declared.stage.FrontStage.{FrontStage}
use Rattle.blk_front.specs.declared.stage.FrontStage.TheVariants as stage
use Rattle.blk_front.specs.declared.stage.Ending.{Ending}
use Rattle.blk_front.specs.declared.told.Told.TheVariants as told
use Rattle.blk_front.specs.Pool.{empty_pool, is_taken, taken_from, untaken_from, with_all_free}
use Rattle.blk_front.specs.Request.{has_data, words_in, naming_words, is_indirect, is_moving}
use Rattle.blk_front.specs.View.{View, next_request}
use Rattle.blk_front.specs.Ask.{is_through}
use Rattle.blk_front.specs.Step.{at, broken, looked, entered, found_at, issued, freed, revokes, answered, taken, response_at, is_mapped, finished, ended, revoked, data_step, left_step}
use Rattle.blk_front.specs.Keep.{first_place, named_or_entered, begun_as, loop_step_as, grants, data_next, page_next, unended, response_step_as, kept_stage, ring_left_as, kept_read, step_as_at}
use Rattle.blk_front.proofs.Numbers.{remove_all}
use Rattle.front_laws.proofs.Ending.{free_size}
use Rattle.front_laws.proofs.KeptFrames.{UntakenIs, untaken_is, TakenIs, taken_is, NoneBelow, none_kept}
use Rattle.front_laws.proofs.KeptStages.{IsOwn, IsBase, Base, is_early, is_leaving, parts_of, Making, Granted, At, next_own}

-- a step that leaves the kept grants as they were
pub record Goes (s : FrontStage) (v w : View) : Type 0 where
  pub base : Base w
  pub at : At w.stage w
  pub same : w.kept ≡ v.kept
  pub keeps : w.offers.persistent ≡ v.offers.persistent
  pub order : w.shape.order ≡ v.shape.order
  pub early : is_early w.stage ≡ true → is_early s ≡ true
  pub left : is_leaving w.stage ≡ true → is_leaving s ≡ true

-- no such stage
late : {A : Type 0} → false ≡ true → A
late e = absurd (false≢true e)

pub still : (s : FrontStage) (v : View) → v.stage ≡ s → Base v → At s v → Goes s v v
still s v here base i = record {
  base = base;
  at = subst (λ (t : FrontStage). At t v) (sym here) i;
  same = refl;
  keeps = refl;
  order = refl;
  early = λ e. ap is_early (sym here) ∙ e;
  left = λ e. ap is_leaving (sym here) ∙ e;
}

-- to a stage between the two
pub on : (s t : FrontStage) (v : View) → (is_early t || is_leaving t) ≡ false → Base v → At t v → Goes s v (at t v)
on s t v at_work base i = record { base = base; at = i; same = refl; keeps = refl; order = refl; early = never (is_early t) (is_leaving t) at_work; left = λ e. late (sym (neither (is_early t) (is_leaving t) at_work) ∙ e) }
  where
    neither : (a b : Bool) → (a || b) ≡ false → b ≡ false
    neither true b e = late (sym e)
    neither false b e = e

    never : {A : Type 0} → (a b : Bool) → (a || b) ≡ false → a ≡ true → A
    never true b e f = late (sym e)
    never false b e f = late f

-- from one before it is connected to another, and as it leaves
up : (s t : FrontStage) (v : View) → is_early s ≡ true → is_leaving t ≡ false → Base v → At t v → Goes s v (at t v)
up s t v before stays base i = record { base = base; at = i; same = refl; keeps = refl; order = refl; early = λ e. before; left = λ e. late (sym stays ∙ e) }

pub off : (s t : FrontStage) (v : View) → is_leaving s ≡ true → is_early t ≡ false → Base v → At t v → Goes s v (at t v)
off s t v leaves after base i = record { base = base; at = i; same = refl; keeps = refl; order = refl; early = λ e. late (sym after ∙ e); left = λ e. leaves }

pub breaks : (s : FrontStage) (v : View) (word : ℕ) → Base v → Goes s v (broken word v)
breaks s v word base = record { base = base; at = tt; same = refl; keeps = refl; order = refl; early = late; left = late }

either : (b : Bool) (s : FrontStage) (v x y : View) → Goes s v x → Goes s v y → Goes s v (if b then x else y)
either true s v x y p q = p
either false s v x y p q = q

either_at : (b : Bool) (s : FrontStage) (v : View) (one other : FrontStage) → Goes s v (at one v) → Goes s v (at other v) → Goes s v (at (if b then one else other) v)
either_at true s v one other p q = p
either_at false s v one other p q = q

-- the frame that is granted next
abbrev pub PlaceIs : View → Option ℕ → Type 0
PlaceIs v None = Granted (parts_of v)
PlaceIs v (Some place) = Making (parts_of v) place

pub place_is : (v : View) (r : Request) → next_request v ≡ Some r → (o : Option ℕ) → (v.offers.persistent ≡ true → UntakenIs v.kept r.frames.items o) → PlaceIs v o
place_is v r next None h = λ keeps. record { request = r; next_is = next; granted = h keeps }
place_is v r next (Some place) h = λ keeps. record { r = r; next_is = next; new = h keeps }

first_is : (v : View) (r : Request) → next_request v ≡ Some r → PlaceIs v (first_place v r)
first_is v r next = place_is v r next (first_place v r) (λ keeps.
    subst (λ (b : Bool). UntakenIs v.kept r.frames.items (if b then untaken_from v.kept r.frames.items 0 else Some 0)) (sym keeps)
    (untaken_is v.kept r.frames.items 0 (λ k d lt. absurd (omega arith))))

pub grants_goes : (s : FrontStage) (v : View) (r : Request) (o : Option ℕ) → Base v → PlaceIs v o → Goes s v (grants v r o)
grants_goes s v r None base i = record { base = base; at = i; same = refl; keeps = refl; order = refl; early = late; left = late }
grants_goes s v r (Some place) base i = on s (stage.GrantFrame place) v refl base i

-- a request is begun
module _ (v : View) (base : Base v) (r : Request) (next : next_request v ≡ Some r) where
  named_goes : (o : Option ℕ) → PlaceIs v o → Goes stage.Loop v (named_or_entered v r o)
  named_goes None i = record { base = base; at = i; same = refl; keeps = refl; order = refl; early = late; left = late }
  named_goes (Some place) i = on stage.Loop (stage.GrantFence place) v refl base i

  entered_goes : length r.frames.items ≡ 0 → Goes stage.Loop v (entered v r (stage.Slot 1))
  entered_goes none = record { base = base; at = place_is v r next None (λ keeps k d lt. absurd (omega arith)); same = refl; keeps = refl; order = refl; early = late; left = late }

  begun_goes : (way : Transfer) → r.transfer ≡ way → Goes stage.Loop v (begun_as v r way)
  begun_goes (transfer.Write tag) is = on stage.Loop (stage.Data 1) v refl base tt
  begun_goes (transfer.Barrier tag) is = on stage.Loop (stage.Data 1) v refl base tt
  begun_goes transfer.Read is = either (is_indirect r.count) stage.Loop v (at (stage.Pages 1) v) (named_or_entered v r (first_place v r)) (on stage.Loop (stage.Pages 1) v refl base tt) (named_goes (first_place v r) (first_is v r next))
  begun_goes transfer.Flush is = entered_goes ((next_own v r base next).none (ap is_moving is))
  begun_goes (transfer.Discard sectors) is = entered_goes ((next_own v r base next).none (ap is_moving is))

-- the responses' producer was read
looked_goes : (s : FrontStage) (v : View) (word : ℕ) (otherwise : View) → Base v → Goes s v otherwise → Goes s v (looked v word otherwise)
looked_goes s v word otherwise base o =
    let shown : View = record v { ring = record v.ring { seen = word }; stage = stage.Loop } in
    either (nat_lt (distance_of v.ring.indices.cons v.ring.indices.prod) (distance_of v.ring.indices.cons word)) s v (broken word v) (if word == v.ring.indices.cons then otherwise else shown) (breaks s v word base)
    (either (word == v.ring.indices.cons) s v otherwise shown o (record { base = base; at = tt; same = refl; keeps = refl; order = refl; early = late; left = late }))

loop_goes : (v : View) (next : Option Request) (given : FrontAnswer) → v.stage ≡ stage.Loop → next_request v ≡ next → Base v → Goes stage.Loop v (loop_step_as v next given)
loop_goes v (Some r) given here is base = begun_goes v base r is r.transfer refl
loop_goes v None (answer.Word word) here is base =
    let otherwise : View = record v { ring = record v.ring { seen = word }; stage = stage.StoreEvent } in
    either (responses_of v.ring.indices v.ring.seen == 0) stage.Loop v (looked v word otherwise) (at (stage.ResponseHigh word) v)
    (looked_goes stage.Loop v word otherwise base (record { base = base; at = tt; same = refl; keeps = refl; order = refl; early = late; left = late }))
    (on stage.Loop (stage.ResponseHigh word) v refl base tt)
loop_goes v None answer.Event here is base = record { base = base; at = subst (λ (t : FrontStage). At t v) (sym here) tt; same = refl; keeps = refl; order = refl; early = λ e. ap is_early (sym here) ∙ e; left = λ e. ap is_leaving (sym here) ∙ e }
loop_goes v None given here is base = still stage.Loop v here base tt

data_goes : (v : View) (next : Option Request) (n : ℕ) → next_request v ≡ next → Base v → Goes (stage.Data n) v (data_next v next n)
data_goes v None n is base = on (stage.Data n) (stage.Data n) v refl base tt
data_goes v (Some r) n is base =
    let s = stage.Data n in
    either (nat_lt (n + 1) (words_in r)) s v (at (stage.Data (n + 1)) v) (if is_indirect r.count then at (stage.Pages 0) v else grants v r (first_place v r)) (on s (stage.Data (n + 1)) v refl base tt)
    (either (is_indirect r.count) s v (at (stage.Pages 0) v) (grants v r (first_place v r)) (on s (stage.Pages 0) v refl base tt) (grants_goes s v r (first_place v r) base (first_is v r is)))

page_goes : (v : View) (next : Option Request) (n : ℕ) → next_request v ≡ next → Base v → Goes (stage.Pages n) v (page_next v next n)
page_goes v None n is base = on (stage.Pages n) (stage.Pages n) v refl base tt
page_goes v (Some r) n is base =
    let s = stage.Pages n in
    either (nat_lt (n + 1) (naming_words r)) s v (at (stage.Pages (n + 1)) v) (grants v r (first_place v r)) (on s (stage.Pages (n + 1)) v refl base tt) (grants_goes s v r (first_place v r) base (first_is v r is))

-- it is answered
module _ (s : FrontStage) (v : View) (base : Base v) (e : Ending) (own : IsOwn e.request) where
  finished_base : IsBase v.shape.order v.kept (with_all_free v.pool e.request.frames.items) v.requests None v.offers.persistent
  finished_base = record { few = base.few; size = base.size; frames = free_size e.request.frames.items v.pool ∙ base.frames; own = base.own; ends = tt; plain = base.plain }

  pub ended_goes : Goes s v (ended e v)
  ended_goes = by_data (has_data e.request.transfer e.status)
    where
      by_data : (b : Bool) → Goes s v (if b then record v { stage = stage.ReadData 0; told = Some (told.Answer e.request.number e.status) } else record (finished e v) { told = Some (told.Answer e.request.number e.status) })
      by_data true = record { base = base; at = tt; same = refl; keeps = refl; order = refl; early = late; left = late }
      by_data false = record { base = finished_base; at = tt; same = refl; keeps = refl; order = refl; early = late; left = late }

-- a response was read whole
module _ (low high : ℕ) (v : View) (base : Base v) where
  abbrev reading : FrontStage
  reading = stage.ResponseLast low high

  found_own : (o : Option ℕ) → IfSome (found_at v.requests o) (λ (found : ℕ × Request). IsOwn found.1)
  found_own None = tt
  found_own (Some place) = by_request (slice_get v.requests place) refl
    where
      by_request : (x : Option Request) → slice_get v.requests place ≡ x → IfSome (option_map (λ (r : Request). (place, r)) x) (λ (found : ℕ × Request). IsOwn found.1)
      by_request None is = tt
      by_request (Some r) is = subst IsOwn (get_or_from_slice_get v.requests place r r is) (base.own place r (slice_get_within v.requests place r is))

  freed_base : (place : ℕ) (ending : Option Ending) → IfSome ending (λ (e : Ending). IsOwn e.request) → IsBase v.shape.order v.kept v.pool (remove v.requests place) ending v.offers.persistent
  freed_base place ending own = record { few = base.few; size = base.size; frames = base.frames; own = remove_all IsOwn v.requests place base.own; ends = own; plain = base.plain }

  taken_goes : (p : Bool) → v.offers.persistent ≡ p → (place : ℕ) (r : Request) (status : Status) → IsOwn r → Goes reading v (unended p (taken v place r status))
  taken_goes p is place r status own = by_frames p is (length r.frames.items == 0)
    where
      by_frames : (p : Bool) → v.offers.persistent ≡ p → (b : Bool) → Goes reading v (unended p (if b then answered (freed v place) r status else revokes (freed v place) r status))
      by_frames true is true = record { base = freed_base place v.ending base.ends; at = tt; same = refl; keeps = refl; order = refl; early = late; left = late }
      by_frames false is true = record { base = freed_base place v.ending base.ends; at = tt; same = refl; keeps = refl; order = refl; early = late; left = late }
      by_frames true is false = let g = ended_goes reading (revokes (freed v place) r status) (freed_base place (Some (record { request = r; status = status })) own) (record { request = r; status = status }) own in record { base = g.base; at = g.at; same = g.same; keeps = g.keeps; order = g.order; early = g.early; left = g.left }
      by_frames false is false = record { base = freed_base place (Some (record { request = r; status = status })) own; at = is; same = refl; keeps = refl; order = refl; early = late; left = late }

  response_goes : (p : Bool) → v.offers.persistent ≡ p → (x : Result Response ℕ) (o : Option (ℕ × Request)) → IfSome o (λ (found : ℕ × Request). IsOwn found.1) → Goes reading v (unended p (response_at v x low o))
  response_goes true is x None own = breaks reading v low base
  response_goes false is x None own = breaks reading v low base
  response_goes true is (Err word) (Some found) own = breaks reading v word base
  response_goes false is (Err word) (Some found) own = breaks reading v word base
  response_goes p is (Ok response) (Some found) own = taken_goes p is found.0 found.1 response.status own

  pub last_goes : (last : ℕ) → Goes reading v (response_step_as v low high last)
  last_goes last = response_goes v.offers.persistent refl (response_of (low ∷ high ∷ last ∷ [])) (issued v (low + high * 2 ^ 32))
      (found_own (position (λ (r : Request). r.number == low + high * 2 ^ 32) (take (length v.requests - v.waiting) v.requests)))

-- a grant of a request is ended
end_goes : (v : View) (ending : Option Ending) (place before word : ℕ) → v.ending ≡ ending → v.stage ≡ stage.GrantEnd place before → Base v → v.offers.persistent ≡ false → Goes (stage.GrantEnd place before) v (if word == before then revoked ending place v else broken word v)
end_goes v None place before word is here base never = either (word == before) (stage.GrantEnd place before) v v (broken word v) (still (stage.GrantEnd place before) v here base never) (breaks (stage.GrantEnd place before) v word base)
end_goes v (Some e) place before word is here base never =
    let s = stage.GrantEnd place before in
    either (word == before) s v (revoked (Some e) place v) (broken word v)
    (either (nat_lt (place + 1) (length e.request.frames.items)) s v (at (stage.GrantRead (place + 1)) v) (ended e v) (on s (stage.GrantRead (place + 1)) v refl base never)
    (ended_goes s v base e (subst (λ (o : Option Ending). IfSome o (λ (x : Ending). IsOwn x.request)) is base.ends)))
    (breaks s v word base)

-- a word of data was read
module _ (v : View) (base : Base v) (n word : ℕ) where
  abbrev said : Bool → Ending → View
  said b e = if b then record v { words = slice_set v.words (n % 128) word; told = Some (told.Sector e.request.number (n / 128) (slice_set v.words (n % 128) word)) } else record v { words = slice_set v.words (n % 128) word }

  read_goes : (ending : Option Ending) → v.ending ≡ ending → v.stage ≡ stage.ReadData n → Goes (stage.ReadData n) v (data_step ending n word v)
  read_goes None is here = still (stage.ReadData n) v here base tt
  read_goes (Some e) is here = by_tests (nat_lt (n + 1) (words_in e.request)) (n % 128 == 127)
    where
      own : IsOwn e.request
      own = subst (λ (o : Option Ending). IfSome o (λ (x : Ending). IsOwn x.request)) is base.ends

      by_tests : (more whole : Bool) → Goes (stage.ReadData n) v (if more then at (stage.ReadData (n + 1)) (said whole e) else finished e (said whole e))
      by_tests true true = record { base = base; at = tt; same = refl; keeps = refl; order = refl; early = late; left = late }
      by_tests true false = record { base = base; at = tt; same = refl; keeps = refl; order = refl; early = late; left = late }
      by_tests false true = record { base = finished_base (stage.ReadData n) v base e own; at = tt; same = refl; keeps = refl; order = refl; early = late; left = late }
      by_tests false false = record { base = finished_base (stage.ReadData n) v base e own; at = tt; same = refl; keeps = refl; order = refl; early = late; left = late }

  left_goes : (ending : Option Ending) → v.ending ≡ ending → v.stage ≡ stage.LeftData n → v.offers.persistent ≡ false → Goes (stage.LeftData n) v (left_step ending n word v)
  left_goes None is here never = still (stage.LeftData n) v here base never
  left_goes (Some e) is here never = by_tests (nat_lt (n + 1) (words_in e.request)) (n % 128 == 127)
    where
      own : IsOwn e.request
      own = subst (λ (o : Option Ending). IfSome o (λ (x : Ending). IsOwn x.request)) is base.ends

      by_tests : (more whole : Bool) → Goes (stage.LeftData n) v (if more then at (stage.LeftData (n + 1)) (said whole e) else at (stage.RingWord 0) (finished e (said whole e)))
      by_tests true true = record { base = base; at = never; same = refl; keeps = refl; order = refl; early = λ e. refl; left = late }
      by_tests true false = record { base = base; at = never; same = refl; keeps = refl; order = refl; early = λ e. refl; left = late }
      by_tests false true = record { base = finished_base (stage.LeftData n) v base e own; at = never; same = refl; keeps = refl; order = refl; early = λ e. refl; left = late }
      by_tests false false = record { base = finished_base (stage.LeftData n) v base e own; at = never; same = refl; keeps = refl; order = refl; early = λ e. refl; left = late }

-- it leaves
pub kept_goes : (s : FrontStage) (v : View) (o : Option ℕ) → is_leaving s ≡ true → Base v → v.offers.persistent ≡ true → is_through v ≡ true → TakenIs v.kept o → Goes s v (at (kept_stage o) v)
kept_goes s v None leaves base keeps through none = off s stage.ClosePort v leaves refl base none
kept_goes s v (Some frame) leaves base keeps through lowest = off s (stage.KeptRead frame) v leaves refl base (record { keeps = keeps; lowest = lowest; leaves = through })

pub none_below : (kept : List Bool) → kept ≡ empty_pool → NoneBelow kept 1018
none_below kept empty = λ f from to. ap (λ (l : List Bool). is_taken l f) empty ∙ none_kept f (from, to)

ring_left_goes : (s : FrontStage) (v : View) (page : ℕ) → is_leaving s ≡ true → Base v → is_through v ≡ true → Goes s v (at (ring_left_as v page) v)
ring_left_goes s v page leaves base through = by_more (nat_lt (page + 1) (2 ^ v.shape.order)) refl
  where
    by_keeping : (p : Bool) → v.offers.persistent ≡ p → Goes s v (at (if p then kept_stage (taken_from v.kept 18) else stage.ClosePort) v)
    by_keeping true keeps = kept_goes s v (taken_from v.kept 18) leaves base keeps through (taken_is v.kept 18 base.size (omega arith) (λ f from to. absurd (omega arith)))
    by_keeping false never = off s stage.ClosePort v leaves refl base (none_below v.kept (base.plain never))

    by_more : (b : Bool) → nat_lt (page + 1) (2 ^ v.shape.order) ≡ b → Goes s v (at (if b then stage.RingRead (page + 1) else (if v.offers.persistent then kept_stage (taken_from v.kept 18) else stage.ClosePort)) v)
    by_more true e = off s (stage.RingRead (page + 1)) v leaves refl base ((grind (arith, nat_tests)), through)
    by_more false e = by_keeping v.offers.persistent refl

-- the stages at which the kept grants stay as they are
abbrev pub IsCalm : FrontStage → Type 0
IsCalm (stage.GrantFlags place) = ⊥
IsCalm (stage.KeptEnd frame before) = ⊥
IsCalm s = Unit {0}

pub goes : (s : FrontStage) (v : View) (given : FrontAnswer) → v.stage ≡ s → IsCalm s → Base v → At s v → Goes s v (step_as_at s v given)
goes (stage.RingWord k) v given here calm base i = either_at (k == 15) (stage.RingWord k) v (stage.RingFrame 0) (stage.RingWord (k + 1)) (up (stage.RingWord k) (stage.RingFrame 0) v refl refl base (pow_pos v.shape.order, i)) (up (stage.RingWord k) (stage.RingWord (k + 1)) v refl refl base i)
goes (stage.RingFrame page) v given here calm base i = up (stage.RingFrame page) (stage.RingFence page) v refl refl base i
goes (stage.RingFence page) v given here calm base i = up (stage.RingFence page) (stage.RingFlags page) v refl refl base i
goes (stage.RingFlags page) v given here calm base i = by_more (nat_lt (page + 1) (2 ^ v.shape.order)) refl
  where
    by_more : (b : Bool) → nat_lt (page + 1) (2 ^ v.shape.order) ≡ b → Goes (stage.RingFlags page) v (at (if b then stage.RingFrame (page + 1) else stage.NewPort) v)
    by_more true e = up (stage.RingFlags page) (stage.RingFrame (page + 1)) v refl refl base (grind (arith, nat_tests), i.1)
    by_more false e = up (stage.RingFlags page) stage.NewPort v refl refl base i.1
goes stage.NewPort v given here calm base i = up stage.NewPort stage.Initialised v refl refl base i
goes stage.Loop v given here calm base i = loop_goes v (next_request v) given here refl base
goes (stage.Data n) v given here calm base i = data_goes v (next_request v) n refl base
goes (stage.Pages n) v given here calm base i = page_goes v (next_request v) n refl base
goes (stage.GrantFrame place) v given here calm base i = on (stage.GrantFrame place) (stage.GrantFence place) v refl base i
goes (stage.GrantFence place) v given here calm base i = on (stage.GrantFence place) (stage.GrantFlags place) v refl base i
goes (stage.GrantFlags place) v given here calm base i = absurd calm
goes (stage.Slot k) v given here calm base i = either_at (k + 1 == entry_words_of v.shape.abi) (stage.Slot k) v stage.Producer (stage.Slot (k + 1)) (on (stage.Slot k) stage.Producer v refl base i) (on (stage.Slot k) (stage.Slot (k + 1)) v refl base i)
goes stage.Producer v given here calm base i = record { base = base; at = tt; same = refl; keeps = refl; order = refl; early = late; left = late }
goes (stage.ProducerFence old) v given here calm base i = on (stage.ProducerFence old) (stage.RequestEvent old) v refl base tt
goes (stage.RequestEvent old) v (answer.Word event) here calm base i = either_at (notifies old v.ring.indices.prod event) (stage.RequestEvent old) v stage.Send stage.Loop (on (stage.RequestEvent old) stage.Send v refl base tt) (on (stage.RequestEvent old) stage.Loop v refl base tt)
goes stage.Send v given here calm base i = on stage.Send stage.Loop v refl base tt
goes (stage.ResponseHigh low) v (answer.Word high) here calm base i = on (stage.ResponseHigh low) (stage.ResponseLast low high) v refl base tt
goes (stage.ResponseLast low high) v (answer.Word last) here calm base i = last_goes low high v base last
goes (stage.GrantRead place) v (answer.Word word) here calm base i = either (is_mapped word) (stage.GrantRead place) v (broken word v) (at (stage.GrantEnd place word) v) (breaks (stage.GrantRead place) v word base) (on (stage.GrantRead place) (stage.GrantEnd place word) v refl base i)
goes (stage.GrantEnd place before) v (answer.Word word) here calm base i = end_goes v v.ending place before word refl here base i
goes (stage.ReadData n) v (answer.Word word) here calm base i = read_goes v base n word v.ending refl here
goes (stage.LeftData n) v (answer.Word word) here calm base i = left_goes v base n word v.ending refl here i
goes stage.StoreEvent v given here calm base i = on stage.StoreEvent stage.EventFence v refl base tt
goes stage.EventFence v given here calm base i = on stage.EventFence stage.LookAgain v refl base tt
goes stage.LookAgain v (answer.Word word) here calm base i =
    let asleep : View = record v { ring = record v.ring { seen = word; asleep = true }; stage = stage.Loop } in
    looked_goes stage.LookAgain v word asleep base (record { base = base; at = tt; same = refl; keeps = refl; order = refl; early = late; left = late })
goes (stage.RingRead page) v (answer.Word word) here calm base i = either (is_mapped word) (stage.RingRead page) v (broken word v) (at (stage.RingEnd page word) v) (breaks (stage.RingRead page) v word base) (off (stage.RingRead page) (stage.RingEnd page word) v refl refl base i)
goes (stage.RingEnd page before) v (answer.Word word) here calm base i = either (word == before) (stage.RingEnd page before) v (at (ring_left_as v page) v) (broken word v) (ring_left_goes (stage.RingEnd page before) v page refl base i.1) (breaks (stage.RingEnd page before) v word base)
goes (stage.KeptRead frame) v (answer.Word word) here calm base i =
    subst (λ (p : Bool). Goes (stage.KeptRead frame) v (if p then kept_read v frame word else v)) (sym i.keeps)
    (either (is_mapped word) (stage.KeptRead frame) v (broken word v) (at (stage.KeptEnd frame word) v) (breaks (stage.KeptRead frame) v word base) (off (stage.KeptRead frame) (stage.KeptEnd frame word) v refl refl base i))
goes (stage.KeptEnd frame before) v given here calm base i = absurd calm
goes stage.ClosePort v given here calm base i = off stage.ClosePort stage.Left v refl refl base i
goes s v given here calm base i = still s v here base i
