-- A back has room for the jobs of the largest ring, and never more than 16 pages.
use Rattle.std.proofs.Common.{◌≡◌, ℕ, ◌+◌, ◌^◌, ◌≤◌, Bool, true, false, if◌then◌else◌, List, [], ◌∷◌, ◌++◌, length, refl, sym, ◌∙◌, subst, arith, length-append}
use Rattle.std.specs.Prelude.{Option, Some, None, ◌==◌}
use Rattle.std.proofs.Math.Nat.{pow-le-pow_right}
use Rattle.blk_base.specs.declared.parts.Mapping.{Mapping}
use Rattle.blk_base.specs.declared.ask.BackAnswer.{BackAnswer}
use Rattle.blk_base.specs.declared.ask.BackAnswer.TheVariants as answer
use Rattle.ring_words.specs.Ring.{requests_of, overruns}
use Rattle.ring_words.specs.Shape.{Shape, entries_of, entry_words_of}
use Rattle.blk_base.specs.declared.halt.Halt.{Halt}
use Rattle.blk_back.specs.declared.stage.Reply.{Reply}
use Rattle.blk_back.specs.declared.stage.BackStage.{BackStage}
use Rattle.blk_back.specs.declared.stage.BackStage.TheVariants as stage
use Rattle.blk_back.specs.View.{View}
use Rattle.blk_back.specs.Ask.{next_reply}
use Rattle.blk_back.specs.Step.{other_pages, attaches, halts, overrun, looked, loop_step, fetched, step_at, step_of}
use Rattle.blk_back.specs.Sound.{IsMapped}
use Rattle.back_laws.proofs.Calls.{halts_cases, attaches_cases, attaches_order}

pub record IsFew (v : View) : Type 0 where
  pub order : v.shape.order ≤ 4
  pub room : v.jobs.room ≡ entries_of 4
  pub pages : length v.pages ≤ 16

-- its shape and its room stay, and it has no page more
record Stays (v w : View) : Type 0 where
  shape : w.shape ≡ v.shape
  room : w.jobs.room ≡ v.jobs.room
  pages : length w.pages ≤ length v.pages

stays_few : (v w : View) → Stays v w → IsFew v → IsFew w
stays_few v w s f = record {
  order = subst (λ (x : Shape). x.order ≤ 4) (sym s.shape) f.order;
  room = s.room ∙ f.room;
  pages = let fewer = s.pages in let few = f.pages in omega arith;
}

as_it_is : (v : View) → Stays v v
as_it_is v = record { shape = refl; room = refl; pages = omega arith }

either : (b : Bool) (v x y : View) → Stays v x → Stays v y → Stays v (if b then x else y)
either true v x y p q = p
either false v x y p q = q

looked_stays : (v : View) (word : ℕ) (otherwise : View) → Stays v otherwise → Stays v (looked v word otherwise)
looked_stays v word otherwise s =
    either (overruns v.ring.indices word) v (overrun v word) (if word == v.ring.indices.cons then otherwise else record v { ring = record v.ring { seen = word }; stage = stage.Loop })
    (record { shape = refl; room = refl; pages = omega arith })
    (either (word == v.ring.indices.cons) v otherwise (record v { ring = record v.ring { seen = word }; stage = stage.Loop }) s (record { shape = refl; room = refl; pages = omega arith }))

loop_stays : (next : Option Reply) (v : View) (given : BackAnswer) → Stays v (loop_step v next given)
loop_stays (Some r) v given = record { shape = refl; room = refl; pages = omega arith }
loop_stays None v (answer.Word word) =
    either (requests_of v.ring.indices v.ring.seen == 0) v (looked v word (record v { ring = record v.ring { seen = word }; stage = stage.StoreEvent })) (record v { ring = record v.ring { entry = word ∷ [] }; stage = stage.Fetch 1 })
    (looked_stays v word (record v { ring = record v.ring { seen = word }; stage = stage.StoreEvent }) (record { shape = refl; room = refl; pages = omega arith }))
    (record { shape = refl; room = refl; pages = omega arith })
loop_stays None v answer.Event = record { shape = refl; room = refl; pages = omega arith }
loop_stays None v given = as_it_is v

fewer_pages : (pages : List Mapping) → length (other_pages pages) ≤ length pages
fewer_pages [] = omega arith
fewer_pages (page ∷ pages) = omega arith

stays_at : (s : BackStage) (v : View) (given : BackAnswer) → (s ≡ stage.MapRing → (m : Mapping) → given ≡ answer.Mapped m → ⊥) → Stays v (step_at s v given)
stays_at stage.MapRing v (answer.Mapped m) other = absurd (other refl m refl)
stays_at stage.MapRing v (answer.MapRefused status) other = record { shape = refl; room = refl; pages = omega arith }
stays_at stage.Bind v answer.Done other = record { shape = refl; room = refl; pages = omega arith }
stays_at stage.Bind v answer.BindRefused other = record { shape = refl; room = refl; pages = omega arith }
stays_at stage.Loop v given other = loop_stays (next_reply v) v given
stays_at (stage.Fetch k) v (answer.Word word) other =
    either (k + 1 == entry_words_of v.shape.abi) v (fetched v (v.ring.entry ++ word ∷ [])) (record v { ring = record v.ring { entry = v.ring.entry ++ word ∷ [] }; stage = stage.Fetch (k + 1) })
    (record { shape = refl; room = refl; pages = omega arith }) (record { shape = refl; room = refl; pages = omega arith })
stays_at (stage.ReplyHigh r) v given other = record { shape = refl; room = refl; pages = omega arith }
stays_at (stage.ReplyLast r) v given other = record { shape = refl; room = refl; pages = omega arith }
stays_at (stage.Producer r) v given other = record { shape = refl; room = refl; pages = omega arith }
stays_at (stage.ProducerFence old) v given other = record { shape = refl; room = refl; pages = omega arith }
stays_at (stage.ResponseEvent old) v (answer.Word event) other = record { shape = refl; room = refl; pages = omega arith }
stays_at stage.Send v given other = record { shape = refl; room = refl; pages = omega arith }
stays_at stage.StoreEvent v given other = record { shape = refl; room = refl; pages = omega arith }
stays_at stage.EventFence v given other = record { shape = refl; room = refl; pages = omega arith }
stays_at stage.LookAgain v (answer.Word word) other = looked_stays v word (record v { ring = record v.ring { seen = word; asleep = true }; stage = stage.Loop }) (record { shape = refl; room = refl; pages = omega arith })
stays_at (stage.Abort m) v given other = record { shape = refl; room = refl; pages = omega arith }
stays_at stage.UnmapRing v given other = record { shape = refl; room = refl; pages = fewer_pages v.pages }
stays_at stage.ClosePort v given other = record { shape = refl; room = refl; pages = omega arith }
stays_at stage.UnmapUnbound v given other = record { shape = refl; room = refl; pages = fewer_pages v.pages }
stays_at s v given other = as_it_is v

step_few : (s : BackStage) (v : View) (given : BackAnswer) → IsMapped s v.shape.order v.grefs v.pages → IsFew v → IsFew (step_at s v given)
step_few stage.MapRing v (answer.Mapped m) pages f =
    let longer : length (v.pages ++ m ∷ []) ≡ length v.pages + 1 = length-append v.pages (m ∷ []) in
    let all : 2 ^ v.shape.order ≤ 2 ^ 4 = pow-le-pow_right (omega arith) f.order in
    let few = pages.1 in
    record { order = f.order; room = f.room; pages = omega arith }
step_few stage.MapRing v given pages f = stays_few v (step_at stage.MapRing v given) (stays_at stage.MapRing v given (λ e m made. absurd (cc))) f
step_few s v given pages f = stays_few v (step_at s v given) (stays_at s v given (λ e m made. absurd (cc))) f

pub answered_few : (v : View) (given : BackAnswer) → IsMapped v.stage v.shape.order v.grefs v.pages → IsFew v → IsFew (step_of v given)
answered_few v given pages f = step_few v.stage v given pages f

pub halts_few : (why : Halt) (v : View) → IsFew v → IsFew (halts why v)
halts_few why v f = halts_cases (λ (w : View). IsFew w) why v (λ e. record { order = f.order; room = f.room; pages = f.pages }) (λ e. record { order = f.order; room = f.room; pages = f.pages }) f

pub attached_few : (shape : Shape) (grefs : List ℕ) (port : ℕ) (v : View) → IsFew v → IsFew (attaches shape grefs port v)
attached_few shape grefs port v f = attaches_cases (λ (w : View). IsFew w) shape grefs port v (λ may. record { order = attaches_order shape grefs v may; room = f.room; pages = f.pages }) f
