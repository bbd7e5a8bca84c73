-- A front that keeps no grants is the plain one.
use Rattle.std.proofs.Common.{◌≡◌, ℕ, ◌+◌, Bool, true, false, length, refl, ap, ◌∙◌}
use Rattle.std.specs.Prelude.{Option, Some, None, if◌then◌else◌, nat_lt}
use Rattle.blk_base.specs.declared.ask.FrontAnswer.{FrontAnswer}
use Rattle.blk_base.specs.declared.ask.FrontAnswer.TheVariants as answer
use Rattle.blk_front.specs.declared.request.Request.{Request}
use Rattle.blk_front.specs.declared.request.Transfer.{Transfer}
use Rattle.blk_front.specs.declared.request.Transfer.TheVariants as transfer
use Rattle.blk_front.specs.declared.stage.FrontStage.{FrontStage}
use Rattle.blk_front.specs.declared.stage.FrontStage.TheVariants as stage
use Rattle.blk_front.specs.Request.{words_in, naming_words, is_indirect, frame_at}
use Rattle.blk_front.specs.Pool.{with_taken}
use Rattle.blk_front.specs.View.{View, next_request}
use Rattle.blk_front.specs.Ask.{ask_at, ask_of, loop_ask, issue_ask, grant_ask}
use Rattle.blk_front.specs.Submit.{is_idle}
use Rattle.blk_front.specs.Step.{at, step_at, step_of, begun, loop_step, data_stage, page_stage, after_data, granted, entered, response_step}
use Rattle.blk_front.specs.Keep.{ask_as_at, ask_as, is_idle_as, loop_ask_as, issue_ask_as, grant_ask_as, begun_as, loop_step_as, ungranted, first_place, data_next, page_next, with_grant, granted_as, grants, next_place, unended, step_as_at, step_as}

plain_issue : (v : View) (r : Request) (way : Transfer) → v.offers.persistent ≡ false → issue_ask_as v r way ≡ issue_ask v r way
plain_issue v r transfer.Read never = rw never refl
plain_issue v r way never = refl

plain_loop : (v : View) (next : Option Request) → v.offers.persistent ≡ false → loop_ask_as v next ≡ loop_ask v next
plain_loop v None never = refl
plain_loop v (Some r) never = plain_issue v r r.transfer never

plain_grant : (next : Option Request) (place : ℕ) → grant_ask_as false next place ≡ grant_ask next place
plain_grant None place = refl
plain_grant (Some r) place = refl

plain_asks : (s : FrontStage) (v : View) → v.offers.persistent ≡ false → ask_as_at s v ≡ ask_at s v
plain_asks stage.Loop v never = plain_loop v (next_request v) never
plain_asks (stage.GrantFlags place) v never = rw never (plain_grant (next_request v) place)
plain_asks (stage.KeptRead frame) v never = rw never refl
plain_asks (stage.KeptEnd frame seen) v never = rw never refl
plain_asks s v never = refl

pub plain_ask : (v : View) → v.offers.persistent ≡ false → ask_as v ≡ ask_of v
plain_ask v never = plain_asks v.stage v never

pub plain_idle : (v : View) → v.offers.persistent ≡ false → is_idle_as v ≡ is_idle v
plain_idle v never = rw (plain_ask v never) refl

-- the stage is chosen, or the front at it
either_at : (b : Bool) (v : View) (one other : FrontStage) → (if b then at one v else at other v) ≡ at (if b then one else other) v
either_at true v one other = refl
either_at false v one other = refl

plain_first : (v : View) (r : Request) → v.offers.persistent ≡ false → first_place v r ≡ Some 0
plain_first v r never = ap (λ (b : Bool). if b then ungranted v r 0 else Some 0) never

plain_begun : (v : View) (r : Request) (way : Transfer) → v.offers.persistent ≡ false → begun_as v r way ≡ begun v r way
plain_begun v r transfer.Read never = rw (plain_first v r never) (either_at (is_indirect r.count) v (stage.Pages 1) (stage.GrantFence 0))
plain_begun v r way never = refl

plain_loops : (v : View) (next : Option Request) (a : FrontAnswer) → v.offers.persistent ≡ false → loop_step_as v next a ≡ loop_step v next a
plain_loops v None a never = refl
plain_loops v (Some r) a never = plain_begun v r r.transfer never

plain_data : (v : View) (next : Option Request) (n : ℕ) → v.offers.persistent ≡ false → data_next v next n ≡ at (data_stage next n) v
plain_data v None n never = refl
plain_data v (Some r) n never = rw (plain_first v r never, either_at (is_indirect r.count) v (stage.Pages 0) (stage.GrantFrame 0)) (either_at (nat_lt (n + 1) (words_in r)) v (stage.Data (n + 1)) (after_data r))

plain_pages : (v : View) (next : Option Request) (n : ℕ) → v.offers.persistent ≡ false → page_next v next n ≡ at (page_stage next n) v
plain_pages v None n never = refl
plain_pages v (Some r) n never = rw (plain_first v r never) (either_at (nat_lt (n + 1) (naming_words r)) v (stage.Pages (n + 1)) (stage.GrantFrame 0))

plain_granted : (v : View) (next : Option Request) (place : ℕ) → v.offers.persistent ≡ false → granted_as next place v ≡ granted next place v
plain_granted v None place never = refl
plain_granted v (Some r) place never =
    ap (λ (w : View). grants w r (next_place w r (place + 1))) same ∙ (ap (grants v r) next ∙ by_more (nat_lt (place + 1) (length r.frames.items)))
  where
    same : with_grant v (frame_at r place) ≡ v
    same = ap (λ (b : Bool). record v { kept = if b then with_taken v.kept (frame_at r place) else v.kept }) never

    next : next_place v r (place + 1) ≡ (if nat_lt (place + 1) (length r.frames.items) then Some (place + 1) else None)
    next = ap (λ (b : Bool). if b then ungranted v r (place + 1) else (if nat_lt (place + 1) (length r.frames.items) then Some (place + 1) else None)) never

    by_more : (b : Bool) → grants v r (if b then Some (place + 1) else None) ≡ (if b then at (stage.GrantFrame (place + 1)) v else entered v r (stage.Slot 0))
    by_more true = refl
    by_more false = refl

plain_steps : (s : FrontStage) (v : View) (a : FrontAnswer) → v.offers.persistent ≡ false → step_as_at s v a ≡ step_at s v a
plain_steps stage.Loop v a never = plain_loops v (next_request v) a never
plain_steps (stage.Data n) v a never = plain_data v (next_request v) n never
plain_steps (stage.Pages n) v a never = plain_pages v (next_request v) n never
plain_steps (stage.GrantFlags place) v a never = plain_granted v (next_request v) place never
plain_steps (stage.ResponseLast low high) v (answer.Word last) never = ap (λ (b : Bool). unended b (response_step v low high last)) never
plain_steps (stage.RingEnd page before) v (answer.Word word) never = rw never refl
plain_steps (stage.KeptRead frame) v (answer.Word word) never = rw never refl
plain_steps (stage.KeptEnd frame before) v (answer.Word word) never = rw never refl
plain_steps s v a never = refl

pub plain_step : (v : View) (a : FrontAnswer) → v.offers.persistent ≡ false → step_as v a ≡ step_of v a
plain_step v a never = plain_steps v.stage v a never
