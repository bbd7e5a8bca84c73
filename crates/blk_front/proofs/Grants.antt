-- A frame of the request that is issued next was granted, and the next one is.
use Rattle.std.proofs.Common.{◌≡◌, ℕ, ◌+◌, ap, sym, ◌∙◌, subst}
use Rattle.std.specs.Prelude.{Option, Some, IfSome}
use Rattle.blk_front.specs.declared.request.Request.{Request}
use Rattle.blk_front.specs.Request.{frame_at}
use Rattle.blk_front.specs.View.{View, next_request}
use Rattle.blk_front.specs.Keep.{grants, next_place, with_grant, granted_as}

abbrev Next : (place : ℕ) → (x u : View) → Request → Type 0
Next place x u r = x ≡ grants u r (next_place u r (place + 1))

pub granted_then : (v w x : View) (r : Request) (place frame : ℕ) → Some r ≡ next_request v → frame ≡ frame_at r place → w ≡ with_grant v frame → IfSome (next_request w) (Next place x w) → x ≡ granted_as (next_request v) place v
granted_then v w x r place frame next is kept then =
    let u : View = with_grant v (frame_at r place) in
    let there : w ≡ u = kept ∙ ap (with_grant v) is in
    let moved : IfSome (next_request v) (Next place x u) = subst (λ (s : View). IfSome (next_request s) (Next place x s)) there then in
    let here : Next place x u r = subst (λ (o : Option Request). IfSome o (Next place x u)) (sym next) moved in
    here ∙ ap (λ (o : Option Request). granted_as o place v) next
