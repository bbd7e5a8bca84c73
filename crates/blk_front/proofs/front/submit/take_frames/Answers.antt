use Rattle.std.proofs.Common.{◌≡◌, ◌+◌, ◌-◌, ℕ, suc, Bool, List, ◌∷◌, ◌++◌, [], ap, sym, ◌∙◌, arith, rules}
use Rattle.std.specs.Prelude.{Some, option_and_then}
use Rattle.std.proofs.lemmas.Grind.{common_steps}
use Rattle.blk_front.specs.Pool.{taking, lowest_of, with_taken}
use Rattle.blk_front.proofs.front.submit.take_frames.Goals as goal

-- one frame more is taken
one_more : (n left : ℕ) (pool after : List Bool) (frames more : List ℕ) (frame : ℕ) → n ≡ suc left → lowest_of pool ≡ Some frame → after ≡ with_taken pool frame → more ≡ frames ++ frame ∷ [] → taking left after more ≡ taking n pool frames
one_more n left pool after frames more frame next low is grown = rw (next, is, grown) (sym (ap (option_and_then (λ (f : ℕ). taking left (with_taken pool f) (frames ++ f ∷ []))) low))

pub loop-preserved : goal.loop-preserved
loop-preserved c =
    let needed = c.args.needed in
    let counter = c.loop.counter in
    let next : needed - counter ≡ suc (needed - (counter + 1)) = omega arith in
    let low : lowest_of c.loop.pool ≡ Some c.in_ok-frame.frame = search rules in
    record {
      taken = one_more (needed - counter) (needed - (counter + 1)) c.loop.pool c.take.new.self c.loop.frames.items c.push.new.self.items c.in_ok-frame.frame next low c.take.ensures c.push.ensures ∙ c.loop.invariant.taken;
      count = grind (arith, common_steps);
    }
