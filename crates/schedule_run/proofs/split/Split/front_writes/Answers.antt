use Rattle.std.proofs.Common.{◌≡◌, ◌∷◌, [], refl, sym, subst}
use Rattle.blk_base.specs.declared.ask.FrontAsk.{FrontAsk}
use Rattle.blk_base.specs.declared.ask.FrontAsk.TheVariants.{Write}
use Rattle.blk_base.specs.declared.ask.FrontAnswer.TheVariants.{Done}
use Rattle.blk_base.specs.declared.moves.Move.TheVariants.{FrontWrite}
use Rattle.schedule_text.specs.declared.line.Line.TheVariants.{Move}
use Rattle.vbd_front.specs.Ask.{ask_of, IsAnswer}
use Rattle.vbd_model.specs.World.{World, frontend_of}
use Rattle.schedule_run.specs.Inside.{world_of}
use Rattle.schedule_run.proofs.Moving.{front_goes_as, front_fit, asked_here, heard_now}
use Rattle.schedule_run.proofs.split.Split.front_writes.Goals as goal

pub invariant_of-self : goal.invariant_of-self
invariant_of-self g c =
    let w : World = world_of c.self.inside.front c.self.inside.back c.self.inside.under in
    let ask = Write c.args.frame c.args.word c.args.value in
    let asked = subst (λ (x : World). ask ≡ ask_of (frontend_of x)) (sym c.self.view_is) c.requires.asked in
    front_fit w ask (Done, FrontWrite c.args.frame c.args.word c.args.value) c.tell.new.self c.follow_told.new.front c.write_front.new.self c.self.invariant.1
    asked refl c.write_front.ensures (heard_now c.self.inside.front c.tell.new.self Done c.self.invariant.0 c.tell.ensures.completed) c.follow_told.ensures.taken

pub returns : goal.returns
returns g c =
    let w : World = world_of c.self.inside.front c.self.inside.back c.self.inside.under in
    let ask = Write c.args.frame c.args.word c.args.value in
    let shown = FrontWrite c.args.frame c.args.word c.args.value in
    let asked = subst (λ (x : World). ask ≡ ask_of (frontend_of x)) (sym c.self.view_is) c.requires.asked in
    rw (← c.self.view_is) (λ disk. front_goes_as w ask (Done, shown) c.tell.new.self c.follow_told.new.front c.write_front.new.self disk _ _ c.follow_told.result c.self.invariant.1
    asked refl c.write_front.ensures (heard_now c.self.inside.front c.tell.new.self Done c.self.invariant.0 c.tell.ensures.completed) c.follow_told.ensures.taken
    (c.follow_told.ensures.lines (Move shown ∷ []) _ c.show_front-shown.ensures))

-- what it is told answers what it asked
pub tell-requires : goal.tell-requires
tell-requires g c =
    let w : World = world_of c.self.inside.front c.self.inside.back c.self.inside.under in
    let ask = Write c.args.frame c.args.word c.args.value in
    let asked = subst (λ (x : World). ask ≡ ask_of (frontend_of x)) (sym c.self.view_is) c.requires.asked in
    (subst (λ (a : FrontAsk). IsAnswer a Done) (asked_here c.self.inside.front ask c.self.invariant.0 asked) tt, c.self.invariant.1.safe.front_told)
