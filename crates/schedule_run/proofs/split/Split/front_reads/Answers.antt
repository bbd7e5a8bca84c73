use Rattle.std.proofs.Common.{◌≡◌, ◌∷◌, [], refl, sym, subst}
use Rattle.blk_base.specs.declared.ask.FrontAsk.{FrontAsk}
use Rattle.blk_base.specs.declared.ask.FrontAsk.TheVariants.{Read}
use Rattle.blk_base.specs.declared.ask.FrontAnswer.TheVariants.{Word}
use Rattle.blk_base.specs.declared.moves.Move.TheVariants.{FrontRead}
use Rattle.schedule_text.specs.declared.line.Line.TheVariants.{Move}
use Rattle.vbd_front.specs.Ask.{ask_of, IsAnswer}
use Rattle.vbd_model.specs.World.{World, frontend_of}
use Rattle.schedule_run.specs.Inside.{world_of}
use Rattle.schedule_run.proofs.Moving.{front_goes_as, front_fit, asked_here, heard_now}
use Rattle.schedule_run.proofs.split.Split.front_reads.Goals as goal

pub invariant_of-self : goal.invariant_of-self
invariant_of-self g c =
    let w : World = world_of c.self.inside.front c.self.inside.back c.self.inside.under in
    let ask = Read c.args.frame c.args.word in
    let asked = subst (λ (x : World). ask ≡ ask_of (frontend_of x)) (sym c.self.view_is) c.requires.asked in
    let answer = Word c.read_front.result in
    front_fit w ask (answer, FrontRead c.args.frame c.args.word c.read_front.result) c.tell.new.self c.follow_told.new.front w.rings.under c.self.invariant.1
    asked (rw c.read_front.ensures refl) refl (heard_now c.self.inside.front c.tell.new.self answer c.self.invariant.0 c.tell.ensures.completed) c.follow_told.ensures.taken

pub returns : goal.returns
returns g c =
    let w : World = world_of c.self.inside.front c.self.inside.back c.self.inside.under in
    let ask = Read c.args.frame c.args.word in
    let answer = Word c.read_front.result in
    let shown = FrontRead c.args.frame c.args.word c.read_front.result in
    let asked = subst (λ (x : World). ask ≡ ask_of (frontend_of x)) (sym c.self.view_is) c.requires.asked in
    rw (← c.self.view_is) (λ disk. front_goes_as w ask (answer, shown) c.tell.new.self c.follow_told.new.front w.rings.under disk _ _ c.follow_told.result c.self.invariant.1
    asked (rw c.read_front.ensures refl) refl (heard_now c.self.inside.front c.tell.new.self answer c.self.invariant.0 c.tell.ensures.completed) c.follow_told.ensures.taken
    (c.follow_told.ensures.lines (Move shown ∷ []) _ c.show_front-shown.ensures))

-- what it is told answers what it asked
pub tell-requires : goal.tell-requires
tell-requires g c =
    let w : World = world_of c.self.inside.front c.self.inside.back c.self.inside.under in
    let ask = Read c.args.frame c.args.word in
    let asked = subst (λ (x : World). ask ≡ ask_of (frontend_of x)) (sym c.self.view_is) c.requires.asked in
    (subst (λ (a : FrontAsk). IsAnswer a (Word c.read_front.result)) (asked_here c.self.inside.front ask c.self.invariant.0 asked) tt, c.self.invariant.1.safe.front_told)
