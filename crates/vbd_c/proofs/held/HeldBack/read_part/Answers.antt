use Rattle.std.proofs.Common.{◌≡◌, true, false, length, refl, ap, subst, sym, ◌∙◌, rules}
use Rattle.std.specs.Prelude.{is_some}
use Rattle.back_jobs.specs.Part.{words_read, IsReadPart}
use Rattle.vbd_back.specs.Keeping.{KeepingView}
use Rattle.vbd_c.specs.Inside.{view_of}
use Rattle.vbd_c.specs.Part.{part_of, takes, answered_each, part_answered, ArePartAnswered}
use Rattle.vbd_c.specs.View.{View}
use Rattle.vbd_c.proofs.PartMoves.{part_done, part_held, part_taken, read_allowed}
use Rattle.vbd_c.proofs.held.HeldBack.read_part.Goals.{After-job_tell_read}
use Rattle.vbd_c.proofs.held.HeldBack.read_part.Goals as goal

quiet : (c : After-job_tell_read) → is_some c.self.inside.told ≡ false
quiet c = sym c.is_some.ensures ∙ c.if-is_some.false

taken : (c : After-job_tell_read) → takes (part_of (view_of c.self.inside) c.args.job) false (length c.args.words.now) ≡ true
taken c =
    let now : takes c.part.result false (length c.args.words.now) ≡ true = search rules in
    subst (λ (v : View). takes (part_of v c.args.job) false (length c.args.words.now) ≡ true) (sym c.self.view_is) (ap (λ o. takes o false (length c.args.words.now)) (sym c.part.ensures.value) ∙ now)

done : (c : After-job_tell_read) → record (view_of c.self.inside) { back = c.job_tell_read.new.self } ≡ answered_each (view_of c.self.inside) c.args.job (words_read c.args.words.now)
done c =
    let v : View = view_of c.self.inside in
    part_done v (record v { back = c.job_tell_read.new.self }) c.args.job false (length c.args.words.now) (words_read c.args.words.now) (quiet c) (taken c) (ap (λ (b : KeepingView). record v { back = b }) c.job_tell_read.ensures.stepped) c.job_tell_read.ensures.each

pub returns-clause-held : goal.returns-clause-held
returns-clause-held c =
    let w = (goal.at.returns-clause-held c).After-job_tell_read in
    let v : View = view_of c.self.inside in
    part_held v (record v { back = c.job_tell_read.new.self }) c.args.job false (length c.args.words.now) (words_read c.args.words.now) (quiet w) (taken w) (done w)
    ∙ ap (λ (u : View). part_answered u c.args.job false (length c.args.words.now) (words_read c.args.words.now)) c.self.view_is

pub returns-clause-answered : goal.returns-clause-answered
returns-clause-answered c =
    let w = (goal.at.returns-clause-answered c).After-job_tell_read in
    let v : View = view_of c.self.inside in
    let new : View = record v { back = c.job_tell_read.new.self } in
    subst (λ (u : View). ArePartAnswered u c.args.job (λ part. IsReadPart part (length c.args.words.now)) (words_read c.args.words.now) new) c.self.view_is
    (part_taken v new c.args.job (λ part. IsReadPart part (length c.args.words.now)) (words_read c.args.words.now) (read_allowed (part_of v c.args.job) (length c.args.words.now) (taken w)) (done w) c.job_tell_read.ensures.hands refl)
