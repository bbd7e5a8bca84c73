use Rattle.std.proofs.Common.{◌≡◌, ◌<◌, length, refl, sym, ap, ◌∙◌, subst, rules}
use Rattle.std.specs.Prelude.{Some, slice_get}
use Rattle.std.specs.Option.{IsSomeAnd}
use Rattle.std.proofs.lemmas.Option.{slice_get_read}
use Rattle.back_jobs.specs.Jobs.{HeldJobs, place_of}
use Rattle.back_jobs.specs.Keeping.{all_hands}
use Rattle.back_jobs.specs.Part.{part_of, told_each, words_written, IsPassedPart}
use Rattle.back_jobs.proofs.Spare.{told_shared}
use Rattle.back_jobs.proofs.Parts.{Ran, ran_writes, part_there, moved_kept, moved_first, moved_keeping, moved_hands}
use Rattle.back_jobs.proofs.jobs.Jobs.pass_words.Goals.{After-pass_words}
use Rattle.back_jobs.proofs.jobs.Jobs.pass_words.Goals as goal

abbrev jobs : (c : After-pass_words) → HeldJobs
jobs c = record { works = c.self.inside.held.items; room = c.self.inside.room; info = c.self.inside.info; kept = c.self.inside.kept.value }

found : (c : After-pass_words) → place_of c.self.inside.held.items c.args.number ≡ Some c.in-Some.place
found c =
    let there : place_of c.args.self.now.works c.args.number ≡ Some c.in-Some.place = search rules in
    ap (λ (h : HeldJobs). place_of h.works c.args.number) c.self.view_is ∙ there

within : (c : After-pass_words) → c.in-Some.place < length c.self.inside.held.items
within c = search rules

here : (c : After-pass_words) → slice_get c.self.inside.held.items c.in-Some.place ≡ Some c.index_mut.result.now
here c = slice_get_read c.self.inside.held.items (length c.self.inside.held.items) c.in-Some.place c.index_mut.result.now refl (within c) c.index_mut.ensures.value

asked : (c : After-pass_words) → IsSomeAnd (part_of (jobs c) c.args.number) (λ part. IsPassedPart part c.args.count)
asked c = subst (λ (h : HeldJobs). IsSomeAnd (part_of h c.args.number) (λ part. IsPassedPart part c.args.count)) (sym c.self.view_is) c.requires

moves : (c : After-pass_words) → Ran (jobs c) c.args.number c.in-Some.place c.index_mut.result.now c.pass_words.new.self (words_written c.args.count)
moves c = ran_writes (jobs c) c.args.number c.in-Some.place c.index_mut.result.now c.pass_words.new.self c.args.count (found c) (here c) (asked c) c.pass_words.ensures

pub pass_words-requires : goal.pass_words-requires
pass_words-requires c =
    let works = c.self.inside.held.items in
    let now : HeldJobs = record { works = works; room = c.self.inside.room; info = c.self.inside.info; kept = c.self.inside.kept.value } in
    let place_is : place_of c.args.self.now.works c.args.number ≡ Some c.in-Some.place = search rules in
    let number_at = ap (λ (h : HeldJobs). place_of h.works c.args.number) c.self.view_is ∙ place_is in
    let job_at = slice_get_read works (length works) c.in-Some.place c.index_mut.result.now refl (search rules) c.index_mut.ensures.value in
    let requires_now = subst (λ (h : HeldJobs). IsSomeAnd (part_of h c.args.number) (λ part. IsPassedPart part c.args.count)) (sym c.self.view_is) c.requires in
    (part_there now c.args.number c.in-Some.place c.index_mut.result.now (λ part. IsPassedPart part c.args.count) number_at job_at requires_now).1

pub invariant_of-self : goal.invariant_of-self
invariant_of-self c =
    let w = (goal.at.invariant_of-self c).After-pass_words in let r = moves w in let at = here w in
    let works = c.self.inside.held.items in let t = c.index_mut.result.now in let u = c.pass_words.new.self in (
      moved_kept _ _ _ _ _ _ _ works c.in-Some.place r.mapping t u c.self.invariant.0 at r.moves,
      moved_first works c.in-Some.place r.mapping t u _ _ c.self.invariant.1 at r.moves,
      told_shared _ _ _ _ works c.in-Some.place t u at r.moves.facts c.self.invariant.2,
      moved_keeping _ works c.in-Some.place r.mapping t u c.self.invariant.3 at r.moves,
      c.self.invariant.4,
    )

pub returns-in-Some-clause-completed : goal.returns-in-Some-clause-completed
returns-in-Some-clause-completed c =
    let w = (goal.at.returns-in-Some-clause-completed c).After-pass_words in
    (moves w).told ∙ ap (λ (h : HeldJobs). told_each h c.args.number (words_written c.args.count)) c.self.view_is

pub returns-in-Some-clause-hands : goal.returns-in-Some-clause-hands
returns-in-Some-clause-hands c =
    let w = (goal.at.returns-in-Some-clause-hands c).After-pass_words in
    let r = moves w in
    moved_hands (jobs w) c.in-Some.place r.mapping c.index_mut.result.now c.pass_words.new.self (here w) r.moves
    ∙ ap (λ (h : HeldJobs). all_hands h) c.self.view_is
