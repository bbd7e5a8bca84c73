use Rattle.std.proofs.Common.{◌≡◌, ◌<◌, length, refl, sym, ap, ◌∙◌, subst, rules}
use Rattle.std.specs.Prelude.{Some, slice_get}
use Rattle.std.specs.Option.{IsSomeAnd}
use Rattle.std.proofs.lemmas.Option.{slice_get_read}
use Rattle.back_jobs.specs.Jobs.{HeldJobs, place_of}
use Rattle.back_jobs.specs.Keeping.{all_hands}
use Rattle.back_jobs.specs.Part.{part_of, told_each, words_read, IsReadPart}
use Rattle.back_jobs.proofs.Spare.{told_shared}
use Rattle.back_jobs.proofs.Parts.{Ran, ran_reads, part_there, moved_kept, moved_first, moved_keeping, moved_hands, job_reads, no_effects}
use Rattle.back_jobs.proofs.jobs.Jobs.tell_read.Goals.{After-read_words}
use Rattle.back_jobs.proofs.jobs.Jobs.tell_read.Goals as goal

abbrev jobs : (c : After-read_words) → HeldJobs
jobs c = record { works = c.self.inside.held.items; room = c.self.inside.room; info = c.self.inside.info; kept = c.self.inside.kept.value }

found : (c : After-read_words) → place_of c.self.inside.held.items c.args.number ≡ Some c.in-Some.place
found c =
    let there : place_of c.args.self.now.works c.args.number ≡ Some c.in-Some.place = search rules in
    ap (λ (h : HeldJobs). place_of h.works c.args.number) c.self.view_is ∙ there

within : (c : After-read_words) → c.in-Some.place < length c.self.inside.held.items
within c = search rules

here : (c : After-read_words) → slice_get c.self.inside.held.items c.in-Some.place ≡ Some c.index_mut.result.now
here c = slice_get_read c.self.inside.held.items (length c.self.inside.held.items) c.in-Some.place c.index_mut.result.now refl (within c) c.index_mut.ensures.value

asked : (c : After-read_words) → IsSomeAnd (part_of (jobs c) c.args.number) (λ part. IsReadPart part (length c.args.words.now))
asked c = subst (λ (h : HeldJobs). IsSomeAnd (part_of h c.args.number) (λ part. IsReadPart part (length c.args.words.now))) (sym c.self.view_is) c.requires

moves : (c : After-read_words) → Ran (jobs c) c.args.number c.in-Some.place c.index_mut.result.now c.read_words.new.self (words_read c.args.words.now)
moves c = ran_reads (jobs c) c.args.number c.in-Some.place c.index_mut.result.now c.read_words.new.self c.args.words.now (found c) (here c) (asked c) c.read_words.ensures

pub read_words-requires : goal.read_words-requires
read_words-requires c =
    let works = c.self.inside.held.items in
    let now : HeldJobs = record { works = works; room = c.self.inside.room; info = c.self.inside.info; kept = c.self.inside.kept.value } in
    let place_is : place_of c.args.self.now.works c.args.number ≡ Some c.in-Some.place = search rules in
    let number_at = ap (λ (h : HeldJobs). place_of h.works c.args.number) c.self.view_is ∙ place_is in
    let job_at = slice_get_read works (length works) c.in-Some.place c.index_mut.result.now refl (search rules) c.index_mut.ensures.value in
    let requires_now = subst (λ (h : HeldJobs). IsSomeAnd (part_of h c.args.number) (λ part. IsReadPart part (length c.args.words.now))) (sym c.self.view_is) c.requires in
    (part_there now c.args.number c.in-Some.place c.index_mut.result.now (λ part. IsReadPart part (length c.args.words.now)) number_at job_at requires_now).1

pub invariant_of-self : goal.invariant_of-self
invariant_of-self c =
    let w = (goal.at.invariant_of-self c).After-read_words in let r = moves w in let at = here w in
    let works = c.self.inside.held.items in let t = c.index_mut.result.now in let u = c.read_words.new.self in (
      moved_kept _ _ _ _ _ _ _ works c.in-Some.place r.mapping t u c.self.invariant.0 at r.moves,
      moved_first works c.in-Some.place r.mapping t u _ _ c.self.invariant.1 at r.moves,
      told_shared _ _ _ _ works c.in-Some.place t u at r.moves.facts c.self.invariant.2,
      moved_keeping _ works c.in-Some.place r.mapping t u c.self.invariant.3 at r.moves,
      c.self.invariant.4,
    )

pub returns-in-Some-clause-completed : goal.returns-in-Some-clause-completed
returns-in-Some-clause-completed c =
    let w = (goal.at.returns-in-Some-clause-completed c).After-read_words in
    (moves w).told ∙ ap (λ (h : HeldJobs). told_each h c.args.number (words_read c.args.words.now)) c.self.view_is

pub returns-in-Some-clause-hands : goal.returns-in-Some-clause-hands
returns-in-Some-clause-hands c =
    let w = (goal.at.returns-in-Some-clause-hands c).After-read_words in
    let r = moves w in
    moved_hands (jobs w) c.in-Some.place r.mapping c.index_mut.result.now c.read_words.new.self (here w) r.moves
    ∙ ap (λ (h : HeldJobs). all_hands h) c.self.view_is

pub returns-in-Some-clause-each : goal.returns-in-Some-clause-each
returns-in-Some-clause-each c = job_reads c.args.self.now c.args.number c.args.words.now c.requires

pub returns-in-Some-clause-effects : goal.returns-in-Some-clause-effects
returns-in-Some-clause-effects c = no_effects c.args.self.now c.args.number (words_read c.args.words.now) (job_reads c.args.self.now c.args.number c.args.words.now c.requires)
