use Rattle.std.proofs.Common.{◌≡◌, ◌<◌, ◌*◌, ◌^◌, ℕ, subst, arith}
use Rattle.std.specs.Prelude.{Ok}
use Rattle.std.proofs.lemmas.Result.{err_from_is_err_and}
use Rattle.schedule_text.specs.Recorder.{Gained}
use Rattle.split_model.specs.Happening.{ring_lines}
use Rattle.schedule_run.proofs.Moving.{dumped_goes}
use Rattle.split_model.proofs.Overwriting.{shown_on, stopped_on}
use Rattle.schedule_run.proofs.split.Split.dump.Goals as goal

pub show_word-requires : goal.show_word-requires
show_word-requires g c =
    let less : c.loop-place.place < 1024 * c.ring_pages-words.result = c.loop-place-test.true in
    let few = c.ring_pages-words.ensures.few in
    omega arith

pub loop-place-preserved : goal.loop-place-preserved
loop-place-preserved g c =
    let less : c.loop-place.place < 1024 * c.ring_pages-words.result = c.loop-place-test.true in
    let shown = c.loop-place.invariant in
    record { within = omega arith; told = shown_on c.args.self.now.rings.under.pages c.loop-place.place _ _ _ shown.told c.in_ok-show_word.ensures }

pub returns-in_err-show_word : goal.returns-in_err-show_word
returns-in_err-show_word g c = λ disk.
    let less : c.loop-place.place < 1024 * c.ring_pages-words.result = c.loop-place-test.true in
    let pages : c.ring_pages-words.result ≡ 2 ^ c.args.self.now.rings.front.shape.order = rw (← c.self.view_is) c.ring_pages-words.ensures.value in
    let shown = c.loop-place.invariant in
    let stopped = err_from_is_err_and c.from_residual.result c.from_residual.ensures.1 in
    rw (stopped.1, stopped.2) (dumped_goes c.args.self.now disk _ _ _ (stopped_on c.args.self.now.rings.under.pages c.loop-place.place (1024 * 2 ^ c.args.self.now.rings.front.shape.order) _ _ _ _ (omega arith) shown.told c.in_err-show_word.ensures))

pub returns : goal.returns
returns g c = λ disk.
    let pages : c.ring_pages-words.result ≡ 2 ^ c.args.self.now.rings.front.shape.order = rw (← c.self.view_is) c.ring_pages-words.ensures.value in
    let shown = c.loop-place.invariant in
    let all : c.loop-place.place ≡ 1024 * 2 ^ c.args.self.now.rings.front.shape.order = omega arith in
    dumped_goes c.args.self.now disk (g.R.Recorder.seen c.args.recorder.now) (g.R.Recorder.seen c.loop-place.recorder) (Ok tt)
    (subst (λ (place : ℕ). Gained (ring_lines c.args.self.now.rings.under.pages 0 place) (g.R.Recorder.seen c.args.recorder.now) (g.R.Recorder.seen c.loop-place.recorder)) all shown.told)
