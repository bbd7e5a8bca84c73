use Rattle.std.proofs.Common.{◌≡◌, ℕ, List, ap, subst, refl, ◌∙◌}
use Rattle.std.proofs.lemmas.Result.{err_from_is_err_and}
use Rattle.blk_base.specs.Distance.{distance_of}
use Rattle.blk_io.specs.Outside.{TakesBytes, FailsWriting}
use Rattle.ring_words.specs.Shape.{entries_of}
use Rattle.ring_inspect.specs.Text.{indices_text, entries_text}
use Rattle.ring_inspect.specs.Ring.{word_of, body_text}
use Rattle.ring_inspect.proofs.Pieces.{fails_in_first, fails_in_second, writes_body, writes_as}
use Rattle.ring_inspect.proofs.print.print_ring.Goals as goal

-- the first line shows the first four words
indices_are : (bytes line : List ℕ) (req_prod req_event rsp_prod rsp_event : ℕ) → line ≡ indices_text req_prod req_event rsp_prod rsp_event → req_prod ≡ word_of bytes 0 → req_event ≡ word_of bytes 1 → rsp_prod ≡ word_of bytes 2 → rsp_event ≡ word_of bytes 3 → line ≡ indices_text (word_of bytes 0) (word_of bytes 1) (word_of bytes 2) (word_of bytes 3)
indices_are bytes line req_prod req_event rsp_prod rsp_event shown a b c d = rw (shown, a, b, c, d) refl

pub returns-in_err-print : goal.returns-in_err-print
returns-in_err-print g c =
    let bytes = c.args.bytes.now in
    let line = indices_are bytes _ _ _ _ _ c.indices-indices.ensures c.word-req_prod.ensures c.word.ensures c.word-rsp_prod.ensures c.word-2.ensures in
    let stopped = err_from_is_err_and c.from_residual.result c.from_residual.ensures.1 in
    let part = subst (λ t. FailsWriting t (g.O.Sink.seen c.args.sink.now) (g.O.Sink.seen c.print.new.sink)) line c.in_err-print.ensures in
    rw stopped.1 (fails_in_first c.args.shape.now bytes _ _ part)

pub returns-in_err-print-2 : goal.returns-in_err-print-2
returns-in_err-print-2 g c =
    let bytes = c.args.bytes.now in
    let line = indices_are bytes _ _ _ _ _ c.indices-indices.ensures c.word-req_prod.ensures c.word.ensures c.word-rsp_prod.ensures c.word-2.ensures in
    let entries : c.entries-2.result.bytes ≡ entries_text (entries_of c.args.shape.now.order) = c.entries-2.ensures ∙ ap entries_text c.entries.ensures.value in
    let stopped = err_from_is_err_and c.from_residual-in_err-print-2.result c.from_residual-in_err-print-2.ensures.1 in
    let first = subst (λ t. TakesBytes t (g.O.Sink.seen c.args.sink.now) (g.O.Sink.seen c.print.new.sink)) line c.in_ok-print.ensures in
    let part = subst (λ t. FailsWriting t (g.O.Sink.seen c.print.new.sink) (g.O.Sink.seen c.print-2.new.sink)) entries c.in_err-print-2.ensures in
    rw stopped.1 (fails_in_second c.args.shape.now bytes _ _ _ first part)

pub returns : goal.returns
returns g c =
    let bytes = c.args.bytes.now in
    let line = indices_are bytes _ _ _ _ _ c.indices-indices.ensures c.word-req_prod.ensures c.word.ensures c.word-rsp_prod.ensures c.word-2.ensures in
    let entries : c.entries-2.result.bytes ≡ entries_text (entries_of c.args.shape.now.order) = c.entries-2.ensures ∙ ap entries_text c.entries.ensures.value in
    let count : c.dist-count.result ≡ distance_of (word_of bytes 2) (word_of bytes 0) = c.dist-count.ensures.value ∙ rw (c.word-req_prod.ensures, c.word-rsp_prod.ensures) refl in
    let last : body_text c.args.shape.now bytes c.word-rsp_prod.result c.dist-count.result ≡ body_text c.args.shape.now bytes (word_of bytes 2) (distance_of (word_of bytes 2) (word_of bytes 0)) = rw (count, c.word-rsp_prod.ensures) refl in
    let first = subst (λ t. TakesBytes t (g.O.Sink.seen c.args.sink.now) (g.O.Sink.seen c.print.new.sink)) line c.in_ok-print.ensures in
    let second = subst (λ t. TakesBytes t (g.O.Sink.seen c.print.new.sink) (g.O.Sink.seen c.print-2.new.sink)) entries c.in_ok-print-2.ensures in
    writes_body c.args.shape.now bytes c.print_body.result _ _ _ _ first second (writes_as _ _ c.print_body.result _ _ last c.print_body.ensures)
