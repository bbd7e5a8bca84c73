use Rattle.std.proofs.Common.{◌≡◌, ◌==◌, true, ℕ, Option, Some, None, IfSome, IfNone, List, arith}
use Rattle.std.proofs.lemmas.Bool.Decides.{nat_tests}
use Rattle.memchr.specs.Find.{IsFirstByte, is_byte}
use Rattle.report_lines.specs.Text.{HasNoLineFeed}
use Rattle.report_lines.specs.Filling.{IsLineAhead}
use Rattle.report_lines.proofs.Feeds.{line_ahead, no_feed}
use Rattle.report_lines.proofs.reader.first_feed.Goals as goal

at_feed : (x : ℕ) → (x == 10) ≡ true → x ≡ 10
at_feed x h = grind (arith, nat_tests)

feed_at : (x : ℕ) → x ≡ 10 → (x == 10) ≡ true
feed_at x h = grind (arith, nat_tests)

found : (bytes : List ℕ) (r : Option ℕ) → IsFirstByte (is_byte 10) bytes r → IfSome r (λ n. IsLineAhead n bytes)
found bytes None h = tt
found bytes (Some n) h = line_ahead bytes n h.0.high (at_feed _ h.1) (λ k low feed. h.0.before k (omega arith) low (feed_at _ feed))

none : (bytes : List ℕ) (r : Option ℕ) → IsFirstByte (is_byte 10) bytes r → IfNone r (HasNoLineFeed bytes)
none bytes None h = no_feed bytes (λ k low feed. h k (omega arith) low (feed_at _ feed))
none bytes (Some n) h = tt

pub returns-clause-found : goal.returns-clause-found
returns-clause-found c = found c.args.bytes.now c.memchr.result c.memchr.ensures

pub returns-clause-none : goal.returns-clause-none
returns-clause-none c = none c.args.bytes.now c.memchr.result c.memchr.ensures
