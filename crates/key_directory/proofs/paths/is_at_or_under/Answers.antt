use Rattle.std.proofs.Common.{Some, None, sym, ◌∙◌}
use Rattle.std.proofs.lemmas.Option.{slice_get_past, slice_get_read}
use Rattle.std.proofs.Common.{refl}
use Rattle.key_directory.proofs.Below.{not_at_or_under, at_or_under}
use Rattle.key_directory.proofs.paths.is_at_or_under.Goals as goal

pub returns-then-not-starts_with : goal.returns-then-not-starts_with
returns-then-not-starts_with c =
    rw (← c.as_bytes-watch.ensures.value, ← c.as_bytes-path.ensures.value)
    (sym (not_at_or_under c.as_bytes-watch.result.now c.as_bytes-path.result.now (sym c.starts_with.ensures.value ∙ c.if-not-starts_with.true)))

-- the path ends there
pub returns-in-None : goal.returns-in-None
returns-in-None c =
    rw (← c.as_bytes-watch.ensures.value, ← c.as_bytes-path.ensures.value)
    (sym (at_or_under c.as_bytes-watch.result.now c.as_bytes-path.result.now None (sym c.starts_with.ensures.value ∙ c.if-not-starts_with.false) (slice_get_past _ _ c.in-None.ensures.lookup.3)))

-- the path goes on with this byte
pub returns-in-Some : goal.returns-in-Some
returns-in-Some c =
    rw (← c.as_bytes-watch.ensures.value, ← c.as_bytes-path.ensures.value)
    (sym (at_or_under c.as_bytes-watch.result.now c.as_bytes-path.result.now (Some c.in-Some.byte.now) (sym c.starts_with.ensures.value ∙ c.if-not-starts_with.false) (slice_get_read _ _ _ _ refl c.in-Some.ensures.lookup.3.0 c.in-Some.ensures.lookup.1)))
