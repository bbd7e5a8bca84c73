use Rattle.xen_pages.specs.Pages.{zero_words}
use Rattle.xen_pages.proofs.Words.{slice_index-zero_words}
use Rattle.grant_table.proofs.grants.no_counts.Goals as goal

pub returns-clause-zero : goal.returns-clause-zero
unfolding zero_words
returns-clause-zero c gref = rw (c.in_ok-vec.ensures.items_if_clones_equal (λ y e. e)) (slice_index-zero_words 1024 gref)
