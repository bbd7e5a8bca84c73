use Rattle.negotiation_laws.proofs.Found.{back_reads, front_reads, maps_by_terms, terms_kept, offer_kept, disk_kept, back_unchanged}
use Rattle.negotiation_laws.proofs.each_end_reads_what_the_other_set.Goals as goal

pub returns : goal.returns
returns c = record { back = back_reads; front = front_reads; mapping = maps_by_terms; terms = terms_kept; features = offer_kept; disk = disk_kept; offer = back_unchanged }
