use Rattle.std.proofs.Common.{◌≡◌, ◌≤◌, ◌∙◌, ℕ, List, sym, ap, subst, arith}
use Rattle.std.specs.Prelude.{Option, Some, option_map, replicate, take}
use Rattle.std.proofs.lemmas.List.{take-replicate}
use Rattle.xen_pages.specs.Pages.{with_words}
use Rattle.hypervisor.specs.Hypervisor.{Hypervisor}
use Rattle.hypervisor.specs.Act.{with_pages}
use Rattle.blk_front.specs.declared.sector_part.SectorPart.{SectorPart}
use Rattle.vbd_front.specs.View.{View}
use Rattle.vbd_front.specs.Part.{sector_part, entry_part, entry_words}
use Rattle.round_laws.specs.Movers.{words_in, front_words, front_writes}
use Rattle.schedule_run.proofs.split.words.move_sector.Goals as goal

-- so many equal words of those that are at hand
wrote : (h u : Hypervisor) (v : View) (p : SectorPart) (value n : ℕ) → sector_part v ≡ Some p → p.value ≡ Some value → n ≤ p.count → p.count ≤ 128
    → u ≡ with_pages h (with_words h.pages p.frame p.word (take n (replicate 128 value))) → u ≡ with_pages h (front_writes (front_words v) n h.pages)
wrote h u v p value n is way few most e =
    let written : List ℕ → Hypervisor = λ l. with_pages h (with_words h.pages p.frame p.word l) in
    let same : take n (replicate 128 value) ≡ take n (replicate p.count value) = take-replicate n 128 value (omega arith) ∙ sym (take-replicate n p.count value few) in
    subst (λ (o : Option SectorPart). u ≡ with_pages h (front_writes (words_in o (entry_part v) (entry_words v)) n h.pages)) (sym is)
    (e ∙ (ap written same ∙ ap (λ (o : Option ℕ). with_pages h (front_writes (Some (record { frame = p.frame; word = p.word; count = p.count; values = option_map (replicate p.count) o })) n h.pages)) (sym way)))

pub returns-in-Some-clause-under : goal.returns-in-Some-clause-under
returns-in-Some-clause-under c =
    wrote c.args.under.now c.write_front_words.new.self c.args.front.now c.args.part c.in-Some.value c.args.count c.requires.part c.in-Some.is c.requires.few c.requires.within.few c.write_front_words.ensures.value
