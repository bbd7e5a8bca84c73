use Rattle.std.proofs.Common.{◌≡◌, ℕ, ◌+◌, ◌-◌, ◌*◌, List, take, drop, length, ap, ◌∙◌, sym, arith}
use Rattle.xen_pages.proofs.Parts.{words_there}
use Rattle.xen_pages.proofs.pages.Pages.read_words.Goals as goal

pub returns : goal.returns
returns c =
    let k : ℕ = c.args.frame * 1024 + c.args.word in
    let n : ℕ = length c.args.words.now in
    let whole : length c.args.self.now ≡ 1114112 = ap (λ (l : List ℕ). length l) (sym c.self.view_is) ∙ c.self.invariant in
    let count : k + n - k ≡ n = omega arith in
    c.copy_from_slice.ensures.after
    ∙ (ap (λ (l : List ℕ). take (k + n - k) (drop k l)) (c.deref.ensures.value ∙ c.self.view_is)
    ∙ (ap (λ m. take m (drop k c.args.self.now)) count
    ∙ words_there c.args.self.now c.args.frame c.args.word n (let fits = c.requires.words_in in let within = c.requires.frame_in in omega arith)))
