use Rattle.std.proofs.Common.{◌≡◌, ℕ, ◌+◌, ◌*◌, List, ◌++◌, take, drop, length, ap, ◌∙◌, sym, subst, arith}
use Rattle.xen_pages.specs.Pages.{OnlyChangesWords}
use Rattle.xen_pages.proofs.Parts.{words_put, handed_back, only_words}
use Rattle.xen_pages.proofs.pages.Pages.write_words.Goals as goal

pub returns-clause-value : goal.returns-clause-value
returns-clause-value c =
    let k : ℕ = c.args.frame * 1024 + c.args.word in
    let n : ℕ = length c.args.words.now in
    let before : c.deref_mut.result.now ≡ c.args.self.now = c.deref_mut.ensures.value ∙ c.self.view_is in
    let whole : length c.args.self.now ≡ 1114112 = ap (λ (l : List ℕ). length l) (sym c.self.view_is) ∙ c.self.invariant in
    handed_back c.self.inside.words.items c.put.new.all c.self.inside.words.len (c.put.ensures.len ∙ c.deref_mut.ensures.len)
    ∙ (c.put.ensures.put
    ∙ (ap (λ (l : List ℕ). take k l ++ (c.args.words.now ++ drop (k + n) l)) before
    ∙ words_put c.args.self.now c.args.frame c.args.word c.args.words.now (let fits = c.requires.words_in in let within = c.requires.frame_in in omega arith)))

pub returns-clause-only : goal.returns-clause-only
returns-clause-only c =
    let whole : length c.args.self.now ≡ 1114112 = ap (λ (l : List ℕ). length l) (sym c.self.view_is) ∙ c.self.invariant in
    subst (λ (l : List ℕ). OnlyChangesWords c.args.self.now l c.args.frame c.args.word c.args.words.now) (sym (returns-clause-value c))
    (only_words c.args.self.now c.args.frame c.args.word c.args.words.now c.requires.frame_in c.requires.words_in whole)
