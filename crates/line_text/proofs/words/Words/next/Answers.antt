use Rattle.std.proofs.Common.{sym, ap, ◌∙◌}
use Rattle.line_text.specs.Words.{words_in, first_of, later}
use Rattle.line_text.proofs.WordLemmas.{first_of_words, later_words}
use Rattle.line_text.proofs.words.Words.next.Goals as goal

pub returns-clause-word : goal.returns-clause-word
returns-clause-word c = c.cut.ensures.before ∙ sym (first_of_words c.self.inside.rest.now) ∙ ap first_of c.self.view_is

pub returns-clause-rest : goal.returns-clause-rest
returns-clause-rest c = ap words_in c.cut.ensures.after ∙ sym (later_words c.self.inside.rest.now) ∙ ap later c.self.view_is
