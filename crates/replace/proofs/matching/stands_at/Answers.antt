-- `replace::matching::stands_at` meets its contract. Assumes nothing.
use Rattle.std.proofs.Common.{sym, ap, ◌∙◌}
use Rattle.words.specs.words.Words.{begins_with}
use Rattle.replace.proofs.matching.Runs.{stands_within, stands_past}
use Rattle.spec_tree.proofs.Lists.{rest_is}
use Rattle.replace.proofs.matching.stands_at.Goals as goal

pub returns-else-from-tokens : goal.returns-else-from-tokens
returns-else-from-tokens c = let a = c.args in c.starts_with-else-from-tokens.ensures ∙ ap (λ l. begins_with l a.run.now) (sym (stands_past a.tokens.now a.name a.place c.if-from-tokens.false))

pub returns-then-from-tokens : goal.returns-then-from-tokens
returns-then-from-tokens c = let a = c.args in c.starts_with.ensures ∙ ap (λ l. begins_with l a.run.now) (rest_is a.tokens.now a.place ∙ sym (stands_within a.tokens.now a.name a.place c.if-from-tokens.true))
