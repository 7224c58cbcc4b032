-- `replace::decide` meets its contract. Assumes nothing.
use Rattle.std.proofs.Common.{sym}
use Rattle.replace.proofs.replacing.Deciding.{plain_turn}
use Rattle.replace.proofs.decide.Goals as goal
use Rattle.replace.proofs.decide.Goals.{else-rule-via-then-rule+else-tokens-eq-MUL, else-rule-via-else-rule}

pub returns : goal.returns
returns c = let a = c.args in elim c.else-rule.branch [
  | else-rule-via-then-rule+else-tokens-eq-MUL w ↦ plain_turn a.rule.target.now a.rule.name c.requires.tokens_nonzero.2 a.tokens.now c.requires.tokens_nonzero.1 c.requires.tokens_nonzero.0 (rw c.if-starts_with.false at c.starts_with.ensures) (λ k. absurd (w.if-tokens-eq-MUL.false k))
  | else-rule-via-else-rule w ↦ plain_turn a.rule.target.now a.rule.name c.requires.tokens_nonzero.2 a.tokens.now c.requires.tokens_nonzero.1 c.requires.tokens_nonzero.0 (rw c.if-starts_with.false at c.starts_with.ensures) (λ k. sym (rw w.if-rule.false at c.requires.sought_value.0))
]
