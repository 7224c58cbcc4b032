-- `rounds::value_numbers::chain_count` meets its contract. Assumes nothing.
use Rattle.rounds.proofs.value_numbers.Keys.{few_chains, many_chains}
use Rattle.rounds.proofs.value_numbers.chain_count.Goals as goal

pub returns-then-words-le-FEW_WORDS : goal.returns-then-words-le-FEW_WORDS
returns-then-words-le-FEW_WORDS c = few_chains _ c.if-words-le-FEW_WORDS.true

pub returns-else-words-le-FEW_WORDS : goal.returns-else-words-le-FEW_WORDS
returns-else-words-le-FEW_WORDS c = many_chains _ c.if-words-le-FEW_WORDS.false
