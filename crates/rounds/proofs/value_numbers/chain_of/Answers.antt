-- `rounds::value_numbers::chain_of` meets its contract. Assumes nothing.
use Rattle.rounds.proofs.value_numbers.Keys.{few_chain, many_chain}
use Rattle.rounds.proofs.value_numbers.chain_of.Goals as goal

pub returns-then-words-le-FEW_WORDS : goal.returns-then-words-le-FEW_WORDS
returns-then-words-le-FEW_WORDS c = few_chain _ _ c.if-words-le-FEW_WORDS.true

pub returns-else-words-le-FEW_WORDS : goal.returns-else-words-le-FEW_WORDS
returns-else-words-le-FEW_WORDS c = many_chain _ _ c.if-words-le-FEW_WORDS.false
