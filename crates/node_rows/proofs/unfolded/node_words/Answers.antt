-- `node_rows::unfolded::node_words` meets its contract: the chains and the words of the rows so far. Assumes nothing.
use mathlib.Core.Path.{refl, ◌∙◌}
use native.Mathlib.Omega.{arith}
use lib.ListN.{length-set}
use Rattle.node_rows.proofs.unfolded.ChainLaws.{chains_begin, count_is, words_more}
use borrow.Author.Rules.{rules}
use Rattle.node_rows.proofs.unfolded.node_words.Goals as goal

pub loop-r-init : goal.loop-r-init
loop-r-init c = (chains_begin c.requires.rows_in_bounds.1, refl, λ k h. absurd (omega arith), refl)

pub node_word-requires-clause-r_bound : goal.node_word-requires-clause-r_bound
node_word-requires-clause-r_bound c = omega (arith, count_is c.args.rows.now, c.loop-r-test.true)

pub bounds-words-r : goal.bounds-words-r
bounds-words-r c = omega (arith, count_is c.args.rows.now, c.loop-r-test.true, c.loop-r.invariant.1, c.requires.rows_in_bounds.0)

pub loop-r-preserved : goal.loop-r-preserved
loop-r-preserved c = (c.node_word.ensures.chains_2, length-set c.loop-r.words c.loop-r.r c.node_word.result ∙ c.loop-r.invariant.1, words_more c.args.rows.now c.loop-r.words c.loop-r.r c.node_word.result c.loop-r.invariant.2 (omega (arith, count_is c.args.rows.now, c.loop-r-test.true, c.loop-r.invariant.1, c.requires.rows_in_bounds.0)) c.node_word.ensures.value, search rules)

pub returns : goal.returns
returns c = (omega (arith, c.loop-r.invariant.1, c.requires.rows_in_bounds.0), λ k h. c.loop-r.invariant.2 k (omega (arith, count_is c.args.rows.now)))
