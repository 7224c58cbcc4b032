-- `load::recordwords::record_word` meets its contract: the bytes are none of the first k words. Assumes nothing.
use Prim.Native.Nat.{ℕ}
use mathlib.Core.List.{List}
use mathlib.Core.Path.{sym, ap, ◌∙◌}
use Rattle.spec_tree.specs.Bytes.{eq_bytes}
use Rattle.words.proofs.tokens.Comparing.{eq_bytes_is}
use native.Mathlib.Omega.{arith}
use Rattle.load.proofs.recordwords.RecordWords.{word_next, word_found, word_none}
use Rattle.load.proofs.recordwords.record_word.Goals as goal

pub returns-then-eq : goal.returns-then-eq
returns-then-eq c = word_found c.args.s.now c.loop-k.k c.loop-k.invariant (omega arith) (sym (sym c.if-eq.true ∙ (c.eq.ensures ∙ (eq_bytes_is _ _ ∙ ap (λ (w : List ℕ). eq_bytes w c.args.s.now) c.word.ensures))))

pub loop-k-preserved : goal.loop-k-preserved
loop-k-preserved c = word_next c.args.s.now c.loop-k.k c.loop-k.invariant (omega arith) (sym (sym c.if-eq.false ∙ (c.eq.ensures ∙ (eq_bytes_is _ _ ∙ ap (λ (w : List ℕ). eq_bytes w c.args.s.now) c.word.ensures))))

pub returns : goal.returns
returns c = word_none c.args.s.now c.loop-k.k c.loop-k.invariant (omega arith)
