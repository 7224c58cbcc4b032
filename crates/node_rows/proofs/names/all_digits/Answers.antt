-- `node_rows::names::all_digits` meets its contract. Assumes nothing.
use mathlib.Core.Path.{◌∙◌}
use mathlib.Core.Bool.{Bool}
use Prim.Native.Nat.{ℕ}
use Rattle.std.proofs.Common.{rules, tests}
use Rattle.std.proofs.lemmas.Iterator.{YieldsList-from_slice}
use Rattle.std.proofs.lemmas.Iterator.Search.{all_from_yields_List}
use Rattle.spec_tree.specs.Symbol.{is_digit}
use Rattle.node_rows.proofs.names.Leaves.{every_is}
use Rattle.node_rows.proofs.names.all_digits.Goals as goal

pub returns : goal.returns
returns c =
    let words = c.args.bytes.now in
    let test : ℕ → Bool = is_digit in
    all_from_yields_List test _ _ _ c.all.ensures.ran (YieldsList-from_slice words cc) (λ x b q k. search (rules, tests)) ∙ every_is test words
