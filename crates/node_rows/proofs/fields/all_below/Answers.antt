-- `node_rows::fields::all_below` meets its contract. Assumes nothing.
use mathlib.Core.Path.{◌∙◌}
use mathlib.Core.Bool.{Bool}
use Prim.Native.Nat.{ℕ}
use lib.Dec.{ltb}
use Rattle.std.proofs.Common.{rules, tests}
use Rattle.std.proofs.lemmas.Iterator.{YieldsList-from_slice}
use Rattle.std.proofs.lemmas.Iterator.Search.{all_from_yields_List}
use Rattle.node_rows.proofs.names.Leaves.{every_is}
use Rattle.node_rows.proofs.fields.all_below.Goals as goal

pub returns : goal.returns
returns c =
    let words = c.args.numbers.now in
    let test : ℕ → Bool = λ k. ltb k c.args.bound in
    all_from_yields_List test _ _ _ c.all.ensures.ran (YieldsList-from_slice words cc) (λ x b q k. search (rules, tests)) ∙ every_is test words
