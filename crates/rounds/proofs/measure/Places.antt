-- Where each fact stands among the facts of all places: for those who look it up. Assumes nothing.
use Prim.Native.Nat.{ℕ, ◌+◌, ◌*◌, ◌<◌}
use native.Mathlib.Omega.{arith}
use mathlib.Core.Path.{◌≡◌, ◌∙◌}
use mathlib.Core.List.{List, ◌++◌}
use lib.ListN.{length, get_or, get_or-append}
use Rattle.spec_tree.specs.Tokens.{trees_at, numbered}
use Rattle.rounds.specs.measure.Columns.{place_facts, all_place_facts}
use Rattle.spec_tree.proofs.TokenLaws.{trees_length}
use Rattle.words.proofs.tokens.Comparing.{tree}
use Rattle.rounds.proofs.measure.Filling.{all_place_facts_length, all_place_facts_at}

-- each fact stands where it is looked for, whatever follows
pub fact_is :
    (ws rest : List ℕ) (i c : ℕ) → i < length ws → c < 4 → get_or (all_place_facts (trees_at numbered ws) ++ rest) (4 * i + c) 0 ≡ get_or (place_facts (tree ws i)) c 0
fact_is ws rest i c h b =
    let l = trees_length numbered ws in
    let ts = trees_at numbered ws in
    get_or-append (all_place_facts ts) rest 0 (4 * i + c) (omega (arith, all_place_facts_length ts, l)) ∙ all_place_facts_at ts i c (omega (arith, l)) b
