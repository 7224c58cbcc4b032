-- `node_rows::records::word_bytes` meets its contract: the table is tested at every kind by computing. Assumes nothing.
use mathlib.Core.Bool.{Bool, ◌&&◌}
use mathlib.Core.List.{List, [], ◌∷◌}
use Prim.Native.Nat.{ℕ}
use borrow.Author.Rules.{rules}
use lib.Dec.{eqb, leb, eqb→eq, leb→le}
use lib.ListN.{length, get_or}
use Rattle.spec_tree.specs.Kinds.{kind_at}
use Rattle.spec_tree.proofs.Logic.{and_left, and_right}
use Rattle.spec_tree.proofs.Tests.{entry_at}
use Rattle.node_rows.proofs.records.word_bytes.Goals as goal

abbrev table : List ℕ
table = 3 ∷ 5 ∷ 3 ∷ 3 ∷ 3 ∷ 3 ∷ 3 ∷ 3 ∷ 3 ∷ 3 ∷ 3 ∷ 4 ∷ 4 ∷ 4 ∷ 5 ∷ 4 ∷ 4 ∷ 4 ∷ 3 ∷ 2 ∷ 4 ∷ 5 ∷ 4 ∷ 3 ∷ 9 ∷ 5 ∷ 6 ∷ 6 ∷ 8 ∷ []

right : ℕ → ℕ → Bool
unfolding kind_at
right k n = eqb n (length (kind_at k).word) && leb n 9

pub returns : goal.returns
unfolding right kind_at
returns c = let k = c.args.kind in
    let n = get_or table c.args.kind 0 in
    let h = entry_at right 0 table tt c.args.kind (search rules) in
    let same = eqb n (length (kind_at k).word) in
    (eqb→eq n (length (kind_at k).word) (and_left same (leb n 9) h), leb→le n 9 (and_right same (leb n 9) h))
