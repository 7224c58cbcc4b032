-- `load::one_record::clear` meets its contract. Assumes nothing.
use Prim.Native.Nat.{ℕ}
use mathlib.Core.Path.{ap, ◌∙◌}
use mathlib.Core.List.{List, ◌++◌}
use lib.ListN.{drop, replicate}
use lib.Seq.{length-take-le}
use Rattle.load.proofs.one_record.clear.Goals as goal

pub returns : goal.returns
returns c = ap (λ (l : List ℕ). l ++ drop 35 c.args.row.now) (c.fill.ensures.after (λ y h. h) ∙ ap (λ (n : ℕ). replicate n 0) (length-take-le 35 c.args.row.now c.requires))
