-- A record's first comma (01, "Sheet and printing"). Assumes nothing.
use Rattle.std.specs.Prelude.{ℕ, suc, true, false, List, [], ◌∷◌, eqb}
use Rattle.std.proofs.Math.Option.{Option, none, some}

-- the first comma's place, counted from i
unfoldable pub comma_from : ℕ → List ℕ → Option ℕ
comma_from i [] = none
comma_from i (b ∷ l) = elim (eqb b 44) [ true ↦ some i | false ↦ comma_from (suc i) l ]

unfoldable pub comma_at : List ℕ → Option ℕ
unfolding comma_from
comma_at s = comma_from 0 s
