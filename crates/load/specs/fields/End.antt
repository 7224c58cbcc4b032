-- Where a record ends (01, "Sheet and printing"). Assumes nothing.
use Rattle.std.specs.Prelude.{ℕ, suc, true, false, ◌&&◌, cond, List, [], ◌∷◌, length, drop, eqb, ltb}

-- the place of the first CRLF, or of the end, counted from i
unfoldable pub end_from : ℕ → List ℕ → ℕ
end_from i [] = i
end_from i (b ∷ []) = suc i
end_from i (b ∷ (c ∷ l)) = elim (eqb b 13 && eqb c 10) [ true ↦ i | false ↦ end_from (suc i) (c ∷ l) ]

-- where the record at a place ends; past the sheet, at its end
unfoldable pub record_end : List ℕ → ℕ → ℕ
unfolding end_from
record_end s at = cond (ltb at (length s)) (end_from at (drop at s)) (length s)
