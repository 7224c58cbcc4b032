-- A line has at most 34,857 bytes where its expression has at most 1,024 nodes: so there is room for it in 65,536. Assumes nothing.
use Prim.Native.Nat.{ℕ, ◌+◌, ◌/◌, ◌^◌, ◌≤◌, ◌<◌}
use native.Mathlib.Omega.{arith}
use mathlib.Core.Path.{◌≡◌, ap, ◌∙◌}
use mathlib.Core.Bool.{Bool, true, false, cond}
use mathlib.Core.List.{List, [], ◌∷◌, ◌++◌}
use lib.ListN.{length, get_or, length-append}
use lib.Dec.{T, eqb, lt→ltb}
use Rattle.spec_tree.specs.Bytes.{bytes, decimal}
use Rattle.spec_tree.specs.Tree.{Tree, xname}
use Rattle.spec_tree.specs.Facts.{size}
use Rattle.spec_tree.specs.Passes.{symbol_ok}
use Rattle.spec_tree.specs.text.Text.{name_text, display}
use Rattle.fmt.specs.shapes.Places.{tree_here, Stands}
use Rattle.fmt.proofs.shapes.NodeLaws.{names}
use Rattle.fmt.specs.lengths.Room.{number_fits, numbers_fit}
use Rattle.fmt.proofs.lengths.Leaves.{symbol_short}
use Rattle.fmt.proofs.lengths.Whole.{text_fits, read_fits}
use Rattle.spec_cse.specs.Answer.{Let, stmt_text}
use Rattle.print.specs.told.Pieces.{let_text}
use Rattle.print.specs.lines.Line.{row_line}
use Rattle.print.proofs.lines.RowLaws.{let_made}
use Rattle.fmt.proofs.lengths.Callers.{small_words}

pub decimal_short : (n : ℕ) → n < 2 ^ 64 → length (decimal n) ≤ 29
unfolding symbol_ok number_fits name_text
decimal_short n h = omega (arith, symbol_short (xname n) tt (lt→ltb n (2 ^ 64) h))

let_long : (n : ℕ) (t : Tree) → length (stmt_text (Let (xname n) t)) ≡ length (decimal n) + length (display t) + 11
unfolding let_text
let_long n t =
    let rest = bytes " = " ++ (display t ++ bytes ";") in
    ap length (let_made n t) ∙ omega (arith, length-append (bytes "__x" ++ decimal n) rest, length-append (display t) (bytes ";"))

line_long : (w : ℕ) (t : Tree) → w < 2 ^ 64 → length (row_line w t) ≤ length (display t) + 41
unfolding row_line
line_long w t h = go (eqb w 36)
  where
    text : List ℕ
    text = stmt_text (Let (xname (w / 64 / 3)) t)

    go : (b : Bool) → length (cond b (display t) text ++ (10 ∷ [])) ≤ length (display t) + 41
    go true = omega (arith, length-append (display t) (10 ∷ []))
    go false = omega (arith, length-append text (10 ∷ []), let_long (w / 64 / 3) t, decimal_short (w / 64 / 3) (omega arith))

module _ (rows ws : List ℕ) (at : ℕ) (words : (i : ℕ) → get_or ws i 0 < 2 ^ 64) (S : Stands rows ws (at + 1)) where
  fit : T (numbers_fit (tree_here rows ws (at + 1)))
  unfolding tree_here
  fit = read_fits (names rows) ws (at + 1) (small_words ws words)

  pub line_short : size (tree_here rows ws (at + 1)) ≤ 1024 → length (row_line (get_or ws at 0) (tree_here rows ws (at + 1))) ≤ 34857
  line_short few = omega (arith, line_long (get_or ws at 0) (tree_here rows ws (at + 1)) (words at), text_fits (tree_here rows ws (at + 1)) S.good fit, few)
