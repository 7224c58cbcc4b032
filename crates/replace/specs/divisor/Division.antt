-- Whether the first tree of some words is a division by a tree, and where its first operand and the whole of it end. Assumes nothing.
use Rattle.std.specs.Prelude.{ℕ, ◌+◌, Bool, true, false, ◌&&◌, List, ◌==◌, Option, Some, None}
use Rattle.std.proofs.Math.Option as maybe
use Rattle.std.proofs.Math.Option.{none, some}
use Rattle.spec_tree.specs.Kinds.{Div}
use Rattle.spec_tree.specs.Tree.{Tree, Sym, Const, Op}
use Rattle.spec_tree.specs.Tokens.{run_at}
use Rattle.spec_rewrite.specs.Rewrite.{divides_by}
use Rattle.words.specs.words.Words.{tree_of}
use Rattle.replace.specs.declared.divisor.Division.{Division}

unfoldable pub divided_by : Tree → Tree → Bool
unfolding divides_by
divided_by d (Sym n) = false
divided_by d (Const c) = false
divided_by d (Op k f) = k == Div && divides_by d f

unfoldable pub division_answer : Bool → maybe.Option ℕ → maybe.Option ℕ → Option Division
division_answer true (some first) (some whole) = Some (record { second = 1 + first; end = whole })
division_answer true (some first) none = None
division_answer true none whole = None
division_answer false first whole = None

unfoldable pub division_of : List ℕ → List ℕ → Option Division
unfolding divided_by division_answer tree_of run_at
division_of ws d = division_answer (divided_by (tree_of d) (tree_of ws)) (run_at ws 1) (run_at ws 0)
