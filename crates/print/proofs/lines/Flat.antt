-- A flat answer has lets alone, so that its lines are its text, for any list that it answers (01, "Sheet and printing"). Assumes nothing.
use Prim.Native.Nat.{ℕ, ◌≤◌, ◌<◌, ◌^◌}
use mathlib.Core.Path.{◌≡◌, refl, sym, subst}
use mathlib.Core.Bool.{false}
use mathlib.Core.Option.{some}
use mathlib.Core.List.{List, [], ◌∷◌}
use lib.ListN.{length, get_or}
use lib.Dec.{T}
use Rattle.spec_tree.specs.Outcome.{ok}
use Rattle.spec_tree.specs.Tree.{Tree}
use Rattle.spec_tree.specs.Rows.{Row, Table, trees}
use Rattle.spec_tree.specs.Passes.{trees_ok}
use Rattle.spec_tree.specs.Tokens.{number_in}
use Rattle.spec_cse.specs.Extract.{Binding, reciprocals}
use Rattle.spec_cse.specs.Answer.{Intermediate, Intermediates, Answer, Let, Match, block, answer_text}
use Rattle.spec_cse.specs.AnswerRows.{answer_words, intermediates_ok}
use Rattle.spec_cse.specs.Scope.{binds, answer}
use Rattle.laws.proofs.cse.FlatCount.{parts}
use Rattle.laws.proofs.cse.SortCount.{Every, sorted_every}
use Rattle.laws.proofs.answer.ListNames.{answer_fits}
use Rattle.laws.proofs.answer.ExtractRefs.{extract_references}
use Rattle.fmt.specs.checked.Check.{rows_in}
use Rattle.print.specs.told.Writers.{AnswerAt}
use Rattle.print.specs.lines.Line.{lines_from, all_lets, FewLets, Few}
use Rattle.print.proofs.lines.Whole.{lines_are}

IsLet : Intermediate → Type 0
IsLet (Let n e) = Unit {0}
IsLet (Match k key ns arms) = ⊥

binds_lets : (l : List Binding) → Every IsLet (binds l)
unfolding binds IsLet
binds_lets [] = tt
binds_lets (b ∷ l) = (tt, binds_lets l)

block_lets : (l : List Intermediate) → Every IsLet l → T (all_lets (block l))
unfolding block all_lets IsLet
block_lets [] h = tt
block_lets (Let n e ∷ l) h = block_lets l h.1
block_lets (Match k key ns arms ∷ l) h = absurd h.0

pub flat_lets : (es : List Tree) (a : Answer) → answer false es ≡ ok a → T (all_lets a.inters)
flat_lets es a e =
    let P = parts es a e in
    subst (λ (i : Intermediates). T (all_lets i)) (sym P.inters)
    (block_lets P.stmts (sorted_every IsLet (binds (reciprocals false P.state).lets) P.stmts P.sorted (binds_lets (reciprocals false P.state).lets)))

-- the lines of the rows that extract lays out, where its expressions and names pass 13 and no expression has more than 1,024 nodes
pub flat_lines :
    (t : Table) (a : Answer) (lent : ℕ) (node : List ℕ) (n : ℕ) → 34857 ≤ lent → ((i : ℕ) → get_or (answer_words (number_in t.rows) a) i 0 < 2 ^ 64) → rows_in node ≡ t.rows
    → answer false (trees t) ≡ ok a → T (intermediates_ok a.inters) → T (trees_ok a.results) → FewLets a.inters → Few a.results
    → length (answer_words (number_in t.rows) a) ≤ n → lines_from lent n node (answer_words (number_in t.rows) a) 0 ≡ some (answer_text a)
flat_lines t a lent node n room small r e o v few few_results m =
    let ws = answer_words (number_in t.rows) a in
    let f = answer_fits t.rows a o v (extract_references t false a e) in
    let h : AnswerAt t.rows ws a = record { parts = o; parts_fit = f.0; results = v; results_fit = f.1; words = refl } in
    lines_are lent room node ws small a (subst (λ (rows : List Row). AnswerAt rows ws a) (sym r) h) few_results n (flat_lets (trees t) a e) few m
