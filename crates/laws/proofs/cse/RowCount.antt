-- An answer has as many words as 01 counts rows. Assumes nothing.
use Prim.Native.Nat.{ℕ, suc, ◌+◌}
use mathlib.Core.Path.{◌≡◌, refl}
use mathlib.Core.List.{List, [], ◌∷◌, ◌++◌}
use native.Mathlib.Omega.{arith}
use lib.ListN.{length, length-append}
use Rattle.spec_tree.specs.Tree.{Name, Tree}
use Rattle.spec_tree.specs.Tokens.{tokens}
use Rattle.spec_tree.proofs.TokenCode.{tokens_length}
use Rattle.spec_cse.specs.Answer.{Intermediate, Intermediates, Arms, Answer, Let, Match, end, step, no_arm, arm, value_rows, stmt_rows, stmts_rows, arms_rows, rows}
use Rattle.spec_cse.specs.AnswerRows.{names_words, each_words, value_row, intermediate_words, intermediates_words, arms_words, answer_words}

module _ (number : List ℕ → ℕ) where
  names_long : (l : List Name) → length (names_words number l) ≡ length l
  unfolding names_words
  names_long [] = refl
  names_long (n ∷ l) = omega (arith, names_long l)

  each_long : (row : ℕ) (l : List Tree) → length (each_words number row l) ≡ value_rows l
  unfolding each_words value_rows
  each_long row [] = refl
  each_long row (t ∷ l) = omega (arith, length-append (tokens number t) (each_words number row l), tokens_length number t, each_long row l)

  mutual
    unfolding intermediate_words stmt_rows

    intermediate_long : (s : Intermediate) → length (intermediate_words number s) ≡ stmt_rows s
    intermediate_long (Let n e) = omega (arith, tokens_length number e)
    intermediate_long (Match k key ns arms) =
        omega (arith, length-append (tokens number key) (names_words number ns ++ arms_words number arms), length-append (names_words number ns) (arms_words number arms), tokens_length number key, names_long ns, arms_long arms)

    intermediates_long : (l : Intermediates) → length (intermediates_words number l) ≡ stmts_rows l
    intermediates_long end = refl
    intermediates_long (step s l) = omega (arith, length-append (intermediate_words number s) (intermediates_words number l), intermediate_long s, intermediates_long l)

    arms_long : (l : Arms) → length (arms_words number l) ≡ arms_rows l
    arms_long no_arm = refl
    arms_long (arm s vs l) =
        omega (arith, length-append (intermediates_words number s) (each_words number value_row vs ++ arms_words number l), length-append (each_words number value_row vs) (arms_words number l), intermediates_long s, each_long value_row vs, arms_long l)

  pub answer_long : (a : Answer) → length (answer_words number a) ≡ rows a
  unfolding answer_words rows
  answer_long a = omega (arith, length-append (intermediates_words number a.inters) (each_words number 36 a.results), intermediates_long a.inters, each_long 36 a.results)
