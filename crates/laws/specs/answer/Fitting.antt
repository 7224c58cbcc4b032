-- Parts of an answer whose words are read back as that part (AnswerRows): each operation's kind is one of 01's, each match's a switch's, and each symbol of the list
-- is one that a test passes, such as that its number leads back to it. Assumes nothing.
use Rattle.std.specs.Prelude.{ℕ, Bool, ◌&&◌, leb, ltb}
use Rattle.std.proofs.Math.Bool.{true}
use mathlib.Core.List.{List, [], ◌∷◌}
use Rattle.spec_tree.specs.Bytes.{eq_bytes}
use Rattle.spec_tree.specs.Tree.{Tree, Forest, Sym, Const, Op, nil, ◌◂◌}
use Rattle.spec_tree.specs.Rows.{Row}
use Rattle.spec_tree.specs.Tokens.{number_in, name_in}
use Rattle.spec_tree.proofs.TokenCode.{known_name}
use Rattle.spec_cse.specs.Answer.{Intermediate, Intermediates, Arms, Let, Match, end, step, no_arm, arm}
use Rattle.spec_cse.specs.AnswerRows.{let_name, match_names}

-- ---- trees that are spans: every symbol of the list is one that `known` passes, and every operation's kind is one of 01's

abbrev pub an_operation_kind : ℕ → Bool
an_operation_kind k = leb 2 k && ltb k 29

module _ (known : List ℕ → Bool) where
  unfoldable mutual
    unfolding known_name

    pub fitting : Tree → Bool
    fitting (Sym n) = known_name known n
    fitting (Const c) = true
    fitting (Op k f) = an_operation_kind k && fitting_each f

    pub fitting_each : Forest → Bool
    fitting_each nil = true
    fitting_each (t ◂ f) = fitting t && fitting_each f

  unfoldable pub all_fitting : List Tree → Bool
  unfolding fitting
  all_fitting [] = true
  all_fitting (t ∷ l) = fitting t && all_fitting l

-- ---- statements that are spans: x names for lets, m names for matches, kinds that are switches, and trees that fit

abbrev pub a_switch_kind : ℕ → Bool
a_switch_kind k = leb 26 k && ltb k 29

module _ (known : List ℕ → Bool) where
  unfoldable mutual
    unfolding fitting all_fitting let_name match_names

    pub stmt_fitting : Intermediate → Bool
    stmt_fitting (Let n e) = let_name n && fitting known e
    stmt_fitting (Match k key ns arms) = a_switch_kind k && (fitting known key && (match_names ns && arms_fitting arms))

    pub stmts_fitting : Intermediates → Bool
    stmts_fitting end = true
    stmts_fitting (step s l) = stmt_fitting s && stmts_fitting l

    pub arms_fitting : Arms → Bool
    arms_fitting no_arm = true
    arms_fitting (arm s vs l) = (stmts_fitting s && all_fitting known vs) && arms_fitting l

-- a symbol's number leads back to it
unfoldable pub numbered_in : List Row → List ℕ → Bool
unfolding name_in number_in eq_bytes
numbered_in rows s = eq_bytes (name_in rows (number_in rows s)) s
