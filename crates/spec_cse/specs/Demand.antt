-- Demand 3 of one list, over both answers together: each clause is a predicate of the list and an answer, in the words of 01 ("Value, for demand 3"), and the record
-- at the end says them of the flat and the scoped answer. Assumes nothing.
use Rattle.std.specs.Prelude.{ℕ, ◌+◌, ◌≤◌, ◌≡◌, Bool, true, false, not, ◌&&◌, ◌||◌, cond, List, [], ◌∷◌, ◌++◌, pos, length, T, leb, ltb}
use Rattle.spec_tree.specs.Outcome.{ok}
use Rattle.spec_tree.specs.Tree.{Name, input, xname, mname, Tree, Const, Op, nil, ◌◂◌, fold, eq_name}
use Rattle.spec_tree.specs.Kinds.{Div}
use Rattle.spec_tree.specs.Facts.{all_operations, cost, some_of, count, all_nodes}
use Rattle.spec_cse.specs.Answer.{Intermediate, Intermediates, Arms, Answer, Let, Match, end, step, no_arm, arm, names, symbols, all_symbols, elem}
use Rattle.spec_tree.specs.Value.{Reading, Env, values}
use Rattle.spec_cse.specs.Read.{answer_values}
use Rattle.spec_cse.specs.Scope.{answer}

-- ---- names

-- every name that an answer binds, arms included
unfoldable mutual
  unfolding names

  pub bound_stmt : Intermediate → List Name
  bound_stmt (Let n e) = n ∷ []
  bound_stmt (Match k key ns arms) = bound_arms arms ++ ns

  pub bound_stmts : Intermediates → List Name
  bound_stmts end = []
  bound_stmts (step s l) = bound_stmt s ++ bound_stmts l

  pub bound_arms : Arms → List Name
  bound_arms no_arm = []
  bound_arms (arm s vs l) = bound_stmts s ++ bound_arms l

unfoldable pub all_different : List Name → Bool
unfolding elem
all_different [] = true
all_different (n ∷ l) = not (elem n l) && all_different l

-- Each is a name bound before and in scope, or an input symbol that the answer does not bind: "a name in an answer is any symbol bound there, or used there without
-- being a Sym of the list".
unfoldable pub known : List Name → List Name → List Name → List Name → Bool
unfolding elem
known inputs bound scope [] = true
known inputs bound scope (n ∷ l) = (elem n scope || (elem n inputs && not (elem n bound))) && known inputs bound scope l

module _ (inputs bound : List Name) where
  unfoldable mutual
    unfolding known symbols all_symbols names

    pub in_scope : Intermediates → List Name → List Tree → Bool
    in_scope end scope vs = known inputs bound scope (all_symbols vs)
    in_scope (step s l) scope vs = stmt_in_scope s scope && in_scope l (names s ++ scope) vs

    -- "a match binds its names where it ends, so its key and arms don't use them"
    pub stmt_in_scope : Intermediate → List Name → Bool
    stmt_in_scope (Let n e) scope = known inputs bound scope (symbols e)
    stmt_in_scope (Match k key ns arms) scope = known inputs bound scope (symbols key) && arms_in_scope arms scope

    -- the scope "of a name bound in an arm is that arm, with the arms inside it": what an arm binds is gone after it
    pub arms_in_scope : Arms → List Name → Bool
    arms_in_scope no_arm scope = true
    arms_in_scope (arm s vs l) scope = in_scope s scope vs && arms_in_scope l scope

-- each name is bound once, and used only later and inside its scope
unfoldable pub well_scoped : List Tree → Answer → Bool
unfolding all_different bound_stmts in_scope all_symbols
well_scoped es a =
    let b = bound_stmts a.inters in
    all_different b && in_scope (all_symbols es) b a.inters [] a.results

-- ---- values

-- An answer's values are the input's, modulo any m from 2 up, whatever the symbols hold and the fixed functions are, which "are the same for the input and both
-- answers".
abbrev pub values_kept : List Tree → Answer → Type 0
values_kept es a = (R : Reading) (ρ : Env) → answer_values R ρ a ≡ values R ρ es

-- ---- the flat answer: its statements, no repeats, and the count

-- of the form 1 / d
abbrev pub Inverse : Tree → Type 0
Inverse e = (d : Tree) × (e ≡ Op Div (Const (pos 1) ◂ d ◂ nil))

-- A statement of a flat answer with x extractions binds some `__xi` by a let. From number x on they are "those bound under Reciprocals", which bind 1 / d.
abbrev pub Flat : ℕ → Intermediate → Type 0
Flat x (Let (input s) e) = ⊥
Flat x (Let (xname i) e) = x ≤ i → Inverse e
Flat x (Let (mname i) e) = ⊥
Flat x (Match k key ns arms) = ⊥

abbrev pub AllFlat : ℕ → Intermediates → Type 0
AllFlat x end = Unit {0}
AllFlat x (step s l) = Flat x s × AllFlat x l

-- so nothing stands outside the bound expressions and the results, and none but a reciprocal is left out of the count
abbrev pub flat_shaped : Answer → Type 0
flat_shaped a = AllFlat a.extracted a.inters

-- the bound expressions of a flat answer, which has no match
unfoldable pub bound_exprs : Intermediates → List Tree
bound_exprs end = []
bound_exprs (step (Let n e) l) = e ∷ bound_exprs l
bound_exprs (step (Match k key ns arms) l) = bound_exprs l

-- "it depends on an input symbol if it holds one, or holds a name whose bound expression does": by what its symbols do
unfoldable pub depends : (Name → Bool) → Tree → Bool
unfolding fold some_of
depends δ = fold δ (λ c. false) (λ k l. some_of l)

-- which symbols do, after a flat answer's statements: a name does if its bound expression does
unfoldable pub dependent : Intermediates → (Name → Bool) → Name → Bool
unfolding depends eq_name
dependent end δ = δ
dependent (step (Let n e) l) δ = dependent l (λ s. cond (eq_name s n) (depends δ e) (δ s))
dependent (step (Match k key ns arms) l) δ = dependent l δ

-- No expression with an operation that depends on an input symbol stands twice: "an expression stands as often as an equal tree occurs in the flat answer's results and
-- bound expressions", and "an operation is a node that costs at least 1".
unfoldable pub no_repeats : List Tree → Answer → Type 0
unfolding dependent depends bound_exprs count all_nodes cost elem all_symbols
no_repeats es a =
    (e : Tree) → T (leb 1 (cost e)) → T (depends (dependent a.inters (λ n. elem n (all_symbols es))) e)
    → count e (all_nodes (a.results ++ bound_exprs a.inters)) ≤ 1

-- the bound expressions of a flat answer but those of reciprocals, which have the numbers from the extraction count on
unfoldable pub extracted_exprs : ℕ → Intermediates → List Tree
extracted_exprs x end = []
extracted_exprs x (step (Let (input s) e) l) = e ∷ extracted_exprs x l
extracted_exprs x (step (Let (xname i) e) l) = elim (ltb i x) [ true ↦ e ∷ extracted_exprs x l | false ↦ extracted_exprs x l ]
extracted_exprs x (step (Let (mname i) e) l) = e ∷ extracted_exprs x l
extracted_exprs x (step (Match k key ns arms) l) = extracted_exprs x l

-- "the extraction count is the number of bindings made by these rounds, reciprocals left out"
abbrev pub counted : Answer → Type 0
counted a = length (extracted_exprs a.extracted a.inters) ≡ a.extracted

-- The count and the flat answer's operations, "in its results and bound expressions, those bound under Reciprocals left out", are together at most "the operations
-- given", which "are counted under all roots of the input".
abbrev pub count_bounded : List Tree → Answer → Type 0
count_bounded es a = a.extracted + all_operations (a.results ++ extracted_exprs a.extracted a.inters) ≤ all_operations es

-- ---- demand 3 for one list

pub record Demand3 (es : List Tree) : Type 0 where
  pub names_once_and_later : (scoped : Bool) (a : Answer) → answer scoped es ≡ ok a → T (well_scoped es a)
  pub same_values : (scoped : Bool) (a : Answer) → answer scoped es ≡ ok a → values_kept es a
  pub only_lets : (a : Answer) → answer false es ≡ ok a → flat_shaped a
  pub none_twice : (a : Answer) → answer false es ≡ ok a → no_repeats es a
  pub count_right : (a : Answer) → answer false es ≡ ok a → counted a
  pub count_at_most : (a : Answer) → answer false es ≡ ok a → count_bounded es a
