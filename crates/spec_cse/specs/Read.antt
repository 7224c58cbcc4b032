-- Answers read in order: what each statement gives its names, and an answer's values (01, "Value, for demand 3"). Assumes nothing.
use Rattle.std.specs.Prelude.{ℕ, zero, suc, cond, List, [], ◌∷◌}
use Rattle.spec_tree.specs.Tree.{Name, eq_name}
use Rattle.spec_cse.specs.Answer.{Intermediate, Intermediates, Arms, Answer, Let, Match, end, step, no_arm, arm}
use Rattle.spec_tree.specs.Value.{Reading, Env, choice, value, values}

-- ---- answers, read in order

unfoldable pub set : Env → Name → ℕ → Env
unfolding eq_name
set ρ n v = λ s. cond (eq_name s n) v (ρ s)

-- names take the values in order, 0 where there is none
unfoldable pub set_each : Env → List Name → List ℕ → Env
unfolding set
set_each ρ [] vs = ρ
set_each ρ (n ∷ ns) [] = set_each (set ρ n 0) ns []
set_each ρ (n ∷ ns) (v ∷ vs) = set_each (set ρ n v) ns vs

unfoldable pub arm_count : Arms → ℕ
arm_count no_arm = 0
arm_count (arm s vs l) = suc (arm_count l)

module _ (R : Reading) where
  unfoldable mutual
    unfolding value values set set_each choice arm_count

    pub read_stmt : Intermediate → Env → Env
    read_stmt (Let n e) ρ = set ρ n (value R ρ e)
    read_stmt (Match k key ns arms) ρ = set_each ρ ns (read_arm arms (choice R k (arm_count arms) (value R ρ key)) ρ)

    pub read_stmts : Intermediates → Env → Env
    read_stmts end ρ = ρ
    read_stmts (step s l) ρ = read_stmts l (read_stmt s ρ)

    -- the values of the arm at a place, and none past the last
    pub read_arm : Arms → ℕ → Env → List ℕ
    read_arm no_arm i ρ = []
    read_arm (arm s vs l) zero ρ = values R (read_stmts s ρ) vs
    read_arm (arm s vs l) (suc i) ρ = read_arm l i ρ

  unfoldable pub answer_values : Env → Answer → List ℕ
  unfolding read_stmts values
  answer_values ρ a = values R (read_stmts a.inters ρ) a.results
