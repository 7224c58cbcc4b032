-- Members replaced one after another in everything are steps at each tree (01, "Scoped fusion"). Assumes nothing.
use Prim.Native.Nat.{ℕ, suc, ◌+◌}
use native.Mathlib.Omega.{arith}
use mathlib.Core.Path.{◌≡◌, refl, sym, ◌∙◌, ap, ap₂}
use mathlib.Core.List.{List, [], ◌∷◌, ◌++◌, map}
use lib.ListN.{length}
use Rattle.spec_tree.specs.Tree.{mname, Tree}
use Rattle.spec_rewrite.specs.Rewrite.{replace_outside_arms}
use Rattle.spec_cse.specs.Answer.{Intermediate, Let, Match}
use Rattle.spec_cse.specs.Scope.{Switch, replace_in_results, replace_in_stmts, Work, name_members}
use Rattle.fusion.specs.Settled.{Step, fused_tree, fused_stmt, member_steps}

-- ---- lists

pub map_twice : {A : Type 0} (f g h : A → A) → ((a : A) → g (f a) ≡ h a) → (l : List A) → map g (map f l) ≡ map h l
map_twice f g h e [] = refl
map_twice f g h e (a ∷ l) = ap₂ ◌∷◌ (e a) (map_twice f g h e l)

pub map_stays : {A : Type 0} (f : A → A) → ((a : A) → f a ≡ a) → (l : List A) → map f l ≡ l
map_stays f e [] = refl
map_stays f e (a ∷ l) = ap₂ ◌∷◌ (e a) (map_stays f e l)

-- ---- steps

pub fused_none : (t : Tree) → fused_tree [] t ≡ t
unfolding fused_tree
fused_none t = refl

pub fused_more : (a b : List Step) (t : Tree) → fused_tree (a ++ b) t ≡ fused_tree b (fused_tree a t)
unfolding fused_tree
fused_more [] b t = refl
fused_more (s ∷ a) b t = fused_more a b (replace_outside_arms s.member (mname s.number) t)

pub stmt_none : (s : Intermediate) → fused_stmt [] s ≡ s
unfolding fused_stmt fused_tree
stmt_none (Let n e) = refl
stmt_none (Match k key ns arms) = refl

pub stmt_more : (a b : List Step) (s : Intermediate) → fused_stmt (a ++ b) s ≡ fused_stmt b (fused_stmt a s)
unfolding fused_stmt
stmt_more a b (Let n e) = ap (Let n) (fused_more a b e)
stmt_more a b (Match k key ns arms) = ap (λ (t : Tree). Match k t ns arms) (fused_more a b key)

-- ---- one step at everything

module _ (m : Tree) (i : ℕ) where
  abbrev one : List Step
  one = record { member = m; number = i } ∷ []

  results_step : (l : List Tree) → replace_in_results m (mname i) l ≡ map (fused_tree one) l
  unfolding replace_in_results fused_tree
  results_step [] = refl
  results_step (t ∷ l) = ap (λ (r : List Tree). replace_outside_arms m (mname i) t ∷ r) (results_step l)

  stmts_step : (l : List Intermediate) → replace_in_stmts m (mname i) l ≡ map (fused_stmt one) l
  unfolding replace_in_stmts fused_stmt fused_tree
  stmts_step [] = refl
  stmts_step (Let n e ∷ l) = ap (λ (r : List Intermediate). Let n (replace_outside_arms m (mname i) e) ∷ r) (stmts_step l)
  stmts_step (Match k key ns arms ∷ l) = ap (λ (r : List Intermediate). Match k (replace_outside_arms m (mname i) key) ns arms ∷ r) (stmts_step l)

-- ---- the members of one group

pub same_work :
    (rs us : List Tree) (is js : List Intermediate) (n m x y : ℕ) → rs ≡ us → is ≡ js → n ≡ m → x ≡ y
    → ◌≡◌ {A = Work} (record { results = rs; inters = is; next = n; extracted = x }) (record { results = us; inters = js; next = m; extracted = y })
same_work rs us is js n m x y a b c d =
    ap (λ (r : List Tree). record { results = r; inters = is; next = n; extracted = x }) a
    ∙ (ap (λ (i : List Intermediate). record { results = us; inters = i; next = n; extracted = x }) b
    ∙ (ap (λ (k : ℕ). record { results = us; inters = js; next = k; extracted = x }) c
    ∙ ap (λ (k : ℕ). record { results = us; inters = js; next = m; extracted = k }) d))

abbrev pub named_work : List Switch → Work → Work
named_work l w =
    record {
      results = map (fused_tree (member_steps w.next l)) w.results;
      inters = map (fused_stmt (member_steps w.next l)) w.inters;
      next = w.next + length l;
      extracted = w.extracted;
    }

named_from :
    (l : List Switch) (rs : List Tree) (is : List Intermediate) (n x : ℕ)
    → name_members l (record { results = rs; inters = is; next = n; extracted = x }) ≡ named_work l (record { results = rs; inters = is; next = n; extracted = x })
unfolding name_members member_steps
named_from [] rs is n x =
    let z : n ≡ n + 0 = omega arith in
    same_work rs (map (fused_tree []) rs) is (map (fused_stmt []) is) n (n + 0) x x (sym (map_stays (fused_tree []) fused_none rs))
    (sym (map_stays (fused_stmt []) stmt_none is)) z refl
named_from (s ∷ l) rs is n x =
    let a : Step = record { member = s.tree; number = n } in
    let r = member_steps (suc n) l in
    let us = replace_in_results s.tree (mname n) rs in
    let js = replace_in_stmts s.tree (mname n) is in
    let z : suc n + length l ≡ n + suc (length l) = omega arith in
    named_from l us js (suc n) x
    ∙ same_work (map (fused_tree r) us) (map (fused_tree (a ∷ r)) rs) (map (fused_stmt r) js) (map (fused_stmt (a ∷ r)) is) (suc n + length l) (n + suc (length l)) x x
    (ap (map (fused_tree r)) (results_step s.tree n rs)
    ∙ map_twice (fused_tree (a ∷ [])) (fused_tree r) (fused_tree (a ∷ r)) (λ (t : Tree). sym (fused_more (a ∷ []) r t)) rs)
    (ap (map (fused_stmt r)) (stmts_step s.tree n is)
    ∙ map_twice (fused_stmt (a ∷ [])) (fused_stmt r) (fused_stmt (a ∷ r)) (λ (t : Intermediate). sym (stmt_more (a ∷ []) r t)) is)
    z refl

-- naming a group's members is their steps at every tree
pub named_are : (l : List Switch) (w : Work) → name_members l w ≡ named_work l w
named_are l w = named_from l w.results w.inters w.next w.extracted
