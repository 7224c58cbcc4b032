-- The symbols of a list by their rows' numbers, and what the references of an answer say of its symbols (AnswerRows). Assumes nothing.
use Prim.Native.Nat.{ℕ, suc, ◌+◌}
use native.Mathlib.Omega.{arith}
use mathlib.Core.Path.{◌≡◌, refl, sym, ◌∙◌, subst}
use mathlib.Core.Logic.{inl, inr}
use mathlib.Core.Bool.{Bool, true, false, not, ◌&&◌, ◌||◌}
use mathlib.Core.List.{List, [], ◌∷◌, ◌++◌}
use lib.IntN.{pos}
use lib.ListN.{length, get_or}
use lib.Dec.{T, leb, ltb, eqb, lt→ltb}
use Rattle.spec_tree.specs.Bytes.{eq_bytes}
use Rattle.spec_tree.specs.Kinds.{is_switch, arity_ok}
use Rattle.spec_tree.specs.Tree.{Name, input, xname, mname, Tree}
use Rattle.spec_tree.specs.Rows.{Row, row_sym, row_const, row_op}
use Rattle.spec_tree.specs.Passes.{tree_ok, trees_ok}
use Rattle.spec_tree.specs.Tokens.{first_named, number_in, name_of_row, name_in}
use Rattle.spec_tree.proofs.Logic.{and_left, and_right, and_both, or_cases}
use Rattle.spec_tree.proofs.KindLaws.{arity_kind}
use Rattle.spec_tree.proofs.Tests.{is_true}
use Rattle.spec_tree.proofs.TreeLaws.{eq_bytes_sound, eq_bytes_refl}
use Rattle.spec_tree.proofs.TokenCode.{known_name}
use Rattle.spec_cse.specs.Answer.{Intermediate, Intermediates, Arms, Answer, Let, Match, end, step, no_arm, arm, names, symbols, all_symbols, elem}
use Rattle.spec_cse.specs.Read.{arm_count}
use Rattle.spec_cse.specs.Demand.{bound_stmts, all_different, known, in_scope, stmt_in_scope, arms_in_scope}
use Rattle.spec_cse.specs.AnswerRows.{let_name, match_names, intermediate_ok, intermediates_ok, arms_ok, list_names, references_ok}
use Rattle.laws.proofs.cse.Symbols.{elem_cases, holds_by, no_elem}
use Rattle.laws.specs.answer.Fitting.{fitting, all_fitting, a_switch_kind, stmt_fitting, stmts_fitting, arms_fitting, numbered_in}
use Rattle.laws.proofs.answer.SpanLaws.{ok_fitting}

pub numbered_back : (rows : List Row) (s : List ℕ) → T (numbered_in rows s) → name_in rows (number_in rows s) ≡ s
unfolding numbered_in
numbered_back rows s h = eq_bytes_sound (name_in rows (number_in rows s)) s h

-- ---- the first row with a name

pub record Found (i : ℕ) (rows : List Row) (s : List ℕ) : Type 0 where
  pub place : ℕ
  pub first : first_named i rows s ≡ i + place
  pub name : name_of_row (get_or rows place (row_const (pos 0))) ≡ s

found_later : (r : Row) (i : ℕ) (l : List Row) (s : List ℕ) → first_named i (r ∷ l) s ≡ first_named (suc i) l s → Found (suc i) l s → Found i (r ∷ l) s
found_later r i l s e f = record { place = suc f.place; first = e ∙ (f.first ∙ omega arith); name = f.name }

pub found : (i : ℕ) (rows : List Row) (s : List ℕ) → T (elem (input s) (list_names rows)) → Found i rows s
unfolding list_names first_named
found i [] s h = absurd (no_elem (input s) h)
found i (row_sym n ∷ l) s h = go (λ t. found (suc i) l s t) (eq_bytes n s) refl
  where
    later : eq_bytes n s ≡ false → T (elem (input s) (list_names l))
    later e = elim (elem_cases (input s) (input n) (list_names l) h) [
      | inl q ↦ (let same : n ≡ s = cc in
          let t : eq_bytes n s ≡ true = is_true (eq_bytes n s) (subst (λ (m : List ℕ). T (eq_bytes n m)) same (eq_bytes_refl n)) in
          absurd (let z : ◌≡◌ {A = ℕ} 0 1 = cc in omega arith))
      | inr t ↦ t
    ]

    go : (T (elem (input s) (list_names l)) → Found (suc i) l s) → (b : Bool) → eq_bytes n s ≡ b → Found i (row_sym n ∷ l) s
    go more true e = record { place = 0; first = rw (e, first_named) (omega arith); name = unfold name_of_row in eq_bytes_sound n s (subst (λ (b : Bool). T b) (sym e) tt) }
    go more false e = found_later (row_sym n) i l s (rw (e, first_named)) (more (later e))
found i (row_const c ∷ l) s h = found_later (row_const c) i l s refl (found (suc i) l s h)
found i (row_op k ns ∷ l) s h = found_later (row_op k ns) i l s refl (found (suc i) l s h)

pub listed_back : (rows : List Row) (s : List ℕ) → T (elem (input s) (list_names rows)) → T (numbered_in rows s)
unfolding numbered_in number_in name_in
listed_back rows s h =
    let f = found 0 rows s h in
    let z : 0 + f.place ≡ f.place = omega arith in
    let e : name_of_row (get_or rows (first_named 0 rows s) (row_const (pos 0))) ≡ s = rw (f.first, z) f.name in
    subst (λ (m : List ℕ). T (eq_bytes m s)) (sym e) (eq_bytes_refl s)

-- ---- names that an answer makes

unfoldable pub made_names : List Name → Bool
made_names [] = true
made_names (input s ∷ l) = false
made_names (xname n ∷ l) = made_names l
made_names (mname n ∷ l) = made_names l

pub made_append : (a b : List Name) → T (made_names a) → T (made_names b) → T (made_names (a ++ b))
unfolding made_names
made_append [] b h g = g
made_append (input s ∷ a) b h g = h
made_append (xname n ∷ a) b h g = made_append a b h g
made_append (mname n ∷ a) b h g = made_append a b h g

pub made_no_input : (s : List ℕ) (l : List Name) → T (made_names l) → T (elem (input s) l) → ⊥
unfolding made_names
made_no_input s [] h g = no_elem (input s) g
made_no_input s (input r ∷ l) h g = h
made_no_input s (xname n ∷ l) h g =
    elim (elem_cases (input s) (xname n) l g) [ inl e ↦ (let z : ◌≡◌ {A = ℕ} 0 1 = cc in absurd (omega arith)) | inr t ↦ made_no_input s l h t ]
made_no_input s (mname n ∷ l) h g =
    elim (elem_cases (input s) (mname n) l g) [ inl e ↦ (let z : ◌≡◌ {A = ℕ} 0 1 = cc in absurd (omega arith)) | inr t ↦ made_no_input s l h t ]

pub match_made : (ns : List Name) → T (match_names ns) → T (made_names ns)
unfolding match_names made_names
match_made [] h = tt
match_made (input s ∷ l) h = h
match_made (xname n ∷ l) h = absurd h
match_made (mname n ∷ l) h = match_made l h

pub let_made : (n : Name) → T (let_name n) → T (made_names (n ∷ []))
unfolding let_name made_names
let_made (input s) h = h
let_made (xname n) h = tt
let_made (mname n) h = absurd h

-- ---- in scope, a symbol of the list is one of its rows'

module _ (rows : List Row) (bound : List Name) where
  abbrev known_here : Name → Bool
  known_here = known_name (numbered_in rows)

  one_known : (n : Name) (scope : List Name) → T (made_names scope) → T (elem n scope || (elem n (list_names rows) && not (elem n bound))) → T (known_here n)
  unfolding known_name
  one_known (input s) scope m h =
      elim (or_cases (elem (input s) scope) (elem (input s) (list_names rows) && not (elem (input s) bound)) h) [
        | inl a ↦ absurd (made_no_input s scope m a)
        | inr b ↦ listed_back rows s (and_left (elem (input s) (list_names rows)) (not (elem (input s) bound)) b)
      ]
  one_known (xname n) scope m h = tt
  one_known (mname n) scope m h = tt

  all_known : (ns scope : List Name) → T (made_names scope) → T (known (list_names rows) bound scope ns) → (n : Name) → T (elem n ns) → T (known_here n)
  unfolding known
  all_known [] scope m h n t = absurd (no_elem n t)
  all_known (x ∷ l) scope m h n t =
      let test = elem x scope || (elem x (list_names rows) && not (elem x bound)) in
      elim (elem_cases n x l t) [
        | inl e ↦ subst (λ (y : Name). T (known_here y)) e (one_known x scope m (and_left test (known (list_names rows) bound scope l) h))
        | inr u ↦ all_known l scope m (and_right test (known (list_names rows) bound scope l) h) n u
      ]

  tree_fits : (t : Tree) (scope : List Name) → T (tree_ok t) → T (made_names scope) → T (known (list_names rows) bound scope (symbols t)) → T (fitting (numbered_in rows) t)
  tree_fits t scope o m h = ok_fitting (numbered_in rows) t o (holds_by known_here t (all_known (symbols t) scope m h))

  known_left : (a b scope : List Name) → T (known (list_names rows) bound scope (a ++ b)) → T (known (list_names rows) bound scope a)
  unfolding known
  known_left [] b scope h = tt
  known_left (x ∷ a) b scope h =
      let test = elem x scope || (elem x (list_names rows) && not (elem x bound)) in
      and_both test (known (list_names rows) bound scope a) (and_left test (known (list_names rows) bound scope (a ++ b)) h)
      (known_left a b scope (and_right test (known (list_names rows) bound scope (a ++ b)) h))

  known_right : (a b scope : List Name) → T (known (list_names rows) bound scope (a ++ b)) → T (known (list_names rows) bound scope b)
  unfolding known
  known_right [] b scope h = h
  known_right (x ∷ a) b scope h =
      let test = elem x scope || (elem x (list_names rows) && not (elem x bound)) in
      known_right a b scope (and_right test (known (list_names rows) bound scope (a ++ b)) h)

  trees_fit : (vs : List Tree) (scope : List Name) → T (trees_ok vs) → T (made_names scope) → T (known (list_names rows) bound scope (all_symbols vs)) → T (all_fitting (numbered_in rows) vs)
  unfolding trees_ok all_symbols all_fitting
  trees_fit [] scope o m h = tt
  trees_fit (t ∷ l) scope o m h =
      and_both (fitting (numbered_in rows) t) (all_fitting (numbered_in rows) l)
      (tree_fits t scope (and_left (tree_ok t) (trees_ok l) o) m (known_left (symbols t) (all_symbols l) scope h))
      (trees_fit l scope (and_right (tree_ok t) (trees_ok l) o) m (known_right (symbols t) (all_symbols l) scope h))

  names_made : (s : Intermediate) → T (intermediate_ok s) → T (made_names (names s))
  unfolding names intermediate_ok
  names_made (Let n e) h = let_made n (and_left (let_name n) (tree_ok e) h)
  names_made (Match k key ns arms) h =
      let a = is_switch k && arity_ok k (suc (arm_count arms)) in
      let b = leb 1 (length ns) && match_names ns in
      let r = and_right a (tree_ok key && (b && arms_ok (length ns) arms)) h in
      let q = and_left b (arms_ok (length ns) arms) (and_right (tree_ok key) (b && arms_ok (length ns) arms) r) in
      match_made ns (and_right (leb 1 (length ns)) (match_names ns) q)

  switch_kind : (k n : ℕ) → T (is_switch k && arity_ok k n) → T (a_switch_kind k)
  switch_kind k n h = and_both (leb 26 k) (ltb k 29) (and_left (is_switch k) (arity_ok k n) h) (lt→ltb k 29 (arity_kind k n (and_right (is_switch k) (arity_ok k n) h)))

  mutual
    unfolding intermediate_ok stmt_in_scope stmt_fitting

    pub stmt_fits : (s : Intermediate) → T (intermediate_ok s) → (scope : List Name) → T (made_names scope) → T (stmt_in_scope (list_names rows) bound s scope) → T (stmt_fitting (numbered_in rows) s)
    stmt_fits (Let n e) o scope m h =
        and_both (let_name n) (fitting (numbered_in rows) e) (and_left (let_name n) (tree_ok e) o) (tree_fits e scope (and_right (let_name n) (tree_ok e) o) m h)
    stmt_fits (Match k key ns arms) o scope m h =
        let a = is_switch k && arity_ok k (suc (arm_count arms)) in
        let b = leb 1 (length ns) && match_names ns in
        let r = and_right a (tree_ok key && (b && arms_ok (length ns) arms)) o in
        let q = and_right (tree_ok key) (b && arms_ok (length ns) arms) r in
        let kn = known (list_names rows) bound scope (symbols key) in
        let fits = numbered_in rows in
        and_both (a_switch_kind k) (fitting fits key && (match_names ns && arms_fitting fits arms))
        (switch_kind k (suc (arm_count arms)) (and_left a (tree_ok key && (b && arms_ok (length ns) arms)) o))
        (and_both (fitting fits key) (match_names ns && arms_fitting fits arms)
        (tree_fits key scope (and_left (tree_ok key) (b && arms_ok (length ns) arms) r) m (and_left kn (arms_in_scope (list_names rows) bound arms scope) h))
        (and_both (match_names ns) (arms_fitting fits arms)
        (and_right (leb 1 (length ns)) (match_names ns) (and_left b (arms_ok (length ns) arms) q))
        (arms_fit arms (length ns) (and_right b (arms_ok (length ns) arms) q) scope m (and_right kn (arms_in_scope (list_names rows) bound arms scope) h))))

    pub stmts_fit :
        (l : Intermediates) → T (intermediates_ok l) → (scope : List Name) → T (made_names scope) → (vs : List Tree) → T (trees_ok vs) → T (in_scope (list_names rows) bound l scope vs)
        → T (stmts_fitting (numbered_in rows) l) × T (all_fitting (numbered_in rows) vs)
    stmts_fit end o scope m vs v h = (tt, trees_fit vs scope v m h)
    stmts_fit (step s l) o scope m vs v h =
        let a = stmt_in_scope (list_names rows) bound s scope in
        let b = in_scope (list_names rows) bound l (names s ++ scope) vs in
        let g = and_left (intermediate_ok s) (intermediates_ok l) o in
        let rest = stmts_fit l (and_right (intermediate_ok s) (intermediates_ok l) o) (names s ++ scope) (made_append (names s) scope (names_made s g) m) vs v (and_right a b h) in
        (and_both (stmt_fitting (numbered_in rows) s) (stmts_fitting (numbered_in rows) l) (stmt_fits s g scope m (and_left a b h)) rest.0, rest.1)

    pub arms_fit : (arms : Arms) (n : ℕ) → T (arms_ok n arms) → (scope : List Name) → T (made_names scope) → T (arms_in_scope (list_names rows) bound arms scope) → T (arms_fitting (numbered_in rows) arms)
    arms_fit no_arm n o scope m h = tt
    arms_fit (arm s vs l) n o scope m h =
        let a = intermediates_ok s && (eqb (length vs) n && trees_ok vs) in
        let g = and_left a (arms_ok n l) o in
        let v = and_right (eqb (length vs) n) (trees_ok vs) (and_right (intermediates_ok s) (eqb (length vs) n && trees_ok vs) g) in
        let i = in_scope (list_names rows) bound s scope vs in
        let j = arms_in_scope (list_names rows) bound l scope in
        let here = stmts_fit s (and_left (intermediates_ok s) (eqb (length vs) n && trees_ok vs) g) scope m vs v (and_left i j h) in
        and_both (stmts_fitting (numbered_in rows) s && all_fitting (numbered_in rows) vs) (arms_fitting (numbered_in rows) l)
        (and_both (stmts_fitting (numbered_in rows) s) (all_fitting (numbered_in rows) vs) here.0 here.1)
        (arms_fit l n (and_right a (arms_ok n l) o) scope m (and_right i j h))

-- an answer whose references are right has symbols of the list alone beside its names
pub answer_fits :
    (rows : List Row) (a : Answer) → T (intermediates_ok a.inters) → T (trees_ok a.results) → T (references_ok rows a)
    → T (stmts_fitting (numbered_in rows) a.inters) × T (all_fitting (numbered_in rows) a.results)
unfolding references_ok made_names
answer_fits rows a o v h =
    let b = bound_stmts a.inters in
    stmts_fit rows b a.inters o [] tt a.results v (and_right (all_different b) (in_scope (list_names rows) b a.inters [] a.results) h)
