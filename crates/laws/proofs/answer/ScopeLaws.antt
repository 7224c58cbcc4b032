-- Names used in rows are bound on the way to them exactly where the answer's names are in scope (Seen). Assumes nothing.
use Prim.Native.Nat.{ℕ, zero, suc, ◌+◌, ◌*◌, ◌%◌, ◌≤◌, ◌<◌}
use native.Mathlib.Omega.{arith}
use mathlib.Core.Path.{◌≡◌, refl, sym, ◌∙◌, ap, ap₂, subst}
use mathlib.Core.Logic.{◌⊎◌, inl, inr}
use mathlib.Core.Bool.{Bool, true, false, not, ◌&&◌, ◌||◌}
use mathlib.Core.Option.{some}
use mathlib.Core.List.{List, [], ◌∷◌, ◌++◌, append_assoc}
use borrow.Author.Tests.{ne_eqb}
use lib.IntN.{pos}
use lib.ListN.{length, get_or, drop, length-append}
use lib.Seq.{drop-drop, drop_at, get_or-drop}
use lib.Dec.{T, eqb, leb, ltb, leb→le, ltb→lt}
use Rattle.spec_tree.specs.Kinds.{is_switch, arity_ok}
use Rattle.spec_tree.specs.Symbol.{is_name}
use Rattle.spec_tree.specs.Tree.{Name, input, xname, mname, Tree, Forest, Sym, Const, Op, nil, ◌◂◌, operands, folds, eq_name}
use Rattle.spec_tree.specs.Rows.{Row, row_sym, row_const, row_op}
use Rattle.spec_tree.specs.Passes.{all_of, symbol_ok, of_paper, operands_ok, tree_ok, trees_ok}
use Rattle.spec_tree.specs.Tokens.{word, constant_code, name_code, tokens, tokens_of, number_in, name_in, name_of_row, kind_of, below_of}
use Rattle.spec_tree.proofs.Logic.{and_left, and_right, and_assoc, not_true, or_true, or_assoc}
use Rattle.spec_tree.proofs.Tests.{is_true}
use Rattle.spec_tree.proofs.TokenCode.{known_name}
use Rattle.spec_cse.specs.Answer.{Intermediate, Intermediates, Arms, Let, Match, end, step, no_arm, arm, names, concat, symbols, all_symbols, elem}
use Rattle.spec_cse.specs.Read.{arm_count}
use Rattle.spec_cse.specs.Demand.{bound_stmt, bound_stmts, bound_arms, known, in_scope, stmt_in_scope, arms_in_scope}
use Rattle.spec_cse.specs.AnswerRows.{let_row, match_row, name_row, arm_row, value_row, step_count, names_words, each_words, intermediate_words, intermediates_words, arms_words, let_name, match_names, intermediate_ok, intermediates_ok, arms_ok, list_names}
use Rattle.laws.proofs.cse.Symbols.{elem_here, elem_later}
use Rattle.laws.specs.answer.Fitting.{an_operation_kind, fitting, fitting_each, all_fitting, a_switch_kind, stmt_fitting, stmts_fitting, arms_fitting, numbered_in}
use Rattle.laws.specs.answer.Seen.{span_words, entered, names_bind, match_binds, binds, bound_by, is_use, use_ok, seen}
use Rattle.laws.proofs.answer.ListNames.{numbered_back, made_names, made_append, made_no_input, let_made, match_made}
use Rattle.laws.proofs.answer.HeadLaws.{arms_some}
use Rattle.laws.proofs.answer.SpanWords.{Whole, tree_whole, each_row, stmt_whole, arm_whole, name_whole}
use Rattle.laws.proofs.answer.BoundLaws.{whole_span, pass, enter, stop, enters_match, enters_arm, enters_no, enters_none, binds_let, binds_match, binds_low, binds_high, code_same, let_made_name, names_bound}

-- ---- tests

or_false : (b : Bool) → (b || false) ≡ b
or_false true = refl
or_false false = refl

and_true : (b : Bool) → (b && true) ≡ b
and_true true = refl
and_true false = refl

or_swap : (s n b : Bool) → (s || (n || b)) ≡ ((n || s) || b)
or_swap true true b = refl
or_swap true false b = refl
or_swap false true b = refl
or_swap false false b = refl

elem_cons : (x n : Name) (l : List Name) → elem x (n ∷ l) ≡ (eq_name n x || elem x l)
unfolding elem
elem_cons x n l = go (eq_name n x)
  where
    go : (b : Bool) → ◌≡◌ {A = Bool} (elim b [ true ↦ true | false ↦ elem x l ]) (b || elem x l)
    go true = refl
    go false = refl

pub elem_nil : (x : Name) → elem x [] ≡ false
unfolding elem
elem_nil x = refl

pub elem_both : (x : Name) (a b : List Name) → elem x (a ++ b) ≡ (elem x a || elem x b)
elem_both x [] b = sym (ap (λ (t : Bool). t || elem x b) (elem_nil x))
elem_both x (n ∷ a) b =
    elem_cons x n (a ++ b) ∙ (ap (λ (t : Bool). eq_name n x || t) (elem_both x a b) ∙ (or_assoc (eq_name n x) (elem x a) (elem x b) ∙ ap (λ (t : Bool). t || elem x b) (sym (elem_cons x n a))))

-- ---- places

module _ (ws : List ℕ) where
  front : (q w : ℕ) (l : List ℕ) → drop q ws ≡ w ∷ l → get_or ws q 0 ≡ w
  front q w l e =
      let z : q ≡ q + 0 = omega arith in
      ap (λ (n : ℕ). get_or ws n 0) z ∙ (sym (get_or-drop q ws 0 0) ∙ ap (λ (x : List ℕ). get_or x 0 0) e)

  next : (q w : ℕ) (l : List ℕ) → drop q ws ≡ w ∷ l → drop (suc q) ws ≡ l
  next q w l e =
      let z : suc q ≡ q + 1 = omega arith in
      ap (λ (n : ℕ). drop n ws) z ∙ (sym (drop-drop 1 q ws) ∙ ap (drop 1) e)

  move : (q : ℕ) (a l : List ℕ) → drop q ws ≡ a ++ l → drop (q + length a) ws ≡ l
  move q a l e = sym (drop-drop (length a) q ws) ∙ (ap (drop (length a)) e ∙ drop_at a l (length a) refl)

  pub seen_add : (q m n : ℕ) → seen ws q (m + n) ≡ (seen ws q m && seen ws (q + m) n)
  unfolding seen
  seen_add q zero n =
      let z : 0 + n ≡ n = omega arith in
      let y : q + 0 ≡ q = omega arith in
      rw (z, y)
  seen_add q (suc m) n =
      let z : suc m + n ≡ suc (m + n) = omega arith in
      let y : suc q + m ≡ q + suc m = omega arith in
      rw (z, seen) (ap (λ (b : Bool). use_ok ws q && b) (seen_add (suc q) m n ∙ ap (λ (k : ℕ). seen ws (suc q) m && seen ws k n) y) ∙ sym (and_assoc (use_ok ws q) (seen ws (suc q) m) (seen ws (q + suc m) n)))

  no_use : (w : ℕ) → (kind_of w ≡ 0 → ⊥) → is_use w ≡ false
  no_use w n = rw (ne_eqb (kind_of w) 0 n)

  unused : (q w : ℕ) (l : List ℕ) → drop q ws ≡ w ∷ l → is_use w ≡ false → use_ok ws q ≡ true
  unfolding use_ok
  unused q w l e h =
      let t : is_use (get_or ws q 0) ≡ false = ap is_use (front q w l e) ∙ h in
      rw (t, use_ok)

  used : (q w : ℕ) (l : List ℕ) → drop q ws ≡ w ∷ l → is_use w ≡ true → use_ok ws q ≡ bound_by (below_of w) 0 q ws
  unfolding use_ok
  used q w l e h =
      let f = front q w l e in
      let t : is_use (get_or ws q 0) ≡ true = ap is_use f ∙ h in
      rw (t, use_ok) (ap (λ (v : ℕ). bound_by (below_of v) 0 q ws) f)

  -- a row that is no use of a name
  seen_row : (q w n : ℕ) (l : List ℕ) → drop q ws ≡ w ∷ l → (kind_of w ≡ 0 → ⊥) → seen ws q (suc n) ≡ seen ws (suc q) n
  unfolding seen
  seen_row q w n l e h = rw (unused q w l e (no_use w h))

-- ---- symbols

module _ (rows : List Row) (b : List Name) (b_made : T (made_names b)) where
  abbrev number : List ℕ → ℕ
  number = number_in rows

  abbrev known_here : List ℕ → Bool
  known_here = numbered_in rows

  abbrev inputs : List Name
  inputs = list_names rows

  abbrev code : Name → ℕ
  code = name_code number

  abbrev Made : Name → Type 0
  Made x = T (made_names (x ∷ []))

  row_listed : (l : List Row) (n : ℕ) (s : List ℕ) → name_of_row (get_or l n (row_const (pos 0))) ≡ s → T (is_name s) → T (elem (input s) (list_names l))
  unfolding name_of_row list_names
  row_listed [] n s e h = absurd (unfold is_name in subst (λ (x : List ℕ). T (is_name x)) (sym e) h)
  row_listed (row_sym m ∷ l) zero s e h = subst (λ (x : List ℕ). T (elem (input s) (input x ∷ list_names l))) (sym e) (elem_here (input s) (list_names l))
  row_listed (row_const c ∷ l) zero s e h = absurd (unfold is_name in subst (λ (x : List ℕ). T (is_name x)) (sym e) h)
  row_listed (row_op k ns ∷ l) zero s e h = absurd (unfold is_name in subst (λ (x : List ℕ). T (is_name x)) (sym e) h)
  row_listed (row_sym m ∷ l) (suc n) s e h = elem_later (input s) (input m) (list_names l) (row_listed l n s e h)
  row_listed (row_const c ∷ l) (suc n) s e h = row_listed l n s e h
  row_listed (row_op k ns ∷ l) (suc n) s e h = row_listed l n s e h

  not_listed : (l : List Row) (x : Name) → Made x → elem x (list_names l) ≡ false
  unfolding list_names
  not_listed [] x m = elem_nil x
  not_listed (row_sym s ∷ l) x m = elem_cons x (input s) (list_names l) ∙ go x m (not_listed l x m)
    where
      go : (y : Name) → Made y → elem y (list_names l) ≡ false → (eq_name (input s) y || elem y (list_names l)) ≡ false
      go (input r) k e = absurd (unfold made_names in k)
      go (xname i) k e = unfold eq_name in e
      go (mname i) k e = unfold eq_name in e
  not_listed (row_const c ∷ l) x m = not_listed l x m
  not_listed (row_op k ns ∷ l) x m = not_listed l x m

  abbrev test : Name → List Name → Bool
  test n scope = elem n scope || (elem n inputs && not (elem n b))

  test_input : (s : List ℕ) (scope : List Name) → T (is_name s) → T (known_here s) → test (input s) scope ≡ true
  test_input s scope h k =
      let l : T (elem (input s) inputs) = row_listed rows (number s) s (unfold name_in in numbered_back rows s k) h in
      let n : elem (input s) b ≡ false = not_true (elem (input s) b) (made_no_input s b b_made) in
      rw (is_true (elem (input s) inputs) l, n) (or_true (elem (input s) scope))

  test_made : (x : Name) (scope : List Name) → Made x → test x scope ≡ elem x scope
  test_made x scope m = rw (not_listed rows x m) (or_false (elem x scope))

  known_cons : (n : Name) (l scope : List Name) → known inputs b scope (n ∷ l) ≡ (test n scope && known inputs b scope l)
  unfolding known
  known_cons n l scope = refl

  known_nil : (scope : List Name) → known inputs b scope [] ≡ true
  unfolding known
  known_nil scope = refl

  known_both : (l r scope : List Name) → known inputs b scope (l ++ r) ≡ (known inputs b scope l && known inputs b scope r)
  known_both [] r scope = sym (ap (λ (t : Bool). t && known inputs b scope r) (known_nil scope))
  known_both (n ∷ l) r scope =
      known_cons n (l ++ r) scope
      ∙ (ap (λ (t : Bool). test n scope && t) (known_both l r scope)
      ∙ (sym (and_assoc (test n scope) (known inputs b scope l) (known inputs b scope r)) ∙ ap (λ (t : Bool). t && known inputs b scope r) (sym (known_cons n l scope))))

  -- ---- a tree at whose places one scope is bound

  abbrev fold_symbols : Forest → List Name
  fold_symbols f = concat (folds (λ n. n ∷ []) (λ c. []) (λ k l. concat l) f)

  abbrev tests : Forest → List Bool
  tests f = folds symbol_ok of_paper (λ k l. operands_ok k (length l) && all_of l) f

  module _ (ws : List ℕ) (scope : List Name) where
    unfoldable pub Inside : ℕ → ℕ → Type 0
    Inside q n = (x : Name) → Made x → (j : ℕ) → j < n → bound_by (code x) 0 (q + j) ws ≡ elem x scope

    made_use : (x : Name) → Made x → is_use (word 0 (code x)) ≡ true
    unfolding made_names name_code
    made_use (input s) m = absurd m
    made_use (xname i) m =
        let w = word 0 (1 + 3 * i) in
        let k : kind_of w ≡ 0 = omega arith in
        let d : below_of w ≡ 1 + 3 * i = omega arith in
        let c : (1 + 3 * i) % 3 ≡ 1 = omega arith in
        rw (k, d, c)
    made_use (mname i) m =
        let w = word 0 (2 + 3 * i) in
        let k : kind_of w ≡ 0 = omega arith in
        let d : below_of w ≡ 2 + 3 * i = omega arith in
        let c : (2 + 3 * i) % 3 ≡ 2 = omega arith in
        rw (k, d, c)

    list_use : (s : List ℕ) → is_use (word 0 (3 * number s)) ≡ false
    list_use s =
        let w = word 0 (3 * number s) in
        let k : kind_of w ≡ 0 = omega arith in
        let d : below_of w ≡ 3 * number s = omega arith in
        let c : (3 * number s) % 3 ≡ 0 = omega arith in
        rw (k, d, c)

    symbol_made : (x : Name) (q : ℕ) (r : List ℕ) → Made x → drop q ws ≡ word 0 (code x) ∷ r → Inside q 1 → use_ok ws q ≡ test x scope
    unfolding Inside
    symbol_made x q r m e h =
        let w = word 0 (code x) in
        let d : below_of w ≡ code x = omega arith in
        let z : q + 0 ≡ q = omega arith in
        used ws q w r e (made_use x m)
        ∙ (ap (λ (c : ℕ). bound_by c 0 q ws) d ∙ (ap (λ (k : ℕ). bound_by (code x) 0 k ws) (sym z) ∙ (h x m 0 (omega arith) ∙ sym (test_made x scope m))))

    symbol_seen : (n : Name) (q : ℕ) (r : List ℕ) → T (symbol_ok n) → T (known_name known_here n) → drop q ws ≡ word 0 (code n) ∷ r → Inside q 1 → use_ok ws q ≡ test n scope
    unfolding symbol_ok known_name name_code made_names
    symbol_seen (input s) q r o k e h = unused ws q (word 0 (3 * number s)) r e (list_use s) ∙ sym (test_input s scope o k)
    symbol_seen (xname i) q r o k e h = symbol_made (xname i) q r tt e h
    symbol_seen (mname i) q r o k e h = symbol_made (mname i) q r tt e h

    later : (q m n : ℕ) → Inside q (m + n) → Inside (q + m) n
    unfolding Inside
    later q m n h x k j l =
        let z : q + m + j ≡ q + (m + j) = omega arith in
        ap (λ (i : ℕ). bound_by (code x) 0 i ws) z ∙ h x k (m + j) (omega arith)

    sooner : (q m n : ℕ) → Inside q (m + n) → Inside q m
    unfolding Inside
    sooner q m n h x k j l = h x k j (omega arith)

    after_row : (q n : ℕ) → Inside q (suc n) → Inside (suc q) n
    unfolding Inside
    after_row q n h x k j l =
        let z : suc q + j ≡ q + suc j = omega arith in
        ap (λ (i : ℕ). bound_by (code x) 0 i ws) z ∙ h x k (suc j) (omega arith)

    one_seen : (q : ℕ) → seen ws q 1 ≡ use_ok ws q
    unfolding seen
    one_seen q = and_true (use_ok ws q)

    none_seen : (q : ℕ) → seen ws q 0 ≡ true
    unfolding seen
    none_seen q = refl

    InsideSame : (q m n : ℕ) → m ≡ n → Inside q m → Inside q n
    InsideSame q m n e h = subst (λ (k : ℕ). Inside q k) e h

    mutual
      unfolding tree_ok all_of fitting tokens symbols concat

      pub tree_seen :
          (t : Tree) → T (tree_ok t) → T (fitting known_here t) → (q : ℕ) (r : List ℕ) → drop q ws ≡ tokens number t ++ r → Inside q (length (tokens number t))
          → seen ws q (length (tokens number t)) ≡ known inputs b scope (symbols t)
      tree_seen (Sym n) o f q r e h = one_seen q ∙ (symbol_seen n q r o f e h ∙ (sym (and_true (test n scope)) ∙ (ap (λ (t : Bool). test n scope && t) (sym (known_nil scope)) ∙ sym (known_cons n [] scope))))
      tree_seen (Const c) o f q r e h = one_seen q ∙ (unused ws q (word 1 (constant_code c)) r e (no_use ws (word 1 (constant_code c)) (λ z. omega arith)) ∙ sym (known_nil scope))
      tree_seen (Op k g) o f q r e h =
          let a = and_left (an_operation_kind k) (fitting_each known_here g) f in
          let low = leb→le 2 k (and_left (leb 2 k) (ltb k 29) a) in
          let high = ltb→lt k 29 (and_right (leb 2 k) (ltb k 29) a) in
          let w = word k (length (operands g)) in
          seen_row ws q w (length (tokens_of number g)) (tokens_of number g ++ r) e (λ z. omega arith)
          ∙ forest_seen g (and_right (operands_ok k (length (tests g))) (all_of (tests g)) o) (and_right (an_operation_kind k) (fitting_each known_here g) f) (suc q) r
          (next ws q w (tokens_of number g ++ r) e) (after_row q (length (tokens_of number g)) h)

      pub forest_seen :
          (g : Forest) → T (all_of (tests g)) → T (fitting_each known_here g) → (q : ℕ) (r : List ℕ) → drop q ws ≡ tokens_of number g ++ r → Inside q (length (tokens_of number g))
          → seen ws q (length (tokens_of number g)) ≡ known inputs b scope (fold_symbols g)
      forest_seen nil o f q r e h = none_seen q ∙ sym (known_nil scope)
      forest_seen (t ◂ g) o f q r e h =
          let x = tokens number t in
          let y = tokens_of number g in
          let l = length-append x y in
          let d : drop q ws ≡ x ++ (y ++ r) = e ∙ append_assoc x y r in
          let i = InsideSame q (length (x ++ y)) (length x + length y) l h in
          ap (seen ws q) l
          ∙ (seen_add ws q (length x) (length y)
          ∙ (ap₂ ◌&&◌
          (tree_seen t (and_left (tree_ok t) (all_of (tests g)) o) (and_left (fitting known_here t) (fitting_each known_here g) f) q (y ++ r) d (sooner q (length x) (length y) i))
          (forest_seen g (and_right (tree_ok t) (all_of (tests g)) o) (and_right (fitting known_here t) (fitting_each known_here g) f) (q + length x) r (move ws q x (y ++ r) d) (later q (length x) (length y) i))
          ∙ sym (known_both (symbols t) (fold_symbols g) scope)))

  -- ---- on the way to a place before E, what is bound is the scope at q and what is bound from q on

  module _ (ws : List ℕ) where
    Leads : ℕ → ℕ → List Name → Type 0
    Leads q E scope = (x : Name) → Made x → (p : ℕ) → q + p < E → bound_by (code x) 0 (q + p) ws ≡ (elem x scope || bound_by (code x) 0 p (drop q ws))

    -- past a part that binds some names
    leads_pass :
        (q E w : ℕ) (l r : List ℕ) (scope ns : List Name) → drop q ws ≡ w ∷ (l ++ r) → Whole (w ∷ l) 1 → ((x : Name) → Made x → binds (code x) w (l ++ r) ≡ elem x ns)
        → Leads q E scope → Leads (q + suc (length l)) E (ns ++ scope)
    unfolding Leads
    leads_pass q E w l r scope ns e f g h x m p less =
        let n = suc (length l) in
        let z : q + n + p ≡ q + (n + p) = omega arith in
        let past : drop (q + n) ws ≡ r = move ws q (w ∷ l) r e in
        ap (λ (i : ℕ). bound_by (code x) 0 i ws) z
        ∙ (h x m (n + p) (omega arith)
        ∙ (ap (λ (t : List ℕ). elem x scope || bound_by (code x) 0 (n + p) t) e
        ∙ (ap (λ (t : Bool). elem x scope || t) (pass (code x) w l f r p ∙ ap (λ (t : Bool). t || bound_by (code x) 0 p r) (g x m))
        ∙ (or_swap (elem x scope) (elem x ns) (bound_by (code x) 0 p r)
        ∙ ap₂ ◌||◌ (sym (elem_both x ns scope)) (ap (bound_by (code x) 0 p) (sym past))))))

    -- below a row that is entered
    leads_enter :
        (q E F w : ℕ) (l r : List ℕ) (scope : List Name) → drop q ws ≡ w ∷ (l ++ r) → Whole (w ∷ l) 1 → entered w ≡ true → F ≤ q + suc (length l) → F ≤ E → Leads q E scope → Leads (suc q) F scope
    unfolding Leads
    leads_enter q E F w l r scope e f g low high h x m p less =
        let z : suc q + p ≡ q + suc p = omega arith in
        let n : drop (suc q) ws ≡ l ++ r = next ws q w (l ++ r) e in
        ap (λ (i : ℕ). bound_by (code x) 0 i ws) z
        ∙ (h x m (suc p) (omega arith)
        ∙ (ap (λ (t : List ℕ). elem x scope || bound_by (code x) 0 (suc p) t) e
        ∙ ap (λ (t : Bool). elem x scope || t) (enter (code x) w l f r p (omega arith) g ∙ ap (bound_by (code x) 0 p) (sym n))))

    -- below a row that is not
    leads_stop :
        (q E w : ℕ) (l r : List ℕ) (scope : List Name) → drop q ws ≡ w ∷ (l ++ r) → Whole (w ∷ l) 1 → entered w ≡ false → q + suc (length l) ≤ E → Leads q E scope → Inside ws scope (suc q) (length l)
    unfolding Leads Inside
    leads_stop q E w l r scope e f g high h x m j less =
        let z : suc q + j ≡ q + suc j = omega arith in
        ap (λ (i : ℕ). bound_by (code x) 0 i ws) z
        ∙ (h x m (suc j) (omega arith)
        ∙ (ap (λ (t : List ℕ). elem x scope || bound_by (code x) 0 (suc j) t) e
        ∙ (ap (λ (t : Bool). elem x scope || t) (stop (code x) w l f r j less g) ∙ or_false (elem x scope))))

    at_once : (c : ℕ) (l : List ℕ) → bound_by c 0 0 l ≡ false
    unfolding bound_by
    at_once c l = refl

    -- in a part that is not entered
    leads_inside :
        (q E w : ℕ) (l r : List ℕ) (scope : List Name) → drop q ws ≡ w ∷ (l ++ r) → Whole (w ∷ l) 1 → entered w ≡ false → q + suc (length l) ≤ E → Leads q E scope → Inside ws scope q (suc (length l))
    unfolding Leads Inside
    leads_inside q E w l r scope e f g high h x m zero less =
        h x m 0 (omega arith) ∙ (ap (λ (t : Bool). elem x scope || t) (at_once (code x) (drop q ws)) ∙ or_false (elem x scope))
    leads_inside q E w l r scope e f g high h x m (suc j) less =
        h x m (suc j) (omega arith)
        ∙ (ap (λ (t : List ℕ). elem x scope || bound_by (code x) 0 (suc j) t) e
        ∙ (ap (λ (t : Bool). elem x scope || t) (stop (code x) w l f r j (omega arith) g) ∙ or_false (elem x scope)))

    binds_nothing : (w : ℕ) (l : List ℕ) → (kind_of w < 29) ⊎ (33 ≤ kind_of w) → (x : Name) → Made x → binds (code x) w l ≡ elem x []
    binds_nothing w l (inl h) x m = binds_low (code x) w l h ∙ sym (elem_nil x)
    binds_nothing w l (inr h) x m = binds_high (code x) w l h ∙ sym (elem_nil x)

    -- ---- a tree as a part

    tree_front : (t : Tree) → T (fitting known_here t) → (w : ℕ) × (l : List ℕ) × (tokens number t ≡ w ∷ l) × (kind_of w < 29)
    unfolding tokens fitting
    tree_front (Sym n) h = (word 0 (code n), [], refl, omega arith)
    tree_front (Const c) h = (word 1 (constant_code c), [], refl, omega arith)
    tree_front (Op k f) h =
        let a = and_left (an_operation_kind k) (fitting_each known_here f) h in
        let high = ltb→lt k 29 (and_right (leb 2 k) (ltb k 29) a) in
        (word k (length (operands f)), tokens_of number f, refl, omega arith)

    record Key (t : Tree) (q E : ℕ) (scope : List Name) : Type 0 where
      inside : Inside ws scope q (length (tokens number t))
      leads : Leads (q + length (tokens number t)) E scope

    key : (t : Tree) (q E : ℕ) (r : List ℕ) (scope : List Name) → T (fitting known_here t) → drop q ws ≡ tokens number t ++ r → q + length (tokens number t) ≤ E → Leads q E scope → Key t q E scope
    key t q E r scope f e high h =
        let p = tree_front t f in
        let w = p.0 in
        let l = p.1 in
        let z : length (tokens number t) ≡ suc (length l) = ap length p.2 in
        let d : drop q ws ≡ w ∷ (l ++ r) = e ∙ ap (λ (x : List ℕ). x ++ r) p.2 in
        let whole : Whole (w ∷ l) 1 = subst (λ (x : List ℕ). Whole x 1) p.2 (tree_whole number known_here t f) in
        let shut : entered w ≡ false = enters_no w (omega (arith, p.3)) in
        record {
          inside = rw z (leads_inside q E w l r scope d whole shut (omega arith) h);
          leads = rw z (leads_pass q E w l r scope [] d whole (binds_nothing w (l ++ r) (inl p.3)) h);
        }

    -- ---- values, results and names

    each_step : (row : ℕ) (t : Tree) (l : List Tree) (r : List ℕ) → each_words number row (t ∷ l) ++ r ≡ word row 0 ∷ (tokens number t ++ (each_words number row l ++ r))
    unfolding each_words
    each_step row t l r = ap (λ (x : List ℕ). word row 0 ∷ x) (append_assoc (tokens number t) (each_words number row l) r)

    each_length : (row : ℕ) (t : Tree) (l : List Tree) → length (each_words number row (t ∷ l)) ≡ suc (length (tokens number t)) + length (each_words number row l)
    unfolding each_words
    each_length row t l = omega (arith, length-append (tokens number t) (each_words number row l))

    all_cons : (t : Tree) (l : List Tree) → all_symbols (t ∷ l) ≡ symbols t ++ all_symbols l
    unfolding all_symbols
    all_cons t l = refl

    all_nil : all_symbols [] ≡ []
    unfolding all_symbols
    all_nil = refl

    each_nil : (row : ℕ) → length (each_words number row []) ≡ 0
    unfolding each_words
    each_nil row = refl

    values_seen :
        (row : ℕ) → 35 ≤ row → row < 64 → (vs : List Tree) → T (trees_ok vs) → T (all_fitting known_here vs) → (q E : ℕ) (r : List ℕ) (scope : List Name) → drop q ws ≡ each_words number row vs ++ r
        → q + length (each_words number row vs) ≤ E → Leads q E scope → seen ws q (length (each_words number row vs)) ≡ known inputs b scope (all_symbols vs)
    values_seen row low high [] o f q E r scope e less h = ap (seen ws q) (each_nil row) ∙ (none_seen ws scope q ∙ (sym (known_nil scope) ∙ ap (known inputs b scope) (sym all_nil)))
    values_seen row low high (t ∷ l) o f q E r scope e less h =
        let ot : T (tree_ok t) = unfold trees_ok in and_left (tree_ok t) (trees_ok l) o in
        let ol : T (trees_ok l) = unfold trees_ok in and_right (tree_ok t) (trees_ok l) o in
        let ft : T (fitting known_here t) = unfold all_fitting in and_left (fitting known_here t) (all_fitting known_here l) f in
        let fl : T (all_fitting known_here l) = unfold all_fitting in and_right (fitting known_here t) (all_fitting known_here l) f in
        let w = word row 0 in
        let x = tokens number t in
        let y = each_words number row l in
        let len = each_length row t l in
        let d : drop q ws ≡ w ∷ (x ++ (y ++ r)) = e ∙ each_step row t l r in
        let whole = each_row number known_here row t low high ft in
        let shut : entered w ≡ false = enters_none w (omega arith) (λ z. omega arith) in
        let inside = leads_stop q E w x (y ++ r) scope d whole shut (omega arith) h in
        let on : Leads (q + suc (length x)) E scope = leads_pass q E w x (y ++ r) scope [] d whole (binds_nothing w (x ++ (y ++ r)) (inr (omega arith))) h in
        let here : seen ws q (suc (length x)) ≡ known inputs b scope (symbols t) =
        seen_row ws q w (length x) (x ++ (y ++ r)) d (λ z. omega arith) ∙ tree_seen ws scope t ot ft (suc q) (y ++ r) (next ws q w (x ++ (y ++ r)) d) inside in
        let rest = values_seen row low high l ol fl (q + suc (length x)) E r scope (move ws q (w ∷ x) (y ++ r) d) (omega arith) on in
        ap (seen ws q) len
        ∙ (seen_add ws q (suc (length x)) (length y) ∙ (ap₂ ◌&&◌ here rest ∙ (sym (known_both (symbols t) (all_symbols l) scope) ∙ ap (known inputs b scope) (sym (all_cons t l)))))

    names_length : (ns : List Name) → length (names_words number ns) ≡ length ns
    unfolding names_words
    names_length [] = refl
    names_length (n ∷ l) = ap suc (names_length l)

    record NamesPassed (ns : List Name) (q E : ℕ) (scope : List Name) : Type 0 where
      are_seen : seen ws q (length (names_words number ns)) ≡ true
      on : Leads (q + length (names_words number ns)) E scope

    names_passed : (ns : List Name) (q E : ℕ) (r : List ℕ) (scope : List Name) → drop q ws ≡ names_words number ns ++ r → q + length (names_words number ns) ≤ E → Leads q E scope → NamesPassed ns q E scope
    unfolding names_words
    names_passed [] q E r scope e less h = let z : q + 0 ≡ q = omega arith in record { are_seen = none_seen ws scope q; on = rw z h }
    names_passed (n ∷ l) q E r scope e less h =
        let w = word name_row (code n) in
        let x = names_words number l in
        let one = leads_pass q E w [] (x ++ r) scope [] e (name_whole number n) (binds_nothing w (x ++ r) (inr (omega arith))) h in
        let y : q + suc 0 ≡ suc q = omega arith in
        let rest = names_passed l (suc q) E r scope (next ws q w (x ++ r) e) (omega arith) (subst (λ (k : ℕ). Leads k E scope) y one) in
        let z : suc q + length x ≡ q + suc (length x) = omega arith in
        record { are_seen = seen_row ws q w (length x) (x ++ r) e (λ k. omega arith) ∙ rest.are_seen; on = subst (λ (k : ℕ). Leads k E scope) z rest.on }

    -- ---- what a statement binds

    arm_next : (arms : Arms) (c : ℕ) (r : List ℕ) → 1 ≤ arm_count arms → names_bind c (arms_words number arms ++ r) ≡ false
    unfolding arm_count arms_words names_bind
    arm_next no_arm c r h = absurd (omega arith)
    arm_next (arm s vs l) c r h =
        let w = word arm_row (step_count s + length vs) in
        let n : kind_of w ≡ 33 → ⊥ = λ e. omega arith in
        rw (ne_eqb (kind_of w) 33 n, names_bind)

    let_binds : (n : Name) (l : List ℕ) → T (let_name n) → (x : Name) → Made x → binds (code x) (word let_row (code n)) l ≡ elem x (n ∷ [])
    let_binds n l h x m =
        let w = word let_row (code n) in
        let k : kind_of w ≡ 29 = omega arith in
        let d : below_of w ≡ code n = omega arith in
        binds_let (code x) w l k
        ∙ (ap (λ (i : ℕ). eqb i (code x)) d
        ∙ (code_same number n x (let_made_name number n h) m ∙ (sym (or_false (eq_name n x)) ∙ (ap (λ (t : Bool). eq_name n x || t) (sym (elem_nil x)) ∙ sym (elem_cons x n [])))))

    match_binds_names :
        (w : ℕ) (t : Tree) (ns : List Name) (a : List ℕ) → 30 ≤ kind_of w → kind_of w < 33 → T (fitting known_here t) → T (match_names ns) → ((c : ℕ) → names_bind c a ≡ false) → (x : Name) → Made x
        → binds (code x) w (tokens number t ++ (names_words number ns ++ a)) ≡ elem x ns
    match_binds_names w t ns a low high f m n x k =
        let l = names_words number ns ++ a in
        let e = whole_span (tokens number t) (tree_whole number known_here t f) l in
        binds_match (code x) w (tokens number t ++ l) low high ∙ (key_past (code x) (length (tokens number t)) (tokens number t ++ l) e ∙ (ap (names_bind (code x)) (drop_at (tokens number t) l (length (tokens number t)) refl) ∙ names_bound number ns x a m k (n (code x))))
      where
        key_past : (c n : ℕ) (l : List ℕ) → span_words l 1 ≡ some n → match_binds c l ≡ names_bind c (drop n l)
        key_past c n l e = unfold match_binds in rw (e, match_binds)

    -- ---- statements and arms

    two_parts : (x y z r : List ℕ) → (x ++ (y ++ z)) ++ r ≡ x ++ (y ++ (z ++ r))
    two_parts x y z r = append_assoc x (y ++ z) r ∙ ap (λ (t : List ℕ). x ++ t) (append_assoc y z r)

    let_seen :
        (n : Name) (t : Tree) → T (let_name n && tree_ok t) → T (let_name n && fitting known_here t) → (q E : ℕ) (r : List ℕ) (scope : List Name) → drop q ws ≡ word let_row (code n) ∷ (tokens number t ++ r)
        → q + suc (length (tokens number t)) ≤ E → Leads q E scope
        → (seen ws q (suc (length (tokens number t))) ≡ known inputs b scope (symbols t)) × Leads (q + suc (length (tokens number t))) E ((n ∷ []) ++ scope)
    let_seen n t o f q E r scope e less h =
        let w = word let_row (code n) in
        let x = tokens number t in
        let ot = and_right (let_name n) (tree_ok t) o in
        let ft = and_right (let_name n) (fitting known_here t) f in
        let whole : Whole (w ∷ x) 1 = stmt_whole_let n t f in
        let shut : entered w ≡ false = enters_no w (omega arith) in
        let inside = leads_stop q E w x r scope e whole shut (omega arith) h in (
          seen_row ws q w (length x) (x ++ r) e (λ z. omega arith) ∙ tree_seen ws scope t ot ft (suc q) r (next ws q w (x ++ r) e) inside,
          leads_pass q E w x r scope (n ∷ []) e whole (let_binds n (x ++ r) (and_left (let_name n) (tree_ok t) o)) h,
        )
      where
        stmt_whole_let : (n : Name) (t : Tree) → T (let_name n && fitting known_here t) → Whole (word let_row (code n) ∷ tokens number t) 1
        stmt_whole_let n t f = unfold intermediate_words stmt_fitting in stmt_whole number known_here (Let n t) f

    mutual
      unfolding intermediate_ok stmt_fitting intermediate_words stmt_in_scope names step_count arm_count

      stmt_seen :
          (s : Intermediate) → T (intermediate_ok s) → T (stmt_fitting known_here s) → (q E : ℕ) (r : List ℕ) (scope : List Name) → drop q ws ≡ intermediate_words number s ++ r
          → q + length (intermediate_words number s) ≤ E → Leads q E scope
          → (seen ws q (length (intermediate_words number s)) ≡ stmt_in_scope inputs b s scope) × Leads (q + length (intermediate_words number s)) E (names s ++ scope)
      stmt_seen (Let n t) o f q E r scope e less h = let_seen n t o f q E r scope e less h
      stmt_seen (Match k t ns arms) o f q E r scope e less h =
          let sw = is_switch k && arity_ok k (suc (arm_count arms)) in
          let ds = leb 1 (length ns) && match_names ns in
          let o1 = and_right sw (tree_ok t && (ds && arms_ok (length ns) arms)) o in
          let o2 = and_right (tree_ok t) (ds && arms_ok (length ns) arms) o1 in
          let ot = and_left (tree_ok t) (ds && arms_ok (length ns) arms) o1 in
          let oa = and_right ds (arms_ok (length ns) arms) o2 in
          let kf = and_left (a_switch_kind k) (fitting known_here t && (match_names ns && arms_fitting known_here arms)) f in
          let f1 = and_right (a_switch_kind k) (fitting known_here t && (match_names ns && arms_fitting known_here arms)) f in
          let f2 = and_right (fitting known_here t) (match_names ns && arms_fitting known_here arms) f1 in
          let ft = and_left (fitting known_here t) (match_names ns && arms_fitting known_here arms) f1 in
          let fm = and_left (match_names ns) (arms_fitting known_here arms) f2 in
          let fa = and_right (match_names ns) (arms_fitting known_here arms) f2 in
          let low = leb→le 26 k (and_left (leb 26 k) (ltb k 29) kf) in
          let high = ltb→lt k 29 (and_right (leb 26 k) (ltb k 29) kf) in
          let w = word (match_row k) (suc (length ns + arm_count arms)) in
          let x = tokens number t in
          let y = names_words number ns in
          let z = arms_words number arms in
          let l = x ++ (y ++ z) in
          let l1 = length-append x (y ++ z) in
          let l2 = length-append y z in
          let whole : Whole (w ∷ l) 1 = stmt_whole number known_here (Match k t ns arms) f in
          let F = q + suc (length l) in
          let in1 = leads_enter q E F w l r scope e whole (enters_match w (omega arith) (omega arith)) (omega arith) (omega arith) h in
          let d1 : drop (suc q) ws ≡ x ++ (y ++ (z ++ r)) = next ws q w (l ++ r) e ∙ two_parts x y z r in
          let k1 = key t (suc q) F (y ++ (z ++ r)) scope ft d1 (omega (arith, l1, l2)) in1 in
          let q1 = suc q + length x in
          let d2 : drop q1 ws ≡ y ++ (z ++ r) = move ws (suc q) x (y ++ (z ++ r)) d1 in
          let k2 = names_passed ns q1 F (z ++ r) scope d2 (omega (arith, l1, l2)) k1.leads in
          let q2 = q1 + length y in
          let d3 : drop q2 ws ≡ z ++ r = move ws q1 y (z ++ r) d2 in
          let s3 = arms_seen arms (length ns) oa fa q2 F r scope d3 (omega (arith, l1, l2)) k2.on in
          let s1 = tree_seen ws scope t ot ft (suc q) (y ++ (z ++ r)) d1 k1.inside in
          let sum : length l ≡ length x + (length y + length z) = omega (arith, l1, l2) in
          let all : seen ws (suc q) (length l) ≡ (known inputs b scope (symbols t) && arms_in_scope inputs b arms scope) =
          ap (seen ws (suc q)) sum
          ∙ (seen_add ws (suc q) (length x) (length y + length z) ∙ ap₂ ◌&&◌ s1 (seen_add ws q1 (length y) (length z) ∙ ap₂ ◌&&◌ k2.are_seen s3)) in (
            seen_row ws q w (length l) (l ++ r) e (λ g. omega arith) ∙ all,
            leads_pass q E w l r scope ns e whole
                (λ v m. ap (binds (code v) w) (two_parts x y z r) ∙ match_binds_names w t ns (z ++ r) (omega arith) (omega arith) ft fm (λ c. arm_next arms c r (arms_some rows k (arm_count arms) (and_left sw (tree_ok t && (ds && arms_ok (length ns) arms)) o))) v m) h,
          )

      stmts_seen :
          (l : Intermediates) → T (intermediates_ok l) → T (stmts_fitting known_here l) → (row : ℕ) → 35 ≤ row → row < 64 → (vs : List Tree) → T (trees_ok vs) → T (all_fitting known_here vs)
          → (q E : ℕ) (r : List ℕ) (scope : List Name) → drop q ws ≡ intermediates_words number l ++ (each_words number row vs ++ r)
          → q + (length (intermediates_words number l) + length (each_words number row vs)) ≤ E → Leads q E scope
          → seen ws q (length (intermediates_words number l) + length (each_words number row vs)) ≡ in_scope inputs b l scope vs
      stmts_seen end o f row low high vs ov fv q E r scope e less h =
          let z : 0 + length (each_words number row vs) ≡ length (each_words number row vs) = omega arith in
          ap (seen ws q) z ∙ values_seen row low high vs ov fv q E r scope e (omega arith) h
      stmts_seen (step s l) o f row low high vs ov fv q E r scope e less h =
          let x = intermediate_words number s in
          let y = intermediates_words number l in
          let v = each_words number row vs in
          let len = length-append x y in
          let d : drop q ws ≡ x ++ (y ++ (v ++ r)) = e ∙ append_assoc x y (v ++ r) in
          let s1 = stmt_seen s (and_left (intermediate_ok s) (intermediates_ok l) o) (and_left (stmt_fitting known_here s) (stmts_fitting known_here l) f) q E (y ++ (v ++ r)) scope d (omega (arith, len)) h in
          let s2 = stmts_seen l (and_right (intermediate_ok s) (intermediates_ok l) o) (and_right (stmt_fitting known_here s) (stmts_fitting known_here l) f) row low high vs ov fv (q + length x) E r (names s ++ scope)
          (move ws q x (y ++ (v ++ r)) d) (omega (arith, len)) s1.1 in
          let sum : length (x ++ y) + length v ≡ length x + (length y + length v) = omega (arith, len) in
          ap (seen ws q) sum ∙ (seen_add ws q (length x) (length y + length v) ∙ ap₂ ◌&&◌ s1.0 s2)

      arms_seen :
          (arms : Arms) (n : ℕ) → T (arms_ok n arms) → T (arms_fitting known_here arms) → (q E : ℕ) (r : List ℕ) (scope : List Name) → drop q ws ≡ arms_words number arms ++ r
          → q + length (arms_words number arms) ≤ E → Leads q E scope → seen ws q (length (arms_words number arms)) ≡ arms_in_scope inputs b arms scope
      arms_seen no_arm n o f q E r scope e less h = none_seen ws scope q
      arms_seen (arm s vs l) n o f q E r scope e less h =
          let og = and_left (intermediates_ok s && (eqb (length vs) n && trees_ok vs)) (arms_ok n l) o in
          let os = and_left (intermediates_ok s) (eqb (length vs) n && trees_ok vs) og in
          let ov = and_right (eqb (length vs) n) (trees_ok vs) (and_right (intermediates_ok s) (eqb (length vs) n && trees_ok vs) og) in
          let fg = and_left (stmts_fitting known_here s && all_fitting known_here vs) (arms_fitting known_here l) f in
          let fs = and_left (stmts_fitting known_here s) (all_fitting known_here vs) fg in
          let fv = and_right (stmts_fitting known_here s) (all_fitting known_here vs) fg in
          let w = word arm_row (step_count s + length vs) in
          let x = intermediates_words number s in
          let y = each_words number value_row vs in
          let z = arms_words number l in
          let l1 = length-append x (y ++ z) in
          let l2 = length-append y z in
          let l3 = length-append x y in
          let whole = arm_whole number known_here s vs fs fv in
          let d : drop q ws ≡ w ∷ ((x ++ y) ++ (z ++ r)) = e ∙ ap (λ (t : List ℕ). w ∷ t) (two_parts x y z r ∙ sym (append_assoc x y (z ++ r))) in
          let F = q + suc (length (x ++ y)) in
          let in1 = leads_enter q E F w (x ++ y) (z ++ r) scope d whole (enters_arm w (omega arith)) (omega arith) (omega (arith, l1, l2, l3)) h in
          let d1 : drop (suc q) ws ≡ x ++ (y ++ (z ++ r)) = next ws q w ((x ++ y) ++ (z ++ r)) d ∙ append_assoc x y (z ++ r) in
          let s1 = stmts_seen s os fs value_row (omega arith) (omega arith) vs ov fv (suc q) F (z ++ r) scope d1 (omega (arith, l3)) in1 in
          let on = leads_pass q E w (x ++ y) (z ++ r) scope [] d whole (binds_nothing w ((x ++ y) ++ (z ++ r)) (inr (omega arith))) h in
          let d2 : drop F ws ≡ z ++ r = move ws q (w ∷ (x ++ y)) (z ++ r) d in
          let s2 = arms_seen l n (and_right (intermediates_ok s && (eqb (length vs) n && trees_ok vs)) (arms_ok n l) o) (and_right (stmts_fitting known_here s && all_fitting known_here vs) (arms_fitting known_here l) f)
          F E r scope d2 (omega (arith, l1, l2, l3)) on in
          let sum : suc (length (x ++ (y ++ z))) ≡ suc (length (x ++ y)) + length z = omega (arith, l1, l2, l3) in
          let here : seen ws q (suc (length (x ++ y))) ≡ in_scope inputs b s scope vs = seen_row ws q w (length (x ++ y)) ((x ++ y) ++ (z ++ r)) d (λ g. omega arith) ∙ (ap (seen ws (suc q)) l3 ∙ s1) in
          ap (seen ws q) sum ∙ (seen_add ws q (suc (length (x ++ y))) (length z) ∙ ap₂ ◌&&◌ here s2)

    starts : (E : ℕ) → Leads 0 E []
    unfolding Leads
    starts E x m p less =
        let z : 0 + p ≡ p = omega arith in
        ap (λ (i : ℕ). bound_by (code x) 0 i ws) z ∙ ap (λ (t : Bool). t || bound_by (code x) 0 p ws) (sym (elem_nil x))

    pub all_seen :
        (l : Intermediates) (vs : List Tree) → T (intermediates_ok l) → T (stmts_fitting known_here l) → T (trees_ok vs) → T (all_fitting known_here vs)
        → ws ≡ intermediates_words number l ++ each_words number 36 vs → seen ws 0 (length ws) ≡ in_scope inputs b l [] vs
    all_seen l vs o f ov fv e =
        let x = intermediates_words number l in
        let y = each_words number 36 vs in
        let len : length ws ≡ length x + length y = ap length e ∙ length-append x y in
        let d : ws ≡ x ++ (y ++ []) = e ∙ ap (λ (t : List ℕ). x ++ t) (sym (append_nil y)) in
        ap (seen ws 0) len ∙ stmts_seen l o f 36 (omega arith) (omega arith) vs ov fv 0 (length ws) [] [] d (omega (arith, len)) (starts (length ws))
      where
        append_nil : (t : List ℕ) → t ++ [] ≡ t
        append_nil [] = refl
        append_nil (w ∷ t) = ap (λ (u : List ℕ). w ∷ u) (append_nil t)

-- ---- the names that an answer binds are made

none_made : T (made_names [])
unfolding made_names
none_made = tt

mutual
  unfolding intermediate_ok bound_stmt

  pub stmt_bound_made : (s : Intermediate) → T (intermediate_ok s) → T (made_names (bound_stmt s))
  stmt_bound_made (Let n e) o = let_made n (and_left (let_name n) (tree_ok e) o)
  stmt_bound_made (Match k t ns arms) o =
      let sw = is_switch k && arity_ok k (suc (arm_count arms)) in
      let ds = leb 1 (length ns) && match_names ns in
      let o1 = and_right sw (tree_ok t && (ds && arms_ok (length ns) arms)) o in
      let o2 = and_right (tree_ok t) (ds && arms_ok (length ns) arms) o1 in
      made_append (bound_arms arms) ns (arms_bound_made arms (length ns) (and_right ds (arms_ok (length ns) arms) o2))
      (match_made ns (and_right (leb 1 (length ns)) (match_names ns) (and_left ds (arms_ok (length ns) arms) o2)))

  pub stmts_bound_made : (l : Intermediates) → T (intermediates_ok l) → T (made_names (bound_stmts l))
  stmts_bound_made end o = none_made
  stmts_bound_made (step s l) o = made_append (bound_stmt s) (bound_stmts l) (stmt_bound_made s (and_left (intermediate_ok s) (intermediates_ok l) o)) (stmts_bound_made l (and_right (intermediate_ok s) (intermediates_ok l) o))

  pub arms_bound_made : (arms : Arms) (n : ℕ) → T (arms_ok n arms) → T (made_names (bound_arms arms))
  arms_bound_made no_arm n o = none_made
  arms_bound_made (arm s vs l) n o =
      let g = and_left (intermediates_ok s && (eqb (length vs) n && trees_ok vs)) (arms_ok n l) o in
      made_append (bound_stmts s) (bound_arms l) (stmts_bound_made s (and_left (intermediates_ok s) (eqb (length vs) n && trees_ok vs) g))
      (arms_bound_made l n (and_right (intermediates_ok s && (eqb (length vs) n && trees_ok vs)) (arms_ok n l) o))
