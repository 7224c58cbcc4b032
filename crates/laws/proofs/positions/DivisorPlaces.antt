-- The divisors of divisions are the trees at the places where second operands stand. Assumes nothing.
use Prim.Native.Nat.{ℕ, zero, suc, ◌+◌, ◌≤◌, ◌<◌}
use native.Mathlib.Omega.{arith}
use mathlib.Core.Path.{◌≡◌, refl, sym, ◌∙◌, ap, ap₂}
use mathlib.Core.Bool.{Bool, true, false, not, ◌&&◌, cond}
use mathlib.Core.Option.{Option, none, some}
use mathlib.Core.List.{List, [], ◌∷◌, ◌++◌, map}
use borrow.Author.Tests.{ne_eqb, leb-true, leb-false}
use lib.ListN.{length, get_or, take, drop}
use lib.Seq.{take-suc, take_all, drop-cons, drop-drop, length-take-le}
use lib.Dec.{eqb, leb}
use Rattle.spec_tree.specs.Tree.{Tree, Op, nil, forest}
use Rattle.spec_tree.specs.Kinds.{Div}
use Rattle.spec_tree.specs.Facts.{size, total, all_nodes, outside}
use Rattle.spec_tree.specs.Tokens.{read, trees_at, numbered, kind_of, takes, trees_in}
use Rattle.spec_tree.proofs.TokenLaws.{Word, a_symbol, a_constant, an_operation, word_is, symbol_tree, constant_tree, operation_tree, made, sizes, map_append, read_cons, read_past, trees_length, places_are_nodes, tree_at, complete_end, complete_tail, complete_length}
use Rattle.spec_cse.specs.Extract.{divisor_of, divisors}
use Rattle.laws.specs.positions.Places.{numbered_at, in_arm, outside_at, divides_at, second_at, divisor_places}
use Rattle.laws.proofs.positions.Arms.{and_true, those_passing, outer_passing}
use Rattle.laws.proofs.positions.UsesAt.{passing_append, all_passing}
use Rattle.spec_tree.proofs.Logic.{and_false}

divisors_append_step : (o : Option Tree) (p q r : List Tree) → p ≡ q ++ r → ◌≡◌ {A = List Tree} (elim o [ none ↦ p | some d ↦ d ∷ p ]) (elim o as (λ _. List Tree) [ none ↦ q | some d ↦ d ∷ q ] ++ r)
divisors_append_step none p q r e = e
divisors_append_step (some d) p q r e = ap (λ (l : List Tree). d ∷ l) e

divisors_both : (a b : List Tree) → divisors (a ++ b) ≡ divisors a ++ divisors b
unfolding divisors
divisors_both [] b = refl
divisors_both (t ∷ a) b = divisors_append_step (divisor_of t) (divisors (a ++ b)) (divisors a) (divisors b) (divisors_both a b)

-- ---- the divisor of one word's tree

no_divisor : (k : ℕ) (l : List Tree) → length l < 2 → divisor_of (Op k (forest l)) ≡ none
unfolding divisor_of forest
no_divisor k [] h = refl
no_divisor k (t ∷ []) h = refl
no_divisor k (t ∷ (u ∷ l)) h = absurd (omega arith)

its_divisor : (k : ℕ) (l : List Tree) → 2 ≤ length l → divisor_of (Op k (forest l)) ≡ cond (eqb k Div) (some (get_or l 1 (Op 0 nil))) none
unfolding divisor_of forest
its_divisor k [] h = absurd (omega arith)
its_divisor k (t ∷ []) h = absurd (omega arith)
its_divisor k (t ∷ (u ∷ l)) h = refl

taken_second : (a : ℕ) (l : List Tree) → 2 ≤ a → get_or (take a l) 1 (Op 0 nil) ≡ get_or l 1 (Op 0 nil)
taken_second zero l h = absurd (omega arith)
taken_second (suc zero) l h = absurd (omega arith)
taken_second (suc (suc a)) [] h = refl
taken_second (suc (suc a)) (t ∷ []) h = refl
taken_second (suc (suc a)) (t ∷ (u ∷ l)) h = refl

no_leaf : (w : ℕ) → kind_of w ≤ 1 → eqb (kind_of w) Div ≡ false
no_leaf w h = ne_eqb (kind_of w) Div (λ e. omega arith)

made_divisor :
    (w : ℕ) (rs : List Tree) → takes w ≤ length rs
    → divisor_of (made numbered w rs) ≡ cond (eqb (kind_of w) Div && leb 2 (takes w)) (some (get_or rs 1 (Op 0 nil))) none
made_divisor w rs h = go (word_is w)
  where
    at_leaf : divisor_of (made numbered w rs) ≡ none → kind_of w ≤ 1
        → divisor_of (made numbered w rs) ≡ cond (eqb (kind_of w) Div && leb 2 (takes w)) (some (get_or rs 1 (Op 0 nil))) none
    at_leaf e k = e ∙ sym (ap (λ (b : Bool). cond (b && leb 2 (takes w)) (some (get_or rs 1 (Op 0 nil))) none) (no_leaf w k))

    both_ways : (b : Bool) → leb 2 (takes w) ≡ b
        → divisor_of (Op (kind_of w) (forest (take (takes w) rs))) ≡ cond (eqb (kind_of w) Div && leb 2 (takes w)) (some (get_or rs 1 (Op 0 nil))) none
    both_ways true e =
        let two = leb-true 2 (takes w) e in
        its_divisor (kind_of w) (take (takes w) rs) (omega (arith, length-take-le (takes w) rs h))
        ∙ ap (λ (t : Tree). cond (eqb (kind_of w) Div) (some t) none) (taken_second (takes w) rs two)
        ∙ sym (ap (λ (b : Bool). cond (eqb (kind_of w) Div && b) (some (get_or rs 1 (Op 0 nil))) none) e
        ∙ ap (λ (b : Bool). cond b (some (get_or rs 1 (Op 0 nil))) none) (and_true (eqb (kind_of w) Div)))
    both_ways false e =
        let few = leb-false 2 (takes w) e in
        no_divisor (kind_of w) (take (takes w) rs) (omega (arith, length-take-le (takes w) rs h))
        ∙ sym (ap (λ (b : Bool). cond (eqb (kind_of w) Div && b) (some (get_or rs 1 (Op 0 nil))) none) e
        ∙ ap (λ (b : Bool). cond b (some (get_or rs 1 (Op 0 nil))) none) (and_false (eqb (kind_of w) Div)))

    go : Word w → divisor_of (made numbered w rs) ≡ cond (eqb (kind_of w) Div && leb 2 (takes w)) (some (get_or rs 1 (Op 0 nil))) none
    go (a_symbol k) = at_leaf (ap divisor_of (symbol_tree numbered w (take (takes w) rs) k) ∙ (unfold divisor_of in refl)) (omega arith)
    go (a_constant k) = at_leaf (ap divisor_of (constant_tree numbered w (take (takes w) rs) k) ∙ (unfold divisor_of in refl)) (omega arith)
    go (an_operation k) = ap divisor_of (operation_tree numbered w (take (takes w) rs) k) ∙ both_ways (leb 2 (takes w)) refl

-- ---- at a place

-- the second tree read stands past the first
second_read : (ws : List ℕ) → 1 ≤ length (read numbered ws) → get_or (read numbered (drop (size (get_or (read numbered ws) 0 (Op 0 nil))) ws)) 0 (Op 0 nil) ≡ get_or (read numbered ws) 1 (Op 0 nil)
second_read ws h =
    let rs = read numbered ws in
    let e : sizes (take 1 rs) ≡ size (get_or rs 0 (Op 0 nil)) = one_size rs h in
    ap (λ (n : ℕ). get_or (read numbered (drop n ws)) 0 (Op 0 nil)) (sym e) ∙ ap (λ (l : List Tree). get_or l 0 (Op 0 nil)) (read_past numbered ws 1) ∙ after_first rs h
  where
    one_size : (l : List Tree) → 1 ≤ length l → sizes (take 1 l) ≡ size (get_or l 0 (Op 0 nil))
    one_size [] h = absurd (omega arith)
    one_size (t ∷ l) h = (unfold sizes total in (omega arith))

    after_first : (l : List Tree) → 1 ≤ length l → get_or (drop 1 l) 0 (Op 0 nil) ≡ get_or l 1 (Op 0 nil)
    after_first [] h = absurd (omega arith)
    after_first (t ∷ []) h = refl
    after_first (t ∷ (u ∷ l)) h = refl

module _ (ws : List ℕ) (m : ℕ) (complete : trees_in ws ≡ some m) where
  pub here_is : (p : ℕ) → p < length ws → numbered_at ws p ≡ made numbered (get_or ws p 0) (read numbered (drop (suc p) ws))
  unfolding numbered_at
  here_is p h =
      tree_at numbered ws p ∙ ap (λ (l : List ℕ). get_or (read numbered l) 0 (Op 0 nil)) (drop-cons ws p 0 h)
      ∙ ap (λ (l : List Tree). get_or l 0 (Op 0 nil)) (read_cons numbered (get_or ws p 0) (drop (suc p) ws))

  pub enough : (p : ℕ) → p < length ws → takes (get_or ws p 0) ≤ length (read numbered (drop (suc p) ws))
  enough p h =
      let w = get_or ws p 0 in
      let c = complete_end p ws m complete in
      let e : trees_in (w ∷ drop (suc p) ws) ≡ some c.0 = ap trees_in (sym (drop-cons ws p 0 h)) ∙ c.1 in
      let t = complete_tail w (drop (suc p) ws) c.0 e in
      omega (arith, t, complete_length numbered (drop (suc p) ws) t.trees t.are)

  pub second_is : (p : ℕ) → 1 ≤ length (read numbered (drop (suc p) ws)) → numbered_at ws (second_at ws p) ≡ get_or (read numbered (drop (suc p) ws)) 1 (Op 0 nil)
  unfolding numbered_at second_at
  second_is p h =
      let first : get_or (trees_at numbered ws) (suc p) (Op 0 nil) ≡ get_or (read numbered (drop (suc p) ws)) 0 (Op 0 nil) = tree_at numbered ws (suc p) in
      tree_at numbered ws (suc p + size (get_or (trees_at numbered ws) (suc p) (Op 0 nil)))
      ∙ ap (λ (t : Tree). get_or (read numbered (drop (suc p + size t) ws)) 0 (Op 0 nil)) first
      ∙ ap (λ (l : List ℕ). get_or (read numbered l) 0 (Op 0 nil)) (sym (drop-drop (size (get_or (read numbered (drop (suc p) ws)) 0 (Op 0 nil))) (suc p) ws))
      ∙ second_read (drop (suc p) ws) h

  pub divisor_at : (p : ℕ) → p < length ws → divisor_of (numbered_at ws p) ≡ cond (divides_at ws p) (some (numbered_at ws (second_at ws p))) none
  unfolding divides_at
  divisor_at p h =
      let w = get_or ws p 0 in
      let rs = read numbered (drop (suc p) ws) in
      let k = enough p h in
      ap divisor_of (here_is p h) ∙ made_divisor w rs k ∙ go (leb 2 (takes w)) refl k
    where
      go : (b : Bool) → leb 2 (takes (get_or ws p 0)) ≡ b → takes (get_or ws p 0) ≤ length (read numbered (drop (suc p) ws))
          → cond (eqb (kind_of (get_or ws p 0)) Div && leb 2 (takes (get_or ws p 0))) (some (get_or (read numbered (drop (suc p) ws)) 1 (Op 0 nil))) none
          ≡ cond (eqb (kind_of (get_or ws p 0)) Div && leb 2 (takes (get_or ws p 0))) (some (numbered_at ws (second_at ws p))) none
      go true e k =
          let two = leb-true 2 (takes (get_or ws p 0)) e in
          ap (λ (t : Tree). cond (eqb (kind_of (get_or ws p 0)) Div && leb 2 (takes (get_or ws p 0))) (some t) none) (sym (second_is p (omega arith)))
      go false e k =
          let none_there : (eqb (kind_of (get_or ws p 0)) Div && leb 2 (takes (get_or ws p 0))) ≡ false = ap (λ (b : Bool). eqb (kind_of (get_or ws p 0)) Div && b) e ∙ and_false (eqb (kind_of (get_or ws p 0)) Div) in
          ap (λ (b : Bool). cond b (some (get_or (read numbered (drop (suc p) ws)) 1 (Op 0 nil))) none) none_there
          ∙ sym (ap (λ (b : Bool). cond b (some (numbered_at ws (second_at ws p))) none) none_there)

  -- ---- of all places that pass

  one_place :
      (b c : Bool) (x d : Tree) (q : ℕ) → divisor_of x ≡ cond c (some d) none → d ≡ numbered_at ws q
      → divisors (elim b [ true ↦ x ∷ [] | false ↦ [] ]) ≡ map (numbered_at ws) (elim (b && c) [ true ↦ q ∷ [] | false ↦ [] ])
  unfolding divisors
  one_place false c x d q e z = refl
  one_place true true x d q e z =
      ap (λ (o : Option Tree). elim o as (λ _. List Tree) [ none ↦ [] | some d ↦ d ∷ [] ]) e ∙ ap (λ (t : Tree). t ∷ []) z
  one_place true false x d q e z = ap (λ (o : Option Tree). elim o as (λ _. List Tree) [ none ↦ [] | some d ↦ d ∷ [] ]) e

  places_divided :
      (test : ℕ → Bool) (n : ℕ) → n ≤ length ws → divisors (those_passing test 0 (take n (trees_at numbered ws))) ≡ map (numbered_at ws) (divisor_places ws test n)
  unfolding divisor_places those_passing
  places_divided test zero h = (unfold divisors in refl)
  places_divided test (suc n) h =
      let l = trees_at numbered ws in
      let x = numbered_at ws n in
      let k = trees_length numbered ws in
      let more : take (suc n) l ≡ take n l ++ (x ∷ []) = (unfold numbered_at in take-suc l n (Op 0 nil) (omega (arith, k))) in
      let z : 0 + length (take n l) ≡ n = omega (arith, length-take-le n l (omega (arith, k))) in
      let apart : those_passing test 0 (take (suc n) l) ≡ those_passing test 0 (take n l) ++ those_passing test n (x ∷ []) =
      ap (those_passing test 0) more ∙ passing_append test 0 (take n l) (x ∷ []) ∙ ap (λ (k : ℕ). those_passing test 0 (take n l) ++ those_passing test k (x ∷ [])) z in
      ap divisors apart
      ∙ divisors_both (those_passing test 0 (take n l)) (those_passing test n (x ∷ []))
      ∙ ap₂ ◌++◌ (places_divided test n (omega arith)) (one_place (test n) (divides_at ws n) x (numbered_at ws (second_at ws n)) (second_at ws n) (divisor_at n (omega arith)) refl)
      ∙ sym (map_append (numbered_at ws) (divisor_places ws test n) (elim (test n && divides_at ws n) [ true ↦ second_at ws n ∷ [] | false ↦ [] ]))

  passing_divided : (test : ℕ → Bool) → divisors (those_passing test 0 (trees_at numbered ws)) ≡ map (numbered_at ws) (divisor_places ws test (length ws))
  passing_divided test =
      let k = trees_length numbered ws in
      sym (ap (λ (l : List Tree). divisors (those_passing test 0 l)) (take_all (length ws) (trees_at numbered ws) (omega (arith, k)))) ∙ places_divided test (length ws) (omega arith)

  -- all divisors, and those of divisions outside arms
  pub all_divisors : divisors (all_nodes (read numbered ws)) ≡ map (numbered_at ws) (divisor_places ws (λ j. true) (length ws))
  all_divisors = sym (ap divisors (all_passing 0 (trees_at numbered ws) ∙ places_are_nodes numbered ws)) ∙ passing_divided (λ j. true)

  pub outside_divisors : (scoped : Bool) → divisors (outside scoped (read numbered ws)) ≡ map (numbered_at ws) (divisor_places ws (outside_at ws scoped) (length ws))
  unfolding outside outside_at
  outside_divisors false = all_divisors
  outside_divisors true = sym (ap divisors (outer_passing ws)) ∙ passing_divided (λ j. not (in_arm ws (length ws) j))
