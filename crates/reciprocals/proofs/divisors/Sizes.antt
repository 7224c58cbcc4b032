-- Sizes of trees at some places of a table: how they are put there, and that trees of two sizes are not equal. Assumes nothing.
use Rattle.std.specs.Prelude.{Some}
use Prim.Native.Nat.{ℕ, zero, suc, ◌+◌, ◌≤◌, ◌<◌}
use native.Mathlib.Omega.{arith}
use mathlib.Core.Path.{◌≡◌, refl, sym, ◌∙◌, ap, subst}
use mathlib.Core.Bool.{Bool, true, false}
use mathlib.Core.Option.{some}
use mathlib.Core.List.{List, [], ◌∷◌, ◌++◌}
use lib.ListN.{length, get_or, take, drop, set, length-set, take-append-drop, drop_of_length-le}
use lib.Seq.{drop-cons, get_or-set_same, get_or-set_other}
use lib.Dec.{T, eqb, eqb→eq, eqb_refl}
use Rattle.spec_tree.specs.Tree.{eq_tree}
use Rattle.spec_tree.specs.Facts.{size}
use Rattle.spec_tree.specs.Tokens.{run_at, numbered}
use Rattle.spec_tree.proofs.Logic.{false_is}
use Rattle.spec_tree.proofs.TokenLaws.{run_size}
use Rattle.spec_tree.proofs.TreeLaws.{eq_tree_sound}
use Rattle.laws.specs.positions.Places.{numbered_at}
use Rattle.words.specs.words.Words.{Complete}
use Rattle.words.specs.tokens.Answers.{There, EndsAt, end_answer}
use Rattle.reciprocals.proofs.settle.Stepping.{divisor_there}
use Rattle.reciprocals.specs.divisors.Places.{Inside, SizeThere, Sized, with_sizes}

-- ---- two sizes

pub sizes_differ :
    (ws sizes : List ℕ) (i j : ℕ) → SizeThere ws sizes i → SizeThere ws sizes j → (get_or sizes i 0 ≡ get_or sizes j 0 → ⊥)
    → false ≡ eq_tree (numbered_at ws i) (numbered_at ws j)
sizes_differ ws sizes i j a b h =
    false_is (eq_tree (numbered_at ws i) (numbered_at ws j)) (λ t. h (a.1 ∙ (ap size (eq_tree_sound (numbered_at ws i) (numbered_at ws j) t) ∙ sym b.1)))

-- ---- parts of lists

module _ (ws sizes : List ℕ) where
  pub sized_at : (l : List ℕ) (i : ℕ) → Sized ws sizes l → i < length l → SizeThere ws sizes (get_or l i 0)
  sized_at [] i h g = absurd (omega arith)
  sized_at (q ∷ l) zero h g = h.0
  sized_at (q ∷ l) (suc i) h g = sized_at l i h.1 (omega arith)

  sized_front : (a b : List ℕ) → Sized ws sizes (a ++ b) → Sized ws sizes a
  sized_front [] b h = tt
  sized_front (q ∷ a) b h = (h.0, sized_front a b h.1)

  pub sized_take : (k : ℕ) (l : List ℕ) → Sized ws sizes l → Sized ws sizes (take k l)
  sized_take k l h = sized_front (take k l) (drop k l) (subst (Sized ws sizes) (sym (take-append-drop k l)) h)

pub inside_more : (a b : ℕ) → a ≤ b → (l : List ℕ) → Inside a l → Inside b l
inside_more a b h [] g = tt
inside_more a b h (q ∷ l) g = (omega (arith, g.0), inside_more a b h l g.1)

-- ---- put one by one

module _ (ws : List ℕ) where
  -- one more keeps those that are there
  one_kept : (sizes : List ℕ) (q r : ℕ) → q < length sizes → SizeThere ws sizes r → SizeThere ws (set sizes q (size (numbered_at ws q))) r
  one_kept sizes q r h s = (omega (arith, s.0, length-set sizes q (size (numbered_at ws q))), go (eqb r q) refl)
    where
      v : ℕ
      v = size (numbered_at ws q)

      go : (b : Bool) → eqb r q ≡ b → get_or (set sizes q (size (numbered_at ws q))) r 0 ≡ size (numbered_at ws r)
      go true e =
          let same : r ≡ q = eqb→eq r q (subst T (sym e) tt) in
          ap (λ (x : ℕ). get_or (set sizes q v) x 0) same ∙ (get_or-set_same sizes q v 0 h ∙ ap (λ (x : ℕ). size (numbered_at ws x)) (sym same))
      go false e = get_or-set_other sizes q r v 0 (λ x. differ e x) ∙ s.1
        where
          differ : eqb r q ≡ false → r ≡ q → ⊥
          differ f x = subst T f (subst (λ (y : ℕ). T (eqb r y)) x (eqb_refl r))

  all_kept : (sizes : List ℕ) (q : ℕ) (l : List ℕ) → q < length sizes → Sized ws sizes l → Sized ws (set sizes q (size (numbered_at ws q))) l
  all_kept sizes q [] h s = tt
  all_kept sizes q (r ∷ l) h s = (one_kept sizes q r h s.0, all_kept sizes q l h s.1)

  pub with_long : (l sizes : List ℕ) → length (with_sizes ws l sizes) ≡ length sizes
  unfolding with_sizes
  with_long [] sizes = refl
  with_long (q ∷ l) sizes = with_long l (set sizes q (size (numbered_at ws q))) ∙ length-set sizes q (size (numbered_at ws q))

  pub with_kept : (l sizes m : List ℕ) → Inside (length sizes) l → Sized ws sizes m → Sized ws (with_sizes ws l sizes) m
  unfolding with_sizes
  with_kept [] sizes m h s = s
  with_kept (q ∷ l) sizes m h s =
      let v = size (numbered_at ws q) in
      with_kept l (set sizes q v) m (subst (λ (x : ℕ). Inside x l) (sym (length-set sizes q v)) h.1) (all_kept sizes q m h.0 s)

  pub with_there : (l sizes : List ℕ) → Inside (length sizes) l → Sized ws (with_sizes ws l sizes) l
  unfolding with_sizes
  with_there [] sizes h = tt
  with_there (q ∷ l) sizes h =
      let v = size (numbered_at ws q) in
      let inside = subst (λ (x : ℕ). Inside x l) (sym (length-set sizes q v)) h.1 in
      let own : SizeThere ws (set sizes q v) q = (omega (arith, h.0, length-set sizes q v), get_or-set_same sizes q v 0 h.0) in
      ((with_kept l (set sizes q v) (q ∷ []) inside (own, tt)).0, with_there l (set sizes q v) inside)

  -- what is still to be put
  abbrev pub Putting : List ℕ → List ℕ → List ℕ → ℕ → Type 0
  Putting list old sizes k = (with_sizes ws (drop k list) sizes ≡ with_sizes ws list old) × (length sizes ≡ length old)

  pub putting_turns :
      (list old sizes : List ℕ) (k : ℕ) → k < length list → Putting list old sizes k → (v : ℕ) → v ≡ size (numbered_at ws (get_or list k 0))
      → Putting list old (set sizes (get_or list k 0) v) (k + 1)
  unfolding with_sizes
  putting_turns list old sizes k h s v e =
      let i : k + 1 ≡ suc k = omega arith in
      let q = get_or list k 0 in (
        ap (λ (x : ℕ). with_sizes ws (drop x list) (set sizes q v)) i
            ∙ (ap (λ (x : ℕ). with_sizes ws (drop (suc k) list) (set sizes q x)) e ∙ (sym (ap (λ (l : List ℕ). with_sizes ws l sizes) (drop-cons list k 0 h)) ∙ s.0)),
        length-set sizes q v ∙ s.1,
      )

  pub putting_ends : (list old sizes : List ℕ) (k : ℕ) → length list ≤ k → Putting list old sizes k → sizes ≡ with_sizes ws list old
  unfolding with_sizes
  putting_ends list old sizes k h s = sym (ap (λ (l : List ℕ). with_sizes ws l sizes) (drop_of_length-le list {i = k} h)) ∙ s.0

  -- ---- where a tree ends

  module _ (complete : Complete ws) (q : ℕ) (h : q < length ws) where
    pub stands_there : There ws q
    unfolding numbered_at
    stands_there = (size (numbered_at ws q), run_size numbered ws complete.0 q complete.1 h)

    size_run : run_at ws q ≡ some (size (numbered_at ws q))
    unfolding numbered_at
    size_run = run_size numbered ws complete.0 q complete.1 h

    pub end_is : (end : ℕ) → EndsAt ws q end → end ≡ q + size (numbered_at ws q)
    unfolding end_answer
    end_is end e =
        let x : Some end ≡ Some (q + size (numbered_at ws q)) = e ∙ ap (end_answer q) size_run in
        cc

    pub end_within : (end : ℕ) → EndsAt ws q end → (q ≤ end) × (end ≤ length ws)
    end_within end e = let d = divisor_there ws q end e in (d.after, d.within)
