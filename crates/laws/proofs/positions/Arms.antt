-- Which places are outside arms: those that are in no switch past its first operand. The trees at these places are the nodes outside arms, in order. Assumes
-- nothing.
use Prim.Native.Nat.{ℕ, zero, suc, ◌+◌, ◌≤◌, ◌<◌}
use native.Mathlib.Omega.{arith}
use mathlib.Core.Path.{◌≡◌, refl, sym, ◌∙◌, ap, ap₂}
use mathlib.Core.Bool.{Bool, true, false, not, ◌&&◌, ◌||◌}
use mathlib.Core.List.{List, [], ◌∷◌, ◌++◌, append_assoc, map}
use borrow.Author.Tests.{leb-true, leb-false, ltb-true, ltb-false, lt-leb}
use lib.ListN.{length, get_or, take, drop, length-append, length-map, take-append-drop}
use lib.Dec.{leb, ltb, leb-suc-suc}
use Rattle.spec_tree.specs.Tree.{Tree, Forest, Sym, Const, Op, nil, ◌◂◌, forest}
use Rattle.spec_tree.specs.Kinds.{is_switch}
use Rattle.spec_tree.specs.Facts.{total, size, nodes, nodes_of, outer, outer_of, outer_first, all_nodes, all_outer}
use Rattle.spec_tree.specs.Tokens.{read, trees_at, numbered, kind_of, takes}
use Rattle.spec_tree.proofs.TokenLaws.{Word, a_symbol, a_constant, an_operation, word_is, leaf_takes, symbol_tree, constant_tree, operation_tree, made, size_made, sizes, read_cons, read_size, tree_at, places_are_nodes, trees_length}
use Rattle.laws.specs.positions.Places.{numbered_at, in_arm_of, in_arm}
use Rattle.spec_tree.proofs.Logic.{and_false}

-- ---- a mark for each node of a tree: true outside arms

marks_inside : List Tree → List Bool
marks_inside l = map (λ t. false) l

unfoldable mutual
  unfolding marks_inside nodes

  marks : Tree → List Bool
  marks (Sym n) = true ∷ []
  marks (Const c) = true ∷ []
  marks (Op k f) = true ∷ elim (is_switch k) [ true ↦ marks_first f | false ↦ marks_of f ]

  marks_of : Forest → List Bool
  marks_of nil = []
  marks_of (t ◂ f) = marks t ++ marks_of f

  marks_first : Forest → List Bool
  marks_first nil = []
  marks_first (t ◂ f) = marks t ++ marks_inside (nodes_of f)

all_marks : List Tree → List Bool
all_marks [] = []
all_marks (t ∷ l) = marks t ++ all_marks l

-- those marked true
pick : List Bool → List Tree → List Tree
pick [] l = []
pick (b ∷ m) [] = []
pick (b ∷ m) (t ∷ l) = elim b [ true ↦ t ∷ pick m l | false ↦ pick m l ]

inside_picks : (l : List Tree) (m : List Bool) (r : List Tree) → pick (marks_inside l ++ m) (l ++ r) ≡ pick m r
unfolding pick marks_inside
inside_picks [] m r = refl
inside_picks (t ∷ l) m r = inside_picks l m r

mark_step :
    (b : Bool) (t : Tree) (p q : List Bool) (m : List Bool) (l r x y : List Tree) → pick (p ++ m) l ≡ x ++ r → pick (q ++ m) l ≡ y ++ r
    → pick (elim b [ true ↦ p | false ↦ q ] ++ m) l ≡ elim b as (λ _. List Tree) [ true ↦ x | false ↦ y ] ++ r
mark_step true t p q m l r x y d e = d
mark_step false t p q m l r x y d e = e

mutual
  unfolding marks outer nodes pick

  picks : (t : Tree) (m : List Bool) (r : List Tree) → pick (marks t ++ m) (nodes t ++ r) ≡ outer t ++ pick m r
  picks (Sym n) m r = refl
  picks (Const c) m r = refl
  picks (Op k f) m r =
      ap (λ (l : List Tree). Op k f ∷ l)
      (mark_step (is_switch k) (Op k f) (marks_first f) (marks_of f) m (nodes_of f ++ r) (pick m r) (outer_first f) (outer_of f) (picks_first f m r) (picks_of f m r))

  picks_of : (f : Forest) (m : List Bool) (r : List Tree) → pick (marks_of f ++ m) (nodes_of f ++ r) ≡ outer_of f ++ pick m r
  picks_of nil m r = refl
  picks_of (t ◂ f) m r =
      ap₂ pick (append_assoc (marks t) (marks_of f) m) (append_assoc (nodes t) (nodes_of f) r)
      ∙ picks t (marks_of f ++ m) (nodes_of f ++ r)
      ∙ ap (λ (l : List Tree). outer t ++ l) (picks_of f m r)
      ∙ sym (append_assoc (outer t) (outer_of f) (pick m r))

  picks_first : (f : Forest) (m : List Bool) (r : List Tree) → pick (marks_first f ++ m) (nodes_of f ++ r) ≡ outer_first f ++ pick m r
  picks_first nil m r = refl
  picks_first (t ◂ f) m r =
      ap₂ pick (append_assoc (marks t) (marks_inside (nodes_of f)) m) (append_assoc (nodes t) (nodes_of f) r)
      ∙ picks t (marks_inside (nodes_of f) ++ m) (nodes_of f ++ r)
      ∙ ap (λ (l : List Tree). outer t ++ l) (inside_picks (nodes_of f) m r)

outer_picked : (l : List Tree) → pick (all_marks l) (all_nodes l) ≡ all_outer l
unfolding all_marks all_nodes all_outer pick
outer_picked [] = refl
outer_picked (t ∷ l) = picks t (all_marks l) (all_nodes l) ∙ ap (λ (r : List Tree). outer t ++ r) (outer_picked l)

-- ---- as many marks as nodes

marks_step : (b : Bool) (p q : List Bool) (n : ℕ) → length p ≡ n → length q ≡ n → length {A = Bool} (elim b as (λ _. List Bool) [ true ↦ p | false ↦ q ]) ≡ n
marks_step true p q n d e = d
marks_step false p q n d e = e

mutual
  unfolding marks nodes

  marks_length : (t : Tree) → length (marks t) ≡ length (nodes t)
  marks_length (Sym n) = refl
  marks_length (Const c) = refl
  marks_length (Op k f) = ap suc (marks_step (is_switch k) (marks_first f) (marks_of f) (length (nodes_of f)) (first_length f) (of_length f))

  of_length : (f : Forest) → length (marks_of f) ≡ length (nodes_of f)
  of_length nil = refl
  of_length (t ◂ f) = length-append (marks t) (marks_of f) ∙ ap₂ ◌+◌ (marks_length t) (of_length f) ∙ sym (length-append (nodes t) (nodes_of f))

  first_length : (f : Forest) → length (marks_first f) ≡ length (nodes_of f)
  first_length nil = refl
  first_length (t ◂ f) =
      length-append (marks t) (marks_inside (nodes_of f)) ∙ ap₂ ◌+◌ (marks_length t) (length-map (nodes_of f) (λ t. false)) ∙ sym (length-append (nodes t) (nodes_of f))

mutual
  unfolding nodes size total

  nodes_length : (t : Tree) → length (nodes t) ≡ size t
  nodes_length (Sym n) = refl
  nodes_length (Const c) = refl
  nodes_length (Op k f) = omega (arith, nodes_of_length f)

  nodes_of_length : (f : Forest) → suc (length (nodes_of f)) ≡ size (Op 0 f)
  nodes_of_length nil = refl
  nodes_of_length (t ◂ f) = omega (arith, length-append (nodes t) (nodes_of f), nodes_length t, nodes_of_length f)

all_marks_append : (a b : List Tree) → all_marks (a ++ b) ≡ all_marks a ++ all_marks b
unfolding all_marks
all_marks_append [] b = refl
all_marks_append (t ∷ a) b = ap (λ (m : List Bool). marks t ++ m) (all_marks_append a b) ∙ sym (append_assoc (marks t) (all_marks a) (all_marks b))

marks_forest : (l : List Tree) → marks_of (forest l) ≡ all_marks l
unfolding marks all_marks forest
marks_forest [] = refl
marks_forest (t ∷ l) = ap (λ (m : List Bool). marks t ++ m) (marks_forest l)

nodes_forest : (l : List Tree) → length (nodes_of (forest l)) ≡ sizes l
unfolding nodes_of forest sizes total
nodes_forest [] = refl
nodes_forest (t ∷ l) = length-append (nodes t) (nodes_of (forest l)) ∙ ap₂ ◌+◌ (nodes_length t) (nodes_forest l)

all_marks_length : (l : List Tree) → length (all_marks l) ≡ sizes l
unfolding all_marks sizes total
all_marks_length [] = refl
all_marks_length (t ∷ l) = length-append (marks t) (all_marks l) ∙ ap₂ ◌+◌ (marks_length t ∙ nodes_length t) (all_marks_length l)

-- ---- marks with a run of them made false

before_run : (a x y : List Bool) (j : ℕ) → j < length a → get_or (a ++ x) j true ≡ get_or (a ++ y) j true
before_run [] x y j h = absurd (omega arith)
before_run (b ∷ a) x y zero h = refl
before_run (b ∷ a) x y (suc j) h = before_run a x y j (omega arith)

in_run : (a : List Bool) (l : List Tree) (c : List Bool) (j : ℕ) → length a ≤ j → j < length a + length l → get_or (a ++ (marks_inside l ++ c)) j true ≡ false
unfolding marks_inside
in_run [] [] c j h g = absurd (omega arith)
in_run [] (t ∷ l) c zero h g = refl
in_run [] (t ∷ l) c (suc j) h g = in_run [] l c j (omega arith) (omega arith)
in_run (b ∷ a) l c zero h g = absurd (omega arith)
in_run (b ∷ a) l c (suc j) h g = in_run a l c j (omega arith) (omega arith)

after_run : (a x y c : List Bool) (j : ℕ) → length x ≡ length y → length a + length x ≤ j → get_or (a ++ (x ++ c)) j true ≡ get_or (a ++ (y ++ c)) j true
after_run [] [] [] c j e h = refl
after_run [] [] (b ∷ y) c j e h = absurd (omega arith)
after_run [] (b ∷ x) [] c j e h = absurd (omega arith)
after_run [] (b ∷ x) (d ∷ y) c zero e h = absurd (omega arith)
after_run [] (b ∷ x) (d ∷ y) c (suc j) e h = after_run [] x y c j (omega arith) (omega arith)
after_run (b ∷ a) x y c zero e h = absurd (omega arith)
after_run (b ∷ a) x y c (suc j) e h = after_run a x y c j e (omega arith)

pub and_true : (b : Bool) → (b && true) ≡ b
and_true true = refl
and_true false = refl

inside_length : (l : List Tree) → length (marks_inside l) ≡ length l
unfolding marks_inside
inside_length [] = refl
inside_length (t ∷ l) = ap suc (inside_length l)

run_made :
    (a y c : List Bool) (l : List Tree) (j : ℕ) → length l ≡ length y
    → get_or (a ++ (marks_inside l ++ c)) j true ≡ (get_or (a ++ (y ++ c)) j true && not (leb (length a) j && ltb j (length a + length y)))
run_made a y c l j e = go (leb (length a) j) (ltb j (length a + length y)) refl refl
  where
    go : (p q : Bool) → leb (length a) j ≡ p → ltb j (length a + length y) ≡ q
        → get_or (a ++ (marks_inside l ++ c)) j true ≡ (get_or (a ++ (y ++ c)) j true && not (p && q))
    go false q d f = before_run a (marks_inside l ++ c) (y ++ c) j (leb-false (length a) j d) ∙ sym (and_true (get_or (a ++ (y ++ c)) j true))
    go true false d f =
        let n : length (marks_inside l) ≡ length y = inside_length l ∙ e in
        after_run a (marks_inside l) y c j n (omega (arith, ltb-false j (length a + length y) f)) ∙ sym (and_true (get_or (a ++ (y ++ c)) j true))
    go true true d f =
        in_run a l c j (leb-true (length a) j d) (omega (arith, ltb-true j (length a + length y) f)) ∙ sym (and_false (get_or (a ++ (y ++ c)) j true))

-- ---- the marks of what is read, a word at a time

module _ (w : ℕ) (ws : List ℕ) where
  abbrev rs : List Tree
  rs = read numbered ws

  marks_cons : all_marks (read numbered (w ∷ ws)) ≡ marks (made numbered w rs) ++ all_marks (drop (takes w) rs)
  unfolding all_marks
  marks_cons = ap all_marks (read_cons numbered w ws)

  all_again : all_marks (take (takes w) rs) ++ all_marks (drop (takes w) rs) ≡ all_marks rs
  all_again = sym (all_marks_append (take (takes w) rs) (drop (takes w) rs)) ∙ ap all_marks (take-append-drop (takes w) rs)

  -- the first is outside, and the others are as they were but for the arms of a switch
  abbrev Marked : List Bool → Type 0
  Marked m = (get_or m 0 true ≡ true) × ((j : ℕ) → get_or m (suc j) true ≡ (get_or (all_marks rs) j true && not (in_arm_of (w ∷ ws) 0 (suc j))))

  in_first : (j : ℕ) → in_arm_of (w ∷ ws) 0 (suc j) ≡ (is_switch (kind_of w) && (leb (size (get_or rs 0 (Op 0 nil))) j && ltb j (sizes (take (takes w) rs))))
  unfolding in_arm_of numbered_at trees_at
  in_first j =
      let e : get_or (trees_at numbered ws) 0 (Op 0 nil) ≡ get_or rs 0 (Op 0 nil) = tree_at numbered ws 0 in
      let s : 1 + size (get_or (trees_at numbered ws) 0 (Op 0 nil)) ≡ suc (size (get_or rs 0 (Op 0 nil))) = omega (arith, ap size e) in
      let z : 0 + size (made numbered w rs) ≡ suc (sizes (take (takes w) rs)) = omega (arith, size_made numbered w rs) in
      ap (λ (b : Bool). is_switch (kind_of w) && b)
      (ap₂ ◌&&◌ (ap (λ (n : ℕ). leb n (suc j)) s ∙ leb-suc-suc (size (get_or rs 0 (Op 0 nil))) j)
      (ap (λ (n : ℕ). ltb (suc j) n) z ∙ leb-suc-suc (suc j) (sizes (take (takes w) rs))))

  plain : (m : List Bool) → m ≡ true ∷ all_marks rs → ((j : ℕ) → in_arm_of (w ∷ ws) 0 (suc j) ≡ false) → Marked m
  plain m e h = (
    ap (λ (m : List Bool). get_or m 0 true) e,
    λ j.
        ap (λ (m : List Bool). get_or m (suc j) true) e
        ∙ sym (ap (λ (b : Bool). get_or (all_marks rs) j true && not b) (h j) ∙ and_true (get_or (all_marks rs) j true)),
  )

  low_kind : kind_of w ≤ 1 → (j : ℕ) → in_arm_of (w ∷ ws) 0 (suc j) ≡ false
  low_kind h j =
      let b : is_switch (kind_of w) ≡ false = lt-leb 26 (kind_of w) (omega arith) in
      in_first j ∙ ap (λ (s : Bool). s && (leb (size (get_or rs 0 (Op 0 nil))) j && ltb j (sizes (take (takes w) rs)))) b

  leaf_marked : (m : List Bool) → kind_of w ≤ 1 → m ≡ true ∷ all_marks (drop (takes w) rs) → Marked m
  leaf_marked m h e = plain m (e ∙ ap (λ (a : ℕ). true ∷ all_marks (drop a rs)) (leaf_takes w h)) (low_kind h)

  -- the first of the trees read, and what is after it, for a switch
  switch_marked :
      (ts us : List Tree) → ts ++ us ≡ rs → (m : List Bool) → m ≡ true ∷ (marks_first (forest ts) ++ all_marks us)
      → ((j : ℕ) → in_arm_of (w ∷ ws) 0 (suc j) ≡ (leb (size (get_or rs 0 (Op 0 nil))) j && ltb j (sizes ts))) → Marked m
  unfolding marks forest sizes total all_marks
  switch_marked [] us e m d h =
      plain m (d ∙ ap (λ (l : List Tree). true ∷ all_marks l) e)
      (λ j. h j ∙ ap (λ (b : Bool). leb (size (get_or rs 0 (Op 0 nil))) j && b) (lt-leb (suc j) 0 (omega arith)) ∙ and_false (leb (size (get_or rs 0 (Op 0 nil))) j))
  switch_marked (t ∷ ts) us e m d h = (
    ap (λ (m : List Bool). get_or m 0 true) d,
    λ j.
        let first : get_or rs 0 (Op 0 nil) ≡ t = ap (λ (l : List Tree). get_or l 0 (Op 0 nil)) (sym e) in
        let n = nodes_forest ts ∙ sym (all_marks_length ts) in
        let sa : length (marks t) ≡ size t = marks_length t ∙ nodes_length t in
        let sb : length (marks t) + length (all_marks ts) ≡ size t + sizes ts = ap₂ ◌+◌ sa (all_marks_length ts) in
        let whole : marks t ++ (all_marks ts ++ all_marks us) ≡ all_marks rs = ap (λ (x : List Bool). marks t ++ x) (sym (all_marks_append ts us)) ∙ ap all_marks e in
        ap (λ (m : List Bool). get_or m (suc j) true) d
        ∙ ap (λ (x : List Bool). get_or x j true) (append_assoc (marks t) (marks_inside (nodes_of (forest ts))) (all_marks us))
        ∙ run_made (marks t) (all_marks ts) (all_marks us) (nodes_of (forest ts)) j n
        ∙ ap₂ (λ (x : List Bool) (b : Bool). get_or x j true && not b) whole
        (ap₂ (λ (x y : ℕ). leb x j && ltb j y) (sa ∙ ap size (sym first)) sb ∙ sym (h j)),
  )

  operation_step :
      (b : Bool) → is_switch (kind_of w) ≡ b → (m : List Bool)
      → m ≡ true ∷ (elim b as (λ _. List Bool) [ true ↦ marks_first (forest (take (takes w) rs)) | false ↦ marks_of (forest (take (takes w) rs)) ] ++ all_marks (drop (takes w) rs))
      → Marked m
  operation_step true s m e =
      switch_marked (take (takes w) rs) (drop (takes w) rs) (take-append-drop (takes w) rs) m e
      (λ j. in_first j ∙ ap (λ (b : Bool). b && (leb (size (get_or rs 0 (Op 0 nil))) j && ltb j (sizes (take (takes w) rs)))) s)
  operation_step false s m e =
      plain m (e ∙ ap (λ (x : List Bool). true ∷ (x ++ all_marks (drop (takes w) rs))) (marks_forest (take (takes w) rs)) ∙ ap (λ (x : List Bool). true ∷ x) all_again)
      (λ j. in_first j ∙ ap (λ (b : Bool). b && (leb (size (get_or rs 0 (Op 0 nil))) j && ltb j (sizes (take (takes w) rs)))) s)

  marked : Marked (all_marks (read numbered (w ∷ ws)))
  unfolding marks
  marked = go (word_is w)
    where
      from : (t : Tree) → made numbered w rs ≡ t → all_marks (read numbered (w ∷ ws)) ≡ marks t ++ all_marks (drop (takes w) rs)
      from t e = marks_cons ∙ ap (λ (t : Tree). marks t ++ all_marks (drop (takes w) rs)) e

      go : Word w → Marked (all_marks (read numbered (w ∷ ws)))
      go (a_symbol h) = leaf_marked (all_marks (read numbered (w ∷ ws))) (omega arith) (from _ (symbol_tree numbered w (take (takes w) rs) h))
      go (a_constant h) = leaf_marked (all_marks (read numbered (w ∷ ws))) (omega arith) (from _ (constant_tree numbered w (take (takes w) rs) h))
      go (an_operation h) =
          operation_step (is_switch (kind_of w)) refl (all_marks (read numbered (w ∷ ws))) (from _ (operation_tree numbered w (take (takes w) rs) h))

-- ---- a place is marked where it is in no arm

swap_or : (a b c : Bool) → (a || (b || c)) ≡ (b || (a || c))
swap_or true true c = refl
swap_or true false c = refl
swap_or false true c = refl
swap_or false false c = refl

not_or : (a b : Bool) → (not b && not a) ≡ not (a || b)
not_or true true = refl
not_or true false = refl
not_or false true = refl
not_or false false = refl

shifted : (w : ℕ) (ws : List ℕ) (p j : ℕ) → in_arm_of (w ∷ ws) (suc p) (suc j) ≡ in_arm_of ws p j
unfolding in_arm_of numbered_at trees_at
shifted w ws p j =
    let s = size (get_or (trees_at numbered ws) (suc p) (Op 0 nil)) in
    let t = size (get_or (trees_at numbered ws) p (Op 0 nil)) in
    let a : suc (suc p) + s ≡ suc (suc p + s) = omega arith in
    let b : suc p + t ≡ suc (p + t) = omega arith in
    ap (λ (x : Bool). is_switch (kind_of (get_or ws p 0)) && x)
    (ap₂ ◌&&◌ (ap (λ (n : ℕ). leb n (suc j)) a ∙ leb-suc-suc (suc p + s) j) (ap (λ (n : ℕ). ltb (suc j) n) b ∙ leb-suc-suc (suc j) (p + t)))

arms_front : (w : ℕ) (ws : List ℕ) (n j : ℕ) → in_arm (w ∷ ws) (suc n) (suc j) ≡ (in_arm_of (w ∷ ws) 0 (suc j) || in_arm ws n j)
unfolding in_arm
arms_front w ws zero j = refl
arms_front w ws (suc n) j =
    ap₂ ◌||◌ (shifted w ws n j) (arms_front w ws n j) ∙ swap_or (in_arm_of ws n j) (in_arm_of (w ∷ ws) 0 (suc j)) (in_arm ws n j)

never_first : (ws : List ℕ) (n : ℕ) → in_arm ws n 0 ≡ false
unfolding in_arm in_arm_of
never_first ws zero = refl
never_first ws (suc n) =
    let s = size (numbered_at ws (suc n)) in
    let e : leb (suc n + s) 0 ≡ false = lt-leb (suc n + s) 0 (omega arith) in
    ap₂ ◌||◌ (ap (λ (b : Bool). is_switch (kind_of (get_or ws n 0)) && (b && ltb 0 (n + size (numbered_at ws n)))) e ∙ and_false (is_switch (kind_of (get_or ws n 0)))) (never_first ws n)

no_marks : (j : ℕ) → get_or (all_marks (read numbered [])) j true ≡ not (in_arm [] 0 j)
unfolding all_marks read in_arm
no_marks j = refl

place_marked : (ws : List ℕ) (j : ℕ) → get_or (all_marks (read numbered ws)) j true ≡ not (in_arm ws (length ws) j)
place_marked [] j = no_marks j
place_marked (w ∷ ws) zero = (marked w ws).0 ∙ ap not (sym (never_first (w ∷ ws) (suc (length ws))))
place_marked (w ∷ ws) (suc j) =
    (marked w ws).1 j
    ∙ ap (λ (b : Bool). b && not (in_arm_of (w ∷ ws) 0 (suc j))) (place_marked ws j)
    ∙ not_or (in_arm_of (w ∷ ws) 0 (suc j)) (in_arm ws (length ws) j)
    ∙ ap not (sym (arms_front w ws (length ws) j))

-- ---- the trees at places that pass, from place i on

unfoldable pub those_passing : (ℕ → Bool) → ℕ → List Tree → List Tree
those_passing test i [] = []
those_passing test i (t ∷ l) = elim (test i) [ true ↦ t ∷ those_passing test (suc i) l | false ↦ those_passing test (suc i) l ]

picks_passing :
    (test : ℕ → Bool) (i : ℕ) (m : List Bool) (l : List Tree) → length m ≡ length l → ((j : ℕ) → get_or m j true ≡ test (i + j)) → those_passing test i l ≡ pick m l
unfolding those_passing pick
picks_passing test i [] [] e h = refl
picks_passing test i [] (t ∷ l) e h = absurd (omega arith)
picks_passing test i (b ∷ m) [] e h = refl
picks_passing test i (b ∷ m) (t ∷ l) e h =
    let z : i + 0 ≡ i = omega arith in
    let same : test i ≡ b = ap test (sym z) ∙ sym (h 0) in
    ap₂ (λ (c : Bool) (r : List Tree). elim c as (λ _. List Tree) [ true ↦ t ∷ r | false ↦ r ]) same
    (picks_passing test (suc i) m l (omega arith) (λ j. let y : i + suc j ≡ suc i + j = omega arith in h (suc j) ∙ ap test y))

pub outer_passing : (ws : List ℕ) → those_passing (λ j. not (in_arm ws (length ws) j)) 0 (trees_at numbered ws) ≡ all_outer (read numbered ws)
outer_passing ws =
    let m = all_marks (read numbered ws) in
    let l = all_marks_length (read numbered ws) in
    picks_passing (λ j. not (in_arm ws (length ws) j)) 0 m (trees_at numbered ws) (omega (arith, l, read_size numbered ws, trees_length numbered ws))
    (λ j. let z : 0 + j ≡ j = omega arith in place_marked ws j ∙ ap (λ (k : ℕ). not (in_arm ws (length ws) k)) (sym z))
    ∙ ap (pick m) (places_are_nodes numbered ws)
    ∙ outer_picked (read numbered ws)
