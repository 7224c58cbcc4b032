-- The tree at a place whose words are there: its word, its operands, and the place of each of them. Nothing is asked of the other words. Assumes nothing.
use Prim.Native.Nat.{ℕ, zero, suc, ◌+◌, ◌-◌, ◌≤◌, ◌<◌}
use native.Mathlib.Nat.{zero-add, suc-add}
use native.Mathlib.Omega.{arith}
use mathlib.Core.Path.{◌≡◌, refl, sym, ◌∙◌, ap, subst}
use mathlib.Core.Option.{some}
use mathlib.Core.List.{List, [], ◌∷◌, ◌++◌}
use lib.ListN.{length, get_or, take, drop, length-append, length-drop, take-append-drop}
use lib.Seq.{drop-cons, drop-drop, take-add, take-take, length-take-le, get_or-drop, get_or-take}
use Rattle.spec_tree.specs.Tree.{Tree, Op, nil}
use Rattle.spec_tree.specs.Facts.{total, size}
use Rattle.spec_tree.specs.Tokens.{takes, tree_of_word, read, trees_at, words_of, run_at}
use Rattle.spec_tree.proofs.FactLaws.{size_one}
use Rattle.spec_tree.proofs.TokenLaws.{sizes, sizes_append, size_made, read_cons, read_past, complete_length, complete_read, words_complete, words_tail, tree_at, some_is, first_size}

module _ (name_at : ℕ → List ℕ) where
  -- ---- the first trees of some words

  words_are : (ws : List ℕ) (n m k : ℕ) → words_of ws n ≡ some m → k ≤ n → words_of ws k ≡ some (sizes (take k (read name_at ws)))
  unfolding words_of read sizes total
  words_are [] zero m zero e h = refl
  words_are [] zero m (suc k) e h = absurd (omega arith)
  words_are [] (suc n) m k e h = absurd (let z : ◌≡◌ {A = ℕ} 0 1 = cc in omega arith)
  words_are (w ∷ ws) n m zero e h = refl
  words_are (w ∷ ws) zero m (suc k) e h = absurd (omega arith)
  words_are (w ∷ ws) (suc n) m (suc k) e h =
      let t = words_tail w ws n m e in
      let rs = read name_at ws in
      let a = takes w in
      let s : a + k ≡ k + a = omega arith in
      let more = words_are ws (n + a) t.words (k + a) t.are (omega arith) in
      let both = sizes_append (take a rs) (take k (drop a rs)) in
      let all : suc (sizes (take (k + a) rs)) ≡ sizes (take (suc k) (read name_at (w ∷ ws))) =
      rw (← s, take-add a k rs, size_made name_at w rs) (omega (arith, both)) in
      rw more (ap some all)

  no_words : (i j m : ℕ) → words_of [] (suc i + j) ≡ some m → ⊥
  unfolding words_of
  no_words i j m e = let f : words_of [] (suc (i + j)) ≡ some m = rw (suc-add i j) at e in let z : ◌≡◌ {A = ℕ} 0 1 = cc in omega arith

  none_before : (ws : List ℕ) (j m : ℕ) → words_of ws (0 + j) ≡ some m → (k : ℕ) × (words_of (drop (sizes []) ws) j ≡ some k)
  unfolding sizes total
  none_before ws j m e = (m, rw (zero-add j) at e)

  first_words : (w : ℕ) (ws : List ℕ) (i : ℕ) → sizes (take (suc i) (read name_at (w ∷ ws))) ≡ suc (sizes (take (takes w + i) (read name_at ws)))
  unfolding read sizes total
  first_words w ws i =
      let rs = read name_at ws in
      rw (size_made name_at w rs, take-add (takes w) i rs) (omega (arith, sizes_append (take (takes w) rs) (take i (drop (takes w) rs))))

  -- past the first i trees there are the others
  words_past : (ws : List ℕ) (i j m : ℕ) → words_of ws (i + j) ≡ some m → (k : ℕ) × (words_of (drop (sizes (take i (read name_at ws))) ws) j ≡ some k)
  words_past [] zero j m e = none_before [] j m e
  words_past [] (suc i) j m e = absurd (no_words i j m e)
  words_past (w ∷ ws) zero j m e = none_before (w ∷ ws) j m e
  words_past (w ∷ ws) (suc i) j m e =
      let f : words_of (w ∷ ws) (suc (i + j)) ≡ some m = rw (suc-add i j) at e in
      let t = words_tail w ws (i + j) m f in
      let q : i + j + takes w ≡ takes w + i + j = omega arith in
      let below = words_past ws (takes w + i) j t.words (subst (λ (n : ℕ). words_of ws n ≡ some t.words) q t.are) in
      (below.0, rw (first_words w ws i) below.1)

  reads_long : (ws : List ℕ) (n m : ℕ) → words_of ws n ≡ some m → n ≤ length (read name_at ws)
  reads_long ws n m e =
      let k = words_complete ws n m e in
      let l = complete_length name_at (take m ws) n k.1 in
      let r = complete_read name_at (take m ws) (drop m ws) n k.1 in
      let whole : read name_at ws ≡ read name_at (take m ws) ++ read name_at (drop m ws) = rw take-append-drop at r in
      omega (arith, l, ap length whole, length-append (read name_at (take m ws)) (read name_at (drop m ws)))

  -- the words of tree i
  words_at : (ws : List ℕ) (n m i : ℕ) → words_of ws n ≡ some m → i < n
      → words_of (drop (sizes (take i (read name_at ws))) ws) 1 ≡ some (size (get_or (read name_at ws) i (Op 0 nil)))
  words_at ws n m i e h =
      let rs = read name_at ws in
      let q : n ≡ i + (n - i) = omega arith in
      let p = words_past ws i (n - i) m (subst (λ (k : ℕ). words_of ws k ≡ some m) q e) in
      let us = drop (sizes (take i rs)) ws in
      let one = words_are us (n - i) p.0 1 p.1 (omega arith) in
      let long : 1 ≤ length (drop i rs) = omega (arith, reads_long ws n m e, length-drop i rs) in
      let z : i + 0 ≡ i = omega arith in
      one
      ∙ ap some (ap (λ (l : List Tree). sizes (take 1 l)) (read_past name_at ws i) ∙ (first_size (drop i rs) long ∙ ap size (get_or-drop i rs 0 (Op 0 nil) ∙ ap (λ (k : ℕ). get_or rs k (Op 0 nil)) z)))

  -- ---- the tree at a place

  abbrev pub here : List ℕ → ℕ → Tree
  here ws at = get_or (trees_at name_at ws) at (Op 0 nil)

  abbrev pub below_here : List ℕ → ℕ → List Tree
  below_here ws at = take (takes (get_or ws at 0)) (read name_at (drop (suc at) ws))

  -- it has as many words as nodes
  pub run_is_size : (ws : List ℕ) (at n : ℕ) → run_at ws at ≡ some n → n ≡ size (here ws at)
  unfolding run_at
  run_is_size ws at n e =
      let us = drop at ws in
      let one = words_are us 1 n 1 e (omega arith) in
      let f = first_size (read name_at us) (reads_long us 1 n e) in
      some_is (sym e ∙ one) ∙ (f ∙ ap size (sym (tree_at name_at ws at)))

  pub record Node (ws : List ℕ) (at : ℕ) : Type 0 where
    pub inside : at < length ws
    pub is : here ws at ≡ tree_of_word name_at (get_or ws at 0) (below_here ws at)
    pub sized : size (here ws at) ≡ suc (sizes (below_here ws at))
    pub words : words_of (drop (suc at) ws) (takes (get_or ws at 0)) ≡ some (sizes (below_here ws at))
    pub many : length (below_here ws at) ≡ takes (get_or ws at 0)

  pub node : (ws : List ℕ) (at : ℕ) → run_at ws at ≡ some (size (here ws at)) → Node ws at
  unfolding run_at
  node ws at e =
      let long = (words_complete (drop at ws) 1 (size (here ws at)) e).0 in
      let inside : at < length ws = omega (arith, long, size_one (here ws at), length-drop at ws) in
      let w = get_or ws at 0 in
      let rest = drop (suc at) ws in
      let rs = read name_at rest in
      let d = drop-cons ws at 0 inside in
      let is : here ws at ≡ tree_of_word name_at w (take (takes w) rs) =
      tree_at name_at ws at ∙ (ap (λ (l : List ℕ). get_or (read name_at l) 0 (Op 0 nil)) d ∙ ap (λ (l : List Tree). get_or l 0 (Op 0 nil)) (read_cons name_at w rest)) in
      let sized = ap size is ∙ size_made name_at w rs in
      let t = words_tail w rest 0 (size (here ws at)) (subst (λ (l : List ℕ). words_of l 1 ≡ some (size (here ws at))) d e) in
      let same : t.words ≡ sizes (take (takes w) rs) = omega (arith, sized, t.one_more) in
      let words : words_of rest (takes w) ≡ some (sizes (take (takes w) rs)) = subst (λ (n : ℕ). words_of rest n ≡ some (sizes (take (takes w) rs))) (zero-add (takes w)) (t.are ∙ ap some same) in
      record { inside = inside; is = is; sized = sized; words = words; many = length-take-le (takes w) rs (reads_long rest (takes w) (sizes (take (takes w) rs)) words) }

  -- ---- operand i, after the words of those before it

  pub record Operand (ws : List ℕ) (at i next : ℕ) : Type 0 where
    pub is : here ws next ≡ get_or (below_here ws at) i (Op 0 nil)
    pub run : run_at ws next ≡ some (size (here ws next))

  pub operand : (ws : List ℕ) (at i next : ℕ) → Node ws at → i < takes (get_or ws at 0) → next ≡ at + 1 + sizes (take i (below_here ws at)) → Operand ws at i next
  unfolding run_at
  operand ws at i next N h q =
      let w = get_or ws at 0 in
      let rest = drop (suc at) ws in
      let rs = read name_at rest in
      let s : take i (take (takes w) rs) ≡ take i rs = take-take i (takes w) rs (omega arith) in
      let p : next ≡ suc at + sizes (take i rs) = omega (arith, q, ap sizes s) in
      let d : drop next ws ≡ drop (sizes (take i rs)) rest = ap (λ (k : ℕ). drop k ws) p ∙ sym (drop-drop (sizes (take i rs)) (suc at) ws) in
      let z : i + 0 ≡ i = omega arith in
      let g : get_or rs i (Op 0 nil) ≡ get_or (take (takes w) rs) i (Op 0 nil) = sym (get_or-take (takes w) rs i (Op 0 nil) h) in
      let is : here ws next ≡ get_or (take (takes w) rs) i (Op 0 nil) =
      tree_at name_at ws next
      ∙ (ap (λ (l : List ℕ). get_or (read name_at l) 0 (Op 0 nil)) d
      ∙ (ap (λ (l : List Tree). get_or l 0 (Op 0 nil)) (read_past name_at rest i) ∙ (get_or-drop i rs 0 (Op 0 nil) ∙ (ap (λ (k : ℕ). get_or rs k (Op 0 nil)) z ∙ g)))) in
      let run = words_at rest (takes w) (sizes (take (takes w) rs)) i N.words h in
      record { is = is; run = ap (λ (l : List ℕ). words_of l 1) d ∙ (run ∙ ap some (ap size (g ∙ sym is))) }
