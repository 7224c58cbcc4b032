-- Where the trees that are read from a place on stand and end, and that a tree which begins inside another ends inside it. Assumes nothing.
use Prim.Native.Nat.{ℕ, zero, suc, ◌+◌, ◌-◌, ◌≤◌, ◌<◌}
use native.Mathlib.Omega.{arith}
use mathlib.Core.Path.{◌≡◌, refl, sym, ◌∙◌, ap, subst}
use mathlib.Core.Option.{some}
use mathlib.Core.List.{List, [], ◌∷◌, ◌++◌, map}
use lib.ListN.{length, get_or, take, drop, length-drop}
use lib.Seq.{drop-cons}
use Rattle.spec_tree.specs.Facts.{size, total}
use Rattle.spec_tree.specs.Tokens.{read, numbered, takes, trees_in}
use Rattle.spec_tree.proofs.FactLaws.{size_one}
use Rattle.spec_tree.proofs.TokenLaws.{sizes, made, size_made, read_cons}
use Rattle.laws.specs.positions.Places.{numbered_at}
use Rattle.laws.proofs.positions.DivisorPlaces.{here_is, enough}
use Rattle.reciprocals.specs.atonce.Places.{places_from, operand_places}
use Rattle.reciprocals.proofs.atonce.Places.{roots_cons, trees_from}

module _ (ws : List ℕ) (n : ℕ) (complete : trees_in ws ≡ some n) where
  -- how many trees are read from a place on
  unfoldable pub roots : ℕ → ℕ
  roots p = length (read numbered (drop p ws))

  cons_at : (p : ℕ) → p < length ws → read numbered (drop p ws) ≡ made numbered (get_or ws p 0) (read numbered (drop (suc p) ws)) ∷ drop (takes (get_or ws p 0)) (read numbered (drop (suc p) ws))
  cons_at p h = ap (read numbered) (drop-cons ws p 0 h) ∙ read_cons numbered (get_or ws p 0) (drop (suc p) ws)

  pub roots_next : (p : ℕ) → p < length ws → roots p ≡ suc (roots (p + size (numbered_at ws p)))
  unfolding roots
  roots_next p h =
      let e : length (read numbered (drop p ws)) ≡ suc (length (drop (takes (get_or ws p 0)) (read numbered (drop (suc p) ws)))) = ap length (cons_at p h) in
      ap length (roots_cons ws p (omega arith))

  pub roots_inside : (p : ℕ) → p < length ws → roots (suc p) ≡ takes (get_or ws p 0) + roots (p + size (numbered_at ws p))
  roots_inside p h =
      (let rs = read numbered (drop (suc p) ws) in
      let a = takes (get_or ws p 0) in
      let e : roots p ≡ suc (length (drop a rs)) = (unfold roots in ap length (cons_at p h)) in
      let d = length-drop a rs in
      let k = enough ws n complete p h in
      let x = roots_next p h in
      let r : roots (suc p) ≡ length rs = (unfold roots in refl) in
      omega arith)

  -- the place past k trees from q on
  unfoldable pub past : ℕ → ℕ → ℕ
  past zero q = q
  past (suc k) q = past k (q + size (numbered_at ws q))

  places_append : (a b q : ℕ) → places_from ws (a + b) q ≡ places_from ws a q ++ places_from ws b (past a q)
  unfolding places_from past
  places_append zero b q = let e : 0 + b ≡ b = omega arith in ap (λ (k : ℕ). places_from ws k q) e
  places_append (suc a) b q =
      let e : suc a + b ≡ suc (a + b) = omega arith in
      ap (λ (k : ℕ). places_from ws k q) e ∙ ap (λ (l : List ℕ). q ∷ l) (places_append a b (q + size (numbered_at ws q)))

  past_sizes : (k q : ℕ) → past k q ≡ q + sizes (map (numbered_at ws) (places_from ws k q))
  unfolding past places_from sizes total
  past_sizes zero q = omega arith
  past_sizes (suc k) q = (let e = past_sizes k (q + size (numbered_at ws q)) in omega arith)

  pub past_operands : (p : ℕ) → p < length ws → past (takes (get_or ws p 0)) (suc p) ≡ p + size (numbered_at ws p)
  past_operands p h =
      (let w = get_or ws p 0 in
      let rs = read numbered (drop (suc p) ws) in
      let a = past_sizes (takes w) (suc p) in
      let b : sizes (take (takes w) rs) ≡ sizes (map (numbered_at ws) (places_from ws (takes w) (suc p))) = ap sizes (trees_from ws (takes w) (suc p) (enough ws n complete p h)) in
      let c : size (numbered_at ws p) ≡ suc (sizes (take (takes w) rs)) = ap size (here_is ws n complete p h) ∙ size_made numbered w rs in
      omega arith)

  -- the places of the trees that are read after p are its operands' and those past it
  pub places_inside : (p : ℕ) → p < length ws
      → places_from ws (roots (suc p)) (suc p) ≡ operand_places ws p ++ places_from ws (roots (p + size (numbered_at ws p))) (p + size (numbered_at ws p))
  unfolding operand_places
  places_inside p h =
      let a = takes (get_or ws p 0) in
      let b = roots (p + size (numbered_at ws p)) in
      ap (λ (k : ℕ). places_from ws k (suc p)) (roots_inside p h)
      ∙ (places_append a b (suc p) ∙ ap (λ (q : ℕ). places_from ws a (suc p) ++ places_from ws b q) (past_operands p h))

  -- ---- where trees end

  abbrev pub ends : ℕ → ℕ → ℕ
  ends = past

  pub ends_append : (a b q : ℕ) → ends (a + b) q ≡ ends b (ends a q)
  unfolding past
  ends_append zero b q = let e : 0 + b ≡ b = omega arith in ap (λ (k : ℕ). ends k q) e
  ends_append (suc a) b q = let e : suc a + b ≡ suc (a + b) = omega arith in ap (λ (k : ℕ). ends k q) e ∙ ends_append a b (q + size (numbered_at ws q))

  pub ends_least : (k q : ℕ) → q ≤ ends k q
  unfolding past
  ends_least zero q = omega arith
  ends_least (suc k) q = (let h = ends_least k (q + size (numbered_at ws q)) in omega arith)

  pub roots_there : (o : ℕ) → 1 ≤ roots o → o < length ws
  unfolding roots read
  roots_there o h = go o ws h
    where
      go : (o : ℕ) (ws : List ℕ) → 1 ≤ length (read numbered (drop o ws)) → o < length ws
      go zero [] h = absurd (omega arith)
      go zero (w ∷ ws) h = omega arith
      go (suc o) [] h = absurd (omega arith)
      go (suc o) (w ∷ ws) h = (let e = go o ws h in omega arith)

  -- a tree that begins before the end of k trees ends there or before: the first, and any other as one that is read after the first word
  first_nested : (o k : ℕ) → o + 0 < ends k o → o + 0 + size (numbered_at ws (o + 0)) ≤ ends k o
  first_nested o zero l = absurd (let e : ends 0 o ≡ o = (unfold past in refl) in omega arith)
  first_nested o (suc k) l =
      (let e : ends (suc k) o ≡ ends k (o + size (numbered_at ws o)) = (unfold past in refl) in
      let a = ends_least k (o + size (numbered_at ws o)) in
      let z : o + 0 ≡ o = omega arith in
      let b : size (numbered_at ws (o + 0)) ≡ size (numbered_at ws o) = ap (λ (q : ℕ). size (numbered_at ws q)) z in
      omega arith)

  later_nested :
      (d o k : ℕ)
      → ((j : ℕ) → j ≤ roots (suc o) → suc o + d < ends j (suc o) → suc o + d + size (numbered_at ws (suc o + d)) ≤ ends j (suc o))
      → k ≤ roots o → o + suc d < ends k o → o + suc d + size (numbered_at ws (o + suc d)) ≤ ends k o
  later_nested d o zero f h l = absurd (let e : ends 0 o ≡ o = (unfold past in refl) in omega arith)
  later_nested d o (suc k) f h l =
      let there = roots_there o (omega arith) in
      let a = takes (get_or ws o 0) in
      let unfolded : ends (suc k) o ≡ ends k (o + size (numbered_at ws o)) = (unfold past in refl) in
      let inside : ends (a + k) (suc o) ≡ ends (suc k) o = ends_append a k (suc o) ∙ (ap (ends k) (past_operands o there) ∙ sym unfolded) in
      let z : suc o + d ≡ o + suc d = omega arith in
      let ih = f (a + k) (omega (arith, h, roots_next o there, roots_inside o there)) (omega (arith, l, inside)) in
      let b : size (numbered_at ws (suc o + d)) ≡ size (numbered_at ws (o + suc d)) = ap (λ (q : ℕ). size (numbered_at ws q)) z in
      omega (arith, ih, b, inside)

  nested : (d o k : ℕ) → k ≤ roots o → o + d < ends k o → o + d + size (numbered_at ws (o + d)) ≤ ends k o
  nested zero o k h l = first_nested o k l
  nested (suc d) o k h l = later_nested d o k (λ j g i. nested d (suc o) j g i) h l

  pub nests : (o k i : ℕ) → k ≤ roots o → o ≤ i → i < ends k o → i + size (numbered_at ws i) ≤ ends k o
  nests o k i h l e =
      let z : o + (i - o) ≡ i = omega arith in
      subst (λ (x : ℕ). x + size (numbered_at ws x) ≤ ends k o) z (nested (i - o) o k h (omega arith))

  -- an operand begins after its node and before the node's end
  pub operand_inside : (p : ℕ) → p < length ws → (j : ℕ) → j < takes (get_or ws p 0) → ends j (suc p) < p + size (numbered_at ws p)
  operand_inside p there j h =
      (let whole = past_operands p there in
      let a = takes (get_or ws p 0) in
      let z : j + suc (a - suc j) ≡ a = omega arith in
      let x : ends (j + suc (a - suc j)) (suc p) ≡ ends a (suc p) = ap (λ (k : ℕ). ends k (suc p)) z in
      let y = ends_append j (suc (a - suc j)) (suc p) in
      let q = ends j (suc p) in
      let u : ends (suc (a - suc j)) q ≡ ends (a - suc j) (q + size (numbered_at ws q)) = (unfold past in refl) in
      let v = ends_least (a - suc j) (q + size (numbered_at ws q)) in
      let one = size_one (numbered_at ws q) in
      omega (arith, whole, z, x, y, u, v, one))
