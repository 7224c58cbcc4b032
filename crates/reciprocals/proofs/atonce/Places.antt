-- Trees at places, by their operands' places. Assumes nothing.
use Prim.Native.Nat.{ℕ, zero, suc, ◌+◌, ◌≤◌, ◌<◌}
use native.Mathlib.Omega.{arith}
use mathlib.Core.Path.{◌≡◌, refl, sym, ◌∙◌, ap, ap₂}
use mathlib.Core.Option.{some}
use mathlib.Core.List.{List, [], ◌∷◌, map}
use lib.ListN.{length, get_or, take, drop}
use lib.Seq.{drop-drop}
use Rattle.spec_tree.specs.Tree.{Tree, Op, nil}
use Rattle.spec_tree.specs.Facts.{size, total}
use Rattle.spec_tree.specs.Tokens.{read, numbered, takes, tree_of_word, trees_in}
use Rattle.spec_tree.proofs.TokenLaws.{sizes, read_past, tree_at}
use Rattle.laws.specs.positions.Places.{numbered_at}
use Rattle.laws.proofs.positions.DivisorPlaces.{here_is, enough}
use Rattle.reciprocals.specs.atonce.Places.{places_from, operand_places}

-- the first tree read from a place stands there, and the others after it
pub roots_cons :
    (ws : List ℕ) (q : ℕ) → 1 ≤ length (read numbered (drop q ws))
    → read numbered (drop q ws) ≡ numbered_at ws q ∷ read numbered (drop (q + size (numbered_at ws q)) ws)
roots_cons ws q h =
    let rs = read numbered (drop q ws) in
    let e : numbered_at ws q ≡ get_or rs 0 (Op 0 nil) = (unfold numbered_at in tree_at numbered ws q) in
    let z : sizes (take 1 rs) ≡ size (numbered_at ws q) = one_size rs h ∙ ap size (sym e) in
    let r : read numbered (drop (q + size (numbered_at ws q)) ws) ≡ drop 1 rs =
    ap (read numbered) (sym (drop-drop (size (numbered_at ws q)) q ws)) ∙ (ap (λ (k : ℕ). read numbered (drop k (drop q ws))) (sym z) ∙ read_past numbered (drop q ws) 1) in
    first_rest rs h ∙ ap₂ (λ (t : Tree) (l : List Tree). t ∷ l) (sym e) (sym r)
  where
    one_size : (l : List Tree) → 1 ≤ length l → sizes (take 1 l) ≡ size (get_or l 0 (Op 0 nil))
    one_size [] h = absurd (omega arith)
    one_size (t ∷ l) h = (unfold sizes total in (omega arith))

    first_rest : (l : List Tree) → 1 ≤ length l → l ≡ get_or l 0 (Op 0 nil) ∷ drop 1 l
    first_rest [] h = absurd (omega arith)
    first_rest (t ∷ l) h = refl

pub trees_from : (ws : List ℕ) (k q : ℕ) → k ≤ length (read numbered (drop q ws)) → take k (read numbered (drop q ws)) ≡ map (numbered_at ws) (places_from ws k q)
unfolding places_from
trees_from ws zero q h = refl
trees_from ws (suc k) q h =
    let e = roots_cons ws q (omega arith) in
    let n : length (read numbered (drop q ws)) ≡ suc (length (read numbered (drop (q + size (numbered_at ws q)) ws))) = ap length e in
    ap (take (suc k)) e ∙ ap (λ (l : List Tree). numbered_at ws q ∷ l) (trees_from ws k (q + size (numbered_at ws q)) (omega arith))

-- the node at a place is its word over the trees at its operands' places
pub node_at :
    (ws : List ℕ) (m : ℕ) → trees_in ws ≡ some m → (p : ℕ) → p < length ws
    → numbered_at ws p ≡ tree_of_word numbered (get_or ws p 0) (map (numbered_at ws) (operand_places ws p))
unfolding operand_places
node_at ws m complete p h =
    here_is ws m complete p h
    ∙ ap (tree_of_word numbered (get_or ws p 0)) (trees_from ws (takes (get_or ws p 0)) (suc p) (enough ws m complete p h))

pub places_count : (ws : List ℕ) (k q : ℕ) → length (places_from ws k q) ≡ k
unfolding places_from
places_count ws zero q = refl
places_count ws (suc k) q = ap suc (places_count ws k (q + size (numbered_at ws q)))
