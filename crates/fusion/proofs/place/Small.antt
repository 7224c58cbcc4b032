-- How large the trees are that a scope has before it fuses (01, "Reciprocals"): settling makes no tree larger, a reciprocal has two nodes besides its divisor's, and the
-- tree at a place is no larger than the largest tree that is read. Assumes nothing.
use Prim.Native.Nat.{ℕ, zero, suc, ◌+◌, ◌≤◌}
use native.Mathlib.Omega.{arith}
use mathlib.Core.Path.{◌≡◌, refl, sym, subst}
use mathlib.Core.Bool.{Bool, true, false}
use mathlib.Core.List.{List, [], ◌∷◌, map}
use lib.ListN.{length, get_or, take, drop, take-append-drop}
use Rattle.spec_tree.specs.Tree.{Tree, Op, nil}
use Rattle.spec_tree.specs.Facts.{size}
use Rattle.spec_tree.specs.Tokens.{read, numbered, takes, trees_at}
use Rattle.spec_tree.proofs.TokenLaws.{sizes, read_size, made, size_made, read_cons, trees_cons}
use Rattle.laws.specs.positions.Places.{numbered_at}
use Rattle.laws.proofs.positions.Extraction.{Every, every_append}
use Rattle.reciprocals.proofs.bindings.Parts.{settle_tree, reciprocal, settled_reciprocals}
use Rattle.fusion.specs.Switchless.{switchless, with_switches}
use Rattle.fusion.specs.Whole.{settled_roots}
use Rattle.fusion.specs.place.Parts.{reciprocals_first, trees_held, settled_trees}
use Rattle.reciprocals.proofs.reciprocal.Reading.{settle_size}
use Rattle.spec_tree.proofs.Lists.{sizes_cons}

abbrev pub Small : ℕ → Tree → Type 0
Small c t = size t ≤ c

pub default_small : size (Op 0 nil) ≡ 1
unfolding size
default_small = refl

pub small_at : (c : ℕ) (l : List Tree) → 1 ≤ c → Every (Small c) l → (i : ℕ) → size (get_or l i (Op 0 nil)) ≤ c
small_at c [] h e i = omega (arith, default_small, h)
small_at c (t ∷ l) h e zero = e.0
small_at c (t ∷ l) h e (suc i) = small_at c l h e.1 i

pub more_small : (c d : ℕ) → c ≤ d → (l : List Tree) → Every (Small c) l → Every (Small d) l
more_small c d h [] e = tt
more_small c d h (t ∷ l) e = ((let f = e.0 in omega arith), more_small c d h l e.1)

-- each of some trees where all together are
pub small_sum : (l : List Tree) (c : ℕ) → sizes l ≤ c → Every (Small c) l
small_sum [] c h = tt
small_sum (t ∷ l) c h = (omega (arith, sizes_cons t l, h), small_sum l c (omega (arith, sizes_cons t l, h)))

pub read_small : (ws : List ℕ) (c : ℕ) → length ws ≤ c → Every (Small c) (read numbered ws)
read_small ws c h = small_sum (read numbered ws) c (omega (arith, read_size numbered ws))

-- ---- at places

no_places : trees_at numbered [] ≡ []
unfolding trees_at
no_places = refl

trees_small : (c : ℕ) (ws : List ℕ) → Every (Small c) (read numbered ws) → Every (Small c) (trees_at numbered ws)
trees_small c [] e = subst (λ (l : List Tree). Every (Small c) l) (sym no_places) tt
trees_small c (w ∷ ws) e =
    let rs = read numbered ws in
    let here : Every (Small c) (made numbered w rs ∷ drop (takes w) rs) = subst (λ (l : List Tree). Every (Small c) l) (read_cons numbered w ws) e in
    let below : Every (Small c) (take (takes w) rs) = small_sum (take (takes w) rs) c (let f = here.0 in omega (arith, f, size_made numbered w rs)) in
    let all : Every (Small c) rs =
    subst (λ (l : List Tree). Every (Small c) l) (take-append-drop (takes w) rs) (every_append (Small c) (take (takes w) rs) (drop (takes w) rs) below here.1) in
    subst (λ (l : List Tree). Every (Small c) l) (sym (trees_cons numbered w ws)) (here.0, trees_small c ws all)

-- where no tree that is read is larger, none at a place is
pub place_small : (c : ℕ) (ws : List ℕ) → 1 ≤ c → Every (Small c) (read numbered ws) → (p : ℕ) → size (numbered_at ws p) ≤ c
unfolding numbered_at
place_small c ws h e p = small_at c (trees_at numbered ws) h (trees_small c ws e) p

pub divisors_small : (c : ℕ) (ws : List ℕ) → 1 ≤ c → length ws ≤ c → (l : List ℕ) → Every (Small c) (map (numbered_at ws) l)
divisors_small c ws h few [] = tt
divisors_small c ws h few (p ∷ l) = (place_small c ws h (read_small ws c few) p, divisors_small c ws h few l)

-- ---- settled

pub all_settled : (c : ℕ) (ds : List Tree) (n : ℕ) (l : List Tree) → Every (Small c) l → Every (Small c) (map (settle_tree ds n) l)
all_settled c ds n [] e = tt
all_settled c ds n (t ∷ l) e = ((let s = settle_size ds n t in let f = e.0 in omega arith), all_settled c ds n l e.1)

reciprocal_size : (d : Tree) → size (reciprocal d) ≡ 2 + size d
unfolding size
reciprocal_size d = omega arith

pub all_reciprocals : (c : ℕ) (ds : List Tree) (n : ℕ) → Every (Small c) ds → Every (Small (2 + c)) (settled_reciprocals ds n)
all_reciprocals c [] n e = tt
all_reciprocals c (d ∷ ds) n e =
    ((let s = settle_size ds (suc n) (reciprocal d) in let r = reciprocal_size d in let f = e.0 in omega arith), all_reciprocals c ds (suc n) e.1)

switches_small : (c : ℕ) (l : List Tree) → Every (Small c) l → Every (Small c) (with_switches l)
unfolding with_switches
switches_small c [] e = tt
switches_small c (t ∷ l) e = go (switchless t) (switches_small c l e.1)
  where
    go : (b : Bool) → Every (Small c) (with_switches l) → Every (Small c) (elim b as (λ _. List Tree) [ true ↦ with_switches l | false ↦ t ∷ with_switches l ])
    go true f = f
    go false f = (e.0, f)

module _ (c : ℕ) (ws : List ℕ) (few : length ws ≤ c) (places : List ℕ) (divisors : Every (Small c) (map (numbered_at ws) places)) where
  abbrev ds : List Tree
  ds = map (numbered_at ws) places

  roots_small : (n : ℕ) → Every (Small (2 + c)) (map (settle_tree ds n) (read numbered ws))
  roots_small n = more_small c (2 + c) (omega arith) (map (settle_tree ds n) (read numbered ws)) (all_settled c ds n (read numbered ws) (read_small ws c few))

  -- results, lets and reciprocals
  pub settled_small : (k first : ℕ) → Every (Small (2 + c)) (settled_trees ws k first places)
  unfolding settled_trees settled_roots
  settled_small k first =
      let n = reciprocals_first ws k first places in
      every_append (Small (2 + c)) (map (settle_tree ds n) (read numbered ws)) (settled_reciprocals ds n) (roots_small n) (all_reciprocals c ds n divisors)

  -- and what is held
  pub held_small : (n : ℕ) → Every (Small (2 + c)) (trees_held ws n places)
  unfolding trees_held
  held_small n =
      every_append (Small (2 + c)) (map (settle_tree ds n) (read numbered ws)) (with_switches (settled_reciprocals ds n)) (roots_small n)
      (switches_small (2 + c) (settled_reciprocals ds n) (all_reciprocals c ds n divisors))
