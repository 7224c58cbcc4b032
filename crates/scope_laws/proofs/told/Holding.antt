-- What a scope holds while switches are fused is the trees of the held words: results, lets, and reciprocals with a switch (01, "Scoped fusion"). Assumes nothing.
use Prim.Native.Nat.{ℕ, zero, suc, ◌≤◌}
use native.Mathlib.Omega.{arith}
use mathlib.Core.Path.{◌≡◌, refl, sym, ◌∙◌, ap, subst}
use mathlib.Core.Bool.{Bool, true, false, not}
use mathlib.Core.Option.{some}
use mathlib.Core.List.{List, [], ◌∷◌, ◌++◌, append_assoc, map}
use lib.ListN.{length, take, drop}
use lib.Dec.{T}
use Rattle.spec_tree.specs.Tree.{Tree}
use Rattle.spec_tree.specs.Facts.{outer}
use Rattle.spec_tree.specs.Rows.{occurrences}
use Rattle.spec_tree.specs.Tokens.{read, numbered, trees_in}
use Rattle.spec_tree.proofs.TokenCode.{unnumbered, all_tokens_length}
use Rattle.spec_cse.specs.Scope.{Switch, switches, some_switch, holds_switch, held_bindings, held}
use Rattle.laws.specs.positions.Places.{numbered_at}
use Rattle.laws.specs.positions.Rounds.{by_number, state_of, bind_each_on}
use Rattle.laws.proofs.positions.Coded.{is_alone, first_fits, rest_fits, one_fits, none_fit, append_fits, read_again}
use Rattle.laws.proofs.positions.WordRounds.{InCode, written_complete}
use Rattle.reciprocals.proofs.bindings.Parts.{settle_tree, settled_reciprocals, bound_are_settled}
use Rattle.fusion.specs.Switchless.{switchless, with_switches}
use Rattle.fusion.specs.Whole.{settled_roots}
use Rattle.fusion.proofs.Outer.{none_outside, switchless_none}
use Rattle.fusion.specs.place.Parts.{trees_held, words_held}
use Rattle.spec_tree.proofs.Lists.{drop_front}

-- ---- within the code

front_fits : (a b : List Tree) → InCode (a ++ b) → InCode a
front_fits [] b h = none_fit is_alone
front_fits (t ∷ a) b h = one_fits is_alone t a (first_fits is_alone t (a ++ b) h) (front_fits a b (rest_fits is_alone t (a ++ b) h))

back_fits : (a b : List Tree) → InCode (a ++ b) → InCode b
back_fits [] b h = h
back_fits (t ∷ a) b h = back_fits a b (rest_fits is_alone t (a ++ b) h)

with_fits : (l : List Tree) → InCode l → InCode (with_switches l)
unfolding with_switches
with_fits [] h = h
with_fits (t ∷ l) h = go (switchless t) (with_fits l (rest_fits is_alone t l h))
  where
    go : (b : Bool) → InCode (with_switches l) → InCode (elim b as (λ _. List Tree) [ true ↦ with_switches l | false ↦ t ∷ with_switches l ])
    go true g = g
    go false g = one_fits is_alone t (with_switches l) (first_fits is_alone t l h) g

-- ---- the held words

-- `fit` says that the divisors at the places are trees that words can be read as
module _ (ws : List ℕ) (n : ℕ) (places : List ℕ) (fit : InCode (settled_roots (map (numbered_at ws) places) n (read numbered ws))) where
  abbrev ds : List Tree
  ds = map (numbered_at ws) places

  abbrev ts : List Tree
  ts = read numbered ws

  pub held_fit : InCode (trees_held ws n places)
  unfolding trees_held settled_roots
  held_fit =
      append_fits is_alone (map (settle_tree ds n) ts) (with_switches (settled_reciprocals ds n)) (front_fits (map (settle_tree ds n) ts) (settled_reciprocals ds n) fit)
      (with_fits (settled_reciprocals ds n) (back_fits (map (settle_tree ds n) ts) (settled_reciprocals ds n) fit))

  -- no word lacks an operand
  pub held_complete : trees_in (words_held ws n places) ≡ some (length (trees_held ws n places))
  unfolding words_held
  held_complete = written_complete (trees_held ws n places) held_fit

  -- they are the trees held
  pub held_read : read numbered (words_held ws n places) ≡ trees_held ws n places
  unfolding words_held
  held_read = read_again (trees_held ws n places) held_fit

  -- a word for each occurrence
  pub held_length : length (words_held ws n places) ≡ occurrences (trees_held ws n places)
  unfolding words_held
  held_length = all_tokens_length unnumbered (trees_held ws n places)

-- ---- as `cse_scope` holds them

pub holds_is : (t : Tree) → holds_switch t ≡ not (switchless t)
unfolding holds_switch some_switch
holds_is t = go (switchless t) refl (switches (outer t)) refl
  where
    go : (b : Bool) → switchless t ≡ b → (l : List Switch) → switches (outer t) ≡ l → some_switch l ≡ not b
    go true e [] q = refl
    go true e (s ∷ l) q =
        let z = ap length (sym q ∙ switchless_none t (subst T (sym e) tt)) in
        absurd (omega (arith, z))
    go false e [] q = absurd (subst T e (none_outside t (ap length q)))
    go false e (s ∷ l) q = refl

-- past the first x bindings those with a switch
held_after : (i : ℕ) (rs : List Tree) → held_bindings 0 (by_number i rs) ≡ with_switches rs
unfolding held_bindings by_number with_switches
held_after i [] = refl
held_after i (t ∷ rs) = go (holds_switch t) (switchless t) (holds_is t) (held_after (suc i) rs)
  where
    go : (b c : Bool) → b ≡ not c → held_bindings 0 (by_number (suc i) rs) ≡ with_switches rs
        → ◌≡◌ {A = List Tree} (elim b [ true ↦ t ∷ held_bindings 0 (by_number (suc i) rs) | false ↦ held_bindings 0 (by_number (suc i) rs) ])
        (elim c [ true ↦ with_switches rs | false ↦ t ∷ with_switches rs ])
    go true true e h = let z : ◌≡◌ {A = ℕ} 0 1 = cc in absurd (omega arith)
    go true false e h = ap (λ (l : List Tree). t ∷ l) h
    go false true e h = h
    go false false e h = let z : ◌≡◌ {A = ℕ} 0 1 = cc in absurd (omega arith)

held_before : (i x : ℕ) (l rs : List Tree) → length l ≡ x → held_bindings x (by_number i (l ++ rs)) ≡ l ++ with_switches rs
unfolding held_bindings by_number
held_before i zero [] rs e = held_after i rs
held_before i (suc x) [] rs e = absurd (omega arith)
held_before i zero (t ∷ l) rs e = absurd (omega arith)
held_before i (suc x) (t ∷ l) rs e = ap (λ (r : List Tree). t ∷ r) (held_before (suc i) x l rs (omega arith))

take_front : (f : Tree → Tree) (k : ℕ) (l r : List Tree) → k ≤ length l → take k (map f l ++ r) ++ (map f (drop k l)) ≡ map f l
take_front f zero l r h = refl
take_front f (suc k) [] r h = absurd (omega arith)
take_front f (suc k) (t ∷ l) r h = ap (λ (x : List Tree). f t ∷ x) (take_front f k l r (omega arith))

map_length : (f : Tree → Tree) (l : List Tree) → length (map f l) ≡ length l
map_length f [] = refl
map_length f (t ∷ l) = ap suc (map_length f l)

-- after rounds, which left the trees of `ws`, k results among them, and after the divisors at some places are bound
pub held_are :
    (ws : List ℕ) (k first n : ℕ) (places : List ℕ) → k ≤ length (read numbered ws)
    → held (length (drop k (read numbered ws))) (state_of k first (bind_each_on (map (numbered_at ws) places) n (read numbered ws))) ≡ trees_held ws n places
unfolding held state_of trees_held
held_are ws k first n places h =
    let ds = map (numbered_at ws) places in
    let ts = read numbered ws in
    let f : Tree → Tree = settle_tree ds n in
    let rs = settled_reciprocals ds n in
    let x = length (drop k ts) in
    ap (λ (us : List Tree). take k us ++ held_bindings x (by_number first (drop k us))) (bound_are_settled ds n ts)
    ∙ (ap (λ (us : List Tree). take k (map f ts ++ rs) ++ held_bindings x (by_number first us)) (drop_front f k ts rs h)
    ∙ (ap (λ (us : List Tree). take k (map f ts ++ rs) ++ us) (held_before first x (map f (drop k ts)) rs (map_length f (drop k ts)))
    ∙ (sym (append_assoc (take k (map f ts ++ rs)) (map f (drop k ts)) (with_switches rs)) ∙ ap (λ (us : List Tree). us ++ with_switches rs) (take_front f k ts rs h))))
