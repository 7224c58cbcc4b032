-- The most switches outside arms that a scope may have, by counting: computing compares each of thousands with each. Assumes nothing.
use Prim.Native.Nat.{ℕ, zero, suc, ◌+◌, ◌<◌}
use mathlib.Core.Path.{◌≡◌, refl, ◌∙◌, ap}
use mathlib.Core.Bool.{Bool, true, false, ◌&&◌}
use mathlib.Core.List.{List, [], ◌∷◌, ◌++◌}
use native.Mathlib.Omega.{arith}
use lib.ListN.{length}
use lib.Dec.{T, eqb, eqb→eq, leb}
use Rattle.spec_tree.specs.Kinds.{Select}
use Rattle.spec_tree.specs.Tree.{Tree, Op, nil, ◌◂◌}
use Rattle.spec_tree.specs.Facts.{all_outer}
use Rattle.spec_tree.specs.Rows.{occurrences}
use Rattle.spec_tree.proofs.Notation.{num}
use Rattle.spec_cse.specs.Extract.{State, roots, among, distinct}
use Rattle.spec_cse.specs.Scope.{Switch, switches, collect_switches, groups_from, area_rows, held, most_switches, statements, most_stmts, has_room}

-- select(1, n)
abbrev select : ℕ → Tree
select n = Op Select (num 1 ◂ num n ◂ nil)

abbrev collected : ℕ → Switch
collected n = record { tree = select n; kind = Select; key = num 1; arms = num n ∷ [] }

abbrev selects : ℕ → List Tree
selects zero = []
selects (suc n) = select n ∷ selects n

-- a state with so many of them as its results
abbrev pub selecting : ℕ → State
selecting n = record { results = selects n; lets = []; next = 0 }

-- the nodes outside their arms
abbrev nodes_of : ℕ → List Tree
nodes_of n = all_outer (roots (selecting n))

-- ---- each is collected

-- the first n are not among those met before
abbrev Fresh : ℕ → List Tree → Type 0
Fresh n seen = (m : ℕ) → m < n → T (among (select m) seen) → ⊥

fresh_more : (n : ℕ) (seen : List Tree) → Fresh (suc n) seen → Fresh n (select n ∷ seen)
unfolding among
fresh_more n seen h m l = go (eqb n m) (among (select m) seen) (λ t. let e = eqb→eq n m t in omega arith) (h m (omega arith))
  where
    go : (b c : Bool) → (T b → ⊥) → (T c → ⊥)
        → T (elim (elim b as (λ _. Bool) [ true ↦ true | false ↦ false ]) as (λ _. Bool) [ true ↦ true | false ↦ c ]) → ⊥
    go true c f g t = f tt
    go false c f g t = g t

counted : (n : ℕ) (seen : List Tree) → Fresh n seen → length (switches (distinct seen (nodes_of n))) ≡ n
unfolding switches distinct all_outer roots among
counted zero seen h = refl
counted (suc n) seen h = go (λ l f. counted n l f) (among (select n) seen) (h n (omega arith))
  where
    Rest : Type 0
    Rest = (l : List Tree) → Fresh n l → length (switches (distinct l (nodes_of n))) ≡ n

    key : Rest → (b : Bool)
        → length (switches (elim b as (λ _. List Tree) [ true ↦ distinct (select n ∷ seen) (nodes_of n) | false ↦ num 1 ∷ distinct (num 1 ∷ select n ∷ seen) (nodes_of n) ])) ≡ n
    key rest true = rest (select n ∷ seen) (fresh_more n seen h)
    key rest false = rest (num 1 ∷ select n ∷ seen) (λ m l t. fresh_more n seen h m l t)

    go : Rest → (b : Bool) → (T b → ⊥)
        → length (switches (elim b as (λ _. List Tree) [ true ↦ distinct seen (num 1 ∷ nodes_of n) | false ↦ select n ∷ distinct (select n ∷ seen) (num 1 ∷ nodes_of n) ]))
        ≡ suc n
    go rest true f = absurd (f tt)
    go rest false f = ap suc (key rest (among (num 1) (select n ∷ seen)))

-- ---- in one group

grouped :
    (n k : ℕ) (seen : List Tree) (others : List Switch)
    → length (groups_from (record { first = collected k; others = others } ∷ []) (switches (distinct seen (nodes_of n)))) ≡ 1
unfolding switches distinct all_outer roots groups_from
grouped zero k seen others = refl
grouped (suc n) k seen others = go (λ l o. grouped n k l o) (among (select n) seen)
  where
    Rest : Type 0
    Rest = (l : List Tree) (o : List Switch) → length (groups_from (record { first = collected k; others = o } ∷ []) (switches (distinct l (nodes_of n)))) ≡ 1

    key : Rest → (seen : List Tree) (others : List Switch) (b : Bool)
        → length
        (groups_from (record { first = collected k; others = others } ∷ [])
        (switches (elim b as (λ _. List Tree) [ true ↦ distinct seen (nodes_of n) | false ↦ num 1 ∷ distinct (num 1 ∷ seen) (nodes_of n) ])))
        ≡ 1
    key rest seen others true = rest seen others
    key rest seen others false = rest (num 1 ∷ seen) others

    go : Rest → (b : Bool)
        → length
        (groups_from (record { first = collected k; others = others } ∷ [])
        (switches (elim b as (λ _. List Tree) [ true ↦ distinct seen (num 1 ∷ nodes_of n) | false ↦ select n ∷ distinct (select n ∷ seen) (num 1 ∷ nodes_of n) ])))
        ≡ 1
    go rest true = key rest seen others (among (num 1) seen)
    go rest false = key rest (select n ∷ seen) (others ++ (collected n ∷ [])) (among (num 1) (select n ∷ seen))

-- ---- the limit

all_collected : (n : ℕ) → length (collect_switches (roots (selecting n))) ≡ n
unfolding collect_switches
all_collected n = counted n [] (λ m l t. (unfold among in t))

one_match : (n : ℕ) → statements (selecting (suc n)) ≡ 1
unfolding statements collect_switches switches distinct all_outer roots groups_from among
one_match n = ap (λ (m : ℕ). 0 + m) (grouped n n (num 1 ∷ select n ∷ []) [])

room_is :
    (n : ℕ) → has_room area_rows 0 (selecting (suc n)) ≡ leb (occurrences (held 0 (selecting (suc n)))) area_rows && (leb (suc n) most_switches && leb 1 most_stmts)
unfolding has_room
room_is n =
    ap (λ (m : ℕ). leb (occurrences (held 0 (selecting (suc n)))) area_rows && (leb m most_switches && leb (statements (selecting (suc n))) most_stmts)) (all_collected (suc n))
    ∙ ap (λ (m : ℕ). leb (occurrences (held 0 (selecting (suc n)))) area_rows && (leb (suc n) most_switches && leb m most_stmts)) (one_match n)

pub switches_enough : has_room area_rows 0 (selecting 3640) ≡ true
unfolding occurrences held most_switches most_stmts
switches_enough = room_is 3639

pub one_switch_too_many : has_room area_rows 0 (selecting 3641) ≡ false
unfolding occurrences held most_switches most_stmts
one_switch_too_many = room_is 3640
