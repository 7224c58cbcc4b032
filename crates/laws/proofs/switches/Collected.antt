-- The switches collected of the trees that words are, are those at the switch places, in order (specs, Switches). The definition takes each node once and
-- then the switches, places take the switches and then each once: the two commute. Assumes nothing.
use Prim.Native.Nat.{ℕ, zero, suc, ◌+◌, ◌≤◌, ◌<◌}
use native.Mathlib.Omega.{arith}
use mathlib.Core.Path.{◌≡◌, refl, sym, ◌∙◌, ap, ap₂, subst}
use mathlib.Core.Bool.{Bool, true, false, ◌&&◌}
use mathlib.Core.Option.{some}
use mathlib.Core.List.{List, [], ◌∷◌, ◌++◌, map}
use lib.ListN.{length, take}
use lib.Seq.{take-suc, take_all, length-take-le}
use lib.Dec.{T}
use Rattle.spec_tree.specs.Tree.{Tree, Sym, Const, Op, nil, ◌◂◌, eq_tree, operands}
use Rattle.spec_tree.specs.Kinds.{is_switch}
use Rattle.spec_tree.specs.Facts.{all_outer}
use Rattle.spec_tree.specs.Tokens.{read, trees_at, numbered, trees_in}
use Rattle.spec_tree.proofs.TreeLaws.{eq_tree_sound}
use Rattle.spec_tree.proofs.TokenLaws.{map_append, trees_length}
use Rattle.spec_cse.specs.Extract.{among, distinct}
use Rattle.spec_cse.specs.Scope.{Switch, switches, collect_switches}
use Rattle.laws.specs.positions.Places.{numbered_at, outside_at, among_places, distinct_places}
use Rattle.laws.proofs.positions.Arms.{those_passing, outer_passing}
use Rattle.laws.proofs.positions.UsesAt.{passing_append}
use Rattle.laws.proofs.positions.Extraction.{Every, every_append}
use Rattle.laws.specs.switches.Switches.{switch_at, switches_passing, places_within, switch_places, switch_there}
use Rattle.laws.proofs.switches.Parts.{switch_tree, switch_at_is, switch_there_is}
use Rattle.spec_tree.proofs.Logic.{not_true, never}

-- ---- switches among trees

skipped : (t : Tree) (l : List Tree) → switch_tree t ≡ false → switches (t ∷ l) ≡ switches l
unfolding switch_tree switches
skipped (Sym n) l e = refl
skipped (Const c) l e = refl
skipped (Op k nil) l e = refl
skipped (Op k (q ◂ f)) l e =
    ap (λ (b : Bool). elim b as (λ _. List Switch) [ true ↦ record { tree = Op k (q ◂ f); kind = k; key = q; arms = operands f } ∷ switches l | false ↦ switches l ]) e

pub in_front : (t : Tree) (l r : List Tree) → switches l ≡ switches r → switches (t ∷ l) ≡ switches (t ∷ r)
unfolding switches
in_front (Sym n) l r e = e
in_front (Const c) l r e = e
in_front (Op k nil) l r e = e
in_front (Op k (q ◂ f)) l r e =
    ap (λ (s : List Switch). elim (is_switch k) as (λ _. List Switch) [ true ↦ record { tree = Op k (q ◂ f); kind = k; key = q; arms = operands f } ∷ s | false ↦ s ]) e

-- those that are switches
only : List Tree → List Tree
only [] = []
only (t ∷ l) = elim (switch_tree t) [ true ↦ t ∷ only l | false ↦ only l ]

only_step :
    (b : Bool) (t : Tree) (p q r : List Tree) → p ≡ q ++ r → ◌≡◌ {A = List Tree} (elim b [ true ↦ t ∷ p | false ↦ p ]) (elim b as (λ _. List Tree) [ true ↦ t ∷ q | false ↦ q ] ++ r)
only_step true t p q r e = ap (λ (l : List Tree). t ∷ l) e
only_step false t p q r e = e

only_append : (a b : List Tree) → only (a ++ b) ≡ only a ++ only b
unfolding only
only_append [] b = refl
only_append (t ∷ a) b = only_step (switch_tree t) t (only (a ++ b)) (only a) (only b) (only_append a b)

-- ---- each once, and switches alone

-- as seen by switches
abbrev Alike : List Tree → List Tree → Type 0
Alike seen met = (s : Tree) → T (switch_tree s) → among s seen ≡ among s met

alike_both : (t : Tree) (seen met : List Tree) → Alike seen met → Alike (t ∷ seen) (t ∷ met)
unfolding among
alike_both t seen met h s k = ap (λ (b : Bool). elim (eq_tree t s) as (λ _. Bool) [ true ↦ true | false ↦ b ]) (h s k)

alike_one : (t : Tree) (seen met : List Tree) → switch_tree t ≡ false → Alike seen met → Alike (t ∷ seen) met
unfolding among
alike_one t seen met e h s k =
    let apart : eq_tree t s ≡ false = not_true (eq_tree t s) (λ u. never (switch_tree s) (ap switch_tree (sym (eq_tree_sound t s u)) ∙ e) k) in
    ap (λ (b : Bool). elim b as (λ _. Bool) [ true ↦ true | false ↦ among s seen ]) apart ∙ h s k

pub is_so : (b : Bool) → b ≡ true → T b
is_so b e = subst (λ (c : Bool). T c) (sym e) tt

module _ (t : Tree) (seen met l : List Tree) where
  not_one :
      (b : Bool) → switch_tree t ≡ false → switches (distinct seen l) ≡ switches (distinct met (only l))
      → switches (distinct (t ∷ seen) l) ≡ switches (distinct met (only l))
      → switches (elim b [ true ↦ distinct seen l | false ↦ t ∷ distinct (t ∷ seen) l ]) ≡ switches (distinct met (only l))
  not_one true e f g = f
  not_one false e f g = skipped t (distinct (t ∷ seen) l) e ∙ g

  one :
      (b : Bool) → switches (distinct seen l) ≡ switches (distinct met (only l)) → switches (distinct (t ∷ seen) l) ≡ switches (distinct (t ∷ met) (only l))
      → switches (elim b [ true ↦ distinct seen l | false ↦ t ∷ distinct (t ∷ seen) l ])
      ≡ switches (elim b [ true ↦ distinct met (only l) | false ↦ t ∷ distinct (t ∷ met) (only l) ])
  one true f g = f
  one false f g = in_front t (distinct (t ∷ seen) l) (distinct (t ∷ met) (only l)) g

  commute_step :
      (c : Bool) → switch_tree t ≡ c → Alike seen met → switches (distinct seen l) ≡ switches (distinct met (only l))
      → (switch_tree t ≡ false → switches (distinct (t ∷ seen) l) ≡ switches (distinct met (only l))) → switches (distinct (t ∷ seen) l) ≡ switches (distinct (t ∷ met) (only l))
      → switches (elim (among t seen) [ true ↦ distinct seen l | false ↦ t ∷ distinct (t ∷ seen) l ])
      ≡ switches (distinct met (elim c [ true ↦ t ∷ only l | false ↦ only l ]))
  unfolding distinct
  commute_step false e h f g k = not_one (among t seen) e f (g e)
  commute_step true e h f g k =
      one (among t seen) f k
      ∙ ap (λ (b : Bool). switches (elim b [ true ↦ distinct met (only l) | false ↦ t ∷ distinct (t ∷ met) (only l) ])) (h t (is_so (switch_tree t) e))

commute : (seen met l : List Tree) → Alike seen met → switches (distinct seen l) ≡ switches (distinct met (only l))
unfolding distinct only
commute seen met [] h = refl
commute seen met (t ∷ l) h =
    commute_step t seen met l (switch_tree t) refl h (commute seen met l h) (λ e. commute (t ∷ seen) met l (alike_one t seen met e h))
    (commute (t ∷ seen) (t ∷ met) l (alike_both t seen met h))

-- ---- places for trees

module _ (ws : List ℕ) where
  abbrev pub trees_of : List ℕ → List Tree
  trees_of = map (numbered_at ws)

  among_is : (q : ℕ) (l : List ℕ) → among (numbered_at ws q) (trees_of l) ≡ among_places ws q l
  unfolding among among_places
  among_is q [] = refl
  among_is q (r ∷ l) = ap (λ (b : Bool). elim (eq_tree (numbered_at ws r) (numbered_at ws q)) as (λ _. Bool) [ true ↦ true | false ↦ b ]) (among_is q l)

  distinct_step :
      (b c : Bool) → b ≡ c → (q : ℕ) (x y : List Tree) (r s : List ℕ) → x ≡ trees_of r → y ≡ trees_of s
      → ◌≡◌ {A = List Tree} (elim b [ true ↦ x | false ↦ numbered_at ws q ∷ y ]) (trees_of (elim c [ true ↦ r | false ↦ q ∷ s ]))
  distinct_step b c e q x y r s d f = rw e (go c)
    where
      go : (c : Bool) → ◌≡◌ {A = List Tree} (elim c [ true ↦ x | false ↦ numbered_at ws q ∷ y ]) (trees_of (elim c [ true ↦ r | false ↦ q ∷ s ]))
      go true = d
      go false = ap (λ (l : List Tree). numbered_at ws q ∷ l) f

  pub distinct_is : (seen l : List ℕ) → distinct (trees_of seen) (trees_of l) ≡ trees_of (distinct_places ws seen l)
  unfolding distinct distinct_places
  distinct_is seen [] = refl
  distinct_is seen (q ∷ l) =
      distinct_step (among (numbered_at ws q) (trees_of seen)) (among_places ws q seen) (among_is q seen) q (distinct (trees_of seen) (trees_of l))
      (distinct (numbered_at ws q ∷ trees_of seen) (trees_of l)) (distinct_places ws seen l) (distinct_places ws (q ∷ seen) l) (distinct_is seen l) (distinct_is (q ∷ seen) l)

  -- ---- what all places have, those taken once have

  distinct_keeps_step : (P : ℕ → Type 0) (b : Bool) (q : ℕ) (r s : List ℕ) → P q → Every P r → Every P s → Every P (elim b [ true ↦ r | false ↦ q ∷ s ])
  distinct_keeps_step P true q r s h d e = d
  distinct_keeps_step P false q r s h d e = (h, e)

  pub distinct_keeps : (P : ℕ → Type 0) (seen l : List ℕ) → Every P l → Every P (distinct_places ws seen l)
  unfolding distinct_places
  distinct_keeps P seen [] h = tt
  distinct_keeps P seen (q ∷ l) h =
      distinct_keeps_step P (among_places ws q seen) q (distinct_places ws seen l) (distinct_places ws (q ∷ seen) l) h.0 (distinct_keeps P seen l h.1)
      (distinct_keeps P (q ∷ seen) l h.1)

  -- a place of a switch
  abbrev pub Switching : ℕ → Type 0
  Switching p = (p < length ws) × T (switch_at ws p)

  passing_step : (b c : Bool) (n : ℕ) → n < length ws → (T c → T (switch_at ws n)) → Every Switching (elim (b && c) [ true ↦ n ∷ [] | false ↦ [] ])
  passing_step true true n h t = ((h, t tt), tt)
  passing_step true false n h t = tt
  passing_step false c n h t = tt

  pub passing_switch : (test : ℕ → Bool) (n : ℕ) → n ≤ length ws → Every Switching (switches_passing ws test n)
  unfolding switches_passing
  passing_switch test zero h = tt
  passing_switch test (suc n) h =
      every_append Switching (switches_passing ws test n) (elim (test n && switch_at ws n) [ true ↦ n ∷ [] | false ↦ [] ]) (passing_switch test n (omega arith))
      (passing_step (test n) (switch_at ws n) n (omega arith) (λ t. t))

  -- each of the switch places is one
  pub places_switch : Every Switching (switch_places ws)
  unfolding switch_places places_within
  places_switch = distinct_keeps Switching [] (switches_passing ws (outside_at ws true) (length ws)) (passing_switch (outside_at ws true) (length ws) (omega arith))

-- ---- of all places that pass

module _ (ws : List ℕ) (m : ℕ) (complete : trees_in ws ≡ some m) where
  one_place :
      (b c : Bool) (x : Tree) (n : ℕ) → switch_tree x ≡ c → x ≡ numbered_at ws n
      → only (elim b [ true ↦ x ∷ [] | false ↦ [] ]) ≡ map (numbered_at ws) (elim (b && c) [ true ↦ n ∷ [] | false ↦ [] ])
  unfolding only
  one_place false c x n e z = refl
  one_place true true x n e z = ap (λ (b : Bool). elim b as (λ _. List Tree) [ true ↦ x ∷ [] | false ↦ [] ]) e ∙ ap (λ (t : Tree). t ∷ []) z
  one_place true false x n e z = ap (λ (b : Bool). elim b as (λ _. List Tree) [ true ↦ x ∷ [] | false ↦ [] ]) e

  passing_within :
      (test : ℕ → Bool) (n : ℕ) → n ≤ length ws → only (those_passing test 0 (take n (trees_at numbered ws))) ≡ map (numbered_at ws) (switches_passing ws test n)
  unfolding switches_passing those_passing
  passing_within test zero h = (unfold only in refl)
  passing_within test (suc n) h =
      let l = trees_at numbered ws in
      let x = numbered_at ws n in
      let k = trees_length numbered ws in
      let more : take (suc n) l ≡ take n l ++ (x ∷ []) = (unfold numbered_at in take-suc l n (Op 0 nil) (omega (arith, k))) in
      let z : 0 + length (take n l) ≡ n = omega (arith, length-take-le n l (omega (arith, k))) in
      let apart : those_passing test 0 (take (suc n) l) ≡ those_passing test 0 (take n l) ++ those_passing test n (x ∷ []) =
      ap (those_passing test 0) more ∙ passing_append test 0 (take n l) (x ∷ []) ∙ ap (λ (k : ℕ). those_passing test 0 (take n l) ++ those_passing test k (x ∷ [])) z in
      ap only apart
      ∙ only_append (those_passing test 0 (take n l)) (those_passing test n (x ∷ []))
      ∙ ap₂ ◌++◌ (passing_within test n (omega arith)) (one_place (test n) (switch_at ws n) x n (switch_at_is ws m complete n (omega arith)) refl)
      ∙ sym (map_append (numbered_at ws) (switches_passing ws test n) (elim (test n && switch_at ws n) [ true ↦ n ∷ [] | false ↦ [] ]))

  -- the switches among the nodes outside arms
  outer_switches : only (all_outer (read numbered ws)) ≡ map (numbered_at ws) (switches_passing ws (outside_at ws true) (length ws))
  unfolding outside_at
  outer_switches =
      let k = trees_length numbered ws in
      let test = outside_at ws true in
      sym (ap only (outer_passing ws))
      ∙ sym (ap (λ (l : List Tree). only (those_passing test 0 l)) (take_all (length ws) (trees_at numbered ws) (omega (arith, k))))
      ∙ passing_within test (length ws) (omega arith)

  pub switches_there : (ps : List ℕ) → Every (Switching ws) ps → switches (map (numbered_at ws) ps) ≡ map (switch_there ws) ps
  switches_there [] h = (unfold switches in refl)
  switches_there (p ∷ ps) h =
      switch_there_is ws m complete p h.0.0 h.0.1 (map (numbered_at ws) ps) ∙ ap (λ (l : List Switch). switch_there ws p ∷ l) (switches_there ps h.1)

  pub collected_are : collect_switches (read numbered ws) ≡ map (switch_there ws) (switch_places ws)
  unfolding collect_switches switch_places places_within
  collected_are =
      let ps = switches_passing ws (outside_at ws true) (length ws) in
      commute [] [] (all_outer (read numbered ws)) (λ s k. refl)
      ∙ ap (λ (l : List Tree). switches (distinct [] l)) outer_switches
      ∙ ap switches (distinct_is ws [] ps)
      ∙ switches_there (distinct_places ws [] ps) (distinct_keeps ws (Switching ws) [] ps (passing_switch ws (outside_at ws true) (length ws) (omega arith)))
