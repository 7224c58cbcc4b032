-- `topo_sort_intermediates` under other names of the list's symbols: the same order. Assumes nothing.
use Prim.Native.Nat.{ℕ, zero, suc}
use mathlib.Core.Path.{◌≡◌, refl, sym, ◌∙◌, ap, ap₂, subst}
use mathlib.Core.Bool.{Bool, true, false}
use mathlib.Core.List.{List, [], ◌∷◌, map, reverse, reverse_aux}
use lib.ListN.{length, get_or, length-map, get_or-map}
use lib.Dec.{T, eqb}
use Rattle.spec_tree.specs.Outcome.{Outcome, ok, refused, by}
use Rattle.spec_tree.specs.Tree.{Name}
use Rattle.spec_tree.proofs.TokenCode.{known_name, renamed as RenamedBy}
use Rattle.spec_rewrite.proofs.Names.{holds}
use Rattle.spec_cse.specs.Answer.{Intermediate, names, free, elem}
use Rattle.spec_cse.specs.Order.{meets, needs_from, needs, positions_taken, nothing, at_each, topo_sort_intermediates}
use Rattle.laws.proofs.cse.Outcomes.{Good}
use Rattle.laws.proofs.positions.Renaming.{Renaming, named, is_known, eq_name_renamed}
use Rattle.laws.proofs.positions.Rewriting.{Agree}
use Rattle.laws.proofs.positions.Extraction.{Every}
use Rattle.laws.proofs.positions.Answers.{renamed_stmt, KnownStmt, KnownNames, names_renamed, names_known, free_renamed, free_known}

module _ (R : Renaming) where
  elem_renamed : (n : Name) (l : List Name) → T (is_known R n) → KnownNames R l → elem (named R n) (map (named R) l) ≡ elem n l
  unfolding elem
  elem_renamed n [] g h = refl
  elem_renamed n (s ∷ l) g h =
      ap₂ (λ (x y : Bool). elim x as (λ _. Bool) [ true ↦ true | false ↦ y ]) (eq_name_renamed R s n h.0 g) (elem_renamed n l g h.1)

  meets_renamed : (ns l : List Name) → KnownNames R ns → KnownNames R l → meets (map (named R) ns) (map (named R) l) ≡ meets ns l
  unfolding meets
  meets_renamed [] l g h = refl
  meets_renamed (n ∷ ns) l g h =
      ap₂ (λ (x y : Bool). elim x as (λ _. Bool) [ true ↦ true | false ↦ y ]) (elem_renamed n l g.0 h) (meets_renamed ns l g.1 h)

  needs_from_renamed :
      (i : ℕ) (names_read : List Name) → KnownNames R names_read → (l : List Intermediate) → Every (KnownStmt R) l
      → needs_from i (map (named R) names_read) (map (renamed_stmt R) l) ≡ needs_from i names_read l
  unfolding needs_from
  needs_from_renamed i ns g [] h = refl
  needs_from_renamed i ns g (s ∷ l) h =
      ap₂ (λ (b : Bool) (r : List ℕ). elim b as (λ _. List ℕ) [ true ↦ i ∷ r | false ↦ r ])
      (ap (λ (m : List Name). meets m (map (named R) ns)) (names_renamed R s) ∙ meets_renamed (names s) ns (names_known R s h.0) g)
      (needs_from_renamed (suc i) ns g l h.1)

  needs_renamed :
      (all l : List Intermediate) → Every (KnownStmt R) all → Every (KnownStmt R) l → needs (map (renamed_stmt R) all) (map (renamed_stmt R) l) ≡ needs all l
  unfolding needs
  needs_renamed all [] g h = refl
  needs_renamed all (s ∷ l) g h =
      ap₂ ◌∷◌ (ap (λ (m : List Name). needs_from 0 m (map (renamed_stmt R) all)) (free_renamed R s) ∙ needs_from_renamed 0 (free s) (free_known R s h.0) all g)
      (needs_renamed all l g h.1)

  nothing_renamed : renamed_stmt R nothing ≡ nothing
  unfolding renamed_stmt nothing RenamedBy
  nothing_renamed = refl

  nothing_known : KnownStmt R nothing
  unfolding KnownStmt nothing known_name holds
  nothing_known = (tt, tt)

  at_each_renamed : (l : List Intermediate) (ns : List ℕ) → at_each (map (renamed_stmt R) l) ns ≡ map (renamed_stmt R) (at_each l ns)
  unfolding at_each
  at_each_renamed l [] = refl
  at_each_renamed l (i ∷ ns) =
      ap₂ ◌∷◌ (ap (get_or (map (renamed_stmt R) l) i) (sym nothing_renamed) ∙ get_or-map (renamed_stmt R) l i nothing) (at_each_renamed l ns)

  one_known : (l : List Intermediate) (i : ℕ) → Every (KnownStmt R) l → KnownStmt R (get_or l i nothing)
  one_known [] i h = nothing_known
  one_known (s ∷ l) zero h = h.0
  one_known (s ∷ l) (suc i) h = one_known l i h.1

  at_each_known : (l : List Intermediate) (ns : List ℕ) → Every (KnownStmt R) l → Every (KnownStmt R) (at_each l ns)
  unfolding at_each
  at_each_known l [] h = tt
  at_each_known l (i ∷ ns) h = (one_known l i h, at_each_known l ns h)

  reversed_renamed : (l m : List Intermediate) → reverse_aux (map (renamed_stmt R) l) (map (renamed_stmt R) m) ≡ map (renamed_stmt R) (reverse_aux l m)
  reversed_renamed [] m = refl
  reversed_renamed (s ∷ l) m = reversed_renamed l (s ∷ m)

  reversed_known : (l m : List Intermediate) → Every (KnownStmt R) l → Every (KnownStmt R) m → Every (KnownStmt R) (reverse_aux l m)
  reversed_known [] m g h = h
  reversed_known (s ∷ l) m g h = reversed_known l (s ∷ m) g.1 (g.0, h)

  sorted_step :
      (b : Bool) (l m : List Intermediate) → Every (KnownStmt R) l → m ≡ map (renamed_stmt R) l
      → Agree (Every (KnownStmt R)) (map (renamed_stmt R)) (elim b [ true ↦ ok l | false ↦ refused (by 11) ]) (elim b [ true ↦ ok m | false ↦ refused (by 11) ])
  unfolding Good
  sorted_step true l m h e = (h, ap ok e)
  sorted_step false l m h e = (tt, refl)

  -- the order taken, as one function of the positions
  abbrev sorted : List (List ℕ) → List Intermediate → ℕ → Outcome (List Intermediate)
  sorted table l n = elim (eqb (length (positions_taken table)) n) [ true ↦ ok (reverse (at_each l (positions_taken table))) | false ↦ refused (by 11) ]

  pub topo_sort_renamed :
      (l : List Intermediate) → Every (KnownStmt R) l
      → Agree (Every (KnownStmt R)) (map (renamed_stmt R)) (topo_sort_intermediates l) (topo_sort_intermediates (map (renamed_stmt R) l))
  unfolding topo_sort_intermediates
  topo_sort_renamed l h =
      let order = positions_taken (needs l l) in
      let m = map (renamed_stmt R) l in
      let e : sorted (needs m m) m (length m) ≡ sorted (needs l l) m (length l) =
      ap₂ (λ (t : List (List ℕ)) (n : ℕ). sorted t m n) (needs_renamed l l h h) (length-map l (renamed_stmt R)) in
      subst (λ (u : Outcome (List Intermediate)). Agree (Every (KnownStmt R)) (map (renamed_stmt R)) (sorted (needs l l) l (length l)) u) (sym e)
      (sorted_step (eqb (length order) (length l)) (reverse (at_each l order)) (reverse (at_each m order)) (reversed_known (at_each l order) [] (at_each_known l order h) tt)
      (ap reverse (at_each_renamed l order) ∙ reversed_renamed (at_each l order) []))
