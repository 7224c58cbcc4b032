-- Switch places one place at a time (specs, Switches), as a loop over the words finds them; how many there are, and that all are outside arms. Assumes nothing.
use Prim.Native.Nat.{ℕ, zero, suc, ◌≤◌, ◌<◌}
use native.Mathlib.Omega.{arith}
use mathlib.Core.Path.{◌≡◌, refl, sym, ◌∙◌, ap}
use mathlib.Core.Bool.{Bool, true, false, not, ◌&&◌, ◌||◌}
use mathlib.Core.List.{List, [], ◌∷◌, ◌++◌, append-nil}
use lib.ListN.{length, length-append}
use lib.Dec.{T}
use Rattle.spec_tree.specs.Tree.{eq_tree}
use Rattle.laws.specs.positions.Places.{numbered_at, outside_at, among_places, distinct_places}
use Rattle.laws.proofs.positions.Extraction.{Every, every_append}
use Rattle.laws.specs.switches.Switches.{switch_at, switches_passing, places_within, switch_places, new_switch}
use Rattle.laws.proofs.switches.Collected.{distinct_keeps}

-- one place, unless it is known
abbrev unless : Bool → ℕ → List ℕ
unless b q = elim b as (λ _. List ℕ) [ true ↦ [] | false ↦ q ∷ [] ]

module _ (ws : List ℕ) where
  abbrev known : ℕ → List ℕ → Bool
  known = among_places ws

  -- ---- one more place at the end

  last_alone : (b c : Bool) (q : ℕ) → c ≡ false → ◌≡◌ {A = List ℕ} (elim b [ true ↦ [] | false ↦ q ∷ [] ]) (unless (b || c) q)
  last_alone true c q e = refl
  last_alone false c q e = sym (ap (λ (b : Bool). unless b q) e)

  swapped : (a s d : Bool) → ((elim a as (λ _. Bool) [ true ↦ true | false ↦ s ]) || d) ≡ (s || (elim a as (λ _. Bool) [ true ↦ true | false ↦ d ]))
  swapped true true d = refl
  swapped true false d = refl
  swapped false s d = refl

  last_step :
      (b : Bool) (r q : ℕ) (seen x y u v : List ℕ) → (equal : Bool) → x ≡ u ++ unless (known q seen || known q u) q
      → y ≡ v ++ unless ((elim equal as (λ _. Bool) [ true ↦ true | false ↦ known q seen ]) || known q v) q → known q (r ∷ v) ≡ elim equal as (λ _. Bool) [ true ↦ true | false ↦ known q v ]
      → ◌≡◌ {A = List ℕ} (elim b [ true ↦ x | false ↦ r ∷ y ])
      ((elim b as (λ _. List ℕ) [ true ↦ u | false ↦ r ∷ v ]) ++ unless (known q seen || known q (elim b as (λ _. List ℕ) [ true ↦ u | false ↦ r ∷ v ])) q)
  last_step true r q seen x y u v equal d e f = d
  last_step false r q seen x y u v equal d e f =
      ap (λ (l : List ℕ). r ∷ l) e
      ∙ ap (λ (b : Bool). r ∷ (v ++ unless b q)) (swapped equal (known q seen) (known q v) ∙ ap (λ (b : Bool). known q seen || b) (sym f))

  distinct_last : (seen l : List ℕ) (q : ℕ) → distinct_places ws seen (l ++ (q ∷ [])) ≡ distinct_places ws seen l ++ unless (known q seen || known q (distinct_places ws seen l)) q
  unfolding distinct_places among_places
  distinct_last seen [] q = last_alone (known q seen) false q refl
  distinct_last seen (r ∷ l) q =
      last_step (known r seen) r q seen (distinct_places ws seen (l ++ (q ∷ []))) (distinct_places ws (r ∷ seen) (l ++ (q ∷ []))) (distinct_places ws seen l)
      (distinct_places ws (r ∷ seen) l) (eq_tree (numbered_at ws r) (numbered_at ws q)) (distinct_last seen l q) (distinct_last (r ∷ seen) l q) refl

  none_known : (q : ℕ) → known q [] ≡ false
  unfolding among_places
  none_known q = refl

  -- the switches of one more place: it, if it is a new one
  pub places_next : (n : ℕ) → places_within ws (suc n) ≡ places_within ws n ++ elim (new_switch ws (places_within ws n) n) as (λ _. List ℕ) [ true ↦ n ∷ [] | false ↦ [] ]
  unfolding places_within switches_passing new_switch
  places_next n = go (outside_at ws true n) (switch_at ws n)
    where
      turned : (b : Bool) → unless b n ≡ elim (not b) as (λ _. List ℕ) [ true ↦ n ∷ [] | false ↦ [] ]
      turned true = refl
      turned false = refl

      nothing : distinct_places ws [] (switches_passing ws (outside_at ws true) n ++ []) ≡ distinct_places ws [] (switches_passing ws (outside_at ws true) n) ++ []
      nothing = ap (distinct_places ws []) (append-nil (switches_passing ws (outside_at ws true) n)) ∙ sym (append-nil (distinct_places ws [] (switches_passing ws (outside_at ws true) n)))

      go : (b c : Bool)
          → distinct_places ws [] (switches_passing ws (outside_at ws true) n ++ elim (b && c) as (λ _. List ℕ) [ true ↦ n ∷ [] | false ↦ [] ])
          ≡ distinct_places ws [] (switches_passing ws (outside_at ws true) n)
          ++ elim (b && (c && not (known n (distinct_places ws [] (switches_passing ws (outside_at ws true) n))))) as (λ _. List ℕ) [ true ↦ n ∷ [] | false ↦ [] ]
      go true true =
          let l = switches_passing ws (outside_at ws true) n in
          let D = distinct_places ws [] l in
          distinct_last [] l n ∙ ap (λ (b : Bool). D ++ unless (b || known n D) n) (none_known n) ∙ ap (λ (r : List ℕ). D ++ r) (turned (known n D))
      go true false = nothing
      go false c = nothing

  pub places_begin : places_within ws 0 ≡ []
  unfolding places_within switches_passing distinct_places
  places_begin = refl

  pub places_end : switch_places ws ≡ places_within ws (length ws)
  unfolding switch_places
  places_end = refl

  -- ---- each step adds one at most

  one_at_most : (b : Bool) (n : ℕ) → length {A = ℕ} (elim b as (λ _. List ℕ) [ true ↦ n ∷ [] | false ↦ [] ]) ≤ 1
  one_at_most true n = omega arith
  one_at_most false n = omega arith

  pub places_few : (n : ℕ) → length (places_within ws n) ≤ n
  places_few zero = (let e = ap length places_begin in omega arith)
  places_few (suc n) =
      let b = new_switch ws (places_within ws n) n in
      let e = ap length (places_next n) in
      let more : List ℕ = elim b [ true ↦ n ∷ [] | false ↦ [] ] in
      omega (arith, e, length-append (places_within ws n) more, one_at_most b n, places_few n)

  -- ---- each is a switch outside arms, among the first n

  abbrev pub Outer : ℕ → ℕ → Type 0
  Outer n p = (p < n) × (T (switch_at ws p) × T (outside_at ws true p))

  outer_step : (b c : Bool) (n : ℕ) → (T b → T (outside_at ws true n)) → (T c → T (switch_at ws n)) → Every (Outer (suc n)) (elim (b && c) [ true ↦ n ∷ [] | false ↦ [] ])
  outer_step true true n h g = ((omega arith, (g tt, h tt)), tt)
  outer_step true false n h g = tt
  outer_step false c n h g = tt

  wider : (n : ℕ) (l : List ℕ) → Every (Outer n) l → Every (Outer (suc n)) l
  wider n [] h = tt
  wider n (p ∷ l) h = ((let k = h.0.0 in omega arith, h.0.1), wider n l h.1)

  passing_outer : (n : ℕ) → Every (Outer n) (switches_passing ws (outside_at ws true) n)
  unfolding switches_passing
  passing_outer zero = tt
  passing_outer (suc n) =
      every_append (Outer (suc n)) (switches_passing ws (outside_at ws true) n) (elim (outside_at ws true n && switch_at ws n) [ true ↦ n ∷ [] | false ↦ [] ])
      (wider n (switches_passing ws (outside_at ws true) n) (passing_outer n)) (outer_step (outside_at ws true n) (switch_at ws n) n (λ t. t) (λ t. t))

  pub places_outer : (n : ℕ) → Every (Outer n) (places_within ws n)
  unfolding places_within
  places_outer n = distinct_keeps ws (Outer n) [] (switches_passing ws (outside_at ws true) n) (passing_outer n)
