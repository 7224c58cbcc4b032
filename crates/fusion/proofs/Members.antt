-- The steps of all groups as flat lists of places and numbers (specs, Words), and those of the groups after one as what is left of these lists. Assumes nothing.
use Prim.Native.Nat.{ℕ, zero, suc, ◌+◌}
use native.Mathlib.Omega.{arith}
use mathlib.Core.Path.{◌≡◌, refl, sym, ◌∙◌, ap, ap₂}
use mathlib.Core.List.{List, [], ◌∷◌, ◌++◌, map}
use lib.ListN.{length, drop, length-append, length-map}
use Rattle.spec_tree.specs.Tree.{Tree}
use Rattle.spec_cse.specs.Scope.{Switch, members}
use Rattle.laws.specs.positions.Places.{numbered_at}
use Rattle.fusion.specs.Settled.{Step, member_steps, Numbered, group_steps, all_steps}
use Rattle.fusion.specs.Words.{steps_at, numbers_from, all_numbers}

abbrev pub tree_of_switch : Switch → Tree
tree_of_switch s = s.tree

-- each group's members are the trees at its places
abbrev pub StandAt : List ℕ → List Numbered → List (List ℕ) → Type 0
StandAt base [] [] = Unit {0}
StandAt base [] (ps ∷ pss) = ⊥
StandAt base (g ∷ l) [] = ⊥
StandAt base (g ∷ l) (ps ∷ pss) = (map (numbered_at base) ps ≡ map tree_of_switch (members g.group)) × StandAt base l pss

abbrev pub all_places : List (List ℕ) → List ℕ
all_places [] = []
all_places (ps ∷ pss) = ps ++ all_places pss

-- how many members the first j groups have
abbrev pub members_before : ℕ → List Numbered → ℕ
members_before zero gs = 0
members_before (suc j) [] = 0
members_before (suc j) (g ∷ l) = length (members g.group) + members_before j l

pub numbers_count : (n k : ℕ) → length (numbers_from n k) ≡ k
unfolding numbers_from
numbers_count n zero = refl
numbers_count n (suc k) = ap suc (numbers_count (suc n) k)

pub steps_count : (n : ℕ) (l : List Switch) → length (member_steps n l) ≡ length l
unfolding member_steps
steps_count n [] = refl
steps_count n (s ∷ l) = ap suc (steps_count (suc n) l)

-- ---- steps at places

module _ (base : List ℕ) where
  pub steps_append : (ps qs ns ms : List ℕ) → length ps ≡ length ns → steps_at base (ps ++ qs) (ns ++ ms) ≡ steps_at base ps ns ++ steps_at base qs ms
  unfolding steps_at
  steps_append [] qs [] ms e = refl
  steps_append [] qs (n ∷ ns) ms e = absurd (omega arith)
  steps_append (p ∷ ps) qs [] ms e = absurd (omega arith)
  steps_append (p ∷ ps) qs (n ∷ ns) ms e = ap (λ (r : List Step). record { member = numbered_at base p; number = n } ∷ r) (steps_append ps qs ns ms (omega arith))

  -- one group's
  pub members_at :
      (ps : List ℕ) (n : ℕ) (l : List Switch) → map (numbered_at base) ps ≡ map tree_of_switch l → steps_at base ps (numbers_from n (length l)) ≡ member_steps n l
  unfolding steps_at numbers_from member_steps
  members_at [] n [] e = refl
  members_at [] n (s ∷ l) e = let z : ◌≡◌ {A = ℕ} 0 1 = cc in absurd (omega arith)
  members_at (p ∷ ps) n [] e = let z : ◌≡◌ {A = ℕ} 0 1 = cc in absurd (omega arith)
  members_at (p ∷ ps) n (s ∷ l) e =
      let a : numbered_at base p ≡ s.tree = cc in
      let b : map (numbered_at base) ps ≡ map tree_of_switch l = cc in
      ap₂ (λ (t : Tree) (r : List Step). record { member = t; number = n } ∷ r) a (members_at ps (suc n) l b)

  -- all groups'
  pub all_steps_at : (gs : List Numbered) (pss : List (List ℕ)) → StandAt base gs pss → all_steps gs ≡ steps_at base (all_places pss) (all_numbers gs)
  unfolding all_steps group_steps all_numbers
  all_steps_at [] [] h = (unfold steps_at in refl)
  all_steps_at [] (ps ∷ pss) h = absurd h
  all_steps_at (g ∷ l) [] h = absurd h
  all_steps_at (g ∷ l) (ps ∷ pss) h =
      let s = members g.group in
      let ns = numbers_from g.start (length s) in
      let c : length (map (numbered_at base) ps) ≡ length (map tree_of_switch s) = ap length h.0 in
      let e : length ps ≡ length ns = omega (arith, c, length-map ps (numbered_at base), length-map s tree_of_switch, numbers_count g.start (length s)) in
      ap₂ (λ (a b : List Step). a ++ b) (sym (members_at ps g.start s h.0)) (all_steps_at l pss h.1)
      ∙ sym (steps_append ps (all_places pss) ns (all_numbers l) e)

  pub steps_drop : (j : ℕ) (ps ns : List ℕ) → length ps ≡ length ns → steps_at base (drop j ps) (drop j ns) ≡ drop j (steps_at base ps ns)
  unfolding steps_at
  steps_drop zero ps ns e = refl
  steps_drop (suc j) [] [] e = refl
  steps_drop (suc j) [] (n ∷ ns) e = absurd (omega arith)
  steps_drop (suc j) (p ∷ ps) [] e = absurd (omega arith)
  steps_drop (suc j) (p ∷ ps) (n ∷ ns) e = steps_drop j ps ns (omega arith)

-- ---- the groups from one on

past : {A : Type 0} (a b : List A) (n m : ℕ) → length a ≡ n → drop (n + m) (a ++ b) ≡ drop m b
past [] b n m e = let z : n + m ≡ m = omega arith in ap (λ (i : ℕ). drop i b) z
past (x ∷ a) b zero m e = absurd (omega arith)
past (x ∷ a) b (suc n) m e = let z : suc n + m ≡ suc (n + m) = omega arith in ap (λ (i : ℕ). drop i (x ∷ (a ++ b))) z ∙ past a b n m (omega arith)

pub steps_from : (j : ℕ) (gs : List Numbered) → all_steps (drop j gs) ≡ drop (members_before j gs) (all_steps gs)
unfolding all_steps group_steps
steps_from zero gs = refl
steps_from (suc j) [] = refl
steps_from (suc j) (g ∷ l) =
    let s = members g.group in
    steps_from j l ∙ sym (past (member_steps g.start s) (all_steps l) (length s) (members_before j l) (steps_count g.start s))

pub all_numbers_from : (j : ℕ) (gs : List Numbered) → all_numbers (drop j gs) ≡ drop (members_before j gs) (all_numbers gs)
unfolding all_numbers
all_numbers_from zero gs = refl
all_numbers_from (suc j) [] = refl
all_numbers_from (suc j) (g ∷ l) =
    let s = members g.group in
    all_numbers_from j l ∙ sym (past (numbers_from g.start (length s)) (all_numbers l) (length s) (members_before j l) (numbers_count g.start (length s)))

pub all_numbers_count : (gs : List Numbered) → length (all_numbers gs) ≡ length (all_steps gs)
unfolding all_numbers all_steps group_steps
all_numbers_count [] = refl
all_numbers_count (g ∷ l) =
    let s = members g.group in
    let a = length-append (numbers_from g.start (length s)) (all_numbers l) in
    let b = length-append (member_steps g.start s) (all_steps l) in
    omega (arith, a, b, numbers_count g.start (length s), steps_count g.start s, all_numbers_count l)

-- the steps that settle a match's key, at the places and numbers after its own group's
pub steps_after :
    (base ps : List ℕ) (gs : List Numbered) (j : ℕ) → all_steps gs ≡ steps_at base ps (all_numbers gs) → length ps ≡ length (all_numbers gs)
    → let o = members_before j gs in
    all_steps (drop j gs) ≡ steps_at base (drop o ps) (drop o (all_numbers gs))
steps_after base ps gs j e c =
    let o = members_before j gs in
    steps_from j gs ∙ (ap (drop o) e ∙ sym (steps_drop base o ps (all_numbers gs) c))
