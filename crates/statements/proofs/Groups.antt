-- The groups of what a scope holds, one after another (01, "Scoped fusion"): where each begins and ends among all members, that each has one, and that each member is a
-- switch. Assumes nothing.
use Prim.Native.Nat.{ℕ, zero, suc, ◌+◌, ◌-◌, ◌≤◌, ◌<◌}
use native.Mathlib.Omega.{arith}
use mathlib.Core.Path.{◌≡◌, refl, sym, ◌∙◌, ap, subst}
use mathlib.Core.Bool.{Bool, true, false}
use mathlib.Core.List.{List, [], ◌∷◌, ◌++◌, map}
use lib.Dec.{T, eqb}
use lib.ListN.{length, get_or, take, drop, length-append, length-map}
use lib.Seq.{drop_at, drop-append-add, take_at, get_or-drop}
use Rattle.spec_tree.specs.Tree.{Tree, Sym, Const, Op, nil, ◌◂◌}
use Rattle.spec_tree.specs.Tokens.{numbered}
use Rattle.spec_tree.proofs.TokenLaws.{run_size}
use Rattle.words.specs.words.Words.{Complete}
use Rattle.reciprocals.proofs.bindings.Parts.{AllThere}
use Rattle.laws.specs.positions.Places.{numbered_at}
use Rattle.laws.proofs.positions.Extraction.{Every, every_append}
use Rattle.laws.specs.switches.Switches.{switch_places, arm_count}
use Rattle.laws.specs.switches.Groups.{member, group_first, group_numbers, members_within, members_of, member_places}
use Rattle.laws.proofs.switches.Collected.{Switching, places_switch}
use Rattle.laws.proofs.switches.Grouped.{Opens, every_so, opener_first, numbers_open}
use Rattle.laws.proofs.switches.GroupColumns.{every_at, members_armed}
use Rattle.laws.proofs.switches.Parts.{switch_tree, switch_at_is}
use Rattle.laws.proofs.switches.Stepping.{places_end, places_few}
use Rattle.laws.proofs.switches.Turned.{Armed}
use Rattle.fusion.specs.Switchless.{switch_node}
use Rattle.fusion.specs.Words.{steps_at}
use Rattle.fusion.proofs.Switchless as switchless
use Rattle.fusion.specs.place.Parts.{place_groups, joined_groups, ends_from, group_at, group_start, group_end, opener}
use Rattle.statements.specs.Prepared.{begin_of}

-- ---- lists of lists

none_joined : length (joined_groups []) ≡ 0
unfolding joined_groups
none_joined = refl

joined_cons : (g : List ℕ) (l : List (List ℕ)) → joined_groups (g ∷ l) ≡ g ++ joined_groups l
unfolding joined_groups
joined_cons g l = refl

ends_at : (n : ℕ) (gs : List (List ℕ)) (g : ℕ) → g < length gs → get_or (ends_from n gs) g 0 ≡ n + length (joined_groups (take (suc g) gs))
unfolding ends_from
ends_at n [] g h = absurd (omega arith)
ends_at n (x ∷ gs) zero h = omega (arith, ap length (joined_cons x []), length-append x (joined_groups []), none_joined)
ends_at n (x ∷ gs) (suc g) h =
    omega (arith, ends_at (n + length x) gs g (omega arith), ap length (joined_cons x (take (suc g) gs)), length-append x (joined_groups (take (suc g) gs)))

pub end_is : (gs : List (List ℕ)) (g : ℕ) → g < length gs → get_or (ends_from 0 gs) g 0 ≡ group_end gs g
unfolding group_end group_start
end_is gs g h = omega (arith, ends_at 0 gs g h)

pub begin_is : (gs : List (List ℕ)) (g : ℕ) → g < length gs → begin_of (ends_from 0 gs) g ≡ group_start gs g
unfolding begin_of group_start
begin_is gs zero h = sym none_joined
begin_is gs (suc g) h = omega (arith, ends_at 0 gs g (omega arith))

-- the members from a group on
pub from_start : (gs : List (List ℕ)) (g : ℕ) → g < length gs → drop (group_start gs g) (joined_groups gs) ≡ group_at gs g ++ drop (group_end gs g) (joined_groups gs)
unfolding group_start group_end group_at
from_start [] g h = absurd (omega arith)
from_start (x ∷ gs) zero h =
    let z : length (joined_groups (x ∷ [])) ≡ length x = omega (arith, ap length (joined_cons x []), length-append x (joined_groups []), none_joined) in
    let e : drop (length (joined_groups (x ∷ []))) (joined_groups (x ∷ gs)) ≡ joined_groups gs = ap (λ (l : List ℕ). drop (length (joined_groups (x ∷ []))) l) (joined_cons x gs) ∙ drop_at x (joined_groups gs) (length (joined_groups (x ∷ []))) (sym z) in
    ap (λ (n : ℕ). drop n (joined_groups (x ∷ gs))) none_joined ∙ (joined_cons x gs ∙ ap (λ (l : List ℕ). x ++ l) (sym e))
from_start (x ∷ gs) (suc g) h =
    past (length (joined_groups (take g gs))) (length (joined_groups (x ∷ take g gs))) (omega (arith, ap length (joined_cons x (take g gs)), length-append x (joined_groups (take g gs))))
    ∙ (from_start gs g (omega arith)
    ∙ ap (λ (l : List ℕ). get_or gs g [] ++ l)
    (sym (past (length (joined_groups (take (suc g) gs))) (length (joined_groups (x ∷ take (suc g) gs))) (omega (arith, ap length (joined_cons x (take (suc g) gs)), length-append x (joined_groups (take (suc g) gs)))))))
  where
    past : (a b : ℕ) → b ≡ length x + a → drop b (joined_groups (x ∷ gs)) ≡ drop a (joined_groups gs)
    past a b e = ap (λ (n : ℕ). drop n (joined_groups (x ∷ gs))) e ∙ (ap (drop (length x + a)) (joined_cons x gs) ∙ drop-append-add x (joined_groups gs) a)

start_end : (gs : List (List ℕ)) (g : ℕ) → g < length gs → (group_end gs g ≡ group_start gs g + length (group_at gs g)) × (group_end gs g ≤ length (joined_groups gs))
unfolding group_start group_end group_at
start_end [] g h = absurd (omega arith)
start_end (x ∷ gs) zero h = (omega (arith, none_joined, ap length (joined_cons x []), length-append x (joined_groups [])), omega (arith, none_joined, ap length (joined_cons x []), length-append x (joined_groups []), ap length (joined_cons x gs), length-append x (joined_groups gs)))
start_end (x ∷ gs) (suc g) h =
    let r = start_end gs g (omega arith) in
    let a = ap length (joined_cons x (take g gs)) ∙ length-append x (joined_groups (take g gs)) in
    let b = ap length (joined_cons x (take (suc g) gs)) ∙ length-append x (joined_groups (take (suc g) gs)) in
    let c = ap length (joined_cons x gs) ∙ length-append x (joined_groups gs) in
    (omega (arith, r.0, a, b), omega (arith, r.1, b, c))

pub group_long : (gs : List (List ℕ)) (g : ℕ) → g < length gs → group_end gs g ≡ group_start gs g + length (group_at gs g)
group_long gs g h = (start_end gs g h).0

pub group_inside : (gs : List (List ℕ)) (g : ℕ) → g < length gs → group_end gs g ≤ length (joined_groups gs)
group_inside gs g h = (start_end gs g h).1

-- a group's members stand between where it begins and ends
pub group_part : (gs : List (List ℕ)) (g : ℕ) → g < length gs → take (group_end gs g - group_start gs g) (drop (group_start gs g) (joined_groups gs)) ≡ group_at gs g
group_part gs g h =
    let z : length (group_at gs g) ≡ group_end gs g - group_start gs g = omega (arith, group_long gs g h) in
    ap (take (group_end gs g - group_start gs g)) (from_start gs g h) ∙ take_at (group_at gs g) (drop (group_end gs g) (joined_groups gs)) (group_end gs g - group_start gs g) z

first_of : (a b : List ℕ) → 1 ≤ length a → get_or (a ++ b) 0 0 ≡ get_or a 0 0
first_of [] b h = absurd (omega arith)
first_of (x ∷ a) b h = refl

-- and its first one where it begins
pub opener_is : (gs : List (List ℕ)) (g : ℕ) → g < length gs → 1 ≤ length (group_at gs g) → get_or (joined_groups gs) (group_start gs g) 0 ≡ opener gs g
unfolding opener
opener_is gs g h one =
    let z : group_start gs g + 0 ≡ group_start gs g = omega arith in
    sym (get_or-drop (group_start gs g) (joined_groups gs) 0 0 ∙ ap (λ (n : ℕ). get_or (joined_groups gs) n 0) z)
    ∙ (ap (λ (l : List ℕ). get_or l 0 0) (from_start gs g h) ∙ first_of (group_at gs g) (drop (group_end gs g) (joined_groups gs)) one)

-- ---- of switches

node_is : (t : Tree) → switch_tree t ≡ switch_node t
unfolding switch_tree switch_node
node_is (Sym n) = refl
node_is (Const c) = refl
node_is (Op k nil) = refl
node_is (Op k (q ◂ f)) = refl

every_map : {A B : Type 0} (P : B → Type 0) (f : A → B) (Q : A → Type 0) → ((a : A) → Q a → P (f a)) → (l : List A) → Every Q l → Every P (map f l)
every_map P f Q g [] h = tt
every_map P f Q g (a ∷ l) h = (g a h.0, every_map P f Q g l h.1)

module _ (hs : List ℕ) where
  abbrev ps : List ℕ
  ps = switch_places hs

  abbrev pub OfSwitches : List ℕ → Type 0
  OfSwitches g = ((1 ≤ length g) × (length g ≤ length hs)) × Every (Switching hs) g

  within_few : (i n : ℕ) → length (members_within hs ps i n) ≤ n
  unfolding members_within
  within_few i zero = omega arith
  within_few i (suc n) = go (eqb (group_first hs ps n) i) (within_few i n)
    where
      go : (b : Bool) → length (members_within hs ps i n) ≤ n → length (members_within hs ps i n ++ elim b as (λ _. List ℕ) [ true ↦ n ∷ [] | false ↦ [] ]) ≤ suc n
      go true h = omega (arith, h, length-append (members_within hs ps i n) (n ∷ []))
      go false h = omega (arith, h, length-append (members_within hs ps i n) [])

  group_few : (i : ℕ) → length (member_places hs ps i) ≤ length hs
  unfolding member_places members_of
  group_few i =
      omega (arith, length-map (members_of hs ps i) (member ps), within_few i (length ps), ap length (places_end hs), places_few hs (length hs))

  member_first : (i : ℕ) → Opens hs ps (length ps) i → 1 ≤ length (member_places hs ps i)
  unfolding member_places members_of
  member_first i o =
      let e = ap length (opener_first hs ps i (length ps) o.0 o.1) in
      omega (arith, e, length-map (members_of hs ps i) (member ps))

  group_of_switches : (i : ℕ) → Opens hs ps (length ps) i → OfSwitches (member_places hs ps i)
  group_of_switches i o =
      ((member_first i o, group_few i), every_so (Armed hs (arm_count hs (member ps i))) (Switching hs) (λ q a. a.0) (member_places hs ps i) (members_armed hs ps (places_switch hs) i))

  pub groups_of_switches : Every OfSwitches (place_groups hs)
  unfolding place_groups
  groups_of_switches = every_map OfSwitches (member_places hs ps) (Opens hs ps (length ps)) group_of_switches (group_numbers hs ps) (numbers_open hs ps)

  pub group_switches : (g : ℕ) → g < length (place_groups hs) → OfSwitches (group_at (place_groups hs) g)
  unfolding group_at
  group_switches g h = every_at OfSwitches [] (place_groups hs) groups_of_switches g h

  pub opener_switch : (g : ℕ) → g < length (place_groups hs) → Switching hs (opener (place_groups hs) g)
  unfolding opener
  opener_switch g h = every_at (Switching hs) 0 (group_at (place_groups hs) g) (group_switches g h).1 0 (group_switches g h).0.0

  every_joined : (gs : List (List ℕ)) → Every OfSwitches gs → Every (Switching hs) (joined_groups gs)
  unfolding joined_groups
  every_joined [] h = tt
  every_joined (g ∷ l) h = every_append (Switching hs) g (joined_groups l) h.0.1 (every_joined l h.1)

  switches_there : Complete hs → (l : List ℕ) → Every (Switching hs) l → AllThere hs l
  switches_there c [] h = tt
  switches_there c (q ∷ l) h = ((_, run_size numbered hs c.0 q c.1 h.0.0), switches_there c l h.1)

  drop_every : (n : ℕ) (l : List ℕ) → Every (Switching hs) l → Every (Switching hs) (drop n l)
  drop_every zero l h = h
  drop_every (suc n) [] h = tt
  drop_every (suc n) (q ∷ l) h = drop_every n l h.1

  members_switch : (n : ℕ) → Every (Switching hs) (drop n (joined_groups (place_groups hs)))
  members_switch n = drop_every n (joined_groups (place_groups hs)) (every_joined (place_groups hs) groups_of_switches)

  -- the members from any number on are there
  pub members_there : Complete hs → (n : ℕ) → AllThere hs (drop n (joined_groups (place_groups hs)))
  members_there c n = switches_there c (drop n (joined_groups (place_groups hs))) (members_switch n)

  -- and are switches, whatever their numbers are
  steps_switches : Complete hs → (l ns : List ℕ) → Every (Switching hs) l → switchless.OfSwitches (steps_at hs l ns)
  unfolding steps_at
  steps_switches c [] ns h = tt
  steps_switches c (p ∷ l) [] h = tt
  steps_switches c (p ∷ l) (n ∷ ns) h = (
    subst T (sym (switch_at_is hs c.0 c.1 p h.0.0) ∙ node_is (numbered_at hs p)) h.0.1,
    steps_switches c l ns h.1,
  )

  pub members_steps : Complete hs → (n : ℕ) (ns : List ℕ) → switchless.OfSwitches (steps_at hs (drop n (joined_groups (place_groups hs))) ns)
  members_steps c n ns = steps_switches c (drop n (joined_groups (place_groups hs))) ns (members_switch n)
