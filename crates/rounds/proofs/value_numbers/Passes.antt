-- What the pass keeps: the facts from a place on, the classes and chains, and the counts. Assumes nothing.
use Prim.Native.Nat.{ℕ, ◌+◌, ◌-◌, ◌*◌, ◌≤◌, ◌<◌}
use native.Mathlib.Omega.{arith}
use mathlib.Core.Path.{◌≡◌, refl, sym, ◌∙◌, ap, subst}
use mathlib.Core.Bool.{Bool, true, false, cond}
use mathlib.Core.List.{List, []}
use lib.ListN.{length, get_or, set, length-set}
use lib.Seq.{get_or-set_other}
use Rattle.spec_tree.specs.Kinds.{is_select}
use Rattle.spec_tree.specs.Facts.{total, greatest, first_and_greatest, size}
use Rattle.spec_tree.specs.Tokens.{numbered, kind_of, takes}
use Rattle.spec_tree.proofs.TokenLaws.{tree_at, leaf_takes}
use Rattle.rounds.specs.measure.Columns.{place_facts, column, own_symbol, operand_costs}
use Rattle.rounds.proofs.measure.WordFacts.{leaf_own}
use Rattle.rounds.proofs.measure.Walking.{none_left}
use Rattle.rounds.proofs.measure.Filling.{Filling, filling_known, filling_turns, filling_ends}
use Rattle.rounds.specs.uses.Marks.{Complete}
use Rattle.laws.specs.positions.Places.{numbered_at}
use Rattle.rounds.specs.value_numbers.Walks.{Sized, Put, LeafPut}
use Rattle.rounds.specs.value_numbers.Tables.{Passing, Counted}
use Rattle.rounds.specs.value_numbers.Answers.{Passed}
use Rattle.rounds.proofs.value_numbers.Chains.{passing_leaf, passing_ends}
use Rattle.rounds.proofs.value_numbers.Counts.{counted_turns, counted_fits, counted_leaf, counted_ends, one_passes}
use Rattle.rounds.proofs.value_numbers.Laws.{last_high}
use Rattle.rounds.proofs.value_numbers.Sides.{leaf_apart, operation_class}
use Rattle.rounds.specs.value_numbers.Classes.{last_at, class_at}

pub put_turns : {ws old fs new : List ℕ} {i : ℕ} → Filling ws old fs i → 0 < i → Complete ws → Put ws (i - 1) fs new → Filling ws old new (i - 1)
put_turns {ws} {old} {fs} {new} {i} f pos c p =
    subst (λ (l : List ℕ). Filling ws old l (i - 1)) (sym p.is) (filling_turns f pos c p.s p.c p.d p.h p.facts)

pub filling_sized : {ws old fs : List ℕ} {j : ℕ} → Filling ws old fs j → (i : ℕ) → j ≤ i → Sized ws i fs
unfolding numbered_at place_facts
filling_sized {ws} {old} {fs} {j} f i low =
    record {
      long = omega (arith, f);
      sizes = λ q h l.
          let z : 4 * q ≡ 4 * q + 0 = omega arith in
          ap (λ (n : ℕ). get_or fs n 0) z ∙ (filling_known f q 0 (omega arith) l (omega arith) ∙ sym (ap size (tree_at numbered ws q)));
    }

pub record Pass (ws old : List ℕ) (i : ℕ) (fs cl nx hd us : List ℕ) (entered : ℕ) : Type 0 where
  pub filling : Filling ws old fs i
  pub passing : Passing ws i cl nx hd
  pub uses : Counted ws (λ j. true) i us
  pub count : entered + i ≡ length ws

-- one place less, as the code says it
pub counts_next : {ws us : List ℕ} {test : ℕ → mathlib.Core.Bool.Bool} {i : ℕ} → Counted ws test i us → 0 < i → Counted ws test (i - 1 + 1) us
counts_next {ws} {us} {test} {i} k h = let e : i ≡ i - 1 + 1 = omega arith in subst (λ (n : ℕ). Counted ws test n us) e k

-- the facts of places past one that was written stand
apart : (fs : List ℕ) (q j v k : ℕ) → k < 4 → j + 1 ≤ q → get_or (set fs (4 * j + k) v) (4 * q) 0 ≡ get_or fs (4 * q) 0
apart fs q j v k h l = get_or-set_other fs (4 * j + k) (4 * q) v 0 (λ e. omega arith)

pub put_sized : {ws fs new : List ℕ} {j : ℕ} → Put ws j fs new → Sized ws (j + 1) fs → Sized ws (j + 1) new
put_sized {ws} {fs} {new} {j} p k =
    let z : 4 * j ≡ 4 * j + 0 = omega arith in
    let a = set fs (4 * j) p.s in
    let b = set a (4 * j + 1) p.c in
    let c = set b (4 * j + 2) p.d in
    record {
      long = rw p.is (simp length-set k.long);
      sizes = λ q h l.
          ap (λ (x : List ℕ). get_or x (4 * q) 0) p.is
          ∙ (apart c q j p.h 3 (omega arith) h
          ∙ (apart b q j p.d 2 (omega arith) h
          ∙ (apart a q j p.c 1 (omega arith) h
          ∙ (ap (λ (n : ℕ). get_or (set fs n p.s) (4 * q) 0) z ∙ (apart fs q j p.s 0 (omega arith) h ∙ k.sizes q h l)))));
    }

-- the facts of a leaf
pub leaf_written :
    (fs cl : List ℕ) (at w r : ℕ) → r ≡ own_symbol w
    → LeafPut w at fs (set (set (set (set fs (4 * at) 1) (4 * at + 1) 0) (4 * at + 2) 0) (4 * at + 3) r) cl (set cl at w)
leaf_written fs cl at w r e = record { facts_are = ap (set (set (set (set fs (4 * at) 1) (4 * at + 1) 0) (4 * at + 2) 0) (4 * at + 3)) e; class_is = refl }

none : (fs : List ℕ) (c p n : ℕ) → n ≡ 0 → column fs c p n ≡ []
none fs c p n e = none_left fs c p n (omega arith)

pub leaf_put : {ws fs new cl cl' : List ℕ} {j : ℕ} → kind_of (get_or ws j 0) ≤ 1 → LeafPut (get_or ws j 0) j fs new cl cl' → Put ws j fs new
unfolding total greatest operand_costs first_and_greatest
leaf_put {ws} {fs} {new} {cl} {cl'} {j} h k =
    let w = get_or ws j 0 in
    let t = leaf_takes w h in
    record {
      s = 1;
      c = 0;
      d = 0;
      h = own_symbol w;
      facts = record {
        size_is = rw (none fs 0 (j + 1) (takes w) t);
        cost_is = rw (none fs 1 (j + 1) (takes w) t, leaf_own w h) (costs (is_select (kind_of w)));
        depth_is = rw (none fs 2 (j + 1) (takes w) t, leaf_own w h);
        symbol_is = rw (none fs 3 (j + 1) (takes w) t) (omega arith);
      };
      is = k.facts_are;
    }
  where
    costs : (b : Bool) → 0 ≡ 0 + cond b (first_and_greatest []) (total [])
    costs true = refl
    costs false = refl

pub leaf_passing :
    {ws fs new cl cl' nx hd : List ℕ} {j : ℕ} → Passing ws (j + 1) cl nx hd → Complete ws → j < length ws → kind_of (get_or ws j 0) ≤ 1
    → LeafPut (get_or ws j 0) j fs new cl cl' → Passing ws j cl' nx hd
leaf_passing {ws} {fs} {new} {cl} {cl'} {nx} {hd} {j} k complete h leaf p = rw p.class_is (passing_leaf k complete h leaf)

pub leaf_counted :
    {ws us : List ℕ} {j : ℕ} → Counted ws (λ j. true) (j + 1) us → Complete ws → j < length ws → kind_of (get_or ws j 0) ≤ 1 → Counted ws (λ j. true) j us
leaf_counted {ws} {us} {j} k complete h leaf = counted_leaf ws (λ j. true) k (leaf_apart ws complete j h leaf)

-- the count of an operation goes up by one
module _ {ws us : List ℕ} {j : ℕ} (k : Counted ws (λ j. true) (j + 1) us) (complete : Complete ws) (h : j < length ws) (op : 1 < kind_of (get_or ws j 0)) (c : ℕ) (e : c ≡ last_at ws j) where
  there : c < length ws
  there = omega (arith, last_high ws j h)

  is : class_at ws j ≡ 4 * c + 2
  is = operation_class ws complete j h op ∙ ap (λ (n : ℕ). 4 * n + 2) (sym e)

  pub uses_fit : (c < length ws) × (get_or us c 0 + 1 ≤ length ws)
  uses_fit = (there, counted_fits ws (λ j. true) k h c 1 there is one_passes)

  pub uses_turn : Counted ws (λ j. true) j (set us c (get_or us c 0 + 1))
  uses_turn = counted_turns ws (λ j. true) k h c 1 there is one_passes

pub pass_turns :
    {ws old : List ℕ} {i : ℕ} {fs cl nx hd us new cl' nx' hd' us' : List ℕ} {entered : ℕ} → Pass ws old i fs cl nx hd us entered → 0 < i → Complete ws
    → Put ws (i - 1) fs new × Passing ws (i - 1) cl' nx' hd' × Counted ws (λ j. true) (i - 1) us' → Pass ws old (i - 1) new cl' nx' hd' us' (entered + 1)
pass_turns {ws} {old} {i} {fs} {cl} {nx} {hd} {us} {new} {cl'} {nx'} {hd'} {us'} {entered} k h complete p =
    record {
      filling = put_turns k.filling h complete p.0;
      passing = p.1;
      uses = p.2;
      count = omega (arith, k.count, h);
    }

pub pass_ends :
    {ws old : List ℕ} {i : ℕ} {fs cl nx hd us : List ℕ} {entered : ℕ} → Pass ws old i fs cl nx hd us entered → Complete ws → i ≤ 0 → Passed ws old entered fs cl us
pass_ends {ws} {old} {i} {fs} {cl} {nx} {hd} {us} {entered} k complete h =
    let z : i ≡ 0 = omega arith in
    let known = passing_ends k.passing h in
    record {
      facts_are = filling_ends k.filling h;
      classes_are = known;
      uses_are = counted_ends ws (λ j. true) complete known (subst (λ (n : ℕ). Counted ws (λ j. true) n us) z k.uses);
      all_entered = omega (arith, k.count);
    }
