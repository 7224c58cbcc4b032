-- Before the end: the trees from before are settled in a copy of their words, and listed. Assumes nothing.
use Prim.Native.Nat.{ℕ, ◌+◌, ◌-◌, ◌≤◌}
use native.Mathlib.Omega.{arith}
use mathlib.Core.Path.{◌≡◌, refl, sym, ◌∙◌, ap, subst}
use mathlib.Core.Bool.{Bool}
use mathlib.Core.Option.{Option, some}
use mathlib.Core.List.{List, ◌++◌}
use borrow.Author.Tests.{le-leb}
use lib.ListN.{length, take, drop, length-append}
use lib.Seq.{take_at}
use Rattle.spec_tree.proofs.TokenLaws.{complete_within}
use Rattle.words.proofs.words.Scanning.{Put, put_long}
use Rattle.reciprocals.specs.settle.Steps.{settled_words}
use Rattle.reciprocals.specs.settle.Answers.{Settling, settling}
use Rattle.std.specs.Prelude.{Result, Ok, Err}
use Rattle.words.specs.declared.fault.Fault.{Fault}
use Rattle.words.specs.declared.fault.Fault.TheVariants as fault
use Rattle.reciprocals.proofs.bindings.Parts.{AllThere, settled_are}
use Rattle.reciprocals.proofs.reciprocal.There.{tested_there}
use Rattle.reciprocals.proofs.reciprocal.Whole.{first_words, first_settled, first_no_more, first_complete}
use Rattle.topo_sort.specs.treelist.Starts.{starts_of, listing_room, listing_by, tree_listing}
use Rattle.topo_sort.proofs.treelist.Begins.{starts_count}
use Rattle.reciprocals.specs.final.Ready.{There, SettledFront, Ready}

some_same : (a b : List ℕ) → some a ≡ some b → a ≡ b
some_same a b e = cc

module _ {ws : List ℕ} {k m : ℕ} {places : List ℕ} (t : There ws k m places) where
  places_there : AllThere ws places
  places_there = tested_there ws places t.there

  abbrev S : List ℕ
  S = first_words ws places places_there (m - k) m t.complete

  SIs : settled_words ws places (m - k) ws ≡ some S
  SIs = settled_are ws places (m - k) ws m t.complete places_there

  -- ---- settled

  module _ (old mid : List ℕ) (long : length ws ≤ length old) (copy : Put old 0 ws mid) where
    copied : take (length ws) mid ≡ ws
    copied = ap (take (length ws)) copy ∙ take_at ws (drop (0 + length ws) old) (length ws) refl

    mid_long : length ws ≤ length mid
    mid_long = omega (arith, put_long old 0 ws mid (omega (arith, long)) copy, long)

    settling_so : settling ws places 0 (m - k) mid (length ws) ≡ record { answer = Ok (length S); out = S ++ drop (length S) mid }
    settling_so =
        first_settled ws places places_there (m - k) m t.complete mid copied (omega (arith, mid_long)) (omega (arith, t.few)) (omega (arith, t.numbers)) (omega (arith, t.numbers))

    pub settled_front :
        (n : ℕ) (out : List ℕ) → Ok n ≡ (settling ws places 0 (m - k) mid (length ws)).answer → out ≡ (settling ws places 0 (m - k) mid (length ws)).out
        → SettledFront ws k m places out n
    settled_front n out e f =
        let q : Ok n ≡ Ok (length S) = e ∙ ap (λ (s : Settling). s.answer) settling_so in
        let p : n ≡ length S = cc in
        let o : out ≡ S ++ drop (length S) mid = f ∙ ap (λ (s : Settling). s.out) settling_so in
        let l = first_no_more ws places places_there (m - k) m t.complete in
        record {
          settled_is = SIs ∙ ap some (sym (ap (take n) o ∙ take_at S (drop (length S) mid) n (sym p)));
          inside = omega (arith, p, ap length o, length-append S (drop (length S) mid));
          short = omega (arith, p, l);
        }

    pub settled_always : (b : Result ℕ Fault) → b ≡ (settling ws places 0 (m - k) mid (length ws)).answer → (b ≡ Err fault.Broken → ⊥) × (b ≡ Err fault.NoRoom → ⊥)
    settled_always b e =
        let q : b ≡ Ok (length S) = e ∙ ap (λ (s : Settling). s.answer) settling_so in
        ((λ x. let z : ◌≡◌ {A = ℕ} 0 1 = cc in omega arith), (λ x. let z : ◌≡◌ {A = ℕ} 0 1 = cc in omega arith))

  -- ---- listed

  listing_so : (old : List ℕ) → m ≤ length old → (tree_listing S old).out ≡ starts_of S ++ drop m old
  unfolding tree_listing listing_by listing_room
  listing_so old h =
      ap (λ (o : Option ℕ). (listing_by o (starts_of S) old).out) (first_complete ws places places_there (m - k) m t.complete)
      ∙ ap (λ (b : Bool). (listing_room b m (starts_of S) old).out) (le-leb m (length old) h)

  starts_long : length (starts_of S) ≡ m
  starts_long = starts_count S m (first_complete ws places places_there (m - k) m t.complete)

  ready_so : length S ≤ length ws → Ready ws S (starts_of S) places k
  ready_so h =
      let l = starts_long in
      record {
        complete = t.complete ∙ ap some (sym l);
        enough = omega (arith, l, t.enough);
        there = t.there;
        few = t.few;
        numbers = omega (arith, l, t.numbers);
        short = h;
        settled_is = ap (λ (n : ℕ). settled_words ws places (n - k) ws) l ∙ SIs;
        starts_are = refl;
      }

  pub trees_many : m ≤ length ws
  trees_many = complete_within ws m t.complete

  pub ready_is :
      (out : List ℕ) (n : ℕ) → SettledFront ws k m places out n → (old starts : List ℕ) → m ≤ length old → starts ≡ (tree_listing (take n out) old).out
      → Ready ws (take n out) (take m starts) places k
  ready_is out n f old starts h e =
      let same : take n out ≡ S = some_same (take n out) S (sym f.settled_is ∙ SIs) in
      let listed : take m starts ≡ starts_of S =
      ap (take m) (e ∙ (ap (λ (l : List ℕ). (tree_listing l old).out) same ∙ listing_so old h)) ∙ take_at (starts_of S) (drop m old) m starts_long in
      let l = first_no_more ws places places_there (m - k) m t.complete in
      subst (λ (x : List ℕ). Ready ws x (take m starts) places k) (sym same)
      (subst (λ (x : List ℕ). Ready ws S x places k) (sym listed) (ready_so l))

  pub ready_long : {settled starts : List ℕ} → Ready ws settled starts places k → m ≡ length starts
  ready_long {settled} {starts} r = let e : some m ≡ some (length starts) = sym t.complete ∙ r.complete in cc
