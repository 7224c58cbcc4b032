-- The bindings linked from the last to the first, and the order that the links give. Assumes nothing.
use Prim.Native.Nat.{ℕ, zero, suc, ◌+◌, ◌-◌, ◌*◌, ◌≤◌, ◌<◌}
use native.Mathlib.Omega.{arith}
use mathlib.Core.Path.{◌≡◌, refl, ◌∙◌, ap, subst}
use mathlib.Core.List.{List, [], ◌∷◌}
use lib.ListN.{length, get_or, take, replicate, get_or-replicate}
use Rattle.std.specs.Prelude.{Result, ⊤}
use Rattle.topo_sort.specs.declared.OrderError.{OrderError}
use Rattle.topo_sort.specs.links.Links.{Chain, needing, Linking, Says, Lent, StmtLinked, Linked, OrdersLinked}
use Rattle.topo_sort.proofs.links.Making.{linking_begins}
use Rattle.rounds.specs.value_numbers.Tables.{Reset}
use Rattle.reciprocals.specs.final.Entries.{final_run}
use Rattle.reciprocals.specs.final.Ready.{binding_run, final_order, InOrder}
use Rattle.reciprocals.proofs.final.Marking.{marked_yes}
use Rattle.cse_flat.specs.ending.Needs.{needs_of}

pub binding_is : (k : ℕ) (places ws : List ℕ) (j : ℕ) → final_run k places ws (k + j) ≡ binding_run k places ws j
unfolding binding_run
binding_is k places ws j = refl

module _ (k : ℕ) (places ws : List ℕ) (count : ℕ) where
  -- so far
  pub record SoFar (heads links waiting : List ℕ) (n j : ℕ) : Type 0 where
    pub most : j ≤ count
    pub lent : Lent count n heads links waiting
    pub linking : Linking (needs_of k places ws count) count j heads links waiting

  pub so_far_begins :
      (heads links waiting : List ℕ) → length heads ≡ count → heads ≡ replicate count 0 → count ≤ 2048 → length links ≤ 65536 → count ≤ length waiting → SoFar heads links waiting 0 count
  so_far_begins heads links waiting many none few small wide =
      let zero_there : (i : ℕ) → i < count → get_or heads i 0 ≡ 0 = λ i h. ap (λ (l : List ℕ). get_or l i 0) none ∙ get_or-replicate count i 0 0 h in
      record {
        most = omega arith;
        lent = record { many = many; few = few; within = λ i h. omega (arith, zero_there i h); room = omega arith; small = small; wide = wide };
        linking = linking_begins (needs_of k places ws count) count heads links waiting zero_there;
      }

  says : count ≤ 2048 → (j : ℕ) → j < count → Says (needs_of k places ws count) count j (binding_run k places ws j)
  unfolding needs_of
  says few j h i g = marked_yes (binding_run k places ws) (32 * count) count refl j i h (omega arith)

  pub so_far_turns :
      {heads links waiting : List ℕ} {n j : ℕ} → SoFar heads links waiting n j → 0 < j → (new_heads new_links new_waiting : List ℕ) (m : ℕ)
      → StmtLinked (binding_run k places ws (j - 1)) (length heads) (j - 1) heads links waiting m new_heads new_links new_waiting → SoFar new_heads new_links new_waiting m (j - 1)
  so_far_turns {heads} {links} {waiting} {n} {j} s some new_heads new_links new_waiting m e =
      let t : StmtLinked (binding_run k places ws (j - 1)) count (j - 1) heads links waiting m new_heads new_links new_waiting =
      subst (λ (c : ℕ). StmtLinked (binding_run k places ws (j - 1)) c (j - 1) heads links waiting m new_heads new_links new_waiting) s.lent.many e in
      let z : j ≡ (j - 1) + 1 = omega arith in
      record {
        most = omega (arith, s.most);
        lent = t.lent;
        linking =
            t.linked (needs_of k places ws count) (says s.lent.few (j - 1) (omega (arith, s.most)))
            (subst (λ (x : ℕ). Linking (needs_of k places ws count) count x heads links waiting) z s.linking);
      }

  pub so_far_ends : {heads links waiting : List ℕ} {n j : ℕ} → SoFar heads links waiting n j → j ≤ 0 → Linked (needs_of k places ws count) count heads links waiting
  so_far_ends {heads} {links} {waiting} {n} {j} s none =
      let z : j ≡ 0 = omega arith in
      let all : Linking (needs_of k places ws count) count 0 heads links waiting = subst (λ (x : ℕ). Linking (needs_of k places ws count) count x heads links waiting) z s.linking in
      record {
        chains = λ i h.
            subst (λ (x : ℕ). Chain links (get_or heads i 0) (needing (needs_of k places ws count) i 0 x)) (let y : count - 0 ≡ count = omega arith in y) (all.chains i h);
        within = λ i h. omega (arith, s.lent.within i h, s.lent.room);
        waits = λ i h. all.waits i (omega arith) h;
      }

  pub in_order :
      (taken new : List ℕ) (r : Result ⊤ OrderError) → OrdersLinked (needs_of k places ws count) count taken r new → length new ≡ length taken → count ≤ length taken
      → InOrder (final_order k places ws count) count taken new r
  unfolding needs_of final_order
  in_order taken new r o l h = record { answer_is = o.answer_is; taken_is = o.taken_is; inside = omega (arith, l) }

-- as many by another name
pub same_order :
    (k : ℕ) (places ws : List ℕ) (a b : ℕ) (taken new : List ℕ) (r : Result ⊤ OrderError) → a ≡ b → InOrder (final_order k places ws a) a taken new r → InOrder (final_order k places ws b) b taken new r
same_order k places ws a b taken new r = subst (λ (n : ℕ). InOrder (final_order k places ws n) n taken new r)

-- a table of which the first n words were cleared begins with as many zeros
pub cleared_front : (old : List ℕ) (n : ℕ) (new : List ℕ) → Reset old n 0 new → n ≤ length new → take n new ≡ replicate n 0
cleared_front old n new r h = zeros_front_of n new h r.each
  where
    zeros_front_of : (m : ℕ) (l : List ℕ) → m ≤ length l → ((q : ℕ) → q < m → get_or l q 0 ≡ 0) → take m l ≡ replicate m 0
    zeros_front_of zero l g e = refl
    zeros_front_of (suc m) [] g e = absurd (omega (arith, g))
    zeros_front_of (suc m) (x ∷ l) g e =
        let rest : take m l ≡ replicate m 0 = zeros_front_of m l (omega (arith, g)) (λ q f. e (suc q) (omega (arith, f))) in
        let here : x ≡ 0 = e 0 (omega arith) in
        cc
