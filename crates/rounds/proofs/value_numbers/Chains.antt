-- What the pass from the right keeps: the classes known, and the chains of the places that stand for their class. Assumes nothing.
use Prim.Native.Nat.{ℕ, suc, ◌+◌, ◌-◌, ◌*◌, ◌≤◌, ◌<◌}
use native.Mathlib.Omega.{arith}
use mathlib.Core.Path.{◌≡◌, refl, sym, ◌∙◌, ap, subst}
use mathlib.Core.Bool.{Bool, true, false, cond}
use mathlib.Core.List.{List}
use borrow.Author.Tests.{eqb-true, eqb-false}
use lib.ListN.{length, get_or, set, length-set}
use lib.Seq.{get_or-set_same, get_or-set_other}
use lib.Dec.{eqb}
use Rattle.spec_tree.specs.Tokens.{kind_of}
use Rattle.rounds.specs.uses.Marks.{Complete}
use Rattle.rounds.specs.value_numbers.Classes.{chains, last_at, class_at, bucket_at}
use Rattle.rounds.specs.value_numbers.Tables.{Known, Stands, Link, Links, Heads, Passing, Chase}
use Rattle.rounds.proofs.value_numbers.Laws.{last_low, last_high, last_tree, last_same, last_stands}
use Rattle.rounds.proofs.value_numbers.Nodes.{bucket_same}
use Rattle.rounds.proofs.value_numbers.Sides.{class_same, tree_same, stands_operation, leaf_class, operation_class}

-- what holds of each entry holds after one is set
pub at_set :
    (P : ℕ → ℕ → Type 0) (l : List ℕ) (j v q : ℕ) → j < length l → P j v → ((q ≡ j → ⊥) → P q (get_or l q 0)) → P q (get_or (set l j v) q 0)
at_set P l j v q h same other = go (eqb q j) refl
  where
    go : (b : Bool) → eqb q j ≡ b → P q (get_or (set l j v) q 0)
    go true e = subst (λ (k : ℕ). P k (get_or (set l j v) k 0)) (sym (eqb-true q j e)) (subst (P j) (sym (get_or-set_same l j v 0 h)) same)
    go false e = let ne = eqb-false q j e in subst (P q) (sym (get_or-set_other l j q v 0 ne)) (other ne)

module _ (ws : List ℕ) where
  -- ---- a chain's first place, from one place earlier

  link_down : {b j p : ℕ} → Link ws b (j + 1) p → (Stands ws j → bucket_at ws j ≡ b → ⊥) → Link ws b j p
  link_down {b} {j} {p} k never =
      record {
        low = omega (arith, k.low);
        high = k.high;
        stands = k.stands;
        chain = k.chain;
        least = λ q h l s c. go q h l s c (eqb q j) refl;
      }
    where
      go : (q : ℕ) → j ≤ q → q < length ws → Stands ws q → bucket_at ws q ≡ b → (t : Bool) → eqb q j ≡ t → p ≤ q
      go q h l s c true e = let z = eqb-true q j e in absurd (never (subst (Stands ws) z s) (rw z at c))
      go q h l s c false e = let ne = eqb-false q j e in k.least q (omega (arith, ne)) l s c

  link_self : (j : ℕ) → j < length ws → Stands ws j → Link ws (bucket_at ws j) j j
  link_self j h s =
      record { low = omega arith; high = omega arith; stands = λ l. s; chain = λ l. refl; least = λ q g l t c. g }

  -- ---- the search in a chain

  module _ (complete : Complete ws) (i : ℕ) (inside : i < length ws) where
    in_chain : bucket_at ws (last_at ws i) ≡ bucket_at ws i
    in_chain = bucket_same ws complete (last_at ws i) i (last_high ws i inside) inside (last_tree ws i inside)

    -- what stands for the operation i
    it_stands : 1 < kind_of (get_or ws i 0) → Stands ws (last_at ws i)
    it_stands op = (last_stands ws i inside, stands_operation ws complete i inside op)

    pub chase_starts :
        (hd : List ℕ) (b : ℕ) → Heads ws (i + 1) hd → 1 < kind_of (get_or ws i 0) → b ≡ bucket_at ws i → b < chains (length ws) → Chase ws i (get_or hd b 0)
    chase_starts hd b k op e l =
        let f = k.each b l in
        record {
          operation = op;
          low = omega (arith, f.low);
          high = f.high;
          stands = f.stands;
          chain = λ h. f.chain h ∙ e;
          ahead = λ h. f.least (last_at ws i) (omega arith) (last_high ws i inside) (it_stands op) (in_chain ∙ sym e);
        }

    pub chase_turns :
        (nx : List ℕ) (p : ℕ) → Links ws (i + 1) nx → Chase ws i p → p < length ws → false ≡ eqb (class_at ws i) (class_at ws p) → Chase ws i (get_or nx p 0)
    chase_turns nx p k c l d =
        let s = c.stands l in
        let f = k.each p (omega (arith, c.low)) l s in
        let ne = eqb-false (class_at ws i) (class_at ws p) (sym d) in
        let other : last_at ws i ≡ p → ⊥ = λ z. ne (sym (class_same ws (last_at ws i) i (last_tree ws i inside)) ∙ ap (class_at ws) z) in
        record {
          operation = c.operation;
          low = omega (arith, c.low, f.low);
          high = f.high;
          stands = f.stands;
          chain = λ h. f.chain h ∙ c.chain l;
          ahead = λ h. f.least (last_at ws i) (omega (arith, c.ahead h, other)) (last_high ws i inside) (it_stands c.operation) (in_chain ∙ sym (c.chain l));
        }

    pub chase_past : (nx : List ℕ) (p : ℕ) → Links ws (i + 1) nx → Chase ws i p → p < length ws → p < get_or nx p 0
    chase_past nx p k c l = let f = k.each p (omega (arith, c.low)) l (c.stands l) in omega (arith, f.low)

    pub chase_finds : (p : ℕ) → Chase ws i p → p < length ws → true ≡ eqb (class_at ws i) (class_at ws p) → p ≡ last_at ws i
    chase_finds p c l d =
        sym (last_same ws i p (tree_same ws i p inside l (eqb-true (class_at ws i) (class_at ws p) (sym d))) ∙ (c.stands l).0)

    pub chase_ends : (p : ℕ) → Chase ws i p → length ws ≤ p → i ≡ last_at ws i
    chase_ends p c l =
        let low = last_low ws i inside in
        let high = last_high ws i inside in
        let no : i < last_at ws i → ⊥ = λ h. omega (arith, c.ahead h) in
        omega (arith, no)

-- ---- the pass

pub passing_starts :
    (ws cl nx hd : List ℕ) → length ws ≤ length cl → length ws ≤ length nx → chains (length ws) ≤ length hd → ((b : ℕ) → b < chains (length ws) → get_or hd b 0 ≡ length ws)
    → Passing ws (length ws) cl nx hd
passing_starts ws cl nx hd a b c ends =
    record {
      inside = omega arith;
      known = record { long = a; each = λ q h l. absurd (omega arith) };
      links = record { long = b; each = λ q h l s. absurd (omega arith) };
      heads = record {
        long = c;
        each = λ k l.
            let e = ends k l in
            record {
              low = omega (arith, e);
              high = omega (arith, e);
              stands = λ h. absurd (omega (arith, e));
              chain = λ h. absurd (omega (arith, e));
              least = λ q h g s t. absurd (omega arith);
            };
      };
    }

-- one place less, as the code says it
pub passing_next : {ws : List ℕ} {i : ℕ} {cl nx hd : List ℕ} → Passing ws i cl nx hd → 0 < i → Passing ws (i - 1 + 1) cl nx hd
passing_next {ws} {i} {cl} {nx} {hd} k h = let e : i ≡ i - 1 + 1 = omega arith in subst (λ (n : ℕ). Passing ws n cl nx hd) e k

known_turns : {ws cl : List ℕ} {j : ℕ} → Known ws (j + 1) cl → j < length ws → (v : ℕ) → v ≡ class_at ws j → Known ws j (set cl j v)
known_turns {ws} {cl} {j} k h v e =
    record {
      long = simp length-set k.long;
      each = λ q l g.
          at_set (λ q x. j ≤ q → q < length ws → x ≡ class_at ws q) cl j v q (omega (arith, k.long)) (λ a b. e) (λ ne a b. k.each q (omega (arith, ne)) b) l g;
    }

links_turns :
    {ws nx : List ℕ} {j : ℕ} → Links ws (j + 1) nx → j < length ws → (b v : ℕ) → b ≡ bucket_at ws j → Link ws b (j + 1) v → Links ws j (set nx j v)
links_turns {ws} {nx} {j} k h b v e first =
    let s : j + 1 ≡ suc j = omega arith in
    let f : Link ws (bucket_at ws j) (suc j) v = subst (λ (n : ℕ). Link ws (bucket_at ws j) n v) s (subst (λ (n : ℕ). Link ws n (j + 1) v) e first) in
    record {
      long = simp length-set k.long;
      each = λ q l g t.
          at_set (λ q x. j ≤ q → q < length ws → Stands ws q → Link ws (bucket_at ws q) (suc q) x) nx j v q (omega (arith, k.long)) (λ x y z. f)
          (λ ne x y z. k.each q (omega (arith, ne)) y z) l g t;
    }

heads_turns :
    {ws hd : List ℕ} {j : ℕ} → Heads ws (j + 1) hd → j < length ws → (b c v : ℕ) → b ≡ bucket_at ws j → b < chains (length ws) → c ≡ last_at ws j
    → 1 < kind_of (get_or ws j 0) → v ≡ cond (eqb c j) j (get_or hd b 0) → Heads ws j (set hd b v)
heads_turns {ws} {hd} {j} k h b c v e l s op w =
    record {
      long = simp length-set k.long;
      each = λ q g.
          at_set (λ q x. q < chains (length ws) → Link ws q j x) hd b v q (omega (arith, k.long)) (λ z. go (eqb c j) refl)
          (λ ne z. link_down ws (k.each q z) (λ t u. ne (sym u ∙ sym e))) g;
    }
  where
    go : (t : Bool) → eqb c j ≡ t → Link ws b j v
    go true p =
        let at : Stands ws j = (sym s ∙ eqb-true c j p, op) in
        let is : v ≡ j = w ∙ ap (λ (t : Bool). cond t j (get_or hd b 0)) p in
        subst (λ (n : ℕ). Link ws b j n) (sym is) (subst (λ (n : ℕ). Link ws n j j) (sym e) (link_self ws j h at))
    go false p =
        let is : v ≡ get_or hd b 0 = w ∙ ap (λ (t : Bool). cond t j (get_or hd b 0)) p in
        subst (λ (n : ℕ). Link ws b j n) (sym is) (link_down ws (k.each b l) (λ t u. eqb-false c j p (s ∙ t.0)))

pub passing_turns :
    {ws cl nx hd : List ℕ} {j : ℕ} → Passing ws (j + 1) cl nx hd → Complete ws → j < length ws → 1 < kind_of (get_or ws j 0) → (b c v : ℕ) → b ≡ bucket_at ws j
    → b < chains (length ws) → c ≡ last_at ws j → v ≡ cond (eqb c j) j (get_or hd b 0) → Passing ws j (set cl j (4 * c + 2)) (set nx j (get_or hd b 0)) (set hd b v)
passing_turns {ws} {cl} {nx} {hd} {j} k complete h op b c v e l s w =
    record {
      inside = omega arith;
      known = known_turns k.known h (4 * c + 2) (ap (λ (n : ℕ). 4 * n + 2) s ∙ sym (operation_class ws complete j h op));
      links = links_turns k.links h b (get_or hd b 0) e (k.heads.each b l);
      heads = heads_turns k.heads h b c v e l s op w;
    }

-- a leaf is in no chain
pub passing_leaf :
    {ws cl nx hd : List ℕ} {j : ℕ} → Passing ws (j + 1) cl nx hd → Complete ws → j < length ws → kind_of (get_or ws j 0) ≤ 1
    → Passing ws j (set cl j (get_or ws j 0)) nx hd
passing_leaf {ws} {cl} {nx} {hd} {j} k complete h leaf =
    record {
      inside = omega arith;
      known = known_turns k.known h (get_or ws j 0) (leaf_class ws complete j h leaf);
      links = record { long = k.links.long; each = λ q l g t. go q l g t (eqb q j) refl };
      heads = record { long = k.heads.long; each = λ q g. link_down ws (k.heads.each q g) (λ t u. omega (arith, t.1)) };
    }
  where
    go : (q : ℕ) → j ≤ q → q < length ws → Stands ws q → (b : Bool) → eqb q j ≡ b → Link ws (bucket_at ws q) (suc q) (get_or nx q 0)
    go q l g t true e = let z = eqb-true q j e in absurd (let u : 1 < kind_of (get_or ws j 0) = subst (λ (n : ℕ). 1 < kind_of (get_or ws n 0)) z t.1 in omega arith)
    go q l g t false e = let ne = eqb-false q j e in k.links.each q (omega (arith, ne)) g t

pub passing_ends : {ws : List ℕ} {i : ℕ} {cl nx hd : List ℕ} → Passing ws i cl nx hd → i ≤ 0 → Known ws 0 cl
passing_ends {ws} {i} {cl} {nx} {hd} k h = let z : i ≡ 0 = omega arith in subst (λ (n : ℕ). Known ws n cl) z k.known
