-- Places moved down over a gap, and copied. Assumes nothing.
use Rattle.std.proofs.Common.{◌≡◌, ℕ, ◌+◌, ◌-◌, ◌<◌, ◌≤◌, Bool, true, false, not, T, ltb, ◌⊎◌, List, ◌++◌, length, get_or, take, drop, set, sym, refl, ap, ◌∙◌, subst, inl, inr, arith, ltb→lt, nltb→le, length-append, length-drop, length-set, length-take-le, get_or-drop, get_or-set_other, get_or-take, get_or-set_same, get_or-append-add, ext_get_or}
use lib.ListN.{get_or-append}

-- ---- a is a₀ with the places from j + 1 up to k moved down by one

pub record Moved (a₀ a : List ℕ) (j k : ℕ) : Type 0 where
  pub same : length a ≡ length a₀
  pub below : (i : ℕ) → i < j → get_or a i 0 ≡ get_or a₀ i 0
  pub moved : (i : ℕ) → j ≤ i → i < k → get_or a i 0 ≡ get_or a₀ (i + 1) 0
  pub above : (i : ℕ) → k ≤ i → get_or a i 0 ≡ get_or a₀ i 0

pub moved_none : (a : List ℕ) (j : ℕ) → Moved a a j j
moved_none a j = record { same = refl; below = λ i h. refl; moved = λ i h k. absurd (clash i j h k); above = λ i h. refl }
  where
    clash : (x y : ℕ) → y ≤ x → x < y → ⊥
    clash x y h k = omega arith

pub moved_more : (a₀ a : List ℕ) (j k : ℕ) → j ≤ k → k < length a₀ → Moved a₀ a j k → Moved a₀ (set a k (get_or a (k + 1) 0)) j (k + 1)
moved_more a₀ a j k jk l m = record {
  same = length-set a k (get_or a (k + 1) 0) ∙ m.same;
  below = λ i h. get_or-set_other a k i (get_or a (k + 1) 0) 0 (less i h) ∙ m.below i h;
  moved = λ i h g. at_k i h g (ltb i k) (ltb→lt i k) (nltb→le i k);
  above = λ i h. get_or-set_other a k i (get_or a (k + 1) 0) 0 (more i h) ∙ m.above i (trim i h);
}
  where
    less : (i : ℕ) → i < j → i ≡ k → ⊥
    less i h e = omega arith

    more : (i : ℕ) → k + 1 ≤ i → i ≡ k → ⊥
    more i h e = omega arith

    trim : (i : ℕ) → k + 1 ≤ i → k ≤ i
    trim i h = omega arith

    below_k : (i : ℕ) → i < k → i ≡ k → ⊥
    below_k i h e = omega arith

    is_k : (i : ℕ) → k ≤ i → i < k + 1 → i ≡ k
    is_k i h g = omega arith

    there : k < length a
    there = omega (arith, m.same)

    at_k : (i : ℕ) → j ≤ i → i < k + 1 → (b : Bool) → (T b → i < k) → (T (not b) → k ≤ i) → get_or (set a k (get_or a (k + 1) 0)) i 0 ≡ get_or a₀ (i + 1) 0
    at_k i h g true p q = get_or-set_other a k i (get_or a (k + 1) 0) 0 (below_k i (p tt)) ∙ m.moved i h (p tt)
    at_k i h g false p q =
        let e = is_k i (q tt) g in
        ap (λ (z : ℕ). get_or (set a k (get_or a (k + 1) 0)) z 0) e ∙ get_or-set_same a k (get_or a (k + 1) 0) 0 there ∙ m.above (k + 1) (omega arith) ∙ ap (λ (z : ℕ). get_or a₀ (z + 1) 0) (sym e)

pub moved_all : (a₀ a : List ℕ) (j n : ℕ) → j < n → n ≤ length a₀ → Moved a₀ a j (n - 1) → take (n - 1) a ≡ take j a₀ ++ drop (j + 1) (take n a₀)
moved_all a₀ a j n jn na m = ext_get_or 0 (take (n - 1) a) (take j a₀ ++ drop (j + 1) (take n a₀)) lengths (λ i h. at i (index i h) (ltb i j) (ltb→lt i j) (nltb→le i j))
  where
    tj : length (take j a₀) ≡ j
    tj = length-take-le j a₀ (omega arith)

    tn : length (take n a₀) ≡ n
    tn = length-take-le n a₀ na

    lengths : length (take (n - 1) a) ≡ length (take j a₀ ++ drop (j + 1) (take n a₀))
    lengths = omega (arith, length-take-le (n - 1) a (omega (arith, m.same)), length-append (take j a₀) (drop (j + 1) (take n a₀)), tj, length-drop (j + 1) (take n a₀), tn)

    index : (i : ℕ) → i < length (take (n - 1) a) → i < n - 1
    index i h = omega (arith, length-take-le (n - 1) a (omega (arith, m.same)))

    at : (i : ℕ) → i < n - 1 → (b : Bool) → (T b → i < j) → (T (not b) → j ≤ i) → get_or (take (n - 1) a) i 0 ≡ get_or (take j a₀ ++ drop (j + 1) (take n a₀)) i 0
    at i h true p q =
        get_or-take (n - 1) a i 0 h ∙ m.below i (p tt) ∙ sym (get_or-take j a₀ i 0 (p tt))
        ∙ sym (get_or-append (take j a₀) (drop (j + 1) (take n a₀)) 0 i (subst (λ (z : ℕ). i < z) (sym tj) (p tt)))
    at i h false p q =
        let e : length (take j a₀) + (i - j) ≡ i = omega (arith, tj, q tt) in
        let f : j + 1 + (i - j) ≡ i + 1 = omega (arith, q tt) in
        get_or-take (n - 1) a i 0 h ∙ m.moved i (q tt) h
        ∙ sym (get_or-take n a₀ (i + 1) 0 (omega arith))
        ∙ ap (λ (z : ℕ). get_or (take n a₀) z 0) (sym f)
        ∙ sym (get_or-drop (j + 1) (take n a₀) (i - j) 0)
        ∙ sym (get_or-append-add (take j a₀) (drop (j + 1) (take n a₀)) (i - j) 0)
        ∙ ap (λ (z : ℕ). get_or (take j a₀ ++ drop (j + 1) (take n a₀)) z 0) e

-- what stands after them stays
pub moved_rest : (a₀ a : List ℕ) (j n : ℕ) → j < n → Moved a₀ a j (n - 1) → drop n a ≡ drop n a₀
moved_rest a₀ a j n jn m =
    ext_get_or 0 (drop n a) (drop n a₀) (omega (arith, length-drop n a, length-drop n a₀, m.same))
    (λ i h. get_or-drop n a i 0 ∙ m.above (n + i) (later i) ∙ sym (get_or-drop n a₀ i 0))
  where
    later : (i : ℕ) → n - 1 ≤ n + i
    later i = omega arith

-- ---- a is a₀ with k places from `from` on copied to `to`

module _ (a₀ : List ℕ) (from to n : ℕ) (fits : (from + n ≤ length a₀) × (to + n ≤ length a₀)) (apart : (from + n ≤ to) ⊎ (to + n ≤ from)) where
  pub record Copied (a : List ℕ) (k : ℕ) : Type 0 where
    pub same : length a ≡ length a₀
    pub most : k ≤ n
    pub copied : (i : ℕ) → i < k → get_or a (to + i) 0 ≡ get_or a₀ (from + i) 0
    pub before : (i : ℕ) → i < to → get_or a i 0 ≡ get_or a₀ i 0
    pub after : (i : ℕ) → to + k ≤ i → get_or a i 0 ≡ get_or a₀ i 0

  pub copy_starts : Copied a₀ 0
  copy_starts = record { same = refl; most = omega arith; copied = λ i h. absurd (none i h); before = λ i h. refl; after = λ i h. refl }
    where
      none : (i : ℕ) → i < 0 → ⊥
      none i h = omega arith

  source : (a : List ℕ) (k : ℕ) → Copied a k → k < n → get_or a (from + k) 0 ≡ get_or a₀ (from + k) 0
  source a k c h = go apart
    where
      go : (from + n ≤ to) ⊎ (to + n ≤ from) → get_or a (from + k) 0 ≡ get_or a₀ (from + k) 0
      go (inl e) = c.before (from + k) (omega arith)
      go (inr e) = c.after (from + k) (omega arith)

  pub copy_turns : {a : List ℕ} {k : ℕ} → Copied a k → k < n → Copied (set a (to + k) (get_or a (from + k) 0)) (k + 1)
  copy_turns {a} {k} c h =
      let v = get_or a (from + k) 0 in
      record {
        same = length-set a (to + k) v ∙ c.same;
        most = omega arith;
        copied = λ i g. at i g (ltb i k) (ltb→lt i k) (nltb→le i k);
        before = λ i g. get_or-set_other a (to + k) i v 0 (less i g) ∙ c.before i g;
        after = λ i g. get_or-set_other a (to + k) i v 0 (more i g) ∙ c.after i (trim i g);
      }
    where
      less : (i : ℕ) → i < to → i ≡ to + k → ⊥
      less i g e = omega arith

      more : (i : ℕ) → to + (k + 1) ≤ i → i ≡ to + k → ⊥
      more i g e = omega arith

      trim : (i : ℕ) → to + (k + 1) ≤ i → to + k ≤ i
      trim i g = omega arith

      other : (i : ℕ) → i < k → to + i ≡ to + k → ⊥
      other i g e = omega arith

      is_k : (i : ℕ) → i < k + 1 → k ≤ i → i ≡ k
      is_k i g f = omega arith

      there : to + k < length a
      there = omega (arith, c.same, fits.1)

      at : (i : ℕ) → i < k + 1 → (b : Bool) → (T b → i < k) → (T (not b) → k ≤ i) → get_or (set a (to + k) (get_or a (from + k) 0)) (to + i) 0 ≡ get_or a₀ (from + i) 0
      at i g true p q = get_or-set_other a (to + k) (to + i) (get_or a (from + k) 0) 0 (other i (p tt)) ∙ c.copied i (p tt)
      at i g false p q =
          let e = is_k i g (q tt) in
          ap (λ (z : ℕ). get_or (set a (to + k) (get_or a (from + k) 0)) (to + z) 0) e ∙ get_or-set_same a (to + k) (get_or a (from + k) 0) 0 there ∙ source a k c h
          ∙ ap (λ (z : ℕ). get_or a₀ (from + z) 0) (sym e)

  pub copy_ends : {a : List ℕ} {k : ℕ} → Copied a k → n ≤ k → (take n (drop to a) ≡ take n (drop from a₀)) × (take to a ≡ take to a₀)
  copy_ends {a} {k} c h =
      let l = length-drop to a in
      let l₀ = length-drop from a₀ in
      let x = length-take-le n (drop to a) (omega (arith, c.same, fits.1)) in
      let y = length-take-le n (drop from a₀) (omega (arith, fits.0)) in
      let u = length-take-le to a (omega (arith, c.same, fits.1)) in
      let v = length-take-le to a₀ (omega (arith, fits.1)) in (
        ext_get_or 0 (take n (drop to a)) (take n (drop from a₀)) (omega arith)
            (λ i g. let s : i < n = omega arith in
            get_or-take n (drop to a) i 0 s ∙ get_or-drop to a i 0 ∙ c.copied i (omega arith) ∙ sym (get_or-drop from a₀ i 0) ∙ sym (get_or-take n (drop from a₀) i 0 s)),
        ext_get_or 0 (take to a) (take to a₀) (omega arith)
            (λ i g. let s : i < to = omega arith in get_or-take to a i 0 s ∙ c.before i s ∙ sym (get_or-take to a₀ i 0 s)),
      )
