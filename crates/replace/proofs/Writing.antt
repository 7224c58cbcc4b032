-- Words written at a place: a word again and again, and what stands before the factors of a product. Assumes nothing.
use Rattle.std.proofs.Common.{◌≡◌, ℕ, zero, suc, replicate, ◌+◌, ◌*◌, ◌<◌, Bool, true, false, eqb, List, [], ◌∷◌, ◌++◌, length, take, drop, set, sym, refl, ap, ◌∙◌, ap₂, append_assoc, arith, length-append, drop-set-lt, eq-eqb, ne_eqb}
use Rattle.replace.specs.replacing.Replacing.{repeated, coefficient_words, head_words}
use Rattle.replace.proofs.replacing.Products.{repeated_long}

-- ---- a word again and again

-- a word n times, by the library's word
pub repeated_is : (n w : ℕ) → replicate n w ≡ repeated n w
unfolding repeated
repeated_is zero w = refl
repeated_is (suc n) w = ap (λ (l : List ℕ). w ∷ l) (repeated_is n w)

-- ---- before the factors

module _ (code signs : ℕ) (old : List ℕ) where
  abbrev Headed : ℕ → List ℕ → Type 0
  Headed r out = (r ≡ length (head_words code signs)) × (out ≡ head_words code signs ++ drop (length (head_words code signs)) old)

  headed : (c : List ℕ) (n : ℕ) (out : List ℕ) → coefficient_words code ≡ c → n ≡ length c + signs → out ≡ c ++ (repeated signs 133 ++ drop n old) → Headed n out
  unfolding head_words
  headed c n out e f g =
      let l : length (coefficient_words code ++ repeated signs 133) ≡ n = length-append (coefficient_words code) (repeated signs 133) ∙ omega (arith, ap length e, repeated_long signs 133) in (
        sym l,
        g ∙ ap (λ (x : List ℕ). x ++ (repeated signs 133 ++ drop n old)) (sym e) ∙ sym (append_assoc (coefficient_words code) (repeated signs 133) (drop n old))
            ∙ ap (λ (k : ℕ). (coefficient_words code ++ repeated signs 133) ++ drop k old) (sym l),
      )

  pub head_one : code ≡ 2 → (out : List ℕ) → out ≡ take 0 old ++ (repeated signs 133 ++ drop (0 + signs) old) → Headed signs out
  unfolding coefficient_words
  head_one e out g =
      let z : 0 + signs ≡ signs = omega arith in
      headed [] signs out (ap (λ (b : Bool). elim b as (λ _. List ℕ) [ true ↦ [] | false ↦ elim (eqb code 1) [ true ↦ 66 ∷ [] | false ↦ 133 ∷ (1 + 64 * code) ∷ [] ] ]) (eq-eqb code 2 e))
      (omega arith) (g ∙ ap (λ (k : ℕ). repeated signs 133 ++ drop k old) z)

  pub head_minus :
      (code ≡ 2 → ⊥) → code ≡ 1 → 0 < length old → (out : List ℕ) → out ≡ take 1 (set old 0 66) ++ (repeated signs 133 ++ drop (1 + signs) (set old 0 66)) → Headed (1 + signs) out
  unfolding coefficient_words
  head_minus n e h out g =
      headed (66 ∷ []) (1 + signs) out
      (ap₂ (λ (b d : Bool). elim b as (λ _. List ℕ) [ true ↦ [] | false ↦ elim d [ true ↦ 66 ∷ [] | false ↦ 133 ∷ (1 + 64 * code) ∷ [] ] ]) (ne_eqb code 2 n) (eq-eqb code 1 e))
      refl
      (g ∙ ap₂ (λ (a b : List ℕ). a ++ (repeated signs 133 ++ b)) (first old h) (drop-set-lt (1 + signs) old 0 66 (omega arith)))
    where
      first : (l : List ℕ) → 0 < length l → take 1 (set l 0 66) ≡ 66 ∷ []
      first [] h = absurd (omega arith)
      first (x ∷ l) h = refl

  pub head_other :
      (code ≡ 2 → ⊥) → (code ≡ 1 → ⊥) → 1 < length old → (v : ℕ) → v ≡ 1 + 64 * code → (out : List ℕ)
      → out ≡ take 2 (set (set old 0 133) 1 v) ++ (repeated signs 133 ++ drop (2 + signs) (set (set old 0 133) 1 v)) → Headed (2 + signs) out
  unfolding coefficient_words
  head_other n m h v q out g =
      headed (133 ∷ (1 + 64 * code) ∷ []) (2 + signs) out
      (ap₂ (λ (b d : Bool). elim b as (λ _. List ℕ) [ true ↦ [] | false ↦ elim d [ true ↦ 66 ∷ [] | false ↦ 133 ∷ (1 + 64 * code) ∷ [] ] ]) (ne_eqb code 2 n) (ne_eqb code 1 m))
      refl
      (g ∙ ap₂ (λ (a b : List ℕ). a ++ (repeated signs 133 ++ b)) (first old h ∙ ap (λ (x : ℕ). 133 ∷ x ∷ []) q)
      (drop-set-lt (2 + signs) (set old 0 133) 1 v (omega arith) ∙ drop-set-lt (2 + signs) old 0 133 (omega arith)))
    where
      first : (l : List ℕ) → 1 < length l → take 2 (set (set l 0 133) 1 v) ≡ 133 ∷ v ∷ []
      first [] h = absurd (omega arith)
      first (x ∷ []) h = absurd (omega arith)
      first (x ∷ (y ∷ l)) h = refl

  -- the room that is asked
  pub room_minus : (code ≡ 2 → ⊥) → code ≡ 1 → length (head_words code signs) ≡ 1 + signs
  unfolding head_words coefficient_words
  room_minus n e =
      ap₂ (λ (b d : Bool). length (elim b as (λ _. List ℕ) [ true ↦ [] | false ↦ elim d [ true ↦ 66 ∷ [] | false ↦ 133 ∷ (1 + 64 * code) ∷ [] ] ] ++ repeated signs 133)) (ne_eqb code 2 n) (eq-eqb code 1 e)
      ∙ (let l = repeated_long signs 133 in omega arith)

  pub room_one : code ≡ 2 → length (head_words code signs) ≡ signs
  unfolding head_words coefficient_words
  room_one e =
      ap (λ (b : Bool). length (elim b as (λ _. List ℕ) [ true ↦ [] | false ↦ elim (eqb code 1) [ true ↦ 66 ∷ [] | false ↦ 133 ∷ (1 + 64 * code) ∷ [] ] ] ++ repeated signs 133)) (eq-eqb code 2 e)
      ∙ repeated_long signs 133

  pub room_other : (code ≡ 2 → ⊥) → (code ≡ 1 → ⊥) → length (head_words code signs) ≡ 2 + signs
  unfolding head_words coefficient_words
  room_other n m =
      ap₂ (λ (b d : Bool). length (elim b as (λ _. List ℕ) [ true ↦ [] | false ↦ elim d [ true ↦ 66 ∷ [] | false ↦ 133 ∷ (1 + 64 * code) ∷ [] ] ] ++ repeated signs 133)) (ne_eqb code 2 n) (ne_eqb code 1 m)
      ∙ (let l = repeated_long signs 133 in omega arith)
