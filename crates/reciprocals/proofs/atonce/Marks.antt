-- The marks that the pass from the right leaves: a place is marked exactly where it is the divisor of a division that is replaced. So the pass from the
-- left finds the marks that it needs (Scanning), since no place is an operand of two nodes. Assumes nothing.
use Prim.Native.Nat.{ℕ, zero, suc, ◌+◌, ◌-◌, ◌≤◌, ◌<◌}
use native.Mathlib.Omega.{arith}
use mathlib.Core.Path.{◌≡◌, refl, sym, ◌∙◌, ap, subst}
use mathlib.Core.Bool.{Bool, true, false, ◌&&◌}
use mathlib.Core.Option.{Option, none, some}
use mathlib.Core.List.{List, [], ◌∷◌, ◌++◌, map}
use lib.ListN.{length, get_or}
use lib.Dec.{T, eqb, leb, ltb, eqb→eq, leb→le, eqb_refl}
use Rattle.spec_tree.proofs.Tests.{is_true}
use Rattle.spec_tree.specs.Tree.{Name, Tree, Sym}
use Rattle.spec_tree.specs.Kinds.{Div}
use Rattle.spec_tree.specs.Facts.{size}
use Rattle.spec_tree.specs.Tokens.{read, numbered, kind_of, takes, trees_in, all_tokens, tokens}
use Rattle.spec_tree.proofs.FactLaws.{size_one}
use Rattle.spec_tree.proofs.Logic.{and_left, and_right, and_both}
use Rattle.spec_tree.proofs.TokenLaws.{complete_length}
use Rattle.laws.specs.positions.Places.{numbered_at, divides_at, second_at}
use Rattle.words.specs.words.Words.{number}
use Rattle.reciprocals.specs.atonce.Dividing.{settled}
use Rattle.reciprocals.specs.atonce.Places.{places_from, operand_places, rule_at, change_at, replaced_at}
use Rattle.reciprocals.proofs.atonce.Bits.{is_false, either}
use Rattle.reciprocals.proofs.atonce.Ends.{roots, roots_inside, past, past_operands, ends, ends_append, ends_least, nests, operand_inside}
use Rattle.reciprocals.proofs.atonce.Scanning.{Unmarked, remaining, scan_starts, scan_marked, scan_kept, scan_replaced, scan_ends}

module _ (ws : List ℕ) (n : ℕ) (complete : trees_in ws ≡ some n) where
  abbrev ends_at : ℕ → ℕ → ℕ
  ends_at = ends ws n complete

  -- a division's second operand stands after it and before its end
  second_after : (i : ℕ) → i < second_at ws i
  unfolding second_at
  second_after i = omega arith

  second_before : (i : ℕ) → i < length ws → T (divides_at ws i) → second_at ws i < i + size (numbered_at ws i)
  unfolding second_at divides_at
  second_before i h t =
      (let a = takes (get_or ws i 0) in
      let two = leb→le 2 a (and_right (eqb (kind_of (get_or ws i 0)) Div) (leb 2 a) t) in
      let z : 2 + (a - 2) ≡ a = omega arith in
      let e : ends_at a (suc i) ≡ i + size (numbered_at ws i) = past_operands ws n complete i h in
      let x : ends_at (2 + (a - 2)) (suc i) ≡ ends_at a (suc i) = ap (λ (k : ℕ). ends_at k (suc i)) z in
      let y = ends_append ws n complete 2 (a - 2) (suc i) in
      let r = suc i + size (numbered_at ws (suc i)) in
      let u : ends_at 2 (suc i) ≡ r + size (numbered_at ws r) = (unfold past in refl) in
      let v = ends_least ws n complete (a - 2) (ends_at 2 (suc i)) in
      let one = size_one (numbered_at ws r) in
      omega arith)

  -- it is the place of no tree among those from o on, if the division is one of these or inside one
  not_among : (o j i : ℕ) → j ≤ roots ws n complete o → o ≤ i → i < length ws → T (divides_at ws i) → second_at ws i ≡ ends_at j o → ⊥
  not_among o j i h l there t e =
      either (ends_at j o) i ⊥ (λ q. (let a = second_after i in omega arith))
      (λ q. (let a = nests ws n complete o j i h l q in let b = second_before i there t in omega arith))

  -- ---- the marks

  module _ (rank : Tree → Option ℕ) (m s : ℕ) where
    -- by the divisions among c places from i on
    unfoldable pub marked_from : ℕ → ℕ → ℕ → Option ℕ
    unfolding replaced_at second_at rule_at
    marked_from zero i q = none
    marked_from (suc c) i q = elim (replaced_at rank m s ws i && eqb (second_at ws i) q) [ true ↦ some (rule_at rank m s ws q) | false ↦ marked_from c (suc i) q ]

    abbrev pub mark : ℕ → Option ℕ
    mark q = marked_from (length ws) 0 q

    found_from : (c i p : ℕ) → i ≤ p → p < i + c → T (replaced_at rank m s ws p) → marked_from c i (second_at ws p) ≡ some (rule_at rank m s ws (second_at ws p))
    unfolding marked_from
    found_from zero i p l h t = absurd (omega arith)
    found_from (suc c) i p l h t =
        either p i (elim (replaced_at rank m s ws i && eqb (second_at ws i) (second_at ws p)) as (λ _. Option ℕ) [ true ↦ some (rule_at rank m s ws (second_at ws p)) | false ↦ marked_from c (suc i) (second_at ws p) ] ≡ some (rule_at rank m s ws (second_at ws p)))
        (λ q. (let e : p ≡ i = omega arith in
        here (replaced_at rank m s ws i && eqb (second_at ws i) (second_at ws p))
        (and_both (replaced_at rank m s ws i) (eqb (second_at ws i) (second_at ws p)) (subst (λ (x : ℕ). T (replaced_at rank m s ws x)) e t)
        (subst (λ (x : ℕ). T (eqb (second_at ws x) (second_at ws p))) e (eqb_refl (second_at ws p))))))
        (λ q. later (replaced_at rank m s ws i && eqb (second_at ws i) (second_at ws p)) (found_from c (suc i) p (omega arith) (omega arith) t))
      where
        here : (b : Bool) → T b → ◌≡◌ {A = Option ℕ} (elim b [ true ↦ some (rule_at rank m s ws (second_at ws p)) | false ↦ marked_from c (suc i) (second_at ws p) ]) (some (rule_at rank m s ws (second_at ws p)))
        here true u = refl
        here false u = absurd u

        later : (b : Bool) → marked_from c (suc i) (second_at ws p) ≡ some (rule_at rank m s ws (second_at ws p))
            → ◌≡◌ {A = Option ℕ} (elim b [ true ↦ some (rule_at rank m s ws (second_at ws p)) | false ↦ marked_from c (suc i) (second_at ws p) ]) (some (rule_at rank m s ws (second_at ws p)))
        later true e = refl
        later false e = e

    -- the divisor of a division that is replaced
    pub divisor_marked : (p : ℕ) → p < length ws → T (replaced_at rank m s ws p) → mark (second_at ws p) ≡ some (rule_at rank m s ws (second_at ws p))
    divisor_marked p h t = found_from (length ws) 0 p (omega arith) (omega arith) t

    none_from : (c i q : ℕ) → ((p : ℕ) → p < i + c → T (replaced_at rank m s ws p) → second_at ws p ≡ q → ⊥) → marked_from c i q ≡ none
    unfolding marked_from
    none_from zero i q f = refl
    none_from (suc c) i q f =
        ap (λ (b : Bool). elim b as (λ _. Option ℕ) [ true ↦ some (rule_at rank m s ws q) | false ↦ marked_from c (suc i) q ])
        (is_false (replaced_at rank m s ws i && eqb (second_at ws i) q)
        (λ t. f i (omega arith) (and_left (replaced_at rank m s ws i) (eqb (second_at ws i) q) t) (eqb→eq (second_at ws i) q (and_right (replaced_at rank m s ws i) (eqb (second_at ws i) q) t))))
        ∙ none_from c (suc i) q (λ p h t e. f p (omega arith) t e)

    unmarked_by : (q : ℕ) → ((p : ℕ) → p < length ws → T (replaced_at rank m s ws p) → second_at ws p ≡ q → ⊥) → mark q ≡ none
    unmarked_by q f = none_from (length ws) 0 q (λ p h t e. f p (omega arith) t e)

    divides : (p : ℕ) → T (replaced_at rank m s ws p) → T (divides_at ws p)
    unfolding replaced_at
    divides p t = and_left (divides_at ws p) (ltb (rule_at rank m s ws (second_at ws p)) (change_at rank m s ws (second_at ws p))) t

    -- ---- no root is marked

    root_unmarked : (j : ℕ) → j < n → mark (ends_at j 0) ≡ none
    root_unmarked j h =
        let r : roots ws n complete 0 ≡ n = (unfold roots in complete_length numbered ws n complete) in
        unmarked_by (ends_at j 0) (λ i there t e. not_among 0 j i (omega arith) (omega arith) there (divides i t) e)

    -- ---- of a node's operands only the divisor of a division that is replaced

    operand_unmarked :
        (p : ℕ) → p < length ws → (j : ℕ) → j < takes (get_or ws p 0) → (T (replaced_at rank m s ws p) → second_at ws p ≡ ends_at j (suc p) → ⊥) → mark (ends_at j (suc p)) ≡ none
    operand_unmarked p there j h own =
        let r = roots_inside ws n complete p there in
        unmarked_by (ends_at j (suc p))
        (λ i l t e.
        either (suc p) i ⊥ (λ q. not_among (suc p) j i (omega arith) q l (divides i t) e)
        (λ q. either p i ⊥ (λ x. (let z : i ≡ p = omega arith in own (subst (λ (y : ℕ). T (replaced_at rank m s ws y)) z t) (ap (second_at ws) (sym z) ∙ e)))
        (λ x. before i x l t e)))
      where
        inside : ends_at j (suc p) < p + size (numbered_at ws p)
        inside = operand_inside ws n complete p there j h

        -- a division before p holds p in its first operand, so that this ends past p
        before : (i : ℕ) → i < p → i < length ws → T (replaced_at rank m s ws i) → second_at ws i ≡ ends_at j (suc p) → ⊥
        before i x l t e =
            (let s : second_at ws i ≡ suc i + size (numbered_at ws (suc i)) = (unfold second_at in refl) in
            let u : ends_at 1 (suc i) ≡ suc i + size (numbered_at ws (suc i)) = (unfold past in refl) in
            let g = ends_least ws n complete j (suc p) in
            let r = roots_inside ws n complete i l in
            let two = enough_two i (divides i t) in
            let a = nests ws n complete (suc i) 1 p (omega (arith, r, two)) (omega arith) (omega (arith, s, u, g, e)) in
            omega (arith, s, u, a, e, inside))
          where
            enough_two : (i : ℕ) → T (divides_at ws i) → 2 ≤ takes (get_or ws i 0)
            enough_two i t = (unfold divides_at in leb→le 2 (takes (get_or ws i 0)) (and_right (eqb (kind_of (get_or ws i 0)) Div) (leb 2 (takes (get_or ws i 0))) t))

    -- ---- the pass from the left, with these marks

    module _ (name : ℕ → Name) where
      abbrev pub to_write : ℕ → List ℕ
      to_write = remaining ws n complete rank m s name mark

      each_unmarked : (k o : ℕ) → ((j : ℕ) → j < k → mark (ends_at j o) ≡ none) → Unmarked ws n complete rank m s name mark (places_from ws k o)
      unfolding places_from past
      each_unmarked zero o f = tt
      each_unmarked (suc k) o f = (f 0 (omega arith), each_unmarked k (o + size (numbered_at ws o)) (λ j h. f (suc j) (omega arith)))

      kept_unmarked : (p : ℕ) → p < length ws → replaced_at rank m s ws p ≡ false → Unmarked ws n complete rank m s name mark (operand_places ws p)
      unfolding operand_places
      kept_unmarked p h e = each_unmarked (takes (get_or ws p 0)) (suc p) (λ j l. operand_unmarked p h j l (λ t q. subst T e t))

      -- all of the settled words
      pub pass_starts : to_write 0 ≡ all_tokens number (map (settled rank m s name) (read numbered ws))
      pass_starts = scan_starts ws n complete rank m s name mark (each_unmarked n 0 root_unmarked)

      -- a marked place is its name
      pub pass_marked : (p k : ℕ) → p < length ws → mark p ≡ some k → to_write p ≡ tokens number (Sym (name k)) ++ to_write (p + size (numbered_at ws p))
      pass_marked = scan_marked ws n complete rank m s name mark

      -- a division that is replaced is the word of a Mul
      pub pass_replaced : (p : ℕ) → p < length ws → mark p ≡ none → T (replaced_at rank m s ws p) → takes (get_or ws p 0) ≡ 2 → to_write p ≡ 133 ∷ to_write (suc p)
      pass_replaced p h e t two =
          scan_replaced ws n complete rank m s name mark p h e (is_true (replaced_at rank m s ws p) t) two
          (first (operand_unmarked p h 0 (omega arith) (λ u q. (let a = zero_ends in let b = second_past in omega arith)))) (divisor_marked p h t)
        where
          zero_ends : ends_at 0 (suc p) ≡ suc p
          zero_ends = (unfold past in refl)

          second_past : suc p < second_at ws p
          second_past = (let s : second_at ws p ≡ suc p + size (numbered_at ws (suc p)) = (unfold second_at in refl) in let one = size_one (numbered_at ws (suc p)) in omega arith)

          first : mark (ends_at 0 (suc p)) ≡ none → mark (suc p) ≡ none
          first e = subst (λ (q : ℕ). mark q ≡ none) zero_ends e

      -- any other word stays
      pub pass_kept : (p : ℕ) → p < length ws → mark p ≡ none → replaced_at rank m s ws p ≡ false → to_write p ≡ get_or ws p 0 ∷ to_write (suc p)
      pass_kept p h e r = scan_kept ws n complete rank m s name mark p h e r (kept_unmarked p h r)

      pub pass_ends : (p : ℕ) → length ws ≤ p → to_write p ≡ []
      pass_ends = scan_ends ws n complete rank m s name mark

    -- whether a division is replaced can be seen from its divisor's mark
    pub divisor_unmarked : (p : ℕ) → p < length ws → T (divides_at ws p) → replaced_at rank m s ws p ≡ false → mark (second_at ws p) ≡ none
    unfolding divides_at
    divisor_unmarked p h t e =
        let two = leb→le 2 (takes (get_or ws p 0)) (and_right (eqb (kind_of (get_or ws p 0)) Div) (leb 2 (takes (get_or ws p 0))) t) in
        second (operand_unmarked p h 1 (omega arith) (λ u q. subst T e u))
      where
        place : ends_at 1 (suc p) ≡ second_at ws p
        place = (unfold past second_at in refl)

        second : mark (ends_at 1 (suc p)) ≡ none → mark (second_at ws p) ≡ none
        second e = subst (λ (q : ℕ). mark q ≡ none) place e
