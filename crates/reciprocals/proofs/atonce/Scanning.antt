-- The pass from the left that writes settled words: a marked place is written as its name and skipped, a division whose divisor is marked as a Mul, and
-- any other word as it is. What is still to write is told by a place alone. Assumes nothing.
use Prim.Native.Nat.{ℕ, suc, ◌+◌, ◌≤◌, ◌<◌}
use mathlib.Core.Path.{◌≡◌, refl, sym, ◌∙◌, ap, ap₂}
use mathlib.Core.Bool.{true, false}
use mathlib.Core.Option.{Option, none, some}
use mathlib.Core.List.{List, [], ◌∷◌, ◌++◌, append-nil, map}
use lib.ListN.{length, get_or}
use Rattle.spec_tree.specs.Tree.{Name, Tree, Sym}
use Rattle.spec_tree.specs.Facts.{size}
use Rattle.spec_tree.specs.Tokens.{tokens, all_tokens, read, numbered, takes, trees_in}
use Rattle.laws.specs.positions.Places.{numbered_at, second_at}
use Rattle.words.specs.words.Words.{number}
use Rattle.reciprocals.specs.atonce.Dividing.{settled}
use Rattle.reciprocals.specs.atonce.Places.{places_from, operand_places, rule_at, replaced_at}
use Rattle.reciprocals.proofs.atonce.Writing.{all_out, remaining as to_come, remaining_past, remaining_inside, remaining_starts, remaining_ends}
use Rattle.reciprocals.proofs.atonce.DividingAt.{settled_at, words_at, words_replaced, words_kept, all_settled_at}

module _ (ws : List ℕ) (n : ℕ) (complete : trees_in ws ≡ some n) where
  module _ (rank : Tree → Option ℕ) (m s : ℕ) (name : ℕ → Name) (mark : ℕ → Option ℕ) where
    abbrev settled_words : ℕ → List ℕ
    settled_words = words_at rank m s ws n complete name

    unfoldable pub written : ℕ → List ℕ
    written q = elim (mark q) [ none ↦ settled_words q | some k ↦ tokens number (Sym (name k)) ]

    abbrev pub remaining : ℕ → List ℕ
    remaining = to_come ws n complete written

    abbrev all_written : List ℕ → List ℕ
    all_written = all_out ws n complete written

    is_marked : (q k : ℕ) → mark q ≡ some k → written q ≡ tokens number (Sym (name k))
    unfolding written
    is_marked q k e = ap (λ (o : Option ℕ). elim o as (λ _. List ℕ) [ none ↦ settled_words q | some k ↦ tokens number (Sym (name k)) ]) e

    unmarked : (q : ℕ) → mark q ≡ none → written q ≡ settled_words q
    unfolding written
    unmarked q e = ap (λ (o : Option ℕ). elim o as (λ _. List ℕ) [ none ↦ settled_words q | some k ↦ tokens number (Sym (name k)) ]) e

    abbrev pub Unmarked : List ℕ → Type 0
    Unmarked [] = Unit {0}
    Unmarked (q ∷ l) = (mark q ≡ none) × Unmarked l

    all_unmarked : (l : List ℕ) → Unmarked l → all_written l ≡ all_tokens number (map (settled_at rank m s ws n complete name) l)
    unfolding all_out all_tokens words_at
    all_unmarked [] h = refl
    all_unmarked (q ∷ l) h = ap₂ (λ (a b : List ℕ). a ++ b) (unmarked q h.0) (all_unmarked l h.1)

    -- ---- one step of the pass

    -- a marked place is its name
    pub scan_marked : (p k : ℕ) → p < length ws → mark p ≡ some k → remaining p ≡ tokens number (Sym (name k)) ++ remaining (p + size (numbered_at ws p))
    scan_marked p k h e = remaining_past ws n complete written p h ∙ ap (λ (l : List ℕ). l ++ remaining (p + size (numbered_at ws p))) (is_marked p k e)

    -- a node that is kept is its word, and the pass goes into it
    pub scan_kept :
        (p : ℕ) → p < length ws → mark p ≡ none → replaced_at rank m s ws p ≡ false → Unmarked (operand_places ws p) → remaining p ≡ get_or ws p 0 ∷ remaining (suc p)
    scan_kept p h e r u =
        remaining_past ws n complete written p h
        ∙ (ap (λ (l : List ℕ). l ++ remaining (p + size (numbered_at ws p)))
        (unmarked p e ∙ (words_kept rank m s ws n complete name p h r ∙ ap (λ (l : List ℕ). get_or ws p 0 ∷ l) (sym (all_unmarked (operand_places ws p) u))))
        ∙ ap (λ (l : List ℕ). get_or ws p 0 ∷ l) (sym (remaining_inside ws n complete written p h)))

    two_operands : (p : ℕ) → takes (get_or ws p 0) ≡ 2 → operand_places ws p ≡ suc p ∷ second_at ws p ∷ []
    unfolding operand_places places_from second_at
    two_operands p e = ap (λ (k : ℕ). places_from ws k (suc p)) e

    pair_written : (a b : List ℕ) (q r : ℕ) (l : List ℕ) → written q ≡ a → written r ≡ b → l ≡ q ∷ r ∷ [] → all_written l ≡ a ++ b
    unfolding all_out
    pair_written a b q r l e f g =
        ap all_written g ∙ (ap₂ (λ (x y : List ℕ). x ++ (y ++ [])) e f ∙ ap (λ (x : List ℕ). a ++ x) (append-nil b))

    -- a division that is replaced is the word of a Mul, and its divisor is marked
    pub scan_replaced :
        (p : ℕ) → p < length ws → mark p ≡ none → replaced_at rank m s ws p ≡ true → takes (get_or ws p 0) ≡ 2 → mark (suc p) ≡ none
        → mark (second_at ws p) ≡ some (rule_at rank m s ws (second_at ws p)) → remaining p ≡ 133 ∷ remaining (suc p)
    scan_replaced p h e r two u v =
        let k = rule_at rank m s ws (second_at ws p) in
        let both : all_written (operand_places ws p) ≡ settled_words (suc p) ++ tokens number (Sym (name k)) =
        pair_written (settled_words (suc p)) (tokens number (Sym (name k))) (suc p) (second_at ws p) (operand_places ws p) (unmarked (suc p) u) (is_marked (second_at ws p) k v) (two_operands p two) in
        remaining_past ws n complete written p h
        ∙ (ap (λ (l : List ℕ). l ++ remaining (p + size (numbered_at ws p)))
        (unmarked p e ∙ (words_replaced rank m s ws n complete name p h r ∙ ap (λ (l : List ℕ). 133 ∷ l) (sym both)))
        ∙ ap (λ (l : List ℕ). 133 ∷ l) (sym (remaining_inside ws n complete written p h)))

    -- ---- the pass begins with all, and ends with nothing

    pub scan_starts : Unmarked (places_from ws n 0) → remaining 0 ≡ all_tokens number (map (settled rank m s name) (read numbered ws))
    scan_starts u =
        remaining_starts ws n complete written
        ∙ (all_unmarked (places_from ws n 0) u ∙ ap (all_tokens number) (sym (all_settled_at rank m s ws n complete name)))

    pub scan_ends : (p : ℕ) → length ws ≤ p → remaining p ≡ []
    scan_ends = remaining_ends ws n complete written
