-- With `display` for the text of a tree the definitions of Shown are those of Extract and Scope. Assumes nothing.
use Prim.Native.Nat.{ℕ, zero, suc, ◌-◌}
use mathlib.Core.Path.{◌≡◌, refl, ◌∙◌, ap, ap₂}
use mathlib.Core.Bool.{Bool, true, false, ◌&&◌}
use mathlib.Core.Option.{Option, none, some}
use mathlib.Core.List.{List, [], ◌∷◌}
use Rattle.spec_tree.specs.Outcome.{Outcome, ok, refused, ◌>>=◌}
use Rattle.spec_tree.specs.Tree.{Tree}
use Rattle.spec_tree.specs.Facts.{all_operations, all_nodes}
use Rattle.spec_tree.specs.text.Text.{display, before}
use Rattle.spec_cse.specs.Extract.{State, roots, is_candidate, Candidate, candidate, beats, best_from, best, extract, rounds, extract_all, divisors, distinct, shared_divisors, insert_by_text, sort_by_text, bind_reciprocals, reciprocals}
use Rattle.laws.specs.positions.Shown.{beats_by, best_from_by, best_by, rounds_by, extract_all_by, insert_by, sort_by, reciprocals_by}

beats_text : (a b : Candidate) → beats_by display a b ≡ beats a b
unfolding beats beats_by
beats_text a b = refl

best_from_text : (scoped : Bool) (rs : List Tree) (o : Option Candidate) (l : List Tree) → best_from_by display scoped rs o l ≡ best_from scoped rs o l
unfolding best_from best_from_by
best_from_text scoped rs none [] = refl
best_from_text scoped rs (some a) [] = refl
best_from_text scoped rs none (e ∷ l) =
    ap₂ (λ (p q : Option Candidate). elim (is_candidate scoped rs e) as (λ _. Option Candidate) [ true ↦ p | false ↦ q ]) (best_from_text scoped rs (some (candidate rs e)) l)
    (best_from_text scoped rs none l)
best_from_text scoped rs (some a) (e ∷ l) =
    ap (λ (b : Bool). elim (is_candidate scoped rs e && b) as (λ _. Option Candidate) [
      | true ↦ best_from_by display scoped rs (some (candidate rs e)) l
      | false ↦ best_from_by display scoped rs (some a) l
    ]) (beats_text a (candidate rs e))
    ∙ ap₂ (λ (p q : Option Candidate). elim (is_candidate scoped rs e && beats a (candidate rs e)) as (λ _. Option Candidate) [ true ↦ p | false ↦ q ])
    (best_from_text scoped rs (some (candidate rs e)) l) (best_from_text scoped rs (some a) l)

pub best_text : (scoped : Bool) (rs : List Tree) → best_by display scoped rs ≡ best scoped rs
unfolding best best_by
best_text scoped rs = best_from_text scoped rs none (all_nodes rs)

round_text :
    (s : State) (f g : State → Outcome State) → ((t : State) → f t ≡ g t) → (o u : Option Candidate) → o ≡ u
    → ◌≡◌ {A = Outcome State} (elim o [ none ↦ ok s | some c ↦ (extract c.tree s >>= λ t. f t) ]) (elim u [ none ↦ ok s | some c ↦ (extract c.tree s >>= λ t. g t) ])
round_text s f g h o u e = rw e (go u)
  where
    then_same : (o : Outcome State) → (o >>= λ t. f t) ≡ (o >>= λ t. g t)
    then_same (ok t) = h t
    then_same (refused i) = refl

    go : (u : Option Candidate)
        → ◌≡◌ {A = Outcome State} (elim u [ none ↦ ok s | some c ↦ (extract c.tree s >>= λ t. f t) ]) (elim u [ none ↦ ok s | some c ↦ (extract c.tree s >>= λ t. g t) ])
    go none = refl
    go (some c) = then_same (extract c.tree s)

rounds_text : (fuel : ℕ) (scoped : Bool) (s : State) → rounds_by display fuel scoped s ≡ rounds fuel scoped s
unfolding rounds rounds_by
rounds_text zero scoped s = refl
rounds_text (suc fuel) scoped s =
    round_text s (λ t. rounds_by display fuel scoped t) (λ t. rounds fuel scoped t) (λ t. rounds_text fuel scoped t) (best_by display scoped (roots s)) (best scoped (roots s))
    (best_text scoped (roots s))

pub extract_all_text : (scoped : Bool) (next : ℕ) (es : List Tree) → extract_all_by display scoped next es ≡ extract_all scoped next es
unfolding extract_all extract_all_by
extract_all_text scoped next es = rounds_text (all_operations es) scoped (record { results = es; lets = []; next = next })

insert_text : (d : Tree) (l : List Tree) → insert_by display d l ≡ insert_by_text d l
unfolding insert_by insert_by_text
insert_text d [] = refl
insert_text d (e ∷ l) =
    ap (λ (r : List Tree). elim (before (display e) (display d)) as (λ _. List Tree) [ true ↦ e ∷ r | false ↦ d ∷ (e ∷ l) ]) (insert_text d l)

sort_text : (l : List Tree) → sort_by display l ≡ sort_by_text l
unfolding sort_by sort_by_text
sort_text [] = refl
sort_text (d ∷ l) = insert_text d (sort_by display l) ∙ ap (insert_by_text d) (sort_text l)

pub reciprocals_text : (scoped : Bool) (s : State) → reciprocals_by display scoped s ≡ reciprocals scoped s
unfolding reciprocals reciprocals_by
reciprocals_text scoped s =
    ap (λ (l : List Tree). bind_reciprocals l s) (sort_text (shared_divisors scoped (roots s) (distinct [] (divisors (all_nodes (roots s))))))
