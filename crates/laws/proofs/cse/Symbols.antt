-- The symbols of trees and the names of statements, as lists and as tests. Assumes nothing.
use mathlib.Core.Path.{◌≡◌, sym, subst}
use mathlib.Core.Logic.{◌⊎◌, inl, inr}
use mathlib.Core.Bool.{Bool, true, false}
use mathlib.Core.List.{List, [], ◌∷◌, ◌++◌}
use lib.Dec.{T}
use Rattle.spec_tree.specs.Tree.{Name, Tree, Forest, Sym, Const, Op, nil, ◌◂◌, folds, eq_name}
use Rattle.spec_tree.proofs.TreeLaws.{eq_name_sound, eq_name_refl}
use Rattle.spec_cse.specs.Answer.{Intermediate, names, concat, symbols, all_symbols, elem}
use Rattle.spec_tree.proofs.Logic.{and_left, and_right, and_both}
use Rattle.spec_rewrite.proofs.Names.{holds, holds_each, holds_all}

-- ---- tests

-- a test is passed or not
pub decide : (b : Bool) → T b ⊎ (T b → ⊥)
decide true = inl tt
decide false = inr (λ t. t)

-- ---- symbols as a list, and as a test

pub elem_cases : (n s : Name) (l : List Name) → T (elem n (s ∷ l)) → (s ≡ n) ⊎ T (elem n l)
unfolding elem
elem_cases n s l t = go (eq_name s n) (eq_name_sound s n) t
  where
    go : (b : Bool) → (T b → s ≡ n) → T (elim b [ true ↦ true | false ↦ elem n l ]) → (s ≡ n) ⊎ T (elem n l)
    go true f t = inl (f tt)
    go false f t = inr t

pub elem_here : (n : Name) (l : List Name) → T (elem n (n ∷ l))
unfolding elem
elem_here n l = go (eq_name n n) (eq_name_refl n)
  where
    go : (b : Bool) → T b → T (elim b [ true ↦ true | false ↦ elem n l ])
    go true t = tt
    go false t = absurd t

pub elem_later : (n s : Name) (l : List Name) → T (elem n l) → T (elem n (s ∷ l))
unfolding elem
elem_later n s l t = go (eq_name s n)
  where
    go : (b : Bool) → T (elim b [ true ↦ true | false ↦ elem n l ])
    go true = tt
    go false = t

pub elem_left : (n : Name) (s t : List Name) → T (elem n s) → T (elem n (s ++ t))
elem_left n [] t h = absurd (unfold elem in h)
elem_left n (x ∷ s) t h =
    elim (elem_cases n x s h) [ inl e ↦ subst (λ (y : Name). T (elem n (y ∷ (s ++ t)))) (sym e) (elem_here n (s ++ t)) | inr u ↦ elem_later n x (s ++ t) (elem_left n s t u) ]

pub elem_right : (n : Name) (s t : List Name) → T (elem n t) → T (elem n (s ++ t))
elem_right n [] t h = h
elem_right n (x ∷ s) t h = elem_later n x (s ++ t) (elem_right n s t h)

pub elem_append : (n : Name) (s t : List Name) → T (elem n (s ++ t)) → T (elem n s) ⊎ T (elem n t)
elem_append n [] t h = inr h
elem_append n (x ∷ s) t h =
    elim (elem_cases n x (s ++ t) h) [
      | inl e ↦ inl (subst (λ (y : Name). T (elem n (y ∷ s))) (sym e) (elem_here n s))
      | inr u ↦ elim (elem_append n s t u) [ inl a ↦ inl (elem_later n x s a) | inr b ↦ inr b ]
    ]

module _ (p : Name → Bool) where
  mutual
    unfolding holds symbols concat

    -- a test that every symbol listed passes
    pub holds_by : (e : Tree) → ((s : Name) → T (elem s (symbols e)) → T (p s)) → T (holds p e)
    holds_by (Sym n) f = f n (elem_here n [])
    holds_by (Const c) f = tt
    holds_by (Op k g) f = holds_each_by g f

    pub holds_each_by : (g : Forest) → ((s : Name) → T (elem s (concat (folds (λ n. n ∷ []) (λ c. []) (λ k l. concat l) g))) → T (p s)) → T (holds_each p g)
    holds_each_by nil f = tt
    holds_each_by (t ◂ g) f =
        and_both (holds p t) (holds_each p g)
        (holds_by t (λ s h. f s (elem_left s (symbols t) (concat (folds (λ n. n ∷ []) (λ c. []) (λ k l. concat l) g)) h)))
        (holds_each_by g (λ s h. f s (elem_right s (symbols t) (concat (folds (λ n. n ∷ []) (λ c. []) (λ k l. concat l) g)) h)))

  mutual
    unfolding holds symbols concat elem

    pub holds_at : (e : Tree) (s : Name) → T (holds p e) → T (elem s (symbols e)) → T (p s)
    holds_at (Sym n) s h t = elim (elem_cases s n [] t) [ inl e ↦ subst (λ (x : Name). T (p x)) e h | inr u ↦ absurd u ]
    holds_at (Const c) s h t = absurd t
    holds_at (Op k g) s h t = holds_each_at g s h t

    pub holds_each_at : (g : Forest) (s : Name) → T (holds_each p g) → T (elem s (concat (folds (λ n. n ∷ []) (λ c. []) (λ k l. concat l) g))) → T (p s)
    holds_each_at nil s h t = absurd t
    holds_each_at (u ◂ g) s h t =
        elim (elem_append s (symbols u) (concat (folds (λ n. n ∷ []) (λ c. []) (λ k l. concat l) g)) t) [
          | inl a ↦ holds_at u s (and_left (holds p u) (holds_each p g) h) a
          | inr b ↦ holds_each_at g s (and_right (holds p u) (holds_each p g) h) b
        ]

-- the same for several trees
pub holds_all_at : (p : Name → Bool) (l : List Tree) (s : Name) → T (holds_all p l) → T (elem s (all_symbols l)) → T (p s)
unfolding holds_all all_symbols
holds_all_at p [] s h t = absurd (unfold elem in t)
holds_all_at p (e ∷ l) s h t =
    elim (elem_append s (symbols e) (all_symbols l) t) [
      | inl a ↦ holds_at p e s (and_left (holds p e) (holds_all p l) h) a
      | inr b ↦ holds_all_at p l s (and_right (holds p e) (holds_all p l) h) b
    ]

-- every name listed passes a test
abbrev pub Sub : (Name → Bool) → List Name → Type 0
Sub p ns = (n : Name) → T (elem n ns) → T (p n)

pub sub_left : (p : Name → Bool) (s t : List Name) → Sub p (s ++ t) → Sub p s
sub_left p s t u n h = u n (elem_left n s t h)

pub sub_right : (p : Name → Bool) (s t : List Name) → Sub p (s ++ t) → Sub p t
sub_right p s t u n h = u n (elem_right n s t h)

pub sub_append : (p : Name → Bool) (s t : List Name) → Sub p s → Sub p t → Sub p (s ++ t)
sub_append p s t f g n h = elim (elem_append n s t h) [ inl a ↦ f n a | inr b ↦ g n b ]

pub no_elem : (n : Name) → T (elem n []) → ⊥
no_elem n t = unfold elem in t

pub not_elem : (n x : Name) (ns : List Name) → (n ≡ x → ⊥) → (T (elem n ns) → ⊥) → T (elem n (x ∷ ns)) → ⊥
not_elem n x ns f g t = elim (elem_cases n x ns t) [ inl e ↦ f (sym e) | inr u ↦ g u ]

pub holds_all_by : (p : Name → Bool) (l : List Tree) → Sub p (all_symbols l) → T (holds_all p l)
unfolding holds_all all_symbols
holds_all_by p [] u = tt
holds_all_by p (t ∷ l) u =
    and_both (holds p t) (holds_all p l) (holds_by p t (sub_left p (symbols t) (all_symbols l) u)) (holds_all_by p l (sub_right p (symbols t) (all_symbols l) u))

-- the names that statements bind, in their order
unfoldable pub all_names : List Intermediate → List Name
unfolding names
all_names [] = []
all_names (s ∷ l) = names s ++ all_names l
