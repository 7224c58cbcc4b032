-- Reciprocals bound one after another (01, "Reciprocals") are trees settled: each tree that was there by every divisor, and `1 / d` of each divisor by the divisors
-- after it. Assumes nothing.
use Prim.Native.Nat.{ℕ, zero, suc, ◌+◌}
use native.Mathlib.Omega.{arith}
use mathlib.Core.Path.{◌≡◌, refl, sym, ◌∙◌, ap, subst}
use mathlib.Core.Bool.{Bool}
use mathlib.Core.Option.{Option, none, some}
use mathlib.Core.List.{List, [], ◌∷◌, ◌++◌, append_assoc, map}
use lib.IntN.{pos}
use lib.ListN.{drop}
use lib.Dec.{T}
use Rattle.spec_tree.specs.Tree.{Name, xname, Tree, Sym, Const, Op, nil, ◌◂◌}
use Rattle.spec_tree.specs.Kinds.{Div}
use Rattle.spec_tree.specs.Tokens.{all_tokens, read, numbered, run_at, trees_at, trees_in}
use Rattle.spec_tree.proofs.TokenLaws.{map_append}
use Rattle.spec_tree.proofs.TokenCode.{unnumbered, all_tokens_append, writes_back}
use Rattle.spec_rewrite.specs.Rewrite.{replace_divisor}
use Rattle.laws.specs.positions.Places.{numbered_at, divisors_to_bind}
use Rattle.laws.specs.positions.Rounds.{next_number, bind_on, bind_each_on, reciprocals_on, reciprocals_words}
use Rattle.laws.proofs.positions.WordReciprocals.{to_bind_are, reciprocals_words_are}
use Rattle.words.specs.words.Words.{rewritten_words, tree_of}
use Rattle.words.proofs.words.Chains.{readable, name_readable, rewritten_trees, rewritten_complete}
use Rattle.replace.proofs.divisor.Chaining.{divisor_readable}
use Rattle.reciprocals.specs.settle.Steps.{step_words, settled_words}
use Rattle.reciprocals.proofs.settle.Settling.{x_word, x_word_name}

-- ---- on trees

-- each divisor in turn replaced, the names numbered from n on
abbrev pub settle_tree : List Tree → ℕ → Tree → Tree
settle_tree [] n t = t
settle_tree (d ∷ l) n t = settle_tree l (suc n) (replace_divisor d (xname n) t)

abbrev pub reciprocal : Tree → Tree
reciprocal d = Op Div (Const (pos 1) ◂ d ◂ nil)

-- each divisor's reciprocal, settled by those after it
abbrev pub settled_reciprocals : List Tree → ℕ → List Tree
settled_reciprocals [] n = []
settled_reciprocals (d ∷ l) n = settle_tree l (suc n) (reciprocal d) ∷ settled_reciprocals l (suc n)

map_twice : (f g : Tree → Tree) (l : List Tree) → map g (map f l) ≡ map (λ (t : Tree). g (f t)) l
map_twice f g [] = refl
map_twice f g (t ∷ l) = ap (λ (r : List Tree). g (f t) ∷ r) (map_twice f g l)

map_stays : (n : ℕ) (l : List Tree) → map (settle_tree [] n) l ≡ l
map_stays n [] = refl
map_stays n (t ∷ l) = ap (λ (r : List Tree). t ∷ r) (map_stays n l)

nothing_after : (l : List Tree) → l ++ [] ≡ l
nothing_after [] = refl
nothing_after (t ∷ l) = ap (λ (r : List Tree). t ∷ r) (nothing_after l)

pub bound_are_settled : (l : List Tree) (n : ℕ) (ts : List Tree) → bind_each_on l n ts ≡ map (settle_tree l n) ts ++ settled_reciprocals l n
unfolding bind_each_on bind_on
bound_are_settled [] n ts = sym (nothing_after (map (settle_tree [] n) ts) ∙ map_stays n ts)
bound_are_settled (d ∷ l) n ts =
    let f : Tree → Tree = replace_divisor d (xname n) in
    let g : Tree → Tree = settle_tree l (suc n) in
    let rest = settled_reciprocals l (suc n) in
    bound_are_settled l (suc n) (map f ts ++ (reciprocal d ∷ []))
    ∙ (ap (λ (r : List Tree). r ++ rest) (map_append g (map f ts) (reciprocal d ∷ []))
    ∙ (append_assoc (map g (map f ts)) (g (reciprocal d) ∷ []) rest ∙ ap (λ (r : List Tree). r ++ (g (reciprocal d) ∷ rest)) (map_twice f g ts)))

-- the reciprocal of number j is settled from number j + 1 on
pub reciprocal_of :
    (j : ℕ) (l : List Tree) (n : ℕ) (d : Tree) (after : List Tree) → drop j l ≡ d ∷ after
    → drop j (settled_reciprocals l n) ≡ settle_tree after (suc (n + j)) (reciprocal d) ∷ drop (suc j) (settled_reciprocals l n)
reciprocal_of zero [] n d after e = let z : ◌≡◌ {A = ℕ} 0 1 = cc in absurd (omega arith)
reciprocal_of zero (c ∷ l) n d after e =
    let p : c ≡ d = cc in
    let q : l ≡ after = cc in
    let i : n ≡ n + 0 = omega arith in
    ap (λ (t : Tree). settle_tree l (suc n) (reciprocal t) ∷ settled_reciprocals l (suc n)) p
    ∙ (ap (λ (a : List Tree). settle_tree a (suc n) (reciprocal d) ∷ settled_reciprocals l (suc n)) q
    ∙ ap (λ (x : ℕ). settle_tree after (suc x) (reciprocal d) ∷ settled_reciprocals l (suc n)) i)
reciprocal_of (suc j) [] n d after e = let z : ◌≡◌ {A = ℕ} 0 1 = cc in absurd (omega arith)
reciprocal_of (suc j) (c ∷ l) n d after e =
    let i : suc n + j ≡ n + suc j = omega arith in
    reciprocal_of j l (suc n) d after e ∙ ap (λ (x : ℕ). settle_tree after (suc x) (reciprocal d) ∷ drop (suc j) (settled_reciprocals l (suc n))) i

-- ---- on words

-- the tree that stands at a place
pub tree_there : (ws : List ℕ) (p : ℕ) → tree_of (drop p ws) ≡ numbered_at ws p
unfolding tree_of numbered_at read trees_at
tree_there [] zero = refl
tree_there [] (suc p) = refl
tree_there (w ∷ ws) zero = refl
tree_there (w ∷ ws) (suc p) = tree_there ws p

trees_there : (base l : List ℕ) → map (λ (p : ℕ). tree_of (drop p base)) l ≡ map (numbered_at base) l
trees_there base [] = refl
trees_there base (p ∷ l) =
    ap (λ (t : Tree). t ∷ map (λ (q : ℕ). tree_of (drop q base)) l) (tree_there base p) ∙ ap (λ (r : List Tree). numbered_at base p ∷ r) (trees_there base l)

-- a tree stands at each place
abbrev pub AllThere : List ℕ → List ℕ → Type 0
AllThere base [] = Unit {0}
AllThere base (p ∷ l) = ((n : ℕ) × (run_at base p ≡ some n)) × AllThere base l

pub made_name : (n : ℕ) → T (readable (Sym (xname n)))
made_name n = subst (λ (x : Name). T (readable (Sym x))) (x_word_name n) (name_readable (x_word n))

settles_first :
    (base : List ℕ) (p : ℕ) (l : List ℕ) (n : ℕ) (ws : List ℕ) (m : ℕ) → run_at base p ≡ some m
    → settled_words base (p ∷ l) n ws ≡ settled_words base l (suc n) (rewritten_words (replace_divisor (tree_of (drop p base)) (xname n)) ws)
unfolding settled_words step_words
settles_first base p l n ws m e =
    ap (λ (o : Option ℕ). elim (elim o as (λ _. Option (List ℕ)) [ none ↦ none | some k ↦ some (rewritten_words (replace_divisor (tree_of (drop p base)) (xname n)) ws) ]) as (λ _. Option (List ℕ)) [ none ↦ none | some vs ↦ settled_words base l (suc n) vs ]) e

settles_none : (base : List ℕ) (n : ℕ) (ws : List ℕ) → settled_words base [] n ws ≡ some ws
unfolding settled_words
settles_none base n ws = refl

by_first :
    (base l : List ℕ) (n : ℕ) (ws : List ℕ) (m : ℕ) → trees_in ws ≡ some m → AllThere base l
    → settled_words base l n ws ≡ some (all_tokens unnumbered (map (settle_tree (map (λ (p : ℕ). tree_of (drop p base)) l) n) (read numbered ws)))
by_first base [] n ws m c h =
    settles_none base n ws ∙ ap some (sym (ap (all_tokens unnumbered) (map_stays n (read numbered ws)) ∙ writes_back ws m c))
by_first base (p ∷ l) n ws m c h =
    let d = tree_of (drop p base) in
    let f : Tree → Tree = replace_divisor d (xname n) in
    let g : Tree → Tree = settle_tree (map (λ (q : ℕ). tree_of (drop q base)) l) (suc n) in
    let keeps = divisor_readable d (xname n) (made_name n) in
    settles_first base p l n ws h.0.0 h.0.1
    ∙ (by_first base l (suc n) (rewritten_words f ws) m (rewritten_complete f keeps ws m c) h.1
    ∙ (ap (λ (ts : List Tree). some (all_tokens unnumbered (map g ts))) (rewritten_trees f keeps ws)
    ∙ ap (λ (ts : List Tree). some (all_tokens unnumbered ts)) (map_twice f g (read numbered ws))))

-- settled words are the words of the settled trees
pub settled_are :
    (base l : List ℕ) (n : ℕ) (ws : List ℕ) (m : ℕ) → trees_in ws ≡ some m → AllThere base l
    → settled_words base l n ws ≡ some (all_tokens unnumbered (map (settle_tree (map (numbered_at base) l) n) (read numbered ws)))
settled_are base l n ws m c h =
    by_first base l n ws m c h ∙ ap (λ (ds : List Tree). some (all_tokens unnumbered (map (settle_tree ds n) (read numbered ws)))) (trees_there base l)

-- ---- what reciprocals make

module _ (name_at : ℕ → List ℕ) (scoped : Bool) (k first : ℕ) (ws : List ℕ) (m : ℕ) (complete : trees_in ws ≡ some m) where
  abbrev pub to_bind : List Tree
  to_bind = map (numbered_at ws) (divisors_to_bind ws name_at scoped)

  abbrev pub first_number : ℕ
  first_number = next_number k first (read numbered ws)

  -- the words of the trees settled from the first step on, and of each reciprocal settled from the step after its own
  pub reciprocals_parts :
      reciprocals_words name_at scoped k first ws
      ≡ all_tokens unnumbered (map (settle_tree to_bind first_number) (read numbered ws)) ++ all_tokens unnumbered (settled_reciprocals to_bind first_number)
  unfolding reciprocals_on
  reciprocals_parts =
      let ts = read numbered ws in
      reciprocals_words_are name_at scoped k first ws m complete
      ∙ (ap (λ (l : List Tree). all_tokens unnumbered (bind_each_on l first_number ts)) (to_bind_are ws name_at m complete scoped)
      ∙ (ap (all_tokens unnumbered) (bound_are_settled to_bind first_number ts)
      ∙ all_tokens_append unnumbered (map (settle_tree to_bind first_number) ts) (settled_reciprocals to_bind first_number)))
