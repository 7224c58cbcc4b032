-- Fused words are the words of the fused trees (specs, Words), no more of them and as many trees. Assumes nothing.
use Prim.Native.Nat.{ℕ, suc, ◌+◌, ◌*◌, ◌/◌, ◌%◌, ◌≤◌, ◌<◌}
use native.Mathlib.Omega.{arith}
use mathlib.Core.Path.{◌≡◌, refl, sym, ◌∙◌, ap, ap₂, subst}
use mathlib.Core.Option.{Option, none, some}
use mathlib.Core.List.{List, [], ◌∷◌, map}
use lib.ListN.{length, get_or, drop}
use lib.Seq.{drop-cons}
use lib.Dec.{T}
use Rattle.spec_tree.specs.Tree.{Name, mname, Tree, Sym}
use Rattle.spec_tree.specs.Tokens.{all_tokens, read, numbered, run_at, trees_in, below_of, name_by}
use Rattle.spec_tree.proofs.TokenCode.{unnumbered, writes_back}
use Rattle.spec_rewrite.specs.Rewrite.{replace_outside_arms}
use Rattle.words.specs.words.Words.{rewritten_words, tree_of, name_of}
use Rattle.words.proofs.words.Chains.{readable, name_readable, rewritten_trees, rewritten_complete, rewritten_twice}
use Rattle.words.proofs.words.Rewriting.{rewritten_short}
use Rattle.replace.proofs.outside.Chaining.{outside_readable}
use Rattle.reciprocals.specs.settle.Steps.{settled_words}
use Rattle.laws.specs.positions.Places.{numbered_at}
use Rattle.reciprocals.proofs.bindings.Parts.{settle_tree, tree_there, AllThere, settled_are}
use Rattle.fusion.specs.Settled.{Step, fused_tree}
use Rattle.fusion.specs.Whole.{settled_fused}
use Rattle.fusion.specs.Switchless.{no_switch_words}
use Rattle.fusion.specs.Words.{fuse_step, fused_words, steps_at}
use Rattle.fusion.proofs.Sizes.{fused_size}
use Rattle.fusion.proofs.Switchless.{OfSwitches, all_fused_same}
use Rattle.fusion.proofs.Outer.{no_switch_read}
use Rattle.reciprocals.proofs.reciprocal.Reading.{settle_readable}

-- ---- names

-- the word of a symbol of a match
abbrev pub m_word : ℕ → ℕ
m_word n = 128 + 192 * n

pub m_word_name : (n : ℕ) → name_of (m_word n) ≡ mname n
unfolding name_of name_by
m_word_name n =
    let b : below_of (m_word n) ≡ 2 + 3 * n = omega arith in
    let c : (2 + 3 * n) % 3 ≡ 2 = omega arith in
    let d : (2 + 3 * n) / 3 ≡ n = omega arith in
    rw b (rw c (rw d refl))

match_name_readable : (n : ℕ) → T (readable (Sym (mname n)))
match_name_readable n = subst (λ (x : Name). T (readable (Sym x))) (m_word_name n) (name_readable (m_word n))

-- ---- words can be read as fused trees

pub fused_readable : (steps : List Step) (t : Tree) → T (readable t) → T (readable (fused_tree steps t))
unfolding fused_tree
fused_readable [] t h = h
fused_readable (s ∷ l) t h =
    let n = mname s.number in
    fused_readable l (replace_outside_arms s.member n t) (outside_readable s.member n (match_name_readable s.number) t h)

-- fused words: no more, as many trees, and read back they are the fused trees
module _ (steps : List Step) (ws : List ℕ) where
  pub fused_short : length (rewritten_words (fused_tree steps) ws) ≤ length ws
  fused_short = rewritten_short (fused_tree steps) (fused_size steps) ws

  pub fused_complete : (m : ℕ) → trees_in ws ≡ some m → trees_in (rewritten_words (fused_tree steps) ws) ≡ some m
  fused_complete m e = rewritten_complete (fused_tree steps) (fused_readable steps) ws m e

  pub fused_trees : read numbered (rewritten_words (fused_tree steps) ws) ≡ map (fused_tree steps) (read numbered ws)
  fused_trees = rewritten_trees (fused_tree steps) (fused_readable steps) ws

  -- where no word is a switch's nothing changes
  pub fused_words_same : (m : ℕ) → trees_in ws ≡ some m → OfSwitches steps → T (no_switch_words ws) → rewritten_words (fused_tree steps) ws ≡ ws
  unfolding rewritten_words
  fused_words_same m e o h = ap (all_tokens unnumbered) (all_fused_same steps (read numbered ws) o (no_switch_read ws h)) ∙ writes_back ws m e

-- ---- step by step

rewritten_none : (ws : List ℕ) (m : ℕ) → trees_in ws ≡ some m → rewritten_words (fused_tree []) ws ≡ ws
unfolding rewritten_words fused_tree
rewritten_none ws m e = ap (all_tokens unnumbered) (stays (read numbered ws)) ∙ writes_back ws m e
  where
    stays : (l : List Tree) → map (fused_tree []) l ≡ l
    stays [] = refl
    stays (t ∷ l) = ap (λ (r : List Tree). t ∷ r) (stays l)

module _ (base : List ℕ) where
  pub fuse_step_is :
      (p : ℕ) (name : Name) (ws : List ℕ) (m : ℕ) → run_at base p ≡ some m
      → fuse_step base p name ws ≡ some (rewritten_words (replace_outside_arms (numbered_at base p) name) ws)
  unfolding fuse_step
  fuse_step_is p name ws m e =
      ap (λ (o : Option ℕ). elim o as (λ _. Option (List ℕ)) [ none ↦ none | some k ↦ some (rewritten_words (replace_outside_arms (tree_of (drop p base)) name) ws) ]) e
      ∙ ap (λ (t : Tree). some (rewritten_words (replace_outside_arms t name) ws)) (tree_there base p)

  -- the steps at places are the steps of the trees there
  pub fused_words_are :
      (l ns ws : List ℕ) (m : ℕ) → trees_in ws ≡ some m → AllThere base l → length l ≤ length ns
      → fused_words base l ns ws ≡ some (rewritten_words (fused_tree (steps_at base l ns)) ws)
  unfolding fused_words steps_at
  fused_words_are [] ns ws m c h b = ap some (sym (rewritten_none ws m c))
  fused_words_are (p ∷ l) [] ws m c h b = absurd (omega arith)
  fused_words_are (p ∷ l) (n ∷ ns) ws m c h b =
      let g : Tree → Tree = replace_outside_arms (numbered_at base p) (mname n) in
      let keeps = outside_readable (numbered_at base p) (mname n) (match_name_readable n) in
      ap (λ (o : Option (List ℕ)). elim o as (λ _. Option (List ℕ)) [ none ↦ none | some vs ↦ fused_words base l ns vs ]) (fuse_step_is p (mname n) ws h.0.0 h.0.1)
      ∙ (fused_words_are l ns (rewritten_words g ws) m (rewritten_complete g keeps ws m c) h.1 (omega arith)
      ∙ ap some (rewritten_twice g keeps (fused_tree (steps_at base l ns)) ws ∙ more p l n ns ws))
    where
      more :
          (p : ℕ) (l : List ℕ) (n : ℕ) (ns ws : List ℕ)
          → rewritten_words (λ (t : Tree). fused_tree (steps_at base l ns) (replace_outside_arms (numbered_at base p) (mname n) t)) ws
          ≡ rewritten_words (fused_tree (record { member = numbered_at base p; number = n } ∷ steps_at base l ns)) ws
      more p l n ns ws = (unfold fused_tree in refl)

  -- the words so far, with the steps to come
  pub fused_from :
      (ps ns ws : List ℕ) (k : ℕ) → k < length ps → k < length ns
      → fused_words base (drop k ps) (drop k ns) ws
      ≡ (elim (fuse_step base (get_or ps k 0) (mname (get_or ns k 0)) ws) as (λ _. Option (List ℕ)) [ none ↦ none | some vs ↦ fused_words base (drop (suc k) ps) (drop (suc k) ns) vs ])
  unfolding fused_words
  fused_from ps ns ws k h g = ap₂ (λ (a b : List ℕ). fused_words base a b ws) (drop-cons ps k 0 h) (drop-cons ns k 0 g)

-- ---- settled, and then fused

-- divisors at places of the words before reciprocals, members at places of the words after them
pub settled_then_fused :
    (before after ds ps ns ws : List ℕ) (n m : ℕ) → trees_in ws ≡ some m → AllThere before ds → AllThere after ps → length ps ≤ length ns
    → (elim (settled_words before ds n ws) as (λ _. Option (List ℕ)) [ none ↦ none | some vs ↦ fused_words after ps ns vs ])
    ≡ some (rewritten_words (settled_fused (map (numbered_at before) ds) n (steps_at after ps ns)) ws)
settled_then_fused before after ds ps ns ws n m c h g b =
    let f : Tree → Tree = settle_tree (map (numbered_at before) ds) n in
    let keeps = settle_readable (map (numbered_at before) ds) n in
    let s : settled_words before ds n ws ≡ some (rewritten_words f ws) = settled_are before ds n ws m c h ∙ ap some written in
    ap (λ (o : Option (List ℕ)). elim o as (λ _. Option (List ℕ)) [ none ↦ none | some vs ↦ fused_words after ps ns vs ]) s
    ∙ (fused_words_are after ps ns (rewritten_words f ws) m (rewritten_complete f keeps ws m c) g b
    ∙ ap some (rewritten_twice f keeps (fused_tree (steps_at after ps ns)) ws ∙ both))
  where
    written : all_tokens unnumbered (map (settle_tree (map (numbered_at before) ds) n) (read numbered ws)) ≡ rewritten_words (settle_tree (map (numbered_at before) ds) n) ws
    written = (unfold rewritten_words in refl)

    both :
        rewritten_words (λ (t : Tree). fused_tree (steps_at after ps ns) (settle_tree (map (numbered_at before) ds) n t)) ws
        ≡ rewritten_words (settled_fused (map (numbered_at before) ds) n (steps_at after ps ns)) ws
    both = (unfold settled_fused in refl)
