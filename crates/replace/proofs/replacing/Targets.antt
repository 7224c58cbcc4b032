-- What a target's factors are, and that no more words are written than read. Assumes nothing.
use Rattle.std.proofs.Common.{◌≡◌, ℕ, ◌+◌, ◌*◌, ◌≤◌, T, List, [], ◌∷◌, length, sym, refl, ap, ◌∙◌, arith}
use Rattle.spec_tree.specs.Outcome.{Outcome, ok, refused, ◌>>=◌, each}
use Rattle.spec_tree.specs.Tree.{Tree, Sym}
use Rattle.spec_tree.specs.Facts.{size, total, count}
use Rattle.spec_tree.specs.Rows.{occurrences}
use Rattle.spec_tree.specs.Tokens.{numbered, read, all_tokens}
use Rattle.spec_tree.proofs.Formed.{well_formed}
use Rattle.spec_tree.proofs.Logic.{and_left, and_right}
use Rattle.spec_tree.proofs.TokenLaws.{read_size, sizes}
use Rattle.spec_tree.proofs.TokenCode.{all_tokens_length}
use Rattle.spec_rewrite.specs.Rewrite.{replace}
use Rattle.spec_rewrite.proofs.Counts.{well_formed_all}
use Rattle.spec_rewrite.proofs.Measure.{by_size, least_size}
use Rattle.spec_rewrite.proofs.Factors.{Product, factors_of}
use Rattle.spec_rewrite.proofs.Shrinks.{replace_shrinks}
use Rattle.words.specs.words.Words.{number, tree_of, name_of}
use Rattle.replace.proofs.closed.Equal.{ends_several}
use Rattle.replace.specs.replacing.Replacing.{replaced_words}
use Rattle.replace.specs.replacing.Deciding.{Trees, Target}
use Rattle.replace.proofs.replacing.Turns.{words_formed}

-- ---- a target's factors

pub several : {part : List ℕ} {name : ℕ} → Target part name → Product (tree_of part) → 2 + count (Sym (name_of name)) (factors_of (tree_of part)) ≤ 2 * length (factors_of (tree_of part))
several {part} {name} t = ends_several (tree_of part) (name_of name) t.ends

pub some_factor : {part : List ℕ} {name : ℕ} → Target part name → Product (tree_of part) → 1 ≤ length (factors_of (tree_of part))
some_factor t p = (let a = several t p in omega arith)

-- ---- no more words than there were

sizes_are : (l : List Tree) → sizes l ≡ occurrences l
unfolding sizes total occurrences
sizes_are [] = refl
sizes_are (t ∷ l) = ap (λ (n : ℕ). size t + n) (sizes_are l)

pub words_size : (ws : List ℕ) → occurrences (read numbered ws) ≡ length ws
words_size ws = sym (sizes_are (read numbered ws)) ∙ read_size numbered ws

module _ (part : List ℕ) (name : ℕ) (t : Target part name) where
  each_fewer : (l m : List Tree) → T (well_formed_all l) → each (replace (tree_of part) (name_of name)) l ≡ ok m → occurrences m ≤ occurrences l
  unfolding each well_formed_all occurrences
  each_fewer [] m w e = (let q : [] ≡ m = cc in let z : occurrences m ≡ 0 = sym (ap occurrences q) in omega arith)
  each_fewer (x ∷ l) m w e =
      go (replace (tree_of part) (name_of name) x) (each (replace (tree_of part) (name_of name)) l)
      (λ u q. (replace_shrinks by_size (tree_of part) (name_of name) (least_size (name_of name)) (some_factor t) x u (and_left (well_formed x) (well_formed_all l) w) q).0)
      (λ s q. each_fewer l s (and_right (well_formed x) (well_formed_all l) w) q) e
    where
      go : (o : Outcome Tree) (p : Outcome (List Tree)) → ((u : Tree) → o ≡ ok u → size u ≤ size x) → ((s : List Tree) → p ≡ ok s → occurrences s ≤ occurrences l)
          → (o >>= λ u. p >>= λ s. ok (u ∷ s)) ≡ ok m → occurrences m ≤ size x + occurrences l
      go (ok u) (ok s) f g e = (let q : u ∷ s ≡ m = cc in let z : size u + occurrences s ≡ occurrences m = ap occurrences q in let a = f u refl in let b = g s refl in omega arith)
      go (ok u) (refused i) f g e = (let z : ◌≡◌ {A = ℕ} 0 1 = cc in absurd (omega arith))
      go (refused i) p f g e = (let z : ◌≡◌ {A = ℕ} 0 1 = cc in absurd (omega arith))

  pub fewer_words : (ws new : List ℕ) → Trees ws → replaced_words (tree_of part) (name_of name) ws ≡ ok new → length new ≤ length ws
  unfolding replaced_words
  fewer_words ws new h e = go (each (replace (tree_of part) (name_of name)) (read numbered ws)) refl e
    where
      go : (o : Outcome (List Tree)) → each (replace (tree_of part) (name_of name)) (read numbered ws) ≡ o → (o >>= λ l. ok (all_tokens number l)) ≡ ok new → length new ≤ length ws
      go (ok m) q e =
          (let x : all_tokens number m ≡ new = cc in
          let y = ap length x in
          let a = all_tokens_length number m in
          let b = each_fewer (read numbered ws) m (words_formed ws h.count h.complete h.formed) q in
          let c = words_size ws in
          omega arith)
      go (refused i) q e = (let z : ◌≡◌ {A = ℕ} 0 1 = cc in absurd (omega arith))
