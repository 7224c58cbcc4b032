-- What is lent for so many words is enough for fewer, and what words that may be extracted from are to the search. Assumes nothing.
use Prim.Native.Nat.{ℕ, ◌≤◌, ◌<◌}
use native.Mathlib.Omega.{arith}
use mathlib.Core.Path.{◌≡◌, refl}
use mathlib.Core.Bool.{Bool, true, false, ◌&&◌}
use mathlib.Core.Option.{Option, none, some}
use mathlib.Core.List.{List}
use lib.ListN.{length}
use lib.Dec.{T, leb}
use borrow.Author.Tests.{leb-false, leb-true}
use Rattle.spec_tree.specs.Bytes.{every}
use Rattle.spec_tree.specs.Tokens.{trees_in}
use Rattle.spec_tree.proofs.Logic.{and_left, and_right}
use Rattle.words.specs.words.Words.{some_trees}
use Rattle.fmt.specs.checked.Check.{rows_in, word_ok}
use Rattle.rounds.specs.kept.Sound.{numbered_below, extractable}
use Rattle.rounds.specs.uses.Marks.{Complete}
use Rattle.rounds.specs.value_numbers.Classes.{chains}
use Rattle.rounds.specs.choice.Leading.{Writable}
use Rattle.rounds.specs.Answers.{Lent}
use Rattle.rounds.proofs.value_numbers.Keys.{few_chains, many_chains}

-- ---- room

by_size : (n : ℕ) {A : Type 0} → (n ≤ 256 → A) → (256 < n → A) → A
by_size n {A} f g = go (leb n 256) refl
  where
    go : (b : Bool) → leb n 256 ≡ b → A
    go true e = f (leb-true n 256 e)
    go false e = g (leb-false n 256 e)

fewer_chains : (m n : ℕ) → m ≤ n → chains m ≤ chains n
fewer_chains m n h =
    by_size m (λ a. by_size n (λ b. omega (arith, few_chains m a, few_chains n b)) (λ b. omega (arith, few_chains m a, many_chains n b)))
    (λ a. omega (arith, many_chains m a, many_chains n (omega arith)))

pub lent_fewer :
    {n m f c x h u f' c' x' h' u' : ℕ} → Lent n f c x h u → m ≤ n → f' ≡ f → c' ≡ c → x' ≡ x → h' ≡ h → u' ≡ u → Lent m f' c' x' h' u'
lent_fewer {n} {m} {f} {c} {x} {h} {u} {f'} {c'} {x'} {h'} {u'} l k ef ec ex eh eu =
    record {
      for_facts = omega (arith, l.for_facts);
      for_classes = omega (arith, l.for_classes);
      for_next = omega (arith, l.for_next);
      for_chains = omega (arith, l.for_chains, fewer_chains m n k);
      for_marks = omega (arith, l.for_marks);
      for_uses = omega (arith, l.for_uses);
    }

pub few_lent : (n : ℕ) → n ≤ 256 → Lent n 1024 256 256 256 256
few_lent n h =
    record {
      for_facts = omega arith;
      for_classes = omega arith;
      for_next = omega arith;
      for_chains = omega (arith, few_chains n h);
      for_marks = omega arith;
      for_uses = omega arith;
    }

pub some_lent : (n : ℕ) → n ≤ 1024 → Lent n 4096 1024 1024 2048 1024
some_lent n h =
    record {
      for_facts = omega arith;
      for_classes = omega arith;
      for_next = omega arith;
      for_chains = by_size n (λ a. omega (arith, few_chains n a)) (λ a. omega (arith, many_chains n a));
      for_marks = omega arith;
      for_uses = omega arith;
    }

pub many_lent : (n : ℕ) → n ≤ 1927 → Lent n 7708 1927 1927 2048 1927
many_lent n h =
    record {
      for_facts = omega arith;
      for_classes = omega arith;
      for_next = omega arith;
      for_chains = by_size n (λ a. omega (arith, few_chains n a)) (λ a. omega (arith, many_chains n a));
      for_marks = omega arith;
      for_uses = omega arith;
    }

-- ---- words that may be extracted from

some_complete : (o : Option ℕ) → T (some_trees o) → o ≡ none → ⊥
unfolding some_trees
some_complete none h e = h
some_complete (some n) h e = (let z : ◌≡◌ {A = ℕ} 0 1 = cc in omega arith)

module _ (rows ws : List ℕ) (name : ℕ) (good : T (extractable (rows_in rows) name ws)) where
  abbrev passes : Bool
  passes = every (word_ok (rows_in rows)) ws

  abbrev below : Bool
  below = every (numbered_below name) ws

  pub complete_so : Complete ws
  unfolding extractable
  complete_so = some_complete (trees_in ws) (and_left (some_trees (trees_in ws)) (passes && below) good)

  pub writable_so : (text : ℕ) → length ws ≤ 1927 → 131072 ≤ text → Writable rows ws text
  unfolding extractable
  writable_so text h l = record { pass = and_left passes below (and_right (some_trees (trees_in ws)) (passes && below) good); fits = omega arith }
