-- The record words: each is found at its own kind's number, and at no other; none is empty, and none has a comma, a quote, a CR or an LF. Assumes nothing.
use Prim.Native.Nat.{ℕ, zero, suc, ◌+◌, ◌≤◌, ◌<◌}
use mathlib.Core.Path.{◌≡◌, refl, sym, ap, subst}
use mathlib.Core.Bool.{Bool, true, false, ◌&&◌}
use mathlib.Core.Option.{Option, none, some}
use mathlib.Core.List.{List, [], ◌∷◌}
use native.Mathlib.Omega.{arith}
use native.Mathlib.Nat.{zero-add}
use borrow.Author.Tests.{ltb-true, ltb-false}
use lib.ListN.{length, get_or, get_or-eq_default}
use lib.Dec.{T, eqb, leb, ltb, eqb→eq, leb→le}
use Rattle.spec_tree.specs.Bytes.{bytes, eq_bytes, every}
use Rattle.spec_tree.specs.Kinds.{Kind, kinds, kind_at, arity_ok}
use Rattle.spec_tree.proofs.KindLaws.{kinds_long}
use Rattle.spec_tree.proofs.Logic.{and_left, and_right}
use Rattle.spec_tree.proofs.TreeLaws.{eq_bytes_sound}
use Rattle.spec_sheet.specs.Sheet.{plain, record_words, words, Root, find}
use Rattle.spec_tree.proofs.Tests.{all_from, entry}
use Rattle.spec_sheet.proofs.Inner.{inner}

-- ---- one test over the table

is_at : Option ℕ → ℕ → Bool
is_at none i = false
is_at (some k) i = eqb k i

at_some : (o : Option ℕ) (i : ℕ) → T (is_at o i) → o ≡ some i
unfolding is_at
at_some none i h = absurd h
at_some (some k) i h = ap some (eqb→eq k i h)

word_test : ℕ → List ℕ → Bool
word_test i w = is_at (find 0 w words) i && (every inner w && leb 1 (length w))

pub record Word (k : ℕ) (w : List ℕ) : Type 0 where
  pub found : find 0 w words ≡ some k
  pub clean : T (every inner w)
  pub long : 1 ≤ length w

by_test : (k : ℕ) (w : List ℕ) → T (word_test k w) → Word k w
unfolding word_test
by_test k w h =
    let r = and_right (is_at (find 0 w words) k) (every inner w && leb 1 (length w)) h in
    record {
      found = at_some (find 0 w words) k (and_left (is_at (find 0 w words) k) (every inner w && leb 1 (length w)) h);
      clean = and_left (every inner w) (leb 1 (length w)) r;
      long = leb→le 1 (length w) (and_right (every inner w) (leb 1 (length w)) r);
    }

words_pass : T (all_from word_test 0 words)
unfolding word_test is_at words find every plain
words_pass = tt

words_long : length words ≡ 30
unfolding words
words_long = refl

pub word : (k : ℕ) → k < 30 → Word k (get_or words k [])
word k h =
    subst (λ (m : ℕ). Word m (get_or words k [])) (zero-add k) (by_test (0 + k) (get_or words k []) (entry word_test [] words 0 words_pass k (let l = words_long in omega arith)))

-- ---- the words of the kinds

word_of : (ks : List Kind) (d : Kind) (k : ℕ) → k < length ks → get_or (record_words ks) k [] ≡ (get_or ks k d).word
unfolding record_words
word_of [] d k h = absurd (omega arith)
word_of (q ∷ ks) d zero h = refl
word_of (q ∷ ks) d (suc k) h = word_of ks d k (omega arith)

pub kind_word : (k : ℕ) → k < 29 → get_or words k [] ≡ (kind_at k).word
unfolding words kind_at
kind_word k h = word_of kinds _ k (let l = kinds_long in omega arith)

pub root_word : get_or words Root [] ≡ bytes "Root"
unfolding words
root_word = refl

-- ---- what is found is what was sought

-- at place j of the list that begins with kind i
record Sought (i : ℕ) (w : List ℕ) (l : List (List ℕ)) (k : ℕ) : Type 0 where
  place : ℕ
  number : k ≡ i + place
  inside : place < length l
  same : w ≡ get_or l place []

abbrev Finds : ℕ → List ℕ → List (List ℕ) → Option ℕ → Type 0
Finds i w l none = Unit {0}
Finds i w l (some k) = Sought i w l k

later : (i : ℕ) (w v : List ℕ) (l : List (List ℕ)) (o : Option ℕ) → Finds (suc i) w l o → Finds i w (v ∷ l) o
later i w v l none h = tt
later i w v l (some k) h = record { place = suc h.place; number = omega arith; inside = omega arith; same = h.same }

finds : (i : ℕ) (w : List ℕ) (l : List (List ℕ)) → Finds i w l (find i w l)
unfolding find
finds i w [] = tt
finds i w (v ∷ l) = go (eq_bytes v w) (eq_bytes_sound v w) (later i w v l (find (suc i) w l) (finds (suc i) w l))
  where
    go : (b : Bool) → (T b → v ≡ w) → Finds i w (v ∷ l) (find (suc i) w l) → Finds i w (v ∷ l) (elim b [ true ↦ some i | false ↦ find (suc i) w l ])
    go true e h = record { place = 0; number = omega arith; inside = omega arith; same = sym (e tt) }
    go false e h = h

pub record Known (w : List ℕ) (k : ℕ) : Type 0 where
  pub small : k < 30
  pub same : w ≡ get_or words k []

abbrev pub Knows : List ℕ → Option ℕ → Type 0
Knows w none = Unit {0}
Knows w (some k) = Known w k

pub knows : (w : List ℕ) → Knows w (find 0 w words)
knows w = go (find 0 w words) (finds 0 w words)
  where
    go : (o : Option ℕ) → Finds 0 w words o → Knows w o
    go none h = tt
    go (some k) h =
        let e : k ≡ h.place = omega arith in
        record { small = (let l = words_long in omega arith); same = rw e h.same }
