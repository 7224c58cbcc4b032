-- Record words: bytes compared from the front, and the words found one after another. Assumes nothing.
use Rattle.std.specs.Prelude.{Some, None}
use Prim.Native.Nat.{ℕ, suc, ◌+◌, ◌≤◌, ◌<◌}
use mathlib.Core.Path.{◌≡◌, refl, ◌∙◌}
use mathlib.Core.Bool.{true, false}
use mathlib.Core.Option.{some}
use mathlib.Core.List.{List, [], ◌∷◌}
use native.Mathlib.Numerals.{add-one}
use native.Mathlib.Omega.{arith}
use lib.ListN.{length, get_or, drop, drop_of_length-le}
use lib.Seq.{drop-cons}
use Rattle.spec_tree.specs.Bytes.{eq_bytes}
use Rattle.spec_sheet.specs.Sheet.{words, find}
use Rattle.load.specs.recordwords.Answers.{word_answer}

-- ---- the words one after another

thirty : length words ≡ 30
unfolding words
thirty = refl

find_here : (i : ℕ) (w v : List ℕ) (l : List (List ℕ)) → eq_bytes v w ≡ true → find i w (v ∷ l) ≡ some i
unfolding find
find_here i w v l e = rw (e, find)

find_later : (i : ℕ) (w v : List ℕ) (l : List (List ℕ)) → eq_bytes v w ≡ false → find i w (v ∷ l) ≡ find (suc i) w l
unfolding find
find_later i w v l e = rw (e, find)

module _ (s : List ℕ) (k : ℕ) (q : find 0 s words ≡ find k s (drop k words)) where
  pub word_next : k < 30 → eq_bytes (get_or words k []) s ≡ false → find 0 s words ≡ find (k + 1) s (drop (k + 1) words)
  word_next h e =
      let l : k < length words = (let n = thirty in omega arith) in
      q ∙ rw (drop-cons words k [] l, find_later k s (get_or words k []) (drop (suc k) words) e, add-one k)

  pub word_found : k < 30 → eq_bytes (get_or words k []) s ≡ true → Some k ≡ word_answer (find 0 s words)
  word_found h e =
      let l : k < length words = (let n = thirty in omega arith) in
      rw (q, drop-cons words k [] l, find_here k s (get_or words k []) (drop (suc k) words) e)

  pub word_none : 30 ≤ k → None ≡ word_answer (find 0 s words)
  word_none h =
      let l : length words ≤ k = (let n = thirty in omega arith) in
      rw (q, drop_of_length-le words {i = k} l) (unfold find in refl)
