-- References in rows (01, "Turned down", refusal 13, "earlier reference"): which names are bound on the way to a place, whether each use of a name is one of them, and
-- whether each name is bound once. Assumes nothing.
use Rattle.std.specs.Prelude.{ℕ, zero, suc, ◌+◌, ◌-◌, ◌%◌, ◌≤◌, ◌<◌, ◌≡◌, Bool, true, false, not, ◌&&◌, ◌||◌, cond, List, [], ◌∷◌, get_or, drop, eqb, leb, ltb}
use Rattle.std.proofs.Math.Option.{Option, none, some}
use Rattle.spec_tree.specs.Tokens.{kind_of, below_of}
use Rattle.spec_cse.specs.AnswerRows.{stands_below}

-- how many words the first n spans are, or none where the words end too soon
unfoldable pub span_words : List ℕ → ℕ → Option ℕ
unfolding stands_below
span_words [] zero = some 0
span_words [] (suc n) = none
span_words (w ∷ ws) zero = some 0
span_words (w ∷ ws) (suc n) = elim (span_words ws (n + stands_below w)) [ none ↦ none | some m ↦ some (suc m) ]

abbrev pub a_match : ℕ → Bool
a_match w = leb 30 (kind_of w) && ltb (kind_of w) 33

-- a row below which statements stand
abbrev pub entered : ℕ → Bool
entered w = a_match w || eqb (kind_of w) 34

-- whether one of the names in front has this code
unfoldable pub names_bind : ℕ → List ℕ → Bool
names_bind c [] = false
names_bind c (w ∷ l) = elim (eqb (kind_of w) 33) [ true ↦ eqb (below_of w) c || names_bind c l | false ↦ false ]

-- a match's names stand after its key
unfoldable pub match_binds : ℕ → List ℕ → Bool
unfolding span_words names_bind
match_binds c l = elim (span_words l 1) [ none ↦ false | some k ↦ names_bind c (drop k l) ]

-- whether a row, with what stands after it, binds the name of this code for what follows it
unfoldable pub binds : ℕ → ℕ → List ℕ → Bool
unfolding match_binds
binds c w l = cond (eqb (kind_of w) 29) (eqb (below_of w) c) (cond (a_match w) (match_binds c l) false)

-- where a span that has so many words below its row ends, if that is in the next p words
unfoldable pub ended : ℕ → Option ℕ → Option ℕ
ended p none = none
ended p (some m) = cond (leb m p) (some m) none

-- whether a code is bound on the way to the place p words on, after the next s words. A span that ends before it is passed, with what it binds; of the others only
-- matches and arms are entered.
unfoldable pub bound_by : ℕ → ℕ → ℕ → List ℕ → Bool
unfolding span_words binds ended
bound_by c s zero l = false
bound_by c s (suc p) [] = false
bound_by c (suc s) (suc p) (w ∷ l) = bound_by c s p l
bound_by c zero (suc p) (w ∷ l) =
    elim (ended p (span_words l (stands_below w))) [
      | none ↦ elim (entered w) [ true ↦ bound_by c zero p l | false ↦ false ]
      | some m ↦ elim (binds c w l) [ true ↦ true | false ↦ bound_by c m p l ]
    ]

-- a symbol that is no symbol of the list
abbrev pub is_use : ℕ → Bool
is_use w = eqb (kind_of w) 0 && not (eqb (below_of w % 3) 0)

unfoldable pub use_ok : List ℕ → ℕ → Bool
unfolding bound_by
use_ok ws p = elim (is_use (get_or ws p 0)) [ true ↦ bound_by (below_of (get_or ws p 0)) 0 p ws | false ↦ true ]

-- the n words from a place on use only names that are bound on the way to them
unfoldable pub seen : List ℕ → ℕ → ℕ → Bool
unfolding use_ok
seen ws q zero = true
seen ws q (suc n) = use_ok ws q && seen ws (suc q) n

-- ---- bound once

-- a let's row, or a match name's
abbrev pub a_binding : ℕ → Bool
a_binding w = (eqb (kind_of w) 29 && eqb (below_of w % 3) 1) || (eqb (kind_of w) 33 && eqb (below_of w % 3) 2)

unfoldable pub occurs : ℕ → List ℕ → Bool
occurs w [] = false
occurs w (v ∷ l) = elim (eqb v w) [ true ↦ true | false ↦ occurs w l ]

unfoldable pub once : List ℕ → Bool
unfolding occurs
once [] = true
once (w ∷ l) = not (a_binding w && occurs w l) && once l

-- the span at a place ends at another, which is none past `by`; or it ends past `by`, or not at all
pub record Ended (ws : List ℕ) (at by e : ℕ) : Type 0 where
  pub after : at ≤ e
  pub before_by : e ≤ by
  pub words : span_words (drop at ws) 1 ≡ some (e - at)

abbrev pub Unended : List ℕ → ℕ → ℕ → Type 0
Unended ws at by = (m : ℕ) → span_words (drop at ws) 1 ≡ some m → by < at + m

-- so many spans are left of one that was begun
pub record Left (ws : List ℕ) (at i left : ℕ) : Type 0 where
  pub to : (n : ℕ) → span_words (drop at ws) 1 ≡ some n → (m : ℕ) × (n ≡ i - at + m) × (span_words (drop i ws) left ≡ some m)
  pub from : (m : ℕ) → span_words (drop i ws) left ≡ some m → span_words (drop at ws) 1 ≡ some (i - at + m)
