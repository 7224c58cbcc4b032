-- What the rounds and the list of divisors to bind come to, by what each answers (01, "Extraction", "Reciprocals"). Assumes nothing.
use Prim.Native.Nat.{ℕ, ◌≤◌}
use native.Mathlib.Omega.{arith}
use Rattle.std.specs.Prelude.{Result, Ok, Err}
use mathlib.Core.Path.{◌≡◌, refl, subst}
use mathlib.Core.Bool.{Bool}
use mathlib.Core.List.{List}
use lib.ListN.{length, take}
use lib.Seq.{length-take-le}
use lib.Dec.{T}
use Rattle.spec_tree.specs.Bytes.{every}
use Rattle.spec_tree.specs.Rows.{Row}
use Rattle.spec_tree.specs.Tokens.{read, numbered, name_in}
use Rattle.fmt.specs.checked.Check.{word_ok}
use Rattle.words.specs.words.Words.{Complete}
use Rattle.laws.specs.positions.Names.{is_number, symbols_pass}
use Rattle.laws.specs.positions.Places.{divisors_to_bind}
use Rattle.rounds.specs.kept.Sound.{extractable}
use Rattle.rounds.proofs.kept.Steps.{ready_of}
use Rattle.rounds.specs.Rounds.{all_rounds, rounds_answer, LeavesWords}
use Rattle.rounds.specs.declared.Rounds.{Rounds}
use Rattle.replace.specs.declared.NotConstant.{NotConstant}
use Rattle.cse_flat.proofs.refined.Rounding.{Rounded, rounded}
use Rattle.cse_flat.proofs.refined.Leaving.{Left, rounds_leave, left_trees, left_complete, left_words, left_short}
use Rattle.cse_flat.specs.refined.Parts.{RoundsListed, RoundsRefused}
use Rattle.spec_tree.proofs.Lists.{fits_in}

-- ---- words in front

module _ (rows : List Row) (old : List ℕ) (len : ℕ) (scoped : Bool) (first text : ℕ) where
  abbrev ws : List ℕ
  ws = take len old

  -- what the caller gives
  pub record Given : Type 0 where
    pub good : T (extractable rows first ws)
    pub pass : T (symbols_pass (is_number rows) ws)
    pub few : len ≤ 1927
    pub there : len ≤ length old
    pub low : first ≤ 549755813888
    pub bytes : 131072 ≤ text

  pub given_so : T (extractable rows first ws) × T (symbols_pass (is_number rows) ws) → (len ≤ 1927) × (len ≤ length old) × (first ≤ 549755813888) → 131072 ≤ text → Given
  given_so (g, p) (f, t, l) b = record { good = g; pass = p; few = f; there = t; low = l; bytes = b }

  module _ (g : Given) (r : Result Rounds NotConstant) (out : List ℕ) (given : (r ≡ rounds_answer rows old len scoped first) × LeavesWords rows old len scoped first out) where
    after_rounds : Rounded rows scoped first ws r out
    after_rounds = rounded rows old len scoped first r out given

    -- ---- rounds that are not done are refused

    pub rounds_refused : (e : NotConstant) → r ≡ Err e → RoundsRefused rows scoped first ws
    rounds_refused e f = subst (λ (q : Result Rounds NotConstant). Rounded rows scoped first ws q out) f after_rounds

    module _ (all : Rounds) (is_done : r ≡ Ok all) where
      abbrev n : ℕ
      n = all.words

      abbrev m : ℕ
      m = all.made

      abbrev pub vs : List ℕ
      vs = take n out

      done : Rounded rows scoped first ws (Ok all) out
      done = subst (λ (q : Result Rounds NotConstant). Rounded rows scoped first ws q out) is_done after_rounds

      pub vs_long : n ≡ length vs
      vs_long = done.1

      pub vs_there : n ≤ length out
      vs_there = omega (arith, vs_long, fits_in n out)

      left : Left rows scoped (length (read numbered ws)) first ws vs
      unfolding all_rounds
      left = rounds_leave rows scoped (length (read numbered ws)) first ws refl (ready_of rows first ws g.good) g.pass vs done.0

      vs_few : length vs ≤ len
      vs_few = omega (arith, left_short rows scoped (length (read numbered ws)) first ws vs left, length-take-le len old g.there)

      -- ---- the divisors are listed

      pub writable : (b : ℕ) → b ≡ text → (places : ℕ) → len ≤ places
          → (Complete vs × T (every (word_ok rows) vs)) × ((length vs ≤ 1927) × (length vs ≤ places) × (131072 ≤ b))
      writable b kept places lent =
          let k = length (read numbered ws) in (
            ((left_trees rows scoped k first ws vs left, left_complete rows scoped k first ws vs left), left_words rows scoped k first ws vs left),
            (omega (arith, vs_few, g.few), omega (arith, vs_few, lent), omega (arith, kept, g.bytes)),
          )

      pub all_listed :
          (places : List ℕ) (d : ℕ) → (take d places ≡ divisors_to_bind vs (name_in rows) scoped) × (d ≤ length places) → RoundsListed rows scoped first ws n m d out places
      all_listed places d e = (done.0, done.2, e.0, vs_there, e.1)
