-- What stands before, between and after parts, by the tests that choose it (Pieces). Assumes nothing.
use Prim.Native.Nat.{ℕ, zero, suc, ◌+◌, min}
use native.Mathlib.Omega.{arith}
use mathlib.Core.Path.{◌≡◌, refl}
use mathlib.Core.Bool.{Bool, true, false, ◌&&◌, cond}
use mathlib.Core.List.{List, [], ◌++◌}
use borrow.Author.Tests.{eq-eqb, ne_eqb}
use lib.ListN.{length}
use lib.Dec.{eqb}
use Rattle.spec_tree.specs.Bytes.{bytes, decimal}
use Rattle.fmt.specs.emit.Writing.{Writes}
use Rattle.fmt.proofs.emit.WriteLaws.{writes_none, writes_as}
use Rattle.print.specs.told.Pieces.{tuple_opening, comma, tuple_closing, brace_opening, brace_closing, side_opening, side_closing, arm_opening, arm_closing, arms_closing}

-- nothing is written where there is nothing to write
pub nothing : {dry : Bool} {old : List ℕ} {to e : ℕ} (text : List ℕ) → [] ≡ text → e ≡ min to (length old + 1) → Writes dry old to text old e
nothing text p h = writes_as [] text p (writes_none h)

-- a text that is written where it is wanted
pub marked : (b : Bool) (t x : List ℕ) → (b ≡ true → t ≡ x) → (b ≡ false → [] ≡ x) → cond b t [] ≡ x
marked true t x y n = y refl
marked false t x y n = n refl

pub opening_one : (n : ℕ) → n ≡ 1 → [] ≡ tuple_opening n
unfolding tuple_opening
opening_one n h = rw h

pub opening_many : (n : ℕ) → (n ≡ 1 → ⊥) → bytes "(" ≡ tuple_opening n
unfolding tuple_opening
opening_many zero h = refl
opening_many (suc zero) h = absurd (h refl)
opening_many (suc (suc n)) h = refl

pub closing_one : (n : ℕ) → n ≡ 1 → [] ≡ tuple_closing n
unfolding tuple_closing
closing_one n h = rw h

pub closing_many : (n : ℕ) → (n ≡ 1 → ⊥) → bytes ")" ≡ tuple_closing n
unfolding tuple_closing
closing_many zero h = refl
closing_many (suc zero) h = absurd (h refl)
closing_many (suc (suc n)) h = refl

pub comma_first : (i : ℕ) → i ≡ 0 → [] ≡ comma i
unfolding comma
comma_first i h = rw h

pub comma_later : (i : ℕ) → (i ≡ 0 → ⊥) → bytes ", " ≡ comma i
unfolding comma
comma_later zero h = absurd (h refl)
comma_later (suc i) h = refl

module _ (bare : Bool) (n : ℕ) where
  pub no_brace : n ≡ 0 → [] ≡ brace_opening bare n
  unfolding brace_opening
  no_brace h = rw h (go bare)
    where
      go : (b : Bool) → [] ≡ brace_opening b 0
      go true = refl
      go false = refl

  pub bare_brace : bare ≡ true → [] ≡ brace_opening bare n
  unfolding brace_opening
  bare_brace e = rw e (go n)
    where
      go : (n : ℕ) → [] ≡ brace_opening true n
      go zero = refl
      go (suc n) = refl

  pub brace : (n ≡ 0 → ⊥) → bare ≡ false → bytes "{ " ≡ brace_opening bare n
  unfolding brace_opening
  brace h e = rw e (go n h)
    where
      go : (n : ℕ) → (n ≡ 0 → ⊥) → bytes "{ " ≡ brace_opening false n
      go zero h = absurd (h refl)
      go (suc n) h = refl

  pub no_brace_after : n ≡ 0 → [] ≡ brace_closing bare n
  unfolding brace_closing
  no_brace_after h = rw h (go bare)
    where
      go : (b : Bool) → [] ≡ brace_closing b 0
      go true = refl
      go false = refl

  pub bare_brace_after : bare ≡ true → [] ≡ brace_closing bare n
  unfolding brace_closing
  bare_brace_after e = rw e (go n)
    where
      go : (n : ℕ) → [] ≡ brace_closing true n
      go zero = refl
      go (suc n) = refl

  pub brace_after : (n ≡ 0 → ⊥) → bare ≡ false → bytes " }" ≡ brace_closing bare n
  unfolding brace_closing
  brace_after h e = rw e (go n h)
    where
      go : (n : ℕ) → (n ≡ 0 → ⊥) → bytes " }" ≡ brace_closing false n
      go zero h = absurd (h refl)
      go (suc n) h = refl

pub side_first : (i : ℕ) → i ≡ 0 → bytes " >= 0 { " ≡ side_opening i
unfolding side_opening
side_first i h = rw h

pub side_second : (i : ℕ) → (i ≡ 0 → ⊥) → bytes " } else { " ≡ side_opening i
unfolding side_opening
side_second zero h = absurd (h refl)
side_second (suc i) h = refl

module _ (bare d : Bool) (m i : ℕ) where
  pub side_opens : bare ≡ true → side_opening i ≡ arm_opening bare d m i
  unfolding arm_opening
  side_opens e = rw e

  pub default_opens : bare ≡ false → d ≡ true → i + 1 ≡ m → bytes " _ => " ≡ arm_opening bare d m i
  unfolding arm_opening
  default_opens e f h = rw (e, f, eq-eqb (suc i) m (omega arith))

  -- no default, or not the last
  numbered : bare ≡ false → (d && eqb (suc i) m) ≡ false → bytes " " ++ (decimal i ++ bytes " => ") ≡ arm_opening bare d m i
  unfolding arm_opening
  numbered e f = rw (e, f)

  pub unlisted_opens : bare ≡ false → d ≡ false → bytes " " ++ (decimal i ++ bytes " => ") ≡ arm_opening bare d m i
  unlisted_opens e f = numbered e (rw f)

  pub arm_opens : bare ≡ false → d ≡ true → (i + 1 ≡ m → ⊥) → bytes " " ++ (decimal i ++ bytes " => ") ≡ arm_opening bare d m i
  arm_opens e f h = numbered e (rw (f, ne_eqb (suc i) m (λ (q : suc i ≡ m). h (omega arith))))

  pub side_closes_none : bare ≡ true → i ≡ 0 → [] ≡ arm_closing bare d m i
  unfolding arm_closing side_closing
  side_closes_none e h = rw (e, h)

  pub side_closes : bare ≡ true → (i ≡ 0 → ⊥) → bytes " };" ≡ arm_closing bare d m i
  unfolding arm_closing
  side_closes e h = rw e (go i h)
    where
      go : (i : ℕ) → (i ≡ 0 → ⊥) → bytes " };" ≡ side_closing i
      go zero h = absurd (h refl)
      go (suc i) h = unfold side_closing in refl

  pub default_closes : bare ≡ false → d ≡ true → i + 1 ≡ m → bytes " };" ≡ arm_closing bare d m i
  unfolding arm_closing
  default_closes e f h = rw (e, f, eq-eqb (suc i) m (omega arith))

  pub unlisted_closes : bare ≡ false → d ≡ false → bytes "," ≡ arm_closing bare d m i
  unfolding arm_closing
  unlisted_closes e f = rw (e, f)

  pub arm_closes : bare ≡ false → d ≡ true → (i + 1 ≡ m → ⊥) → bytes "," ≡ arm_closing bare d m i
  unfolding arm_closing
  arm_closes e f h = rw (e, f, ne_eqb (suc i) m (λ (q : suc i ≡ m). h (omega arith)))

module _ (bare d : Bool) where
  pub bare_ends : bare ≡ true → [] ≡ arms_closing bare d
  unfolding arms_closing
  bare_ends e = rw e

  pub default_ends : bare ≡ false → d ≡ true → [] ≡ arms_closing bare d
  unfolding arms_closing
  default_ends e f = rw (e, f)

  pub panic_ends : bare ≡ false → d ≡ false → bytes " _ => panic };" ≡ arms_closing bare d
  unfolding arms_closing
  panic_ends e f = rw (e, f)
