-- A stack in words: its top is the last word. Assumes nothing.
use Prim.Native.Nat.{ℕ, suc, ◌+◌, ◌-◌, ◌≤◌, ◌<◌}
use mathlib.Core.Path.{◌≡◌, refl, ◌∙◌, ap, subst}
use mathlib.Core.Bool.{Bool, true, false}
use mathlib.Core.List.{List, [], ◌∷◌, reverse, reverse-append}
use native.Mathlib.Omega.{arith}
use native.Mathlib.Numerals.{add-one}
use borrow.Author.Tests.{eq-eqb}
use lib.Dec.{eqb}
use lib.ListN.{length, get_or, take, set, length-set, length-reverse}
use lib.Seq.{take-suc, take-suc-set, length-take-le}
use Rattle.spec_cse.specs.Order.{push}
use Rattle.topo_sort.specs.Turns.{stack_of, joined, Pushed}

pub stack_length : (top : ℕ) (words : List ℕ) → top ≤ length words → length (stack_of top words) ≡ top
unfolding stack_of
stack_length top words h = length-reverse (take top words) ∙ length-take-le top words h

pub stack_grows : (top j : ℕ) (words : List ℕ) → top < length words → stack_of (top + 1) (set words top j) ≡ j ∷ stack_of top words
unfolding stack_of
stack_grows top j words h = rw (add-one top, take-suc-set words top j h, reverse-append (take top words) (j ∷ [])) refl

pub stack_top : (top : ℕ) (words : List ℕ) → 0 < top → top ≤ length words → stack_of top words ≡ get_or words (top - 1) 0 ∷ stack_of (top - 1) words
unfolding stack_of
stack_top top words p h =
    subst (λ (t : ℕ). reverse (take t words) ≡ get_or words (top - 1) 0 ∷ reverse (take (top - 1) words)) (let e : suc (top - 1) ≡ top = omega arith in e)
    (rw (take-suc words (top - 1) 0 (omega arith), reverse-append (take (top - 1) words) (get_or words (top - 1) 0 ∷ [])) refl)

pub stack_empty : (words : List ℕ) → stack_of 0 words ≡ []
unfolding stack_of
stack_empty words = refl

-- ---- a position that joins, or not

pub is_pushed : (left j : ℕ) (words : List ℕ) (top : ℕ) → left ≡ 0 → top < length words → Pushed (eqb left 0) j words top (set words top j) (top + 1)
is_pushed left j words top e h =
    record { pushed = rw (eq-eqb left 0 e) (stack_grows top j words h); inside = rw (length-set words top j) (omega arith); long = length-set words top j }

joined_length : (b : Bool) (j : ℕ) (stack : List ℕ) → length (joined b j stack) ≤ length stack + 1
joined_length true j stack = omega arith
joined_length false j stack = omega arith

-- the top rises by one at most
pub pushed_top : (b : Bool) (j : ℕ) (old : List ℕ) (top : ℕ) (words : List ℕ) (t : ℕ) → Pushed b j old top words t → top ≤ length old → t ≤ top + 1
pushed_top b j old top words t p h =
    let e = ap length p.pushed in
    omega (arith, joined_length b j (stack_of top old), stack_length top old h, stack_length t words p.inside, e)

-- ---- pushed one after another

pub push_length : (l stack : List ℕ) → length (push l stack) ≡ length l + length stack
unfolding push
push_length [] stack = omega arith
push_length (i ∷ l) stack = omega (arith, push_length l (i ∷ stack))

pub push_joined : (b : Bool) (j : ℕ) (l stack : List ℕ) → push (joined b j l) stack ≡ push l (joined b j stack)
unfolding push
push_joined true j l stack = refl
push_joined false j l stack = refl
