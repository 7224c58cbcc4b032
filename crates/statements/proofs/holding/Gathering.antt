-- How what is held is gathered: one reciprocal after another over what is written, after the settled trees. Assumes nothing.
use Prim.Native.Nat.{ℕ, suc, ◌+◌, ◌*◌, ◌≤◌, ◌<◌}
use native.Mathlib.Omega.{arith}
use mathlib.Core.Path.{◌≡◌, refl, sym, ◌∙◌, ap}
use mathlib.Core.Bool.{Bool, true, false}
use mathlib.Core.List.{List, ◌++◌, map}
use lib.ListN.{length, take, length-append}
use Rattle.spec_tree.specs.Tokens.{read, numbered}
use Rattle.spec_tree.proofs.TokenCode.{all_tokens_append}
use Rattle.words.specs.words.Words.{number}
use Rattle.laws.specs.positions.Places.{numbered_at}
use Rattle.reciprocals.specs.final.Ready.{Stands}
use Rattle.reciprocals.proofs.bindings.Parts.{settle_tree, settled_reciprocals}
use Rattle.fusion.specs.Switchless.{no_switch_words, with_switches}
use Rattle.fusion.specs.place.Overlay.{overlay}
use Rattle.fusion.specs.place.Parts.{trees_held, words_held}
use Rattle.fusion.proofs.tables.Laws.{overlay_none, overlay_append, overlay_length}
use Rattle.statements.specs.holding.Holding.{settled_held, reciprocal_words, reciprocal_held, reciprocals_held, Ready}
use Rattle.statements.proofs.holding.Taking.{words_short, held_none, held_one, held_next, held_end}

-- the reciprocals from number j on are still to be written, over what is
abbrev pub Gathered : List ℕ → List ℕ → ℕ → ℕ → List ℕ → List ℕ → ℕ → ℕ → Type 0
Gathered ws places first len old out n j =
    ((n + length (reciprocals_held ws first places j) ≡ len + length (reciprocals_held ws first places 0)) × ((j ≤ length places) × (n ≤ 1927 + 1929 * j)))
    × ((length out ≡ length old) × (overlay n (reciprocals_held ws first places j) out ≡ overlay len (reciprocals_held ws first places 0) old))

-- all that is held is in two parts
pub held_parts : (ws places : List ℕ) (first : ℕ) → words_held ws first places ≡ settled_held ws first places ++ reciprocals_held ws first places 0
unfolding words_held trees_held settled_held reciprocals_held
held_parts ws places first =
    let ds = map (numbered_at ws) places in
    all_tokens_append number (map (settle_tree ds first) (read numbered ws)) (with_switches (settled_reciprocals ds first))

pub all_held :
    (ws places : List ℕ) (first n r : ℕ) (base mid out : List ℕ) → n ≡ length (settled_held ws first places) → mid ≡ overlay 0 (settled_held ws first places) base
    → r ≡ n + length (reciprocals_held ws first places 0) → out ≡ overlay n (reciprocals_held ws first places 0) mid
    → (r ≡ length (words_held ws first places)) × (out ≡ overlay 0 (words_held ws first places) base)
all_held ws places first n r base mid out e m q o =
    let S = settled_held ws first places in
    let R = reciprocals_held ws first places 0 in
    let i : n ≡ 0 + length S = omega arith in (
      omega (arith, e, q, ap length (held_parts ws places first), length-append S R),
      o
          ∙ (ap (λ (x : List ℕ). overlay n (reciprocals_held ws first places 0) x) m
          ∙ (ap (λ (k : ℕ). overlay k (reciprocals_held ws first places 0) (overlay 0 (settled_held ws first places) base)) i
          ∙ (sym (overlay_append 0 S R base) ∙ ap (λ (l : List ℕ). overlay 0 l base) (sym (held_parts ws places first))))),
    )

module _ (ws places : List ℕ) (first : ℕ) (ready : Ready ws places first) (j : ℕ) (more : j < length places) where
  -- ---- one of them

  -- its words are in front of what they were written to
  module _ (one : List ℕ) (m : ℕ) (stands : Stands (reciprocal_words ws first places j) one m) where
    pub one_inside : m ≤ length one
    one_inside = stands.inside

    one_front : take m one ≡ reciprocal_words ws first places j
    one_front = stands.words

    pub one_passed :
        (r : Bool) → r ≡ no_switch_words (take m one) → r ≡ true → (n : ℕ) (work : List ℕ)
        → (n ≡ n + length (reciprocal_held ws first places j)) × (work ≡ overlay n (reciprocal_held ws first places j) work)
    one_passed r e t n work =
        let none = held_none ws places first ready j more (ap no_switch_words (sym one_front) ∙ (sym e ∙ t)) in
        (omega (arith, ap length none), sym (ap (λ (l : List ℕ). overlay n l work) none ∙ overlay_none n work))

    pub one_written :
        (r : Bool) → r ≡ no_switch_words (take m one) → r ≡ false → (n : ℕ) (work out : List ℕ) → out ≡ overlay n (take m one) work
        → (n + m ≡ n + length (reciprocal_held ws first places j)) × (out ≡ overlay n (reciprocal_held ws first places j) work)
    one_written r e f n work out o =
        let some = held_one ws places first ready j more (ap no_switch_words (sym one_front) ∙ (sym e ∙ f)) in
        (omega (arith, stands.many, ap length some), o ∙ ap (λ (l : List ℕ). overlay n l work) (one_front ∙ sym some))

  -- no overflow
  pub one_small : (m n : ℕ) → m ≡ length (reciprocal_words ws first places j) → n ≤ 8796093022208 → n + m ≤ 8796093024137
  one_small m n c h = omega (arith, c, h, words_short ws places first ready j more)

  pub place_small : (n len : ℕ) (old out : List ℕ) → Gathered ws places first len old out n j → n ≤ 8796093022208
  place_small n len old out s = omega (arith, s.0.1.1, more, ready.1.1.1)

  held_short : length (reciprocal_held ws first places j) ≤ 1929
  held_short = go (no_switch_words (reciprocal_words ws first places j)) refl
    where
      go : (b : Bool) → no_switch_words (reciprocal_words ws first places j) ≡ b → length (reciprocal_held ws first places j) ≤ 1929
      go true e = omega (arith, ap length (held_none ws places first ready j more e))
      go false e = omega (arith, ap length (held_one ws places first ready j more e), words_short ws places first ready j more)

  pub gathering_turns :
      (len : ℕ) (old out new : List ℕ) (n r : ℕ) → Gathered ws places first len old out n j → r ≡ n + length (reciprocal_held ws first places j)
      → new ≡ overlay n (reciprocal_held ws first places j) out → Gathered ws places first len old new r (j + 1)
  gathering_turns len old out new n r s e o =
      let H = reciprocal_held ws first places j in
      let i : suc j ≡ j + 1 = omega arith in
      let next : reciprocals_held ws first places j ≡ reciprocal_held ws first places j ++ reciprocals_held ws first places (j + 1) =
      held_next ws places first ready j more ∙ ap (λ (k : ℕ). reciprocal_held ws first places j ++ reciprocals_held ws first places k) i in (
        (omega (arith, s.0.0, e, ap length next, length-append H (reciprocals_held ws first places (j + 1))), (omega arith, omega (arith, s.0.1.1, e, held_short))),
        (
          ap length o ∙ (overlay_length n H out ∙ s.1.0),
          ap (λ (x : List ℕ). overlay r (reciprocals_held ws first places (j + 1)) x) o
              ∙ (ap (λ (k : ℕ). overlay k (reciprocals_held ws first places (j + 1)) (overlay n H out)) e
              ∙ (sym (overlay_append n H (reciprocals_held ws first places (j + 1)) out) ∙ (ap (λ (l : List ℕ). overlay n l out) (sym next) ∙ s.1.1))),
        ),
      )

pub gathering_ends :
    (ws places : List ℕ) (first : ℕ) → Ready ws places first → (len : ℕ) (old out : List ℕ) (n j : ℕ) → length places ≤ j → Gathered ws places first len old out n j
    → (n ≡ len + length (reciprocals_held ws first places 0)) × (out ≡ overlay len (reciprocals_held ws first places 0) old)
gathering_ends ws places first ready len old out n j h s =
    let none = held_end ws places first ready j h in
    (omega (arith, s.0.0, ap length none), sym (overlay_none n out) ∙ (ap (λ (l : List ℕ). overlay n l out) (sym none) ∙ s.1.1))
