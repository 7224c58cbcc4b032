-- The reciprocal of number j stands in front, whether `1 / d` stays as it is or is settled. Assumes nothing.
use Prim.Native.Nat.{ℕ, zero, suc, ◌+◌, ◌-◌, ◌≤◌, ◌<◌}
use native.Mathlib.Omega.{arith}
use mathlib.Core.Path.{◌≡◌, refl, sym, ◌∙◌, ap, subst}
use mathlib.Core.Bool.{Bool, true, false, not, ◌&&◌}
use mathlib.Core.Option.{some}
use mathlib.Core.List.{List, [], ◌∷◌, ◌++◌, map}
use borrow.Author.Tests.{le-leb, ne_eqb}
use lib.ListN.{length, get_or, take, drop, length-append, length-drop, length-take}
use lib.Seq.{take_at}
use lib.Dec.{T, leb, eqb}
use Rattle.spec_tree.specs.Tree.{Name, Tree}
use Rattle.spec_tree.specs.Facts.{size}
use Rattle.spec_tree.specs.Tokens.{all_tokens, read, numbered, run_at, trees_in}
use Rattle.spec_tree.proofs.Logic.{and_left, and_right, not_so, not_true}
use Rattle.spec_tree.proofs.Lists.{rest_is}
use Rattle.spec_tree.proofs.TokenLaws.{map_drop}
use Rattle.spec_tree.proofs.TokenCode.{unnumbered, writes_back}
use Rattle.spec_rewrite.specs.Rewrite.{replace_divisor}
use Rattle.laws.specs.positions.Places.{numbered_at, among_places, count_places}
use Rattle.words.specs.tokens.Answers.{end_answer}
use Rattle.words.proofs.words.Rewriting.{one_long}
use Rattle.reciprocals.specs.settle.Answers.{Settling, settling}
use Rattle.std.specs.Prelude.{Result, Ok}
use Rattle.std.specs.Result.{result_unwrap_or}
use Rattle.words.specs.declared.fault.Fault.{Fault}
use Rattle.reciprocals.specs.divisors.Places.{Inside}
use Rattle.reciprocals.specs.reciprocal.Bindings.{one_over, no_division_words, is_plain, whole_reciprocal, BoundSo}
use Rattle.reciprocals.proofs.bindings.Parts.{settle_tree, reciprocal, AllThere}
use Rattle.reciprocals.proofs.settle.Stepping.{Divisor, divisor_there}
use Rattle.reciprocals.proofs.divisors.Counting.{among_counted}
use Rattle.reciprocals.proofs.divisors.Within.{inside_take, inside_drop}
use Rattle.reciprocals.proofs.reciprocal.Reading.{run_trees, over_complete, over_long, over_read}
use Rattle.reciprocals.proofs.reciprocal.Made.{divisors, divisor, made, made_words, run_is, so_made}
use Rattle.reciprocals.proofs.reciprocal.Whole.{settled_from, settling_is}
use Rattle.reciprocals.proofs.reciprocal.Unmoved.{read_kept, over_settled}

-- ---- the test

pub not_plain : (base later : List ℕ) (place n : ℕ) (b : Bool) → b ≡ no_division_words (take n (drop place base)) → b ≡ false → b ≡ is_plain base later place n
unfolding is_plain
not_plain base later place n b e f = f ∙ ap (λ (x : Bool). x && not (among_places base place later)) (sym f ∙ e)

pub plain_by :
    (base later : List ℕ) (place n : ℕ) (b : Bool) → b ≡ no_division_words (take n (drop place base)) → b ≡ true
    → (c : ℕ) → c ≡ count_places base place later → eqb c 0 ≡ is_plain base later place n
unfolding is_plain
plain_by base later place n b e f c g =
    ap (λ (x : ℕ). eqb x 0) g
    ∙ (none_counted (count_places base place later)
    ∙ (ap not (sym (among_counted base place later)) ∙ ap (λ (x : Bool). x && not (among_places base place later)) (sym f ∙ e)))
  where
    none_counted : (k : ℕ) → eqb k 0 ≡ not (leb 1 k)
    none_counted zero = refl
    none_counted (suc k) = ne_eqb (suc k) 0 (λ e. omega arith) ∙ sym (ap not (le-leb 1 (suc k) (omega arith)))

-- of the places past j, as they are lent
pub plain_rest :
    (base places : List ℕ) (j place n : ℕ) (b : Bool) → b ≡ is_plain base (take (length places - (j + 1)) (drop (j + 1) places)) place n → b ≡ true
    → is_plain base (drop (j + 1) places) place n ≡ true
plain_rest base places j place n b e f = ap (λ (l : List ℕ). is_plain base l place n) (sym (rest_is places (j + 1))) ∙ (sym e ∙ f)

-- ---- where the divisor stands

-- it has a word
pub before_end : (base : List ℕ) (place end : ℕ) → Divisor base place end → place < end
before_end base place end d =
    let k = end - place in
    omega (arith, one_long (take k (drop place base)) d.one, length-take k (drop place base), d.after)

one_inside : (base : List ℕ) (p n : ℕ) → run_at base p ≡ some n → p < length base
unfolding end_answer
one_inside base p n e =
    let d = divisor_there base p (p + n) (sym (ap (end_answer p) e)) in
    omega (arith, d.within, before_end base p (p + n) d)

there_inside : (base l : List ℕ) → AllThere base l → Inside (length base) l
there_inside base [] h = tt
there_inside base (p ∷ l) h = (one_inside base p h.0.0 h.0.1, there_inside base l h.1)

-- those past j, as they are lent
pub rest_inside : (base places : List ℕ) (j : ℕ) → AllThere base places → Inside (length base) (take (length places - (j + 1)) (drop (j + 1) places))
rest_inside base places j h =
    inside_take (length base) (length places - (j + 1)) (drop (j + 1) places) (inside_drop (length base) (j + 1) places (there_inside base places h))

head_same : (a b : Tree) → a ∷ [] ≡ b ∷ [] → a ≡ b
head_same a b e = cc

-- ---- the words in front

module _ (base places : List ℕ) (first j : ℕ) (h : j < length places) (there : AllThere base places) (few : length base ≤ 1927) (old mid : List ℕ) (room : 2 + length base ≤ length old)
    (end : ℕ) (ended : Divisor base (get_or places j 0) end)
    (written : mid ≡ one_over base (get_or places j 0) (end - get_or places j 0) ++ drop (2 + (end - get_or places j 0)) old) where
  abbrev place : ℕ
  place = get_or places j 0

  abbrev d : Tree
  d = divisor base places first j

  abbrev many : ℕ
  many = end - get_or places j 0

  abbrev over : List ℕ
  over = one_over base (get_or places j 0) (end - get_or places j 0)

  stands : run_at base (get_or places j 0) ≡ some (end - get_or places j 0)
  stands = ended.stands

  many_is : end - get_or places j 0 ≡ size (divisor base places first j)
  many_is = let e : some many ≡ some (size d) = sym stands ∙ run_is base places first j h there in cc

  long_is : length over ≡ 2 + many
  long_is = over_long base place many stands

  pub mid_long : length mid ≡ length old
  mid_long = omega (arith, ap length written, length-append over (drop (2 + many) old), length-drop (2 + many) old, long_is, ended.within, room)

  pub front_fits : 2 + (end - get_or places j 0) ≤ length mid
  front_fits = omega (arith, mid_long, ended.within, room)

  front : take (2 + many) mid ≡ over
  front = ap (take (2 + many)) written ∙ take_at over (drop (2 + many) old) (2 + many) long_is

  pub bound_plain : is_plain base (drop (j + 1) places) (get_or places j 0) (end - get_or places j 0) ≡ true → BoundSo (whole_reciprocal base places first j) (2 + (end - get_or places j 0)) mid
  unfolding is_plain
  bound_plain p =
      let part = take many (drop place base) in
      let later = drop (j + 1) places in
      let among = among_places base place later in
      let both : T (no_division_words part && not among) = subst T (sym p) tt in
      let plain = and_left (no_division_words part) (not among) both in
      let new : among_places base place later ≡ false = not_true among (not_so among (and_right (no_division_words part) (not among) both)) in
      let i : j + 1 ≡ suc j = omega arith in
      let same : made base places first j ≡ reciprocal d =
      ap (λ (l : List Tree). settle_tree l (suc (first + j)) (reciprocal d)) (sym (map_drop (numbered_at base) (suc j) places))
      ∙ (ap (λ (x : ℕ). settle_tree (map (numbered_at base) (drop x places)) (suc (first + j)) (reciprocal d)) (sym i)
      ∙ over_settled base place (λ x n. still part plain x n) later (suc (first + j)) new) in
      let ws : made_words base places first j ≡ over =
      ap (λ (t : Tree). all_tokens unnumbered (t ∷ [])) same
      ∙ (ap (all_tokens unnumbered) (sym (over_read base place many stands)) ∙ writes_back over 1 (over_complete base place many stands)) in
      so_made base places first j h there mid (2 + many) (omega (arith, long_is, ap length ws)) (front ∙ sym ws) front_fits
    where
      still : (part : List ℕ) → T (no_division_words (take many (drop place base))) → (x : Tree) (n : Name) → replace_divisor x n d ≡ d
      still part plain x n =
          let r : read numbered (take many (drop place base)) ≡ d ∷ [] = run_trees base place many stands in
          head_same (replace_divisor x n d) d (sym (ap (map (replace_divisor x n)) r) ∙ (read_kept x n (take many (drop place base)) plain ∙ r))

  module _ (low : first ≤ 4294967296) (less : length places ≤ 4294967296) where
    whole_over : trees_in (take (2 + many) mid) ≡ some 1
    whole_over = ap trees_in front ∙ over_complete base place many stands

    abbrev S : List ℕ
    S = settled_from base places there (j + 1) first mid (2 + many) 1 whole_over front_fits (omega (arith, few, ended.within)) low less

    SIs : S ≡ made_words base places first j
    SIs =
        let i : j + 1 ≡ suc j = omega arith in
        let k : first + (j + 1) ≡ suc (first + j) = omega arith in
        let ds = divisors base places first j in
        let r : read numbered (take (2 + many) mid) ≡ reciprocal d ∷ [] = ap (read numbered) front ∙ over_read base place many stands in
        ap (λ (l : List Tree). all_tokens unnumbered (map (settle_tree (drop (j + 1) ds) (first + (j + 1))) l)) r
        ∙ (ap (λ (x : ℕ). all_tokens unnumbered (settle_tree (drop x ds) (first + (j + 1)) (reciprocal d) ∷ [])) i
        ∙ ap (λ (x : ℕ). all_tokens unnumbered (settle_tree (drop (suc j) ds) x (reciprocal d) ∷ [])) k)

    abbrev left : Settling
    left = settling base places (j + 1) first mid (2 + (end - get_or places j 0))

    left_is : settling base places (j + 1) first mid (2 + (end - get_or places j 0)) ≡ record { answer = Ok (length (made_words base places first j)); out = made_words base places first j ++ drop (length (made_words base places first j)) mid }
    left_is =
        settling_is base places there (j + 1) first mid (2 + many) 1 whole_over front_fits (omega (arith, few, ended.within)) low less
        ∙ ap (λ (l : List ℕ). record { answer = Ok (length l); out = l ++ drop (length l) mid }) SIs

    bound_settled :
        (m : ℕ) (out : List ℕ) → Ok m ≡ (settling base places (j + 1) first mid (2 + (end - get_or places j 0))).answer
        → out ≡ (settling base places (j + 1) first mid (2 + (end - get_or places j 0))).out → BoundSo (whole_reciprocal base places first j) m out
    bound_settled m out e f =
        let new = made_words base places first j in
        let q : Ok m ≡ Ok (length new) = e ∙ ap (λ (s : Settling). s.answer) left_is in
        let c : m ≡ length new = cc in
        let o : out ≡ new ++ drop (length new) mid = f ∙ ap (λ (s : Settling). s.out) left_is in
        so_made base places first j h there out m c (ap (take m) o ∙ take_at new (drop (length new) mid) m (sym c)) (omega (arith, c, ap length o, length-append new (drop (length new) mid)))

    pub bound_so :
        (r : Result ℕ Fault) (m : ℕ) (out : List ℕ) → r ≡ (settling base places (j + 1) first mid (2 + (end - get_or places j 0))).answer
        → out ≡ (settling base places (j + 1) first mid (2 + (end - get_or places j 0))).out → m ≡ result_unwrap_or r (2 + (end - get_or places j 0))
        → BoundSo (whole_reciprocal base places first j) m out
    bound_so r m out e f g =
        let is = ap (λ (s : Settling). s.answer) left_is in
        let c : m ≡ length (made_words base places first j) = g ∙ ap (λ (x : Result ℕ Fault). result_unwrap_or x (2 + (end - get_or places j 0))) (e ∙ is) in
        bound_settled m out (ap Ok c ∙ sym is) f
