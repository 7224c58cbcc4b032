-- One turn of the scan in `rewrite`: a division by the divisor becomes a product, any other word is copied. Assumes nothing.
use Rattle.std.specs.Prelude.{Some, None}
use Rattle.std.proofs.Common.{◌≡◌, ℕ, ◌+◌, ◌-◌, ◌<◌, ◌≤◌, List, [], ◌∷◌, ◌++◌, length, get_or, take, drop, set, sym, refl, ap, ◌∙◌, arith, length-append, length-drop, length-set, get_or-drop, drop-drop}
use mathlib.Core.Option.{some}
use borrow.Rule.Slice.PartMut.{put_mid}
use Rattle.spec_tree.specs.Tree.{Tree}
use Rattle.spec_tree.specs.Tokens.{kind_of, trees_in}
use Rattle.spec_rewrite.specs.Rewrite.{replace_divisor}
use Rattle.spec_rewrite.proofs.DivisorCount.{divisor_size}
use Rattle.words.specs.words.Words.{rewritten_words, tree_of, name_of, Complete, Writes}
use Rattle.words.proofs.words.Rewriting.{rewritten_short}
use Rattle.words.proofs.words.Scanning.{put_one, put_more, put_lent, put_long, here_long, here_complete, Scanned, scan_long, scan_turn}
use Rattle.replace.specs.divisor.Division.{division_of}
use Rattle.replace.proofs.divisor.Dividing.{Divided, division_made, node_stays}
use Rattle.replace.proofs.divisor.Searching.{by_means, other_means}
use Rattle.spec_tree.proofs.Lists.{rest_is}

-- the rewriting by a divisor's words and a name's word
abbrev pub by_words : List ℕ → ℕ → Tree → Tree
by_words d name = replace_divisor (tree_of d) (name_of name)

abbrev pub State : List ℕ → List ℕ → ℕ → List ℕ → List ℕ → ℕ → ℕ → Type 0
State ws d name old out i o = Scanned (by_words d name) ws old out i o

-- what a turn starts from
pub record Place (ws d : List ℕ) (name : ℕ) (old out : List ℕ) (i o : ℕ) : Type 0 where
  pub complete : Complete ws
  pub symbol : kind_of name ≡ 0
  pub fits : length ws ≤ length old
  pub state : State ws d name old out i o
  pub more : i < length ws

pub place_at :
    (ws d : List ℕ) (name : ℕ) (old : List ℕ) {out : List ℕ} {i o : ℕ} → (Complete ws × (((trees_in d ≡ some 1) × (kind_of name ≡ 0)) × (length ws ≤ length old)))
    → State ws d name old out i o → i < length ws → Place ws d name old out i o
place_at ws d name old p s h = record { complete = p.0; symbol = p.1.0.1; fits = p.1.1; state = s; more = h }

module _ {ws d : List ℕ} {name : ℕ} {old out : List ℕ} {i o : ℕ} (place : Place ws d name old out i o) where
  here : take (length ws - i) (drop i ws) ≡ drop i ws
  here = rest_is ws i

  long_here : 0 < length (drop i ws)
  long_here = here_long ws place.complete i place.more

  complete_here : Complete (drop i ws)
  complete_here = here_complete ws place.complete i place.more

  pub out_room : o < length out
  out_room = omega (arith, scan_long (by_words d name) ws old place.fits place.state, place.state.fewer)

  pub turn_other :
      None ≡ division_of (take (length ws - i) (drop i ws)) d → State ws d name old (set out o (get_or ws i 0)) (i + 1) (o + 1)
  turn_other q =
      let f = by_words d name in
      let n = other_means (drop i ws) d long_here complete_here (q ∙ ap (λ (l : List ℕ). division_of l d) here) in
      let z : i + 0 ≡ i = omega arith in
      let w : get_or (drop i ws) 0 0 ≡ get_or ws i 0 = get_or-drop i ws 0 0 ∙ ap (λ (k : ℕ). get_or ws k 0) z in
      let step = node_stays (tree_of d) (name_of name) (drop i ws) complete_here long_here n in
      scan_turn f ws old place.state (get_or ws i 0 ∷ []) 1 (set out o (get_or ws i 0)) (i + 1) (o + 1) refl refl (omega arith) (omega arith)
      (step ∙ ap (λ (k : ℕ). (k ∷ []) ++ rewritten_words f (drop 1 (drop i ws))) w)
      (put_one out o (get_or ws i 0) out_room)

  module _ (e y : ℕ) (found : Some (record { second = e; end = y }) ≡ division_of (take (length ws - i) (drop i ws)) d) where
    divided : Divided (tree_of d) (drop i ws) name e y
    divided =
        let b = by_means (drop i ws) d e y (found ∙ ap (λ (l : List ℕ). division_of l d) here) in
        division_made (tree_of d) (drop i ws) name e y place.symbol complete_here long_here b.divides b.start b.first b.whole

    -- the words of the first operand
    abbrev pub part : List ℕ
    part = take ((i + e) - (i + 1)) (drop (i + 1) ws)

    part_is : part ≡ take (e - 1) (drop 1 (drop i ws))
    part_is =
        let n : (i + e) - (i + 1) ≡ e - 1 = omega (arith, divided.start) in
        ap (λ (k : ℕ). take k (drop (i + 1) ws)) n ∙ ap (take (e - 1)) (sym (drop-drop 1 i ws))

    pub record Room : Type 0 where
      pub some : 1 ≤ e
      pub inside : i + e < i + y
      pub within : i + y ≤ length ws
      pub long : length part ≡ e - 1
      pub out_long : length out ≡ length old
      pub fewer : o ≤ i

    pub room : Room
    room =
        record {
          some = divided.start;
          inside = omega (arith, divided.inside);
          within = omega (arith, divided.within, length-drop i ws);
          long = ap length part_is ∙ divided.long;
          out_long = scan_long (by_words d name) ws old place.fits place.state;
          fewer = place.state.fewer;
        }

    pub part_complete : Complete part
    part_complete = (1, ap trees_in part_is ∙ divided.whole)

    abbrev pub lent : List ℕ
    lent = take (length (set out o 133) - (o + 1)) (drop (o + 1) (set out o 133))

    pub lent_room : length part ≤ length lent
    lent_room =
        let r = room in
        omega (arith, ap length (rest_is (set out o 133) (o + 1)), length-drop (o + 1) (set out o 133), length-set out o 133, r)

    module _ (n : ℕ) (x : List ℕ) (wrote : Writes (by_words d name) part lent n x) where
      abbrev back : List ℕ
      back = put_mid (o + 1) (length (set out o 133) - (o + 1)) (set out o 133) x

      pub few : n ≤ e - 1
      few = omega (arith, wrote.count, rewritten_short (by_words d name) (divisor_size (tree_of d) (name_of name)) part, room.long)

      pub back_long : length back ≡ length out
      back_long =
          let r = room in
          let fit : o + 1 + length (rewritten_words (by_words d name) part) ≤ length (set out o 133) = omega (arith, few, wrote.count, length-set out o 133, r) in
          put_long (set out o 133) (o + 1) (rewritten_words (by_words d name) part) back fit
          (put_lent (set out o 133) x (rewritten_words (by_words d name) part) (o + 1) wrote.words)
          ∙ length-set out o 133

      pub turn_by : State ws d name old (set back (o + 1 + n) name) (i + y) (o + 1 + n + 1)
      turn_by =
          let f = by_words d name in
          let r = room in
          let R = rewritten_words f part in
          let long = back_long in
          let one = put_one out o 133 out_room in
          let two = put_lent (set out o 133) x R (o + 1) wrote.words in
          let three = put_one back (o + 1 + n) name (omega (arith, long, few, r)) in
          let a = put_more (set out o 133) (o + 1) R (name ∷ []) back (set back (o + 1 + n) name) (o + 1 + n)
          (omega (arith, few, wrote.count, length-set out o 133, r)) (omega (arith, wrote.count)) two three in
          let b = put_more out o (133 ∷ []) (R ++ (name ∷ [])) (set out o 133) (set back (o + 1 + n) name) (o + 1)
          (omega (arith, out_room)) refl one a in
          let size : length (133 ∷ (R ++ (name ∷ []))) ≡ n + 2 = omega (arith, length-append R (name ∷ []), wrote.count) in
          scan_turn f ws old place.state (133 ∷ (R ++ (name ∷ []))) y (set back (o + 1 + n) name) (i + y) (o + 1 + n + 1) refl
          (omega (arith, size)) r.within (omega (arith, size, few, r))
          (divided.makes ∙ ap (λ (l : List ℕ). (133 ∷ (rewritten_words f l ++ (name ∷ []))) ++ rewritten_words f (drop y (drop i ws))) (sym part_is))
          b
