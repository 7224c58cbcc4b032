-- One turn of the scan in `rewrite`: the target becomes the name, a switch keeps its arms, any other word is copied. Assumes nothing.
use Rattle.std.proofs.Common.{◌≡◌, ℕ, ◌+◌, ◌-◌, ◌<◌, ◌≤◌, List, [], ◌∷◌, ◌++◌, length, get_or, take, drop, set, sym, refl, ap, ◌∙◌, ap₂, arith, length-append, length-drop, length-set, length-take, get_or-drop, drop-drop}
use mathlib.Core.Option.{some}
use borrow.Rule.Slice.PartMut.{put_mid}
use Rattle.spec_tree.specs.Tree.{Tree}
use Rattle.spec_tree.specs.Tokens.{kind_of, trees_in}
use Rattle.spec_rewrite.specs.Rewrite.{replace_outside_arms}
use Rattle.words.specs.words.Words.{rewritten_words, tree_of, name_of, Complete, Writes}
use Rattle.words.proofs.words.Rewriting.{one_long, rewritten_short}
use Rattle.words.proofs.words.Scanning.{put_one, put_more, put_lent, put_long, here_long, here_complete, Scanned, scan_long, scan_turn}
use Rattle.replace.specs.outside.Part.{part_of}
use Rattle.replace.specs.declared.outside.Part.TheVariants as part
use Rattle.spec_rewrite.proofs.OutsideSize.{outside_size}
use Rattle.replace.proofs.outside.Replacing.{node_stays, Switched, switch_made, target_made}
use Rattle.replace.proofs.outside.Searching.{some_tree, target_means, switch_means, node_means, arms_mean}
use Rattle.spec_tree.proofs.Lists.{rest_is}

-- the rewriting by a target's words and a name's word
abbrev pub by_words : List ℕ → ℕ → Tree → Tree
by_words d name = replace_outside_arms (tree_of d) (name_of name)

abbrev pub State : List ℕ → List ℕ → ℕ → List ℕ → List ℕ → ℕ → ℕ → Type 0
State ws d name old out i o = Scanned (by_words d name) ws old out i o

-- what a turn starts from
pub record Place (ws d : List ℕ) (name : ℕ) (old out : List ℕ) (i o : ℕ) : Type 0 where
  pub complete : Complete ws
  pub one : trees_in d ≡ some 1
  pub symbol : kind_of name ≡ 0
  pub fits : length ws ≤ length old
  pub state : State ws d name old out i o
  pub more : i < length ws

pub place_at :
    (ws d : List ℕ) (name : ℕ) (old : List ℕ) {out : List ℕ} {i o : ℕ} → (Complete ws × (((trees_in d ≡ some 1) × (kind_of name ≡ 0)) × (length ws ≤ length old)))
    → State ws d name old out i o → i < length ws → Place ws d name old out i o
place_at ws d name old p s h = record { complete = p.0; one = p.1.0.0; symbol = p.1.0.1; fits = p.1.1; state = s; more = h }

module _ {ws d : List ℕ} {name : ℕ} {old out : List ℕ} {i o : ℕ} (place : Place ws d name old out i o) where
  long_here : 0 < length (drop i ws)
  long_here = here_long ws place.complete i place.more

  complete_here : Complete (drop i ws)
  complete_here = here_complete ws place.complete i place.more

  head_is : get_or (drop i ws) 0 0 ≡ get_or ws i 0
  head_is = let z : i + 0 ≡ i = omega arith in get_or-drop i ws 0 0 ∙ ap (λ (k : ℕ). get_or ws k 0) z

  pub out_room : o < length out
  out_room = omega (arith, scan_long (by_words d name) ws old place.fits place.state, place.state.fewer)

  module _ (found : part.Target ≡ part_of (take (length ws - i) (drop i ws)) d) where
    pub target_within : i + length d ≤ length ws
    target_within =
        let e = target_means (drop i ws) d (found ∙ ap (λ (l : List ℕ). part_of l d) (rest_is ws i)) in
        let m = target_made (drop i ws) d name complete_here.0 complete_here.1 (some_tree (drop i ws) long_here complete_here) place.one place.symbol e in
        omega (arith, m.within, length-drop i ws)

    pub target_some : 0 < length d
    target_some = one_long d place.one

    pub turn_target : State ws d name old (set out o name) (i + length d) (o + 1)
    turn_target =
        let e = target_means (drop i ws) d (found ∙ ap (λ (l : List ℕ). part_of l d) (rest_is ws i)) in
        let m = target_made (drop i ws) d name complete_here.0 complete_here.1 (some_tree (drop i ws) long_here complete_here) place.one place.symbol e in
        scan_turn (by_words d name) ws old place.state (name ∷ []) (length d) (set out o name) (i + length d) (o + 1) refl refl target_within
        (omega (arith, target_some)) m.makes (put_one out o name out_room)

  pub turn_node : part.Node ≡ part_of (take (length ws - i) (drop i ws)) d → State ws d name old (set out o (get_or ws i 0)) (i + 1) (o + 1)
  turn_node q =
      let f = by_words d name in
      let n = node_means (drop i ws) d long_here complete_here (q ∙ ap (λ (l : List ℕ). part_of l d) (rest_is ws i)) in
      let step = node_stays (tree_of d) (name_of name) (drop i ws) complete_here long_here n.0 n.1 in
      scan_turn f ws old place.state (get_or ws i 0 ∷ []) 1 (set out o (get_or ws i 0)) (i + 1) (o + 1) refl refl (omega arith) (omega arith)
      (step ∙ ap (λ (k : ℕ). (k ∷ []) ++ rewritten_words f (drop 1 (drop i ws))) head_is)
      (put_one out o (get_or ws i 0) out_room)

  module _ (e y : ℕ) (found : part.Switch e y ≡ part_of (take (length ws - i) (drop i ws)) d) where
    switched : Switched (tree_of d) (name_of name) (drop i ws) e y
    switched =
        let b = switch_means (drop i ws) d e y (found ∙ ap (λ (l : List ℕ). part_of l d) (rest_is ws i)) in
        let m = arms_mean (get_or (drop i ws) 0 0) b.arms in
        switch_made (tree_of d) (name_of name) (drop i ws) e y complete_here long_here b.other m.0 m.1 b.start b.first b.whole

    -- the words of the key, and of the arms
    abbrev pub key : List ℕ
    key = take ((i + e) - (i + 1)) (drop (i + 1) ws)

    abbrev pub arms : List ℕ
    arms = take ((i + y) - (i + e)) (drop (i + e) ws)

    key_is : key ≡ take (e - 1) (drop 1 (drop i ws))
    key_is =
        let n : (i + e) - (i + 1) ≡ e - 1 = omega (arith, switched.start) in
        ap (λ (k : ℕ). take k (drop (i + 1) ws)) n ∙ ap (take (e - 1)) (sym (drop-drop 1 i ws))

    arms_is : arms ≡ take (y - e) (drop e (drop i ws))
    arms_is =
        let n : (i + y) - (i + e) ≡ y - e = omega (arith, switched.inside) in
        ap (λ (k : ℕ). take k (drop (i + e) ws)) n ∙ ap (take (y - e)) (sym (drop-drop e i ws))

    pub record Room : Type 0 where
      pub some : 1 ≤ e
      pub inside : i + e ≤ i + y
      pub within : i + y ≤ length ws
      pub key_long : length key ≡ e - 1
      pub arms_long : length arms ≡ y - e
      pub out_long : length out ≡ length old
      pub fewer : o ≤ i

    pub room : Room
    room =
        record {
          some = switched.start;
          inside = omega (arith, switched.inside);
          within = omega (arith, switched.within, length-drop i ws);
          key_long = ap length key_is ∙ switched.long;
          arms_long = omega (arith, length-take ((i + y) - (i + e)) (drop (i + e) ws), length-drop (i + e) ws, switched.inside, switched.within, length-drop i ws);
          out_long = scan_long (by_words d name) ws old place.fits place.state;
          fewer = place.state.fewer;
        }

    pub key_complete : Complete key
    key_complete = (1, ap trees_in key_is ∙ switched.whole)

    abbrev first_out : List ℕ
    first_out = set out o (get_or ws i 0)

    abbrev pub lent : List ℕ
    lent = take (length first_out - (o + 1)) (drop (o + 1) first_out)

    pub lent_room : length key ≤ length lent
    lent_room =
        let r = room in
        omega (arith, ap length (rest_is first_out (o + 1)), length-drop (o + 1) first_out, length-set out o (get_or ws i 0), r)

    module _ (n : ℕ) (x : List ℕ) (wrote : Writes (by_words d name) key lent n x) where
      abbrev back : List ℕ
      back = put_mid (o + 1) (length first_out - (o + 1)) first_out x

      pub few : n ≤ e - 1
      few = omega (arith, wrote.count, rewritten_short (by_words d name) (outside_size (tree_of d) (name_of name)) key, room.key_long)

      pub back_long : length back ≡ length out
      back_long =
          let r = room in
          let fit : o + 1 + length (rewritten_words (by_words d name) key) ≤ length first_out = omega (arith, few, wrote.count, length-set out o (get_or ws i 0), r) in
          put_long first_out (o + 1) (rewritten_words (by_words d name) key) back fit (put_lent first_out x (rewritten_words (by_words d name) key) (o + 1) wrote.words)
          ∙ length-set out o (get_or ws i 0)

      abbrev pub lent_arms : List ℕ
      lent_arms = take (length back - (o + 1 + n)) (drop (o + 1 + n) back)

      pub arms_room : length arms ≤ length lent_arms
      arms_room =
          let r = room in
          omega (arith, ap length (rest_is back (o + 1 + n)), length-drop (o + 1 + n) back, back_long, few, r)

      pub turn_switch :
          (z : List ℕ) → z ≡ arms ++ drop (length arms) lent_arms
          → State ws d name old (put_mid (o + 1 + n) (length back - (o + 1 + n)) back z) (i + y) (o + 1 + n + ((i + y) - (i + e)))
      turn_switch z copied =
          let f = by_words d name in
          let r = room in
          let w = get_or ws i 0 in
          let R = rewritten_words f key in
          let last = put_mid (o + 1 + n) (length back - (o + 1 + n)) back z in
          let first = put_one out o w out_room in
          let two = put_lent first_out x R (o + 1) wrote.words in
          let three = put_lent back z arms (o + 1 + n) copied in
          let a = put_more first_out (o + 1) R arms back last (o + 1 + n) (omega (arith, few, wrote.count, length-set out o w, r)) (omega (arith, wrote.count)) two three in
          let b = put_more out o (w ∷ []) (R ++ arms) first_out last (o + 1) (omega (arith, out_room)) refl first a in
          let size : length (w ∷ (R ++ arms)) ≡ 1 + n + (y - e) = omega (arith, length-append R arms, wrote.count, r) in
          scan_turn f ws old place.state (w ∷ (R ++ arms)) y last (i + y) (o + 1 + n + ((i + y) - (i + e))) refl (omega (arith, size, r)) r.within (omega (arith, size, few, r))
          (switched.makes
          ∙ (ap (λ (k : ℕ). (k ∷ (rewritten_words f (take (e - 1) (drop 1 (drop i ws))) ++ take (y - e) (drop e (drop i ws)))) ++ rewritten_words f (drop y (drop i ws))) head_is
          ∙ ap₂ (λ (p q : List ℕ). (w ∷ (rewritten_words f p ++ q)) ++ rewritten_words f (drop y (drop i ws))) (sym key_is) (sym arms_is)))
          b
