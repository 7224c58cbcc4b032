-- The trees settled and a reciprocal taken, where all is there and there is room: settling is never refused. Which reciprocals hold a switch is told from their words.
-- Assumes nothing.
use Prim.Native.Nat.{ℕ, suc, ◌≤◌, ◌<◌}
use native.Mathlib.Omega.{arith}
use mathlib.Core.Path.{◌≡◌, refl, sym, ◌∙◌, ap, subst}
use mathlib.Core.Bool.{Bool, true, false, ◌&&◌}
use mathlib.Core.Option.{some}
use mathlib.Core.List.{List, [], ◌∷◌, ◌++◌, map}
use lib.ListN.{length, take, drop, length-map, drop_of_length-le}
use lib.Seq.{drop_at, drop-cons, take_at}
use lib.Dec.{T}
use Rattle.spec_tree.specs.Tree.{Tree}
use Rattle.spec_tree.specs.Tokens.{all_tokens, read, numbered, trees_in}
use Rattle.spec_tree.proofs.TokenCode.{all_tokens_append, unnumbered, writes_back}
use Rattle.spec_tree.proofs.Logic.{and_left, and_both, same_test}
use Rattle.words.specs.words.Words.{number}
use Rattle.laws.specs.positions.Places.{numbered_at}
use Rattle.reciprocals.specs.settle.Answers.{Settling, settling}
use borrow.Author.Rules.{rules}
use Rattle.std.specs.Prelude.{Result, Ok, IsOk}
use Rattle.words.specs.declared.fault.Fault.{Fault}
use Rattle.reciprocals.proofs.bindings.Parts.{settle_tree, settled_reciprocals, AllThere}
use Rattle.reciprocals.specs.reciprocal.Bindings.{whole_reciprocal, BoundSo}
use Rattle.reciprocals.specs.final.Ready.{Stands}
use Rattle.reciprocals.proofs.reciprocal.There.{tested_there}
use Rattle.reciprocals.proofs.reciprocal.Whole.{first_words, first_settled, first_no_more}
use Rattle.reciprocals.proofs.reciprocal.Made.{settled_long, made, made_words, made_is, made_within, made_complete, made_read, made_so}
use Rattle.fusion.specs.Switchless.{switchless, all_switchless, no_switch_words, with_switches}
use Rattle.fusion.proofs.Outer.{no_switch_read, read_no_switch}
use Rattle.fusion.specs.place.Overlay.{overlay}
use Rattle.fusion.proofs.tables.Laws.{overlay_length, overlay_front}
use Rattle.statements.specs.holding.Holding.{settled_held, reciprocal_words, reciprocal_held, reciprocals_held, Ready}

hold_first : (t : Tree) (l : List Tree) → with_switches (t ∷ l) ≡ with_switches (t ∷ []) ++ with_switches l
unfolding with_switches
hold_first t l = go (switchless t)
  where
    go :
        (b : Bool)
        → ◌≡◌ {A = List Tree} (elim b as (λ _. List Tree) [ true ↦ with_switches l | false ↦ t ∷ with_switches l ])
        (elim b as (λ _. List Tree) [ true ↦ [] | false ↦ t ∷ [] ] ++ with_switches l)
    go true = refl
    go false = refl

stays : (n : ℕ) (l : List Tree) → map (settle_tree [] n) l ≡ l
stays n [] = refl
stays n (t ∷ l) = ap (λ (r : List Tree). t ∷ r) (stays n l)

none_settled : (ws places : List ℕ) (n m : ℕ) → trees_in ws ≡ some m → length places ≡ 0 → settled_held ws n places ≡ ws
unfolding settled_held
none_settled ws [] n m e z = ap (all_tokens unnumbered) (stays n (read numbered ws)) ∙ writes_back ws m e
none_settled ws (p ∷ l) n m e z = absurd (omega arith)

overlay_again : (ws old : List ℕ) → length ws ≤ length old → overlay 0 ws (overlay 0 ws old) ≡ overlay 0 ws old
overlay_again ws old long =
    let front = overlay_front ws old long in
    overlay_front ws (overlay 0 ws old) (omega (arith, long, overlay_length 0 ws old))
    ∙ (ap (λ (l : List ℕ). ws ++ drop (length ws) l) front
    ∙ (ap (λ (l : List ℕ). ws ++ l) (drop_at ws (drop (length ws) old) (length ws) refl) ∙ sym front))

module _ (ws places : List ℕ) (first : ℕ) (ready : Ready ws places first) where
  there : AllThere ws places
  there = tested_there ws places (subst T (sym ready.0.1) tt)

  -- ---- the trees settled

  abbrev S : List ℕ
  S = settled_held ws first places

  SIs : settled_held ws first places ≡ first_words ws places there first ready.0.0.0 ready.0.0.1
  unfolding settled_held
  SIs = refl

  settled_within : length (settled_held ws first places) ≤ length ws
  settled_within = omega (arith, ap length SIs, first_no_more ws places there first ready.0.0.0 ready.0.0.1)

  pub settled_short : length (settled_held ws first places) ≤ 1927
  settled_short = omega (arith, ready.1.0, settled_within)

  module _ (old mid : List ℕ) (long : length ws ≤ length old) (copy : mid ≡ overlay 0 ws old) where
    copied : take (length ws) mid ≡ ws
    copied = ap (take (length ws)) (copy ∙ overlay_front ws old (omega (arith, long))) ∙ take_at ws (drop (length ws) old) (length ws) refl

    mid_long : length mid ≡ length old
    mid_long = ap length copy ∙ overlay_length 0 ws old

    settling_so : settling ws places 0 first mid (length ws) ≡ record { answer = Ok (length (settled_held ws first places)); out = settled_held ws first places ++ drop (length (settled_held ws first places)) mid }
    settling_so =
        first_settled ws places there first ready.0.0.0 ready.0.0.1 mid copied (omega (arith, long, mid_long)) (omega (arith, ready.1.0)) ready.1.1.0 ready.1.1.1
        ∙ ap (λ (l : List ℕ). record { answer = Ok (length l); out = l ++ drop (length l) mid }) (sym SIs)

    pub settled_all :
        (n : ℕ) (out : List ℕ) → Ok n ≡ (settling ws places 0 first mid (length ws)).answer → out ≡ (settling ws places 0 first mid (length ws)).out
        → (n ≡ length (settled_held ws first places)) × (out ≡ overlay 0 (settled_held ws first places) (overlay 0 ws old))
    settled_all n out e f =
        let q : Ok n ≡ Ok (length S) = e ∙ ap (λ (s : Settling). s.answer) settling_so in
        let p : n ≡ length S = cc in (
          p,
          f
              ∙ (ap (λ (s : Settling). s.out) settling_so
              ∙ (sym (overlay_front S mid (omega (arith, long, mid_long, settled_within))) ∙ ap (λ (m : List ℕ). overlay 0 (settled_held ws first places) m) copy)),
        )

    -- without a divisor
    pub settled_none : length places ≡ 0 → (length ws ≡ length (settled_held ws first places)) × (mid ≡ overlay 0 (settled_held ws first places) (overlay 0 ws old))
    settled_none none =
        let same = none_settled ws places first ready.0.0.0 ready.0.0.1 none in
        (ap length (sym same), copy ∙ (sym (overlay_again ws old long) ∙ ap (λ (l : List ℕ). overlay 0 l (overlay 0 ws old)) (sym same)))

    pub settled_always : (b : Result ℕ Fault) → b ≡ (settling ws places 0 first mid (length ws)).answer → IsOk b
    settled_always b e =
        let q : b ≡ Ok (length S) = e ∙ ap (λ (s : Settling). s.answer) settling_so in
        subst (λ (x : Result ℕ Fault). IsOk x) (sym q) (search rules)

  -- ---- a reciprocal

  abbrev rs : List Tree
  rs = settled_reciprocals (map (numbered_at ws) places) first

  all_long : length (settled_reciprocals (map (numbered_at ws) places) first) ≡ length places
  all_long = settled_long (map (numbered_at ws) places) first ∙ length-map places (numbered_at ws)

  module _ (j : ℕ) (more : j < length places) where
    abbrev one : Tree
    one = made ws places first j

    one_next : drop j (settled_reciprocals (map (numbered_at ws) places) first) ≡ made ws places first j ∷ drop (suc j) (settled_reciprocals (map (numbered_at ws) places) first)
    one_next =
        drop-cons rs j one (omega (arith, all_long, more)) ∙ ap (λ (t : Tree). t ∷ drop (suc j) rs) (made_is ws places first j more one)

    words_are : reciprocal_words ws first places j ≡ made_words ws places first j
    unfolding reciprocal_words
    words_are = ap (λ (l : List Tree). all_tokens number (take 1 l)) one_next

    pub words_short : length (reciprocal_words ws first places j) ≤ 1929
    words_short = omega (arith, ready.1.0, ap length words_are, made_within ws places first j more there)

    pub reciprocal_taken : (n : ℕ) (out : List ℕ) → BoundSo (whole_reciprocal ws places first j) n out → Stands (reciprocal_words ws first places j) out n
    reciprocal_taken n out s =
        let r = made_so ws places first j more there out n s in
        record { many = r.0 ∙ ap length (sym words_are); words = r.1 ∙ sym words_are; inside = r.2 }

    -- ---- whether it holds a switch

    alone : all_switchless (one ∷ []) ≡ switchless one && true
    unfolding all_switchless
    alone = refl

    told_so : T (no_switch_words (made_words ws places first j)) → T (switchless (made ws places first j))
    told_so h =
        let r : T (all_switchless (one ∷ [])) = subst (λ (l : List Tree). T (all_switchless l)) (made_read ws places first j more there) (no_switch_read (made_words ws places first j) h) in
        and_left (switchless one) true (subst T alone r)

    so_told : T (switchless (made ws places first j)) → T (no_switch_words (made_words ws places first j))
    so_told h =
        let r : T (all_switchless (one ∷ [])) = subst T (sym alone) (and_both (switchless one) true h tt) in
        read_no_switch (made_words ws places first j) 1 (made_complete ws places first j more there)
        (subst (λ (l : List Tree). T (all_switchless l)) (sym (made_read ws places first j more there)) r)

    test_is : no_switch_words (reciprocal_words ws first places j) ≡ switchless (made ws places first j)
    test_is = ap no_switch_words words_are ∙ same_test (no_switch_words (made_words ws places first j)) (switchless one) told_so so_told

    held_by : (b : Bool) → switchless (made ws places first j) ≡ b → reciprocal_held ws first places j ≡ all_tokens number (elim b as (λ _. List Tree) [ true ↦ [] | false ↦ made ws places first j ∷ [] ])
    unfolding reciprocal_held with_switches
    held_by b e =
        ap (λ (l : List Tree). all_tokens number (with_switches (take 1 l))) one_next
        ∙ ap (λ (c : Bool). all_tokens number (elim c as (λ _. List Tree) [ true ↦ [] | false ↦ one ∷ [] ])) e

    pub held_none : no_switch_words (reciprocal_words ws first places j) ≡ true → reciprocal_held ws first places j ≡ []
    unfolding all_tokens
    held_none e = held_by true (sym test_is ∙ e)

    pub held_one : no_switch_words (reciprocal_words ws first places j) ≡ false → reciprocal_held ws first places j ≡ reciprocal_words ws first places j
    held_one e = held_by false (sym test_is ∙ e) ∙ sym words_are

    -- ---- it and those after it

    pub held_next : reciprocals_held ws first places j ≡ reciprocal_held ws first places j ++ reciprocals_held ws first places (suc j)
    unfolding reciprocals_held reciprocal_held
    held_next =
        ap (λ (l : List Tree). all_tokens number (with_switches l)) one_next
        ∙ (ap (all_tokens number) (hold_first one (drop (suc j) rs))
        ∙ (all_tokens_append number (with_switches (one ∷ [])) (with_switches (drop (suc j) rs))
        ∙ ap (λ (l : List Tree). all_tokens number (with_switches (take 1 l)) ++ all_tokens number (with_switches (drop (suc j) rs))) (sym one_next)))

  pub held_end : (j : ℕ) → length places ≤ j → reciprocals_held ws first places j ≡ []
  unfolding reciprocals_held all_tokens with_switches
  held_end j h = ap (λ (l : List Tree). all_tokens number (with_switches l)) (drop_of_length-le rs {i = j} (omega (arith, h, all_long)))
