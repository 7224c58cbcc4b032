-- A tree is taken from words that hold it, or made as a reciprocal, and then has its members replaced: each time its run stands in front. Assumes nothing.
use Rattle.std.specs.Prelude.{Some, None, Ok, Result, IsOk}
use Prim.Native.Nat.{ℕ, suc, ◌+◌, ◌-◌, ◌≤◌, ◌<◌}
use native.Mathlib.Omega.{arith}
use mathlib.Core.Path.{◌≡◌, refl, sym, ◌∙◌, ap, subst}
use mathlib.Core.Bool.{Bool, true}
use mathlib.Core.Option.{Option, some}
use mathlib.Core.List.{List, [], ◌∷◌, ◌++◌, append-nil}
use borrow.Author.Tests.{le-leb}
use borrow.Author.Rules.{rules}
use lib.Dec.{T}
use lib.ListN.{length, get_or, take, drop, length-take}
use lib.Seq.{get_or-take, length-take-le}
use Rattle.spec_tree.specs.Tree.{Op, nil}
use Rattle.spec_tree.specs.Facts.{size}
use Rattle.spec_tree.specs.Tokens.{tokens, all_tokens, read, numbered, run_at, trees_in}
use Rattle.spec_tree.proofs.TokenCode.{unnumbered, tokens_length}
use Rattle.words.specs.tokens.Answers.{end_answer}
use Rattle.words.specs.words.Words.{some_trees, Complete}
use Rattle.reciprocals.proofs.bindings.Parts.{AllThere}
use Rattle.reciprocals.specs.reciprocal.Bindings.{all_there as all_places_there, whole_reciprocal, BoundSo}
use Rattle.reciprocals.proofs.reciprocal.There.{tested_there}
use Rattle.reciprocals.proofs.reciprocal.Made.{made, made_words, made_is, made_so}
use Rattle.topo_sort.specs.treelist.Starts.{starts_of}
use Rattle.topo_sort.proofs.treelist.Begins.{tree_number, start_number, ends_within, run_there, words_there, as_many}
use Rattle.reciprocals.specs.final.Ready.{Stands}
use Rattle.reciprocals.proofs.final.Taking.{in_front}
use Rattle.fusion.specs.Switchless.{no_switch_words}
use Rattle.fusion.specs.Words.{fused_words, steps_at}
use Rattle.fusion.proofs.Switchless.{OfSwitches}
use Rattle.fusion.proofs.Words.{fused_words_are, fused_words_same}
use Rattle.fusion.specs.fuse.Answers.{Fusing, fusing_by, all_there, all_small, room_for, fusing}
use Rattle.words.specs.declared.fault.Fault.{Fault}
use Rattle.fusion.specs.place.Overlay.{overlay}
use Rattle.fusion.proofs.tables.Laws.{overlay_front}
use Rattle.fusion.specs.place.Whole.{tree_run}
use Rattle.statements.specs.Prepared.{Prepared, run_number, reciprocal_run, settled_run, Fusable, fused_by}
use Rattle.statements.proofs.Held.{held_run_is, reciprocal_run_is, settled_whole, fused_final, held_complete}
use Rattle.statements.proofs.Groups.{members_there, members_steps}

-- a run written to the front stands there
pub put_front : (ws old out : List ℕ) (n : ℕ) → n ≡ length ws → length ws ≤ length old → out ≡ overlay 0 ws old → Stands ws out n
put_front ws old out n e h f = in_front ws old out n e (f ∙ (overlay_front ws old h ∙ ap (λ (x : ℕ). ws ++ drop x old) (sym e)))

pub stands_as : (a b out : List ℕ) (n : ℕ) → a ≡ b → Stands a out n → Stands b out n
stands_as a b out n e s = subst (λ (l : List ℕ). Stands l out n) e s

-- ---- from words that hold it

module _ (held starts : List ℕ) (i : ℕ) (complete : Complete held) (are : starts ≡ take (length starts) (starts_of held)) (here : i < length starts) where
  within : i < length (read numbered held)
  within = omega (arith, ap length are, length-take (length starts) (starts_of held), as_many held)

  start_is : start_number held i ≡ get_or starts i 0
  start_is = sym (ap (λ (l : List ℕ). get_or l i 0) are ∙ get_or-take (length starts) (starts_of held) i 0 here)

  long_is : size (tree_number held i) ≡ length (run_number held i)
  unfolding run_number
  long_is = sym (tokens_length unnumbered (tree_number held i))

  run_there_is : run_at held (get_or starts i 0) ≡ some (length (run_number held i))
  run_there_is = ap (run_at held) (sym start_is) ∙ (run_there held complete.0 complete.1 i within ∙ ap some long_is)

  words_there_are : take (length (run_number held i)) (drop (get_or starts i 0) held) ≡ run_number held i
  unfolding run_number
  words_there_are =
      ap (λ (n : ℕ). take n (drop (get_or starts i 0) held)) (sym long_is)
      ∙ (ap (λ (n : ℕ). take (size (tree_number held i)) (drop n held)) (sym start_is) ∙ words_there held complete.0 complete.1 i within)

  pub run_within : get_or starts i 0 + length (run_number held i) ≤ length held
  run_within = omega (arith, ends_within held i within, long_is, start_is)

  pub never_broken : None ≡ end_answer (get_or starts i 0) (run_at held (get_or starts i 0)) → ⊥
  unfolding end_answer
  never_broken e =
      let q : None ≡ Some (get_or starts i 0 + length (run_number held i)) = e ∙ ap (end_answer (get_or starts i 0)) run_there_is in
      let z : ◌≡◌ {A = ℕ} 0 1 = cc in
      omega arith

  pub stop_is : (end : ℕ) → Some end ≡ end_answer (get_or starts i 0) (run_at held (get_or starts i 0)) → end ≡ get_or starts i 0 + length (run_number held i)
  unfolding end_answer
  stop_is end e =
      let q : Some end ≡ Some (get_or starts i 0 + length (run_number held i)) = e ∙ ap (end_answer (get_or starts i 0)) run_there_is in
      cc

  module _ (end : ℕ) (e : end ≡ get_or starts i 0 + length (run_number held i)) where
    pub part_is : take (end - get_or starts i 0) (drop (get_or starts i 0) held) ≡ run_number held i
    part_is = let z : end - get_or starts i 0 ≡ length (run_number held i) = omega arith in ap (λ (n : ℕ). take n (drop (get_or starts i 0) held)) z ∙ words_there_are

    pub held_stands :
        (old out : List ℕ) → length (run_number held i) ≤ length old → out ≡ overlay 0 (take (end - get_or starts i 0) (drop (get_or starts i 0) held)) old
        → Stands (run_number held i) out (end - get_or starts i 0)
    held_stands old out h f =
        put_front (run_number held i) old out (end - get_or starts i 0) (omega arith) h (f ∙ ap (λ (l : List ℕ). overlay 0 l old) part_is)

-- ---- a reciprocal

module _ (ws places : List ℕ) (n j : ℕ) (there : T (all_places_there ws places)) (h : j < length places) where
  made_run : made_words ws places n j ≡ reciprocal_run ws places n j
  unfolding reciprocal_run all_tokens
  made_run = append-nil (tokens unnumbered (made ws places n j)) ∙ ap (tokens unnumbered) (sym (made_is ws places n j h (Op 0 nil)))

  pub reciprocal_stands : (c : ℕ) (out : List ℕ) → BoundSo (whole_reciprocal ws places n j) c out → Stands (reciprocal_run ws places n j) out c
  reciprocal_stands c out s =
      let r = made_so ws places n j h (tested_there ws places there) out c s in
      record { many = r.0 ∙ ap length made_run; words = r.1 ∙ made_run; inside = r.2 }

-- ---- members replaced

-- words without a switch have none to replace
unfused : {held members numbers : List ℕ} → Fusable held members numbers → (ws : List ℕ) (m : ℕ) → trees_in ws ≡ some m → no_switch_words ws ≡ true → fused_by held members numbers ws ≡ ws
unfolding fused_by
unfused {held} {members} {numbers} f ws m e none = fused_words_same (steps_at held members numbers) ws m e f.switches (subst T (sym none) tt)

small_each : (l : List ℕ) → ((i : ℕ) → i < length l → get_or l i 0 ≤ 549755813888) → all_small l ≡ true
unfolding all_small
small_each [] f = refl
small_each (n ∷ l) f = rw (le-leb n 549755813888 (f 0 (omega arith)), small_each l (λ i h. f (suc i) (omega arith))) refl

module _ {held members numbers : List ℕ} (f : Fusable held members numbers) (old : List ℕ) (len : ℕ) (lent : len ≤ length old) (short : len ≤ 1929) (c : Complete (take len old)) where
  found : all_there old len (length members) (length numbers) ≡ true
  unfolding all_there some_trees
  found = rw (le-leb len (length old) lent, c.1, le-leb (length members) (length numbers) f.numbered) refl

  used_small : (i : ℕ) → i < length (take (length members) numbers) → get_or (take (length members) numbers) i 0 ≤ 549755813888
  used_small i h =
      let b : i < length members = omega (arith, h, length-take (length members) numbers) in
      subst (λ (x : ℕ). x ≤ 549755813888) (sym (get_or-take (length members) numbers i 0 b)) (f.small i b)

  room : room_for len (take (length members) numbers) ≡ true
  unfolding room_for
  room = rw (le-leb len 1929 short, small_each (take (length members) numbers) used_small) refl

  abbrev new : List ℕ
  new = fused_by held members numbers (take len old)

  became : fused_words held members numbers (take len old) ≡ some new
  unfolding fused_by
  became = fused_words_are held members numbers (take len old) c.0 c.1 f.there f.numbered

  fusing_so : fusing held members numbers old len ≡ record { answer = Ok (length new); out = new ++ drop (length new) old }
  unfolding fusing fusing_by
  fusing_so =
      ap (λ (b : Bool). fusing_by b (room_for len (take (length members) numbers)) (fused_words held members numbers (take len old)) old) found
      ∙ (ap (λ (b : Bool). fusing_by true b (fused_words held members numbers (take len old)) old) room
      ∙ ap (λ (o : Option (List ℕ)). fusing_by true true o old) became)

  pub fused_stands :
      (n : ℕ) (out : List ℕ) → Ok n ≡ (fusing held members numbers old len).answer → out ≡ (fusing held members numbers old len).out
      → Stands (fused_by held members numbers (take len old)) out n
  fused_stands n out e g =
      let q : Ok n ≡ Ok (length new) = e ∙ ap (λ (b : Fusing). b.answer) fusing_so in
      let p : n ≡ length new = cc in
      in_front new old out n p (g ∙ (ap (λ (b : Fusing). b.out) fusing_so ∙ ap (λ (x : ℕ). new ++ drop x old) (sym p)))

  pub unfused_stands : no_switch_words (take len old) ≡ true → Stands (fused_by held members numbers (take len old)) old len
  unfused_stands none =
      let same = unfused f (take len old) c.0 c.1 none in
      record { many = omega (arith, ap length same, length-take-le len old lent); words = sym same; inside = lent }

  pub fused_always : (b : Result ℕ Fault) → b ≡ (fusing held members numbers old len).answer → IsOk b
  fused_always b e =
      let q : b ≡ Ok (length new) = e ∙ ap (λ (b : Fusing). b.answer) fusing_so in
      subst (λ (x : Result ℕ Fault). IsOk x) (sym q) (search rules)

-- ---- the tree of a number

module _ {ws : List ℕ} {k first : ℕ} {places held starts members ends numbers : List ℕ} (p : Prepared ws k first places held starts members ends numbers) where
  pub before_stands : (i : ℕ) → i < length starts → (out : List ℕ) (n : ℕ) → Stands (run_number held i) out n → Stands (settled_run ws k first places i) out n
  before_stands i h out n s = stands_as (run_number held i) (settled_run ws k first places i) out n (held_run_is p i h) s

  pub after_stands :
      (i : ℕ) → length starts ≤ i → (x : ℕ) → x ≡ first + (length starts - k) → (out : List ℕ) (n : ℕ) → Stands (reciprocal_run ws places x (i - length starts)) out n
      → Stands (settled_run ws k first places i) out n
  after_stands i h x e out n s =
      let z : length starts + (i - length starts) ≡ i = omega arith in
      stands_as (reciprocal_run ws places x (i - length starts)) (settled_run ws k first places i) out n
      (ap (λ (y : ℕ). reciprocal_run ws places y (i - length starts)) e ∙ (reciprocal_run_is p (i - length starts) ∙ ap (settled_run ws k first places) z)) s

  pub fusable : Fusable held members numbers
  fusable =
      record {
        there = subst (λ (l : List ℕ). AllThere held l) (sym p.members_are) (members_there held (held_complete p) 0);
        switches = subst (λ (l : List ℕ). OfSwitches (steps_at held l numbers)) (sym p.members_are) (members_steps held (held_complete p) 0 numbers);
        numbered = omega (arith, p.numbered);
        small = λ i h. p.small i (omega (arith, h, p.numbered));
      }

  module _ (i : ℕ) (h : i < length starts + length places) (mid : List ℕ) (len : ℕ) (s : Stands (settled_run ws k first places i) mid len) where
    pub run_complete : Complete (take len mid)
    run_complete = (1, ap trees_in s.words ∙ settled_whole p i h)

    pub final_stands : (out : List ℕ) (n : ℕ) → Stands (fused_by held members numbers (take len mid)) out n → Stands (tree_run ws k first places numbers i) out n
    final_stands out n t =
        stands_as (fused_by held members numbers (take len mid)) (tree_run ws k first places numbers i) out n (ap (fused_by held members numbers) s.words ∙ fused_final p i h) t

  -- ---- written over a table

  module _ (i : ℕ) (at : ℕ) (old out : List ℕ) where
    module _ (h : i < length starts) where
      plain_run : no_switch_words (run_number held i) ≡ true → run_number held i ≡ tree_run ws k first places numbers i
      plain_run none =
          let j : i < length starts + length places = omega arith in
          sym (unfused fusable (run_number held i) 1 (ap trees_in (held_run_is p i h) ∙ settled_whole p i j) none)
          ∙ (ap (fused_by held members numbers) (held_run_is p i h) ∙ fused_final p i j)

      -- one without a switch from where it is held
      pub plain_put :
          (end : ℕ) → end ≡ get_or starts i 0 + length (run_number held i) → no_switch_words (take (end - get_or starts i 0) (drop (get_or starts i 0) held)) ≡ true
          → out ≡ overlay at (take (end - get_or starts i 0) (drop (get_or starts i 0) held)) old
          → (at + (end - get_or starts i 0) ≡ at + length (tree_run ws k first places numbers i)) × (out ≡ overlay at (tree_run ws k first places numbers i) old)
      plain_put end e none f =
          let part = part_is held starts i (held_complete p) p.starts_are h end e in
          let same = plain_run (subst (λ (l : List ℕ). no_switch_words l ≡ true) part none) in
          (omega (arith, ap length same), f ∙ ap (λ (l : List ℕ). overlay at l old) (part ∙ same))
