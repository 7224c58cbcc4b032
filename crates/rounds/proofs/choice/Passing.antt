-- Words that pass, tree by tree, and what of it a place knows. Assumes nothing.
use Rattle.std.specs.Prelude.{Some, None}
use Prim.Native.Nat.{ℕ, ◌+◌, ◌*◌, ◌≤◌, ◌<◌}
use native.Mathlib.Omega.{arith}
use mathlib.Core.Path.{◌≡◌, refl, sym, subst}
use mathlib.Core.Bool.{Bool, true, false}
use mathlib.Core.Option.{Option, none, some}
use mathlib.Core.List.{List}
use lib.ListN.{length, get_or, take, drop, length-drop}
use lib.Seq.{take-add, take_all}
use lib.Dec.{T}
use Rattle.spec_tree.specs.Bytes.{every}
use Rattle.spec_tree.specs.Facts.{size}
use Rattle.spec_tree.specs.Passes.{tree_ok}
use Rattle.spec_tree.specs.Tokens.{trees_in, run_at, name_in}
use Rattle.spec_tree.proofs.Tests.{is_true, every_more}
use Rattle.spec_tree.proofs.Logic.{false_is}
use Rattle.spec_tree.proofs.TokenLaws.{run_size, words_complete}
use Rattle.fmt.specs.checked.Check.{rows_in, tree_in, word_ok, checked_answer}
use Rattle.fmt.proofs.checked.RunLaws.{run_tested, ends_inside}
use Rattle.fmt.specs.shapes.Places.{tree_here}
use Rattle.rounds.specs.uses.Marks.{Complete}
use Rattle.rounds.proofs.uses.Runs.{how_many}
use Rattle.laws.specs.positions.Places.{text_at}
use Rattle.fmt.specs.shapes.Places.{Stands}
use Rattle.fmt.specs.order.Order.{text_here, both_long}
use Rattle.fmt.proofs.order.Lengths.{text_short}
use Rattle.rounds.specs.choice.Leading.{Writable}
use Rattle.replace.proofs.replacing.Scanning.{every_drop, every_take}

-- ---- from tree to tree

pub record Passing (rows ws : List ℕ) (at : ℕ) : Type 0 where
  pub within : at ≤ length ws
  pub pass : T (every (word_ok (rows_in rows)) (take at ws))

pub passing_starts : (rows ws : List ℕ) → Passing rows ws 0
unfolding every
passing_starts rows ws = record { within = omega arith; pass = tt }

ended : (at e : ℕ) (o : Option ℕ) (b : Bool) → Some e ≡ checked_answer at o b → (n : ℕ) × (o ≡ some n) × (e ≡ at + n) × T b
unfolding checked_answer
ended at e none b p = absurd (let z : ◌≡◌ {A = ℕ} 0 1 = cc in omega arith)
ended at e (some n) true p = let q : e ≡ at + n = cc in (n, refl, q, tt)
ended at e (some n) false p = absurd (let z : ◌≡◌ {A = ℕ} 0 1 = cc in omega arith)

broken : (at : ℕ) (o : Option ℕ) (b : Bool) (n : ℕ) → o ≡ some n → T b → None ≡ checked_answer at o b → ⊥
unfolding checked_answer
broken at none b n e t p = let z : ◌≡◌ {A = ℕ} 0 1 = cc in omega arith
broken at (some m) true n e t p = let z : ◌≡◌ {A = ℕ} 0 1 = cc in omega arith
broken at (some m) false n e t p = t

module _ {rows ws : List ℕ} {at : ℕ} (k : Passing rows ws at) where
  module _ (e : ℕ) (p : Some e ≡ checked_answer at (run_at ws at) (tree_ok (tree_in (rows_in rows) ws at))) where
    pub passing_turns : (at < e) × Passing rows ws e
    unfolding run_at
    passing_turns =
        let q = ended at e (run_at ws at) (tree_ok (tree_in (rows_in rows) ws at)) p in
        let n = q.0 in
        let i = ends_inside (drop at ws) n q.1 in
        let ok = word_ok (rows_in rows) in
        let t : T (every ok (take n (drop at ws))) = subst T (run_tested (rows_in rows) ws at n q.1) q.3 in
        let s : T (every ok (take (at + n) ws)) = subst (λ (x : List ℕ). T (every ok x)) (sym (take-add at n ws)) (every_more ok (take at ws) (take n (drop at ws)) k.pass t) in
        let w : e ≤ length ws = omega (arith, q.2, i.1, length-drop at ws, k.within, i.0) in
        (omega (arith, q.2, i.0), record { within = w; pass = subst (λ (m : ℕ). T (every ok (take m ws))) (sym q.2) s })

  pub passing_ends : length ws ≤ at → true ≡ every (word_ok (rows_in rows)) ws
  passing_ends h = sym (is_true (every (word_ok (rows_in rows)) ws) (subst (λ (x : List ℕ). T (every (word_ok (rows_in rows)) x)) (take_all at ws h) k.pass))

  pub passing_stops :
      Complete ws → at < length ws → None ≡ checked_answer at (run_at ws at) (tree_ok (tree_in (rows_in rows) ws at)) → false ≡ every (word_ok (rows_in rows)) ws
  passing_stops c h p =
      let m = how_many (trees_in ws) c in
      let r = run_size (name_in (rows_in rows)) ws m.0 at m.1 h in
      let n = size (tree_in (rows_in rows) ws at) in
      false_is (every (word_ok (rows_in rows)) ws)
      (λ t.
      let u : T (tree_ok (tree_in (rows_in rows) ws at)) = subst T (sym (run_tested (rows_in rows) ws at n r)) (every_take (word_ok (rows_in rows)) n (drop at ws) (every_drop (word_ok (rows_in rows)) at ws t)) in
      broken at (run_at ws at) (tree_ok (tree_in (rows_in rows) ws at)) n r u p)

-- ---- what a place knows

module _ (rows ws : List ℕ) (room : ℕ) (c : Complete ws) (k : Writable rows ws room) (bits : (j : ℕ) → get_or ws j 0 < 18446744073709551616) where
  pub place_run : (i : ℕ) → i < length ws → run_at ws i ≡ some (size (tree_here rows ws i))
  unfolding tree_here
  place_run i h = let m = how_many (trees_in ws) c in run_size (name_in (rows_in rows)) ws m.0 i m.1 h

  place_ok : (i : ℕ) → i < length ws → T (tree_ok (tree_here rows ws i))
  unfolding tree_here
  place_ok i h =
      let n = size (tree_here rows ws i) in
      subst T (sym (run_tested (rows_in rows) ws i n (place_run i h))) (every_take (word_ok (rows_in rows)) n (drop i ws) (every_drop (word_ok (rows_in rows)) i ws k.pass))

  pub place_stands : (i : ℕ) → i < length ws → Stands rows ws i
  place_stands i h = record { run = place_run i h; good = place_ok i h }

  place_short : (i : ℕ) → i < length ws → length (text_here rows ws i) ≤ 34 * length ws
  unfolding run_at
  place_short i h =
      omega (arith, text_short rows ws i bits (place_ok i h), (words_complete (drop i ws) 1 (size (tree_here rows ws i)) (place_run i h)).0, length-drop i ws)

  -- two texts fit what is lent, and are those of the places
  pub texts_fit : (i j : ℕ) → i < length ws → j < length ws → both_long rows ws i j ≤ room
  unfolding both_long
  texts_fit i j h g = omega (arith, place_short i h, place_short j g, k.fits)

pub text_is : (rows ws : List ℕ) (i : ℕ) → text_here rows ws i ≡ text_at ws (name_in (rows_in rows)) i
unfolding text_at text_here tree_here
text_is rows ws i = refl
