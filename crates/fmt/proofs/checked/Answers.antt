-- What an answer of `tree_ok` tells: for those who call it. Assumes nothing.
use Prim.Native.Nat.{ℕ, ◌+◌, ◌-◌, ◌≤◌, ◌<◌}
use native.Mathlib.Omega.{arith}
use mathlib.Core.Path.{◌≡◌, refl, ap}
use mathlib.Core.Bool.{Bool, true, false}
use mathlib.Core.Option.{Option, none, some}
use mathlib.Core.List.{List}
use lib.ListN.{length, drop, length-drop}
use lib.Dec.{T}
use Rattle.spec_tree.specs.Rows.{Row}
use Rattle.spec_tree.specs.Passes.{tree_ok}
use Rattle.spec_tree.specs.Tokens.{run_at}
use Rattle.fmt.specs.checked.Check.{tree_in, checked_answer}
use Rattle.std.specs.Prelude.{Some, None}
use Rattle.fmt.proofs.checked.RunLaws.{ends_inside}

-- a tree that is there and passes
pub record Passed (rows : List Row) (ws : List ℕ) (at end : ℕ) : Type 0 where
  pub run : run_at ws at ≡ some (end - at)
  pub after : at < end
  pub within : end ≤ length ws
  pub fine : T (tree_ok (tree_in rows ws at))

record Ended (o : Option ℕ) (ok : Bool) (at end : ℕ) : Type 0 where
  there : o ≡ some (end - at)
  start : at ≤ end
  ok_is : T ok

ended : (at end : ℕ) (o : Option ℕ) (ok : Bool) → Some end ≡ checked_answer at o ok → Ended o ok at end
unfolding checked_answer
ended at end none ok e = absurd (let z : ◌≡◌ {A = ℕ} 0 1 = cc in omega arith)
ended at end (some n) false e = absurd (let z : ◌≡◌ {A = ℕ} 0 1 = cc in omega arith)
ended at end (some n) true e =
    let q : end ≡ at + n = cc in
    let d : n ≡ end - at = omega arith in
    record { there = ap some d; start = omega arith; ok_is = tt }

pub passed :
    (rows : List Row) (ws : List ℕ) (at end : ℕ) → Some end ≡ checked_answer at (run_at ws at) (tree_ok (tree_in rows ws at)) → Passed rows ws at end
unfolding run_at
passed rows ws at end e =
    let p = ended at end (run_at ws at) (tree_ok (tree_in rows ws at)) e in
    let k = ends_inside (drop at ws) (end - at) p.there in
    record { run = p.there; after = omega (arith, k, p.start); within = omega (arith, k, p.start, length-drop at ws); fine = p.ok_is }

failing : (at n : ℕ) (o : Option ℕ) (ok : Bool) → None ≡ checked_answer at o ok → o ≡ some n → ok ≡ false
unfolding checked_answer
failing at n none ok e r = absurd (let z : ◌≡◌ {A = ℕ} 0 1 = cc in omega arith)
failing at n (some m) false e r = refl
failing at n (some m) true e r = absurd (let z : ◌≡◌ {A = ℕ} 0 1 = cc in omega arith)

-- a tree that is there fails where the answer is None
pub failed :
    (rows : List Row) (ws : List ℕ) (at n : ℕ) → None ≡ checked_answer at (run_at ws at) (tree_ok (tree_in rows ws at)) → run_at ws at ≡ some n
    → tree_ok (tree_in rows ws at) ≡ false
failed rows ws at n e r = failing at n (run_at ws at) (tree_ok (tree_in rows ws at)) e r
