-- An entry written from its row and the run of its tree. Assumes nothing.
use Prim.Native.Nat.{ℕ, ◌+◌, ◌≤◌}
use native.Mathlib.Omega.{arith}
use mathlib.Core.Path.{◌≡◌, refl, sym, ap, subst}
use mathlib.Core.List.{List}
use lib.ListN.{length, take, set}
use lib.Seq.{take-length}
use Rattle.words.proofs.words.Scanning.{Put}
use Rattle.reciprocals.specs.final.Entries.{final_run, entry_row, entry_tree, entry}
use Rattle.reciprocals.specs.final.Ready.{Stands}
use Rattle.reciprocals.proofs.final.Rows.{entry_long}
use Rattle.reciprocals.proofs.final.Writing.{entry_written}

pub same_put : (old : List ℕ) (at : ℕ) (a b out : List ℕ) → a ≡ b → Put old at a out → Put old at b out
same_put old at a b out e = subst (λ (l : List ℕ). Put old at l out) e

whole : (run : List ℕ) → Stands run run (length run)
whole run = record { many = refl; words = take-length run; inside = omega arith }

module _ (k : ℕ) (places ws taken : List ℕ) (q i : ℕ) (e : i ≡ entry_tree taken k q) where
  pub entry_has : length (entry k places ws taken q) ≡ 1 + length (final_run k places ws i)
  entry_has = omega (arith, entry_long k places ws taken q, ap (λ (x : ℕ). length (final_run k places ws x)) e)

  pub entry_put :
      (row at : ℕ) (old out : List ℕ) → row ≡ entry_row taken q → at + length (entry k places ws taken q) ≤ length old
      → Put (set old at row) (at + 1) (final_run k places ws i) out → Put old at (entry k places ws taken q) out
  entry_put row at old out f h p =
      let run = final_run k places ws i in
      entry_written k places ws taken q i (length run) run e (whole run) row at old out f h
      (same_put (set old at row) (at + 1) run (take (length run) run) out (sym (take-length run)) p)
