-- What `write_tree` answers from what `tree_ok` and the expression writer tell. Assumes nothing.
use Prim.Native.Nat.{ℕ, ◌+◌, ◌-◌}
use native.Mathlib.Omega.{arith}
use mathlib.Core.Path.{◌≡◌, refl, sym, ◌∙◌, ap, ap₂}
use mathlib.Core.Bool.{Bool, true, false}
use mathlib.Core.Option.{Option, none, some}
use mathlib.Core.List.{List}
use lib.Dec.{T}
use Rattle.spec_tree.specs.Facts.{size}
use Rattle.spec_tree.specs.Passes.{tree_ok}
use Rattle.spec_tree.specs.Tokens.{run_at}
use Rattle.spec_tree.specs.text.Text.{display}
use Rattle.fmt.specs.emit.Writing.{place_after, bytes_after}
use Rattle.fmt.specs.checked.Check.{rows_in, tree_in, checked_answer}
use Rattle.fmt.proofs.checked.Answers.{passed}
use Rattle.fmt.specs.shapes.Places.{tree_here, Stands, Passes}
use Rattle.fmt.proofs.shapes.PlaceLaws.{run_is_size}
use Rattle.fmt.proofs.shapes.NodeLaws.{names}
use Rattle.fmt.specs.writer.Answers.{written_by, write_answer}
use Rattle.std.specs.Prelude.{Some, None}
use Rattle.std.specs.Prelude as std
use Rattle.fmt.specs.declared.writer.Pos.{Pos}

-- the places after a tree and after its text
abbrev pub at_end : ℕ → ℕ → std.Option Pos
at_end next end = Some (record { next = next; to = end })

-- a tree that passes stands at its place
pub passed_stands : (rows ws : List ℕ) (at end : ℕ) → Some end ≡ checked_answer at (run_at ws at) (tree_ok (tree_in (rows_in rows) ws at)) → Stands rows ws at
unfolding tree_here
passed_stands rows ws at end e =
    let p = passed (rows_in rows) ws at end e in
    record { run = p.run ∙ ap some (run_is_size (names rows) ws at (end - at) p.run); good = p.fine }

module _ (at : ℕ) (text : List ℕ) (dry : Bool) (old : List ℕ) (to : ℕ) where
  written_ends :
      (o : Option ℕ) (b : Bool) (n next end : ℕ) (new : List ℕ) → o ≡ some n → T b → next ≡ at + n → end ≡ place_after old to text → new ≡ bytes_after dry old to text
      → (at_end next end ≡ (written_by o b at text dry old to).answer) × (new ≡ (written_by o b at text dry old to).bytes)
  unfolding written_by
  written_ends none b n next end new e t p q r = absurd (let z : ◌≡◌ {A = ℕ} 0 1 = cc in omega arith)
  written_ends (some m) false n next end new e t p q r = absurd t
  written_ends (some m) true n next end new e t p q r = let s : m ≡ n = cc in (ap₂ at_end (p ∙ ap (λ (k : ℕ). at + k) (sym s)) q, r)

  written_broken :
      (o : Option ℕ) (b : Bool) → None ≡ checked_answer at o b → (None ≡ (written_by o b at text dry old to).answer) × (old ≡ (written_by o b at text dry old to).bytes)
  unfolding written_by checked_answer
  written_broken none b e = (refl, refl)
  written_broken (some n) false e = (refl, refl)
  written_broken (some n) true e = absurd (let z : ◌≡◌ {A = ℕ} 0 1 = cc in omega arith)

module _ (rows ws : List ℕ) (at : ℕ) (dry : Bool) (old : List ℕ) (to : ℕ) where
  pub ends :
      (new : List ℕ) (next end : ℕ) → Stands rows ws at → Passes dry old at to (tree_here rows ws at) (display (tree_here rows ws at)) new next end
      → (at_end next end ≡ (write_answer rows ws at dry old to).answer) × (new ≡ (write_answer rows ws at dry old to).bytes)
  unfolding write_answer
  ends new next end S P =
      written_ends at (display (tree_here rows ws at)) dry old to (run_at ws at) (tree_ok (tree_here rows ws at)) (size (tree_here rows ws at)) next end new S.run S.good P.token P.written.ends P.written.leaves

  pub broken :
      None ≡ checked_answer at (run_at ws at) (tree_ok (tree_in (rows_in rows) ws at))
      → (None ≡ (write_answer rows ws at dry old to).answer) × (old ≡ (write_answer rows ws at dry old to).bytes)
  unfolding write_answer tree_here
  broken e = written_broken at (display (tree_in (rows_in rows) ws at)) dry old to (run_at ws at) (tree_ok (tree_in (rows_in rows) ws at)) e
