-- What a line that was written tells a loop over an answer's rows: it stands in the bytes lent, and the next place is further on. Assumes nothing.
use Prim.Native.Nat.{ℕ, ◌+◌, ◌≤◌, ◌<◌}
use native.Mathlib.Omega.{arith}
use mathlib.Core.Path.{◌≡◌, refl, sym, ap, ◌∙◌}
use mathlib.Core.Bool.{Bool, true, false, cond}
use mathlib.Core.Option.{Option, none, some}
use mathlib.Core.List.{List, ◌++◌}
use borrow.Author.Tests.{ltb-false}
use lib.ListN.{length, get_or, take, drop}
use lib.Seq.{take_at}
use lib.Dec.{ltb}
use Rattle.spec_tree.specs.Passes.{tree_ok}
use Rattle.spec_tree.specs.Tokens.{run_at}
use Rattle.fmt.specs.shapes.Places.{tree_here}
use Rattle.print.specs.lines.Line.{Spoken, starts_line, row_line, line_by, line_of, line_answer, bytes_left}
use Rattle.std.specs.Prelude.{Ok, Err}
use Rattle.words.specs.declared.fault.Fault.TheVariants as fault
use Rattle.print.specs.declared.lines.Line.{Line}

-- the line that was answered, all of it in front
pub record Told (o : Option Spoken) (old : List ℕ) (n next : ℕ) (new : List ℕ) : Type 0 where
  pub spoken : Spoken
  pub here : o ≡ some spoken
  pub bytes : n ≡ length spoken.text
  pub place : next ≡ spoken.next
  pub inside : n ≤ length old
  pub front : take n new ≡ spoken.text

abbrev whole : Spoken → Line
whole s = record { bytes = length s.text; next = s.next }

pub told : (o : Option Spoken) (old : List ℕ) (l : Line) (new : List ℕ) → Ok l ≡ line_answer o (length old) → new ≡ bytes_left o old → Told o old l.bytes l.next new
unfolding line_answer bytes_left
told none old l new e f = absurd (let z : ◌≡◌ {A = ℕ} 0 1 = cc in omega arith)
told (some s) old l new e f = go (ltb (length old) (length s.text)) refl e f
  where
    go : (b : Bool) → ltb (length old) (length s.text) ≡ b → Ok l ≡ cond b (Err fault.NoRoom) (Ok (whole s))
        → new ≡ cond b old (s.text ++ drop (length s.text) old) → Told (some s) old l.bytes l.next new
    go true q e f = absurd (let z : ◌≡◌ {A = ℕ} 0 1 = cc in omega arith)
    go false q e f =
        let w : l ≡ whole s = cc in
        let m : l.bytes ≡ length s.text = ap (λ (x : Line). x.bytes) w in
        let p : l.next ≡ s.next = ap (λ (x : Line). x.next) w in
        let h = ltb-false (length old) (length s.text) q in
        record { spoken = s; here = refl; bytes = m; place = p; inside = omega arith; front = ap (take l.bytes) f ∙ take_at s.text (drop (length s.text) old) l.bytes (sym m) }

by_later : (b : Bool) (o : Option ℕ) (g : Bool) (at : ℕ) (text : List ℕ) (s : Spoken) → line_by b o g at text ≡ some s → at < s.next
unfolding line_by
by_later false o g at text s e = absurd (let z : ◌≡◌ {A = ℕ} 0 1 = cc in omega arith)
by_later true none g at text s e = absurd (let z : ◌≡◌ {A = ℕ} 0 1 = cc in omega arith)
by_later true (some n) false at text s e = absurd (let z : ◌≡◌ {A = ℕ} 0 1 = cc in omega arith)
by_later true (some n) true at text s e = let p : at + 1 + n ≡ s.next = cc in omega arith

pub line_later : (rows ws : List ℕ) (at : ℕ) (s : Spoken) → line_of rows ws at ≡ some s → at < s.next
unfolding line_of
line_later rows ws at s e =
    by_later (starts_line (get_or ws at 0)) (run_at ws (at + 1)) (tree_ok (tree_here rows ws (at + 1))) at (row_line (get_or ws at 0) (tree_here rows ws (at + 1))) s e

-- for a loop: the next place is further on, and the line is inside what was lent
pub goes_on :
    (rows ws : List ℕ) (at : ℕ) (old : List ℕ) (l : Line) (new : List ℕ) → Ok l ≡ line_answer (line_of rows ws at) (length old) → new ≡ bytes_left (line_of rows ws at) old
    → (at < l.next) × (l.bytes ≤ length old)
goes_on rows ws at old l new e f =
    let T = told (line_of rows ws at) old l new e f in
    (omega (arith, line_later rows ws at T.spoken T.here, T.place), T.inside)
