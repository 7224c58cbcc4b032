-- What `line_at` answers and leaves, from what its parts told. Assumes nothing.
use Prim.Native.Nat.{ℕ, ◌+◌, ◌≤◌, ◌<◌}
use native.Mathlib.Omega.{arith}
use mathlib.Core.Path.{◌≡◌, refl, sym, ap, ◌∙◌, subst}
use mathlib.Core.Bool.{Bool, true, false}
use mathlib.Core.Option.{Option, none, some}
use mathlib.Core.List.{List, ◌++◌}
use borrow.Author.Tests.{lt-ltb, le-ltb, ltb-true, ltb-false}
use lib.ListN.{length, get_or, drop}
use lib.Seq.{sets, sets-eq}
use lib.Dec.{T, ltb}
use Rattle.spec_tree.specs.Tree.{Tree}
use Rattle.spec_tree.specs.Facts.{size}
use Rattle.spec_tree.specs.Passes.{tree_ok}
use Rattle.spec_tree.specs.Tokens.{run_at}
use Rattle.spec_tree.specs.text.Text.{display}
use Rattle.fmt.specs.emit.Writing.{Writes}
use Rattle.fmt.proofs.emit.WriteLaws.{writes_then, writes_as}
use Rattle.fmt.specs.checked.Check.{rows_in, tree_in, checked_answer}
use Rattle.fmt.specs.shapes.Places.{tree_here, Stands, Passes}
use Rattle.std.specs.Prelude.{Result, Ok, Err, None}
use Rattle.words.specs.declared.fault.Fault.{Fault}
use Rattle.words.specs.declared.fault.Fault.TheVariants as fault
use Rattle.print.specs.lines.Line.{Spoken, starts_line, row_line, line_by, line_of, line_answer, bytes_left, opening, closing, Wrote}
use Rattle.print.specs.declared.lines.Line.{Line}
use Rattle.print.proofs.lines.RowLaws.{starts_past, line_parts}

clash : (b : Bool) → b ≡ true → b ≡ false → ⊥
clash b e f = let z : ◌≡◌ {A = ℕ} 0 1 = cc in omega arith

module _ (rows ws : List ℕ) (at : ℕ) where
  abbrev row : ℕ
  row = get_or ws at 0

  abbrev tree : Tree
  tree = tree_here rows ws (at + 1)

  abbrev text : List ℕ
  text = row_line row tree

  pub begun_inside : true ≡ starts_line (get_or ws at 0) → at < length ws
  begun_inside e = go (ltb at (length ws)) refl
    where
      go : (b : Bool) → ltb at (length ws) ≡ b → at < length ws
      go true f = ltb-true at (length ws) f
      go false f = absurd (clash (starts_line (get_or ws at 0)) (sym e) (sym (starts_past ws at (ltb-false at (length ws) f))))

  -- ---- the line that stands there

  by_true : (b : Bool) (o : Option ℕ) (g : Bool) (n : ℕ) (s : List ℕ) → b ≡ true → o ≡ some n → T g → line_by b o g at s ≡ some (record { text = s; next = at + 1 + n })
  unfolding line_by
  by_true false o g n s e f t = absurd (clash false e refl)
  by_true true none g n s e f t = absurd (let z : ◌≡◌ {A = ℕ} 0 1 = cc in omega arith)
  by_true true (some m) false n s e f t = absurd t
  by_true true (some m) true n s e f t = let z : m ≡ n = cc in ap (λ (k : ℕ). some (record { text = s; next = at + 1 + k })) z

  pub line_here : true ≡ starts_line (get_or ws at 0) → Stands rows ws (at + 1) → line_of rows ws at ≡ some (record { text = text; next = at + 1 + size tree })
  unfolding line_of
  line_here e S = by_true (starts_line row) (run_at ws (at + 1)) (tree_ok tree) (size tree) text (sym e) S.run S.good

  no_start : false ≡ starts_line (get_or ws at 0) → line_of rows ws at ≡ none
  unfolding line_of
  no_start e = go (starts_line row) (sym e)
    where
      go : (b : Bool) → b ≡ false → line_by b (run_at ws (at + 1)) (tree_ok tree) at text ≡ none
      go true f = absurd (clash true refl f)
      go false f = unfold line_by in refl

  no_tree : None ≡ checked_answer (at + 1) (run_at ws (at + 1)) (tree_ok (tree_in (rows_in rows) ws (at + 1))) → line_of rows ws at ≡ none
  unfolding line_of tree_here checked_answer
  no_tree e = go (starts_line row) (run_at ws (at + 1)) (tree_ok (tree_in (rows_in rows) ws (at + 1))) e
    where
      go : (b : Bool) (o : Option ℕ) (g : Bool) → None ≡ checked_answer (at + 1) o g → line_by b o g at text ≡ none
      go false o g e = unfold line_by in refl
      go true none g e = unfold line_by in refl
      go true (some n) false e = unfold line_by in refl
      go true (some n) true e = absurd (let z : ◌≡◌ {A = ℕ} 0 1 = cc in omega arith)

  -- ---- what is promised

  abbrev pub Promised : Option Spoken → List ℕ → Result Line Fault → List ℕ → Type 0
  Promised o old r new = (r ≡ line_answer o (length old)) × (new ≡ bytes_left o old)

  broken : (o : Option Spoken) (old new : List ℕ) → o ≡ none → new ≡ old → Promised o old (Err fault.Broken) new
  unfolding line_answer bytes_left
  broken none old new e f = (refl, f)
  broken (some s) old new e f = absurd (let z : ◌≡◌ {A = ℕ} 0 1 = cc in omega arith)

  module _ (old : List ℕ) where
    pub not_begun : false ≡ starts_line (get_or ws at 0) → Promised (line_of rows ws at) old (Err fault.Broken) old
    not_begun e = broken (line_of rows ws at) old old (no_start e) refl

    pub not_there : None ≡ checked_answer (at + 1) (run_at ws (at + 1)) (tree_ok (tree_in (rows_in rows) ws (at + 1))) → Promised (line_of rows ws at) old (Err fault.Broken) old
    not_there e = broken (line_of rows ws at) old old (no_tree e) refl

    too_short : (s : Spoken) → length old < length s.text → Promised (some s) old (Err fault.NoRoom) old
    unfolding line_answer bytes_left
    too_short s h = rw (lt-ltb (length old) (length s.text) h) (refl, refl)

    fitting : (s : Spoken) (new : List ℕ) → length s.text ≤ length old → new ≡ s.text ++ drop (length s.text) old → Promised (some s) old (Ok (record { bytes = length s.text; next = s.next })) new
    unfolding line_answer bytes_left
    fitting s new h e = rw (le-ltb (length old) (length s.text) h) (refl, e)

    module _ (b : true ≡ starts_line (get_or ws at 0)) (S : Stands rows ws (at + 1)) (mid : List ℕ) (next end : ℕ) (W : Wrote rows ws at true old mid next end) where
      pub no_room : length mid < end → Promised (line_of rows ws at) old (Err fault.NoRoom) mid
      no_room h =
          let m : mid ≡ old = W.1.leaves in
          let l : length old < length text = omega (arith, h, W.1.ends, ap length m) in
          subst (λ (x : List ℕ). Promised (line_of rows ws at) old (Err fault.NoRoom) x) (sym m)
          (subst (λ (o : Option Spoken). Promised o old (Err fault.NoRoom) old) (sym (line_here b S)) (too_short (record { text = text; next = at + 1 + size tree }) l))

      pub written : (new : List ℕ) (after last : ℕ) → end ≤ length mid → Wrote rows ws at false mid new after last → Promised (line_of rows ws at) old (Ok (record { bytes = last; next = after })) new
      written new after last h X =
          let m : mid ≡ old = W.1.leaves in
          let l : length text ≤ length old = omega (arith, h, W.1.ends, ap length m) in
          let n : last ≡ length text = omega (arith, X.1.ends, l, ap length m) in
          let q : new ≡ text ++ drop (length text) old =
          X.1.leaves ∙ (ap (λ (x : List ℕ). sets x 0 text) m ∙ (sets-eq text old 0 (omega arith) ∙ ap (λ (i : ℕ). text ++ drop i old) (let z : 0 + length text ≡ length text = omega arith in z))) in
          let s : Spoken = record { text = text; next = at + 1 + size tree } in
          rw (n, X.0) (subst (λ (o : Option Spoken). Promised o old (Ok (record { bytes = length text; next = at + 1 + size tree })) new) (sym (line_here b S)) (fitting s new l q))

  -- ---- what `write_line` leaves

  pub told :
      true ≡ starts_line (get_or ws at 0) → (dry : Bool) (old mid : List ℕ) (to : ℕ) → Writes dry old 0 (opening rows (get_or ws at 0)) mid to
      → (new : List ℕ) (next place : ℕ) → Passes dry mid (at + 1) to tree (display tree) new next place
      → (last : List ℕ) (end : ℕ) → Writes dry new place (closing (get_or ws at 0)) last end → Wrote rows ws at dry old last next end
  told b dry old mid to O new next place P last end C =
      (P.token, writes_as (opening rows row ++ (display tree ++ closing row)) text (line_parts rows row tree b) (writes_then O (writes_then P.written C)))
