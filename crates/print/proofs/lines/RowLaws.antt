-- Which rows begin a line, and a line as what stands before its expression, the expression, and what stands after. Assumes nothing.
use Prim.Native.Nat.{ℕ, ◌+◌, ◌/◌, ◌%◌, ◌≤◌, min}
use native.Mathlib.Omega.{arith}
use mathlib.Core.Path.{◌≡◌, refl, sym, ap, ◌∙◌}
use mathlib.Core.Bool.{Bool, true, false, cond}
use mathlib.Core.List.{List, [], ◌∷◌, ◌++◌, append_assoc}
use borrow.Author.Tests.{eq-eqb, ne_eqb, eqb-true, eqb-false}
use lib.ListN.{length, get_or, get_or-eq_default}
use lib.Dec.{eqb}
use Rattle.spec_tree.specs.Bytes.{bytes, decimal}
use Rattle.spec_tree.specs.Tree.{xname, Tree}
use Rattle.spec_tree.specs.text.Text.{name_text, display}
use Rattle.spec_cse.specs.Answer.{Let, stmt_text}
use Rattle.fmt.specs.emit.Writing.{Writes, low_bytes}
use Rattle.fmt.specs.symbols.Symbols.{symbol_text}
use Rattle.fmt.proofs.symbols.NameLaws.{made_text, low_made}
use Rattle.spec_tree.proofs.Logic.{both_true}
use Rattle.fmt.proofs.emit.WriteLaws.{writes_none}
use Rattle.print.specs.told.Pieces.{let_opening, let_text}
use Rattle.print.proofs.told.PieceLaws.{let_is}
use Rattle.print.proofs.answerwriter.StatementLaws.{opened_let}
use Rattle.print.specs.lines.Line.{starts_line, row_line, opening, closing}

-- ---- which rows begin a line

module _ (w : ℕ) where
  pub starts_result : w ≡ 36 → true ≡ starts_line w
  unfolding starts_line
  starts_result e = rw (eq-eqb w 36 e)

  pub starts_other : (w ≡ 36 → ⊥) → (w % 64 ≡ 29 → ⊥) → false ≡ starts_line w
  unfolding starts_line
  starts_other e f = rw (ne_eqb w 36 e, ne_eqb (w % 64) 29 f)

  pub starts_let : (w ≡ 36 → ⊥) → w % 64 ≡ 29 → eqb (w / 64 % 3) 1 ≡ starts_line w
  unfolding starts_line
  starts_let e f = rw (ne_eqb w 36 e, eq-eqb (w % 64) 29 f)

pub starts_past : (ws : List ℕ) (at : ℕ) → length ws ≤ at → false ≡ starts_line (get_or ws at 0)
starts_past ws at h = starts_other 0 (λ e. omega arith) (λ e. omega arith) ∙ ap starts_line (sym (get_or-eq_default ws 0 h))

-- ---- what is written before and after the expression

module _ {dry : Bool} {old : List ℕ} {to : ℕ} (w : ℕ) where
  pub opening_none : {e : ℕ} (rows : List ℕ) → w ≡ 36 → e ≡ min to (length old + 1) → Writes dry old to (opening rows w) old e
  unfolding opening
  opening_none rows e p = rw (eq-eqb w 36 e) (writes_none p)

  pub opening_let : {new : List ℕ} {e : ℕ} (rows : List ℕ) → (w ≡ 36 → ⊥) → Writes dry old to (let_opening (low_bytes (symbol_text rows (w / 64)))) new e → Writes dry old to (opening rows w) new e
  unfolding opening
  opening_let rows e a = rw (ne_eqb w 36 e) a

  pub closing_result : {new : List ℕ} {e : ℕ} → w ≡ 36 → Writes dry old to (10 ∷ []) new e → Writes dry old to (closing w) new e
  unfolding closing
  closing_result e a = rw (eq-eqb w 36 e) a

  pub closing_let : {new : List ℕ} {e : ℕ} → (w ≡ 36 → ⊥) → Writes dry old to (bytes ";\n") new e → Writes dry old to (closing w) new e
  unfolding closing
  closing_let e a = rw (ne_eqb w 36 e) a

-- ---- the three parts of a line

-- the name of a made symbol
made_name : (rows : List ℕ) (code : ℕ) → code % 3 ≡ 1 → low_bytes (symbol_text rows code) ≡ bytes "__x" ++ decimal (code / 3)
made_name rows code h = ap low_bytes (made_text rows code h) ∙ low_made 95 95 120 (code / 3) (omega arith) (omega arith) (omega arith)

pub let_made : (n : ℕ) (t : Tree) → stmt_text (Let (xname n) t) ≡ let_text (bytes "__x" ++ decimal n) t
unfolding name_text
let_made n t = let_is (xname n) t

let_line : (rows : List ℕ) (code : ℕ) (t : Tree) → code % 3 ≡ 1
    → let_opening (low_bytes (symbol_text rows code)) ++ (display t ++ bytes ";\n") ≡ stmt_text (Let (xname (code / 3)) t) ++ (10 ∷ [])
let_line rows code t h =
    let name = low_bytes (symbol_text rows code) in
    ap (λ (r : List ℕ). let_opening name ++ r) (sym (append_assoc (display t) (bytes ";") (10 ∷ [])))
    ∙ (sym (append_assoc (let_opening name) (display t ++ bytes ";") (10 ∷ []))
    ∙ ap (λ (r : List ℕ). r ++ (10 ∷ []))
    (opened_let name t ∙ (ap (λ (n : List ℕ). let_text n t) (made_name rows code h) ∙ sym (let_made (code / 3) t))))

-- a row that begins a line and is no result's is a let's of a made name
pub let_class : (w : ℕ) → true ≡ starts_line w → (w ≡ 36 → ⊥) → w / 64 % 3 ≡ 1
unfolding starts_line
let_class w b n = eqb-true (w / 64 % 3) 1 (both_true (eqb (w % 64) 29) (eqb (w / 64 % 3) 1) (sym (b ∙ rw (ne_eqb w 36 n)))).1

pub line_parts : (rows : List ℕ) (w : ℕ) (t : Tree) → true ≡ starts_line w → opening rows w ++ (display t ++ closing w) ≡ row_line w t
unfolding opening closing row_line
line_parts rows w t b = go (eqb w 36) refl
  where
    go : (c : Bool) → eqb w 36 ≡ c → cond c [] (let_opening (low_bytes (symbol_text rows (w / 64)))) ++ (display t ++ cond c (10 ∷ []) (bytes ";\n"))
        ≡ cond c (display t) (stmt_text (Let (xname (w / 64 / 3)) t)) ++ (10 ∷ [])
    go true e = refl
    go false e = let_line rows (w / 64) t (let_class w b (eqb-false w 36 e))
