-- A line of an answer's text from the rows that it stands at (01, "Sheet and printing"), whatever the words are, and all lines from a place on. Only lets and results have
-- a line here: a flat answer has nothing else. Assumes nothing.
use Rattle.std.specs.Prelude.{ℕ, zero, suc, ◌+◌, ◌/◌, ◌%◌, ◌≤◌, ◌≡◌, Bool, true, false, ◌&&◌, ◌||◌, cond, List, [], ◌∷◌, ◌++◌, length, get_or, drop, eqb, ltb}
use Rattle.std.proofs.Math.Option.{Option, none, some}
use Rattle.spec_tree.specs.Bytes.{bytes}
use Rattle.spec_tree.specs.Tree.{xname, Tree}
use Rattle.spec_tree.specs.Facts.{size}
use Rattle.spec_tree.specs.Passes.{tree_ok}
use Rattle.spec_tree.specs.Tokens.{kind_of, below_of, run_at}
use Rattle.spec_tree.specs.text.Text.{display}
use Rattle.spec_cse.specs.Answer.{Intermediates, Let, Match, end, step, stmt_text}
use Rattle.spec_cse.specs.AnswerRows.{let_row, result_row}
use Rattle.fmt.specs.emit.Writing.{Writes, low_bytes}
use Rattle.fmt.specs.symbols.Symbols.{symbol_text}
use Rattle.print.specs.told.Pieces.{let_opening}
use Rattle.fmt.specs.shapes.Places.{tree_here}
use Rattle.std.specs.Prelude.{Result, Ok, Err}
use Rattle.words.specs.declared.fault.Fault.{Fault}
use Rattle.words.specs.declared.fault.Fault.TheVariants as fault
use Rattle.print.specs.declared.lines.Line.{Line}

-- a result's row, or a let's of a name `__xN`
unfoldable pub starts_line : ℕ → Bool
starts_line w = eqb w result_row || (eqb (kind_of w) let_row && eqb (below_of w % 3) 1)

-- the line of a row and the expression below it
unfoldable pub row_line : ℕ → Tree → List ℕ
unfolding display stmt_text
row_line w t = cond (eqb w result_row) (display t) (stmt_text (Let (xname (below_of w / 3)) t)) ++ (10 ∷ [])

-- a line, and the place of the next row that begins one
abbrev pub Spoken : Type 0
Spoken = record { text : List ℕ; next : ℕ }

-- from whether a row begins a line, how many words the tree after it is, and whether that can be written
unfoldable pub line_by : Bool → Option ℕ → Bool → ℕ → List ℕ → Option Spoken
line_by false o good at text = none
line_by true none good at text = none
line_by true (some n) false at text = none
line_by true (some n) true at text = some (record { text = text; next = at + 1 + n })

-- the line at a place, or none where no let or result stands there, or no tree after it that can be written
unfoldable pub line_of : List ℕ → List ℕ → ℕ → Option Spoken
unfolding starts_line row_line line_by run_at tree_ok tree_here
line_of rows ws at =
    line_by (starts_line (get_or ws at 0)) (run_at ws (at + 1)) (tree_ok (tree_here rows ws (at + 1))) at (row_line (get_or ws at 0) (tree_here rows ws (at + 1)))

-- ---- what `line_at` answers, and the bytes after it

unfoldable pub line_answer : Option Spoken → ℕ → Result Line Fault
line_answer none lent = Err fault.Broken
line_answer (some s) lent = cond (ltb lent (length s.text)) (Err fault.NoRoom) (Ok (record { bytes = length s.text; next = s.next }))

unfoldable pub bytes_left : Option Spoken → List ℕ → List ℕ
bytes_left none old = old
bytes_left (some s) old = cond (ltb (length old) (length s.text)) old (s.text ++ drop (length s.text) old)

-- ---- what stands before and after the expression

unfoldable pub opening : List ℕ → ℕ → List ℕ
unfolding let_opening low_bytes symbol_text
opening rows w = cond (eqb w result_row) [] (let_opening (low_bytes (symbol_text rows (below_of w))))

unfoldable pub closing : ℕ → List ℕ
closing w = cond (eqb w result_row) (10 ∷ []) (bytes ";\n")

-- a line was written, or measured where `dry`
abbrev pub Wrote : List ℕ → List ℕ → ℕ → Bool → List ℕ → List ℕ → ℕ → ℕ → Type 0
Wrote rows ws at dry old new next last =
    (next ≡ at + 1 + size (tree_here rows ws (at + 1))) × Writes dry old 0 (row_line (get_or ws at 0) (tree_here rows ws (at + 1))) new last

-- ---- all lines from a place on, of at most so many, with so many bytes lent for each; none where one is missing before the words end, or is longer

unfoldable pub prepend : List ℕ → Option (List ℕ) → Option (List ℕ)
prepend s none = none
prepend s (some l) = some (s ++ l)

unfoldable pub lines_from : ℕ → ℕ → List ℕ → List ℕ → ℕ → Option (List ℕ)
unfolding line_of prepend
lines_from lent zero rows ws at = cond (ltb at (length ws)) none (some [])
lines_from lent (suc n) rows ws at =
    elim (ltb at (length ws)) [
      | false ↦ some []
      | true ↦ elim (line_of rows ws at) [
        | none ↦ none
        | some s ↦ elim (ltb lent (length s.text)) [ true ↦ none | false ↦ prepend s.text (lines_from lent n rows ws s.next) ]
      ]
    ]

-- every statement is a let
unfoldable pub all_lets : Intermediates → Bool
all_lets end = true
all_lets (step (Let n e) l) = all_lets l
all_lets (step (Match k key ns arms) l) = false

-- each bound expression, and each result, has at most 1,024 nodes
abbrev pub FewLets : Intermediates → Type 0
FewLets end = Unit {0}
FewLets (step (Let n e) l) = (size e ≤ 1024) × FewLets l
FewLets (step (Match k key ns arms) l) = FewLets l

abbrev pub Few : List Tree → Type 0
Few [] = Unit {0}
Few (t ∷ l) = (size t ≤ 1024) × Few l
