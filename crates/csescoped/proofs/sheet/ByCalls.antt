-- What `csescoped` writes is what its definition says, for every sheet: with what it lends the text is that of the three calls one after another (01, "Sheet and
-- printing"). Assumes nothing.
use Prim.Native.Nat.{ℕ}
use mathlib.Core.Path.{◌≡◌, refl, ap, ap₂, ◌∙◌}
use mathlib.Core.Bool.{true}
use mathlib.Core.List.{List}
use lib.ListN.{length, drop}
use lib.Seq.{take-append_seam}
use Rattle.spec_tree.specs.Outcome.{Outcome, ok, refused}
use Rattle.spec_program.specs.Print.{buffer_after}
use Rattle.spec_program.specs.Calls.{by_calls}
use Rattle.spec_program.specs.Program.{reply, csescoped}
use Rattle.csescoped.specs.sheet.ScopedSheet.{rows_text, sheet_text, said_of, Says, Scoped}
use Rattle.csescoped.specs.sheet.Prints.{prints}
use Rattle.csescoped.specs.sheet.Said.{Said}

-- 1,024 rows of 35 words, 64 places, the work area's length, 131,072 answer rows and 524,288 bytes
pub program_text : (sheet : List ℕ) → sheet_text 35840 64 65536 131072 131072 524288 sheet ≡ by_calls true 131072 524288 sheet
unfolding sheet_text rows_text by_calls
program_text sheet = refl

-- whatever is lent, the reply is written
pub says_reply : (o : Outcome (List ℕ)) (old new : List ℕ) (answer : Said) → Says o old answer new → prints answer new ≡ reply o
unfolding reply buffer_after
says_reply o old new answer s = ap₂ prints s.0 s.1 ∙ go o
  where
    go : (o : Outcome (List ℕ)) → prints (said_of o) (buffer_after o old) ≡ reply o
    go (ok text) = take-append_seam text (drop (length text) old)
    go (refused r) = refl

-- by the contract of `scoped_sheet`, with what the program lends
pub program_writes :
    (sheet old_rows old_roots old_table old_out new_rows new_roots new_table new_out : List ℕ) (answer : Said)
    → length old_rows ≡ 35840 → length old_roots ≡ 64 → length old_table ≡ 131072 → length old_out ≡ 524288
    → Scoped sheet 65536 131072 old_rows old_roots old_table old_out answer new_rows new_roots new_table new_out
    → prints answer new_out ≡ csescoped sheet
program_writes sheet old_rows old_roots old_table old_out new_rows new_roots new_table new_out answer a b c d s =
    let f : ℕ → ℕ → ℕ → ℕ → Outcome (List ℕ) = λ words places rows bytes. sheet_text words places 65536 131072 rows bytes sheet in
    let lent : f (length old_rows) (length old_roots) (length old_table) (length old_out) ≡ f 35840 64 131072 524288 = cc in
    says_reply (f (length old_rows) (length old_roots) (length old_table) (length old_out)) old_out new_out answer s.says
    ∙ (ap reply (lent ∙ program_text sheet) ∙ (unfold csescoped in refl))
