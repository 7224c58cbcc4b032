-- Load, extract and print one after another give what the programs are defined to write, but for 12 and 14 (01, "Sheet and printing", "Turned down"). Assumes
-- nothing.
use Prim.Native.Nat.{ℕ, ◌/◌}
use mathlib.Core.Path.{◌≡◌, refl, ◌∙◌, ap}
use mathlib.Core.Bool.{Bool, true, false, cond}
use mathlib.Core.List.{List}
use lib.ListN.{length}
use lib.Dec.{T, ltb}
use Rattle.spec_tree.specs.Outcome.{Outcome, ok, refused, by, ◌>>=◌}
use Rattle.spec_tree.specs.Rows.{Row, Table, trees}
use Rattle.spec_tree.specs.Layout.{row_width, table_words, rows_of, table_of, loadable, laid_out, table_or_9}
use Rattle.spec_tree.specs.Tokens.{number_in}
use Rattle.spec_tree.proofs.LayoutLaws.{table_back, laid_out_complete, loadable_domain}
use Rattle.spec_tree.proofs.DomainPasses.{loadable_passes}
use Rattle.spec_sheet.specs.Sheet.{load}
use Rattle.spec_sheet.proofs.Loaded.{loaded_loadable}
use Rattle.spec_cse.specs.Answer.{Answer, rows, answer_text}
use Rattle.spec_cse.specs.AnswerRows.{answer_words}
use Rattle.spec_cse.specs.Scope.{answer}
use Rattle.spec_cse.specs.Call.{Extracted, extract_call}
use Rattle.spec_program.specs.Print.{print_call}
use Rattle.spec_program.specs.Calls.{by_calls}
use Rattle.guarantee.proofs.passing.Printed.{or_14, table_printed}

-- rows where as many are lent
abbrev pub or_12 : {A : Type 0} → ℕ → Answer → A → Outcome A
or_12 lent a x = cond (ltb lent (rows a)) (refused (by 12)) (ok x)

-- what the programs are defined to write, with 12 and 14
unfoldable pub by_answer : Bool → ℕ → ℕ → List ℕ → Outcome (List ℕ)
unfolding load trees answer rows answer_text
by_answer scoped rows_lent bytes_lent sheet =
    load 1024 64 sheet >>= λ t. answer scoped (trees t) >>= λ a. or_12 rows_lent a (answer_text a) >>= λ text. or_14 bytes_lent text

module _ (scoped : Bool) (rows_lent bytes_lent : ℕ) where
  abbrev extracted : List Row → Answer → Extracted
  extracted l a = record { words = answer_words (number_in l) a; extracted = a.extracted }

  module _ (t : Table) (h : T (loadable t)) where
    abbrev node_rows : List ℕ
    node_rows = table_words t.rows

    is_table : table_of node_rows t.roots ≡ t
    is_table = table_back t (loadable_domain t h)

    is_laid : T (laid_out node_rows t.roots)
    is_laid = laid_out_complete node_rows t.roots (record { table = t; loads = h; words = refl; roots = refl })

    is_given : table_or_9 node_rows t.roots ≡ ok t
    unfolding table_or_9
    is_given = go (laid_out node_rows t.roots) is_laid
      where
        go : (b : Bool) → T b → cond b (ok (table_of node_rows t.roots)) (refused (by 9)) ≡ ok t
        go true k = ap ok is_table
        go false k = absurd k

    is_rows : rows_of (length node_rows / row_width) node_rows ≡ t.rows
    unfolding table_of
    is_rows = ap (λ (u : Table). u.rows) is_table

    then_print : (b : Bool) (a : Answer) → answer scoped (trees t) ≡ ok a
        → (cond b (refused (by 12)) (ok (extracted t.rows a)) >>= λ x. print_call node_rows x.words bytes_lent)
        ≡ (cond b (refused (by 12)) (ok (answer_text a)) >>= λ text. or_14 bytes_lent text)
    then_print true a e = refl
    then_print false a e = table_printed t (loadable_passes t h) scoped a e node_rows is_rows bytes_lent

    then_extract : (o : Outcome Answer) → answer scoped (trees t) ≡ o
        → ((o >>= λ a. cond (ltb rows_lent (rows a)) (refused (by 12)) (ok (extracted t.rows a))) >>= λ x. print_call node_rows x.words bytes_lent)
        ≡ (o >>= λ a. or_12 rows_lent a (answer_text a) >>= λ text. or_14 bytes_lent text)
    then_extract (ok a) e = then_print (ltb rows_lent (rows a)) a e
    then_extract (refused i) e = refl

    calls_given :
        (extract_call scoped 65536 131072 node_rows t.roots rows_lent >>= λ x. print_call node_rows x.words bytes_lent)
        ≡ (answer scoped (trees t) >>= λ a. or_12 rows_lent a (answer_text a) >>= λ text. or_14 bytes_lent text)
    unfolding extract_call
    calls_given =
        ap
        (λ (o : Outcome Table).
        (o >>= λ u. answer scoped (trees u) >>= λ a. cond (ltb rows_lent (rows a)) (refused (by 12)) (ok (extracted u.rows a))) >>= λ x. print_call node_rows x.words bytes_lent) is_given
        ∙ then_extract (answer scoped (trees t)) refl

  then_load : (o : Outcome Table) → ((t : Table) → o ≡ ok t → T (loadable t))
      → (o >>= λ t. extract_call scoped 65536 131072 (table_words t.rows) t.roots rows_lent >>= λ x. print_call (table_words t.rows) x.words bytes_lent)
      ≡ (o >>= λ t. answer scoped (trees t) >>= λ a. or_12 rows_lent a (answer_text a) >>= λ text. or_14 bytes_lent text)
  then_load (ok t) f = calls_given t (f t refl)
  then_load (refused i) f = refl

  -- the three calls, for every sheet
  pub calls_answer : (sheet : List ℕ) → by_calls scoped rows_lent bytes_lent sheet ≡ by_answer scoped rows_lent bytes_lent sheet
  unfolding by_calls by_answer
  calls_answer sheet = then_load (load 1024 64 sheet) (λ t e. loaded_loadable 1024 64 sheet t e)
