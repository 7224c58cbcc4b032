-- `print::answers::rows_of_answer` meets its contract. Assumes nothing.
use Rattle.std.proofs.Common.{◌≡◌, Bool, true, false, ◌&&◌, length, sym, ◌∙◌, ap}
use borrow.Author.Tests.{clash}
use Rattle.fmt.specs.checked.Check.{rows_in}
use Rattle.laws.specs.answer.Seen.{seen, once}
use Rattle.print.proofs.answers.Ends.{unshaped, laid}
use Rattle.print.proofs.answers.rows_of_answer.Goals as goal
use Rattle.print.proofs.answers.rows_of_answer.Goals.{then-shaped, else-shaped}

pub returns-then-bound_once : goal.returns-then-bound_once
returns-then-bound_once c =
    let list = rows_in c.args.node_rows.now in
    let ws = c.args.answer.now in
    elim c.if-shaped.branch [
      | then-shaped w ↦ (
          let o : true ≡ once ws = sym (sym w.bound_once.ensures ∙ (sym w.value-is ∙ c.if-bound_once.true)) in
          c.in_scope.ensures ∙ (ap (λ (b : Bool). b && seen ws 0 (length ws)) o ∙ laid list ws c.shaped.result c.shaped.ensures w.if-shaped.true)
          )
      | else-shaped w ↦ absurd (clash (sym w.if-shaped.false ∙ (sym w.value-is ∙ c.if-bound_once.true)))
    ]

pub returns-else-bound_once : goal.returns-else-bound_once
returns-else-bound_once c =
    let list = rows_in c.args.node_rows.now in
    let ws = c.args.answer.now in
    elim c.if-shaped.branch [
      | then-shaped w ↦ (
          let o : false ≡ once ws = sym (sym w.bound_once.ensures ∙ (sym w.value-is ∙ c.if-bound_once.false)) in
          c.if-bound_once.false ∙ (ap (λ (b : Bool). b && seen ws 0 (length ws)) o ∙ laid list ws c.shaped.result c.shaped.ensures w.if-shaped.true)
          )
      | else-shaped w ↦ c.if-bound_once.false ∙ unshaped list ws c.shaped.result c.shaped.ensures w.if-shaped.false
    ]
