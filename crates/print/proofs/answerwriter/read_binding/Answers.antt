-- `print::answerwriter::read_binding` meets its contract. Assumes nothing.
use Rattle.std.proofs.Common.{◌-◌, ◌/◌, ◌%◌, Bool, get_or, eqb, refl, ap, ap₂, ◌∙◌, arith}
use borrow.Author.Tests.{ne_eqb}
use Rattle.print.specs.declared.answerwriter.Switch.{Switch}
use Rattle.print.specs.declared.answerwriter.Binding.TheVariants.{Match}
use Rattle.print.proofs.answerwriter.BindingLaws.{stmt_inside, let_read, key_there, key_ends, sign_read, index_read}
use Rattle.print.proofs.answerwriter.read_binding.Goals as goal
use Rattle.print.proofs.answerwriter.read_binding.Goals.{then-kind-eq-BRANCH_ROW, else-kind-eq-BRANCH_ROW}

pub offset_bounds-words-at : goal.offset_bounds-words-at
offset_bounds-words-at c = omega (arith, stmt_inside c.requires.0 c.args.words.now c.args.at c.requires.1.0 c.requires.1.1, c.well_formed.0)

pub bounds-words-at : goal.bounds-words-at
bounds-words-at c = stmt_inside c.requires.0 c.args.words.now c.args.at c.requires.1.0 c.requires.1.1

pub overflow_add-key : goal.overflow_add-key
overflow_add-key c = omega (arith, stmt_inside c.requires.0 c.args.words.now c.args.at c.requires.1.0 c.requires.1.1, c.well_formed.0)

pub returns-then-kind-eq-LET : goal.returns-then-kind-eq-LET
returns-then-kind-eq-LET c = λ rows s h. let_read rows c.args.words.now c.args.at s h c.if-kind-eq-LET.true

pub tree_end-first-requires : goal.tree_end-first-requires
tree_end-first-requires c = key_there c.requires.0 c.args.words.now c.args.at c.requires.1.0 c.requires.1.1 c.if-kind-eq-LET.false

pub names_end-requires : goal.names_end-requires
names_end-requires c = (key_ends c.requires.0 c.args.words.now c.args.at c.requires.1.0 _ c.requires.1.1 c.if-kind-eq-LET.false c.tree_end-first.ensures).inside

pub overflow_sub-result : goal.overflow_sub-result
overflow_sub-result c = omega (arith, c.names_end.ensures, (key_ends c.requires.0 c.args.words.now c.args.at c.requires.1.0 _ c.requires.1.1 c.if-kind-eq-LET.false c.tree_end-first.ensures).counted)

pub overflow_sub-result-2 : goal.overflow_sub-result-2
overflow_sub-result-2 c = omega (arith, c.names_end.ensures, (key_ends c.requires.0 c.args.words.now c.args.at c.requires.1.0 _ c.requires.1.1 c.if-kind-eq-LET.false c.tree_end-first.ensures).counted)

pub returns : goal.returns
returns c =
    let words = c.args.words.now in
    let first = c.tree_end-first.result in
    let bound = c.names_end.result - first in
    let count = get_or words c.args.at 0 / 64 - 1 - bound in
    let same = λ (t : Switch) (d : Bool). Match t first bound count d in
    λ rows s h. elim c.if-kind-eq-BRANCH_ROW.branch [
      | then-kind-eq-BRANCH_ROW w ↦
          ap₂ same w.switch-is (ne_eqb _ 32 (λ e. omega (arith, e, w.if-kind-eq-BRANCH_ROW.true)))
          ∙ sign_read rows words c.args.at _ _ _ _ c.tree_end-first.ensures c.names_end.ensures refl refl s h w.if-kind-eq-BRANCH_ROW.true
      | else-kind-eq-BRANCH_ROW w ↦
          ap (λ (t : Switch). same t (eqb (get_or words c.args.at 0 % 64) 32)) w.switch-is
          ∙ index_read rows words c.args.at _ _ _ _ c.tree_end-first.ensures c.names_end.ensures refl refl s _ h c.if-kind-eq-LET.false w.if-kind-eq-BRANCH_ROW.false refl
    ]
