-- `rounds::extract` meets its contract. Assumes nothing.
use native.Mathlib.Omega.{arith}
use Rattle.fmt.specs.checked.Check.{rows_in}
use Rattle.rounds.proofs.Extracting.{there, within, part_long, asked, room, put_room, done, refuses}
use borrow.Author.Rules.{rules}
use Rattle.std.specs.Prelude.{Err}
use Rattle.rounds.specs.Answers.{Extracts}
use Rattle.rounds.proofs.extract.Goals as goal

pub tree_end-end-requires : goal.tree_end-end-requires
tree_end-end-requires c = (let a = c.args in there (rows_in a.rows.now) a.tokens.now a.scoped a.at a.name c.requires.chosen)

pub overflow_mul-word : goal.overflow_mul-word
overflow_mul-word c = omega (arith, c.requires.tokens_len_bound)

pub overflow_add-word : goal.overflow_add-word
overflow_add-word c = omega (arith, c.requires.tokens_len_bound)

pub overflow_mul-word-2 : goal.overflow_mul-word-2
overflow_mul-word-2 c = omega (arith, c.requires.tokens_len_bound)

pub offset_bounds-tokens-at : goal.offset_bounds-tokens-at
offset_bounds-tokens-at c = (let a = c.args in omega (arith, within (rows_in a.rows.now) a.tokens.now a.scoped a.at a.name c.requires.chosen c.tree_end-end.result c.tree_end-end.ensures, c.requires.tokens_len_bound))

pub slice_bounds-replace_known-count : goal.slice_bounds-replace_known-count
slice_bounds-replace_known-count c = (let a = c.args in (within (rows_in a.rows.now) a.tokens.now a.scoped a.at a.name c.requires.chosen c.tree_end-end.result c.tree_end-end.ensures).0)

pub slice_bounds-replace_known-start : goal.slice_bounds-replace_known-start
slice_bounds-replace_known-start c = (let a = c.args in (within (rows_in a.rows.now) a.tokens.now a.scoped a.at a.name c.requires.chosen c.tree_end-end.result c.tree_end-end.ensures).0)

pub slice_bounds-replace_known-end : goal.slice_bounds-replace_known-end
slice_bounds-replace_known-end c = (let a = c.args in (within (rows_in a.rows.now) a.tokens.now a.scoped a.at a.name c.requires.chosen c.tree_end-end.result c.tree_end-end.ensures).1)

pub replace_known-requires : goal.replace_known-requires
replace_known-requires c = let a = c.args in
    let k = asked (rows_in a.rows.now) a.tokens.now a.scoped a.at a.name c.requires.chosen c.tree_end-end.result c.tree_end-end.ensures in
    record { trees = (k.0, k.1, omega (arith, part_long (rows_in a.rows.now) a.tokens.now a.scoped a.at a.name c.requires.chosen c.tree_end-end.result c.tree_end-end.ensures, within (rows_in a.rows.now) a.tokens.now a.scoped a.at a.name c.requires.chosen c.tree_end-end.result c.tree_end-end.ensures, c.requires.tokens_in_bounds)); tokens_in_bounds = (c.requires.tokens_in_bounds.0, c.requires.tokens_in_bounds.1) }

pub returns-in_err-n : goal.returns-in_err-n
returns-in_err-n c =
    let a = c.args in
    let t : Extracts a.tokens.now a.at a.name a.out.now (Err c.in_err-n.field-0.0) c.replace_known.new.out =
    refuses (rows_in a.rows.now) a.tokens.now a.scoped a.at a.name c.requires.chosen c.tree_end-end.result c.tree_end-end.ensures c.replace_known.result a.out.now _ c.requires.tokens_in_bounds.1 c.replace_known.ensures c.in_err-n.field-0.0 c.in_err-n.was in
    search rules

pub overflow_sub-result : goal.overflow_sub-result
overflow_sub-result c = (let a = c.args in (within (rows_in a.rows.now) a.tokens.now a.scoped a.at a.name c.requires.chosen c.tree_end-end.result c.tree_end-end.ensures).0)

pub overflow_add-result : goal.overflow_add-result
overflow_add-result c = (let a = c.args in omega (arith, room (rows_in a.rows.now) a.tokens.now a.scoped a.at a.name c.requires.chosen c.tree_end-end.result c.tree_end-end.ensures c.replace_known.result a.out.now _ c.requires.tokens_in_bounds.1 c.replace_known.ensures c.in_ok-n.n c.in_ok-n.was, c.requires.tokens_len_bound))

pub offset_bounds-tokens-at-2 : goal.offset_bounds-tokens-at-2
offset_bounds-tokens-at-2 c = (let a = c.args in omega (arith, within (rows_in a.rows.now) a.tokens.now a.scoped a.at a.name c.requires.chosen c.tree_end-end.result c.tree_end-end.ensures, c.requires.tokens_len_bound))

pub slice_bounds-put-count : goal.slice_bounds-put-count
slice_bounds-put-count c = (let a = c.args in (within (rows_in a.rows.now) a.tokens.now a.scoped a.at a.name c.requires.chosen c.tree_end-end.result c.tree_end-end.ensures).0)

pub slice_bounds-put-start : goal.slice_bounds-put-start
slice_bounds-put-start c = (let a = c.args in (within (rows_in a.rows.now) a.tokens.now a.scoped a.at a.name c.requires.chosen c.tree_end-end.result c.tree_end-end.ensures).0)

pub slice_bounds-put-end : goal.slice_bounds-put-end
slice_bounds-put-end c = (let a = c.args in (within (rows_in a.rows.now) a.tokens.now a.scoped a.at a.name c.requires.chosen c.tree_end-end.result c.tree_end-end.ensures).1)

pub put-requires : goal.put-requires
put-requires c = let a = c.args in put_room (rows_in a.rows.now) a.tokens.now a.scoped a.at a.name c.requires.chosen c.tree_end-end.result c.tree_end-end.ensures c.replace_known.result a.out.now _ c.requires.tokens_in_bounds.1 c.replace_known.ensures c.in_ok-n.n c.in_ok-n.was

pub returns : goal.returns
returns c = let a = c.args in done (rows_in a.rows.now) a.tokens.now a.scoped a.at a.name c.requires.chosen c.tree_end-end.result c.tree_end-end.ensures c.replace_known.result a.out.now _ c.requires.tokens_in_bounds.1 c.replace_known.ensures c.in_ok-n.n c.in_ok-n.was _ c.put.ensures
