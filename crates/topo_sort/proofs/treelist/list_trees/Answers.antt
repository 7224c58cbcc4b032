-- `topo_sort::treelist::list_trees` meets its contract. Assumes nothing.
use Rattle.spec_tree.specs.Tokens.{trees_in}
use Rattle.words.proofs.words.Requests.{counted_ok, uncounted_err}
use Rattle.topo_sort.proofs.treelist.Listing.{broken, full, listed}
use Rattle.std.proofs.Common.{rules}
use Rattle.topo_sort.proofs.treelist.list_trees.Goals as goal

pub returns-in_err-count : goal.returns-in_err-count
returns-in_err-count c = let a = c.args in
    let e = broken a.tokens.now a.starts.now (uncounted_err (trees_in a.tokens.now) _ _ (rw c.count_trees.ensures at c.ok_or.ensures.value) c.in_err-count.was) in
    search rules

pub returns-then-starts-count : goal.returns-then-starts-count
returns-then-starts-count c = full c.args.tokens.now c.args.starts.now _ (counted_ok _ (trees_in c.args.tokens.now) _ (rw c.count_trees.ensures at c.ok_or.ensures.value) c.in_ok-count.was) c.if-starts-count.true

pub list-requires : goal.list-requires
list-requires c = (counted_ok _ (trees_in c.args.tokens.now) _ (rw c.count_trees.ensures at c.ok_or.ensures.value) c.in_ok-count.was, c.if-starts-count.false)

pub returns : goal.returns
returns c = listed c.args.tokens.now c.args.starts.now _ (counted_ok _ (trees_in c.args.tokens.now) _ (rw c.count_trees.ensures at c.ok_or.ensures.value) c.in_ok-count.was) c.if-starts-count.false _ c.list.ensures
