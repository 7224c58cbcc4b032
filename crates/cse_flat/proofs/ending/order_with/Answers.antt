use Rattle.cse_flat.proofs.ending.Linking.{in_order, same_order}
use Rattle.cse_flat.proofs.ending.order_with.Goals as goal

pub returns-then-link_all : goal.returns-then-link_all
returns-then-link_all c =
    let t = c.args.trees.now in
    same_order t.results t.places.now t.tokens.now _ _ c.args.taken.now _ _ c.requires.heads_len.0
    (in_order t.results t.places.now t.tokens.now _ c.args.taken.now _ _ (c.order_linked.ensures _ (c.link_all.ensures c.if-link_all.true)) c.order_linked.auto.taken c.requires.heads_in_bounds.1)
