-- `replace::decide_product` meets its contract. Assumes nothing.
use Rattle.std.proofs.Common.{arith}
use Rattle.replace.proofs.Deciding.{first_stands, first_fits, first_run, flat_known}
use Rattle.replace.proofs.factors.Flattening.{flat_long}
use Rattle.replace.proofs.decide_product.Goals as goal

pub flatten_tree-flat-requires : goal.flatten_tree-flat-requires
flatten_tree-flat-requires c = record { stands = first_stands c.requires.product_first; at_in_bounds = omega (arith, first_fits c.requires.product_first, c.requires.tokens_in_bounds) }

pub decide_factors-requires : goal.decide_factors-requires
decide_factors-requires c = let a = c.args in
    let f = c.flatten_tree-flat.ensures in
    record { product_first = c.requires.product_first; flat_first = (flat_known c.requires.product_first a.places.now _ _ _ (omega (arith, c.requires.tokens_in_bounds)) f.0, first_run c.requires.product_first _ f.1); tokens_in_bounds = omega (arith, c.requires.tokens_in_bounds, flat_long f.0) }
