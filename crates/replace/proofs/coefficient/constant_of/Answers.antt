-- `replace::coefficient::constant_of` meets its contract. Assumes nothing.
use Rattle.std.proofs.Common.{T, sym, subst, arith, rules}
use lib.Ieee.{of_bits}
use Rattle.replace.proofs.coefficient.Constants.{positive_is, positive_none, negative_more, negative_is, negative_none}
use Rattle.replace.proofs.coefficient.constant_of.Goals as goal

pub overflow_sub-result : goal.overflow_sub-result
unfolding of_bits
overflow_sub-result c = omega (arith, negative_more c.args.x (subst T (sym c.well_formed.0.1) tt) _ c.in_ok-size_of.field-0 c.in_ok-size_of.was c.size_of.ensures c.if-x.true)

pub returns-in_err-size_of : goal.returns-in_err-size_of
unfolding of_bits
returns-in_err-size_of c = let e = negative_none c.args.x (subst T (sym c.well_formed.0.1) tt) _ c.in_err-size_of.was c.size_of.ensures c.if-x.true in search rules

pub returns-in_err-size_of-2 : goal.returns-in_err-size_of-2
unfolding of_bits
returns-in_err-size_of-2 c = let e = positive_none c.args.x (subst T (sym c.well_formed.0.1) tt) _ c.in_err-size_of-2.was c.size_of-else-x.ensures c.if-x.false in search rules

pub returns-in_ok-size_of : goal.returns-in_ok-size_of
unfolding of_bits
returns-in_ok-size_of c = negative_is c.args.x (subst T (sym c.well_formed.0.1) tt) _ c.in_ok-size_of.field-0 c.in_ok-size_of.was c.size_of.ensures c.if-x.true

pub returns-in_ok-size_of-2 : goal.returns-in_ok-size_of-2
unfolding of_bits
returns-in_ok-size_of-2 c = positive_is c.args.x (subst T (sym c.well_formed.0.1) tt) _ c.in_ok-size_of-2.field-0 c.in_ok-size_of-2.was c.size_of-else-x.ensures
