-- `load::one_record::write_numbers` meets its contract. It falls by the bytes that are left. Assumes nothing.
use mathlib.Core.Path.{sym, ◌∙◌}
use native.Mathlib.Omega.{arith}
use lib.ListN.{length-set}
use Rattle.load.proofs.one_record.Writing.{some_place, whole, comma_in, cut_long, first_bad, rest_less, rest_pre, later_bad, all_good, one_more}
use Rattle.std.proofs.Common.{rules}
use Rattle.load.proofs.one_record.+write_numbers.Goals as goal

pub write_last-requires : goal.write_last-requires
write_last-requires t c = some_place c.args.s.now c.args.out.now c.requires

pub returns-in_default : goal.returns-in_default
returns-in_default t c = whole c.args.s.now c.args.out.now c.requires (sym c.in_default.is ∙ c.first_comma.ensures) _ _ c.write_last.ensures

pub slice_bounds-node_number-end : goal.slice_bounds-node_number-end
slice_bounds-node_number-end t c = cut_long c.args.s.now c.args.out.now c.requires c.in-Some.comma (sym c.in-Some.is ∙ c.first_comma.ensures)

pub returns-in_err-number : goal.returns-in_err-number
returns-in_err-number t c = let e = first_bad c.args.s.now c.args.out.now c.requires c.in-Some.comma (sym c.in-Some.is ∙ c.first_comma.ensures) (sym c.in_err-number.was ∙ c.node_number.ensures) in search rules

pub bounds-out-0 : goal.bounds-out-0
bounds-out-0 t c = omega (arith, some_place c.args.s.now c.args.out.now c.requires)

pub slice_bounds-write_numbers-count : goal.slice_bounds-write_numbers-count
slice_bounds-write_numbers-count t c = omega (arith, comma_in c.args.s.now c.args.out.now c.requires c.in-Some.comma (sym c.in-Some.is ∙ c.first_comma.ensures))

pub slice_bounds-write_numbers-start : goal.slice_bounds-write_numbers-start
slice_bounds-write_numbers-start t c = omega (arith, comma_in c.args.s.now c.args.out.now c.requires c.in-Some.comma (sym c.in-Some.is ∙ c.first_comma.ensures))

pub slice_bounds-write_numbers-count-2 : goal.slice_bounds-write_numbers-count-2
slice_bounds-write_numbers-count-2 t c = simp length-set (some_place c.args.s.now c.args.out.now c.requires)

pub slice_bounds-write_numbers-start-2 : goal.slice_bounds-write_numbers-start-2
slice_bounds-write_numbers-start-2 t c = simp length-set (some_place c.args.s.now c.args.out.now c.requires)

pub write_numbers-requires : goal.write_numbers-requires
write_numbers-requires t c = (omega (arith, c.decreases, rest_less c.args.s.now c.args.out.now c.requires c.in-Some.comma (sym c.in-Some.is ∙ c.first_comma.ensures)), rest_pre c.args.s.now c.args.out.now c.requires c.in-Some.comma (sym c.in-Some.is ∙ c.first_comma.ensures) c.in_ok-number.number)

pub returns-in_err-others : goal.returns-in_err-others
returns-in_err-others t c = let e = later_bad c.args.s.now c.args.out.now c.requires c.in-Some.comma (sym c.in-Some.is ∙ c.first_comma.ensures) c.in_ok-number.number c.write_numbers.new.out c.write_numbers.result c.write_numbers.ensures c.in_err-others.was c.write_numbers.auto.out in search rules

pub overflow_add-comma : goal.overflow_add-comma
overflow_add-comma t c = omega (arith, comma_in c.args.s.now c.args.out.now c.requires c.in-Some.comma (sym c.in-Some.is ∙ c.first_comma.ensures))

pub overflow_add-result : goal.overflow_add-result
overflow_add-result t c = omega (arith, one_more c.args.s.now c.args.out.now c.requires c.in-Some.comma (sym c.in-Some.is ∙ c.first_comma.ensures) c.in_ok-number.number c.write_numbers.new.out c.write_numbers.result c.write_numbers.ensures c.in_ok-others.others c.in_ok-others.was)

pub returns : goal.returns
returns t c = all_good c.args.s.now c.args.out.now c.requires c.in-Some.comma (sym c.in-Some.is ∙ c.first_comma.ensures) c.in_ok-number.number c.write_numbers.new.out c.write_numbers.result c.write_numbers.ensures c.in_ok-others.others c.in_ok-others.was (sym c.in_ok-number.was ∙ c.node_number.ensures)
