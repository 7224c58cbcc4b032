-- `statements::Scope::write_tree` meets its contract. Assumes nothing.
use native.Mathlib.Omega.{arith}
use mathlib.Core.Path.{sym, ◌∙◌}
use Rattle.fusion.proofs.Tests.{some_by}
use Rattle.statements.proofs.Held.{held_complete}
use Rattle.statements.proofs.Taking.{never_broken, stop_is, run_within, plain_put}
use Rattle.statements.proofs.Scope.write_tree.Goals as goal

pub unwrap-end-requires : goal.unwrap-end-requires
unwrap-end-requires c = some_by c.end_of.result (λ e. never_broken c.args.self.now.held.now c.args.self.now.starts.now c.args.i (held_complete c.requires.readied.1) c.requires.readied.1.starts_are c.if-i-self.false (e ∙ c.end_of.ensures))

pub offset_bounds-self-from : goal.offset_bounds-self-from
offset_bounds-self-from c = omega (arith, stop_is c.args.self.now.held.now c.args.self.now.starts.now c.args.i (held_complete c.requires.readied.1) c.requires.readied.1.starts_are c.if-i-self.false c.unwrap-end.result (sym c.unwrap-end.ensures ∙ c.end_of.ensures), run_within c.args.self.now.held.now c.args.self.now.starts.now c.args.i (held_complete c.requires.readied.1) c.requires.readied.1.starts_are c.if-i-self.false, c.requires.readied.1.short)

pub slice_bounds-no_switch-count : goal.slice_bounds-no_switch-count
slice_bounds-no_switch-count c = omega (arith, stop_is c.args.self.now.held.now c.args.self.now.starts.now c.args.i (held_complete c.requires.readied.1) c.requires.readied.1.starts_are c.if-i-self.false c.unwrap-end.result (sym c.unwrap-end.ensures ∙ c.end_of.ensures))

pub slice_bounds-no_switch-start : goal.slice_bounds-no_switch-start
slice_bounds-no_switch-start c = omega (arith, stop_is c.args.self.now.held.now c.args.self.now.starts.now c.args.i (held_complete c.requires.readied.1) c.requires.readied.1.starts_are c.if-i-self.false c.unwrap-end.result (sym c.unwrap-end.ensures ∙ c.end_of.ensures))

pub slice_bounds-no_switch-end : goal.slice_bounds-no_switch-end
slice_bounds-no_switch-end c = omega (arith, stop_is c.args.self.now.held.now c.args.self.now.starts.now c.args.i (held_complete c.requires.readied.1) c.requires.readied.1.starts_are c.if-i-self.false c.unwrap-end.result (sym c.unwrap-end.ensures ∙ c.end_of.ensures), run_within c.args.self.now.held.now c.args.self.now.starts.now c.args.i (held_complete c.requires.readied.1) c.requires.readied.1.starts_are c.if-i-self.false)

pub offset_bounds-self-from-then-no_switch : goal.offset_bounds-self-from-then-no_switch
offset_bounds-self-from-then-no_switch c = omega (arith, stop_is c.args.self.now.held.now c.args.self.now.starts.now c.args.i (held_complete c.requires.readied.1) c.requires.readied.1.starts_are c.if-i-self.false c.unwrap-end.result (sym c.unwrap-end.ensures ∙ c.end_of.ensures), run_within c.args.self.now.held.now c.args.self.now.starts.now c.args.i (held_complete c.requires.readied.1) c.requires.readied.1.starts_are c.if-i-self.false, c.requires.readied.1.short)

pub slice_bounds-put-count : goal.slice_bounds-put-count
slice_bounds-put-count c = omega (arith, stop_is c.args.self.now.held.now c.args.self.now.starts.now c.args.i (held_complete c.requires.readied.1) c.requires.readied.1.starts_are c.if-i-self.false c.unwrap-end.result (sym c.unwrap-end.ensures ∙ c.end_of.ensures))

pub slice_bounds-put-start : goal.slice_bounds-put-start
slice_bounds-put-start c = omega (arith, stop_is c.args.self.now.held.now c.args.self.now.starts.now c.args.i (held_complete c.requires.readied.1) c.requires.readied.1.starts_are c.if-i-self.false c.unwrap-end.result (sym c.unwrap-end.ensures ∙ c.end_of.ensures))

pub slice_bounds-put-end : goal.slice_bounds-put-end
slice_bounds-put-end c = omega (arith, stop_is c.args.self.now.held.now c.args.self.now.starts.now c.args.i (held_complete c.requires.readied.1) c.requires.readied.1.starts_are c.if-i-self.false c.unwrap-end.result (sym c.unwrap-end.ensures ∙ c.end_of.ensures), run_within c.args.self.now.held.now c.args.self.now.starts.now c.args.i (held_complete c.requires.readied.1) c.requires.readied.1.starts_are c.if-i-self.false)

pub overflow_sub-result : goal.overflow_sub-result
overflow_sub-result c = omega (arith, stop_is c.args.self.now.held.now c.args.self.now.starts.now c.args.i (held_complete c.requires.readied.1) c.requires.readied.1.starts_are c.if-i-self.false c.unwrap-end.result (sym c.unwrap-end.ensures ∙ c.end_of.ensures))

pub returns-then-no_switch : goal.returns-then-no_switch
returns-then-no_switch c = plain_put c.requires.readied.1 c.args.i c.args.at c.args.table.now _ c.if-i-self.false c.unwrap-end.result (stop_is c.args.self.now.held.now c.args.self.now.starts.now c.args.i (held_complete c.requires.readied.1) c.requires.readied.1.starts_are c.if-i-self.false c.unwrap-end.result (sym c.unwrap-end.ensures ∙ c.end_of.ensures)) (sym c.no_switch.ensures ∙ c.if-no_switch.true) c.put.ensures
