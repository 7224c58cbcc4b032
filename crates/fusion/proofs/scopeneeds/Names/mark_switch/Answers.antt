-- `fusion::scopeneeds::Names::mark_switch` meets its contract. Assumes nothing.
use native.Mathlib.Omega.{arith}
use Prim.Native.Nat.{ℕ}
use mathlib.Core.Path.{◌∙◌, sym, ap}
use mathlib.Core.List.{List}
use Rattle.fusion.proofs.Tests.{some_by}
use Rattle.fusion.specs.place.Reads.{with_reads}
use Rattle.fusion.proofs.scopeneeds.Arms.{key_not_broken, whole_not_broken, arms_begin, arms_stop, arms_inside, arms_words}
use Rattle.fusion.proofs.scopeneeds.Names.mark_switch.Goals as goal

pub unwrap-arms-requires : goal.unwrap-arms-requires
unwrap-arms-requires c = some_by c.end_of.result (λ e. key_not_broken c.args.tokens.now c.args.place c.requires.0 c.requires.1.0 c.requires.1.1 (e ∙ c.end_of.ensures))

pub unwrap-end-requires : goal.unwrap-end-requires
unwrap-end-requires c = some_by c.end_of-2.result (λ e. whole_not_broken c.args.tokens.now c.args.place c.requires.0 c.requires.1.0 c.requires.1.1 (e ∙ c.end_of-2.ensures))

pub offset_bounds-tokens-arms : goal.offset_bounds-tokens-arms
offset_bounds-tokens-arms c = omega (arith, (arms_begin c.args.tokens.now c.args.place c.requires.0 c.requires.1.0 c.requires.1.1 _ (sym c.unwrap-arms.ensures ∙ c.end_of.ensures)), (arms_stop c.args.tokens.now c.args.place c.requires.0 c.requires.1.0 c.requires.1.1 _ (sym c.unwrap-end.ensures ∙ c.end_of-2.ensures)), arms_inside c.args.tokens.now c.args.place c.requires.0 c.requires.1.0 c.requires.1.1, c.well_formed)

pub slice_bounds-mark_reads-count : goal.slice_bounds-mark_reads-count
slice_bounds-mark_reads-count c = omega (arith, (arms_begin c.args.tokens.now c.args.place c.requires.0 c.requires.1.0 c.requires.1.1 _ (sym c.unwrap-arms.ensures ∙ c.end_of.ensures)), (arms_stop c.args.tokens.now c.args.place c.requires.0 c.requires.1.0 c.requires.1.1 _ (sym c.unwrap-end.ensures ∙ c.end_of-2.ensures)), arms_inside c.args.tokens.now c.args.place c.requires.0 c.requires.1.0 c.requires.1.1)

pub slice_bounds-mark_reads-start : goal.slice_bounds-mark_reads-start
slice_bounds-mark_reads-start c = omega (arith, (arms_begin c.args.tokens.now c.args.place c.requires.0 c.requires.1.0 c.requires.1.1 _ (sym c.unwrap-arms.ensures ∙ c.end_of.ensures)), (arms_stop c.args.tokens.now c.args.place c.requires.0 c.requires.1.0 c.requires.1.1 _ (sym c.unwrap-end.ensures ∙ c.end_of-2.ensures)), arms_inside c.args.tokens.now c.args.place c.requires.0 c.requires.1.0 c.requires.1.1)

pub slice_bounds-mark_reads-end : goal.slice_bounds-mark_reads-end
slice_bounds-mark_reads-end c = omega (arith, (arms_begin c.args.tokens.now c.args.place c.requires.0 c.requires.1.0 c.requires.1.1 _ (sym c.unwrap-arms.ensures ∙ c.end_of.ensures)), (arms_stop c.args.tokens.now c.args.place c.requires.0 c.requires.1.0 c.requires.1.1 _ (sym c.unwrap-end.ensures ∙ c.end_of-2.ensures)), arms_inside c.args.tokens.now c.args.place c.requires.0 c.requires.1.0 c.requires.1.1)

pub returns : goal.returns
returns c = c.mark_reads.ensures ∙ ap (λ (l : List ℕ). with_reads c.args.self.now.first c.args.self.now.lets c.args.self.now.numbers.now c.args.self.now.ends.now l c.args.row c.args.table.now) (arms_words c.args.tokens.now c.args.place c.requires.0 c.requires.1.0 c.requires.1.1 _ _ (arms_begin c.args.tokens.now c.args.place c.requires.0 c.requires.1.0 c.requires.1.1 _ (sym c.unwrap-arms.ensures ∙ c.end_of.ensures)) (arms_stop c.args.tokens.now c.args.place c.requires.0 c.requires.1.0 c.requires.1.1 _ (sym c.unwrap-end.ensures ∙ c.end_of-2.ensures)))
