-- `load::one_record::read_record` meets its contract. Assumes nothing.
use mathlib.Core.Path.{refl, sym, ◌∙◌}
use native.Mathlib.Omega.{arith}
use lib.Seq.{length-take-le}
use Rattle.load.proofs.one_record.Whole.{refused_two, reads_fields, not_plain, no_comma, comma_inside, no_word, wrong_count, right_item}
use Rattle.load.proofs.one_record.read_record.Goals as goal

pub returns-then-not-all_plain : goal.returns-then-not-all_plain
returns-then-not-all_plain c = refused_two c.args.so_far.rows c.args.so_far.roots c.args.«record».now c.args.row.now _ c.args.row.now (not_plain c.args.so_far.rows c.args.so_far.roots c.args.«record».now (sym c.all_plain.ensures ∙ c.if-not-all_plain.true)) refl refl

pub returns-in_default : goal.returns-in_default
returns-in_default c = refused_two c.args.so_far.rows c.args.so_far.roots c.args.«record».now c.args.row.now _ c.args.row.now (no_comma c.args.so_far.rows c.args.so_far.roots c.args.«record».now (sym c.all_plain.ensures ∙ c.if-not-all_plain.false) (sym c.in_default.is ∙ c.first_comma.ensures)) refl refl

pub slice_bounds-record_word-end : goal.slice_bounds-record_word-end
slice_bounds-record_word-end c = sym (length-take-le c.in-Some.comma c.args.«record».now (omega (arith, comma_inside c.args.so_far.rows c.args.so_far.roots c.args.«record».now (sym c.all_plain.ensures ∙ c.if-not-all_plain.false) c.in-Some.comma (sym c.in-Some.is ∙ c.first_comma.ensures))))

pub returns-in_default-record_word : goal.returns-in_default-record_word
returns-in_default-record_word c = refused_two c.args.so_far.rows c.args.so_far.roots c.args.«record».now c.args.row.now _ c.args.row.now (no_word c.args.so_far.rows c.args.so_far.roots c.args.«record».now (sym c.all_plain.ensures ∙ c.if-not-all_plain.false) c.in-Some.comma (sym c.in-Some.is ∙ c.first_comma.ensures) (sym c.in_default-record_word.is ∙ c.record_word.ensures)) refl refl

pub overflow_add-fields : goal.overflow_add-fields
overflow_add-fields c = omega (arith, comma_inside c.args.so_far.rows c.args.so_far.roots c.args.«record».now (sym c.all_plain.ensures ∙ c.if-not-all_plain.false) c.in-Some.comma (sym c.in-Some.is ∙ c.first_comma.ensures))

pub slice_bounds-fields-count : goal.slice_bounds-fields-count
slice_bounds-fields-count c = omega (arith, comma_inside c.args.so_far.rows c.args.so_far.roots c.args.«record».now (sym c.all_plain.ensures ∙ c.if-not-all_plain.false) c.in-Some.comma (sym c.in-Some.is ∙ c.first_comma.ensures))

pub slice_bounds-fields-start : goal.slice_bounds-fields-start
slice_bounds-fields-start c = omega (arith, comma_inside c.args.so_far.rows c.args.so_far.roots c.args.«record».now (sym c.all_plain.ensures ∙ c.if-not-all_plain.false) c.in-Some.comma (sym c.in-Some.is ∙ c.first_comma.ensures))

pub returns-then-not-count_ok : goal.returns-then-not-count_ok
returns-then-not-count_ok c = refused_two c.args.so_far.rows c.args.so_far.roots c.args.«record».now c.args.row.now _ c.args.row.now (wrong_count c.args.so_far.rows c.args.so_far.roots c.args.«record».now (sym c.all_plain.ensures ∙ c.if-not-all_plain.false) c.in-Some.comma (sym c.in-Some.is ∙ c.first_comma.ensures) c.in-Some-record_word.kind (sym c.in-Some-record_word.is ∙ c.record_word.ensures) c.count_fields.result c.count_fields.ensures c.count_ok.result c.count_ok.ensures (c.if-not-count_ok.true)) refl refl

pub returns : goal.returns
returns c = reads_fields c.args.so_far.rows c.args.so_far.roots c.args.«record».now c.args.row.now _ _ c.in-Some-record_word.kind _ (right_item c.args.so_far.rows c.args.so_far.roots c.args.«record».now (sym c.all_plain.ensures ∙ c.if-not-all_plain.false) c.in-Some.comma (sym c.in-Some.is ∙ c.first_comma.ensures) c.in-Some-record_word.kind (sym c.in-Some-record_word.is ∙ c.record_word.ensures) c.count_fields.result c.count_fields.ensures c.count_ok.result c.count_ok.ensures (c.if-not-count_ok.false)) c.read_fields.ensures
