-- `replace::coefficient::float_of` meets its contract. Assumes nothing.
use Rattle.std.proofs.Common.{refl, ap, ◌∙◌}
use lib.Ieee.{neg}
use Rattle.replace.proofs.coefficient.Codes.{even_float, odd_float}
use Rattle.replace.proofs.coefficient.float_of.Goals as goal

pub returns-then-code-eq0 : goal.returns-then-code-eq0
returns-then-code-eq0 c = c.nearest_u64_to_f64.ensures ∙ even_float c.args.code _ refl c.if-code-eq0.true

pub returns : goal.returns
returns c = ap neg c.nearest_u64_to_f64-2.ensures ∙ odd_float c.args.code _ refl c.if-code-eq0.false
