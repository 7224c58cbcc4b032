-- `statements::write_match_head` meets its contract. Assumes nothing.
use native.Mathlib.Omega.{arith}
use Rattle.statements.proofs.Keys.{few_room}
use Rattle.statements.proofs.write_match_head.Goals as goal

pub head_within-requires-else-held-gt-FEW_WORDS-clause-g_in_bounds : goal.head_within-requires-else-held-gt-FEW_WORDS-clause-g_in_bounds
head_within-requires-else-held-gt-FEW_WORDS-clause-g_in_bounds c = (c.requires.g_in_bounds, few_room c.requires.grouped _ (omega arith))
