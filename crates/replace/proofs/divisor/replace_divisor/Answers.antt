-- `replace::divisor::replace_divisor` meets its contract. Assumes nothing.
use Rattle.replace.proofs.Faults.{ends_fault}
use Rattle.std.proofs.Common.{length, sym, ◌∙◌, rules}
use Rattle.spec_rewrite.specs.Rewrite.{replace_divisor}
use Rattle.words.proofs.words.Requests.{sound_has}
use Rattle.words.proofs.words.Ends.{ends_written, ends_written}
use Rattle.replace.proofs.divisor.replace_divisor.Goals as goal

pub returns-in_err-check : goal.returns-in_err-check
returns-in_err-check c = let a = c.args in
    let e = ends_fault replace_divisor a.tokens.now a.divisor.now a.name a.out.now _ (sym c.in_err-check.was ∙ c.check.ensures) in
    search rules

pub rewrite-requires : goal.rewrite-requires
rewrite-requires c = let a = c.args in
    let s = sound_has a.tokens.now a.divisor.now a.name (length a.out.now) (sym c.in_ok-check.was ∙ c.check.ensures) in
    record { complete = (s.trees, s.words); divisor_value = (s.one, s.symbol); tokens_in_bounds = s.fits }

pub returns : goal.returns
returns c = let a = c.args in
    ends_written replace_divisor a.tokens.now a.divisor.now a.name a.out.now (sym c.in_ok-check.was ∙ c.check.ensures) _ _ c.rewrite.ensures.count c.rewrite.ensures.words
