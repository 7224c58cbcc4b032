-- `replace::replace_sought` meets its contract. Assumes nothing.
use Rattle.replace.proofs.Ends.{wrote, refused_there}
use Rattle.replace.proofs.replace_sought.Goals as goal

pub returns-in-Ok : goal.returns-in-Ok
returns-in-Ok c = let a = c.args in wrote a.tokens.now a.rule.target.now a.rule.name a.out.now c.rewrite.result _ c.rewrite.new.out c.in-Ok.is c.rewrite.ensures

pub returns-in-Err : goal.returns-in-Err
returns-in-Err c = let a = c.args in refused_there a.tokens.now a.rule.target.now a.rule.name a.out.now c.rewrite.result c.rewrite.new.out c.copy.new.out _ c.in-Err.is c.rewrite.ensures c.copy.ensures
