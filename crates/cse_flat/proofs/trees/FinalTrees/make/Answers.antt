use Rattle.reciprocals.proofs.final.Taking.{reciprocal_stands, past_stands}
use native.Mathlib.Omega.{arith}
use Rattle.cse_flat.proofs.trees.FinalTrees.make.Goals as goal

pub returns-clause-stands : goal.returns-clause-stands
returns-clause-stands c =
    let t = c.args.self.now in
    λ _. past_stands t.results t.places.now t.tokens.now _ c.args.i c.if-i-self.false _ _ (reciprocal_stands t.ready _ (omega (arith, c.requires.0, c.if-i-self.false)) _ _ c.reciprocal.ensures)

pub returns-clause-inside : goal.returns-clause-inside
returns-clause-inside c =
    (reciprocal_stands c.args.self.now.ready _ (omega (arith, c.requires.0, c.if-i-self.false)) _ _ c.reciprocal.ensures).inside
