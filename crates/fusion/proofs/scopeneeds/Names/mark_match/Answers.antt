-- `fusion::scopeneeds::Names::mark_match` meets its contract. Assumes nothing.
use native.Mathlib.Omega.{arith}
use Prim.Native.Nat.{ℕ}
use mathlib.Core.Path.{◌≡◌, ◌∙◌, sym, ap}
use borrow.Author.Tests.{tests}
use borrow.Author.Rules.{rules}
use Rattle.std.proofs.lemmas.Iterator.{YieldsList-from_slice, IsFirst-from_position}
use Rattle.fusion.specs.place.Reads.{group_of}
use Rattle.fusion.proofs.scopeneeds.Finding.{group_small, place_past, place_some}
use Rattle.fusion.proofs.scopeneeds.Marking.{match_none, match_there, match_outside}
use Rattle.fusion.proofs.scopeneeds.Names.mark_match.Goals as goal

pub returns-in_default : goal.returns-in_default
returns-in_default c = match_none c.args.self.now.lets c.args.self.now.numbers.now c.args.self.now.ends.now c.args.n c.args.row c.args.table.now (place_past c.args.n c.args.self.now.numbers.now c.position.result (IsFirst-from_position _ _ c.position.result (λ m. m ≡ c.args.n) (λ m. m ≡ c.args.n → ⊥) c.position.ensures.ran (YieldsList-from_slice c.args.self.now.numbers.now cc) (λ x q k. search (rules, tests)) (λ x q k. search (rules, tests))) c.in_default.is)

pub overflow_add-self : goal.overflow_add-self
overflow_add-self c = omega (arith, c.if-self-lt-COLUMNS.true, c.find_group.ensures, group_small c.in-Some.p c.args.self.now.ends.now, c.well_formed)

pub returns-then-self-lt-COLUMNS : goal.returns-then-self-lt-COLUMNS
returns-then-self-lt-COLUMNS c = let k = place_some c.args.n c.args.self.now.numbers.now c.position.result (IsFirst-from_position _ _ c.position.result (λ m. m ≡ c.args.n) (λ m. m ≡ c.args.n → ⊥) c.position.ensures.ran (YieldsList-from_slice c.args.self.now.numbers.now cc) (λ x q k. search (rules, tests)) (λ x q k. search (rules, tests))) c.in-Some.p c.in-Some.is in c.set.ensures.1 ∙ match_there c.args.self.now.lets c.args.self.now.numbers.now c.args.self.now.ends.now c.args.n c.args.row c.args.table.now k.1 c.find_group.result (c.find_group.ensures ∙ ap (λ (p : ℕ). group_of p 0 c.args.self.now.ends.now) (sym k.0))

pub returns-else-self-lt-COLUMNS : goal.returns-else-self-lt-COLUMNS
returns-else-self-lt-COLUMNS c = match_outside c.args.self.now.lets c.args.self.now.numbers.now c.args.self.now.ends.now c.args.n c.args.row c.args.table.now (place_some c.args.n c.args.self.now.numbers.now c.position.result (IsFirst-from_position _ _ c.position.result (λ m. m ≡ c.args.n) (λ m. m ≡ c.args.n → ⊥) c.position.ensures.ran (YieldsList-from_slice c.args.self.now.numbers.now cc) (λ x q k. search (rules, tests)) (λ x q k. search (rules, tests))) c.in-Some.p c.in-Some.is).1 c.if-self-lt-COLUMNS.false
