use Rattle.std.proofs.Common.{◌≡◌, ◌+◌, ◌-◌, ◌*◌, length}
use Rattle.replace.specs.replacing.Deciding.{Trees, Target, Match}
use Rattle.replace.proofs.replacing.Scanning.{Scanned}
use Rattle.replace.proofs.replacing.Factoring.{Factored}
use Rattle.replace.proofs.+rewrite_rewrite_product.Given as goal

abbrev pub decreases-rewrite_product : goal.decreases-rewrite_product
decreases-rewrite_product l = 2 * l.product.long

abbrev pub decreases-rewrite : goal.decreases-rewrite
decreases-rewrite l = 2 * length l.tokens.now + 1

abbrev pub invariant-rewrite-loop-i : goal.invariant-rewrite-loop-i
invariant-rewrite-loop-i l = Scanned l.rule.target.now l.rule.name l.tokens l.initial.out l.out l.i l.o × (length l.places ≡ length l.initial.places)

abbrev pub decreases-rewrite-loop-i : goal.decreases-rewrite-loop-i
decreases-rewrite-loop-i l = length l.tokens - l.i

abbrev pub invariant-rewrite_product-loop-j : goal.invariant-rewrite_product-loop-j
invariant-rewrite_product-loop-j l = let p = l.fn.product in (h : Trees l.tokens) × (t : Target l.rule.target.now l.rule.name) × (m : Match l.rule.target.now l.rule.name l.tokens l.initial.places p.left p.copies p.code p.long) × Factored l.rule.target.now l.rule.name t l.tokens h l.initial.places p.left p.copies p.code p.long m l.initial.out l.out l.places l.o l.j
