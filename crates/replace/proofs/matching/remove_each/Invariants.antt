use Rattle.std.proofs.Common.{◌≡◌, ◌-◌, ◌<◌, ◌≤◌, false, length, get_or, take, drop}
use Rattle.replace.specs.matching.Matching.{is_passed, run_end, factor_runs, words_at, remove_runs}
use Rattle.replace.proofs.matching.Removing.{Missed}
use Rattle.replace.proofs.matching.remove_each.Given as goal

abbrev pub invariant-factors : goal.invariant-factors
invariant-factors l = (remove_runs (words_at l.tokens l.name) (factor_runs l.part) (take l.count l.initial.places) ≡ remove_runs (words_at l.tokens l.name) (factor_runs (drop l.q l.part)) (take l.left l.places)) × (l.left ≤ l.count) × (length l.places ≡ length l.initial.places) × (drop l.count l.places ≡ drop l.count l.initial.places) × (l.q < length l.part → is_passed (get_or l.part l.q 0) ≡ false)

abbrev pub decreases-factors : goal.decreases-factors
decreases-factors l = length l.part - l.q

abbrev pub invariant-loop-i : goal.invariant-loop-i
invariant-loop-i l = (remove_runs (words_at l.tokens l.name) (factor_runs l.part) (take l.count l.fn.places) ≡ remove_runs (words_at l.tokens l.name) (factor_runs (drop l.q l.part)) (take l.left l.places)) × (l.left ≤ l.count) × (length l.places ≡ length l.fn.places) × (drop l.count l.places ≡ drop l.count l.fn.places) × (is_passed (get_or l.part l.q 0) ≡ false) × (l.q < length l.part) × (l.left ≡ l.initial.left) × (l.end ≡ run_end l.part l.q) × Missed (words_at l.tokens l.name) (take (l.end - l.q) (drop l.q l.part)) l.places l.i
