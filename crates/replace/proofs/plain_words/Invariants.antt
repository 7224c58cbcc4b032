use Rattle.std.proofs.Common.{◌≡◌, ℕ, ◌<◌, ◌≤◌, true, get_or}
use Rattle.replace.specs.replacing.Deciding.{is_plain}
use Rattle.replace.proofs.plain_words.Given as goal

abbrev pub invariant-loop-q : goal.invariant-loop-q
invariant-loop-q l = (1 ≤ l.q) × (l.q ≤ l.long) × ((j : ℕ) → j < l.q → is_plain (get_or l.tokens j 0) ≡ true)
