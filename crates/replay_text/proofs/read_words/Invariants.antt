use Rattle.std.proofs.Common.{◌≤◌, length}
use Rattle.replay_text.proofs.read_words.Given as goal

abbrev pub invariant-loop-word : goal.invariant-loop-word
invariant-loop-word l = l.n ≤ length l.words
