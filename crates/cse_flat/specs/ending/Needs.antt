-- Which binding needs which, as a table of bits with a row of 32 words for each. No code holds it where links say the same. Assumes nothing.
use Rattle.std.specs.Prelude.{ℕ, ◌*◌, List, replicate}
use Rattle.reciprocals.specs.final.Ready.{marks, binding_run}

unfoldable pub needs_of : ℕ → List ℕ → List ℕ → ℕ → List ℕ
unfolding marks binding_run
needs_of k places ws count = marks (binding_run k places ws) count (replicate (32 * count) 0)
