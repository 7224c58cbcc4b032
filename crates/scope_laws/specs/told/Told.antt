-- What a scope gives, as the words of its rows (01, "Scoped fusion", "Turned down", refusal 12). Assumes nothing.
use Rattle.std.specs.Prelude.{ℕ, ◌++◌, length}
use Rattle.words.specs.words.Words.{number}
use Rattle.spec_cse.specs.Answer.{block}
use Rattle.spec_cse.specs.AnswerRows.{intermediates_words, each_words}
use Rattle.spec_cse.specs.Scope.{Scoped}
use Rattle.fusion.specs.place.Whole.{Told}

-- its statements, and its values in rows of a kind
unfoldable pub told : ℕ → Scoped → Told
unfolding intermediates_words block each_words
told row a =
    record {
      words = intermediates_words number (block a.inters) ++ each_words number row a.results;
      steps = length a.inters;
      next = a.next;
      extracted = a.extracted;
    }
