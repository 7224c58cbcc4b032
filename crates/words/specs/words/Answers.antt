-- What a rewriting of words answers and writes, by cases. Assumes nothing.
use Rattle.std.specs.Prelude.{ℕ, Bool, true, false, List, ◌++◌, length, drop, ltb, Result, Ok, Err, ⊤}
use Rattle.spec_tree.specs.Tree.{Name, Tree}
use Rattle.words.specs.words.Words.{rewritten_words, tree_of, name_of, sound}
use Rattle.words.specs.declared.fault.Fault.{Fault}
use Rattle.words.specs.declared.fault.Fault.TheVariants as fault

-- by whether the words and the name are sound, and whether there are more words than room
unfoldable pub request_answer : Bool → Bool → Result ⊤ Fault
request_answer false more = Err fault.Broken
request_answer true true = Err fault.NoRoom
request_answer true false = Ok tt

-- what a rewriting answers, and the words lent after it
pub record Rewriting : Type 0 where
  pub answer : Result ℕ Fault
  pub out : List ℕ

-- the new words in front of what stood after as many, or nothing written
unfoldable pub rewriting_by : Result ⊤ Fault → List ℕ → List ℕ → Rewriting
rewriting_by (Err e) new old = record { answer = Err e; out = old }
rewriting_by (Ok _) new old = record { answer = Ok (length new); out = new ++ drop (length new) old }

-- a rewriting of every tree by one tree and a new name
unfoldable pub rewriting : (Tree → Name → Tree → Tree) → List ℕ → List ℕ → ℕ → List ℕ → Rewriting
unfolding request_answer rewriting_by rewritten_words tree_of name_of sound
rewriting f ws part name old =
    rewriting_by (request_answer (sound ws part name) (ltb (length old) (length ws))) (rewritten_words (f (tree_of part) (name_of name)) ws) old
