-- What a rewriting answers and leaves where the words are at fault. Assumes nothing.
use Rattle.std.specs.Prelude.{Err}
use Rattle.std.proofs.Common.{◌≡◌, ℕ, ltb, List, length}
use Rattle.spec_tree.specs.Tree.{Name, Tree}
use Rattle.words.specs.words.Words.{sound}
use Rattle.words.specs.words.Answers.{request_answer, rewriting}
use Rattle.words.specs.declared.fault.Fault.{Fault}
use Rattle.words.specs.declared.fault.Fault.TheVariants as fault
use Rattle.words.proofs.words.Ends.{ends_broken, ends_full}

pub ends_fault :
    (f : Tree → Name → Tree → Tree) (ws part : List ℕ) (name : ℕ) (old : List ℕ) (e : Fault) → Err e ≡ request_answer (sound ws part name) (ltb (length old) (length ws))
    → (Err e ≡ (rewriting f ws part name old).answer) × (old ≡ (rewriting f ws part name old).out)
ends_fault f ws part name old fault.Broken e = ends_broken f ws part name old e
ends_fault f ws part name old fault.NoRoom e = ends_full f ws part name old e
