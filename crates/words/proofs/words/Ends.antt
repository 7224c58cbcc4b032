-- What a rewriting answers and leaves, from what `check` answers and from the words that were written. Assumes nothing.
use Rattle.std.specs.Prelude.{Result, Ok, Err, ⊤}
use Rattle.words.specs.declared.fault.Fault.{Fault}
use Rattle.words.specs.declared.fault.Fault.TheVariants as fault
use Prim.Native.Nat.{ℕ}
use mathlib.Core.Path.{◌≡◌, sym, ◌∙◌, ap}
use mathlib.Core.List.{List, ◌++◌}
use lib.ListN.{length, drop}
use lib.Dec.{ltb}
use Rattle.spec_tree.specs.Tree.{Name, Tree}
use Rattle.words.specs.words.Words.{rewritten_words, tree_of, name_of, sound}
use Rattle.words.specs.words.Answers.{request_answer, Rewriting, rewriting_by, rewriting}

module _ (f : Tree → Name → Tree → Tree) (ws part : List ℕ) (name : ℕ) (old : List ℕ) where
  abbrev pub new_words : List ℕ
  new_words = rewritten_words (f (tree_of part) (name_of name)) ws

  answered :
      (r : Result ⊤ Fault) → r ≡ request_answer (sound ws part name) (ltb (length old) (length ws)) → rewriting f ws part name old ≡ rewriting_by r new_words old
  unfolding rewriting
  answered r e = ap (λ (q : Result ⊤ Fault). rewriting_by q new_words old) (sym e)

  abbrev pub Ends : Result ℕ Fault → List ℕ → Type 0
  Ends r out = (r ≡ (rewriting f ws part name old).answer) × (out ≡ (rewriting f ws part name old).out)

  pub ends_broken : Err fault.Broken ≡ request_answer (sound ws part name) (ltb (length old) (length ws)) → Ends (Err fault.Broken) old
  unfolding rewriting_by
  ends_broken e = let a = answered (Err fault.Broken) e in (sym (ap (λ (q : Rewriting). q.answer) a), sym (ap (λ (q : Rewriting). q.out) a))

  pub ends_full : Err fault.NoRoom ≡ request_answer (sound ws part name) (ltb (length old) (length ws)) → Ends (Err fault.NoRoom) old
  unfolding rewriting_by
  ends_full e = let a = answered (Err fault.NoRoom) e in (sym (ap (λ (q : Rewriting). q.answer) a), sym (ap (λ (q : Rewriting). q.out) a))

  pub ends_written :
      Ok tt ≡ request_answer (sound ws part name) (ltb (length old) (length ws)) → (n : ℕ) (out : List ℕ) → n ≡ length new_words
      → out ≡ new_words ++ drop (length new_words) old → Ends (Ok n) out
  unfolding rewriting_by
  ends_written e n out c w =
      let a = answered (Ok tt) e in
      (ap Ok c ∙ sym (ap (λ (q : Rewriting). q.answer) a), w ∙ sym (ap (λ (q : Rewriting). q.out) a))
