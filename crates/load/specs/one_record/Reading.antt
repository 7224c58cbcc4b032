-- What reading a record answers and leaves in the lent row (01, "Turned down": Load). Assumes nothing.
use Rattle.std.specs.Prelude.{ℕ, min, ◌≡◌, List, [], ◌∷◌, ◌++◌, length, drop, Some, None, Result, Ok, Err}
use Rattle.std.specs.Prelude as std
use Rattle.std.proofs.Math.Option.{Option, none, some}
use Rattle.spec_tree.specs.Outcome.{Outcome, ok, refused}
use Rattle.spec_tree.specs.Layout.{row_width, row_words}
use Rattle.load.specs.one_record.Item.{Item, a_row, a_root}
use Rattle.refusal.specs.declared.Refusal.{Refusal}
use Rattle.refusal.specs.Numbers.{number_of}
use Rattle.load.specs.declared.one_record.Added.{Added}
use Rattle.load.specs.declared.one_record.Added.TheVariants as added

-- what a record is read as: a row, the node of a root, or the number of a refusal
pub data Read : Type 0 where
  Row : Read
  Root : ℕ → Read
  Refused : ℕ → Read

-- the same, as the code gives it
abbrev pub told : Result Added Refusal → Read
told (Ok added.Row) = Row
told (Ok (added.Root k)) = Root k
told (Err e) = Refused (number_of e)

-- a row is laid out in front of what stood after it; otherwise only the row's length is promised
abbrev pub Follows : Outcome Item → List ℕ → Read → List ℕ → Type 0
Follows (ok (a_row x)) old answer new = (answer ≡ Row) × (new ≡ row_words x ++ drop row_width old)
Follows (ok (a_root k)) old answer new = (answer ≡ Root k) × (length new ≡ length old)
Follows (refused q) old answer new = (answer ≡ Refused q.number) × (length new ≡ length old)

-- numbers as they are read: no larger than a million
unfoldable pub capped_all : List ℕ → List ℕ
capped_all [] = []
capped_all (n ∷ l) = min n 1000000 ∷ capped_all l

-- all numbers in front of what stood after them
abbrev pub Writes : Option (List ℕ) → List ℕ → std.Option ℕ → List ℕ → Type 0
Writes none old answer new = (answer ≡ None) × (length new ≡ length old)
Writes (some ns) old answer new = (answer ≡ Some (length ns)) × (new ≡ capped_all ns ++ drop (length ns) old)
