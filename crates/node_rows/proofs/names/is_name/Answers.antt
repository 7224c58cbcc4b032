-- `node_rows::names::is_name` meets its contract. Assumes nothing.
use mathlib.Core.Path.{sym, ◌∙◌, ap}
use mathlib.Core.Bool.{not}
use lib.ListN.{length}
use borrow.Author.Tests.{le-leb}
use Rattle.node_rows.proofs.names.Leaves.{name_by, rest}
use Rattle.node_rows.proofs.names.is_name.Goals as goal

pub returns-then-all_word_bytes : goal.returns-then-all_word_bytes
returns-then-all_word_bytes c = let name = c.args.name.now in
    let some = sym c.is_empty.ensures ∙ c.if-is_empty.false in
    let few = le-leb (length name) 32 c.if-name-gt-LONGEST.false in
    rw (name_by name, some, sym c.is_letter.ensures ∙ c.if-not-is_letter.false, ← rest 1 name, sym c.all_word_bytes.ensures ∙ c.if-all_word_bytes.true, few) (ap not c.is_made.ensures)

pub returns-else-all_word_bytes : goal.returns-else-all_word_bytes
returns-else-all_word_bytes c = let name = c.args.name.now in
    rw (name_by name, sym c.is_empty.ensures ∙ c.if-is_empty.false, sym c.is_letter.ensures ∙ c.if-not-is_letter.false, ← rest 1 name, sym c.all_word_bytes.ensures ∙ c.if-all_word_bytes.false) c.if-all_word_bytes.false
