-- `fmt::checked::words_ok` meets its contract. Assumes nothing.
use Rattle.std.proofs.Common.{refl, ◌∙◌, ◌&&◌, rules, tests}
use Rattle.std.specs.List.{list_all}
use Rattle.std.proofs.lemmas.Iterator.{YieldsList-from_slice}
use Rattle.std.proofs.lemmas.Iterator.Search.{all_from_yields_List}
use Rattle.std.proofs.lemmas.List.Recursion.{same_from_clauses}
use Rattle.spec_tree.specs.Bytes.{every}
use Rattle.fmt.specs.checked.Check.{rows_in, word_ok}
use Rattle.fmt.proofs.checked.words_ok.Goals as goal

pub returns : goal.returns
unfolding every
returns c =
    let test = word_ok (rows_in c.args.rows.now) in
    all_from_yields_List test _ _ _ c.all.ensures.ran (YieldsList-from_slice c.args.words.now cc) (λ x b q k. search (rules, tests))
    ∙ same_from_clauses (list_all test) (every test) (λ w b. test w && b) refl (λ _ _. refl) (λ _ _. refl) c.args.words.now
