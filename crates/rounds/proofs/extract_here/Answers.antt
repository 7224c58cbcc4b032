-- `rounds::extract_here` meets its contract. Assumes nothing.
use native.Mathlib.Omega.{arith}
use mathlib.Core.Path.{refl, sym}
use lib.Seq.{length-take-le}
use Rattle.rounds.proofs.Extracting.{turned, turn_refused}
use borrow.Author.Rules.{rules}
use Rattle.std.specs.Prelude.{Err}
use Rattle.rounds.specs.Answers.{Turns}
use Rattle.rounds.proofs.extract_here.Goals as goal

pub slice_bounds-extract-end-2 : goal.slice_bounds-extract-end-2
slice_bounds-extract-end-2 c = (let a = c.args in sym (length-take-le a.len a.tokens.now c.requires.len_in_bounds.0))

pub extract-requires : goal.extract-requires
extract-requires c = let a = c.args in
    let l = length-take-le a.len a.tokens.now c.requires.len_in_bounds.0 in
    record { chosen = c.requires.chosen; tokens_len_bound = (omega (arith, l, c.requires.len_in_bounds.1), c.requires.len_in_bounds.2); tokens_in_bounds = (omega (arith, l, c.requires.len_in_bounds_2), omega (arith, l, c.requires.len_in_bounds_2)) }

pub returns-in_err-n : goal.returns-in_err-n
returns-in_err-n c =
    let a = c.args in
    let t : Turns a.tokens.now a.len a.at a.name (Err c.in_err-n.field-0.0) a.tokens.now =
    (turn_refused a.tokens.now a.len a.at a.name c.requires.len_in_bounds.0 _ _ c.extract.result c.extract.ensures c.in_err-n.field-0.0 c.in_err-n.was, refl) in
    search rules

pub returns : goal.returns
returns c =
    let a = c.args in
    turned a.tokens.now a.len a.at a.name c.requires.len_in_bounds.0 _ _ c.extract.result c.extract.ensures c.in_ok-n.n c.in_ok-n.was _ c.copy.ensures
