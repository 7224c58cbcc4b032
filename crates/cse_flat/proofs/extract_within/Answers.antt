use Prim.Native.Nat.{ℕ}
use native.Mathlib.Omega.{arith}
use native.Mathlib.Nat.{le_refl}
use mathlib.Core.Path.{◌≡◌, sym, ◌∙◌, ap}
use lib.ListN.{length, take, drop, replicate, length-replicate}
use lib.Seq.{length-take-le, take_at}
use Rattle.spec_tree.specs.Outcome.{ok}
use Rattle.rounds.proofs.Lending.{lent_fewer}
use Rattle.cse_flat.proofs.extract_within.Goals as goal

pub copy-requires : goal.copy-requires
copy-requires g c =
    omega (arith, length-replicate {A = ℕ} g.row.WORDS 0, length-take-le c.args.len c.args.work.now (omega (arith, c.requires.roots_value.1, c.requires.lent.1, c.requires.work_len.0)), c.requires.roots_value.1)

pub extract_words-requires : goal.extract_words-requires
extract_words-requires g c =
    let front : length (take c.args.len c.args.work.now) ≡ c.args.len =
    length-take-le c.args.len c.args.work.now (omega (arith, c.requires.roots_value.1, c.requires.lent.1, c.requires.work_len.0)) in
    let words = length-replicate {A = ℕ} g.row.WORDS 0 in
    let facts = length-replicate {A = ℕ} g.row.FACTS 0 in
    let chains = length-replicate {A = ℕ} g.row.CHAINS 0 in
    let rest = drop (length (take c.args.len c.args.work.now)) (replicate {A = ℕ} g.row.WORDS 0) in
    let copied : take c.args.len c.copy.new.out ≡ take c.args.len c.args.work.now = ap (take c.args.len) c.copy.ensures ∙ take_at (take c.args.len c.args.work.now) rest c.args.len front in
    record {
      roots_value = (c.requires.roots_value.0 ∙ ap ok (sym copied), omega (arith, c.copy.auto.out, words, c.requires.roots_value.1), omega (arith, words, c.requires.roots_value.1));
      lent = lent_fewer c.requires.lent.0 (le_refl _) facts words words chains words;
      len_in_bounds = (omega (arith, facts, c.requires.roots_value.2), c.requires.work_len.0, c.requires.work_len.1);
    }
