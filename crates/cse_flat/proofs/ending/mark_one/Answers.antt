use Prim.Native.Nat.{ℕ}
use mathlib.Core.Path.{◌∙◌, ap}
use mathlib.Core.List.{List}
use Rattle.topo_sort.specs.reads.Marks.{with_needs}
use Rattle.cse_flat.proofs.ending.Linking.{binding_is}
use Rattle.cse_flat.proofs.ending.mark_one.Goals as goal

pub returns : goal.returns
returns c =
    let t = c.args.trees.now in
    c.mark_needs.ensures.1 ∙ ap (λ (l : List ℕ). with_needs l c.args.j c.args.bits.now) (c.words.ensures ∙ binding_is t.results t.places.now t.tokens.now c.args.j)
