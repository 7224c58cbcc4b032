use Prim.Native.Nat.{ℕ}
use mathlib.Core.Path.{◌∙◌, subst}
use mathlib.Core.List.{List}
use lib.ListN.{length}
use Rattle.std.specs.Prelude.{IfSome}
use Rattle.topo_sort.specs.links.Links.{StmtLinked}
use Rattle.cse_flat.proofs.ending.Linking.{binding_is}
use Rattle.cse_flat.proofs.ending.link_one.Goals as goal

pub returns : goal.returns
returns c =
    let a = c.args in
    let t = a.trees.now in
    subst (λ (ws : List ℕ). IfSome c.link_stmt.result (λ m. StmtLinked ws (length a.heads.now) a.j a.heads.now a.links.now a.waiting.now m c.link_stmt.new.heads c.link_stmt.new.links c.link_stmt.new.waiting))
    (c.words.ensures ∙ binding_is t.results t.places.now t.tokens.now a.j) c.link_stmt.ensures
