use Prim.Native.Nat.{ℕ, ◌-◌}
use lib.ListN.{length}
use Rattle.std.specs.Prelude.{IfSome, Option as Maybe}
use Rattle.topo_sort.specs.links.Links.{StmtLinked}
use Rattle.cse_flat.specs.trees.Runs.{let_run}
use native.Mathlib.Omega.{arith}
use mathlib.Core.Path.{subst, refl}
use Rattle.cse_flat.proofs.ending.Linking.{so_far_begins, so_far_turns, so_far_ends}
use Rattle.cse_flat.proofs.ending.link_all.Goals as goal

pub loop-j-init : goal.loop-j-init
loop-j-init c = let t = c.args.trees.now in
    so_far_begins t.results t.places.now t.tokens.now _ c.args.heads.now c.args.links.now c.args.waiting.now refl c.requires.heads_value (omega (arith, t.ready.numbers, c.requires.heads_len.0)) c.requires.links_len_bound.0 c.requires.links_len_bound.1

pub loop-j-preserved : goal.loop-j-preserved
loop-j-preserved c =
    let t = c.args.trees.now in
    let l = c.loop-j in
    so_far_turns t.results t.places.now t.tokens.now _ c.loop-j.invariant c.loop-j-test.true _ _ _ _
    (subst (λ (o : Maybe ℕ). IfSome o (λ m. StmtLinked (let_run t (l.j - 1)) (length l.heads) (l.j - 1) l.heads l.links l.waiting m c.link_one.new.heads c.link_one.new.links c.link_one.new.waiting)) c.in-Some.is c.link_one.ensures)

pub returns : goal.returns
returns c = let t = c.args.trees.now in
    λ e. so_far_ends t.results t.places.now t.tokens.now _ c.loop-j.invariant (omega (arith, c.loop-j-test.false))
