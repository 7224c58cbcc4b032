use mathlib.Core.Path.{◌≡◌}
use lib.ListN.{length, take}
use Rattle.fmt.specs.checked.Check.{rows_in}
use Rattle.fusion.specs.place.Parts.{place_groups}
use Rattle.fusion.specs.place.Whole.{stmts_runs}
use Rattle.cse_scoped.specs.one_scope.Answers.{inner, Laid}
use Rattle.cse_scoped.specs.one_scope.Frame.{scope_arms}
use Rattle.cse_scoped.proofs.one_scope.ArmLaws.{ArmsSo}
use Rattle.cse_scoped.proofs.one_scope.WalkLaws.{WalkSo}
use Prim.Native.Nat.{◌+◌, ◌-◌, ◌*◌}
use Rattle.cse_scoped.proofs.one_scope.+scope.Given as goal

abbrev pub decreases-write_stmts : goal.decreases-write_stmts
decreases-write_stmts l = 16 * l.fuel + 8

abbrev pub decreases-write_stmt : goal.decreases-write_stmt
decreases-write_stmt l = 16 * l.fuel + 7

abbrev pub decreases-write_scope : goal.decreases-write_scope
decreases-write_scope l = 16 * l.fuel + 9

abbrev pub decreases-write_match : goal.decreases-write_match
decreases-write_match l = 16 * l.fuel + 6

abbrev pub decreases-walk : goal.decreases-walk
decreases-walk l = 16 * l.fuel + 5

abbrev pub decreases-scope_rounds : goal.decreases-scope_rounds
decreases-scope_rounds l = 16 * l.fuel

abbrev pub decreases-scope_listed : goal.decreases-scope_listed
decreases-scope_listed l = 16 * l.fuel + 13

abbrev pub decreases-scope_in : goal.decreases-scope_in
decreases-scope_in l = 16 * l.fuel + 11

abbrev pub decreases-scope_held : goal.decreases-scope_held
decreases-scope_held l = 16 * l.fuel + 12

abbrev pub decreases-scope_grouped : goal.decreases-scope_grouped
decreases-scope_grouped l = 16 * l.fuel + 10

abbrev pub decreases-scope : goal.decreases-scope
decreases-scope l = 16 * l.fuel + 1

abbrev pub decreases-measure : goal.decreases-measure
decreases-measure l = 16 * l.fuel + 4

abbrev pub decreases-arms : goal.decreases-arms
decreases-arms l = 16 * l.fuel + 3

abbrev pub decreases-arm : goal.decreases-arm
decreases-arm l = 16 * l.fuel + 2

abbrev pub invariant-arms-loop-a : goal.invariant-arms-loop-a
invariant-arms-loop-a l = record {
  done : ArmsSo (inner (rows_in l.rows) l.fuel (length l.initial.work - l.h)) (take l.h l.initial.work) l.group l.next l.at l.initial.table l.a l.end l.number l.extracted l.table;
  held : take l.h l.work ≡ take l.h l.initial.work;
}

abbrev pub invariant-walk-loop-g : goal.invariant-walk-loop-g
invariant-walk-loop-g l = record {
  done : WalkSo (inner (rows_in l.rows) l.fuel (length l.initial.work - l.h)) (take l.h l.initial.work) (place_groups (take l.h l.initial.work)) l.next l.g l.number l.extracted l.start l.to l.numbers l.stops l.kept;
  held : take l.h l.work ≡ take l.h l.initial.work;
}

abbrev pub invariant-write_stmts-loop-q : goal.invariant-write_stmts-loop-q
invariant-write_stmts-loop-q l =
    let rows = stmts_runs l.parts.tokens.now l.parts.results l.parts.first l.parts.places.now l.parts.numbers.now (scope_arms (rows_in l.rows) l.fuel (length l.initial.work - l.h) l.parts.tokens.now l.parts.results l.parts.first l.parts.places.now) l.taken l.q in
    record {
      to_is : l.to ≡ l.at + length rows;
      table_is : Laid l.at rows l.initial.table l.table;
      held : take l.h l.work ≡ take l.h l.initial.work;
    }
