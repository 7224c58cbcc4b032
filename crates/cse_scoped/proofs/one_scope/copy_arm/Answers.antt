use Rattle.std.specs.Prelude.{Err}
use native.Mathlib.Omega.{arith}
use mathlib.Core.Path.{◌∙◌, ap}
use lib.Seq.{length-take-le}
use Rattle.cse_scoped.proofs.one_scope.Leaves.{copied_there, copied_over, never_broken}
use Rattle.cse_scoped.proofs.one_scope.copy_arm.Goals as goal

pub returns-in-Ok : goal.returns-in-Ok
returns-in-Ok c =
    let a = c.args in
    let s = c.split_at_mut-held.ensures in
    copied_there a.work.now a.group.now a.h a.a c.min-room.result c.requires.0 c.requires.1 c.requires.2 c.requires.3 (omega (arith, c.min-room.ensures)) (omega (arith, c.min-room.ensures)) (λ n f g. omega (arith, c.min-room.ensures, f, g)) _ _ c.in-Ok.n c.in-Ok.is _ _ s.front s.back c.copy_column.ensures

pub returns-in-Err-NoRoom : goal.returns-in-Err-NoRoom
returns-in-Err-NoRoom c =
    let a = c.args in
    let s = c.split_at_mut-held.ensures in
    copied_over a.work.now a.group.now a.h a.a c.min-room.result c.requires.0 c.requires.1 c.requires.2 c.requires.3 (omega (arith, c.min-room.ensures)) (omega (arith, c.min-room.ensures)) (λ n f g. omega (arith, c.min-room.ensures, f, g)) _ _ (c.in-Err-NoRoom.is ∙ ap Err c.in-Err-NoRoom.field-0-is)
    (c.copy_column.auto.out ∙ length-take-le _ _ (omega (arith, c.min-room.ensures, s.back_len, s.front_len))) _ _ s.front s.back c.copy_column.ensures

pub unreachable-requires : goal.unreachable-requires
unreachable-requires c =
    let a = c.args in
    let s = c.split_at_mut-held.ensures in
    never_broken a.work.now a.group.now a.h a.a c.min-room.result c.requires.0 c.requires.1 c.requires.2 c.requires.3 (omega (arith, c.min-room.ensures)) (omega (arith, c.min-room.ensures)) (λ n f g. omega (arith, c.min-room.ensures, f, g)) _ _ (c.in-Err-Broken.is ∙ ap Err c.in-Err-Broken.field-0-is) _ _ s.front s.back c.copy_column.ensures
