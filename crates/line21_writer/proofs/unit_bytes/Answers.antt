-- The verdict bounds the unit's first three numbers, so that its first byte is no larger than a byte.
use Rattle.std.proofs.Common.{arith}
use Rattle.line21.proofs.Numbers.{accepted-unit}
use Rattle.line21_writer.proofs.unit_bytes.Goals as goal

pub overflow_mul-result : goal.overflow_mul-result
overflow_mul-result c = omega (arith, (accepted-unit c.args.u c.requires).valid_1)

pub overflow_mul-result-2 : goal.overflow_mul-result-2
overflow_mul-result-2 c = omega (arith, (accepted-unit c.args.u c.requires).valid_2)

pub overflow_add-result : goal.overflow_add-result
overflow_add-result c =
    let unit = accepted-unit c.args.u c.requires in
    omega (arith, unit.valid_1, unit.valid_2)

pub overflow_add-result-2 : goal.overflow_add-result-2
overflow_add-result-2 c =
    let unit = accepted-unit c.args.u c.requires in
    omega (arith, unit.valid_1, unit.valid_2, unit.pad)
