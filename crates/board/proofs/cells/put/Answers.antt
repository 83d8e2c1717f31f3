use Rattle.std.proofs.Common.{◌+◌, ◌*◌, ◌<◌, length, arith, rules}
use Rattle.board.proofs.Written.{place}
use Rattle.board.proofs.cells.put.Goals as goal

pub overflow_mul-value : goal.overflow_mul-value
overflow_mul-value g c = omega (arith, place c.args.width c.args.i c.args.j (length c.args.cells.now) c.requires.0 c.requires.1.0 c.requires.1.1)

pub overflow_add-value : goal.overflow_add-value
overflow_add-value g c = omega (arith, place c.args.width c.args.i c.args.j (length c.args.cells.now) c.requires.0 c.requires.1.0 c.requires.1.1)

pub offset_bounds-cells-i : goal.offset_bounds-cells-i
offset_bounds-cells-i g c = let h : c.args.i * c.args.width + c.args.j < length c.args.cells.now = place c.args.width c.args.i c.args.j (length c.args.cells.now) c.requires.0 c.requires.1.0 c.requires.1.1 in search rules

pub bounds-cells-i : goal.bounds-cells-i
bounds-cells-i g c = place c.args.width c.args.i c.args.j (length c.args.cells.now) c.requires.0 c.requires.1.0 c.requires.1.1
