use Rattle.std.proofs.Common.{◌≡◌, ℕ, ◌+◌, ◌*◌, ◌<◌, length, arith}
use Rattle.std.proofs.lemmas.Nat.{mul-add-lt}
use Rattle.std.proofs.lemmas.List.{get_or_read}
use Rattle.job.proofs.cells.there.Goals as goal

place : (n i j m : ℕ) → m ≡ n * n → i < n → j < n → i * n + j < m
place n i j m e p q = omega (arith, mul-add-lt i n j n p q)

pub overflow_mul-result : goal.overflow_mul-result
overflow_mul-result g c = omega (arith, place c.args.width c.args.i c.args.j (length c.args.cells.now) (omega arith) (omega arith) (omega arith))

pub overflow_add-result : goal.overflow_add-result
overflow_add-result g c = omega (arith, place c.args.width c.args.i c.args.j (length c.args.cells.now) (omega arith) (omega arith) (omega arith))

pub offset_bounds-cells-i : goal.offset_bounds-cells-i
offset_bounds-cells-i g c = omega (arith, place c.args.width c.args.i c.args.j (length c.args.cells.now) (omega arith) (omega arith) (omega arith))

pub bounds-cells-i : goal.bounds-cells-i
bounds-cells-i g c = place c.args.width c.args.i c.args.j (length c.args.cells.now) (omega arith) (omega arith) (omega arith)

pub returns : goal.returns
returns g c = get_or_read c.args.cells.now _ _ (place c.args.width c.args.i c.args.j (length c.args.cells.now) (omega arith) (omega arith) (omega arith)) c.index-cells-i.is
