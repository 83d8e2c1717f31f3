use Rattle.std.proofs.Common.{◌≡◌, ℕ, ◌*◌, ◌<◌, ◌≤◌, length, sym, ap, ◌∙◌, arith}
use Rattle.view.specs.View.{width}
use Rattle.view.specs.Steps.{rewritten}
use Rattle.view.proofs.Good.{open_is}
use Rattle.board.specs.State.{view_of}
use Rattle.board.proofs.Back.{made_is, live_width, next_unused, next_fits}
use Rattle.board.proofs.Written.{so_far, starts, ends, passes, written}
use Rattle.board.proofs.board.Board.write_amounts.Goals as goal
use Rattle.board.proofs.board.Board.write_amounts.Goals.{then-is_other, else-is_other}

pub loop-w-init : goal.loop-w-init
loop-w-init g c = starts g.A.Amount.kind (view_of c.args.self.now.state) c.args.cells.now c.args.a c.args.b

-- a cell of the new id is there
inside : (made wide n m w next_id width_is : ℕ) → made ≡ next_id → wide ≡ width_is → next_id < width_is → width_is * width_is ≤ m → n ≡ m → w < wide → (wide * wide ≤ n) × ((made < wide) × (w < wide))
inside made wide n m w next_id width_is e f h r l t = (let s : wide * wide ≡ width_is * width_is = ap (λ x. x * x) f in omega arith, (omega arith, t))

pub put-requires : goal.put-requires
put-requires g c =
    let past = c.args.self.now.past in
    inside _ _ _ (length c.args.cells.now) _ _ _ (c.len-id.ensures.value ∙ made_is _ past) c.width-width.ensures (next_fits _ past _ _ c.requires.1) c.requires.0 c.loop-w.auto.cells c.loop-w-test.true

pub put-requires-then-is_other : goal.put-requires-then-is_other
put-requires-then-is_other g c =
    let past = c.args.self.now.past in
    let h = inside _ _ _ (length c.args.cells.now) _ _ _ (c.len-id.ensures.value ∙ made_is _ past) c.width-width.ensures (next_fits _ past _ _ c.requires.1) c.requires.0 (c.put.auto.cells ∙ c.loop-w.auto.cells) c.loop-w-test.true in
    (h.0, (omega (arith, h.1.0, h.1.1), omega (arith, h.1.0, h.1.1)))

pub loop-w-preserved : goal.loop-w-preserved
loop-w-preserved g c =
    let k = g.A.Amount.kind in
    let s = c.args.self.now.state in
    let past = c.args.self.now.past in
    let cells = c.args.cells.now in
    let o = open_is (view_of s) c.args.a c.args.b c.requires.1 in
    elim c.if-is_other.branch [
      | then-is_other w ↦
          written k (view_of s) cells c.args.a c.args.b (live_width s past) (next_unused s past) (next_fits s past _ _ c.requires.1) c.requires.0 c.loop-w.w (sym w.if-is_other.ensures)
          o.live_a o.live_b c.len-id.result c.width-width.result c.loop-w.cells w.put.new.cells c.if-is_other.cells w.amount.result w.amount-then-is_other.result w.sum-sum.result
          (c.len-id.ensures.value ∙ made_is s past) c.width-width.ensures c.loop-w.invariant w.amount.ensures w.amount-then-is_other.ensures w.sum-sum.ensures w.put.ensures (w.cells-is ∙ w.put-then-is_other.ensures)
      | else-is_other w ↦
          w.cells-is ∙ c.loop-w.invariant ∙ passes k (view_of s) cells c.args.a c.args.b (live_width s past) (next_unused s past) (next_fits s past _ _ c.requires.1) c.requires.0 c.loop-w.w (sym w.if-is_other.ensures)
    ]

pub returns : goal.returns
returns g c =
    let k = g.A.Amount.kind in
    let s = c.args.self.now.state in
    let past = c.args.self.now.past in
    let cells = c.args.cells.now in
    let whole : c.loop-w.w ≡ width (view_of s) = omega (arith, c.loop-w.auto.w-end, c.loop-w-test.false, c.width-width.ensures) in
    c.loop-w.invariant ∙ ap (λ n. rewritten k (view_of s) cells (so_far k (view_of s) cells c.args.a c.args.b n n)) whole
    ∙ ends k (view_of s) cells c.args.a c.args.b (live_width s past) (next_unused s past) (next_fits s past _ _ c.requires.1) c.requires.0
