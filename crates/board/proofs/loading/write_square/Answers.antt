use Rattle.std.proofs.Common.{◌≡◌, ℕ, ◌+◌, ◌-◌, ◌*◌, ◌/◌, ◌%◌, ◌<◌, ◌≤◌, length, get_or, set, ap, ◌∙◌, ap₂, arith}
use Rattle.std.proofs.lemmas.List.{get_or_read}
use Rattle.std.proofs.lemmas.Nat.{div_below, mod_below}
use Rattle.job.specs.Lent.{job_of}
use Rattle.view.specs.Steps.{rewritten, start}
use Rattle.board.proofs.Written.{place, loaded_so_far, load_starts, load_written, load_ends}
use Rattle.board.proofs.loading.write_square.Goals as goal

pub loop-place-init : goal.loop-place-init
loop-place-init g c = load_starts g.A.Amount.kind (job_of c.args.sized.now.job) c.args.cells.now

-- a place of the square, by its row and its column
inside : (n m len size : ℕ) → 1 ≤ n → m < size → size ≡ n * n → (2 * n - 1) * (2 * n - 1) ≤ len → ((2 * n - 1) * (2 * n - 1) ≤ len) × ((m / n < n) × (m % n < n))
inside n m len size some h e room =
    let row : m / n < n = div_below m n n (omega arith) (omega arith) in
    let column : m % n < n = mod_below m n (omega arith) in
    (room, (row, column))

pub loop-place-preserved : goal.loop-place-preserved
loop-place-preserved g c =
    let k = g.A.Amount.kind in
    let job = job_of c.args.sized.now.job in
    let h = inside c.args.sized.now.job.parts c.loop-place.place (length c.args.cells.now) (length c.args.sized.now.job.square.now) (omega arith) (omega arith) (omega arith) (omega arith) in
    let read : _ ≡ get_or c.args.sized.now.job.square.now c.loop-place.place k.zero = get_or_read c.args.sized.now.job.square.now c.loop-place.place _ c.loop-place-test.true c.amount-item.is k.zero in
    c.put.ensures
    ∙ ap₂ (λ l x. set l (c.loop-place.place / c.args.sized.now.job.parts * (2 * c.args.sized.now.job.parts - 1) + c.loop-place.place % c.args.sized.now.job.parts) x) c.loop-place.invariant read
    ∙ load_written k job c.args.cells.now c.loop-place.place (omega arith) (omega arith) (place (2 * c.args.sized.now.job.parts - 1) _ _ (length c.args.cells.now) h.0 (omega (arith, h.1.0)) (omega (arith, h.1.1)))

pub returns : goal.returns
returns g c =
    let k = g.A.Amount.kind in
    let job = job_of c.args.sized.now.job in
    let end : c.loop-place.place ≡ c.args.sized.now.job.parts * c.args.sized.now.job.parts = omega (arith, c.loop-place.auto.place-end, c.loop-place-test.false) in
    c.loop-place.invariant ∙ ap (λ m. rewritten k (start job) c.args.cells.now (loaded_so_far k job c.args.cells.now m)) end ∙ load_ends k job c.args.cells.now
