use Rattle.std.proofs.Common.{◌≡◌, sym, ap, ◌∙◌, subst}
use Rattle.job.specs.Job.{Sound}
use Rattle.job.specs.Lent.{job_of}
use Rattle.view.specs.Reached.{Reached, by_load}
use Rattle.view.specs.Steps.{start, load_booked, loaded_cells}
use Rattle.board.specs.State.{standing, view_of}
use Rattle.board.specs.Trail.{started, Past}
use Rattle.board.specs.declared.state.State.{State}
use Rattle.board.proofs.Back.{some_by_past, few_by_past}
use Rattle.board.proofs.Loaded.{view_started, standing_started, tidy_started}
use Rattle.board.proofs.Told.{loads}
use Rattle.board.proofs.board.Board.load.Goals as goal

pub invariant_of-result : goal.invariant_of-result
invariant_of-result g c =
    let k = g.A.Amount.kind in
    let job = job_of c.in_ok-sized.sized.job in
    let sound = subst (Sound k) (sym c.in_ok-sized.ensures.same) (loads k g.met.A.Amount.laws (job_of c.args.job.now) c.args.cells.now c.in_ok-sized.ensures.tells).0 in
    let start_past : Past (standing (started job)) (started job) = subst (λ n. Past n (started job)) (sym (standing_started k job sound)) (tidy_started k job sound g.met.A.Amount.laws, standing_started k job sound) in
    let p : ∥ Past (standing c.start_state-state.result) c.start_state-state.result ∥₁ = ∣ subst (λ (s : State). Past (standing s) s) (sym c.start_state-state.ensures) start_past ∣₁ in
    record { some = some_by_past _ p; few = few_by_past _ p; past = p }

pub returns : goal.returns
returns g c =
    let k = g.A.Amount.kind in
    let job = job_of c.args.job.now in
    let sized = job_of c.in_ok-sized.sized.job in
    let same : sized ≡ job = c.in_ok-sized.ensures.same in
    let cells = c.args.cells.now in
    let s = loads k g.met.A.Amount.laws job cells c.in_ok-sized.ensures.tells in
    let sound = subst (Sound k) (sym same) s.0 in
    let view : view_of c.start_state-state.result ≡ start job = ap view_of c.start_state-state.ensures ∙ view_started k sized sound ∙ ap start same in
    let written : c.write_square.new.cells ≡ loaded_cells k job cells = c.write_square.ensures ∙ ap (λ j. loaded_cells k j cells) same in
    record {
      answer = c.in_ok-sized.ensures.value;
      tells = c.in_ok-sized.ensures.tells;
      board = (view, ap standing c.start_state-state.ensures ∙ standing_started k sized sound);
      cells = written;
      reached = subst (λ v. Reached k job v c.write_square.new.cells (load_booked k job)) (sym view) (subst (λ l. Reached k job (start job) l (load_booked k job)) (sym written) (by_load cells s.0 s.1));
    }
