use Rattle.std.proofs.Common.{◌≡◌, ◌+◌, ◌<◌, unwrap_or, find, sym, ap, ◌∙◌, rules, tests, arith}
use Rattle.std.specs.List.{range_with_len}
use Rattle.std.proofs.lemmas.Iterator.{YieldsList-from_range}
use Rattle.std.proofs.lemmas.Iterator.Search.{find_from_yields_List}
use Rattle.std.proofs.lemmas.Iterator.Adapters.{option_map_id}
use Rattle.view.proofs.Joining.{first_below}
use Rattle.board.specs.State.{view_of}
use Rattle.board.proofs.Views.{parts_are}
use Rattle.board.proofs.board.Board.first_part.Goals as goal

pub returns-clause-value : goal.returns-clause-value
returns-clause-value c =
    let v = view_of c.args.self.now.state in
    let found : c.find.result ≡ find (v.holds c.args.id) (range_with_len 0 v.parts) =
    sym (option_map_id c.find.result) ∙ find_from_yields_List (v.holds c.args.id) _ _ _ c.find.ensures.ran (YieldsList-from_range 0 v.parts v.parts (search rules) (omega arith)) (λ x b q k. search (rules, tests)) in
    c.unwrap_or.ensures ∙ ap (λ o. unwrap_or o 0) found

pub returns-clause-inside : goal.returns-clause-inside
returns-clause-inside c =
    let v = view_of c.args.self.now.state in
    let some : 0 < 0 + v.parts = omega (arith, parts_are c.args.self.now.state, c.args.self.now.some) in
    omega (arith, returns-clause-value c, first_below (v.holds c.args.id) 0 v.parts some)
