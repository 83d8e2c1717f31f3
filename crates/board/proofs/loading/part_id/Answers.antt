use Rattle.std.proofs.Common.{true, rules}
use Rattle.board.proofs.Flags.{made_flags, same_id}
use Rattle.board.proofs.loading.part_id.Goals as goal

pub returns : goal.returns
returns g c =
    same_id true _ _ _ _
    (made_flags _ _ _ (λ i flag q h. search rules) _ _ c.from_fn.ensures.items)
    (made_flags _ _ _ (λ p flag q h. search rules) _ _ c.from_fn-2.ensures.items)
