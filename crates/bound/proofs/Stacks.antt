-- Trees of layers over lawful meanings are lawful.
use Rattle.amount.specs.Kind.{Kind, Laws}
use Rattle.bound.specs.Layers.{alone, greater, from_size, stack_meaning, StacksLawful}
use Rattle.bound.specs.Stacked.{greater_lawful, from_size_lawful}

pub stacks_lawful : {A : Type 0} (k : Kind A) (laws : Laws k) → StacksLawful k
stacks_lawful k laws (alone p) h = h
stacks_lawful k laws (greater s t) h = greater_lawful k laws (stack_meaning k s) (stack_meaning k t) (stacks_lawful k laws s h.0) (stacks_lawful k laws t h.1)
stacks_lawful k laws (from_size m s) h = from_size_lawful k laws m (stack_meaning k s) (stacks_lawful k laws s h)
