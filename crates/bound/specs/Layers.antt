-- Layers: bounds made of the bounds below them.
use Rattle.std.specs.Prelude.{ℕ, if◌then◌else◌, length, nat_le}
use Rattle.amount.specs.Kind.{Kind}
use Rattle.view.specs.View.{ids}
use Rattle.bound.specs.Lawful.{Meaning, Lawful}

-- the bound that says nothing
abbrev pub zero_meaning : {A : Type 0} → Kind A → Meaning A
zero_meaning k v cells = k.zero

-- the greater of two amounts; of two that are the same, that one
abbrev pub greater_of : {A : Type 0} → Kind A → A → A → A
greater_of k x y = if k.below x y then y else x

abbrev pub greater_meaning : {A : Type 0} → Kind A → Meaning A → Meaning A → Meaning A
greater_meaning k p q v cells = greater_of k (p v cells) (q v cells)

-- asks below if at least m ids are live, else answers zero
abbrev pub from_size_meaning : {A : Type 0} → Kind A → ℕ → Meaning A → Meaning A
from_size_meaning k m p v cells = if nat_le m (length (ids v)) then p v cells else k.zero

-- a tree of the two layers over any meanings
pub data Stack (A : Type 0) : Type 0 where
  alone : Meaning A → Stack A
  greater : Stack A → Stack A → Stack A
  from_size : ℕ → Stack A → Stack A

abbrev pub stack_meaning : {A : Type 0} → Kind A → Stack A → Meaning A
stack_meaning k (alone p) = p
stack_meaning k (greater s t) = greater_meaning k (stack_meaning k s) (stack_meaning k t)
stack_meaning k (from_size m s) = from_size_meaning k m (stack_meaning k s)

-- all meanings at its leaves are lawful
abbrev pub AllLawful : {A : Type 0} → Kind A → Stack A → Type 0
AllLawful k (alone p) = Lawful k p
AllLawful k (greater s t) = AllLawful k s × AllLawful k t
AllLawful k (from_size m s) = AllLawful k s

-- a tree of layers of any height over lawful meanings has a lawful meaning
abbrev pub StacksLawful : {A : Type 0} → Kind A → Type 0
StacksLawful {A} k = (s : Stack A) → AllLawful k s → Lawful k (stack_meaning k s)
