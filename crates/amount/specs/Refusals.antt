-- The number and the text of each refusal.
use Rattle.std.specs.Prelude.{ℕ, List, codes}
use Rattle.amount.specs.declared.WidthRefusal.{WidthRefusal}
use Rattle.amount.specs.declared.WidthRefusal.TheVariants.{TooWide}

abbrev pub width_number : WidthRefusal → ℕ
width_number TooWide = 4

abbrev pub width_text : WidthRefusal → List ℕ
width_text TooWide = codes "an amount is too wide"
