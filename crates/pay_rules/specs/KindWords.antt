-- How what a journey was is told in lines and in statements.
use Rattle.std.specs.Prelude.{ℕ, List, codes}
use Rattle.pay_rules.specs.declared.shown.LineKind.{LineKind}
use Rattle.pay_rules.specs.declared.shown.LineKind.TheVariants as kind

-- what a journey was, in capital letters
abbrev pub word_of_kind : LineKind → List ℕ
word_of_kind kind.Rail = codes "RAIL"
word_of_kind kind.Same = codes "SAME"
word_of_kind kind.Lone = codes "LONE"
word_of_kind kind.Bus = codes "BUS"
