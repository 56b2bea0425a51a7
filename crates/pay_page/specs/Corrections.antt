-- What the corrections about a day do, as a list.
use Rattle.std.specs.Prelude.{ℕ, List, [], ◌∷◌, ◌++◌, codes}
use Rattle.std.specs.List.{flat_map}
use Rattle.std.specs.FinMap.{values}
use Rattle.pay_names.specs.Words.{Named}
use Rattle.pay_rules.specs.Taps.{Taps}
use Rattle.pay_rules.specs.Fixes.{Fixes}
use Rattle.pay_explain.specs.Corrections.{correction_line}
use Rattle.pay_html.specs.Words.{escaped}

-- a line as an item, if there is any
abbrev pub item_of : List ℕ → List ℕ
item_of [] = []
item_of (byte ∷ line) = codes "<li>" ++ (escaped (byte ∷ line) ++ codes "</li>\n")

-- those of the accepted corrections, in the order of their numbers
abbrev pub correction_items : Named → Taps → Fixes → ℕ → List ℕ
correction_items names taps fixes day = flat_map (λ fix. item_of (correction_line names taps fixes day fix)) (values fixes)

-- as a list, or that there are none
unfoldable pub list_of : List ℕ → List ℕ
list_of items = codes "<h2>Corrections</h2>\n<ul>\n" ++ (items ++ codes "</ul>\n")

abbrev pub corrections_part : List ℕ → List ℕ
corrections_part [] = codes "<h2>Corrections</h2>\n<p>No correction is about this day.</p>\n"
corrections_part (byte ∷ items) = list_of (byte ∷ items)
