-- How many items an array has.
use Rattle.std.proofs.Common.{◌≡◌, suc, List, [], ◌∷◌, length, refl, ap}
use Rattle.toml.specs.View.{items_view}
use Rattle.toml.specs.declared.value.Value.{Value}
use Rattle.pay_fare_file.specs.Keys.{items_len}

pub items_len_view : (vs : List Value) → items_len (items_view vs) ≡ length vs
items_len_view [] = refl
items_len_view (v ∷ vs) = ap suc (items_len_view vs)
