-- A set to which what a list has was added, one after another.
use Rattle.std.proofs.Common.{◌≡◌, ℕ, List, [], ◌∷◌, ◌++◌, map, None, ◌+◌, ◌<◌, length, take, get_or, refl, sym, ap, ◌∙◌}
use Rattle.std.proofs.lemmas.List.{take_more}
use Rattle.std.specs.FinMap.{from_entries, get, insert, get-from_entries, from_entries_push}
use Rattle.pay_rules.specs.Numbers.{ByNumber}
use Rattle.pay_rules.specs.NumberOrder.{number_total, exact_numbers}
use Rattle.pay_explain_job.specs.Numbered.{set_of}

module _ {X : Type 0} (number : X → ℕ × ℕ) where
  -- each at its number
  abbrev listed : List X → List ((ℕ × ℕ) × X)
  listed list = map (λ x. (number x, x)) list

  listed_more : (list : List X) (x : X) → listed (list ++ x ∷ []) ≡ listed list ++ (number x, x) ∷ []
  listed_more [] x = refl
  listed_more (y ∷ list) x = ap (λ (l : List ((ℕ × ℕ) × X)). (number y, y) ∷ l) (listed_more list x)

  more : (list : List X) (x : X) → get (set_of number list) (number x) ≡ None → set_of number (list ++ x ∷ []) ≡ insert (set_of number list) (number x) x
  more list x none =
      ap from_entries (listed_more list x)
      ∙ from_entries_push number_total exact_numbers (listed list) (number x) x (sym (get-from_entries number_total (listed list) (number x)) ∙ none)

  -- one more of the list is inserted, where none had its number
  pub next : (set now : ByNumber X) (list : List X) (i : ℕ) (x : X) → i < length list → x ≡ get_or list i x → get set (number x) ≡ None → now ≡ insert set (number x) x
      → set ≡ set_of number (take i list) → now ≡ set_of number (take (i + 1) list)
  next set now list i x below at none is so_far =
      is ∙ ap (λ s. insert s (number x) x) so_far ∙ sym (more (take i list) x (sym (ap (λ s. get s (number x)) so_far) ∙ none))
      ∙ ap (λ y. set_of number (take i list ++ y ∷ [])) at ∙ sym (ap (set_of number) (take_more list i x below))
