-- Objects with commas between them are the items of an array.
use Rattle.std.proofs.Common.{◌≡◌, ℕ, List, [], ◌∷◌, ◌++◌, true, Option, Some, None, refl, ap, ◌∙◌, append_assoc}
use Rattle.serde_json.specs.Data.{array, object, Items, Members}
use Rattle.serde_json.specs.Written.{compact_text, items_text}
use Rattle.pay_json.specs.Values.{all_joined, in_brackets, is_some_text, items_of, joined, with_item}

-- one object more
one_more : (text : List ℕ) (one : Option Members) (rest : Items)
    → joined text one ++ items_text (is_some_text (joined text one)) rest ≡ text ++ items_text (is_some_text text) (with_item one rest)
unfolding joined
one_more text None rest = refl
one_more [] (Some those) rest = refl
one_more (byte ∷ text) (Some those) rest = ap (λ (bytes : List ℕ). byte ∷ bytes) (append_assoc text (44 ∷ compact_text (object those)) (items_text true rest))

-- and all of them
all_are : {X : Type 0} (f : X → Option Members) (text : List ℕ) (list : List X) → all_joined f text list ++ 93 ∷ [] ≡ text ++ items_text (is_some_text text) (items_of f list)
all_are f text [] = refl
all_are f text (one ∷ list) = all_are f (joined text (f one)) list ∙ one_more text (f one) (items_of f list)

pub array_is : {X : Type 0} (f : X → Option Members) (list : List X) → in_brackets (all_joined f [] list) ≡ compact_text (array (items_of f list))
unfolding in_brackets
array_is f list = ap (λ (bytes : List ℕ). 91 ∷ bytes) (all_are f [] list)
