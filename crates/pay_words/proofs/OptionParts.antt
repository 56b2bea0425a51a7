-- What the words of a program say, with a part more.
use Rattle.std.proofs.Common.{◌≡◌, ◌∙◌, refl, sym, ap, List, [], ◌∷◌, ◌++◌, append-nil, append_assoc}
use Rattle.pay_words.specs.OneWord.{Text}
use Rattle.pay_words.specs.Options.{AreParts, Grammar, IsPart, Part, Setting, plain, apart, joined, alone, flag_value, plain_words, value_for, values_of, words_of_part, words_of_parts}
use Rattle.pay_words.proofs.OptionRules.{same_name}

pub plain_append : (a b : List Part) → plain_words (a ++ b) ≡ plain_words a ++ plain_words b
plain_append [] b = refl
plain_append (plain w ∷ a) b = ap (λ (l : List Text). w ∷ l) (plain_append a b)
plain_append (apart k w ∷ a) b = plain_append a b
plain_append (joined k w ∷ a) b = plain_append a b
plain_append (alone k ∷ a) b = plain_append a b

pub values_append : (j : Setting) (a b : List Part) → values_of j (a ++ b) ≡ values_of j a ++ values_of j b
values_append j [] b = refl
values_append j (plain w ∷ a) b = values_append j a b
values_append j (apart k w ∷ a) b =
    ap (λ (l : List Text). value_for j k w ++ l) (values_append j a b) ∙ sym (append_assoc (value_for j k w) (values_of j a) (values_of j b))
values_append j (joined k w ∷ a) b =
    ap (λ (l : List Text). value_for j k w ++ l) (values_append j a b) ∙ sym (append_assoc (value_for j k w) (values_of j a) (values_of j b))
values_append j (alone k ∷ a) b =
    ap (λ (l : List Text). value_for j k flag_value ++ l) (values_append j a b) ∙ sym (append_assoc (value_for j k flag_value) (values_of j a) (values_of j b))

pub plain_more : (parts : List Part) (word : Text) → plain_words (parts ++ plain word ∷ []) ≡ plain_words parts ++ word ∷ []
plain_more parts word = plain_append parts (plain word ∷ [])

pub values_plain : (j : Setting) (parts : List Part) (word : Text) → values_of j (parts ++ plain word ∷ []) ≡ values_of j parts
values_plain j parts word = values_append j parts (plain word ∷ []) ∙ append-nil (values_of j parts)

-- the part gives this value to this option
abbrev pub Gives : Part → Setting → Text → Type 0
Gives part k word = (plain_words (part ∷ []) ≡ []) × ((j : Setting) → values_of j (part ∷ []) ≡ value_for j k word)

pub apart_gives : (k : Setting) (word : Text) → Gives (apart k word) k word
apart_gives k word = (refl, λ j. append-nil (value_for j k word))

pub joined_gives : (k : Setting) (word : Text) → Gives (joined k word) k word
joined_gives k word = (refl, λ j. append-nil (value_for j k word))

pub alone_gives : (k : Setting) → Gives (alone k) k flag_value
alone_gives k = (refl, λ j. append-nil (value_for j k flag_value))

module _ (parts : List Part) (part : Part) (k : Setting) (word : Text) (gives : Gives part k word) where
  pub plain_valued : plain_words (parts ++ part ∷ []) ≡ plain_words parts
  plain_valued = plain_append parts (part ∷ []) ∙ (ap (λ (l : List Text). plain_words parts ++ l) gives.0 ∙ append-nil (plain_words parts))

  pub values_valued : (j : Setting) → values_of j (parts ++ part ∷ []) ≡ values_of j parts ++ value_for j k word
  values_valued j = values_append j parts (part ∷ []) ∙ ap (λ (l : List Text). values_of j parts ++ l) (gives.1 j)

-- the value of an option is its own
pub own_value : (k : Setting) (word : Text) → value_for k k word ≡ word ∷ []
own_value k word = rw (same_name k) refl

pub words_more : (parts : List Part) (part : Part) → words_of_parts (parts ++ part ∷ []) ≡ words_of_parts parts ++ words_of_part part
words_more [] part = append-nil (words_of_part part)
words_more (p ∷ parts) part =
    ap (λ (l : List Text). words_of_part p ++ l) (words_more parts part) ∙ sym (append_assoc (words_of_part p) (words_of_parts parts) (words_of_part part))

pub parts_more : (g : Grammar) (parts : List Part) (part : Part) → AreParts g parts → IsPart g part → AreParts g (parts ++ part ∷ [])
parts_more g [] part h is = (is, tt)
parts_more g (p ∷ parts) part h is = (h.0, parts_more g parts part h.1 is)

pub part_among : (g : Grammar) (before rest : List Part) (part : Part) → AreParts g (before ++ part ∷ rest) → IsPart g part
part_among g [] rest part h = h.0
part_among g (p ∷ before) rest part h = part_among g before rest part h.1
