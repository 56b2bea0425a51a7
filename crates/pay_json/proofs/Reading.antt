-- What is written is read as it was.
use Rattle.std.proofs.Common.{sym, ap, ◌∙◌, arith}
use Rattle.json.specs.Json.{document}
use Rattle.json.specs.Tree.{HasNumbers, ItemsHaveNumbers, MembersHaveNumbers}
use Rattle.json.proofs.Printed.Decimals.{IsNumber-decimal, IsNumber-signed_decimal}
use Rattle.json.proofs.Printed.Trees.{document-print}
use Rattle.serde_json.specs.Data.{unsigned, negative, float, Data, null, boolean, number, string, array, object, Items, no_items, item, Members, no_members, member}
use Rattle.serde_json.specs.Written.{outline, items_outline, members_outline}
use Rattle.serde_json.proofs.Texts.{print-outline}
use Rattle.pay_json.specs.Laws.{StringsReadBack, ValuesReadBack, HasShortNumbers, ItemsHaveShortNumbers, MembersHaveShortNumbers}

mutual
  has_numbers : (value : Data) → HasShortNumbers value → HasNumbers (outline value)
  has_numbers null short = tt
  has_numbers (boolean b) short = tt
  has_numbers (number (unsigned n)) short = IsNumber-decimal n short
  has_numbers (number (negative z)) short = IsNumber-signed_decimal z short
  has_numbers (number (float x)) short = absurd short
  has_numbers (string text) short = tt
  has_numbers (array list) short = items_have list short
  has_numbers (object list) short = members_have list short

  items_have : (list : Items) → ItemsHaveShortNumbers list → ItemsHaveNumbers (items_outline list)
  items_have no_items short = tt
  items_have (item value list) short = (has_numbers value short.0, items_have list short.1)

  members_have : (list : Members) → MembersHaveShortNumbers list → MembersHaveNumbers (members_outline list)
  members_have no_members short = tt
  members_have (member name value list) short = (has_numbers value short.0, members_have list short.1)

pub values_read_back : ValuesReadBack
values_read_back value short shallow = ap document (sym (print-outline value)) ∙ document-print (outline value) (has_numbers value short) shallow

pub strings_read_back : StringsReadBack
strings_read_back text = values_read_back (string text) tt (omega arith)
