-- What was forgotten, once more is.
use Rattle.std.proofs.Common.{◌≡◌, ◌++◌, List, sym, ap, ◌∙◌}
use Rattle.pay_shard.specs.JournalParts.{past_step, all_in, all_past}
use Rattle.pay_shard.specs.declared.item.Item.{Item}
use Rattle.pay_shard.specs.declared.past.Past.TheVariants.{Then, rolls-Then}
use Rattle.pay_shard.specs.declared.past.Past.TheOpen.{Past-F}
use Rattle.pay_shard.specs.declared.past.Past.TheFolds.{fold-roll-Past}

pub past_then : (earlier : _) (blocks : _) → all_past (Then earlier blocks) ≡ all_past earlier.value ++ all_in blocks.value.items
past_then earlier blocks = ap all_past (sym (rolls-Then earlier blocks)) ∙ fold-roll-Past (List Item) past_step (Past-F.Then earlier blocks)
