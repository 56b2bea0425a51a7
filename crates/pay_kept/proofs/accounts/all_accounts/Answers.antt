use Rattle.std.proofs.Common.{◌∙◌, ◌++◌, ap, sym}
use Rattle.pay_shard.specs.declared.asked.Asked.{Asked}
use Rattle.pay_shard.specs.declared.item.Item.{Item}
use Rattle.pay_kept.specs.Alike.{account_of}
use Rattle.pay_kept.proofs.Lists.{flat_more}
use Rattle.pay_kept.proofs.accounts.all_accounts.Goals as goal

pub loop-place-preserved : goal.loop-place-preserved
loop-place-preserved c =
    c.in_ok-put_account.ensures ∙ ap (λ (a : Asked). c.loop-place.list.items ++ account_of a) c.asked.ensures.value ∙ ap (λ l. l ++ account_of c.item_at.result.entry.command) c.loop-place.invariant
    ∙ sym (flat_more (λ (i : Item). account_of i.entry.command) c.args.journal.now.items c.loop-place.place c.item_at.result c.item_at.ensures)
