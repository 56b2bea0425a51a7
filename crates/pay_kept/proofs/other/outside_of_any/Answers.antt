use Rattle.std.proofs.Common.{rules, ◌≤◌, ℕ, length, IsPermutation, subst}
use Rattle.std.specs.List.{AllByRecursion}
use Rattle.std.proofs.lemmas.List.{take_all}
use Rattle.pay_compare.specs.Laws.{AreTouchesWithin}
use Rattle.pay_rules.specs.State.{accepted_of}
use Rattle.pay_shard.specs.ShardParts.{state_now}
use Rattle.pay_kept.specs.Alike.{asked_of}
use Rattle.pay_kept.proofs.Lists.{all_moved}
use Rattle.pay_kept.proofs.other.outside_of_any.Goals as goal

pub returns-clause-none : goal.returns-clause-none
returns-clause-none c =
    let P = λ (account : ℕ). AreTouchesWithin c.args.old.now c.args.last (accepted_of (state_now c.args.shard.now) account) in
    let many : length c.deref-account-items.result.now ≤ c.loop-account.account-index = search rules in
    let all = subst (AllByRecursion P) (take_all c.loop-account.account-index c.deref-account-items.result.now many) c.loop-account.invariant.0 in
    all_moved P (asked_of c.args.shard.now.journal) c.in_ok-accounts.accounts.items (subst (λ items. IsPermutation (asked_of items) c.in_ok-accounts.accounts.items) c.journal.ensures.value c.in_ok-accounts.ensures)
    (subst (AllByRecursion P) c.deref-account-items.ensures.value all)
