-- What a crash leaves of an open connection outside a transaction.
use Rattle.std.proofs.Common.{◌≡◌, Bool, false, not, IsTrue, sym, ap, ◌∙◌}
use Rattle.sqlite.specs.State.{State}
use Rattle.sqlite.specs.Tree.{Trees}
use Rattle.pay_ledger.specs.Steps.{IsOnDisk}

pub on_disk : (s : State) → s.now ≡ s.committed → ((trees : Trees) → s.may_leave trees → trees ≡ s.committed.trees) → IsOnDisk s
unfolding IsOnDisk
on_disk s same settled trees left = settled trees left ∙ ap (λ db. db.trees) (sym same)

pub is_outside : (answer inside : Bool) → answer ≡ not inside → inside ≡ false → IsTrue answer
is_outside answer inside is out = is ∙ ap not out
