use Rattle.std.proofs.Common.{◌≡◌, ◌+◌, vec_len, vec_capacity}
use Rattle.pay_mailbox.proofs.Rests.{HasMoved}
use Rattle.pay_mailbox.proofs.mailbox.Mailbox.receive_rest.Given as goal

pub record Rest (g : goal.Over) (l : goal.Live-loop g) : Type 0 where
  pub mailbox : l.receiver.mailbox ≡ l.self
  pub moved : HasMoved l.fn.receiver l.fn.rest.items l.receiver l.rest.items l.counter
  pub len : vec_len l.rest ≡ vec_len l.fn.rest + l.counter
  pub capacity : vec_capacity l.rest ≡ vec_capacity l.fn.rest

abbrev pub invariant-loop : goal.invariant-loop
invariant-loop g l = Rest g l
