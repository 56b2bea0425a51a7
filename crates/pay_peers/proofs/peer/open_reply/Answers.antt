use Rattle.std.proofs.Common.{◌≡◌, ◌++◌, string_bytes, Ok}
use Rattle.std.specs.Prelude.{codes, decimal}
use Rattle.std.proofs.lemmas.Result.{IfOk-weaker}
use Rattle.pay_peers.specs.OpenWeeks.{open_reply}
use Rattle.pay_peers.proofs.peer.open_reply.Goals as goal

pub returns : goal.returns
returns c =
    IfOk-weaker c.format.result (λ s. string_bytes s ≡ codes "OPEN " ++ (decimal c.args.day ++ (codes " " ++ (decimal c.args.count ++ codes "\n")))) (λ s. string_bytes s ≡ open_reply c.args.day (Ok c.args.count)) (λ s wrote. wrote)
    c.format.ensures.ok
