use Rattle.std.proofs.Common.{◌≡◌, length, rules}
use Rattle.pay_peers.proofs.Kept.{byte_added, byte_left_out}
use Rattle.pay_peers.proofs.word.Line.add.Goals as goal

pub returns-then-self-lt-KEPT_BYTES : goal.returns-then-self-lt-KEPT_BYTES
returns-then-self-lt-KEPT_BYTES c =
    let size : length c.self.inside.bytes ≡ 129 = search rules in
    byte_added 129 c.self.inside.count c.args.byte c.self.inside.bytes c.args.self.now c.self.view_is c.if-self-lt-KEPT_BYTES.true size

pub returns-else-self-lt-KEPT_BYTES : goal.returns-else-self-lt-KEPT_BYTES
returns-else-self-lt-KEPT_BYTES c =
    let size : length c.self.inside.bytes ≡ 129 = search rules in
    byte_left_out 129 c.self.inside.count c.args.byte c.self.inside.bytes c.args.self.now c.self.view_is c.if-self-lt-KEPT_BYTES.false size
