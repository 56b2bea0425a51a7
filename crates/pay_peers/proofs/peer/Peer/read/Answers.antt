use Rattle.pay_peers.proofs.FirstWords.{heard_by}
use Rattle.pay_peers.proofs.peer.Peer.read.Goals as goal

pub returns-clause-heard : goal.returns-clause-heard
returns-clause-heard g c lasts still =
    heard_by c.args.port.role c.args.self.now.awaited c.take_read.new.self.awaited c.args.self.now.begun c.args.self.now.pending.items _
    c.take_read.new.self.begun c.take_read.new.self.pending.items c.fate_after.result c.take_read.result c.take_read.new.self.over
    c.requires (c.fate_after.ensures lasts) c.take_read.ensures.taken c.take_read.ensures.greets still
