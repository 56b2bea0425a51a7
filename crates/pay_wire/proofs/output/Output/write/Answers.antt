use Rattle.pay_wire.proofs.WriterCalls.{cause_of_write}
use Rattle.pay_wire.proofs.output.Output.write.Goals as goal

pub returns-clause-cause : goal.returns-clause-cause
returns-clause-cause g c =
    let e = c.state_after-self.ensures in
    cause_of_write g.W.KnownWriter.MayAnswer _ c.ask_to_write-written.result c.state_after-self.result _ _ _ c.requires.some c.ask_to_write-written.ensures.told e.some e.none e.interrupted e.failed
