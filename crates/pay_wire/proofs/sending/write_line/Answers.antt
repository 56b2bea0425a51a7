use Rattle.std.proofs.Common.{length, sym, subst}
use Rattle.std.proofs.Math.Seq.{take-length}
use Rattle.std.proofs.KnownBytes.{Appends-kept}
use Rattle.std.specs.Io.KnownBytes.{Appends}
use Rattle.pay_wire.proofs.Fronts.{on_err}
use Rattle.pay_wire.proofs.sending.write_line.Goals as goal

-- all that was taken is a front too
pub returns-clause-err : goal.returns-clause-err
returns-clause-err g c =
    let bytes = c.args.line.now in
    on_err c.flush.result (length bytes, subst (Appends _ _) (sym (take-length bytes)) (Appends-kept _ _ _ bytes c.in_ok-write_whole.ensures.ok c.flush.ensures.bytes))
