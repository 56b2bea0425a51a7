use Rattle.std.proofs.Common.{ap, sym, subst}
use Rattle.sqlite.specs.Held.{state}
use Rattle.pay_ledger.specs.declared.fault.OpenFault.TheVariants.{Store}
use Rattle.pay_ledger.specs.Faults.{open_fault_of_read}
use Rattle.pay_ledger.specs.Opening.{IsWhyNot}
use Rattle.pay_ledger.proofs.Along.{was, goes, stops, stopped, and_stopped, and_gone}
use Rattle.pay_ledger.proofs.Readied.{store_failed, of_its_kind, passed_on, is_readied}
use Rattle.pay_ledger.proofs.opening.ready.Goals as goal

pub returns-in_err-kind-clause-step : goal.returns-in_err-kind-clause-step
returns-in_err-kind-clause-step g c =
    stopped g.S.Store c.from_residual.result _ c.from_residual.ensures.1
    (stops g.S.Store c.args.tx.now.conn c.kind_of.new.tx.conn c.kind_of.ensures.same_reference c.kind_of.ensures.unchanged c.kind_of.ensures.survives)

pub returns-in_err-change-clause-step : goal.returns-in_err-change-clause-step
returns-in_err-change-clause-step g c =
    and_stopped g.S.Store c.from_residual-in_err-change.result
    (goes g.S.Store c.args.tx.now.conn c.kind_of.new.tx.conn c.kind_of.ensures.same_reference c.kind_of.ensures.unchanged c.in_ok-kind.ensures.inside c.kind_of.ensures.survives)
    _ c.from_residual-in_err-change.ensures.1
    (stops g.S.Store c.kind_of.new.tx.conn c.change.new.tx.conn c.change.ensures.same_reference (λ clean inside. c.change.ensures.unchanged clean) c.change.ensures.survives)

pub returns-clause-step : goal.returns-clause-step
returns-clause-step g c =
    and_gone g.S.Store _
    (goes g.S.Store c.args.tx.now.conn c.kind_of.new.tx.conn c.kind_of.ensures.same_reference c.kind_of.ensures.unchanged c.in_ok-kind.ensures.inside c.kind_of.ensures.survives)
    (goes g.S.Store c.kind_of.new.tx.conn c.change.new.tx.conn c.change.ensures.same_reference (λ clean inside. c.change.ensures.unchanged clean) c.in_ok-change.ensures.inside c.change.ensures.survives)

pub returns-in_err-kind-clause-refused : goal.returns-in_err-kind-clause-refused
returns-in_err-kind-clause-refused g c clean =
    let first = state g.S.Store c.args.tx.now.conn.now in
    passed_on c.from_residual.result (open_fault_of_read c.in_err-kind.field-0.0) first.now c.from_residual.ensures.1 (subst (λ f. IsWhyNot f first.now) (ap open_fault_of_read (sym c.in_err-kind.ensures.store)) (store_failed first.now))

pub returns-in_err-readying-clause-refused : goal.returns-in_err-readying-clause-refused
returns-in_err-readying-clause-refused g c clean =
    let first = state g.S.Store c.args.tx.now.conn.now in
    passed_on c.from_residual-in_err-readying.result c.in_err-readying.field-0.0 first.now c.from_residual-in_err-readying.ensures.1
    (of_its_kind first.now c.in_ok-kind.kind c.in_err-readying.field-0.0 c.in_err-readying.ensures (c.in_ok-kind.ensures.value clean) (λ free. (c.in_ok-kind.ensures.blank clean free).0))

pub returns-in_err-change-clause-refused : goal.returns-in_err-change-clause-refused
returns-in_err-change-clause-refused g c clean =
    let first = state g.S.Store c.args.tx.now.conn.now in
    passed_on c.from_residual-in_err-change.result Store first.now c.from_residual-in_err-change.ensures.1 (store_failed first.now)

pub returns-clause-readied : goal.returns-clause-readied
returns-clause-readied g c clean =
    let first = state g.S.Store c.args.tx.now.conn.now in
    let between = state g.S.Store c.kind_of.new.tx.conn.now in
    let last = state g.S.Store c.change.new.tx.conn.now in
    let before = was g.S.Store (goes g.S.Store c.kind_of.new.tx.conn c.change.new.tx.conn c.change.ensures.same_reference (λ clean inside. c.change.ensures.unchanged clean) c.in_ok-change.ensures.inside c.change.ensures.survives) clean in
    is_readied first between c.in_ok-kind.kind (c.in_ok-kind.ensures.value before) (c.in_ok-kind.ensures.blank before) (c.in_ok-kind.ensures.ledger before) (c.in_ok-kind.ensures.first before) last c.in_ok-readying.readying c.in_ok-readying.ensures
    (λ make. c.in_ok-change.ensures.made make clean) (λ upgrade. c.in_ok-change.ensures.upgraded upgrade clean) (λ keep. ap (λ h. (state g.S.Store h).now) (c.change.ensures.kept keep))
