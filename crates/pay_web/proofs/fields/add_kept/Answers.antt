use Rattle.std.proofs.Common.{[], ◌∷◌, OnOk}
use Rattle.pay_web.proofs.Adding.{more, last}
use Rattle.pay_web.proofs.fields.add_kept.Goals as goal

pub returns-clause-fields : goal.returns-clause-fields
returns-clause-fields c =
    let two = more _ (_ ∷ []) _ _ _ c.in_ok-add.ensures.fields c.in_ok-add-2.ensures.fields in
    last _ c.add-3.result _ _ _ _ two c.add-3.ensures.fields
