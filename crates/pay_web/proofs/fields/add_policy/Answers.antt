use Rattle.std.proofs.Common.{[], ◌∷◌, codes}
use Rattle.http_server.specs.Response.{fields_of}
use Rattle.pay_web.specs.Fields.{policy}
use Rattle.pay_web.proofs.Adding.{more, last}
use Rattle.pay_web.proofs.fields.add_policy.Goals as goal

pub returns-clause-fields : goal.returns-clause-fields
returns-clause-fields c =
    let start = fields_of c.args.response.now in
    let two = more start (policy ∷ []) _ _ (codes "x-content-type-options", codes "nosniff") c.in_ok-add.ensures.fields c.in_ok-add-2.ensures.fields in
    let three = more start (policy ∷ (codes "x-content-type-options", codes "nosniff") ∷ []) _ _ (codes "cross-origin-resource-policy", codes "same-origin") two c.in_ok-add-3.ensures.fields in
    last start c.add-4.result _ _ _ _ three c.add-4.ensures.fields
