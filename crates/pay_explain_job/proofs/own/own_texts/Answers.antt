use Rattle.std.proofs.Common.{◌≤◌, ◌∙◌, rules, inl, inr, ap, arith, length, map as each, subst, vec_items}
use Rattle.std.proofs.lemmas.List.{length-map, take_all}
use Rattle.std.proofs.lemmas.Result.{err_from_is_err_and}
use Rattle.pay_account_lines.specs.Words.{own_lines}
use Rattle.pay_explain_job.specs.OwnLines.{AreOwned}
use Rattle.pay_explain_job.proofs.OwnTexts.{other_among, own_more, owned_more}
use Rattle.pay_explain_job.proofs.own.own_texts.Goals as goal

pub loop-place-init : goal.loop-place-init
loop-place-init c = record { own = ap (each vec_items) c.new-own.ensures.items; owned = tt }

pub loop-place-preserved : goal.loop-place-preserved
loop-place-preserved c =
    let texts = each vec_items c.args.texts.now in
    let i = c.loop-place.invariant in
    let at = c.text_at-text.ensures in
    record {
      own = own_more texts c.loop-place.place _ at c.args.account _ _ _ c.in_ok-add_text.ensures c.in_ok-its.ensures.own i.own;
      owned = owned_more texts c.loop-place.place _ at c.in_ok-its.ensures.owned i.owned;
    }

pub returns-in_err-its-clause-fails : goal.returns-in_err-its-clause-fails
returns-in_err-its-clause-fails c =
    let texts = each vec_items c.args.texts.now in
    let p = err_from_is_err_and c.from_residual.result c.from_residual.ensures.1 in
    rw (p.1, p.2) (elim c.in_err-its.ensures.fails [
      | inl memory ↦ inl memory
      | inr (line, other, told) ↦ inr (c.loop-place.place, line, other_among texts c.loop-place.place _ c.text_at-text.ensures line c.loop-place.invariant.owned other, told)
    ])

pub returns-in_err-add_text-clause-fails : goal.returns-in_err-add_text-clause-fails
returns-in_err-add_text-clause-fails c =
    let p = err_from_is_err_and c.from_residual-in_err-add_text.result c.from_residual-in_err-add_text.ensures.1 in
    rw p.1 (inl p.2)

pub returns-clause-own : goal.returns-clause-own
returns-clause-own c =
    let texts = each vec_items c.args.texts.now in
    let many : length c.args.texts.now ≤ c.loop-place.place = search rules in
    let same = length-map c.args.texts.now vec_items in
    c.loop-place.invariant.own ∙ ap (each (own_lines c.args.account)) (take_all c.loop-place.place texts (omega (arith, many, same)))

pub returns-clause-owned : goal.returns-clause-owned
returns-clause-owned c =
    let texts = each vec_items c.args.texts.now in
    let many : length c.args.texts.now ≤ c.loop-place.place = search rules in
    let same = length-map c.args.texts.now vec_items in
    subst AreOwned (take_all c.loop-place.place texts (omega (arith, many, same))) c.loop-place.invariant.owned
