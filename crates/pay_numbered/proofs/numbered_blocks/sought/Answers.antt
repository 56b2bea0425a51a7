use Rattle.std.proofs.Common.{◌≡◌, ◌≢◌, ◌∙◌, sym, slice_get, Some, None, rules}
use Rattle.pay_numbered.proofs.SoughtNumber.{one_number, two_numbers, parted, after_all, before_another, at_its_place}
use Rattle.pay_numbered.proofs.numbered_blocks.sought.Goals as goal

pub place-place-requires : goal.place-place-requires
place-place-requires g c = (search rules, (parted g.T.Numbered.number c.args.items.now c.args.number c.requires.rising, c.requires.few))

pub returns-in_default : goal.returns-in_default
returns-in_default g c =
    let none : slice_get c.args.items.now c.place-place.result ≡ None = search rules in
    (after_all g.T.Numbered.number c.args.items.now c.args.number c.place-place.result c.requires.rising c.place-place.ensures.place none, c.place-place.ensures.within)

pub returns-then-eq : goal.returns-then-eq
returns-then-eq g c =
    let there : slice_get c.args.items.now c.place-place.result ≡ Some c.in-Some.item = search rules in
    let one : g.T.Numbered.number c.in-Some.item ≡ c.args.number = sym c.number.ensures ∙ one_number c.number.result c.args.number (sym c.eq.ensures ∙ c.if-eq.true) in
    at_its_place g.T.Numbered.number c.args.items.now c.args.number c.place-place.result c.in-Some.item there one

pub returns-else-eq : goal.returns-else-eq
returns-else-eq g c =
    let there : slice_get c.args.items.now c.place-place.result ≡ Some c.in-Some.item = search rules in
    let other : g.T.Numbered.number c.in-Some.item ≢ c.args.number = λ one. two_numbers c.number.result c.args.number (sym c.eq.ensures ∙ c.if-eq.false) (c.number.ensures ∙ one) in
    (before_another g.T.Numbered.number c.args.items.now c.args.number c.place-place.result c.in-Some.item c.requires.rising c.place-place.ensures.place there other, c.place-place.ensures.within)
