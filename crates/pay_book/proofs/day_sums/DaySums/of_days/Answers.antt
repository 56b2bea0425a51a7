use Rattle.std.proofs.Common.{ℕ, List, ◌+◌, ◌-◌, take, drop, length, ap, sym, ◌∙◌, subst, arith}
use Rattle.std.specs.List.{range_with_len, zip}
use Rattle.std.proofs.lemmas.Slice.Zip.{length-zip}
use Rattle.pay_caps.specs.Words.{CellSums}
use Rattle.pay_book.specs.Days.{Days, stored_of}
use Rattle.pay_book.specs.InStep.{IsPlaceOf}
use Rattle.pay_book.proofs.OfDays.{no_sooner, slice_stored, few_stored, zip_between, as_many_between}
use Rattle.pay_book.proofs.day_sums.DaySums.of_days.Goals as goal

pub between-requires : goal.between-requires
between-requires c =
    let days = c.self.inside.days.items in
    let from = subst (λ (list : List ℕ). IsPlaceOf c.args.first list c.place_in-from.result) c.deref.ensures c.place_in-from.ensures.place in
    let to = subst (λ (list : List ℕ). IsPlaceOf (c.args.first + c.args.count) list c.place_in-to.result) c.deref-2.ensures c.place_in-to.ensures.place in (
      no_sooner c.args.first (c.args.first + c.args.count) days c.place_in-from.result c.place_in-to.result (omega arith) from to,
      omega (arith, c.place_in-to.ensures.within, ap length c.deref-2.ensures, ap length c.deref-3.ensures, c.self.invariant.as_long),
    )

pub between-requires-2 : goal.between-requires-2
between-requires-2 c =
    let days = c.self.inside.days.items in
    let from = subst (λ (list : List ℕ). IsPlaceOf c.args.first list c.place_in-from.result) c.deref.ensures c.place_in-from.ensures.place in
    let to = subst (λ (list : List ℕ). IsPlaceOf (c.args.first + c.args.count) list c.place_in-to.result) c.deref-2.ensures c.place_in-to.ensures.place in (
      no_sooner c.args.first (c.args.first + c.args.count) days c.place_in-from.result c.place_in-to.result (omega arith) from to,
      omega (arith, c.place_in-to.ensures.within, ap length c.deref-2.ensures, ap length c.deref-4.ensures, c.self.invariant.as_long),
    )

pub returns-clause-held : goal.returns-clause-held
returns-clause-held c =
    let days : List ℕ = c.self.inside.days.items in
    let sums : List CellSums = c.self.inside.sums.items in
    let first : ℕ = c.place_in-from.result in
    let many : ℕ = c.place_in-to.result - c.place_in-from.result in
    let from = subst (λ (list : List ℕ). IsPlaceOf c.args.first list c.place_in-from.result) c.deref.ensures c.place_in-from.ensures.place in
    let to = subst (λ (list : List ℕ). IsPlaceOf (c.args.first + c.args.count) list c.place_in-to.result) c.deref-2.ensures c.place_in-to.ensures.place in
    ap (λ (list : List ℕ). zip list c.between-2.result.now) (c.between.ensures ∙ ap (λ (list : List ℕ). take many (drop first list)) c.deref-3.ensures)
    ∙ ap (λ (list : List CellSums). zip (take many (drop first days)) list) (c.between-2.ensures ∙ ap (λ (list : List CellSums). take many (drop first list)) c.deref-4.ensures)
    ∙ zip_between many first days sums
    ∙ slice_stored c.args.first c.args.count days sums first c.place_in-to.result c.self.invariant.as_long c.self.invariant.rising from to
    ∙ ap (λ (those : Days). stored_of those (range_with_len c.args.first c.args.count)) c.self.view_is

pub returns-clause-beside : goal.returns-clause-beside
returns-clause-beside c =
    let first : ℕ = c.place_in-from.result in
    let many : ℕ = c.place_in-to.result - c.place_in-from.result in
    ap length (c.between.ensures ∙ ap (λ (list : List ℕ). take many (drop first list)) c.deref-3.ensures)
    ∙ as_many_between many first c.self.inside.days.items c.self.inside.sums.items c.self.invariant.as_long
    ∙ sym (ap length (c.between-2.ensures ∙ ap (λ (list : List CellSums). take many (drop first list)) c.deref-4.ensures))

pub returns-clause-few : goal.returns-clause-few
returns-clause-few c =
    omega (
      arith,
      length-zip c.between.result.now c.between-2.result.now,
      returns-clause-beside c,
      ap length (returns-clause-held c),
      few_stored c.args.self.now c.args.first c.args.count,
    )
