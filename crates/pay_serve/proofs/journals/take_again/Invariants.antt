use Rattle.std.proofs.Common.{◌≡◌, map as each, drop, vec_items, Result}
use Rattle.std.specs.Prelude.{⊤}
use Rattle.pay_serve.specs.Journals.{AreTakenAgain}
use Rattle.pay_serve.specs.declared.fault.ServeFault.{ServeFault}
use Rattle.pay_serve.proofs.journals.take_again.Given as goal

-- what becomes of the texts that are left becomes of all
abbrev pub invariant-loop-place : goal.invariant-loop-place
invariant-loop-place g l =
    let D = g.D.Desk in
    let texts = each vec_items l.texts in
    ((end : _) (result : Result ⊤ ServeFault) → AreTakenAgain l.zone D.parts l.place (drop l.place texts) (l.desk, end) result → AreTakenAgain l.zone D.parts 0 texts (l.initial.desk, end) result)
    × ((D.parts l.desk).standing ≡ (D.parts l.initial.desk).standing)
