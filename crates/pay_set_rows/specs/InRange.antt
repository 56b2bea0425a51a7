-- The ranges of the numbers of taps and corrections, as sets hold them.
use Rattle.std.specs.Prelude.{ℕ, ◌≤◌}
use Rattle.pay_day.specs.Day.{IsStamp}
use Rattle.pay_rules.specs.declared.tap.Tap.{Tap}
use Rattle.pay_rules.specs.Credits.{IsCredit}
use Rattle.pay_rules.specs.declared.fix.Fix.{Fix}
use Rattle.pay_rules.specs.declared.fix.What.{What}
use Rattle.pay_rules.specs.declared.fix.What.TheVariants.{Void, Fill, Credit, Drop}

-- readers, staff and places are counted from 1
abbrev pub IsCounted : ℕ → Type 0
IsCounted number = (1 ≤ number) × (number ≤ 65_535)

-- and what one of them gave from 0
abbrev pub IsSeq : ℕ → Type 0
IsSeq number = number ≤ 4_294_967_295

pub record IsTapInRange (tap : Tap) : Type 0 where
  pub of_reader : IsCounted tap.reader
  pub at_seq : IsSeq tap.seq
  pub at_stamp : IsStamp tap.stamp
  pub at_place : IsCounted tap.place

-- each number of what a correction does
abbrev pub IsWhatInRange : What → Type 0
IsWhatInRange (Void reader seq) = IsCounted reader × IsSeq seq
IsWhatInRange (Fill stamp place kind) = IsStamp stamp × IsCounted place
IsWhatInRange (Credit credit) = IsCredit credit
IsWhatInRange (Drop staff seq) = IsCounted staff × IsSeq seq

pub record IsFixInRange (fix : Fix) : Type 0 where
  pub of_staff : IsCounted fix.staff
  pub at_seq : IsSeq fix.seq
  pub does : IsWhatInRange fix.what
