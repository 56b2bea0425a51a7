-- All that came to an account, one after another.
use Rattle.std.specs.Prelude.{ℕ}
use Rattle.pay_rules.specs.Changes.{Change, Tapped, Fixed}
use Rattle.pay_book.specs.declared.history.Sent.{Sent}
use Rattle.pay_book.specs.declared.history.Sent.TheVariants.{Tap, Fix}

-- whose it is
abbrev pub account_of : Sent → ℕ
account_of (Tap tap) = tap.account
account_of (Fix fix) = fix.account

-- as a change of what is accepted
abbrev pub change_of : Sent → Change
change_of (Tap tap) = Tapped tap
change_of (Fix fix) = Fixed fix
