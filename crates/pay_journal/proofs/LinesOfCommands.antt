-- What a line asks of a desk is spelled by that line.
use Rattle.std.proofs.Common.{◌≡◌, Bool, true, false, refl, sym, ap, subst}
use Rattle.std.specs.Prelude.{Result, Ok, Err, IfSome, if◌then◌else◌, nat_le, ◌&&◌}
use Rattle.jiff.specs.declared.tz.timezone.TimeZone.{TimeZone}
use Rattle.pay_day.specs.Words.{is_instant, stamp_of}
use Rattle.pay_day.specs.declared.limits.TheConstants.{FIRST_DAY, LAST_DAY}
use Rattle.pay_rules.specs.declared.fix.What.{What}
use Rattle.pay_rules.specs.declared.fix.What.TheVariants as what
use Rattle.pay_rules.specs.declared.limits.TheConstants.{MOST_CREDIT}
use Rattle.pay_shard.specs.declared.asked.Asked.{Asked}
use Rattle.pay_shard.specs.declared.asked.Asked.TheVariants as asked
use Rattle.pay_wire.specs.declared.command.SpelledCommand.{SpelledCommand}
use Rattle.pay_wire.specs.declared.command.SpelledCommand.TheVariants as command
use Rattle.pay_wire.specs.declared.command.SpelledFix.{SpelledFix}
use Rattle.pay_wire.specs.declared.command.SpelledWhat.{SpelledWhat}
use Rattle.pay_wire.specs.declared.command.SpelledWhat.TheVariants as spelled
use Rattle.pay_wire.specs.declared.refusal.Refusal.{Refusal}
use Rattle.pay_wire.specs.declared.refusal.Refusal.TheVariants as refusal
use Rattle.pay_session.specs.Asks.{tap_of_spelled, what_of_spelled, fix_of_spelled, asks_fix_that, asks_of}
use Rattle.pay_journal.specs.Lines.{spelled_what, spelled_of, AskedByItsLine}
use Rattle.pay_session.specs.declared.asks.Asks.TheVariants as asks

put_is : (x y : Asked) → asks.Put x ≡ asks.Put y → x ≡ y
put_is x y e = cc

-- a command, by a desk's
abbrev IsIts : SpelledCommand → Asked → Type 0
IsIts c a = IfSome (spelled_of a) (λ its. its ≡ c)

its_one : (c : SpelledCommand) (x a : Asked) → asks.Put x ≡ asks.Put a → IsIts c x → IsIts c a
its_one c x a e its = subst (IsIts c) (put_is x a e) its

by_instant : (b : Bool) (c : SpelledCommand) (x a : Asked) → (if b then asks.Put x else asks.No refusal.OutOfTime) ≡ asks.Put a → IsIts c x → IsIts c a
by_instant true c x a e its = its_one c x a e its
by_instant false c x a e its = absurd (cc)

ok_is : (x y : What) → ◌≡◌ {A = Result What Refusal} (Ok x) (Ok y) → x ≡ y
ok_is x y e = cc

ok_by : (b : Bool) (x y : What) (why : Refusal) → ◌≡◌ {A = Result What Refusal} (if b then Ok x else Err why) (Ok y) → x ≡ y
ok_by true x y why e = ok_is x y e
ok_by false x y why e = absurd (cc)

-- what a correction does is spelled as it was
what_again : (zone : TimeZone) (line : SpelledWhat) (does : What) → what_of_spelled zone line ≡ Ok does → spelled_what does ≡ line
what_again zone (spelled.Void reader seq) does e = ap spelled_what (sym (ok_is (what.Void reader seq) does e))
what_again zone (spelled.Fill utc place kind) does e = ap spelled_what (sym (ok_by (is_instant utc) (what.Fill (stamp_of zone utc) place kind) does refusal.OutOfTime e))
what_again zone (spelled.Credit credit) does e =
    ap spelled_what (sym (ok_by (nat_le FIRST_DAY credit.day && nat_le credit.day LAST_DAY && nat_le 1 credit.pence && nat_le credit.pence MOST_CREDIT) (what.Credit (record { day = credit.day; pence = credit.pence })) does refusal.BadLine e))
what_again zone (spelled.Drop staff seq) does e = ap spelled_what (sym (ok_is (what.Drop staff seq) does e))

fix_again : (zone : TimeZone) (line : SpelledFix) (a : Asked) (result : Result What Refusal) → what_of_spelled zone line.what ≡ result → asks_fix_that line result ≡ asks.Put a → IsIts (command.Fix line) a
fix_again zone line a (Ok does) made e =
    its_one (command.Fix line) (asked.Fix (fix_of_spelled line does)) a e
    (ap (λ (w : SpelledWhat). command.Fix (record { staff = line.staff; seq = line.seq; account = line.account; what = w })) (what_again zone line.what does made))
fix_again zone line a (Err why) made e = absurd (cc)

pub asked_by_its_line : AskedByItsLine
unfolding asks_of
asked_by_its_line zone (command.Tap line) a e = by_instant (is_instant line.utc) (command.Tap line) (asked.Tap (tap_of_spelled line (stamp_of zone line.utc))) a e refl
asked_by_its_line zone (command.Fix line) a e = fix_again zone line a (what_of_spelled zone line.what) refl e
asked_by_its_line zone (command.Due account day) a e = its_one (command.Due account day) (asked.Due account day) a e tt
asked_by_its_line zone (command.Show account day) a e = its_one (command.Show account day) (asked.Show account day) a e tt
asked_by_its_line zone (command.Close day) a e = absurd (cc)
asked_by_its_line zone command.Quit a e = absurd (cc)
