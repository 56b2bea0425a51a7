-- What a desk takes at a port, piece by piece.
use Rattle.std.proofs.Common.{◌≡◌, ℕ, List, [], ◌++◌, sym, ap, ◌∙◌, append_assoc, append-nil}
use Rattle.jiff.specs.declared.tz.timezone.TimeZone.{TimeZone}
use Rattle.pay_shard.specs.declared.asked.Asked.{Asked}
use Rattle.pay_session.specs.Ports.{AreAskedAt}
use Rattle.pay_session.specs.declared.port.Role.{Role}
use Rattle.pay_session.specs.declared.port.Role.TheVariants.{All}
use Rattle.pay_session.proofs.AskedFor.{all_both, by_close}
use Rattle.pay_session.proofs.Ports.{allowed_both, allowed_all}
use Rattle.pay_till.specs.Words.{Taken, commands_of, AreQuotes}

pub at_none : (zone : TimeZone) (role : Role) (taken : List (ℕ × Asked)) → AreAskedAt zone role taken taken
unfolding AreAskedAt
at_none zone role taken = ([], sym (append-nil taken), tt, tt)

pub at_then : (zone : TimeZone) (role : Role) (before between after : List (ℕ × Asked)) → AreAskedAt zone role before between → AreAskedAt zone role between after → AreAskedAt zone role before after
unfolding AreAskedAt
at_then zone role before between after first second = (
  first.0 ++ second.0,
  second.1 ∙ (ap (λ l. l ++ second.0) first.1 ∙ append_assoc before first.0 second.0),
  all_both zone first.0 second.0 first.2 second.2,
  allowed_both role first.0 second.0 first.3 second.3,
)

-- by a close
pub at_close : (zone : TimeZone) (day of : ℕ) (put : List Taken) (before after : List (ℕ × Asked)) → AreQuotes day of 0 put → after ≡ before ++ commands_of put → AreAskedAt zone All before after
unfolding AreAskedAt
at_close zone day of put before after quotes added = (commands_of put, added, by_close zone day of 0 put quotes, allowed_all All (λ a. tt) put)
