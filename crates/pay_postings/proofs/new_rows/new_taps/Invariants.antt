use Rattle.std.proofs.Common.{◌≡◌, drop}
use Rattle.pay_postings.specs.NewRows.{is_new_tap, new_after, new_taps}
use Rattle.pay_postings.proofs.new_rows.new_taps.Given as goal

-- what is left, after those that were new so far, comes to all that are new
abbrev pub invariant-loop-tap : goal.invariant-loop-tap
invariant-loop-tap l = new_after (is_new_tap l.archived) l.new.items (drop l.tap-index l.taps) ≡ new_taps l.archived l.taps
