use Rattle.std.proofs.Common.{◌≡◌, drop}
use Rattle.std.specs.String.{string_bytes}
use Rattle.pay_json.specs.Values.{all_joined}
use Rattle.pay_json.specs.Posted.{posting_of, postings_joined}
use Rattle.pay_json.proofs.posted.postings_joined.Given as goal

abbrev pub invariant-loop-posting : goal.invariant-loop-posting
invariant-loop-posting l = all_joined (posting_of l.names l.now) (string_bytes l.text) (drop l.posting-index l.postings) ≡ postings_joined l.names l.now l.postings
