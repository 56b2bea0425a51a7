-- How postings are stored, so that a model may hold them.
use Rattle.std.specs.Prelude.{List}
use Rattle.std.specs.Coded.{Coded, coded_list}
use Rattle.pay_rules.specs.declared.posting.Posting.{Posting}
use Rattle.pay_rules.specs.contracts.posting.Posting as posting

-- postings are stored as a list
abbrev pub postings_code : Coded (List Posting)
postings_code = coded_list posting.the_row.coded
