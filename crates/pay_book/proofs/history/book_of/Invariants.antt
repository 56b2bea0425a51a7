use Rattle.std.proofs.Common.{◌≡◌, map, drop}
use Rattle.pay_rules.specs.Accepted.{nothing}
use Rattle.pay_rules.specs.Changes.{after_all}
use Rattle.pay_book.specs.History.{change_of}
use Rattle.pay_book.specs.Stored.{IsConsistent}
use Rattle.pay_book.proofs.history.book_of.Given as goal

abbrev pub invariant-loop-one : goal.invariant-loop-one
invariant-loop-one l = record {
  account : l.book.account ≡ l.account;
  held : IsConsistent l.editions l.book;
  accepted : after_all l.editions l.book.accepted (map change_of (drop l.one-index l.sent)) ≡ after_all l.editions nothing (map change_of l.sent);
}
