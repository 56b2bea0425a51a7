use Rattle.pay_records.specs.Words.{empty_is_free}
use Rattle.pay_ledger_files.proofs.memory.new_ledger.Goals as goal

pub returns-in-Ok-clause-opened : goal.returns-in-Ok-clause-opened
returns-in-Ok-clause-opened c = (c.in-Ok.ensures.made.opened (c.memory_returns.ensures c.in-Ok.ledger)).blank (empty_is_free _ c.in_ok-conn.ensures.empty.2)

pub returns-in-Err-clause-refused : goal.returns-in-Err-clause-refused
returns-in-Err-clause-refused c =
    let none = c.in-Err.ensures.refused in
    none.blank (c.memory_returns.ensures none.left) (empty_is_free _ c.in_ok-conn.ensures.empty.2)
