use Rattle.std.specs.Prelude.{◌≡◌, None, Option, ⊤}
use Rattle.pay_journal.specs.Words.{CanFail}
use Rattle.pay_postings.specs.Words.{LedgerParts}
use Rattle.pay_run.specs.Ledgers.{has_ledger_in, has_none}
use Rattle.pay_journal_laws.proofs.KeptBytes.{ended_held, reading_held, writing_held}
use Rattle.pay_journal_laws.proofs.sessions.journal_is_the_machine.Goals as goal

pub returns : goal.returns
returns g c =
    let laws = c.kept_bytes_give_back.ensures in
    let Fails = CanFail g.K.Keeper.HasFailed in
    record {
      ended = ended_held laws.lines laws.whole (has_ledger_in g.S.Store) Fails;
      reading = reading_held laws.lines laws.whole (has_ledger_in g.S.Store) Fails;
      writing = writing_held laws.lines laws.whole (has_ledger_in g.S.Store) Fails laws.fronts;
      ended_alone = ended_held laws.lines laws.whole has_none Fails;
      reading_alone = reading_held laws.lines laws.whole has_none Fails;
      writing_alone = writing_held laws.lines laws.whole has_none Fails laws.fronts;
    }
