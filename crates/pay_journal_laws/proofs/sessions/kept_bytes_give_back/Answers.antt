use Rattle.pay_journal_laws.proofs.KeptBytes.{IsCutAtNewlines, ask_in_range, fronts_asked, kept_bytes, whole_bytes_give, cut_bytes}
use Rattle.pay_journal_laws.proofs.sessions.kept_bytes_give_back.Goals as goal

pub returns : goal.returns
returns c =
    let lines = c.cut_at_newlines.ensures in
    let is_cut : IsCutAtNewlines = record { whole = lines.whole; lines = lines.lines; rest = lines.rest; only = lines.only } in
    let reads = c.read_back.ensures in
    let goes_on = c.journals.ensures.goes_on in
    let stays = c.all_else_stays.ensures in
    record {
      lines = ask_in_range c.read_as_spelled.ensures.spelled;
      fronts = fronts_asked;
      kept = kept_bytes is_cut reads goes_on stays.zone stays.editions;
      whole = whole_bytes_give is_cut reads goes_on stays.zone stays.editions;
      cut = cut_bytes is_cut reads goes_on stays.zone stays.editions c.cut.ensures.anywhere c.journals.ensures.cut;
    }
