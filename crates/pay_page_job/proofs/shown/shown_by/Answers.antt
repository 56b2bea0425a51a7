use Rattle.std.proofs.Common.{◌∙◌, refl}
use Rattle.pay_page_job.proofs.shown.shown_by.Goals as goal

pub returns : goal.returns
returns c = (
  record {
    account = c.args.asked.account;
    day = c.args.asked.day;
    what = c.as_str.result;
    staff = c.from.result;
    seq = c.args.fix.now.seq;
    clerk = c.args.viewer.now.name;
    token = c.args.viewer.now.token;
    before = c.args.owed.0;
    after = c.args.owed.1;
  },
  record {
    account = refl;
    day = refl;
    what = c.as_str.ensures.value ∙ c.in_ok-what.ensures;
    staff = c.from.ensures;
    seq = refl;
    clerk = refl;
    token = refl;
    before = refl;
    after = refl;
  },
  c.in_ok-page.ensures,
)
