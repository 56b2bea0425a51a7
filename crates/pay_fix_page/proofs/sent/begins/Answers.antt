use Rattle.std.proofs.lemmas.Str.Pattern.{starts_text}
use Rattle.pay_fix_page.proofs.sent.begins.Goals as goal

pub returns : goal.returns
returns c = starts_text c.starts_with.result c.args.start.now c.args.text.now c.starts_with.ensures.cases
