use Rattle.pay_rules.specs.declared.post_fault.PostFault.TheVariants as fault
use Rattle.pay_histories.proofs.Histories.{refused_late}
use Rattle.pay_histories.proofs.laws.closes_agree.Goals as goal

pub returns-clause-as_due : goal.returns-clause-as_due
returns-clause-as_due c editions events day refused = refused_late editions events day fault.QuoteDiffers refused

pub returns-clause-as_archived : goal.returns-clause-as_archived
returns-clause-as_archived c editions events day refused = refused_late editions events day fault.ArchiveConflict refused

pub returns-clause-late : goal.returns-clause-late
returns-clause-late c editions events day why refused = refused_late editions events day why refused
