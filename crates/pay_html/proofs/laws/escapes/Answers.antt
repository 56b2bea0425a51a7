use Rattle.pay_html.proofs.Unescaped.{ampersands_begin, no_markup, one_text_each}
use Rattle.pay_html.proofs.laws.escapes.Goals as goal

pub returns-clause-no_markup : goal.returns-clause-no_markup
returns-clause-no_markup c = no_markup

pub returns-clause-entities : goal.returns-clause-entities
returns-clause-entities c = ampersands_begin

pub returns-clause-one_text_each : goal.returns-clause-one_text_each
returns-clause-one_text_each c = one_text_each
