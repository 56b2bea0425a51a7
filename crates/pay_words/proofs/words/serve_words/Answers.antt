use Rattle.std.proofs.Common.{rules, arith, ◌≡◌, ◌∙◌, true}
use Rattle.pay_words.specs.OneWord.{is_ahead, is_port, is_sessions}
use Rattle.pay_words.proofs.Numbers.{day_given, number_given}
use Rattle.pay_words.proofs.words.serve_words.Goals as goal

pub returns : goal.returns
returns c = λ t has fits.
    let sessions = number_given _ t.sessions (λ w. is_sessions w ≡ true) c.number_of.result c.number_of.ensures.none
    (λ w is within. c.number_of.ensures.value w 1 1_000 is within (omega arith)) has.5 fits.3 in
    let close = day_given (λ s. s.now) c.get_str-3.result t.close (c.get_str-3.ensures ∙ has.6) in
    let control = number_given _ t.control (λ w. is_port w ≡ true) c.port_of-2.result c.port_of-2.ensures.none
    c.port_of-2.ensures.value has.7 fits.4 in
    let ahead = number_given _ t.ahead (λ w. is_ahead w ≡ true) c.number_of-2.result c.number_of-2.ensures.none
    (λ w is within. c.number_of-2.ensures.value w 0 86_400 is within (omega arith)) has.8 fits.5 in
    rw (sessions, close, control, ahead) (search rules)
