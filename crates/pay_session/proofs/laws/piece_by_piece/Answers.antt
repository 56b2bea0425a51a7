use Rattle.pay_session.specs.Pieces.{at_first}
use Rattle.pay_session.proofs.AtPorts.{nobody, answers_on}
use Rattle.pay_session.proofs.laws.piece_by_piece.Goals as goal

pub returns-clause-first : goal.returns-clause-first
returns-clause-first g c = at_first

pub returns-clause-none : goal.returns-clause-none
returns-clause-none g c = nobody g.D.Desk.parts g.T.Till.Closes

pub returns-clause-after : goal.returns-clause-after
returns-clause-after g c = answers_on g.D.Desk.parts g.T.Till.Closes
