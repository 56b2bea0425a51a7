use Rattle.pay_session.proofs.AtPorts.{answered}
use Rattle.pay_session.proofs.OverDesk.{ran}
use Rattle.pay_session.proofs.Pieces.{takes_piece, takes_quit, stops_in_piece}
use Rattle.pay_session.proofs.conversation.take_by.Goals as goal

pub returns-in-Ok-clause-desk_name : goal.returns-in-Ok-clause-desk_name
returns-in-Ok-clause-desk_name g c = (ran g.D.Desk.parts g.T.Till.Closes g.T.Till.origin _ _ c.take.ensures.ran).desk_name

pub returns-in-Ok-clause-till_name : goal.returns-in-Ok-clause-till_name
returns-in-Ok-clause-till_name g c = (ran g.D.Desk.parts g.T.Till.Closes g.T.Till.origin _ _ c.take.ensures.ran).till_name

pub returns-in-Ok-clause-all : goal.returns-in-Ok-clause-all
returns-in-Ok-clause-all g c = rw c.count_anew.ensures (takes_piece g.D.Desk.parts g.T.Till.Closes g.T.Till.origin _ _ _ _ _ _ c.in-Ok.left c.args.piece.now c.in-Ok.ensures.line c.in-Ok.ensures.all)

pub returns-in-Ok-clause-quit : goal.returns-in-Ok-clause-quit
returns-in-Ok-clause-quit g c = rw c.count_anew.ensures (takes_quit g.D.Desk.parts g.T.Till.Closes g.T.Till.origin _ _ _ _ _ _ c.in-Ok.left c.args.piece.now c.in-Ok.ensures.quit)

pub returns-in-Ok-clause-answered : goal.returns-in-Ok-clause-answered
returns-in-Ok-clause-answered g c = answered g.D.Desk.parts g.T.Till.Closes g.T.Till.origin _ _ c.take.ensures.ran

pub returns-in-Ok-clause-same_till : goal.returns-in-Ok-clause-same_till
returns-in-Ok-clause-same_till g c = (ran g.D.Desk.parts g.T.Till.Closes g.T.Till.origin _ _ c.take.ensures.ran).same_till

pub returns-in-Err-clause-desk_name : goal.returns-in-Err-clause-desk_name
returns-in-Err-clause-desk_name g c = (ran g.D.Desk.parts g.T.Till.Closes g.T.Till.origin _ _ c.take.ensures.ran).desk_name

pub returns-in-Err-clause-till_name : goal.returns-in-Err-clause-till_name
returns-in-Err-clause-till_name g c = (ran g.D.Desk.parts g.T.Till.Closes g.T.Till.origin _ _ c.take.ensures.ran).till_name

pub returns-in-Err-clause-breaks : goal.returns-in-Err-clause-breaks
returns-in-Err-clause-breaks g c = stops_in_piece g.D.Desk.parts g.T.Till.Closes g.T.Till.origin _ _ _ c.take.new.self _ _ c.args.piece.now c.in-Err.ensures.breaks c.new.result

pub returns-in-Err-clause-answered : goal.returns-in-Err-clause-answered
returns-in-Err-clause-answered g c = answered g.D.Desk.parts g.T.Till.Closes g.T.Till.origin _ _ c.take.ensures.ran

pub returns-in-Err-clause-same_till : goal.returns-in-Err-clause-same_till
returns-in-Err-clause-same_till g c = (ran g.D.Desk.parts g.T.Till.Closes g.T.Till.origin _ _ c.take.ensures.ran).same_till
