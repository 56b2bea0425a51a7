use Rattle.pay_session.proofs.AtPorts.{answered}
use Rattle.pay_session.proofs.OverDesk.{ran}
use Rattle.pay_session.proofs.Pieces.{ends_pieces, stops_at_end}
use Rattle.pay_session.proofs.conversation.end_by.Goals as goal

pub returns-in-Ok-clause-desk_name : goal.returns-in-Ok-clause-desk_name
returns-in-Ok-clause-desk_name g c = (ran g.D.Desk.parts g.T.Till.Closes g.T.Till.origin _ _ c.end.ensures.ran).desk_name

pub returns-in-Ok-clause-till_name : goal.returns-in-Ok-clause-till_name
returns-in-Ok-clause-till_name g c = (ran g.D.Desk.parts g.T.Till.Closes g.T.Till.origin _ _ c.end.ensures.ran).till_name

pub returns-in-Ok-clause-ends : goal.returns-in-Ok-clause-ends
returns-in-Ok-clause-ends g c = ends_pieces g.D.Desk.parts g.T.Till.Closes g.T.Till.origin _ _ _ c.end.new.self _ _ c.requires.begun c.in-Ok.ensures.ends c.new.result

pub returns-in-Ok-clause-answered : goal.returns-in-Ok-clause-answered
returns-in-Ok-clause-answered g c = answered g.D.Desk.parts g.T.Till.Closes g.T.Till.origin _ _ c.end.ensures.ran

pub returns-in-Ok-clause-same_till : goal.returns-in-Ok-clause-same_till
returns-in-Ok-clause-same_till g c = (ran g.D.Desk.parts g.T.Till.Closes g.T.Till.origin _ _ c.end.ensures.ran).same_till

pub returns-in-Err-clause-desk_name : goal.returns-in-Err-clause-desk_name
returns-in-Err-clause-desk_name g c = (ran g.D.Desk.parts g.T.Till.Closes g.T.Till.origin _ _ c.end.ensures.ran).desk_name

pub returns-in-Err-clause-till_name : goal.returns-in-Err-clause-till_name
returns-in-Err-clause-till_name g c = (ran g.D.Desk.parts g.T.Till.Closes g.T.Till.origin _ _ c.end.ensures.ran).till_name

pub returns-in-Err-clause-breaks : goal.returns-in-Err-clause-breaks
returns-in-Err-clause-breaks g c = stops_at_end g.D.Desk.parts g.T.Till.Closes g.T.Till.origin _ _ _ c.end.new.self _ _ c.requires.begun c.in-Err.ensures.falters c.new-in-Err.result

pub returns-in-Err-clause-answered : goal.returns-in-Err-clause-answered
returns-in-Err-clause-answered g c = answered g.D.Desk.parts g.T.Till.Closes g.T.Till.origin _ _ c.end.ensures.ran

pub returns-in-Err-clause-same_till : goal.returns-in-Err-clause-same_till
returns-in-Err-clause-same_till g c = (ran g.D.Desk.parts g.T.Till.Closes g.T.Till.origin _ _ c.end.ensures.ran).same_till
