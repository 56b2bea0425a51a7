use Rattle.pay_session.proofs.OverDesk.{ran, asked_in, ends, fails}
use Rattle.pay_session.proofs.ReaderCalls.{broken}
use Rattle.pay_session.proofs.sessions.session_by.Goals as goal

pub returns-in-Ok-clause-desk_name : goal.returns-in-Ok-clause-desk_name
returns-in-Ok-clause-desk_name g c = (ran g.D.Desk.parts g.T.Till.Closes g.T.Till.origin _ _ c.serve.ensures.ran).desk_name

pub returns-in-Ok-clause-till_name : goal.returns-in-Ok-clause-till_name
returns-in-Ok-clause-till_name g c = (ran g.D.Desk.parts g.T.Till.Closes g.T.Till.origin _ _ c.serve.ensures.ran).till_name

pub returns-in-Ok-clause-asked : goal.returns-in-Ok-clause-asked
returns-in-Ok-clause-asked g c = asked_in g.D.Desk.parts g.T.Till.Closes g.T.Till.origin _ _ c.serve.ensures.ran

pub returns-in-Ok-clause-transcript : goal.returns-in-Ok-clause-transcript
returns-in-Ok-clause-transcript g c = (ran g.D.Desk.parts g.T.Till.Closes g.T.Till.origin _ _ c.serve.ensures.ran).kept

pub returns-in-Ok-clause-same_desk : goal.returns-in-Ok-clause-same_desk
returns-in-Ok-clause-same_desk g c = (ran g.D.Desk.parts g.T.Till.Closes g.T.Till.origin _ _ c.serve.ensures.ran).same

pub returns-in-Ok-clause-same_till : goal.returns-in-Ok-clause-same_till
returns-in-Ok-clause-same_till g c = (ran g.D.Desk.parts g.T.Till.Closes g.T.Till.origin _ _ c.serve.ensures.ran).same_till

pub returns-in-Err-clause-desk_name : goal.returns-in-Err-clause-desk_name
returns-in-Err-clause-desk_name g c = (ran g.D.Desk.parts g.T.Till.Closes g.T.Till.origin _ _ c.serve.ensures.ran).desk_name

pub returns-in-Err-clause-till_name : goal.returns-in-Err-clause-till_name
returns-in-Err-clause-till_name g c = (ran g.D.Desk.parts g.T.Till.Closes g.T.Till.origin _ _ c.serve.ensures.ran).till_name

pub returns-in-Err-clause-asked : goal.returns-in-Err-clause-asked
returns-in-Err-clause-asked g c = asked_in g.D.Desk.parts g.T.Till.Closes g.T.Till.origin _ _ c.serve.ensures.ran

pub returns-in-Err-clause-transcript : goal.returns-in-Err-clause-transcript
returns-in-Err-clause-transcript g c = (ran g.D.Desk.parts g.T.Till.Closes g.T.Till.origin _ _ c.serve.ensures.ran).kept

pub returns-in-Err-clause-same_desk : goal.returns-in-Err-clause-same_desk
returns-in-Err-clause-same_desk g c = (ran g.D.Desk.parts g.T.Till.Closes g.T.Till.origin _ _ c.serve.ensures.ran).same

pub returns-in-Err-clause-same_till : goal.returns-in-Err-clause-same_till
returns-in-Err-clause-same_till g c = (ran g.D.Desk.parts g.T.Till.Closes g.T.Till.origin _ _ c.serve.ensures.ran).same_till

pub returns-in-Ok-clause-ends : goal.returns-in-Ok-clause-ends
returns-in-Ok-clause-ends g c = rw c.done.ensures (ends g.D.Desk.parts g.T.Till.Closes g.T.Till.origin _ _ _ _ _ _ _ _ _ c.requires c.in-Ok.ensures.ends)

pub returns-in-Err-clause-fails : goal.returns-in-Err-clause-fails
returns-in-Err-clause-fails g c = rw (c.after.ensures, c.answered.ensures) (fails g.D.Desk.parts g.T.Till.Closes g.T.Till.origin _ _ _ _ _ _ _ c.requires c.in-Err.ensures.fails)

pub returns-in-Err-clause-cause : goal.returns-in-Err-clause-cause
returns-in-Err-clause-cause g c = rw c.after.ensures (broken g.R.KnownReader.MayAnswer g.W.KnownWriter.MayAnswer _ _ _ _ _ c.in-Err.ensures.cause)
