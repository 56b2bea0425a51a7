use Rattle.pay_book.proofs.MarksOfTaps.{marked_with_it, marked_without_it, room_with_it, room_without_it}
use Rattle.pay_book.proofs.laws.stored_marks.Goals as goal

pub returns-clause-with_it : goal.returns-clause-with_it
returns-clause-with_it c = marked_with_it

pub returns-clause-without_it : goal.returns-clause-without_it
returns-clause-without_it c = marked_without_it c.places.ensures.place_kept c.places.ensures.again

pub returns-clause-room_with_it : goal.returns-clause-room_with_it
returns-clause-room_with_it c = room_with_it

pub returns-clause-room_without_it : goal.returns-clause-room_without_it
returns-clause-room_without_it c = room_without_it c.places.ensures.place_kept c.places.ensures.again
