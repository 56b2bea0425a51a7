-- What a gate lets pass.
use Rattle.std.specs.Prelude.{Bool, true, false, List, [], ◌∷◌}
use Rattle.pay_shard.specs.declared.item.Entry.{Entry}
use Rattle.pay_shard.specs.declared.reply.Answer.{Answer}

-- an entry, with the answer to it
abbrev pub Passed : Type 0
Passed = Entry × Answer

-- what is let pass more, where the gate says so, or does not
abbrev pub passing : Bool → Entry → Answer → List Passed
passing true entry answer = (entry, answer) ∷ []
passing false entry answer = []
