-- The commands that requests ask for, and those that a shard's journal has.
use Rattle.std.specs.Prelude.{List, [], ◌∷◌, map}
use Rattle.std.specs.List.{flat_map}
use Rattle.jiff.specs.declared.tz.timezone.TimeZone.{TimeZone}
use Rattle.pay_shard.specs.declared.asked.Asked.{Asked}
use Rattle.pay_shard.specs.declared.item.Item.{Item}
use Rattle.pay_session.specs.Words.{asks_of}
use Rattle.pay_session.specs.declared.asks.Asks.{Asks}
use Rattle.pay_session.specs.declared.asks.Asks.TheVariants as asks
use Rattle.pay_session.specs.declared.request.Request.{Request}

-- the command of what is asked, where it is one
abbrev pub command_of : Asks → List Asked
command_of (asks.Put a) = a ∷ []
command_of _ = []

-- those of requests, in order
abbrev pub commands_of : TimeZone → List Request → List Asked
commands_of zone requests = flat_map (λ (r : Request). command_of (asks_of zone r)) requests

-- those of a shard's journal
abbrev pub commands_in : List Item → List Asked
commands_in items = map (λ (i : Item). i.entry.command) items
