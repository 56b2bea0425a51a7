-- What a frame says to whoever reads a partition.
use Rattle.std.specs.Prelude.{ℕ, ⊤}
use Rattle.pay_nats.specs.Frames.{Told}
use Rattle.pay_jetstream.specs.Given.{GivesLine}
use Rattle.pay_jetstream.specs.declared.said.Said.{Said}
use Rattle.pay_jetstream.specs.declared.said.Said.TheVariants.{Line, Waits, Ping, Nothing, Over}

-- a line is that which the frame gives; of all else a reader has no line
abbrev pub IsSaid : ℕ → Told → Said → Type 0
IsSaid sid frame (Line place line) = GivesLine sid frame place line.now
IsSaid sid frame _ = ⊤

abbrev pub IsNoLine : Said → Type 0
IsNoLine (Line place line) = ⊥
IsNoLine _ = ⊤
