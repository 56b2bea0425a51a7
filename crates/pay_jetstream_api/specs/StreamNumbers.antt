-- The numbers of a stream, in what a server says of it.
use Rattle.std.specs.Prelude.{Option, Some, codes, option_and_then}
use Rattle.serde_json.specs.Data.{Data}
use Rattle.pay_jetstream_api.specs.Finding.{number_at}
use Rattle.pay_jetstream_api.specs.declared.stream.Counts.{Counts}

infixl 10 ◌>>=◌
abbrev ◌>>=◌ : {A B : Type 0} → Option A → (A → Option B) → Option B
option >>= f = option_and_then f option

-- they are all there
unfoldable pub numbers_in : Data → Option Counts
numbers_in answer = do
  first ← number_at (codes "/state/first_seq") answer
  last ← number_at (codes "/state/last_seq") answer
  replicas ← number_at (codes "/config/num_replicas") answer
  Some (record { first = first; last = last; replicas = replicas })
