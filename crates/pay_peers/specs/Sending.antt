-- What has left of the bytes that are to be sent.
use Rattle.std.specs.Prelude.{◌≡◌, ℕ, List, ◌++◌, Option}
use Rattle.std.specs.Io.KnownBytes.{Appends}

-- A stream, from what it held before to what it holds after, took a front of what was unsent, in order and each byte once; the rest is unsent.
pub record IsSent (old new : Option (List ℕ)) (before after : List ℕ) : Type 0 where
  pub front : List ℕ
  pub cut : before ≡ front ++ after
  pub written : Appends old new front
