use Rattle.std.proofs.Common.{◌≡◌, ℕ, ◌<◌, get_or}
use Rattle.pay_wire.proofs.command.word_end.Given as goal

-- no byte so far is a space
abbrev pub invariant-loop-i : goal.invariant-loop-i
invariant-loop-i l = (k : ℕ) → k < l.i → get_or l.line k 0 ≡ 32 → ⊥
