-- What may be left of a line of a journal that was cut.
use Rattle.std.specs.Prelude.{ℕ, nat_eq, nat_le, Bool, ◌&&◌, ◌||◌, List, length, codes}
use Rattle.std.specs.List.{list_all, starts_with}
use Rattle.pay_wire.specs.declared.limits.TheConstants.{MOST_LINE_BYTES}

-- a text begins with a word, or is cut within it
abbrev pub may_begin : List ℕ → List ℕ → Bool
may_begin word rest = starts_with nat_eq rest word || starts_with nat_eq word rest

abbrev pub are_zeros : List ℕ → Bool
are_zeros bytes = list_all (nat_eq 0) bytes

-- it is no longer than a line, and begins as one that is kept, or has nothing but zero bytes
abbrev pub is_cut_line : List ℕ → Bool
is_cut_line rest = nat_le (length rest) MOST_LINE_BYTES && (may_begin (codes "TAP ") rest || may_begin (codes "FIX ") rest || are_zeros rest)
