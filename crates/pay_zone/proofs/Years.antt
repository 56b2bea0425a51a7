-- The year of an instant between two of one year is that year.
use Rattle.std.proofs.Common.{◌≡◌, ℕ, zero, suc, ◌≤◌, ℤ, pos, negsuc, ◌+ℤ◌, ◌-ℤ◌, ◌≤ℤ◌, arith, refl, inl, inr, unsigned_abs}
use Rattle.std.proofs.lemmas.Bool.Decides.{leb_tells}
use Rattle.std.specs.Int.{int_div_euclid}
use Rattle.jiff_core.specs.Calendar.{days_of_years}
use Rattle.jiff_core.proofs.SignedLemmas.{signed_arith}
use Rattle.jiff_tz.specs.Year.{years_within, year_of_nanos}

-- no more years than are looked at
few_years : (n count : ℕ) → years_within n count ≤ n
unfolding years_within
few_years zero count = omega arith
few_years (suc n) count = elim (leb_tells (days_of_years (suc n)) count) [
  | inl fits ↦ rw fits.0 (omega arith)
  | inr over ↦ let few = few_years n count in rw over.0 (omega arith)
]

-- more years fit in more days
more_years : (n few many : ℕ) → few ≤ many → years_within n few ≤ years_within n many
unfolding years_within
more_years zero few many h = omega arith
more_years (suc n) few many h = elim (leb_tells (days_of_years (suc n)) many) [
  | inl fits ↦ let most = few_years (suc n) few in rw fits.0 most
  | inr over ↦ elim (leb_tells (days_of_years (suc n)) few) [
    | inl other ↦ let a = over.1 in let b = other.1 in absurd (omega arith)
    | inr under ↦ let less = more_years n few many h in rw (over.0, under.0) less
  ]
]

-- the whole days from the year -10000 on
abbrev days_at : ℤ → ℕ
days_at n = unsigned_abs (int_div_euclid n (pos 86_400_000_000_000) +ℤ pos 4_371_953)

abs_of : (z : ℤ) → pos 0 ≤ℤ z → pos (unsigned_abs z) ≡ z
abs_of (pos n) h = refl
abs_of (negsuc n) h = absurd (omega (arith, signed_arith))

day_from_zero : (n : ℤ) → pos 0 ≤ℤ n → pos 0 ≤ℤ int_div_euclid n (pos 86_400_000_000_000)
day_from_zero n h = omega (arith, signed_arith)

later_day : (n m : ℤ) → n ≤ℤ m → int_div_euclid n (pos 86_400_000_000_000) ≤ℤ int_div_euclid m (pos 86_400_000_000_000)
later_day n m h = omega (arith, signed_arith)

no_fewer : (x y : ℤ) → pos 0 ≤ℤ x → x ≤ℤ y → unsigned_abs (x +ℤ pos 4_371_953) ≤ unsigned_abs (y +ℤ pos 4_371_953)
no_fewer x y h k =
    let one = abs_of (x +ℤ pos 4_371_953) (omega (arith, signed_arith)) in
    let other = abs_of (y +ℤ pos 4_371_953) (omega (arith, signed_arith)) in
    omega (arith, signed_arith)

later_days : (n m : ℤ) → pos 0 ≤ℤ n → n ≤ℤ m → days_at n ≤ days_at m
later_days n m zero_n h = no_fewer _ _ (day_from_zero n zero_n) (later_day n m h)

between : (a b c : ℕ) → a ≤ b → b ≤ c → pos c -ℤ pos 10000 ≡ pos a -ℤ pos 10000 → pos b -ℤ pos 10000 ≡ pos a -ℤ pos 10000
between a b c h k e = omega (arith, signed_arith)

-- what lies between two instants of a year is of that year
pub year_between : (n m last : ℤ) → pos 0 ≤ℤ n → n ≤ℤ m → m ≤ℤ last → year_of_nanos last ≡ year_of_nanos n → year_of_nanos m ≡ year_of_nanos n
year_between n m last zero_n h k e =
    let zero_m : pos 0 ≤ℤ m = omega (arith, signed_arith) in
    between (years_within 20000 (days_at n)) (years_within 20000 (days_at m)) (years_within 20000 (days_at last))
    (more_years 20000 (days_at n) (days_at m) (later_days n m zero_n h))
    (more_years 20000 (days_at m) (days_at last) (later_days m last zero_m k)) e
