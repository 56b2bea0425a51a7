-- A zone by a rule has one offset from an instant to the next transition, within a year.
use Rattle.std.proofs.Common.{◌≡◌, ℤ, ◌≤ℤ◌, ◌<ℤ◌, ◌&&◌, not, Bool, true, false, int_le, int_lt, if◌then◌else◌, Option, Some, None, arith, refl, sym, ap, ◌∙◌}
use borrow.Author.Differences.{le-true, le-false, lt-true, lt-false}
use Rattle.jiff_core.proofs.SignedLemmas.{signed_arith}
use Rattle.jiff_tz.proofs.TzifLemmas.{le_yes, le_no}
use Rattle.jiff_tz.specs.PosixRule.{in_window, ordered, transition_of, utc_window, match_some, dst_at_by, next_by, offset_at, next_at}
use Rattle.jiff_tz.specs.Year.{year_of_nanos}
use Rattle.jiff_tz.specs.declared.info.OffsetInfo.{OffsetInfo}
use Rattle.jiff_tz.specs.declared.posix.Dst.{Dst}
use Rattle.jiff_tz.specs.declared.posix.TimeZone.{TimeZone}

lt_yes : (a b : ℤ) → a <ℤ b → int_lt a b ≡ true
lt_yes a b h = elim (int_lt a b) as (λ v. int_lt a b ≡ v → v ≡ true) [
  | true ↦ λ e. refl
  | false ↦ λ e. let over = lt-false a b e in absurd (omega (arith, signed_arith))
] refl

lt_no : (a b : ℤ) → b ≤ℤ a → int_lt a b ≡ false
lt_no a b h = elim (int_lt a b) as (λ v. int_lt a b ≡ v → v ≡ false) [
  | true ↦ λ e. let under = lt-true a b e in absurd (omega (arith, signed_arith))
  | false ↦ λ e. refl
] refl

-- the instant of a transition, or another
first_of : ℤ → Option (ℤ × OffsetInfo) → ℤ
first_of other None = other
first_of other (Some it) = it.0

only_one : (b : Bool) (at t : ℤ) (here info : OffsetInfo) → if◌then◌else◌ {A = Option (ℤ × OffsetInfo)} b (Some (at, here)) None ≡ Some (t, info) → at ≡ t
unfolding first_of
only_one true at t here info e = ap (λ o. first_of at o) e
only_one false at t here info e = cc

-- a moment that becomes a transition is at its instant
its_instant : (tz : TimeZone) (d : Dst) (w : ℤ × ℤ) (at t : ℤ) (info : OffsetInfo) → transition_of tz d w at ≡ Some (t, info) → at ≡ t
its_instant tz d w at t info e = only_one _ at t _ info e

-- whether a moment lies in a window by what is told of it
in_order : (a b x : ℤ) (p q : Bool) → int_le a b ≡ true → int_le a x ≡ p → int_lt x b ≡ q → in_window (a, b) x ≡ (p && q)
in_order a b x p q e f h = rw (e, f, h) refl

turned : (a b x : ℤ) (p q : Bool) → int_le a b ≡ false → int_le b x ≡ p → int_lt x a ≡ q → in_window (a, b) x ≡ not (p && q)
turned a b x p q e f h = rw (e, f, h) refl

ends_in_order : (a b : ℤ) → int_le a b ≡ true → ordered (a, b) ≡ (a, b)
ends_in_order a b e = rw e refl

ends_turned : (a b : ℤ) → int_le a b ≡ false → ordered (a, b) ≡ (b, a)
ends_turned a b e = rw e refl

-- two moments before both ends of a window
before_in : (a b n m : ℤ) → int_le a b ≡ true → n <ℤ a → m <ℤ a → in_window (a, b) m ≡ in_window (a, b) n
before_in a b n m e h k = in_order a b m false (int_lt m b) e (le_no a m k) refl ∙ sym (in_order a b n false (int_lt n b) e (le_no a n h) refl)

between_in : (a b n m : ℤ) → int_le a b ≡ true → a ≤ℤ n → a ≤ℤ m → n <ℤ b → m <ℤ b → in_window (a, b) m ≡ in_window (a, b) n
between_in a b n m e h k f g = in_order a b m true true e (le_yes a m k) (lt_yes m b g) ∙ sym (in_order a b n true true e (le_yes a n h) (lt_yes n b f))

after_in : (a b n m : ℤ) → int_le a b ≡ true → b ≤ℤ n → b ≤ℤ m → in_window (a, b) m ≡ in_window (a, b) n
after_in a b n m e h k =
    let up_to = le-true a b e in
    in_order a b m true false e (le_yes a m (omega (arith, signed_arith))) (lt_no m b k) ∙ sym (in_order a b n true false e (le_yes a n (omega (arith, signed_arith))) (lt_no n b h))

before_out : (a b n m : ℤ) → int_le a b ≡ false → n <ℤ b → m <ℤ b → in_window (a, b) m ≡ in_window (a, b) n
before_out a b n m e h k = turned a b m false (int_lt m a) e (le_no b m k) refl ∙ sym (turned a b n false (int_lt n a) e (le_no b n h) refl)

between_out : (a b n m : ℤ) → int_le a b ≡ false → b ≤ℤ n → b ≤ℤ m → n <ℤ a → m <ℤ a → in_window (a, b) m ≡ in_window (a, b) n
between_out a b n m e h k f g = turned a b m true true e (le_yes b m k) (lt_yes m a g) ∙ sym (turned a b n true true e (le_yes b n h) (lt_yes n a f))

after_out : (a b n m : ℤ) → int_le a b ≡ false → a ≤ℤ n → a ≤ℤ m → in_window (a, b) m ≡ in_window (a, b) n
after_out a b n m e h k =
    let over = le-false a b e in
    turned a b m true false e (le_yes b m (omega (arith, signed_arith))) (lt_no m a k) ∙ sym (turned a b n true false e (le_yes b n (omega (arith, signed_arith))) (lt_no n a h))

-- what is sought after a moment by the ends of its window
abbrev sought : TimeZone → Dst → ℤ × ℤ → Option (ℤ × OffsetInfo) → ℤ → Bool → Bool → Option (ℤ × OffsetInfo)
sought tz d w later n one two =
    if one then transition_of tz d w (ordered w).0
    else (if two then transition_of tz d w (ordered w).1 else later)

same_in : (tz : TimeZone) (d : Dst) (a b n m t : ℤ) (info : OffsetInfo) (later : Option (ℤ × OffsetInfo)) (one two : Bool)
    → int_le a b ≡ true → n ≤ℤ m → m <ℤ t → int_lt n a ≡ one → int_lt n b ≡ two
    → sought tz d (a, b) later n one two ≡ Some (t, info) → in_window (a, b) m ≡ in_window (a, b) n
same_in tz d a b n m t info later true two e h k f g found =
    let at = its_instant tz d (a, b) (ordered (a, b)).0 t info found in
    let there : a ≡ t = sym (ap (λ (w : ℤ × ℤ). w.0) (ends_in_order a b e)) ∙ at in
    let below = lt-true n a f in
    before_in a b n m e (omega (arith, signed_arith)) (omega (arith, signed_arith))
same_in tz d a b n m t info later false true e h k f g found =
    let at = its_instant tz d (a, b) (ordered (a, b)).1 t info found in
    let there : b ≡ t = sym (ap (λ (w : ℤ × ℤ). w.1) (ends_in_order a b e)) ∙ at in
    let above = lt-false n a f in
    let below = lt-true n b g in
    between_in a b n m e (omega (arith, signed_arith)) (omega (arith, signed_arith)) (omega (arith, signed_arith)) (omega (arith, signed_arith))
same_in tz d a b n m t info later false false e h k f g found =
    let above = lt-false n b g in
    after_in a b n m e (omega (arith, signed_arith)) (omega (arith, signed_arith))

same_out : (tz : TimeZone) (d : Dst) (a b n m t : ℤ) (info : OffsetInfo) (later : Option (ℤ × OffsetInfo)) (one two : Bool)
    → int_le a b ≡ false → n ≤ℤ m → m <ℤ t → int_lt n b ≡ one → int_lt n a ≡ two
    → sought tz d (a, b) later n one two ≡ Some (t, info) → in_window (a, b) m ≡ in_window (a, b) n
same_out tz d a b n m t info later true two e h k f g found =
    let at = its_instant tz d (a, b) (ordered (a, b)).0 t info found in
    let there : b ≡ t = sym (ap (λ (w : ℤ × ℤ). w.0) (ends_turned a b e)) ∙ at in
    let below = lt-true n b f in
    before_out a b n m e (omega (arith, signed_arith)) (omega (arith, signed_arith))
same_out tz d a b n m t info later false true e h k f g found =
    let at = its_instant tz d (a, b) (ordered (a, b)).1 t info found in
    let there : a ≡ t = sym (ap (λ (w : ℤ × ℤ). w.1) (ends_turned a b e)) ∙ at in
    let above = lt-false n b f in
    let below = lt-true n a g in
    between_out a b n m e (omega (arith, signed_arith)) (omega (arith, signed_arith)) (omega (arith, signed_arith)) (omega (arith, signed_arith))
same_out tz d a b n m t info later false false e h k f g found =
    let above = lt-false n a g in
    after_out a b n m e (omega (arith, signed_arith)) (omega (arith, signed_arith))

-- in a window nothing changes before what is sought
same_window : (tz : TimeZone) (d : Dst) (a b n m t : ℤ) (info : OffsetInfo) (later : Option (ℤ × OffsetInfo)) → n ≤ℤ m → m <ℤ t
    → sought tz d (a, b) later n (int_lt n (ordered (a, b)).0) (int_lt n (ordered (a, b)).1) ≡ Some (t, info) → in_window (a, b) m ≡ in_window (a, b) n
same_window tz d a b n m t info later h k found = elim (int_le a b) as (λ v. int_le a b ≡ v → in_window (a, b) m ≡ in_window (a, b) n) [
  | true ↦ λ e. same_in tz d a b n m t info later _ _ e h k (sym (ap (λ (w : ℤ × ℤ). int_lt n w.0) (ends_in_order a b e))) (sym (ap (λ (w : ℤ × ℤ). int_lt n w.1) (ends_in_order a b e))) found
  | false ↦ λ e. same_out tz d a b n m t info later _ _ e h k (sym (ap (λ (w : ℤ × ℤ). int_lt n w.0) (ends_turned a b e))) (sym (ap (λ (w : ℤ × ℤ). int_lt n w.1) (ends_turned a b e))) found
] refl

-- the same of the offsets, by the two moments' own windows
keeps_by : (tz : TimeZone) (dst : Option Dst) (n m t : ℤ) (info : OffsetInfo) → n ≤ℤ m → m <ℤ t → year_of_nanos m ≡ year_of_nanos n
    → match_some dst None (λ d. next_by tz d (year_of_nanos n) n) ≡ Some (t, info) → dst_at_by tz.std_offset dst m ≡ dst_at_by tz.std_offset dst n
keeps_by tz None n m t info h k e found = refl
keeps_by tz (Some d) n m t info h k e found =
    let w = utc_window d (year_of_nanos n) tz.std_offset in
    let same = same_window tz d w.0 w.1 n m t info _ h k found in
    ap (λ y. if in_window (utc_window d y tz.std_offset) m then Some d else None) e ∙ ap (λ b. if b then Some d else None) same

-- a zone by a rule keeps its offset until the next transition, within a year
pub keeps : (tz : TimeZone) (n m t : ℤ) (info : OffsetInfo) → n ≤ℤ m → m <ℤ t → year_of_nanos m ≡ year_of_nanos n
    → next_at tz n ≡ Some (t, info) → offset_at tz m ≡ offset_at tz n
keeps tz n m t info h k e found = ap (λ (o : Option Dst). match_some o tz.std_offset (λ d. d.offset)) (keeps_by tz tz.dst n m t info h k e found)
