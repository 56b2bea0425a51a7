-- Taps and corrections as they are read back of their rows.
use Rattle.std.proofs.Common.{◌≡◌, ℕ, if◌then◌else◌, Some, refl, sym, ap, ◌∙◌, arith}
use Rattle.std.specs.Prelude.{ℤ, pos, ◌==◌, ◌-◌, unsigned_abs}
use Rattle.pay_day.specs.Words.{Stamp}
use Rattle.pay_day.specs.Day.{IsStamp}
use Rattle.pay_day.specs.declared.limits.TheConstants.{FIRST_INSTANT, LAST_INSTANT, FIRST_DAY, LAST_DAY, SECONDS_PER_DAY}
use Rattle.pay_rules.specs.declared.tap.Kind.{Kind}
use Rattle.pay_rules.specs.declared.tap.Kind.TheVariants.{In, Out, Bus}
use Rattle.pay_rules.specs.declared.tap.Tap.{Tap}
use Rattle.pay_rules.specs.declared.limits.TheConstants.{MOST_CREDIT}
use Rattle.pay_rules.specs.declared.fix.Fix.{Fix}
use Rattle.pay_rules.specs.declared.fix.What.{What}
use Rattle.pay_rules.specs.declared.fix.What.TheVariants.{Void, Fill, Credit, Drop}
use Rattle.pay_rows.specs.declared.row.TapRow.{TapRow}
use Rattle.pay_rows.specs.declared.row.FixRow.{FixRow}
use Rattle.pay_set_rows.specs.Ranged.{◌>>=◌, number_back}
use Rattle.pay_set_rows.specs.SetRows.{kind_number, tap_row, what_row, fix_row, in_sixteen_bits, as_seq, kind_of, stamp_from, tap_from_row, what_from, fix_from_row}
use Rattle.pay_set_rows.specs.InRange.{IsCounted, IsSeq, IsTapInRange, IsWhatInRange, IsFixInRange}

-- ---- numbers in their ranges

counted_back : (n : ℕ) → IsCounted n → in_sixteen_bits (pos n) ≡ Some n
counted_back n is = number_back 1 65_535 n is.0 is.1

seq_back : (n : ℕ) → IsSeq n → as_seq (pos n) ≡ Some n
seq_back n is = number_back 0 4_294_967_295 n (omega arith) is

kind_back : (kind : Kind) → kind_of (pos (kind_number kind)) ≡ Some kind
kind_back In = refl
kind_back Out = refl
kind_back Bus = refl

stamp_back : (s : Stamp) → IsStamp s → stamp_from (pos s.utc) (pos s.day) (pos s.second) ≡ Some s
stamp_back s is =
    let utc = number_back FIRST_INSTANT LAST_INSTANT s.utc is.utc.0 is.utc.1 in
    let day = number_back FIRST_DAY LAST_DAY s.day is.day.0 is.day.1 in
    let second = number_back 0 (SECONDS_PER_DAY - 1) s.second (omega arith) (omega (arith, is.second)) in
    λ i. utc i >>= (λ u. day i >>= (λ d. second i >>= (λ e. Some (record { utc = u; day = d; second = e }))))

-- ---- back from rows

pub tap_back : (tap : Tap) → IsTapInRange tap → tap_from_row tap.account (tap_row tap) ≡ Some tap
tap_back tap is =
    let reader = counted_back tap.reader is.of_reader in
    let seq = seq_back tap.seq is.at_seq in
    let stamp = stamp_back tap.stamp is.at_stamp in
    let place = counted_back tap.place is.at_place in
    let kind = kind_back tap.kind in
    λ i. reader i >>= (λ r. seq i >>= (λ s. stamp i >>= (λ t. place i >>= (λ p. kind i >>= (λ k. Some (record { account = tap.account; reader = r; seq = s; place = p; kind = k; stamp = t }))))))

named_back : (form : ℕ → ℕ → What) (number seq : ℕ) → IsCounted number → IsSeq seq → (in_sixteen_bits (pos number) >>= (λ n. as_seq (pos seq) >>= (λ s. Some (form n s)))) ≡ Some (form number seq)
named_back form number seq is at =
    let first = counted_back number is in
    let second = seq_back seq at in
    λ i. first i >>= (λ n. second i >>= (λ s. Some (form n s)))

what_back : (fix : Fix) (what : What) → IsWhatInRange what → what_from (what_row fix what) ≡ Some what
what_back fix (Void reader seq) is = named_back Void reader seq is.0 is.1
what_back fix (Fill stamp place kind) is =
    let at = stamp_back stamp is.0 in
    let in_place = counted_back place is.1 in
    let of_kind = kind_back kind in
    λ i. at i >>= (λ t. in_place i >>= (λ p. of_kind i >>= (λ k. Some (Fill t p k))))
what_back fix (Credit credit) is =
    let day = number_back FIRST_DAY LAST_DAY credit.day is.day.0 is.day.1 in
    let pence = number_back 1 MOST_CREDIT credit.pence is.some is.within in
    λ i. day i >>= (λ d. pence i >>= (λ p. Some (Credit (record { day = d; pence = p }))))
what_back fix (Drop staff seq) is = named_back Drop staff seq is.0 is.1

staff_of : (fix : Fix) (what : What) → (what_row fix what).staff ≡ pos fix.staff
staff_of fix (Void reader seq) = refl
staff_of fix (Fill stamp place kind) = refl
staff_of fix (Credit credit) = refl
staff_of fix (Drop staff seq) = refl

seq_of : (fix : Fix) (what : What) → (what_row fix what).seq ≡ pos fix.seq
seq_of fix (Void reader seq) = refl
seq_of fix (Fill stamp place kind) = refl
seq_of fix (Credit credit) = refl
seq_of fix (Drop staff seq) = refl

pub fix_back : (fix : Fix) → IsFixInRange fix → fix_from_row fix.account (fix_row fix) ≡ Some fix
fix_back fix is =
    let staff : in_sixteen_bits (fix_row fix).staff ≡ Some fix.staff = ap in_sixteen_bits (staff_of fix fix.what) ∙ counted_back fix.staff is.of_staff in
    let seq : as_seq (fix_row fix).seq ≡ Some fix.seq = ap as_seq (seq_of fix fix.what) ∙ seq_back fix.seq is.at_seq in
    let what = what_back fix fix.what is.does in
    λ i. staff i >>= (λ f. seq i >>= (λ s. what i >>= (λ w. Some (record { account = fix.account; staff = f; seq = s; what = w }))))

-- ---- what rows tell

-- the kind of a number, whichever it is
abbrev told_kind : ℤ → Kind
told_kind number = if unsigned_abs number == 0 then In else if unsigned_abs number == 1 then Out else Bus

kind_told : (kind : Kind) → told_kind (pos (kind_number kind)) ≡ kind
kind_told In = refl
kind_told Out = refl
kind_told Bus = refl

pub tap_of_row : (tap other : Tap) → tap.account ≡ other.account → tap_row tap ≡ tap_row other → tap ≡ other
tap_of_row tap other account e =
    let kind : tap.kind ≡ other.kind = sym (kind_told tap.kind) ∙ ap (λ (r : TapRow). told_kind r.kind) e ∙ kind_told other.kind in
    λ i. record {
      account = account i;
      reader = unsigned_abs (e i).reader;
      seq = unsigned_abs (e i).seq;
      place = unsigned_abs (e i).place;
      kind = kind i;
      stamp = record { utc = unsigned_abs (e i).utc; day = unsigned_abs (e i).day; second = unsigned_abs (e i).second };
    }

-- what the row of a correction does, whatever its numbers are
abbrev told_what : FixRow → What
told_what row =
    if unsigned_abs row.what == 0 then Void (unsigned_abs row.a) (unsigned_abs row.b)
    else if unsigned_abs row.what == 1 then Fill (record { utc = unsigned_abs row.a; day = unsigned_abs row.b; second = unsigned_abs row.c }) (unsigned_abs row.d) (told_kind row.e)
    else if unsigned_abs row.what == 2 then Credit (record { day = unsigned_abs row.a; pence = unsigned_abs row.b })
    else Drop (unsigned_abs row.a) (unsigned_abs row.b)

what_told : (fix : Fix) (what : What) → told_what (what_row fix what) ≡ what
what_told fix (Void reader seq) = refl
what_told fix (Fill stamp place kind) = ap (Fill stamp place) (kind_told kind)
what_told fix (Credit credit) = refl
what_told fix (Drop staff seq) = refl

pub fix_of_row : (fix other : Fix) → fix.account ≡ other.account → fix_row fix ≡ fix_row other → fix ≡ other
fix_of_row fix other account e =
    let staff : fix.staff ≡ other.staff = ap unsigned_abs (sym (staff_of fix fix.what) ∙ ap (λ (r : FixRow). r.staff) e ∙ staff_of other other.what) in
    let seq : fix.seq ≡ other.seq = ap unsigned_abs (sym (seq_of fix fix.what) ∙ ap (λ (r : FixRow). r.seq) e ∙ seq_of other other.what) in
    let what : fix.what ≡ other.what = sym (what_told fix fix.what) ∙ ap told_what e ∙ what_told other other.what in
    λ i. record { account = account i; staff = staff i; seq = seq i; what = what i }
