-- Rows that are told to be the same are, and those that are the same are told to be.
use Rattle.std.proofs.Common.{◌≡◌, ℤ, true, ◌&&◌, ap₂, subst, arith}
use Rattle.std.specs.Ordering.{int_eq}
use Rattle.std.proofs.lemmas.Bool.{and_parts}
use Rattle.std.proofs.lemmas.Bool.Decides.{nat_tests}
use Rattle.std.proofs.lemmas.Int.{ints}
use Rattle.pay_rows.specs.declared.row.TapRow.{TapRow}
use Rattle.pay_rows.specs.declared.row.FixRow.{FixRow}

same_number : (a b : ℤ) → int_eq a b ≡ true → a ≡ b
same_number a b e = grind (arith, ints, nat_tests)

itself : (a : ℤ) → int_eq a a ≡ true
itself a = grind (arith, ints, nat_tests)

pub same_tap_row : (a b : TapRow) → (int_eq a.reader b.reader && (int_eq a.seq b.seq && (int_eq a.utc b.utc && (int_eq a.day b.day && (int_eq a.second b.second && (int_eq a.place b.place && (int_eq a.kind b.kind))))))) ≡ true → a ≡ b
same_tap_row a b e =
    let p0 = and_parts _ _ e in
    let p1 = and_parts _ _ p0.1 in
    let p2 = and_parts _ _ p1.1 in
    let p3 = and_parts _ _ p2.1 in
    let p4 = and_parts _ _ p3.1 in
    let p5 = and_parts _ _ p4.1 in
    let of_reader = same_number a.reader b.reader p0.0 in
    let of_seq = same_number a.seq b.seq p1.0 in
    let of_utc = same_number a.utc b.utc p2.0 in
    let of_day = same_number a.day b.day p3.0 in
    let of_second = same_number a.second b.second p4.0 in
    let of_place = same_number a.place b.place p5.0 in
    let of_kind = same_number a.kind b.kind p5.1 in
    λ i. record { reader = of_reader i; seq = of_seq i; utc = of_utc i; day = of_day i; second = of_second i; place = of_place i; kind = of_kind i }

pub same_fix_row : (x y : FixRow) → (int_eq x.staff y.staff && (int_eq x.seq y.seq && (int_eq x.what y.what && (int_eq x.a y.a && (int_eq x.b y.b && (int_eq x.c y.c && (int_eq x.d y.d && (int_eq x.e y.e)))))))) ≡ true → x ≡ y
same_fix_row x y is =
    let p0 = and_parts _ _ is in
    let p1 = and_parts _ _ p0.1 in
    let p2 = and_parts _ _ p1.1 in
    let p3 = and_parts _ _ p2.1 in
    let p4 = and_parts _ _ p3.1 in
    let p5 = and_parts _ _ p4.1 in
    let p6 = and_parts _ _ p5.1 in
    let of_staff = same_number x.staff y.staff p0.0 in
    let of_seq = same_number x.seq y.seq p1.0 in
    let of_what = same_number x.what y.what p2.0 in
    let of_a = same_number x.a y.a p3.0 in
    let of_b = same_number x.b y.b p4.0 in
    let of_c = same_number x.c y.c p5.0 in
    let of_d = same_number x.d y.d p6.0 in
    let of_e = same_number x.e y.e p6.1 in
    λ i. record { staff = of_staff i; seq = of_seq i; what = of_what i; a = of_a i; b = of_b i; c = of_c i; d = of_d i; e = of_e i }

pub told_tap_row : (a b : TapRow) → a ≡ b → (int_eq a.reader b.reader && (int_eq a.seq b.seq && (int_eq a.utc b.utc && (int_eq a.day b.day && (int_eq a.second b.second && (int_eq a.place b.place && (int_eq a.kind b.kind))))))) ≡ true
told_tap_row a b is =
    subst (λ (b : TapRow). (int_eq a.reader b.reader && (int_eq a.seq b.seq && (int_eq a.utc b.utc && (int_eq a.day b.day && (int_eq a.second b.second && (int_eq a.place b.place && (int_eq a.kind b.kind))))))) ≡ true) is
    (ap₂ ◌&&◌ (itself a.reader) (ap₂ ◌&&◌ (itself a.seq) (ap₂ ◌&&◌ (itself a.utc) (ap₂ ◌&&◌ (itself a.day) (ap₂ ◌&&◌ (itself a.second) (ap₂ ◌&&◌ (itself a.place) (itself a.kind)))))))

pub told_fix_row : (x y : FixRow) → x ≡ y → (int_eq x.staff y.staff && (int_eq x.seq y.seq && (int_eq x.what y.what && (int_eq x.a y.a && (int_eq x.b y.b && (int_eq x.c y.c && (int_eq x.d y.d && (int_eq x.e y.e)))))))) ≡ true
told_fix_row x y is =
    subst (λ (y : FixRow). (int_eq x.staff y.staff && (int_eq x.seq y.seq && (int_eq x.what y.what && (int_eq x.a y.a && (int_eq x.b y.b && (int_eq x.c y.c && (int_eq x.d y.d && (int_eq x.e y.e)))))))) ≡ true) is
    (ap₂ ◌&&◌ (itself x.staff) (ap₂ ◌&&◌ (itself x.seq) (ap₂ ◌&&◌ (itself x.what) (ap₂ ◌&&◌ (itself x.a) (ap₂ ◌&&◌ (itself x.b) (ap₂ ◌&&◌ (itself x.c) (ap₂ ◌&&◌ (itself x.d) (itself x.e))))))))
