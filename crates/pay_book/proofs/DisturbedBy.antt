-- What a change disturbs of the taps that are kept is what its command disturbs of the effective taps.
use Rattle.std.proofs.Common.{◌≡◌, ℕ, suc, ◌||◌, not, nat_lt, Bool, true, false, if◌then◌else◌, cond, List, [], ◌∷◌, ◌++◌, length, append_assoc, filter, refl, sym, ap, ◌∙◌, subst, arith}
use Rattle.std.specs.List.{AllByRecursion, IsDistinct, list_any}
use Rattle.std.proofs.lemmas.Bool.Decides.{nat_tests}
use Rattle.std.proofs.lemmas.List.Folds.{list_any-append}
use Rattle.pay_tables.specs.Words.{FareEditions}
use Rattle.pay_rules.specs.declared.tap.Touch.{Touch}
use Rattle.pay_rules.specs.Order.{comes_before, same_number, put_in, HaveOwnNumbers}
use Rattle.pay_taps.specs.Words.{place_of, AreTimed, StandsAtPlace, SomeWithOneMore, OwnNumberAmongSome}
use Rattle.pay_fix.specs.declared.change.Change.TheVariants.{Nothing, Enters, Leaves}
use Rattle.pay_rules.specs.Journeys.{is_bus, is_rail}
use Rattle.pay_book.specs.Disturbed.{place_of_further, disturbed_between, disturbed, disturbed_by_rail, disturbed_by_bus}
use Rattle.pay_book.specs.Stored.{ChangeDisturbs}
use Rattle.pay_book.proofs.MarksOfTaps.{one_more}

-- ---- the place of the one whose number none of the others has

same_as_itself : (tap : Touch) → same_number tap tap ≡ true
same_as_itself tap = grind (arith, nat_tests)

any_or : (a b c : Bool) → b ≡ true → (a || (b || c)) ≡ true
any_or true b c e = refl
any_or false b c e = ap (λ (it : Bool). it || c) e

each_among : (front list : List Touch) → AllByRecursion (λ (tap : Touch). list_any (same_number tap) (front ++ list) ≡ true) list
each_among front [] = tt
each_among front (tap ∷ list) = (
  list_any-append (same_number tap) front (tap ∷ list) ∙ any_or (list_any (same_number tap) front) (same_number tap tap) (list_any (same_number tap) list) (same_as_itself tap),
  subst (λ (all : List Touch). AllByRecursion (λ (other : Touch). list_any (same_number other) all ≡ true) list) (append_assoc front (tap ∷ []) list) (each_among (front ++ tap ∷ []) list),
)

none_among : (touch : Touch) (list : List Touch) → AllByRecursion (λ (other : Touch). same_number touch other ≡ false) list → list_any (same_number touch) list ≡ false
none_among touch [] none = refl
none_among touch (other ∷ list) none = rw none.0 (none_among touch list none.1)

further_in : (touch : Touch) (others list : List Touch) → AllByRecursion (λ (tap : Touch). list_any (same_number tap) others ≡ true) list → list_any (same_number touch) others ≡ false
    → place_of_further others (put_in touch list) ≡ place_of touch list
further_in touch others [] each none = rw none refl
further_in touch others (other ∷ list) each none =
    elim (comes_before other touch) as
    (λ (b : Bool). place_of_further others (if b then other ∷ put_in touch list else touch ∷ other ∷ list) ≡ (if b then suc (place_of touch list) else 0)) [
      | true ↦ rw each.0 (ap suc (further_in touch others list each.1 none))
      | false ↦ rw none refl
    ]

own_head : (touch : Touch) (list : List Touch) → HaveOwnNumbers (touch ∷ list) → AllByRecursion (λ (other : Touch). same_number touch other ≡ false) list
unfolding IsDistinct
own_head touch list own = own.0

further : (touch : Touch) (list : List Touch) → HaveOwnNumbers (touch ∷ list) → place_of_further list (put_in touch list) ≡ place_of touch list
further touch list own = further_in touch list list (each_among [] list) (none_among touch list (own_head touch list own))

-- ---- taps of one kind

below_itself : (n : ℕ) → nat_lt n n ≡ false
below_itself n = grind (arith, nat_tests)

below_more : (n : ℕ) → nat_lt n (suc n) ≡ true
below_more n = grind (arith, nat_tests)

not_below_fewer : (n : ℕ) → nat_lt (suc n) n ≡ false
not_below_fewer n = grind (arith, nat_tests)

module _ (by : List Touch → ℕ → ℕ) where
  none_between : (before after : List Touch) → after ≡ before → disturbed_between by before after ≡ 0
  none_between before after e =
      let same : length after ≡ length before = ap length e in
      rw same (rw (below_itself (length before)) refl)

  enters_between : (touch : Touch) (before after : List Touch) → after ≡ put_in touch before → HaveOwnNumbers (touch ∷ before) → disturbed_between by before after ≡ by (put_in touch before) (place_of touch before)
  enters_between touch before after e own =
      let long : length (put_in touch before) ≡ suc (length before) = one_more touch before in
      ap (disturbed_between by before) e ∙ rw long (rw (below_more (length before)) (ap (by (put_in touch before)) (further touch before own)))

  leaves_between : (touch : Touch) (before after : List Touch) → before ≡ put_in touch after → HaveOwnNumbers (touch ∷ after) → disturbed_between by before after ≡ by (put_in touch after) (place_of touch after)
  leaves_between touch before after e own =
      let long : length (put_in touch after) ≡ suc (length after) = one_more touch after in
      ap (λ (list : List Touch). disturbed_between by list after) e
      ∙ rw long (rw (not_below_fewer (length after)) (rw (below_more (length after)) (ap (by (put_in touch after)) (further touch after own))))

-- ---- both kinds

module _ (stands : StandsAtPlace) (some : SomeWithOneMore) (own : OwnNumberAmongSome) where
  with_it : (p : Touch → Bool) (touch : Touch) (fewer more : List Touch) → p touch ≡ true → AreTimed fewer → more ≡ put_in touch fewer → filter p more ≡ put_in touch (filter p fewer)
  with_it p touch fewer more is timed e = ap (filter p) e ∙ some p touch fewer timed.in_order ∙ ap (λ (b : Bool). cond b (put_in touch (filter p fewer)) (filter p fewer)) is

  without_it : (p : Touch → Bool) (touch : Touch) (fewer more : List Touch) → p touch ≡ false → AreTimed fewer → more ≡ put_in touch fewer → filter p more ≡ filter p fewer
  without_it p touch fewer more is timed e = ap (filter p) e ∙ some p touch fewer timed.in_order ∙ ap (λ (b : Bool). cond b (put_in touch (filter p fewer)) (filter p fewer)) is

  entered : (by : List Touch → ℕ → ℕ) (p : Touch → Bool) (touch : Touch) (taps before after : List Touch) → taps ≡ filter p before → p touch ≡ true → AreTimed before → after ≡ put_in touch before
      → HaveOwnNumbers (touch ∷ before) → by (put_in touch taps) (place_of touch taps) ≡ disturbed_between by (filter p before) (filter p after)
  entered by p touch taps before after are is timed e numbers =
      ap (λ (list : List Touch). by (put_in touch list) (place_of touch list)) are
      ∙ sym (enters_between by touch (filter p before) (filter p after) (with_it p touch before after is timed e) (own p touch before numbers))

  left : (by : List Touch → ℕ → ℕ) (p : Touch → Bool) (touch : Touch) (taps before after : List Touch) → taps ≡ filter p before → p touch ≡ true → AreTimed after → before ≡ put_in touch after
      → HaveOwnNumbers (touch ∷ after) → by taps (place_of touch taps) ≡ disturbed_between by (filter p before) (filter p after)
  left by p touch taps before after are is timed e numbers =
      let more = with_it p touch after before is timed e in
      ap (λ (list : List Touch). by list (place_of touch list)) (are ∙ more) ∙ ap (by (put_in touch (filter p after))) (stands touch (filter p after)).0
      ∙ sym (leaves_between by touch (filter p before) (filter p after) more (own p touch after numbers))

  no_other : (editions : FareEditions) (touch : Touch) (fewer more : List Touch) → AreTimed fewer → more ≡ put_in touch fewer → (by : List Touch → ℕ → ℕ) (p : Touch → Bool) → p touch ≡ false
      → (disturbed_between by (filter p fewer) (filter p more) ≡ 0) × (disturbed_between by (filter p more) (filter p fewer) ≡ 0)
  no_other editions touch fewer more timed e by p is =
      let same = without_it p touch fewer more is timed e in
      (none_between by (filter p fewer) (filter p more) same, none_between by (filter p more) (filter p fewer) (sym same))

  pub as_by_command : ChangeDisturbs
  as_by_command editions Nothing before after held is are =
      let rail = none_between (disturbed_by_rail editions) (filter is_rail before) (filter is_rail after) (ap (filter is_rail) is.changed) in
      let buses = none_between (disturbed_by_bus editions.own.rules.hopper) (filter is_bus before) (filter is_bus after) (ap (filter is_bus) is.changed) in
      omega (arith, rail, buses)
  as_by_command editions (Enters touch) before after held is are =
      let e = is.changed in
      let by_rail = disturbed_by_rail editions in
      let by_bus = disturbed_by_bus editions.own.rules.hopper in
      elim (is_bus touch) as (λ (b : Bool). is_bus touch ≡ b →
      (if b then by_bus (put_in touch held.buses.touches) (place_of touch held.buses.touches) else by_rail (put_in touch held.rail.touches) (place_of touch held.rail.touches)) ≡ disturbed editions before after) [
        | true ↦ λ kind.
            let its = entered by_bus is_bus touch held.buses.touches before after are.buses kind is.timed e.in_place e.own_numbers in
            let none = (no_other editions touch before after is.timed e.in_place by_rail is_rail (ap not kind)).0 in omega (arith, its, none)
        | false ↦ λ kind.
            let its = entered by_rail is_rail touch held.rail.touches before after are.rail (ap not kind) is.timed e.in_place e.own_numbers in
            let none = (no_other editions touch before after is.timed e.in_place by_bus is_bus kind).0 in omega (arith, its, none)
      ] refl
  as_by_command editions (Leaves touch) before after held is are =
      let e = is.changed in
      let by_rail = disturbed_by_rail editions in
      let by_bus = disturbed_by_bus editions.own.rules.hopper in
      elim (is_bus touch) as (λ (b : Bool). is_bus touch ≡ b →
      (if b then by_bus held.buses.touches (place_of touch held.buses.touches) else by_rail held.rail.touches (place_of touch held.rail.touches)) ≡ disturbed editions before after) [
        | true ↦ λ kind.
            let its = left by_bus is_bus touch held.buses.touches before after are.buses kind is.timed_then e.in_place e.own_numbers in
            let none = (no_other editions touch after before is.timed_then e.in_place by_rail is_rail (ap not kind)).1 in omega (arith, its, none)
        | false ↦ λ kind.
            let its = left by_rail is_rail touch held.rail.touches before after are.rail (ap not kind) is.timed_then e.in_place e.own_numbers in
            let none = (no_other editions touch after before is.timed_then e.in_place by_bus is_bus kind).1 in omega (arith, its, none)
      ] refl
