-- What a tap or a correction that is accepted changes of the state.
use Rattle.std.proofs.Common.{◌≡◌, ℕ, Bool, true, false, cond, not, Option, Some, None, Result, Ok, Err, unwrap_or, refl, sym, ap, ◌∙◌}
use Rattle.std.specs.FinMap as map
use Rattle.std.specs.FinMap.{get-insert}
use Rattle.std.specs.Cmp.{nat_cmp_total}
use Rattle.std.specs.Ordering.{nat_cmp, eq_by_cmp}
use Rattle.pay_tables.specs.Words.{FareEditions}
use Rattle.pay_rules.specs.declared.tap.Tap.{Tap}
use Rattle.pay_rules.specs.declared.fix.Fix.{Fix}
use Rattle.pay_rules.specs.declared.priced.Priced.{Priced}
use Rattle.pay_rules.specs.declared.fares.TapFault.{TapFault}
use Rattle.pay_rules.specs.declared.fares.TapFault.TheVariants as of_tap
use Rattle.pay_rules.specs.declared.fares.FixFault.{FixFault}
use Rattle.pay_rules.specs.declared.fares.FixFault.TheVariants as of_fix
use Rattle.pay_rules.specs.Accepted.{Accepted, nothing}
use Rattle.pay_rules.specs.TapResults.{tap_result, after_tap}
use Rattle.pay_rules.specs.FixResults.{fix_result, after_fix}
use Rattle.pay_rules.specs.Changes.{Change, Tapped, Fixed, after, IsAccepted}
use Rattle.pay_shard.specs.Changes.{is_priced}
use Rattle.pay_shard.specs.Machine.{Step, step_tap_result, step_fix_result}
use Rattle.pay_shard.specs.State.{is_new, kept}
use Rattle.pay_rules.specs.State.{State, accepted_of}
use Rattle.pay_shard.proofs.AskedChanges.{account_of, step_change}
use Rattle.pay_shard.proofs.FirstOnes.{same_tap_left, same_fix_left, first_tap_is_new, first_fix_is_new}
use Rattle.pay_shard.proofs.Places.{one_number}

-- what is held of an account after one was given something, which a repeat has already
get_kept : (new : Bool) (state : State) (account : ℕ) (x : Accepted) → (new ≡ false → map.get state account ≡ Some x)
    → (q : ℕ) → map.get (kept new state account x) q ≡ cond (eq_by_cmp nat_cmp q account) (Some x) (map.get state q)
get_kept true state account x there q = get-insert nat_cmp_total state account x q
get_kept false state account x there q = at (eq_by_cmp nat_cmp q account) (one_number q account)
  where
    at : (b : Bool) → (b ≡ true → q ≡ account) → map.get state q ≡ cond b (Some x) (map.get state q)
    at true same = ap (map.get state) (same refl) ∙ there refl
    at false same = refl

-- a repeat is of an account that is there, and leaves it as it is
there_by_tap : (editions : FareEditions) (held : Option Accepted) (tap : Tap) (priced : Priced) → Ok priced ≡ tap_result editions (unwrap_or held nothing) tap → is_new {E = TapFault} (Ok priced) ≡ false
    → held ≡ Some (after_tap (Ok priced) (unwrap_or held nothing) tap)
there_by_tap editions None tap priced e old = let new = first_tap_is_new editions tap priced e in absurd (cc)
there_by_tap editions (Some accepted) tap priced e old = ap Some (sym (same_tap_left (Ok priced) accepted tap old))

there_by_fix : (editions : FareEditions) (held : Option Accepted) (fix : Fix) (priced : Priced) → Ok priced ≡ fix_result editions (unwrap_or held nothing) fix → is_new {E = FixFault} (Ok priced) ≡ false
    → held ≡ Some (after_fix (Ok priced) (unwrap_or held nothing) fix)
there_by_fix editions None fix priced e old = let new = first_fix_is_new editions fix priced e in absurd (cc)
there_by_fix editions (Some accepted) fix priced e old = ap Some (sym (same_fix_left (Ok priced) accepted fix old))

-- a change that is accepted leads to this state: its own account has accepted it, and the others are as they were
pub record Accepts (editions : FareEditions) (state : State) (change : Change) (s : Step) : Type 0 where
  pub accepts : IsAccepted editions (accepted_of state (account_of change)) change
  pub held : (q : ℕ) → map.get s.after q ≡ cond (eq_by_cmp nat_cmp q (account_of change)) (Some (after editions (accepted_of state (account_of change)) change)) (map.get state q)

unpriced_tap : (fault : TapFault) (state : State) (tap : Tap) → is_priced (step_tap_result state tap (Err fault)).reply ≡ false
unpriced_tap of_tap.UnknownPlace state tap = refl
unpriced_tap of_tap.Conflict state tap = refl
unpriced_tap of_tap.AccountFull state tap = refl
unpriced_tap of_tap.Memory state tap = refl

unpriced_fix : (fault : FixFault) (state : State) (fix : Fix) → is_priced (step_fix_result state fix (Err fault)).reply ≡ false
unpriced_fix of_fix.UnknownPlace state fix = refl
unpriced_fix of_fix.FixConflict state fix = refl
unpriced_fix of_fix.FixesFull state fix = refl
unpriced_fix of_fix.Memory state fix = refl

accepts_tap : (editions : FareEditions) (state : State) (tap : Tap) (r : Result Priced TapFault) → tap_result editions (accepted_of state tap.account) tap ≡ r
    → is_priced (step_tap_result state tap r).reply ≡ true → Accepts editions state (Tapped tap) (step_tap_result state tap r)
accepts_tap editions state tap (Err fault) e is = let never = unpriced_tap fault state tap in absurd (cc)
accepts_tap editions state tap (Ok priced) e is =
    let was : Accepted = accepted_of state tap.account in
    record {
      accepts = (priced, e);
      held = λ q.
          get_kept (not priced.again) state tap.account (after_tap (Ok priced) was tap) (there_by_tap editions (map.get state tap.account) tap priced (sym e)) q
          ∙ ap (λ r. cond (eq_by_cmp nat_cmp q tap.account) (Some (after_tap r was tap)) (map.get state q)) (sym e);
    }

accepts_fix : (editions : FareEditions) (state : State) (fix : Fix) (r : Result Priced FixFault) → fix_result editions (accepted_of state fix.account) fix ≡ r
    → is_priced (step_fix_result state fix r).reply ≡ true → Accepts editions state (Fixed fix) (step_fix_result state fix r)
accepts_fix editions state fix (Err fault) e is = let never = unpriced_fix fault state fix in absurd (cc)
accepts_fix editions state fix (Ok priced) e is =
    let was : Accepted = accepted_of state fix.account in
    record {
      accepts = (priced, e);
      held = λ q.
          get_kept (not priced.again) state fix.account (after_fix (Ok priced) was fix) (there_by_fix editions (map.get state fix.account) fix priced (sym e)) q
          ∙ ap (λ r. cond (eq_by_cmp nat_cmp q fix.account) (Some (after_fix r was fix)) (map.get state q)) (sym e);
    }

pub accepts : (editions : FareEditions) (state : State) (change : Change) → is_priced (step_change editions state change).reply ≡ true → Accepts editions state change (step_change editions state change)
accepts editions state (Tapped tap) is = accepts_tap editions state tap (tap_result editions (accepted_of state tap.account) tap) refl is
accepts editions state (Fixed fix) is = accepts_fix editions state fix (fix_result editions (accepted_of state fix.account) fix) refl is

-- and what its account accepts is answered by prices
pub priced_if_accepted : (editions : FareEditions) (state : State) (change : Change) → IsAccepted editions (accepted_of state (account_of change)) change → is_priced (step_change editions state change).reply ≡ true
priced_if_accepted editions state (Tapped tap) accepted = ap (λ r. is_priced (step_tap_result state tap r).reply) accepted.1
priced_if_accepted editions state (Fixed fix) accepted = ap (λ r. is_priced (step_fix_result state fix r).reply) accepted.1
