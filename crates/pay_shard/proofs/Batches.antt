-- A batch, one account after another.
use Rattle.std.proofs.Common.{◌≡◌, ℕ, Ordering, Bool, true, false, cond, ◌&&◌, ◌||◌, List, [], ◌∷◌, ◌++◌, map, length, fold, filter, if◌then◌else◌, refl, sym, ap, ◌∙◌, arith}
use Rattle.std.specs.FinMap as finite
use Rattle.std.specs.FinMap.{len-empty, len-entries}
use Rattle.std.specs.List.{list_any}
use Rattle.std.proofs.lemmas.List.{append_assoc, append-nil}
use Rattle.pay_day.specs.Words.{monday}
use Rattle.pay_rules.specs.Numbers.{number_cmp}
use Rattle.pay_rules.specs.declared.tap.Tap.{Tap}
use Rattle.pay_rules.specs.declared.fix.Fix.{Fix}
use Rattle.pay_tables.specs.Words.{FareEditions}
use Rattle.pay_rules.specs.Accepted.{Accepted, nothing}
use Rattle.pay_rules.specs.QuoteParts.{QuoteParts}
use Rattle.pay_rules.specs.Quotes.{quote}
use Rattle.pay_rules.specs.SetsParts.{SetsParts, sets}
use Rattle.pay_shard.specs.BatchParts.{BatchParts, batch_of, batch, batch_if_quoted, batch_with}
use Rattle.pay_shard.specs.Selection.{is_of, is_tap_between, is_fill_between, is_quoted}
use Rattle.pay_rules.specs.State.{State, accepted_of}

-- one account, quoted or not
pub if_not : (editions : FareEditions) (through : ℕ) (b : BatchParts) (account : ℕ) (accepted : Accepted) → is_quoted through (sets account accepted) ≡ false → b ≡ batch_if_quoted editions through b account accepted
unfolding batch_if_quoted
if_not editions through b account accepted is = sym (ap (λ t. if t then record { quotes = b.quotes ++ quote editions account accepted through ∷ []; sets = b.sets ++ sets account accepted ∷ [] } else b) is)

pub if_so : (editions : FareEditions) (through : ℕ) (b : BatchParts) (account : ℕ) (accepted : Accepted) (q : QuoteParts) (s : SetsParts) → is_quoted through (sets account accepted) ≡ true → q ≡ quote editions account accepted through → s ≡ sets account accepted
    → record { quotes = b.quotes ++ q ∷ []; sets = b.sets ++ s ∷ [] } ≡ batch_if_quoted editions through b account accepted
unfolding batch_if_quoted
if_so editions through b account accepted q s is same all =
    (λ i. record { quotes = b.quotes ++ same i ∷ []; sets = b.sets ++ all i ∷ [] })
    ∙ sym (ap (λ t. if t then record { quotes = b.quotes ++ quote editions account accepted through ∷ []; sets = b.sets ++ sets account accepted ∷ [] } else b) is)

-- one that has accepted nothing is not quoted
no_items : {X : Type 0} (xs : List X) → length xs ≡ 0 → xs ≡ []
no_items [] e = refl
no_items (x ∷ xs) e = absurd (omega (arith, e))

no_values : {K : Type 0} (X : Type 0) (R : K → K → Ordering) → finite.values (finite.empty {X = X} {R = R}) ≡ []
no_values {K} X R = ap (map (λ (e : K × X). e.1)) (no_items (finite.entries (finite.empty {X = X} {R = R})) (sym (len-entries finite.empty) ∙ len-empty R X))

nothing_quoted : (through account : ℕ) → is_quoted through (sets account nothing) ≡ false
nothing_quoted through account =
    λ i. list_any (is_tap_between (monday through) through) (no_values Tap number_cmp i) || list_any (is_fill_between (monday through) through) (no_values Fix number_cmp i)

pub not_there : (editions : FareEditions) (through : ℕ) (b : BatchParts) (account : ℕ) (accepted : Accepted) → nothing ≡ accepted → b ≡ batch_if_quoted editions through b account accepted
not_there editions through b account accepted none = if_not editions through b account accepted (ap (λ a. is_quoted through (sets account a)) (sym none) ∙ nothing_quoted through account)

-- ---- one after another

join : BatchParts → BatchParts → BatchParts
join b c = record { quotes = b.quotes ++ c.quotes; sets = b.sets ++ c.sets }

module _ (editions : FareEditions) (state : State) (through shard of : ℕ) where
  abbrev pub at : ℕ → ℕ × Accepted
  at account = (account, accepted_of state account)

  abbrev pub is_chosen : ℕ × Accepted → Bool
  is_chosen e = is_of shard of e.0 && is_quoted through (sets e.0 e.1)

  abbrev chosen : List ℕ → List (ℕ × Accepted)
  chosen accounts = filter is_chosen (map at accounts)

  step : (b : BatchParts) (account : ℕ) (rest : List (ℕ × Accepted)) (mine is : Bool) → is_of shard of account ≡ mine → is_quoted through (sets account (accepted_of state account)) ≡ is
      → join (if mine then (if is then record { quotes = b.quotes ++ quote editions account (accepted_of state account) through ∷ []; sets = b.sets ++ sets account (accepted_of state account) ∷ [] } else b) else b) (batch_of editions through rest)
      ≡ join b (batch_of editions through (cond (mine && is) (at account ∷ rest) rest))
  unfolding join
  step b account rest true true m s = λ i. record {
    quotes = append_assoc b.quotes (quote editions account (accepted_of state account) through ∷ []) (batch_of editions through rest).quotes i;
    sets = append_assoc b.sets (sets account (accepted_of state account) ∷ []) (batch_of editions through rest).sets i;
  }
  step b account rest true false m s = refl
  step b account rest false is m s = refl

  all_after : (b : BatchParts) (accounts : List ℕ) → fold (batch_with editions state (through, shard, of)) b accounts ≡ join b (batch_of editions through (chosen accounts))
  unfolding join batch_if_quoted
  all_after b [] = sym (λ i. record { quotes = append-nil b.quotes i; sets = append-nil b.sets i })
  all_after b (account ∷ accounts) =
      all_after (batch_with editions state (through, shard, of) b account) accounts
      ∙ step b account (chosen accounts) (is_of shard of account) (is_quoted through (sets account (accepted_of state account))) refl refl

  pub all_quoted : (accounts : List ℕ) → finite.entries state ≡ map at accounts → fold (batch_with editions state (through, shard, of)) (record { quotes = []; sets = [] }) accounts ≡ batch editions state through shard of
  unfolding join
  all_quoted accounts e = all_after (record { quotes = []; sets = [] }) accounts ∙ ap (λ es. batch_of editions through (filter is_chosen es)) (sym e)
