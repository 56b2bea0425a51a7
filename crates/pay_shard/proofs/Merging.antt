-- A merge of journals, and each journal by itself.
use Rattle.std.proofs.Common.{◌≡◌, ℕ, ◌%◌, ◌==◌, Bool, true, false, cond, ◌&&◌, List, [], ◌∷◌, map, filter, Some, None, Result, Ok, Err, unwrap_or, if◌then◌else◌, refl, sym, ap, ◌∙◌, subst}
use Rattle.std.specs.Cmp.{nat_cmp_total}
use Rattle.std.specs.FinMap as finite
use Rattle.std.specs.FinMap.{find, get-insert, get-entries, entries_sorted, nat_cmp-IsAntisymmetric}
use Rattle.std.specs.FinMap.Entries.{where_key, is_sorted-where_key, find-where_key, same_entries}
use Rattle.std.specs.List.{zip}
use Rattle.std.specs.Ordering.{nat_cmp}
use Rattle.std.proofs.lemmas.Bool.{eqb-true, eq-eqb}
use Rattle.pay_tables.specs.Words.{FareEditions}
use Rattle.pay_rules.specs.declared.tap.Tap.{Tap}
use Rattle.pay_rules.specs.declared.fix.Fix.{Fix}
use Rattle.pay_rules.specs.Accepted.{Accepted, nothing}
use Rattle.pay_rules.specs.SetsParts.{sets}
use Rattle.pay_rules.specs.TapResults.{tap_result, after_tap}
use Rattle.pay_rules.specs.FixResults.{fix_result, after_fix}
use Rattle.pay_rules.specs.Lines.{shown}
use Rattle.pay_rules.specs.Quotes.{quote}
use Rattle.pay_rules.specs.declared.priced.Priced.{Priced}
use Rattle.pay_rules.specs.declared.fares.TapFault.{TapFault}
use Rattle.pay_rules.specs.declared.fares.FixFault.{FixFault}
use Rattle.pay_shard.specs.BatchParts.{batch_of, batch}
use Rattle.pay_shard.specs.Machine.{Step, is_refusal, step_tap_result, step_fix_result, step, marked_step, item_step}
use Rattle.pay_shard.specs.Merges.{items_of, all_items, replies_of, IsAskedOf, AreAskedOf, IsWhole}
use Rattle.pay_shard.specs.Runs.{run, replay, IsMarkedRightly, IsHistory}
use Rattle.pay_shard.specs.Selection.{is_of, is_quoted, quoted}
use Rattle.pay_shard.specs.State.{is_new, kept}
use Rattle.pay_rules.specs.State.{State, accepted_of}
use Rattle.pay_shard.specs.declared.asked.Asked.{Asked}
use Rattle.pay_shard.specs.declared.asked.Asked.TheVariants as asked
use Rattle.pay_shard.specs.declared.item.Item.{Item}
use Rattle.pay_shard.specs.declared.reply.Reply.{Reply}
use Rattle.pay_shard.specs.declared.reply.Reply.TheVariants as replies
use Rattle.pay_shard.proofs.Places.{same_number, one_number}

module _ (of shard : ℕ) where
  -- two states have the same of the accounts of a shard
  abbrev Agree : State → State → Type 0
  Agree w e = (q : ℕ) → q % of ≡ shard → finite.get w q ≡ finite.get e q

  -- and the same of all others
  abbrev SameBeside : State → State → Type 0
  SameBeside w v = (q : ℕ) → ¬ (q % of ≡ shard) → finite.get w q ≡ finite.get v q

  -- one step of the two
  record Alike (w : State) (sw se : Step) : Type 0 where
    pub reply : sw.reply ≡ se.reply
    pub agree : Agree sw.after se.after
    pub beside : SameBeside sw.after w

  kept_alike : (new : Bool) (w e : State) (account : ℕ) (x y : Accepted) → x ≡ y → Agree w e → Agree (kept new w account x) (kept new e account y)
  kept_alike true w e account x y same agree q is =
      get-insert nat_cmp_total w account x q ∙ (λ i. cond (same_number q account) (Some (same i)) (agree q is i)) ∙ sym (get-insert nat_cmp_total e account y q)
  kept_alike false w e account x y same agree q is = agree q is

  kept_beside : (new : Bool) (w : State) (account : ℕ) (x : Accepted) → account % of ≡ shard → SameBeside (kept new w account x) w
  kept_beside true w account x own q other = get-insert nat_cmp_total w account x q ∙ by (same_number q account) refl
    where
      by : (b : Bool) → same_number q account ≡ b → cond b (Some x) (finite.get w q) ≡ finite.get w q
      by true here = absurd (other (ap (λ n. n % of) (one_number q account here) ∙ own))
      by false off = refl
  kept_beside false w account x own q other = refl

  same_accepted : (w e : State) (account : ℕ) → account % of ≡ shard → Agree w e → accepted_of w account ≡ accepted_of e account
  same_accepted w e account own agree = ap (λ o. unwrap_or o nothing) (agree account own)

  stays_alike : (w e : State) (x y : Reply) → x ≡ y → Agree w e → Alike w (record { reply = x; after = w }) (record { reply = y; after = e })
  stays_alike w e x y same agree = record { reply = same; agree = agree; beside = λ q other. refl }

  tap_alike : (w e : State) (tap : Tap) (r : Result Priced TapFault) → tap.account % of ≡ shard → Agree w e → Alike w (step_tap_result w tap r) (step_tap_result e tap r)
  tap_alike w e tap (Err fault) own agree = stays_alike w e _ _ refl agree
  tap_alike w e tap (Ok priced) own agree = record {
    reply = refl;
    agree = kept_alike (is_new {E = TapFault} (Ok priced)) w e tap.account (after_tap (Ok priced) (accepted_of w tap.account) tap) (after_tap (Ok priced) (accepted_of e tap.account) tap)
        (ap (λ a. after_tap (Ok priced) a tap) (same_accepted w e tap.account own agree)) agree;
    beside = kept_beside (is_new {E = TapFault} (Ok priced)) w tap.account (after_tap (Ok priced) (accepted_of w tap.account) tap) own;
  }

  fix_alike : (w e : State) (fix : Fix) (r : Result Priced FixFault) → fix.account % of ≡ shard → Agree w e → Alike w (step_fix_result w fix r) (step_fix_result e fix r)
  fix_alike w e fix (Err fault) own agree = stays_alike w e _ _ refl agree
  fix_alike w e fix (Ok priced) own agree = record {
    reply = refl;
    agree = kept_alike (is_new {E = FixFault} (Ok priced)) w e fix.account (after_fix (Ok priced) (accepted_of w fix.account) fix) (after_fix (Ok priced) (accepted_of e fix.account) fix)
        (ap (λ a. after_fix (Ok priced) a fix) (same_accepted w e fix.account own agree)) agree;
    beside = kept_beside (is_new {E = FixFault} (Ok priced)) w fix.account (after_fix (Ok priced) (accepted_of w fix.account) fix) own;
  }

  -- ---- quotes

  filter_both : (p q : ℕ × Accepted → Bool) (es : List (ℕ × Accepted)) → filter (λ e. p e && q e) es ≡ filter q (filter p es)
  filter_both p q [] = refl
  filter_both p q (e ∷ es) = by (p e) (q e) (filter_both p q es) refl
    where
      by : (a b : Bool) → filter (λ e. p e && q e) es ≡ filter q (filter p es) → q e ≡ b → cond (a && b) (e ∷ filter (λ e. p e && q e) es) (filter (λ e. p e && q e) es) ≡ filter q (cond a (e ∷ filter p es) (filter p es))
      by true b rest is = (λ i. cond (sym is i) (e ∷ rest i) (rest i))
      by false b rest is = rest

  own_found : (w : State) (q : ℕ) → find nat_cmp q (where_key nat_cmp (is_of shard of) (finite.entries w)) ≡ cond (is_of shard of q) (finite.get w q) None
  own_found w q =
      find-where_key nat_cmp (is_of shard of) q (λ x e. ap (is_of shard of) (sym (nat_cmp-IsAntisymmetric q x e))) (finite.entries w)
      ∙ ap (λ o. cond (is_of shard of q) o None) (sym (get-entries w q))

  own_entries : (w e : State) → Agree w e → where_key nat_cmp (is_of shard of) (finite.entries w) ≡ where_key nat_cmp (is_of shard of) (finite.entries e)
  own_entries w e agree = same_entries nat_cmp nat_cmp_total nat_cmp-IsAntisymmetric _ _ (is_sorted-where_key nat_cmp (is_of shard of) (finite.entries w) (entries_sorted w)) (is_sorted-where_key nat_cmp (is_of shard of) (finite.entries e) (entries_sorted e))
      (λ q. own_found w q ∙ by q (is_of shard of q) refl ∙ sym (own_found e q))
    where
      by : (q : ℕ) (b : Bool) → is_of shard of q ≡ b → cond b (finite.get w q) None ≡ cond b (finite.get e q) None
      by q true is = agree q (eqb-true (q % of) shard is)
      by q false is = refl

  same_quoted : (w e : State) (through : ℕ) → Agree w e → quoted w through shard of ≡ quoted e through shard of
  same_quoted w e through agree =
      filter_both (λ x. is_of shard of x.0) (λ x. is_quoted through (sets x.0 x.1)) (finite.entries w)
      ∙ ap (filter (λ (x : ℕ × Accepted). is_quoted through (sets x.0 x.1))) (own_entries w e agree)
      ∙ sym (filter_both (λ x. is_of shard of x.0) (λ x. is_quoted through (sets x.0 x.1)) (finite.entries e))

  -- ---- a step

  step_alike : (editions : FareEditions) (w e : State) (a : Asked) → IsAskedOf of shard a → Agree w e → Alike w (step editions w a) (step editions e a)
  step_alike editions w e (asked.Tap tap) own agree =
      subst (λ r. Alike w (step_tap_result w tap (tap_result editions (accepted_of w tap.account) tap)) (step_tap_result e tap r)) (ap (λ x. tap_result editions x tap) (same_accepted w e tap.account own agree))
      (tap_alike w e tap (tap_result editions (accepted_of w tap.account) tap) own agree)
  step_alike editions w e (asked.Fix fix) own agree =
      subst (λ r. Alike w (step_fix_result w fix (fix_result editions (accepted_of w fix.account) fix)) (step_fix_result e fix r)) (ap (λ x. fix_result editions x fix) (same_accepted w e fix.account own agree))
      (fix_alike w e fix (fix_result editions (accepted_of w fix.account) fix) own agree)
  step_alike editions w e (asked.Due account day) own agree = stays_alike w e _ _ (ap (λ x. replies.Due (quote editions account x day)) (same_accepted w e account own agree)) agree
  step_alike editions w e (asked.Show account day) own agree = stays_alike w e _ _ (ap (λ x. replies.Shown (shown editions account x day)) (same_accepted w e account own agree)) agree
  step_alike editions w e (asked.Quotes day named shards) own agree =
      stays_alike w e _ _ ((λ i. replies.Quotes (batch editions w day (own.0 i) (own.1 i))) ∙ ap (λ es. replies.Quotes (batch_of editions day es)) (same_quoted w e day agree) ∙ sym (λ i. replies.Quotes (batch editions e day (own.0 i) (own.1 i)))) agree

  marked_alike : (mark : Bool) (editions : FareEditions) (w e : State) (a : Asked) → IsAskedOf of shard a → Agree w e → Alike w (marked_step mark editions w a) (marked_step mark editions e a)
  marked_alike true editions w e a own agree = stays_alike w e replies.Memory replies.Memory refl agree
  marked_alike false editions w e a own agree = step_alike editions w e a own agree

-- ---- a merge

-- each shard's state after one item of a merge
abbrev after_one : FareEditions → (ℕ → State) → ℕ × Item → ℕ → State
after_one editions each m n = if m.0 == n then (item_step editions (each n) m.1).after else each n

its_own : (of : ℕ) (each : ℕ → State) (whole : State) (n : ℕ) → IsWhole of each whole → Agree of n whole (each n)
its_own of each whole n is q own = is q ∙ ap (λ k. finite.get (each k) q) own

one_alike : (editions : FareEditions) (of : ℕ) (each : ℕ → State) (whole : State) (m : ℕ × Item) → IsWhole of each whole → IsAskedOf of m.0 m.1.entry.command → Alike of m.0 whole (item_step editions whole m.1) (item_step editions (each m.0) m.1)
one_alike editions of each whole m is own = marked_alike of m.0 m.1.refused_memory editions whole (each m.0) m.1.entry.command own (its_own of each whole m.0 is)

whole_after : (editions : FareEditions) (of : ℕ) (each : ℕ → State) (whole : State) (m : ℕ × Item) → IsWhole of each whole → IsAskedOf of m.0 m.1.entry.command → IsWhole of (after_one editions each m) (item_step editions whole m.1).after
whole_after editions of each whole m is own q = by (m.0 == (q % of)) refl
  where
    alike : Alike of m.0 whole (item_step editions whole m.1) (item_step editions (each m.0) m.1)
    alike = one_alike editions of each whole m is own

    by : (b : Bool) → (m.0 == (q % of)) ≡ b → finite.get (item_step editions whole m.1).after q ≡ finite.get (if b then (item_step editions (each (q % of)) m.1).after else each (q % of)) q
    by true here =
        let same : m.0 ≡ q % of = eqb-true m.0 (q % of) here in
        alike.agree q (sym same) ∙ ap (λ n. finite.get (item_step editions (each n) m.1).after q) same
    by false off = alike.beside q (λ same. let here = eq-eqb m.0 (q % of) (sym same) in absurd (cc)) ∙ is q

pub merged_replies : (editions : FareEditions) (of : ℕ) (each : ℕ → State) (whole : State) (merged : List (ℕ × Item)) → IsWhole of each whole → AreAskedOf of merged
    → (shard : ℕ) → replies_of shard merged (run editions whole (all_items merged)).replies ≡ (run editions (each shard) (items_of shard merged)).replies
merged_replies editions of each whole [] is are shard = refl
merged_replies editions of each whole (m ∷ merged) is are shard =
    by (m.0 == shard) refl (merged_replies editions of (after_one editions each m) (item_step editions whole m.1).after merged (whole_after editions of each whole m is are.0) are.1 shard)
  where
    rest : List Reply
    rest = (run editions (item_step editions whole m.1).after (all_items merged)).replies

    beyond : List (ℕ × Reply)
    beyond = filter (λ (r : ℕ × Reply). r.0 == shard) (zip (map (λ (m : ℕ × Item). m.0) merged) rest)

    mine : List (ℕ × Item)
    mine = filter (λ (m : ℕ × Item). m.0 == shard) merged

    by : (b : Bool) → (m.0 == shard) ≡ b → replies_of shard merged rest ≡ (run editions (if b then (item_step editions (each shard) m.1).after else each shard) (items_of shard merged)).replies
        → map (λ (r : ℕ × Reply). r.1) (cond b ((m.0, (item_step editions whole m.1).reply) ∷ beyond) beyond) ≡ (run editions (each shard) (map (λ (m : ℕ × Item). m.1) (cond b (m ∷ mine) mine))).replies
    by true here later =
        let same : m.0 ≡ shard = eqb-true m.0 shard here in
        let reply = (one_alike editions of each whole m is are.0).reply ∙ ap (λ n. (item_step editions (each n) m.1).reply) same in
        λ i. reply i ∷ later i
    by false off later = later

pub merged_states : (editions : FareEditions) (of : ℕ) (each : ℕ → State) (whole : State) (merged : List (ℕ × Item)) → IsWhole of each whole → AreAskedOf of merged
    → IsWhole of (λ shard. replay editions (each shard) (items_of shard merged)) (replay editions whole (all_items merged))
merged_states editions of each whole [] is are = is
merged_states editions of each whole (m ∷ merged) is are = λ q.
    merged_states editions of (after_one editions each m) (item_step editions whole m.1).after merged (whole_after editions of each whole m is are.0) are.1 q ∙ ap (λ s. finite.get s q) (by (q % of) (m.0 == (q % of)))
  where
    by : (n : ℕ) (b : Bool) → replay editions (if b then (item_step editions (each n) m.1).after else each n) (items_of n merged) ≡ replay editions (each n) (map (λ (m : ℕ × Item). m.1) (cond b (m ∷ filter (λ (m : ℕ × Item). m.0 == n) merged) (filter (λ (m : ℕ × Item). m.0 == n) merged)))
    by n true = refl
    by n false = refl

pub merged_histories : (editions : FareEditions) (of : ℕ) (each : ℕ → State) (whole : State) (merged : List (ℕ × Item)) → IsWhole of each whole → AreAskedOf of merged
    → ((shard : ℕ) → IsHistory editions (each shard) (items_of shard merged)) → IsHistory editions whole (all_items merged)
merged_histories editions of each whole [] is are histories = tt
merged_histories editions of each whole (m ∷ merged) is are histories =
    (rightly, merged_histories editions of (after_one editions each m) (item_step editions whole m.1).after merged (whole_after editions of each whole m is are.0) are.1 (λ n. beyond n (m.0 == n) (histories n)))
  where
    mine : ℕ → List (ℕ × Item)
    mine n = filter (λ (m : ℕ × Item). m.0 == n) merged

    own : (b : Bool) → b ≡ true → IsHistory editions (each m.0) (map (λ (m : ℕ × Item). m.1) (cond b (m ∷ mine m.0) (mine m.0))) → IsMarkedRightly editions (each m.0) m.1
    own true here history = history.0
    own false off history = absurd (cc)

    rightly : IsMarkedRightly editions whole m.1
    rightly marked =
        ap is_refusal ((step_alike of m.0 editions whole (each m.0) m.1.entry.command are.0 (its_own of each whole m.0 is)).reply)
        ∙ own (m.0 == m.0) (eq-eqb m.0 m.0 refl) (histories m.0) marked

    beyond : (n : ℕ) (b : Bool) → IsHistory editions (each n) (map (λ (m : ℕ × Item). m.1) (cond b (m ∷ mine n) (mine n))) → IsHistory editions (if b then (item_step editions (each n) m.1).after else each n) (items_of n merged)
    beyond n true history = history.1
    beyond n false history = history
