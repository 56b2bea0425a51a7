-- What gates have kept, and the texts that were there, give the accounts of their shards back.
use Rattle.std.proofs.Common.{◌≡◌, ◌⊎◌, inl, inr, ℕ, ◌+◌, ◌<◌, ◌≤◌, ◌==◌, eqb-true, zero, suc, Bool, true, false, cond, List, [], ◌∷◌, ◌++◌, map, filter, length, codes, Option, Some, None, unwrap_or, if◌then◌else◌, refl, sym, ap, ◌∙◌, subst, arith}
use Rattle.std.specs.Prelude.{IfSome}
use Rattle.std.specs.FinMap.{empty}
use Rattle.std.specs.List.{AllByRecursion, flat_map}
use Rattle.std.proofs.Math.Nat.{mod-lt}
use Rattle.jiff.specs.declared.tz.timezone.TimeZone.{TimeZone}
use Rattle.pay_rules.specs.InTurn.{IsIn}
use Rattle.pay_tables.specs.Words.{FareEditions}
use Rattle.pay_wire.specs.Words.{IsSpelled, spelling_of_command}
use Rattle.pay_wire.specs.declared.command.SpelledCommand.{SpelledCommand}
use Rattle.pay_rules.specs.State.{State}
use Rattle.pay_shard.specs.Words.{item_step, is_new, new_items, items_of, IsAskedOf, AreAskedOf}
use Rattle.pay_shard.specs.Machine.{marked_step}
use Rattle.pay_shard.specs.declared.asked.Asked.{Asked}
use Rattle.pay_shard.specs.declared.asked.Asked.TheVariants as asked
use Rattle.pay_shard.specs.declared.item.Item.{Item}
use Rattle.pay_journal.specs.Lines.{line_of_spelled}
use Rattle.pay_session.specs.Words.{line_requests, asks_of}
use Rattle.pay_journal.specs.Words.{spelled_of, lines_of_items, AskedByItsLine}
use Rattle.pay_journal_laws.specs.CommandLines.{lines_of, LinesAreReadBack}
use Rattle.pay_journal_laws.specs.Texts.{requests_in, put_by, Puts, IsWholeOf, AreWholeOf, KeptAsksMore}
use Rattle.pay_journal_laws.specs.GivenBack.{new_of, RepeatsAreOfNew, IsNewIn, NewGivesBack}
use Rattle.pay_session.specs.declared.asks.Asks.{Asks}
use Rattle.pay_session.specs.declared.request.Request.{Request}
use Rattle.pay_session.specs.declared.request.Request.TheVariants as requests
use Rattle.pay_journal_laws.specs.HaveKept.{texts_then, KeepNew, HaveKept, KeptGivesBack}
use Rattle.pay_serve.specs.Keeping.{is_other, of_others}
use Rattle.pay_serve.specs.KeepingGates.{GateParts}

-- ---- what stands in lists

module _ {X : Type 0} where
  pub in_front : (xs ys : List X) (x : X) → IsIn xs x → IsIn (xs ++ ys) x
  in_front [] ys x has = absurd has
  in_front (y ∷ xs) ys x (inl is) = inl is
  in_front (y ∷ xs) ys x (inr later) = inr (in_front xs ys x later)

  pub in_back : (xs ys : List X) (x : X) → IsIn ys x → IsIn (xs ++ ys) x
  in_back [] ys x has = has
  in_back (y ∷ xs) ys x has = inr (in_back xs ys x has)

  pub in_either : (xs ys : List X) (x : X) → IsIn (xs ++ ys) x → IsIn xs x ⊎ IsIn ys x
  in_either [] ys x has = inr has
  in_either (y ∷ xs) ys x (inl is) = inl (inl is)
  in_either (y ∷ xs) ys x (inr later) = elim (in_either xs ys x later) [ inl front ↦ inl (inr front) | inr back ↦ inr back ]

  pub all_in : (P : X → Type 0) (xs : List X) → ((x : X) → IsIn xs x → P x) → AllByRecursion P xs
  all_in P [] each = tt
  all_in P (x ∷ xs) each = (each x (inl refl), all_in P xs (λ y has. each y (inr has)))

  pub one_in : (P : X → Type 0) (xs : List X) (x : X) → AllByRecursion P xs → IsIn xs x → P x
  one_in P [] x all has = absurd has
  one_in P (y ∷ xs) x all (inl is) = subst P is all.0
  one_in P (y ∷ xs) x all (inr later) = one_in P xs x all.1 later

  -- those that pass a test
  pub in_filter : (test : X → Bool) (xs : List X) (x : X) → IsIn (filter test xs) x → IsIn xs x × (test x ≡ true)
  in_filter test [] x has = absurd has
  in_filter test (y ∷ xs) x has = by (test y) refl has (in_filter test xs x)
    where
      by : (b : Bool) → test y ≡ b → IsIn (cond b (y ∷ filter test xs) (filter test xs)) x → (IsIn (filter test xs) x → IsIn xs x × (test x ≡ true)) → IsIn (y ∷ xs) x × (test x ≡ true)
      by true passes (inl is) later = (inl is, subst (λ z. test z ≡ true) is passes)
      by true passes (inr there) later = let it = later there in (inr it.0, it.1)
      by false fails there later = let it = later there in (inr it.0, it.1)

  pub into_filter : (test : X → Bool) (xs : List X) (x : X) → IsIn xs x → test x ≡ true → IsIn (filter test xs) x
  into_filter test [] x has passes = absurd has
  into_filter test (y ∷ xs) x (inl is) passes = by (test y) (ap test is ∙ passes)
    where
      by : (b : Bool) → b ≡ true → IsIn (cond b (y ∷ filter test xs) (filter test xs)) x
      by true e = inl is
      by false e = absurd (cc)
  into_filter test (y ∷ xs) x (inr later) passes = by (test y) (into_filter test xs x later passes)
    where
      by : (b : Bool) → IsIn (filter test xs) x → IsIn (cond b (y ∷ filter test xs) (filter test xs)) x
      by true there = inr there
      by false there = there

module _ {X Y : Type 0} where
  pub in_map : (f : X → Y) (xs : List X) (y : Y) → IsIn (map f xs) y → (x : X) × IsIn xs x × (f x ≡ y)
  in_map f [] y has = absurd has
  in_map f (x ∷ xs) y (inl is) = (x, inl refl, is)
  in_map f (x ∷ xs) y (inr later) = let it = in_map f xs y later in (it.0, inr it.1, it.2)

  pub into_map : (f : X → Y) (xs : List X) (x : X) → IsIn xs x → IsIn (map f xs) (f x)
  into_map f [] x has = absurd has
  into_map f (z ∷ xs) x (inl is) = inl (ap f is)
  into_map f (z ∷ xs) x (inr later) = inr (into_map f xs x later)

  pub in_flat_map : (f : X → List Y) (xs : List X) (y : Y) → IsIn (flat_map f xs) y → (x : X) × IsIn xs x × IsIn (f x) y
  in_flat_map f [] y has = absurd has
  in_flat_map f (x ∷ xs) y has = elim (in_either (f x) (flat_map f xs) y has) [
    | inl here ↦ (x, inl refl, here)
    | inr later ↦ let it = in_flat_map f xs y later in (it.0, inr it.1, it.2)
  ]

  pub into_flat_map : (f : X → List Y) (xs : List X) (x : X) (y : Y) → IsIn xs x → IsIn (f x) y → IsIn (flat_map f xs) y
  into_flat_map f [] x y has there = absurd has
  into_flat_map f (z ∷ xs) x y (inl is) there = in_front (f z) (flat_map f xs) y (subst (λ w. IsIn (f w) y) (sym is) there)
  into_flat_map f (z ∷ xs) x y (inr later) there = in_back (f z) (flat_map f xs) y (into_flat_map f xs x y later there)

-- ---- newly accepted items

-- it has a line
abbrev pub HasLine : Asked → Type 0
HasLine a = (c : SpelledCommand) × (spelled_of a ≡ Some c)

new_has_line : (mark : Bool) (editions : FareEditions) (state : State) (a : Asked) → is_new (marked_step mark editions state a).reply ≡ true → HasLine a
new_has_line true editions state a new = absurd (cc)
new_has_line false editions state (asked.Tap tap) new = (_, refl)
new_has_line false editions state (asked.Fix fix) new = (_, refl)
new_has_line false editions state (asked.Due account day) new = absurd (cc)
new_has_line false editions state (asked.Show account day) new = absurd (cc)
new_has_line false editions state (asked.Quotes day shard of) new = absurd (cc)

-- a newly accepted item is one of the items, and has a line
pub of_new : (editions : FareEditions) (state : State) (items : List Item) (i : Item) → IsIn (new_items editions state items) i → IsIn items i × HasLine i.entry.command
of_new editions state [] i has = absurd has
of_new editions state (item ∷ items) i has =
    by (is_new (item_step editions state item).reply) (new_has_line item.refused_memory editions state item.entry.command) has (of_new editions (item_step editions state item).after items i)
  where
    by : (b : Bool) → (b ≡ true → HasLine item.entry.command)
        → IsIn (if b then item ∷ new_items editions (item_step editions state item).after items else new_items editions (item_step editions state item).after items) i
        → (IsIn (new_items editions (item_step editions state item).after items) i → IsIn items i × HasLine i.entry.command) → IsIn (item ∷ items) i × HasLine i.entry.command
    by true line (inl is) later = (inl is, subst (λ (j : Item). HasLine j.entry.command) is (line refl))
    by true line (inr there) later = let it = later there in (inr it.0, it.1)
    by false line there later = let it = later there in (inr it.0, it.1)

-- what has a line is asked of a shard that there is
pub its_shard : (of shard : ℕ) (a : Asked) → 1 ≤ of → HasLine a → IsAskedOf of shard a → shard < of
its_shard of shard (asked.Tap tap) some line is = subst (λ n. n < of) is (mod-lt tap.account (omega (arith, some)))
its_shard of shard (asked.Fix fix) some line is = subst (λ n. n < of) is (mod-lt fix.account (omega (arith, some)))
its_shard of shard (asked.Due account day) some line is = let none = line.1 in absurd (cc)
its_shard of shard (asked.Show account day) some line is = let none = line.1 in absurd (cc)
its_shard of shard (asked.Quotes day named shards) some line is = let none = line.1 in absurd (cc)

-- ---- their lines

-- lines of items are those of commands, which put them to a desk
record AreRead (zone : TimeZone) (items : List Item) : Type 0 where
  commands : List SpelledCommand
  lines : lines_of_items items ≡ lines_of commands
  spelled : AllByRecursion IsSpelled commands
  each : (i : Item) → IsIn items i → (c : SpelledCommand) × IsIn commands c × Puts zone (requests.Command c) i.entry.command
  back : (c : SpelledCommand) → IsIn commands c → (i : Item) × IsIn items i × Puts zone (requests.Command c) i.entry.command

-- an item is asked for by a line
abbrev IsRead : TimeZone → Item → Type 0
IsRead zone i = HasLine i.entry.command × (c : SpelledCommand) × IsSpelled c × Puts zone (requests.Command c) i.entry.command

its_line : (a : Asked) (o : Option SpelledCommand) (c its : SpelledCommand) → spelled_of a ≡ o → o ≡ Some its → IfSome o (λ x. x ≡ c) → line_of_spelled o ≡ spelling_of_command c ++ codes "\n"
its_line a (Some x) c its e f same = ap (λ d. spelling_of_command d ++ codes "\n") same
its_line a None c its e f same = absurd (cc)

module _ (one : AskedByItsLine) (zone : TimeZone) where
  are_read : (items : List Item) → ((i : Item) → IsIn items i → IsRead zone i) → AreRead zone items
  are_read [] each = record { commands = []; lines = refl; spelled = tt; each = λ i has. absurd has; back = λ c has. absurd has }
  are_read (i ∷ items) each =
      let rest = are_read items (λ j has. each j (inr has)) in
      let it = each i (inl refl) in
      let c : SpelledCommand = it.1 in
      record {
        commands = c ∷ rest.commands;
        lines = (λ k. its_line i.entry.command (spelled_of i.entry.command) c it.0.0 refl it.0.1 (one zone c i.entry.command it.3) k ++ rest.lines k);
        spelled = (it.2, rest.spelled);
        each = of_item rest c it.3;
        back = of_command rest c it.3;
      }
    where
      of_item : (rest : AreRead zone items) (c : SpelledCommand) → Puts zone (requests.Command c) i.entry.command → (j : Item) → IsIn (i ∷ items) j
          → (d : SpelledCommand) × IsIn (c ∷ rest.commands) d × Puts zone (requests.Command d) j.entry.command
      of_item rest c puts j (inl is) = (c, inl refl, subst (λ (x : Item). Puts zone (requests.Command c) x.entry.command) is puts)
      of_item rest c puts j (inr later) = let at = rest.each j later in (at.0, inr at.1, at.2)

      of_command : (rest : AreRead zone items) (c : SpelledCommand) → Puts zone (requests.Command c) i.entry.command → (d : SpelledCommand) → IsIn (c ∷ rest.commands) d
          → (j : Item) × IsIn (i ∷ items) j × Puts zone (requests.Command d) j.entry.command
      of_command rest c puts d (inl is) = (i, inl refl, subst (λ x. Puts zone (requests.Command x) i.entry.command) is puts)
      of_command rest c puts d (inr later) = let at = rest.back d later in (at.0, inr at.1, at.2)

-- ---- what the journals then ask for

module _ (kept_asks : KeptAsksMore) (fares : FareEditions) (merged : List (ℕ × Item)) where
  -- a line that the gate of a shard has kept asks for this
  abbrev IsKeptBy : ℕ → Request → Type 0
  IsKeptBy shard r = IsIn (line_requests (lines_of_items (of_others (new_of fares merged shard)))) r

  -- of one journal, and of those after it
  module _ (bytes : List ℕ) (text : List Request) (kept : List Request) (same : line_requests bytes ≡ text ++ kept) where
    of_journal : (r : Request) → IsIn (line_requests bytes) r → IsIn text r ⊎ IsIn kept r
    of_journal r has = in_either text kept r (subst (λ rs. IsIn rs r) same has)

    to_journal : (r : Request) → IsIn text r ⊎ IsIn kept r → IsIn (line_requests bytes) r
    to_journal r (inl has) = subst (λ rs. IsIn rs r) (sym same) (in_front text kept r has)
    to_journal r (inr has) = subst (λ rs. IsIn rs r) (sym same) (in_back text kept r has)

  nothing_held : (held : Option (List ℕ)) → held ≡ Some [] → IsWholeOf held []
  nothing_held held none = ([], none, refl)

  of_then : (shard : ℕ) (gates : List GateParts) (texts : List (List ℕ)) → AreWholeOf (map (λ (g : GateParts). g.held_first) gates) texts → KeepNew fares merged shard gates
      → (r : Request) → IsIn (requests_in (texts_then gates texts)) r → IsIn (requests_in texts) r ⊎ ((k : ℕ) × IsKeptBy k r)
  of_then shard [] texts whole keep r has = inl has
  of_then shard (g ∷ gates) [] whole keep r has =
      let lines = lines_of_items (of_others (new_of fares merged shard)) in
      let same = kept_asks g.held_first g.holds [] lines (nothing_held g.held_first whole.0) keep.0 in
      elim (in_either (line_requests (unwrap_or g.holds [])) (requests_in (texts_then gates [])) r has) [
        | inl here ↦ elim (of_journal (unwrap_or g.holds []) [] (line_requests lines) same r here) [ inl none ↦ absurd none | inr kept ↦ inr (shard, kept) ]
        | inr later ↦ of_then (shard + 1) gates [] whole.1 keep.1 r later
      ]
  of_then shard (g ∷ gates) (text ∷ texts) whole keep r has =
      let lines = lines_of_items (of_others (new_of fares merged shard)) in
      let same = kept_asks g.held_first g.holds text lines whole.0 keep.0 in
      elim (in_either (line_requests (unwrap_or g.holds [])) (requests_in (texts_then gates texts)) r has) [
        | inl here ↦
            elim (of_journal (unwrap_or g.holds []) (line_requests text) (line_requests lines) same r here) [ inl was ↦ inl (in_front (line_requests text) (requests_in texts) r was) | inr kept ↦ inr (shard, kept) ]
        | inr later ↦ elim (of_then (shard + 1) gates texts whole.1 keep.1 r later) [ inl was ↦ inl (in_back (line_requests text) (requests_in texts) r was) | inr kept ↦ inr kept ]
      ]

  to_then : (shard : ℕ) (gates : List GateParts) (texts : List (List ℕ)) → AreWholeOf (map (λ (g : GateParts). g.held_first) gates) texts → KeepNew fares merged shard gates
      → (r : Request) → IsIn (requests_in texts) r → IsIn (requests_in (texts_then gates texts)) r
  to_then shard [] texts whole keep r has = has
  to_then shard (g ∷ gates) [] whole keep r has = absurd has
  to_then shard (g ∷ gates) (text ∷ texts) whole keep r has =
      let lines = lines_of_items (of_others (new_of fares merged shard)) in
      let same = kept_asks g.held_first g.holds text lines whole.0 keep.0 in
      elim (in_either (line_requests text) (requests_in texts) r has) [
        | inl here ↦ in_front (line_requests (unwrap_or g.holds [])) (requests_in (texts_then gates texts)) r (to_journal (unwrap_or g.holds []) (line_requests text) (line_requests lines) same r (inl here))
        | inr later ↦ in_back (line_requests (unwrap_or g.holds [])) (requests_in (texts_then gates texts)) r (to_then (shard + 1) gates texts whole.1 keep.1 r later)
      ]

  -- the line of a shard
  kept_then : (shard n k : ℕ) (gates : List GateParts) (texts : List (List ℕ)) → AreWholeOf (map (λ (g : GateParts). g.held_first) gates) texts → KeepNew fares merged shard gates
      → n < length gates → k ≡ shard + n → (r : Request) → IsKeptBy k r → IsIn (requests_in (texts_then gates texts)) r
  kept_then shard n k [] texts whole keep less is r has = absurd (omega (arith, less))
  kept_then shard zero k (g ∷ gates) [] whole keep less is r has =
      let lines = lines_of_items (of_others (new_of fares merged shard)) in
      let same = kept_asks g.held_first g.holds [] lines (nothing_held g.held_first whole.0) keep.0 in
      let here : k ≡ shard = omega (arith, is) in
      in_front (line_requests (unwrap_or g.holds [])) (requests_in (texts_then gates [])) r
      (to_journal (unwrap_or g.holds []) [] (line_requests lines) same r (inr (subst (λ j. IsKeptBy j r) here has)))
  kept_then shard zero k (g ∷ gates) (text ∷ texts) whole keep less is r has =
      let lines = lines_of_items (of_others (new_of fares merged shard)) in
      let same = kept_asks g.held_first g.holds text lines whole.0 keep.0 in
      let here : k ≡ shard = omega (arith, is) in
      in_front (line_requests (unwrap_or g.holds [])) (requests_in (texts_then gates texts)) r
      (to_journal (unwrap_or g.holds []) (line_requests text) (line_requests lines) same r (inr (subst (λ j. IsKeptBy j r) here has)))
  kept_then shard (suc n) k (g ∷ gates) [] whole keep less is r has =
      in_back (line_requests (unwrap_or g.holds [])) (requests_in (texts_then gates [])) r (kept_then (shard + 1) n k gates [] whole.1 keep.1 (omega (arith, less)) (omega (arith, is)) r has)
  kept_then shard (suc n) k (g ∷ gates) (text ∷ texts) whole keep less is r has =
      in_back (line_requests (unwrap_or g.holds [])) (requests_in (texts_then gates texts)) r (kept_then (shard + 1) n k gates texts whole.1 keep.1 (omega (arith, less)) (omega (arith, is)) r has)

-- ---- together

-- an item of a shard in a merge was asked of it
pub of_merge : (of shard : ℕ) (merged : List (ℕ × Item)) (i : Item) → AreAskedOf of merged → IsIn (items_of shard merged) i → IsAskedOf of shard i.entry.command
of_merge of shard merged i asked has =
    let at = in_map (λ (m : ℕ × Item). m.1) (filter (λ (m : ℕ × Item). m.0 == shard) merged) i has in
    let there = in_filter (λ (m : ℕ × Item). m.0 == shard) merged at.0 at.1 in
    let m : ℕ × Item = at.0 in
    let its = one_in (λ (x : ℕ × Item). IsAskedOf of x.0 x.1.entry.command) merged m asked there.0 in
    subst (λ n. IsAskedOf of n i.entry.command) (eqb-true m.0 shard there.1) (subst (λ (j : Item). IsAskedOf of m.0 j.entry.command) at.2 its)

-- what a request puts to a desk
put_is : (zone : TimeZone) (r : Request) (a x : Asked) → Puts zone r a → IsIn (put_by (asks_of zone r)) x → a ≡ x
put_is zone r a x puts has = elim (subst (λ (y : Asks). IsIn (put_by y) x) puts has) [ inl is ↦ is | inr none ↦ absurd none ]

put_in : (zone : TimeZone) (r : Request) (a : Asked) → Puts zone r a → IsIn (put_by (asks_of zone r)) a
put_in zone r a puts = subst (λ (y : Asks). IsIn (put_by y) a) (sym puts) (inl refl)

module _ (one : AskedByItsLine) (read : LinesAreReadBack) (more_asked : KeptAsksMore) (repeats : RepeatsAreOfNew) (fares : FareEditions) (zone : TimeZone) (merged : List (ℕ × Item)) (gates : List GateParts) (texts : List (List ℕ))
    (kept : HaveKept fares zone merged gates texts) where
  others_read : (shard : ℕ) → AreRead zone (of_others (new_of fares merged shard))
  others_read shard = are_read one zone (of_others (new_of fares merged shard)) (λ i has.
      let at = in_filter (λ (j : Item). is_other j.entry.lane) (new_of fares merged shard) i has in
      let by = kept.others shard i at.0 at.1 in
      ((of_new fares empty (items_of shard merged) i at.0).1, by.0, by.1, by.2))

  -- the lines that a gate has kept
  lines_read : (shard : ℕ) → line_requests (lines_of_items (of_others (new_of fares merged shard))) ≡ map requests.Command (others_read shard).commands
  lines_read shard = ap line_requests (others_read shard).lines ∙ (read (others_read shard).commands (others_read shard).spelled).0

  -- what a journal then asks for is newly accepted
  pub is_put : (r : Request) → IsIn (requests_in (texts_then gates texts)) r → (a : Asked) × Puts zone r a × IsNewIn fares merged a
  is_put r has = elim (of_then more_asked fares merged 0 gates texts kept.whole kept.kept r has) [
    | inl was ↦
        let it = kept.priced r was in
        (it.0, it.1, (it.2.0, repeats fares (items_of it.2.0 merged) it.0 it.2.1))
    | inr more ↦
        let shard : ℕ = more.0 in
        let at = in_map requests.Command (others_read shard).commands r (subst (λ rs. IsIn rs r) (lines_read shard) more.1) in
        let it = (others_read shard).back at.0 at.1 in
        let i : Item = it.0 in
        let new = in_filter (λ (j : Item). is_other j.entry.lane) (new_of fares merged shard) i it.1 in
        (i.entry.command, subst (λ q. Puts zone q i.entry.command) at.2 it.2, (shard, into_map (λ (j : Item). j.entry.command) (new_of fares merged shard) i new.0))
  ]

  -- and what is newly accepted a journal then asks for
  pub is_asked : (a : Asked) → IsNewIn fares merged a → (r : Request) × IsIn (requests_in (texts_then gates texts)) r × Puts zone r a
  is_asked a new =
      let shard : ℕ = new.0 in
      let at = in_map (λ (j : Item). j.entry.command) (new_of fares merged shard) a new.1 in
      let found = by shard at.0 at.1 (is_other at.0.entry.lane) refl in
      (found.0, found.1, subst (λ x. Puts zone found.0 x) at.2 found.2)
    where
      by : (shard : ℕ) (i : Item) → IsIn (new_of fares merged shard) i → (b : Bool) → is_other i.entry.lane ≡ b → (r : Request) × IsIn (requests_in (texts_then gates texts)) r × Puts zone r i.entry.command
      by shard i has false own =
          let it = kept.spared shard i has own in
          (it.0, to_then more_asked fares merged 0 gates texts kept.whole kept.kept it.0 it.1, it.2)
      by shard i has true other =
          let line = of_new fares empty (items_of shard merged) i has in
          let less = its_shard (length gates) shard i.entry.command kept.some line.1 (of_merge (length gates) shard merged i kept.asked line.0) in
          let it = (others_read shard).each i (into_filter (λ (j : Item). is_other j.entry.lane) (new_of fares merged shard) i has other) in
          let c : SpelledCommand = it.0 in
          let stands = subst (λ rs. IsIn rs (requests.Command c)) (sym (lines_read shard)) (into_map requests.Command (others_read shard).commands c it.1) in
          (requests.Command c, kept_then more_asked fares merged 0 shard shard gates texts kept.whole kept.kept less (omega arith) (requests.Command c) stands, it.2)

pub kept_gives_back : AskedByItsLine → LinesAreReadBack → KeptAsksMore → RepeatsAreOfNew → NewGivesBack → KeptGivesBack
kept_gives_back one read more repeats back fares zone merged gates texts later kept alike =
    let puts = is_put one read more repeats fares zone merged gates texts kept in
    let asks_for = is_asked one read more repeats fares zone merged gates texts kept in
    record {
      lines = all_in (λ (r : Request). (a : Asked) × Puts zone r a) (requests_in later) (λ r has. let it = puts r ((alike r).1 has) in (it.0, it.1));
      back = λ again unmarked same.
          back fares (length gates) merged kept.asked again unmarked (λ a. (
            λ has.
                let at = in_flat_map (λ r. put_by (asks_of zone r)) (requests_in later) a (subst (λ l. IsIn l a) same has) in
                let it = puts at.0 ((alike at.0).1 at.1) in
                subst (IsNewIn fares merged) (put_is zone at.0 it.0 a it.1 at.2) it.2,
            λ new.
                let it = asks_for a new in
                subst (λ l. IsIn l a) (sym same) (into_flat_map (λ r. put_by (asks_of zone r)) (requests_in later) it.0 a ((alike it.0).0 it.1) (put_in zone it.0 a it.2)),
          ));
    }
