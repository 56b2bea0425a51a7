-- The requests about an account, in the logs of partitions.
use Rattle.std.proofs.Common.{◌≡◌, ◌≢◌, ◌<◌, ◌≤◌, ◌⊎◌, inl, inr, ℕ, ◌%◌, zero, suc, Bool, true, false, if◌then◌else◌, List, [], ◌∷◌, ◌++◌, filter, Option, Some, None, append-nil, refl, sym, ap, ◌∙◌, subst, arith}
use Rattle.std.proofs.lemmas.Bool.{true≢false, eqb-true, eq-eqb}
use Rattle.std.proofs.lemmas.List.Elements.{filter-append}
use Rattle.std.proofs.Math.Nat.{eq-or-lt_of_le, mod-lt}
use Rattle.std.specs.List.{AllByRecursion}
use Rattle.pay_rules.specs.State.{accepted_of}
use Rattle.pay_wire.specs.declared.command.SpelledCommand.TheVariants as command
use Rattle.pay_session.specs.declared.request.Request.{Request}
use Rattle.pay_session.specs.declared.request.Request.TheVariants as request
use Rattle.pay_run.specs.Words.{Machine, OwnAlone, is_about, outcome}
use Rattle.pay_run.specs.OwnRequests.{names}
use Rattle.pay_partitions.specs.Laws.{ComeToTheSame, MovedAreOne, MovesAreTheSame, PartitionsAreOne}
use Rattle.pay_partitions.specs.Partitions.{AreOwn, has_named, log_of, moved, moved_below, partition_of, stands_in}

-- ---- what is about an account stands in its partition

named_there : (of account : ℕ) (o : Option ℕ) → names account o ≡ true → has_named of (partition_of of account) o ≡ true
named_there of account (Some other) e = eq-eqb (other % of) (account % of) (ap (λ k. k % of) (eqb-true other account e))
named_there of account None e = absurd (true≢false (sym e))

about_stands : (of account : ℕ) (r : Request) → is_about account r ≡ true → stands_in of (partition_of of account) r ≡ true
about_stands of account (request.Command (command.Tap line)) e = named_there of account (Some line.account) e
about_stands of account (request.Command (command.Fix line)) e = named_there of account (Some line.account) e
about_stands of account (request.Command (command.Due other day)) e = named_there of account (Some other) e
about_stands of account (request.Command (command.Show other day)) e = named_there of account (Some other) e
about_stands of account (request.Command (command.Close day)) e = refl
about_stands of account (request.Command command.Quit) e = absurd (true≢false (sym e))
about_stands of account request.BadLine e = absurd (true≢false (sym e))
about_stands of account request.LongLine e = absurd (true≢false (sym e))

-- and in no other, but for a close
named_nowhere_else : (of partition account : ℕ) (o : Option ℕ) → has_named of partition o ≡ true → names account o ≡ true → partition_of of account ≡ partition
named_nowhere_else of partition account (Some other) h e = ap (λ k. k % of) (sym (eqb-true other account e)) ∙ eqb-true (other % of) partition h
named_nowhere_else of partition account None h e = absurd (true≢false (sym e))

about_nowhere_else : (of partition account : ℕ) (r : Request) → stands_in of partition r ≡ true → is_about account r ≡ true → partition_of of account ≡ partition
about_nowhere_else of partition account (request.Command (command.Tap line)) h e = named_nowhere_else of partition account (Some line.account) h e
about_nowhere_else of partition account (request.Command (command.Fix line)) h e = named_nowhere_else of partition account (Some line.account) h e
about_nowhere_else of partition account (request.Command (command.Due other day)) h e = named_nowhere_else of partition account (Some other) h e
about_nowhere_else of partition account (request.Command (command.Show other day)) h e = named_nowhere_else of partition account (Some other) h e
about_nowhere_else of partition account (request.Command (command.Close day)) h e = absurd (true≢false (sym e))
about_nowhere_else of partition account (request.Command command.Quit) h e = absurd (true≢false (sym e))
about_nowhere_else of partition account request.BadLine h e = absurd (true≢false (sym e))
about_nowhere_else of partition account request.LongLine h e = absurd (true≢false (sym e))

-- ---- filters

kept : (p q : Request → Bool) (x : Request) (xs : List Request) → (p x ≡ true → q x ≡ true) → filter p (filter q xs) ≡ filter p xs → (b c : Bool) → q x ≡ b → p x ≡ c
    → filter p (if q x then x ∷ filter q xs else filter q xs) ≡ (if p x then x ∷ filter p xs else filter p xs)
kept p q x xs w rest true c e f = ap (λ b. filter p (if b then x ∷ filter q xs else filter q xs)) e ∙ ap (λ l. if p x then x ∷ l else l) rest
kept p q x xs w rest false true e f = absurd (true≢false (sym (w f) ∙ e))
kept p q x xs w rest false false e f = ap (λ b. filter p (if b then x ∷ filter q xs else filter q xs)) e ∙ rest ∙ sym (ap (λ b. if b then x ∷ filter p xs else filter p xs) f)

filter_within : (p q : Request → Bool) → ((r : Request) → p r ≡ true → q r ≡ true) → (list : List Request) → filter p (filter q list) ≡ filter p list
filter_within p q w [] = refl
filter_within p q w (x ∷ xs) = kept p q x xs (w x) (filter_within p q w xs) (q x) (p x) refl refl

filter_none : (p : Request → Bool) (Holds : Request → Type 0) → ((r : Request) → Holds r → p r ≡ false) → (list : List Request) → AllByRecursion Holds list → filter p list ≡ []
filter_none p Holds n [] all = refl
filter_none p Holds n (x ∷ xs) all = ap (λ b. if b then x ∷ filter p xs else filter p xs) (n x all.0) ∙ filter_none p Holds n xs all.1

-- ---- logs

own_of_log : (of account : ℕ) (list : List Request) → filter (is_about account) (log_of of (partition_of of account) list) ≡ filter (is_about account) list
own_of_log of account list = filter_within (is_about account) (stands_in of (partition_of of account)) (about_stands of account) list

false_unless : (b : Bool) → (b ≡ true → ⊥) → b ≡ false
false_unless true n = absurd (n refl)
false_unless false n = refl

none_elsewhere : (before account p : ℕ) (list : List Request) → AreOwn before p list → partition_of before account ≢ p → filter (is_about account) list ≡ []
none_elsewhere before account p list own other = filter_none (is_about account) (λ r. stands_in before p r ≡ true) (λ r h. false_unless (is_about account r) (λ e. other (about_nowhere_else before p account r h e))) list own

-- a log has what stands in it alone
own_first : (before p : ℕ) (x : Request) (xs : List Request) → AreOwn before p (log_of before p xs) → (b : Bool) → stands_in before p x ≡ b → AreOwn before p (if stands_in before p x then x ∷ log_of before p xs else log_of before p xs)
own_first before p x xs own true e = subst (λ b. AreOwn before p (if b then x ∷ log_of before p xs else log_of before p xs)) (sym e) (e, own)
own_first before p x xs own false e = subst (λ b. AreOwn before p (if b then x ∷ log_of before p xs else log_of before p xs)) (sym e) own

log_is_own : (before p : ℕ) (list : List Request) → AreOwn before p (log_of before p list)
log_is_own before p [] = tt
log_is_own before p (x ∷ xs) = own_first before p x xs (log_is_own before p xs) (stands_in before p x) refl

-- what the logs below a number bring to a new one
brought : (of account : ℕ) (logs : ℕ → List Request) (p : ℕ) → filter (is_about account) (moved_below (suc p) logs of (partition_of of account)) ≡ filter (is_about account) (moved_below p logs of (partition_of of account)) ++ filter (is_about account) (logs p)
brought of account logs p = filter-append (is_about account) (moved_below p logs of (partition_of of account)) (log_of of (partition_of of account) (logs p))
    ∙ ap (λ l. filter (is_about account) (moved_below p logs of (partition_of of account)) ++ l) (own_of_log of account (logs p))

none_below : (before of account : ℕ) (logs : ℕ → List Request) → ((p : ℕ) → p < before → AreOwn before p (logs p)) → (k : ℕ) → k ≤ before → k ≤ partition_of before account
    → filter (is_about account) (moved_below k logs of (partition_of of account)) ≡ []
none_below before of account logs own zero few most = refl
none_below before of account logs own (suc k) few most = brought of account logs k
    ∙ ap (λ l. l ++ filter (is_about account) (logs k)) (none_below before of account logs own k (omega (arith, few)) (omega (arith, most)))
    ∙ none_elsewhere before account k (logs k) (own k (omega (arith, few))) (λ e. absurd (omega (arith, most, e)))

-- of the next log, whether it is the account's or comes after it
next_log : (about : Request → Bool) (home k : ℕ) (logs : ℕ → List Request) (moved : List Request) → (home ≡ k → filter about moved ≡ []) → (home < k → filter about moved ≡ filter about (logs home)) → (home < k → filter about (logs k) ≡ [])
    → (home ≡ k) ⊎ (home < k) → filter about moved ++ filter about (logs k) ≡ filter about (logs home)
next_log about home k logs moved at after none (inl e) = ap (λ l. l ++ filter about (logs k)) (at e) ∙ ap (λ p. filter about (logs p)) (sym e)
next_log about home k logs moved at after none (inr low) = ap (λ l. l ++ filter about (logs k)) (after low) ∙ ap (λ l. filter about (logs home) ++ l) (none low) ∙ append-nil (filter about (logs home))

all_below : (before of account : ℕ) (logs : ℕ → List Request) → ((p : ℕ) → p < before → AreOwn before p (logs p)) → (k : ℕ) → k ≤ before → partition_of before account < k
    → filter (is_about account) (moved_below k logs of (partition_of of account)) ≡ filter (is_about account) (logs (partition_of before account))
all_below before of account logs own zero few least = absurd (omega (arith, least))
all_below before of account logs own (suc k) few least = brought of account logs k
    ∙ next_log (is_about account) (partition_of before account) k logs (moved_below k logs of (partition_of of account))
    (λ e. none_below before of account logs own k (omega (arith, few)) (omega (arith, e)))
    (λ low. all_below before of account logs own k (omega (arith, few)) low)
    (λ low. none_elsewhere before account k (logs k) (own k (omega (arith, few))) (λ e. absurd (omega (arith, low, e))))
    (eq-or-lt_of_le (omega (arith, least)))

-- ---- laws

alike : OwnAlone → (m : Machine) (account : ℕ) (some others : List Request) → filter (is_about account) some ≡ filter (is_about account) others → ComeToTheSame m account some others
alike own m account some others e = (
  (own m account some).0 ∙ ap (λ l. (outcome [] m l).replies) e ∙ sym (own m account others).0,
  (own m account some).1 ∙ ap (λ l. accepted_of (outcome [] m l).after.accounts account) e ∙ sym (own m account others).1,
)

pub one : OwnAlone → PartitionsAreOne
one own m of account list = alike own m account (log_of of (partition_of of account) list) list (own_of_log of account list)

pub same_moved : OwnAlone → MovesAreTheSame
same_moved own m before of account logs some are_own = alike own m account (moved before logs of (partition_of of account)) (logs (partition_of before account)) (all_below before of account logs are_own before (omega arith) (mod-lt account (omega (arith, some))))

pub one_moved : OwnAlone → MovedAreOne
one_moved own m before of account list some = alike own m account (moved before (λ p. log_of before p list) of (partition_of of account)) list
    (all_below before of account (λ p. log_of before p list) (λ p low. log_is_own before p list) before (omega arith) (mod-lt account (omega (arith, some))) ∙ own_of_log before account list)
