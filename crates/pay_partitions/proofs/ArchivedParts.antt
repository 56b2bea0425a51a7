-- The archive of some accounts, in that of all.
use Rattle.std.proofs.Common.{◌≡◌, ℕ, ◌==◌, ◌&&◌, Bool, true, false, if◌then◌else◌, List, [], ◌∷◌, ◌++◌, filter, find, Option, Some, None, Result, Ok, Err, IfOk, refl, sym, ap, ◌∙◌, append-nil}
use Rattle.std.proofs.lemmas.List.Elements.{filter-append}
use Rattle.std.specs.List.{AllByRecursion}
use Rattle.pay_rules.specs.SetsParts.{SetsParts}
use Rattle.pay_rules.specs.declared.tap.Tap.{Tap}
use Rattle.pay_rules.specs.Taps.{same_tap}
use Rattle.pay_rules.specs.declared.fix.Fix.{Fix}
use Rattle.pay_rules.specs.Fixes.{same_fix}
use Rattle.pay_rules.specs.declared.posting.Posting.{Posting}
use Rattle.pay_rules.specs.declared.post_fault.PostFault.{PostFault}
use Rattle.pay_rules.specs.declared.post_fault.PostFault.TheVariants.{ArchiveConflict}
use Rattle.pay_postings.specs.Archive.{archived_beside, archived_each, archived_fix, archived_set, archived_sets, archived_tap, is_fix_numbered_as, is_numbered_as}
use Rattle.pay_postings.specs.Faults.{◌>>=◌}
use Rattle.pay_postings.specs.Ledger.{LedgerParts}
use Rattle.pay_postings.specs.Postings.{post_each}
use Rattle.pay_partitions.specs.Laws.{LedgersArePosted}
use Rattle.pay_partitions.specs.Parts.{IsOfAccount, fixes_in, ledger_in, postings_in, quotes_in, sets_in, taps_in}
use Rattle.pay_partitions.proofs.PostedParts.{apart, parts_posted}

-- ---- one thing more in an archive

-- what has a number is found among its own
found_first : {X : Type 0} (own : X → Bool) (numbered : X → Bool) (x : X) (xs : List X) → find numbered (filter own xs) ≡ find numbered xs → (b c : Bool) → numbered x ≡ c → (b ≡ false → c ≡ false)
    → find numbered (if b then x ∷ filter own xs else filter own xs) ≡ (if numbered x then Some x else find numbered xs)
found_first own numbered x xs rest true c e skip = ap (λ (o : Option _). if numbered x then Some x else o) rest
found_first own numbered x xs rest false c e skip = rest ∙ sym (ap (λ b. if b then Some x else find numbered xs) (e ∙ skip refl))

found_in : {X : Type 0} (own : X → Bool) (numbered : X → Bool) → ((x : X) → own x ≡ false → numbered x ≡ false) → (xs : List X) → find numbered (filter own xs) ≡ find numbered xs
found_in own numbered skip [] = refl
found_in own numbered skip (x ∷ xs) = found_first own numbered x xs (found_in own numbered skip xs) (own x) (numbered x) refl (skip x)

abbrev list_in : {X : Type 0} → (X → Bool) → Result (List X) PostFault → Result (List X) PostFault
list_in own (Ok list) = Ok (filter own list)
list_in own (Err fault) = Err fault

ends_so : {X : Type 0} (own : X → Bool) (list : List X) (x : X) (b : Bool) → own x ≡ b → filter own (list ++ x ∷ []) ≡ filter own list ++ (if b then x ∷ [] else [])
ends_so own list x b e = filter-append own list (x ∷ []) ∙ ap (λ c. filter own list ++ (if c then x ∷ [] else [])) e

there_in : {X : Type 0} (own : X → Bool) (list : List X) (b : Bool) → (if b then Ok (filter own list) else Err ArchiveConflict) ≡ list_in own (if b then Ok list else Err ArchiveConflict)
there_in own list true = refl
there_in own list false = refl

beside_in : {X : Type 0} (own : X → Bool) (same : X → X → Bool) (list : List X) (x : X) → own x ≡ true → (found : Option X) → archived_beside same (filter own list) x found ≡ list_in own (archived_beside same list x found)
beside_in own same list x is None = ap Ok (sym (ends_so own list x true is))
beside_in own same list x is (Some there) = there_in own list (same there x)

there_stays : {X : Type 0} (own : X → Bool) (list : List X) (b : Bool) → IfOk {E = PostFault} (if b then Ok list else Err ArchiveConflict) (λ now. filter own now ≡ filter own list)
there_stays own list true = refl
there_stays own list false = tt

beside_stays : {X : Type 0} (own : X → Bool) (same : X → X → Bool) (list : List X) (x : X) → own x ≡ false → (found : Option X) → IfOk (archived_beside same list x found) (λ now. filter own now ≡ filter own list)
beside_stays own same list x isnt None = ends_so own list x false isnt ∙ append-nil (filter own list)
beside_stays own same list x isnt (Some there) = there_stays own list (same there x)

-- ---- many things more

-- with one that is of these accounts, and with one that is not
abbrev KeepsPart : {X : Type 0} → (X → Bool) → (List X → X → Result (List X) PostFault) → Type 0
KeepsPart own with_one = ((list : _) (x : _) → own x ≡ true → with_one (filter own list) x ≡ list_in own (with_one list x))
    × ((list : _) (x : _) → own x ≡ false → IfOk (with_one list x) (λ now. filter own now ≡ filter own list))

each_then : {X : Type 0} (own : X → Bool) (with_one : List X → X → Result (List X) PostFault) (more : List X) (list : List X) (r : Result (List X) PostFault)
    → ((now : List X) → IfOk (archived_each with_one now more) (λ after. archived_each with_one (filter own now) more ≡ Ok (filter own after)))
    → (s : Result (List X) PostFault) → s ≡ list_in own r → IfOk (r >>= (λ now. archived_each with_one now more)) (λ after. (s >>= (λ now. archived_each with_one now more)) ≡ Ok (filter own after))
each_then own with_one more list (Ok now) rest s e = mapped (archived_each with_one now more) (rest now)
  where
    mapped : (t : Result (List _) PostFault) → IfOk t (λ after. archived_each with_one (filter own now) more ≡ Ok (filter own after)) → IfOk t (λ after. (s >>= (λ now. archived_each with_one now more)) ≡ Ok (filter own after))
    mapped (Ok after) h = ap (λ r. r >>= (λ now. archived_each with_one now more)) e ∙ h
    mapped (Err fault) h = tt
each_then own with_one more list (Err fault) rest s e = tt

each_in : {X : Type 0} (own : X → Bool) (with_one : List X → X → Result (List X) PostFault) → KeepsPart own with_one → (list more : List X) → AllByRecursion (λ x. own x ≡ true) more
    → IfOk (archived_each with_one list more) (λ after. archived_each with_one (filter own list) more ≡ Ok (filter own after))
each_in own with_one keeps list [] all = refl
each_in own with_one keeps list (x ∷ more) all = each_then own with_one more list (with_one list x) (λ now. each_in own with_one keeps now more all.1) (with_one (filter own list) x) (keeps.0 list x all.0)

stays_then : {X : Type 0} (own : X → Bool) (with_one : List X → X → Result (List X) PostFault) (more : List X) (list : List X) (r : Result (List X) PostFault) → IfOk r (λ now. filter own now ≡ filter own list)
    → ((now : List X) → IfOk (archived_each with_one now more) (λ after. filter own after ≡ filter own now)) → IfOk (r >>= (λ now. archived_each with_one now more)) (λ after. filter own after ≡ filter own list)
stays_then own with_one more list (Ok now) first rest = mapped (archived_each with_one now more) (rest now)
  where
    mapped : (t : Result (List _) PostFault) → IfOk t (λ after. filter own after ≡ filter own now) → IfOk t (λ after. filter own after ≡ filter own list)
    mapped (Ok after) h = h ∙ first
    mapped (Err fault) h = tt
stays_then own with_one more list (Err fault) first rest = tt

each_stays : {X : Type 0} (own : X → Bool) (with_one : List X → X → Result (List X) PostFault) → KeepsPart own with_one → (list more : List X) → AllByRecursion (λ x. own x ≡ false) more
    → IfOk (archived_each with_one list more) (λ after. filter own after ≡ filter own list)
each_stays own with_one keeps list [] all = refl
each_stays own with_one keeps list (x ∷ more) all = stays_then own with_one more list (with_one list x) (keeps.1 list x all.0) (λ now. each_stays own with_one keeps now more all.1)

-- ---- taps and corrections

tap_keeps : (own : ℕ → Bool) → KeepsPart (λ (t : Tap). own t.account) archived_tap
tap_keeps own = (
  λ list x is. ap (archived_beside same_tap (taps_in own list) x)
      (found_in (λ (t : Tap). own t.account) (is_numbered_as x) (λ other isnt. ap (λ b. b && other.reader == x.reader && other.seq == x.seq) (apart own x.account other.account is isnt (other.account == x.account) refl)) list)
      ∙ beside_in (λ (t : Tap). own t.account) same_tap list x is (find (is_numbered_as x) list),
  λ list x isnt. beside_stays (λ (t : Tap). own t.account) same_tap list x isnt (find (is_numbered_as x) list),
)

fix_keeps : (own : ℕ → Bool) → KeepsPart (λ (f : Fix). own f.account) archived_fix
fix_keeps own = (
  λ list x is. ap (archived_beside same_fix (fixes_in own list) x)
      (found_in (λ (f : Fix). own f.account) (is_fix_numbered_as x) (λ other isnt. ap (λ b. b && other.staff == x.staff && other.seq == x.seq) (apart own x.account other.account is isnt (other.account == x.account) refl)) list)
      ∙ beside_in (λ (f : Fix). own f.account) same_fix list x is (find (is_fix_numbered_as x) list),
  λ list x isnt. beside_stays (λ (f : Fix). own f.account) same_fix list x isnt (find (is_fix_numbered_as x) list),
)

-- ---- sets

abbrev archive_in : (ℕ → Bool) → List Tap × List Fix → List Tap × List Fix
archive_in own archive = (taps_in own archive.0, fixes_in own archive.1)

own_so : {X : Type 0} (own : ℕ → Bool) (account_of : X → ℕ) (account : ℕ) (b : Bool) → own account ≡ b → (list : List X) → AllByRecursion (λ x. account_of x ≡ account) list → AllByRecursion (λ x. own (account_of x) ≡ b) list
own_so own account_of account b e [] all = tt
own_so own account_of account b e (x ∷ xs) all = (ap own all.0 ∙ e, own_so own account_of account b e xs all.1)

both_in : (own : ℕ → Bool) (taps taps' : Result (List Tap) PostFault) (fixes fixes' : Result (List Fix) PostFault) → IfOk taps (λ t. taps' ≡ Ok (taps_in own t)) → IfOk fixes (λ f. fixes' ≡ Ok (fixes_in own f))
    → IfOk {T = List Tap × List Fix} {E = PostFault} (taps >>= (λ t. fixes >>= (λ f. Ok (t, f)))) (λ it. (taps' >>= (λ t. fixes' >>= (λ f. Ok (t, f)))) ≡ Ok (archive_in own it))
both_in own (Ok t) taps' (Ok f) fixes' h g = ap (λ x. x >>= (λ t. fixes' >>= (λ f. Ok (t, f)))) h ∙ ap (λ x. x >>= (λ f. Ok (taps_in own t, f))) g
both_in own (Ok t) taps' (Err fault) fixes' h g = tt
both_in own (Err fault) taps' fixes fixes' h g = tt

both_stay : (own : ℕ → Bool) (archive : List Tap × List Fix) (taps : Result (List Tap) PostFault) (fixes : Result (List Fix) PostFault) → IfOk taps (λ t. taps_in own t ≡ taps_in own archive.0) → IfOk fixes (λ f. fixes_in own f ≡ fixes_in own archive.1)
    → IfOk (taps >>= (λ t. fixes >>= (λ f. Ok (t, f)))) (λ it. archive_in own it ≡ archive_in own archive)
both_stay own archive (Ok t) (Ok f) h g = ap (λ l. (l, fixes_in own f)) h ∙ ap (λ l. (taps_in own archive.0, l)) g
both_stay own archive (Ok t) (Err fault) h g = tt
both_stay own archive (Err fault) fixes h g = tt

set_in : (own : ℕ → Bool) (archive : List Tap × List Fix) (set : SetsParts) → IsOfAccount set → own set.account ≡ true → IfOk (archived_set archive set) (λ it. archived_set (archive_in own archive) set ≡ Ok (archive_in own it))
set_in own archive set is e = both_in own (archived_each archived_tap archive.0 set.taps) (archived_each archived_tap (taps_in own archive.0) set.taps) (archived_each archived_fix archive.1 set.fixes) (archived_each archived_fix (fixes_in own archive.1) set.fixes)
    (each_in (λ (t : Tap). own t.account) archived_tap (tap_keeps own) archive.0 set.taps (own_so own (λ (t : Tap). t.account) set.account true e set.taps is.taps))
    (each_in (λ (f : Fix). own f.account) archived_fix (fix_keeps own) archive.1 set.fixes (own_so own (λ (f : Fix). f.account) set.account true e set.fixes is.fixes))

set_stays : (own : ℕ → Bool) (archive : List Tap × List Fix) (set : SetsParts) → IsOfAccount set → own set.account ≡ false → IfOk (archived_set archive set) (λ it. archive_in own it ≡ archive_in own archive)
set_stays own archive set is e = both_stay own archive (archived_each archived_tap archive.0 set.taps) (archived_each archived_fix archive.1 set.fixes)
    (each_stays (λ (t : Tap). own t.account) archived_tap (tap_keeps own) archive.0 set.taps (own_so own (λ (t : Tap). t.account) set.account false e set.taps is.taps))
    (each_stays (λ (f : Fix). own f.account) archived_fix (fix_keeps own) archive.1 set.fixes (own_so own (λ (f : Fix). f.account) set.account false e set.fixes is.fixes))

abbrev ComesToPart : (ℕ → Bool) → List Tap × List Fix → List SetsParts → Result (List Tap × List Fix) PostFault → Type 0
ComesToPart own before sets result = IfOk result (λ it. archived_sets before sets ≡ Ok (archive_in own it))

own_first : (own : ℕ → Bool) (archive now : List Tap × List Fix) (set : SetsParts) (sets : List SetsParts) → archived_set (archive_in own archive) set ≡ Ok (archive_in own now) → (rest : Result (List Tap × List Fix) PostFault)
    → ComesToPart own (archive_in own now) (sets_in own sets) rest → ComesToPart own (archive_in own archive) (set ∷ sets_in own sets) rest
own_first own archive now set sets first (Ok it) h = ap (λ x. x >>= (λ now. archived_sets now (sets_in own sets))) first ∙ h
own_first own archive now set sets first (Err fault) h = tt

other_first : (own : ℕ → Bool) (archive now : List Tap × List Fix) (sets : List SetsParts) → archive_in own now ≡ archive_in own archive → (rest : Result (List Tap × List Fix) PostFault)
    → ComesToPart own (archive_in own now) (sets_in own sets) rest → ComesToPart own (archive_in own archive) (sets_in own sets) rest
other_first own archive now sets stays (Ok it) h = ap (λ a. archived_sets a (sets_in own sets)) (sym stays) ∙ h
other_first own archive now sets stays (Err fault) h = tt

first_then : (own : ℕ → Bool) (archive : List Tap × List Fix) (set : SetsParts) (sets : List SetsParts) (b : Bool) (r : Result (List Tap × List Fix) PostFault)
    → (b ≡ true → IfOk r (λ it. archived_set (archive_in own archive) set ≡ Ok (archive_in own it))) → (b ≡ false → IfOk r (λ it. archive_in own it ≡ archive_in own archive))
    → ((now : List Tap × List Fix) → ComesToPart own (archive_in own now) (sets_in own sets) (archived_sets now sets))
    → ComesToPart own (archive_in own archive) (if b then set ∷ sets_in own sets else sets_in own sets) (r >>= (λ now. archived_sets now sets))
first_then own archive set sets true (Ok now) first stays more = own_first own archive now set sets (first refl) (archived_sets now sets) (more now)
first_then own archive set sets false (Ok now) first stays more = other_first own archive now sets (stays refl) (archived_sets now sets) (more now)
first_then own archive set sets b (Err fault) first stays more = tt

sets_archived : (own : ℕ → Bool) (archive : List Tap × List Fix) (sets : List SetsParts) → AllByRecursion IsOfAccount sets → ComesToPart own (archive_in own archive) (sets_in own sets) (archived_sets archive sets)
sets_archived own archive [] all = refl
sets_archived own archive (set ∷ sets) all =
    first_then own archive set sets (own set.account) (archived_set archive set) (λ e. set_in own archive set all.0 e) (λ e. set_stays own archive set all.0 e) (λ now. sets_archived own now sets all.1)

-- ---- ledgers

abbrev ledger_of : List Posting × List Posting → List Tap × List Fix → Result (List Posting × LedgerParts) PostFault
ledger_of given archive = Ok (given.0, record { postings = given.1; taps = archive.0; fixes = archive.1 })

whole : (own : ℕ → Bool) (given given' : Result (List Posting × List Posting) PostFault) (archive archive' : Result (List Tap × List Fix) PostFault)
    → IfOk given (λ it. given' ≡ Ok (postings_in own it.0, postings_in own it.1)) → IfOk archive (λ it. archive' ≡ Ok (archive_in own it))
    → IfOk (given >>= (λ g. archive >>= (λ a. ledger_of g a))) (λ it. (given' >>= (λ g. archive' >>= (λ a. ledger_of g a))) ≡ Ok (postings_in own it.0, ledger_in own it.1))
whole own (Ok g) given' (Ok a) archive' h k = ap (λ x. x >>= (λ g. archive' >>= (λ a. ledger_of g a))) h ∙ ap (λ x. x >>= (λ a. ledger_of (postings_in own g.0, postings_in own g.1) a)) k
whole own (Ok g) given' (Err fault) archive' h k = tt
whole own (Err fault) given' archive archive' h k = tt

pub ledgers_posted : LedgersArePosted
ledgers_posted own ledger quotes sets all =
    whole own (post_each ledger.postings quotes) (post_each (postings_in own ledger.postings) (quotes_in own quotes)) (archived_sets (ledger.taps, ledger.fixes) sets) (archived_sets (archive_in own (ledger.taps, ledger.fixes)) (sets_in own sets))
    (parts_posted own ledger.postings quotes) (sets_archived own (ledger.taps, ledger.fixes) sets all)
