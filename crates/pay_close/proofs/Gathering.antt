-- What was asked of the shards, and put in order.
use Rattle.std.proofs.Common.{◌≡◌, ℕ, ◌+◌, suc, ◌≤◌, List, [], ◌∷◌, ◌++◌, length, Option, Some, None, IfSome, Result, Ok, Err, refl, sym, ap, ◌∙◌, subst, arith, append_assoc, append-nil}
use Rattle.std.specs.List.{AllByRecursion}
use Rattle.pay_shard.specs.Words.{NothingIsLost, BatchParts, Standing, DeskParts}
use Rattle.pay_shard.specs.declared.asked.Asked.{Asked}
use Rattle.pay_shard.specs.declared.desk.DeskFault.{DeskFault}
use Rattle.pay_shard.specs.declared.reply.Answer.{Answer}
use Rattle.pay_till.specs.Words.{Taken, commands_of, IsAnswerTo, AreAnswered, AreQuotes, MaySometimeRefuse, MaySometimeBeLate}
use Rattle.pay_close.specs.Batches.{no_batch, both, batch_of_answer, brought, gathered}
use Rattle.pay_close.specs.Faults.{no_memory}
use Rattle.pay_close.specs.Gathers.{IsTold, IsAsked}
use Rattle.pay_close.specs.declared.fault.NotClosed.{NotClosed}

-- ---- lists of what was put

pub commands_both : (ts us : List Taken) → commands_of (ts ++ us) ≡ commands_of ts ++ commands_of us
commands_both [] us = refl
commands_both (t ∷ ts) us = ap (λ (l : List (ℕ × Asked)). (t.ticket, t.asked) ∷ l) (commands_both ts us)

pub all_both : {X : Type 0} (P : X → Type 0) (xs ys : List X) → AllByRecursion P xs → AllByRecursion P ys → AllByRecursion P (xs ++ ys)
all_both P [] ys f g = g
all_both P (x ∷ xs) ys f g = (f.0, all_both P xs ys f.1 g)

one_kept : (old new : ℕ → Option Answer) (t : Taken) (o : Option Answer) → NothingIsLost old new → IfSome o (IsAnswerTo old t) → IfSome o (IsAnswerTo new t)
one_kept old new t None kept f = tt
one_kept old new t (Some answer) kept f = (kept t.ticket answer f.0, f.1, f.2)

pub answered_kept : (old new : ℕ → Option Answer) (ts : List Taken) → NothingIsLost old new → AreAnswered old ts → AreAnswered new ts
answered_kept old new [] kept f = tt
answered_kept old new (t ∷ ts) kept f = (one_kept old new t t.answer kept f.0, answered_kept old new ts kept f.1)

pub quotes_both : (day of from next : ℕ) (ts us : List Taken) → next ≡ from + length ts → AreQuotes day of from ts → AreQuotes day of next us → AreQuotes day of from (ts ++ us)
quotes_both day of from next [] us e f g = let same : next ≡ from = omega arith in subst (λ (n : ℕ). AreQuotes day of n us) same g
quotes_both day of from next (t ∷ ts) us e f g = (f.0, f.1, quotes_both day of (suc from) next ts us (omega arith) f.2 g)

pub brought_both : (ts us : List Taken) → brought (ts ++ us) ≡ both (brought ts) (brought us)
brought_both [] us = refl
brought_both (t ∷ ts) us =
    let its = batch_of_answer t.answer in
    ap (both its) (brought_both ts us)
    ∙ (λ i. record { quotes = sym (append_assoc its.quotes (brought ts).quotes (brought us).quotes) i; sets = sym (append_assoc its.sets (brought ts).sets (brought us).sets) i })

pub alone : (b : BatchParts) → b ≡ both b no_batch
alone b = λ i. record { quotes = sym (append-nil b.quotes) i; sets = sym (append-nil b.sets) i }

-- ---- in order

module _ (Refuses : DeskFault → Type 0) (Late : Type 0) where
  abbrev Told : ℕ → List Taken → Result BatchParts NotClosed → Type 0
  Told count put result = IsTold Refuses Late count brought put result

  abbrev Gathered : ℕ → List Taken → Result BatchParts NotClosed → Type 0
  Gathered count put result = IsTold Refuses Late count gathered put result

  pub wanting_then : (of : ℕ) (all : BatchParts) (fault : NotClosed) → 1 ≤ of → fault ≡ no_memory → (put : List Taken) → Told of put (Ok all) → Gathered of put (Err fault)
  wanting_then of all fault some e put f = subst (λ (w : NotClosed). Gathered of put (Err w)) (sym e) (
    refl,
    f.0,
    (let many : length put ≡ of = f.0.0 in omega arith),
  )

  -- ---- what is asked

  pub weaker : (AreAsked : List Taken → Type 0) (before after : List (ℕ × Asked)) (transcript : ℕ → Option Answer) (P Q : List Taken → Type 0) → ((put : List Taken) → P put → Q put)
      → IsAsked Refuses Late AreAsked before after transcript P → IsAsked Refuses Late AreAsked before after transcript Q
  weaker AreAsked before after transcript P Q h f = record { put = f.put; quotes = f.quotes; in_time = f.in_time; added = f.added; answered = f.answered; told = h f.put f.told }

module _ {D O : Type 0} (parts : D → DeskParts O) where
  -- ---- of a desk that stood so

  abbrev AskedOf : Standing O → (List Taken → BatchParts) → (day of from count : ℕ) → List (ℕ × Asked) → List (ℕ × Asked) → (ℕ → Option Answer) → Result BatchParts NotClosed → Type 0
  AskedOf s made day of from count before after transcript result =
      IsAsked (MaySometimeRefuse parts s) (MaySometimeBeLate parts s) (AreQuotes day of from) before after transcript
      (λ put. IsTold (MaySometimeRefuse parts s) (MaySometimeBeLate parts s) count made put result)

  pub sorted_want : (s : Standing O) (day : ℕ) (before after : List (ℕ × Asked)) (transcript : ℕ → Option Answer) (all : BatchParts) (fault : NotClosed) (result : Result BatchParts NotClosed) → result ≡ Err fault → fault ≡ no_memory → 1 ≤ s.shards
      → AskedOf s brought day s.shards 0 s.shards before after transcript (Ok all) → AskedOf s gathered day s.shards 0 s.shards before after transcript result
  sorted_want s day before after transcript all fault result is e some f =
      subst (λ (r : Result BatchParts NotClosed). AskedOf s gathered day s.shards 0 s.shards before after transcript r) (sym is)
      (weaker _ _ _ before after transcript _ _ (wanting_then _ _ s.shards all fault some e) f)
