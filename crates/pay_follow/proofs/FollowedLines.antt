-- What follows of one line after another.
use Rattle.std.proofs.Common.{◌≡◌, ℕ, ◌+◌, suc, false, List, [], ◌∷◌, ◌++◌, length, length-append, map, append_assoc, append-nil, refl, sym, ap, ◌∙◌, subst, arith, Option, None}
use Rattle.std.proofs.lemmas.List.{map-append}
use Rattle.jiff.specs.declared.tz.timezone.TimeZone.{TimeZone}
use Rattle.sqlite.specs.Held.{Held, state}
use Rattle.sqlite.specs.State.{HasCleanDisk}
use Rattle.sqlite.specs.Store.{Ghosts}
use Rattle.pay_wire.specs.Words.{spelling_of_reply}
use Rattle.pay_wire.specs.declared.reply.SpelledReply.{SpelledReply}
use Rattle.pay_session.specs.Words.{request_of}
use Rattle.pay_session.specs.declared.request.Request.{Request}
use Rattle.pay_run.specs.Words.{Machine, Failure, outcome, machine_on, step, tells_failure, AnswersLine}
use Rattle.pay_follow.specs.Partitions.{PartitionParts, read_on, publish, AreLines}
use Rattle.pay_follow.specs.declared.stop.Stop.{Stop}
use Rattle.pay_follow.specs.declared.stop.Stop.TheVariants.{Read, Unanswered, Memory, Unpublished, NoMorePlaces}
use Rattle.pay_follow.specs.Following.{outcome_of, under, HasFollowed, IsOwed, IsStoppedAt, IfUnpublished, Replica, replica, Follows}

-- ---- one list of lines after another

lines_both : (HasLine : ℕ → List ℕ → Type 0) (place : ℕ) (xs ys : List (List ℕ)) → AreLines HasLine place xs → AreLines HasLine (place + length xs) ys → AreLines HasLine place (xs ++ ys)
lines_both HasLine place [] ys f g = subst (λ p. AreLines HasLine p ys) (omega arith) g
lines_both HasLine place (x ∷ xs) ys f g = (f.0, lines_both HasLine (suc place) xs ys f.1 (subst (λ p. AreLines HasLine p ys) (omega arith) g))

pub replies_both : (m : Machine) (xs ys : List Request) → (outcome [] m (xs ++ ys)).replies ≡ (outcome [] m xs).replies ++ (outcome [] (outcome [] m xs).after ys).replies
replies_both m [] ys = refl
replies_both m (x ∷ xs) ys = ap (λ l. (step None m x).reply ∷ l) (replies_both (step None m x).after xs ys)

after_both : (m : Machine) (xs ys : List Request) → (outcome [] m (xs ++ ys)).after ≡ (outcome [] (outcome [] m xs).after ys).after
after_both m [] ys = refl
after_both m (x ∷ xs) ys = after_both (step None m x).after xs ys

as_many : (m : Machine) (xs : List Request) → length (outcome [] m xs).replies ≡ length xs
as_many m [] = refl
as_many m (x ∷ xs) = ap suc (as_many (step None m x).after xs)

pub under_both : (place : ℕ) (xs ys : List SpelledReply) → under place (xs ++ ys) ≡ under place xs ++ under (place + length xs) ys
under_both place [] ys = ap (λ p. under p ys) (omega arith)
under_both place (x ∷ xs) ys = ap (λ l. (place, spelling_of_reply x) ∷ l) (under_both (suc place) xs ys ∙ ap (λ p. under (suc place) xs ++ under p ys) (omega arith))

map_length : (lines : List (List ℕ)) → length (map request_of lines) ≡ length lines
map_length [] = refl
map_length (x ∷ xs) = ap suc (map_length xs)

pub followed_both : (HasLine : ℕ → List ℕ → Type 0) (a b c : PartitionParts) (m n o : Machine) → HasFollowed HasLine a b m n → HasFollowed HasLine b c n o → HasFollowed HasLine a c m o
followed_both HasLine a b c m n o f g =
    let all : map request_of (f.lines ++ g.lines) ≡ map request_of f.lines ++ map request_of g.lines = map-append request_of f.lines g.lines in
    let later : (outcome_of m (f.lines ++ g.lines)).replies ≡ (outcome_of m f.lines).replies ++ (outcome_of n g.lines).replies =
    ap (λ l. (outcome [] m l).replies) all ∙ replies_both m (map request_of f.lines) (map request_of g.lines) ∙ ap (λ x. (outcome_of m f.lines).replies ++ (outcome_of x g.lines).replies) (sym f.machine) in
    let many : length (outcome_of m f.lines).replies ≡ length f.lines = as_many m (map request_of f.lines) ∙ map_length f.lines in
    let place : suc a.last + length f.lines ≡ suc b.last = omega (arith, f.read) in
    record {
      lines = f.lines ++ g.lines;
      are_lines = lines_both HasLine (suc a.last) f.lines g.lines f.are_lines (subst (λ p. AreLines HasLine p g.lines) (sym place) g.are_lines);
      read = omega (arith, g.read, f.read, length-append f.lines g.lines);
      published = g.published ∙ ap (λ l. l ++ under (suc b.last) (outcome_of n g.lines).replies) f.published
          ∙ append_assoc a.published (under (suc a.last) (outcome_of m f.lines).replies) (under (suc b.last) (outcome_of n g.lines).replies)
          ∙ ap (λ p. a.published ++ (under (suc a.last) (outcome_of m f.lines).replies ++ under p (outcome_of n g.lines).replies)) (sym place ∙ ap (λ k. suc a.last + k) (sym many))
          ∙ ap (λ l. a.published ++ l) (sym (under_both (suc a.last) (outcome_of m f.lines).replies (outcome_of n g.lines).replies))
          ∙ ap (λ l. a.published ++ under (suc a.last) l) (sym later);
      machine = g.machine ∙ ap (λ x. (outcome_of x g.lines).after) f.machine ∙ sym (after_both m (map request_of f.lines) (map request_of g.lines)) ∙ ap (λ l. (outcome [] m l).after) (sym all);
    }

-- ---- no line, and one

pub follows_none : {S : Type 0} (store : Ghosts S) (HasLine : ℕ → List ℕ → Type 0) (zone : TimeZone) (r : Replica (Held S)) → Follows store HasLine zone r r
follows_none store HasLine zone r clean ledger has = (ledger, has, record { lines = []; are_lines = tt; read = omega arith; published = sym (append-nil r.partition.published); machine = refl })

pub follows_then : {S : Type 0} (store : Ghosts S) (HasLine : ℕ → List ℕ → Type 0) (zone : TimeZone) (a b c : Replica (Held S)) → (HasCleanDisk (state store c.ledger) → HasCleanDisk (state store b.ledger))
    → Follows store HasLine zone a b → Follows store HasLine zone b c → Follows store HasLine zone a c
follows_then store HasLine zone a b c was f g clean ledger has =
    let first = f (was clean) ledger has in
    let later = g clean first.0 first.1 in
    (later.0, later.1, followed_both HasLine a.partition b.partition c.partition _ _ _ first.2 later.2)

-- a line that was read, answered as the machine does, and whose reply was published
pub follows_one : {S : Type 0} (store : Ghosts S) (HasLine : ℕ → List ℕ → Type 0) (zone : TimeZone) (before after : Replica (Held S)) (line text : List ℕ) (reply : SpelledReply) → HasLine (suc before.partition.last) line
    → AnswersLine store zone (before.shard, before.ledger) (after.shard, after.ledger) line reply → tells_failure reply ≡ false → text ≡ spelling_of_reply reply
    → after.partition ≡ publish (read_on before.partition) text → Follows store HasLine zone before after
follows_one store HasLine zone before after line text reply is answers ample spelled parts clean ledger has =
    let a = answers clean ledger has in
    let m = machine_on zone before.shard ledger in
    let stepped : step None m (request_of line) ≡ record { reply = reply; after = machine_on zone after.shard a.ledger } = ap (λ (k : Option Failure). step k m (request_of line)) (sym (a.ample ample)) ∙ a.step in (
      a.ledger,
      a.has,
      record {
        lines = line ∷ [];
        are_lines = (is, tt);
        read = ap (λ (p : PartitionParts). p.last) parts ∙ omega arith;
        published = ap (λ (p : PartitionParts). p.published) parts ∙ ap (λ t. before.partition.published ++ (suc before.partition.last, t) ∷ []) (spelled ∙ ap (λ s. spelling_of_reply s.reply) (sym stepped));
        machine = ap (λ s. s.after) (sym stepped);
      },
    )

-- ---- a reply that is owed

-- of the line after those that were followed
pub owed_next : {S : Type 0} (store : Ghosts S) (HasLine : ℕ → List ℕ → Type 0) (zone : TimeZone) (before now after : Replica (Held S)) (stop : Stop) (reply : List ℕ)
    → (HasCleanDisk (state store after.ledger) → HasCleanDisk (state store now.ledger)) → Follows store HasLine zone before now
    → (more : List (ℕ × List ℕ)) × (now.partition.published ≡ before.partition.published ++ more) → IsStoppedAt stop now.partition after.partition
    → IfUnpublished stop (Follows store HasLine zone now (replica after.shard after.ledger (publish (read_on now.partition) reply))) → IfUnpublished stop (IsOwed store HasLine zone before after reply)
owed_next store HasLine zone before now after (Read fault) reply clean f grew at owed = tt
owed_next store HasLine zone before now after (Unanswered why) reply clean f grew at owed = tt
owed_next store HasLine zone before now after Memory reply clean f grew at owed = tt
owed_next store HasLine zone before now after (Unpublished fault) reply clean f grew at owed =
    let p = now.partition in
    record {
      was = p.last;
      next = at;
      more = grew.0;
      follows = subst (λ l. Follows store HasLine zone before (replica after.shard after.ledger (record { last = suc p.last; published = l ++ (suc p.last, reply) ∷ [] }))) grew.1
          (follows_then store HasLine zone before now (replica after.shard after.ledger (publish (read_on p) reply)) clean f owed);
    }
owed_next store HasLine zone before now after NoMorePlaces reply clean f grew at owed = tt
