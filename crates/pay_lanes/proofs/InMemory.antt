-- What a worker's shard has in memory.
use Rattle.std.proofs.Common.{◌≡◌, Bool, true, false, List, [], ◌∷◌, ◌++◌, All, length, sym, ap, ◌∙◌, subst, arith}
use Rattle.std.proofs.lemmas.List.Elements.{All-push}
use Rattle.pay_shard.specs.Words.{ShardParts, JournalMemory, JournalParts, IsKeptBy}

pub new_kept : (forgets : Bool) (s : ShardParts) → s.journal ≡ [] → s.memory ≡ record { forgotten = 0; room = 0 } → IsKeptBy forgets s
new_kept false s none new = ap (λ (m : JournalMemory). m.forgotten) new
new_kept true s none new =
    let many = ap length none in
    let room = ap (λ (m : JournalMemory). m.room) new in
    omega arith

pub whole_of : (forgets : Bool) (s : ShardParts) (memory : JournalMemory) → memory ≡ s.memory → IsKeptBy forgets s → forgets ≡ false → memory.forgotten ≡ 0
whole_of false s memory same is keeps = ap (λ (m : JournalMemory). m.forgotten) same ∙ is
whole_of true s memory same is keeps = cc

pub whole_more : (journals after : List JournalParts) (journal : JournalParts) → after ≡ journals ++ journal ∷ [] → journal.memory.forgotten ≡ 0 → All (λ (j : JournalParts). j.memory.forgotten ≡ 0) journals
    → All (λ (j : JournalParts). j.memory.forgotten ≡ 0) after
whole_more journals after journal more whole all = subst (All (λ (j : JournalParts). j.memory.forgotten ≡ 0)) (sym more) (All-push (λ (j : JournalParts). j.memory.forgotten ≡ 0) journals journal all whole)
