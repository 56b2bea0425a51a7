-- What a desk that keeps lines is after a command, and after a reply.
use Rattle.std.proofs.Common.{◌≡◌, ◌⊎◌, inl, inr, ℕ, ◌<◌, ◌==◌, Bool, true, false, not, cond, List, [], ◌∷◌, ◌++◌, length, filter, take, Option, refl, sym, ap, ◌∙◌, subst, append_assoc}
use Rattle.std.specs.Io.KnownBytes.{Appends, Keeps}
use Rattle.std.specs.Prelude.{Result, Ok, Err, IfOk}
use Rattle.std.specs.List.{AllByRecursion}
use Rattle.std.proofs.KnownBytes.{Appends-nil, Appends-trans, Appends-kept}
use Rattle.std.proofs.lemmas.Grind.{flat_map-append}
use Rattle.std.proofs.lemmas.List.{append-nil}
use Rattle.pay_rules.specs.InTurn.{IsIn}
use Rattle.pay_tables.specs.Words.{FareEditions}
use Rattle.pay_rules.specs.State.{State}
use Rattle.pay_shard.specs.Words.{LocalParts, commands_of, transcript_of, AreInPlace, AreBelow, ShardParts, with_item, with_items, with_memory, state_now, replay, new_items, IsHistory, without, IsReplyTo, ReplayGoesOn, NewStandAfter, FrontHasReply, JournalMemory}
use Rattle.pay_shard.specs.declared.asked.Asked.{Asked}
use Rattle.pay_shard.specs.declared.asked.Asked.TheVariants as asked
use Rattle.pay_shard.specs.declared.desk.DeskFault.{DeskFault}
use Rattle.pay_shard.specs.declared.desk.DeskFault.TheVariants.{Memory, NotKept}
use Rattle.pay_shard.specs.declared.item.Item.{Item}
use Rattle.pay_shard.specs.declared.reply.Reply.{Reply}
use Rattle.pay_journal.specs.Lines.{line_of, lines_of_items}
use Rattle.pay_journal.specs.KeptParts.{KeptParts, new_since, IsRest, KeepsLines, IsSeen, IsKeptDesk}
use Rattle.pay_journal.specs.Puts.{is_not_kept, IsPutKept, IsNotPut}
use Rattle.pay_journal.proofs.Puts.{with_none}

-- ---- it begins

pub sees_all : (stuck : Bool) (desk : LocalParts) → AreBelow (length desk.shard.journal) desk.waiting → IsSeen stuck desk.shard desk
sees_all stuck desk below = record { more = []; is_more = sym (with_none desk.shard desk.shard.memory); none = λ _. refl; below = below }

pub begins : (desk : LocalParts) (held : Option (List ℕ)) → KeepsLines (record { seen = desk; first = desk.shard.journal; held_first = held; holds = held; stuck = false })
begins desk held = record { later = []; rest = []; begins = sym (append-nil desk.shard.journal); bytes = Appends-nil held; is_rest = refl }

-- ---- it settles

pub rest_of_none : (stuck : Bool) (rest : List ℕ) → stuck ≡ false → IsRest stuck rest → rest ≡ []
rest_of_none false rest e is = is
rest_of_none true rest e is = absurd (cc)

pub settles : (k : KeptParts) (holds : Option (List ℕ)) → Keeps k.holds holds → KeepsLines k → KeepsLines (record { seen = k.seen; first = k.first; held_first = k.held_first; holds = holds; stuck = k.stuck })
settles k holds keeps lines =
    record { later = lines.later; rest = lines.rest; begins = lines.begins; bytes = Appends-kept k.held_first k.holds holds _ lines.bytes keeps; is_rest = lines.is_rest }

pub settles_not : (k : KeptParts) (holds : Option (List ℕ)) → Keeps k.holds holds → k.stuck ≡ false → KeepsLines k → KeepsLines (record { seen = k.seen; first = k.first; held_first = k.held_first; holds = holds; stuck = true })
settles_not k holds keeps free lines = record {
  later = lines.later;
  rest = lines.rest;
  begins = lines.begins;
  bytes = Appends-kept k.held_first k.holds holds _ lines.bytes keeps;
  is_rest = (asked.Due 0 0, 0, rest_of_none k.stuck lines.rest free lines.is_rest);
}

-- ---- what is seen, if it is not stuck

same_shard : (stuck : Bool) (seen : ShardParts) (desk : LocalParts) → stuck ≡ false → IsSeen stuck seen desk → desk.shard ≡ with_memory seen desk.shard.memory
same_shard stuck seen desk free is = is.is_more ∙ ap (λ (l : List Item). with_items seen l desk.shard.memory) (is.none free) ∙ with_none seen desk.shard.memory

-- ---- a command was taken

-- the lines that were kept, and the next one
kept_next : (goes : ReplayGoesOn) (new : NewStandAfter) (editions : FareEditions) (base : State) (first later journal : List Item) (item : Item) (rest : List ℕ) (held_first held holds : Option (List ℕ))
    → rest ≡ [] → journal ≡ first ++ later → Appends held_first held (lines_of_items (new_items editions (replay editions base first) later) ++ rest)
    → Appends held holds (lines_of_items (new_items editions (replay editions base journal) (item ∷ [])))
    → Appends held_first holds (lines_of_items (new_items editions (replay editions base first) (later ++ item ∷ [])) ++ [])
kept_next goes new editions base first later journal item rest held_first held holds none is before next =
    let begun = replay editions base first in
    let line = lines_of_items (new_items editions (replay editions base journal) (item ∷ [])) in
    let there : replay editions base journal ≡ replay editions begun later = ap (replay editions base) is ∙ goes editions base first later in
    let split : lines_of_items (new_items editions begun later) ++ line ≡ lines_of_items (new_items editions begun (later ++ item ∷ [])) =
    ap (λ (s : State). lines_of_items (new_items editions begun later) ++ lines_of_items (new_items editions s (item ∷ []))) there
    ∙ sym (flat_map-append (λ (i : Item). line_of i.entry.command) (new_items editions begun later) (new_items editions (replay editions begun later) (item ∷ [])))
    ∙ ap lines_of_items (sym (new editions begun later (item ∷ []))) in
    let known : Appends held_first held (lines_of_items (new_items editions begun later)) =
    subst (Appends held_first held) (ap (λ (l : List ℕ). lines_of_items (new_items editions begun later) ++ l) none ∙ append-nil (lines_of_items (new_items editions begun later))) before in
    subst (Appends held_first holds) (split ∙ sym (append-nil (lines_of_items (new_items editions begun (later ++ item ∷ []))))) (Appends-trans held_first held holds _ line known next)

module _ (ticket : ℕ) (command : Asked) (k : KeptParts) (before after : LocalParts) (holds : Option (List ℕ)) (free : k.stuck ≡ false) (seen : IsSeen k.stuck k.seen.shard before)
    (same_waiting : k.seen.waiting ≡ before.waiting) (put : IsPutKept ticket command before after k.holds holds) where
  was : before.shard ≡ with_memory k.seen.shard before.shard.memory
  was = same_shard k.stuck k.seen.shard before free seen

  is_now : after.shard ≡ with_item k.seen.shard put.taken.item after.shard.memory
  is_now = put.taken.added ∙ ap (λ (s : ShardParts). with_item s put.taken.item after.shard.memory) was

  abbrev pub later_kept : KeptParts
  later_kept = record { seen = after; first = k.first; held_first = k.held_first; holds = holds; stuck = k.stuck }

  pub taken_keeps : ReplayGoesOn → NewStandAfter → KeepsLines k → KeepsLines later_kept
  taken_keeps goes new lines =
      let s = k.seen.shard in
      let none = rest_of_none k.stuck lines.rest free lines.is_rest in
      let as_before = subst (λ (b : ShardParts). Appends k.holds holds (lines_of_items (new_items b.editions (state_now b) (put.taken.item ∷ [])))) was put.bytes in
      let next = kept_next goes new s.editions s.base k.first lines.later s.journal put.taken.item lines.rest k.held_first k.holds holds none lines.begins lines.bytes as_before in
      subst (λ (b : ShardParts). KeepsLines (record { seen = record { shard = b; waiting = after.waiting }; first = k.first; held_first = k.held_first; holds = holds; stuck = k.stuck })) (sym is_now)
      (record {
        later = lines.later ++ put.taken.item ∷ [];
        rest = [];
        begins = ap (λ (j : List Item). j ++ put.taken.item ∷ []) lines.begins ∙ append_assoc k.first lines.later (put.taken.item ∷ []);
        bytes = next;
        is_rest = subst (λ (b : Bool). IsRest b []) (sym free) refl;
      })

-- ---- a command was not taken

module _ (Failed : Type 0) (fault : DeskFault) (command : Asked) (k : KeptParts) (before after : LocalParts) (holds : Option (List ℕ)) (free : k.stuck ≡ false) (seen : IsSeen k.stuck k.seen.shard before)
    (put : IsNotPut Failed fault command before after k.holds holds) where
  pub left_seen : IsSeen (is_not_kept fault) k.seen.shard after
  left_seen = record {
    more = put.more;
    is_more = put.is_more ∙ ap (λ (s : ShardParts). with_items s put.more after.shard.memory) (same_shard k.stuck k.seen.shard before free seen);
    none = none_more put.cause;
    below = subst (AreBelow (length k.seen.shard.journal)) (sym put.same) seen.below;
  }
    where
      none_more : (((fault ≡ Memory) × (put.more ≡ []) × (put.front ≡ 0)) ⊎ ((fault ≡ NotKept) × Failed)) → is_not_kept fault ≡ false → put.more ≡ []
      none_more (inl memory) e = memory.1
      none_more (inr lost) e = let is = ap is_not_kept lost.0 in absurd (cc)

  pub left_failed : is_not_kept fault ≡ true → Failed
  left_failed e = by put.cause
    where
      by : (((fault ≡ Memory) × (put.more ≡ []) × (put.front ≡ 0)) ⊎ ((fault ≡ NotKept) × Failed)) → Failed
      by (inl memory) = let is = ap is_not_kept memory.0 in absurd (cc)
      by (inr lost) = lost.1

  left_rest : IsRest (is_not_kept fault) (take put.front (line_of command))
  left_rest = by put.cause
    where
      by : (((fault ≡ Memory) × (put.more ≡ []) × (put.front ≡ 0)) ⊎ ((fault ≡ NotKept) × Failed)) → IsRest (is_not_kept fault) (take put.front (line_of command))
      by (inl memory) = subst (λ (f : DeskFault). IsRest (is_not_kept f) (take put.front (line_of command))) (sym memory.0) (ap (λ n. take n (line_of command)) memory.2)
      by (inr lost) = subst (λ (f : DeskFault). IsRest (is_not_kept f) (take put.front (line_of command))) (sym lost.0) (command, put.front, refl)

  pub left_keeps : (waiting : List ℕ) → KeepsLines k → KeepsLines (record { seen = record { shard = k.seen.shard; waiting = waiting }; first = k.first; held_first = k.held_first; holds = holds; stuck = is_not_kept fault })
  left_keeps waiting lines =
      let kept = lines_of_items (new_since k lines.later) in
      let none = rest_of_none k.stuck lines.rest free lines.is_rest in
      let known : Appends k.held_first k.holds kept = subst (Appends k.held_first k.holds) (ap (λ (l : List ℕ). kept ++ l) none ∙ append-nil kept) lines.bytes in
      record {
        later = lines.later;
        rest = take put.front (line_of command);
        begins = lines.begins;
        bytes = Appends-trans k.held_first k.holds holds kept (take put.front (line_of command)) known put.bytes;
        is_rest = left_rest;
      }

-- ---- a reply was got

of_all : (P : ℕ → Type 0) (tickets : List ℕ) (ticket : ℕ) → AllByRecursion P tickets → IsIn tickets ticket → P ticket
of_all P [] ticket all waits = absurd waits
of_all P (t ∷ tickets) ticket all waits = elim waits [ inl same ↦ subst P same all.0 | inr later ↦ of_all P tickets ticket all.1 later ]

all_still : (P : ℕ → Type 0) (p : ℕ → Bool) (tickets : List ℕ) → AllByRecursion P tickets → AllByRecursion P (filter p tickets)
all_still P p [] all = tt
all_still P p (t ∷ tickets) all = by (p t) (all_still P p tickets all.1)
  where
    by : (b : Bool) → AllByRecursion P (filter p tickets) → AllByRecursion P (cond b (t ∷ filter p tickets) (filter p tickets))
    by true rest = (all.0, rest)
    by false rest = rest

module _ (stuck : Bool) (shown : ShardParts) (before after : LocalParts) (ticket : ℕ) (seen : IsSeen stuck shown before) (same : after.shard ≡ before.shard) where
  is_more_still : after.shard ≡ with_items shown seen.more after.shard.memory
  is_more_still = same ∙ seen.is_more ∙ ap (λ (s : ShardParts). with_items shown seen.more s.memory) (sym same)

  pub got_seen : after.waiting ≡ without ticket before.waiting → IsSeen stuck shown after
  got_seen got = record {
    more = seen.more;
    is_more = is_more_still;
    none = seen.none;
    below = subst (AreBelow (length shown.journal)) (sym got) (all_still (λ t. t < length shown.journal) (λ t. not (t == ticket)) before.waiting seen.below);
  }

  pub got_reply : FrontHasReply → (reply : Reply) → AreInPlace 0 shown.journal → IsIn before.waiting ticket → IsReplyTo ticket (commands_of after.shard.journal) (transcript_of after.shard) reply
      → IsReplyTo ticket (commands_of shown.journal) (transcript_of shown) reply
  got_reply front reply placed waits given =
      front shown after.shard seen.more ticket reply is_more_still placed (of_all (λ t. t < length shown.journal) before.waiting ticket seen.below waits) given

pub same_lines : (k : KeptParts) (waiting : List ℕ) → KeepsLines k → KeepsLines (record { seen = record { shard = k.seen.shard; waiting = waiting }; first = k.first; held_first = k.held_first; holds = k.holds; stuck = k.stuck })
same_lines k waiting lines = record { later = lines.later; rest = lines.rest; begins = lines.begins; bytes = lines.bytes; is_rest = lines.is_rest }

pub if_got : {E : Type 0} (P Q : Reply → Type 0) (r : Result Reply E) → ((x : Reply) → P x → Q x) → IfOk r P → IfOk r Q
if_got P Q (Ok x) more h = more x h
if_got P Q (Err e) more h = tt

-- ---- what it keeps

module _ {K : Type 0} (HasFailed : K → Type 0) (holds : K → Option (List ℕ)) where
  -- as it was when it began, as it is seen, and as it is
  abbrev pub parts_of : K → K → ShardParts → ShardParts → List ℕ → Bool → KeptParts
  parts_of began keeper first shown waiting stuck =
      record { seen = record { shard = shown; waiting = waiting }; first = first.journal; held_first = holds began; holds = holds keeper; stuck = stuck }

  pub all_begun : (desk after : LocalParts) (began keeper : K) (shown first : ShardParts) (memory : JournalMemory) → shown ≡ desk.shard → first ≡ desk.shard → began ≡ keeper
      → after ≡ record { shard = with_memory desk.shard memory; waiting = desk.waiting } → desk.shard.number ≡ 0 → AreInPlace 0 desk.shard.journal → IsHistory desk.shard.editions desk.shard.base desk.shard.journal → AreBelow (length desk.shard.journal) desk.waiting
      → IsKeptDesk (HasFailed keeper) after (parts_of began keeper first shown after.waiting false)
  all_begun desk after began keeper shown first memory is_shown is_first same forgets number placed history below =
      subst (λ (d : LocalParts). IsKeptDesk (HasFailed keeper) d (parts_of began keeper first shown d.waiting false)) (sym forgets)
      (subst (λ (b : K). IsKeptDesk (HasFailed keeper) left (parts_of b keeper first shown desk.waiting false)) (sym same)
      (subst (λ (f : ShardParts). IsKeptDesk (HasFailed keeper) left (parts_of keeper keeper f shown desk.waiting false)) (sym is_first)
      (subst (λ (s : ShardParts). IsKeptDesk (HasFailed keeper) left (parts_of keeper keeper desk.shard s desk.waiting false)) (sym is_shown)
      (record {
        seen = record { more = []; is_more = sym (with_none desk.shard memory); none = λ _. refl; below = below };
        own = record { number = number; in_place = placed; history = history };
        failed = λ e. absurd (cc);
        lines = begins desk (holds keeper);
      }))))
    where
      left : LocalParts
      left = record { shard = with_memory desk.shard memory; waiting = desk.waiting }

  module _ (began before keeper : K) (first shown : ShardParts) (desk : LocalParts) (stuck : Bool) (is : IsKeptDesk (HasFailed before) desk (parts_of began before first shown desk.waiting stuck)) (free : stuck ≡ false)
      (keeps : Keeps (holds before) (holds keeper)) where
    pub all_settled : IsKeptDesk (HasFailed keeper) desk (parts_of began keeper first shown desk.waiting stuck)
    all_settled =
        record { seen = is.seen; own = is.own; failed = λ e. let off = sym free ∙ e in absurd (cc); lines = settles (parts_of began before first shown desk.waiting stuck) (holds keeper) keeps is.lines }

    pub not_all_settled : HasFailed keeper → IsKeptDesk (HasFailed keeper) desk (parts_of began keeper first shown desk.waiting true)
    not_all_settled failed = record {
      seen = record { more = is.seen.more; is_more = is.seen.is_more; none = λ e. absurd (cc); below = is.seen.below };
      own = is.own;
      failed = λ e. failed;
      lines = settles_not (parts_of began before first shown desk.waiting stuck) (holds keeper) keeps free is.lines;
    }

  module _ (began before keeper : K) (first shown : ShardParts) (desk after : LocalParts) (stuck : Bool) (is : IsKeptDesk (HasFailed before) desk (parts_of began before first shown desk.waiting stuck)) (free : stuck ≡ false) where
    pub all_put : ReplayGoesOn → NewStandAfter → (ticket : ℕ) (command : Asked) (now : ShardParts) → IsPutKept ticket command desk after (holds before) (holds keeper) → now ≡ after.shard
        → after.shard.number ≡ 0 → AreInPlace 0 after.shard.journal → IsHistory after.shard.editions after.shard.base after.shard.journal → AreBelow (length after.shard.journal) after.waiting
        → IsKeptDesk (HasFailed keeper) after (parts_of began keeper first now after.waiting stuck)
    all_put goes new ticket command now put is_now number placed history below =
        subst (λ (s : ShardParts). IsKeptDesk (HasFailed keeper) after (parts_of began keeper first s after.waiting stuck)) (sym is_now)
        (record {
          seen = sees_all stuck after below;
          own = record { number = number; in_place = placed; history = history };
          failed = λ e. let off = sym free ∙ e in absurd (cc);
          lines = taken_keeps ticket command (parts_of began before first shown desk.waiting stuck) desk after (holds keeper) free is.seen refl put goes new is.lines;
        })

    pub all_left : (fault : DeskFault) (command : Asked) (stuck_now : Bool) → IsNotPut (HasFailed keeper) fault command desk after (holds before) (holds keeper) → stuck_now ≡ is_not_kept fault
        → IsKeptDesk (HasFailed keeper) after (parts_of began keeper first shown after.waiting stuck_now)
    all_left fault command stuck_now put sticks =
        let k = parts_of began before first shown desk.waiting stuck in
        subst (λ (b : Bool). IsKeptDesk (HasFailed keeper) after (parts_of began keeper first shown after.waiting b)) (sym sticks)
        (record {
          seen = left_seen (HasFailed keeper) fault command k desk after (holds keeper) free is.seen put;
          own = is.own;
          failed = left_failed (HasFailed keeper) fault command k desk after (holds keeper) free is.seen put;
          lines = left_keeps (HasFailed keeper) fault command k desk after (holds keeper) free is.seen put after.waiting is.lines;
        })

  pub all_got : (began keeper : K) (first shown : ShardParts) (desk after : LocalParts) (stuck : Bool) (ticket : ℕ) → IsKeptDesk (HasFailed keeper) desk (parts_of began keeper first shown desk.waiting stuck)
      → after.shard ≡ desk.shard → after.waiting ≡ without ticket desk.waiting → IsKeptDesk (HasFailed keeper) after (parts_of began keeper first shown after.waiting stuck)
  all_got began keeper first shown desk after stuck ticket is same got = record {
    seen = got_seen stuck shown desk after ticket is.seen same got;
    own = is.own;
    failed = is.failed;
    lines = same_lines (parts_of began keeper first shown desk.waiting stuck) after.waiting is.lines;
  }
