-- What gates have let pass.
use Rattle.std.proofs.Common.{◌≡◌, ℕ, eqb, Bool, true, false, not, if◌then◌else◌, List, [], ◌∷◌, ◌++◌, length, zip, Option, Some, None, slice_get, refl, sym, ap, ◌∙◌, subst, append-nil, arith}
use Rattle.std.proofs.lemmas.List.{map_push, length-map}
use mathlib.Core.List.{IsPrefix}
use Rattle.pay_mailbox.specs.Words.{SenderParts}
use Rattle.pay_shard.specs.Words.{JournalMemory, ShardParts, answers_given, with_memory}
use Rattle.pay_shard.specs.declared.item.Item.{Item}
use Rattle.pay_shard.specs.declared.reply.Answer.{Answer}
use Rattle.pay_lanes.specs.Passing.{Passed, passing}
use Rattle.pay_lanes.specs.Working.{entries_of, at_lane, held_for, AreTold}
use Rattle.pay_lanes.specs.Gates.{all_answered, passed_to, IsGated}
use Rattle.pay_lanes.specs.declared.outgoing.Outgoing.{Outgoing}
use Rattle.pay_lanes.proofs.Told.{answers_length, HasAnswered}

-- ---- entries with their answers

zip_more : {X Y : Type 0} (xs : List X) (ys : List Y) (x : X) (y : Y) → length xs ≡ length ys → zip (xs ++ x ∷ []) (ys ++ y ∷ []) ≡ zip xs ys ++ (x, y) ∷ []
zip_more [] [] x y same = refl
zip_more [] (b ∷ ys) x y same = cc
zip_more (a ∷ xs) [] x y same = cc
zip_more (a ∷ xs) (b ∷ ys) x y same = ap (λ l. (a, b) ∷ l) (zip_more xs ys x y (omega arith))

pub one_more_answered : (s t : ShardParts) (item : Item) (answer : Answer) → HasAnswered s item answer t → all_answered t ≡ all_answered s ++ (item.entry, answer) ∷ []
one_more_answered s t item answer h =
    ap (λ j. zip (entries_of j) (answers_given t)) h.journal
    ∙ (ap (λ a. zip (entries_of (s.journal ++ item ∷ [])) a) h.answers
    ∙ (ap (λ e. zip e (answers_given s ++ answer ∷ [])) (map_push (λ (i : Item). i.entry) s.journal item)
    ∙ zip_more (entries_of s.journal) (answers_given s) item.entry answer (length-map s.journal (λ (i : Item). i.entry) ∙ sym (answers_length s.number 0 s.editions s.base s.journal))))

-- the answers to a lane
pub passed_alike : (lane : ℕ) (items : List Item) (answers : List Answer) → passed_to lane (zip (entries_of items) answers) ≡ at_lane lane items answers
passed_alike lane [] answers = refl
passed_alike lane (i ∷ items) [] = refl
passed_alike lane (i ∷ items) (a ∷ answers) = by (passed_alike lane items answers) (eqb i.entry.lane lane)
  where
    by : passed_to lane (zip (entries_of items) answers) ≡ at_lane lane items answers → (b : Bool)
        → (if b then a ∷ passed_to lane (zip (entries_of items) answers) else passed_to lane (zip (entries_of items) answers)) ≡ (if b then a ∷ at_lane lane items answers else at_lane lane items answers)
    by rest true = ap (λ l. a ∷ l) rest
    by rest false = rest

sent_all : (s : ShardParts) (ways : List (SenderParts Answer)) → AreTold s None ways → (lane : ℕ) (way : SenderParts Answer) → slice_get ways lane ≡ Some way → way.sent ≡ passed_to lane (all_answered s)
sent_all s ways told lane way at = sym (append-nil way.sent) ∙ ((told lane way at).1 ∙ sym (passed_alike lane s.journal (answers_given s)))

-- ---- a worker's gate

module _ (Holds : List Passed → Bool → Type 0) where
  pub none_passed : (s : ShardParts) (ways : List (SenderParts Answer)) → s.journal ≡ [] → Holds [] false → IsGated Holds s false ways
  none_passed s ways none holds = record {
    passed = [];
    are = ap (λ j. zip (entries_of j) (answers_given s)) none;
    gate = holds;
    sent = λ yes lane way at. cc;
  }

  -- it popped nothing
  pub still_gated : (s t : ShardParts) (shut : Bool) (ways after : List (SenderParts Answer)) (memory : JournalMemory) → t ≡ with_memory s memory → shut ≡ false → IsGated Holds s shut ways → IsGated Holds t shut after
  still_gated s t true ways after memory same is_open g = cc
  still_gated s t false ways after memory same is_open g = record {
    passed = g.passed;
    are = ap all_answered same ∙ g.are;
    gate = g.gate;
    sent = λ yes lane way at. cc;
  }

  pub holds_all : (s t : ShardParts) (shut : Bool) (ways : List (SenderParts Answer)) (memory : JournalMemory) → t ≡ with_memory s memory → shut ≡ false → IsGated Holds s shut ways → Holds (all_answered t) false
  holds_all s t true ways memory same is_open g = cc
  holds_all s t false ways memory same is_open g = subst (λ ps. Holds ps false) (sym g.are ∙ ap all_answered (sym same)) g.gate

  -- the gate did not let the answer pass
  pub now_shut : (s t : ShardParts) (item : Item) (answer : Answer) (ways : List (SenderParts Answer)) (passes : Bool) → HasAnswered s item answer t → AreTold s None ways → passes ≡ false
      → Holds (all_answered s ++ passing passes item.entry answer) (not passes) → IsGated Holds t true ways
  now_shut s t item answer ways true h told off holds = cc
  now_shut s t item answer ways false h told off holds = record {
    passed = all_answered s;
    are = ((item.entry, answer), one_more_answered s t item answer h);
    gate = subst (λ ps. Holds ps true) (append-nil (all_answered s)) holds;
    sent = λ yes. sent_all s ways told;
  }

  -- it did
  pub now_passed : (s t : ShardParts) (item : Item) (answer : Answer) (ways : List (SenderParts Answer)) (shut passes : Bool) → HasAnswered s item answer t → shut ≡ false → passes ≡ true
      → Holds (all_answered s ++ passing passes item.entry answer) (not passes) → IsGated Holds t shut ways
  now_passed s t item answer ways true passes h is_open lets holds = cc
  now_passed s t item answer ways false false h is_open lets holds = cc
  now_passed s t item answer ways false true h is_open lets holds = record {
    passed = all_answered s ++ (item.entry, answer) ∷ [];
    are = one_more_answered s t item answer h;
    gate = holds;
    sent = λ shut lane way at. cc;
  }

  -- what a lane was sent is the first of what was let pass to it
  pub first_sent : (s : ShardParts) (held : Option Outgoing) (shut : Bool) (ways : List (SenderParts Answer)) → AreTold s held ways → (g : IsGated Holds s shut ways)
      → (lane : ℕ) (way : SenderParts Answer) → slice_get ways lane ≡ Some way → IsPrefix way.sent (passed_to lane g.passed)
  first_sent s held false ways told g lane way at = (held_for lane held, (told lane way at).1 ∙ (sym (passed_alike lane s.journal (answers_given s)) ∙ ap (passed_to lane) g.are))
  first_sent s held true ways told g lane way at = ([], append-nil way.sent ∙ g.sent refl lane way at)
