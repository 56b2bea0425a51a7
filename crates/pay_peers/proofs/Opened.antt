-- What a till did for OPEN, as an answering.
use Rattle.std.proofs.Common.{◌≡◌, ℕ, ◌≤◌, List, ◌++◌, codes, length, take, take_all, Option, Result, refl, sym, ap, ◌∙◌, subst, arith}
use Rattle.jiff.specs.declared.tz.timezone.TimeZone.{TimeZone}
use Rattle.pay_rules.specs.declared.posting.Posting.{Posting}
use Rattle.pay_shard.specs.declared.asked.Asked.{Asked}
use Rattle.pay_shard.specs.declared.desk.DeskFault.{DeskFault}
use Rattle.pay_shard.specs.declared.reply.Answer.{Answer}
use Rattle.pay_shard.specs.Words.{DeskParts, NothingIsLost}
use Rattle.pay_till.specs.Words.{Taken, IsClosed}
use Rattle.pay_wire.specs.declared.refusal.Refusal.{Refusal}
use Rattle.pay_session.specs.Words.{HasAnsweredAt, AnswersClose}
use Rattle.pay_session.specs.declared.port.Role.{Role}
use Rattle.pay_session.specs.declared.port.Role.TheVariants.{All}
use Rattle.pay_peers.specs.OpenWeeks.{IsOpenedAt}

-- what else is so of a close may be left out
closes_alone : (Refuses : DeskFault → Type 0) (Late : Type 0) (C : List Taken → Result (List Posting) Refusal → Type 0) (P : List Taken → Type 0) (day of : ℕ) (before after : List (ℕ × Asked)) (transcript : ℕ → Option Answer) (result : Result (List Posting) Refusal)
    → IsClosed Refuses Late (λ put closed. C put closed × P put) day of before after transcript result → IsClosed Refuses Late C day of before after transcript result
closes_alone Refuses Late C P day of before after transcript result f = record {
  put = f.put;
  close = record { quotes = f.close.quotes; in_time = f.close.in_time; short = f.close.short; of_close = f.close.of_close; closes = f.close.closes.0 };
  added = f.added;
  answered = f.answered;
}

-- the line of a CLOSE is kept whole
pub close_kept : (day kept : List ℕ) → length day ≤ 123 → kept ≡ take 129 (codes "CLOSE ") → take 129 (kept ++ day) ≡ codes "CLOSE " ++ day
close_kept day kept short is = ap (λ (l : List ℕ). take 129 (l ++ day)) is ∙ take_all 129 (codes "CLOSE " ++ day) (omega (arith, short))

module _ {D O T : Type 0} (parts : D → DeskParts O) (Closes : T → ℕ → ℕ → List Taken → Result (List Posting) Refusal → T → Type 0) (Opens : T → ℕ → ℕ → List Taken → Result ℕ Refusal → T → Type 0) where
  pub open_answered : AnswersClose parts Closes → (zone : TimeZone) (role : Role) → role ≡ All → (day : ℕ) (answer : Result ℕ Refusal) (desk desk' : D) (till till' : T)
      → IsOpenedAt parts Closes Opens (day, answer) (desk, till) (desk', till') → NothingIsLost (parts desk).transcript (parts desk').transcript → (parts desk').standing ≡ (parts desk).standing
      → HasAnsweredAt parts Closes (zone, role) (desk, till) (desk', till')
  open_answered law zone role all day answer desk desk' till till' opened kept same =
      subst (λ r. HasAnsweredAt parts Closes (zone, r) (desk, till) (desk', till')) (sym all)
      (law zone day _ desk desk' till till' (closes_alone _ _ _ _ day _ _ _ _ _ opened) kept same)
