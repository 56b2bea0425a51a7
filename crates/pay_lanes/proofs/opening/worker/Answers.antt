use Rattle.std.proofs.Common.{◌≡◌, ◌∙◌, [], All, length, refl, sym, ap, subst}
use Rattle.std.proofs.lemmas.List.Elements.{All-weaker}
use Rattle.pay_mailbox.specs.Words.{SenderParts}
use Rattle.pay_shard.specs.declared.reply.Answer.{Answer}
use Rattle.pay_lanes.specs.Openings.{IsNewSender}
use Rattle.std.specs.List.{IsDistinct}
use Rattle.pay_shard.specs.Words.{state_of}
use Rattle.pay_lanes.specs.Parts.{WorkerParts}
use Rattle.pay_lanes.proofs.opening.worker.Goals as goal

-- there is no account
pub new-requires-2-clause-distinct : goal.new-requires-2-clause-distinct
unfolding IsDistinct
new-requires-2-clause-distinct g c = rw c.new.ensures.items tt

-- what the shard and the mailbox are
pub returns-clause-new : goal.returns-clause-new
unfolding state_of
returns-clause-new g c = record {
  editions = ap (λ (w : WorkerParts). w.shard.editions) c.new-3.ensures ∙ (c.in-Ok.ensures.editions ∙ c.in_ok-editions.ensures);
  base = ap (λ (w : WorkerParts). w.shard.base) c.new-3.ensures ∙ (c.in-Ok.ensures.base ∙ (rw c.new.ensures.items refl));
  journal = ap (λ (w : WorkerParts). w.shard.journal) c.new-3.ensures ∙ c.in-Ok.ensures.journal;
  popped = ap (λ (w : WorkerParts). w.requests.got) c.new-3.ensures ∙ c.requires.requests.got;
  sent =
      subst (λ (w : WorkerParts). All (λ (s : SenderParts Answer). s.sent ≡ []) w.lanes) (sym c.new-3.ensures)
      (All-weaker (IsNewSender c.args.number) (λ (s : SenderParts Answer). s.sent ≡ []) (λ s h. h.1) c.args.lanes.items c.requires.lanes);
  few = ap (λ (w : WorkerParts). w.requests.mailbox.capacity) c.new-3.ensures ∙ c.requires.requests.few;
  back = ap (λ (w : WorkerParts). w.requests.back) c.new-3.ensures ∙ c.requires.requests.back;
  lanes = ap (λ (w : WorkerParts). length w.lanes) c.new-3.ensures;
  held = ap (λ (w : WorkerParts). w.held) c.new-3.ensures;
  not_shut = ap (λ (w : WorkerParts). w.shut) c.new-3.ensures;
}
