use Rattle.std.proofs.Common.{◌≡◌, ◌-◌, ◌++◌, List, ℕ, length, take, drop, true, false, ◌∙◌, sym, ap, arith, rules}
use Rattle.pay_session.specs.Requests.{has_newline}
use Rattle.pay_peers.specs.Refused.{noted}
use Rattle.pay_peers.proofs.FirstWords.{line_is_taken, rest_is_taken, line_first, none_from}
use Rattle.pay_peers.proofs.peer.Peer.take_line.Goals as goal

pub returns-in_default-clause-taken : goal.returns-in_default-clause-taken
returns-in_default-clause-taken g c =
    let bytes = c.args.bytes.now in
    let nothing : length bytes - length bytes ≡ 0 = omega arith in
    rest_is_taken c.args.port.role c.args.self.now.begun bytes _ _ (search rules) (c.in_ok-answer.ensures.begun ∙ c.extend.ensures) (ap (λ n. take n (drop (length bytes) bytes)) nothing)

pub returns-in_default-clause-noted : goal.returns-in_default-clause-noted
returns-in_default-clause-noted g c none has =
    let without : has_newline c.args.bytes.now ≡ false = search rules in
    absurd (let same : true ≡ false = sym has ∙ without in cc)

pub returns-then-is_some-clause-taken : goal.returns-then-is_some-clause-taken
returns-then-is_some-clause-taken g c =
    line_is_taken c.args.port.role c.args.self.now.begun c.args.bytes.now c.in-Some.text.now c.in-Some.behind.now _ _ (search rules) (search rules) c.finish-word.ensures.word c.clear.ensures

pub returns-clause-taken : goal.returns-clause-taken
returns-clause-taken g c =
    line_is_taken c.args.port.role c.args.self.now.begun c.args.bytes.now c.in-Some.text.now c.in-Some.behind.now _ _ (search rules) (search rules)
    (none_from c.finish-word.result (sym c.is_some.ensures ∙ c.if-is_some.false) ∙ c.finish-word.ensures.word)
    c.clear-2.ensures

pub returns-clause-answered : goal.returns-clause-answered
returns-clause-answered g c none lasts =
    let bytes = c.args.bytes.now in
    record {
      front = take (length bytes - length c.in-Some.behind.now) bytes;
      cut = line_first bytes c.in-Some.text.now c.in-Some.behind.now (search rules);
      takes = c.in_ok-answer-2.ensures.answered lasts;
    }

pub returns-clause-noted : goal.returns-clause-noted
returns-clause-noted g c none has =
    let lines : List ℕ = c.args.self.now.refused.lines.items in
    let reply : List ℕ = drop (length c.args.self.now.unsent.items) c.answer-2.new.self.unsent.items in
    record {
      text = c.in-Some.text.now;
      cut = search rules;
      noted = c.in_ok-answer-2.ensures.noted ∙ ap (λ (line : List ℕ). lines ++ noted c.args.self.now.refused.instant reply line) c.finish-word.ensures.line;
    }
