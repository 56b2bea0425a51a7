use Rattle.std.proofs.Common.{◌≡◌, ℕ, ◌≤◌, List, [], ◌++◌, length, take, ap, sym, subst, ◌∙◌, take_all, append-nil, arith, length-take-le}
use Rattle.std.proofs.lemmas.List.{take_min}
use Rattle.pay_peers.proofs.Kept.{kept_next, kept_front}
use Rattle.pay_peers.proofs.word.Line.extend.Goals as goal

-- a line that is kept whole
whole : (line : List ℕ) → length line ≤ 129 → line ≡ take 129 (line ++ [])
whole line short = sym (ap (take 129) (append-nil line) ∙ take_all 129 line short)

pub loop-byte-init : goal.loop-byte-init
loop-byte-init c =
    let few : length (take c.self.inside.count c.self.inside.bytes) ≤ 129 = omega (arith, length-take-le c.self.inside.count c.self.inside.bytes, c.self.invariant) in
    whole c.args.self.now (subst (λ line. length line ≤ 129) c.self.view_is few)

pub loop-byte-preserved : goal.loop-byte-preserved
loop-byte-preserved c = c.add.ensures ∙ kept_next 129 c.loop-byte.byte-index c.args.self.now (take c.min.result c.args.more.now) c.loop-byte.self c.loop-byte.invariant c.loop-byte-test.true

pub returns : goal.returns
returns c =
    let more = c.args.more.now in
    let line = c.args.self.now in
    let items = take c.min.result more in
    let all : take c.loop-byte.byte-index items ≡ items = take_all c.loop-byte.byte-index items c.loop-byte-test.false in
    let same : items ≡ take 129 more = ap (λ n. take n more) c.min.ensures ∙ take_min 129 more in
    c.loop-byte.invariant ∙ ap (λ l. take 129 (line ++ l)) (all ∙ same) ∙ kept_front 129 129 line more (omega arith)
