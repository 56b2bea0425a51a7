use Rattle.std.proofs.Common.{◌≡◌, Ok, Err, sym, ap, subst}
use Rattle.sqlite.specs.Held.{state}
use Rattle.pay_rules.specs.declared.post_fault.PostFault.TheVariants.{BadArchive}
use Rattle.pay_postings.specs.Words.{posted, lists, with_batch, IsRefusedAs}
use Rattle.pay_records.specs.Words.{HoldsRows}
use Rattle.pay_ledger.specs.declared.fault.LedgerFault.TheVariants.{Refused}
use Rattle.pay_ledger.proofs.Along.{was, stopped, and_stopped, and_gone}
use Rattle.pay_ledger.proofs.Batched.{covers_all, read_of, found_of, refused_so}
use Rattle.pay_ledger.proofs.Readable.{judged_at_quotes, judged_at_sets, judged_by_posted, same_refusal}
use Rattle.pay_ledger.proofs.post.batch_for.Goals as goal

pub returns-in_err-read_quoted-clause-step : goal.returns-in_err-read_quoted-clause-step
returns-in_err-read_quoted-clause-step g c = stopped g.S.Store c.from_residual.result _ c.from_residual.ensures.1 c.in_err-read_quoted.ensures.step

pub returns-in_err-read_sets-clause-step : goal.returns-in_err-read_sets-clause-step
returns-in_err-read_sets-clause-step g c =
    and_stopped g.S.Store c.from_residual-in_err-read_sets.result c.in_ok-read_quoted.ensures.step _ c.from_residual-in_err-read_sets.ensures.1 c.in_err-read_sets.ensures.step

pub returns-in_err-post-clause-step : goal.returns-in_err-post-clause-step
returns-in_err-post-clause-step g c = and_gone g.S.Store c.from_residual-in_err-post.result c.in_ok-read_quoted.ensures.step c.in_ok-read_sets.ensures.step

pub returns-clause-step : goal.returns-clause-step
returns-clause-step g c = and_gone g.S.Store _ c.in_ok-read_quoted.ensures.step c.in_ok-read_sets.ensures.step

pub returns-in_err-read_quoted-clause-judged : goal.returns-in_err-read_quoted-clause-judged
returns-in_err-read_quoted-clause-judged g c =
    judged_at_quotes g.S.Store c.from_residual.result c.args.quotes.now c.args.sets.now c.in_err-read_quoted.field-0.0 c.from_residual.ensures.1 c.postings_back.ensures
    c.args.tx.now.conn.now c.read_quoted.new.tx.conn.now c.in_err-read_quoted.ensures.bad

pub returns-in_err-read_sets-clause-judged : goal.returns-in_err-read_sets-clause-judged
returns-in_err-read_sets-clause-judged g c =
    judged_at_sets g.S.Store c.from_residual-in_err-read_sets.result c.args.quotes.now c.args.sets.now c.in_err-read_sets.field-0.0 c.from_residual-in_err-read_sets.ensures.1 c.postings_back.ensures
    c.args.tx.now.conn.now c.read_sets.new.tx.conn.now
    (λ clean rows k. c.in_err-read_sets.ensures.bad clean rows (subst (λ db. HoldsRows db rows) (sym (c.in_ok-read_quoted.ensures.read.rows (was g.S.Store c.in_err-read_sets.ensures.step clean) rows k).1) k))

pub returns-in_err-post-clause-judged : goal.returns-in_err-post-clause-judged
returns-in_err-post-clause-judged g c =
    let a = state g.S.Store c.args.tx.now.conn.now in
    let b = state g.S.Store c.read_quoted.new.tx.conn.now in
    let d = state g.S.Store c.read_sets.new.tx.conn.now in
    let quotes = c.args.quotes.now in
    let sets = c.args.sets.now in
    let fault = c.in_err-post.field-0.0 in
    let before = was g.S.Store c.in_ok-read_sets.ensures.step in
    let covers = covers_all b d _ _ quotes sets c.in_ok-read_sets.ensures.read c.in_ok-read_quoted.ensures.there c.in_ok-read_sets.ensures.there in
    judged_by_posted g.S.Store c.from_residual-in_err-post.result quotes sets (Refused fault) c.from_residual-in_err-post.ensures.1 c.args.tx.now.conn.now c.read_sets.new.tx.conn.now
    (λ same. c.in_err-post.ensures.never_bad covers (ap Err (same_refusal fault BadArchive same)))
    (λ clean ledger k. refused_so (posted ledger quotes sets) fault
    (found_of a b d _ _ _ quotes sets c.new-accounts.ensures before c.in_ok-read_quoted.ensures.read c.in_ok-read_sets.ensures.read covers c.postings_back.ensures (λ ledger. IsRefusedAs (posted ledger quotes sets) fault) c.in_err-post.ensures.batch clean ledger k).0.0)
    (read_of a b d _ _ _ quotes sets c.new-accounts.ensures before c.in_ok-read_quoted.ensures.read c.in_ok-read_sets.ensures.read covers)

pub returns-clause-posts : goal.returns-clause-posts
returns-clause-posts g c clean =
    let a = state g.S.Store c.args.tx.now.conn.now in
    let b = state g.S.Store c.read_quoted.new.tx.conn.now in
    let d = state g.S.Store c.read_sets.new.tx.conn.now in
    let quotes = c.args.quotes.now in
    let sets = c.args.sets.now in
    let covers = covers_all b d _ _ quotes sets c.in_ok-read_sets.ensures.read c.in_ok-read_quoted.ensures.there c.in_ok-read_sets.ensures.there in
    found_of a b d _ _ _ quotes sets c.new-accounts.ensures (was g.S.Store c.in_ok-read_sets.ensures.step) c.in_ok-read_quoted.ensures.read c.in_ok-read_sets.ensures.read covers c.postings_back.ensures
    (λ ledger. posted ledger quotes sets ≡ Ok (c.in_ok-post.field-0.given.items, with_batch ledger (lists c.in_ok-post.field-0))) c.in_ok-post.ensures.batch clean

pub returns-clause-judged : goal.returns-clause-judged
returns-clause-judged g c =
    let a = state g.S.Store c.args.tx.now.conn.now in
    let b = state g.S.Store c.read_quoted.new.tx.conn.now in
    let d = state g.S.Store c.read_sets.new.tx.conn.now in
    let quotes = c.args.quotes.now in
    let sets = c.args.sets.now in
    let covers = covers_all b d _ _ quotes sets c.in_ok-read_sets.ensures.read c.in_ok-read_quoted.ensures.there c.in_ok-read_sets.ensures.there in
    record {
      refused = λ clean. tt;
      read = read_of a b d _ _ _ quotes sets c.new-accounts.ensures (was g.S.Store c.in_ok-read_sets.ensures.step) c.in_ok-read_quoted.ensures.read c.in_ok-read_sets.ensures.read covers;
      bad_first = λ clean. tt;
    }
