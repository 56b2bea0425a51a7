use Rattle.std.proofs.Common.{◌≡◌, ℕ, sum, ap, ◌∙◌, rules, arith}
use Rattle.pay_day.specs.Words.{monday}
use Rattle.pay_tables.specs.Words.{first_day}
use Rattle.pay_rules.specs.StandingCredits.{credits}
use Rattle.pay_money.specs.Words.{shares}
use Rattle.pay_rules.specs.Quotes.{carried, due_through, weights_through}
use Rattle.pay_account.proofs.Carried.{due_as, same_quote}
use Rattle.pay_account.proofs.account.Account.quote_by.Goals as goal

pub shares-requires-clause-covered : goal.shares-requires-clause-covered
shares-requires-clause-covered c =
    let editions = c.args.editions.now in
    let through : ℕ = c.args.through in
    let now = c.args.self.now.1 in
    let given : c.credits.result ≡ credits now.fixes (monday through) through =
    c.credits.ensures.value ∙ ap (λ week. credits c.self.inside.fixes week through) c.monday-week.ensures.value ∙ ap (λ a. credits a.1.fixes (monday through) through) c.self.view_is in
    let due_is = due_as editions now c.args.journeys.items through c.args.price c.credits.result c.due-due.result c.requires.all c.requires.priced given c.due-due.ensures in
    let all : c.in_ok-weights.weights ≡ carried editions now through = c.in_ok-weights.ensures.value ∙ ap (λ list. weights_through editions list through) c.requires.all in
    omega (arith, due_is, c.quotes.ensures.covered c.args.self.now.0 now through, ap sum all)

pub quote_of-requires : goal.quote_of-requires
quote_of-requires c =
    let editions = c.args.editions.now in
    let through : ℕ = c.args.through in
    let now = c.args.self.now.1 in
    let given : c.credits.result ≡ credits now.fixes (monday through) through =
    c.credits.ensures.value ∙ ap (λ week. credits c.self.inside.fixes week through) c.monday-week.ensures.value ∙ ap (λ a. credits a.1.fixes (monday through) through) c.self.view_is in
    let due_is = due_as editions now c.args.journeys.items through c.args.price c.credits.result c.due-due.result c.requires.all c.requires.priced given c.due-due.ensures in
    let all : c.in_ok-weights.weights ≡ carried editions now through = c.in_ok-weights.ensures.value ∙ ap (λ list. weights_through editions list through) c.requires.all in
    record {
      of_account = omega (arith, c.requires.numbered, ap (λ a. a.0) c.self.view_is);
      of_week = record { through_day = c.requires.is_day; its_monday = c.monday-week.ensures.value };
      at_version = c.version.ensures.in_range;
      in_range = omega (arith, due_is, c.quotes.ensures.covered c.args.self.now.0 now through, ap sum all, c.in_ok-weights.ensures.in_range);
      of_edition = λ known. c.edition_day.ensures.in_range;
      operators = search rules;
      shared = c.shares.ensures.together;
    }

pub returns : goal.returns
returns c =
    let editions = c.args.editions.now in
    let through : ℕ = c.args.through in
    let now = c.args.self.now.1 in
    let given : c.credits.result ≡ credits now.fixes (monday through) through =
    c.credits.ensures.value ∙ ap (λ week. credits c.self.inside.fixes week through) c.monday-week.ensures.value ∙ ap (λ a. credits a.1.fixes (monday through) through) c.self.view_is in
    let due_is = due_as editions now c.args.journeys.items through c.args.price c.credits.result c.due-due.result c.requires.all c.requires.priced given c.due-due.ensures in
    let edition : c.edition_day.result ≡ first_day editions (monday through) = c.edition_day.ensures.value ∙ ap (first_day editions) c.monday-week.ensures.value in
    let all : c.in_ok-weights.weights ≡ carried editions now through = c.in_ok-weights.ensures.value ∙ ap (λ list. weights_through editions list through) c.requires.all in
    c.quote_of.ensures
    ∙ same_quote through (ap (λ a. a.0) c.self.view_is) c.monday-week.ensures.value c.version.ensures.value due_is edition
    (c.shares.ensures.value ∙ ap (λ n. shares n c.in_ok-weights.weights) due_is ∙ ap (shares (due_through editions now through)) all)
