use Rattle.std.proofs.Common.{◌≡◌, ◌∙◌, ◌||◌, Bool, false, ap, ap₂}
use Rattle.std.proofs.lemmas.Result.{IfOk-weaker}
use Rattle.clap.specs.Words.{AddsArg, app_of, with_rule}
use Rattle.clap.specs.declared.builder.arg.Arg.{Arg}
use Rattle.clap.specs.declared.builder.command.Command.{Command}
use Rattle.clap.specs.declared.builder.command.Command.TheViews.{out-Command as fields_of}
use Rattle.pay_words.specs.CommandLine.{with_numbers}
use Rattle.pay_words.proofs.words.with_numbers.Goals as goal

pub returns-clause-app : goal.returns-clause-app
returns-clause-app c =
    let one = c.in_ok-arg.ensures.shape c.number_option.ensures.local ∙ ap (with_rule (app_of c.args.command)) c.number_option.ensures.rule in
    let two = c.in_ok-arg-2.ensures.shape c.number_option-2.ensures.local ∙ ap₂ with_rule one c.number_option-2.ensures.rule in
    IfOk-weaker c.arg-3.result (AddsArg c.in_ok-arg-2.field-0 c.number_option-3.result) (λ r. app_of r ≡ with_numbers (app_of c.args.command))
    (λ r adds. adds.shape c.number_option-3.ensures.local ∙ ap₂ with_rule two c.number_option-3.ensures.rule) c.arg-3.ensures

local_still : (old new : Command) (a : Arg) → AddsArg old a new → (fields_of old).has_globals ≡ false → a.global ≡ false → (fields_of new).has_globals ≡ false
local_still old new a adds h g = adds.globals ∙ ap₂ (λ (x y : Bool). x || y) h g

pub returns-clause-local : goal.returns-clause-local
returns-clause-local c =
    let one = local_still _ _ _ c.in_ok-arg.ensures c.requires c.number_option.ensures.local in
    let two = local_still _ _ _ c.in_ok-arg-2.ensures one c.number_option-2.ensures.local in
    IfOk-weaker c.arg-3.result (AddsArg c.in_ok-arg-2.field-0 c.number_option-3.result) (λ r. (fields_of r).has_globals ≡ false)
    (λ r adds. local_still _ r _ adds two c.number_option-3.ensures.local) c.arg-3.ensures
