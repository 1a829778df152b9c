use Rattle.std.proofs.Common.{rules, ap, ap₂, codes, true, ◌≡◌, ◌∙◌}
use Rattle.std.proofs.lemmas.Result.{IfOk-weaker}
use Rattle.clap.specs.Words.{app_of, new_app, rule_of, with_rule}
use Rattle.clap.specs.Simple.{Shape, app_of_fields, on_top}
use Rattle.clap.specs.declared.builder.command.Command.{Command}
use Rattle.clap.specs.declared.builder.command.Command.TheOpen.{Command-F}
use Rattle.command_words.specs.Commands.{option_rule, graph_rule}
use Rattle.command_words.proofs.command.command_line.Goals as goal

abbrev settings : Shape → Shape
settings s = record s { no_binary_name = true; disable_help_flag = true; disable_version_flag = true }

abbrev quiet : Command-F Command → Command-F Command
quiet f = record f { no_binary_name = true }

abbrev no_help : Command-F Command → Command-F Command
no_help f = record f { disable_help_flag = true }

abbrev no_version : Command-F Command → Command-F Command
no_version f = record f { disable_version_flag = true }

pub returns : goal.returns
returns c =
    let horizon_is : rule_of c.long.result ≡ option_rule (codes "horizon") = search rules in
    let filters_is : rule_of c.long-2.result ≡ option_rule (codes "filters") = search rules in
    let jobspec_is : rule_of c.long-3.result ≡ option_rule (codes "jobspec") = search rules in
    let graph_is : rule_of c.required.result ≡ graph_rule = search rules in
    let base : app_of c.disable_version_flag.result ≡ on_top settings (new_app (codes "fluxion")) =
    ap app_of_fields (c.disable_version_flag.ensures ∙ ap no_version
    (c.disable_help_flag.ensures ∙ ap no_help c.no_binary_name.ensures))
    ∙ ap (on_top settings) c.new.ensures.app in
    let three : app_of c.in_ok-arg-3.field-0
    ≡ with_rule (with_rule (with_rule (on_top settings (new_app (codes "fluxion"))) (option_rule (codes "horizon")))
    (option_rule (codes "filters"))) (option_rule (codes "jobspec")) =
    c.in_ok-arg-3.ensures.shape (search rules)
    ∙ ap₂ with_rule (c.in_ok-arg-2.ensures.shape (search rules) ∙ ap₂ with_rule
    (c.in_ok-arg.ensures.shape (search rules) ∙ ap₂ with_rule base horizon_is) filters_is) jobspec_is in
    IfOk-weaker c.arg-4.result _ _ (λ r h. h.shape (search rules) ∙ ap₂ with_rule three graph_is) c.arg-4.ensures
