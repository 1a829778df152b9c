use Rattle.std.proofs.Common.{ap, ◌∙◌, map, string_bytes, subst}
use Rattle.std.proofs.lemmas.Result.{IfErr-weaker, IfOk-weaker}
use Rattle.clap.specs.Words.{takes}
use Rattle.clap.specs.Simple.{App, HasMatchesOf}
use Rattle.command_words.proofs.command.matches_of.Goals as goal

pub returns : goal.returns
returns c =
    let parse = c.try_get_matches_from in
    let is = c.in_ok-command_line.ensures in
    record {
      matches = IfOk-weaker parse.result _ _
          (λ m h. subst (λ (a : App). HasMatchesOf a (map string_bytes c.args.words.now) m) is h) parse.ensures.matches;
      err = IfErr-weaker parse.result _ _
          (λ e h t. h (ap (λ (a : App). takes a (map string_bytes c.args.words.now)) is ∙ t)) parse.ensures.passes;
    }
