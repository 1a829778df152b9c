use Rattle.std.proofs.Common.{◌≡◌, IsUtf8, Some, rules, arith, [], ap, ◌∙◌}
use Rattle.json.specs.Lex.{tokens}
use Rattle.json.specs.Json.{value}
use Rattle.json_whole.specs.PlainTokens.{plain_tokens}
use Rattle.json_whole.proofs.Agreeing.{part_plain}
use Rattle.json_whole.proofs.values.read_at_once.Goals as goal

pub returns-in-None : goal.returns-in-None
returns-in-None c =
    let same : c.in-Ok.text.now ≡ c.args.bytes.now = search rules in
    let utf8 : IsUtf8 c.in-Ok.text.now = search rules in
    let v = c.in_ok-value.value in
    let last : c.read_part.new.reader ≡ [] = grind arith in
    let done = c.in_ok-value.ensures.ok in
    let read : value 127 (plain_tokens (tokens c.in-Ok.text.now)) ≡ Some (done.0, plain_tokens c.read_part.new.reader) =
    search rules in
    let found : value 127 (plain_tokens (tokens c.in-Ok.text.now)) ≡ Some (done.0, []) =
    read ∙ ap (λ ts. Some (done.0, plain_tokens ts)) last in
    part_plain c.args.wanted.now c.args.bytes.now done.0 v (rw same at utf8) (rw same at found) done.2
