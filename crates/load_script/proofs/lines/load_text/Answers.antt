use Rattle.std.proofs.Common.{◌≡◌, ◌+◌, ap, ◌∙◌, arith}
use Rattle.load_script.specs.Draws.{drawn, second_at}
use Rattle.load_script.proofs.Texts.{drawn_more, second_more, text_more}
use Rattle.load_script.proofs.lines.load_text.Goals as goal

pub loop-k-preserved : goal.loop-k-preserved
loop-k-preserved c =
    let commands = c.args.commands in
    let k = c.loop-k.k in
    let before = c.loop-k.invariant in
    let number : c.next_drawn-number.result ≡ drawn commands (k + 1) =
    c.next_drawn-number.ensures.value ∙ drawn_more commands k c.loop-k.number before.1 in
    let second : c.loop-k.second + c.seconds_on-second.result ≡ second_at commands (k + 1) =
    ap (λ s. c.loop-k.second + s) c.seconds_on-second.ensures.value
    ∙ second_more commands k c.next_drawn-number.result c.loop-k.second number before.3 in (
      text_more commands k c.next_drawn-number.result (c.loop-k.second + c.seconds_on-second.result) c.loop-k.text.items
          c.add_line.new.text.items before.0 c.in_ok-add_line.ensures number second,
      number,
      c.next_drawn-number.ensures.small,
      second,
      omega arith,
    )
