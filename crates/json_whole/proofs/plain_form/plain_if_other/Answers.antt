use Rattle.std.proofs.Common.{◌≡◌, length, take, drop, ◌++◌, append-nil, sym, ◌∙◌, take_all, arith, []}
use Rattle.std.proofs.lemmas.List.{drop_all}
use Rattle.json_whole.specs.Plain.{outside, plain_from, plain_of}
use Rattle.json_whole.proofs.Steps.{plain_end}
use Rattle.json_whole.proofs.plain_form.plain_if_other.Goals as goal

pub returns-then-len-bytes : goal.returns-then-len-bytes
returns-then-len-bytes c =
    let text = c.args.bytes.now in
    let front : take (length text) text ≡ text = take_all (length text) text (omega arith) in
    let rest : drop (length text) text ≡ [] = drop_all (length text) text (omega arith) in
    let same : plain_of text ≡ take (length text) text ++ plain_from outside (drop (length text) text) =
    rw c.if-len-bytes.true at c.kept_front-len.ensures.same in
    sym (same ∙ rw (front, rest, plain_end outside) (append-nil text))
