use Rattle.std.proofs.Common.{◌≡◌, ◌++◌, drop}
use Rattle.json_written.specs.Tokens.{rest_tokens}
use Rattle.resource_set_r.specs.WrittenR.{texts_data}
use Rattle.resource_set_r.proofs.writing.put_texts.Given as goal

abbrev pub invariant-texts : goal.invariant-texts
invariant-texts l = (l.writer.tokens ++ rest_tokens (texts_data (drop l.text-index l.texts))
    ≡ l.fn.writer.tokens ++ rest_tokens (texts_data l.texts)) × (l.writer.before ≡ l.fn.writer.before)
