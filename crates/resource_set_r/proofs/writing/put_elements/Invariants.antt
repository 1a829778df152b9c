use Rattle.std.proofs.Common.{◌≡◌, ◌++◌, drop}
use Rattle.json_written.specs.Tokens.{rest_tokens}
use Rattle.resource_set_r.specs.WrittenR.{elements_data}
use Rattle.resource_set_r.proofs.writing.put_elements.Given as goal

abbrev pub invariant-elements : goal.invariant-elements
invariant-elements l = (l.writer.tokens ++ rest_tokens (elements_data (drop l.element-index l.elements))
    ≡ l.fn.writer.tokens ++ rest_tokens (elements_data l.elements)) × (l.writer.before ≡ l.fn.writer.before)
