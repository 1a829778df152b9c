use Rattle.std.proofs.Common.{◌≡◌, ◌++◌, drop}
use Rattle.json_written.specs.Tokens.{rest_tokens}
use Rattle.resource_set_r.specs.WrittenR.{claims_data}
use Rattle.resource_set_r.proofs.writing.put_claims.Given as goal

abbrev pub invariant-claims : goal.invariant-claims
invariant-claims l =
    (l.writer.tokens ++ rest_tokens (claims_data l.graph (drop l.claim-index l.claims))
    ≡ l.fn.writer.tokens ++ rest_tokens (claims_data l.graph l.claims)) × (l.writer.before ≡ l.fn.writer.before)
