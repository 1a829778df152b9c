use Rattle.std.proofs.Common.{◌≡◌, ◌++◌, length, map}
use Rattle.graph_json.specs.WrittenTokens.{keys_tokens}
use Rattle.graph_json.proofs.writing.put_keys.Given as goal

abbrev pub invariant-keys : goal.invariant-keys
invariant-keys l = (l.writer.tokens ++ keys_tokens (map (λ s. s.now) l.set.keys)
    ≡ l.fn.writer.tokens ++ keys_tokens (map (λ s. s.now) l.fn.set.keys)) × (l.writer.before ≡ l.fn.writer.before)

abbrev pub decreases-keys : goal.decreases-keys
decreases-keys l = length l.set.keys
