use Rattle.std.proofs.Common.{◌≡◌, refl, ap, subst, ◌∙◌, ℕ, List, [], ◌∷◌, ◌++◌, map, codes}
use Rattle.json.specs.Token.{Token, end_object}
use Rattle.graph_json.specs.WrittenGraph.{keys_object}
use Rattle.graph_json.specs.WrittenTokens.{keys_tokens}
use Rattle.json_written.specs.Tokens.{Adds, member_tokens}
use Rattle.json_written.proofs.WriterLaws.{wrote, and_then}
use Rattle.graph_json.proofs.writing.put_properties.Goals as goal

closed : (keys : List (List ℕ)) → keys_tokens keys ++ end_object ∷ [] ≡ member_tokens (keys_object keys)
closed [] = refl
closed (k ∷ ks) = ap (λ ts. Token.key k ∷ Token.string [] ∷ ts) (closed ks)

pub returns : goal.returns
returns c =
    let keys = map (λ s. s.now) c.in_ok-set.set.keys in
    let all = and_then (wrote c.in_ok-key.ensures) (and_then
    (wrote c.in_ok-begin_object.ensures) (and_then c.in_ok-put_keys.ensures (wrote c.in_ok-end_object.ensures))) in
    subst
    (λ ts. Adds c.args.writer.now c.end_object.new.self (Token.key (codes "properties") ∷ Token.begin_object ∷ ts))
    (closed keys ∙ ap (λ ks. member_tokens (keys_object ks)) c.in_ok-set.ensures) all
