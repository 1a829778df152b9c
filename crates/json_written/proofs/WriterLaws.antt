-- A writer that goes on, step by step.
use Rattle.std.proofs.Common.{ap, ◌∙◌, List, [], ◌∷◌, ◌++◌, append_assoc, Ok}
use Rattle.json.specs.Token.{Token}
use Rattle.json.specs.Written.{Written, Writes}
use Rattle.json_written.specs.Tokens.{Adds}

-- one token
pub wrote : {E : Type 0} {old new : Written} {t : Token} {u : Unit {0}} →
    Writes {E = E} (Ok u) old new t → Adds old new (t ∷ [])
wrote w = record { tokens_are = w.ok; same = w.room.0 }

-- and others after these
pub and_then : {a b c : Written} {xs ys : List Token} → Adds a b xs → Adds b c ys → Adds a c (xs ++ ys)
and_then {a} {b} {c} {xs} {ys} p q = record {
  tokens_are = q.tokens_are ∙ ap (λ ts. ts ++ ys) p.tokens_are ∙ append_assoc a.tokens xs ys;
  same = q.same ∙ p.same;
}
