-- The tokens of the parts of R that may be left out.
use Rattle.std.specs.Prelude.{ℕ, List, [], ◌∷◌, codes}
use Rattle.json.specs.Token.{Token, key, string}
use Rattle.serde_json.specs.Data.{object, array, member, no_members, number, unsigned}
use Rattle.flux_defs.specs.declared.claims.Claim.{Claim}
use Rattle.resource_graph.specs.NamedGraph.{NamedGraph}
use Rattle.json_written.specs.Texts.{readable}
use Rattle.json_written.specs.Tokens.{value_tokens}
use Rattle.idset_text.specs.Idsets.{idset_text}
use Rattle.resource_set_r.specs.WrittenR.{claims_data}
use Rattle.flux_defs.specs.declared.claims.Claim.TheVariants.{Take, Hold, Pass}

-- ids at a key
abbrev pub ids_tokens : List ℕ → List ℕ → List Token
ids_tokens k [] = []
ids_tokens k (id ∷ ids) = key k ∷ string (readable (idset_text (id ∷ ids))) ∷ []

-- how much is taken
abbrev pub quantity_tokens : Claim → List Token
quantity_tokens (Take v q) = key (codes "quantity") ∷ value_tokens (number (unsigned q))
quantity_tokens (Hold v) = []
quantity_tokens (Pass v) = []

-- the claims at a key
abbrev pub scheduling_tokens : NamedGraph → List Claim → List Token
scheduling_tokens g [] = []
scheduling_tokens g (c ∷ cs) = key
    (codes "scheduling") ∷ value_tokens (object (member (codes "claims") (array (claims_data g (c ∷ cs))) no_members))
