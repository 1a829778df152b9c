-- How a writer goes on.
use Rattle.std.specs.Prelude.{◌≡◌, List, ◌++◌}
use Rattle.json.specs.Token.{Token}
use Rattle.json.specs.Tree.{json_tokens, items_tokens, members_tokens}
use Rattle.json.specs.Written.{Written, WritesFront}
use Rattle.serde_json.specs.Data.{Data, Items, Members}
use Rattle.serde_json.specs.Written.{outline, items_outline, members_outline}

-- the writer has written these tokens more
pub record Adds (old new : Written) (tokens : List Token) : Type 0 where
  pub tokens_are : new.tokens ≡ old.tokens ++ tokens
  pub same : new.before ≡ old.before

-- of these tokens the writer has written some first ones more
abbrev pub AddsFront : Written → Written → List Token → Type 0
AddsFront old new tokens = WritesFront old.tokens new.tokens tokens × (new.before ≡ old.before)

-- the tokens of a value
abbrev pub value_tokens : Data → List Token
value_tokens d = json_tokens (outline d)

-- the tokens of a list's items, and the closing bracket
abbrev pub rest_tokens : Items → List Token
rest_tokens ds = items_tokens (items_outline ds)

-- the tokens of an object's members, and the closing bracket
abbrev pub member_tokens : Members → List Token
member_tokens ms = members_tokens (members_outline ms)
