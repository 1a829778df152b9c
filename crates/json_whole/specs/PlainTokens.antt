-- The tokens of the plain form of a text, from the tokens of the text.
use Rattle.std.specs.Prelude.{ℕ, List, [], ◌∷◌, ◌++◌, take, if◌then◌else◌}
use Rattle.std.specs.Str.{bytes_eq}
use Rattle.json.specs.Token as json
use Rattle.json_whole.specs.Run.{digit_count, listed, written}
use Rattle.json_whole.specs.declared.runs.Form.{Form}
use Rattle.json_whole.specs.declared.runs.Form.TheVariants.{Same, Digits, Listed}

-- a list of the one text
abbrev pub list_tokens : List ℕ → List json.Token
list_tokens s = json.begin_array ∷ json.string s ∷ json.end_array ∷ []

-- what is written of a number: a number, or a list of its text
abbrev pub plain_number : List ℕ → List json.Token
plain_number s = if bytes_eq (written s) (listed s) then list_tokens s else json.number (written s) ∷ []

-- all but the numbers stays
abbrev pub plain_token : json.Token → List json.Token
plain_token json.begin_object = json.begin_object ∷ []
plain_token json.end_object = json.end_object ∷ []
plain_token json.begin_array = json.begin_array ∷ []
plain_token json.end_array = json.end_array ∷ []
plain_token (json.key s) = json.key s ∷ []
plain_token (json.string s) = json.string s ∷ []
plain_token (json.number s) = plain_number s
plain_token (json.boolean b) = json.boolean b ∷ []
plain_token json.null = json.null ∷ []
plain_token json.bad = json.bad ∷ []

abbrev pub plain_tokens : List json.Token → List json.Token
plain_tokens [] = []
plain_tokens (t ∷ ts) = plain_token t ++ plain_tokens ts

-- a number in the form
abbrev pub number_as : Form → List ℕ → List json.Token
number_as Same s = json.number s ∷ []
number_as Digits s = json.number (take (digit_count s) s) ∷ []
number_as Listed s = list_tokens s
