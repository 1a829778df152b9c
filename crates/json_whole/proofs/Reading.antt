-- The value of a text, and none.
use Rattle.std.proofs.Common.{◌≡◌, ℕ, List, [], Bool, true, false, Some, None, refl, IsUtf8}
use Rattle.std.specs.Prelude.{IfOk, Result, Ok, Err}
use Rattle.std.specs.Str.{is_utf8}
use Rattle.std.proofs.lemmas.Str.{is_utf8-from_IsUtf8, IsUtf8-from_is_utf8}
use Rattle.json.specs.Lex.{tokens}
use Rattle.json.specs.Json.{Json, value}
use Rattle.json.specs.Value.{value_view}
use Rattle.json.specs.declared.value.Value.{Value}
use Rattle.serde_json.specs.Read.{max_depth}
use Rattle.serde_json.specs.Written.{has_float}
use Rattle.json_whole.specs.Plain.{plain_of}
use Rattle.json_whole.specs.PlainTokens.{plain_tokens}
use Rattle.json_whole.specs.Values.{data_of, view}
use Rattle.json_whole.specs.Whole.{json_in, value_in, value_of}
use Rattle.json_whole.proofs.Tokens.{IsWholeText, whole_text}
use Rattle.json_whole.proofs.Trees.{of_json-whole, data_of-no_float}
use Rattle.json_whole.proofs.Lexed.{plain_lexed}
use Rattle.json_whole.proofs.PlainRead.{plain_read}
use Rattle.json_whole.proofs.PlainUtf8.{plain_utf8}

-- the value is the data of the tree
value_in-tree : (text : List ℕ) (j : Json) →
    IsUtf8 text → IsWholeText text → json_in text ≡ Some j → value_in text ≡ Some (data_of j)
value_in-tree text j utf8 whole found =
    rw (is_utf8-from_IsUtf8 text utf8, found) (of_json-whole j (rw found at whole))

value_in-no_tree : (text : List ℕ) → IsUtf8 text → json_in text ≡ None → value_in text ≡ None
value_in-no_tree text utf8 none = rw (is_utf8-from_IsUtf8 text utf8, none) refl

none_by_test : (b : Bool) (text : List ℕ) → is_utf8 text ≡ b → ¬ IsUtf8 text → value_in text ≡ None
none_by_test true text e never = absurd (never (IsUtf8-from_is_utf8 text e))
none_by_test false text e never = rw e refl

-- bytes that are no text have no value
value_in-no_text : (text : List ℕ) → ¬ IsUtf8 text → value_in text ≡ None
value_in-no_text text never = none_by_test (is_utf8 text) text refl never

plain_whole : (bytes : List ℕ) → IsWholeText (plain_of bytes)
plain_whole bytes = whole_text (plain_of bytes) (plain_lexed bytes)

-- ---- the value of bytes, by the text that is their plain form

module _ (bytes text : List ℕ) (plain : text ≡ plain_of bytes) where
  pub no_text : ¬ IsUtf8 text → value_of bytes ≡ None
  unfolding value_of
  no_text never = rw plain at (value_in-no_text text never)

  pub no_tree : IsUtf8 text → json_in text ≡ None → value_of bytes ≡ None
  unfolding value_of
  no_tree utf8 none = rw plain at (value_in-no_tree text utf8 none)

  pub read_of_tree : {A E : Type 0} (read : Result (Value A) E) → IsUtf8 text →
      IfOk read (λ v. json_in text ≡ Some (value_view v)) → IfOk read (λ v. value_of bytes ≡ Some (view v))
  unfolding value_of
  read_of_tree (Ok v) utf8 found =
      rw plain at (value_in-tree text (value_view v) utf8 (rw plain (plain_whole bytes)) found)
  read_of_tree (Err e) utf8 found = tt

pub read-no_float : {A E : Type 0} (read : Result (Value A) E) → IfOk read (λ v. has_float (view v) ≡ false)
read-no_float (Ok v) = data_of-no_float (value_view v)
read-no_float (Err e) = tt

-- the value of bytes, by the tokens of their plain form
pub tree_plain : (bytes : List ℕ) (j : Json) →
    IsUtf8 bytes → value max_depth (plain_tokens (tokens bytes)) ≡ Some (j, []) → value_of bytes ≡ Some (data_of j)
unfolding value_of
tree_plain bytes j utf8 found =
    value_in-tree (plain_of bytes) j (plain_utf8 bytes utf8) (plain_whole bytes) (plain_read bytes j found)
