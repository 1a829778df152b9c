-- The compact text of a plain value whose texts are UTF-8 is UTF-8.
use Rattle.std.proofs.Common.{◌≡◌, refl, ℕ, zero, suc, pos, negsuc, List, [], ◌∷◌, ◌++◌, Bool, true, false}
use Rattle.std.proofs.Common.{if◌then◌else◌, IsUtf8, arith}
use Rattle.std.specs.Str.{is_utf8}
use Rattle.std.proofs.lemmas.Str.{IsUtf8-append, IsUtf8-nil, IsUtf8-from_ascii, IsUtf8-from_is_utf8}
use Rattle.std.proofs.lemmas.Fmt.{IsAscii-decimal, IsAscii-signed}
use Rattle.json.proofs.Printed.Utf8.{IsUtf8-quoted, IsUtf8-boolean, IsUtf8-are_ascii}
use Rattle.json.specs.Print.{quoted}
use Rattle.serde_json.specs.Data.{Num, unsigned, negative, float, Data, null, boolean, number, string, array, object}
use Rattle.serde_json.specs.Data.{Items, no_items, item, Members, no_members, member}
use Rattle.serde_json.specs.Written.{number_text, compact_text, items_text, members_text, comma_if}
use Rattle.json_written.specs.Texts.{readable}
use Rattle.json_written.proofs.PlainLaws.{IsWhole, IsPlain, ArePlain, HasPlain}

-- each text of the value is UTF-8
abbrev mutual
  pub IsClear : Data → Type 0
  IsClear null = Unit {0}
  IsClear (boolean b) = Unit {0}
  IsClear (number m) = Unit {0}
  IsClear (string s) = IsUtf8 s
  IsClear (array ds) = AreClear ds
  IsClear (object ms) = HasClear ms

  pub AreClear : Items → Type 0
  AreClear no_items = Unit {0}
  AreClear (item d ds) = IsClear d × AreClear ds

  pub HasClear : Members → Type 0
  HasClear no_members = Unit {0}
  HasClear (member k d ms) = IsUtf8 k × IsClear d × HasClear ms

utf8_number : (m : Num) → IsWhole m → IsUtf8 (number_text m)
utf8_number (unsigned n) h = IsUtf8-from_ascii (number_text (unsigned n)) (IsAscii-decimal n h)
utf8_number (negative (pos n)) h = absurd h
utf8_number (negative (negsuc n)) h =
    IsUtf8-from_ascii (number_text (negative (negsuc n))) (IsAscii-signed (negsuc n) (omega arith))
utf8_number (float x) h = absurd h

utf8_comma : (later : Bool) (text : List ℕ) → IsUtf8 text → IsUtf8 (comma_if later ++ text)
utf8_comma true text u = IsUtf8-append (44 ∷ []) text (IsUtf8-are_ascii (44 ∷ []) refl) u
utf8_comma false text u = u

mutual
  pub utf8_value : (n : ℕ) (d : Data) → IsPlain n d → IsClear d → IsUtf8 (compact_text d)
  utf8_value n null h c = IsUtf8-are_ascii (compact_text null) refl
  utf8_value n (boolean b) h c = IsUtf8-boolean b
  utf8_value n (number m) h c = utf8_number m h
  utf8_value n (string s) h c = IsUtf8-quoted s c
  utf8_value zero (array ds) h c = absurd h
  utf8_value (suc n) (array ds) h c =
      IsUtf8-append (91 ∷ []) (items_text false ds) (IsUtf8-are_ascii (91 ∷ []) refl) (utf8_items n false ds h c)
  utf8_value zero (object ms) h c = absurd h
  utf8_value (suc n) (object ms) h c =
      IsUtf8-append (123 ∷ []) (members_text false ms) (IsUtf8-are_ascii (123 ∷ []) refl) (utf8_members n false ms h c)

  utf8_items : (n : ℕ) (later : Bool) (ds : Items) → ArePlain n ds → AreClear ds → IsUtf8 (items_text later ds)
  utf8_items n later no_items h c = IsUtf8-are_ascii (93 ∷ []) refl
  utf8_items n later (item d ds) h c = utf8_comma later (compact_text d ++ items_text true ds)
      (IsUtf8-append (compact_text d) (items_text true ds) (utf8_value n d h.0 c.0) (utf8_items n true ds h.1 c.1))

  utf8_members : (n : ℕ) (later : Bool) (ms : Members) → HasPlain n ms → HasClear ms → IsUtf8 (members_text later ms)
  utf8_members n later no_members h c = IsUtf8-are_ascii (125 ∷ []) refl
  utf8_members n later (member k d ms) h c =
      let value = IsUtf8-append
      (compact_text d) (members_text true ms) (utf8_value n d h.0 c.1) (utf8_members n true ms h.2 c.2) in
      utf8_comma later (quoted k ++ 58 ∷ (compact_text d ++ members_text true ms))
      (IsUtf8-append (quoted k) (58 ∷ (compact_text d ++ members_text true ms)) (IsUtf8-quoted k c.0)
      (IsUtf8-append (58 ∷ []) (compact_text d ++ members_text true ms) (IsUtf8-are_ascii (58 ∷ []) refl) value))

-- a text as JSON holds it is UTF-8
pub clear_readable : (text : List ℕ) → IsUtf8 (readable text)
clear_readable text = by (is_utf8 text) refl
  where
    by : (b : Bool) → is_utf8 text ≡ b → IsUtf8 (if b then text else [])
    by true e = IsUtf8-from_is_utf8 text e
    by false e = IsUtf8-nil
