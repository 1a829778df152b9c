-- One line after another.
use Rattle.std.proofs.Common.{◌≡◌, ℕ, ◌+◌, ◌<◌, ◌==◌, ◌||◌, not, Bool, true, false, cond, List, [], ◌∷◌, ◌++◌, length}
use Rattle.std.proofs.Common.{inl, inr, refl, sym, ◌∙◌, ap, arith, length-append, if◌then◌else◌}
use Rattle.std.specs.List.{list_any, position_or_len}
use Rattle.std.proofs.lemmas.Bool.{ne_eqb}
use Rattle.std.specs.Str.{bytes_eq}
use Rattle.text_table.specs.Tables.{index_of, with_text}
use Rattle.text_forms.specs.Cuts.{Lacks}
use Rattle.fluxion_lines.specs.Lines.{BeginsWithLine, lines_of, with_byte}

-- what follows the first line is shorter
pub shorter : (raw more bytes : List ℕ) → BeginsWithLine raw more bytes → 0 < length bytes → length more < length bytes
shorter raw more bytes (inl e) some =
    let long : length bytes ≡ length raw + length (10 ∷ more) =
    ap length e ∙ length-append raw (10 ∷ more) in omega arith
shorter raw more bytes (inr (e, nonempty, none)) some = let zero' : length more ≡ 0 = ap length none in omega arith

no_feed : (b : ℕ) (raw : List ℕ) → Lacks 10 (b ∷ raw) → (b == 10) ≡ false
no_feed b raw none = ne_eqb b 10 none.0

byte_more : (b : ℕ) (rest : List ℕ) (line : List ℕ) (lines : List (List ℕ)) →
    (b == 10) ≡ false → lines_of rest ≡ line ∷ lines → lines_of (b ∷ rest) ≡ (b ∷ line) ∷ lines
byte_more b rest line lines none h =
    ap (λ t. if t then [] ∷ lines_of rest else with_byte b (lines_of rest)) none ∙ ap (with_byte b) h

pub ended : (raw more : List ℕ) → Lacks 10 raw → lines_of (raw ++ (10 ∷ more)) ≡ raw ∷ lines_of more
ended [] more none = refl
ended (b ∷ raw) more none = byte_more b (raw ++ (10 ∷ more)) raw (lines_of more) (no_feed b raw none)
    (ended raw more none.1)

last : (raw : List ℕ) → Lacks 10 raw → 0 < length raw → lines_of raw ≡ raw ∷ []
last [] none some = absurd (omega arith)
last (b ∷ []) none some = ap (λ t. if t then [] ∷ [] else with_byte b []) (no_feed b [] none)
last (b ∷ c ∷ raw) none some = byte_more b (c ∷ raw) (c ∷ raw) [] (no_feed b (c ∷ raw) none)
    (last (c ∷ raw) none.1 (omega arith))

-- the bytes' lines are the first one and those of what follows it
pub first_line : (raw more bytes : List ℕ) → Lacks 10 raw → BeginsWithLine raw more bytes →
    lines_of bytes ≡ raw ∷ lines_of more
first_line raw more bytes none (inl e) = ap lines_of e ∙ ended raw more none
first_line raw more bytes none (inr (e, some, ended)) =
    ap lines_of e ∙ (last raw none some ∙ ap (λ m. raw ∷ lines_of m) (sym ended))

place_by : (p : List ℕ → Bool) (b : Bool) (x : List ℕ) (xs : List (List ℕ)) (t : List ℕ) →
    position_or_len p xs < length (if list_any p xs then xs else xs ++ t ∷ []) →
    cond (not b) (1 + position_or_len p xs) 0 < length (if b || list_any p xs then x ∷ xs else x ∷ (xs ++ t ∷ []))
place_by p true x xs t ih = omega arith
place_by p false x xs t ih = longer (list_any p xs) ih
  where
    longer : (any : Bool) → position_or_len p xs < length (if any then xs else xs ++ t ∷ []) →
        1 + position_or_len p xs < length (if any then x ∷ xs else x ∷ (xs ++ t ∷ []))
    longer true h = omega (arith, h)
    longer false h = omega (arith, h)

place_in : (p : List ℕ → Bool) (texts : List (List ℕ)) (t : List ℕ) →
    position_or_len p texts < length (if list_any p texts then texts else texts ++ t ∷ [])
place_in p [] t = omega arith
place_in p (x ∷ xs) t = place_by p (p x) x xs t (place_in p xs t)

-- a text's place is in the table that has it
pub place_within : (texts : List (List ℕ)) (t : List ℕ) → index_of texts t < length (with_text texts t)
place_within texts t = place_in (bytes_eq t) texts t
