-- A text and its pieces.
use Rattle.std.proofs.Common.{◌≡◌, ℕ, suc, ◌+◌, ◌-◌, ◌<◌, ◌⊎◌, Bool, true, false, not, ◌&&◌, ◌==◌, cond, eqb, ltb, List}
use Rattle.std.proofs.Common.{[], ◌∷◌, ◌++◌, length, take, drop, get_or, Option, Some, None, refl, sym, ap, ◌∙◌, inl}
use Rattle.std.proofs.Common.{inr, append_assoc, arith}
use Rattle.std.specs.List.{list_all, join_with_byte, position, position_or_len}
use Rattle.std.specs.Char.{is_ascii_digit}
use Rattle.std.proofs.lemmas.Bool.{and_parts, not-true, lt-ltb, le-ltb, ne_eqb, eqb-true}
use Rattle.std.proofs.lemmas.List.{append-nil, drop_more, take_at, length-append, take_rest}
use Rattle.std.proofs.lemmas.List.{take-append-drop, get_or_append_left, get_or_at}
use Rattle.std.proofs.lemmas.List.Quantifiers.{position-Some}
use Rattle.std.proofs.lemmas.List.Sums.{position_or_len_is}
use Rattle.idset_text.specs.Items.{is_inside, with_front, pieces, pieces_after, is_dash, ends_at, ends_of}
use Rattle.idset_text.proofs.NumberLemmas.{digit_bounds, digit_at_place}

-- two fronts are one
pub with_front-with_front : (a b : List ℕ) (parts : List (List ℕ)) →
    with_front a (with_front b parts) ≡ with_front (a ++ b) parts
with_front-with_front a b [] = refl
with_front-with_front a b (part ∷ parts) = ap (λ (x : List ℕ). x ∷ parts) (sym (append_assoc a b part))

-- no front changes nothing
pub with_front-nil : (inside : Bool) (bytes : List ℕ) → with_front [] (pieces inside bytes) ≡ pieces inside bytes
with_front-nil inside [] = refl
with_front-nil inside (byte ∷ bytes) = kept ((eqb byte 44) && not inside) (pieces (is_inside inside byte) bytes)
  where
    front_kept : (byte : ℕ) (parts : List (List ℕ)) →
        with_front [] (with_front (byte ∷ []) parts) ≡ with_front (byte ∷ []) parts
    front_kept byte [] = refl
    front_kept byte (part ∷ parts) = refl

    kept : (b : Bool) (parts : List (List ℕ)) →
        with_front [] (cond b ([] ∷ pieces false bytes) (with_front (byte ∷ []) parts))
        ≡ cond b ([] ∷ pieces false bytes) (with_front (byte ∷ []) parts)
    kept true parts = refl
    kept false parts = front_kept byte parts

-- behind an item and its comma stand the other pieces
pub rest_whole : (text : List ℕ) (n : ℕ) →
    n < length text → get_or text n 0 ≡ 44 → pieces false text ≡ take n text ∷ pieces_after (drop n text) →
    pieces false text ≡ take n text ∷ pieces false (take (length text - (n + 1)) (drop (n + 1) text))
rest_whole text n lt comma e =
    let parted : drop n text ≡ 44 ∷ drop (n + 1) text =
    drop_more text n 0 lt ∙ ap (λ (b : ℕ). b ∷ drop (n + 1) text) comma in
    e ∙ ap (λ (rest : List ℕ). take n text ∷ pieces_after rest) parted
    ∙ ap (λ (rest : List ℕ). take n text ∷ pieces false rest) (sym (take_rest text (n + 1)))

-- a text is its item, the comma and what is left
pub split_at_comma : (text : List ℕ) (n : ℕ) →
    n < length text → get_or text n 0 ≡ 44 → text ≡ take n text ++ 44 ∷ take (length text - (n + 1)) (drop (n + 1) text)
split_at_comma text n lt comma =
    let parted : drop n text ≡ 44 ∷ drop (n + 1) text =
    drop_more text n 0 lt ∙ ap (λ (b : ℕ). b ∷ drop (n + 1) text) comma in
    sym (take-append-drop n text) ∙ ap (λ (rest : List ℕ). take n text ++ rest) parted
    ∙ ap (λ (rest : List ℕ). take n text ++ 44 ∷ rest) (sym (take_rest text (n + 1)))

-- ---- pieces that were joined

-- a byte that neither parts nor opens nor closes
abbrev pub is_plain : ℕ → Bool
is_plain byte = not (byte == 44) && not (byte == 91) && not (byte == 93)

pub plain_parts : (byte : ℕ) →
    is_plain byte ≡ true → (eqb byte 44 ≡ false) × (eqb byte 91 ≡ false) × (eqb byte 93 ≡ false)
plain_parts byte plain =
    let both = and_parts _ _ plain in
    let first = and_parts _ _ both.0 in
    (not-true _ first.0, not-true _ first.1, not-true _ both.1)

-- a plain byte joins the piece behind it
pub pieces-plain : (inside : Bool) (byte : ℕ) (rest : List ℕ) →
    is_plain byte ≡ true → pieces inside (byte ∷ rest) ≡ with_front (byte ∷ []) (pieces inside rest)
pieces-plain inside byte rest plain =
    let parts = plain_parts byte plain in
    ap (λ (t : Bool). cond (t && not inside)
    ([] ∷ pieces false rest) (with_front (byte ∷ []) (pieces (is_inside inside byte) rest))) parts.0
    ∙ ap (λ (t : Bool). with_front (byte ∷ []) (pieces (cond t true (cond (eqb byte 93) false inside)) rest)) parts.1
    ∙ ap (λ (t : Bool). with_front (byte ∷ []) (pieces (cond t false inside) rest)) parts.2

-- plain bytes join it too
pub pieces-plain_front : (inside : Bool) (front rest : List ℕ) →
    list_all is_plain front ≡ true → pieces inside (front ++ rest) ≡ with_front front (pieces inside rest)
pieces-plain_front inside [] rest plain = sym (with_front-nil inside rest)
pieces-plain_front inside (byte ∷ front) rest plain =
    let both = and_parts _ _ plain in
    pieces-plain inside byte (front ++ rest) both.0
    ∙ ap (with_front (byte ∷ [])) (pieces-plain_front inside front rest both.1)
    ∙ with_front-with_front (byte ∷ []) front (pieces inside rest)

-- plain pieces that were joined are cut apart again
pub pieces-join : (piece : List ℕ) (others : List (List ℕ)) → list_all (list_all is_plain) (piece ∷ others) ≡ true →
    pieces false (join_with_byte 44 (piece ∷ others)) ≡ piece ∷ others
pieces-join piece [] plain =
    ap (pieces false) (sym (append-nil piece))
    ∙ pieces-plain_front false piece [] (and_parts _ _ plain).0
    ∙ ap (λ (x : List ℕ). x ∷ []) (append-nil piece)
pieces-join piece (next ∷ others) plain =
    pieces-plain_front false piece (44 ∷ join_with_byte 44 (next ∷ others)) (and_parts _ _ plain).0
    ∙ ap (λ (x : List ℕ). x ∷ pieces false (join_with_byte 44 (next ∷ others))) (append-nil piece)
    ∙ ap (λ (xs : List (List ℕ)). piece ∷ xs) (pieces-join next others (and_parts _ _ plain).1)

-- there is always a piece
pub some_pieces : (inside : Bool) (text : List ℕ) → 0 < length (pieces inside text)
some_pieces inside [] = omega arith
some_pieces inside (byte ∷ bytes) = by_test ((eqb byte 44) && not inside) (pieces (is_inside inside byte) bytes)
  where
    in_front : (parts : List (List ℕ)) → 0 < length (with_front (byte ∷ []) parts)
    in_front [] = omega arith
    in_front (part ∷ parts) = omega arith

    by_test : (b : Bool) (parts : List (List ℕ)) →
        0 < length (cond b ([] ∷ pieces false bytes) (with_front (byte ∷ []) parts))
    by_test true parts = omega arith
    by_test false parts = in_front parts

join-with_front : (byte : ℕ) (parts : List (List ℕ)) →
    join_with_byte 44 (with_front (byte ∷ []) parts) ≡ byte ∷ join_with_byte 44 parts
join-with_front byte [] = refl
join-with_front byte (part ∷ []) = refl
join-with_front byte (part ∷ next ∷ parts) = refl

-- the pieces with commas between are the text
pub join-pieces : (inside : Bool) (text : List ℕ) → join_with_byte 44 (pieces inside text) ≡ text
join-pieces inside [] = refl
join-pieces inside (byte ∷ bytes) =
    by_test ((eqb byte 44) && not inside) refl (join-pieces false bytes)
    (join-with_front byte (pieces (is_inside inside byte) bytes)
    ∙ ap (λ (x : List ℕ). byte ∷ x) (join-pieces (is_inside inside byte) bytes))
  where
    behind_comma : (parts : List (List ℕ)) →
        join_with_byte 44 parts ≡ bytes → (0 < length parts) → join_with_byte 44 ([] ∷ parts) ≡ 44 ∷ bytes
    behind_comma [] joined some = absurd (omega arith)
    behind_comma (part ∷ parts) joined some = ap (λ (x : List ℕ). 44 ∷ x) joined

    by_test : (b : Bool) → (eqb byte 44) && not inside ≡ b → join_with_byte 44 (pieces false bytes) ≡ bytes →
        join_with_byte 44 (with_front (byte ∷ []) (pieces (is_inside inside byte) bytes)) ≡ byte ∷ bytes
        → join_with_byte 44 (cond b
        ([] ∷ pieces false bytes) (with_front (byte ∷ []) (pieces (is_inside inside byte) bytes))) ≡ byte ∷ bytes
    by_test true e parted joined = behind_comma (pieces false bytes) parted (some_pieces false bytes)
        ∙ ap (λ (b : ℕ). b ∷ bytes) (sym (eqb-true byte 44 (and_parts _ _ e).0))
    by_test false e parted joined = joined

-- ---- ends

-- the first byte that passes
pub position-first : (test : ℕ → Bool) (first : List ℕ) (byte : ℕ) (last : List ℕ) → ((k : ℕ) → k < length first →
    test (get_or first k 0) ≡ false) → test byte ≡ true → position test (first ++ byte ∷ last) ≡ Some (length first)
position-first test first byte last none passes =
    let whole = first ++ byte ∷ last in
    let long : length first < length whole = omega (arith, length-append first (byte ∷ last)) in
    let place : position_or_len test whole ≡ length first =
    position_or_len_is test whole (length first) 0 (omega arith)
    (λ k lt. ap test (get_or_append_left first (byte ∷ last) 0 k lt) ∙ none k lt)
    (λ lt. ap test (get_or_at first byte last 0 (length first) refl) ∙ passes) in
    ap (λ (p : ℕ). cond (ltb p (length whole)) (Some p) None) place
    ∙ ap (λ (t : Bool). cond t (Some (length first)) None) (lt-ltb _ _ long)

-- no byte that passes
pub position-none : (test : ℕ → Bool) (bytes : List ℕ) →
    ((k : ℕ) → k < length bytes → test (get_or bytes k 0) ≡ false) → position test bytes ≡ None
position-none test bytes none =
    let place : position_or_len test bytes ≡ length bytes =
    position_or_len_is test bytes (length bytes) 0 (omega arith) none (λ lt. absurd (omega arith)) in
    ap (λ (p : ℕ). cond (ltb p (length bytes)) (Some p) None) place
    ∙ ap (λ (t : Bool). cond t (Some (length bytes)) None) (le-ltb _ _ (omega arith))

pub drop-behind : (first : List ℕ) (byte : ℕ) (last : List ℕ) → drop (length first + 1) (first ++ byte ∷ last) ≡ last
drop-behind [] byte last = refl
drop-behind (b ∷ first) byte last = ap (λ (n : ℕ). drop n (b ∷ (first ++ byte ∷ last)))
    (let e : suc (length first) + 1 ≡ suc (length first + 1) = omega arith in e) ∙ drop-behind first byte last

digit_is_no_dash : (bytes : List ℕ) →
    list_all is_ascii_digit bytes ≡ true → (k : ℕ) → k < length bytes → is_dash (get_or bytes k 0) ≡ false
digit_is_no_dash bytes digits k lt = let bounds = digit_bounds (get_or bytes k 0) (digit_at_place bytes k digits lt) in
    ne_eqb (get_or bytes k 0) 45 (λ e. omega (arith, bounds.0))

-- where a dash stands first
pub ends_of-joined : (first last : List ℕ) →
    list_all is_ascii_digit first ≡ true → ends_of (first ++ 45 ∷ last) ≡ (first, last)
ends_of-joined first last digits =
    ap (ends_at (first ++ 45 ∷ last)) (position-first is_dash first 45 last (digit_is_no_dash first digits) refl)
    ∙ ap (λ (x : List ℕ). (x, drop (length first + 1) (first ++ 45 ∷ last)))
    (take_at first (45 ∷ last) (length first) refl)
    ∙ ap (λ (x : List ℕ). (first, x)) (drop-behind first 45 last)

-- digits alone are both ends
pub ends_of-digits : (bytes : List ℕ) → list_all is_ascii_digit bytes ≡ true → ends_of bytes ≡ (bytes, bytes)
ends_of-digits bytes digits = ap (ends_at bytes) (position-none is_dash bytes (digit_is_no_dash bytes digits))

-- the ends make up the item
pub ends_make_up : (bytes : List ℕ) →
    (((ends_of bytes).0 ≡ bytes) × ((ends_of bytes).1 ≡ bytes)) ⊎ (bytes ≡ (ends_of bytes).0 ++ 45 ∷ (ends_of bytes).1)
ends_make_up bytes = by_place (position is_dash bytes) refl
  where
    by_place : (o : Option ℕ) → position is_dash bytes ≡ o → (((ends_at bytes o).0 ≡ bytes)
        × ((ends_at bytes o).1 ≡ bytes)) ⊎ (bytes ≡ (ends_at bytes o).0 ++ 45 ∷ (ends_at bytes o).1)
    by_place None e = inl (refl, refl)
    by_place (Some i) e =
        let at = position-Some is_dash bytes i 0 e in
        inr (sym (take-append-drop i bytes) ∙ ap (λ (x : List ℕ). take i bytes ++ x)
        (drop_more bytes i 0 at.0 ∙ ap (λ (b : ℕ). b ∷ drop (i + 1) bytes) (eqb-true _ _ at.1)))
