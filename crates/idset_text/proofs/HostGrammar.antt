-- What is read as hosts is in the grammar of hostlists, and what is in the grammar is read.
use Rattle.std.proofs.Common.{◌≡◌, ℕ, zero, suc, ◌+◌, ◌-◌, ◌<◌, ◌≤◌, ◌^◌, ◌⊎◌, ◌≢◌, Bool, true, false, not, ◌&&◌, ◌||◌}
use Rattle.std.proofs.Common.{cond, eqb, leb, List, [], ◌∷◌, ◌++◌, length, get_or, take, drop, Option, Some, None}
use Rattle.std.proofs.Common.{Result, Ok, Err, refl, sym, ap, subst, ◌∙◌, inl, inr, append_assoc, arith, All}
use Rattle.std.specs.Prelude.{IsTrue, IfOk}
use Rattle.std.specs.Fmt.{decimal}
use Rattle.std.specs.List.{list_all, join_with_byte, position, AllZip}
use Rattle.std.specs.Option.{option_and_then, option_map}
use Rattle.std.proofs.lemmas.Bool.{and_parts, and_from, or_cases, not-true, leb-true, le-leb, eqb-true, eq-eqb}
use Rattle.std.proofs.lemmas.Option.{cond_some, option_and_then_some, same_Some}
use Rattle.std.proofs.lemmas.List.{length-append, length-drop, get_or-drop, take-append-drop, drop_more, drop_all}
use Rattle.std.proofs.lemmas.List.{append-nil}
use Rattle.std.proofs.lemmas.List.Elements.{All-nil, All-cons, All-contains}
use Rattle.std.proofs.lemmas.List.Quantifiers.{position-Some}
use Rattle.std.proofs.lemmas.List.Folds.{list_all-append}
use Rattle.std.proofs.lemmas.Str.Parse.{digits_value_short}
use Rattle.std.proofs.lemmas.Fmt.{length-decimal-le, decimal_nonempty}
use Rattle.flux_defs.specs.declared.limits.TheConstants.{MOST_NAME_BYTES}
use Rattle.idset_text.specs.declared.faults.TextFault.{TextFault}
use Rattle.idset_text.specs.declared.hostlists.Hosts.{Hosts}
use Rattle.idset_text.specs.declared.hostlists.Hosts.TheVariants.{One, Many}
use Rattle.idset_text.specs.declared.hostlists.Numbers.{Numbers}
use Rattle.idset_text.specs.Faults.{IsResultOf}
use Rattle.idset_text.specs.Items.{pieces, placed, with_first, with_front, items_of, ends_of, is_inside}
use Rattle.idset_text.specs.Numbers.{value_of, has_leading_zero, number_of}
use Rattle.idset_text.specs.Hostlists.{is_host_name, host_number, padded, width_of, fits, numbers_between, numbers_of}
use Rattle.idset_text.specs.Hostlists.{hosts_of_pieces, hosts_of_list, list_place, hosts_of_item, with_hosts, hosts_of}
use Rattle.idset_text.specs.Hostlists.{hostlist_of, names_from, IsNumber, Lists, IsPiece, IsHostItem, AreHostItems}
use Rattle.idset_text.specs.Hostlists.{IsHostlist}
use Rattle.text_forms.specs.Names.{is_name_byte}
use Rattle.idset_text.proofs.NumberLemmas.{own_digits, number_of_digits, number_was_written}
use Rattle.idset_text.proofs.ItemLemmas.{is_plain, plain_parts, pieces-plain_front, pieces-join, join-pieces}
use Rattle.idset_text.proofs.ItemLemmas.{some_pieces, with_front-with_front, ends_of-joined, ends_of-digits}
use Rattle.idset_text.proofs.ItemLemmas.{ends_make_up}
use Rattle.idset_text.proofs.IdsetTexts.{digits_plain}
use Rattle.idset_text.proofs.HostLemmas.{decimal_is_written, length-padded, many_has}
use Rattle.idset_text.proofs.HostlistTexts.{name_bytes_plain, name_parts, prefix_is_fine, listed, hosts_of_item-listed}
use Rattle.idset_text.proofs.HostlistTexts.{hostlist_of-some, ends_plain}

-- ---- numbers

number_is : (bytes : List ℕ) (n : ℕ) → host_number bytes ≡ Some n → IsNumber bytes n
number_is bytes n e = by_test (leb (length bytes) 9) refl e
  where
    by_test : (b : Bool) → leb (length bytes) 9 ≡ b → cond b (number_of bytes) None ≡ Some n → IsNumber bytes n
    by_test true few f = let w = number_was_written bytes n f in
        record { some = w.some; few = leb-true (length bytes) 9 few; digits = w.digits; value = w.value }
    by_test false few f = absurd cc

number_small : (bytes : List ℕ) (n : ℕ) → IsNumber bytes n → n < 4294967296
number_small bytes n is = let short : value_of bytes < 10 ^ 9 =
    digits_value_short own_digits bytes 9 is.digits is.few in omega (arith, short, is.value)

number_is_read : (bytes : List ℕ) (n : ℕ) → IsNumber bytes n → host_number bytes ≡ Some n
number_is_read bytes n is =
    ap (λ (t : Bool). cond t (number_of bytes) None) (le-leb (length bytes) 9 is.few)
    ∙ number_of_digits bytes is.some is.digits (omega (arith, number_small bytes n is, is.value))
    ∙ ap (λ (v : ℕ). Some v) is.value

-- a larger number has no fewer digits
decimal_grows : (m n : ℕ) → m ≤ n → n < 4294967296 → length (decimal m) ≤ length (decimal n)
decimal_grows m n le small =
    let w = decimal_is_written n small in
    let below : value_of (decimal n) < 10 ^ length (decimal n) =
    digits_value_short own_digits (decimal n) (length (decimal n)) w.digits (omega arith) in
    length-decimal-le (length (decimal n)) m
    (decimal_nonempty n (omega arith)) (omega (arith, below, w.value)) (omega arith)

padded_grows : (width m n : ℕ) → m ≤ n → n < 4294967296 → length (padded width m) ≤ length (padded width n)
padded_grows width m n le small =
    omega (arith, length-padded width m, length-padded width n, decimal_grows m n le small)

-- where the last name isn't too long, none is
all_short : (prefix : List ℕ) (width hi count lo : ℕ) → lo + count ≤ hi + 1 → hi < 4294967296 → length prefix + length
    (padded width hi) ≤ MOST_NAME_BYTES → All (λ name. length name ≤ MOST_NAME_BYTES) (names_from prefix width count lo)
all_short prefix width hi zero lo le small short = All-nil (λ name. length name ≤ MOST_NAME_BYTES)
all_short prefix width hi (suc count) lo le small short =
    let name_len : length (prefix ++ padded width lo) ≡ length prefix + length (padded width lo) =
    length-append prefix (padded width lo) in
    let own : length (prefix ++ padded width lo) ≤ MOST_NAME_BYTES =
    omega (arith, padded_grows width lo hi (omega arith) small) in
    All-cons (λ name. length name ≤ MOST_NAME_BYTES) (prefix ++ padded width lo) (names_from prefix width count
    (lo + 1)) own (all_short prefix width hi count (lo + 1) (omega arith) small short)

-- and where none is, the last isn't
last_short : (prefix : List ℕ) (width lo hi : ℕ) → lo ≤ hi → All (λ name. length name ≤ MOST_NAME_BYTES)
    (names_from prefix width (hi + 1 - lo) lo) → length prefix + length (padded width hi) ≤ MOST_NAME_BYTES
last_short prefix width lo hi le short =
    let own : length (prefix ++ padded width hi) ≤ MOST_NAME_BYTES =
    All-contains (λ name. length name ≤ MOST_NAME_BYTES)
    (names_from prefix width (hi + 1 - lo) lo) (prefix ++ padded width hi) short
    (many_has prefix (padded width hi) (prefix ++ padded width hi) lo hi width refl (hi, le, omega arith, refl)) in
    omega (arith, own, length-append prefix (padded width hi))

-- ---- pieces

-- what a piece that was read lists
record WasPiece (prefix piece : List ℕ) (numbers : Numbers) : Type 0 where
  first : List ℕ
  last : List ℕ
  lists : Lists prefix piece first last numbers.lo numbers.hi numbers.width

piece_was_read : (prefix piece : List ℕ) (numbers : Numbers) →
    numbers_of (length prefix) piece ≡ Some numbers → WasPiece prefix piece numbers
piece_was_read prefix piece numbers e =
    option_and_then_some (λ lo. option_and_then (λ hi. cond (fits (length prefix) first last lo hi) (Some
    (record { lo = lo; hi = hi; width = width_of first })) None) (host_number last)) (host_number first) numbers e
    (λ lo low rest. option_and_then_some (λ hi. cond (fits (length prefix) first last lo hi)
    (Some (record { lo = lo; hi = hi; width = width_of first })) None) (host_number last) numbers rest
    (λ hi high kept.
    let test = cond_some
    (fits (length prefix) first last lo hi) (record { lo = lo; hi = hi; width = width_of first }) numbers kept in
    let P : Numbers → Type 0 = λ ns. WasPiece prefix piece ns in
    subst P test.1 (was lo hi (number_is first lo low) (number_is last hi high) test.0)))
  where
    first : List ℕ
    first = (ends_of piece).0

    last : List ℕ
    last = (ends_of piece).1

    wide_by : (z : Bool) → (not z || eqb (length (ends_of piece).1) (length (ends_of piece).0)) ≡ true →
        z ≡ true → length (ends_of piece).1 ≡ length (ends_of piece).0
    wide_by true e is = eqb-true _ _ e
    wide_by false e is = absurd cc

    was : (lo hi : ℕ) → IsNumber (ends_of piece).0 lo →
        IsNumber (ends_of piece).1 hi → fits (length prefix) (ends_of piece).0 (ends_of piece).1 lo hi ≡ true →
        WasPiece prefix piece (record { lo = lo; hi = hi; width = width_of (ends_of piece).0 })
    was lo hi low high fit =
        let both = and_parts _ _ fit in
        let front = and_parts _ _ both.0 in
        let ordered : lo ≤ hi = leb-true lo hi front.0 in
        let short : length prefix + length (padded (width_of (ends_of piece).0) hi) ≤ MOST_NAME_BYTES =
        leb-true _ MOST_NAME_BYTES both.1 in
        record {
          first = (ends_of piece).0;
          last = (ends_of piece).1;
          lists = record {
            low = low;
            high = high;
            ordered = ordered;
            width_is = refl;
            wide = wide_by (has_leading_zero (ends_of piece).0) front.1;
            short = all_short prefix (width_of (ends_of piece).0) hi
                (hi + 1 - lo) lo (omega arith) (number_small (ends_of piece).1 hi high) short;
            spelled = elim (ends_make_up piece) [
              | inl whole ↦ inl (sym whole.0, whole.1 ∙ sym whole.0)
              | inr parts ↦ inr parts
            ];
          };
        }

pieces_were_read : (prefix : List ℕ) (parts : List (List ℕ)) (hosts : List Hosts) →
    hosts_of_pieces prefix parts ≡ Some hosts → AllZip (IsPiece prefix) parts hosts
pieces_were_read prefix [] hosts e = let P : List Hosts → Type 0 = λ hs. AllZip (IsPiece prefix) [] hs in
    subst P (same_Some [] hosts e) tt
pieces_were_read prefix (part ∷ parts) hosts e =
    option_and_then_some (λ numbers. option_map (λ others. Many prefix numbers.lo numbers.hi numbers.width ∷ others)
    (hosts_of_pieces prefix parts)) (numbers_of (length prefix) part) hosts e
    (λ numbers here rest. by_others numbers (piece_was_read prefix part numbers here)
    (hosts_of_pieces prefix parts) (λ others f. pieces_were_read prefix parts others f) refl rest)
  where
    by_others : (numbers : Numbers) → WasPiece prefix part numbers → (o : Option (List Hosts)) →
        ((others : List Hosts) → hosts_of_pieces prefix parts ≡ Some others → AllZip (IsPiece prefix) parts others) →
        hosts_of_pieces prefix parts ≡ o
        → option_map (λ others. Many prefix numbers.lo numbers.hi numbers.width ∷ others) o ≡ Some hosts →
        AllZip (IsPiece prefix) (part ∷ parts) hosts
    by_others numbers was None later read f = absurd cc
    by_others numbers was (Some others) later read f =
        let P : List Hosts → Type 0 = λ hs. AllZip (IsPiece prefix) (part ∷ parts) hs in
        subst P (same_Some (Many prefix numbers.lo numbers.hi numbers.width ∷ others) hosts f)
        ((refl, was.first, was.last, was.lists), later others read)

ends_of-lists : (prefix piece first last : List ℕ) (lo hi width : ℕ) →
    Lists prefix piece first last lo hi width → ends_of piece ≡ (first, last)
ends_of-lists prefix piece first last lo hi width is = elim is.spelled [
  | inl alone ↦ ap ends_of alone.0 ∙ ends_of-digits first is.low.digits ∙ ap (λ (x : List ℕ). (first, x)) (sym alone.1)
  | inr both ↦ ap ends_of both ∙ ends_of-joined first last is.low.digits
]

piece_is_read : (prefix piece first last : List ℕ) (lo hi width : ℕ) → Lists prefix piece first last lo hi width →
    numbers_of (length prefix) piece ≡ Some (record { lo = lo; hi = hi; width = width })
piece_is_read prefix piece first last lo hi width is =
    ap (numbers_between (length prefix)) (ends_of-lists prefix piece first last lo hi width is)
    ∙ ap (λ (o : Option ℕ). option_and_then (λ l. option_and_then (λ h. cond (fits (length prefix) first last l h)
    (Some (record { lo = l; hi = h; width = width_of first })) None) (host_number last)) o)
    (number_is_read first lo is.low)
    ∙ ap (λ (o : Option ℕ). option_and_then (λ h. cond (fits (length prefix) first last lo h)
    (Some (record { lo = lo; hi = h; width = width_of first })) None) o) (number_is_read last hi is.high)
    ∙ ap (λ (t : Bool). cond t (Some (record { lo = lo; hi = hi; width = width_of first })) None) fit
    ∙ ap (λ (w : ℕ). Some (record { lo = lo; hi = hi; width = w })) (sym is.width_is)
  where
    wide_by : (z : Bool) → (z ≡ true → length last ≡ length first) → (not z || eqb (length last) (length first)) ≡ true
    wide_by true wide = eq-eqb _ _ (wide refl)
    wide_by false wide = refl

    fit : fits (length prefix) first last lo hi ≡ true
    fit = and_from _ _ (and_from _ _ (le-leb lo hi is.ordered) (wide_by (has_leading_zero first) is.wide))
        (le-leb (length prefix + length (padded (width_of first) hi)) MOST_NAME_BYTES
        (last_short prefix (width_of first) lo hi is.ordered (let P : ℕ → Type 0 = λ w. All (λ name.
        length name ≤ MOST_NAME_BYTES) (names_from prefix w (hi + 1 - lo) lo) in subst P is.width_is is.short)))

pieces_are_read : (prefix : List ℕ) (parts : List (List ℕ)) (hosts : List Hosts) →
    AllZip (IsPiece prefix) parts hosts → hosts_of_pieces prefix parts ≡ Some hosts
pieces_are_read prefix [] [] are = refl
pieces_are_read prefix [] (host ∷ hosts) are = absurd are
pieces_are_read prefix (part ∷ parts) [] are = absurd are
pieces_are_read prefix (part ∷ parts) (One name ∷ hosts) are = absurd are.0
pieces_are_read prefix (part ∷ parts) (Many own lo hi width ∷ hosts) are =
    ap (option_and_then (λ numbers. option_map (λ others. Many prefix numbers.lo numbers.hi numbers.width ∷ others)
    (hosts_of_pieces prefix parts))) (piece_is_read prefix part are.0.1 are.0.2 lo hi width are.0.3)
    ∙ ap (option_map (λ others. Many prefix lo hi width ∷ others)) (pieces_are_read prefix parts hosts are.1)
    ∙ ap (λ (p : List ℕ). Some (Many p lo hi width ∷ hosts)) (sym are.0.0)

piece_plain : (prefix piece first last : List ℕ) (lo hi width : ℕ) →
    Lists prefix piece first last lo hi width → list_all is_plain piece ≡ true
piece_plain prefix piece first last lo hi width is = elim is.spelled [
  | inl alone ↦ ap (list_all is_plain) alone.0 ∙ digits_plain first is.low.digits
  | inr both ↦ ap (list_all is_plain) both ∙ ends_plain first last is.low.digits is.high.digits
]

pieces_plain : (prefix : List ℕ) (parts : List (List ℕ)) (hosts : List Hosts) →
    AllZip (IsPiece prefix) parts hosts → list_all (list_all is_plain) parts ≡ true
pieces_plain prefix [] [] are = refl
pieces_plain prefix [] (host ∷ hosts) are = absurd are
pieces_plain prefix (part ∷ parts) [] are = absurd are
pieces_plain prefix (part ∷ parts) (One name ∷ hosts) are = absurd are.0
pieces_plain prefix (part ∷ parts) (Many own lo hi width ∷ hosts) are =
    and_from _ _ (piece_plain prefix part are.0.1 are.0.2 lo hi width are.0.3) (pieces_plain prefix parts hosts are.1)

-- ---- items

prefix_bytes : (prefix : List ℕ) → (prefix ≡ []) ⊎ IsTrue (is_host_name prefix) → (list_all is_name_byte prefix ≡ true)
    × (length prefix ≤ MOST_NAME_BYTES)
prefix_bytes prefix (inl none) = (ap (list_all is_name_byte) none, omega (arith, ap length none))
prefix_bytes prefix (inr is) = let parts = name_parts prefix is in (parts.bytes, parts.short)

list_is_read : (prefix piece : List ℕ) (others : List (List ℕ)) (hosts : List Hosts) → (prefix ≡ [])
    ⊎ IsTrue (is_host_name prefix) → AllZip (IsPiece prefix) (piece ∷ others) hosts →
    hosts_of_list prefix (join_with_byte 44 (piece ∷ others)) ≡ Some hosts
list_is_read prefix piece others hosts fine are =
    let bytes = prefix_bytes prefix fine in
    ap (λ (t : Bool). cond t (hosts_of_pieces prefix (pieces false (join_with_byte 44 (piece ∷ others)))) None)
    (prefix_is_fine prefix bytes.0 bytes.1)
    ∙ ap (hosts_of_pieces prefix) (pieces-join piece others (pieces_plain prefix (piece ∷ others) hosts are))
    ∙ pieces_are_read prefix (piece ∷ others) hosts are

item_is_read : (item : List ℕ) (hosts : List Hosts) → IsHostItem item hosts → hosts_of_item item ≡ Some hosts
item_is_read item hosts (inl (is, one)) =
    ap (λ (t : Bool). cond t (Some (One item ∷ [])) (option_and_then (λ place. hosts_of_list
    (take place item) (take (length item - 1 - (place + 1)) (drop (place + 1) item))) (list_place item))) is
    ∙ ap (λ (hs : List Hosts). Some hs) (sym one)
item_is_read item hosts (inr (prefix, piece, others, fine, are, spelled)) =
    ap hosts_of_item spelled ∙ hosts_of_item-listed prefix (join_with_byte 44 (piece ∷ others))
    (Some hosts) (prefix_bytes prefix fine).0 (list_is_read prefix piece others hosts fine are)

-- no byte opens or closes
abbrev stays : ℕ → Bool
stays byte = not (eqb byte 91) && not (eqb byte 93)

plain_stays : (bytes : List ℕ) → list_all is_plain bytes ≡ true → list_all stays bytes ≡ true
plain_stays [] p = refl
plain_stays (byte ∷ bytes) p =
    let both = and_parts (is_plain byte) (list_all is_plain bytes) p in
    let parts = plain_parts byte both.0 in
    and_from (stays byte) (list_all stays bytes)
    (and_from (not (eqb byte 91)) (not (eqb byte 93)) (ap not parts.1) (ap not parts.2)) (plain_stays bytes both.1)

join_stays : (parts : List (List ℕ)) →
    list_all (list_all is_plain) parts ≡ true → list_all stays (join_with_byte 44 parts) ≡ true
join_stays [] p = refl
join_stays (part ∷ []) p = plain_stays part (and_parts _ _ p).0
join_stays (part ∷ next ∷ parts) p =
    let both = and_parts _ _ p in
    list_all-append stays part (44 ∷ join_with_byte 44 (next ∷ parts))
    ∙ and_from _ _ (plain_stays part both.0) (join_stays (next ∷ parts) both.1)

-- inside brackets a comma parts nothing
pieces-inside : (front rest : List ℕ) →
    list_all stays front ≡ true → pieces true (front ++ rest) ≡ with_front front (pieces true rest)
pieces-inside [] rest s = sym (kept rest)
  where
    nothing : (parts : List (List ℕ)) → 0 < length parts → with_front [] parts ≡ parts
    nothing [] some = absurd (omega arith)
    nothing (part ∷ parts) some = refl

    kept : (rest : List ℕ) → with_front [] (pieces true rest) ≡ pieces true rest
    kept rest = nothing (pieces true rest) (some_pieces true rest)
pieces-inside (byte ∷ front) rest s =
    let both = and_parts _ _ s in
    let test = and_parts _ _ both.0 in
    in_brackets (eqb byte 44)
    ∙ ap (λ (t : Bool). with_front (byte ∷ []) (pieces (cond t true (cond (eqb byte 93) false true)) (front ++ rest)))
    (not-true _ test.0)
    ∙ ap (λ (t : Bool). with_front (byte ∷ []) (pieces (cond t false true) (front ++ rest))) (not-true _ test.1)
    ∙ ap (with_front (byte ∷ [])) (pieces-inside front rest both.1)
    ∙ with_front-with_front (byte ∷ []) front (pieces true rest)
  where
    in_brackets : (b : Bool) → cond (b && false)
        ([] ∷ pieces false (front ++ rest)) (with_front (byte ∷ []) (pieces (is_inside true byte) (front ++ rest)))
        ≡ with_front (byte ∷ []) (pieces (is_inside true byte) (front ++ rest))
    in_brackets true = refl
    in_brackets false = refl

-- an item joins what follows it
abbrev IsClosed : List ℕ → Type 0
IsClosed item = (rest : List ℕ) → pieces false (item ++ rest) ≡ with_front item (pieces false rest)

listed_closed : (prefix list : List ℕ) →
    list_all is_plain prefix ≡ true → list_all stays list ≡ true → IsClosed (listed prefix list)
listed_closed prefix list p s rest =
    ap (pieces false) (append_assoc prefix (91 ∷ (list ++ 93 ∷ [])) rest
    ∙ ap (λ (x : List ℕ). prefix ++ 91 ∷ x) (append_assoc list (93 ∷ []) rest))
    ∙ pieces-plain_front false prefix (91 ∷ (list ++ 93 ∷ rest)) p
    ∙ ap (λ (ps : List (List ℕ)). with_front prefix (with_front (91 ∷ []) ps)) (pieces-inside list (93 ∷ rest) s)
    ∙ ap (with_front prefix) (with_front-with_front (91 ∷ []) list (with_front (93 ∷ []) (pieces false rest)))
    ∙ ap (with_front prefix) (with_front-with_front (91 ∷ list) (93 ∷ []) (pieces false rest))
    ∙ with_front-with_front prefix (91 ∷ (list ++ 93 ∷ [])) (pieces false rest)

item_closed : (item : List ℕ) (hosts : List Hosts) → IsHostItem item hosts → IsClosed item
item_closed item hosts (inl (is, one)) rest =
    pieces-plain_front false item rest (name_bytes_plain item (name_parts item is).bytes)
item_closed item hosts (inr (prefix, piece, others, fine, are, spelled)) rest =
    let P : List ℕ → Type 0 = λ x. pieces false (x ++ rest) ≡ with_front x (pieces false rest) in
    subst P (sym spelled) (listed_closed prefix
    (join_with_byte 44 (piece ∷ others)) (name_bytes_plain prefix (prefix_bytes prefix fine).0)
    (join_stays (piece ∷ others) (pieces_plain prefix (piece ∷ others) hosts are)) rest)

-- items with commas between are cut apart again
items_cut : (item : List ℕ) (items : List (List ℕ)) (hosts : List Hosts) →
    AreHostItems (item ∷ items) hosts → pieces false (join_with_byte 44 (item ∷ items)) ≡ item ∷ items
items_cut item [] hosts (own, others, is, rest, all) =
    ap (pieces false) (sym (append-nil item))
    ∙ item_closed item own is [] ∙ ap (λ (x : List ℕ). x ∷ []) (append-nil item)
items_cut item (next ∷ items) hosts (own, others, is, rest, all) =
    item_closed item own is (44 ∷ join_with_byte 44 (next ∷ items))
    ∙ ap (λ (x : List ℕ). x ∷ pieces false (join_with_byte 44 (next ∷ items))) (append-nil item)
    ∙ ap (λ (xs : List (List ℕ)). item ∷ xs) (items_cut next items others rest)

items_are_read : (at : ℕ) (items : List (List ℕ)) (hosts : List Hosts) →
    AreHostItems items hosts → hosts_of (placed at items) ≡ Ok hosts
items_are_read at [] hosts none = ap (λ (hs : List Hosts). Ok hs) (sym none)
items_are_read at (item ∷ items) hosts (own, others, is, rest, all) =
    ap (λ (o : Option (List Hosts)). with_hosts at o (hosts_of (placed (at + length item + 1) items)))
    (item_is_read item own is)
    ∙ ap (with_first own) (items_are_read (at + length item + 1) items others rest)
    ∙ ap (λ (hs : List Hosts). Ok hs) (sym all)

item_some : (item : List ℕ) (hosts : List Hosts) → IsHostItem item hosts → 0 < length item
item_some item hosts (inl (is, one)) = (name_parts item is).some
item_some item hosts (inr (prefix, piece, others, fine, are, spelled)) =
    omega (arith, ap length spelled, length-append prefix (91 ∷ (join_with_byte 44 (piece ∷ others) ++ 93 ∷ [])))

join_some : (item : List ℕ) (items : List (List ℕ)) → 0 < length item → 0 < length (join_with_byte 44 (item ∷ items))
join_some item [] some = some
join_some item (next ∷ items) some = omega (arith, length-append item (44 ∷ join_with_byte 44 (next ∷ items)))

-- what is in the grammar is read
pub hostlist_is_read : (text : List ℕ) (hosts : List Hosts) → IsHostlist text hosts → hostlist_of text ≡ Ok hosts
hostlist_is_read text hosts (inl (none, no_hosts)) =
    ap hostlist_of none ∙ ap (λ (hs : List Hosts). Ok hs) (sym no_hosts)
hostlist_is_read text hosts (inr (item, items, are, joined)) =
    hostlist_of-some text (omega (arith, ap length joined, join_some item items (item_some item are.0 are.2)))
    ∙ ap (λ (t : List ℕ). hosts_of (items_of 0 t)) joined
    ∙ ap (λ (ps : List (List ℕ)). hosts_of (placed 0 ps)) (items_cut item items hosts are)
    ∙ items_are_read 0 (item ∷ items) hosts are

-- ---- what was read

-- an item with a list is the prefix, '[', the list and ']'
list_parts : (item : List ℕ) (place : ℕ) → list_place item ≡ Some place →
    item ≡ take place item ++ 91 ∷ (take (length item - 1 - (place + 1)) (drop (place + 1) item) ++ 93 ∷ [])
list_parts item place e = by_test (eqb (get_or item (length item - 1) 0) 93) refl e
  where
    by_test : (b : Bool) →
        eqb (get_or item (length item - 1) 0) 93 ≡ b → cond b (position (λ byte. eqb byte 91) item) None ≡ Some place →
        item ≡ take place item ++ 91 ∷ (take (length item - 1 - (place + 1)) (drop (place + 1) item) ++ 93 ∷ [])
    by_test false closed f = absurd cc
    by_test true closed f =
        let at = position-Some (λ byte. eqb byte 91) item place 0 f in
        let open_is : get_or item place 0 ≡ 91 = eqb-true _ _ at.1 in
        let close_is : get_or item (length item - 1) 0 ≡ 93 = eqb-true _ _ closed in
        let differ : place ≢ length item - 1 =
        λ same. omega (arith, open_is, close_is, ap (λ (k : ℕ). get_or item k 0) same) in
        let within : place + 1 < length item = omega (arith, at.0, differ) in
        let rest : List ℕ = drop (place + 1) item in
        let n : ℕ = length item - 1 - (place + 1) in
        let rest_len : length rest ≡ n + 1 = omega (arith, length-drop (place + 1) item) in
        let last_place : place + 1 + n ≡ length item - 1 = omega arith in
        let last : get_or rest n 0 ≡ 93 =
        get_or-drop (place + 1) item n 0 ∙ ap (λ (k : ℕ). get_or item k 0) last_place ∙ close_is in
        let tail : drop n rest ≡ 93 ∷ [] = drop_more rest n 0 (omega arith) ∙ ap (λ (b : ℕ). b ∷ drop (n + 1) rest) last
        ∙ ap (λ (x : List ℕ). 93 ∷ x) (drop_all (n + 1) rest (omega arith)) in
        sym (take-append-drop place item)
        ∙ ap (λ (x : List ℕ). take place item ++ x) (drop_more item place 0 at.0 ∙ ap (λ (b : ℕ). b ∷ rest) open_is)
        ∙ ap (λ (x : List ℕ). take place item ++ 91 ∷ x)
        (sym (take-append-drop n rest) ∙ ap (λ (x : List ℕ). take n rest ++ x) tail)

fine_prefix : (prefix : List ℕ) → (eqb (length prefix) 0 || is_host_name prefix) ≡ true → (prefix ≡ [])
    ⊎ IsTrue (is_host_name prefix)
fine_prefix [] e = inl refl
fine_prefix (byte ∷ prefix) e = elim
    (or_cases (eqb (length (byte ∷ prefix)) 0) (is_host_name (byte ∷ prefix)) e) [
      | inl none ↦ absurd
          (omega (arith, eqb-true (length (byte ∷ prefix)) 0 none))
      | inr is ↦ inr is
    ]

-- what a list that was read is
record WasList (prefix list : List ℕ) (hosts : List Hosts) : Type 0 where
  piece : List ℕ
  others : List (List ℕ)
  fine : (prefix ≡ []) ⊎ IsTrue (is_host_name prefix)
  are : AllZip (IsPiece prefix) (piece ∷ others) hosts
  joined : join_with_byte 44 (piece ∷ others) ≡ list

list_was_read : (prefix list : List ℕ) (hosts : List Hosts) →
    hosts_of_list prefix list ≡ Some hosts → WasList prefix list hosts
list_was_read prefix list hosts e = by_test (eqb (length prefix) 0 || is_host_name prefix) refl e
  where
    by_parts : (parts : List (List ℕ)) → 0 < length parts → join_with_byte 44 parts ≡ list →
        (eqb (length prefix) 0 || is_host_name prefix) ≡ true → hosts_of_pieces prefix parts ≡ Some hosts →
        WasList prefix list hosts
    by_parts [] some joined fine f = absurd (omega arith)
    by_parts (piece ∷ others) some joined fine f = record {
      piece = piece;
      others = others;
      fine = fine_prefix prefix fine;
      are = pieces_were_read prefix (piece ∷ others) hosts f;
      joined = joined;
    }

    by_test : (b : Bool) → (eqb (length prefix) 0 || is_host_name prefix) ≡ b →
        cond b (hosts_of_pieces prefix (pieces false list)) None ≡ Some hosts → WasList prefix list hosts
    by_test true fine f = by_parts (pieces false list) (some_pieces false list) (join-pieces false list) fine f
    by_test false fine f = absurd cc

item_was_read : (item : List ℕ) (hosts : List Hosts) → hosts_of_item item ≡ Some hosts → IsHostItem item hosts
item_was_read item hosts e = by_test (is_host_name item) refl e
  where
    by_test : (b : Bool) → is_host_name item ≡ b →
        cond b (Some (One item ∷ [])) (option_and_then
        (λ place. hosts_of_list (take place item) (take (length item - 1 - (place + 1)) (drop (place + 1) item)))
        (list_place item)) ≡ Some hosts → IsHostItem item hosts
    by_test true is f = inl (is, sym (same_Some (One item ∷ []) hosts f))
    by_test false is f =
        option_and_then_some (λ place. hosts_of_list
        (take place item) (take (length item - 1 - (place + 1)) (drop (place + 1) item))) (list_place item) hosts f
        (λ place found read.
        let was =
        list_was_read (take place item) (take (length item - 1 - (place + 1)) (drop (place + 1) item)) hosts read in
        inr (
          take place item,
          was.piece,
          was.others,
          was.fine,
          was.are,
          list_parts item place found
              ∙ ap (λ (x : List ℕ). take place item ++ 91 ∷ (x ++ 93 ∷ [])) (sym was.joined),
        ))

ok_hosts : (x y : List Hosts) → ◌≡◌ {A = Result (List Hosts) ℕ} (Ok x) (Ok y) → x ≡ y
ok_hosts x y e = cc

items_were_read : (at : ℕ) (parts : List (List ℕ)) (hosts : List Hosts) →
    hosts_of (placed at parts) ≡ Ok hosts → AreHostItems parts hosts
items_were_read at [] hosts e = sym (ok_hosts [] hosts e)
items_were_read at (part ∷ parts) hosts e =
    by_item (λ others f. items_were_read (at + length part + 1) parts others f) (hosts_of_item part) refl e
  where
    by_others : ((others : List Hosts) → hosts_of (placed (at + length part + 1) parts) ≡ Ok others →
        AreHostItems parts others) → (own : List Hosts) → hosts_of_item part ≡ Some own
        → (r : Result (List Hosts) ℕ) → hosts_of (placed (at + length part + 1) parts) ≡ r →
        with_first own r ≡ Ok hosts → AreHostItems (part ∷ parts) hosts
    by_others later own here (Ok others) read f =
        (own, others, item_was_read part own here, later others read, sym (ok_hosts (own ++ others) hosts f))
    by_others later own here (Err fault) read f = absurd cc

    by_item : ((others : List Hosts) → hosts_of (placed (at + length part + 1) parts) ≡ Ok others →
        AreHostItems parts others) → (o : Option (List Hosts)) → hosts_of_item part ≡ o
        → with_hosts at o (hosts_of (placed (at + length part + 1) parts)) ≡ Ok hosts →
        AreHostItems (part ∷ parts) hosts
    by_item later None here f = absurd cc
    by_item later (Some own) here f = by_others later own here (hosts_of (placed (at + length part + 1) parts)) refl f

-- what is read is in the grammar
pub hostlist_was_read : (text : List ℕ) (hosts : List Hosts) → hostlist_of text ≡ Ok hosts → IsHostlist text hosts
hostlist_was_read [] hosts e = inl (refl, sym (ok_hosts [] hosts e))
hostlist_was_read (byte ∷ bytes) hosts e = by_parts (pieces false (byte ∷ bytes)) (some_pieces false (byte ∷ bytes))
    (join-pieces false (byte ∷ bytes)) (items_were_read 0 (pieces false (byte ∷ bytes)) hosts e)
  where
    by_parts : (parts : List (List ℕ)) → 0 < length parts →
        join_with_byte 44 parts ≡ byte ∷ bytes → AreHostItems parts hosts → IsHostlist (byte ∷ bytes) hosts
    by_parts [] some joined are = absurd (omega arith)
    by_parts (item ∷ items) some joined are = inr (item, items, are, sym joined)

-- ---- a reader's answer

pub hosts_found_by : (text : List ℕ) (r : Result (List Hosts) TextFault) → IsResultOf r (hostlist_of text) →
    IfOk r (λ hosts. IsHostlist text hosts)
hosts_found_by text (Ok hosts) e = hostlist_was_read text hosts e
hosts_found_by text (Err fault) e = tt

pub hosts_only_by : (text : List ℕ) (r : Result (List Hosts) TextFault) (hosts : List Hosts) →
    IsResultOf r (hostlist_of text) → IsHostlist text hosts → IsResultOf r (Ok hosts)
hosts_only_by text r hosts e is = let P : Result (List Hosts) ℕ →
    Type 0 = λ read. IsResultOf r read in subst P (hostlist_is_read text hosts is) e
