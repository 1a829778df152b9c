-- What the texts of runs read as.
use Rattle.std.proofs.Common.{◌≡◌, ℕ, ◌+◌, ◌-◌, ◌<◌, ◌≤◌, ◌^◌, Bool, true, false, not, ◌&&◌, ◌||◌, cond, eqb, leb, List}
use Rattle.std.proofs.Common.{[], ◌∷◌, ◌++◌, length, get_or, take, drop, Option, Some, None, Ok, refl, sym, ap, subst}
use Rattle.std.proofs.Common.{◌∙◌, inl, inr, append_assoc, arith, All}
use Rattle.std.specs.Prelude.{map, IsTrue}
use Rattle.std.specs.Fmt.{decimal}
use Rattle.std.specs.List.{list_all, position}
use Rattle.std.specs.Option.{option_and_then}
use Rattle.std.specs.Char.{is_ascii_digit}
use Rattle.std.proofs.lemmas.Bool.{and_parts, and_from, and_right, or_cases, cases_Bool, not-true, both_ways, leb-true}
use Rattle.std.proofs.lemmas.Bool.{le-leb, lt-ltb, ltb-true, eqb-true, eq-eqb, ne_eqb, or_right}
use Rattle.std.proofs.lemmas.Slice.Eq.{bytes_eq-Decides}
use Rattle.std.proofs.lemmas.List.{length-append, take-append-drop, take_at, get_or_at, get_or_push, append-nil}
use Rattle.std.proofs.lemmas.List.{map-append}
use Rattle.std.proofs.lemmas.List.Elements.{All-head, All-tail}
use Rattle.std.proofs.lemmas.List.Sums.{AllPass-from_list_all}
use Rattle.std.proofs.lemmas.List.Folds.{list_all-append, list_all_at}
use Rattle.std.proofs.lemmas.Str.Parse.{digits_value_short}
use Rattle.std.proofs.lemmas.Fmt.{length-decimal-le}
use Rattle.std.proofs.lemmas.Option.{same_Some}
use Rattle.flux_defs.specs.declared.limits.TheConstants.{MOST_NAME_BYTES}
use Rattle.idset_text.specs.declared.hostlists.Hosts.{Hosts}
use Rattle.idset_text.specs.declared.hostlists.Hosts.TheVariants.{One, Many}
use Rattle.idset_text.specs.declared.hostlists.Numbers.{Numbers}
use Rattle.idset_text.specs.Items.{pieces, placed, with_front, items_of}
use Rattle.idset_text.specs.Numbers.{value_of, are_digits, has_leading_zero, number_of}
use Rattle.idset_text.specs.Idsets.{ids_from}
use Rattle.idset_text.specs.Hostlists.{is_host_name, host_number, padded, width_of, fits, numbers_between}
use Rattle.idset_text.specs.Hostlists.{hosts_of_pieces, hosts_of_list, list_place, hosts_of_item, with_hosts, hosts_of}
use Rattle.idset_text.specs.Hostlists.{hostlist_of, names_from, names_of, digits_place, prefix_of, digits_of, follows}
use Rattle.idset_text.specs.Hostlists.{is_alike, continues, run_text, texts_from, hostlist_texts, AreHostlistsOf}
use Rattle.text_forms.specs.Names.{is_name_byte}
use Rattle.idset_text.proofs.NumberLemmas.{own_digits, WritesNumber, number_was_written, digits_are_decimal}
use Rattle.idset_text.proofs.ItemLemmas.{is_plain, pieces-plain_front, pieces-join, position-first, drop-behind}
use Rattle.idset_text.proofs.ItemLemmas.{ends_of-joined}
use Rattle.idset_text.proofs.IdsetTexts.{digits_plain, ids_from-add}
use Rattle.idset_text.proofs.HostLemmas.{padded-plain, padded-written}

-- ---- names

name_byte_plain : (byte : ℕ) → is_name_byte byte ≡ true → is_plain byte ≡ true
name_byte_plain byte h =
    and_from _ _ (and_from _ _ (ap not (ne_eqb byte 44 (λ e. both_ways (is_name_byte byte) (ap is_name_byte e) h)))
    (ap not (ne_eqb byte 91 (λ e. both_ways (is_name_byte byte) (ap is_name_byte e) h))))
    (ap not (ne_eqb byte 93 (λ e. both_ways (is_name_byte byte) (ap is_name_byte e) h)))

pub name_bytes_plain : (bytes : List ℕ) → list_all is_name_byte bytes ≡ true → list_all is_plain bytes ≡ true
name_bytes_plain [] h = refl
name_bytes_plain (byte ∷ bytes) h = let both = and_parts _ _ h in
    and_from _ _ (name_byte_plain byte both.0) (name_bytes_plain bytes both.1)

-- what a name keeps
pub record NameParts (name : List ℕ) : Type 0 where
  pub some : 0 < length name
  pub short : length name ≤ MOST_NAME_BYTES
  pub bytes : list_all is_name_byte name ≡ true

pub name_parts : (name : List ℕ) → is_host_name name ≡ true → NameParts name
name_parts name h =
    let both = and_parts _ _ h in
    let first = and_parts _ _ both.0 in
    record { some = ltb-true _ _ first.0; short = leb-true _ _ first.1; bytes = both.1 }

-- a name is read as itself
hostlist_of-name : (name : List ℕ) → is_host_name name ≡ true → hostlist_of name ≡ Ok (One name ∷ [])
hostlist_of-name [] h = absurd cc
hostlist_of-name (byte ∷ bytes) h =
    let name : List ℕ = byte ∷ bytes in
    let plain : list_all is_plain name ≡ true = name_bytes_plain name (name_parts name h).bytes in
    ap (λ (ps : List (List ℕ)). hosts_of (placed 0 ps)) (pieces-join name [] (and_from _ _ plain refl))
    ∙ ap (λ (t : Bool). with_hosts 0 (cond t (Some (One name ∷ [])) (option_and_then (λ place. hosts_of_list
    (take place name) (take (length name - 1 - (place + 1)) (drop (place + 1) name))) (list_place name))) (Ok [])) h

-- ---- a run's text

-- a prefix and the ends of its numbers, as they stand in a text
abbrev pub listed : List ℕ → List ℕ → List ℕ
listed prefix list = prefix ++ 91 ∷ (list ++ 93 ∷ [])

pieces-listed : (prefix list : List ℕ) → list_all is_plain prefix ≡ true →
    list_all is_plain list ≡ true → pieces false (listed prefix list) ≡ listed prefix list ∷ []
pieces-listed prefix list p l =
    pieces-plain_front false prefix (91 ∷ (list ++ 93 ∷ [])) p
    ∙ ap (λ (ps : List (List ℕ)). with_front prefix (with_front (91 ∷ []) ps))
    (pieces-plain_front true list (93 ∷ []) l)

listed_is_no_name : (prefix list : List ℕ) → is_host_name (listed prefix list) ≡ false
listed_is_no_name prefix list =
    and_right _ _ (list_all_at is_name_byte (listed prefix list) (length prefix) 0 (omega (
      arith,
      length-append prefix
          (91 ∷ (list ++ 93 ∷ [])),
    )) (ap is_name_byte (get_or_at prefix 91 (list ++ 93 ∷ []) 0 (length prefix) refl)))

list_place-listed : (prefix list : List ℕ) →
    list_all is_name_byte prefix ≡ true → list_place (listed prefix list) ≡ Some (length prefix)
list_place-listed prefix list p =
    let text : List ℕ = listed prefix list in
    let parted : text ≡ (prefix ++ 91 ∷ list) ++ 93 ∷ [] = sym (append_assoc prefix (91 ∷ list) (93 ∷ [])) in
    let before : length (prefix ++ 91 ∷ list) ≡ length text - 1 =
    omega (arith, ap length parted, length-append (prefix ++ 91 ∷ list) (93 ∷ [])) in
    let last : get_or text (length text - 1) 0 ≡ 93 = ap (λ (t : List ℕ). get_or t (length text - 1) 0) parted
    ∙ get_or_push (prefix ++ 91 ∷ list) 93 0 (length text - 1) before in
    ap (λ (t : Bool). cond t (position (λ byte. eqb byte 91) text) None) (eq-eqb _ _ last)
    ∙ position-first (λ byte. eqb byte 91) prefix 91 (list ++ 93 ∷ [])
    (λ k lt. ne_eqb (get_or prefix k 0) 91 (λ e. both_ways (is_name_byte (get_or prefix k 0))
    (ap is_name_byte e) (AllPass-from_list_all is_name_byte prefix p k 0 lt))) refl

-- a prefix of a name is one, or nothing
pub prefix_is_fine : (prefix : List ℕ) → list_all is_name_byte prefix ≡ true → length prefix ≤ MOST_NAME_BYTES →
    (eqb (length prefix) 0 || is_host_name prefix) ≡ true
prefix_is_fine [] p short = refl
prefix_is_fine (byte ∷ prefix) p short = or_right (eqb (length (byte ∷ prefix)) 0) (is_host_name (byte ∷ prefix))
    (and_from _ _ (and_from _ _ (lt-ltb 0 (length (byte ∷ prefix)) (omega arith))
    (le-leb (length (byte ∷ prefix)) MOST_NAME_BYTES short)) p)

pub hosts_of_item-listed : (prefix list : List ℕ) (hosts : Option (List Hosts)) →
    list_all is_name_byte prefix ≡ true → hosts_of_list prefix list ≡ hosts → hosts_of_item (listed prefix list) ≡ hosts
hosts_of_item-listed prefix list hosts p read =
    let text : List ℕ = listed prefix list in
    let len : length text - 1 - (length prefix + 1) ≡ length list =
    omega (arith, length-append prefix (91 ∷ (list ++ 93 ∷ [])), length-append list (93 ∷ [])) in
    ap (λ (t : Bool). cond t (Some (One text ∷ [])) (option_and_then (λ place. hosts_of_list (take place text) (take
    (length text - 1 - (place + 1)) (drop (place + 1) text))) (list_place text))) (listed_is_no_name prefix list)
    ∙ ap (option_and_then (λ place. hosts_of_list (take place text)
    (take (length text - 1 - (place + 1)) (drop (place + 1) text)))) (list_place-listed prefix list p)
    ∙ ap (λ (x : List ℕ). hosts_of_list x (take (length text - 1 - (length prefix + 1))
    (drop (length prefix + 1) text))) (take_at prefix (91 ∷ (list ++ 93 ∷ [])) (length prefix) refl)
    ∙ ap (λ (x : List ℕ). hosts_of_list prefix (take (length text - 1 - (length prefix + 1)) x))
    (drop-behind prefix 91 (list ++ 93 ∷ []))
    ∙ ap (hosts_of_list prefix) (take_at list (93 ∷ []) (length text - 1 - (length prefix + 1)) (sym len))
    ∙ read

-- what a run's text needs to be read
record Reads (prefix first last : List ℕ) (lo hi : ℕ) : Type 0 where
  prefix_bytes : list_all is_name_byte prefix ≡ true
  prefix_short : length prefix ≤ MOST_NAME_BYTES
  first_digits : are_digits first ≡ true
  last_digits : are_digits last ≡ true
  first_number : host_number first ≡ Some lo
  last_number : host_number last ≡ Some hi
  fit : fits (length prefix) first last lo hi ≡ true

pub ends_plain : (first last : List ℕ) →
    are_digits first ≡ true → are_digits last ≡ true → list_all is_plain (first ++ 45 ∷ last) ≡ true
ends_plain first last f l =
    list_all-append is_plain first (45 ∷ last) ∙ and_from _ _ (digits_plain first f) (digits_plain last l)

hosts_of_list-run : (prefix first last : List ℕ) (lo hi : ℕ) → Reads prefix first last lo hi →
    hosts_of_list prefix (first ++ 45 ∷ last) ≡ Some (Many prefix lo hi (width_of first) ∷ [])
hosts_of_list-run prefix first last lo hi r =
    let list : List ℕ = first ++ 45 ∷ last in
    let one : Numbers → Option (List Hosts) = λ numbers. Some (Many prefix numbers.lo numbers.hi numbers.width ∷ []) in
    ap (λ (t : Bool). cond t (hosts_of_pieces prefix (pieces false list)) None)
    (prefix_is_fine prefix r.prefix_bytes r.prefix_short)
    ∙ ap (hosts_of_pieces prefix)
    (pieces-join list [] (and_from _ _ (ends_plain first last r.first_digits r.last_digits) refl))
    ∙ ap (λ (ends : List ℕ × List ℕ). option_and_then one (numbers_between (length prefix) ends))
    (ends_of-joined first last r.first_digits)
    ∙ ap (λ (o : Option ℕ).
    option_and_then one (option_and_then (λ l. option_and_then (λ h. cond (fits (length prefix) first last l h)
    (Some (record { lo = l; hi = h; width = width_of first })) None) (host_number last)) o)) r.first_number
    ∙ ap (λ (o : Option ℕ). option_and_then one (option_and_then (λ h. cond (fits (length prefix) first last lo h)
    (Some (record { lo = lo; hi = h; width = width_of first })) None) o)) r.last_number
    ∙ ap (λ (t : Bool). option_and_then one (cond t (Some (record { lo = lo; hi = hi; width = width_of first })) None))
    r.fit

pub hostlist_of-some : (text : List ℕ) → 0 < length text → hostlist_of text ≡ hosts_of (items_of 0 text)
hostlist_of-some [] some = absurd (omega arith)
hostlist_of-some (byte ∷ bytes) some = refl

hostlist_of-run : (prefix first last : List ℕ) (lo hi : ℕ) → Reads prefix first last lo hi →
    hostlist_of (prefix ++ 91 ∷ first ++ 45 ∷ last ++ 93 ∷ []) ≡ Ok (Many prefix lo hi (width_of first) ∷ [])
hostlist_of-run prefix first last lo hi r =
    let list : List ℕ = first ++ 45 ∷ last in
    let text : List ℕ = listed prefix list in
    let grouped : prefix ++ 91 ∷ first ++ 45 ∷ last ++ 93 ∷ [] ≡ text = ap (λ (t : List ℕ). t ++ 93 ∷ [])
    (append_assoc prefix (91 ∷ first) (45 ∷ last)) ∙ append_assoc prefix (91 ∷ list) (93 ∷ []) in
    ap hostlist_of grouped
    ∙ hostlist_of-some text (omega (arith, length-append prefix (91 ∷ (list ++ 93 ∷ []))))
    ∙ ap (λ (ps : List (List ℕ)). hosts_of (placed 0 ps)) (pieces-listed prefix list
    (name_bytes_plain prefix r.prefix_bytes) (ends_plain first last r.first_digits r.last_digits))
    ∙ ap (λ (o : Option (List Hosts)). with_hosts 0 o (Ok [])) (hosts_of_item-listed prefix list
    (Some (Many prefix lo hi (width_of first) ∷ [])) r.prefix_bytes (hosts_of_list-run prefix first last lo hi r))

-- ---- runs

host_number_written : (digits : List ℕ) (n : ℕ) → host_number digits ≡ Some n → WritesNumber digits n
host_number_written digits n = by_test (leb (length digits) 9)
  where
    by_test : (b : Bool) → cond b (number_of digits) None ≡ Some n → WritesNumber digits n
    by_test true e = number_was_written digits n e
    by_test false e = absurd cc

-- digits are their number, padded to the width that they ask for
padded-own : (digits : List ℕ) (n : ℕ) → WritesNumber digits n → padded (width_of digits) n ≡ digits
padded-own digits n written = by_zero (has_leading_zero digits) refl
  where
    by_zero : (b : Bool) → has_leading_zero digits ≡ b → padded (cond b (length digits) 0) n ≡ digits
    by_zero true e = padded-written digits n written
    by_zero false e = padded-plain 0 n digits (omega arith) e written

-- a leading zero makes a number of as many digits smaller than one without
no_zero_above : (first next : List ℕ) (lo n : ℕ) → WritesNumber first lo → WritesNumber next n →
    has_leading_zero first ≡ false → length next ≡ length first → lo ≤ n → has_leading_zero next ≡ true → ⊥
no_zero_above first [] lo n a b plain len le led = absurd cc
no_zero_above first (digit ∷ []) lo n a b plain len le led = absurd cc
no_zero_above first (digit ∷ other ∷ digits) lo n a b plain len le led =
    let is_zero : digit ≡ 48 = eqb-true digit 48 led in
    let rest : List ℕ = other ∷ digits in
    let value : value_of rest ≡ n = ap (λ (d : ℕ). value_of (d ∷ rest)) (sym is_zero) ∙ b.value in
    let small : value_of rest < 10 ^ length rest = digits_value_short own_digits rest
    (length rest) (and_parts (is_ascii_digit digit) (are_digits rest) b.digits).1 (omega arith) in
    let written : length first ≡ length (decimal lo) = ap length (digits_are_decimal first lo plain a) in
    let short : length (decimal lo) ≤ length rest =
    length-decimal-le (length rest) lo (omega arith) (omega (arith, small, value, le)) (omega (arith, a.small)) in
    omega (arith, len, written, short)

-- the names of a run, from its first name's number to its last name's
record RunOf (first last : List ℕ) (seen : List (List ℕ)) : Type 0 where
  lo : ℕ
  hi : ℕ
  prefix : prefix_of last ≡ prefix_of first
  first_number : host_number (digits_of first) ≡ Some lo
  last_number : host_number (digits_of last) ≡ Some hi
  ordered : lo ≤ hi
  padding : digits_of last ≡ padded (width_of (digits_of first)) hi
  wide : has_leading_zero (digits_of first) ≡ true → length (digits_of last) ≡ length (digits_of first)
  names : seen ≡ names_from (prefix_of first) (width_of (digits_of first)) (hi + 1 - lo) lo

name_is : (name : List ℕ) → prefix_of name ++ digits_of name ≡ name
name_is name = take-append-drop (digits_place name) name

run_begins : (first : List ℕ) (lo : ℕ) → host_number (digits_of first) ≡ Some lo → RunOf first first (first ∷ [])
run_begins first lo read =
    let padding : padded (width_of (digits_of first)) lo ≡ digits_of first =
    padded-own (digits_of first) lo (host_number_written (digits_of first) lo read) in
    let one : lo + 1 - lo ≡ 1 = omega arith in
    record {
      lo = lo;
      hi = lo;
      prefix = refl;
      first_number = read;
      last_number = read;
      ordered = omega arith;
      padding = sym padding;
      wide = λ _. refl;
      names = ap (λ (name : List ℕ). name ∷ []) (sym (name_is first) ∙ ap (λ (ds : List ℕ). prefix_of first ++ ds)
          (sym padding)) ∙ ap (λ (k : ℕ). names_from (prefix_of first) (width_of (digits_of first)) k lo) (sym one);
    }

names_from-add : (prefix : List ℕ) (width m lo : ℕ) →
    names_from prefix width (m + 1) lo ≡ names_from prefix width m lo ++ (prefix ++ padded width (lo + m)) ∷ []
names_from-add prefix width m lo =
    ap (map (λ number. prefix ++ padded width number)) (ids_from-add m 1 lo)
    ∙ map-append (λ number. prefix ++ padded width number) (ids_from m lo) ((lo + m) ∷ [])

-- what continuing a run says
record Continues (first last next : List ℕ) (hi : ℕ) : Type 0 where
  prefix : prefix_of last ≡ prefix_of next
  number : host_number (digits_of next) ≡ Some (hi + 1)
  alike : is_alike (digits_of first) (digits_of next) ≡ true

followed : (o : Option ℕ) (hi : ℕ) → follows (Some hi) o ≡ true → o ≡ Some (hi + 1)
followed None hi e = absurd cc
followed (Some n) hi e = ap (λ (k : ℕ). Some k) (eqb-true _ _ e)

some_last : (o next : Option ℕ) → follows o next ≡ true → (hi : ℕ) × (o ≡ Some hi)
some_last None next e = absurd cc
some_last (Some hi) next e = (hi, refl)

continues_parts : (first last next : List ℕ) → continues first last next ≡ true →
    (hi : ℕ) × (host_number (digits_of last) ≡ Some hi) × Continues first last next hi
continues_parts first last next e =
    let both = and_parts _ _ e in
    let front = and_parts _ _ both.0 in
    let some = some_last (host_number (digits_of last)) (host_number (digits_of next)) front.1 in (
      some.0,
      some.1,
      record {
        prefix = (bytes_eq-Decides (prefix_of last) (prefix_of next)).0 front.0;
        number = followed (host_number (digits_of next)) some.0
            (ap (λ (o : Option ℕ). follows o (host_number (digits_of next))) (sym some.1) ∙ front.1);
        alike = both.1;
      },
    )

-- the next name has the run's width
next_padded : (first next : List ℕ) (lo n : ℕ) →
    WritesNumber first lo → WritesNumber next n → lo ≤ n → is_alike first next ≡ true
    → (next ≡ padded (width_of first) n) × (has_leading_zero first ≡ true → length next ≡ length first)
next_padded first next lo n a b le alike = by_zero (has_leading_zero first) refl
  where
    same_len : eqb (length next) (length first) ≡ true → length next ≡ length first
    same_len e = eqb-true _ _ e

    by_zero : (z : Bool) → has_leading_zero first ≡ z →
        (next ≡ padded (cond z (length first) 0) n) × (z ≡ true → length next ≡ length first)
    by_zero true e =
        let len : length next ≡ length first = elim (or_cases _ _ alike) [
          | inl same ↦ same_len same
          | inr plain ↦ absurd (let p = (and_parts _ _ plain).0 in
              let q : not (has_leading_zero first) ≡ false = ap not e in both_ways (not (has_leading_zero first)) q p)
        ] in
        (sym (padded-written next n b) ∙ ap (λ (k : ℕ). padded k n) len, λ _. len)
    by_zero false e =
        let lead : has_leading_zero next ≡ false = elim (or_cases _ _ alike) [
          | inl same ↦ elim (cases_Bool (has_leading_zero next)) [
            | inl led ↦ absurd (no_zero_above first next lo n a b e (same_len same) le led)
            | inr none ↦ none
          ]
          | inr plain ↦ not-true (has_leading_zero next) (and_parts _ _ plain).1
        ] in
        (sym (padded-plain 0 n next (omega arith) lead b), λ t. absurd cc)

run_goes_on : (first last next : List ℕ) (seen : List (List ℕ)) →
    RunOf first last seen → continues first last next ≡ true → RunOf first next (seen ++ next ∷ [])
run_goes_on first last next seen run e =
    let parts = continues_parts first last next e in
    let same : parts.0 ≡ run.hi = same_Some parts.0 run.hi (sym parts.1 ∙ run.last_number) in
    let number : host_number (digits_of next) ≡ Some (run.hi + 1) =
    parts.2.number ∙ ap (λ (k : ℕ). Some (k + 1)) same in
    let prefix : prefix_of next ≡ prefix_of first = sym parts.2.prefix ∙ run.prefix in
    let width = width_of (digits_of first) in
    let pad = next_padded (digits_of first)
    (digits_of next) run.lo (run.hi + 1) (host_number_written (digits_of first) run.lo run.first_number)
    (host_number_written (digits_of next) (run.hi + 1) number) (omega (arith, run.ordered)) parts.2.alike in
    let count : run.hi + 1 + 1 - run.lo ≡ (run.hi + 1 - run.lo) + 1 = omega (arith, run.ordered) in
    let place : run.lo + (run.hi + 1 - run.lo) ≡ run.hi + 1 = omega (arith, run.ordered) in
    let name : next ≡ prefix_of first ++ padded width (run.hi + 1) = sym (name_is next)
    ∙ ap (λ (p : List ℕ). p ++ digits_of next) prefix ∙ ap (λ (ds : List ℕ). prefix_of first ++ ds) pad.0 in
    record {
      lo = run.lo;
      hi = run.hi + 1;
      prefix = prefix;
      first_number = run.first_number;
      last_number = number;
      ordered = omega (arith, run.ordered);
      padding = pad.0;
      wide = pad.1;
      names = ap (λ (names : List (List ℕ)). names ++ next ∷ []) run.names
          ∙ ap (λ (x : List ℕ). names_from (prefix_of first) width (run.hi + 1 - run.lo) run.lo ++ x ∷ [])
          (name ∙ ap (λ (k : ℕ). prefix_of first ++ padded width k) (sym place))
          ∙ sym (names_from-add (prefix_of first) width (run.hi + 1 - run.lo) run.lo)
          ∙ ap (λ (k : ℕ). names_from (prefix_of first) width k run.lo) (sym count);
    }

-- a run so far: many names, or its first alone
abbrev IsRun : Bool → List ℕ → List ℕ → List (List ℕ) → Type 0
IsRun true first last seen = RunOf first last seen
IsRun false first last seen = (last ≡ first) × (seen ≡ first ∷ [])

is_run_goes_on : (many : Bool) (first last next : List ℕ) (seen : List (List ℕ)) →
    IsRun many first last seen → continues first last next ≡ true → RunOf first next (seen ++ next ∷ [])
is_run_goes_on true first last next seen run e = run_goes_on first last next seen run e
is_run_goes_on false first last next seen (same, alone) e =
    let e' : continues first first next ≡ true = ap (λ (x : List ℕ). continues first x next) (sym same) ∙ e in
    let parts = continues_parts first first next e' in
    let P : List (List ℕ) → Type 0 = λ names. RunOf first next (names ++ next ∷ []) in
    subst P (sym alone) (run_goes_on first first next (first ∷ []) (run_begins first parts.0 parts.1) e')

-- a run's text is read as the run's names
record ReadsAs (text : List ℕ) (names : List (List ℕ)) : Type 0 where
  hosts : List Hosts
  read : hostlist_of text ≡ Ok hosts
  are : names_of hosts ≡ names

run_reads : (many : Bool) (first last : List ℕ) (seen : List (List ℕ)) → is_host_name first ≡ true →
    is_host_name last ≡ true → IsRun many first last seen → ReadsAs (run_text many first last) seen
run_reads false first last seen f l (same, alone) =
    record { hosts = One first ∷ []; read = hostlist_of-name first f; are = sym alone }
run_reads true first last seen f l run =
    let prefix : List ℕ = prefix_of first in
    let width : ℕ = width_of (digits_of first) in
    let first_is = name_parts first f in
    let last_is = name_parts last l in
    let parted : (list_all is_name_byte prefix && list_all is_name_byte (digits_of first)) ≡ true =
    sym (list_all-append is_name_byte prefix (digits_of first))
    ∙ ap (list_all is_name_byte) (name_is first) ∙ first_is.bytes in
    let len : length first ≡ length prefix + length (digits_of first) =
    ap length (sym (name_is first)) ∙ length-append prefix (digits_of first) in
    let last_name : last ≡ prefix ++ padded width run.hi = sym (name_is last)
    ∙ ap (λ (p : List ℕ). p ++ digits_of last) run.prefix ∙ ap (λ (ds : List ℕ). prefix ++ ds) run.padding in
    let last_len : length last ≡ length prefix + length (padded width run.hi) =
    ap length last_name ∙ length-append prefix (padded width run.hi) in
    let short : length prefix + length (padded width run.hi) ≤ MOST_NAME_BYTES =
    omega (arith, last_len, last_is.short) in
    record {
      hosts = Many prefix run.lo run.hi width ∷ [];
      read = hostlist_of-run prefix (digits_of first) (digits_of last) run.lo run.hi (record {
        prefix_bytes = (and_parts _ _ parted).0;
        prefix_short = omega (arith, len, first_is.short);
        first_digits = (host_number_written (digits_of first) run.lo run.first_number).digits;
        last_digits = (host_number_written (digits_of last) run.hi run.last_number).digits;
        first_number = run.first_number;
        last_number = run.last_number;
        fit = and_from _ _
            (and_from _ _ (le-leb run.lo run.hi run.ordered) (alike (has_leading_zero (digits_of first)) run.wide))
            (le-leb (length prefix + length (padded width run.hi)) MOST_NAME_BYTES short);
      });
      are = append-nil (names_from prefix width (run.hi + 1 - run.lo) run.lo) ∙ sym run.names;
    }
  where
    alike : (z : Bool) → (z ≡ true → length (digits_of last) ≡ length (digits_of first)) →
        (not z || eqb (length (digits_of last)) (length (digits_of first))) ≡ true
    alike true wide = eq-eqb _ _ (wide refl)
    alike false wide = refl

-- ---- all names

abbrev pub AreNames : List (List ℕ) → Type 0
AreNames names = All (λ name. IsTrue (is_host_name name)) names

texts_read : (names : List (List ℕ)) (many : Bool) (first last : List ℕ) (seen : List (List ℕ)) →
    is_host_name first ≡ true → is_host_name last ≡ true → AreNames names → IsRun many first last seen →
    AreHostlistsOf (texts_from many first last names) (seen ++ names)
texts_read [] many first last seen f l h run =
    let r = run_reads many first last seen f l run in
    (r.hosts, [], r.read, ap (λ (names : List (List ℕ)). names ++ []) (sym r.are), refl)
texts_read (next ∷ names) many first last seen f l h run =
    by_test (continues first last next) refl
    (λ longer. texts_read names true first next (seen ++ next ∷ []) f is_next others longer)
    (texts_read names false next next (next ∷ []) is_next is_next others (refl, refl))
  where
    is_next : is_host_name next ≡ true
    is_next = All-head (λ name. IsTrue (is_host_name name)) next names h

    others : AreNames names
    others = All-tail (λ name. IsTrue (is_host_name name)) next names h

    by_test : (b : Bool) → continues first last next ≡ b → (RunOf first next (seen ++ next ∷ []) →
        AreHostlistsOf (texts_from true first next names) ((seen ++ next ∷ []) ++ names)) →
        AreHostlistsOf (texts_from false next next names) (next ∷ names)
        → AreHostlistsOf (cond b (texts_from true first next names)
        (run_text many first last ∷ texts_from false next next names)) (seen ++ next ∷ names)
    by_test true e longer apart =
        let P : List (List ℕ) → Type 0 = λ all. AreHostlistsOf (texts_from true first next names) all in
        subst P (append_assoc seen (next ∷ []) names) (longer (is_run_goes_on many first last next seen run e))
    by_test false e longer apart =
        let r = run_reads many first last seen f l run in
        (r.hosts, next ∷ names, r.read, ap (λ (all : List (List ℕ)). all ++ next ∷ names) (sym r.are), apart)

-- the texts of names are read as the names
pub texts_again : (names : List (List ℕ)) → AreNames names → AreHostlistsOf (hostlist_texts names) names
texts_again [] h = refl
texts_again (name ∷ names) h =
    let is : is_host_name name ≡ true = All-head (λ n. IsTrue (is_host_name n)) name names h in
    texts_read names false name name (name ∷ []) is is (All-tail (λ n. IsTrue (is_host_name n)) name names h)
    (refl, refl)
