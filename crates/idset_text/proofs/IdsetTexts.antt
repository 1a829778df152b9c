-- What an idset's text reads as, and why no other text of its ids is shorter.
use Rattle.std.proofs.Common.{◌≡◌, ℕ, zero, suc, ◌+◌, ◌-◌, ◌<◌, ◌≤◌, ◌⊎◌, Bool, true, false, not, ◌&&◌, cond, eqb, leb}
use Rattle.std.proofs.Common.{ltb, List, [], ◌∷◌, ◌++◌, length, get_or, take, drop, Option, Some, None, Result, Ok, Err}
use Rattle.std.proofs.Common.{refl, sym, ap, subst, ◌∙◌, inl, inr, append_assoc, arith, All}
use Rattle.std.specs.Prelude.{map, IfOk}
use Rattle.std.specs.Fmt.{decimal}
use Rattle.std.specs.List.{list_all, join_with_byte}
use Rattle.std.specs.List.Sorted.{IsStrictlyIncreasing}
use Rattle.std.specs.Option.{option_and_then}
use Rattle.std.proofs.lemmas.Bool.{and_parts, and_from, and_left, leb-true, le-leb, lt-ltb, ltb-true, eqb-true, eq-eqb}
use Rattle.std.proofs.lemmas.Bool.{ne_eqb}
use Rattle.std.proofs.lemmas.Option.{cond_some, option_and_then_some, same_Some}
use Rattle.std.proofs.lemmas.List.{length-append, length-take, get_or_append_left, get_or_push, take_at}
use Rattle.std.proofs.lemmas.List.{take-append-drop, drop_more, drop_all, append-nil}
use Rattle.std.proofs.lemmas.List.Elements.{All-tail, All-head}
use Rattle.std.proofs.lemmas.List.Folds.{list_all-append}
use Rattle.std.proofs.lemmas.Fmt.{decimal_nonempty}
use Rattle.flux_defs.specs.declared.limits.TheConstants.{NO_ID}
use Rattle.idset_text.specs.declared.idsets.Range.{Range}
use Rattle.idset_text.specs.declared.faults.TextFault.{TextFault}
use Rattle.idset_text.specs.Faults.{IsResultOf}
use Rattle.idset_text.specs.Items.{pieces, with_front, placed, with_first, items_of, ends_of, is_inside}
use Rattle.idset_text.specs.Numbers.{are_digits, has_leading_zero, number_of}
use Rattle.idset_text.specs.Idsets.{id_of, range_between, range_of, range_from, with_range, ranges_of, is_bracketed}
use Rattle.idset_text.specs.Idsets.{idset_of, IsRange, Rises, IsItem, AreItems, IsCommaList, IsIdset, ids_from}
use Rattle.idset_text.specs.Idsets.{ids_between, ids_of, with_run, run_of, runs_of, range_text, runs_text, idset_text}
use Rattle.idset_text.specs.Idsets.{IsIdsetOf, IsShortestOf}
use Rattle.idset_text.proofs.NumberLemmas.{number_of-decimal, has_leading_zero-decimal, are_digits-decimal}
use Rattle.idset_text.proofs.NumberLemmas.{number_was_written, digits_are_decimal, digit_bounds, digit_at_place}
use Rattle.idset_text.proofs.ItemLemmas.{is_plain, pieces-join, join-pieces, ends_of-joined, ends_of-digits}
use Rattle.idset_text.proofs.ItemLemmas.{ends_make_up}
use Rattle.idset_text.proofs.IdsetLemmas.{with_run-with_run}

-- ---- ids

pub id_of-decimal : (n : ℕ) → n < NO_ID → id_of (decimal n) ≡ Some n
id_of-decimal n lt =
    ap (λ (t : Bool). cond t None (option_and_then (λ number. cond (ltb number NO_ID) (Some number) None)
    (number_of (decimal n)))) (has_leading_zero-decimal n (omega arith))
    ∙ ap (option_and_then (λ number. cond (ltb number NO_ID) (Some number) None)) (number_of-decimal n (omega arith))
    ∙ ap (λ (t : Bool). cond t (Some n) None) (lt-ltb n NO_ID lt)

-- an id was written in the one way
pub id_was_written : (bytes : List ℕ) (n : ℕ) → id_of bytes ≡ Some n → (bytes ≡ decimal n) × (n < NO_ID)
id_was_written bytes n e = by_zero (has_leading_zero bytes) refl e
  where
    small_one : ℕ → Option ℕ
    small_one number = cond (ltb number NO_ID) (Some number) None

    by_zero : (b : Bool) → has_leading_zero bytes ≡ b →
        cond b None (option_and_then (λ number. cond (ltb number NO_ID) (Some number) None) (number_of bytes))
        ≡ Some n → (bytes ≡ decimal n) × (n < NO_ID)
    by_zero true lead f = absurd cc
    by_zero false lead f =
        option_and_then_some (λ number. cond (ltb number NO_ID) (Some number) None) (number_of bytes) n f
        (λ x read kept.
        let test = cond_some (ltb x NO_ID) x n kept in
        let same : number_of bytes ≡ Some n = read ∙ ap (λ (v : ℕ). Some v) test.1 in (
          digits_are_decimal bytes n lead (number_was_written bytes n same),
          omega (arith, ltb-true x NO_ID test.0, test.1),
        ))

-- ---- ranges

range_between-ids : (range : Range) → IsRange range → range_between (Some range.lo) (Some range.hi) ≡ Some range
range_between-ids range is = ap (λ (t : Bool). cond t (Some range) None) (le-leb range.lo range.hi is.ordered)

-- a range's own text is an item of it
item-range_text : (range : Range) → IsRange range → IsItem (range_text range) range
item-range_text range is = (is, by_test (eqb range.lo range.hi) refl)
  where
    by_test : (b : Bool) → eqb range.lo range.hi ≡ b →
        ((cond b (decimal range.lo) (decimal range.lo ++ 45 ∷ decimal range.hi) ≡ decimal range.lo)
        × (range.lo ≡ range.hi)) ⊎ (cond b (decimal range.lo) (decimal range.lo ++ 45 ∷ decimal range.hi)
        ≡ decimal range.lo ++ 45 ∷ decimal range.hi)
    by_test true e = inl (refl, eqb-true _ _ e)
    by_test false e = inr refl

-- an item is read as its range
pub range_of-item : (item : List ℕ) (range : Range) → IsItem item range → range_of item ≡ Some range
range_of-item item range (is, inl (alone, same)) =
    let small : range.lo < NO_ID = omega (arith, is.ordered, is.small) in
    ap range_of alone
    ∙ ap (λ (ends : List ℕ × List ℕ). range_between (id_of ends.0) (id_of ends.1))
    (ends_of-digits (decimal range.lo) (are_digits-decimal range.lo (omega arith)))
    ∙ ap (λ (o : Option ℕ). range_between o o) (id_of-decimal range.lo small)
    ∙ ap (λ (n : ℕ). range_between (Some range.lo) (Some n)) same
    ∙ range_between-ids range is
range_of-item item range (is, inr both) =
    let small : range.lo < NO_ID = omega (arith, is.ordered, is.small) in
    ap range_of both
    ∙ ap (λ (ends : List ℕ × List ℕ). range_between (id_of ends.0) (id_of ends.1))
    (ends_of-joined (decimal range.lo) (decimal range.hi) (are_digits-decimal range.lo (omega arith)))
    ∙ ap (λ (o : Option ℕ). range_between o (id_of (decimal range.hi))) (id_of-decimal range.lo small)
    ∙ ap (λ (o : Option ℕ). range_between (Some range.lo) o) (id_of-decimal range.hi is.small)
    ∙ range_between-ids range is

-- how long a range's text may be, and must be
range_text-short : (lo hi : ℕ) →
    length (range_text (record { lo = lo; hi = hi })) ≤ length (decimal lo) + 1 + length (decimal hi)
range_text-short lo hi = by_test (eqb lo hi)
  where
    by_test : (b : Bool) →
        length (cond b (decimal lo) (decimal lo ++ 45 ∷ decimal hi)) ≤ length (decimal lo) + 1 + length (decimal hi)
    by_test true = omega arith
    by_test false = omega (arith, length-append (decimal lo) (45 ∷ decimal hi))

range_text-long : (range : Range) →
    (length (decimal range.lo) ≤ length (range_text range)) × (length (decimal range.hi) ≤ length (range_text range))
range_text-long range = by_test (eqb range.lo range.hi) refl
  where
    by_test : (b : Bool) → eqb range.lo range.hi ≡ b →
        (length (decimal range.lo) ≤ length (cond b (decimal range.lo) (decimal range.lo ++ 45 ∷ decimal range.hi)))
        × (length (decimal range.hi) ≤ length (cond b (decimal range.lo) (decimal range.lo ++ 45 ∷ decimal range.hi)))
    by_test true e = let same : length (decimal range.lo) ≡ length (decimal range.hi) =
        ap (λ (n : ℕ). length (decimal n)) (eqb-true _ _ e) in (omega arith, omega arith)
    by_test false e = (
      omega (arith, length-append (decimal range.lo) (45 ∷ decimal range.hi)),
      omega (arith, length-append (decimal range.lo) (45 ∷ decimal range.hi)),
    )

between_ids : (first last : Option ℕ) (range : Range) →
    range_between first last ≡ Some range → (first ≡ Some range.lo) × (last ≡ Some range.hi) × (range.lo ≤ range.hi)
between_ids None last range e = absurd cc
between_ids (Some lo) None range e = absurd cc
between_ids (Some lo) (Some hi) range e =
    let test = cond_some (leb lo hi) (record { lo = lo; hi = hi }) range e in
    let low : lo ≡ range.lo = ap (λ (r : Range). r.lo) test.1 in
    let high : hi ≡ range.hi = ap (λ (r : Range). r.hi) test.1 in
    (ap (λ (n : ℕ). Some n) low, ap (λ (n : ℕ). Some n) high, omega (arith, leb-true lo hi test.0))

-- an item is no shorter than its range's own text
item_long : (item : List ℕ) (range : Range) → IsItem item range → length (range_text range) ≤ length item
item_long item range (is, inl (alone, same)) =
    let short : length (range_text range) ≡ length (decimal range.lo) = ap (λ (t : Bool).
    length (cond t (decimal range.lo) (decimal range.lo ++ 45 ∷ decimal range.hi))) (eq-eqb _ _ same) in
    omega (arith, short, ap length alone)
item_long item range (is, inr both) = omega (
  arith,
  range_text-short range.lo range.hi,
  ap length both,
  length-append (decimal range.lo) (45 ∷ decimal range.hi),
)

-- what is read as a range is an item of it
pub item_was_written : (bytes : List ℕ) (range : Range) → range_of bytes ≡ Some range → IsItem bytes range
item_was_written bytes range e =
    let ids = between_ids (id_of (ends_of bytes).0) (id_of (ends_of bytes).1) range e in
    let first = id_was_written (ends_of bytes).0 range.lo ids.0 in
    let last = id_was_written (ends_of bytes).1 range.hi ids.1 in (
      record { ordered = ids.2; small = last.1 },
      elim (ends_make_up bytes) [
        | inl whole ↦
            let same : id_of (ends_of bytes).0 ≡ id_of (ends_of bytes).1 = ap id_of (whole.0 ∙ sym whole.1) in
            inl (sym whole.0 ∙ first.0, same_Some range.lo range.hi (sym ids.0 ∙ same ∙ ids.1))
        | inr parts ↦ inr (parts ∙ ap (λ (x : List ℕ). x ++ 45 ∷ (ends_of bytes).1) first.0
            ∙ ap (λ (x : List ℕ). decimal range.lo ++ 45 ∷ x) last.0)
      ],
    )

pub range_from-item : (least : ℕ) (item : List ℕ) (range : Range) →
    least ≤ range.lo → IsItem item range → range_from least item ≡ Some range
range_from-item least item range low is =
    ap (option_and_then (λ r. cond (leb least r.lo) (Some r) None)) (range_of-item item range is)
    ∙ ap (λ (t : Bool). cond t (Some range) None) (le-leb least range.lo low)

pub above_was_written : (least : ℕ) (bytes : List ℕ) (range : Range) →
    range_from least bytes ≡ Some range → (least ≤ range.lo) × IsItem bytes range
above_was_written least bytes range e =
    option_and_then_some (λ r. cond (leb least r.lo) (Some r) None) (range_of bytes) range e
    (λ x read kept.
    let test = cond_some (leb least x.lo) x range kept in
    let low : x.lo ≡ range.lo = ap (λ (r : Range). r.lo) test.1 in (
      omega (arith, leb-true least x.lo test.0),
      item_was_written bytes range (read ∙ ap (λ (r : Range). Some r) test.1),
    ))

-- ---- ranges that rise

-- ids that rise, as ranges do
abbrev pub IdsRise : ℕ → List ℕ → Type 0
IdsRise least [] = Unit {0}
IdsRise least (id ∷ ids) = (least ≤ id) × (id < NO_ID) × IdsRise (id + 1) ids

rises-with_run : (least : ℕ) (run : Range) (runs : List Range) →
    least ≤ run.lo → IsRange run → Rises (run.hi + 1) runs → Rises least (with_run run runs)
rises-with_run least run [] low is r = (low, is, tt)
rises-with_run least run (next ∷ runs) low is r = by_test (eqb next.lo (run.hi + 1))
  where
    by_test : (b : Bool) → Rises least (cond b (record { lo = run.lo; hi = next.hi } ∷ runs) (run ∷ next ∷ runs))
    by_test true = (low, record { ordered = omega (arith, is.ordered, r.0, r.1.ordered); small = r.1.small }, r.2)
    by_test false = (low, is, r)

pub runs_rise : (least : ℕ) (ids : List ℕ) → IdsRise least ids → Rises least (runs_of ids)
runs_rise least [] r = tt
runs_rise least (id ∷ ids) r = rises-with_run least
    (run_of id) (runs_of ids) r.0 (record { ordered = omega arith; small = r.1 }) (runs_rise (id + 1) ids r.2)

increasing_tail : (id : ℕ) (ids : List ℕ) → IsStrictlyIncreasing (id ∷ ids) → IsStrictlyIncreasing ids
increasing_tail id ids h k lt =
    let e : suc k + 1 ≡ suc (k + 1) = omega arith in
    let p : get_or (id ∷ ids) (suc k) 0 < get_or (id ∷ ids) (suc k + 1) 0 = h (suc k) (omega arith) in
    omega (arith, p, ap (λ (n : ℕ). get_or (id ∷ ids) n 0) e)

pub ids_rise : (least : ℕ) (ids : List ℕ) → (0 < length ids → least ≤ get_or ids 0 0) →
    IsStrictlyIncreasing ids → All (λ id. id < NO_ID) ids → IdsRise least ids
ids_rise least [] low h small = tt
ids_rise least (id ∷ ids) low h small = (
  low (omega arith),
  All-head (λ x. x < NO_ID) id ids small,
  ids_rise (id + 1) ids (λ some. let p : id < get_or (id ∷ ids) (0 + 1) 0 = h 0 (omega arith) in let q : id < get_or
      ids 0 0 = p in omega (arith, q)) (increasing_tail id ids h) (All-tail (λ x. x < NO_ID) id ids small),
)

-- ---- the ids of runs

pub ids_from-add : (m n lo : ℕ) → ids_from (m + n) lo ≡ ids_from m lo ++ ids_from n (lo + m)
ids_from-add zero n lo = ap (λ (k : ℕ). ids_from k lo) (omega arith) ∙ ap (ids_from n) (omega arith)
ids_from-add (suc m) n lo =
    let e : suc m + n ≡ suc (m + n) = omega arith in
    ap (λ (k : ℕ). ids_from k lo) e ∙ ap (λ (ids : List ℕ). lo ∷ ids) (ids_from-add m n (lo + 1))
    ∙ ap (λ (k : ℕ). lo ∷ (ids_from m (lo + 1) ++ ids_from n k)) (omega arith)

ids_of-with_run : (run : Range) (runs : List Range) →
    run.lo ≤ run.hi → Rises (run.hi + 1) runs → ids_of (with_run run runs) ≡ ids_between run ++ ids_of runs
ids_of-with_run run [] ordered r = refl
ids_of-with_run run (next ∷ runs) ordered r = by_test (eqb next.lo (run.hi + 1)) refl
  where
    by_test : (b : Bool) →
        eqb next.lo (run.hi + 1) ≡ b → ids_of (cond b (record { lo = run.lo; hi = next.hi } ∷ runs) (run ∷ next ∷ runs))
        ≡ ids_between run ++ ids_of (next ∷ runs)
    by_test true e =
        let follows : next.lo ≡ run.hi + 1 = eqb-true _ _ e in
        let all : next.hi + 1 - run.lo ≡ (run.hi + 1 - run.lo) + (next.hi + 1 - next.lo) = omega (arith, r.1.ordered) in
        let place : run.lo + (run.hi + 1 - run.lo) ≡ next.lo = omega arith in
        ap (λ (k : ℕ). ids_from k run.lo ++ ids_of runs) all
        ∙ ap (λ (ids : List ℕ). ids ++ ids_of runs) (ids_from-add (run.hi + 1 - run.lo) (next.hi + 1 - next.lo) run.lo)
        ∙ ap (λ (k : ℕ). (ids_between run ++ ids_from (next.hi + 1 - next.lo) k) ++ ids_of runs) place
        ∙ append_assoc (ids_between run) (ids_between next) (ids_of runs)
    by_test false e = refl

-- the runs of ids stand for the ids
pub ids_of-runs_of : (least : ℕ) (ids : List ℕ) → IdsRise least ids → ids_of (runs_of ids) ≡ ids
ids_of-runs_of least [] r = refl
ids_of-runs_of least (id ∷ ids) r =
    let one : id + 1 - id ≡ 1 = omega arith in
    ids_of-with_run (run_of id) (runs_of ids) (omega arith) (runs_rise (id + 1) ids r.2)
    ∙ ap (λ (k : ℕ). ids_from k id ++ ids_of (runs_of ids)) one
    ∙ ap (λ (x : List ℕ). id ∷ x) (ids_of-runs_of (id + 1) ids r.2)

-- ---- the text is read as the runs

pub digits_plain : (bytes : List ℕ) → are_digits bytes ≡ true → list_all is_plain bytes ≡ true
digits_plain [] d = refl
digits_plain (byte ∷ bytes) d =
    let both = and_parts _ _ d in
    let bounds = digit_bounds byte both.0 in
    and_from _ _ (and_from _ _ (and_from _ _ (ap not (ne_eqb byte 44 (λ e. omega (arith, bounds.0))))
    (ap not (ne_eqb byte 91 (λ e. omega (arith, bounds.1)))))
    (ap not (ne_eqb byte 93 (λ e. omega (arith, bounds.1))))) (digits_plain bytes both.1)

decimal_plain : (n : ℕ) → n < NO_ID → list_all is_plain (decimal n) ≡ true
decimal_plain n lt = digits_plain (decimal n) (are_digits-decimal n (omega arith))

item_plain : (item : List ℕ) (range : Range) → IsItem item range → list_all is_plain item ≡ true
item_plain item range (is, inl (alone, same)) =
    ap (list_all is_plain) alone ∙ decimal_plain range.lo (omega (arith, is.ordered, is.small))
item_plain item range (is, inr both) =
    ap (list_all is_plain) both ∙ list_all-append is_plain (decimal range.lo) (45 ∷ decimal range.hi)
    ∙ and_from _ _ (decimal_plain range.lo (omega (arith, is.ordered, is.small))) (decimal_plain range.hi is.small)

items_plain : (least : ℕ) (items : List (List ℕ)) (ranges : List Range) →
    AreItems least items ranges → list_all (list_all is_plain) items ≡ true
items_plain least [] [] are = refl
items_plain least [] (range ∷ ranges) are = absurd are
items_plain least (item ∷ items) [] are = absurd are
items_plain least (item ∷ items) (range ∷ ranges) are =
    and_from _ _ (item_plain item range are.1) (items_plain (range.hi + 1) items ranges are.2)

-- items are read as their ranges
ranges_of-items : (least at : ℕ) (items : List (List ℕ)) (ranges : List Range) →
    AreItems least items ranges → ranges_of least (placed at items) ≡ Ok ranges
ranges_of-items least at [] [] are = refl
ranges_of-items least at [] (range ∷ ranges) are = absurd are
ranges_of-items least at (item ∷ items) [] are = absurd are
ranges_of-items least at (item ∷ items) (range ∷ ranges) are =
    ap (λ (o : Option Range). with_range at o (λ x. ranges_of (x.hi + 1) (placed (at + length item + 1) items)))
    (range_from-item least item range are.0 are.1)
    ∙ ap (with_first (range ∷ [])) (ranges_of-items (range.hi + 1) (at + length item + 1) items ranges are.2)

-- the items of a list are read as its ranges
ranges_of-comma_list : (at : ℕ) (text : List ℕ) (ranges : List Range) →
    IsCommaList text ranges → ranges_of 0 (items_of at text) ≡ Ok ranges
ranges_of-comma_list at text ranges (item, items, are, joined) =
    ap (λ (t : List ℕ). ranges_of 0 (items_of at t)) joined
    ∙ ap (λ (ps : List (List ℕ)). ranges_of 0 (placed at ps))
    (pieces-join item items (items_plain 0 (item ∷ items) ranges are))
    ∙ ranges_of-items 0 at (item ∷ items) ranges are

-- the texts of rising runs are items of them
texts_are_items : (least : ℕ) (runs : List Range) → Rises least runs → AreItems least (map range_text runs) runs
texts_are_items least [] r = tt
texts_are_items least (run ∷ runs) r = (r.0, item-range_text run r.1, texts_are_items (run.hi + 1) runs r.2)

-- what begins with no bracket is its items
idset_of-plain : (text : List ℕ) →
    0 < length text → (get_or text 0 0 ≡ 91 → ⊥) → idset_of text ≡ ranges_of 0 (items_of 0 text)
idset_of-plain [] some other = absurd (omega arith)
idset_of-plain (byte ∷ bytes) some other =
    ap (λ (t : Bool). cond t (ranges_of 0 (items_of 1 (take (length (byte ∷ bytes) - 2) bytes)))
    (ranges_of 0 (items_of 0 (byte ∷ bytes)))) (and_left _ _ (ne_eqb byte 91 other))

-- a text that begins with digits
record Begins (text digits : List ℕ) : Type 0 where
  rest : List ℕ
  parts : text ≡ digits ++ rest

item_begins : (item : List ℕ) (range : Range) → IsItem item range → Begins item (decimal range.lo)
item_begins item range (is, inl (alone, same)) =
    record { rest = []; parts = alone ∙ sym (append-nil (decimal range.lo)) }
item_begins item range (is, inr both) = record { rest = 45 ∷ decimal range.hi; parts = both }

join_begins : (item : List ℕ) (items : List (List ℕ)) (range : Range) →
    IsItem item range → Begins (join_with_byte 44 (item ∷ items)) (decimal range.lo)
join_begins item [] range is = item_begins item range is
join_begins item (next ∷ items) range is =
    let first = item_begins item range is in
    record {
      rest = first.rest ++ 44 ∷ join_with_byte 44 (next ∷ items);
      parts = ap (λ (t : List ℕ). t ++ 44 ∷ join_with_byte 44 (next ∷ items)) first.parts
          ∙ append_assoc (decimal range.lo) first.rest (44 ∷ join_with_byte 44 (next ∷ items));
    }

-- a comma list is read without brackets
idset_of-comma_list : (text : List ℕ) (ranges : List Range) → IsCommaList text ranges → idset_of text ≡ Ok ranges
idset_of-comma_list text [] (item, items, are, joined) = absurd are
idset_of-comma_list text (range ∷ ranges) (item, items, are, joined) =
    let begins = join_begins item items range are.1 in
    let small : range.lo < NO_ID = omega (arith, are.1.0.ordered, are.1.0.small) in
    let some : 0 < length (decimal range.lo) = decimal_nonempty range.lo (omega arith) in
    let digit = digit_bounds (get_or (decimal range.lo) 0 0)
    (digit_at_place (decimal range.lo) 0 (are_digits-decimal range.lo (omega arith)) some) in
    let whole : text ≡ decimal range.lo ++ begins.rest = joined ∙ begins.parts in
    let first : get_or text 0 0 ≡ get_or (decimal range.lo) 0 0 =
    ap (λ (t : List ℕ). get_or t 0 0) whole ∙ get_or_append_left (decimal range.lo) begins.rest 0 0 some in
    idset_of-plain text (omega (arith, ap length whole, length-append (decimal range.lo) begins.rest))
    (λ e. omega (arith, first, digit.1))
    ∙ ranges_of-comma_list 0 text (range ∷ ranges) (item, items, are, joined)

-- and between brackets
idset_of-bracketed : (inner : List ℕ) (ranges : List Range) →
    IsCommaList inner ranges → idset_of (91 ∷ (inner ++ 93 ∷ [])) ≡ Ok ranges
idset_of-bracketed inner ranges list =
    let bytes : List ℕ = inner ++ 93 ∷ [] in
    let text : List ℕ = 91 ∷ bytes in
    let before : length (91 ∷ inner) ≡ length text - 1 = omega (arith, length-append inner (93 ∷ [])) in
    let last : get_or text (length text - 1) 0 ≡ 93 = get_or_push (91 ∷ inner) 93 0 (length text - 1) before in
    ap (λ (t : Bool). cond t (ranges_of 0 (items_of 1 (take (length text - 2) bytes))) (ranges_of 0 (items_of 0 text)))
    (eq-eqb _ _ last)
    ∙ ap (λ (t : List ℕ). ranges_of 0 (items_of 1 t))
    (take_at inner (93 ∷ []) (length text - 2) (omega (arith, length-append inner (93 ∷ []))))
    ∙ ranges_of-comma_list 1 inner ranges list

-- what is in the grammar is read
pub idset_is_read : (text : List ℕ) (ranges : List Range) → IsIdset text ranges → idset_of text ≡ Ok ranges
idset_is_read text ranges (inl (none, no_ranges)) = ap idset_of none ∙ ap (λ (rs : List Range). Ok rs) (sym no_ranges)
idset_is_read text ranges (inr (inl list)) = idset_of-comma_list text ranges list
idset_is_read text ranges (inr (inr (inner, list, bracketed))) =
    ap idset_of bracketed ∙ idset_of-bracketed inner ranges list

-- rising runs are read from their text
pub idset_of-runs_text : (runs : List Range) → Rises 0 runs → idset_of (runs_text runs) ≡ Ok runs
idset_of-runs_text [] r = refl
idset_of-runs_text (run ∷ runs) r = idset_of-comma_list
    (runs_text (run ∷ runs)) (run ∷ runs) (range_text run, map range_text runs, texts_are_items 0 (run ∷ runs) r, refl)

-- reading what was written gives the ids again
pub written_again : (ids : List ℕ) →
    IsStrictlyIncreasing ids → All (λ id. id < NO_ID) ids → IsIdsetOf (idset_text ids) ids
written_again ids h small =
    let rise = ids_rise 0 ids (λ some. omega arith) h small in
    (runs_of ids, idset_of-runs_text (runs_of ids) (runs_rise 0 ids rise), ids_of-runs_of 0 ids rise)

-- ---- no text of the same ids is shorter

-- the bytes of the ranges' texts, with a comma behind each
abbrev cost : List Range → ℕ
cost [] = 0
cost (range ∷ ranges) = length (range_text range) + 1 + cost ranges

-- the bytes of pieces, with a comma behind each
abbrev size : List (List ℕ) → ℕ
size [] = 0
size (piece ∷ others) = length piece + 1 + size others

size-with_front : (byte n : ℕ) (parts : List (List ℕ)) →
    size parts ≡ n + 1 → size (with_front (byte ∷ []) parts) ≡ suc n + 1
size-with_front byte n [] e = absurd (omega arith)
size-with_front byte n (part ∷ parts) e = omega arith

-- pieces are as long as their text
size-pieces : (inside : Bool) (text : List ℕ) → size (pieces inside text) ≡ length text + 1
size-pieces inside [] = refl
size-pieces inside (byte ∷ bytes) =
    by_test ((eqb byte 44) && not inside) (omega (arith, size-pieces false bytes)) (size-with_front byte
    (length bytes) (pieces (is_inside inside byte) bytes) (size-pieces (is_inside inside byte) bytes))
  where
    by_test : (b : Bool) → size ([] ∷ pieces false bytes) ≡ length (byte ∷ bytes) + 1 →
        size (with_front (byte ∷ []) (pieces (is_inside inside byte) bytes)) ≡ length (byte ∷ bytes) + 1
        → size (cond b ([] ∷ pieces false bytes) (with_front (byte ∷ []) (pieces (is_inside inside byte) bytes)))
        ≡ length (byte ∷ bytes) + 1
    by_test true parted joined = parted
    by_test false parted joined = joined

ok_same : {X : Type 0} (x y : X) → ◌≡◌ {A = Result X ℕ} (Ok x) (Ok y) → x ≡ y
ok_same x y e = cc

-- pieces that are read as ranges are items of them
were_items : (least at : ℕ) (parts : List (List ℕ)) (ranges : List Range) →
    ranges_of least (placed at parts) ≡ Ok ranges → AreItems least parts ranges
were_items least at [] ranges e = let P : List Range → Type 0 = λ rs. AreItems least [] rs in
    subst P (ok_same [] ranges e) tt
were_items least at (part ∷ parts) ranges e =
    by_range (λ next rest read. were_items next (at + length part + 1) parts rest read) (range_from least part) refl e
  where
    by_others : ((next : ℕ) (rest : List Range) → ranges_of next (placed (at + length part + 1) parts) ≡ Ok rest →
        AreItems next parts rest) → (range : Range) → range_from least part ≡ Some range
        → (r : Result (List Range) ℕ) → ranges_of (range.hi + 1) (placed (at + length part + 1) parts) ≡ r →
        with_first (range ∷ []) r ≡ Ok ranges → AreItems least (part ∷ parts) ranges
    by_others later range first (Ok rest) read f =
        let here = above_was_written least part range first in
        let P : List Range → Type 0 = λ rs. AreItems least (part ∷ parts) rs in
        subst P (ok_same (range ∷ rest) ranges f) (here.0, here.1, later (range.hi + 1) rest read)
    by_others later range first (Err fault) read f = absurd cc

    by_range : ((next : ℕ) (rest : List Range) →
        ranges_of next (placed (at + length part + 1) parts) ≡ Ok rest → AreItems next parts rest)
        → (o : Option Range) → range_from least part ≡ o →
        with_range at o (λ x. ranges_of (x.hi + 1) (placed (at + length part + 1) parts)) ≡ Ok ranges →
        AreItems least (part ∷ parts) ranges
    by_range later None first f = absurd cc
    by_range later (Some range) first f =
        by_others later range first (ranges_of (range.hi + 1) (placed (at + length part + 1) parts)) refl f

-- items' ranges rise, and their own texts are no longer than the items
record Costs (least : ℕ) (items : List (List ℕ)) (ranges : List Range) : Type 0 where
  rise : Rises least ranges
  long : cost ranges ≤ size items

items_cost : (least : ℕ) (items : List (List ℕ)) (ranges : List Range) →
    AreItems least items ranges → Costs least items ranges
items_cost least [] [] are = record { rise = tt; long = omega arith }
items_cost least [] (range ∷ ranges) are = absurd are
items_cost least (item ∷ items) [] are = absurd are
items_cost least (item ∷ items) (range ∷ ranges) are =
    let later = items_cost (range.hi + 1) items ranges are.2 in
    record { rise = (are.0, are.1.0, later.rise); long = omega (arith, item_long item range are.1, later.long) }

were_read : (least at : ℕ) (parts : List (List ℕ)) (ranges : List Range) →
    ranges_of least (placed at parts) ≡ Ok ranges → Costs least parts ranges
were_read least at parts ranges e = items_cost least parts ranges (were_items least at parts ranges e)

-- what is read is a comma list
comma_list_was_read : (at : ℕ) (text : List ℕ) (ranges : List Range) →
    ranges_of 0 (items_of at text) ≡ Ok ranges → IsCommaList text ranges
comma_list_was_read at text ranges e = by_pieces
    (pieces false text) (join-pieces false text) (were_items 0 at (pieces false text) ranges e) (size-pieces false text)
  where
    by_pieces : (parts : List (List ℕ)) → join_with_byte 44 parts ≡ text →
        AreItems 0 parts ranges → size parts ≡ length text + 1 → IsCommaList text ranges
    by_pieces [] joined are long = absurd (omega arith)
    by_pieces (item ∷ items) joined are long = (item, items, are, sym joined)

-- a text between brackets is '[', what stands within, and ']'
bracket_parts : (byte : ℕ) (bytes : List ℕ) →
    is_bracketed (byte ∷ bytes) ≡ true → byte ∷ bytes ≡ 91 ∷ (take (length (byte ∷ bytes) - 2) bytes ++ 93 ∷ [])
bracket_parts byte [] e = let both = and_parts (eqb byte 91) (eqb byte 93) e in
    absurd (omega (arith, eqb-true byte 91 both.0, eqb-true byte 93 both.1))
bracket_parts byte (next ∷ bytes) e =
    let both = and_parts (eqb byte 91) (eqb (get_or (byte ∷ next ∷ bytes) (length (byte ∷ next ∷ bytes) - 1) 0) 93) e in
    let rest : List ℕ = next ∷ bytes in
    let n : ℕ = length bytes in
    let place : length (byte ∷ rest) - 1 ≡ suc n = omega arith in
    let last : get_or rest n 0 ≡ 93 = ap (λ (k : ℕ). get_or (byte ∷ rest) k 0) (sym place) ∙ eqb-true _ _ both.1 in
    let parted : drop n rest ≡ 93 ∷ [] = drop_more rest n 0 (omega arith) ∙ ap (λ (b : ℕ). b ∷ drop (n + 1) rest) last
    ∙ ap (λ (x : List ℕ). 93 ∷ x) (drop_all (n + 1) rest (omega arith)) in
    let inner : length (byte ∷ rest) - 2 ≡ n = omega arith in
    ap (λ (b : ℕ). b ∷ rest) (eqb-true byte 91 both.0)
    ∙ ap (λ (x : List ℕ). 91 ∷ x) (sym (take-append-drop n rest)
    ∙ ap (λ (x : List ℕ). take n rest ++ x) parted ∙ ap (λ (k : ℕ). take k rest ++ 93 ∷ []) (sym inner))

-- what is read is in the grammar
pub idset_was_read : (text : List ℕ) (ranges : List Range) → idset_of text ≡ Ok ranges → IsIdset text ranges
idset_was_read [] ranges e = inl (refl, sym (ok_same [] ranges e))
idset_was_read (byte ∷ bytes) ranges e = by_test (is_bracketed (byte ∷ bytes)) refl e
  where
    by_test : (b : Bool) →
        is_bracketed (byte ∷ bytes) ≡ b → cond b (ranges_of 0 (items_of 1 (take (length (byte ∷ bytes) - 2) bytes)))
        (ranges_of 0 (items_of 0 (byte ∷ bytes))) ≡ Ok ranges → IsIdset (byte ∷ bytes) ranges
    by_test true is f = inr (inr (
      take (length (byte ∷ bytes) - 2) bytes,
      comma_list_was_read 1 (take (length (byte ∷ bytes) - 2) bytes) ranges f,
      bracket_parts byte bytes is,
    ))
    by_test false is f = inr (inl (comma_list_was_read 0 (byte ∷ bytes) ranges f))

-- what is read rises
pub idset_rises : (text : List ℕ) (ranges : List Range) → IsIdset text ranges → Rises 0 ranges
idset_rises text ranges (inl (none, no_ranges)) = let P : List Range → Type 0 = λ rs. Rises 0 rs in
    subst P (sym no_ranges) tt
idset_rises text ranges (inr (inl (item, items, are, joined))) = (items_cost 0 (item ∷ items) ranges are).rise
idset_rises text ranges (inr (inr (inner, (item, items, are, joined), bracketed))) =
    (items_cost 0 (item ∷ items) ranges are).rise

-- runs that are joined to one have a text that is no longer
cost-with_run : (run : Range) (runs : List Range) → cost (with_run run runs) ≤ length (range_text run) + 1 + cost runs
cost-with_run run [] = omega arith
cost-with_run run (next ∷ runs) = by_test (eqb next.lo (run.hi + 1))
  where
    by_test : (b : Bool) → cost (cond b (record { lo = run.lo; hi = next.hi } ∷ runs) (run ∷ next ∷ runs)) ≤ length
        (range_text run) + 1 + cost (next ∷ runs)
    by_test true = omega (arith, range_text-short run.lo next.hi, (range_text-long run).0, (range_text-long next).1)
    by_test false = omega arith

-- the ids of a range are one run
runs_of-ids_from : (count lo : ℕ) (ids : List ℕ) →
    runs_of (ids_from (suc count) lo ++ ids) ≡ with_run (record { lo = lo; hi = lo + count }) (runs_of ids)
runs_of-ids_from zero lo ids =
    ap (λ (hi : ℕ). with_run (record { lo = lo; hi = hi }) (runs_of ids)) (let e : lo ≡ lo + 0 = omega arith in e)
runs_of-ids_from (suc count) lo ids =
    ap (with_run (run_of lo)) (runs_of-ids_from count (lo + 1) ids)
    ∙ with_run-with_run (run_of lo) (record { lo = lo + 1; hi = lo + 1 + count }) (runs_of ids) refl
    ∙ ap (λ (hi : ℕ). with_run (record { lo = lo; hi = hi }) (runs_of ids))
    (let e : lo + 1 + count ≡ lo + suc count = omega arith in e)

cost-runs_of : (least : ℕ) (ranges : List Range) → Rises least ranges → cost (runs_of (ids_of ranges)) ≤ cost ranges
cost-runs_of least [] r = omega arith
cost-runs_of least (range ∷ ranges) r =
    let count : range.hi + 1 - range.lo ≡ suc (range.hi - range.lo) = omega (arith, r.1.ordered) in
    let high : range.lo + (range.hi - range.lo) ≡ range.hi = omega (arith, r.1.ordered) in
    let runs : runs_of (ids_of (range ∷ ranges)) ≡ with_run range (runs_of (ids_of ranges)) =
    ap (λ (k : ℕ). runs_of (ids_from k range.lo ++ ids_of ranges)) count
    ∙ runs_of-ids_from (range.hi - range.lo) range.lo (ids_of ranges)
    ∙ ap (λ (hi : ℕ). with_run (record { lo = range.lo; hi = hi }) (runs_of (ids_of ranges))) high in
    omega (arith, ap cost runs, cost-with_run range (runs_of (ids_of ranges)), cost-runs_of (range.hi + 1) ranges r.2)

length-runs_text : (runs : List Range) → length (runs_text runs) ≤ cost runs - 1
length-runs_text [] = omega arith
length-runs_text (run ∷ []) = omega arith
length-runs_text (run ∷ next ∷ runs) =
    omega (arith, length-append (range_text run) (44 ∷ runs_text (next ∷ runs)), length-runs_text (next ∷ runs))

-- the ids' text is no longer than a text that was read as ranges of them
shortest_of : (text : List ℕ) (ranges : List Range) →
    idset_of text ≡ Ok ranges → length (idset_text (ids_of ranges)) ≤ length text
shortest_of [] ranges e = let P : List Range → Type 0 = λ rs. length (idset_text (ids_of rs)) ≤ 0 in
    subst P (ok_same [] ranges e) (omega arith)
shortest_of (byte ∷ bytes) ranges e = by_test (is_bracketed (byte ∷ bytes)) e
  where
    text : List ℕ
    text = byte ∷ bytes

    short : (least : ℕ) → Rises least ranges → length (idset_text (ids_of ranges)) ≤ cost ranges - 1
    short least rise = omega (arith, length-runs_text (runs_of (ids_of ranges)), cost-runs_of least ranges rise)

    by_test : (b : Bool) → cond b (ranges_of 0 (items_of 1 (take (length (byte ∷ bytes) - 2) bytes))) (ranges_of 0
        (items_of 0 (byte ∷ bytes))) ≡ Ok ranges → length (idset_text (ids_of ranges)) ≤ length (byte ∷ bytes)
    by_test true f =
        let inner = take (length (byte ∷ bytes) - 2) bytes in
        let read = were_read 0 1 (pieces false inner) ranges f in
        omega (
          arith,
          short 0 read.rise,
          read.long,
          size-pieces false inner,
          length-take (length (byte ∷ bytes) - 2) bytes,
        )
    by_test false f =
        let read = were_read 0 0 (pieces false (byte ∷ bytes)) ranges f in
        omega (arith, short 0 read.rise, read.long, size-pieces false (byte ∷ bytes))

pub written_shortest : (ids : List ℕ) → IsShortestOf (idset_text ids) ids
written_shortest ids other (ranges, read, same) = let P : List ℕ → Type 0 =
    λ xs. length (idset_text xs) ≤ length other in subst P same (shortest_of other ranges read)

-- ---- a reader's answer

pub found_by : (text : List ℕ) (r : Result (List Range) TextFault) → IsResultOf r (idset_of text) →
    IfOk r (λ ranges. IsIdset text ranges)
found_by text (Ok ranges) e = idset_was_read text ranges e
found_by text (Err fault) e = tt

pub only_by : (text : List ℕ) (r : Result (List Range) TextFault) (ranges : List Range) → IsResultOf r (idset_of text) →
    IsIdset text ranges → IsResultOf r (Ok ranges)
only_by text r ranges e is = let P : Result (List Range) ℕ →
    Type 0 = λ read. IsResultOf r read in subst P (idset_is_read text ranges is) e

pub rising_by : (text : List ℕ) (r : Result (List Range) TextFault) → IsResultOf r (idset_of text) →
    IfOk r (λ ranges. Rises 0 ranges)
rising_by text (Ok ranges) e = idset_rises text ranges (idset_was_read text ranges e)
rising_by text (Err fault) e = tt
