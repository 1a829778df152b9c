-- Where an item stands in parts of one width.
use Rattle.std.proofs.Common.{◌≡◌, ℕ, zero, suc, ◌+◌, ◌-◌, ◌*◌, ◌/◌, ◌%◌, ◌^◌, ◌<◌, ◌≤◌, List, [], ◌∷◌, ◌++◌, length}
use Rattle.std.proofs.Common.{refl, ap, sym, ◌∙◌, inl, inr, arith, Some, slice_get, slice_set, length-append}
use Rattle.std.proofs.Common.{append-nil, append_assoc, subst}
use Rattle.std.proofs.Math.Nat.{mod-eq_of_lt, div-add-mod, mod-lt, div-lt_iff_lt-mul, mod-mod_of_dvd, dvd-mul_right}
use Rattle.std.proofs.lemmas.Nat.{pow-add}
use Rattle.std.proofs.Math.Pow.{pow_mono, pow-lt}
use Rattle.std.proofs.lemmas.Bool.{cases_lt}
use Rattle.snapshot_store.specs.Parts.{parts_in, items_in, IsPart, ArePacked, IsPage}
use Rattle.snapshot_store.specs.Places.{HasItem, HasRoom}
use Rattle.snapshot_store.specs.declared.parts.Page.{Page}
use Rattle.list_laws.proofs.Lists.{set_length}

pub width_fits : (b : ℕ) → b < 16 → 1 * 2 ^ (4 * b) % 18446744073709551616 ≡ 2 ^ (4 * b)
width_fits b l =
    let p : 2 ^ (4 * b) < 2 ^ 64 = pow-lt {i = 4 * b} {j = 64} (omega arith) in
    let one : 1 * 2 ^ (4 * b) ≡ 2 ^ (4 * b) = omega arith in
    rw one (mod-eq_of_lt (omega (arith, p)))

some_width : (b : ℕ) → 0 < 2 ^ (4 * b)
some_width b = let p : 2 ^ 0 ≤ 2 ^ (4 * b) = pow_mono {i = 0} {j = 4 * b} (omega arith) in omega (arith, p)

pub get_left : {E : Type 0} (xs ys : List E) (i : ℕ) → i < length xs → slice_get (xs ++ ys) i ≡ slice_get xs i
get_left [] ys i h = absurd (omega arith)
get_left (x ∷ xs) ys zero h = refl
get_left (x ∷ xs) ys (suc i) h = get_left xs ys i (omega arith)

pub get_right : {E : Type 0} (xs ys : List E) (i k : ℕ) → k ≡ length xs + i →
    slice_get (xs ++ ys) k ≡ slice_get ys i
get_right [] ys i k h = (let e : k ≡ i = omega arith in ap (λ u. slice_get ys u) e)
get_right (x ∷ xs) ys i zero h = absurd (omega arith)
get_right (x ∷ xs) ys i (suc k) h = get_right xs ys i k (omega arith)

pub set_left : {E : Type 0} (xs ys : List E) (i : ℕ) (e : E) → i < length xs →
    slice_set (xs ++ ys) i e ≡ slice_set xs i e ++ ys
set_left [] ys i e h = absurd (omega arith)
set_left (x ∷ xs) ys zero e h = refl
set_left (x ∷ xs) ys (suc i) e h = ap (λ l. x ∷ l) (set_left xs ys i e (omega arith))

pub set_right : {E : Type 0} (xs ys : List E) (i k : ℕ) (e : E) → k ≡ length xs + i →
    slice_set (xs ++ ys) k e ≡ xs ++ slice_set ys i e
set_right [] ys i k e h = (let q : k ≡ i = omega arith in ap (λ u. slice_set ys u e) q)
set_right (x ∷ xs) ys i zero e h = absurd (omega arith)
set_right (x ∷ xs) ys i (suc k) e h = ap (λ l. x ∷ l) (set_right xs ys i k e (omega arith))

-- a part before an item is full
full : {E : Type 0} (h w : ℕ) (part : List E × ℕ) (ys : List E) → w ≡ 2 ^ (4 * h) → IsPart h part →
    (length part.0 < 2 ^ (4 * h) → ys ≡ []) → 0 < length ys → w ≡ length part.0
full h w part ys e p f some =
    elim (cases_lt (length part.0) w) [
      | inl low ↦ (let none : length ys ≡ 0 = ap length (f (omega arith)) in absurd (omega arith))
      | inr all ↦ omega (arith, p.within)
    ]

-- an item that lies within the width of the first part is in it
first : {E : Type 0} (h w r : ℕ) (part : List E × ℕ) (ys : List E) → w ≡ 2 ^ (4 * h) → IsPart h part →
    (length part.0 < 2 ^ (4 * h) → ys ≡ []) → r < w → r < length (part.0 ++ ys) → r < length part.0
first h w r part ys e p f l i =
    let n = length-append part.0 ys in
    elim (cases_lt (length part.0) w) [
      | inl low ↦ (let none : length ys ≡ 0 = ap length (f (omega arith)) in omega arith)
      | inr all ↦ omega arith
    ]

next_row : (d w : ℕ) → suc d * w ≡ w + d * w
next_row d w = grind arith

-- what the part at the place d has at the place r, and what becomes of all where it gets another item there
pub record Holds {E : Type 0} (h : ℕ) (parts : List (List E × ℕ)) (at : ℕ) (part : List E × ℕ) (d r : ℕ) : Type 0 where
  pub inside : r < length part.0
  pub same : slice_get (items_in parts) at ≡ slice_get part.0 r
  pub fits : IsPart h part
  pub items : (x : E) → items_in (slice_set parts d (slice_set part.0 r x, part.1)) ≡ slice_set (items_in parts) at x
  pub packed : (x : E) → ArePacked h (slice_set parts d (slice_set part.0 r x, part.1))

holds : {E : Type 0} (h w : ℕ) (parts : List (List E × ℕ)) (d r at : ℕ) (part : List E × ℕ) → w ≡ 2 ^ (4 * h) →
    ArePacked h parts → at ≡ d * w + r → at < length (items_in parts) → r < w
    → slice_get parts d ≡ Some part → Holds h parts at part d r
holds h w [] d r at part e p a l q g = absurd (omega arith)
holds h w (t ∷ ts) zero r at part e p a l q g =
    let k : at ≡ r = omega arith in
    let i : r < length t.0 = first h w r t (items_in ts) e p.0 p.1 q (omega arith) in
    let same : t ≡ part = cc in
    subst (λ u. Holds h (t ∷ ts) at u 0 r) same (record {
      inside = i;
      same = ap (λ u. slice_get (t.0 ++ items_in ts) u) k ∙ get_left t.0 (items_in ts) r i;
      fits = p.0;
      items = λ x. sym (ap (λ u. slice_set (t.0 ++ items_in ts) u x) k ∙ set_left t.0 (items_in ts) r x i);
      packed = λ x. (let c = set_length t.0 r x in (
        record {
          within = omega (arith, p.0.within);
          high = p.0.high;
          tall = λ z. p.0.tall (omega arith);
          forked =
              p.0.forked;
        },
        λ z. p.1 (omega arith),
        p.2,
      ));
    })
holds h w (t ∷ ts) (suc d) r at part e p a l q g =
    let n = length-append t.0 (items_in ts) in
    let m = next_row d w in
    let b : length t.0 ≤ w = omega (arith, p.0.within) in
    let f : w ≡ length t.0 = full h w t (items_in ts) e p.0 p.1 (omega arith) in
    let later = holds h w ts d r (d * w + r) part e p.2 refl (omega arith) q g in
    record {
      inside = later.inside;
      same = get_right t.0 (items_in ts) (d * w + r) at (omega arith) ∙ later.same;
      fits = later.fits;
      items = λ x. ap (λ u. t.0 ++ u) (later.items x)
          ∙ sym (set_right t.0 (items_in ts) (d * w + r) at x (omega arith));
      packed = λ x. (p.0, λ z. absurd (omega arith), later.packed x);
    }

-- all parts together have at most so many items
packed_most : {E : Type 0} (h : ℕ) (parts : List (List E × ℕ)) → ArePacked h parts →
    length (items_in parts) ≤ length parts * 2 ^ (4 * h)
packed_most h [] p = omega arith
packed_most h (t ∷ ts) p =
    let n = length-append t.0 (items_in ts) in
    let m = next_row (length ts) (2 ^ (4 * h)) in
    omega (arith, packed_most h ts p.2, p.0.within)

-- a width of at least one row of sixteen is so many rows
pub four_more : (h : ℕ) → 2 ^ (4 * (h + 1)) ≡ 16 * 2 ^ (4 * h)
four_more h =
    let p = pow-add 2 (4 * h) 4 in
    let n : 4 * (h + 1) ≡ 4 * h + 4 = omega arith in
    let m : 2 ^ (4 * (h + 1)) ≡ 2 ^ (4 * h + 4) = ap (λ u. 2 ^ u) n in
    omega (arith, p, m)

row_width : (b : ℕ) → 1 ≤ b → 2 ^ (4 * b) ≡ 16 * 2 ^ (4 * (b - 1))
row_width b some =
    let e : b ≡ b - 1 + 1 = omega arith in
    ap (λ (u : ℕ). 2 ^ (4 * u)) e ∙ four_more (b - 1)

-- whole rows leave whole rows in a part of such a width
pub row_rest : (at b : ℕ) → 1 ≤ b → at % 16 ≡ 0 → at % 2 ^ (4 * b) % 16 ≡ 0
row_rest at b some rows =
    subst (λ (u : ℕ). at % u % 16 ≡ 0) (sym (row_width b some))
    (mod-mod_of_dvd 16 at (dvd-mul_right 16 (2 ^ (4 * (b - 1)))) ∙ rows)

-- and where one more item has room, so have sixteen
pub row_fits : (rest b : ℕ) → 1 ≤ b → rest % 16 ≡ 0 → rest < 2 ^ (4 * b) → rest + 16 ≤ 2 ^ (4 * b)
row_fits rest b some rows room = let w = row_width b some in omega (arith, w, rows, room)

within_sixteen : (at b : ℕ) → at < 16 * 2 ^ (4 * b) → at / 2 ^ (4 * b) < 16
within_sixteen at b l = (div-lt_iff_lt-mul {k = 2 ^ (4 * b)} {x = at} {y = 16} (some_width b)).1 (omega arith)

-- the place of a part, and the place in it
rows : (at w : ℕ) → at ≡ at / w * w + at % w
rows at w = let d = div-add-mod at w in grind (arith, d)

pub has_item : {E : Type 0} (page : Page E) (at width : ℕ) (part : List E × ℕ) → width ≡ 2 ^ (4 * page.below) →
    IsPage page → at < length (items_in (parts_in page)) →
    slice_get (parts_in page) (at / width) ≡ Some part → HasItem page at part (at / width) (at % width)
has_item page at width part e p l g =
    let some = some_width page.below in
    let it = holds page.below width (parts_in page) (at / width) (at % width) at part e p.packed (rows at width) l
    (mod-lt at (omega arith)) g in
    record {
      inside = it.inside;
      high = it.fits.tall (omega (arith, it.inside));
      same = it.same;
      items = it.items;
      packed = it.packed;
    }

pub item_place : {E : Type 0} (page : Page E) (at width : ℕ) → width ≡ 2 ^ (4 * page.below) → IsPage page →
    at < length (items_in (parts_in page)) → at / width < 16
item_place page at width e p l =
    let m = packed_most page.below (parts_in page) p.packed in
    let all : length (parts_in page) * 2 ^ (4 * page.below) ≡ 16 * 2 ^ (4 * page.below) =
    ap (λ (n : ℕ). n * 2 ^ (4 * page.below)) p.sixteen in
    subst (λ u. at / u < 16) (sym e) (within_sixteen at page.below (omega (arith, m, all)))

-- the part that has room for more items
pub record Grows {E : Type 0} (h : ℕ) (parts : List (List E × ℕ)) (part : List E × ℕ) (d r : ℕ) : Type 0 where
  pub len : r ≡ length part.0
  pub fits : IsPart h part
  pub items : (xs : List E) → items_in (slice_set parts d (part.0 ++ xs, h)) ≡ items_in parts ++ xs
  pub packed : (xs : List E) → r + length xs ≤ 2 ^ (4 * h) → ArePacked h (slice_set parts d (part.0 ++ xs, h))

pub more : {E : Type 0} (h : ℕ) (t : List E × ℕ) (xs : List E) → length t.0 + length xs ≤ 2 ^ (4 * h) →
    IsPart h (t.0 ++ xs, h)
more h t xs l = let m = length-append t.0 xs in
    record { within = omega (arith, m, l); high = omega arith; tall = λ z. refl; forked = λ z. refl }

grows : {E : Type 0} (h w : ℕ) (parts : List (List E × ℕ)) (d r : ℕ) (part : List E × ℕ) → w ≡ 2 ^ (4 * h) →
    ArePacked h parts → length (items_in parts) ≡ d * w + r → r < w
    → slice_get parts d ≡ Some part → Grows h parts part d r
grows h w [] d r part e p a q g = absurd (cc)
grows h w (t ∷ ts) zero r part e p a q g =
    let n = length-append t.0 (items_in ts) in
    let none : items_in ts ≡ [] = p.1 (omega arith) in
    let zero_left : length (items_in ts) ≡ 0 = ap length none in
    let same : t ≡ part = cc in
    subst (λ u. Grows h (t ∷ ts) u 0 r) same (record {
      len = omega arith;
      fits = p.0;
      items = λ xs. ap (λ u. (t.0 ++ xs) ++ u) none ∙ append-nil (t.0 ++ xs)
          ∙ sym (ap (λ u. u ++ xs) (ap (λ u. t.0 ++ u) none ∙ append-nil t.0));
      packed = λ xs l. (more h t xs (omega (arith, l)), λ z. none, p.2);
    })
grows h w (t ∷ ts) (suc d) r part e p a q g =
    let n = length-append t.0 (items_in ts) in
    let m = next_row d w in
    let b : length t.0 ≤ w = omega (arith, p.0.within) in
    let f : w ≡ length t.0 = elim (cases_lt (length t.0) w) [
      | inl low ↦ (let none : length (items_in ts) ≡ 0 = ap length (p.1 (omega arith)) in absurd (omega arith))
      | inr all ↦ omega arith
    ] in
    let later = grows h w ts d r part e p.2 (omega arith) q g in
    record {
      len = later.len;
      fits = later.fits;
      items = λ xs. ap (λ u. t.0 ++ u) (later.items xs) ∙ sym (append_assoc t.0 (items_in ts) xs);
      packed = λ xs l. (p.0, λ z. absurd (omega arith), later.packed xs l);
    }

pub has_room : {E : Type 0} (page : Page E) (at width : ℕ) (part : List E × ℕ) → width ≡ 2 ^ (4 * page.below) →
    IsPage page → at ≡ length (items_in (parts_in page)) →
    slice_get (parts_in page) (at / width) ≡ Some part → HasRoom page part (at / width) (at % width)
has_room page at width part e p l g =
    let some = some_width page.below in
    let below : at % width < width = mod-lt at (omega arith) in
    let it = grows page.below width (parts_in page) (at / width) (at % width) part e p.packed (sym l ∙ rows at width)
    below g in
    record { len = it.len; room = omega (arith, below); fits = it.fits; items = it.items; packed = it.packed }

pub room_place : {E : Type 0} (page : Page E) (at width : ℕ) → width ≡ 2 ^ (4 * page.below) →
    at < 16 * 2 ^ (4 * page.below) → at / width < 16
room_place page at width e l = subst (λ u. at / u < 16) (sym e) (within_sixteen at page.below l)

-- a quotient and a remainder that were found otherwise
module _ {E : Type 0} (page : Page E) (at : ℕ) (part : List E × ℕ) (place rest : ℕ)
    (by : place ≡ at / 2 ^ (4 * page.below)) (left : rest ≡ at % 2 ^ (4 * page.below)) where
  pub item_split : HasItem page at part (at / 2 ^ (4 * page.below)) (at % 2 ^ (4 * page.below)) →
      HasItem page at part place rest
  item_split it = subst (λ (r : ℕ). HasItem page at part place r) (sym left)
      (subst (λ (d : ℕ). HasItem page at part d (at % 2 ^ (4 * page.below))) (sym by) it)

  pub room_split : HasRoom page part (at / 2 ^ (4 * page.below)) (at % 2 ^ (4 * page.below)) →
      HasRoom page part place rest
  room_split it = subst (λ (r : ℕ). HasRoom page part place r) (sym left)
      (subst (λ (d : ℕ). HasRoom page part d (at % 2 ^ (4 * page.below))) (sym by) it)
