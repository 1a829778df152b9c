-- A page after a change of one of its parts.
use Rattle.std.proofs.Common.{◌≡◌, ℕ, ◌+◌, ◌*◌, ◌^◌, ◌<◌, ◌≤◌, ◌%◌, ◌≢◌, List, [], ◌∷◌, ◌++◌, length, ap, sym}
use Rattle.std.proofs.Common.{◌∙◌, arith}
use Rattle.std.proofs.Common.{Some, slice_get, slice_set, subst, refl}
use Rattle.std.proofs.lemmas.List.{nil_from_length}
use Rattle.std.proofs.lemmas.Option.{same_Some}
use Rattle.node_store.specs.Lending.{with_part}
use Rattle.snapshot_store.specs.Parts.{parts_in, items_in, items_of, height_of, ArePacked, IsPage, IsFull}
use Rattle.snapshot_store.specs.Places.{HasItem, HasRoom}
use Rattle.snapshot_store.specs.declared.parts.Body.{Body}
use Rattle.snapshot_store.specs.declared.parts.Body.TheVariants.{Item, Fork}
use Rattle.snapshot_store.specs.declared.parts.Page.{Page}
use Rattle.snapshot_store.proofs.PlaceLaws.{four_more, row_rest, row_fits}
use Rattle.list_laws.proofs.Lists.{set_back, set_length, get_some}

-- the page with another part at a place
abbrev pub changed : {E : Type 0} → Page E → ℕ → List E × ℕ → Page E
changed page place part = record { below = page.below; parts = with_part page.parts place part }

pub pairs : {A B : Type 0} (a a' : A) (b b' : B) → a ≡ a' → b ≡ b' → Path (A × B) (a, b) (a', b')
pairs {A} {B} a a' b b' e f = ap (λ (u : A). let v : A × B = (u, b) in v) e
    ∙ ap (λ (u : B). let v : A × B = (a', u) in v) f

-- what a part is seen as while its page is open
pub opened : {E : Type 0} (seen : List E × ℕ) (body : Body E) (node page : Page E) →
    (items_of body, height_of body) ≡ seen → body ≡ Fork node → page ≡ node →
    seen ≡ (items_in (parts_in page), page.below + 1)
opened seen body node page e f g = sym e ∙ ap (λ u. (items_of u, height_of u)) f
    ∙ ap (λ (u : Page _). (items_in (parts_in u), u.below + 1)) (sym g)

module _ {E : Type 0} (page : Page E) (place : ℕ) (part new : List E × ℕ) where
  -- the parts after the change, where the new part is this one
  parts_after : (s : List E × ℕ) → new ≡ s → parts_in (changed page place new) ≡ slice_set (parts_in page) place s
  parts_after s e = ap (λ u. slice_set (parts_in page) place u) e

  is_page : (s : List E × ℕ) → new ≡ s → IsPage page → ArePacked page.below (slice_set (parts_in page) place s) →
      IsPage (changed page place new)
  is_page s e p packed = record {
    low = p.low;
    sixteen = set_length (parts_in page) place new ∙ p.sixteen;
    packed = subst (λ u. ArePacked page.below u) (sym (parts_after s e))
        packed;
  }

  pub put_page : (at rest : ℕ) (x : E) → IsPage page → HasItem page at part place rest →
      new ≡ (slice_set part.0 rest x, part.1) → IsPage (changed page place new)
  put_page at rest x p it e = is_page _ e p (it.packed x)

  pub put_seen : (seen : List E × ℕ) (at rest : ℕ) (x : E) → seen ≡ (items_in (parts_in page), page.below + 1) →
      HasItem page at part place rest → new ≡ (slice_set part.0 rest x, part.1) →
      Path (List E × ℕ) (items_in (parts_in (changed page place new)), page.below + 1) (slice_set seen.0 at x, seen.1)
  put_seen seen at rest x q it e =
      pairs _ _ _ _ (ap items_in (parts_after _ e) ∙ it.items x ∙ ap (λ (u : List E × ℕ). slice_set u.0 at x) (sym q))
      (ap (λ (u : List E × ℕ). u.1) (sym q))

  pub more_page : (rest : ℕ) (xs : List E) → IsPage page → HasRoom page part place rest →
      rest + length xs ≤ 2 ^ (4 * page.below) → new ≡ (part.0 ++ xs, page.below) → IsPage (changed page place new)
  more_page rest xs p it l e = is_page _ e p (it.packed xs l)

  pub more_items : (rest : ℕ) (xs : List E) → HasRoom page part place rest → new ≡ (part.0 ++ xs, page.below) →
      items_in (parts_in (changed page place new)) ≡ items_in (parts_in page) ++ xs
  more_items rest xs it e = ap items_in (parts_after _ e) ∙ it.items xs

  pub more_seen : (seen : List E × ℕ) (height rest : ℕ) (xs : List E) →
      seen ≡ (items_in (parts_in page), page.below + 1) → (0 < seen.1 → seen.1 ≡ height) →
      HasRoom page part place rest → new ≡ (part.0 ++ xs, page.below) →
      Path (List E × ℕ) (items_in (parts_in (changed page place new)), page.below + 1) (seen.0 ++ xs, height)
  more_seen seen height rest xs q forked it e =
      let high : seen.1 ≡ page.below + 1 = ap (λ (u : List E × ℕ). u.1) q in
      let tall : page.below + 1 ≡ height = sym high ∙ forked (omega arith) in
      pairs _ _ _ _ (more_items rest xs it e ∙ ap (λ (u : List E × ℕ). u.0 ++ xs) (sym q)) tall

  pub kept_page : IsPage page → slice_get (parts_in page) place ≡ Some part → new ≡ part →
      IsPage (changed page place new)
  kept_page p g e = is_page _ e p (subst (λ u. ArePacked page.below u) (sym (set_back (parts_in page) place part g))
      p.packed)

  pub kept_seen : (seen : List E × ℕ) → seen ≡ (items_in (parts_in page), page.below + 1) →
      slice_get (parts_in page) place ≡ Some part → new ≡ part →
      Path (List E × ℕ) (items_in (parts_in (changed page place new)), page.below + 1) seen
  kept_seen seen q g e = ap (λ u. (items_in u, page.below + 1))
      (parts_after _ e ∙ set_back (parts_in page) place part g) ∙ sym q

-- an open part has at that place what its part has at the rest
pub item_in : {E : Type 0} (seen : List E × ℕ) (page : Page E) (part : List E × ℕ) (place at rest : ℕ) (x : E) →
    seen ≡ (items_in (parts_in page), page.below + 1) → HasItem page at part place rest →
    slice_get part.0 rest ≡ Some x → slice_get seen.0 at ≡ Some x
item_in {E} seen page part place at rest x q it is =
    ap (λ (u : List E × ℕ). slice_get u.0 at) q ∙ it.same ∙ is

-- and its part has at the rest what it has at that place
pub item_of : {E : Type 0} (seen : List E × ℕ) (page : Page E) (part : List E × ℕ) (place at rest : ℕ) (x : E) →
    seen ≡ (items_in (parts_in page), page.below + 1) → HasItem page at part place rest →
    slice_get seen.0 at ≡ Some x → slice_get part.0 rest ≡ Some x
item_of {E} seen page part place at rest x q it is =
    sym it.same ∙ sym (ap (λ (u : List E × ℕ). slice_get u.0 at) q) ∙ is

-- what a part that is one item is seen as
pub one_item : {E : Type 0} (seen : List E × ℕ) (body : Body E) (item : E) →
    (items_of body, height_of body) ≡ seen → body ≡ Item item → seen ≡ (item ∷ [], 0)
one_item seen body item e f = sym e ∙ ap (λ u. (items_of u, height_of u)) f

-- its place is the first one
first_place : {E : Type 0} (seen : List E × ℕ) (item : E) (at : ℕ) → seen ≡ (item ∷ [], 0) → at < length seen.0 →
    at ≡ 0
first_place {E} seen item at q within =
    let one : length seen.0 ≡ 1 = ap (λ (u : List E × ℕ). length u.0) q in
    omega (arith, within, one)

pub one_changed : {E : Type 0} (seen : List E × ℕ) (item new : E) (at : ℕ) → seen ≡ (item ∷ [], 0) →
    at < length seen.0 → Path (List E × ℕ) (new ∷ [], 0) (slice_set seen.0 at new, seen.1)
one_changed {E} seen item new at q within =
    pairs _ _ _ _ (sym (ap (λ (u : List E × ℕ). slice_set u.0 at new) q
    ∙ ap (λ k. slice_set (item ∷ []) k new) (first_place seen item at q within)))
    (sym (ap (λ (u : List E × ℕ). u.1) q))

pub one_at : {E : Type 0} (seen : List E × ℕ) (item x : E) (at : ℕ) → seen ≡ (item ∷ [], 0) → at < length seen.0 →
    slice_get seen.0 at ≡ Some x → item ≡ x
one_at {E} seen item x at q within is =
    same_Some item x (sym (ap (λ (u : List E × ℕ). slice_get u.0 at) q
    ∙ ap (λ k. slice_get (item ∷ []) k) (first_place seen item at q within)) ∙ is)

-- a part that stays has at a place some item that is put back
pub stayed : {E : Type 0} (seen now : List E × ℕ) (at : ℕ) → at < length seen.0 → now ≡ seen →
    (x : E) × (now ≡ (slice_set seen.0 at x, seen.1))
stayed {E} seen now at within e =
    let (x, is) = get_some seen.0 at within in
    (x, e ∙ pairs seen.0 _ seen.1 seen.1 (sym (set_back seen.0 at x is)) refl)

-- an open part of that height is one higher than its parts
pub tall_in : {E : Type 0} (seen : List E × ℕ) (page : Page E) (height : ℕ) →
    seen ≡ (items_in (parts_in page), page.below + 1) → (0 < seen.1 → seen.1 ≡ height) → height ≡ page.below + 1
tall_in {E} seen page height q forked =
    let high : seen.1 ≡ page.below + 1 = ap (λ (u : List E × ℕ). u.1) q in omega (arith, high, forked (omega arith))

-- and has room for as many items as sixteen of them
pub room_in : {E : Type 0} (seen : List E × ℕ) (page : Page E) (height at : ℕ) →
    seen ≡ (items_in (parts_in page), page.below + 1) → (0 < seen.1 → seen.1 ≡ height) → at < 2 ^ (4 * height) →
    at < 16 * 2 ^ (4 * page.below)
room_in seen page height at q forked l =
    let m : 2 ^ (4 * height) ≡ 2 ^ (4 * (page.below + 1)) = ap (λ u. 2 ^ (4 * u)) (tall_in seen page height q forked) in
    omega (arith, l, m, four_more page.below)

-- of a part with whole rows of sixteen items: the part in it that the next row goes to
pub record HasRows (below rest : ℕ) : Type 0 where
  pub tall : 1 ≤ below
  pub rows : rest % 16 ≡ 0
  pub room : rest + 16 ≤ 2 ^ (4 * below)

pub rows_in : (height below at rest : ℕ) → height ≡ below + 1 → 1 ≤ height → height ≢ 1 → at % 16 ≡ 0 →
    rest ≡ at % 2 ^ (4 * below) → rest < 2 ^ (4 * below) → HasRows below rest
rows_in height below at rest e low more rows is room =
    let tall : 1 ≤ below = omega (arith, e, low, more) in
    let left : rest % 16 ≡ 0 = ap (λ (u : ℕ). u % 16) is ∙ row_rest at below tall rows in
    record { tall = tall; rows = left; room = row_fits rest below tall left room }

-- a part of height 1 that takes a whole row is that row
pub first_row : {E : Type 0} (old full part : List E × ℕ) (height at : ℕ) → height ≡ 1 → IsFull full → at % 16 ≡ 0 →
    at ≡ length old.0 → at < 2 ^ (4 * height) → part ≡ full → part ≡ (old.0 ++ full.0, height)
first_row {E} old full part height at one is rows end room e =
    let w : 2 ^ (4 * height) ≡ 16 = ap (λ (u : ℕ). 2 ^ (4 * u)) one in
    let none : old.0 ≡ [] = nil_from_length old.0 (omega (arith, w, rows, end, room)) in
    let tall : full.1 ≡ 1 = is.fits.tall (omega (arith, is.all)) in
    e ∙ pairs _ _ _ _ (ap (λ (u : List E). u ++ full.0) (sym none)) (tall ∙ sym one)

-- a part of height 0 that takes an item has that item alone
pub first_item : {E : Type 0} (page : Page E) (part : List E × ℕ) (place rest : ℕ) (x y : E) → page.below ≡ 0 →
    HasRoom page part place rest → y ≡ x → Path (List E × ℕ) (y ∷ [], 0) (part.0 ++ x ∷ [], page.below)
first_item {E} page part place rest x y low it e =
    let w : 2 ^ (4 * page.below) ≡ 1 = ap (λ (u : ℕ). 2 ^ (4 * u)) low in
    let none : part.0 ≡ [] = nil_from_length part.0 (omega (arith, w, it.room, it.len)) in
    pairs _ _ _ _ (ap (λ (u : E). u ∷ []) e ∙ ap (λ (u : List E). u ++ x ∷ []) (sym none)) (sym low)
