-- Rows by their keys: which of sixteen parts has a key, and what a change of that part makes of all.
use Rattle.std.proofs.Common.{◌≡◌, ◌≢◌, ℕ, zero, suc, ◌+◌, ◌*◌, ◌/◌, ◌%◌, ◌^◌, ◌<◌, ◌≤◌, List, [], ◌∷◌, ◌++◌, length}
use Rattle.std.proofs.Common.{map, replicate, cond, Some, None, refl, ap, sym, ◌∙◌, ◌⊎◌, inl, inr, arith, slice_get}
use Rattle.std.proofs.Common.{slice_set, subst, add-one}
use Rattle.std.proofs.Math.Nat.{pow-suc}
use Rattle.std.proofs.lemmas.Bool.{cases_lt}
use Rattle.std.specs.Ordering.{nat_cmp}
use Rattle.std.specs.Cmp.{nat_cmp_total, eq_by_cmp_equiv}
use Rattle.std.specs.FinMap.{find}
use Rattle.std.proofs.lemmas.Option.{slice_get_within}
use Rattle.node_store.specs.Lending.{with_part}
use Rattle.job_table.specs.declared.tables.Row.{Row}
use Rattle.job_table.specs.declared.parts.Branch.{Branch}
use Rattle.job_table.specs.declared.parts.Body.{Body}
use Rattle.job_table.specs.declared.parts.Body.TheVariants.{Entry, Fork}
use Rattle.job_table.specs.Parts.{parts_in, with_digit, entries_from, entries_of, height_of, AreBelow, IsPart, AreParts}
use Rattle.job_table.specs.Parts.{IsBranch, Sets}
use Rattle.job_table.proofs.RowLaws.{unequal}
use Rattle.list_laws.proofs.Lists.{get_some, get_set, get_beside, set_length, set_back}

pub same_or_not : (a b : ℕ) → (a ≡ b) ⊎ (a ≢ b)
same_or_not a b = elim (cases_lt a b) [
  | inl less ↦ inr (λ e. absurd (omega arith))
  | inr most ↦ elim (cases_lt b a) [
    | inl more ↦ inr (λ e. absurd (omega arith))
    | inr least ↦ inl (omega arith)
  ]
]

-- a list whose first entry has the key, or another one
first : (key other : ℕ) (row : Row) (rest : List (ℕ × Row)) → key ≡ other →
    find nat_cmp key ((other, row) ∷ rest) ≡ Some row
first key other row rest e = ap (λ k. find nat_cmp k ((other, row) ∷ rest)) e
    ∙ ap (λ b. cond b (Some row) (find nat_cmp other rest)) ((eq_by_cmp_equiv nat_cmp_total).refl other)

later : (key other : ℕ) (row : Row) (rest : List (ℕ × Row)) → key ≢ other →
    find nat_cmp key ((other, row) ∷ rest) ≡ find nat_cmp key rest
later key other row rest ne = ap (λ b. cond b (Some row) (find nat_cmp key rest)) (unequal key other ne)

-- two lists, of which one doesn't have the key
in_right : (key : ℕ) (xs ys : List (ℕ × Row)) → find nat_cmp key xs ≡ None →
    find nat_cmp key (xs ++ ys) ≡ find nat_cmp key ys
in_right key [] ys none = refl
in_right key (x ∷ xs) ys none = elim (same_or_not key x.0) [
  | inl e ↦ (let some = first key x.0 x.1 xs e in absurd (cc))
  | inr ne ↦ later key x.0 x.1 (xs ++ ys) ne ∙ in_right key xs ys (sym (later key x.0 x.1 xs ne) ∙ none)
]

in_left : (key : ℕ) (xs ys : List (ℕ × Row)) → find nat_cmp key ys ≡ None →
    find nat_cmp key (xs ++ ys) ≡ find nat_cmp key xs
in_left key [] ys none = none
in_left key (x ∷ xs) ys none = elim (same_or_not key x.0) [
  | inl e ↦ first key x.0 x.1 (xs ++ ys) e ∙ sym (first key x.0 x.1 xs e)
  | inr ne ↦ later key x.0 x.1 (xs ++ ys) ne ∙ in_left key xs ys none ∙ sym (later key x.0 x.1 xs ne)
]

-- keys with a digit more
with_same : (key digit : ℕ) (xs : List (ℕ × Row)) →
    find nat_cmp (16 * key + digit) (map (with_digit digit) xs) ≡ find nat_cmp key xs
with_same key digit [] = refl
with_same key digit (x ∷ xs) = elim (same_or_not key x.0) [
  | inl e ↦ first (16 * key + digit) (16 * x.0 + digit) x.1 (map (with_digit digit) xs) (omega arith)
      ∙ sym (first key x.0 x.1 xs e)
  | inr ne ↦ later (16 * key + digit) (16 * x.0 + digit) x.1 (map (with_digit digit) xs) (λ e. ne (omega arith))
      ∙ with_same key digit xs ∙ sym (later key x.0 x.1 xs ne)
]

with_other : (key digit other : ℕ) (xs : List (ℕ × Row)) → digit < 16 → other < 16 → digit ≢ other →
    find nat_cmp (16 * key + digit) (map (with_digit other) xs) ≡ None
with_other key digit other [] a b ne = refl
with_other key digit other (x ∷ xs) a b ne =
    later (16 * key + digit) (16 * x.0 + other) x.1 (map (with_digit other) xs) (λ e. ne (omega arith))
    ∙ with_other key digit other xs a b ne

-- no part from a digit on has a key that ends in a lesser one
none_from : (key digit least : ℕ) (parts : List (List (ℕ × Row) × ℕ)) → digit < least → least + length parts ≤ 16 →
    find nat_cmp (16 * key + digit) (entries_from least parts) ≡ None
none_from key digit least [] l m = refl
none_from key digit least (part ∷ parts) l m =
    in_right (16 * key + digit) (map (with_digit least) part.0) (entries_from (suc least) parts)
    (with_other key digit least part.0 (omega arith) (omega arith) (λ e. absurd (omega arith)))
    ∙ none_from key digit (suc least) parts (omega arith) (omega arith)

in_part : (key digit place : ℕ) (parts : List (List (ℕ × Row) × ℕ)) (part : List (ℕ × Row) × ℕ) →
    digit + length parts ≤ 16 → slice_get parts place ≡ Some part →
    find nat_cmp (16 * key + (digit + place)) (entries_from digit parts) ≡ find nat_cmp key part.0
in_part key digit place [] part m g = absurd (cc)
in_part key digit zero (p ∷ ps) part m g =
    let same : p ≡ part = cc in
    let e : 16 * key + (digit + 0) ≡ 16 * key + digit = omega arith in
    ap (λ k. find nat_cmp k (entries_from digit (p ∷ ps))) e
    ∙ in_left (16 * key + digit) (map (with_digit digit) p.0) (entries_from (suc digit) ps)
    (none_from key digit (suc digit) ps (omega arith) (omega arith))
    ∙ with_same key digit p.0 ∙ ap (λ (u : List (ℕ × Row) × ℕ). find nat_cmp key u.0) same
in_part key digit (suc place) (p ∷ ps) part m g =
    let here : suc place < length (p ∷ ps) = slice_get_within (p ∷ ps) (suc place) part g in
    let e : 16 * key + (digit + suc place) ≡ 16 * key + (suc digit + place) = omega arith in
    in_right (16 * key + (digit + suc place)) (map (with_digit digit) p.0) (entries_from (suc digit) ps)
    (with_other key (digit + suc place) digit p.0 (omega arith) (omega arith) (λ f. absurd (omega arith)))
    ∙ ap (λ k. find nat_cmp k (entries_from (suc digit) ps)) e ∙ in_part key (suc digit) place ps part (omega arith) g

-- a key in sixteen parts is the rest of it in the part of its last digit
pub in_parts : (key : ℕ) (parts : List (List (ℕ × Row) × ℕ)) (part : List (ℕ × Row) × ℕ) → length parts ≡ 16 →
    slice_get parts (key % 16) ≡ Some part →
    find nat_cmp key (entries_from 0 parts) ≡ find nat_cmp (key / 16) part.0
in_parts key parts part m g =
    let e : key ≡ 16 * (key / 16) + (0 + key % 16) = omega arith in
    ap (λ k. find nat_cmp k (entries_from 0 parts)) e ∙ in_part (key / 16) 0 (key % 16) parts part (omega arith) g

pub sets_parts : (key : ℕ) (row : Row) (parts : List (List (ℕ × Row) × ℕ)) (part new : List (ℕ × Row) × ℕ) →
    length parts ≡ 16 → slice_get parts (key % 16) ≡ Some part →
    Sets part.0 new.0 (key / 16) row → Sets (entries_from 0 parts) (entries_from 0 (slice_set parts (key % 16) new))
    key row
sets_parts key row parts part new m g s =
    let digit : key % 16 < 16 = omega arith in
    let n = set_length parts (key % 16) new in
    record {
      here = in_parts key (slice_set parts (key % 16) new) new (omega arith)
          (get_set parts (key % 16) new (omega arith)) ∙ s.here;
      others = λ other ne. elim (same_or_not (other % 16) (key % 16)) [
        | inl e ↦ (let rest : (other / 16) ≢ (key / 16) = (λ f. ne (omega arith)) in
            in_parts other (slice_set parts (key % 16) new) new (omega arith)
            (ap (λ u. slice_get (slice_set parts (key % 16) new) u) e ∙ get_set parts (key % 16) new (omega arith))
            ∙ s.others (other / 16) rest ∙ sym (in_parts other parts part m (ap (λ u. slice_get parts u) e ∙ g)))
        | inr beside ↦ (let it = get_some parts (other % 16) (omega arith) in
            in_parts other (slice_set parts (key % 16) new) it.0 (omega arith)
            (get_beside parts (key % 16) (other % 16) new beside ∙ it.1) ∙ sym (in_parts other parts it.0 m it.1))
      ];
    }

-- one row alone
pub sets_none : (key : ℕ) (row : Row) → Sets [] ((key, row) ∷ []) key row
sets_none key row = record { here = first key key row [] refl; others = λ other ne. later other key row [] ne }

pub sets_same : (key : ℕ) (old row : Row) → Sets ((key, old) ∷ []) ((key, row) ∷ []) key row
sets_same key old row = record {
  here = first key key row [] refl;
  others = λ other ne. later other key row [] ne
      ∙ sym (later other key old [] ne);
}

-- how many digits the keys have
below_append : (most : ℕ) (xs ys : List (ℕ × Row)) → AreBelow most xs → AreBelow most ys → AreBelow most (xs ++ ys)
below_append most [] ys a b = b
below_append most (x ∷ xs) ys a b = (a.0, below_append most xs ys a.1 b)

below_digit : (most digit : ℕ) (xs : List (ℕ × Row)) → digit < 16 → AreBelow most xs →
    AreBelow (16 * most) (map (with_digit digit) xs)
below_digit most digit [] d a = tt
below_digit most digit (x ∷ xs) d a = (omega (arith, a.0), below_digit most digit xs d a.1)

below_parts : (digits digit : ℕ) (parts : List (List (ℕ × Row) × ℕ)) → digit + length parts ≤ 16 →
    AreParts digits parts → AreBelow (16 * 16 ^ digits) (entries_from digit parts)
below_parts digits digit [] m a = tt
below_parts digits digit (part ∷ parts) m a =
    below_append (16 * 16 ^ digits) (map (with_digit digit) part.0) (entries_from (suc digit) parts)
    (below_digit (16 ^ digits) digit part.0 (omega arith) a.0.keys)
    (below_parts digits (suc digit) parts (omega arith) a.1)

pub digit_more : (digits : ℕ) → 16 ^ (digits + 1) ≡ 16 * 16 ^ digits
digit_more digits = ap (λ u. 16 ^ u) (add-one digits) ∙ pow-suc 16 digits ∙ times (16 ^ digits)
  where
    times : (n : ℕ) → n * 16 ≡ 16 * n
    times n = omega arith

parts_set : (digits at : ℕ) (parts : List (List (ℕ × Row) × ℕ)) (new : List (ℕ × Row) × ℕ) → AreParts digits parts →
    IsPart digits new → AreParts digits (slice_set parts at new)
parts_set digits at [] new a p = tt
parts_set digits zero (part ∷ parts) new a p = (p, a.1)
parts_set digits (suc at) (part ∷ parts) new a p = (a.0, parts_set digits at parts new a.1 p)

-- sixteen parts are a part of one digit more
pub part_of : (digits most : ℕ) (parts : List (List (ℕ × Row) × ℕ)) (part : List (ℕ × Row) × ℕ) → length parts ≡ 16 →
    AreParts digits parts → most ≡ digits + 1 → part ≡ (entries_from 0 parts, digits + 1) → IsPart most part
part_of digits most parts part m a e seen =
    let w : 16 * 16 ^ digits ≡ 16 ^ most = sym (digit_more digits) ∙ ap (λ u. 16 ^ u) (sym e) in
    subst (λ u. IsPart most u) (sym seen) (record {
      keys = subst (λ u. AreBelow u (entries_from 0 parts)) w (below_parts digits 0 parts (omega arith) a);
      high = omega arith;
      forked = λ h. sym e;
    })

pub one_row : (digits key : ℕ) (row : Row) (part : List (ℕ × Row) × ℕ) → key < 16 ^ digits →
    part ≡ ((key, row) ∷ [], 0) → IsPart digits part
one_row digits key row part l e = subst (λ u. IsPart digits u) (sym e)
    (record { keys = (l, tt); high = omega arith; forked = λ h. absurd (omega arith) })

-- the node with another part at a digit
abbrev pub changed : Branch → ℕ → List (ℕ × Row) × ℕ → Branch
changed branch digit part = record { below = branch.below; parts = with_part branch.parts digit part }

module _ (branch : Branch) (key : ℕ) (part new : List (ℕ × Row) × ℕ)
    (at_digit : slice_get (parts_in branch) (key % 16) ≡ Some part) where
  pub set_level : IsBranch branch → IsPart branch.below new → IsBranch (changed branch (key % 16) new)
  set_level level p = record {
    sixteen = set_length (parts_in branch) (key % 16) new ∙ level.sixteen;
    parts = parts_set branch.below (key % 16) (parts_in branch) new level.parts p;
  }

  pub set_row : (row : Row) → length (parts_in branch) ≡ 16 → Sets part.0 new.0 (key / 16) row →
      Sets (entries_from 0 (parts_in branch)) (entries_from 0 (parts_in (changed branch (key % 16) new))) key row
  set_row row sixteen s = sets_parts key row (parts_in branch) part new sixteen at_digit s

  pub kept : new ≡ part → parts_in (changed branch (key % 16) new) ≡ parts_in branch
  kept e = ap (λ u. slice_set (parts_in branch) (key % 16) u) e
      ∙ set_back (parts_in branch) (key % 16) part at_digit

  pub kept_level : new ≡ part → IsBranch branch → IsBranch (changed branch (key % 16) new)
  kept_level e level = record {
    sixteen = ap length (kept e) ∙ level.sixteen;
    parts = subst (λ u. AreParts branch.below u) (sym (kept e)) level.parts;
  }

part_at : (digits at : ℕ) (parts : List (List (ℕ × Row) × ℕ)) (part : List (ℕ × Row) × ℕ) → AreParts digits parts →
    slice_get parts at ≡ Some part → IsPart digits part
part_at digits at [] part a g = absurd (cc)
part_at digits zero (p ∷ ps) part a g = (let e : p ≡ part = cc in subst (λ u. IsPart digits u) e a.0)
part_at digits (suc at) (p ∷ ps) part a g = part_at digits at ps part a.1 g

pub part_in : (branch : Branch) (at : ℕ) (part : List (ℕ × Row) × ℕ) → IsBranch branch →
    slice_get (parts_in branch) at ≡ Some part → IsPart branch.below part
part_in branch at part level g = part_at branch.below at (parts_in branch) part level.parts g

-- a node is a part of one digit more than its parts
pub branch_part : (branch : Branch) (digits : ℕ) → IsBranch branch → branch.below + 1 ≡ digits →
    IsPart digits (entries_from 0 (parts_in branch), branch.below + 1)
branch_part branch digits level e =
    part_of branch.below digits (parts_in branch) _ level.sixteen level.parts (sym e) refl

pub tall : (seen : List (ℕ × Row) × ℕ) (branch : Branch) (digits : ℕ) →
    seen ≡ (entries_from 0 (parts_in branch), branch.below + 1) → IsPart digits seen → branch.below + 1 ≡ digits
tall seen branch digits q p =
    let high : seen.1 ≡ branch.below + 1 = ap (λ (u : List (ℕ × Row) × ℕ). u.1) q in
    sym high ∙ p.forked (omega arith)

pub rest_of : (key below digits : ℕ) → below + 1 ≡ digits → key < 16 ^ digits → key / 16 < 16 ^ below
rest_of key below digits e l =
    let w : 16 ^ digits ≡ 16 * 16 ^ below = ap (λ u. 16 ^ u) (sym e) ∙ digit_more below in
    omega arith

-- a part of one row
entry_seen : (seen : List (ℕ × Row) × ℕ) (body : Body) (other : ℕ) (old : Row) →
    (entries_of body, height_of body) ≡ seen → body ≡ Entry other old → seen ≡ ((other, old) ∷ [], 0)
entry_seen seen body other old e f = sym e ∙ ap (λ u. (entries_of u, height_of u)) f

-- two keys of which neither has a digit are the same
pub some_digits : (seen : List (ℕ × Row) × ℕ) (body : Body) (other key digits : ℕ) (old : Row) →
    (entries_of body, height_of body) ≡ seen → body ≡ Entry other old → IsPart digits seen →
    key < 16 ^ digits → other ≢ key → 1 ≤ digits
some_digits seen body other key digits old e f p l ne =
    let q : IsPart digits ((other, old) ∷ [], 0) = subst (λ u. IsPart digits u) (entry_seen seen body other old e f) p
    in
    few digits q.keys.0 l
  where
    few : (n : ℕ) → other < 16 ^ n → key < 16 ^ n → 1 ≤ n
    few zero a b = absurd (ne (omega arith))
    few (suc n) a b = omega arith

-- sixteen empty parts
empty_parts : (digits n : ℕ) → AreParts digits (replicate n ([], 0))
empty_parts digits zero = tt
empty_parts digits (suc n) = (
  record { keys = tt; high = omega arith; forked = λ h. absurd (omega arith) },
  empty_parts digits n,
)

empty_get : (n at : ℕ) → at < n → slice_get (replicate {A = List (ℕ × Row) × ℕ} n ([], 0)) at ≡ Some ([], 0)
empty_get zero at l = absurd (omega arith)
empty_get (suc n) zero l = refl
empty_get (suc n) (suc at) l = empty_get n at (omega arith)

empty_entries : (digit n : ℕ) → entries_from digit (replicate n ([], 0)) ≡ []
empty_entries digit zero = refl
empty_entries digit (suc n) = empty_entries (suc digit) n

rest_below : (key digits : ℕ) → key < 16 ^ (digits + 1) → key / 16 < 16 ^ digits
rest_below key digits l = omega (arith, digit_more digits)

module _ (branch : Branch) (key digits : ℕ) (row : Row) (new : List (ℕ × Row) × ℕ)
    (vacant : parts_in branch ≡ replicate 16 ([], 0)) (one : new ≡ ((key / 16, row) ∷ [], 0)) where
  empty_here : slice_get (parts_in branch) (key % 16) ≡ Some ([], 0)
  empty_here = ap (λ u. slice_get u (key % 16)) vacant ∙ empty_get 16 (key % 16) (omega arith)

  pub first_level : branch.below ≡ digits → key < 16 ^ (digits + 1) → IsBranch (changed branch (key % 16) new)
  first_level below l =
      let level : IsBranch branch = record {
        sixteen = ap length vacant;
        parts = subst (λ u. AreParts branch.below u) (sym vacant)
            (empty_parts branch.below 16);
      } in
      let fits : key / 16 < 16 ^ branch.below = subst (λ u. key / 16 < 16 ^ u) (sym below) (rest_below key digits l) in
      set_level branch key ([], 0) new empty_here level (one_row branch.below (key / 16) row new fits one)

  pub first_row : Sets [] (entries_from 0 (parts_in (changed branch (key % 16) new))) key row
  first_row =
      let none : entries_from 0 (parts_in branch) ≡ [] = ap (entries_from 0) vacant ∙ empty_entries 0 16 in
      subst (λ u. Sets u (entries_from 0 (parts_in (changed branch (key % 16) new))) key row) none
      (set_row branch key ([], 0) new empty_here row (ap length vacant)
      (subst (λ (u : List (ℕ × Row) × ℕ). Sets [] u.0 (key / 16) row) (sym one) (sets_none (key / 16) row)))

-- what a part is seen as while its node is open
pub opened : (seen : List (ℕ × Row) × ℕ) (body : Body) (node branch : Branch) →
    (entries_of body, height_of body) ≡ seen → body ≡ Fork node → branch ≡ node →
    seen ≡ (entries_from 0 (parts_in branch), branch.below + 1)
opened seen body node branch e f g = sym e ∙ ap (λ u. (entries_of u, height_of u)) f
    ∙ ap (λ (u : Branch). (entries_from 0 (parts_in u), u.below + 1)) (sym g)
