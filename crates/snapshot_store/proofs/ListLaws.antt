-- How high the tree of a list is, and what a change of its parts keeps.
use Rattle.std.proofs.Common.{◌≡◌, ℕ, ◌+◌, ◌*◌, ◌%◌, ◌^◌, ◌<◌, ◌≤◌, List, length, slice_set, inl, inr, arith, ap, sym}
use Rattle.std.proofs.Common.{◌∙◌, [], ◌∷◌, ◌++◌, length-append, subst}
use Rattle.std.proofs.Math.Pow.{pow_mono}
use Rattle.std.proofs.lemmas.Nat.{pow-add}
use Rattle.std.proofs.lemmas.Bool.{cases_lt}
use Rattle.flux_defs.specs.Digits.{dig}
use Rattle.flux_defs.proofs.DigitLaws.{below_dig, some_dig, dig_mono}
use Rattle.snapshot_store.specs.Parts.{IsPart, IsFull}
use Rattle.snapshot_store.proofs.PlaceLaws.{width_fits, four_more, get_left, get_right, set_left, set_right}
use Rattle.snapshot_store.proofs.PlaceLaws.{more, row_fits}
use Rattle.list_laws.proofs.Lists.{set_length}

-- a tree has at most as many levels as the length has binary digits
pub low_height : (h n : ℕ) → 2 ^ (4 * h) ≤ 16 * n + 16 → h ≤ dig (n + 1)
low_height h n tight =
    let b = below_dig (n + 1) in
    let p = pow-add 2 (dig (n + 1)) 4 in
    elim (cases_lt (dig (n + 1)) h) [
      | inl high ↦ (let m : 2 ^ (dig (n + 1) + 4) ≤ 2 ^ (4 * h) = pow_mono {i = dig (n + 1) + 4} {j = 4 * h}
          (omega arith) in absurd (omega (arith, b, p, m)))
      | inr fits ↦ fits
    ]

pub few_steps : (h n : ℕ) → 2 ^ (4 * h) ≤ 16 * n + 16 → h + 1 ≤ 2 * dig (n + 1)
few_steps h n tight = omega (arith, low_height h n tight, some_dig (n + 1))

pub raised_tight : (h n : ℕ) → n ≡ 2 ^ (4 * h) → 2 ^ (4 * (h + 1)) ≤ 16 * n + 16
raised_tight h n e = omega (arith, four_more h)

pub top_room : (h n : ℕ) → h ≡ 16 → n < 2 ^ 64 → n < 2 ^ (4 * h)
top_room h n e l = let m : 2 ^ (4 * h) ≡ 2 ^ 64 = ap (λ u. 2 ^ (4 * u)) e in omega (arith, m, l)

pub raised_room : (h n : ℕ) → n ≡ 2 ^ (4 * h) → n < 2 ^ (4 * (h + 1))
raised_room h n e =
    let z : 2 ^ 0 ≤ 2 ^ (4 * h) = pow_mono {i = 0} {j = 4 * h} (omega arith) in
    omega (arith, four_more h, z)

-- a list in which one item is another
pub put_part : {T : Type 0} (height : ℕ) (old new : List T × ℕ) (at : ℕ) (x : T) → IsPart height old →
    new ≡ (slice_set old.0 at x, old.1) → IsPart height new × (length new.0 ≡ length old.0)
put_part height old new at x is e =
    let len = set_length old.0 at x in
    let part : IsPart height (slice_set old.0 at x, old.1) = (
    let within = is.within in
    record {
      within = omega (arith, within, len);
      high = is.high;
      tall = λ some. is.tall (omega (arith, some, len));
      forked = is.forked;
    }) in
    (subst (IsPart height) (sym e) part, ap (λ (u : List _ × ℕ). length u.0) e ∙ len)

-- a list of whole rows with one row more
pub longer_part : {T : Type 0} (height len : ℕ) (old full new : List T × ℕ) → IsFull full → len ≡ length old.0 →
    len % 16 ≡ 0 → 1 ≤ height → len < 2 ^ (4 * height) → new ≡ (old.0 ++ full.0, height) →
    IsPart height new × (len + 16 ≡ length new.0)
longer_part height len old full new is l rows low room e =
    let fits = row_fits len height low rows room in
    let n = length-append old.0 full.0 in
    let all : len + 16 ≡ length (old.0 ++ full.0) = omega (arith, n, is.all, l) in (
      subst (IsPart height) (sym e) (more height old full.0 (omega (arith, fits, is.all, l))),
      all ∙ ap (λ (u : List _ × ℕ). length u.0) (sym e),
    )

-- a part of height 1 with one item more
pub pushed_part : {T : Type 0} (old new : List T × ℕ) (x : T) → length old.0 < 16 → new ≡ (old.0 ++ x ∷ [], 1) →
    IsPart 1 new × (length new.0 ≡ length old.0 + 1)
pushed_part old new x room e =
    let n = length-append old.0 (x ∷ []) in
    (subst (IsPart 1) (sym e) (more 1 old (x ∷ []) (omega (arith, room))), ap (λ (u : List _ × ℕ). length u.0) e ∙ n)

-- what stands at the front of a list has no more digits
pub front_digits : {T : Type 0} (xs ys : List T) → dig (length xs + 1) ≤ dig (length (xs ++ ys) + 1)
front_digits xs ys = dig_mono (length xs + 1) (length (xs ++ ys) + 1) (omega (arith, length-append xs ys))

pub ruleset list_facts = (few_steps, low_height, set_length, raised_tight, top_room, raised_room, width_fits)

pub ruleset joined_facts = (front_digits, some_dig, length-append, get_left, get_right, set_left, set_right)
