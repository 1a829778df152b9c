-- A page of which only the first part is not empty.
use Rattle.std.proofs.Common.{◌≡◌, ℕ, zero, suc, ◌+◌, ◌*◌, ◌^◌, ◌<◌, ◌≤◌, List, [], ◌∷◌, ◌++◌, replicate, refl, ap, sym}
use Rattle.std.proofs.Common.{◌∙◌, arith, length, slice_set, append-nil, subst}
use Rattle.std.proofs.Math.Pow.{pow_mono}
use Rattle.node_store.specs.Lending.{with_part}
use Rattle.snapshot_store.specs.Parts.{parts_in, items_in, IsPart, ArePacked, IsPage, IsFull}
use Rattle.snapshot_store.specs.declared.parts.Page.{Page}
use Rattle.snapshot_store.proofs.PageLaws.{pairs}

-- empty parts have no item, and are packed at any height
module _ (E : Type 0) (height : ℕ) where
  abbrev empties : ℕ → List (List E × ℕ)
  empties n = replicate n ([], 0)

  no_items : (n : ℕ) → items_in (empties n) ≡ []
  no_items zero = refl
  no_items (suc n) = no_items n

  packed : (n : ℕ) → ArePacked height (empties n)
  packed zero = tt
  packed (suc n) = (
    record {
      within = omega arith;
      high = omega arith;
      tall = λ h. absurd (omega arith);
      forked =
          λ h. absurd (omega arith);
    },
    λ h. no_items n,
    packed n,
  )

module _ {E : Type 0} (page : Page E) (part : List E × ℕ) (vacant : parts_in page ≡ replicate 16 ([], 0)) where
  firsts : parts_in (record { below = page.below; parts = with_part page.parts 0 part }) ≡ part
      ∷ empties E page.below 15
  firsts = ap (λ u. slice_set u 0 part) vacant

  pub first_page : (height : ℕ) → page.below ≡ height → height < 16 → IsPart height part →
      IsPage (record { below = page.below; parts = with_part page.parts 0 part })
  first_page height below low p = record {
    low = omega arith;
    sixteen = ap length firsts;
    packed = subst (λ u. ArePacked page.below u) (sym firsts)
        (subst (λ u. IsPart u part) (sym below) p, λ h. no_items E page.below 15, packed E page.below 15);
  }

  first_items : items_in (parts_in (record { below = page.below; parts = with_part page.parts 0 part })) ≡ part.0
  first_items = ap items_in firsts ∙ ap (λ u. part.0 ++ u) (no_items E page.below 15) ∙ append-nil part.0

  pub first_seen : (height : ℕ) → page.below ≡ height →
      Path (List E × ℕ) (
        items_in (parts_in (record { below = page.below; parts = with_part page.parts 0 part })),
        page.below + 1,
      ) (part.0, height + 1)
  first_seen height below = pairs _ _ _ _ first_items (ap (λ u. u + 1) below)

-- a full part's items are a part of any height from 1 on
pub full_part : {E : Type 0} (height : ℕ) (full part : List E × ℕ) → IsFull full → 1 ≤ height →
    part ≡ (full.0, height) → IsPart height part
full_part height full part is low e =
    let p : 2 ^ 4 ≤ 2 ^ (4 * height) = pow_mono {i = 4} {j = 4 * height} (omega arith) in
    subst (λ u. IsPart height u) (sym e) (record
    { within = omega (arith, p, is.all); high = omega arith; tall = λ h. refl; forked = λ h. refl })
