-- What a match looks at: where it asks anew, and then where it writes.
use Rattle.std.proofs.Common.{◌≡◌, ℕ, ◌+◌, ◌*◌, ◌≤◌, List, [], ◌∷◌, length, ◌⊎◌, inl, inr, refl, arith}
use Rattle.std.specs.List.{AllByRecursion}
use Rattle.std.proofs.Math.Nat.{mul-le-mul_left}
use Rattle.flux_defs.specs.declared.requests.Need.{Need}
use Rattle.flux_defs.specs.Needs.{HasNoSpread, IsSpread}
use Rattle.dfu_match.specs.Tables.{all_of, needs_all}
use Rattle.dfu_match.specs.Pairs.{Pair, AreLooksAll, TakesApart, TakesEach, count_among}
use Rattle.dfu_match.proofs.PairLaws.{count_most, count_split}
use Rattle.dfu_match.proofs.TableLaws.{all_some}

module _ (each : List Pair → Type 0) (look : ℕ) (needs : List Need) (to : ℕ) (pairs : List Pair)
    (has : each pairs) where
  -- nothing was asked anew, or of needs that hold no spread, or of a spread alone itself
  abbrev pub AsksFirst : ℕ → ℕ → Type 0
  AsksFirst old mid =
      (mid ≤ old) ⊎ ((AllByRecursion HasNoSpread needs × TakesEach each look old mid 0 (length (needs_all needs)) 0 to)
      ⊎ ((need : Need) × (needs ≡ need ∷ []) × IsSpread need × TakesEach each look old mid 0 1 0 to))

  most : (after : ℕ) → look * count_among 0 after 0 to pairs ≤ look * length pairs
  most after = mul-le-mul_left look (count_most 0 after 0 to pairs)

  pub looks_first : (old mid : ℕ) → AsksFirst old mid → mid ≤ old + 2 * look * length pairs
  looks_first old mid (inl le) = omega (arith, le)
  looks_first old mid (inr (inl plain)) =
      let t = plain.1 pairs has in
      let m = most (length (needs_all needs)) in
      let twice : 2 * look * length pairs ≡ look * length pairs + look * length pairs = grind arith in
      omega (arith, t, m, twice)
  looks_first old mid (inr (inr alone)) =
      let t = alone.3 pairs has in
      let m = most 1 in
      let twice : 2 * look * length pairs ≡ look * length pairs + look * length pairs = grind arith in
      omega (arith, t, m, twice)

  -- and then it is written
  pub looks_twice : (old mid new : ℕ) → AsksFirst old mid → ((times : ℕ) → AreLooksAll times needs →
      TakesEach each (times * look) mid new 0 (0 + length (needs_all needs)) 0 to
      × ((need : Need) → needs ≡ need ∷ [] →
      TakesApart each look (times * look) mid new 0 (0 + length (all_of need)) 0 to)) →
      new ≤ old + 2 * look * length pairs
  looks_twice old mid new (inl le) wrote =
      let t = (wrote 2 (inl refl)).0 pairs has in
      let m : (2 * look) * count_among 0 (0 + length (needs_all needs)) 0 to pairs ≤ (2 * look) * length pairs =
      mul-le-mul_left (2 * look) (count_most 0 (0 + length (needs_all needs)) 0 to pairs) in
      omega (arith, le, t, m)
  looks_twice old mid new (inr (inl plain)) wrote =
      let s = plain.1 pairs has in
      let t = (wrote 1 (inr (refl, plain.0))).0 pairs has in
      let m = most (length (needs_all needs)) in
      let n : (1 * look) * count_among 0 (0 + length (needs_all needs)) 0 to pairs ≤ (1 * look) * length pairs =
      mul-le-mul_left (1 * look) (count_most 0 (0 + length (needs_all needs)) 0 to pairs) in
      let one : (1 * look) * length pairs ≡ look * length pairs = grind arith in
      let twice : 2 * look * length pairs ≡ look * length pairs + look * length pairs = grind arith in
      omega (arith, s, t, m, n, one, twice)
  looks_twice old mid new (inr (inr alone)) wrote =
      let need = alone.0 in
      let s : mid ≤ old + look * count_among 0 (0 + 1) 0 to pairs = alone.3 pairs has in
      let apart = (wrote 2 (inl refl)).1 need alone.1 in
      let spent = apart.2 in
      let own = apart.3 pairs has in
      let inner = apart.4 pairs has in
      let some = all_some need in
      let a = count_among 0 (0 + 1) 0 to pairs in
      let b = count_among (0 + 1) (0 + length (all_of need)) 0 to pairs in
      let split : count_among 0 (0 + length (all_of need)) 0 to pairs ≡ a + b =
      count_split 0 (0 + 1) (0 + length (all_of need)) 0 to pairs (omega arith) (omega (arith, some)) in
      let few = count_most 0 (0 + length (all_of need)) 0 to pairs in
      let m : (2 * look) * (a + b) ≤ (2 * look) * length pairs =
      mul-le-mul_left (2 * look) (omega (arith, split, few)) in
      let all : (2 * look) * (a + b) ≡ look * a + look * a + (2 * look) * b = grind arith in
      omega (arith, s, spent, own, inner, m, all)
