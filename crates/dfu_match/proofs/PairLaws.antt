-- Counting the pairs of a need and a vertex that a search looks at.
use Rattle.std.proofs.Common.{◌≡◌, ℕ, zero, suc, ◌+◌, ◌*◌, ◌<◌, ◌≤◌, if◌then◌else◌, List, [], ◌∷◌, length, get_or, refl}
use Rattle.std.proofs.Common.{ap, arith}
use Rattle.std.specs.Prelude.{Contains}
use Rattle.std.proofs.Math.Nat.{mul-le-mul_left, mul-le-mul_right}
use Rattle.std.proofs.lemmas.Nat.{mul-le}
use Rattle.std.proofs.lemmas.Bool.Decides.{nat_tests}
use Rattle.dfu_match.specs.Pairs.{Pair, is_among, count_among, TakesEach}

abbrev one : ℕ → ℕ → ℕ → ℕ → Pair → ℕ
one first after from to p = if is_among first after from to p then 1 else 0

one_upto : (first after from mid to : ℕ) (p : Pair) → from ≤ mid → mid ≤ to →
    one first after from to p ≡ one first after from mid p + one first after mid to p
one_upto first after from mid to p h k = grind (arith, nat_tests)

one_split : (first mid after from to : ℕ) (p : Pair) → first ≤ mid → mid ≤ after →
    one first after from to p ≡ one first mid from to p + one mid after from to p
one_split first mid after from to p h k = grind (arith, nat_tests)

one_within : (f a x y g b z w : ℕ) (p : Pair) → g ≤ f → a ≤ b → z ≤ x → y ≤ w →
    one f a x y p ≤ one g b z w p
one_within f a x y g b z w p h k l m = grind (arith, nat_tests)

one_most : (f a x y : ℕ) (p : Pair) → one f a x y p ≤ 1
one_most f a x y p = grind (arith, nat_tests)

one_here : (place v : ℕ) (p : Pair) → p ≡ record { place = place; vertex = v } → one place (place + 1) v (v + 1) p ≡ 1
one_here place v p e = rw e (grind (arith, nat_tests))

-- counted by their vertices, in two parts
pub count_upto : (first after from mid to : ℕ) (ps : List Pair) → from ≤ mid → mid ≤ to →
    count_among first after from to ps ≡ count_among first after from mid ps + count_among first after mid to ps
count_upto first after from mid to [] h k = refl
count_upto first after from mid to (p ∷ ps) h k =
    let e = one_upto first after from mid to p h k in
    let r = count_upto first after from mid to ps h k in
    omega (arith, e, r)

pub count_split : (first mid after from to : ℕ) (ps : List Pair) → first ≤ mid → mid ≤ after →
    count_among first after from to ps ≡ count_among first mid from to ps + count_among mid after from to ps
count_split first mid after from to [] h k = refl
count_split first mid after from to (p ∷ ps) h k =
    let e = one_split first mid after from to p h k in
    let r = count_split first mid after from to ps h k in
    omega (arith, e, r)

pub count_within : (f a x y g b z w : ℕ) (ps : List Pair) → g ≤ f → a ≤ b → z ≤ x → y ≤ w →
    count_among f a x y ps ≤ count_among g b z w ps
count_within f a x y g b z w [] h k l m = omega arith
count_within f a x y g b z w (p ∷ ps) h k l m =
    let e = one_within f a x y g b z w p h k l m in
    let r = count_within f a x y g b z w ps h k l m in
    omega (arith, e, r)

pub count_most : (f a x y : ℕ) (ps : List Pair) → count_among f a x y ps ≤ length ps
count_most f a x y [] = omega arith
count_most f a x y (p ∷ ps) = let e = one_most f a x y p in let r = count_most f a x y ps in omega (arith, e, r)

pub count_here : (place v : ℕ) (ps : List Pair) → Contains ps (record { place = place; vertex = v }) →
    1 ≤ count_among place (place + 1) v (v + 1) ps
count_here place v ps c = at c.0 ps c.1 c.2
  where
    at : (i : ℕ) (xs : List Pair) → i < length xs → get_or xs i
        (record { place = place; vertex = v }) ≡ record { place = place; vertex = v } →
        1 ≤ count_among place (place + 1) v (v + 1) xs
    at i [] lt e = absurd (omega arith)
    at zero (x ∷ xs) lt e = let o = one_here place v x e in omega (arith, o)
    at (suc i) (x ∷ xs) lt e = let r = at i xs (omega arith) e in omega (arith, r)

visit : (w d e x y z : ℕ) → w + d ≤ e → 1 ≤ x → x + y ≤ z → w * x + d + e * y ≤ e * z
visit w d e x y z le some sum =
    let a : (w + d) * x ≤ e * x = mul-le-mul_right x le in
    let b : d * 1 ≤ d * x = mul-le-mul_left d some in
    let c : e * (x + y) ≤ e * z = mul-le-mul_left e sum in
    omega (arith, a, b, c)

-- steps taken for each open pair, one stretch after another
module _ (each : List Pair → Type 0) (steps : ℕ) where
  pub takes_none : (old first after from to : ℕ) → TakesEach each steps old old first after from to
  takes_none old first after from to ps has = omega arith

  pub takes_within : (more old new f a x y g b z w : ℕ) → steps ≤ more → g ≤ f → a ≤ b → z ≤ x → y ≤ w →
      TakesEach each steps old new f a x y → TakesEach each more old new g b z w
  takes_within more old new f a x y g b z w le h k l m t ps has =
      let u = t ps has in
      let fewer = count_within f a x y g b z w ps h k l m in
      let n : steps * count_among f a x y ps ≤ more * count_among g b z w ps = mul-le steps
      (count_among f a x y ps) more (count_among g b z w ps) le fewer in
      omega (arith, u, n)

  pub takes_upto : (old mid new first after from at to : ℕ) → from ≤ at → at ≤ to →
      TakesEach each steps old mid first after from at → TakesEach each steps mid new first after at to →
      TakesEach each steps old new first after from to
  takes_upto old mid new first after from at to h k s t ps has =
      let a = s ps has in
      let b = t ps has in
      let e = ap (λ n. steps * n) (count_upto first after from at to ps h k) in
      omega (arith, a, b, e)

  pub takes_split : (old mid new first middle after from to : ℕ) → first ≤ middle → middle ≤ after →
      TakesEach each steps old mid first middle from to → TakesEach each steps mid new middle after from to →
      TakesEach each steps old new first after from to
  takes_split old mid new first middle after from to h k s t ps has =
      let a = s ps has in
      let b = t ps has in
      let e = ap (λ n. steps * n) (count_split first middle after from to ps h k) in
      omega (arith, a, b, e)

  -- one pair, which is open
  pub takes_one : (old new place v : ℕ) → new ≤ old + steps →
      ((ps : List Pair) → each ps → Contains ps (record { place = place; vertex = v })) →
      TakesEach each steps old new place (place + 1) v (v + 1)
  takes_one old new place v le there ps has =
      let m : steps * 1 ≤ steps * count_among place (place + 1) v (v + 1) ps = mul-le-mul_left steps
      (count_here place v ps (there ps has)) in
      omega (arith, m, le)

  -- the walk to an open vertex, the look at it, and what stands below it
  pub takes_visit : (walk look old mid new place after at v past : ℕ) → walk + look ≤ steps → at ≤ v → v < past →
      place < after →
      ((ps : List Pair) → each ps → Contains ps (record { place = place; vertex = v })) →
      TakesEach each walk old mid place (place + 1) at (v + 1) →
      TakesEach each steps (mid + look) new (place + 1) after (v + 1) past →
      TakesEach each steps old new place after at past
  takes_visit walk look old mid new place after at v past le lo hi some there s t ps has =
      let a = s ps has in
      let b = t ps has in
      let here = count_here place v ps (there ps has) in
      let one = count_within place (place + 1) v (v + 1) place (place + 1) at (v + 1) ps (omega arith)
      (omega arith) lo (omega arith) in
      let own = count_within place (place + 1) at (v + 1) place (place + 1) at past ps (omega arith) (omega arith)
      (omega arith) (omega arith) in
      let inner = count_within (place + 1) after (v + 1) past (place + 1) after at past ps (omega arith) (omega arith)
      (omega arith) (omega arith) in
      let both = count_split place (place + 1) after at past ps (omega arith) (omega arith) in
      let w = visit walk look steps (count_among place (place + 1) at (v + 1) ps)
      (count_among (place + 1) after (v + 1) past ps) (count_among place after at past ps) le
      (omega (arith, here, one)) (omega (arith, own, inner, both)) in
      omega (arith, a, b, w)
