-- A walk over the vertices that have numbers, which changes their items one by one.
use Rattle.std.proofs.Common.{◌≡◌, ◌≢◌, ℕ, ◌+◌, ◌*◌, ◌<◌, ◌≤◌, List, length, Option, Some, None, is_some, true≢false}
use Rattle.std.proofs.Common.{unwrap_or, slice_get, IsSome, IfSome, IfNone, inl, inr, refl, sym, ◌∙◌, ap, subst, arith}
use Rattle.std.proofs.Math.Nat.{add-mul, mul-add, mul-le-mul_right}
use Rattle.std.proofs.lemmas.Bool.Decides.{eqb_tells}
use Rattle.std.proofs.lemmas.Option.{slice_get_within}
use Rattle.flux_defs.specs.declared.claims.Window.{Window}
use Rattle.planner_points.specs.declared.spans.Span.{Span}
use Rattle.flux_defs.specs.Digits.{dig}
use Rattle.list_laws.proofs.Lists.{get_some}
use Rattle.vertex_planners.specs.declared.amounts.Amounts.{Amounts}
use Rattle.vertex_planners.specs.Numbers.{kept_at, amount_at}
use Rattle.vertex_planners.specs.Rows.{count_all, count_some, HaveKeysBelow, IsLeft, IsGone, HasNoneLeft, IsRowTaken}
use Rattle.vertex_planners.specs.Lists.{AreWide}
use Rattle.vertex_planners.specs.Kept.{Gains, Loses, AtNumbers, AtRow, AtAmounts, AtPlaces}
use Rattle.vertex_planners.specs.Work.{change_most, CostWithin}
use Rattle.vertex_planners.proofs.PlaceLaws.{same_place, of_place, in_place}

-- what the planners of one vertex become by its number at each place
pub record AtVertex {P : Type 0}
    (Q : ℕ → P → P → Type 0) (numbers : List Amounts) (v : ℕ) (old new : List P) : Type 0 where
  pub len : length new ≡ length old
  pub each : (k : ℕ) (amounts : Amounts) (p r : P) → slice_get numbers k ≡ Some amounts →
      slice_get old k ≡ Some p → slice_get new k ≡ Some r → Q (amount_at amounts v) p r

-- the items whose vertices aren't left any more are changed, and the others and their numbers are as they were
pub record Walked {P : Type 0}
    (Q : ℕ → P → P → Type 0) (old now : List (List P)) (numbers left : List Amounts) : Type 0 where
  pub len : length now ≡ length old
  pub places : length left ≡ length numbers
  pub keys : HaveKeysBelow (length old) left
  pub done : (v : ℕ) (x y : List P) →
      slice_get old v ≡ Some x → slice_get now v ≡ Some y → IsGone left v → AtVertex Q numbers v x y
  pub same : (v : ℕ) → IsLeft left v → slice_get now v ≡ slice_get old v
  pub rest : (v : ℕ) → IsLeft left v → (k : ℕ) (amounts : Amounts) → slice_get numbers k ≡ Some amounts →
      (still : Amounts) × (slice_get left k ≡ Some still) × (amount_at amounts v ≡ amount_at still v)

none_is : (amounts : Amounts) (v : ℕ) → kept_at amounts v ≡ None → IsSome (kept_at amounts v) → ⊥
none_is amounts v e h = true≢false (sym h ∙ ap is_some e)

module _ {P : Type 0} (Q : ℕ → P → P → Type 0) (old : List (List P)) (numbers : List Amounts) where
  pub walk_begins : ((p : P) → Q 0 p p) → HaveKeysBelow (length old) numbers → Walked Q old old numbers numbers
  walk_begins none keys = record {
    len = refl;
    places = refl;
    keys = keys;
    done = λ v x y a b gone. record {
      len = (let both : Some y ≡ Some x = sym b ∙ a in let is : y ≡ x = cc in ap length is);
      each = λ k amounts p r at c d.
          let both : Some x ≡ Some y = sym a ∙ b in
          let items : x ≡ y = cc in
          let planners : Some p ≡ Some r = sym c ∙ (ap (λ z. slice_get z k) items ∙ d) in
          let is : p ≡ r = cc in
          let zero : amount_at amounts v ≡ 0 = ap (λ o. unwrap_or o 0) (gone k amounts at) in
          subst (λ (n : ℕ). Q n p r) (sym zero) (subst (Q 0 p) is (none p));
    };
    same = λ v left. refl;
    rest = λ v left k amounts at. (amounts, at, refl);
  }

  -- the numbers of the vertex that is told of are taken off
  pub row_of : (left fewer : List Amounts) (found : Option ℕ) (v : ℕ) (row : List ℕ) → found ≡ Some v →
      IfSome found (λ u. IsRowTaken left fewer u row) → IsRowTaken left fewer v row
  row_of left fewer found v row e h =
      subst (λ (o : Option ℕ). IfSome o (λ u. IsRowTaken left fewer u row)) e h

  module _ (now : List (List P)) (left fewer : List Amounts)
      (v : ℕ) (row : List ℕ) (w : Walked Q old now numbers left) (off : IsRowTaken left fewer v row) where
    -- the number of the vertex at a place is that of the row
    number_is : (k : ℕ) (amounts : Amounts) →
        slice_get numbers k ≡ Some amounts → (n : ℕ) × (slice_get row k ≡ Some n) × (amount_at amounts v ≡ n)
    number_is k amounts at =
        let (still, there, same) = w.rest v off.was k amounts at in
        let (rest, n, after, number, taken) = off.row_is.each k still there in
        (n, number, same ∙ taken.was)

    pub vertex_there : v < length now
    vertex_there =
        let (k, amounts, at, some) = off.was in
        let lt = w.keys k amounts at v some in
        let len = w.len in
        omega (arith, lt, len)

    pub row_places : AreWide (length numbers) old → (x : List P) → slice_get now v ≡ Some x → length row ≡ length x
    row_places wide x at =
        let was = wide v x (sym (w.same v off.was) ∙ at) in
        let places = w.places in
        let row_len = off.row_is.places in
        omega (arith, was, places, row_len)

    -- what is so of each place's numbers is so of the row
    pub row_before : (R : ℕ → P → Type 0) → AreWide (length numbers) old →
        AtAmounts R numbers old → (x : List P) → slice_get now v ≡ Some x → AtNumbers R row x
    row_before R wide all x at k n p number there =
        let lt : k < length numbers = (let in_row = slice_get_within row k n number in
        let places = w.places in let row_len = off.row_is.places in omega (arith, in_row, places, row_len)) in
        let (amounts, of) = get_some numbers k lt in
        let (m, also, is) = number_is k amounts of in
        let both : Some m ≡ Some n = sym also ∙ number in
        let same : m ≡ n = cc in
        subst (λ (j : ℕ). R j p) (is ∙ same)
        (all k amounts of v p (in_place (length numbers) k lt old wide v x p (sym (w.same v off.was) ∙ at) there))

    pub walk_steps : (next : List (List P)) → length next ≡ length now →
        ((x y : List P) → slice_get now v ≡ Some x → slice_get next v ≡ Some y → AtRow Q row x y) →
        ((u : ℕ) → u ≢ v → slice_get next u ≡ slice_get now u) → Walked Q old next numbers fewer
    walk_steps next len here others = record {
      len = len ∙ w.len;
      places = off.row_is.len ∙ w.places;
      keys = λ k amounts at u some.
          let (still, was, other) = before k amounts at in
          elim (eqb_tells u v) [
            | inl same ↦ absurd (none_is amounts u (ap (kept_at amounts) same.1 ∙ other.1) some)
            | inr differ ↦ w.keys k still was u (subst (λ (o : Option ℕ). IsSome o) (other.0 u differ.1) some)
          ];
      done = λ u x y a b gone. elim (eqb_tells u v) [
        | inl same ↦
            (let at_v = changed x y (sym (ap (slice_get old) same.1) ∙ a) (sym (ap (slice_get next) same.1) ∙ b) in
            subst (λ (z : ℕ). AtVertex Q numbers z x y) (sym same.1) at_v)
        | inr differ ↦ w.done u x y a (sym (others u differ.1) ∙ b)
            (λ k still was. (let (rest, n, after, number, taken) = off.row_is.each k still was in
            sym (taken.others u differ.1) ∙ gone k rest after))
      ];
      same = λ u (k, amounts, at, some). elim (eqb_tells u v) [
        | inl is ↦ (let (still, was, other) = before k amounts at in
            absurd (none_is amounts u (ap (kept_at amounts) is.1 ∙ other.1) some))
        | inr differ ↦ others u differ.1 ∙ w.same u (left_before u differ.1 (k, amounts, at, some))
      ];
      rest = λ u (j, others_amounts, there, some) k amounts at. elim (eqb_tells u v) [
        | inl is ↦ (let (still, was, other) = before j others_amounts there in
            absurd (none_is others_amounts u (ap (kept_at others_amounts) is.1 ∙ other.1) some))
        | inr differ ↦ (
            let (still, was, same) = w.rest u (left_before u differ.1 (j, others_amounts, there, some)) k amounts at in
            let (rest, n, after, number, taken) = off.row_is.each k still was in
            (rest, after, same ∙ ap (λ o. unwrap_or o 0) (sym (taken.others u differ.1))))
      ];
    }
      where
        -- a place had numbers before, which are the same but for this vertex
        before : (k : ℕ) (amounts : Amounts) → slice_get fewer k ≡ Some amounts →
            (still : Amounts) × (slice_get left k ≡ Some still)
            × (((u : ℕ) → u ≢ v → kept_at amounts u ≡ kept_at still u) × (kept_at amounts v ≡ None))
        before k amounts at =
            let (still, was) = same_place fewer left k amounts off.row_is.len at in
            let (rest, n, after, number, taken) = off.row_is.each k still was in
            let both : Some rest ≡ Some amounts = sym after ∙ at in
            let is : rest ≡ amounts = cc in (
              still,
              was,
              (
                λ u ne. ap (λ a. kept_at a u) (sym is)
                    ∙ taken.others u ne,
                ap (λ a. kept_at a v) (sym is) ∙ taken.gone,
              ),
            )

        left_before : (u : ℕ) → u ≢ v → IsLeft fewer u → IsLeft left u
        left_before u ne (k, amounts, at, some) =
            let (still, was, other) = before k amounts at in
            (k, still, was, subst (λ (o : Option ℕ). IsSome o) (other.0 u ne) some)

        changed : (x y : List P) → slice_get old v ≡ Some x → slice_get next v ≡ Some y → AtVertex Q numbers v x y
        changed x y a b =
            let done = here x y (w.same v off.was ∙ a) b in
            record {
              len = done.len;
              each = λ k amounts p r at c d.
                  let (n, number, is) = number_is k amounts at in
                  subst (λ (m : ℕ). Q m p r) (sym is) (done.each k n p r number c d);
            }

    -- the item of the vertex that is taken off is changed within the bound
    pub walk_counts : (change_cost : P → ℕ) (most start after all : ℕ) → CostWithin change_cost most old →
        (((x : List P) (k : ℕ) (p : P) → slice_get now v ≡ Some x → slice_get x k ≡ Some p → change_cost p ≤ most) →
        after ≤ start + (2 * dig (length now + 1) + count_some row * most)) →
        start + count_all left * change_most (length old) most ≤ all →
        after + count_all fewer * change_most (length old) most ≤ all
    walk_counts change_cost most start after all within work so_far =
        let step = work (λ x k p at there. within v k x p (sym (w.same v off.was) ∙ at) there) in
        let len = ap (λ (n : ℕ). 2 * dig (n + 1)) w.len in
        counts_down (count_all left) (count_all fewer) (count_some row) (2 * dig (length old + 1)) most start after all
        off.row_is.fewer (off.row_is.less off.was) (omega (arith, step, len)) so_far
      where
        times_more : (a b c d : ℕ) → a + b ≤ c → a * d + b * d ≤ c * d
        times_more a b c d le = let m = mul-le-mul_right d le in
            let e = add-mul a b d in omega (arith, m, e)

        counts_down : (had has some look each start end all : ℕ) →
            has + some ≤ had → has < had → end ≤ start + (look + some * each) →
            start + had * (look + each) ≤ all → end + has * (look + each) ≤ all
        counts_down had has some look each start end all fewer_numbers less one rest =
            let looks = times_more has 1 had look (omega (arith, less)) in
            let changes = times_more has some had each fewer_numbers in
            let a = mul-add had look each in
            let b = mul-add has look each in
            let c : 1 * look ≡ look = omega arith in
            omega (arith, looks, changes, a, b, c, one, rest)

  -- no vertex is told of
  pub none_of : (left : List Amounts) (found : Option ℕ) → found ≡ None → IfNone found (HasNoneLeft left) →
      HasNoneLeft left
  none_of left found e h = subst (λ (o : Option ℕ). IfNone o (HasNoneLeft left)) e h

  -- no vertex is left
  module _ (now : List (List P))
      (left : List Amounts) (w : Walked Q old now numbers left) (none : HasNoneLeft left) where
    pub still_wide : AreWide (length numbers) old → AreWide (length numbers) now
    still_wide wide v y at =
        let (x, was) = same_place now old v y w.len at in
        (w.done v x y was at (none v)).len ∙ wide v x was

    pub walk_ends : AreWide (length numbers) old → AtPlaces Q numbers old now
    walk_ends wide k amounts of v p r a b =
        let lt = slice_get_within numbers k amounts of in
        let (x, was, p_there) = of_place (length numbers) k lt old wide v p a in
        let (y, is, r_there) = of_place (length numbers) k lt now (still_wide wide) v r b in
        (w.done v x y was is (none v)).each k amounts p r of p_there r_there

-- no span more and no span less is no change
module _ {P : Type 0} (total_of : P → ℕ) (stands_for : P → List Span → Type 0) (window : Window) where
  pub gains_none : (p : P) → Gains total_of stands_for window 0 p p
  gains_none p = record { total = refl; spans = λ before after h. h }

  pub loses_none : (p : P) → Loses total_of stands_for window 0 p p
  loses_none p = record { total = refl; spans = λ before after h. h }
