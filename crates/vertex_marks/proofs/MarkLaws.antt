-- Marks as they are read and changed.
use Rattle.std.proofs.Common.{◌≡◌, ◌≢◌, ℕ, zero, suc, ◌+◌, ◌-◌, ◌<◌}
use Rattle.std.proofs.Common.{◌≤◌, Bool, true, false, cond, not, ◌==◌, ◌||◌, nat_eq}
use Rattle.std.proofs.Common.{List, [], ◌∷◌, ◌++◌, length, Some, None, refl, sym, ◌∙◌, ap, subst, arith, inl, inr}
use Rattle.std.specs.Prelude.{slice_get, slice_set, count_by, if◌then◌else◌, filter}
use Rattle.std.specs.List.{list_any}
use Rattle.std.proofs.lemmas.Bool.{cases_lt, cases_eq, eq-eqb, ne_eqb, eqb-true, false_from_ne_true}
use Rattle.std.proofs.lemmas.List.Sums.{sum_by-cons}
use Rattle.std.proofs.lemmas.Option.{slice_get_within}
use Rattle.list_laws.proofs.Lists.{get_some, get_set, get_beside, set_length, last_or}
use Rattle.flux_defs.specs.declared.vertices.Vertex.{Vertex}
use Rattle.flux_defs.specs.Graph.{parent_of, is_at_or_below}
use Rattle.graph_laws.proofs.Containment.{ParentsFirst, below_le}
use Rattle.vertex_marks.specs.declared.marks.Mark.{Mark}
use Rattle.vertex_marks.specs.declared.marks.Marks.{Marks}
use Rattle.vertex_marks.specs.Down.{is_among, has_shut, down_within, marked, AreDown}
use Rattle.vertex_marks.specs.Marked.{IsMarkOf, HaveMarks, AreMarks, shifted}
use Rattle.vertex_marks.specs.Marked.{AreShifted, IsShiftedAt, IsToldAt, MayMark}
use Rattle.vertex_marks.proofs.Chains.{above_root, above_below}

-- one element more is counted
pub count_cons : (p : ℕ → Bool) (u : ℕ) (us : List ℕ) → count_by p (u ∷ us) ≡ cond (p u) 1 0 + count_by p us
count_cons p u us = sum_by-cons (λ v. cond (p v) 1 0) u us

-- some pass where as many as one do
pub any_counted : (p : ℕ → Bool) (us : List ℕ) → not (count_by p us == 0) ≡ list_any p us
any_counted p [] = refl
any_counted p (u ∷ us) = ap (λ n. not (n == 0)) (count_cons p u us) ∙ at (p u) (any_counted p us)
  where
    at : (b : Bool) → not (count_by p us == 0) ≡ list_any p us →
        not (cond b 1 0 + count_by p us == 0) ≡ (b || list_any p us)
    at true rest = ap not (ne_eqb (1 + count_by p us) 0 (λ e. omega arith))
    at false rest = ap (λ n. not (n == 0)) (let e : 0 + count_by p us ≡ count_by p us = omega arith in e) ∙ rest

none_there : (down : List ℕ) → length down ≡ 0 → down ≡ []
none_there [] e = refl
none_there (u ∷ us) e = absurd (omega arith)

module _ (vertices : List Vertex) (down : List ℕ) (marks : Marks) (are : AreMarks vertices down marks) where
  -- where none is counted none is down
  pub none_counted : marks.count ≡ 0 → down ≡ []
  none_counted e = none_there down (sym are.count ∙ e)

  -- a vertex without a mark: none is down
  pub none_marked : (v : ℕ) → v < length vertices → slice_get marks.pages v ≡ None → down ≡ []
  none_marked v lt none = elim (cases_lt 0 (length marks.pages)) [
    | inr bare ↦ are.bare (omega arith)
    | inl some ↦ (
        let have = are.made some in
        let many : length marks.pages ≡ length vertices = have.as_many in
        let there = get_some marks.pages v (omega arith) in
        let e : None ≡ Some there.0 = sym none ∙ there.1 in absurd (cc))
  ]

  pub mark_read : (v : ℕ) (mark : Mark) → slice_get marks.pages v ≡ Some mark → IsMarkOf vertices down v mark
  mark_read v mark e =
      let within : v < length marks.pages = slice_get_within marks.pages v mark e in
      (are.made (omega arith)).each v mark e

  pub down_read : (v : ℕ) (mark : Mark) → slice_get marks.pages v ≡ Some mark → mark.down ≡ is_among down v
  down_read v mark e = (mark_read v mark e).tells

  pub within_read : (v : ℕ) (mark : Mark) → slice_get marks.pages v ≡ Some mark →
      not (mark.within == 0) ≡ has_shut vertices down v
  within_read v mark e = ap (λ n. not (n == 0)) (mark_read v mark e).within
      ∙ any_counted (λ u. is_at_or_below vertices u v) down

module _ (vertices : List Vertex) (first : ParentsFirst vertices) (goes_down : Bool) where
  -- the marks of a root alone are shifted
  pub shifted_root : (v : ℕ) (old new : List Mark) → v < length vertices → length old ≡ length vertices →
      parent_of vertices v ≡ None → IsShiftedAt v goes_down old new → AreShifted vertices v goes_down old new
  shifted_root v old new lt many root at =
      let there = get_some old v (omega arith) in
      let is : new ≡ slice_set old v (shifted goes_down there.0) = at there.0 there.1 in
      record {
        as_many = ap length is ∙ set_length old v (shifted goes_down there.0);
        each = λ u mark e.
            let up : is_at_or_below vertices v u ≡ nat_eq u v = above_root vertices first v u lt root in
            elim (cases_eq u v) [
              | inl same ↦ (
                  let own : slice_get old v ≡ Some mark = subst (λ (w : ℕ). slice_get old w ≡ Some mark) same e in
                  let here : slice_get new v ≡ Some (shifted goes_down mark) =
                  ap (λ l. slice_get l v) (at mark own) ∙ get_set old v (shifted goes_down mark) (omega arith) in
                  ap (slice_get new) same ∙ (here ∙ ap (λ t. Some (if t then shifted goes_down mark else mark))
                  (sym (up ∙ eq-eqb u v same))))
              | inr differ ↦ ap (λ l. slice_get l u) is ∙ (get_beside old v u (shifted goes_down there.0) differ
                  ∙ (e ∙ ap (λ t. Some (if t then shifted goes_down mark else mark))
                  (sym (up ∙ ne_eqb u v differ))))
            ];
      }

  -- and those of another vertex and of what is at or above its parent
  pub shifted_below : (v p : ℕ) (old mid new : List Mark) → v < length vertices → length old ≡ length vertices →
      parent_of vertices v ≡ Some p → IsShiftedAt v goes_down old mid → AreShifted vertices p goes_down mid new →
      AreShifted vertices v goes_down old new
  shifted_below v p old mid new lt many parent at rest =
      let there = get_some old v (omega arith) in
      let is : mid ≡ slice_set old v (shifted goes_down there.0) = at there.0 there.1 in
      let less : p < v = first v p parent in
      record {
        as_many = rest.as_many ∙ (ap length is ∙ set_length old v (shifted goes_down there.0));
        each = λ u mark e.
            let up : is_at_or_below vertices v u ≡ (nat_eq u v || is_at_or_below vertices p u) =
            above_below vertices first v p u lt parent in
            elim (cases_eq u v) [
              | inl same ↦ (
                  let own : slice_get old v ≡ Some mark = subst (λ (w : ℕ). slice_get old w ≡ Some mark) same e in
                  let here : slice_get mid v ≡ Some (shifted goes_down mark) =
                  ap (λ l. slice_get l v) (at mark own) ∙ get_set old v (shifted goes_down mark) (omega arith) in
                  let not_above : is_at_or_below vertices p v ≡ false = false_from_ne_true (is_at_or_below vertices p v)
                  (λ h. let le : v ≤ p = below_le vertices first p v h in omega arith) in
                  let after : slice_get new v ≡ Some (shifted goes_down mark) =
                  rest.each v (shifted goes_down mark) here
                  ∙ ap (λ t. Some (if t then shifted goes_down (shifted goes_down mark) else shifted goes_down mark))
                  not_above in
                  ap (slice_get new) same ∙ (after ∙ ap (λ t. Some (if t then shifted goes_down mark else mark))
                  (sym (up ∙ ap (λ t. t || is_at_or_below vertices p u) (eq-eqb u v same)))))
              | inr differ ↦ (
                  let stays : slice_get mid u ≡ Some mark =
                  ap (λ l. slice_get l u) is ∙ (get_beside old v u (shifted goes_down there.0) differ ∙ e) in
                  rest.each u mark stays ∙ ap (λ t. Some (if t then shifted goes_down mark else mark))
                  (sym (up ∙ ap (λ t. t || is_at_or_below vertices p u) (ne_eqb u v differ))))
            ];
      }

-- a shifted list is as long
pub shifted_length : (v : ℕ) (goes_down : Bool) (old new : List Mark) → v < length old →
    IsShiftedAt v goes_down old new → length new ≡ length old
shifted_length v goes_down old new lt at =
    let there = get_some old v lt in
    ap length (at there.0 there.1) ∙ set_length old v (shifted goes_down there.0)

-- how many pass in a list with one more
count_more : (p : ℕ → Bool) (v : ℕ) (us : List ℕ) → count_by p (us ++ v ∷ []) ≡ count_by p us + cond (p v) 1 0
count_more p v [] = count_cons p v [] ∙ omega arith
count_more p v (u ∷ us) =
    let a : count_by p (u ∷ (us ++ v ∷ [])) ≡ cond (p u) 1 0 + count_by p (us ++ v ∷ []) =
    count_cons p u (us ++ v ∷ []) in
    let b : count_by p (u ∷ us) ≡ cond (p u) 1 0 + count_by p us = count_cons p u us in
    let c : count_by p (us ++ v ∷ []) ≡ count_by p us + cond (p v) 1 0 = count_more p v us in
    omega (arith, a, b, c)

-- a list without v
abbrev without : ℕ → List ℕ → List ℕ
without v us = filter (λ u. not (nat_eq v u)) us

-- and in one without v
count_without : (p : ℕ → Bool) (v : ℕ) (us : List ℕ) →
    count_by p us ≡ count_by p (without v us) + cond (p v) (count_by (nat_eq v) us) 0
count_without p v [] = at (p v)
  where
    at : (b : Bool) → 0 ≡ 0 + cond b 0 0
    at true = refl
    at false = refl
count_without p v (u ∷ us) =
    let a : count_by p (u ∷ us) ≡ cond (p u) 1 0 + count_by p us = count_cons p u us in
    let b : count_by (nat_eq v) (u ∷ us) ≡ cond (nat_eq v u) 1 0 + count_by (nat_eq v) us =
    count_cons (nat_eq v) u us in
    let rest : count_by p us ≡ count_by p (without v us) + cond (p v) (count_by (nat_eq v) us) 0 =
    count_without p v us in
    a ∙ (step (nat_eq v u) (p u) (p v) refl refl refl rest ∙ ap (λ n. count_by p (without v (u ∷ us)) + cond (p v) n 0)
    (sym b))
  where
    here : (y : Bool) (c w k : ℕ) → c ≡ w + cond y k 0 → cond y 1 0 + c ≡ w + cond y (1 + k) 0
    here true c w k e = omega arith
    here false c w k e = omega arith

    there : (x y : Bool) (c w k : ℕ) → c ≡ w + cond y k 0 →
        cond x 1 0 + c ≡ (cond x 1 0 + w) + cond y (0 + k) 0
    there x true c w k e = omega arith
    there x false c w k e = omega arith

    step : (e x y : Bool) → nat_eq v u ≡ e → p u ≡ x → p v ≡ y →
        count_by p us ≡ count_by p (without v us) + cond (p v) (count_by (nat_eq v) us) 0 →
        cond (p u) 1 0 + count_by p us ≡ count_by p (without v (u ∷ us))
        + cond (p v) (cond (nat_eq v u) 1 0 + count_by (nat_eq v) us) 0
    step true x y e ex ey rest =
        ap (λ t. cond t 1 0 + count_by p us) (ap p (sym (eqb-true v u e)))
        ∙ (here (p v) (count_by p us) (count_by p (without v us)) (count_by (nat_eq v) us) rest
        ∙ ap (λ t. count_by p (cond (not t) (u ∷ without v us) (without v us))
        + cond (p v) (cond t 1 0 + count_by (nat_eq v) us) 0) (sym e))
    step false x y e ex ey rest =
        there (p u) (p v) (count_by p us) (count_by p (without v us)) (count_by (nat_eq v) us) rest
        ∙ (ap (λ n. n + cond (p v) (0 + count_by (nat_eq v) us) 0) (sym (count_cons p u (without v us)))
        ∙ ap (λ t. count_by p (cond (not t) (u ∷ without v us) (without v us))
        + cond (p v) (cond t 1 0 + count_by (nat_eq v) us) 0) (sym e))

-- a count that isn't 0 and is 1 at most
one_of : (k : ℕ) → not (k == 0) ≡ true → k ≤ 1 → k ≡ 1
one_of zero e le = absurd (cc)
one_of (suc k) e le = omega arith

zero_of : (k : ℕ) → not (k == 0) ≡ false → k ≡ 0
zero_of zero e = refl
zero_of (suc k) e = absurd (cc (ap not (ne_eqb (suc k) 0 (λ f. omega arith))))

-- a number that is changed by one, or isn't
abbrev by_one : Bool → Bool → ℕ → ℕ
by_one goes_down counts n = if goes_down then n + cond counts 1 0 else n - cond counts 1 0

taken : (y : Bool) (c w k : ℕ) → k ≡ 1 → c ≡ w + cond y k 0 → w ≡ c - cond y 1 0
taken true c w k one e = omega arith
taken false c w k one e = omega arith

-- a changed list passes a test as often, but for v
count_marked : (b : Bool) (p : ℕ → Bool) (v : ℕ) (old : List ℕ) → is_among old v ≡ not b →
    ((u : ℕ) → count_by (nat_eq u) old ≤ 1) → count_by p (marked old v b) ≡ by_one b (p v) (count_by p old)
count_marked true p v old among once = count_more p v old
count_marked false p v old among once =
    taken (p v) (count_by p old) (count_by p (without v old)) (count_by (nat_eq v) old)
    (one_of (count_by (nat_eq v) old) (any_counted (nat_eq v) old ∙ among) (once v)) (count_without p v old)

module _ (b : Bool) (v : ℕ) (old : List ℕ) (among : is_among old v ≡ not b)
    (once : (u : ℕ) → count_by (nat_eq u) old ≤ 1) where
  -- whether v itself is there now
  among_self : is_among (marked old v b) v ≡ b
  among_self = sym (any_counted (nat_eq v) (marked old v b))
      ∙ (ap (λ n. not (n == 0)) (count_marked b (nat_eq v) v old among once)
      ∙ by b (count_by (nat_eq v) old) (nat_eq v v) (eq-eqb v v refl) (once v))
    where
      by : (b : Bool) (k : ℕ) (t : Bool) → t ≡ true → k ≤ 1 → not (by_one b t k == 0) ≡ b
      by true k true e le = ap not (ne_eqb (k + 1) 0 (λ f. omega arith))
      by false k true e le = ap not (eq-eqb (k - 1) 0 (omega arith))
      by b k false e le = absurd (cc)

  same_count : (b : Bool) (k : ℕ) (t : Bool) → t ≡ false → by_one b t k ≡ k
  same_count true k false e = omega arith
  same_count false k false e = omega arith
  same_count b k true e = absurd (cc)

  -- each other one is there as before
  among_other : (u : ℕ) → u ≢ v → is_among (marked old v b) u ≡ is_among old u
  among_other u differ = sym (any_counted (nat_eq u) (marked old v b))
      ∙ (ap (λ n. not (n == 0)) (count_marked b (nat_eq u) v old among once
      ∙ same_count b (count_by (nat_eq u) old) (nat_eq u v) (ne_eqb u v differ))
      ∙ any_counted (nat_eq u) old)

  once_still : (u : ℕ) → count_by (nat_eq u) (marked old v b) ≤ 1
  once_still u =
      let is : count_by (nat_eq u) (marked old v b) ≡ by_one b (nat_eq u v) (count_by (nat_eq u) old) =
      count_marked b (nat_eq u) v old among once in
      elim (cases_eq u v) [
        | inl same ↦ (
            let le : by_one b (nat_eq u v) (count_by (nat_eq u) old) ≤ 1 = by b (count_by (nat_eq u) old) (nat_eq u v)
            (any_counted (nat_eq u) old ∙ (ap (is_among old) same ∙ among)) (once u) in omega (arith, is, le))
        | inr differ ↦ (
            let e : by_one b (nat_eq u v) (count_by (nat_eq u) old) ≡ count_by (nat_eq u) old =
            same_count b (count_by (nat_eq u) old) (nat_eq u v) (ne_eqb u v differ) in
            let le : count_by (nat_eq u) old ≤ 1 = once u in omega (arith, is, e, le))
      ]
    where
      by : (b : Bool) (k : ℕ) (t : Bool) → not (k == 0) ≡ not b → k ≤ 1 → by_one b t k ≤ 1
      by true k true e le = let none : k ≡ 0 = zero_of k e in omega arith
      by true k false e le = omega arith
      by false k t e le = omega arith

  pub down_still : (vertices : List Vertex) → v < length vertices → AreDown vertices old →
      AreDown vertices (marked old v b)
  down_still vertices lt fair = record {
    within = λ u h. elim (cases_eq u v) [
      | inl same ↦ omega (arith, same, lt)
      | inr differ ↦ fair.within u (sym (among_other u differ) ∙ h)
    ];
    once = once_still;
  }

  pub length_marked : length (marked old v b) ≡ (if b then length old + 1 else length old - 1)
  length_marked = sym (all_counted (marked old v b)) ∙ (count_marked b (λ _. true) v old among once
      ∙ ap (λ n. by_one b true n) (all_counted old))
    where
      all_counted : (us : List ℕ) → count_by (λ _. true) us ≡ length us
      all_counted [] = refl
      all_counted (u ∷ us) =
          let a : count_by (λ _. true) (u ∷ us) ≡ 1 + count_by (λ _. true) us = count_cons (λ _. true) u us in
          let rest : count_by (λ _. true) us ≡ length us = all_counted us in
          omega (arith, a, rest)

  shift_tells : (t : Bool) (m : Mark) → (if t then shifted b m else m).down ≡ m.down
  shift_tells true m = refl
  shift_tells false m = refl

  shift_within : (t : Bool) (m : Mark) → (if t then shifted b m else m).within ≡ by_one b t m.within
  shift_within true m = refl
  shift_within false m = at b
    where
      at : (b : Bool) → m.within ≡ by_one b false m.within
      at true = omega arith
      at false = omega arith

  -- the marks of the changed list
  pub have_marked : (vertices : List Vertex) (first second third : List Mark) → v < length vertices →
      HaveMarks vertices old first → AreShifted vertices v b first second → IsToldAt v b second third →
      HaveMarks vertices (marked old v b) third
  have_marked vertices first second third lt have shift told =
      let many : length second ≡ length vertices = shift.as_many ∙ have.as_many in
      let there = get_some second v (omega arith) in
      let is = told there.0 there.1 in
      let long : length third ≡ length vertices =
      ap length is ∙ (set_length second v (record { down = b; within = there.0.within }) ∙ many) in
      record {
        as_many = long;
        each = λ u mark e.
            let u_in : u < length third = slice_get_within third u mark e in
            let begun : length first ≡ length vertices = have.as_many in
            let was = get_some first u (omega arith) in
            let own = have.each u was.0 was.1 in
            let t : Bool = is_at_or_below vertices v u in
            let now : slice_get second u ≡ Some (if is_at_or_below vertices v u then shifted b was.0 else was.0) =
            shift.each u was.0 was.1 in
            let within_now : (if is_at_or_below vertices v u then shifted b was.0 else was.0).within
            ≡ down_within vertices (marked old v b) u = shift_within (is_at_or_below vertices v u) was.0
            ∙ (ap (by_one b (is_at_or_below vertices v u)) own.within
            ∙ sym (count_marked b (λ w. is_at_or_below vertices w u) v old among once)) in
            elim (cases_eq u v) [
              | inl same ↦ at_self vertices second third u mark _ same (omega arith) now told e within_now
              | inr differ ↦ (
                  let f : Some (if is_at_or_below vertices v u then shifted b was.0 else was.0) ≡ Some mark =
                  sym now ∙ (sym (ap (λ l. slice_get l u) is
                  ∙ get_beside second v u (record { down = b; within = there.0.within }) differ) ∙ e) in
                  subst (λ (m : Mark). IsMarkOf vertices (marked old v b) u m) (some_same f)
                  (record {
                    tells = shift_tells (is_at_or_below vertices v u) was.0 ∙ (own.tells ∙ sym (among_other u differ));
                    within = within_now;
                  }))
            ];
      }
    where
      some_same : {x y : Mark} → Some x ≡ Some y → x ≡ y
      some_same f = cc

      at_self : (vertices : List Vertex) (second third : List Mark) (u : ℕ) (mark s : Mark) → u ≡ v →
          v < length second → slice_get second u ≡ Some s → IsToldAt v b second third →
          slice_get third u ≡ Some mark → s.within ≡ down_within vertices (marked old v b) u →
          IsMarkOf vertices (marked old v b) u mark
      at_self vertices second third u mark s same lt now told e within_now =
          let own : slice_get second v ≡ Some s = subst (λ (w : ℕ). slice_get second w ≡ Some s) same now in
          let f : Some (record { down = b; within = s.within }) ≡ Some mark =
          sym (ap (slice_get third) same ∙ (ap (λ l. slice_get l v) (told s own)
          ∙ get_set second v (record { down = b; within = s.within }) lt)) ∙ e in
          subst (λ (m : Mark). IsMarkOf vertices (marked old v b) u m) (some_same f)
          (record { tells = sym (ap (is_among (marked old v b)) same ∙ among_self); within = within_now })

-- every vertex is up
pub record AllUp (marks : List Mark) : Type 0 where
  pub each : (v : ℕ) (mark : Mark) → slice_get marks v ≡ Some mark → mark ≡ record { down = false; within = 0 }

pub up_none : (marks : List Mark) → marks ≡ [] → AllUp marks
up_none marks none = record {
  each = λ v mark e.
      let within : v < length marks = slice_get_within marks v mark e in
      let long : length marks ≡ 0 = ap length none in absurd (omega arith);
}

pub up_more : (marks grown : List Mark) → grown ≡ marks ++ record { down = false; within = 0 } ∷ [] →
    AllUp marks → AllUp grown
up_more marks grown is up = record {
  each = λ v mark e.
      elim (last_or marks (record { down = false; within = 0 }) mark v (sym (ap (λ l. slice_get l v) is) ∙ e)) [
        | inl old ↦ up.each v mark old
        | inr new ↦ sym new.1
      ];
}

pub up_all : (vertices : List Vertex) (marks : List Mark) → length marks ≡ length vertices → AllUp marks →
    HaveMarks vertices [] marks
up_all vertices marks long up = record {
  as_many = long;
  each = λ v mark e. record {
    tells = ap (λ (m : Mark). m.down) (up.each v mark e);
    within = ap (λ (m : Mark). m.within) (up.each v mark e);
  };
}

-- the marks of a graph, once they are made
pub made_kept : (vertices : List Vertex) (down : List ℕ) (pages : List Mark) → 0 < length vertices →
    length pages ≡ length vertices → MayMark vertices down pages → HaveMarks vertices down pages
made_kept vertices down pages some long may = may.made (omega arith)

pub made_new : (vertices : List Vertex) (down : List ℕ) (pages made : List Mark) → length pages ≢ length vertices →
    MayMark vertices down pages → HaveMarks vertices [] made → HaveMarks vertices down made
made_new vertices down pages made differ may have = elim (cases_lt 0 (length pages)) [
  | inl some ↦ absurd (differ (may.made some).as_many)
  | inr bare ↦ subst (λ (l : List ℕ). HaveMarks vertices l made) (sym (may.bare (omega arith))) have
]
