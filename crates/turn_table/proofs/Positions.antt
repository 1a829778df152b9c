-- How often a position stands in a list.
use Rattle.std.proofs.Common.{◌≡◌, ◌≢◌, ℕ, zero, suc, ◌+◌, ◌≤◌, ◌<◌, ◌==◌, nat_lt, Bool, true, false, List, [], ◌∷◌}
use Rattle.std.proofs.Common.{◌++◌, refl, sym, ap, ◌∙◌, ◌-◌, arith, if◌then◌else◌, eq-eqb, ne_eqb}
use Rattle.std.specs.List.{range_with_len}
use Rattle.std.proofs.lemmas.List.Sums.{sum_by-cons, sum_by-append}
use mathlib.Core.Logic.{dite}
use native.Mathlib.Decide.{ℕ_discrete}
use Rattle.turn_table.specs.Positions.{times, put_in, merged}

-- 1 where q is p, and else 0
abbrev is_it : ℕ → ℕ → ℕ
is_it p q = if q == p then 1 else 0

times_cons : (p q : ℕ) (qs : List ℕ) → times p (q ∷ qs) ≡ is_it p q + times p qs
times_cons p q qs = sum_by-cons (is_it p) q qs

pub times_hit : (p q : ℕ) (qs : List ℕ) → q ≡ p → times p (q ∷ qs) ≡ 1 + times p qs
times_hit p q qs e = let one : is_it p q ≡ 1 = rw (eq-eqb q p e) in let c = times_cons p q qs in omega arith

pub times_miss : (p q : ℕ) (qs : List ℕ) → q ≢ p → times p (q ∷ qs) ≡ times p qs
times_miss p q qs n = let none : is_it p q ≡ 0 = rw (ne_eqb q p n) in let c = times_cons p q qs in omega arith

pub times_append : (p : ℕ) (ps qs : List ℕ) → times p (ps ++ qs) ≡ times p ps + times p qs
times_append p ps qs = sum_by-append (is_it p) ps qs

-- ---- the numbers from a on

pub times_before : (p a n : ℕ) → p < a → times p (range_with_len a n) ≡ 0
times_before p a zero l = refl
times_before p a (suc n) l =
    let miss = times_miss p a (range_with_len (a + 1) n) (λ e. omega arith) in
    let rest = times_before p (a + 1) n (omega arith) in omega arith

pub times_past : (p a n : ℕ) → a + n ≤ p → times p (range_with_len a n) ≡ 0
times_past p a zero l = refl
times_past p a (suc n) l =
    let miss = times_miss p a (range_with_len (a + 1) n) (λ e. omega arith) in
    let rest = times_past p (a + 1) n (omega arith) in omega arith

pub times_within : (p a n : ℕ) → a ≤ p → p < a + n → times p (range_with_len a n) ≡ 1
times_within p a zero l h = absurd (omega arith)
times_within p a (suc n) l h = dite (ℕ_discrete a p)
    (λ e.
    let hit = times_hit p a (range_with_len (a + 1) n) e in
    let rest = times_before p (a + 1) n (omega arith) in omega arith)
    (λ other.
    let miss = times_miss p a (range_with_len (a + 1) n) other in
    let rest = times_within p (a + 1) n (omega arith) (omega arith) in omega arith)

-- each at most once
pub times_once : (p a n : ℕ) → times p (range_with_len a n) ≤ 1
times_once p a zero = omega arith
times_once p a (suc n) = dite (ℕ_discrete a p)
    (λ e.
    let hit = times_hit p a (range_with_len (a + 1) n) e in
    let rest = times_before p (a + 1) n (omega arith) in omega arith)
    (λ other.
    let miss = times_miss p a (range_with_len (a + 1) n) other in
    let rest = times_once p (a + 1) n in omega arith)

pub range_append : (a m n b : ℕ) → a + m ≡ b → range_with_len a (m + n) ≡ range_with_len a m ++ range_with_len b n
range_append a zero n b e =
    let all : zero + n ≡ n = omega arith in let here : b ≡ a = omega arith in rw (all, here) refl
range_append a (suc m) n b e =
    let more : suc m + n ≡ suc (m + n) = omega arith in
    let rest = range_append (a + 1) m n b (omega arith) in rw more (ap (λ ps. a ∷ ps) rest)

-- the numbers from 0 on, where m of them stand in front
pub times_range : (p m n : ℕ) → m ≤ n
    → times p (range_with_len 0 n) ≡ times p (range_with_len 0 m) + times p (range_with_len m (n - m))
times_range p m n l =
    let whole : m + (n - m) ≡ n = omega arith in
    let parts = range_append 0 m (n - m) m (omega arith) in
    let sums = times_append p (range_with_len 0 m) (range_with_len m (n - m)) in
    ap (λ k. times p (range_with_len 0 k)) (sym whole) ∙ (ap (times p) parts ∙ sums)

-- ---- two lists in one

pick : (p t : ℕ) (ps qs : List ℕ) (b : Bool) → times p ps ≡ t → times p qs ≡ t → times p (if b then ps else qs) ≡ t
pick p t ps qs true h k = h
pick p t ps qs false h k = k

times_put : (p x : ℕ) (ys : List ℕ) → times p (put_in x ys) ≡ is_it p x + times p ys
times_put p x [] = times_cons p x []
times_put p x (y ∷ ys) =
    let here = times_cons p x (y ∷ ys) in
    let there = times_cons p y (put_in x ys) in
    let split = times_cons p y ys in
    let rest = times_put p x ys in
    pick p _ (x ∷ y ∷ ys) (y ∷ put_in x ys) (nat_lt x y) here (omega arith)

pub times_merged : (p : ℕ) (ps qs : List ℕ) → times p (merged ps qs) ≡ times p ps + times p qs
times_merged p [] qs = omega arith
times_merged p (x ∷ ps) qs =
    let put = times_put p x (merged ps qs) in
    let cons = times_cons p x ps in
    let rest = times_merged p ps qs in omega arith
