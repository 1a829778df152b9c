-- From where each client's lines stand in a history to its part of it.
use Rattle.std.proofs.Common.{◌≡◌, ◌≢◌, ℕ, zero, suc, ◌+◌, ◌-◌, ◌≤◌, ◌<◌, cond, List, [], ◌∷◌, length, map, slice_get}
use Rattle.std.proofs.Common.{Option, Some, None, refl, sym, ap, ◌∙◌, subst, arith, eq-eqb, ne_eqb, add-zero, zero-add}
use Rattle.std.specs.List.{sum_by}
use Rattle.std.proofs.lemmas.List.Sums.{sum_by-cons}
use Rattle.std.proofs.lemmas.Option.{slice_get_within}
use Rattle.match_workers.proofs.Gaining.{rise_between}
use mathlib.Core.Logic.{dite}
use native.Mathlib.Decide.{ℕ_discrete}
use Rattle.flux_defs.specs.declared.journal.ClientLine.{ClientLine}
use Rattle.flux_defs.specs.declared.journal.Entry.{Entry}
use Rattle.flux_defs.specs.declared.journal.Line.{Line}
use Rattle.flux_defs.specs.Histories.{of_client}
use Rattle.flux_defs.specs.Placed.{line_of_any, line_at}
use Rattle.flux_defs.specs.Scripts.{line_of, client_line}
use Rattle.turn_table.specs.Positions.{times}
use Rattle.turn_table.proofs.Positions.{times_hit, times_miss}
use Rattle.match_workers.specs.Served.{RiseWithin, some_line}

-- the lines of the clients from n on stand in the history at these positions
abbrev pub AreTold : List Entry → ℕ → List (List Line) → List (List ℕ) → Type 0
AreTold h n [] [] = Unit {0}
AreTold h n (ls ∷ lss) (g ∷ gs) =
    RiseWithin 0 g (length h) × (map (line_at h) g ≡ map (some_line n) ls) × AreTold h (n + 1) lss gs
AreTold h n lss gs = ⊥

-- none of the positions is below the first
times_under : (p a b : ℕ) (ps : List ℕ) → RiseWithin a ps b → p < a → times p ps ≡ 0
times_under p a b [] r l = refl
times_under p a b (x ∷ ps) r l =
    let q = r.0 in
    let miss = times_miss p x ps (λ e. omega arith) in
    let rest = times_under p (x + 1) b ps r.1 (omega arith) in omega arith

client_is : (e : Entry) (n : ℕ) (l : Line) → line_of_any (Some e) ≡ some_line n l → e.client ≡ n
client_is e n l h = let f : Option ClientLine → ℕ = λ o. elim o [ None ↦ 0 | Some a ↦ a.client ] in ap f h

-- ---- whose an entry is

-- an entry at one of a client's positions is the client's
in_told : (h : List Entry) (n p : ℕ) (e : Entry) (g : List ℕ) (ls : List Line) →
    map (line_at h) g ≡ map (some_line n) ls
    → slice_get h p ≡ Some e → 0 < times p g → e.client ≡ n
in_told h n p e [] ls m at some = absurd (omega arith)
in_told h n p e (x ∷ g) [] m at some = absurd cc
in_told h n p e (x ∷ g) (l ∷ ls) m at some =
    let first : line_at h x ≡ some_line n l = cc in
    let rest : map (line_at h) g ≡ map (some_line n) ls = cc in
    dite (ℕ_discrete x p)
    (λ same. client_is e n l (ap line_of_any (sym at ∙ ap (slice_get h) (sym same)) ∙ first))
    (λ other. let z = times_miss p x g other in in_told h n p e g ls rest at (omega arith))

not_in : (h : List Entry) (n p : ℕ) (e : Entry) (g : List ℕ) (ls : List Line) → map (line_at h) g ≡ map (some_line n) ls
    → slice_get h p ≡ Some e → e.client ≢ n → times p g ≡ 0
not_in h n p e g ls m at other =
    dite (ℕ_discrete (times p g) 0) (λ z. z) (λ some. absurd (other (in_told h n p e g ls m at (omega arith))))

-- the clients from n on have no entry of an earlier client
none_later : (h : List Entry) (n p : ℕ) (e : Entry) (lss : List (List Line)) (gs : List (List ℕ)) → AreTold h n lss gs
    → slice_get h p ≡ Some e → e.client < n → sum_by (times p) gs ≡ 0
none_later h n p e [] [] a at low = refl
none_later h n p e [] (g ∷ gs) a at low = absurd a
none_later h n p e (ls ∷ lss) [] a at low = absurd a
none_later h n p e (ls ∷ lss) (g ∷ gs) a at low =
    let z = not_in h n p e g ls a.1 at (λ s. omega arith) in
    let r = none_later h (n + 1) p e lss gs a.2 at (omega arith) in
    let sum = sum_by-cons (times p) g gs in omega arith

-- an entry at some position of theirs is of one of these clients
pub some_client : (h : List Entry) (n p : ℕ) (e : Entry) (lss : List (List Line)) (gs : List (List ℕ)) →
    AreTold h n lss gs
    → slice_get h p ≡ Some e → 0 < sum_by (times p) gs → e.client < n + length lss
some_client h n p e [] [] a at some = absurd (omega arith)
some_client h n p e [] (g ∷ gs) a at some = absurd a
some_client h n p e (ls ∷ lss) [] a at some = absurd a
some_client h n p e (ls ∷ lss) (g ∷ gs) a at some = let sum = sum_by-cons (times p) g gs in
    dite (ℕ_discrete (times p g) 0)
    (λ z. let r = some_client h (n + 1) p e lss gs a.2 at (omega arith) in omega arith)
    (λ more. let s = in_told h n p e g ls a.1 at (omega arith) in omega arith)

-- ---- a client's positions

-- the positions, counted from a on, are just those of the client's entries
abbrev AreJust : List Entry → ℕ → ℕ → List ℕ → Type 0
AreJust h a c xs =
    (p : ℕ) (e : Entry) →
    slice_get h p ≡ Some e → (e.client ≡ c → times (a + p) xs ≡ 1) × (e.client ≢ c → times (a + p) xs ≡ 0)

-- a client's positions: they rise, its lines stand there, and no other entry of its own
record AreItsOwn (h : List Entry) (c : ℕ) (ls : List Line) : Type 0 where
  own : List ℕ
  rising : RiseWithin 0 own (length h)
  lines : map (line_at h) own ≡ map (some_line c) ls
  just : AreJust h 0 c own

its_own : (h : List Entry) (n i : ℕ) (ls : List Line) (lss : List (List Line)) (gs : List (List ℕ)) → AreTold h n lss gs
    → slice_get lss i ≡ Some ls →
    ((p : ℕ) (e : Entry) → slice_get h p ≡ Some e → n ≤ e.client → sum_by (times p) gs ≡ 1)
    → AreItsOwn h (n + i) ls
its_own h n i ls [] gs a there once = absurd cc
its_own h n i ls (xs ∷ lss) [] a there once = absurd a
its_own h n zero ls (xs ∷ lss) (g ∷ gs) a there once =
    let same : xs ≡ ls = cc in rw add-zero (record {
      own = g;
      rising = a.0;
      lines = a.1 ∙ ap (map (some_line n)) same;
      just = λ p e at. let sum = sum_by-cons (times p) g gs in (
        (λ s.
            let o = once p e at (omega arith) in
            let z = none_later h (n + 1) p e lss gs a.2 at (omega arith) in rw zero-add (omega arith)),
        (λ other. rw zero-add (not_in h n p e g xs a.1 at other)),
      );
    })
its_own h n (suc i) ls (xs ∷ lss) (g ∷ gs) a there once =
    let rest = its_own h (n + 1) i ls lss gs a.2 there (λ p e at high.
    let sum = sum_by-cons (times p) g gs in
    let o = once p e at (omega arith) in
    let z = not_in h n p e g xs a.1 at (λ s. omega arith) in omega arith) in
    let same : (n + 1) + i ≡ n + suc i = omega arith in subst (λ (c : ℕ). AreItsOwn h c ls) same rest

-- ---- its part

-- the line that is answered at a position, where the history begins at position a
abbrev from : ℕ → List Entry → ℕ → Option ClientLine
from a h p = line_of_any (slice_get h (p - a))

abbrev some_of : Entry → Option ClientLine
some_of e = Some (line_of e)

further : (a b lo : ℕ) (e : Entry) (h : List Entry) (xs : List ℕ) → a + 1 ≤ lo → RiseWithin lo xs b
    → map (from a (e ∷ h)) xs ≡ map (from (a + 1) h) xs
further a b lo e h [] l r = refl
further a b lo e h (x ∷ xs) l r =
    let q = r.0 in
    let n : x - a ≡ suc (x - (a + 1)) = omega arith in
    let first : from a (e ∷ h) x ≡ from (a + 1) h x = ap (λ (k : ℕ). line_of_any (slice_get (e ∷ h) k)) n in
    let rest = further a b (x + 1) e h xs (omega arith) r.1 in
    cc

pub part_yes : (c : ℕ) (e : Entry) (h : List Entry) → e.client ≡ c → of_client c (e ∷ h) ≡ e ∷ of_client c h
part_yes c e h s = ap (λ b. cond b (e ∷ of_client c h) (of_client c h)) (eq-eqb e.client c s)

pub part_no : (c : ℕ) (e : Entry) (h : List Entry) → e.client ≢ c → of_client c (e ∷ h) ≡ of_client c h
part_no c e h n = ap (λ b. cond b (e ∷ of_client c h) (of_client c h)) (ne_eqb e.client c n)

skips : (a b : ℕ) (xs : List ℕ) → RiseWithin a xs b → times a xs ≡ 0 → a + 1 ≤ b → RiseWithin (a + 1) xs b
skips a b [] r z l = l
skips a b (x ∷ xs) r z l =
    let other : x ≢ a = λ s. let o = times_hit a x xs s in absurd (omega arith) in let q = r.0 in (omega arith, r.1)

starts : (a b : ℕ) (xs : List ℕ) →
    RiseWithin a xs b → times a xs ≡ 1 → (ys : List ℕ) × (xs ≡ a ∷ ys) × RiseWithin (a + 1) ys b
starts a b [] r o = absurd (omega arith)
starts a b (x ∷ xs) r o =
    let q = r.0 in
    let same : x ≡ a = dite (ℕ_discrete x a) (λ s. s) (λ other.
    let z = times_miss a x xs other in
    let y = times_under a (x + 1) b xs r.1 (omega arith) in absurd (omega arith)) in
    (xs, ap (λ (k : ℕ). k ∷ xs) same, subst (λ (k : ℕ). RiseWithin (k + 1) xs b) same r.1)

part_at : (h : List Entry) (a b c : ℕ) (xs : List ℕ) → a + length h ≡ b → RiseWithin a xs b → AreJust h a c xs
    → map (from a h) xs ≡ map some_of (of_client c h)
part_at [] a b c [] s r j = refl
part_at [] a b c (x ∷ xs) s r j = let w = rise_between (x + 1) b xs r.1 in let q = r.0 in absurd (omega arith)
part_at (e ∷ h) a b c xs s r j = dite (ℕ_discrete e.client c)
    (λ yes.
    let st = starts a b xs r (rw add-zero at ((j 0 e refl).0 yes)) in
    let ys : List ℕ = st.0 in
    let j' : AreJust h (a + 1) c ys = λ p f at.
    let k = j (suc p) f at in
    let miss = times_miss (a + suc p) a ys (λ q. omega arith) in
    let t : times (a + suc p) xs ≡ times (a + 1 + p) ys
    = ap (times (a + suc p)) st.1
    ∙ (miss ∙ ap (λ (n : ℕ). times n ys) (let n : a + suc p ≡ a + 1 + p = omega arith in n)) in
    ((λ q. sym t ∙ k.0 q), (λ q. sym t ∙ k.1 q)) in
    let rest = part_at h (a + 1) b c ys (omega arith) st.2 j' in
    let more = further a b (a + 1) e h ys (omega arith) st.2 in
    let none : a - a ≡ 0 = omega arith in
    let first : from a (e ∷ h) a ≡ some_of e = ap (λ (k : ℕ). line_of_any (slice_get (e ∷ h) k)) none in
    let all : map (from a (e ∷ h)) (a ∷ ys) ≡ some_of e ∷ map some_of (of_client c h) = cc in
    ap (map (from a (e ∷ h))) st.1 ∙ (all ∙ ap (map some_of) (sym (part_yes c e h yes))))
    (λ no.
    let r' = skips a b xs r (rw add-zero at ((j 0 e refl).1 no)) (omega arith) in
    let j' : AreJust h (a + 1) c xs = λ p f at.
    let k = j (suc p) f at in
    let t : times (a + suc p) xs ≡ times (a + 1 + p) xs
    = ap (λ (n : ℕ). times n xs) (let n : a + suc p ≡ a + 1 + p = omega arith in n) in
    ((λ q. sym t ∙ k.0 q), (λ q. sym t ∙ k.1 q)) in
    let rest = part_at h (a + 1) b c xs (omega arith) r' j' in
    let more = further a b (a + 1) e h xs (omega arith) r' in
    more ∙ (rest ∙ ap (map some_of) (sym (part_no c e h no))))

from_zero : (h : List Entry) (xs : List ℕ) → map (from 0 h) xs ≡ map (line_at h) xs
from_zero h [] = refl
from_zero h (x ∷ xs) =
    let r = from_zero h xs in
    let n : x - 0 ≡ x = omega arith in
    let f : from 0 h x ≡ line_at h x = ap (line_at h) n in
    cc

some_same : (c : ℕ) (es : List Entry) (ls : List Line) → map some_of es ≡ map (some_line c) ls
    → map line_of es ≡ map (client_line c) ls
some_same c [] [] h = refl
some_same c [] (l ∷ ls) h = absurd cc
some_same c (e ∷ es) [] h = absurd cc
some_same c (e ∷ es) (l ∷ ls) h =
    let rest : map some_of es ≡ map (some_line c) ls = cc in
    let r = some_same c es ls rest in
    let f : line_of e ≡ client_line c l = cc in
    cc

-- where each position is of one client, each client's part answers its lines
pub parts_are : (h : List Entry) (lss : List (List Line)) (gs : List (List ℕ)) → AreTold h 0 lss gs
    → ((p : ℕ) → p < length h → sum_by (times p) gs ≡ 1) → (c : ℕ) (ls : List Line) → slice_get lss c ≡ Some ls
    → map line_of (of_client c h) ≡ map (client_line c) ls
parts_are h lss gs a once c ls there =
    let same : 0 + c ≡ c = omega arith in
    let o : AreItsOwn h c ls = subst (λ (n : ℕ). AreItsOwn h n ls) same
    (its_own h 0 c ls lss gs a there (λ p e at low. once p (slice_get_within h p e at))) in
    some_same c (of_client c h) ls
    (sym (part_at h 0 (length h) c o.own (omega arith) o.rising o.just) ∙ (from_zero h o.own ∙ o.lines))
