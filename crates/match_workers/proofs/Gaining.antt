-- The positions that a session gains, line by line.
use Rattle.std.proofs.Common.{◌≡◌, ℕ, zero, suc, ◌+◌, ◌≤◌, ◌<◌, true, false, List, [], ◌∷◌, ◌++◌, length, map, take}
use Rattle.std.proofs.Common.{slice_get, slice_set, Some, refl, sym, ap, ◌∙◌, subst, arith, append_assoc, length-append}
use Rattle.std.proofs.lemmas.List.{append-nil}
use Rattle.std.proofs.lemmas.Option.{slice_get_within}
use mathlib.Core.List.{IsPrefix, map-append}
use base.Growing.{prefix_refl, prefix_trans}
use Rattle.list_laws.proofs.Lists.{prefix_length, take_next}
use Rattle.flux_defs.specs.declared.journal.Entry.{Entry}
use Rattle.flux_defs.specs.declared.journal.Line.{Line}
use Rattle.flux_defs.specs.Placed.{line_of_any, line_at, IsPlaced}
use Rattle.match_workers.specs.declared.sessions.Session.{Session}
use Rattle.match_workers.specs.Served.{taken_from, RiseWithin, some_line, Gains, IsServed}
use Rattle.match_workers.proofs.Lines.{left_of, left_at, left_next, left_back}

-- what stands in a beginning stands in the whole, at the same place
prefix_same : {A : Type 0} (xs ys : List A) (k : ℕ) → IsPrefix xs ys → k < length xs → slice_get ys k ≡ slice_get xs k
prefix_same [] ys k p h = absurd (omega arith)
prefix_same (x ∷ xs) [] k p h = absurd (cc (p.1))
prefix_same (x ∷ xs) (y ∷ ys) zero p h = cc (p.1)
prefix_same (x ∷ xs) (y ∷ ys) (suc k) p h = prefix_same xs ys k (p.0, cc (p.1)) (omega arith)

-- an entry that is there is below the end
line_below : (history : List Entry) (at : ℕ) (l : _) → line_at history at ≡ Some l → at < length history
line_below [] at l e = absurd cc
line_below (x ∷ history) zero l e = omega arith
line_below (x ∷ history) (suc at) l e = let h = line_below history at l e in omega arith

rise_further : (a b c : ℕ) (ps : List ℕ) → RiseWithin a ps b → b ≤ c → RiseWithin a ps c
rise_further a b c [] r l = omega arith
rise_further a b c (p ∷ ps) r l = (r.0, rise_further (p + 1) b c ps r.1 l)

pub rise_between : (a b : ℕ) (ps : List ℕ) → RiseWithin a ps b → a ≤ b
rise_between a b [] r = r
rise_between a b (p ∷ ps) r = let h = rise_between (p + 1) b ps r.1 in let q = r.0 in omega arith

rise_one : (a b at c : ℕ) (ps : List ℕ) → RiseWithin a ps b → b ≤ at → at < c → RiseWithin a (ps ++ at ∷ []) c
rise_one a b at c [] r l m = (omega arith, omega arith)
rise_one a b at c (p ∷ ps) r l m = (r.0, rise_one (p + 1) b at c ps r.1 l m)

-- the entries at positions that were seen stay
pub same_lines : (a : ℕ) (ps : List ℕ) (s s' : List Entry) → RiseWithin a ps (length s) → IsPrefix s s'
    → map (line_at s') ps ≡ map (line_at s) ps
same_lines a [] s s' r p = refl
same_lines a (x ∷ ps) s s' r p =
    let w = rise_between (x + 1) (length s) ps r.1 in
    let here : line_at s' x ≡ line_at s x = ap line_of_any (prefix_same s s' x p (omega arith)) in
    let rest = same_lines (x + 1) ps s s' r.1 p in
    cc

pub gains_none : (client : ℕ) (lines : List Line) (s : List Entry) (m : List ℕ) → Gains client (take 0 lines) s m s m
gains_none client lines s m = record {
  later = prefix_refl s;
  gained = [];
  mine-is = sym (append-nil m);
  rising = omega arith;
  answers = refl;
}

module _ (client : ℕ) (s : List Entry) (m : List ℕ) (s' s'' : List Entry) (m' m'' : List ℕ) where
  -- more was seen
  pub gains_seen : (lines : List Line) →
      Gains client lines s m s' m' → IsPrefix s' s'' → m'' ≡ m' → Gains client lines s m s'' m''
  gains_seen lines g p same = record {
    later = prefix_trans s s' s'' g.later p;
    gained = g.gained;
    mine-is = same ∙ g.mine-is;
    rising = rise_further (length s) (length s') (length s'') g.gained g.rising (prefix_length s' s'' p);
    answers = same_lines (length s) g.gained s' s'' g.rising p ∙ g.answers;
  }

  -- one line more is placed
  pub gains_one : (lines : List Line) (i : ℕ) (l : Line) (at : ℕ) →
      Gains client (take i lines) s m s' m' → IsPrefix s' s''
      → slice_get lines i ≡ Some l → IsPlaced client l.line l.command at s' s'' → m'' ≡ m' ++ at ∷ []
      → Gains client (take (i + 1) lines) s m s'' m''
  gains_one lines i l at g p there placed same =
      let old : map (line_at s'') g.gained ≡ map (some_line client) (take i lines)
      = same_lines (length s) g.gained s' s'' g.rising p ∙ g.answers in
      let both : map (line_at s'') g.gained ++ line_at s'' at ∷ []
      ≡ map (some_line client) (take i lines) ++ some_line client l ∷ []
      = cc (placed.1) in record {
        later = prefix_trans s s' s'' g.later p;
        gained = g.gained ++ at ∷ [];
        mine-is = same ∙ (ap (λ w. w ++ at ∷ []) g.mine-is ∙ append_assoc m g.gained (at ∷ []));
        rising =
            rise_one (length s) (length s') at (length s'') g.gained g.rising placed.0 (line_below s'' at _ placed.1);
        answers = map-append (line_at s'') g.gained (at ∷ []) ∙ (both
            ∙ sym (ap (map (some_line client)) (take_next lines i l there)
            ∙ map-append (some_line client) (take i lines) (l ∷ [])));
      }

-- what stands of a session before its line i
pub record Sofar {D T : Type 0}
    (takes : D → T → Type 0) (seen : T → List Entry) (mine : T → List ℕ) (share : T → ℕ) (desk : D)
    (s s' : Session T) (i : ℕ) : Type 0 where
  pub seat : takes desk s'.seat
  pub part : share s'.seat ≡ share s.seat
  pub client : s'.client ≡ s.client
  pub going : s'.stopped ≡ false
  pub done : s'.done ≡ i
  pub within : i ≤ length s.lines
  pub left : s'.lines ≡ left_of i s.lines
  pub gains : Gains s.client (take i s.lines) (seen s.seat) (mine s.seat) (seen s'.seat) (mine s'.seat)

module _ {D T : Type 0} (takes : D → T → Type 0) (seen : T → List Entry) (mine : T → List ℕ) (share : T → ℕ) (desk : D)
    (s : Session T) where
  module _ (s' : Session T) (i : ℕ) (so : Sofar takes seen mine share desk s s' i) where
    -- the line at i is as it was at the call
    pub line_is : (l : Line) → slice_get s'.lines i ≡ Some l → slice_get s.lines i ≡ Some l
    line_is l there = sym (left_at i s.lines) ∙ (ap (λ ls. slice_get ls i) (sym so.left) ∙ there)

    -- the line was placed
    pub placed_one : (l : Line) (at : ℕ) (s'' : Session T) → slice_get s'.lines i ≡ Some l
        → s''.lines ≡ slice_set s'.lines i (taken_from l) → takes desk s''.seat → share s''.seat ≡ share s'.seat
        → IsPrefix (seen s'.seat) (seen s''.seat) →
        IsPlaced s'.client l.line l.command at (seen s'.seat) (seen s''.seat)
        → mine s''.seat ≡ mine s'.seat ++ at ∷ [] → s''.client ≡ s'.client → s''.stopped ≡ s'.stopped
        → s''.done ≡ s'.done + 1 → Sofar takes seen mine share desk s s'' (i + 1)
    placed_one l at s'' there lines seat part pre placed more client stopped done =
        let was = line_is l there in record {
          seat = seat;
          part = part ∙ so.part;
          client = client ∙ so.client;
          going = stopped ∙ so.going;
          done = let e = so.done in omega arith;
          within = let w = slice_get_within s.lines i l was in omega arith;
          left = lines ∙ (ap (λ ls. slice_set ls i (taken_from l)) so.left ∙ left_next i s.lines l was);
          gains = gains_one s.client
              (seen s.seat) (mine s.seat) (seen s'.seat) (seen s''.seat) (mine s'.seat) (mine s''.seat)
              s.lines i l at so.gains pre was
              (subst (λ c. IsPlaced c l.line l.command at (seen s'.seat) (seen s''.seat)) so.client placed) more;
        }

    -- the submit found no memory, and its line is put back
    pub stopped_at : (l : Line) (s'' : Session T) → slice_get s'.lines i ≡ Some l
        → s''.lines ≡ slice_set (slice_set s'.lines i (taken_from l)) i l →
        takes desk s''.seat → share s''.seat ≡ share s'.seat
        → IsPrefix (seen s'.seat) (seen s''.seat) → mine s''.seat ≡ mine s'.seat → s''.client ≡ s'.client
        → s''.stopped ≡ true → s''.done ≡ s'.done → IsServed takes seen mine share desk s s''
    stopped_at l s'' there lines seat part pre same client stopped done =
        let was = line_is l there in
        let here : s''.done ≡ i = done ∙ so.done in
        let less : s''.done < length s.lines = let w = slice_get_within s.lines i l was in omega arith in
        let back : s''.lines ≡ left_of i s.lines
        = lines ∙ (ap (λ ls. slice_set (slice_set ls i (taken_from l)) i l) so.left
        ∙ left_back i s.lines l (taken_from l) was) in record {
          seat = seat;
          part = part ∙ so.part;
          client = client ∙ so.client;
          done = omega arith;
          stopped = ((λ _. less), (λ _. stopped));
          lines = back ∙ ap (λ n. left_of n s.lines) (sym here);
          gains = subst (λ n.
              Gains s.client (take n s.lines) (seen s.seat) (mine s.seat) (seen s''.seat) (mine s''.seat)) (sym here)
              (gains_seen s.client
              (seen s.seat) (mine s.seat) (seen s'.seat) (seen s''.seat) (mine s'.seat) (mine s''.seat)
              (take i s.lines) so.gains pre same);
        }
