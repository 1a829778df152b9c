-- Each event keeps the history one.
use Rattle.std.proofs.Common.{◌≡◌, ◌≢◌, ℕ, zero, suc, Bool, if◌then◌else◌, ◌+◌, ◌==◌, List, [], ◌∷◌, ◌++◌, map, take}
use Rattle.std.proofs.Common.{slice_get, slice_set, Some, inl, inr, ◌⊎◌, refl, sym, ◌∙◌, ap, subst, arith, append_assoc}
use Rattle.std.proofs.lemmas.Bool.Decides.{eqb_tells}
use Rattle.std.proofs.lemmas.List.{append-nil, map-append}
use Rattle.std.proofs.lemmas.List.Elements.{filter-append}
use Rattle.std.proofs.lemmas.Option.{same_Some}
use Rattle.sched_core.proofs.Grown.{legal_snoc}
use mathlib.Core.List.{IsPrefix}
use Rattle.flux_defs.specs.declared.events.Event.{Event}
use Rattle.flux_defs.specs.declared.events.Event.TheVariants.{Look, Search, Commit, Decide}
use Rattle.flux_defs.specs.declared.journal.ClientLine.{ClientLine}
use Rattle.flux_defs.specs.declared.journal.Entry.{Entry}
use Rattle.flux_defs.specs.declared.journal.Line.{Line}
use Rattle.flux_defs.specs.declared.journal.Script.{Script}
use Rattle.flux_defs.specs.Scheduler.{Setting, first_state}
use Rattle.flux_defs.specs.Histories.{IsLegal, of_client}
use Rattle.flux_defs.specs.Scripts.{HasLines, line_of, client_line}
use Rattle.flux_defs.specs.Interleaving.{Flight, Idle, Looked, Searched, Progress, at_rest, Machine, first_machine}
use Rattle.flux_defs.specs.Interleaving.{HasNext, with_flight, IsAnswered, Happens, Takes, Runs, HasLookedAt}
use Rattle.flux_defs.specs.Interleaving.{IsOneHistory}
use Rattle.list_laws.proofs.Lists.{take_next}

-- what stands at a place of a list in which one item was exchanged
pub set_cases : {X : Type 0} (xs : List X) (i j : ℕ) (y x : X) → slice_get (slice_set xs i y) j ≡ Some x →
    ((j ≡ i) × (x ≡ y)) ⊎ ((j ≢ i) × (slice_get xs j ≡ Some x))
set_cases [] i j y x at = absurd cc
set_cases (z ∷ xs) zero zero y x at = inl (refl, cc)
set_cases (z ∷ xs) zero (suc j) y x at = inr (λ e. absurd (omega arith), at)
set_cases (z ∷ xs) (suc i) zero y x at = inr (λ e. absurd (omega arith), at)
set_cases (z ∷ xs) (suc i) (suc j) y x at = elim (set_cases xs i j y x at) [
  | inl s ↦ inl (ap suc s.0, s.1)
  | inr s ↦ inr (λ e. s.0 (omega arith), s.1)
]

-- a list begins itself, and what begins it begins a longer one
begins_itself : (h : List Entry) → IsPrefix h h
begins_itself h = ([], append-nil h)

begins_more : (seen h : List Entry) (e : Entry) → IsPrefix seen h → IsPrefix seen (h ++ e ∷ [])
begins_more seen h e p =
    (p.0 ++ e ∷ [], sym (append_assoc seen p.0 (e ∷ [])) ∙ ap (λ (x : List Entry). x ++ e ∷ []) p.1)

-- a client's part of a history with one entry more: of its own, and of another's
own_more : (c : ℕ) (h : List Entry) (e : Entry) → e.client ≡ c → of_client c (h ++ e ∷ []) ≡ of_client c h ++ e ∷ []
own_more c h e is =
    filter-append (λ (x : Entry). x.client == c) h (e ∷ [])
    ∙ elim (eqb_tells e.client c) [
      | inl y ↦ ap (λ (b : Bool). of_client c h ++ (if b then e ∷ [] else [])) y.0
      | inr n ↦ absurd (n.1 is)
    ]

others_more : (c : ℕ) (h : List Entry) (e : Entry) → e.client ≢ c → of_client c (h ++ e ∷ []) ≡ of_client c h
others_more c h e is =
    filter-append (λ (x : Entry). x.client == c) h (e ∷ [])
    ∙ elim (eqb_tells e.client c) [
      | inl y ↦ absurd (is y.1)
      | inr n ↦ ap (λ (b : Bool). of_client c h ++ (if b then e ∷ [] else [])) n.0 ∙ append-nil (of_client c h)
    ]

-- nobody has done anything, and nobody looked
rests : (lines : List (List Line)) (c : ℕ) (p : Progress) →
    slice_get (map (λ ls. at_rest) lines) c ≡ Some p → p ≡ at_rest
rests [] c p at = absurd cc
rests (ls ∷ lines) zero p at = cc
rests (ls ∷ lines) (suc c) p at = rests lines c p at

module _ (g : Setting) (script : Script) where
  -- no client has done anything
  pub one_first : IsOneHistory g script (first_machine script)
  one_first = record {
    legal = tt;
    begins = λ c p seen at looked.
        elim (subst (λ (q : Progress). HasLookedAt q.flight seen) (rests script.lines c p at) looked) [ ];
    parts = λ c p lines at of.
        ap (λ (q : Progress). map (client_line c) (take q.done lines)) (sym (rests script.lines c p at));
  }

  -- a client came further with its line, and the history stayed
  pub one_moved : (m : Machine) (c : ℕ) (p : Progress) (f : Flight) →
      IsOneHistory g script m → slice_get m.clients c ≡ Some p →
      ((seen : List Entry) → HasLookedAt f seen → IsPrefix seen m.history) → IsOneHistory g script (with_flight m c p f)
  one_moved m c p f one at sees = record {
    legal = one.legal;
    begins = λ d q seen there looked. elim (set_cases m.clients c d (record p { flight = f }) q there) [
      | inl y ↦ sees seen (subst (λ (q : Progress). HasLookedAt q.flight seen) y.1 looked)
      | inr n ↦ one.begins d q seen n.1 looked
    ];
    parts = λ d q lines there of. elim (set_cases m.clients c d (record p { flight = f }) q there) [
      | inl y ↦
          let old : map line_of (of_client c m.history) ≡ map (client_line c) (take p.done lines) =
          one.parts c p lines at (subst (λ (d : ℕ). HasLines script d lines) y.0 of) in
          ap (λ (d : ℕ). map line_of (of_client d m.history)) y.0 ∙ old
          ∙ (λ i. map (client_line (sym y.0 i)) (take (sym y.1 i).done lines))
      | inr n ↦ one.parts d q lines n.1 of
    ];
  }

  -- a client's next line was answered
  pub one_answered : (m : Machine) (c : ℕ) (p : Progress) (l : Line) (new : Machine) → IsOneHistory g script m →
      HasNext script m c p l → IsAnswered g m c p l new → IsOneHistory g script new
  one_answered m c p l new one next answered =
      let e : Entry = record { client = c; line = l.line; command = l.command; reply = answered.reply } in
      let idle : Progress = record { done = p.done + 1; flight = Idle } in record {
        legal =
            subst (IsLegal g) (sym answered.history) (legal_snoc g first_state m.history e one.legal answered.replies);
        begins = λ d q seen there looked.
            subst (IsPrefix seen) (sym answered.history) (begins_more seen m.history e (
            elim (set_cases m.clients c d idle q
            (subst (λ (cs : List Progress). slice_get cs d ≡ Some q) answered.clients there)) [
              | inl y ↦ elim (subst (λ (q : Progress). HasLookedAt q.flight seen) y.1 looked) [ ]
              | inr n ↦ one.begins d q seen n.1 looked
            ]));
        parts = λ d q lines there of.
            ap (λ (h : List Entry). map line_of (of_client d h)) answered.history ∙
            elim (set_cases m.clients c d idle q
            (subst (λ (cs : List Progress). slice_get cs d ≡ Some q) answered.clients there)) [
              | inl y ↦
                  let mine : HasLines script c lines = subst (λ (d : ℕ). HasLines script d lines) y.0 of in
                  let lines-are : next.lines ≡ lines = same_Some next.lines lines (sym next.lines-are ∙ mine) in
                  let at : slice_get lines p.done ≡ Some l =
                  subst (λ (ls : List Line). slice_get ls p.done ≡ Some l) lines-are next.next in
                  let old : map line_of (of_client c m.history) ≡ map (client_line c) (take p.done lines) =
                  one.parts c p lines next.progress mine in
                  ap (map line_of) (ap (λ (d : ℕ). of_client d (m.history ++ e ∷ [])) y.0 ∙ own_more c m.history e refl)
                  ∙ (map-append line_of (of_client c m.history) (e ∷ [])
                  ∙ (ap (λ (ls : List ClientLine). ls ++ client_line c l ∷ []) old
                  ∙ (sym (map-append (client_line c) (take p.done lines) (l ∷ []))
                  ∙ (ap (map (client_line c)) (sym (take_next lines p.done l at))
                  ∙ (λ i. map (client_line (sym y.0 i)) (take (sym y.1 i).done lines))))))
              | inr n ↦
                  ap (map line_of) (others_more d m.history e (λ is. n.0 (sym is))) ∙ one.parts d q lines n.1 of
            ];
      }

  -- each event keeps it
  pub one_happens : (m : Machine) (event : Event) (new : Machine) →
      IsOneHistory g script m → Happens g script m event new →
      IsOneHistory g script new
  one_happens m (Look c) new one (p, l, next, idle, searchable, is) =
      subst (IsOneHistory g script) (sym is) (one_moved m c p (Looked m.history) one next.progress
      (λ seen looked. subst (λ (h : List Entry). IsPrefix h m.history) looked (begins_itself m.history)))
  one_happens m (Search c) new one (p, l, next, seen, flight, verdict, finds, is) =
      subst (IsOneHistory g script) (sym is) (one_moved m c p (Searched seen verdict) one next.progress
      (λ other looked. one.begins c p other next.progress
      (subst (λ (f : Flight). HasLookedAt f other) (sym flight) looked)))
  one_happens m (Commit c) new one (p, l, next, seen, verdict, flight, inl (cause, overtaken, is)) =
      subst (IsOneHistory g script) (sym is) (one_moved m c p Idle one next.progress (λ other looked. elim looked [ ]))
  one_happens m (Commit c) new one (p, l, next, seen, verdict, flight, inr (stands, answered)) =
      one_answered m c p l new one next answered
  one_happens m (Decide c) new one (p, l, next, idle, answered) = one_answered m c p l new one next answered

  one_takes : (m : Machine) (event : Event) (new : Machine) → IsOneHistory g script m → Takes g script m event new →
      IsOneHistory g script new
  one_takes m event new one (inl happens) = one_happens m event new one happens.1
  one_takes m event new one (inr closed) = subst (IsOneHistory g script) (sym closed.1) one

  pub one_runs : (events : List Event) (m new : Machine) → IsOneHistory g script m → Runs g script m events new →
      IsOneHistory g script new
  one_runs [] m new one is = subst (IsOneHistory g script) (sym is) one
  one_runs (event ∷ events) m new one (mid, takes, runs) =
      one_runs events mid new (one_takes m event mid one takes) runs
