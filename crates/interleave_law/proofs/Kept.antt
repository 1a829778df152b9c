-- A machine that is kept, and the machine of the definitions.
use Rattle.std.proofs.Common.{◌≡◌, ℕ, zero, suc, ◌+◌, ◌<◌, List, [], ◌∷◌, length, map, slice_get, slice_set, Some, inl}
use Rattle.std.proofs.Common.{inr, refl, sym, ◌∙◌, ap, subst, arith}
use Rattle.std.proofs.lemmas.Option.{slice_get-map, slice_get_within, get_or_from_slice_get, same_Some}
use Rattle.std.specs.Option.{option_map}
use Rattle.std.proofs.lemmas.List.{map-set, length-set}
use Rattle.flux_defs.specs.declared.events.Event.{Event}
use Rattle.flux_defs.specs.declared.events.Event.TheVariants.{Look, Search, Commit, Decide}
use Rattle.flux_defs.specs.declared.journal.Command.{Command}
use Rattle.flux_defs.specs.declared.journal.Entry.{Entry}
use Rattle.flux_defs.specs.declared.journal.Line.{Line}
use Rattle.flux_defs.specs.declared.journal.Script.{Script}
use Rattle.flux_defs.specs.Scripts.{HasLines}
use Rattle.flux_defs.specs.Interleaving as over
use Rattle.flux_defs.specs.Verdicts.{Finds, IsSearchable}
use Rattle.flux_defs.specs.Scheduler.{Setting, first_state, IsProper}
use Rattle.flux_defs.specs.Histories.{state_after}
use Rattle.flux_defs.specs.Overtaken.{Candidate, Cause, IsOvertaken}
use Rattle.flux_defs.specs.Interleaving.{HasNext, IsOpen, IsAnswered, IsOneHistory, HasLookedAt}
use Rattle.flux_defs.specs.Interleaving.{candidate_on, with_flight, first_machine}
use Rattle.flux_defs.specs.declared.verdicts.Verdict.{Verdict}
use Rattle.std.specs.Prelude.{true, false, All, IsTrue}
use Rattle.std.specs.List.{AllByRecursion}
use Rattle.list_laws.proofs.Lists.{all_at, set_twice}
use Rattle.interleave_law.specs.declared.flights.Progress.{Progress}
use Rattle.sched_core.specs.Courses.{Course}
use Rattle.sched_core.specs.Answered.{IsDecided}
use Rattle.sched_core.specs.Candidates.{IsFor}
use Rattle.sched_core.specs.Searched.{Searched, IsSearched}
use Rattle.interleave_law.specs.declared.flights.Flight.{Flight}
use Rattle.interleave_law.specs.declared.flights.Flight.TheVariants as flight
use Rattle.interleave_law.specs.Machines.{Interleaved, progress_of, idle_progress, flight_of, machine_of, seen_as}
use Rattle.interleave_law.specs.Machines.{HasProperLines, IsNext, IsFlightFor, IsRunning, IsStepOf}
use Rattle.interleave_law.proofs.OneHistory.{set_cases, one_first, one_happens}

-- of a list of kept progress, what stands at a place of the mapped one
mapped_at : (xs : List Progress) (c : ℕ) (q : over.Progress) → slice_get (map progress_of xs) c ≡ Some q →
    (p : Progress) × (slice_get xs c ≡ Some p) × (q ≡ progress_of p)
mapped_at [] c q at = absurd cc
mapped_at (x ∷ xs) zero q at = (x, refl, cc)
mapped_at (x ∷ xs) (suc c) q at = mapped_at xs c q at

module _ (h : List Entry) (script : Script) (clients : List Progress) (c : ℕ) where
  pub has_next : (p : Progress) (l : Line) →
      IsNext script clients c p l → HasNext script (machine_of h clients) c (progress_of p) l
  has_next p l n = record {
    progress = slice_get-map progress_of clients c ∙ ap (option_map progress_of) n.progress;
    lines = n.lines;
    lines-are = n.lines-are;
    next = n.next;
  }

  pub is_next : (q : over.Progress) (l : Line) → HasNext script (machine_of h clients) c q l →
      (p : Progress) × IsNext script clients c p l × (q ≡ progress_of p)
  is_next q l n =
      let m = mapped_at clients c q n.progress in (
        m.0,
        record {
          progress = m.1;
          lines = n.lines;
          lines-are = n.lines-are;
          next = subst (λ (q : over.Progress). slice_get n.lines q.done ≡ Some l) m.2 n.next;
        },
        m.2,
      )

  -- a client has one next line at most
  pub next_same : (p p' : Progress) (l l' : Line) →
      IsNext script clients c p l → IsNext script clients c p' l' → (p' ≡ p) × (l' ≡ l)
  next_same p p' l l' n n' =
      let same : p' ≡ p = same_Some p' p (sym n'.progress ∙ n.progress) in
      let lines : n'.lines ≡ n.lines = same_Some n'.lines n.lines (sym n'.lines-are ∙ n.lines-are) in
      let here : slice_get n.lines p.done ≡ Some l' =
      subst (λ (ls : List Line). slice_get ls p.done ≡ Some l') lines
      (subst (λ (x : Progress). slice_get n'.lines x.done ≡ Some l') same n'.next) in
      (same, same_Some l' l (sym here ∙ n.next))

-- an item is exchanged and then put back
pub put_back : (xs : List Progress) (c : ℕ) (a y : Progress) →
    slice_get xs c ≡ Some y → slice_set (slice_set xs c a) c y ≡ xs
put_back [] c a y at = absurd cc
put_back (x ∷ xs) zero a y at = ap (λ (z : Progress). z ∷ xs) (sym (same_Some x y at))
put_back (x ∷ xs) (suc c) a y at = ap (λ (zs : List Progress). x ∷ zs) (put_back xs c a y at)

-- the same of lists that are told by equations
pub put_again : (xs left put : List Progress) (c : ℕ) (a y z : Progress) →
    left ≡ slice_set xs c a → put ≡ slice_set left c z → z ≡ y →
    put ≡ slice_set xs c y
put_again xs left put c a y z is-left is-put same =
    is-put ∙ (ap (λ (zs : List Progress). slice_set zs c z) is-left ∙ (set_twice xs c a z ∙ ap (slice_set xs c) same))

pub restored : (xs left put : List Progress) (c : ℕ) (a y : Progress) →
    slice_get xs c ≡ Some y → left ≡ slice_set xs c a →
    put ≡ slice_set left c y → put ≡ xs
restored xs left put c a y at is-left is-put =
    is-put ∙ (ap (λ (zs : List Progress). slice_set zs c y) is-left ∙ put_back xs c a y at)

pub within_left : (xs left : List Progress) (c : ℕ) (a : Progress) →
    left ≡ slice_set xs c a → c < length xs → c < length left
within_left xs left c a is lt = omega (arith, ap length is ∙ length-set xs c a)

-- clients that have done nothing
all_rest : (lines : List (List Line)) (clients : List Progress) → length clients ≡ length lines →
    All (λ (p : Progress). p ≡ idle_progress 0) clients → map progress_of clients ≡ map (λ ls. over.at_rest) lines
all_rest [] [] same all = refl
all_rest [] (p ∷ clients) same all = absurd (omega arith)
all_rest (ls ∷ lines) [] same all = absurd (omega arith)
all_rest (ls ∷ lines) (p ∷ clients) same all =
    let rest = all_rest lines clients (omega arith) (λ k d lt. all (suc k) d (omega arith)) in
    let first : p ≡ idle_progress 0 = all 0 p (omega arith) in
    λ i. progress_of (first i) ∷ rest i

pub machine_first : (script : Script) (clients : List Progress) → length clients ≡ length script.lines →
    All (λ (p : Progress). p ≡ idle_progress 0) clients → machine_of [] clients ≡ first_machine script
machine_first script clients same all = λ i. record { history = []; clients = all_rest script.lines clients same all i }

idle_at : (clients : List Progress) (c : ℕ) (p : Progress) → All (λ (p : Progress). p ≡ idle_progress 0) clients →
    slice_get clients c ≡ Some p → p ≡ idle_progress 0
idle_at clients c p all at =
    sym (get_or_from_slice_get clients c p p at) ∙ all c p (slice_get_within clients c p at)

pub running_first : (core : Course) (script : Script) (clients : List Progress) → core.journal ≡ [] →
    HasProperLines core.setting.graph.vertices script → length clients ≡ length script.lines →
    All (λ (p : Progress). p ≡ idle_progress 0) clients → IsRunning core script clients
running_first core script clients empty proper same all = record {
  proper = proper;
  flights =
      λ c p l n. subst (λ (q : Progress). IsFlightFor core l q.flight) (sym (idle_at clients c p all n.progress)) tt;
  one = subst (IsOneHistory core.setting script)
      (sym (ap (λ (h : List Entry). machine_of h clients) empty ∙ machine_first script clients same all))
      (one_first core.setting script);
}

flight_same : (core core' : Course) (l : Line) (f : Flight) →
    core'.setting ≡ core.setting → IsFlightFor core l f → IsFlightFor core' l f
flight_same core core' l flight.Idle same h = tt
flight_same core core' l (flight.Looked snap) same h = (h.0 ∙ sym same, h.1)
flight_same core core' l (flight.Searched c) same h = (h.0 ∙ sym same, h.1)

-- an event that isn't open changes nothing, seen as the machine is
pub stays : (old now : Interleaved) (event : Event) →
    old ≡ now → (IsOpen old.script old.machine event → ⊥) → IsStepOf now event false now
stays old now event is closed = subst (λ (o : Interleaved). IsStepOf o event false o) is (closed, refl)

-- a flight that is none of a kind
pub not_looked : (f : Flight) →
    ((snap : Course) → f ≡ flight.Looked snap → ⊥) → (seen : List Entry) → flight_of f ≡ over.Looked seen → ⊥
not_looked flight.Idle never seen e = absurd cc
not_looked (flight.Looked snap) never seen e = never snap refl
not_looked (flight.Searched c) never seen e = absurd cc

pub not_searched : (f : Flight) → ((c : Searched) → f ≡ flight.Searched c → ⊥) → (seen : List Entry) (v : Verdict) →
    flight_of f ≡ over.Searched seen v → ⊥
not_searched flight.Idle never seen v e = absurd cc
not_searched (flight.Looked snap) never seen v e = absurd cc
not_searched (flight.Searched c) never seen v e = never c refl

-- a test that failed
pub untrue : IsTrue false → ⊥
untrue e = absurd cc

-- what came of an open event, seen as the machine was, with the clients that were put
pub happened : (old now : Interleaved) (event : Event) (core : Course) (script : Script) (put clients : List Progress) →
    old ≡ now →
    put ≡ clients → IsStepOf old event true (seen_as core script clients) →
    IsStepOf now event true (seen_as core script put)
happened old now event core script put clients is same step =
    subst (λ (o : Interleaved). IsStepOf o event true (seen_as core script put)) is
    (subst (λ (cs : List Progress). IsStepOf old event true (seen_as core script cs)) (sym same) step)

module _ (core : Course) (script : Script) (clients : List Progress) (c : ℕ) where
  abbrev pub old : Interleaved
  old = seen_as core script clients

  -- the client has no next line: nothing is open to it
  module _ (none : (p : Progress) (l : Line) → IsNext script clients c p l → ⊥) where
    no_next : (q : over.Progress) (l : Line) → HasNext script (machine_of core.journal clients) c q l → ⊥
    no_next q l n = let m = is_next core.journal script clients c q l n in none m.0 l m.1

    pub no_look : IsOpen script (machine_of core.journal clients) (Look c) → ⊥
    no_look (q, l, n, idle, searchable) = no_next q l n

    pub no_search : IsOpen script (machine_of core.journal clients) (Search c) → ⊥
    no_search (q, l, n, seen, at) = no_next q l n

    pub no_commit : IsOpen script (machine_of core.journal clients) (Commit c) → ⊥
    no_commit (q, l, n, seen, v, at) = no_next q l n

    pub no_decide : IsOpen script (machine_of core.journal clients) (Decide c) → ⊥
    no_decide (q, l, n, h) = no_next q l n

  module _ (p : Progress) (l : Line) (n : IsNext script clients c p l) where
    here : (q : over.Progress) (k : Line) →
        HasNext script (machine_of core.journal clients) c q k → (q ≡ progress_of p) × (k ≡ l)
    here q k h =
        let m = is_next core.journal script clients c q k h in
        let same = next_same core.journal script clients c p m.0 l k n m.1 in
        (m.2 ∙ ap progress_of same.0, same.1)

    there : HasNext script (machine_of core.journal clients) c (progress_of p) l
    there = has_next core.journal script clients c p l n

    -- the same of what was taken out of its place
    pub next_taken : (taken : Progress) → slice_get clients c ≡ Some taken → IsNext script clients c taken l
    next_taken taken at =
        subst (λ (q : Progress). IsNext script clients c q l) (same_Some p taken (sym n.progress ∙ at)) n

    pub within : c < length clients
    within = slice_get_within clients c p n.progress

    -- it has come too far, or not far enough
    pub closed_look : (flight_of p.flight ≡ over.Idle → IsSearchable l.command → ⊥) →
        IsOpen script (machine_of core.journal clients) (Look c) → ⊥
    closed_look never (q, k, h, idle, searchable) =
        let same = here q k h in
        never (ap (λ (x : over.Progress). x.flight) (sym same.0) ∙ idle)
        (subst (λ (x : Line). IsSearchable x.command) same.1 searchable)

    pub closed_decide : (flight_of p.flight ≡ over.Idle → ⊥) →
        IsOpen script (machine_of core.journal clients) (Decide c) → ⊥
    closed_decide never (q, k, h, idle) = never (ap (λ (x : over.Progress). x.flight) (sym (here q k h).0) ∙ idle)

    pub closed_search : ((seen : List Entry) → flight_of p.flight ≡ over.Looked seen → ⊥) →
        IsOpen script (machine_of core.journal clients) (Search c) → ⊥
    closed_search never (q, k, h, seen, flight) =
        never seen (ap (λ (x : over.Progress). x.flight) (sym (here q k h).0) ∙ flight)

    pub closed_commit : ((seen : List Entry) (v : Verdict) → flight_of p.flight ≡ over.Searched seen v → ⊥) →
        IsOpen script (machine_of core.journal clients) (Commit c) → ⊥
    closed_commit never (q, k, h, seen, v, flight) =
        never seen v (ap (λ (x : over.Progress). x.flight) (sym (here q k h).0) ∙ flight)

    -- the machine in which the client has come as far as x
    machine_set : (h : List Entry) (x : Progress) → machine_of h (slice_set clients c x)
        ≡ record { history = h; clients = slice_set (map progress_of clients) c (progress_of x) }
    machine_set h x = λ i. record { history = h; clients = map-set progress_of clients c x i }

    moved : (f : Flight) → machine_of core.journal (slice_set clients c (record { done = p.done; flight = f }))
        ≡ with_flight (machine_of core.journal clients) c (progress_of p) (flight_of f)
    moved f = machine_set core.journal (record { done = p.done; flight = f })

    answered : (core' : Course) (command : Command) → command ≡ l.command → IsDecided core core' c l.line command →
        IsAnswered core.setting (machine_of core.journal clients) c (progress_of p) l
        (machine_of core'.journal (slice_set clients c (idle_progress (p.done + 1))))
    answered core' command is decided =
        let d = subst (λ (k : Command). IsDecided core core' c l.line k) is decided in record {
          reply = d.answer;
          replies = d.replies;
          history = d.journal;
          clients = map-set progress_of clients c (idle_progress (p.done + 1));
        }

    module _ (run : IsRunning core script clients) where
      -- after an open event the machine goes on
      flights_after : (core' : Course) (x : Progress) → core'.setting ≡ core.setting →
          ((k : Line) (lines : List Line) →
          HasLines script c lines → slice_get lines x.done ≡ Some k → IsFlightFor core' k x.flight) →
          (d : ℕ) (q : Progress) (k : Line) → IsNext script (slice_set clients c x) d q k → IsFlightFor core' k q.flight
      flights_after core' x same own d q k m = elim (set_cases clients c d x q m.progress) [
        | inl y ↦ subst (λ (z : Progress). IsFlightFor core' k z.flight) (sym y.1)
            (own k m.lines (subst (λ (e : ℕ). HasLines script e m.lines) y.0 m.lines-are)
            (subst (λ (z : Progress). slice_get m.lines z.done ≡ Some k) y.1 m.next))
        | inr o ↦ flight_same core core' k q.flight same
            (run.flights d q k (record { progress = o.1; lines = m.lines; lines-are = m.lines-are; next = m.next }))
      ]

      pub goes_on : (event : Event) (core' : Course) (x : Progress) →
          IsStepOf old event true (seen_as core' script (slice_set clients c x)) →
          ((k : Line) (lines : List Line) →
          HasLines script c lines → slice_get lines x.done ≡ Some k → IsFlightFor core' k x.flight) →
          IsRunning core' script (slice_set clients c x)
      goes_on event core' x step own = record {
        proper = subst (λ (g : Setting). HasProperLines g.graph.vertices script) (sym step.2) run.proper;
        flights = flights_after core' x step.2 own;
        one = subst
            (λ (g : Setting). IsOneHistory g script (machine_of core'.journal (slice_set clients c x))) (sym step.2)
            (one_happens core.setting script (machine_of core.journal clients) event
            (machine_of core'.journal (slice_set clients c x)) run.one step.1);
      }

      -- the next line once more, where the client has done no line more
      same_line : (k : Line) (lines : List Line) → HasLines script c lines → slice_get lines p.done ≡ Some k → k ≡ l
      same_line k lines of at =
          (next_same core.journal script clients c p p l k n
          (record { progress = n.progress; lines = lines; lines-are = of; next = at })).1

      pub proper_next : IsProper core.setting.graph.vertices l.command
      proper_next =
          all_at (λ (k : Line). IsProper core.setting.graph.vertices k.command) n.lines p.done l
          (all_at (λ (lines : List Line).
          AllByRecursion (λ (k : Line). IsProper core.setting.graph.vertices k.command) lines)
          script.lines c n.lines run.proper n.lines-are) n.next

      pub looks : (snap : Course) → snap ≡ core → flight_of p.flight ≡ over.Idle → IsSearchable l.command →
          IsStepOf old (Look c) true
          (seen_as core script (slice_set clients c (record { done = p.done; flight = flight.Looked snap })))
      looks snap same idle searchable = (
        (progress_of p, l, there, idle, searchable),
        (
          progress_of p,
          l,
          there,
          idle,
          searchable,
          moved (flight.Looked snap) ∙ ap (λ (s : Course).
              with_flight (machine_of core.journal clients) c (progress_of p) (over.Looked s.journal)) same,
        ),
        refl,
        refl,
      )

      pub looked : (snap : Course) →
          snap ≡ core → IsSearchable l.command → (k : Line) (lines : List Line) → HasLines script c lines →
          slice_get lines p.done ≡ Some k → IsFlightFor core k (flight.Looked snap)
      looked snap same searchable k lines of at = (
        ap (λ (s : Course). s.setting) same,
        subst (λ (x : Line). IsSearchable x.command) (sym (same_line k lines of at)) searchable,
      )

      pub decides : (core' : Course) (command : Command) → command ≡ l.command → flight_of p.flight ≡ over.Idle →
          IsDecided core core' c l.line command →
          IsStepOf old (Decide c) true (seen_as core' script (slice_set clients c (idle_progress (p.done + 1))))
      decides core' command is idle decided = (
        (progress_of p, l, there, idle),
        (progress_of p, l, there, idle, answered core' command is decided),
        decided.setting,
        refl,
      )

      module _ (snap : Course) (at : p.flight ≡ flight.Looked snap) where
        flight_looked : flight_of p.flight ≡ over.Looked snap.journal
        flight_looked = ap flight_of at

        pub looked_before : (snap.setting ≡ core.setting) × IsSearchable l.command
        looked_before = subst (IsFlightFor core l) at (run.flights c p l n)

        pub searches : (found : Searched) (command : Command) → command ≡ l.command → found.snap ≡ snap →
            IsSearched command found.snap found.place found.verdict →
            IsStepOf old (Search c) true
            (seen_as core script (slice_set clients c (record { done = p.done; flight = flight.Searched found })))
        searches found command is of searched = (
          (progress_of p, l, there, snap.journal, flight_looked),
          (
            progress_of p,
            l,
            there,
            snap.journal,
            flight_looked,
            found.verdict,
            subst (λ (k : Command). Finds core.setting (state_after first_state snap.journal) k found.verdict) is
                (subst (λ (g : Setting). Finds g (state_after first_state snap.journal) command found.verdict)
                looked_before.0
                (subst (λ (s : Course). Finds s.setting (state_after first_state s.journal) command found.verdict)
                of searched.finds)),
            moved (flight.Searched found)
                ∙ ap (λ (s : Course). with_flight
                (machine_of core.journal clients) c (progress_of p) (over.Searched s.journal found.verdict)) of,
          ),
          refl,
          refl,
        )

        pub searched_for : (found : Searched) →
            found.command ≡ l.command → found.snap ≡ snap → (k : Line) (lines : List Line) →
            HasLines script c lines → slice_get lines p.done ≡ Some k → IsFlightFor core k (flight.Searched found)
        searched_for found is of k lines has next = (
          ap (λ (s : Course). s.setting) of
              ∙ looked_before.0,
          is ∙ ap (λ (x : Line). x.command) (sym (same_line k lines has next)),
        )

      module _ (found : Searched) (at : p.flight ≡ flight.Searched found) where
        flight_searched : flight_of p.flight ≡ over.Searched found.snap.journal found.verdict
        flight_searched = ap flight_of at

        searched_before : (found.snap.setting ≡ core.setting) × (found.command ≡ l.command)
        searched_before = subst (IsFlightFor core l) at (run.flights c p l n)

        -- the candidate may be committed: its snapshot has the scheduler's setting and begins its journal
        pub is_for : IsFor core found
        is_for =
            let begins = run.one.begins c (progress_of p) found.snap.journal there.progress
            (subst (λ (f : over.Flight). HasLookedAt f found.snap.journal) (sym flight_searched) refl) in
            record { setting = searched_before.0; later = begins.0; begins = sym begins.1 }

        same_candidate : found.place ≡ length found.snap.journal →
            record { command = found.command; place = found.place; verdict = found.verdict }
            ≡ candidate_on found.snap.journal l found.verdict
        same_candidate place = λ i. record { command = searched_before.1 i; place = place i; verdict = found.verdict }

        pub overtaken : (core' : Course) (why : Cause) → found.place ≡ length found.snap.journal → core' ≡ core →
            IsOvertaken core.setting core.journal
            (record { command = found.command; place = found.place; verdict = found.verdict }) why →
            IsStepOf old (Commit c) true (seen_as core' script (slice_set clients c (idle_progress p.done)))
        overtaken core' why place same overtakes = (
          (progress_of p, l, there, found.snap.journal, found.verdict, flight_searched),
          (
            progress_of p,
            l,
            there,
            found.snap.journal,
            found.verdict,
            flight_searched,
            inl (
              why,
              subst (λ (k : Candidate). IsOvertaken core.setting core.journal k why) (same_candidate place) overtakes,
              ap (λ (s : Course). machine_of s.journal (slice_set clients c (idle_progress p.done))) same
                  ∙ moved flight.Idle,
            ),
          ),
          ap (λ (s : Course). s.setting) same,
          refl,
        )

        pub commits : (core' : Course) → found.place ≡ length found.snap.journal →
            ((why : Cause) → IsOvertaken core.setting core.journal
            (record { command = found.command; place = found.place; verdict = found.verdict }) why → ⊥) →
            IsDecided core core' c l.line found.command →
            IsStepOf old (Commit c) true (seen_as core' script (slice_set clients c (idle_progress (p.done + 1))))
        commits core' place stands decided = (
          (progress_of p, l, there, found.snap.journal, found.verdict, flight_searched),
          (
            progress_of p,
            l,
            there,
            found.snap.journal,
            found.verdict,
            flight_searched,
            inr (
              (λ why overtakes. stands why (subst (λ (k : Candidate). IsOvertaken core.setting core.journal k why)
                  (sym (same_candidate place)) overtakes)),
              answered core' found.command searched_before.1 decided,
            ),
          ),
          decided.setting,
          refl,
        )
