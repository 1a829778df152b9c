-- From each client's part of a history to the order that it plays.
use Rattle.std.proofs.Common.{◌≡◌, ℕ, zero, suc, ◌<◌, ◌==◌, ◌||◌, Bool, true, false, cond, List, [], ◌∷◌, length, map}
use Rattle.std.proofs.Common.{filter, get_or, slice_get, Some, All, Contains, refl, sym, ap, ◌∙◌, arith, eq-eqb, ne_eqb}
use Rattle.std.specs.List.{AllByRecursion}
use Rattle.std.proofs.lemmas.List.Elements.{All-from_recursion}
use Rattle.std.proofs.lemmas.Option.{slice_get-get_or}
use Rattle.std.proofs.Math.Bool.{or-true}
use mathlib.Core.Logic.{dite}
use native.Mathlib.Decide.{ℕ_discrete}
use Rattle.flux_defs.specs.declared.journal.ClientLine.{ClientLine}
use Rattle.flux_defs.specs.declared.journal.Entry.{Entry}
use Rattle.flux_defs.specs.declared.journal.Line.{Line}
use Rattle.flux_defs.specs.declared.journal.Script.{Script}
use Rattle.flux_defs.specs.Histories.{of_client}
use Rattle.flux_defs.specs.Scripts.{HasLines, has_number, line_of, client_line, Interleaves, Answers}
use Rattle.one_history.specs.Together.{NumbersApart, order_of}
use Rattle.one_history.proofs.Parts.{part_yes, part_no}
use Rattle.list_laws.proofs.Lists.{contains_more, contains_mapped, all_from}

-- ---- lists

all_from_places : {X : Type 0} (P : X → Type 0) (xs : List X) →
    ((k : ℕ) (x : X) → slice_get xs k ≡ Some x → P x) → All P xs
all_from_places P xs f k d l = f k (get_or xs k d) (slice_get-get_or xs k d l)

has_contained : (ls : List Line) (l : Line) (k : ℕ) → k < length ls → get_or ls k l ≡ l → has_number ls l.line ≡ true
has_contained [] l k lt e = absurd (omega arith)
has_contained (x ∷ ls) l zero lt e =
    let same : x.line ≡ l.line = ap (λ (y : Line). y.line) e in
    ap (λ b. b || has_number ls l.line) (eq-eqb x.line l.line same)
has_contained (x ∷ ls) l (suc k) lt e =
    ap (λ b. (x.line == l.line) || b) (has_contained ls l k (omega arith) e) ∙ or-true (x.line == l.line)

-- ---- a client's entries

-- the line that an entry answers, without its client
abbrev pub asked : Entry → Line
asked e = record { line = e.line; command = e.command }

first_line : (c : ℕ) (x e : Entry) (es : List Entry) (ls : List Line) → x ≡ e
    → line_of x ∷ map line_of es ≡ map (client_line c) ls → Contains ls (asked e)
first_line c x e es [] same parts = absurd cc
first_line c x e es (l ∷ ls) same parts =
    let is : line_of x ≡ client_line c l = cc in
    let here : l ≡ asked e = λ i. record {
      line = (sym (ap (λ (y : ClientLine). y.line) is) ∙ ap (λ (y : Entry). y.line) same) i;
      command = (sym (ap (λ (y : ClientLine). y.command) is) ∙ ap (λ (y : Entry). y.command) same) i;
    } in (0, omega arith, here)

-- an entry of the client answers one of its lines
its_line : (c : ℕ) (h : List Entry) (ls : List Line) (p : ℕ) (e : Entry) →
    map line_of (of_client c h) ≡ map (client_line c) ls
    → slice_get h p ≡ Some e → e.client ≡ c → Contains ls (asked e)
its_line c [] ls p e parts at own = absurd cc
its_line c (x ∷ h) ls zero e parts at own =
    let same : x ≡ e = cc in
    let mine : x.client ≡ c = ap (λ (y : Entry). y.client) same ∙ own in
    first_line c x e (of_client c h) ls same (sym (ap (map line_of) (part_yes c x h mine)) ∙ parts)
its_line c (x ∷ h) [] (suc p) e parts at own = dite (ℕ_discrete x.client c)
    (λ mine.
    let none : line_of x ∷ map line_of (of_client c h) ≡ [] =
    sym (ap (map line_of) (part_yes c x h mine)) ∙ parts in absurd cc)
    (λ other. its_line c h [] p e (sym (ap (map line_of) (part_no c x h other)) ∙ parts) at own)
its_line c (x ∷ h) (l ∷ ls) (suc p) e parts at own = dite (ℕ_discrete x.client c)
    (λ mine.
    let all : line_of x ∷ map line_of (of_client c h) ≡ client_line c l ∷ map (client_line c) ls
    = sym (ap (map line_of) (part_yes c x h mine)) ∙ parts in
    let rest : map line_of (of_client c h) ≡ map (client_line c) ls = cc in
    contains_more l ls (asked e) (its_line c h ls p e rest at own))
    (λ other. its_line c h (l ∷ ls) p e (sym (ap (map line_of) (part_no c x h other)) ∙ parts) at own)

-- a test of line numbers that tells a client's entries
told_apart : (c : ℕ) (test : ℕ → Bool) (h : List Entry) → AllByRecursion (λ e. test e.line ≡ (e.client == c)) h
    → filter test (order_of h) ≡ order_of (of_client c h)
told_apart c test [] tells = refl
told_apart c test (e ∷ h) tells =
    ap (λ b. cond b (e.line ∷ filter test (order_of h)) (filter test (order_of h))) tells.0
    ∙ by_test (e.client == c) (told_apart c test h tells.1)
  where
    by_test : (b : Bool) → filter test (order_of h) ≡ order_of (of_client c h)
        → cond b (e.line ∷ filter test (order_of h)) (filter test (order_of h))
        ≡ order_of (cond b (e ∷ of_client c h) (of_client c h))
    by_test true rest = ap (λ ns. e.line ∷ ns) rest
    by_test false rest = rest

-- the numbers of lines that are answered
numbers_of : (c : ℕ) (es : List Entry) (ls : List Line) →
    map line_of es ≡ map (client_line c) ls → order_of es ≡ map (λ l. l.line) ls
numbers_of c [] [] parts = refl
numbers_of c [] (l ∷ ls) parts = absurd cc
numbers_of c (e ∷ es) [] parts = absurd cc
numbers_of c (e ∷ es) (l ∷ ls) parts =
    let first : line_of e ≡ client_line c l = cc in
    let number : e.line ≡ l.line = ap (λ (y : ClientLine). y.line) first in
    let rest : map line_of es ≡ map (client_line c) ls = cc in
    let r = numbers_of c es ls rest in
    cc

-- all entries are of the one client
all_of_one : (h : List Entry) → AllByRecursion (λ e. e.client ≡ 0) h → of_client 0 h ≡ h
all_of_one [] all = refl
all_of_one (e ∷ h) all =
    ap (λ b. cond b (e ∷ of_client 0 h) (of_client 0 h)) (eq-eqb e.client 0 all.0)
    ∙ ap (λ es. e ∷ es) (all_of_one h all.1)

-- ---- the order

module _ (script : Script) (apart : NumbersApart script) (h : List Entry)
    (parts : (c : ℕ) (ls : List Line) → HasLines script c ls → map line_of (of_client c h) ≡ map (client_line c) ls)
    (known : (p : ℕ) (e : Entry) → slice_get h p ≡ Some e → e.client < length script.lines) where
  -- an entry answers a line of its client
  pub answers_at : (p : ℕ) (e : Entry) → slice_get h p ≡ Some e → Answers script e
  answers_at p e at =
      let ls = get_or script.lines e.client [] in
      let own : HasLines script e.client ls = slice_get-get_or script.lines e.client [] (known p e at) in
      (ls, own, its_line e.client h ls p e (parts e.client ls own) at refl)

  -- the numbers of a client's lines tell its entries
  tells : (c : ℕ) (ls : List Line) → HasLines script c ls → (p : ℕ) (e : Entry) → slice_get h p ≡ Some e
      → has_number ls e.line ≡ (e.client == c)
  tells c ls has p e at =
      let a = answers_at p e at in
      let there = has_contained a.0 (asked e) a.2.0 a.2.1 a.2.2 in
      dite (ℕ_discrete e.client c)
      (λ own.
      let line = its_line c h ls p e (parts c ls has) at own in
      has_contained ls (asked e) line.0 line.1 line.2 ∙ sym (eq-eqb e.client c own))
      (λ other. neither (has_number ls e.line) refl (λ yes. other (apart e.client c a.0 ls e.line a.1 has there yes))
      ∙ sym (ne_eqb e.client c other))
    where
      neither : (b : Bool) → has_number ls e.line ≡ b → (has_number ls e.line ≡ true → ⊥) → has_number ls e.line ≡ false
      neither true is never = absurd (never is)
      neither false is never = is

  pub all_answer : All (Answers script) h
  all_answer = all_from_places (Answers script) h answers_at

  pub interleaves : Interleaves script (order_of h)
  interleaves = record {
    known = All-from_recursion _ (order_of h) (numbered h (λ p e at. answers_at p e at));
    each = λ c ls has.
        told_apart c (has_number ls) h (all_from (λ e. has_number ls e.line ≡ (e.client == c)) h (tells c ls has))
        ∙ numbers_of c (of_client c h) ls (parts c ls has);
  }
    where
      numbered : (es : List Entry) → ((p : ℕ) (e : Entry) → slice_get es p ≡ Some e → Answers script e)
          → AllByRecursion
          (λ n. (c : ℕ) × (ls : List Line) × HasLines script c ls × Contains (map (λ l. l.line) ls) n) (order_of es)
      numbered [] f = tt
      numbered (e ∷ es) f =
          let a = f 0 e refl in (
            (e.client, a.0, a.1, contains_mapped (λ (l : Line). l.line) a.0 (asked e) a.2.0 a.2.1 a.2.2),
            numbered es (λ p. f (suc p)),
          )

  -- one client alone: its lines in order
  pub alone : (ls : List Line) → script.lines ≡ ls ∷ [] → map line_of h ≡ map (client_line 0) ls
  alone ls one =
      let first : HasLines script 0 ls = ap (λ lss. slice_get lss 0) one in
      let few : (p : ℕ) (e : Entry) → slice_get h p ≡ Some e → e.client ≡ 0 = λ p e at.
      let k = known p e at in let n = ap length one in omega arith in
      ap (map line_of) (sym (all_of_one h (all_from (λ e. e.client ≡ 0) h few))) ∙ parts 0 ls first
