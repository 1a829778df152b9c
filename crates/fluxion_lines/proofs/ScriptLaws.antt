-- The lines of an input in their order, and those of each client.
use Rattle.std.proofs.Common.{◌≡◌, ◌≢◌, ◌-◌, unwrap_or, slice_set, append-nil, ℕ, zero, suc, ◌+◌, ◌<◌, ◌≤◌, ◌==◌, ◌||◌}
use Rattle.std.proofs.Common.{Bool, true, false, cond, if◌then◌else◌, List, [], ◌∷◌, ◌++◌, map, filter, length}
use Rattle.std.proofs.Common.{length-append, Contains, Option, Some, slice_get, option_map, inl, inr, refl}
use Rattle.std.proofs.Common.{sym, ◌∙◌, ap, subst, arith}
use Rattle.std.specs.List.{AllByRecursion, list_any, range_with_len}
use Rattle.std.proofs.lemmas.Bool.{ne_eqb, eq-eqb}
use Rattle.std.proofs.lemmas.List.FromFn.{length-range_with_len, length-map-range_with_len, get_or-range_with_len}
use Rattle.std.proofs.lemmas.Option.{slice_get-map, slice_get_within, slice_get_cases, same_Some}
use Rattle.std.specs.Str.{bytes_eq}
use Rattle.std.proofs.lemmas.List.{map-append}
use Rattle.std.proofs.lemmas.List.Elements.{filter-append, All-from_recursion}
use Rattle.list_laws.proofs.Lists.{all_filter, contains_more, contains_mapped, all_mapped, all_at_middle}
use Rattle.flux_defs.specs.declared.journal.Command.{Command}
use Rattle.flux_defs.specs.declared.journal.Line.{Line}
use Rattle.resource_graph.specs.NamedGraph.{NamedGraph}
use Rattle.fluxion_lines.specs.declared.commands.Form.{Form}
use Rattle.flux_defs.specs.Scripts.{HasLines, has_number, Interleaves}
use Rattle.text_table.specs.Tables.{with_text, with_texts}
use Rattle.fluxion_lines.specs.Lines.{lines_of}
use Rattle.fluxion_lines.specs.Inputs.{client_in, clients_of, lines_from, numbered_lines}
use Rattle.fluxion_lines.specs.Scripts.{line_held, lines_by, script_of, input_order}
use Rattle.flux_defs.specs.declared.journal.ClientLine.{ClientLine}
use Rattle.fluxion_lines.proofs.LineLaws.{place_within}

-- ---- lists

all_and : {X : Type 0} {P Q R : X → Type 0} (xs : List X) →
    ((x : X) → P x → Q x → R x) → AllByRecursion P xs → AllByRecursion Q xs → AllByRecursion R xs
all_and [] f ps qs = tt
all_and (x ∷ xs) f ps qs = (f x ps.0 qs.0, all_and xs f ps.1 qs.1)

pub all_unmapped : {X Y : Type 0} (P : Y → Type 0) (f : X → Y) (xs : List X) →
    AllByRecursion P (map f xs) → AllByRecursion (λ x. P (f x)) xs
all_unmapped P f [] h = tt
all_unmapped P f (x ∷ xs) h = (h.0, all_unmapped P f xs h.1)

-- ---- numbers rise

abbrev pub RiseFrom : ℕ → List ClientLine → Type 0
RiseFrom at [] = Unit {0}
RiseFrom at (l ∷ ls) = (at ≤ l.line) × RiseFrom (l.line + 1) ls

pub rises : (g : NamedGraph) (form : Form) (clients : List (List ℕ)) (at : ℕ) (raws : List (List ℕ)) →
    RiseFrom at (lines_from g form clients at raws)
rises g form clients at [] = tt
rises g form clients at (raw ∷ raws) = (omega arith, rises g form (with_text clients (client_in raw)) (at + 1) raws)

-- no line of a client has a lesser number
none_by : (c : ℕ) (b : Bool) (n : ℕ) (l : ClientLine) (held : List Line) → n < l.line → has_number held n ≡ false →
    has_number (cond b (line_held l ∷ held) held) n ≡ false
none_by c true n l held lt none =
    ap (λ t. t || has_number held n) (ne_eqb l.line n (λ same. omega (arith, same, lt))) ∙ none
none_by c false n l held lt none = none

mapped_filter : (c : ℕ) (b : Bool) (l : ClientLine) (ls : List ClientLine) →
    map line_held (cond b (l ∷ filter (λ x. x.client == c) ls) (filter (λ x. x.client == c) ls))
    ≡ cond b (line_held l ∷ lines_by c ls) (lines_by c ls)
mapped_filter c true l ls = refl
mapped_filter c false l ls = refl

-- one line more
pub by_more : (c : ℕ) (l : ClientLine) (ls : List ClientLine) →
    lines_by c (l ∷ ls) ≡ cond (l.client == c) (line_held l ∷ lines_by c ls) (lines_by c ls)
by_more c l ls = mapped_filter c (l.client == c) l ls

none_before : (c n at : ℕ) (ls : List ClientLine) → RiseFrom at ls → n < at → has_number (lines_by c ls) n ≡ false
none_before c n at [] rise lt = refl
none_before c n at (l ∷ ls) rise lt =
    let low = rise.0 in
    ap (λ held. has_number held n) (by_more c l ls)
    ∙ none_by c (l.client == c) n l
    (lines_by c ls) (omega (arith, low, lt)) (none_before c n (l.line + 1) ls rise.1 (omega (arith, low, lt)))

-- a client's lines have exactly its numbers
head_by : (b : Bool) (l : ClientLine) (held : List Line) → has_number held l.line ≡ false →
    has_number (cond b (line_held l ∷ held) held) l.line ≡ b
head_by true l held none = ap (λ t. t || has_number held l.line) (eq-eqb l.line l.line refl)
head_by false l held none = none

tail_by : (b : Bool) (l x : ClientLine) (held : List Line) → l.line < x.line →
    has_number (cond b (line_held l ∷ held) held) x.line ≡ has_number held x.line
tail_by true l x held lt =
    ap (λ t. t || has_number held x.line) (ne_eqb l.line x.line (λ same. omega (arith, same, lt)))
tail_by false l x held lt = refl

past : (at : ℕ) (ls : List ClientLine) → RiseFrom at ls → AllByRecursion (λ x. at ≤ x.line) ls
past at [] rise = tt
past at (l ∷ ls) rise = let low = rise.0 in
    (low, all_and ls (λ x p q. omega (arith, low, p)) (past (l.line + 1) ls rise.1) (past (l.line + 1) ls rise.1))

own_numbers : (c at : ℕ) (ls : List ClientLine) → RiseFrom at ls →
    AllByRecursion (λ l. has_number (lines_by c ls) l.line ≡ (l.client == c)) ls
own_numbers c at [] rise = tt
own_numbers c at (l ∷ ls) rise =
    let more = by_more c l ls in
    let later = past (l.line + 1) ls rise.1 in (
      ap (λ held. has_number held l.line) more
          ∙ head_by (l.client == c) l (lines_by c ls) (none_before c l.line (l.line + 1) ls rise.1 (omega arith)),
      all_and ls (λ x low own. ap (λ held. has_number held x.line) more ∙ (tail_by
          (l.client == c) l x (lines_by c ls) (omega (arith, low)) ∙ own)) later (own_numbers c (l.line + 1) ls rise.1),
    )

filtered_by : (b : Bool) (n : ℕ) (l : ClientLine) (rest : List ℕ) (ls : List ClientLine) →
    rest ≡ map (λ x. x.line) (map line_held ls) →
    cond b (l.line ∷ rest) rest ≡ map (λ x. x.line) (map line_held (cond b (l ∷ ls) ls))
filtered_by true n l rest ls is = ap (λ ns. l.line ∷ ns) is
filtered_by false n l rest ls is = is

-- a test of numbers that tells a client's lines
told_apart : (c : ℕ) (test : ℕ → Bool) (ls : List ClientLine) → AllByRecursion (λ l. test l.line ≡ (l.client == c)) ls →
    filter test (map (λ l. l.line) ls) ≡ map (λ l. l.line) (lines_by c ls)
told_apart c test [] tells = refl
told_apart c test (l ∷ ls) tells =
    let rest = filter test (map (λ x. x.line) ls) in
    ap (λ b. cond b (l.line ∷ rest) rest) tells.0
    ∙ filtered_by (l.client == c) l.line l rest (filter (λ x. x.client == c) ls) (told_apart c test ls tells.1)

-- each line is among those of its client
among_by : (b : Bool) (l x : ClientLine) (held : List Line) → Contains held (line_held x) →
    Contains (cond b (line_held l ∷ held) held) (line_held x)
among_by true l x held has = contains_more (line_held l) held (line_held x) has
among_by false l x held has = has

first_by : (b : Bool) (l : ClientLine) (held : List Line) → b ≡ true →
    Contains (cond b (line_held l ∷ held) held) (line_held l)
first_by true l held is = (0, omega arith, refl)
first_by false l held is = absurd (cc)

among : (ls : List ClientLine) → AllByRecursion (λ l. Contains (lines_by l.client ls) (line_held l)) ls
among [] = tt
among (l ∷ ls) = (
  subst (λ held. Contains held (line_held l))
      (sym (by_more l.client l ls))
      (first_by (l.client == l.client) l (lines_by l.client ls) (eq-eqb l.client l.client refl)),
  all_and ls (λ x has also. subst (λ held. Contains held (line_held x)) (sym (by_more x.client l ls))
      (among_by (l.client == x.client) l x (lines_by x.client ls) has)) (among ls) (among ls),
)

-- ---- clients

one_text : (b : Bool) (texts : List (List ℕ)) (t : List ℕ) →
    length texts ≤ length (if b then texts else texts ++ t ∷ [])
one_text true texts t = omega arith
one_text false texts t = let long = length-append texts (t ∷ []) in omega (arith, long)

grows : (texts more : List (List ℕ)) → length texts ≤ length (with_texts texts more)
grows texts [] = omega arith
grows texts (t ∷ more) = let one = one_text (list_any (bytes_eq t) texts) texts t in
    let rest = grows (with_text texts t) more in omega (arith, one, rest)

few : (g : NamedGraph) (form : Form) (clients : List (List ℕ)) (at : ℕ) (raws : List (List ℕ)) → AllByRecursion
    (λ l. l.client < length (with_texts clients (map client_in raws))) (lines_from g form clients at raws)
few g form clients at [] = tt
few g form clients at (raw ∷ raws) =
    let place = place_within clients (client_in raw) in
    let rest = grows (with_text clients (client_in raw)) (map client_in raws) in
    (omega (arith, place, rest), few g form (with_text clients (client_in raw)) (at + 1) raws)

-- ---- lists by client, one line more

-- the same numbers have the same where two functions agree on them
agree : {X : Type 0} (F G : ℕ → X) (a n : ℕ) →
    ((c : ℕ) → a ≤ c → F c ≡ G c) → map F (range_with_len a n) ≡ map G (range_with_len a n)
agree F G a zero same = refl
agree F G a (suc n) same = λ i. same a (omega arith) i ∷ agree F G (a + 1) n (λ c low. same c (omega (arith, low))) i

-- one value changed, of those from a on
changed : {X : Type 0} (F G : ℕ → X) (a n k : ℕ) (x : X) → k < n → ((c : ℕ) → c ≢ a + k → F c ≡ G c) →
    x ≡ G (a + k) → slice_set (map F (range_with_len a n)) k x ≡ map G (range_with_len a n)
changed F G a zero k x lt same is = absurd (omega (arith, lt))
changed F G a (suc n) zero x lt same is = λ i. (is ∙ ap G (let here : a + 0 ≡ a = omega arith in here)) i ∷ agree F G
    (a + 1) n (λ c low. same c (λ at. omega (arith, low, at))) i
changed F G a (suc n) (suc k) x lt same is =
    λ i. same a (λ at. omega (arith, at)) i ∷ changed F G (a + 1) n k x (omega (arith, lt)) (λ c other. same c
    (λ at. other (omega (arith, at)))) (is ∙ ap G (let there : a + suc k ≡ a + 1 + k = omega arith in there)) i

filtered_more : (c : ℕ) (done : List ClientLine) (l : ClientLine) →
    lines_by c (done ++ l ∷ []) ≡ lines_by c done ++ lines_by c (l ∷ [])
filtered_more c done l =
    ap (map line_held) (filter-append (λ x. x.client == c) done (l ∷ []))
    ∙ map-append line_held (filter (λ x. x.client == c) done) (filter (λ x. x.client == c) (l ∷ []))

of_other : (c : ℕ) (done : List ClientLine) (l : ClientLine) → c ≢ l.client →
    lines_by c done ≡ lines_by c (done ++ l ∷ [])
of_other c done l other = sym (filtered_more c done l ∙ (ap (λ ls. lines_by c done ++ ls) (by_more c l [] ∙ ap
    (λ b. cond b (line_held l ∷ []) []) (ne_eqb l.client c (λ same. other (sym same)))) ∙ append-nil (lines_by c done)))

of_own : (done : List ClientLine) (l : ClientLine) →
    lines_by l.client done ++ line_held l ∷ [] ≡ lines_by l.client (done ++ l ∷ [])
of_own done l = sym (filtered_more l.client done l ∙ ap (λ ls. lines_by l.client done ++ ls)
    (by_more l.client l [] ∙ ap (λ b. cond b (line_held l ∷ []) []) (eq-eqb l.client l.client refl)))

unwrapped : {X : Type 0} (o : Option X) (x d : X) → o ≡ Some x → unwrap_or o d ≡ x
unwrapped o x d is = ap (λ t. unwrap_or t d) is

-- ---- the script

in_range : (n c : ℕ) → c < n → slice_get (range_with_len 0 n) c ≡ Some c
in_range n c lt = elim (slice_get_cases (range_with_len 0 n) c).1 [
  | inl (x, within, some, is) ↦ some ∙ ap Some (let at = get_or-range_with_len 0 n c x lt in omega (arith, at, is))
  | inr (gone, none) ↦ absurd (let long = length-range_with_len 0 n in omega (arith, long, gone, lt))
]

module _ (g : NamedGraph) (form : Form) (bytes : List ℕ) where
  abbrev pub lines : List ClientLine
  lines = numbered_lines g form bytes

  abbrev pub count : ℕ
  count = length (clients_of bytes)

  pub has_lines : (c : ℕ) → c < count → HasLines (script_of g form bytes) c (lines_by c lines)
  has_lines c lt = slice_get-map (λ client. lines_by client lines) (range_with_len 0 count) c
      ∙ ap (option_map (λ client. lines_by client lines)) (in_range count c lt)

  pub lines_are : (c : ℕ) (ls : List Line) → HasLines (script_of g form bytes) c ls → lines_by c lines ≡ ls
  lines_are c ls had =
      let within = slice_get_within (map (λ client. lines_by client lines) (range_with_len 0 count)) c ls had in
      let long = length-map-range_with_len (λ client. lines_by client lines) 0 count in
      same_Some (lines_by c lines) ls (sym (has_lines c (omega (arith, within, long))) ∙ had)

  -- a client's numbers are those of its lines
  pub numbers_are_own : (c : ℕ) → AllByRecursion (λ l. has_number (lines_by c lines) l.line ≡ (l.client == c)) lines
  numbers_are_own c = own_numbers c 1 lines (rises g form [] 1 (lines_of bytes))

  -- a client that has lines is among the clients
  pub is_client : (c : ℕ) (ls : List Line) → HasLines (script_of g form bytes) c ls → c < count
  is_client c ls had =
      let within = slice_get_within (map (λ client. lines_by client lines) (range_with_len 0 count)) c ls had in
      let long = length-map-range_with_len (λ client. lines_by client lines) 0 count in omega (arith, within, long)

  -- each line is one of its client's
  pub held : AllByRecursion (λ l. HasLines (script_of g form bytes) l.client (lines_by l.client lines)
      × Contains (lines_by l.client lines) (line_held l)) lines
  held = all_and lines (λ l lt has. (has_lines l.client lt, has)) (few g form [] 1 (lines_of bytes)) (among lines)

  -- the number is that of a line of some client
  abbrev IsKnown : ℕ → Type 0
  IsKnown n = (c : ℕ) × (ls : List Line) × HasLines (script_of g form bytes) c ls × Contains (map (λ l. l.line) ls) n

  abbrev IsHeld : ClientLine → Type 0
  IsHeld l = HasLines (script_of g form bytes) l.client (lines_by l.client lines)
      × Contains (lines_by l.client lines) (line_held l)

  known_line : (l : ClientLine) → IsHeld l → IsHeld l → IsKnown l.line
  known_line l h also = (
    l.client,
    lines_by l.client lines,
    h.0,
    contains_mapped (λ x. x.line) (lines_by l.client lines) (line_held l) h.1.0 h.1.1 h.1.2,
  )

  -- the order of the input interleaves the script
  pub interleaves : Interleaves (script_of g form bytes) (input_order g form bytes)
  interleaves = record {
    known = All-from_recursion IsKnown
        (input_order g form bytes) (all_mapped IsKnown (λ l. l.line) lines (all_and lines known_line held held));
    each = λ c ls had. subst
        (λ (x : List Line). filter (has_number x) (input_order g form bytes) ≡ map (λ l. l.line) x) (lines_are c ls had)
        (told_apart c (has_number (lines_by c lines)) lines (numbers_are_own c));
  }

  -- each line is one of some client's lines
  pub told : AllByRecursion
      (λ l. (ls : List Line) × HasLines (script_of g form bytes) l.client ls × Contains ls (line_held l)) lines
  told = all_and lines (λ l h also. (lines_by l.client lines, h.0, h.1)) held held

-- ---- made line by line

listed_at : (count c : ℕ) (done : List ClientLine) → c < count →
    slice_get (map (λ client. lines_by client done) (range_with_len 0 count)) c ≡ Some (lines_by c done)
listed_at count c done lt = slice_get-map (λ client. lines_by client done) (range_with_len 0 count) c
    ∙ ap (option_map (λ client. lines_by client done)) (in_range count c lt)

pub line_added : (count : ℕ) (done : List ClientLine) (l : ClientLine) (lists : List (List Line)) → l.client < count →
    lists ≡ map (λ client. lines_by client done) (range_with_len 0 count) →
    slice_set lists l.client (unwrap_or (slice_get lists l.client) [] ++ line_held l ∷ [])
    ≡ map (λ client. lines_by client (done ++ l ∷ [])) (range_with_len 0 count)
line_added count done l lists lt are =
    let old = map (λ client. lines_by client done) (range_with_len 0 count) in
    let own : unwrap_or (slice_get old l.client) [] ≡ lines_by l.client done =
    unwrapped (slice_get old l.client) (lines_by l.client done) [] (listed_at count l.client done lt) in
    (λ i. slice_set (are i) l.client (unwrap_or (slice_get (are i) l.client) [] ++ line_held l ∷ []))
    ∙ (ap (λ (ls : List Line). slice_set old l.client (ls ++ line_held l ∷ [])) own
    ∙ changed (λ client. lines_by client done)
    (λ client. lines_by client (done ++ l ∷ [])) 0 count l.client (lines_by l.client done ++ line_held l ∷ []) lt
    (λ c other. of_other c done l (λ same. other (let at : c ≡ 0 + l.client = omega (arith, same) in at)))
    (of_own done l ∙ ap (λ n. lines_by n (done ++ l ∷ [])) (let at : l.client ≡ 0 + l.client = omega arith in at)))

pub no_more : (count k : ℕ) → k < count → map (λ client. lines_by client []) (range_with_len k (count - k))
    ≡ [] ∷ map (λ client. lines_by client []) (range_with_len (k + 1) (count - (k + 1)))
no_more count k lt = ap (λ n. map (λ client. lines_by client []) (range_with_len k n))
    (let one : count - k ≡ suc (count - (k + 1)) = omega (arith, lt) in one)

pub few_clients : (g : NamedGraph) (form : Form) (bytes : List ℕ) →
    AllByRecursion (λ l. l.client < length (clients_of bytes)) (numbered_lines g form bytes)
few_clients g form bytes = few g form [] 1 (lines_of bytes)

-- ---- each client's commands are proper

held_filtered : (P : Command → Type 0) (c : ℕ) (ls : List ClientLine) → AllByRecursion (λ l. P l.command) ls →
    AllByRecursion (λ (l : Line). P l.command) (lines_by c ls)
held_filtered P c ls all = all_mapped (λ (l : Line). P l.command) line_held (filter (λ x. x.client == c) ls)
    (all_filter (λ (l : ClientLine). P l.command) (λ x. x.client == c) ls all)

each_number : (P : ℕ → Type 0) (a n : ℕ) → ((c : ℕ) → P c) → AllByRecursion P (range_with_len a n)
each_number P a zero f = tt
each_number P a (suc n) f = (f a, each_number P (a + 1) n f)

pub proper_lists : (P : Command → Type 0) (count : ℕ) (ls : List ClientLine) → AllByRecursion (λ l. P l.command) ls →
    AllByRecursion (λ (lines : List Line). AllByRecursion (λ (l : Line). P l.command) lines)
    (map (λ client. lines_by client ls) (range_with_len 0 count))
proper_lists P count ls all =
    all_mapped (λ (lines : List Line). AllByRecursion (λ (l : Line). P l.command) lines)
    (λ client. lines_by client ls) (range_with_len 0 count)
    (each_number (λ c. AllByRecursion (λ (l : Line). P l.command) (lines_by c ls)) 0 count
    (λ c. held_filtered P c ls all))

pub at_split : {X : Type 0} (P : X → Type 0) (xs ys zs : List X) (z : X) → xs ≡ ys ++ z ∷ zs → AllByRecursion P xs → P z
at_split P xs ys zs z is all = all_at_middle P ys z zs (subst (AllByRecursion P) is all)
