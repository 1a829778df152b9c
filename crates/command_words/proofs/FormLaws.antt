-- The test of words tells exactly those in form.
use Rattle.std.proofs.Common.{◌≡◌, ◌≢◌, ℕ, ◌==◌, List, [], ◌∷◌, ◌++◌, Bool, true, false, not, ◌&&◌, ◌||◌, if◌then◌else◌}
use Rattle.std.proofs.Common.{Option, Some, None, option_map, option_and_then, is_some, MatchOption, Bor, String}
use Rattle.std.proofs.Common.{Global, string_bytes, suc, map, slice_get, get_or, drop, length, ◌<◌, ◌≤◌, drop-cons}
use Rattle.std.proofs.Common.{bytes_eq, inl, inr, refl, sym, ap, ◌∙◌}
use Rattle.std.proofs.lemmas.Bool.Decides.{eqb_tells}
use Rattle.std.proofs.Math.ListN.{drop_of_length-le}
use Rattle.std.specs.Option.{option_or, option_map_or}
use Rattle.std.proofs.Math.Bool.{or-false, or-true, or_assoc}
use Rattle.command_words.specs.Givens as by_words
use Rattle.command_words.specs.Givens.{Word, Given, graph, horizon, filters, jobspec, is_empty, begins_with_minus}
use Rattle.command_words.specs.Givens.{dashes, rest_behind, behind_name, option_of, anything, value_for}
use Rattle.command_words.specs.Givens.{only_names, and_given, from_option, from_word, given_from, has, are_new}
use Rattle.command_words.specs.Givens.{if_complete, given_by}
use Rattle.command_words.specs.Taken.{is_seen, marked, has_value, named_option, given_to, after_option, after_full}
use Rattle.command_words.specs.Taken.{after_word, is_whole, goes_on}
use Rattle.command_words.specs.declared.forms.Name.{Name}
use Rattle.command_words.specs.declared.forms.Name.TheVariants.{Graph, Horizon, Filters, Jobspec}
use Rattle.command_words.specs.declared.forms.Next.{Next}
use Rattle.command_words.specs.declared.forms.Next.TheVariants.{Any, Value, Names}
use Rattle.command_words.specs.declared.forms.Seen.{Seen}
use Rattle.command_words.specs.declared.forms.State.{State}
use Rattle.command_words.proofs.Options.{rest_is}

-- what stands behind a text
pub behind_itself : (text rest : Word) → rest_behind text (text ++ rest) ≡ Some rest
behind_itself [] rest = refl
behind_itself (a ∷ text) rest = elim (eqb_tells a a) [
  | inl same ↦ ap (λ test. if test then rest_behind text (text ++ rest) else None) same.0 ∙ behind_itself text rest
  | inr differ ↦ absurd (differ.1 refl)
]

pub strips : (text word : Word) (r : Option (Bor Word)) → MatchOption r ((rest : Word) → word ≢ text ++ rest)
    (λ x. word ≡ text ++ x.now) → rest_behind text word ≡ option_map (λ x. x.now) r
strips text word (Some x) is = ap (rest_behind text) is ∙ behind_itself text x.now
strips text word None never = by (rest_behind text word) refl
  where
    by : (o : Option Word) → rest_behind text word ≡ o → o ≡ None
    by None e = refl
    by (Some rest) e = absurd (never rest (rest_is text word rest e))

-- ---- the code's names and the words'

abbrev text_of : Name → Word
text_of Graph = graph
text_of Horizon = horizon
text_of Filters = filters
text_of Jobspec = jobspec

abbrev next_of : Next → by_words.Next
next_of Any = anything
next_of (Value name) = value_for (text_of name)
next_of Names = only_names

-- the option that a word names, for the code and for the definition
data Same : Option (Name × Bool) → Option (Word × Option Word) → Type 0 where
  none : Same None None
  alone : (name : Name) → Same (Some (name, false)) (Some (text_of name, None))
  joined : (name : Name) (v : Word) → Same (Some (name, true)) (Some (text_of name, Some v))

same_by : (name : Name) (rest : Option Word) → Same (option_map (λ valued. (name, valued)) (has_value rest))
    (behind_name (text_of name) rest)
same_by name None = none
same_by name (Some []) = alone name
same_by name (Some (b ∷ bs)) = by (b == 61)
  where
    by : (t : Bool) → Same (option_map (λ valued. (name, valued)) (if t then Some true else None))
        (if t then Some (text_of name, Some bs) else None)
    by true = joined name bs
    by false = none

or_same : (a : Option (Name × Bool)) (b : Option (Word × Option Word)) (c : Option (Name × Bool))
    (d : Option (Word × Option Word)) → Same a b → Same c d → Same (option_or a c) (option_or b d)
or_same None None c d none later = later
or_same (Some x) (Some y) c d first later = first
or_same None (Some y) c d first later = elim first [ ]
or_same (Some x) None c d first later = elim first [ ]

same_option : (word : Word) → Same (named_option word) (option_of word)
same_option word =
    or_same _ _ _ _ (same_by Horizon (rest_behind (dashes ++ horizon) word))
    (or_same _ _ _ _ (same_by Filters (rest_behind (dashes ++ filters) word))
    (same_by Jobspec (rest_behind (dashes ++ jobspec) word)))

-- ---- which names have a value

abbrev Shows : Seen → List Given → Type 0
Shows seen givens = (name : Name) → is_seen seen name ≡ has (text_of name) givens

has_append : (id : Word) (us : List Given) (u : Given) → has id (us ++ u ∷ []) ≡ (has id us || bytes_eq u.0 id)
has_append id [] u = or-false (bytes_eq u.0 id)
has_append id (v ∷ us) u = ap (λ t. bytes_eq v.0 id || t) (has_append id us u) ∙ sym
    (or_assoc (bytes_eq v.0 id) (has id us) (bytes_eq u.0 id))

marked_at : (seen : Seen) (m n : Name) → is_seen (marked seen m) n
    ≡ (is_seen seen n || bytes_eq (text_of m) (text_of n))
marked_at seen Graph Graph = sym (or-true seen.graph)
marked_at seen Graph Horizon = sym (or-false seen.horizon)
marked_at seen Graph Filters = sym (or-false seen.filters)
marked_at seen Graph Jobspec = sym (or-false seen.jobspec)
marked_at seen Horizon Graph = sym (or-false seen.graph)
marked_at seen Horizon Horizon = sym (or-true seen.horizon)
marked_at seen Horizon Filters = sym (or-false seen.filters)
marked_at seen Horizon Jobspec = sym (or-false seen.jobspec)
marked_at seen Filters Graph = sym (or-false seen.graph)
marked_at seen Filters Horizon = sym (or-false seen.horizon)
marked_at seen Filters Filters = sym (or-true seen.filters)
marked_at seen Filters Jobspec = sym (or-false seen.jobspec)
marked_at seen Jobspec Graph = sym (or-false seen.graph)
marked_at seen Jobspec Horizon = sym (or-false seen.horizon)
marked_at seen Jobspec Filters = sym (or-false seen.filters)
marked_at seen Jobspec Jobspec = sym (or-true seen.jobspec)

marked_shows : (seen : Seen) (us : List Given) (m : Name) (v : Word) → Shows seen us → Shows (marked seen m)
    (us ++ (text_of m, v) ∷ [])
marked_shows seen us m v shows = λ n. marked_at seen m n ∙ (ap (λ t. t || bytes_eq (text_of m) (text_of n)) (shows n)
    ∙ sym (has_append (text_of n) us (text_of m, v)))

-- ---- the words that are left

-- they give new names, and the graph file is named
abbrev completes : List Given → Option (List Given) → Bool
completes us None = false
completes us (Some vs) = are_new us vs && (has graph us || has graph vs)

completes_given : (us : List Given) (u : Given) (o : Option (List Given)) → completes us
    (and_given u o) ≡ (if has u.0 us then false else completes (us ++ u ∷ []) o)
completes_given us u None = by (has u.0 us)
  where
    by : (b : Bool) → false ≡ (if b then false else false)
    by true = refl
    by false = refl
completes_given us u (Some vs) =
    by (has u.0 us) ∙ ap (λ g. if has u.0 us then false else are_new (us ++ u ∷ []) vs && g)
    (sym (or_assoc (has graph us) (bytes_eq u.0 graph) (has graph vs)) ∙ ap (λ t. t || has graph vs)
    (sym (has_append graph us u)))
  where
    by : (b : Bool) → ((not b && are_new (us ++ u ∷ []) vs) && (has graph us || (bytes_eq u.0 graph || has graph vs)))
        ≡ (if b then false else are_new (us ++ u ∷ []) vs && (has graph us || (bytes_eq u.0 graph || has graph vs)))
    by true = refl
    by false = refl

abbrev Tells : List Word → Type 0
Tells words = (state : State) (us : List Given) → Shows state.seen us → goes_on state words ≡ completes us
    (given_from (next_of state.next) words)

-- a value for a name
after_given : (words : List Word) → Tells words → (name : Name) (next : Next) (seen : Seen) (us : List Given)
    (v : Word) → Shows seen us →
    option_map_or (λ state. goes_on state words) (given_to name next seen) false ≡ completes us
    (and_given (text_of name, v) (given_from (next_of next) words))
after_given words tells name next seen us v shows =
    by (is_seen seen name) ∙ (ap (λ t. if t then false else completes (us ++ (text_of name, v) ∷ [])
    (given_from (next_of next) words)) (shows name)
    ∙ sym (completes_given us (text_of name, v) (given_from (next_of next) words)))
  where
    by : (b : Bool) → option_map_or (λ state. goes_on state words)
        (if b then None else Some (record { next = next; seen = marked seen name })) false
        ≡ (if b then false else completes (us ++ (text_of name, v) ∷ []) (given_from (next_of next) words))
    by true = refl
    by false = tells (record { next = next; seen = marked seen name }) (us ++ (text_of name, v) ∷ [])
        (marked_shows seen us name v shows)

after_named : (words : List Word) → Tells words → (seen : Seen) (us : List Given) → Shows seen us →
    (a : Option (Name × Bool)) (b : Option (Word × Option Word)) → Same a b →
    option_map_or (λ state. goes_on state words) (after_option a seen) false ≡ completes us
    (from_option b (λ next. given_from next words))
after_named words tells seen us shows None None none = refl
after_named words tells seen us shows None (Some b) same = elim same [ ]
after_named words tells seen us shows (Some a) None same = elim same [ ]
after_named words tells seen us shows (Some a) (Some b) (alone name) = tells
    (record { next = Value name; seen = seen }) us shows
after_named words tells seen us shows (Some a) (Some b)
    (joined name v) = after_given words tells name Any seen us v shows

after_first : (word : Word) (words : List Word) → Tells words → (next : Next) (seen : Seen) (us : List Given) →
    Shows seen us →
    option_map_or (λ state. goes_on state words) (after_full next seen word) false ≡ completes us
    (from_word (next_of next) word (λ n. given_from n words))
after_first word words tells Names seen us shows = after_given words tells Graph Names seen us word shows
after_first word words tells (Value name) seen us shows = by (begins_with_minus word)
  where
    by : (b : Bool) → option_map_or (λ state. goes_on state words) (if b then None else given_to name Any seen) false
        ≡ completes us (if b then None else and_given (text_of name, word) (given_from anything words))
    by true = refl
    by false = after_given words tells name Any seen us word shows
after_first word words tells Any seen us shows = by (bytes_eq word dashes) (begins_with_minus word)
  where
    by : (d m : Bool) → option_map_or (λ state. goes_on state words)
        (if d then Some (record { next = Names; seen = seen }) else if m then after_option
        (named_option word) seen else given_to Graph Any seen) false
        ≡ completes us (if d then given_from only_names words else if m then from_option (option_of word)
        (λ n. given_from n words) else and_given (graph, word) (given_from anything words))
    by true m = tells (record { next = Names; seen = seen }) us shows
    by false true = after_named words tells seen us shows (named_option word) (option_of word) (same_option word)
    by false false = after_given words tells Graph Any seen us word shows

tells_end : (next : Next) (seen : Seen) (us : List Given) → Shows seen us → is_whole
    (record { next = next; seen = seen }) ≡ completes us (given_from (next_of next) [])
unfolding given_from
tells_end Any seen us shows = shows Graph ∙ sym (or-false (has graph us))
tells_end (Value name) seen us shows = refl
tells_end Names seen us shows = shows Graph ∙ sym (or-false (has graph us))

pub tells_rest : (words : List Word) → Tells words
unfolding given_from
tells_rest [] state us shows = tells_end state.next state.seen us shows
tells_rest (word ∷ words) state us shows = by (tells_rest words) (is_empty word)
  where
    by : Tells words → (b : Bool) → option_map_or (λ next. goes_on next words)
        (if b then None else after_full state.next state.seen word) false
        ≡ completes us (if b then None else from_word (next_of state.next) word (λ n. given_from n words))
    by tells true = refl
    by tells false = after_first word words tells state.next state.seen us shows

complete_is : (o : Option (List Given)) → is_some (option_and_then if_complete o) ≡ completes [] o
complete_is None = refl
complete_is (Some vs) = by (are_new [] vs && has graph vs)
  where
    by : (b : Bool) → is_some (if b then Some vs else None) ≡ b
    by true = refl
    by false = refl

abbrev pub start : State
start = record { next = Any; seen = record { graph = false; horizon = false; filters = false; jobspec = false } }

shows_nothing : Shows start.seen []
shows_nothing Graph = refl
shows_nothing Horizon = refl
shows_nothing Filters = refl
shows_nothing Jobspec = refl

pub in_form : (words : List Word) → is_some (given_by words) ≡ goes_on start words
in_form words = complete_is (given_from anything words) ∙ sym (tells_rest words start [] shows_nothing)

-- ---- a word's beginning

pub behind_none : (text word : Word) (r : Option (Bor Word)) → rest_behind text word ≡ option_map (λ x. x.now) r →
    r ≡ None → has_value (rest_behind text word) ≡ None
behind_none text word r is missing = ap has_value
    (is ∙ ap (λ (o : Option (Bor Word)). option_map (λ x. x.now) o) missing)

pub behind_some : (text word : Word) (r : Option (Bor Word)) (rest : Bor Word) → rest_behind text word ≡ option_map
    (λ x. x.now) r → r ≡ Some rest → has_value (rest_behind text word) ≡ has_value (Some rest.now)
behind_some text word r rest is some = ap has_value (is ∙ ap
    (λ (o : Option (Bor Word)). option_map (λ x. x.now) o) some)

pub nothing_behind : (rest : Word) → None ≡ slice_get rest 0 → has_value (Some rest) ≡ Some false
nothing_behind [] first = refl
nothing_behind (b ∷ bs) first = absurd (let no : None ≡ Some b = first in cc)

pub value_behind : (rest : Word) (b : ℕ) → Some b ≡ slice_get rest 0 → b ≡ 61 → has_value (Some rest) ≡ Some true
value_behind [] b first is = absurd (let no : Some b ≡ None = first in cc)
value_behind (x ∷ xs) b first is =
    let same : x ≡ 61 = (let e : Some b ≡ Some x = first in cc) in
    ap (λ y. has_value (Some (y ∷ xs))) same

pub other_behind : (rest : Word) (b : ℕ) → Some b ≡ slice_get rest 0 → b ≢ 61 → has_value (Some rest) ≡ None
other_behind [] b first isnt = absurd (let no : Some b ≡ None = first in cc)
other_behind (x ∷ xs) b first isnt = elim (eqb_tells x 61) [
  | inl same ↦ absurd (isnt (let e : Some b ≡ Some x = first in let is = same.1 in cc))
  | inr differ ↦ ap (λ t. if t then Some true else None) differ.0
]

-- ---- a loop over the words

module _ (state : State) (words : List (String Global)) (at : ℕ) where
  -- the next word may not come
  pub stops : (item : String Global) → at < length words → item ≡ get_or words at item → after_word state
      (string_bytes item) ≡ None → goes_on state (map string_bytes (drop at words)) ≡ false
  stops item more is missing =
      ap (λ ws. goes_on state (map string_bytes ws)) (drop-cons words at item more ∙ ap (λ w. w ∷ drop (suc at) words)
      (sym is))
      ∙ ap (λ o. option_map_or (λ next. goes_on next (map string_bytes (drop (suc at) words))) o false) missing

  -- no word is left
  pub ends : length words ≤ at → goes_on state (map string_bytes (drop at words)) ≡ is_whole state
  ends all = ap (λ ws. goes_on state (map string_bytes ws)) (drop_of_length-le words all)
