-- clap takes words that are in form, and its rows are what they give.
use Rattle.std.proofs.Common.{◌≡◌, is_some, List, [], ◌∷◌, Bool, true, false, ◌&&◌, ◌||◌, if◌then◌else◌, Option, Some}
use Rattle.std.proofs.Common.{None, is_some, option_map, option_and_then, find, slice_get, codes, bytes_eq, refl, sym}
use Rattle.std.proofs.Common.{ap, ◌∙◌, subst, true≢false, fold}
use Rattle.std.proofs.lemmas.Slice.Eq.{bytes_eq-Decides}
use Rattle.std.specs.Option.{option_map_or}
use Rattle.std.proofs.lemmas.Bool.{and_parts}
use Rattle.clap.specs.Facts.{explicit_source}
use Rattle.clap.specs.Walk.{Rule, Row, with_default, walk, finished, reading_by, arg_by_id, arg_by_long, walk_from}
use Rattle.clap.specs.Walk.{nothing_held, first_of}
use Rattle.clap.specs.Simple.{Shape, HasMatchesOf, built, matches_of}
use Rattle.clap.specs.Matches.{found_of, first_value}
use Rattle.clap.proofs.WalkLemmas.{first_value-rows}
use Rattle.clap.specs.declared.parser.matches.ArgMatches.{ArgMatches}
use Rattle.clap.specs.Takes.{takes, is_given}
use Rattle.clap.specs.declared.builder.value_parser.Reading.{Reading}
use Rattle.command_words.specs.Givens.{Word, Given, anything, graph, horizon, filters, jobspec, given_from, given_by}
use Rattle.command_words.specs.Givens.{if_complete, has, are_new, value_of}
use Rattle.command_words.specs.Values.{values_of, values_given, values_in}
use Rattle.command_words.specs.Commands.{words_app, option_rule, graph_rule}
use Rattle.command_words.proofs.Rows.{Single, row, rows}
use Rattle.command_words.proofs.Steps.{none, Serves}
use Rattle.command_words.proofs.Runs.{runs, Rest}

abbrev pub shape : Shape
shape = (built words_app).top

-- how clap reads a text
abbrev pub how : Reading
how = reading_by (Rattle.clap.specs.Simple.filled graph_rule)

abbrev filled_option : Word → Rule
filled_option name = Rattle.clap.specs.Simple.filled (option_rule name)

option_single : (name : Word) → Single how (filled_option name) name
option_single name = record { id = refl; set = refl; range = refl; reads = refl; passes = λ v. refl; no_last = refl }

by_name : (P : Word → Type 0) →
    P (codes "horizon") → P (codes "filters") → P (codes "jobspec") → (name : Word) (b c d : Bool)
    → bytes_eq name (codes "horizon") ≡ b →
    bytes_eq name (codes "filters") ≡ c → bytes_eq name (codes "jobspec") ≡ d → (b || (c || d)) ≡ true → P name
by_name P h f j name true c d e1 e2 e3 o = subst P (sym ((bytes_eq-Decides name (codes "horizon")).0 e1)) h
by_name P h f j name false true d e1 e2 e3 o = subst P (sym ((bytes_eq-Decides name (codes "filters")).0 e2)) f
by_name P h f j name false false true e1 e2 e3 o = subst P (sym ((bytes_eq-Decides name (codes "jobspec")).0 e3)) j
by_name P h f j name false false false e1 e2 e3 o = absurd (true≢false (sym o))

pub serves : Serves how shape
serves = record {
  option_rule = filled_option;
  single = λ name o. option_single name;
  by_long = λ name o. by_name (λ n. arg_by_long shape.rules n ≡ Some
      (filled_option n)) refl refl refl name _ _ _ refl refl refl o;
  by_id = λ name o. by_name (λ n. arg_by_id shape.rules n ≡ Some
      (filled_option n)) refl refl refl name _ _ _ refl refl refl o;
  graph_rule = record (Rattle.clap.specs.Simple.filled graph_rule) { index = Some 1 };
  graph_single = record { id = refl; set = refl; range = refl; reads = refl; passes = λ v. refl; no_last = refl };
  graph_by_id = refl;
  graph_by_index = refl;
  once = refl;
}

graph_by : (u : Given) (us : List Given) (b : Bool) → (b || has graph us) ≡ true →
    (has graph us ≡ true → is_given graph (rows how us) ≡ true)
    → option_map_or (λ r. explicit_source r.source) (if b then Some (row how u) else find (λ r. bytes_eq r.id graph)
    (rows how us)) false ≡ true
graph_by u us true h rest = refl
graph_by u us false h rest = rest h

given_graph : (us : List Given) → has graph us ≡ true → is_given graph (rows how us) ≡ true
given_graph [] h = absurd (true≢false (sym h))
given_graph (u ∷ us) h = graph_by u us (bytes_eq u.0 graph) h (given_graph us)

same : (b : Bool) (l : List Row) → (if b then l else l) ≡ l
same true l = refl
same false l = refl

no_defaults : (l : List Row) → fold with_default l shape.rules ≡ l
no_defaults l = rw same (rw same (rw same (rw same refl)))

complete : (o : Option (List Given)) (us : List Given) → option_and_then if_complete o ≡ Some us →
    (o ≡ Some us) × (are_new [] us ≡ true) × (has graph us ≡ true)
complete None us h = absurd (cc)
complete (Some vs) us h = complete_by (are_new [] vs && has graph vs) refl h where
  complete_by : (b : Bool) → (are_new [] vs && has graph vs) ≡ b → (if b then Some vs else None) ≡ Some us →
      (Some vs ≡ Some us) × (are_new [] us ≡ true) × (has graph us ≡ true)
  complete_by true e h' = let is : vs ≡ us = cc in let both = and_parts (are_new [] vs) (has graph vs) e in
      (h', subst (λ l. are_new [] l ≡ true) is both.0, subst (λ l. has graph l ≡ true) is both.1)
  complete_by false e h' = absurd (cc)

pub taken : (words : List Word) (us : List Given) → given_by words ≡ Some us →
    (takes words_app words ≡ true) × (matches_of words_app words ≡ rows how us)
taken words us h =
    let c = complete (given_from anything words) us h in
    let r : Rest how shape serves words us
    (walk_from nothing_held) = runs how shape serves words anything [] none us c.0 tt c.1 in
    let final : finished shape.rules (walk shape.rules [] nothing_held words).held ≡ rows how us = rw (r.2)
    (no_defaults (rows how us)) in
    (rw (r.3, r.0, r.1, final, given_graph us c.2) refl, final)

first_row_by : (name : Word) (u : Given) (us : List Given) (b : Bool) → first_of name (rows how us) ≡ value_of name us
    → option_and_then (λ (r : Row). slice_get r.values 0) (if b then Some (row how u) else find
    (λ r. bytes_eq r.id name) (rows how us))
    ≡ option_map (λ (v : Given). v.1) (if b then Some u else find (λ v. bytes_eq v.0 name) us)
first_row_by name u us true rest = refl
first_row_by name u us false rest = rest

pub first_row : (name : Word) (us : List Given) → first_of name (rows how us) ≡ value_of name us
first_row name [] = refl
first_row name (u ∷ us) = first_row_by name u us (bytes_eq u.0 name) (first_row name us)

-- what a getter gives, where the words are in form
pub found_value : (words : List Word) (us : List Given) (m : ArgMatches) (name : Word) → given_by words ≡ Some us →
    HasMatchesOf words_app words m → first_value (found_of m) name ≡ value_of name us
found_value words us m name h has =
    first_value-rows (found_of m) name ∙ ap (first_of name) ((has refl).0 ∙ (taken words us h).1) ∙ first_row name us

-- ---- the values of words that are in form

-- nothing is given for the graph file, so there are no values; that never comes
pub no_values : (words : List Word) (m : ArgMatches) → is_some (given_by words) ≡ true →
    HasMatchesOf words_app words m → first_value (found_of m) graph ≡ None → values_in words ≡ None
no_values words m form has_matches nothing = by (given_by words) refl form
  where
    by : (o : Option (List Given)) → given_by words ≡ o → is_some o ≡ true → option_and_then values_given o ≡ None
    by None e f = refl
    by (Some us) e f = ap (option_map (λ name. values_of name us))
        (sym (found_value words us m graph e has_matches) ∙ nothing)

pub the_values : (words : List Word) (m : ArgMatches) → is_some (given_by words) ≡ true →
    HasMatchesOf words_app words m → (name : Word) → Some name ≡ first_value (found_of m) graph →
    (h f j : Option Word) → h ≡ first_value (found_of m) horizon → f ≡ first_value (found_of m) filters →
    j ≡ first_value (found_of m) jobspec →
    Some (record { graph = name; horizon = h; filters = f; jobspec = j }) ≡ values_in words
the_values words m form has_matches name named h f j h_is f_is j_is = by (given_by words) refl form
  where
    by : (o : Option (List Given)) → given_by words ≡ o → is_some o ≡ true → Some
        (record { graph = name; horizon = h; filters = f; jobspec = j }) ≡ option_and_then values_given o
    by None e g = absurd (cc)
    by (Some us) e g =
        let h' = h_is ∙ found_value words us m horizon e has_matches in
        let f' = f_is ∙ found_value words us m filters e has_matches in
        let j' = j_is ∙ found_value words us m jobspec e has_matches in
        let first : Some (record { graph = name; horizon = h; filters = f; jobspec = j }) ≡ Some (values_of name us) =
        λ i. Some (record { graph = name; horizon = h' i; filters = f' i; jobspec = j' i }) in
        first ∙ ap (option_map (λ n. values_of n us)) (named ∙ found_value words us m graph e has_matches)
