-- Elements and hosts that are written are read again.
use Rattle.std.proofs.Common.{◌≡◌, ℕ, suc, ◌≤◌, true, List, [], ◌∷◌, ◌++◌, length, map, Some, Ok, Err, refl, sym}
use Rattle.std.proofs.Common.{◌∙◌, ap, arith, if◌then◌else◌, IsUtf8, codes}
use Rattle.std.specs.List.{AllByRecursion, flat_map}
use Rattle.std.specs.Result.{result_map_both}
use Rattle.std.proofs.lemmas.Bool.{le-ltb, eq-eqb}
use Rattle.std.proofs.lemmas.Grind.{flat_map-append}
use Rattle.flux_defs.specs.declared.limits.TheConstants.{GREATEST_NUMBER}
use Rattle.serde_json.specs.Data.{number, string, object, unsigned, Members, no_members, member}
use Rattle.serde_json.specs.Find.{get}
use Rattle.json_fields.specs.Values.{result_and_then}
use Rattle.json_written.specs.Texts.{readable}
use Rattle.resource_graph.specs.NamedGraph.{NamedGraph}
use Rattle.flux_defs.specs.declared.claims.Claim.{Claim}
use Rattle.idset_text.specs.declared.hostlists.Hosts.{Hosts}
use Rattle.idset_text.specs.declared.idsets.Range.{Range}
use Rattle.idset_text.specs.Idsets.{ids_between, ids_of, runs_of}
use Rattle.idset_text.specs.Hostlists.{hostlist_of, names_of, own_names, AreHostlistsOf}
use Rattle.resource_set_r.specs.declared.faults.FieldPath.{FieldPath}
use Rattle.resource_set_r.specs.declared.faults.FieldPath.TheVariants as field
use Rattle.resource_set_r.specs.declared.faults.Misread.TheVariants as misread
use Rattle.resource_set_r.specs.declared.rows.Children.{Children}
use Rattle.resource_set_r.specs.declared.rows.Element.{Element}
use Rattle.resource_set_r.specs.declared.sets_read.RRow.{RRow}
use Rattle.resource_set_r.specs.ReadRows.{idset_or_none, row_with, row_of, rows_from, execution_of, ranges_in}
use Rattle.resource_set_r.specs.ReadR.{hosts_read, host_value, hosts_from, hosts_fit, hosts_for, second_or_zero}
use Rattle.resource_set_r.specs.ReadBack.{row_of_element}
use Rattle.resource_set_r.specs.WrittenR.{with_ids, children_data, element_data, elements_data, texts_data}
use Rattle.resource_set_r.specs.WrittenR.{with_scheduling}
use Rattle.resource_set_r.proofs.IdsBack.{AreFine, IsFine, text_back, ids_back, readable_utf8}

-- ---- elements

cores_back : (at : FieldPath) (cores gpus : List ℕ) → AreFine cores →
    idset_or_none at (get (codes "core")
    (object (with_ids (codes "core") cores (with_ids (codes "gpu") gpus no_members)))) ≡ Ok (runs_of cores)
cores_back at [] [] fine = refl
cores_back at [] (gpu ∷ gpus) fine = refl
cores_back at (core ∷ cores) gpus fine = text_back at (core ∷ cores) fine

gpus_back : (at : FieldPath) (cores gpus : List ℕ) → AreFine gpus →
    idset_or_none at (get (codes "gpu")
    (object (with_ids (codes "core") cores (with_ids (codes "gpu") gpus no_members)))) ≡ Ok (runs_of gpus)
gpus_back at [] [] fine = refl
gpus_back at (core ∷ cores) [] fine = refl
gpus_back at [] (gpu ∷ gpus) fine = text_back at (gpu ∷ gpus) fine
gpus_back at (core ∷ cores) (gpu ∷ gpus) fine = text_back at (gpu ∷ gpus) fine

children_back : (at : ℕ) (ranks : List Range) (c : Children) → AreFine c.cores → AreFine c.gpus →
    row_with at ranks (children_data c) ≡ Ok (record { ranks = ranks; cores = runs_of c.cores; gpus = runs_of c.gpus })
children_back at ranks c cores gpus =
    let d = children_data c in
    ap (λ r. result_and_then r (λ xs. result_and_then (idset_or_none (field.Gpu at) (get (codes "gpu") d))
    (λ ys. Ok (record { ranks = ranks; cores = xs; gpus = ys })))) (cores_back (field.Core at) c.cores c.gpus cores)
    ∙ ap (λ r. result_and_then r (λ ys. Ok (record { ranks = ranks; cores = runs_of c.cores; gpus = ys })))
    (gpus_back (field.Gpu at) c.cores c.gpus gpus)

element_back : (at : ℕ) (e : Element) → IsFine e → row_of at (element_data e) ≡ Ok (row_of_element e)
element_back at e fine =
    ap (λ r. result_and_then r (λ ranks. row_with at ranks (children_data e.children)))
    (text_back (field.Rank at) e.ranks fine.ranks)
    ∙ children_back at (runs_of e.ranks) e.children fine.cores fine.gpus

pub elements_back : (at : ℕ) (es : List Element) →
    AllByRecursion IsFine es → rows_from at (elements_data es) ≡ Ok (map row_of_element es)
elements_back at [] all = refl
elements_back at (e ∷ es) all =
    ap (λ r. result_and_then r (λ row. result_map_both
    (λ rows. row ∷ rows) (λ m. m) (rows_from (suc at) (elements_data es)))) (element_back at e all.0)
    ∙ ap (result_map_both (λ rows. row_of_element e ∷ rows) (λ m. m)) (elements_back (suc at) es all.1)

-- ---- what the rows say

pub ranks_said : (es : List Element) →
    AllByRecursion IsFine es → map (λ row. ids_of row.ranks) (map row_of_element es) ≡ map (λ e. e.ranks) es
ranks_said [] all = refl
ranks_said (e ∷ es) all = ap (λ x. x ∷ map (λ row. ids_of row.ranks) (map row_of_element es))
    (ids_back e.ranks all.0.ranks) ∙ ap (λ xs. e.ranks ∷ xs) (ranks_said es all.1)

pub cores_said : (es : List Element) →
    AllByRecursion IsFine es → map (λ row. ids_of row.cores) (map row_of_element es) ≡ map (λ e. e.children.cores) es
cores_said [] all = refl
cores_said (e ∷ es) all = ap (λ x. x ∷ map (λ row. ids_of row.cores) (map row_of_element es))
    (ids_back e.children.cores all.0.cores) ∙ ap (λ xs. e.children.cores ∷ xs) (cores_said es all.1)

pub gpus_said : (es : List Element) →
    AllByRecursion IsFine es → map (λ row. ids_of row.gpus) (map row_of_element es) ≡ map (λ e. e.children.gpus) es
gpus_said [] all = refl
gpus_said (e ∷ es) all = ap (λ x. x ∷ map (λ row. ids_of row.gpus) (map row_of_element es))
    (ids_back e.children.gpus all.0.gpus) ∙ ap (λ xs. e.children.gpus ∷ xs) (gpus_said es all.1)

pub all_ranks_said : (es : List Element) →
    AllByRecursion IsFine es → ids_of (ranges_in (map row_of_element es)) ≡ flat_map (λ e. e.ranks) es
all_ranks_said [] all = refl
all_ranks_said (e ∷ es) all =
    flat_map-append ids_between (runs_of e.ranks) (ranges_in (map row_of_element es))
    ∙ ap (λ x. x ++ ids_of (ranges_in (map row_of_element es))) (ids_back e.ranks all.0.ranks)
    ∙ ap (λ xs. e.ranks ++ xs) (all_ranks_said es all.1)

-- ---- hosts

-- the hosts of texts
pub record HostsBack (at : ℕ) (texts names : List (List ℕ)) : Type 0 where
  pub hosts : List Hosts
  pub read : hosts_from at (texts_data texts) ≡ Ok hosts
  pub names_are : names_of hosts ≡ names

pub hosts_back : (at : ℕ) (texts names : List (List ℕ)) →
    AllByRecursion IsUtf8 texts → AreHostlistsOf texts names → HostsBack at texts names
hosts_back at [] names utf8 are = record { hosts = []; read = refl; names_are = sym are }
hosts_back at (text ∷ texts) names utf8 are =
    let hosts = are.0 in
    let others = are.1 in
    let rest = hosts_back (suc at) texts others utf8.1 are.4 in
    let one : host_value at (string (readable text)) ≡ Ok hosts = ap (λ t. hosts_read (field.Host at) (hostlist_of t))
    (readable_utf8 text utf8.0) ∙ ap (hosts_read (field.Host at)) are.2 in
    record {
      hosts = hosts ++ rest.hosts;
      read = ap (λ r. result_and_then r
          (λ hs. result_map_both (λ more. hs ++ more) (λ m. m) (hosts_from (suc at) (texts_data texts)))) one
          ∙ ap (result_map_both (λ more. hosts ++ more) (λ m. m)) rest.read;
      names_are = flat_map-append own_names hosts rest.hosts
          ∙ ap (λ ns. names_of hosts ++ ns) rest.names_are ∙ sym are.3;
    }

-- there are as many as ranks
pub fit_back : (texts : List (List ℕ)) (rows : List RRow) (hosts : List Hosts) →
    length (names_of hosts) ≡ length (ids_of (ranges_in rows)) → hosts_fit (texts_data texts) rows hosts ≡ true
fit_back [] rows hosts same = refl
fit_back (text ∷ texts) rows hosts same = eq-eqb _ _ same

pub hosts_for_back : (texts : List (List ℕ)) (rows : List RRow) (hosts : List Hosts) →
    hosts_from 0 (texts_data texts) ≡ Ok hosts →
    length (names_of hosts) ≡ length (ids_of (ranges_in rows)) → hosts_for rows (texts_data texts) ≡ Ok hosts
hosts_for_back texts rows hosts read same =
    ap (λ r. result_and_then r (λ hs. if hosts_fit (texts_data texts) rows hs then Ok hs else Err misread.Hosts)) read
    ∙ ap (λ b. if b then Ok hosts else Err misread.Hosts) (fit_back texts rows hosts same)

-- ---- seconds, and the execution

pub second_back : (at : FieldPath) (n : ℕ) → n ≤ GREATEST_NUMBER → second_or_zero at (Some (number (unsigned n))) ≡ Ok n
second_back at n le = rw (le-ltb n 0 (omega arith), le-ltb GREATEST_NUMBER n le) refl

pub execution_back : (ms : Members) (g : NamedGraph) (claims : List Claim) →
    execution_of (object (member (codes "execution") (object ms)
    (with_scheduling g claims (member (codes "version") (number (unsigned 1)) no_members)))) ≡ Ok (object ms)
execution_back ms g [] = refl
execution_back ms g (c ∷ cs) = refl
