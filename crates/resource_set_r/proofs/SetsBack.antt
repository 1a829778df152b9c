-- R that is written of a job is R of a set that says what the job has.
use Rattle.std.proofs.Common.{◌≡◌, refl, sym, ap, subst, ◌∙◌, ℕ, ◌≤◌, List, length, map, Option, None, Ok}
use Rattle.std.proofs.Common.{IsTrue, codes, arith}
use Rattle.std.specs.List.{AllByRecursion, filter_map, filter}
use Rattle.std.specs.List.Sorted.{IsStrictlyIncreasing}
use Rattle.std.proofs.lemmas.List.{length-map}
use Rattle.std.proofs.lemmas.List.Elements.{All-from_recursion}
use Rattle.flux_defs.specs.declared.limits.TheConstants.{GREATEST_NUMBER}
use Rattle.serde_json.specs.Find.{get}
use Rattle.flux_defs.specs.declared.vertices.Vertex.{Vertex}
use Rattle.flux_defs.specs.declared.claims.Job.{Job}
use Rattle.json_fields.specs.Values.{result_and_then}
use Rattle.resource_graph.specs.NamedGraph.{NamedGraph}
use Rattle.idset_text.specs.Idsets.{ids_of}
use Rattle.idset_text.specs.Hostlists.{is_host_name, names_of, hostlist_texts, AreHostlistsOf}
use Rattle.idset_text.proofs.HostlistTexts.{texts_again}
use Rattle.resource_set_r.specs.declared.faults.FieldPath.TheVariants as field
use Rattle.resource_set_r.specs.declared.rows.Children.{Children}
use Rattle.resource_set_r.specs.declared.rows.Element.{Element}
use Rattle.resource_set_r.specs.declared.sets_read.RRow.{RRow}
use Rattle.resource_set_r.specs.declared.sets_read.RSet.{RSet}
use Rattle.resource_set_r.specs.Rows.{given, ids_among, rank_above, ranks_in, host_of, type_called, part_of, id_of_type}
use Rattle.resource_set_r.specs.Rows.{children_in, elements_of, is_other}
use Rattle.resource_set_r.specs.WrittenR.{execution_data, r_data, r_text}
use Rattle.resource_set_r.specs.ReadRows.{rows_in, ranges_in, IsRepeatedRank}
use Rattle.resource_set_r.specs.ReadR.{hosts_in, seconds_of, second_or_zero, set_with, IsRText}
use Rattle.resource_set_r.specs.ReadBack.{row_of_element, CanBeRead, IsOfJob}
use Rattle.resource_set_r.proofs.Rising.{rising_increases}
use Rattle.resource_set_r.proofs.IdsBack.{Small, AreFine, IsFine, all_rising, all_found, elements_fine}
use Rattle.resource_set_r.proofs.IdsBack.{ranks_of_elements, none_twice}
use Rattle.resource_set_r.proofs.RowsBack.{elements_back, ranks_said, cores_said, gpus_said, all_ranks_said, HostsBack}
use Rattle.resource_set_r.proofs.RowsBack.{hosts_back, hosts_for_back, second_back, execution_back}
use Rattle.resource_set_r.proofs.HostsBack.{utf8_hostlists, ranked_above, rank_small, id_small, host_named}
use Rattle.resource_set_r.proofs.JsonBack.{value_of-r_text}
use Rattle.list_laws.proofs.Lists.{all_mapped}

module _ (g : NamedGraph) (job : Job) (can : CanBeRead g job) where
  abbrev vertices : List Vertex
  vertices = g.resources.vertices

  abbrev ranks : List ℕ
  ranks = ranks_in vertices job.claims

  abbrev es : List Element
  es = elements_of g.resources job.claims

  abbrev names : List (List ℕ)
  names = map (host_of g) ranks

  ranks_fine : AreFine ranks
  ranks_fine = record {
    rise = rising_increases (filter_map (rank_above vertices) (given vertices job.claims));
    small = all_rising Small (filter_map (rank_above vertices) (given vertices job.claims))
        (all_found Small (rank_above vertices) (given vertices job.claims) (λ v rank e.
        let above = ranked_above vertices v rank e in rank_small vertices can.numbers above.0 rank above.2));
  }

  ids_fine : (kind : Option ℕ) (part : List ℕ) → AreFine (ids_among vertices kind part)
  ids_fine kind part = record {
    rise = rising_increases (filter_map (id_of_type vertices kind) part);
    small = all_rising Small (filter_map (id_of_type vertices kind) part)
        (all_found Small (id_of_type vertices kind) part (id_small vertices can.numbers kind));
  }

  abbrev children : ℕ → Children
  children = children_in vertices
      (type_called g.resources (codes "core")) (type_called g.resources (codes "gpu")) (given vertices job.claims)

  fine : AllByRecursion IsFine es
  fine = elements_fine children (λ rank. (
    ids_fine (type_called g.resources (codes "core")) (part_of vertices (given vertices job.claims) rank),
    ids_fine
        (type_called g.resources (codes "gpu")) (part_of vertices (given vertices job.claims) rank),
  )) ranks ranks_fine

  named : AllByRecursion (λ name. IsTrue (is_host_name name)) names
  named =
      all_mapped (λ name. IsTrue (is_host_name name)) (host_of g) ranks
      (all_rising (λ rank. IsTrue (is_host_name (host_of g rank)))
      (filter_map (rank_above vertices) (given vertices job.claims))
      (all_found (λ rank. IsTrue (is_host_name (host_of g rank))) (rank_above vertices) (given vertices job.claims)
      (λ v rank e.
      let above = ranked_above vertices v rank e in host_named g rank above.0 can.named can.names above.1 above.2)))

  again : AreHostlistsOf (hostlist_texts names) names
  again = texts_again names (All-from_recursion (λ name. IsTrue (is_host_name name)) names named)

  back : HostsBack 0 (hostlist_texts names) names
  back = hosts_back 0 (hostlist_texts names) names (utf8_hostlists names named) again

  abbrev rows : List RRow
  rows = map row_of_element es

  all_ranks : ids_of (ranges_in rows) ≡ ranks
  all_ranks = all_ranks_said es fine ∙ ranks_of_elements children ranks

  as_many : length (names_of back.hosts) ≡ length (ids_of (ranges_in rows))
  as_many = ap length back.names_are ∙ length-map ranks (host_of g) ∙ ap length (sym all_ranks)

  abbrev set : RSet
  set = record { rows = rows; hosts = back.hosts; start = job.start; end = job.end }

  rows_read : rows_in (execution_data g job) ≡ Ok rows
  rows_read = elements_back 0 es fine

  hosts_read_back : hosts_in rows (execution_data g job) ≡ Ok back.hosts
  hosts_read_back = hosts_for_back (hostlist_texts names) rows back.hosts back.read as_many

  seconds_read : seconds_of (execution_data g job) ≡ Ok (job.start, job.end)
  seconds_read =
      ap (λ r. result_and_then r (λ start. result_and_then
      (second_or_zero field.Expiration (get (codes "expiration") (execution_data g job))) (λ end. Ok (start, end))))
      (second_back field.Starttime job.start can.start)
      ∙ ap (λ r. result_and_then r (λ end. Ok (job.start, end))) (second_back field.Expiration job.end can.end)

  set_read : set_with rows (execution_data g job) ≡ Ok set
  set_read =
      ap (λ r. result_and_then r (λ hosts. result_and_then (seconds_of (execution_data g job))
      (λ seconds. Ok (record { rows = rows; hosts = hosts; start = seconds.0; end = seconds.1 })))) hosts_read_back
      ∙ ap (λ r. result_and_then r
      (λ seconds. Ok (record { rows = rows; hosts = back.hosts; start = seconds.0; end = seconds.1 }))) seconds_read

  none : IsRepeatedRank (ranges_in rows) None
  none = none_twice (ranges_in rows) (subst (λ (ns : List ℕ). IsStrictlyIncreasing ns) (sym all_ranks) ranks_fine.rise)

  is_text : IsRText (r_text g job) set
  is_text = (
    r_data g job,
    value_of-r_text g job (let le : job.start ≤ GREATEST_NUMBER = can.start in omega arith)
        (let le : job.end ≤ GREATEST_NUMBER = can.end in omega arith) can.quantities,
    (
      execution_data g job,
      rows,
      (execution_back _ g (filter (is_other g.resources) job.claims), rows_read),
      none,
      set_read,
    ),
  )

  is_of_job : IsOfJob g job set
  is_of_job = record {
    rows = refl;
    ranks = ranks_said es fine;
    cores = cores_said es fine;
    gpus = gpus_said es fine;
    all_ranks = all_ranks;
    hosts = back.names_are;
    start = refl;
    end = refl;
  }

  pub set_back : (s : RSet) × IsRText (r_text g job) s × IsOfJob g job s
  set_back = (set, is_text, is_of_job)
