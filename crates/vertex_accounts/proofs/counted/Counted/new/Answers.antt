use Rattle.std.proofs.Common.{◌≡◌, List, ℕ, Some, option_copied, slice_get, sym, ◌∙◌, ap, subst, arith}
use Rattle.std.proofs.Common.{None}
use Rattle.std.proofs.lemmas.Option.{slice_get_within}
use Rattle.prune_filters.specs.Filters.{IsCounted}
use Rattle.vertex_accounts.specs.Counts.{IsPlaceAdded}
use Rattle.vertex_accounts.proofs.CountLaws.{one_type, past_list}
use Rattle.vertex_accounts.proofs.FewTypes.{few_kept}
use Rattle.vertex_accounts.proofs.counted.Counted.new.Goals as goal

pub loop-name-preserved : goal.loop-name-preserved
loop-name-preserved c =
    let kinds = c.args.graph.now.resources.kinds in
    let at : slice_get kinds c.loop-name.kind ≡ Some c.in-Some.name.now =
    sym c.kind_name.ensures ∙ ap option_copied c.in-Some.is in
    record {
      counted = c.in_ok-add_type.ensures.counted;
      places = one_type kinds (IsCounted c.args.rules.now) c.loop-name.kind
          c.in-Some.name.now c.loop-name.counted.places c.add_type.new.self.places c.loop-name.invariant.places at
          (subst (λ (name : List ℕ). IsPlaceAdded (IsCounted c.args.rules.now name)
          c.loop-name.counted.places c.add_type.new.self.places) c.bytes.ensures c.in_ok-add_type.ensures.place);
    }

pub returns-clause-kinds : goal.returns-clause-kinds
returns-clause-kinds c = λ kind name at counted.
    let kinds = c.args.graph.now.resources.kinds in
    let none : slice_get kinds c.loop-name.kind ≡ None = sym c.kind_name.ensures ∙ ap option_copied c.in_default.is in
    let past = past_list kinds c.loop-name.kind none in
    let inside = slice_get_within kinds kind name at in
    c.loop-name.invariant.places.counted kind name (omega (arith, past, inside)) at counted

pub returns-clause-types : goal.returns-clause-types
returns-clause-types c =
    few_kept c.loop-name.counted.places c.args.graph.now.resources.kinds
    c.args.rules.now c.is_valid.ensures.valid.kinds.apart c.loop-name.invariant.places.only
