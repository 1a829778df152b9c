use Rattle.std.proofs.Common.{◌∷◌, ◌++◌, [], List, Option, Some, ℕ, refl, sym, ◌∙◌, ap, subst}
use Rattle.vertex_accounts.specs.declared.quantities.Quantity.TheVariants.{Units}
use Rattle.vertex_accounts.specs.Capacities.{AreOf}
use Rattle.vertex_accounts.proofs.CountLaws.{no_place, own_place}
use Rattle.vertex_accounts.proofs.counted.Counted.add_type.Goals as goal

pub returns-then-not-counts-clause-counted : goal.returns-then-not-counts-clause-counted
returns-then-not-counts-clause-counted c =
    no_place c.args.graph.now.resources.vertices c.args.self.now c.push_place.new.self c.requires.counted
    c.in_ok-push_place.ensures.quantities c.in_ok-push_place.ensures.places

pub returns-clause-counted : goal.returns-clause-counted
returns-clause-counted c =
    let vertices = c.args.graph.now.resources.vertices in
    let old = c.args.self.now in
    let capacities = c.in_ok-capacities.capacities in
    let of = c.in_ok-capacities.ensures in
    own_place vertices old c.push_place-2.new.self c.requires.counted
    (Units capacities) (of.kind_is ∙ sym c.requires.next)
    (subst (λ (k : ℕ). AreOf vertices k capacities) (sym of.kind_is) of) refl
    (c.in_ok-push_place-2.ensures.quantities ∙ c.in_ok-push_quantity.ensures.quantities)
    (c.in_ok-push_place-2.ensures.places
    ∙ ap (λ (ps : List (Option ℕ)). ps ++ Some c.len-place.result ∷ []) c.in_ok-push_quantity.ensures.places
    ∙ ap (λ (n : ℕ). old.places ++ Some n ∷ []) c.len-place.ensures)
