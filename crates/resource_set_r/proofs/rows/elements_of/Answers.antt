use Rattle.std.proofs.Common.{◌≡◌, sym, subst, ℕ, suc, ◌≤◌, ◌-◌, ap, ◌∙◌, take, [], ◌∷◌, List, length, get_or, drop}
use Rattle.std.proofs.Common.{Result, Ok, Err, IfOk, All, Vec, Global, arith}
use Rattle.std.specs.List.{filter_map}
use Rattle.std.specs.declared.alloc.AllocError.{AllocError}
use Rattle.resource_set_r.specs.declared.rows.Children.{Children}
use Rattle.resource_set_r.specs.declared.rows.Element.{Element}
use Rattle.resource_set_r.specs.Rows.{id_of_type, part_of, children_in, elements}
use Rattle.resource_set_r.specs.WrittenR.{RisesWithin}
use Rattle.std.proofs.lemmas.List.{take_all}
use Rattle.resource_set_r.proofs.Rising.{rising_increases, elements_rise}
use Rattle.resource_set_r.proofs.rows.elements_of.Goals as goal

rise : (es : List Element) (r : Result (Vec Element Global) AllocError) →
    All RisesWithin es → IfOk r (λ v. v.items ≡ es) → IfOk r (λ v. All RisesWithin v.items)
rise es (Ok v) all same = subst (λ (xs : List Element). All RisesWithin xs) (sym same) all
rise es (Err e) all same = tt

whole : (f : ℕ → Children) (ranks : List ℕ) →
    1 ≤ length ranks → elements f (get_or ranks 0 0 ∷ take (length ranks - 1) (drop 1 ranks)) ≡ elements f ranks
whole f [] some = absurd (omega arith)
whole f (rank ∷ ranks) some =
    let e : suc (length ranks) - 1 ≡ length ranks = omega arith in
    ap (λ n. elements f (rank ∷ take n ranks)) e
    ∙ ap (λ rs. elements f (rank ∷ rs)) (take_all (length ranks) ranks (omega arith))

pub returns-in-len1-up-clause-rising : goal.returns-in-len1-up-clause-rising
returns-in-len1-up-clause-rising c =
    let vertices = c.args.graph.now.resources.vertices in
    let f = children_in vertices c.args.types.core c.args.types.gpu c.args.given.now in
    let ranks = c.args.ranks.now in
    let same : IfOk c.elements_from.result (λ v. v.items ≡ elements f ranks) =
    subst (λ es. IfOk c.elements_from.result (λ v. v.items ≡ es))
    (whole f ranks c.in-len1-up.len_at_least) c.elements_from.ensures in
    rise (elements f ranks) c.elements_from.result (elements_rise f (λ rank. (
      rising_increases (filter_map (id_of_type vertices c.args.types.core) (part_of vertices c.args.given.now rank)),
      rising_increases (filter_map (id_of_type vertices c.args.types.gpu) (part_of vertices c.args.given.now rank)),
    )) ranks c.requires.ranks) same
