use Rattle.std.proofs.Common.{◌≡◌, ◌%◌, ◌+◌, ◌<◌, ℕ, Option, None, Some, length, get_or, sym, ◌∙◌, ap, subst, arith}
use Rattle.std.specs.List.{fold}
use Rattle.std.specs.Option.{option_map_or}
use Rattle.std.proofs.lemmas.Option.{slice_get-get_or}
use Rattle.resource_graph.specs.Paths.{mixed, path_bucket}
use Rattle.resource_graph.proofs.PathLaws.{IsAhead, ahead_from, ahead_next, last_less}
use Rattle.resource_graph.proofs.paths.place_of.Goals as goal

pub loop-at-init : goal.loop-at-init
loop-at-init c =
    let vertices = c.args.vertices.now in
    let last = c.args.last.now in
    let wide : length last ≡ length vertices = c.requires.places.as_wide in
    let some : 0 < length last = omega arith in
    let within : c.hash_on.result % length last < length last = omega arith in
    ahead_from vertices c.args.names.now c.args.path.now (length vertices) (c.hash_on.result % length last) _
    (omega arith)
    (ap (λ h. h % length last) c.hash_on.ensures ∙ ap (λ n. fold mixed 0 c.args.path.now % n) wide)
    (λ u le lt e. omega arith)
    (c.requires.places.last _ _ (slice_get-get_or last _ None within))

pub loop-at-preserved : goal.loop-at-preserved
loop-at-preserved c =
    let vertices = c.args.vertices.now in
    let earlier = c.args.earlier.now in
    let v = c.in-Some.vertex in
    let many : length earlier ≡ length vertices = c.requires.places.as_many in
    let ahead : IsAhead vertices c.args.names.now c.args.path.now (Some v) =
    subst (λ (o : Option ℕ). IsAhead vertices c.args.names.now c.args.path.now o) c.in-Some.is c.loop-at.invariant in
    let within : v < length vertices = ahead.0 in
    ahead_next vertices c.args.names.now c.args.path.now v _ ahead (λ e. absurd (cc (c.is_path.ensures.1 e)))
    (c.requires.places.earlier v _ (slice_get-get_or earlier v None (omega arith)))

pub loop-at-smaller : goal.loop-at-smaller
loop-at-smaller c =
    let vertices = c.args.vertices.now in
    let earlier = c.args.earlier.now in
    let v = c.in-Some.vertex in
    let many : length earlier ≡ length vertices = c.requires.places.as_many in
    let ahead : IsAhead vertices c.args.names.now c.args.path.now (Some v) =
    subst (λ (o : Option ℕ). IsAhead vertices c.args.names.now c.args.path.now o) c.in-Some.is c.loop-at.invariant in
    let within : v < length vertices = ahead.0 in
    let small : option_map_or (λ u. u + 1) (get_or earlier v None) 0 < v + 1 =
    last_less (path_bucket vertices c.args.names.now) v _ (get_or earlier v None)
    (c.requires.places.earlier v _ (slice_get-get_or earlier v None (omega arith))) in
    subst (λ (o : Option ℕ). option_map_or (λ u. u + 1) (get_or earlier v None) 0 < option_map_or (λ u. u + 1) o 0)
    (sym c.in-Some.is) small
