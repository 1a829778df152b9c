use Rattle.std.proofs.Common.{◌≡◌, ◌%◌, ◌<◌, ℕ, length, get_or, refl, subst, arith}
use Rattle.std.proofs.lemmas.Option.{slice_get_read}
use Rattle.resource_graph.specs.Paths.{HasPlacesTo, bucket_in}
use Rattle.resource_graph.proofs.PathLaws.{places_none, places_more}
use Rattle.resource_graph.proofs.paths.places_of.Goals as goal

pub loop-v-init : goal.loop-v-init
loop-v-init c = places_none (bucket_in c.args.hashes.now) (length c.args.hashes.now) c.in_ok-last.last.items
    c.in_ok-earlier.earlier.items c.in_ok-last.ensures c.in_ok-earlier.ensures.items

pub loop-v-preserved : goal.loop-v-preserved
loop-v-preserved c =
    let hashes = c.args.hashes.now in
    let last = c.loop-v.last.items in
    let some : 0 < length hashes = omega arith in
    let wide : length last ≡ length hashes = c.loop-v.invariant.as_wide in
    let within : get_or hashes c.loop-v.v 0 % length hashes < length last = omega arith in
    places_more (bucket_in hashes) (length hashes) c.loop-v.v (get_or hashes c.loop-v.v 0 % length hashes) last
    c.loop-v.earlier.items c.push.new.self.items c.index.result.now refl
    (slice_get_read last (length last) _ c.index.result.now refl within c.index.ensures)
    c.in_ok-push.ensures.items c.loop-v.invariant

pub returns : goal.returns
returns c =
    let all : c.loop-v.v ≡ length c.args.hashes.now = omega arith in
    subst (λ (n : ℕ). HasPlacesTo (bucket_in c.args.hashes.now) (length c.args.hashes.now) n c.loop-v.last.items
    c.loop-v.earlier.items) all c.loop-v.invariant
