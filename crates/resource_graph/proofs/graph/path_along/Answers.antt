use Rattle.std.proofs.Common.{◌≡◌, ℕ, ◌+◌, ◌-◌, ◌<◌, ◌≤◌, List, [], ◌∷◌, ◌++◌, length, get_or, drop, reverse, refl, sym}
use Rattle.std.proofs.Common.{◌∙◌, ap, subst, arith}
use Rattle.std.specs.List.{flat_map}
use Rattle.std.specs.Prelude.{unwrap_or}
use Rattle.std.proofs.lemmas.List.{drop_more, append_assoc, reverse-append, append-nil}
use Rattle.std.proofs.lemmas.List.Concat.{flat_map-append}
use Rattle.std.proofs.lemmas.Option.{slice_get_read, slice_get-get_or}
use Rattle.resource_graph.specs.NamedGraph.{name_step}
use Rattle.resource_graph.proofs.graph.path_along.Goals as goal

-- the step of the vertex at an index stands before those of the vertices after it
path_more : (names : List (List ℕ)) (chain : List ℕ) (left : ℕ) (path name after : List ℕ) →
    0 < left → left ≤ length chain →
    path ≡ flat_map (name_step names) (reverse (drop left chain)) → get_or chain (left - 1) 0 < length names →
    name ≡ get_or names (get_or chain (left - 1) 0) name → after ≡ (path ++ 47 ∷ []) ++ name →
    after ≡ flat_map (name_step names) (reverse (drop (left - 1) chain))
path_more names chain left path name after some within before known read grown =
    let x = get_or chain (left - 1) 0 in
    let f = name_step names in
    let next : left - 1 + 1 ≡ left = omega arith in
    let split : drop (left - 1) chain ≡ x ∷ drop left chain =
    drop_more chain (left - 1) 0 (omega arith) ∙ ap (λ n. x ∷ drop n chain) next in
    let turned : reverse (drop (left - 1) chain) ≡ reverse (drop left chain) ++ x ∷ [] =
    ap reverse split ∙ reverse-append (x ∷ []) (drop left chain) in
    let step : f x ≡ 47 ∷ name =
    ap (λ o. 47 ∷ unwrap_or o []) (slice_get_read names (length names) x name refl known read) in
    let whole : flat_map f (reverse (drop (left - 1) chain)) ≡ flat_map f (reverse (drop left chain)) ++ f x =
    ap (flat_map f) turned ∙ (flat_map-append f (reverse (drop left chain)) (x ∷ [])
    ∙ ap (λ l. flat_map f (reverse (drop left chain)) ++ l) (append-nil (f x))) in
    grown ∙ (append_assoc path (47 ∷ []) name ∙ (ap (λ p. p ++ 47 ∷ name) before
    ∙ (ap (λ l. flat_map f (reverse (drop left chain)) ++ l) (sym step) ∙ sym whole)))

pub loop-left-preserved : goal.loop-left-preserved
loop-left-preserved c =
    let one : c.push.new.self.items ≡ c.loop-left.path.items ++ 47 ∷ [] = c.in_ok-push.ensures.items in
    let grown : c.extend_from_slice.new.self.items ≡ c.push.new.self.items ++ c.bytes.result.now =
    c.in_ok-extend_from_slice.ensures.items in (
      omega arith,
      path_more c.args.names.now
          c.args.chain.now c.loop-left.left c.loop-left.path.items c.bytes.result.now c.extend_from_slice.new.self.items
          (omega arith) c.loop-left.invariant.0 c.loop-left.invariant.1
          (c.requires (c.loop-left.left - 1) _
          (slice_get-get_or c.args.chain.now (c.loop-left.left - 1) 0 (omega arith)))
          (subst (λ (t : List ℕ). t ≡ get_or c.args.names.now (get_or c.args.chain.now (c.loop-left.left - 1) 0) t)
          (sym c.bytes.ensures) c.index-names-chain.is)
          (grown ∙ ap (λ p. p ++ c.bytes.result.now) one),
    )
