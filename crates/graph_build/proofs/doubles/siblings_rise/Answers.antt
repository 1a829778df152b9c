use Rattle.std.proofs.Common.{◌≡◌, ℕ, ◌+◌, ◌<◌, List, length, Some, None, slice_get, slice_set}
use Rattle.std.proofs.Common.{sym, ◌∙◌, ap, subst, arith, below_more}
use Rattle.std.proofs.lemmas.Option.{slice_get_within, slice_get-get_or, get_or_from_slice_get}
use Rattle.std.specs.Borrow.{Bor}
use Rattle.graph_build.specs.Keys.{IsNameBefore}
use Rattle.graph_build.proofs.SiblingLaws.{NamesEnd, names_same, no_sibling, new_name, names_more}
use Rattle.graph_build.proofs.doubles.siblings_rise.Goals as goal
use Rattle.graph_build.proofs.doubles.siblings_rise.Goals.{in-Some-index+else-not-is_before, in_default-index}

pub loop-at-preserved-in_default : goal.loop-at-preserved-in_default
loop-at-preserved-in_default c =
    let keys = c.args.keys.now in
    let v = c.loop-at.at in
    let at : slice_get keys v ≡ Some None = slice_get-get_or keys v None (omega arith) ∙ ap Some c.in_default.is in
    record {
      ends = names_same keys v c.loop-at.last.items at c.loop-at.invariant.ends;
      apart = below_more _ _ c.loop-at.invariant.apart (no_sibling keys v at);
    }

pub loop-at-preserved : goal.loop-at-preserved
loop-at-preserved c =
    let keys = c.args.keys.now in
    let v = c.loop-at.at in
    let key = c.in-Some.key in
    let last = c.loop-at.last.items in
    let parent = c.index_of_parent-parent.result in
    let is_parent : parent ≡ key.parent = c.index_of_parent-parent.ensures in
    let at : slice_get keys v ≡ Some (Some key) = slice_get-get_or keys v None (omega arith) ∙ ap Some c.in-Some.is in
    let after : (before : Bor (List ℕ)) → slice_get last key.parent ≡ Some (Some before) →
    IsNameBefore before.now key.name.now = λ before here.
    (let read : c.index.result.now ≡ Some before = c.index.ensures
    ∙ get_or_from_slice_get last parent (Some before) c.index.result.now (ap (slice_get last) is_parent ∙ here) in
    elim c.match-index.branch [
      | in-Some-index+else-not-is_before w ↦ (
          let same : before ≡ w.in-Some-index.before =
          (let e : Some before ≡ Some w.in-Some-index.before = sym read ∙ w.in-Some-index.is in cc) in
          subst (λ (n : Bor (List ℕ)). IsNameBefore n.now key.name.now) (sym same)
          (w.is_before.ensures w.if-not-is_before.false))
      | in_default-index w ↦ absurd (w.in_default-index.not-Some before read)
    ]) in
    let inside : key.parent < length last = omega (arith, c.if-parent-len.false, c.len.ensures, is_parent) in
    record {
      ends = subst (λ (p : ℕ). NamesEnd keys (v + 1) (slice_set last p (Some key.name))) (sym is_parent)
          (names_more keys v key last at c.loop-at.invariant.ends after inside);
      apart = below_more _ _ c.loop-at.invariant.apart
          (new_name keys v key last at c.loop-at.invariant.ends after);
    }

pub returns : goal.returns
returns c = λ _ v bad.
    let lt : v < length c.args.keys.now = slice_get_within c.args.keys.now v (Some bad.2) bad.5 in
    c.loop-at.invariant.apart v (omega arith) bad
