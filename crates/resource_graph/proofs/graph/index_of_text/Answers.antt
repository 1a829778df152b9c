use Rattle.std.proofs.Common.{◌≡◌, ◌≢◌, ℕ, ◌<◌, List, length, get_or, Some, true, false, sym, ◌∙◌, ap, below_more}
use Rattle.std.proofs.Common.{arith}
use Rattle.std.specs.Prelude.{slice_get}
use Rattle.std.proofs.lemmas.Bool.{both_ways}
use Rattle.std.proofs.lemmas.Option.{slice_get-get_or, slice_get_within, same_Some}
use Rattle.std.proofs.lemmas.Slice.Eq.{bytes_eq-Decides}
use Rattle.std.specs.Str.{bytes_eq}
use Rattle.resource_graph.proofs.graph.index_of_text.Goals as goal

there : (texts : List (List ℕ)) (i : ℕ) (text bytes wanted : List ℕ) →
    i < length texts → text ≡ get_or texts i text → bytes ≡ text →
    true ≡ bytes_eq bytes wanted → slice_get texts i ≡ Some wanted
there texts i text bytes wanted lt is same e =
    let equal : bytes ≡ wanted = (bytes_eq-Decides bytes wanted).0 (sym e) in
    slice_get-get_or texts i text lt ∙ ap Some (sym is ∙ (sym same ∙ equal))

other : (texts : List (List ℕ)) (i : ℕ) (text bytes wanted : List ℕ) →
    i < length texts → text ≡ get_or texts i text → bytes ≡ text →
    false ≡ bytes_eq bytes wanted → slice_get texts i ≢ Some wanted
other texts i text bytes wanted lt is same e at =
    let found : get_or texts i text ≡ wanted = same_Some _ _ (sym (slice_get-get_or texts i text lt) ∙ at) in
    both_ways (bytes_eq bytes wanted) (sym e) ((bytes_eq-Decides bytes wanted).1 (same ∙ (is ∙ found)))

pub returns-then-eq : goal.returns-then-eq
returns-then-eq c = record {
  found = (
    there c.args.texts.now c.loop-index.index c.index-texts-index.result c.bytes.result.now c.args.wanted.now
        (omega arith) c.index-texts-index.is c.bytes.ensures c.if-eq.ensures,
    c.loop-index.invariant,
  );
}

pub loop-index-preserved : goal.loop-index-preserved
loop-index-preserved c = below_more _ _ c.loop-index.invariant
    (other c.args.texts.now c.loop-index.index c.index-texts-index.result c.bytes.result.now c.args.wanted.now
    (omega arith) c.index-texts-index.is c.bytes.ensures c.if-eq.ensures)

pub returns : goal.returns
returns c = record {
  found = λ k e. let lt : k < length c.args.texts.now = slice_get_within c.args.texts.now k c.args.wanted.now e in
      c.loop-index.invariant k (omega arith) e;
}
