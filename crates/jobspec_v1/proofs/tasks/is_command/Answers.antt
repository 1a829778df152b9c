use Rattle.std.proofs.Common.{◌≡◌, refl, sym, ◌∙◌, ap, ◌&&◌, ◌==◌, false, List, [], ◌∷◌, length, Global}
use Rattle.std.specs.Option.{option_map_or}
use Rattle.json.specs.declared.value.Value.{Value}
use Rattle.json_whole.specs.Values.{items_view}
use Rattle.serde_json.specs.Data.{Items}
use Rattle.jobspec_v1.specs.Tasks.{are_texts, is_some_items}
use Rattle.jobspec_v1.proofs.tasks.is_command.Goals as goal

texts_some : (vs : List (Value Global)) →
    (length vs == 0) ≡ false → are_texts (items_view vs) ≡ (is_some_items (items_view vs) && are_texts (items_view vs))
texts_some [] some = absurd (cc)
texts_some (v ∷ vs) some = refl

pub returns-then-not-is_empty : goal.returns-then-not-is_empty
returns-then-not-is_empty c =
    let some = ap (λ n. n == 0) c.as_slice.ensures.len ∙ (sym c.is_empty.ensures ∙ c.if-not-is_empty.true) in
    let texts = c.are_texts.ensures ∙ texts_some c.as_slice.result.now some in
    texts ∙ (ap (λ vs. is_some_items (items_view vs) && are_texts (items_view vs)) c.as_slice.ensures.value
    ∙ ap (λ o. option_map_or (λ (ds : Items). is_some_items ds && are_texts ds) o false) (c.in-Some.ensures))
