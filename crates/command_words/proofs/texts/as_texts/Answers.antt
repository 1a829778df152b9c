use Rattle.std.proofs.Common.{◌≡◌, ℕ, ◌+◌, ◌++◌, ◌∷◌, [], List, All, IsUtf8, map, string_bytes, take, String, Global}
use Rattle.std.proofs.Common.{sym, ◌∙◌, ap, subst}
use Rattle.std.proofs.lemmas.List.Elements.{All-more}
use Rattle.std.proofs.lemmas.List.{take_more, map-append}
use Rattle.std.proofs.Common.{take_all}
use Rattle.command_words.proofs.texts.as_texts.Goals as goal

pub returns-in_default : goal.returns-in_default
returns-in_default c = λ all.
    let items = c.items-word-items.result.now in
    let each = subst (All IsUtf8) (sym c.items-word-items.ensures) all in
    c.in_default.ensures.cases.0 (subst IsUtf8 (sym c.word-item.is ∙ sym c.bytes.ensures)
    (each c.loop-word.word-index c.word-item.result c.loop-word-test.true))

-- one text more
pushed : (old new : List (String Global)) (text : String Global) (items : List (List ℕ)) (at : ℕ) (item : List ℕ) →
    new ≡ old ++ text ∷ [] → map string_bytes old ≡ take at items →
    string_bytes text ≡ item → take (at + 1) items ≡ take at items ++ item ∷ [] → map string_bytes new ≡ take
    (at + 1) items
pushed old new text items at item is so_far this more =
    ap (map string_bytes) is ∙ (map-append string_bytes old (text ∷ [])
    ∙ (ap (λ xs. xs ++ string_bytes text ∷ []) so_far ∙ (ap (λ x. take at items ++ x ∷ []) this ∙ sym more)))

pub loop-word-preserved : goal.loop-word-preserved
loop-word-preserved c =
    let items = c.items-word-items.result.now in
    let at = c.loop-word.word-index in
    let item = c.word-item.result in
    let more = take_more items at item c.loop-word-test.true in
    let utf8 = subst IsUtf8 (c.bytes.ensures ∙ c.word-item.is) c.in-Ok.ensures.cases.1 in
    record {
      utf8 = All-more IsUtf8 items at item c.loop-word-test.true c.loop-word.invariant.utf8 utf8;
      same = pushed c.loop-word.texts.items c.push.new.self.items
          c.in_ok-from_str.field-0 items at item c.in_ok-push.ensures.items c.loop-word.invariant.same
          (c.in_ok-from_str.ensures.ok ∙ (c.in-Ok.ensures.cases.0 ∙ c.bytes.ensures))
          (more ∙ ap (λ x. take at items ++ x ∷ []) (sym c.word-item.is));
    }

pub returns : goal.returns
returns c =
    let items = c.items-word-items.result.now in
    let whole = take_all c.loop-word.word-index items c.loop-word-test.false ∙ c.items-word-items.ensures in
    (subst (All IsUtf8) whole c.loop-word.invariant.utf8, c.loop-word.invariant.same ∙ whole)
