-- The rules of a text are determined, and a text with a fault has none.
use Rattle.std.proofs.Common.{◌≡◌, ℕ, List, [], ◌∷◌, ◌++◌, refl, sym, ◌∙◌, subst}
use Rattle.std.specs.List.{AllByRecursion, AllZip}
use Rattle.prune_filters.specs.declared.rules.Rule.{Rule}
use Rattle.prune_filters.specs.Names.{items_of}
use Rattle.prune_filters.specs.Filters.{Spells, IsRule, AreRulesOf, IsFirstFault}
use Rattle.prune_filters.proofs.TextLaws.{no_colon, cut_once, zip_rules}

-- an item spells one rule
one_rule : (item : List ℕ) (r s : Rule) → Spells item r → Spells item s → r ≡ s
one_rule item r s one two =
    let parts = cut_once r.high r.low s.high s.low (no_colon r.high one.high) (no_colon s.high two.high)
    (sym one.spelled ∙ two.spelled) in
    λ i. record { high = parts.0 i; low = parts.1 i }

zip_one : (items : List (List ℕ)) (rs ss : List Rule) → AllZip Spells items rs → AllZip Spells items ss → rs ≡ ss
zip_one [] [] [] one two = refl
zip_one [] [] (s ∷ ss) one two = elim two [ ]
zip_one [] (r ∷ rs) ss one two = elim one [ ]
zip_one (i ∷ is) [] ss one two = elim one [ ]
zip_one (i ∷ is) (r ∷ rs) [] one two = elim two [ ]
zip_one (i ∷ is) (r ∷ rs) (s ∷ ss) one two =
    let heads = one_rule i r s one.0 two.0 in
    let tails = zip_one is rs ss one.1 two.1 in
    λ j. heads j ∷ tails j

-- a text has at most one list of rules
pub one_list : (text : List ℕ) (rs ss : List Rule) → AreRulesOf text rs → AreRulesOf text ss → rs ≡ ss
one_list text rs ss one two = zip_one (items_of text) rs ss one two

at_item : (before : List (List ℕ)) (item : List ℕ) (after : List (List ℕ)) → AllByRecursion IsRule
    (before ++ item ∷ after) → IsRule item
at_item [] item after all = all.0
at_item (b ∷ before) item after all = at_item before item after all.1

-- a text with a broken item has none
pub no_list : (text : List ℕ) (at : ℕ) (rs : List Rule) → IsFirstFault text at → AreRulesOf text rs → ⊥
no_list text at rs fault rules = fault.broken (at_item fault.before fault.item fault.after
    (subst (AllByRecursion IsRule) fault.items (zip_rules (items_of text) rs rules)))
