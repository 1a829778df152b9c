-- Filter rules (pruning filters, as flux-sched has them): which texts are rules, and what they keep.
use Rattle.std.specs.Prelude.{◌≡◌, ℕ, ◌+◌, ◌⊎◌, ⊤, List, ◌∷◌, ◌++◌, length, sum_by, Any, IsTrue, codes}
use Rattle.std.specs.List.{AllByRecursion, AllZip}
use Rattle.prune_filters.specs.declared.rules.Rule.{Rule}
use Rattle.prune_filters.specs.declared.rules.FilterFault.{FilterFault}
use Rattle.prune_filters.specs.declared.rules.FilterFault.TheVariants.{Form, Memory}
use Rattle.prune_filters.specs.Names.{is_type_name, items_of}

-- the item is the rule's two types with a colon (58) between
pub record Spells (item : List ℕ) (rule : Rule) : Type 0 where
  pub high : IsTrue (is_type_name rule.high)
  pub low : IsTrue (is_type_name rule.low)
  pub spelled : item ≡ rule.high ++ 58 ∷ rule.low

-- the item is a rule
abbrev pub IsRule : List ℕ → Type 0
IsRule item = (rule : Rule) × Spells item rule

-- the text is these rules, one an item
abbrev pub AreRulesOf : List ℕ → List Rule → Type 0
AreRulesOf text rules = AllZip Spells (items_of text) rules

-- `at` is the first byte of the first item that is no rule
pub record IsFirstFault (text : List ℕ) (at : ℕ) : Type 0 where
  pub before : List (List ℕ)
  pub item : List ℕ
  pub after : List (List ℕ)
  pub items : items_of text ≡ before ++ item ∷ after
  pub rules : AllByRecursion IsRule before
  pub broken : IsRule item → ⊥
  pub place : at ≡ sum_by (λ i. length i + 1) before

-- the fault that a text may give: its first broken item, or want of memory at any time
abbrev pub IsFaultOf : List ℕ → FilterFault → Type 0
IsFaultOf text (Form at) = IsFirstFault text at
IsFaultOf text Memory = ⊤

-- some rule has this lower type, and this higher one or `ALL`
abbrev pub IsKept : List Rule → List ℕ → List ℕ → Type 0
IsKept rules high low = Any (λ rule. (rule.low ≡ low) × ((rule.high ≡ high) ⊎ (rule.high ≡ codes "ALL"))) rules

-- some rule has this lower type
abbrev pub IsCounted : List Rule → List ℕ → Type 0
IsCounted rules low = Any (λ rule. rule.low ≡ low) rules
