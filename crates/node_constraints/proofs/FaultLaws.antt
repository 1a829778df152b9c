-- The fault that is meant.
use Rattle.std.proofs.Common.{◌≡◌, refl, sym, ◌∙◌, ap, subst, arith, ℕ, ◌+◌, ◌*◌, ◌<◌, ◌≤◌, drop, get_or, length, List}
use Rattle.std.proofs.Common.{◌∷◌, ◌++◌, append_assoc, Option, Some, None, Global}
use Rattle.std.proofs.lemmas.List.{drop_more}
use Rattle.std.specs.Option.{option_or}
use Rattle.node_constraints.specs.declared.faults.ConstraintFault.{ConstraintFault}
use Rattle.node_constraints.specs.declared.faults.ConstraintFault.TheVariants.{Form, Memory}
use Rattle.json.specs.declared.value.Value.{Value}
use Rattle.serde_json.specs.Data.{depth, items_depth, Data, null, boolean, number, string, array, object}
use Rattle.serde_json.specs.Find.{as_array, as_object}
use Rattle.json_whole.specs.Values.{view, items_view}
use Rattle.json_fields.specs.Paths.{index}
use Rattle.json_fields.proofs.Depths.{at_depth}
use Rattle.node_constraints.specs.declared.keys.Key.{Key}
use Rattle.node_constraints.specs.Faults.{fault_at, key_fault, items_fault}
use Rattle.node_constraints.specs.Narrowing.{Means}

-- a fault of the first is that of all
pub first_means : (path : List ℕ) (first later : Option (List ℕ)) (fault : ConstraintFault) → Means path first fault →
    Means path (option_or first later) fault
first_means path first later (Form rest) means = ap (λ o. option_or o later) means
first_means path first later Memory means = tt

-- where the first has none, that of the others is that of all
pub later_is : (first later : Option (List ℕ)) → first ≡ None → option_or first later ≡ later
later_is first later none = ap (λ o. option_or o later) none

-- another fault that is as good
pub means_same : (path : List ℕ) (meant other : Option (List ℕ)) (fault : ConstraintFault) → meant ≡ other →
    Means path meant fault → Means path other fault
means_same path meant other (Form rest) same means = sym same ∙ means
means_same path meant other Memory same means = tt

-- a fault that is told from further out
pub means_behind : (path front rest text : List ℕ) (meant : Option (List ℕ)) → text ≡ front ++ rest →
    Means (path ++ front) meant (Form rest) → Means path meant (Form text)
means_behind path front rest text meant joined means =
    means ∙ (ap Some (append_assoc path front rest) ∙ ap (λ t. Some (path ++ t)) (sym joined))

-- what is no object has its fault in itself
pub no_object : (path : List ℕ) (d : Data) → as_object d ≡ None → fault_at path d ≡ Some path
no_object path null none = refl
no_object path (boolean b) none = refl
no_object path (number x) none = refl
no_object path (string s) none = refl
no_object path (array ds) none = refl
no_object path (object ms) none = absurd (cc)

-- so has a constraint that has no list at a key
pub no_list : (path k : List ℕ) (key : Key) (d : Data) → as_array d ≡ None → key_fault path k (Some key) d ≡ Some path
no_list path k key null none = refl
no_list path k key (boolean b) none = refl
no_list path k key (number x) none = refl
no_list path k key (string s) none = refl
no_list path k key (array ds) none = absurd (cc)
no_list path k key (object ms) none = refl

-- a member of a list, by its index
module _ (vs : List (Value Global)) (at : ℕ) (x : Value Global) (lt : at < length vs) (is : x ≡ get_or vs at x) where
  -- the rest of the list begins with it
  pub rest_here : drop at vs ≡ x ∷ drop (at + 1) vs
  rest_here = drop_more vs at x lt ∙ ap (λ y. y ∷ drop (at + 1) vs) (sym is)

  -- it is less deep than the list
  pub member_less : 4 * depth (view x) < 4 * items_depth (items_view vs) + 1
  member_less =
      let low : depth (view x) ≤ items_depth (items_view vs) =
      subst (λ y. depth (view y) ≤ items_depth (items_view vs)) (sym is) (at_depth vs at x lt) in
      omega (arith, low)

  module _ (list : List ℕ) (before : items_fault list at (items_view (drop at vs)) ≡ items_fault list 0 (items_view vs))
    where
      -- behind members without a fault, its fault is that of all
      pub told_at : (fault : ConstraintFault) → Means (list ++ index at) (fault_at (list ++ index at) (view x)) fault →
          Means (list ++ index at) (items_fault list 0 (items_view vs)) fault
      told_at fault told =
          let inner = fault_at (list ++ index at) (view x) in
          let later = items_fault list (at + 1) (items_view (drop (at + 1) vs)) in
          means_same (list ++ index at) (option_or inner later) (items_fault list 0 (items_view vs)) fault
          (ap (λ ys. items_fault list at (items_view ys)) (sym rest_here) ∙ before)
          (first_means (list ++ index at) inner later fault told)

      -- where it has none either, that of those behind it is
      pub none_at : fault_at (list ++ index at) (view x) ≡ None →
          items_fault list (at + 1) (items_view (drop (at + 1) vs)) ≡ items_fault list 0 (items_view vs)
      none_at none =
          sym (later_is (fault_at (list ++ index at) (view x))
          (items_fault list (at + 1) (items_view (drop (at + 1) vs)))
          none) ∙ (ap (λ ys. items_fault list at (items_view ys)) (sym rest_here) ∙ before)
