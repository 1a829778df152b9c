-- `List` may hold the type that holds it, as a need holds a list of needs: how its parts map along with it.
use mathlib.Core.Path.{◌≡◌, refl, sym}
use mathlib.Core.List.{List, []}
use mathlib.Core.Former.{Former, this, list, via, children}
use base.Stored.{code_map}
use denote.RattleType.{RattleType}
use denote.HoleLaws.{Alike}
use denote.HolePlaces.{Recodes, struct_places, laid}
use denote.Hole.Carrier.{listed, list-listed}
use denote.Hole.Fix.{over}
use denote.Param.Weighed.{Weighed, w_list}
use denote.Model.Placed.{view_places}
use Rattle.std.specs.formers.vec.Vec as vec
use Rattle.std.specs.declared.alloc.Global.{Global}
use Rattle.std.specs.contracts.alloc.Global as heap
use Rattle.std.specs.contracts.impls.GlobalAllocator.TheImpl.{ghosts}
use Rattle.flux_defs.specs.declared.lists.List.TheInside.{Inside}
use Rattle.flux_defs.specs.declared.lists.List.TheView.{view, invariant}
use Rattle.flux_defs.specs.contracts.lists.List as seen
use Rattle.flux_defs.specs.contracts.lists.List.TheInside as inside

-- as contracts see it: a list of what it holds
abbrev pub the_former : Former {0} → Former {0}
the_former item = list item

abbrev pub the_weighed : {item : Former {0}} → Weighed item → Weighed (the_former item)
the_weighed weighed = w_list weighed

pub the_empty : List ⊥
the_empty = []

abbrev pub the_items : (X : Type 0) → List X → List X
the_items X xs = xs

pub the_items_listed : (X : Type 0) (xs : List X) → listed _ (children (the_former this) X xs) ≡ the_items X xs
the_items_listed X xs = list-listed X xs

-- as the code has it: a `Vec` in its one field
abbrev fields : Former {0}
fields =
    via (vec.the_former this Global) Inside (λ X it. it.held) (λ X v. record { held = v }) (λ X it. refl) (λ X v. refl)

module _ (R S : RattleType) (along : R.Denot → S.Denot) where
  pub the_places : Alike R S along →
      Alike (seen.the_row R) (seen.the_row S) ((the_former this).map R.Denot S.Denot along)
  the_places alike = view_places fields (list this) view
      (λ X Y k u. refl) (λ X u. refl) R.Denot S.Denot along (seen.the_row R).coded (seen.the_row S).coded
      (invariant R.Denot) (invariant S.Denot) (λ u p q. refl) (λ u p q. refl) (λ u e. tt) (λ u e. tt)
      (over (inside.the_row R)) (over (inside.the_row S))
      (struct_places (inside.the_type R) (inside.the_type S) (vec.mapped along, tt) _
      (λ d. refl) refl (laid _ _ _ (vec.the_places heap.the_row ghosts R S along alike), tt))

  pub the_codes_placed : Recodes R S along →
      Recodes (seen.the_row R) (seen.the_row S) ((the_former this).map R.Denot S.Denot along)
  the_codes_placed recodes xs = sym (code_map R.coded.code S.coded.code along (λ x. sym (recodes x)) xs)
