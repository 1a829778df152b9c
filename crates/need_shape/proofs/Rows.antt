-- A row of request vertices is a list of them: each definition over rows agrees with its twin over lists.
use Rattle.std.proofs.Common.{◌≡◌, true, false, ◌||◌, [], ◌∷◌, ◌++◌, if◌then◌else◌, refl, sym, ◌∙◌, ap}
use Rattle.std.specs.List.{list_any}
use Rattle.std.specs.Option.{option_or}
use Rattle.need_shape.specs.declared.raw.RawNeed.{RawNeed, RawNeed', Row_of-RawNeed, end_of-RawNeed, more_of-RawNeed}
use Rattle.need_shape.specs.declared.raw.RawNeed.{out-RawNeed, items-the_row-RawNeed, items_shown-the_row-RawNeed-0}
use denote.Hole
use Rattle.need_shape.specs.declared.shaping.Within.{Within}
use Rattle.need_shape.specs.Requests.{is_slot, types_of, types_row, types_in}
use Rattle.need_shape.specs.Types.{Types, is_upper}
use Rattle.need_shape.specs.Shapes.{in_slot, in_type, slot_needs, type_need, needs_of, needs_row, needs_in}
use Rattle.need_shape.specs.Shapes.{slot_needs_in, type_need_in}
use Rattle.need_shape.specs.Faults.{slot_fault, type_fault, is_some_row, is_some_list, fault_of, members_fault}
use Rattle.need_shape.specs.Faults.{members_fault_in, slot_fault_in, type_fault_in}

types_list : {m : _} (row : Row_of-RawNeed m) → types_row row ≡ types_in (items-the_row-RawNeed _ row)
types_list end_of-RawNeed = refl
types_list (more_of-RawNeed raw rest) = ap (λ ts. types_of raw ++ ts) (types_list rest)

needs_list : {m : _} (types : Types) (within : Within) (row : Row_of-RawNeed m) →
    needs_row types within row ≡ needs_in types within (items-the_row-RawNeed _ row)
needs_list types within end_of-RawNeed = refl
needs_list types within (more_of-RawNeed raw rest) =
    ap (λ ns. needs_of types within raw ++ ns) (needs_list types within rest)

members_list : {m : _} (types : Types) (within : Within) (row : Row_of-RawNeed m) →
    members_fault types within row ≡ members_fault_in types within (items-the_row-RawNeed _ row)
members_list types within end_of-RawNeed = refl
members_list types within (more_of-RawNeed raw rest) =
    ap (λ f. option_or (fault_of types within raw) f) (members_list types within rest)

some_list : {m : _} (row : Row_of-RawNeed m) → is_some_row row ≡ is_some_list (items-the_row-RawNeed _ row)
some_list end_of-RawNeed = refl
some_list (more_of-RawNeed raw rest) = refl

-- the types that a request vertex names, by the list of those in it
pub types_of_is : (raw : RawNeed) → types_of raw ≡ (if is_slot (out-RawNeed raw).kind
    then types_in (out-RawNeed raw).with else (out-RawNeed raw).kind ∷ types_in (out-RawNeed raw).with)
unfolding out-RawNeed denote.Hole.Carrier.out
types_of_is (RawNeed' kind count exclusive m row) =
    let list = types_list row ∙ ap types_in (sym (items_shown-the_row-RawNeed-0 m row)) in
    λ i. if is_slot kind then list i else kind ∷ list i

-- the needs that it becomes
pub needs_of_is : (types : Types) (within : Within) (raw : RawNeed) →
    needs_of types within raw ≡ (if is_slot (out-RawNeed raw).kind then slot_needs_in types within
    (out-RawNeed raw).count (out-RawNeed raw).with else type_need_in types within raw ∷ [])
unfolding out-RawNeed denote.Hole.Carrier.out
needs_of_is types within (RawNeed' kind count exclusive m row) =
    let shown = sym (items_shown-the_row-RawNeed-0 m row) in
    let list = types_list row ∙ ap types_in shown in
    let slot = needs_list types (in_slot within) row ∙ ap (needs_in types (in_slot within)) shown in
    let type = needs_list types (in_type types within kind) row
    ∙ ap (needs_in types (in_type types within kind)) shown in
    λ i. if is_slot kind then slot_needs (within.node || list_any (is_upper types) (list i)) count (slot i)
    else type_need types within kind count exclusive (type i) ∷ []

-- its first fault
pub fault_of_is : (types : Types) (within : Within) (raw : RawNeed) →
    fault_of types within raw ≡ (if is_slot (out-RawNeed raw).kind then slot_fault_in types within
    (out-RawNeed raw).count (out-RawNeed raw).with else type_fault_in types within raw)
unfolding out-RawNeed denote.Hole.Carrier.out
fault_of_is types within (RawNeed' kind count exclusive m row) =
    let shown = sym (items_shown-the_row-RawNeed-0 m row) in
    let list = types_list row ∙ ap types_in shown in
    let slot = needs_list types (in_slot within) row ∙ ap (needs_in types (in_slot within)) shown in
    let type = needs_list types (in_type types within kind) row
    ∙ ap (needs_in types (in_type types within kind)) shown in
    let in_slots = members_list types (in_slot within) row ∙ ap (members_fault_in types (in_slot within)) shown in
    let in_types = members_list types (in_type types within kind) row
    ∙ ap (members_fault_in types (in_type types within kind)) shown in
    let some = some_list row ∙ ap is_some_list shown in
    λ i. if is_slot kind
    then slot_fault types (within.node || list_any (is_upper types) (list i)) count (in_slots i) (slot i)
    else type_fault types kind exclusive (some i) (in_types i) (type i)

-- a slot and a type
pub types_of_slot : (raw : RawNeed) →
    is_slot (out-RawNeed raw).kind ≡ true → types_in (out-RawNeed raw).with ≡ types_of raw
types_of_slot raw slot = sym (types_of_is raw ∙ ap
    (λ b. if b then types_in (out-RawNeed raw).with else (out-RawNeed raw).kind ∷ types_in (out-RawNeed raw).with) slot)

pub types_of_type : (raw : RawNeed) →
    is_slot (out-RawNeed raw).kind ≡ false → (out-RawNeed raw).kind ∷ types_in (out-RawNeed raw).with ≡ types_of raw
types_of_type raw slot = sym (types_of_is raw ∙ ap
    (λ b. if b then types_in (out-RawNeed raw).with else (out-RawNeed raw).kind ∷ types_in (out-RawNeed raw).with) slot)

pub needs_of_slot : (types : Types) (within : Within) (raw : RawNeed) → is_slot (out-RawNeed raw).kind ≡ true →
    needs_of types within raw ≡ slot_needs_in types within (out-RawNeed raw).count (out-RawNeed raw).with
needs_of_slot types within raw slot = needs_of_is types within raw ∙ ap (λ b. if b then slot_needs_in types within
    (out-RawNeed raw).count (out-RawNeed raw).with else type_need_in types within raw ∷ []) slot

pub needs_of_type : (types : Types) (within : Within) (raw : RawNeed) →
    is_slot (out-RawNeed raw).kind ≡ false → needs_of types within raw ≡ type_need_in types within raw ∷ []
needs_of_type types within raw slot = needs_of_is types within raw ∙ ap (λ b. if b then slot_needs_in types within
    (out-RawNeed raw).count (out-RawNeed raw).with else type_need_in types within raw ∷ []) slot

pub fault_of_slot : (types : Types) (within : Within) (raw : RawNeed) → is_slot (out-RawNeed raw).kind ≡ true →
    fault_of types within raw ≡ slot_fault_in types within (out-RawNeed raw).count (out-RawNeed raw).with
fault_of_slot types within raw slot = fault_of_is types within raw ∙ ap (λ b. if b then slot_fault_in types within
    (out-RawNeed raw).count (out-RawNeed raw).with else type_fault_in types within raw) slot

pub fault_of_type : (types : Types) (within : Within) (raw : RawNeed) →
    is_slot (out-RawNeed raw).kind ≡ false → fault_of types within raw ≡ type_fault_in types within raw
fault_of_type types within raw slot = fault_of_is types within raw ∙ ap (λ b. if b then slot_fault_in types within
    (out-RawNeed raw).count (out-RawNeed raw).with else type_fault_in types within raw) slot
