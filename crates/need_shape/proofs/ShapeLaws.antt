-- What a request vertex becomes, and its first fault, case by case.
use Rattle.std.proofs.Common.{◌≡◌, inl, inr, ℕ, Bool, true, false, List, Option, None, Result, Ok, Err, IfErr}
use Rattle.std.proofs.Common.{unwrap_or, if◌then◌else◌, sym, ◌∙◌, ap, subst}
use Rattle.std.specs.Option.{option_or}
use Rattle.flux_defs.specs.declared.requests.Need.{Need, Vert, Pool}
use Rattle.need_shape.specs.declared.raw.RawNeed.{RawNeed, out-RawNeed}
use Rattle.need_shape.specs.declared.raw.ShapeFault.{ShapeFault}
use Rattle.need_shape.specs.declared.shaping.Within.{Within}
use Rattle.need_shape.specs.Types.{Types, number_of}
use Rattle.need_shape.specs.Shapes.{in_type, needs_in, type_need_in}
use Rattle.need_shape.specs.Faults.{IsFirstFault, is_pool_type, is_some_list, pool_fault, list_fault, type_fault_in}

on_errors : {T : Type 0} (P Q : ShapeFault → Type 0) (r : Result T ShapeFault) →
    ((f : ShapeFault) → P f → Q f) → IfErr r P → IfErr r Q
on_errors P Q (Ok value) more h = tt
on_errors P Q (Err fault) more h = more fault h

tells_first : (a b : Option ShapeFault) (f : ShapeFault) → IsFirstFault a f → IsFirstFault (option_or a b) f
tells_first a b f (inl memory) = inl memory
tells_first a b f (inr is) = inr (ap (λ o. option_or o b) is)

-- a fault of a pool type is the type's first
pub pool_told : {T : Type 0} (types : Types) (within : Within) (raw : RawNeed) (r : Result T ShapeFault) →
    is_pool_type types (out-RawNeed raw).kind ≡ true →
    IfErr r (IsFirstFault (pool_fault (out-RawNeed raw).kind (out-RawNeed raw).exclusive
    (is_some_list (out-RawNeed raw).with))) → IfErr r (IsFirstFault (type_fault_in types within raw))
pool_told types within raw r pool told =
    let fault = pool_fault (out-RawNeed raw).kind (out-RawNeed raw).exclusive (is_some_list (out-RawNeed raw).with) in
    let list = list_fault types (in_type types within (out-RawNeed raw).kind) (out-RawNeed raw).with in
    on_errors (IsFirstFault fault) (IsFirstFault (type_fault_in types within raw)) r
    (λ f h. subst (λ (b : Bool). IsFirstFault (option_or (if b then fault else None) list) f) (sym pool)
    (tells_first fault list f h)) told

-- the list's first fault is that of a type that is no pool type
pub vert_fault : (types : Types) (within : Within) (raw : RawNeed) → is_pool_type types (out-RawNeed raw).kind ≡ false →
    list_fault types (in_type types within (out-RawNeed raw).kind) (out-RawNeed raw).with
    ≡ type_fault_in types within raw
vert_fault types within raw pool =
    let fault = pool_fault (out-RawNeed raw).kind (out-RawNeed raw).exclusive (is_some_list (out-RawNeed raw).with) in
    let list = list_fault types (in_type types within (out-RawNeed raw).kind) (out-RawNeed raw).with in
    ap (λ b. option_or (if b then fault else None) list) (sym pool)

-- what is asked for of a type that is no pool type
pub vert_need : (types : Types) (within : Within) (raw : RawNeed) (kind : ℕ) (hold : Bool) (needs : List Need) →
    is_pool_type types (out-RawNeed raw).kind ≡ false →
    kind ≡ number_of types (out-RawNeed raw).kind → hold ≡ unwrap_or (out-RawNeed raw).exclusive within.slot →
    needs ≡ needs_in types (in_type types within (out-RawNeed raw).kind) (out-RawNeed raw).with →
    Vert kind (out-RawNeed raw).count hold needs ≡ type_need_in types within raw
vert_need types within raw kind hold needs pool kind-is hold-is needs-is =
    (λ i. Vert (kind-is i) (out-RawNeed raw).count (hold-is i) (needs-is i))
    ∙ ap (λ b. if b then Pool (number_of types (out-RawNeed raw).kind) (out-RawNeed raw).count
    else Vert (number_of types (out-RawNeed raw).kind) (out-RawNeed raw).count (unwrap_or (out-RawNeed raw).exclusive
    within.slot) (needs_in types (in_type types within (out-RawNeed raw).kind) (out-RawNeed raw).with)) (sym pool)
