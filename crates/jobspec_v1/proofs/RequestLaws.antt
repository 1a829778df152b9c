-- Lists of request vertices: what is read of them is a request, and one step of the reading.
use Rattle.std.proofs.Common.{◌≡◌, ◌≢◌, refl, sym, ◌∙◌, ap, subst, ℕ, ◌+◌, ◌≤◌, ◌&&◌, ◌||◌, Bool}
use Rattle.std.proofs.Common.{true, false, Option, List, [], ◌∷◌, ◌++◌, Ok, Err, Result, append_assoc, ◌⊎◌, inl}
use Rattle.std.proofs.Common.{inr}
use Rattle.std.specs.Result.{result_map_both}
use Rattle.flux_defs.specs.declared.limits.TheConstants.{GREATEST_NUMBER}
use denote.Hole
use Rattle.serde_json.specs.Data.{Data, Items, item}
use Rattle.json_fields.specs.Values.{result_and_then}
use Rattle.json_fields.specs.Paths.{index}
use Rattle.need_shape.specs.declared.raw.RawNeed.{RawNeed, Row_of-RawNeed, end_of-RawNeed, more_of-RawNeed}
use Rattle.need_shape.specs.declared.raw.RawNeed.{roll-RawNeed, items-the_row-RawNeed, items_hidden-the_row-RawNeed-0}
use Rattle.need_shape.specs.declared.raw.RawNeed.TheBlock.{hidden-the_row-RawNeed-0}
use Rattle.need_shape.specs.Requests.{is_slot, IsSomeRow, IsRequest, AreRequestsRow, AreRequests}
use Rattle.jobspec_v1.specs.declared.faults.SpecFault.{SpecFault}
use Rattle.jobspec_v1.specs.declared.faults.SpecFault.TheVariants.{NotJson, Field, Version, Form, Label, Task, Shape}
use Rattle.jobspec_v1.specs.declared.faults.SpecFault.TheVariants.{Constraint, NotInProfile, Memory}
use Rattle.jobspec_v1.specs.declared.headers.VertexKey.{VertexKey}
use Rattle.jobspec_v1.specs.declared.headers.VertexKey.TheVariants as key
use Rattle.jobspec_v1.specs.declared.headers.KeyFault.{KeyFault}
use Rattle.jobspec_v1.specs.declared.headers.KeyFault.TheVariants as of_key
use Rattle.jobspec_v1.specs.Faults.{IsFirstFault, IsFirstBehind, KeyMisfit, told_behind, fault_at, at_vertex}
use Rattle.jobspec_v1.specs.Faults.{vertex_path, key_path}
use Rattle.jobspec_v1.specs.Requests.{Said, Reading, said_by, need_of, labels_with, around, behind, inner_of}
use Rattle.jobspec_v1.specs.Requests.{requests_of, request_of}
use Rattle.jobspec_v1.specs.declared.requests.Requested.{Requested}
use Rattle.jobspec_v1.proofs.SaidLaws.{said_is}
use Rattle.json_fields.proofs.Results.{then_ok, both_ok}

-- ---- they are a request

rows : {m : _} (s : Bool) (row : Row_of-RawNeed m) → AreRequestsRow s row ≡ AreRequests s (items-the_row-RawNeed _ row)
rows s end_of-RawNeed = refl
rows s (more_of-RawNeed raw rest) = ap (λ T. IsRequest s raw × T) (rows s rest)

some_row : {m : _} (row : Row_of-RawNeed m) → items-the_row-RawNeed _ row ≢ [] → IsSomeRow row
some_row end_of-RawNeed some = absurd (some refl)
some_row (more_of-RawNeed raw rest) some = tt

-- a request vertex within its bounds, over a request
pub made : (s : Bool) (kind : List ℕ) (count : ℕ) (exclusive : Option Bool) (needs : List RawNeed) →
    (1 ≤ count) × (count ≤ GREATEST_NUMBER) →
    (is_slot kind && s) ≡ false → (is_slot kind ≡ true → needs ≢ []) → AreRequests (is_slot kind || s) needs →
    IsRequest s (roll-RawNeed (record { kind = kind; count = count; exclusive = exclusive; with = needs }))
unfolding roll-RawNeed denote.Hole.Carrier.roll
made s kind count exclusive needs bounds slot some requests =
    let row = hidden-the_row-RawNeed-0 needs in
    let list = items_hidden-the_row-RawNeed-0 needs in (
      bounds.0,
      bounds.1,
      λ is. (not_in s (is_slot kind) is slot, some_row row (λ none. some is (sym list ∙ none))),
      subst (λ T. T) (sym (rows (is_slot kind || s) row ∙ ap (AreRequests (is_slot kind || s)) list)) requests,
    )
  where
    not_in : (s b : Bool) → b ≡ true → (b && s) ≡ false → s ≡ false
    not_in true true is both = both
    not_in false b is both = refl
    not_in true false is both = absurd (cc)

-- one more at the end
pub pushed : (s : Bool) (needs : List RawNeed) (need : RawNeed) →
    AreRequests s needs → AreRequests s (need ∷ []) → AreRequests s (needs ++ need ∷ [])
pushed s [] need all one = one
pushed s (x ∷ xs) need all one = (all.0, pushed s xs need all.1 one)

-- ---- the reading, step by step

-- one request vertex has one need
pub one_is : (d : Data) (s : Bool) (list : List ℕ) (at : ℕ) (labels : List (List ℕ)) (r : Requested) →
    request_of d s list at labels ≡ Ok r → (need : RawNeed) × (r.needs ≡ need ∷ [])
one_is d s list at labels r h =
    let a = then_ok (at_vertex list at (said_by s labels d)) _ r h in
    let b = both_ok _ _
    (inner_of d (is_slot a.0.kind || s) (vertex_path list at key.With) 0 (labels_with labels a.0.label)) r a.2 in
    (need_of a.0 b.0.needs, sym (ap (λ (t : Requested). t.needs) b.2))

-- something is read of a list with something
pub some_read : (d : Data) (ds : Items) (s : Bool) (list : List ℕ) (at : ℕ) (labels : List (List ℕ)) (r : Requested) →
    requests_of (item d ds) s list at labels ≡ Ok r → r.needs ≢ []
some_read d ds s list at labels r h none =
    let a = then_ok (request_of d s list at labels) _ r h in
    let one = one_is d s list at labels a.0 a.1 in
    let b = both_ok _ _ (requests_of ds s list (at + 1) a.0.labels) r a.2 in
    let same : a.0.needs ++ b.0.needs ≡ r.needs = ap (λ (t : Requested). t.needs) b.2 in
    let front : one.0 ∷ b.0.needs ≡ [] = ap (λ (ns : List RawNeed). ns ++ b.0.needs) (sym one.1) ∙ (same ∙ none) in
    cc

-- where the first of a list is read, the others follow
first_read : (d : Data) (ds : Items) (s : Bool) (list : List ℕ) (at : ℕ) (labels : List (List ℕ)) (r : Requested) →
    request_of d s list at labels ≡ Ok r →
    requests_of (item d ds) s list at labels
    ≡ result_map_both (behind r.needs) (λ fault. fault) (requests_of ds s list (at + 1) r.labels)
first_read d ds s list at labels r h = ap (λ t. result_and_then t
    (λ (a : Requested). result_map_both (behind a.needs) (λ fault. fault) (requests_of ds s list (at + 1) a.labels))) h

behind_both : (needs more : List RawNeed) (rest : Result Requested SpecFault) →
    result_map_both (behind (needs ++ more)) (λ f. f) rest
    ≡ result_map_both (behind needs) (λ f. f) (result_map_both (behind more) (λ f. f) rest)
behind_both needs more (Ok b) =
    ap (λ ns. Ok (record { needs = ns; labels = b.labels })) (append_assoc needs more b.needs)
behind_both needs more (Err e) = refl

-- with these read before
pub next_read : (needs : List RawNeed) (d : Data) (ds : Items) (s : Bool)
    (list : List ℕ) (at : ℕ) (labels : List (List ℕ)) (r : Requested) → request_of d s list at labels ≡ Ok r →
    result_map_both (behind (needs ++ r.needs)) (λ f. f) (requests_of ds s list (at + 1) r.labels)
    ≡ result_map_both (behind needs) (λ f. f) (requests_of (item d ds) s list at labels)
next_read needs d ds s list at labels r h =
    behind_both needs r.needs (requests_of ds s list (at + 1) r.labels)
    ∙ ap (result_map_both (behind needs) (λ f. f)) (sym (first_read d ds s list at labels r h))

-- ---- one request vertex

module _ (d : Data) (s : Bool) (list : List ℕ) (at : ℕ) (labels : List (List ℕ))
    (said : Said) (says : said_by s labels d ≡ Ok said) (inner : inner_of d ≡ requests_of said.with) where
  one_by : request_of d s list at labels ≡ result_map_both (around said) (λ fault. fault)
      (requests_of said.with (is_slot said.kind || s) (vertex_path list at key.With) 0 (labels_with labels said.label))
  one_by =
      ap (λ t. result_and_then (at_vertex list at t) (λ (x : Said). result_map_both (around x) (λ fault. fault)
      (inner_of d (is_slot x.kind || s) (vertex_path list at key.With) 0 (labels_with labels x.label)))) says
      ∙ ap (λ (g : Reading). result_map_both (around said) (λ fault. fault)
      (g (is_slot said.kind || s) (vertex_path list at key.With) 0 (labels_with labels said.label))) inner

  pub one_read : (r : Requested) → requests_of said.with (is_slot said.kind || s) (vertex_path list at key.With) 0
      (labels_with labels said.label) ≡ Ok r → request_of d s list at labels ≡ Ok (around said r)
  one_read r h = one_by ∙ ap (result_map_both (around said) (λ fault. fault)) h

  pub one_told : (fault : SpecFault) →
      IsFirstFault (requests_of said.with (is_slot said.kind || s) (vertex_path list at key.With) 0
      (labels_with labels said.label)) fault →
      IsFirstFault (request_of d s list at labels) fault
  one_told fault (inl memory) = inl memory
  one_told fault (inr told) = inr (one_by ∙ ap (result_map_both (around said) (λ fault. fault)) told)

-- ---- faults, told from the list on

-- a front of a path, and another one before it
behind_twice : (a b : List ℕ) (fault : SpecFault) → told_behind a (told_behind b fault) ≡ told_behind (a ++ b) fault
behind_twice a b NotJson = refl
behind_twice a b (Field path f) = ap (λ p. Field p f) (sym (append_assoc a b path))
behind_twice a b Version = refl
behind_twice a b Form = refl
behind_twice a b (Label path) = ap Label (sym (append_assoc a b path))
behind_twice a b (Task path) = refl
behind_twice a b (Shape f) = refl
behind_twice a b (Constraint path) = refl
behind_twice a b (NotInProfile path) = ap NotInProfile (sym (append_assoc a b path))
behind_twice a b Memory = refl

-- a path behind a list's is the list's path with it
behind_front : (list front rest : List ℕ) → list ++ ([] ++ front ++ rest) ≡ list ++ front ++ rest
behind_front list front rest = sym (append_assoc list front rest)

key_behind : (list : List ℕ) (at : ℕ) (k : VertexKey) (f : KeyFault) →
    told_behind list (fault_at (vertex_path [] at k) f) ≡ fault_at (vertex_path list at k) f
key_behind list at k (of_key.Field f) = ap (λ p. Field p f) (behind_front list (index at) (key_path k))
key_behind list at k of_key.Label = ap Label (behind_front list (index at) (key_path k))
key_behind list at k of_key.NotInProfile = ap NotInProfile (behind_front list (index at) (key_path k))

-- the fault of a key
pub key_told : (d : Data) (s : Bool) (at : ℕ) (labels : List (List ℕ)) (misfit : KeyMisfit) →
    said_by s labels d ≡ Err misfit → (fault : SpecFault) →
    ((fault ≡ Memory) ⊎ (fault ≡ fault_at (vertex_path [] at misfit.field) misfit.fault)) →
    IsFirstBehind (λ list. request_of d s list at labels) fault
key_told d s at labels misfit says fault (inl memory) list = inl (ap (told_behind list) memory)
key_told d s at labels misfit says fault (inr is) list =
    inr (ap (λ t. result_and_then (at_vertex list at t) (λ (x : Said). result_map_both (around x) (λ fault. fault)
    (inner_of d (is_slot x.kind || s) (vertex_path list at key.With) 0 (labels_with labels x.label)))) says
    ∙ ap Err (sym (ap (told_behind list) is ∙ key_behind list at misfit.field misfit.fault)))

-- that of a list in a request vertex
pub inner_told : (d : Data) (s : Bool) (at : ℕ) (labels : List (List ℕ)) (said : Said) → said_by s labels d ≡ Ok said →
    inner_of d ≡ requests_of said.with → (inner fault : SpecFault) →
    IsFirstBehind (λ list.
    requests_of said.with (is_slot said.kind || s) list 0 (labels_with labels said.label)) inner →
    ((fault ≡ Memory) ⊎ (fault ≡ told_behind (vertex_path [] at key.With) inner)) →
    IsFirstBehind (λ list. request_of d s list at labels) fault
inner_told d s at labels said says of inner fault told (inl memory) list = inl (ap (told_behind list) memory)
inner_told d s at labels said says of inner fault told (inr is) list =
    let front : list ++ vertex_path [] at key.With ≡ vertex_path list at key.With =
    behind_front list (index at) (key_path key.With) in
    subst (IsFirstFault (request_of d s list at labels))
    (sym (ap (told_behind list) is ∙ (behind_twice list (vertex_path [] at key.With) inner
    ∙ ap (λ p. told_behind p inner) front)))
    (one_told d s list at labels said says of (told_behind (vertex_path list at key.With) inner)
    (told (vertex_path list at key.With)))

-- that of a member, with these read before
pub member_told : (needs : List RawNeed) (d : Data) (ds : Items) (s : Bool) (at : ℕ) (labels : List (List ℕ))
    (fault : SpecFault) → IsFirstBehind (λ list. request_of d s list at labels) fault →
    IsFirstBehind (λ list. result_map_both (behind needs) (λ f. f) (requests_of (item d ds) s list at labels)) fault
member_told needs d ds s at labels fault told list = elim (told list) [
  | inl memory ↦ inl memory
  | inr is ↦ inr (ap (λ t. result_map_both (behind needs) (λ f. f) (result_and_then t (λ (a : Requested).
      result_map_both (behind a.needs) (λ fault. fault) (requests_of ds s list (at + 1) a.labels)))) is)
]

-- what is told from a list on, told from where the list's path begins
pub told_with : {A : Type 0} (meant : List ℕ → Result A SpecFault) (front : List ℕ) (inner fault : SpecFault) →
    IsFirstBehind meant inner → ((fault ≡ Memory) ⊎ (fault ≡ told_behind front inner)) →
    IsFirstFault (meant front) fault
told_with meant front inner fault told (inl memory) = inl memory
told_with meant front inner fault told (inr is) = subst (IsFirstFault (meant front)) (sym is) (told front)

-- ---- a request vertex that was read is a request

pub is_request : (s : Bool) (labels : List (List ℕ)) (d : Data) (said : Said) →
    said_by s labels d ≡ Ok said → (list : List ℕ) (after : List (List ℕ)) (r : Requested) →
    requests_of said.with (is_slot said.kind || s) list 0 after ≡ Ok r →
    AreRequests (is_slot said.kind || s) r.needs → AreRequests s (need_of said r.needs ∷ [])
is_request s labels d said says list after r read inner =
    let facts = said_is s labels d said says in
    let some : is_slot said.kind ≡ true → r.needs ≢ [] = λ slot.
    let with = facts.some slot in
    some_read with.0 with.1 (is_slot said.kind || s) list 0 after r
    (ap (λ ds. requests_of ds (is_slot said.kind || s) list 0 after) (sym with.2) ∙ read) in
    (made s said.kind said.count said.exclusive r.needs facts.count facts.slot some inner, tt)
