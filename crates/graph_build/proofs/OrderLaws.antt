-- Which keys their orders call equal.
use Rattle.std.proofs.Common.{◌≡◌, ℕ, List, refl, sym, ◌∙◌, ap}
use Rattle.std.specs.Ordering.{ordering_then, nat_cmp}
use Rattle.std.specs.Cmp.{Equal-is, nat_cmp_total, tied_itself}
use Rattle.std.specs.Cmp.Lexicographic.{slice_cmp}
use Rattle.std.proofs.lemmas.Map.Lookups.{exact_unsigned}
use Rattle.std.proofs.lemmas.Map.Text.{is_eq-slice_cmp}
use Rattle.std.proofs.lemmas.Slice.Eq.{bytes_eq-Decides}
use Rattle.std.specs.declared.cmp.Ordering.{Ordering}
use Rattle.std.specs.declared.cmp.Ordering.TheVariants.{Less, Equal, Greater}
use Rattle.graph_build.specs.declared.doubles.DeviceKey.{DeviceKey}
use Rattle.graph_build.specs.declared.doubles.SiblingKey.{SiblingKey}
use Rattle.graph_build.specs.contracts.doubles.DeviceKeyOrd.TheImpl as device
use Rattle.graph_build.specs.contracts.doubles.SiblingKeyOrd.TheImpl as sibling

then_equal : (a b : Ordering) → ordering_then a b ≡ Equal → (a ≡ Equal) × (b ≡ Equal)
then_equal Less b e = absurd (cc)
then_equal Equal b e = (refl, e)
then_equal Greater b e = absurd (cc)

pub same_number : (a b : ℕ) → nat_cmp a b ≡ Equal → a ≡ b
same_number a b e = exact_unsigned a b e

pub itself_number : (a : ℕ) → nat_cmp a a ≡ Equal
itself_number a = tied_itself nat_cmp_total a

pub same_text : (a b : List ℕ) → slice_cmp nat_cmp a b ≡ Equal → a ≡ b
same_text a b e = (bytes_eq-Decides a b).0 (sym (is_eq-slice_cmp a b) ∙ (Equal-is (slice_cmp nat_cmp a b)).1 e)

pub itself_text : (a b : List ℕ) → a ≡ b → slice_cmp nat_cmp a b ≡ Equal
itself_text a b e = (Equal-is (slice_cmp nat_cmp a b)).0 (is_eq-slice_cmp a b ∙ (bytes_eq-Decides a b).1 e)

pub same_device : (a b : DeviceKey) → device.cmp-value.it a b ≡ Equal → (a.node ≡ b.node) × (a.kind ≡ b.kind)
    × (a.id ≡ b.id)
same_device a b e =
    let parts = then_equal (nat_cmp a.node b.node) (ordering_then (nat_cmp a.kind b.kind) (nat_cmp a.id b.id)) e in
    let rest = then_equal (nat_cmp a.kind b.kind) (nat_cmp a.id b.id) parts.1 in
    (same_number a.node b.node parts.0, same_number a.kind b.kind rest.0, same_number a.id b.id rest.1)

equal_then : (a b : Ordering) → a ≡ Equal → b ≡ Equal → ordering_then a b ≡ Equal
equal_then a b e f = ap (λ o. ordering_then o b) e ∙ f

equal_number : (a b : ℕ) → a ≡ b → nat_cmp a b ≡ Equal
equal_number a b e = ap (nat_cmp a) (sym e) ∙ itself_number a

pub itself_device : (a b : DeviceKey) → a.node ≡ b.node → a.kind ≡ b.kind → a.id ≡ b.id →
    device.cmp-value.it a b ≡ Equal
itself_device a b node kind id =
    equal_then (nat_cmp a.node b.node) (ordering_then (nat_cmp a.kind b.kind) (nat_cmp a.id b.id))
    (equal_number a.node b.node node)
    (equal_then (nat_cmp a.kind b.kind) (nat_cmp a.id b.id) (equal_number a.kind b.kind kind)
    (equal_number a.id b.id id))

pub same_sibling : (a b : SiblingKey) → sibling.cmp-value.it a b ≡ Equal → (a.parent ≡ b.parent)
    × (a.name.now ≡ b.name.now)
same_sibling a b e =
    let parts = then_equal (nat_cmp a.parent b.parent) (slice_cmp nat_cmp a.name.now b.name.now) e in
    (same_number a.parent b.parent parts.0, same_text a.name.now b.name.now parts.1)

pub itself_sibling : (a b : SiblingKey) → a.parent ≡ b.parent → a.name.now ≡ b.name.now →
    sibling.cmp-value.it a b ≡ Equal
itself_sibling a b parent name =
    equal_then (nat_cmp a.parent b.parent) (slice_cmp nat_cmp a.name.now b.name.now)
    (equal_number a.parent b.parent parent) (itself_text a.name.now b.name.now name)
