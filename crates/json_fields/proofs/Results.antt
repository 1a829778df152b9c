-- Results: what stands behind one that is Ok.
use Rattle.std.proofs.Common.{◌≡◌, refl, ap, Result, Ok, Err, true, false, Bool, if◌then◌else◌}
use Rattle.std.specs.Result.{result_map_both}
use Rattle.json_fields.specs.Values.{result_and_then}

abbrev ok_or : {A E : Type 0} → A → Result A E → A
ok_or z (Ok x) = x
ok_or z (Err e) = z

pub ok_is : {A E : Type 0} (x y : A) → (let r : Result A E = Ok x in r ≡ Ok y) → x ≡ y
ok_is x y e = ap (ok_or x) e

pub no_ok : {A E : Type 0} (e : E) (y : A) → Err e ≡ Ok y → ⊥
no_ok e y h = cc

pub then_ok : {A B E : Type 0} (r : Result A E) (f : A → Result B E) (y : B) → result_and_then r f ≡ Ok y → (x : A)
    × (r ≡ Ok x) × (f x ≡ Ok y)
then_ok (Ok x) f y h = (x, refl, h)
then_ok (Err e) f y h = absurd (no_ok e y h)

pub both_ok : {A B E D : Type 0} (f : A → B) (g : E → D) (r : Result A E) (y : B) → result_map_both f g r ≡ Ok y →
    (x : A) × (r ≡ Ok x) × (f x ≡ y)
both_ok f g (Ok x) y h = (x, refl, ok_is (f x) y h)
both_ok f g (Err e) y h = absurd (no_ok (g e) y h)

-- a fault in its place, or the value
pub same_ok : {A E D : Type 0} (g : E → D) (r : Result A E) (y : A) → result_map_both (λ x. x) g r ≡ Ok y → r ≡ Ok y
same_ok g (Ok x) y h = ap Ok (ok_is x y h)
same_ok g (Err e) y h = absurd (no_ok (g e) y h)

-- what is Ok where a test is the other way round isn't wrong
pub else_ok : {A E : Type 0} (b : Bool) (e : E) (r : Result A E) (y : A) → (if b then Err e else r) ≡ Ok y → (b ≡ false)
    × (r ≡ Ok y)
else_ok true e r y h = absurd (no_ok e y h)
else_ok false e r y h = (refl, h)
