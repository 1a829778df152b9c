-- How many steps a walk over entries takes.
use Rattle.std.proofs.Common.{◌≡◌, ℕ, ◌+◌, ◌-◌, ◌*◌, ◌≤◌, ap, arith}
use Rattle.std.proofs.Math.Nat.{mul-le-mul_right}

one_time : (d x : ℕ) → (d + 1) * x ≡ d * x + x
one_time d x = grind arith

-- a look at the entries before this one, and at this one
pub scan_next : (place at each old mid new : ℕ) →
    place ≤ at → mid ≤ old + (at - place) * each → new ≤ mid + each → new ≤ old + (at + 1 - place) * each
scan_next place at each old mid new low so_far one =
    let e : at + 1 - place ≡ (at - place) + 1 = omega (arith, low) in
    let more = ap (λ (k : ℕ). k * each) e in
    let parts = one_time (at - place) each in
    omega (arith, so_far, one, more, parts)

-- no more entries than there are
pub scan_ends : (place at len each old new : ℕ) →
    at - place ≤ len - place → new ≤ old + (at - place) * each → new ≤ old + (len - place) * each
scan_ends place at len each old new within so_far =
    let le = mul-le-mul_right each within in
    omega (arith, so_far, le)
