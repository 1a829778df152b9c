-- Fronts of bytes that grow piece by piece.
use Rattle.std.proofs.lemmas.List.{take_rest, drop-drop}
use Rattle.std.proofs.Common.{◌≡◌, ◌≤◌, ℕ, ◌+◌, ◌-◌, List, [], ◌++◌, length, take, drop, Option, Some, None, IfSome}
use Rattle.std.proofs.Common.{Result, IsOk, sym, ap, ◌∙◌, subst, arith, append_assoc, length-append, length-take-le}
use Rattle.std.proofs.Common.{take-append-drop}
use Rattle.flux_io.specs.Streams.{IsRoomAfter}

-- the piece is at the end of the front, and what is behind it is the new rest
pub front_grows : (all front rest : List ℕ) (n : ℕ) →
    all ≡ front ++ rest → all ≡ (front ++ take n rest) ++ take (length rest - n) (drop n rest)
front_grows all front rest n whole =
    whole ∙ ap (λ l. front ++ l) (sym (take-append-drop n rest)) ∙ sym (append_assoc front (take n rest) (drop n rest))
    ∙ ap (λ l. (front ++ take n rest) ++ l) (sym (take_rest rest n))

-- a room that fell by the front falls by the piece too
pub room_falls : (before mid now : Option ℕ) (front rest : List ℕ) (n : ℕ) → n ≤ length rest
    → IfSome before (λ room. mid ≡ Some (room - length front)) → IfSome mid (λ room. now ≡ Some (room - n))
    → IfSome before (λ room. now ≡ Some (room - length (front ++ take n rest)))
room_falls None mid now front rest n within fell falls = tt
room_falls (Some room) mid now front rest n within fell falls =
    let further : now ≡ Some ((room - length front) - n) = subst (λ o. IfSome o (λ r. now ≡ Some (r - n))) fell falls in
    let both : (room - length front) - n ≡ room - length (front ++ take n rest) =
    omega (arith, length-append front (take n rest), length-take-le n rest within) in
    further ∙ ap Some both

-- what fits the room had no fault so far, so neither has the piece
pub still_fits : {E : Type 0} (before mid now : Option ℕ) (r : Result ℕ E) (f0 f1 f2 : ℕ) (all front rest : List ℕ) →
    all ≡ front ++ rest
    → IfSome before (λ room. mid ≡ Some (room - length front)) → IfSome before (λ room. length all ≤ room → f1 ≡ f0)
    → IsRoomAfter mid now f1 f2 r rest → IfSome before (λ room. length all ≤ room → f2 ≡ f0)
still_fits None mid now r f0 f1 f2 all front rest whole fell none kept = tt
still_fits {E} (Some room) mid now r f0 f1 f2 all front rest whole fell none kept = λ fits.
    let size : length all ≡ length front + length rest = ap length whole ∙ length-append front rest in
    let quiet : length rest ≤ room - length front → IsOk r × (f2 ≡ f1) =
    subst (λ o. IfSome o (λ b. length rest ≤ b → IsOk r × (f2 ≡ f1))) fell kept.fits in
    (quiet (omega arith)).1 ∙ none fits

-- a piece that was copied from a place on is what stands there, and the rest is behind it
pub piece_at : (left whole bytes into : List ℕ) (at n : ℕ) → left ≡ drop at bytes → whole ≡ bytes
    → take n into ≡ take n (take (length whole - at) (drop at whole)) → left ≡ take n into ++ drop (at + n) bytes
piece_at left whole bytes into at n from same copied =
    let rest : take (length whole - at) (drop at whole) ≡ drop at bytes = take_rest whole at ∙ ap (drop at) same in
    from ∙ sym (take-append-drop n (drop at bytes))
    ∙ ap (λ l. l ++ drop n (drop at bytes)) (sym (copied ∙ ap (take n) rest))
    ∙ ap (λ l. take n into ++ l) (drop-drop n at bytes)

-- where nothing stands from a place on, nothing stands behind an empty piece
pub nothing_at : (whole bytes : List ℕ) (at n : ℕ) →
    n ≡ 0 → whole ≡ bytes → take (length whole - at) (drop at whole) ≡ [] → drop (at + n) bytes ≡ []
nothing_at whole bytes at n none same empty =
    let here : at + n ≡ at = omega arith in
    ap (λ i. drop i bytes) here ∙ ap (drop at) (sym same) ∙ sym (take_rest whole at) ∙ empty
